-- The operator's commands that are read: no size of chunks is 0.
use Rattle.std.proofs.Common.{◌≡◌, ◌≤◌, ℕ, zero, suc, Bool, true, false, cond, List, [], ◌∷◌, ◌++◌, Option, Some, None, Ok, refl, subst}
use Rattle.std.specs.Prelude.{codes, option_to_list}
use Rattle.std.specs.List.{AllByRecursion, flat_map, repeat}
use Rattle.std.specs.Option.{option_map}
use Rattle.std.specs.Str.{bytes_eq}
use Rattle.std.specs.Str.Lines.{lines}
use Rattle.base_values.proofs.SchemaRules.Lists.{All-append}
use Rattle.base_values.proofs.SchemaRules.Steps.{bind_ok, ok_is}
use Rattle.base_script.specs.declared.operator.Command.{Command}
use Rattle.base_script.specs.declared.operator.OperatorWord.{OperatorWord}
use Rattle.base_script.specs.declared.operator.OperatorWord.TheVariants.{Throttle, NoThrottle, ChunkSize, Unpostpone, Panic}
use Rattle.plan_orders.specs.declared.fault.OrderRefusal.{OrderRefusal}
use Rattle.plan_orders.specs.declared.fault.OrderRefusal.TheVariants as refusals
use Rattle.plan_orders.specs.declared.operator.TheConstants.{CHUNK_SIZE_LIMIT, WAIT_LIMIT}
use Rattle.plan_orders.specs.Numbers.{number_up_to}
use Rattle.plan_orders.specs.Operators.{chunk_size_of, operator_word, once, waits, wait_of, command_of, line_command, next_line, commands_from, operator_of}
use Rattle.plan_orders.specs.Refusals.{or_refused}
use Rattle.plan_orders.specs.Words.{spaced_words, parts_at}
use Rattle.proof_journals.specs.Machine.FormedPlans.{SizeFits}
use Rattle.proof_plans.proofs.ReadPlans.Numbers.{number_some}

-- a command that fits
abbrev Fits : Option OperatorWord → Type 0
Fits None = Unit {0}
Fits (Some word) = SizeFits word

sized : (found : Option ℕ) → ((n : ℕ) → found ≡ Some n → 1 ≤ n) → Fits (option_map ChunkSize found)
sized None some = tt
sized (Some n) some = some n refl

chunk_fits : (parts : Option (List ℕ × List ℕ)) → Fits (chunk_size_of parts)
chunk_fits None = tt
chunk_fits (Some parts) = by (bytes_eq parts.0 (codes "chunk-size")) where
  by : (b : Bool) → Fits (cond b (option_map ChunkSize (number_up_to CHUNK_SIZE_LIMIT parts.1)) None)
  by true = sized (number_up_to CHUNK_SIZE_LIMIT parts.1) (number_some CHUNK_SIZE_LIMIT parts.1)
  by false = tt

either : (b : Bool) (one other : Option OperatorWord) → Fits one → Fits other → Fits (cond b one other)
either true one other is others = is
either false one other is others = others

word_fits : (word : List ℕ) → Fits (operator_word word)
unfolding operator_word
word_fits word =
    either (bytes_eq word (codes "throttle")) (Some Throttle) _ tt
    (either (bytes_eq word (codes "no-throttle")) (Some NoThrottle) _ tt
    (either (bytes_eq word (codes "unpostpone")) (Some Unpostpone) _ tt
    (either (bytes_eq word (codes "panic")) (Some Panic) (chunk_size_of (parts_at 61 word)) tt (chunk_fits (parts_at 61 word)))))

-- a command whose word fits
abbrev CommandFits : Option Command → Type 0
CommandFits None = Unit {0}
CommandFits (Some command) = SizeFits command.word

once_fits : (word : Option OperatorWord) → Fits word → CommandFits (option_map once word)
once_fits None fits = tt
once_fits (Some word) fits = fits

waits_fit : (number : Option ℕ) → CommandFits (option_map waits number)
waits_fit None = tt
waits_fit (Some number) = tt

wait_fits : (word number : List ℕ) → CommandFits (wait_of word number)
wait_fits word number = by (bytes_eq word (codes "wait")) where
  by : (b : Bool) → CommandFits (cond b (option_map waits (number_up_to WAIT_LIMIT number)) None)
  by true = waits_fit (number_up_to WAIT_LIMIT number)
  by false = tt

command_fits : (words : List (List ℕ)) → CommandFits (command_of words)
command_fits [] = tt
command_fits (word ∷ []) = once_fits (operator_word word) (word_fits word)
command_fits (word ∷ number ∷ []) = wait_fits word number
command_fits (word ∷ number ∷ other ∷ others) = tt

found_fits : (refusal : OrderRefusal) (found : Option Command) (command : Option Command) → CommandFits found → or_refused refusal (option_map Some found) ≡ Ok command → CommandFits command
found_fits refusal None command fits is = absurd cc
found_fits refusal (Some found) command fits is = subst CommandFits (ok_is {C = OrderRefusal} (Some found) command is) fits

line_fits : (line : ℕ) (words : List (List ℕ)) (command : Option Command) → line_command line words ≡ Ok command → CommandFits command
line_fits line [] command is = subst CommandFits (ok_is {C = OrderRefusal} None command is) tt
line_fits line (word ∷ words) command is = found_fits (refusals.Command line) (command_of (word ∷ words)) command (command_fits (word ∷ words)) is

one_fits : (command : Option Command) → CommandFits command → AllByRecursion (λ one. SizeFits one.word) (option_to_list command)
one_fits None fits = tt
one_fits (Some command) fits = (fits, tt)

commands_fit : (line : ℕ) (texts : List (List ℕ)) (commands : List Command) → commands_from line texts ≡ Ok commands → AllByRecursion (λ one. SizeFits one.word) commands
unfolding commands_from
commands_fit line [] commands is = subst (AllByRecursion (λ one. SizeFits one.word)) (ok_is {C = OrderRefusal} [] commands is) tt
commands_fit line (text ∷ texts) commands is =
    let command = bind_ok (line_command line (spaced_words text)) _ commands is in
    let others = bind_ok (commands_from (next_line line) texts) (λ others. Ok (option_to_list command.0 ++ others)) commands command.2 in
    subst (AllByRecursion (λ one. SizeFits one.word)) (ok_is {C = OrderRefusal} (option_to_list command.0 ++ others.0) commands others.2)
    (All-append (λ one. SizeFits one.word) (option_to_list command.0) others.0 (one_fits command.0 (line_fits line (spaced_words text) command.0 command.1)) (commands_fit (next_line line) texts others.0 others.1))

-- each of a command's turns
repeats : (times : ℕ) (word : OperatorWord) → SizeFits word → AllByRecursion SizeFits (repeat times (word ∷ []))
repeats zero word fits = tt
repeats (suc times) word fits = (fits, repeats times word fits)

all_words : (commands : List Command) → AllByRecursion (λ one. SizeFits one.word) commands → AllByRecursion SizeFits (flat_map (λ command. repeat command.units (command.word ∷ [])) commands)
all_words [] all = tt
all_words (command ∷ commands) all = All-append SizeFits (repeat command.units (command.word ∷ [])) _ (repeats command.units command.word all.0) (all_words commands all.1)

-- *No size of chunks is 0*
pub operator_fits : (text : List ℕ) (commands : List Command) → operator_of text ≡ Ok commands → AllByRecursion SizeFits (flat_map (λ command. repeat command.units (command.word ∷ [])) commands)
operator_fits text commands is = all_words commands (commands_fit 1 (lines text) commands is)
