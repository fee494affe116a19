-- *Printed verdict*: which lines say how a run ended. This project's rule.
use Rattle.std.specs.Prelude.{codes, ℕ, ◌^◌, nat_lt, if◌then◌else◌, List, [], ◌∷◌, ◌++◌, Option, Some, None}
use Rattle.std.specs.Option.{option_map}
use Rattle.std.specs.Str.{bytes_eq}
use Rattle.base_values.specs.declared.value.Value.{Value}
use Rattle.base_values.specs.declared.value.Value.TheVariants.{Text}
use Rattle.base_values.specs.GhoSchema.Options.{◌>>=◌}
use Rattle.server_model.specs.declared.outcome.Cause.{Cause}
use Rattle.server_model.specs.declared.outcome.Cause.TheVariants.{Unfit, Spent, Panic}
use Rattle.server_model.specs.declared.outcome.Task.{Task}
use Rattle.server_model.specs.declared.outcome.Task.TheVariants.{Setup, Chunk, Batch, CutOver}
use Rattle.server_model.specs.declared.outcome.Verdict.{Verdict}
use Rattle.server_model.specs.declared.outcome.Verdict.TheVariants.{Done, Reverted, Unfinished}
use Rattle.sql_grammar.specs.declared.token.Token.{Token}
use Rattle.sql_grammar.specs.Tokens.{is_keyword, text_words}
use Rattle.top_report.specs.Verdicts.{verdict_line}
use Rattle.top_trace_reader.specs.declared.verdicts.Ended.{Ended}
use Rattle.top_trace_reader.specs.Literals.{has_none, literals_in, number_in, numbers_in}

-- ---- what the words say, where they are those of a verdict

-- a task failed in at least one turn
abbrev pub spent : Task → List ℕ → Option Cause
spent task [] = None
spent task (turn ∷ turns) = Some (Spent task (turn ∷ turns))

abbrev pub chunk_spent : List ℕ → Option Cause
chunk_spent [] = None
chunk_spent (number ∷ turns) = spent (Chunk number) turns

abbrev pub batch_spent : List ℕ → Option Cause
batch_spent [] = None
batch_spent (position ∷ turns) = spent (Batch position) turns

unfoldable pub spent_in : Token → List ℕ → Option Cause
spent_in task numbers =
    if is_keyword task (codes "setup") then spent Setup numbers
    else if is_keyword task (codes "chunk") then chunk_spent numbers
    else if is_keyword task (codes "batch") then batch_spent numbers
    else spent CutOver numbers

abbrev pub panic_in : List ℕ → Option Cause
panic_in [] = None
panic_in (turn ∷ others) = Some (Panic turn)

-- values before the last two, and these
abbrev pub after_value : Value → Ended → Ended
after_value value ended = record { front = value ∷ ended.front; last_but_one = ended.last_but_one; last = ended.last }

unfoldable pub ended_in : List Value → Option Ended
ended_in [] = None
ended_in (value ∷ []) = None
ended_in (value ∷ other ∷ []) = Some (record { front = []; last_but_one = value; last = other })
ended_in (value ∷ other ∷ third ∷ others) = option_map (after_value value) (ended_in (other ∷ third ∷ others))

abbrev pub text_in : Value → Option (List ℕ)
text_in (Text text) = Some text
text_in value = None

abbrev pub below_2_16 : ℕ → Option ℕ
below_2_16 number = if nat_lt number (2 ^ 16) then Some number else None

-- the number from 0 on and below 2^16 that a value is
abbrev pub error_in : Value → Option ℕ
error_in value = number_in value >>= below_2_16

abbrev pub unfit : ℕ → List Value → Option (List ℕ) → Option ℕ → Option Cause
unfit turn key column number = do
  column ← column
  number ← number
  if has_none key then None else Some (Unfit turn key column number)

abbrev pub unfit_turn : ℕ → Ended → Option Cause
unfit_turn turn ended = unfit turn ended.front (text_in ended.last_but_one) (error_in ended.last)

-- a turn, a key, a column and an error's number
unfoldable pub unfit_in : List Value → Option Cause
unfit_in [] = None
unfit_in (turn ∷ others) = do
  turn ← number_in turn
  ended ← ended_in others
  unfit_turn turn ended

unfoldable pub cause_in : List Token → Option Cause
cause_in [] = None
cause_in (kind ∷ []) = None
cause_in (kind ∷ next ∷ others) =
    if is_keyword kind (codes "panic") then panic_in (numbers_in (literals_in others))
    else if is_keyword kind (codes "spent") then spent_in next (numbers_in (literals_in others))
    else unfit_in (literals_in others)

abbrev pub single_verdict : Token → Verdict
single_verdict word = if is_keyword word (codes "done") then Done else Unfinished

unfoldable pub loose_verdict : List Token → Option Verdict
loose_verdict [] = None
loose_verdict (word ∷ []) = Some (single_verdict word)
loose_verdict (word ∷ next ∷ others) = option_map Reverted (cause_in (next ∷ others))

-- ---- the line

abbrev pub verdict_printed_so : List ℕ → Verdict → Option Verdict
verdict_printed_so line verdict = if bytes_eq (verdict_line verdict) (line ++ codes "\n") then Some verdict else None

-- *Printed verdict*: what the words of a line say, where that is printed as the line
unfoldable pub verdict_in : List ℕ → Option Verdict
verdict_in line = loose_verdict (text_words line).words >>= verdict_printed_so line
