-- What a parse tells of the words' command.
use Rattle.std.proofs.Common.{◌≡◌, ◌∙◌, Bool, true, false, ◌||◌, if◌then◌else◌, codes, List, [], ◌∷◌, map, Option, Some, None, option_and_then, is_some, length, ◌≤◌, refl, sym, ap, arith}
use Rattle.std.specs.List.{list_any}
use Rattle.std.specs.Option.{option_map}
use Rattle.std.specs.Str.{bytes_eq}
use Rattle.clap.specs.Words.{Row, Text, subcommand_of, takes}
use Rattle.top_words.specs.declared.command.Command.{Command}
use Rattle.top_words.specs.Commands.{attached_number, command, generate_of, numbered_command, rebuild_by, run_by}
use Rattle.top_words.specs.Numbers.{workers_of}
use Rattle.top_words.specs.Matches.{is_escape, program, chosen}
use Rattle.top_words.proofs.Taking.{form_taken}

by_command : (P : Option Command → Type 0) (words : List Text) → (command words ≡ None → P None) → ((c : Command) → command words ≡ Some c → P (Some c)) → P (command words)
by_command P words none some = go (command words) refl
  where
    go : (o : Option Command) → command words ≡ o → P o
    go None is = none is
    go (Some c) is = some c is

-- words among which `--` is are no command
pub escaped : (words : List Text) → list_any is_escape words ≡ true → None ≡ command words
escaped words is = by_command (λ o. None ≡ o) words (λ none. refl) (λ c is_command. let plain : list_any is_escape words ≡ false = (form_taken words c is_command).plain in absurd (cc (sym is ∙ plain)))

-- words of a form are the command that the matches tell
pub reported_right : (words : List Text) (rows : Option (Text × List Row)) → rows ≡ subcommand_of program words → is_some (command words) ≡ true → chosen rows ≡ command words
reported_right words rows are is = ap chosen are ∙ go (command words) refl is
  where
    go : (o : Option Command) → command words ≡ o → is_some o ≡ true → chosen (subcommand_of program words) ≡ o
    go None at is = absurd (cc)
    go (Some c) at is = (form_taken words c at).tells

-- words that clap doesn't take are no command
pub refused : (words : List Text) → (takes program words ≡ true → ⊥) → None ≡ command words
refused words not = by_command (λ o. None ≡ o) words (λ none. refl) (λ c is. absurd (not (form_taken words c is).taken))

-- no command has more than three words
pub longer : {A : Type 0} (text : A → Text) (words : List A) → 4 ≤ length words → false ≡ is_some (command (map text words))
longer text [] long = absurd (omega arith)
longer text (a ∷ []) long = absurd (omega arith)
longer text (a ∷ b ∷ []) long = absurd (omega arith)
longer text (a ∷ b ∷ c ∷ []) long = absurd (omega arith)
longer text (a ∷ b ∷ c ∷ d ∷ others) long = refl

mapped_is_some : {A B : Type 0} (f : A → B) (number : Option A) → is_some number ≡ is_some (option_map f number)
mapped_is_some f None = refl
mapped_is_some f (Some number) = refl

run_form : (number : Option Text) → is_some (option_and_then workers_of number) ≡ is_some (option_and_then run_by number)
run_form None = refl
run_form (Some word) = mapped_is_some _ (workers_of word)

rebuild_form : (number : Option Text) → is_some (option_and_then workers_of number) ≡ is_some (option_and_then rebuild_by number)
rebuild_form None = refl
rebuild_form (Some word) = mapped_is_some _ (workers_of word)

-- a command with workers takes the numbers that workers may have
pub attached_form : (name word : Text) → bytes_eq name (codes "generate") ≡ false → (bytes_eq name (codes "run") || bytes_eq name (codes "rebuild")) ≡ true → is_some (option_and_then workers_of (attached_number word)) ≡ is_some (numbered_command name word)
attached_form name word other = by (bytes_eq name (codes "generate")) (bytes_eq name (codes "run")) (bytes_eq name (codes "rebuild")) other where
  by : (generate run rebuild : Bool) → generate ≡ false → (run || rebuild) ≡ true
      → is_some (option_and_then workers_of (attached_number word)) ≡ is_some (if generate then generate_of word else if run then option_and_then run_by (attached_number word) else if rebuild then option_and_then rebuild_by (attached_number word) else None)
  by true run rebuild other is = absurd cc
  by false true rebuild other is = run_form (attached_number word)
  by false false true other is = rebuild_form (attached_number word)
  by false false false other is = absurd cc
