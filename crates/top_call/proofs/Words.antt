-- How many workers a command line may ask for.
use Rattle.std.proofs.Common.{◌≡◌, ◌≤◌, ℕ, nat_le, Bool, true, false, ◌&&◌, if◌then◌else◌, List, [], ◌∷◌, Option, Some, None, IfSome, refl, sym, subst, arith}
use Rattle.std.specs.Prelude.{codes, option_and_then, option_map}
use Rattle.std.specs.Str.{bytes_eq}
use Rattle.std.proofs.lemmas.Bool.Decides.{nat_tests}
use Rattle.top_words.specs.Commands.{command, rebuild_by, run_by, generate_of, attached_number, numbered_command, option_command, plain_command}
use Rattle.top_words.specs.Numbers.{up_to_16, number_of}
use Rattle.top_words.specs.declared.command.Command.{Command}
use Rattle.top_words.specs.declared.command.Command.TheVariants.{Check, Replay, Run, Generate, Trace, Audit, Rebuild}
use Rattle.top_endings.specs.Endings.{HasWorkers}

abbrev IsAllowed : Option Command → Type 0
IsAllowed chosen = IfSome chosen HasWorkers

-- a command whose number is from 1 to 16
module _ (chosen : ℕ → Command) (within : (workers : ℕ) → (1 ≤ workers) × (workers ≤ 16) → HasWorkers (chosen workers)) where
  up_to : (number : ℕ) → IsAllowed (option_map chosen (up_to_16 number))
  up_to number = by (nat_le 1 number) (nat_le number 16) refl refl where
    by : (some few : Bool) → nat_le 1 number ≡ some → nat_le number 16 ≡ few → IsAllowed (option_map chosen (if some && few then Some number else None))
    by true true lower upper = within number (grind (arith, nat_tests, lower), grind (arith, nat_tests, upper))
    by true false lower upper = tt
    by false few lower upper = tt

  by_number : (number : Option ℕ) → IsAllowed (option_map chosen (option_and_then up_to_16 number))
  by_number None = tt
  by_number (Some number) = up_to number

by_word : (word : List ℕ) → IsAllowed (run_by word)
by_word word = by_number Run (λ workers few. few) (number_of word)

rebuilt_by_word : (word : List ℕ) → IsAllowed (rebuild_by word)
rebuilt_by_word word = by_number Rebuild (λ workers few. few) (number_of word)

generated : (number : Option ℕ) → IsAllowed (option_map Generate number)
generated None = tt
generated (Some number) = tt

attached : (word : Option (List ℕ)) → IsAllowed (option_and_then run_by word)
attached None = tt
attached (Some word) = by_word word

attached_rebuilt : (word : Option (List ℕ)) → IsAllowed (option_and_then rebuild_by word)
attached_rebuilt None = tt
attached_rebuilt (Some word) = rebuilt_by_word word

usual : (1 ≤ 4) × (4 ≤ 16)
usual = (omega arith, omega arith)

plainly : (name : List ℕ) → IsAllowed (plain_command name)
plainly name = by (bytes_eq name (codes "check")) (bytes_eq name (codes "replay")) (bytes_eq name (codes "run")) (bytes_eq name (codes "trace")) (bytes_eq name (codes "audit")) (bytes_eq name (codes "rebuild")) where
  by : (check replay run trace audit rebuild : Bool)
      → IsAllowed (if check then Some Check else if replay then Some Replay else if run then Some (Run 4) else if trace then Some Trace else if audit then Some Audit else if rebuild then Some (Rebuild 4) else None)
  by true replay run trace audit rebuild = tt
  by false true run trace audit rebuild = tt
  by false false true trace audit rebuild = usual
  by false false false true audit rebuild = tt
  by false false false false true rebuild = tt
  by false false false false false true = usual
  by false false false false false false = tt

numbered : (name word : List ℕ) → IsAllowed (numbered_command name word)
numbered name word = by (bytes_eq name (codes "generate")) (bytes_eq name (codes "run")) (bytes_eq name (codes "rebuild")) where
  by : (generate run rebuild : Bool) → IsAllowed (if generate then generate_of word else if run then option_and_then run_by (attached_number word) else if rebuild then option_and_then rebuild_by (attached_number word) else None)
  by true run rebuild = generated (number_of word)
  by false true rebuild = attached (attached_number word)
  by false false true = attached_rebuilt (attached_number word)
  by false false false = tt

by_option : (name option word : List ℕ) → IsAllowed (option_command name option word)
by_option name option word = by (bytes_eq name (codes "run") && bytes_eq option (codes "--workers")) (bytes_eq name (codes "rebuild") && bytes_eq option (codes "--workers")) where
  by : (run rebuild : Bool) → IsAllowed (if run then run_by word else if rebuild then rebuild_by word else None)
  by true rebuild = by_word word
  by false true = rebuilt_by_word word
  by false false = tt

-- *A run and a rebuild have 1 to 16 workers*
pub allowed : (words : List (List ℕ)) → IsAllowed (command words)
allowed [] = tt
allowed (name ∷ []) = plainly name
allowed (name ∷ word ∷ []) = numbered name word
allowed (name ∷ option ∷ word ∷ []) = by_option name option word
allowed (name ∷ option ∷ word ∷ other ∷ others) = tt

-- so it has where the words ask for one
pub allowed_workers : (words : List (List ℕ)) (workers : ℕ) → command words ≡ Some (Run workers) → HasWorkers (Run workers)
allowed_workers words workers is = subst IsAllowed is (allowed words)

-- and so has the command that the words are
pub allowed_command : (words : List (List ℕ)) (chosen : Option Command) → chosen ≡ command words → IfSome chosen HasWorkers
allowed_command words chosen is = subst IsAllowed (sym is) (allowed words)
