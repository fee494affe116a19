-- Commands, each as often as it has units.
use Rattle.std.proofs.Common.{◌≡◌, ◌⊎◌, refl, ap, ◌∙◌, sym, ℕ, zero, suc, ◌+◌, ◌-◌, ◌≤◌, ◌<◌, List, [], ◌∷◌, ◌++◌, length, drop, get_or, Some, None, arith, inl, inr}
use Rattle.std.specs.Prelude.{nat_lt, is_some}
use Rattle.std.specs.List.{slice_get, repeat}
use Rattle.std.proofs.lemmas.Bool.{lt-ltb, le-ltb}
use Rattle.std.proofs.lemmas.List.{drop_more}
use Rattle.std.proofs.lemmas.Option.{slice_get_cases}
use Rattle.base_script.specs.declared.operator.Command.{Command}
use Rattle.base_script.specs.declared.operator.OperatorWord.{OperatorWord}
use Rattle.tool_program.specs.ToolSetup.Meanings.{words_in}

-- there is one at a place within the list
pub stands_within : {A : Type 0} → (xs : List A) (i : ℕ) → is_some (slice_get xs i) ≡ nat_lt i (length xs)
stands_within xs i = by (slice_get_cases xs i).1
  where
    by : ((x : _) × (i < length xs) × (slice_get xs i ≡ Some x) × (get_or xs i x ≡ x)) ⊎ ((length xs ≤ i) × (slice_get xs i ≡ None)) → is_some (slice_get xs i) ≡ nat_lt i (length xs)
    by (inl found) = ap is_some found.2 ∙ sym (lt-ltb i (length xs) found.1)
    by (inr past) = ap is_some past.1 ∙ sym (le-ltb i (length xs) past.0)

among : (word : OperatorWord) (rest : List OperatorWord) (units i : ℕ) → i < units → slice_get (repeat units (word ∷ []) ++ rest) i ≡ Some word
among word rest zero i within = absurd (omega arith)
among word rest (suc units) zero within = refl
among word rest (suc units) (suc i) within = among word rest units i (omega arith)

following : (word : OperatorWord) (rest : List OperatorWord) (units i : ℕ) → units ≤ i → slice_get (repeat units (word ∷ []) ++ rest) i ≡ slice_get rest (i - units)
following word rest zero i past = let same : i ≡ i - 0 = omega arith in ap (slice_get rest) same
following word rest (suc units) zero past = absurd (omega arith)
following word rest (suc units) (suc i) past = let same : i - units ≡ suc i - suc units = omega arith in following word rest units i (omega arith) ∙ ap (slice_get rest) same

-- the command at a place
abbrev pub command_at : List Command → ℕ → Command → Command
command_at commands i none = get_or commands i none

rest_is : (commands : List Command) (i : ℕ) (none : Command) → i < length commands
    → words_in (drop i commands) ≡ repeat (command_at commands i none).units ((command_at commands i none).word ∷ []) ++ words_in (drop (i + 1) commands)
rest_is commands i none within = ap words_in (drop_more commands i none within)

-- the word that is looked for is this command's
pub found : (commands : List Command) (i left taken : ℕ) (none : Command) → i < length commands → slice_get (words_in (drop i commands)) left ≡ slice_get (words_in commands) taken → left < (command_at commands i none).units
    → Some (command_at commands i none).word ≡ slice_get (words_in commands) taken
found commands i left taken none within kept here =
    sym (among (command_at commands i none).word (words_in (drop (i + 1) commands)) (command_at commands i none).units left here) ∙ ap (λ all. slice_get all left) (sym (rest_is commands i none within)) ∙ kept

-- it is a later one's
pub passed : (commands : List Command) (i left taken : ℕ) (none : Command) → i < length commands → slice_get (words_in (drop i commands)) left ≡ slice_get (words_in commands) taken → (command_at commands i none).units ≤ left
    → slice_get (words_in (drop (i + 1) commands)) (left - (command_at commands i none).units) ≡ slice_get (words_in commands) taken
passed commands i left taken none within kept past =
    sym (following (command_at commands i none).word (words_in (drop (i + 1) commands)) (command_at commands i none).units left past) ∙ ap (λ all. slice_get all left) (sym (rest_is commands i none within)) ∙ kept
