-- Items with commas between them.
use Rattle.std.specs.Prelude.{codes, ℕ, zero, suc, List, [], ◌∷◌, Option, Some, None, Result, Ok, Err}
use Rattle.sql_grammar.specs.declared.token.Token.{Token}
use Rattle.sql_grammar.specs.Pieces.{after_sign}
use Rattle.base_values.specs.SchemaRules.Results.{◌>>=◌}

-- an item and those after the comma that follows it, where one does
abbrev pub with_others : {A C : Type 0} → (List Token → Result (List A × List Token) C) → A × List Token → Option (List Token) → Result (List A × List Token) C
with_others others first None = Ok (first.0 ∷ [], first.1)
with_others others first (Some rest) = do
  more ← others rest
  Ok (first.0 ∷ more.0, more.1)

-- At least one item, and at most this many: since each has a word, a text has no more than it has words. Where there is none it
-- is refused as ended.
unfoldable pub listed : {A C : Type 0} → (List Token → Result (A × List Token) C) → C → ℕ → List Token → Result (List A × List Token) C
listed item ended zero words = Err ended
listed item ended (suc most) words = do
  first ← item words
  with_others (listed item ended most) first (after_sign (codes ",") first.1)

-- what the items make of what stands so far, where one more was read, and else what it is
abbrev pub with_more : {S X C : Type 0} → (S → List Token → Result (S × List Token) C) → (S → X → S) → S → List Token → Option (X × List Token) → Result (S × List Token) C
with_more others add so_far words None = Ok (so_far, words)
with_more others add so_far words (Some read) = others (add so_far read.0) read.1

-- Items one after the other, as long as one begins at the front, and at most this many: what they make of a start one by one.
unfoldable pub gathered : {S X C : Type 0} → (List Token → Result (Option (X × List Token)) C) → (S → X → S) → ℕ → S → List Token → Result (S × List Token) C
gathered item add zero so_far words = Ok (so_far, words)
gathered item add (suc most) so_far words = do
  read ← item words
  with_more (gathered item add most) add so_far words read
