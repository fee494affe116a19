-- The places of columns, one by one.
use Rattle.std.proofs.Common.{◌≡◌, ℕ, ◌+◌, ◌<◌, List, [], ◌∷◌, ◌++◌, length, drop, sym, ap, ◌∙◌, append_assoc, arith}
use Rattle.std.proofs.lemmas.List.{drop_more}
use Rattle.base_values.specs.declared.gho_schema.schema.Column.{Column}
use Rattle.server_model.specs.Checks.{places_from}

pub placed_more : (places : List ℕ) (columns : List Column) (place : ℕ) → place < length columns → places ++ place ∷ [] ++ places_from (place + 1) (drop (place + 1) columns) ≡ places ++ places_from place (drop place columns)
placed_more places [] place within = absurd (omega arith)
placed_more places (first ∷ rest) place within =
    append_assoc places (place ∷ []) (places_from (place + 1) (drop (place + 1) (first ∷ rest)))
    ∙ ap (λ more. places ++ more) (sym (ap (places_from place) (drop_more (first ∷ rest) place first within)))
