-- How the parts of an event are encoded one after another.
use Rattle.std.proofs.Common.{◌≡◌, ℕ, ◌+◌, ◌<◌, List, ◌++◌, length, drop, get_or, ap, sym, ◌∙◌, arith, length-append, append_assoc}
use Rattle.std.specs.List.{AllByRecursion}
use Rattle.std.proofs.lemmas.List.{drop_more}
use Rattle.base_values.proofs.SchemaRules.Lists.{All-append}
use Rattle.base_values.specs.declared.value.Value.{Value}
use Rattle.server_log.specs.Encodings.{value_bytes, values_bytes}
use Rattle.server_log.specs.Laws.{IsHeld}
use Rattle.server_log.proofs.Sizes.{length-both, values_bytes-append, values_bytes-cons}

-- values that the program can hold, after others
pub held_both : (before after : List Value) → AllByRecursion IsHeld before → AllByRecursion IsHeld after → AllByRecursion IsHeld (before ++ after)
held_both = All-append IsHeld

pub ruleset of_changes = (length-both, values_bytes-append, append_assoc, held_both)

-- the rest of the values begins with this one
first_of : (values : List Value) (i : ℕ) (value : Value) → i < length values → value ≡ get_or values i value → values_bytes (drop i values) ≡ value_bytes value ++ values_bytes (drop (i + 1) values)
first_of values i value within is =
    ap values_bytes (drop_more values i value within)
    ∙ values_bytes-cons (get_or values i value) (drop (i + 1) values)
    ∙ ap (λ v. value_bytes v ++ values_bytes (drop (i + 1) values)) (sym is)

pub one_more : (out : List ℕ) (values : List Value) (i : ℕ) (value : Value) → i < length values → value ≡ get_or values i value → (out ++ value_bytes value) ++ values_bytes (drop (i + 1) values) ≡ out ++ values_bytes (drop i values)
one_more out values i value within is =
    append_assoc out (value_bytes value) (values_bytes (drop (i + 1) values))
    ∙ ap (λ rest. out ++ rest) (sym (first_of values i value within is))

pub shorter : (values : List Value) (i : ℕ) (value : Value) → i < length values → value ≡ get_or values i value → length (values_bytes (drop (i + 1) values)) + length (value_bytes value) ≡ length (values_bytes (drop i values))
shorter values i value within is = omega (arith, ap length (first_of values i value within is), length-append (value_bytes value) (values_bytes (drop (i + 1) values)))
