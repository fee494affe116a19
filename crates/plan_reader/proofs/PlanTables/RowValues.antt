-- Reading a row's values one after the other, as a loop does.
use Rattle.std.proofs.Common.{◌≡◌, ℕ, ◌+◌, ◌<◌, ◌≤◌, Bool, false, List, [], ◌∷◌, ◌++◌, length, drop, get_or, Option, Some, None, refl, sym, ap, ◌∙◌, append_assoc}
use Rattle.std.proofs.lemmas.List.{drop_more, drop_all, append-nil}
use Rattle.base_values.specs.declared.value.Value.{Value}
use Rattle.base_values.specs.declared.gho_schema.schema.Column.{Column}
use Rattle.base_values.specs.GhoSchema.Options.{◌>>=◌}
use Rattle.sql_grammar.specs.declared.token.Token.{Token}
use Rattle.sql_grammar.specs.Pieces.{after_sign}
use Rattle.plan_reader.specs.declared.plan_tables.fault.RowFault.{RowFault}
use Rattle.plan_reader.specs.declared.plan_tables.fault.RowFault.TheVariants as faults
use Rattle.plan_reader.specs.PlanTables.Refusals.{Misses}
use Rattle.plan_reader.specs.PlanTables.RowTexts.{value_at, mark, values_at}

abbrev pub Values : Type 0
Values = List Value × List Token

-- the values that were read, and those that are still read
abbrev pub with_front : List Value → Option Values → Option Values
with_front front read = read >>= λ x. Some (front ++ x.0, x.1)

regroup : (front : List Value) (v : Value) (read : Option Values) → with_front front (read >>= λ x. Some (v ∷ x.0, x.1)) ≡ with_front (front ++ v ∷ []) read
regroup front v (Some x) = ap (λ (vs : List Value). Some (vs, x.1)) (simp append_assoc)
regroup front v None = refl

-- the column at this place is the first of those from there on
from_here : (columns : List Column) (i : ℕ) (column : Column) → i < length columns → column ≡ get_or columns i column → drop i columns ≡ column ∷ drop (i + 1) columns
from_here columns i column lt is = drop_more columns i column lt ∙ ap (λ (c : Column). c ∷ drop (i + 1) columns) (sym is)

pub goes_on : (front : List Value) (columns : List Column) (i : ℕ) (sign : Bool) (column : Column) (words following : List Token) (v : Value) (after : List Token) (total : Option Values)
    → i < length columns → column ≡ get_or columns i column → after_sign (mark sign) words ≡ Some following → value_at column following ≡ Some (v, after)
    → with_front front (values_at (drop i columns) sign words) ≡ total → with_front (front ++ v ∷ []) (values_at (drop (i + 1) columns) false after) ≡ total
unfolding values_at
goes_on front columns i sign column words following v after total lt is s h so_far =
    let one : with_front front (values_at (drop i columns) sign words) ≡ with_front (front ++ v ∷ []) (values_at (drop (i + 1) columns) false after) =
    rw (from_here columns i column lt is, s, h) (regroup front v (values_at (drop (i + 1) columns) false after)) in
    sym one ∙ so_far

pub no_sign : (front : List Value) (columns : List Column) (i : ℕ) (sign : Bool) (column : Column) (words : List Token) (total : Option Values)
    → i < length columns → column ≡ get_or columns i column → after_sign (mark sign) words ≡ None → with_front front (values_at (drop i columns) sign words) ≡ total → total ≡ None
unfolding values_at
no_sign front columns i sign column words total lt is s so_far =
    let one : with_front front (values_at (drop i columns) sign words) ≡ None = rw (from_here columns i column lt is, s) refl in
    sym so_far ∙ one

pub fails : (fault : RowFault) (front : List Value) (columns : List Column) (i : ℕ) (sign : Bool) (column : Column) (words following : List Token) (total : Option Values)
    → i < length columns → column ≡ get_or columns i column → after_sign (mark sign) words ≡ Some following → Misses fault (value_at column following)
    → with_front front (values_at (drop i columns) sign words) ≡ total → Misses fault total
unfolding values_at
fails faults.Memory front columns i sign column words following total lt is s h so_far = tt
fails faults.Bad front columns i sign column words following total lt is s h so_far =
    let one : with_front front (values_at (drop i columns) sign words) ≡ None = rw (from_here columns i column lt is, s, h) refl in
    sym so_far ∙ one

pub is_full : (front : List Value) (columns : List Column) (i : ℕ) (sign : Bool) (words : List Token) (total : Option Values) → length columns ≤ i
    → with_front front (values_at (drop i columns) sign words) ≡ total → total ≡ Some (front, words)
unfolding values_at
is_full front columns i sign words total le so_far =
    let one : with_front front (values_at (drop i columns) sign words) ≡ Some (front, words) = rw (drop_all i columns le) (ap (λ (vs : List Value). Some (vs, words)) (append-nil front)) in
    sym so_far ∙ one
