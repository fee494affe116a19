-- The footprint law: where two lists of rows agree under what a statement needs, it says and needs the same on both.
use Rattle.std.proofs.Common.{◌≡◌, Bool, true, false, not, ◌&&◌, List, [], ◌∷◌, ◌++◌, map, Option, Ok, Err, refl, ap, ◌∙◌}
use Rattle.std.specs.List.{AllByRecursion, list_any}
use Rattle.std.proofs.Math.Bool.{or-true}
use Rattle.std.proofs.lemmas.Bool.{and_parts}
use Rattle.base_values.specs.declared.value.Value.{Value}
use Rattle.base_values.specs.declared.gho_schema.schema.Schema.{Schema}
use Rattle.base_values.specs.GhoSchema.Rows.{key_places}
use Rattle.base_values.specs.GhoSchema.Tables.{Ascends, clash}
use Rattle.base_values.specs.declared.event.Change.{Change}
use Rattle.base_values.specs.declared.event.Change.TheVariants as changes
use Rattle.server_locks.specs.declared.row_locks.lock.Lock.{Lock}
use Rattle.table_store.proofs.Orders.{Row}
use Rattle.server_model.specs.declared.work.Reach.{Reach}
use Rattle.server_model.specs.Rows.{reaches, rows_met, same_row, change_rows}
use Rattle.server_model.specs.declared.work.Work.{Work}
use Rattle.server_model.specs.declared.work.Work.TheVariants.{Refuse, Insert, Copy, Replace, Delete, Update, Select}
use Rattle.server_model.specs.StatementResults.{displaced, with_sets, clashes_besides, updates, updated, tells, result_or_refusal}
use Rattle.server_model.specs.Needs.{lock_on, points, points_of, needs}
use Rattle.server_model.specs.LockedRows.Agreement.{is_under, SameWhere}
use Rattle.server_model.proofs.LockedRows.Standing.{same-filter, same-any, same-within, same-changed}
use Rattle.server_model.proofs.LockedRows.Points.{under-append, clash_under}
use Rattle.server_model.proofs.LockedRows.Tests.{same_bytes}

-- what is said and needed on the one list is said and needed on the other
pub record AreAlike (schema : Schema) (work : Work) (a b : List Row) : Type 0 where
  pub executed : tells schema a work ≡ tells schema b work
  pub needed : needs schema a work ≡ needs schema b work

-- what is reached lies under the lock on it
pub reach_under : (schema : Schema) (exclusive : Bool) (reach : Reach) (others : List Lock) (row : Row) → reaches schema reach row ≡ true → is_under schema (lock_on schema exclusive reach ∷ others) row ≡ true
unfolding is_under
reach_under schema exclusive reach others row is = rw (same_bytes schema.name, is) refl

pub front_under : (schema : Schema) (a b : List Lock) (row : Row) → is_under schema a row ≡ true → is_under schema (a ++ b) row ≡ true
front_under schema a b row is = under-append schema a b row ∙ rw is refl

pub back_under : (schema : Schema) (a b : List Lock) (row : Row) → is_under schema b row ≡ true → is_under schema (a ++ b) row ≡ true
back_under schema a b row is = under-append schema a b row ∙ rw is (or-true (is_under schema a row))

-- each new row's clashes lie within the test
abbrev pub ClashesWithin : Schema → List (Option Value) → (Row → Bool) → List Row → Type 0
ClashesWithin schema sets test met = AllByRecursion (λ old. (other : Row) → clash schema.uniques (with_sets sets old) other ≡ true → test other ≡ true) met

clashes_within : (schema : Schema) (sets : List (Option Value)) (test : Row → Bool) (met : List Row) → ((other : Row) → is_under schema (points_of schema (map (with_sets sets) met)) other ≡ true → test other ≡ true) → ClashesWithin schema sets test met
clashes_within schema sets test [] within = tt
clashes_within schema sets test (old ∷ met) within = (
  λ other some. within other (front_under schema (points schema (with_sets sets old)) (points_of schema (map (with_sets sets) met)) other (clash_under schema (with_sets sets old) other some)),
  clashes_within schema sets test met (λ other is. within other (back_under schema (points schema (with_sets sets old)) (points_of schema (map (with_sets sets) met)) other is)),
)

-- an UPDATE row by row is the same on lists that agree where its new rows clash
updates_alike : (schema : Schema) (sets : List (Option Value)) (test : Row → Bool) (met a b : List Row) → SameWhere test a b → ClashesWithin schema sets test met → updates schema sets met a ≡ updates schema sets met b
unfolding updates
updates_alike schema sets test [] a b same within = refl
updates_alike schema sets test (old ∷ met) a b same within =
    let clashes : clashes_besides schema (with_sets sets old) old a ≡ clashes_besides schema (with_sets sets old) old b =
    same-any (λ other. clash schema.uniques (with_sets sets old) other && not (same_row old other)) a b
    (same-within (λ other. clash schema.uniques (with_sets sets old) other && not (same_row old other)) test a b (λ other is. within.0 other ((and_parts (clash schema.uniques (with_sets sets old) other) (not (same_row old other)) is).0)) same) in
    let change : Change = changes.Update old (with_sets sets old) in
    let later : updates schema sets met (change_rows (key_places schema) change a) ≡ updates schema sets met (change_rows (key_places schema) change b) =
    updates_alike schema sets test met (change_rows (key_places schema) change a) (change_rows (key_places schema) change b) (same-changed test (key_places schema) change a b same) within.1 in
    let still : updates schema sets met a ≡ updates schema sets met b = updates_alike schema sets test met a b same within.1 in
    rw (clashes, later, still) refl

-- *Footprint law*
pub footprint : (schema : Schema) (work : Work) (a b : List Row) → Ascends (key_places schema) a → Ascends (key_places schema) b → SameWhere (is_under schema (needs schema a work)) a b → AreAlike schema work a b
unfolding tells needs
footprint schema (Refuse refusal) a b one two same = record { executed = refl; needed = refl }
footprint schema (Insert row) a b one two same =
    let any : list_any (clash schema.uniques row) a ≡ list_any (clash schema.uniques row) b = same-any (clash schema.uniques row) a b (same-within (clash schema.uniques row) (is_under schema (points schema row)) a b (clash_under schema row) same) in
    record { executed = rw any refl; needed = refl }
footprint schema (Copy row) a b one two same =
    let any : list_any (clash schema.uniques row) a ≡ list_any (clash schema.uniques row) b = same-any (clash schema.uniques row) a b (same-within (clash schema.uniques row) (is_under schema (points schema row)) a b (clash_under schema row) same) in
    record { executed = rw any refl; needed = refl }
footprint schema (Replace row) a b one two same =
    let gone : displaced schema row a ≡ displaced schema row b =
    same-filter (clash schema.uniques row) (key_places schema) a b one two
    (same-within (clash schema.uniques row) (is_under schema (points schema row ++ points_of schema (displaced schema row a))) a b (λ other some. front_under schema (points schema row) (points_of schema (displaced schema row a)) other (clash_under schema row other some)) same) in
    record { executed = rw gone refl; needed = rw gone refl }
footprint schema (Delete reach) a b one two same =
    let met : rows_met schema reach a ≡ rows_met schema reach b =
    same-filter (reaches schema reach) (key_places schema) a b one two (same-within (reaches schema reach) (is_under schema (needs schema a (Delete reach))) a b (reach_under schema true reach (points_of schema (rows_met schema reach a))) same) in
    record { executed = rw met refl; needed = rw met refl }
footprint schema (Select reach selection) a b one two same =
    let met : rows_met schema reach a ≡ rows_met schema reach b = same-filter (reaches schema reach) (key_places schema) a b one two (same-within (reaches schema reach) (is_under schema (needs schema a (Select reach selection))) a b (reach_under schema false reach []) same) in
    record { executed = rw met refl; needed = refl }
footprint schema (Update reach (Err at)) a b one two same =
    let met : rows_met schema reach a ≡ rows_met schema reach b =
    same-filter (reaches schema reach) (key_places schema) a b one two
    (same-within (reaches schema reach) (is_under schema (needs schema a (Update reach (Err at)))) a b (reach_under schema true reach (points_of schema (rows_met schema reach a) ++ [])) same) in
    record { executed = refused met; needed = rw met refl } where
      refused : rows_met schema reach a ≡ rows_met schema reach b → updated schema (Err at) (rows_met schema reach a) a ≡ updated schema (Err at) (rows_met schema reach b) b
      refused met = rw met (either (rows_met schema reach b)) where
        either : (met : List Row) → updated schema (Err at) met a ≡ updated schema (Err at) met b
        either [] = refl
        either (row ∷ rows) = refl
footprint schema (Update reach (Ok sets)) a b one two same =
    let met : rows_met schema reach a ≡ rows_met schema reach b =
    same-filter (reaches schema reach) (key_places schema) a b one two
    (same-within (reaches schema reach) (is_under schema (needs schema a (Update reach (Ok sets)))) a b (reach_under schema true reach (points_of schema (rows_met schema reach a) ++ points_of schema (map (with_sets sets) (rows_met schema reach a)))) same) in
    let within : ClashesWithin schema sets (is_under schema (needs schema a (Update reach (Ok sets)))) (rows_met schema reach a) =
    clashes_within schema sets (is_under schema (needs schema a (Update reach (Ok sets)))) (rows_met schema reach a)
    (λ other is. back_under schema (lock_on schema true reach ∷ points_of schema (rows_met schema reach a)) (points_of schema (map (with_sets sets) (rows_met schema reach a))) other is) in
    let same_changes : updates schema sets (rows_met schema reach a) a ≡ updates schema sets (rows_met schema reach a) b = updates_alike schema sets (is_under schema (needs schema a (Update reach (Ok sets)))) (rows_met schema reach a) a b same within in
    record { executed = ap result_or_refusal (same_changes ∙ ap (λ (rows : List Row). updates schema sets rows b) met); needed = rw met refl }
