-- A log that grows.
use Rattle.std.proofs.Common.{◌≡◌, ℕ, zero, suc, ◌<◌, ◌≤◌, List, [], ◌∷◌, ◌++◌, length, find, refl, ap, arith}
use Rattle.std.specs.List.{slice_get}
use Rattle.base_values.specs.GhoSchema.Rows.{key_places}
use Rattle.base_values.specs.declared.event.RowEvent.{RowEvent}
use Rattle.table_store.specs.RowLists.{is_at}
use Rattle.proof_journals.specs.Ghost.Relation.Timelines.{AreAlike}
use Rattle.proof_journals.specs.Ghost.Rows.Moments.{Row, rows_at, rows_then}
use Rattle.proof_journals.specs.Ghost.Rows.Timelines.{Migration, kept, timeline_of, touched_by}

rows_front : (name places : List ℕ) (log more : List RowEvent) (rows : List Row) (i : ℕ) → i ≤ length log → rows_at name places rows log i ≡ rows_at name places rows (log ++ more) i
unfolding rows_at
rows_front name places [] [] rows zero within = refl
rows_front name places [] (event ∷ more) rows zero within = refl
rows_front name places [] more rows (suc i) within = absurd (let no : ⊥ = omega arith in no)
rows_front name places (event ∷ log) more rows zero within = refl
rows_front name places (event ∷ log) more rows (suc i) within = rows_front name places log more (rows_then name places event rows) i (omega arith)

get_front : {X : Type 0} (a b : List X) (i : ℕ) → i < length a → slice_get a i ≡ slice_get (a ++ b) i
get_front [] b i within = absurd (let no : ⊥ = omega arith in no)
get_front (x ∷ a) b zero within = refl
get_front (x ∷ a) b (suc i) within = get_front a b i (omega arith)

-- *More is logged*: the past is as it was.
pub same_timeline : (m : Migration) (rows : List Row) (log more : List RowEvent) → AreAlike (timeline_of m rows log) (timeline_of m rows (log ++ more)) (length log)
same_timeline m rows log more =
    record {
      rows = λ i key within. ap (find (is_at (key_places m.schema) key)) (rows_front m.name (key_places m.schema) log more rows i within);
      touches = λ i key less. ap (touched_by (kept m) m.name (key_places m.schema) key) (get_front log more i less);
      converted_rows = λ row. refl;
    }
