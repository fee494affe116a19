-- The applier's statements, as work on the new table.
use Rattle.std.specs.Prelude.{◌≡◌, ℕ, List, [], ◌∷◌, map, Some, Ok, Err}
use Rattle.base_values.specs.Spans.{point}
use Rattle.base_values.specs.declared.gho_schema.schema.Column.{Column}
use Rattle.base_values.specs.declared.row_conversion.conversion_fault.UnfitAt.{UnfitAt}
use Rattle.base_values.specs.declared.row_conversion.map.MapColumn.{MapColumn}
use Rattle.server_model.specs.declared.work.Reach.{Reach}
use Rattle.server_model.specs.declared.work.Work.{Work}
use Rattle.server_model.specs.declared.work.Work.TheVariants as works
use Rattle.proof_journals.specs.Ghost.Rows.Moments.{Row}
use Rattle.proof_journals.specs.Ghost.Rows.Timelines.{Migration}
use Rattle.server_model.specs.Operations.{Operation}

-- the row with this value of the unique key at this place
abbrev pub by_key : ℕ → Row → Reach
by_key place key = record { key = place; span = point key }

-- DELETE of it; UPDATE of it to this row, or with values that don't store
abbrev pub delete_at : ℕ → Row → Work
delete_at place key = works.Delete (by_key place key)

abbrev pub update_at : ℕ → Row → Row → Work
update_at place key made = works.Update (by_key place key) (Ok (map Some made))

abbrev pub unfit_at : ℕ → Row → UnfitAt → Work
unfit_at place key fault = works.Update (by_key place key) (Err fault)

-- the job does this work on the new table
pub record DoesWork (m : Migration) (operation : Operation) (work : Work) : Type 0 where
  pub table : operation.table ≡ m.new.name
  pub does : operation.work m.new ≡ work

-- the map's columns are these, one by one
abbrev pub SameColumns : List Column → List MapColumn → Type 0
SameColumns [] [] = Unit {0}
SameColumns (column ∷ columns) (c ∷ cs) = (column.kind ≡ c.kind) × (column.nullable ≡ c.nullable) × SameColumns columns cs
SameColumns columns cs = ⊥
