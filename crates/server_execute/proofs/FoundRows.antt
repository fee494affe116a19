-- What a statement says by the rows that it meets.
use Rattle.std.proofs.Common.{◌≡◌, List, Option, Result, Err, sym, ap, ◌∙◌}
use Rattle.base_values.specs.declared.gho_schema.schema.Schema.{Schema}
use Rattle.base_values.specs.declared.row_conversion.conversion_fault.UnfitAt.{UnfitAt}
use Rattle.base_values.specs.declared.value.Value.{Value}
use Rattle.table_store.proofs.Orders.{Row}
use Rattle.server_model.specs.declared.work.Reach.{Reach}
use Rattle.server_model.specs.declared.work.Work.{Work}
use Rattle.server_model.specs.declared.work.Work.TheVariants as works
use Rattle.server_model.specs.StatementResults.{tells, updated}
use Rattle.server_execute.specs.FoundWork.{met_by}

-- an UPDATE whose values don't store
pub unfit_so : (schema : Schema) (rows met : List Row) (reach : Reach) (at : UnfitAt) (sets : Result (List (Option Value)) UnfitAt) (work : Work) → work ≡ works.Update reach sets → sets ≡ Err at → met ≡ met_by schema rows work
    → updated schema (Err at) met rows ≡ tells schema rows work
unfolding tells
unfit_so schema rows met reach at sets work is unfit met_is =
    ap (λ (m : List Row). updated schema (Err at) m rows) (met_is ∙ ap (met_by schema rows) is) ∙ sym (ap (λ (s : Result (List (Option Value)) UnfitAt). tells schema rows (works.Update reach s)) unfit) ∙ sym (ap (tells schema rows) is)
