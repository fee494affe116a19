use Rattle.std.proofs.Common.{List, Result, refl, sym, ap}
use Rattle.base_values.specs.declared.value.Value.{Value}
use Rattle.server_model.specs.declared.answer.Answer.{Answer}
use Rattle.server_model.specs.declared.work.Work.TheVariants as works
use Rattle.server_model.specs.Checks.{or_refused}
use Rattle.server_transaction.proofs.CopiedRows.{new_row_kept}
use Rattle.server_transaction.proofs.row_copies.work.work_of_converted_row.Goals as goal

pub returns-then-takes_as_is : goal.returns-then-takes_as_is
returns-then-takes_as_is c =
    sym (ap (λ (made : Result (List Value) Answer). or_refused made works.Copy) (new_row_kept c.args.into.now c.args.converted_row (c.requires (c.if-takes_as_is.ensures.0 refl))))
