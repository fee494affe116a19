use Rattle.std.proofs.Common.{sym}
use Rattle.std.proofs.lemmas.Result.{err_from_is_err_and}
use Rattle.run_rebuild.proofs.SeenRows.{is_converted, is_unfit, not_own}
use Rattle.run_rebuild.specs.Rebuilds.{own}
use Rattle.run_rebuild.proofs.steps.write.Goals as goal

pub returns-then-not-is_own-clause-finds : goal.returns-then-not-is_own-clause-finds
returns-then-not-is_own-clause-finds c = not_own (own c.args.inputs.now c.args.number) c.args.inputs.now.altered.now.map c.args.place c.args.row.now (sym c.if-not-is_own.ensures)

pub returns-in_err-made-clause-finds : goal.returns-in_err-made-clause-finds
returns-in_err-made-clause-finds c =
    let p = err_from_is_err_and c.from_residual.result c.from_residual.ensures.1 in
    rw (p.1, p.2) (is_unfit (own c.args.inputs.now c.args.number) c.args.inputs.now.altered.now.map c.args.place c.args.row.now c.in_err-made.field-0.0 (sym c.if-not-is_own.ensures) c.in_err-made.ensures)

pub returns-clause-finds : goal.returns-clause-finds
returns-clause-finds c = is_converted (own c.args.inputs.now c.args.number) c.args.inputs.now.altered.now.map c.args.place c.args.row.now c.in_ok-made.made c.in_ok-made.ensures
