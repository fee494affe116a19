use Rattle.std.proofs.Common.{◌∙◌}
use Rattle.std.proofs.lemmas.Result.{err_from_is_err_and}
use Rattle.run_rebuild.proofs.Halves.{all_followed, left_events, left_opening}
use Rattle.run_rebuild.proofs.shard_table.made_table.Goals as goal

pub returns-in_err-put_opening : goal.returns-in_err-put_opening
returns-in_err-put_opening c =
    let p = err_from_is_err_and c.from_residual-in_err-put_opening.result c.from_residual-in_err-put_opening.ensures.1 in
    rw (p.1, p.2) (left_opening c.args.inputs.now c.args.number c.in_err-put_opening.field-0.0 c.in_err-put_opening.ensures.finds)

pub returns-in_err-follow_events : goal.returns-in_err-follow_events
returns-in_err-follow_events c =
    let p = err_from_is_err_and c.from_residual-in_err-follow_events.result c.from_residual-in_err-follow_events.ensures.1 in
    rw (p.1, p.2) (left_events c.args.inputs.now c.args.number c.in_err-follow_events.field-0.0 c.in_ok-put_opening.ensures.finds c.in_err-follow_events.ensures.finds)

pub returns : goal.returns
returns c =
    let schema = c.new-table.ensures.schema ∙ c.in_ok-copy.ensures in
    all_followed c.args.inputs.now c.args.number c.new-table.result.table c.put_opening.new.table c.follow_events.new.table schema c.new-table.ensures.rows c.in_ok-put_opening.ensures.schema c.in_ok-put_opening.ensures.rows c.in_ok-put_opening.ensures.finds
    c.in_ok-follow_events.ensures.schema c.in_ok-follow_events.ensures.rows c.in_ok-follow_events.ensures.finds
