use Rattle.std.proofs.Common.{rules, ◌<◌, length, ap, ◌∙◌}
use Rattle.tool_program.specs.CutoverCore.Attempts.{exchange}
use Rattle.run_turns.proofs.InHand.{made_more}
use Rattle.run_turns.proofs.renames.renames_of.Goals as goal

pub loop-loss-preserved : goal.loop-loss-preserved
loop-loss-preserved c =
    let less : c.loop-loss._loss-index < length c.args.plan.now.faults = search rules in
    made_more c.args.plan.now.table c.args.plan.now.faults c.loop-loss._loss-index c.loop-loss.renames.items _ c.in_ok-rename.rename less (c.in_ok-rename.ensures ∙ ap exchange c.migrated.ensures) c.in_ok-push.ensures.items c.loop-loss.invariant
