use Rattle.std.proofs.Common.{ap, sym, ◌∙◌, length}
use Rattle.tool_program.proofs.EventApplier.Walks.{apart, in_place}
use Rattle.tool_program.proofs.event_applier.applier.Applier.count_of_update.Goals as goal

pub returns-then-changes_key-clause-counted : goal.returns-then-changes_key-clause-counted
returns-then-changes_key-clause-counted c =
    sym (ap length (apart c.args.self.now.new_schema c.args.self.now.map c.args.before.now c.args.after.now (sym c.changes_key.ensures ∙ c.if-changes_key.true)))

pub returns-else-changes_key-clause-counted : goal.returns-else-changes_key-clause-counted
returns-else-changes_key-clause-counted c =
    sym (ap length (in_place c.args.self.now.new_schema c.args.self.now.map c.args.before.now c.args.after.now (sym c.changes_key.ensures ∙ c.if-changes_key.false)))
