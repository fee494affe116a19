use Rattle.std.proofs.Common.{ap, sym, ◌∙◌, length}
use Rattle.base_values.specs.declared.event.Change.{Change}
use Rattle.tool_program.specs.EventApplier.Appliers.{doings}
use Rattle.tool_program.proofs.event_applier.applier.Applier.count_of.Goals as goal

pub returns-in-Update-clause-counted : goal.returns-in-Update-clause-counted
returns-in-Update-clause-counted c =
    c.count_of_update.ensures.counted
    ∙ ap (λ (change : Change). length (doings c.args.self.now.new_schema c.args.self.now.map change)) (sym c.in-Update.is)
