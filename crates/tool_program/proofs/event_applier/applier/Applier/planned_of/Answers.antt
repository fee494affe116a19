use Rattle.std.proofs.Common.{ap, sym, ◌∙◌}
use Rattle.std.specs.List.{slice_get}
use Rattle.base_values.specs.declared.event.Change.{Change}
use Rattle.tool_program.specs.EventApplier.Appliers.{doings}
use Rattle.tool_program.proofs.event_applier.applier.Applier.planned_of.Goals as goal

pub returns-in-Update : goal.returns-in-Update
returns-in-Update c =
    c.planned_of_update.ensures
    ∙ ap (λ (change : Change). slice_get (doings c.args.self.now.new_schema c.args.self.now.map change) c.args.number) (sym c.in-Update.is)
