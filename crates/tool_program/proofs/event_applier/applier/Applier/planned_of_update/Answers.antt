use Rattle.std.proofs.Common.{ap, sym, ◌∙◌, List}
use Rattle.std.specs.List.{slice_get}
use Rattle.tool_program.specs.EventApplier.Appliers.{Doing}
use Rattle.tool_program.proofs.EventApplier.Walks.{apart, in_place}
use Rattle.tool_program.proofs.event_applier.applier.Applier.planned_of_update.Goals as goal

pub returns-then-changes_key : goal.returns-then-changes_key
returns-then-changes_key c =
    c.planned_pair.ensures
    ∙ ap (λ (all : List Doing). slice_get all c.args.number) (sym (apart c.args.self.now.new_schema c.args.self.now.map c.args.before.now c.args.after.now (sym c.changes_key.ensures ∙ c.if-changes_key.true)))

pub returns-else-changes_key : goal.returns-else-changes_key
returns-else-changes_key c =
    c.planned_change.ensures
    ∙ ap (λ (all : List Doing). slice_get all c.args.number) (sym (in_place c.args.self.now.new_schema c.args.self.now.map c.args.before.now c.args.after.now (sym c.changes_key.ensures ∙ c.if-changes_key.false)))
