use Rattle.std.proofs.Common.{[], ◌∷◌, ap, ◌∙◌}
use Rattle.base_values.specs.declared.event.Change.{Change}
use Rattle.proof_rebuild.specs.Shards.{first_unfit, only, row_after}
use Rattle.run_rebuild.specs.Rebuilds.{own}
use Rattle.run_rebuild.proofs.SeenRows.{none_seen}
use Rattle.run_rebuild.proofs.steps.follow.Goals as goal

pub returns-in_ok-delete-in-Delete-clause-finds : goal.returns-in_ok-delete-in-Delete-clause-finds
returns-in_ok-delete-in-Delete-clause-finds c =
    ap (λ (change : Change). first_unfit c.args.inputs.now.altered.now.map c.args.place (only (own c.args.inputs.now c.args.number) (row_after change) ∷ [])) c.in-Delete.is ∙ none_seen c.args.inputs.now.altered.now.map c.args.place
