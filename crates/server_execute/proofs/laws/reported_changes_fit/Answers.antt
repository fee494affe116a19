use Rattle.server_execute.proofs.FittingChanges.{reported_fit}
use Rattle.server_execute.proofs.laws.reported_changes_fit.Goals as goal

pub returns : goal.returns
returns c = reported_fit
