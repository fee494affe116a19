use Rattle.law_journals.proofs.Refusals.{refusals_unchanged}
use Rattle.law_journals.proofs.server_states.refusals_change_nothing.Goals as goal

pub returns : goal.returns
returns c = refusals_unchanged
