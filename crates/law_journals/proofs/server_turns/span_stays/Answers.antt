use Rattle.proof_journals.proofs.ServerTurns.Spans.{span_stays}
use Rattle.law_journals.proofs.server_turns.span_stays.Goals as goal

pub returns : goal.returns
returns c = span_stays
