use Rattle.proof_resume.proofs.Settled.KeptAway.{turns_settle}
use Rattle.proof_resume.proofs.Settled.QuietTurns.{quiet_turns}
use Rattle.proof_resume.proofs.Settled.Through.{settled_through}
use Rattle.proof_resume.proofs.laws.turns_settle.Goals as goal

pub returns : goal.returns
returns c = record { away = turns_settle; quiet = quiet_turns; through = settled_through }
