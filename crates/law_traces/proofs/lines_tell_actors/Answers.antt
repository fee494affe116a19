use Rattle.proof_audit.proofs.Kept.{kept_tell_clients, kept_tell_sessions, tell_clients, tell_sessions}
use Rattle.law_traces.proofs.lines_tell_actors.Goals as goal

pub returns : goal.returns
returns c = record { clients = kept_tell_clients; sessions = kept_tell_sessions; whole_clients = tell_clients; whole_sessions = tell_sessions }
