use Rattle.std.proofs.Common.{sym}
use Rattle.server_sessions.specs.LiveSessions.KeptSessions.{kept_at_rest}
use Rattle.server_sessions.proofs.Edited.{edited, nothing_edited}
use Rattle.server_sessions.proofs.sessions.rest.Goals as goal

pub returns-in-Some : goal.returns-in-Some
returns-in-Some c = rw c.rest.ensures (edited c.args.number kept_at_rest c.args.sessions.now.items c.in-Some.place c.index_mut.result.now (rw c.as_slice.ensures.value at (sym c.in-Some.ensures)) c.index_mut.ensures.value)

pub returns-in_default : goal.returns-in_default
returns-in_default c = nothing_edited c.args.number kept_at_rest c.args.sessions.now.items (rw c.as_slice.ensures.value at (sym c.in_default.ensures))
