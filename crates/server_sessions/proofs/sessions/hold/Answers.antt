use Rattle.std.proofs.Common.{false, map, sym}
use Rattle.server_sessions.specs.LiveSessions.KeptSessions.{grant_of, kept_holding}
use Rattle.server_sessions.proofs.Edited.{edited_ok, nothing_edited}
use Rattle.server_sessions.proofs.sessions.hold.Goals as goal

pub returns-in-Some-clause-ok : goal.returns-in-Some-clause-ok
returns-in-Some-clause-ok c =
    edited_ok c.grow.result c.args.number (kept_holding (map (grant_of c.args.table.now.held c.args.number false) c.args.names.now) c.args.events.now) c.args.sessions.now.items c.in-Some.place c.index_mut.result.now c.grow.new.self (rw c.as_slice-2.ensures.value at (sym c.in-Some.ensures)) c.index_mut.ensures.value (rw c.as_slice.ensures at (rw c.in_ok-grants.ensures at c.grow.ensures.ok))

pub returns-in-None-clause-ok : goal.returns-in-None-clause-ok
returns-in-None-clause-ok c = nothing_edited c.args.number (kept_holding (map (grant_of c.args.table.now.held c.args.number false) c.args.names.now) c.args.events.now) c.args.sessions.now.items (rw c.as_slice-2.ensures.value at (sym c.in-None.ensures))
