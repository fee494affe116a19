use Rattle.std.proofs.Common.{◌≡◌, true, false, is_some, refl, rules, sym, ◌∙◌, ap}
use Rattle.server_model.specs.PlainServer.{holding}
use Rattle.server_model.specs.States.{with_session}
use Rattle.server_sessions.specs.LiveSessions.KeptSessions.{kept_of, records_of}
use Rattle.server_sessions.specs.LiveSessions.SessionLists.{NumberedSessions}
use Rattle.server_sessions.proofs.LiveSessions.Records.{records_grown, tables_grown, told_alike}
use Rattle.server_sessions.proofs.LiveSessions.SessionLists.{shown, unchanged}
use Rattle.server_sessions.proofs.live_sessions.session_list.SessionList.hold.Goals as goal

pub returns-then-not-is_live-clause-ok : goal.returns-then-not-is_live-clause-ok
returns-then-not-is_live-clause-ok c =
    let inside : is_some (kept_of c.args.number c.self.inside.sessions.items) ≡ false = search rules in
    let none = sym (told_alike is_some is_some c.args.self.now c.args.number c.self.inside.locks.held c.self.inside.names.held c.self.inside.sessions.items refl (λ s. refl) (ap (λ (list : NumberedSessions). list.sessions) c.self.view_is)) ∙ inside in
    unchanged c.args.number (holding c.args.need c.args.events.now) c.args.self.now none

pub invariant_of-self-in-Ok : goal.invariant_of-self-in-Ok
invariant_of-self-in-Ok c =
    let live : is_some (kept_of c.args.number c.self.inside.sessions.items) ≡ true = search rules in
    rw (c.in-Ok.ensures.ok, c.in_ok-grant.ensures.rows, c.in_ok-grant.ensures.names) (tables_grown c.self.inside.made c.args.number c.args.need c.args.events.now c.self.inside.sessions.items c.self.inside.waiting.items c.self.inside.locks.held c.self.inside.names live c.self.invariant)

pub returns-in-Ok-clause-ok : goal.returns-in-Ok-clause-ok
returns-in-Ok-clause-ok c =
    shown c.self.inside.made (records_of c.self.inside.locks.held c.self.inside.names.held c.self.inside.sessions.items) (records_of c.grant.new.locks.held c.grant.new.names.held c.hold.new.sessions.items) c.self.inside.waiting.items (with_session c.args.number (holding c.args.need c.args.events.now)) c.args.self.now c.self.view_is
    (rw (c.in-Ok.ensures.ok, c.in_ok-grant.ensures.rows, c.in_ok-grant.ensures.names) (records_grown c.self.inside.made c.args.number c.args.need c.args.events.now c.self.inside.sessions.items c.self.inside.waiting.items c.self.inside.locks.held c.self.inside.names c.self.invariant))
