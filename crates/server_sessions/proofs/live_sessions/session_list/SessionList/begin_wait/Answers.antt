use Rattle.std.proofs.Common.{◌≡◌, true, rules}
use Rattle.server_model.specs.States.{is_exclusive}
use Rattle.server_sessions.proofs.LiveSessions.HeldNames.{waits_queued}
use Rattle.server_sessions.proofs.live_sessions.session_list.SessionList.begin_wait.Goals as goal

pub invariant_of-self-in-Ok : goal.invariant_of-self-in-Ok
invariant_of-self-in-Ok c =
    let exclusive : is_exclusive c.args.request.now ≡ true = search rules in
    rw (c.in-Ok.ensures.ok, c.in_ok-line_up.ensures.ok, c.in_ok-names.ensures)
    (record {
      rows = c.self.invariant.rows;
      places = c.self.invariant.places;
      names = c.self.invariant.names;
      waits = waits_queued c.args.number c.args.request.now c.self.inside.names.waiting c.self.inside.waiting.items exclusive c.self.invariant.waits;
    })
