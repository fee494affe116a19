use Rattle.std.proofs.Common.{◌≤◌, ◌∙◌, sym, ap, arith}
use Rattle.run_finish.proofs.States.{after_self, session_own, may, most_made, still, entry_is, turned, takes}
use Rattle.run_finish.proofs.finish_state.FinishState.take.Goals as goal

pub returns-in_err-make_room-clause-state : goal.returns-in_err-make_room-clause-state
returns-in_err-make_room-clause-state g c =
    let old = c.args.self.now in
    let state = g.V.Serve.state c.args.server.now in
    let grown : old.made ≤ c.make_room.new.self.made = c.make_room.ensures.made in
    let made : state.made ≤ old.made = c.requires.state.made in
    still old state c.args.turn c.requires.state c.requires.taken c.requires.next c.make_room.new.self state c.make_room.ensures.items c.make_room.ensures.same (after_self state) (omega (arith, grown, made))

pub take_turn-requires-clause-may : goal.take_turn-requires-clause-may
take_turn-requires-clause-may g c =
    let old = c.args.self.now in
    let state = g.V.Serve.state c.args.server.now in
    let own = session_own old state c.args.turn c.requires.state c.requires.taken c.requires.next c.as_slice.result.now c.as_slice.ensures.value in
    may old state c.args.turn c.requires.state c.requires.taken c.requires.next c.session_of-session.result c.make_room.new.self.made (c.session_of-session.ensures ∙ own) c.make_room.ensures.made c.make_room.ensures.most c.in_ok-make_room.ensures.opens

pub returns-in_err-taken-clause-state : goal.returns-in_err-taken-clause-state
returns-in_err-taken-clause-state g c =
    let old = c.args.self.now in
    let state = g.V.Serve.state c.args.server.now in
    let left = g.V.Serve.state c.take_turn.new.server in
    let most = most_made old state c.args.turn c.requires.state c.requires.taken c.requires.next c.session_of-session.result c.make_room.new.self.made c.make_room.ensures.made c.in_ok-make_room.ensures.opens in
    still old state c.args.turn c.requires.state c.requires.taken c.requires.next c.make_room.new.self left c.make_room.ensures.items c.make_room.ensures.same c.in_err-taken.ensures.err (omega (arith, c.take_turn.ensures.made, most))

pub returns-clause-state : goal.returns-clause-state
returns-clause-state g c =
    let old = c.args.self.now in
    let state = g.V.Serve.state c.args.server.now in
    let left = g.V.Serve.state c.take_turn.new.server in
    let taken = c.in_ok-taken.taken in
    let most = most_made old state c.args.turn c.requires.state c.requires.taken c.requires.next c.session_of-session.result c.make_room.new.self.made c.make_room.ensures.made c.in_ok-make_room.ensures.opens in
    let own = session_own old state c.args.turn c.requires.state c.requires.taken c.requires.next c.as_slice.result.now c.as_slice.ensures.value in
    let entry = entry_is old state c.args.turn c.requires.state c.requires.taken c.requires.next c.session_of-session.result (c.session_of-session.ensures ∙ own) in
    turned old state c.args.turn c.requires.state c.requires.taken c.requires.next c.make_room.new.self c.keep.new.self taken.entry taken.counts left c.make_room.ensures.items c.make_room.ensures.same c.keep.ensures.journal c.keep.ensures.sessions c.keep.ensures.same
    (c.in_ok-taken.ensures.entry ∙ entry) (c.in_ok-taken.ensures.ok ∙ ap (Rattle.tool_program.specs.JournalWords.Journals.after_entry state) (sym c.in_ok-taken.ensures.entry)) c.in_ok-taken.ensures.counts (omega (arith, c.take_turn.ensures.made, most))

pub returns-clause-ok : goal.returns-clause-ok
returns-clause-ok g c =
    let old = c.args.self.now in
    let state = g.V.Serve.state c.args.server.now in
    let left = g.V.Serve.state c.take_turn.new.server in
    let taken = c.in_ok-taken.taken in
    let own = session_own old state c.args.turn c.requires.state c.requires.taken c.requires.next c.as_slice.result.now c.as_slice.ensures.value in
    let entry = entry_is old state c.args.turn c.requires.state c.requires.taken c.requires.next c.session_of-session.result (c.session_of-session.ensures ∙ own) in
    takes old state c.args.turn c.requires.state c.requires.taken c.requires.next c.make_room.new.self c.keep.new.self taken.entry taken.counts left c.make_room.ensures.items c.make_room.ensures.same c.keep.ensures.journal c.keep.ensures.sessions c.keep.ensures.same
    (c.in_ok-taken.ensures.entry ∙ entry) (c.in_ok-taken.ensures.ok ∙ ap (Rattle.tool_program.specs.JournalWords.Journals.after_entry state) (sym c.in_ok-taken.ensures.entry))
