use Rattle.std.proofs.Common.{inl, inr, sym, ap, ◌∙◌, arith}
use Rattle.test_histories.specs.JournalPasts.Walks.{ended_items}
use Rattle.test_histories.proofs.JournalPasts.Clients.{adds_none, missing_turn, none_there, place_adds, place_turn}
use Rattle.test_histories.proofs.journal_pasts.walks.client_turn.Goals as goal
use Rattle.test_histories.proofs.journal_pasts.walks.client_turn.Goals.{then-place-eq0-via-then-place-eq0, then-place-eq0-via-else-place-eq0+then-place-len}

pub returns-then-place-eq0-clause-item : goal.returns-then-place-eq0-clause-item
returns-then-place-eq0-clause-item c = λ plan before are. adds_none plan before c.args.entry.now c.args.clients.now.items c.args.client c.requires are (none_there c.args.clients.now.items c.args.client (elim c.then-place-eq0.branch [
  | then-place-eq0-via-then-place-eq0 w ↦ inl (omega (arith, w.if-place-eq0.true))
  | then-place-eq0-via-else-place-eq0+then-place-len w ↦ inr (omega (arith, w.if-place-len.true, w.len.ensures))
]))

pub returns-then-place-eq0-clause-clients : goal.returns-then-place-eq0-clause-clients
returns-then-place-eq0-clause-clients c = λ plan before are. missing_turn plan before c.args.entry.now c.args.clients.now.items c.args.client c.requires (none_there c.args.clients.now.items c.args.client (elim c.then-place-eq0.branch [
  | then-place-eq0-via-then-place-eq0 w ↦ inl (omega (arith, w.if-place-eq0.true))
  | then-place-eq0-via-else-place-eq0+then-place-len w ↦ inr (omega (arith, w.if-place-len.true, w.len.ensures))
])) are

pub returns-in-Some-clause-item : goal.returns-in-Some-clause-item
returns-in-Some-clause-item c = λ plan before are.
    sym (ap ended_items c.in-Some.is)
    ∙ c.in_ok-past.ensures.ended
    ∙ place_adds plan before c.args.entry.now c.args.clients.now.items c.args.client c.index_mut.result.now c.requires (omega (arith, c.if-place-eq0.false)) (omega (arith, c.if-place-eq0.false, c.if-place-len.false, c.len.ensures)) c.index_mut.ensures.value are

pub returns-in-Some-clause-clients : goal.returns-in-Some-clause-clients
returns-in-Some-clause-clients c = λ plan before are.
    place_turn plan before c.args.entry.now c.args.clients.now.items c.args.client c.index_mut.result.now c.turn.new.self c.requires (omega (arith, c.if-place-eq0.false)) (omega (arith, c.if-place-eq0.false, c.if-place-len.false, c.len.ensures)) c.index_mut.ensures.value
    c.in_ok-past.ensures.rest are

pub returns-in-None-clause-item : goal.returns-in-None-clause-item
returns-in-None-clause-item c = λ plan before are.
    sym (ap ended_items c.in-None.is)
    ∙ c.in_ok-past.ensures.ended
    ∙ place_adds plan before c.args.entry.now c.args.clients.now.items c.args.client c.index_mut.result.now c.requires (omega (arith, c.if-place-eq0.false)) (omega (arith, c.if-place-eq0.false, c.if-place-len.false, c.len.ensures)) c.index_mut.ensures.value are

pub returns-in-None-clause-clients : goal.returns-in-None-clause-clients
returns-in-None-clause-clients c = λ plan before are.
    place_turn plan before c.args.entry.now c.args.clients.now.items c.args.client c.index_mut.result.now c.turn.new.self c.requires (omega (arith, c.if-place-eq0.false)) (omega (arith, c.if-place-eq0.false, c.if-place-len.false, c.len.ensures)) c.index_mut.ensures.value
    c.in_ok-past.ensures.rest are
