-- The turn that the book took is counted, and the book goes back to its slot.
use Rattle.std.proofs.Common.{◌≡◌, ◌≢◌, [], ◌∷◌, ◌++◌, sym, ap, ◌∙◌, subst, subst₂, true≢false}
use Rattle.std.specs.Prelude.{Bool, true, false, Result, Ok}
use Rattle.std.specs.declared.alloc.AllocError.{AllocError}
use Rattle.run_desk.specs.Boards.{Ends}
use Rattle.run_desk.proofs.Turning.{slot, counted, rested, lent, is_taken, ended}
use Rattle.run_desk.proofs.steps.take.Goals as goal
use Rattle.run_desk.proofs.steps.take.Goals.{then-was_taken, else-was_taken}

no_end : (taken : Result Bool AllocError) → taken ≡ Ok true → taken ≢ Ok false
no_end taken took over = true≢false (ap is_taken (sym took ∙ over))

pub exchange-requires : goal.exchange-requires
exchange-requires g c = let h = c.requires.holds in (c.requires.board.0, slot _ _ _ _ _ _ _ h.3)

pub serve-requires-clause-holds : goal.serve-requires-clause-holds
serve-requires-clause-holds g c =
    let h = c.requires.holds in
    let b = c.take_turn-taken.new.self in
    let back = lent g.B.SharedState.opening g.B.SharedState.entries h.0 h.1 c.args.worker h.2 c.args.seat.now.me h.3 c.exchange.result c.in-Some.shared_state b c.exchange.new.seat.me c.exchange-2.new.seat.me
    c.exchange.ensures.2 c.in-Some.is c.exchange.ensures.3 c.exchange-2.ensures.3 in
    let opens = c.take_turn-taken.ensures.opening ∙ back.opened in
    elim c.if-was_taken.branch [
      | then-was_taken w ↦
          let took = c.take_turn-taken.ensures.took (c.was_taken.ensures.took w.if-was_taken.true) in
          let more = took.1 ∙ ap (λ l. l ++ record { worker = c.args.worker; event = took.0 } ∷ []) back.listed in
          let me = counted g.B.SharedState.opening g.B.SharedState.entries h.0 h.1 c.args.worker h.2 c.exchange-2.new.seat.me w.count.new.seat.me h.3.0 b took.0 back.me more w.count.ensures.entry.0 w.count.ensures.entry.1 in
          (h.0, h.1 ++ record { worker = c.args.worker; event = took.0 } ∷ [], c.args.worker, h.2 ++ record { worker = c.args.worker; event = took.0 } ∷ [], (h.3.0, b, ap (λ s. s.me) w.seat-is ∙ me, opens, more))
      | else-was_taken w ↦
          let same = c.take_turn-taken.ensures.others (c.was_taken.ensures.others w.if-was_taken.false) in
          (h.0, h.1, c.args.worker, h.2, (h.3.0, b, ap (λ s. s.me) w.seat-is ∙ back.me, opens, same ∙ back.listed))
    ]

pub returns-clause-taken : goal.returns-clause-taken
returns-clause-taken g c = λ opening entries own held.
    let b = c.take_turn-taken.new.self in
    let back = lent g.B.SharedState.opening g.B.SharedState.entries opening entries c.args.worker own c.args.seat.now.me held c.exchange.result c.in-Some.shared_state b c.exchange.new.seat.me c.exchange-2.new.seat.me
    c.exchange.ensures.2 c.in-Some.is c.exchange.ensures.3 c.exchange-2.ensures.3 in
    let here = λ (is : g.B.SharedState.is_over opening entries). c.take_turn-taken.ensures.over.1 (subst₂ g.B.SharedState.is_over (sym back.opened) (sym back.listed) is) in
    elim c.if-was_taken.branch [
      | then-was_taken w ↦
          let took = c.take_turn-taken.ensures.took (c.was_taken.ensures.took w.if-was_taken.true) in
          let more = took.1 ∙ ap (λ l. l ++ record { worker = c.args.worker; event = took.0 } ∷ []) back.listed in
          let me = counted g.B.SharedState.opening g.B.SharedState.entries opening entries c.args.worker own c.exchange-2.new.seat.me w.count.new.seat.me held.0 b took.0 back.me more w.count.ensures.entry.0 w.count.ensures.entry.1 in
          subst (λ (t : Result Bool AllocError). Ends g.B.SharedState.is_over opening entries c.args.worker own t c.serve.new.seat.me) (sym (c.was_taken.ensures.took w.if-was_taken.true)) (
            took.0,
            rested g.B.SharedState.opening g.B.SharedState.entries opening (entries ++ record { worker = c.args.worker; event = took.0 } ∷ []) c.args.worker (own ++ record { worker = c.args.worker; event = took.0 } ∷ []) c.if-was_taken.seat.me c.serve.new.seat.me held.0 b (ap (λ s. s.me) w.seat-is ∙ me) c.serve.ensures.rests,
            λ is. no_end c.take_turn-taken.result (c.was_taken.ensures.took w.if-was_taken.true) (here is),
          )
      | else-was_taken w ↦
          let me = rested g.B.SharedState.opening g.B.SharedState.entries opening entries c.args.worker own c.if-was_taken.seat.me c.serve.new.seat.me held.0 b (ap (λ s. s.me) w.seat-is ∙ back.me) c.serve.ensures.rests in
          ended g.B.SharedState.is_over opening entries c.args.worker own c.take_turn-taken.result c.serve.new.seat.me (c.was_taken.ensures.others w.if-was_taken.false) (λ is. subst₂ g.B.SharedState.is_over back.opened back.listed (c.take_turn-taken.ensures.over.0 is)) here me
    ]
