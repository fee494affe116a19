use Rattle.std.proofs.Common.{List, sym, subst}
use Rattle.server_model.specs.declared.entry.Entry.{Entry}
use Rattle.run_turns.specs.InHand.{HasRenames}
use Rattle.run_turns.specs.RunTurns.Invariants.{IsRun}
use Rattle.run_turns.proofs.RunTurns.Reserving.{reserved}
use Rattle.run_turns.proofs.run.Run.reserve.Goals as goal

pub invariant_of-self : goal.invariant_of-self
invariant_of-self g c =
    let inside = c.self.inside in
    subst (λ (journal : List Entry). IsRun inside.run_state.plan.now journal (record inside.run_state { journal = c.reserve.new.self }) inside.sessions (g.V.Serve.state inside.server) × HasRenames inside.run_state.plan.now journal inside.renames.items) (sym c.reserve.ensures.items)
    (reserved inside.run_state.plan.now inside.run_state.journal.items inside.run_state c.reserve.new.self inside.sessions (g.V.Serve.state inside.server) c.self.invariant.0 c.reserve.ensures.len c.reserve.ensures.capacity, c.self.invariant.1)
