use Rattle.std.proofs.Common.{Option, subst}
use Rattle.std.specs.Prelude.{IfSome}
use Rattle.run_turns.specs.declared.due_turns.migration_run.turn.Turn.{Turn}
use Rattle.run_finish.specs.Invariants.{IsNext}
use Rattle.run_finish.proofs.States.{read_state, advances}
use Rattle.run_finish.proofs.finish_state.FinishState.advance.Goals as goal

pub next_turn-requires-clause-state : goal.next_turn-requires-clause-state
next_turn-requires-clause-state g c = read_state c.args.self.now c.read_last.new.self (g.V.Serve.state c.args.server.now) c.requires c.in_ok-read_last.ensures.ok

pub returns-in_err-turn-clause-state : goal.returns-in_err-turn-clause-state
returns-in_err-turn-clause-state g c = read_state c.args.self.now c.read_last.new.self (g.V.Serve.state c.args.server.now) c.requires c.in_ok-read_last.ensures.ok

pub take-requires-clause-state : goal.take-requires-clause-state
take-requires-clause-state g c = read_state c.args.self.now c.read_last.new.self (g.V.Serve.state c.args.server.now) c.requires c.in_ok-read_last.ensures.ok

pub returns-in-None-clause-state : goal.returns-in-None-clause-state
returns-in-None-clause-state g c = read_state c.args.self.now c.read_last.new.self (g.V.Serve.state c.args.server.now) c.requires c.in_ok-read_last.ensures.ok

pub returns-in_ok-take-in-Some-clause-took : goal.returns-in_ok-take-in-Some-clause-took
returns-in_ok-take-in-Some-clause-took g c =
    let comes : IsNext c.read_last.new.self c.in-Some.turn = subst (λ (next : Option Turn). IfSome next (λ turn. IsNext c.read_last.new.self turn)) c.in-Some.is c.in_ok-turn.ensures.turn in
    λ same. advances c.args.self.now c.read_last.new.self c.take.new.self (g.V.Serve.state c.args.server.now) (g.V.Serve.state c.take.new.server) c.in-Some.turn c.in_ok-read_last.ensures.ok comes c.in_ok-take-in-Some.ensures.ok
