use Rattle.std.proofs.Common.{◌≡◌, map, ap, ◌∙◌, subst}
use Rattle.std.specs.Prelude.{IfOk}
use Rattle.std.proofs.lemmas.Result.{IfOk-weaker}
use Rattle.run_turns.specs.Runs.{RunView}
use Rattle.run_finish.specs.Sessions.{live_in, sessions_at}
use Rattle.run_finish.proofs.LiveOnes.{sessions_begin}
use Rattle.run_finish.proofs.opening.prepared.Goals as goal

pub returns-clause-sessions : goal.returns-clause-sessions
returns-clause-sessions g c =
    subst (λ (run : RunView). IfOk c.sessions_of.result (λ sessions. sessions.items ≡ sessions_at run.plan run.journal)) c.reserve.ensures
    (IfOk-weaker c.sessions_of.result (λ sessions. sessions.items ≡ map live_in c.as_slice.result.now) (λ sessions. sessions.items ≡ sessions_at c.reserve.new.self.plan c.reserve.new.self.journal)
    (λ sessions is. is ∙ ap (map live_in) (c.as_slice.ensures.value ∙ c.run_state.ensures.kept.actor_states) ∙ sessions_begin c.reserve.new.self.plan c.reserve.new.self.journal) c.sessions_of.ensures)
