use Rattle.std.proofs.Common.{◌≡◌, true, List, ◌++◌, length, drop, IfSome, sym, ap, subst, ◌∙◌, arith}
use Rattle.plan_data.specs.PlanData.{PlanData}
use Rattle.tool_program.specs.JournalWords.Journals.{state_at}
use Rattle.proof_plans.specs.ReadPlans.Laws.{WasRead}
use Rattle.run_turns.specs.Runs.{is_over}
use Rattle.tool_program.specs.Orders.{WorkerTurn}
use Rattle.top_call.specs.Outcomes.{turns_of}
use Rattle.top_call.specs.ResumedRuns.{IsEnd}
use Rattle.top_call.specs.WholeReplays.SoundRuns.{IsSoundRun}
use Rattle.top_call.proofs.WholeReplays.SoundReplays.{logged_left, replay_left, resumes_left}
use Rattle.top_call.proofs.whole_replays.replays.replay_plan.Goals as goal

pub whole_run-requires-clause-read : goal.whole_run-requires-clause-read
whole_run-requires-clause-read g c = subst WasRead (sym c.in_ok-run.ensures.plan) c.requires.read

pub whole_run-requires-clause-sound : goal.whole_run-requires-clause-sound
whole_run-requires-clause-sound g c = subst (λ (plan : PlanData). IsSoundRun plan c.in_ok-run.run'.journal) (sym c.in_ok-run.ensures.plan) c.in_ok-run.ensures.replay.sound

pub whole_run-requires-clause-over : goal.whole_run-requires-clause-over
whole_run-requires-clause-over g c = λ over. subst (λ (plan : PlanData). is_over plan c.in_ok-run.run'.journal ≡ true) (sym c.in_ok-run.ensures.plan) (c.in_ok-run.ensures.over (c.is_over.ensures over))

pub whole_run-requires-clause-server : goal.whole_run-requires-clause-server
whole_run-requires-clause-server g c = λ over. c.in_ok-run.ensures.server (c.is_over.ensures over) ∙ ap (λ (plan : PlanData). state_at plan c.in_ok-run.run'.journal) (sym c.in_ok-run.ensures.plan)

pub whole_run-requires-clause-capacity : goal.whole_run-requires-clause-capacity
whole_run-requires-clause-capacity g c = omega (arith, c.in_ok-run.ensures.replay.sound.bound, c.requires.capacity)

pub whole_run-requires-clause-few : goal.whole_run-requires-clause-few
whole_run-requires-clause-few g c = let none : length c.args.room.items ≡ 0 = ap length c.requires.empty in omega (arith, none)

pub returns-clause-turns : goal.returns-clause-turns
returns-clause-turns g c = c.whole_run.ensures.turns ∙ ap (λ (all : List WorkerTurn). all ++ turns_of (drop (length all) c.whole_run.result.journal)) c.requires.empty

pub returns-clause-replay : goal.returns-clause-replay
returns-clause-replay g c = replay_left c.args.plan.now c.in_ok-run.run' c.in_ok-run.ensures.plan c.whole_run.result.journal c.whole_run.ensures.whole c.in_ok-run.ensures.replay

pub returns-clause-resumes : goal.returns-clause-resumes
returns-clause-resumes g c = resumes_left c.args.plan.now c.in_ok-run.run' c.in_ok-run.ensures.plan c.whole_run.result.journal c.whole_run.ensures.whole c.in_ok-run.ensures.replay

pub returns-clause-logged : goal.returns-clause-logged
returns-clause-logged g c = logged_left c.args.plan.now c.in_ok-run.run' c.in_ok-run.ensures.plan c.whole_run.result.journal c.whole_run.ensures.whole c.in_ok-run.ensures.replay c.in_ok-run.outcome.logged c.in_ok-run.ensures.logged

pub returns-clause-end : goal.returns-clause-end
returns-clause-end g c =
    subst (λ (plan : PlanData). IfSome c.whole_run.result.end (λ end. IsEnd plan c.whole_run.result.journal end.verdict (g.V.Serve.state end.server) end.sessions)) c.in_ok-run.ensures.plan c.whole_run.ensures.end
