use Rattle.std.proofs.Common.{◌≡◌, true, IfSome, sym, ap, subst, ◌∙◌, arith}
use Rattle.plan_data.specs.PlanData.{PlanData}
use Rattle.tool_program.specs.JournalWords.Journals.{state_at}
use Rattle.proof_plans.specs.ReadPlans.Laws.{WasRead}
use Rattle.run_turns.specs.Runs.{is_over}
use Rattle.top_call.specs.ResumedRuns.{IsEnd}
use Rattle.top_call.specs.WholeReplays.SoundRuns.{IsSoundRun}
use Rattle.top_call.proofs.PlanWorks.SoundRuns.{resumes_left, run_left}
use Rattle.top_call.proofs.Worked.{same_turns, taken_by}
use Rattle.top_call.proofs.plan_works.work.work_plan.Goals as goal

pub whole_run-requires-clause-read : goal.whole_run-requires-clause-read
whole_run-requires-clause-read g c = subst WasRead (sym c.in_ok-ran.ensures.plan) c.requires.read

pub whole_run-requires-clause-sound : goal.whole_run-requires-clause-sound
whole_run-requires-clause-sound g c = subst (λ (plan : PlanData). IsSoundRun plan c.in_ok-ran.ran.run.journal) (sym c.in_ok-ran.ensures.plan) c.in_ok-ran.ensures.run.sound

pub whole_run-requires-clause-over : goal.whole_run-requires-clause-over
whole_run-requires-clause-over g c = λ over. subst (λ (plan : PlanData). is_over plan c.in_ok-ran.ran.run.journal ≡ true) (sym c.in_ok-ran.ensures.plan) (c.in_ok-ran.ensures.over over)

pub whole_run-requires-clause-server : goal.whole_run-requires-clause-server
whole_run-requires-clause-server g c = λ over. c.in_ok-ran.ensures.server over ∙ ap (λ (plan : PlanData). state_at plan c.in_ok-ran.ran.run.journal) (sym c.in_ok-ran.ensures.plan)

pub whole_run-requires-clause-capacity : goal.whole_run-requires-clause-capacity
whole_run-requires-clause-capacity g c = omega (arith, c.in_ok-ran.ensures.run.sound.bound, c.in_ok-ran.ensures.room)

pub whole_run-requires-clause-few : goal.whole_run-requires-clause-few
whole_run-requires-clause-few g c = same_turns c.args.plan.now c.in_ok-ran.ran.run.journal c.in_ok-ran.ran.turns.items c.args.workers c.in_ok-ran.ensures.run

pub returns-clause-taken : goal.returns-clause-taken
returns-clause-taken g c =
    let left = c.whole_run.result in
    taken_by c.args.plan.now left.turns c.in_ok-ran.ran.turns.items left.journal c.args.workers c.whole_run.ensures.turns
    (run_left c.args.plan.now c.in_ok-ran.ran.run c.in_ok-ran.ensures.plan left.journal c.in_ok-ran.ran.turns.items c.args.workers c.whole_run.ensures.whole c.in_ok-ran.ensures.run)
    (resumes_left c.args.plan.now c.in_ok-ran.ran.run c.in_ok-ran.ensures.plan left.journal c.in_ok-ran.ran.turns.items c.args.workers c.whole_run.ensures.whole c.in_ok-ran.ensures.run)

pub returns-clause-end : goal.returns-clause-end
returns-clause-end g c =
    subst (λ (plan : PlanData). IfSome c.whole_run.result.end (λ end. IsEnd plan c.whole_run.result.journal end.verdict (g.V.Serve.state end.server) end.sessions)) c.in_ok-ran.ensures.plan c.whole_run.ensures.end
