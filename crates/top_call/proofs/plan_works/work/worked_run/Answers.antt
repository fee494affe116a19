use Rattle.std.proofs.Common.{◌≡◌, ◌≤◌, true, sym, ap, subst, ◌∙◌}
use Rattle.std.specs.Prelude.{vec_capacity}
use Rattle.plan_data.specs.PlanData.{PlanData}
use Rattle.tool_program.specs.JournalWords.Journals.{state_at}
use Rattle.run_turns.specs.Runs.{RunView, is_over}
use Rattle.run_workers.specs.WorkerRun.Workers.{IsGoing}
use Rattle.top_call.proofs.PlanWorks.SoundRuns.{of_run, own_plan, sound_run_of}
use Rattle.top_call.proofs.plan_works.work.worked_run.Goals as goal

pub open-requires-clause-runs : goal.open-requires-clause-runs
open-requires-clause-runs g c = c.read_plans_are_runnable.ensures c.args.plan.now c.requires.read

pub open-requires-2-clause-pause : goal.open-requires-2-clause-pause
open-requires-2-clause-pause g c =
    subst (λ (run : RunView). 1 ≤ run.plan.options.replica_pause) (sym c.in_ok-opened.ensures) (c.read_options_allow.ensures c.requires.read.bytes c.args.plan.now c.requires.read.is).pause

pub run_by_workers-requires-clause-going : goal.run_by_workers-requires-clause-going
run_by_workers-requires-clause-going g c = λ names lives.
    subst (λ (run : RunView). IsGoing run.plan) (sym (c.in_ok-feed.ensures.run ∙ c.in_ok-opened.ensures)) (c.read_plans_go.ensures c.args.plan.now c.requires.read)

pub returns-clause-plan : goal.returns-clause-plan
returns-clause-plan g c = own_plan c.args.plan.now c.in_ok-feed.feed.run.plan c.in_ok-ran.ran.run (ap (λ (run : RunView). run.plan) (c.in_ok-feed.ensures.run ∙ c.in_ok-opened.ensures)) c.in_ok-ran.ensures.plan

pub returns-clause-run : goal.returns-clause-run
returns-clause-run g c =
    sound_run_of c.args.plan.now c.in_ok-feed.feed.run.plan c.in_ok-ran.ran.run (ap (λ (run : RunView). run.plan) (c.in_ok-feed.ensures.run ∙ c.in_ok-opened.ensures)) c.in_ok-ran.ensures.plan c.kept_runs_are_sound.ensures c.in_ok-ran.ran.turns.items c.args.workers c.requires.read
    c.in_ok-ran.ensures.kept c.in_ok-ran.ensures.numbered c.in_ok-ran.ensures.order c.in_ok-ran.ensures.stops c.journal-few.ensures.bound

pub returns-clause-over : goal.returns-clause-over
returns-clause-over g c = λ ended.
    of_run c.args.plan.now c.in_ok-feed.feed.run.plan c.in_ok-ran.ran.run (ap (λ (run : RunView). run.plan) (c.in_ok-feed.ensures.run ∙ c.in_ok-opened.ensures)) c.in_ok-ran.ensures.plan (λ (p : PlanData). is_over p c.in_ok-ran.ran.run.journal ≡ true) (c.in_ok-ran.ensures.over ended)

pub returns-clause-server : goal.returns-clause-server
returns-clause-server g c = λ ended.
    of_run c.args.plan.now c.in_ok-feed.feed.run.plan c.in_ok-ran.ran.run (ap (λ (run : RunView). run.plan) (c.in_ok-feed.ensures.run ∙ c.in_ok-opened.ensures)) c.in_ok-ran.ensures.plan (λ (p : PlanData). c.in_ok-ran.ran.run.server ≡ state_at p c.in_ok-ran.ran.run.journal) (c.in_ok-ran.ensures.server ended)

pub returns-clause-room : goal.returns-clause-room
returns-clause-room g c =
    subst (λ (run : RunView). run.plan.options.turn_limit ≤ vec_capacity c.in_ok-ran.ran.turns) (c.in_ok-feed.ensures.run ∙ c.in_ok-opened.ensures) c.in_ok-ran.ensures.room
