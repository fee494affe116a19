-- The replay of a plan that was read.
use Rattle.std.proofs.Common.{◌≡◌, ℕ, ◌≤◌, ◌≢◌, nat_le, Bool, true, false, ◌||◌, List, [], ◌∷◌, length, cond, Option, Some, None, refl, sym, ap, subst, ◌∙◌}
use Rattle.std.specs.List.{list_any}
use Rattle.base_script.specs.declared.actor.Actor.{Actor}
use Rattle.server_model.specs.declared.entry.Entry.{Entry}
use Rattle.plan_data.specs.PlanData.{PlanData}
use Rattle.tool_program.specs.JournalWords.Journals.{state_at}
use Rattle.tool_program.specs.JournalWords.Sessions.{KeepsSessions}
use Rattle.tool_program.specs.Orders.{actors, may_go, Found, Queue, first_ready, from_pass, from_round, from_words, actor_of, chosen, queue_at, next_actor, IsReplay}
use Rattle.tool_program.specs.Verdicts.{has_ended}
use Rattle.proof_journals.specs.Run.Kept.{IsKept}
use Rattle.tool_program.specs.Replay.{OneReplay}
use Rattle.proof_plans.specs.ReadPlans.Laws.{WasRead}
use Rattle.proof_feeds.proofs.Behind.{replay_turns_may_go, turns_stay_behind}
use Rattle.proof_feeds.proofs.Holding.{someone_may_go}
use Rattle.proof_plans.specs.Laws.{AcceptedRunsGoOn}
use Rattle.run_turns.specs.Runs.{RunView, is_over, Stops}
use Rattle.run_replay.specs.WholeReplay.Marks.{logged_at_mark}
use Rattle.run_replay.specs.WholeReplay.Replays.{IsStalled}
use Rattle.run_turns.specs.declared.run.Stepped.{Stepped}
use Rattle.run_turns.specs.declared.run.Stepped.TheVariants as answers
use Rattle.top_call.specs.ResumedRuns.{IsWholeRun, Resumes, run_in}
use Rattle.top_call.specs.WholeReplays.SoundRuns.{KeptRunsAreSound}
use Rattle.top_call.specs.WholeReplays.Replays.{IsSoundReplay}
use Rattle.top_call.proofs.ResumedRuns.{of_whole, whole_resumes}

abbrev kept_of : (plan : PlanData) (journal : List Entry) → IsReplay plan journal → KeepsSessions journal → IsKept plan journal
kept_of plan journal replay sessions = record { faithful = replay.faithful; planned = replay.planned; follows = replay.follows; sessions = sessions }

-- *Sound replay*
pub sound_replay : KeptRunsAreSound → OneReplay → (plan : PlanData) (journal : List Entry) → WasRead plan → IsReplay plan journal → KeepsSessions journal → length journal ≤ plan.options.turn_limit → Stops plan journal → IsSoundReplay plan journal
unfolding KeptRunsAreSound
sound_replay sound one plan journal was replay sessions bound stops = record {
  sound = sound plan journal was (kept_of plan journal replay sessions) replay.numbered bound stops;
  replay = replay;
  behind = turns_stay_behind plan journal replay.follows (replay_turns_may_go plan journal replay.order);
  only = λ other others same. one plan other journal others replay same;
}

-- NOBODY MAY GO

some_ready : (ready : Actor → Bool) (all : List Actor) → first_ready ready all ≡ None → list_any ready all ≡ false
unfolding first_ready
some_ready ready [] none = refl
some_ready ready (actor ∷ others) none = by (ready actor) none (some_ready ready others) where
  by : (b : Bool) → cond b (Some (record { actor = actor; following = others })) (first_ready ready others) ≡ None → (first_ready ready others ≡ None → list_any ready others ≡ false) → (b || list_any ready others) ≡ false
  by true none rest = absurd cc
  by false none rest = rest none

none_passed : (found : Option Found) → actor_of (from_pass found) ≡ None → found ≡ None
none_passed None is = refl
none_passed (Some found) is = absurd cc

none_round : (ready : Actor → Bool) (all : List Actor) (found : Option Found) → actor_of (from_round ready all found) ≡ None → first_ready ready all ≡ None
none_round ready all None is = none_passed (first_ready ready all) is
none_round ready all (Some found) is = absurd cc

none_words : (ready : Actor → Bool) (all : List Actor) (queue : Queue) (found : Option Found) → actor_of (from_words ready all queue found) ≡ None → first_ready ready all ≡ None
none_words ready all queue None is = none_round ready all (first_ready ready queue.round) is
none_words ready all queue (Some found) is = absurd cc

nobody_goes : (plan : PlanData) (journal : List Entry) → next_actor plan journal ≡ None → list_any (may_go plan journal) (actors plan) ≡ false
unfolding next_actor chosen
nobody_goes plan journal none =
    some_ready (may_go plan journal) (actors plan) (none_words (may_go plan journal) (actors plan) (queue_at plan journal) (first_ready (may_go plan journal) (queue_at plan journal).words) none)

-- a run in which nobody may go has ended
stalled_over : AcceptedRunsGoOn → (plan : PlanData) (journal : List Entry) → WasRead plan → IsKept plan journal → IsStalled plan journal → is_over plan journal ≡ true
unfolding is_over
stalled_over goes plan journal was kept stalled = by (has_ended plan journal) refl where
  by : (b : Bool) → has_ended plan journal ≡ b → (b || nat_le plan.options.turn_limit (length journal)) ≡ true
  by true is = refl
  by false is = absurd (let going = someone_may_go plan journal (goes plan journal was kept is) in let none = nobody_goes plan journal stalled.nobody in cc)

-- *Replays end over*
pub over_after : AcceptedRunsGoOn → (plan : PlanData) (journal : List Entry) (answer : Stepped) → WasRead plan → IsReplay plan journal → KeepsSessions journal → answer ≢ answers.NoMemory → answer ≢ answers.Took → (answer ≡ answers.Over → is_over plan journal ≡ true) → (answer ≡ answers.Idle → IsStalled plan journal) → is_over plan journal ≡ true
over_after goes plan journal answers.Over was replay sessions memory stopped over stalled = over refl
over_after goes plan journal answers.Idle was replay sessions memory stopped over stalled = stalled_over goes plan journal was (kept_of plan journal replay sessions) (stalled refl)
over_after goes plan journal answers.NoMemory was replay sessions memory stopped over stalled = absurd (memory refl)
over_after goes plan journal answers.Took was replay sessions memory stopped over stalled = absurd (stopped refl)

-- OF THE RUN THAT A REPLAY LEFT

-- the run behind a replay is this one, of this plan
module _ (plan : PlanData) (replayed run : RunView) (run_is : run ≡ replayed) (plan_is : replayed.plan ≡ plan) where
  of_run : (P : PlanData → RunView → Type 0) → P replayed.plan replayed → P plan run
  of_run P is = subst (λ (p : PlanData). P p run) plan_is (subst (P replayed.plan) (sym run_is) is)

  pub own_plan : run.plan ≡ plan
  own_plan = ap (λ (r : RunView). r.plan) run_is ∙ plan_is

  pub sound_so : KeptRunsAreSound → OneReplay → WasRead plan → IsReplay replayed.plan replayed.journal → KeepsSessions run.journal → length run.journal ≤ run.plan.options.turn_limit → Stops replayed.plan replayed.journal → IsSoundReplay plan run.journal
  sound_so sound one was replay sessions bound stops =
      sound_replay sound one plan run.journal was (of_run (λ (p : PlanData) (r : RunView). IsReplay p r.journal) replay) sessions (subst (λ (p : PlanData). length run.journal ≤ p.options.turn_limit) own_plan bound) (of_run (λ (p : PlanData) (r : RunView). Stops p r.journal) stops)

  pub logged_so : (tables : List (List ℕ)) (logged : Option ℕ) → tables ≡ plan.table ∷ [] → logged ≡ logged_at_mark replayed.plan tables replayed.journal → logged ≡ logged_at_mark plan (plan.table ∷ []) run.journal
  logged_so tables logged tables_are counted = of_run (λ (p : PlanData) (r : RunView). logged ≡ logged_at_mark p tables r.journal) counted ∙ ap (λ (t : List (List ℕ)). logged_at_mark plan t run.journal) tables_are

  pub over_so : AcceptedRunsGoOn → (answer : Stepped) → WasRead plan → IsReplay replayed.plan replayed.journal → KeepsSessions run.journal → answer ≢ answers.Took → (answer ≡ answers.Over → is_over replayed.plan replayed.journal ≡ true) → (answer ≡ answers.Idle → IsStalled replayed.plan replayed.journal) → answer ≢ answers.NoMemory → is_over plan run.journal ≡ true
  over_so goes answer was replay sessions stopped over stalled memory =
      over_after goes plan run.journal answer was (of_run (λ (p : PlanData) (r : RunView). IsReplay p r.journal) replay) sessions memory stopped (λ is. of_run (λ (p : PlanData) (r : RunView). is_over p r.journal ≡ true) (over is)) (λ is. of_run (λ (p : PlanData) (r : RunView). IsStalled p r.journal) (stalled is))

  pub server_so : replayed.server ≡ state_at replayed.plan replayed.journal → run.server ≡ state_at plan run.journal
  server_so is = of_run (λ (p : PlanData) (r : RunView). r.server ≡ state_at p r.journal) is

-- and of the journal that it left, with the new tool's turns where one came
module _ (plan : PlanData) (run : RunView) (plan_is : run.plan ≡ plan) (journal : List Entry) (whole : IsWholeRun run.plan run.journal journal) (is : IsSoundReplay plan run.journal) where
  whole_so : IsWholeRun plan run.journal journal
  whole_so = subst (λ (p : PlanData). IsWholeRun p run.journal journal) plan_is whole

  pub replay_left : IsSoundReplay plan (run_in plan journal)
  replay_left = of_whole (IsSoundReplay plan) plan run.journal journal is.sound.bound whole_so is

  pub resumes_left : Resumes plan journal
  resumes_left = whole_resumes plan run.journal journal is.sound.bound whole_so

  pub logged_left : (logged : Option ℕ) → logged ≡ logged_at_mark plan (plan.table ∷ []) run.journal → logged ≡ logged_at_mark plan (plan.table ∷ []) (run_in plan journal)
  logged_left logged counted = of_whole (λ (all : List Entry). logged ≡ logged_at_mark plan (plan.table ∷ []) all) plan run.journal journal is.sound.bound whole_so counted
