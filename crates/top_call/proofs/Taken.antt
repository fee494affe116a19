-- A run that is over: turns were taken, and it ended as its verdict says.
use Rattle.std.proofs.Common.{◌≡◌, ℕ, suc, ◌==◌, ◌≤◌, ◌<◌, nat_le, Bool, true, false, not, ◌&&◌, ◌||◌, List, [], ◌∷◌, length, refl, sym, ap, ◌∙◌, subst, arith}
use Rattle.std.specs.List.{list_any}
use Rattle.std.proofs.lemmas.Bool.{or_parts, true≢false}
use Rattle.std.proofs.lemmas.Bool.Decides.{nat_tests}
use Rattle.tool_program.specs.Orders.{WorkerTurn}
use Rattle.server_model.specs.declared.entry.Entry.{Entry}
use Rattle.server_model.specs.declared.outcome.Cause.{Cause}
use Rattle.server_model.specs.declared.outcome.Verdict.{Verdict}
use Rattle.server_model.specs.declared.outcome.Verdict.TheVariants as verdicts
use Rattle.plan_data.specs.PlanData.{PlanData}
use Rattle.tool_finish.specs.Finishes.{finish_verdict}
use Rattle.tool_program.specs.JournalWords.Bounds.{bound}
use Rattle.tool_program.specs.JournalWords.Histories.{history, is_alter}
use Rattle.tool_program.specs.JournalWords.Journals.{IsFaithful}
use Rattle.tool_program.specs.Programs.{Follows}
use Rattle.tool_program.specs.Tools.{moment}
use Rattle.tool_program.specs.Verdicts.{has_ended, verdict_of}
use Rattle.proof_journals.specs.Run.Kept.{IsKept}
use Rattle.proof_journals.specs.Machine.Laws.{TellsAlter}
use Rattle.proof_order.proofs.Phases.{and_left}
use Rattle.proof_plans.specs.ReadPlans.Laws.{WasRead}
use Rattle.run_turns.specs.Runs.{is_over}
use Rattle.top_call.specs.ResumedRuns.{Resumes, TellsAlterAt, finish_in, has_ended_at, has_finished, is_over_at, is_resumed, run_in, verdict_at}
use Rattle.top_call.specs.WholeReplays.SoundRuns.{IsSoundRun, EndsInTime}
use Rattle.top_endings.specs.declared.command.PlanCommand.{PlanCommand}
use Rattle.top_endings.specs.declared.command.PlanCommand.TheVariants.{Check, Replay, Run, Trace, Rebuild}
use Rattle.top_call.specs.Outcomes.{Takes}
use Rattle.top_call.specs.Promises.{Completes, EndsBy, IsDoneWhereSmooth, IsDoneWithRoom}
use Rattle.top_call.specs.TopLaws.{Laws}
use Rattle.proof_audit.proofs.Wholes.{none_unfinished, run_whole}
use Rattle.top_call.proofs.ResumedRuns.{all_run, alone, at_limit, gone_on_verdict, spent}

pub tells_alter : Laws → (plan : PlanData) (journal : List Entry) → WasRead plan → IsFaithful plan journal → Follows plan journal → has_ended plan journal ≡ true → TellsAlter plan journal
tells_alter laws plan journal was faithful follows ended = laws.tell plan journal (laws.runnable plan was).fitting (laws.runnable plan was).stands faithful follows ended

-- the run whose turns a command takes is sound, whichever it is
pub sound_of : (chosen : PlanCommand) (plan : PlanData) (turns : List WorkerTurn) (journal : List Entry) → Takes chosen plan turns journal → IsSoundRun plan (run_in plan journal)
sound_of Check plan turns journal taken = absurd taken
sound_of Replay plan turns journal taken = taken.run.sound
sound_of (Run workers) plan turns journal taken = taken.run.sound
sound_of Trace plan turns journal taken = taken.run.sound
sound_of (Rebuild workers) plan turns journal taken = taken.0.run.sound

-- and behind it are a new tool's where one comes
pub resumes_of : (chosen : PlanCommand) (plan : PlanData) (turns : List WorkerTurn) (journal : List Entry) → Takes chosen plan turns journal → Resumes plan journal
resumes_of Check plan turns journal taken = absurd taken
resumes_of Replay plan turns journal taken = taken.resumes
resumes_of (Run workers) plan turns journal taken = taken.resumes
resumes_of Trace plan turns journal taken = taken.resumes
resumes_of (Rebuild workers) plan turns journal taken = taken.0.resumes

-- *Completes*
pub completes : Laws → (plan : PlanData) (journal : List Entry) → WasRead plan → IsKept plan journal → Completes plan journal
completes laws plan journal was kept is_quiet converted_rows within ended = laws.quiet plan journal is_quiet converted_rows (laws.runnable plan was) (laws.serial was.bytes plan was.is) kept within ended

-- *Done where smooth*
pub done_where_smooth : Laws → (plan : PlanData) (journal : List Entry) → WasRead plan → IsKept plan journal → IsDoneWhereSmooth plan journal
done_where_smooth laws plan journal was kept smooth ended = laws.smooth plan journal (laws.runnable plan was).fitting (laws.runnable plan was).stands kept.faithful kept.follows smooth ended

-- HOW IT ENDED

not_done : verdicts.Unfinished ≡ verdicts.Done → ⊥
not_done same = cc

not_reverted : (cause : Cause) → verdicts.Unfinished ≡ verdicts.Reverted cause → ⊥
not_reverted cause same = cc

-- the bound is more than the turns that the plan allows, of which there is none left
past_limit : (limit count most : ℕ) → nat_le limit count ≡ true → count < most → limit < most
past_limit limit count most full few = grind (arith, nat_tests, full, few)

no_room : (limit count most : ℕ) → nat_le limit count ≡ true → count < most → most ≤ limit → ⊥
no_room limit count most full few room = grind (arith, nat_tests, full, few, room)

-- a journal that isn't gone on with ended unfinished
as_unended : (plan : PlanData) (journal : List Entry) (verdict : Verdict) → EndsInTime plan journal → has_ended plan journal ≡ false → is_over plan journal ≡ true → length journal ≤ plan.options.turn_limit → is_resumed plan journal ≡ false → verdicts.Unfinished ≡ verdict → EndsBy plan journal verdict
as_unended plan journal verdicts.Unfinished ends is over few alone same =
    (is, at_limit plan.options.turn_limit (length journal) (spent plan journal is over) few, past_limit plan.options.turn_limit (length journal) (bound plan) (spent plan journal is over) (ends is), alone)
as_unended plan journal verdicts.Done ends is over few alone same = absurd (not_done same)
as_unended plan journal (verdicts.Reverted cause) ends is over few alone same = absurd (not_reverted cause same)

-- one that has ended didn't
chosen : (plan : PlanData) (journal : List Entry) → TellsAlterAt plan journal → verdict_at plan journal ≡ verdicts.Unfinished → ⊥
chosen plan journal tells is = by (list_any is_alter (history plan journal)) refl where
  by : (b : Bool) → list_any is_alter (history plan journal) ≡ b → ⊥
  by true alters = not_done (sym is ∙ tells.done alters)
  by false alters = not_reverted (tells.reverted alters).0 (sym is ∙ (tells.reverted alters).1)

as_ended : (plan : PlanData) (journal : List Entry) (verdict : Verdict) → has_ended_at plan journal ≡ true → TellsAlterAt plan journal → verdict_at plan journal ≡ verdict → EndsBy plan journal verdict
as_ended plan journal verdicts.Unfinished ended tells same = absurd (chosen plan journal tells same)
as_ended plan journal verdicts.Done ended tells same = ended
as_ended plan journal (verdicts.Reverted cause) ended tells same = ended

-- where the new tool isn't over, there is none
not_gone_on : (a b c : Bool) → (a && (not b || c)) ≡ true → c ≡ false → (a ≡ true) × (b ≡ false)
not_gone_on true false false over going = (refl, refl)
not_gone_on true true false over going = absurd cc
not_gone_on false b c over going = absurd cc
not_gone_on true b true over going = absurd cc

-- *Ended as its verdict says*
pub ends_as : (plan : PlanData) (journal : List Entry) (verdict : Verdict) → EndsInTime plan (run_in plan journal) → Resumes plan journal → (has_ended_at plan journal ≡ true → TellsAlterAt plan journal) → is_over_at plan journal ≡ true → length (run_in plan journal) ≤ plan.options.turn_limit → verdict_at plan journal ≡ verdict → EndsBy plan journal verdict
ends_as plan journal verdict ends resumes tells over few same = by (has_ended_at plan journal) refl where
  by : (b : Bool) → has_ended_at plan journal ≡ b → EndsBy plan journal verdict
  by true is = as_ended plan journal verdict is (tells is) same
  by false is =
      let going = or_parts (has_ended plan (run_in plan journal)) (has_finished plan journal) is in
      let so = not_gone_on (is_over plan (run_in plan journal)) (is_resumed plan (run_in plan journal)) (has_finished plan journal) over going.1 in
      let none : finish_in plan journal ≡ [] = alone plan journal resumes so.1 in
      let whole : run_in plan journal ≡ journal = run_whole plan journal none in
      let last : verdicts.Unfinished ≡ verdict =
      sym (none_unfinished plan (run_in plan journal)) ∙ ap (finish_verdict plan (run_in plan journal)) (sym none) ∙ sym (gone_on_verdict plan (run_in plan journal) (finish_in plan journal) going.0) ∙ same
      in subst (λ (all : List Entry). EndsBy plan all verdict) whole (as_unended plan (run_in plan journal) verdict ends going.0 so.0 few so.1 last)

-- *Done with room*
pub done_with_room : Laws → (plan : PlanData) (journal : List Entry) → WasRead plan → IsSoundRun plan journal → IsDoneWithRoom plan journal
done_with_room laws plan journal was sound room smooth over = by (has_ended plan journal) refl where
  by : (b : Bool) → has_ended plan journal ≡ b → verdict_of plan journal ≡ verdicts.Done
  by true is = done_where_smooth laws plan journal was sound.kept smooth is
  by false is = absurd (no_room plan.options.turn_limit (length journal) (bound plan) (spent plan journal is over) (sound.ends is) room)

begins_going : (plan : PlanData) → has_ended plan [] ≡ false
unfolding has_ended moment
begins_going plan = refl

never_over : (plan : PlanData) → 1 ≤ plan.options.turn_limit → is_over plan [] ≡ true → ⊥
unfolding is_over
never_over plan some over = by (has_ended plan []) (begins_going plan) over where
  by : (b : Bool) → b ≡ false → (b || nat_le plan.options.turn_limit 0) ≡ true → ⊥
  by true is over = true≢false is
  by false is over = grind (arith, nat_tests, some, over)

some_more : (n : ℕ) → (suc n == 0) ≡ false
some_more n = grind (arith, nat_tests)

-- of a journal without turns the run has none
run_over : (plan : PlanData) → is_over_at plan [] ≡ true → (is_over plan [] && (not (is_resumed plan []) || has_finished plan [])) ≡ true
run_over plan over = ap (λ (all : List Entry). is_over plan all && (not (is_resumed plan all) || has_finished plan [])) (sym (all_run plan [] (omega arith))) ∙ over

-- *Turns were taken*
pub is_taken : (plan : PlanData) (journal : List Entry) → 1 ≤ plan.options.turn_limit → is_over_at plan journal ≡ true → (length journal == 0) ≡ false
is_taken plan [] some over = absurd (never_over plan some (and_left (is_over plan []) (not (is_resumed plan []) || has_finished plan []) (run_over plan over)))
is_taken plan (entry ∷ journal) some over = some_more (length journal)
