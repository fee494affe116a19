-- What `trace` gives is audited yes.
use Rattle.std.proofs.Common.{◌≡◌, ◌≤◌, ℕ, Bool, true, false, not, ◌&&◌, List, [], ◌∷◌, length, Option, Some, Ok, refl, sym, ap, ◌∙◌, subst}
use Rattle.std.specs.Str.{IsUtf8}
use Rattle.tool_program.specs.Orders.{WorkerTurn}
use Rattle.server_model.specs.declared.entry.Entry.{Entry}
use Rattle.server_model.specs.declared.outcome.Cause.{Cause}
use Rattle.server_model.specs.declared.outcome.Verdict.{Verdict}
use Rattle.server_model.specs.declared.outcome.Verdict.TheVariants as verdicts
use Rattle.plan_data.specs.PlanData.{PlanData}
use Rattle.tool_program.specs.JournalWords.Sessions.{NumbersSessions}
use Rattle.tool_program.specs.Verdicts.{has_ended}
use Rattle.tool_finish.specs.Checkpoints.{has_checkpoint}
use Rattle.tool_finish.specs.Finishes.{finish_verdict}
use Rattle.tool_finish.specs.WholeJournals.{StandsAt, StandsBehind, StandsIn, finish_in, run_in, verdict_at}
use Rattle.proof_plans.specs.ReadPlans.Laws.{WasRead}
use Rattle.proof_audit.specs.Wholes.{AreNewTools, HasItsCause, IsWhole, MayGoOn}
use Rattle.proof_audit.proofs.Wholes.{ended_alone, gone_on_verdict, none_unfinished}
use Rattle.run_audit.specs.declared.trace.Audit.TheVariants.{Yes}
use Rattle.run_audit.specs.Audits.{audited}
use Rattle.run_turns.specs.Runs.{is_over}
use Rattle.top_trace_reader.specs.declared.whole.TheConstants.{TRACE_LIMIT}
use Rattle.top_trace_reader.specs.Traces.{read_trace}
use Rattle.top_words.specs.Commands.{command}
use Rattle.top_words.specs.declared.command.Command.{Command}
use Rattle.top_words.specs.declared.command.Command.TheVariants as commands
use Rattle.top_endings.specs.declared.command.PlanCommand.{PlanCommand}
use Rattle.top_endings.specs.declared.command.PlanCommand.TheVariants as plans
use Rattle.top_endings.specs.declared.status.Status.{Status}
use Rattle.top_endings.specs.declared.status.Status.TheVariants.{Done, Reverted, TurnsSpent}
use Rattle.top_endings.specs.Endings.{Giving, Taking, asked}
use Rattle.top_call.specs.Promises.{EndsUnder, PrintsDone, PrintsReport}
use Rattle.top_call.specs.ResumedRuns.{GoesOn, Resumes, is_resumed}
use Rattle.top_call.specs.WholeReplays.SoundRuns.{IsSoundRun}
use Rattle.law_traces.specs.Laws.{WholeTracesAreAudited}
use Rattle.law_traces.specs.Printed.{HasPlainNames, WholePrintedTracesAreAudited}
use Rattle.law_calls.specs.Given.{GivenTracesAreAudited, GivesAudited, IsReported, text_taken, trace_taken}

-- ---- a whole journal

-- a run that is resumed hasn't ended, and left a checkpoint
resumed_so : (a b c d : Bool) → (a && b && not c && d) ≡ true → (c ≡ false) × (d ≡ true)
resumed_so true true false true is = (refl, refl)
resumed_so true true false false is = absurd cc
resumed_so true true true d is = absurd cc
resumed_so true false c d is = absurd cc
resumed_so false b c d is = absurd cc

goes_so : (plan : PlanData) (run turns : List Entry) → AreNewTools plan run turns → MayGoOn plan run turns
goes_so plan run [] are = tt
goes_so plan run (entry ∷ turns) are = are

goes_on : (plan : PlanData) (run turns : List Entry) (b : Bool) → is_resumed plan run ≡ b → NumbersSessions run → GoesOn b plan run turns → MayGoOn plan run turns
unfolding is_resumed
goes_on plan run turns true is numbered sound =
    let so = resumed_so plan.options.resume (is_over plan run) (has_ended plan run) (has_checkpoint plan run) is in goes_so plan run turns (record { unended = so.0; checkpoint = so.1; numbered = numbered; finish = sound.finish; faithful = sound.faithful })
goes_on plan run turns false is numbered none = subst (MayGoOn plan run) (sym none) tt

-- *The turns that a call took are whole*
taken_whole : (plan : PlanData) (journal : List Entry) → IsSoundRun plan (run_in plan journal) → Resumes plan journal → IsWhole plan journal
taken_whole plan journal sound resumes = record { kept = sound.kept; goes_on = goes_on plan (run_in plan journal) (finish_in plan journal) (is_resumed plan (run_in plan journal)) refl sound.numbered resumes }

-- the cause that stands is the new tool's, where there is one
its_cause : (plan : PlanData) (journal : List Entry) → IsWhole plan journal → ((cause : Cause) → verdict_at plan journal ≡ verdicts.Reverted cause → StandsAt plan journal cause) → HasItsCause plan journal
its_cause plan journal whole stands cause is = by (has_ended plan (run_in plan journal)) refl where
  no : verdicts.Unfinished ≡ verdicts.Reverted cause → ⊥
  no same = cc

  by : (b : Bool) → has_ended plan (run_in plan journal) ≡ b → StandsBehind plan (run_in plan journal) (finish_in plan journal) cause
  by true ended = absurd (no (sym (none_unfinished plan (run_in plan journal)) ∙ ap (finish_verdict plan (run_in plan journal)) (sym (ended_alone plan journal whole ended)) ∙ is))
  by false unended = subst (λ (b : Bool). StandsIn b plan (run_in plan journal) (finish_in plan journal) cause) unended (stands cause (gone_on_verdict plan journal unended ∙ is))

-- ---- what is printed

module _ (wholes : WholeTracesAreAudited) (texts : WholePrintedTracesAreAudited) (source : Taking) (sink : Giving) (turns : List WorkerTurn) (journal : List Entry) where
  report_audited : (verdict : Verdict) (prints : PrintsReport plans.Trace verdict source sink turns journal) → ((cause : Cause) → verdict ≡ verdicts.Reverted cause → StandsAt prints.runs.plan journal cause) → GivesAudited sink journal
  report_audited verdict prints stands = record { bytes = bytes; plan = plan; accepted = prints.runs.accepted; verdict = verdict; given = prints.given; yes = yes; reads = reads } where
    plan : PlanData
    plan = prints.runs.plan

    bytes : List ℕ
    bytes = prints.runs.bytes

    was : WasRead plan
    was = record { bytes = bytes; is = prints.runs.accepted; text = prints.runs.named }

    sound : IsSoundRun plan (run_in plan journal)
    sound = prints.runs.takes.run.sound

    whole : IsWhole plan journal
    whole = taken_whole plan journal sound prints.runs.takes.resumes

    yes : audited plan (trace_taken plan journal verdict) ≡ Yes
    yes =
        subst (λ (one : Verdict). audited plan (trace_taken plan journal one) ≡ Yes) prints.verdict_is
        (wholes plan journal was whole (its_cause plan journal whole (λ cause is. stands cause (sym prints.verdict_is ∙ is))))

    reads : HasPlainNames plan → length (text_taken bytes plan journal verdict) ≤ TRACE_LIMIT → read_trace (text_taken bytes plan journal verdict) ≡ Ok (plan, trace_taken plan journal verdict)
    reads names =
        subst Reads prints.verdict_is
        (λ utf8 short. (texts bytes plan journal prints.runs.accepted prints.runs.named whole (its_cause plan journal whole (λ cause is. stands cause (sym prints.verdict_is ∙ is))) sound.numbered prints.made names utf8 short).0) prints.utf8 where
          Reads : Verdict → Type 0
          Reads one = IsUtf8 (text_taken bytes plan journal one) → length (text_taken bytes plan journal one) ≤ TRACE_LIMIT → read_trace (text_taken bytes plan journal one) ≡ Ok (plan, trace_taken plan journal one)

  -- a report of another command than `trace`
  report_chosen : (chosen : PlanCommand) (verdict : Verdict) → Some (asked chosen) ≡ Some commands.Trace → (prints : PrintsReport chosen verdict source sink turns journal) → ((cause : Cause) → verdict ≡ verdicts.Reverted cause → StandsAt prints.runs.plan journal cause) → GivesAudited sink journal
  report_chosen plans.Trace verdict is prints stands = report_audited verdict prints stands
  report_chosen plans.Check verdict is prints stands = absurd cc
  report_chosen plans.Replay verdict is prints stands = absurd cc
  report_chosen (plans.Run workers) verdict is prints stands = absurd cc
  report_chosen (plans.Rebuild workers) verdict is prints stands = absurd cc

  not_done : (cause : Cause) → verdicts.Done ≡ verdicts.Reverted cause → ⊥
  not_done cause same = cc

  not_unfinished : (cause : Cause) → verdicts.Unfinished ≡ verdicts.Reverted cause → ⊥
  not_unfinished cause same = cc

  done_audited : (words : List (List ℕ)) → command words ≡ Some commands.Trace → PrintsDone (command words) source sink turns journal → GivesAudited sink journal
  done_audited words is prints = report_audited verdicts.Done (subst (λ (chosen : Option Command). PrintsDone chosen source sink turns journal) is prints) (λ cause same. absurd (not_done cause same))

  given_under : (status : Status) (words : List (List ℕ)) → command words ≡ Some commands.Trace → IsReported status → EndsUnder status words source sink turns journal → GivesAudited sink journal
  given_under Done words is reported under = done_audited words is under
  given_under Reverted words is reported under =
      report_chosen under.chosen (verdicts.Reverted under.cause) (sym under.command_is ∙ is) under.prints (λ cause same. let one : under.cause ≡ cause = cc in subst (StandsAt under.prints.runs.plan journal) one under.stands)
  given_under TurnsSpent words is reported under = report_chosen under.chosen verdicts.Unfinished (sym under.command_is ∙ is) under.prints (λ cause same. absurd (not_unfinished cause same))
  given_under status words is reported under = absurd reported

-- *Given traces are audited yes*
pub given_audited : WholeTracesAreAudited → WholePrintedTracesAreAudited → GivenTracesAreAudited
given_audited wholes texts status words source sink turns journal is reported under = given_under wholes texts source sink turns journal status words is reported under
