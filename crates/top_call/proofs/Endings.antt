-- How a call ends, from what its words and its source come to and what was given of it.
use Rattle.std.proofs.Common.{◌≡◌, ◌≢◌, ℕ, Bool, true, false, cond, List, Option, Some, None, Result, Ok, Err, inl, inr, refl, sym, ap, ◌∙◌, subst}
use Rattle.std.specs.Io.KnownBytes.{Appends}
use Rattle.std.specs.Str.{IsUtf8}
use Rattle.base_edges.specs.Whole.{ReadsWhole}
use Rattle.tool_program.specs.Orders.{WorkerTurn}
use Rattle.server_model.specs.declared.entry.Entry.{Entry}
use Rattle.server_model.specs.declared.outcome.Verdict.{Verdict}
use Rattle.server_model.specs.declared.outcome.Verdict.TheVariants as verdicts
use Rattle.plan_data.specs.PlanData.{PlanData}
use Rattle.plan_reader.specs.declared.fault.PlanRefusal.{PlanRefusal}
use Rattle.plan_reader.specs.declared.limits.TheConstants.{PLAN_LIMIT}
use Rattle.plan_reader.specs.Plans.{read}
use Rattle.run_audit.specs.declared.trace.Audit as audits
use Rattle.run_audit.specs.declared.trace.Audit.TheVariants as answers
use Rattle.run_audit.specs.declared.trace.Trace as traces
use Rattle.run_audit.specs.Audits.{audited}
use Rattle.top_trace_reader.specs.declared.fault.TraceRefusal.{TraceRefusal}
use Rattle.top_trace_reader.specs.Traces.{read_trace}
use Rattle.top_words.specs.Commands.{command}
use Rattle.top_words.specs.declared.command.Command.{Command}
use Rattle.top_words.specs.declared.command.Command.TheVariants.{Check, Replay, Run, Generate, Trace, Audit, Rebuild}
use Rattle.top_endings.specs.declared.command.PlanCommand.{PlanCommand}
use Rattle.top_endings.specs.declared.command.PlanCommand.TheVariants as plans
use Rattle.top_endings.specs.declared.printed.Printed.{Printed}
use Rattle.top_endings.specs.declared.refusals.Refusal.{Refusal}
use Rattle.top_endings.specs.declared.refusals.Refusal.TheVariants as refusals
use Rattle.top_endings.specs.declared.status.Status.{Status}
use Rattle.top_endings.specs.declared.status.Status.TheVariants as statuses
use Rattle.top_endings.specs.Endings.{Taking, Giving, IsReadFault, IsUsage, IsWorkload, Gives, asked, reads_source}
use Rattle.top_endings.specs.Audits.{IsAnswer, answer_status, answer_text}
use Rattle.top_endings.specs.Checks.{IsSchema}
use Rattle.top_endings.specs.Rebuilt.{has_second_unique}
use Rattle.top_endings.specs.Texts.{IsRefusal}
use Rattle.top_call.specs.WholeReplays.SoundRuns.{IsSoundRun}
use Rattle.top_call.specs.Audits.{IsAuditPrinted, IsTraceRead, TellsTrace}
use Rattle.top_call.specs.Comings.{IsRead, TellsPlan, ComesTo, Does}
use Rattle.top_call.specs.Outcomes.{IsTaken, RebuildComes, TakesNone, Comes, run_text, status_of}
use Rattle.top_call.specs.Promises.{Ends, EndsUnder, PrintsAnswer, PrintsDone, PrintsReport, limit_of, plan_refusal, refusal_of, trace_refusal}
use Rattle.top_call.specs.ResumedRuns.{Resumes, run_in, verdict_at}
use Rattle.top_call.specs.TopLaws.{Laws}
use Rattle.top_call.proofs.Headline.{runs_of}
use Rattle.top_call.proofs.ResumedRuns.{stands_at, tells_at}
use Rattle.top_call.proofs.Taken.{sound_of, resumes_of, ends_as, is_taken, tells_alter}

-- WHAT IS PRINTED WHOLE

module _ (words : List (List ℕ)) (source : Taking) (sink : Giving) (turns : List WorkerTurn) (journal : List Entry) where
  abbrev Under : Status → Type 0
  Under status = EndsUnder status words source sink turns journal

  -- the whole text was given, in UTF-8
  abbrev Gave : Printed → Type 0
  Gave printed = Appends sink.before sink.after printed.text × IsUtf8 printed.text

  text_given : (printed : Printed) (text : List ℕ) → printed.text ≡ text → Gave printed → Appends sink.before sink.after text
  text_given printed text is given = subst (λ (bytes : List ℕ). Appends sink.before sink.after bytes) is given.0

  reads_by : (chosen : PlanCommand) → command words ≡ Some (asked chosen) → reads_source (command words) ≡ true
  reads_by plans.Check is = ap reads_source is
  reads_by plans.Replay is = ap reads_source is
  reads_by (plans.Run workers) is = ap reads_source is
  reads_by plans.Trace is = ap reads_source is
  reads_by (plans.Rebuild workers) is = ap reads_source is

  usage_under : (printed : Printed) → command words ≡ None → Gave printed → TakesNone (IsUsage source) (Some printed) turns journal → Under printed.status
  usage_under printed faulty given comes =
      subst Under (sym comes.shows.status_is) (record { faulty = faulty; untaken = comes.untaken; takes_none = comes.shows.takes_none; given = text_given printed _ comes.shows.text_is given })

  -- what stands under status 0 of this command
  done_under : (chosen : Option Command) (printed : Printed) → command words ≡ chosen → printed.status ≡ statuses.Done → PrintsDone chosen source sink turns journal → Under printed.status
  done_under chosen printed is status prints = subst Under (sym status) (subst (λ (one : Option Command). PrintsDone one source sink turns journal) (sym is) prints)

  workload_under : (number : ℕ) (printed : Printed) → command words ≡ Some (Generate number) → Gave printed → TakesNone (IsWorkload number source) (Some printed) turns journal → Under printed.status
  workload_under number printed is given comes =
      done_under (Some (Generate number)) printed is comes.shows.status_is (record { untaken = comes.untaken; takes_none = comes.shows.takes_none; given = text_given printed _ comes.shows.text_is given })

  fault_under : (printed : Printed) → reads_source (command words) ≡ true → Gave printed → TakesNone (IsReadFault source) (Some printed) turns journal → Under printed.status
  fault_under printed reads given comes =
      subst Under (sym comes.shows.status_is) (record { reads = reads; untaken = comes.untaken; rose = comes.shows.rose; given = text_given printed _ comes.shows.text_is given })

  -- a command that reads a plan has its limit, and refuses its bytes by what they say as a plan
  limit_by : (chosen : PlanCommand) → limit_of (Some (asked chosen)) ≡ PLAN_LIMIT
  limit_by plans.Check = refl
  limit_by plans.Replay = refl
  limit_by (plans.Run workers) = refl
  limit_by plans.Trace = refl
  limit_by (plans.Rebuild workers) = refl

  refusal_by : (chosen : PlanCommand) (bytes : List ℕ) → refusal_of bytes (Some (asked chosen)) ≡ plan_refusal (read bytes) (Some (asked chosen))
  refusal_by plans.Check bytes = refl
  refusal_by plans.Replay bytes = refl
  refusal_by (plans.Run workers) bytes = refl
  refusal_by plans.Trace bytes = refl
  refusal_by (plans.Rebuild workers) bytes = refl

  within : (bytes : List ℕ) (limit : ℕ) → limit_of (command words) ≡ limit → ReadsWhole limit source.before source.after bytes → ReadsWhole (limit_of (command words)) source.before source.after bytes
  within bytes limit is whole = subst (λ (most : ℕ). ReadsWhole most source.before source.after bytes) (sym is) whole

  refusal_under : (chosen : PlanCommand) (printed : Printed) (was : IsRead chosen source (Some printed) turns journal) (refusal : Refusal) → command words ≡ Some (asked chosen) → plan_refusal (read was.bytes) (Some (asked chosen)) ≡ Some refusal → Gave printed → TakesNone (IsRefusal refusal) (Some printed) turns journal → Under printed.status
  refusal_under chosen printed was refusal is said given comes =
      subst Under (sym comes.shows.status_is) (record {
        reads = reads_by chosen is;
        bytes = was.bytes;
        whole = within was.bytes PLAN_LIMIT (ap limit_of is ∙ limit_by chosen) was.whole;
        refusal = refusal;
        refused = ap (refusal_of was.bytes) is ∙ refusal_by chosen was.bytes ∙ said;
        given = text_given printed _ comes.shows.text_is given;
        untaken = comes.untaken;
      })

  schema_under : (printed : Printed) (was : IsRead plans.Check source (Some printed) turns journal) (plan : PlanData) → command words ≡ Some Check → read was.bytes ≡ Ok plan → Gave printed → TakesNone (IsSchema plan) (Some printed) turns journal → Under printed.status
  schema_under printed was plan is said given comes =
      done_under (Some Check) printed is comes.shows.status_is (record {
        bytes = was.bytes;
        whole = was.whole;
        plan = plan;
        accepted = said;
        text = printed.text;
        schema = comes.shows.shows;
        given = given.0;
        untaken = comes.untaken;
      })

  printed_done : (chosen : PlanCommand) → PrintsReport chosen verdicts.Done source sink turns journal → PrintsDone (Some (asked chosen)) source sink turns journal
  printed_done plans.Check prints = absurd prints.runs.takes
  printed_done plans.Replay prints = prints
  printed_done (plans.Run workers) prints = prints
  printed_done plans.Trace prints = prints
  printed_done (plans.Rebuild workers) prints = prints

  module _ (laws : Laws) (chosen : PlanCommand) (printed : Printed) (was : IsRead chosen source (Some printed) turns journal) (plan : PlanData) (is : command words ≡ Some (asked chosen)) (said : read was.bytes ≡ Ok plan) (given : Gave printed) (taken : IsTaken chosen plan (run_text chosen was.bytes plan journal) (Some printed) turns journal) where
    sound : IsSoundRun plan (run_in plan journal)
    sound = sound_of chosen plan turns journal taken.takes

    resumes : Resumes plan journal
    resumes = resumes_of chosen plan turns journal taken.takes

    report_given : (verdict : Verdict) → verdict_at plan journal ≡ verdict → PrintsReport chosen verdict source sink turns journal
    report_given verdict same =
        let tells = tells_at laws.finishes plan journal taken.was_read sound resumes (tells_alter laws plan (run_in plan journal) taken.was_read sound.kept.faithful sound.kept.follows) in
        record {
          runs = runs_of laws chosen source (Some printed) turns journal was plan (run_text chosen was.bytes plan journal) said taken;
          taken = is_taken plan journal (laws.allow was.bytes plan said).turns taken.reports.over;
          over = ends_as plan journal verdict sound.ends resumes tells taken.reports.over sound.bound same;
          verdict_is = same;
          tells = tells;
          given = text_given printed _ (taken.reports.text_is ∙ ap (run_text chosen was.bytes plan journal) same) given;
          utf8 = subst IsUtf8 (taken.reports.text_is ∙ ap (run_text chosen was.bytes plan journal) same) given.1;
          made = taken.reports.made;
        }

    verdict_under : (verdict : Verdict) → verdict_at plan journal ≡ verdict → printed.status ≡ status_of verdict → Under printed.status
    unfolding report_given
    verdict_under verdicts.Done same status = done_under (Some (asked chosen)) printed is status (printed_done chosen (report_given verdicts.Done same))
    verdict_under verdicts.Unfinished same status = subst Under (sym status) (record { chosen = chosen; command_is = is; prints = report_given verdicts.Unfinished same })
    verdict_under (verdicts.Reverted cause) same status =
        subst Under (sym status) (record {
          chosen = chosen;
          command_is = is;
          cause = cause;
          prints = report_given (verdicts.Reverted cause) same;
          stands = stands_at laws.finishes plan journal taken.was_read sound resumes cause taken.reports.over same;
        })

    report_under : Under printed.status
    report_under = verdict_under (verdict_at plan journal) refl taken.reports.status_is

  -- a refusal of the plan, whatever the command is
  unread_under : (chosen : PlanCommand) (printed : Printed) (was : IsRead chosen source (Some printed) turns journal) (refusal : PlanRefusal) → command words ≡ Some (asked chosen) → read was.bytes ≡ Err refusal → Gave printed → TakesNone (IsRefusal (refusals.Plan refusal)) (Some printed) turns journal → Under printed.status
  unread_under chosen printed was refusal is said = refusal_under chosen printed was (refusals.Plan refusal) is (ap (λ (r : Result PlanData PlanRefusal). plan_refusal r (Some (asked chosen))) said)

  -- a plan that was read, under `rebuild`
  rebuild_under : Laws → (workers : ℕ) (printed : Printed) (was : IsRead (plans.Rebuild workers) source (Some printed) turns journal) (plan : PlanData) → command words ≡ Some (Rebuild workers) → read was.bytes ≡ Ok plan → Gave printed → RebuildComes (has_second_unique plan) workers was.bytes plan (Some printed) turns journal → Under printed.status
  rebuild_under laws workers printed was plan is said given = by (has_second_unique plan) refl where
    refused : has_second_unique plan ≡ true → plan_refusal (read was.bytes) (Some (Rebuild workers)) ≡ Some refusals.SecondUnique
    refused more = ap (λ (r : Result PlanData PlanRefusal). plan_refusal r (Some (Rebuild workers))) said ∙ ap (λ (b : Bool). cond b (Some refusals.SecondUnique) None) more

    by : (b : Bool) → has_second_unique plan ≡ b → RebuildComes b workers was.bytes plan (Some printed) turns journal → Under printed.status
    by true more comes = refusal_under (plans.Rebuild workers) printed was refusals.SecondUnique is (refused more) given comes
    by false one taken = report_under laws (plans.Rebuild workers) printed was plan is said given taken

  said_under : Laws → (chosen : PlanCommand) (printed : Printed) (was : IsRead chosen source (Some printed) turns journal) (said : Result PlanData PlanRefusal) → command words ≡ Some (asked chosen) → read was.bytes ≡ said → Gave printed → Comes chosen was.bytes said (Some printed) turns journal → Under printed.status
  said_under laws plans.Check printed was (Ok plan) is said given comes = schema_under printed was plan is said given comes
  said_under laws plans.Replay printed was (Ok plan) is said given comes = report_under laws plans.Replay printed was plan is said given comes
  said_under laws (plans.Run workers) printed was (Ok plan) is said given comes = report_under laws (plans.Run workers) printed was plan is said given comes
  said_under laws plans.Trace printed was (Ok plan) is said given comes = report_under laws plans.Trace printed was plan is said given comes
  said_under laws (plans.Rebuild workers) printed was (Ok plan) is said given comes = rebuild_under laws workers printed was plan is said given comes
  said_under laws plans.Check printed was (Err refusal) is said given comes = unread_under plans.Check printed was refusal is said given comes
  said_under laws plans.Replay printed was (Err refusal) is said given comes = unread_under plans.Replay printed was refusal is said given comes
  said_under laws (plans.Run workers) printed was (Err refusal) is said given comes = unread_under (plans.Run workers) printed was refusal is said given comes
  said_under laws plans.Trace printed was (Err refusal) is said given comes = unread_under plans.Trace printed was refusal is said given comes
  said_under laws (plans.Rebuild workers) printed was (Err refusal) is said given comes = unread_under (plans.Rebuild workers) printed was refusal is said given comes

  plan_under : Laws → (chosen : PlanCommand) (printed : Printed) → command words ≡ Some (asked chosen) → Gave printed → TellsPlan chosen source (Some printed) turns journal → Under printed.status
  plan_under laws chosen printed is given (inl was) = said_under laws chosen printed was (read was.bytes) is refl given was.comes
  plan_under laws chosen printed is given (inr fault) = fault_under printed (reads_by chosen is) given fault

  -- a trace that was read, under `audit`
  module _ (printed : Printed) (was : IsTraceRead source (Some printed) turns journal) (is : command words ≡ Some Audit) (given : Gave printed) where
    module _ (plan : PlanData) (trace : traces.Trace) (said : read_trace was.bytes ≡ Ok (plan, trace)) (shows : IsAnswer (audited plan trace) printed) where
      answer_given : (answer : audits.Audit) → audited plan trace ≡ answer → PrintsAnswer answer source sink turns journal
      answer_given answer same = record {
        bytes = was.bytes;
        whole = was.whole;
        plan = plan;
        trace = trace;
        accepted = said;
        answers = same;
        given = text_given printed _ (shows.text_is ∙ ap answer_text same) given;
        untaken = was.comes.untaken;
      }

      no_under : (answer : audits.Audit) → audited plan trace ≡ answer → answer ≢ answers.Yes → printed.status ≡ statuses.No → Under printed.status
      no_under answer same not_yes status = subst Under (sym status) (record { command_is = is; answer = answer; no = not_yes; prints = answer_given answer same })

      answer_under : (answer : audits.Audit) → audited plan trace ≡ answer → Under printed.status
      answer_under answers.Yes same = done_under (Some Audit) printed is (shows.status_is ∙ ap answer_status same) (answer_given answers.Yes same)
      answer_under (answers.Line turn) same = no_under (answers.Line turn) same (λ yes. absurd cc) (shows.status_is ∙ ap answer_status same)
      answer_under (answers.Table name) same = no_under (answers.Table name) same (λ yes. absurd cc) (shows.status_is ∙ ap answer_status same)
      answer_under answers.Verdict same = no_under answers.Verdict same (λ yes. absurd cc) (shows.status_is ∙ ap answer_status same)

    untraced_under : (refusal : TraceRefusal) → read_trace was.bytes ≡ Err refusal → IsRefusal (refusals.Trace refusal) printed → Under printed.status
    untraced_under refusal said shows =
        subst Under (sym shows.status_is) (record {
          reads = ap reads_source is;
          bytes = was.bytes;
          whole = within was.bytes _ (ap limit_of is) was.whole;
          refusal = refusals.Trace refusal;
          refused = ap (refusal_of was.bytes) is ∙ ap trace_refusal said;
          given = text_given printed _ shows.text_is given;
          untaken = was.comes.untaken;
        })

    judged_under : (said : Result (PlanData × traces.Trace) TraceRefusal) → read_trace was.bytes ≡ said → IsAuditPrinted said printed → Under printed.status
    judged_under (Ok (plan, trace)) said shows = answer_under plan trace said shows (audited plan trace) refl
    judged_under (Err refusal) said shows = untraced_under refusal said shows

  trace_under : (printed : Printed) → command words ≡ Some Audit → Gave printed → TellsTrace source (Some printed) turns journal → Under printed.status
  trace_under printed is given (inl was) = judged_under printed was is given (read_trace was.bytes) refl was.comes.shows
  trace_under printed is given (inr fault) = fault_under printed (ap reads_source is) given fault

  whole_under : Laws → (chosen : Option Command) (printed : Printed) → command words ≡ chosen → Gave printed → ComesTo chosen source (Some printed) turns journal → Under printed.status
  unfolding ComesTo
  whole_under laws None printed is given comes = usage_under printed is given comes.comes
  whole_under laws (Some (Run workers)) printed is given comes = plan_under laws (plans.Run workers) printed is given comes
  whole_under laws (Some (Generate number)) printed is given comes = workload_under number printed is given comes.comes
  whole_under laws (Some Check) printed is given comes = plan_under laws plans.Check printed is given comes
  whole_under laws (Some Replay) printed is given comes = plan_under laws plans.Replay printed is given comes
  whole_under laws (Some Trace) printed is given comes = plan_under laws plans.Trace printed is given comes
  whole_under laws (Some Audit) printed is given comes = trace_under printed is given comes
  whole_under laws (Some (Rebuild workers)) printed is given comes = plan_under laws (plans.Rebuild workers) printed is given comes

  given_under : Laws → (printed : Option Printed) (status : Status) → ComesTo (command words) source printed turns journal → Gives printed sink status → Under status
  given_under laws None status comes gives = subst Under (sym gives.status_is) (record { comes = comes; given = gives.given })
  given_under laws (Some printed) status comes (inl all) = subst Under (sym all.status_is) (whole_under laws (command words) printed refl (all.given, all.utf8) comes)
  given_under laws (Some printed) status comes (inr front) = subst Under (sym front.status_is) (record { printed = printed; comes = comes; given = front.given; rose = front.rose })

  -- *Ends*
  pub ends_by : Laws → (number : ℕ) → Does words source sink turns journal number → Ends words source sink turns journal number
  ends_by laws number does = record { status = does.status; number_is = does.number_is; under = given_under laws does.printed does.status does.comes does.gives }
