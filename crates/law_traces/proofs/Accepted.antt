-- The trace of every run of every accepted plan is audited yes, and so is that of a run that a new tool goes on with.
use Rattle.proof_plans.specs.ReadPlans.Laws.{ReadPlansAreAlterable, ReadPlansAreRunnable, ReadPlansAreSerial, ReadPlansAreWorded}
use Rattle.server_model.specs.declared.outcome.Verdict.{Verdict}
use Rattle.tool_program.specs.JournalWords.Journals.{state_at}
use Rattle.tool_finish.specs.WholeJournals.{run_in}
use Rattle.proof_migration.specs.Laws.{RenamesFindTheAltered}
use Rattle.proof_migration.specs.Once.{RenamesComeOnce}
use Rattle.proof_migration.specs.ToolPhase.Marked.{MarkedJournalsAreRuns}
use Rattle.proof_plans.proofs.Tables.Found.{run_of}
use Rattle.run_audit.specs.declared.trace.Audit.TheVariants.{Yes}
use Rattle.run_audit.specs.Audits.{audited}
use Rattle.run_audit.specs.Lines.{trace_of}
use Rattle.proof_audit.proofs.Audited.{traces_audited}
use Rattle.proof_audit.proofs.Wholes.{kept_cause, kept_verdict, kept_whole}
use Rattle.law_traces.specs.Laws.{TracesAreAudited, WholeTracesAreAudited}
use Rattle.law_traces.proofs.Alters.{lines_tell_alters}
use Rattle.law_traces.proofs.Draws.{draws_as_left}
use Rattle.law_traces.specs.AcceptedPlans.{AcceptedPlanLaws, AcceptedRunsAreRuns}
use Rattle.law_traces.proofs.WholeRuns.{finish_tells, wholes_serial}
use Rattle.std.proofs.Common.{◌≡◌, subst}

-- *Traces are audited yes*, of whole journals
pub wholes_audited : AcceptedPlanLaws → WholeTracesAreAudited
wholes_audited known plan journal was whole stands =
    traces_audited plan journal (known.worded plan was).scripts (wholes_serial known plan was) (lines_tell_alters plan (known.serial was.bytes plan was.is) (known.runnable plan was)) (draws_as_left plan (known.runnable plan was) (λ some is. known.runs plan some was is)) whole
    (λ cause verdict. known.causes plan (run_in plan journal) cause was whole.kept verdict) (finish_tells known plan was journal whole stands)

-- ... and of those that are kept and have no more turns than the plan allows
pub kept_audited : WholeTracesAreAudited → TracesAreAudited
kept_audited wholes plan journal was kept within =
    subst (λ (verdict : Verdict). audited plan (trace_of plan journal verdict (state_at plan journal).tables) ≡ Yes) (kept_verdict plan journal within) (wholes plan journal was (kept_whole plan journal within kept) (kept_cause plan journal within))

-- each journal of a plan that was read is a run of it, where it is kept
pub accepted_runs : MarkedJournalsAreRuns → RenamesFindTheAltered → RenamesComeOnce → ReadPlansAreRunnable → ReadPlansAreAlterable → ReadPlansAreWorded → ReadPlansAreSerial → AcceptedRunsAreRuns
accepted_runs marked finds once runnable alterable worded serial plan journal was kept =
    run_of marked finds once plan (alterable was.bytes plan was.is) (runnable plan was) (worded plan was) (serial was.bytes plan was.is) journal kept
