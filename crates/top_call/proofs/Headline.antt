-- Where turns were taken, they are those of a plan's sound replay or sound run by workers.
use Rattle.std.proofs.Common.{◌≡◌, ℕ, ◌==◌, Bool, true, false, List, length, Option, Some, None, Result, Ok, Err, inl, inr, refl, sym, ap, ◌∙◌}
use Rattle.std.proofs.lemmas.Bool.{true≢false}
use Rattle.tool_program.specs.Orders.{WorkerTurn}
use Rattle.server_model.specs.declared.entry.Entry.{Entry}
use Rattle.server_model.specs.declared.outcome.Verdict.{Verdict}
use Rattle.plan_data.specs.PlanData.{PlanData}
use Rattle.plan_reader.specs.declared.fault.PlanRefusal.{PlanRefusal}
use Rattle.plan_reader.specs.Plans.{read}
use Rattle.top_words.specs.Commands.{command}
use Rattle.top_words.specs.declared.command.Command.{Command}
use Rattle.top_words.specs.declared.command.Command.TheVariants.{Check, Replay, Run, Generate, Trace, Audit, Rebuild}
use Rattle.top_endings.specs.declared.command.PlanCommand.{PlanCommand}
use Rattle.top_endings.specs.declared.command.PlanCommand.TheVariants as plans
use Rattle.top_endings.specs.declared.printed.Printed.{Printed}
use Rattle.top_endings.specs.Endings.{Taking, Giving}
use Rattle.top_endings.specs.Rebuilt.{has_second_unique}
use Rattle.top_call.specs.Audits.{TellsTrace}
use Rattle.top_call.specs.Comings.{IsRead, TellsPlan, ComesTo, Does}
use Rattle.top_call.specs.Outcomes.{IsTaken, RebuildComes, TakesNone, Comes, run_text}
use Rattle.top_call.specs.Promises.{Runs, RunsBy}
use Rattle.top_call.specs.ResumedRuns.{run_in}
use Rattle.top_call.specs.TopLaws.{Laws}
use Rattle.top_call.proofs.Taken.{sound_of, completes, done_where_smooth, done_with_room}

-- THE HEADLINE

none_taken : (Shows : Printed → Type 0) (printed : Option Printed) (turns : List WorkerTurn) (journal : List Entry) → TakesNone Shows printed turns journal → (length journal == 0) ≡ false → ⊥
none_taken Shows printed turns journal none some = true≢false (sym (ap (λ (all : List Entry). length all == 0) none.untaken.no_journal) ∙ some)

abbrev pub runs_of : Laws → (chosen : PlanCommand) (source : Taking) (printed : Option Printed) (turns : List WorkerTurn) (journal : List Entry) (was : IsRead chosen source printed turns journal) (plan : PlanData) (text : Verdict → List ℕ) → read was.bytes ≡ Ok plan → IsTaken chosen plan text printed turns journal → Runs chosen source turns journal
runs_of laws chosen source printed turns journal was plan text said taken = record {
  bytes = was.bytes;
  whole = was.whole;
  plan = plan;
  accepted = said;
  named = taken.was_read.text;
  takes = taken.takes;
  completes = completes laws plan (run_in plan journal) taken.was_read (sound_of chosen plan turns journal taken.takes).kept;
  smooth = done_where_smooth laws plan (run_in plan journal) taken.was_read (sound_of chosen plan turns journal taken.takes).kept;
  roomy = done_with_room laws plan (run_in plan journal) taken.was_read (sound_of chosen plan turns journal taken.takes);
}

runs_said : Laws → (chosen : PlanCommand) (source : Taking) (printed : Option Printed) (turns : List WorkerTurn) (journal : List Entry) (was : IsRead chosen source printed turns journal) (said : Result PlanData PlanRefusal) → read was.bytes ≡ said → Comes chosen was.bytes said printed turns journal → (length journal == 0) ≡ false → Runs chosen source turns journal
runs_said laws plans.Check source printed turns journal was (Ok plan) is comes some = absurd (none_taken _ printed turns journal comes some)
runs_said laws plans.Replay source printed turns journal was (Ok plan) is comes some = runs_of laws plans.Replay source printed turns journal was plan (run_text plans.Replay was.bytes plan journal) is comes
runs_said laws (plans.Run workers) source printed turns journal was (Ok plan) is comes some = runs_of laws (plans.Run workers) source printed turns journal was plan (run_text (plans.Run workers) was.bytes plan journal) is comes
runs_said laws plans.Trace source printed turns journal was (Ok plan) is comes some = runs_of laws plans.Trace source printed turns journal was plan (run_text plans.Trace was.bytes plan journal) is comes
runs_said laws (plans.Rebuild workers) source printed turns journal was (Ok plan) is comes some = by (has_second_unique plan) comes where
  by : (b : Bool) → RebuildComes b workers was.bytes plan printed turns journal → Runs (plans.Rebuild workers) source turns journal
  by true none = absurd (none_taken _ printed turns journal none some)
  by false taken = runs_of laws (plans.Rebuild workers) source printed turns journal was plan (run_text (plans.Rebuild workers) was.bytes plan journal) is taken
runs_said laws plans.Check source printed turns journal was (Err refusal) is comes some = absurd (none_taken _ printed turns journal comes some)
runs_said laws plans.Replay source printed turns journal was (Err refusal) is comes some = absurd (none_taken _ printed turns journal comes some)
runs_said laws (plans.Run workers) source printed turns journal was (Err refusal) is comes some = absurd (none_taken _ printed turns journal comes some)
runs_said laws plans.Trace source printed turns journal was (Err refusal) is comes some = absurd (none_taken _ printed turns journal comes some)
runs_said laws (plans.Rebuild workers) source printed turns journal was (Err refusal) is comes some = absurd (none_taken _ printed turns journal comes some)

runs_reported : Laws → (chosen : PlanCommand) (source : Taking) (printed : Option Printed) (turns : List WorkerTurn) (journal : List Entry) → TellsPlan chosen source printed turns journal → (length journal == 0) ≡ false → Runs chosen source turns journal
runs_reported laws chosen source printed turns journal (inl was) some = runs_said laws chosen source printed turns journal was (read was.bytes) refl was.comes some
runs_reported laws chosen source printed turns journal (inr fault) some = absurd (none_taken _ printed turns journal fault some)

-- an audit takes no turn
none_audited : (source : Taking) (printed : Option Printed) (turns : List WorkerTurn) (journal : List Entry) → TellsTrace source printed turns journal → (length journal == 0) ≡ false → ⊥
none_audited source printed turns journal (inl was) some = none_taken _ printed turns journal was.comes some
none_audited source printed turns journal (inr fault) some = none_taken _ printed turns journal fault some

-- *Where turns were taken, they are a plan's*
runs_where_taken : Laws → (words : List (List ℕ)) (chosen : Option Command) (source : Taking) (printed : Option Printed) (turns : List WorkerTurn) (journal : List Entry) → command words ≡ chosen → ComesTo chosen source printed turns journal → (length journal == 0) ≡ false → RunsBy words source turns journal
unfolding ComesTo
runs_where_taken laws words None source printed turns journal is comes some = absurd (none_taken _ printed turns journal comes.comes some)
runs_where_taken laws words (Some Check) source printed turns journal is comes some = record { chosen = plans.Check; command_is = is; runs = runs_reported laws plans.Check source printed turns journal comes some }
runs_where_taken laws words (Some Replay) source printed turns journal is comes some = record { chosen = plans.Replay; command_is = is; runs = runs_reported laws plans.Replay source printed turns journal comes some }
runs_where_taken laws words (Some (Run workers)) source printed turns journal is comes some =
    record { chosen = plans.Run workers; command_is = is; runs = runs_reported laws (plans.Run workers) source printed turns journal comes some }
runs_where_taken laws words (Some Trace) source printed turns journal is comes some = record { chosen = plans.Trace; command_is = is; runs = runs_reported laws plans.Trace source printed turns journal comes some }
runs_where_taken laws words (Some Audit) source printed turns journal is comes some = absurd (none_audited source printed turns journal comes some)
runs_where_taken laws words (Some (Rebuild workers)) source printed turns journal is comes some =
    record { chosen = plans.Rebuild workers; command_is = is; runs = runs_reported laws (plans.Rebuild workers) source printed turns journal comes some }
runs_where_taken laws words (Some (Generate number)) source printed turns journal is comes some = absurd (none_taken _ printed turns journal comes.comes some)

pub runs_by : Laws → (words : List (List ℕ)) (source : Taking) (sink : Giving) (turns : List WorkerTurn) (journal : List Entry) (number : ℕ) → Does words source sink turns journal number → (length journal == 0) ≡ false → RunsBy words source turns journal
runs_by laws words source sink turns journal number does some = runs_where_taken laws words (command words) source does.printed turns journal refl does.comes some
