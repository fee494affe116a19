-- What is known of the hint rows behind a journal, and of a log that grows.
use Rattle.std.proofs.Common.{◌≡◌, ◌≤◌, ℕ, zero, suc, Bool, true, false, List, ◌++◌, length, take, Option, Some, refl, subst, ◌∙◌, arith}
use Rattle.std.specs.Prelude.{nat_le}
use Rattle.std.proofs.lemmas.Bool.Decides.{nat_tests}
use Rattle.std.proofs.lemmas.List.{take_all}
use Rattle.base_values.specs.declared.event.RowEvent.{RowEvent}
use Rattle.base_script.specs.declared.actor.Actor.TheVariants.{Apply, Insp}
use Rattle.server_model.specs.declared.entry.Entry.{Entry}
use Rattle.server_model.specs.declared.request.Request.{Request}
use Rattle.plan_data.specs.PlanData.{PlanData}
use Rattle.tool_changelog.specs.Hints.{last_hint}
use Rattle.base_values.specs.ToolNames.{log_name}
use Rattle.tool_program.specs.JournalWords.Journals.{state_at}
use Rattle.tool_program.specs.Setups.{Setup}
use Rattle.tool_program.specs.Tools.{ToolPhase, Migrating, SettingUp, moment, stopped}
use Rattle.tool_program.proofs.OnlineCalls.Keeping.{Keeps, always}
use Rattle.proof_journals.specs.Ghost.Invariant.{NotOf}
use Rattle.proof_journals.specs.Machine.Standings.{needs_names, standing_of}
use Rattle.proof_journals.proofs.Machine.Forming.{took_batch}
use Rattle.proof_journals.proofs.Sentry.Hinting.{HintsBelow, none_earlier}
use Rattle.proof_migration.proofs.Program.Starts.{NotedIn}
use Rattle.proof_migration.proofs.Program.Hints.Logging.{NoneWrote}
use Rattle.proof_migration.proofs.Program.Hints.Phases.{HintsIn, HintsStand, IsAhead}
use Rattle.proof_migration.proofs.Program.Hints.Writes.{NoHint, below_both, below_more, none_below, none_most}

-- WHAT IS KNOWN

-- while the tool sets up nothing of the changelog is logged
pub record SetupHints (t : List ℕ) (log : List RowEvent) (setup : Setup) : Type 0 where
  pub away : NotOf (log_name t) log
  pub noted : NotedIn setup (length log)

abbrev pub ToolPhaseHints : List ℕ → List RowEvent → Option Request → ToolPhase → Type 0
ToolPhaseHints t log waits (SettingUp setup tries) = SetupHints t log setup
ToolPhaseHints t log waits (Migrating work) = HintsStand t log waits work.applier work.cutover.attempts work.cutover.phase

abbrev pub ToolPhaseAhead : ToolPhase → Type 0
ToolPhaseAhead (SettingUp setup tries) = Unit {0}
ToolPhaseAhead (Migrating work) = IsAhead work.applier.hint work.cutover.attempts work.cutover.phase

pub record HintsGo (plan : PlanData) (journal : List Entry) : Type 0 where
  pub none : NoneWrote plan.table (state_at plan journal)
  pub tool_phase : ToolPhaseHints plan.table (state_at plan journal).log (standing_of plan journal Insp).waits (moment plan journal).tool.tool_phase
  pub ahead : ToolPhaseAhead (moment plan journal).tool.tool_phase
  -- what reads the log doesn't wait
  pub names : (request : Request) → (standing_of plan journal Apply).waits ≡ Some request → needs_names request ≡ true

-- THE LOG GROWS

pub hints_later : (t : List ℕ) (attempts : ℕ) (log events : List RowEvent) (b : Bool) → NoHint t events → HintsIn b t attempts log → HintsIn b t attempts (log ++ events)
hints_later t attempts log events true none below = (below.0, below.1, below_both t below.0 log events below.2 (none_most t below.0 events none))
hints_later t attempts log events false none below = below_both t attempts log events below (none_most t attempts events none)

-- of hint rows in the weak sense
pub weakly : (t : List ℕ) (attempts : ℕ) (log : List RowEvent) (b : Bool) → HintsIn b t attempts log → HintsBelow t attempts log
weakly t attempts log true below = let less = below.1 in below_more t below.0 attempts log (omega (arith, less)) below.2
weakly t attempts log false below = below

pub none_hinted : (t : List ℕ) (events : List RowEvent) (count : ℕ) → NotOf (log_name t) events → last_hint t 0 (take count events) ≡ 0
none_hinted t events count away =
    let le : last_hint t 0 (take count events) ≤ 0 = by (last_hint t 0 (take count events)) refl in omega (arith, le)
  where
    by : (n : ℕ) → last_hint t 0 (take count events) ≡ n → n ≤ 0
    by zero is = omega arith
    by (suc n) is = absurd (none_earlier t 0 (suc n) events (omega arith) (none_below t 0 events away) count is)

pub at_most : (t : List ℕ) (most count : ℕ) (log : List RowEvent) → HintsBelow t most log → last_hint t 0 (take count log) ≤ most
at_most t most count log below = by (nat_le (last_hint t 0 (take count log)) most) refl where
  by : (b : Bool) → nat_le (last_hint t 0 (take count log)) most ≡ b → last_hint t 0 (take count log) ≤ most
  by true is = grind (arith, nat_tests, is)
  by false is = absurd (none_earlier t most (last_hint t 0 (take count log)) log (grind (arith, nat_tests, is)) below count refl)

pub last_at_most : (t : List ℕ) (most : ℕ) (log : List RowEvent) → HintsBelow t most log → last_hint t 0 log ≤ most
last_at_most t most log below = subst (λ (l : List RowEvent). last_hint t 0 l ≤ most) (take_all (length log) log (omega arith)) (at_most t most (length log) log below)

-- the batch is the plan's
abbrev pub BatchIs : PlanData → ToolPhase → Type 0
BatchIs plan (SettingUp setup tries) = Unit {0}
BatchIs plan (Migrating work) = work.applier.batch ≡ plan.options.dml_batch_size

stops : (plan : PlanData) (tool_phase : ToolPhase) → BatchIs plan tool_phase → BatchIs plan (stopped tool_phase)
stops plan (SettingUp setup tries) at = tt
stops plan (Migrating work) at = at

keeps_batch : (plan : PlanData) → Keeps plan (BatchIs plan)
keeps_batch plan = record {
  stops = stops plan;
  sets = λ setup tries. tt;
  begins = λ size position range. refl;
  copies = λ turn answer work tries at. at;
  applies = λ turn answer work tries at. took_batch turn work.applier answer ∙ at;
  cuts = λ role answer work tries at. at;
  drained = λ work tries at. at;
  resized = λ size work at. at;
}

pub batch_is : (plan : PlanData) (journal : List Entry) → BatchIs plan (moment plan journal).tool.tool_phase
batch_is plan journal = always plan (BatchIs plan) (keeps_batch plan) journal
