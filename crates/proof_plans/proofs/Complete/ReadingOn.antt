-- Where nothing of the migrated table is logged the applier only reads.
use Rattle.std.proofs.Common.{◌≡◌, ◌≢◌, ◌⊎◌, ℕ, zero, suc, ◌+◌, ◌≤◌, ◌==◌, Bool, true, false, cond, List, [], ◌∷◌, ◌++◌, length, take, Some, None, refl, sym, ap, ◌∙◌, subst, inl, inr, arith}
use Rattle.std.specs.List.{flat_map}
use Rattle.std.specs.Str.{bytes_eq}
use Rattle.std.proofs.lemmas.Bool.{true≢false, false≢true}
use Rattle.base_values.proofs.SchemaRules.Lists.{All-filter}
use Rattle.base_script.specs.declared.actor.Actor.{Actor}
use Rattle.base_script.specs.declared.actor.Actor.TheVariants.{Op, Insp, Copy, Apply, Lock, Ren, Client}
use Rattle.base_values.specs.declared.event.RowEvent.{RowEvent}
use Rattle.server_model.specs.declared.answer.Answer.{Answer}
use Rattle.server_model.specs.declared.answer.Answer.TheVariants as answers
use Rattle.server_model.specs.declared.entry.Asked.TheVariants.{Call, Cut}
use Rattle.server_model.specs.declared.entry.Entry.{Entry}
use Rattle.server_model.specs.declared.request.Request.{Request}
use Rattle.server_model.specs.declared.request.Request.TheVariants as requests
use Rattle.plan_data.specs.PlanData.{PlanData}
use Rattle.base_values.specs.ToolNames.{log_name}
use Rattle.tool_program.specs.JournalWords.Journals.{opens, state_at}
use Rattle.tool_program.specs.JournalWords.Sessions.{live_session}
use Rattle.tool_program.specs.EventApplier.Appliers as appliers
use Rattle.tool_program.specs.declared.event_applier.applier.Applier.{Applier}
use Rattle.tool_program.specs.declared.event_applier.applier.ApplyStep.{ApplyStep}
use Rattle.tool_program.specs.declared.event_applier.applier.ApplyStep.TheVariants as applying
use Rattle.tool_program.specs.Programs.{apply_call, rolls_back, tool_call}
use Rattle.tool_program.specs.Setups.{Setup, Listing, Clearing, MakingLog, MakingGhost, Marking, Reaching, Ready, setup_after}
use Rattle.tool_program.specs.Tools.{Work, ToolPhase, SettingUp, Migrating, Tool, Moment, stopped, is_reverting, tool_phase_of, moment}
use Rattle.tool_program.proofs.OnlineCalls.Machines.{ToolPhaseIsNamed, named}
use Rattle.proof_journals.specs.Plans.{limits_of, scene_of, IsSerialPlan}
use Rattle.proof_journals.specs.Turns.{about}
use Rattle.proof_journals.proofs.Joined.{reported_answer, reported_missed, reported_draw}
use Rattle.proof_journals.specs.Run.Kept.{IsKept}
use Rattle.proof_journals.specs.Machine.Machines.{applier_asks, ApplierStands, ToolPhaseStands}
use Rattle.proof_journals.specs.Machine.Runnable.{IsRunnable}
use Rattle.proof_journals.specs.Machine.Standings.{Standing, standing_of, needs_names}
use Rattle.proof_journals.proofs.Machine.Asking.{waits_asks}
use Rattle.proof_journals.proofs.Machine.Journals.{IsRun, IsTogether, Asking, apply_called, calls_so, polls_so}
use Rattle.proof_migration.proofs.ToolPhase.ToolPhaseTurns.{Kept, AnswerKeeps, ResizeKeeps, UnfitKeeps, turn_kept}
use Rattle.proof_journals.proofs.Sentry.Draining.{IsRead, on_both}
use Rattle.proof_migration.specs.ToolPhase.Unaltered.{IsUnaltered}
use Rattle.proof_migration.proofs.Program.Hints.Known.{hints_go, hints_known}
use Rattle.proof_migration.proofs.Program.Hints.States.{BatchIs, batch_is}
use Rattle.proof_migration.proofs.Program.Hints.Telling.{both_tables, reading_said}
use Rattle.proof_plans.proofs.Complete.Untouched.{IsUntouched, NoneOf}

-- the applier is to read
abbrev pub ReadsOn : ToolPhase → Type 0
ReadsOn (SettingUp setup tries) = Unit {0}
ReadsOn (Migrating work) = appliers.starts work.applier ≡ true

-- EVENTS OF OTHER TABLES

none_take : (name : List ℕ) (count : ℕ) (log : List RowEvent) → NoneOf name log → NoneOf name (take count log)
none_take name zero log none = tt
none_take name (suc count) [] none = tt
none_take name (suc count) (event ∷ log) none = (none.0, none_take name count log none.1)

none_right : (name : List ℕ) (front part : List RowEvent) → NoneOf name (front ++ part) → NoneOf name part
none_right name [] part none = none
none_right name (event ∷ front) part none = none_right name front part none.1

none_events : (name : List ℕ) (events : List RowEvent) → NoneOf name events → appliers.events_of name events ≡ []
none_events name [] none = refl
none_events name (event ∷ events) none = ap (λ (b : Bool). cond b (event ∷ appliers.events_of name events) (appliers.events_of name events)) none.0 ∙ none_events name events none.1

none_planned : (applier : Applier) (events : List RowEvent) → appliers.events_of applier.table events ≡ [] → appliers.planned applier events ≡ []
unfolding appliers.planned
none_planned applier events none = ap (λ (es : List RowEvent). flat_map (λ (event : RowEvent). appliers.doings applier.new_schema applier.map event.change) es) none

-- an answer with nothing to apply leaves the applier reading
still_reads : (turn : ℕ) (applier : Applier) (answer : Answer) → appliers.starts applier ≡ true → ((events : List RowEvent) (next : ℕ) → answer ≡ answers.Events events next → appliers.planned applier events ≡ []) → appliers.starts (appliers.took turn applier answer) ≡ true
unfolding appliers.took
still_reads turn applier answers.Lost reads none = refl
still_reads turn applier (answers.TimedOut waited) reads none = refl
still_reads turn applier answer reads none = at applier.step refl reads answer none where
  read : (events : List RowEvent) (next : ℕ) (b : Bool) → b ≡ true → appliers.starts (cond b (appliers.moved applier (appliers.batch_of turn applier events next)) (record applier { step = applying.Beginning (appliers.batch_of turn applier events next) })) ≡ true
  read events next true is = refl
  read events next false is = absurd (false≢true is)

  at : (step : ApplyStep) → applier.step ≡ step → appliers.is_reading step ≡ true → (answer : Answer) → ((events : List RowEvent) (next : ℕ) → answer ≡ answers.Events events next → appliers.planned applier events ≡ []) → appliers.starts (appliers.after_answer turn applier step answer) ≡ true
  at applying.Reading eq is (answers.Events events next) none = read events next (length (appliers.planned applier events) == 0) (ap (λ (doings : List appliers.Doing). length doings == 0) (none events next refl))
  at applying.Reading eq is answer none = ap appliers.is_reading eq
  at (applying.Beginning batch) eq is answer none = absurd (false≢true is)
  at (applying.Applying batch done part) eq is answer none = absurd (false≢true is)
  at (applying.Committing batch) eq is answer none = absurd (false≢true is)

-- what reads the log needs no names
reads_names : (step : ApplyStep) → appliers.is_reading step ≡ true → (request : Request) → applier_asks step request ≡ true → needs_names request ≡ true → ⊥
reads_names applying.Reading is (requests.ReadLog position limit tables) kind need = false≢true need
reads_names applying.Reading is request kind need = absurd cc
reads_names (applying.Beginning batch) is request kind need = false≢true is
reads_names (applying.Applying batch done part) is request kind need = false≢true is
reads_names (applying.Committing batch) is request kind need = false≢true is

pub reading_call : (journal : List Entry) (applier : Applier) → appliers.starts applier ≡ true → appliers.next journal applier ≡ requests.ReadLog applier.position applier.batch (applier.table ∷ log_name applier.table ∷ [])
unfolding appliers.next
reading_call journal applier is = by applier.step is where
  by : (step : ApplyStep) → appliers.is_reading step ≡ true → appliers.call_at journal applier step ≡ requests.ReadLog applier.position applier.batch (applier.table ∷ log_name applier.table ∷ [])
  by applying.Reading is = refl
  by (applying.Beginning batch) is = absurd (false≢true is)
  by (applying.Applying batch done part) is = absurd (false≢true is)
  by (applying.Committing batch) is = absurd (false≢true is)

-- ONE TURN

module _ (plan : PlanData) (runs : IsRunnable plan) (serial : IsSerialPlan plan) (journal : List Entry) (entry : Entry) (kept : IsKept plan journal) (off : IsUnaltered plan journal) (run : IsRun plan journal entry) (together : IsTogether plan journal) (none : (moment plan journal).tool.reason ≡ None)
    (uncut : entry.asked ≢ Cut) (unlost : entry.side ≡ None) (asks : Asking plan journal entry.actor entry.asked) (is : IsUntouched plan journal) (was : ReadsOn (moment plan journal).tool.tool_phase) where
  abbrev now : Moment
  now = moment plan journal

  abbrev tool : Tool
  tool = record now.tool { turns = now.tool.turns + 1 }

  abbrev has : Actor → Standing
  has = standing_of plan journal

  going : is_reverting now.tool.reason ≡ false
  going = ap is_reverting none

  reads_of : (work : Work) → now.tool.tool_phase ≡ Migrating work → appliers.starts work.applier ≡ true
  reads_of work eq = subst ReadsOn eq was

  applier_had : (work : Work) → now.tool.tool_phase ≡ Migrating work → ApplierStands journal work.applier (has Apply)
  applier_had work eq = by (subst (ToolPhaseStands journal has (is_reverting now.tool.reason)) eq together.stands).applier where
    by : (is_reverting now.tool.reason ≡ true) ⊎ ApplierStands journal work.applier (has Apply) → ApplierStands journal work.applier (has Apply)
    by (inl reverting) = absurd (true≢false (sym reverting ∙ going))
    by (inr stands) = stands

  -- what it read has no event of the table
  read_none : entry.actor ≡ Apply → (work : Work) → now.tool.tool_phase ≡ Migrating work → (events : List RowEvent) (next : ℕ) → entry.answer ≡ answers.Events events next → appliers.planned work.applier events ≡ []
  read_none who work eq events next reported = by (subst (λ (a : Actor). Asking plan journal a entry.asked) who asks) where
    own : work.applier.table ≡ plan.table
    own = (subst (ToolPhaseIsNamed plan) eq (named plan journal)).applier

    some : 1 ≤ work.applier.batch
    some = let is_so : work.applier.batch ≡ plan.options.dml_batch_size = subst (BatchIs plan) eq (batch_is plan journal) in let fits = runs.fitting.batch in omega (arith, is_so, fits)

    read : about (opens entry (state_at plan journal)) entry.session entry.asked ≡ Some (requests.ReadLog work.applier.position work.applier.batch (both_tables plan.table)) → IsRead plan.table (state_at plan journal).log work.applier.position events next
    read asked =
        reading_said plan.table (limits_of plan) (scene_of plan journal) journal entry work.applier.batch work.applier.position events next is.scene
        (record { answer = reported_answer (state_at plan journal) entry run.answered; missed = reported_missed (state_at plan journal) entry run.answered; draw = reported_draw (state_at plan journal) entry run.answered }) unlost asked reported some (hints_known plan journal work runs serial kept off eq).within

    planned : IsRead plan.table (state_at plan journal).log work.applier.position events next → appliers.planned work.applier events ≡ []
    planned one =
        none_planned work.applier events
        (ap (λ (t : List ℕ). appliers.events_of t events) own
        ∙ none_events plan.table events
        (subst (NoneOf plan.table) (sym one.read)
        (All-filter (λ (event : RowEvent). bytes_eq event.table plan.table ≡ false) (on_both plan.table) one.part
        (none_right plan.table (take work.applier.position (state_at plan journal).log) one.part (subst (NoneOf plan.table) one.joins (none_take plan.table next (state_at plan journal).log is.log))))))

    by : Asking plan journal Apply entry.asked → appliers.planned work.applier events ≡ []
    by (calls_so request called idle call) =
        let one : request ≡ appliers.next journal work.applier = apply_called plan journal work request
        (ap (λ (b : Bool). cond b (rolls_back now.server (live_session journal Apply)) (apply_call plan now.server journal now.tool work)) (sym going) ∙ ap (λ (c : ToolPhase). tool_call plan now.server journal now.tool c Apply) (sym eq) ∙ call) in
        planned
        (read
        (ap (about (opens entry (state_at plan journal)) entry.session) (called ∙ ap Call (one ∙ reading_call journal work.applier (reads_of work eq)))
        ∙ ap (λ (t : List ℕ). Some (requests.ReadLog work.applier.position work.applier.batch (t ∷ log_name t ∷ []))) own))
    by (polls_so request polled waits) =
        absurd (reads_names work.applier.step (reads_of work eq) request (waits_asks (applier_asks work.applier.step) (has Apply).waits request (applier_had work eq).stands.waits waits) ((hints_go plan journal runs serial kept off).names request waits))

  -- EVERY ACTOR

  abbrev New : Kept
  New b tool_phase = b ≡ false → ReadsOn tool_phase

  back : (b : Bool) (tool_phase : ToolPhase) → New b tool_phase → New true (stopped tool_phase)
  back b tool_phase new same = absurd (true≢false same)

  begins : (setup : Setup) (tries : List ℕ) → ReadsOn (tool_phase_of plan tool.operator.size setup tries)
  begins (Ready position range) tries = refl
  begins Listing tries = tt
  begins (Clearing left) tries = tt
  begins MakingLog tries = tt
  begins MakingGhost tries = tt
  begins Marking tries = tt
  begins (Reaching position) tries = tt

  unfit : (work : Work) → now.tool.tool_phase ≡ Migrating work → UnfitKeeps New work
  unfit work eq = record { renamed = λ renamed same. reads_of work eq; reverts = λ same. absurd (true≢false same) }

  answer_keeps : (actor : Actor) → entry.actor ≡ actor → (tool_phase : ToolPhase) → now.tool.tool_phase ≡ tool_phase → AnswerKeeps plan New entry.answer tool actor tool_phase
  answer_keeps Insp who (SettingUp setup tries) eq = record { reverting = λ reverting same. tt; again = λ onward bad more same. tt; goes = λ onward good same. begins (setup_after plan.table setup entry.answer) tries }
  answer_keeps Insp who (Migrating work) eq = λ tries same. reads_of work eq
  answer_keeps Lock who (Migrating work) eq = λ tries same. reads_of work eq
  answer_keeps Ren who (Migrating work) eq = λ tries same. reads_of work eq
  answer_keeps Copy who (Migrating work) eq = record { reverting = λ reverting same. reads_of work eq; unfit = λ onward place number refuses. unfit work eq; took = λ onward fits tries same. reads_of work eq }
  answer_keeps Apply who (Migrating work) eq =
      record { reverting = λ reverting same. reads_of work eq; unfit = λ onward place number refuses. unfit work eq; took = λ onward fits tries same. still_reads tool.turns work.applier entry.answer (reads_of work eq) (read_none who work eq) }
  answer_keeps Op who (Migrating work) eq = λ same. reads_of work eq
  answer_keeps (Client c) who (Migrating work) eq = λ same. reads_of work eq
  answer_keeps Op who (SettingUp setup tries) eq = λ same. tt
  answer_keeps (Client c) who (SettingUp setup tries) eq = λ same. tt
  answer_keeps Copy who (SettingUp setup tries) eq = λ same. tt
  answer_keeps Apply who (SettingUp setup tries) eq = λ same. tt
  answer_keeps Lock who (SettingUp setup tries) eq = λ same. tt
  answer_keeps Ren who (SettingUp setup tries) eq = λ same. tt

  resized : (size : ℕ) (tool_phase : ToolPhase) → now.tool.tool_phase ≡ tool_phase → ResizeKeeps New tool size tool_phase
  resized size (SettingUp setup tries) eq = λ same. tt
  resized size (Migrating work) eq = λ same. reads_of work eq

  -- *One turn more*
  pub reads_more : is_reverting (moment plan (journal ++ entry ∷ [])).tool.reason ≡ false → ReadsOn (moment plan (journal ++ entry ∷ [])).tool.tool_phase
  reads_more onward =
      turn_kept plan New back journal entry (λ b work tries new. new)
      (record {
        commanded = λ word asked unsized same. was;
        resized = λ size asked. resized size now.tool.tool_phase refl;
        idle = λ asked idle same. was;
        lost = λ asked worked. absurd (uncut asked);
        heard = λ called commanded. answer_keeps entry.actor refl now.tool.tool_phase refl;
      }) onward
