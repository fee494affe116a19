-- Once the RENAME is done the tables that are looked at have none of the new one's name, until the tool knows that it was done.
use Rattle.std.proofs.Common.{◌≡◌, ◌⊎◌, ℕ, ◌+◌, Bool, true, false, cond, not, ◌||◌, List, [], ◌∷◌, ◌++◌, Option, Some, None, refl, sym, ap, ◌∙◌, subst, inl, inr}
use Rattle.std.specs.Prelude.{is_some}
use Rattle.std.specs.List.{list_any}
use Rattle.std.proofs.lemmas.Bool.{true≢false, false≢true}
use Rattle.std.proofs.lemmas.Option.{none-some}
use Rattle.base_script.specs.declared.actor.Actor.{Actor}
use Rattle.base_script.specs.declared.actor.Actor.TheVariants.{Op, Insp, Copy, Apply, Lock, Ren, Client}
use Rattle.base_script.specs.declared.actor.Side.{Side}
use Rattle.base_script.specs.declared.operator.OperatorWord.{OperatorWord}
use Rattle.base_script.specs.declared.operator.OperatorWord.TheVariants.{ChunkSize}
use Rattle.table_store.specs.Databases.{Database}
use Rattle.server_model.specs.Along.{Along-keeps}
use Rattle.server_model.specs.declared.answer.Answer.{Answer}
use Rattle.server_model.specs.declared.answer.Answer.TheVariants as answers
use Rattle.server_model.specs.declared.entry.Asked.{Asked}
use Rattle.server_model.specs.declared.entry.Asked.TheVariants.{Call, Poll, Command, Cut}
use Rattle.server_model.specs.declared.entry.Entry.{Entry}
use Rattle.server_model.specs.declared.listing.TableName.{TableName}
use Rattle.server_model.specs.declared.request.Request.{Request}
use Rattle.server_model.specs.declared.request.Request.TheVariants as requests
use Rattle.server_model.specs.Entries.{is_client, same_actor}
use Rattle.plan_data.specs.PlanData.{PlanData}
use Rattle.base_values.specs.ToolNames.{ghost_name}
use Rattle.tool_program.specs.JournalWords.Histories as histories
use Rattle.tool_program.specs.JournalWords.Histories.{adds, alters, entry_adds, history, is_alter, answer_in}
use Rattle.tool_program.specs.JournalWords.Journals.{state_at, may_lose, IsFaithful}
use Rattle.tool_program.specs.declared.cutover_core.cutover.Clearing.{Clearing as Cleared}
use Rattle.tool_program.specs.declared.cutover_core.cutover.Clearing.TheVariants.{Looking, Drops}
use Rattle.tool_program.specs.declared.cutover_core.cutover.CutOver.{CutOver}
use Rattle.tool_program.specs.declared.cutover_core.cutover.Leftovers.{Leftovers}
use Rattle.tool_program.specs.declared.cutover_core.cutover.Phase.{Phase}
use Rattle.tool_program.specs.declared.cutover_core.cutover.Phase.TheVariants.{Resting, Attempting, Ending, Finishing, Finished}
use Rattle.tool_program.specs.declared.cutover_core.cutover.Role.TheVariants.{Inspector, Locker, Renamer}
use Rattle.tool_program.specs.declared.cutover_core.cutover.Stage.TheVariants.{Drained}
use Rattle.tool_program.specs.CutoverCore.Attempts.{exchange, is_clear, without_first, has_name, has_sentry}
use Rattle.tool_program.specs.CutoverCore.CutOvers as cutovers
use Rattle.tool_program.specs.CutoverCore.CutOvers.{inspector_phase, finishing, finishing_after, left_at_end, sentry_alone, seen, renamer_phase, failed, applier_turn, reverted}
use Rattle.tool_program.specs.Programs.{tool_call, given, Follows}
use Rattle.tool_program.specs.Setups.{Setup}
use Rattle.tool_program.specs.Tools.{Work, ToolPhase, SettingUp, Migrating, Tool, Moment, stopped, is_reverting, moment}
use Rattle.tool_program.proofs.OnlineCalls.Machines.{ToolPhaseIsNamed, named}
use Rattle.proof_journals.specs.Plans.{IsSerialPlan}
use Rattle.proof_journals.proofs.Actors.{same_actor_itself}
use Rattle.run_actors.proofs.AlterTurns.{of_client}
use Rattle.proof_journals.specs.Machine.Machines.{ToolPhaseStands, WorkStands}
use Rattle.proof_journals.specs.Machine.Runnable.{IsRunnable}
use Rattle.proof_journals.specs.Machine.Standings.{Standing, standing_of, IsAbout, is_called, is_polled}
use Rattle.proof_journals.specs.Machine.MigrationTables.{schema_of}
use Rattle.proof_journals.proofs.Machine.CuttingOver.{LockerAsks}
use Rattle.proof_journals.proofs.Machine.Journals.{IsRun, all_runs, Asking, calls_so, polls_so, asking, lock_about, ren_about}
use Rattle.proof_journals.proofs.Machine.Marks.{ghost_not_old, history_more}
use Rattle.proof_journals.proofs.Machine.Seated.{own_missed}
use Rattle.proof_journals.proofs.Machine.Tabling.{quiet_stay, may_define}
use Rattle.proof_migration.proofs.ToolPhase.ToolPhaseTurns.{Kept, UnfitKeeps, CopyKeeps, ApplyKeeps, AnswerKeeps, ResizeKeeps, turn_kept, gives_asked}
use Rattle.proof_migration.proofs.ToolPhase.Unaltered.Away.{IsKnownAsked, about_asked, asked_begins, asked_more, tool_adds}
use Rattle.proof_migration.proofs.Attempt.InspectorAnswers.{listed_is}
use Rattle.proof_migration.proofs.Attempt.Leaving.{AllStay, exchange_left, exchange_reported}
use Rattle.proof_migration.proofs.Attempt.LockerAnswers.{LockerLeaves}
use Rattle.proof_migration.proofs.Attempt.RenamerAnswers.{AsksAt, either}
use Rattle.proof_migration.proofs.Attempt.Stages.{InspectorAt, StandsAt, RenamerAt}
use Rattle.proof_migration.proofs.Attempt.Standing.{ToolPhaseAt, IsStanding, standing_more, standing_along, about_own, quiet_stays, listed, inspector_asks, asks_at, renamer_unlocked, locker_leaves, no_asking, rest}
use Rattle.proof_migration.specs.Attempt.Renamed.{IsRenamedAt, ToolPhaseRenamed, RenamesAreSeen}

-- WHAT THE ANSWERS LEAVE OF THE PHASE

module _ (plan : PlanData) (tables : Database) where
  abbrev At : Phase → Type 0
  At phase = IsRenamedAt plan tables phase

  ended_at : (phase : Phase) → At phase → At (cutovers.ended phase)
  ended_at (Ending Looking) at = at
  ended_at (Finishing clearing) at = at
  ended_at Finished at = at
  ended_at Resting at = absurd at
  ended_at (Attempting stage) at = absurd at
  ended_at (Ending (Drops left)) at = absurd at

  drained_at : (cutover : CutOver) (hint : ℕ) (phase : Phase) → At phase → At (cutovers.drained cutover hint phase)
  drained_at cutover hint (Ending Looking) at = at
  drained_at cutover hint (Finishing clearing) at = at
  drained_at cutover hint Finished at = at
  drained_at cutover hint Resting at = absurd at
  drained_at cutover hint (Attempting stage) at = absurd at
  drained_at cutover hint (Ending (Drops left)) at = absurd at

  locker_at : (phase : Phase) (answer : Answer) → At phase → At (cutovers.locker_phase phase answer)
  locker_at (Ending Looking) answer at = at
  locker_at (Finishing clearing) answer at = at
  locker_at Finished answer at = at
  locker_at Resting answer at = absurd at
  locker_at (Attempting stage) answer at = absurd at
  locker_at (Ending (Drops left)) answer at = absurd at

  failed_at : (phase : Phase) → At phase → At (failed phase)
  failed_at (Ending Looking) at = at
  failed_at (Finishing clearing) at = at
  failed_at Finished at = at
  failed_at Resting at = absurd at
  failed_at (Attempting stage) at = absurd at
  failed_at (Ending (Drops left)) at = absurd at

  waits_at : (phase : Phase) → At phase → At (cutovers.waits_phase phase)
  waits_at (Ending Looking) at = at
  waits_at (Finishing clearing) at = at
  waits_at Finished at = at
  waits_at Resting at = absurd at
  waits_at (Attempting stage) at = absurd at
  waits_at (Ending (Drops left)) at = absurd at

  renamer_at : (phase : Phase) (answer : Answer) → At phase → At (renamer_phase phase answer)
  renamer_at phase (answers.Ok count) at = tt
  renamer_at phase (answers.Waits by) at = waits_at phase at
  renamer_at phase answers.Lost at = failed_at phase at
  renamer_at phase (answers.TimedOut waited) at = failed_at phase at
  renamer_at phase answer at = at

  finishing_at : (left : Leftovers) → At (finishing left)
  finishing_at left = by (is_clear left) where
    by : (b : Bool) → At (cond b Finished (Finishing (Drops left)))
    by true = tt
    by false = tt

  finished_at : (cutover : CutOver) (clearing : Cleared) (answer : Answer) → At (finishing_after cutover clearing answer)
  finished_at cutover clearing answers.Lost = tt
  finished_at cutover clearing (answers.TimedOut waited) = tt
  finished_at cutover Looking (answers.Tables listing) = finishing_at (left_at_end cutover listing)
  finished_at cutover (Drops left) (answers.Ok count) = finishing_at (without_first left)
  finished_at cutover Looking answer = tt
  finished_at cutover (Drops left) answer = tt

  -- the new table isn't listed
  seen_at : (cutover : CutOver) (listing : List TableName) → has_name (ghost_name cutover.table) listing ≡ false → At (seen cutover listing)
  seen_at cutover listing missing = by (has_name (ghost_name cutover.table) listing) (has_sentry cutover.table listing) missing where
    by : (a b : Bool) → a ≡ false → At (cond (not a) (finishing (left_at_end cutover listing)) (cond b (Ending (Drops sentry_alone)) Resting))
    by false b none = finishing_at (left_at_end cutover listing)
    by true b none = absurd (true≢false none)

  inspector_at : (cutover : CutOver) (phase : Phase) (answer : Answer) → ((listing : List TableName) → phase ≡ Ending Looking → answer ≡ answers.Tables listing → has_name (ghost_name cutover.table) listing ≡ false) → At phase → At (inspector_phase cutover phase answer)
  inspector_at cutover (Ending Looking) answers.Lost misses at = at
  inspector_at cutover (Ending Looking) (answers.TimedOut waited) misses at = at
  inspector_at cutover (Ending Looking) (answers.Tables listing) misses at = seen_at cutover listing (misses listing refl refl)
  inspector_at cutover (Ending Looking) answer misses at = at
  inspector_at cutover (Finishing clearing) answer misses at = finished_at cutover clearing answer
  inspector_at cutover Finished answer misses at = tt
  inspector_at cutover Resting answer misses at = absurd at
  inspector_at cutover (Attempting stage) answer misses at = absurd at
  inspector_at cutover (Ending (Drops left)) answer misses at = absurd at

-- ONE TURN

pub record IsSeen (plan : PlanData) (journal : List Entry) : Type 0 where
  pub standing : IsStanding plan journal
  pub asked : IsKnownAsked plan journal
  pub seen : list_any is_alter (history plan journal) ≡ true → ToolPhaseRenamed plan (state_at plan journal).tables (moment plan journal).tool.tool_phase

-- what the turn is told to have done, where it is the ALTER's
record IsAlters (plan : PlanData) (journal : List Entry) (entry : Entry) : Type 0 where
  actor : entry.actor ≡ Ren
  is_about : histories.about journal entry ≡ Some (exchange plan.table)
  count : ℕ
  reported : answer_in entry.asked entry.side entry.answer entry.missed ≡ Some (answers.Ok count)

module _ (plan : PlanData) (serial : IsSerialPlan plan) (runs : IsRunnable plan) (journal : List Entry) (entry : Entry) (is : IsSeen plan journal) (run : IsRun plan journal entry) where
  alters_so : list_any is_alter (entry_adds plan journal entry) ≡ true → IsAlters plan journal entry
  alters_so alters_now = by (histories.about journal entry) (answer_in entry.asked entry.side entry.answer entry.missed) refl refl (ap (list_any is_alter) (sym (tool_adds plan serial journal entry runs.fitting is.asked run tool entry.actor tool)) ∙ alters_now) where
    tool : is_client entry.actor ≡ false
    tool = by_actor entry.actor alters_now where
      by_actor : (actor : Actor) → list_any is_alter (adds plan journal entry actor) ≡ true → is_client actor ≡ false
      by_actor (Client number) is_so = absurd (true≢false (sym is_so ∙ of_client plan journal entry number))
      by_actor Op is_so = refl
      by_actor Insp is_so = refl
      by_actor Copy is_so = refl
      by_actor Apply is_so = refl
      by_actor Lock is_so = refl
      by_actor Ren is_so = refl

    by : (request : Option Request) (reported : Option Answer) → histories.about journal entry ≡ request → answer_in entry.asked entry.side entry.answer entry.missed ≡ reported → list_any is_alter (alters plan request reported) ≡ true → IsAlters plan journal entry
    by (Some (requests.Rename pairs)) (Some (answers.Ok count)) is_so reported alter =
        let asks = about_asked plan serial journal entry runs.fitting is.asked run tool (requests.Rename pairs) is_so in
        record { actor = asks.0; is_about = is_so ∙ ap Some asks.1; count = count; reported = reported }
    by request (Some (answers.Ok count)) is_so reported alter = absurd cc
    by request reported is_so statement_result alter = absurd cc

  abbrev now : Moment
  now = moment plan journal

  abbrev tool : Tool
  tool = record now.tool { turns = now.tool.turns + 1 }

  abbrev more : List Entry
  more = journal ++ entry ∷ []

  abbrev has : Actor → Standing
  has = standing_of plan journal

  abbrev before : Database
  before = (state_at plan journal).tables

  abbrev after : Database
  after = (state_at plan more).tables

  abbrev New : Kept
  New = λ b tool_phase. ToolPhaseRenamed plan after tool_phase

  standing : IsStanding plan journal
  standing = is.standing

  -- the RENAME was done before, or in this turn
  abbrev Was : Type 0
  Was = ToolPhaseRenamed plan before now.tool.tool_phase ⊎ IsAlters plan journal entry

  old_at : Was → (actor : Actor) → entry.actor ≡ actor → same_actor actor Ren ≡ false → (tool_phase : ToolPhase) → now.tool.tool_phase ≡ tool_phase → ToolPhaseRenamed plan before tool_phase
  old_at (inl old) actor same differ tool_phase eq = subst (ToolPhaseRenamed plan before) eq old
  old_at (inr alter) actor same differ tool_phase eq = absurd (true≢false (sym (same_actor_itself Ren) ∙ ap (λ (a : Actor). same_actor a Ren) (sym alter.actor ∙ same) ∙ differ))

  ghost_stays : schema_of (ghost_name plan.table) after ≡ schema_of (ghost_name plan.table) before → (tool_phase : ToolPhase) → ToolPhaseRenamed plan before tool_phase → ToolPhaseRenamed plan after tool_phase
  ghost_stays stay (SettingUp setup tries) old = absurd old
  ghost_stays stay (Migrating work) old = by work.cutover.phase old where
    by : (phase : Phase) → IsRenamedAt plan before phase → IsRenamedAt plan after phase
    by (Ending Looking) none = stay ∙ none
    by (Finishing clearing) none = tt
    by Finished none = tt
    by Resting none = absurd none
    by (Attempting stage) none = absurd none
    by (Ending (Drops left)) none = absurd none

  back : (b : Bool) (tool_phase : ToolPhase) → New b tool_phase → New true (stopped tool_phase)
  unfolding reverted
  back b (SettingUp setup tries) at = at
  back b (Migrating work) at = ended_at plan after work.cutover.phase at

  drain : (b : Bool) (work : Work) (tries : List ℕ) → New b (Migrating work) → New b (Migrating (record work { cutover = applier_turn work.applier.hint work.cutover; attempt_tries = tries }))
  unfolding applier_turn
  drain b work tries at = drained_at plan after work.cutover work.applier.hint work.cutover.phase at

  unfit_at : (work : Work) → New false (Migrating work) → UnfitKeeps New work
  unfit_at work at = record { renamed = λ renamed. at; reverts = back false (Migrating work) at }

  copy_at : (answer : Answer) (work : Work) → New false (Migrating work) → CopyKeeps New answer tool work
  copy_at answer work at = record { reverting = λ reverting. at; unfit = λ going place number unfit. unfit_at work at; took = λ going fits tries. at }

  apply_at : (answer : Answer) (work : Work) → New false (Migrating work) → ApplyKeeps New answer tool work
  apply_at answer work at = record { reverting = λ reverting. at; unfit = λ going place number unfit. unfit_at work at; took = λ going fits tries. at }

  own_table : (work : Work) → now.tool.tool_phase ≡ Migrating work → work.cutover.table ≡ plan.table
  own_table work eq = (subst (ToolPhaseIsNamed plan) eq (named plan journal)).cutover

  setup_off : (setup : Setup) (tries : List ℕ) → now.tool.tool_phase ≡ SettingUp setup tries → Was → ((actor : Actor) → entry.actor ≡ actor → same_actor actor Ren ≡ false → ⊥)
  setup_off setup tries eq was actor same differ = old_at was actor same differ (SettingUp setup tries) eq

  work_stands : (work : Work) → now.tool.tool_phase ≡ Migrating work → WorkStands journal (is_reverting now.tool.reason) has work
  work_stands work eq = subst (ToolPhaseStands journal has (is_reverting now.tool.reason)) eq standing.tabled.all.tool.stands

  at_work : (work : Work) → now.tool.tool_phase ≡ Migrating work → StandsAt plan before (has Insp).waits work.cutover.phase work.cutover.hold work.cutover.renamer_waits work.cutover.is_asked
  at_work work eq = subst (ToolPhaseAt plan before (has Insp).waits) eq standing.tool_phase

  -- THE INSPECTOR

  module _ (work : Work) (eq : now.tool.tool_phase ≡ Migrating work) (request : Request) (about : IsAbout request (has entry.actor) entry.asked) (asks : InspectorAt plan work.cutover.phase request) where
    stayed : (phase : Phase) → work.cutover.phase ≡ phase → IsRenamedAt plan before phase → IsRenamedAt plan after phase
    stayed (Ending Looking) at none = quiet_stays plan journal entry standing run request about (subst (λ (p : Phase). InspectorAt plan p request) at asks) (ghost_name plan.table) ∙ none
    stayed (Finishing clearing) at none = tt
    stayed Finished at none = tt
    stayed Resting at none = absurd none
    stayed (Attempting stage) at none = absurd none
    stayed (Ending (Drops left)) at none = absurd none

    misses : IsRenamedAt plan before work.cutover.phase → (listing : List TableName) → work.cutover.phase ≡ Ending Looking → entry.answer ≡ answers.Tables listing → has_name (ghost_name work.cutover.table) listing ≡ false
    misses old listing looking lists =
        ap (λ (t : List ℕ). has_name (ghost_name t) listing) (own_table work eq) ∙ ap (has_name (ghost_name plan.table)) (listed plan journal entry standing run request about listing lists)
        ∙ listed_is (ghost_name plan.table) before ∙ ap is_some (subst (IsRenamedAt plan before) looking old)

    inspector_heard : IsRenamedAt plan before work.cutover.phase → (tries : List ℕ) → New (is_reverting now.tool.reason) (Migrating (record work { cutover = cutovers.took Inspector work.cutover entry.answer; attempt_tries = tries }))
    unfolding cutovers.took
    inspector_heard old tries = inspector_at plan after work.cutover work.cutover.phase entry.answer (misses old) (stayed work.cutover.phase refl old)

  inspector_turn : (work : Work) → now.tool.tool_phase ≡ Migrating work → entry.actor ≡ Insp → Asking plan journal Insp entry.asked → IsRenamedAt plan before work.cutover.phase → (tries : List ℕ)
      → New (is_reverting now.tool.reason) (Migrating (record work { cutover = cutovers.took Inspector work.cutover entry.answer; attempt_tries = tries }))
  inspector_turn work eq same (calls_so request asks idle call) old tries =
      inspector_heard work eq request (about_own plan journal entry standing run Insp request same (is_called asks idle)) (inspector_asks plan journal entry standing run work eq request (ap (λ (c : ToolPhase). tool_call plan now.server journal now.tool c Insp) (sym eq) ∙ call)) old tries
  inspector_turn work eq same (polls_so request asks some) old tries = inspector_heard work eq request (about_own plan journal entry standing run Insp request same (is_polled asks some)) ((at_work work eq).inspector request some) old tries

  -- THE LOCKER

  leaves_ghost : (request : Request) → LockerLeaves plan before after request entry.answer → schema_of (ghost_name plan.table) after ≡ schema_of (ghost_name plan.table) before
  leaves_ghost (requests.Create schema) leaves = leaves.0 (ghost_name plan.table) (ghost_not_old plan.table)
  leaves_ghost (requests.Drop name) leaves = leaves.0 (ghost_name plan.table) (ghost_not_old plan.table)
  leaves_ghost request leaves = leaves (ghost_name plan.table)

  locker_turn : (work : Work) → now.tool.tool_phase ≡ Migrating work → entry.actor ≡ Lock → Asking plan journal Lock entry.asked → ToolPhaseRenamed plan before (Migrating work) → (tries : List ℕ)
      → New (is_reverting now.tool.reason) (Migrating (record work { cutover = cutovers.took Locker work.cutover entry.answer; attempt_tries = tries }))
  unfolding cutovers.took
  locker_turn work eq same asks old tries =
      lock_about plan journal entry standing.tabled.all.tool run work eq (work_stands work eq) asks (ToolPhaseRenamed plan after (Migrating (record work { cutover = cutovers.took Locker work.cutover entry.answer; attempt_tries = tries })))
      (λ request about kind.
      let asks_own : LockerAsks plan.table work.cutover.hold work.cutover.phase request = subst (λ (t : List ℕ). LockerAsks t work.cutover.hold work.cutover.phase request) (own_table work eq) kind in
      locker_at plan after work.cutover.phase entry.answer
      (ghost_stays (leaves_ghost request (locker_leaves plan journal entry standing run work eq request (about_own plan journal entry standing run Lock request same about) same asks_own)) (Migrating work) old))

  -- THE RENAMER

  about_exchange : (work : Work) → now.tool.tool_phase ≡ Migrating work → entry.actor ≡ Ren → (request : Request) → IsAbout request (has Ren) entry.asked → request ≡ exchange work.cutover.table → IsAbout (exchange plan.table) (has entry.actor) entry.asked
  about_exchange work eq same request about kind = about_own plan journal entry standing run Ren (exchange plan.table) same (subst (λ (r : Request). IsAbout r (has Ren) entry.asked) (kind ∙ ap exchange (own_table work eq)) about)

  unlocked : (work : Work) → now.tool.tool_phase ≡ Migrating work → entry.actor ≡ Ren → (has entry.actor).locked ≡ []
  unlocked work eq same = ap (λ (a : Actor). (has a).locked) same ∙ renamer_unlocked plan journal entry standing run work eq

  -- the RENAME is done: the phase is one that looks, or the tool knows it
  renamed_now : (work : Work) → AsksAt work.cutover.phase work.cutover.renamer_waits → RenamerAt work.cutover.phase work.cutover.renamer_waits → schema_of (ghost_name plan.table) after ≡ None → IsRenamedAt plan after (failed work.cutover.phase)
  renamed_now work asks renames none = by work.cutover.phase asks renames where
    off : (phase : Phase) → AsksAt phase work.cutover.renamer_waits → (phase ≡ Attempting Drained → ⊥) → work.cutover.renamer_waits ≡ false → ⊥
    off phase (inl drained) undrained waits = undrained drained
    off phase (inr on) undrained waits = true≢false (sym on ∙ waits)

    by : (phase : Phase) → AsksAt phase work.cutover.renamer_waits → RenamerAt phase work.cutover.renamer_waits → IsRenamedAt plan after (failed phase)
    by (Attempting stage) asks renames = none
    by (Ending Looking) asks renames = none
    by (Finishing clearing) asks renames = tt
    by Finished asks renames = tt
    by Resting asks renames = absurd (off Resting asks (λ same. cc) renames)
    by (Ending (Drops left)) asks renames = absurd (off (Ending (Drops left)) asks (λ same. cc) renames)

  renamer_turn : Was → (work : Work) → now.tool.tool_phase ≡ Migrating work → entry.actor ≡ Ren → Asking plan journal Ren entry.asked → (tries : List ℕ) → New (is_reverting now.tool.reason) (Migrating (record work { cutover = cutovers.took Renamer work.cutover entry.answer; attempt_tries = tries }))
  unfolding cutovers.took
  renamer_turn was work eq same asks tries =
      ren_about plan journal entry standing.tabled.all.tool run work eq (work_stands work eq) asks (ToolPhaseRenamed plan after (Migrating (record work { cutover = cutovers.took Renamer work.cutover entry.answer; attempt_tries = tries })))
      (λ request about kind. by was (about_exchange work eq same request about kind)) where
        at : StandsAt plan before (has Insp).waits work.cutover.phase work.cutover.hold work.cutover.renamer_waits work.cutover.is_asked
        at = at_work work eq

        stayed : (tool_phase : ToolPhase) → ToolPhaseRenamed plan before tool_phase → AllStay before after ⊎ (schema_of (ghost_name plan.table) after ≡ None) → ToolPhaseRenamed plan after tool_phase
        stayed tool_phase old (inl stay) = ghost_stays (stay (ghost_name plan.table)) tool_phase old
        stayed (SettingUp setup some) old (inr none) = absurd old
        stayed (Migrating one) old (inr none) = renamed one.cutover.phase old where
          renamed : (phase : Phase) → IsRenamedAt plan before phase → IsRenamedAt plan after phase
          renamed (Ending Looking) old = none
          renamed (Finishing clearing) old = tt
          renamed Finished old = tt
          renamed Resting old = absurd old
          renamed (Attempting stage) old = absurd old
          renamed (Ending (Drops left)) old = absurd old

        -- the answer is Ok, or it was missed
        reported_answer : (answer : Answer) → entry.answer ≡ answer → (alter : IsAlters plan journal entry) → ((count : ℕ) × (answer ≡ answers.Ok count)) ⊎ (answer ≡ answers.Lost)
        reported_answer answer is_so alter = by_side entry.side refl entry.asked alter.reported where
          same_one : (one : Answer) (count : ℕ) → Some one ≡ Some (answers.Ok count) → one ≡ answers.Ok count
          same_one one count both = cc

          by_side : (side : Option Side) → entry.side ≡ side → (asked : Asked) → answer_in asked side entry.answer entry.missed ≡ Some (answers.Ok alter.count) → ((count : ℕ) × (answer ≡ answers.Ok count)) ⊎ (answer ≡ answers.Lost)
          by_side (Some side) at_side asked reported = inr (sym is_so ∙ own_missed plan journal entry standing.tabled.all.tool.known (record { answered = run.answered; seated = record { session = run.followed.session } }) side at_side)
          by_side None at_side Cut reported = absurd cc
          by_side None at_side (Call called) reported = inl (alter.count, sym is_so ∙ same_one entry.answer alter.count reported)
          by_side None at_side Poll reported = inl (alter.count, sym is_so ∙ same_one entry.answer alter.count reported)
          by_side None at_side (Command word) reported = inl (alter.count, sym is_so ∙ same_one entry.answer alter.count reported)

        answered : (answer : Answer) → ((count : ℕ) × (answer ≡ answers.Ok count)) ⊎ (answer ≡ answers.Lost) → schema_of (ghost_name plan.table) after ≡ None → IsRenamedAt plan after (renamer_phase work.cutover.phase answer)
        answered (answers.Ok count) reported none = tt
        answered answers.Lost reported none = renamed_now work (asks_at plan journal entry standing run work eq asks) at.renamer none
        answered (answers.Waits one) (inl reported) none = absurd (let no : answers.Waits one ≡ answers.Ok reported.0 = reported.1 in cc)
        answered (answers.Waits one) (inr reported) none = absurd cc
        answered (answers.TimedOut waited) (inl reported) none = absurd (let no : answers.TimedOut waited ≡ answers.Ok reported.0 = reported.1 in cc)
        answered (answers.TimedOut waited) (inr reported) none = absurd cc
        answered answer (inl reported) none = absurd (let no : answer ≡ answers.Ok reported.0 = reported.1 in cc)
        answered answer (inr reported) none = absurd cc

        by : Was → IsAbout (exchange plan.table) (has entry.actor) entry.asked → IsRenamedAt plan after (renamer_phase work.cutover.phase entry.answer)
        by (inl old) about =
            renamer_at plan after work.cutover.phase entry.answer
            (stayed (Migrating work) (subst (ToolPhaseRenamed plan before) eq old)
            (either plan before after (has Insp).waits work.cutover.hold work.cutover.renamer_waits work.cutover.is_asked entry.answer
            (exchange_left plan journal entry standing.tabled.all.tool.known (record { answered = run.answered; seated = record { session = run.followed.session } }) plan.table about (unlocked work eq same))))
        by (inr alter) about =
            answered entry.answer (reported_answer entry.answer refl alter)
            (exchange_reported plan journal entry standing.tabled.all.tool.known (record { answered = run.answered; seated = record { session = run.followed.session } }) plan.table about (unlocked work eq same) alter.count alter.reported)

  -- EVERY ACTOR

  quiet_at : (actor : Actor) → entry.actor ≡ actor → may_define actor ≡ false → given plan journal actor ≡ Some entry.asked → (entry.asked ≡ Cut → ⊥) → ((word : OperatorWord) → entry.asked ≡ Command word → ⊥) → same_actor actor Ren ≡ false → Was → (tool_phase : ToolPhase) → now.tool.tool_phase ≡ tool_phase → ToolPhaseRenamed plan after tool_phase
  quiet_at actor same none gives called commanded differ was tool_phase eq =
      ghost_stays (quiet_stay plan journal entry standing.tabled.all standing.tabled.quiet run actor same none gives called commanded (ghost_name plan.table)) tool_phase (old_at was actor same differ tool_phase eq)

  heard_at : Was → (actor : Actor) → entry.actor ≡ actor → given plan journal actor ≡ Some entry.asked → (entry.asked ≡ Cut → ⊥) → ((word : OperatorWord) → entry.asked ≡ Command word → ⊥) → (tool_phase : ToolPhase) → now.tool.tool_phase ≡ tool_phase → AnswerKeeps plan New entry.answer tool actor tool_phase
  unfolding given
  heard_at was Insp same gives called commanded (SettingUp setup tries) eq = absurd (setup_off setup tries eq was Insp same refl)
  heard_at was Insp same gives called commanded (Migrating work) eq = inspector_turn work eq same (asking plan journal Insp entry.asked standing.tabled.all.tool.server gives) (old_at was Insp same refl (Migrating work) eq)
  heard_at was Copy same gives called commanded (SettingUp setup tries) eq = absurd (setup_off setup tries eq was Copy same refl)
  heard_at was Copy same gives called commanded (Migrating work) eq = copy_at entry.answer work (quiet_at Copy same refl gives called commanded refl was (Migrating work) eq)
  heard_at was Apply same gives called commanded (SettingUp setup tries) eq = absurd (setup_off setup tries eq was Apply same refl)
  heard_at was Apply same gives called commanded (Migrating work) eq = apply_at entry.answer work (quiet_at Apply same refl gives called commanded refl was (Migrating work) eq)
  heard_at was Lock same gives called commanded (SettingUp setup tries) eq = absurd (setup_off setup tries eq was Lock same refl)
  heard_at was Lock same gives called commanded (Migrating work) eq = locker_turn work eq same (asking plan journal Lock entry.asked standing.tabled.all.tool.server gives) (old_at was Lock same refl (Migrating work) eq)
  heard_at was Ren same gives called commanded (SettingUp setup tries) eq =
      absurd (no_asking plan journal entry standing run Ren (subst (ToolPhaseStands journal has (is_reverting now.tool.reason)) eq standing.tabled.all.tool.stands).renamer
      (λ request call. none-some request (ap (λ (c : ToolPhase). tool_call plan now.server journal now.tool c Ren) (sym eq) ∙ call)) (asking plan journal Ren entry.asked standing.tabled.all.tool.server gives))
  heard_at was Ren same gives called commanded (Migrating work) eq = renamer_turn was work eq same (asking plan journal Ren entry.asked standing.tabled.all.tool.server gives)
  heard_at was Op same gives called commanded tool_phase eq = by tool_phase eq where
    by : (tool_phase : ToolPhase) → now.tool.tool_phase ≡ tool_phase → AnswerKeeps plan New entry.answer tool Op tool_phase
    by (SettingUp setup tries) eq = absurd (setup_off setup tries eq was Op same refl)
    by (Migrating work) eq = quiet_at Op same refl gives called commanded refl was (Migrating work) eq
  heard_at was (Client c) same gives called commanded tool_phase eq = by tool_phase eq where
    by : (tool_phase : ToolPhase) → now.tool.tool_phase ≡ tool_phase → AnswerKeeps plan New entry.answer tool (Client c) tool_phase
    by (SettingUp setup tries) eq = absurd (setup_off setup tries eq was (Client c) same refl)
    by (Migrating work) eq = quiet_at (Client c) same refl gives called commanded refl was (Migrating work) eq

  -- a turn that asks the server for nothing leaves the tables
  old_still : may_lose entry.asked ≡ false → ToolPhaseRenamed plan before now.tool.tool_phase → (tool_phase : ToolPhase) → now.tool.tool_phase ≡ tool_phase → ToolPhaseRenamed plan after tool_phase
  old_still nothing old tool_phase eq = ghost_stays (rest plan journal entry standing run nothing (ghost_name plan.table)) tool_phase (subst (ToolPhaseRenamed plan before) eq old)

  lost_at : entry.asked ≡ Cut → ToolPhaseRenamed plan before now.tool.tool_phase → (actor : Actor) (tool_phase : ToolPhase) → now.tool.tool_phase ≡ tool_phase → AnswerKeeps plan New answers.Lost tool actor tool_phase
  unfolding cutovers.took
  lost_at cut old actor (SettingUp setup tries) eq = absurd (subst (ToolPhaseRenamed plan before) eq old)
  lost_at cut old Insp (Migrating work) eq = λ tries. inspector_at plan after work.cutover work.cutover.phase answers.Lost (λ listing looking lists. absurd cc) (old_still (ap may_lose cut) old (Migrating work) eq)
  lost_at cut old Lock (Migrating work) eq = λ tries. locker_at plan after work.cutover.phase answers.Lost (old_still (ap may_lose cut) old (Migrating work) eq)
  lost_at cut old Ren (Migrating work) eq = λ tries. renamer_at plan after work.cutover.phase answers.Lost (old_still (ap may_lose cut) old (Migrating work) eq)
  lost_at cut old Copy (Migrating work) eq = copy_at answers.Lost work (old_still (ap may_lose cut) old (Migrating work) eq)
  lost_at cut old Apply (Migrating work) eq = apply_at answers.Lost work (old_still (ap may_lose cut) old (Migrating work) eq)
  lost_at cut old Op (Migrating work) eq = old_still (ap may_lose cut) old (Migrating work) eq
  lost_at cut old (Client c) (Migrating work) eq = old_still (ap may_lose cut) old (Migrating work) eq

  -- the ALTER's turn is a call or a poll
  not_cut : Was → entry.asked ≡ Cut → ToolPhaseRenamed plan before now.tool.tool_phase
  not_cut (inl old) cut = old
  not_cut (inr alter) cut = absurd (no (sym (ap (λ (a : Asked). answer_in a entry.side entry.answer entry.missed) cut) ∙ alter.reported)) where
    no : None ≡ Some (answers.Ok alter.count) → ⊥
    no both = cc

  not_commanded : Was → (word : OperatorWord) → entry.asked ≡ Command word → ToolPhaseRenamed plan before now.tool.tool_phase
  not_commanded (inl old) word asks = old
  not_commanded (inr alter) word asks = absurd (no (sym (ap (λ (a : Asked). histories.asked_about a (histories.request_waiting journal entry.actor)) asks) ∙ alter.is_about)) where
    no : None ≡ Some (exchange plan.table) → ⊥
    no both = cc

  resize_at : Was → (size : ℕ) → entry.asked ≡ Command (ChunkSize size) → (tool_phase : ToolPhase) → now.tool.tool_phase ≡ tool_phase → ResizeKeeps New tool size tool_phase
  resize_at was size asks (SettingUp setup tries) eq = absurd (subst (ToolPhaseRenamed plan before) eq (not_commanded was (ChunkSize size) asks))
  resize_at was size asks (Migrating work) eq = old_still (ap may_lose asks) (not_commanded was (ChunkSize size) asks) (Migrating work) eq

  tool_phase_more : Was → ToolPhaseRenamed plan after (moment plan more).tool.tool_phase
  tool_phase_more was =
      turn_kept plan New back journal entry drain
      (record {
        commanded = λ word asks unsized. old_still (ap may_lose asks) (not_commanded was word asks) now.tool.tool_phase refl;
        resized = λ size asks. resize_at was size asks now.tool.tool_phase refl;
        idle = λ asks none. old_still (ap may_lose asks) (not_cut was asks) now.tool.tool_phase refl;
        lost = λ asks worked. lost_at asks (not_cut was asks) entry.actor now.tool.tool_phase refl;
        heard = λ called commanded. heard_at was entry.actor refl (gives_asked plan journal entry entry.asked run.followed.given refl called) called commanded now.tool.tool_phase refl;
      })

  pub seen_more : IsSeen plan more
  seen_more = record { standing = standing_more plan journal entry standing run; asked = asked_more plan journal entry run is.asked; seen = λ marked. tool_phase_more (was (list_any is_alter (history plan journal)) refl (sym (history_more plan journal entry) ∙ marked)) } where
    was : (b : Bool) → list_any is_alter (history plan journal) ≡ b → (b || list_any is_alter (entry_adds plan journal entry)) ≡ true → Was
    was true marked some = inl (is.seen marked)
    was false unmarked some = inr (alters_so some)

-- WHOLE JOURNALS

seen_begins : (plan : PlanData) → IsRunnable plan → IsSeen plan []
unfolding history
seen_begins plan runs = record { standing = standing_along plan [] runs.fitting runs.stands tt; asked = asked_begins plan runs; seen = λ marked. absurd (false≢true marked) }

pub all_are_seen : (plan : PlanData) (journal : List Entry) → IsRunnable plan → IsSerialPlan plan → IsFaithful plan journal → Follows plan journal → IsSeen plan journal
unfolding Follows
all_are_seen plan journal runs serial faithful follows = Along-keeps (IsRun plan) (IsSeen plan) (λ before entry run is. seen_more plan serial runs before entry is run) [] journal (all_runs plan [] journal faithful follows) (seen_begins plan runs)

-- *Renames are seen*
pub all_seen : RenamesAreSeen
all_seen plan journal runs serial faithful follows marked = (all_are_seen plan journal runs serial faithful follows).seen marked
