-- The sentry's CREATE isn't refused: no table of its name stands where no attempt does.
use Rattle.std.proofs.Common.{◌≡◌, ℕ, List, [], ◌∷◌, ◌++◌, Option, Some, None, refl, sym, ap, ◌∙◌, subst}
use Rattle.base_script.specs.declared.actor.Actor.{Actor}
use Rattle.base_script.specs.declared.actor.Actor.TheVariants.{Insp, Lock}
use Rattle.base_script.specs.declared.actor.Side.{Side}
use Rattle.table_store.specs.Databases.{Database}
use Rattle.server_model.specs.declared.answer.Answer.{Answer}
use Rattle.server_model.specs.declared.answer.Answer.TheVariants as answers
use Rattle.server_model.specs.declared.entry.Asked.{Asked}
use Rattle.server_model.specs.declared.entry.Asked.TheVariants.{Call, Poll, Command, Cut}
use Rattle.server_model.specs.declared.entry.Entry.{Entry}
use Rattle.server_model.specs.declared.request.Request.{Request}
use Rattle.server_model.specs.declared.request.Request.TheVariants as requests
use Rattle.server_model.specs.PlainServer.{serves}
use Rattle.plan_data.specs.PlanData.{PlanData}
use Rattle.base_values.specs.ToolNames.{old_name}
use Rattle.tool_changelog.specs.ToolTables.{sentry_schema}
use Rattle.tool_program.specs.JournalWords.Journals.{state_at, opens}
use Rattle.tool_program.specs.declared.cutover_core.cutover.Hold.{Hold}
use Rattle.tool_program.specs.declared.cutover_core.cutover.Hold.TheVariants.{Nothing}
use Rattle.tool_program.specs.declared.cutover_core.cutover.Phase.{Phase}
use Rattle.tool_program.specs.declared.cutover_core.cutover.Phase.TheVariants.{Resting}
use Rattle.tool_program.specs.Programs.{given, IsGiven}
use Rattle.tool_program.specs.Tools.{Work, Migrating, is_reverting, moment}
use Rattle.tool_program.proofs.OnlineCalls.Machines.{ToolPhaseIsNamed, named}
use Rattle.proof_journals.specs.Machine.Machines.{ToolPhaseStands, WorkStands, PhaseHolds, held}
use Rattle.proof_journals.specs.Machine.Standings.{Standing, standing_of, IsAbout}
use Rattle.proof_journals.specs.Machine.MigrationTables.{schema_of}
use Rattle.proof_journals.proofs.Machine.CuttingOver.{LockerAsks}
use Rattle.proof_journals.proofs.Machine.Journals.{IsRun, asking, lock_about}
use Rattle.proof_journals.proofs.Machine.Seated.{IsKnown, IsServed, own_given, own_missed}
use Rattle.proof_migration.proofs.Attempt.Leaving.{CreateLeaves, Left, create_left}
use Rattle.proof_migration.proofs.Attempt.LockerAnswers.{heard_leaves}
use Rattle.proof_migration.proofs.Attempt.Stages.{StandsAt, TablesAt}
use Rattle.proof_migration.proofs.Attempt.Standing.{ToolPhaseAt, IsStanding, about_own}

module _ (plan : PlanData) (journal : List Entry) (entry : Entry) (is : IsStanding plan journal) (run : IsRun plan journal entry) (work : Work) (eq : (moment plan journal).tool.tool_phase ≡ Migrating work) (resting : work.cutover.phase ≡ Resting) (same : entry.actor ≡ Lock) where
  abbrev has : Actor → Standing
  has = standing_of plan journal

  abbrev before : Database
  before = (state_at plan journal).tables

  abbrev after : Database
  after = (state_at plan (journal ++ entry ∷ [])).tables

  served : IsServed plan journal entry
  served = record { answered = run.answered; seated = record { session = run.followed.session } }

  known : IsKnown plan journal
  known = is.tabled.all.tool.known

  stands : WorkStands journal (is_reverting (moment plan journal).tool.reason) has work
  stands = subst (ToolPhaseStands journal has (is_reverting (moment plan journal).tool.reason)) eq is.tabled.all.tool.stands

  at : StandsAt plan before (has Insp).waits work.cutover.phase work.cutover.hold work.cutover.renamer_waits work.cutover.is_asked
  at = subst (ToolPhaseAt plan before (has Insp).waits) eq is.tool_phase

  own_table : work.cutover.table ≡ plan.table
  own_table = (subst (ToolPhaseIsNamed plan) eq (named plan journal)).cutover

  holds_none : work.cutover.hold ≡ Nothing
  holds_none = subst (λ (p : Phase). PhaseHolds p work.cutover.hold) resting stands.phase

  unlocked : (has entry.actor).locked ≡ []
  unlocked = ap (λ (s : Standing). s.locked) (ap has same ∙ stands.locker ∙ ap (held work.cutover.table) holds_none)

  free_now : schema_of (old_name plan.table) before ≡ None
  free_now = (subst (TablesAt plan before) resting at.tables).free

  -- at rest the locker asks for nothing else
  creates : (request : Request) → LockerAsks work.cutover.table work.cutover.hold work.cutover.phase request → request ≡ requests.Create (sentry_schema plan.table)
  creates request asks =
      subst (λ (h : Hold). LockerAsks work.cutover.table h Resting request) holds_none (subst (λ (p : Phase). LockerAsks work.cutover.table work.cutover.hold p request) resting asks) ∙ ap (λ (t : List ℕ). requests.Create (sentry_schema t)) own_table

  module _ (number : ℕ) (column : Option ℕ) (refused : entry.answer ≡ answers.Refused number column) where
    not_left : Left (CreateLeaves (sentry_schema plan.table) before) before entry.answer after → ⊥
    unfolding sentry_schema
    not_left left = free_none (heard_leaves (CreateLeaves (sentry_schema plan.table) before) before after (answers.Refused number column) (λ both. cc) (subst (λ (a : Answer). Left (CreateLeaves (sentry_schema plan.table) before) before a after) refused left)) where
      free_none : CreateLeaves (sentry_schema plan.table) before (answers.Refused number column) after → ⊥
      free_none leaves = leaves.1 free_now

    none : (request : Request) → IsAbout request (has Lock) entry.asked → LockerAsks work.cutover.table work.cutover.hold work.cutover.phase request → ⊥
    none request about asks =
        not_left (create_left plan journal entry known served (sentry_schema plan.table) (subst (λ (r : Request). IsAbout r (has entry.actor) entry.asked) (creates request asks) (about_own plan journal entry is run Lock request same about)) unlocked)

    asked_none : given plan journal Lock ≡ Some entry.asked → ⊥
    unfolding given
    asked_none gives = lock_about plan journal entry is.tabled.all.tool run work eq stands (asking plan journal Lock entry.asked is.tabled.all.tool.server gives) ⊥ (λ request about kind. none request about kind)

    lost_none : entry.asked ≡ Cut → ⊥
    lost_none cut = no (sym (by entry.side refl) ∙ refused) where
      no : answers.Lost ≡ answers.Refused number column → ⊥
      no both = cc

      by : (side : Option Side) → entry.side ≡ side → entry.answer ≡ answers.Lost
      by (Some side) at_side = own_missed plan journal entry known served side at_side
      by None at_side = sym (own_given plan journal entry known served at_side) ∙ ap (λ (a : Asked). (serves (opens entry (state_at plan journal)) entry.session a).answer) cut

    -- *At rest the locker isn't refused*
    pub sentry_unrefused : ⊥
    sentry_unrefused = by entry.asked refl run.followed.given where
      by : (asked : Asked) → entry.asked ≡ asked → IsGiven plan journal entry asked → ⊥
      by Cut asks gives = lost_none asks
      by (Call request) asks gives = asked_none (subst (λ (a : Actor). given plan journal a ≡ Some entry.asked) same (gives ∙ ap Some (sym asks)))
      by Poll asks gives = asked_none (subst (λ (a : Actor). given plan journal a ≡ Some entry.asked) same (gives ∙ ap Some (sym asks)))
      by (Command word) asks gives = asked_none (subst (λ (a : Actor). given plan journal a ≡ Some entry.asked) same (gives ∙ ap Some (sym asks)))
