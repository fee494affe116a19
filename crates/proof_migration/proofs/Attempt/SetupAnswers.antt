-- What the inspector's answers leave in the setup: no table of the old one's name stands once it was dropped, or wasn't
-- listed.
use Rattle.std.proofs.Common.{◌≡◌, ℕ, Bool, true, false, cond, not, ◌&&◌, List, Option, Some, None, refl, sym, ap, ◌∙◌, subst}
use Rattle.std.specs.Prelude.{is_some}
use Rattle.std.proofs.lemmas.Bool.{true≢false, false≢true}
use Rattle.base_values.specs.declared.gho_schema.schema.Schema.{Schema}
use Rattle.table_store.specs.Databases.{Database}
use Rattle.server_model.specs.declared.answer.Answer.{Answer}
use Rattle.server_model.specs.declared.answer.Answer.TheVariants as answers
use Rattle.server_model.specs.declared.listing.TableName.{TableName}
use Rattle.server_model.specs.declared.request.Request.{Request}
use Rattle.server_model.specs.declared.request.Request.TheVariants as requests
use Rattle.server_model.specs.Listings.{tables_shown}
use Rattle.plan_data.specs.PlanData.{PlanData}
use Rattle.base_values.specs.ToolNames.{ghost_name, log_name, old_name}
use Rattle.tool_changelog.specs.ToolTables.{log_schema}
use Rattle.tool_program.specs.declared.cutover_core.cutover.Leftovers.{Leftovers}
use Rattle.tool_program.specs.CutoverCore.Attempts.{is_clear, first_name, without_first, has_name}
use Rattle.tool_program.specs.Setups.{Setup, Listing, Clearing, MakingLog, MakingGhost, Marking, Reaching, Ready, setup_call, setup_step, clearing, listed}
use Rattle.proof_journals.specs.Machine.MigrationTables.{schema_of}
use Rattle.proof_journals.proofs.Machine.Asking.{some_request}
use Rattle.proof_journals.proofs.Machine.Marks.{ghost_not_old, log_not_old}
use Rattle.proof_journals.proofs.Machine.Schemas.{keeps_table}
use Rattle.server_model.proofs.LockedRows.Tests.{turned_bytes}
use Rattle.proof_migration.proofs.Attempt.Leaving.{DropLeaves, Left, heard, lost, missed}
use Rattle.proof_migration.proofs.Attempt.LockerAnswers.{heard_leaves}
use Rattle.proof_migration.proofs.Attempt.InspectorAnswers.{listed_is}
use Rattle.proof_migration.proofs.Attempt.Stages.{IsFree}

-- no table of the old one's name stands
abbrev pub SetupFree : PlanData → Database → Setup → Type 0
SetupFree plan tables Listing = Unit {0}
SetupFree plan tables (Clearing left) = left.old ≡ false → IsFree plan tables
SetupFree plan tables MakingLog = IsFree plan tables
SetupFree plan tables MakingGhost = IsFree plan tables
SetupFree plan tables Marking = IsFree plan tables
SetupFree plan tables (Reaching position) = IsFree plan tables
SetupFree plan tables (Ready position range) = IsFree plan tables

-- what a call of the setup's does to that name
pub data AboutOld (plan : PlanData) (request : Request) : Type 0 where
  keeps_old : keeps_table (old_name plan.table) request ≡ true → AboutOld plan request
  drops_old : request ≡ requests.Drop (old_name plan.table) → AboutOld plan request

first_about : (plan : PlanData) (left : Leftovers) → AboutOld plan (requests.Drop (first_name plan.table left))
first_about plan left = by left.log left.new_table where
  by : (a b : Bool) → AboutOld plan (requests.Drop (cond a (log_name plan.table) (cond b (ghost_name plan.table) (old_name plan.table))))
  by true b = keeps_old (ap not (turned_bytes (log_name plan.table) (old_name plan.table) (log_not_old plan.table)))
  by false true = keeps_old (ap not (turned_bytes (ghost_name plan.table) (old_name plan.table) (ghost_not_old plan.table)))
  by false false = drops_old refl

pub setup_about : (plan : PlanData) (setup : Setup) (request : Request) → setup_call plan setup ≡ Some request → AboutOld plan request
unfolding log_schema
setup_about plan Listing request is = some_request (AboutOld plan) _ request is (keeps_old refl)
setup_about plan (Clearing left) request is = some_request (AboutOld plan) _ request is (first_about plan left)
setup_about plan MakingLog request is = some_request (AboutOld plan) _ request is (keeps_old (ap not (log_not_old plan.table)))
setup_about plan MakingGhost request is = some_request (AboutOld plan) _ request is (keeps_old (ap not (ghost_not_old plan.table)))
setup_about plan Marking request is = some_request (AboutOld plan) _ request is (keeps_old refl)
setup_about plan (Reaching position) request is = some_request (AboutOld plan) _ request is (keeps_old refl)
setup_about plan (Ready position range) request is = absurd cc

module _ (plan : PlanData) (before after : Database) where
  -- *What the inspector's turn leaves* in the setup
  pub record SetupLeaves (request : Request) (answer : Answer) : Type 0 where
    pub keeps : (name : List ℕ) → keeps_table name request ≡ true → schema_of name after ≡ schema_of name before
    pub drops : request ≡ requests.Drop (old_name plan.table) → Left (DropLeaves (old_name plan.table) before) before answer after
    pub lists : (tables : List TableName) → answer ≡ answers.Tables tables → tables ≡ tables_shown before

  free_leaves : (answer : Answer) → DropLeaves (old_name plan.table) before answer after → IsFree plan before → IsFree plan after
  free_leaves (answers.Ok count) gone free = gone
  free_leaves (answers.Waits by) stay free = stay (old_name plan.table) ∙ free
  free_leaves (answers.TimedOut waited) stay free = stay (old_name plan.table) ∙ free
  free_leaves (answers.Refused number column) stay free = stay (old_name plan.table) ∙ free
  free_leaves answer none free = absurd none

  free_left : (answer : Answer) → Left (DropLeaves (old_name plan.table) before) before answer after → IsFree plan before → IsFree plan after
  free_left answer (heard leaves) free = free_leaves answer leaves free
  free_left answer (lost is stay) free = stay (old_name plan.table) ∙ free
  free_left answer (missed inner is leaves) free = free_leaves inner leaves free

  pub free_stays : (request : Request) (answer : Answer) → AboutOld plan request → SetupLeaves request answer → IsFree plan before → IsFree plan after
  free_stays request answer (keeps_old keeps) leaves free = leaves.keeps (old_name plan.table) keeps ∙ free
  free_stays request answer (drops_old drops) leaves free = free_left answer (leaves.drops drops) free

  module _ (request : Request) (answer : Answer) (leaves : SetupLeaves request answer) where
    stays_free : (setup : Setup) → setup_call plan setup ≡ Some request → IsFree plan before → IsFree plan after
    stays_free setup call free = free_stays request answer (setup_about plan setup request call) leaves free

    -- the step that the answer leaves
    pub setup_stays : (setup : Setup) → setup_call plan setup ≡ Some request → SetupFree plan before setup → SetupFree plan after setup
    setup_stays Listing call free = tt
    setup_stays (Clearing left) call free = λ off. stays_free (Clearing left) call (free off)
    setup_stays MakingLog call free = stays_free MakingLog call free
    setup_stays MakingGhost call free = stays_free MakingGhost call free
    setup_stays Marking call free = stays_free Marking call free
    setup_stays (Reaching position) call free = stays_free (Reaching position) call free
    setup_stays (Ready position range) call free = absurd cc

    clear_old : (left : Leftovers) → is_clear left ≡ true → left.old ≡ false
    clear_old left = by left.log left.new_table left.old where
      by : (a b c : Bool) → (not a && not b && not c) ≡ true → c ≡ false
      by true b c is = absurd (false≢true is)
      by false true c is = absurd (false≢true is)
      by false false true is = absurd (false≢true is)
      by false false false is = refl

    clearing_free : (left : Leftovers) → (left.old ≡ false → IsFree plan after) → SetupFree plan after (clearing left)
    clearing_free left free = by (is_clear left) refl where
      by : (b : Bool) → is_clear left ≡ b → SetupFree plan after (cond b MakingLog (Clearing left))
      by true clear = free (clear_old left clear)
      by false unclear = free

    listed_free : (tables : List TableName) → answer ≡ answers.Tables tables → setup_call plan Listing ≡ Some request → (listed plan.table tables).old ≡ false → IsFree plan after
    listed_free tables is call off = stays_free Listing call (none_of (schema_of (old_name plan.table) before) refl) where
      none_of : (one : Option Schema) → schema_of (old_name plan.table) before ≡ one → schema_of (old_name plan.table) before ≡ None
      none_of None is = is
      none_of (Some schema) some = absurd (true≢false (sym (ap is_some some) ∙ sym (listed_is (old_name plan.table) before) ∙ ap (has_name (old_name plan.table)) (sym (leaves.lists tables is)) ∙ off))

    -- the first that is left was dropped
    dropped_free : (left : Leftovers) (count : ℕ) → answer ≡ answers.Ok count → setup_call plan (Clearing left) ≡ Some request → SetupFree plan before (Clearing left) → (without_first left).old ≡ false → IsFree plan after
    dropped_free left count is call free off = by left.log left.new_table refl refl off where
      drop_is : request ≡ requests.Drop (first_name plan.table left)
      drop_is = some_request (λ r. r ≡ requests.Drop (first_name plan.table left)) (requests.Drop (first_name plan.table left)) request call refl

      by : (a b : Bool) → left.log ≡ a → left.new_table ≡ b → (cond a (record left { log = false }) (cond b (record left { new_table = false }) (record left { old = false }))).old ≡ false → IsFree plan after
      by true b log new off = stays_free (Clearing left) call (free off)
      by false true log new off = stays_free (Clearing left) call (free off)
      by false false log new off =
          heard_leaves (DropLeaves (old_name plan.table) before) before after (answers.Ok count) (λ same. cc)
          (subst (λ (a : Answer). Left (DropLeaves (old_name plan.table) before) before a after) is
          (leaves.drops (drop_is ∙ ap (λ (a : Bool). requests.Drop (cond a (log_name plan.table) (cond left.new_table (ghost_name plan.table) (old_name plan.table)))) log ∙ ap (λ (b : Bool). requests.Drop (cond b (ghost_name plan.table) (old_name plan.table))) new)))

    -- *The setup's next step*
    pub step_free : (setup : Setup) (one : Answer) → answer ≡ one → setup_call plan setup ≡ Some request → SetupFree plan before setup → SetupFree plan after (setup_step plan.table setup one)
    step_free Listing (answers.Tables tables) is call free = clearing_free (listed plan.table tables) (λ off. listed_free tables is call off)
    step_free Listing one is call free = tt
    step_free (Clearing left) (answers.Ok count) is call free = clearing_free (without_first left) (λ off. dropped_free left count is call free off)
    step_free (Clearing left) one is call free = λ off. stays_free (Clearing left) call (free off)
    step_free MakingLog (answers.Ok count) is call free = stays_free MakingLog call free
    step_free MakingLog one is call free = stays_free MakingLog call free
    step_free MakingGhost (answers.Ok count) is call free = stays_free MakingGhost call free
    step_free MakingGhost one is call free = stays_free MakingGhost call free
    step_free Marking (answers.At position) is call free = stays_free Marking call free
    step_free Marking one is call free = stays_free Marking call free
    step_free (Reaching position) (answers.Ends range) is call free = stays_free (Reaching position) call free
    step_free (Reaching position) one is call free = stays_free (Reaching position) call free
    step_free (Ready position range) one is call free = absurd cc
