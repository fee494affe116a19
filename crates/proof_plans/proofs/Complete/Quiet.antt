-- A run of a quiet plan, each of whose rows has an image, and that is within limits, is smooth.
use Rattle.std.proofs.Common.{◌≡◌, Bool, true, false, List, [], ◌∷◌, ◌++◌, refl, sym, ap, ◌∙◌}
use Rattle.std.proofs.lemmas.Bool.{true≢false}
use Rattle.base_values.proofs.SchemaRules.Lists.{All-append}
use Rattle.base_values.specs.Laws.{StoresAgain}
use Rattle.base_script.specs.declared.actor.Actor.TheVariants.{Apply}
use Rattle.base_script.specs.declared.operator.OperatorWord.TheVariants.{Panic}
use Rattle.server_model.specs.declared.entry.Entry.{Entry}
use Rattle.server_model.specs.Entries.{is_client}
use Rattle.plan_data.specs.PlanData.{PlanData}
use Rattle.tool_program.specs.Online.{attempt_goes_on}
use Rattle.tool_program.specs.Tools.{is_renamed, is_reverting, moment}
use Rattle.proof_journals.specs.Plans.{limits_of, scene_of, IsSerialPlan}
use Rattle.proof_journals.specs.Turns.{history}
use Rattle.proof_journals.specs.Run.Kept.{IsKept}
use Rattle.proof_journals.specs.Machine.Runnable.{IsRunnable}
use Rattle.proof_journals.proofs.Machine.Journals.{IsRun, IsTogether}
use Rattle.proof_journals.proofs.Machine.Keyed.{all_keyed}
use Rattle.proof_journals.proofs.Machine.Staying.{tables_stay}
use Rattle.proof_migration.specs.ToolPhase.Unaltered.{IsUnaltered}
use Rattle.proof_migration.proofs.ToolPhase.Unaltered.Away.{all_asked}
use Rattle.proof_migration.proofs.Program.Turns.Follows.{kept_front, kept_run}
use Rattle.proof_plans.specs.Complete.Laws.{IsSmooth, gives_up}
use Rattle.proof_plans.specs.Complete.Quiet.{IsQuiet, RowsHaveConvertedRows, is_timed_out}
use Rattle.proof_plans.proofs.Complete.Alone.{Nobody, asks_so, heard_well, is_of_tool, never_cut, no_command, tool_kind, unlost}
use Rattle.proof_plans.proofs.Complete.Fits.{fits_so}
use Rattle.proof_plans.proofs.Complete.ReadingOn.{ReadsOn, reads_more}
use Rattle.proof_plans.proofs.Complete.Smooth.{IsCalm, calm_begins, calm_more, renamed_more}
use Rattle.proof_plans.proofs.Complete.Untouched.{IsUntouched, nothing_begins, nothing_more, unaltered, untouched}

-- in this turn no wait is over, and no attempt has spent its turns for the drain
pub record IsBounded (plan : PlanData) (before : List Entry) (entry : Entry) : Type 0 where
  pub timed : is_timed_out entry.answer ≡ false
  pub drained : entry.actor ≡ Apply → attempt_goes_on (moment plan before).tool.tool_phase ≡ true → gives_up (moment plan (before ++ entry ∷ [])).tool.tool_phase ≡ false

-- what is so behind such a run's turns
pub record IsQuietSo (plan : PlanData) (journal : List Entry) : Type 0 where
  pub calm : IsCalm plan journal
  pub nobody : Nobody journal
  pub reads : is_renamed (moment plan journal).tool.tool_phase ≡ false → ReadsOn (moment plan journal).tool.tool_phase
  pub nothing : is_renamed (moment plan journal).tool.tool_phase ≡ false → (whole : List Entry) → Nobody whole → history (limits_of plan) (scene_of plan whole) journal ≡ []

-- ONE TURN

module _ (again : StoresAgain) (plan : PlanData) (quiet : IsQuiet plan) (converted_rows : RowsHaveConvertedRows plan) (runs : IsRunnable plan) (serial : IsSerialPlan plan) (journal : List Entry) (entry : Entry) (kept : IsKept plan (journal ++ entry ∷ [])) (is : IsQuietSo plan journal) where
  abbrev more : List Entry
  more = journal ++ entry ∷ []

  run : IsRun plan journal entry
  run = kept_run plan journal entry kept

  together : IsTogether plan journal
  together = is.calm.stands.tabled.all.tool

  before : IsKept plan journal
  before = kept_front plan journal (entry ∷ []) kept

  kind : is_client entry.actor ≡ false
  kind = tool_kind entry.actor (is_of_tool plan quiet journal entry is.nobody kept together)

  nobody_more : Nobody more
  nobody_more = All-append (λ (one : Entry). is_client one.actor ≡ false) journal (entry ∷ []) is.nobody (kind, tt)

  -- once the RENAME is known
  renamed_so : is_renamed (moment plan journal).tool.tool_phase ≡ true → IsQuietSo plan more
  renamed_so done = record {
    calm = calm_more plan journal entry run (λ going. absurd (true≢false (sym done ∙ going))) is.calm;
    nobody = nobody_more;
    reads = λ going. absurd (true≢false (sym (renamed_more plan journal entry done is.calm.on.none).done ∙ going));
    nothing = λ going. absurd (true≢false (sym (renamed_more plan journal entry done is.calm.on.none).done ∙ going));
  }

  module _ (going : is_renamed (moment plan journal).tool.tool_phase ≡ false) (within : IsBounded plan journal entry) where
    off : IsUnaltered plan journal
    off = unaltered plan journal runs serial before going is.calm.on.on

    still : IsUntouched plan journal
    still = untouched plan journal runs serial before off is.nobody (is.nothing going journal is.nobody)

    smooth : IsSmooth plan journal entry
    smooth = record {
      heard = λ client. heard_well plan quiet journal entry is.nobody kept together within.timed;
      uncut = λ client. never_cut plan quiet journal entry is.nobody kept together;
      fits = fits_so again plan converted_rows runs journal entry (all_keyed plan journal runs.fitting runs.stands (tables_stay plan journal runs.fitting runs.tables before.faithful before.follows) before.faithful before.follows) together run is.calm.on.none (asks_so plan quiet journal entry is.nobody kept together) still (is.reads going);
      drained = within.drained;
      calm = λ panic. no_command plan quiet journal entry is.nobody kept together Panic panic;
    }

    calm_now : IsCalm plan more
    calm_now = calm_more plan journal entry run (λ same. smooth) is.calm

    going_so : IsQuietSo plan more
    going_so = record {
      calm = calm_now;
      nobody = nobody_more;
      reads = λ later. reads_more plan runs serial journal entry before off run together is.calm.on.none (never_cut plan quiet journal entry is.nobody kept together) (unlost plan quiet journal entry is.nobody kept together) (asks_so plan quiet journal entry is.nobody kept together) still (is.reads going) (ap is_reverting calm_now.on.none);
      nothing = λ later whole none.
          nothing_more plan runs serial journal entry (all_asked plan journal runs before.faithful before.follows) run (unaltered plan more runs serial kept later calm_now.on.on) kind (never_cut plan quiet journal entry is.nobody kept together) (unlost plan quiet journal entry is.nobody kept together) whole none (is.nothing going whole none);
    }

  pub quiet_more : (is_renamed (moment plan journal).tool.tool_phase ≡ false → IsBounded plan journal entry) → IsQuietSo plan more
  quiet_more within = by (is_renamed (moment plan journal).tool.tool_phase) refl where
    by : (b : Bool) → is_renamed (moment plan journal).tool.tool_phase ≡ b → IsQuietSo plan more
    by true done = renamed_so done
    by false going = going_so going (within going)

pub quiet_begins : (plan : PlanData) → IsRunnable plan → IsQuietSo plan []
unfolding moment
quiet_begins plan runs = record { calm = calm_begins plan runs.fitting runs.stands; nobody = tt; reads = λ going. tt; nothing = λ going whole nobody. nothing_begins plan whole }
