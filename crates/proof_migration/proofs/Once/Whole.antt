-- Whole journals: the ALTER is the first at its turn, and none comes behind it.
use Rattle.std.proofs.Common.{◌≡◌, Bool, true, false, List, [], ◌∷◌, ◌++◌, refl, sym, subst, append_assoc}
use Rattle.std.specs.List.{list_any}
use Rattle.server_model.specs.Along.{Along}
use Rattle.server_model.specs.declared.entry.Entry.{Entry}
use Rattle.plan_data.specs.PlanData.{PlanData}
use Rattle.tool_program.specs.JournalWords.Histories.{entry_adds, history, is_alter}
use Rattle.proof_journals.specs.Plans.{IsSerialPlan}
use Rattle.proof_journals.specs.ServerTurns.Others.{DefinitionsAreDone}
use Rattle.proof_journals.specs.Run.Kept.{IsKept}
use Rattle.proof_journals.specs.Machine.Runnable.{IsRunnable}
use Rattle.proof_migration.specs.ToolPhase.Unaltered.{IsUnaltered}
use Rattle.proof_migration.proofs.Program.Turns.Follows.{kept_front}
use Rattle.proof_migration.specs.Once.{RenamesComeOnce}
use Rattle.proof_migration.proofs.Once.Renames.{IsFirst, past_along, renamed_past, unaltered_more}

none_yet : (plan : PlanData) → IsUnaltered plan []
unfolding history
none_yet plan = refl

module _ (definitions_are_done : DefinitionsAreDone) (plan : PlanData) (runs : IsRunnable plan) (serial : IsSerialPlan plan) where
  -- it is the first one
  firsts : (some journal : List Entry) → IsKept plan (some ++ journal) → IsUnaltered plan some → Along (IsFirst plan) some journal
  firsts some [] kept off = tt
  firsts some (entry ∷ journal) kept off = by (list_any is_alter (entry_adds plan some entry)) refl (λ none. firsts (some ++ entry ∷ []) journal later (unaltered_more plan some entry off none)) where
    later : IsKept plan ((some ++ entry ∷ []) ++ journal)
    later = subst (IsKept plan) (sym (append_assoc some (entry ∷ []) journal)) kept

    by : (b : Bool) → list_any is_alter (entry_adds plan some entry) ≡ b → (list_any is_alter (entry_adds plan some entry) ≡ false → Along (IsFirst plan) (some ++ entry ∷ []) journal) → Along (IsFirst plan) some (entry ∷ journal)
    by false is next = (λ alters. off, next is)
    by true is next = (
      λ alters. off,
      past_along definitions_are_done plan runs serial (IsFirst plan) (λ before one never alters. absurd (never alters)) (some ++ entry ∷ []) journal later
          (renamed_past definitions_are_done plan some entry runs serial (kept_front plan (some ++ entry ∷ []) journal later) off is),
    )

-- *Renames come once*
pub come_once : DefinitionsAreDone → RenamesComeOnce
come_once done plan journal runs serial kept = firsts done plan runs serial [] journal kept (none_yet plan)
