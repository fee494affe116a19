-- Either the RENAME wasn't done yet, or the new table's name is free for good; so while rows are left to be copied it wasn't.
use Rattle.std.proofs.Common.{◌≡◌, ◌⊎◌, inl, inr, Bool, true, false, List, [], ◌∷◌, ◌++◌, refl, sym, ◌∙◌, subst}
use Rattle.std.specs.List.{list_any}
use Rattle.std.proofs.lemmas.Option.{none-some}
use Rattle.server_model.specs.declared.entry.Entry.{Entry}
use Rattle.base_script.specs.declared.actor.Actor.TheVariants.{Insp}
use Rattle.plan_data.specs.PlanData.{PlanData}
use Rattle.tool_program.specs.JournalWords.Histories.{entry_adds, history, is_alter}
use Rattle.tool_program.specs.JournalWords.Journals.{state_at}
use Rattle.tool_program.specs.Tools.{Migrating, Work, moment}
use Rattle.proof_journals.specs.Machine.MigrationTables.{ToolPhaseTables, WorkTables}
use Rattle.proof_journals.specs.Machine.Runnable.{IsRunnable}
use Rattle.proof_journals.specs.Machine.Standings.{standing_of}
use Rattle.proof_journals.specs.Plans.{IsSerialPlan}
use Rattle.proof_journals.specs.Run.Kept.{IsKept}
use Rattle.proof_journals.specs.ServerTurns.Others.{DefinitionsAreDone}
use Rattle.proof_journals.proofs.Machine.Tabling.{all_tabled}
use Rattle.proof_migration.specs.ToolPhase.Unaltered.{IsUnaltered}
use Rattle.proof_migration.proofs.Once.Past.{IsPast, ToolPhasePast, goes_past}
use Rattle.proof_migration.proofs.Once.Renames.{renamed_past, unaltered_more}
use Rattle.proof_migration.proofs.Program.Turns.Follows.{kept_front, kept_run}
use Rattle.proof_migration.proofs.ToolPhase.Unaltered.Away.{all_asked}
use Rattle.proof_migration.proofs.KeptJournals.{each_kept}

module _ (defined : DefinitionsAreDone) (plan : PlanData) (runs : IsRunnable plan) (serial : IsSerialPlan plan) where
  abbrev pub Either : List Entry → Type 0
  Either journal = IsUnaltered plan journal ⊎ IsPast plan journal

  either_more : (journal : List Entry) (entry : Entry) → IsKept plan (journal ++ entry ∷ []) → Either journal → Either (journal ++ entry ∷ [])
  either_more journal entry kept (inl off) = by (list_any is_alter (entry_adds plan journal entry)) refl where
    by : (b : Bool) → list_any is_alter (entry_adds plan journal entry) ≡ b → Either (journal ++ entry ∷ [])
    by true alters = inr (renamed_past defined plan journal entry runs serial kept off alters)
    by false none = inl (unaltered_more plan journal entry off none)
  either_more journal entry kept (inr past) =
      let before : IsKept plan journal = kept_front plan journal (entry ∷ []) kept in
      inr (goes_past defined plan journal entry serial runs (all_asked plan journal runs before.faithful before.follows) (kept_run plan journal entry kept) past).past

  either_begins : Either []
  unfolding history
  either_begins = inl refl

  -- *The RENAME wasn't done, or is past*
  pub all_either : (journal : List Entry) → IsKept plan journal → Either journal
  all_either journal kept = each_kept plan Either (λ before entry one is. either_more before entry one is) journal kept either_begins

  -- where it is past, the new table's name is free
  pub past_at : (journal : List Entry) → IsKept plan journal → list_any is_alter (history plan journal) ≡ true → IsPast plan journal
  past_at journal kept altered = by (all_either journal kept) where
    no : {A : Type 0} (b : Bool) → b ≡ true → b ≡ false → A
    no b on off = absurd (Rattle.std.proofs.lemmas.Bool.true≢false (sym on ∙ off))

    by : Either journal → IsPast plan journal
    by (inl off) = no (list_any is_alter (history plan journal)) altered off
    by (inr past) = past

  -- while rows are left it wasn't
  pub uncopied_unaltered : (journal : List Entry) → IsKept plan journal → (work : Work) → (moment plan journal).tool.tool_phase ≡ Migrating work → work.copier.is_copied ≡ false → IsUnaltered plan journal
  uncopied_unaltered journal kept work eq off = by (all_either journal kept) where
    tables : WorkTables plan (state_at plan journal).tables (standing_of plan journal) work
    tables = subst (ToolPhaseTables plan (state_at plan journal).tables (standing_of plan journal)) eq (all_tabled plan journal runs.fitting runs.stands kept.faithful kept.follows).tables

    none : {A : Type 0} → IsPast plan journal → A
    none past = absurd (none-some _ (sym (subst (ToolPhasePast plan (state_at plan journal).tables (standing_of plan journal Insp).waits) eq past).0 ∙ (tables.going off).tables.ghost))

    by : Either journal → IsUnaltered plan journal
    by (inl off_now) = off_now
    by (inr past) = none past
