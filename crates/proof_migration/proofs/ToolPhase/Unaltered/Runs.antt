-- Journals that are kept, and in whose history the ALTER isn't yet, are runs of their plan, and serial.
use Rattle.std.proofs.Common.{◌≡◌, ◌≤◌, ℕ, Bool, true, false, ◌||◌, List, [], ◌∷◌, ◌++◌, refl, sym, subst, append_assoc, arith}
use Rattle.std.specs.Prelude.{count_by}
use Rattle.std.specs.List.{list_any}
use Rattle.std.proofs.lemmas.Bool.{true≢false}
use Rattle.server_model.specs.Along.{Along}
use Rattle.server_model.specs.declared.entry.Entry.{Entry}
use Rattle.plan_data.specs.PlanData.{PlanData}
use Rattle.tool_program.specs.JournalWords.Histories.{HistoryItem, history, is_alter}
use Rattle.tool_program.specs.Programs.{Follows}
use Rattle.proof_journals.specs.Plans.{IsSerialPlan, KeepsAway}
use Rattle.proof_journals.proofs.PlanJournals.{journals_are_serial, takes_lines}
use Rattle.proof_journals.specs.Machine.FormedPlans.{IsFitting}
use Rattle.proof_journals.proofs.Machine.Journals.{IsRun, all_runs}
use Rattle.proof_migration.specs.ToolPhase.Unaltered.{IsUnaltered, UnalteredJournalsAreRuns, UnalteredJournalsAreSerial}
use Rattle.proof_migration.proofs.ToolPhase.Unaltered.Away.{IsKnownAsked, asked_begins, asked_more, keeps_away, unaltered_front}

aways : (plan : PlanData) → IsSerialPlan plan → IsFitting plan → (before journal : List Entry) → Along (IsRun plan) before journal → IsKnownAsked plan before → IsUnaltered plan (before ++ journal) → Along (λ some entry. KeepsAway plan some entry entry.actor) before journal
aways plan serial fit before [] runs is off = tt
aways plan serial fit before (entry ∷ journal) runs is off =
    let later : IsUnaltered plan ((before ++ entry ∷ []) ++ journal) = subst (IsUnaltered plan) (sym (append_assoc before (entry ∷ []) journal)) off in (
      keeps_away plan serial before entry fit is runs.0 (unaltered_front plan (before ++ entry ∷ []) journal later),
      aways plan serial fit (before ++ entry ∷ []) journal runs.1 (asked_more plan before entry runs.0 is) later,
    )

-- *Unaltered journals are runs*
pub unaltered_runs : UnalteredJournalsAreRuns
unfolding Follows
unaltered_runs plan journal runs serial kept off = record {
  serial = serial;
  faithful = kept.faithful;
  lines = takes_lines plan journal kept.planned;
  seated = kept.sessions;
  away = aways plan serial runs.fitting [] journal (all_runs plan [] journal kept.faithful kept.follows) (asked_begins plan runs) off;
}

pub none_counted : (items : List HistoryItem) → list_any is_alter items ≡ false → count_by is_alter items ≡ 0
none_counted [] off = refl
none_counted (item ∷ items) off = by (is_alter item) refl off (none_counted items) where
  by : (b : Bool) → is_alter item ≡ b → (b || list_any is_alter items) ≡ false → (list_any is_alter items ≡ false → count_by is_alter items ≡ 0) → count_by is_alter (item ∷ items) ≡ 0
  by true is off rest = absurd (true≢false off)
  by false is off rest = rw is (rest off)

-- ... and serial
pub unaltered_serial : UnalteredJournalsAreSerial
unaltered_serial plan journal runs serial kept off =
    journals_are_serial plan journal (unaltered_runs plan journal runs serial kept off) (subst (λ (n : ℕ). n ≤ 1) (sym (none_counted (history plan journal) off)) (omega arith))
