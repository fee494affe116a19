-- What is known of the hint rows behind every journal that is kept.
use Rattle.std.proofs.Common.{◌≡◌, ◌≤◌, ℕ, Bool, true, false, List, [], ◌∷◌, ◌++◌, take, sym, subst, arith, append_assoc, append-nil}
use Rattle.base_values.specs.declared.event.RowEvent.{RowEvent}
use Rattle.base_script.specs.declared.actor.Actor.TheVariants.{Insp}
use Rattle.server_model.specs.declared.entry.Entry.{Entry}
use Rattle.plan_data.specs.PlanData.{PlanData}
use Rattle.tool_changelog.specs.Hints.{last_hint}
use Rattle.tool_program.specs.JournalWords.Journals.{state_at, state_after}
use Rattle.tool_program.specs.JournalWords.Sessions.{live_session}
use Rattle.tool_program.specs.Tools.{moment}
use Rattle.proof_journals.specs.Plans.{IsSerialPlan}
use Rattle.proof_journals.specs.Run.Kept.{IsKept}
use Rattle.proof_journals.specs.Machine.Runnable.{IsRunnable}
use Rattle.proof_journals.specs.Machine.Standings.{standing_of}
use Rattle.proof_migration.specs.ToolPhase.Unaltered.{IsUnaltered}
use Rattle.proof_migration.proofs.ToolPhase.Unaltered.Away.{unaltered_front}
use Rattle.proof_migration.proofs.Program.Turns.Follows.{kept_front}
use Rattle.proof_migration.specs.Program.Hints.{HintsAreKnown, IsBegun, is_unhinted}
use Rattle.proof_migration.proofs.Program.Hints.Courses.{hints_more}
use Rattle.proof_migration.proofs.Program.Hints.Phases.{HintsIn, HintsStand}
use Rattle.proof_migration.proofs.Program.Hints.Writes.{rises_take}
use Rattle.proof_migration.proofs.Program.Hints.States.{at_most, ToolPhaseHints, ToolPhaseAhead, HintsGo}

-- from one journal to all that go on from it
all_go : (plan : PlanData) → IsRunnable plan → IsSerialPlan plan → (journal rest : List Entry) → IsKept plan (journal ++ rest) → IsUnaltered plan (journal ++ rest) → HintsGo plan journal → HintsGo plan (journal ++ rest)
all_go plan runs serial journal [] kept off was = subst (HintsGo plan) (sym (append-nil journal)) was
all_go plan runs serial journal (entry ∷ rest) kept off was =
    let same : (journal ++ entry ∷ []) ++ rest ≡ journal ++ entry ∷ rest = append_assoc journal (entry ∷ []) rest in
    let kept_all : IsKept plan ((journal ++ entry ∷ []) ++ rest) = subst (IsKept plan) (sym same) kept in
    let off_all : IsUnaltered plan ((journal ++ entry ∷ []) ++ rest) = subst (IsUnaltered plan) (sym same) off in
    subst (HintsGo plan) same
    (all_go plan runs serial (journal ++ entry ∷ []) rest kept_all off_all
    (hints_more plan runs serial journal entry (kept_front plan (journal ++ entry ∷ []) rest kept_all) (unaltered_front plan (journal ++ entry ∷ []) rest off_all) was))

begins : (plan : PlanData) → HintsGo plan []
unfolding moment state_after live_session
begins plan = record { none = λ n. tt; tool_phase = record { away = tt; noted = tt }; ahead = tt; names = λ request some. absurd cc }

pub hints_go : (plan : PlanData) (journal : List Entry) → IsRunnable plan → IsSerialPlan plan → IsKept plan journal → IsUnaltered plan journal → HintsGo plan journal
hints_go plan journal runs serial kept off = all_go plan runs serial [] journal kept off (begins plan)

-- a hint row in the log is of an attempt that was begun
begun_by : (t : List ℕ) (attempts count : ℕ) (log : List RowEvent) (b : Bool) → HintsIn b t attempts log → IsBegun b attempts (last_hint t 0 (take count log))
begun_by t attempts count log true below = let less = below.1 in let most : last_hint t 0 (take count log) ≤ below.0 = at_most t below.0 count log below.2 in omega (arith, less, most)
begun_by t attempts count log false below = at_most t attempts count log below

-- *Hints are known*
pub hints_known : HintsAreKnown
hints_known plan journal work runs serial kept off tool_phase = record {
  within = at.knows.within;
  hint = at.knows.hint;
  begun = λ count. begun_by plan.table work.cutover.attempts count (state_at plan journal).log (is_unhinted work.cutover.phase) at.below;
  rising = λ one other less. rises_take plan.table 0 (state_at plan journal).log one other less at.rises;
  ahead = subst ToolPhaseAhead tool_phase all.ahead;
} where
  all : HintsGo plan journal
  all = hints_go plan journal runs serial kept off

  at : HintsStand plan.table (state_at plan journal).log (standing_of plan journal Insp).waits work.applier work.cutover.attempts work.cutover.phase
  at = subst (ToolPhaseHints plan.table (state_at plan journal).log (standing_of plan journal Insp).waits) tool_phase all.tool_phase
