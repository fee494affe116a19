-- What is known of a turn of a journal that is kept.
use Rattle.std.proofs.Common.{List, [], ◌∷◌, ◌++◌}
use Rattle.server_model.specs.declared.entry.Entry.{Entry}
use Rattle.plan_data.specs.PlanData.{PlanData}
use Rattle.proof_journals.specs.Run.Kept.{IsKept}
use Rattle.proof_journals.specs.Machine.Runnable.{IsRunnable}
use Rattle.proof_journals.proofs.Machine.Journals.{IsRun, IsTogether}
use Rattle.proof_journals.proofs.Machine.Seated.{IsServed}
use Rattle.proof_migration.proofs.ToolPhase.Unaltered.Away.{IsKnownAsked, all_asked}
use Rattle.proof_migration.proofs.Program.Turns.Follows.{kept_front, kept_run}

pub record IsKnownTurn (plan : PlanData) (journal : List Entry) (entry : Entry) : Type 0 where
  pub known : IsKnownAsked plan journal
  pub together : IsTogether plan journal
  pub run : IsRun plan journal entry
  pub served : IsServed plan journal entry

pub known_turn : (plan : PlanData) → IsRunnable plan → (journal : List Entry) (entry : Entry) → IsKept plan (journal ++ entry ∷ []) → IsKnownTurn plan journal entry
known_turn plan runs journal entry kept =
    let before : IsKept plan journal = kept_front plan journal (entry ∷ []) kept in
    let run : IsRun plan journal entry = kept_run plan journal entry kept in
    let known : IsKnownAsked plan journal = all_asked plan journal runs before.faithful before.follows in
    record { known = known; together = known.marking.tabled.all.tool; run = run; served = record { answered = run.answered; seated = record { session = run.followed.session } } }
