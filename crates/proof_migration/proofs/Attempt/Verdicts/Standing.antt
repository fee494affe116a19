-- Which causes of a verdict stand in the journal.
use Rattle.std.proofs.Common.{◌≡◌, Bool, true, false, cond, List, [], ◌∷◌, ◌++◌, Option, Some, None, refl, sym, ◌∙◌, subst}
use Rattle.std.specs.List.{list_any}
use Rattle.server_model.specs.Along.{Along-more, Along-keeps}
use Rattle.server_model.specs.declared.entry.Entry.{Entry}
use Rattle.server_model.specs.declared.outcome.Cause.{Cause}
use Rattle.server_model.specs.declared.outcome.Cause.TheVariants as causes
use Rattle.server_model.specs.declared.outcome.Task.{Task}
use Rattle.server_model.specs.declared.outcome.Task.TheVariants as tasks
use Rattle.server_model.specs.declared.outcome.Verdict.TheVariants as verdicts
use Rattle.plan_data.specs.PlanData.{PlanData}
use Rattle.tool_program.specs.JournalWords.Histories.{history, is_alter}
use Rattle.tool_program.specs.JournalWords.Journals.{state_at, IsAnswered, IsFaithful}
use Rattle.tool_program.specs.JournalWords.Sessions.{IsSeated, KeepsSessions}
use Rattle.tool_program.specs.Failures.{IsPanic, IsSpent, Stands}
use Rattle.tool_program.specs.Programs.{Follows}
use Rattle.tool_program.specs.Tools.{Reason, CopyUnfit, ApplyUnfit, Spent, Panicked, moment}
use Rattle.tool_program.specs.Verdicts.{cause_of, reverted_by, has_ended, ended_so, verdict_of}
use Rattle.proof_journals.specs.Run.Laws.{Living}
use Rattle.proof_journals.proofs.Run.Living.{all_living}
use Rattle.proof_journals.proofs.Machine.Journals.{IsRun, all_runs, IsTogether, together_more, together_begins}
use Rattle.proof_migration.specs.Attempt.Verdicts.{IsSpentOn, PanicsStand, SpentTasksStand, SpentAttemptsStand}
use Rattle.proof_migration.proofs.Attempt.Verdicts.Reasons.{ReasonHolds, ToolHolds, holds_more, holds_begin}
use Rattle.proof_migration.proofs.Attempt.Verdicts.Waits.{WaitsCount, waits_more, waits_begin}

-- BEHIND EVERY JOURNAL

-- what goes together: with the journal so far faithful and in its actors' sessions
pub record IsHeld (plan : PlanData) (journal : List Entry) : Type 0 where
  faithful : IsFaithful plan journal
  sessions : KeepsSessions journal
  together : IsTogether plan journal
  counts : WaitsCount plan journal
  pub holds : ToolHolds plan journal (moment plan journal).tool

held_more : (plan : PlanData) (journal : List Entry) (entry : Entry) → IsRun plan journal entry → IsHeld plan journal → IsHeld plan (journal ++ entry ∷ [])
unfolding KeepsSessions
held_more plan journal entry run is =
    let living : Living journal (state_at plan journal) = all_living plan journal is.faithful is.sessions in
    record {
      faithful = Along-more (λ before entry. IsAnswered (state_at plan before) entry) [] journal entry is.faithful run.answered;
      sessions = Along-more IsSeated [] journal entry is.sessions (record { session = run.followed.session });
      together = together_more plan journal entry is.together run;
      counts = waits_more plan journal entry is.together run is.counts;
      holds = holds_more plan journal entry is.together run is.counts living is.holds;
    }

held_begins : (plan : PlanData) → IsHeld plan []
unfolding KeepsSessions
held_begins plan = record { faithful = tt; sessions = tt; together = together_begins plan; counts = waits_begin plan; holds = holds_begin plan }

pub all_held : (plan : PlanData) (journal : List Entry) → IsFaithful plan journal → Follows plan journal → IsHeld plan journal
unfolding Follows
all_held plan journal faithful follows = Along-keeps (IsRun plan) (IsHeld plan) (λ before entry run is. held_more plan before entry run is) [] journal (all_runs plan [] journal faithful follows) (held_begins plan)

-- THE VERDICT'S CAUSE

-- a verdict of revert has the tool's ground
pub record IsGround (plan : PlanData) (journal : List Entry) (cause : Cause) : Type 0 where
  pub reason : Reason
  pub is : (moment plan journal).tool.reason ≡ Some reason
  pub same : cause_of plan journal (moment plan journal).tool reason ≡ cause

pub ground : (plan : PlanData) (journal : List Entry) (cause : Cause) → verdict_of plan journal ≡ verdicts.Reverted cause → IsGround plan journal cause
unfolding verdict_of
ground plan journal cause is = ended (has_ended plan journal) is where
  by_reason : (reason : Option Reason) → (moment plan journal).tool.reason ≡ reason → reverted_by plan journal (moment plan journal).tool reason ≡ verdicts.Reverted cause → IsGround plan journal cause
  by_reason None at same = absurd (no same) where
    no : verdicts.Unfinished ≡ verdicts.Reverted cause → ⊥
    no same = cc
  by_reason (Some reason) at same = record { reason = reason; is = at; same = one same } where
    one : verdicts.Reverted (cause_of plan journal (moment plan journal).tool reason) ≡ verdicts.Reverted cause → cause_of plan journal (moment plan journal).tool reason ≡ cause
    one same = cc

  altered : (b : Bool) → cond b verdicts.Done (reverted_by plan journal (moment plan journal).tool (moment plan journal).tool.reason) ≡ verdicts.Reverted cause → IsGround plan journal cause
  altered true same = absurd (no same) where
    no : verdicts.Done ≡ verdicts.Reverted cause → ⊥
    no same = cc
  altered false same = by_reason (moment plan journal).tool.reason refl same

  ended : (b : Bool) → cond b (ended_so plan journal (moment plan journal).tool) verdicts.Unfinished ≡ verdicts.Reverted cause → IsGround plan journal cause
  ended false same = absurd (no same) where
    no : verdicts.Unfinished ≡ verdicts.Reverted cause → ⊥
    no same = cc
  ended true same = altered (list_any is_alter (history plan journal)) same

-- *Panic stands*
pub all_panics : PanicsStand
unfolding Stands
all_panics plan journal turn faithful follows verdict = by one.reason one.same (subst (ReasonHolds plan journal) one.is (all_held plan journal faithful follows).holds.reason) where
  one : IsGround plan journal (causes.Panic turn)
  one = ground plan journal (causes.Panic turn) verdict

  by : (reason : Reason) → cause_of plan journal (moment plan journal).tool reason ≡ causes.Panic turn → ReasonHolds plan journal (Some reason) → IsPanic plan journal turn
  by (Panicked other) same holds = let number : other ≡ turn = cc in subst (IsPanic plan journal) number holds
  by (Spent task turns) same holds = absurd cc
  by (CopyUnfit other place number) same holds = absurd cc
  by (ApplyUnfit other place number) same holds = absurd cc

-- *Spent tasks stand*
pub all_spent : SpentTasksStand
unfolding Stands
all_spent plan journal task turns faithful follows other verdict = by one.reason one.same (subst (ReasonHolds plan journal) one.is (all_held plan journal faithful follows).holds.reason) where
  one : IsGround plan journal (causes.Spent task turns)
  one = ground plan journal (causes.Spent task turns) verdict

  by : (reason : Reason) → cause_of plan journal (moment plan journal).tool reason ≡ causes.Spent task turns → ReasonHolds plan journal (Some reason) → IsSpent plan journal task turns
  by (Spent spent tries) same holds =
      let a : spent ≡ task = cc in
      let b : tries ≡ turns = cc in
      subst (IsSpent plan journal task) b (subst (λ (t : Task). IsSpent plan journal t tries) a (holds.others (λ cut. other (sym a ∙ cut))))
  by (Panicked turn) same holds = absurd cc
  by (CopyUnfit turn place number) same holds = absurd cc
  by (ApplyUnfit turn place number) same holds = absurd cc

-- *Spent attempts stand*
pub all_attempts : SpentAttemptsStand
all_attempts plan journal turns faithful follows some verdict = by one.reason one.same (subst (ReasonHolds plan journal) one.is (all_held plan journal faithful follows).holds.reason) where
  one : IsGround plan journal (causes.Spent tasks.CutOver turns)
  one = ground plan journal (causes.Spent tasks.CutOver turns) verdict

  by : (reason : Reason) → cause_of plan journal (moment plan journal).tool reason ≡ causes.Spent tasks.CutOver turns → ReasonHolds plan journal (Some reason) → IsSpentOn plan journal turns
  by (Spent spent tries) same holds =
      let a : spent ≡ tasks.CutOver = cc in
      let b : tries ≡ turns = cc in
      subst (IsSpentOn plan journal) b (holds.attempts a some)
  by (Panicked turn) same holds = absurd cc
  by (CopyUnfit turn place number) same holds = absurd cc
  by (ApplyUnfit turn place number) same holds = absurd cc
