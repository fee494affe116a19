-- No panic and no row that doesn't fit comes before the turn in which the cause of a verdict stands.
use Rattle.std.proofs.Common.{◌≡◌, ◌≤◌, ◌<◌, ℕ, zero, suc, ◌+◌, ◌-◌, Bool, true, false, cond, List, [], ◌∷◌, ◌++◌, length, Option, Some, None, refl, sym, ap, ◌∙◌, subst, inl, inr, arith, append_assoc, append-nil, length-append}
use Rattle.std.specs.Prelude.{take}
use Rattle.std.specs.List.{slice_get, list_any}
use Rattle.std.proofs.lemmas.Bool.{true≢false, false≢true, or_left}
use Rattle.base_script.specs.declared.operator.OperatorWord.TheVariants.{Panic}
use Rattle.server_model.specs.declared.entry.Asked.{Asked}
use Rattle.server_model.specs.declared.entry.Asked.TheVariants.{Command}
use Rattle.server_model.specs.declared.entry.Entry.{Entry}
use Rattle.server_model.specs.declared.outcome.Cause.{Cause}
use Rattle.server_model.specs.declared.outcome.Verdict.TheVariants as verdicts
use Rattle.plan_data.specs.PlanData.{PlanData}
use Rattle.tool_program.specs.JournalWords.Histories.{history, is_alter}
use Rattle.tool_program.specs.JournalWords.Journals.{IsFaithful}
use Rattle.tool_program.specs.Operators.{commanded}
use Rattle.tool_program.specs.Programs.{Follows as FollowsProgram}
use Rattle.tool_program.specs.Tools.{ToolPhase, Reason, CopyUnfit, ApplyUnfit, Spent, Panicked, Tool, Moment, first_reason, stopped, is_renamed, is_reverting, panics, command_took, took, moment}
use Rattle.tool_program.specs.Verdicts.{cause_of, has_ended, reverted_by, verdict_of}
use Rattle.proof_journals.specs.Machine.FormedPlans.{IsFitting}
use Rattle.proof_journals.specs.Machine.MigrationTables.{TableExists}
use Rattle.proof_journals.proofs.Machine.Counting.{turns_more}
use Rattle.proof_journals.proofs.Machine.Lifting.{first_some}
use Rattle.proof_journals.proofs.Machine.Marks.{is_marked, history_more, all_marking, done_marked}
use Rattle.proof_journals.proofs.Sentry.Inductions.{moment_more}
use Rattle.proof_journals.specs.Run.Kept.{IsKept}
use Rattle.proof_migration.proofs.Program.Turns.Follows.{kept_front}
use Rattle.proof_migration.proofs.Attempt.Verdicts.Standing.{IsGround, ground}
use Rattle.proof_order.specs.LeastCauses.{last_turn}
use Rattle.proof_order.specs.Laws.{PanicsAreLate}
use Rattle.proof_order.proofs.Grounds.{turn_of, IsNow, Follows, reason_more}

-- A JOURNAL, TURN BY TURN

-- the entries before a turn, and those after it
pub record IsSplit (journal : List Entry) (before : ℕ) (entry : Entry) : Type 0 where
  pub rest : List Entry
  pub whole : journal ≡ take before journal ++ entry ∷ rest
  pub long : length (take before journal) ≡ before

pub split : (journal : List Entry) (before : ℕ) (entry : Entry) → slice_get journal before ≡ Some entry → IsSplit journal before entry
split [] before entry is = absurd cc
split (first ∷ journal) zero entry is = let same : first ≡ entry = cc in record { rest = journal; whole = ap (λ (e : Entry). e ∷ journal) same; long = refl }
split (first ∷ journal) (suc before) entry is =
    let later : IsSplit journal before entry = split journal before entry is in record { rest = later.rest; whole = ap (λ (j : List Entry). first ∷ j) later.whole; long = ap suc later.long }

module _ (plan : PlanData) where
  abbrev reason_at : List Entry → Option Reason
  reason_at journal = (moment plan journal).tool.reason

  turns_at_start : (moment plan []).tool.turns ≡ 0
  unfolding moment
  turns_at_start = refl

  reason_at_start : reason_at [] ≡ None
  unfolding moment
  reason_at_start = refl

  -- every journal has as many turns, front by front
  turns_from : (before journal : List Entry) → (moment plan before).tool.turns ≡ length before → (moment plan (before ++ journal)).tool.turns ≡ length (before ++ journal)
  turns_from before [] is = subst (λ (j : List Entry). (moment plan j).tool.turns ≡ length j) (sym (append-nil before)) is
  turns_from before (entry ∷ journal) is =
      subst (λ (j : List Entry). (moment plan j).tool.turns ≡ length j) (append_assoc before (entry ∷ []) journal)
      (turns_from (before ++ entry ∷ []) journal (turns_more plan before entry ∙ ap (λ (n : ℕ). n + 1) is ∙ sym (length-append before (entry ∷ []))))

  turns_are : (journal : List Entry) → (moment plan journal).tool.turns ≡ length journal
  turns_are journal = turns_from [] journal turns_at_start

  -- a ground stays
  pub stays : (before journal : List Entry) (reason : Reason) → reason_at before ≡ Some reason → reason_at (before ++ journal) ≡ Some reason
  stays before [] reason is = ap reason_at (append-nil before) ∙ is
  stays before (entry ∷ journal) reason is =
      ap reason_at (sym (append_assoc before (entry ∷ []) journal)) ∙ stays (before ++ entry ∷ []) journal reason (by (reason_more plan before entry)) where
        by : Follows ((moment plan before).tool.turns + 1) (reason_at before) (reason_at (before ++ entry ∷ [])) → reason_at (before ++ entry ∷ []) ≡ Some reason
        by (inl same) = same ∙ is
        by (inr new) = absurd (no (sym new.0 ∙ is)) where
          no : None ≡ Some reason → ⊥
          no both = cc

  -- it is of a turn of the journal
  late_more : (journal : List Entry) (entry : Entry) → ((reason : Reason) → reason_at journal ≡ Some reason → turn_of reason ≤ length journal) → (reason : Reason) → reason_at (journal ++ entry ∷ []) ≡ Some reason → turn_of reason ≤ length (journal ++ entry ∷ [])
  late_more journal entry late reason is = by (reason_more plan journal entry) where
    long : length (journal ++ entry ∷ []) ≡ length journal + 1
    long = length-append journal (entry ∷ [])

    by : Follows ((moment plan journal).tool.turns + 1) (reason_at journal) (reason_at (journal ++ entry ∷ [])) → turn_of reason ≤ length (journal ++ entry ∷ [])
    by (inl same) = let less : turn_of reason ≤ length journal = late reason (sym same ∙ is) in omega (arith, long, less)
    by (inr new) =
        let now : turn_of reason ≡ (moment plan journal).tool.turns + 1 = subst (IsNow ((moment plan journal).tool.turns + 1)) is new.1 in
        let turns : (moment plan journal).tool.turns ≡ length journal = turns_are journal in
        omega (arith, long, now, turns)

  late_from : (before journal : List Entry) → ((reason : Reason) → reason_at before ≡ Some reason → turn_of reason ≤ length before) → (reason : Reason) → reason_at (before ++ journal) ≡ Some reason → turn_of reason ≤ length (before ++ journal)
  late_from before [] late = subst (λ (j : List Entry). (reason : Reason) → reason_at j ≡ Some reason → turn_of reason ≤ length j) (sym (append-nil before)) late
  late_from before (entry ∷ journal) late =
      subst (λ (j : List Entry). (reason : Reason) → reason_at j ≡ Some reason → turn_of reason ≤ length j) (append_assoc before (entry ∷ []) journal) (late_from (before ++ entry ∷ []) journal (late_more before entry late))

  is_late : (journal : List Entry) (reason : Reason) → reason_at journal ≡ Some reason → turn_of reason ≤ length journal
  is_late journal = late_from [] journal (λ reason is. absurd (no (sym reason_at_start ∙ is))) where
    no : {reason : Reason} → None ≡ Some reason → ⊥
    no both = cc

  -- THE VERDICT'S CAUSE

  ground_turn : (journal : List Entry) (tool : Tool) (reason : Reason) → last_turn (cause_of plan journal tool reason) ≡ turn_of reason
  ground_turn journal tool (CopyUnfit turn place number) = refl
  ground_turn journal tool (ApplyUnfit turn place number) = refl
  ground_turn journal tool (Spent task turns) = refl
  ground_turn journal tool (Panicked turn) = refl

  record HasReason (journal : List Entry) : Type 0 where
    reason : Reason
    is : reason_at journal ≡ Some reason

  reverting_has : (found : Option Reason) → is_reverting found ≡ true → (reason : Reason) × (found ≡ Some reason)
  reverting_has None is = absurd (false≢true is)
  reverting_has (Some reason) is = (reason, refl)

  -- *Once all is reverted, the cause of the verdict stood*
  pub stood_by : (front rest : List Entry) (cause : Cause) → is_reverting (reason_at front) ≡ true → verdict_of plan (front ++ rest) ≡ verdicts.Reverted cause → last_turn cause ≤ length front
  stood_by front rest cause reverting verdict = by (reverting_has (reason_at front) reverting) (ground plan (front ++ rest) cause verdict) where
    by : (reason : Reason) × (reason_at front ≡ Some reason) → IsGround plan (front ++ rest) cause → last_turn cause ≤ length front
    by found one =
        let both : Some found.0 ≡ Some one.reason = sym (stays front rest found.0 found.1) ∙ one.is in
        let same : found.0 ≡ one.reason = some_one found.0 one.reason both in
        subst (λ (n : ℕ). n ≤ length front) (ap turn_of same ∙ sym (ground_turn (front ++ rest) (moment plan (front ++ rest)).tool one.reason) ∙ ap last_turn one.same) (is_late front found.0 found.1) where
          some_one : (a b : Reason) → Some a ≡ Some b → a ≡ b
          some_one a b both = let one : a ≡ b = cc in one

  -- UNTIL A REVERT NOTHING IS RENAMED

  marked_from : (before journal : List Entry) → is_marked plan before ≡ true → is_marked plan (before ++ journal) ≡ true
  marked_from before [] marked = ap (is_marked plan) (append-nil before) ∙ marked
  marked_from before (entry ∷ journal) marked = ap (is_marked plan) (sym (append_assoc before (entry ∷ []) journal)) ∙ marked_from (before ++ entry ∷ []) journal (history_more plan before entry ∙ or_left (is_marked plan before) _ marked)

  unmarked : (journal : List Entry) (cause : Cause) → verdict_of plan journal ≡ verdicts.Reverted cause → is_marked plan journal ≡ true → ⊥
  unfolding verdict_of
  unmarked journal cause verdict marked = by (has_ended plan journal) (list_any is_alter (history plan journal)) marked verdict where
    by : (ended altered : Bool) → altered ≡ true → cond ended (cond altered verdicts.Done (reverted_by plan journal (moment plan journal).tool (moment plan journal).tool.reason)) verdicts.Unfinished ≡ verdicts.Reverted cause → ⊥
    by false altered is verdict = cc
    by true true is verdict = cc
    by true false is verdict = false≢true is

  pub unrenamed : (front rest : List Entry) (cause : Cause) → IsFitting plan → TableExists plan → IsFaithful plan front → FollowsProgram plan front → verdict_of plan (front ++ rest) ≡ verdicts.Reverted cause → is_renamed (moment plan front).tool.tool_phase ≡ false
  unrenamed front rest cause fit stands faithful follows verdict = by (is_renamed (moment plan front).tool.tool_phase) refl where
    by : (b : Bool) → is_renamed (moment plan front).tool.tool_phase ≡ b → b ≡ false
    by false is = refl
    by true renamed = absurd (unmarked (front ++ rest) cause verdict (marked_from front rest (done_marked plan front (all_marking plan front fit stands faithful follows) renamed)))

-- PANIC

pub panic_reverts : (plan : PlanData) (front : List Entry) (entry : Entry) → entry.asked ≡ Command Panic → is_renamed (moment plan front).tool.tool_phase ≡ false → is_reverting (moment plan (front ++ entry ∷ [])).tool.reason ≡ true
unfolding took
panic_reverts plan front entry asks off =
    subst (λ (m : Moment). is_reverting m.tool.reason ≡ true) (sym (moment_more plan front entry)) (subst (λ (a : Asked). is_reverting (Rattle.tool_program.specs.Tools.asked_took plan (moment plan front).server entry a tool).reason ≡ true) (sym asks) (by (is_renamed tool.tool_phase) off)) where
      tool : Tool
      tool = record (moment plan front).tool { turns = (moment plan front).tool.turns + 1 }

      by : (b : Bool) → b ≡ false → is_reverting (cond b (record tool { operator = commanded Panic tool.operator }) (record tool { operator = commanded Panic tool.operator; reason = first_reason tool.reason (Panicked tool.turns); tool_phase = stopped tool.tool_phase })).reason ≡ true
      by true off = absurd (true≢false off)
      by false off = first_some tool.reason (Panicked tool.turns)

-- AT A TURN OF THE JOURNAL

-- where all is reverted behind this turn, the cause stood by then
pub late_at : (plan : PlanData) (journal : List Entry) (turn : ℕ) (entry : Entry) (cause : Cause) → IsKept plan journal → 0 < turn → slice_get journal (turn - 1) ≡ Some entry → verdict_of plan journal ≡ verdicts.Reverted cause
    → ((rest : List Entry) → journal ≡ take (turn - 1) journal ++ entry ∷ rest → IsKept plan (take (turn - 1) journal ++ entry ∷ []) → is_reverting (moment plan (take (turn - 1) journal ++ entry ∷ [])).tool.reason ≡ true) → last_turn cause ≤ turn
late_at plan journal turn entry cause kept some stands verdict reverts =
    let at : IsSplit journal (turn - 1) entry = split journal (turn - 1) entry stands in
    let whole : journal ≡ (take (turn - 1) journal ++ entry ∷ []) ++ at.rest = at.whole ∙ sym (append_assoc (take (turn - 1) journal) (entry ∷ []) at.rest) in
    let front_kept : IsKept plan (take (turn - 1) journal ++ entry ∷ []) = kept_front plan (take (turn - 1) journal ++ entry ∷ []) at.rest (subst (IsKept plan) whole kept) in
    let less : last_turn cause ≤ length (take (turn - 1) journal ++ entry ∷ []) = stood_by plan (take (turn - 1) journal ++ entry ∷ []) at.rest cause (reverts at.rest at.whole front_kept) (ap (verdict_of plan) (sym whole) ∙ verdict) in
    let long : length (take (turn - 1) journal ++ entry ∷ []) ≡ length (take (turn - 1) journal) + 1 = length-append (take (turn - 1) journal) (entry ∷ []) in
    let front_long : length (take (turn - 1) journal) ≡ turn - 1 = at.long in
    omega (arith, less, long, front_long, some)

-- until then nothing is renamed
pub unrenamed_at : (plan : PlanData) (journal : List Entry) (before : ℕ) (entry : Entry) (rest : List Entry) (cause : Cause) → IsFitting plan → TableExists plan → journal ≡ take before journal ++ entry ∷ rest → IsKept plan (take before journal ++ entry ∷ []) → verdict_of plan journal ≡ verdicts.Reverted cause
    → is_renamed (moment plan (take before journal)).tool.tool_phase ≡ false
unrenamed_at plan journal before entry rest cause fit stands whole kept verdict =
    let front_kept : IsKept plan (take before journal) = kept_front plan (take before journal) (entry ∷ []) kept in
    unrenamed plan (take before journal) (entry ∷ rest) cause fit stands front_kept.faithful front_kept.follows (ap (verdict_of plan) (sym whole) ∙ verdict)

-- *Panics are late*
pub panics_late : PanicsAreLate
panics_late plan journal turn cause fit stands kept panic verdict =
    late_at plan journal turn panic.entry cause kept panic.is.from_one panic.is.stands verdict
    (λ rest whole front_kept. panic_reverts plan (take (turn - 1) journal) panic.entry panic.asked (unrenamed_at plan journal (turn - 1) panic.entry rest cause fit stands whole front_kept verdict))
