-- What is known of the two counters in each phase of the cut-over: between the call that shows the old table's and the one that sets the new
-- table's the old one stays; from then on the new table's is no less, until the RENAME is done or waits no more.
use Rattle.std.proofs.Common.{◌≡◌, ◌⊎◌, ℕ, ◌+◌, ◌==◌, ◌≤◌, nat_le, Bool, true, false, cond, not, List, Option, Some, None, refl, sym, ◌∙◌, subst, inl, inr, arith}
use Rattle.std.proofs.lemmas.Bool.{true≢false, false≢true}
use Rattle.base_values.specs.ToolNames.{ghost_name}
use Rattle.server_model.specs.declared.answer.Answer.{Answer}
use Rattle.server_model.specs.declared.answer.Answer.TheVariants as answers
use Rattle.server_model.specs.declared.listing.TableName.{TableName}
use Rattle.server_model.specs.LockedRows.Counters.{NoLess}
use Rattle.server_model.specs.States.{State, next_of}
use Rattle.plan_data.specs.PlanData.{PlanData, has_counter}
use Rattle.tool_program.specs.declared.cutover_core.cutover.Clearing.{Clearing}
use Rattle.tool_program.specs.declared.cutover_core.cutover.Clearing.TheVariants.{Looking, Drops}
use Rattle.tool_program.specs.declared.cutover_core.cutover.CutOver.{CutOver}
use Rattle.tool_program.specs.declared.cutover_core.cutover.Drain.{Drain}
use Rattle.tool_program.specs.declared.cutover_core.cutover.Drain.TheVariants.{Turns, Passed}
use Rattle.tool_program.specs.declared.cutover_core.cutover.Phase.{Phase}
use Rattle.tool_program.specs.declared.cutover_core.cutover.Phase.TheVariants.{Resting, Attempting, Ending, Finishing, Finished}
use Rattle.tool_program.specs.declared.cutover_core.cutover.Stage.{Stage}
use Rattle.tool_program.specs.declared.cutover_core.cutover.Stage.TheVariants.{Guarding, Locking, Hinting, ReadingCounter, SettingCounter, Draining, Drained, Showing, Dropping, Unlocking, Exchanging}
use Rattle.tool_program.specs.declared.cutover_core.cutover.Leftovers.{Leftovers}
use Rattle.tool_program.specs.CutoverCore.Attempts as attempts
use Rattle.tool_program.specs.CutoverCore.CutOvers as cutovers
use Rattle.tool_program.specs.CutoverCore.CutOvers.{drained, ended, inspector_phase, inspector_stage, is_bad, is_wait, locker_phase, locker_stage, renamer_phase}
use Rattle.tool_program.specs.Tools.{ToolPhase, SettingUp, Migrating}
use Rattle.proof_journals.specs.Sentry.Sentries.{HasSentry, MayAnswer, scene}

-- there is no first counter, or the second one is no less
abbrev pub NoMore : Option ℕ → Option ℕ → Type 0
NoMore None second = Unit {0}
NoMore (Some first) None = ⊥
NoMore (Some first) (Some second) = first ≤ second

pub more_on : (a b c d : Option ℕ) → c ≡ a → NoLess b d → NoMore a b → NoMore c d
more_on None b c d same less is = subst (λ (o : Option ℕ). NoMore o d) (sym same) tt
more_on (Some a) None c d same less is = absurd is
more_on (Some a) (Some b) c None same less is = absurd less
more_on (Some a) (Some b) c (Some d) same less is = subst (λ (o : Option ℕ). NoMore o (Some d)) (sym same) (omega (arith, less, is))

-- the new table's counter is no less than the old one's, where that has one
abbrev pub IsNoLess : PlanData → State → Type 0
IsNoLess plan state = has_counter plan ≡ true → NoMore (next_of plan.table state.counters) (next_of (ghost_name plan.table) state.counters)

-- *Carried*: what is so of the counters, by the phase and by whether the RENAME waits
abbrev pub CarriedAt : PlanData → State → Bool → Phase → Type 0
CarriedAt plan state waits (Attempting Guarding) = waits ≡ false
CarriedAt plan state waits (Attempting Locking) = waits ≡ false
CarriedAt plan state waits (Attempting Hinting) = waits ≡ false
CarriedAt plan state waits (Attempting (ReadingCounter drain)) = waits ≡ false
CarriedAt plan state waits (Attempting (SettingCounter number drain)) = (waits ≡ false) × (next_of plan.table state.counters ≡ Some number)
CarriedAt plan state waits (Attempting stage) = IsNoLess plan state
CarriedAt plan state waits (Ending clearing) = waits ≡ true → HasSentry plan.table (scene state) ⊎ IsNoLess plan state
CarriedAt plan state waits phase = Unit {0}

abbrev pub ToolPhaseCarried : PlanData → State → ToolPhase → Type 0
ToolPhaseCarried plan state (SettingUp setup tries) = Unit {0}
ToolPhaseCarried plan state (Migrating work) = CarriedAt plan state work.cutover.renamer_waits work.cutover.phase

module _ (plan : PlanData) (state : State) where
  abbrev At : Bool → Phase → Type 0
  At waits phase = CarriedAt plan state waits phase

  -- an attempt that has failed
  pub fails_carried : (waits : Bool) (stage : Stage) → At waits (Attempting stage) → At waits (Ending Looking)
  fails_carried waits Guarding is on = absurd (true≢false (sym on ∙ is))
  fails_carried waits Locking is on = absurd (true≢false (sym on ∙ is))
  fails_carried waits Hinting is on = absurd (true≢false (sym on ∙ is))
  fails_carried waits (ReadingCounter drain) is on = absurd (true≢false (sym on ∙ is))
  fails_carried waits (SettingCounter number drain) is on = absurd (true≢false (sym on ∙ is.0))
  fails_carried waits (Draining turns) is on = inr is
  fails_carried waits Drained is on = inr is
  fails_carried waits Showing is on = inr is
  fails_carried waits Dropping is on = inr is
  fails_carried waits Unlocking is on = inr is
  fails_carried waits Exchanging is on = inr is

  -- all is reverted
  pub ended_carried : (waits : Bool) (phase : Phase) → At waits phase → At waits (ended phase)
  ended_carried waits Resting is = is
  ended_carried waits (Attempting Unlocking) is = is
  ended_carried waits (Attempting Exchanging) is = is
  ended_carried waits (Attempting Guarding) is = fails_carried waits Guarding is
  ended_carried waits (Attempting Locking) is = fails_carried waits Locking is
  ended_carried waits (Attempting Hinting) is = fails_carried waits Hinting is
  ended_carried waits (Attempting (ReadingCounter drain)) is = fails_carried waits (ReadingCounter drain) is
  ended_carried waits (Attempting (SettingCounter number drain)) is = fails_carried waits (SettingCounter number drain) is
  ended_carried waits (Attempting (Draining turns)) is = fails_carried waits (Draining turns) is
  ended_carried waits (Attempting Drained) is = fails_carried waits Drained is
  ended_carried waits (Attempting Showing) is = fails_carried waits Showing is
  ended_carried waits (Attempting Dropping) is = fails_carried waits Dropping is
  ended_carried waits (Ending clearing) is = is
  ended_carried waits (Finishing clearing) is = is
  ended_carried waits Finished is = is

  -- the applier's turn counts
  pub drained_carried : (cutover : CutOver) (hint : ℕ) (waits : Bool) (phase : Phase) → At waits phase → At waits (drained cutover hint phase)
  drained_carried cutover hint waits phase = by phase where
    passes : (turns : ℕ) (stage : Stage) → At waits (Attempting stage) → At waits (Attempting (cutovers.with_drain stage Passed)) → At waits (Attempting (cutovers.with_drain stage (Turns (turns + 1)))) → At waits (cutovers.drains_to cutover hint stage (Some (Turns turns)))
    passes turns stage is one other = at (hint == cutover.attempts) (nat_le cutover.drain_limit (turns + 1)) where
      at : (a b : Bool) → At waits (cond a (Attempting (cutovers.with_drain stage Passed)) (cond b (Ending Looking) (Attempting (cutovers.with_drain stage (Turns (turns + 1))))))
      at true b = one
      at false true = fails_carried waits stage is
      at false false = other

    by : (phase : Phase) → At waits phase → At waits (drained cutover hint phase)
    by (Attempting (ReadingCounter (Turns turns))) is = passes turns (ReadingCounter (Turns turns)) is is is
    by (Attempting (ReadingCounter Passed)) is = is
    by (Attempting (SettingCounter number (Turns turns))) is = passes turns (SettingCounter number (Turns turns)) is is is
    by (Attempting (SettingCounter number Passed)) is = is
    by (Attempting (Draining turns)) is = passes turns (Draining turns) is is is
    by (Attempting Guarding) is = is
    by (Attempting Locking) is = is
    by (Attempting Hinting) is = is
    by (Attempting Drained) is = is
    by (Attempting Showing) is = is
    by (Attempting Dropping) is = is
    by (Attempting Unlocking) is = is
    by (Attempting Exchanging) is = is
    by Resting is = is
    by (Ending clearing) is = is
    by (Finishing clearing) is = is
    by Finished is = is

  -- the locker is answered
  begun_carried : (answer : Answer) (waits : Bool) → waits ≡ false → At waits (cutovers.begun answer)
  begun_carried (answers.Ok count) waits off = off
  begun_carried (answers.Waits by) waits off = off
  begun_carried answer waits off = λ on. absurd (true≢false (sym on ∙ off))

  locked_carried : (answer : Answer) (waits : Bool) (stage : Stage) → At waits (Attempting stage) → At waits (Attempting (locker_stage stage answer))
  locked_carried (answers.Ok count) waits Guarding is = is
  locked_carried (answers.Ok count) waits Locking is = is
  locked_carried (answers.Ok count) waits Dropping is = is
  locked_carried (answers.Ok count) waits Unlocking is = is
  locked_carried answer waits Guarding is = is
  locked_carried answer waits Locking is = is
  locked_carried answer waits Hinting is = is
  locked_carried answer waits (ReadingCounter drain) is = is
  locked_carried answer waits (SettingCounter number drain) is = is
  locked_carried answer waits (Draining turns) is = is
  locked_carried answer waits Drained is = is
  locked_carried answer waits Showing is = is
  locked_carried answer waits Dropping is = is
  locked_carried answer waits Unlocking is = is
  locked_carried answer waits Exchanging is = is

  pub locker_carried : (answer : Answer) (waits : Bool) (phase : Phase) → (phase ≡ Resting → waits ≡ false) → At waits phase → At waits (locker_phase phase answer)
  locker_carried answer waits Resting off is = begun_carried answer waits (off refl)
  locker_carried answer waits (Attempting stage) off is = at (is_bad answer) where
    at : (b : Bool) → At waits (cond b (Ending Looking) (Attempting (locker_stage stage answer)))
    at true = fails_carried waits stage is
    at false = locked_carried answer waits stage is
  locker_carried answer waits (Ending clearing) off is = is
  locker_carried answer waits (Finishing clearing) off is = is
  locker_carried answer waits Finished off is = is

  -- the renamer is answered
  renamed_waits : (waits : Bool) (stage : Stage) → MayAnswer (Attempting stage) waits → At waits (Attempting stage) → At true (cutovers.waits_phase (Attempting stage))
  renamed_waits waits Drained may is = is
  renamed_waits waits Showing may is = is
  renamed_waits waits Dropping may is = is
  renamed_waits waits Unlocking may is = is
  renamed_waits waits Exchanging may is = is
  renamed_waits waits stage may is = absurd may

  refused_carried : (waits : Bool) (phase : Phase) → At waits phase → At false phase
  refused_carried waits (Attempting Guarding) is = refl
  refused_carried waits (Attempting Locking) is = refl
  refused_carried waits (Attempting Hinting) is = refl
  refused_carried waits (Attempting (ReadingCounter drain)) is = refl
  refused_carried waits (Attempting (SettingCounter number drain)) is = (refl, is.1)
  refused_carried waits (Attempting stage) is = is
  refused_carried waits (Ending clearing) is = λ on. absurd (false≢true on)
  refused_carried waits Resting is = tt
  refused_carried waits (Finishing clearing) is = tt
  refused_carried waits Finished is = tt

  failed_carried : (phase : Phase) → At false (cutovers.failed phase)
  failed_carried (Attempting stage) = λ on. absurd (false≢true on)
  failed_carried (Ending clearing) = λ on. absurd (false≢true on)
  failed_carried Resting = tt
  failed_carried (Finishing clearing) = tt
  failed_carried Finished = tt

  not_lost : {A : Type 0} (by : ℕ) → answers.Waits by ≡ answers.Lost → A
  not_lost by same = absurd cc

  pub renamer_carried : (answer : Answer) (waits : Bool) (phase : Phase) → (answer ≡ answers.Lost) ⊎ MayAnswer phase waits → At waits phase → At (is_wait answer) (renamer_phase phase answer)
  renamer_carried (answers.Ok count) waits phase may is = tt
  renamer_carried (answers.Waits by) waits phase (inl lost) is = not_lost by lost
  renamer_carried (answers.Waits by) waits (Attempting stage) (inr may) is = renamed_waits waits stage may is
  renamer_carried (answers.Waits by) waits (Ending clearing) (inr may) is = λ on. is may
  renamer_carried (answers.Waits by) waits Resting (inr may) is = tt
  renamer_carried (answers.Waits by) waits (Finishing clearing) (inr may) is = tt
  renamer_carried (answers.Waits by) waits Finished (inr may) is = tt
  renamer_carried answers.Lost waits phase may is = failed_carried phase
  renamer_carried (answers.TimedOut waited) waits phase may is = failed_carried phase
  renamer_carried answer waits phase may is = refused_carried waits phase is

  -- the inspector is answered
  finishing_carried : (waits : Bool) (left : Leftovers) → At waits (cutovers.finishing left)
  finishing_carried waits left = at (attempts.is_clear left) where
    at : (b : Bool) → At waits (cond b Finished (Finishing (Drops left)))
    at true = tt
    at false = tt

  seen_carried : (cutover : CutOver) (tables : List TableName) (waits : Bool) → waits ≡ false → At waits (cutovers.seen cutover tables)
  seen_carried cutover tables waits off = at (not (attempts.has_name (ghost_name cutover.table) tables)) (attempts.has_sentry cutover.table tables) where
    at : (a b : Bool) → At waits (cond a (cutovers.finishing (cutovers.left_at_end cutover tables)) (cond b (Ending (Drops cutovers.sentry_alone)) Resting))
    at true b = finishing_carried waits (cutovers.left_at_end cutover tables)
    at false true = λ on. absurd (true≢false (sym on ∙ off))
    at false false = tt

  finished_carried : (cutover : CutOver) (clearing : Clearing) (waits : Bool) (answer : Answer) → At waits (cutovers.finishing_after cutover clearing answer)
  finished_carried cutover clearing waits answers.Lost = tt
  finished_carried cutover clearing waits (answers.TimedOut waited) = tt
  finished_carried cutover Looking waits (answers.Tables tables) = finishing_carried waits (cutovers.left_at_end cutover tables)
  finished_carried cutover (Drops left) waits (answers.Ok count) = finishing_carried waits (attempts.without_first left)
  finished_carried cutover Looking waits answer = tt
  finished_carried cutover (Drops left) waits answer = tt

  -- what is so of its answers
  pub record Inspects (waits : Bool) (phase : Phase) (answer : Answer) : Type 0 where
    pub shows : (drain : Drain) (number : ℕ) → phase ≡ Attempting (ReadingCounter drain) → answer ≡ answers.At number → next_of plan.table state.counters ≡ Some number
    pub sets : (number : ℕ) (drain : Drain) (count : ℕ) → phase ≡ Attempting (SettingCounter number drain) → answer ≡ answers.Ok count → IsNoLess plan state
    pub lists : (clearing : Clearing) (tables : List TableName) → phase ≡ Ending clearing → answer ≡ answers.Tables tables → waits ≡ false

  inspected : (cutover : CutOver) (waits : Bool) (stage : Stage) (answer : Answer) → cutover.has_counter ≡ has_counter plan → Inspects waits (Attempting stage) answer → At waits (Attempting stage) → At waits (Attempting (inspector_stage cutover.has_counter stage answer))
  inspected cutover waits Hinting (answers.Ok count) own so is = at cutover.has_counter refl where
    at : (b : Bool) → cutover.has_counter ≡ b → At waits (Attempting (cutovers.hinted b))
    at true on = is
    at false off = λ has. absurd (true≢false (sym has ∙ sym own ∙ off))
  inspected cutover waits (ReadingCounter drain) (answers.At number) own so is = (is, so.shows drain number refl refl)
  inspected cutover waits (SettingCounter number drain) (answers.Ok count) own so is = at drain where
    less : IsNoLess plan state
    less = so.sets number drain count refl refl

    at : (drain : Drain) → At waits (Attempting (cutovers.drain_stage drain))
    at (Turns turns) = less
    at Passed = less
  inspected cutover waits Showing (answers.Waiting waiters) own so is = at (cutovers.shows_wait waiters) where
    at : (b : Bool) → At waits (Attempting (cond b Dropping Showing))
    at true = is
    at false = is
  inspected cutover waits Guarding answer own so is = is
  inspected cutover waits Locking answer own so is = is
  inspected cutover waits Hinting answer own so is = is
  inspected cutover waits (ReadingCounter drain) answer own so is = is
  inspected cutover waits (SettingCounter number drain) answer own so is = is
  inspected cutover waits (Draining turns) answer own so is = is
  inspected cutover waits Drained answer own so is = is
  inspected cutover waits Showing answer own so is = is
  inspected cutover waits Dropping answer own so is = is
  inspected cutover waits Unlocking answer own so is = is
  inspected cutover waits Exchanging answer own so is = is

  ending_carried : (cutover : CutOver) (clearing : Clearing) (waits : Bool) (answer : Answer) → Inspects waits (Ending clearing) answer → At waits (Ending clearing) → At waits (cutovers.ending_after cutover clearing answer)
  ending_carried cutover clearing waits answers.Lost so is = is
  ending_carried cutover clearing waits (answers.TimedOut waited) so is = is
  ending_carried cutover Looking waits (answers.Tables tables) so is = seen_carried cutover tables waits (so.lists Looking tables refl refl)
  ending_carried cutover (Drops left) waits (answers.Ok count) so is = tt
  ending_carried cutover Looking waits answer so is = is
  ending_carried cutover (Drops left) waits answer so is = is

  pub inspector_carried : (cutover : CutOver) (waits : Bool) (phase : Phase) (answer : Answer) → cutover.has_counter ≡ has_counter plan → Inspects waits phase answer → At waits phase → At waits (inspector_phase cutover phase answer)
  inspector_carried cutover waits (Attempting stage) answer own so is = at (is_bad answer) where
    at : (b : Bool) → At waits (cond b (Ending Looking) (Attempting (inspector_stage cutover.has_counter stage answer)))
    at true = fails_carried waits stage is
    at false = inspected cutover waits stage answer own so is
  inspector_carried cutover waits (Ending clearing) answer own so is = ending_carried cutover clearing waits answer so is
  inspector_carried cutover waits (Finishing clearing) answer own so is = finished_carried cutover clearing waits answer
  inspector_carried cutover waits Resting answer own so is = tt
  inspector_carried cutover waits Finished answer own so is = tt
