-- What is known of the hint rows, from phase to phase of the cut-over.
use Rattle.std.proofs.Common.{◌≡◌, ◌≢◌, ◌<◌, ◌+◌, ◌⊎◌, ℕ, Bool, true, false, cond, not, List, Option, Some, refl, sym, ◌∙◌, subst, inl, inr, arith}
use Rattle.std.specs.Prelude.{◌==◌, nat_le}
use Rattle.std.proofs.lemmas.Bool.{false≢true, true≢false}
use Rattle.std.proofs.lemmas.Bool.Decides.{nat_tests}
use Rattle.base_values.specs.declared.event.RowEvent.{RowEvent}
use Rattle.server_model.specs.declared.answer.Answer.{Answer}
use Rattle.server_model.specs.declared.answer.Answer.TheVariants as answers
use Rattle.server_model.specs.declared.listing.TableName.{TableName}
use Rattle.server_model.specs.declared.request.Request.{Request}
use Rattle.server_model.specs.declared.request.Request.TheVariants as requests
use Rattle.base_values.specs.ToolNames.{ghost_name}
use Rattle.tool_program.specs.declared.event_applier.applier.Applier.{Applier}
use Rattle.tool_program.specs.declared.cutover_core.cutover.Clearing.{Clearing}
use Rattle.tool_program.specs.declared.cutover_core.cutover.Clearing.TheVariants.{Looking, Drops}
use Rattle.tool_program.specs.declared.cutover_core.cutover.CutOver.{CutOver}
use Rattle.tool_program.specs.declared.cutover_core.cutover.Leftovers.{Leftovers}
use Rattle.tool_program.specs.declared.cutover_core.cutover.Phase.{Phase}
use Rattle.tool_program.specs.declared.cutover_core.cutover.Phase.TheVariants.{Resting, Attempting, Ending, Finishing, Finished}
use Rattle.tool_program.specs.declared.cutover_core.cutover.Stage.{Stage}
use Rattle.tool_program.specs.declared.cutover_core.cutover.Stage.TheVariants.{Guarding, Locking, Hinting, Draining, Drained, Showing, Dropping, Unlocking, Exchanging, ReadingCounter, SettingCounter}
use Rattle.tool_program.specs.CutoverCore.Attempts.{has_name, has_sentry, is_clear, without_first}
use Rattle.tool_program.specs.CutoverCore.CutOvers.{attempts_after, begun, drained, ended, ending_after, failed, finishing, finishing_after, hinted, inspector_phase, inspector_stage, is_bad, left_at_end, locker_phase, locker_stage, renamer_phase, seen, sentry_alone, shows_wait, waits_phase}
use Rattle.tool_program.specs.declared.cutover_core.cutover.Drain.TheVariants.{Turns, Passed}
use Rattle.proof_journals.proofs.Machine.CuttingOver.{drain_cases, drain_cases_off}
use Rattle.proof_journals.proofs.Machine.Inspecting.{IsNote}
use Rattle.proof_journals.specs.Sentry.Sentries.{IsDraining}
use Rattle.proof_journals.proofs.Sentry.Draining.{Knows}
use Rattle.proof_journals.proofs.Sentry.Hinting.{HintsBelow}
use Rattle.proof_migration.specs.Program.Hints.{is_unhinted}
use Rattle.proof_migration.proofs.Program.Hints.Writes.{Rises, below_more, hint_insert}

-- the inspector may wait with the INSERT of a hint row
abbrev pub may_hint : Phase → Bool
may_hint (Attempting Hinting) = true
may_hint (Ending Looking) = true
may_hint (Finishing clearing) = true
may_hint Finished = true
may_hint phase = false

-- where the inspector's request is a statement, it is the INSERT of the last attempt's hint row, or a note
abbrev pub AsksHint : List ℕ → ℕ → Phase → Request → Type 0
AsksHint t attempts phase (requests.Do statement) = ((statement ≡ hint_insert t attempts) × (may_hint phase ≡ true)) ⊎ IsNote t (requests.Do statement)
AsksHint t attempts phase request = Unit {0}

abbrev pub WaitsHint : List ℕ → ℕ → Phase → Option Request → Type 0
WaitsHint t attempts phase waits = (request : Request) → waits ≡ Some request → AsksHint t attempts phase request

-- the hint rows in the log are of attempts that were begun; where the last one hasn't written its own, of earlier ones
abbrev pub HintsIn : Bool → List ℕ → ℕ → List RowEvent → Type 0
HintsIn true t attempts log = (most : ℕ) × (most < attempts) × HintsBelow t most log
HintsIn false t attempts log = HintsBelow t attempts log

pub record HintsStand (t : List ℕ) (log : List RowEvent) (waits : Option Request) (applier : Applier) (attempts : ℕ) (phase : Phase) : Type 0 where
  pub knows : Knows t log applier
  pub below : HintsIn (is_unhinted phase) t attempts log
  pub rises : Rises t 0 log
  pub waits_so : WaitsHint t attempts phase waits

-- FROM ONE PHASE TO ANOTHER

pub hints_weaker : (t : List ℕ) (attempts : ℕ) (log : List RowEvent) (a b : Bool) → (b ≡ true → a ≡ true) → HintsIn a t attempts log → HintsIn b t attempts log
hints_weaker t attempts log true true may below = below
hints_weaker t attempts log true false may below = let less = below.1 in below_more t below.0 attempts log (omega (arith, less)) below.2
hints_weaker t attempts log false true may below = absurd (false≢true (may refl))
hints_weaker t attempts log false false may below = below

-- a note is asked in any phase
pub note_asks : (t : List ℕ) (attempts : ℕ) (phase : Phase) (request : Request) → IsNote t request → AsksHint t attempts phase request
note_asks t attempts phase request note = subst (AsksHint t attempts phase) (sym note.is) (inr (record { row = note.row; kind = note.kind; is = refl }))

asks_moves : (t : List ℕ) (attempts : ℕ) (phase next : Phase) (request : Request) → (may_hint phase ≡ true → may_hint next ≡ true) → AsksHint t attempts phase request → AsksHint t attempts next request
asks_moves t attempts phase next (requests.Do statement) may (inl hint) = inl (hint.0, may hint.1)
asks_moves t attempts phase next (requests.Do statement) may (inr note) = inr note
asks_moves t attempts phase next request may asks = tt

-- what keeps it from one phase to the next
pub record Passes (phase next : Phase) : Type 0 where
  pub unhinted : is_unhinted next ≡ true → is_unhinted phase ≡ true
  pub may : may_hint phase ≡ true → may_hint next ≡ true

pub passes : (t : List ℕ) (log : List RowEvent) (waits : Option Request) (applier : Applier) (attempts : ℕ) (phase next : Phase) → Passes phase next → HintsStand t log waits applier attempts phase → HintsStand t log waits applier attempts next
passes t log waits applier attempts phase next moves at = record {
  knows = at.knows;
  below = hints_weaker t attempts log (is_unhinted phase) (is_unhinted next) moves.unhinted at.below;
  rises = at.rises;
  waits_so = λ request some. asks_moves t attempts phase next request moves.may (at.waits_so request some);
}

stays : (phase : Phase) → Passes phase phase
stays phase = record { unhinted = λ is. is; may = λ is. is }

ends : (stage : Stage) → Passes (Attempting stage) (Ending Looking)
ends stage = record { unhinted = λ is. absurd (false≢true is); may = λ is. refl }

-- THE LOCKER

-- an attempt begins: all hint rows are of earlier ones
begins : (t : List ℕ) (attempts : ℕ) (log : List RowEvent) (b : Bool) → HintsBelow t attempts log → HintsIn b t (attempts + 1) log
begins t attempts log true below = (attempts, omega arith, below)
begins t attempts log false below = below_more t attempts (attempts + 1) log (omega arith) below

none_asked : (t : List ℕ) (attempts more : ℕ) (next : Phase) (request : Request) → AsksHint t attempts Resting request → AsksHint t more next request
none_asked t attempts more next (requests.Do statement) (inl hint) = absurd (false≢true hint.1)
none_asked t attempts more next (requests.Do statement) (inr note) = inr note
none_asked t attempts more next request asks = tt

locks : (stage : Stage) (answer : Answer) → Passes (Attempting stage) (Attempting (locker_stage stage answer))
locks Guarding answer = record { unhinted = λ is. refl; may = λ is. absurd (false≢true is) }
locks Locking answer = record { unhinted = λ is. refl; may = λ is. absurd (false≢true is) }
locks Dropping (answers.Ok count) = record { unhinted = λ is. absurd (false≢true is); may = λ is. absurd (false≢true is) }
locks Unlocking (answers.Ok count) = record { unhinted = λ is. absurd (false≢true is); may = λ is. absurd (false≢true is) }
locks stage answer = record { unhinted = λ is. is; may = λ is. is }

locker_passes : (phase : Phase) (answer : Answer) → (phase ≡ Resting → ⊥) → Passes phase (locker_phase phase answer)
locker_passes Resting answer standing = absurd (standing refl)
locker_passes (Attempting stage) answer standing = by (is_bad answer) where
  by : (b : Bool) → Passes (Attempting stage) (cond b (Ending Looking) (Attempting (locker_stage stage answer)))
  by true = ends stage
  by false = locks stage answer
locker_passes (Ending clearing) answer standing = stays (Ending clearing)
locker_passes (Finishing clearing) answer standing = stays (Finishing clearing)
locker_passes Finished answer standing = stays Finished

pub locker_hints : (t : List ℕ) (log : List RowEvent) (waits : Option Request) (applier : Applier) (attempts : ℕ) (phase : Phase) (answer : Answer) → HintsStand t log waits applier attempts phase → HintsStand t log waits applier (attempts_after phase attempts) (locker_phase phase answer)
locker_hints t log waits applier attempts Resting answer at = record {
  knows = at.knows;
  below = begins t attempts log (is_unhinted (begun answer)) at.below;
  rises = at.rises;
  waits_so = λ request some. none_asked t attempts (attempts + 1) (begun answer) request (at.waits_so request some);
}
locker_hints t log waits applier attempts (Attempting stage) answer at = passes t log waits applier attempts (Attempting stage) (locker_phase (Attempting stage) answer) (locker_passes (Attempting stage) answer (λ same. cc)) at
locker_hints t log waits applier attempts (Ending clearing) answer at = at
locker_hints t log waits applier attempts (Finishing clearing) answer at = at
locker_hints t log waits applier attempts Finished answer at = at

-- THE RENAMER, THE DRAIN AND THE REVERT

waits_on : (phase : Phase) → Passes phase (waits_phase phase)
waits_on (Attempting Drained) = record { unhinted = λ is. absurd (false≢true is); may = λ is. absurd (false≢true is) }
waits_on phase = stays phase

fails : (phase : Phase) → Passes phase (failed phase)
fails (Attempting stage) = ends stage
fails phase = stays phase

pub renamer_passes : (phase : Phase) (answer : Answer) → Passes phase (renamer_phase phase answer)
renamer_passes phase (answers.Ok count) = record { unhinted = λ is. absurd (false≢true is); may = λ is. refl }
renamer_passes phase (answers.Waits by) = waits_on phase
renamer_passes phase answers.Lost = fails phase
renamer_passes phase (answers.TimedOut waited) = fails phase
renamer_passes phase answer = stays phase

pub drain_passes : (cutover : CutOver) (hint : ℕ) (phase : Phase) → Passes phase (drained cutover hint phase)
drain_passes cutover hint (Attempting (Draining turns)) = by (hint == cutover.attempts) (nat_le cutover.drain_limit (turns + 1)) where
  by : (a b : Bool) → Passes (Attempting (Draining turns)) (cond a (Attempting Drained) (cond b (Ending Looking) (Attempting (Draining (turns + 1)))))
  by true b = record { unhinted = λ is. absurd (false≢true is); may = λ is. absurd (false≢true is) }
  by false true = ends (Draining turns)
  by false false = record { unhinted = λ is. absurd (false≢true is); may = λ is. absurd (false≢true is) }
drain_passes cutover hint (Attempting (ReadingCounter (Turns turns))) =
    drain_cases (Passes (Attempting (ReadingCounter (Turns turns)))) cutover hint turns (ReadingCounter (Turns turns)) (λ same. record { unhinted = λ is. absurd (false≢true is); may = λ is. absurd (false≢true is) }) (ends (ReadingCounter (Turns turns)))
    (record { unhinted = λ is. absurd (false≢true is); may = λ is. absurd (false≢true is) })
drain_passes cutover hint (Attempting (SettingCounter number (Turns turns))) =
    drain_cases (Passes (Attempting (SettingCounter number (Turns turns)))) cutover hint turns (SettingCounter number (Turns turns)) (λ same. record { unhinted = λ is. absurd (false≢true is); may = λ is. absurd (false≢true is) }) (ends (SettingCounter number (Turns turns)))
    (record { unhinted = λ is. absurd (false≢true is); may = λ is. absurd (false≢true is) })
drain_passes cutover hint phase = stays phase

pub end_passes : (phase : Phase) → Passes phase (ended phase)
end_passes (Attempting Unlocking) = stays (Attempting Unlocking)
end_passes (Attempting Exchanging) = stays (Attempting Exchanging)
end_passes (Attempting stage) = ends stage
end_passes phase = stays phase

-- THE INSPECTOR

finishing_hinted : (left : Leftovers) → is_unhinted (finishing left) ≡ false
finishing_hinted left = by (is_clear left) where
  by : (b : Bool) → is_unhinted (cond b Finished (Finishing (Drops left))) ≡ false
  by true = refl
  by false = refl

seen_hinted : (cutover : CutOver) (tables : List TableName) → is_unhinted (seen cutover tables) ≡ false
seen_hinted cutover tables = by (not (has_name (ghost_name cutover.table) tables)) (has_sentry cutover.table tables) where
  by : (a b : Bool) → is_unhinted (cond a (finishing (left_at_end cutover tables)) (cond b (Ending (Drops sentry_alone)) Resting)) ≡ false
  by true b = finishing_hinted (left_at_end cutover tables)
  by false true = refl
  by false false = refl

ending_hinted : (cutover : CutOver) (clearing : Clearing) (answer : Answer) → is_unhinted (ending_after cutover clearing answer) ≡ false
ending_hinted cutover clearing answers.Lost = refl
ending_hinted cutover clearing (answers.TimedOut waited) = refl
ending_hinted cutover Looking (answers.Tables tables) = seen_hinted cutover tables
ending_hinted cutover (Drops left) (answers.Ok count) = refl
ending_hinted cutover clearing answer = refl

finish_hinted : (cutover : CutOver) (clearing : Clearing) (answer : Answer) → is_unhinted (finishing_after cutover clearing answer) ≡ false
finish_hinted cutover clearing answers.Lost = refl
finish_hinted cutover clearing (answers.TimedOut waited) = refl
finish_hinted cutover Looking (answers.Tables tables) = finishing_hinted (left_at_end cutover tables)
finish_hinted cutover (Drops left) (answers.Ok count) = finishing_hinted (without_first left)
finish_hinted cutover clearing answer = refl

stage_unhinted : (counter : Bool) (stage : Stage) (answer : Answer) → is_unhinted (Attempting (inspector_stage counter stage answer)) ≡ true → is_unhinted (Attempting stage) ≡ true
stage_unhinted counter Hinting answer is = refl
stage_unhinted counter (ReadingCounter drain) (answers.At number) is = is
stage_unhinted counter (SettingCounter number (Turns turns)) (answers.Ok count) is = is
stage_unhinted counter (SettingCounter number Passed) (answers.Ok count) is = is
stage_unhinted counter Showing (answers.Waiting waiters) is = absurd (by (shows_wait waiters) is) where
  by : (b : Bool) → is_unhinted (Attempting (cond b Dropping Showing)) ≡ true → ⊥
  by true is = false≢true is
  by false is = false≢true is
stage_unhinted counter stage answer is = is

insp_unhinted : (cutover : CutOver) (phase : Phase) (answer : Answer) → is_unhinted (inspector_phase cutover phase answer) ≡ true → is_unhinted phase ≡ true
insp_unhinted cutover (Attempting stage) answer is = by (is_bad answer) is where
  by : (b : Bool) → is_unhinted (cond b (Ending Looking) (Attempting (inspector_stage cutover.has_counter stage answer))) ≡ true → is_unhinted (Attempting stage) ≡ true
  by true is = absurd (false≢true is)
  by false is = stage_unhinted cutover.has_counter stage answer is
insp_unhinted cutover (Ending clearing) answer is = absurd (true≢false (sym is ∙ ending_hinted cutover clearing answer))
insp_unhinted cutover (Finishing clearing) answer is = absurd (true≢false (sym is ∙ finish_hinted cutover clearing answer))
insp_unhinted cutover Resting answer is = is
insp_unhinted cutover Finished answer is = is

-- behind the hint row the attempt isn't without one
hint_hinted : (cutover : CutOver) (phase : Phase) (answer : Answer) → may_hint phase ≡ true → (answer ≡ answers.Ok 1) ⊎ (answer ≡ answers.Lost) → is_unhinted (inspector_phase cutover phase answer) ≡ false
hint_hinted cutover phase answer may (inl is) = subst (λ (a : Answer). is_unhinted (inspector_phase cutover phase a) ≡ false) (sym is) (by phase may) where
  by : (phase : Phase) → may_hint phase ≡ true → is_unhinted (inspector_phase cutover phase (answers.Ok 1)) ≡ false
  by (Attempting Hinting) may = hints cutover.has_counter where
    hints : (counter : Bool) → is_unhinted (Attempting (hinted counter)) ≡ false
    hints true = refl
    hints false = refl
  by (Ending clearing) may = ending_hinted cutover clearing (answers.Ok 1)
  by (Finishing clearing) may = finish_hinted cutover clearing (answers.Ok 1)
  by Finished may = refl
  by phase may = absurd (false≢true may)
hint_hinted cutover phase answer may (inr is) = subst (λ (a : Answer). is_unhinted (inspector_phase cutover phase a) ≡ false) (sym is) (by phase) where
  by : (phase : Phase) → is_unhinted (inspector_phase cutover phase answers.Lost) ≡ false
  by (Attempting stage) = refl
  by (Ending clearing) = refl
  by (Finishing clearing) = refl
  by Resting = refl
  by Finished = refl

-- a wait leaves the phase
waits_same : (cutover : CutOver) (phase : Phase) (by : ℕ) → inspector_phase cutover phase (answers.Waits by) ≡ phase
waits_same cutover (Attempting Hinting) by = refl
waits_same cutover (Attempting Showing) by = refl
waits_same cutover (Attempting (ReadingCounter drain)) by = refl
waits_same cutover (Attempting (SettingCounter number drain)) by = refl
waits_same cutover (Attempting stage) by = refl
waits_same cutover (Ending Looking) by = refl
waits_same cutover (Ending (Drops left)) by = refl
waits_same cutover (Finishing Looking) by = refl
waits_same cutover (Finishing (Drops left)) by = refl
waits_same cutover Resting by = refl
waits_same cutover Finished by = refl

-- where nothing of the changelog was logged, and where hint rows of this attempt were
pub insp_below : (t : List ℕ) (cutover : CutOver) (attempts : ℕ) (phase : Phase) (answer : Answer) (log : List RowEvent) → HintsIn (is_unhinted phase) t attempts log → HintsIn (is_unhinted (inspector_phase cutover phase answer)) t attempts log
insp_below t cutover attempts phase answer log below = hints_weaker t attempts log (is_unhinted phase) (is_unhinted (inspector_phase cutover phase answer)) (insp_unhinted cutover phase answer) below

pub hint_below : (t : List ℕ) (cutover : CutOver) (attempts : ℕ) (phase : Phase) (answer : Answer) (log : List RowEvent) → may_hint phase ≡ true → (answer ≡ answers.Ok 1) ⊎ (answer ≡ answers.Lost) → HintsBelow t attempts log → HintsIn (is_unhinted (inspector_phase cutover phase answer)) t attempts log
hint_below t cutover attempts phase answer log may said below = hints_weaker t attempts log false (is_unhinted (inspector_phase cutover phase answer)) (λ is. absurd (true≢false (sym is ∙ hint_hinted cutover phase answer may said))) below

pub asks_waits : (t : List ℕ) (cutover : CutOver) (attempts : ℕ) (phase : Phase) (by : ℕ) (request : Request) → AsksHint t attempts phase request → AsksHint t attempts (inspector_phase cutover phase (answers.Waits by)) request
asks_waits t cutover attempts phase by request asks = subst (λ (p : Phase). AsksHint t attempts p request) (sym (waits_same cutover phase by)) asks

-- WHERE AN ATTEMPT IS DRAINED

-- the applier's hint isn't the attempt's
abbrev pub IsAhead : ℕ → ℕ → Phase → Type 0
IsAhead hint attempts phase = IsDraining phase → hint ≢ attempts

abbrev pub Drains : Phase → Phase → Type 0
Drains phase next = IsDraining next → IsDraining phase

pub locker_drains : (hint attempts : ℕ) (phase : Phase) (answer : Answer) → IsAhead hint attempts phase → IsAhead hint (attempts_after phase attempts) (locker_phase phase answer)
locker_drains hint attempts Resting answer ahead drains = absurd (never answer drains) where
  never : (answer : Answer) → IsDraining (begun answer) → ⊥
  never (answers.Ok count) is = is
  never (answers.Waits other) is = is
  never answer is = is
locker_drains hint attempts (Attempting stage) answer ahead drains = ahead (by (is_bad answer) drains) where
  still : (stage : Stage) → IsDraining (Attempting (locker_stage stage answer)) → IsDraining (Attempting stage)
  still (Draining turns) is = tt
  still (ReadingCounter drain) is = is
  still (SettingCounter number drain) is = is
  still stage is = by_answer stage answer is where
    by_answer : (stage : Stage) (answer : Answer) → IsDraining (Attempting (locker_stage stage answer)) → IsDraining (Attempting stage)
    by_answer Guarding (answers.Ok count) is = is
    by_answer Locking (answers.Ok count) is = is
    by_answer Dropping (answers.Ok count) is = is
    by_answer Unlocking (answers.Ok count) is = is
    by_answer stage answer is = is

  by : (b : Bool) → IsDraining (cond b (Ending Looking) (Attempting (locker_stage stage answer))) → IsDraining (Attempting stage)
  by true is = absurd is
  by false is = still stage is
locker_drains hint attempts (Ending clearing) answer ahead drains = absurd drains
locker_drains hint attempts (Finishing clearing) answer ahead drains = absurd drains
locker_drains hint attempts Finished answer ahead drains = absurd drains

pub renamer_drains : (phase : Phase) (answer : Answer) → Drains phase (renamer_phase phase answer)
renamer_drains phase (answers.Ok count) is = absurd is
renamer_drains phase (answers.Waits other) is = waiting phase is where
  waiting : (phase : Phase) → IsDraining (waits_phase phase) → IsDraining phase
  waiting (Attempting Drained) is = absurd is
  waiting phase is = is
renamer_drains phase answers.Lost is = failing phase is where
  failing : (phase : Phase) → IsDraining (failed phase) → IsDraining phase
  failing (Attempting stage) is = absurd is
  failing phase is = is
renamer_drains phase (answers.TimedOut waited) is = failing phase is where
  failing : (phase : Phase) → IsDraining (failed phase) → IsDraining phase
  failing (Attempting stage) is = absurd is
  failing phase is = is
renamer_drains phase answer is = is

pub end_drains : (phase : Phase) → Drains phase (ended phase)
end_drains (Attempting Unlocking) is = is
end_drains (Attempting Exchanging) is = is
end_drains (Attempting stage) is = absurd is
end_drains phase is = is

-- behind the applier's turn
pub drain_ahead : (cutover : CutOver) (hint : ℕ) (phase : Phase) → IsAhead hint cutover.attempts (drained cutover hint phase)
drain_ahead cutover hint (Attempting (Draining turns)) drains = by (hint == cutover.attempts) refl (nat_le cutover.drain_limit (turns + 1)) drains where
  by : (a : Bool) → (hint == cutover.attempts) ≡ a → (b : Bool) → IsDraining (cond a (Attempting Drained) (cond b (Ending Looking) (Attempting (Draining (turns + 1))))) → hint ≢ cutover.attempts
  by true is b drains = absurd drains
  by false is true drains = absurd drains
  by false is false drains = λ same. absurd (grind (arith, nat_tests, is, same))
drain_ahead cutover hint (Attempting (ReadingCounter (Turns turns))) drains =
    drain_cases_off (λ (p : Phase). IsDraining p → hint ≢ cutover.attempts) cutover hint turns (ReadingCounter (Turns turns)) (λ passed drains. absurd drains) (λ drains. absurd drains) (λ other drains. other) drains
drain_ahead cutover hint (Attempting (SettingCounter number (Turns turns))) drains =
    drain_cases_off (λ (p : Phase). IsDraining p → hint ≢ cutover.attempts) cutover hint turns (SettingCounter number (Turns turns)) (λ passed drains. absurd drains) (λ drains. absurd drains) (λ other drains. other) drains
drain_ahead cutover hint phase drains = absurd drains

-- behind the inspector's turn: it was drained before, or the hint row was written now
pub insp_drains : (cutover : CutOver) (phase : Phase) (answer : Answer) → IsDraining (inspector_phase cutover phase answer) → IsDraining phase ⊎ (phase ≡ Attempting Hinting)
insp_drains cutover (Attempting stage) answer is = by (is_bad answer) is where
  staged : (stage : Stage) (answer : Answer) → IsDraining (Attempting (inspector_stage cutover.has_counter stage answer)) → IsDraining (Attempting stage) ⊎ (Attempting stage ≡ Attempting Hinting)
  staged Hinting answer is = inr refl
  staged (ReadingCounter drain) (answers.At number) is = inl is
  staged (SettingCounter number (Turns turns)) (answers.Ok count) is = inl is
  staged (SettingCounter number Passed) (answers.Ok count) is = absurd is
  staged Showing (answers.Waiting waiters) is = absurd (shown (shows_wait waiters) is) where
    shown : (b : Bool) → IsDraining (Attempting (cond b Dropping Showing)) → ⊥
    shown true is = is
    shown false is = is
  staged stage answer is = inl is

  by : (b : Bool) → IsDraining (cond b (Ending Looking) (Attempting (inspector_stage cutover.has_counter stage answer))) → IsDraining (Attempting stage) ⊎ (Attempting stage ≡ Attempting Hinting)
  by true is = absurd is
  by false is = staged stage answer is
insp_drains cutover (Ending clearing) answer is = absurd (ending clearing answer is) where
  sighted : (tables : List TableName) → IsDraining (seen cutover tables) → ⊥
  sighted tables is = by (not (has_name (ghost_name cutover.table) tables)) (has_sentry cutover.table tables) (is_clear (left_at_end cutover tables)) is where
    by : (a b c : Bool) → IsDraining (cond a (cond c Finished (Finishing (Drops (left_at_end cutover tables)))) (cond b (Ending (Drops sentry_alone)) Resting)) → ⊥
    by true b true is = is
    by true b false is = is
    by false true c is = is
    by false false c is = is

  ending : (clearing : Clearing) (answer : Answer) → IsDraining (ending_after cutover clearing answer) → ⊥
  ending clearing answers.Lost is = is
  ending clearing (answers.TimedOut waited) is = is
  ending Looking (answers.Tables tables) is = sighted tables is
  ending (Drops left) (answers.Ok count) is = is
  ending clearing answer is = is
insp_drains cutover (Finishing clearing) answer is = absurd (finished clearing answer is) where
  cleared : (left : Leftovers) → IsDraining (finishing left) → ⊥
  cleared left is = by (is_clear left) is where
    by : (b : Bool) → IsDraining (cond b Finished (Finishing (Drops left))) → ⊥
    by true is = is
    by false is = is

  finished : (clearing : Clearing) (answer : Answer) → IsDraining (finishing_after cutover clearing answer) → ⊥
  finished clearing answers.Lost is = is
  finished clearing (answers.TimedOut waited) is = is
  finished Looking (answers.Tables tables) is = cleared (left_at_end cutover tables) is
  finished (Drops left) (answers.Ok count) is = cleared (without_first left) is
  finished clearing answer is = is
insp_drains cutover Resting answer is = absurd is
insp_drains cutover Finished answer is = absurd is
