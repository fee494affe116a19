-- Why an attempt fails: by a loss, a time-out, a refused sentry, or the drain's last turn.
use Rattle.std.proofs.Common.{◌≡◌, ◌⊎◌, ℕ, ◌+◌, ◌<◌, ◌≤◌, ◌==◌, Bool, true, false, cond, not, ◌||◌, Option, refl, ap, ◌∙◌, inl, inr, Some, None}
use Rattle.std.specs.Prelude.{nat_le}
use Rattle.std.proofs.lemmas.Bool.{false≢true, leb-true, leb-false, or_left}
use Rattle.base_script.specs.declared.actor.Actor.{Actor}
use Rattle.base_script.specs.declared.actor.Actor.TheVariants.{Op, Insp, Copy, Apply, Lock, Ren, Client}
use Rattle.base_values.specs.declared.gho_schema.schema.Schema.{Schema}
use Rattle.server_model.specs.declared.answer.Answer.{Answer}
use Rattle.server_model.specs.declared.answer.Answer.TheVariants as answers
use Rattle.server_model.specs.declared.request.Request.TheVariants as requests
use Rattle.tool_program.specs.declared.cutover_core.cutover.Clearing.{Clearing}
use Rattle.tool_program.specs.declared.cutover_core.cutover.Clearing.TheVariants.{Looking, Drops}
use Rattle.tool_program.specs.declared.cutover_core.cutover.CutOver.{CutOver}
use Rattle.tool_program.specs.declared.cutover_core.cutover.Leftovers.{Leftovers}
use Rattle.tool_program.specs.declared.cutover_core.cutover.Phase.{Phase}
use Rattle.tool_program.specs.declared.cutover_core.cutover.Phase.TheVariants.{Resting, Attempting, Ending, Finishing, Finished}
use Rattle.tool_program.specs.declared.cutover_core.cutover.Role.TheVariants.{Inspector, Locker, Renamer}
use Rattle.tool_program.specs.declared.cutover_core.cutover.Role.{Role}
use Rattle.tool_program.specs.declared.cutover_core.cutover.Stage.{Stage}
use Rattle.tool_program.specs.declared.cutover_core.cutover.Stage.TheVariants.{Guarding, Locking, Hinting, Draining, Drained, Showing, Dropping, Unlocking, Exchanging, ReadingCounter, SettingCounter}
use Rattle.base_values.specs.ToolNames.{ghost_name}
use Rattle.tool_program.specs.CutoverCore.Attempts.{is_clear, without_first, has_name, has_sentry}
use Rattle.tool_program.specs.CutoverCore.CutOvers as cutovers
use Rattle.tool_program.specs.CutoverCore.CutOvers.{failed, is_bad, locker_stage, begun, locker_phase, is_resting, finishing, seen, inspector_stage, ending_after, finishing_after, inspector_phase, waits_phase, renamer_phase, may_succeed, drained, ended, is_ending, drain_of, with_drain, drains_to}
use Rattle.tool_program.specs.Failures.{is_tried}
use Rattle.tool_program.specs.Tools.{is_failure}
use Rattle.tool_program.specs.declared.cutover_core.cutover.Drain.TheVariants.{Turns, Passed}
use Rattle.tool_program.specs.declared.cutover_core.cutover.Drain.{Drain}
use Rattle.proof_journals.specs.Machine.Standings.{answers_to}

-- an attempt that fails stood, or was to begin
failing_at : (before after : Phase) → is_failure before after ≡ true → (may_succeed before || is_resting before) ≡ true
failing_at Resting after fails = refl
failing_at (Attempting stage) after fails = refl
failing_at (Ending clearing) after fails = absurd (false≢true fails)
failing_at (Finishing clearing) after fails = absurd (false≢true fails)
failing_at Finished after fails = absurd (false≢true fails)

never_here : (phase : Phase) → is_failure phase phase ≡ true → ⊥
never_here Resting fails = false≢true fails
never_here (Attempting stage) fails = false≢true fails
never_here (Ending clearing) fails = false≢true fails
never_here (Finishing clearing) fails = false≢true fails
never_here Finished fails = false≢true fails

locker_fails : (phase : Phase) (answer : Answer) → is_failure phase (locker_phase phase answer) ≡ true → (is_bad answer ≡ true) ⊎ ((phase ≡ Resting) × (is_ending (begun answer) ≡ true))
locker_fails Resting answer fails = inr (refl, fails)
locker_fails (Attempting stage) answer fails = inl (by (is_bad answer) refl fails) where
  by : (b : Bool) → is_bad answer ≡ b → is_failure (Attempting stage) (cond b (Ending Looking) (Attempting (locker_stage stage answer))) ≡ true → is_bad answer ≡ true
  by true bad fails = bad
  by false good fails = absurd (false≢true fails)
locker_fails (Ending clearing) answer fails = absurd (false≢true fails)
locker_fails (Finishing clearing) answer fails = absurd (false≢true fails)
locker_fails Finished answer fails = absurd (false≢true fails)

inspector_fails : (cutover : CutOver) (phase : Phase) (answer : Answer) → is_failure phase (inspector_phase cutover phase answer) ≡ true → is_bad answer ≡ true
inspector_fails cutover Resting answer fails = absurd (false≢true fails)
inspector_fails cutover (Attempting stage) answer fails = by (is_bad answer) refl fails where
  by : (b : Bool) → is_bad answer ≡ b → is_failure (Attempting stage) (cond b (Ending Looking) (Attempting (inspector_stage cutover.has_counter stage answer))) ≡ true → is_bad answer ≡ true
  by true bad fails = bad
  by false good fails = absurd (false≢true fails)
inspector_fails cutover (Ending clearing) answer fails = absurd (false≢true fails)
inspector_fails cutover (Finishing clearing) answer fails = absurd (false≢true fails)
inspector_fails cutover Finished answer fails = absurd (false≢true fails)

renamer_fails : (phase : Phase) (answer : Answer) → is_failure phase (renamer_phase phase answer) ≡ true → is_bad answer ≡ true
renamer_fails phase answers.Lost fails = refl
renamer_fails phase (answers.TimedOut waited) fails = refl
renamer_fails phase (answers.Ok count) fails = absurd (done phase fails) where
  done : (phase : Phase) → is_failure phase (Finishing Looking) ≡ true → ⊥
  done Resting fails = false≢true fails
  done (Attempting stage) fails = false≢true fails
  done (Ending clearing) fails = false≢true fails
  done (Finishing clearing) fails = false≢true fails
  done Finished fails = false≢true fails
renamer_fails phase (answers.Waits by) fails = absurd (waiting phase fails) where
  waiting : (phase : Phase) → is_failure phase (waits_phase phase) ≡ true → ⊥
  waiting Resting fails = false≢true fails
  waiting (Attempting Drained) fails = false≢true fails
  waiting (Attempting stage) fails = false≢true fails
  waiting (Ending clearing) fails = false≢true fails
  waiting (Finishing clearing) fails = false≢true fails
  waiting Finished fails = false≢true fails
renamer_fails phase answer fails = absurd (never_here phase fails)

-- an answer of one of the three
pub took_fails : (role : Role) (cutover : CutOver) (answer : Answer) → is_failure cutover.phase (cutovers.took role cutover answer).phase ≡ true → (is_bad answer ≡ true) ⊎ ((role ≡ Locker) × (cutover.phase ≡ Resting) × (is_ending (begun answer) ≡ true))
unfolding cutovers.took
took_fails Inspector cutover answer fails = inl (inspector_fails cutover cutover.phase answer fails)
took_fails Locker cutover answer fails = by (locker_fails cutover.phase answer fails) where
  by : (is_bad answer ≡ true) ⊎ ((cutover.phase ≡ Resting) × (is_ending (begun answer) ≡ true)) → (is_bad answer ≡ true) ⊎ ((Locker ≡ Locker) × (cutover.phase ≡ Resting) × (is_ending (begun answer) ≡ true))
  by (inl bad) = inl bad
  by (inr rest) = inr (refl, rest.0, rest.1)
took_fails Renamer cutover answer fails = inl (renamer_fails cutover.phase answer fails)

-- WHO TRIES

-- an attempt that may succeed is tried by whoever it is
going_tried : (actor : Actor) (phase : Phase) → may_succeed phase ≡ true → is_tried actor phase ≡ true
going_tried Lock phase going = or_left (may_succeed phase) (is_resting phase) going
going_tried Op phase going = going
going_tried Insp phase going = going
going_tried Copy phase going = going
going_tried Apply phase going = going
going_tried Ren phase going = going
going_tried (Client c) phase going = going

-- while none stands the answers of the inspector and of the renamer end none
inspector_going : (cutover : CutOver) (phase : Phase) (answer : Answer) → is_failure phase (inspector_phase cutover phase answer) ≡ true → may_succeed phase ≡ true
inspector_going cutover Resting answer fails = absurd (false≢true fails)
inspector_going cutover (Attempting stage) answer fails = refl
inspector_going cutover (Ending clearing) answer fails = absurd (false≢true fails)
inspector_going cutover (Finishing clearing) answer fails = absurd (false≢true fails)
inspector_going cutover Finished answer fails = absurd (false≢true fails)

renamer_going : (phase : Phase) (answer : Answer) → is_failure phase (renamer_phase phase answer) ≡ true → may_succeed phase ≡ true
renamer_going Resting (answers.Ok count) fails = absurd (false≢true fails)
renamer_going Resting (answers.Waits by) fails = absurd (false≢true fails)
renamer_going Resting answers.Lost fails = absurd (false≢true fails)
renamer_going Resting (answers.TimedOut waited) fails = absurd (false≢true fails)
renamer_going Resting answer fails = absurd (false≢true fails)
renamer_going (Attempting stage) answer fails = refl
renamer_going (Ending clearing) answer fails = absurd (false≢true fails)
renamer_going (Finishing clearing) answer fails = absurd (false≢true fails)
renamer_going Finished answer fails = absurd (false≢true fails)

-- *Who fails an attempt tried it*
pub took_tried : (role : Role) (actor : Actor) (cutover : CutOver) (answer : Answer) → (role ≡ Locker → actor ≡ Lock) → is_failure cutover.phase (cutovers.took role cutover answer).phase ≡ true → is_tried actor cutover.phase ≡ true
unfolding cutovers.took
took_tried Inspector actor cutover answer locks fails = going_tried actor cutover.phase (inspector_going cutover cutover.phase answer fails)
took_tried Locker actor cutover answer locks fails = ap (λ (a : Actor). is_tried a cutover.phase) (locks refl) ∙ failing_at cutover.phase (cutovers.took Locker cutover answer).phase fails
took_tried Renamer actor cutover answer locks fails = going_tried actor cutover.phase (renamer_going cutover.phase answer fails)

-- what is refused
pub record IsRefusal (answer : Answer) : Type 0 where
  pub number : ℕ
  pub column : Option ℕ
  pub is : answer ≡ answers.Refused number column

pub sentry_fails : (schema : Schema) (answer : Answer) → answers_to (requests.Create schema) answer ≡ true → is_ending (begun answer) ≡ true → (is_bad answer ≡ true) ⊎ IsRefusal answer
sentry_fails schema answers.Lost fits ends = inl refl
sentry_fails schema (answers.TimedOut waited) fits ends = inl refl
sentry_fails schema (answers.Refused number column) fits ends = inr (record { number = number; column = column; is = refl })
sentry_fails schema (answers.Ok count) fits ends = absurd (false≢true ends)
sentry_fails schema (answers.Waits by) fits ends = absurd (false≢true ends)
sentry_fails schema answer fits ends = absurd cc

-- THE DRAIN

-- an attempt that drains has turns left, where it had one at first
abbrev pub DrainLeft : ℕ → Option Drain → Type 0
DrainLeft limit (Some (Turns turns)) = 0 < limit → turns < limit
DrainLeft limit drain = Unit {0}

abbrev pub TurnsLeft : ℕ → Phase → Type 0
TurnsLeft limit (Attempting stage) = DrainLeft limit (drain_of stage)
TurnsLeft limit phase = Unit {0}

pub record IsLastDrain (cutover : CutOver) (hint : ℕ) : Type 0 where
  pub turns : ℕ
  pub stage : Stage
  pub phase : cutover.phase ≡ Attempting stage
  pub drain : drain_of stage ≡ Some (Turns turns)
  pub last : cutover.drain_limit ≤ turns + 1
  pub following : (hint == cutover.attempts) ≡ false

pub drain_fails : (cutover : CutOver) (hint : ℕ) → is_failure cutover.phase (drained cutover hint cutover.phase) ≡ true → IsLastDrain cutover hint
drain_fails cutover hint fails = by cutover.phase refl fails where
  draining : (stage : Stage) (turns : ℕ) → cutover.phase ≡ Attempting stage → drain_of stage ≡ Some (Turns turns) → (a : Bool) → (hint == cutover.attempts) ≡ a → (b : Bool) → nat_le cutover.drain_limit (turns + 1) ≡ b
      → is_failure (Attempting stage) (cond a (Attempting (with_drain stage Passed)) (cond b (Ending Looking) (Attempting (with_drain stage (Turns (turns + 1)))))) ≡ true → IsLastDrain cutover hint
  draining stage turns at drain true passed b last fails = absurd (false≢true fails)
  draining stage turns at drain false following true last fails = record { turns = turns; stage = stage; phase = at; drain = drain; last = leb-true cutover.drain_limit (turns + 1) last; following = following }
  draining stage turns at drain false following false more fails = absurd (false≢true fails)

  staged : (stage : Stage) → cutover.phase ≡ Attempting stage → (drain : Option Drain) → drain_of stage ≡ drain → is_failure (Attempting stage) (drains_to cutover hint stage drain) ≡ true → IsLastDrain cutover hint
  staged stage at (Some (Turns turns)) is fails = draining stage turns at is (hint == cutover.attempts) refl (nat_le cutover.drain_limit (turns + 1)) refl fails
  staged stage at (Some Passed) is fails = absurd (false≢true fails)
  staged stage at None is fails = absurd (false≢true fails)

  by : (phase : Phase) → cutover.phase ≡ phase → is_failure phase (drained cutover hint phase) ≡ true → IsLastDrain cutover hint
  by (Attempting stage) at fails = staged stage at (drain_of stage) refl fails
  by Resting at fails = absurd (false≢true fails)
  by (Ending clearing) at fails = absurd (false≢true fails)
  by (Finishing clearing) at fails = absurd (false≢true fails)
  by Finished at fails = absurd (false≢true fails)

module _ (limit : ℕ) where
  abbrev Left : Phase → Type 0
  Left = TurnsLeft limit

  finishing_left : (left : Leftovers) → Left (finishing left)
  finishing_left left = by (is_clear left) where
    by : (b : Bool) → Left (cond b Finished (Finishing (Drops left)))
    by true = tt
    by false = tt

  locker_left : (phase : Phase) (answer : Answer) → Left phase → Left (locker_phase phase answer)
  locker_left Resting answer is = rest answer where
    rest : (answer : Answer) → Left (begun answer)
    rest (answers.Ok count) = tt
    rest (answers.Waits by) = tt
    rest answer = tt
  locker_left (Attempting stage) answer is = by (is_bad answer) where
    staged : (stage : Stage) (answer : Answer) → Left (Attempting stage) → Left (Attempting (locker_stage stage answer))
    staged Guarding (answers.Ok count) is = tt
    staged Locking (answers.Ok count) is = tt
    staged Dropping (answers.Ok count) is = tt
    staged Unlocking (answers.Ok count) is = tt
    staged stage answer is = is

    by : (b : Bool) → Left (cond b (Ending Looking) (Attempting (locker_stage stage answer)))
    by true = tt
    by false = staged stage answer is
  locker_left (Ending clearing) answer is = tt
  locker_left (Finishing clearing) answer is = tt
  locker_left Finished answer is = tt

  inspector_left : (cutover : CutOver) (phase : Phase) (answer : Answer) → Left phase → Left (inspector_phase cutover phase answer)
  inspector_left cutover Resting answer is = tt
  inspector_left cutover (Attempting stage) answer is = by (is_bad answer) where
    shown : (b : Bool) → Left (Attempting (cond b Dropping Showing))
    shown true = tt
    shown false = tt

    hinted : (counter : Bool) → Left (Attempting (cutovers.hinted counter))
    hinted true = λ some. some
    hinted false = λ some. some

    staged : (stage : Stage) (answer : Answer) → Left (Attempting stage) → Left (Attempting (inspector_stage cutover.has_counter stage answer))
    staged Hinting (answers.Ok count) is = hinted cutover.has_counter
    staged (ReadingCounter drain) (answers.At number) is = is
    staged (SettingCounter number (Turns turns)) (answers.Ok count) is = is
    staged (SettingCounter number Passed) (answers.Ok count) is = tt
    staged Showing (answers.Waiting waiters) is = shown (cutovers.shows_wait waiters)
    staged stage answer is = is

    by : (b : Bool) → Left (cond b (Ending Looking) (Attempting (inspector_stage cutover.has_counter stage answer)))
    by true = tt
    by false = staged stage answer is
  inspector_left cutover (Ending clearing) answer is = by clearing answer where
    looks : (a b : Bool) (tables : Leftovers) → Left (cond a (finishing tables) (cond b (Ending (Drops cutovers.sentry_alone)) Resting))
    looks true b tables = finishing_left tables
    looks false true tables = tt
    looks false false tables = tt

    by : (clearing : Clearing) (answer : Answer) → Left (ending_after cutover clearing answer)
    by clearing answers.Lost = tt
    by clearing (answers.TimedOut waited) = tt
    by Looking (answers.Tables tables) = looks (not (has_name (ghost_name cutover.table) tables)) (has_sentry cutover.table tables) (cutovers.left_at_end cutover tables)
    by (Drops left) (answers.Ok count) = tt
    by Looking answer = tt
    by (Drops left) answer = tt
  inspector_left cutover (Finishing clearing) answer is = by clearing answer where
    by : (clearing : Clearing) (answer : Answer) → Left (finishing_after cutover clearing answer)
    by clearing answers.Lost = tt
    by clearing (answers.TimedOut waited) = tt
    by Looking (answers.Tables tables) = finishing_left (cutovers.left_at_end cutover tables)
    by (Drops left) (answers.Ok count) = finishing_left (without_first left)
    by Looking answer = tt
    by (Drops left) answer = tt
  inspector_left cutover Finished answer is = tt

  failed_left : (phase : Phase) → Left (failed phase)
  failed_left (Attempting stage) = tt
  failed_left Resting = tt
  failed_left (Ending clearing) = tt
  failed_left (Finishing clearing) = tt
  failed_left Finished = tt

  renamer_left : (phase : Phase) (answer : Answer) → Left phase → Left (renamer_phase phase answer)
  renamer_left phase (answers.Ok count) is = tt
  renamer_left phase (answers.Waits by) is = waiting phase is where
    waiting : (phase : Phase) → Left phase → Left (waits_phase phase)
    waiting (Attempting Drained) is = tt
    waiting (Attempting stage) is = is
    waiting Resting is = tt
    waiting (Ending clearing) is = tt
    waiting (Finishing clearing) is = tt
    waiting Finished is = tt
  renamer_left phase answers.Lost is = failed_left phase
  renamer_left phase (answers.TimedOut waited) is = failed_left phase
  renamer_left phase answer is = is

  pub took_left : (role : Role) (cutover : CutOver) (answer : Answer) → Left cutover.phase → Left (cutovers.took role cutover answer).phase
  unfolding cutovers.took
  took_left Inspector cutover answer is = inspector_left cutover cutover.phase answer is
  took_left Locker cutover answer is = locker_left cutover.phase answer is
  took_left Renamer cutover answer is = renamer_left cutover.phase answer is

  pub ended_left : (phase : Phase) → Left (ended phase)
  ended_left (Attempting Unlocking) = tt
  ended_left (Attempting Exchanging) = tt
  ended_left (Attempting stage) = tt
  ended_left Resting = tt
  ended_left (Ending clearing) = tt
  ended_left (Finishing clearing) = tt
  ended_left Finished = tt

pub drained_left : (cutover : CutOver) (hint : ℕ) → TurnsLeft cutover.drain_limit cutover.phase → TurnsLeft cutover.drain_limit (drained cutover hint cutover.phase)
drained_left cutover hint is = by cutover.phase is where
  goes_on : (stage : Stage) (drain : Drain) → DrainLeft cutover.drain_limit (Some drain) → TurnsLeft cutover.drain_limit (Attempting (with_drain stage drain))
  goes_on (ReadingCounter before) drain left = left
  goes_on (SettingCounter number before) drain left = left
  goes_on (Draining before) (Turns turns) left = left
  goes_on (Draining before) Passed left = tt
  goes_on Guarding drain left = tt
  goes_on Locking drain left = tt
  goes_on Hinting drain left = tt
  goes_on Drained drain left = tt
  goes_on Showing drain left = tt
  goes_on Dropping drain left = tt
  goes_on Unlocking drain left = tt
  goes_on Exchanging drain left = tt

  draining : (stage : Stage) (turns : ℕ) (a b : Bool) → nat_le cutover.drain_limit (turns + 1) ≡ b → TurnsLeft cutover.drain_limit (cond a (Attempting (with_drain stage Passed)) (cond b (Ending Looking) (Attempting (with_drain stage (Turns (turns + 1))))))
  draining stage turns true b last = goes_on stage Passed tt
  draining stage turns false true last = tt
  draining stage turns false false more = goes_on stage (Turns (turns + 1)) (λ some. leb-false cutover.drain_limit (turns + 1) more)

  staged : (stage : Stage) (drain : Option Drain) → drain_of stage ≡ drain → TurnsLeft cutover.drain_limit (Attempting stage) → TurnsLeft cutover.drain_limit (drains_to cutover hint stage drain)
  staged stage (Some (Turns turns)) same is = draining stage turns (hint == cutover.attempts) (nat_le cutover.drain_limit (turns + 1)) refl
  staged stage (Some Passed) same is = is
  staged stage None same is = is

  by : (phase : Phase) → TurnsLeft cutover.drain_limit phase → TurnsLeft cutover.drain_limit (drained cutover hint phase)
  by (Attempting stage) is = staged stage (drain_of stage) refl is
  by Resting is = tt
  by (Ending clearing) is = tt
  by (Finishing clearing) is = tt
  by Finished is = tt
