-- While an attempt is drained the last hint row that is logged is its own, so that something is left to be read.
use Rattle.std.proofs.Common.{◌≡◌, ◌⊎◌, ℕ, ◌+◌, ◌<◌, Bool, true, false, cond, not, ◌&&◌, ◌||◌, List, [], ◌∷◌, ◌++◌, take, Some, refl, sym, ap, ◌∙◌, subst, inl, inr, arith, append_assoc}
use Rattle.std.specs.Prelude.{codes, pos, nat_lt, count_by}
use Rattle.std.specs.Fmt.{signed_decimal}
use Rattle.std.specs.Str.{bytes_eq}
use Rattle.std.proofs.lemmas.Bool.{true≢false, false≢true}
use Rattle.std.proofs.lemmas.Bool.Decides.{nat_tests}
use Rattle.std.proofs.lemmas.List.{append-nil}
use Rattle.std.proofs.lemmas.List.Sums.{fold-append, sum_by-cons}
use Rattle.base_script.specs.declared.actor.Actor.{Actor}
use Rattle.base_script.specs.declared.actor.Actor.TheVariants.{Op, Insp, Copy, Apply, Lock, Ren, Client}
use Rattle.base_script.specs.declared.operator.OperatorWord.{OperatorWord}
use Rattle.base_script.specs.declared.operator.OperatorWord.TheVariants.{ChunkSize}
use Rattle.base_values.specs.declared.event.RowEvent.{RowEvent}
use Rattle.base_values.specs.declared.event.Change.TheVariants.{Write}
use Rattle.server_model.specs.declared.answer.Answer.{Answer}
use Rattle.server_model.specs.declared.answer.Answer.TheVariants as answers
use Rattle.server_model.specs.declared.entry.Asked.{Asked}
use Rattle.server_model.specs.declared.entry.Asked.TheVariants.{Call, Poll, Command, Cut}
use Rattle.server_model.specs.declared.entry.Entry.{Entry}
use Rattle.server_model.specs.Entries.{same_actor, is_cut}
use Rattle.server_model.specs.States.{State, is_of}
use Rattle.plan_data.specs.PlanData.{PlanData}
use Rattle.base_values.specs.ToolNames.{log_name, ghost_name}
use Rattle.tool_changelog.specs.Hints.{hint_row, hint_if, hint_of, or_last, hint_in, last_hint}
use Rattle.tool_program.specs.JournalWords.Journals.{state_at}
use Rattle.tool_program.specs.declared.cutover_core.cutover.Clearing.TheVariants.{Looking, Drops}
use Rattle.tool_program.specs.declared.cutover_core.cutover.CutOver.{CutOver}
use Rattle.tool_program.specs.declared.cutover_core.cutover.Leftovers.{Leftovers}
use Rattle.server_model.specs.declared.listing.TableName.{TableName}
use Rattle.tool_program.specs.declared.cutover_core.cutover.Phase.{Phase}
use Rattle.tool_program.specs.declared.cutover_core.cutover.Phase.TheVariants.{Resting, Attempting, Ending, Finishing, Finished}
use Rattle.tool_program.specs.declared.cutover_core.cutover.Role.TheVariants.{Inspector, Locker, Renamer}
use Rattle.tool_program.specs.declared.cutover_core.cutover.Stage.{Stage}
use Rattle.tool_program.specs.declared.cutover_core.cutover.Stage.TheVariants.{Guarding, Locking, Hinting, ReadingCounter, SettingCounter, Draining, Drained, Showing, Dropping, Unlocking, Exchanging}
use Rattle.tool_program.specs.declared.cutover_core.cutover.Drain.TheVariants.{Turns, Passed}
use Rattle.tool_program.specs.CutoverCore.Attempts.{has_name, has_sentry, is_clear, without_first}
use Rattle.tool_program.specs.CutoverCore.CutOvers as cutovers
use Rattle.tool_program.specs.CutoverCore.CutOvers.{is_bad, begun, locker_phase, locker_stage, attempts_after, inspector_phase, inspector_stage, finishing, seen, renamer_phase, waits_phase, failed, applier_turn, reverted}
use Rattle.tool_program.specs.Programs.{given, IsGiven}
use Rattle.tool_program.specs.Setups.{Setup, Listing, Clearing, MakingLog, MakingGhost, Marking, Reaching, Ready, setup_after}
use Rattle.tool_program.specs.Tools.{Work, ToolPhase, SettingUp, Migrating, Tool, stopped, tool_phase_of, moment}
use Rattle.proof_journals.specs.Plans.{IsSerialPlan}
use Rattle.proof_journals.proofs.Actors.{same_actor_is}
use Rattle.server_model.proofs.LockedRows.Tests.{same_bytes}
use Rattle.proof_journals.specs.Ghost.Invariant.{NotOf}
use Rattle.proof_journals.specs.ServerTurns.Others.{EntriesAreTurns}
use Rattle.proof_journals.specs.Run.Kept.{IsKept}
use Rattle.proof_journals.specs.Machine.Runnable.{IsRunnable}
use Rattle.proof_journals.specs.Machine.Standings.{standing_of}
use Rattle.proof_journals.specs.Sentry.Sentries.{IsDraining, WritesHint, scene, InspectorWrites}
use Rattle.proof_journals.specs.Sentry.TurnResults.{ToolPhaseTurn, IsTurned, last_session, WorkTurn, AskedTurn, InspectorSays}
use Rattle.proof_migration.proofs.ToolPhase.ToolPhaseTurns.{Kept, UnfitKeeps, CopyKeeps, ApplyKeeps, SetupKeeps, CutKeeps, AnswerKeeps, ResizeKeeps, turn_kept, gives_asked}
use Rattle.proof_migration.specs.ToolPhase.Unaltered.{IsUnaltered}
use Rattle.proof_migration.proofs.Program.InspectorTurns.Inspectors.{inspectors_turned}
use Rattle.proof_migration.proofs.Program.Turns.Follows.{kept_front, kept_run}
use Rattle.proof_migration.proofs.ToolPhase.Unaltered.Away.{unaltered_front}
use Rattle.proof_migration.specs.Program.Hints.{KnowsHints, IsBegun, is_unhinted}
use Rattle.proof_migration.proofs.Program.Hints.Asked.{others_left, lost_left, insp_left}
use Rattle.proof_migration.proofs.Program.Hints.Known.{hints_go, hints_known}
use Rattle.proof_migration.proofs.Program.Hints.Logging.{LogsAway, LogsHint, LogsNoHint, LogsNote, away_logs, note_logs}
use Rattle.proof_migration.proofs.Program.Hints.Phases.{may_hint}
use Rattle.proof_migration.proofs.Program.Hints.Writes.{none_last}
use Rattle.proof_migration.proofs.Program.Hints.States.{ToolPhaseHints, HintsGo}
use Rattle.proof_migration.proofs.ToolPhase.Owners.{commands_operator}
use Rattle.proof_journals.proofs.Run.Taking.{server_is}

-- LAST HINTS

pub last_away : (t : List ℕ) (last : ℕ) (events : List RowEvent) → NotOf (log_name t) events → last_hint t last events ≡ last
last_away t last [] away = refl
last_away t last (event ∷ events) away =
    ap (λ (b : Bool). last_hint t (cond b (hint_in last event.change) last) events) away.0 ∙ last_away t last events away.1

pub last_both : (t : List ℕ) (last : ℕ) (some others : List RowEvent) → last_hint t last (some ++ others) ≡ last_hint t (last_hint t last some) others
last_both t last some others = fold-append (λ (old : ℕ) (event : RowEvent). cond (bytes_eq event.table (log_name t)) (hint_in old event.change) old) last some others

hint_is : (attempt : ℕ) → 0 < attempt → hint_of (hint_row attempt) ≡ Some attempt
unfolding hint_row
hint_is attempt some = by (nat_lt 0 attempt) above (bytes_eq (codes "cut-over") (codes "cut-over")) (same_bytes (codes "cut-over")) (bytes_eq (signed_decimal (pos attempt)) (signed_decimal (pos attempt))) (same_bytes (signed_decimal (pos attempt))) where
  above : nat_lt 0 attempt ≡ true
  above = grind (arith, nat_tests, some)

  by : (a : Bool) → a ≡ true → (b : Bool) → b ≡ true → (c : Bool) → c ≡ true → hint_if (a && b && c) attempt ≡ Some attempt
  by true is true also true too = refl
  by false is b also c too = absurd (false≢true is)
  by true is false also c too = absurd (false≢true also)
  by true is true also false too = absurd (false≢true too)

reads_hint : (t : List ℕ) (last attempt : ℕ) → 0 < attempt → last_hint t last (record { table = log_name t; change = Write (hint_row attempt) } ∷ []) ≡ attempt
reads_hint t last attempt some = ap (λ (b : Bool). cond b (or_last last (hint_of (hint_row attempt))) last) (same_bytes (log_name t)) ∙ ap (or_last last) (hint_is attempt some)

-- where none of these tables is left to be read, no hint row is
pub unread_away : (t : List ℕ) (events : List RowEvent) → count_by (is_of (t ∷ log_name t ∷ [])) events ≡ 0 → NotOf (log_name t) events
unread_away t [] none = tt
unread_away t (event ∷ events) none = (away, unread_away t events rest) where
  sum : cond (is_of (t ∷ log_name t ∷ []) event) 1 0 + count_by (is_of (t ∷ log_name t ∷ [])) events ≡ 0
  sum = sym (sum_by-cons (λ (x : RowEvent). cond (is_of (t ∷ log_name t ∷ []) x) 1 0) event events) ∙ none

  rest : count_by (is_of (t ∷ log_name t ∷ [])) events ≡ 0
  rest = omega (arith, sum)

  away : bytes_eq event.table (log_name t) ≡ false
  away = by (bytes_eq event.table t) (bytes_eq event.table (log_name t)) refl sum where
    by : (a b : Bool) → bytes_eq event.table (log_name t) ≡ b → cond (a || (b || false)) 1 0 + count_by (is_of (t ∷ log_name t ∷ [])) events ≡ 0 → b ≡ false
    by a false is none = refl
    by true true is none = absurd (omega (arith, none))
    by false true is none = absurd (omega (arith, none))

-- PHASES

-- who comes to drain an attempt
abbrev pub From : Phase → Phase → Type 0
From phase next = IsDraining next → IsDraining phase

ended_from : (phase : Phase) → From phase (cutovers.ended phase)
ended_from Resting = λ drains. drains
ended_from (Attempting Guarding) = λ drains. absurd drains
ended_from (Attempting Locking) = λ drains. absurd drains
ended_from (Attempting Hinting) = λ drains. absurd drains
ended_from (Attempting (Draining turns)) = λ drains. absurd drains
ended_from (Attempting (ReadingCounter (Turns turns))) = λ drains. absurd drains
ended_from (Attempting (SettingCounter number (Turns turns))) = λ drains. absurd drains
ended_from (Attempting Drained) = λ drains. absurd drains
ended_from (Attempting (ReadingCounter Passed)) = λ drains. absurd drains
ended_from (Attempting (SettingCounter number Passed)) = λ drains. absurd drains
ended_from (Attempting Showing) = λ drains. absurd drains
ended_from (Attempting Dropping) = λ drains. absurd drains
ended_from (Attempting Unlocking) = λ drains. drains
ended_from (Attempting Exchanging) = λ drains. drains
ended_from (Ending clearing) = λ drains. drains
ended_from (Finishing clearing) = λ drains. drains
ended_from Finished = λ drains. drains

drained_from : (cutover : CutOver) (hint : ℕ) (phase : Phase) → From phase (cutovers.drained cutover hint phase)
drained_from cutover hint (Attempting (Draining turns)) = λ drains. tt
drained_from cutover hint (Attempting (ReadingCounter (Turns turns))) = λ drains. tt
drained_from cutover hint (Attempting (SettingCounter number (Turns turns))) = λ drains. tt
drained_from cutover hint (Attempting (ReadingCounter Passed)) = λ drains. drains
drained_from cutover hint (Attempting (SettingCounter number Passed)) = λ drains. drains
drained_from cutover hint (Attempting Guarding) = λ drains. drains
drained_from cutover hint (Attempting Locking) = λ drains. drains
drained_from cutover hint (Attempting Hinting) = λ drains. drains
drained_from cutover hint (Attempting Drained) = λ drains. drains
drained_from cutover hint (Attempting Showing) = λ drains. drains
drained_from cutover hint (Attempting Dropping) = λ drains. drains
drained_from cutover hint (Attempting Unlocking) = λ drains. drains
drained_from cutover hint (Attempting Exchanging) = λ drains. drains
drained_from cutover hint Resting = λ drains. drains
drained_from cutover hint (Ending clearing) = λ drains. drains
drained_from cutover hint (Finishing clearing) = λ drains. drains
drained_from cutover hint Finished = λ drains. drains

failed_from : (phase : Phase) → From phase (failed phase)
failed_from (Attempting stage) = λ drains. absurd drains
failed_from Resting = λ drains. drains
failed_from (Ending clearing) = λ drains. drains
failed_from (Finishing clearing) = λ drains. drains
failed_from Finished = λ drains. drains

waits_from : (phase : Phase) → From phase (waits_phase phase)
waits_from (Attempting Drained) = λ drains. drains
waits_from (Attempting Guarding) = λ drains. drains
waits_from (Attempting Locking) = λ drains. drains
waits_from (Attempting Hinting) = λ drains. drains
waits_from (Attempting (Draining turns)) = λ drains. drains
waits_from (Attempting (ReadingCounter (Turns turns))) = λ drains. drains
waits_from (Attempting (ReadingCounter Passed)) = λ drains. drains
waits_from (Attempting (SettingCounter number (Turns turns))) = λ drains. drains
waits_from (Attempting (SettingCounter number Passed)) = λ drains. drains
waits_from (Attempting Showing) = λ drains. drains
waits_from (Attempting Dropping) = λ drains. drains
waits_from (Attempting Unlocking) = λ drains. drains
waits_from (Attempting Exchanging) = λ drains. drains
waits_from Resting = λ drains. drains
waits_from (Ending clearing) = λ drains. drains
waits_from (Finishing clearing) = λ drains. drains
waits_from Finished = λ drains. drains

renamer_from : (phase : Phase) (answer : Answer) → From phase (renamer_phase phase answer)
renamer_from phase (answers.Ok count) = λ drains. absurd drains
renamer_from phase (answers.Waits by) = waits_from phase
renamer_from phase answers.Lost = failed_from phase
renamer_from phase (answers.TimedOut waited) = failed_from phase
renamer_from phase answer = λ drains. drains

begun_from : (answer : Answer) → IsDraining (begun answer) → ⊥
begun_from (answers.Ok count) drains = drains
begun_from (answers.Waits by) drains = drains
begun_from answer drains = drains

-- the locker's answer leaves the number of attempts, too
locker_from : (phase : Phase) (answer : Answer) (attempts : ℕ) → IsDraining (locker_phase phase answer) → IsDraining phase × (attempts_after phase attempts ≡ attempts)
locker_from Resting answer attempts drains = absurd (begun_from answer drains)
locker_from (Attempting stage) answer attempts drains = (by (is_bad answer) drains, refl) where
  staged : (stage : Stage) (answer : Answer) → IsDraining (Attempting (locker_stage stage answer)) → IsDraining (Attempting stage)
  staged (Draining turns) answer drains = tt
  staged (ReadingCounter (Turns turns)) answer drains = tt
  staged (SettingCounter number (Turns turns)) answer drains = tt
  staged Guarding (answers.Ok count) drains = drains
  staged Guarding answer drains = drains
  staged Locking (answers.Ok count) drains = drains
  staged Locking answer drains = drains
  staged Dropping (answers.Ok count) drains = drains
  staged Dropping answer drains = drains
  staged Unlocking (answers.Ok count) drains = drains
  staged Unlocking answer drains = drains
  staged Hinting answer drains = drains
  staged Drained answer drains = drains
  staged (ReadingCounter Passed) answer drains = drains
  staged (SettingCounter number Passed) answer drains = drains
  staged Showing answer drains = drains
  staged Exchanging answer drains = drains

  by : (b : Bool) → IsDraining (cond b (Ending Looking) (Attempting (locker_stage stage answer))) → IsDraining (Attempting stage)
  by true drains = absurd drains
  by false drains = staged stage answer drains
locker_from (Ending clearing) answer attempts drains = (drains, refl)
locker_from (Finishing clearing) answer attempts drains = (drains, refl)
locker_from Finished answer attempts drains = (drains, refl)

-- the inspector's does from the hint row on
abbrev Hints : Phase → Answer → Type 0
Hints phase answer = (phase ≡ Attempting Hinting) × (count : ℕ) × (answer ≡ answers.Ok count)

finishing_from : (left : Leftovers) → IsDraining (finishing left) → ⊥
finishing_from left drains = by (is_clear left) drains where
  by : (b : Bool) → IsDraining (cond b Finished (Finishing (Drops left))) → ⊥
  by true drains = drains
  by false drains = drains

seen_from : (cutover : CutOver) (tables : List TableName) → IsDraining (seen cutover tables) → ⊥
seen_from cutover tables drains = by (has_name (ghost_name cutover.table) tables) (has_sentry cutover.table tables) drains where
  by : (a b : Bool) → IsDraining (cond (not a) (finishing (cutovers.left_at_end cutover tables)) (cond b (Ending (Drops cutovers.sentry_alone)) Resting)) → ⊥
  by false b drains = finishing_from (cutovers.left_at_end cutover tables) drains
  by true true drains = drains
  by true false drains = drains

inspector_from : (cutover : CutOver) (phase : Phase) (answer : Answer) → IsDraining (inspector_phase cutover phase answer) → Hints phase answer ⊎ IsDraining phase
inspector_from cutover Resting answer drains = inr drains
inspector_from cutover (Attempting stage) answer drains = by (is_bad answer) drains where
  staged : (stage : Stage) (answer : Answer) → IsDraining (Attempting (inspector_stage cutover.has_counter stage answer)) → Hints (Attempting stage) answer ⊎ IsDraining (Attempting stage)
  staged Hinting (answers.Ok count) drains = inl (refl, count, refl)
  staged Hinting answer drains = absurd drains
  staged (ReadingCounter (Turns turns)) answer drains = inr tt
  staged (SettingCounter number (Turns turns)) answer drains = inr tt
  staged (ReadingCounter Passed) (answers.At number) drains = absurd drains
  staged (SettingCounter number Passed) (answers.Ok count) drains = absurd drains
  staged Showing (answers.Waiting waiters) drains = absurd (shown (cutovers.shows_wait waiters) drains) where
    shown : (b : Bool) → IsDraining (Attempting (cond b Dropping Showing)) → ⊥
    shown true drains = drains
    shown false drains = drains
  staged Showing answer drains = absurd drains
  staged (Draining turns) answer drains = inr tt
  staged Guarding answer drains = absurd drains
  staged Locking answer drains = absurd drains
  staged Drained answer drains = absurd drains
  staged (ReadingCounter Passed) answer drains = absurd drains
  staged (SettingCounter number Passed) answer drains = absurd drains
  staged Dropping answer drains = absurd drains
  staged Unlocking answer drains = absurd drains
  staged Exchanging answer drains = absurd drains

  by : (b : Bool) → IsDraining (cond b (Ending Looking) (Attempting (inspector_stage cutover.has_counter stage answer))) → Hints (Attempting stage) answer ⊎ IsDraining (Attempting stage)
  by true drains = absurd drains
  by false drains = staged stage answer drains
inspector_from cutover (Ending Looking) answers.Lost drains = absurd drains
inspector_from cutover (Ending Looking) (answers.TimedOut waited) drains = absurd drains
inspector_from cutover (Ending Looking) (answers.Tables tables) drains = absurd (seen_from cutover tables drains)
inspector_from cutover (Ending Looking) answer drains = absurd drains
inspector_from cutover (Ending (Drops left)) answers.Lost drains = absurd drains
inspector_from cutover (Ending (Drops left)) (answers.TimedOut waited) drains = absurd drains
inspector_from cutover (Ending (Drops left)) (answers.Ok count) drains = absurd drains
inspector_from cutover (Ending (Drops left)) answer drains = absurd drains
inspector_from cutover (Finishing Looking) answers.Lost drains = absurd drains
inspector_from cutover (Finishing Looking) (answers.TimedOut waited) drains = absurd drains
inspector_from cutover (Finishing Looking) (answers.Tables tables) drains = absurd (finishing_from (cutovers.left_at_end cutover tables) drains)
inspector_from cutover (Finishing Looking) answer drains = absurd drains
inspector_from cutover (Finishing (Drops left)) answers.Lost drains = absurd drains
inspector_from cutover (Finishing (Drops left)) (answers.TimedOut waited) drains = absurd drains
inspector_from cutover (Finishing (Drops left)) (answers.Ok count) drains = absurd (finishing_from (without_first left) drains)
inspector_from cutover (Finishing (Drops left)) answer drains = absurd drains
inspector_from cutover Finished answer drains = absurd drains

-- BEHIND EVERY JOURNAL

-- where the attempt is drained its hint row is the last one that is logged
abbrev pub ToolPhaseDrains : List ℕ → List RowEvent → ToolPhase → Type 0
ToolPhaseDrains t log (SettingUp setup tries) = Unit {0}
ToolPhaseDrains t log (Migrating work) = IsDraining work.cutover.phase → last_hint t 0 log ≡ work.cutover.attempts

abbrev pub IsHintedLast : PlanData → List Entry → Type 0
IsHintedLast plan journal = ToolPhaseDrains plan.table (state_at plan journal).log (moment plan journal).tool.tool_phase

module _ (turns : EntriesAreTurns) (plan : PlanData) (runs : IsRunnable plan) (serial : IsSerialPlan plan) (journal : List Entry) (entry : Entry) (kept : IsKept plan (journal ++ entry ∷ [])) (off : IsUnaltered plan (journal ++ entry ∷ [])) (was : ToolPhaseDrains plan.table (state_at plan journal).log (moment plan journal).tool.tool_phase) where
  abbrev t : List ℕ
  t = plan.table

  abbrev more : List Entry
  more = journal ++ entry ∷ []

  abbrev now : State
  now = state_at plan journal

  abbrev then : State
  then = state_at plan more

  abbrev tool : Tool
  tool = record (moment plan journal).tool { turns = (moment plan journal).tool.turns + 1 }

  abbrev Goal : ToolPhase → Type 0
  Goal tool_phase = ToolPhaseDrains t then.log tool_phase

  abbrev New : Kept
  New = λ b tool_phase. Goal tool_phase

  kept_before : IsKept plan journal
  kept_before = kept_front plan journal (entry ∷ []) kept

  off_before : IsUnaltered plan journal
  off_before = unaltered_front plan journal (entry ∷ []) off

  hints : HintsGo plan journal
  hints = hints_go plan journal runs serial kept_before off_before

  -- no hint row is logged
  later : LogsNoHint t now then → (tool_phase : ToolPhase) → ToolPhaseDrains t now.log tool_phase → Goal tool_phase
  later logs (SettingUp setup tries) at = tt
  later logs (Migrating work) at = λ drains. ap (last_hint t 0) logs.log ∙ last_both t 0 now.log logs.events ∙ none_last t (last_hint t 0 now.log) logs.events logs.none ∙ at drains

  was_at : (tool_phase : ToolPhase) → (moment plan journal).tool.tool_phase ≡ tool_phase → ToolPhaseDrains t now.log tool_phase
  was_at tool_phase eq = subst (ToolPhaseDrains t now.log) eq was

  others_at : same_actor entry.actor Insp ≡ false → (tool_phase : ToolPhase) → (moment plan journal).tool.tool_phase ≡ tool_phase → Goal tool_phase
  others_at differ tool_phase eq = later (away_logs t now then (others_left plan runs serial journal entry kept off hints.none differ).logs) tool_phase (was_at tool_phase eq)

  cut_at : entry.asked ≡ Cut → (tool_phase : ToolPhase) → (moment plan journal).tool.tool_phase ≡ tool_phase → Goal tool_phase
  cut_at cut tool_phase eq = later (away_logs t now then (lost_left plan runs serial journal entry kept off hints.none cut).logs) tool_phase (was_at tool_phase eq)

  -- of another phase with the same attempts
  moves : (work : Work) (phase : Phase) (attempts : ℕ) → From work.cutover.phase phase → attempts ≡ work.cutover.attempts → Goal (Migrating work) → IsDraining phase → last_hint t 0 then.log ≡ attempts
  moves work phase attempts from same at drains = at (from drains) ∙ sym same

  back : (b : Bool) (tool_phase : ToolPhase) → New b tool_phase → New true (stopped tool_phase)
  unfolding reverted
  back b (SettingUp setup tries) at = tt
  back b (Migrating work) at = moves work (cutovers.ended work.cutover.phase) work.cutover.attempts (ended_from work.cutover.phase) refl at

  drain : (b : Bool) (work : Work) (tries : List ℕ) → New b (Migrating work) → New b (Migrating (record work { cutover = applier_turn work.applier.hint work.cutover; attempt_tries = tries }))
  unfolding applier_turn
  drain b work tries at = moves work (cutovers.drained work.cutover work.applier.hint work.cutover.phase) work.cutover.attempts (drained_from work.cutover work.applier.hint work.cutover.phase) refl at

  unfit_so : (work : Work) → Goal (Migrating work) → UnfitKeeps New work
  unfit_so work at = record { renamed = λ renamed. at; reverts = back false (Migrating work) at }

  copy_so : (answer : Answer) (work : Work) → Goal (Migrating work) → CopyKeeps New answer tool work
  copy_so answer work at = record { reverting = λ reverting. at; unfit = λ going place number unfit. unfit_so work at; took = λ going fits tries. at }

  apply_so : (answer : Answer) (work : Work) → Goal (Migrating work) → ApplyKeeps New answer tool work
  apply_so answer work at = record { reverting = λ reverting. at; unfit = λ going place number unfit. unfit_so work at; took = λ going fits tries. at }

  setup_so : (answer : Answer) (setup : Setup) (tries : List ℕ) → SetupKeeps plan New answer tool setup tries
  setup_so answer setup tries = record { reverting = λ reverting. tt; again = λ going bad others. tt; goes = λ going good. begins (setup_after plan.table setup answer) } where
    begins : (next : Setup) → Goal (tool_phase_of plan tool.operator.size next tries)
    begins (Ready position range) = λ drains. absurd drains
    begins Listing = tt
    begins (Clearing left) = tt
    begins MakingLog = tt
    begins MakingGhost = tt
    begins Marking = tt
    begins (Reaching position) = tt

  lock_so : (answer : Answer) (work : Work) → Goal (Migrating work) → CutKeeps New answer tool Locker work
  unfolding cutovers.took
  lock_so answer work at tries = λ drains. let from = locker_from work.cutover.phase answer work.cutover.attempts drains in at from.0 ∙ sym from.1

  ren_so : (answer : Answer) (work : Work) → Goal (Migrating work) → CutKeeps New answer tool Renamer work
  unfolding cutovers.took
  ren_so answer work at tries = moves work (renamer_phase work.cutover.phase answer) work.cutover.attempts (renamer_from work.cutover.phase answer) refl at

  insp_lost : (work : Work) → Goal (Migrating work) → CutKeeps New answers.Lost tool Inspector work
  unfolding cutovers.took
  insp_lost work at tries = λ drains. by (inspector_from work.cutover work.cutover.phase answers.Lost drains) where
    by : Hints work.cutover.phase answers.Lost ⊎ IsDraining work.cutover.phase → last_hint t 0 then.log ≡ work.cutover.attempts
    by (inl hints_so) = absurd (let no : answers.Lost ≡ answers.Ok hints_so.1 = hints_so.2 in cc)
    by (inr drains) = at drains

  -- THE HINT ROW

  module _ (work : Work) (eq : (moment plan journal).tool.tool_phase ≡ Migrating work) (same : entry.actor ≡ Insp) (uncut : is_cut entry.asked ≡ false) where
    knows : KnowsHints plan now.log work
    knows = hints_known plan journal work runs serial kept_before off_before eq

    some_attempt : work.cutover.phase ≡ Attempting Hinting → 0 < work.cutover.attempts
    some_attempt hinting = below (subst (λ (p : Phase). IsBegun (is_unhinted p) work.cutover.attempts (last_hint t 0 (take 0 now.log))) hinting (knows.begun 0)) where
      below : last_hint t 0 (take 0 now.log) < work.cutover.attempts → 0 < work.cutover.attempts
      below less = omega (arith, less)

    writes : work.cutover.phase ≡ Attempting Hinting → (count : ℕ) → entry.answer ≡ answers.Ok count → WritesHint t work.cutover.attempts (scene (moment plan journal).server) (scene (moment plan more).server)
    writes hinting count reported = by entry.asked refl uncut (subst (λ (c : ToolPhase). ToolPhaseTurn plan (moment plan journal).server (moment plan more).server (last_session journal Lock) (last_session journal Ren) c ((moment plan journal).tool.turns + 1) entry) eq turned.turn) where
      turned : IsTurned plan journal entry
      turned = inspectors_turned turns hints_known plan journal entry same runs serial kept off

      statement_result : WorkTurn plan (moment plan journal).server (moment plan more).server (last_session journal Lock) (last_session journal Ren) work ((moment plan journal).tool.turns + 1) entry entry.actor (Some entry.answer) → WritesHint t work.cutover.attempts (scene (moment plan journal).server) (scene (moment plan more).server)
      statement_result turn =
          let of_insp : InspectorSays plan (moment plan journal).server (moment plan more).server (last_session journal Lock) (last_session journal Ren) work entry.answer entry.session =
          subst (λ (a : Actor). WorkTurn plan (moment plan journal).server (moment plan more).server (last_session journal Lock) (last_session journal Ren) work ((moment plan journal).tool.turns + 1) entry a (Some entry.answer)) same turn in
          subst (λ (a : Answer). InspectorWrites t work.cutover.attempts (Attempting Hinting) a (scene (moment plan journal).server) (scene (moment plan more).server)) reported
          (subst (λ (p : Phase). InspectorWrites t work.cutover.attempts p entry.answer (scene (moment plan journal).server) (scene (moment plan more).server)) hinting of_insp.writes)

      by : (asked : Asked) → entry.asked ≡ asked → is_cut asked ≡ false → AskedTurn plan (moment plan journal).server (moment plan more).server (last_session journal Lock) (last_session journal Ren) work ((moment plan journal).tool.turns + 1) entry asked
          → WritesHint t work.cutover.attempts (scene (moment plan journal).server) (scene (moment plan more).server)
      by (Call request) asks called turn = statement_result turn
      by Poll asks called turn = statement_result turn
      by Cut asks called turn = absurd (true≢false called)
      by (Command word) asks called turn = absurd (no_insp (gives_asked plan journal entry entry.asked given_so refl not_cut)) where
        given_so : IsGiven plan journal entry entry.asked
        given_so = (kept_run plan journal entry kept).followed.given

        not_cut : entry.asked ≡ Cut → ⊥
        not_cut cut = true≢false (sym (ap is_cut cut) ∙ uncut)

        no_insp : given plan journal entry.actor ≡ Some entry.asked → ⊥
        no_insp gives = no (sym (commands_operator plan journal entry.actor word (gives ∙ ap Some asks)) ∙ same) where
          no : Op ≡ Insp → ⊥
          no both = cc

    servers : ((moment plan journal).server ≡ now) × ((moment plan more).server ≡ then)
    servers = (server_is plan journal, server_is plan more)

    hinted : work.cutover.phase ≡ Attempting Hinting → (count : ℕ) → entry.answer ≡ answers.Ok count → last_hint t 0 then.log ≡ work.cutover.attempts
    hinted hinting count reported =
        let row : WritesHint t work.cutover.attempts (scene (moment plan journal).server) (scene (moment plan more).server) = writes hinting count reported in
        ap (λ (s : State). last_hint t 0 s.log) (sym servers.1) ∙ ap (last_hint t 0) row.log
        ∙ last_both t 0 (moment plan journal).server.log (record { table = log_name t; change = Write (hint_row work.cutover.attempts) } ∷ []) ∙ reads_hint t (last_hint t 0 (moment plan journal).server.log) work.cutover.attempts (some_attempt hinting)

    -- while it drains the inspector logs no hint row
    drains_away : IsDraining work.cutover.phase → LogsNoHint t now then
    drains_away drains = by (insp_left plan runs serial journal entry kept off hints.none work eq (subst (ToolPhaseHints t now.log (standing_of plan journal Insp).waits) eq hints.tool_phase).waits_so same uncut).logs where
      never : (phase : Phase) → IsDraining phase → may_hint phase ≡ true → ⊥
      never (Attempting (Draining turns)) drains may = false≢true may
      never (Attempting (ReadingCounter (Turns turns))) drains may = false≢true may
      never (Attempting (SettingCounter number (Turns turns))) drains may = false≢true may
      never phase drains may = drains

      by : LogsAway t now then ⊎ (LogsNote t now then ⊎ (LogsHint t work.cutover.attempts entry.answer now then × (may_hint work.cutover.phase ≡ true))) → LogsNoHint t now then
      by (inl away) = away_logs t now then away
      by (inr (inl note)) = note_logs t now then note
      by (inr (inr hint)) = absurd (never work.cutover.phase drains hint.1)

    insp_so : CutKeeps New entry.answer tool Inspector work
    unfolding cutovers.took
    insp_so tries = λ drains. by (inspector_from work.cutover work.cutover.phase entry.answer drains) where
      by : Hints work.cutover.phase entry.answer ⊎ IsDraining work.cutover.phase → last_hint t 0 then.log ≡ work.cutover.attempts
      by (inl hints_so) = hinted hints_so.0 hints_so.1 hints_so.2
      by (inr drains) = later (drains_away drains) (Migrating work) (was_at (Migrating work) eq) drains

  -- THE WHOLE TURN

  answered_so : (answer : Answer) (actor : Actor) → ((tool_phase : ToolPhase) → (moment plan journal).tool.tool_phase ≡ tool_phase → Goal tool_phase) ⊎ (actor ≡ Insp)
      → ((work : Work) → (moment plan journal).tool.tool_phase ≡ Migrating work → actor ≡ Insp → CutKeeps New answer tool Inspector work) → (tool_phase : ToolPhase) → (moment plan journal).tool.tool_phase ≡ tool_phase → AnswerKeeps plan New answer tool actor tool_phase
  answered_so answer Insp at insp (SettingUp setup tries) eq = setup_so answer setup tries
  answered_so answer Insp at insp (Migrating work) eq = insp work eq refl
  answered_so answer Lock (inl at) insp (Migrating work) eq = lock_so answer work (at (Migrating work) eq)
  answered_so answer Ren (inl at) insp (Migrating work) eq = ren_so answer work (at (Migrating work) eq)
  answered_so answer Copy (inl at) insp (Migrating work) eq = copy_so answer work (at (Migrating work) eq)
  answered_so answer Apply (inl at) insp (Migrating work) eq = apply_so answer work (at (Migrating work) eq)
  answered_so answer Op (inl at) insp (Migrating work) eq = at (Migrating work) eq
  answered_so answer (Client c) (inl at) insp (Migrating work) eq = at (Migrating work) eq
  answered_so answer Lock at insp (SettingUp setup tries) eq = tt
  answered_so answer Ren at insp (SettingUp setup tries) eq = tt
  answered_so answer Copy at insp (SettingUp setup tries) eq = tt
  answered_so answer Apply at insp (SettingUp setup tries) eq = tt
  answered_so answer Op at insp (SettingUp setup tries) eq = tt
  answered_so answer (Client c) at insp (SettingUp setup tries) eq = tt
  answered_so answer Lock (inr insp_is) insp (Migrating work) eq = absurd cc
  answered_so answer Ren (inr insp_is) insp (Migrating work) eq = absurd cc
  answered_so answer Copy (inr insp_is) insp (Migrating work) eq = absurd cc
  answered_so answer Apply (inr insp_is) insp (Migrating work) eq = absurd cc
  answered_so answer Op (inr insp_is) insp (Migrating work) eq = absurd cc
  answered_so answer (Client c) (inr insp_is) insp (Migrating work) eq = absurd cc

  insp_or : (b : Bool) → same_actor entry.actor Insp ≡ b → ((tool_phase : ToolPhase) → (moment plan journal).tool.tool_phase ≡ tool_phase → Goal tool_phase) ⊎ (entry.actor ≡ Insp)
  insp_or true is = inr (same_actor_is entry.actor Insp is)
  insp_or false is = inl (others_at is)

  uncut_of : (asked : Asked) → (asked ≡ Cut → ⊥) → is_cut asked ≡ false
  uncut_of Cut called = absurd (called refl)
  uncut_of (Call request) called = refl
  uncut_of Poll called = refl
  uncut_of (Command word) called = refl

  heard_so : (entry.asked ≡ Cut → ⊥) → AnswerKeeps plan New entry.answer tool entry.actor tool.tool_phase
  heard_so called = answered_so entry.answer entry.actor (insp_or (same_actor entry.actor Insp) refl) (λ work eq same. insp_so work eq same (uncut_of entry.asked called)) (moment plan journal).tool.tool_phase refl

  lost_so : entry.asked ≡ Cut → AnswerKeeps plan New answers.Lost tool entry.actor tool.tool_phase
  lost_so cut = answered_so answers.Lost entry.actor (inl (cut_at cut)) (λ work eq same. insp_lost work (cut_at cut (Migrating work) eq)) (moment plan journal).tool.tool_phase refl

  command_so : (word : OperatorWord) → entry.asked ≡ Command word → (tool_phase : ToolPhase) → (moment plan journal).tool.tool_phase ≡ tool_phase → Goal tool_phase
  command_so word asks tool_phase eq = others_at (ap (λ (a : Actor). same_actor a Insp) (commands_operator plan journal entry.actor word (subst (IsGiven plan journal entry) asks (kept_run plan journal entry kept).followed.given))) tool_phase eq

  resize_so : (size : ℕ) → entry.asked ≡ Command (ChunkSize size) → (tool_phase : ToolPhase) → (moment plan journal).tool.tool_phase ≡ tool_phase → ResizeKeeps New tool size tool_phase
  resize_so size asks (SettingUp setup tries) eq = tt
  resize_so size asks (Migrating work) eq = command_so (ChunkSize size) asks (Migrating work) eq

  pub drains_more : ToolPhaseDrains t then.log (moment plan more).tool.tool_phase
  drains_more =
      turn_kept plan New back journal entry drain
      (record {
        commanded = λ word asks unsized. command_so word asks (moment plan journal).tool.tool_phase refl;
        resized = λ size asks. resize_so size asks (moment plan journal).tool.tool_phase refl;
        idle = λ asks none. cut_at asks (moment plan journal).tool.tool_phase refl;
        lost = λ asks worked. lost_so asks;
        heard = λ called commanded. heard_so called;
      })

-- *The last hint row is the drained attempt's*, behind every journal that is kept, until the RENAME is done
pub all_drains : EntriesAreTurns → (plan : PlanData) → IsRunnable plan → IsSerialPlan plan → (journal rest : List Entry) → IsKept plan (journal ++ rest) → IsUnaltered plan (journal ++ rest) → IsHintedLast plan journal → IsHintedLast plan (journal ++ rest)
all_drains turns plan runs serial journal [] kept off was = subst (IsHintedLast plan) (sym (append-nil journal)) was
all_drains turns plan runs serial journal (entry ∷ rest) kept off was =
    let same : (journal ++ entry ∷ []) ++ rest ≡ journal ++ entry ∷ rest = append_assoc journal (entry ∷ []) rest in
    let kept_all : IsKept plan ((journal ++ entry ∷ []) ++ rest) = subst (IsKept plan) (sym same) kept in
    let off_all : IsUnaltered plan ((journal ++ entry ∷ []) ++ rest) = subst (IsUnaltered plan) (sym same) off in
    subst (IsHintedLast plan) same
    (all_drains turns plan runs serial (journal ++ entry ∷ []) rest kept_all off_all
    (drains_more turns plan runs serial journal entry (kept_front plan (journal ++ entry ∷ []) rest kept_all) (unaltered_front plan (journal ++ entry ∷ []) rest off_all) was))

pub hinted_last : EntriesAreTurns → (plan : PlanData) (journal : List Entry) → IsRunnable plan → IsSerialPlan plan → IsKept plan journal → IsUnaltered plan journal → IsHintedLast plan journal
unfolding moment
hinted_last turns plan journal runs serial kept off = all_drains turns plan runs serial [] journal kept off tt
