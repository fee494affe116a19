-- What an answer to the locker, the renamer and the inspector leaves of what the journal tells of the cut-over.
use Rattle.std.proofs.Common.{◌≡◌, ◌⊎◌, ℕ, ◌+◌, Bool, true, false, cond, not, List, Option, Some, None, refl, sym, ap, ◌∙◌, subst, inl, inr}
use Rattle.std.proofs.lemmas.Bool.{true≢false, false≢true, or_right}
use Rattle.base_script.specs.declared.actor.Actor.TheVariants.{Insp, Lock, Ren}
use Rattle.base_values.specs.ToolNames.{ghost_name, old_name}
use Rattle.server_model.specs.declared.answer.Answer.{Answer}
use Rattle.server_model.specs.declared.answer.Answer.TheVariants as answers
use Rattle.server_model.specs.declared.entry.Asked.{Asked}
use Rattle.server_model.specs.declared.entry.Asked.TheVariants.{Call, Poll, Cut}
use Rattle.server_model.specs.declared.listing.ShownWaiter.{ShownWaiter}
use Rattle.server_model.specs.declared.listing.TableName.{TableName}
use Rattle.server_model.specs.declared.request.Request.{Request}
use Rattle.server_model.specs.declared.request.Request.TheVariants as requests
use Rattle.plan_data.specs.PlanData.{PlanData}
use Rattle.tool_changelog.specs.ToolTables.{sentry_schema}
use Rattle.tool_program.specs.declared.event_applier.applier.Applier.{Applier}
use Rattle.tool_program.specs.declared.cutover_core.cutover.Clearing.TheVariants.{Looking, Drops}
use Rattle.tool_program.specs.declared.cutover_core.cutover.CutOver.{CutOver}
use Rattle.tool_program.specs.declared.cutover_core.cutover.Hold.{Hold}
use Rattle.tool_program.specs.declared.cutover_core.cutover.Hold.TheVariants.{Nothing, WaitsToGuard, WaitsToLock, Locks}
use Rattle.tool_program.specs.declared.cutover_core.cutover.Leftovers.{Leftovers}
use Rattle.tool_program.specs.declared.cutover_core.cutover.Phase.{Phase}
use Rattle.tool_program.specs.declared.cutover_core.cutover.Phase.TheVariants.{Resting, Attempting, Ending, Finishing, Finished}
use Rattle.tool_program.specs.declared.cutover_core.cutover.Stage.{Stage}
use Rattle.tool_program.specs.declared.cutover_core.cutover.Stage.TheVariants.{Locking, Hinting, ReadingCounter, SettingCounter, Drained, Showing, Dropping, Unlocking, Exchanging}
use Rattle.tool_program.specs.declared.cutover_core.cutover.Drain.{Drain}
use Rattle.tool_program.specs.declared.cutover_core.cutover.Drain.TheVariants.{Turns, Passed}
use Rattle.tool_program.specs.CutoverCore.Attempts.{exchange, is_free, clears, inspector_call, is_clear, without_first, first_name, has_name, has_sentry}
use Rattle.tool_program.specs.CutoverCore.CutOvers.{is_bad, is_wait, is_resting, attempts_after, failed, ended, hinted, drain_of, drained, drains_to, hold_of_guard, hold_of_lock, hold_under, hold_after, locker_phase, locker_stage, inspector_phase, inspector_stage, ending_after, finishing_after, waits_phase, renamer_phase, finishing, left_at_end, seen, shows_wait}
use Rattle.proof_journals.specs.Machine.Machines.{PhaseHolds, both_names, held, renaming}
use Rattle.proof_journals.specs.Machine.Standings.{IsAbout, is_called, is_polled, answers_to}
use Rattle.proof_journals.proofs.Machine.Asking.{some_request}
use Rattle.proof_journals.proofs.Machine.CuttingOver.{LockerAsks, drain_cases, lost_nothing}
use Rattle.proof_journals.proofs.Machine.Fitting.{IsPrompt}
use Rattle.proof_migration.specs.InspectorWaits.{SetsCounter}
use Rattle.proof_migration.proofs.Program.InspectorTurns.Inspectors.{free_so}
use Rattle.proof_order.specs.CutOverOrder.{holds_so, waits_so, begun_after, call_after, has_session, Shown, shown_after, renamed_after, listed_after, renaming_after}
use Rattle.proof_order.proofs.Words.{Words, words_after}
use Rattle.proof_order.proofs.Phases.{PhaseOrder, is_held, and_left, fails, locked_order, begun_order, rests_unheld, called_order, renamed_order, seen_order, listed_order, dropped_order}
use Rattle.proof_order.proofs.Hints.{AppliedAt}

-- WHAT IS SO

abbrev pub IsCreate : Option Request → Type 0
IsCreate (Some (requests.Create schema)) = Unit {0}
IsCreate call = ⊥

abbrev pub IsLocking : Option Request → Type 0
IsLocking (Some (requests.LockTables names)) = Unit {0}
IsLocking call = ⊥

-- what the locker has is what it called and was answered last
abbrev pub LockerAnswered : Option Request → Option Answer → Hold → Type 0
LockerAnswered call answer Nothing = (holds_so call answer ≡ false) × (waits_so answer ≡ false)
LockerAnswered call answer WaitsToGuard = IsCreate call
LockerAnswered call answer WaitsToLock = IsLocking call
LockerAnswered call answer Locks = holds_so call answer ≡ true

-- after the RENAME the renamer was so_far, or nobody holds or waits
abbrev pub DoneAt : Phase → Hold → Bool → Bool → Type 0
DoneAt (Finishing clearing) hold waits renamed = (renamed ≡ true) ⊎ ((hold ≡ Nothing) × (waits ≡ false))
DoneAt Finished hold waits renamed = (renamed ≡ true) ⊎ ((hold ≡ Nothing) × (waits ≡ false))
DoneAt phase hold waits renamed = Unit {0}

pub record OrderedAt (plan : PlanData) (so_far : Words) (live : Option ℕ) (attempts : ℕ) (hold : Hold) (waits asked drops_old : Bool) (phase : Phase) (applier : Applier) : Type 0 where
  pub begun : so_far.begun ≡ attempts
  pub locker : LockerAnswered so_far.call so_far.answer hold
  pub renamer : waits_so so_far.renamer ≡ waits
  pub session : waits ≡ true → live ≡ Some so_far.shown.session
  pub phase_is : PhaseOrder plan so_far.shown.shown so_far.hints.passed so_far.renaming so_far.listed attempts asked phase
  pub applied : AppliedAt so_far.hints applier
  pub may_drop : drops_old ≡ plan.options.ok_to_drop_table
  pub done : DoneAt phase hold waits so_far.renamed

-- THE PHASES THAT ARE DONE

attempt_done : (stage : Stage) (answer : Answer) (hold : Hold) (waits renamed : Bool) → DoneAt (locker_phase (Attempting stage) answer) hold waits renamed
attempt_done stage answer hold waits renamed = by (is_bad answer) where
  by : (b : Bool) → DoneAt (cond b (Ending Looking) (Attempting (locker_stage stage answer))) hold waits renamed
  by true = tt
  by false = tt

begun_done : (answer : Answer) (hold : Hold) (waits renamed : Bool) → DoneAt (locker_phase Resting answer) hold waits renamed
begun_done (answers.Ok count) hold waits renamed = tt
begun_done (answers.Waits by) hold waits renamed = tt
begun_done answer hold waits renamed = tt

pub ended_done : (phase : Phase) (hold : Hold) (waits renamed : Bool) → DoneAt phase hold waits renamed → DoneAt (ended phase) hold waits renamed
ended_done (Attempting Unlocking) hold waits renamed done = tt
ended_done (Attempting Exchanging) hold waits renamed done = tt
ended_done (Attempting stage) hold waits renamed done = tt
ended_done Resting hold waits renamed done = tt
ended_done (Ending clearing) hold waits renamed done = tt
ended_done (Finishing clearing) hold waits renamed done = done
ended_done Finished hold waits renamed done = done

pub drained_done : (cutover : CutOver) (hint : ℕ) (phase : Phase) (hold : Hold) (waits renamed : Bool) → DoneAt phase hold waits renamed → DoneAt (drained cutover hint phase) hold waits renamed
drained_done cutover hint (Attempting stage) hold waits renamed done = by (drain_of stage) where
  by : (drain : Option Drain) → DoneAt (drains_to cutover hint stage drain) hold waits renamed
  by (Some (Turns turns)) = drain_cases (λ (p : Phase). DoneAt p hold waits renamed) cutover hint turns stage (λ same. tt) tt tt
  by drain = tt
drained_done cutover hint Resting hold waits renamed done = tt
drained_done cutover hint (Ending clearing) hold waits renamed done = tt
drained_done cutover hint (Finishing clearing) hold waits renamed done = done
drained_done cutover hint Finished hold waits renamed done = done

-- THE LOCKER

guard_answered : (table : List ℕ) (answer : Answer) → LockerAnswered (Some (requests.Create (sentry_schema table))) (Some answer) (hold_of_guard answer)
guard_answered table (answers.Waits by) = tt
guard_answered table answer = (refl, refl)

guarded_answered : (call : Option Request) (answer : Answer) → IsCreate call → LockerAnswered call (Some answer) (hold_of_guard answer)
guarded_answered (Some (requests.Create schema)) (answers.Waits by) is = tt
guarded_answered (Some (requests.Create schema)) answer is = (refl, refl)
guarded_answered call answer is = absurd is

lock_answered : (call : Option Request) (answer : Answer) → IsLocking call → LockerAnswered call (Some answer) (hold_of_lock answer)
lock_answered (Some (requests.LockTables names)) (answers.Waits by) is = tt
lock_answered (Some (requests.LockTables names)) (answers.Ok count) is = refl
lock_answered (Some (requests.LockTables names)) answer is = (refl, refl)
lock_answered call answer is = absurd is

drop_answered : (name : List ℕ) (answer : Answer) → IsPrompt answer → LockerAnswered (Some (requests.Drop name)) (Some answer) (hold_under (Attempting Dropping) answer)
drop_answered name answers.Lost prompt = (refl, refl)
drop_answered name (answers.TimedOut waited) prompt = absurd prompt
drop_answered name answer prompt = refl

unlock_answered : (answer : Answer) → answers_to requests.Unlock answer ≡ true → LockerAnswered (Some requests.Unlock) (Some answer) Nothing
unlock_answered (answers.Waits by) fits = absurd (false≢true fits)
unlock_answered answer fits = (refl, refl)

pub lost_holds : (call : Option Request) → holds_so call (Some answers.Lost) ≡ false
lost_holds (Some (requests.LockTables names)) = refl
lost_holds (Some (requests.Drop name)) = refl
lost_holds call = refl

module _ (plan : PlanData) (so_far : Words) (live : Option ℕ) (attempts : ℕ) (waits asks drops_old : Bool) (applier : Applier) (session : ℕ) (answer : Answer) where
  abbrev Old : Hold → Phase → Type 0
  Old hold phase = OrderedAt plan so_far live attempts hold waits asks drops_old phase applier

  abbrev New : Asked → Hold → Phase → Type 0
  New asked hold phase =
      OrderedAt plan (words_after plan Lock session asked answer so_far) live (attempts_after phase attempts) (hold_after hold phase answer) waits (cond (is_resting phase) false asks) drops_old (locker_phase phase answer) applier

  -- what the turn leaves outside the first step
  record Leaves (asked : Asked) (hold : Hold) (phase : Phase) : Type 0 where
    none : begun_after Lock asked so_far.begun ≡ so_far.begun
    same : shown_after Lock session asked answer so_far.shown ≡ so_far.shown
    holds : LockerAnswered (call_after Lock Lock asked so_far.call) (Some answer) (hold_after hold phase answer)
    done : DoneAt (locker_phase phase answer) (hold_after hold phase answer) waits so_far.renamed

  goes : (asked : Asked) (hold : Hold) (phase : Phase) → (phase ≡ Resting → ⊥) → Leaves asked hold phase → Old hold phase → New asked hold phase
  goes asked hold phase begun left old = by phase begun left.holds left.done old.phase_is where
    by : (phase : Phase) → (phase ≡ Resting → ⊥) → LockerAnswered (call_after Lock Lock asked so_far.call) (Some answer) (hold_after hold phase answer) → DoneAt (locker_phase phase answer) (hold_after hold phase answer) waits so_far.renamed
        → PhaseOrder plan so_far.shown.shown so_far.hints.passed so_far.renaming so_far.listed attempts asks phase → New asked hold phase
    by Resting begun holds done is = absurd (begun refl)
    by (Attempting stage) begun holds done is = record {
      begun = left.none ∙ old.begun;
      locker = holds;
      renamer = old.renamer;
      session = λ on. old.session on ∙ ap (λ (s : Shown). Some s.session) (sym left.same);
      phase_is = subst (λ (s : Shown). PhaseOrder plan s.shown so_far.hints.passed so_far.renaming so_far.listed attempts asks (locker_phase (Attempting stage) answer)) (sym left.same)
          (locked_order plan so_far.shown.shown so_far.hints.passed so_far.renaming so_far.listed attempts asks (Attempting stage) answer begun is);
      applied = old.applied;
      may_drop = old.may_drop;
      done = done;
    }
    by (Ending clearing) begun holds done is = record {
      begun = left.none ∙ old.begun;
      locker = holds;
      renamer = old.renamer;
      session = λ on. old.session on ∙ ap (λ (s : Shown). Some s.session) (sym left.same);
      phase_is = subst (λ (s : Shown). PhaseOrder plan s.shown so_far.hints.passed so_far.renaming so_far.listed attempts asks (Ending clearing)) (sym left.same) is;
      applied = old.applied;
      may_drop = old.may_drop;
      done = done;
    }
    by (Finishing clearing) begun holds done is = record {
      begun = left.none ∙ old.begun;
      locker = holds;
      renamer = old.renamer;
      session = λ on. old.session on ∙ ap (λ (s : Shown). Some s.session) (sym left.same);
      phase_is = subst (λ (s : Shown). PhaseOrder plan s.shown so_far.hints.passed so_far.renaming so_far.listed attempts asks (Finishing clearing)) (sym left.same) is;
      applied = old.applied;
      may_drop = old.may_drop;
      done = done;
    }
    by Finished begun holds done is = record {
      begun = left.none ∙ old.begun;
      locker = holds;
      renamer = old.renamer;
      session = λ on. old.session on ∙ ap (λ (s : Shown). Some s.session) (sym left.same);
      phase_is = subst (λ (s : Shown). PhaseOrder plan s.shown so_far.hints.passed so_far.renaming so_far.listed attempts asks Finished) (sym left.same) is;
      applied = old.applied;
      may_drop = old.may_drop;
      done = done;
    }

  -- the sentry's CREATE begins an attempt
  begins : (table : List ℕ) → waits ≡ false → Old Nothing Resting → New (Call (requests.Create (sentry_schema table))) Nothing Resting
  begins table off old = record {
    begun = ap (λ (n : ℕ). n + 1) old.begun;
    locker = guard_answered table answer;
    renamer = old.renamer;
    session = λ on. absurd (true≢false (sym on ∙ off));
    phase_is = begun_order plan so_far.hints.passed so_far.renaming so_far.listed attempts false answer (rests_unheld so_far.renaming asks old.phase_is.holds);
    applied = old.applied;
    may_drop = old.may_drop;
    done = begun_done answer (hold_of_guard answer) waits so_far.renamed;
  }

  -- where a wait is polled
  polled_done : (hold : Hold) (phase : Phase) → (hold ≡ Nothing → ⊥) → (phase ≡ Resting → ⊥) → DoneAt phase hold waits so_far.renamed → DoneAt (locker_phase phase answer) (hold_after hold phase answer) waits so_far.renamed
  polled_done hold Resting some begun done = absurd (begun refl)
  polled_done hold (Attempting stage) some begun done = attempt_done stage answer (hold_after hold (Attempting stage) answer) waits so_far.renamed
  polled_done hold (Ending clearing) some begun done = tt
  polled_done hold (Finishing clearing) some begun (inl renamed) = inl renamed
  polled_done hold (Finishing clearing) some begun (inr none) = absurd (some none.0)
  polled_done hold Finished some begun (inl renamed) = inl renamed
  polled_done hold Finished some begun (inr none) = absurd (some none.0)

  not_resting : (hold : Hold) (phase : Phase) → PhaseHolds phase hold → (hold ≡ Nothing → ⊥) → phase ≡ Resting → ⊥
  not_resting hold phase at some rests = some (subst (λ (p : Phase). PhaseHolds p hold) rests at)

  guard_some : WaitsToGuard ≡ Nothing → ⊥
  guard_some same = cc

  lock_some : WaitsToLock ≡ Nothing → ⊥
  lock_some same = cc

  with_asked : (hold : Hold) (phase : Phase) (asked one : Asked) → asked ≡ one → New one hold phase → New asked hold phase
  with_asked hold phase asked one same is = subst (λ (a : Asked). New a hold phase) (sym same) is

  -- *An answer to the locker*
  pub locker_order : (table : List ℕ) (hold : Hold) (phase : Phase) (request : Request) (asked : Asked) → IsAbout request (held table hold) asked → LockerAsks table hold phase request → PhaseHolds phase hold → answers_to request answer ≡ true → (request ≡ requests.Drop (old_name table) → IsPrompt answer) → (phase ≡ Resting → waits ≡ false)
      → Old hold phase → New asked hold phase
  locker_order table Nothing Resting request asked (is_called asks none) kind at fits prompt off old = with_asked Nothing Resting asked (Call (requests.Create (sentry_schema table))) (asks ∙ ap Call kind) (begins table (off refl) old)
  locker_order table Nothing (Attempting Locking) request asked (is_called asks none) kind at fits prompt off old =
      with_asked Nothing (Attempting Locking) asked (Call (requests.LockTables (both_names table))) (asks ∙ ap Call kind)
      (goes (Call (requests.LockTables (both_names table))) Nothing (Attempting Locking) (λ same. cc)
      (record { none = refl; same = refl; holds = lock_answered (Some (requests.LockTables (both_names table))) answer tt; done = attempt_done Locking answer (hold_of_lock answer) waits so_far.renamed }) old)
  locker_order table Nothing phase request asked (is_polled asks some) kind at fits prompt off old = absurd cc
  locker_order table Nothing phase request asked (is_called asks none) kind at fits prompt off old = absurd kind
  locker_order table WaitsToGuard phase request asked (is_called asks none) kind at fits prompt off old = absurd cc
  locker_order table WaitsToGuard phase request asked (is_polled asks some) kind at fits prompt off old =
      with_asked WaitsToGuard phase asked Poll asks
      (goes Poll WaitsToGuard phase (not_resting WaitsToGuard phase at guard_some)
      (record { none = refl; same = refl; holds = guarded_answered so_far.call answer old.locker; done = polled_done WaitsToGuard phase guard_some (not_resting WaitsToGuard phase at guard_some) old.done }) old)
  locker_order table WaitsToLock phase request asked (is_called asks none) kind at fits prompt off old = absurd cc
  locker_order table WaitsToLock phase request asked (is_polled asks some) kind at fits prompt off old =
      with_asked WaitsToLock phase asked Poll asks
      (goes Poll WaitsToLock phase (not_resting WaitsToLock phase at lock_some)
      (record { none = refl; same = refl; holds = lock_answered so_far.call answer old.locker; done = polled_done WaitsToLock phase lock_some (not_resting WaitsToLock phase at lock_some) old.done }) old)
  locker_order table Locks phase request asked (is_polled asks some) kind at fits prompt off old = absurd cc
  locker_order table Locks (Attempting Dropping) request asked (is_called asks none) kind at fits prompt off old =
      with_asked Locks (Attempting Dropping) asked (Call (requests.Drop (old_name table))) (asks ∙ ap Call kind)
      (goes (Call (requests.Drop (old_name table))) Locks (Attempting Dropping) (λ same. cc)
      (record { none = refl; same = refl; holds = drop_answered (old_name table) answer (prompt kind); done = attempt_done Dropping answer (hold_under (Attempting Dropping) answer) waits so_far.renamed }) old)
  locker_order table Locks (Attempting Unlocking) request asked (is_called asks none) kind at fits prompt off old =
      with_asked Locks (Attempting Unlocking) asked (Call requests.Unlock) (asks ∙ ap Call kind)
      (goes (Call requests.Unlock) Locks (Attempting Unlocking) (λ same. cc)
      (record { none = refl; same = refl; holds = unlock_answered answer (ap (λ (r : Request). answers_to r answer) (sym kind) ∙ fits); done = attempt_done Unlocking answer Nothing waits so_far.renamed }) old)
  locker_order table Locks (Ending clearing) request asked (is_called asks none) kind at fits prompt off old =
      with_asked Locks (Ending clearing) asked (Call requests.Unlock) (asks ∙ ap Call kind)
      (goes (Call requests.Unlock) Locks (Ending clearing) (λ same. cc) (record { none = refl; same = refl; holds = unlock_answered answer (ap (λ (r : Request). answers_to r answer) (sym kind) ∙ fits); done = tt }) old)
  locker_order table Locks phase request asked (is_called asks none) kind at fits prompt off old = absurd kind

-- its session is lost between calls, where it had work
pub locker_lost_order : (plan : PlanData) (so_far : Words) (live : Option ℕ) (attempts : ℕ) (hold : Hold) (waits asks drops_old : Bool) (phase : Phase) (applier : Applier) (session : ℕ) → (phase ≡ Resting → ⊥) → OrderedAt plan so_far live attempts hold waits asks drops_old phase applier
    → OrderedAt plan (words_after plan Lock session Cut answers.Lost so_far) live (attempts_after phase attempts) (hold_after hold phase answers.Lost) waits (cond (is_resting phase) false asks) drops_old (locker_phase phase answers.Lost) applier
locker_lost_order plan so_far live attempts hold waits asks drops_old phase applier session begun old =
    goes plan so_far live attempts waits asks drops_old applier session answers.Lost Cut hold phase begun
    (record { none = refl; same = refl; holds = subst (LockerAnswered so_far.call (Some answers.Lost)) (sym (lost_nothing hold phase)) (lost_holds so_far.call, refl); done = by phase begun old.done }) old where
      by : (phase : Phase) → (phase ≡ Resting → ⊥) → DoneAt phase hold waits so_far.renamed → DoneAt (locker_phase phase answers.Lost) (hold_after hold phase answers.Lost) waits so_far.renamed
      by Resting begun done = absurd (begun refl)
      by (Attempting stage) begun done = tt
      by (Ending clearing) begun done = tt
      by (Finishing clearing) begun (inl renamed) = inl renamed
      by (Finishing clearing) begun (inr none) = inr (lost_nothing hold (Finishing clearing), none.1)
      by Finished begun (inl renamed) = inl renamed
      by Finished begun (inr none) = inr (lost_nothing hold Finished, none.1)

-- THE RENAMER

answer_waits : (answer : Answer) → waits_so (Some answer) ≡ is_wait answer
answer_waits (answers.Waits by) = refl
answer_waits answer = refl

called_done : (answer : Answer) (hold : Hold) (renamed : Bool) → DoneAt (renamer_phase (Attempting Drained) answer) hold (is_wait answer) (renamed_after Ren answer renamed)
called_done (answers.Ok count) hold renamed = inl refl
called_done (answers.Waits by) hold renamed = tt
called_done answers.Lost hold renamed = tt
called_done (answers.TimedOut waited) hold renamed = tt
called_done answer hold renamed = tt

waits_done : (phase : Phase) (hold : Hold) (waits renamed : Bool) → DoneAt phase hold waits renamed → DoneAt (waits_phase phase) hold waits renamed
waits_done (Attempting Drained) hold waits renamed done = tt
waits_done (Attempting stage) hold waits renamed done = done
waits_done Resting hold waits renamed done = done
waits_done (Ending clearing) hold waits renamed done = done
waits_done (Finishing clearing) hold waits renamed done = done
waits_done Finished hold waits renamed done = done

failed_done : (phase : Phase) (hold : Hold) (waits renamed : Bool) → DoneAt phase hold waits renamed → DoneAt (failed phase) hold waits renamed
failed_done (Attempting stage) hold waits renamed done = tt
failed_done Resting hold waits renamed done = done
failed_done (Ending clearing) hold waits renamed done = done
failed_done (Finishing clearing) hold waits renamed done = done
failed_done Finished hold waits renamed done = done

renamer_done : (phase : Phase) (answer : Answer) (hold : Hold) (renamed : Bool) → DoneAt phase hold (is_wait answer) renamed → DoneAt (renamer_phase phase answer) hold (is_wait answer) (renamed_after Ren answer renamed)
renamer_done phase (answers.Ok count) hold renamed done = inl refl
renamer_done phase (answers.Waits by) hold renamed done = waits_done phase hold true renamed done
renamer_done phase answers.Lost hold renamed done = failed_done phase hold false renamed done
renamer_done phase (answers.TimedOut waited) hold renamed done = failed_done phase hold false renamed done
renamer_done phase answer hold renamed done = done

-- it was reported, where it waits
reported_done : (phase : Phase) (hold : Hold) (renamed now : Bool) → DoneAt phase hold true renamed → DoneAt phase hold now renamed
reported_done (Finishing clearing) hold renamed now (inl reported) = inl reported
reported_done (Finishing clearing) hold renamed now (inr none) = absurd (true≢false none.1)
reported_done Finished hold renamed now (inl reported) = inl reported
reported_done Finished hold renamed now (inr none) = absurd (true≢false none.1)
reported_done Resting hold renamed now done = tt
reported_done (Attempting stage) hold renamed now done = tt
reported_done (Ending clearing) hold renamed now done = tt

-- its session is lost
lost_done : (phase : Phase) (hold : Hold) (waits renamed : Bool) → DoneAt phase hold waits renamed → DoneAt phase hold false renamed
lost_done (Finishing clearing) hold waits renamed (inl reported) = inl reported
lost_done (Finishing clearing) hold waits renamed (inr none) = inr (none.0, refl)
lost_done Finished hold waits renamed (inl reported) = inl reported
lost_done Finished hold waits renamed (inr none) = inr (none.0, refl)
lost_done Resting hold waits renamed done = tt
lost_done (Attempting stage) hold waits renamed done = tt
lost_done (Ending clearing) hold waits renamed done = tt

module _ (plan : PlanData) (so_far : Words) (live now_live : Option ℕ) (attempts : ℕ) (hold : Hold) (asks drops_old : Bool) (applier : Applier) (session : ℕ) (answer : Answer) where
  abbrev RenamerNew : Asked → Phase → Type 0
  RenamerNew asked phase = OrderedAt plan (words_after plan Ren session asked answer so_far) now_live attempts hold (is_wait answer) true drops_old (renamer_phase phase answer) applier

  pub renamer_calls : (waits : Bool) (table : List ℕ) → (is_wait answer ≡ true → now_live ≡ Some session) → OrderedAt plan so_far live attempts hold waits asks drops_old (Attempting Drained) applier → RenamerNew (Call (exchange table)) (Attempting Drained)
  renamer_calls waits table lives old = record {
    begun = old.begun;
    locker = old.locker;
    renamer = answer_waits answer;
    session = lives;
    phase_is = called_order plan so_far.shown.shown so_far.hints.passed so_far.renaming so_far.listed attempts asks answer old.phase_is;
    applied = old.applied;
    may_drop = old.may_drop;
    done = called_done answer hold so_far.renamed;
  }

  pub renamer_polls : (phase : Phase) → (is_wait answer ≡ true → now_live ≡ live) → OrderedAt plan so_far live attempts hold true asks drops_old phase applier → RenamerNew Poll phase
  renamer_polls phase stays old = record {
    begun = old.begun;
    locker = old.locker;
    renamer = answer_waits answer;
    session = λ on. stays on ∙ old.session refl;
    phase_is = renamed_order plan so_far.shown.shown so_far.hints.passed so_far.renaming so_far.listed attempts asks phase answer old.phase_is;
    applied = old.applied;
    may_drop = old.may_drop;
    done = renamer_done phase answer hold so_far.renamed (reported_done phase hold so_far.renamed (is_wait answer) old.done);
  }

-- its session is lost between calls, where it had work
pub renamer_lost_order : (plan : PlanData) (so_far : Words) (live now_live : Option ℕ) (attempts : ℕ) (hold : Hold) (waits asks drops_old : Bool) (phase : Phase) (applier : Applier) (session : ℕ) → OrderedAt plan so_far live attempts hold waits asks drops_old phase applier
    → OrderedAt plan (words_after plan Ren session Cut answers.Lost so_far) now_live attempts hold false true drops_old (renamer_phase phase answers.Lost) applier
renamer_lost_order plan so_far live now_live attempts hold waits asks drops_old phase applier session old = record {
  begun = old.begun;
  locker = old.locker;
  renamer = refl;
  session = λ on. absurd (false≢true on);
  phase_is = renamed_order plan so_far.shown.shown so_far.hints.passed so_far.renaming so_far.listed attempts asks phase answers.Lost old.phase_is;
  applied = old.applied;
  may_drop = old.may_drop;
  done = renamer_done phase answers.Lost hold so_far.renamed (lost_done phase hold waits so_far.renamed old.done);
}

-- THE INSPECTOR

shown_session : (session : ℕ) (asked : Asked) (answer : Answer) (shown : Shown) → (shown_after Insp session asked answer shown).session ≡ shown.session
shown_session session asked (answers.Waiting waiters) shown = refl
shown_session session asked answer shown = refl

-- what was renaming was so before
pub renaming_fewer : (plan : PlanData) (asked : Asked) (answer : Answer) (renaming : Bool) → renaming_after plan Insp asked answer renaming ≡ true → renaming ≡ true
renaming_fewer plan asked (answers.Tables tables) renaming on = and_left renaming (has_sentry plan.table tables) on
renaming_fewer plan (Call (requests.Drop name)) (answers.Ok count) renaming on = absurd (false≢true on)
renaming_fewer plan asked answer renaming on = on

pub renaming_off : (plan : PlanData) (asked : Asked) (answer : Answer) (renaming : Bool) → renaming ≡ false → renaming_after plan Insp asked answer renaming ≡ false
renaming_off plan asked answer renaming off = by (renaming_after plan Insp asked answer renaming) refl where
  by : (b : Bool) → renaming_after plan Insp asked answer renaming ≡ b → b ≡ false
  by true on = absurd (true≢false (sym (renaming_fewer plan asked answer renaming on) ∙ off))
  by false on = refl

finishing_done : (left : Leftovers) (hold : Hold) (waits renamed : Bool) → (renamed ≡ true) ⊎ ((hold ≡ Nothing) × (waits ≡ false)) → DoneAt (finishing left) hold waits renamed
finishing_done left hold waits renamed done = by (is_clear left) where
  by : (b : Bool) → DoneAt (cond b Finished (Finishing (Drops left))) hold waits renamed
  by true = done
  by false = done

seen_done : (cutover : CutOver) (tables : List TableName) (hold : Hold) (waits renamed : Bool) → (renamed ≡ true) ⊎ ((hold ≡ Nothing) × (waits ≡ false)) → DoneAt (seen cutover tables) hold waits renamed
seen_done cutover tables hold waits renamed done = by (has_name (ghost_name cutover.table) tables) (has_sentry cutover.table tables) where
  by : (a b : Bool) → DoneAt (cond (not a) (finishing (left_at_end cutover tables)) (cond b (Ending (Drops Rattle.tool_program.specs.CutoverCore.CutOvers.sentry_alone)) Resting)) hold waits renamed
  by false b = finishing_done (left_at_end cutover tables) hold waits renamed done
  by true true = tt
  by true false = tt

module _ (plan : PlanData) (cutover : CutOver) (own : cutover.table ≡ plan.table) (so_far : Words) (live : Option ℕ) (applier : Applier) (session : ℕ) (answer : Answer) where
  abbrev InspectorOld : Phase → Type 0
  InspectorOld phase = OrderedAt plan so_far live cutover.attempts cutover.hold cutover.renamer_waits cutover.is_asked cutover.drops_old phase applier

  abbrev InspectorNew : Asked → Phase → Type 0
  InspectorNew asked phase =
      OrderedAt plan (words_after plan Insp session asked answer so_far) live cutover.attempts cutover.hold cutover.renamer_waits cutover.is_asked cutover.drops_old (inspector_phase cutover phase answer) applier

  -- the phase, where it was so_far this
  abbrev Is : Asked → Answer → Phase → Type 0
  Is asked one phase =
      PhaseOrder plan (shown_after Insp session asked one so_far.shown).shown so_far.hints.passed (renaming_after plan Insp asked one so_far.renaming) (listed_after Insp one so_far.listed) cutover.attempts cutover.is_asked phase

  abbrev IsDone : Phase → Type 0
  IsDone phase = DoneAt phase cutover.hold cutover.renamer_waits so_far.renamed

  makes : (asked : Asked) (phase : Phase) → Is asked answer (inspector_phase cutover phase answer) → IsDone (inspector_phase cutover phase answer) → InspectorOld phase → InspectorNew asked phase
  makes asked phase is done old = record {
    begun = old.begun;
    locker = old.locker;
    renamer = old.renamer;
    session = λ on. old.session on ∙ ap Some (sym (shown_session session asked answer so_far.shown));
    phase_is = is;
    applied = old.applied;
    may_drop = old.may_drop;
    done = done;
  }

  -- it holds batches off no more than before
  fewer : (asked : Asked) (one : Answer) (phase : Phase) → InspectorOld phase → renaming_after plan Insp asked one so_far.renaming ≡ true → is_held phase cutover.is_asked ≡ true
  fewer asked one phase old on = old.phase_is.holds (renaming_fewer plan asked one so_far.renaming on)

  -- IN AN ATTEMPT

  attempt_goes : (asked : Asked) (stage : Stage) → Is asked answer (Attempting (inspector_stage cutover.has_counter stage answer)) → InspectorOld (Attempting stage) → InspectorNew asked (Attempting stage)
  attempt_goes asked stage is old = makes asked (Attempting stage) (by (is_bad answer)) (done (is_bad answer)) old where
    by : (b : Bool) → Is asked answer (cond b (Ending Looking) (Attempting (inspector_stage cutover.has_counter stage answer)))
    by true = record { counted = tt; passes = tt; shows = tt; holds = fewer asked answer (Attempting stage) old; drops = tt }
    by false = is

    done : (b : Bool) → IsDone (cond b (Ending Looking) (Attempting (inspector_stage cutover.has_counter stage answer)))
    done true = tt
    done false = tt

  hinting : (asked : Asked) → InspectorOld (Attempting Hinting) → InspectorNew asked (Attempting Hinting)
  hinting asked old = attempt_goes asked Hinting (by answer) old where
    by : (one : Answer) → Is asked one (Attempting (inspector_stage cutover.has_counter Hinting one))
    by (answers.Ok count) = at cutover.has_counter where
      at : (b : Bool) → Is asked (answers.Ok count) (Attempting (hinted b))
      at true = record { counted = old.phase_is.counted; passes = tt; shows = tt; holds = fewer asked (answers.Ok count) (Attempting Hinting) old; drops = tt }
      at false = record { counted = old.phase_is.counted; passes = tt; shows = tt; holds = fewer asked (answers.Ok count) (Attempting Hinting) old; drops = tt }
    by one = record { counted = old.phase_is.counted; passes = tt; shows = tt; holds = fewer asked one (Attempting Hinting) old; drops = tt }

  reading : (asked : Asked) (drain : Drain) → InspectorOld (Attempting (ReadingCounter drain)) → InspectorNew asked (Attempting (ReadingCounter drain))
  reading asked drain old = attempt_goes asked (ReadingCounter drain) (by drain old answer) old where
    by : (drain : Drain) → InspectorOld (Attempting (ReadingCounter drain)) → (one : Answer) → Is asked one (Attempting (inspector_stage cutover.has_counter (ReadingCounter drain) one))
    by (Turns turns) old (answers.At number) = record { counted = old.phase_is.counted; passes = tt; shows = tt; holds = fewer asked (answers.At number) (Attempting (ReadingCounter (Turns turns))) old; drops = tt }
    by Passed old (answers.At number) = record { counted = old.phase_is.counted; passes = old.phase_is.passes; shows = tt; holds = fewer asked (answers.At number) (Attempting (ReadingCounter Passed)) old; drops = tt }
    by (Turns turns) old one = record { counted = old.phase_is.counted; passes = tt; shows = tt; holds = fewer asked one (Attempting (ReadingCounter (Turns turns))) old; drops = tt }
    by Passed old one = record { counted = old.phase_is.counted; passes = old.phase_is.passes; shows = tt; holds = fewer asked one (Attempting (ReadingCounter Passed)) old; drops = tt }

  setting : (asked : Asked) (number : ℕ) (drain : Drain) → InspectorOld (Attempting (SettingCounter number drain)) → InspectorNew asked (Attempting (SettingCounter number drain))
  setting asked number drain old = attempt_goes asked (SettingCounter number drain) (by drain old answer) old where
    by : (drain : Drain) → InspectorOld (Attempting (SettingCounter number drain)) → (one : Answer) → Is asked one (Attempting (inspector_stage cutover.has_counter (SettingCounter number drain) one))
    by (Turns turns) old (answers.Ok count) = record { counted = old.phase_is.counted; passes = tt; shows = tt; holds = fewer asked (answers.Ok count) (Attempting (SettingCounter number (Turns turns))) old; drops = tt }
    by Passed old (answers.Ok count) = record { counted = old.phase_is.counted; passes = old.phase_is.passes; shows = tt; holds = fewer asked (answers.Ok count) (Attempting (SettingCounter number Passed)) old; drops = tt }
    by (Turns turns) old one = record { counted = old.phase_is.counted; passes = tt; shows = tt; holds = fewer asked one (Attempting (SettingCounter number (Turns turns))) old; drops = tt }
    by Passed old one = record { counted = old.phase_is.counted; passes = old.phase_is.passes; shows = tt; holds = fewer asked one (Attempting (SettingCounter number Passed)) old; drops = tt }

  showing : (asked : Asked) → ((waiters : List ShownWaiter) → answer ≡ answers.Waiting waiters → has_session so_far.shown.session waiters ≡ true) → InspectorOld (Attempting Showing) → InspectorNew asked (Attempting Showing)
  showing asked shows old = attempt_goes asked Showing (by answer refl) old where
    by : (one : Answer) → answer ≡ one → Is asked one (Attempting (inspector_stage cutover.has_counter Showing one))
    by (answers.Waiting waiters) same = at (shows_wait waiters) where
      at : (b : Bool) → Is asked (answers.Waiting waiters) (Attempting (cond b Dropping Showing))
      at true = record { counted = old.phase_is.counted; passes = tt; shows = or_right so_far.shown.shown (has_session so_far.shown.session waiters) (shows waiters same); holds = fewer asked (answers.Waiting waiters) (Attempting Showing) old; drops = tt }
      at false = record { counted = old.phase_is.counted; passes = tt; shows = tt; holds = fewer asked (answers.Waiting waiters) (Attempting Showing) old; drops = tt }
    by one same = record { counted = old.phase_is.counted; passes = tt; shows = tt; holds = fewer asked one (Attempting Showing) old; drops = tt }

  -- IN ITS END

  abbrev listing : Asked
  listing = Call requests.ShowTables

  ending_lists : (cutover.hold ≡ Nothing) × (cutover.renamer_waits ≡ false) → InspectorOld (Ending Looking) → InspectorNew listing (Ending Looking)
  ending_lists free old = makes listing (Ending Looking) (by answer) (done answer) old where
    still : (one : Answer) → Is listing one (Ending Looking)
    still one = record { counted = tt; passes = tt; shows = tt; holds = fewer listing one (Ending Looking) old; drops = tt }

    by : (one : Answer) → Is listing one (ending_after cutover Looking one)
    by answers.Lost = still answers.Lost
    by (answers.TimedOut waited) = still (answers.TimedOut waited)
    by (answers.Tables tables) = seen_order plan cutover own old.may_drop so_far.hints.passed cutover.attempts cutover.is_asked so_far.shown.shown so_far.renaming so_far.listed tables old.phase_is
    by one = still one

    done : (one : Answer) → IsDone (ending_after cutover Looking one)
    done answers.Lost = tt
    done (answers.TimedOut waited) = tt
    done (answers.Tables tables) = seen_done cutover tables cutover.hold cutover.renamer_waits so_far.renamed (inr free)
    done one = tt

  ending_drops : (left : Leftovers) (name : List ℕ) → answers_to (requests.Drop name) answer ≡ true → InspectorOld (Ending (Drops left)) → InspectorNew (Call (requests.Drop name)) (Ending (Drops left))
  ending_drops left name fits old = makes (Call (requests.Drop name)) (Ending (Drops left)) (by answer fits) (done answer) old where
    looks : (one : Answer) → Is (Call (requests.Drop name)) one (Ending Looking)
    looks one = record { counted = tt; passes = tt; shows = tt; holds = fewer (Call (requests.Drop name)) one (Ending (Drops left)) old; drops = tt }

    by : (one : Answer) → answers_to (requests.Drop name) one ≡ true → Is (Call (requests.Drop name)) one (ending_after cutover (Drops left) one)
    by answers.Lost fits = looks answers.Lost
    by (answers.TimedOut waited) fits = looks (answers.TimedOut waited)
    by (answers.Ok count) fits = record { counted = tt; passes = tt; shows = tt; holds = λ on. absurd (false≢true on); drops = tt }
    by (answers.Tables tables) fits = absurd (false≢true fits)
    by one fits = record { counted = tt; passes = tt; shows = tt; holds = fewer (Call (requests.Drop name)) one (Ending (Drops left)) old; drops = old.phase_is.drops }

    done : (one : Answer) → IsDone (ending_after cutover (Drops left) one)
    done answers.Lost = tt
    done (answers.TimedOut waited) = tt
    done (answers.Ok count) = tt
    done one = tt

  -- AFTER THE RENAME

  finishing_lists : InspectorOld (Finishing Looking) → InspectorNew listing (Finishing Looking)
  finishing_lists old = makes listing (Finishing Looking) (by answer) (done answer) old where
    still : (one : Answer) → Is listing one (Finishing Looking)
    still one = record { counted = tt; passes = tt; shows = tt; holds = λ on. refl; drops = tt }

    by : (one : Answer) → Is listing one (finishing_after cutover Looking one)
    by answers.Lost = still answers.Lost
    by (answers.TimedOut waited) = still (answers.TimedOut waited)
    by (answers.Tables tables) =
        listed_order plan cutover own old.may_drop so_far.hints.passed cutover.attempts cutover.is_asked so_far.shown.shown (renaming_after plan Insp listing (answers.Tables tables) so_far.renaming) tables tables
    by one = still one

    done : (one : Answer) → IsDone (finishing_after cutover Looking one)
    done answers.Lost = old.done
    done (answers.TimedOut waited) = old.done
    done (answers.Tables tables) = finishing_done (left_at_end cutover tables) cutover.hold cutover.renamer_waits so_far.renamed old.done
    done one = old.done

  finishing_drops : (left : Leftovers) (name : List ℕ) → InspectorOld (Finishing (Drops left)) → InspectorNew (Call (requests.Drop name)) (Finishing (Drops left))
  finishing_drops left name old = makes (Call (requests.Drop name)) (Finishing (Drops left)) (by answer) (done answer) old where
    looks : (one : Answer) → Is (Call (requests.Drop name)) one (Finishing Looking)
    looks one = record { counted = tt; passes = tt; shows = tt; holds = λ on. refl; drops = tt }

    by : (one : Answer) → Is (Call (requests.Drop name)) one (finishing_after cutover (Drops left) one)
    by answers.Lost = looks answers.Lost
    by (answers.TimedOut waited) = looks (answers.TimedOut waited)
    by (answers.Ok count) = dropped_order plan cutover own old.may_drop so_far.hints.passed cutover.attempts cutover.is_asked so_far.shown.shown false so_far.listed left old.phase_is.drops.1
    by one = record { counted = tt; passes = tt; shows = tt; holds = λ on. refl; drops = old.phase_is.drops }

    done : (one : Answer) → IsDone (finishing_after cutover (Drops left) one)
    done answers.Lost = old.done
    done (answers.TimedOut waited) = old.done
    done (answers.Ok count) = finishing_done (without_first left) cutover.hold cutover.renamer_waits so_far.renamed old.done
    done one = old.done

  -- *An answer to the inspector*
  pub inspector_order : (phase : Phase) (request : Request) → inspector_call cutover phase ≡ Some request → answers_to request answer ≡ true → (phase ≡ Attempting Showing → request ≡ requests.ShowWaiting → (waiters : List ShownWaiter) → answer ≡ answers.Waiting waiters → has_session so_far.shown.session waiters ≡ true)
      → InspectorOld phase → InspectorNew (Call request) phase
  inspector_order (Attempting Hinting) request call fits shows old = hinting (Call request) old
  inspector_order (Attempting (ReadingCounter drain)) request call fits shows old = reading (Call request) drain old
  inspector_order (Attempting (SettingCounter number drain)) request call fits shows old = setting (Call request) number drain old
  inspector_order (Attempting Showing) request call fits shows old = showing (Call request) (shows refl (let same : request ≡ requests.ShowWaiting = cc in same)) old
  inspector_order (Attempting stage) request call fits shows old = absurd cc
  inspector_order (Ending Looking) request call fits shows old = at (is_free cutover.hold cutover.renamer_waits) refl call where
    at : (b : Bool) → is_free cutover.hold cutover.renamer_waits ≡ b → cond b (clears cutover.table Looking) None ≡ Some request → InspectorNew (Call request) (Ending Looking)
    at true free call = some_request (λ r. InspectorNew (Call r) (Ending Looking)) requests.ShowTables request call (ending_lists (free_so cutover.hold cutover.renamer_waits free) old)
    at false held call = absurd cc
  inspector_order (Ending (Drops left)) request call fits shows old = at (is_free cutover.hold cutover.renamer_waits) call where
    drops : requests.Drop (first_name cutover.table left) ≡ request → InspectorNew (Call request) (Ending (Drops left))
    drops same =
        subst (λ (r : Request). InspectorNew (Call r) (Ending (Drops left))) same (ending_drops left (first_name cutover.table left) (ap (λ (r : Request). answers_to r answer) same ∙ fits) old)

    at : (b : Bool) → cond b (clears cutover.table (Drops left)) None ≡ Some request → InspectorNew (Call request) (Ending (Drops left))
    at true call = drops (let same : requests.Drop (first_name cutover.table left) ≡ request = cc in same)
    at false call = absurd cc
  inspector_order (Finishing Looking) request call fits shows old = some_request (λ r. InspectorNew (Call r) (Finishing Looking)) requests.ShowTables request call (finishing_lists old)
  inspector_order (Finishing (Drops left)) request call fits shows old =
      some_request (λ r. InspectorNew (Call r) (Finishing (Drops left))) (requests.Drop (first_name cutover.table left)) request call (finishing_drops left (first_name cutover.table left) old)
  inspector_order Resting request call fits shows old = absurd cc
  inspector_order Finished request call fits shows old = absurd cc

  -- a note's row is written while no attempt stands
  pub noted_order : (phase : Phase) (request : Request) → phase ≡ Resting → InspectorOld phase → InspectorNew (Call request) phase
  noted_order phase request resting old = subst (InspectorNew (Call request)) (sym resting) (at_rest (subst InspectorOld resting old)) where
    at_rest : InspectorOld Resting → InspectorNew (Call request) Resting
    at_rest rests = makes (Call request) Resting (record { counted = tt; passes = tt; shows = tt; holds = fewer (Call request) answer Resting rests; drops = tt }) tt rests

  -- the request that sets the counter is polled
  polled_ends : (table : List ℕ) (number : ℕ) (one : Answer) → answers_to (requests.SetCounter table number) one ≡ true → ending_after cutover Looking one ≡ Ending Looking
  polled_ends table number answers.Lost fits = refl
  polled_ends table number (answers.TimedOut waited) fits = refl
  polled_ends table number (answers.Tables tables) fits = absurd (false≢true fits)
  polled_ends table number one fits = refl

  pub polled_order : (phase : Phase) (request : Request) → SetsCounter plan phase request → answers_to request answer ≡ true → InspectorOld phase → InspectorNew Poll phase
  polled_order (Attempting (SettingCounter number drain)) request sets fits old = setting Poll number drain old
  polled_order (Ending Looking) request sets fits old =
      let still : ending_after cutover Looking answer ≡ Ending Looking = polled_ends (ghost_name plan.table) sets.0 answer (ap (λ (r : Request). answers_to r answer) (sym sets.1) ∙ fits) in
      makes Poll (Ending Looking) (subst (Is Poll answer) (sym still) (record { counted = tt; passes = tt; shows = tt; holds = fewer Poll answer (Ending Looking) old; drops = tt })) (subst IsDone (sym still) tt) old
  polled_order phase request sets fits old = absurd sets

-- its session is lost between calls
pub inspector_lost_order : (plan : PlanData) (cutover : CutOver) (so_far : Words) (live : Option ℕ) (applier : Applier) (session : ℕ) → OrderedAt plan so_far live cutover.attempts cutover.hold cutover.renamer_waits cutover.is_asked cutover.drops_old cutover.phase applier
    → OrderedAt plan (words_after plan Insp session Cut answers.Lost so_far) live cutover.attempts cutover.hold cutover.renamer_waits cutover.is_asked cutover.drops_old (inspector_phase cutover cutover.phase answers.Lost) applier
inspector_lost_order plan cutover so_far live applier session old = by cutover.phase old.phase_is old.done where
  New : Phase → Type 0
  New phase = OrderedAt plan (words_after plan Insp session Cut answers.Lost so_far) live cutover.attempts cutover.hold cutover.renamer_waits cutover.is_asked cutover.drops_old (inspector_phase cutover phase answers.Lost) applier

  Is : Phase → Type 0
  Is phase = PhaseOrder plan so_far.shown.shown so_far.hints.passed so_far.renaming so_far.listed cutover.attempts cutover.is_asked phase

  left : (phase next : Phase) → inspector_phase cutover phase answers.Lost ≡ next → Is next → DoneAt next cutover.hold cutover.renamer_waits so_far.renamed → New phase
  left phase next same is done = record {
    begun = old.begun;
    locker = old.locker;
    renamer = old.renamer;
    session = old.session;
    phase_is = subst Is (sym same) is;
    applied = old.applied;
    may_drop = old.may_drop;
    done = subst (λ (p : Phase). DoneAt p cutover.hold cutover.renamer_waits so_far.renamed) (sym same) done;
  }

  by : (phase : Phase) → Is phase → DoneAt phase cutover.hold cutover.renamer_waits so_far.renamed → New phase
  by Resting is done = left Resting Resting refl is done
  by (Attempting stage) is done = left (Attempting stage) (Ending Looking) refl (fails plan so_far.shown.shown so_far.hints.passed so_far.renaming so_far.listed cutover.attempts cutover.is_asked stage is) tt
  by (Ending clearing) is done = left (Ending clearing) (Ending Looking) refl (record { counted = tt; passes = tt; shows = tt; holds = is.holds; drops = tt }) tt
  by (Finishing clearing) is done = left (Finishing clearing) (Finishing Looking) refl (record { counted = tt; passes = tt; shows = tt; holds = is.holds; drops = tt }) done
  by Finished is done = left Finished Finished refl is done
