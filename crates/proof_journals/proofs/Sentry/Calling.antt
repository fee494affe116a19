-- *What the program has the locker and the renamer ask*, and what the server's laws then give for the sentry relation.
use Rattle.std.proofs.Common.{◌≡◌, ◌≢◌, ℕ, Bool, true, false, not, ◌&&◌, cond, List, [], ◌∷◌, Option, Some, None, refl, sym, ap, ◌∙◌, subst}
use Rattle.std.proofs.lemmas.Option.{same_Some}
use Rattle.std.proofs.lemmas.Slice.Eq.{bytes_eq-Decides}
use Rattle.base_script.specs.declared.actor.Actor.TheVariants.{Lock, Ren}
use Rattle.server_model.specs.declared.answer.Answer.TheVariants as answers
use Rattle.server_model.specs.declared.request.Request.TheVariants as requests
use Rattle.tool_program.specs.CutoverCore.Attempts as cutovers
use Rattle.proof_journals.specs.Sentry.Sentries.{scene, Fits, LockerMay, LockerServes, LocksServes, DropsServes, MayAnswer}
use Rattle.proof_journals.specs.Sentry.TurnResults.{LockerCalls, OtherTurn}
use Rattle.proof_journals.specs.ServerTurns.Others.{TurnOf}
use Rattle.proof_journals.specs.Sentry.Turns.{LeavesTables, CallLeaves, LockLeaves, DropLeaves, UnlockLeaves}
use Rattle.proof_journals.proofs.Sentry.Serving.{takes_lock, drops_sentry, frees_lock, only_frees, waits_on, others_turn}
use Rattle.server_model.specs.declared.answer.Answer.{Answer}
use Rattle.server_model.specs.declared.request.Request.{Request}
use Rattle.server_model.specs.declared.entry.Entry.{Entry}
use Rattle.server_model.specs.declared.entry.Asked.TheVariants.{Call, Poll}
use Rattle.server_model.specs.States.{State}
use Rattle.plan_data.specs.PlanData.{PlanData}
use Rattle.base_values.specs.ToolNames.{old_name}
use Rattle.tool_changelog.specs.ToolTables.{sentry_schema}
use Rattle.tool_program.specs.declared.cutover_core.cutover.CutOver.{CutOver}
use Rattle.tool_program.specs.declared.cutover_core.cutover.Phase.{Phase}
use Rattle.tool_program.specs.declared.cutover_core.cutover.Phase.TheVariants.{Resting, Attempting, Ending, Finishing, Finished}
use Rattle.tool_program.specs.declared.cutover_core.cutover.Stage.TheVariants.{Guarding, Locking, Hinting, ReadingCounter, SettingCounter, Draining, Drained, Showing, Dropping, Unlocking, Exchanging}
use Rattle.tool_program.specs.declared.cutover_core.cutover.Hold.{Hold}
use Rattle.tool_program.specs.declared.cutover_core.cutover.Hold.TheVariants.{Nothing, WaitsToGuard, WaitsToLock, Locks}
use Rattle.tool_program.specs.CutoverCore.Attempts.{locker_call, unlocks, renamer_call}
use Rattle.tool_program.specs.CutoverCore.CutOvers.{is_resting}
use Rattle.tool_program.specs.JournalWords.Sessions.{live_session}
use Rattle.tool_program.specs.Tools.{Work, Moment, moment}
use Rattle.tool_program.specs.Tools.ToolPhase.{Migrating}
use Rattle.tool_program.specs.Programs.{given, tool_call, lock_call, may_begin, calls, waits}

-- THE LOCKER'S CALLS

locker_calls : (cutover : CutOver) (phase : Phase) (request : Request) → locker_call cutover phase ≡ Some request → LockerCalls cutover.table phase cutover.hold request
locker_calls cutover Resting request e = by cutover.is_stopped e
  where
    by : (b : Bool) → cond b None (Some (requests.Create (sentry_schema cutover.table))) ≡ Some request → request ≡ requests.Create (sentry_schema cutover.table)
    by true e = absurd cc
    by false e = sym (same_Some (requests.Create (sentry_schema cutover.table)) request e)
locker_calls cutover (Attempting Locking) request e = sym (same_Some (requests.LockTables (cutover.table ∷ old_name cutover.table ∷ [])) request e)
locker_calls cutover (Attempting Dropping) request e = sym (same_Some (requests.Drop (old_name cutover.table)) request e)
locker_calls cutover (Attempting Unlocking) request e = sym (same_Some requests.Unlock request e)
locker_calls cutover (Ending clearing) request e = by cutover.hold e
  where
    by : (hold : Hold) → unlocks hold ≡ Some request → (hold ≡ Locks) × (request ≡ requests.Unlock)
    by Locks e = (refl, sym (same_Some requests.Unlock request e))
    by Nothing e = absurd cc
    by WaitsToGuard e = absurd cc
    by WaitsToLock e = absurd cc
locker_calls cutover (Attempting Guarding) request e = absurd cc
locker_calls cutover (Attempting Hinting) request e = absurd cc
locker_calls cutover (Attempting (Draining turns)) request e = absurd cc
locker_calls cutover (Attempting (ReadingCounter drain)) request e = absurd cc
locker_calls cutover (Attempting (SettingCounter number drain)) request e = absurd cc
locker_calls cutover (Attempting Drained) request e = absurd cc
locker_calls cutover (Attempting Showing) request e = absurd cc
locker_calls cutover (Attempting Exchanging) request e = absurd cc
locker_calls cutover (Finishing clearing) request e = absurd cc
locker_calls cutover Finished request e = absurd cc

called : (option : Option Request) (request : Request) → calls option ≡ Some (Call request) → option ≡ Some request
called None request e = absurd cc
called (Some one) request e = cc

never_polls : (option : Option Request) → calls option ≡ Some Poll → ⊥
never_polls None e = cc
never_polls (Some one) e = cc

pub asks_call : (b : Bool) (option : Option Request) (request : Request) → cond b (Some Poll) (calls option) ≡ Some (Call request) → option ≡ Some request
asks_call true option request e = absurd cc
asks_call false option request e = called option request e

pub asks_poll : (b : Bool) (option : Option Request) → cond b (Some Poll) (calls option) ≡ Some Poll → b ≡ true
asks_poll true option e = refl
asks_poll false option e = absurd (never_polls option e)

-- what the journal so far gives the locker: its call; and where that makes the sentry, the range is copied
pub locker_given : (plan : PlanData) (journal : List Entry) (work : Work) (request : Request) → (moment plan journal).tool.tool_phase ≡ Migrating work → given plan journal Lock ≡ Some (Call request)
    → LockerCalls work.cutover.table work.cutover.phase work.cutover.hold request × (work.cutover.phase ≡ Resting → work.copier.is_copied ≡ true)
unfolding given cutovers.next
locker_given plan journal work request is e = (locker_calls work.cutover work.cutover.phase request (next_is (is_resting work.cutover.phase) (may_begin plan now.server now.tool work) call), λ rests. copied (may_begin plan now.server now.tool work) refl (begun rests))
  where
    now : Moment
    now = moment plan journal

    asked : tool_call plan now.server journal now.tool now.tool.tool_phase Lock ≡ Some request
    asked = asks_call (waits now.server (live_session journal Lock)) (tool_call plan now.server journal now.tool now.tool.tool_phase Lock) request e

    call : lock_call plan now.server now.tool work ≡ Some request
    call = ap (λ tool_phase. tool_call plan now.server journal now.tool tool_phase Lock) (sym is) ∙ asked

    next_is : (a b : Bool) → cond (a && not b) None (locker_call work.cutover work.cutover.phase) ≡ Some request → locker_call work.cutover work.cutover.phase ≡ Some request
    next_is true true e = e
    next_is true false e = absurd cc
    next_is false b e = e

    begun : work.cutover.phase ≡ Resting → cond (true && not (may_begin plan now.server now.tool work)) None (locker_call work.cutover work.cutover.phase) ≡ Some request
    begun rests = ap (λ p. cond (is_resting p && not (may_begin plan now.server now.tool work)) None (locker_call work.cutover work.cutover.phase)) (sym rests) ∙ call

    copied : (b : Bool) → may_begin plan now.server now.tool work ≡ b → cond (true && not b) None (locker_call work.cutover work.cutover.phase) ≡ Some request → work.copier.is_copied ≡ true
    copied true begins e = front work.copier.is_copied _ _ _ begins
      where
        front : (a b c d : Bool) → (a && b && c && d) ≡ true → a ≡ true
        front true b c d e = refl
        front false b c d e = absurd cc
    copied false begins e = absurd cc

-- WHAT THE SERVER THEN GIVES

lock_serves : (t : List ℕ) (l : ℕ) (answer : Answer) (before after : State) → LockLeaves (t ∷ old_name t ∷ []) l answer before after → LocksServes t l answer (scene before) (scene after)
lock_serves t l (answers.Ok count) before after left = takes_lock t l before after left.taken (λ other apart. left.alone.alone_after other t apart (rw ((bytes_eq-Decides t t).1 refl) refl)) left.defines
lock_serves t l answers.Lost before after left = tt
lock_serves t l (answers.TimedOut waited) before after left = tt
lock_serves t l answer before after left = left (old_name t)

drop_serves : (t : List ℕ) (l r : ℕ) (answer : Answer) (before after : State) → r ≢ l → DropLeaves (old_name t) l answer before after → DropsServes t l r answer (scene before) (scene after)
drop_serves t l r (answers.Ok count) before after apart left = (drops_sentry t before after left.tables left.names left.logs, waits_on t r l before after left.turn apart)
drop_serves t l r answers.Lost before after apart left = frees_lock t l r before after apart left.turn left.logs
drop_serves t l r (answers.TimedOut waited) before after apart left = absurd left
drop_serves t l r answer before after apart left = record { tables = left.defines (old_name t); held = left.names; log = left.logs; waits = waits_on t r l before after left.turn apart }

unlock_may : (l : ℕ) (hold : Hold) (answer : Answer) (before after : State) → UnlockLeaves l answer before after → LockerMay (Attempting Unlocking) hold answer × LeavesTables l before after
unlock_may l hold (answers.Ok count) before after left = (tt, left)
unlock_may l hold answers.Lost before after left = (tt, left)
unlock_may l hold answer before after left = absurd left

create_serves : (t : List ℕ) (l r : ℕ) (hold : Hold) (answer : Answer) (before after : State) → CallLeaves l (requests.Create (sentry_schema t)) answer before after → LockerServes t l r Resting hold answer (scene before) (scene after)
unfolding sentry_schema
create_serves t l r hold (answers.Ok count) before after left = left
create_serves t l r hold answer before after left = tt

-- *The locker's call*: where the server leaves what its laws say of the request, the locker's step of the relation follows
pub locker_serves : (t : List ℕ) (l r : ℕ) (phase : Phase) (hold : Hold) (request : Request) (answer : Answer) (before after : State) → r ≢ l → LockerCalls t phase hold request → CallLeaves l request answer before after → LockerMay phase hold answer × LockerServes t l r phase hold answer (scene before) (scene after)
locker_serves t l r Resting hold request answer before after apart asked left = (tt, create_serves t l r hold answer before after (subst (λ q. CallLeaves l q answer before after) asked left))
locker_serves t l r (Attempting Locking) hold request answer before after apart asked left = (tt, lock_serves t l answer before after (subst (λ q. CallLeaves l q answer before after) asked left))
locker_serves t l r (Attempting Dropping) hold request answer before after apart asked left = (tt, drop_serves t l r answer before after apart (subst (λ q. CallLeaves l q answer before after) asked left))
locker_serves t l r (Attempting Unlocking) hold request answer before after apart asked left =
    let both : LockerMay (Attempting Unlocking) hold answer × LeavesTables l before after = unlock_may l hold answer before after (subst (λ q. CallLeaves l q answer before after) asked left) in
    (both.0, only_frees t l r before after apart both.1.turn both.1.logs both.1.defines)
locker_serves t l r (Ending clearing) hold request answer before after apart asked left =
    let both : LockerMay (Attempting Unlocking) hold answer × LeavesTables l before after = unlock_may l hold answer before after (subst (λ q. CallLeaves l q answer before after) asked.1 left) in
    subst (λ h. LockerMay (Ending clearing) h answer × LockerServes t l r (Ending clearing) h answer (scene before) (scene after)) (sym asked.0) (tt, only_frees t l r before after apart both.1.turn both.1.logs both.1.defines)
locker_serves t l r (Attempting Guarding) hold request answer before after apart asked left = absurd asked
locker_serves t l r (Attempting Hinting) hold request answer before after apart asked left = absurd asked
locker_serves t l r (Attempting (Draining turns)) hold request answer before after apart asked left = absurd asked
locker_serves t l r (Attempting (ReadingCounter drain)) hold request answer before after apart asked left = absurd asked
locker_serves t l r (Attempting (SettingCounter number drain)) hold request answer before after apart asked left = absurd asked
locker_serves t l r (Attempting Drained) hold request answer before after apart asked left = absurd asked
locker_serves t l r (Attempting Showing) hold request answer before after apart asked left = absurd asked
locker_serves t l r (Attempting Exchanging) hold request answer before after apart asked left = absurd asked
locker_serves t l r (Finishing clearing) hold request answer before after apart asked left = absurd asked
locker_serves t l r Finished hold request answer before after apart asked left = absurd asked

-- THE RENAMER'S

drained_calls : (cutover : CutOver) (phase : Phase) (waits : Bool) (request : Request) → renamer_call cutover phase ≡ Some request → MayAnswer phase waits
drained_calls cutover (Attempting Drained) waits request e = tt
drained_calls cutover (Attempting Showing) waits request e = tt
drained_calls cutover (Attempting Dropping) waits request e = tt
drained_calls cutover (Attempting Unlocking) waits request e = tt
drained_calls cutover (Attempting Exchanging) waits request e = absurd cc
drained_calls cutover (Ending clearing) waits request e = absurd cc
drained_calls cutover Resting waits request e = absurd cc
drained_calls cutover (Attempting Guarding) waits request e = absurd cc
drained_calls cutover (Attempting Locking) waits request e = absurd cc
drained_calls cutover (Attempting Hinting) waits request e = absurd cc
drained_calls cutover (Attempting (Draining turns)) waits request e = absurd cc
drained_calls cutover (Attempting (ReadingCounter drain)) waits request e = absurd cc
drained_calls cutover (Attempting (SettingCounter number drain)) waits request e = absurd cc
drained_calls cutover (Finishing clearing) waits request e = absurd cc
drained_calls cutover Finished waits request e = absurd cc

no_claim : (claim : Type 0) (waits : Bool) → waits ≡ false → waits ≡ true → claim
no_claim claim true e f = absurd cc
no_claim claim false e f = absurd cc

waiting_may : (phase : Phase) (hold : Hold) (waits : Bool) → Fits phase hold waits → waits ≡ true → MayAnswer phase waits
waiting_may (Attempting Drained) hold waits fits so = tt
waiting_may (Attempting Showing) hold waits fits so = tt
waiting_may (Attempting Dropping) hold waits fits so = tt
waiting_may (Attempting Unlocking) hold waits fits so = tt
waiting_may (Attempting Exchanging) hold waits fits so = so
waiting_may (Ending clearing) hold waits fits so = so
waiting_may Resting hold waits fits so = no_claim (MayAnswer Resting waits) waits fits.1 so
waiting_may (Attempting Guarding) hold waits fits so = no_claim (MayAnswer Resting waits) waits fits.1 so
waiting_may (Attempting Locking) hold waits fits so = no_claim (MayAnswer Resting waits) waits fits.1 so
waiting_may (Attempting Hinting) hold waits fits so = no_claim (MayAnswer Resting waits) waits fits.1 so
waiting_may (Attempting (Draining turns)) hold waits fits so = no_claim (MayAnswer Resting waits) waits fits.1 so
waiting_may (Attempting (ReadingCounter drain)) hold waits fits so = no_claim (MayAnswer Resting waits) waits fits.1 so
waiting_may (Attempting (SettingCounter number drain)) hold waits fits so = no_claim (MayAnswer Resting waits) waits fits.1 so
waiting_may (Finishing clearing) hold waits fits so = no_claim (MayAnswer Resting waits) waits fits so
waiting_may Finished hold waits fits so = no_claim (MayAnswer Resting waits) waits fits so

-- the renamer is called for the RENAME alone
pub renamer_called : (plan : PlanData) (journal : List Entry) (work : Work) (request : Request) → (moment plan journal).tool.tool_phase ≡ Migrating work → given plan journal Ren ≡ Some (Call request) → MayAnswer work.cutover.phase work.cutover.renamer_waits
unfolding given cutovers.next
renamer_called plan journal work request is e =
    drained_calls work.cutover work.cutover.phase work.cutover.renamer_waits request
    (ap (λ tool_phase. tool_call plan now.server journal now.tool tool_phase Ren) (sym is) ∙ asks_call (waits now.server (live_session journal Ren)) (tool_call plan now.server journal now.tool now.tool.tool_phase Ren) request e)
  where
    now : Moment
    now = moment plan journal

-- it is polled where it waits
pub renamer_polled : (plan : PlanData) (journal : List Entry) (work : Work) → given plan journal Ren ≡ Some Poll → Fits work.cutover.phase work.cutover.hold work.cutover.renamer_waits → (waits (moment plan journal).server (live_session journal Ren) ≡ true → work.cutover.renamer_waits ≡ true)
    → MayAnswer work.cutover.phase work.cutover.renamer_waits
unfolding given
renamer_polled plan journal work e fits agrees =
    waiting_may work.cutover.phase work.cutover.hold work.cutover.renamer_waits fits (agrees (asks_poll (waits (moment plan journal).server (live_session journal Ren)) (tool_call plan (moment plan journal).server journal (moment plan journal).tool (moment plan journal).tool.tool_phase Ren) e))

-- *Another session's premise*, from the server's laws
pub other_says : (plan : PlanData) (before after : State) (l r s : ℕ) → l ≢ s → r ≢ s → TurnOf false s before after → OtherTurn plan before after l r s
other_says plan before after l r s apart other turn = (record { locks = apart; renames = other }, others_turn plan.table r s before after other turn)
