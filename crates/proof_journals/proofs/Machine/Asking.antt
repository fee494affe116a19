-- What is given to an actor of the tool is what its machine's step says, and comes where its session doesn't wait.
use Rattle.std.proofs.Common.{◌≡◌, ◌<◌, ℕ, zero, suc, ◌==◌, Bool, true, false, cond, ◌||◌, List, [], ◌∷◌, length, Option, Some, None, refl, sym, ap, ◌∙◌, subst, inl, inr, arith}
use Rattle.std.specs.List.{list_any, slice_get}
use Rattle.std.proofs.lemmas.Bool.{true≢false}
use Rattle.base_values.specs.declared.value.Value.{Value}
use Rattle.base_values.specs.declared.event.RowEvent.{RowEvent}
use Rattle.server_model.specs.declared.entry.Entry.{Entry}
use Rattle.server_model.specs.declared.request.Request.{Request}
use Rattle.server_model.specs.declared.request.Request.TheVariants as requests
use Rattle.server_model.specs.declared.session.HeldName.{HeldName}
use Rattle.server_model.specs.declared.session.Session.{Session}
use Rattle.server_model.specs.declared.session.Waiting.{Waiting}
use Rattle.server_model.specs.Entries.{answer_at}
use Rattle.server_model.specs.EarlierAnswers.{events_in}
use Rattle.server_model.specs.States.{State, session_of, is_in_transaction, holds_tables, is_waiting, waiting_of, has_work, locked_names, kept_names}
use Rattle.plan_data.specs.PlanData.{PlanData}
use Rattle.base_values.specs.ToolNames.{old_name}
use Rattle.tool_changelog.specs.ToolTables.{sentry_schema}
use Rattle.tool_program.specs.declared.chunk_copier.copier.Copier.{Copier}
use Rattle.tool_program.specs.declared.chunk_copier.copier.CopyRange.{CopyRange}
use Rattle.tool_program.specs.declared.chunk_copier.copier.CopyStep.{CopyStep}
use Rattle.tool_program.specs.declared.chunk_copier.copier.CopyStep.TheVariants as copying
use Rattle.tool_program.specs.ChunkCopier.Copiers as copiers
use Rattle.tool_program.specs.declared.event_applier.applier.Applier.{Applier}
use Rattle.tool_program.specs.declared.event_applier.applier.ApplyStep.{ApplyStep}
use Rattle.tool_program.specs.declared.event_applier.applier.ApplyStep.TheVariants as applying
use Rattle.tool_program.specs.EventApplier.Appliers as appliers
use Rattle.tool_program.specs.EventApplier.Appliers.{Doing, planned, doing_in, statement_result}
use Rattle.tool_program.specs.declared.cutover_core.cutover.Clearing.{Clearing as Cleared}
use Rattle.tool_program.specs.declared.cutover_core.cutover.Clearing.TheVariants.{Looking, Drops}
use Rattle.tool_program.specs.declared.cutover_core.cutover.CutOver.{CutOver}
use Rattle.tool_program.specs.declared.cutover_core.cutover.Hold.{Hold}
use Rattle.tool_program.specs.declared.cutover_core.cutover.Hold.TheVariants.{Nothing, WaitsToGuard, WaitsToLock, Locks}
use Rattle.tool_program.specs.declared.cutover_core.cutover.Phase.{Phase}
use Rattle.tool_program.specs.declared.cutover_core.cutover.Phase.TheVariants.{Resting, Attempting, Ending, Finishing, Finished}
use Rattle.tool_program.specs.declared.cutover_core.cutover.Role.TheVariants.{Inspector, Locker, Renamer}
use Rattle.tool_program.specs.declared.cutover_core.cutover.Stage.TheVariants.{Locking, Hinting, ReadingCounter, SettingCounter, Drained, Showing, Dropping, Unlocking}
use Rattle.tool_program.specs.CutoverCore.Attempts as cutovers
use Rattle.tool_program.specs.CutoverCore.Attempts.{exchange, unlocks, clears, is_free}
use Rattle.tool_program.specs.Setups.{Setup, Listing, Clearing, MakingLog, MakingGhost, Marking, Reaching, Ready, setup_call}
use Rattle.tool_program.specs.Programs.{waits}
use Rattle.proof_journals.specs.Holdings.{face_in, face_of, names_of}
use Rattle.proof_journals.specs.Turns.{request_of}
use Rattle.proof_journals.proofs.Waiting.{none_waits}
use Rattle.proof_journals.proofs.Faces.{busy_face}
use Rattle.proof_journals.specs.Machine.Standings.{free, standing_in}
use Rattle.proof_journals.specs.Machine.Machines.{waits_so, inspector_asks, copier_asks, applier_asks, BatchKnown, both_names, held, PhaseHolds, renaming}
use Rattle.proof_journals.proofs.Machine.CuttingOver.{LockerAsks}

pub some_request : (P : Request → Type 0) (a b : Request) → Some a ≡ Some b → P a → P b
some_request P a b same is = let one : a ≡ b = cc in subst P one is

-- WHETHER A SESSION WAITS

pub idle_waits : (state : State) (live : Option ℕ) → waits state live ≡ false → (standing_in state live).waits ≡ None
idle_waits state None is = refl
idle_waits state (Some n) is = ap request_of (none_waits n state.waiting is)

pub record WaitsWith (waits : Option Request) : Type 0 where
  pub request : Request
  pub is : waits ≡ Some request

found_waits : (n : ℕ) (waiting : List Waiting) → list_any (λ one. one.session == n) waiting ≡ true → WaitsWith (request_of (waiting_of n waiting))
found_waits n [] is = absurd cc
found_waits n (one ∷ waiting) is = at (one.session == n) is (found_waits n waiting) where
  at : (b : Bool) → (b || list_any (λ one. one.session == n) waiting) ≡ true → (list_any (λ one. one.session == n) waiting ≡ true → WaitsWith (request_of (waiting_of n waiting))) → WaitsWith (request_of (cond b (Some one) (waiting_of n waiting)))
  at true is rest = record { request = one.request; is = refl }
  at false is rest = rest is

pub busy_waits : (state : State) (live : Option ℕ) → waits state live ≡ true → WaitsWith (standing_in state live).waits
busy_waits state None is = absurd cc
busy_waits state (Some n) is = found_waits n state.waiting is

-- A SESSION WITHOUT WORK

none_kept : (held : List HeldName) → list_any (λ one. one.exclusive) held ≡ false → locked_names held ≡ []
none_kept [] is = refl
none_kept (h ∷ held) is = at h.exclusive refl is (none_kept held) where
  at : (b : Bool) → h.exclusive ≡ b → (b || list_any (λ one. one.exclusive) held) ≡ false → (list_any (λ one. one.exclusive) held ≡ false → locked_names held ≡ []) → names_of (cond b (h ∷ kept_names held) (kept_names held)) ≡ []
  at true exclusive is rest = absurd (true≢false is)
  at false shared is rest = rest is

kept_none : (held : List HeldName) → locked_names held ≡ [] → list_any (λ one. one.exclusive) held ≡ false
kept_none [] is = refl
kept_none (h ∷ held) is = at h.exclusive refl is (kept_none held) where
  at : (b : Bool) → h.exclusive ≡ b → names_of (cond b (h ∷ kept_names held) (kept_names held)) ≡ [] → (locked_names held ≡ [] → list_any (λ one. one.exclusive) held ≡ false) → (b || list_any (λ one. one.exclusive) held) ≡ false
  at true exclusive some rest = absurd cc
  at false shared is rest = rest is

-- it holds LOCK TABLES exactly where it locked some table
pub unlocked_holds : (found : Option Session) → (face_in found).locked ≡ [] → holds_tables found ≡ false
unlocked_holds None is = refl
unlocked_holds (Some session) is = kept_none session.names is

some_kept : (held : List HeldName) (name : List ℕ) (names : List (List ℕ)) → locked_names held ≡ name ∷ names → list_any (λ one. one.exclusive) held ≡ true
some_kept held name names is = at (list_any (λ one. one.exclusive) held) refl where
  at : (b : Bool) → list_any (λ one. one.exclusive) held ≡ b → b ≡ true
  at true some = refl
  at false none = absurd (no (sym (none_kept held none) ∙ is)) where
    no : [] ≡ name ∷ names → ⊥
    no same = cc

pub locked_holds : (found : Option Session) (name : List ℕ) (names : List (List ℕ)) → (face_in found).locked ≡ name ∷ names → holds_tables found ≡ true
locked_holds None name names is = absurd cc
locked_holds (Some session) name names is = some_kept session.names name names is

idle_face : (found : Option Session) → holds_tables found ≡ false → (face_in found).locked ≡ []
idle_face None is = refl
idle_face (Some session) is = none_kept session.names is

or_first : (a b c : Bool) → (a || b || c) ≡ false → (a ≡ false) × (b ≡ false) × (c ≡ false)
or_first true b c is = absurd (true≢false is)
or_first false true c is = absurd (true≢false is)
or_first false false true is = absurd (true≢false is)
or_first false false false is = (refl, refl, refl)

pub idle_stands : (state : State) (n : ℕ) → has_work state n ≡ false → standing_in state (Some n) ≡ free
idle_stands state n is =
    let parts = or_first (is_in_transaction (session_of n state.sessions)) (holds_tables (session_of n state.sessions)) (is_waiting state n) is in
    let busy : (face_of state.sessions n).busy ≡ false = sym (busy_face (session_of n state.sessions)) ∙ parts.0 in
    let locked : (face_of state.sessions n).locked ≡ [] = idle_face (session_of n state.sessions) parts.1 in
    let waits : request_of (waiting_of n state.waiting) ≡ None = ap request_of (none_waits n state.waiting parts.2) in
    λ i. record { busy = busy i; locked = locked i; waits = waits i }

-- THE MACHINES' NEXT CALLS

pub unless_called : (held : Bool) (call : Option Request) (request : Request) → cond held None call ≡ Some request → call ≡ Some request
unless_called true call request is = absurd cc
unless_called false call request is = is

copier_at : (journal : List Entry) (copier : Copier) (range : CopyRange) (step : CopyStep) (request : Request) → copiers.call_at journal copier range step ≡ Some request → copier_asks step request ≡ true
copier_at journal copier range copying.Choosing request is = some_request (λ r. copier_asks copying.Choosing r ≡ true) _ request is refl
copier_at journal copier range (copying.Spanning reported size) request is = some_request (λ r. copier_asks (copying.Spanning reported size) r ≡ true) _ request is refl
copier_at journal copier range (copying.Committing chunk) request is = some_request (λ r. copier_asks (copying.Committing chunk) r ≡ true) _ request is refl
copier_at journal copier range (copying.Copying chunk copied) request is = at (copiers.key_at journal (copying.Copying chunk copied)) is where
  at : (key : Option (List Value)) → copiers.copies copier key ≡ Some request → copier_asks (copying.Copying chunk copied) request ≡ true
  at None none = absurd cc
  at (Some key) some = some_request (λ r. copier_asks (copying.Copying chunk copied) r ≡ true) _ request some refl

copier_in : (journal : List Entry) (copier : Copier) (range : Option CopyRange) (request : Request) → copiers.call_in journal copier range ≡ Some request → copier_asks copier.step request ≡ true
copier_in journal copier None request is = absurd cc
copier_in journal copier (Some range) request is = copier_at journal copier range copier.step request is

pub copier_next : (journal : List Entry) (copier : Copier) (request : Request) → copiers.next journal copier ≡ Some request → copier_asks copier.step request ≡ true
unfolding copiers.next
copier_next journal copier request is = copier_in journal copier copier.range request (unless_called copier.is_copied (copiers.call_in journal copier copier.range) request is)

-- the applier's statement is there
slice_some : {A : Type 0} (xs : List A) (n : ℕ) → n < length xs → (P : Type 0) → ((x : A) → slice_get xs n ≡ Some x → P) → P
slice_some [] n below P then = absurd (omega (arith, below))
slice_some (x ∷ xs) zero below P then = then x refl
slice_some (x ∷ xs) (suc n) below P then = slice_some xs n (omega (arith, below)) P then

pub applier_next : (journal : List Entry) (applier : Applier) (step : ApplyStep) → BatchKnown journal applier step → applier_asks step (appliers.call_at journal applier step) ≡ true
applier_next journal applier applying.Reading known = refl
applier_next journal applier (applying.Beginning batch) known = refl
applier_next journal applier (applying.Committing batch) known = refl
applier_next journal applier (applying.Applying batch done part) known =
    let events : events_in (answer_at journal batch.read) ≡ known.0.events = ap events_in known.0.reported in
    let below : done < length (planned applier (events_in (answer_at journal batch.read))) = subst (λ (e : List RowEvent). done < length (planned applier e)) (sym events) (subst (λ (n : ℕ). done < n) known.0.counted known.1) in
    slice_some (planned applier (events_in (answer_at journal batch.read))) done below (applier_asks (applying.Applying batch done part) (appliers.call_at journal applier (applying.Applying batch done part)) ≡ true)
    (λ doing is. ap (λ (o : Option Doing). applier_asks (applying.Applying batch done part) (statement_result applier (doing_in part o))) is)

setup_asks : (plan : PlanData) (setup : Setup) (request : Request) → setup_call plan setup ≡ Some request → inspector_asks request ≡ true
setup_asks plan Listing request is = some_request (λ r. inspector_asks r ≡ true) _ request is refl
setup_asks plan (Clearing left) request is = some_request (λ r. inspector_asks r ≡ true) _ request is refl
setup_asks plan MakingLog request is = some_request (λ r. inspector_asks r ≡ true) _ request is refl
setup_asks plan MakingGhost request is = some_request (λ r. inspector_asks r ≡ true) _ request is refl
setup_asks plan Marking request is = some_request (λ r. inspector_asks r ≡ true) _ request is refl
setup_asks plan (Reaching position) request is = some_request (λ r. inspector_asks r ≡ true) _ request is refl
setup_asks plan (Ready position range) request is = absurd cc

pub setup_next : (plan : PlanData) (reverting : Bool) (setup : Setup) (request : Request) → cond reverting None (setup_call plan setup) ≡ Some request → inspector_asks request ≡ true
setup_next plan reverting setup request is = setup_asks plan setup request (unless_called reverting (setup_call plan setup) request is)

clears_asks : (table : List ℕ) (clearing : Cleared) (request : Request) → clears table clearing ≡ Some request → inspector_asks request ≡ true
clears_asks table Looking request is = some_request (λ r. inspector_asks r ≡ true) _ request is refl
clears_asks table (Drops left) request is = some_request (λ r. inspector_asks r ≡ true) _ request is refl

free_nothing : (hold : Hold) (waits : Bool) → is_free hold waits ≡ true → hold ≡ Nothing
free_nothing Nothing waits is = refl
free_nothing WaitsToGuard waits is = absurd cc
free_nothing WaitsToLock waits is = absurd cc
free_nothing Locks waits is = absurd cc

-- the inspector's call in an attempt's end comes where the locker has nothing
abbrev pub EndsFree : Phase → Hold → Type 0
EndsFree (Ending clearing) hold = hold ≡ Nothing
EndsFree phase hold = Unit {0}

pub inspector_next : (cutover : CutOver) (request : Request) → cutovers.next Inspector cutover ≡ Some request → (inspector_asks request ≡ true) × EndsFree cutover.phase cutover.hold
unfolding cutovers.next
inspector_next cutover request is = by cutover.phase is where
  by : (phase : Phase) → cutovers.inspector_call cutover phase ≡ Some request → (inspector_asks request ≡ true) × EndsFree phase cutover.hold
  by (Attempting Hinting) is = (some_request (λ r. inspector_asks r ≡ true) _ request is refl, tt)
  by (Attempting (ReadingCounter drain)) is = (some_request (λ r. inspector_asks r ≡ true) _ request is refl, tt)
  by (Attempting (SettingCounter number drain)) is = (some_request (λ r. inspector_asks r ≡ true) _ request is refl, tt)
  by (Attempting Showing) is = (some_request (λ r. inspector_asks r ≡ true) _ request is refl, tt)
  by (Attempting stage) is = absurd cc
  by (Ending clearing) is = at (is_free cutover.hold cutover.renamer_waits) refl is where
    at : (b : Bool) → is_free cutover.hold cutover.renamer_waits ≡ b → cond b (clears cutover.table clearing) None ≡ Some request → (inspector_asks request ≡ true) × (cutover.hold ≡ Nothing)
    at true frees is = (clears_asks cutover.table clearing request is, free_nothing cutover.hold cutover.renamer_waits frees)
    at false held is = absurd cc
  by (Finishing clearing) is = (clears_asks cutover.table clearing request is, tt)
  by Resting is = absurd cc
  by Finished is = absurd cc

pub renamer_next : (cutover : CutOver) (request : Request) → cutovers.next Renamer cutover ≡ Some request → request ≡ exchange cutover.table
unfolding cutovers.next
renamer_next cutover request is = by cutover.phase is where
  by : (phase : Phase) → cutovers.renamer_call cutover phase ≡ Some request → request ≡ exchange cutover.table
  by (Attempting Drained) is = some_request (λ r. r ≡ exchange cutover.table) _ request is refl
  by (Attempting stage) is = absurd cc
  by Resting is = absurd cc
  by (Ending clearing) is = absurd cc
  by (Finishing clearing) is = absurd cc
  by Finished is = absurd cc

-- the locker's call, where it doesn't wait
pub locker_next : (cutover : CutOver) (request : Request) → PhaseHolds cutover.phase cutover.hold → (held cutover.table cutover.hold).waits ≡ None → cutovers.next Locker cutover ≡ Some request → LockerAsks cutover.table cutover.hold cutover.phase request
unfolding cutovers.next
locker_next cutover request at none is = by cutover.phase cutover.hold at none is where
  Asks : Hold → Phase → Type 0
  Asks hold phase = LockerAsks cutover.table hold phase request

  one_of : (hold one : Hold) (phase : Phase) → hold ≡ one → Asks one phase → Asks hold phase
  one_of hold one phase same asks = subst (λ (h : Hold). Asks h phase) (sym same) asks

  sentry : (stopped : Bool) → cond stopped None (Some (requests.Create (sentry_schema cutover.table))) ≡ Some request → request ≡ requests.Create (sentry_schema cutover.table)
  sentry true is = absurd cc
  sentry false is = some_request (λ r. r ≡ requests.Create (sentry_schema cutover.table)) _ request is refl

  waiting : (hold : Hold) → hold ≡ WaitsToLock → (held cutover.table hold).waits ≡ None → ⊥
  waiting hold is none = some_none (ap (λ (h : Hold). (held cutover.table h).waits) (sym is) ∙ none) where
    some_none : Some (requests.LockTables (both_names cutover.table)) ≡ None → ⊥
    some_none same = cc

  frees : (hold : Hold) (clearing : Cleared) → unlocks hold ≡ Some request → Asks hold (Ending clearing)
  frees Locks clearing is = some_request (λ r. r ≡ requests.Unlock) _ request is refl
  frees Nothing clearing is = absurd cc
  frees WaitsToGuard clearing is = absurd cc
  frees WaitsToLock clearing is = absurd cc

  by : (phase : Phase) (hold : Hold) → PhaseHolds phase hold → (held cutover.table hold).waits ≡ None → cutovers.locker_call (record cutover { hold = hold }) phase ≡ Some request → Asks hold phase
  by Resting hold at none is = one_of hold Nothing Resting at (sentry cutover.is_stopped is)
  by (Attempting Locking) hold (inl at) none is = one_of hold Nothing (Attempting Locking) at (some_request (λ r. r ≡ requests.LockTables (both_names cutover.table)) _ request is refl)
  by (Attempting Locking) hold (inr at) none is = absurd (waiting hold at none)
  by (Attempting Dropping) hold at none is = one_of hold Locks (Attempting Dropping) at (some_request (λ r. r ≡ requests.Drop (old_name cutover.table)) _ request is refl)
  by (Attempting Unlocking) hold at none is = one_of hold Locks (Attempting Unlocking) at (some_request (λ r. r ≡ requests.Unlock) _ request is refl)
  by (Attempting stage) hold at none is = absurd cc
  by (Ending clearing) hold at none is = frees hold clearing is
  by (Finishing clearing) hold at none is = absurd cc
  by Finished hold at none is = absurd cc

-- ... and where it waits
pub locker_waits : (table : List ℕ) (hold : Hold) (phase : Phase) (request : Request) → (held table hold).waits ≡ Some request → LockerAsks table hold phase request
locker_waits table Nothing phase request is = absurd cc
locker_waits table Locks phase request is = absurd cc
locker_waits table WaitsToGuard phase request is = some_request (λ r. r ≡ requests.Create (sentry_schema table)) _ request is refl
locker_waits table WaitsToLock phase request is = some_request (λ r. r ≡ requests.LockTables (both_names table)) _ request is refl

pub renamer_waits : (table : List ℕ) (waits : Bool) (request : Request) → (renaming table waits).waits ≡ Some request → request ≡ exchange table
renamer_waits table true request is = some_request (λ r. r ≡ exchange table) _ request is refl
renamer_waits table false request is = absurd cc

-- who waits with a request of this kind
pub waits_asks : (asks : Request → Bool) (waits : Option Request) (request : Request) → waits_so asks waits ≡ true → waits ≡ Some request → asks request ≡ true
waits_asks asks waits request so is = ap (waits_so asks) (sym is) ∙ so
