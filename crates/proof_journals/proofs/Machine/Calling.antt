-- What is given to an actor of the tool may come now.
use Rattle.std.proofs.Common.{◌≡◌, ◌⊎◌, ℕ, Bool, true, false, cond, not, ◌&&◌, ◌||◌, List, [], ◌∷◌, ◌++◌, Option, Some, None, refl, sym, ap, ◌∙◌, subst, inl, inr}
use Rattle.std.specs.Prelude.{◌==◌, is_some}
use Rattle.std.specs.List.{list_any}
use Rattle.std.proofs.lemmas.Bool.{true≢false}
use Rattle.base_script.specs.declared.actor.Actor.{Actor}
use Rattle.base_script.specs.declared.actor.Actor.TheVariants.{Op, Insp, Copy, Apply, Lock, Ren, Client}
use Rattle.server_model.specs.Along.{Along}
use Rattle.server_model.specs.Conditions.{ComesWell}
use Rattle.server_model.specs.declared.entry.Asked.TheVariants.{Call}
use Rattle.server_model.specs.declared.entry.Entry.{Entry}
use Rattle.server_model.specs.declared.request.Request.{Request}
use Rattle.server_model.specs.declared.request.Request.TheVariants as requests
use Rattle.server_model.specs.declared.session.Session.{Session}
use Rattle.server_model.specs.declared.session.Waiting.{Waiting}
use Rattle.server_model.specs.Entries.{is_client}
use Rattle.server_model.specs.States.{State, session_of, is_in_transaction, holds_tables, waiting_of}
use Rattle.plan_data.specs.PlanData.{PlanData}
use Rattle.base_values.specs.ToolNames.{old_name}
use Rattle.tool_program.specs.JournalWords.Journals.{state_at, IsAnswered}
use Rattle.tool_program.specs.JournalWords.Clients.{client_at, client_asks, is_inside, word_asks}
use Rattle.tool_program.specs.JournalWords.Sessions.{live_session, IsSeated, KeepsSessions}
use Rattle.tool_program.specs.declared.chunk_copier.copier.CopyStep.{CopyStep}
use Rattle.tool_program.specs.declared.chunk_copier.copier.CopyStep.TheVariants as copying
use Rattle.tool_program.specs.ChunkCopier.Copiers as copiers
use Rattle.tool_program.specs.declared.event_applier.applier.ApplyStep.{ApplyStep}
use Rattle.tool_program.specs.declared.event_applier.applier.ApplyStep.TheVariants as applying
use Rattle.tool_program.specs.EventApplier.Appliers as appliers
use Rattle.tool_program.specs.declared.cutover_core.cutover.Hold.{Hold}
use Rattle.tool_program.specs.declared.cutover_core.cutover.Hold.TheVariants.{Nothing, WaitsToGuard, WaitsToLock, Locks}
use Rattle.tool_program.specs.declared.cutover_core.cutover.Phase.{Phase}
use Rattle.tool_program.specs.declared.cutover_core.cutover.Phase.TheVariants.{Resting, Attempting, Ending}
use Rattle.tool_program.specs.declared.cutover_core.cutover.Role.TheVariants.{Locker}
use Rattle.tool_program.specs.declared.cutover_core.cutover.Stage.TheVariants.{Locking, Dropping, Unlocking}
use Rattle.tool_program.specs.CutoverCore.Attempts as cutovers
use Rattle.tool_program.specs.CutoverCore.Attempts.{exchange}
use Rattle.tool_program.specs.CutoverCore.CutOvers.{is_resting}
use Rattle.tool_program.specs.Operators.{is_throttled}
use Rattle.tool_program.specs.Programs.{in_transaction, tool_call, tool_asks, copy_call, may_begin, rolls_back, given, IsFollowed, Follows}
use Rattle.tool_program.specs.Tools.{Work, ToolPhase, SettingUp, Migrating, Moment, is_reverting, moment}
use Rattle.proof_journals.specs.Turns.{request_of}
use Rattle.proof_journals.proofs.Journals.{opened_waits}
use Rattle.proof_journals.proofs.Faces.{busy_face}
use Rattle.proof_journals.specs.Machine.Standings.{Standing, free, standing, standing_of, MayTake, opened_for}
use Rattle.proof_journals.specs.Machine.Machines.{inspector_asks, copier_asks, copier_busy, applier_asks, applier_busy, ApplierStands, held, renaming, ToolPhaseStands}
use Rattle.proof_journals.specs.Machine.Scripts.{WordFits, LinesFit}
use Rattle.proof_journals.specs.Machine.Laws.{AnswersTellStandings, MachinesStand, IsCalledWell, GivenCallsComeWell}
use Rattle.proof_journals.proofs.Machine.Seated.{IsKnown, IsServed, all_known, IsOpened, is_opened, others_stand, own_stands, own_heard}
use Rattle.proof_journals.proofs.Machine.CuttingOver.{LockerAsks}
use Rattle.proof_journals.proofs.Machine.Asking.{some_request, unlocked_holds, locked_holds, unless_called, copier_next, applier_next, setup_next, renamer_next, locker_next}
use Rattle.proof_journals.proofs.Machine.Inspecting.{inspector_called}
use Rattle.proof_journals.proofs.Machine.Clients.{ClientStands, Next, calls_line, polls_line, client_next, line_comes}
use Rattle.proof_journals.proofs.Machine.ClientJournals.{ClientsTogether, all_clients}
use Rattle.proof_journals.proofs.Machine.Journals.{IsTogether, all_together, Asking, calls_so, polls_so, asking, apply_called}

-- *Answers tell standings*
pub served_along : (plan : PlanData) (before journal : List Entry) → Along (λ some entry. IsAnswered (state_at plan some) entry) before journal → Along IsSeated before journal → Along (IsServed plan) before journal
served_along plan before [] answered seated = tt
served_along plan before (entry ∷ journal) answered seated = (record { answered = answered.0; seated = seated.0 }, served_along plan (before ++ entry ∷ []) journal answered.1 seated.1)

pub answers_tell : AnswersTellStandings
unfolding KeepsSessions
answers_tell plan journal entry faithful kept answered seated =
    let known : IsKnown plan journal = all_known plan journal (served_along plan [] journal faithful kept) in
    let served : IsServed plan journal entry = record { answered = answered; seated = seated } in
    record {
      others = λ a differ. others_stand plan journal entry known served a differ;
      own = λ request about. own_stands plan journal entry known served request about;
      heard = λ request about no_side. own_heard plan journal entry known served request about no_side;
    }

-- *Machines stand with their sessions*
pub machines_stand : MachinesStand
machines_stand plan journal faithful follows = (all_together plan journal faithful follows).stands

-- HOW A REQUEST COMES, BY WHAT ITS SESSION HAS

abbrev Comes : Standing → Bool → Request → Type 0
Comes standing locked request = ComesWell standing.busy locked request

-- what is asked on a way back, or else
pub reverting_or : (A : Type 0) (reverting : Bool) (back call : Option Request) (request : Request) → cond reverting back call ≡ Some request → (reverting ≡ true → back ≡ Some request → A) → (reverting ≡ false → call ≡ Some request → A) → A
reverting_or A true back call request is one other = one refl is
reverting_or A false back call request is one other = other refl is

insp_comes : (standing : Standing) (locked : Bool) (request : Request) → standing.busy ≡ false → inspector_asks request ≡ true → Comes standing locked request
insp_comes standing locked (requests.Do statement) busy kind = tt
insp_comes standing locked (requests.Ends table) busy kind = tt
insp_comes standing locked (requests.Create schema) busy kind = tt
insp_comes standing locked (requests.Drop name) busy kind = busy
insp_comes standing locked requests.LogEnd busy kind = tt
insp_comes standing locked requests.ShowTables busy kind = tt
insp_comes standing locked requests.ShowWaiting busy kind = tt
insp_comes standing locked (requests.ShowCounter table) busy kind = tt
insp_comes standing locked (requests.SetCounter table least) busy kind = busy
insp_comes standing locked request busy kind = absurd cc

copy_comes : (standing : Standing) (locked : Bool) (step : CopyStep) (request : Request) → standing.busy ≡ copier_busy step → locked ≡ false → copier_asks step request ≡ true → Comes standing locked request
copy_comes standing locked copying.Choosing (requests.ChunkEnd table low top size) busy none kind = tt
copy_comes standing locked (copying.Spanning reported most) (requests.BeginSpan table span size) busy none kind = (busy, none)
copy_comes standing locked (copying.Copying chunk copied) (requests.CopyRow from into map key) busy none kind = busy
copy_comes standing locked (copying.Committing chunk) requests.Commit busy none kind = busy
copy_comes standing locked step request busy none kind = absurd cc

apply_comes : (standing : Standing) (locked : Bool) (step : ApplyStep) (request : Request) → standing.busy ≡ applier_busy step → locked ≡ false → applier_asks step request ≡ true → Comes standing locked request
apply_comes standing locked applying.Reading (requests.ReadLog position limit tables) busy none kind = tt
apply_comes standing locked (applying.Beginning batch) requests.Begin busy none kind = (busy, none)
apply_comes standing locked (applying.Applying batch done part) (requests.Do statement) busy none kind = tt
apply_comes standing locked (applying.Committing batch) requests.Commit busy none kind = busy
apply_comes standing locked step request busy none kind = absurd cc

-- the locker's, where it doesn't wait
abbrev LockedAs : List ℕ → Hold → Bool → Type 0
LockedAs table Locks locked = locked ≡ true
LockedAs table hold locked = locked ≡ false

lock_comes : (table : List ℕ) (hold : Hold) (phase : Phase) (locked : Bool) (request : Request) → LockedAs table hold locked → (held table hold).waits ≡ None → LockerAsks table hold phase request → Comes (held table hold) locked request
lock_comes table Nothing Resting locked request shows none asks = subst (Comes free locked) (sym asks) tt
lock_comes table Nothing (Attempting Locking) locked request shows none asks = subst (Comes free locked) (sym asks) (refl, shows)
lock_comes table Nothing phase locked request shows none asks = absurd asks
lock_comes table WaitsToGuard phase locked request shows none asks = absurd cc
lock_comes table WaitsToLock phase locked request shows none asks = absurd cc
lock_comes table Locks (Attempting Dropping) locked request shows none asks = subst (Comes (held table Locks) locked) (sym asks) refl
lock_comes table Locks (Attempting Unlocking) locked request shows none asks = subst (Comes (held table Locks) locked) (sym asks) shows
lock_comes table Locks (Ending clearing) locked request shows none asks = subst (Comes (held table Locks) locked) (sym asks) shows
lock_comes table Locks phase locked request shows none asks = absurd asks

ren_comes : (table : List ℕ) (waits locked : Bool) (request : Request) → request ≡ exchange table → Comes (renaming table waits) locked request
ren_comes table true locked request is = subst (Comes (renaming table true) locked) (sym is) refl
ren_comes table false locked request is = subst (Comes (renaming table false) locked) (sym is) refl

-- WHAT IS GIVEN

pub none_asked : (n : ℕ) (waiting : List Waiting) → request_of (waiting_of n waiting) ≡ None → list_any (λ one. one.session == n) waiting ≡ false
none_asked n [] none = refl
none_asked n (one ∷ waiting) none = at (one.session == n) none (none_asked n waiting) where
  at : (b : Bool) → request_of (cond b (Some one) (waiting_of n waiting)) ≡ None → (request_of (waiting_of n waiting) ≡ None → list_any (λ one. one.session == n) waiting ≡ false) → (b || list_any (λ one. one.session == n) waiting) ≡ false
  at true some rest = absurd cc
  at false none rest = rest none

-- the request comes in the session, whatever that holds of LOCK TABLES, where its names say so
abbrev pub ComesIn : PlanData → List Entry → Actor → Request → Type 0
ComesIn plan journal actor request = (locked : Bool) → ((standing_of plan journal actor).locked ≡ [] → locked ≡ false) → ((name : List ℕ) (names : List (List ℕ)) → (standing_of plan journal actor).locked ≡ name ∷ names → locked ≡ true) → ComesWell (standing_of plan journal actor).busy locked request

-- in its session, once that is live
pub opened_comes : (plan : PlanData) (journal : List Entry) (actor : Actor) (request : Request) (n : ℕ) → IsOpened plan journal actor n → (standing_of plan journal actor).waits ≡ None → ComesIn plan journal actor request → IsCalledWell (opened_for plan journal actor n) n request
opened_comes plan journal actor request n opened_one idle comes = record {
  live = ap is_some opened_one.is;
  idle = ap (λ (w : List Waiting). list_any (λ one. one.session == n) w) (opened_waits false (not (is_client actor)) n (state_at plan journal)) ∙ none_asked n (state_at plan journal).waiting (ap (λ (s : Standing). s.waits) (sym opened_one.stands) ∙ idle);
  comes =
      subst (λ (o : Option Session). ComesWell (is_in_transaction o) (holds_tables o) request) (sym opened_one.is)
      (subst (λ (b : Bool). ComesWell b (holds_tables (Some opened_one.found)) request) (ap (λ (s : Standing). s.busy) opened_one.stands)
      (comes (holds_tables (Some opened_one.found)) (λ none. unlocked_holds (Some opened_one.found) (ap (λ (s : Standing). s.locked) (sym opened_one.stands) ∙ none))
      (λ name names some. locked_holds (Some opened_one.found) name names (ap (λ (s : Standing). s.locked) (sym opened_one.stands) ∙ some))));
}

module _ (plan : PlanData) (journal : List Entry) (is : IsTogether plan journal) where
  abbrev now : Moment
  now = moment plan journal

  back_comes : (actor : Actor) (request : Request) → rolls_back now.server (live_session journal actor) ≡ Some request → ComesIn plan journal actor request
  back_comes actor request back locked none some = by (live_session journal actor) refl back where
    busy_is : (live : Option ℕ) → in_transaction now.server live ≡ (Rattle.proof_journals.specs.Machine.Standings.standing_in now.server live).busy
    busy_is None = refl
    busy_is (Some n) = busy_face (session_of n now.server.sessions)

    by : (live : Option ℕ) → live_session journal actor ≡ live → cond (in_transaction now.server live) (Some requests.Rollback) None ≡ Some request → ComesWell (standing_of plan journal actor).busy locked request
    by live lives is_back = at (in_transaction now.server live) refl is_back where
      at : (b : Bool) → in_transaction now.server live ≡ b → cond b (Some requests.Rollback) None ≡ Some request → ComesWell (standing_of plan journal actor).busy locked request
      at true busy one =
          some_request (λ r. ComesWell (standing_of plan journal actor).busy locked r) requests.Rollback request one
          (ap (λ (l : Option ℕ). (Rattle.proof_journals.specs.Machine.Standings.standing_in (state_at plan journal) l).busy) lives ∙ ap (λ (s : State). (Rattle.proof_journals.specs.Machine.Standings.standing_in s live).busy) (sym is.server) ∙ sym (busy_is live) ∙ busy)
      at false busy one = absurd cc

  going_stands : {A : Type 0} (B : Type 0) → (is_reverting now.tool.reason ≡ true) ⊎ A → is_reverting now.tool.reason ≡ false → (A → B) → B
  going_stands B (inl reverting) going then = absurd (true≢false (sym reverting ∙ going))
  going_stands B (inr stands) going then = then stands

  applied : (work : Work) (request : Request) → ApplierStands journal work.applier (standing_of plan journal Apply) → Rattle.tool_program.specs.Programs.apply_call plan now.server journal now.tool work ≡ Some request → applier_asks work.applier.step request ≡ true
  unfolding appliers.next
  applied work request stands asks = ap (applier_asks work.applier.step) (apply_called plan journal work request asks) ∙ applier_next journal work.applier work.applier.step stands.known

  call_comes : (actor : Actor) (request : Request) (tool_phase : ToolPhase) → now.tool.tool_phase ≡ tool_phase → ToolPhaseStands journal (standing_of plan journal) (is_reverting now.tool.reason) tool_phase → (standing_of plan journal actor).waits ≡ None
      → tool_call plan now.server journal now.tool tool_phase actor ≡ Some request → ComesIn plan journal actor request
  call_comes Insp request (SettingUp setup tries) tool_phase at idle call locked none some = insp_comes (standing_of plan journal Insp) locked request at.inspector.busy (setup_next plan (is_reverting now.tool.reason) setup request call)
  call_comes Insp request (Migrating work) tool_phase at idle call locked none some = insp_comes (standing_of plan journal Insp) locked request at.inspector.busy (inspector_called plan journal now.tool work request call).0
  call_comes Copy request (Migrating work) tool_phase at idle call locked none some =
      reverting_or (ComesWell (standing_of plan journal Copy).busy locked request) (is_reverting now.tool.reason) (rolls_back now.server (live_session journal Copy)) (copy_call plan now.server journal now.tool work) request call
      (λ reverting back. back_comes Copy request back locked none some)
      (λ going asks. going_stands (ComesWell (standing_of plan journal Copy).busy locked request) at.copier going
      (λ stands. copy_comes (standing_of plan journal Copy) locked work.copier.step request stands.busy (none stands.locked)
      (copier_next journal work.copier request (unless_called (copiers.starts work.copier && is_throttled plan now.server now.tool.operator) (copiers.next journal work.copier) request asks))))
  call_comes Apply request (Migrating work) tool_phase at idle call locked none some =
      reverting_or (ComesWell (standing_of plan journal Apply).busy locked request) (is_reverting now.tool.reason) (rolls_back now.server (live_session journal Apply)) (Rattle.tool_program.specs.Programs.apply_call plan now.server journal now.tool work) request call
      (λ reverting back. back_comes Apply request back locked none some)
      (λ going asks. going_stands (ComesWell (standing_of plan journal Apply).busy locked request) at.applier going
      (λ stands. apply_comes (standing_of plan journal Apply) locked work.applier.step request stands.stands.busy (none stands.stands.locked) (applied work request stands asks)))
  call_comes Lock request (Migrating work) tool_phase at idle call locked none some =
      subst (λ (s : Standing). ComesWell s.busy locked request) (sym at.locker)
      (lock_comes work.cutover.table work.cutover.hold work.cutover.phase locked request (is_held work.cutover.hold at.locker) waits_none
      (locker_next work.cutover request at.phase waits_none (unless_called (is_resting work.cutover.phase && not (may_begin plan now.server now.tool work)) (cutovers.next Locker work.cutover) request call)))
    where
      waits_none : (held work.cutover.table work.cutover.hold).waits ≡ None
      waits_none = ap (λ (s : Standing). s.waits) (sym at.locker) ∙ idle

      is_held : (hold : Hold) → standing_of plan journal Lock ≡ held work.cutover.table hold → LockedAs work.cutover.table hold locked
      is_held Locks is = some work.cutover.table (old_name work.cutover.table ∷ []) (ap (λ (s : Standing). s.locked) is)
      is_held Nothing is = none (ap (λ (s : Standing). s.locked) is)
      is_held WaitsToGuard is = none (ap (λ (s : Standing). s.locked) is)
      is_held WaitsToLock is = none (ap (λ (s : Standing). s.locked) is)
  call_comes Ren request (Migrating work) tool_phase at idle call locked none some =
      subst (λ (s : Standing). ComesWell s.busy locked request) (sym at.renamer) (ren_comes work.cutover.table work.cutover.renamer_waits locked request (renamer_next work.cutover request call))
  call_comes actor request (SettingUp setup tries) same at idle call locked none some = absurd cc
  call_comes actor request (Migrating work) same at idle call locked none some = absurd cc

  asked_comes : (actor : Actor) (request : Request) (n : ℕ) → tool_asks plan journal now actor ≡ Some (Call request) → MayTake journal n (live_session journal actor) → IsCalledWell (opened_for plan journal actor n) n request
  asked_comes actor request n asks may = by (asking plan journal actor (Call request) is.server asks) where
    by : Asking plan journal actor (Call request) → IsCalledWell (opened_for plan journal actor n) n request
    by (polls_so other polled some) = absurd (no polled) where
      no : Call request ≡ Rattle.server_model.specs.declared.entry.Asked.TheVariants.Poll → ⊥
      no same = cc
    by (calls_so other called idle call) =
        let one : other ≡ request = cc in
        opened_comes plan journal actor request n (is_opened plan journal actor n is.known may) idle (call_comes actor request now.tool.tool_phase refl is.stands idle (call ∙ ap Some one))

-- a client's line
client_called : (plan : PlanData) (journal : List Entry) (c : ℕ) (request : Request) (n : ℕ) → ClientsTogether plan journal → client_asks plan journal c ≡ Some (Call request) → MayTake journal n (live_session journal (Client c)) → IsCalledWell (opened_for plan journal (Client c) n) n request
client_called plan journal c request n is gives may = by (client_next plan journal c (Call request) gives) where
  by : Next (client_at plan journal c) (Call request) → IsCalledWell (opened_for plan journal (Client c) n) n request
  by (calls_line line lines going off left same) =
      let one : word_asks line.word ≡ request = cc in
      let at : ClientStands (client_at plan journal c) (standing_of plan journal (Client c)) = is.each c in
      let fits : WordFits (is_inside (client_at plan journal c).lines) line.word = (subst (LinesFit (is_inside (client_at plan journal c).lines)) left (at.left going)).0 in
      opened_comes plan journal (Client c) request n (is_opened plan journal (Client c) n is.known may) (at.free off)
      (λ locked none some. subst (λ (r : Request). ComesWell (standing_of plan journal (Client c)).busy locked r) one (line_comes line.word (standing_of plan journal (Client c)).busy locked (subst (λ (b : Bool). WordFits b line.word) (sym at.busy) fits) (none at.locked)))
  by (polls_line going on same) = absurd (no same) where
    no : Call request ≡ Rattle.server_model.specs.declared.entry.Asked.TheVariants.Poll → ⊥
    no both = cc

-- *Given calls come well*
pub given_calls : GivenCallsComeWell
unfolding given
given_calls plan journal (Client c) request n fit faithful follows gives may = client_called plan journal c request n (all_clients plan journal fit faithful follows) gives may
given_calls plan journal Op request n fit faithful follows gives may = absurd (no (Rattle.std.specs.List.slice_get (Rattle.tool_program.specs.JournalWords.KeptPlans.words_of plan) (moment plan journal).tool.operator.taken) gives) where
  no : (word : Option Rattle.base_script.specs.declared.operator.OperatorWord.OperatorWord) → Rattle.tool_program.specs.Programs.commands word ≡ Some (Call request) → ⊥
  no None same = cc
  no (Some word) same = cc
given_calls plan journal Insp request n fit faithful follows gives may = asked_comes plan journal (all_together plan journal faithful follows) Insp request n gives may
given_calls plan journal Copy request n fit faithful follows gives may = asked_comes plan journal (all_together plan journal faithful follows) Copy request n gives may
given_calls plan journal Apply request n fit faithful follows gives may = asked_comes plan journal (all_together plan journal faithful follows) Apply request n gives may
given_calls plan journal Lock request n fit faithful follows gives may = asked_comes plan journal (all_together plan journal faithful follows) Lock request n gives may
given_calls plan journal Ren request n fit faithful follows gives may = asked_comes plan journal (all_together plan journal faithful follows) Ren request n gives may
