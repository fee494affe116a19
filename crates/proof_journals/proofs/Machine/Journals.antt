-- Behind every journal that is faithful and follows the program each machine's step and its session go together.
use Rattle.std.proofs.Common.{◌≡◌, ◌⊎◌, ℕ, ◌+◌, Bool, true, false, cond, not, ◌&&◌, List, [], ◌∷◌, ◌++◌, length, Option, Some, None, refl, sym, ap, ◌∙◌, subst, inl, inr}
use Rattle.std.specs.List.{list_any}
use Rattle.std.specs.Str.{bytes_eq}
use Rattle.std.proofs.Math.Bool.{or-true}
use Rattle.std.proofs.lemmas.Bool.{true≢false}
use Rattle.std.proofs.lemmas.List.{length_push}
use Rattle.std.proofs.lemmas.Option.{none-some}
use Rattle.base_script.specs.declared.actor.Actor.{Actor}
use Rattle.base_script.specs.declared.actor.Actor.TheVariants.{Op, Insp, Copy, Apply, Lock, Ren, Client}
use Rattle.base_script.specs.declared.operator.OperatorWord.{OperatorWord}
use Rattle.server_model.specs.Along.{Along, Along-keeps}
use Rattle.server_model.specs.declared.answer.Answer.{Answer}
use Rattle.server_model.specs.declared.answer.Answer.TheVariants as answers
use Rattle.server_model.specs.declared.entry.Asked.{Asked}
use Rattle.server_model.specs.declared.entry.Asked.TheVariants.{Call, Poll, Command, Cut}
use Rattle.server_model.specs.declared.entry.Entry.{Entry}
use Rattle.server_model.specs.declared.request.Request.{Request}
use Rattle.server_model.specs.declared.request.Request.TheVariants as requests
use Rattle.server_model.specs.Entries.{same_actor, is_client, is_cut}
use Rattle.server_model.specs.States.{State, has_work}
use Rattle.plan_data.specs.PlanData.{PlanData}
use Rattle.base_values.specs.ToolNames.{old_name}
use Rattle.tool_program.specs.JournalWords.Journals.{after_entry, state_at, IsAnswered, IsFaithful}
use Rattle.tool_program.specs.JournalWords.Sessions.{live_session}
use Rattle.tool_program.specs.JournalWords.Clients.{client_asks, client_at, line_asks}
use Rattle.tool_program.specs.ChunkCopier.Copiers as copiers
use Rattle.tool_program.specs.EventApplier.Appliers as appliers
use Rattle.tool_program.specs.declared.cutover_core.cutover.Hold.{Hold}
use Rattle.tool_program.specs.declared.cutover_core.cutover.Hold.TheVariants.{Nothing, Locks}
use Rattle.tool_program.specs.declared.cutover_core.cutover.Phase.{Phase}
use Rattle.tool_program.specs.declared.cutover_core.cutover.Phase.TheVariants.{Resting, Attempting, Ending, Finishing, Finished}
use Rattle.tool_program.specs.declared.cutover_core.cutover.Role.TheVariants.{Locker}
use Rattle.tool_program.specs.CutoverCore.Attempts as cutovers
use Rattle.tool_program.specs.CutoverCore.Attempts.{exchange}
use Rattle.tool_program.specs.CutoverCore.CutOvers.{is_resting, is_done}
use Rattle.tool_program.specs.Operators.{is_throttled}
use Rattle.tool_program.specs.Programs.{waits, calls, tool_call, tool_asks, copy_call, apply_call, may_read, may_begin, rolls_back, given, IsFollowed, IsGiven, Follows}
use Rattle.tool_program.specs.Tools.{Work, ToolPhase, SettingUp, Migrating, Tool, Moment, is_reverting, actor_took, asked_took, took, after_turn, moment}
use Rattle.server_model.proofs.LockedRows.Tests.{same_bytes}
use Rattle.proof_journals.specs.Machine.Standings.{Standing, free, standing_in, standing_of, answered, answers_to, IsAbout, is_called, is_polled}
use Rattle.proof_journals.specs.Machine.Machines.{Stands, inspector_asks, inspector_waits, copier_asks, copier_busy, applier_asks, ApplierStands, both_names, held, WorkStands, ToolPhaseStands}
use Rattle.proof_journals.proofs.Machine.Seated.{IsKnown, IsServed, known_begins, known_more, state_more, others_stand, own_stands, own_fits, own_prompt, own_lost, own_session}
use Rattle.proof_journals.proofs.Machine.Fitting.{IsPrompt}
use Rattle.proof_journals.proofs.Machine.Counting.{turns_more}
use Rattle.proof_journals.proofs.Machine.Copying.{copier_stands, copier_unfit}
use Rattle.proof_journals.proofs.Machine.Applying.{applier_stands, applier_unfit}
use Rattle.proof_journals.proofs.Machine.CuttingOver.{LockerAsks, ListsFree, locker_stands, locker_lost, renamer_has}
use Rattle.proof_journals.proofs.Machine.Turns.{inspector_stands, free_stands, drained, still, copy_turn, apply_turn, lock_turn, ren_turn, insp_turn, setup_turn, command_turn}
use Rattle.proof_journals.proofs.Machine.Asking.{idle_waits, WaitsWith, busy_waits, idle_stands, unless_called, copier_next, applier_next, setup_next, EndsFree, renamer_next, locker_next, locker_waits, renamer_waits, waits_asks}
use Rattle.proof_journals.proofs.Machine.Inspecting.{inspector_called}
use Rattle.proof_journals.proofs.Sentry.Inductions.{moment_more}

-- an entry of such a journal
pub record IsRun (plan : PlanData) (journal : List Entry) (entry : Entry) : Type 0 where
  pub answered : IsAnswered (state_at plan journal) entry
  pub followed : IsFollowed plan journal entry

-- what is so behind such a journal
pub record IsTogether (plan : PlanData) (journal : List Entry) : Type 0 where
  pub known : IsKnown plan journal
  pub server : (moment plan journal).server ≡ state_at plan journal
  pub turns : (moment plan journal).tool.turns ≡ length journal
  pub stands : ToolPhaseStands journal (standing_of plan journal) (is_reverting (moment plan journal).tool.reason) (moment plan journal).tool.tool_phase

-- what an actor of the tool asks in a turn: its machine's call, where it doesn't wait; else a poll
pub data Asking (plan : PlanData) (journal : List Entry) (actor : Actor) (asked : Asked) : Type 0 where
  calls_so : (request : Request) → asked ≡ Call request → (standing_of plan journal actor).waits ≡ None → tool_call plan (moment plan journal).server journal (moment plan journal).tool (moment plan journal).tool.tool_phase actor ≡ Some request → Asking plan journal actor asked
  polls_so : (request : Request) → asked ≡ Poll → (standing_of plan journal actor).waits ≡ Some request → Asking plan journal actor asked

pub asking : (plan : PlanData) (journal : List Entry) (actor : Actor) (asked : Asked) → (moment plan journal).server ≡ state_at plan journal → tool_asks plan journal (moment plan journal) actor ≡ Some asked → Asking plan journal actor asked
asking plan journal actor asked server is = by (waits (moment plan journal).server (live_session journal actor)) refl is where
  call : Option Request
  call = tool_call plan (moment plan journal).server journal (moment plan journal).tool (moment plan journal).tool.tool_phase actor

  called : (one : Option Request) → call ≡ one → waits (moment plan journal).server (live_session journal actor) ≡ false → calls one ≡ Some asked → Asking plan journal actor asked
  called None none idle is = absurd cc
  called (Some request) some idle is = calls_so request (let same : asked ≡ Call request = cc in same) (idle_waits (state_at plan journal) (live_session journal actor) (ap (λ (s : State). waits s (live_session journal actor)) (sym server) ∙ idle)) some

  by : (b : Bool) → waits (moment plan journal).server (live_session journal actor) ≡ b → cond b (Some Poll) (calls call) ≡ Some asked → Asking plan journal actor asked
  by true waiting is =
      let with : WaitsWith (standing_of plan journal actor).waits = busy_waits (state_at plan journal) (live_session journal actor) (ap (λ (s : State). waits s (live_session journal actor)) (sym server) ∙ waiting) in
      polls_so with.request (let same : asked ≡ Poll = cc in same) with.is
  by false idle is = called call refl idle is

-- a command is the operator's
pub never_commands : (plan : PlanData) (journal : List Entry) (actor : Actor) (word : OperatorWord) → tool_asks plan journal (moment plan journal) actor ≡ Some (Command word) → ⊥
never_commands plan journal actor word is = by (waits (moment plan journal).server (live_session journal actor)) (tool_call plan (moment plan journal).server journal (moment plan journal).tool (moment plan journal).tool.tool_phase actor) is where
  by : (b : Bool) (call : Option Request) → cond b (Some Poll) (calls call) ≡ Some (Command word) → ⊥
  by true call is = cc
  by false None is = cc
  by false (Some request) is = cc

pub client_commands : (plan : PlanData) (journal : List Entry) (client : ℕ) (word : OperatorWord) → client_asks plan journal client ≡ Some (Command word) → ⊥
unfolding client_asks
client_commands plan journal client word is = by (client_at plan journal client).is_lost (client_at plan journal client).waits (client_at plan journal client).left is where
  by : (lost waits : Bool) (left : _) → cond lost None (line_asks waits left) ≡ Some (Command word) → ⊥
  by true waits left is = cc
  by false waits [] is = cc
  by false true (line ∷ lines) is = cc
  by false false (line ∷ lines) is = cc

pub apply_called : (plan : PlanData) (journal : List Entry) (work : Work) (request : Request) → apply_call plan (moment plan journal).server journal (moment plan journal).tool work ≡ Some request → request ≡ appliers.next journal work.applier
apply_called plan journal work request is = by (is_done work.cutover.phase) (appliers.starts work.applier && not (may_read plan (moment plan journal).server (moment plan journal).tool work)) is where
  by : (a b : Bool) → cond a None (cond b None (Some (appliers.next journal work.applier))) ≡ Some request → request ≡ appliers.next journal work.applier
  by true b is = absurd cc
  by false true is = absurd cc
  by false false is = let one : appliers.next journal work.applier ≡ request = cc in sym one

module _ (plan : PlanData) (journal : List Entry) (entry : Entry) (is : IsTogether plan journal) (run : IsRun plan journal entry) where
  abbrev now : Moment
  now = moment plan journal

  abbrev tool : Tool
  tool = record now.tool { turns = now.tool.turns + 1 }

  abbrev more : List Entry
  more = journal ++ entry ∷ []

  abbrev has : Actor → Standing
  has = standing_of plan journal

  abbrev now_has : Actor → Standing
  now_has = standing_of plan more

  served : IsServed plan journal entry
  served = record { answered = run.answered; seated = record { session = run.followed.session } }

  turn_is : tool.turns ≡ length journal + 1
  turn_is = ap (λ (n : ℕ). n + 1) is.turns

  abbrev Together : Tool → Type 0
  Together after = ToolPhaseStands more now_has (is_reverting after.reason) after.tool_phase

  others : (a : Actor) → same_actor entry.actor a ≡ false → now_has a ≡ has a
  others a differ = others_stand plan journal entry is.known served a differ

  -- A TURN OF THIS ACTOR

  -- the turn is about a request
  pub about : (actor : Actor) (request : Request) → entry.actor ≡ actor → IsAbout request (has actor) entry.asked → IsAbout request (has entry.actor) entry.asked
  about actor request same is = subst (λ (a : Actor). IsAbout request (has a) entry.asked) (sym same) is

  pub has_now : (actor : Actor) (request : Request) → entry.actor ≡ actor → IsAbout request (has actor) entry.asked → now_has actor ≡ answered request entry.answer (has actor)
  has_now actor request same is_about = subst (λ (a : Actor). now_has a ≡ answered request entry.answer (has a)) same (own_stands plan journal entry is.known served request (about actor request same is_about))

  fits : (actor : Actor) (request : Request) → entry.actor ≡ actor → IsAbout request (has actor) entry.asked → answers_to request entry.answer ≡ true
  fits actor request same is_about = own_fits plan journal entry is.known served request (about actor request same is_about)

  pub others_same : (actor : Actor) → entry.actor ≡ actor → (a : Actor) → same_actor actor a ≡ false → now_has a ≡ has a
  others_same actor same a differ = others a (ap (λ (b : Actor). same_actor b a) same ∙ differ)

  some_not_none : (actor : Actor) (request : Request) → has actor ≡ free → (has actor).waits ≡ Some request → ⊥
  some_not_none actor request none some = no (sym (ap (λ (s : Standing). s.waits) none) ∙ some) where
    no : None ≡ Some request → ⊥
    no same = cc

  -- while the setup goes on the others aren't asked
  setup_none : (actor : Actor) → has actor ≡ free → ((request : Request) → tool_call plan now.server journal now.tool now.tool.tool_phase actor ≡ Some request → ⊥) → Asking plan journal actor entry.asked → ⊥
  setup_none actor rests none (calls_so request asks idle call) = none request call
  setup_none actor rests none (polls_so request asks some) = some_not_none actor request rests some

  going_not : {A : Type 0} → is_reverting now.tool.reason ≡ true → is_reverting now.tool.reason ≡ false → A
  going_not back onward = absurd (true≢false (sym back ∙ onward))

  -- THE COPIER

  pub copy_about : (work : Work) → now.tool.tool_phase ≡ Migrating work → WorkStands journal (is_reverting now.tool.reason) has work → is_reverting now.tool.reason ≡ false → Asking plan journal Copy entry.asked
      → (P : Type 0) → ((request : Request) → IsAbout request (has Copy) entry.asked → copier_asks work.copier.step request ≡ true → P) → P
  copy_about work tool_phase at going (calls_so request asks idle call) P then =
      then request (is_called asks idle)
      (copier_next journal work.copier request
      (unless_called (copiers.starts work.copier && is_throttled plan now.server now.tool.operator) (copiers.next journal work.copier) request
      (ap (λ (b : Bool). cond b (rolls_back now.server (live_session journal Copy)) (copy_call plan now.server journal now.tool work)) (sym going) ∙ ap (λ (c : ToolPhase). tool_call plan now.server journal now.tool c Copy) (sym tool_phase) ∙ call)))
  copy_about work tool_phase at going (polls_so request asks some) P then = then request (is_polled asks some) (by at.copier) where
    by : (is_reverting now.tool.reason ≡ true) ⊎ Stands (copier_asks work.copier.step) (copier_busy work.copier.step) [] (has Copy) → copier_asks work.copier.step request ≡ true
    by (inl reverting) = going_not reverting going
    by (inr stands) = waits_asks (copier_asks work.copier.step) (has Copy).waits request stands.waits some

  pub copier_had : (work : Work) → WorkStands journal (is_reverting now.tool.reason) has work → is_reverting now.tool.reason ≡ false → Stands (copier_asks work.copier.step) (copier_busy work.copier.step) [] (has Copy)
  copier_had work at going = by at.copier where
    by : (is_reverting now.tool.reason ≡ true) ⊎ Stands (copier_asks work.copier.step) (copier_busy work.copier.step) [] (has Copy) → Stands (copier_asks work.copier.step) (copier_busy work.copier.step) [] (has Copy)
    by (inl reverting) = going_not reverting going
    by (inr stands) = stands

  copy_asked : entry.actor ≡ Copy → Asking plan journal Copy entry.asked → (tool_phase : ToolPhase) → now.tool.tool_phase ≡ tool_phase → ToolPhaseStands journal has (is_reverting now.tool.reason) tool_phase → Together (actor_took plan Copy entry.answer tool_phase tool)
  copy_asked same asks (SettingUp setup tries) tool_phase at = absurd (setup_none Copy at.copier (λ request call. absurd (none-some request (ap (λ (c : ToolPhase). tool_call plan now.server journal now.tool c Copy) (sym tool_phase) ∙ call))) asks)
  copy_asked same asks (Migrating work) tool_phase at =
      copy_turn plan journal entry has now_has entry.answer work tool tool_phase (others_same Copy same) at
      (λ going. copy_about work tool_phase at going asks (Stands (copier_asks (copiers.took tool.turns work.copier entry.answer).step) (copier_busy (copiers.took tool.turns work.copier entry.answer).step) [] (now_has Copy))
      (λ request is_about kind. subst (Stands (copier_asks (copiers.took tool.turns work.copier entry.answer).step) (copier_busy (copiers.took tool.turns work.copier entry.answer).step) []) (sym (has_now Copy request same is_about)) (copier_stands tool.turns work.copier request entry.answer (has Copy) (copier_had work at going) kind)))
      (λ going place number unfit. copy_about work tool_phase at going asks (Stands (copier_asks work.copier.step) (copier_busy work.copier.step) [] (now_has Copy))
      (λ request is_about kind. subst (Stands (copier_asks work.copier.step) (copier_busy work.copier.step) []) (sym (has_now Copy request same is_about)) (copier_unfit work.copier request entry.answer (has Copy) place number (copier_had work at going) kind unfit)))

  -- THE APPLIER

  pub applier_had : (work : Work) → WorkStands journal (is_reverting now.tool.reason) has work → is_reverting now.tool.reason ≡ false → ApplierStands journal work.applier (has Apply)
  applier_had work at going = by at.applier where
    by : (is_reverting now.tool.reason ≡ true) ⊎ ApplierStands journal work.applier (has Apply) → ApplierStands journal work.applier (has Apply)
    by (inl reverting) = going_not reverting going
    by (inr stands) = stands

  pub apply_about : (work : Work) → now.tool.tool_phase ≡ Migrating work → WorkStands journal (is_reverting now.tool.reason) has work → is_reverting now.tool.reason ≡ false → Asking plan journal Apply entry.asked
      → (P : Type 0) → ((request : Request) → IsAbout request (has Apply) entry.asked → applier_asks work.applier.step request ≡ true → P) → P
  unfolding appliers.next
  apply_about work tool_phase at going (calls_so request asks idle call) P then =
      let one : request ≡ appliers.next journal work.applier = apply_called plan journal work request
      (ap (λ (b : Bool). cond b (rolls_back now.server (live_session journal Apply)) (apply_call plan now.server journal now.tool work)) (sym going) ∙ ap (λ (c : ToolPhase). tool_call plan now.server journal now.tool c Apply) (sym tool_phase) ∙ call) in
      then request (is_called asks idle) (ap (applier_asks work.applier.step) one ∙ applier_next journal work.applier work.applier.step (applier_had work at going).known)
  apply_about work tool_phase at going (polls_so request asks some) P then = then request (is_polled asks some) (waits_asks (applier_asks work.applier.step) (has Apply).waits request (applier_had work at going).stands.waits some)

  apply_asked : entry.actor ≡ Apply → Asking plan journal Apply entry.asked → (tool_phase : ToolPhase) → now.tool.tool_phase ≡ tool_phase → ToolPhaseStands journal has (is_reverting now.tool.reason) tool_phase → Together (actor_took plan Apply entry.answer tool_phase tool)
  apply_asked same asks (SettingUp setup tries) tool_phase at = absurd (setup_none Apply at.applier (λ request call. absurd (none-some request (ap (λ (c : ToolPhase). tool_call plan now.server journal now.tool c Apply) (sym tool_phase) ∙ call))) asks)
  apply_asked same asks (Migrating work) tool_phase at =
      apply_turn plan journal entry has now_has entry.answer work tool tool_phase (others_same Apply same) at
      (λ going. apply_about work tool_phase at going asks (ApplierStands more (appliers.took tool.turns work.applier entry.answer) (now_has Apply))
      (λ request is_about kind. subst (ApplierStands more (appliers.took tool.turns work.applier entry.answer)) (sym (has_now Apply request same is_about)) (applier_stands journal entry work.applier tool.turns request (has Apply) turn_is (applier_had work at going) kind)))
      (λ going place number unfit. apply_about work tool_phase at going asks (ApplierStands more work.applier (now_has Apply))
      (λ request is_about kind. subst (ApplierStands more work.applier) (sym (has_now Apply request same is_about)) (applier_unfit journal entry work.applier request (has Apply) place number (applier_had work at going) kind unfit)))

  -- THE LOCKER

  pub lock_about : (work : Work) → now.tool.tool_phase ≡ Migrating work → WorkStands journal (is_reverting now.tool.reason) has work → Asking plan journal Lock entry.asked
      → (P : Type 0) → ((request : Request) → IsAbout request (has Lock) entry.asked → LockerAsks work.cutover.table work.cutover.hold work.cutover.phase request → P) → P
  lock_about work tool_phase at (calls_so request asks idle call) P then =
      then request (is_called asks idle)
      (locker_next work.cutover request at.phase (ap (λ (s : Standing). s.waits) (sym at.locker) ∙ idle)
      (unless_called (is_resting work.cutover.phase && not (may_begin plan now.server now.tool work)) (cutovers.next Locker work.cutover) request (ap (λ (c : ToolPhase). tool_call plan now.server journal now.tool c Lock) (sym tool_phase) ∙ call)))
  lock_about work tool_phase at (polls_so request asks some) P then =
      then request (is_polled asks some) (locker_waits work.cutover.table work.cutover.hold work.cutover.phase request (ap (λ (s : Standing). s.waits) (sym at.locker) ∙ some))

  -- the sentry is dropped at once
  old_among : (table : List ℕ) → list_any (bytes_eq (old_name table)) (both_names table) ≡ true
  old_among table = rw (same_bytes (old_name table)) (or-true (bytes_eq (old_name table) table))

  drop_held : (table : List ℕ) (hold : Hold) (phase : Phase) → LockerAsks table hold phase (requests.Drop (old_name table)) → hold ≡ Locks
  drop_held table Locks phase asks = refl
  drop_held table Nothing Resting asks = absurd (let no : requests.Drop (old_name table) ≡ requests.Create _ = asks in cc)
  drop_held table Nothing (Attempting Rattle.tool_program.specs.declared.cutover_core.cutover.Stage.TheVariants.Locking) asks = absurd (let no : requests.Drop (old_name table) ≡ requests.LockTables _ = asks in cc)
  drop_held table Nothing phase asks = absurd asks
  drop_held table Rattle.tool_program.specs.declared.cutover_core.cutover.Hold.TheVariants.WaitsToGuard phase asks = absurd (let no : requests.Drop (old_name table) ≡ requests.Create _ = asks in cc)
  drop_held table Rattle.tool_program.specs.declared.cutover_core.cutover.Hold.TheVariants.WaitsToLock phase asks = absurd (let no : requests.Drop (old_name table) ≡ requests.LockTables _ = asks in cc)

  lock_prompt : (work : Work) (request : Request) → entry.actor ≡ Lock → WorkStands journal (is_reverting now.tool.reason) has work → IsAbout request (has Lock) entry.asked → LockerAsks work.cutover.table work.cutover.hold work.cutover.phase request → request ≡ requests.Drop (old_name work.cutover.table) → IsPrompt entry.answer
  lock_prompt work request same at is_about asks drops = by is_about where
    locks : work.cutover.hold ≡ Locks
    locks = drop_held work.cutover.table work.cutover.hold work.cutover.phase (subst (LockerAsks work.cutover.table work.cutover.hold work.cutover.phase) drops asks)

    has_lock : has Lock ≡ held work.cutover.table Locks
    has_lock = at.locker ∙ ap (held work.cutover.table) locks

    by : IsAbout request (has Lock) entry.asked → IsPrompt entry.answer
    by (is_called asks idle) =
        own_prompt plan journal entry is.known served (old_name work.cutover.table) (asks ∙ ap Call drops) (ap (λ (a : Actor). list_any (bytes_eq (old_name work.cutover.table)) (has a).locked) same ∙ ap (λ (s : Standing). list_any (bytes_eq (old_name work.cutover.table)) s.locked) has_lock ∙ old_among work.cutover.table)
    by (is_polled asks some) = absurd (no (sym (ap (λ (s : Standing). s.waits) has_lock) ∙ some)) where
      no : None ≡ Some request → ⊥
      no same = cc

  lock_asked : entry.actor ≡ Lock → Asking plan journal Lock entry.asked → (tool_phase : ToolPhase) → now.tool.tool_phase ≡ tool_phase → ToolPhaseStands journal has (is_reverting now.tool.reason) tool_phase → Together (actor_took plan Lock entry.answer tool_phase tool)
  lock_asked same asks (SettingUp setup tries) tool_phase at = absurd (setup_none Lock at.locker (λ request call. absurd (none-some request (ap (λ (c : ToolPhase). tool_call plan now.server journal now.tool c Lock) (sym tool_phase) ∙ call))) asks)
  lock_asked same asks (Migrating work) tool_phase at =
      lock_about work tool_phase at asks (Together (actor_took plan Lock entry.answer (Migrating work) tool))
      (λ request is_about kind. lock_turn plan journal entry has now_has entry.answer work tool (others_same Lock same) at
      (subst (Rattle.proof_journals.proofs.Machine.CuttingOver.LockerStands work.cutover.table _ _) (ap (answered request entry.answer) (sym at.locker) ∙ sym (has_now Lock request same is_about))
      (locker_stands work.cutover.table work.cutover.hold work.cutover.phase request entry.answer at.phase kind (fits Lock request same is_about) (λ drops. lock_prompt work request same at is_about kind drops))))

  -- THE RENAMER

  pub ren_about : (work : Work) → now.tool.tool_phase ≡ Migrating work → WorkStands journal (is_reverting now.tool.reason) has work → Asking plan journal Ren entry.asked → (P : Type 0) → ((request : Request) → IsAbout request (has Ren) entry.asked → request ≡ exchange work.cutover.table → P) → P
  ren_about work tool_phase at (calls_so request asks idle call) P then = then request (is_called asks idle) (renamer_next work.cutover request (ap (λ (c : ToolPhase). tool_call plan now.server journal now.tool c Ren) (sym tool_phase) ∙ call))
  ren_about work tool_phase at (polls_so request asks some) P then = then request (is_polled asks some) (renamer_waits work.cutover.table work.cutover.renamer_waits request (ap (λ (s : Standing). s.waits) (sym at.renamer) ∙ some))

  ren_asked : entry.actor ≡ Ren → Asking plan journal Ren entry.asked → (tool_phase : ToolPhase) → now.tool.tool_phase ≡ tool_phase → ToolPhaseStands journal has (is_reverting now.tool.reason) tool_phase → Together (actor_took plan Ren entry.answer tool_phase tool)
  ren_asked same asks (SettingUp setup tries) tool_phase at = absurd (setup_none Ren at.renamer (λ request call. absurd (none-some request (ap (λ (c : ToolPhase). tool_call plan now.server journal now.tool c Ren) (sym tool_phase) ∙ call))) asks)
  ren_asked same asks (Migrating work) tool_phase at =
      ren_about work tool_phase at asks (Together (actor_took plan Ren entry.answer (Migrating work) tool))
      (λ request is_about kind. ren_turn plan journal entry has now_has entry.answer work tool (others_same Ren same) at
      (has_now Ren request same is_about ∙ ap (λ (r : Request). answered r entry.answer (has Ren)) kind ∙ ap (answered (exchange work.cutover.table) entry.answer) at.renamer ∙ renamer_has work.cutover.table work.cutover.renamer_waits entry.answer))

  -- THE INSPECTOR

  waits_are_asks : (request : Request) → inspector_waits request ≡ true → inspector_asks request ≡ true
  waits_are_asks (requests.Do statement) is = refl
  waits_are_asks (requests.Ends table) is = refl
  waits_are_asks (requests.Create schema) is = refl
  waits_are_asks (requests.Drop name) is = refl
  waits_are_asks (requests.SetCounter table least) is = refl
  waits_are_asks request is = absurd cc

  insp_stands : (request : Request) → entry.actor ≡ Insp → IsAbout request (has Insp) entry.asked → inspector_asks request ≡ true → Stands inspector_waits false [] (has Insp) → Stands inspector_waits false [] (now_has Insp)
  insp_stands request same is_about kind stands = subst (Stands inspector_waits false []) (sym (has_now Insp request same is_about)) (inspector_stands request entry.answer (has Insp) kind (fits Insp request same is_about) stands)

  -- what is waited with is answered no listing
  waits_no_list : (phase : Phase) (hold : Hold) (request : Request) (answer : Answer) → inspector_waits request ≡ true → answers_to request answer ≡ true → ListsFree phase hold answer
  waits_no_list (Ending clearing) hold (requests.Do statement) (answers.Tables tables) kind fits = absurd cc
  waits_no_list (Ending clearing) hold (requests.Ends table) (answers.Tables tables) kind fits = absurd cc
  waits_no_list (Ending clearing) hold (requests.Create schema) (answers.Tables tables) kind fits = absurd cc
  waits_no_list (Ending clearing) hold (requests.Drop name) (answers.Tables tables) kind fits = absurd cc
  waits_no_list (Ending clearing) hold (requests.SetCounter table least) (answers.Tables tables) kind fits = absurd cc
  waits_no_list (Ending clearing) hold request (answers.Tables tables) kind fits = absurd cc
  waits_no_list (Ending clearing) hold request answer kind fits = tt
  waits_no_list Resting hold request answer kind fits = tt
  waits_no_list (Attempting stage) hold request answer kind fits = tt
  waits_no_list (Finishing clearing) hold request answer kind fits = tt
  waits_no_list Finished hold request answer kind fits = tt

  free_lists : (phase : Phase) (hold : Hold) (answer : Answer) → EndsFree phase hold → ListsFree phase hold answer
  free_lists (Ending clearing) hold (answers.Tables tables) none = none
  free_lists (Ending clearing) hold answer none = tt
  free_lists Resting hold answer none = tt
  free_lists (Attempting stage) hold answer none = tt
  free_lists (Finishing clearing) hold answer none = tt
  free_lists Finished hold answer none = tt

  insp_asked : entry.actor ≡ Insp → Asking plan journal Insp entry.asked → (tool_phase : ToolPhase) → now.tool.tool_phase ≡ tool_phase → ToolPhaseStands journal has (is_reverting now.tool.reason) tool_phase → Together (actor_took plan Insp entry.answer tool_phase tool)
  insp_asked same (calls_so request asks idle call) (SettingUp setup tries) tool_phase at =
      setup_turn plan journal entry has now_has entry.answer setup tries tool tool_phase (others_same Insp same) at
      (insp_stands request same (is_called asks idle) (setup_next plan (is_reverting now.tool.reason) setup request (ap (λ (c : ToolPhase). tool_call plan now.server journal now.tool c Insp) (sym tool_phase) ∙ call)) at.inspector)
  insp_asked same (polls_so request asks some) (SettingUp setup tries) tool_phase at =
      setup_turn plan journal entry has now_has entry.answer setup tries tool tool_phase (others_same Insp same) at
      (insp_stands request same (is_polled asks some) (waits_are_asks request (waits_asks inspector_waits (has Insp).waits request at.inspector.waits some)) at.inspector)
  insp_asked same (calls_so request asks idle call) (Migrating work) tool_phase at =
      let next = inspector_called plan journal now.tool work request (ap (λ (c : ToolPhase). tool_call plan now.server journal now.tool c Insp) (sym tool_phase) ∙ call) in
      insp_turn plan journal entry has now_has entry.answer work tool (others_same Insp same) at (insp_stands request same (is_called asks idle) next.0 at.inspector) (free_lists work.cutover.phase work.cutover.hold entry.answer next.1)
  insp_asked same (polls_so request asks some) (Migrating work) tool_phase at =
      let kind : inspector_waits request ≡ true = waits_asks inspector_waits (has Insp).waits request at.inspector.waits some in
      insp_turn plan journal entry has now_has entry.answer work tool (others_same Insp same) at (insp_stands request same (is_polled asks some) (waits_are_asks request kind) at.inspector)
      (waits_no_list work.cutover.phase work.cutover.hold request entry.answer kind (fits Insp request same (is_polled asks some)))

  -- NOTHING OF THE TOOL'S

  -- a turn of a client's, or of the operator's
  all_still : (actor : Actor) → entry.actor ≡ actor → ((a : Actor) → same_actor a Op ≡ false → is_client a ≡ false → same_actor actor a ≡ false) → Together tool
  all_still actor same apart = still plan journal entry has now_has (is_reverting now.tool.reason) now.tool.tool_phase (λ a one two. others_same actor same a (apart a one two)) is.stands

  client_apart : (c : ℕ) (a : Actor) → same_actor a Op ≡ false → is_client a ≡ false → same_actor (Client c) a ≡ false
  client_apart c Op one two = refl
  client_apart c Insp one two = refl
  client_apart c Copy one two = refl
  client_apart c Apply one two = refl
  client_apart c Lock one two = refl
  client_apart c Ren one two = refl
  client_apart c (Client d) one two = absurd cc

  operator_apart : (a : Actor) → same_actor a Op ≡ false → is_client a ≡ false → same_actor Op a ≡ false
  operator_apart Op one two = absurd cc
  operator_apart a one two = refl

  -- A LOSS BETWEEN CALLS

  lost_now : entry.asked ≡ Cut → (actor : Actor) → entry.actor ≡ actor → now_has actor ≡ free
  lost_now cut actor same = subst (λ (a : Actor). now_has a ≡ free) same (own_lost plan journal entry is.known served cut)

  no_lists : (phase : Phase) (hold : Hold) → ListsFree phase hold answers.Lost
  no_lists (Ending clearing) hold = tt
  no_lists Resting hold = tt
  no_lists (Attempting stage) hold = tt
  no_lists (Finishing clearing) hold = tt
  no_lists Finished hold = tt

  copy_lost : entry.asked ≡ Cut → entry.actor ≡ Copy → (tool_phase : ToolPhase) → now.tool.tool_phase ≡ tool_phase → ToolPhaseStands journal has (is_reverting now.tool.reason) tool_phase → Together (actor_took plan Copy answers.Lost tool_phase tool)
  unfolding copiers.took copiers.progress
  copy_lost cut same (SettingUp setup tries) tool_phase at =
      subst (λ (c : ToolPhase). ToolPhaseStands more now_has (is_reverting now.tool.reason) c) (sym tool_phase)
      (record { inspector = subst (Stands inspector_waits false []) (sym (others_same Copy same Insp refl)) at.inspector; copier = lost_now cut Copy same; applier = others_same Copy same Apply refl ∙ at.applier; locker = others_same Copy same Lock refl ∙ at.locker; renamer = others_same Copy same Ren refl ∙ at.renamer })
  copy_lost cut same (Migrating work) tool_phase at =
      copy_turn plan journal entry has now_has answers.Lost work tool tool_phase (others_same Copy same) at (λ going. free_stands _ (now_has Copy) (lost_now cut Copy same)) (λ going place number unfit. absurd cc)

  apply_lost : entry.asked ≡ Cut → entry.actor ≡ Apply → (tool_phase : ToolPhase) → now.tool.tool_phase ≡ tool_phase → ToolPhaseStands journal has (is_reverting now.tool.reason) tool_phase → Together (actor_took plan Apply answers.Lost tool_phase tool)
  unfolding appliers.took appliers.progress
  apply_lost cut same (SettingUp setup tries) tool_phase at =
      subst (λ (c : ToolPhase). ToolPhaseStands more now_has (is_reverting now.tool.reason) c) (sym tool_phase)
      (record { inspector = subst (Stands inspector_waits false []) (sym (others_same Apply same Insp refl)) at.inspector; copier = others_same Apply same Copy refl ∙ at.copier; applier = lost_now cut Apply same; locker = others_same Apply same Lock refl ∙ at.locker; renamer = others_same Apply same Ren refl ∙ at.renamer })
  apply_lost cut same (Migrating work) tool_phase at =
      apply_turn plan journal entry has now_has answers.Lost work tool tool_phase (others_same Apply same) at (λ going. record { stands = free_stands _ (now_has Apply) (lost_now cut Apply same); known = tt }) (λ going place number unfit. absurd cc)

  lock_lost : entry.asked ≡ Cut → entry.actor ≡ Lock → (tool_phase : ToolPhase) → now.tool.tool_phase ≡ tool_phase → ToolPhaseStands journal has (is_reverting now.tool.reason) tool_phase → Together (actor_took plan Lock answers.Lost tool_phase tool)
  lock_lost cut same (SettingUp setup tries) tool_phase at =
      subst (λ (c : ToolPhase). ToolPhaseStands more now_has (is_reverting now.tool.reason) c) (sym tool_phase)
      (record { inspector = subst (Stands inspector_waits false []) (sym (others_same Lock same Insp refl)) at.inspector; copier = others_same Lock same Copy refl ∙ at.copier; applier = others_same Lock same Apply refl ∙ at.applier; locker = lost_now cut Lock same; renamer = others_same Lock same Ren refl ∙ at.renamer })
  lock_lost cut same (Migrating work) tool_phase at =
      lock_turn plan journal entry has now_has answers.Lost work tool (others_same Lock same) at (subst (Rattle.proof_journals.proofs.Machine.CuttingOver.LockerStands work.cutover.table _ _) (sym (lost_now cut Lock same)) (locker_lost work.cutover.table work.cutover.hold work.cutover.phase at.phase))

  ren_lost : entry.asked ≡ Cut → entry.actor ≡ Ren → (tool_phase : ToolPhase) → now.tool.tool_phase ≡ tool_phase → ToolPhaseStands journal has (is_reverting now.tool.reason) tool_phase → Together (actor_took plan Ren answers.Lost tool_phase tool)
  ren_lost cut same (SettingUp setup tries) tool_phase at =
      subst (λ (c : ToolPhase). ToolPhaseStands more now_has (is_reverting now.tool.reason) c) (sym tool_phase)
      (record { inspector = subst (Stands inspector_waits false []) (sym (others_same Ren same Insp refl)) at.inspector; copier = others_same Ren same Copy refl ∙ at.copier; applier = others_same Ren same Apply refl ∙ at.applier; locker = others_same Ren same Lock refl ∙ at.locker; renamer = lost_now cut Ren same })
  ren_lost cut same (Migrating work) tool_phase at = ren_turn plan journal entry has now_has answers.Lost work tool (others_same Ren same) at (lost_now cut Ren same)

  insp_lost : entry.asked ≡ Cut → entry.actor ≡ Insp → (tool_phase : ToolPhase) → now.tool.tool_phase ≡ tool_phase → ToolPhaseStands journal has (is_reverting now.tool.reason) tool_phase → Together (actor_took plan Insp answers.Lost tool_phase tool)
  insp_lost cut same (SettingUp setup tries) tool_phase at = setup_turn plan journal entry has now_has answers.Lost setup tries tool tool_phase (others_same Insp same) at (free_stands _ (now_has Insp) (lost_now cut Insp same))
  insp_lost cut same (Migrating work) tool_phase at =
      insp_turn plan journal entry has now_has answers.Lost work tool (others_same Insp same) at (free_stands _ (now_has Insp) (lost_now cut Insp same)) (no_lists work.cutover.phase work.cutover.hold)

  worked_lost : entry.asked ≡ Cut → (actor : Actor) → entry.actor ≡ actor → Together (actor_took plan actor answers.Lost tool.tool_phase tool)
  worked_lost cut Op same = all_still Op same operator_apart
  worked_lost cut (Client c) same = all_still (Client c) same (client_apart c)
  worked_lost cut Insp same = insp_lost cut same now.tool.tool_phase refl is.stands
  worked_lost cut Copy same = copy_lost cut same now.tool.tool_phase refl is.stands
  worked_lost cut Apply same = apply_lost cut same now.tool.tool_phase refl is.stands
  worked_lost cut Lock same = lock_lost cut same now.tool.tool_phase refl is.stands
  worked_lost cut Ren same = ren_lost cut same now.tool.tool_phase refl is.stands

  -- who had nothing has nothing
  idle_lost : entry.asked ≡ Cut → has_work now.server entry.session ≡ false → Together tool
  idle_lost cut idle = still plan journal entry has now_has (is_reverting now.tool.reason) now.tool.tool_phase (λ a one two. by a (same_actor entry.actor a) refl) is.stands where
    had : has entry.actor ≡ free
    had = ap (standing_in (state_at plan journal)) (own_session plan journal entry is.known served (ap is_cut cut)) ∙ idle_stands (state_at plan journal) entry.session (ap (λ (s : State). has_work s entry.session) (sym is.server) ∙ idle)

    by : (a : Actor) (b : Bool) → same_actor entry.actor a ≡ b → now_has a ≡ has a
    by a false differ = others a differ
    by a true same =
        let one : entry.actor ≡ a = Rattle.proof_journals.proofs.Actors.same_actor_is entry.actor a same in
        subst (λ (c : Actor). now_has c ≡ has c) one (own_lost plan journal entry is.known served cut ∙ sym had)

  -- EVERY TURN

  asked_turn : (actor : Actor) → entry.actor ≡ actor → given plan journal actor ≡ Some entry.asked → (entry.asked ≡ Cut → ⊥) → ((word : OperatorWord) → entry.asked ≡ Command word → ⊥)
      → Together (Rattle.tool_program.specs.Tools.turn_counts plan actor (actor_took plan actor entry.answer tool.tool_phase tool))
  unfolding given
  asked_turn (Client c) same gives called commanded = all_still (Client c) same (client_apart c)
  asked_turn Op same gives called commanded = all_still Op same operator_apart
  asked_turn Insp same gives called commanded = insp_asked same (asking plan journal Insp entry.asked is.server gives) now.tool.tool_phase refl is.stands
  asked_turn Copy same gives called commanded = copy_asked same (asking plan journal Copy entry.asked is.server gives) now.tool.tool_phase refl is.stands
  asked_turn Apply same gives called commanded =
      drained plan journal entry has now_has (actor_took plan Apply entry.answer tool.tool_phase tool) (apply_asked same (asking plan journal Apply entry.asked is.server gives) now.tool.tool_phase refl is.stands)
  asked_turn Lock same gives called commanded = lock_asked same (asking plan journal Lock entry.asked is.server gives) now.tool.tool_phase refl is.stands
  asked_turn Ren same gives called commanded = ren_asked same (asking plan journal Ren entry.asked is.server gives) now.tool.tool_phase refl is.stands

  commanded_turn : (actor : Actor) (word : OperatorWord) → entry.actor ≡ actor → given plan journal actor ≡ Some (Command word) → Together (Rattle.tool_program.specs.Tools.command_took word tool)
  unfolding given
  commanded_turn Op word same gives = command_turn plan journal entry has now_has word tool (all_still Op same operator_apart)
  commanded_turn (Client c) word same gives = absurd (client_commands plan journal c word gives)
  commanded_turn Insp word same gives = absurd (never_commands plan journal Insp word gives)
  commanded_turn Copy word same gives = absurd (never_commands plan journal Copy word gives)
  commanded_turn Apply word same gives = absurd (never_commands plan journal Apply word gives)
  commanded_turn Lock word same gives = absurd (never_commands plan journal Lock word gives)
  commanded_turn Ren word same gives = absurd (never_commands plan journal Ren word gives)

  all_turns : (asked : Asked) → entry.asked ≡ asked → IsGiven plan journal entry asked → Together (asked_took plan now.server entry asked tool)
  all_turns (Command word) asks gives = commanded_turn entry.actor word refl gives
  all_turns Cut asks gives = by (has_work now.server entry.session) refl where
    by : (b : Bool) → has_work now.server entry.session ≡ b → Together (cond b (actor_took plan entry.actor answers.Lost tool.tool_phase tool) tool)
    by true worked = worked_lost asks entry.actor refl
    by false idle = idle_lost asks idle
  all_turns (Call request) asks gives = asked_turn entry.actor refl (gives ∙ ap Some (sym asks)) (λ cut. call_cut (sym asks ∙ cut)) (λ word command. call_command (sym asks ∙ command)) where
    call_cut : Call request ≡ Cut → ⊥
    call_cut same = cc

    call_command : {word : OperatorWord} → Call request ≡ Command word → ⊥
    call_command same = cc
  all_turns Poll asks gives = asked_turn entry.actor refl (gives ∙ ap Some (sym asks)) (λ cut. poll_cut (sym asks ∙ cut)) (λ word command. poll_command (sym asks ∙ command)) where
    poll_cut : Poll ≡ Cut → ⊥
    poll_cut same = cc

    poll_command : {word : OperatorWord} → Poll ≡ Command word → ⊥
    poll_command same = cc

  pub together_more : IsTogether plan more
  unfolding took
  together_more = record {
    known = known_more plan journal entry is.known served;
    server = ap (λ (m : Moment). m.server) (moment_more plan journal entry) ∙ ap (λ (s : State). after_entry s entry) is.server ∙ sym (state_more plan journal entry);
    turns = turns_more plan journal entry ∙ ap (λ (n : ℕ). n + 1) is.turns ∙ sym (length_push journal entry);
    stands = subst (λ (m : Moment). ToolPhaseStands more now_has (is_reverting m.tool.reason) m.tool.tool_phase) (sym (moment_more plan journal entry)) (all_turns entry.asked refl run.followed.given);
  }

pub together_begins : (plan : PlanData) → IsTogether plan []
unfolding moment live_session Rattle.tool_program.specs.JournalWords.Journals.state_after
together_begins plan = record {
  known = known_begins plan;
  server = refl;
  turns = refl;
  stands = record { inspector = record { busy = refl; locked = refl; waits = refl }; copier = refl; applier = refl; locker = refl; renamer = refl };
}

pub all_runs : (plan : PlanData) (before journal : List Entry) → Along (λ some entry. IsAnswered (state_at plan some) entry) before journal → Along (IsFollowed plan) before journal → Along (IsRun plan) before journal
all_runs plan before [] answered followed = tt
all_runs plan before (entry ∷ journal) answered followed = (record { answered = answered.0; followed = followed.0 }, all_runs plan (before ++ entry ∷ []) journal answered.1 followed.1)

-- *Machines and sessions go together behind every journal*
pub all_together : (plan : PlanData) (journal : List Entry) → IsFaithful plan journal → Follows plan journal → IsTogether plan journal
unfolding Follows
all_together plan journal faithful follows =
    Along-keeps (IsRun plan) (IsTogether plan) (λ before entry run is. together_more plan before entry is run) [] journal (all_runs plan [] journal faithful follows) (together_begins plan)
