-- After every journal that is kept: the server serves, no session waits twice, and each actor's session holds and waits for names
-- alone that it may.
use Rattle.std.proofs.Common.{◌≡◌, ℕ, Bool, true, false, cond, not, ◌&&◌, ◌||◌, List, [], ◌∷◌, ◌++◌, Option, Some, None, refl, sym, ap, ◌∙◌, subst}
use Rattle.std.specs.Prelude.{is_some}
use Rattle.std.specs.List.{list_any, slice_get}
use Rattle.std.specs.Str.{bytes_eq}
use Rattle.std.proofs.lemmas.Bool.{true≢false, or_from}
use Rattle.std.proofs.lemmas.Option.{same_Some}
use Rattle.base_script.specs.declared.actor.Actor.{Actor}
use Rattle.base_script.specs.declared.actor.Actor.TheVariants.{Op, Insp, Copy, Apply, Lock, Ren, Client}
use Rattle.base_script.specs.declared.actor.Side.{Side}
use Rattle.base_values.specs.declared.value.Value.{Value}
use Rattle.base_values.specs.ToolNames.{ghost_name, log_name, old_name, is_tool_name}
use Rattle.base_values.proofs.SchemaRules.Lists.{All-anything}
use Rattle.server_model.specs.declared.counter.Counter.{Counter}
use Rattle.server_model.specs.declared.entry.Asked.{Asked}
use Rattle.server_model.specs.declared.entry.Asked.TheVariants.{Call, Poll, Command, Cut}
use Rattle.server_model.specs.declared.entry.Entry.{Entry}
use Rattle.server_model.specs.declared.request.Request.{Request}
use Rattle.server_model.specs.declared.request.Request.TheVariants as requests
use Rattle.server_model.specs.declared.session.Waiting.{Waiting}
use Rattle.server_model.specs.Conditions.{MayPoll}
use Rattle.server_model.specs.Entries.{same_actor, is_client, is_command}
use Rattle.server_model.specs.Operations.{table_of}
use Rattle.server_model.specs.PlainServer.{leaves, recounted}
use Rattle.server_model.specs.States.{State, session_of, connected, waiting_of, names_in}
use Rattle.plan_data.specs.PlanData.{PlanData}
use Rattle.tool_changelog.specs.ToolTables.{sentry_schema}
use Rattle.tool_program.specs.JournalWords.Journals.{may_lose, opens, opens_if, state_at, state_after}
use Rattle.tool_program.specs.JournalWords.KeptPlans.{words_of}
use Rattle.tool_program.specs.JournalWords.Sessions.{live_session}
use Rattle.tool_program.specs.declared.chunk_copier.copier.Copier.{Copier}
use Rattle.tool_program.specs.declared.chunk_copier.copier.CopyRange.{CopyRange}
use Rattle.tool_program.specs.declared.chunk_copier.copier.CopyStep.{CopyStep}
use Rattle.tool_program.specs.declared.chunk_copier.copier.CopyStep.TheVariants as copying
use Rattle.tool_program.specs.ChunkCopier.Copiers as copiers
use Rattle.tool_program.specs.declared.event_applier.applier.Applier.{Applier}
use Rattle.tool_program.specs.declared.event_applier.applier.ApplyStep.{ApplyStep}
use Rattle.tool_program.specs.declared.event_applier.applier.ApplyStep.TheVariants as applying
use Rattle.tool_program.specs.EventApplier.Appliers as appliers
use Rattle.tool_program.specs.EventApplier.Appliers.{Doing, Putting, Removing, Changing}
use Rattle.tool_program.specs.declared.cutover_core.cutover.CutOver.{CutOver}
use Rattle.tool_program.specs.declared.cutover_core.cutover.Hold.{Hold}
use Rattle.tool_program.specs.declared.cutover_core.cutover.Hold.TheVariants.{Locks}
use Rattle.tool_program.specs.declared.cutover_core.cutover.Phase.{Phase}
use Rattle.tool_program.specs.declared.cutover_core.cutover.Phase.TheVariants.{Resting, Attempting, Ending, Finishing, Finished}
use Rattle.tool_program.specs.declared.cutover_core.cutover.Role.TheVariants.{Locker}
use Rattle.tool_program.specs.declared.cutover_core.cutover.Stage.TheVariants.{Locking, Dropping, Unlocking}
use Rattle.tool_program.specs.CutoverCore.Attempts as cutovers
use Rattle.tool_program.specs.CutoverCore.CutOvers.{is_resting}
use Rattle.tool_program.specs.Operators.{is_throttled}
use Rattle.tool_program.specs.Programs.{in_transaction, rolls_back, copy_call, apply_call, may_begin, tool_call, tool_asks, given, IsGiven}
use Rattle.tool_program.specs.Tools.{ToolPhase, SettingUp, Migrating, is_reverting, moment}
use Rattle.tool_program.proofs.OnlineCalls.Machines.{ToolPhaseIsNamed, named}
use Rattle.tool_program.proofs.OnlineCalls.Naming.{not_log, not_old}
use Rattle.proof_journals.specs.Machine.Laws.{MayLoseAny}
use Rattle.proof_journals.specs.Machine.Runnable.{IsRunnable}
use Rattle.proof_journals.specs.Machine.Standings.{standing_of, MayTake}
use Rattle.proof_journals.specs.Plans.{IsSerialPlan, client_names, scene_of}
use Rattle.proof_journals.specs.Run.Kept.{IsKept}
use Rattle.proof_journals.specs.ServerFacts.Invariants.{IsServing}
use Rattle.proof_journals.specs.Turns.{request_of, ClientAsks}
use Rattle.proof_journals.proofs.Actors.{Placed, Commands, GoesOn, Begins, placed, live_cases, others_differ}
use Rattle.proof_journals.proofs.Faces.{opened_live}
use Rattle.proof_journals.proofs.Journals.{opened_waits}
use Rattle.proof_journals.proofs.Openings.{opening_well_formed}
use Rattle.proof_journals.proofs.ServerFacts.Calls.{calls_serve, polls_serve, losses_serve, connected_serves, opened_serves}
use Rattle.proof_journals.proofs.Machine.Asking.{some_request, unless_called, renamer_next}
use Rattle.proof_journals.proofs.Machine.Journals.{IsRun, Asking, calls_so, polls_so, asking, apply_called}
use Rattle.proof_journals.proofs.Machine.Marks.{ghost_not_log, ghost_not_old, old_not_log}
use Rattle.proof_journals.proofs.Machine.Polling.{AllTogether, AllWaits, waits_more, waits_begin, given_idle, no_word}
use Rattle.proof_journals.proofs.Machine.Seated.{IsKnown, IsServed, state_more, session_there, own_waiting, opened_old}
use Rattle.proof_journals.proofs.Machine.Whole.{given_called, given_polled, losses}
use Rattle.proof_migration.proofs.Program.Turns.Follows.{kept_front, kept_run}
use Rattle.proof_migration.proofs.ToolPhase.Unaltered.Asking.{given_asked}
use Rattle.proof_migration.proofs.ToolPhase.Unaltered.Away.{IsKnownAsked, asked_more, asked_begins, tool_not_mine}
use Rattle.proof_migration.proofs.HeldNames.SessionNames.{AllNames, WithinIn, leaves_within, opened_within}
use Rattle.proof_migration.proofs.HeldNames.Unblocked.{WaitsApart, leaves_apart}
use Rattle.proof_migration.proofs.KeptJournals.{each_kept}

-- EVERY FRONT OF A KEPT JOURNAL IS KEPT

-- THE SERVER SERVES

opened_serving : (nothing tool : Bool) (number : ℕ) (state : State) → IsServing state → IsServing (opens_if nothing tool number state)
unfolding opens_if
opened_serving nothing tool number state is = by (nothing || is_some (session_of number state.sessions)) where
  by : (b : Bool) → IsServing (cond b state (connected number tool state))
  by true = is
  by false = connected_serves number tool state is

module _ (plan : PlanData) (runs : IsRunnable plan) (journal : List Entry) (entry : Entry) (kept : IsKept plan journal) (run : IsRun plan journal entry) (known : IsKnown plan journal) (serving : IsServing (state_at plan journal)) where
  abbrev state_now : State
  state_now = state_at plan journal

  seat : IsServed plan journal entry
  seat = record { answered = run.answered; seated = record { session = run.followed.session } }

  may_take : is_command entry.asked ≡ false → MayTake journal entry.session (live_session journal entry.actor)
  may_take called = by (placed journal entry seat.seated) where
    by : Placed journal entry → MayTake journal entry.session (live_session journal entry.actor)
    by (Commands command zero) = absurd (true≢false (sym command ∙ called))
    by (GoesOn calls live) = rw live refl
    by (Begins calls uncut live above) = rw live above

  abbrev open_if : Bool → State
  open_if nothing = opens_if nothing (not (is_client entry.actor)) entry.session state_now

  lost_any : MayLoseAny plan journal entry.actor
  lost_any = losses plan journal entry.actor runs kept.faithful kept.follows

  called_serving : (request : Request) → entry.asked ≡ Call request → given plan journal entry.actor ≡ Some (Call request) → (side : Option Side) → IsServing (leaves side (open_if false) entry.session (Call request))
  called_serving request asks gives None =
      calls_serve (open_if false) entry.session request (opened_serving false (not (is_client entry.actor)) entry.session state_now serving)
      (given_called plan journal entry.actor request entry.session runs kept.faithful kept.follows gives (may_take (ap is_command asks)))
  called_serving request asks gives (Some side) =
      losses_serve (open_if false) entry.session (Some side) (Call request) (opened_serving false (not (is_client entry.actor)) entry.session state_now serving)
      (lost_any.called request entry.session side gives (may_take (ap is_command asks)))

  polled_serving : entry.asked ≡ Poll → given plan journal entry.actor ≡ Some Poll → (side : Option Side) → IsServing (leaves side (open_if false) entry.session Poll)
  polled_serving asks gives side =
      subst (λ (s : State). IsServing (leaves side s entry.session Poll)) (sym (opened_old false (not (is_client entry.actor)) entry.session state_now (known.live entry.actor entry.session lives))) (by side) where
        found : (n : ℕ) × (live_session journal entry.actor ≡ Some n) × MayPoll state_now n
        found = given_polled plan journal entry.actor runs kept.faithful kept.follows gives

        same : found.0 ≡ entry.session
        same = at (placed journal entry seat.seated) where
          at : Placed journal entry → found.0 ≡ entry.session
          at (Commands command zero) = absurd (true≢false (sym command ∙ ap is_command asks))
          at (GoesOn calls live) = same_Some found.0 entry.session (sym found.1 ∙ live)
          at (Begins calls uncut live above) = absurd (no (sym live ∙ found.1)) where
            no : None ≡ Some found.0 → ⊥
            no both = cc

        lives : live_session journal entry.actor ≡ Some entry.session
        lives = found.1 ∙ ap Some same

        by : (side : Option Side) → IsServing (leaves side state_now entry.session Poll)
        by None = polls_serve state_now entry.session serving (subst (MayPoll state_now) same found.2)
        by (Some one) = losses_serve state_now entry.session (Some one) Poll serving (lost_any.polled entry.session one gives lives)

  cut_serving : IsServing (leaves None (open_if false) entry.session Cut)
  cut_serving = losses_serve (open_if false) entry.session None Cut (opened_serving false (not (is_client entry.actor)) entry.session state_now serving) (record { live = opened_live false (not (is_client entry.actor)) entry.session state_now refl; well = refl })

  asked_serving : (asked : Asked) → entry.asked ≡ asked → IsGiven plan journal entry asked → IsServing (leaves entry.side (open_if (is_command asked)) entry.session asked)
  asked_serving (Call request) asks gives = called_serving request asks gives entry.side
  asked_serving Poll asks gives = polled_serving asks gives entry.side
  asked_serving Cut asks gives = subst (λ (side : Option Side). IsServing (leaves side (open_if false) entry.session Cut)) (sym (run.answered.sides (ap may_lose asks))) cut_serving
  asked_serving (Command word) asks gives = subst (λ (side : Option Side). IsServing (leaves side (open_if true) entry.session (Command word))) (sym (run.answered.sides (ap may_lose asks))) (opened_serving true (not (is_client entry.actor)) entry.session state_now serving)

  serving_more : IsServing (state_at plan (journal ++ entry ∷ []))
  serving_more = subst IsServing (sym (state_more plan journal entry)) (recount (asked_serving entry.asked refl run.followed.given)) where
    recount : {state : State} {counters : List Counter} → IsServing state → IsServing (recounted counters state)
    recount is = record { well_formed = is.well_formed; own = is.own; apart = is.apart; alone = is.alone; waits = is.waits }

-- WHAT EACH MAY HOLD AND WAIT FOR

-- a name that an actor's session neither holds nor waits for: a client's none of the tool's, the copier's and the applier's neither the
-- changelog nor the old table, the locker's and the renamer's not the changelog. The inspector's session holds nothing anyway.
abbrev pub forbids : PlanData → Actor → List ℕ → Bool
forbids plan (Client c) name = is_tool_name plan.table name
forbids plan Copy name = bytes_eq name (log_name plan.table) || bytes_eq name (old_name plan.table)
forbids plan Apply name = bytes_eq name (log_name plan.table) || bytes_eq name (old_name plan.table)
forbids plan Lock name = bytes_eq name (log_name plan.table)
forbids plan Ren name = bytes_eq name (log_name plan.table)
forbids plan actor name = false

abbrev pub MayName : PlanData → Actor → List ℕ → Type 0
MayName plan actor name = forbids plan actor name ≡ false

abbrev pub NamesWell : PlanData → Actor → Request → Type 0
NamesWell plan actor request = AllNames (MayName plan actor) (names_in request)

own_may : (plan : PlanData) (name : List ℕ) → name ≡ plan.table → (bytes_eq name (log_name plan.table) || bytes_eq name (old_name plan.table)) ≡ false
own_may plan name same = subst (λ (n : List ℕ). (bytes_eq n (log_name plan.table) || bytes_eq n (old_name plan.table)) ≡ false) (sym same) (or_from (bytes_eq plan.table (log_name plan.table)) (bytes_eq plan.table (old_name plan.table)) (not_log plan.table) (not_old plan.table))

ghost_may : (plan : PlanData) (name : List ℕ) → name ≡ ghost_name plan.table → (bytes_eq name (log_name plan.table) || bytes_eq name (old_name plan.table)) ≡ false
ghost_may plan name same =
    subst (λ (n : List ℕ). (bytes_eq n (log_name plan.table) || bytes_eq n (old_name plan.table)) ≡ false) (sym same)
    (or_from (bytes_eq (ghost_name plan.table) (log_name plan.table)) (bytes_eq (ghost_name plan.table) (old_name plan.table)) (ghost_not_log plan.table) (ghost_not_old plan.table))

client_may : (plan : PlanData) (serial : IsSerialPlan plan) (name : List ℕ) → list_any (bytes_eq name) (client_names plan) ≡ true → is_tool_name plan.table name ≡ false
client_may plan serial name mine = by (is_tool_name plan.table name) refl where
  by : (b : Bool) → is_tool_name plan.table name ≡ b → b ≡ false
  by false is = refl
  by true is = absurd (true≢false (sym mine ∙ tool_not_mine plan name serial is))

-- which requests are lines
client_well : (plan : PlanData) (serial : IsSerialPlan plan) (c : ℕ) (request : Request) → ClientAsks (scene_of plan []) request → NamesWell plan (Client c) request
client_well plan serial c (requests.Do statement) asks = (client_may plan serial (table_of statement) asks, tt)
client_well plan serial c requests.Begin asks = tt
client_well plan serial c requests.Commit asks = tt
client_well plan serial c requests.Rollback asks = tt
client_well plan serial c request asks = absurd asks

copier_well : (plan : PlanData) (journal : List Entry) (copier : Copier) (request : Request) → copier.table ≡ plan.table → copiers.next journal copier ≡ Some request → NamesWell plan Copy request
unfolding copiers.next
copier_well plan journal copier request own is = ranged copier.range (unless_called copier.is_copied (copiers.call_in journal copier copier.range) request is) where
  table : MayName plan Copy copier.table
  table = own_may plan copier.table own

  copied : (key : Option (List Value)) → copiers.copies copier key ≡ Some request → NamesWell plan Copy request
  copied None is = absurd cc
  copied (Some key) is = some_request (NamesWell plan Copy) _ request is (table, (ghost_may plan (ghost_name copier.table) (ap ghost_name own), tt))

  by : (range : CopyRange) (step : CopyStep) → copiers.call_at journal copier range step ≡ Some request → NamesWell plan Copy request
  by range copying.Choosing is = some_request (NamesWell plan Copy) _ request is (table, tt)
  by range (copying.Spanning reported size) is = some_request (NamesWell plan Copy) _ request is (table, tt)
  by range (copying.Copying chunk done) is = copied (copiers.key_at journal (copying.Copying chunk done)) is
  by range (copying.Committing chunk) is = some_request (NamesWell plan Copy) _ request is tt

  ranged : (range : Option CopyRange) → copiers.call_in journal copier range ≡ Some request → NamesWell plan Copy request
  ranged None is = absurd cc
  ranged (Some range) is = by range copier.step is

applier_well : (plan : PlanData) (journal : List Entry) (applier : Applier) → applier.new_schema.name ≡ ghost_name plan.table → NamesWell plan Apply (appliers.next journal applier)
unfolding appliers.next
applier_well plan journal applier into = by applier.step where
  table : MayName plan Apply applier.new_schema.name
  table = ghost_may plan applier.new_schema.name into

  said : (doing : Option Doing) → NamesWell plan Apply (appliers.statement_result applier doing)
  said None = tt
  said (Some (Putting row)) = (table, tt)
  said (Some (Removing row)) = (table, tt)
  said (Some (Changing before after)) = (table, tt)

  by : (step : ApplyStep) → NamesWell plan Apply (appliers.call_at journal applier step)
  by applying.Reading = tt
  by (applying.Beginning batch) = tt
  by (applying.Applying batch done part) = said (appliers.doing_at journal applier (applying.Applying batch done part))
  by (applying.Committing batch) = tt

locker_well : (plan : PlanData) (cutover : CutOver) (request : Request) → cutover.table ≡ plan.table → cutovers.next Locker cutover ≡ Some request → NamesWell plan Lock request
unfolding cutovers.next sentry_schema
locker_well plan cutover request own is = by cutover.phase is where
  old : MayName plan Lock (old_name cutover.table)
  old = subst (λ (t : List ℕ). bytes_eq (old_name t) (log_name plan.table) ≡ false) (sym own) (old_not_log plan.table)

  table : MayName plan Lock cutover.table
  table = subst (λ (t : List ℕ). bytes_eq t (log_name plan.table) ≡ false) (sym own) (not_log plan.table)

  frees : (hold : Hold) → cutovers.unlocks hold ≡ Some request → NamesWell plan Lock request
  frees Locks is = some_request (NamesWell plan Lock) requests.Unlock request is tt
  frees hold is = absurd cc

  by : (phase : Phase) → cutovers.locker_call cutover phase ≡ Some request → NamesWell plan Lock request
  by Resting is = some_request (NamesWell plan Lock) _ request (unless_called cutover.is_stopped _ request is) (old, tt)
  by (Attempting Locking) is = some_request (NamesWell plan Lock) _ request is (table, (old, tt))
  by (Attempting Dropping) is = some_request (NamesWell plan Lock) _ request is (old, tt)
  by (Attempting Unlocking) is = some_request (NamesWell plan Lock) _ request is tt
  by (Attempting stage) is = absurd cc
  by (Ending clearing) is = frees cutover.hold is
  by (Finishing clearing) is = absurd cc
  by Finished is = absurd cc

renamer_well : (plan : PlanData) (table : List ℕ) → table ≡ plan.table → NamesWell plan Ren (cutovers.exchange table)
renamer_well plan table own = subst (λ (t : List ℕ). NamesWell plan Ren (cutovers.exchange t)) (sym own) (not_log plan.table, (old_not_log plan.table, (ghost_not_log plan.table, (not_log plan.table, tt))))

rolled_well : (plan : PlanData) (actor : Actor) (busy : Bool) (request : Request) → cond busy (Some requests.Rollback) None ≡ Some request → NamesWell plan actor request
rolled_well plan actor true request is = some_request (NamesWell plan actor) requests.Rollback request is tt
rolled_well plan actor false request is = absurd cc

anything : (plan : PlanData) (actor : Actor) (request : Request) → ((name : List ℕ) → MayName plan actor name) → NamesWell plan actor request
anything plan actor request any = All-anything (MayName plan actor) any (names_in request)

module _ (plan : PlanData) (serial : IsSerialPlan plan) (journal : List Entry) where
  call_well : (tool_phase : ToolPhase) (actor : Actor) (request : Request) → ToolPhaseIsNamed plan tool_phase → tool_call plan (moment plan journal).server journal (moment plan journal).tool tool_phase actor ≡ Some request → NamesWell plan actor request
  call_well (SettingUp setup tries) Insp request names is = anything plan Insp request (λ name. refl)
  call_well (Migrating work) Insp request names is = anything plan Insp request (λ name. refl)
  call_well (Migrating work) Copy request names is = by (is_reverting (moment plan journal).tool.reason) is where
    by : (b : Bool) → cond b (rolls_back (moment plan journal).server (live_session journal Copy)) (copy_call plan (moment plan journal).server journal (moment plan journal).tool work) ≡ Some request → NamesWell plan Copy request
    by true is = rolled_well plan Copy (in_transaction (moment plan journal).server (live_session journal Copy)) request is
    by false is = copier_well plan journal work.copier request names.copier (unless_called (copiers.starts work.copier && is_throttled plan (moment plan journal).server (moment plan journal).tool.operator) (copiers.next journal work.copier) request is)
  call_well (Migrating work) Apply request names is = by (is_reverting (moment plan journal).tool.reason) is where
    by : (b : Bool) → cond b (rolls_back (moment plan journal).server (live_session journal Apply)) (apply_call plan (moment plan journal).server journal (moment plan journal).tool work) ≡ Some request → NamesWell plan Apply request
    by true is = rolled_well plan Apply (in_transaction (moment plan journal).server (live_session journal Apply)) request is
    by false is = subst (NamesWell plan Apply) (sym (apply_called plan journal work request is)) (applier_well plan journal work.applier names.into)
  call_well (Migrating work) Lock request names is =
      locker_well plan work.cutover request names.cutover (unless_called (is_resting work.cutover.phase && not (may_begin plan (moment plan journal).server (moment plan journal).tool work)) (cutovers.next Locker work.cutover) request is)
  call_well (Migrating work) Ren request names is = subst (NamesWell plan Ren) (sym (renamer_next work.cutover request is)) (renamer_well plan work.cutover.table names.cutover)
  call_well (SettingUp setup tries) actor request names is = absurd cc
  call_well (Migrating work) actor request names is = absurd cc

  tool_well : (actor : Actor) (request : Request) → (moment plan journal).server ≡ state_at plan journal → tool_asks plan journal (moment plan journal) actor ≡ Some (Call request) → NamesWell plan actor request
  tool_well actor request server gives = by (asking plan journal actor (Call request) server gives) where
    same_call : (a b : Request) → Call a ≡ Call b → a ≡ b
    same_call a b same = cc

    by : Asking plan journal actor (Call request) → NamesWell plan actor request
    by (calls_so other same idle call) = call_well (moment plan journal).tool.tool_phase actor request (named plan journal) (call ∙ ap Some (sym (same_call request other same)))
    by (polls_so other same some) = absurd (no same) where
      no : Call request ≡ Poll → ⊥
      no both = cc

  given_well : (actor : Actor) (request : Request) → (moment plan journal).server ≡ state_at plan journal → given plan journal actor ≡ Some (Call request) → NamesWell plan actor request
  unfolding given
  given_well (Client c) request server gives = client_well plan serial c request (given_asked plan journal (Client c) request gives)
  given_well Op request server gives = absurd (no_word (slice_get (words_of plan) (moment plan journal).tool.operator.taken) (Call request) refl gives)
  given_well Insp request server gives = anything plan Insp request (λ name. refl)
  given_well Copy request server gives = tool_well Copy request server gives
  given_well Apply request server gives = tool_well Apply request server gives
  given_well Lock request server gives = tool_well Lock request server gives
  given_well Ren request server gives = tool_well Ren request server gives

-- ONE TURN MORE

pub record IsHeldWell (plan : PlanData) (journal : List Entry) : Type 0 where
  pub asked : IsKnownAsked plan journal
  pub serving : IsServing (state_at plan journal)
  pub waits : AllWaits (NamesWell plan) plan journal
  pub held : (a : Actor) (n : ℕ) → live_session journal a ≡ Some n → WithinIn (MayName plan a) (session_of n (state_at plan journal).sessions)
  pub apart : WaitsApart (state_at plan journal).waiting

module _ (plan : PlanData) (runs : IsRunnable plan) (serial : IsSerialPlan plan) (journal : List Entry) (entry : Entry) (kept : IsKept plan journal) (run : IsRun plan journal entry) (is : IsHeldWell plan journal) where
  abbrev now : State
  now = state_at plan journal

  abbrev more : List Entry
  more = journal ++ entry ∷ []

  abbrev open_now : State
  open_now = opens entry now

  all : AllTogether plan journal
  all = is.asked.marking.tabled.all

  known : IsKnown plan journal
  known = all.tool.known

  served : IsServed plan journal entry
  served = record { answered = run.answered; seated = record { session = run.followed.session } }

  at : Placed journal entry
  at = placed journal entry served.seated

  same_waiting : open_now.waiting ≡ now.waiting
  same_waiting = opened_waits (is_command entry.asked) (not (is_client entry.actor)) entry.session now

  own_request : is_command entry.asked ≡ false → request_of (waiting_of entry.session open_now.waiting) ≡ (standing_of plan journal entry.actor).waits
  own_request called = ap (λ (w : List Waiting). request_of (waiting_of entry.session w)) same_waiting ∙ own_waiting plan journal entry known served called

  called_well : (request : Request) → entry.asked ≡ Call request → given plan journal entry.actor ≡ Some (Call request)
  called_well request asks = subst (IsGiven plan journal entry) asks run.followed.given

  own_start : is_command entry.asked ≡ false → WithinIn (MayName plan entry.actor) (session_of entry.session open_now.sessions)
  own_start called = opened_within (MayName plan entry.actor) (is_command entry.asked) (not (is_client entry.actor)) entry.session entry.session now (by at) where
    by : Placed journal entry → WithinIn (MayName plan entry.actor) (session_of entry.session now.sessions)
    by (Commands command zero) = absurd (true≢false (sym command ∙ called))
    by (GoesOn calls live) = is.held entry.actor entry.session live
    by (Begins calls uncut live above) = rw (known.fresh entry.session above) tt

  own_held : is_command entry.asked ≡ false → WithinIn (MayName plan entry.actor) (session_of entry.session (state_at plan more).sessions)
  own_held called =
      subst (λ (s : State). WithinIn (MayName plan entry.actor) (session_of entry.session s.sessions)) (sym (state_more plan journal entry))
      (leaves_within (MayName plan entry.actor) entry.side open_now entry.session entry.asked (λ request asks. given_well plan serial journal entry.actor request all.tool.server (called_well request asks))
      (λ polls request some. is.waits entry.actor request (sym (own_request called) ∙ some)) (own_start called))

  held_more : (a : Actor) (n : ℕ) → live_session more a ≡ Some n → WithinIn (MayName plan a) (session_of n (state_at plan more).sessions)
  held_more a n lives = live_cases journal entry known.sessions at a n (WithinIn (MayName plan a) (session_of n (state_at plan more).sessions)) lives here there where
    here : a ≡ entry.actor → is_command entry.asked ≡ false → n ≡ entry.session → WithinIn (MayName plan a) (session_of n (state_at plan more).sessions)
    here who called which = rw (who, which) (own_held called)

    there : same_actor entry.actor a ≡ false → live_session journal a ≡ Some n → WithinIn (MayName plan a) (session_of n (state_at plan more).sessions)
    there differ old = rw (session_there plan journal entry known served n (others_differ journal entry known.sessions at a n differ old)) (is.held a n old)

  none_if : (waiting : Option Waiting) → request_of waiting ≡ None → waiting ≡ None
  none_if None none = refl
  none_if (Some waiting) some = absurd cc

  apart_more : WaitsApart (state_at plan more).waiting
  apart_more =
      subst (λ (s : State). WaitsApart s.waiting) (sym (state_more plan journal entry))
      (leaves_apart open_now entry.session entry.side entry.asked
      (λ request asks. none_if (waiting_of entry.session open_now.waiting) (own_request (ap is_command asks) ∙ given_idle plan journal entry.actor request all (called_well request asks))) (subst WaitsApart (sym same_waiting) is.apart))

  pub held_well_more : IsHeldWell plan more
  held_well_more = record {
    asked = asked_more plan journal entry run is.asked;
    serving = serving_more plan runs journal entry kept run known is.serving;
    waits = waits_more (NamesWell plan) plan journal entry all is.waits run (λ request asks gives. given_well plan serial journal entry.actor request all.tool.server gives);
    held = held_more;
    apart = apart_more;
  }

pub held_well_begins : (plan : PlanData) → IsRunnable plan → IsHeldWell plan []
unfolding state_after live_session
held_well_begins plan runs = record {
  asked = asked_begins plan runs;
  serving = opened_serves (record { client_wait = plan.options.client_wait; tool_wait = plan.options.tool_wait }) plan.tables (opening_well_formed plan.tables runs.tables);
  waits = waits_begin (NamesWell plan) plan;
  held = λ a n lives. absurd cc;
  apart = tt;
}

-- *Whose names are whose*, after every kept journal
pub all_held_well : (plan : PlanData) (journal : List Entry) → IsRunnable plan → IsSerialPlan plan → IsKept plan journal → IsHeldWell plan journal
all_held_well plan journal runs serial kept =
    each_kept plan (IsHeldWell plan) (λ before entry one is. held_well_more plan runs serial before entry (kept_front plan before (entry ∷ []) one) (kept_run plan before entry one) is) journal kept (held_well_begins plan runs)
