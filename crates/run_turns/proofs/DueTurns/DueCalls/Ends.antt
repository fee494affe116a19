-- Who asks for a range of keys: the inspector alone, and for the migrated table's.
use Rattle.std.proofs.Common.{◌≡◌, ℕ, Bool, true, false, not, ◌&&◌, cond, List, Option, Some, None, refl, sym, ap, ◌∙◌, subst}
use Rattle.std.specs.List.{slice_get}
use Rattle.base_script.specs.declared.actor.Actor.{Actor}
use Rattle.base_script.specs.declared.actor.Actor.TheVariants.{Op, Insp, Copy, Apply, Lock, Ren, Client}
use Rattle.base_script.specs.declared.script.ScriptWord.{ScriptWord}
use Rattle.base_script.specs.declared.script.ScriptWord.TheVariants as words
use Rattle.server_model.specs.declared.entry.Asked.TheVariants.{Call, Poll}
use Rattle.server_model.specs.declared.entry.Entry.{Entry}
use Rattle.server_model.specs.declared.request.Request.{Request}
use Rattle.server_model.specs.declared.request.Request.TheVariants as requests
use Rattle.plan_data.specs.PlanData.{PlanData}
use Rattle.tool_changelog.specs.ToolTables.{sentry_schema}
use Rattle.tool_program.specs.JournalWords.Clients.{client_at, word_asks, client_asks}
use Rattle.tool_program.specs.JournalWords.KeptPlans.{words_of}
use Rattle.tool_program.specs.JournalWords.Sessions.{live_session}
use Rattle.tool_program.specs.declared.chunk_copier.copier.CopyStep.{CopyStep}
use Rattle.tool_program.specs.declared.chunk_copier.copier.CopyStep.TheVariants as copying
use Rattle.tool_program.specs.ChunkCopier.Copiers as copiers
use Rattle.tool_program.specs.declared.event_applier.applier.Applier.{Applier}
use Rattle.tool_program.specs.declared.event_applier.applier.ApplyStep.{ApplyStep}
use Rattle.tool_program.specs.declared.event_applier.applier.ApplyStep.TheVariants as applying
use Rattle.tool_program.specs.EventApplier.Appliers as appliers
use Rattle.tool_program.specs.EventApplier.Appliers.{Doing, statement_result, doing_at}
use Rattle.tool_program.specs.declared.cutover_core.cutover.Clearing.{Clearing as Cleared}
use Rattle.tool_program.specs.declared.cutover_core.cutover.Clearing.TheVariants.{Looking, Drops}
use Rattle.tool_program.specs.declared.cutover_core.cutover.CutOver.{CutOver}
use Rattle.tool_program.specs.declared.cutover_core.cutover.Hold.{Hold}
use Rattle.tool_program.specs.declared.cutover_core.cutover.Hold.TheVariants.{Nothing, WaitsToGuard, WaitsToLock, Locks}
use Rattle.tool_program.specs.declared.cutover_core.cutover.Phase.{Phase}
use Rattle.tool_program.specs.declared.cutover_core.cutover.Phase.TheVariants.{Resting, Attempting, Ending, Finishing, Finished}
use Rattle.tool_program.specs.declared.cutover_core.cutover.Role.TheVariants.{Inspector, Locker}
use Rattle.tool_program.specs.declared.cutover_core.cutover.Stage.TheVariants.{Locking, Hinting, Showing, Dropping, Unlocking, ReadingCounter, SettingCounter}
use Rattle.tool_program.specs.CutoverCore.Attempts as cutovers
use Rattle.tool_program.specs.CutoverCore.Attempts.{clears, is_free, unlocks, exchange}
use Rattle.tool_program.specs.CutoverCore.CutOvers.{is_resting}
use Rattle.tool_program.specs.Operators.{is_throttled}
use Rattle.tool_program.specs.Setups.{Setup, Listing, Clearing, MakingLog, MakingGhost, Marking, Reaching, Ready, setup_call}
use Rattle.tool_program.specs.Programs.{in_transaction, rolls_back, copy_call, apply_call, may_begin, tool_call, tool_asks, given}
use Rattle.tool_program.specs.Tools.{ToolPhase, SettingUp, Migrating, is_reverting, Moment, moment}
use Rattle.proof_journals.specs.Machine.Machines.{copier_asks}
use Rattle.proof_journals.proofs.Machine.Inspecting.{inspects_or}
use Rattle.proof_journals.proofs.Machine.Asking.{some_request, unless_called, copier_next, renamer_next}
use Rattle.proof_journals.proofs.Machine.Calling.{reverting_or}
use Rattle.proof_journals.proofs.Machine.Clients.{Next, calls_line, polls_line, client_next}
use Rattle.proof_journals.proofs.Machine.Forming.{next_call}
use Rattle.proof_journals.proofs.Machine.Journals.{Asking, calls_so, polls_so, asking, apply_called}
use Rattle.proof_journals.proofs.Machine.Polling.{AllTogether, no_word}

-- who may ask for the range of this table
abbrev pub EndsBy : PlanData → Actor → List ℕ → Type 0
EndsBy plan Insp table = table ≡ plan.table
EndsBy plan actor table = ⊥

-- the actor may ask this
abbrev pub AsksEnds : PlanData → Actor → Request → Type 0
AsksEnds plan actor (requests.Ends table) = EndsBy plan actor table
AsksEnds plan actor request = Unit {0}

-- no range is asked for
abbrev is_no_ends : Request → Bool
is_no_ends (requests.Ends table) = false
is_no_ends request = true

quiet_asks : (plan : PlanData) (actor : Actor) (request : Request) → is_no_ends request ≡ true → AsksEnds plan actor request
quiet_asks plan actor (requests.Ends table) is = absurd (cc)
quiet_asks plan actor request is = tt

copier_quiet : (step : CopyStep) (request : Request) → copier_asks step request ≡ true → is_no_ends request ≡ true
copier_quiet copying.Choosing (requests.ChunkEnd table low top size) kind = refl
copier_quiet (copying.Spanning reported size) (requests.BeginSpan table span most) kind = refl
copier_quiet (copying.Copying chunk copied) (requests.CopyRow from into map key) kind = refl
copier_quiet (copying.Committing chunk) requests.Commit kind = refl
copier_quiet step request kind = absurd cc

applier_quiet : (journal : List Entry) (applier : Applier) (step : ApplyStep) → is_no_ends (appliers.call_at journal applier step) ≡ true
applier_quiet journal applier applying.Reading = refl
applier_quiet journal applier (applying.Beginning batch) = refl
applier_quiet journal applier (applying.Applying batch done part) = at (doing_at journal applier (applying.Applying batch done part))
  where
    at : (doing : Option Doing) → is_no_ends (statement_result applier doing) ≡ true
    at None = refl
    at (Some doing) = refl
applier_quiet journal applier (applying.Committing batch) = refl

word_quiet : (word : ScriptWord) → is_no_ends (word_asks word) ≡ true
word_quiet words.Begin = refl
word_quiet words.Commit = refl
word_quiet words.Rollback = refl
word_quiet (words.Do statement) = refl

back_quiet : (busy : Bool) (request : Request) → cond busy (Some requests.Rollback) None ≡ Some request → is_no_ends request ≡ true
back_quiet true request is = some_request (λ r. is_no_ends r ≡ true) _ request is refl
back_quiet false request is = absurd cc

clears_quiet : (table : List ℕ) (clearing : Cleared) (request : Request) → clears table clearing ≡ Some request → is_no_ends request ≡ true
clears_quiet table Looking request is = some_request (λ r. is_no_ends r ≡ true) _ request is refl
clears_quiet table (Drops left) request is = some_request (λ r. is_no_ends r ≡ true) _ request is refl

inspector_quiet : (cutover : CutOver) (request : Request) → cutovers.next Inspector cutover ≡ Some request → is_no_ends request ≡ true
unfolding cutovers.next
inspector_quiet cutover request is = by cutover.phase is
  where
    by : (phase : Phase) → cutovers.inspector_call cutover phase ≡ Some request → is_no_ends request ≡ true
    by (Attempting Hinting) is = some_request (λ r. is_no_ends r ≡ true) _ request is refl
    by (Attempting (ReadingCounter drain)) is = some_request (λ r. is_no_ends r ≡ true) _ request is refl
    by (Attempting (SettingCounter number drain)) is = some_request (λ r. is_no_ends r ≡ true) _ request is refl
    by (Attempting Showing) is = some_request (λ r. is_no_ends r ≡ true) _ request is refl
    by (Attempting stage) is = absurd cc
    by (Ending clearing) is = at (is_free cutover.hold cutover.renamer_waits) is
      where
        at : (b : Bool) → cond b (clears cutover.table clearing) None ≡ Some request → is_no_ends request ≡ true
        at true is = clears_quiet cutover.table clearing request is
        at false is = absurd cc
    by (Finishing clearing) is = clears_quiet cutover.table clearing request is
    by Resting is = absurd cc
    by Finished is = absurd cc

locker_quiet : (cutover : CutOver) (request : Request) → cutovers.next Locker cutover ≡ Some request → is_no_ends request ≡ true
unfolding cutovers.next
locker_quiet cutover request is = by cutover.phase is
  where
    frees : (hold : Hold) → unlocks hold ≡ Some request → is_no_ends request ≡ true
    frees Locks is = some_request (λ r. is_no_ends r ≡ true) _ request is refl
    frees Nothing is = absurd cc
    frees WaitsToGuard is = absurd cc
    frees WaitsToLock is = absurd cc

    by : (phase : Phase) → cutovers.locker_call cutover phase ≡ Some request → is_no_ends request ≡ true
    by Resting is = some_request (λ r. is_no_ends r ≡ true) _ request (unless_called cutover.is_stopped (Some (requests.Create (sentry_schema cutover.table))) request is) refl
    by (Attempting Locking) is = some_request (λ r. is_no_ends r ≡ true) _ request is refl
    by (Attempting Dropping) is = some_request (λ r. is_no_ends r ≡ true) _ request is refl
    by (Attempting Unlocking) is = some_request (λ r. is_no_ends r ≡ true) _ request is refl
    by (Attempting stage) is = absurd cc
    by (Ending clearing) is = frees cutover.hold is
    by (Finishing clearing) is = absurd cc
    by Finished is = absurd cc

-- the inspector's call in the setup
setup_ends : (plan : PlanData) (setup : Setup) (request : Request) → setup_call plan setup ≡ Some request → AsksEnds plan Insp request
setup_ends plan Listing request is = some_request (AsksEnds plan Insp) _ request is tt
setup_ends plan (Clearing left) request is = some_request (AsksEnds plan Insp) _ request is tt
setup_ends plan MakingLog request is = some_request (AsksEnds plan Insp) _ request is tt
setup_ends plan MakingGhost request is = some_request (AsksEnds plan Insp) _ request is tt
setup_ends plan Marking request is = some_request (AsksEnds plan Insp) _ request is tt
setup_ends plan (Reaching position) request is = some_request (AsksEnds plan Insp) _ request is refl
setup_ends plan (Ready position range) request is = absurd cc

module _ (plan : PlanData) (journal : List Entry) where
  abbrev now : Moment
  now = moment plan journal

  call_ends : (actor : Actor) (request : Request) (tool_phase : ToolPhase) → tool_call plan now.server journal now.tool tool_phase actor ≡ Some request → AsksEnds plan actor request
  call_ends Insp request (SettingUp setup tries) call = setup_ends plan setup request (unless_called (is_reverting now.tool.reason) (setup_call plan setup) request call)
  call_ends Insp request (Migrating work) call = quiet_asks plan Insp request (inspects_or plan journal now.tool work request (is_no_ends request ≡ true) call (λ note resting. ap is_no_ends note.is) (λ next. inspector_quiet work.cutover request next))
  call_ends Copy request (Migrating work) call =
      quiet_asks plan Copy request
      (reverting_or (is_no_ends request ≡ true) (is_reverting now.tool.reason) (rolls_back now.server (live_session journal Copy)) (copy_call plan now.server journal now.tool work) request call
      (λ reverting back. back_quiet (in_transaction now.server (live_session journal Copy)) request back)
      (λ going asks. copier_quiet work.copier.step request (copier_next journal work.copier request (unless_called (copiers.starts work.copier && is_throttled plan now.server now.tool.operator) (copiers.next journal work.copier) request asks))))
  call_ends Apply request (Migrating work) call =
      quiet_asks plan Apply request
      (reverting_or (is_no_ends request ≡ true) (is_reverting now.tool.reason) (rolls_back now.server (live_session journal Apply)) (apply_call plan now.server journal now.tool work) request call
      (λ reverting back. back_quiet (in_transaction now.server (live_session journal Apply)) request back)
      (λ going asks. ap is_no_ends (apply_called plan journal work request asks ∙ next_call journal work.applier) ∙ applier_quiet journal work.applier work.applier.step))
  call_ends Lock request (Migrating work) call =
      quiet_asks plan Lock request (locker_quiet work.cutover request (unless_called (is_resting work.cutover.phase && not (may_begin plan now.server now.tool work)) (cutovers.next Locker work.cutover) request call))
  call_ends Ren request (Migrating work) call = subst (AsksEnds plan Ren) (sym (renamer_next work.cutover request call)) tt
  call_ends actor request (SettingUp setup tries) call = absurd cc
  call_ends actor request (Migrating work) call = absurd cc

  asked_ends : (actor : Actor) (request : Request) → now.server ≡ Rattle.tool_program.specs.JournalWords.Journals.state_at plan journal → tool_asks plan journal now actor ≡ Some (Call request) → AsksEnds plan actor request
  asked_ends actor request server gives = by (asking plan journal actor (Call request) server gives)
    where
      by : Asking plan journal actor (Call request) → AsksEnds plan actor request
      by (calls_so other same idle call) = let one : other ≡ request = cc in call_ends actor request now.tool.tool_phase (call ∙ ap Some one)
      by (polls_so other same some) = absurd (no same)
        where
          no : Call request ≡ Poll → ⊥
          no both = cc

  client_ends : (c : ℕ) (request : Request) → client_asks plan journal c ≡ Some (Call request) → AsksEnds plan (Client c) request
  client_ends c request gives = by (client_next plan journal c (Call request) gives)
    where
      by : Next (client_at plan journal c) (Call request) → AsksEnds plan (Client c) request
      by (calls_line line lines going off left same) = let one : word_asks line.word ≡ request = cc in subst (AsksEnds plan (Client c)) one (quiet_asks plan (Client c) (word_asks line.word) (word_quiet line.word))
      by (polls_line going on same) = absurd (no same)
        where
          no : Call request ≡ Poll → ⊥
          no both = cc

  -- *Who asks for a range*
  pub given_ends : (actor : Actor) (request : Request) → AllTogether plan journal → given plan journal actor ≡ Some (Call request) → AsksEnds plan actor request
  unfolding given
  given_ends (Client c) request is gives = client_ends c request gives
  given_ends Op request is gives = absurd (no_word (slice_get (words_of plan) now.tool.operator.taken) (Call request) refl gives)
  given_ends Insp request is gives = asked_ends Insp request is.tool.server gives
  given_ends Copy request is gives = asked_ends Copy request is.tool.server gives
  given_ends Apply request is gives = asked_ends Apply request is.tool.server gives
  given_ends Lock request is gives = asked_ends Lock request is.tool.server gives
  given_ends Ren request is gives = asked_ends Ren request is.tool.server gives
