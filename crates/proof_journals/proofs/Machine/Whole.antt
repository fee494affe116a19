-- All that is given to an actor may be called or polled.
use Rattle.std.proofs.Common.{◌≡◌, ◌⊎◌, ℕ, Bool, true, false, not, ◌&&◌, List, [], ◌∷◌, ◌++◌, Option, Some, None, refl, sym, ap, ◌∙◌, subst, inl, inr}
use Rattle.std.specs.List.{slice_get}
use Rattle.std.specs.Option.{option_map}
use Rattle.std.proofs.lemmas.Bool.{true≢false}
use Rattle.std.proofs.lemmas.Option.{same_Some}
use Rattle.base_values.specs.declared.span.Bound.{Bound}
use Rattle.base_values.specs.declared.span.Bound.TheVariants.{Open, Closed, Free}
use Rattle.base_values.specs.Spans.{EndOfKinds, SpanOfKinds}
use Rattle.base_values.specs.StoredValues.{AreOfKinds}
use Rattle.base_values.specs.declared.gho_schema.schema.Schema.{Schema}
use Rattle.table_store.specs.Databases.{TableRows, Database, find_table}
use Rattle.base_script.specs.declared.actor.Actor.{Actor}
use Rattle.base_script.specs.declared.actor.Side.{Side}
use Rattle.base_script.specs.declared.actor.Actor.TheVariants.{Op, Insp, Copy, Apply, Lock, Ren, Client}
use Rattle.base_script.specs.declared.script.ScriptWord.{ScriptWord}
use Rattle.base_script.specs.declared.script.ScriptWord.TheVariants as words
use Rattle.server_model.specs.Along.{Along-keeps}
use Rattle.server_model.specs.Conditions.{key_kinds, IsMapOf, IfExists, IsWellFormed, MayCall, MayPoll, MayLose}
use Rattle.server_model.specs.declared.entry.Asked.TheVariants.{Call, Poll}
use Rattle.server_model.specs.declared.entry.Entry.{Entry}
use Rattle.server_model.specs.declared.request.Request.{Request}
use Rattle.server_model.specs.declared.request.Request.TheVariants as requests
use Rattle.server_model.specs.Entries.{is_client}
use Rattle.plan_data.specs.PlanData.{PlanData, old_schema}
use Rattle.tool_program.specs.JournalWords.Clients.{client_at, word_asks}
use Rattle.tool_program.specs.JournalWords.Journals.{state_at, IsFaithful}
use Rattle.tool_program.specs.JournalWords.KeptPlans.{words_of}
use Rattle.tool_program.specs.JournalWords.Sessions.{live_session}
use Rattle.tool_program.specs.declared.event_applier.applier.ApplyStep.{ApplyStep}
use Rattle.tool_program.specs.declared.event_applier.applier.ApplyStep.TheVariants as applying
use Rattle.tool_program.specs.declared.cutover_core.cutover.CutOver.{CutOver}
use Rattle.tool_program.specs.declared.cutover_core.cutover.Hold.{Hold}
use Rattle.tool_program.specs.declared.cutover_core.cutover.Hold.TheVariants.{Nothing, WaitsToGuard, WaitsToLock, Locks}
use Rattle.tool_program.specs.declared.cutover_core.cutover.Phase.{Phase}
use Rattle.tool_program.specs.declared.cutover_core.cutover.Phase.TheVariants.{Resting, Attempting, Ending, Finishing, Finished}
use Rattle.tool_program.specs.declared.cutover_core.cutover.Role.TheVariants.{Locker}
use Rattle.tool_program.specs.declared.cutover_core.cutover.Stage.TheVariants.{Locking, Dropping, Unlocking}
use Rattle.tool_program.specs.CutoverCore.Attempts as cutovers
use Rattle.tool_program.specs.CutoverCore.Attempts.{exchange, unlocks}
use Rattle.tool_program.specs.CutoverCore.CutOvers.{is_resting}
use Rattle.tool_program.specs.Programs.{in_transaction, tool_call, tool_asks, apply_call, may_begin, rolls_back, given, Follows}
use Rattle.tool_program.specs.Tools.{Work, ToolPhase, SettingUp, Migrating, is_reverting, moment}
use Rattle.proof_journals.specs.Scenes.{Stored}
use Rattle.proof_journals.proofs.Journals.{stored_opened}
use Rattle.proof_journals.specs.Machine.Standings.{Standing, standing_of, opened_for}
use Rattle.proof_journals.specs.Machine.Machines.{inspector_asks, applier_asks, ApplierStands, ToolPhaseStands}
use Rattle.proof_journals.specs.Machine.FormedPlans.{IsFitting}
use Rattle.proof_journals.specs.Machine.MigrationTables.{schema_of, ghost_schema, TablesExist, ToolPhaseTables}
use Rattle.proof_journals.specs.Machine.TableKeys.{kinds_of, IsClosedKey, IsKeyed, IsMapped, ToolPhaseKeyed}
use Rattle.proof_journals.specs.Machine.Runnable.{IsRunnable}
use Rattle.proof_journals.specs.Machine.Laws.{has_keys, IsCalledWell, GivenCallsMayBeCalled, GivenPollsMayBeCalled, LossesMayBe}
use Rattle.proof_journals.proofs.Machine.Asking.{some_request, WaitsWith, unless_called, applier_next, setup_next, renamer_next}
use Rattle.proof_journals.proofs.Machine.Inspecting.{inspector_called}
use Rattle.proof_journals.proofs.Machine.Journals.{IsRun, all_runs, Asking, calls_so, polls_so, asking, apply_called}
use Rattle.proof_journals.proofs.Machine.Clients.{Next, calls_line, polls_line, client_next}
use Rattle.proof_journals.proofs.Machine.Calling.{given_calls, reverting_or}
use Rattle.proof_journals.proofs.Machine.Forming.{next_call}
use Rattle.proof_journals.proofs.Machine.Making.{given_formed}
use Rattle.proof_journals.proofs.Machine.Polling.{AllTogether, AllWaits, waits_more, waits_begin, together_more_all, together_begins_all, given_waits, no_word, WaitsFormed, all_formed, may_poll}
use Rattle.proof_journals.proofs.Machine.Tabling.{back_quiet}
use Rattle.proof_journals.proofs.Machine.Staying.{tables_stay}
use Rattle.proof_journals.proofs.Machine.Keyed.{IsKeyedAll, all_keyed, copy_called, copy_uncopied}

-- WHAT IS KEYED IS WELL FORMED

-- where a schema stands, this holds of it
stands_so : (P : Schema → Type 0) (schema : Schema) (found : Option TableRows) → option_map (λ table. table.schema) found ≡ Some schema → P schema → IfExists P found
stands_so P schema None is holds = tt
stands_so P schema (Some table) is holds = let same : table.schema ≡ schema = cc in subst P (sym same) holds

closed_kinds : (plan : PlanData) (end : Bound) → IsClosedKey plan end → EndOfKinds end (kinds_of plan)
closed_kinds plan (Closed key) is = is
closed_kinds plan (Open key) is = absurd is
closed_kinds plan Free is = absurd is

keyed_formed : (plan : PlanData) (tables : Database) (request : Request) → TablesExist plan tables → IsMapped plan → IsKeyed plan request → has_keys request ≡ true → IsWellFormed tables request
keyed_formed plan tables (requests.ChunkEnd table low top size) stand mapped keyed has =
    (keyed.1, stands_so (λ schema. EndOfKinds low (key_kinds schema) × AreOfKinds top (key_kinds schema)) (old_schema plan) (find_table table tables) (ap (λ (t : List ℕ). schema_of t tables) keyed.0 ∙ stand.old) (keyed.2, keyed.3))
keyed_formed plan tables (requests.BeginSpan table span size) stand mapped keyed has =
    (keyed.1, stands_so (λ schema. SpanOfKinds span (key_kinds schema)) (old_schema plan) (find_table table tables) (ap (λ (t : List ℕ). schema_of t tables) keyed.0 ∙ stand.old) (record { low = keyed.2; high = closed_kinds plan span.high keyed.3 }))
keyed_formed plan tables (requests.CopyRow from into map key) stand mapped keyed has =
    stands_so (λ old. AreOfKinds key (key_kinds old) × IfExists (λ new. IsMapOf map old new) (find_table into tables)) (old_schema plan) (find_table from tables) (ap (λ (t : List ℕ). schema_of t tables) keyed.0 ∙ stand.old)
    (keyed.3, stands_so (λ new. IsMapOf map (old_schema plan) new) (ghost_schema plan) (find_table into tables) (ap (λ (t : List ℕ). schema_of t tables) keyed.1 ∙ stand.ghost) (rw keyed.2 mapped))
keyed_formed plan tables request stand mapped keyed has = absurd cc

-- CALLS

module _ (plan : PlanData) (journal : List Entry) (is : IsKeyedAll plan journal) (mapped : IsMapped plan) where
  -- the two tables stand while rows are left
  tables_exist_now : (work : Work) → (moment plan journal).tool.tool_phase ≡ Migrating work → work.copier.is_copied ≡ false → TablesExist plan (state_at plan journal).tables
  tables_exist_now work tool_phase off = ((subst (ToolPhaseTables plan (state_at plan journal).tables (standing_of plan journal)) tool_phase is.tabled.tables).going off).tables

  copy_formed : (request : Request) (tool_phase : ToolPhase) → (moment plan journal).tool.tool_phase ≡ tool_phase → has_keys request ≡ true → tool_call plan (moment plan journal).server journal (moment plan journal).tool tool_phase Copy ≡ Some request → IsWellFormed (state_at plan journal).tables request
  copy_formed request (SettingUp setup tries) tool_phase has call = absurd cc
  copy_formed request (Migrating work) tool_phase has call =
      keyed_formed plan (state_at plan journal).tables request (tables_exist_now work tool_phase (copy_uncopied plan journal request work has call)) mapped
      (copy_called plan journal request (Migrating work) (subst (ToolPhaseKeyed plan journal) tool_phase is.tool_phase) call) has

  copy_given : (request : Request) → has_keys request ≡ true → tool_asks plan journal (moment plan journal) Copy ≡ Some (Call request) → IsWellFormed (state_at plan journal).tables request
  copy_given request has gives = by (asking plan journal Copy (Call request) is.tabled.all.tool.server gives) where
    by : Asking plan journal Copy (Call request) → IsWellFormed (state_at plan journal).tables request
    by (calls_so other same idle call) = let one : other ≡ request = cc in copy_formed request (moment plan journal).tool.tool_phase refl has (call ∙ ap Some one)
    by (polls_so other same some) = absurd (no same) where
      no : Call request ≡ Poll → ⊥
      no both = cc

  keyed_given : (actor : Actor) (request : Request) → given plan journal actor ≡ Some (Call request) → actor ≡ Copy → has_keys request ≡ true → IsWellFormed (state_at plan journal).tables request
  unfolding given
  keyed_given actor request gives same has = copy_given request has (subst (λ (a : Actor). given plan journal a ≡ Some (Call request)) same gives)

keyed_all : (plan : PlanData) (journal : List Entry) → IsRunnable plan → IsFaithful plan journal → Follows plan journal → IsKeyedAll plan journal
keyed_all plan journal runs faithful follows = all_keyed plan journal runs.fitting runs.stands (tables_stay plan journal runs.fitting runs.tables faithful follows) faithful follows

-- *Given calls may be called*
pub given_called : GivenCallsMayBeCalled
given_called plan journal actor request n runs faithful follows gives may =
    let well : IsCalledWell (opened_for plan journal actor n) n request = given_calls plan journal actor request n runs.fitting.scripts faithful follows gives may in
    let tables : (opened_for plan journal actor n).tables ≡ (state_at plan journal).tables = ap (λ (s : Stored). s.tables) (stored_opened false (not (is_client actor)) n (state_at plan journal)) in
    let is : IsKeyedAll plan journal = keyed_all plan journal runs faithful follows in
    record {
      live = well.live;
      idle = well.idle;
      comes = well.comes;
      formed = given_formed plan journal (opened_for plan journal actor n).tables runs.fitting actor request (λ same has. subst (λ (d : Database). IsWellFormed d request) (sym tables) (keyed_given plan journal is runs.mapped actor request gives same has)) gives;
    }

-- WHO ASKS WITH KEYS

insp_keyless : (request : Request) → inspector_asks request ≡ true → has_keys request ≡ false
insp_keyless (requests.ChunkEnd table low top size) kind = absurd cc
insp_keyless (requests.BeginSpan table span size) kind = absurd cc
insp_keyless (requests.CopyRow from into map key) kind = absurd cc
insp_keyless request kind = refl

apply_keyless : (step : ApplyStep) (request : Request) → applier_asks step request ≡ true → has_keys request ≡ false
apply_keyless applying.Reading (requests.ReadLog position limit tables) kind = refl
apply_keyless (applying.Beginning batch) requests.Begin kind = refl
apply_keyless (applying.Applying batch done part) (requests.Do statement) kind = refl
apply_keyless (applying.Committing batch) requests.Commit kind = refl
apply_keyless step request kind = absurd cc

lock_keyless : (cutover : CutOver) (request : Request) → cutovers.next Locker cutover ≡ Some request → has_keys request ≡ false
unfolding cutovers.next
lock_keyless cutover request is = by cutover.phase is where
  frees : (hold : Hold) → unlocks hold ≡ Some request → has_keys request ≡ false
  frees Locks is = some_request (λ r. has_keys r ≡ false) _ request is refl
  frees Nothing is = absurd cc
  frees WaitsToGuard is = absurd cc
  frees WaitsToLock is = absurd cc

  by : (phase : Phase) → cutovers.locker_call cutover phase ≡ Some request → has_keys request ≡ false
  by Resting is = some_request (λ r. has_keys r ≡ false) _ request (unless_called cutover.is_stopped (Some (requests.Create (Rattle.tool_changelog.specs.ToolTables.sentry_schema cutover.table))) request is) refl
  by (Attempting Locking) is = some_request (λ r. has_keys r ≡ false) _ request is refl
  by (Attempting Dropping) is = some_request (λ r. has_keys r ≡ false) _ request is refl
  by (Attempting Unlocking) is = some_request (λ r. has_keys r ≡ false) _ request is refl
  by (Attempting stage) is = absurd cc
  by (Ending clearing) is = frees cutover.hold is
  by (Finishing clearing) is = absurd cc
  by Finished is = absurd cc

word_keyless : (word : ScriptWord) → has_keys (word_asks word) ≡ false
word_keyless words.Begin = refl
word_keyless words.Commit = refl
word_keyless words.Rollback = refl
word_keyless (words.Do statement) = refl

-- the copier alone asks with keys
abbrev KeysAreCopiers : Actor → Request → Type 0
KeysAreCopiers actor request = has_keys request ≡ true → actor ≡ Copy

not_keys : (actor : Actor) (request : Request) → has_keys request ≡ false → KeysAreCopiers actor request
not_keys actor request none has = absurd (true≢false (sym has ∙ none))

call_keys : (plan : PlanData) (journal : List Entry) (actor : Actor) (request : Request) (tool_phase : ToolPhase) → ToolPhaseStands journal (standing_of plan journal) (is_reverting (moment plan journal).tool.reason) tool_phase → tool_call plan (moment plan journal).server journal (moment plan journal).tool tool_phase actor ≡ Some request → KeysAreCopiers actor request
call_keys plan journal Insp request (SettingUp setup tries) at call = not_keys Insp request (insp_keyless request (setup_next plan (is_reverting (moment plan journal).tool.reason) setup request call))
call_keys plan journal Insp request (Migrating work) at call = not_keys Insp request (insp_keyless request (inspector_called plan journal (moment plan journal).tool work request call).0)
call_keys plan journal Copy request (Migrating work) at call = λ has. refl
call_keys plan journal Apply request (Migrating work) at call =
    reverting_or (KeysAreCopiers Apply request) (is_reverting (moment plan journal).tool.reason) (rolls_back (moment plan journal).server (live_session journal Apply)) (apply_call plan (moment plan journal).server journal (moment plan journal).tool work) request call
    (λ reverting back_so. not_keys Apply request (ap has_keys (back_quiet (in_transaction (moment plan journal).server (live_session journal Apply)) request back_so))) (λ going asks. applied at.applier going asks) where
      stood : ApplierStands journal work.applier (standing_of plan journal Apply) → apply_call plan (moment plan journal).server journal (moment plan journal).tool work ≡ Some request → has_keys request ≡ false
      stood stands asks =
          apply_keyless work.applier.step request
          (ap (applier_asks work.applier.step) (apply_called plan journal work request asks ∙ next_call journal work.applier) ∙ applier_next journal work.applier work.applier.step stands.known)

      applied : (is_reverting (moment plan journal).tool.reason ≡ true) ⊎ ApplierStands journal work.applier (standing_of plan journal Apply) → is_reverting (moment plan journal).tool.reason ≡ false → apply_call plan (moment plan journal).server journal (moment plan journal).tool work ≡ Some request
          → KeysAreCopiers Apply request
      applied (inl reverting) going asks = absurd (true≢false (sym reverting ∙ going))
      applied (inr stands) going asks = not_keys Apply request (stood stands asks)
call_keys plan journal Lock request (Migrating work) at call =
    not_keys Lock request (lock_keyless work.cutover request (unless_called (is_resting work.cutover.phase && not (may_begin plan (moment plan journal).server (moment plan journal).tool work)) (cutovers.next Locker work.cutover) request call))
call_keys plan journal Ren request (Migrating work) at call = not_keys Ren request (ap has_keys (renamer_next work.cutover request call))
call_keys plan journal actor request (SettingUp setup tries) at call = absurd cc
call_keys plan journal actor request (Migrating work) at call = absurd cc

tool_keys : (plan : PlanData) (journal : List Entry) (actor : Actor) (request : Request) → AllTogether plan journal → tool_asks plan journal (moment plan journal) actor ≡ Some (Call request) → KeysAreCopiers actor request
tool_keys plan journal actor request is gives = by (asking plan journal actor (Call request) is.tool.server gives) where
  by : Asking plan journal actor (Call request) → KeysAreCopiers actor request
  by (calls_so other same idle call) = let one : other ≡ request = cc in call_keys plan journal actor request (moment plan journal).tool.tool_phase is.tool.stands (call ∙ ap Some one)
  by (polls_so other same some) = absurd (no same) where
    no : Call request ≡ Poll → ⊥
    no both = cc

given_keys : (plan : PlanData) (journal : List Entry) (actor : Actor) (request : Request) → AllTogether plan journal → given plan journal actor ≡ Some (Call request) → KeysAreCopiers actor request
unfolding given
given_keys plan journal (Client c) request is gives = not_keys (Client c) request (by (client_next plan journal c (Call request) gives)) where
  by : Next (client_at plan journal c) (Call request) → has_keys request ≡ false
  by (calls_line line lines going off left same) = let one : word_asks line.word ≡ request = cc in subst (λ (r : Request). has_keys r ≡ false) one (word_keyless line.word)
  by (polls_line going on same) = absurd (no same) where
    no : Call request ≡ Poll → ⊥
    no both = cc
given_keys plan journal Op request is gives = absurd (no_word (slice_get (words_of plan) (moment plan journal).tool.operator.taken) (Call request) refl gives)
given_keys plan journal Insp request is gives = tool_keys plan journal Insp request is gives
given_keys plan journal Copy request is gives = tool_keys plan journal Copy request is gives
given_keys plan journal Apply request is gives = tool_keys plan journal Apply request is gives
given_keys plan journal Lock request is gives = tool_keys plan journal Lock request is gives
given_keys plan journal Ren request is gives = tool_keys plan journal Ren request is gives

record KeysKnown (plan : PlanData) (journal : List Entry) : Type 0 where
  all : AllTogether plan journal
  waits : AllWaits KeysAreCopiers plan journal

keys_more : (plan : PlanData) → (journal : List Entry) (entry : Entry) → IsRun plan journal entry → KeysKnown plan journal → KeysKnown plan (journal ++ entry ∷ [])
keys_more plan journal entry run is =
    record { all = together_more_all plan journal entry is.all run; waits = waits_more KeysAreCopiers plan journal entry is.all is.waits run (λ request asks gives. given_keys plan journal entry.actor request is.all gives) }

all_keys : (plan : PlanData) (journal : List Entry) → IsFitting plan → IsFaithful plan journal → Follows plan journal → KeysKnown plan journal
unfolding Follows
all_keys plan journal fit faithful follows = Along-keeps (IsRun plan) (KeysKnown plan) (keys_more plan) [] journal (all_runs plan [] journal faithful follows) (record { all = together_begins_all plan fit; waits = waits_begin KeysAreCopiers plan })

-- POLLS

-- the copier's waiting request
copy_waits : (plan : PlanData) (journal : List Entry) (request : Request) (tool_phase : ToolPhase) → IsKeyedAll plan journal → IsMapped plan → (moment plan journal).tool.tool_phase ≡ tool_phase → (standing_of plan journal Copy).waits ≡ Some request → has_keys request ≡ true → IsWellFormed (state_at plan journal).tables request
copy_waits plan journal request (SettingUp setup tries) is mapped tool_phase some has = absurd (no (sym (ap (λ (s : Standing). s.waits) free_copy) ∙ some)) where
  free_copy : standing_of plan journal Copy ≡ Rattle.proof_journals.specs.Machine.Standings.free
  free_copy = (subst (ToolPhaseStands journal (standing_of plan journal) (is_reverting (moment plan journal).tool.reason)) tool_phase is.tabled.all.tool.stands).copier

  no : None ≡ Some request → ⊥
  no both = cc
copy_waits plan journal request (Migrating work) is mapped tool_phase some has =
    keyed_formed plan (state_at plan journal).tables request (tables_exist_now plan journal is mapped work tool_phase (off work.copier.is_copied refl)) mapped (is.waits Copy request some refl) has where
      off : (b : Bool) → work.copier.is_copied ≡ b → b ≡ false
      off false copied = refl
      off true copied = absurd (no (sym ((subst (ToolPhaseTables plan (state_at plan journal).tables (standing_of plan journal)) tool_phase is.tabled.tables).copied copied) ∙ some)) where
        no : None ≡ Some request → ⊥
        no both = cc

-- *Given polls may be called*
pub given_polled : GivenPollsMayBeCalled
given_polled plan journal actor runs faithful follows gives =
    let formed : WaitsFormed plan journal = all_formed plan journal runs.fitting faithful follows in
    let is : IsKeyedAll plan journal = keyed_all plan journal runs faithful follows in
    let with : WaitsWith (standing_of plan journal actor).waits = given_waits plan journal actor formed.all gives in
    may_poll plan journal actor with.request formed.all (live_session journal actor) refl with.is (by formed is with.request with.is (has_keys with.request) refl) where
      by : WaitsFormed plan journal → IsKeyedAll plan journal → (request : Request) → (standing_of plan journal actor).waits ≡ Some request → (b : Bool) → has_keys request ≡ b → IsWellFormed (state_at plan journal).tables request
      by formed is request some false none = formed.waits actor request some none (state_at plan journal).tables
      by formed is request some true has =
          let one : actor ≡ Copy = (all_keys plan journal runs.fitting faithful follows).waits actor request some has in
          copy_waits plan journal request (moment plan journal).tool.tool_phase is runs.mapped refl (ap (λ (a : Actor). (standing_of plan journal a).waits) (sym one) ∙ some) has

-- LOSSES

polled_lost : (plan : PlanData) (journal : List Entry) (n : ℕ) (side : Side) → (live : Option ℕ) → live ≡ Some n → (m : ℕ) × (live ≡ Some m) × MayPoll (state_at plan journal) m → MayLose (state_at plan journal) n (Some side) Poll
polled_lost plan journal n side live is found =
    let same : found.0 ≡ n = same_Some found.0 n (sym found.1 ∙ is) in
    let may : MayPoll (state_at plan journal) n = subst (MayPoll (state_at plan journal)) same found.2 in
    record { live = may.live; well = may }

-- *Losses may be*
pub losses : LossesMayBe
losses plan journal actor runs faithful follows = record {
  between = λ n lives. record { live = (all_formed plan journal runs.fitting faithful follows).all.tool.known.live actor n lives; well = refl };
  called = λ request n side gives may. let call : MayCall (opened_for plan journal actor n) n request = given_called plan journal actor request n runs faithful follows gives may in record { live = call.live; well = call };
  polled = λ n side gives lives. polled_lost plan journal n side (live_session journal actor) lives (given_polled plan journal actor runs faithful follows gives);
}
