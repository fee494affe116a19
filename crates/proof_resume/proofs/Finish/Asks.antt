-- What the new tool asks comes in order, and is well formed, by what its session has and by what its copier and its applier keep.
use Rattle.std.proofs.Common.{◌≡◌, ℕ, Bool, true, false, not, List, Option, Some, None, refl, sym, ap, ◌∙◌, subst}
use Rattle.std.specs.Option.{option_map}
use Rattle.std.proofs.lemmas.Bool.{true≢false}
use Rattle.base_values.specs.declared.span.Bound.{Bound}
use Rattle.base_values.specs.declared.span.Bound.TheVariants.{Open, Closed, Free}
use Rattle.base_values.specs.Spans.{EndOfKinds, SpanOfKinds}
use Rattle.base_values.specs.StoredValues.{AreOfKinds}
use Rattle.base_values.specs.declared.gho_schema.schema.Schema.{Schema}
use Rattle.base_script.specs.declared.actor.Actor.{Actor}
use Rattle.table_store.specs.Databases.{Database, TableRows, find_table}
use Rattle.server_model.specs.Conditions.{key_kinds, ComesWell, IfExists, IsMapOf, IsWellFormed, MayCall}
use Rattle.server_model.specs.declared.entry.Asked.{Asked}
use Rattle.server_model.specs.declared.entry.Asked.TheVariants.{Call, Poll, Command, Cut}
use Rattle.server_model.specs.declared.entry.Entry.{Entry}
use Rattle.server_model.specs.declared.request.Request.{Request}
use Rattle.server_model.specs.declared.request.Request.TheVariants as requests
use Rattle.server_model.specs.Entries.{is_client, is_command, is_cut}
use Rattle.server_model.specs.States.{State}
use Rattle.plan_data.specs.PlanData.{PlanData, old_schema}
use Rattle.tool_program.specs.JournalWords.Journals.{opens, opens_if, state_at}
use Rattle.tool_program.specs.JournalWords.Sessions.{live_session, IsSeated}
use Rattle.tool_program.specs.declared.chunk_copier.copier.CopyStep.{CopyStep}
use Rattle.tool_program.specs.declared.chunk_copier.copier.CopyStep.TheVariants as copying
use Rattle.tool_program.specs.declared.event_applier.applier.ApplyStep.{ApplyStep}
use Rattle.tool_program.specs.declared.event_applier.applier.ApplyStep.TheVariants as applying
use Rattle.tool_finish.specs.Finishes as finishes
use Rattle.proof_journals.specs.Scenes.{Stored}
use Rattle.proof_journals.specs.Machine.Laws.{has_keys, IsCalledWell}
use Rattle.proof_journals.specs.Machine.Machines.{applier_asks, applier_busy, copier_asks, copier_busy}
use Rattle.proof_journals.specs.Machine.MigrationTables.{ghost_schema, schema_of, TablesExist}
use Rattle.proof_journals.specs.Machine.Standings.{opened_for, standing_of, MayTake}
use Rattle.proof_journals.specs.Machine.TableKeys.{kinds_of, IsClosedKey, IsKeyed, IsMapped}
use Rattle.proof_journals.proofs.Actors.{placed}
use Rattle.proof_journals.proofs.Journals.{stored_opened}
use Rattle.proof_journals.proofs.Machine.Calling.{opened_comes}
use Rattle.proof_journals.proofs.Machine.Schemas.{is_quiet}
use Rattle.proof_journals.proofs.Machine.Seated.{is_opened, IsKnown, IsOpened}
use Rattle.proof_migration.proofs.Program.Turns.ActorStates.{actor_state_own}
use Rattle.proof_resume.proofs.Finish.Holders.{IsHeldBy}
use Rattle.proof_resume.proofs.Finish.Prompt.{its_actor, its_request}
use Rattle.proof_resume.proofs.Finish.Standing.{held_locked, held_waits}

-- BY THE COPIER'S STEP, AND THE APPLIER'S

pub copier_comes : (busy : Bool) (step : CopyStep) (request : Request) → busy ≡ copier_busy step → copier_asks step request ≡ true → ComesWell busy false request
copier_comes busy copying.Choosing (requests.ChunkEnd table low top size) is asks = tt
copier_comes busy (copying.Spanning reported size) (requests.BeginSpan table span most) is asks = (is, refl)
copier_comes busy (copying.Copying chunk copied) (requests.CopyRow from into map key) is asks = is
copier_comes busy (copying.Committing chunk) requests.Commit is asks = is
copier_comes busy step request is asks = absurd cc

pub applier_comes : (busy : Bool) (step : ApplyStep) (request : Request) → busy ≡ applier_busy step → applier_asks step request ≡ true → ComesWell busy false request
applier_comes busy applying.Reading (requests.ReadLog position limit tables) is asks = tt
applier_comes busy (applying.Beginning batch) requests.Begin is asks = (is, refl)
applier_comes busy (applying.Applying batch done part) (requests.Do statement) is asks = tt
applier_comes busy (applying.Committing batch) requests.Commit is asks = is
applier_comes busy step request is asks = absurd cc

-- neither makes, drops or renames a table
pub copier_quiet : (step : CopyStep) (request : Request) → copier_asks step request ≡ true → is_quiet request ≡ true
copier_quiet copying.Choosing (requests.ChunkEnd table low top size) asks = refl
copier_quiet (copying.Spanning reported size) (requests.BeginSpan table span most) asks = refl
copier_quiet (copying.Copying chunk copied) (requests.CopyRow from into map key) asks = refl
copier_quiet (copying.Committing chunk) requests.Commit asks = refl
copier_quiet step request asks = absurd cc

-- WHAT HAS KEYS OF THE TABLE IS WELL FORMED

exists_so : (P : Schema → Type 0) (schema : Schema) (found : Option TableRows) → option_map (λ table. table.schema) found ≡ Some schema → P schema → IfExists P found
exists_so P schema None is holds = tt
exists_so P schema (Some table) is holds = let same : table.schema ≡ schema = cc in subst P (sym same) holds

closed_kinds : (plan : PlanData) (end : Bound) → IsClosedKey plan end → EndOfKinds end (kinds_of plan)
closed_kinds plan (Closed key) is = is
closed_kinds plan (Open key) is = absurd is
closed_kinds plan Free is = absurd is

pub keyed_formed : (plan : PlanData) (tables : Database) (request : Request) → TablesExist plan tables → IsMapped plan → IsKeyed plan request → has_keys request ≡ true → IsWellFormed tables request
keyed_formed plan tables (requests.ChunkEnd table low top size) exist mapped keyed has =
    (keyed.1, exists_so (λ schema. EndOfKinds low (key_kinds schema) × AreOfKinds top (key_kinds schema)) (old_schema plan) (find_table table tables) (ap (λ (t : List ℕ). schema_of t tables) keyed.0 ∙ exist.old) (keyed.2, keyed.3))
keyed_formed plan tables (requests.BeginSpan table span size) exist mapped keyed has =
    (keyed.1, exists_so (λ schema. SpanOfKinds span (key_kinds schema)) (old_schema plan) (find_table table tables) (ap (λ (t : List ℕ). schema_of t tables) keyed.0 ∙ exist.old) (record { low = keyed.2; high = closed_kinds plan span.high keyed.3 }))
keyed_formed plan tables (requests.CopyRow from into map key) exist mapped keyed has =
    exists_so (λ old. AreOfKinds key (key_kinds old) × IfExists (λ new. IsMapOf map old new) (find_table into tables)) (old_schema plan) (find_table from tables) (ap (λ (t : List ℕ). schema_of t tables) keyed.0 ∙ exist.old)
    (keyed.3, exists_so (λ new. IsMapOf map (old_schema plan) new) (ghost_schema plan) (find_table into tables) (ap (λ (t : List ℕ). schema_of t tables) keyed.1 ∙ exist.ghost) (rw keyed.2 mapped))
keyed_formed plan tables request exist mapped keyed has = absurd cc

-- A CALL

module _ (plan : PlanData) (journal : List Entry) (entry : Entry) (known : IsKnown plan journal) (in_own : IsSeated journal entry) where
  abbrev now : State
  now = state_at plan journal

  -- what a turn asks may be asked: its session is lost, or the call may be made
  pub data Asks : Type 0 where
    asks_cut : entry.asked ≡ Cut → Asks
    asks_call : (request : Request) → entry.asked ≡ Call request → MayCall (opens entry now) entry.session request → Asks

  pub may_call : (own : Option ℕ) (actor : Actor) (request : Request) → IsHeldBy own now → finishes.calls actor request ≡ Some (entry.actor, entry.asked) → ComesWell (standing_of plan journal actor).busy false request → IsWellFormed now.tables request → Asks
  may_call own actor request held is comes formed = asks_call request called (subst (λ (b : Bool). MayCall (opens_if b (not (is_client entry.actor)) entry.session now) entry.session request) (sym (ap is_command called)) may) where
    same : entry.actor ≡ actor
    same = its_actor entry actor request is

    called : entry.asked ≡ Call request
    called = its_request entry actor request is

    may_take : MayTake journal entry.session (live_session journal entry.actor)
    may_take = actor_state_own plan journal entry known (placed journal entry in_own) (ap is_command called)

    opened : IsOpened plan journal entry.actor entry.session
    opened = is_opened plan journal entry.actor entry.session known may_take

    well : IsCalledWell (opened_for plan journal entry.actor entry.session) entry.session request
    well =
        opened_comes plan journal entry.actor request entry.session opened (held_waits own now (live_session journal entry.actor) held)
        (λ locked none some.
        subst (λ (l : Bool). ComesWell (standing_of plan journal entry.actor).busy l request) (sym (none (held_locked own now (live_session journal entry.actor) held)))
        (subst (λ (a : Actor). ComesWell (standing_of plan journal a).busy false request) (sym same) comes))

    tables : (opened_for plan journal entry.actor entry.session).tables ≡ now.tables
    tables = ap (λ (s : Stored). s.tables) (stored_opened false (not (is_client entry.actor)) entry.session now)

    may : MayCall (opened_for plan journal entry.actor entry.session) entry.session request
    may = record { live = well.live; idle = well.idle; comes = well.comes; formed = subst (λ (d : Database). IsWellFormed d request) (sym tables) formed }

pub cut_is : (asked : Asked) → is_cut asked ≡ true → asked ≡ Cut
cut_is Cut is = refl
cut_is (Call request) is = absurd (true≢false (sym is))
cut_is Poll is = absurd (true≢false (sym is))
cut_is (Command word) is = absurd (true≢false (sym is))
