-- A statement of the inspector's on the changelog is done: nobody else has the changelog's name or its rows, and the inspector's session
-- is in no transaction and has locked no table.
use Rattle.proof_migration.proofs.ToolServes.{filled_so, tool_serves}
use Rattle.proof_migration.proofs.Unfit.Known.{known_turn}
use Rattle.std.proofs.Common.{◌≡◌, ℕ, Bool, true, false, not, List, [], ◌∷◌, ◌++◌, Option, Some, None, refl, sym, ap, ◌∙◌, subst}
use Rattle.std.specs.Option.{option_map}
use Rattle.std.proofs.lemmas.Bool.{true≢false}
use Rattle.base_script.specs.declared.actor.Actor.{Actor}
use Rattle.base_script.specs.declared.actor.Actor.TheVariants.{Insp}
use Rattle.base_script.specs.declared.actor.Side.{Side}
use Rattle.base_script.specs.declared.actor.Side.TheVariants.{Before, After}
use Rattle.base_script.specs.declared.statement.Statement.{Statement}
use Rattle.base_values.specs.declared.event.RowEvent.{RowEvent}
use Rattle.base_values.specs.declared.gho_schema.schema.Schema.{Schema}
use Rattle.base_values.specs.ToolNames.{ghost_name, log_name}
use Rattle.table_store.specs.Databases.{Database, TableRows, find_table}
use Rattle.server_model.specs.Blockers.{need, blocker}
use Rattle.server_model.specs.declared.answer.Answer.{Answer}
use Rattle.server_model.specs.declared.answer.Answer.TheVariants as answers
use Rattle.server_model.specs.declared.entry.Asked.{Asked}
use Rattle.server_model.specs.declared.entry.Asked.TheVariants.{Call}
use Rattle.server_model.specs.declared.entry.Entry.{Entry}
use Rattle.server_model.specs.declared.request.Request.{Request}
use Rattle.server_model.specs.declared.request.Request.TheVariants as requests
use Rattle.server_model.specs.declared.session.Session.{Session}
use Rattle.server_model.specs.declared.work.StatementResult.{StatementResult}
use Rattle.server_model.specs.Effects.{effect_unless, is_outside}
use Rattle.server_model.specs.Entries.{is_client, is_command}
use Rattle.server_model.specs.Operations.{after_events, statement_result}
use Rattle.server_model.specs.PlainServer.{Served, called_unless, calls, did, does, done, leaves, loses, serves}
use Rattle.server_model.specs.States.{State, is_in_transaction, is_of_tool, session_of, view, writes_of}
use Rattle.plan_data.specs.PlanData.{PlanData}
use Rattle.tool_changelog.specs.ToolTables.{log_schema}
use Rattle.tool_program.specs.JournalWords.Journals.{opens, opens_if, state_at}
use Rattle.tool_program.specs.Tools.{Work, Migrating, moment}
use Rattle.proof_journals.specs.Holdings.{face_in, stored}
use Rattle.proof_journals.specs.Plans.{IsSerialPlan}
use Rattle.proof_journals.specs.Scenes.{SessionHold, Stored, no_hold}
use Rattle.proof_journals.specs.Run.Kept.{IsKept}
use Rattle.proof_journals.specs.Machine.Runnable.{IsRunnable}
use Rattle.proof_journals.specs.Machine.Standings.{Standing, free, standing_in, standing_of, answered, is_called}
use Rattle.proof_journals.proofs.Actors.{Placed, Commands, GoesOn, Begins, placed}
use Rattle.proof_journals.proofs.Journals.{stored_opened}
use Rattle.proof_journals.proofs.Machine.Journals.{IsRun, IsTogether}
use Rattle.proof_journals.proofs.Machine.Seated.{IsKnown, IsServed, IsOpen, is_open, opened_new, opened_old, own_given, own_stands, state_more}
use Rattle.proof_migration.specs.ToolPhase.Unaltered.{IsUnaltered}
use Rattle.proof_migration.proofs.Attempt.Standing.{about_own}
use Rattle.proof_migration.proofs.Program.InspectorTurns.Keeping.{LogStands, ToolPhaseFits as LogFits, all_fit}
use Rattle.proof_migration.proofs.Program.Turns.Follows.{kept_front, kept_run}
use Rattle.proof_migration.proofs.ToolPhase.CopyAnswers.{not_outside}
use Rattle.proof_bounds.specs.AttemptTurns.Attempts.{IsOk}
use Rattle.proof_bounds.proofs.Going.{IsGoing, all_going, insp_free, insp_idle, waits_to_set}
use Rattle.proof_bounds.proofs.Inspecting.{setting_is}

-- A STATEMENT THAT IS DONE

-- its answer is given, its events are logged, and the tables are those after them
pub record IsDoneAs (state : State) (served : Served) (result : StatementResult) : Type 0 where
  pub answer : served.answer ≡ result.answer
  pub tables : served.after.tables ≡ after_events state.tables result.events
  pub log : served.after.log ≡ state.log ++ result.events

-- by a session that holds no table lock and is in no transaction
statement_did : (state : State) (number : ℕ) (statement : Statement) (result : StatementResult) → is_outside (session_of number state.sessions) (requests.Do statement) ≡ false → is_in_transaction (session_of number state.sessions) ≡ false → writes_of (session_of number state.sessions) ≡ []
    → statement_result state.tables statement ≡ result → IsDoneAs state (did state number (requests.Do statement)) result
unfolding did after_events
statement_did state number statement result inside idle none gives = record {
  answer = by (λ (s : Served). s.answer) ∙ ap (λ (r : StatementResult). r.answer) seen_gives;
  tables = by_tables ∙ ap (λ (r : StatementResult). after_events state.tables (writes_of (session_of number state.sessions) ++ r.events)) seen_gives ∙ ap (λ (w : List RowEvent). after_events state.tables (w ++ result.events)) none;
  log = by_log ∙ ap (λ (r : StatementResult). state.log ++ (writes_of (session_of number state.sessions) ++ r.events)) seen_gives ∙ ap (λ (w : List RowEvent). state.log ++ (w ++ result.events)) none;
} where
  seen : Database
  seen = view number state

  served : Bool → Bool → Served
  served outside busy = does (effect_unless outside busy seen state (requests.Do statement)) state number

  inner : served (is_outside (session_of number state.sessions) (requests.Do statement)) (is_in_transaction (session_of number state.sessions)) ≡ served false false
  inner = ap (λ (b : Bool). served b (is_in_transaction (session_of number state.sessions))) inside ∙ ap (served false) idle

  by : {A : Type 0} (f : Served → A) → f (served (is_outside (session_of number state.sessions) (requests.Do statement)) (is_in_transaction (session_of number state.sessions))) ≡ f (served false false)
  by f = ap f inner

  by_tables : (served (is_outside (session_of number state.sessions) (requests.Do statement)) (is_in_transaction (session_of number state.sessions))).after.tables ≡ after_events state.tables (writes_of (session_of number state.sessions) ++ (statement_result seen statement).events)
  by_tables = ap (λ (s : Served). s.after.tables) inner

  by_log : (served (is_outside (session_of number state.sessions) (requests.Do statement)) (is_in_transaction (session_of number state.sessions))).after.log ≡ state.log ++ (writes_of (session_of number state.sessions) ++ (statement_result seen statement).events)
  by_log = ap (λ (s : Served). s.after.log) inner

  seen_gives : statement_result seen statement ≡ result
  seen_gives = ap (λ (w : List RowEvent). statement_result (after_events state.tables w) statement) none ∙ gives

-- ... and is the tool's
statement_done : (state : State) (number : ℕ) (statement : Statement) (result : StatementResult) → is_of_tool (session_of number state.sessions) ≡ true → is_outside (session_of number state.sessions) (requests.Do statement) ≡ false → is_in_transaction (session_of number state.sessions) ≡ false
    → writes_of (session_of number state.sessions) ≡ [] → statement_result state.tables statement ≡ result → IsDoneAs state (done state number (requests.Do statement)) result
statement_done state number statement result tool inside idle none gives =
    subst (λ (r : Request). IsDoneAs state (did state number r) result) (sym (filled_so state number (requests.Do statement) tool)) (statement_did state number statement result inside idle none gives)

pub found_some : (found : Option TableRows) (schema : Schema) → option_map (λ (table : TableRows). table.schema) found ≡ Some schema → (table : TableRows) × (found ≡ Some table) × (table.schema ≡ schema)
found_some None schema none = absurd cc
found_some (Some table) schema some = (table, refl, cc)

-- THE INSPECTOR'S

module _ (plan : PlanData) (runs : IsRunnable plan) (serial : IsSerialPlan plan) (journal : List Entry) (entry : Entry) (kept_more : IsKept plan (journal ++ entry ∷ [])) where
  abbrev more : List Entry
  more = journal ++ entry ∷ []

  abbrev before : State
  before = state_at plan journal

  abbrev after : State
  after = state_at plan more

  abbrev open_now : State
  open_now = opens entry before

  abbrev has : Actor → Standing
  has = standing_of plan journal

  kept : IsKept plan journal
  kept = kept_front plan journal (entry ∷ []) kept_more

  run : IsRun plan journal entry
  run = kept_run plan journal entry kept_more

  together : IsTogether plan journal
  together = (known_turn plan runs journal entry kept_more).together

  going : IsGoing plan journal
  going = all_going plan journal runs serial kept

  known_now : IsKnown plan journal
  known_now = going.standing.tabled.all.tool.known

  served : IsServed plan journal entry
  served = record { answered = run.answered; seated = record { session = run.followed.session } }

  -- the changelog exists from the setup to the RENAME
  pub log_found : IsUnaltered plan journal → (work : Work) → (moment plan journal).tool.tool_phase ≡ Migrating work → (table : TableRows) × (find_table (log_name plan.table) before.tables ≡ Some table) × (table.schema ≡ log_schema plan.table)
  log_found off work eq = found_some (find_table (log_name plan.table) before.tables) (log_schema plan.table) log_stands where
    log_stands : LogStands plan before.tables
    log_stands = (subst (LogFits plan before.tables (has Insp).waits) eq (all_fit plan journal runs serial kept off)).log

  pub stored_now : stored open_now ≡ stored before
  stored_now = stored_opened (is_command entry.asked) (not (is_client entry.actor)) entry.session before

  module _ (same : entry.actor ≡ Insp) (statement : Statement) (asks : entry.asked ≡ Call (requests.Do statement)) where
    abbrev request : Request
    request = requests.Do statement

    opened : IsOpen plan journal entry known_now served
    opened = is_open plan journal entry known_now served (ap is_command asks)

    own_free : has entry.actor ≡ free
    own_free = ap has same ∙ insp_free plan runs journal entry kept run going (insp_idle plan runs journal entry kept run going same request asks)

    inside : is_outside (session_of entry.session open_now.sessions) request ≡ false
    inside = not_outside (session_of entry.session open_now.sessions) request (ap (λ (o : Option Session). (face_in o).locked) opened.is ∙ ap (λ (s : Standing). s.locked) (sym opened.stands ∙ own_free))

    tool_now : is_of_tool (session_of entry.session open_now.sessions) ≡ true
    tool_now = tool_serves plan journal entry kept together run (ap is_command asks) (ap is_client same)

    resting : is_in_transaction (session_of entry.session open_now.sessions) ≡ false
    resting = ap is_in_transaction opened.is ∙ ap (λ (s : Standing). s.busy) (sym opened.stands ∙ own_free)

    wrote_none : writes_of (session_of entry.session open_now.sessions) ≡ []
    wrote_none = by (placed journal entry served.seated) where
      hold_writes : (o : Option Session) → (face_in o).hold ≡ no_hold → writes_of o ≡ []
      hold_writes None rests = refl
      hold_writes (Some s) rests = ap (λ (h : SessionHold). h.writes) rests

      by : Placed journal entry → writes_of (session_of entry.session open_now.sessions) ≡ []
      by (Commands command zero) = absurd (true≢false (sym command ∙ ap is_command asks))
      by (GoesOn calls live) =
          ap (λ (s : State). writes_of (session_of entry.session s.sessions)) (opened_old (is_command entry.asked) (not (is_client entry.actor)) entry.session before (known_now.live entry.actor entry.session live))
          ∙ hold_writes (session_of entry.session before.sessions) ((going.names.serving.own entry.session).rests (ap (λ (o : Option ℕ). (standing_in before o).busy) (sym live) ∙ ap (λ (s : Standing). s.busy) own_free))
      by (Begins calls uncut live above) =
          ap (λ (b : Bool). writes_of (session_of entry.session (opens_if b (not (is_client entry.actor)) entry.session before).sessions)) (ap is_command asks)
          ∙ ap writes_of (opened_new (not (is_client entry.actor)) entry.session before (known_now.fresh entry.session above))

    module _ (result : StatementResult) (gives : statement_result before.tables statement ≡ result) where
      pub done_so : IsDoneAs open_now (done open_now entry.session request) result
      done_so = statement_done open_now entry.session statement result tool_now inside resting wrote_none (ap (λ (s : Stored). statement_result s.tables statement) stored_now ∙ gives)

      -- what holds of the tables and the log as they were, and as they are where it is done, holds behind the turn
      pub leaves_so : (P : Database → List RowEvent → Type 0) → P before.tables before.log → P (after_events before.tables result.events) (before.log ++ result.events) → P after.tables after.log
      unfolding calls loses
      leaves_so P old new = subst (λ (s : State). P s.tables s.log) (sym (state_more plan journal entry)) (by entry.side) where
        open_holds : P open_now.tables open_now.log
        open_holds = subst (λ (s : Stored). P s.tables s.log) (sym stored_now) old

        done_holds : P (done open_now entry.session request).after.tables (done open_now entry.session request).after.log
        done_holds =
            subst (λ (tables : Database). P tables (done open_now entry.session request).after.log) (sym done_so.tables)
            (subst (P (after_events open_now.tables result.events)) (sym done_so.log) (subst (λ (s : Stored). P (after_events s.tables result.events) (s.log ++ result.events)) (sym stored_now) new))

        called_holds : (blocked : Option ℕ) → P (called_unless blocked open_now entry.session request).after.tables (called_unless blocked open_now entry.session request).after.log
        called_holds (Some other) = open_holds
        called_holds None = done_holds

        served_holds : P (serves open_now entry.session entry.asked).after.tables (serves open_now entry.session entry.asked).after.log
        served_holds = subst (λ (a : Asked). P (serves open_now entry.session a).after.tables (serves open_now entry.session a).after.log) (sym asks) (called_holds (blocker open_now entry.session (need open_now entry.session request)))

        by : (side : Option Side) → P (leaves side open_now entry.session entry.asked).tables (leaves side open_now entry.session entry.asked).log
        by None = served_holds
        by (Some Before) = open_holds
        by (Some After) = served_holds

      -- *It is done*
      pub done_ok : IsOk result.answer → entry.side ≡ None → IsOk entry.answer
      unfolding calls
      done_ok ok no_side = by (blocker open_now entry.session (need open_now entry.session request)) refl where
        given_so : (blocked : Option ℕ) → blocker open_now entry.session (need open_now entry.session request) ≡ blocked → (called_unless blocked open_now entry.session request).answer ≡ entry.answer
        given_so blocked at = sym (ap (λ (b : Option ℕ). (called_unless b open_now entry.session request).answer) at) ∙ ap (λ (a : Asked). (serves open_now entry.session a).answer) (sym asks) ∙ own_given plan journal entry known_now served no_side

        waits : (other : ℕ) → answers.Waits other ≡ entry.answer → (standing_of plan more Insp).waits ≡ Some request
        waits other is_wait =
            ap (λ (a : Actor). (standing_of plan more a).waits) (sym same)
            ∙ ap (λ (s : Standing). s.waits) (own_stands plan journal entry known_now served request (about_own plan journal entry going.standing run Insp request same (is_called asks (insp_idle plan runs journal entry kept run going same request asks))))
            ∙ ap (λ (a : Answer). (answered request a (has entry.actor)).waits) (sym is_wait)

        by : (blocked : Option ℕ) → blocker open_now entry.session (need open_now entry.session request) ≡ blocked → IsOk entry.answer
        by None at = subst IsOk (sym done_so.answer ∙ given_so None at) ok
        by (Some other) at =
            absurd (setting_is plan (λ (r : Request). r ≡ request → ⊥) (λ number both. other_request number both) (moment plan more).tool.tool_phase request (waits_to_set plan more request runs serial kept_more (waits other (given_so (Some other) at))) refl) where
              other_request : (number : ℕ) → requests.SetCounter (ghost_name plan.table) number ≡ request → ⊥
              other_request number both = cc
