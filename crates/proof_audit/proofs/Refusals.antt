-- A call that was refused changes no table.
use Rattle.server_model.specs.Drawing.{filled}
use Rattle.std.proofs.Common.{◌≡◌, ℕ, Bool, true, false, cond, List, [], ◌∷◌, ◌++◌, map, Option, Some, None, Result, Ok, Err, refl, sym, ap, ◌∙◌, subst}
use Rattle.std.specs.List.{list_any}
use Rattle.base_values.specs.declared.value.Value.{Value}
use Rattle.base_values.specs.declared.row_conversion.conversion_fault.UnfitAt.{UnfitAt}
use Rattle.base_values.specs.declared.gho_schema.schema.Schema.{Schema}
use Rattle.base_values.specs.GhoSchema.Tables.{clash}
use Rattle.table_store.specs.Databases.{TableRows, Database, find_table}
use Rattle.base_values.specs.declared.event.Change.{Change}
use Rattle.base_values.specs.declared.event.RowEvent.{RowEvent}
use Rattle.base_script.specs.declared.actor.Side.{Side}
use Rattle.base_script.specs.declared.actor.Side.TheVariants.{After}
use Rattle.server_model.specs.declared.request.Request.{Request}
use Rattle.server_model.specs.declared.request.Request.TheVariants as requests
use Rattle.server_model.specs.declared.answer.Answer.{Answer}
use Rattle.server_model.specs.declared.answer.Answer.TheVariants as answers
use Rattle.server_model.specs.declared.entry.Asked.{Asked}
use Rattle.server_model.specs.declared.entry.Asked.TheVariants.{Call, Poll, Command, Cut}
use Rattle.server_model.specs.declared.need.Need.{Need}
use Rattle.server_model.specs.declared.work.StatementResult.{StatementResult}
use Rattle.server_model.specs.declared.work.Work.{Work}
use Rattle.server_model.specs.declared.work.Work.TheVariants as works
use Rattle.server_model.specs.Effects.{all_exist, begins, effect_unless, effect_within, defined, is_outside, locks_if, result_effect}
use Rattle.server_model.specs.Operations.{Operation, after_events, events_of, operation_result, result_in}
use Rattle.server_model.specs.StatementResults.{TableResult, result_or_refusal, tells, updated, updates}
use Rattle.server_model.specs.PlainServer.{called_unless, calls, does, done, did, given_at, leaves, loses, polled_of, polled_over, polled_unless, polls, serves, without_waiting}
use Rattle.server_model.specs.States.{State, is_in_transaction, session_of, waiting_of, writes_of}
use Rattle.server_model.specs.declared.session.Waiting.{Waiting}
use Rattle.tool_program.specs.JournalWords.Journals.{inner_answer, missed, opening, opens, state_at}
use Rattle.proof_journals.proofs.Journals.{opened_tables, state_more}
use Rattle.proof_audit.specs.Laws.{RefusalsKeep}
use Rattle.proof_audit.proofs.Wholes.{IsTurn, turn_next}

-- the answer is a refusal
abbrev IsRefusal : Answer → Type 0
IsRefusal (answers.Refused number column) = Unit {0}
IsRefusal answer = ⊥

-- ---- what is refused writes nothing

inserted : (b : Bool) (one other : TableResult) → one.changes ≡ [] → (IsRefusal other.answer → ⊥) → IsRefusal (cond b one other).answer → (cond b one other).changes ≡ []
inserted true one other none fine is = none
inserted false one other none fine is = absurd (fine is)

changed_nothing : (found : Result (List Change) Answer) → IsRefusal (result_or_refusal found).answer → (result_or_refusal found).changes ≡ []
changed_nothing (Ok all) is = absurd is
changed_nothing (Err refusal) is = refl

updated_nothing : (schema : Schema) (sets : Result (List (Option Value)) UnfitAt) (met rows : List (List Value)) → IsRefusal (updated schema sets met rows).answer → (updated schema sets met rows).changes ≡ []
updated_nothing schema (Ok sets) met rows is = changed_nothing (updates schema sets met rows) is
updated_nothing schema (Err at) [] rows is = refl
updated_nothing schema (Err at) (row ∷ met) rows is = refl

result_nothing : (schema : Schema) (rows : List (List Value)) (work : Work) → IsRefusal (tells schema rows work).answer → (tells schema rows work).changes ≡ []
unfolding tells
result_nothing schema rows (works.Refuse refusal) is = refl
result_nothing schema rows (works.Insert row) is = inserted (list_any (clash schema.uniques row) rows) _ _ refl (λ no. no) is
result_nothing schema rows (works.Copy row) is = inserted (list_any (clash schema.uniques row) rows) _ _ refl (λ no. no) is
result_nothing schema rows (works.Replace row) is = absurd is
result_nothing schema rows (works.Delete reach) is = absurd is
result_nothing schema rows (works.Update reach sets) is = updated_nothing schema sets _ rows is
result_nothing schema rows (works.Select reach selection) is = refl

in_nothing : (operation : Operation) (found : Option TableRows) → IsRefusal (result_in operation found).answer → (result_in operation found).events ≡ []
in_nothing operation None is = refl
in_nothing operation (Some table) is = ap (events_of operation.table) (result_nothing table.schema table.rows (operation.work table.schema) is)

said_nothing : (tables : Database) (operation : Operation) → IsRefusal (operation_result tables operation).answer → (operation_result tables operation).events ≡ []
unfolding operation_result
said_nothing tables operation is = in_nothing operation (find_table operation.table tables) is

-- ---- what is refused keeps the tables

result_keeps : (busy : Bool) (need : Need) (result : StatementResult) (state : State) (number : ℕ) → (busy ≡ false → writes_of (session_of number state.sessions) ≡ []) → (IsRefusal result.answer → result.events ≡ []) → IsRefusal (does (result_effect busy need result) state number).answer
    → (does (result_effect busy need result) state number).after.tables ≡ state.tables
unfolding after_events
result_keeps true need result state number idle nothing is = refl
result_keeps false need result state number idle nothing is =
    ap (λ (own : List RowEvent). after_events state.tables (own ++ result.events)) (idle refl) ∙ ap (after_events state.tables) (nothing is)

defined_keeps : (found : Result Database ℕ) (state : State) (number : ℕ) → IsRefusal (does (defined found) state number).answer → (does (defined found) state number).after.tables ≡ state.tables
defined_keeps (Ok tables) state number is = absurd is
defined_keeps (Err reason) state number is = refl

locks_keeps : (b : Bool) (names : List (List ℕ)) (state : State) (number : ℕ) → (does (locks_if b names) state number).after.tables ≡ state.tables
locks_keeps true names state number = refl
locks_keeps false names state number = refl

begins_keeps : (found : Option TableRows) (span : _) (size : ℕ) (need : Need) (state : State) (number : ℕ) → (does (begins found span size need) state number).after.tables ≡ state.tables
begins_keeps None span size need state number = refl
begins_keeps (Some table) span size need state number = refl

within_keeps : (busy : Bool) (seen : Database) (state : State) (number : ℕ) (request : Request) → (busy ≡ false → writes_of (session_of number state.sessions) ≡ []) → IsRefusal (does (effect_within busy seen state request) state number).answer
    → (does (effect_within busy seen state request) state number).after.tables ≡ state.tables
within_keeps busy seen state number requests.Begin idle is = refl
within_keeps busy seen state number requests.Commit idle is = absurd is
within_keeps busy seen state number requests.Rollback idle is = refl
within_keeps busy seen state number (requests.Do statement) idle is = result_keeps busy _ _ state number idle (said_nothing seen _) is
within_keeps busy seen state number (requests.Ends table) idle is = refl
within_keeps busy seen state number (requests.ChunkEnd table low top size) idle is = refl
within_keeps busy seen state number (requests.BeginSpan table span size) idle is = begins_keeps (find_table table state.tables) span size _ state number
within_keeps busy seen state number (requests.CopyRow from into map key) idle is = result_keeps busy _ _ state number idle (said_nothing seen _) is
within_keeps busy seen state number (requests.LockTables names) idle is = locks_keeps (all_exist names state.tables) names state number
within_keeps busy seen state number requests.Unlock idle is = refl
within_keeps busy seen state number (requests.Create schema) idle is = defined_keeps _ state number is
within_keeps busy seen state number (requests.Drop name) idle is = defined_keeps _ state number is
within_keeps busy seen state number (requests.Rename pairs) idle is = defined_keeps _ state number is
within_keeps busy seen state number requests.LogEnd idle is = refl
within_keeps busy seen state number (requests.ReadLog position limit tables) idle is = refl
within_keeps busy seen state number requests.ShowTables idle is = refl
within_keeps busy seen state number requests.ShowWaiting idle is = refl
within_keeps busy seen state number (requests.ShowCounter table) idle is = refl
within_keeps busy seen state number (requests.SetCounter table least) idle is = refl

unless_keeps : (outside busy : Bool) (seen : Database) (state : State) (number : ℕ) (request : Request) → (busy ≡ false → writes_of (session_of number state.sessions) ≡ []) → IsRefusal (does (effect_unless outside busy seen state request) state number).answer
    → (does (effect_unless outside busy seen state request) state number).after.tables ≡ state.tables
unless_keeps true busy seen state number request idle is = refl
unless_keeps false busy seen state number request idle is = within_keeps busy seen state number request idle is

abbrev IdleWrote : State → ℕ → Type 0
IdleWrote state number = is_in_transaction (session_of number state.sessions) ≡ false → writes_of (session_of number state.sessions) ≡ []

done_keeps : (state : State) (number : ℕ) (request : Request) → IdleWrote state number → IsRefusal (done state number request).answer → (done state number request).after.tables ≡ state.tables
unfolding did
done_keeps state number request idle is = unless_keeps (is_outside (session_of number state.sessions) (filled state number request)) (is_in_transaction (session_of number state.sessions)) _ state number (filled state number request) idle is

called_keeps : (by : Option ℕ) (state : State) (number : ℕ) (request : Request) → IdleWrote state number → IsRefusal (called_unless by state number request).answer → (called_unless by state number request).after.tables ≡ state.tables
called_keeps None state number request idle is = done_keeps state number request idle is
called_keeps (Some by) state number request idle is = absurd is

over_keeps : (b : Bool) (by : ℕ) (state : State) (number : ℕ) → IsRefusal (polled_over b by state number).answer → (polled_over b by state number).after.tables ≡ state.tables
over_keeps true by state number is = absurd is
over_keeps false by state number is = absurd is

polled_keeps : (by : Option ℕ) (state : State) (number : ℕ) (request : Request) → IdleWrote state number → IsRefusal (polled_unless by state number request).answer → (polled_unless by state number request).after.tables ≡ state.tables
polled_keeps None state number request idle is = done_keeps (without_waiting number state) number request idle is
polled_keeps (Some by) state number request idle is = over_keeps _ by state number is

of_keeps : (found : Option Waiting) (state : State) (number : ℕ) → IdleWrote state number → IsRefusal (polled_of found state number).answer → (polled_of found state number).after.tables ≡ state.tables
of_keeps None state number idle is = absurd is
of_keeps (Some waiting) state number idle is = polled_keeps _ state number waiting.request idle is

served_keeps : (state : State) (number : ℕ) (asked : Asked) → IdleWrote state number → IsRefusal (serves state number asked).answer → (serves state number asked).after.tables ≡ state.tables
unfolding calls polls
served_keeps state number (Call request) idle is = called_keeps _ state number request idle is
served_keeps state number Poll idle is = of_keeps (waiting_of number state.waiting) state number idle is
served_keeps state number (Command word) idle is = absurd is
served_keeps state number Cut idle is = absurd is

-- ---- a turn

lost_tables : (number : ℕ) (state : State) → (loses number state).tables ≡ state.tables
unfolding loses
lost_tables number state = refl

refused_inner : (asked : Asked) (said : Answer) (number : ℕ) (column : Option ℕ) → given_at (Some After) asked said ≡ Some (answers.Refused number column) → IsRefusal said
refused_inner Cut said number column is = absurd cc
refused_inner (Call request) said number column is = subst IsRefusal (let one : answers.Refused number column ≡ said = cc in one) tt
refused_inner Poll said number column is = subst IsRefusal (let one : answers.Refused number column ≡ said = cc in one) tt
refused_inner (Command word) said number column is = subst IsRefusal (let one : answers.Refused number column ≡ said = cc in one) tt

-- *Refusals keep tables*
pub refusals_keep : RefusalsKeep
unfolding inner_answer
refusals_keep plan idle before entry number column whole at refused =
    let state : State = state_at plan before in
    let run : IsTurn plan before entry = turn_next plan before entry [] whole in
    let said : Answer = (serves (opens entry state) entry.session entry.asked).answer in
    let inner : given_at (Some After) entry.asked said ≡ Some (answers.Refused number column) = sym (ap (λ (side : Option Side). missed side (given_at side entry.asked said)) at) ∙ sym run.answered.missed ∙ refused in
    ap (λ (s : State). s.tables) (state_more (opening plan) before entry)
    ∙ ap (λ (side : Option Side). (leaves side (opens entry state) entry.session entry.asked).tables) at
    ∙ lost_tables entry.session (serves (opens entry state) entry.session entry.asked).after
    ∙ served_keeps (opens entry state) entry.session entry.asked (idle before entry whole) (refused_inner entry.asked said number column inner)
    ∙ opened_tables _ _ entry.session state
