-- A refusal changes neither tables nor the log, nor what its session wrote.
use Rattle.server_model.specs.Drawing.{filled}
use Rattle.std.proofs.Common.{◌≡◌, ℕ, ◌==◌, Bool, true, false, cond, List, [], ◌∷◌, ◌++◌, Option, Some, None, refl, sym, ap, ◌∙◌, subst}
use Rattle.std.specs.Prelude.{Result, Ok, Err, map}
use Rattle.std.specs.List.{list_any}
use Rattle.std.proofs.lemmas.Bool.{true≢false}
use Rattle.std.proofs.lemmas.List.{append-nil}
use Rattle.base_values.specs.declared.event.Change.{Change}
use Rattle.base_values.specs.declared.event.RowEvent.{RowEvent}
use Rattle.base_values.specs.declared.gho_schema.schema.Schema.{Schema}
use Rattle.base_values.specs.declared.value.Value.{Value}
use Rattle.table_store.specs.Databases.{Database, TableRows, find_table, has_table, rename_tables}
use Rattle.server_model.specs.declared.answer.Answer.{Answer}
use Rattle.server_model.specs.declared.answer.Answer.TheVariants as answers
use Rattle.server_model.specs.declared.entry.Asked.{Asked}
use Rattle.server_model.specs.declared.entry.Asked.TheVariants.{Call, Poll, Command, Cut}
use Rattle.server_model.specs.declared.need.Need.{Need}
use Rattle.server_model.specs.declared.request.Request.{Request}
use Rattle.server_model.specs.declared.request.Request.TheVariants as requests
use Rattle.server_model.specs.declared.session.Session.{Session}
use Rattle.server_model.specs.declared.session.Waiting.{Waiting}
use Rattle.server_model.specs.declared.work.Work.{Work}
use Rattle.server_model.specs.declared.work.Work.TheVariants as works
use Rattle.server_model.specs.Answers.{refuses}
use Rattle.server_model.specs.Blockers.{need, blocker, need_within}
use Rattle.base_values.specs.GhoSchema.Tables.{clash}
use Rattle.server_model.specs.declared.work.StatementResult.{StatementResult}
use Rattle.base_values.specs.declared.row_conversion.conversion_fault.UnfitAt.{UnfitAt}
use Rattle.server_model.specs.Rows.{rows_met}
use Rattle.server_model.specs.Chunks.{span_keys}
use Rattle.server_model.specs.Effects.{Effect, Rests, Grows, Writes, Forgets, Moves, Locks, Unlocks, begins, defined, locks_if, result_effect, is_outside, effect_unless, effect_within}
use Rattle.server_model.specs.Operations.{Operation, result_in, operation_result, operation_of, statement_result, after_events, copy_operation, events_of}
use Rattle.server_model.specs.PlainServer.{holding, at_rest, does, done, did, without_waiting, called_unless, calls, is_over, polled_over, polled_unless, polled_of, polls, serves}
use Rattle.server_model.specs.States.{State, session_of, with_session, is_in_transaction, writes_of, view, waiting_of}
use Rattle.server_model.specs.StatementResults.{TableResult, only, tells, updated, updates, result_or_refusal, selected}
use Rattle.law_journals.specs.Refusals.{IsUnchanged, RefusalsChangeNothing}

-- WHAT IS REFUSED HAS NO CHANGES

abbrev IsRefused : Answer → Type 0
IsRefused (answers.Refused code column) = Unit {0}
IsRefused answer = ⊥

is_refused : (answer : Answer) (code : ℕ) (column : Option ℕ) → answer ≡ answers.Refused code column → IsRefused answer
is_refused answer code column is = subst IsRefused (sym is) tt

updated_none : (schema : Schema) (sets : Result (List (Option Value)) UnfitAt) (met rows : List (List Value)) → IsRefused (updated schema sets met rows).answer → (updated schema sets met rows).changes ≡ []
updated_none schema (Ok sets) met rows refused = by (updates schema sets met rows) refused where
  by : (result : Result (List Change) Answer) → IsRefused (result_or_refusal result).answer → (result_or_refusal result).changes ≡ []
  by (Ok all) refused = absurd refused
  by (Err refusal) refused = refl
updated_none schema (Err at) [] rows refused = absurd refused
updated_none schema (Err at) (row ∷ met) rows refused = refl

refused_none : (schema : Schema) (rows : List (List Value)) (work : Work) → IsRefused (tells schema rows work).answer → (tells schema rows work).changes ≡ []
unfolding tells
refused_none schema rows (works.Refuse refusal) refused = refl
refused_none schema rows (works.Insert row) refused = by (list_any (clash schema.uniques row) rows) refused where
  by : (b : Bool)
      → IsRefused (cond b (only (refuses Rattle.base_values.specs.declared.mysql_errors.TheConstants.ER_DUP_ENTRY)) (record { answer = answers.Ok 1; changes = Rattle.base_values.specs.declared.event.Change.TheVariants.Write row ∷ [] })).answer
      → (cond b (only (refuses Rattle.base_values.specs.declared.mysql_errors.TheConstants.ER_DUP_ENTRY)) (record { answer = answers.Ok 1; changes = Rattle.base_values.specs.declared.event.Change.TheVariants.Write row ∷ [] })).changes ≡ []
  by true refused = refl
  by false refused = absurd refused
refused_none schema rows (works.Copy row) refused = by (list_any (clash schema.uniques row) rows) refused where
  by : (b : Bool) → IsRefused (cond b (only (answers.Ok 0)) (record { answer = answers.Ok 1; changes = Rattle.base_values.specs.declared.event.Change.TheVariants.Write row ∷ [] })).answer
      → (cond b (only (answers.Ok 0)) (record { answer = answers.Ok 1; changes = Rattle.base_values.specs.declared.event.Change.TheVariants.Write row ∷ [] })).changes ≡ []
  by true refused = refl
  by false refused = absurd refused
refused_none schema rows (works.Replace row) refused = absurd refused
refused_none schema rows (works.Delete reach) refused = absurd refused
refused_none schema rows (works.Update reach sets) refused = updated_none schema sets (rows_met schema reach rows) rows refused
refused_none schema rows (works.Select reach selection) refused = refl

refused_events : (tables : Database) (operation : Operation) → IsRefused (operation_result tables operation).answer → (operation_result tables operation).events ≡ []
unfolding operation_result
refused_events tables operation refused = by (find_table operation.table tables) refused where
  by : (found : Option TableRows) → IsRefused (result_in operation found).answer → (result_in operation found).events ≡ []
  by None refused = refl
  by (Some table) refused = ap (events_of operation.table) (refused_none table.schema table.rows (operation.work table.schema) refused)

-- WHAT IT LEAVES

module _ (state : State) (number : ℕ) (outside : is_in_transaction (session_of number state.sessions) ≡ false → writes_of (session_of number state.sessions) ≡ []) where
  abbrev Unchanged : State → Type 0
  Unchanged after = IsUnchanged number state after

  same : Unchanged state
  same = record { tables = refl; log = refl; writes = refl }

  -- a transaction that goes on with nothing more written
  held_writes : (need : Need) (sessions : List Session) → writes_of (session_of number (with_session number (holding need []) sessions)) ≡ writes_of (session_of number sessions)
  unfolding with_session
  held_writes need [] = refl
  held_writes need (session ∷ sessions) = by (held_writes need sessions) (session.number == number) refl where
    by : writes_of (session_of number (with_session number (holding need []) sessions)) ≡ writes_of (session_of number sessions) → (b : Bool) → (session.number == number) ≡ b
        → writes_of (session_of number (cond b (holding need [] session ∷ sessions) (session ∷ with_session number (holding need []) sessions))) ≡ writes_of (cond b (Some session) (session_of number sessions))
    by later true here = rw here (append-nil session.writes)
    by later false there = rw there later

  -- one that is over
  rested_writes : (sessions : List Session) → writes_of (session_of number (with_session number at_rest sessions)) ≡ []
  unfolding with_session
  rested_writes [] = refl
  rested_writes (session ∷ sessions) = by (rested_writes sessions) (session.number == number) refl where
    by : writes_of (session_of number (with_session number at_rest sessions)) ≡ [] → (b : Bool) → (session.number == number) ≡ b → writes_of (session_of number (cond b (at_rest session ∷ sessions) (session ∷ with_session number at_rest sessions))) ≡ []
    by later true here = rw here refl
    by later false there = rw there later

  grows : (answer : Answer) (need : Need) (events : List RowEvent) → events ≡ [] → Unchanged (does (Grows answer need events) state number).after
  grows answer need events none = subst (λ (e : List RowEvent). Unchanged (does (Grows answer need e) state number).after) (sym none) (record { tables = refl; log = refl; writes = held_writes need state.sessions })

  -- outside a transaction it wrote nothing before
  writes : is_in_transaction (session_of number state.sessions) ≡ false → (answer : Answer) (events : List RowEvent) → events ≡ [] → Unchanged (does (Writes answer events) state number).after
  unfolding after_events
  writes off answer events none =
      let nothing : writes_of (session_of number state.sessions) ++ events ≡ [] = ap (λ (w : List RowEvent). w ++ events) (outside off) ∙ none in
      record {
        tables = ap (after_events state.tables) nothing;
        log = ap (λ (w : List RowEvent). state.log ++ w) nothing ∙ append-nil state.log;
        writes = rested_writes state.sessions ∙ sym (outside off);
      }

  result_unchanged : (busy : Bool) → is_in_transaction (session_of number state.sessions) ≡ busy → (need : Need) (result : StatementResult) → (IsRefused result.answer → result.events ≡ []) → IsRefused (does (result_effect busy need result) state number).answer
      → Unchanged (does (result_effect busy need result) state number).after
  result_unchanged true is need result none refused = grows result.answer need result.events (none refused)
  result_unchanged false is need result none refused = writes is result.answer result.events (none refused)

  within_unchanged : (busy : Bool) → is_in_transaction (session_of number state.sessions) ≡ busy → (seen : Database) (request : Request) → IsRefused (does (effect_within busy seen state request) state number).answer → Unchanged (does (effect_within busy seen state request) state number).after
  within_unchanged busy is seen requests.Begin refused = absurd refused
  within_unchanged busy is seen requests.Commit refused = absurd refused
  within_unchanged busy is seen requests.Rollback refused = absurd refused
  within_unchanged busy is seen (requests.Do statement) refused =
      result_unchanged busy is (need_within seen (requests.Do statement)) (statement_result seen statement) (λ one. refused_events seen (operation_of statement) one) refused
  within_unchanged busy is seen (requests.Ends table) refused = same
  within_unchanged busy is seen (requests.ChunkEnd table low top size) refused = same
  within_unchanged busy is seen (requests.BeginSpan table span size) refused = by (find_table table state.tables) where
    by : (found : Option TableRows) → Unchanged (does (begins found span size (need_within seen (requests.BeginSpan table span size))) state number).after
    by None = same
    by (Some one) = grows (span_keys span size one) (need_within seen (requests.BeginSpan table span size)) [] refl
  within_unchanged busy is seen (requests.CopyRow from into columns key) refused =
      result_unchanged busy is (need_within seen (requests.CopyRow from into columns key)) (operation_result seen (copy_operation seen from into columns key)) (λ one. refused_events seen (copy_operation seen from into columns key) one) refused
  within_unchanged busy is seen (requests.LockTables names) refused = by (Rattle.server_model.specs.Effects.all_exist names state.tables) refused where
    by : (b : Bool) → IsRefused (does (locks_if b names) state number).answer → Unchanged (does (locks_if b names) state number).after
    by true refused = absurd refused
    by false refused = same
  within_unchanged busy is seen requests.Unlock refused = absurd refused
  within_unchanged busy is seen (requests.Create schema) refused = defines (Rattle.server_model.specs.Effects.created (has_table schema.name state.tables) schema state.tables) refused where
    defines : (result : Result Database ℕ) → IsRefused (does (defined result) state number).answer → Unchanged (does (defined result) state number).after
    defines (Ok tables) refused = absurd refused
    defines (Err code) refused = same
  within_unchanged busy is seen (requests.Drop name) refused = defines (Rattle.server_model.specs.Effects.dropped (has_table name state.tables) name state.tables) refused where
    defines : (result : Result Database ℕ) → IsRefused (does (defined result) state number).answer → Unchanged (does (defined result) state number).after
    defines (Ok tables) refused = absurd refused
    defines (Err code) refused = same
  within_unchanged busy is seen (requests.Rename pairs) refused = defines (Rattle.server_model.specs.Effects.renamed_or (rename_tables pairs state.tables)) refused where
    defines : (result : Result Database ℕ) → IsRefused (does (defined result) state number).answer → Unchanged (does (defined result) state number).after
    defines (Ok tables) refused = absurd refused
    defines (Err code) refused = same
  within_unchanged busy is seen requests.LogEnd refused = same
  within_unchanged busy is seen (requests.ReadLog position limit tables) refused = same
  within_unchanged busy is seen requests.ShowTables refused = same
  within_unchanged busy is seen requests.ShowWaiting refused = same
  within_unchanged busy is seen (requests.ShowCounter table) refused = same
  within_unchanged busy is seen (requests.SetCounter table least) refused = same

  did_unchanged : (request : Request) → IsRefused (did state number request).answer → Unchanged (did state number request).after
  unfolding did
  did_unchanged request refused = by (is_outside (session_of number state.sessions) request) refused where
    by : (b : Bool) → IsRefused (does (effect_unless b (is_in_transaction (session_of number state.sessions)) (view number state) state request) state number).answer
        → Unchanged (does (effect_unless b (is_in_transaction (session_of number state.sessions)) (view number state) state request) state number).after
    by true refused = same
    by false refused = within_unchanged (is_in_transaction (session_of number state.sessions)) refl (view number state) request refused

  done_unchanged : (request : Request) → IsRefused (done state number request).answer → Unchanged (done state number request).after
  done_unchanged request refused = did_unchanged (filled state number request) refused

-- A CALL, AND A POLL

calls_unchanged : (state : State) (number : ℕ) (request : Request) → (is_in_transaction (session_of number state.sessions) ≡ false → writes_of (session_of number state.sessions) ≡ []) → IsRefused (calls state number request).answer → IsUnchanged number state (calls state number request).after
unfolding calls
calls_unchanged state number request outside refused = by (blocker state number (need state number request)) refused where
  by : (blocked : Option ℕ) → IsRefused (called_unless blocked state number request).answer → IsUnchanged number state (called_unless blocked state number request).after
  by None refused = done_unchanged state number outside request refused
  by (Some other) refused = absurd refused

polls_unchanged : (state : State) (number : ℕ) → (is_in_transaction (session_of number state.sessions) ≡ false → writes_of (session_of number state.sessions) ≡ []) → IsRefused (polls state number).answer → IsUnchanged number state (polls state number).after
unfolding polls
polls_unchanged state number outside refused = at (waiting_of number state.waiting) refused where
  over : (b : Bool) (other : ℕ) → IsRefused (polled_over b other state number).answer → IsUnchanged number state (polled_over b other state number).after
  over true other refused = absurd refused
  over false other refused = absurd refused

  unless : (request : Request) (blocked : Option ℕ) → IsRefused (polled_unless blocked state number request).answer → IsUnchanged number state (polled_unless blocked state number request).after
  unless request None refused =
      let left : IsUnchanged number (without_waiting number state) (done (without_waiting number state) number request).after = done_unchanged (without_waiting number state) number outside request refused in
      record { tables = left.tables; log = left.log; writes = left.writes }
  unless request (Some other) refused = over (is_over state number) other refused

  at : (waiting : Option Waiting) → IsRefused (polled_of waiting state number).answer → IsUnchanged number state (polled_of waiting state number).after
  at None refused = absurd refused
  at (Some waiting) refused = unless waiting.request (blocker state number (need state number waiting.request)) refused

-- *Refusals change nothing*
pub refusals_unchanged : RefusalsChangeNothing
refusals_unchanged state number code (Call request) column outside is = calls_unchanged state number request outside (is_refused (calls state number request).answer code column is)
refusals_unchanged state number code Poll column outside is = polls_unchanged state number outside (is_refused (polls state number).answer code column is)
refusals_unchanged state number code (Command word) column outside is = absurd cc
refusals_unchanged state number code Cut column outside is = absurd cc
