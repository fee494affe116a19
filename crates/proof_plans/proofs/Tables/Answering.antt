-- What is answered to a request that names one table alone, where that stands: never ER_NO_SUCH_TABLE.
use Rattle.server_model.specs.States.{is_of_tool}
use Rattle.server_model.proofs.Filling.{filled_case, numbered_table}
use Rattle.server_model.specs.Drawing.{numbered}
use Rattle.std.proofs.Common.{◌≡◌, ℕ, Bool, true, false, not, ◌&&◌, List, [], ◌∷◌, cond, Option, Some, None, Result, Ok, Err, refl, sym, ap, ◌∙◌, subst}
use Rattle.std.specs.Prelude.{is_some, unwrap_or}
use Rattle.std.specs.List.{list_all, list_any}
use Rattle.std.specs.Option.{option_map}
use Rattle.std.specs.Str.{bytes_eq}
use Rattle.std.proofs.lemmas.Bool.{false≢true, and_parts}
use Rattle.base_values.specs.declared.value.Value.{Value}
use Rattle.base_values.specs.GhoSchema.Rows.{key_places}
use Rattle.base_values.specs.declared.gho_schema.schema.Schema.{Schema}
use Rattle.base_values.specs.RowConversion.ConvertedRows.{converted_row}
use Rattle.base_values.specs.declared.row_conversion.conversion_fault.UnfitAt.{UnfitAt}
use Rattle.base_values.specs.declared.row_conversion.map.MapColumn.{MapColumn}
use Rattle.base_values.specs.declared.event.RowEvent.{RowEvent}
use Rattle.table_store.specs.Databases.{Database, TableRows, find_table, has_table, rename_tables, row_at_key, with_name}
use Rattle.table_store.specs.declared.renames.NotRenamed.TheVariants as reasons
use Rattle.table_store.specs.declared.renames.Pair.{Pair}
use Rattle.table_store.proofs.ChangedTables.{found_where}
use Rattle.server_model.specs.Chunks.{chunk_end, ends_of, keys_of, span_keys}
use Rattle.server_model.specs.Effects.{all_exist, begins, created, effect_unless, effect_within, defined, dropped, is_outside, locks_if, of_table, renamed_or, result_effect}
use Rattle.server_model.specs.Operations.{Operation, after_events, copy_from, copy_operation, copy_work, operation_of, operation_result, result_in, statement_result, table_of}
use Rattle.server_model.specs.Blockers.{blocker, need, need_within}
use Rattle.server_model.specs.PlainServer.{called_unless, calls, does, done, did, is_over, polled_of, polled_over, polled_unless, polls, without_waiting}
use Rattle.server_model.specs.Listings.{events_read}
use Rattle.server_model.specs.States.{State, is_in_transaction, next_of, session_of, view, waiting_of, writes_of}
use Rattle.server_model.specs.declared.answer.Answer.TheVariants as answers
use Rattle.server_model.specs.Answers.{ok}
use Rattle.server_model.specs.declared.need.Need.{Need}
use Rattle.server_model.specs.declared.request.Request.{Request}
use Rattle.server_model.specs.declared.request.Request.TheVariants as requests
use Rattle.server_model.specs.declared.session.Waiting.{Waiting}
use Rattle.server_model.specs.declared.work.StatementResult.{StatementResult}
use Rattle.server_model.proofs.LockedRows.Tests.{are_same}
use Rattle.proof_journals.specs.Turns.{request_of}
use Rattle.proof_journals.proofs.Machine.Schemas.{schema_events}
use Rattle.proof_plans.specs.Tables.{names_alone}
use Rattle.proof_plans.proofs.Tables.Refusing.{IsFine, IsOther, copy_fine, tells_other, unfit_other, work_fine}

-- a table of the name stands
abbrev pub Stands : List ℕ → Database → Type 0
Stands name tables = is_some (find_table name tables) ≡ true

schema_some : (found : Option TableRows) → is_some (option_map (λ table. table.schema) found) ≡ is_some found
schema_some None = refl
schema_some (Some table) = refl

pub events_stand : (name : List ℕ) (tables : Database) (events : List RowEvent) → Stands name tables → Stands name (after_events tables events)
events_stand name tables events stands = sym (schema_some (find_table name (after_events tables events))) ∙ ap is_some (schema_events name tables events) ∙ schema_some (find_table name tables) ∙ stands

-- what is named alone
first_is : (name other : List ℕ) (rest : Bool) → (bytes_eq name other && rest) ≡ true → (name ≡ other) × (rest ≡ true)
first_is name other rest is = let both = and_parts (bytes_eq name other) rest is in (are_same name other both.0, both.1)

module _ (name : List ℕ) where
  other_if : (P : Option TableRows → Type 0) (tables : Database) (table : List ℕ) → name ≡ table → Stands name tables → ((found : TableRows) → P (Some found)) → P (find_table table tables)
  other_if P tables table same stands then = subst (λ (n : List ℕ). P (find_table n tables)) same (by (find_table name tables) stands) where
    by : (found : Option TableRows) → is_some found ≡ true → P found
    by None is = absurd (false≢true is)
    by (Some found) is = then found

  -- STATEMENTS AND COPIES

  says_other : (seen : Database) (operation : Operation) → name ≡ operation.table → Stands name seen → ((schema : Schema) → IsFine (operation.work schema)) → IsOther (operation_result seen operation).answer
  unfolding operation_result
  says_other seen operation same stands fine = other_if (λ found. IsOther (result_in operation found).answer) seen operation.table same stands (λ found. tells_other found.schema found.rows (operation.work found.schema) (fine found.schema))

  copied_fine : (made : Option (Result (List Value) UnfitAt)) (schema : Schema) → IsFine (copy_work made schema)
  copied_fine None schema = refl
  copied_fine (Some (Err at)) schema = unfit_other at
  copied_fine (Some (Ok values)) schema = copy_fine schema values

  copy_says : (seen : Database) (from into : List ℕ) (map : List MapColumn) (key : List Value) → name ≡ from → name ≡ into → Stands name seen → IsOther (operation_result seen (copy_operation seen from into map key)).answer
  copy_says seen from into map key one two stands =
      says_other seen (copy_operation seen from into map key) two stands
      (λ schema. other_if (λ found. IsFine (copy_from found map key schema)) seen from one stands (λ found. copied_fine (option_map (converted_row map) (row_at_key found key)) schema))

  -- WHAT IS DONE

  resulted : (state : State) (number : ℕ) (busy : Bool) (need : Need) (result : StatementResult) → IsOther result.answer → IsOther (does (result_effect busy need result) state number).answer
  resulted state number true need result is = is
  resulted state number false need result is = is

  ends_other : (keys : List (List Value)) → IsOther (ends_of keys)
  ends_other [] = refl
  ends_other (least ∷ keys) = refl

  has_it : (tables : Database) → Stands name tables → has_table name tables ≡ true
  has_it tables stands = sym (found_where name tables) ∙ stands

  none_lacks : (tables : Database) (names : List (List ℕ)) → Stands name tables → list_all (bytes_eq name) names ≡ true → list_any (λ one. not (has_table one tables)) names ≡ false
  none_lacks tables [] stands alone = refl
  none_lacks tables (first ∷ names) stands alone =
      let is = first_is name first (list_all (bytes_eq name) names) alone in
      let has : has_table first tables ≡ true = ap (λ (n : List ℕ). has_table n tables) (sym is.0) ∙ has_it tables stands in rw has (none_lacks tables names stands is.1)

  locks_other : (state : State) (number : ℕ) (names : List (List ℕ)) (b : Bool) → b ≡ true → IsOther (does (locks_if b names) state number).answer
  locks_other state number names true is = refl
  locks_other state number names false is = absurd (false≢true is)

  created_other : (state : State) (number : ℕ) (schema : Schema) (b : Bool) → IsOther (does (defined (created b schema state.tables)) state number).answer
  created_other state number schema true = refl
  created_other state number schema false = refl

  dropped_other : (state : State) (number : ℕ) (table : List ℕ) (b : Bool) → IsOther (does (defined (dropped b table state.tables)) state number).answer
  dropped_other state number table true = refl
  dropped_other state number table false = refl

  -- its name is taken already
  renamed_other : (state : State) (number : ℕ) (pairs : List Pair) → Stands name state.tables → names_alone name (requests.Rename pairs) ≡ true → IsOther (does (defined (renamed_or (rename_tables pairs state.tables))) state number).answer
  unfolding rename_tables
  renamed_other state number [] stands alone = refl
  renamed_other state number (pair ∷ pairs) stands alone = by (has_table pair.new state.tables) (has_table pair.old state.tables) taken where
    two : name ≡ pair.new
    two = (first_is name pair.new _ (first_is name pair.old _ alone).1).0

    taken : has_table pair.new state.tables ≡ true
    taken = ap (λ (n : List ℕ). has_table n state.tables) (sym two) ∙ has_it state.tables stands

    by : (a b : Bool) → a ≡ true → IsOther (does (defined (renamed_or (cond a (Err reasons.Exists) (cond b (rename_tables pairs (with_name pair.old pair.new state.tables)) (Err reasons.Missing))))) state number).answer
    by true b is = refl
    by false b is = absurd (false≢true is)

  within_other : (busy : Bool) (seen : Database) (state : State) (number : ℕ) (request : Request) → Stands name seen → Stands name state.tables → names_alone name request ≡ true → IsOther (does (effect_within busy seen state request) state number).answer
  unfolding span_keys events_read
  within_other busy seen state number requests.Begin sees stands alone = refl
  within_other busy seen state number requests.Commit sees stands alone = refl
  within_other busy seen state number requests.Rollback sees stands alone = refl
  within_other busy seen state number (requests.Do statement) sees stands alone =
      resulted state number busy (need_within seen (requests.Do statement)) (statement_result seen statement) (says_other seen (operation_of statement) (first_is name (table_of statement) true alone).0 sees (λ schema. work_fine schema statement))
  within_other busy seen state number (requests.Ends table) sees stands alone =
      other_if (λ found. IsOther (of_table found (λ t. ends_of (keys_of (key_places t.schema) t.rows)))) state.tables table (first_is name table true alone).0 stands (λ found. ends_other (keys_of (key_places found.schema) found.rows))
  within_other busy seen state number (requests.ChunkEnd table low top size) sees stands alone = other_if (λ found. IsOther (of_table found (λ t. answers.End (chunk_end low top size t)))) state.tables table (first_is name table true alone).0 stands (λ found. refl)
  within_other busy seen state number (requests.BeginSpan table span size) sees stands alone =
      other_if (λ found. IsOther (does (begins found span size (need_within seen (requests.BeginSpan table span size))) state number).answer) state.tables table (first_is name table true alone).0 stands (λ found. refl)
  within_other busy seen state number (requests.CopyRow from into map key) sees stands alone =
      let both = first_is name from _ alone in
      resulted state number busy (need_within seen (requests.CopyRow from into map key)) (operation_result seen (copy_operation seen from into map key)) (copy_says seen from into map key both.0 (first_is name into true both.1).0 sees)
  within_other busy seen state number (requests.LockTables names) sees stands alone = locks_other state number names (all_exist names state.tables) (ap not (none_lacks state.tables names stands alone))
  within_other busy seen state number requests.Unlock sees stands alone = refl
  within_other busy seen state number (requests.Create schema) sees stands alone = created_other state number schema (has_table schema.name state.tables)
  within_other busy seen state number (requests.Drop table) sees stands alone = dropped_other state number table (has_table table state.tables)
  within_other busy seen state number (requests.Rename pairs) sees stands alone = renamed_other state number pairs stands alone
  within_other busy seen state number requests.LogEnd sees stands alone = refl
  within_other busy seen state number (requests.ReadLog position limit tables) sees stands alone = refl
  within_other busy seen state number requests.ShowTables sees stands alone = refl
  within_other busy seen state number requests.ShowWaiting sees stands alone = refl
  within_other busy seen state number (requests.ShowCounter table) sees stands alone =
      other_if (λ found. IsOther (of_table found (λ t. answers.At (unwrap_or (next_of table state.counters) 0)))) state.tables table (first_is name table true alone).0 stands (λ found. refl)
  within_other busy seen state number (requests.SetCounter table least) sees stands alone = other_if (λ found. IsOther (of_table found (λ t. ok))) state.tables table (first_is name table true alone).0 stands (λ found. refl)

  did_other : (state : State) (number : ℕ) (request : Request) → Stands name state.tables → names_alone name request ≡ true → IsOther (did state number request).answer
  unfolding did
  did_other state number request stands alone = by (is_outside (session_of number state.sessions) request) where
    by : (b : Bool) → IsOther (does (effect_unless b (is_in_transaction (session_of number state.sessions)) (view number state) state request) state number).answer
    by true = refl
    by false = within_other (is_in_transaction (session_of number state.sessions)) (view number state) state number request (events_stand name state.tables (writes_of (session_of number state.sessions)) stands) stands alone

  done_other : (state : State) (number : ℕ) (request : Request) → Stands name state.tables → names_alone name request ≡ true → IsOther (done state number request).answer
  done_other state number request stands =
      filled_case (λ asked full. names_alone name asked ≡ true → IsOther (did state number full).answer) (λ r alone. did_other state number r stands alone)
      (λ statement n alone. did_other state number (requests.Do (numbered n statement)) stands (subst (λ (t : List ℕ). list_all (bytes_eq name) (t ∷ []) ≡ true) (sym (numbered_table n statement)) alone))
      (is_of_tool (session_of number state.sessions)) state.tables state.counters request

  -- *Calls and polls*
  pub called_other : (state : State) (number : ℕ) (request : Request) → Stands name state.tables → names_alone name request ≡ true → IsOther (calls state number request).answer
  unfolding calls
  called_other state number request stands alone = by (blocker state number (need state number request)) where
    by : (blocked : Option ℕ) → IsOther (called_unless blocked state number request).answer
    by None = done_other state number request stands alone
    by (Some one) = refl

  pub polled_other : (state : State) (number : ℕ) (request : Request) → request_of (waiting_of number state.waiting) ≡ Some request → Stands name state.tables → names_alone name request ≡ true → IsOther (polls state number).answer
  unfolding polls
  polled_other state number request waits stands alone = by (waiting_of number state.waiting) waits where
    over : (late : Bool) (one : ℕ) → IsOther (polled_over late one state number).answer
    over true one = refl
    over false one = refl

    unless : (blocked : Option ℕ) → IsOther (polled_unless blocked state number request).answer
    unless None = done_other (without_waiting number state) number request stands alone
    unless (Some one) = over (is_over state number) one

    by : (waiting : Option Waiting) → request_of waiting ≡ Some request → IsOther (polled_of waiting state number).answer
    by None none = absurd cc
    by (Some waiting) some = let one : waiting.request ≡ request = cc in subst (λ (r : Request). IsOther (polled_unless (blocker state number (need state number r)) state number r).answer) (sym one) (unless (blocker state number (need state number request)))
