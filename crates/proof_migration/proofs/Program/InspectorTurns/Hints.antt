-- What the INSERT of a hint row leaves, where it is done: its row in the log, and what sessions hold as it was.
use Rattle.proof_migration.proofs.ToolServes.{filled_so}
use Rattle.std.proofs.Common.{◌≡◌, ℕ, pos, Bool, true, false, cond, codes, List, [], ◌∷◌, ◌++◌, Option, Some, None, Result, Ok, Err, refl, sym, ap, ◌∙◌, subst}
use Rattle.std.specs.Prelude.{◌==◌, int_le, nat_le, ◌&&◌}
use Rattle.std.specs.Fmt.{signed_decimal}
use Rattle.std.specs.List.{list_any}
use Rattle.std.specs.Option.{option_map}
use Rattle.base_values.specs.declared.unfit.Unfit.{Unfit}
use Rattle.base_values.specs.declared.unfit.Unfit.TheVariants as unfit
use Rattle.base_values.specs.declared.value.Value.{Value}
use Rattle.base_values.specs.declared.value.Value.TheVariants.{Num, Text}
use Rattle.base_values.specs.StoredValues.{character_count, highest, in_range, lowest, stores, text_within}
use Rattle.base_values.specs.GhoSchema.Tables.{clash}
use Rattle.base_values.specs.declared.gho_schema.schema.Schema.{Schema}
use Rattle.base_values.specs.declared.event.Change.TheVariants.{Write}
use Rattle.base_values.specs.declared.event.RowEvent.{RowEvent}
use Rattle.server_locks.specs.MetadataLocks.Grants as grants
use Rattle.table_store.specs.Databases.{Database, TableRows, find_table}
use Rattle.base_script.specs.declared.statement.Statement.{Statement}
use Rattle.base_script.specs.declared.statement.Statement.TheVariants as statements
use Rattle.server_model.specs.Answers.{refuses, refuses_value}
use Rattle.server_model.specs.Checks.{◌>>=◌, beside, new_row, or_refused, row_from, value_at, work_of}
use Rattle.server_model.specs.Effects.{effect_unless, is_outside}
use Rattle.server_model.specs.Operations.{events_of, operation_of, operation_result, result_in, statement_result}
use Rattle.server_model.specs.Blockers.{blocker, need}
use Rattle.server_model.specs.StatementResults.{only, tells}
use Rattle.server_model.specs.PlainServer.{Served, at_rest, called_unless, calls, does, done, did, is_over, polled_of, polled_over, polled_unless, polls, serves, without_waiting}
use Rattle.server_model.specs.States.{State, is_in_transaction, kept_names, names_held, session_of, view, waiting_of, with_session, writes_of, is_of_tool}
use Rattle.server_model.specs.declared.answer.Answer.{Answer}
use Rattle.server_model.specs.declared.answer.Answer.TheVariants as answers
use Rattle.server_model.specs.declared.entry.Asked.{Asked}
use Rattle.server_model.specs.declared.entry.Asked.TheVariants.{Call, Poll, Command, Cut}
use Rattle.server_model.specs.declared.request.Request.{Request}
use Rattle.server_model.specs.declared.session.HeldName.{HeldName}
use Rattle.server_model.specs.declared.session.Session.{Session}
use Rattle.server_model.specs.declared.session.Waiting.{Waiting}
use Rattle.server_model.specs.declared.work.StatementResult.{StatementResult}
use Rattle.server_model.specs.declared.work.Work.TheVariants as works
use Rattle.tool_changelog.specs.Hints.{hint_row}
use Rattle.base_values.specs.ToolNames.{log_name}
use Rattle.base_values.specs.declared.mysql_errors.TheConstants.{ER_DUP_ENTRY}
use Rattle.tool_changelog.specs.ToolTables.{log_schema}
use Rattle.tool_program.specs.CutoverCore.Attempts.{writes_hint}
use Rattle.proof_journals.specs.Turns.{about, request_of}
use Rattle.proof_journals.proofs.Names.{as_held}
use Rattle.proof_journals.specs.ServerTurns.Others.{held_at}
use Rattle.proof_journals.specs.Machine.MigrationTables.{schema_of}
use Rattle.proof_journals.proofs.Machine.Schemas.{schema_events}

-- WHAT IS STORED

in_is : (bytes : ℕ) (unsigned : Bool) (n : _) (value : Value) → in_range bytes unsigned n ≡ Ok value → value ≡ Num n
unfolding in_range
in_is bytes unsigned n value is = by (int_le (lowest bytes unsigned) n && int_le n (highest bytes unsigned)) is where
  by : (b : Bool) → cond b (Ok (Num n)) (Err unfit.Range) ≡ Ok value → value ≡ Num n
  by true is = let one : Num n ≡ value = cc in sym one
  by false is = absurd cc

text_is : (limit : ℕ) (text : List ℕ) (value : Value) → text_within limit text ≡ Ok value → value ≡ Text text
unfolding text_within
text_is limit text value is = by (nat_le (character_count text) limit) is where
  by : (b : Bool) → cond b (Ok (Text text)) (Err unfit.Length) ≡ Ok value → value ≡ Text text
  by true is = let one : Text text ≡ value = cc in sym one
  by false is = absurd cc

-- one column and those behind it
first_is : (place : ℕ) (stored : Result Value Unfit) (own : Value) (rest : List Value) (others : Result (List Value) Answer) (row : List Value) → ((value : Value) → stored ≡ Ok value → value ≡ own) → ((more : List Value) → others ≡ Ok more → more ≡ rest)
    → (value_at place stored >>= (λ value. others >>= (λ more. Ok (value ∷ more)))) ≡ Ok row → row ≡ own ∷ rest
first_is place (Ok value) own rest (Ok more) row one all is = let same : value ∷ more ≡ row = cc in sym same ∙ ap (λ (v : Value). v ∷ more) (one value refl) ∙ ap (λ (m : List Value). own ∷ m) (all more refl)
first_is place (Ok value) own rest (Err refusal) row one all is = absurd cc
first_is place (Err reason) own rest others row one all is = absurd cc

-- the columns behind the last, the last one, and the second one with it
abbrev nothing_made : Result (List Value) Answer
nothing_made = Ok []

abbrev with_first : ℕ → Result Value Unfit → Result (List Value) Answer → Result (List Value) Answer
with_first place stored others = value_at place stored >>= (λ value. others >>= (λ more. Ok (value ∷ more)))

abbrev last_made : ℕ → Result (List Value) Answer
last_made n = with_first 2 (text_within 255 (signed_decimal (pos n))) nothing_made

abbrev two_made : ℕ → Result (List Value) Answer
two_made n = with_first 1 (text_within 64 (codes "cut-over")) (last_made n)

none_is : (row : List Value) → nothing_made ≡ Ok row → row ≡ []
none_is row is = let same : [] ≡ row = cc in sym same

last_is : (n : ℕ) (row : List Value) → last_made n ≡ Ok row → row ≡ Text (signed_decimal (pos n)) ∷ []
last_is n row is = first_is 2 (text_within 255 (signed_decimal (pos n))) (Text (signed_decimal (pos n))) [] nothing_made row (text_is 255 (signed_decimal (pos n))) none_is is

two_is : (n : ℕ) (row : List Value) → two_made n ≡ Ok row → row ≡ Text (codes "cut-over") ∷ Text (signed_decimal (pos n)) ∷ []
two_is n row is = first_is 1 (text_within 64 (codes "cut-over")) (Text (codes "cut-over")) (Text (signed_decimal (pos n)) ∷ []) (last_made n) row (text_is 64 (codes "cut-over")) (last_is n) is

-- the row that is made is the hint row
row_is : (t : List ℕ) (n : ℕ) (row : List Value) → new_row (log_schema t) None (hint_row n) ≡ Ok row → row ≡ hint_row n
unfolding new_row row_from beside stores log_schema hint_row
row_is t n row is = first_is 0 (in_range 8 false (pos n)) (Num (pos n)) (Text (codes "cut-over") ∷ Text (signed_decimal (pos n)) ∷ []) (two_made n) row (in_is 8 false (pos n)) (two_is n) is

-- a row that isn't made is refused
abbrev IsRefusal : Answer → Type 0
IsRefusal (answers.Refused number column) = Unit {0}
IsRefusal answer = ⊥

first_refuses : (place : ℕ) (stored : Result Value Unfit) (others : Result (List Value) Answer) (refusal : Answer) → ((other : Answer) → others ≡ Err other → IsRefusal other) → with_first place stored others ≡ Err refusal → IsRefusal refusal
first_refuses place (Ok value) (Ok more) refusal all is = absurd cc
first_refuses place (Ok value) (Err other) refusal all is = let same : other ≡ refusal = cc in subst IsRefusal same (all other refl)
first_refuses place (Err reason) others refusal all is = let same : refuses_value (record { column = place; unfit = reason }) ≡ refusal = cc in subst IsRefusal same tt

none_refuses : (refusal : Answer) → nothing_made ≡ Err refusal → IsRefusal refusal
none_refuses refusal is = absurd cc

row_refuses : (t : List ℕ) (n : ℕ) (refusal : Answer) → new_row (log_schema t) None (hint_row n) ≡ Err refusal → IsRefusal refusal
unfolding new_row row_from beside stores log_schema hint_row
row_refuses t n refusal is =
    first_refuses 0 (in_range 8 false (pos n)) (two_made n) refusal (λ other made. first_refuses 1 (text_within 64 (codes "cut-over")) (last_made n) other (λ last found. first_refuses 2 (text_within 255 (signed_decimal (pos n))) nothing_made last none_refuses found) made) is

-- WHAT IS SAID

abbrev pub hint_event : List ℕ → ℕ → RowEvent
hint_event t n = record { table = log_name t; change = Write (hint_row n) }

abbrev pub hint_insert : List ℕ → ℕ → Statement
hint_insert t n = statements.Insert (log_name t) None (hint_row n) None

-- where it is done its row is what is written
abbrev Hints : List ℕ → ℕ → StatementResult → Type 0
Hints t n result = (count : ℕ) → result.answer ≡ answers.Ok count → result.events ≡ hint_event t n ∷ []

reported_hints : (t : List ℕ) (n : ℕ) (rows : List (List Value)) (made : Result (List Value) Answer) → new_row (log_schema t) None (hint_row n) ≡ made
    → Hints t n (record { answer = (tells (log_schema t) rows (or_refused made works.Insert)).answer; events = events_of (log_name t) (tells (log_schema t) rows (or_refused made works.Insert)).changes })
unfolding tells
reported_hints t n rows (Err refusal) is count ok = absurd (never refusal (row_refuses t n refusal is) ok) where
  never : (answer : Answer) → IsRefusal answer → answer ≡ answers.Ok count → ⊥
  never (answers.Refused number column) refused same = cc
  never answer refused same = refused
reported_hints t n rows (Ok row) is count ok = by (list_any (clash (log_schema t).uniques row) rows) ok where
  by : (b : Bool) → (cond b (only (refuses ER_DUP_ENTRY)) (record { answer = answers.Ok 1; changes = Write row ∷ [] })).answer ≡ answers.Ok count → events_of (log_name t) (cond b (only (refuses ER_DUP_ENTRY)) (record { answer = answers.Ok 1; changes = Write row ∷ [] })).changes ≡ hint_event t n ∷ []
  by true ok = absurd cc
  by false ok = ap (λ (r : List Value). let one : RowEvent = record { table = log_name t; change = Write r } in one ∷ []) (row_is t n row is)

in_hints : (t : List ℕ) (n : ℕ) (found : Option TableRows) → option_map (λ table. table.schema) found ≡ Some (log_schema t) → Hints t n (result_in (operation_of (hint_insert t n)) found)
unfolding work_of
in_hints t n None stands = absurd cc
in_hints t n (Some table) stands =
    let same : table.schema ≡ log_schema t = cc in
    subst (λ (schema : Schema). Hints t n (record { answer = (tells schema table.rows (or_refused (new_row schema None (hint_row n)) works.Insert)).answer; events = events_of (log_name t) (tells schema table.rows (or_refused (new_row schema None (hint_row n)) works.Insert)).changes })) (sym same)
    (reported_hints t n table.rows (new_row (log_schema t) None (hint_row n)) refl)

says_hints : (t : List ℕ) (n : ℕ) (seen : Database) → schema_of (log_name t) seen ≡ Some (log_schema t) → Hints t n (statement_result seen (hint_insert t n))
unfolding operation_result
says_hints t n seen stands = in_hints t n (find_table (log_name t) seen) stands

-- WHAT IS DONE

rested_names : (number : ℕ) (sessions : List Session) → ((found : Session) → session_of number sessions ≡ Some found → found.names ≡ []) → names_held (with_session number at_rest sessions) ≡ names_held sessions
unfolding with_session
rested_names number [] none = refl
rested_names number (first ∷ sessions) none = by (first.number == number) none (rested_names number sessions) where
  by : (b : Bool) → ((found : Session) → cond b (Some first) (session_of number sessions) ≡ Some found → found.names ≡ []) → (((found : Session) → session_of number sessions ≡ Some found → found.names ≡ []) → names_held (with_session number at_rest sessions) ≡ names_held sessions)
      → names_held (cond b (at_rest first ∷ sessions) (first ∷ with_session number at_rest sessions)) ≡ names_held (first ∷ sessions)
  by true none rest =
      ap (λ (names : List HeldName). as_held first.number (kept_names names) ++ names_held sessions) (none first refl) ∙ sym (ap (λ (names : List HeldName). as_held first.number names ++ names_held sessions) (none first refl))
  by false none rest = ap (λ (held : List grants.HeldName). as_held first.number first.names ++ held) (rest none)

-- its row is logged, and sessions hold what they held
pub record Hinted (t : List ℕ) (n : ℕ) (state : State) (after : State) : Type 0 where
  pub log : after.log ≡ state.log ++ hint_event t n ∷ []
  pub held : held_at after ≡ held_at state

-- a session that holds no name, is in no transaction and wrote nothing
pub record IsBare (state : State) (number : ℕ) : Type 0 where
  pub tool : is_of_tool (session_of number state.sessions) ≡ true
  pub names : (found : Session) → session_of number state.sessions ≡ Some found → found.names ≡ []
  pub busy : is_in_transaction (session_of number state.sessions) ≡ false
  pub writes : writes_of (session_of number state.sessions) ≡ []

module _ (t : List ℕ) (n : ℕ) (state : State) (number : ℕ) (bare : IsBare state number) (stands : schema_of (log_name t) state.tables ≡ Some (log_schema t)) where
  abbrev DoneSo : Served → Type 0
  DoneSo served = (count : ℕ) → served.answer ≡ answers.Ok count → Hinted t n state served.after

  seen_stands : schema_of (log_name t) (view number state) ≡ Some (log_schema t)
  seen_stands = schema_events (log_name t) state.tables (writes_of (session_of number state.sessions)) ∙ stands

  within : (w : List Waiting) → DoneSo (does (effect_unless false (is_in_transaction (session_of number state.sessions)) (view number state) (record state { waiting = w }) (writes_hint t n)) (record state { waiting = w }) number)
  within w = subst (λ (b : Bool). DoneSo (does (effect_unless false b (view number state) (record state { waiting = w }) (writes_hint t n)) (record state { waiting = w }) number)) (sym bare.busy) (λ count ok. record {
    log = ap (λ (written : List RowEvent). state.log ++ (written ++ (statement_result (view number state) (hint_insert t n)).events)) bare.writes ∙ ap (λ (events : List RowEvent). state.log ++ events) (says_hints t n (view number state) seen_stands count ok);
    held = rested_names number state.sessions bare.names;
  })

  done_so : (w : List Waiting) → DoneSo (done (record state { waiting = w }) number (writes_hint t n))
  unfolding did
  done_so w = subst (λ (r : Request). DoneSo (did (record state { waiting = w }) number r)) (sym (filled_so (record state { waiting = w }) number (writes_hint t n) bare.tool)) (by (is_outside (session_of number state.sessions) (writes_hint t n))) where
    by : (outside : Bool) → DoneSo (does (effect_unless outside (is_in_transaction (session_of number state.sessions)) (view number state) (record state { waiting = w }) (writes_hint t n)) (record state { waiting = w }) number)
    by true = λ count ok. absurd cc
    by false = within w

  -- *Where it is done*
  pub hinted : (asked : Asked) → about state number asked ≡ Some (writes_hint t n) → (asked ≡ Cut → ⊥) → DoneSo (serves state number asked)
  unfolding calls polls
  hinted (Call called) asks uncut = let same : called ≡ writes_hint t n = cc in subst (λ (r : Request). DoneSo (called_unless (blocker state number (need state number r)) state number r)) (sym same) (by (blocker state number (need state number (writes_hint t n)))) where
    by : (blocked : Option ℕ) → DoneSo (called_unless blocked state number (writes_hint t n))
    by None = done_so state.waiting
    by (Some one) = λ count ok. absurd cc
  hinted Poll asks uncut = by (waiting_of number state.waiting) asks where
    over : (late : Bool) (one : ℕ) → DoneSo (polled_over late one state number)
    over true one = λ count ok. absurd cc
    over false one = λ count ok. absurd cc

    unless : (blocked : Option ℕ) → DoneSo (polled_unless blocked state number (writes_hint t n))
    unless None = done_so (without_waiting number state).waiting
    unless (Some one) = over (is_over state number) one

    by : (waiting : Option Waiting) → request_of waiting ≡ Some (writes_hint t n) → DoneSo (polled_of waiting state number)
    by None none = absurd cc
    by (Some waiting) some = let same : waiting.request ≡ writes_hint t n = cc in subst (λ (r : Request). DoneSo (polled_unless (blocker state number (need state number r)) state number r)) (sym same) (unless (blocker state number (need state number (writes_hint t n))))
  hinted (Command word) asks uncut = absurd cc
  hinted Cut asks uncut = absurd (uncut refl)
