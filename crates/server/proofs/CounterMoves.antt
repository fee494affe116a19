-- How counters move by a request that is done, as code says it.
use Rattle.std.proofs.Common.{◌≡◌, ℕ, Bool, true, false, List, [], ◌++◌, cond, Option, Some, None, refl, sym, ap, ◌∙◌}
use Rattle.std.specs.Prelude.{◌==◌, is_some}
use Rattle.std.proofs.lemmas.Bool.{true≢false}
use Rattle.table_store.specs.Databases.{TableRows, Database, find_table}
use Rattle.table_store.specs.declared.renames.Pair.{Pair}
use Rattle.base_values.specs.declared.gho_schema.schema.Schema.{Schema}
use Rattle.base_values.specs.GhoSchema.AutoIncrement.{auto_place}
use Rattle.base_script.specs.declared.statement.Statement.{Statement}
use Rattle.server_model.specs.declared.answer.Answer.{Answer}
use Rattle.server_model.specs.declared.answer.Answer.TheVariants as answers
use Rattle.server_model.specs.declared.counter.Counter.{Counter}
use Rattle.server_model.specs.declared.request.Request.{Request}
use Rattle.server_model.specs.declared.request.Request.TheVariants as requests
use Rattle.server_model.specs.Counting.{after_drawn, counted, counts, counts_if, drawn_by, drawn_if, given_by, gives_in, is_answered, offered_inside}
use Rattle.server_model.specs.Drawing.{numbered, offered}
use Rattle.server_model.specs.Effects.{is_outside}
use Rattle.server_model.specs.Operations.{table_of}
use Rattle.server_model.specs.States.{State, after_value, counter_of, counters_from, counters_renamed, counters_without, is_of_tool, session_of}
use Rattle.server_model.proofs.LockedRows.Counters.{found_named}
use Rattle.server_model.proofs.Raising.{raised_zero}
use Rattle.server_sessions.specs.LiveSessions.CounterMoves.{after_given}
use Rattle.server.proofs.Offers.{offers_missing}

-- what is given, by its number
given_none : (answer : Answer) → given_by answer None ≡ 0
given_none (answers.Ok count) = at (count == 0) 0 where
  at : (b : Bool) (n : ℕ) → cond b n n ≡ n
  at true n = refl
  at false n = refl
given_none answer = refl

given_same : (schema : Schema) (place : Option ℕ) (statement : Statement) (drawn : Option ℕ) (given : ℕ) (answer : Answer) → given ≡ after_value (gives_in schema place (numbered drawn statement)) → after_given answer given ≡ given_by answer (gives_in schema place (numbered (drawn_if (is_answered answer) drawn) statement))
given_same schema place statement drawn given (answers.Ok count) is = ap (λ (n : ℕ). cond (count == 0) 0 n) is
given_same schema place statement drawn given answer is = refl

pub none_drawn : (answered : Bool) → drawn_if answered None ≡ None
none_drawn true = refl
none_drawn false = refl

-- a table without an AUTO_INCREMENT column
stays_plain : (place : Option ℕ) (drawn : Option ℕ) (table : TableRows) (statement : Statement) (answer : Answer) (counters : List Counter) → place ≡ auto_place table.schema → is_some place ≡ false → is_some drawn ≡ false → counters ≡ counts (Some table) (drawn_if (is_answered answer) drawn) statement answer counters
stays_plain None None table statement answer counters is plain none =
    rw (none_drawn (is_answered answer), ← is, given_none answer) (sym (ap (counters_from table.schema.name 0) (raised_zero table.schema.name counters) ∙ raised_zero table.schema.name counters))
stays_plain (Some place) drawn table statement answer counters is plain none = absurd (true≢false plain)
stays_plain None (Some number) table statement answer counters is plain none = absurd (true≢false none)

pub stays_without : (found : Option TableRows) (table : TableRows) (statement : Statement) (answer : Answer) (counters : List Counter) (drawn : Option ℕ) → found ≡ Some table → is_some (auto_place table.schema) ≡ false → is_some drawn ≡ false → counters ≡ counts found (drawn_if (is_answered answer) drawn) statement answer counters
stays_without found table statement answer counters drawn is plain none = rw is (stays_plain (auto_place table.schema) drawn table statement answer counters refl plain none)

pub stays_missing : (found : Option TableRows) (statement : Statement) (answer : Answer) (counters : List Counter) (drawn : Option ℕ) → found ≡ None → counters ≡ counts found (drawn_if (is_answered answer) drawn) statement answer counters
stays_missing found statement answer counters drawn is = rw is refl

-- a table with one
pub raises : (tables : Database) (name : List ℕ) (table : TableRows) (statement : Statement) (answer : Answer) (counters : List Counter) (drawn : Option ℕ) (given : ℕ) → name ≡ table_of statement → find_table (table_of statement) tables ≡ Some table → given ≡ after_value (gives_in table.schema (auto_place table.schema) (numbered drawn statement))
    → counters_from name (after_given answer given) (counters_from name (after_drawn (drawn_if (is_answered answer) drawn)) counters) ≡ counts (find_table (table_of statement) tables) (drawn_if (is_answered answer) drawn) statement answer counters
raises tables name table statement answer counters drawn given named found is =
    let same : name ≡ table.schema.name = named ∙ sym (found_named (table_of statement) tables table found) in
    rw (found, same) (ap (λ (n : ℕ). counters_from table.schema.name n (counters_from table.schema.name (after_drawn (drawn_if (is_answered answer) drawn)) counters)) (given_same table.schema (auto_place table.schema) statement drawn given answer is))

-- a statement, by whether its table is one that its session locked
pub statement_counted : (state : State) (number : ℕ) (statement : Statement) (drawn : Option ℕ) (answer : Answer) → drawn ≡ offered_inside (is_outside (session_of number state.sessions) (requests.Do statement)) (offered state number statement)
    → counts (find_table (table_of statement) state.tables) (drawn_if (is_answered answer) drawn) statement answer state.counters ≡ counted state number (Some (requests.Do statement)) answer
unfolding counted
statement_counted state number statement drawn answer is = rw is refl

-- a definition
defined_counters : (answer : Answer) (after : List Counter) (change : List Counter → List Counter) (counters : List Counter) → after ≡ change counters → counts_if answer (λ before. after) counters ≡ counts_if answer change counters
defined_counters (answers.Ok count) after change counters is = is
defined_counters answer after change counters is = refl

pub created_counted : (state : State) (number : ℕ) (schema : Schema) (answer : Answer) (after : List Counter) → after ≡ state.counters ++ counter_of (record { schema = schema; rows = [] }) → counts_if answer (λ before. after) state.counters ≡ counted state number (Some (requests.Create schema)) answer
unfolding counted
created_counted state number schema answer after is = defined_counters answer after (λ counters. counters ++ counter_of (record { schema = schema; rows = [] })) state.counters is

pub dropped_counted : (state : State) (number : ℕ) (name : List ℕ) (answer : Answer) (after : List Counter) → after ≡ counters_without name state.counters → counts_if answer (λ before. after) state.counters ≡ counted state number (Some (requests.Drop name)) answer
unfolding counted
dropped_counted state number name answer after is = defined_counters answer after (counters_without name) state.counters is

pub renamed_counted : (state : State) (number : ℕ) (pairs : List Pair) (answer : Answer) (after : List Counter) → after ≡ counters_renamed pairs state.counters → counts_if answer (λ before. after) state.counters ≡ counted state number (Some (requests.Rename pairs)) answer
unfolding counted
renamed_counted state number pairs answer after is = defined_counters answer after (counters_renamed pairs) state.counters is

-- a counter that is set
pub set_counted : (state : State) (number : ℕ) (table : List ℕ) (least : ℕ) (answer : Answer) → counts_if answer (counters_from table least) state.counters ≡ counted state number (Some (requests.SetCounter table least)) answer
unfolding counted
set_counted state number table least answer = refl

-- any other request moves none
pub others_stay : (state : State) (number : ℕ) (request : Request) (answer : Answer) → ((statement : Statement) → request ≡ requests.Do statement → ⊥) → ((schema : Schema) → request ≡ requests.Create schema → ⊥) → ((name : List ℕ) → request ≡ requests.Drop name → ⊥) → ((pairs : List Pair) → request ≡ requests.Rename pairs → ⊥)
    → ((table : List ℕ) (least : ℕ) → request ≡ requests.SetCounter table least → ⊥) → state.counters ≡ counted state number (Some request) answer
unfolding counted
others_stay state number (requests.Do statement) answer does creates drops renames sets = absurd (does statement refl)
others_stay state number (requests.Create schema) answer does creates drops renames sets = absurd (creates schema refl)
others_stay state number (requests.Drop name) answer does creates drops renames sets = absurd (drops name refl)
others_stay state number (requests.Rename pairs) answer does creates drops renames sets = absurd (renames pairs refl)
others_stay state number (requests.SetCounter table least) answer does creates drops renames sets = absurd (sets table least refl)
others_stay state number request answer does creates drops renames sets = refl

-- WHAT IS DRAWN

pub statement_drawn : (state : State) (number : ℕ) (statement : Statement) (drawn : Option ℕ) (answer : Answer) → drawn ≡ offered_inside (is_outside (session_of number state.sessions) (requests.Do statement)) (offered state number statement)
    → drawn_if (is_answered answer) drawn ≡ drawn_by state number (Some (requests.Do statement)) answer
statement_drawn state number statement drawn answer is = ap (drawn_if (is_answered answer)) is

-- where the statement's table doesn't exist
inside_none : (outside : Bool) → offered_inside outside None ≡ None
inside_none true = refl
inside_none false = refl

pub none_missing : (state : State) (number : ℕ) (statement : Statement) (outside : Bool) (drawn : Option ℕ) → drawn ≡ offered_inside outside (offered state number statement) → find_table (table_of statement) state.tables ≡ None → drawn ≡ None
none_missing state number statement outside drawn is none =
    is ∙ (ap (offered_inside outside) (sym (offers_missing (is_of_tool (session_of number state.sessions)) state.tables state.counters statement none)) ∙ inside_none outside)

-- what is no statement draws no number
pub others_draw : (state : State) (number : ℕ) (request : Request) (answer : Answer) → ((statement : Statement) → request ≡ requests.Do statement → ⊥) → None ≡ drawn_by state number (Some request) answer
others_draw state number (requests.Do statement) answer other = absurd (other statement refl)
others_draw state number request answer other = sym (none_drawn (is_answered answer))
