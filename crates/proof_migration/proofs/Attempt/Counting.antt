-- What the inspector is answered where it asks for the table's counter, and where it sets the new table's: neither is refused, while the
-- tables stand.
use Rattle.std.proofs.Common.{◌≡◌, ℕ, Bool, true, false, List, [], Option, Some, None, sym, ap, ◌∙◌, subst}
use Rattle.std.specs.Option.{option_map}
use Rattle.std.specs.Prelude.{is_some, unwrap_or}
use Rattle.std.proofs.lemmas.Bool.{false≢true}
use Rattle.base_values.specs.declared.gho_schema.schema.Schema.{Schema}
use Rattle.table_store.specs.Databases.{TableRows, Database, find_table}
use Rattle.server_model.specs.declared.answer.Answer.{Answer}
use Rattle.server_model.specs.declared.answer.Answer.TheVariants as answers
use Rattle.server_model.specs.declared.entry.Entry.{Entry}
use Rattle.server_model.specs.declared.request.Request.{Request}
use Rattle.server_model.specs.declared.request.Request.TheVariants as requests
use Rattle.server_model.specs.declared.session.Session.{Session}
use Rattle.server_model.specs.Answers.{ok}
use Rattle.server_model.specs.Effects.{Rests, of_table, effect_unless, is_beyond, is_outside}
use Rattle.server_model.specs.Entries.{is_command}
use Rattle.server_model.specs.PlainServer.{does, done, did}
use Rattle.server_model.specs.States.{State, session_of, is_in_transaction, next_of, tables_named, view}
use Rattle.plan_data.specs.PlanData.{PlanData}
use Rattle.tool_program.specs.JournalWords.Journals.{opens, state_at}
use Rattle.proof_journals.specs.Machine.MigrationTables.{schema_of}
use Rattle.proof_journals.specs.Machine.Standings.{Standing, standing_of, IsAbout}
use Rattle.proof_journals.proofs.Machine.Seated.{IsKnown, IsServed, IsOpen, is_open}
use Rattle.proof_migration.proofs.ToolPhase.Hearing.{IsFoundBy, HoldsUndone, own_answer, opened_tables}

-- the answer is no refusal
abbrev pub IsUnrefused : Answer → Type 0
IsUnrefused (answers.Refused number column) = ⊥
IsUnrefused answer = Unit {0}

shows_done : (name : List ℕ) (found : State) (number : ℕ) → is_outside (session_of number found.sessions) (requests.ShowCounter name) ≡ false → is_some (schema_of name found.tables) ≡ true → IsUnrefused (done found number (requests.ShowCounter name)).answer
unfolding did
shows_done name found number inside there =
    subst (λ (b : Bool). IsUnrefused (does (effect_unless b (is_in_transaction (session_of number found.sessions)) (view number found) found (requests.ShowCounter name)) found number).answer) (sym inside) (by (find_table name found.tables) there) where
      by : (table : Option TableRows) → is_some (option_map (λ (t : TableRows). t.schema) table) ≡ true → IsUnrefused (does (Rests (of_table table (λ t. answers.At (unwrap_or (next_of name found.counters) 0)))) found number).answer
      by (Some t) there = tt
      by None gone = absurd (false≢true gone)

sets_done : (name : List ℕ) (least : ℕ) (found : State) (number : ℕ) → is_outside (session_of number found.sessions) (requests.SetCounter name least) ≡ false → is_some (schema_of name found.tables) ≡ true → IsUnrefused (done found number (requests.SetCounter name least)).answer
unfolding did
sets_done name least found number inside there =
    subst (λ (b : Bool). IsUnrefused (does (effect_unless b (is_in_transaction (session_of number found.sessions)) (view number found) found (requests.SetCounter name least)) found number).answer) (sym inside) (by (find_table name found.tables) there) where
      by : (table : Option TableRows) → is_some (option_map (λ (t : TableRows). t.schema) table) ≡ true → IsUnrefused (does (Rests (of_table table (λ t. ok))) found number).answer
      by (Some t) there = tt
      by None gone = absurd (false≢true gone)

undone : HoldsUndone IsUnrefused
undone = record { waits = λ by. tt; timed = λ waited. tt; lost = tt }

-- a session that has locked no tables
module _ (plan : PlanData) (journal : List Entry) (entry : Entry) (known : IsKnown plan journal) (served : IsServed plan journal entry) (called : is_command entry.asked ≡ false) (unlocked : (standing_of plan journal entry.actor).locked ≡ []) where
  inside : (request : Request) (found : State) → IsFoundBy found (opens entry (state_at plan journal)) → is_outside (session_of entry.session found.sessions) request ≡ is_beyond [] (tables_named request)
  inside request found is_found =
      let opened : IsOpen plan journal entry known served = is_open plan journal entry known served called in
      ap (λ (sessions : List Session). is_outside (session_of entry.session sessions) request) is_found.sessions ∙ ap (λ (o : Option Session). is_outside o request) opened.is
      ∙ ap (λ (s : Standing). is_beyond s.locked (tables_named request)) (sym opened.stands) ∙ ap (λ (names : List (List ℕ)). is_beyond names (tables_named request)) unlocked

  stands_found : (name : List ℕ) (schema : Schema) (found : State) → IsFoundBy found (opens entry (state_at plan journal)) → schema_of name (state_at plan journal).tables ≡ Some schema → is_some (schema_of name found.tables) ≡ true
  stands_found name schema found is_found there = ap (λ (tables : Database). is_some (schema_of name tables)) (is_found.tables ∙ opened_tables plan journal entry) ∙ ap is_some there

  -- *The counter is shown*
  pub shows_unrefused : (name : List ℕ) (schema : Schema) → schema_of name (state_at plan journal).tables ≡ Some schema → IsAbout (requests.ShowCounter name) (standing_of plan journal entry.actor) entry.asked → IsUnrefused entry.answer
  shows_unrefused name schema there about =
      own_answer IsUnrefused undone plan journal entry known served (requests.ShowCounter name) about
      (λ found is_found. shows_done name found entry.session (inside (requests.ShowCounter name) found is_found) (stands_found name schema found is_found there))

  -- *The counter is set*
  pub sets_unrefused : (name : List ℕ) (least : ℕ) (schema : Schema) → schema_of name (state_at plan journal).tables ≡ Some schema → IsAbout (requests.SetCounter name least) (standing_of plan journal entry.actor) entry.asked → IsUnrefused entry.answer
  sets_unrefused name least schema there about =
      own_answer IsUnrefused undone plan journal entry known served (requests.SetCounter name least) about
      (λ found is_found. sets_done name least found entry.session (inside (requests.SetCounter name least) found is_found) (stands_found name schema found is_found there))
