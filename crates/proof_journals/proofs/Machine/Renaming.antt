-- A RENAME is done, or leaves all tables; and what SHOW TABLES lists.
use Rattle.std.proofs.Common.{◌≡◌, ◌⊎◌, ℕ, Bool, true, false, cond, not, ◌||◌, List, [], ◌∷◌, ◌++◌, map, take, drop, Option, Some, None, Result, Ok, Err, refl, sym, ap, ◌∙◌, subst, inl, inr}
use Rattle.std.specs.Prelude.{fold, find}
use Rattle.std.specs.List.{list_any}
use Rattle.std.specs.Option.{option_map}
use Rattle.std.specs.Str.{bytes_eq}
use Rattle.std.proofs.lemmas.Bool.{false≢true, or_left, or_right}
use Rattle.std.proofs.lemmas.List.{take-append-drop}
use Rattle.std.proofs.lemmas.List.Folds.{list_any-append}
use Rattle.base_values.specs.declared.gho_schema.schema.Schema.{Schema}
use Rattle.table_store.specs.Databases.{Database, is_named, rename_tables}
use Rattle.table_store.specs.declared.renames.NotRenamed.{NotRenamed}
use Rattle.table_store.specs.declared.renames.Pair.{Pair}
use Rattle.base_script.specs.declared.actor.Side.{Side}
use Rattle.base_script.specs.declared.actor.Side.TheVariants.{Before, After}
use Rattle.server_model.specs.declared.answer.Answer.{Answer}
use Rattle.server_model.specs.declared.answer.Answer.TheVariants as answers
use Rattle.server_model.specs.declared.entry.Asked.{Asked}
use Rattle.server_model.specs.declared.entry.Asked.TheVariants.{Call, Poll}
use Rattle.server_model.specs.declared.entry.Entry.{Entry}
use Rattle.server_model.specs.declared.listing.TableName.{TableName}
use Rattle.server_model.specs.declared.request.Request.{Request}
use Rattle.server_model.specs.declared.request.Request.TheVariants as requests
use Rattle.server_model.specs.declared.session.Waiting.{Waiting}
use Rattle.server_model.specs.Effects.{defined, effect_unless, is_outside, renamed_or}
use Rattle.server_model.specs.Entries.{is_client, is_command}
use Rattle.server_model.specs.Blockers.{blocker, need}
use Rattle.server_model.specs.PlainServer.{Served, called_unless, calls, does, done, did, is_over, leaves, loses, polled_of, polled_over, polled_unless, polls, serves, without_waiting}
use Rattle.server_model.specs.Listings.{placed_name, tables_shown}
use Rattle.server_model.specs.States.{State, is_in_transaction, session_of, view, waiting_of}
use Rattle.plan_data.specs.PlanData.{PlanData}
use Rattle.tool_program.specs.JournalWords.Histories.{answer_in}
use Rattle.tool_program.specs.JournalWords.Journals.{state_at, opens}
use Rattle.tool_program.specs.CutoverCore.Attempts.{has_name}
use Rattle.proof_journals.specs.Scenes.{Stored}
use Rattle.proof_journals.specs.Turns.{inner, missed_at, request_of}
use Rattle.proof_journals.proofs.Joined.{reported_missed}
use Rattle.proof_journals.proofs.Journals.{stored_opened, opened_waits}
use Rattle.proof_journals.specs.Machine.MigrationTables.{schema_of}
use Rattle.proof_journals.specs.Machine.Standings.{standing_of, IsAbout, is_called, is_polled}
use Rattle.proof_journals.proofs.Machine.Seated.{IsServed, state_more}

-- WHAT IS DONE

-- it was done, or the schema under the name is as it was
abbrev Renames : List ℕ → State → Served → Type 0
Renames name state served = ((count : ℕ) × (served.answer ≡ answers.Ok count)) ⊎ (schema_of name served.after.tables ≡ schema_of name state.tables)

renamed_so : (name : List ℕ) (state : State) (number : ℕ) (result : Result Database NotRenamed) → Renames name state (does (defined (renamed_or result)) state number)
renamed_so name state number (Ok tables) = inl (_, refl)
renamed_so name state number (Err reason) = inr refl

done_renames : (name : List ℕ) (state : State) (number : ℕ) (pairs : List Pair) → Renames name state (done state number (requests.Rename pairs))
unfolding did
done_renames name state number pairs = at (is_outside (session_of number state.sessions) (requests.Rename pairs)) where
  at : (b : Bool) → Renames name state (does (effect_unless b (is_in_transaction (session_of number state.sessions)) (view number state) state (requests.Rename pairs)) state number)
  at true = inr refl
  at false = renamed_so name state number (rename_tables pairs state.tables)

called_renames : (name : List ℕ) (state : State) (number : ℕ) (pairs : List Pair) → Renames name state (calls state number (requests.Rename pairs))
unfolding calls
called_renames name state number pairs = at (blocker state number (need state number (requests.Rename pairs))) where
  at : (by : Option ℕ) → Renames name state (called_unless by state number (requests.Rename pairs))
  at None = done_renames name state number pairs
  at (Some by) = inr refl

polled_renames : (name : List ℕ) (state : State) (number : ℕ) (pairs : List Pair) → request_of (waiting_of number state.waiting) ≡ Some (requests.Rename pairs) → Renames name state (polls state number)
unfolding polls
polled_renames name state number pairs waits = at (waiting_of number state.waiting) waits where
  over : (b : Bool) (by : ℕ) → Renames name state (polled_over b by state number)
  over true by = inr refl
  over false by = inr refl

  unless : (by : Option ℕ) → Renames name state (polled_unless by state number (requests.Rename pairs))
  unless None = done_renames name (without_waiting number state) number pairs
  unless (Some by) = over (is_over state number) by

  at : (waiting : Option Waiting) → request_of waiting ≡ Some (requests.Rename pairs) → Renames name state (polled_of waiting state number)
  at None none = absurd cc
  at (Some waiting) same =
      let one : waiting.request ≡ requests.Rename pairs = cc in
      subst (λ (r : Request). Renames name state (polled_unless (blocker state number (need state number r)) state number r)) (sym one) (unless (blocker state number (need state number (requests.Rename pairs))))

-- WHAT IS LISTED

abbrev names_it : List ℕ → TableName → Bool
names_it name table = bytes_eq table.name name

inserted : (name : List ℕ) (names : List TableName) (place : ℕ) (new : TableName) → (list_any (names_it name) names || names_it name new) ≡ true → list_any (names_it name) (take place names ++ new ∷ drop place names) ≡ true
inserted name names place new is =
    list_any-append (names_it name) (take place names) (new ∷ drop place names)
    ∙ by (list_any (names_it name) (take place names)) (names_it name new) (list_any (names_it name) (drop place names)) (ap (λ (b : Bool). b || names_it name new) (sym parts) ∙ is) where
      parts : list_any (names_it name) names ≡ (list_any (names_it name) (take place names) || list_any (names_it name) (drop place names))
      parts = ap (list_any (names_it name)) (sym (take-append-drop place names)) ∙ list_any-append (names_it name) (take place names) (drop place names)

      by : (a b c : Bool) → ((a || c) || b) ≡ true → (a || (b || c)) ≡ true
      by true b c is = refl
      by false true c is = refl
      by false false true is = refl
      by false false false is = absurd (false≢true is)

-- names stay listed, and each new one is
listed_stays : (name : List ℕ) (rest names : List TableName) → (list_any (names_it name) names || list_any (names_it name) rest) ≡ true → list_any (names_it name) (fold placed_name names rest) ≡ true
listed_stays name [] names is = by (list_any (names_it name) names) is where
  by : (b : Bool) → (b || false) ≡ true → b ≡ true
  by true is = refl
  by false is = absurd (false≢true is)
listed_stays name (first ∷ rest) names is =
    listed_stays name rest (placed_name names first) (by (list_any (names_it name) names) (names_it name first) (list_any (names_it name) rest) (list_any (names_it name) (placed_name names first)) (inserted name names _ first) is) where
      by : (a b c d : Bool) → ((a || b) ≡ true → d ≡ true) → (a || (b || c)) ≡ true → (d || c) ≡ true
      by true b c d new is = or_left d c (new refl)
      by false true c d new is = or_left d c (new refl)
      by false false c d new is = or_right d c is

shown_found : (name : List ℕ) (tables : Database) (schema : Schema) → schema_of name tables ≡ Some schema → has_name name (tables_shown tables) ≡ true
unfolding tables_shown
shown_found name tables schema is = listed_stays name (map (λ table. record { name = table.schema.name; comment = table.schema.comment }) tables) [] (among tables is) where
  among : (tables : Database) → option_map (λ table. table.schema) (find (is_named name) tables) ≡ Some schema → list_any (names_it name) (map (λ table. record { name = table.schema.name; comment = table.schema.comment }) tables) ≡ true
  among [] none = absurd cc
  among (table ∷ tables) some = at (is_named name table) some (among tables) where
    at : (b : Bool) → option_map (λ table. table.schema) (cond b (Some table) (find (is_named name) tables)) ≡ Some schema
        → (option_map (λ table. table.schema) (find (is_named name) tables) ≡ Some schema → list_any (names_it name) (map (λ table. record { name = table.schema.name; comment = table.schema.comment }) tables) ≡ true)
        → (b || list_any (names_it name) (map (λ table. record { name = table.schema.name; comment = table.schema.comment }) tables)) ≡ true
    at true some rest = refl
    at false some rest = rest some

-- tables that are listed are those that stand
abbrev Lists : State → Served → Type 0
Lists state served = (tables : List TableName) → served.answer ≡ answers.Tables tables → tables ≡ tables_shown state.tables

called_lists : (state : State) (number : ℕ) → Lists state (calls state number requests.ShowTables)
unfolding calls did
called_lists state number = at (blocker state number (need state number requests.ShowTables)) where
  within : (b : Bool) → Lists state (does (effect_unless b (is_in_transaction (session_of number state.sessions)) (view number state) state requests.ShowTables) state number)
  within true tables same = absurd cc
  within false tables same = by (tables_shown state.tables) same where
    by : (shown : List TableName) → answers.Tables shown ≡ answers.Tables tables → tables ≡ shown
    by shown both = cc

  at : (by : Option ℕ) → Lists state (called_unless by state number requests.ShowTables)
  at None = within (is_outside (session_of number state.sessions) requests.ShowTables)
  at (Some by) = λ tables same. absurd cc

-- ONE ENTRY

module _ (plan : PlanData) (journal : List Entry) (entry : Entry) (served : IsServed plan journal entry) (same_waits : is_command entry.asked ≡ false → request_of (waiting_of entry.session (state_at plan journal).waiting) ≡ (standing_of plan journal entry.actor).waits) where
  abbrev now : State
  now = state_at plan journal

  abbrev open_now : State
  open_now = opens entry now

  abbrev more : List Entry
  more = journal ++ entry ∷ []

  opened_tables : open_now.tables ≡ now.tables
  opened_tables = ap (λ (s : Stored). s.tables) (stored_opened (is_command entry.asked) (not (is_client entry.actor)) entry.session now)

  served_renames : (name : List ℕ) (pairs : List Pair) → IsAbout (requests.Rename pairs) (standing_of plan journal entry.actor) entry.asked → Renames name open_now (serves open_now entry.session entry.asked)
  served_renames name pairs (is_called same none) = subst (λ (a : Asked). Renames name open_now (serves open_now entry.session a)) (sym same) (called_renames name open_now entry.session pairs)
  served_renames name pairs (is_polled same some) =
      subst (λ (a : Asked). Renames name open_now (serves open_now entry.session a)) (sym same)
      (polled_renames name open_now entry.session pairs (ap (λ (w : List Waiting). request_of (waiting_of entry.session w)) (opened_waits (is_command entry.asked) (not (is_client entry.actor)) entry.session now) ∙ same_waits (ap is_command same) ∙ some))

  -- what is told of it
  reported_so : (request : Request) → IsAbout request (standing_of plan journal entry.actor) entry.asked → (side : Option Side) (answer : Answer) (missed : Option Answer) → answer_in entry.asked side answer missed ≡ answer_in Poll side answer missed
  reported_so request (is_called same none) side answer missed = ap (λ (a : Asked). answer_in a side answer missed) same ∙ by side where
    by : (side : Option Side) → answer_in (Call request) side answer missed ≡ answer_in Poll side answer missed
    by None = refl
    by (Some Before) = refl
    by (Some After) = refl
  reported_so request (is_polled same some) side answer missed = ap (λ (a : Asked). answer_in a side answer missed) same

  -- *A RENAME was done*, as the entry tells, or the schema under the name is as it was
  pub renamed_or_stays : (name : List ℕ) (pairs : List Pair) → IsAbout (requests.Rename pairs) (standing_of plan journal entry.actor) entry.asked → entry.answer ≡ Rattle.proof_journals.specs.Turns.answer_at entry.side (inner now entry)
      → ((count : ℕ) × (answer_in entry.asked entry.side entry.answer entry.missed ≡ Some (answers.Ok count))) ⊎ (schema_of name (state_at plan more).tables ≡ schema_of name now.tables)
  unfolding loses
  renamed_or_stays name pairs about reported = by entry.side refl (served_renames name pairs about) where
    missed : entry.missed ≡ missed_at entry.side (inner now entry)
    missed = reported_missed now entry served.answered

    same_now : schema_of name open_now.tables ≡ schema_of name now.tables
    same_now = ap (schema_of name) opened_tables

    left_more : (side : Option Side) → entry.side ≡ side → schema_of name (leaves side open_now entry.session entry.asked).tables ≡ schema_of name open_now.tables → schema_of name (state_at plan more).tables ≡ schema_of name now.tables
    left_more side at same = ap (λ (s : State). schema_of name s.tables) (state_more plan journal entry) ∙ ap (λ (s : Option Side). schema_of name (leaves s open_now entry.session entry.asked).tables) at ∙ same ∙ same_now

    by : (side : Option Side) → entry.side ≡ side → Renames name open_now (serves open_now entry.session entry.asked)
        → ((count : ℕ) × (answer_in entry.asked entry.side entry.answer entry.missed ≡ Some (answers.Ok count))) ⊎ (schema_of name (state_at plan more).tables ≡ schema_of name now.tables)
    by None at (inl ok) =
        inl (ok.0, reported_so (requests.Rename pairs) about entry.side entry.answer entry.missed ∙ ap (λ (s : Option Side). answer_in Poll s entry.answer entry.missed) at ∙ ap Some (reported ∙ ap (λ (s : Option Side). Rattle.proof_journals.specs.Turns.answer_at s (inner now entry)) at ∙ ok.1))
    by None at (inr same) = inr (left_more None at same)
    by (Some Before) at renames = inr (left_more (Some Before) at refl)
    by (Some After) at (inl ok) =
        inl (ok.0, reported_so (requests.Rename pairs) about entry.side entry.answer entry.missed ∙ ap (λ (s : Option Side). answer_in Poll s entry.answer entry.missed) at ∙ missed ∙ ap (λ (s : Option Side). missed_at s (inner now entry)) at ∙ ap Some ok.1)
    by (Some After) at (inr same) = inr (left_more (Some After) at same)

  -- *The tables that are listed* have each that stands
  pub lists_found : (name : List ℕ) (schema : Schema) (tables : List TableName) → entry.asked ≡ Call requests.ShowTables → (serves open_now entry.session entry.asked).answer ≡ answers.Tables tables → schema_of name now.tables ≡ Some schema → has_name name tables ≡ true
  lists_found name schema tables asks given is =
      let one : tables ≡ tables_shown open_now.tables = called_lists open_now entry.session tables (ap (λ (a : Asked). (serves open_now entry.session a).answer) (sym asks) ∙ given) in
      ap (has_name name) one ∙ shown_found name open_now.tables schema (ap (schema_of name) opened_tables ∙ is)
