-- Until the RENAME is done the tool's turns keep away from the clients' tables.
use Rattle.std.proofs.Common.{◌≡◌, ℕ, Bool, true, false, cond, not, ◌||◌, List, [], ◌∷◌, ◌++◌, map, filter, Option, Some, None, refl, sym, ap, ◌∙◌, subst, inr, append_assoc, append-nil}
use Rattle.base_values.specs.declared.gho_schema.schema.Schema.{Schema}
use Rattle.std.specs.List.{AllByRecursion, list_any}
use Rattle.std.specs.Str.{bytes_eq}
use Rattle.std.proofs.lemmas.Bool.{true≢false, or_left, or_parts, or_right}
use Rattle.table_store.specs.Databases.{Database}
use Rattle.table_store.specs.declared.renames.Pair.{Pair}
use Rattle.base_values.specs.SchemaRules.Valid.{IsValid}
use Rattle.base_script.specs.declared.actor.Actor.{Actor}
use Rattle.base_script.specs.declared.actor.Actor.TheVariants.{Op, Insp, Copy, Apply, Lock, Ren, Client}
use Rattle.server_model.specs.Along.{Along-keeps}
use Rattle.server_model.specs.Answers.{ok}
use Rattle.server_model.specs.Conditions.{IsWellFormed}
use Rattle.server_model.specs.declared.answer.Answer.{Answer}
use Rattle.server_model.specs.declared.entry.Asked.{Asked}
use Rattle.server_model.specs.declared.entry.Asked.TheVariants.{Call, Poll, Command, Cut}
use Rattle.server_model.specs.declared.entry.Entry.{Entry}
use Rattle.server_model.specs.declared.request.Request.{Request}
use Rattle.server_model.specs.declared.request.Request.TheVariants as requests
use Rattle.server_model.specs.Entries.{is_client, is_command}
use Rattle.server_model.specs.Operations.{table_of}
use Rattle.server_model.specs.States.{State, session_of, is_in_transaction}
use Rattle.plan_data.specs.PlanData.{PlanData}
use Rattle.base_values.specs.ToolNames.{ghost_name, log_name, old_name, is_tool_name}
use Rattle.tool_program.specs.JournalWords.Histories as histories
use Rattle.tool_program.specs.JournalWords.Histories.{Alter, adds, alters, entry_adds, is_alter, request_waiting, takes_away, answer_in}
use Rattle.tool_program.specs.JournalWords.Journals.{state_at, IsFaithful}
use Rattle.tool_program.specs.Programs.{given, IsGiven, Follows}
use Rattle.tool_program.specs.Tools.{is_reverting, moment}
use Rattle.proof_journals.specs.Plans.{AsksAway, AsksIdle, IsAway, IsSerialPlan, KeepsAway, client_names, client_tables, scene_of, script_names}
use Rattle.proof_journals.specs.Turns.{AtRest, RenamesSo, ToolAsks}
use Rattle.proof_journals.proofs.Actors.{Placed, Commands, GoesOn, Begins, placed}
use Rattle.proof_journals.proofs.Naming.{migrated_no_tool}
use Rattle.proof_journals.proofs.ValidTables.{valid_table}
use Rattle.proof_journals.proofs.Faces.{busy_face}
use Rattle.server_model.proofs.LockedRows.Tests.{are_same, same_bytes}
use Rattle.proof_journals.specs.Machine.FormedPlans.{IsFitting}
use Rattle.proof_journals.specs.Machine.Laws.{has_keys}
use Rattle.proof_journals.specs.Machine.Runnable.{IsRunnable}
use Rattle.proof_journals.specs.Machine.Standings.{standing_in, standing_of}
use Rattle.proof_journals.proofs.Machine.Calling.{none_asked}
use Rattle.proof_journals.proofs.Machine.Journals.{IsRun, all_runs}
use Rattle.proof_journals.proofs.Machine.Making.{given_formed}
use Rattle.proof_journals.proofs.Machine.Marks.{IsMarking, history_more, marking_begins, marking_more}
use Rattle.proof_journals.proofs.Machine.Polling.{AllWaits, given_idle, waits_begin, waits_more}
use Rattle.proof_journals.proofs.Machine.Schemas.{is_quiet}
use Rattle.proof_journals.proofs.Machine.Seated.{IsServed, own_waiting}
use Rattle.proof_journals.proofs.Machine.Staying.{defines_out, rest_if}
use Rattle.proof_journals.proofs.Machine.Tabling.{QuietAt, given_quiet, may_define}
use Rattle.proof_migration.specs.ToolPhase.Unaltered.{IsUnaltered}
use Rattle.proof_migration.proofs.ToolPhase.Unaltered.Asking.{AskedAs, ToolCall, exchange_takes, given_asked}

-- WHAT HOLDS BEHIND EVERY JOURNAL

-- machines and sessions go together, and each request that waits is one that its actor asks
pub record IsKnownAsked (plan : PlanData) (journal : List Entry) : Type 0 where
  pub marking : IsMarking plan journal
  pub asks : AllWaits (AskedAs plan) plan journal

pub asked_more : (plan : PlanData) (journal : List Entry) (entry : Entry) → IsRun plan journal entry → IsKnownAsked plan journal → IsKnownAsked plan (journal ++ entry ∷ [])
asked_more plan journal entry run is = record {
  marking = marking_more plan journal entry run is.marking;
  asks = waits_more (AskedAs plan) plan journal entry is.marking.tabled.all is.asks run (λ request asks gives. given_asked plan journal entry.actor request gives);
}

pub asked_begins : (plan : PlanData) → IsRunnable plan → IsKnownAsked plan []
asked_begins plan runs = record { marking = marking_begins plan runs.fitting runs.stands; asks = waits_begin (AskedAs plan) plan }

pub all_asked : (plan : PlanData) (journal : List Entry) → IsRunnable plan → IsFaithful plan journal → Follows plan journal → IsKnownAsked plan journal
unfolding Follows
all_asked plan journal runs faithful follows = Along-keeps (IsRun plan) (IsKnownAsked plan) (asked_more plan) [] journal (all_runs plan [] journal faithful follows) (asked_begins plan runs)

-- CLIENTS' NAMES

none_found : (P : List ℕ → Bool) (names : List (List ℕ)) (name : List ℕ) → AllByRecursion (λ one. P one ≡ false) names → P name ≡ true → list_any (bytes_eq name) names ≡ false
none_found P [] name all is = refl
none_found P (first ∷ names) name all is = at (bytes_eq name first) refl (none_found P names name all.1 is) where
  at : (b : Bool) → bytes_eq name first ≡ b → list_any (bytes_eq name) names ≡ false → (b || list_any (bytes_eq name) names) ≡ false
  at true same rest = absurd (true≢false (sym is ∙ ap P (are_same name first same) ∙ all.0))
  at false differ rest = rest

filtered : (P : List ℕ → Type 0) (test : List ℕ → Bool) (names : List (List ℕ)) → AllByRecursion P names → AllByRecursion P (filter test names)
filtered P test [] all = tt
filtered P test (first ∷ names) all = at (test first) (filtered P test names all.1) where
  at : (b : Bool) → AllByRecursion P (filter test names) → AllByRecursion P (cond b (first ∷ filter test names) (filter test names))
  at true rest = (all.0, rest)
  at false rest = rest

joined_all : (P : List ℕ → Type 0) (some others : List (List ℕ)) → AllByRecursion P some → AllByRecursion P others → AllByRecursion P (some ++ others)
joined_all P [] others one two = two
joined_all P (first ∷ some) others one two = (one.0, joined_all P some others one.1 two)

own_tables : (table : List ℕ) (tables : Database) → AllByRecursion (λ name. is_tool_name table name ≡ false) (map (λ t. t.schema.name) (filter (λ t. not (is_tool_name table t.schema.name)) tables))
own_tables table [] = tt
own_tables table (first ∷ tables) = at (is_tool_name table first.schema.name) refl (own_tables table tables) where
  Own : Database → Type 0
  Own some = AllByRecursion (λ name. is_tool_name table name ≡ false) (map (λ t. t.schema.name) some)

  at : (b : Bool) → is_tool_name table first.schema.name ≡ b → Own (filter (λ t. not (is_tool_name table t.schema.name)) tables) → AllByRecursion (λ name. is_tool_name table name ≡ false) (map (λ t. t.schema.name) (cond (not b) (first ∷ filter (λ t. not (is_tool_name table t.schema.name)) tables) (filter (λ t. not (is_tool_name table t.schema.name)) tables)))
  at true tool rest = rest
  at false client rest = (client, rest)

clients_untool : (plan : PlanData) → IsSerialPlan plan → AllByRecursion (λ name. is_tool_name plan.table name ≡ false) (client_names plan)
unfolding client_names client_tables
clients_untool plan serial =
    joined_all (λ name. is_tool_name plan.table name ≡ false) (client_tables plan) (filter (λ name. not (list_any (bytes_eq name) (client_tables plan))) (plan.table ∷ script_names plan)) (own_tables plan.table plan.tables)
    (filtered (λ name. is_tool_name plan.table name ≡ false) (λ name. not (list_any (bytes_eq name) (client_tables plan))) (plan.table ∷ script_names plan) (migrated_no_tool plan.table, serial.scripts))

-- a name of the tool's is no client table's
pub tool_not_mine : (plan : PlanData) (name : List ℕ) → IsSerialPlan plan → is_tool_name plan.table name ≡ true → list_any (bytes_eq name) (client_names plan) ≡ false
tool_not_mine plan name serial tool = none_found (is_tool_name plan.table) (client_names plan) name (clients_untool plan serial) tool

pub ghost_is_tool : (table : List ℕ) → is_tool_name table (ghost_name table) ≡ true
ghost_is_tool table =
    let name : List ℕ = ghost_name table in
    or_left (bytes_eq name name || bytes_eq name (log_name table)) (bytes_eq name (old_name table)) (or_left (bytes_eq name name) (bytes_eq name (log_name table)) (same_bytes name))

pub log_is_tool : (table : List ℕ) → is_tool_name table (log_name table) ≡ true
log_is_tool table =
    let name : List ℕ = log_name table in
    or_left (bytes_eq name (ghost_name table) || bytes_eq name name) (bytes_eq name (old_name table)) (or_right (bytes_eq name (ghost_name table)) (bytes_eq name name) (same_bytes name))

-- WHAT IS CALLED

module _ (plan : PlanData) (serial : IsSerialPlan plan) where
  other_of : (name own : List ℕ) → name ≡ own → is_tool_name plan.table own ≡ true → list_any (bytes_eq name) (client_names plan) ≡ false
  other_of name own is tool = tool_not_mine plan name serial (ap (is_tool_name plan.table) is ∙ tool)

  tool_may : (request : Request) (actor : Actor) → ToolCall plan request actor → ((schema : Schema) → request ≡ requests.Create schema → IsValid schema) → ToolAsks (scene_of plan []) request
  tool_may (requests.Do statement) Insp asks made = other_of (table_of statement) (log_name plan.table) asks (log_is_tool plan.table)
  tool_may (requests.Do statement) Apply asks made = other_of (table_of statement) (ghost_name plan.table) asks (ghost_is_tool plan.table)
  tool_may (requests.Do statement) Op asks made = absurd asks
  tool_may (requests.Do statement) Copy asks made = absurd asks
  tool_may (requests.Do statement) Lock asks made = absurd asks
  tool_may (requests.Do statement) Ren asks made = absurd asks
  tool_may (requests.Do statement) (Client c) asks made = absurd asks
  tool_may (requests.CopyRow from into map key) Copy asks made = other_of into (ghost_name plan.table) asks (ghost_is_tool plan.table)
  tool_may (requests.CopyRow from into map key) Op asks made = absurd asks
  tool_may (requests.CopyRow from into map key) Insp asks made = absurd asks
  tool_may (requests.CopyRow from into map key) Apply asks made = absurd asks
  tool_may (requests.CopyRow from into map key) Lock asks made = absurd asks
  tool_may (requests.CopyRow from into map key) Ren asks made = absurd asks
  tool_may (requests.CopyRow from into map key) (Client c) asks made = absurd asks
  tool_may (requests.Create schema) actor asks made = (tool_not_mine plan schema.name serial asks, valid_table schema (made schema refl))
  tool_may (requests.Drop name) actor asks made = tool_not_mine plan name serial asks
  tool_may (requests.Rename pairs) actor asks made = inr (refl, exchange_takes plan.table pairs asks.1)
  tool_may request actor asks made = tt

pub as_tool : (plan : PlanData) (actor : Actor) (request : Request) → is_client actor ≡ false → AskedAs plan actor request → ToolCall plan request actor
as_tool plan (Client c) request tool asks = absurd (true≢false tool)
as_tool plan Op request tool asks = absurd asks
as_tool plan Insp request tool asks = asks
as_tool plan Copy request tool asks = asks
as_tool plan Apply request tool asks = asks
as_tool plan Lock request tool asks = asks
as_tool plan Ren request tool asks = asks

-- UNALTERED

-- a journal in whose history the ALTER isn't has none in front
pub unaltered_front : (plan : PlanData) (front rest : List Entry) → IsUnaltered plan (front ++ rest) → IsUnaltered plan front
unaltered_front plan front [] off = subst (IsUnaltered plan) (append-nil front) off
unaltered_front plan front (entry ∷ rest) off =
    let more : IsUnaltered plan (front ++ entry ∷ []) = unaltered_front plan (front ++ entry ∷ []) rest (subst (IsUnaltered plan) (sym (append_assoc front (entry ∷ []) rest)) off) in
    (or_parts (list_any is_alter (histories.history plan front)) (list_any is_alter (entry_adds plan front entry)) (sym (history_more plan front entry) ∙ more)).0

pub unaltered_entry : (plan : PlanData) (front : List Entry) (entry : Entry) → IsUnaltered plan (front ++ entry ∷ []) → list_any is_alter (entry_adds plan front entry) ≡ false
unaltered_entry plan front entry off = (or_parts (list_any is_alter (histories.history plan front)) (list_any is_alter (entry_adds plan front entry)) (sym (history_more plan front entry) ∙ off)).1

-- ONE TURN OF THE TOOL'S

module _ (plan : PlanData) (serial : IsSerialPlan plan) (journal : List Entry) (entry : Entry) (fit : IsFitting plan) (is : IsKnownAsked plan journal) (run : IsRun plan journal entry) (tool : is_client entry.actor ≡ false) where
  abbrev now : State
  now = state_at plan journal

  served : IsServed plan journal entry
  served = record { answered = run.answered; seated = record { session = run.followed.session } }

  valid_made : (request : Request) → given plan journal entry.actor ≡ Some (Call request) → (schema : Schema) → request ≡ requests.Create schema → IsValid schema
  valid_made request gives schema same =
      (subst (IsWellFormed now.tables) same (given_formed plan journal now.tables fit entry.actor request (λ one has. absurd (true≢false (sym has ∙ ap has_keys same))) gives)).valid

  asks_away : (asked : Asked) → IsGiven plan journal entry asked → AsksAway plan asked
  asks_away (Call request) gives = tool_may plan serial request entry.actor (as_tool plan entry.actor request tool (given_asked plan journal entry.actor request gives)) (valid_made request gives)
  asks_away Poll gives = tt
  asks_away Cut gives = tt
  asks_away (Command word) gives = tt

  asks_idle : (asked : Asked) → entry.asked ≡ asked → IsGiven plan journal entry asked → AsksIdle now entry.session asked
  asks_idle (Call request) asks gives =
      none_asked entry.session now.waiting (own_waiting plan journal entry is.marking.tabled.all.tool.known served (ap is_command asks) ∙ given_idle plan journal entry.actor request is.marking.tabled.all gives)
  asks_idle Poll asks gives = tt
  asks_idle Cut asks gives = tt
  asks_idle (Command word) asks gives = tt

  -- its session is in a transaction where its actor is
  busy_is : is_command entry.asked ≡ false → is_in_transaction (session_of entry.session now.sessions) ≡ (standing_of plan journal entry.actor).busy
  busy_is called = by (placed journal entry served.seated) where
    by : Placed journal entry → is_in_transaction (session_of entry.session now.sessions) ≡ (standing_of plan journal entry.actor).busy
    by (Commands command zero) = absurd (true≢false (sym command ∙ called))
    by (GoesOn calls live) = busy_face (session_of entry.session now.sessions) ∙ ap (λ (o : Option ℕ). (standing_in now o).busy) (sym live)
    by (Begins calls uncut live above) = ap is_in_transaction (is.marking.tabled.all.tool.known.fresh entry.session above) ∙ ap (λ (o : Option ℕ). (standing_in now o).busy) (sym live)

  rests_with : is_command entry.asked ≡ false → (request : Request) → QuietAt entry.actor request → AtRest (is_in_transaction (session_of entry.session now.sessions)) (Some request)
  rests_with called request quiet = rest_if (is_in_transaction (session_of entry.session now.sessions)) request (λ loud. busy_is called ∙ by loud (may_define entry.actor) refl) where
    by : is_quiet request ≡ false → (b : Bool) → may_define entry.actor ≡ b → (standing_of plan journal entry.actor).busy ≡ false
    by loud true may = defines_out plan journal (is_reverting (moment plan journal).tool.reason) (moment plan journal).tool.tool_phase entry.actor is.marking.tabled.all.tool.stands may
    by loud false may = absurd (true≢false (sym (quiet may) ∙ loud))

  rests_waiting : is_command entry.asked ≡ false → (asks : Option Request) → request_waiting journal entry.actor ≡ asks → AtRest (is_in_transaction (session_of entry.session now.sessions)) asks
  rests_waiting called None none = tt
  rests_waiting called (Some request) some = rests_with called request (is.marking.tabled.quiet entry.actor request (sym (is.marking.agree entry.actor) ∙ some))

  rests_at : (asked : Asked) → entry.asked ≡ asked → IsGiven plan journal entry asked → AtRest (is_in_transaction (session_of entry.session now.sessions)) (histories.asked_about asked (request_waiting journal entry.actor))
  rests_at (Call request) asks gives = rests_with (ap is_command asks) request (given_quiet plan journal entry.actor request is.marking.tabled.all gives)
  rests_at Poll asks gives = rests_waiting (ap is_command asks) (request_waiting journal entry.actor) refl
  rests_at Cut asks gives = rests_waiting (ap is_command asks) (request_waiting journal entry.actor) refl
  rests_at (Command word) asks gives = tt

  -- where the RENAME, if it is done, exchanges the table
  abbrev pub Exchanges : Type 0
  Exchanges = answer_in entry.asked entry.side entry.answer entry.missed ≡ Some ok → RenamesSo (scene_of plan []) now.tables (histories.about journal entry)

  tool_away : Exchanges → IsAway plan journal entry
  tool_away exchanges = record {
    asks = asks_away entry.asked run.followed.given;
    idle = asks_idle entry.asked refl run.followed.given;
    rests = rests_at entry.asked refl run.followed.given;
    exchanges = exchanges;
  }

  -- a RENAME of the migrated table that was done is an ALTER
  pub tool_adds : (actor : Actor) → is_client actor ≡ false → adds plan journal entry actor ≡ alters plan (histories.about journal entry) (answer_in entry.asked entry.side entry.answer entry.missed)
  tool_adds Op is = refl
  tool_adds Insp is = refl
  tool_adds Copy is = refl
  tool_adds Apply is = refl
  tool_adds Lock is = refl
  tool_adds Ren is = refl
  tool_adds (Client c) is = absurd (true≢false is)

  -- what the turn is about is what its actor asks
  pub about_asked : (request : Request) → histories.about journal entry ≡ Some request → ToolCall plan request entry.actor
  about_asked request asked_so = as_tool plan entry.actor request tool (by entry.asked refl run.followed.given asked_so) where
    by : (asked : Asked) → entry.asked ≡ asked → IsGiven plan journal entry asked → histories.asked_about asked (request_waiting journal entry.actor) ≡ Some request → AskedAs plan entry.actor request
    by (Call called) asks gives same = let one : called ≡ request = cc in subst (AskedAs plan entry.actor) one (given_asked plan journal entry.actor called gives)
    by Poll asks gives same = is.asks entry.actor request (sym (is.marking.agree entry.actor) ∙ same)
    by Cut asks gives same = is.asks entry.actor request (sym (is.marking.agree entry.actor) ∙ same)
    by (Command word) asks gives same = absurd cc

pub keeps_away_so : (plan : PlanData) (serial : IsSerialPlan plan) (journal : List Entry) (entry : Entry) (fit : IsFitting plan) (is : IsKnownAsked plan journal) (run : IsRun plan journal entry) → ((tool : is_client entry.actor ≡ false) → Exchanges plan serial journal entry fit is run tool) → KeepsAway plan journal entry entry.actor
keeps_away_so plan serial journal entry fit is run so = by entry.actor refl where
  by : (actor : Actor) → entry.actor ≡ actor → KeepsAway plan journal entry actor
  by (Client c) same = tt
  by Op same = tool_away plan serial journal entry fit is run (ap is_client same) (so (ap is_client same))
  by Insp same = tool_away plan serial journal entry fit is run (ap is_client same) (so (ap is_client same))
  by Copy same = tool_away plan serial journal entry fit is run (ap is_client same) (so (ap is_client same))
  by Apply same = tool_away plan serial journal entry fit is run (ap is_client same) (so (ap is_client same))
  by Lock same = tool_away plan serial journal entry fit is run (ap is_client same) (so (ap is_client same))
  by Ren same = tool_away plan serial journal entry fit is run (ap is_client same) (so (ap is_client same))

-- UNTIL THE RENAME IS DONE

module _ (plan : PlanData) (serial : IsSerialPlan plan) (journal : List Entry) (entry : Entry) (fit : IsFitting plan) (is : IsKnownAsked plan journal) (run : IsRun plan journal entry) (off : IsUnaltered plan (journal ++ entry ∷ [])) (tool : is_client entry.actor ≡ false) where
  pub never_away : (pairs : List Pair) → histories.about journal entry ≡ Some (requests.Rename pairs) → answer_in entry.asked entry.side entry.answer entry.missed ≡ Some ok → takes_away plan.table pairs ≡ true → ⊥
  never_away pairs about reported takes =
      true≢false (sym alters_here ∙ ap (list_any is_alter) (sym (tool_adds plan serial journal entry fit is run tool entry.actor tool)) ∙ unaltered_entry plan journal entry off) where
        alters_here : list_any is_alter (alters plan (histories.about journal entry) (answer_in entry.asked entry.side entry.answer entry.missed)) ≡ true
        alters_here =
            ap (λ (r : Option Request). list_any is_alter (alters plan r (answer_in entry.asked entry.side entry.answer entry.missed))) about
            ∙ ap (λ (t : Option Answer). list_any is_alter (alters plan (Some (requests.Rename pairs)) t)) reported ∙ ap (λ (b : Bool). list_any is_alter (cond b (Alter ∷ []) [])) takes

  renames_so : (asks : Option Request) → histories.about journal entry ≡ asks → answer_in entry.asked entry.side entry.answer entry.missed ≡ Some ok → RenamesSo (scene_of plan []) (state_at plan journal).tables asks
  renames_so None about reported = tt
  renames_so (Some (requests.Rename pairs)) about reported = λ may takes after renamed. absurd (never_away pairs about reported takes)
  renames_so (Some request) about reported = tt

pub keeps_away : (plan : PlanData) → IsSerialPlan plan → (journal : List Entry) (entry : Entry) → IsFitting plan → IsKnownAsked plan journal → IsRun plan journal entry → IsUnaltered plan (journal ++ entry ∷ []) → KeepsAway plan journal entry entry.actor
keeps_away plan serial journal entry fit is run off = keeps_away_so plan serial journal entry fit is run (λ tool. renames_so plan serial journal entry fit is run off tool (histories.about journal entry) refl)
