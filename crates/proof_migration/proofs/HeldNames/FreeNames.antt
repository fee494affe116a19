-- Which names are free for an actor, and what its calls are answered then.
use Rattle.std.proofs.Common.{◌≡◌, ℕ, Bool, true, false, not, List, [], ◌∷◌, Option, Some, None, refl, sym, ap, ◌∙◌, subst}
use Rattle.std.specs.Prelude.{◌==◌, is_some}
use Rattle.std.specs.List.{AllByRecursion}
use Rattle.std.specs.Option.{option_map}
use Rattle.std.specs.Str.{bytes_eq}
use Rattle.std.proofs.lemmas.Bool.{true≢false, or_from}
use Rattle.std.proofs.lemmas.Option.{none-some, same_Some}
use Rattle.base_script.specs.declared.actor.Actor.{Actor}
use Rattle.base_values.specs.declared.gho_schema.schema.Schema.{Schema}
use Rattle.base_values.specs.declared.value.Value.{Value}
use Rattle.base_values.specs.GhoSchema.Rows.{key_places}
use Rattle.base_values.proofs.SchemaRules.Lists.{All-weaker}
use Rattle.server_locks.specs.declared.row_locks.lock.Lock.{Lock as RowLock}
use Rattle.server_locks.specs.MetadataLocks.Grants.{has_name, blocker_of_names}
use Rattle.server_locks.specs.RowLocks.Grants.{blocker_of_set}
use Rattle.table_store.specs.Databases.{TableRows, find_table, has_table}
use Rattle.server_model.specs.declared.answer.Answer.{Answer}
use Rattle.server_model.specs.declared.answer.Answer.TheVariants as answers
use Rattle.server_model.specs.declared.answer.KeyRange.{KeyRange}
use Rattle.server_model.specs.declared.entry.Asked.{Asked}
use Rattle.server_model.specs.declared.entry.Asked.TheVariants.{Call}
use Rattle.server_model.specs.declared.entry.Entry.{Entry}
use Rattle.server_model.specs.declared.request.Request.{Request}
use Rattle.server_model.specs.declared.request.Request.TheVariants as requests
use Rattle.server_model.specs.declared.session.HeldName.{HeldName}
use Rattle.server_model.specs.declared.session.Session.{Session}
use Rattle.server_model.specs.declared.session.Waiting.{Waiting}
use Rattle.server_model.specs.Answers.{ok}
use Rattle.server_model.specs.Blockers.{need, blocker}
use Rattle.server_model.specs.Chunks.{keys_of, ends_of}
use Rattle.server_model.specs.Effects.{created, defined, dropped, effect_unless, is_outside, of_table}
use Rattle.server_model.specs.Entries.{same_actor, is_client, is_command}
use Rattle.server_model.specs.PlainServer.{does, done, did, called_unless, calls, serves}
use Rattle.server_model.specs.States.{State, names_held, waiters, session_of, waiting_of, names_in, is_in_transaction, view}
use Rattle.plan_data.specs.PlanData.{PlanData}
use Rattle.tool_program.specs.JournalWords.Journals.{opens, state_at}
use Rattle.tool_program.specs.JournalWords.Sessions.{live_session}
use Rattle.server_model.proofs.LockedRows.Tests.{same_number, are_same}
use Rattle.proof_journals.specs.Holdings.{face_in, face_of}
use Rattle.proof_journals.specs.Machine.MigrationTables.{schema_of}
use Rattle.proof_journals.specs.Machine.Runnable.{IsRunnable}
use Rattle.proof_journals.specs.Machine.Standings.{Standing, free, standing, standing_in, standing_of}
use Rattle.proof_journals.specs.Run.Kept.{IsKept}
use Rattle.proof_journals.specs.Scenes.{SessionHold, Stored, no_hold}
use Rattle.proof_journals.specs.Turns.{request_of}
use Rattle.proof_journals.proofs.Actors.{same_actor_is, Placed, Commands, GoesOn, Begins, placed}
use Rattle.proof_journals.proofs.Journals.{opened_waits, stored_opened}
use Rattle.proof_journals.proofs.Machine.Journals.{IsRun}
use Rattle.proof_journals.proofs.Machine.Seated.{IsKnown, IsServed, IsOpen, is_open, own_given, opened_there}
use Rattle.proof_journals.proofs.Run.Waits.{all_waits}
use Rattle.proof_journals.proofs.Sentry.Holding.{both_none}
use Rattle.proof_journals.proofs.Waiting.{IsDone, done_answers, none_waits}
use Rattle.proof_migration.specs.ToolPhase.Laws.{IsOwned}
use Rattle.proof_migration.proofs.Program.LockerTurns.Apart.{opened_apart}
use Rattle.proof_migration.proofs.ToolPhase.Chunks.Sparing.{IsSpared, opened_spared, shared_free}
use Rattle.proof_migration.proofs.ToolPhase.CopyAnswers.{not_outside}
use Rattle.proof_migration.proofs.ToolPhase.Owners.{AllOwned, together_owned}
use Rattle.proof_migration.proofs.HeldNames.Holders.{forbids, MayName, IsHeldWell}
use Rattle.proof_migration.proofs.HeldNames.SessionNames.{WithinIn, AllNames}
use Rattle.proof_migration.proofs.HeldNames.Unblocked.{Off, WaitsOff, WaitsApart, IsFreeName, unblocked}
use Rattle.proof_migration.proofs.Program.LockerTurns.Entries.{no_names}

-- WHAT IS DONE

drop_done : (state : State) (number : ℕ) (name : List ℕ) → is_outside (session_of number state.sessions) (requests.Drop name) ≡ false → has_table name state.tables ≡ true → (done state number (requests.Drop name)).answer ≡ ok
unfolding did
drop_done state number name inside there =
    ap (λ (b : Bool). (does (effect_unless b (is_in_transaction (session_of number state.sessions)) (view number state) state (requests.Drop name)) state number).answer) inside
    ∙ ap (λ (b : Bool). (does (defined (dropped b name state.tables)) state number).answer) there

create_done : (state : State) (number : ℕ) (schema : Schema) → is_outside (session_of number state.sessions) (requests.Create schema) ≡ false → has_table schema.name state.tables ≡ false → (done state number (requests.Create schema)).answer ≡ ok
unfolding did
create_done state number schema inside none =
    ap (λ (b : Bool). (does (effect_unless b (is_in_transaction (session_of number state.sessions)) (view number state) state (requests.Create schema)) state number).answer) inside
    ∙ ap (λ (b : Bool). (does (defined (created b schema state.tables)) state number).answer) none

ends_is : (keys : List (List Value)) → (range : Option KeyRange) × (ends_of keys ≡ answers.Ends range)
ends_is [] = (_, refl)
ends_is (key ∷ keys) = (_, refl)

ends_done : (state : State) (number : ℕ) (name : List ℕ) (schema : Schema) → is_outside (session_of number state.sessions) (requests.Ends name) ≡ false → schema_of name state.tables ≡ Some schema → (range : Option KeyRange) × ((done state number (requests.Ends name)).answer ≡ answers.Ends range)
unfolding did
ends_done state number name schema inside there = by (find_table name state.tables) refl there where
  answer : Option TableRows → Answer
  answer found = of_table found (λ t. ends_of (keys_of (key_places t.schema) t.rows))

  first : (does (effect_unless (is_outside (session_of number state.sessions) (requests.Ends name)) (is_in_transaction (session_of number state.sessions)) (view number state) state (requests.Ends name)) state number).answer ≡ answer (find_table name state.tables)
  first = ap (λ (b : Bool). (does (effect_unless b (is_in_transaction (session_of number state.sessions)) (view number state) state (requests.Ends name)) state number).answer) inside

  by : (found : Option TableRows) → find_table name state.tables ≡ found → option_map (λ (t : TableRows). t.schema) found ≡ Some schema
      → (range : Option KeyRange) × ((does (effect_unless (is_outside (session_of number state.sessions) (requests.Ends name)) (is_in_transaction (session_of number state.sessions)) (view number state) state (requests.Ends name)) state number).answer ≡ answers.Ends range)
  by None none there = absurd cc
  by (Some t) some there = let one = ends_is (keys_of (key_places t.schema) t.rows) in (one.0, first ∙ ap answer some ∙ one.1)

module _ (plan : PlanData) (journal : List Entry) (is : IsHeldWell plan journal) where
  abbrev now : State
  now = state_at plan journal

  -- the actor's session neither holds the name nor waits for it
  pub record IsAway (a : Actor) (name : List ℕ) : Type 0 where
    pub held : (n : ℕ) → live_session journal a ≡ Some n → WithinIn (Off name) (session_of n now.sessions)
    pub waits : (request : Request) → (standing_of plan journal a).waits ≡ Some request → has_name (names_in request) name ≡ false

  off_one : (a : Actor) (name : List ℕ) → forbids plan a name ≡ true → (other : List ℕ) → MayName plan a other → Off name other
  off_one a name forbidden other may = by (bytes_eq other name) refl where
    by : (b : Bool) → bytes_eq other name ≡ b → b ≡ false
    by false off = refl
    by true same = absurd (true≢false (sym forbidden ∙ ap (forbids plan a) (sym (are_same other name same)) ∙ may))

  off_names : (a : Actor) (name : List ℕ) → forbids plan a name ≡ true → (names : List (List ℕ)) → AllNames (MayName plan a) names → has_name names name ≡ false
  off_names a name forbidden [] all = refl
  off_names a name forbidden (first ∷ names) all = or_from (bytes_eq first name) (has_name names name) (off_one a name forbidden first all.0) (off_names a name forbidden names all.1)

  -- one that may not
  pub away_forbidden : (a : Actor) (name : List ℕ) → forbids plan a name ≡ true → IsAway a name
  away_forbidden a name forbidden = record {
    held = λ n lives. by (session_of n now.sessions) (is.held a n lives);
    waits = λ request some. off_names a name forbidden (names_in request) (is.waits a request some);
  } where
    by : (o : Option Session) → WithinIn (MayName plan a) o → WithinIn (Off name) o
    by None within = tt
    by (Some s) within = record {
      names = All-weaker (λ (one : HeldName). MayName plan a one.name) (λ (one : HeldName). Off name one.name) (λ one may. off_one a name forbidden one.name may) s.names within.names;
      locks = All-weaker (λ (one : RowLock). MayName plan a one.table) (λ (one : RowLock). Off name one.table) (λ one may. off_one a name forbidden one.table may) s.row_locks within.locks;
    }

  -- one whose session has nothing
  pub away_free : (a : Actor) (name : List ℕ) → standing_of plan journal a ≡ free → IsAway a name
  away_free a name none = record { held = λ n lives. by n lives (session_of n now.sessions) refl; waits = λ request some. absurd (none-some request (sym (ap (λ (s : Standing). s.waits) none) ∙ some)) } where
    by : (n : ℕ) → live_session journal a ≡ Some n → (o : Option Session) → session_of n now.sessions ≡ o → WithinIn (Off name) o
    by n lives None gone = tt
    by n lives (Some s) there =
        let stands : standing (face_in (Some s)) (request_of (waiting_of n now.waiting)) ≡ free = sym (ap (standing_in now) lives ∙ ap (λ (o : Option Session). standing (face_in o) (request_of (waiting_of n now.waiting))) there) ∙ none in
        let busy : (face_of now.sessions n).busy ≡ false = ap (λ (o : Option Session). (face_in o).busy) there ∙ ap (λ (s : Standing). s.busy) stands in
        let hold : (face_in (Some s)).hold ≡ no_hold = ap (λ (o : Option Session). (face_in o).hold) (sym there) ∙ (is.serving.own n).rests busy in
        let names : s.names ≡ [] = no_names s.names (ap (λ (h : SessionHold). h.names) hold) (ap (λ (s : Standing). s.locked) stands) in
        record {
          names = subst (λ (held : List HeldName). AllByRecursion (λ (one : HeldName). Off name one.name) held) (sym names) tt;
          locks = subst (λ (locks : List RowLock). AllByRecursion (λ (one : RowLock). Off name one.table) locks) (sym (ap (λ (h : SessionHold). h.locks) hold)) tt;
        }

module _ (plan : PlanData) (runs : IsRunnable plan) (journal : List Entry) (entry : Entry) (kept : IsKept plan journal) (run : IsRun plan journal entry) (is : IsHeldWell plan journal) (own : Actor) (same : entry.actor ≡ own) where
  abbrev before : State
  before = state_at plan journal

  abbrev open_now : State
  open_now = opens entry before

  known : IsKnown plan journal
  known = is.asked.marking.tabled.all.tool.known

  served : IsServed plan journal entry
  served = record { answered = run.answered; seated = record { session = run.followed.session } }

  owned : AllOwned plan journal
  owned = (together_owned plan journal kept.faithful kept.follows).owned

  -- its session is this actor's
  module _ (called : is_command entry.asked ≡ false) where
    own_session : (n : ℕ) → live_session journal own ≡ Some n → (n == entry.session) ≡ true
    own_session n lives = by (placed journal entry served.seated) where
      by : Placed journal entry → (n == entry.session) ≡ true
      by (Commands command zero) = absurd (true≢false (sym command ∙ called))
      by (GoesOn calls live) = ap (λ (m : ℕ). m == entry.session) (same_Some n entry.session (sym lives ∙ ap (live_session journal) (sym same) ∙ live)) ∙ same_number entry.session
      by (Begins calls uncut live above) = absurd (no (sym (ap (live_session journal) (sym same) ∙ live) ∙ lives)) where
        no : None ≡ Some n → ⊥
        no both = cc

    module _ (name : List ℕ) (away : (a : Actor) → same_actor a own ≡ false → IsAway plan journal is a name) where
      owner_away : (n : ℕ) → (n == entry.session) ≡ false → IsOwned journal n → (P : Type 0) → ((a : Actor) → live_session journal a ≡ Some n → IsAway plan journal is a name → P) → P
      owner_away n differ owner P then = by (same_actor owner.actor own) refl where
        by : (b : Bool) → same_actor owner.actor own ≡ b → P
        by true is_own = absurd (true≢false (sym (own_session n (ap (live_session journal) (sym (same_actor_is owner.actor own is_own)) ∙ owner.lives)) ∙ differ))
        by false other = then owner.actor owner.lives (away owner.actor other)

      held_off : (n : ℕ) → (n == entry.session) ≡ false → WithinIn (Off name) (session_of n before.sessions)
      held_off n differ = by (session_of n before.sessions) refl where
        by : (o : Option Session) → session_of n before.sessions ≡ o → WithinIn (Off name) o
        by None gone = tt
        by (Some s) there = owner_away n differ (owned.owner n (ap is_some there)) (WithinIn (Off name) (Some s)) (λ a lives off. subst (WithinIn (Off name)) there (off.held n lives))

      waits_off : (n : ℕ) → (n == entry.session) ≡ false → WaitsOff name (waiting_of n before.waiting)
      waits_off n differ = by (waiting_of n before.waiting) refl (session_of n before.sessions) refl where
        none_known : (one : Waiting) → waiting_of n before.waiting ≡ Some one → session_of n before.sessions ≡ None → ⊥
        none_known one some gone = no (sym (none_waits n before.waiting (all_waits plan journal kept.faithful kept.sessions n (ap (option_map (λ (s : Session). s.is_tool)) gone))) ∙ some) where
          no : None ≡ Some one → ⊥
          no both = cc

        by : (w : Option Waiting) → waiting_of n before.waiting ≡ w → (o : Option Session) → session_of n before.sessions ≡ o → WaitsOff name w
        by None none o there = tt
        by (Some one) some None gone = absurd (none_known one some gone)
        by (Some one) some (Some s) there =
            owner_away n differ (owned.owner n (ap is_some there)) (WaitsOff name (Some one)) (λ a lives off. off.waits one.request (ap (λ (live : Option ℕ). (standing_in before live).waits) lives ∙ ap request_of some))

      pub free_name : IsFreeName open_now entry.session name
      free_name = record {
        held = λ n differ. subst (WithinIn (Off name)) (sym (opened_there (is_command entry.asked) (not (is_client entry.actor)) entry.session n before differ)) (held_off n differ);
        waits = λ n differ. subst (λ (w : List Waiting). WaitsOff name (waiting_of n w)) (sym (opened_waits (is_command entry.asked) (not (is_client entry.actor)) entry.session before)) (waits_off n differ);
      }

    tables_now : open_now.tables ≡ before.tables
    tables_now = ap (λ (s : Stored). s.tables) (stored_opened (is_command entry.asked) (not (is_client entry.actor)) entry.session before)

    -- a call that nobody blocks is answered at once
    module _ (request : Request) (asks : entry.asked ≡ Call request) (no_side : entry.side ≡ None) where
      answered : blocker open_now entry.session (need open_now entry.session request) ≡ None → entry.answer ≡ (done open_now entry.session request).answer
      unfolding calls
      answered none =
          sym (own_given plan journal entry known served no_side) ∙ ap (λ (a : Asked). (serves open_now entry.session a).answer) asks
          ∙ ap (λ (b : Option ℕ). (called_unless b open_now entry.session request).answer) none

      free_blocks : AllByRecursion (IsFreeName open_now entry.session) (names_in request) → blocker open_now entry.session (need open_now entry.session request) ≡ None
      free_blocks all = unblocked open_now entry.session (opened_apart plan journal entry) (subst WaitsApart (sym (opened_waits (is_command entry.asked) (not (is_client entry.actor)) entry.session before)) is.apart) request all

      pub at_once : AllByRecursion (IsFreeName open_now entry.session) (names_in request) → IsDone entry.answer
      at_once all = subst IsDone (sym (answered (free_blocks all))) (done_answers open_now entry.session request)

      inside : (standing_of plan journal entry.actor).locked ≡ [] → is_outside (session_of entry.session open_now.sessions) request ≡ false
      inside unlocked =
          let opened_one : IsOpen plan journal entry known served = is_open plan journal entry known served called in
          not_outside (session_of entry.session open_now.sessions) request (ap (λ (o : Option Session). (face_in o).locked) opened_one.is ∙ ap (λ (s : Standing). s.locked) (sym opened_one.stands) ∙ unlocked)

    -- *DROP*, *CREATE*, and where the rows end
    pub drops_ok : (name : List ℕ) → entry.asked ≡ Call (requests.Drop name) → entry.side ≡ None → (standing_of plan journal entry.actor).locked ≡ [] → IsFreeName open_now entry.session name → has_table name before.tables ≡ true → entry.answer ≡ ok
    drops_ok name asks no_side unlocked free there =
        answered (requests.Drop name) asks no_side (free_blocks (requests.Drop name) asks no_side (free, tt))
        ∙ drop_done open_now entry.session name (inside (requests.Drop name) asks no_side unlocked) (ap (has_table name) tables_now ∙ there)

    pub creates_ok : (schema : Schema) → entry.asked ≡ Call (requests.Create schema) → entry.side ≡ None → (standing_of plan journal entry.actor).locked ≡ [] → IsFreeName open_now entry.session schema.name → has_table schema.name before.tables ≡ false → entry.answer ≡ ok
    creates_ok schema asks no_side unlocked free none =
        answered (requests.Create schema) asks no_side (free_blocks (requests.Create schema) asks no_side (free, tt))
        ∙ create_done open_now entry.session schema (inside (requests.Create schema) asks no_side unlocked) (ap (has_table schema.name) tables_now ∙ none)

    pub ends_ok : (name : List ℕ) (schema : Schema) → entry.asked ≡ Call (requests.Ends name) → entry.side ≡ None → (standing_of plan journal entry.actor).locked ≡ [] → IsSpared name before → schema_of name before.tables ≡ Some schema
        → (range : Option KeyRange) × (entry.answer ≡ answers.Ends range)
    unfolding blocker_of_set
    ends_ok name schema asks no_side unlocked spared there =
        let none : blocker open_now entry.session (need open_now entry.session (requests.Ends name)) ≡ None =
        both_none (blocker_of_names (names_held open_now.sessions) (waiters open_now.waiting) entry.session false (name ∷ [])) None
        (shared_free name open_now entry.session (opened_spared name (is_command entry.asked) (not (is_client entry.actor)) entry.session before spared)) refl in
        let one = ends_done open_now entry.session name schema (inside (requests.Ends name) asks no_side unlocked) (ap (schema_of name) tables_now ∙ there) in
        (one.0, answered (requests.Ends name) asks no_side none ∙ one.1)
