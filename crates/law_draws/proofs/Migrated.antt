-- A turn in which the RENAME of the migrated table isn't done: nothing else makes, drops or renames it, copies into it, or sets its counter.
use Rattle.std.proofs.Common.{◌≡◌, ◌⊎◌, ℕ, ◌+◌, ◌<◌, Bool, true, false, not, ◌||◌, List, [], ◌∷◌, ◌++◌, append-nil, cond, length, Option, Some, None, refl, sym, ap, ◌∙◌, subst, inl, inr, arith}
use Rattle.std.specs.List.{AllByRecursion, list_any}
use Rattle.std.specs.Str.{bytes_eq}
use Rattle.std.proofs.lemmas.Bool.{true≢false, false≢true}
use Rattle.std.proofs.lemmas.List.{length-append}
use Rattle.base_values.specs.declared.gho_schema.schema.Schema.{Schema}
use Rattle.base_values.specs.GhoSchema.AutoIncrement.{auto_place}
use Rattle.base_values.specs.ToolNames.{ghost_name, is_tool_name, log_name}
use Rattle.base_script.specs.declared.actor.Actor.{Actor}
use Rattle.base_script.specs.declared.actor.Actor.TheVariants.{Op, Insp, Copy, Apply, Lock, Ren, Client}
use Rattle.base_script.specs.declared.actor.Side.{Side}
use Rattle.base_script.specs.declared.actor.Side.TheVariants.{Before, After}
use Rattle.table_store.specs.Databases.{Database, find_table}
use Rattle.table_store.specs.declared.renames.Pair.{Pair}
use Rattle.server_model.specs.Along.{Along-keeps, gathered-more}
use Rattle.server_model.specs.declared.answer.Answer.{Answer}
use Rattle.server_model.specs.declared.answer.Answer.TheVariants as answers
use Rattle.server_model.specs.declared.entry.Asked.{Asked}
use Rattle.server_model.specs.declared.entry.Asked.TheVariants.{Call, Poll, Command, Cut}
use Rattle.server_model.specs.declared.entry.Entry.{Entry}
use Rattle.server_model.specs.declared.request.Request.{Request}
use Rattle.server_model.specs.declared.request.Request.TheVariants as requests
use Rattle.server_model.specs.declared.session.Waiting.{Waiting}
use Rattle.server_model.specs.Entries.{is_client, is_command}
use Rattle.server_model.specs.PlainServer as plain
use Rattle.server_model.specs.PlainServer.{asks_for, serves}
use Rattle.server_model.specs.States.{State, next_of, waiting_of}
use Rattle.server_model.proofs.LockedRows.Tests.{are_same, turned_bytes}
use Rattle.plan_data.specs.PlanData.{PlanData}
use Rattle.tool_program.specs.CutoverCore.Attempts.{exchange}
use Rattle.tool_program.specs.JournalWords.Draws.{asked_in, draws_on, drawn_from}
use Rattle.tool_program.specs.JournalWords.Histories as histories
use Rattle.tool_program.specs.JournalWords.Histories.{alters, answer_in, entry_adds, is_alter}
use Rattle.tool_program.specs.JournalWords.Journals.{after_entry, may_lose, opening, opens, state_after, state_at}
use Rattle.tool_program.specs.Online.{is_written, writes_own}
use Rattle.tool_program.specs.Programs.{Follows, IsFollowed, IsGiven, given}
use Rattle.tool_program.proofs.OnlineCalls.Given.{given_calls}
use Rattle.tool_program.proofs.OnlineCalls.Naming.{not_ghost, not_log}
use Rattle.proof_journals.specs.Machine.MigrationTables.{schema_of}
use Rattle.proof_journals.specs.Machine.Runnable.{IsRunnable}
use Rattle.proof_journals.specs.Machine.Standings.{IsAbout, is_called, is_polled, standing_of}
use Rattle.proof_journals.specs.Plans.{IsSerialPlan}
use Rattle.proof_journals.specs.Run.Kept.{IsKept}
use Rattle.proof_journals.specs.Turns.{answer_at, inner, missed_at}
use Rattle.proof_journals.proofs.Joined.{reported_answer, reported_missed}
use Rattle.proof_journals.proofs.Journals.{opened_waits, state_more, opened_tables}
use Rattle.proof_journals.proofs.Machine.Journals.{IsRun, all_runs}
use Rattle.proof_journals.proofs.Naming.{migrated_no_tool}
use Rattle.proof_journals.proofs.Machine.Seated.{own_waiting}
use Rattle.proof_journals.proofs.Rising.{opened_counters}
use Rattle.proof_migration.proofs.Program.Turns.Follows.{kept_front, kept_run}
use Rattle.proof_migration.proofs.ToolPhase.Unaltered.Asking.{AskedAs, ToolCall, exchange_takes, given_asked}
use Rattle.proof_migration.proofs.ToolPhase.Unaltered.Away.{IsKnownAsked, about_asked, all_asked, as_tool, tool_adds}
use Rattle.proof_plans.proofs.Tables.Turns.{TurnAbout, asks_so, rests_so, turn_about}
use Rattle.law_draws.specs.ColumnValues.{RowsBelow}
use Rattle.law_draws.specs.SmallNumbers.{CountsIn}
use Rattle.law_draws.proofs.Numbers.{opened_below}
use Rattle.law_draws.proofs.OtherTables.{Keeps, keeps_more, none_spares, schema_stays}
use Rattle.law_draws.proofs.Renames.{NotOk, Undone, rename_counts, rename_rests}
use Rattle.law_draws.proofs.Sparing.{AllWait, Spares, about_so, client_spares, left_waits}

-- WHAT IS ASKED

-- it is a RENAME
abbrev pub IsRenaming : Option Request → Type 0
IsRenaming (Some (requests.Rename pairs)) = Unit {0}
IsRenaming asks = ⊥

-- it spares the migrated table, or is a RENAME
abbrev pub SparesOrRenames : PlanData → Option Request → Type 0
SparesOrRenames plan asks = Spares plan.table asks ⊎ IsRenaming asks

not_tool : (plan : PlanData) (name : List ℕ) → is_tool_name plan.table name ≡ true → bytes_eq plan.table name ≡ false
not_tool plan name tool = by (bytes_eq plan.table name) refl where
  by : (b : Bool) → bytes_eq plan.table name ≡ b → b ≡ false
  by false off = refl
  by true same = absurd (true≢false (sym tool ∙ ap (is_tool_name plan.table) (sym (are_same plan.table name same)) ∙ migrated_no_tool plan.table))

not_written : (plan : PlanData) (name : List ℕ) → is_written plan name ≡ true → bytes_eq plan.table name ≡ false
not_written plan name written = by (bytes_eq name (ghost_name plan.table)) (bytes_eq name (log_name plan.table)) refl refl written where
  by : (a b : Bool) → bytes_eq name (ghost_name plan.table) ≡ a → bytes_eq name (log_name plan.table) ≡ b → (a || b) ≡ true → bytes_eq plan.table name ≡ false
  by true b same other is = ap (bytes_eq plan.table) (are_same name (ghost_name plan.table) same) ∙ not_ghost plan.table
  by false true off same is = ap (bytes_eq plan.table) (are_same name (log_name plan.table) same) ∙ not_log plan.table
  by false false off none is = absurd (false≢true is)

tool_fine : (plan : PlanData) (actor : Actor) (request : Request) → ToolCall plan request actor → writes_own plan request ≡ true → SparesOrRenames plan (Some request)
tool_fine plan actor (requests.Create schema) call writes = inl (record { counter = rw (not_tool plan schema.name call) refl; copies = tt })
tool_fine plan actor (requests.Drop name) call writes = inl (record { counter = rw (not_tool plan name call) refl; copies = tt })
tool_fine plan actor (requests.Rename pairs) call writes = inr tt
tool_fine plan actor (requests.CopyRow from into map key) call writes = inl (record { counter = tt; copies = turned_bytes plan.table into (not_written plan into writes) })
tool_fine plan actor (requests.SetCounter table least) call writes = inl (record { counter = not_written plan table writes; copies = tt })
tool_fine plan actor request call writes = inl (record { counter = tt; copies = tt })

pub given_fine : (plan : PlanData) (journal : List Entry) (actor : Actor) (request : Request) → given plan journal actor ≡ Some (Call request) → SparesOrRenames plan (Some request)
unfolding given
given_fine plan journal actor request gives = by actor gives where
  tool : (actor : Actor) → is_client actor ≡ false → given plan journal actor ≡ Some (Call request) → SparesOrRenames plan (Some request)
  tool actor is gives = tool_fine plan actor request (as_tool plan actor request is (given_asked plan journal actor request gives)) (given_calls plan journal actor request is gives).writes

  by : (actor : Actor) → given plan journal actor ≡ Some (Call request) → SparesOrRenames plan (Some request)
  by (Client c) gives = inl (client_spares plan journal c plan.table request gives)
  by Op gives = tool Op refl gives
  by Insp gives = tool Insp refl gives
  by Copy gives = tool Copy refl gives
  by Apply gives = tool Apply refl gives
  by Lock gives = tool Lock refl gives
  by Ren gives = tool Ren refl gives

-- A JOURNAL

module _ (plan : PlanData) where
  abbrev Fine : Option Request → Type 0
  Fine asks = SparesOrRenames plan asks

  none_fine : Fine None
  none_fine = inl (none_spares plan.table)

  called_fine : (journal : List Entry) (entry : Entry) → IsFollowed plan journal entry → (request : Request) → entry.asked ≡ Call request → Fine (Some request)
  called_fine journal entry followed request asks = given_fine plan journal entry.actor request (subst (IsGiven plan journal entry) asks followed.given)

  waits_now : (journal : List Entry) (entry : Entry) → AllWait Fine (state_at plan journal).waiting → AllWait Fine (opens entry (state_at plan journal)).waiting
  waits_now journal entry all = subst (AllWait Fine) (sym (opened_waits (is_command entry.asked) (not (is_client entry.actor)) entry.session (state_at plan journal))) all

  fine_more : (journal : List Entry) (entry : Entry) → IsRun plan journal entry → AllWait Fine (state_at plan journal).waiting → AllWait Fine (state_at plan (journal ++ entry ∷ [])).waiting
  fine_more journal entry run all =
      subst (λ (s : State). AllWait Fine s.waiting) (sym (state_more (opening plan) journal entry))
      (left_waits Fine entry.side (opens entry (state_at plan journal)) entry.session entry.asked (called_fine journal entry run.followed) (waits_now journal entry all))

  fine_begins : AllWait Fine (state_at plan []).waiting
  unfolding state_after
  fine_begins = tt

  pub all_fine : (journal : List Entry) → IsKept plan journal → AllWait Fine (state_at plan journal).waiting
  unfolding Follows
  all_fine journal kept = Along-keeps (IsRun plan) (λ some. AllWait Fine (state_at plan some).waiting) fine_more [] journal (all_runs plan [] journal kept.faithful kept.follows) fine_begins

  -- what a turn is about
  pub asked_fine : (journal : List Entry) (entry : Entry) → IsFollowed plan journal entry → AllWait Fine (state_at plan journal).waiting → Fine (asked_in (state_at plan journal) entry)
  asked_fine journal entry followed all = about_so Fine (opens entry (state_at plan journal)) entry.session entry.asked none_fine (called_fine journal entry followed) (waits_now journal entry all)

-- what the turn is about, as the server has it
pub about_asks : (plan : PlanData) (journal : List Entry) (entry : Entry) → IsKnownAsked plan journal → IsRun plan journal entry → (request : Request) → IsAbout request (standing_of plan journal entry.actor) entry.asked → asked_in (state_at plan journal) entry ≡ Some request
about_asks plan journal entry known run request (is_called same none) = ap (asks_for (opens entry (state_at plan journal)) entry.session) same
about_asks plan journal entry known run request (is_polled same some) =
    ap (asks_for (opens entry (state_at plan journal)) entry.session) same
    ∙ ap (λ (w : List Waiting). plain.request_waiting (waiting_of entry.session w)) (opened_waits (is_command entry.asked) (not (is_client entry.actor)) entry.session (state_at plan journal))
    ∙ own_waiting plan journal entry known.marking.tabled.all.tool.known (record { answered = run.answered; seated = record { session = run.followed.session } }) (ap is_command same) ∙ some

pub none_asks : (plan : PlanData) (journal : List Entry) (entry : Entry) → may_lose entry.asked ≡ false → asked_in (state_at plan journal) entry ≡ None
none_asks plan journal entry rests = by entry.asked rests where
  by : (asked : Asked) → may_lose asked ≡ false → asks_for (opens entry (state_at plan journal)) entry.session asked ≡ None
  by (Command word) is = refl
  by Cut is = refl
  by (Call request) is = absurd (true≢false is)
  by Poll is = absurd (true≢false is)

-- A RENAME THAT IS DONE IS REPORTED

-- what the turn is about is what the history says of it
pub about_is : (plan : PlanData) (journal : List Entry) (entry : Entry) (request : Request) → IsKnownAsked plan journal → IsRun plan journal entry → asked_in (state_at plan journal) entry ≡ Some request → histories.about journal entry ≡ Some request
about_is plan journal entry request known run asks = by entry.asked refl asks where
  now : State
  now = state_at plan journal

  by : (asked : Asked) → entry.asked ≡ asked → asks_for (opens entry now) entry.session asked ≡ Some request → histories.asked_about asked (histories.request_waiting journal entry.actor) ≡ Some request
  by (Call called) at is = is
  by Poll at is =
      known.marking.agree entry.actor
      ∙ sym (own_waiting plan journal entry known.marking.tabled.all.tool.known (record { answered = run.answered; seated = record { session = run.followed.session } }) (ap is_command at))
      ∙ sym (ap (λ (w : List Waiting). plain.request_waiting (waiting_of entry.session w)) (opened_waits (is_command entry.asked) (not (is_client entry.actor)) entry.session now)) ∙ is
  by (Command word) at is = absurd cc
  by Cut at is = absurd cc

-- a turn about a RENAME that adds no ALTER to the history didn't do it
module _ (plan : PlanData) (serial : IsSerialPlan plan) (runs : IsRunnable plan) (journal : List Entry) (entry : Entry) (known : IsKnownAsked plan journal) (run : IsRun plan journal entry) (none : list_any is_alter (entry_adds plan journal entry) ≡ false) where
  abbrev now : State
  now = state_at plan journal

  pub undone : (pairs : List Pair) → asked_in now entry ≡ Some (requests.Rename pairs) → Undone entry.side (serves (opens entry now) entry.session entry.asked).answer
  undone pairs asks = by entry.side refl where
    answer : Answer
    answer = (serves (opens entry now) entry.session entry.asked).answer

    about : histories.about journal entry ≡ Some (requests.Rename pairs)
    about = about_is plan journal entry (requests.Rename pairs) known run asks

    calls : (asked : Asked) → asks_for (opens entry now) entry.session asked ≡ Some (requests.Rename pairs) → may_lose asked ≡ true
    calls (Call request) is = refl
    calls Poll is = refl
    calls (Command word) is = absurd cc
    calls Cut is = absurd cc

    tool : is_client entry.actor ≡ false
    tool = by (turn_about plan journal entry known run) where
      asked_as : (actor : Actor) → AskedAs plan actor (requests.Rename pairs) → is_client actor ≡ false
      asked_as (Client c) asked = absurd asked
      asked_as Op asked = refl
      asked_as Insp asked = refl
      asked_as Copy asked = refl
      asked_as Apply asked = refl
      asked_as Lock asked = refl
      asked_as Ren asked = refl

      by : TurnAbout plan journal entry → is_client entry.actor ≡ false
      by (asks_so request is_about requested asked quiet) =
          let both : Some request ≡ Some (requests.Rename pairs) = sym requested ∙ about in
          let one : request ≡ requests.Rename pairs = cc in
          asked_as entry.actor (subst (AskedAs plan entry.actor) one asked)
      by (rests_so rests) = absurd (true≢false (sym (calls entry.asked asks) ∙ rests))

    -- had it been answered so, there were an ALTER
    never : (count : ℕ) → answer_in entry.asked entry.side entry.answer entry.missed ≡ Some (answers.Ok count) → ⊥
    never count reported =
        true≢false (sym alters_here ∙ ap (list_any is_alter) (sym (tool_adds plan serial journal entry runs.fitting known run tool entry.actor tool)) ∙ none) where
          exchanges : (entry.actor ≡ Ren) × (requests.Rename pairs ≡ exchange plan.table)
          exchanges = about_asked plan serial journal entry runs.fitting known run tool (requests.Rename pairs) about

          alters_here : list_any is_alter (alters plan (histories.about journal entry) (answer_in entry.asked entry.side entry.answer entry.missed)) ≡ true
          alters_here =
              ap (λ (r : Option Request). list_any is_alter (alters plan r (answer_in entry.asked entry.side entry.answer entry.missed))) about
              ∙ ap (λ (t : Option Answer). list_any is_alter (alters plan (Some (requests.Rename pairs)) t)) reported
              ∙ ap (λ (b : Bool). list_any is_alter (cond b (histories.Alter ∷ []) [])) (exchange_takes plan.table pairs exchanges.1)

    -- a turn about a request is no command and no loss
    asks_it : (asked : Asked) → asks_for (opens entry now) entry.session asked ≡ Some (requests.Rename pairs) → (side : Option Side) (heard : Answer) (missed : Option Answer) → answer_in asked side heard missed ≡ answer_in Poll side heard missed
    asks_it (Call request) is None heard missed = refl
    asks_it (Call request) is (Some Before) heard missed = refl
    asks_it (Call request) is (Some After) heard missed = refl
    asks_it Poll is side heard missed = refl
    asks_it (Command word) is side heard missed = absurd cc
    asks_it Cut is side heard missed = absurd cc

    not_ok : (one : Answer) → answer ≡ one → ((count : ℕ) → answer ≡ answers.Ok count → ⊥) → NotOk one
    not_ok (answers.Ok count) is never_ok = never_ok count is
    not_ok one is never_ok = tt

    by : (side : Option Side) → entry.side ≡ side → Undone side answer
    by None at =
        not_ok answer refl
        (λ count is. never count
        (asks_it entry.asked asks entry.side entry.answer entry.missed ∙ ap (λ (s : Option Side). answer_in Poll s entry.answer entry.missed) at
        ∙ ap Some (reported_answer now entry run.answered ∙ ap (λ (s : Option Side). answer_at s (inner now entry)) at ∙ is)))
    by (Some Before) at = tt
    by (Some After) at =
        not_ok answer refl
        (λ count is. never count
        (asks_it entry.asked asks entry.side entry.answer entry.missed ∙ ap (λ (s : Option Side). answer_in Poll s entry.answer entry.missed) at
        ∙ reported_missed now entry run.answered ∙ ap (λ (s : Option Side). missed_at s (inner now entry)) at ∙ ap Some is))

-- ONE TURN

-- where a RENAME isn't done, all is kept
keeps_rest : (name : List ℕ) (schema : Schema) (place count : ℕ) (state : State) (earlier : List ℕ) (entry : Entry) (pairs : List Pair) → asked_in state entry ≡ Some (requests.Rename pairs) → Undone entry.side (serves (opens entry state) entry.session entry.asked).answer
    → Keeps name schema place count state earlier → Keeps name schema place (count + 1) (after_entry state entry) (earlier ++ drawn_from entry.draw name (asked_in state entry))
keeps_rest name schema place count state earlier entry pairs asks undone is =
    let rests = rename_rests name place is.next entry.session pairs entry.side now entry.asked asks in
    let tables = rests.tables undone in
    let counters = rename_counts entry.side now entry.session entry.asked pairs asks undone in
    let opened = opened_below name place is.next (is_command entry.asked) (not (is_client entry.actor)) entry.session state is.below in
    let less = is.small in
    record {
      has = ap (schema_of name) (tables ∙ opened_tables (is_command entry.asked) (not (is_client entry.actor)) entry.session state) ∙ is.has;
      next = is.next;
      counter = ap (next_of name) (counters ∙ opened_counters (is_command entry.asked) (not (is_client entry.actor)) entry.session state) ∙ is.counter;
      small = omega (arith, less);
      below = record { rows = subst (λ (t : Database). RowsBelow place is.next (find_table name t)) (sym tables) opened.rows; writes = rests.writes opened.writes };
      under = subst (AllByRecursion (λ number. number < is.next)) (sym (ap (λ (l : List ℕ). earlier ++ l) (drawn entry.draw) ∙ append-nil earlier)) is.under;
    } where
      now : State
      now = opens entry state

      drawn : (draw : Option ℕ) → drawn_from draw name (asked_in state entry) ≡ []
      drawn None = refl
      drawn (Some n) = ap (drawn_from (Some n) name) asks

-- the table's schema stays where the RENAME isn't done
pub schema_on : (plan : PlanData) → IsSerialPlan plan → IsRunnable plan → (journal : List Entry) (entry : Entry) → IsKept plan (journal ++ entry ∷ []) → list_any is_alter (entry_adds plan journal entry) ≡ false → schema_of plan.table (state_at plan (journal ++ entry ∷ [])).tables ≡ schema_of plan.table (state_at plan journal).tables
schema_on plan serial runs journal entry kept none = ap (λ (s : State). schema_of plan.table s.tables) (state_more (opening plan) journal entry) ∙ by (asked_fine plan journal entry run.followed (all_fine plan journal before)) where
  now : State
  now = state_at plan journal

  before : IsKept plan journal
  before = kept_front plan journal (entry ∷ []) kept

  run : IsRun plan journal entry
  run = kept_run plan journal entry kept

  renaming : (asks : Option Request) → asked_in now entry ≡ asks → IsRenaming asks → schema_of plan.table (after_entry now entry).tables ≡ schema_of plan.table now.tables
  renaming (Some (requests.Rename pairs)) asks it =
      ap (schema_of plan.table) (
      (rename_rests plan.table 0 0 entry.session pairs entry.side (opens entry now) entry.asked asks).tables (undone plan serial runs journal entry (all_asked plan journal runs before.faithful before.follows) run none pairs asks)
      ∙ opened_tables (is_command entry.asked) (not (is_client entry.actor)) entry.session now
      )
  renaming asks is_asks it = absurd it

  by : SparesOrRenames plan (asked_in now entry) → schema_of plan.table (after_entry now entry).tables ≡ schema_of plan.table now.tables
  by (inl spares) = schema_stays plan.table now entry run.answered spares
  by (inr it) = renaming (asked_in now entry) refl it

module _ (plan : PlanData) (serial : IsSerialPlan plan) (runs : IsRunnable plan) (schema : Schema) (place : ℕ) (auto : auto_place schema ≡ Some place) (counts : CountsIn schema place) where
  -- what is kept of the migrated table behind a journal
  abbrev pub KeepsTable : List Entry → Type 0
  KeepsTable journal = Keeps plan.table schema place (length journal) (state_at plan journal) (draws_on plan journal plan.table)

  -- ... in the words of a journal with one entry more
  pub kept_more : (journal : List Entry) (entry : Entry) (other : Schema) (at : ℕ) → Keeps plan.table other at (length journal + 1) (after_entry (state_at plan journal) entry) (draws_on plan journal plan.table ++ drawn_from entry.draw plan.table (asked_in (state_at plan journal) entry))
      → Keeps plan.table other at (length (journal ++ entry ∷ [])) (state_at plan (journal ++ entry ∷ [])) (draws_on plan (journal ++ entry ∷ []) plan.table)
  unfolding draws_on
  kept_more journal entry other at one =
      subst (λ (n : ℕ). Keeps plan.table other at n (state_at plan (journal ++ entry ∷ [])) (draws_on plan (journal ++ entry ∷ []) plan.table)) (sym (length-append journal (entry ∷ [])))
      (subst (λ (l : List ℕ). Keeps plan.table other at (length journal + 1) (state_at plan (journal ++ entry ∷ [])) l) (sym (gathered-more (λ before entry. drawn_from entry.draw plan.table (asked_in (state_at plan before) entry)) [] journal entry))
      (subst (λ (s : State). Keeps plan.table other at (length journal + 1) s (draws_on plan journal plan.table ++ drawn_from entry.draw plan.table (asked_in (state_at plan journal) entry))) (sym (state_more (opening plan) journal entry)) one))

  -- *A turn that doesn't do the RENAME*
  pub keeps_on : (journal : List Entry) (entry : Entry) → IsKept plan (journal ++ entry ∷ []) → list_any is_alter (entry_adds plan journal entry) ≡ false → length journal < 9223372036854775807 → KeepsTable journal → KeepsTable (journal ++ entry ∷ [])
  keeps_on journal entry kept none few is = kept_more journal entry schema place (by (asked_in now entry) refl (asked_fine plan journal entry run.followed (all_fine plan journal before))) where
    now : State
    now = state_at plan journal

    before : IsKept plan journal
    before = kept_front plan journal (entry ∷ []) kept

    run : IsRun plan journal entry
    run = kept_run plan journal entry kept

    known : IsKnownAsked plan journal
    known = all_asked plan journal runs before.faithful before.follows

    More : Type 0
    More = Keeps plan.table schema place (length journal + 1) (after_entry now entry) (draws_on plan journal plan.table ++ drawn_from entry.draw plan.table (asked_in now entry))

    renaming : (asks : Option Request) → asked_in now entry ≡ asks → IsRenaming asks → More
    renaming (Some (requests.Rename pairs)) asks it = keeps_rest plan.table schema place (length journal) now (draws_on plan journal plan.table) entry pairs asks (undone plan serial runs journal entry known run none pairs asks) is
    renaming asks is_asks it = absurd it

    by : (asks : Option Request) → asked_in now entry ≡ asks → SparesOrRenames plan (asked_in now entry) → More
    by asks same (inl spares) = keeps_more plan.table now entry run.answered spares schema place auto counts (length journal) few (draws_on plan journal plan.table) is
    by asks same (inr it) = renaming (asked_in now entry) refl it
