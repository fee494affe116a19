-- What each turn of a run is about, what it leaves of a table that nobody writes, and what is answered of one that stands.
use Rattle.server_model.specs.PlainServer.{recounted, counters_left}
use Rattle.std.proofs.Common.{◌≡◌, ℕ, Bool, true, false, not, ◌||◌, List, [], ◌∷◌, ◌++◌, cond, Option, Some, None, refl, sym, ap, ◌∙◌, subst}
use Rattle.std.proofs.lemmas.List.{append_cancel_left}
use Rattle.std.specs.Prelude.{codes, is_some}
use Rattle.std.specs.List.{list_any}
use Rattle.std.specs.Str.{bytes_eq}
use Rattle.std.proofs.lemmas.Bool.{true≢false, or_right}
use Rattle.table_store.specs.Databases.{Database, find_table}
use Rattle.table_store.specs.declared.renames.Pair.{Pair}
use Rattle.base_script.specs.declared.actor.Actor.{Actor}
use Rattle.base_script.specs.declared.actor.Actor.TheVariants.{Op, Insp, Copy, Apply, Lock, Ren, Client}
use Rattle.base_script.specs.declared.actor.Side.{Side}
use Rattle.base_script.specs.declared.actor.Side.TheVariants.{Before, After}
use Rattle.server_model.specs.Along.{Along-keeps}
use Rattle.server_model.specs.Entries.{is_client, is_command}
use Rattle.server_model.specs.Operations.{table_of}
use Rattle.server_model.specs.PlainServer.{leaves, serves}
use Rattle.server_model.specs.States.{State, connected, is_live, waiting_of}
use Rattle.server_model.specs.declared.answer.Answer.{Answer}
use Rattle.server_model.specs.declared.answer.Answer.TheVariants as answers
use Rattle.server_model.specs.declared.entry.Asked.{Asked}
use Rattle.server_model.specs.declared.entry.Asked.TheVariants.{Call, Poll, Command, Cut}
use Rattle.server_model.specs.declared.entry.Entry.{Entry}
use Rattle.server_model.specs.declared.request.Request.{Request}
use Rattle.server_model.specs.declared.request.Request.TheVariants as requests
use Rattle.server_model.specs.declared.session.Waiting.{Waiting}
use Rattle.plan_data.specs.PlanData.{PlanData}
use Rattle.base_values.specs.ToolNames.{ghost_name, log_name, old_name}
use Rattle.tool_program.specs.JournalWords.Histories as histories
use Rattle.tool_program.specs.JournalWords.Histories.{asked_about, request_waiting, answer_in}
use Rattle.tool_program.specs.JournalWords.Journals.{IsFaithful, may_lose, opens, opens_if, state_at}
use Rattle.tool_program.specs.Programs.{Follows, IsGiven, given}
use Rattle.proof_journals.specs.Plans.{IsSerialPlan, client_names, scene_of}
use Rattle.proof_journals.specs.Scenes.{Stored}
use Rattle.proof_journals.specs.Turns.{ClientAsks, answer_at, inner, missed_at, request_of}
use Rattle.proof_journals.proofs.Joined.{reported_answer, reported_missed}
use Rattle.proof_journals.proofs.Journals.{opened_waits, stored_opened}
use Rattle.server_model.proofs.LockedRows.Tests.{are_same, same_bytes}
use Rattle.proof_journals.specs.Machine.Runnable.{IsRunnable}
use Rattle.proof_journals.specs.Machine.Standings.{IsAbout, Standing, is_called, is_polled, standing_of}
use Rattle.proof_journals.proofs.Machine.Asking.{WaitsWith}
use Rattle.proof_journals.proofs.Machine.Journals.{IsRun, IsTogether, all_runs}
use Rattle.proof_journals.proofs.Machine.Marks.{ghost_not_old}
use Rattle.proof_journals.proofs.Machine.Polling.{given_idle, given_waits}
use Rattle.proof_journals.proofs.Machine.Seated.{IsServed, own_waiting, state_more}
use Rattle.proof_journals.proofs.Machine.Tabling.{QuietAt, given_quiet}
use Rattle.proof_migration.proofs.ToolPhase.Unaltered.Asking.{AskedAs, ToolCall, given_asked}
use Rattle.proof_migration.proofs.ToolPhase.Unaltered.Away.{IsKnownAsked, asked_begins, asked_more, tool_not_mine}
use Rattle.proof_migration.proofs.Once.Past.{makes}
use Rattle.proof_plans.specs.Tables.{IsFound, is_missing, names_alone}
use Rattle.proof_plans.proofs.Tables.Refusing.{IsOther}
use Rattle.proof_plans.proofs.Tables.Answering.{Stands, called_other, polled_other}
use Rattle.proof_plans.proofs.Tables.Sparing.{Leaves, Spared, Unwritten, WritesNo, called_spared, goes, joined_unwritten, lost_tables, lost_unwritten, polled_spared, renames, stays}

-- WHAT A TURN IS ABOUT

-- a request that its actor asks; or nothing is called or polled
pub data TurnAbout (plan : PlanData) (journal : List Entry) (entry : Entry) : Type 0 where
  asks_so : (request : Request) → IsAbout request (standing_of plan journal entry.actor) entry.asked → histories.about journal entry ≡ Some request → AskedAs plan entry.actor request → QuietAt entry.actor request → TurnAbout plan journal entry
  rests_so : may_lose entry.asked ≡ false → TurnAbout plan journal entry

-- what a turn leaves of a table, as is told of it: it is as it was, or gone; or a RENAME was done
pub data Left (plan : PlanData) (journal : List Entry) (entry : Entry) (name : List ℕ) (request : Request) : Type 0 where
  left_so : find_table name (state_at plan (journal ++ entry ∷ [])).tables ≡ find_table name (state_at plan journal).tables → Left plan journal entry name request
  left_gone : find_table name (state_at plan (journal ++ entry ∷ [])).tables ≡ None → Left plan journal entry name request
  left_renamed : (pairs : List Pair) (count : ℕ) → request ≡ requests.Rename pairs → answer_in entry.asked entry.side entry.answer entry.missed ≡ Some (answers.Ok count) → Left plan journal entry name request

module _ (plan : PlanData) (journal : List Entry) (entry : Entry) (known : IsKnownAsked plan journal) (run : IsRun plan journal entry) where
  abbrev now : State
  now = state_at plan journal

  abbrev open_now : State
  open_now = opens entry now

  abbrev more : List Entry
  more = journal ++ entry ∷ []

  abbrev has : Actor → Standing
  has = standing_of plan journal

  served : IsServed plan journal entry
  served = record { answered = run.answered; seated = record { session = run.followed.session } }

  together : IsTogether plan journal
  together = known.marking.tabled.all.tool

  pub turn_about : TurnAbout plan journal entry
  turn_about = by entry.asked refl run.followed.given where
    by : (asked : Asked) → entry.asked ≡ asked → IsGiven plan journal entry asked → TurnAbout plan journal entry
    by (Call request) asks gives =
        asks_so request (is_called asks (given_idle plan journal entry.actor request known.marking.tabled.all gives)) (ap (λ (a : Asked). asked_about a (request_waiting journal entry.actor)) asks) (given_asked plan journal entry.actor request gives)
        (given_quiet plan journal entry.actor request known.marking.tabled.all gives)
    by Poll asks gives =
        let with : WaitsWith (has entry.actor).waits = given_waits plan journal entry.actor known.marking.tabled.all gives in
        asks_so with.request (is_polled asks with.is) (ap (λ (a : Asked). asked_about a (request_waiting journal entry.actor)) asks ∙ known.marking.agree entry.actor ∙ with.is) (known.asks entry.actor with.request with.is) (known.marking.tabled.quiet entry.actor with.request with.is)
    by Cut asks gives = rests_so (ap may_lose asks)
    by (Command word) asks gives = rests_so (ap may_lose asks)

  opened_tables : open_now.tables ≡ now.tables
  opened_tables = ap (λ (s : Stored). s.tables) (stored_opened (is_command entry.asked) (not (is_client entry.actor)) entry.session now)

  waits_open : (request : Request) → is_command entry.asked ≡ false → (has entry.actor).waits ≡ Some request → request_of (waiting_of entry.session open_now.waiting) ≡ Some request
  waits_open request called some =
      ap (λ (w : List Waiting). request_of (waiting_of entry.session w)) (opened_waits (is_command entry.asked) (not (is_client entry.actor)) entry.session now) ∙ own_waiting plan journal entry together.known served called ∙ some

  -- A TABLE THAT STANDS

  reported_other : (asked : Asked) (side : Option Side) (answer : Answer) (missed : Option Answer) → (side ≡ None → IsOther answer) → (side ≡ Some After → is_missing missed ≡ false) → is_missing (answer_in asked side answer missed) ≡ false
  reported_other Cut side answer missed one two = refl
  reported_other (Call request) None answer missed one two = one refl
  reported_other (Call request) (Some Before) answer missed one two = refl
  reported_other (Call request) (Some After) answer missed one two = two refl
  reported_other Poll None answer missed one two = one refl
  reported_other Poll (Some Before) answer missed one two = refl
  reported_other Poll (Some After) answer missed one two = two refl
  reported_other (Command word) None answer missed one two = one refl
  reported_other (Command word) (Some Before) answer missed one two = refl
  reported_other (Command word) (Some After) answer missed one two = two refl

  served_other : (name : List ℕ) (request : Request) → IsAbout request (has entry.actor) entry.asked → Stands name now.tables → names_alone name request ≡ true → IsOther (inner now entry)
  served_other name request (is_called asks none) stands alone = subst (λ (a : Asked). IsOther (serves open_now entry.session a).answer) (sym asks) (called_other name open_now entry.session request (ap (λ (t : Database). is_some (find_table name t)) opened_tables ∙ stands) alone)
  served_other name request (is_polled asks some) stands alone =
      subst (λ (a : Asked). IsOther (serves open_now entry.session a).answer) (sym asks)
      (polled_other name open_now entry.session request (waits_open request (ap is_command asks) some) (ap (λ (t : Database). is_some (find_table name t)) opened_tables ∙ stands) alone)

  reported_found : (name : List ℕ) (request : Request) → IsAbout request (has entry.actor) entry.asked → Stands name now.tables → names_alone name request ≡ true → is_missing (answer_in entry.asked entry.side entry.answer entry.missed) ≡ false
  reported_found name request is_about stands alone =
      let other : IsOther (inner now entry) = served_other name request is_about stands alone in
      reported_other entry.asked entry.side entry.answer entry.missed
      (λ side. ap (λ (a : Answer). is_missing (Some a)) (reported_answer now entry run.answered ∙ ap (λ (s : Option Side). answer_at s (inner now entry)) side) ∙ other)
      (λ side. ap is_missing (reported_missed now entry run.answered ∙ ap (λ (s : Option Side). missed_at s (inner now entry)) side) ∙ other)

  -- *It is found*
  pub turn_found : (name : List ℕ) → Stands name now.tables → IsFound name (histories.about journal entry) (answer_in entry.asked entry.side entry.answer entry.missed)
  turn_found name stands = by turn_about where
    rests : (asked : Asked) (waits : Option Request) → may_lose asked ≡ false → IsFound name (asked_about asked waits) (answer_in asked entry.side entry.answer entry.missed)
    rests (Command word) waits is = tt
    rests Cut None is = tt
    rests Cut (Some request) is = λ alone. refl
    rests (Call request) waits is = absurd (true≢false is)
    rests Poll waits is = absurd (true≢false is)

    by : TurnAbout plan journal entry → IsFound name (histories.about journal entry) (answer_in entry.asked entry.side entry.answer entry.missed)
    by (asks_so request is_about about asks quiet) = subst (λ (r : Option Request). IsFound name r (answer_in entry.asked entry.side entry.answer entry.missed)) (sym about) (reported_found name request is_about stands)
    by (rests_so is) = rests entry.asked (request_waiting journal entry.actor) is

  -- A TABLE THAT NOBODY WRITES

  module _ (name : List ℕ) (unwritten : Unwritten name now.sessions) where
    opened_unwritten : Unwritten name open_now.sessions
    unfolding opens_if
    opened_unwritten = by (is_command entry.asked || is_live now entry.session) where
      by : (b : Bool) → Unwritten name (cond b now (connected entry.session (not (is_client entry.actor)) now)).sessions
      by true = unwritten
      by false = joined_unwritten name entry.session (not (is_client entry.actor)) now.sessions unwritten

    served_spared : (request : Request) → IsAbout request (has entry.actor) entry.asked → WritesNo name request → Spared name open_now.tables request (serves open_now entry.session entry.asked)
    served_spared request (is_called asks none) off = subst (λ (a : Asked). Spared name open_now.tables request (serves open_now entry.session a)) (sym asks) (called_spared name open_now entry.session request off opened_unwritten)
    served_spared request (is_polled asks some) off =
        subst (λ (a : Asked). Spared name open_now.tables request (serves open_now entry.session a)) (sym asks) (polled_spared name open_now entry.session request (waits_open request (ap is_command asks) some) off opened_unwritten)

    left_unwritten : (side : Option Side) (asked : Asked) → Unwritten name (serves open_now entry.session asked).after.sessions → Unwritten name (leaves side open_now entry.session asked).sessions
    left_unwritten None asked all = all
    left_unwritten (Some Before) asked all = lost_unwritten name open_now entry.session opened_unwritten
    left_unwritten (Some After) asked all = lost_unwritten name (serves open_now entry.session asked).after entry.session all

    rested_unwritten : (asked : Asked) → may_lose asked ≡ false → Unwritten name (serves open_now entry.session asked).after.sessions
    rested_unwritten Cut is = lost_unwritten name open_now entry.session opened_unwritten
    rested_unwritten (Command word) is = opened_unwritten
    rested_unwritten (Call request) is = absurd (true≢false is)
    rested_unwritten Poll is = absurd (true≢false is)

    -- *Nobody writes it*
    pub unwritten_more : ((request : Request) → AskedAs plan entry.actor request → WritesNo name request) → Unwritten name (state_at plan more).sessions
    unwritten_more off = subst (λ (s : State). Unwritten name s.sessions) (sym (state_more plan journal entry)) (left_unwritten entry.side entry.asked (by turn_about)) where
      by : TurnAbout plan journal entry → Unwritten name (serves open_now entry.session entry.asked).after.sessions
      by (asks_so request is_about about asks quiet) = (served_spared request is_about (off request asks)).unwritten
      by (rests_so is) = rested_unwritten entry.asked is

    left_tables : (side : Option Side) (asked : Asked) → entry.side ≡ side → entry.asked ≡ asked → find_table name (leaves side open_now entry.session asked).tables ≡ find_table name open_now.tables → find_table name (state_at plan more).tables ≡ find_table name now.tables
    left_tables side asked at asks same =
        ap (λ (s : State). find_table name s.tables) (state_more plan journal entry ∙ ap (λ (s : Option Side). recounted (counters_left s open_now entry.session entry.asked) (leaves s open_now entry.session entry.asked)) at ∙ ap (λ (a : Asked). recounted (counters_left side open_now entry.session a) (leaves side open_now entry.session a)) asks) ∙ same ∙ ap (find_table name) opened_tables

    -- *It stays* where nothing is called or polled
    pub rests_left : may_lose entry.asked ≡ false → find_table name (state_at plan more).tables ≡ find_table name now.tables
    rests_left is = left_tables entry.side entry.asked refl refl (by entry.side entry.asked is) where
      here : (asked : Asked) → may_lose asked ≡ false → find_table name (serves open_now entry.session asked).after.tables ≡ find_table name open_now.tables
      here Cut is = ap (find_table name) (lost_tables name open_now entry.session)
      here (Command word) is = refl
      here (Call request) is = absurd (true≢false is)
      here Poll is = absurd (true≢false is)

      by : (side : Option Side) (asked : Asked) → may_lose asked ≡ false → find_table name (leaves side open_now entry.session asked).tables ≡ find_table name open_now.tables
      by None asked is = here asked is
      by (Some Before) asked is = ap (find_table name) (lost_tables name open_now entry.session)
      by (Some After) asked is = ap (find_table name) (lost_tables name (serves open_now entry.session asked).after entry.session) ∙ here asked is

    -- *What is left of it*, behind a request that makes no table
    pub turn_left : (request : Request) → IsAbout request (has entry.actor) entry.asked → WritesNo name request → makes request ≡ false → Left plan journal entry name request
    turn_left request is_about off unmade = by entry.side refl ((served_spared request is_about off).table unmade) where
      after_lost : (side : Option Side) → entry.side ≡ side → side ≡ Some After → find_table name (leaves side open_now entry.session entry.asked).tables ≡ find_table name (serves open_now entry.session entry.asked).after.tables
      after_lost side at is = ap (λ (s : Option Side). find_table name (leaves s open_now entry.session entry.asked).tables) is ∙ ap (find_table name) (lost_tables name (serves open_now entry.session entry.asked).after entry.session)

      reported_call : (side : Option Side) → answer_in entry.asked side entry.answer entry.missed ≡ answer_in Poll side entry.answer entry.missed
      reported_call side = about_call is_about where
        about_call : IsAbout request (has entry.actor) entry.asked → answer_in entry.asked side entry.answer entry.missed ≡ answer_in Poll side entry.answer entry.missed
        about_call (is_polled asks some) = ap (λ (a : Asked). answer_in a side entry.answer entry.missed) asks
        about_call (is_called asks none) = ap (λ (a : Asked). answer_in a side entry.answer entry.missed) asks ∙ called side where
          called : (side : Option Side) → answer_in (Call request) side entry.answer entry.missed ≡ answer_in Poll side entry.answer entry.missed
          called None = refl
          called (Some Before) = refl
          called (Some After) = refl

      more_is : (side : Option Side) → entry.side ≡ side → find_table name (state_at plan more).tables ≡ find_table name (leaves side open_now entry.session entry.asked).tables
      more_is side at = ap (λ (s : State). find_table name s.tables) (state_more plan journal entry ∙ ap (λ (s : Option Side). recounted (counters_left s open_now entry.session entry.asked) (leaves s open_now entry.session entry.asked)) at)

      by : (side : Option Side) → entry.side ≡ side → Leaves name open_now.tables (serves open_now entry.session entry.asked).after.tables request (inner now entry) → Left plan journal entry name request
      by (Some Before) at left = left_so (left_tables (Some Before) entry.asked at refl (ap (find_table name) (lost_tables name open_now entry.session)))
      by None at (stays same) = left_so (left_tables None entry.asked at refl same)
      by None at (goes none) = left_gone (more_is None at ∙ none)
      by None at (renames pairs count is given) =
          left_renamed pairs count is (ap (λ (s : Option Side). answer_in entry.asked s entry.answer entry.missed) at ∙ reported_call None ∙ ap Some (reported_answer now entry run.answered ∙ ap (λ (s : Option Side). answer_at s (inner now entry)) at ∙ given))
      by (Some After) at (stays same) = left_so (left_tables (Some After) entry.asked at refl (after_lost (Some After) at refl ∙ same))
      by (Some After) at (goes none) = left_gone (more_is (Some After) at ∙ after_lost (Some After) at refl ∙ none)
      by (Some After) at (renames pairs count is given) =
          left_renamed pairs count is (ap (λ (s : Option Side). answer_in entry.asked s entry.answer entry.missed) at ∙ reported_call (Some After) ∙ reported_missed now entry run.answered ∙ ap (λ (s : Option Side). missed_at s (inner now entry)) at ∙ ap Some given)

-- THE OLD TABLE

module _ (plan : PlanData) (serial : IsSerialPlan plan) where
  abbrev Old : List ℕ
  Old = old_name plan.table

  old_other : list_any (bytes_eq Old) (client_names plan) ≡ false
  old_other = tool_not_mine plan Old serial (or_right (bytes_eq Old (ghost_name plan.table) || bytes_eq Old (log_name plan.table)) (bytes_eq Old Old) (same_bytes Old))

  log_other : bytes_eq (log_name plan.table) Old ≡ false
  unfolding log_name old_name
  log_other = by (bytes_eq (log_name plan.table) Old) refl where
    differ : codes "_ghc" ≡ codes "_del" → ⊥
    differ same = true≢false (sym (same_bytes (codes "_ghc")) ∙ ap (bytes_eq (codes "_ghc")) same)

    by : (b : Bool) → bytes_eq (log_name plan.table) Old ≡ b → b ≡ false
    by true same = absurd (differ (append_cancel_left (codes "_" ++ plan.table) (codes "_ghc") (codes "_del") (are_same (log_name plan.table) Old same)))
    by false same = refl

  not_mine : (name : List ℕ) → list_any (bytes_eq name) (client_names plan) ≡ true → bytes_eq name Old ≡ false
  not_mine name mine = by (bytes_eq name Old) refl where
    by : (b : Bool) → bytes_eq name Old ≡ b → b ≡ false
    by true same = absurd (true≢false (sym mine ∙ ap (λ (n : List ℕ). list_any (bytes_eq n) (client_names plan)) (are_same name Old same) ∙ old_other))
    by false same = refl

  client_writes : (request : Request) → ClientAsks (scene_of plan []) request → WritesNo Old request
  client_writes (requests.Do statement) asks = not_mine (table_of statement) asks
  client_writes (requests.CopyRow from into map key) asks = absurd asks
  client_writes request asks = tt

  tool_writes : (actor : Actor) (request : Request) → ToolCall plan request actor → WritesNo Old request
  tool_writes Insp (requests.Do statement) asks = ap (λ (n : List ℕ). bytes_eq n Old) asks ∙ log_other
  tool_writes Apply (requests.Do statement) asks = ap (λ (n : List ℕ). bytes_eq n Old) asks ∙ ghost_not_old plan.table
  tool_writes Op (requests.Do statement) asks = absurd asks
  tool_writes Copy (requests.Do statement) asks = absurd asks
  tool_writes Lock (requests.Do statement) asks = absurd asks
  tool_writes Ren (requests.Do statement) asks = absurd asks
  tool_writes (Client c) (requests.Do statement) asks = absurd asks
  tool_writes Copy (requests.CopyRow from into map key) asks = ap (λ (n : List ℕ). bytes_eq n Old) asks ∙ ghost_not_old plan.table
  tool_writes Op (requests.CopyRow from into map key) asks = absurd asks
  tool_writes Insp (requests.CopyRow from into map key) asks = absurd asks
  tool_writes Apply (requests.CopyRow from into map key) asks = absurd asks
  tool_writes Lock (requests.CopyRow from into map key) asks = absurd asks
  tool_writes Ren (requests.CopyRow from into map key) asks = absurd asks
  tool_writes (Client c) (requests.CopyRow from into map key) asks = absurd asks
  tool_writes actor request asks = tt

  -- nobody asks to write a row of it
  pub writes_no_old : (actor : Actor) (request : Request) → AskedAs plan actor request → WritesNo Old request
  writes_no_old (Client c) request asks = client_writes request asks
  writes_no_old Op request asks = absurd asks
  writes_no_old Insp request asks = tool_writes Insp request asks
  writes_no_old Copy request asks = tool_writes Copy request asks
  writes_no_old Apply request asks = tool_writes Apply request asks
  writes_no_old Lock request asks = tool_writes Lock request asks
  writes_no_old Ren request asks = tool_writes Ren request asks

  -- ... so nobody wrote one
  pub record IsUnwritten (journal : List Entry) : Type 0 where
    pub known : IsKnownAsked plan journal
    pub unwritten : Unwritten Old (state_at plan journal).sessions

  unwritten_next : (journal : List Entry) (entry : Entry) → IsRun plan journal entry → IsUnwritten journal → IsUnwritten (journal ++ entry ∷ [])
  unwritten_next journal entry run is = record { known = asked_more plan journal entry run is.known; unwritten = unwritten_more plan journal entry is.known run Old is.unwritten (λ request asks. writes_no_old entry.actor request asks) }

  unwritten_begins : IsRunnable plan → IsUnwritten []
  unfolding Rattle.tool_program.specs.JournalWords.Journals.state_after
  unwritten_begins runs = record { known = asked_begins plan runs; unwritten = tt }

  pub all_unwritten : (journal : List Entry) → IsRunnable plan → IsFaithful plan journal → Follows plan journal → IsUnwritten journal
  unfolding Follows
  all_unwritten journal runs faithful follows = Along-keeps (IsRun plan) IsUnwritten unwritten_next [] journal (all_runs plan [] journal faithful follows) (unwritten_begins runs)
