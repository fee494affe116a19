-- What holds of every journal that is kept of a plain plan: the server and the tool stay plain, and so are all answers.
use Rattle.std.proofs.Common.{◌≡◌, ℕ, zero, suc, ◌+◌, ◌-◌, ◌*◌, ◌^◌, ◌<◌, ◌≤◌, ◌==◌, Bool, true, false, cond, List, [], ◌∷◌, ◌++◌, length, Option, Some, None, refl, sym, ap, ◌∙◌, subst, arith}
use Rattle.std.specs.Prelude.{is_some, unwrap_or}
use Rattle.std.specs.List.{AllByRecursion, flat_map, slice_get}
use Rattle.std.proofs.lemmas.List.{length-append}
use Rattle.base_values.proofs.SchemaRules.Lists.{All-append}
use Rattle.base_script.specs.declared.actor.Actor.{Actor}
use Rattle.base_script.specs.declared.actor.Actor.TheVariants.{Op, Insp, Copy, Apply, Lock, Ren, Client}
use Rattle.base_script.specs.declared.actor.Side.{Side}
use Rattle.base_script.specs.declared.actor.Side.TheVariants.{Before, After}
use Rattle.base_script.specs.declared.operator.OperatorWord.{OperatorWord}
use Rattle.base_script.specs.declared.script.ScriptLine.{ScriptLine}
use Rattle.base_script.specs.declared.script.ScriptWord.{ScriptWord}
use Rattle.base_script.specs.declared.script.ScriptWord.TheVariants as words
use Rattle.base_script.specs.declared.statement.Statement.{Statement}
use Rattle.base_script.specs.declared.statement.Statement.TheVariants as statements
use Rattle.table_store.specs.Databases.{Database, TableRows, find_table}
use Rattle.server_model.specs.declared.answer.Answer.{Answer}
use Rattle.server_model.specs.declared.counter.Counter.{Counter}
use Rattle.server_model.specs.declared.entry.Asked.{Asked}
use Rattle.server_model.specs.declared.entry.Asked.TheVariants.{Call, Poll, Command, Cut}
use Rattle.server_model.specs.declared.entry.Entry.{Entry}
use Rattle.server_model.specs.declared.request.Request.{Request}
use Rattle.server_model.specs.declared.request.Request.TheVariants as requests
use Rattle.server_model.specs.Checks.{draws}
use Rattle.server_model.specs.Counting.{drawn_by, drawn_if, is_answered, offered_inside, offered_to}
use Rattle.server_model.specs.Drawing.{numbered, offered_in, offered_of}
use Rattle.server_model.specs.Effects.{is_outside}
use Rattle.server_model.specs.Entries.{same_actor}
use Rattle.server_model.specs.Operations.{table_of}
use Rattle.server_model.specs.PlainServer.{asks_for, drawn_in, given_at, serves}
use Rattle.server_model.specs.States.{State, counter_of, is_of_tool, next_of, session_of}
use Rattle.plan_data.specs.PlanData.{PlanData}
use Rattle.tool_program.specs.JournalWords.Clients.{became, client_after, client_asks, client_at, line_asks, lines_drawn, script_of, with_draw, word_numbered, Reached}
use Rattle.tool_program.specs.JournalWords.Journals.{inner_answer, opening, opens, state_after, state_at}
use Rattle.tool_program.specs.JournalWords.KeptPlans.{words_of}
use Rattle.tool_program.specs.Programs.{IsGiven, commands, given, tool_asks}
use Rattle.tool_program.specs.Tools.{Tool, moment}
use Rattle.proof_journals.specs.Machine.Runnable.{IsRunnable}
use Rattle.proof_journals.specs.Plans.{IsSerialPlan}
use Rattle.proof_journals.specs.Run.Kept.{IsKept}
use Rattle.proof_journals.specs.ServerFacts.Invariants.{IsServing}
use Rattle.proof_journals.proofs.Linking.{client_more}
use Rattle.proof_journals.proofs.Machine.Journals.{Asking, calls_so, polls_so, IsRun, IsTogether, all_together, asking}
use Rattle.proof_journals.proofs.Machine.Seated.{state_more}
use Rattle.proof_journals.proofs.Progress.{lines_stay}
use Rattle.proof_journals.proofs.Sentry.Inductions.{moment_more}
use Rattle.proof_migration.proofs.Program.Turns.Follows.{kept_front, kept_run}
use Rattle.proof_migration.proofs.HeldNames.Holders.{all_held_well}
use Rattle.proof_migration.proofs.KeptJournals.{each_kept}
use Rattle.proof_plain.specs.Plain.{BytesAsked, BytesRequest, BytesStatement, IsWrite, NoRows, PlainAnswer, PlainState, SmallCounters, SmallIf}
use Rattle.proof_plain.specs.Plans.{BytesWord, IsShort, PlainPlan, PlainTool}
use Rattle.proof_plain.proofs.Counts.{IsFew, opened_few}
use Rattle.proof_plain.proofs.Machines.{took_plain}
use Rattle.proof_plain.proofs.Numbers.{counter_small, drawn_small}
use Rattle.proof_plain.proofs.Opened.{heard_plain, leaves_few, opens_plain, sees_few}
use Rattle.proof_plain.proofs.Requests.{PlainAnswers, tool_bytes, word_bytes}
use Rattle.proof_plain.proofs.Serving.{BytesCalled, SeesFew, left_plain, served_bare, served_plain}

-- ---- the opening

counters_small : (tables : Database) → AllByRecursion (λ table. SmallIf table.schema.start) tables → SmallCounters (flat_map counter_of tables)
counters_small [] all = tt
counters_small (table ∷ tables) all = All-append (λ (counter : Counter). counter.next < 2 ^ 64) (counter_of table) (flat_map counter_of tables) (counter_small table all.0) (counters_small tables all.1)

opening_plain : (plan : PlanData) → PlainPlan plan → PlainState (opening plan)
opening_plain plan plain = record { client = plain.client; tool = plain.tool; tables = plain.tables; log = tt; waiting = tt; sessions = tt; counters = counters_small plan.tables plain.starts }

-- ---- clients

abbrev BytesLines : List ScriptLine → Type 0
BytesLines lines = AllByRecursion (λ line. BytesWord line.word) lines

statement_numbered : (number : ℕ) (statement : Statement) → BytesStatement statement → BytesStatement (numbered (Some number) statement)
statement_numbered number (statements.Insert table columns values drawn) have = have
statement_numbered number (statements.Replace table columns values drawn) have = have
statement_numbered number (statements.Delete table condition) have = have
statement_numbered number (statements.Update table sets condition) have = have
statement_numbered number (statements.Select table what condition) have = have

drawn_lines : (draw : Option ℕ) (client : Reached) → BytesLines client.left → BytesLines (with_draw draw client).left
drawn_lines None client all = all
drawn_lines (Some number) client all = by client.left all where
  one : (word : ScriptWord) → BytesWord word → BytesWord (word_numbered (Some number) word)
  one words.Begin have = have
  one words.Commit have = have
  one words.Rollback have = have
  one (words.Do statement) have = statement_numbered number statement have

  by : (lines : List ScriptLine) → BytesLines lines → BytesLines (lines_drawn number lines)
  by [] all = tt
  by (line ∷ lines) all = (one line.word all.0, all.1)

first_lines : (plan : PlanData) → PlainPlan plan → (c : ℕ) → BytesLines (unwrap_or (script_of c plan) [])
first_lines plan plain c = by (c == 0) where
  script : (scripts : List (List ScriptLine)) (place : ℕ) → AllByRecursion BytesLines scripts → BytesLines (unwrap_or (slice_get scripts place) [])
  script [] place all = tt
  script (lines ∷ scripts) zero all = all.0
  script (lines ∷ scripts) (suc place) all = script scripts place all.1

  by : (b : Bool) → BytesLines (unwrap_or (cond b None (slice_get plan.clients (c - 1))) [])
  by true = tt
  by false = script plan.clients (c - 1) plain.scripts

asked_line : (waits : Bool) (lines : List ScriptLine) (request : Request) → line_asks waits lines ≡ Some (Call request) → BytesLines lines → BytesRequest request
asked_line waits [] request is all = absurd cc
asked_line true (line ∷ lines) request is all = absurd cc
asked_line false (line ∷ lines) request is all = let same : _ ≡ request = same_call _ request is in subst BytesRequest same (word_bytes line.word all.0) where
  same_call : (a b : Request) → Some (Call a) ≡ Some (Call b) → a ≡ b
  same_call a b same = cc

-- ---- what holds after every journal

pub record PlainRun (plan : PlanData) (journal : List Entry) : Type 0 where
  pub state : PlainState (state_at plan journal)
  pub few : IsFew (2 ^ 31 + length journal) (length journal * (2 ^ 31 + length journal)) (state_at plan journal)
  pub answers : PlainAnswers journal
  pub tool : PlainTool plan (moment plan journal).tool
  pub lines : (c : ℕ) → BytesLines (client_at plan journal c).left

run_begins : (plan : PlanData) → PlainPlan plan → PlainRun plan []
unfolding state_after moment client_at
run_begins plan plain = record {
  state = opening_plain plan plain;
  few = opened_few (2 ^ 31) (record { client_wait = plan.options.client_wait; tool_wait = plan.options.tool_wait }) plan.tables plain.rows;
  answers = tt;
  tool = record { phase = tt; reason = tt };
  lines = first_lines plan plain;
}

-- ---- one turn

drawn_given : (state : State) (number : ℕ) (asked : Asked) (inner : Option Answer) → SmallCounters state.counters → SmallIf (drawn_in state number asked inner)
drawn_given state number asked None small = tt
drawn_given state number asked (Some answer) small = drawn_small state number (asks_for state number asked) answer small

-- what drew a number was done or refused
abbrev pub DrawnAnswer : Option Answer → Type 0
DrawnAnswer None = ⊥
DrawnAnswer (Some answer) = (is_answered answer ≡ true) × NoRows answer

-- an INSERT or a REPLACE draws
place_writes : (schema : _) (statement : Statement) → draws schema statement ≡ true → IsWrite statement
unfolding draws
place_writes schema (statements.Insert table columns values drawn) is = tt
place_writes schema (statements.Replace table columns values drawn) is = tt
place_writes schema (statements.Delete table condition) is = absurd cc
place_writes schema (statements.Update table sets condition) is = absurd cc
place_writes schema (statements.Select table what condition) is = absurd cc

offer_writes : (tool : Bool) (found : Option TableRows) (counters : List Counter) (statement : Statement) → is_some (offered_of tool found counters statement) ≡ true → IsWrite statement
offer_writes true found counters statement some = absurd cc
offer_writes false None counters statement some = absurd cc
offer_writes false (Some table) counters statement some = by (draws table.schema statement) refl some where
  by : (b : Bool) → draws table.schema statement ≡ b → is_some (cond b (next_of table.schema.name counters) None) ≡ true → IsWrite statement
  by true is some = place_writes table.schema statement is
  by false is some = absurd cc

-- a number that is offered inside is one that is offered
pub inside_offers : (outside : Bool) (offer : Option ℕ) → is_some (offered_inside outside offer) ≡ true → is_some offer ≡ true
inside_offers true offer some = absurd cc
inside_offers false offer some = some

record Draws (state : State) (number : ℕ) (asks : Option Request) (answer : Answer) : Type 0 where
  statement : Statement
  is : asks ≡ Some (requests.Do statement)
  writes : IsWrite statement
  answered : is_answered answer ≡ true

answered_draws : (answered : Bool) (offer : Option ℕ) → is_some (drawn_if answered offer) ≡ true → (answered ≡ true) × (is_some offer ≡ true)
answered_draws true offer some = (refl, some)
answered_draws false offer some = absurd cc

draws_so : (state : State) (number : ℕ) (asks : Option Request) (answer : Answer) → is_some (drawn_by state number asks answer) ≡ true → Draws state number asks answer
unfolding offered_in
draws_so state number asks answer some =
    let both = answered_draws (is_answered answer) (offered_to (session_of number state.sessions) state.tables state.counters asks) some in by asks both.1 both.0 where
      by : (asks : Option Request) → is_some (offered_to (session_of number state.sessions) state.tables state.counters asks) ≡ true → is_answered answer ≡ true → Draws state number asks answer
      by (Some (requests.Do statement)) some answered = record {
        statement = statement;
        is = refl;
        writes =
            offer_writes (is_of_tool (session_of number state.sessions)) (find_table (table_of statement) state.tables) state.counters statement
            (inside_offers (is_outside (session_of number state.sessions) (requests.Do statement)) (offered_in (is_of_tool (session_of number state.sessions)) state.tables state.counters statement) some);
        answered = answered;
      }
      by asks some answered = absurd cc

module _ (plan : PlanData) (plain : PlainPlan plan) (runs : IsRunnable plan) (serial : IsSerialPlan plan) (journal : List Entry) (entry : Entry) (kept : IsKept plan (journal ++ entry ∷ [])) (turns : length journal + 1 ≤ 2 ^ 31) (small : entry.session < 2 ^ 64) (now : PlainRun plan journal) where
  abbrev before : State
  before = state_at plan journal

  abbrev open_now : State
  open_now = opens entry before

  front : IsKept plan journal
  front = kept_front plan journal (entry ∷ []) kept

  run : IsRun plan journal entry
  run = kept_run plan journal entry kept

  together : IsTogether plan journal
  together = all_together plan journal front.faithful front.follows

  serves_now : IsServing before
  serves_now = (all_held_well plan journal runs serial front).serving

  open_plain : PlainState open_now
  open_plain = opens_plain plan journal entry turns small now.state now.few serves_now

  sees : SeesFew entry.session open_now
  sees = sees_few plan journal entry turns small now.state now.few serves_now

  -- what is called
  tool_called : (actor : Actor) (request : Request) → tool_asks plan journal (moment plan journal) actor ≡ Some (Call request) → BytesRequest request
  tool_called actor request asks = by (asking plan journal actor (Call request) together.server asks) where
    same_call : (a b : Request) → Call a ≡ Call b → a ≡ b
    same_call a b same = cc

    by : Asking plan journal actor (Call request) → BytesRequest request
    by (calls_so other same idle call) =
        subst BytesRequest (sym (same_call request other same))
        (subst (λ (o : Option Request). BytesAsked o) call (tool_bytes plan plain (moment plan journal).server journal now.answers (moment plan journal).tool (moment plan journal).tool.turns (moment plan journal).tool.tool_phase actor now.tool.phase))
    by (polls_so other same some) = absurd (no same) where
      no : Call request ≡ Poll → ⊥
      no both = cc

  client_called : (c : ℕ) (request : Request) → client_asks plan journal c ≡ Some (Call request) → BytesRequest request
  unfolding client_asks
  client_called c request asks = by (client_at plan journal c).is_lost asks where
    by : (lost : Bool) → cond lost None (line_asks (client_at plan journal c).waits (client_at plan journal c).left) ≡ Some (Call request) → BytesRequest request
    by true asks = absurd cc
    by false asks = asked_line (client_at plan journal c).waits (client_at plan journal c).left request asks (now.lines c)

  operator_called : (word : Option OperatorWord) (request : Request) → commands word ≡ Some (Call request) → BytesRequest request
  operator_called None request asks = absurd cc
  operator_called (Some word) request asks = absurd cc

  given_called : (actor : Actor) (request : Request) → given plan journal actor ≡ Some (Call request) → BytesRequest request
  unfolding given
  given_called (Client c) request asks = client_called c request asks
  given_called Op request asks = operator_called (slice_get (words_of plan) (moment plan journal).tool.operator.taken) request asks
  given_called Insp request asks = tool_called Insp request asks
  given_called Copy request asks = tool_called Copy request asks
  given_called Apply request asks = tool_called Apply request asks
  given_called Lock request asks = tool_called Lock request asks
  given_called Ren request asks = tool_called Ren request asks

  called : (asked : Asked) → IsGiven plan journal entry asked → BytesCalled asked
  called (Call request) gives = given_called entry.actor request gives
  called Poll gives = tt
  called (Command word) gives = tt
  called Cut gives = tt

  pub called_bytes : BytesCalled entry.asked
  called_bytes = called entry.asked run.followed.given

  -- what is answered
  pub inner_plain : PlainAnswer (serves open_now entry.session entry.asked).answer
  inner_plain = (served_plain entry.session open_now entry.asked small open_plain sees called_bytes).answer

  pub answer_plain : PlainAnswer entry.answer
  unfolding inner_answer
  answer_plain = subst PlainAnswer (sym run.answered.answer) (heard_plain entry.side entry.asked (serves open_now entry.session entry.asked).answer inner_plain)

  -- what is drawn
  pub draw_small : SmallIf entry.draw
  draw_small = subst SmallIf (sym run.answered.draw) (drawn_given open_now entry.session entry.asked (inner_answer before entry) open_plain.counters)

  inner_draws : (inner : Option Answer) → inner_answer before entry ≡ inner → is_some (drawn_in open_now entry.session entry.asked inner) ≡ true → DrawnAnswer inner
  unfolding inner_answer
  inner_draws None is some = absurd cc
  inner_draws (Some answer) is some =
      let so = draws_so open_now entry.session (asks_for open_now entry.session entry.asked) answer some in
      (so.answered, subst NoRows (served_is entry.side answer is) (served_bare entry.session open_now entry.asked so.statement open_plain sees called_bytes so.is so.writes)) where
        served_is : (side : Option Side) (answer : Answer) → inner_answer before entry ≡ Some answer → (serves open_now entry.session entry.asked).answer ≡ answer
        served_is side answer is = at entry.side entry.asked is where
          at : (side : Option Side) (asked : Asked) → given_at side asked (serves open_now entry.session entry.asked).answer ≡ Some answer → (serves open_now entry.session entry.asked).answer ≡ answer
          at side Cut is = absurd cc
          at (Some Before) (Call request) is = absurd cc
          at (Some Before) Poll is = absurd cc
          at (Some Before) (Command word) is = absurd cc
          at None (Call request) is = cc
          at None Poll is = cc
          at None (Command word) is = cc
          at (Some After) (Call request) is = cc
          at (Some After) Poll is = cc
          at (Some After) (Command word) is = cc

  pub draw_answers : is_some entry.draw ≡ true → DrawnAnswer (inner_answer before entry)
  draw_answers some = inner_draws (inner_answer before entry) refl (ap is_some (sym run.answered.draw) ∙ some)

  -- ---- what is so afterwards

  abbrev more : List Entry
  more = journal ++ entry ∷ []

  client_after_turn : (c : ℕ) → BytesLines (client_at plan more c).left
  client_after_turn c = subst (λ (client : Reached). BytesLines client.left) (sym (client_more plan journal entry c)) (by (same_actor entry.actor (Client c))) where
    by : (b : Bool) → BytesLines (cond b (client_after (became (client_at plan journal c) entry) (with_draw entry.draw (client_at plan journal c))) (client_at plan journal c)).left
    by true = lines_stay (λ line. BytesWord line.word) (became (client_at plan journal c) entry) (with_draw entry.draw (client_at plan journal c)) (drawn_lines entry.draw (client_at plan journal c) (now.lines c))
    by false = now.lines c

  tool_after : PlainTool plan (moment plan more).tool
  tool_after =
      subst (λ (t : Tool). PlainTool plan t) (sym (ap (λ m. m.tool) (moment_more plan journal entry)))
      (took_plain plan (moment plan journal).server (moment plan journal).tool entry (let a = together.turns in omega (arith, a, turns)) now.tool answer_plain)

  pub run_goes : PlainRun plan more
  run_goes = record {
    state = subst PlainState (sym (state_more plan journal entry)) (left_plain entry.side entry.session open_now entry.asked small open_plain sees called_bytes);
    few = leaves_few plan journal entry turns small now.state now.few serves_now;
    answers = All-append (λ (one : Entry). PlainAnswer one.answer) journal (entry ∷ []) now.answers (answer_plain, tt);
    tool = tool_after;
    lines = client_after_turn;
  }

-- ---- every journal

pub short_front : (front back : List Entry) → IsShort (front ++ back) → IsShort front
short_front front back short = record { turns = let a = length-append front back in let b = short.turns in omega (arith, a, b); sessions = by front short.sessions } where
  by : (some : List Entry) → AllByRecursion (λ (entry : Entry). entry.session < 2 ^ 64) (some ++ back) → AllByRecursion (λ (entry : Entry). entry.session < 2 ^ 64) some
  by [] all = tt
  by (entry ∷ some) all = (all.0, by some all.1)

last_small : (front : List Entry) (entry : Entry) → IsShort (front ++ entry ∷ []) → entry.session < 2 ^ 64
last_small front entry short = by front short.sessions where
  by : (some : List Entry) → AllByRecursion (λ (one : Entry). one.session < 2 ^ 64) (some ++ entry ∷ []) → entry.session < 2 ^ 64
  by [] all = all.0
  by (one ∷ some) all = by some all.1

-- *Kept journals of a plain plan are plain*
pub all_plain : (plan : PlanData) (journal : List Entry) → PlainPlan plan → IsRunnable plan → IsSerialPlan plan → IsKept plan journal → IsShort journal → PlainRun plan journal
all_plain plan journal plain runs serial kept short =
    each_kept plan (λ some. IsShort some → PlainRun plan some)
    (λ before entry one rest whole. run_goes plan plain runs serial before entry one (let a = length-append before (entry ∷ []) in let b = whole.turns in omega (arith, a, b)) (last_small before entry whole) (rest (short_front before (entry ∷ []) whole))) journal kept
    (λ none. run_begins plan plain) short
