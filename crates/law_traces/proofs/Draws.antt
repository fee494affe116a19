-- A number is drawn by a client's statement alone, and with the schema that its table has among those that are left.
use Rattle.std.proofs.Common.{◌≡◌, ℕ, Bool, true, false, not, cond, List, [], ◌∷◌, ◌++◌, Option, Some, None, refl, sym, ap, ◌∙◌, subst}
use Rattle.std.specs.Prelude.{is_some}
use Rattle.std.specs.List.{AllByRecursion, list_any}
use Rattle.std.specs.Str.{bytes_eq}
use Rattle.std.proofs.lemmas.Bool.{true≢false}
use Rattle.table_store.specs.Databases.{Database, TableRows, find_table}
use Rattle.base_script.specs.declared.actor.Actor.{Actor}
use Rattle.base_script.specs.declared.actor.Actor.TheVariants.{Op, Insp, Copy, Apply, Lock, Ren, Client}
use Rattle.base_script.specs.declared.script.ScriptLine.{ScriptLine}
use Rattle.base_script.specs.declared.script.ScriptWord.{ScriptWord}
use Rattle.base_script.specs.declared.script.ScriptWord.TheVariants as words
use Rattle.base_script.specs.declared.statement.Statement.{Statement}
use Rattle.server_model.specs.declared.counter.Counter.{Counter}
use Rattle.server_model.specs.declared.answer.Answer.{Answer}
use Rattle.server_model.specs.declared.entry.Asked.{Asked}
use Rattle.server_model.specs.declared.entry.Asked.TheVariants.{Call, Poll, Command, Cut}
use Rattle.server_model.specs.declared.entry.Entry.{Entry}
use Rattle.server_model.specs.declared.request.Request.{Request}
use Rattle.server_model.specs.declared.request.Request.TheVariants as requests
use Rattle.server_model.specs.declared.session.Session.{Session}
use Rattle.server_model.specs.declared.session.Waiting.{Waiting}
use Rattle.server_model.specs.Along.{Along}
use Rattle.server_model.specs.Checks.{draws}
use Rattle.server_model.specs.Counting.{drawn_if, is_answered, offered_to}
use Rattle.server_model.specs.Drawing.{offered_in, offered_of}
use Rattle.server_model.specs.Effects.{is_outside}
use Rattle.server_model.specs.Entries.{is_client, is_command}
use Rattle.server_model.specs.Operations.{table_of}
use Rattle.server_model.specs.PlainServer.{asks_for, drawn_in}
use Rattle.server_model.specs.States.{State, is_of_tool, next_of, session_of, waiting_of}
use Rattle.plan_data.specs.PlanData.{PlanData}
use Rattle.tool_program.specs.JournalWords.Clients.{client_at, word_asks}
use Rattle.tool_program.specs.JournalWords.Journals.{inner_answer, opens, state_at}
use Rattle.tool_program.specs.JournalWords.KeptPlans.{TakesNext}
use Rattle.tool_program.specs.JournalWords.Serials as serials
use Rattle.proof_journals.specs.Holdings.{stored}
use Rattle.proof_journals.specs.Machine.Runnable.{IsRunnable}
use Rattle.proof_journals.specs.Machine.Standings.{standing_of}
use Rattle.proof_journals.specs.Plans.{IsPlanRun, client_names, limits_of, scene_of}
use Rattle.proof_journals.specs.Run.Kept.{IsKept}
use Rattle.proof_journals.specs.Scenes.{NamesTable, seen, tables_left}
use Rattle.proof_journals.specs.Turns.{history, request_of}
use Rattle.proof_journals.proofs.Journals.{opened_waits}
use Rattle.proof_journals.proofs.Left.{left_found}
use Rattle.proof_journals.proofs.Machine.Clients.{Next, calls_line, client_next, polls_line}
use Rattle.proof_journals.proofs.Machine.Journals.{IsRun}
use Rattle.proof_journals.proofs.Actors.{placed}
use Rattle.proof_journals.proofs.Machine.Seated.{IsKnown, IsServed, all_known, own_waiting}
use Rattle.proof_journals.proofs.Run.Living.{all_living}
use Rattle.proof_journals.proofs.Naming.{extras_open, extras_serial, left_is}
use Rattle.proof_journals.proofs.PlanJournals.{PlanHolds, plan_goes}
use Rattle.proof_migration.proofs.ToolServes.{session_of_tool, tool_serves}
use Rattle.proof_migration.proofs.ToolPhase.Hearing.{opened_tables}
use Rattle.proof_migration.proofs.ToolPhase.Unaltered.Away.{IsKnownAsked, all_asked}
use Rattle.run_audit.specs.Audits.{draws_in, first_draws, word_draws}
use Rattle.proof_audit.specs.Laws.{DrawsAsLeft, MayDraw}
use Rattle.proof_audit.proofs.Wholes.{IsTurn, LastTurn, OfRun, OfTool, kept_before, last_turn, planned_next, run_next, turn_next, whole_before, whole_faithful, whole_sessions, whole_turns}
use Rattle.proof_audit.specs.Wholes.{IsWhole}
use Rattle.law_traces.proofs.NewTools.{CallsFor, IsBehindTurn, ItsTurn, Loses, last_behind}
use Rattle.proof_plain.proofs.Journals.{inside_offers}

-- ---- what is offered

-- it is offered to a client's statement that draws
record IsOffered (found : Option Session) (tables : Database) (asks : Option Request) : Type 0 where
  pub statement : Statement
  pub is : asks ≡ Some (requests.Do statement)
  pub client : is_of_tool found ≡ false
  pub draws : draws_in (find_table (table_of statement) tables) statement ≡ true

offer_draws : (tool : Bool) (found : Option TableRows) (counters : List Counter) (statement : Statement) → is_some (offered_of tool found counters statement) ≡ true → (tool ≡ false) × (draws_in found statement ≡ true)
offer_draws true found counters statement some = absurd cc
offer_draws false None counters statement some = absurd cc
offer_draws false (Some table) counters statement some = (refl, by (draws table.schema statement) some) where
  by : (b : Bool) → is_some (cond b (next_of table.schema.name counters) None) ≡ true → b ≡ true
  by true some = refl
  by false some = absurd cc

is_offered : (found : Option Session) (tables : Database) (counters : List Counter) (asks : Option Request) → is_some (offered_to found tables counters asks) ≡ true → IsOffered found tables asks
unfolding offered_in
is_offered found tables counters None some = absurd cc
is_offered found tables counters (Some (requests.Do statement)) some =
    let offer = offer_draws (is_of_tool found) (find_table (table_of statement) tables) counters statement (inside_offers (is_outside found (requests.Do statement)) (offered_in (is_of_tool found) tables counters statement) some) in
    record { statement = statement; is = refl; client = offer.0; draws = offer.1 }
is_offered found tables counters (Some request) some = absurd cc

answered_offers : (answered : Bool) (offer : Option ℕ) → is_some (drawn_if answered offer) ≡ true → is_some offer ≡ true
answered_offers true offer some = some
answered_offers false offer some = absurd cc

drawn_offered : (state : State) (number : ℕ) (asked : Asked) (inner : Option Answer) → is_some (drawn_in state number asked inner) ≡ true → IsOffered (session_of number state.sessions) state.tables (asks_for state number asked)
drawn_offered state number asked None some = absurd cc
drawn_offered state number asked (Some answer) some =
    is_offered (session_of number state.sessions) state.tables state.counters (asks_for state number asked)
    (answered_offers (is_answered answer) (offered_to (session_of number state.sessions) state.tables state.counters (asks_for state number asked)) some)

word_does : (word : ScriptWord) (statement : Statement) → word_asks word ≡ requests.Do statement → word ≡ words.Do statement
word_does words.Begin statement same = absurd cc
word_does words.Commit statement same = absurd cc
word_does words.Rollback statement same = absurd cc
word_does (words.Do one) statement same = let is : one ≡ statement = cc in ap words.Do is

-- ---- the tables that are left

module _ (plan : PlanData) (journal : List Entry) (run : IsPlanRun plan journal) where
  abbrev tables : Database
  tables = (state_at plan journal).tables

  holds : PlanHolds plan journal journal
  holds = (plan_goes plan journal run).0

  left_so : tables_left (client_names plan) tables ≡ serials.tables_left plan tables
  left_so =
      left_is plan tables
      (extras_serial plan (scene_of plan journal) (record { tables = plan.tables; log = [] }) (history (limits_of plan) (scene_of plan journal) journal) (seen (scene_of plan journal) (stored (state_at plan journal))) refl holds.holds.holds.kept.serial (extras_open plan run.serial))

  -- a client's table is found among them
  found_left : (name : List ℕ) → list_any (bytes_eq name) (client_names plan) ≡ true → find_table name (serials.tables_left plan tables) ≡ find_table name tables
  found_left name named = ap (find_table name) (sym left_so) ∙ sym ((left_found (scene_of plan journal) tables).each name named)

  -- the lines that are left of a script name clients' tables
  lines_named : (c : ℕ) → AllByRecursion (λ line. NamesTable (client_names plan) line.word) (client_at plan journal c).left
  lines_named = holds.linked.named

-- ---- one turn

module _ (plan : PlanData) (runs : IsRunnable plan) (before : List Entry) (entry : Entry) (kept : IsKept plan (before ++ entry ∷ [])) (plan_run : IsPlanRun plan before) (drew : is_some entry.draw ≡ true) where
  front : IsKept plan before
  front = kept_before plan before (entry ∷ []) kept

  run : IsRun plan before entry
  run = run_next plan before entry [] kept

  known : IsKnownAsked plan before
  known = all_asked plan before runs front.faithful front.follows

  served : IsServed plan before entry
  served = record { answered = run.answered; seated = record { session = run.followed.session } }

  abbrev open_now : State
  open_now = opens entry (state_at plan before)

  offered : IsOffered (session_of entry.session open_now.sessions) open_now.tables (asks_for open_now entry.session entry.asked)
  offered = drawn_offered open_now entry.session entry.asked (inner_answer (state_at plan before) entry) (ap is_some (sym run.answered.draw) ∙ drew)

  asks_none : {A : Type 0} → asks_for open_now entry.session entry.asked ≡ None → A
  asks_none none = absurd (no (sym none ∙ offered.is)) where
    no : None ≡ Some (requests.Do offered.statement) → ⊥
    no both = cc

  uncommanded : is_command entry.asked ≡ false
  uncommanded = by entry.asked refl where
    by : (asked : Asked) → entry.asked ≡ asked → is_command asked ≡ false
    by (Command word) asks = asks_none (ap (asks_for open_now entry.session) asks)
    by (Call request) asks = refl
    by Poll asks = refl
    by Cut asks = refl

  -- the tool's statements draw nothing
  no_tool : is_client entry.actor ≡ false → ⊥
  no_tool tool = true≢false (sym (tool_serves plan before entry front known.marking.tabled.all.tool run uncommanded tool) ∙ offered.client)

  -- a client's line that was asked
  line_draws : (c : ℕ) (line : ScriptLine) (lines : List ScriptLine) → (client_at plan before c).left ≡ line ∷ lines → asks_for open_now entry.session entry.asked ≡ Some (word_asks line.word) → MayDraw plan before (Client c)
  line_draws c line lines left asks =
      let does : line.word ≡ words.Do offered.statement = word_does line.word offered.statement (same_word (word_asks line.word) (sym asks ∙ offered.is)) in
      let named : list_any (bytes_eq (table_of offered.statement)) (client_names plan) ≡ true =
      subst (NamesTable (client_names plan)) does (subst (AllByRecursion (λ one. NamesTable (client_names plan) one.word)) left (lines_named plan before plan_run c)).0 in
      ap (first_draws (serials.tables_left plan (state_at plan before).tables)) left
      ∙ ap (word_draws (serials.tables_left plan (state_at plan before).tables)) does
      ∙ ap (λ (found : Option TableRows). draws_in found offered.statement)
      (found_left plan before plan_run (table_of offered.statement) named ∙ sym (ap (find_table (table_of offered.statement)) (opened_tables plan before entry)))
      ∙ offered.draws where
        same_word : (request : Request) → Some request ≡ Some (requests.Do offered.statement) → request ≡ requests.Do offered.statement
        same_word request same = cc

  next_draws : (c : ℕ) → entry.actor ≡ Client c → Next (client_at plan before c) entry.asked → MayDraw plan before (Client c)
  next_draws c same (calls_line line lines going off left called) = line_draws c line lines left (ap (asks_for open_now entry.session) called)
  next_draws c same (polls_line going on polled) =
      let held = (known.marking.tabled.all.clients.each c).held on in
      line_draws c held.0 held.1 held.2
      (ap (asks_for open_now entry.session) polled
      ∙ ap (λ (w : List Waiting). request_of (waiting_of entry.session w)) (opened_waits (is_command entry.asked) (not (is_client entry.actor)) entry.session (state_at plan before))
      ∙ own_waiting plan before entry known.marking.tabled.all.tool.known served uncommanded ∙ ap (λ (a : Actor). (standing_of plan before a).waits) same ∙ held.3)

  client_draws : (c : ℕ) → entry.actor ≡ Client c → (asked : Asked) → entry.asked ≡ asked → TakesNext plan before (Client c) asked → MayDraw plan before (Client c)
  client_draws c same Cut asks takes = asks_none (ap (asks_for open_now entry.session) asks)
  client_draws c same (Call request) asks takes = next_draws c same (client_next plan before c entry.asked (takes ∙ ap Some (sym asks)))
  client_draws c same Poll asks takes = next_draws c same (client_next plan before c entry.asked (takes ∙ ap Some (sym asks)))
  client_draws c same (Command word) asks takes = asks_none (ap (asks_for open_now entry.session) asks)

  actor_draws : (actor : Actor) → entry.actor ≡ actor → MayDraw plan before actor
  actor_draws (Client c) same = client_draws c same entry.asked refl (subst (λ (a : Actor). TakesNext plan before a entry.asked) same (planned_next plan before entry [] kept).next)
  actor_draws Op same = absurd (no_tool (ap is_client same))
  actor_draws Insp same = absurd (no_tool (ap is_client same))
  actor_draws Copy same = absurd (no_tool (ap is_client same))
  actor_draws Apply same = absurd (no_tool (ap is_client same))
  actor_draws Lock same = absurd (no_tool (ap is_client same))
  actor_draws Ren same = absurd (no_tool (ap is_client same))

-- ---- a new tool's turn draws nothing

module _ (plan : PlanData) (before : List Entry) (entry : Entry) (whole : IsWhole plan (before ++ entry ∷ [])) where
  begun : IsWhole plan before
  begun = whole_before plan before (entry ∷ []) whole

  turn : IsTurn plan before entry
  turn = turn_next plan before entry [] whole

  abbrev opened : State
  opened = opens entry (state_at plan before)

  all_served : (some journal : List Entry) → Along (IsTurn plan) some journal → Along (IsServed plan) some journal
  all_served some [] turns = tt
  all_served some (one ∷ journal) turns = (record { answered = turns.0.answered; seated = turns.0.seated }, all_served (some ++ one ∷ []) journal turns.1)

  seated : IsKnown plan before
  seated = all_known plan before (all_served [] before (whole_turns plan before begun))

  -- its session is the tool's
  of_tool : is_command entry.asked ≡ false → is_client entry.actor ≡ false → is_of_tool (session_of entry.session opened.sessions) ≡ true
  of_tool = session_of_tool before (state_at plan before) entry (all_living plan before (whole_faithful plan before begun) (whole_sessions plan before begun)) seated.sessions (placed before entry turn.seated) turn.answered

  pub undrawn : IsBehindTurn plan entry → is_some entry.draw ≡ true → ⊥
  undrawn behind drew = by behind.its where
    offered : IsOffered (session_of entry.session opened.sessions) opened.tables (asks_for opened entry.session entry.asked)
    offered = drawn_offered opened entry.session entry.asked (inner_answer (state_at plan before) entry) (ap is_some (sym turn.answered.draw) ∙ drew)

    no : None ≡ Some (requests.Do offered.statement) → ⊥
    no both = cc

    by : ItsTurn plan entry → ⊥
    by (Loses cut) = no (sym (ap (asks_for opened entry.session) cut) ∙ offered.is)
    by (CallsFor request tool called well) = true≢false (sym (of_tool (ap is_command called) tool) ∙ offered.client)

-- *Clients' statements draw*, with their tables as they are left
pub draws_as_left : (plan : PlanData) → IsRunnable plan → ((journal : List Entry) → IsKept plan journal → IsPlanRun plan journal) → DrawsAsLeft plan
draws_as_left plan runs each before entry whole drew = by (last_turn plan before entry whole) where
  by : LastTurn plan before entry → MayDraw plan before entry.actor
  by (OfRun kept) = actor_draws plan runs before entry kept (each before (kept_before plan before (entry ∷ []) kept)) drew entry.actor refl
  by (OfTool run turns is kept are) = absurd (undrawn plan before entry whole (last_behind plan run turns entry are) drew)
