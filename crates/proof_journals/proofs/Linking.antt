-- What the journal tells of a plan's clients and what the law of scenes tells of their sessions go together.
use Rattle.std.proofs.Common.{◌≡◌, ◌≢◌, ◌<◌, ℕ, Bool, true, false, not, List, [], ◌∷◌, ◌++◌, map, cond, Option, Some, None, refl, sym, ap, ◌∙◌, subst}
use Rattle.std.specs.Prelude.{◌==◌, unwrap_or}
use Rattle.std.specs.List.{AllByRecursion}
use Rattle.std.proofs.lemmas.Bool.{false≢true, true≢false}
use Rattle.std.proofs.lemmas.List.Sums.{fold-append}
use Rattle.base_script.specs.declared.actor.Actor.{Actor}
use Rattle.base_script.specs.declared.actor.Actor.TheVariants.{Op, Insp, Copy, Apply, Lock, Ren, Client}
use Rattle.base_script.specs.declared.actor.Side.{Side}
use Rattle.base_script.specs.declared.actor.Side.TheVariants.{Before, After}
use Rattle.base_script.specs.declared.script.ScriptLine.{ScriptLine}
use Rattle.base_script.specs.declared.script.ScriptWord.{ScriptWord}
use Rattle.base_script.specs.declared.script.ScriptWord.TheVariants as words
use Rattle.std.proofs.lemmas.List.{map-append}
use Rattle.table_store.specs.Databases.{Database}
use Rattle.server_model.specs.Along.{gathered-more}
use Rattle.server_model.specs.declared.answer.Answer.{Answer}
use Rattle.server_model.specs.declared.answer.Answer.TheVariants as answers
use Rattle.server_model.specs.declared.entry.Asked.{Asked}
use Rattle.server_model.specs.declared.entry.Asked.TheVariants.{Call, Poll, Command, Cut}
use Rattle.server_model.specs.declared.entry.Entry.{Entry}
use Rattle.server_model.specs.declared.request.Request.{Request}
use Rattle.server_model.specs.declared.request.Request.TheVariants as requests
use Rattle.server_model.specs.declared.session.Waiting.{Waiting}
use Rattle.server_model.specs.Answers.{ok}
use Rattle.server_model.specs.declared.transaction.TxnLine.{TxnLine}
use Rattle.server_model.specs.Entries.{same_actor, is_client, is_command, is_cut}
use Rattle.server_model.specs.States.{State, session_of, is_in_transaction, waiting_of}
use Rattle.server_model.specs.PlainServer.{serves, leaves, loses}
use Rattle.plan_data.specs.PlanData.{PlanData}
use Rattle.tool_program.specs.JournalWords.Journals.{opening, opens, after_entry, state_at, missed, may_lose}
use Rattle.tool_program.specs.JournalWords.Sessions.{session_left, live_session, sessions_named}
use Rattle.tool_program.specs.JournalWords.Clients.{with_draw, Reached, became, client_after, after_turn, client_at, new_client, script_of, is_inside, client_asks, line_asks, word_asks}
use Rattle.tool_program.specs.JournalWords.KeptPlans.{TakesNext}
use Rattle.tool_program.specs.JournalWords.Histories as histories
use Rattle.tool_program.specs.JournalWords.Histories.{HistoryItem, waits_after, waits_in, request_waiting, asked_about, answer_in, renames_away, alters, adds, client_ends}
use Rattle.proof_journals.specs.Scenes.{PlainItem, AltersTo, Scene, NamesTable, Going, not_going}
use Rattle.proof_journals.specs.Turns.{request_of, LineOutcome, line_outcome_renamed, line_outcome_if, client_line_outcome, going_on, goings_after, happens, reported_at, is_busy, inner, line_outcome, ClientAsks, LineOf, MayAsk, MayAskIf, AtRest, RenamesSo, IsAllowed, answer_at, missed_at, drawn_at, drawn_request}
use Rattle.proof_journals.specs.Turns as law
use Rattle.proof_journals.specs.Holdings.{Face, Fits, face_in, face_of}
use Rattle.server_model.specs.declared.session.Session.{Session}
use Rattle.proof_journals.specs.Plans.{client_names, is_client_session, scene_of, AsksAway, AsksIdle, IsAway, KeepsAway}
use Rattle.proof_journals.proofs.Actors.{same_actor_is, same_actor_itself, live_more, Placed, Commands, GoesOn, Begins, SessionsKnown, live_cases, others_differ, named_less, named_differs, sessions_more}
use Rattle.proof_journals.proofs.Faces.{faces_opened}
use Rattle.proof_journals.proofs.Journals.{opened_waits, state_more, word_back}
use Rattle.proof_journals.proofs.Waiting.{waits_there, waits_called, waits_polled, none_waits, filter_gone}
use Rattle.proof_journals.proofs.Progress.{plain, going_of, LineWaits, Free, Held, Alike, AsksNext, Calls, Polls, IsCut, HeardSo, drawn_alike, drawn_gone, drawn_going, drawn_named, drawn_no_wait, lines_stay}
use Rattle.proof_journals.proofs.Hearing.{heard_so}
use Rattle.server_model.proofs.LockedRows.Tests.{same_number, turned}

-- ONE TURN MORE

pub waiting_more : (journal : List Entry) (entry : Entry) (a : Actor) → request_waiting (journal ++ entry ∷ []) a ≡ waits_in a (request_waiting journal a) entry
unfolding request_waiting
waiting_more journal entry a = fold-append (waits_in a) None journal (entry ∷ [])

pub client_more : (plan : PlanData) (journal : List Entry) (entry : Entry) (c : ℕ) → client_at plan (journal ++ entry ∷ []) c ≡ after_turn c (client_at plan journal c) entry
unfolding client_at
client_more plan journal entry c = fold-append (after_turn c) (new_client (unwrap_or (script_of c plan) [])) journal (entry ∷ [])

-- the state that waits: what a call and a poll leave of the session's own request
own_waits : (side : Option Side) (state : State) (number : ℕ) (asked : Asked) (answer : Answer) (old : Option Request) → is_command asked ≡ false → answer ≡ answer_at side (serves state number asked).answer → request_of (waiting_of number state.waiting) ≡ old → ((request : Request) → asked ≡ Call request → waiting_of number state.waiting ≡ None)
    → request_of (waiting_of number (leaves side state number asked).waiting) ≡ waits_after asked answer old
unfolding loses
own_waits None state number (Call request) answer old call is same idle = waits_called state number request (idle request refl) old ∙ ap (λ (a : Answer). waits_after (Call request) a old) (sym is)
own_waits None state number Poll answer old call is same idle = waits_polled state number ∙ ap (λ (a : Answer). waits_after Poll a (request_of (waiting_of number state.waiting))) (sym is) ∙ ap (waits_after Poll answer) same
own_waits None state number Cut answer old call is same idle = ap request_of (filter_gone number state.waiting)
own_waits side state number (Command word) answer old call is same idle = absurd (true≢false call)
own_waits (Some Before) state number (Call request) answer old call is same idle = ap request_of (filter_gone number state.waiting) ∙ ap (λ (a : Answer). waits_after (Call request) a old) (sym is)
own_waits (Some Before) state number Poll answer old call is same idle = ap request_of (filter_gone number state.waiting) ∙ ap (λ (a : Answer). waits_after Poll a old) (sym is)
own_waits (Some Before) state number Cut answer old call is same idle = ap request_of (filter_gone number state.waiting)
own_waits (Some After) state number (Call request) answer old call is same idle = ap request_of (filter_gone number (serves state number (Call request)).after.waiting) ∙ ap (λ (a : Answer). waits_after (Call request) a old) (sym is)
own_waits (Some After) state number Poll answer old call is same idle = ap request_of (filter_gone number (serves state number Poll).after.waiting) ∙ ap (λ (a : Answer). waits_after Poll a old) (sym is)
own_waits (Some After) state number Cut answer old call is same idle = ap request_of (filter_gone number (serves state number Cut).after.waiting)

-- ALL THAT GOES TOGETHER

pub record Linked (plan : PlanData) (journal : List Entry) (going : ℕ → Going) (past : List PlainItem) : Type 0 where
  pub known_sessions : SessionsKnown journal
  pub waiting : (a : Actor) (n : ℕ) → live_session journal a ≡ Some n → request_of (waiting_of n (state_at plan journal).waiting) ≡ request_waiting journal a
  pub unheld : (a : Actor) → live_session journal a ≡ None → request_waiting journal a ≡ None
  pub fresh : (n : ℕ) → sessions_named journal < n → (waiting_of n (state_at plan journal).waiting ≡ None) × (going n ≡ not_going)
  pub runs : (c n : ℕ) → live_session journal (Client c) ≡ Some n → going n ≡ going_of (client_at plan journal c)
  pub closed : (c : ℕ) → live_session journal (Client c) ≡ None → going_of (client_at plan journal c) ≡ not_going
  pub lines : (c : ℕ) → LineWaits (client_at plan journal c) (request_waiting journal (Client c))
  pub named : (c : ℕ) → AllByRecursion (λ line. NamesTable (client_names plan) line.word) (client_at plan journal c).left
  pub items : past ≡ map plain (histories.history plan journal)

-- what is known of a turn: its session, its answers, whose it is, what it may ask, and what its session holds
pub record Known (plan : PlanData) (whole journal : List Entry) (entry : Entry) (going : ℕ → Going) : Type 0 where
  pub placed : Placed journal entry
  pub sides : may_lose entry.asked ≡ false → entry.side ≡ None
  pub answer : entry.answer ≡ answer_at entry.side (inner (state_at plan journal) entry)
  pub missed : entry.missed ≡ missed_at entry.side (inner (state_at plan journal) entry)
  pub draw : entry.draw ≡ drawn_at entry.side (state_at plan journal) entry
  pub kind : is_command entry.asked ≡ false → is_client_session whole entry.session ≡ is_client entry.actor
  pub zero : is_client_session whole 0 ≡ false
  pub next : TakesNext plan journal entry.actor entry.asked
  pub away : KeepsAway plan journal entry entry.actor
  pub fits : (n : ℕ) → Fits (is_client_session whole n) (face_of (state_at plan journal).sessions n) (going n)

word_rests : (word : ScriptWord) (busy : Bool) → AtRest busy (Some (word_asks word))
word_rests words.Begin busy = tt
word_rests words.Commit busy = tt
word_rests words.Rollback busy = tt
word_rests (words.Do statement) busy = tt

word_renames : (scene : Scene) (tables : Database) (word : ScriptWord) → RenamesSo scene tables (Some (word_asks word))
word_renames scene tables words.Begin = tt
word_renames scene tables words.Commit = tt
word_renames scene tables words.Rollback = tt
word_renames scene tables (words.Do statement) = tt

-- whose sessions are doesn't matter to the exchange
alters_any : (plan : PlanData) (whole : List Entry) (before after : Database) → AltersTo (scene_of plan []) before after → AltersTo (scene_of plan whole) before after
alters_any plan whole before after is = record { old = is.old; new = is.new; was = is.was; made = is.made; is = is.is; others = is.others }

renames_any : (plan : PlanData) (whole : List Entry) (tables : Database) (asks : Option Request) → RenamesSo (scene_of plan []) tables asks → RenamesSo (scene_of plan whole) tables asks
renames_any plan whole tables None so = tt
renames_any plan whole tables (Some (requests.Rename pairs)) so = λ may takes after is. alters_any plan whole tables after (so may takes after is)
renames_any plan whole tables (Some other) so = tt

inside_lines : (busy : Bool) (going : Going) → (busy ≡ false → going ≡ not_going) → (busy ≡ true → going.lines ≢ []) → busy ≡ is_inside going.lines
inside_lines true going rests goes = by going.lines refl where
  by : (lines : List TxnLine) → going.lines ≡ lines → true ≡ is_inside lines
  by [] is = absurd (goes refl is)
  by (line ∷ lines) is = refl
inside_lines false going rests goes = ap (λ (g : Going). is_inside g.lines) (sym (rests refl))

none_if : (waiting : Option Waiting) → request_of waiting ≡ None → waiting ≡ None
none_if None none = refl
none_if (Some waiting) some = absurd (cc)

line_next : (client : Reached) (left : List ScriptLine) (asked : Asked) → client.left ≡ left → (waits : Bool) → client.waits ≡ waits → line_asks waits left ≡ Some asked → AsksNext client asked
line_next client [] asked left waits is none = absurd (cc)
line_next client (line ∷ lines) asked left true is some = Polls is (cc)
line_next client (line ∷ lines) asked left false is some = Calls line lines is left (cc)

next_of : (client : Reached) (lost : Bool) (asked : Asked) → cond lost None (line_asks client.waits client.left) ≡ Some asked → AsksNext client asked
next_of client true asked none = absurd (cc)
next_of client false asked some = line_next client client.left asked refl client.waits refl some

module _ (plan : PlanData) (whole journal : List Entry) (entry : Entry) (going : ℕ → Going) (past : List PlainItem) (linked : Linked plan journal going past) (known : Known plan whole journal entry going) where
  abbrev now : State
  now = state_at plan journal

  abbrev open_now : State
  open_now = opens entry now

  opened_waiting : open_now.waiting ≡ now.waiting
  opened_waiting = opened_waits (is_command entry.asked) (not (is_client entry.actor)) entry.session now

  -- what the session waits with is what its actor does
  waits_here : is_command entry.asked ≡ false → request_of (waiting_of entry.session open_now.waiting) ≡ request_waiting journal entry.actor
  waits_here call = ap (λ (w : List Waiting). request_of (waiting_of entry.session w)) opened_waiting ∙ by known.placed where
    by : Placed journal entry → request_of (waiting_of entry.session now.waiting) ≡ request_waiting journal entry.actor
    by (Commands command zero) = absurd (true≢false (sym command ∙ call))
    by (GoesOn calls live) = linked.waiting entry.actor entry.session live
    by (Begins calls uncut live more) = ap request_of (linked.fresh entry.session more).0 ∙ sym (linked.unheld entry.actor live)

  -- A CLIENT'S TURN

  asks_next : (c : ℕ) → entry.actor ≡ Client c → AsksNext (client_at plan journal c) entry.asked
  unfolding client_asks
  asks_next c is = by entry.asked refl (subst (λ (a : Actor). TakesNext plan journal a entry.asked) is known.next) where
    by : (asked : Asked) → entry.asked ≡ asked → TakesNext plan journal (Client c) asked → AsksNext (client_at plan journal c) entry.asked
    by Cut asks next = IsCut asks
    by (Call request) asks next = next_of (client_at plan journal c) (client_at plan journal c).is_lost entry.asked (next ∙ ap Some (sym asks))
    by Poll asks next = next_of (client_at plan journal c) (client_at plan journal c).is_lost entry.asked (next ∙ ap Some (sym asks))
    by (Command word) asks next = next_of (client_at plan journal c) (client_at plan journal c).is_lost entry.asked (next ∙ ap Some (sym asks))

  no_command : (client : Reached) → AsksNext client entry.asked → is_command entry.asked ≡ false
  no_command client (Calls line lines free left asks) = ap is_command asks
  no_command client (Polls held asks) = ap is_command asks
  no_command client (IsCut asks) = ap is_command asks

  going_here : (c : ℕ) → entry.actor ≡ Client c → going entry.session ≡ going_of (client_at plan journal c)
  going_here c is = by known.placed where
    by : Placed journal entry → going entry.session ≡ going_of (client_at plan journal c)
    by (Commands command zero) = absurd (true≢false (sym command ∙ no_command (client_at plan journal c) (asks_next c is)))
    by (GoesOn calls live) = linked.runs c entry.session (ap (live_session journal) (sym is) ∙ live)
    by (Begins calls uncut live more) = (linked.fresh entry.session more).1 ∙ sym (linked.closed c (ap (live_session journal) (sym is) ∙ live))

  own_kind : (c : ℕ) → entry.actor ≡ Client c → is_client_session whole entry.session ≡ true
  own_kind c is = known.kind (no_command (client_at plan journal c) (asks_next c is)) ∙ ap is_client is

  own_fits : (c : ℕ) → entry.actor ≡ Client c → Fits true (face_of open_now.sessions entry.session) (going_of (client_at plan journal c))
  own_fits c is =
      subst (λ (g : Going). Fits true (face_of open_now.sessions entry.session) g) (going_here c is)
      (subst (λ (own : Bool). Fits own (face_of open_now.sessions entry.session) (going entry.session)) (own_kind c is)
      (rw (faces_opened (is_command entry.asked) (not (is_client entry.actor)) entry.session entry.session now) (known.fits entry.session)))

  face_busy : (number : ℕ) (state : State) → is_busy number state ≡ (face_of state.sessions number).busy
  face_busy number state = by (session_of number state.sessions) where
    by : (found : Option Session) → is_in_transaction found ≡ (face_in found).busy
    by None = refl
    by (Some session) = refl

  own_busy : (c : ℕ) → entry.actor ≡ Client c → is_busy entry.session open_now ≡ is_inside (client_at plan journal c).lines
  own_busy c is = face_busy entry.session open_now ∙ inside_lines (face_of open_now.sessions entry.session).busy (going_of (client_at plan journal c)) (λ b. ((own_fits c is).rests b).1) (λ b. (own_fits c is).goes refl b)

  own_line : (c : ℕ) → entry.actor ≡ Client c → LineWaits (client_at plan journal c) (request_of (waiting_of entry.session open_now.waiting))
  own_line c is = rw (waits_here (no_command (client_at plan journal c) (asks_next c is)), is) (linked.lines c)

  own_heard : (c : ℕ) → entry.actor ≡ Client c → HeardSo entry.side entry.asked entry.answer entry.missed
  own_heard c is = heard_so open_now entry.session (client_at plan journal c) entry.side entry.asked entry.answer entry.missed known.sides known.answer known.missed (own_line c is) (asks_next c is)

  abbrev line_outcome_now : LineOutcome
  line_outcome_now = line_outcome (scene_of plan whole) now entry

  about_here : (asked : Asked) (old : Option Request) → request_of (waiting_of entry.session open_now.waiting) ≡ old → law.about open_now entry.session asked ≡ asked_about asked old
  about_here (Call request) old is = refl
  about_here Poll old is = is
  about_here Cut old is = is
  about_here (Command word) old is = refl

  own_line_outcome : (c : ℕ) → entry.actor ≡ Client c
      → line_outcome_now ≡ client_line_outcome entry.side (is_inside (client_at plan journal c).lines) entry.asked (drawn_request entry.draw (asked_about entry.asked (request_waiting journal (Client c)))) entry.answer entry.missed
  own_line_outcome c is =
      ap (λ (own : Bool). line_outcome_if own (scene_of plan whole) open_now entry.session entry.asked entry.side entry.answer entry.missed entry.draw) (own_kind c is)
      ∙ ap (λ (b : Bool). client_line_outcome entry.side b entry.asked (drawn_request entry.draw (law.about open_now entry.session entry.asked)) entry.answer entry.missed) (own_busy c is)
      ∙ ap (λ (asks : Option Request). client_line_outcome entry.side (is_inside (client_at plan journal c).lines) entry.asked (drawn_request entry.draw asks) entry.answer entry.missed)
      (about_here entry.asked (request_waiting journal (Client c)) (waits_here (no_command (client_at plan journal c) (asks_next c is)) ∙ ap (request_waiting journal) is))

  own_alike : (c : ℕ) → entry.actor ≡ Client c → Alike c (with_draw entry.draw (client_at plan journal c)) (became (client_at plan journal c) entry) line_outcome_now (waits_after entry.asked entry.answer (request_waiting journal (Client c)))
  own_alike c is =
      subst (λ (f : LineOutcome). Alike c (with_draw entry.draw (client_at plan journal c)) (became (client_at plan journal c) entry) f (waits_after entry.asked entry.answer (request_waiting journal (Client c)))) (sym (own_line_outcome c is))
      (drawn_alike c (client_at plan journal c) entry.side entry.asked entry.answer entry.missed entry.draw (request_waiting journal (Client c)) (linked.lines c) (asks_next c is) (own_heard c is)
      (λ b. ((own_fits c is).rests (sym (face_busy entry.session open_now) ∙ own_busy c is ∙ b)).1)
      (λ n some by waits. drawn_no_wait entry.side open_now entry.session entry.asked n by (sym known.draw ∙ some) (sym known.answer ∙ waits)))

  -- A TURN OF THE TOOL

  -- every actor but a client keeps away
  by_actor : (P : Type 0) → ((c : ℕ) → entry.actor ≡ Client c → P) → (is_client entry.actor ≡ false → IsAway plan journal entry → P) → P
  by_actor P own tool = by entry.actor refl known.away where
    by : (a : Actor) → entry.actor ≡ a → KeepsAway plan journal entry a → P
    by (Client c) is away = own c is
    by Op is away = tool (ap is_client is) away
    by Insp is away = tool (ap is_client is) away
    by Copy is away = tool (ap is_client is) away
    by Apply is away = tool (ap is_client is) away
    by Lock is away = tool (ap is_client is) away
    by Ren is away = tool (ap is_client is) away

  tool_kind : is_client entry.actor ≡ false → is_client_session whole entry.session ≡ false
  tool_kind tool = by (is_command entry.asked) refl known.placed where
    by : (b : Bool) → is_command entry.asked ≡ b → Placed journal entry → is_client_session whole entry.session ≡ false
    by false call at = known.kind call ∙ tool
    by true command (Commands also zero) = ap (is_client_session whole) zero ∙ known.zero
    by true command (GoesOn call live) = absurd (true≢false (sym command ∙ call))
    by true command (Begins call uncut live more) = absurd (true≢false (sym command ∙ call))

  -- what the turn is about
  about_is : law.about open_now entry.session entry.asked ≡ histories.about journal entry
  about_is = by entry.asked refl where
    by : (asked : Asked) → entry.asked ≡ asked → law.about open_now entry.session entry.asked ≡ histories.about journal entry
    by (Command word) asks = ap (law.about open_now entry.session) asks ∙ ap (λ (a : Asked). asked_about a (request_waiting journal entry.actor)) (sym asks)
    by (Call request) asks = about_here entry.asked (request_waiting journal entry.actor) (waits_here (ap is_command asks))
    by Poll asks = about_here entry.asked (request_waiting journal entry.actor) (waits_here (ap is_command asks))
    by Cut asks = about_here entry.asked (request_waiting journal entry.actor) (waits_here (ap is_command asks))

  -- a call comes of a session that doesn't wait
  idle_here : (request : Request) → entry.asked ≡ Call request → waiting_of entry.session open_now.waiting ≡ None
  idle_here request asks = by_actor (waiting_of entry.session open_now.waiting ≡ None) own tool where
    free : (c : ℕ) → entry.actor ≡ Client c → LineWaits (client_at plan journal c) (request_of (waiting_of entry.session open_now.waiting)) → AsksNext (client_at plan journal c) entry.asked → waiting_of entry.session open_now.waiting ≡ None
    free c is (Free no_wait none) next = none_if (waiting_of entry.session open_now.waiting) none
    free c is (Held line lines held left some) (Calls one more no_wait first also) = absurd (true≢false (sym held ∙ no_wait))
    free c is (Held line lines held left some) (Polls also polled) = absurd (call_poll (sym asks ∙ polled)) where
      call_poll : Call request ≡ Poll → ⊥
      call_poll same = cc
    free c is (Held line lines held left some) (IsCut cut) = absurd (call_cut (sym asks ∙ cut)) where
      call_cut : Call request ≡ Cut → ⊥
      call_cut same = cc

    own : (c : ℕ) → entry.actor ≡ Client c → waiting_of entry.session open_now.waiting ≡ None
    own c is = free c is (own_line c is) (asks_next c is)

    tool : is_client entry.actor ≡ false → IsAway plan journal entry → waiting_of entry.session open_now.waiting ≡ None
    tool no_client away = ap (waiting_of entry.session) opened_waiting ∙ none_waits entry.session now.waiting (subst (λ (a : Asked). AsksIdle now entry.session a) asks away.idle)

  waits_now : is_command entry.asked ≡ false → request_of (waiting_of entry.session (after_entry now entry).waiting) ≡ waits_after entry.asked entry.answer (request_waiting journal entry.actor)
  waits_now call = own_waits entry.side open_now entry.session entry.asked entry.answer (request_waiting journal entry.actor) call known.answer (waits_here call) idle_here

  other_waits : (m : ℕ) → (m == entry.session) ≡ false → waiting_of m (after_entry now entry).waiting ≡ waiting_of m now.waiting
  other_waits m differ = waits_there entry.side open_now entry.session m entry.asked differ ∙ ap (waiting_of m) opened_waiting

  -- BEHIND THE TURN

  abbrev more : List Entry
  more = journal ++ entry ∷ []

  state_is : state_at plan more ≡ after_entry now entry
  state_is = state_more (opening plan) journal entry

  waiting_after : (a : Actor) (n : ℕ) → live_session more a ≡ Some n → request_of (waiting_of n (state_at plan more).waiting) ≡ request_waiting more a
  waiting_after a n lives = rw (state_is, waiting_more journal entry a) (live_cases journal entry linked.known_sessions known.placed a n (request_of (waiting_of n (after_entry now entry).waiting) ≡ waits_in a (request_waiting journal a) entry) lives here there) where
    here : a ≡ entry.actor → is_command entry.asked ≡ false → n ≡ entry.session → request_of (waiting_of n (after_entry now entry).waiting) ≡ waits_in a (request_waiting journal a) entry
    here same call is =
        subst (λ (b : Actor). request_of (waiting_of n (after_entry now entry).waiting) ≡ waits_in b (request_waiting journal b) entry) (sym same)
        (ap (λ (m : ℕ). request_of (waiting_of m (after_entry now entry).waiting)) is ∙ waits_now call
        ∙ sym (ap (λ (b : Bool). cond b (waits_after entry.asked entry.answer (request_waiting journal entry.actor)) (request_waiting journal entry.actor)) (same_actor_itself entry.actor)))

    there : same_actor entry.actor a ≡ false → live_session journal a ≡ Some n → request_of (waiting_of n (after_entry now entry).waiting) ≡ waits_in a (request_waiting journal a) entry
    there differ old = ap request_of (other_waits n (others_differ journal entry linked.known_sessions known.placed a n differ old)) ∙ linked.waiting a n old ∙ sym (ap (λ (b : Bool). cond b (waits_after entry.asked entry.answer (request_waiting journal a)) (request_waiting journal a)) differ)

  none_cases : (a : Actor) (P : Type 0) → live_session more a ≡ None → (same_actor entry.actor a ≡ true → session_left entry.asked entry.answer entry.session ≡ None → P) → (same_actor entry.actor a ≡ false → live_session journal a ≡ None → P) → P
  none_cases a P none here there = by (same_actor entry.actor a) refl (sym (live_more journal entry a) ∙ none) where
    by : (b : Bool) → same_actor entry.actor a ≡ b → cond b (session_left entry.asked entry.answer entry.session) (live_session journal a) ≡ None → P
    by true same left = here same left
    by false differ old = there differ old

  left_none : (asked : Asked) (answer : Answer) (session : ℕ) (old : Option Request) → session_left asked answer session ≡ None → waits_after asked answer old ≡ None
  left_none (Command word) answer session old none = refl
  left_none Cut answer session old none = refl
  left_none (Call request) answers.Lost session old none = refl
  left_none (Call request) other session old some = absurd (cc)
  left_none Poll answers.Lost session old none = refl
  left_none Poll other session old some = absurd (cc)

  unheld_after : (a : Actor) → live_session more a ≡ None → request_waiting more a ≡ None
  unheld_after a none = waiting_more journal entry a ∙ none_cases a (waits_in a (request_waiting journal a) entry ≡ None) none
      (λ same left. ap (λ (b : Bool). cond b (waits_after entry.asked entry.answer (request_waiting journal a)) (request_waiting journal a)) same ∙ left_none entry.asked entry.answer entry.session (request_waiting journal a) left)
      (λ differ old. ap (λ (b : Bool). cond b (waits_after entry.asked entry.answer (request_waiting journal a)) (request_waiting journal a)) differ ∙ linked.unheld a old)

  abbrev goings : ℕ → Going
  goings = goings_after entry.session line_outcome_now going

  goings_there : (n : ℕ) → (n == entry.session) ≡ false → goings n ≡ going n
  goings_there n differ = rw differ refl

  goings_here : goings entry.session ≡ going_on line_outcome_now (going entry.session)
  goings_here = rw (same_number entry.session) refl

  fresh_after : (n : ℕ) → sessions_named more < n → (waiting_of n (state_at plan more).waiting ≡ None) × (goings n ≡ not_going)
  fresh_after n above =
      let differ : (n == entry.session) ≡ false = turned entry.session n (named_differs journal entry linked.known_sessions known.placed n above) in
      let old = linked.fresh n (named_less journal entry linked.known_sessions known.placed n above) in
      (ap (λ (s : State). waiting_of n s.waiting) state_is ∙ other_waits n differ ∙ old.0, goings_there n differ ∙ old.1)

  client_same : (c : ℕ) → entry.actor ≡ Client c → client_at plan more c ≡ client_after (became (client_at plan journal c) entry) (with_draw entry.draw (client_at plan journal c))
  client_same c is = client_more plan journal entry c ∙ ap (λ (b : Bool). cond b (client_after (became (client_at plan journal c) entry) (with_draw entry.draw (client_at plan journal c))) (client_at plan journal c)) (ap (λ (a : Actor). same_actor a (Client c)) is ∙ same_number c)

  client_other : (c : ℕ) → same_actor entry.actor (Client c) ≡ false → client_at plan more c ≡ client_at plan journal c
  client_other c differ = client_more plan journal entry c ∙ ap (λ (b : Bool). cond b (client_after (became (client_at plan journal c) entry) (with_draw entry.draw (client_at plan journal c))) (client_at plan journal c)) differ

  runs_after : (c n : ℕ) → live_session more (Client c) ≡ Some n → goings n ≡ going_of (client_at plan more c)
  runs_after c n lives = live_cases journal entry linked.known_sessions known.placed (Client c) n (goings n ≡ going_of (client_at plan more c)) lives
      (λ same call is. ap goings is ∙ goings_here ∙ ap (going_on line_outcome_now) (going_here c (sym same) ∙ sym (drawn_going entry.draw (client_at plan journal c))) ∙ (own_alike c (sym same)).going ∙ ap going_of (sym (client_same c (sym same))))
      (λ differ old. goings_there n (others_differ journal entry linked.known_sessions known.placed (Client c) n differ old) ∙ linked.runs c n old ∙ ap going_of (sym (client_other c differ)))

  closed_after : (c : ℕ) → live_session more (Client c) ≡ None → going_of (client_at plan more c) ≡ not_going
  closed_after c none = none_cases (Client c) (going_of (client_at plan more c) ≡ not_going) none
      (λ same left. let is : entry.actor ≡ Client c = same_actor_is entry.actor (Client c) same in
      ap going_of (client_same c is) ∙ drawn_gone (client_at plan journal c) entry.side entry.asked entry.answer entry.missed entry.draw (request_waiting journal (Client c)) entry.session (linked.lines c) (asks_next c is) (own_heard c is) left)
      (λ differ old. ap going_of (client_other c differ) ∙ linked.closed c old)

  same_cases : (c : ℕ) (P : Type 0) → (entry.actor ≡ Client c → P) → (same_actor entry.actor (Client c) ≡ false → P) → P
  same_cases c P here there = by (same_actor entry.actor (Client c)) refl where
    by : (b : Bool) → same_actor entry.actor (Client c) ≡ b → P
    by true same = here (same_actor_is entry.actor (Client c) same)
    by false differ = there differ

  lines_after : (c : ℕ) → LineWaits (client_at plan more c) (request_waiting more (Client c))
  lines_after c = same_cases c (LineWaits (client_at plan more c) (request_waiting more (Client c))) here there where
    waits_is : (b : Bool) → same_actor entry.actor (Client c) ≡ b → request_waiting more (Client c) ≡ cond b (waits_after entry.asked entry.answer (request_waiting journal (Client c))) (request_waiting journal (Client c))
    waits_is b is = waiting_more journal entry (Client c) ∙ ap (λ (b : Bool). cond b (waits_after entry.asked entry.answer (request_waiting journal (Client c))) (request_waiting journal (Client c))) is

    here : entry.actor ≡ Client c → LineWaits (client_at plan more c) (request_waiting more (Client c))
    here is = rw (client_same c is, waits_is true (ap (λ (a : Actor). same_actor a (Client c)) is ∙ same_number c)) (own_alike c is).waits

    there : same_actor entry.actor (Client c) ≡ false → LineWaits (client_at plan more c) (request_waiting more (Client c))
    there differ = rw (client_other c differ, waits_is false differ) (linked.lines c)

  named_after : (c : ℕ) → AllByRecursion (λ line. NamesTable (client_names plan) line.word) (client_at plan more c).left
  named_after c = same_cases c (AllByRecursion (λ line. NamesTable (client_names plan) line.word) (client_at plan more c).left)
      (λ is. rw (client_same c is) (lines_stay (λ line. NamesTable (client_names plan) line.word) (became (client_at plan journal c) entry) (with_draw entry.draw (client_at plan journal c)) (drawn_named (client_names plan) entry.draw (client_at plan journal c) (linked.named c))))
      (λ differ. rw (client_other c differ) (linked.named c))

  -- what the tool's turn adds to the history
  renamed_items : (asks : Option Request) (reported : Option Answer) (g : Going) → happens (line_outcome_renamed (renames_away plan.table asks) reported) g ≡ map plain (alters plan asks reported)
  renamed_items asks (Some (answers.Ok count)) g = by (renames_away plan.table asks) where
    by : (b : Bool) → happens (line_outcome_renamed b (Some (answers.Ok count))) g ≡ map plain (cond b (histories.Alter ∷ []) [])
    by true = refl
    by false = refl
  renamed_items asks None g = by (renames_away plan.table asks) where
    by : (b : Bool) → happens (line_outcome_renamed b None) g ≡ []
    by true = refl
    by false = refl
  renamed_items asks (Some other) g = by (renames_away plan.table asks) where
    by : (b : Bool) → happens (line_outcome_renamed b (Some other)) g ≡ map plain (alters plan asks (Some other))
    by true = refl
    by false = refl

  reported_same : (asked : Asked) → (asked ≡ Cut → ⊥) → (side : Option Side) (answer : Answer) (missed : Option Answer) → (side ≡ Some Before → missed ≡ None) → reported_at side answer missed ≡ answer_in asked side answer missed
  reported_same Cut called side answer missed none = absurd (called refl)
  reported_same (Call request) called None answer missed none = refl
  reported_same (Call request) called (Some Before) answer missed none = none refl
  reported_same (Call request) called (Some After) answer missed none = refl
  reported_same Poll called None answer missed none = refl
  reported_same Poll called (Some Before) answer missed none = none refl
  reported_same Poll called (Some After) answer missed none = refl
  reported_same (Command word) called None answer missed none = refl
  reported_same (Command word) called (Some Before) answer missed none = none refl
  reported_same (Command word) called (Some After) answer missed none = refl

  missed_none : entry.side ≡ Some Before → entry.missed ≡ None
  missed_none is = known.missed ∙ ap (λ (s : Option Side). missed_at s (inner now entry)) is

  not_cut : (asked : Asked) → entry.asked ≡ asked → is_cut asked ≡ false → entry.asked ≡ Cut → ⊥
  not_cut asked asks uncut cut = true≢false (sym (ap is_cut cut) ∙ ap is_cut asks ∙ uncut)

  called_reported : (entry.asked ≡ Cut → ⊥) → (g : Going) → happens (line_outcome_renamed (renames_away plan.table (histories.about journal entry)) (reported_at entry.side entry.answer entry.missed)) g ≡ map plain (alters plan (histories.about journal entry) (answer_in entry.asked entry.side entry.answer entry.missed))
  called_reported called g =
      ap (λ (t : Option Answer). happens (line_outcome_renamed (renames_away plan.table (histories.about journal entry)) t) g) (reported_same entry.asked called entry.side entry.answer entry.missed missed_none)
      ∙ renamed_items (histories.about journal entry) (answer_in entry.asked entry.side entry.answer entry.missed) g

  tool_reported : (asked : Asked) → entry.asked ≡ asked → (g : Going) → happens (line_outcome_renamed (renames_away plan.table (histories.about journal entry)) (reported_at entry.side entry.answer entry.missed)) g ≡ map plain (alters plan (histories.about journal entry) (answer_in entry.asked entry.side entry.answer entry.missed))
  tool_reported Cut asks g =
      ap (λ (t : Option Answer). happens (line_outcome_renamed (renames_away plan.table (histories.about journal entry)) t) g) lost_reported ∙ never (renames_away plan.table (histories.about journal entry))
      ∙ ap (λ (a : Asked). map plain (alters plan (histories.about journal entry) (answer_in a entry.side entry.answer entry.missed))) (sym asks) where
        no_side : entry.side ≡ None
        no_side = known.sides (ap may_lose asks)

        lost : entry.answer ≡ answers.Lost
        lost = known.answer ∙ ap (λ (s : Option Side). answer_at s (inner now entry)) no_side ∙ ap (λ (a : Asked). (serves open_now entry.session a).answer) asks

        lost_reported : reported_at entry.side entry.answer entry.missed ≡ Some answers.Lost
        lost_reported = ap (λ (s : Option Side). reported_at s entry.answer entry.missed) no_side ∙ ap Some lost

        never : (b : Bool) → happens (line_outcome_renamed b (Some answers.Lost)) g ≡ []
        never true = refl
        never false = refl
  tool_reported (Call request) asks g = called_reported (not_cut (Call request) asks refl) g
  tool_reported Poll asks g = called_reported (not_cut Poll asks refl) g
  tool_reported (Command word) asks g = called_reported (not_cut (Command word) asks refl) g

  adds_tool : (a : Actor) → is_client a ≡ false → adds plan journal entry a ≡ alters plan (histories.about journal entry) (answer_in entry.asked entry.side entry.answer entry.missed)
  adds_tool (Client c) tool = absurd (true≢false tool)
  adds_tool a tool = refl

  -- what the turn adds is the same
  adds_same : happens line_outcome_now (going entry.session) ≡ map plain (adds plan journal entry entry.actor)
  adds_same = by_actor (happens line_outcome_now (going entry.session) ≡ map plain (adds plan journal entry entry.actor)) own tool where
    own : (c : ℕ) → entry.actor ≡ Client c → happens line_outcome_now (going entry.session) ≡ map plain (adds plan journal entry entry.actor)
    own c is = ap (happens line_outcome_now) (going_here c is ∙ sym (drawn_going entry.draw (client_at plan journal c))) ∙ (own_alike c is).items ∙ ap (λ (a : Actor). map plain (adds plan journal entry a)) (sym is)

    tool : is_client entry.actor ≡ false → IsAway plan journal entry → happens line_outcome_now (going entry.session) ≡ map plain (adds plan journal entry entry.actor)
    tool no_client away =
        ap (λ (own : Bool). happens (line_outcome_if own (scene_of plan whole) open_now entry.session entry.asked entry.side entry.answer entry.missed entry.draw) (going entry.session)) (tool_kind no_client)
        ∙ ap (λ (asks : Option Request). happens (line_outcome_renamed (renames_away plan.table asks) (reported_at entry.side entry.answer entry.missed)) (going entry.session)) about_is
        ∙ tool_reported entry.asked refl (going entry.session) ∙ ap (map plain) (sym (adds_tool entry.actor no_client))

  items_after : past ++ happens line_outcome_now (going entry.session) ≡ map plain (histories.history plan more)
  unfolding histories.history
  items_after =
      ap (λ (p : List PlainItem). p ++ happens line_outcome_now (going entry.session)) linked.items ∙ ap (λ (p : List PlainItem). map plain (histories.history plan journal) ++ p) adds_same
      ∙ sym (map-append plain (histories.history plan journal) (adds plan journal entry entry.actor)) ∙ ap (map plain) (sym (gathered-more (histories.entry_adds plan) [] journal entry))

  pub linked_more : Linked plan more goings (past ++ happens line_outcome_now (going entry.session))
  linked_more = record {
    known_sessions = sessions_more journal entry linked.known_sessions known.placed;
    waiting = waiting_after;
    unheld = unheld_after;
    fresh = fresh_after;
    runs = runs_after;
    closed = closed_after;
    lines = lines_after;
    named = named_after;
    items = items_after;
  }

  -- WHAT THE TURN MAY ASK

  open_busy : is_busy entry.session open_now ≡ is_in_transaction (session_of entry.session now.sessions)
  open_busy = face_busy entry.session open_now ∙ ap (λ (f : Face). f.busy) (faces_opened (is_command entry.asked) (not (is_client entry.actor)) entry.session entry.session now) ∙ sym (face_busy entry.session now)

  client_asks_line : (c : ℕ) → entry.actor ≡ Client c → (request : Request) → entry.asked ≡ Call request → ClientAsks (scene_of plan whole) request
  client_asks_line c is request asks = by (asks_next c is) where
    by : AsksNext (client_at plan journal c) entry.asked → ClientAsks (scene_of plan whole) request
    by (Calls line lines free left also) =
        subst (λ (r : Request). ClientAsks (scene_of plan whole) r) (call_same (sym also ∙ asks))
        (subst (λ (w : Option ScriptWord). LineOf (scene_of plan whole) w) (sym (word_back line.word)) (subst (AllByRecursion (λ line. NamesTable (client_names plan) line.word)) left (linked.named c)).0) where
          call_same : Call (word_asks line.word) ≡ Call request → word_asks line.word ≡ request
          call_same same = cc
    by (Polls held polled) = absurd (call_poll (sym asks ∙ polled)) where
      call_poll : Call request ≡ Poll → ⊥
      call_poll same = cc
    by (IsCut cut) = absurd (call_cut (sym asks ∙ cut)) where
      call_cut : Call request ≡ Cut → ⊥
      call_cut same = cc

  may_here : MayAsk (scene_of plan whole) entry.session entry.asked
  may_here = by entry.asked refl where
    by : (asked : Asked) → entry.asked ≡ asked → MayAsk (scene_of plan whole) entry.session asked
    by Poll asks = tt
    by Cut asks = tt
    by (Command word) asks = tt
    by (Call request) asks = by_actor (MayAskIf (is_client_session whole entry.session) (scene_of plan whole) request)
        (λ c is. subst (λ (own : Bool). MayAskIf own (scene_of plan whole) request) (sym (own_kind c is)) (client_asks_line c is request asks))
        (λ tool away. subst (λ (own : Bool). MayAskIf own (scene_of plan whole) request) (sym (tool_kind tool)) (subst (λ (a : Asked). AsksAway plan a) asks away.asks))

  -- what a client's turn is about is a line, or nothing
  line_about : (P : Option Request → Type 0) → P None → ((word : ScriptWord) → P (Some (word_asks word))) → (client : Reached) (old : Option Request) → LineWaits client old → (asked : Asked) → AsksNext client asked → P (asked_about asked old)
  line_about P none some client old waits asked (Calls line lines free left asks) = subst (λ (a : Asked). P (asked_about a old)) (sym asks) (some line.word)
  line_about P none some client old (Free free no_wait) asked (Polls held asks) = absurd (true≢false (sym held ∙ free))
  line_about P none some client old (Held line lines held left wait) asked (Polls again asks) = subst (λ (a : Asked). P (asked_about a old)) (sym asks) (subst P (sym wait) (some line.word))
  line_about P none some client old (Free free no_wait) asked (IsCut asks) = subst (λ (a : Asked). P (asked_about a old)) (sym asks) (subst P (sym no_wait) none)
  line_about P none some client old (Held line lines held left wait) asked (IsCut asks) = subst (λ (a : Asked). P (asked_about a old)) (sym asks) (subst P (sym wait) (some line.word))

  own_about : (P : Option Request → Type 0) → P None → ((word : ScriptWord) → P (Some (word_asks word))) → (c : ℕ) → entry.actor ≡ Client c → P (histories.about journal entry)
  own_about P none some c is = subst (λ (a : Actor). P (asked_about entry.asked (request_waiting journal a))) (sym is) (line_about P none some (client_at plan journal c) (request_waiting journal (Client c)) (linked.lines c) entry.asked (asks_next c is))

  no_loss : (asked : Asked) → is_command asked ≡ true → may_lose asked ≡ false
  no_loss (Command word) is = refl
  no_loss (Call request) is = absurd (false≢true is)
  no_loss Poll is = absurd (false≢true is)
  no_loss Cut is = absurd (false≢true is)

  -- what was told is told in the journal's words, where it is an answer of a request
  reported_ok : reported_at entry.side entry.answer entry.missed ≡ Some ok → (entry.asked ≡ Cut → ⊥) → answer_in entry.asked entry.side entry.answer entry.missed ≡ Some ok
  reported_ok reported called = sym (reported_same entry.asked called entry.side entry.answer entry.missed missed_none) ∙ reported

  no_cut_reported : entry.asked ≡ Cut → reported_at entry.side entry.answer entry.missed ≡ Some ok → ⊥
  no_cut_reported cut reported = lost_ok (sym lost_reported ∙ reported) where
    no_side : entry.side ≡ None
    no_side = known.sides (ap may_lose cut)

    lost_reported : reported_at entry.side entry.answer entry.missed ≡ Some answers.Lost
    lost_reported = ap (λ (s : Option Side). reported_at s entry.answer entry.missed) no_side ∙ ap Some (known.answer ∙ ap (λ (s : Option Side). answer_at s (inner now entry)) no_side ∙ ap (λ (a : Asked). (serves open_now entry.session a).answer) cut)

    lost_ok : Some answers.Lost ≡ Some ok → ⊥
    lost_ok same = cc

  pub allowed_here : IsAllowed (record { client_wait = plan.options.client_wait; tool_wait = plan.options.tool_wait }) (scene_of plan whole) journal entry
  allowed_here = record {
    may = may_here;
    commands = λ is. known.sides (no_loss entry.asked is);
    rests = subst (λ (asks : Option Request). AtRest (is_busy entry.session open_now) asks) (sym about_is) (by_actor (AtRest (is_busy entry.session open_now) (histories.about journal entry))
        (λ c is. own_about (λ asks. AtRest (is_busy entry.session open_now) asks) tt (λ word. word_rests word (is_busy entry.session open_now)) c is)
        (λ tool away. subst (λ (b : Bool). AtRest b (histories.about journal entry)) (sym open_busy) away.rests));
    renames = λ reported. subst (λ (asks : Option Request). RenamesSo (scene_of plan whole) now.tables asks) (sym about_is) (by_actor (RenamesSo (scene_of plan whole) now.tables (histories.about journal entry))
        (λ c is. own_about (λ asks. RenamesSo (scene_of plan whole) now.tables asks) tt (word_renames (scene_of plan whole) now.tables) c is)
        (λ tool away. exchanged reported away));
  } where
    exchanged : reported_at entry.side entry.answer entry.missed ≡ Some ok → IsAway plan journal entry → RenamesSo (scene_of plan whole) now.tables (histories.about journal entry)
    exchanged reported away = renames_any plan whole now.tables (histories.about journal entry) (away.exchanges (reported_ok reported (λ cut. no_cut_reported cut reported)))
