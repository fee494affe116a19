-- Each session on the server is the live session of an actor of the plan's.
use Rattle.std.proofs.Common.{◌≡◌, ℕ, suc, zero, ◌+◌, ◌-◌, ◌≤◌, ◌==◌, Bool, true, false, not, ◌||◌, List, [], ◌∷◌, ◌++◌, cond, Option, Some, None, refl, sym, ap, ◌∙◌, subst, arith}
use Rattle.std.specs.Prelude.{find, is_some}
use Rattle.std.specs.List.{slice_get, list_any}
use Rattle.std.specs.Option.{option_map}
use Rattle.std.proofs.lemmas.Bool.{true≢false, false≢true}
use Rattle.std.proofs.lemmas.Bool.Decides.{nat_tests}
use Rattle.base_script.specs.declared.actor.Actor.{Actor}
use Rattle.base_script.specs.declared.actor.Actor.TheVariants.{Op, Insp, Copy, Apply, Lock, Ren, Client}
use Rattle.base_script.specs.declared.actor.Side.{Side}
use Rattle.base_script.specs.declared.operator.OperatorWord.{OperatorWord}
use Rattle.base_script.specs.declared.script.ScriptLine.{ScriptLine}
use Rattle.server_model.specs.Along.{Along-both, Along-keeps}
use Rattle.server_model.specs.declared.answer.Answer.{Answer}
use Rattle.server_model.specs.declared.answer.Answer.TheVariants as answers
use Rattle.server_model.specs.declared.entry.Asked.{Asked}
use Rattle.server_model.specs.declared.entry.Asked.TheVariants.{Call, Poll, Command, Cut}
use Rattle.server_model.specs.declared.entry.Entry.{Entry}
use Rattle.server_model.specs.declared.request.Request.{Request}
use Rattle.server_model.specs.declared.session.Session.{Session}
use Rattle.server_model.specs.declared.session.Waiting.{Waiting}
use Rattle.server_model.specs.Blockers.{need, blocker}
use Rattle.server_model.specs.Entries.{same_actor, is_client, is_command, is_cut}
use Rattle.server_model.specs.PlainServer.{calls, called_unless, done, is_over, leaves, polled_of, polled_over, polled_unless, polls, serves, without_waiting}
use Rattle.server_model.specs.States.{State, session_of, waiting_of}
use Rattle.server_model.proofs.LockedRows.Tests.{same_number, are_one}
use Rattle.plan_data.specs.PlanData.{PlanData}
use Rattle.tool_program.specs.JournalWords.Clients.{client_asks, client_at, line_asks, script_of, word_asks}
use Rattle.tool_program.specs.JournalWords.KeptPlans.{words_of}
use Rattle.tool_program.specs.JournalWords.Journals.{after_entry, heard, inner_answer, opening, opens, state_after, state_at, IsAnswered, IsFaithful}
use Rattle.tool_program.specs.JournalWords.Sessions.{live_session, session_left, IsSeated, KeepsSessions}
use Rattle.tool_program.specs.Orders.{actors, clients_from}
use Rattle.tool_program.specs.Programs.{commands, given, IsFollowed, IsGiven, Follows}
use Rattle.tool_program.specs.Tools.{moment}
use Rattle.tool_finish.specs.Finishes.{first_live}
use Rattle.proof_journals.specs.Run.Counts.{kind_of}
use Rattle.proof_journals.specs.Run.Kept.{IsKept}
use Rattle.proof_journals.specs.Run.Laws.{Living, NoneWaits}
use Rattle.proof_journals.proofs.Actors.{same_actor_is, same_actor_itself, live_more, Placed, Commands, GoesOn, Begins, placed, SessionsKnown, sessions_begin}
use Rattle.proof_journals.proofs.Journals.{state_more}
use Rattle.proof_journals.proofs.Run.Keeping.{tool_asks_none}
use Rattle.proof_journals.proofs.Run.Living.{Both, both_more, living_begin}
use Rattle.proof_journals.proofs.Run.Turns.{leaves_recounted, is_lost, kind_left, Leaves, turn_leaves, opened_kind, Opens, opened}
use Rattle.proof_journals.proofs.Waiting.{IsDone, done_answers}
use Rattle.run_state.proofs.Clients.{stranger_silent}

-- WHO ASKS WHAT

-- commands are the operator's, who asks nothing else; and a client that the plan doesn't have asks nothing
pub record IsOfPlan (plan : PlanData) (actor : Actor) (asked : Asked) : Type 0 where
  pub command : is_command asked ≡ true → actor ≡ Op
  pub operator : actor ≡ Op → is_cut asked ≡ false → is_command asked ≡ true
  pub planned : (c : ℕ) → actor ≡ Client c → script_of c plan ≡ None → is_cut asked ≡ true

tool_of_plan : (plan : PlanData) (journal : List Entry) (actor : Actor) (asked : Asked) → (actor ≡ Op → ⊥) → ((c : ℕ) → actor ≡ Client c → ⊥) → is_command asked ≡ false → IsOfPlan plan actor asked
tool_of_plan plan journal actor asked off none called = record {
  command = λ is. absurd (true≢false (sym is ∙ called));
  operator = λ same uncut. absurd (off same);
  planned = λ c same script. absurd (none c same);
}

line_called : (waits : Bool) (left : List ScriptLine) (asked : Asked) → line_asks waits left ≡ Some asked → is_command asked ≡ false
line_called waits [] asked is = absurd (cc)
line_called true (line ∷ lines) asked is = let same : Poll ≡ asked = cc in ap is_command (sym same)
line_called false (line ∷ lines) asked is = let same : Call (word_asks line.word) ≡ asked = cc in ap is_command (sym same)

client_called : (plan : PlanData) (journal : List Entry) (c : ℕ) (asked : Asked) → client_asks plan journal c ≡ Some asked → is_command asked ≡ false
unfolding client_asks
client_called plan journal c asked is = by (client_at plan journal c).is_lost is where
  by : (b : Bool) → cond b None (line_asks (client_at plan journal c).waits (client_at plan journal c).left) ≡ Some asked → is_command asked ≡ false
  by true is = absurd (cc)
  by false is = line_called (client_at plan journal c).waits (client_at plan journal c).left asked is

given_of_plan : (plan : PlanData) (journal : List Entry) (actor : Actor) (asked : Asked) → given plan journal actor ≡ Some asked → IsOfPlan plan actor asked
unfolding given
given_of_plan plan journal (Client c) asked is = record {
  command = λ commanded. absurd (true≢false (sym commanded ∙ client_called plan journal c asked is));
  operator = λ same uncut. absurd (cc);
  planned = λ n same script. let one : c ≡ n = cc in let none : client_asks plan journal c ≡ None = stranger_silent plan journal c (ap (λ (m : ℕ). script_of m plan) one ∙ script) in absurd (cc);
}
given_of_plan plan journal Op asked is = by (slice_get (words_of plan) (moment plan journal).tool.operator.taken) is where
  by : (word : Option OperatorWord) → commands word ≡ Some asked → IsOfPlan plan Op asked
  by None is = absurd (cc)
  by (Some word) is = let same : Command word ≡ asked = cc in record { command = λ commanded. refl; operator = λ one uncut. ap is_command (sym same); planned = λ c one script. absurd (cc) }
given_of_plan plan journal Insp asked is = tool_of_plan plan journal Insp asked (λ same. cc) (λ c same. cc) (tool_asks_none plan journal Insp asked is)
given_of_plan plan journal Copy asked is = tool_of_plan plan journal Copy asked (λ same. cc) (λ c same. cc) (tool_asks_none plan journal Copy asked is)
given_of_plan plan journal Apply asked is = tool_of_plan plan journal Apply asked (λ same. cc) (λ c same. cc) (tool_asks_none plan journal Apply asked is)
given_of_plan plan journal Lock asked is = tool_of_plan plan journal Lock asked (λ same. cc) (λ c same. cc) (tool_asks_none plan journal Lock asked is)
given_of_plan plan journal Ren asked is = tool_of_plan plan journal Ren asked (λ same. cc) (λ c same. cc) (tool_asks_none plan journal Ren asked is)

pub followed_of_plan : (plan : PlanData) (journal : List Entry) (entry : Entry) → IsFollowed plan journal entry → IsOfPlan plan entry.actor entry.asked
followed_of_plan plan journal entry followed = by entry.asked refl followed.given where
  by : (asked : Asked) → entry.asked ≡ asked → IsGiven plan journal entry asked → IsOfPlan plan entry.actor asked
  by Cut same is = record { command = λ commanded. absurd (false≢true commanded); operator = λ op uncut. absurd (true≢false uncut); planned = λ c one script. refl }
  by (Call request) same is = given_of_plan plan journal entry.actor (Call request) is
  by Poll same is = given_of_plan plan journal entry.actor Poll is
  by (Command word) same is = given_of_plan plan journal entry.actor (Command word) is

-- WHAT IS HEARD

-- a call or a poll that isn't lost isn't answered so
abbrev pub IsHeard : Answer → Type 0
IsHeard answers.Lost = ⊥
IsHeard answer = Unit {0}

pub done_heard : (answer : Answer) → IsDone answer → IsHeard answer
done_heard answers.Lost is = is
done_heard other is = tt

called_heard : (state : State) (number : ℕ) (request : Request) → IsHeard (calls state number request).answer
unfolding calls
called_heard state number request = by (blocker state number (need state number request)) where
  by : (blocked : Option ℕ) → IsHeard (called_unless blocked state number request).answer
  by None = done_heard (done state number request).answer (done_answers state number request)
  by (Some other) = tt

polled_heard : (state : State) (number : ℕ) → IsHeard (polls state number).answer
unfolding polls
polled_heard state number = at (waiting_of number state.waiting) where
  over : (b : Bool) (by : ℕ) → IsHeard (polled_over b by state number).answer
  over true by = tt
  over false by = tt

  unless : (request : Request) (by : Option ℕ) → IsHeard (polled_unless by state number request).answer
  unless request None = done_heard (done (without_waiting number state) number request).answer (done_answers (without_waiting number state) number request)
  unless request (Some by) = over (is_over state number) by

  at : (waiting : Option Waiting) → IsHeard (polled_of waiting state number).answer
  at None = tt
  at (Some waiting) = unless waiting.request (blocker state number (need state number waiting.request))

pub heard_left : (asked : Asked) (answer : Answer) (session : ℕ) → is_command asked ≡ false → IsHeard answer → session_left asked answer session ≡ Some session
heard_left (Command word) answer session called is = absurd (true≢false called)
heard_left (Call request) answers.Lost session called is = absurd is
heard_left Poll answers.Lost session called is = absurd is
heard_left Cut answers.Lost session called is = absurd is
heard_left (Call request) other session called is = refl
heard_left Poll other session called is = refl
heard_left Cut other session called is = refl

-- a turn that loses no session leaves its actor its session
unlost_left : (state : State) (entry : Entry) → IsAnswered state entry → is_lost entry.side entry.asked ≡ false → is_command entry.asked ≡ false → session_left entry.asked entry.answer entry.session ≡ Some entry.session
unfolding inner_answer
unlost_left state entry answered unlost called = by entry.side refl entry.asked refl unlost called where
  heard_is : (side : Option Side) → entry.side ≡ side → entry.answer ≡ heard side (inner_answer state entry)
  heard_is side is = answered.answer ∙ ap (λ (s : Option Side). heard s (inner_answer state entry)) is

  given : (asked : Asked) → entry.asked ≡ asked → entry.side ≡ None → is_cut asked ≡ false → heard None (inner_answer state entry) ≡ (serves (opens entry state) entry.session asked).answer
  given (Call request) is none uncut = rw (is, none) refl
  given Poll is none uncut = rw (is, none) refl
  given (Command word) is none uncut = rw (is, none) refl
  given Cut is none uncut = absurd (true≢false uncut)

  by : (side : Option Side) → entry.side ≡ side → (asked : Asked) → entry.asked ≡ asked → is_lost side asked ≡ false → is_command asked ≡ false → session_left entry.asked entry.answer entry.session ≡ Some entry.session
  by (Some side) at asked is unlost called = absurd (true≢false unlost)
  by None at Cut is unlost called = absurd (true≢false unlost)
  by None at (Command word) is unlost called = absurd (true≢false called)
  by None at (Call request) is unlost called =
      heard_left entry.asked entry.answer entry.session (ap is_command is)
      (subst IsHeard (sym (heard_is None at ∙ given (Call request) is at refl)) (called_heard (opens entry state) entry.session request))
  by None at Poll is unlost called =
      heard_left entry.asked entry.answer entry.session (ap is_command is) (subst IsHeard (sym (heard_is None at ∙ given Poll is at refl)) (polled_heard (opens entry state) entry.session))

-- WHOSE EACH SESSION IS

-- the operator has no session, nor has a client that the plan doesn't have; and who is no actor's isn't on the server
pub record IsOwned (plan : PlanData) (journal : List Entry) (state : State) : Type 0 where
  pub operator : live_session journal Op ≡ None
  pub planned : (c : ℕ) → script_of c plan ≡ None → live_session journal (Client c) ≡ None
  pub owned : (k : ℕ) → ((a : Actor) → live_session journal a ≡ Some k → ⊥) → kind_of k state.sessions ≡ None

commanded_left : (asked : Asked) (answer : Answer) (session : ℕ) → is_command asked ≡ true → session_left asked answer session ≡ None
commanded_left (Command word) answer session is = refl
commanded_left (Call request) answer session is = absurd (false≢true is)
commanded_left Poll answer session is = absurd (false≢true is)
commanded_left Cut answer session is = absurd (false≢true is)

cut_called : (asked : Asked) → is_cut asked ≡ true → is_command asked ≡ false
cut_called Cut is = refl
cut_called (Call request) is = refl
cut_called Poll is = refl
cut_called (Command word) is = absurd (false≢true is)

module _ (plan : PlanData) (journal : List Entry) (state : State) (entry : Entry) (known : SessionsKnown journal) (living : Living journal state) (at : Placed journal entry) (answered : IsAnswered state entry) (of_plan : IsOfPlan plan entry.actor entry.asked) (own : IsOwned plan journal state) where
  abbrev more : List Entry
  more = journal ++ entry ∷ []

  open_rec : Opens (is_command entry.asked) (not (is_client entry.actor)) entry.session state (opens entry state)
  open_rec = opened (is_command entry.asked) (not (is_client entry.actor)) entry.session state

  left_rec : Leaves (is_lost entry.side entry.asked) entry.session (opens entry state) (after_entry state entry)
  left_rec = leaves_recounted (is_lost entry.side entry.asked) entry.session (opens entry state) (leaves entry.side (opens entry state) entry.session entry.asked) _ (turn_leaves entry.side (opens entry state) entry.session entry.asked)

  -- who is lost between calls had a session
  cut_lives : is_cut entry.asked ≡ true → live_session journal entry.actor ≡ Some entry.session
  cut_lives cut = by at where
    by : Placed journal entry → live_session journal entry.actor ≡ Some entry.session
    by (Commands command numberless) = absurd (true≢false (sym command ∙ cut_called entry.asked cut))
    by (GoesOn call live) = live
    by (Begins call uncut live above) = absurd (true≢false (sym cut ∙ uncut))

  operator_more : live_session more Op ≡ None
  operator_more = live_more journal entry Op ∙ by (same_actor entry.actor Op) refl where
    here : entry.actor ≡ Op → (b : Bool) → is_cut entry.asked ≡ b → session_left entry.asked entry.answer entry.session ≡ None
    here is true cut = absurd (no (sym own.operator ∙ ap (live_session journal) (sym is) ∙ cut_lives cut)) where
      no : None ≡ Some entry.session → ⊥
      no same = cc
    here is false uncut = commanded_left entry.asked entry.answer entry.session (of_plan.operator is uncut)

    by : (b : Bool) → same_actor entry.actor Op ≡ b → cond b (session_left entry.asked entry.answer entry.session) (live_session journal Op) ≡ None
    by true same = here (same_actor_is entry.actor Op same) (is_cut entry.asked) refl
    by false other = own.operator

  planned_more : (c : ℕ) → script_of c plan ≡ None → live_session more (Client c) ≡ None
  planned_more c none = live_more journal entry (Client c) ∙ by (same_actor entry.actor (Client c)) refl where
    no : None ≡ Some entry.session → ⊥
    no same = cc

    by : (b : Bool) → same_actor entry.actor (Client c) ≡ b → cond b (session_left entry.asked entry.answer entry.session) (live_session journal (Client c)) ≡ None
    by true same =
        let is : entry.actor ≡ Client c = same_actor_is entry.actor (Client c) same in
        absurd (no (sym (own.planned c none) ∙ ap (live_session journal) (sym is) ∙ cut_lives (of_plan.planned c is none)))
    by false other = own.planned c none

  -- another session's actor keeps it
  other_lives : (a : Actor) (k : ℕ) → (k == entry.session) ≡ false → live_session journal a ≡ Some k → live_session more a ≡ Some k
  other_lives a k differ lives = live_more journal entry a ∙ by (same_actor entry.actor a) refl where
    elsewhere : live_session journal entry.actor ≡ Some k → Placed journal entry → ⊥
    elsewhere its (Commands command numberless) = no (sym own.operator ∙ ap (live_session journal) (sym (of_plan.command command)) ∙ its) where
      no : None ≡ Some k → ⊥
      no same = cc
    elsewhere its (GoesOn call live) =
        let same : entry.session ≡ k = some_same (sym live ∙ its) in true≢false (sym (same_number k) ∙ ap (λ (n : ℕ). k == n) (sym same) ∙ differ) where
          some_same : Some entry.session ≡ Some k → entry.session ≡ k
          some_same same = cc
    elsewhere its (Begins call uncut live above) = no (sym live ∙ its) where
      no : None ≡ Some k → ⊥
      no same = cc

    by : (b : Bool) → same_actor entry.actor a ≡ b → cond b (session_left entry.asked entry.answer entry.session) (live_session journal a) ≡ Some k
    by false other = lives
    by true same = absurd (elsewhere (ap (live_session journal) (same_actor_is entry.actor a same) ∙ lives) at)

  none_opened : (nothing tool : Bool) → nothing ≡ true → opened_kind nothing tool None ≡ None
  none_opened true tool is = refl
  none_opened false tool is = absurd (false≢true is)

  -- the turn's own session is its actor's, or gone
  here_owned : (lost command : Bool) → is_lost entry.side entry.asked ≡ lost → is_command entry.asked ≡ command → ((a : Actor) → live_session more a ≡ Some entry.session → ⊥) → kind_of entry.session (after_entry state entry).sessions ≡ None
  here_owned true command lost called none = left_rec.own ∙ ap (λ (b : Bool). kind_left b (kind_of entry.session (opens entry state).sessions)) lost
  here_owned false false lost called none =
      absurd (none entry.actor (live_more journal entry entry.actor ∙ ap (λ (b : Bool). cond b (session_left entry.asked entry.answer entry.session) (live_session journal entry.actor)) (same_actor_itself entry.actor) ∙ unlost_left state entry answered lost called))
  here_owned false true lost called none =
      left_rec.own ∙ ap (λ (b : Bool). kind_left b (kind_of entry.session (opens entry state).sessions)) lost ∙ open_rec.own
      ∙ ap (opened_kind (is_command entry.asked) (not (is_client entry.actor))) (own.owned entry.session (λ a lives. unnumbered a (subst (λ (n : ℕ). live_session journal a ≡ Some n) (zeroth at) lives)))
      ∙ none_opened (is_command entry.asked) (not (is_client entry.actor)) called where
        zeroth : Placed journal entry → entry.session ≡ 0
        zeroth (Commands command numberless) = numberless
        zeroth (GoesOn call live) = absurd (true≢false (sym called ∙ call))
        zeroth (Begins call uncut live above) = absurd (true≢false (sym called ∙ call))

        unnumbered : (a : Actor) → live_session journal a ≡ Some 0 → ⊥
        unnumbered a lives = let one : 1 ≤ 0 = (known.own a 0 lives).0 in absurd (omega (arith, one))

  owned_more : (k : ℕ) → ((a : Actor) → live_session more a ≡ Some k → ⊥) → kind_of k (after_entry state entry).sessions ≡ None
  owned_more k none = by (k == entry.session) refl where
    by : (b : Bool) → (k == entry.session) ≡ b → kind_of k (after_entry state entry).sessions ≡ None
    by true same =
        let is : k ≡ entry.session = are_one k entry.session same in
        ap (λ (n : ℕ). kind_of n (after_entry state entry).sessions) is
        ∙ here_owned (is_lost entry.side entry.asked) (is_command entry.asked) refl refl (λ a lives. none a (lives ∙ ap Some (sym is)))
    by false differ = left_rec.kinds k differ ∙ open_rec.kinds k differ ∙ own.owned k (λ a lives. none a (other_lives a k differ lives))

  pub is_owned_more : IsOwned plan more (after_entry state entry)
  is_owned_more = record { operator = operator_more; planned = planned_more; owned = owned_more }

-- ALONG A JOURNAL

pub record Owners (plan : PlanData) (journal : List Entry) : Type 0 where
  pub both : Both plan journal
  pub owned : IsOwned plan journal (state_at plan journal)

pub owners_more : (plan : PlanData) (journal : List Entry) (entry : Entry) → IsAnswered (state_at plan journal) entry × IsSeated journal entry → IsOfPlan plan entry.actor entry.asked → Owners plan journal → Owners plan (journal ++ entry ∷ [])
owners_more plan journal entry turn of_plan owners = record {
  both = both_more plan journal entry turn owners.both;
  owned = subst (IsOwned plan (journal ++ entry ∷ [])) (sym (state_more (opening plan) journal entry)) (is_owned_more plan journal (state_at plan journal) entry owners.both.known owners.both.living (placed journal entry turn.1) turn.0 of_plan owners.owned);
}

owners_begin : (plan : PlanData) → Owners plan []
unfolding live_session state_after
owners_begin plan = record { both = record { known = sessions_begin; living = living_begin plan }; owned = record { operator = refl; planned = λ c none. refl; owned = λ k none. refl } }

-- *The sessions of a journal that follows the program are its actors'*
pub owners_of : (plan : PlanData) (run : List Entry) → IsFaithful plan run → KeepsSessions run → Follows plan run → Owners plan run
unfolding KeepsSessions Follows
owners_of plan run faithful sessions follows =
    Along-keeps (λ before entry. (IsAnswered (state_at plan before) entry × IsSeated before entry) × IsFollowed plan before entry) (Owners plan)
    (λ before entry turn owners. owners_more plan before entry turn.0 (followed_of_plan plan before entry turn.1) owners) [] run
    (Along-both (λ before entry. IsAnswered (state_at plan before) entry × IsSeated before entry) (IsFollowed plan) [] run
    (Along-both (λ before entry. IsAnswered (state_at plan before) entry) IsSeated [] run faithful sessions) follows) (owners_begin plan)

pub run_owners : (plan : PlanData) (run : List Entry) → IsKept plan run → Owners plan run
run_owners plan run kept = owners_of plan run kept.faithful kept.sessions kept.follows

-- WHERE NO ACTOR HAS A SESSION

first_none : {X : Type 0} (b : Bool) (x : X) (rest : Option X) → cond b (Some x) rest ≡ None → (b ≡ false) × (rest ≡ None)
first_none true x rest is = absurd (cc)
first_none false x rest is = (refl, is)

found_none : (p : Actor → Bool) (n : ℕ) (scripts : List (List ScriptLine)) → find p (clients_from n scripts) ≡ None → (i : ℕ) (script : List ScriptLine) → slice_get scripts i ≡ Some script → p (Client (n + i)) ≡ false
unfolding clients_from
found_none p n [] none i script at = absurd (cc)
found_none p n (first ∷ scripts) none zero script at = let same : n + 0 ≡ n = omega arith in rw same (first_none (p (Client n)) (Client n) (find p (clients_from (n + 1) scripts)) none).0
found_none p n (first ∷ scripts) none (suc i) script at =
    let same : n + suc i ≡ n + 1 + i = omega arith in rw same (found_none p (n + 1) scripts (first_none (p (Client n)) (Client n) (find p (clients_from (n + 1) scripts)) none).1 i script at)

none_live : (live : Option ℕ) → is_some live ≡ false → live ≡ None
none_live None is = refl
none_live (Some session) is = absurd (true≢false is)

module _ (plan : PlanData) (journal : List Entry) (none : first_live plan journal ≡ None) where
  abbrev lives : Actor → Bool
  lives actor = is_some (live_session journal actor)

  abbrev clients : List Actor
  clients = clients_from 1 plan.clients

  unlisted : find lives (Op ∷ Insp ∷ Copy ∷ Apply ∷ Lock ∷ Ren ∷ clients) ≡ None
  unfolding first_live actors
  unlisted = none

  after_op : (lives Op ≡ false) × (find lives (Insp ∷ Copy ∷ Apply ∷ Lock ∷ Ren ∷ clients) ≡ None)
  after_op = first_none (lives Op) Op (find lives (Insp ∷ Copy ∷ Apply ∷ Lock ∷ Ren ∷ clients)) unlisted

  after_insp : (lives Insp ≡ false) × (find lives (Copy ∷ Apply ∷ Lock ∷ Ren ∷ clients) ≡ None)
  after_insp = first_none (lives Insp) Insp (find lives (Copy ∷ Apply ∷ Lock ∷ Ren ∷ clients)) after_op.1

  after_copy : (lives Copy ≡ false) × (find lives (Apply ∷ Lock ∷ Ren ∷ clients) ≡ None)
  after_copy = first_none (lives Copy) Copy (find lives (Apply ∷ Lock ∷ Ren ∷ clients)) after_insp.1

  after_apply : (lives Apply ≡ false) × (find lives (Lock ∷ Ren ∷ clients) ≡ None)
  after_apply = first_none (lives Apply) Apply (find lives (Lock ∷ Ren ∷ clients)) after_copy.1

  after_lock : (lives Lock ≡ false) × (find lives (Ren ∷ clients) ≡ None)
  after_lock = first_none (lives Lock) Lock (find lives (Ren ∷ clients)) after_apply.1

  after_ren : (lives Ren ≡ false) × (find lives clients ≡ None)
  after_ren = first_none (lives Ren) Ren (find lives clients) after_lock.1

  client_none : (state : State) → IsOwned plan journal state → (c : ℕ) → live_session journal (Client c) ≡ None
  client_none state own c = by (script_of c plan) refl where
    numbered : (n : ℕ) (script : List ScriptLine) → script_of n plan ≡ Some script → lives (Client n) ≡ false
    numbered zero script is = absurd (cc)
    numbered (suc i) script is = let same : 1 + i ≡ suc i = omega arith in subst (λ (n : ℕ). lives (Client n) ≡ false) same (found_none lives 1 plan.clients after_ren.1 i script (sym there ∙ is)) where
      off : (suc i == 0) ≡ false
      off = grind (arith, nat_tests)

      there : script_of (suc i) plan ≡ slice_get plan.clients i
      there = let less : suc i - 1 ≡ i = omega arith in ap (λ (b : Bool). cond b None (slice_get plan.clients (suc i - 1))) off ∙ ap (slice_get plan.clients) less

    by : (script : Option (List ScriptLine)) → script_of c plan ≡ script → live_session journal (Client c) ≡ None
    by None is = own.planned c is
    by (Some script) is = none_live (live_session journal (Client c)) (numbered c script is)

  pub nobody_lives : (state : State) → IsOwned plan journal state → (a : Actor) → live_session journal a ≡ None
  nobody_lives state own Op = none_live (live_session journal Op) after_op.0
  nobody_lives state own Insp = none_live (live_session journal Insp) after_insp.0
  nobody_lives state own Copy = none_live (live_session journal Copy) after_copy.0
  nobody_lives state own Apply = none_live (live_session journal Apply) after_apply.0
  nobody_lives state own Lock = none_live (live_session journal Lock) after_lock.0
  nobody_lives state own Ren = none_live (live_session journal Ren) after_ren.0
  nobody_lives state own (Client c) = client_none state own c

no_sessions : (sessions : List Session) → ((k : ℕ) → kind_of k sessions ≡ None) → sessions ≡ []
no_sessions [] none = refl
no_sessions (first ∷ rest) none = absurd (no (first.number == first.number) (same_number first.number) (none first.number)) where
  no : (b : Bool) → b ≡ true → option_map (λ (s : Session). s.is_tool) (cond b (Some first) (session_of first.number rest)) ≡ None → ⊥
  no true is none = cc
  no false is none = false≢true is

no_waits : (waiting : List Waiting) → ((k : ℕ) → list_any (λ one. one.session == k) waiting ≡ false) → waiting ≡ []
no_waits [] none = refl
no_waits (first ∷ rest) none = absurd (no (first.session == first.session) (same_number first.session) (none first.session)) where
  no : (b : Bool) → b ≡ true → (b || list_any (λ one. one.session == first.session) rest) ≡ false → ⊥
  no true is none = true≢false none
  no false is none = false≢true is

-- *Nobody is left* on the server where no actor has a session
pub nobody_left : (plan : PlanData) (journal : List Entry) (state : State) → IsOwned plan journal state → NoneWaits state → first_live plan journal ≡ None → (state.sessions ≡ []) × (state.waiting ≡ [])
nobody_left plan journal state own idle none =
    let gone : (k : ℕ) → kind_of k state.sessions ≡ None = λ k. own.owned k (λ a lives. no a k (sym (nobody_lives plan journal none state own a) ∙ lives)) in
    (no_sessions state.sessions gone, no_waits state.waiting (λ k. idle k (gone k))) where
      no : (a : Actor) (k : ℕ) → None ≡ Some k → ⊥
      no a k same = cc
