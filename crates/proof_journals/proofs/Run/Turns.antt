-- What one turn of a session leaves: the others, and whose each session is.
use Rattle.server_model.specs.declared.counter.Counter.{Counter}
use Rattle.server_model.specs.PlainServer.{recounted}
use Rattle.std.proofs.Common.{◌≡◌, ◌≤◌, ℕ, suc, ◌+◌, ◌==◌, Bool, true, false, not, ◌||◌, List, [], ◌∷◌, ◌++◌, length, cond, Option, Some, None, refl, sym, ap, ◌∙◌, subst, arith}
use Rattle.std.specs.Option.{option_map, option_or}
use Rattle.std.specs.Prelude.{if◌then◌else◌, is_some, max}
use Rattle.std.proofs.lemmas.Bool.Decides.{nat_tests}
use Rattle.std.proofs.lemmas.List.{length-append}
use Rattle.base_values.specs.declared.event.RowEvent.{RowEvent}
use Rattle.base_script.specs.declared.actor.Side.{Side}
use Rattle.base_script.specs.declared.actor.Side.TheVariants.{Before, After}
use Rattle.server_model.specs.declared.session.Session.{Session}
use Rattle.server_model.specs.declared.session.Waiting.{Waiting}
use Rattle.server_model.specs.declared.need.Need.{Need}
use Rattle.server_model.specs.declared.request.Request.{Request}
use Rattle.server_model.specs.declared.entry.Asked.{Asked}
use Rattle.server_model.specs.declared.entry.Asked.TheVariants.{Call, Poll, Command, Cut}
use Rattle.server_model.specs.States.{State, session_of, is_live, is_in_transaction, view, with_session, new_session, connected, waiting_of}
use Rattle.server_model.specs.Blockers.{need, blocker}
use Rattle.server_model.specs.Effects.{Effect, Rests, Grows, Writes, Forgets, Moves, Locks, Unlocks, effect}
use Rattle.server_model.specs.Drawing.{filled}
use Rattle.server_model.specs.PlainServer.{holding, at_rest, locking, unlocking, counting, does, done, did, without_waiting, called_unless, calls, is_over, polled_over, polled_unless, polled_of, polls, loses, serves, leaves}
use Rattle.server_model.specs.declared.entry.Entry.{Entry}
use Rattle.server_model.specs.Entries.{is_client, is_command}
use Rattle.tool_program.specs.JournalWords.Journals.{opens_if, opens, after_entry}
use Rattle.proof_journals.specs.Run.Counts.{others, others_waiting, AreApart, kind_of, Turned}
use Rattle.server_model.proofs.LockedRows.Tests.{same_number}

-- A CHANGE OF ONE SESSION

-- it keeps the number and whose the session is
record Keeps (change : Session → Session) : Type 0 where
  number : (session : Session) → (change session).number ≡ session.number
  kind : (session : Session) → (change session).is_tool ≡ session.is_tool

others_with : (number : ℕ) (change : Session → Session) (sessions : List Session) → Keeps change → others number (with_session number change sessions) ≡ others number sessions
unfolding with_session
others_with number change [] keeps = refl
others_with number change (first ∷ sessions) keeps = by (first.number == number) refl (others_with number change sessions keeps)
  where
    by : (b : Bool) → (first.number == number) ≡ b → others number (with_session number change sessions) ≡ others number sessions
        → others number (cond b (change first ∷ sessions) (first ∷ with_session number change sessions)) ≡ cond (not b) (first ∷ others number sessions) (others number sessions)
    by true here rest = let still : ((change first).number == number) ≡ true = ap (λ (n : ℕ). n == number) (keeps.number first) ∙ here in rw still refl
    by false here rest = rw here (ap (λ more. first ∷ more) rest)

kind_with : (k number : ℕ) (change : Session → Session) (sessions : List Session) → Keeps change → kind_of k (with_session number change sessions) ≡ kind_of k sessions
unfolding with_session
kind_with k number change [] keeps = refl
kind_with k number change (first ∷ sessions) keeps = by (first.number == number) (kind_with k number change sessions keeps)
  where
    found : (c : Bool) (more all : Option Session) → option_map (λ (s : Session). s.is_tool) more ≡ option_map (λ (s : Session). s.is_tool) all → option_map (λ (s : Session). s.is_tool) (cond c (Some first) more) ≡ option_map (λ (s : Session). s.is_tool) (cond c (Some first) all)
    found true more all same = refl
    found false more all same = same

    changed : (c : Bool) → option_map (λ (s : Session). s.is_tool) (cond c (Some (change first)) (session_of k sessions)) ≡ option_map (λ (s : Session). s.is_tool) (cond c (Some first) (session_of k sessions))
    changed true = ap Some (keeps.kind first)
    changed false = refl

    by : (b : Bool) → kind_of k (with_session number change sessions) ≡ kind_of k sessions → kind_of k (cond b (change first ∷ sessions) (first ∷ with_session number change sessions)) ≡ kind_of k (first ∷ sessions)
    by true rest = ap (λ (n : ℕ). option_map (λ (s : Session). s.is_tool) (cond (n == k) (Some (change first)) (session_of k sessions))) (keeps.number first) ∙ changed (first.number == k)
    by false rest = found (first.number == k) (session_of k (with_session number change sessions)) (session_of k sessions) rest

-- no session is live there, by whose it would be
none_of : (session : Option Session) → option_map (λ (s : Session). s.is_tool) session ≡ None → session ≡ None
none_of None is = refl
none_of (Some session) is = absurd (cc)

none_kind : (k : ℕ) (sessions : List Session) → session_of k sessions ≡ None → kind_of k sessions ≡ None
none_kind k sessions none = ap (option_map (λ (s : Session). s.is_tool)) none

apart_with : (number : ℕ) (change : Session → Session) (sessions : List Session) → Keeps change → AreApart sessions → AreApart (with_session number change sessions)
unfolding with_session AreApart
apart_with number change [] keeps apart = tt
apart_with number change (first ∷ sessions) keeps apart = by (first.number == number) (apart_with number change sessions keeps apart.1)
  where
    by : (b : Bool) → AreApart (with_session number change sessions) → AreApart (cond b (change first ∷ sessions) (first ∷ with_session number change sessions))
    by true rest = (subst (λ (n : ℕ). session_of n sessions ≡ None) (sym (keeps.number first)) apart.0, apart.1)
    by false rest = (none_of (session_of first.number (with_session number change sessions)) (kind_with first.number number change sessions keeps ∙ none_kind first.number sessions apart.0), rest)

length_with : (number : ℕ) (change : Session → Session) (sessions : List Session) → length (with_session number change sessions) ≡ length sessions
unfolding with_session
length_with number change [] = refl
length_with number change (first ∷ sessions) = by (first.number == number) (length_with number change sessions)
  where
    by : (b : Bool) → length (with_session number change sessions) ≡ length sessions → length (cond b (change first ∷ sessions) (first ∷ with_session number change sessions)) ≡ suc (length sessions)
    by true rest = refl
    by false rest = ap suc rest

length_others : (number : ℕ) (sessions : List Session) → length (others number sessions) ≤ length sessions
length_others number [] = omega arith
length_others number (first ∷ sessions) = by (first.number == number) (length_others number sessions)
  where
    by : (b : Bool) → length (others number sessions) ≤ length sessions → length (cond (not b) (first ∷ others number sessions) (others number sessions)) ≤ suc (length sessions)
    by true rest = omega (arith, rest)
    by false rest = omega (arith, rest)

-- A SESSION THAT IS GONE

others_again : (number : ℕ) (sessions : List Session) → others number (others number sessions) ≡ others number sessions
others_again number [] = refl
others_again number (first ∷ sessions) = by (first.number == number) refl (others_again number sessions)
  where
    by : (b : Bool) → (first.number == number) ≡ b → others number (others number sessions) ≡ others number sessions → others number (cond (not b) (first ∷ others number sessions) (others number sessions)) ≡ cond (not b) (first ∷ others number sessions) (others number sessions)
    by true here rest = rest
    by false here rest = rw here (ap (λ more. first ∷ more) rest)

waiting_again : (number : ℕ) (waiting : List Waiting) → others_waiting number (others_waiting number waiting) ≡ others_waiting number waiting
waiting_again number [] = refl
waiting_again number (first ∷ waiting) = by (first.session == number) refl (waiting_again number waiting)
  where
    by : (b : Bool) → (first.session == number) ≡ b → others_waiting number (others_waiting number waiting) ≡ others_waiting number waiting
        → others_waiting number (cond (not b) (first ∷ others_waiting number waiting) (others_waiting number waiting)) ≡ cond (not b) (first ∷ others_waiting number waiting) (others_waiting number waiting)
    by true here rest = rest
    by false here rest = rw here (ap (λ more. first ∷ more) rest)

gone_of : (k number : ℕ) (sessions : List Session) → session_of k sessions ≡ None → session_of k (others number sessions) ≡ None
gone_of k number [] none = refl
gone_of k number (first ∷ sessions) none = by (first.number == number) (first.number == k) refl none (gone_of k number sessions)
  where
    by : (b c : Bool) → (first.number == k) ≡ c → cond c (Some first) (session_of k sessions) ≡ None → (session_of k sessions ≡ None → session_of k (others number sessions) ≡ None)
        → session_of k (cond (not b) (first ∷ others number sessions) (others number sessions)) ≡ None
    by b true here none rest = absurd (cc)
    by true false here none rest = rest none
    by false false here none rest = rw here (rest none)

apart_without : (number : ℕ) (sessions : List Session) → AreApart sessions → AreApart (others number sessions)
unfolding AreApart
apart_without number [] apart = tt
apart_without number (first ∷ sessions) apart = by (first.number == number) (apart_without number sessions apart.1)
  where
    by : (b : Bool) → AreApart (others number sessions) → AreApart (cond (not b) (first ∷ others number sessions) (others number sessions))
    by true rest = rest
    by false rest = (gone_of first.number number sessions apart.0, rest)

pub kind_gone : (number : ℕ) (sessions : List Session) → kind_of number (others number sessions) ≡ None
kind_gone number [] = refl
kind_gone number (first ∷ sessions) = by (first.number == number) refl (kind_gone number sessions)
  where
    by : (b : Bool) → (first.number == number) ≡ b → kind_of number (others number sessions) ≡ None → kind_of number (cond (not b) (first ∷ others number sessions) (others number sessions)) ≡ None
    by true here rest = rest
    by false here rest = rw here rest

pub kind_there : (k number : ℕ) (sessions : List Session) → (k == number) ≡ false → kind_of k (others number sessions) ≡ kind_of k sessions
kind_there k number [] differ = refl
kind_there k number (first ∷ sessions) differ = by (first.number == number) refl (kind_there k number sessions differ)
  where
    apart : (first.number == number) ≡ true → (first.number == k) ≡ false
    apart here = grind (arith, nat_tests)

    found : (c : Bool) → kind_of k (others number sessions) ≡ kind_of k sessions → option_map (λ (s : Session). s.is_tool) (cond c (Some first) (session_of k (others number sessions))) ≡ option_map (λ (s : Session). s.is_tool) (cond c (Some first) (session_of k sessions))
    found true same = refl
    found false same = same

    by : (b : Bool) → (first.number == number) ≡ b → kind_of k (others number sessions) ≡ kind_of k sessions → kind_of k (cond (not b) (first ∷ others number sessions) (others number sessions)) ≡ kind_of k (first ∷ sessions)
    by true here rest = rw (apart here) rest
    by false here rest = found (first.number == k) rest

-- A SESSION THAT CONNECTS

pub others_joined : (number : ℕ) (new : Session) (sessions : List Session) → (new.number == number) ≡ true → others number (sessions ++ new ∷ []) ≡ others number sessions
others_joined number new [] is = rw is refl
others_joined number new (first ∷ sessions) is = by (not (first.number == number)) (others_joined number new sessions is)
  where
    by : (b : Bool) → others number (sessions ++ new ∷ []) ≡ others number sessions → cond b (first ∷ others number (sessions ++ new ∷ [])) (others number (sessions ++ new ∷ [])) ≡ cond b (first ∷ others number sessions) (others number sessions)
    by true rest = ap (λ more. first ∷ more) rest
    by false rest = rest

kind_joined : (k : ℕ) (new : Session) (sessions : List Session) → kind_of k (sessions ++ new ∷ []) ≡ option_or (kind_of k sessions) (option_map (λ (s : Session). s.is_tool) (cond (new.number == k) (Some new) None))
kind_joined k new [] = refl
kind_joined k new (first ∷ sessions) = by (first.number == k) (kind_joined k new sessions)
  where
    by : (b : Bool) → kind_of k (sessions ++ new ∷ []) ≡ option_or (kind_of k sessions) (option_map (λ (s : Session). s.is_tool) (cond (new.number == k) (Some new) None))
        → option_map (λ (s : Session). s.is_tool) (cond b (Some first) (session_of k (sessions ++ new ∷ []))) ≡ option_or (option_map (λ (s : Session). s.is_tool) (cond b (Some first) (session_of k sessions))) (option_map (λ (s : Session). s.is_tool) (cond (new.number == k) (Some new) None))
    by true rest = refl
    by false rest = rest

other_number : (b : Bool) (first : Session) (more : Option Session) → cond b (Some first) more ≡ None → (b ≡ false) × (more ≡ None)
other_number true first more none = absurd (cc)
other_number false first more none = (refl, none)

apart_joined : (new : Session) (sessions : List Session) → session_of new.number sessions ≡ None → AreApart sessions → AreApart (sessions ++ new ∷ [])
unfolding AreApart
apart_joined new [] none apart = (refl, tt)
apart_joined new (first ∷ sessions) none apart =
    let parts = other_number (first.number == new.number) first (session_of new.number sessions) none in
    let differ : (new.number == first.number) ≡ false = turned_round parts.0 in
    (none_of (session_of first.number (sessions ++ new ∷ [])) (kind_joined first.number new sessions ∙ rw (none_kind first.number sessions apart.0, differ) refl), apart_joined new sessions parts.1 apart.1)
  where
    turned_round : (first.number == new.number) ≡ false → (new.number == first.number) ≡ false
    turned_round is = grind (arith, nat_tests)

-- A TURN

-- the others stay, and so does whose each session is; none comes or goes
record Stays (number : ℕ) (before after : State) : Type 0 where
  turned : Turned number before after
  kinds : (k : ℕ) → kind_of k after.sessions ≡ kind_of k before.sessions
  made : after.made ≡ before.made
  count : length after.sessions ≡ length before.sessions

turned_itself : (number : ℕ) (state : State) → Turned number state state
turned_itself number state = record { sessions = refl; waiting = refl; apart = λ apart. apart }

turned_then : (number : ℕ) (one two three : State) → Turned number one two → Turned number two three → Turned number one three
turned_then number one two three first second = record { sessions = second.sessions ∙ first.sessions; waiting = second.waiting ∙ first.waiting; apart = λ apart. second.apart (first.apart apart) }

stays_itself : (number : ℕ) (state : State) → Stays number state state
stays_itself number state = record { turned = turned_itself number state; kinds = λ k. refl; made = refl; count = refl }

stays_then : (number : ℕ) (one two three : State) → Stays number one two → Stays number two three → Stays number one three
stays_then number one two three first second = record { turned = turned_then number one two three first.turned second.turned; kinds = λ k. second.kinds k ∙ first.kinds k; made = second.made ∙ first.made; count = second.count ∙ first.count }

-- a change of the session alone
stays_with : (number : ℕ) (change : Session → Session) (before after : State) → Keeps change → after.sessions ≡ with_session number change before.sessions → after.waiting ≡ before.waiting → after.made ≡ before.made → Stays number before after
stays_with number change before after keeps sessions waiting made =
    record {
      turned = record {
        sessions = ap (others number) sessions ∙ others_with number change before.sessions keeps;
        waiting = ap (others_waiting number) waiting;
        apart = λ apart. subst AreApart (sym sessions) (apart_with number change before.sessions keeps apart);
      };
      kinds = λ k. ap (kind_of k) sessions ∙ kind_with k number change before.sessions keeps;
      made = made;
      count = ap length sessions ∙ length_with number change before.sessions;
    }

keeps_holding : (need : Need) (events : List RowEvent) → Keeps (holding need events)
keeps_holding need events = record { number = λ session. refl; kind = λ session. refl }

keeps_at_rest : Keeps at_rest
keeps_at_rest = record { number = λ session. refl; kind = λ session. refl }

keeps_locking : (names : List (List ℕ)) → Keeps (locking names)
keeps_locking names = record { number = λ session. refl; kind = λ session. refl }

keeps_unlocking : Keeps unlocking
keeps_unlocking = record { number = λ session. refl; kind = λ session. refl }

keeps_counting : (polls : ℕ) → Keeps (counting polls)
keeps_counting polls = record { number = λ session. refl; kind = λ session. refl }

does_stays : (effect : Effect) (state : State) (number : ℕ) → Stays number state (does effect state number).after
does_stays (Rests answer) state number = stays_itself number state
does_stays (Grows answer need events) state number = stays_with number (holding need events) state (does (Grows answer need events) state number).after (keeps_holding need events) refl refl refl
does_stays (Writes answer events) state number = stays_with number at_rest state (does (Writes answer events) state number).after keeps_at_rest refl refl refl
does_stays (Forgets answer) state number = stays_with number at_rest state (does (Forgets answer) state number).after keeps_at_rest refl refl refl
does_stays (Moves answer tables) state number = record { turned = record { sessions = refl; waiting = refl; apart = λ apart. apart }; kinds = λ k. refl; made = refl; count = refl }
does_stays (Locks answer names) state number = stays_with number (locking names) state (does (Locks answer names) state number).after (keeps_locking names) refl refl refl
does_stays (Unlocks answer) state number = stays_with number unlocking state (does (Unlocks answer) state number).after keeps_unlocking refl refl refl

done_stays : (state : State) (number : ℕ) (request : Request) → Stays number state (done state number request).after
unfolding did
done_stays state number request = does_stays (effect state number (filled state number request)) state number

unwaited : (number : ℕ) (state : State) → Stays number state (without_waiting number state)
unwaited number state = record { turned = record { sessions = refl; waiting = waiting_again number state.waiting; apart = λ apart. apart }; kinds = λ k. refl; made = refl; count = refl }

waits_joined : (number : ℕ) (new : Waiting) (waiting : List Waiting) → (new.session == number) ≡ true → others_waiting number (waiting ++ new ∷ []) ≡ others_waiting number waiting
waits_joined number new [] is = rw is refl
waits_joined number new (first ∷ waiting) is = by (not (first.session == number)) (waits_joined number new waiting is)
  where
    by : (b : Bool) → others_waiting number (waiting ++ new ∷ []) ≡ others_waiting number waiting
        → cond b (first ∷ others_waiting number (waiting ++ new ∷ [])) (others_waiting number (waiting ++ new ∷ [])) ≡ cond b (first ∷ others_waiting number waiting) (others_waiting number waiting)
    by true rest = ap (λ more. first ∷ more) rest
    by false rest = rest

called_stays : (by : Option ℕ) (state : State) (number : ℕ) (request : Request) → Stays number state (called_unless by state number request).after
called_stays None state number request = done_stays state number request
called_stays (Some by) state number request =
    record {
      turned = record {
        sessions = others_with number (counting 0) state.sessions (keeps_counting 0);
        waiting = waits_joined number (record { session = number; request = request }) state.waiting (same_number number);
        apart = λ apart. apart_with number (counting 0) state.sessions (keeps_counting 0) apart;
      };
      kinds = λ k. kind_with k number (counting 0) state.sessions (keeps_counting 0);
      made = refl;
      count = length_with number (counting 0) state.sessions;
    }

over_stays : (over : Bool) (by : ℕ) (state : State) (number : ℕ) → Stays number state (polled_over over by state number).after
over_stays true by state number =
    stays_then number state (without_waiting number state) (polled_over true by state number).after (unwaited number state)
    (stays_with number at_rest (without_waiting number state) (polled_over true by state number).after keeps_at_rest refl refl refl)
over_stays false by state number =
    stays_with number (counting (Rattle.server_model.specs.States.polls_of (session_of number state.sessions) + 1)) state (polled_over false by state number).after
    (keeps_counting (Rattle.server_model.specs.States.polls_of (session_of number state.sessions) + 1)) refl refl refl

unless_stays : (by : Option ℕ) (state : State) (number : ℕ) (request : Request) → Stays number state (polled_unless by state number request).after
unless_stays None state number request =
    stays_then number state (without_waiting number state) (done (without_waiting number state) number request).after (unwaited number state) (done_stays (without_waiting number state) number request)
unless_stays (Some by) state number request = over_stays (is_over state number) by state number

polled_stays : (waiting : Option Waiting) (state : State) (number : ℕ) → Stays number state (polled_of waiting state number).after
polled_stays None state number = stays_itself number state
polled_stays (Some waiting) state number = unless_stays (blocker state number (need state number waiting.request)) state number waiting.request

calls_stays : (state : State) (number : ℕ) (request : Request) → Stays number state (calls state number request).after
unfolding calls
calls_stays state number request = called_stays (blocker state number (need state number request)) state number request

polls_stays : (state : State) (number : ℕ) → Stays number state (polls state number).after
unfolding polls
polls_stays state number = polled_stays (waiting_of number state.waiting) state number

-- THE END OF A TURN

-- the session is lost in the turn
abbrev pub is_lost : Option Side → Asked → Bool
is_lost None Cut = true
is_lost None asked = false
is_lost (Some side) asked = true

abbrev pub kind_left : Bool → Option Bool → Option Bool
kind_left true old = None
kind_left false old = old

-- what a turn leaves: the others stay, and the own session, unless it is lost
pub record Leaves (lost : Bool) (number : ℕ) (before after : State) : Type 0 where
  pub turned : Turned number before after
  pub own : kind_of number after.sessions ≡ kind_left lost (kind_of number before.sessions)
  pub kinds : (k : ℕ) → (k == number) ≡ false → kind_of k after.sessions ≡ kind_of k before.sessions
  pub made : after.made ≡ before.made
  pub count : length after.sessions ≤ length before.sessions

leaves_stays : (number : ℕ) (before after : State) → Stays number before after → Leaves false number before after
leaves_stays number before after stays = record { turned = stays.turned; own = stays.kinds number; kinds = λ k differ. stays.kinds k; made = stays.made; count = omega (arith, stays.count) }

lost_behind : (number : ℕ) (before after : State) → Stays number before after → Leaves true number before (loses number after)
unfolding loses
lost_behind number before after stays =
    record {
      turned = record {
        sessions = others_again number after.sessions ∙ stays.turned.sessions;
        waiting = waiting_again number after.waiting ∙ stays.turned.waiting;
        apart = λ apart. apart_without number after.sessions (stays.turned.apart apart);
      };
      own = kind_gone number after.sessions;
      kinds = λ k differ. kind_there k number after.sessions differ ∙ stays.kinds k;
      made = stays.made;
      count = let less : length (others number after.sessions) ≤ length after.sessions = length_others number after.sessions in omega (arith, less, stays.count);
    }

serves_leaves : (state : State) (number : ℕ) (asked : Asked) → Leaves (is_lost None asked) number state (serves state number asked).after
serves_leaves state number (Call request) = leaves_stays number state (calls state number request).after (calls_stays state number request)
serves_leaves state number Poll = leaves_stays number state (polls state number).after (polls_stays state number)
serves_leaves state number (Command word) = leaves_stays number state state (stays_itself number state)
serves_leaves state number Cut = lost_behind number state state (stays_itself number state)

-- also where it was lost before
lost_after : (lost : Bool) (number : ℕ) (before after : State) → Leaves lost number before after → Leaves true number before (loses number after)
unfolding loses
lost_after lost number before after left =
    record {
      turned = record {
        sessions = others_again number after.sessions ∙ left.turned.sessions;
        waiting = waiting_again number after.waiting ∙ left.turned.waiting;
        apart = λ apart. apart_without number after.sessions (left.turned.apart apart);
      };
      own = kind_gone number after.sessions;
      kinds = λ k differ. kind_there k number after.sessions differ ∙ left.kinds k differ;
      made = left.made;
      count = let less : length (others number after.sessions) ≤ length after.sessions = length_others number after.sessions in omega (arith, less, left.count);
    }

-- *What a turn leaves*
pub turn_leaves : (side : Option Side) (state : State) (number : ℕ) (asked : Asked) → Leaves (is_lost side asked) number state (leaves side state number asked)
turn_leaves None state number asked = serves_leaves state number asked
turn_leaves (Some Before) state number asked = lost_behind number state state (stays_itself number state)
turn_leaves (Some After) state number asked = lost_after (is_lost None asked) number state (serves state number asked).after (serves_leaves state number asked)

-- THE SESSION IS OPENED FIRST

abbrev pub opened_kind : Bool → Bool → Option Bool → Option Bool
opened_kind nothing tool None = if nothing then None else Some tool
opened_kind nothing tool (Some kind) = Some kind

-- what the opening of a session leaves
pub record Opens (nothing tool : Bool) (number : ℕ) (before after : State) : Type 0 where
  pub turned : Turned number before after
  pub own : kind_of number after.sessions ≡ opened_kind nothing tool (kind_of number before.sessions)
  pub kinds : (k : ℕ) → (k == number) ≡ false → kind_of k after.sessions ≡ kind_of k before.sessions
  pub count : length after.sessions ≤ (if nothing || is_some (session_of number before.sessions) then length before.sessions else length before.sessions + 1)
  pub made : after.made ≡ (if nothing || is_some (session_of number before.sessions) then before.made else max before.made number)

same_kind : (tool : Bool) (kind : Option Bool) → kind ≡ opened_kind true tool kind
same_kind tool None = refl
same_kind tool (Some kind) = refl

number_differs : (k number : ℕ) → (k == number) ≡ false → (number == k) ≡ false
number_differs k number differ = grind (arith, nat_tests)

opened_with : (nothing tool : Bool) (number : ℕ) (state : State) (found : Option Session) → session_of number state.sessions ≡ found → Opens nothing tool number state (opens_if nothing tool number state)
unfolding opens_if
opened_with true tool number state found is = record { turned = turned_itself number state; own = same_kind tool (kind_of number state.sessions); kinds = λ k differ. refl; count = omega arith; made = refl }
opened_with false tool number state (Some session) is =
    rw is (record { turned = turned_itself number state; own = rw is refl; kinds = λ k differ. refl; count = rw is (omega arith); made = rw is refl })
opened_with false tool number state None is =
    rw is (record {
      turned = record {
        sessions = others_joined number (new_session number tool) state.sessions (same_number number);
        waiting = refl;
        apart = λ apart. apart_joined (new_session number tool) state.sessions is apart;
      };
      own = kind_joined number (new_session number tool) state.sessions ∙ rw (is, same_number number) refl;
      kinds = λ k differ. kind_joined k (new_session number tool) state.sessions ∙ rw (number_differs k number differ) (or_none (kind_of k state.sessions));
      count = rw is (let more : length (state.sessions ++ new_session number tool ∷ []) ≡ length state.sessions + 1 = length-append state.sessions (new_session number tool ∷ []) in omega (arith, more));
      made = rw is refl;
    })
  where
    or_none : (kind : Option Bool) → option_or kind None ≡ kind
    or_none None = refl
    or_none (Some kind) = refl

-- *What the opening of a session leaves*
pub opened : (nothing tool : Bool) (number : ℕ) (state : State) → Opens nothing tool number state (opens_if nothing tool number state)
opened nothing tool number state = opened_with nothing tool number state (session_of number state.sessions) refl

-- THE WHOLE TURN

-- counters are no part of it
pub turned_recounted : (number : ℕ) (before after : State) (counters : List Counter) → Turned number before after → Turned number before (recounted counters after)
turned_recounted number before after counters turned = record { sessions = turned.sessions; waiting = turned.waiting; apart = turned.apart }

pub leaves_recounted : (lost : Bool) (number : ℕ) (before after : State) (counters : List Counter) → Leaves lost number before after → Leaves lost number before (recounted counters after)
leaves_recounted lost number before after counters left =
    record { turned = turned_recounted number before after counters left.turned; own = left.own; kinds = left.kinds; made = left.made; count = left.count }

pub entry_turned : (state : State) (entry : Entry) → Turned entry.session state (after_entry state entry)
entry_turned state entry =
    turned_then entry.session state (opens entry state) (after_entry state entry) (opened (is_command entry.asked) (not (is_client entry.actor)) entry.session state).turned
    (turned_recounted entry.session (opens entry state) (leaves entry.side (opens entry state) entry.session entry.asked) _ (turn_leaves entry.side (opens entry state) entry.session entry.asked).turned)
