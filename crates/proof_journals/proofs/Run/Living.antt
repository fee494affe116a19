-- Whose each live session is on the server, behind every journal that is faithful and keeps to sessions.
use Rattle.server_model.specs.PlainServer.{leaves}
use Rattle.std.proofs.Common.{◌≡◌, ℕ, ◌+◌, ◌<◌, ◌≤◌, ◌==◌, Bool, true, false, not, ◌||◌, max, List, [], ◌∷◌, ◌++◌, length, cond, Option, Some, None, refl, sym, ap, ◌∙◌, subst, arith}
use Rattle.std.specs.Prelude.{if◌then◌else◌, is_some}
use Rattle.std.specs.Option.{option_map}
use Rattle.std.proofs.lemmas.Bool.{true≢false, false≢true}
use Rattle.std.proofs.lemmas.Bool.Decides.{nat_tests}
use Rattle.std.proofs.lemmas.List.Sums.{fold-append}
use Rattle.base_script.specs.declared.actor.Actor.{Actor}
use Rattle.base_script.specs.declared.actor.Side.{Side}
use Rattle.server_model.specs.declared.answer.Answer.{Answer}
use Rattle.server_model.specs.declared.entry.Asked.{Asked}
use Rattle.server_model.specs.declared.entry.Asked.TheVariants.{Call, Poll, Command, Cut}
use Rattle.server_model.specs.declared.entry.Entry.{Entry}
use Rattle.server_model.specs.declared.session.Session.{Session}
use Rattle.server_model.specs.Along.{Along-both, Along-keeps}
use Rattle.server_model.specs.Entries.{same_actor, is_client, is_command}
use Rattle.server_model.specs.States.{State, session_of}
use Rattle.server_model.specs.PlainServer.{serves, given_at}
use Rattle.plan_data.specs.PlanData.{PlanData}
use Rattle.tool_program.specs.JournalWords.Journals.{opening, opens, after_entry, state_after, state_at, inner_answer, heard, IsAnswered, IsFaithful, may_lose}
use Rattle.tool_program.specs.JournalWords.Sessions.{live_session, session_left, sessions_named, IsSeated, KeepsSessions}
use Rattle.proof_journals.specs.Run.Counts.{AreApart, kind_of}
use Rattle.proof_journals.specs.Run.Laws.{Living, SessionsAreKnown}
use Rattle.proof_journals.proofs.Run.Turns.{leaves_recounted, is_lost, kind_left, Leaves, turn_leaves, opened_kind, Opens, opened, entry_turned}
use Rattle.proof_journals.proofs.Actors.{same_actor_is, live_more, Placed, Commands, GoesOn, Begins, placed, SessionsKnown, sessions_begin, left_own, sessions_more, others_differ}
use Rattle.proof_journals.proofs.Journals.{state_more}

abbrev named_if : Bool → ℕ → ℕ → ℕ
named_if command most session = cond command most (max most session)

named_more : (journal : List Entry) (entry : Entry) → sessions_named (journal ++ entry ∷ []) ≡ named_if (is_command entry.asked) (sessions_named journal) entry.session
unfolding sessions_named
named_more journal entry = fold-append (λ most one. cond (is_command one.asked) most (max most one.session)) 0 journal (entry ∷ [])

-- a session that a turn leaves wasn't lost in it
heard_left : (side : Option Side) (asked : Asked) (inner : Option Answer) (session n : ℕ) → (asked ≡ Cut → inner ≡ None) → session_left asked (heard side inner) session ≡ Some n → is_lost side asked ≡ false
heard_left (Some side) (Call request) inner session n cut left = absurd (cc)
heard_left (Some side) Poll inner session n cut left = absurd (cc)
heard_left (Some side) Cut inner session n cut left = absurd (cc)
heard_left (Some side) (Command word) inner session n cut left = absurd (cc)
heard_left None (Call request) inner session n cut left = refl
heard_left None Poll inner session n cut left = refl
heard_left None (Command word) inner session n cut left = refl
heard_left None Cut inner session n cut left = absurd (by inner (cut refl) left)
  where
    by : (reported : Option Answer) → reported ≡ None → session_left Cut (heard None reported) session ≡ Some n → ⊥
    by None is left = cc
    by (Some answer) is left = cc

cut_given : (side : Option Side) (asked : Asked) (answer : Answer) → asked ≡ Cut → given_at side asked answer ≡ None
cut_given side Cut answer is = refl
cut_given side (Call request) answer is = absurd (cc)
cut_given side Poll answer is = absurd (cc)
cut_given side (Command word) answer is = absurd (cc)

cut_silent : (state : State) (entry : Entry) → entry.asked ≡ Cut → inner_answer state entry ≡ None
unfolding inner_answer
cut_silent state entry is = cut_given entry.side entry.asked (serves (opens entry state) entry.session entry.asked).answer is

left_unlost : (state : State) (entry : Entry) (n : ℕ) → IsAnswered state entry → session_left entry.asked entry.answer entry.session ≡ Some n → is_lost entry.side entry.asked ≡ false
left_unlost state entry n answered left =
    heard_left entry.side entry.asked (inner_answer state entry) entry.session n (cut_silent state entry) (ap (λ answer. session_left entry.asked answer entry.session) (sym answered.answer) ∙ left)

module _ (journal : List Entry) (state : State) (entry : Entry) (living : Living journal state) (known : SessionsKnown journal) (at : Placed journal entry) (answered : IsAnswered state entry) where
  open_rec : Opens (is_command entry.asked) (not (is_client entry.actor)) entry.session state (opens entry state)
  open_rec = opened (is_command entry.asked) (not (is_client entry.actor)) entry.session state

  left_rec : Leaves (is_lost entry.side entry.asked) entry.session (opens entry state) (after_entry state entry)
  left_rec = leaves_recounted (is_lost entry.side entry.asked) entry.session (opens entry state) (leaves entry.side (opens entry state) entry.session entry.asked) _ (turn_leaves entry.side (opens entry state) entry.session entry.asked)

  pub kinds_there : (k : ℕ) → (k == entry.session) ≡ false → kind_of k (after_entry state entry).sessions ≡ kind_of k state.sessions
  kinds_there k differ = left_rec.kinds k differ ∙ open_rec.kinds k differ

  none_session : (session : Option Session) → option_map (λ (s : Session). s.is_tool) session ≡ None → is_some session ≡ false
  none_session None is = refl
  none_session (Some session) is = absurd (cc)

  some_session : (session : Option Session) (kind : Bool) → option_map (λ (s : Session). s.is_tool) session ≡ Some kind → is_some session ≡ true
  some_session None kind is = absurd (cc)
  some_session (Some session) kind is = refl

  -- the session that the turn begins was nobody's
  begins_fresh : sessions_named journal < entry.session → kind_of entry.session state.sessions ≡ None
  begins_fresh more = living.fresh entry.session (subst (λ (n : ℕ). n < entry.session) (sym living.named) more)

  pub own_kind : (is_command entry.asked ≡ false) → kind_of entry.session (opens entry state).sessions ≡ Some (not (is_client entry.actor))
  own_kind call = open_rec.own ∙ by at
    where
      by : Placed journal entry → opened_kind (is_command entry.asked) (not (is_client entry.actor)) (kind_of entry.session state.sessions) ≡ Some (not (is_client entry.actor))
      by (Commands command zero) = absurd (true≢false (sym command ∙ call))
      by (GoesOn calls live) = rw (living.kinds entry.actor entry.session live) refl
      by (Begins calls uncut live more) = rw (begins_fresh more, call) refl

  -- the session that the turn leaves its actor
  own_left : (n : ℕ) → session_left entry.asked entry.answer entry.session ≡ Some n → (is_command entry.asked ≡ false) × (n ≡ entry.session)
  own_left n left = left_own entry.asked entry.answer entry.session n left

  kinds_more : (a : Actor) (n : ℕ) → live_session (journal ++ entry ∷ []) a ≡ Some n → kind_of n (after_entry state entry).sessions ≡ Some (not (is_client a))
  kinds_more a n lives = by (same_actor entry.actor a) refl (sym (live_more journal entry a) ∙ lives)
    where
      by : (b : Bool) → same_actor entry.actor a ≡ b → cond b (session_left entry.asked entry.answer entry.session) (live_session journal a) ≡ Some n → kind_of n (after_entry state entry).sessions ≡ Some (not (is_client a))
      by true same left =
          let own = own_left n left in
          let unlost : is_lost entry.side entry.asked ≡ false = left_unlost state entry n answered left in
          ap (λ (k : ℕ). kind_of k (after_entry state entry).sessions) own.1
          ∙ left_rec.own
          ∙ ap (λ (b : Bool). kind_left b (kind_of entry.session (opens entry state).sessions)) unlost
          ∙ own_kind own.0
          ∙ ap (λ (b : Actor). Some (not (is_client b))) (same_actor_is entry.actor a same)
      by false differ old = kinds_there n (others_differ journal entry known at a n differ old) ∙ living.kinds a n old

  made_is : (after_entry state entry).made ≡ (if is_command entry.asked || is_some (session_of entry.session state.sessions) then state.made else max state.made entry.session)
  made_is = left_rec.made ∙ open_rec.made

  -- the number that was made last is the greatest that was named
  named_is : (after_entry state entry).made ≡ sessions_named (journal ++ entry ∷ [])
  named_is = made_is ∙ by at ∙ sym (named_more journal entry)
    where
      by : Placed journal entry → (if is_command entry.asked || is_some (session_of entry.session state.sessions) then state.made else max state.made entry.session) ≡ named_if (is_command entry.asked) (sessions_named journal) entry.session
      by (Commands command zero) = rw command living.named
      by (GoesOn calls live) =
          let below : entry.session ≤ sessions_named journal = (known.own entry.actor entry.session live).1 in
          rw (calls, some_session (session_of entry.session state.sessions) (not (is_client entry.actor)) (living.kinds entry.actor entry.session live), living.named) (omega (arith, below))
      by (Begins calls uncut live more) = rw (calls, none_session (session_of entry.session state.sessions) (begins_fresh more), living.named) refl

  fresh_more : (k : ℕ) → (after_entry state entry).made < k → kind_of k (after_entry state entry).sessions ≡ None
  fresh_more k more = kinds_there k (by at) ∙ living.fresh k (omega (arith, grown, above))
    where
      above : sessions_named (journal ++ entry ∷ []) < k
      above = subst (λ (n : ℕ). n < k) named_is more

      grows : (command : Bool) → sessions_named journal ≤ named_if command (sessions_named journal) entry.session
      grows true = omega arith
      grows false = omega arith

      grown : state.made ≤ sessions_named (journal ++ entry ∷ [])
      grown = rw (living.named, named_more journal entry) (grows (is_command entry.asked))

      less_differs : (session : ℕ) → session < k → (k == session) ≡ false
      less_differs session less = grind (arith, nat_tests)

      within : is_command entry.asked ≡ false → entry.session ≤ sessions_named (journal ++ entry ∷ [])
      within call = rw (named_more journal entry, call) (omega arith)

      by : Placed journal entry → (k == entry.session) ≡ false
      by (Commands command zero) = less_differs entry.session (rw zero (omega (arith, above)))
      by (GoesOn calls live) = less_differs entry.session (omega (arith, within calls, above))
      by (Begins calls uncut live more) = less_differs entry.session (omega (arith, within calls, above))

  -- no more sessions are live than were made
  few_more : length (after_entry state entry).sessions ≤ (after_entry state entry).made
  few_more = rw made_is (by (is_command entry.asked || is_some (session_of entry.session state.sessions)) refl open_rec.count)
    where
      fresh_number : (is_command entry.asked || is_some (session_of entry.session state.sessions)) ≡ false → state.made < entry.session
      fresh_number none = at_begin at none
        where
          at_begin : Placed journal entry → (is_command entry.asked || is_some (session_of entry.session state.sessions)) ≡ false → state.made < entry.session
          at_begin (Commands command zero) none = absurd (false≢true (sym none ∙ rw command refl))
          at_begin (GoesOn calls live) none = absurd (false≢true (sym none ∙ rw (calls, some_session (session_of entry.session state.sessions) (not (is_client entry.actor)) (living.kinds entry.actor entry.session live)) refl))
          at_begin (Begins calls uncut live more) none = rw living.named more

      by : (b : Bool) → (is_command entry.asked || is_some (session_of entry.session state.sessions)) ≡ b → length (opens entry state).sessions ≤ (if b then length state.sessions else length state.sessions + 1)
          → length (after_entry state entry).sessions ≤ (if b then state.made else max state.made entry.session)
      by true is count = omega (arith, left_rec.count, count, living.few)
      by false is count = let more : state.made < entry.session = fresh_number is in omega (arith, left_rec.count, count, living.few, more)

  pub living_more : Living (journal ++ entry ∷ []) (after_entry state entry)
  living_more = record { apart = (entry_turned state entry).apart living.apart; kinds = kinds_more; fresh = fresh_more; named = named_is; few = few_more }

pub living_begin : (plan : PlanData) → Living [] (state_at plan [])
unfolding AreApart live_session sessions_named state_after
living_begin plan = record { apart = tt; kinds = λ a n is. absurd (cc); fresh = λ k more. refl; named = refl; few = omega arith }

pub record Both (plan : PlanData) (journal : List Entry) : Type 0 where
  pub known : SessionsKnown journal
  pub living : Living journal (state_at plan journal)

pub both_more : (plan : PlanData) (journal : List Entry) (entry : Entry) → IsAnswered (state_at plan journal) entry × IsSeated journal entry → Both plan journal → Both plan (journal ++ entry ∷ [])
both_more plan journal entry keeps both = record {
  known = sessions_more journal entry both.known (placed journal entry keeps.1);
  living = subst (Living (journal ++ entry ∷ [])) (sym (state_more (opening plan) journal entry)) (living_more journal (state_at plan journal) entry both.living both.known (placed journal entry keeps.1) keeps.0);
}

pub both : (plan : PlanData) (journal : List Entry) → IsFaithful plan journal → KeepsSessions journal → Both plan journal
unfolding KeepsSessions
both plan journal faithful keeps =
    Along-keeps (λ before entry. IsAnswered (state_at plan before) entry × IsSeated before entry) (Both plan) (both_more plan) [] journal
    (Along-both (λ before entry. IsAnswered (state_at plan before) entry) IsSeated [] journal faithful keeps) (record { known = sessions_begin; living = living_begin plan })

-- *Whose each live session is on the server*
pub all_living : SessionsAreKnown
all_living plan journal faithful keeps = (both plan journal faithful keeps).living

pub never_lost : (asked : Asked) → is_command asked ≡ true → may_lose asked ≡ false
never_lost (Command word) is = refl
never_lost (Call request) is = absurd (false≢true is)
never_lost Poll is = absurd (false≢true is)
never_lost Cut is = absurd (false≢true is)
