-- *Sessions of different actors differ*, in a journal that follows the program and numbers its sessions from 1.
use Rattle.std.proofs.Common.{◌≡◌, ◌≢◌, ◌≤◌, ◌<◌, ℕ, max, cond, subst, Bool, true, false, List, [], ◌∷◌, ◌++◌, Option, Some, None, refl, sym, ap, ◌∙◌, arith}
use Rattle.std.proofs.lemmas.Bool.{false≢true}
use Rattle.std.proofs.lemmas.List.Sums.{fold-append}
use Rattle.base_script.specs.declared.actor.Actor.{Actor}
use Rattle.server_model.specs.Along.{Along, Along-keeps}
use Rattle.server_model.specs.declared.answer.Answer.TheVariants as answers
use Rattle.proof_journals.proofs.Actors.{live_more, same_actor_is, same_actor_itself}
use Rattle.proof_journals.specs.Sentry.TurnResults.{last_session, session_next, session_after, IsNumbered}
use Rattle.proof_journals.proofs.Sentry.Inductions.{last_more}
use Rattle.server_model.specs.declared.answer.Answer.{Answer}
use Rattle.server_model.specs.declared.entry.Entry.{Entry}
use Rattle.server_model.specs.declared.entry.Asked.{Asked}
use Rattle.server_model.specs.declared.entry.Asked.TheVariants.{Call, Poll, Command, Cut}
use Rattle.server_model.specs.Entries.{same_actor, is_command}
use Rattle.plan_data.specs.PlanData.{PlanData}
use Rattle.tool_program.specs.JournalWords.Sessions.{live_session, session_in, session_left, sessions_named, IsInSession}
use Rattle.tool_program.specs.Programs.{IsFollowed}

-- two actors that an entry's actor is, are one
not_both : (c a b : Actor) → same_actor c a ≡ true → same_actor c b ≡ true → same_actor a b ≡ false → ⊥
not_both c a b e f g = false≢true (sym g ∙ ap (λ x. same_actor x b) (sym (same_actor_is c a e)) ∙ f)

record Sessions (journal : List Entry) : Type 0 where
  live : (a : Actor) (s : ℕ) → live_session journal a ≡ Some s → s ≡ last_session journal a
  named : (a : Actor) → last_session journal a ≤ sessions_named journal
  apart : (a b : Actor) → same_actor a b ≡ false → last_session journal a ≡ last_session journal b → last_session journal a ≡ 0

held : (journal : List Entry) (c b : Actor) (s v : ℕ) → Sessions journal → live_session journal c ≡ Some v → s ≡ v → s ≢ 0 → same_actor c b ≡ false → last_session journal b ≢ s
held journal c b s v at is same numbered other e =
    let last : s ≡ last_session journal c = same ∙ at.live c v is in
    numbered (last ∙ at.apart c b other (sym last ∙ sym e))

unnamed : (journal : List Entry) (b : Actor) (s : ℕ) → Sessions journal → sessions_named journal < s → last_session journal b ≢ s
unnamed journal b s at beyond e = let within : last_session journal b ≤ sessions_named journal = at.named b in omega (arith, within, beyond, e)

-- the session of a turn is no other actor's last one
fresh : (journal : List Entry) (c b : Actor) (s : ℕ) (entry : Entry) (asked : Asked) → Sessions journal → entry.session ≡ s → is_command asked ≡ false → (live : Option ℕ) → live_session journal c ≡ live → IsInSession journal entry asked live → s ≢ 0 → same_actor c b ≡ false → last_session journal b ≢ s
fresh journal c b s entry (Command word) at same cut live is inside numbered other e = absurd cc
fresh journal c b s entry (Call request) at same cut (Some v) is inside numbered other e = held journal c b s v at is (sym same ∙ inside) numbered other e
fresh journal c b s entry Poll at same cut (Some v) is inside numbered other e = held journal c b s v at is (sym same ∙ inside) numbered other e
fresh journal c b s entry Cut at same cut (Some v) is inside numbered other e = held journal c b s v at is (sym same ∙ inside) numbered other e
fresh journal c b s entry (Call request) at same cut None is inside numbered other e = unnamed journal b s at (subst (λ n. sessions_named journal < n) same inside) e
fresh journal c b s entry Poll at same cut None is inside numbered other e = unnamed journal b s at (subst (λ n. sessions_named journal < n) same inside) e
fresh journal c b s entry Cut at same cut None is inside numbered other e = absurd inside

-- ONE ENTRY

pub named_more : (journal : List Entry) (entry : Entry) → sessions_named (journal ++ entry ∷ []) ≡ cond (is_command entry.asked) (sessions_named journal) (max (sessions_named journal) entry.session)
unfolding sessions_named
named_more journal entry = fold-append (λ (most : ℕ) (one : Entry). cond (is_command one.asked) most (max most one.session)) 0 journal (entry ∷ [])

left_is : (asked : Asked) (answer : Answer) (session old s : ℕ) → session_left asked answer session ≡ Some s → s ≡ session_after asked old session
left_is (Command word) answer session old s e = absurd cc
left_is (Call request) answers.Lost session old s e = absurd cc
left_is (Call request) answer session old s e = cc
left_is Poll answers.Lost session old s e = absurd cc
left_is Poll answer session old s e = cc
left_is Cut answers.Lost session old s e = absurd cc
left_is Cut answer session old s e = cc

step : (plan : PlanData) (journal : List Entry) (entry : Entry) → IsFollowed plan journal entry → IsNumbered entry → Sessions journal → Sessions (journal ++ entry ∷ [])
step plan journal entry follows numbered at = record { live = live; named = named; apart = apart }
  where
    last : Actor → ℕ
    last a = session_next a (last_session journal a) entry

    is_new : (a : Actor) → same_actor entry.actor a ≡ true → last a ≡ session_after entry.asked (last_session journal a) entry.session
    is_new a e = rw e refl

    is_old : (a : Actor) → same_actor entry.actor a ≡ false → last a ≡ last_session journal a
    is_old a e = rw e refl

    live : (a : Actor) (s : ℕ) → live_session (journal ++ entry ∷ []) a ≡ Some s → s ≡ last_session (journal ++ entry ∷ []) a
    live a s e = by (same_actor entry.actor a) refl (sym (live_more journal entry a) ∙ e) ∙ sym (last_more journal entry a)
      where
        by : (b : Bool) → same_actor entry.actor a ≡ b → session_in a (live_session journal a) entry ≡ Some s → s ≡ last a
        by true is e = left_is entry.asked entry.answer entry.session (last_session journal a) s (rw is at e) ∙ sym (is_new a is)
        by false is e = at.live a s (rw is at e) ∙ sym (is_old a is)

    named : (a : Actor) → last_session (journal ++ entry ∷ []) a ≤ sessions_named (journal ++ entry ∷ [])
    named a = subst (λ n. n ≤ sessions_named (journal ++ entry ∷ [])) (sym (last_more journal entry a)) (subst (λ n. last a ≤ n) (sym (named_more journal entry)) (by (same_actor entry.actor a) refl))
      where
        most : ℕ
        most = cond (is_command entry.asked) (sessions_named journal) (max (sessions_named journal) entry.session)

        grows : (b : Bool) → sessions_named journal ≤ cond b (sessions_named journal) (max (sessions_named journal) entry.session)
        grows true = omega arith
        grows false = omega arith

        old : last a ≡ last_session journal a → last a ≤ most
        old is = let before : last_session journal a ≤ sessions_named journal = at.named a in let more = grows (is_command entry.asked) in omega (arith, is, before, more)

        new : last a ≡ entry.session → is_command entry.asked ≡ false → last a ≤ most
        new is calls = subst (λ b. last a ≤ cond b (sessions_named journal) (max (sessions_named journal) entry.session)) (sym calls) (omega (arith, is))

        asked_by : (asked : Asked) → entry.asked ≡ asked → last a ≡ session_after asked (last_session journal a) entry.session → last a ≤ most
        asked_by (Command word) what is = old is
        asked_by (Call request) what is = new is (ap is_command what)
        asked_by Poll what is = new is (ap is_command what)
        asked_by Cut what is = new is (ap is_command what)

        by : (b : Bool) → same_actor entry.actor a ≡ b → last a ≤ most
        by true is = asked_by entry.asked refl (is_new a is)
        by false is = old (is_old a is)

    fresh_now : (b : Actor) → same_actor entry.actor b ≡ false → is_command entry.asked ≡ false → last_session journal b ≢ entry.session
    fresh_now b other calls = fresh journal entry.actor b entry.session entry entry.asked at refl calls (live_session journal entry.actor) refl follows.session (numbered.from calls) other

    -- the entry's actor and another one
    clash : (a b : Actor) → same_actor entry.actor b ≡ false → same_actor a b ≡ false → (asked : Asked) → entry.asked ≡ asked → last a ≡ session_after asked (last_session journal a) entry.session → last a ≡ last_session journal b → last a ≡ 0
    clash a b other two (Command word) what now e = now ∙ at.apart a b two (sym now ∙ e)
    clash a b other two (Call request) what now e = absurd (fresh_now b other (ap is_command what) (sym e ∙ now))
    clash a b other two Poll what now e = absurd (fresh_now b other (ap is_command what) (sym e ∙ now))
    clash a b other two Cut what now e = absurd (fresh_now b other (ap is_command what) (sym e ∙ now))

    flip : (x y : Bool) → x ≡ y → y ≡ false → x ≡ false
    flip x y e f = e ∙ f

    apart : (a b : Actor) → same_actor a b ≡ false → last_session (journal ++ entry ∷ []) a ≡ last_session (journal ++ entry ∷ []) b → last_session (journal ++ entry ∷ []) a ≡ 0
    apart a b two e = last_more journal entry a ∙ by (same_actor entry.actor a) (same_actor entry.actor b) refl refl (sym (last_more journal entry a) ∙ e ∙ last_more journal entry b)
      where
        turned : same_actor b a ≡ false
        turned = not_same (same_actor b a) refl
          where
            not_same : (x : Bool) → same_actor b a ≡ x → same_actor b a ≡ false
            not_same true is = absurd (false≢true (sym two ∙ ap (same_actor a) (same_actor_is b a is) ∙ same_actor_itself a))
            not_same false is = is

        by : (x y : Bool) → same_actor entry.actor a ≡ x → same_actor entry.actor b ≡ y → last a ≡ last b → last a ≡ 0
        by true true is so e = absurd (not_both entry.actor a b is so two)
        by true false is so e = clash a b so two entry.asked refl (is_new a is) (e ∙ is_old b so)
        by false true is so e = e ∙ clash b a is turned entry.asked refl (is_new b so) (sym e ∙ is_old a is)
        by false false is so e = is_old a is ∙ at.apart a b two (sym (is_old a is) ∙ e ∙ is_old b so)

none_yet : Sessions []
unfolding live_session last_session sessions_named
none_yet = record { live = λ a s e. absurd cc; named = λ a. omega arith; apart = λ a b two e. refl }

all_sessions : (plan : PlanData) (journal : List Entry) → Along (λ before entry. IsFollowed plan before entry × IsNumbered entry) [] journal → Sessions journal
all_sessions plan journal along = Along-keeps (λ before entry. IsFollowed plan before entry × IsNumbered entry) Sessions (λ all entry both at. step plan all entry both.0 both.1 at) [] journal along none_yet

-- *A turn's session is no other actor's*
pub sessions_differ : (plan : PlanData) (journal : List Entry) (entry : Entry) (actor : Actor) → Along (λ before one. IsFollowed plan before one × IsNumbered one) [] journal → IsFollowed plan journal entry → IsNumbered entry → is_command entry.asked ≡ false → same_actor entry.actor actor ≡ false → last_session journal actor ≢ entry.session
sessions_differ plan journal entry actor along follows numbered calls other =
    fresh journal entry.actor actor entry.session entry entry.asked (all_sessions plan journal along) refl calls (live_session journal entry.actor) refl follows.session (numbered.from calls) other

-- a live session is its actor's last one
pub live_is_last : (plan : PlanData) (journal : List Entry) (actor : Actor) (session : ℕ) → Along (λ before one. IsFollowed plan before one × IsNumbered one) [] journal → live_session journal actor ≡ Some session → session ≡ last_session journal actor
live_is_last plan journal actor session along is = (all_sessions plan journal along).live actor session is
