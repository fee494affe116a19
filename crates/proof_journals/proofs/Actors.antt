-- Each actor's turns are in sessions of its own: whose a session is, the journal tells.
use Rattle.std.proofs.Common.{◌≡◌, ◌≤◌, ◌<◌, ℕ, Bool, true, false, not, ◌&&◌, ◌||◌, max, List, [], ◌∷◌, ◌++◌, cond, Option, Some, None, refl, sym, ap, ◌∙◌, subst, arith}
use Rattle.std.specs.Prelude.{◌==◌}
use Rattle.std.specs.List.{AllByRecursion}
use Rattle.std.proofs.lemmas.Bool.{false≢true, true≢false}
use Rattle.std.proofs.lemmas.Bool.Decides.{nat_tests}
use Rattle.std.proofs.lemmas.List.Sums.{fold-append}
use Rattle.std.proofs.lemmas.List.Folds.{list_any-append}
use Rattle.std.proofs.Math.Bool.{or-false, or_self}
use Rattle.base_script.specs.declared.actor.Actor.{Actor}
use Rattle.base_script.specs.declared.actor.Actor.TheVariants.{Op, Insp, Copy, Apply, Lock, Ren, Client}
use Rattle.server_model.specs.declared.answer.Answer.{Answer}
use Rattle.server_model.specs.declared.answer.Answer.TheVariants as answers
use Rattle.server_model.specs.declared.entry.Asked.{Asked}
use Rattle.server_model.specs.declared.entry.Asked.TheVariants.{Call, Poll, Command, Cut}
use Rattle.server_model.specs.declared.entry.Entry.{Entry}
use Rattle.server_model.specs.Entries.{same_actor, is_client, is_command, is_cut}
use Rattle.server_model.specs.Along.{Along-keeps}
use Rattle.tool_program.specs.JournalWords.Sessions.{session_left, session_in, live_session, sessions_named, IsInSession, IsSeated, KeepsSessions}
use Rattle.proof_journals.specs.Plans.{is_client_session}
use Rattle.server_model.proofs.LockedRows.Tests.{same_number, are_one}

-- ACTORS

pub same_actor_is : (a b : Actor) → same_actor a b ≡ true → a ≡ b
same_actor_is Op Op same = refl
same_actor_is Insp Insp same = refl
same_actor_is Copy Copy same = refl
same_actor_is Apply Apply same = refl
same_actor_is Lock Lock same = refl
same_actor_is Ren Ren same = refl
same_actor_is (Client a) (Client b) same = ap Client (are_one a b same)
same_actor_is a b same = absurd (false≢true same)

pub same_actor_itself : (a : Actor) → same_actor a a ≡ true
same_actor_itself Op = refl
same_actor_itself Insp = refl
same_actor_itself Copy = refl
same_actor_itself Apply = refl
same_actor_itself Lock = refl
same_actor_itself Ren = refl
same_actor_itself (Client a) = same_number a

-- ONE TURN MORE

pub live_more : (journal : List Entry) (entry : Entry) (a : Actor) → live_session (journal ++ entry ∷ []) a ≡ session_in a (live_session journal a) entry
unfolding live_session
live_more journal entry a = fold-append (session_in a) None journal (entry ∷ [])

abbrev pub named_more_if : Bool → ℕ → ℕ → ℕ
named_more_if command most session = cond command most (max most session)

named_more : (journal : List Entry) (entry : Entry) → sessions_named (journal ++ entry ∷ []) ≡ named_more_if (is_command entry.asked) (sessions_named journal) entry.session
unfolding sessions_named
named_more journal entry = fold-append (λ most one. cond (is_command one.asked) most (max most one.session)) 0 journal (entry ∷ [])

abbrev pub counts_client : Bool → Bool → Bool → Bool
counts_client command same client = not command && (same && client)

client_more : (journal : List Entry) (entry : Entry) (n : ℕ) → is_client_session (journal ++ entry ∷ []) n ≡ (is_client_session journal n || counts_client (is_command entry.asked) (entry.session == n) (is_client entry.actor))
unfolding is_client_session
client_more journal entry n = list_any-append (λ one. not (is_command one.asked) && ((one.session == n) && is_client one.actor)) journal (entry ∷ []) ∙ rw (or-false (not (is_command entry.asked) && ((entry.session == n) && is_client entry.actor))) refl

-- how a turn is in its session
pub data Placed (before : List Entry) (entry : Entry) : Type 0 where
  Commands : is_command entry.asked ≡ true → entry.session ≡ 0 → Placed before entry
  GoesOn : is_command entry.asked ≡ false → live_session before entry.actor ≡ Some entry.session → Placed before entry
  Begins : is_command entry.asked ≡ false → is_cut entry.asked ≡ false → live_session before entry.actor ≡ None → sessions_named before < entry.session → Placed before entry

pub placed : (before : List Entry) (entry : Entry) → IsSeated before entry → Placed before entry
placed before entry is = at entry.asked refl (live_session before entry.actor) refl is.session where
  at : (asked : Asked) → entry.asked ≡ asked → (live : Option ℕ) → live_session before entry.actor ≡ live → IsInSession before entry asked live → Placed before entry
  at (Command word) asks live lives seated = Commands (ap is_command asks) seated
  at (Call request) asks (Some session) lives seated = GoesOn (ap is_command asks) (lives ∙ ap Some (sym seated))
  at Poll asks (Some session) lives seated = GoesOn (ap is_command asks) (lives ∙ ap Some (sym seated))
  at Cut asks (Some session) lives seated = GoesOn (ap is_command asks) (lives ∙ ap Some (sym seated))
  at (Call request) asks None lives seated = Begins (ap is_command asks) (ap is_cut asks) lives seated
  at Poll asks None lives seated = Begins (ap is_command asks) (ap is_cut asks) lives seated
  at Cut asks None lives seated = absurd seated

-- WHOSE A SESSION IS

-- what the turns so far say of sessions
pub record SessionsKnown (journal : List Entry) : Type 0 where
  pub own : (a : Actor) (n : ℕ) → live_session journal a ≡ Some n → (1 ≤ n) × (n ≤ sessions_named journal)
  pub apart : (a b : Actor) (n : ℕ) → live_session journal a ≡ Some n → live_session journal b ≡ Some n → a ≡ b
  pub kinds : (a : Actor) (n : ℕ) → live_session journal a ≡ Some n → is_client_session journal n ≡ is_client a
  pub fresh : (n : ℕ) → sessions_named journal < n → is_client_session journal n ≡ false
  pub none : is_client_session journal 0 ≡ false

pub sessions_begin : SessionsKnown []
unfolding live_session is_client_session
sessions_begin = record {
  own = λ a n is. absurd (cc);
  apart = λ a b n one two. absurd (cc);
  kinds = λ a n is. absurd (cc);
  fresh = λ n more. refl;
  none = refl;
}

-- a lost session is nobody's
pub lost_left : (asked : Asked) (session : ℕ) → session_left asked answers.Lost session ≡ None
lost_left (Call request) session = refl
lost_left Poll session = refl
lost_left Cut session = refl
lost_left (Command word) session = refl

-- the session that a turn leaves its actor is the turn's own
pub left_own : (asked : Asked) (answer : Answer) (session n : ℕ) → session_left asked answer session ≡ Some n → (is_command asked ≡ false) × (n ≡ session)
left_own (Command word) answer session n left = absurd (cc)
left_own (Call request) answer session n left = (refl, at answer left) where
  at : (answer : Answer) → session_left (Call request) answer session ≡ Some n → n ≡ session
  at answers.Lost left = absurd (cc)
  at other left = cc
left_own Poll answer session n left = (refl, at answer left) where
  at : (answer : Answer) → session_left Poll answer session ≡ Some n → n ≡ session
  at answers.Lost left = absurd (cc)
  at other left = cc
left_own Cut answer session n left = (refl, at answer left) where
  at : (answer : Answer) → session_left Cut answer session ≡ Some n → n ≡ session
  at answers.Lost left = absurd (cc)
  at other left = cc

below_more : (command : Bool) (most session n : ℕ) → n ≤ most → n ≤ named_more_if command most session
below_more true most session n is = is
below_more false most session n is = omega arith

own_below : (most session : ℕ) → session ≤ named_more_if false most session
own_below most session = omega arith

above_less : (command : Bool) (most session n : ℕ) → named_more_if command most session < n → most < n
above_less true most session n is = is
above_less false most session n is = omega arith

above_own : (most session n : ℕ) → named_more_if false most session < n → (session == n) ≡ false
above_own most session n is = grind (arith, nat_tests)

less_differs : (most session n : ℕ) → n ≤ most → most < session → (session == n) ≡ false
less_differs most session n is more = grind (arith, nat_tests)

module _ (journal : List Entry) (entry : Entry) (known_sessions : SessionsKnown journal) (at : Placed journal entry) where
  -- sessions that were named keep their kind
  pub kinds_stay : (n : ℕ) → n ≤ sessions_named journal → is_client_session (journal ++ entry ∷ []) n ≡ is_client_session journal n
  kinds_stay n is = client_more journal entry n ∙ by at where
    same : (b : Bool) → (entry.session == n) ≡ b → is_command entry.asked ≡ false → live_session journal entry.actor ≡ Some entry.session → (is_client_session journal n || counts_client (is_command entry.asked) (entry.session == n) (is_client entry.actor)) ≡ is_client_session journal n
    same true eq calls live =
        rw (calls, eq, sym (known_sessions.kinds entry.actor entry.session live), ap (is_client_session journal) (are_one entry.session n eq)) (or_self (is_client_session journal n))
    same false eq calls live = rw (calls, eq) (or-false (is_client_session journal n))

    by : Placed journal entry → (is_client_session journal n || counts_client (is_command entry.asked) (entry.session == n) (is_client entry.actor)) ≡ is_client_session journal n
    by (Commands command zero) = rw command (or-false (is_client_session journal n))
    by (GoesOn calls live) = same (entry.session == n) refl calls live
    by (Begins calls uncut live more) = rw (calls, less_differs (sessions_named journal) entry.session n is more) (or-false (is_client_session journal n))

  -- the turn's session is of its actor's kind
  pub kind_here : is_command entry.asked ≡ false → is_client_session (journal ++ entry ∷ []) entry.session ≡ is_client entry.actor
  kind_here call = client_more journal entry entry.session ∙ rw (call, same_number entry.session) (by at) where
    by : Placed journal entry → (is_client_session journal entry.session || is_client entry.actor) ≡ is_client entry.actor
    by (Commands command zero) = absurd (true≢false (sym command ∙ call))
    by (GoesOn calls live) = rw (known_sessions.kinds entry.actor entry.session live) (or_self (is_client entry.actor))
    by (Begins calls uncut live more) = rw (known_sessions.fresh entry.session more) refl

  from_one : is_command entry.asked ≡ false → 1 ≤ entry.session
  from_one call = by at where
    by : Placed journal entry → 1 ≤ entry.session
    by (Commands command zero) = absurd (true≢false (sym command ∙ call))
    by (GoesOn calls live) = (known_sessions.own entry.actor entry.session live).0
    by (Begins calls uncut live more) = omega arith

  -- another actor's live session is another one
  pub others_differ : (a : Actor) (n : ℕ) → same_actor entry.actor a ≡ false → live_session journal a ≡ Some n → (n == entry.session) ≡ false
  others_differ a n differ lives = here (n == entry.session) refl where
    by : Placed journal entry → n ≡ entry.session → ⊥
    by (Commands command zero) is = absurd (omega (arith, (known_sessions.own a n lives).0))
    by (GoesOn calls live) is = absurd (true≢false (sym (same_actor_itself a) ∙ ap (λ (b : Actor). same_actor b a) (sym (known_sessions.apart entry.actor a entry.session live (lives ∙ ap Some is))) ∙ differ))
    by (Begins calls uncut live more) is = absurd (omega (arith, (known_sessions.own a n lives).1))

    here : (b : Bool) → (n == entry.session) ≡ b → (n == entry.session) ≡ false
    here true is = absurd (by at (are_one n entry.session is))
    here false is = is

  -- the live sessions behind the turn: its actor's is the turn's own, the others' are as they were
  pub live_cases : (a : Actor) (n : ℕ) (P : Type 0) → live_session (journal ++ entry ∷ []) a ≡ Some n → (a ≡ entry.actor → is_command entry.asked ≡ false → n ≡ entry.session → P) → (same_actor entry.actor a ≡ false → live_session journal a ≡ Some n → P) → P
  live_cases a n P lives here there = by (same_actor entry.actor a) refl (sym (live_more journal entry a) ∙ lives) where
    by : (b : Bool) → same_actor entry.actor a ≡ b → cond b (session_left entry.asked entry.answer entry.session) (live_session journal a) ≡ Some n → P
    by true same left = let own = left_own entry.asked entry.answer entry.session n left in here (sym (same_actor_is entry.actor a same)) own.0 own.1
    by false differ old = there differ old

  pub named_keeps : (n : ℕ) → n ≤ sessions_named journal → n ≤ sessions_named (journal ++ entry ∷ [])
  named_keeps n is = subst (λ (m : ℕ). n ≤ m) (sym (named_more journal entry)) (below_more (is_command entry.asked) (sessions_named journal) entry.session n is)

  named_here : is_command entry.asked ≡ false → entry.session ≤ sessions_named (journal ++ entry ∷ [])
  named_here call = subst (λ (m : ℕ). entry.session ≤ m) (sym (named_more journal entry)) (rw call (own_below (sessions_named journal) entry.session))

  pub named_less : (n : ℕ) → sessions_named (journal ++ entry ∷ []) < n → sessions_named journal < n
  named_less n more = above_less (is_command entry.asked) (sessions_named journal) entry.session n (subst (λ (m : ℕ). m < n) (named_more journal entry) more)

  pub named_differs : (n : ℕ) → sessions_named (journal ++ entry ∷ []) < n → (entry.session == n) ≡ false
  named_differs n more = by at (is_command entry.asked) refl (subst (λ (m : ℕ). m < n) (named_more journal entry) more) where
    by : Placed journal entry → (command : Bool) → is_command entry.asked ≡ command → named_more_if command (sessions_named journal) entry.session < n → (entry.session == n) ≡ false
    by placed false is above = above_own (sessions_named journal) entry.session n above
    by (Commands command zero) true is above = rw zero (zero_differs n (omega arith)) where
      zero_differs : (m : ℕ) → 0 < m → (0 == m) ≡ false
      zero_differs m more = grind (arith, nat_tests)
    by (GoesOn calls live) true is above = absurd (true≢false (sym is ∙ calls))
    by (Begins calls uncut live less) true is above = absurd (true≢false (sym is ∙ calls))

  pub sessions_more : SessionsKnown (journal ++ entry ∷ [])
  sessions_more = record {
    own = λ a n lives. live_cases a n ((1 ≤ n) × (n ≤ sessions_named (journal ++ entry ∷ []))) lives
        (λ same call is. (subst (λ (m : ℕ). 1 ≤ m) (sym is) (from_one call), subst (λ (m : ℕ). m ≤ sessions_named (journal ++ entry ∷ [])) (sym is) (named_here call)))
        (λ differ old. ((known_sessions.own a n old).0, named_keeps n (known_sessions.own a n old).1));
    apart = λ a b n one two. live_cases a n (a ≡ b) one
        (λ same call is. live_cases b n (a ≡ b) two (λ also more here. same ∙ sym also) (λ differ old. absurd (true≢false (sym (same_number entry.session) ∙ ap (λ (m : ℕ). m == entry.session) (sym is) ∙ others_differ b n differ old))))
        (λ differ old. live_cases b n (a ≡ b) two (λ also call is. absurd (true≢false (sym (same_number entry.session) ∙ ap (λ (m : ℕ). m == entry.session) (sym is) ∙ others_differ a n differ old))) (λ more older. known_sessions.apart a b n old older));
    kinds = λ a n lives. live_cases a n (is_client_session (journal ++ entry ∷ []) n ≡ is_client a) lives
        (λ same call is. ap (is_client_session (journal ++ entry ∷ [])) is ∙ kind_here call ∙ ap is_client (sym same))
        (λ differ old. kinds_stay n (known_sessions.own a n old).1 ∙ known_sessions.kinds a n old);
    fresh = λ n more. client_more journal entry n ∙ rw (named_differs n more, known_sessions.fresh n (named_less n more)) (never (is_command entry.asked));
    none = kinds_stay 0 (omega arith) ∙ known_sessions.none;
  } where
    never : (b : Bool) → counts_client b false (is_client entry.actor) ≡ false
    never true = refl
    never false = refl

-- EVERY TURN'S SESSION IS OF ITS ACTOR'S KIND

abbrev pub KindSo : List Entry → Entry → Type 0
KindSo journal entry = is_command entry.asked ≡ false → (is_client_session journal entry.session ≡ is_client entry.actor) × (entry.session ≤ sessions_named journal)

pub record Kinds (journal : List Entry) : Type 0 where
  pub known_sessions : SessionsKnown journal
  pub each : AllByRecursion (KindSo journal) journal

kinds_old : (journal : List Entry) (entry : Entry) (known_sessions : SessionsKnown journal) (at : Placed journal entry) (some : List Entry) → AllByRecursion (KindSo journal) some → AllByRecursion (KindSo (journal ++ entry ∷ [])) some
kinds_old journal entry known_sessions at [] all = tt
kinds_old journal entry known_sessions at (one ∷ some) all =
    ((λ call. (kinds_stay journal entry known_sessions at one.session (all.0 call).1 ∙ (all.0 call).0, named_keeps journal entry known_sessions at one.session (all.0 call).1)), kinds_old journal entry known_sessions at some all.1)

kinds_last : (P : Entry → Type 0) (some : List Entry) (entry : Entry) → AllByRecursion P some → P entry → AllByRecursion P (some ++ entry ∷ [])
kinds_last P [] entry all is = (is, tt)
kinds_last P (one ∷ some) entry all is = (all.0, kinds_last P some entry all.1 is)

kinds_more : (journal : List Entry) (entry : Entry) → IsSeated journal entry → Kinds journal → Kinds (journal ++ entry ∷ [])
kinds_more journal entry seated kinds =
    let at : Placed journal entry = placed journal entry seated in
    record {
      known_sessions = sessions_more journal entry kinds.known_sessions at;
      each = kinds_last (KindSo (journal ++ entry ∷ [])) journal entry (kinds_old journal entry kinds.known_sessions at journal kinds.each)
          (λ call. (kind_here journal entry kinds.known_sessions at call, named_here journal entry kinds.known_sessions at call));
    }

pub all_kinds : (journal : List Entry) → KeepsSessions journal → Kinds journal
unfolding KeepsSessions
all_kinds journal kept = Along-keeps IsSeated Kinds (λ all entry seated kinds. kinds_more all entry seated kinds) [] journal kept (record { known_sessions = sessions_begin; each = tt })
