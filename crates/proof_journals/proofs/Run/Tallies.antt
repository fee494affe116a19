-- Counts of sessions: what a turn changes in them is its own session's part.
use Rattle.std.proofs.Common.{◌≡◌, ℕ, ◌+◌, ◌==◌, Bool, true, false, not, ◌&&◌, ◌||◌, List, [], ◌∷◌, cond, Some, None, refl, sym, ap, ◌∙◌, subst, arith}
use Rattle.std.specs.Prelude.{nat_lt, count_by}
use Rattle.std.specs.List.{list_any}
use Rattle.std.proofs.lemmas.Bool.Decides.{nat_tests}
use Rattle.std.proofs.lemmas.List.Recursion.{is_count_by}
use Rattle.server_model.specs.declared.session.Session.{Session}
use Rattle.server_model.specs.declared.session.Waiting.{Waiting}
use Rattle.server_model.specs.States.{State, session_of, load, is_tool_busy}
use Rattle.proof_journals.specs.Run.Counts.{is_open, is_busy, busy_count, weight, weigh, others, others_waiting, AreApart, Turned}
use Rattle.server_model.proofs.LockedRows.Tests.{are_one}

-- a count by recursion
abbrev pub tally : {A : Type 0} → (A → Bool) → List A → ℕ
tally test [] = 0
tally test (x ∷ xs) = weight (test x) + tally test xs

tally_step : (b : Bool) (n : ℕ) → weight b + n ≡ cond b (1 + n) n
tally_step true n = refl
tally_step false n = omega arith

pub tally_is : {A : Type 0} (test : A → Bool) → (xs : List A) → tally test xs ≡ count_by test xs
tally_is test xs = is_count_by (tally test) test refl (λ x xs. tally_step (test x) (tally test xs)) xs

-- some pass exactly where the count isn't 0
pub any_counted : {A : Type 0} (test : A → Bool) → (xs : List A) → list_any test xs ≡ nat_lt 0 (tally test xs)
any_counted test [] = refl
any_counted test (x ∷ xs) = by (test x) (any_counted test xs)
  where
    by : (b : Bool) → list_any test xs ≡ nat_lt 0 (tally test xs) → (b || list_any test xs) ≡ nat_lt 0 (weight b + tally test xs)
    by true rest = grind (arith, nat_tests)
    by false rest = let same : tally test xs ≡ 0 + tally test xs = omega arith in rest ∙ ap (nat_lt 0) same

none_gone : (test : Session → Bool) (number : ℕ) (sessions : List Session) → session_of number sessions ≡ None → tally test (others number sessions) ≡ tally test sessions
none_gone test number [] none = refl
none_gone test number (first ∷ sessions) none = by (first.number == number) refl none (none_gone test number sessions)
  where
    by : (b : Bool) → (first.number == number) ≡ b → cond b (Some first) (session_of number sessions) ≡ None → (session_of number sessions ≡ None → tally test (others number sessions) ≡ tally test sessions)
        → tally test (cond (not b) (first ∷ others number sessions) (others number sessions)) ≡ tally test (first ∷ sessions)
    by true here none rest = absurd (cc)
    by false here none rest = ap (λ n. weight (test first) + n) (rest none)

-- a count is that of the others and the session's own part
pub tally_parts : (test : Session → Bool) (number : ℕ) (sessions : List Session) → AreApart sessions → tally test sessions ≡ tally test (others number sessions) + weigh test (session_of number sessions)
unfolding AreApart
tally_parts test number [] apart = refl
tally_parts test number (first ∷ sessions) apart = by (first.number == number) refl (tally_parts test number sessions apart.1)
  where
    by : (b : Bool) → (first.number == number) ≡ b → tally test sessions ≡ tally test (others number sessions) + weigh test (session_of number sessions)
        → tally test (first ∷ sessions) ≡ tally test (cond (not b) (first ∷ others number sessions) (others number sessions)) + weigh test (cond b (Some first) (session_of number sessions))
    by true here rest =
        let gone : tally test (others number sessions) ≡ tally test sessions = none_gone test number sessions (subst (λ (n : ℕ). session_of n sessions ≡ None) (are_one first.number number here) apart.0) in
        omega (arith, gone)
    by false here rest = omega (arith, rest)

-- two tests that agree on all but one session
alike_others : (one two : Session → Bool) (number : ℕ) (sessions : List Session) → ((session : Session) → (session.number == number) ≡ false → one session ≡ two session) → tally one (others number sessions) ≡ tally two (others number sessions)
alike_others one two number [] same = refl
alike_others one two number (first ∷ sessions) same = by (first.number == number) refl (alike_others one two number sessions same)
  where
    by : (b : Bool) → (first.number == number) ≡ b → tally one (others number sessions) ≡ tally two (others number sessions)
        → tally one (cond (not b) (first ∷ others number sessions) (others number sessions)) ≡ tally two (cond (not b) (first ∷ others number sessions) (others number sessions))
    by true here rest = rest
    by false here rest = ap (λ b. weight b + tally one (others number sessions)) (same first here) ∙ ap (λ n. weight (two first) + n) rest

-- a count before and after a turn of the session
pub tally_turns : (one two : Session → Bool) (number : ℕ) (before after : State) → Turned number before after → AreApart before.sessions → ((session : Session) → (session.number == number) ≡ false → one session ≡ two session)
    → tally two after.sessions + weigh one (session_of number before.sessions) ≡ tally one before.sessions + weigh two (session_of number after.sessions)
tally_turns one two number before after turned apart same =
    let old : tally one before.sessions ≡ tally one (others number before.sessions) + weigh one (session_of number before.sessions) = tally_parts one number before.sessions apart in
    let new : tally two after.sessions ≡ tally two (others number after.sessions) + weigh two (session_of number after.sessions) = tally_parts two number after.sessions (turned.apart apart) in
    let kept : tally two (others number after.sessions) ≡ tally two (others number before.sessions) = ap (tally two) turned.sessions in
    let alike : tally one (others number before.sessions) ≡ tally two (others number before.sessions) = alike_others one two number before.sessions same in
    omega (arith, old, new, kept, alike)

-- THE LOAD

pub load_turns : (number : ℕ) (before after : State) → Turned number before after → AreApart before.sessions
    → load after + weigh is_open (session_of number before.sessions) ≡ load before + weigh is_open (session_of number after.sessions)
load_turns number before after turned apart =
    let new : tally is_open after.sessions ≡ load after = tally_is is_open after.sessions in
    let old : tally is_open before.sessions ≡ load before = tally_is is_open before.sessions in
    let parts : tally is_open after.sessions + weigh is_open (session_of number before.sessions) ≡ tally is_open before.sessions + weigh is_open (session_of number after.sessions) =
    tally_turns is_open is_open number before after turned apart (λ session differ. refl) in
    omega (arith, new, old, parts)

-- BUSY SESSIONS OF THE TOOL'S

differs : (k number other : ℕ) → (k == number) ≡ false → (other == number) ≡ true → (other == k) ≡ false
differs k number other one two = grind (arith, nat_tests)

waits_others : (number k : ℕ) (waiting : List Waiting) → (k == number) ≡ false → list_any (λ one. one.session == k) (others_waiting number waiting) ≡ list_any (λ one. one.session == k) waiting
waits_others number k [] differ = refl
waits_others number k (first ∷ waiting) differ = by (first.session == number) refl (waits_others number k waiting differ)
  where
    by : (b : Bool) → (first.session == number) ≡ b → list_any (λ one. one.session == k) (others_waiting number waiting) ≡ list_any (λ one. one.session == k) waiting
        → list_any (λ one. one.session == k) (cond (not b) (first ∷ others_waiting number waiting) (others_waiting number waiting)) ≡ ((first.session == k) || list_any (λ one. one.session == k) waiting)
    by true here rest = let apart : (first.session == k) ≡ false = differs k number first.session differ here in rw apart rest
    by false here rest = ap (λ b. (first.session == k) || b) rest

pub waits_same : (number k : ℕ) (before after : State) → Turned number before after → (k == number) ≡ false → list_any (λ one. one.session == k) before.waiting ≡ list_any (λ one. one.session == k) after.waiting
waits_same number k before after turned differ =
    sym (waits_others number k before.waiting differ) ∙ ap (list_any (λ one. one.session == k)) (sym turned.waiting) ∙ waits_others number k after.waiting differ

pub busy_turns : (number : ℕ) (before after : State) → Turned number before after → AreApart before.sessions
    → busy_count after + weigh (is_busy before.waiting) (session_of number before.sessions) ≡ busy_count before + weigh (is_busy after.waiting) (session_of number after.sessions)
busy_turns number before after turned apart =
    let new : tally (is_busy after.waiting) after.sessions ≡ busy_count after = tally_is (is_busy after.waiting) after.sessions in
    let old : tally (is_busy before.waiting) before.sessions ≡ busy_count before = tally_is (is_busy before.waiting) before.sessions in
    let parts : tally (is_busy after.waiting) after.sessions + weigh (is_busy before.waiting) (session_of number before.sessions) ≡ tally (is_busy before.waiting) before.sessions + weigh (is_busy after.waiting) (session_of number after.sessions) =
    tally_turns (is_busy before.waiting) (is_busy after.waiting) number before after turned apart
    (λ session differ. ap (λ b. session.is_tool && (session.in_transaction || b)) (waits_same number session.number before after turned differ)) in
    omega (arith, new, old, parts)

-- the tool is busy exactly where some of its sessions is
pub busy_counted : (state : State) → is_tool_busy state ≡ nat_lt 0 (busy_count state)
busy_counted state = any_counted (is_busy state.waiting) state.sessions ∙ ap (nat_lt 0) (tally_is (is_busy state.waiting) state.sessions)
