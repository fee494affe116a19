-- Runs of entries: what lies between two places, where tests find them.
use Rattle.std.proofs.Common.{◌≡◌, inl, inr, ◌∙◌, ℕ, zero, suc, ◌+◌, ◌-◌, Bool, true, false, cond, List, [], ◌∷◌, take, drop, refl, sym, ap, subst, arith, one-add}
use Rattle.std.specs.List.{AllByRecursion, prefix_len}
use Rattle.std.proofs.lemmas.Bool.{true≢false}
use Rattle.base_page_list.specs.Pages.{FailsOn, between}
use Rattle.base_page_list.specs.Orders.{Has}

pub failed : (test : ℕ → Bool) (xs : List ℕ) (e : ℕ) → AllByRecursion (λ x. test x ≡ false) xs → Has xs e → test e ≡ false
failed test [] e fails has = absurd has
failed test (x ∷ xs) e fails (inl same) = ap test (sym same) ∙ fails.0
failed test (x ∷ xs) e fails (inr has) = failed test xs e fails.1 has

has_passing_by : (test : ℕ → Bool) (x : ℕ) (xs : List ℕ) (e : ℕ) (b : Bool) → test x ≡ b → FailsOn test (x ∷ xs) → Has (x ∷ xs) e → test e ≡ true → (Has xs e → Has (take (prefix_len test xs) xs) e) → Has (take (cond (test x) (1 + prefix_len test xs) 0) (x ∷ xs)) e
has_passing_by test x xs e true at fails (inl same) is rest = rw (at, one-add (prefix_len test xs)) (inl same)
has_passing_by test x xs e true at fails (inr has) is rest = rw (at, one-add (prefix_len test xs)) (inr (rest has))
has_passing_by test x xs e false at fails (inl same) is rest = absurd (true≢false (sym is ∙ ap test (sym same) ∙ at))
has_passing_by test x xs e false at fails (inr has) is rest = absurd (true≢false (sym is ∙ failed test xs e (fails.0 at) has))

has_passing : (test : ℕ → Bool) (xs : List ℕ) (e : ℕ) → FailsOn test xs → Has xs e → test e ≡ true → Has (take (prefix_len test xs) xs) e
has_passing test [] e fails has is = absurd has
has_passing test (x ∷ xs) e fails has is = has_passing_by test x xs e (test x) refl fails has is (λ there. has_passing test xs e fails.1 there is)

not_first : (first : ℕ → Bool) (x : ℕ) (xs : List ℕ) (e : ℕ) → Has (x ∷ xs) e → first e ≡ false → first x ≡ true → Has xs e
not_first first x xs e (inl same) behind at = absurd (true≢false (sym at ∙ ap first same ∙ behind))
not_first first x xs e (inr has) behind at = has

none_over : (last : ℕ → Bool) (x : ℕ) (xs : List ℕ) (e : ℕ) → FailsOn last (x ∷ xs) → Has (x ∷ xs) e → last e ≡ true → last x ≡ false → ⊥
none_over last x xs e fails (inl same) before at = true≢false (sym before ∙ ap last (sym same) ∙ at)
none_over last x xs e fails (inr has) before at = true≢false (sym before ∙ failed last xs e (fails.0 at) has)

less_none : (n : ℕ) → n - 0 ≡ n
less_none n = omega arith

between_by : (first last : ℕ → Bool) (x : ℕ) (xs : List ℕ) (e : ℕ) (b c : Bool) → first x ≡ b → last x ≡ c → FailsOn last (x ∷ xs) → Has (x ∷ xs) e → first e ≡ false → last e ≡ true → (Has xs e → Has (between (prefix_len first xs) (prefix_len last xs) xs) e)
    → Has (between (cond (first x) (1 + prefix_len first xs) 0) (cond (last x) (1 + prefix_len last xs) 0) (x ∷ xs)) e
between_by first last x xs e b false at over fails has behind before rest = absurd (none_over last x xs e fails has before over)
between_by first last x xs e true true at over fails has behind before rest =
    let size : (1 + prefix_len last xs) - (1 + prefix_len first xs) ≡ prefix_len last xs - prefix_len first xs = omega arith in
    rw (at, over, size, one-add (prefix_len first xs)) (rest (not_first first x xs e has behind at))
between_by first last x xs e false true at over fails has behind before rest = rw (at, less_none (cond (last x) (1 + prefix_len last xs) 0)) (has_passing last (x ∷ xs) e fails has before)

pub has_between : (first last : ℕ → Bool) (xs : List ℕ) (e : ℕ) → FailsOn first xs → FailsOn last xs → Has xs e → first e ≡ false → last e ≡ true → Has (between (prefix_len first xs) (prefix_len last xs) xs) e
has_between first last [] e no_first no_last has behind before = absurd has
has_between first last (x ∷ xs) e no_first no_last has behind before =
    between_by first last x xs e (first x) (last x) refl refl no_last has behind before (λ there. has_between first last xs e no_first.1 no_last.1 there behind before)

pub has_taken : (n e : ℕ) (xs : List ℕ) → Has (take n xs) e → Has xs e
has_taken zero e xs has = absurd has
has_taken (suc n) e [] has = absurd has
has_taken (suc n) e (x ∷ xs) (inl same) = inl same
has_taken (suc n) e (x ∷ xs) (inr has) = inr (has_taken n e xs has)

has_dropped : (n e : ℕ) (xs : List ℕ) → Has (drop n xs) e → Has xs e
has_dropped zero e xs has = has
has_dropped (suc n) e [] has = has
has_dropped (suc n) e (x ∷ xs) has = inr (has_dropped n e xs has)

pub between_has : (from to e : ℕ) (xs : List ℕ) → Has (between from to xs) e → Has xs e
between_has from to e xs has = has_dropped from e xs (has_taken (to - from) e (drop from xs) has)

-- what stands before the place passes, and what stands behind fails
passes_by : (test : ℕ → Bool) (x : ℕ) (xs : List ℕ) (e : ℕ) (b : Bool) → test x ≡ b → (Has (take (prefix_len test xs) xs) e → test e ≡ true) → Has (take (cond b (1 + prefix_len test xs) 0) (x ∷ xs)) e → test e ≡ true
passes_by test x xs e true at rest has = taken (subst (λ (n : ℕ). Has (take n (x ∷ xs)) e) (one-add (prefix_len test xs)) has)
  where
    taken : Has (x ∷ take (prefix_len test xs) xs) e → test e ≡ true
    taken (inl same) = subst (λ (n : ℕ). test n ≡ true) same at
    taken (inr has) = rest has
passes_by test x xs e false at rest has = absurd has

pub taken_passes : (test : ℕ → Bool) (xs : List ℕ) (e : ℕ) → Has (take (prefix_len test xs) xs) e → test e ≡ true
taken_passes test [] e has = absurd has
taken_passes test (x ∷ xs) e has = passes_by test x xs e (test x) refl (taken_passes test xs e) has

fails_by : (test : ℕ → Bool) (x : ℕ) (xs : List ℕ) (e : ℕ) (b : Bool) → test x ≡ b → FailsOn test (x ∷ xs) → (Has (drop (prefix_len test xs) xs) e → test e ≡ false) → Has (drop (cond b (1 + prefix_len test xs) 0) (x ∷ xs)) e → test e ≡ false
fails_by test x xs e true at fails rest has = rest (subst (λ (n : ℕ). Has (drop n (x ∷ xs)) e) (one-add (prefix_len test xs)) has)
fails_by test x xs e false at fails rest has = failed test (x ∷ xs) e (at, fails.0 at) has

pub dropped_fails : (test : ℕ → Bool) (xs : List ℕ) (e : ℕ) → FailsOn test xs → Has (drop (prefix_len test xs) xs) e → test e ≡ false
dropped_fails test [] e fails has = absurd has
dropped_fails test (x ∷ xs) e fails has = fails_by test x xs e (test x) refl fails (dropped_fails test xs e fails.1) has

-- what lies between two places lies before the second
pub before_second : (p q e : ℕ) (xs : List ℕ) → Has (take (q - p) (drop p xs)) e → Has (take q xs) e
before_second zero q e xs has = subst (λ (n : ℕ). Has (take n xs) e) (none_less q) has
  where
    none_less : (n : ℕ) → n - 0 ≡ n
    none_less n = omega arith
before_second (suc p) zero e xs has = absurd (subst (λ (n : ℕ). Has (take n (drop (suc p) xs)) e) (none_left p) has)
  where
    none_left : (n : ℕ) → 0 - suc n ≡ 0
    none_left n = omega arith
before_second (suc p) (suc q) e [] has = absurd (has_taken (suc q - suc p) e [] has)
before_second (suc p) (suc q) e (x ∷ xs) has = inr (before_second p q e xs (subst (λ (n : ℕ). Has (take n (drop p xs)) e) (both_less q p) has))
  where
    both_less : (m n : ℕ) → suc m - suc n ≡ m - n
    both_less m n = omega arith
