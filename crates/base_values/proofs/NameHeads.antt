-- Names are in the order of the numbers that their first bytes spell; where these tie and neither name has more bytes, in the order of their lengths.
use Rattle.std.proofs.Common.{◌≡◌, ℕ, zero, suc, ◌+◌, ◌*◌, ◌^◌, ◌≤◌, ◌<◌, true, false, List, [], ◌∷◌, length, get_or, Ordering, Less, Equal, Greater, inl, inr, refl, sym, ap, subst, ◌∙◌, arith}
use Rattle.std.specs.Ordering.{MatchOrdering, nat_cmp, is_ne, ordering_reverse, ordering_then}
use Rattle.std.specs.Cmp.{nat_cmp_is}
use Rattle.std.specs.Cmp.Lexicographic.{slice_cmp}
use Rattle.std.proofs.Math.Nat.{eq-or-lt_of_le, pow-suc, pow-le-pow_right}
use Rattle.std.proofs.lemmas.Bool.{true≢false}
use Rattle.std.proofs.lemmas.Cmp.{ranked, nat_list_cmp_total}
use Rattle.base_values.specs.NameHeads.{head_of, IsHead}

-- BYTE BY BYTE

pub begun : (text : List ℕ) → IsHead 0 text 0
unfolding head_of
begun text = record { number = refl; bytes = λ place lt. absurd (omega (arith, lt)) }

fewer : (n : ℕ) (text : List ℕ) → ((i : ℕ) → i < suc n → get_or text i 0 < 256) → (i : ℕ) → i < n → get_or text i 0 < 256
fewer n text bytes i lt = bytes i (omega (arith, lt))

pub longer : (n : ℕ) (text : List ℕ) (head byte : ℕ) → IsHead n text head → byte ≡ get_or text n 0 → byte < 256 → IsHead (suc n) text (head * 256 + byte)
unfolding head_of
longer n text head byte is read small = record {
  number = ap (λ (h : ℕ). h * 256 + byte) is.number ∙ ap (λ (b : ℕ). head_of n text * 256 + b) read;
  bytes = λ i lt.
      elim (eq-or-lt_of_le {n = i} {m = n} (omega (arith, lt))) [
        | inl last ↦ subst (λ (b : ℕ). b < 256) (read ∙ ap (λ (k : ℕ). get_or text k 0) (sym last)) small
        | inr before ↦ is.bytes i before
      ];
}

below : (n : ℕ) (text : List ℕ) → ((i : ℕ) → i < n → get_or text i 0 < 256) → head_of n text < 256 ^ n
unfolding head_of
below zero text bytes = omega arith
below (suc n) text bytes =
    let front = below n text (fewer n text bytes) in
    let last = bytes n (omega arith) in
    let power = pow-suc 256 n in
    omega (arith, front, last, power)

-- a number of fewer than eight bytes has room for one more
pub has_room : (n : ℕ) (text : List ℕ) (head : ℕ) → IsHead n text head → n < 8 → head * 256 + 255 < 2 ^ 64
has_room n text head is few =
    let number = is.number in
    let front = below n text is.bytes in
    let power = pow-suc 256 n in
    let most : 256 ^ suc n ≤ 256 ^ 8 = pow-le-pow_right {n = 256} (omega arith) {i = suc n} {j = 8} (omega (arith, few)) in
    omega (arith, number, front, power, most)

-- ORDER

same_bytes : (n : ℕ) (xs ys : List ℕ) → ((i : ℕ) → i < n → get_or xs i 0 < 256) → ((i : ℕ) → i < n → get_or ys i 0 < 256) → head_of n xs ≡ head_of n ys → (i : ℕ) → i < n → get_or xs i 0 ≡ get_or ys i 0
unfolding head_of
same_bytes zero xs ys one other tie i lt = absurd (omega (arith, lt))
same_bytes (suc n) xs ys one other tie i lt =
    let x = one n (omega arith) in
    let y = other n (omega arith) in
    let fronts : head_of n xs ≡ head_of n ys = omega (arith, x, y, tie) in
    let lasts : get_or xs n 0 ≡ get_or ys n 0 = omega (arith, x, y, tie) in
    elim (eq-or-lt_of_le {n = i} {m = n} (omega (arith, lt))) [
      | inl last ↦ subst (λ (k : ℕ). get_or xs k 0 ≡ get_or ys k 0) (sym last) lasts
      | inr before ↦ same_bytes n xs ys (fewer n xs one) (fewer n ys other) fronts i before
    ]

first_other : (n : ℕ) (xs ys : List ℕ) → ((i : ℕ) → i < n → get_or xs i 0 ≡ get_or ys i 0) → get_or xs n 0 < get_or ys n 0 → slice_cmp nat_cmp xs ys ≡ Less
first_other n [] [] same lt = absurd (omega (arith, lt))
first_other n [] (y ∷ ys) same lt = refl
first_other n (x ∷ xs) [] same lt = absurd (omega (arith, lt))
first_other zero (x ∷ xs) (y ∷ ys) same lt = ap (λ (o : Ordering). ordering_then o (slice_cmp nat_cmp xs ys)) (sym (nat_cmp_is x y Less lt))
first_other (suc n) (x ∷ xs) (y ∷ ys) same lt =
    ap (λ (o : Ordering). ordering_then o (slice_cmp nat_cmp xs ys)) (sym (nat_cmp_is x y Equal (same zero (omega arith))))
    ∙ first_other n xs ys (λ i le. same (suc i) (omega (arith, le))) lt

less_head : (n : ℕ) (xs ys : List ℕ) → ((i : ℕ) → i < n → get_or xs i 0 < 256) → ((i : ℕ) → i < n → get_or ys i 0 < 256) → head_of n xs < head_of n ys → slice_cmp nat_cmp xs ys ≡ Less
unfolding head_of
less_head zero xs ys one other lt = absurd (omega (arith, lt))
less_head (suc n) xs ys one other lt =
    let x = one n (omega arith) in
    let y = other n (omega arith) in
    let up : head_of n xs ≤ head_of n ys = omega (arith, x, y, lt) in
    elim (eq-or-lt_of_le {n = head_of n xs} {m = head_of n ys} up) [
      | inl tie ↦ first_other n xs ys (same_bytes n xs ys (fewer n xs one) (fewer n ys other) tie) (omega (arith, tie, lt))
      | inr before ↦ less_head n xs ys (fewer n xs one) (fewer n ys other) before
    ]

shifted : (m n : ℕ) (o : Ordering) → MatchOrdering o (m < n) (m ≡ n) (n < m) → MatchOrdering o (suc m < suc n) (suc m ≡ suc n) (suc n < suc m)
shifted m n Less is = omega (arith, is)
shifted m n Equal is = omega (arith, is)
shifted m n Greater is = omega (arith, is)

nat_cmp-suc : (m n : ℕ) → nat_cmp m n ≡ nat_cmp (suc m) (suc n)
nat_cmp-suc m n = nat_cmp_is (suc m) (suc n) (nat_cmp m n) (shifted m n (nat_cmp m n) (ranked m n (nat_cmp m n) refl))

by_length : (n : ℕ) (xs ys : List ℕ) → length xs ≤ n → length ys ≤ n → ((i : ℕ) → i < n → get_or xs i 0 ≡ get_or ys i 0) → slice_cmp nat_cmp xs ys ≡ nat_cmp (length xs) (length ys)
by_length n [] [] one other same = refl
by_length n [] (y ∷ ys) one other same = nat_cmp_is 0 (length (y ∷ ys)) Less (omega arith)
by_length n (x ∷ xs) [] one other same = nat_cmp_is (length (x ∷ xs)) 0 Greater (omega arith)
by_length zero (x ∷ xs) (y ∷ ys) one other same = absurd (omega (arith, one))
by_length (suc n) (x ∷ xs) (y ∷ ys) one other same =
    ap (λ (o : Ordering). ordering_then o (slice_cmp nat_cmp xs ys)) (sym (nat_cmp_is x y Equal (same zero (omega arith))))
    ∙ by_length n xs ys (omega (arith, one)) (omega (arith, other)) (λ i le. same (suc i) (omega (arith, le)))
    ∙ nat_cmp-suc (length xs) (length ys)

-- NAMES

turned : (xs ys : List ℕ) → slice_cmp nat_cmp ys xs ≡ Less → slice_cmp nat_cmp xs ys ≡ Greater
turned xs ys less = nat_list_cmp_total.antisymm xs ys ∙ ap ordering_reverse less

pub heads_decide : (xs ys : List ℕ) (one other : ℕ) → IsHead 8 xs one → IsHead 8 ys other → is_ne (nat_cmp one other) ≡ true → nat_cmp one other ≡ slice_cmp nat_cmp xs ys
heads_decide xs ys one other first second differ = by (nat_cmp one other) differ (ranked one other (nat_cmp one other) refl) where
  by : (o : Ordering) → is_ne o ≡ true → MatchOrdering o (one < other) (one ≡ other) (other < one) → o ≡ slice_cmp nat_cmp xs ys
  by Less differ lt =
      let x = first.number in
      let y = second.number in
      sym (less_head 8 xs ys first.bytes second.bytes (subst (λ (h : ℕ). h < head_of 8 ys) x (subst (λ (h : ℕ). one < h) y lt)))
  by Equal differ tie = absurd (true≢false (sym differ))
  by Greater differ lt =
      let x = first.number in
      let y = second.number in
      sym (turned xs ys (less_head 8 ys xs second.bytes first.bytes (subst (λ (h : ℕ). h < head_of 8 xs) y (subst (λ (h : ℕ). other < h) x lt))))

tied_heads : (one other : ℕ) (o : Ordering) → MatchOrdering o (one < other) (one ≡ other) (other < one) → is_ne o ≡ false → one ≡ other
tied_heads one other Less is same = absurd (true≢false same)
tied_heads one other Equal is same = is
tied_heads one other Greater is same = absurd (true≢false same)

pub lengths_decide : (xs ys : List ℕ) (one other : ℕ) → IsHead 8 xs one → IsHead 8 ys other → is_ne (nat_cmp one other) ≡ false → length xs ≤ 8 → length ys ≤ 8 → nat_cmp (length xs) (length ys) ≡ slice_cmp nat_cmp xs ys
lengths_decide xs ys one other first second same few few_others =
    let tie : one ≡ other = tied_heads one other (nat_cmp one other) (ranked one other (nat_cmp one other) refl) same in
    sym (by_length 8 xs ys few few_others (same_bytes 8 xs ys first.bytes second.bytes (sym first.number ∙ tie ∙ second.number)))
