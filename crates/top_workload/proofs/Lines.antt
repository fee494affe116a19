-- Lines, one after the other.
use Rattle.std.proofs.Common.{◌≡◌, ℕ, zero, suc, ◌+◌, List, ◌++◌, codes, refl, sym, ap, ◌∙◌, append-nil, append_assoc, add-one, add-zero, zero-add, arith}
use Rattle.std.specs.List.{flat_map, range_with_len}
use Rattle.top_workload.specs.Workloads.{client_line, client_text}

one_after : (f : ℕ → List ℕ) (first count : ℕ) → flat_map f (range_with_len first (suc count)) ≡ flat_map f (range_with_len first count) ++ f (first + count)
one_after f first zero = rw add-zero (append-nil (f first))
one_after f first (suc count) =
    let same : first + 1 + count ≡ first + suc count = omega arith in
    ap (λ xs. f first ++ xs) (one_after f (first + 1) count)
    ∙ sym (append_assoc (f first) (flat_map f (range_with_len (first + 1) count)) (f (first + 1 + count)))
    ∙ ap (λ n. (f first ++ flat_map f (range_with_len (first + 1) count)) ++ f n) same

lines_more : (f : ℕ → List ℕ) (count : ℕ) → flat_map f (range_with_len 0 (count + 1)) ≡ flat_map f (range_with_len 0 count) ++ f count
lines_more f count =
    ap (λ n. flat_map f (range_with_len 0 n)) (add-one count) ∙ one_after f 0 count ∙ ap (λ n. flat_map f (range_with_len 0 count) ++ f n) (zero-add count)

-- a text with so many lines behind what it began with, and one more
pub text_more : (f : ℕ → List ℕ) (begun before after : List ℕ) (count : ℕ) → before ≡ begun ++ flat_map f (range_with_len 0 count) → after ≡ before ++ f count → after ≡ begun ++ flat_map f (range_with_len 0 (count + 1))
text_more f begun before after count so_far grown =
    grown ∙ ap (λ xs. xs ++ f count) so_far ∙ append_assoc begun (flat_map f (range_with_len 0 count)) (f count)
    ∙ ap (λ xs. begun ++ xs) (sym (lines_more f count))

-- one piece behind another
pub grows_twice : (first second third a b : List ℕ) → second ≡ first ++ a → third ≡ second ++ b → third ≡ first ++ (a ++ b)
grows_twice first second third a b one two = two ∙ ap (λ xs. xs ++ b) one ∙ append_assoc first a b

pub grows_thrice : (first second third last a b c : List ℕ) → second ≡ first ++ a → third ≡ second ++ b → last ≡ third ++ c → last ≡ first ++ (a ++ b ++ c)
grows_thrice first second third last a b c one two three = grows_twice first third last (a ++ b) c (grows_twice first second third a b one two) three

-- a client's text, behind what it began with
pub client_all : (rows state count : ℕ) (begun before after : List ℕ) → count ≡ 30 → before ≡ (begun ++ codes "\"\"\"\n") ++ flat_map (client_line rows state) (range_with_len 0 count)
    → after ≡ before ++ codes "\"\"\",\n" → after ≡ begun ++ client_text rows state
unfolding client_text
client_all rows state count begun before after all so_far grown =
    let lines = flat_map (client_line rows state) (range_with_len 0 30) in
    grows_thrice begun (begun ++ codes "\"\"\"\n") before after (codes "\"\"\"\n") lines (codes "\"\"\",\n") refl
    (so_far ∙ ap (λ n. (begun ++ codes "\"\"\"\n") ++ flat_map (client_line rows state) (range_with_len 0 n)) all) grown
