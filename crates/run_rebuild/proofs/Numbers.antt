-- The number of a row's shard, as a loop adds it up.
use Rattle.std.proofs.Common.{◌≡◌, ◌<◌, ◌≤◌, ℕ, ◌+◌, ◌%◌, List, [], ◌++◌, length, drop, get_or, Option, Some, None, sym, ap, ◌∙◌, arith}
use Rattle.std.specs.Prelude.{option_to_list, slice_get, sum}
use Rattle.std.proofs.Math.Nat.{mod-add-mod, mod-eq_of_lt}
use Rattle.std.proofs.lemmas.List.{drop_all, drop_more}
use Rattle.std.proofs.lemmas.List.Sums.{sum_by-drop_more}
use Rattle.base_values.specs.declared.value.Value.{Value}
use Rattle.base_values.specs.GhoSchema.Rows.{key_of}
use Rattle.run_rebuild.specs.ShardNumbers.{shard_number, spelled_sum, value_sum}

-- one number more, modulo the number of shards
pub added : (total more rest workers : ℕ) → ((total + more) % workers + rest) % workers ≡ (total + (more + rest)) % workers
added total more rest workers = mod-add-mod (total + more) workers rest ∙ ap (λ (n : ℕ). n % workers) (omega arith)

-- one byte more
pub one_byte : (total byte workers all i : ℕ) (bytes : List ℕ) → i < length bytes → byte ≡ get_or bytes i 0 → (total + sum (drop i bytes)) % workers ≡ all → ((total + byte) % workers + sum (drop (i + 1) bytes)) % workers ≡ all
one_byte total byte workers all i bytes less is so_far =
    added total byte (sum (drop (i + 1) bytes)) workers
    ∙ ap (λ (n : ℕ). (total + n) % workers) (ap (λ (n : ℕ). n + sum (drop (i + 1) bytes)) is ∙ sym (sum_by-drop_more (λ (n : ℕ). n) bytes i 0 less))
    ∙ so_far

-- one place more
pub nothing_added : (n : ℕ) → n ≡ 0 + n
nothing_added n = omega arith

with_value : (value : Option Value) (key : List Value) → spelled_sum (option_to_list value ++ key) ≡ spelled_sum (option_to_list value) + spelled_sum key
unfolding spelled_sum
with_value None key = nothing_added (spelled_sum key)
with_value (Some value) key = omega arith

pub one_place : (total new workers all i place : ℕ) (places : List ℕ) (row : List Value) → i < length places → place ≡ get_or places i 0 → new ≡ (total + spelled_sum (option_to_list (slice_get row place))) % workers
    → (total + spelled_sum (key_of (drop i places) row)) % workers ≡ all → (new + spelled_sum (key_of (drop (i + 1) places) row)) % workers ≡ all
unfolding key_of
one_place total new workers all i place places row less is added_is so_far =
    ap (λ (n : ℕ). (n + spelled_sum (key_of (drop (i + 1) places) row)) % workers) added_is
    ∙ added total (spelled_sum (option_to_list (slice_get row place))) (spelled_sum (key_of (drop (i + 1) places) row)) workers
    ∙ ap (λ (n : ℕ). (total + n) % workers) (sym (with_value (slice_get row place) (key_of (drop (i + 1) places) row)))
    ∙ ap (λ (p : ℕ). (total + spelled_sum (option_to_list (slice_get row p) ++ key_of (drop (i + 1) places) row)) % workers) is
    ∙ ap (λ (ps : List ℕ). (total + spelled_sum (key_of ps row)) % workers) (sym (drop_more places i 0 less))
    ∙ so_far

-- no place is left
pub none_left : (total workers i : ℕ) (places : List ℕ) (row : List Value) → length places ≤ i → total < workers → (total + spelled_sum (key_of (drop i places) row)) % workers ≡ shard_number workers (key_of places row) → total ≡ shard_number workers (key_of places row)
unfolding key_of spelled_sum
none_left total workers i places row past less so_far =
    let end : (total + spelled_sum (key_of (drop i places) row)) % workers ≡ total = ap (λ (ps : List ℕ). (total + spelled_sum (key_of ps row)) % workers) (drop_all i places past) ∙ ap (λ (n : ℕ). n % workers) (omega arith) ∙ mod-eq_of_lt less in
    sym end ∙ so_far

one_sum : (n : ℕ) → n ≡ n + 0
one_sum n = omega arith

pub none_added : (total workers : ℕ) → total < workers → total ≡ (total + spelled_sum []) % workers
unfolding spelled_sum
none_added total workers less = sym (ap (λ (n : ℕ). n % workers) (omega arith) ∙ mod-eq_of_lt less)

-- one value alone
pub one_added : (total sum workers : ℕ) (value : Value) (found : Option Value) → found ≡ Some value → sum ≡ (total + value_sum value) % workers → sum ≡ (total + spelled_sum (option_to_list found)) % workers
unfolding spelled_sum
one_added total sum workers value found is same =
    same ∙ ap (λ (n : ℕ). (total + n) % workers) (one_sum (value_sum value)) ∙ ap (λ (one : Option Value). (total + spelled_sum (option_to_list one)) % workers) (sym is)
