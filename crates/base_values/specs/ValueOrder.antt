-- The order of values is total: it goes by the kind, and then by the one part that values of that kind have. These are proofs, for the comparisons of values; they define nothing that a contract cites.
use Rattle.std.specs.Prelude.{◌≡◌, ℕ, ℤ, pos, List, [], refl}
use Rattle.std.proofs.Common.{sym, subst}
use Rattle.std.specs.declared.cmp.Ordering.{Ordering}
use Rattle.std.specs.declared.cmp.Ordering.TheVariants.{Less, Equal, Greater}
use Rattle.std.specs.Ordering.{nat_cmp, int_cmp, on, then_cmp, ordering_then, eq_by_cmp, as_partial_cmp}
use Rattle.std.specs.Cmp.{IsTotalOrder, IsPartialOrder, po}
use Rattle.std.specs.Cmp.Lexicographic.{slice_cmp}
use Rattle.std.proofs.lemmas.Cmp.{nat_cmp_total, int_cmp_total, nat_list_cmp_total, on_total, then_total}
use Rattle.base_values.specs.declared.value.Value.{Value}
use Rattle.base_values.specs.declared.value.Value.TheVariants.{Null, Num, Text, Blob}
use Rattle.base_values.specs.KeyOrder.{rank, compare_values}

number : Value → ℤ
number Null = pos 0
number (Num n) = n
number (Text text) = pos 0
number (Blob blob) = pos 0

content : Value → List ℕ
content Null = []
content (Num n) = []
content (Text text) = text
content (Blob blob) = blob

by_parts : Value → Value → Ordering
by_parts = then_cmp (on rank nat_cmp) (then_cmp (on number int_cmp) (on content (slice_cmp nat_cmp)))

then-Equal : (o : Ordering) → o ≡ ordering_then o Equal
then-Equal Less = refl
then-Equal Equal = refl
then-Equal Greater = refl

same : (a b : Value) → compare_values a b ≡ by_parts a b
unfolding compare_values by_parts number content
same Null Null = refl
same Null (Num n) = refl
same Null (Text t) = refl
same Null (Blob t) = refl
same (Num m) Null = refl
same (Num m) (Num n) = then-Equal (int_cmp m n)
same (Num m) (Text t) = refl
same (Num m) (Blob t) = refl
same (Text s) Null = refl
same (Text s) (Num n) = refl
same (Text s) (Text t) = refl
same (Text s) (Blob t) = refl
same (Blob s) Null = refl
same (Blob s) (Num n) = refl
same (Blob s) (Text t) = refl
same (Blob s) (Blob t) = refl

pub values_total : IsTotalOrder compare_values
unfolding by_parts
values_total =
    subst IsTotalOrder (λ i a b. sym (same a b) i) (then_total (on_total rank nat_cmp_total) (then_total (on_total number int_cmp_total) (on_total content nat_list_cmp_total)))

pub values_partial : IsPartialOrder (eq_by_cmp compare_values) (as_partial_cmp compare_values)
values_partial = po values_total (λ a b. refl)
