-- Values and keys that the order ties are one.
use Rattle.std.proofs.Common.{◌≡◌, true, List, [], ◌∷◌, ◌⊎◌, inl, inr, refl, ap}
use Rattle.std.specs.declared.cmp.Ordering.{Ordering}
use Rattle.std.specs.declared.cmp.Ordering.TheVariants.{Less, Equal, Greater}
use Rattle.std.specs.Cmp.{IsTotalOrder}
use Rattle.std.specs.Ordering.{is_lt, is_le, ordering_then}
use Rattle.std.proofs.lemmas.Cmp.{lists_total}
use Rattle.std.proofs.lemmas.Map.Lookups.{exact_signed, exact_bytes}
use Rattle.base_values.specs.declared.value.Value.{Value}
use Rattle.base_values.specs.declared.value.Value.TheVariants.{Null, Num, Text, Blob}
use Rattle.base_values.specs.KeyOrder.{compare_values, compare_keys}
use Rattle.base_values.specs.ValueOrder.{values_total}

-- what a test of an answer says of it
pub is_Less : (o : Ordering) → is_lt o ≡ true → o ≡ Less
is_Less Less e = refl
is_Less Equal e = absurd cc
is_Less Greater e = absurd cc

pub not_Greater : (o : Ordering) → is_le o ≡ true → (o ≡ Less) ⊎ (o ≡ Equal)
not_Greater Less e = inl refl
not_Greater Equal e = inr refl
not_Greater Greater e = absurd cc

pub tied_values : (a b : Value) → compare_values a b ≡ Equal → a ≡ b
unfolding compare_values
tied_values Null Null e = refl
tied_values (Num m) (Num n) e = ap Num (exact_signed m n e)
tied_values (Text s) (Text t) e = ap Text (exact_bytes s t e)
tied_values (Blob s) (Blob t) e = ap Blob (exact_bytes s t e)
tied_values a b e = absurd cc

pub both_Equal : (o p : Ordering) → ordering_then o p ≡ Equal → (o ≡ Equal) × (p ≡ Equal)
both_Equal Less p e = absurd cc
both_Equal Equal p e = (refl, e)
both_Equal Greater p e = absurd cc

pub tied_keys : (a b : List Value) → compare_keys a b ≡ Equal → a ≡ b
tied_keys [] [] e = refl
tied_keys [] (y ∷ b) e = absurd cc
tied_keys (x ∷ a) [] e = absurd cc
tied_keys (x ∷ a) (y ∷ b) e =
    let both = both_Equal (compare_values x y) (compare_keys a b) e in
    let first : x ≡ y = tied_values x y both.0 in
    let rest : a ≡ b = tied_keys a b both.1 in
    cc

pub keys_total : IsTotalOrder compare_keys
keys_total = lists_total values_total
