-- Ends round a common key leave room.
use Rattle.std.proofs.Common.{◌≡◌, Bool, true, false, ◌&&◌, List, refl, sym, ap, ◌∙◌, inl, inr}
use Rattle.std.specs.declared.cmp.Ordering.{Ordering}
use Rattle.std.specs.declared.cmp.Ordering.TheVariants.{Less, Equal, Greater}
use Rattle.std.specs.Cmp.{both_ways as one_answer}
use Rattle.std.specs.Ordering.{is_lt, is_le, ordering_reverse}
use Rattle.std.proofs.lemmas.Bool.{and_parts, and_from}
use Rattle.std.proofs.lemmas.Cmp.{alike_right, tied_itself}
use Rattle.base_values.specs.declared.span.Bound.{Bound}
use Rattle.base_values.specs.declared.span.Bound.TheVariants.{Open, Closed, Free}
use Rattle.base_values.specs.declared.span.Span.{Span}
use Rattle.base_values.specs.declared.value.Value.{Value}
use Rattle.base_values.specs.KeyOrder.{compare_keys}
use Rattle.base_values.specs.Spans.{above, below, has, leave_room, meets, point}
use Rattle.base_values.proofs.Orders.{is_Less, not_Greater, keys_total, tied_keys}

lt_lt : (a k b : List Value) → is_lt (compare_keys a k) ≡ true → is_lt (compare_keys k b) ≡ true → compare_keys a b ≡ Less
lt_lt a k b p q = keys_total.trans a k b (is_Less (compare_keys a k) p) (is_Less (compare_keys k b) q)

lt_le : (a k b : List Value) → is_lt (compare_keys a k) ≡ true → is_le (compare_keys k b) ≡ true → compare_keys a b ≡ Less
lt_le a k b p q =
    elim (not_Greater (compare_keys k b) q) [
      | inl less ↦ keys_total.trans a k b (is_Less (compare_keys a k) p) less
      | inr tied ↦ sym (alike_right keys_total k b a tied) ∙ is_Less (compare_keys a k) p
    ]

le_lt : (a k b : List Value) → is_le (compare_keys a k) ≡ true → is_lt (compare_keys k b) ≡ true → compare_keys a b ≡ Less
le_lt a k b p q =
    elim (not_Greater (compare_keys a k) p) [
      | inl less ↦ keys_total.trans a k b less (is_Less (compare_keys k b) q)
      | inr tied ↦ keys_total.congr a k b tied ∙ is_Less (compare_keys k b) q
    ]

le_le : (a k b : List Value) → is_le (compare_keys a k) ≡ true → is_le (compare_keys k b) ≡ true → is_le (compare_keys a b) ≡ true
le_le a k b p q =
    elim (not_Greater (compare_keys a k) p) [
      | inl less ↦ ap is_le (lt_le a k b (ap is_lt less) q)
      | inr tied ↦ ap is_le (keys_total.congr a k b tied) ∙ q
    ]

room : (low high : Bound) (key : List Value) → above low key ≡ true → below high key ≡ true → leave_room low high ≡ true
room Free high key p q = refl
room (Open a) Free key p q = refl
room (Closed a) Free key p q = refl
room (Open a) (Open b) key p q = ap is_lt (lt_lt a key b p q)
room (Open a) (Closed b) key p q = ap is_lt (lt_le a key b p q)
room (Closed a) (Open b) key p q = ap is_lt (le_lt a key b p q)
room (Closed a) (Closed b) key p q = le_le a key b p q

pub common_key : (a b : Span) (key : List Value) → has a key ≡ true → has b key ≡ true → meets a b ≡ true
unfolding has meets
common_key a b key p q =
    let in_a = and_parts (above a.low key) (below a.high key) p in
    let in_b = and_parts (above b.low key) (below b.high key) q in
    and_from _ _ (and_from _ _ (and_from _ _ (room a.low a.high key in_a.0 in_a.1) (room a.low b.high key in_a.0 in_b.1)) (room b.low a.high key in_b.0 in_a.1)) (room b.low b.high key in_b.0 in_b.1)

turn : (w x y z : Bool) → (((w && x) && y) && z) ≡ true → (((z && y) && x) && w) ≡ true
turn w x y z e =
    let p = and_parts ((w && x) && y) z e in
    let q = and_parts (w && x) y p.0 in
    let r = and_parts w x q.0 in
    and_from ((z && y) && x) w (and_from (z && y) x (and_from z y p.1 q.1) r.1) r.0

turned : (w x y z : Bool) → (((w && x) && y) && z) ≡ (((z && y) && x) && w)
turned w x y z = one_answer _ _ (turn w x y z) (turn z y x w)

pub meets_both_ways : (a b : Span) → meets a b ≡ meets b a
unfolding meets
meets_both_ways a b = turned (leave_room a.low a.high) (leave_room a.low b.high) (leave_room b.low a.high) (leave_room b.low b.high)

pub point_has_key : (key : List Value) → has (point key) key ≡ true
unfolding has
point_has_key key = let tied = tied_itself keys_total key in and_from _ _ (ap is_le tied) (ap is_le tied)

pub point_has_one : (key other : List Value) → has (point key) other ≡ true → other ≡ key
unfolding has
point_has_one key other p =
    let parts = and_parts (is_le (compare_keys key other)) (is_le (compare_keys other key)) p in
    elim (not_Greater (compare_keys other key) parts.1) [
      | inl less ↦ absurd (apart (compare_keys key other) (keys_total.antisymm key other ∙ ap ordering_reverse less) parts.0)
      | inr tied ↦ tied_keys other key tied
    ]
  where
    apart : (o : Ordering) → o ≡ Greater → is_le o ≡ true → ⊥
    apart Less e p = cc
    apart Equal e p = cc
    apart Greater e p = cc

room_below : (high : Bound) (key : List Value) → leave_room (Closed key) high ≡ below high key
room_below Free key = refl
room_below (Open end) key = refl
room_below (Closed end) key = refl

room_above : (low : Bound) (key : List Value) → leave_room low (Closed key) ≡ above low key
room_above Free key = refl
room_above (Open end) key = refl
room_above (Closed end) key = refl

implied : (u x y z : Bool) → u ≡ true → (y ≡ true → x ≡ true → z ≡ true) → (((u && x) && y) && z) ≡ (y && x)
implied true true true true e h = refl
implied true true true false e h = h refl refl
implied true true false z e h = refl
implied true false true z e h = refl
implied true false false z e h = refl
implied false x y z e h = absurd cc

pub point_meets : (key : List Value) (span : Span) → meets (point key) span ≡ has span key
unfolding meets has
point_meets key span =
    rw (room_below span.high key, room_above span.low key) (implied (is_le (compare_keys key key)) (below span.high key) (above span.low key) (leave_room span.low span.high) (ap is_le (tied_itself keys_total key)) (room span.low span.high key))
