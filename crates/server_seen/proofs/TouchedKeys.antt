-- Keys in order, each once, and which rows have one of them.
use Rattle.std.proofs.Common.{◌≡◌, ℕ, Bool, true, false, ◌||◌, List, [], ◌∷◌, Ordering, Less, Equal, Greater, refl, sym, ap, ◌∙◌}
use Rattle.std.proofs.Math.Bool.{or_self_left}
use Rattle.std.specs.Ordering.{is_eq, match_ordering, ordering_reverse}
use Rattle.std.specs.List.{AllByRecursion}
use Rattle.base_values.specs.KeyOrder.{compare_keys}
use Rattle.base_values.proofs.Orders.{keys_total, tied_keys}
use Rattle.base_values.specs.GhoSchema.Rows.{key_of}
use Rattle.table_store.specs.RowLists.{is_at}
use Rattle.table_store.proofs.Orders.{Row, turned}
use Rattle.server_model.specs.Rows.{same_row, stands}
use Rattle.server_seen.specs.Written.{with_key, is_touched}
use Rattle.server_seen.specs.FittingChanges.{KeysAscend}
use Rattle.server_model.proofs.LockedRows.Tests.{or_swapped}
use Rattle.table_store.proofs.PagedTables.RowPages.RowPlaces.{eq_turned}

pub same_both : (a b : Row) → same_row a b ≡ same_row b a
same_both a b = ap is_eq (turned a b) ∙ eq_turned (compare_keys b a)

-- whether a key stands among keys with one more
key_here : (key other first : Row) (keys placed : List Row) (o : Ordering) → compare_keys key first ≡ o → stands other placed ≡ (same_row other key || stands other keys)
    → stands other (match_ordering o (key ∷ first ∷ keys) (first ∷ keys) (first ∷ placed)) ≡ (same_row other key || (same_row other first || stands other keys))
unfolding stands
key_here key other first keys placed Less is later = refl
key_here key other first keys placed Equal is later =
    sym (or_self_left (same_row other first) (stands other keys)) ∙ ap (λ (k : Row). same_row other k || (same_row other first || stands other keys)) (sym (tied_keys key first is))
key_here key other first keys placed Greater is later =
    ap (λ (b : Bool). same_row other first || b) later ∙ or_swapped (same_row other first) (same_row other key) (stands other keys)

pub stands-with_key : (key other : Row) (keys : List Row) → stands other (with_key key keys) ≡ (same_row other key || stands other keys)
unfolding stands with_key
stands-with_key key other [] = refl
stands-with_key key other (first ∷ keys) = key_here key other first keys (with_key key keys) (compare_keys key first) refl (stands-with_key key other keys)

moved_up : (a b c : Bool) → (b || (a || c)) ≡ ((a || b) || c)
moved_up true true c = refl
moved_up true false c = refl
moved_up false b c = refl

-- whether a row's key does
pub touched-with_key : (places : List ℕ) (key : Row) (keys : List Row) (row : Row) → is_touched places (with_key key keys) row ≡ (is_at places key row || is_touched places keys row)
touched-with_key places key keys row =
    stands-with_key key (key_of places row) keys ∙ ap (λ (b : Bool). b || stands (key_of places row) keys) (same_both (key_of places row) key)

-- keys stay in order
all_key_here : (P : Row → Type 0) (o : Ordering) (key first : Row) (keys placed : List Row) → P key → P first → AllByRecursion P keys → AllByRecursion P placed
    → AllByRecursion P (match_ordering o (key ∷ first ∷ keys) (first ∷ keys) (first ∷ placed))
all_key_here P Less key first keys placed k f others p = (k, (f, others))
all_key_here P Equal key first keys placed k f others p = (f, others)
all_key_here P Greater key first keys placed k f others p = (f, p)

all-with_key : (P : Row → Type 0) (key : Row) (keys : List Row) → P key → AllByRecursion P keys → AllByRecursion P (with_key key keys)
unfolding with_key
all-with_key P key [] k others = (k, tt)
all-with_key P key (first ∷ keys) k others = all_key_here P (compare_keys key first) key first keys (with_key key keys) k others.0 others.1 (all-with_key P key keys k others.1)

pub before_all : (key first : Row) (keys : List Row) → compare_keys key first ≡ Less → AllByRecursion (λ other. compare_keys first other ≡ Less) keys → AllByRecursion (λ other. compare_keys key other ≡ Less) keys
before_all key first [] less others = tt
before_all key first (next ∷ keys) less others = (keys_total.trans key first next less others.0, before_all key first keys less others.1)

placed_ascends : (o : Ordering) (key first : Row) (keys : List Row) → compare_keys key first ≡ o → KeysAscend (first ∷ keys) → KeysAscend (with_key key keys)
    → KeysAscend (match_ordering o (key ∷ first ∷ keys) (first ∷ keys) (first ∷ with_key key keys))
placed_ascends Less key first keys is ascends placed = ((is, before_all key first keys is ascends.0), ascends)
placed_ascends Equal key first keys is ascends placed = ascends
placed_ascends Greater key first keys is ascends placed =
    let less : compare_keys first key ≡ Less = keys_total.antisymm first key ∙ ap ordering_reverse is in
    (all-with_key (λ other. compare_keys first other ≡ Less) key keys less ascends.0, placed)

pub ascend-with_key : (key : Row) (keys : List Row) → KeysAscend keys → KeysAscend (with_key key keys)
unfolding with_key
ascend-with_key key [] ascends = (tt, tt)
ascend-with_key key (first ∷ keys) ascends = placed_ascends (compare_keys key first) key first keys refl ascends (ascend-with_key key keys ascends.1)
