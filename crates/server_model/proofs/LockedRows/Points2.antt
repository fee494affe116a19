-- The rows met at a point of the clustered key are the row of that key, where there is one.
use Rattle.std.proofs.Common.{◌≡◌, ℕ, Bool, true, false, ◌&&◌, List, [], ◌∷◌, find, filter, cond, Some, Ordering, Less, Equal, Greater, refl, ap, ◌∙◌, subst}
use Rattle.std.specs.Cmp.{both_ways}
use Rattle.std.specs.Prelude.{option_to_list}
use Rattle.std.specs.Ordering.{is_eq, is_gt}
use Rattle.std.proofs.lemmas.Cmp.{tied_itself}
use Rattle.std.proofs.lemmas.Bool.{and_parts}
use Rattle.base_values.specs.KeyOrder.{compare_keys}
use Rattle.base_values.specs.Spans.{has, point}
use Rattle.base_values.proofs.Orders.{keys_total, tied_keys}
use Rattle.base_values.proofs.SpanLaws.{point_has_key, point_has_one}
use Rattle.base_values.specs.declared.gho_schema.schema.Index.{Index}
use Rattle.base_values.specs.GhoSchema.Rows.{key_of}
use Rattle.base_values.specs.GhoSchema.Tables.{Ascends, no_null}
use Rattle.table_store.specs.RowLists.{is_at}
use Rattle.table_store.proofs.Orders.{Row, is_Equal}
use Rattle.table_store.proofs.FoundRows.{others_not_at}
use Rattle.table_store.proofs.RowsBetween.{none_pass}
use Rattle.server_model.specs.Rows.{lies_under}

-- a point is met where the key is just that
pub under_point : (index : Index) (key row : Row) → no_null key ≡ true → lies_under (Some index) (point key) row ≡ is_at index.places key row
unfolding lies_under
under_point index key row full =
    both_ways (no_null (key_of index.places row) && has (point key) (key_of index.places row)) (is_at index.places key row)
    (λ met. ap (λ (k : Row). is_eq (compare_keys key k)) (point_has_one key (key_of index.places row) ((and_parts (no_null (key_of index.places row)) (has (point key) (key_of index.places row)) met).1)) ∙ ap is_eq (tied_itself keys_total key))
    (λ at.
    let same : key ≡ key_of index.places row = tied_keys key (key_of index.places row) (is_Equal (compare_keys key (key_of index.places row)) at) in
    subst (λ (k : Row). (no_null k && has (point key) k) ≡ true) same (rw (full, point_has_key key) refl))

not_greater : (o : Ordering) → is_eq o ≡ true → is_gt o ≡ false
not_greater Less is = refl
not_greater Equal is = refl
not_greater Greater is = absurd cc

-- at most one row has a key
pub one_met : (places : List ℕ) (key : Row) (rows : List Row) → Ascends places rows → filter (is_at places key) rows ≡ option_to_list (find (is_at places key) rows)
one_met places key [] ascends = refl
one_met places key (first ∷ rows) ascends = at (is_at places key first) refl (one_met places key rows ascends.1) where
  at : (b : Bool) → is_at places key first ≡ b → filter (is_at places key) rows ≡ option_to_list (find (is_at places key) rows)
      → cond b (first ∷ filter (is_at places key) rows) (filter (is_at places key) rows) ≡ option_to_list (cond b (Some first) (find (is_at places key) rows))
  at true is rest = ap (λ (rs : List Row). first ∷ rs) (none_pass (is_at places key) rows (others_not_at places key first rows (not_greater (compare_keys key (key_of places first)) is) ascends.0))
  at false is rest = rest
