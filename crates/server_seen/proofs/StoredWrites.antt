-- What was written stays in order through each call.
use Rattle.std.proofs.Common.{◌≡◌, ℕ, List, find, length, None, sym, ap, ◌∙◌, subst}
use Rattle.base_values.specs.declared.gho_schema.schema.Schema.{Schema}
use Rattle.base_values.specs.GhoSchema.Rows.{key_of, key_places, with_row}
use Rattle.table_store.specs.RowLists.{is_at, without_key}
use Rattle.table_store.proofs.Orders.{Row}
use Rattle.table_store.proofs.RowLaws.{gone}
use Rattle.server_seen.specs.Written.{Written, with_key, removed, stored}
use Rattle.server_seen.specs.FittingChanges.{IsWritten}
use Rattle.server_seen.specs.Stored.{IsStored}

pub written_is : (rows rows' keys keys' : List Row) → rows' ≡ rows → keys' ≡ keys → let one : Written = record { rows = rows'; keys = keys' } in let two : Written = record { rows = rows; keys = keys } in one ≡ two
written_is rows rows' keys keys' same too =
    ap {B = Written} (λ (rs : List Row). record { rows = rs; keys = keys' }) same ∙ ap {B = Written} (λ (ks : List Row). record { rows = rows; keys = ks }) too

-- by a schema, a width and lists that are equal
pub stored_as : (schema schema' : Schema) (width width' : ℕ) (written written' : Written) → width ≡ length (key_places schema) → schema' ≡ schema → width' ≡ width → written' ≡ written → IsWritten (key_places schema) written → IsStored schema' width' written'
stored_as schema schema' width width' written written' is same wide equal was = record {
  width_is = wide ∙ is ∙ ap (λ (s : Schema). length (key_places s)) (sym same);
  is_written = subst (λ (w : Written). IsWritten (key_places schema') w) (sym equal) (subst (λ (s : Schema). IsWritten (key_places s) written) (sym same) was);
}

-- the row of a key is taken out
pub removed_rows : (schema : Schema) (key : Row) (rows rows' keys keys' : List Row) → rows' ≡ without_key (key_places schema) key rows → keys' ≡ with_key key keys
    → let now : Written = record { rows = rows'; keys = keys' } in let was : Written = record { rows = rows; keys = keys } in now ≡ removed (key_places schema) key was
removed_rows schema key rows rows' keys keys' fewer more = written_is (without_key (key_places schema) key rows) rows' (with_key key keys) keys' fewer more

-- a row is put in
pub stored_rows : (schema middle : Schema) (key row : Row) (rows less rows' keys keys' : List Row) → key ≡ key_of (key_places schema) row → middle ≡ schema → less ≡ without_key (key_places schema) key rows → rows' ≡ with_row (key_places middle) row less → keys' ≡ with_key key keys
    → let now : Written = record { rows = rows'; keys = keys' } in let was : Written = record { rows = rows; keys = keys } in now ≡ stored (key_places schema) row was
stored_rows schema middle key row rows less rows' keys keys' own same fewer put more =
    written_is (with_row (key_places schema) row (without_key (key_places schema) (key_of (key_places schema) row) rows)) rows' (with_key (key_of (key_places schema) row) keys) keys'
    (put ∙ ap (λ (s : Schema). with_row (key_places s) row less) same ∙ ap (λ (rs : List Row). with_row (key_places schema) row rs) fewer ∙ ap (λ (k : Row). with_row (key_places schema) row (without_key (key_places schema) k rows)) own)
    (more ∙ ap (λ (k : Row). with_key k keys) own)

-- a key that was taken out is new
pub new_after : (schema middle : Schema) (key row : Row) (rows less : List Row) → key ≡ key_of (key_places schema) row → middle ≡ schema → less ≡ without_key (key_places schema) key rows → find (is_at (key_places middle) (key_of (key_places middle) row)) less ≡ None
new_after schema middle key row rows less own same fewer =
    ap (λ (s : Schema). find (is_at (key_places s) (key_of (key_places s) row)) less) same ∙ ap (λ (k : Row). find (is_at (key_places schema) k) less) (sym own) ∙ ap (find (is_at (key_places schema) key)) fewer ∙ gone (key_places schema) key rows
