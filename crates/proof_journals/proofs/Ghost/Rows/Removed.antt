-- A row that no own write takes out stays as it is committed.
use Rattle.std.proofs.Common.{◌≡◌, ℕ, Bool, true, false, List, [], ◌∷◌, find, Some, refl, sym, ◌∙◌, subst}
use Rattle.base_values.specs.declared.gho_schema.schema.Index.{Index}
use Rattle.base_values.specs.declared.gho_schema.schema.Schema.{Schema}
use Rattle.base_values.specs.GhoSchema.Rows.{key_of, key_places}
use Rattle.base_values.specs.GhoSchema.Tables.{clash}
use Rattle.base_values.specs.declared.event.Change.{Change}
use Rattle.base_values.specs.declared.event.Change.TheVariants.{Write, Update, Delete}
use Rattle.table_store.specs.RowLists.{is_at, without_key}
use Rattle.table_store.proofs.RowLaws.{key_is}
use Rattle.proof_journals.proofs.Ghost.Relation.Tests.{true_false}
use Rattle.proof_journals.proofs.Ghost.Rows.Finding.{put_elsewhere, removed_elsewhere}
use Rattle.proof_journals.proofs.Ghost.Rows.Overlays.{after_put, put_by}
use Rattle.proof_journals.specs.Ghost.Rows.Changes.{NoneRemoved, removed_row}
use Rattle.proof_journals.specs.Ghost.Rows.Moments.{Fits, FitsAll, Row, put_in, rows_after, rows_after_all}

-- a put leaves a row that stands
put_stays : (places : List ℕ) (key row was : Row) (rows : List Row) (at : Bool) → is_at places key row ≡ at → find (is_at places key) rows ≡ Some was → find (is_at places key) (put_in places row rows) ≡ Some was
unfolding after_put
put_stays places key row was rows true at is =
    let same : key_of places row ≡ key = sym (key_is places key row at) in
    subst (λ k. find (is_at places k) rows ≡ Some was → find (is_at places k) (put_in places row rows) ≡ Some was) same (λ found. put_by places row rows (Some was) found) is
put_stays places key row was rows false at is = put_elsewhere places key row rows at ∙ is

-- what is taken out is another row
out_stays : (uniques : List Index) (places : List ℕ) (key made was out : Row) (rows : List Row) (at : Bool) → is_at places key out ≡ at → find (is_at places key) rows ≡ Some was → find (is_at places (key_of places out)) rows ≡ Some out → clash uniques made was ≡ true → clash uniques made out ≡ false
    → find (is_at places key) (without_key places (key_of places out) rows) ≡ Some was
out_stays uniques places key made was out rows true at is stood clashes apart =
    let both : Some was ≡ Some out = sym is ∙ subst (λ k. find (is_at places k) rows ≡ Some out) (sym (key_is places key out at)) stood in
    let one : was ≡ out = cc in
    true_false (clash uniques made out) (subst (λ r. clash uniques made r ≡ true) one clashes) apart
out_stays uniques places key made was out rows false at is stood clashes apart = removed_elsewhere places key out rows at ∙ is

change_stays : (uniques : List Index) (places : List ℕ) (key made was : Row) (change : Change) (rows : List Row) → find (is_at places key) rows ≡ Some was → ((out : Row) → removed_row change ≡ Some out → find (is_at places (key_of places out)) rows ≡ Some out)
    → ((out : Row) → removed_row change ≡ Some out → clash uniques made out ≡ false) → clash uniques made was ≡ true → find (is_at places key) (rows_after places change rows) ≡ Some was
change_stays uniques places key made was (Write row) rows is takes apart clashes = put_stays places key row was rows (is_at places key row) refl is
change_stays uniques places key made was (Update before after) rows is takes apart clashes =
    put_stays places key after was (without_key places (key_of places before) rows) (is_at places key after) refl
    (out_stays uniques places key made was before rows (is_at places key before) refl is (takes before refl) clashes (apart before refl))
change_stays uniques places key made was (Delete row) rows is takes apart clashes = out_stays uniques places key made was row rows (is_at places key row) refl is (takes row refl) clashes (apart row refl)

-- what a change takes out stands
stood : (schema : Schema) (change : Change) (rows : List Row) → Fits schema rows change → (out : Row) → removed_row change ≡ Some out → find (is_at (key_places schema) (key_of (key_places schema) out)) rows ≡ Some out
stood schema (Write row) rows fits out is = absurd cc
stood schema (Update before after) rows fits out is = let one : before ≡ out = cc in subst (λ r. find (is_at (key_places schema) (key_of (key_places schema) r)) rows ≡ Some r) one fits.0
stood schema (Delete row) rows fits out is = let one : row ≡ out = cc in subst (λ r. find (is_at (key_places schema) (key_of (key_places schema) r)) rows ≡ Some r) one fits

-- *The row beside is seen as it is committed*: it clashes with the new one, and no row that was taken out does.
pub beside_stays : (schema : Schema) (key made was : Row) (changes : List Change) (rows : List Row) → find (is_at (key_places schema) key) rows ≡ Some was → FitsAll schema rows changes → NoneRemoved schema.uniques made changes → clash schema.uniques made was ≡ true
    → find (is_at (key_places schema) key) (rows_after_all (key_places schema) changes rows) ≡ Some was
unfolding rows_after_all FitsAll
beside_stays schema key made was [] rows is fits apart clashes = is
beside_stays schema key made was (change ∷ changes) rows is fits apart clashes =
    beside_stays schema key made was changes (rows_after (key_places schema) change rows) (change_stays schema.uniques (key_places schema) key made was change rows is (stood schema change rows fits.0) apart.0 clashes) fits.1 apart.1 clashes
