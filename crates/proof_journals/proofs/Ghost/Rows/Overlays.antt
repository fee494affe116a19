-- Own writes over committed rows.
use Rattle.std.proofs.Common.{◌≡◌, ℕ, Bool, true, false, ◌||◌, List, [], ◌∷◌, find, cond, Option, Some, None, refl, sym, ap, ◌∙◌, subst, unwrap_or}
use Rattle.base_values.specs.GhoSchema.Rows.{key_of, has_key, with_row}
use Rattle.base_values.specs.declared.event.Change.{Change}
use Rattle.base_values.specs.declared.event.Change.TheVariants.{Write, Update, Delete}
use Rattle.table_store.specs.RowLists.{is_at, without_key}
use Rattle.table_store.proofs.RowLaws.{key_is, gone}
use Rattle.proof_journals.proofs.Ghost.Relation.Tests.{true_false}
use Rattle.proof_journals.proofs.Ghost.Rows.Events.{others_found}
use Rattle.proof_journals.proofs.Ghost.Rows.Finding.{put_elsewhere, removed_elsewhere}
use Rattle.proof_journals.proofs.Ghost.Rows.StayingKeys.{put_is_found}
use Rattle.proof_journals.specs.Ghost.Rows.Changes.{NamesHeld, new_key, old_key}
use Rattle.proof_journals.specs.Ghost.Rows.Moments.{Row, put_in, rows_after, rows_after_all}

-- writes that name other keys leave what is found
differ : (test : Row → Bool) (a b : Row) → test a ≡ true → test b ≡ false → a ≡ b → ⊥
differ test a b is fails same = true_false (test b) (subst (λ k. test k ≡ true) same is) fails

pub spared : (places : List ℕ) (test : Row → Bool) (key : Row) (changes : List Change) (rows : List Row) → NamesHeld places test changes → test key ≡ false → find (is_at places key) (rows_after_all places changes rows) ≡ find (is_at places key) rows
unfolding rows_after_all
spared places test key [] rows covered free = refl
spared places test key (change ∷ changes) rows covered free =
    spared places test key changes (rows_after places change rows) covered.1 free
    ∙ others_found places key change rows (differ test (old_key places change) key covered.0.0 free) (differ test (new_key places change) key covered.0.1 free)

-- ---- what is found by a key behind a change is told by what was found by it

-- a row that is found is there
key_there : (places : List ℕ) (key row found : Row) (rows : List Row) (b : Bool) → is_at places key row ≡ b → (find (is_at places key) rows ≡ Some found → has_key places rows key ≡ true) → cond b (Some row) (find (is_at places key) rows) ≡ Some found → (b || has_key places rows key) ≡ true
key_there places key row found rows true at others is = refl
key_there places key row found rows false at others is = others is

pub some_key : (places : List ℕ) (key found : Row) (rows : List Row) → find (is_at places key) rows ≡ Some found → has_key places rows key ≡ true
unfolding has_key
some_key places key found [] is = absurd cc
some_key places key found (row ∷ rows) is = key_there places key row found rows (is_at places key row) refl (some_key places key found rows) is

-- what is found behind a put
unfoldable pub after_put : Row → Option Row → Option Row
after_put row None = Some row
after_put row (Some found) = Some found

pub stays_put : (places : List ℕ) (key row : Row) (rows : List Row) (b : Bool) → b ≡ true → find (is_at places key) (unwrap_or (cond b None (Some (with_row places row rows))) rows) ≡ find (is_at places key) rows
stays_put places key row rows true is = refl
stays_put places key row rows false is = absurd (let no : false ≡ true = is in cc)

pub put_by : (places : List ℕ) (row : Row) (rows : List Row) (found : Option Row) → find (is_at places (key_of places row)) rows ≡ found → find (is_at places (key_of places row)) (put_in places row rows) ≡ after_put row found
unfolding after_put
put_by places row rows None is = put_is_found places row rows is
put_by places row rows (Some found) is = stays_put places (key_of places row) row rows (has_key places rows (key_of places row)) (some_key places (key_of places row) found rows is) ∙ is

same_put : (places : List ℕ) (key row : Row) (a b : List Row) (at : Bool) → is_at places key row ≡ at → find (is_at places key) a ≡ find (is_at places key) b → find (is_at places key) (put_in places row a) ≡ find (is_at places key) (put_in places row b)
same_put places key row a b true at same =
    let is : key_of places row ≡ key = sym (key_is places key row at) in
    subst (λ k. find (is_at places k) a ≡ find (is_at places k) b → find (is_at places k) (put_in places row a) ≡ find (is_at places k) (put_in places row b)) is
    (λ one. put_by places row a (find (is_at places (key_of places row)) a) refl ∙ ap (after_put row) one ∙ sym (put_by places row b (find (is_at places (key_of places row)) b) refl)) same
same_put places key row a b false at same = put_elsewhere places key row a at ∙ same ∙ sym (put_elsewhere places key row b at)

same_out : (places : List ℕ) (key row : Row) (a b : List Row) (at : Bool) → is_at places key row ≡ at → find (is_at places key) a ≡ find (is_at places key) b → find (is_at places key) (without_key places (key_of places row) a) ≡ find (is_at places key) (without_key places (key_of places row) b)
same_out places key row a b true at same =
    let is : key_of places row ≡ key = sym (key_is places key row at) in
    subst (λ k. find (is_at places k) (without_key places (key_of places row) a) ≡ find (is_at places k) (without_key places (key_of places row) b)) is (gone places (key_of places row) a ∙ sym (gone places (key_of places row) b))
same_out places key row a b false at same = removed_elsewhere places key row a at ∙ same ∙ sym (removed_elsewhere places key row b at)

pub same_after : (places : List ℕ) (key : Row) (change : Change) (a b : List Row) → find (is_at places key) a ≡ find (is_at places key) b → find (is_at places key) (rows_after places change a) ≡ find (is_at places key) (rows_after places change b)
same_after places key (Write row) a b same = same_put places key row a b (is_at places key row) refl same
same_after places key (Update before after) a b same =
    same_put places key after (without_key places (key_of places before) a) (without_key places (key_of places before) b) (is_at places key after) refl (same_out places key before a b (is_at places key before) refl same)
same_after places key (Delete row) a b same = same_out places key row a b (is_at places key row) refl same

pub same_after_all : (places : List ℕ) (key : Row) (changes : List Change) (a b : List Row) → find (is_at places key) a ≡ find (is_at places key) b → find (is_at places key) (rows_after_all places changes a) ≡ find (is_at places key) (rows_after_all places changes b)
unfolding rows_after_all
same_after_all places key [] a b same = same
same_after_all places key (change ∷ changes) a b same = same_after_all places key changes (rows_after places change a) (rows_after places change b) (same_after places key change a b same)

-- *One session commits beside another*, whose writes name other keys: where the first wrote nothing, the other sees what it
-- saw, and elsewhere what the first saw.
pub beside_elsewhere : (places : List ℕ) (test : Row → Bool) (key : Row) (first other : List Change) (rows : List Row) → NamesHeld places test first → test key ≡ false
    → find (is_at places key) (rows_after_all places other (rows_after_all places first rows)) ≡ find (is_at places key) (rows_after_all places other rows)
beside_elsewhere places test key first other rows covered free = same_after_all places key other (rows_after_all places first rows) rows (spared places test key first rows covered free)

pub beside_here : (places : List ℕ) (test : Row → Bool) (key : Row) (first other : List Change) (rows : List Row) → NamesHeld places test other → test key ≡ false
    → find (is_at places key) (rows_after_all places other (rows_after_all places first rows)) ≡ find (is_at places key) (rows_after_all places first rows)
beside_here places test key first other rows covered free = spared places test key other (rows_after_all places first rows) covered free
