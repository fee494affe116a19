-- Where each row's image stands, and nothing else, the ghost is the altered table.
use Rattle.std.proofs.Common.{◌≡◌, ℕ, Bool, true, false, List, [], ◌∷◌, find, cond, Option, Some, None, Ok, Ordering, Less, Equal, Greater, refl, sym, ap, ◌∙◌, subst}
use Rattle.std.specs.Ordering.{ordering_reverse}
use Rattle.std.specs.Option.{option_and_then}
use Rattle.std.specs.Result.{result_ok}
use Rattle.std.specs.List.{AllByRecursion}
use Rattle.base_values.specs.KeyOrder.{compare_keys}
use Rattle.base_values.proofs.Orders.{tied_keys}
use Rattle.base_values.specs.GhoSchema.Rows.{key_of}
use Rattle.base_values.specs.GhoSchema.Tables.{Ascends}
use Rattle.base_values.specs.declared.row_conversion.map.MapColumn.{MapColumn}
use Rattle.base_values.specs.RowConversion.ConvertedRows.{converted_row, converted_rows}
use Rattle.table_store.specs.RowLists.{is_at}
use Rattle.table_store.proofs.FoundRows.{others_not_at, none_at}
use Rattle.table_store.proofs.Orders.{turned}
use Rattle.table_store.proofs.RowLaws.{key_is}
use Rattle.server_model.proofs.LockedRows.OneRow.{own_key}
use Rattle.proof_journals.specs.Ghost.Rows.Moments.{Row}

-- nothing is found where no row is at the key
pub found_none : {X : Type 0} (test : X → Bool) (xs : List X) → AllByRecursion (λ x. test x ≡ false) xs → find test xs ≡ None
found_none test [] none = refl
found_none test (x ∷ xs) none = rw none.0 (found_none test xs none.1)

-- ---- rows in order of key are told by what is found among them

-- a row before all others isn't among them
ahead : (places : List ℕ) (row first : Row) (rows : List Row) → compare_keys (key_of places row) (key_of places first) ≡ Less → Ascends places (first ∷ rows) → find (is_at places (key_of places row)) (first ∷ rows) ≡ None
ahead places row first rows less ascends =
    found_none (is_at places (key_of places row)) (first ∷ rows) (rw less refl, others_not_at places (key_of places row) first rows (rw less refl) ascends.0)

pub finds_itself : (places : List ℕ) (row : Row) (rows : List Row) → find (is_at places (key_of places row)) (row ∷ rows) ≡ Some row
finds_itself places row rows = rw (own_key places row) refl

-- behind a first row with the same key, the others find the same
rest_here : (places : List ℕ) (key row : Row) (a b : List Row) (at : Bool) → is_at places key row ≡ at → Ascends places (row ∷ a) → Ascends places (row ∷ b) → cond at (Some row) (find (is_at places key) a) ≡ cond at (Some row) (find (is_at places key) b) → find (is_at places key) a ≡ find (is_at places key) b
rest_here places key row a b false at first second same = same
rest_here places key row a b true at first second same =
    let is : key_of places row ≡ key = sym (key_is places key row at) in
    subst (λ k. find (is_at places k) a ≡ find (is_at places k) b) is (found_none (is_at places (key_of places row)) a (none_at places row a first.0) ∙ sym (found_none (is_at places (key_of places row)) b (none_at places row b second.0)))

same_by : (places : List ℕ) (x y : Row) (a b : List Row) (o : Ordering) → compare_keys (key_of places x) (key_of places y) ≡ o → Ascends places (x ∷ a) → Ascends places (y ∷ b) → ((key : Row) → find (is_at places key) (x ∷ a) ≡ find (is_at places key) (y ∷ b))
    → (((key : Row) → find (is_at places key) a ≡ find (is_at places key) b) → a ≡ b) → x ∷ a ≡ y ∷ b
same_by places x y a b Less is first second same rest =
    let none : None ≡ Some x = sym (ahead places x y b is second) ∙ sym (same (key_of places x)) ∙ finds_itself places x a in absurd cc
same_by places x y a b Greater is first second same rest =
    let less : compare_keys (key_of places y) (key_of places x) ≡ Less = turned (key_of places y) (key_of places x) ∙ ap ordering_reverse is in
    let none : None ≡ Some y = sym (ahead places y x a less first) ∙ same (key_of places y) ∙ finds_itself places y b in absurd cc
same_by places x y a b Equal is first second same rest =
    let keys : key_of places x ≡ key_of places y = tied_keys (key_of places x) (key_of places y) is in
    let both : Some x ≡ Some y = sym (finds_itself places x a) ∙ same (key_of places x) ∙ subst (λ k. find (is_at places k) (y ∷ b) ≡ Some y) (sym keys) (finds_itself places y b) in
    let one : y ≡ x = cc in
    let second' : Ascends places (x ∷ b) = subst (λ r. Ascends places (r ∷ b)) one second in
    let same' : (key : Row) → find (is_at places key) (x ∷ a) ≡ find (is_at places key) (x ∷ b) = λ key. subst (λ r. find (is_at places key) (x ∷ a) ≡ find (is_at places key) (r ∷ b)) one (same key) in
    ap (λ (rs : List Row). x ∷ rs) (rest (λ key. rest_here places key x a b (is_at places key x) refl first second' (same' key))) ∙ ap (λ (r : Row). r ∷ b) (sym one)

pub same_rows : (places : List ℕ) (a b : List Row) → Ascends places a → Ascends places b → ((key : Row) → find (is_at places key) a ≡ find (is_at places key) b) → a ≡ b
same_rows places [] [] first second same = refl
same_rows places [] (y ∷ b) first second same = let none : None ≡ Some y = same (key_of places y) ∙ finds_itself places y b in absurd cc
same_rows places (x ∷ a) [] first second same = let none : None ≡ Some x = sym (same (key_of places x)) ∙ finds_itself places x a in absurd cc
same_rows places (x ∷ a) (y ∷ b) first second same = same_by places x y a b (compare_keys (key_of places x) (key_of places y)) refl first second same (same_rows places a b first.1 second.1)

-- ---- the images of rows, with their rows' keys

-- Each row has an image with the row's key.
abbrev pub Imaged : List MapColumn → List ℕ → List ℕ → List Row → List Row → Type 0
Imaged map places new [] [] = Unit {0}
Imaged map places new (row ∷ rows) (made ∷ more) = (converted_row map row ≡ Ok made) × (key_of new made ≡ key_of places row) × Imaged map places new rows more
Imaged map places new rows more = ⊥

pub imaged-converted_rows : (map : List MapColumn) (places new : List ℕ) (rows made : List Row) → Imaged map places new rows made → converted_rows map rows ≡ Some made
unfolding converted_rows
imaged-converted_rows map places new [] [] all = refl
imaged-converted_rows map places new [] (x ∷ made) all = absurd all
imaged-converted_rows map places new (row ∷ rows) [] all = absurd all
imaged-converted_rows map places new (row ∷ rows) (x ∷ made) all = rw (all.0, imaged-converted_rows map places new rows made all.2) refl

imaged_less : (map : List MapColumn) (places new : List ℕ) (row first : Row) (rows made : List Row) → key_of new first ≡ key_of places row → AllByRecursion (λ other. compare_keys (key_of places row) (key_of places other) ≡ Less) rows → Imaged map places new rows made
    → AllByRecursion (λ other. compare_keys (key_of new first) (key_of new other) ≡ Less) made
imaged_less map places new row first [] [] same less all = tt
imaged_less map places new row first [] (x ∷ made) same less all = absurd all
imaged_less map places new row first (other ∷ rows) [] same less all = absurd all
imaged_less map places new row first (other ∷ rows) (x ∷ made) same less all = (rw (same, all.1) less.0, imaged_less map places new row first rows made same less.1 all.2)

pub imaged_ascends : (map : List MapColumn) (places new : List ℕ) (rows made : List Row) → Ascends places rows → Imaged map places new rows made → Ascends new made
imaged_ascends map places new [] [] ascends all = tt
imaged_ascends map places new [] (x ∷ made) ascends all = absurd all
imaged_ascends map places new (row ∷ rows) [] ascends all = absurd all
imaged_ascends map places new (row ∷ rows) (x ∷ made) ascends all = (imaged_less map places new row x rows made all.1 ascends.0 all.2, imaged_ascends map places new rows made ascends.1 all.2)

-- what is found among the images is the image of what is found among the rows
found_converted_row_here : (map : List MapColumn) (row made : Row) (rest : Option Row) (others : Option Row) (at : Bool) → converted_row map row ≡ Ok made → others ≡ option_and_then (λ r. result_ok (converted_row map r)) rest → cond at (Some made) others ≡ option_and_then (λ r. result_ok (converted_row map r)) (cond at (Some row) rest)
found_converted_row_here map row made rest others true is same = rw is refl
found_converted_row_here map row made rest others false is same = same

pub found_converted_row : (map : List MapColumn) (places new : List ℕ) (key : Row) (rows made : List Row) → Imaged map places new rows made → find (is_at new key) made ≡ option_and_then (λ r. result_ok (converted_row map r)) (find (is_at places key) rows)
found_converted_row map places new key [] [] all = refl
found_converted_row map places new key [] (x ∷ made) all = absurd all
found_converted_row map places new key (row ∷ rows) [] all = absurd all
found_converted_row map places new key (row ∷ rows) (x ∷ made) all =
    rw all.1 (found_converted_row_here map row x (find (is_at places key) rows) (find (is_at new key) made) (is_at places key row) all.0 (found_converted_row map places new key rows made all.2))

-- *The ghost is the altered table*, where by each key is found in it the image of what is found in the table.
pub is_altered : (map : List MapColumn) (places new : List ℕ) (rows made ghost : List Row) → Ascends places rows → Ascends new ghost → Imaged map places new rows made
    → ((key : Row) → find (is_at new key) ghost ≡ option_and_then (λ r. result_ok (converted_row map r)) (find (is_at places key) rows)) → ghost ≡ made
is_altered map places new rows made ghost ascends ordered all found =
    same_rows new ghost made ordered (imaged_ascends map places new rows made ascends all) (λ key. found key ∙ sym (found_converted_row map places new key rows made all))
