-- Where the row of a key stands, and where a new one goes.
use Rattle.std.proofs.Common.{◌≡◌, ℕ, ◌+◌, Bool, true, false, not, List, [], ◌∷◌, insert, remove, find, filter, cond, Option, Some, None, Ordering, Less, Equal, Greater, refl, sym, ap, ◌∙◌, ◌||◌, unwrap_or, one-add}
use Rattle.std.proofs.lemmas.Option.{slice_get_within}
use Rattle.std.specs.Option.{option_and_then}
use Rattle.std.specs.Ordering.{is_eq, is_gt, match_ordering}
use Rattle.std.specs.List.{list_any, AllByRecursion, prefix_len, slice_get}
use Rattle.base_values.specs.KeyOrder.{compare_keys}
use Rattle.base_values.specs.GhoSchema.Rows.{key_of, has_key, put, with_row}
use Rattle.base_values.specs.GhoSchema.Tables.{Ascends}
use Rattle.table_store.specs.RowLists.{is_at, comes_before, without_key, StandsAt}
use Rattle.table_store.proofs.Orders.{Row, not_greater}

gt_not_eq : (o : Ordering) → is_gt o ≡ true → is_eq o ≡ false
gt_not_eq Less is = absurd cc
gt_not_eq Equal is = absurd cc
gt_not_eq Greater is = refl

-- the rows behind one that isn't before the key don't have it
pub others_not_at : (places : List ℕ) (key row : Row) (rows : List Row) → comes_before places key row ≡ false → AllByRecursion (λ other. compare_keys (key_of places row) (key_of places other) ≡ Less) rows → AllByRecursion (λ other. is_at places key other ≡ false) rows
others_not_at places key row [] fails less = tt
others_not_at places key row (other ∷ rows) fails less =
    let further : compare_keys key (key_of places other) ≡ Less = not_greater key (key_of places row) (key_of places other) (compare_keys key (key_of places row)) refl fails less.0 in
    (rw further refl, others_not_at places key row rows fails less.1)

-- a test that no row passes finds none, and leaves all in
pub none_found : (test at : Row → Bool) (rows : List Row) → ((row : Row) → at row ≡ false → test row ≡ false) → AllByRecursion (λ row. at row ≡ false) rows → find test rows ≡ None
none_found test at [] only fail = refl
none_found test at (row ∷ rows) only fail = rw (only row fail.0) (none_found test at rows only fail.1)

pub all_left : (test : Row → Bool) (rows : List Row) → AllByRecursion (λ row. test row ≡ false) rows → filter (λ row. not (test row)) rows ≡ rows
all_left test [] fail = refl
all_left test (row ∷ rows) fail = rw fail.0 (ap (λ (rs : List Row). row ∷ rs) (all_left test rows fail.1))

-- the row, if it passes the test
abbrev pub if_passes : (Row → Bool) → Row → Option Row
if_passes test row = cond (test row) (Some row) None

abbrev pub place : List ℕ → Row → List Row → ℕ
place places key rows = prefix_len (comes_before places key) rows

found_from : (test : Row → Bool) (places : List ℕ) (key row : Row) (rows : List Row) (b : Bool) → comes_before places key row ≡ b → Ascends places (row ∷ rows) → ((other : Row) → is_at places key other ≡ false → test other ≡ false)
    → find test rows ≡ option_and_then (if_passes test) (slice_get rows (place places key rows))
    → find test (row ∷ rows) ≡ option_and_then (if_passes test) (slice_get (row ∷ rows) (cond b (1 + place places key rows) 0))
found_from test places key row rows true is ascends only others =
    rw (only row (gt_not_eq (compare_keys key (key_of places row)) is), one-add (place places key rows)) others
found_from test places key row rows false is ascends only others =
    rw (none_found test (is_at places key) rows only (others_not_at places key row rows is ascends.0)) refl

-- a test that only rows of the key pass finds the one at the key's place
pub found : (test : Row → Bool) (places : List ℕ) (key : Row) (rows : List Row) → Ascends places rows → ((other : Row) → is_at places key other ≡ false → test other ≡ false)
    → find test rows ≡ option_and_then (if_passes test) (slice_get rows (place places key rows))
found test places key [] ascends only = refl
found test places key (row ∷ rows) ascends only =
    let others = found test places key rows ascends.1 only in
    found_from test places key row rows (comes_before places key row) refl ascends only others

-- what is found at the key's place
pub found_some : (test : Row → Bool) (places : List ℕ) (key : Row) (rows : List Row) (n : ℕ) (row : Row) → Ascends places rows → ((other : Row) → is_at places key other ≡ false → test other ≡ false)
    → n ≡ place places key rows → slice_get rows n ≡ Some row → test row ≡ true → find test rows ≡ Some row
found_some test places key rows n row ascends only is there passes =
    let at : slice_get rows (place places key rows) ≡ Some row = ap (λ (k : ℕ). slice_get rows k) (sym is) ∙ there in
    found test places key rows ascends only ∙ rw (at, passes) refl

pub found_other : (test : Row → Bool) (places : List ℕ) (key : Row) (rows : List Row) (n : ℕ) (row : Row) → Ascends places rows → ((other : Row) → is_at places key other ≡ false → test other ≡ false)
    → n ≡ place places key rows → slice_get rows n ≡ Some row → test row ≡ false → find test rows ≡ None
found_other test places key rows n row ascends only is there fails =
    let at : slice_get rows (place places key rows) ≡ Some row = ap (λ (k : ℕ). slice_get rows k) (sym is) ∙ there in
    found test places key rows ascends only ∙ rw (at, fails) refl

pub found_none : (test : Row → Bool) (places : List ℕ) (key : Row) (rows : List Row) (n : ℕ) → Ascends places rows → ((other : Row) → is_at places key other ≡ false → test other ≡ false)
    → n ≡ place places key rows → slice_get rows n ≡ None → find test rows ≡ None
found_none test places key rows n ascends only is none =
    let at : slice_get rows (place places key rows) ≡ None = ap (λ (k : ℕ). slice_get rows k) (sym is) ∙ none in
    found test places key rows ascends only ∙ rw at refl

-- where no row has the key, taking it out leaves all
none_left : (places : List ℕ) (key row : Row) (rows : List Row) (b : Bool) → is_at places key row ≡ b → cond b (Some row) (find (is_at places key) rows) ≡ None → (find (is_at places key) rows ≡ None → without_key places key rows ≡ rows)
    → cond (not b) (row ∷ without_key places key rows) (without_key places key rows) ≡ row ∷ rows
none_left places key row rows true is none others = absurd cc
none_left places key row rows false is none others = ap (λ (rs : List Row). row ∷ rs) (others none)

pub none_to_remove : (places : List ℕ) (key : Row) (rows : List Row) → find (is_at places key) rows ≡ None → without_key places key rows ≡ rows
none_to_remove places key [] none = refl
none_to_remove places key (row ∷ rows) none = none_left places key row rows (is_at places key row) refl none (none_to_remove places key rows)

-- taking the row of the key out takes out what stands at its place
one_here : (places : List ℕ) (key first row : Row) (rows : List Row) (b : Bool) → is_at places key first ≡ b → AllByRecursion (λ other. is_at places key other ≡ false) rows → cond b (Some first) (find (is_at places key) rows) ≡ Some row
    → cond (not b) (first ∷ without_key places key rows) (without_key places key rows) ≡ rows
one_here places key first row rows true is none there = all_left (is_at places key) rows none
one_here places key first row rows false is none there = let nothing = none_found (is_at places key) (is_at places key) rows (λ other fails. fails) none in absurd (cc)

one_left : (places : List ℕ) (key first row : Row) (rows : List Row) (b : Bool) → comes_before places key first ≡ b → Ascends places (first ∷ rows) → find (is_at places key) (first ∷ rows) ≡ Some row
    → (find (is_at places key) rows ≡ Some row → without_key places key rows ≡ remove rows (place places key rows))
    → without_key places key (first ∷ rows) ≡ remove (first ∷ rows) (cond b (1 + place places key rows) 0)
one_left places key first row rows true is ascends there others =
    let not_at : is_at places key first ≡ false = gt_not_eq (compare_keys key (key_of places first)) is in
    let later : find (is_at places key) rows ≡ Some row = sym (rw not_at refl) ∙ there in
    rw (not_at, one-add (place places key rows)) (ap (λ (rs : List Row). first ∷ rs) (others later))
one_left places key first row rows false is ascends there others = one_here places key first row rows (is_at places key first) refl (others_not_at places key first rows is ascends.0) there

pub one_to_remove : (places : List ℕ) (key : Row) (rows : List Row) (row : Row) → Ascends places rows → find (is_at places key) rows ≡ Some row → without_key places key rows ≡ remove rows (place places key rows)
one_to_remove places key [] row ascends is = absurd cc
one_to_remove places key (first ∷ rows) row ascends is = one_left places key first row rows (comes_before places key first) refl ascends is (one_to_remove places key rows row ascends.1)

-- a new row goes to the place of its key
goes : (o : Ordering) (row first : Row) (rows placed : List Row) (n : ℕ) → placed ≡ insert rows n row → match_ordering o (row ∷ first ∷ rows) (row ∷ first ∷ rows) (first ∷ placed) ≡ insert (first ∷ rows) (cond (is_gt o) (1 + n) 0) row
goes Less row first rows placed n others = refl
goes Equal row first rows placed n others = refl
goes Greater row first rows placed n others = rw (one-add n) (ap (λ (rs : List Row). first ∷ rs) others)

pub with_row_is : (places : List ℕ) (row : Row) (rows : List Row) → with_row places row rows ≡ insert rows (place places (key_of places row) rows) row
unfolding with_row
with_row_is places row [] = refl
with_row_is places row (first ∷ rows) = goes (compare_keys (key_of places row) (key_of places first)) row first rows (with_row places row rows) (place places (key_of places row) rows) (with_row_is places row rows)

-- the same, by what the code has of the places, the row and the rows
pub put_is : (places' places : List ℕ) (row' row : Row) (rows' rows : List Row) (n : ℕ) → places' ≡ places → row' ≡ row → rows' ≡ rows → n ≡ place places' (key_of places' row') rows' → insert rows n row ≡ with_row places row rows
put_is places' places row' row rows' rows n p r s is =
    let there : n ≡ place places (key_of places row) rows = is ∙ ap (λ (ps : List ℕ). place ps (key_of ps row') rows') p ∙ ap (λ (r : Row). place places (key_of places r) rows') r ∙ ap (λ (rs : List Row). place places (key_of places row) rs) s in
    rw there (sym (with_row_is places row rows))

-- the row that is found at the key's place
pub stands_at : (places : List ℕ) (key : Row) (rows : List Row) (n : ℕ) (row : Row) → Ascends places rows → n ≡ place places key rows → slice_get rows n ≡ Some row → is_at places key row ≡ true → StandsAt places key rows n
stands_at places key rows n row ascends is there passes =
    let here : find (is_at places key) rows ≡ Some row = found_some (is_at places key) places key rows n row ascends (λ other fails. fails) is there passes in
    record {
      within = slice_get_within rows n row there;
      row = here ∙ sym there;
      without = one_to_remove places key rows row ascends here ∙ ap (λ (k : ℕ). remove rows k) (sym is);
    }

-- a row that has no row's key is put among the rows
none_has : (b others : Bool) (row : Row) (rest : Option Row) → cond b (Some row) rest ≡ None → (rest ≡ None → others ≡ false) → (b || others) ≡ false
none_has true others row rest none following = absurd cc
none_has false others row rest none following = following none

has_none : (places : List ℕ) (key : Row) (rows : List Row) → find (is_at places key) rows ≡ None → has_key places rows key ≡ false
unfolding has_key
has_none places key [] none = refl
has_none places key (row ∷ rows) none = none_has (is_at places key row) (list_any (is_at places key) rows) row (find (is_at places key) rows) none (has_none places key rows)

pub put_new : (places : List ℕ) (row : Row) (rows : List Row) → find (is_at places (key_of places row)) rows ≡ None → unwrap_or (put places row rows) rows ≡ with_row places row rows
put_new places row rows none = rw (has_none places (key_of places row) rows none) refl

-- rows behind this one have other keys
pub none_at : (places : List ℕ) (row : Row) (rows : List Row) → AllByRecursion (λ other. compare_keys (key_of places row) (key_of places other) ≡ Less) rows → AllByRecursion (λ other. is_at places (key_of places row) other ≡ false) rows
none_at places row [] less = tt
none_at places row (first ∷ rows) less = (ap is_eq less.0, none_at places row rows less.1)
