-- Which rows stand among rows, after changes; and lists of rows that agree where a test passes.
use Rattle.std.proofs.Common.{◌≡◌, ℕ, Bool, true, false, not, ◌&&◌, ◌||◌, List, [], ◌∷◌, filter, cond, Ordering, Less, Equal, Greater, refl, sym, ap, ◌∙◌, subst}
use Rattle.std.proofs.Math.Bool.{and-false, or-true}
use Rattle.std.proofs.lemmas.Bool.{false≢true, true≢false}
use Rattle.std.specs.Cmp.{both_ways}
use Rattle.std.specs.Ordering.{is_eq, match_ordering}
use Rattle.std.specs.List.{AllByRecursion, list_any}
use Rattle.std.proofs.lemmas.Cmp.{tied_itself}
use Rattle.base_values.specs.KeyOrder.{compare_keys}
use Rattle.base_values.proofs.Orders.{keys_total, tied_keys}
use Rattle.base_values.specs.GhoSchema.Rows.{key_of, with_row}
use Rattle.base_values.specs.GhoSchema.Tables.{Ascends}
use Rattle.base_values.specs.declared.event.Change.{Change}
use Rattle.base_values.specs.declared.event.Change.TheVariants.{Write, Update, Delete}
use Rattle.table_store.proofs.Orders.{Row, turned, is_Equal}
use Rattle.table_store.proofs.Ascending.{ascends-filter, before_all}
use Rattle.server_model.specs.Rows.{same_row, stands, without_row, change_rows}
use Rattle.server_model.specs.LockedRows.Agreement.{SameWhere}
use Rattle.server_model.proofs.LockedRows.Tests.{or_swapped}

-- rows that compare equal are one row
pub one_row : (row other : Row) → same_row row other ≡ true → row ≡ other
one_row row other same = tied_keys row other (is_Equal (compare_keys row other) same)

pub same_itself : (row : Row) → same_row row row ≡ true
same_itself row = ap is_eq (tied_itself keys_total row)

-- a row that is put stands, and all that stood
put_here : (o : Ordering) (row first new : Row) (rows placed : List Row) → stands row placed ≡ (same_row row new || stands row rows)
    → stands row (match_ordering o (new ∷ first ∷ rows) (new ∷ first ∷ rows) (first ∷ placed)) ≡ (same_row row new || (same_row row first || stands row rows))
unfolding stands
put_here Less row first new rows placed others = refl
put_here Equal row first new rows placed others = refl
put_here Greater row first new rows placed others = ap (λ (b : Bool). same_row row first || b) others ∙ or_swapped (same_row row first) (same_row row new) (stands row rows)

pub stands-put : (places : List ℕ) (row new : Row) (rows : List Row) → stands row (with_row places new rows) ≡ (same_row row new || stands row rows)
unfolding stands with_row
stands-put places row new [] = refl
stands-put places row new (first ∷ rows) = put_here (compare_keys (key_of places new) (key_of places first)) row first new rows (with_row places new rows) (stands-put places row new rows)

-- a row of another key isn't among rows
not_first : (places : List ℕ) (row first : Row) (b rest : Bool) → same_row row first ≡ b → compare_keys (key_of places row) (key_of places first) ≡ Less → rest ≡ false → (b || rest) ≡ false
not_first places row first true rest is less none =
    let tied : compare_keys (key_of places row) (key_of places first) ≡ Equal = ap (λ (r : Row). compare_keys (key_of places row) (key_of places r)) (sym (one_row row first is)) ∙ tied_itself keys_total (key_of places row) in
    absurd (cc)
not_first places row first false rest is less none = none

not_among : (places : List ℕ) (row : Row) (rows : List Row) → AllByRecursion (λ other. compare_keys (key_of places row) (key_of places other) ≡ Less) rows → stands row rows ≡ false
unfolding stands
not_among places row [] less = refl
not_among places row (first ∷ rows) less = not_first places row first (same_row row first) (stands row rows) refl less.0 (not_among places row rows less.1)

-- rows in order are one list where the same rows stand
heads : (places : List ℕ) (x y : Row) (xs ys : List Row) (o : Ordering) → compare_keys (key_of places x) (key_of places y) ≡ o → Ascends places (x ∷ xs) → Ascends places (y ∷ ys) → ((row : Row) → stands row (x ∷ xs) ≡ stands row (y ∷ ys)) → x ≡ y
unfolding stands
heads places x y xs ys Less is one two same =
    let not : stands x (y ∷ ys) ≡ false = not_among places x (y ∷ ys) (is, before_all places x y ys is two.0) in
    let yes : stands x (x ∷ xs) ≡ true = rw (same_itself x) refl in
    absurd (true≢false (sym yes ∙ same x ∙ not))
heads places x y xs ys Greater is one two same =
    let turn : compare_keys (key_of places y) (key_of places x) ≡ Less = turned (key_of places y) (key_of places x) ∙ rw is refl in
    let not : stands y (x ∷ xs) ≡ false = not_among places y (x ∷ xs) (turn, before_all places y x xs turn one.0) in
    let yes : stands y (y ∷ ys) ≡ true = rw (same_itself y) refl in
    absurd (true≢false (sym yes ∙ sym (same y) ∙ not))
heads places x y xs ys Equal is one two same =
    let yes : stands x (y ∷ ys) ≡ true = sym (same x) ∙ rw (same_itself x) refl in
    first (same_row x y) refl yes where
      first : (b : Bool) → same_row x y ≡ b → (b || stands x ys) ≡ true → x ≡ y
      first true here there = one_row x y here
      first false here there =
          let keys : key_of places x ≡ key_of places y = tied_keys (key_of places x) (key_of places y) is in
          let less : AllByRecursion (λ other. compare_keys (key_of places x) (key_of places other) ≡ Less) ys = subst (λ (k : Row). AllByRecursion (λ other. compare_keys k (key_of places other) ≡ Less) ys) (sym keys) two.0 in
          absurd (false≢true (sym (not_among places x ys less) ∙ there))

tail_same : (row x : Row) (xs ys : List Row) (b : Bool) → same_row row x ≡ b → stands x xs ≡ false → stands x ys ≡ false → (b || stands row xs) ≡ (b || stands row ys) → stands row xs ≡ stands row ys
tail_same row x xs ys true is one two same = let r : row ≡ x = one_row row x is in ap (λ (z : Row). stands z xs) r ∙ one ∙ sym two ∙ ap (λ (z : Row). stands z ys) (sym r)
tail_same row x xs ys false is one two same = same

pub one_list : (places : List ℕ) (a b : List Row) → Ascends places a → Ascends places b → ((row : Row) → stands row a ≡ stands row b) → a ≡ b
unfolding stands
one_list places [] [] one two same = refl
one_list places [] (y ∷ ys) one two same = absurd (false≢true (same y ∙ rw (same_itself y) refl))
one_list places (x ∷ xs) [] one two same = absurd (true≢false (sym (rw (same_itself x) refl) ∙ same x))
one_list places (x ∷ xs) (y ∷ ys) one two same =
    let head : x ≡ y = heads places x y xs ys (compare_keys (key_of places x) (key_of places y)) refl one two same in
    let two' : Ascends places (x ∷ ys) = subst (λ (z : Row). Ascends places (z ∷ ys)) (sym head) two in
    let same' : (row : Row) → stands row (x ∷ xs) ≡ stands row (x ∷ ys) = subst (λ (z : Row). (row : Row) → stands row (x ∷ xs) ≡ stands row (z ∷ ys)) (sym head) same in
    let rest : xs ≡ ys = one_list places xs ys one.1 two.1 (λ row. tail_same row x xs ys (same_row row x) refl (not_among places x xs one.0) (not_among places x ys two'.0) (same' row)) in
    ap (λ (z : Row). z ∷ xs) head ∙ ap (λ (zs : List Row). y ∷ zs) rest

-- what stands among the rows that pass
filter_here : (test : Row → Bool) (row first : Row) (rows : List Row) (b c d : Bool) → test first ≡ b → same_row row first ≡ c → test row ≡ d → stands row (filter test rows) ≡ (stands row rows && d)
    → stands row (cond b (first ∷ filter test rows) (filter test rows)) ≡ ((c || stands row rows) && d)
unfolding stands
filter_here test row first rows true true true is same here others = rw same refl
filter_here test row first rows true true false is same here others = absurd (false≢true (sym here ∙ ap test (one_row row first same) ∙ is))
filter_here test row first rows true false d is same here others = rw same others
filter_here test row first rows false true true is same here others = absurd (false≢true (sym is ∙ ap test (sym (one_row row first same)) ∙ here))
filter_here test row first rows false true false is same here others = others ∙ and-false (stands row rows)
filter_here test row first rows false false d is same here others = others

pub stands-filter : (test : Row → Bool) (row : Row) (rows : List Row) → stands row (filter test rows) ≡ (stands row rows && test row)
unfolding stands
stands-filter test row [] = refl
stands-filter test row (first ∷ rows) = filter_here test row first rows (test first) (same_row row first) (test row) refl refl refl (stands-filter test row rows)

-- lists that agree where a test passes have one list of rows that pass
pub same-filter : (test : Row → Bool) (places : List ℕ) (a b : List Row) → Ascends places a → Ascends places b → SameWhere test a b → filter test a ≡ filter test b
same-filter test places a b one two same = one_list places (filter test a) (filter test b) (ascends-filter places test a one) (ascends-filter places test b two) each where
  at : (row : Row) (t : Bool) → test row ≡ t → (stands row a && t) ≡ (stands row b && t)
  at row true is = ap (λ (s : Bool). s && true) (same row is)
  at row false is = nothing (stands row a) (stands row b) where
    nothing : (x y : Bool) → (x && false) ≡ (y && false)
    nothing true true = refl
    nothing true false = refl
    nothing false true = refl
    nothing false false = refl

  each : (row : Row) → stands row (filter test a) ≡ stands row (filter test b)
  each row = stands-filter test row a ∙ at row (test row) refl ∙ sym (stands-filter test row b)

-- a test within another
pub same-within : (small big : Row → Bool) (a b : List Row) → ((row : Row) → small row ≡ true → big row ≡ true) → SameWhere big a b → SameWhere small a b
same-within small big a b within same row passes = same row (within row passes)

-- a row of these that passes
pub record Passing (test : Row → Bool) (rows : List Row) : Type 0 where
  pub row : Row
  pub stands : stands row rows ≡ true
  pub passes : test row ≡ true

some_here : (test : Row → Bool) (row : Row) (rows : List Row) (t : Bool) → test row ≡ t → (list_any test rows ≡ true → Passing test rows) → (t || list_any test rows) ≡ true → Passing test (row ∷ rows)
unfolding stands
some_here test row rows true is rest some = record { row = row; stands = rw (same_itself row) refl; passes = is }
some_here test row rows false is rest some = let more = rest some in record { row = more.row; stands = rw more.stands (or-true (same_row more.row row)); passes = more.passes }

pub some_row : (test : Row → Bool) (rows : List Row) → list_any test rows ≡ true → Passing test rows
some_row test [] some = absurd (false≢true some)
some_row test (row ∷ rows) some = some_here test row rows (test row) refl (some_row test rows) some

found_at : (test : Row → Bool) (row first : Row) (rows : List Row) (b : Bool) → same_row row first ≡ b → (b || stands row rows) ≡ true → test row ≡ true → (stands row rows ≡ true → list_any test rows ≡ true) → (test first || list_any test rows) ≡ true
found_at test row first rows true same some is rest = let yes : test first ≡ true = ap test (sym (one_row row first same)) ∙ is in rw yes refl
found_at test row first rows false same some is rest = rw (rest some) (or-true (test first))

pub found_by : (test : Row → Bool) (rows : List Row) (row : Row) → stands row rows ≡ true → test row ≡ true → list_any test rows ≡ true
unfolding stands
found_by test [] row stood is = absurd (false≢true stood)
found_by test (first ∷ rows) row stood is = found_at test row first rows (same_row row first) refl stood is (λ s. found_by test rows row s is)

-- lists that agree where a test passes answer alike whether some row passes it
any_from : (test : Row → Bool) (a b : List Row) → ((row : Row) → test row ≡ true → stands row a ≡ true → stands row b ≡ true) → list_any test a ≡ true → list_any test b ≡ true
any_from test a b same some = let one = some_row test a some in found_by test b one.row (same one.row one.passes one.stands) one.passes

pub same-any : (test : Row → Bool) (a b : List Row) → SameWhere test a b → list_any test a ≡ list_any test b
same-any test a b same = both_ways (list_any test a) (list_any test b) (any_from test a b (λ row is stood. sym (same row is) ∙ stood)) (any_from test b a (λ row is stood. same row is ∙ stood))

-- the same change of both keeps what is the same
pub same-without : (test : Row → Bool) (gone : Row) (a b : List Row) → SameWhere test a b → SameWhere test (without_row gone a) (without_row gone b)
same-without test gone a b same row passes =
    stands-filter (λ other. not (same_row gone other)) row a ∙ ap (λ (s : Bool). s && not (same_row gone row)) (same row passes) ∙ sym (stands-filter (λ other. not (same_row gone other)) row b)

pub same-put : (test : Row → Bool) (places : List ℕ) (new : Row) (a b : List Row) → SameWhere test a b → SameWhere test (with_row places new a) (with_row places new b)
same-put test places new a b same row passes =
    stands-put places row new a ∙ ap (λ (s : Bool). same_row row new || s) (same row passes) ∙ sym (stands-put places row new b)

pub same-changed : (test : Row → Bool) (places : List ℕ) (change : Change) (a b : List Row) → SameWhere test a b → SameWhere test (change_rows places change a) (change_rows places change b)
unfolding change_rows
same-changed test places (Write row) a b same = same-put test places row a b same
same-changed test places (Update before after) a b same = same-put test places after (without_row before a) (without_row before b) (same-without test before a b same)
same-changed test places (Delete row) a b same = same-without test row a b same

-- a row behind another one is another
pub other_row : (places : List ℕ) (row other : Row) (b : Bool) → same_row row other ≡ b → compare_keys (key_of places row) (key_of places other) ≡ Less → b ≡ false
other_row places row other true same less =
    let tied : compare_keys (key_of places row) (key_of places other) ≡ Equal = ap (λ (r : Row). compare_keys (key_of places row) (key_of places r)) (sym (one_row row other same)) ∙ tied_itself keys_total (key_of places row) in absurd (cc)
other_row places row other false same less = refl
