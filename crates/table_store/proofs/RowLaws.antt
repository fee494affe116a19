-- Puts, removals and tests among rows.
use Rattle.std.proofs.Common.{◌≡◌, ℕ, Bool, true, false, not, List, [], ◌∷◌, find, filter, cond, Option, Some, None, Ordering, Less, Equal, Greater, refl, sym, ap, ◌∙◌, subst}
use Rattle.std.specs.Ordering.{is_eq, is_gt, match_ordering, ordering_reverse}
use Rattle.std.specs.List.{AllByRecursion}
use Rattle.std.proofs.lemmas.Cmp.{tied_itself}
use Rattle.base_values.specs.KeyOrder.{compare_keys}
use Rattle.base_values.proofs.Orders.{keys_total, tied_keys}
use Rattle.base_values.specs.GhoSchema.Rows.{key_of, with_row}
use Rattle.base_values.specs.GhoSchema.Tables.{Ascends}
use Rattle.table_store.specs.RowLists.{is_at, without_key}
use Rattle.table_store.proofs.Orders.{Row, not_greater, is_Equal}
use Rattle.table_store.proofs.Ascending.{all-filter}
use Rattle.table_store.proofs.FoundRows.{none_to_remove, all_left, others_not_at}

-- the row of a key has that key
pub key_is : (places : List ℕ) (key row : Row) → is_at places key row ≡ true → key ≡ key_of places row
key_is places key row at = tied_keys key (key_of places row) (is_Equal (compare_keys key (key_of places row)) at)

-- two rows of one key compare equal
same_key : (places : List ℕ) (key a b : Row) → is_at places key a ≡ true → is_at places key b ≡ true → compare_keys (key_of places a) (key_of places b) ≡ Equal
same_key places key a b at too = ap (λ (k : Row). compare_keys k (key_of places b)) (sym (key_is places key a at)) ∙ is_Equal (compare_keys key (key_of places b)) too

-- the row is found by its key
put_here : (places : List ℕ) (key row first : Row) (rows placed : List Row) (o : Ordering) (b : Bool) → compare_keys (key_of places row) (key_of places first) ≡ o → is_at places key first ≡ b → is_at places key row ≡ true
    → find (is_at places key) placed ≡ Some row → find (is_at places key) (match_ordering o (row ∷ first ∷ rows) (row ∷ first ∷ rows) (first ∷ placed)) ≡ Some row
put_here places key row first rows placed Less b is first_at at others = rw at refl
put_here places key row first rows placed Equal b is first_at at others = rw at refl
put_here places key row first rows placed Greater true is first_at at others = let equal : compare_keys (key_of places row) (key_of places first) ≡ Equal = same_key places key row first at first_at in absurd (cc)
put_here places key row first rows placed Greater false is first_at at others = rw first_at others

pub put_found : (places : List ℕ) (key row : Row) (rows : List Row) → is_at places key row ≡ true → find (is_at places key) (with_row places row rows) ≡ Some row
unfolding with_row
put_found places key row [] at = rw at refl
put_found places key row (first ∷ rows) at =
    put_here places key row first rows (with_row places row rows) (compare_keys (key_of places row) (key_of places first)) (is_at places key first) refl refl at (put_found places key row rows at)

-- by another key is found what was
other_here : (places : List ℕ) (key row first : Row) (rows placed : List Row) (o : Ordering) → is_at places key row ≡ false → find (is_at places key) placed ≡ find (is_at places key) rows
    → find (is_at places key) (match_ordering o (row ∷ first ∷ rows) (row ∷ first ∷ rows) (first ∷ placed)) ≡ find (is_at places key) (first ∷ rows)
other_here places key row first rows placed Less not_at others = rw not_at refl
other_here places key row first rows placed Equal not_at others = rw not_at refl
other_here places key row first rows placed Greater not_at others = ap (λ (o : Option Row). cond (is_at places key first) (Some first) o) others

pub put_other : (places : List ℕ) (key row : Row) (rows : List Row) → is_at places key row ≡ false → find (is_at places key) (with_row places row rows) ≡ find (is_at places key) rows
unfolding with_row
put_other places key row [] not_at = rw not_at refl
put_other places key row (first ∷ rows) not_at = other_here places key row first rows (with_row places row rows) (compare_keys (key_of places row) (key_of places first)) not_at (put_other places key row rows not_at)

-- nothing is found by a key that is taken out
gone_here : (places : List ℕ) (key first : Row) (rest : List Row) (b : Bool) → is_at places key first ≡ b → find (is_at places key) rest ≡ None → find (is_at places key) (cond (not b) (first ∷ rest) rest) ≡ None
gone_here places key first rest true at others = others
gone_here places key first rest false at others = rw at others

pub gone : (places : List ℕ) (key : Row) (rows : List Row) → find (is_at places key) (without_key places key rows) ≡ None
gone places key [] = refl
gone places key (first ∷ rows) = gone_here places key first (without_key places key rows) (is_at places key first) refl (gone places key rows)

kept_here : (places : List ℕ) (key other first : Row) (rows rest : List Row) (b c : Bool) → is_at places other first ≡ b → is_at places key first ≡ c → is_eq (compare_keys key other) ≡ false → find (is_at places key) rest ≡ find (is_at places key) rows
    → find (is_at places key) (cond (not b) (first ∷ rest) rest) ≡ cond c (Some first) (find (is_at places key) rows)
kept_here places key other first rows rest true true at key_at apart others =
    let same : key ≡ other = key_is places key first key_at ∙ sym (key_is places other first at) in
    let tied : compare_keys key other ≡ Equal = ap (λ (k : Row). compare_keys k other) same ∙ tied_itself keys_total other in
    absurd (cc (ap is_eq tied))
kept_here places key other first rows rest true false at key_at apart others = others
kept_here places key other first rows rest false true at key_at apart others = rw key_at refl
kept_here places key other first rows rest false false at key_at apart others = rw key_at others

pub others_stay : (places : List ℕ) (key other : Row) (rows : List Row) → is_eq (compare_keys key other) ≡ false → find (is_at places key) (without_key places other rows) ≡ find (is_at places key) rows
others_stay places key other [] apart = refl
others_stay places key other (first ∷ rows) apart =
    kept_here places key other first rows (without_key places other rows) (is_at places other first) (is_at places key first) refl refl apart (others_stay places key other rows apart)

-- a test that the row fails
out_here : (test : Row → Bool) (row first : Row) (rows placed : List Row) (o : Ordering) → test row ≡ false → filter test placed ≡ filter test rows → filter test (match_ordering o (row ∷ first ∷ rows) (row ∷ first ∷ rows) (first ∷ placed)) ≡ filter test (first ∷ rows)
out_here test row first rows placed Less fails others = rw fails refl
out_here test row first rows placed Equal fails others = rw fails refl
out_here test row first rows placed Greater fails others = rw others refl

pub filter_out : (test : Row → Bool) (places : List ℕ) (row : Row) (rows : List Row) → test row ≡ false → filter test (with_row places row rows) ≡ filter test rows
unfolding with_row
filter_out test places row [] fails = rw fails refl
filter_out test places row (first ∷ rows) fails = out_here test row first rows (with_row places row rows) (compare_keys (key_of places row) (key_of places first)) fails (filter_out test places row rows fails)

-- a row that comes before all
pub first_here : (o : Ordering) (row first : Row) (rows placed : List Row) → is_gt o ≡ false → match_ordering o (row ∷ first ∷ rows) (row ∷ first ∷ rows) (first ∷ placed) ≡ row ∷ first ∷ rows
first_here Less row first rows placed is = refl
first_here Equal row first rows placed is = refl
first_here Greater row first rows placed is = absurd cc

goes_first : (places : List ℕ) (row : Row) (rows : List Row) → AllByRecursion (λ other. is_gt (compare_keys (key_of places row) (key_of places other)) ≡ false) rows → with_row places row rows ≡ row ∷ rows
unfolding with_row
goes_first places row [] all = refl
goes_first places row (first ∷ rows) all = first_here (compare_keys (key_of places row) (key_of places first)) row first rows (with_row places row rows) all.0

-- what isn't greater than a row comes before all behind that
before_after : (places : List ℕ) (row first : Row) (rows : List Row) → is_gt (compare_keys (key_of places row) (key_of places first)) ≡ false → AllByRecursion (λ other. compare_keys (key_of places first) (key_of places other) ≡ Less) rows
    → AllByRecursion (λ other. is_gt (compare_keys (key_of places row) (key_of places other)) ≡ false) rows
before_after places row first [] before less = tt
before_after places row first (other ∷ rows) before less =
    let further : compare_keys (key_of places row) (key_of places other) ≡ Less = not_greater (key_of places row) (key_of places first) (key_of places other) (compare_keys (key_of places row) (key_of places first)) refl before less.0 in
    (rw further refl, before_after places row first rows before less.1)

-- a test that the row passes: it goes to its place among those that pass
in_front : (test : Row → Bool) (places : List ℕ) (row first : Row) (rows : List Row) (b : Bool) → test first ≡ b → is_gt (compare_keys (key_of places row) (key_of places first)) ≡ false → Ascends places (first ∷ rows)
    → row ∷ cond b (first ∷ filter test rows) (filter test rows) ≡ with_row places row (cond b (first ∷ filter test rows) (filter test rows))
in_front test places row first rows true is before ascends =
    let all = all-filter (λ other. is_gt (compare_keys (key_of places row) (key_of places other)) ≡ false) test rows (before_after places row first rows before ascends.0) in
    sym (goes_first places row (first ∷ filter test rows) (before, all))
in_front test places row first rows false is before ascends =
    sym (goes_first places row (filter test rows) (all-filter (λ other. is_gt (compare_keys (key_of places row) (key_of places other)) ≡ false) test rows (before_after places row first rows before ascends.0)))

following : (test : Row → Bool) (places : List ℕ) (row first : Row) (rest placed : List Row) (b : Bool) → compare_keys (key_of places row) (key_of places first) ≡ Greater → placed ≡ with_row places row rest → cond b (first ∷ placed) placed ≡ with_row places row (cond b (first ∷ rest) rest)
unfolding with_row
following test places row first rest placed true greater is = rw greater (ap (λ (rs : List Row). first ∷ rs) is)
following test places row first rest placed false greater is = is

in_here : (test : Row → Bool) (places : List ℕ) (row first : Row) (rows : List Row) (o : Ordering) → compare_keys (key_of places row) (key_of places first) ≡ o → Ascends places (first ∷ rows) → test row ≡ true
    → filter test (with_row places row rows) ≡ with_row places row (filter test rows)
    → filter test (match_ordering o (row ∷ first ∷ rows) (row ∷ first ∷ rows) (first ∷ with_row places row rows)) ≡ with_row places row (filter test (first ∷ rows))
in_here test places row first rows Less is ascends passes others = rw passes (in_front test places row first rows (test first) refl (rw is refl) ascends)
in_here test places row first rows Equal is ascends passes others = rw passes (in_front test places row first rows (test first) refl (rw is refl) ascends)
in_here test places row first rows Greater is ascends passes others = following test places row first (filter test rows) (filter test (with_row places row rows)) (test first) is others

pub filter_in : (test : Row → Bool) (places : List ℕ) (row : Row) (rows : List Row) → Ascends places rows → test row ≡ true → filter test (with_row places row rows) ≡ with_row places row (filter test rows)
unfolding with_row
filter_in test places row [] ascends passes = rw passes refl
filter_in test places row (first ∷ rows) ascends passes =
    in_here test places row first rows (compare_keys (key_of places row) (key_of places first)) refl ascends passes (filter_in test places row rows ascends.1 passes)

-- two tests in either order
both_orders : (first second : Row → Bool) (row : Row) (one two : List Row) (b c : Bool) → first row ≡ b → second row ≡ c → filter first one ≡ filter second two → filter first (cond c (row ∷ one) one) ≡ filter second (cond b (row ∷ two) two)
both_orders first second row one two true true is too rest = rw (is, too) (ap (λ (rs : List Row). row ∷ rs) rest)
both_orders first second row one two true false is too rest = rw too rest
both_orders first second row one two false true is too rest = rw is rest
both_orders first second row one two false false is too rest = rest

pub filters_commute : (first second : Row → Bool) (rows : List Row) → filter first (filter second rows) ≡ filter second (filter first rows)
filters_commute first second [] = refl
filters_commute first second (row ∷ rows) = both_orders first second row (filter second rows) (filter first rows) (first row) (second row) refl refl (filters_commute first second rows)

-- one step of putting a row
step_here : (o : Ordering) (b : Bool) (row first : Row) (rows placed : List Row) → is_gt o ≡ b → match_ordering o (row ∷ first ∷ rows) (row ∷ first ∷ rows) (first ∷ placed) ≡ cond b (first ∷ placed) (row ∷ first ∷ rows)
step_here Less true row first rows placed is = absurd cc
step_here Less false row first rows placed is = refl
step_here Equal true row first rows placed is = absurd cc
step_here Equal false row first rows placed is = refl
step_here Greater true row first rows placed is = refl
step_here Greater false row first rows placed is = absurd cc

step : (places : List ℕ) (row first : Row) (rows : List Row) (b : Bool) → is_gt (compare_keys (key_of places row) (key_of places first)) ≡ b → with_row places row (first ∷ rows) ≡ cond b (first ∷ with_row places row rows) (row ∷ first ∷ rows)
unfolding with_row
step places row first rows b is = step_here (compare_keys (key_of places row) (key_of places first)) b row first rows (with_row places row rows) is

-- what is greater than a row has it before
is_before : (places : List ℕ) (row first : Row) (o : Ordering) → compare_keys (key_of places row) (key_of places first) ≡ o → is_gt o ≡ true → compare_keys (key_of places first) (key_of places row) ≡ Less
is_before places row first Less is greater = absurd cc
is_before places row first Equal is greater = absurd cc
is_before places row first Greater is greater = keys_total.antisymm (key_of places first) (key_of places row) ∙ ap ordering_reverse is

-- a row that isn't greater than the first is less than one that is
between : (places : List ℕ) (row first other : Row) → is_gt (compare_keys (key_of places row) (key_of places first)) ≡ false → is_gt (compare_keys (key_of places other) (key_of places first)) ≡ true
    → is_gt (compare_keys (key_of places row) (key_of places other)) ≡ false
between places row first other at_most greater =
    let less = is_before places other first (compare_keys (key_of places other) (key_of places first)) refl greater in
    let further : compare_keys (key_of places row) (key_of places other) ≡ Less = not_greater (key_of places row) (key_of places first) (key_of places other) (compare_keys (key_of places row) (key_of places first)) refl at_most less in
    rw further refl

-- rows of different keys in either order
commute_here : (places : List ℕ) (a b first : Row) (rows : List Row) (p q r : Bool) → is_gt (compare_keys (key_of places a) (key_of places first)) ≡ p → is_gt (compare_keys (key_of places b) (key_of places first)) ≡ q
    → is_gt (compare_keys (key_of places a) (key_of places b)) ≡ r → is_gt (compare_keys (key_of places b) (key_of places a)) ≡ not r → with_row places a (with_row places b rows) ≡ with_row places b (with_row places a rows)
    → with_row places a (with_row places b (first ∷ rows)) ≡ with_row places b (with_row places a (first ∷ rows))
commute_here places a b first rows false false false at bt ab ba rest =
    ap (with_row places a) (step places b first rows false bt) ∙ step places a b (first ∷ rows) false ab
    ∙ sym (ap (with_row places b) (step places a first rows false at) ∙ step places b a (first ∷ rows) true ba ∙ ap (λ (rs : List Row). a ∷ rs) (step places b first rows false bt))
commute_here places a b first rows false false true at bt ab ba rest =
    ap (with_row places a) (step places b first rows false bt) ∙ step places a b (first ∷ rows) true ab ∙ ap (λ (rs : List Row). b ∷ rs) (step places a first rows false at)
    ∙ sym (ap (with_row places b) (step places a first rows false at) ∙ step places b a (first ∷ rows) false ba)
commute_here places a b first rows false true false at bt ab ba rest =
    ap (with_row places a) (step places b first rows true bt) ∙ step places a first (with_row places b rows) false at
    ∙ sym (ap (with_row places b) (step places a first rows false at) ∙ step places b a (first ∷ rows) true ba ∙ ap (λ (rs : List Row). a ∷ rs) (step places b first rows true bt))
commute_here places a b first rows false true true at bt ab ba rest = let not_so = between places a first b at bt in absurd (cc)
commute_here places a b first rows true false false at bt ab ba rest = let not_so = between places b first a bt at in absurd (cc)
commute_here places a b first rows true false true at bt ab ba rest =
    ap (with_row places a) (step places b first rows false bt) ∙ step places a b (first ∷ rows) true ab ∙ ap (λ (rs : List Row). b ∷ rs) (step places a first rows true at)
    ∙ sym (ap (with_row places b) (step places a first rows true at) ∙ step places b first (with_row places a rows) false bt)
commute_here places a b first rows true true r at bt ab ba rest =
    ap (with_row places a) (step places b first rows true bt) ∙ step places a first (with_row places b rows) true at ∙ ap (λ (rs : List Row). first ∷ rs) rest
    ∙ sym (ap (with_row places b) (step places a first rows true at) ∙ step places b first (with_row places a rows) true bt)

other_way : (o back : Ordering) → back ≡ ordering_reverse o → is_eq o ≡ false → is_gt back ≡ not (is_gt o)
other_way Less back is apart = rw is refl
other_way Equal back is apart = absurd cc
other_way Greater back is apart = rw is refl

alone : (places : List ℕ) (a b : Row) (r : Bool) → is_gt (compare_keys (key_of places a) (key_of places b)) ≡ r → is_gt (compare_keys (key_of places b) (key_of places a)) ≡ not r → with_row places a (b ∷ []) ≡ with_row places b (a ∷ [])
unfolding with_row
alone places a b true ab ba = step places a b [] true ab ∙ sym (step places b a [] false ba)
alone places a b false ab ba = step places a b [] false ab ∙ sym (step places b a [] true ba)

pub puts_commute : (places : List ℕ) (a b : Row) (rows : List Row) → is_at places (key_of places a) b ≡ false → with_row places a (with_row places b rows) ≡ with_row places b (with_row places a rows)
unfolding with_row
puts_commute places a b [] apart =
    let back = other_way (compare_keys (key_of places a) (key_of places b)) (compare_keys (key_of places b) (key_of places a)) (keys_total.antisymm (key_of places b) (key_of places a)) apart in
    alone places a b (is_gt (compare_keys (key_of places a) (key_of places b))) refl back
puts_commute places a b (first ∷ rows) apart =
    let back = other_way (compare_keys (key_of places a) (key_of places b)) (compare_keys (key_of places b) (key_of places a)) (keys_total.antisymm (key_of places b) (key_of places a)) apart in
    commute_here places a b first rows (is_gt (compare_keys (key_of places a) (key_of places first))) (is_gt (compare_keys (key_of places b) (key_of places first))) (is_gt (compare_keys (key_of places a) (key_of places b))) refl refl refl back (puts_commute places a b rows apart)

-- taking out what was put in
pub removed_again : (places : List ℕ) (row : Row) (rows : List Row) → find (is_at places (key_of places row)) rows ≡ None → without_key places (key_of places row) (with_row places row rows) ≡ rows
removed_again places row rows none =
    let itself : is_at places (key_of places row) row ≡ true = rw (tied_itself keys_total (key_of places row)) refl in
    let fails : not (is_at places (key_of places row) row) ≡ false = rw itself refl in
    filter_out (λ (other : Row). not (is_at places (key_of places row) other)) places row rows fails ∙ none_to_remove places (key_of places row) rows none

-- what is found is one of the rows
found_holds_here : (P : Row → Type 0) (row first : Row) (rest : Option Row) (b : Bool) → P first → (rest ≡ Some row → P row) → cond b (Some first) rest ≡ Some row → P row
found_holds_here P row first rest true holds others is = let same : first ≡ row = cc in subst P same holds
found_holds_here P row first rest false holds others is = others is

found_holds : (P : Row → Type 0) (test : Row → Bool) (row : Row) (rows : List Row) → AllByRecursion P rows → find test rows ≡ Some row → P row
found_holds P test row [] all is = absurd cc
found_holds P test row (first ∷ rows) all is = found_holds_here P row first (find test rows) (test first) all.0 (found_holds P test row rows all.1) is

-- putting in again what was taken out
again_here : (places : List ℕ) (row first : Row) (rows : List Row) (b : Bool) → is_at places (key_of places row) first ≡ b → Ascends places (first ∷ rows) → cond b (Some first) (find (is_at places (key_of places row)) rows) ≡ Some row
    → (find (is_at places (key_of places row)) rows ≡ Some row → with_row places row (without_key places (key_of places row) rows) ≡ rows)
    → with_row places row (cond (not b) (first ∷ without_key places (key_of places row) rows) (without_key places (key_of places row) rows)) ≡ first ∷ rows
unfolding with_row
again_here places row first rows true at ascends is rest =
    let same : first ≡ row = cc in
    let tied : compare_keys (key_of places row) (key_of places first) ≡ Equal = is_Equal (compare_keys (key_of places row) (key_of places first)) at in
    let before : is_gt (compare_keys (key_of places row) (key_of places first)) ≡ false = rw tied refl in
    let none = others_not_at places (key_of places row) first rows before ascends.0 in
    rw (all_left (is_at places (key_of places row)) rows none) (goes_first places row rows (before_after places row first rows before ascends.0) ∙ ap (λ (r : Row). r ∷ rows) (sym same))
again_here places row first rows false at ascends is rest =
    let less : compare_keys (key_of places first) (key_of places row) ≡ Less = found_holds (λ other. compare_keys (key_of places first) (key_of places other) ≡ Less) (is_at places (key_of places row)) row rows ascends.0 is in
    let greater : compare_keys (key_of places row) (key_of places first) ≡ Greater = keys_total.antisymm (key_of places row) (key_of places first) ∙ ap ordering_reverse less in
    rw greater (ap (λ (rs : List Row). first ∷ rs) (rest is))

pub put_again : (places : List ℕ) (row : Row) (rows : List Row) → Ascends places rows → find (is_at places (key_of places row)) rows ≡ Some row → with_row places row (without_key places (key_of places row) rows) ≡ rows
put_again places row [] ascends is = absurd cc
put_again places row (first ∷ rows) ascends is = again_here places row first rows (is_at places (key_of places row) first) refl ascends is (put_again places row rows ascends.1)
