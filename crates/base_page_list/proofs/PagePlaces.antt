-- Where entries stand in pages, and where those end that pass a test.
use Rattle.std.proofs.Common.{◌≡◌, ◌∙◌, ℕ, zero, suc, ◌+◌, ◌-◌, ◌<◌, ◌≤◌, Bool, true, false, cond, List, [], ◌∷◌, ◌++◌, length, take, drop, get_or, Some, None, refl, sym, ap, arith, length-append, add-one}
use Rattle.std.specs.List.{AllByRecursion, prefix_len, slice_get}
use Rattle.std.proofs.Math.Seq.{drop-append-add}
use Rattle.std.proofs.lemmas.List.{take_all, drop-append-le}
use Rattle.std.proofs.lemmas.Option.{slice_get_within, slice_get-get_or, get_or_from_slice_get}
use Rattle.std.proofs.lemmas.List.Sums.{prefix_len-le-length}
use Rattle.base_page_list.specs.Pages.{flat, ArePages, place_in, IsGap, FailsOn, first_passes, last_page, StandsAt}
use Rattle.base_page_list.proofs.PageEdits.{Pages, get_flat, place_within, some_at}
use Rattle.base_page_list.proofs.Tested.{all_right, fails_left, fails_right, none_before, before_stop, before_all}

-- the test on first entries fails on where the test does
firsts_fail : (test : ℕ → Bool) (pages : Pages) → ArePages pages → AllByRecursion (λ other. test other ≡ false) (flat pages) → AllByRecursion (λ page. first_passes test page ≡ false) pages
firsts_fail test [] are fail = tt
firsts_fail test ([] ∷ pages) are fail = let some : 0 < 0 = are.0 in absurd (omega arith)
firsts_fail test ((entry ∷ entries) ∷ pages) are fail = (fail.0, firsts_fail test pages are.3 (all_right (λ (other : ℕ). test other ≡ false) entries (flat pages) fail.1))

pub firsts_fail_on : (test : ℕ → Bool) (pages : Pages) → ArePages pages → FailsOn test (flat pages) → FailsOn (first_passes test) pages
firsts_fail_on test [] are fails = tt
firsts_fail_on test ([] ∷ pages) are fails = let some : 0 < 0 = are.0 in absurd (omega arith)
firsts_fail_on test ((entry ∷ entries) ∷ pages) are fails =
    (λ is. firsts_fail test pages are.3 (all_right (λ (other : ℕ). test other ≡ false) entries (flat pages) (fails.0 is)), firsts_fail_on test pages are.3 (fails_right test (entry ∷ entries) (flat pages) fails))

pub page_fails_on : (test : ℕ → Bool) (n : ℕ) (pages : Pages) → FailsOn test (flat pages) → FailsOn test (get_or pages n [])
page_fails_on test n [] fails = tt
page_fails_on test zero (page ∷ pages) fails = fails_left test page (flat pages) fails
page_fails_on test (suc n) (page ∷ pages) fails = page_fails_on test n pages (fails_right test page (flat pages) fails)

-- in this page the entries end that pass
abbrev EndsIn : (ℕ → Bool) → Pages → ℕ → Type 0
EndsIn test pages n = place_in pages n (prefix_len test (get_or pages n [])) ≡ prefix_len test (flat pages)

no_entry : (b : Bool) (k n : ℕ) → ◌≡◌ {A = ℕ} (cond b (1 + k) 0) 0 → ◌≡◌ {A = ℕ} (cond b (1 + n) 0) 0
no_entry true k n none = absurd (omega arith)
no_entry false k n none = refl

first_of : (b : Bool) (k n : ℕ) → ◌≡◌ {A = ℕ} (cond b (1 + k) 0) (suc n) → b ≡ true
first_of true k n more = refl
first_of false k n more = absurd (omega arith)

-- no first entry passes, so none does
no_first : (test : ℕ → Bool) (pages : Pages) → ArePages pages → prefix_len (first_passes test) pages ≡ 0 → prefix_len test (flat pages) ≡ 0
no_first test [] are none = refl
no_first test ([] ∷ pages) are none = let some : 0 < 0 = are.0 in absurd (omega arith)
no_first test ((entry ∷ entries) ∷ pages) are none = no_entry (test entry) (prefix_len (first_passes test) pages) (prefix_len test (entries ++ flat pages)) none

ends_first : (test : ℕ → Bool) (page : List ℕ) (pages : Pages) → prefix_len test (flat pages) ≡ 0 → EndsIn test (page ∷ pages) 0
ends_first test page pages none = sym (before_stop test page (flat pages) none ∙ omega arith)

ends_later : (test : ℕ → Bool) (n : ℕ) (page : List ℕ) (pages : Pages) → ArePages pages → FailsOn test (page ++ flat pages) → prefix_len (first_passes test) pages ≡ suc n → EndsIn test pages n → EndsIn test (page ∷ pages) (suc n)
ends_later test n page [] are fails more ends = absurd (cc)
ends_later test n page ([] ∷ pages) are fails more ends = let some : 0 < 0 = are.0 in absurd (omega arith)
ends_later test n page ((entry ∷ entries) ∷ pages) are fails more ends =
    let passes = first_of (test entry) (prefix_len (first_passes test) pages) n more in
    let whole = before_all test entry page (entries ++ flat pages) fails passes in
    let following = (entry ∷ entries) ∷ pages in
    let before : length (flat (take (suc n) (page ∷ following))) ≡ length page + length (flat (take n following)) = length-append page (flat (take n following)) in
    omega (arith, whole, before, ends)

ends_by : (test : ℕ → Bool) (b : Bool) (m : ℕ) (page : List ℕ) (pages : Pages) → first_passes test page ≡ b → prefix_len (first_passes test) pages ≡ m → ArePages (page ∷ pages) → FailsOn test (page ++ flat pages) → EndsIn test pages (m - 1)
    → EndsIn test (page ∷ pages) (cond b (1 + m) 0 - 1)
ends_by test false m [] pages is count are fails ends = let some : 0 < 0 = are.0 in absurd (omega arith)
ends_by test false m (entry ∷ entries) pages is count are fails ends = ends_first test (entry ∷ entries) pages (none_before test (flat pages) (all_right (λ (other : ℕ). test other ≡ false) entries (flat pages) (fails.0 is)))
ends_by test true zero page pages is count are fails ends = ends_first test page pages (no_first test pages are.3 count)
ends_by test true (suc m) page pages is count are fails ends =
    let less : suc m - 1 ≡ m = omega arith in
    let at : 1 + suc m - 1 ≡ suc m = omega arith in
    rw at (ends_later test m page pages are.3 fails count (rw less at ends))

pub ends : (test : ℕ → Bool) (pages : Pages) → ArePages pages → FailsOn test (flat pages) → EndsIn test pages (last_page test pages)
ends test [] are fails = refl
ends test (page ∷ pages) are fails = ends_by test (first_passes test page) (prefix_len (first_passes test) pages) page pages refl refl are fails (ends test pages are.3 (fails_right test page (flat pages) fails))

-- Where an entry stands.
pub stands_here : (n at entry : ℕ) (pages : Pages) (page : List ℕ) → slice_get pages n ≡ Some page → slice_get page at ≡ Some entry → StandsAt pages (place_in pages n at) n at entry
stands_here n at entry pages page here there =
    let lt = slice_get_within pages n page here in
    let page_is : get_or pages n [] ≡ page = get_or_from_slice_get pages n page [] here in
    let within : at < length (get_or pages n []) = rw page_is (slice_get_within page at entry there) in
    let below = place_within n (at + 1) pages lt (omega (arith, within)) in
    let entry_is : get_or (flat pages) (place_in pages n at) entry ≡ entry = get_flat n at entry pages lt within ∙ ap (λ (p : List ℕ). get_or p at entry) page_is ∙ get_or_from_slice_get page at entry entry there in
    record {
      page_is = lt;
      within = within;
      place_is = refl;
      entry_is = slice_get-get_or (flat pages) (place_in pages n at) entry (omega (arith, below)) ∙ ap (λ (x : ℕ). Some x) entry_is;
    }

-- the end of a page is the start of the next
pub page_end : (n : ℕ) (pages : Pages) → n < length pages → place_in pages n (length (get_or pages n [])) ≡ length (flat (take (suc n) pages))
page_end n [] lt = absurd (omega arith)
page_end zero (page ∷ pages) lt = let whole : length (page ++ []) ≡ length page + 0 = length-append page [] in omega (arith, whole)
page_end (suc n) (page ∷ pages) lt =
    let before : length (flat (take (suc n) (page ∷ pages))) ≡ length page + length (flat (take n pages)) = length-append page (flat (take n pages)) in
    let after : length (flat (take (suc (suc n)) (page ∷ pages))) ≡ length page + length (flat (take (suc n) pages)) = length-append page (flat (take (suc n) pages)) in
    let following = page_end n pages (omega arith) in
    omega (arith, before, after, following)

past : (page : List ℕ) (at : ℕ) → slice_get page at ≡ None → length page ≤ at
past [] at none = omega arith
past (entry ∷ page) zero none = absurd (cc)
past (entry ∷ page) (suc at) none = let following = past page at none in omega (arith, following)

pub no_page : (pages : Pages) (n : ℕ) → slice_get pages n ≡ None → length pages ≤ n
no_page [] n none = omega arith
no_page (page ∷ pages) zero none = absurd (cc)
no_page (page ∷ pages) (suc n) none = let following = no_page pages n none in omega (arith, following)

pub stands_next : (n at entry : ℕ) (pages : Pages) (page next : List ℕ) → IsGap pages n at → slice_get pages n ≡ Some page → slice_get page at ≡ None → slice_get pages (n + 1) ≡ Some next → slice_get next 0 ≡ Some entry → StandsAt pages (place_in pages n at) (n + 1) 0 entry
stands_next n at entry pages page next gap here none following there =
    let page_is : get_or pages n [] ≡ page = get_or_from_slice_get pages n page [] here in
    let size : length (get_or pages n []) ≡ length page = ap (λ (p : List ℕ). length p) page_is in
    let over = past page at none in
    let stop = page_end n pages (slice_get_within pages n page here) in
    let gap_within : at ≤ length (get_or pages n []) = gap.within in
    let at_is : at ≡ length (get_or pages n []) = omega (arith, size, over, gap_within) in
    let one : n + 1 ≡ suc n = add-one n in
    let start : length (flat (take (n + 1) pages)) ≡ length (flat (take (suc n) pages)) = ap (λ (k : ℕ). length (flat (take k pages))) one in
    let same : place_in pages (n + 1) 0 ≡ place_in pages n at = omega (arith, stop, at_is, start) in
    let stands = stands_here (n + 1) 0 entry pages next following there in
    record {
      page_is = stands.page_is;
      within = stands.within;
      place_is = same;
      entry_is = rw (← same) stands.entry_is;
    }

pub none_next : (n at : ℕ) (pages : Pages) (page : List ℕ) → IsGap pages n at → slice_get pages n ≡ Some page → slice_get page at ≡ None → slice_get pages (n + 1) ≡ None → length (flat pages) ≤ place_in pages n at
none_next n at pages page gap here none following =
    let page_is : get_or pages n [] ≡ page = get_or_from_slice_get pages n page [] here in
    let size : length (get_or pages n []) ≡ length page = ap (λ (p : List ℕ). length p) page_is in
    let over = past page at none in
    let stop = page_end n pages (slice_get_within pages n page here) in
    let last = no_page pages (n + 1) following in
    let whole : length (flat (take (suc n) pages)) ≡ length (flat pages) = ap (λ (ps : Pages). length (flat ps)) (take_all (suc n) pages (omega (arith, last))) in
    omega (arith, size, over, stop, whole)

pub next_has : (n : ℕ) (pages : Pages) (next : List ℕ) → ArePages pages → slice_get pages n ≡ Some next → slice_get next 0 ≡ None → ⊥
next_has n pages next are here none =
    let some = some_at n pages are (slice_get_within pages n next here) in
    let page_is : get_or pages n [] ≡ next = get_or_from_slice_get pages n next [] here in
    let size : length (get_or pages n []) ≡ length next = ap (λ (p : List ℕ). length p) page_is in
    let over = past next 0 none in
    omega (arith, some, size, over)

-- The entries from a place on.
pub drop_flat : (n at : ℕ) (pages : Pages) → n < length pages → at ≤ length (get_or pages n []) → drop (place_in pages n at) (flat pages) ≡ drop at (get_or pages n []) ++ flat (drop (suc n) pages)
drop_flat n at [] lt le = absurd (omega arith)
drop_flat zero at (page ∷ pages) lt le =
    let place : 0 + at ≡ at = omega arith in
    ap (λ (k : ℕ). drop k (page ++ flat pages)) place ∙ drop-append-le at page (flat pages) le
drop_flat (suc n) at (page ∷ pages) lt le =
    let before : length (flat (take (suc n) (page ∷ pages))) ≡ length page + length (flat (take n pages)) = length-append page (flat (take n pages)) in
    let place : place_in (page ∷ pages) (suc n) at ≡ length page + place_in pages n at = omega (arith, before) in
    ap (λ (k : ℕ). drop k (page ++ flat pages)) place ∙ drop-append-add page (flat pages) (place_in pages n at) ∙ drop_flat n at pages (omega arith) le

-- the page that the code found
pub page_is_last : (test : ℕ → Bool) (pages : Pages) (n at : ℕ) → n ≡ last_page test pages → at ≡ prefix_len test (get_or pages n []) → EndsIn test pages (last_page test pages) → place_in pages n at ≡ prefix_len test (flat pages)
page_is_last test pages n at is at_is ends = rw (at_is, is) ends

no_pages : (test : ℕ → Bool) (pages : Pages) (n : ℕ) → n ≡ last_page test pages → slice_get pages n ≡ None → pages ≡ []
no_pages test [] n is none = refl
no_pages test (page ∷ pages) n is none =
    let over = no_page (page ∷ pages) n none in
    let bound = prefix_len-le-length (first_passes test) (page ∷ pages) in
    absurd (omega (arith, over, bound, is))

pub no_pages_gap : (test : ℕ → Bool) (pages : Pages) (n : ℕ) → n ≡ last_page test pages → slice_get pages n ≡ None → IsGap pages n 0
no_pages_gap test pages n is none = let empty = no_pages test pages n is none in record { page_is = λ some. absurd (omega (arith, ap (λ (ps : Pages). length ps) empty)); within = omega arith }

pub no_pages_place : (test : ℕ → Bool) (pages : Pages) (n : ℕ) → n ≡ last_page test pages → slice_get pages n ≡ None → place_in pages n 0 ≡ prefix_len test (flat pages)
no_pages_place test pages n is none = let empty = no_pages test pages n is none in rw (is, empty) refl
