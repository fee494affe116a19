-- The entries between two places.
use Rattle.std.proofs.Common.{◌≡◌, ◌∙◌, ℕ, zero, suc, ◌+◌, ◌-◌, ◌<◌, ◌≤◌, List, [], ◌∷◌, ◌++◌, length, take, drop, get_or, refl, sym, ap, arith, append_assoc, length-append, length-drop}
use Rattle.std.proofs.Math.Seq.{take-append-add}
use Rattle.std.proofs.lemmas.List.{take-append-le, get_or-drop}
use Rattle.base_page_list.specs.Pages.{flat, place_in, between}
use Rattle.base_page_list.proofs.PageEdits.{Pages}
use Rattle.base_page_list.proofs.PagePlaces.{drop_flat, page_end}

-- the entries before a place
run_flat : (n at : ℕ) (pages : Pages) → n < length pages → at ≤ length (get_or pages n []) → take (place_in pages n at) (flat pages) ≡ flat (take n pages) ++ take at (get_or pages n [])
run_flat n at [] lt le = absurd (omega arith)
run_flat zero at (page ∷ pages) lt le =
    let place : 0 + at ≡ at = omega arith in
    ap (λ (k : ℕ). take k (page ++ flat pages)) place ∙ take-append-le at page (flat pages) le
run_flat (suc n) at (page ∷ pages) lt le =
    let before : length (flat (take (suc n) (page ∷ pages))) ≡ length page + length (flat (take n pages)) = length-append page (flat (take n pages)) in
    let place : place_in (page ∷ pages) (suc n) at ≡ length page + place_in pages n at = omega (arith, before) in
    ap (λ (k : ℕ). take k (page ++ flat pages)) place ∙ take-append-add page (flat pages) (place_in pages n at) ∙ ap (λ (es : List ℕ). page ++ es) (run_flat n at pages (omega arith) le)
    ∙ sym (append_assoc page (flat (take n pages)) (take at (get_or pages n [])))

-- so many pages, and so many behind them
far : (j k m : ℕ) (pages : Pages) → m ≡ j + k → length (flat (take m pages)) ≡ length (flat (take j pages)) + length (flat (take k (drop j pages)))
far zero k m pages is =
    let same : m ≡ k = omega (arith, is) in
    rw same (omega arith)
far (suc j) k zero pages is = absurd (omega (arith, is))
far (suc j) zero (suc m) [] is = refl
far (suc j) (suc k) (suc m) [] is = refl
far (suc j) k (suc m) (page ∷ pages) is =
    let following = far j k m pages (omega (arith, is)) in
    let here = length-append page (flat (take j pages)) in
    let all = length-append page (flat (take m pages)) in
    omega (arith, following, here, all)

-- within one page
pub between_one : (n from to : ℕ) (pages : Pages) → n < length pages → from ≤ length (get_or pages n []) → to ≤ length (get_or pages n []) → take (to - from) (drop from (get_or pages n [])) ≡ between (place_in pages n from) (place_in pages n to) (flat pages)
between_one n from to pages lt start end =
    let page = get_or pages n [] in
    let size : place_in pages n to - place_in pages n from ≡ to - from = omega arith in
    let short : to - from ≤ length (drop from page) = rw (length-drop from page) (omega arith) in
    sym (ap (λ (k : ℕ). take k (drop (place_in pages n from) (flat pages))) size ∙ ap (λ (es : List ℕ). take (to - from) es) (drop_flat n from pages lt start) ∙ take-append-le (to - from) (drop from page) (flat (drop (suc n) pages)) short)

-- from one page to a later one
pub between_more : (n m from to : ℕ) (pages : Pages) → n < m → m < length pages → from ≤ length (get_or pages n []) → to ≤ length (get_or pages m [])
    → drop from (get_or pages n []) ++ (flat (take (m - suc n) (drop (suc n) pages)) ++ take to (get_or pages m [])) ≡ between (place_in pages n from) (place_in pages m to) (flat pages)
between_more n m from to pages lt inside start end =
    let page = get_or pages n [] in
    let rest = drop (suc n) pages in
    let k = m - suc n in
    let there : suc n + k ≡ m = omega arith in
    let last : get_or rest k [] ≡ get_or pages m [] = get_or-drop (suc n) pages k [] ∙ ap (λ (i : ℕ). get_or pages i []) there in
    let within : k < length rest = rw (length-drop (suc n) pages) (omega arith) in
    let run = run_flat k to rest within (rw last end) in
    let before = far (suc n) k m pages (sym there) in
    let stop = page_end n pages (omega arith) in
    let left = length-drop from page in
    let size : place_in pages m to - place_in pages n from ≡ length (drop from page) + place_in rest k to = omega (arith, before, stop, left) in
    sym (ap (λ (i : ℕ). take i (drop (place_in pages n from) (flat pages))) size ∙ ap (λ (es : List ℕ). take (length (drop from page) + place_in rest k to) es) (drop_flat n from pages (omega arith) start)
    ∙ take-append-add (drop from page) (flat rest) (place_in rest k to) ∙ ap (λ (es : List ℕ). drop from page ++ es) (run ∙ ap (λ (p : List ℕ). flat (take k rest) ++ take to p) last))

-- from one page to an earlier one
pub between_none : (n m from to : ℕ) (pages : Pages) → m < n → n < length pages → to ≤ length (get_or pages m []) → [] ≡ between (place_in pages n from) (place_in pages m to) (flat pages)
between_none n m from to pages lt inside end =
    let k = n - suc m in
    let before = far (suc m) k n pages (omega arith) in
    let stop = page_end m pages (omega arith) in
    let size : place_in pages m to - place_in pages n from ≡ 0 = omega (arith, before, stop) in
    rw size refl

none_of : (k a : ℕ) → ◌≡◌ {A = List ℕ} [] (take k (drop a []))
none_of zero a = refl
none_of (suc k) zero = refl
none_of (suc k) (suc a) = refl

pub between_no_pages : (a b : ℕ) (pages : Pages) → length pages ≡ 0 → [] ≡ between a b (flat pages)
between_no_pages a b (page ∷ pages) none = absurd (omega arith)
between_no_pages a b [] none = none_of (b - a) a
