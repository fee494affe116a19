-- Lists of pages as one list.
use Rattle.std.proofs.Common.{◌≡◌, ◌∙◌, ℕ, zero, suc, ◌+◌, ◌*◌, ◌-◌, ◌<◌, ◌≤◌, Bool, true, false, cond, List, [], ◌∷◌, ◌++◌, length, take, drop, set, get_or, insert, remove, leb, refl, sym, ap, arith, append_assoc, length-append, length-drop, add-one}
use Rattle.std.proofs.lemmas.Bool.{leb-true, leb-false, le-leb, lt-leb}
use Rattle.std.proofs.lemmas.List.{take-append-drop, length-take-le, get_or_default}
use Rattle.std.proofs.lemmas.List.Edits.{insert-append_left, insert-append_right, remove-append_left, remove-append_right, get_or-remove_below}
use Rattle.base_page_list.specs.Pages.{flat, Dense, ArePages, joined, parted, place_in}

-- at least 33 entries a neighbouring pair, so at most so many pages
room_first : (page : List ℕ) (pages : List (List ℕ)) → ArePages (page ∷ pages) → 33 * length pages + length page ≤ 2 * length (flat (page ∷ pages))
room_first page [] are = simp length-append (omega arith)
room_first page (next ∷ pages) are =
    let following = room_first next pages are.3 in
    let here : length (flat (page ∷ next ∷ pages)) ≡ length page + length (flat (next ∷ pages)) = length-append page (flat (next ∷ pages)) in
    let dense : 32 < length page + length next = are.2 in
    omega (arith, following, here, dense)

pub room : (pages : List (List ℕ)) → ArePages pages → 33 * length pages ≤ 2 * length (flat pages) + 32
room [] are = omega arith
room (page ∷ pages) are =
    let first = room_first page pages are in
    let some : 0 < length page = are.0 in
    omega (arith, first, some)

-- putting an entry in a page puts it in the list
pub flat-inserted : (n at entry : ℕ) (pages : List (List ℕ)) → n < length pages → at ≤ length (get_or pages n []) → flat (set pages n (insert (get_or pages n []) at entry)) ≡ insert (flat pages) (place_in pages n at) entry
flat-inserted n at entry [] lt le = absurd (omega arith)
flat-inserted zero at entry (page ∷ pages) lt le =
    let place : at ≡ 0 + at = omega arith in
    sym (insert-append_left page (flat pages) at entry le) ∙ ap (λ (k : ℕ). insert (page ++ flat pages) k entry) place
flat-inserted (suc n) at entry (page ∷ pages) lt le =
    let following = flat-inserted n at entry pages (omega arith) le in
    let before : length (flat (take (suc n) (page ∷ pages))) ≡ length page + length (flat (take n pages)) = length-append page (flat (take n pages)) in
    let right = insert-append_right page (flat pages) (length page) (place_in (page ∷ pages) (suc n) at) entry refl (omega (arith, before)) in
    let place : place_in (page ∷ pages) (suc n) at - length page ≡ place_in pages n at = omega (arith, before) in
    ap (λ (rest : List ℕ). page ++ rest) (following ∙ ap (λ (k : ℕ). insert (flat pages) k entry) (sym place)) ∙ sym right

-- taking an entry out of a page takes it out of the list
pub flat-removed : (n at : ℕ) (pages : List (List ℕ)) → n < length pages → at < length (get_or pages n []) → flat (set pages n (remove (get_or pages n []) at)) ≡ remove (flat pages) (place_in pages n at)
flat-removed n at [] lt le = absurd (omega arith)
flat-removed zero at (page ∷ pages) lt le =
    let place : at ≡ 0 + at = omega arith in
    sym (remove-append_left page (flat pages) at le) ∙ ap (λ (k : ℕ). remove (page ++ flat pages) k) place
flat-removed (suc n) at (page ∷ pages) lt le =
    let following = flat-removed n at pages (omega arith) le in
    let before : length (flat (take (suc n) (page ∷ pages))) ≡ length page + length (flat (take n pages)) = length-append page (flat (take n pages)) in
    let right = remove-append_right page (flat pages) (length page) (place_in (page ∷ pages) (suc n) at) refl (omega (arith, before)) in
    let place : place_in (page ∷ pages) (suc n) at - length page ≡ place_in pages n at = omega (arith, before) in
    ap (λ (rest : List ℕ). page ++ rest) (following ∙ ap (λ (k : ℕ). remove (flat pages) k) (sym place)) ∙ sym right

-- a page in two is the same list
parted_flat : (b : Bool) (page : List ℕ) (pages : List (List ℕ)) → flat (cond b (page ∷ pages) (take 33 page ∷ drop 33 page ∷ pages)) ≡ page ++ flat pages
parted_flat true page pages = refl
parted_flat false page pages = sym (append_assoc (take 33 page) (drop 33 page) (flat pages)) ∙ ap (λ (p : List ℕ). p ++ flat pages) (take-append-drop 33 page)

pub flat-parted : (n : ℕ) (pages : List (List ℕ)) → flat (parted n pages) ≡ flat pages
flat-parted zero [] = refl
flat-parted (suc n) [] = refl
flat-parted zero (page ∷ pages) = parted_flat (leb (length page) 64) page pages
flat-parted (suc n) (page ∷ pages) = ap (λ (rest : List ℕ). page ++ rest) (flat-parted n pages)

-- two pages in one are the same list
joined_flat : (b : Bool) (page next : List ℕ) (pages : List (List ℕ)) → flat (cond b ((page ++ next) ∷ pages) (page ∷ next ∷ pages)) ≡ page ++ (next ++ flat pages)
joined_flat true page next pages = append_assoc page next (flat pages)
joined_flat false page next pages = refl

pub flat-joined : (n : ℕ) (pages : List (List ℕ)) → flat (joined n pages) ≡ flat pages
flat-joined zero [] = refl
flat-joined (suc n) [] = refl
flat-joined zero (page ∷ []) = refl
flat-joined zero (page ∷ next ∷ pages) = joined_flat (leb (length page + length next) 32) page next pages
flat-joined (suc n) (page ∷ pages) = ap (λ (rest : List ℕ). page ++ rest) (flat-joined n pages)

-- an empty page may go
pub flat-dropped : (n : ℕ) (pages : List (List ℕ)) → n < length pages → get_or pages n [] ≡ [] → flat (remove pages n) ≡ flat pages
flat-dropped n [] lt none = absurd (omega arith)
flat-dropped zero (page ∷ pages) lt none = sym (ap (λ (p : List ℕ). p ++ flat pages) none)
flat-dropped (suc n) (page ∷ pages) lt none = ap (λ (rest : List ℕ). page ++ rest) (flat-dropped n pages (omega arith) none)

-- A page with one entry more, in two if it has more than 64.
dense_parted : (b : Bool) (before page : List ℕ) (pages : List (List ℕ)) → leb (length page) 64 ≡ b → 0 < length before → 32 < length before + length page → Dense before (cond b (page ∷ pages) (take 33 page ∷ drop 33 page ∷ pages))
dense_parted true before page pages is some dense = dense
dense_parted false before page pages is some dense =
    let many = leb-false (length page) 64 is in
    let front = length-take-le 33 page (omega (arith, many)) in
    omega (arith, front, some)

dense_grown : (n : ℕ) (before page : List ℕ) (pages : List (List ℕ)) → n < length pages → length page ≡ length (get_or pages n []) + 1 → 0 < length before → Dense before pages → Dense before (parted n (set pages n page))
dense_grown n before page [] lt len some dense = absurd (omega arith)
dense_grown zero before page (old ∷ pages) lt len some dense = dense_parted (leb (length page) 64) before page pages refl some (omega (arith, dense, len))
dense_grown (suc n) before page (old ∷ pages) lt len some dense = dense

dense_more : (old page : List ℕ) (pages : List (List ℕ)) → length old ≤ length page → Dense old pages → Dense page pages
dense_more old page [] le dense = tt
dense_more old page (next ∷ pages) le dense = omega (arith, dense)

dense_all : (page : List ℕ) (pages : List (List ℕ)) → 32 ≤ length page → ArePages pages → Dense page pages
dense_all page [] le are = tt
dense_all page (next ∷ pages) le are = let some : 0 < length next = are.0 in omega (arith, some)

grown_first : (b : Bool) (old page : List ℕ) (pages : List (List ℕ)) → leb (length page) 64 ≡ b → length page ≡ length old + 1 → ArePages (old ∷ pages) → ArePages (cond b (page ∷ pages) (take 33 page ∷ drop 33 page ∷ pages))
grown_first true old page pages is len are = (omega (arith, len), leb-true (length page) 64 is, dense_more old page pages (omega (arith, len)) are.2, are.3)
grown_first false old page pages is len are =
    let many = leb-false (length page) 64 is in
    let few : length old ≤ 64 = are.1 in
    let front = length-take-le 33 page (omega (arith, many)) in
    let back = length-drop 33 page in
    let size : length (drop 33 page) ≡ 32 = omega (arith, many, few, len, back) in
    (omega (arith, front), omega (arith, front), omega (arith, front, size), (omega (arith, size), omega (arith, size), dense_all (drop 33 page) pages (omega (arith, size)) are.3, are.3))

pub grown : (n : ℕ) (page : List ℕ) (pages : List (List ℕ)) → n < length pages → length page ≡ length (get_or pages n []) + 1 → ArePages pages → ArePages (parted n (set pages n page))
grown n page [] lt len are = absurd (omega arith)
grown zero page (old ∷ pages) lt len are = grown_first (leb (length page) 64) old page pages refl len are
grown (suc n) page (old ∷ pages) lt len are = (are.0, are.1, dense_grown n old page pages (omega arith) len are.0 are.2, grown n page pages (omega arith) len are.3)

-- A page with one entry less, joined with its neighbours.
dense_joined_first : (b : Bool) (before page next : List ℕ) (pages : List (List ℕ)) → 32 < length before + length page → Dense before (cond b ((page ++ next) ∷ pages) (page ∷ next ∷ pages))
dense_joined_first true before page next pages dense = simp length-append (omega (arith, dense))
dense_joined_first false before page next pages dense = dense

dense_joined : (n : ℕ) (before : List ℕ) (pages : List (List ℕ)) → Dense before pages → Dense before (joined n pages)
dense_joined zero before [] dense = tt
dense_joined (suc n) before [] dense = tt
dense_joined zero before (page ∷ []) dense = dense
dense_joined zero before (page ∷ next ∷ pages) dense = dense_joined_first (leb (length page + length next) 32) before page next pages dense
dense_joined (suc n) before (page ∷ pages) dense = dense

-- the first page has one entry less
shrunk_pair : (b : Bool) (old page next : List ℕ) (pages : List (List ℕ)) → leb (length page + length next) 32 ≡ b → length page + 1 ≡ length old → 0 < length page → ArePages (old ∷ next ∷ pages) → ArePages (cond b ((page ++ next) ∷ pages) (page ∷ next ∷ pages))
shrunk_pair true old page next pages is len some are =
    let few = leb-true (length page + length next) 32 is in
    let dense : 32 < length old + length next = are.2 in
    let size : length (page ++ next) ≡ 32 = length-append page next ∙ omega (arith, few, dense, len) in
    (omega (arith, size), omega (arith, size), dense_all (page ++ next) pages (omega (arith, size)) are.3.3, are.3.3)
shrunk_pair false old page next pages is len some are =
    let many = leb-false (length page + length next) 32 is in
    let few : length old ≤ 64 = are.1 in
    (some, omega (arith, few, len), many, are.3)

pub shrunk_first : (old page : List ℕ) (pages : List (List ℕ)) → length page + 1 ≡ length old → 0 < length page → ArePages (old ∷ pages) → ArePages (joined zero (page ∷ pages))
shrunk_first old page [] len some are = let few : length old ≤ 64 = are.1 in (some, omega (arith, few, len), tt, tt)
shrunk_first old page (next ∷ pages) len some are = shrunk_pair (leb (length page + length next) 32) old page next pages refl len some are

-- the page and the next have together at least 32 entries
abbrev Near : List ℕ → List (List ℕ) → Type 0
Near page [] = Unit {0}
Near page (next ∷ pages) = 32 ≤ length page + length next

near_joined_first : (b : Bool) (before page next : List ℕ) (pages : List (List ℕ)) → 32 ≤ length before + length page → Near before (cond b ((page ++ next) ∷ pages) (page ∷ next ∷ pages))
near_joined_first true before page next pages near = simp length-append (omega (arith, near))
near_joined_first false before page next pages near = near

near_joined : (before page : List ℕ) (pages : List (List ℕ)) → 32 ≤ length before + length page → Near before (joined zero (page ∷ pages))
near_joined before page [] near = near
near_joined before page (next ∷ pages) near = near_joined_first (leb (length page + length next) 32) before page next pages near

joined_before_pair : (b : Bool) (page next : List ℕ) (pages : List (List ℕ)) → leb (length page + length next) 32 ≡ b → 0 < length page → length page ≤ 64 → ArePages (next ∷ pages) → 32 ≤ length page + length next → ArePages (cond b ((page ++ next) ∷ pages) (page ∷ next ∷ pages))
joined_before_pair true page next pages is some fits are near =
    let few = leb-true (length page + length next) 32 is in
    let size : length (page ++ next) ≡ 32 = length-append page next ∙ omega (arith, few, near) in
    (omega (arith, size), omega (arith, size), dense_all (page ++ next) pages (omega (arith, size)) are.3, are.3)
joined_before_pair false page next pages is some fits are near =
    let many = leb-false (length page + length next) 32 is in
    (some, fits, many, are)

joined_before : (page : List ℕ) (pages : List (List ℕ)) → 0 < length page → length page ≤ 64 → ArePages pages → Near page pages → ArePages (joined zero (page ∷ pages))
joined_before page [] some fits are near = (some, fits, tt, tt)
joined_before page (next ∷ pages) some fits are near = joined_before_pair (leb (length page + length next) 32) page next pages refl some fits are near

pub shrunk_after : (n : ℕ) (page : List ℕ) (pages : List (List ℕ)) → suc n < length pages → length page + 1 ≡ length (get_or pages (suc n) []) → 0 < length page → ArePages pages → ArePages (joined n (joined (suc n) (set pages (suc n) page)))
shrunk_after n page [] lt len some are = absurd (omega arith)
shrunk_after n page (first ∷ []) lt len some are = absurd (omega arith)
shrunk_after zero page (first ∷ old ∷ pages) lt len some are =
    let dense : 32 < length first + length old = are.2 in
    joined_before first (joined zero (page ∷ pages)) are.0 are.1 (shrunk_first old page pages len some are.3) (near_joined first page pages (omega (arith, dense, len)))
shrunk_after (suc n) page (first ∷ second ∷ pages) lt len some are =
    (are.0, are.1, dense_joined n first (joined (suc n) (set (second ∷ pages) (suc n) page)) (dense_joined (suc n) first (set (second ∷ pages) (suc n) page) are.2), shrunk_after n page (second ∷ pages) (omega arith) len some are.3)

-- A page that had one entry is gone.
dense_dropped : (first old : List ℕ) (pages : List (List ℕ)) → length old ≡ 1 → 32 < length first + length old → Dense old pages → Dense first pages
dense_dropped first old [] one dense following = tt
dense_dropped first old (next ∷ pages) one dense following = omega (arith, one, dense, following)

pub dropped : (n : ℕ) (pages : List (List ℕ)) → n < length pages → length (get_or pages n []) ≡ 1 → ArePages pages → ArePages (remove pages n)
dropped n [] lt one are = absurd (omega arith)
dropped zero (old ∷ pages) lt one are = are.3
dropped (suc n) (first ∷ []) lt one are = absurd (omega arith)
dropped (suc zero) (first ∷ old ∷ pages) lt one are = (are.0, are.1, dense_dropped first old pages one are.2 are.3.2, are.3.3)
dropped (suc (suc n)) (first ∷ second ∷ pages) lt one are = (are.0, are.1, are.2, dropped (suc n) (second ∷ pages) (omega arith) one are.3)

-- How many pages there are.
parted_count : (b : Bool) (page : List ℕ) (pages : List (List ℕ)) → length (cond b (page ∷ pages) (take 33 page ∷ drop 33 page ∷ pages)) ≡ suc (length pages) + cond b 0 1
parted_count true page pages = omega arith
parted_count false page pages = omega arith

pub count_parted : (n : ℕ) (page : List ℕ) (pages : List (List ℕ)) → n < length pages → length (parted n (set pages n page)) ≡ length pages + cond (leb (length page) 64) 0 1
count_parted n page [] lt = absurd (omega arith)
count_parted zero page (old ∷ pages) lt = parted_count (leb (length page) 64) page pages
count_parted (suc n) page (old ∷ pages) lt = let following = count_parted n page pages (omega arith) in omega (arith, following)

-- The edits of the code.
pub parted_not : (n : ℕ) (pages : List (List ℕ)) → length (get_or pages n []) ≤ 64 → parted n pages ≡ pages
parted_not zero [] le = refl
parted_not (suc n) [] le = refl
parted_not zero (page ∷ pages) le = rw (le-leb (length page) 64 le) refl
parted_not (suc n) (page ∷ pages) le = ap (λ (ps : List (List ℕ)). page ∷ ps) (parted_not n pages le)

pub parted_is : (n : ℕ) (pages : List (List ℕ)) → n < length pages → 64 < length (get_or pages n []) → parted n pages ≡ insert (set pages n (take 33 (get_or pages n []))) (suc n) (drop 33 (get_or pages n []))
parted_is n [] lt many = absurd (omega arith)
parted_is zero (page ∷ pages) lt many = rw (lt-leb (length page) 64 many) refl
parted_is (suc n) (page ∷ pages) lt many = ap (λ (ps : List (List ℕ)). page ∷ ps) (parted_is n pages (omega arith) many)

pub joined_last : (n : ℕ) (pages : List (List ℕ)) → length pages ≤ suc n → joined n pages ≡ pages
joined_last zero [] le = refl
joined_last (suc n) [] le = refl
joined_last zero (page ∷ []) le = refl
joined_last zero (page ∷ next ∷ pages) le = absurd (omega arith)
joined_last (suc n) (page ∷ pages) le = ap (λ (ps : List (List ℕ)). page ∷ ps) (joined_last n pages (omega arith))

pub joined_not : (n : ℕ) (pages : List (List ℕ)) → suc n < length pages → 32 < length (get_or pages n []) + length (get_or pages (suc n) []) → joined n pages ≡ pages
joined_not n [] lt many = absurd (omega arith)
joined_not zero (page ∷ []) lt many = refl
joined_not zero (page ∷ next ∷ pages) lt many = rw (lt-leb (length page + length next) 32 many) refl
joined_not (suc n) (page ∷ pages) lt many = ap (λ (ps : List (List ℕ)). page ∷ ps) (joined_not n pages (omega arith) many)

pub joined_is : (n : ℕ) (pages : List (List ℕ)) → suc n < length pages → length (get_or pages n []) + length (get_or pages (suc n) []) ≤ 32
    → joined n pages ≡ set (remove pages (suc n)) n (get_or pages n [] ++ get_or pages (suc n) [])
joined_is n [] lt few = absurd (omega arith)
joined_is zero (page ∷ []) lt few = absurd (omega arith)
joined_is zero (page ∷ next ∷ pages) lt few = rw (le-leb (length page + length next) 32 few) refl
joined_is (suc n) (page ∷ pages) lt few = ap (λ (ps : List (List ℕ)). page ∷ ps) (joined_is n pages (omega arith) few)

-- a page that was read is that of the list
pub read_is : (n : ℕ) (pages : List (List ℕ)) (page : List ℕ) → n < length pages → page ≡ get_or pages n page → page ≡ get_or pages n []
read_is n pages page lt read = read ∙ get_or_default pages n page [] lt

pub set_same : (n : ℕ) (pages : List (List ℕ)) → set pages n (get_or pages n []) ≡ pages
set_same n [] = refl
set_same zero (page ∷ pages) = refl
set_same (suc n) (page ∷ pages) = ap (λ (ps : List (List ℕ)). page ∷ ps) (set_same n pages)

pub get_set : (n : ℕ) (pages : List (List ℕ)) (page : List ℕ) → n < length pages → get_or (set pages n page) n [] ≡ page
get_set n [] page lt = absurd (omega arith)
get_set zero (old ∷ pages) page lt = refl
get_set (suc n) (old ∷ pages) page lt = get_set n pages page (omega arith)

pub join_made : (n : ℕ) (pages removed : List (List ℕ)) (first page next : List ℕ) → removed ≡ remove pages (n + 1) → n + 1 < length pages → first ≡ get_or pages n first → page ≡ get_or removed n page → next ≡ get_or pages (n + 1) next
    → length first + length next ≤ 32 → set removed n (page ++ next) ≡ joined n pages
join_made n pages removed first page next gone lt at_first at_page at_next few =
    let one : n + 1 ≡ suc n = add-one n in
    let first_is = read_is n pages first (omega arith) at_first in
    let next_is : next ≡ get_or pages (suc n) [] = read_is (n + 1) pages next lt at_next ∙ ap (λ (k : ℕ). get_or pages k []) one in
    let removed_is : removed ≡ remove pages (suc n) = gone ∙ ap (λ (k : ℕ). remove pages k) one in
    let page_is : page ≡ get_or pages n [] = at_page ∙ ap (λ (ps : List (List ℕ)). get_or ps n page) removed_is ∙ get_or-remove_below pages (suc n) page n (omega arith) (omega arith) ∙ get_or_default pages n page [] (omega arith) in
    let small : length (get_or pages n []) + length (get_or pages (suc n) []) ≤ 32 = rw (← first_is, ← next_is) few in
    let whole = joined_is n pages (omega arith) small in
    cc

pub join_kept : (n : ℕ) (pages : List (List ℕ)) (first next : List ℕ) → n + 1 < length pages → first ≡ get_or pages n first → next ≡ get_or pages (n + 1) next → 32 < length first + length next → pages ≡ joined n pages
join_kept n pages first next lt at_first at_next many =
    let first_is = read_is n pages first (omega arith) at_first in
    let next_is : next ≡ get_or pages (suc n) [] = read_is (n + 1) pages next lt at_next ∙ ap (λ (k : ℕ). get_or pages k []) (add-one n) in
    sym (joined_not n pages (omega arith) (rw (← first_is, ← next_is) many))

pub part_made : (n : ℕ) (pages after : List (List ℕ)) (page kept following : List ℕ) → n < length pages → page ≡ get_or pages n page → 64 < length page → kept ≡ take 33 page → following ≡ drop 33 page → after ≡ insert (set pages n kept) (n + 1) following → after ≡ parted n pages
part_made n pages after page kept following lt read many kept_is behind_is after_is =
    let page_is = read_is n pages page lt read in
    let whole = parted_is n pages lt (rw (← page_is) many) in
    let one : n + 1 ≡ suc n = add-one n in
    cc
