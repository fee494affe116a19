-- What the edits of pages leave.
use Rattle.std.proofs.Common.{◌≡◌, ◌∙◌, ℕ, zero, suc, ◌+◌, ◌*◌, ◌-◌, ◌/◌, ◌<◌, ◌≤◌, Bool, true, false, cond, List, [], ◌∷◌, ◌++◌, length, take, set, get_or, insert, remove, leb, refl, ap, arith, length-append}
use Rattle.std.proofs.lemmas.Bool.{le-leb, lt-leb, leb-true, leb-false}
use Rattle.std.proofs.lemmas.List.{length-set, nil_from_length, get_or_append_left, get_or-append-add}
use Rattle.std.proofs.lemmas.List.Edits.{length-insert, length-remove}
use Rattle.base_page_list.specs.Pages.{flat, ArePages, joined, parted, place_in, pages_made, room_of}
use Rattle.base_page_list.proofs.PageLists.{room, flat-inserted, flat-removed, flat-parted, flat-joined, flat-dropped, grown, shrunk_first, shrunk_after, dropped, count_parted, get_set}

abbrev pub Pages : Type 0
Pages = List (List ℕ)

-- the sizes of a page
pub some_at : (n : ℕ) (pages : Pages) → ArePages pages → n < length pages → 0 < length (get_or pages n [])
some_at n [] are lt = absurd (omega arith)
some_at zero (page ∷ pages) are lt = are.0
some_at (suc n) (page ∷ pages) are lt = some_at n pages are.3 (omega arith)

pub fits_at : (n : ℕ) (pages : Pages) → ArePages pages → n < length pages → length (get_or pages n []) ≤ 64
fits_at n [] are lt = absurd (omega arith)
fits_at zero (page ∷ pages) are lt = are.1
fits_at (suc n) (page ∷ pages) are lt = fits_at n pages are.3 (omega arith)

-- an entry of a page is one of the list
pub get_flat : (n at d : ℕ) (pages : Pages) → n < length pages → at < length (get_or pages n []) → get_or (flat pages) (place_in pages n at) d ≡ get_or (get_or pages n []) at d
get_flat n at d [] lt within = absurd (omega arith)
get_flat zero at d (page ∷ pages) lt within =
    let place : 0 + at ≡ at = omega arith in
    ap (λ (k : ℕ). get_or (page ++ flat pages) k d) place ∙ get_or_append_left page (flat pages) d at within
get_flat (suc n) at d (page ∷ pages) lt within =
    let before : length (flat (take (suc n) (page ∷ pages))) ≡ length page + length (flat (take n pages)) = length-append page (flat (take n pages)) in
    let place : place_in (page ∷ pages) (suc n) at ≡ length page + place_in pages n at = omega (arith, before) in
    ap (λ (k : ℕ). get_or (page ++ flat pages) k d) place ∙ get_or-append-add page (flat pages) (place_in pages n at) d ∙ get_flat n at d pages (omega arith) within

pub place_within : (n at : ℕ) (pages : Pages) → n < length pages → at ≤ length (get_or pages n []) → place_in pages n at ≤ length (flat pages)
place_within n at [] lt le = absurd (omega arith)
place_within zero at (page ∷ pages) lt le = let whole : length (flat (page ∷ pages)) ≡ length page + length (flat pages) = length-append page (flat pages) in omega (arith, whole, le)
place_within (suc n) at (page ∷ pages) lt le =
    let before : length (flat (take (suc n) (page ∷ pages))) ≡ length page + length (flat (take n pages)) = length-append page (flat (take n pages)) in
    let whole : length (flat (page ∷ pages)) ≡ length page + length (flat pages) = length-append page (flat pages) in
    let following = place_within n at pages (omega arith) le in
    omega (arith, whole, before, following)

-- A put.
abbrev pub with_entry : Pages → ℕ → ℕ → ℕ → Pages
with_entry pages n at entry = set pages n (insert (get_or pages n []) at entry)

pub put_are : (n at entry : ℕ) (pages : Pages) → ArePages pages → n < length pages → at ≤ length (get_or pages n []) → ArePages (parted n (with_entry pages n at entry))
put_are n at entry pages are lt le = grown n (insert (get_or pages n []) at entry) pages lt (length-insert (get_or pages n []) at entry le) are

pub put_flat : (n at entry : ℕ) (pages : Pages) → n < length pages → at ≤ length (get_or pages n []) → flat (parted n (with_entry pages n at entry)) ≡ insert (flat pages) (place_in pages n at) entry
put_flat n at entry pages lt le = flat-parted n (with_entry pages n at entry) ∙ flat-inserted n at entry pages lt le

made : (size more : ℕ) (b : Bool) → leb 64 size ≡ b → more ≡ size + 1 → ◌≡◌ {A = ℕ} (cond (leb more 64) 0 1) (cond b 1 0)
made size more true is plus = let many = leb-true 64 size is in rw (lt-leb more 64 (omega (arith, many, plus))) refl
made size more false is plus = let few = leb-false 64 size is in rw (le-leb more 64 (omega (arith, few, plus))) refl

pub put_count : (n at entry : ℕ) (pages : Pages) → n < length pages → at ≤ length (get_or pages n []) → length (parted n (with_entry pages n at entry)) ≡ length pages + pages_made pages n
put_count n at entry [] lt le = absurd (omega arith)
put_count n at entry (first ∷ pages) lt le =
    let old = get_or (first ∷ pages) n [] in
    let count = count_parted n (insert old at entry) (first ∷ pages) lt in
    let more = made (length old) (length (insert old at entry)) (leb 64 (length old)) refl (length-insert old at entry le) in
    count ∙ ap (λ (k : ℕ). length (first ∷ pages) + k) more

-- where a page is full, so many pages and one more are within the room of one entry more
pub room_more : (n : ℕ) (pages : Pages) → ArePages pages → n < length pages → 63 < length (get_or pages n []) → 33 * (length pages + 1) ≤ 2 * (length (flat pages) + 1) + 32
room_more n pages are lt many =
    let old = get_or pages n [] in
    let bound = room (parted n (with_entry pages n 0 0)) (put_are n 0 0 pages are lt (omega arith)) in
    let count : length (parted n (with_entry pages n 0 0)) ≡ length pages + 1 =
    count_parted n (insert old 0 0) pages lt ∙ ap (λ (b : Bool). length pages + cond b 0 1) (lt-leb (length (insert old 0 0)) 64 (omega (arith, many)))
    in
    let size : length (flat (parted n (with_entry pages n 0 0))) ≡ length (flat pages) + 1 =
    ap (λ (xs : List ℕ). length xs) (put_flat n 0 0 pages lt (omega arith)) ∙ length-insert (flat pages) (place_in pages n 0) 0 (place_within n 0 pages lt (omega arith))
    in
    rw (count, size) at bound

-- A removal.
remove_set : (n : ℕ) (pages : Pages) (page : List ℕ) → remove (set pages n page) n ≡ remove pages n
remove_set n [] page = refl
remove_set zero (old ∷ pages) page = refl
remove_set (suc n) (old ∷ pages) page = ap (λ (ps : Pages). old ∷ ps) (remove_set n pages page)

abbrev pub without_entry : Pages → ℕ → ℕ → Pages
without_entry pages n at = set pages n (remove (get_or pages n []) at)

pub taken_are_empty : (n at : ℕ) (pages : Pages) → ArePages pages → n < length pages → at < length (get_or pages n []) → length (remove (get_or pages n []) at) ≡ 0 → ArePages (remove (without_entry pages n at) n)
taken_are_empty n at pages are lt within none =
    let size = length-remove (get_or pages n []) at within in
    let same = remove_set n pages (remove (get_or pages n []) at) in
    rw same (dropped n pages lt (omega (arith, size, none)) are)

pub taken_flat_empty : (n at : ℕ) (pages : Pages) → n < length pages → at < length (get_or pages n []) → length (remove (get_or pages n []) at) ≡ 0 → flat (remove (without_entry pages n at) n) ≡ remove (flat pages) (place_in pages n at)
taken_flat_empty n at pages lt within none =
    let rest = remove (get_or pages n []) at in
    let empty : get_or (without_entry pages n at) n [] ≡ [] = get_set n pages rest lt ∙ nil_from_length rest none in
    let long : n < length (without_entry pages n at) = rw (length-set pages n rest) lt in
    flat-dropped n (without_entry pages n at) long empty ∙ flat-removed n at pages lt within

pub taken_are_first : (at : ℕ) (pages : Pages) → ArePages pages → 0 < length pages → at < length (get_or pages 0 []) → 0 < length (remove (get_or pages 0 []) at) → ArePages (joined 0 (without_entry pages 0 at))
taken_are_first at [] are lt within some = absurd (omega arith)
taken_are_first at (page ∷ pages) are lt within some = shrunk_first page (remove page at) pages (length-remove page at within) some are

pub taken_are_after : (n at : ℕ) (pages : Pages) → ArePages pages → 0 < n → n < length pages → at < length (get_or pages n []) → 0 < length (remove (get_or pages n []) at) → ArePages (joined (n - 1) (joined n (without_entry pages n at)))
taken_are_after zero at pages are pos lt within some = absurd (omega arith)
taken_are_after (suc n) at pages are pos lt within some =
    let less : suc n - 1 ≡ n = omega arith in
    rw less (shrunk_after n (remove (get_or pages (suc n) []) at) pages lt (length-remove (get_or pages (suc n) []) at within) some are)

pub taken_flat : (n at : ℕ) (pages : Pages) → n < length pages → at < length (get_or pages n []) → flat (joined n (without_entry pages n at)) ≡ remove (flat pages) (place_in pages n at)
taken_flat n at pages lt within = flat-joined n (without_entry pages n at) ∙ flat-removed n at pages lt within

joined_long : (b : Bool) (page next : List ℕ) (pages : Pages) → suc (length pages) ≤ length (cond b ((page ++ next) ∷ pages) (page ∷ next ∷ pages))
joined_long true page next pages = omega arith
joined_long false page next pages = omega arith

pub joined_keeps : (n : ℕ) (pages : Pages) → n < length pages → n < length (joined n pages)
joined_keeps n [] lt = absurd (omega arith)
joined_keeps zero (page ∷ []) lt = omega arith
joined_keeps zero (page ∷ next ∷ pages) lt = let long = joined_long (leb (length page + length next) 32) page next pages in omega (arith, long)
joined_keeps (suc n) (page ∷ pages) lt = let following = joined_keeps n pages (omega arith) in omega (arith, following)

pub first_left : (n at : ℕ) (pages : Pages) → n ≡ 0 → ArePages pages → n < length pages → at < length (get_or pages n []) → 0 < length (remove (get_or pages n []) at) → ArePages (joined n (without_entry pages n at))
first_left zero at pages is are lt within some = taken_are_first at pages are lt within some
first_left (suc n) at pages is are lt within some = absurd (omega arith)

-- Room.
half : (n : ℕ) → 2 * (n / 2) ≤ n
half n = omega arith

pub room_needed : (n capacity : ℕ) (pages : Pages) → ArePages pages → n < length pages → 0 < room_of capacity (length (flat pages)) → 63 < length (get_or pages n []) → length pages < capacity
room_needed n capacity pages are lt some many =
    let more = room_more n pages are lt many in
    let halves = half (33 * capacity) in
    omega (arith, more, halves, some)

pub room_left : (n at capacity old new : ℕ) (pages after : Pages) → n < length pages → at < length (get_or pages n []) → length (flat pages) ≤ 33 * capacity / 2 → flat after ≡ remove (flat pages) (place_in pages n at) → new ≡ room_of capacity (length (flat after)) → old ≡ room_of capacity (length (flat pages)) → new ≡ old + 1
room_left n at capacity old new pages after lt within fits is new_is old_is =
    let below = place_within n (at + 1) pages lt (omega (arith, within)) in
    let inside : place_in pages n at < length (flat pages) = omega (arith, below) in
    let size = length-remove (flat pages) (place_in pages n at) inside in
    let same : length (flat after) ≡ length (remove (flat pages) (place_in pages n at)) = ap (λ (xs : List ℕ). length xs) is in
    omega (arith, size, same, fits, new_is, old_is)
