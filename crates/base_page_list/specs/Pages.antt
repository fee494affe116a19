-- A list of entries, kept in pages.
use Rattle.std.specs.Prelude.{◌≡◌, ◌<◌, ◌≤◌, ◌+◌, ◌-◌, ◌*◌, ◌/◌, ℕ, zero, suc, Bool, false, List, [], ◌∷◌, ◌++◌, length, take, drop, get_or, cond, leb, Some}
use Rattle.std.specs.List.{concat, AllByRecursion, prefix_len, slice_get}

-- the entries, one page after the other
abbrev pub flat : List (List ℕ) → List ℕ
flat pages = concat pages

-- the page and the next have together more than 32 entries
abbrev pub Dense : List ℕ → List (List ℕ) → Type 0
Dense page [] = Unit {0}
Dense page (next ∷ pages) = 32 < length page + length next

-- Each page has 1 to 64 entries, and two neighbours have together more than 32.
abbrev pub ArePages : List (List ℕ) → Type 0
ArePages [] = Unit {0}
ArePages (page ∷ pages) = (0 < length page) × (length page ≤ 64) × Dense page pages × ArePages pages

-- the pages, where this page and the next are one if they have together at most 32 entries
abbrev pub joined : ℕ → List (List ℕ) → List (List ℕ)
joined zero [] = []
joined (suc n) [] = []
joined zero (page ∷ []) = page ∷ []
joined zero (page ∷ next ∷ pages) = cond (leb (length page + length next) 32) ((page ++ next) ∷ pages) (page ∷ next ∷ pages)
joined (suc n) (page ∷ pages) = page ∷ joined n pages

-- the pages, where this one is two if it has more than 64 entries
abbrev pub parted : ℕ → List (List ℕ) → List (List ℕ)
parted zero [] = []
parted (suc n) [] = []
parted zero (page ∷ pages) = cond (leb (length page) 64) (page ∷ pages) (take 33 page ∷ drop 33 page ∷ pages)
parted (suc n) (page ∷ pages) = page ∷ parted n pages

-- where an entry of a page is in the one list
abbrev pub place_in : List (List ℕ) → ℕ → ℕ → ℕ
place_in pages page at = length (flat (take page pages)) + at

-- the entries from one place of the list to another
abbrev pub between : {X : Type 0} → ℕ → ℕ → List X → List X
between from to entries = take (to - from) (drop from entries)

-- an entry may be put into this page at this place
pub record IsGap (pages : List (List ℕ)) (page at : ℕ) : Type 0 where
  pub page_is : 0 < length pages → page < length pages
  pub within : at ≤ length (get_or pages page [])

-- A put into this page makes a page where there is none, or where it has 64 entries.
abbrev pub pages_made : {X : Type 0} → List (List X) → ℕ → ℕ
pages_made [] page = 1
pages_made (first ∷ pages) page = cond (leb 64 (length (get_or (first ∷ pages) page []))) 1 0

-- what contracts see of entries in pages
pub record InPages : Type 0 where
  pub pages : List (List ℕ)
  pub spare : ℕ

-- For how many more entries there is room, where memory for this many pages is had. Two neighbouring pages have at least 33
-- entries, so these are never too few.
abbrev pub room_of : ℕ → ℕ → ℕ
room_of pages entries = 33 * pages / 2 - entries

-- The pages have their sizes, and memory for this many pages has room for the entries however they come to lie.
pub record IsPagedList (pages : List (List ℕ)) (capacity : ℕ) : Type 0 where
  pub are : ArePages pages
  pub fits : length (flat pages) ≤ 33 * capacity / 2

-- the test fails from the first entry on for which it fails
abbrev pub FailsOn : {X : Type 0} → (X → Bool) → List X → Type 0
FailsOn test [] = Unit {0}
FailsOn test (entry ∷ entries) = (test entry ≡ false → AllByRecursion (λ other. test other ≡ false) entries) × FailsOn test entries

-- the page's first entry passes the test
abbrev pub first_passes : {X : Type 0} → (X → Bool) → List X → Bool
first_passes test [] = false
first_passes test (entry ∷ entries) = test entry

-- The last page whose first entry passes the test, or the first page where there is none: there the entries that pass
-- end.
abbrev pub last_page : {X : Type 0} → (X → Bool) → List (List X) → ℕ
last_page test pages = prefix_len (first_passes test) pages - 1

-- the entry is at this place of the one list, in this page
pub record StandsAt (pages : List (List ℕ)) (place page at entry : ℕ) : Type 0 where
  pub page_is : page < length pages
  pub within : at < length (get_or pages page [])
  pub place_is : place_in pages page at ≡ place
  pub entry_is : slice_get (flat pages) place ≡ Some entry
