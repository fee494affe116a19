-- The last row of pages is that of the last page.
use Rattle.std.proofs.Common.{◌≡◌, ℕ, zero, suc, ◌-◌, ◌<◌, List, [], ◌∷◌, ◌++◌, length, get_or, map, refl, sym, ap, ◌∙◌, arith, length-append, append-nil, Some}
use Rattle.std.specs.List.{slice_get, flat_map}
use Rattle.base_values.specs.GhoSchema.Rows.{key_of}
use Rattle.table_store.proofs.Orders.{Row}
use Rattle.table_store.specs.PagedTables.RowPages.StoredRows.{ArePagesOfRows}
use Rattle.server_model.specs.declared.answer.Answer.TheVariants as answers
use Rattle.server_model.specs.declared.answer.KeyRange.{KeyRange}
use Rattle.server_model.specs.Chunks.{keys_of, last_of, ends_of}
use Rattle.server_api.proofs.PagedAnswers.Lists.{last_found}

-- behind others the last one stays
after_one : (first : Row) (rows : List Row) → 0 < length rows → slice_get (first ∷ rows) (length (first ∷ rows) - 1) ≡ slice_get rows (length rows - 1)
after_one first [] some = absurd (omega arith)
after_one first (row ∷ rows) some =
    let n : length (first ∷ (row ∷ rows)) - 1 ≡ suc (length (row ∷ rows) - 1) = omega arith in
    ap (slice_get (first ∷ (row ∷ rows))) n

after_all : (others rows : List Row) → 0 < length rows → slice_get (others ++ rows) (length (others ++ rows) - 1) ≡ slice_get rows (length rows - 1)
after_all [] rows some = refl
after_all (first ∷ others) rows some =
    let more : 0 < length (others ++ rows) = omega (arith, length-append others rows, some) in
    after_one first (others ++ rows) more ∙ after_all others rows some

some_flat : (page : List Row) (pages : List (List Row)) → 0 < length page → 0 < length (flat_map (λ (p : List Row). p) (page ∷ pages))
some_flat page pages some = omega (arith, length-append page (flat_map (λ (p : List Row). p) pages), some)

last_page : (n : ℕ) (pages : List (List Row)) → ArePagesOfRows pages → length pages ≡ suc n
    → slice_get (get_or pages n []) (length (get_or pages n []) - 1) ≡ slice_get (flat_map (λ (p : List Row). p) pages) (length (flat_map (λ (p : List Row). p) pages) - 1)
last_page n [] are many = absurd (cc)
last_page zero (page ∷ []) are many = ap (λ (rows : List Row). slice_get rows (length rows - 1)) (sym (append-nil page))
last_page zero (page ∷ (next ∷ pages)) are many = absurd (omega (arith, many))
last_page (suc n) (page ∷ []) are many = absurd (omega (arith, many))
last_page (suc n) (page ∷ (next ∷ pages)) are many =
    let fewer : length (next ∷ pages) ≡ suc n = omega (arith, many) in
    last_page n (next ∷ pages) are.3 fewer ∙ sym (after_all page (flat_map (λ (p : List Row). p) (next ∷ pages)) (some_flat next pages are.3.0))

pub greatest : (n : ℕ) (pages : List (List Row)) (rows : List Row) → ArePagesOfRows pages → flat_map (λ (p : List Row). p) pages ≡ rows → length pages ≡ suc n
    → slice_get (get_or pages n []) (length (get_or pages n []) - 1) ≡ slice_get rows (length rows - 1)
greatest n pages rows are flat many = last_page n pages are many ∙ ap (λ (rs : List Row). slice_get rs (length rs - 1)) flat

-- the greatest key is the last one behind the least
pub greatest_key : {Y : Type 0} (f : Row → Y) (step : Y → List Y → Y) → ((y : Y) → step y [] ≡ y) → ((y next : Y) (more : List Y) → step y (next ∷ more) ≡ step next more) → (least last : Row) (others all : List Row) → all ≡ least ∷ others → Some last ≡ slice_get all (length all - 1)
    → step (f least) (map f others) ≡ f last
greatest_key f step none more least last others all is at =
    sym (more (f least) (f least) (map f others)) ∙ last_found step none more f (f least) (least ∷ others) last (at ∙ ap (λ (rs : List Row). slice_get rs (length rs - 1)) is)

-- the ends of rows by the first and the last of them
pub ends_are : (places : List ℕ) (rows others : List Row) (first last low high : Row) → rows ≡ first ∷ others → Some last ≡ slice_get rows (length rows - 1) → low ≡ key_of places first → high ≡ key_of places last
    → let range : KeyRange = record { least = low; greatest = high } in answers.Ends (Some range) ≡ ends_of (keys_of places rows)
ends_are places rows others first last low high is at low_is high_is =
    let top : last_of (key_of places first) (map (key_of places) others) ≡ key_of places last = greatest_key (key_of places) last_of (λ y. refl) (λ y next more. refl) first last others rows is at in
    ap (λ (k : Row). let range : KeyRange = record { least = k; greatest = high } in answers.Ends (Some range)) low_is
    ∙ ap (λ (k : Row). let range : KeyRange = record { least = key_of places first; greatest = k } in answers.Ends (Some range)) (high_is ∙ sym top)
    ∙ ap (λ (rs : List Row). ends_of (keys_of places rs)) (sym is)
