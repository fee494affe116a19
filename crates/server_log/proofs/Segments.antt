-- The segments of a log with one event more, and where each begins.
use Rattle.std.proofs.Common.{◌≡◌, ℕ, ◌+◌, ◌-◌, ◌<◌, ◌≤◌, Bool, true, false, cond, nat_le, List, [], ◌∷◌, ◌++◌, length, map, get_or, slice_get, Option, Some, MatchOption, slice_range, subst, refl, sym, ap, ◌∙◌, arith, add-one, length-append, append_assoc, ◌⊎◌, ⊎_elim}
use Rattle.std.specs.List.{concat, fold}
use Rattle.std.proofs.lemmas.Bool.{cases_lt}
use Rattle.std.proofs.lemmas.List.{append-nil, map-append}
use Rattle.std.proofs.lemmas.List.Sums.{fold-append}
use Rattle.base_values.specs.declared.event.RowEvent.{RowEvent}
use Rattle.server_log.specs.Encodings.{encoded}
use Rattle.server_log.specs.Logs.{IsCut, all_bytes, places_from, segment_limit, segments_of, with_bytes, with_bytes_after}
use Rattle.server_log.proofs.Pieces.{concat-push, length-places_from, next-place, last-place, place-within, piece_at}

-- the bytes of all segments, with those of one event more
joined_after : (first : List ℕ) (others : List (List ℕ)) (bytes : List ℕ) → concat (with_bytes_after first others bytes) ≡ (first ++ concat others) ++ bytes
unfolding with_bytes_after
joined_after last [] bytes = go (nat_le (length last + length bytes) segment_limit)
  where
    go : (fits : Bool) → concat (cond fits ((last ++ bytes) ∷ []) (last ∷ bytes ∷ [])) ≡ (last ++ []) ++ bytes
    go true = append-nil (last ++ bytes) ∙ ap (λ (front : List ℕ). front ++ bytes) (sym (append-nil last))
    go false = ap (λ (rest : List ℕ). last ++ rest) (append-nil bytes) ∙ ap (λ (front : List ℕ). front ++ bytes) (sym (append-nil last))
joined_after first (next ∷ others) bytes =
    ap (λ (rest : List ℕ). first ++ rest) (joined_after next others bytes) ∙ sym (append_assoc first (next ++ concat others) bytes)

joined : (segments : List (List ℕ)) (bytes : List ℕ) → concat (with_bytes segments bytes) ≡ concat segments ++ bytes
joined [] bytes = append-nil bytes
joined (first ∷ others) bytes = joined_after first others bytes

-- where the last segment begins
abbrev last_from : ℕ → List ℕ → List (List ℕ) → ℕ
last_from place first [] = place
last_from place first (next ∷ others) = last_from (place + length first) next others

last_found : (place : ℕ) (first : List ℕ) (others : List (List ℕ)) → slice_get (places_from place (first ∷ others)) (length others) ≡ Some (last_from place first others)
unfolding places_from
last_found place first [] = refl
last_found place first (next ∷ others) = last_found (place + length first) next others

-- whether the last segment takes the bytes of an event
abbrev takes_at : ℕ → ℕ → ℕ → Bool
takes_at start end size = nat_le (end - start + size) segment_limit

-- one segment takes the bytes or doesn't
one_placed : (place end : ℕ) (last bytes : List ℕ) (fits : Bool) → end ≡ place + length last → places_from place (cond fits ((last ++ bytes) ∷ []) (last ∷ bytes ∷ [])) ≡ cond fits (place ∷ []) (place ∷ end ∷ [])
unfolding places_from
one_placed place end last bytes true ends = refl
one_placed place end last bytes false ends = ap (λ (n : ℕ). place ∷ n ∷ []) (sym ends)

-- a place before others that there are either way
one_before : (place end : ℕ) (places : List ℕ) (fits : Bool) → place ∷ cond fits places (places ++ end ∷ []) ≡ cond fits (place ∷ places) (place ∷ (places ++ end ∷ []))
one_before place end places true = refl
one_before place end places false = refl

placed_after : (place : ℕ) (first : List ℕ) (others : List (List ℕ)) (bytes : List ℕ) (end : ℕ) → end ≡ place + length (first ++ concat others)
    → places_from place (with_bytes_after first others bytes) ≡ cond (takes_at (last_from place first others) end (length bytes)) (places_from place (first ∷ others)) (places_from place (first ∷ others) ++ end ∷ [])
unfolding places_from with_bytes_after
placed_after place last [] bytes end is =
    let ends : end ≡ place + length last = is ∙ ap (λ (all : List ℕ). place + length all) (append-nil last) in
    let room : end - place + length bytes ≡ length last + length bytes = omega (arith, ends) in
    one_placed place end last bytes (nat_le (length last + length bytes) segment_limit) ends ∙ ap (λ (n : ℕ). cond (nat_le n segment_limit) (place ∷ []) (place ∷ end ∷ [])) (sym room)
placed_after place first (next ∷ others) bytes end is =
    let ends : end ≡ (place + length first) + length (next ++ concat others) = omega (arith, is, length-append first (next ++ concat others)) in
    ap (λ (rest : List ℕ). place ∷ rest) (placed_after (place + length first) next others bytes end ends)
    ∙ one_before place end (places_from (place + length first) (next ∷ others)) (takes_at (last_from (place + length first) next others) end (length bytes))

-- what is found of the last segment says whether it takes the bytes
abbrev pub Taken : Bool → Option ℕ → ℕ → ℕ → Type 0
Taken taken found end size = MatchOption found (taken ≡ false) (λ start. taken ≡ nat_le (end - start + size) segment_limit)

found_is : (starts : List ℕ) (first : List ℕ) (others : List (List ℕ)) → starts ≡ places_from 0 (first ∷ others) → slice_get starts (length starts - 1) ≡ Some (last_from 0 first others)
found_is starts first others are =
    let many : length starts - 1 ≡ length others = omega (arith, ap length are, length-places_from 0 (first ∷ others)) in
    ap (λ (n : ℕ). slice_get starts n) many ∙ ap (λ (places : List ℕ). slice_get places (length others)) are ∙ last_found 0 first others

placed : (segments : List (List ℕ)) (bytes : List ℕ) (starts : List ℕ) (end : ℕ) (taken : Bool) → starts ≡ places_from 0 segments → end ≡ length (concat segments) → Taken taken (slice_get starts (length starts - 1)) end (length bytes)
    → places_from 0 (with_bytes segments bytes) ≡ cond taken starts (starts ++ end ∷ [])
unfolding places_from
placed [] bytes starts end taken are is found =
    let none : taken ≡ false = subst (λ (places : List ℕ). Taken taken (slice_get places (length places - 1)) end (length bytes)) are found in
    ap (λ (n : ℕ). n ∷ []) (sym is) ∙ ap (λ (places : List ℕ). places ++ end ∷ []) (sym are) ∙ ap (λ (b : Bool). cond b starts (starts ++ end ∷ [])) (sym none)
placed (first ∷ others) bytes starts end taken are is found =
    let some : taken ≡ takes_at (last_from 0 first others) end (length bytes) = subst (λ (one : Option ℕ). Taken taken one end (length bytes)) (found_is starts first others are) found in
    placed_after 0 first others bytes end (omega (arith, is))
    ∙ ap (λ (b : Bool). cond b (places_from 0 (first ∷ others)) (places_from 0 (first ∷ others) ++ end ∷ [])) (sym some)
    ∙ ap (λ (places : List ℕ). cond taken places (places ++ end ∷ [])) (sym are)

-- the bytes of events with one more
pub all_bytes-push : (events : List RowEvent) (event : RowEvent) → all_bytes (events ++ event ∷ []) ≡ all_bytes events ++ encoded event
all_bytes-push events event = ap concat (map-append encoded events (event ∷ [])) ∙ concat-push (map encoded events) (encoded event)

-- *One event more*
pub cut_more : (events : List RowEvent) (event : RowEvent) (starts now : List ℕ) (end size : ℕ) (taken : Bool) → IsCut events starts → end ≡ length (all_bytes events) → size ≡ length (encoded event) → Taken taken (slice_get starts (length starts - 1)) end size
    → now ≡ cond taken starts (starts ++ end ∷ []) → IsCut (events ++ event ∷ []) now
cut_more events event starts now end size taken cut ends sizes found now_is =
    let more : segments_of (events ++ event ∷ []) ≡ with_bytes (segments_of events) (encoded event) = ap (λ (pieces : List (List ℕ)). fold with_bytes [] pieces) (map-append encoded events (event ∷ [])) ∙ fold-append with_bytes [] (map encoded events) (encoded event ∷ []) in
    record {
      joined = ap concat more ∙ joined (segments_of events) (encoded event) ∙ ap (λ (bytes : List ℕ). bytes ++ encoded event) cut.joined ∙ sym (all_bytes-push events event);
      starts_are =
          now_is
          ∙ sym (placed (segments_of events) (encoded event) starts end taken cut.starts_are (ends ∙ ap length (sym cut.joined)) (subst (λ (n : ℕ). Taken taken (slice_get starts (length starts - 1)) end n) sizes found))
          ∙ ap (λ (segments : List (List ℕ)). places_from 0 segments) (sym more);
    }

-- a log without events
pub cut_none : (starts : List ℕ) → starts ≡ [] → IsCut [] starts
unfolding places_from
cut_none starts none = record { joined = refl; starts_are = none }

-- as many places as segments
pub as_many_segments : (events : List RowEvent) (starts : List ℕ) → IsCut events starts → length starts ≡ length (segments_of events)
as_many_segments events starts cut = ap length cut.starts_are ∙ length-places_from 0 (segments_of events)

-- where a segment ends
segment_end : (events : List RowEvent) (starts bytes : List ℕ) (n end : ℕ) → IsCut events starts → bytes ≡ all_bytes events → n < length starts
    → (n + 1 < length starts → end ≡ get_or starts (n + 1) 0) → (length starts ≤ n + 1 → end ≡ length bytes) → end ≡ get_or (places_from 0 (segments_of events)) n 0 + length (get_or (segments_of events) n [])
segment_end events starts bytes n end cut bytes_are within next last =
    let many : length starts ≡ length (segments_of events) = as_many_segments events starts cut in
    ⊎_elim
    (λ (more : n + 1 < length starts). next more ∙ ap (λ (places : List ℕ). get_or places (n + 1) 0) cut.starts_are ∙ ap (λ (m : ℕ). get_or (places_from 0 (segments_of events)) m 0) (add-one n) ∙ next-place 0 (segments_of events) n (omega (arith, more, many)))
    (λ (done : length starts ≤ n + 1). omega (arith, last done, ap length (bytes_are ∙ sym cut.joined), last-place 0 (segments_of events) n (omega (arith, done, many, within))))
    (cases_lt (n + 1) (length starts))

-- *The segment* is what is from its place up to the next one's, or up to the end
pub segment_is : (events : List RowEvent) (starts bytes : List ℕ) (n start end : ℕ) → IsCut events starts → bytes ≡ all_bytes events → n < length starts → start ≡ get_or starts n 0
    → (n + 1 < length starts → end ≡ get_or starts (n + 1) 0) → (length starts ≤ n + 1 → end ≡ length bytes) → slice_range bytes start end ≡ get_or (segments_of events) n []
segment_is events starts bytes n start end cut bytes_are within start_is next last =
    let many : length starts ≡ length (segments_of events) = as_many_segments events starts cut in
    let ends : end ≡ get_or (places_from 0 (segments_of events)) n 0 + length (get_or (segments_of events) n []) = segment_end events starts bytes n end cut bytes_are within next last in
    ap (λ (all : List ℕ). slice_range all start end) (bytes_are ∙ sym cut.joined)
    ∙ ap (λ (place : ℕ). slice_range (concat (segments_of events)) place end) (start_is ∙ ap (λ (places : List ℕ). get_or places n 0) cut.starts_are)
    ∙ piece_at (segments_of events) n end (omega (arith, within, many)) ends

-- ... which are within all bytes
pub segment_bounds : (events : List RowEvent) (starts bytes : List ℕ) (n start end : ℕ) → IsCut events starts → bytes ≡ all_bytes events → n < length starts → start ≡ get_or starts n 0
    → (n + 1 < length starts → end ≡ get_or starts (n + 1) 0) → (length starts ≤ n + 1 → end ≡ length bytes) → (start ≤ end) × (end ≤ length bytes)
segment_bounds events starts bytes n start end cut bytes_are within start_is next last =
    let many : length starts ≡ length (segments_of events) = as_many_segments events starts cut in
    let ends : end ≡ get_or (places_from 0 (segments_of events)) n 0 + length (get_or (segments_of events) n []) = segment_end events starts bytes n end cut bytes_are within next last in
    let begins : start ≡ get_or (places_from 0 (segments_of events)) n 0 = start_is ∙ ap (λ (places : List ℕ). get_or places n 0) cut.starts_are in
    let whole : length bytes ≡ length (concat (segments_of events)) = ap length (bytes_are ∙ sym cut.joined) in
    let within_all = place-within 0 (segments_of events) n (omega (arith, within, many)) in
    (omega (arith, ends, begins), omega (arith, ends, whole, within_all))

pub ruleset steps = (cut_more, cut_none, as_many_segments)
