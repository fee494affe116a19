-- The place of the last `#journal` line, line by line.
use Rattle.std.proofs.Common.{◌≡◌, ℕ, zero, suc, ◌||◌, ◌+◌, ◌<◌, arith, append-nil, add-one, drop, Bool, true, false, List, [], ◌∷◌, ◌++◌, length, map, take, get_or, Option, Some, None, Bor, IfSome, refl, ap, subst, ◌∙◌, sym}
use Rattle.std.proofs.lemmas.List.{length-map, length-take-le, map_push, take_more}
use Rattle.std.specs.List.{flat_map, join_with_byte, list_any}
use Rattle.top_trace_reader.specs.Lines.{is_journal, journal_place, opens, parts_around, parts_of, place_from, place_with}

from_more : (here there : Bool) (place : ℕ) (last : Option ℕ) → place_from here (place_with place there last) ≡ place_with (suc place) there (place_from here last)
from_more here true place last = ap (λ (n : ℕ). Some n) (add-one place)
from_more here false place last = refl

first_place : (here : Bool) → place_from here None ≡ place_with 0 here None
first_place true = refl
first_place false = refl

place_one_more : (lines : List (List ℕ)) (line : List ℕ) → journal_place (lines ++ (line ∷ [])) ≡ place_with (length lines) (is_journal line) (journal_place lines)
unfolding journal_place
place_one_more [] line = first_place (is_journal line)
place_one_more (first ∷ lines) line = ap (place_from (is_journal first)) (place_one_more lines line) ∙ from_more (is_journal first) (is_journal line) (length lines) (journal_place lines)

abbrev pub texts : List (Bor (List ℕ)) → List (List ℕ)
texts lines = map (λ (line : Bor (List ℕ)). line.now) lines

texts_more : (lines : List (Bor (List ℕ))) (i : ℕ) (default : Bor (List ℕ)) → i < length lines → texts (take (i + 1) lines) ≡ texts (take i lines) ++ ((get_or lines i default).now ∷ [])
texts_more lines i default lt = ap texts (take_more lines i default lt) ∙ map_push (λ (line : Bor (List ℕ)). line.now) (take i lines) (get_or lines i default)

length_texts : (lines : List (Bor (List ℕ))) (i : ℕ) → i < length lines → length (texts (take i lines)) ≡ i
length_texts lines i lt = length-map (take i lines) (λ (line : Bor (List ℕ)). line.now) ∙ length-take-le i lines (omega arith)

-- the place so far, with a line more
pub placed : (lines : List (Bor (List ℕ))) (i : ℕ) (default : Bor (List ℕ)) (last : Option ℕ) → i < length lines → last ≡ journal_place (texts (take i lines))
    → place_with i (is_journal (get_or lines i default).now) last ≡ journal_place (texts (take (i + 1) lines))
placed lines i default last lt so =
    let here = is_journal (get_or lines i default).now in
    let before = texts (take i lines) in
    ap (place_with i here) so
    ∙ ap (λ (n : ℕ). place_with n here (journal_place before)) (sym (length_texts lines i lt))
    ∙ sym (place_one_more before (get_or lines i default).now)
    ∙ ap journal_place (sym (texts_more lines i default lt))

-- and it is one of the lines
pub place_within : (place count : ℕ) (here : Bool) (last next : Option ℕ) → next ≡ place_with place here last → place < count → IfSome last (λ (found : ℕ). found < count) → IfSome next (λ (found : ℕ). found < count)
place_within place count true last next so lt within = subst (λ (one : Option ℕ). IfSome one (λ (found : ℕ). found < count)) (sym so) lt
place_within place count false last next so lt within = subst (λ (one : Option ℕ). IfSome one (λ (found : ℕ). found < count)) (sym so) within

-- ---- lines put together

joined_front : (first : List ℕ) (others : List (Bor (List ℕ))) → first ++ flat_map (λ (line : Bor (List ℕ)). 10 ∷ line.now) others ≡ join_with_byte 10 (first ∷ texts others)
joined_front first [] = append-nil first
joined_front first (second ∷ others) = ap (λ (text : List ℕ). first ++ (10 ∷ text)) (joined_front second.now others)

-- each line after a line feed, but for the first of these
pub joined_after : (lines : List (Bor (List ℕ))) → drop 1 (flat_map (λ (line : Bor (List ℕ)). 10 ∷ line.now) lines) ≡ join_with_byte 10 (map (λ (line : Bor (List ℕ)). line.now) lines)
joined_after [] = refl
joined_after (first ∷ others) = joined_front first.now others

pub joined_all : (text start whole : List ℕ) (lines : List (Bor (List ℕ))) → start ≡ [] → text ≡ start ++ flat_map (λ (line : Bor (List ℕ)). 10 ∷ line.now) lines → whole ≡ drop 1 text
    → whole ≡ join_with_byte 10 (map (λ (line : Bor (List ℕ)). line.now) lines)
joined_all text start whole lines none all rest =
    rest ∙ ap (drop 1) (all ∙ ap (λ (xs : List ℕ). xs ++ flat_map (λ (line : Bor (List ℕ)). 10 ∷ line.now) lines) none) ∙ joined_after lines

pub none_dropped : (text : List ℕ) → length text ≡ 0 → text ≡ drop 1 text
none_dropped [] none = refl
none_dropped (byte ∷ text) none = absurd (omega arith)

-- ---- the parts around the place

take_texts : (place : ℕ) (lines : List (Bor (List ℕ))) → texts (take place lines) ≡ take place (texts lines)
take_texts zero lines = refl
take_texts (suc place) [] = refl
take_texts (suc place) (line ∷ lines) = ap (λ (xs : List (List ℕ)). line.now ∷ xs) (take_texts place lines)

drop_texts : (place : ℕ) (lines : List (Bor (List ℕ))) → texts (drop place lines) ≡ drop place (texts lines)
drop_texts zero lines = refl
drop_texts (suc place) [] = refl
drop_texts (suc place) (line ∷ lines) = drop_texts place lines

pub parts_found : (lines : List (Bor (List ℕ))) (place : ℕ) (plan : List ℕ) (after : List (List ℕ)) → Some place ≡ journal_place (texts lines) → plan ≡ join_with_byte 10 (texts (take place lines)) → after ≡ texts (drop (place + 1) lines)
    → Some (record { plan = plan; lines = after }) ≡ parts_of (texts lines)
unfolding parts_of
parts_found lines place plan after at before rest =
    let front : plan ≡ join_with_byte 10 (take place (texts lines)) = before ∙ ap (join_with_byte 10) (take_texts place lines) in
    let back : after ≡ drop (place + 1) (texts lines) = rest ∙ drop_texts (place + 1) lines in
    rw (front, back) (ap (parts_around (texts lines)) at)

-- ---- lines of tables

pub any_opens : (words : List (Bor (List ℕ))) → list_any (λ (word : Bor (List ℕ)). opens word.now) words ≡ list_any opens (map (λ (word : Bor (List ℕ)). word.now) words)
any_opens [] = refl
any_opens (word ∷ words) = ap (λ (b : Bool). opens word.now || b) (any_opens words)
