-- The words that are read are slices of the text, one behind the other.
use Rattle.std.proofs.Common.{◌≡◌, ℕ, zero, suc, ◌+◌, ◌-◌, ◌≤◌, List, [], ◌∷◌, length, take, drop, Result, Ok, Err, refl, sym, ap, ◌∙◌, subst, arith, length-take}
use Rattle.std.specs.Prelude.{slice_range}
use Rattle.std.proofs.lemmas.List.{drop-drop}
use Rattle.sql_words.specs.declared.word.WordClass.{WordClass}
use Rattle.sql_words.specs.declared.word.WordFault.{WordFault}
use Rattle.sql_words.specs.declared.front.Front.{Front}
use Rattle.sql_words.specs.declared.front.Front.TheVariants.{Gap, Found}
use Rattle.sql_words.specs.Front.{front_at}
use Rattle.sql_words.specs.Readings.{Reading, StandIn, with_word, read_on, words_after, words_of}

-- the words that are read, if any, stand in the text from here on
abbrev Reads : List ℕ → ℕ → Result (List Reading) WordFault → Type 0
Reads text from (Ok ws) = StandIn text from ws
Reads text from (Err fault) = Unit {0}

StandIn-le : (text : List ℕ) (from later : ℕ) (ws : List Reading) → from ≤ later → StandIn text later ws → StandIn text from ws
StandIn-le text from later [] le stand = tt
StandIn-le text from later (w ∷ ws) le stand = (omega (arith, stand.0), stand.1, stand.2)

Reads-le : (text : List ℕ) (from later : ℕ) (read : Result (List Reading) WordFault) → from ≤ later → Reads text later read → Reads text from read
Reads-le text from later (Ok ws) le reads = StandIn-le text from later ws le reads
Reads-le text from later (Err fault) le reads = tt

take-length-take : (n : ℕ) (xs : List ℕ) → take (length (take n xs)) xs ≡ take n xs
take-length-take zero xs = refl
take-length-take (suc n) [] = refl
take-length-take (suc n) (x ∷ xs) = ap (λ (t : List ℕ). x ∷ t) (take-length-take n xs)

length-take-le-n : (n : ℕ) (xs : List ℕ) → length (take n xs) ≤ n
length-take-le-n n xs = omega (arith, length-take n xs)

-- the word at this place, and the words behind it
Reads-word : (text : List ℕ) (place n : ℕ) (class : WordClass) (rest : List ℕ) (others : Result (List Reading) WordFault) → rest ≡ drop place text → Reads text (place + n) others → Reads text place (with_word (record { class = class; text = take n rest; place = place }) others)
Reads-word text place n class rest (Err fault) here reads = tt
Reads-word text place n class rest (Ok ws) here reads =
    let size : place + length (take n rest) - place ≡ length (take n rest) = omega arith in
    let slice : take n rest ≡ slice_range text place (place + length (take n rest)) = sym (take-length-take n rest) ∙ ap (take (length (take n rest))) here ∙ ap (λ k. take k (drop place text)) (sym size) in
    (omega arith, slice, StandIn-le text (place + length (take n rest)) (place + n) ws (omega (arith, length-take-le-n n rest)) reads)

Reads-on : (text : List ℕ) (place : ℕ) (rest : List ℕ) (front : Result Front WordFault) (others : ℕ → Result (List Reading) WordFault) → rest ≡ drop place text → ((n : ℕ) → Reads text (place + n) (others n)) → Reads text place (read_on place rest front others)
Reads-on text place rest (Err fault) others here reads = tt
Reads-on text place rest (Ok (Gap n)) others here reads = Reads-le text place (place + n) (others n) (omega arith) (reads n)
Reads-on text place rest (Ok (Found class n)) others here reads = Reads-word text place n class rest (others n) here (reads n)

drop_next : (place b : ℕ) (rest text : List ℕ) → b ∷ rest ≡ drop place text → rest ≡ drop (suc place) text
drop_next place b rest text e =
    let one : place + 1 ≡ suc place = omega arith in
    ap (drop 1) e ∙ drop-drop 1 place text ∙ ap (λ k. drop k text) one

after_reads : (text : List ℕ) (n place : ℕ) (rest : List ℕ) → rest ≡ drop place text → Reads text (place + n) (words_after n place rest)
unfolding words_after
after_reads text n place [] here = tt
after_reads text (suc n) place (b ∷ rest) here = subst (λ p. Reads text p (words_after n (suc place) rest)) (omega arith) (after_reads text n (suc place) rest (drop_next place b rest text here))
after_reads text zero place (b ∷ rest) here =
    let none : place ≡ place + 0 = omega arith in
    let next = drop_next place b rest text here in
    subst (λ p. Reads text p (words_after 0 place (b ∷ rest))) none (Reads-on text place (b ∷ rest) (front_at place (b ∷ rest)) (λ n. words_after (n - 1) (suc place) rest) here (λ n. Reads-le text (place + n) (suc place + (n - 1)) (words_after (n - 1) (suc place) rest) (omega arith) (after_reads text (n - 1) (suc place) rest next)))

pub words_stand : (text : List ℕ) (ws : List Reading) → words_of text ≡ Ok ws → StandIn text 0 ws
words_stand text ws e = subst (Reads text 0) e (after_reads text 0 0 text refl)
