-- Reading on behind what stands at the front.
use Rattle.std.proofs.Common.{◌≡◌, ℕ, zero, suc, ◌+◌, ◌-◌, ◌<◌, ◌≤◌, List, [], ◌∷◌, ◌++◌, length, take, drop, Result, Ok, Err, IsUtf8, refl, subst, sym, ap, ◌∙◌, arith, append_assoc, length-drop}
use Rattle.std.proofs.lemmas.List.{append-nil, nil_from_length}
use Rattle.std.proofs.lemmas.Str.{IsUtf8-drop}
use Rattle.sql_words.proofs.Ends.{Cuts}
use Rattle.sql_words.specs.declared.word.WordClass.{WordClass}
use Rattle.sql_words.specs.declared.word.WordFault.{WordFault}
use Rattle.sql_words.specs.declared.word.WordFault.TheVariants as faults
use Rattle.sql_words.specs.declared.front.Front.{Front}
use Rattle.sql_words.specs.declared.front.Front.TheVariants.{Gap, Found}
use Rattle.sql_words.specs.Front.{size_of, front_at}
use Rattle.sql_words.specs.Readings.{Reading, IsFaultOf, with_word, words_after, words_of}

-- bytes that are read already are passed over
pub words_after-drop : (n place : ℕ) (bytes : List ℕ) → words_after n place bytes ≡ words_after 0 (place + n) (drop n bytes)
unfolding words_after
words_after-drop zero place bytes = ap (λ p. words_after 0 p bytes) (omega arith)
words_after-drop (suc n) place [] = refl
words_after-drop (suc n) place (b ∷ rest) = words_after-drop n (suc place) rest ∙ ap (λ p. words_after 0 p (drop n rest)) (omega arith)

-- one more byte of the front is read
next : (n place b : ℕ) (rest : List ℕ) → 0 < n → words_after (n - 1) (suc place) rest ≡ words_after 0 (place + n) (drop n (b ∷ rest))
next zero place b rest some = absurd (omega arith)
next (suc n) place b rest some =
    let one : suc n - 1 ≡ n = omega arith in
    ap (λ k. words_after k (suc place) rest) one ∙ words_after-drop n (suc place) rest ∙ ap (λ p. words_after 0 p (drop n rest)) (omega arith)

-- what follows a gap, a word and a fault
pub words_after-gap : (place n : ℕ) (bytes : List ℕ) → 0 < length bytes → 0 < n → front_at place bytes ≡ Ok (Gap n) → words_after 0 place bytes ≡ words_after 0 (place + n) (drop n bytes)
unfolding words_after
words_after-gap place n [] any some e = absurd (omega arith)
words_after-gap place n (b ∷ rest) any some e = rw e (next n place b rest some)

pub words_after-found : (place n : ℕ) (class : WordClass) (bytes : List ℕ) → 0 < length bytes → 0 < n → front_at place bytes ≡ Ok (Found class n)
    → words_after 0 place bytes ≡ with_word (record { class = class; text = take n bytes; place = place }) (words_after 0 (place + n) (drop n bytes))
unfolding words_after
words_after-found place n class [] any some e = absurd (omega arith)
words_after-found place n class (b ∷ rest) any some e = rw e (ap (with_word (record { class = class; text = take n (b ∷ rest); place = place })) (next n place b rest some))

pub words_after-fault : (place : ℕ) (fault : WordFault) (bytes : List ℕ) → 0 < length bytes → front_at place bytes ≡ Err fault → words_after 0 place bytes ≡ Err fault
unfolding words_after
words_after-fault place fault [] any e = absurd (omega arith)
words_after-fault place fault (b ∷ rest) any e = rw e refl

pub words_after-end : (place : ℕ) → words_after 0 place [] ≡ Ok []
unfolding words_after
words_after-end place = refl

-- the words that are found already, and those that are still to come
abbrev pub with_front : List Reading → Result (List Reading) WordFault → Result (List Reading) WordFault
with_front found (Ok others) = Ok (found ++ others)
with_front found (Err fault) = Err fault

pub with_front-word : (found : List Reading) (w : Reading) (others : Result (List Reading) WordFault) → with_front found (with_word w others) ≡ with_front (found ++ w ∷ []) others
with_front-word found w (Ok others) = ap (λ ws. Ok ws) (simp append_assoc)
with_front-word found w (Err fault) = refl

-- the rest behind a front is shorter
pub length-drop-cuts : (rest : List ℕ) (n : ℕ) → Cuts rest n → length (drop n rest) < length rest
length-drop-cuts rest n cuts = omega (arith, cuts.some, cuts.boundary.0, length-drop n rest)

-- Between two steps: the words that are found, and the rest of the text.
pub record Along (text : List ℕ) (found : List Reading) (rest : List ℕ) : Type 0 where
  pub utf8 : IsUtf8 rest
  pub within : length rest ≤ length text
  pub so_far : with_front found (words_after 0 (length text - length rest) rest) ≡ words_of text

module _ (text : List ℕ) (found : List Reading) (rest : List ℕ) (along : Along text found rest) where
  place_after : (n : ℕ) → n ≤ length rest → (length text - length rest) + n ≡ length text - length (drop n rest)
  place_after n le = omega (arith, along.within, length-drop n rest)

  within_after : (n : ℕ) → length (drop n rest) ≤ length text
  within_after n = omega (arith, along.within, length-drop n rest)

  pub Along-gap : (n : ℕ) → Cuts rest n → front_at (length text - length rest) rest ≡ Ok (Gap n) → Along text found (drop n rest)
  Along-gap n cuts e =
      let one = words_after-gap (length text - length rest) n rest (omega (arith, cuts.some, cuts.boundary.0)) cuts.some e in
      record {
        utf8 = IsUtf8-drop rest n along.utf8 cuts.boundary;
        within = within_after n;
        so_far = ap (λ p. with_front found (words_after 0 p (drop n rest))) (sym (place_after n cuts.boundary.0)) ∙ ap (with_front found) (sym one) ∙ along.so_far;
      }

  pub Along-found : (n : ℕ) (class : WordClass) → Cuts rest n → front_at (length text - length rest) rest ≡ Ok (Found class n)
      → Along text (found ++ record { class = class; text = take n rest; place = length text - length rest } ∷ []) (drop n rest)
  Along-found n class cuts e =
      let w : Reading = record { class = class; text = take n rest; place = length text - length rest } in
      let one = words_after-found (length text - length rest) n class rest (omega (arith, cuts.some, cuts.boundary.0)) cuts.some e in
      record {
        utf8 = IsUtf8-drop rest n along.utf8 cuts.boundary;
        within = within_after n;
        so_far = ap (λ p. with_front (found ++ w ∷ []) (words_after 0 p (drop n rest))) (sym (place_after n cuts.boundary.0)) ∙ sym (with_front-word found w _) ∙ ap (with_front found) (sym one) ∙ along.so_far;
      }

  pub Along-fault : (fault : WordFault) → 0 < length rest → front_at (length text - length rest) rest ≡ Err fault → words_of text ≡ Err fault
  Along-fault fault any e = sym along.so_far ∙ ap (with_front found) (words_after-fault (length text - length rest) fault rest any e)

  pub Along-end : length rest ≡ 0 → words_of text ≡ Ok found
  Along-end none =
      let empty = nil_from_length rest none in
      sym along.so_far ∙ ap (λ r. with_front found (words_after 0 (length text - length rest) r)) empty ∙ ap (with_front found) (words_after-end (length text - length rest)) ∙ ap (λ ws. Ok ws) (append-nil found)

-- What a step of the loop has in hand: the front of the rest, what it takes, and what follows it.
pub record Stepped (total : ℕ) (rest : List ℕ) (front : Front) (piece after : List ℕ) : Type 0 where
  pub read : front_at (total - length rest) rest ≡ Ok front
  pub cuts : Cuts rest (size_of front)
  pub piece_is : piece ≡ take (size_of front) rest
  pub after_is : after ≡ drop (size_of front) rest

pub Stepped-smaller : (total : ℕ) (rest : List ℕ) (front : Front) (piece after : List ℕ) → Stepped total rest front piece after → length after < length rest
Stepped-smaller total rest front piece after step = rw step.after_is (length-drop-cuts rest (size_of front) step.cuts)

pub Along-past_gap : (text : List ℕ) (found : List Reading) (rest : List ℕ) (n : ℕ) (front : Front) (piece after : List ℕ) → Along text found rest → Stepped (length text) rest front piece after → front ≡ Gap n → Along text found after
Along-past_gap text found rest n front piece after along step is =
    let same = subst (λ f. Stepped (length text) rest f piece after) is step in
    rw same.after_is (Along-gap text found rest along n same.cuts same.read)

pub Along-past_found : (text : List ℕ) (found : List Reading) (rest : List ℕ) (n : ℕ) (class : WordClass) (front : Front) (piece after : List ℕ) → Along text found rest → Stepped (length text) rest front piece after → front ≡ Found class n
    → Along text (found ++ record { class = class; text = piece; place = length text - length rest } ∷ []) after
Along-past_found text found rest n class front piece after along step is =
    let same = subst (λ f. Stepped (length text) rest f piece after) is step in
    rw (same.after_is, same.piece_is) (Along-found text found rest along n class same.cuts same.read)

-- a fault that was met
pub IsFaultOf-met : (read : Result (List Reading) WordFault) (fault : WordFault) → read ≡ Err fault → IsFaultOf read fault
IsFaultOf-met read faults.Memory e = tt
IsFaultOf-met read (faults.Unclosed place) e = e
IsFaultOf-met read (faults.Odd place) e = e
IsFaultOf-met read (faults.TooLong place) e = e
