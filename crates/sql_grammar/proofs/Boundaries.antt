-- The first fault of a text stands between two characters.
use Rattle.std.proofs.Common.{◌≡◌, ℕ, zero, suc, ◌+◌, ◌<◌, ◌≤◌, Bool, true, false, cond, nat_eq, nat_lt, List, [], ◌∷◌, length, drop, get_or, Option, Some, None, Result, Ok, Err, IsUtf8, refl, sym, ◌∙◌, subst, arith}
use Rattle.std.specs.Str.{IsCharBoundary}
use Rattle.std.proofs.lemmas.Str.{IsCharBoundary-start, IsCharBoundary-from_rest, IsUtf8-drop}
use Rattle.sql_words.specs.declared.word.WordClass.{WordClass}
use Rattle.sql_words.specs.declared.word.WordFault.{WordFault}
use Rattle.sql_words.specs.declared.word.WordFault.TheVariants.{Unclosed, Odd, TooLong, Memory}
use Rattle.sql_words.specs.declared.front.Front.{Front}
use Rattle.sql_words.specs.declared.front.Front.TheVariants.{Gap, Found}
use Rattle.sql_words.specs.declared.word.WordClass.TheVariants as class
use Rattle.sql_words.specs.Characters.{is_white, is_name_start, is_quote, is_sign}
use Rattle.sql_words.specs.Quoted.{length_of, text_inside, name_inside}
use Rattle.sql_words.specs.Front.{line_length, begins_comment, bytes_length, bytes_or_name, name_length, quoted, most_digits, sign_width, digit_count, begins_number, sign_length, front_at}
use Rattle.sql_words.specs.Readings.{Reading, with_word, words_after, words_of}
use Rattle.sql_words.proofs.Ends.{front_cuts}
use Rattle.sql_words.proofs.Following.{words_after-gap, words_after-found, words_after-fault, words_after-end, length-drop-cuts}

-- a fault of a text stands at this place
abbrev pub StandsAt : ℕ → WordFault → Type 0
StandsAt place (Unclosed at) = at ≡ place
StandsAt place (Odd at) = at ≡ place
StandsAt place (TooLong at) = at ≡ place
StandsAt place Memory = ⊥

-- each fault that is met at the front stands there
abbrev Here : ℕ → Result Front WordFault → Type 0
Here place read = (fault : WordFault) → read ≡ Err fault → StandsAt place fault

Here-cond : (place : ℕ) (b : Bool) (x y : Result Front WordFault) → Here place x → Here place y → Here place (cond b x y)
Here-cond place true x y first second = first
Here-cond place false x y first second = second

Here-ok : (place : ℕ) (front : Front) → Here place (Ok front)
Here-ok place front fault e = absurd cc

Here-err : (place : ℕ) (met : WordFault) → StandsAt place met → Here place (Err met)
Here-err place met stands fault e = let same : met ≡ fault = cc in subst (StandsAt place) same stands

Here-quoted : (place : ℕ) (class : WordClass) (inside : Option ℕ) → Here place (quoted place class inside)
Here-quoted place class None = Here-err place (Unclosed place) refl
Here-quoted place class (Some n) = Here-ok place (Found class (1 + n))

front_here : (place : ℕ) (bytes : List ℕ) → Here place (front_at place bytes)
unfolding front_at
front_here place bytes =
    let first = get_or bytes 0 0 in
    Here-cond place (is_white first) _ _ (Here-ok place (Gap 1)) (Here-cond place (begins_comment bytes) _ _ (Here-ok place (Gap (line_length bytes)))
    (Here-cond place (is_name_start first) _ _ (Here-ok place (bytes_or_name (bytes_length bytes) (name_length bytes)))
    (Here-cond place (begins_number bytes) _ _ (Here-cond place (nat_lt most_digits (digit_count bytes)) _ _ (Here-err place (TooLong place) refl) (Here-ok place (Found class.Number (sign_width bytes + digit_count bytes))))
    (Here-cond place (is_quote first) _ _ (Here-quoted place class.Text (length_of (text_inside first (drop 1 bytes))))
    (Here-cond place (nat_eq first 96) _ _ (Here-quoted place class.Quoted (length_of (name_inside (drop 1 bytes))))
    (Here-cond place (is_sign first) _ _ (Here-ok place (Found class.Sign (sign_length bytes))) (Here-err place (Odd place) refl)))))))

-- a fault that is met behind so many characters' bytes of a rest that begins at this place
pub record Following (place : ℕ) (rest : List ℕ) (fault : WordFault) : Type 0 where
  pub bytes : ℕ
  pub stands : StandsAt (place + bytes) fault
  pub boundary : IsCharBoundary rest bytes

abbrev AllAfter : ℕ → List ℕ → Result (List Reading) WordFault → Type 0
AllAfter place rest read = (fault : WordFault) → read ≡ Err fault → Following place rest fault

Following-further : (place n : ℕ) (rest : List ℕ) (fault : WordFault) → IsCharBoundary rest n → Following (place + n) (drop n rest) fault → Following place rest fault
Following-further place n rest fault boundary b = record {
  bytes = n + b.bytes;
  stands = subst (λ at. StandsAt at fault) (omega arith) b.stands;
  boundary = IsCharBoundary-from_rest rest n b.bytes boundary.0 b.boundary;
}

with_word-fault : (w : Reading) (others : Result (List Reading) WordFault) (fault : WordFault) → with_word w others ≡ Err fault → others ≡ Err fault
with_word-fault w (Ok ws) fault e = absurd cc
with_word-fault w (Err met) fault e = cc

module _ (fuel : ℕ) (shorter : (place : ℕ) (rest : List ℕ) → length rest < fuel → IsUtf8 rest → AllAfter place rest (words_after 0 place rest)) where
  on_front : (place : ℕ) (rest : List ℕ) (read : Result Front WordFault) → length rest ≤ fuel → 0 < length rest → IsUtf8 rest → front_at place rest ≡ read → AllAfter place rest (words_after 0 place rest)
  on_front place rest (Err met) le any utf8 e fault h =
      let same : met ≡ fault = cc (words_after-fault place met rest any e) in
      record { bytes = 0; stands = subst (λ at. StandsAt at fault) (omega arith) (subst (StandsAt place) same (front_here place rest met e)); boundary = IsCharBoundary-start rest utf8 }
  on_front place rest (Ok (Gap n)) le any utf8 e fault h =
      let cuts = front_cuts place rest utf8 any (Gap n) e in
      let less = length-drop-cuts rest n cuts in
      Following-further place n rest fault cuts.boundary (shorter (place + n) (drop n rest) (omega arith) (IsUtf8-drop rest n utf8 cuts.boundary) fault (sym (words_after-gap place n rest any cuts.some e) ∙ h))
  on_front place rest (Ok (Found class n)) le any utf8 e fault h =
      let cuts = front_cuts place rest utf8 any (Found class n) e in
      let less = length-drop-cuts rest n cuts in
      Following-further place n rest fault cuts.boundary (shorter (place + n) (drop n rest) (omega arith) (IsUtf8-drop rest n utf8 cuts.boundary) fault (with_word-fault _ _ fault (sym (words_after-found place n class rest any cuts.some e) ∙ h)))

all_after : (fuel place : ℕ) (rest : List ℕ) → length rest < fuel → IsUtf8 rest → AllAfter place rest (words_after 0 place rest)
all_after zero place rest lt utf8 = absurd (omega arith)
all_after (suc fuel) place [] lt utf8 = λ fault h. absurd cc (words_after-end place)
all_after (suc fuel) place (b ∷ rest) lt utf8 = on_front fuel (all_after fuel) place (b ∷ rest) (front_at place (b ∷ rest)) (omega arith) (omega arith) utf8 refl

-- the text may be cut where its first fault stands
pub fault_boundary : (text : List ℕ) (place : ℕ) (fault : WordFault) → IsUtf8 text → words_of text ≡ Err fault → StandsAt place fault → IsCharBoundary text place
fault_boundary text place (Unclosed at) utf8 e stands = let b = all_after (suc (length text)) 0 text (omega arith) utf8 (Unclosed at) e in let same : b.bytes ≡ place = omega (arith, b.stands, stands) in subst (IsCharBoundary text) same b.boundary
fault_boundary text place (Odd at) utf8 e stands = let b = all_after (suc (length text)) 0 text (omega arith) utf8 (Odd at) e in let same : b.bytes ≡ place = omega (arith, b.stands, stands) in subst (IsCharBoundary text) same b.boundary
fault_boundary text place (TooLong at) utf8 e stands = let b = all_after (suc (length text)) 0 text (omega arith) utf8 (TooLong at) e in let same : b.bytes ≡ place = omega (arith, b.stands, stands) in subst (IsCharBoundary text) same b.boundary
fault_boundary text place Memory utf8 e stands = absurd stands
