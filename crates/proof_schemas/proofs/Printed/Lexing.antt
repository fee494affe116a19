-- Texts that are read as these words, piece by piece.
use Rattle.std.proofs.Common.{◌≡◌, ℕ, suc, ◌+◌, ◌<◌, true, false, eqb, List, [], ◌∷◌, ◌++◌, length, Some, Ok, refl, sym, ap, subst, ◌∙◌, map, arith, append_assoc, length-append}
use Rattle.std.specs.Char.{is_ascii_digit}
use Rattle.std.specs.List.{position_or_len}
use Rattle.std.proofs.lemmas.Bool.{lt-ltb}
use Rattle.sql_words.specs.declared.word.WordClass.{WordClass}
use Rattle.sql_words.specs.declared.word.WordClass.TheVariants as class
use Rattle.sql_words.specs.declared.front.Front.TheVariants.{Gap, Found}
use Rattle.sql_words.specs.Characters.{is_white, is_name_byte}
use Rattle.sql_words.specs.Front.{front_at, quoted}
use Rattle.sql_words.specs.Quoted.{length_of, name_inside}
use Rattle.sql_words.specs.Readings.{Reading, with_word, words_after}
use Rattle.sql_words.proofs.Following.{words_after-gap, words_after-end}
use Rattle.sql_words.proofs.Reprinted.{words_after-append}
use Rattle.sql_grammar.specs.declared.token.Token.{Token}
use Rattle.sql_grammar.specs.Tokens.{token_of}
use Rattle.sql_show.specs.SchemaText.{quoted as quoted_name}
use Rattle.proof_schemas.specs.Printed.Laws.{CanQuote}
use Rattle.proof_schemas.specs.Printed.Words.{name_word}

-- the words of these bytes, wherever they stand
abbrev pub Lexes : List ℕ → List Token → Type 0
Lexes bytes tokens = (place : ℕ) → (ws : List Reading) × (words_after 0 place bytes ≡ Ok ws) × (map token_of ws ≡ tokens)

pub lex-end : Lexes [] []
lex-end place = ([], words_after-end place, refl)

white-front : (place b : ℕ) (rest : List ℕ) → is_white b ≡ true → front_at place (b ∷ rest) ≡ Ok (Gap 1)
unfolding front_at
white-front place b rest white = rw white refl

pub lex-gap : (b : ℕ) (rest : List ℕ) (ts : List Token) → is_white b ≡ true → Lexes rest ts → Lexes (b ∷ rest) ts
lex-gap b rest ts white lex place =
    let r = lex (place + 1) in
    (r.0, words_after-gap place 1 (b ∷ rest) (omega arith) (omega arith) (white-front place b rest white) ∙ r.1, r.2)

pub lex-word : (kind : WordClass) (word rest : List ℕ) (ts : List Token) → 0 < length word → ((place : ℕ) → front_at place (word ++ rest) ≡ Ok (Found kind (length word))) → Lexes rest ts
    → Lexes (word ++ rest) (record { class = kind; text = word } ∷ ts)
lex-word kind word rest ts some front lex place =
    let r = lex (place + length word) in
    let here : Reading = record { class = kind; text = word; place = place } in
    (here ∷ r.0, words_after-append kind place word rest some (front place) ∙ ap (with_word here) r.1, ap (λ (us : List Token). record { class = kind; text = word } ∷ us) r.2)

-- ---- what ends a word

-- no word that stands in front goes on here
abbrev pub IsEnd : List ℕ → Type 0
IsEnd [] = Unit {0}
IsEnd (c ∷ rest) = (is_name_byte c ≡ false) × (is_ascii_digit c ≡ false) × (eqb c 39 ≡ false)

-- ---- pieces of a text

-- the piece has these words, where an end stands behind it
abbrev pub Writes : List ℕ → List Token → Type 0
Writes piece words = (rest : List ℕ) (ts : List Token) → IsEnd rest → Lexes rest ts → Lexes (piece ++ rest) (words ++ ts)

-- the piece has these words, whatever stands behind it
abbrev pub Closes : List ℕ → List Token → Type 0
Closes piece words = (rest : List ℕ) (ts : List Token) → Lexes rest ts → Lexes (piece ++ rest) (words ++ ts)

-- an end stands where the piece and an end behind it stand
abbrev pub Begins : List ℕ → Type 0
Begins piece = (rest : List ℕ) → IsEnd rest → IsEnd (piece ++ rest)

pub closes-writes : (piece : List ℕ) (words : List Token) → Closes piece words → Writes piece words
closes-writes piece words closes rest ts end lex = closes rest ts lex

turned : (a b rest : List ℕ) (ws vs ts : List Token) → Lexes (a ++ (b ++ rest)) (ws ++ (vs ++ ts)) → Lexes ((a ++ b) ++ rest) ((ws ++ vs) ++ ts)
turned a b rest ws vs ts lex = subst (λ (t : List ℕ). Lexes t ((ws ++ vs) ++ ts)) (sym (append_assoc a b rest)) (subst (λ (us : List Token). Lexes (a ++ (b ++ rest)) us) (sym (append_assoc ws vs ts)) lex)

pub writes-then : (a b : List ℕ) (ws vs : List Token) → Writes a ws → Begins b → Writes b vs → Writes (a ++ b) (ws ++ vs)
writes-then a b ws vs first begins second rest ts end lex = turned a b rest ws vs ts (first (b ++ rest) (vs ++ ts) (begins rest end) (second rest ts end lex))

pub closes-then : (a b : List ℕ) (ws vs : List Token) → Closes a ws → Writes b vs → Writes (a ++ b) (ws ++ vs)
closes-then a b ws vs first second rest ts end lex = turned a b rest ws vs ts (first (b ++ rest) (vs ++ ts) (second rest ts end lex))

pub closes-both : (a b : List ℕ) (ws vs : List Token) → Closes a ws → Closes b vs → Closes (a ++ b) (ws ++ vs)
closes-both a b ws vs first second rest ts lex = turned a b rest ws vs ts (first (b ++ rest) (vs ++ ts) (second rest ts lex))

-- a piece that an end follows always
pub writes-closed : (a b : List ℕ) (ws vs : List Token) → Writes a ws → ((rest : List ℕ) → IsEnd (b ++ rest)) → Closes b vs → Closes (a ++ b) (ws ++ vs)
writes-closed a b ws vs first stops second rest ts lex = turned a b rest ws vs ts (first (b ++ rest) (vs ++ ts) (stops rest) (second rest ts lex))

-- ---- names in backquotes

quote-place : (name rest : List ℕ) → CanQuote name → position_or_len (λ b. eqb b 96) ((name ++ 96 ∷ []) ++ rest) ≡ length name
quote-place [] rest can = refl
quote-place (b ∷ name) rest can = let one : 1 + length name ≡ suc (length name) = omega arith in rw (can.0, quote-place name rest can.1) one

name-length : (name rest : List ℕ) → CanQuote name → length_of (name_inside ((name ++ 96 ∷ []) ++ rest)) ≡ Some (length name + 1)
unfolding name_inside
name-length name rest can =
    let less : length name < length ((name ++ 96 ∷ []) ++ rest) = omega (arith, length-append (name ++ 96 ∷ []) rest, length-append name (96 ∷ [])) in
    rw (quote-place name rest can, lt-ltb _ _ less) refl

name-front : (place : ℕ) (name rest : List ℕ) → CanQuote name → front_at place (quoted_name name ++ rest) ≡ Ok (Found class.Quoted (length (quoted_name name)))
unfolding front_at
name-front place name rest can =
    let read : front_at place (quoted_name name ++ rest) ≡ quoted place class.Quoted (length_of (name_inside ((name ++ 96 ∷ []) ++ rest))) = refl in
    let size : 1 + (length name + 1) ≡ length (quoted_name name) = omega (arith, length-append name (96 ∷ [])) in
    read ∙ ap (quoted place class.Quoted) (name-length name rest can) ∙ ap (λ (n : ℕ). Ok (Found class.Quoted n)) size

pub closes-name : (name : List ℕ) → CanQuote name → Closes (quoted_name name) (name_word name ∷ [])
closes-name name can rest ts lex = lex-word class.Quoted (quoted_name name) rest ts (omega arith) (λ place. name-front place name rest can) lex
