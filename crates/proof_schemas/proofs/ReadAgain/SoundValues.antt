-- What sound words stand for: names without backquotes, and bytes.
use Rattle.std.proofs.Common.{◌≡◌, ℕ, zero, suc, ◌+◌, ◌*◌, ◌<◌, Bool, true, false, not, ◌&&◌, ◌||◌, cond, eqb, ltb, List, [], ◌∷◌, ◌++◌, length, take, drop, get_or, Option, Some, None, refl, subst, arith, codes}
use Rattle.std.specs.Prelude.{ℤ}
use Rattle.std.specs.Option.{option_map}
use Rattle.std.specs.Char.{is_ascii_hexdigit, digit_value}
use Rattle.std.specs.List.{position_or_len, AllByRecursion}
use Rattle.std.proofs.lemmas.Bool.Decides.{nat_tests}
use Rattle.base_values.specs.declared.value.Value.{Value}
use Rattle.base_values.specs.declared.value.Value.TheVariants.{Null, Num, Text, Blob}
use Rattle.sql_words.specs.declared.word.WordClass.{WordClass}
use Rattle.sql_words.specs.declared.word.WordClass.TheVariants as class
use Rattle.sql_words.specs.Meanings.{is_text, text_value, is_bytes, bytes_value, number_value, is_quoted_name, quoted_name, name_of}
use Rattle.sql_words.specs.Quoted.{Piece, closing, and_then, value_of, escaped, text_inside, bytes_inside, name_inside}
use Rattle.sql_grammar.specs.WordValues.ReadBack.{word_value}
use Rattle.sql_grammar.specs.declared.token.Token.{Token}
use Rattle.sql_grammar.specs.Pieces.{literal_of}
use Rattle.sql_grammar.specs.Tokens.{is_keyword}
use Rattle.base_values.proofs.SchemaRules.Lists.{All-append}
use Rattle.base_values.proofs.SchemaRules.Steps.{some_is}
use Rattle.proof_schemas.specs.Printed.Laws.{CanQuote}
use Rattle.proof_schemas.proofs.ReadAgain.Sound.{AreBytes, SoundText, Sound, prefix-passes}
use Rattle.std.proofs.lemmas.Bool.{not-true, and_parts}

-- ---- names

before-quote : (bytes : List ℕ) → AllByRecursion (λ b. not (eqb b 96) ≡ true) bytes → CanQuote bytes
before-quote [] all = tt
before-quote (b ∷ bytes) all = (not-true (eqb b 96) all.0, before-quote bytes all.1)

name_inside-sound : (bytes : List ℕ) (b : Bool) (name : List ℕ) → value_of (cond b (Some (record { value = take (position_or_len (λ x. eqb x 96) bytes) bytes; length = position_or_len (λ x. eqb x 96) bytes + 1 })) None) ≡ Some name → CanQuote name
name_inside-sound bytes true name e = subst CanQuote (some_is (take (position_or_len (λ x. eqb x 96) bytes) bytes) name e) (before-quote _ (prefix-passes (λ x. not (eqb x 96)) bytes))
name_inside-sound bytes false name e = absurd cc

if-there : {A : Type 0} (b : Bool) (o : Option A) (x : A) → cond b o None ≡ Some x → o ≡ Some x
if-there true o x e = e
if-there false o x e = absurd cc

quoted-sound : (bytes name : List ℕ) → quoted_name bytes ≡ Some name → CanQuote name
unfolding name_inside
quoted-sound bytes name e =
    let inside = drop 1 bytes in
    name_inside-sound inside (ltb (position_or_len (λ x. eqb x 96) inside) (length inside)) name (if-there (is_quoted_name bytes) _ name e)

pub name-sound : (class : WordClass) (text name : List ℕ) → SoundText class text → name_of class text ≡ Some name → CanQuote name
name-sound class.Name text name sound e = subst CanQuote (some_is text name e) sound
name-sound class.Quoted text name sound e = quoted-sound text name e
name-sound class.Number text name sound e = absurd cc
name-sound class.Text text name sound e = absurd cc
name-sound class.Bytes text name sound e = absurd cc
name-sound class.Sign text name sound e = absurd cc

-- ---- texts

abbrev AreInside : Option Piece → Type 0
AreInside o = (value : List ℕ) → value_of o ≡ Some value → AreBytes value

inside-cond : (b : Bool) (x y : Option Piece) → AreInside x → AreInside y → AreInside (cond b x y)
inside-cond true x y first second = first
inside-cond false x y first second = second

inside-none : AreInside None
inside-none value e = absurd cc

inside-some : (piece : Piece) → AreBytes piece.value → AreInside (Some piece)
inside-some piece are value e = subst AreBytes (some_is piece.value value e) are

inside-then : (first : Piece) (others : Option Piece) → AreBytes first.value → AreInside others → AreInside (and_then first others)
inside-then first None are rest value e = absurd cc
inside-then first (Some o) are rest value e = subst AreBytes (some_is (first.value ++ o.value) value e) (All-append (λ (b : ℕ). b < 256) first.value o.value are (rest o.value refl))

one-byte : (c : ℕ) → c < 256 → AreBytes (c ∷ [])
one-byte c lt = (lt, tt)

slash-byte : (c : ℕ) → c < 256 → AreBytes (92 ∷ c ∷ [])
slash-byte c lt = (omega arith, (lt, tt))

-- each way that the bytes may be chosen gives bytes
abbrev IsChoice : List ℕ → Type 0
IsChoice bytes = (z : List ℕ) → bytes ≡ z → AreBytes z

choice-one : (c : ℕ) → c < 256 → IsChoice (c ∷ [])
choice-one c lt z e = subst AreBytes e (one-byte c lt)

choice-slash : (c : ℕ) → c < 256 → IsChoice (92 ∷ c ∷ [])
choice-slash c lt z e = subst AreBytes e (slash-byte c lt)

choice : (b : Bool) (x y : List ℕ) → IsChoice x → IsChoice y → IsChoice (cond b x y)
choice true x y first second = first
choice false x y first second = second

escaped-choice : (c : ℕ) → c < 256 → IsChoice (escaped c)
escaped-choice c lt =
    choice (eqb c 48) _ _ (choice-one 0 (omega arith)) (choice (eqb c 98) _ _ (choice-one 8 (omega arith)) (choice (eqb c 110) _ _ (choice-one 10 (omega arith)) (choice (eqb c 114) _ _ (choice-one 13 (omega arith))
    (choice (eqb c 116) _ _ (choice-one 9 (omega arith)) (choice (eqb c 90) _ _ (choice-one 26 (omega arith)) (choice (eqb c 37 || eqb c 95) _ _ (choice-slash c lt) (choice-one c lt)))))))

escaped-bytes : (c : ℕ) → c < 256 → AreBytes (escaped c)
escaped-bytes c lt = escaped-choice c lt (escaped c) refl

text-inside : (quote : ℕ) (bytes : List ℕ) → quote < 256 → AreBytes bytes → AreInside (text_inside quote bytes)
unfolding text_inside
text-inside quote [] lt are = inside-none
text-inside quote (b ∷ []) lt are = inside-cond (eqb b quote) _ _ (inside-some closing tt) inside-none
text-inside quote (b ∷ c ∷ rest) lt are =
    inside-cond (eqb b quote && eqb c quote) _ _ (inside-then (record { value = quote ∷ []; length = 2 }) (text_inside quote rest) (lt, tt) (text-inside quote rest lt are.1.1))
    (inside-cond (eqb b quote) _ _ (inside-some closing tt)
    (inside-cond (eqb b 92) _ _ (inside-then (record { value = escaped c; length = 2 }) (text_inside quote rest) (escaped-bytes c are.1.0) (text-inside quote rest lt are.1.1))
    (inside-then (record { value = b ∷ []; length = 1 }) (text_inside quote (c ∷ rest)) (are.0, tt) (text-inside quote (c ∷ rest) lt are.1))))

first-byte : (bytes : List ℕ) → AreBytes bytes → get_or bytes 0 0 < 256
first-byte [] are = omega arith
first-byte (b ∷ bytes) are = are.0

drop-bytes : (n : ℕ) (bytes : List ℕ) → AreBytes bytes → AreBytes (drop n bytes)
drop-bytes zero bytes are = are
drop-bytes (suc n) [] are = tt
drop-bytes (suc n) (b ∷ bytes) are = drop-bytes n bytes are.1

text-bytes : (bytes value : List ℕ) → AreBytes bytes → text_value bytes ≡ Some value → AreBytes value
text-bytes bytes value are e = text-inside (get_or bytes 0 0) (drop 1 bytes) (first-byte bytes are) (drop-bytes 1 bytes are) value (if-there (is_text bytes) _ value e)

-- ---- bytes

hex-small : (c : ℕ) → is_ascii_hexdigit c ≡ true → digit_value c < 16
hex-small c h = grind (arith, nat_tests, h)

pair-small : (b c : ℕ) → (is_ascii_hexdigit b && is_ascii_hexdigit c) ≡ true → 16 * digit_value b + digit_value c < 256
pair-small b c h =
    let first : digit_value b < 16 = hex-small b ((and_parts (is_ascii_hexdigit b) (is_ascii_hexdigit c) h).0) in
    let second : digit_value c < 16 = hex-small c ((and_parts (is_ascii_hexdigit b) (is_ascii_hexdigit c) h).1) in
    omega arith

pair-inside : (pair : Bool) (first : Piece) (others end : Option Piece) → (pair ≡ true → AreBytes first.value) → AreInside others → AreInside end → AreInside (cond pair (and_then first others) end)
pair-inside true first others end are rest last = inside-then first others (are refl) rest
pair-inside false first others end are rest last = last

hex-inside : (bytes : List ℕ) → AreInside (bytes_inside bytes)
unfolding bytes_inside
hex-inside [] = inside-none
hex-inside (b ∷ []) = inside-cond (eqb b 39) _ _ (inside-some closing tt) inside-none
hex-inside (b ∷ c ∷ rest) =
    pair-inside (is_ascii_hexdigit b && is_ascii_hexdigit c) (record { value = (16 * digit_value b + digit_value c) ∷ []; length = 2 }) (bytes_inside rest) _ (λ h. (pair-small b c h, tt)) (hex-inside rest)
    (inside-cond (eqb b 39) _ _ (inside-some closing tt) inside-none)

hex-bytes : (bytes value : List ℕ) → bytes_value bytes ≡ Some value → AreBytes value
hex-bytes bytes value e = hex-inside (drop 2 bytes) value (if-there (is_bytes bytes) _ value e)

-- ---- literals

abbrev pub SoundValue : Value → Type 0
SoundValue Null = Unit {0}
SoundValue (Num number) = Unit {0}
SoundValue (Text text) = AreBytes text
SoundValue (Blob blob) = AreBytes blob

abbrev AllValues : Option Value → Type 0
AllValues o = (value : Value) → o ≡ Some value → SoundValue value

values-text : (o : Option (List ℕ)) → ((t : List ℕ) → o ≡ Some t → AreBytes t) → AllValues (option_map Text o)
values-text None are value e = absurd cc
values-text (Some t) are value e = subst SoundValue (some_is (Text t) value e) (are t refl)

values-blob : (o : Option (List ℕ)) → ((t : List ℕ) → o ≡ Some t → AreBytes t) → AllValues (option_map Blob o)
values-blob None are value e = absurd cc
values-blob (Some t) are value e = subst SoundValue (some_is (Blob t) value e) (are t refl)

values-number : (o : Option ℤ) → AllValues (option_map Num o)
values-number None value e = absurd cc
values-number (Some n) value e = subst SoundValue (some_is (Num n) value e) tt

word-sound : (class : WordClass) (text : List ℕ) → SoundText class text → AllValues (word_value class text)
word-sound class.Text text sound = values-text (text_value text) (λ t e. text-bytes text t sound e)
word-sound class.Bytes text sound = values-blob (bytes_value text) (λ t e. hex-bytes text t e)
word-sound class.Number text sound = values-number (number_value text)
word-sound class.Name text sound = λ value e. absurd cc
word-sound class.Quoted text sound = λ value e. absurd cc
word-sound class.Sign text sound = λ value e. absurd cc

values-cond : (b : Bool) (x y : Option Value) → AllValues x → AllValues y → AllValues (cond b x y)
values-cond true x y first second = first
values-cond false x y first second = second

pub literal-sound : (word : Token) → Sound word → AllValues (literal_of word)
literal-sound word sound = values-cond (is_keyword word (codes "NULL")) _ _ (λ value e. subst SoundValue (some_is Null value e) tt) (word-sound word.class word.text sound)
