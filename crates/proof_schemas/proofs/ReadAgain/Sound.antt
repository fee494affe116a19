-- Words as they stand in texts: no backquote in a name, and bytes in a text.
use Rattle.std.proofs.Common.{◌≡◌, ℕ, zero, suc, ◌+◌, ◌-◌, ◌<◌, Bool, true, false, cond, eqb, ltb, List, [], ◌∷◌, take, drop, get_or, Option, Some, None, Result, Ok, Err, refl, subst, map, arith}
use Rattle.std.specs.List.{prefix_len, AllByRecursion}
use Rattle.std.proofs.lemmas.Bool.Decides.{nat_tests}
use Rattle.sql_words.specs.declared.word.WordClass.{WordClass}
use Rattle.sql_words.specs.declared.word.WordClass.TheVariants as class
use Rattle.sql_words.specs.declared.word.WordFault.{WordFault}
use Rattle.sql_words.specs.declared.word.WordFault.TheVariants as faults
use Rattle.sql_words.specs.declared.front.Front.{Front}
use Rattle.sql_words.specs.declared.front.Front.TheVariants.{Gap, Found}
use Rattle.sql_words.specs.Characters.{is_white, is_name_start, is_name_byte, is_quote, is_sign}
use Rattle.sql_words.specs.Quoted.{length_of, text_inside, name_inside}
use Rattle.sql_words.specs.Front.{begins_comment, bytes_length, bytes_or_name, name_length, quoted, begins_number, digit_count, sign_width, most_digits, line_length, sign_length, front_at}
use Rattle.sql_words.specs.Readings.{Reading, with_word, read_on, words_after, words_of}
use Rattle.sql_grammar.specs.declared.token.Token.{Token}
use Rattle.sql_grammar.specs.Tokens.{token_of, words_or_none, cut_at, words_to, text_words}
use Rattle.base_values.proofs.SchemaRules.Lists.{All-map}
use Rattle.base_values.proofs.SchemaRules.Steps.{ok_is}
use Rattle.proof_schemas.specs.Printed.Laws.{CanQuote}

abbrev pub AreBytes : List ℕ → Type 0
AreBytes bytes = AllByRecursion (λ byte. byte < 256) bytes

abbrev pub SoundText : WordClass → List ℕ → Type 0
SoundText class.Name text = CanQuote text
SoundText class.Text text = AreBytes text
SoundText class.Quoted text = Unit {0}
SoundText class.Number text = Unit {0}
SoundText class.Bytes text = Unit {0}
SoundText class.Sign text = Unit {0}

abbrev pub Sound : Token → Type 0
Sound token = SoundText token.class token.text

abbrev pub AreSound : List Token → Type 0
AreSound words = AllByRecursion Sound words

-- ---- the front

pub All-take : {X : Type 0} (P : X → Type 0) (n : ℕ) (xs : List X) → AllByRecursion P xs → AllByRecursion P (take n xs)
All-take P zero xs all = tt
All-take P (suc n) [] all = tt
All-take P (suc n) (x ∷ xs) all = (all.0, All-take P n xs all.1)

prefix-one : {X : Type 0} (test : X → Bool) (b : Bool) (x : X) (xs : List X) → test x ≡ b → AllByRecursion (λ y. test y ≡ true) (take (prefix_len test xs) xs) → AllByRecursion (λ y. test y ≡ true) (take (cond b (1 + prefix_len test xs) 0) (x ∷ xs))
prefix-one test true x xs e rest = let one : 1 + prefix_len test xs ≡ suc (prefix_len test xs) = omega arith in rw one (e, rest)
prefix-one test false x xs e rest = tt

pub prefix-passes : {X : Type 0} (test : X → Bool) (xs : List X) → AllByRecursion (λ x. test x ≡ true) (take (prefix_len test xs) xs)
prefix-passes test [] = tt
prefix-passes test (x ∷ xs) = prefix-one test (test x) x xs refl (prefix-passes test xs)

name-byte : (b : ℕ) → is_name_byte b ≡ true → eqb b 96 ≡ false
name-byte b h = grind (arith, nat_tests, h)

name-bytes : (bytes : List ℕ) → AllByRecursion (λ b. is_name_byte b ≡ true) bytes → CanQuote bytes
name-bytes [] all = tt
name-bytes (b ∷ bytes) all = (name-byte b all.0, name-bytes bytes all.1)

abbrev FrontIs : List ℕ → Result Front WordFault → Type 0
FrontIs bytes front = (class : WordClass) (n : ℕ) → front ≡ Ok (Found class n) → SoundText class (take n bytes)

front-cond : (bytes : List ℕ) (b : Bool) (x y : Result Front WordFault) → FrontIs bytes x → FrontIs bytes y → FrontIs bytes (cond b x y)
front-cond bytes true x y first second = first
front-cond bytes false x y first second = second

front-gap : (bytes : List ℕ) (k : ℕ) → FrontIs bytes (Ok (Gap k))
front-gap bytes k class n e = absurd cc

front-fault : (bytes : List ℕ) (fault : WordFault) → FrontIs bytes (Err fault)
front-fault bytes fault class n e = absurd cc

front-found : (bytes : List ℕ) (own : WordClass) (k : ℕ) → SoundText own (take k bytes) → FrontIs bytes (Ok (Found own k))
front-found bytes own k sound class n e =
    let first : own ≡ class = cc in
    let second : k ≡ n = cc in
    subst (λ (m : ℕ). SoundText class (take m bytes)) second (subst (λ (c : WordClass). SoundText c (take k bytes)) first sound)

front-name : (bytes : List ℕ) (o : Option ℕ) → FrontIs bytes (Ok (bytes_or_name o (name_length bytes)))
front-name bytes (Some n) = front-found bytes class.Bytes n tt
front-name bytes None = front-found bytes class.Name (name_length bytes) (name-bytes (take (name_length bytes) bytes) (prefix-passes is_name_byte bytes))

front-text : (place : ℕ) (bytes : List ℕ) (o : Option ℕ) → AreBytes bytes → FrontIs bytes (quoted place class.Text o)
front-text place bytes None are = front-fault bytes _
front-text place bytes (Some n) are = front-found bytes class.Text (1 + n) (All-take (λ b. b < 256) (1 + n) bytes are)

front-quoted : (place : ℕ) (bytes : List ℕ) (o : Option ℕ) → FrontIs bytes (quoted place class.Quoted o)
front-quoted place bytes None = front-fault bytes _
front-quoted place bytes (Some n) = front-found bytes class.Quoted (1 + n) tt

front-sound : (place : ℕ) (bytes : List ℕ) → AreBytes bytes → FrontIs bytes (front_at place bytes)
unfolding front_at
front-sound place bytes are =
    let first = get_or bytes 0 0 in
    front-cond bytes (is_white first) _ _ (front-gap bytes 1)
    (front-cond bytes (begins_comment bytes) _ _ (front-gap bytes (line_length bytes))
    (front-cond bytes (is_name_start first) _ _ (front-name bytes (bytes_length bytes))
    (front-cond bytes (begins_number bytes) _ _ (front-cond bytes (ltb most_digits (digit_count bytes)) _ _ (front-fault bytes (faults.TooLong place)) (front-found bytes class.Number (sign_width bytes + digit_count bytes) tt))
    (front-cond bytes (is_quote first) _ _ (front-text place bytes (length_of (text_inside first (drop 1 bytes))) are)
    (front-cond bytes (eqb first 96) _ _ (front-quoted place bytes (length_of (name_inside (drop 1 bytes))))
    (front-cond bytes (is_sign first) _ _ (front-found bytes class.Sign (sign_length bytes) tt) (front-fault bytes (faults.Odd place))))))))

-- ---- all words

abbrev AreRead : Result (List Reading) WordFault → Type 0
AreRead read = (words : List Reading) → read ≡ Ok words → AllByRecursion (λ word. SoundText word.class word.text) words

with-read : (word : Reading) (others : Result (List Reading) WordFault) → SoundText word.class word.text → AreRead others → AreRead (with_word word others)
with-read word (Ok ws) sound rest words e = subst (AllByRecursion (λ (w : Reading). SoundText w.class w.text)) (ok_is {C = WordFault} (word ∷ ws) words e) (sound, rest ws refl)
with-read word (Err fault) sound rest words e = absurd cc

on-read : (place : ℕ) (bytes : List ℕ) (front : Result Front WordFault) (others : ℕ → Result (List Reading) WordFault) → FrontIs bytes front → ((n : ℕ) → AreRead (others n)) → AreRead (read_on place bytes front others)
on-read place bytes (Err fault) others is rest = λ words e. absurd cc
on-read place bytes (Ok (Gap n)) others is rest = rest n
on-read place bytes (Ok (Found class n)) others is rest = with-read (record { class = class; text = take n bytes; place = place }) (others n) (is class n refl) (rest n)

following-read : (read place : ℕ) (bytes : List ℕ) → AreBytes bytes → AreRead (words_after read place bytes)
unfolding words_after
following-read read place [] are = λ words e. subst (AllByRecursion (λ (w : Reading). SoundText w.class w.text)) (ok_is {C = WordFault} [] words e) tt
following-read (suc read) place (b ∷ rest) are = following-read read (suc place) rest are.1
following-read zero place (b ∷ rest) are = on-read place (b ∷ rest) (front_at place (b ∷ rest)) (λ n. words_after (n - 1) (suc place) rest) (front-sound place (b ∷ rest) are) (λ n. following-read (n - 1) (suc place) rest are.1)

tokens-sound : (words : List Reading) → AllByRecursion (λ word. SoundText word.class word.text) words → AreSound (map token_of words)
tokens-sound words all = All-map (λ (word : Reading). SoundText word.class word.text) Sound token_of (λ word sound. sound) words all

some-sound : (read : Result (List Reading) WordFault) → AreRead read → AreSound (words_or_none read)
some-sound (Ok words) are = tokens-sound words (are words refl)
some-sound (Err fault) are = tt

cut-sound : (place : ℕ) (text : List ℕ) → AreBytes text → AreSound (cut_at place text).words
cut-sound place text are = some-sound (words_of (take place text)) (following-read 0 0 (take place text) (All-take (λ b. b < 256) place text are))

to-sound : (text : List ℕ) (read : Result (List Reading) WordFault) → AreBytes text → AreRead read → AreSound (words_to text read).words
to-sound text (Ok words) are read = tokens-sound words (read words refl)
to-sound text (Err (faults.Unclosed place)) are read = cut-sound place text are
to-sound text (Err (faults.Odd place)) are read = cut-sound place text are
to-sound text (Err (faults.TooLong place)) are read = cut-sound place text are
to-sound text (Err faults.Memory) are read = cut-sound 0 text are

pub text-sound : (text : List ℕ) → AreBytes text → AreSound (text_words text).words
unfolding text_words
text-sound text are = to-sound text (words_of text) are (following-read 0 0 text are)
