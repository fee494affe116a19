-- What is printed is read as the one word that stands for it.
use Rattle.std.proofs.Common.{◌≡◌, ℕ, ◌+◌, ◌*◌, ◌/◌, ◌%◌, ◌<◌, ◌≤◌, Bool, true, false, nat_eq, nat_lt, List, [], ◌∷◌, ◌++◌, length, Some, Ok, refl, sym, ap, ◌∙◌, subst, arith, append_assoc, length-append, eq-eqb}
use Rattle.std.specs.List.{flat_map, AllByRecursion}
use Rattle.std.specs.Option.{option_map}
use Rattle.std.specs.Char.{is_ascii_hexdigit, digit_value, digit_char}
use Rattle.std.proofs.lemmas.Str.{digit_value-digit_char}
use Rattle.std.proofs.lemmas.Bool.Decides.{nat_tests}
use Rattle.std.proofs.lemmas.List.{append-nil, take_at, drop_at}
use Rattle.std.proofs.lemmas.Bool.{eqb-true, ltb-true, ltb-false, cond_both}
use Rattle.sql_words.specs.declared.word.WordClass.{WordClass}
use Rattle.sql_words.specs.declared.word.WordClass.TheVariants as class
use Rattle.sql_words.specs.declared.front.Front.TheVariants.{Found}
use Rattle.sql_words.specs.Characters.{begins_with}
use Rattle.sql_words.specs.Quoted.{length_of, and_then, escaped, text_inside, bytes_inside}
use Rattle.sql_words.specs.Front.{quoted, bytes_or_name, name_length, front_at}
use Rattle.sql_words.specs.Readings.{with_word, words_after, words_of}
use Rattle.sql_words.specs.Meanings.{text_value, bytes_value}
use Rattle.sql_words.specs.Printed.{spelled, printed_text, hex_pair, printed_bytes}
use Rattle.sql_words.proofs.Inside.{text_inside-step, is_pair, bytes_inside-pair, bytes_inside-end}
use Rattle.sql_words.proofs.Following.{words_after-found, words_after-end}

-- a word that stands at the front of what follows it
pub words_after-append : (kind : WordClass) (place : ℕ) (word rest : List ℕ) → 0 < length word → front_at place (word ++ rest) ≡ Ok (Found kind (length word))
    → words_after 0 place (word ++ rest) ≡ with_word (record { class = kind; text = word; place = place }) (words_after 0 (place + length word) rest)
words_after-append kind place word rest some e =
    words_after-found place (length word) kind (word ++ rest) (omega (arith, length-append word rest)) some e ∙ rw (take_at word rest (length word) refl, drop_at word rest (length word) refl) refl

-- the one word of a text
pub words_of-one : (kind : WordClass) (word : List ℕ) → 0 < length word → front_at 0 word ≡ Ok (Found kind (length word)) → words_of word ≡ Ok (record { class = kind; text = word; place = 0 } ∷ [])
words_of-one kind word some e =
    let whole : word ++ [] ≡ word = append-nil word in
    ap words_of (sym whole) ∙ words_after-append kind 0 word [] some (ap (front_at 0) whole ∙ e) ∙ ap (with_word (record { class = kind; text = word; place = 0 })) (words_after-end (0 + length word))

-- ---- texts

-- these bytes spell this one in front of whatever follows
record Spells (b : ℕ) (bytes : List ℕ) : Type 0 where
  read : (rest : List ℕ) → text_inside 39 (bytes ++ rest) ≡ and_then (record { value = b ∷ []; length = length bytes }) (text_inside 39 rest)

spells_escape : (b c : ℕ) → escaped c ≡ b ∷ [] → Spells b (92 ∷ c ∷ [])
spells_escape b c e = record { read = λ rest. text_inside-step 39 92 (c ∷ rest) ∙ ap (λ v. and_then (record { value = v; length = 2 }) (text_inside 39 rest)) e }

spells_quote : Spells 39 (39 ∷ 39 ∷ [])
spells_quote = record { read = λ rest. text_inside-step 39 39 (39 ∷ rest) }

spells_itself : (b : ℕ) → nat_eq b 39 ≡ false → nat_eq b 92 ≡ false → Spells b (b ∷ [])
spells_itself b quote slash = record { read = λ rest. text_inside-step 39 b rest ∙ rw (quote, slash) refl }

spelled-spells : (b : ℕ) → Spells b (spelled b)
spelled-spells b =
    let same : (c : ℕ) (bytes : List ℕ) → Spells c bytes → nat_eq b c ≡ true → Spells b bytes = λ c bytes s e. subst (λ k. Spells k bytes) (sym (eqb-true b c e)) s in
    cond_both (nat_eq b 39) _ _ (Spells b) (same 39 _ spells_quote)
    (λ quote. cond_both (nat_eq b 92) _ _ (Spells b) (same 92 _ (spells_escape 92 92 refl))
    (λ slash. cond_both (nat_eq b 10) _ _ (Spells b) (same 10 _ (spells_escape 10 110 refl))
    (λ _. cond_both (nat_eq b 13) _ _ (Spells b) (same 13 _ (spells_escape 13 114 refl))
    (λ _. cond_both (nat_eq b 9) _ _ (Spells b) (same 9 _ (spells_escape 9 116 refl))
    (λ _. cond_both (nat_eq b 0) _ _ (Spells b) (same 0 _ (spells_escape 0 48 refl))
    (λ _. spells_itself b quote slash))))))

-- what stands behind the opening quote of a printed text
text_inside-spelled : (value rest : List ℕ) → begins_with 39 rest ≡ false → text_inside 39 (flat_map spelled value ++ 39 ∷ rest) ≡ Some (record { value = value; length = length (flat_map spelled value) + 1 })
text_inside-spelled [] rest single = text_inside-step 39 39 rest ∙ rw single refl
text_inside-spelled (b ∷ value) rest single =
    let others = flat_map spelled value in
    let size : length (spelled b) + (length others + 1) ≡ length (spelled b ++ others) + 1 = omega (arith, length-append (spelled b) others) in
    ap (text_inside 39) (append_assoc (spelled b) others (39 ∷ rest)) ∙ (spelled-spells b).read (others ++ 39 ∷ rest) ∙ ap (and_then (record { value = b ∷ []; length = length (spelled b) })) (text_inside-spelled value rest single)
    ∙ ap (λ n. Some (record { value = b ∷ value; length = n })) size

text_size : (value : List ℕ) → 1 + (length (flat_map spelled value) + 1) ≡ length (printed_text value)
text_size value = omega (arith, length-append (flat_map spelled value) (39 ∷ []))

pub front_at-printed_text : (place : ℕ) (value rest : List ℕ) → begins_with 39 rest ≡ false → front_at place (printed_text value ++ rest) ≡ Ok (Found class.Text (length (printed_text value)))
unfolding front_at
front_at-printed_text place value rest single =
    let others = flat_map spelled value in
    let shape : printed_text value ++ rest ≡ 39 ∷ (others ++ 39 ∷ rest) = ap (λ (t : List ℕ). 39 ∷ t) (append_assoc others (39 ∷ []) rest) in
    let read : front_at place (39 ∷ (others ++ 39 ∷ rest)) ≡ quoted place class.Text (length_of (text_inside 39 (others ++ 39 ∷ rest))) = refl in
    ap (front_at place) shape ∙ read ∙ ap (λ p. quoted place class.Text (length_of p)) (text_inside-spelled value rest single) ∙ ap (λ n. Ok (Found class.Text n)) (text_size value)

pub text_value-printed_text : (value : List ℕ) → text_value (printed_text value) ≡ Some value
text_value-printed_text value =
    let inside = text_inside-spelled value [] refl in
    let all : nat_eq (length (flat_map spelled value) + 1) (length (flat_map spelled value ++ 39 ∷ [])) ≡ true = eq-eqb _ _ (sym (length-append (flat_map spelled value) (39 ∷ []))) in
    rw (inside, all) refl

pub words_of-printed_text : (value : List ℕ) → words_of (printed_text value) ≡ Ok (record { class = class.Text; text = printed_text value; place = 0 } ∷ [])
words_of-printed_text value =
    let whole : printed_text value ++ [] ≡ printed_text value = append-nil (printed_text value) in
    words_of-one class.Text (printed_text value) (omega arith) (ap (front_at 0) (sym whole) ∙ front_at-printed_text 0 value [] refl)

-- ---- bytes

hexdigit-digit_char-by : (d : ℕ) (low : Bool) → nat_lt d 10 ≡ low → d < 16 → is_ascii_hexdigit (digit_char d) ≡ true
hexdigit-digit_char-by d true e lt =
    let below : d < 10 = ltb-true d 10 e in
    let is : digit_char d ≡ 48 + d = rw e refl in
    rw is (grind (arith, nat_tests, below))
hexdigit-digit_char-by d false e lt =
    let above : 10 ≤ d = ltb-false d 10 e in
    let is : digit_char d ≡ 87 + d = rw e refl in
    rw is (grind (arith, nat_tests, above, lt))

hexdigit-digit_char : (d : ℕ) → d < 16 → is_ascii_hexdigit (digit_char d) ≡ true
hexdigit-digit_char d lt = hexdigit-digit_char-by d (nat_lt d 10) refl lt

bytes_inside-hex_pair : (b : ℕ) (rest : List ℕ) → b < 256 → bytes_inside (hex_pair b ++ rest) ≡ and_then (record { value = b ∷ []; length = 2 }) (bytes_inside rest)
bytes_inside-hex_pair b rest small =
    let high : b / 16 < 16 = omega arith in
    let low : b % 16 < 16 = omega arith in
    let pair : is_pair (hex_pair b ++ rest) ≡ true = rw (hexdigit-digit_char (b / 16) high, hexdigit-digit_char (b % 16) low) refl in
    let back : 16 * digit_value (digit_char (b / 16)) + digit_value (digit_char (b % 16)) ≡ b = rw (digit_value-digit_char (b / 16) (omega arith), digit_value-digit_char (b % 16) (omega arith)) (omega arith) in
    bytes_inside-pair (hex_pair b ++ rest) pair ∙ ap (λ k. and_then (record { value = k ∷ []; length = 2 }) (bytes_inside rest)) back

bytes_inside-printed : (value rest : List ℕ) → AllByRecursion (λ b. b < 256) value → bytes_inside (flat_map hex_pair value ++ 39 ∷ rest) ≡ Some (record { value = value; length = length (flat_map hex_pair value) + 1 })
bytes_inside-printed [] rest small = bytes_inside-end (39 ∷ rest) refl
bytes_inside-printed (b ∷ value) rest small =
    let others = flat_map hex_pair value in
    let size : 2 + (length others + 1) ≡ length (hex_pair b ++ others) + 1 = omega (arith, length-append (hex_pair b) others) in
    ap bytes_inside (append_assoc (hex_pair b) others (39 ∷ rest)) ∙ bytes_inside-hex_pair b (others ++ 39 ∷ rest) small.0 ∙ ap (and_then (record { value = b ∷ []; length = 2 })) (bytes_inside-printed value rest small.1)
    ∙ ap (λ n. Some (record { value = b ∷ value; length = n })) size

pub front_at-printed_bytes : (place : ℕ) (value rest : List ℕ) → AllByRecursion (λ b. b < 256) value → front_at place (printed_bytes value ++ rest) ≡ Ok (Found class.Bytes (length (printed_bytes value)))
unfolding front_at
front_at-printed_bytes place value rest small =
    let others = flat_map hex_pair value in
    let size : 2 + (length others + 1) ≡ length (printed_bytes value) = omega (arith, length-append others (39 ∷ [])) in
    let shape : printed_bytes value ++ rest ≡ 120 ∷ 39 ∷ (others ++ 39 ∷ rest) = ap (λ (t : List ℕ). 120 ∷ 39 ∷ t) (append_assoc others (39 ∷ []) rest) in
    let name = name_length (120 ∷ 39 ∷ (others ++ 39 ∷ rest)) in
    let read : front_at place (120 ∷ 39 ∷ (others ++ 39 ∷ rest)) ≡ Ok (bytes_or_name (option_map (λ n. 2 + n) (length_of (bytes_inside (others ++ 39 ∷ rest)))) name) = refl in
    ap (front_at place) shape ∙ read ∙ ap (λ p. Ok (bytes_or_name (option_map (λ n. 2 + n) (length_of p)) name)) (bytes_inside-printed value rest small) ∙ ap (λ n. Ok (Found class.Bytes n)) size

pub bytes_value-printed_bytes : (value : List ℕ) → AllByRecursion (λ b. b < 256) value → bytes_value (printed_bytes value) ≡ Some value
bytes_value-printed_bytes value small =
    let inside = bytes_inside-printed value [] small in
    let all : nat_eq (length (flat_map hex_pair value) + 1) (length (flat_map hex_pair value ++ 39 ∷ [])) ≡ true = eq-eqb _ _ (sym (length-append (flat_map hex_pair value) (39 ∷ []))) in
    rw (inside, all) refl

pub words_of-printed_bytes : (value : List ℕ) → AllByRecursion (λ b. b < 256) value → words_of (printed_bytes value) ≡ Ok (record { class = class.Bytes; text = printed_bytes value; place = 0 } ∷ [])
words_of-printed_bytes value small =
    let whole : printed_bytes value ++ [] ≡ printed_bytes value = append-nil (printed_bytes value) in
    words_of-one class.Bytes (printed_bytes value) (omega arith) (ap (front_at 0) (sym whole) ∙ front_at-printed_bytes 0 value [] small)
