-- The words of a workload's statements and rows.
use Rattle.std.proofs.Common.{◌≡◌, ◌∙◌, ℕ, ◌+◌, ◌<◌, ◌^◌, true, false, ◌==◌, List, [], ◌∷◌, ◌++◌, length, Ok, refl, ap, subst, codes, arith, lit<, append-nil, append_assoc}
use Rattle.std.specs.Prelude.{pos}
use Rattle.std.proofs.lemmas.Bool.{and_parts}
use Rattle.std.proofs.lemmas.Bool.Decides.{nat_tests}
use Rattle.std.proofs.lemmas.Fmt.{decimal_nonempty}
use Rattle.std.specs.Char.{is_ascii_digit}
use Rattle.std.specs.Fmt.{decimal}
use Rattle.std.specs.List.{flat_map, list_all}
use Rattle.sql_words.specs.declared.word.WordClass.TheVariants as class
use Rattle.sql_words.specs.declared.front.Front.TheVariants.{Found}
use Rattle.sql_words.specs.Front.{front_at}
use Rattle.sql_words.specs.Printed.{spelled, printed_text}
use Rattle.sql_words.proofs.NumberWords.{front_at-number_value}
use Rattle.sql_words.proofs.Reprinted.{front_at-printed_text}
use Rattle.sql_grammar.specs.declared.token.Token.{Token}
use Rattle.sql_grammar.specs.Tokens.{text_words}
use Rattle.proof_schemas.specs.Printed.Words.{keyword, sign_word, number_word}
use Rattle.proof_schemas.proofs.Printed.Lexing.{Lexes, lex-end, lex-gap, lex-word, IsEnd}
use Rattle.proof_schemas.proofs.Printed.Numbers.{number_value-decimal}
use Rattle.proof_schemas.proofs.Printed.Pieces.{end-digit, end-quote}
use Rattle.proof_schemas.proofs.Printed.Tables.{lexes-words}
use Rattle.law_texts.proofs.Workloads.Document.Texts.{values_text, where_sql, delete_sql, set_sql, change_sql, move_sql, insert_sql}
use Rattle.law_texts.proofs.Numerals.{are_digits}

-- ---- numbers

pub short : (n : ℕ) → n < 2 ^ 64 → n < 10 ^ 38
short n wide = let more : 2 ^ 64 < 10 ^ 38 = lit< tt in omega arith

number_then : (n : ℕ) (rest : List ℕ) (ts : List Token) → n < 2 ^ 64 → IsEnd rest → Lexes rest ts → Lexes (decimal n ++ rest) (number_word (decimal n) ∷ ts)
number_then n rest ts wide end lex = lex-word class.Number (decimal n) rest ts (decimal_nonempty n wide) (λ place. front_at-number_value place (decimal n) rest (pos n) (number_value-decimal n (short n wide)) (end-digit rest end)) lex

pub last_number : (n : ℕ) → n < 2 ^ 64 → Lexes (decimal n) (number_word (decimal n) ∷ [])
last_number n wide = subst (λ (text : List ℕ). Lexes text (number_word (decimal n) ∷ [])) (append-nil (decimal n)) (number_then n [] [] wide tt lex-end)

-- ---- texts of a letter and a number

abbrev pub text_word : List ℕ → Token
text_word value = record { class = class.Text; text = printed_text value }

spelled_digit : (digit : ℕ) → is_ascii_digit digit ≡ true → spelled digit ≡ digit ∷ []
spelled_digit digit is =
    let quote : (digit == 39) ≡ false = grind (arith, nat_tests) in
    let backslash : (digit == 92) ≡ false = grind (arith, nat_tests) in
    let feed : (digit == 10) ≡ false = grind (arith, nat_tests) in
    let back : (digit == 13) ≡ false = grind (arith, nat_tests) in
    let tab : (digit == 9) ≡ false = grind (arith, nat_tests) in
    let none : (digit == 0) ≡ false = grind (arith, nat_tests) in
    rw (quote, backslash, feed, back, tab, none) refl

spelled_all : (digits : List ℕ) → list_all is_ascii_digit digits ≡ true → flat_map spelled digits ≡ digits
spelled_all [] all = refl
spelled_all (digit ∷ digits) all =
    let parts = and_parts (is_ascii_digit digit) (list_all is_ascii_digit digits) all in
    ap (λ (front : List ℕ). front ++ flat_map spelled digits) (spelled_digit digit parts.0) ∙ ap (λ (more : List ℕ). digit ∷ more) (spelled_all digits parts.1)

-- the letter is no escape
abbrev pub IsLetter : ℕ → Type 0
IsLetter letter = spelled letter ≡ letter ∷ []

printed_is : (letter n : ℕ) → IsLetter letter → n < 2 ^ 64 → printed_text (letter ∷ decimal n) ≡ 39 ∷ letter ∷ (decimal n ++ 39 ∷ [])
printed_is letter n is wide =
    ap (λ (text : List ℕ). 39 ∷ ((text ++ flat_map spelled (decimal n)) ++ 39 ∷ [])) is ∙ ap (λ (text : List ℕ). 39 ∷ letter ∷ (text ++ 39 ∷ [])) (spelled_all (decimal n) (are_digits n wide))

text_then : (letter n : ℕ) (rest : List ℕ) (ts : List Token) → IsLetter letter → n < 2 ^ 64 → IsEnd rest → Lexes rest ts → Lexes (39 ∷ letter ∷ (decimal n ++ (39 ∷ rest))) (text_word (letter ∷ decimal n) ∷ ts)
text_then letter n rest ts is wide end lex =
    let value : List ℕ = letter ∷ decimal n in
    let same : printed_text value ++ rest ≡ 39 ∷ letter ∷ (decimal n ++ (39 ∷ rest)) =
    ap (λ (text : List ℕ). text ++ rest) (printed_is letter n is wide) ∙ ap (λ (text : List ℕ). 39 ∷ letter ∷ text) (append_assoc (decimal n) (39 ∷ []) rest) in
    subst (λ (text : List ℕ). Lexes text (text_word value ∷ ts)) same (lex-word class.Text (printed_text value) rest ts (omega arith) (λ place. front_at-printed_text place value rest (end-quote rest end)) lex)

-- ---- names

-- a name and the blank behind it
name_then : (name rest : List ℕ) (ts : List Token) → 0 < length name → ((place : ℕ) → front_at place (name ++ (32 ∷ rest)) ≡ Ok (Found class.Name (length name))) → Lexes rest ts → Lexes (name ++ (32 ∷ rest)) (keyword name ∷ ts)
name_then name rest ts some front lex = lex-word class.Name name (32 ∷ rest) ts some front (lex-gap 32 rest ts refl lex)

-- ---- the values of a row in parentheses

abbrev pub values_words : ℕ → ℕ → ℕ → List Token
values_words letter key value =
    sign_word (codes "(") ∷ number_word (decimal key) ∷ sign_word (codes ",") ∷ text_word (letter ∷ decimal key) ∷ sign_word (codes ",") ∷ number_word (decimal value) ∷ sign_word (codes ")") ∷ []

pub lex_values : (letter key value : ℕ) → IsLetter letter → key < 2 ^ 64 → value < 2 ^ 64 → Lexes (values_text letter key value) (values_words letter key value)
unfolding front_at
lex_values letter key value is wide also =
    let last : Lexes (41 ∷ []) (sign_word (codes ")") ∷ []) = lex-word class.Sign (codes ")") [] [] (omega arith) (λ place. refl) lex-end in
    let number = number_then value (41 ∷ []) _ also (refl, refl, refl) last in
    let text = text_then letter key (44 ∷ 32 ∷ (decimal value ++ 41 ∷ [])) _ is wide (refl, refl, refl) (lex-word class.Sign (codes ",") (32 ∷ (decimal value ++ 41 ∷ [])) _ (omega arith) (λ place. refl) (lex-gap 32 (decimal value ++ 41 ∷ []) _ refl number)) in
    let following : List ℕ = 39 ∷ letter ∷ (decimal key ++ (39 ∷ 44 ∷ 32 ∷ (decimal value ++ 41 ∷ []))) in
    let first = number_then key (44 ∷ 32 ∷ following) _ wide (refl, refl, refl) (lex-word class.Sign (codes ",") (32 ∷ following) _ (omega arith) (λ place. refl) (lex-gap 32 following _ refl text)) in
    lex-word class.Sign (codes "(") (decimal key ++ (44 ∷ 32 ∷ following)) _ (omega arith) (λ place. refl) first

-- ---- conditions and statements

abbrev pub where_words : ℕ → List Token
where_words key = keyword (codes "WHERE") ∷ keyword (codes "id") ∷ sign_word (codes "=") ∷ number_word (decimal key) ∷ []

lex_where : (key : ℕ) → key < 2 ^ 64 → Lexes (where_sql key) (where_words key)
unfolding front_at
lex_where key wide =
    lex-gap 32 (codes "WHERE id = " ++ decimal key) _ refl
    (name_then (codes "WHERE") (codes "id = " ++ decimal key) _ (omega arith) (λ place. refl)
    (name_then (codes "id") (codes "= " ++ decimal key) _ (omega arith) (λ place. refl)
    (lex-word class.Sign (codes "=") (codes " " ++ decimal key) _ (omega arith) (λ place. refl) (lex-gap 32 (decimal key) _ refl (last_number key wide)))))

abbrev pub delete_words : ℕ → List Token
delete_words key = keyword (codes "DELETE") ∷ keyword (codes "FROM") ∷ keyword (codes "g") ∷ where_words key

lex_delete : (key : ℕ) → key < 2 ^ 64 → Lexes (delete_sql key) (delete_words key)
unfolding front_at
lex_delete key wide =
    name_then (codes "DELETE") (codes "FROM g" ++ where_sql key) _ (omega arith) (λ place. refl)
    (name_then (codes "FROM") (codes "g" ++ where_sql key) _ (omega arith) (λ place. refl)
    (lex-word class.Name (codes "g") (where_sql key) _ (omega arith) (λ place. refl) (lex_where key wide)))

abbrev pub update_words : List ℕ → ℕ → ℕ → List Token
update_words column value key =
    keyword (codes "UPDATE") ∷ keyword (codes "g") ∷ keyword (codes "SET") ∷ keyword column ∷ sign_word (codes "=") ∷ number_word (decimal value) ∷ where_words key

lex_set : (value key : ℕ) → value < 2 ^ 64 → key < 2 ^ 64 → Lexes (set_sql value key) (sign_word (codes "=") ∷ number_word (decimal value) ∷ where_words key)
unfolding front_at
lex_set value key wide also =
    lex-word class.Sign (codes "=") (32 ∷ (decimal value ++ where_sql key)) _ (omega arith) (λ place. refl)
    (lex-gap 32 (decimal value ++ where_sql key) _ refl (number_then value (where_sql key) _ wide (refl, refl, refl) (lex_where key also)))

lex_change : (key value : ℕ) → value < 2 ^ 64 → key < 2 ^ 64 → Lexes (change_sql key value) (update_words (codes "v") value key)
unfolding front_at
lex_change key value wide also =
    name_then (codes "UPDATE") (codes "g SET v " ++ set_sql value key) _ (omega arith) (λ place. refl)
    (name_then (codes "g") (codes "SET v " ++ set_sql value key) _ (omega arith) (λ place. refl)
    (name_then (codes "SET") (codes "v " ++ set_sql value key) _ (omega arith) (λ place. refl)
    (name_then (codes "v") (set_sql value key) _ (omega arith) (λ place. refl) (lex_set value key wide also))))

lex_move : (key : ℕ) → key + 1 < 2 ^ 64 → Lexes (move_sql key) (update_words (codes "id") (key + 1) key)
unfolding front_at
lex_move key wide =
    name_then (codes "UPDATE") (codes "g SET id " ++ set_sql (key + 1) key) _ (omega arith) (λ place. refl)
    (name_then (codes "g") (codes "SET id " ++ set_sql (key + 1) key) _ (omega arith) (λ place. refl)
    (name_then (codes "SET") (codes "id " ++ set_sql (key + 1) key) _ (omega arith) (λ place. refl)
    (name_then (codes "id") (set_sql (key + 1) key) _ (omega arith) (λ place. refl) (lex_set (key + 1) key wide (omega arith)))))

abbrev pub insert_words : ℕ → ℕ → List Token
insert_words key value =
    keyword (codes "INSERT") ∷ keyword (codes "INTO") ∷ keyword (codes "g") ∷ sign_word (codes "(") ∷ keyword (codes "id") ∷ sign_word (codes ",") ∷ keyword (codes "u") ∷ sign_word (codes ",") ∷ keyword (codes "v") ∷ sign_word (codes ")")
    ∷ keyword (codes "VALUES") ∷ values_words 110 key value

lex_insert : (key value : ℕ) → key < 2 ^ 64 → value < 2 ^ 64 → Lexes (insert_sql key value) (insert_words key value)
unfolding front_at
lex_insert key value wide also =
    let values = values_text 110 key value in
    name_then (codes "INSERT") (codes "INTO g (id, u, v) VALUES " ++ values) _ (omega arith) (λ place. refl)
    (name_then (codes "INTO") (codes "g (id, u, v) VALUES " ++ values) _ (omega arith) (λ place. refl)
    (name_then (codes "g") (codes "(id, u, v) VALUES " ++ values) _ (omega arith) (λ place. refl)
    (lex-word class.Sign (codes "(") (codes "id, u, v) VALUES " ++ values) _ (omega arith) (λ place. refl)
    (lex-word class.Name (codes "id") (codes ", u, v) VALUES " ++ values) _ (omega arith) (λ place. refl)
    (lex-word class.Sign (codes ",") (codes " u, v) VALUES " ++ values) _ (omega arith) (λ place. refl) (lex-gap 32 (codes "u, v) VALUES " ++ values) _ refl
    (lex-word class.Name (codes "u") (codes ", v) VALUES " ++ values) _ (omega arith) (λ place. refl)
    (lex-word class.Sign (codes ",") (codes " v) VALUES " ++ values) _ (omega arith) (λ place. refl) (lex-gap 32 (codes "v) VALUES " ++ values) _ refl
    (lex-word class.Name (codes "v") (codes ") VALUES " ++ values) _ (omega arith) (λ place. refl)
    (lex-word class.Sign (codes ")") (codes " VALUES " ++ values) _ (omega arith) (λ place. refl) (lex-gap 32 (codes "VALUES " ++ values) _ refl
    (name_then (codes "VALUES") values _ (omega arith) (λ place. refl) (lex_values 110 key value refl wide also))))))))))))))

-- ---- whole texts

pub values_have_words : (letter key value : ℕ) → IsLetter letter → key < 2 ^ 64 → value < 2 ^ 64 → text_words (values_text letter key value) ≡ record { words = values_words letter key value; is_faulty = false }
values_have_words letter key value is wide also = lexes-words (values_text letter key value) (values_words letter key value) (lex_values letter key value is wide also)

pub insert_has_words : (key value : ℕ) → key < 2 ^ 64 → value < 2 ^ 64 → text_words (insert_sql key value) ≡ record { words = insert_words key value; is_faulty = false }
insert_has_words key value wide also = lexes-words (insert_sql key value) (insert_words key value) (lex_insert key value wide also)

pub delete_has_words : (key : ℕ) → key < 2 ^ 64 → text_words (delete_sql key) ≡ record { words = delete_words key; is_faulty = false }
delete_has_words key wide = lexes-words (delete_sql key) (delete_words key) (lex_delete key wide)

pub change_has_words : (key value : ℕ) → value < 2 ^ 64 → key < 2 ^ 64 → text_words (change_sql key value) ≡ record { words = update_words (codes "v") value key; is_faulty = false }
change_has_words key value wide also = lexes-words (change_sql key value) (update_words (codes "v") value key) (lex_change key value wide also)

pub move_has_words : (key : ℕ) → key + 1 < 2 ^ 64 → text_words (move_sql key) ≡ record { words = update_words (codes "id") (key + 1) key; is_faulty = false }
move_has_words key wide = lexes-words (move_sql key) (update_words (codes "id") (key + 1) key) (lex_move key wide)
