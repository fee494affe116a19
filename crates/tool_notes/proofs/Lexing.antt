-- The literals of texts, piece by piece.
use Rattle.std.proofs.Common.{◌≡◌, ◌∙◌, ℕ, suc, ◌+◌, ◌<◌, ◌^◌, false, List, [], ◌∷◌, ◌++◌, length, get_or, Some, Ok, refl, sym, ap, subst, codes, arith, lit<, append_assoc, append-nil}
use Rattle.std.specs.Prelude.{ℤ, pos, negsuc, neg_ℤ}
use Rattle.std.specs.Char.{is_ascii_digit}
use Rattle.std.specs.Fmt.{decimal}
use Rattle.std.specs.List.{flat_map, AllByRecursion}
use Rattle.std.specs.Option.{option_map, option_to_list}
use Rattle.base_values.specs.declared.value.Value.{Value}
use Rattle.base_values.specs.declared.value.Value.TheVariants.{Null, Num, Text, Blob}
use Rattle.base_values.specs.Literals.{printed, listed, printed_row}
use Rattle.sql_words.specs.declared.word.WordClass.{WordClass}
use Rattle.sql_words.specs.declared.word.WordClass.TheVariants as class
use Rattle.sql_words.specs.declared.front.Front.TheVariants.{Found}
use Rattle.sql_words.specs.Characters.{begins_with}
use Rattle.sql_words.specs.Front.{front_at}
use Rattle.sql_words.specs.Meanings.{number_value}
use Rattle.sql_words.specs.Readings.{Reading, with_word, words_after}
use Rattle.sql_words.proofs.Following.{words_after-gap, words_after-end}
use Rattle.sql_words.proofs.NumberWords.{front_at-number_value, number_value-unsigned, number_value-minus}
use Rattle.sql_words.proofs.Reprinted.{words_after-append, front_at-printed_text, text_value-printed_text, front_at-printed_bytes, bytes_value-printed_bytes}
use Rattle.sql_grammar.proofs.WordValues.ReadBack.{decimal_digits, decimal_value}
use Rattle.sql_grammar.specs.WordValues.ReadBack.{word_value, IsLiteral}
use Rattle.tool_notes.specs.Readings.{literals_among, literals_read, literals}

-- the literals of these bytes, wherever they stand
abbrev pub Tells : List ℕ → List Value → Type 0
Tells bytes values = (place : ℕ) → (ws : List Reading) × (words_after 0 place bytes ≡ Ok ws) × (literals_among ws ≡ values)

pub reported : (bytes : List ℕ) (values : List Value) → Tells bytes values → literals bytes ≡ values
reported bytes values tells = let r = tells 0 in ap literals_read r.1 ∙ r.2

tells-end : Tells [] []
tells-end place = ([], words_after-end place, refl)

-- a blank is passed over
tells-blank : (rest : List ℕ) (values : List Value) → Tells rest values → Tells (32 ∷ rest) values
unfolding front_at
tells-blank rest values tells place =
    let r = tells (place + 1) in
    (r.0, words_after-gap place 1 (32 ∷ rest) (omega arith) (omega arith) refl ∙ r.1, r.2)

tells-word : (kind : WordClass) (word rest : List ℕ) (values : List Value) → 0 < length word → ((place : ℕ) → front_at place (word ++ rest) ≡ Ok (Found kind (length word))) → Tells rest values
    → Tells (word ++ rest) (option_to_list (word_value kind word) ++ values)
tells-word kind word rest values some front tells place =
    let r = tells (place + length word) in
    let here : Reading = record { class = kind; text = word; place = place } in
    (here ∷ r.0, words_after-append kind place word rest some (front place) ∙ ap (with_word here) r.1, ap (λ (more : List Value). option_to_list (word_value kind word) ++ more) r.2)

-- ---- values

-- neither a digit nor a quote stands in front
abbrev pub IsEnd : List ℕ → Type 0
IsEnd rest = (is_ascii_digit (get_or rest 0 0) ≡ false) × (begins_with 39 rest ≡ false)

-- the value's text is one word, which stands for it
record IsWord (value : Value) (text : List ℕ) : Type 0 where
  pub kind : WordClass
  pub some : 0 < length text
  pub front : (place : ℕ) (rest : List ℕ) → IsEnd rest → front_at place (text ++ rest) ≡ Ok (Found kind (length text))
  pub is : word_value kind text ≡ Some value

number_word : (number : ℤ) (text : List ℕ) → 0 < length text → number_value text ≡ Some number → IsWord (Num number) text
number_word number text some is = record { kind = class.Number; some = some; front = λ place rest end. front_at-number_value place text rest number is end.0; is = ap (option_map Num) is }

value_word : (value : Value) → IsLiteral value → IsWord value (printed value)
unfolding printed
value_word Null literal = absurd literal
value_word (Num (pos n)) literal =
    let digits = decimal_digits n literal in
    number_word (pos n) (decimal n) digits.some (number_value-unsigned (decimal n) digits ∙ ap (λ (k : ℕ). Some (pos k)) (decimal_value n literal))
value_word (Num (negsuc n)) literal =
    let digits = decimal_digits (suc n) literal in
    number_word (negsuc n) (45 ∷ decimal (suc n)) (omega arith) (number_value-minus (decimal (suc n)) digits ∙ ap (λ (k : ℕ). Some (neg_ℤ (pos k))) (decimal_value (suc n) literal))
value_word (Text text) literal =
    record { kind = class.Text; some = omega arith; front = λ place rest end. front_at-printed_text place text rest end.1; is = ap (option_map Text) (text_value-printed_text text) }
value_word (Blob blob) literal =
    record { kind = class.Bytes; some = omega arith; front = λ place rest end. front_at-printed_bytes place blob rest literal; is = ap (option_map Blob) (bytes_value-printed_bytes blob literal) }

tells-value : (value : Value) (rest : List ℕ) (values : List Value) → IsLiteral value → IsEnd rest → Tells rest values → Tells (printed value ++ rest) (value ∷ values)
tells-value value rest values literal end tells =
    let word = value_word value literal in
    subst (λ (front : List Value). Tells (printed value ++ rest) (front ++ values)) (ap option_to_list word.is) (tells-word word.kind (printed value) rest values word.some (λ place. word.front place rest end) tells)

-- ---- positions and rows

pub tells_number : (number : ℕ) → number < 2 ^ 64 → literals (decimal number) ≡ Num (pos number) ∷ []
unfolding printed
tells_number number wide =
    let more : 2 ^ 64 < 10 ^ 38 = lit< tt in
    let all : Tells (decimal number ++ []) (Num (pos number) ∷ []) = tells-value (Num (pos number)) [] [] (omega arith) (refl, refl) tells-end in
    ap literals (sym (append-nil (decimal number))) ∙ reported (decimal number ++ []) (Num (pos number) ∷ []) all

-- the other values and the closing parenthesis
abbrev others : List Value → List ℕ
others values = flat_map (λ next. codes ", " ++ printed next) values ++ codes ")"

others_end : (values : List Value) → IsEnd (others values)
others_end [] = (refl, refl)
others_end (value ∷ values) = (refl, refl)

tells-others : (values : List Value) → AllByRecursion IsLiteral values → Tells (others values) values
unfolding front_at
tells-others [] all = tells-word class.Sign (codes ")") [] [] (omega arith) (λ place. refl) tells-end
tells-others (value ∷ values) all =
    let following = tells-value value (others values) values all.0 (others_end values) (tells-others values all.1) in
    let apart : (printed value ++ flat_map (λ next. codes ", " ++ printed next) values) ++ codes ")" ≡ printed value ++ others values = append_assoc (printed value) (flat_map (λ next. codes ", " ++ printed next) values) (codes ")") in
    subst (λ (text : List ℕ). Tells (44 ∷ 32 ∷ text) (value ∷ values)) (sym apart)
    (tells-word class.Sign (codes ",") (32 ∷ (printed value ++ others values)) (value ∷ values) (omega arith) (λ place. refl) (tells-blank (printed value ++ others values) (value ∷ values) following))

inside : (key : List Value) → AllByRecursion IsLiteral key → Tells (listed key ++ codes ")") key
unfolding listed
inside [] all = tells-others [] tt
inside (value ∷ values) all =
    let apart : (printed value ++ flat_map (λ next. codes ", " ++ printed next) values) ++ codes ")" ≡ printed value ++ others values = append_assoc (printed value) (flat_map (λ next. codes ", " ++ printed next) values) (codes ")") in
    subst (λ (text : List ℕ). Tells text (value ∷ values)) (sym apart) (tells-value value (others values) values all.0 (others_end values) (tells-others values all.1))

pub tells_row : (key : List Value) → AllByRecursion IsLiteral key → literals (printed_row key) ≡ key
unfolding printed_row front_at
tells_row key all = reported (printed_row key) key (tells-word class.Sign (codes "(") (listed key ++ codes ")") key (omega arith) (λ place. refl) (inside key all))
