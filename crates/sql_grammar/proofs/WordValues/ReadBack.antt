-- Values are printed as words are, so the laws of words say how they are read.
use Rattle.std.proofs.Common.{◌≡◌, ℕ, suc, ◌^◌, ◌<◌, List, [], ◌∷◌, Some, Ok, refl, ap, ◌∙◌, arith, lit<}
use Rattle.std.specs.Prelude.{ℤ, pos, negsuc, neg_ℤ, unsigned_abs}
use Rattle.std.specs.Fmt.{decimal}
use Rattle.std.specs.Option.{option_map}
use Rattle.std.specs.Str.Parse.{digits_value}
use Rattle.std.proofs.lemmas.Fmt.{decimal_is_IsNumeral_wide, length-decimal-le_wide}
use Rattle.base_values.specs.declared.value.Value.TheVariants.{Num, Text, Blob}
use Rattle.base_values.specs.Literals.{printed}
use Rattle.sql_words.specs.declared.word.WordClass.TheVariants as class
use Rattle.sql_words.specs.Front.{front_at}
use Rattle.sql_words.specs.Meanings.{text_value, bytes_value, number_value, AreDigits}
use Rattle.sql_words.specs.Printed.{printed_text, printed_bytes}
use Rattle.sql_words.specs.Readings.{words_after, words_of}
use Rattle.sql_words.proofs.Numbers.{own}
use Rattle.sql_grammar.specs.WordValues.ReadBack.{ReadsBack, NullIsName}

pub null_is_name : NullIsName
unfolding printed words_after front_at
null_is_name = refl

pub text_reads_back : (text : List ℕ) → words_of (printed_text text) ≡ Ok (record { class = class.Text; text = printed_text text; place = 0 } ∷ []) → text_value (printed_text text) ≡ Some text → ReadsBack (Text text)
unfolding printed
text_reads_back text word value = (class.Text, word, ap (option_map Text) value)

pub bytes_read_back : (bytes : List ℕ) → words_of (printed_bytes bytes) ≡ Ok (record { class = class.Bytes; text = printed_bytes bytes; place = 0 } ∷ []) → bytes_value (printed_bytes bytes) ≡ Some bytes → ReadsBack (Blob bytes)
unfolding printed
bytes_read_back bytes word value = (class.Bytes, word, ap (option_map Blob) value)

-- ---- numbers

wide : (n : ℕ) → n < 10 ^ 38 → n < 10 ^ 64
wide n few = let more : 10 ^ 38 < 10 ^ 64 = lit< tt in omega arith

pub decimal_digits : (n : ℕ) → n < 10 ^ 38 → AreDigits (decimal n)
decimal_digits n few =
    let numeral = (decimal_is_IsNumeral_wide n (wide n few)).0 in
    let positive : 0 < 38 = omega arith in
    record { all = own.from (decimal n) numeral.1; some = numeral.0; few = length-decimal-le_wide 38 n positive few (wide n few) }

pub decimal_value : (n : ℕ) → n < 10 ^ 38 → digits_value 10 (decimal n) ≡ n
decimal_value n few = (decimal_is_IsNumeral_wide n (wide n few)).1

module _
    (word : (bytes : List ℕ) (number : ℤ) → number_value bytes ≡ Some number → words_of bytes ≡ Ok (record { class = class.Number; text = bytes; place = 0 } ∷ []))
    (unsigned : (digits : List ℕ) → AreDigits digits → number_value digits ≡ Some (pos (digits_value 10 digits)))
    (after_minus : (digits : List ℕ) → AreDigits digits → number_value (45 ∷ digits) ≡ Some (neg_ℤ (pos (digits_value 10 digits))))
  where
    pub number_reads_back : (number : ℤ) → unsigned_abs number < 10 ^ 38 → ReadsBack (Num number)
    unfolding printed
    number_reads_back (pos n) few =
        let value : number_value (decimal n) ≡ Some (pos n) = unsigned (decimal n) (decimal_digits n few) ∙ ap (λ k. Some (pos k)) (decimal_value n few) in
        (class.Number, word (decimal n) (pos n) value, ap (option_map Num) value)
    number_reads_back (negsuc n) few =
        let value : number_value (45 ∷ decimal (suc n)) ≡ Some (negsuc n) = after_minus (decimal (suc n)) (decimal_digits (suc n) few) ∙ ap (λ k. Some (neg_ℤ (pos k))) (decimal_value (suc n) few) in
        (class.Number, word (45 ∷ decimal (suc n)) (negsuc n) value, ap (option_map Num) value)
