-- A text cut at a mark: into lines at its line feeds, and a line into words at its blanks.
use Rattle.std.proofs.Common.{◌≡◌, ◌∙◌, ℕ, ◌+◌, ◌<◌, ◌^◌, ◌==◌, Bool, true, false, not, List, [], ◌∷◌, ◌++◌, length, take, drop, get_or, refl, sym, ap, subst, codes, arith, append_assoc, length-append}
use Rattle.std.specs.Char.{is_ascii_digit}
use Rattle.std.specs.Fmt.{decimal}
use Rattle.std.specs.List.{AllByRecursion, flat_map, list_all, onto_first, slice_split}
use Rattle.std.specs.Str.{IsUtf8, is_utf8}
use Rattle.std.proofs.lemmas.Bool.{and_parts, not-true}
use Rattle.std.proofs.lemmas.Bool.Decides.{nat_tests}
use Rattle.std.proofs.lemmas.List.{take_at, drop_at}
use Rattle.std.proofs.lemmas.List.Elements.{All-from_recursion}
use Rattle.std.proofs.lemmas.List.Splits.{slice_split_at, slice_split_none}
use Rattle.std.proofs.lemmas.Str.{IsCharBoundary-after_ascii, IsCharBoundary-before_ascii, IsUtf8-drop, IsUtf8-take, is_utf8-from_IsUtf8}
use Rattle.law_texts.proofs.Numerals.{are_digits}

-- no byte of the text is this one
abbrev pub Avoids : ℕ → List ℕ → Type 0
Avoids mark text = AllByRecursion (λ byte. (byte == mark) ≡ false) text

pub avoids-append : (mark : ℕ) (one other : List ℕ) → Avoids mark one → Avoids mark other → Avoids mark (one ++ other)
avoids-append mark [] other first second = second
avoids-append mark (byte ∷ one) other first second = (first.0, avoids-append mark one other first.1 second)

-- bytes that are known
pub avoids-known : (mark : ℕ) (text : List ℕ) → list_all (λ byte. not (byte == mark)) text ≡ true → Avoids mark text
avoids-known mark [] is = tt
avoids-known mark (byte ∷ text) is =
    let both = and_parts (not (byte == mark)) (list_all (λ one. not (one == mark)) text) is in
    (not-true (byte == mark) both.0, avoids-known mark text both.1)

-- ---- digits

no_digit : (mark digit : ℕ) → mark < 48 → is_ascii_digit digit ≡ true → (digit == mark) ≡ false
no_digit mark digit low is = grind (arith, nat_tests)

pub avoids-digits : (mark : ℕ) (digits : List ℕ) → mark < 48 → list_all is_ascii_digit digits ≡ true → Avoids mark digits
avoids-digits mark [] low are = tt
avoids-digits mark (digit ∷ digits) low are =
    let parts = and_parts (is_ascii_digit digit) (list_all is_ascii_digit digits) are in
    (no_digit mark digit low parts.0, avoids-digits mark digits low parts.1)

pub avoids-decimal : (mark n : ℕ) → mark < 48 → n < 2 ^ 64 → Avoids mark (decimal n)
avoids-decimal mark n low wide = avoids-digits mark (decimal n) low (are_digits n wide)

-- ---- parts

abbrev pub parts : ℕ → List ℕ → List (List ℕ)
parts mark text = slice_split (λ byte. byte == mark) text

is_mark : (mark : ℕ) → (mark == mark) ≡ true
is_mark mark = grind (arith, nat_tests)

-- what is before the first mark is the first part
pub parts-first : (mark : ℕ) (part rest : List ℕ) → Avoids mark part → parts mark (part ++ mark ∷ rest) ≡ part ∷ parts mark rest
parts-first mark part rest avoids = slice_split_at (λ byte. byte == mark) part mark rest (All-from_recursion (λ byte. (byte == mark) ≡ false) part avoids) (is_mark mark)

pub parts-alone : (mark : ℕ) (part : List ℕ) → Avoids mark part → parts mark part ≡ part ∷ []
parts-alone mark part avoids = slice_split_none (λ byte. byte == mark) part (All-from_recursion (λ byte. (byte == mark) ≡ false) part avoids)

onto_some : (byte : ℕ) (one : List (List ℕ)) (more : List (List ℕ)) → 0 < length one → onto_first byte (one ++ more) ≡ onto_first byte one ++ more
onto_some byte [] more some = absurd (omega arith)
onto_some byte (part ∷ one) more some = refl

onto_longer : (byte : ℕ) (one : List (List ℕ)) → 0 < length (onto_first byte one)
onto_longer byte [] = omega arith
onto_longer byte (part ∷ one) = omega arith

pub parts-some : (mark : ℕ) (text : List ℕ) → 0 < length (parts mark text)
parts-some mark [] = omega arith
parts-some mark (byte ∷ text) = by (byte == mark) refl
  where
    by : (b : Bool) → (byte == mark) ≡ b → 0 < length (parts mark (byte ∷ text))
    by true is = rw is (omega arith)
    by false is = rw is (onto_longer byte (parts mark text))

-- what is before any mark has its parts, and what is after it
pub parts-append : (mark : ℕ) (front rest : List ℕ) → parts mark (front ++ mark ∷ rest) ≡ parts mark front ++ parts mark rest
parts-append mark [] rest = rw (is_mark mark) refl
parts-append mark (byte ∷ front) rest = by (byte == mark) refl (parts-append mark front rest)
  where
    by : (b : Bool) → (byte == mark) ≡ b → parts mark (front ++ mark ∷ rest) ≡ parts mark front ++ parts mark rest → parts mark (byte ∷ (front ++ mark ∷ rest)) ≡ parts mark (byte ∷ front) ++ parts mark rest
    by true is next = rw is (ap (λ (more : List (List ℕ)). [] ∷ more) next)
    by false is next = rw is (ap (onto_first byte) next ∙ onto_some byte (parts mark front) (parts mark rest) (parts-some mark front))

-- ---- lines

-- each line with its line feed
abbrev pub lines_text : List (List ℕ) → List ℕ
lines_text lines = flat_map (λ line. line ++ codes "\n") lines

pub parts-lines : (lines : List (List ℕ)) → AllByRecursion (Avoids 10) lines → parts 10 (lines_text lines) ≡ lines ++ [] ∷ []
parts-lines [] all = refl
parts-lines (line ∷ lines) all =
    ap (parts 10) (append_assoc line (10 ∷ []) (lines_text lines)) ∙ parts-first 10 line (lines_text lines) all.0 ∙ ap (λ (more : List (List ℕ)). line ∷ more) (parts-lines lines all.1)

pub lines_text-append : (one other : List (List ℕ)) → lines_text (one ++ other) ≡ lines_text one ++ lines_text other
lines_text-append [] other = refl
lines_text-append (line ∷ one) other = ap (λ (text : List ℕ). (line ++ 10 ∷ []) ++ text) (lines_text-append one other) ∙ sym (append_assoc (line ++ 10 ∷ []) (lines_text one) (lines_text other))

-- ---- UTF-8

at_length : (front rest : List ℕ) (byte : ℕ) → get_or (front ++ byte ∷ rest) (length front) 0 ≡ byte
at_length [] rest byte = refl
at_length (first ∷ front) rest byte = at_length front rest byte

-- a text is UTF-8 before a line feed, and after it
pub utf8_around : (front rest : List ℕ) → IsUtf8 (front ++ 10 ∷ rest) → IsUtf8 front × IsUtf8 rest
utf8_around front rest utf8 =
    let text : List ℕ = front ++ 10 ∷ rest in
    let here : get_or text (length front) 0 ≡ 10 = at_length front rest 10 in
    let low : get_or text (length front) 0 < 128 = omega (arith, here) in
    let within : length front < length text = omega (arith, length-append front (10 ∷ rest)) in
    let before : IsUtf8 (take (length front) text) = IsUtf8-take text (length front) utf8 (IsCharBoundary-before_ascii text (length front) within low) in
    let after : IsUtf8 (drop (length front + 1) text) = IsUtf8-drop text (length front + 1) utf8 (IsCharBoundary-after_ascii text (length front) utf8 within low) in
    let rest_is : drop (length front + 1) text ≡ rest =
    ap (drop (length front + 1)) (sym (append_assoc front (10 ∷ []) rest)) ∙ drop_at (front ++ 10 ∷ []) rest (length front + 1) (length-append front (10 ∷ [])) in
    (subst IsUtf8 (take_at front (10 ∷ rest) (length front) refl) before, subst IsUtf8 rest_is after)

pub utf8_lines : (lines : List (List ℕ)) → IsUtf8 (lines_text lines) → AllByRecursion (λ line. is_utf8 line ≡ true) lines
utf8_lines [] utf8 = tt
utf8_lines (line ∷ lines) utf8 =
    let both = utf8_around line (lines_text lines) (subst IsUtf8 (append_assoc line (10 ∷ []) (lines_text lines)) utf8) in
    (is_utf8-from_IsUtf8 line both.0, utf8_lines lines both.1)
