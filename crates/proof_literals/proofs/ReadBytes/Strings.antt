-- A string of a TOML document of bytes has bytes: those of the document, or of characters that are escaped. (The TOML specification, as
-- the library `toml_parser` states it.)
use Rattle.std.proofs.Common.{◌≡◌, ◌<◌, ℕ, zero, suc, ◌+◌, ◌/◌, ◌%◌, Bool, true, false, cond, ◌&&◌, ◌||◌, ◌==◌, List, [], ◌∷◌, ◌++◌, length, take, drop, Option, Some, None, refl, subst, ⊎_elim, arith}
use Rattle.std.specs.Prelude.{encode_utf8_all, nat_le, nat_lt, option_and_then, option_map, slice_index, is_some, unwrap_or}
use Rattle.std.specs.Char.{encode_utf8, is_digit}
use Rattle.std.specs.List.{list_all, prefix_len}
use Rattle.std.specs.Option.{IfSome}
use Rattle.std.specs.Str.{is_utf8}
use Rattle.std.specs.Str.Parse.{digits_value}
use Rattle.std.proofs.Math.Utf8.{scalar, scalars, scalar_cases}
use Rattle.std.proofs.lemmas.Bool.{and_parts}
use Rattle.std.proofs.lemmas.Bool.Decides.{nat_tests}
use Rattle.std.proofs.lemmas.Str.{IsUtf8-from_is_utf8}
use Rattle.base_values.proofs.SchemaRules.Lists.{All-append}
use Rattle.toml_parser.specs.Lexical.{Read, first, skip_blank, skip_from, skip_turn, skip_ws, starts_newline, line_feed, backslash, quote, is_bare}
use Rattle.toml_parser.specs.Strings.{Key, after_piece, at_delims, body, escape, escape_char, hex_escape, hex_len, is_plain, is_scalar, key, key_after, one_line, prepend, quoted, recursion_limit, simple_escape, simple_key, special, starts_string, trim_newline}
use Rattle.proof_plain.specs.Plain.{AreBytes}

-- ---- UTF-8

-- a byte that isn't a character's first
trail_small : (bits : ℕ) → 128 + bits % 64 < 256
trail_small bits = omega arith

encode_bytes : (c : ℕ) → c < 1114112 → AreBytes (encode_utf8 c)
unfolding encode_utf8
encode_bytes c small = by (nat_lt c 128) refl (nat_lt c 2048) refl (nat_lt c 65536) refl where
  by : (one : Bool) → nat_lt c 128 ≡ one → (two : Bool) → nat_lt c 2048 ≡ two → (three : Bool) → nat_lt c 65536 ≡ three
      → AreBytes (cond one (c ∷ []) (cond two ((192 + c / 64) ∷ (128 + c % 64) ∷ []) (cond three ((224 + c / 4096) ∷ (128 + (c / 64) % 64) ∷ (128 + c % 64) ∷ []) ((240 + c / 262144) ∷ (128 + (c / 4096) % 64) ∷ (128 + (c / 64) % 64) ∷ (128 + c % 64) ∷ []))))
  by true is two is_two three is_three = (grind (arith, nat_tests, is), tt)
  by false is true is_two three is_three = (grind (arith, nat_tests, is_two), (trail_small c, tt))
  by false is false is_two true is_three = (grind (arith, nat_tests, is_three), (trail_small (c / 64), (trail_small c, tt)))
  by false is false is_two false is_three = (omega (arith, small), (trail_small (c / 4096), (trail_small (c / 64), (trail_small c, tt))))

character_small : (c : ℕ) → scalar c ≡ true → c < 1114112
character_small c is = ⊎_elim (λ low. omega (arith, low)) (λ high. high.1) (scalar_cases c is)

all_encoded : (cs : List ℕ) → scalars cs ≡ true → AreBytes (encode_utf8_all cs)
all_encoded [] are = tt
all_encoded (c ∷ cs) are =
    let parts = and_parts (scalar c) (scalars cs) are in
    All-append (λ (b : ℕ). b < 256) (encode_utf8 c) (encode_utf8_all cs) (encode_bytes c (character_small c parts.0)) (all_encoded cs parts.1)

-- *Texts have bytes*
pub utf8_bytes : (bytes : List ℕ) → is_utf8 bytes ≡ true → AreBytes bytes
utf8_bytes bytes is = let text = IsUtf8-from_is_utf8 bytes is in subst AreBytes text.1.1 (all_encoded text.0 text.1.0)

-- ---- what is read, and what follows it

pub bytes_drop : (n : ℕ) (text : List ℕ) → AreBytes text → AreBytes (drop n text)
bytes_drop zero text are = are
bytes_drop (suc n) [] are = tt
bytes_drop (suc n) (byte ∷ text) are = bytes_drop n text are.1

first_small : (text : List ℕ) → AreBytes text → first text < 256
first_small [] are = omega arith
first_small (c ∷ cs) are = are.0

-- what was read has a property, and what follows it has bytes
abbrev pub Leaves : {A : Type 0} → (A → Type 0) → Read A → Type 0
Leaves P r = IfSome r (λ read. P read.0 × AreBytes read.1)

abbrev pub Anything : {A : Type 0} → A → Type 0
Anything x = Unit {0}

pub leaves_then : {A B : Type 0} (P : A → Type 0) (Q : B → Type 0) (r : Read A) (f : A × List ℕ → Read B) → Leaves P r → ((x : A × List ℕ) → P x.0 → AreBytes x.1 → Leaves Q (f x)) → Leaves Q (option_and_then f r)
leaves_then P Q None f first next = tt
leaves_then P Q (Some x) f first next = next x first.0 first.1

pub leaves_map : {A B : Type 0} (P : A → Type 0) (Q : B → Type 0) (f : A → B) (r : Read A) → Leaves P r → ((x : A) → P x → Q (f x)) → Leaves Q (option_map (λ (x : A × List ℕ). (f x.0, x.1)) r)
leaves_map P Q f None first next = tt
leaves_map P Q f (Some x) first next = (next x.0 first.0, first.1)

pub leaves_if : {A : Type 0} (P : A → Type 0) (b : Bool) (x y : Read A) → Leaves P x → Leaves P y → Leaves P (cond b x y)
leaves_if P true x y one two = one
leaves_if P false x y one two = two

-- ---- what is passed over

pub ws_bytes : (text : List ℕ) → AreBytes text → AreBytes (skip_ws text)
unfolding skip_ws
ws_bytes text are = bytes_drop _ text are

from_bytes : (comments inside : Bool) (text : List ℕ) → AreBytes text → AreBytes (skip_from comments inside text)
unfolding skip_from
from_bytes comments inside [] are = tt
from_bytes comments inside (c ∷ cs) are = by (is_some (skip_turn comments inside c (first cs))) (from_bytes comments (unwrap_or (skip_turn comments inside c (first cs)) false) cs are.1) where
  by : (b : Bool) → AreBytes (skip_from comments (unwrap_or (skip_turn comments inside c (first cs)) false) cs) → AreBytes (cond b (skip_from comments (unwrap_or (skip_turn comments inside c (first cs)) false) cs) (c ∷ cs))
  by true rest = rest
  by false rest = are

pub blank_bytes : (text : List ℕ) → AreBytes text → AreBytes (skip_blank text)
blank_bytes text are = from_bytes true false text are

-- ---- escapes

-- a character's number
abbrev IsCharacter : ℕ → Type 0
IsCharacter c = c < 1114112

simple_if : (b : Bool) (c : ℕ) (rest : Option ℕ) → c < 256 → IfSome rest IsCharacter → IfSome (cond b (Some c) rest) IsCharacter
simple_if true c rest is others = omega arith
simple_if false c rest is others = others

simple_small : (c : ℕ) → c < 256 → IfSome (simple_escape c) IsCharacter
simple_small c small =
    simple_if (c == 98) 8 _ (omega arith) (simple_if (c == 101) 27 _ (omega arith) (simple_if (c == 102) 12 _ (omega arith) (simple_if (c == 110) 10 _ (omega arith) (simple_if (c == 114) 13 _ (omega arith) (simple_if (c == 116) 9 _ (omega arith)
    (simple_if (c == quote || c == backslash) c None small tt))))))

scalar_small : (c : ℕ) → is_scalar c ≡ true → IsCharacter c
scalar_small c is = grind (arith, nat_tests, is)

hex_leaves : (n : ℕ) (text : List ℕ) → AreBytes text → Leaves IsCharacter (hex_escape n text)
unfolding hex_escape
hex_leaves n text are = by ((nat_le n (length text) && list_all (λ c. is_digit c 16) (take n text)) && is_scalar (digits_value 16 (take n text))) refl where
  by : (b : Bool) → ((nat_le n (length text) && list_all (λ c. is_digit c 16) (take n text)) && is_scalar (digits_value 16 (take n text))) ≡ b → Leaves IsCharacter (cond b (Some (digits_value 16 (take n text), drop n text)) None)
  by true is = (scalar_small (digits_value 16 (take n text)) (and_parts _ _ is).1, bytes_drop n text are)
  by false is = tt

character_leaves : (text : List ℕ) → AreBytes text → Leaves IsCharacter (escape_char text)
unfolding escape_char
character_leaves text are = leaves_if IsCharacter (nat_lt 0 (hex_len (first text))) _ _ (hex_leaves (hex_len (first text)) (drop 1 text) (bytes_drop 1 text are)) (by (simple_escape (first text)) (simple_small (first text) (first_small text are))) where
  by : (o : Option ℕ) → IfSome o IsCharacter → Leaves IsCharacter (option_map (λ c. (c, drop 1 text)) o)
  by None is = tt
  by (Some c) is = (is, bytes_drop 1 text are)

escape_leaves : (multi : Bool) (text : List ℕ) → AreBytes text → Leaves AreBytes (escape multi text)
unfolding escape
escape_leaves multi text are =
    leaves_if AreBytes (multi && starts_newline (skip_ws text)) _ _ (tt, from_bytes false false text are)
    (leaves_map IsCharacter AreBytes encode_utf8 (escape_char text) (character_leaves text are) encode_bytes)

-- ---- strings

-- a piece of a string, or its end
abbrev PieceIs : Option (List ℕ) → Type 0
PieceIs piece = IfSome piece AreBytes

delims_leave : (delim : ℕ) (text : List ℕ) → delim < 256 → AreBytes text → Leaves PieceIs (at_delims delim text)
delims_leave delim text small are =
    let count = prefix_len (λ c. c == delim) text in
    leaves_if PieceIs (count == 3) _ _ (tt, bytes_drop 3 text are) (leaves_if PieceIs (nat_lt count 6) (Some (Some (delim ∷ []), drop 1 text)) None ((small, tt), bytes_drop 1 text are) tt)

special_leaves : (delim : ℕ) (multi : Bool) (text : List ℕ) → delim < 256 → AreBytes text → Leaves PieceIs (special delim multi text)
unfolding special
special_leaves delim multi text small are =
    leaves_if PieceIs (first text == delim) _ _ (leaves_if PieceIs multi _ _ (delims_leave delim text small are) (tt, bytes_drop 1 text are))
    (leaves_if PieceIs (first text == backslash) _ _ (leaves_map AreBytes PieceIs Some (escape multi (drop 1 text)) (escape_leaves multi (drop 1 text) (bytes_drop 1 text are)) (λ piece is. is))
    (leaves_if PieceIs (multi && starts_newline text) (Some (Some (first text ∷ []), drop 1 text)) None ((first_small text are, tt), bytes_drop 1 text are) tt))

prepend_leaves : (front : List ℕ) (r : Read (List ℕ)) → AreBytes front → Leaves AreBytes r → Leaves AreBytes (prepend front r)
prepend_leaves front r are rest = leaves_map AreBytes AreBytes (λ (more : List ℕ). front ++ more) r rest (λ more all. All-append (λ (b : ℕ). b < 256) front more are all)

piece_leaves : (more : List ℕ → Read (List ℕ)) (piece : Option (List ℕ)) (rest : List ℕ) → ((left : List ℕ) → AreBytes left → Leaves AreBytes (more left)) → PieceIs piece → AreBytes rest → Leaves AreBytes (after_piece more piece rest)
piece_leaves more None rest each is all = (tt, all)
piece_leaves more (Some piece) rest each is all = prepend_leaves piece (more rest) is (each rest all)

body_leaves : (delim : ℕ) (multi : Bool) (n : ℕ) (text : List ℕ) → delim < 256 → AreBytes text → Leaves AreBytes (body delim multi n text)
unfolding body
body_leaves delim multi zero text small are = tt
body_leaves delim multi (suc n) text small are =
    leaves_if AreBytes (is_plain delim multi (first text)) _ _
    (prepend_leaves (first text ∷ []) (body delim multi n (drop 1 text)) (first_small text are, tt) (body_leaves delim multi n (drop 1 text) small (bytes_drop 1 text are)))
    (leaves_then PieceIs AreBytes (special delim multi text) _ (special_leaves delim multi text small are) (λ piece is rest. piece_leaves (body delim multi n) piece.0 piece.1 (λ left all. body_leaves delim multi n left small all) is rest))

line_leaves : (text : List ℕ) → AreBytes text → Leaves AreBytes (one_line text)
unfolding one_line
line_leaves text are = body_leaves (first text) false (length text) (drop 1 text) (first_small text are) (bytes_drop 1 text are)

trimmed_bytes : (text : List ℕ) → AreBytes text → AreBytes (trim_newline text)
trimmed_bytes text are = by (first text == line_feed) (starts_newline text) where
  by : (one two : Bool) → AreBytes (cond one (drop 1 text) (cond two (drop 2 text) text))
  by true two = bytes_drop 1 text are
  by false true = bytes_drop 2 text are
  by false false = are

-- *Strings have bytes*
pub quoted_leaves : (text : List ℕ) → AreBytes text → Leaves AreBytes (quoted text)
unfolding quoted
quoted_leaves text are =
    leaves_if AreBytes (slice_index text 1 == first text && slice_index text 2 == first text) _ _
    (body_leaves (first text) true (length text) (trim_newline (drop 3 text)) (first_small text are) (trimmed_bytes (drop 3 text) (bytes_drop 3 text are))) (line_leaves text are)

-- ---- keys

simple_leaves : (text : List ℕ) → AreBytes text → Leaves {A = List ℕ} Anything (simple_key text)
unfolding simple_key
simple_leaves text are =
    leaves_if {A = List ℕ} Anything (starts_string text) _ _ (by (one_line text) (line_leaves text are)) (leaves_if {A = List ℕ} Anything (is_bare (first text)) _ None (tt, bytes_drop (prefix_len is_bare text) text are) tt) where
      by : (r : Read (List ℕ)) → Leaves AreBytes r → Leaves {A = List ℕ} Anything r
      by None leaves = tt
      by (Some read) leaves = (tt, leaves.1)

key_leaves : (n : ℕ) (path : List (List ℕ)) (text : List ℕ) → AreBytes text → Leaves {A = Key} Anything (key_after n path text)
unfolding key_after
key_leaves zero path text are = tt
key_leaves (suc n) path text are =
    leaves_then {A = List ℕ} {B = Key} Anything Anything (simple_key text) _ (simple_leaves text are)
    (λ part is rest. let left = ws_bytes part.1 rest in
    leaves_if {A = Key} Anything (first (skip_ws part.1) == 46) _ _ (key_leaves n (path ++ part.0 ∷ []) (skip_ws (drop 1 (skip_ws part.1))) (ws_bytes (drop 1 (skip_ws part.1)) (bytes_drop 1 (skip_ws part.1) left))) (tt, left))

-- *What follows a key has bytes*
pub after_key : (text : List ℕ) → AreBytes text → Leaves {A = Key} Anything (key text)
after_key text are = key_leaves recursion_limit [] text are
