-- The text of a checkpoint says of which kinds its key's values are: so whoever reads it finds a key of the same kinds.
use Rattle.std.proofs.Common.{◌≡◌, ◌<◌, ℕ, zero, suc, ◌+◌, ◌/◌, ◌%◌, ◌==◌, Bool, true, false, cond, List, [], ◌∷◌, ◌++◌, Option, Some, None, codes, refl, sym, ap, ◌∙◌, subst, arith, append_assoc}
use Rattle.std.specs.Prelude.{ℤ, pos, negsuc, map, nat_le, nat_lt}
use Rattle.std.specs.Fmt.{decimal, digit_glyph, digits, digits_onto, signed_decimal}
use Rattle.std.specs.List.{AllByRecursion, flat_map}
use Rattle.std.specs.Option.{option_map}
use Rattle.std.proofs.lemmas.Bool.Decides.{nat_tests}
use Rattle.base_values.specs.declared.kind.Kind.{Kind}
use Rattle.base_values.specs.declared.kind.Kind.TheVariants.{Int, VarChar, VarBinary}
use Rattle.base_values.specs.declared.value.Value.{Value}
use Rattle.base_values.specs.declared.value.Value.TheVariants.{Null, Num, Text, Blob}
use Rattle.base_values.specs.Literals.{escaped, hexadecimal, listed, printed, printed_row}
use Rattle.base_values.specs.StoredValues.{character_count, AreOfKinds, IsOfKind}
use Rattle.plan_data.specs.PlanData.{PlanData}
use Rattle.tool_changelog.specs.declared.checkpoint.Reach.{Reach}
use Rattle.tool_changelog.specs.declared.checkpoint.Reach.TheVariants.{Nothing, To, All}
use Rattle.tool_changelog.specs.Checkpoints.{checkpoint_row, checkpoint_text, checkpoint_value, reach_text, short_text}
use Rattle.proof_journals.specs.Ghost.Rows.Moments.{Row}
use Rattle.proof_journals.specs.Machine.TableKeys.{kinds_of}
use Rattle.proof_resume.specs.Finish.Callable.{ReachKeyed}

-- READING THE KINDS

-- where one is in the text: before the reach, at it, before a value, in one, after a comma, within quotes, after a backslash
data Place : Type 0 where
  before : Place
  at_reach : Place
  first : Place
  inside : Place
  comma : Place
  quoted : Place
  slashed : Place

-- the values' sorts in the rest of the text, behind a 9 where there is a key: 0 is a null, 1 a number, 2 a text, 3 bytes
abbrev sorts : Place → List ℕ → List ℕ
sorts place [] = []
sorts before (c ∷ cs) = cond (c == 32) (sorts at_reach cs) (sorts before cs)
sorts at_reach (c ∷ cs) = cond (c == 40) (9 ∷ sorts first cs) []
sorts first (c ∷ cs) = cond (c == 39) (2 ∷ sorts quoted cs) (cond (c == 120) (3 ∷ sorts inside cs) (cond (c == 78) (0 ∷ sorts inside cs) (cond (c == 41) [] (1 ∷ sorts inside cs))))
sorts inside (c ∷ cs) = cond (c == 39) (sorts quoted cs) (cond (c == 44) (sorts comma cs) (sorts inside cs))
sorts comma (c ∷ cs) = sorts first cs
sorts quoted (c ∷ cs) = cond (c == 39) (sorts inside cs) (cond (c == 92) (sorts slashed cs) (sorts quoted cs))
sorts slashed (c ∷ cs) = sorts quoted cs

abbrev sort_of : Value → ℕ
sort_of Null = 0
sort_of (Num n) = 1
sort_of (Text text) = 2
sort_of (Blob blob) = 3

abbrev reach_sorts : Reach → List ℕ
reach_sorts Nothing = []
reach_sorts (To key) = 9 ∷ map sort_of key
reach_sorts All = []

-- NUMBERS

-- it is no sign that matters
record IsDigit (c : ℕ) : Type 0 where
  blank : (c == 32) ≡ false
  quote : (c == 39) ≡ false
  closes : (c == 41) ≡ false
  comma : (c == 44) ≡ false
  null : (c == 78) ≡ false
  slash : (c == 92) ≡ false
  bytes : (c == 120) ≡ false

digit_is : (d : ℕ) → d < 10 → IsDigit (48 + d)
digit_is d few = record {
  blank = grind (arith, nat_tests);
  quote = grind (arith, nat_tests);
  closes = grind (arith, nat_tests);
  comma = grind (arith, nat_tests);
  null = grind (arith, nat_tests);
  slash = grind (arith, nat_tests);
  bytes = grind (arith, nat_tests);
}

few_tenths : (n : ℕ) → n % 10 < 10
few_tenths n = omega arith

glyph_is : (n : ℕ) → IsDigit (digit_glyph false (n % 10))
glyph_is n = by (nat_lt (n % 10) 10) refl where
  by : (b : Bool) → nat_lt (n % 10) 10 ≡ b → IsDigit (cond b (48 + n % 10) (87 + n % 10))
  by true less = digit_is (n % 10) (few_tenths n)
  by false more = let few : n % 10 < 10 = few_tenths n in absurd (grind (arith, nat_tests, more, few))

-- the digits of a number, of which there is one
record Digits (text : List ℕ) : Type 0 where
  first_one : ℕ
  others : List ℕ
  is : text ≡ first_one ∷ others
  digit : IsDigit first_one
  all : AllByRecursion IsDigit others

onto_digits : (k n c : ℕ) (cs : List ℕ) → IsDigit c → AllByRecursion IsDigit cs → Digits (digits_onto k 10 false n (c ∷ cs))
onto_digits zero n c cs one all = record { first_one = c; others = cs; is = refl; digit = one; all = all }
onto_digits (suc k) n c cs one all = by (n / 10 == 0) (onto_digits k (n / 10) (digit_glyph false (n % 10)) (c ∷ cs) (glyph_is n) (one, all)) where
  by : (b : Bool) → Digits (digits_onto k 10 false (n / 10) (digit_glyph false (n % 10) ∷ c ∷ cs)) → Digits (cond b (digit_glyph false (n % 10) ∷ c ∷ cs) (digits_onto k 10 false (n / 10) (digit_glyph false (n % 10) ∷ c ∷ cs)))
  by true rest = record { first_one = digit_glyph false (n % 10); others = c ∷ cs; is = refl; digit = glyph_is n; all = (one, all) }
  by false rest = rest

decimal_digits : (n : ℕ) → Digits (decimal n)
unfolding digits
decimal_digits n = by (n / 10 == 0) (onto_digits 63 (n / 10) (digit_glyph false (n % 10)) [] (glyph_is n) tt) where
  by : (b : Bool) → Digits (digits_onto 63 10 false (n / 10) (digit_glyph false (n % 10) ∷ [])) → Digits (cond b (digit_glyph false (n % 10) ∷ []) (digits_onto 63 10 false (n / 10) (digit_glyph false (n % 10) ∷ [])))
  by true rest = record { first_one = digit_glyph false (n % 10); others = []; is = refl; digit = glyph_is n; all = tt }
  by false rest = rest

signed_digits : (n : ℤ) → Digits (signed_decimal n)
signed_digits (pos n) = decimal_digits n
signed_digits (negsuc n) =
    let some : Digits (decimal (suc n)) = decimal_digits (suc n) in
    record { first_one = 45; others = decimal (suc n); is = refl; digit = record { blank = refl; quote = refl; closes = refl; comma = refl; null = refl; slash = refl; bytes = refl }; all = subst (AllByRecursion IsDigit) (sym some.is) (some.digit, some.all) }

-- A NUMBER LEAVES ONE WHERE ONE IS

digits_inside : (cs rest : List ℕ) → AllByRecursion IsDigit cs → sorts inside (cs ++ rest) ≡ sorts inside rest
digits_inside [] rest all = refl
digits_inside (c ∷ cs) rest all = rw (all.0.quote, all.0.comma) (digits_inside cs rest all.1)

digits_before : (cs rest : List ℕ) → AllByRecursion IsDigit cs → sorts before (cs ++ rest) ≡ sorts before rest
digits_before [] rest all = refl
digits_before (c ∷ cs) rest all = rw all.0.blank (digits_before cs rest all.1)

digits_first : (text rest : List ℕ) → Digits text → sorts first (text ++ rest) ≡ 1 ∷ sorts inside rest
digits_first text rest is =
    ap (λ (t : List ℕ). sorts first (t ++ rest)) is.is
    ∙ rw (is.digit.quote, is.digit.bytes, is.digit.null, is.digit.closes) (ap (λ (t : List ℕ). 1 ∷ t) (digits_inside is.others rest is.all))

-- WITHIN QUOTES

escape_quoted : (byte : ℕ) (rest : List ℕ) → sorts quoted (escaped byte ++ rest) ≡ sorts quoted rest
escape_quoted byte rest = by (byte == 39) refl (byte == 92) refl (byte == 10) (byte == 13) (byte == 9) (byte == 0) where
  by : (a : Bool) → (byte == 39) ≡ a → (b : Bool) → (byte == 92) ≡ b → (c d e f : Bool)
      → sorts quoted (cond a (codes "''") (cond b (codes "\\\\") (cond c (codes "\\n") (cond d (codes "\\r") (cond e (codes "\\t") (cond f (codes "\\0") (byte ∷ [])))))) ++ rest) ≡ sorts quoted rest
  by true quote b slash c d e f = refl
  by false quote true slash c d e f = refl
  by false quote false slash true d e f = refl
  by false quote false slash false true e f = refl
  by false quote false slash false false true f = refl
  by false quote false slash false false false true = refl
  by false quote false slash false false false false = rw (quote, slash) refl

text_quoted : (text rest : List ℕ) → sorts quoted (flat_map escaped text ++ rest) ≡ sorts quoted rest
text_quoted [] rest = refl
text_quoted (byte ∷ text) rest = ap (sorts quoted) (append_assoc (escaped byte) (flat_map escaped text) rest) ∙ escape_quoted byte (flat_map escaped text ++ rest) ∙ text_quoted text rest

-- a hexadecimal digit is neither a quote nor a backslash
glyph_quoted : (d : ℕ) (rest : List ℕ) → sorts quoted (digit_glyph false d ∷ rest) ≡ sorts quoted rest
glyph_quoted d rest = by (nat_lt d 10) refl where
  by : (b : Bool) → nat_lt d 10 ≡ b → sorts quoted (cond b (48 + d) (87 + d) ∷ rest) ≡ sorts quoted rest
  by true less =
      let quote : ((48 + d) == 39) ≡ false = grind (arith, nat_tests) in
      let slash : ((48 + d) == 92) ≡ false = grind (arith, nat_tests, less) in rw (quote, slash) refl
  by false more =
      let quote : ((87 + d) == 39) ≡ false = grind (arith, nat_tests) in
      let slash : ((87 + d) == 92) ≡ false = grind (arith, nat_tests, more) in rw (quote, slash) refl

bytes_quoted : (blob rest : List ℕ) → sorts quoted (flat_map hexadecimal blob ++ rest) ≡ sorts quoted rest
bytes_quoted [] rest = refl
bytes_quoted (byte ∷ blob) rest = glyph_quoted (byte / 16) (digit_glyph false (byte % 16) ∷ (flat_map hexadecimal blob ++ rest)) ∙ glyph_quoted (byte % 16) (flat_map hexadecimal blob ++ rest) ∙ bytes_quoted blob rest

-- A VALUE, AND A ROW

value_first : (value : Value) (rest : List ℕ) → sorts first (printed value ++ rest) ≡ sort_of value ∷ sorts inside rest
unfolding printed
value_first Null rest = refl
value_first (Num n) rest = digits_first (signed_decimal n) rest (signed_digits n)
value_first (Text text) rest =
    ap (λ (t : List ℕ). 2 ∷ sorts quoted t) (append_assoc (flat_map escaped text) (codes "'") rest) ∙ ap (λ (t : List ℕ). 2 ∷ t) (text_quoted text (39 ∷ rest))
value_first (Blob blob) rest =
    ap (λ (t : List ℕ). 3 ∷ sorts quoted t) (append_assoc (flat_map hexadecimal blob) (codes "'") rest) ∙ ap (λ (t : List ℕ). 3 ∷ t) (bytes_quoted blob (39 ∷ rest))

abbrev behind : Value → List ℕ
behind next = codes ", " ++ printed next

values_inside : (values : List Value) → sorts inside (flat_map behind values ++ 41 ∷ []) ≡ map sort_of values
values_inside [] = refl
values_inside (value ∷ values) =
    ap (sorts inside) (append_assoc (behind value) (flat_map behind values) (41 ∷ []))
    ∙ value_first value (flat_map behind values ++ 41 ∷ [])
    ∙ ap (λ (t : List ℕ). sort_of value ∷ t) (values_inside values)

row_first : (key : List Value) → sorts first (listed key ++ 41 ∷ []) ≡ map sort_of key
unfolding listed
row_first [] = refl
row_first (value ∷ values) =
    ap (sorts first) (append_assoc (printed value) (flat_map behind values) (41 ∷ []))
    ∙ value_first value (flat_map behind values ++ 41 ∷ [])
    ∙ ap (λ (t : List ℕ). sort_of value ∷ t) (values_inside values)

reach_at : (reach : Reach) → sorts at_reach (reach_text reach) ≡ reach_sorts reach
unfolding printed_row
reach_at Nothing = refl
reach_at All = refl
reach_at (To key) = ap (λ (t : List ℕ). 9 ∷ t) (row_first key)

text_sorts : (position : ℕ) (reach : Reach) → sorts before (checkpoint_text position reach) ≡ reach_sorts reach
text_sorts position reach =
    let some : Digits (decimal position) = decimal_digits position in
    let all : AllByRecursion IsDigit (decimal position) = subst (AllByRecursion IsDigit) (sym some.is) (some.digit, some.all) in
    ap (sorts before) (append_assoc (decimal position) (codes " ") (reach_text reach)) ∙ digits_before (decimal position) (32 ∷ reach_text reach) all ∙ reach_at reach

-- THE SAME ROW

sort_kind : (one other : Value) (kind : Kind) → sort_of one ≡ sort_of other → IsOfKind one kind → IsOfKind other kind
sort_kind (Num n) (Num m) (Int bytes unsigned) same is = tt
sort_kind (Text text) (Text other) (VarChar limit) same is = tt
sort_kind (Blob blob) (Blob other) (VarBinary limit) same is = tt
sort_kind (Num n) Null kind same is = absurd cc
sort_kind (Num n) (Text other) kind same is = absurd cc
sort_kind (Num n) (Blob other) kind same is = absurd cc
sort_kind (Text text) Null kind same is = absurd cc
sort_kind (Text text) (Num m) kind same is = absurd cc
sort_kind (Text text) (Blob other) kind same is = absurd cc
sort_kind (Blob blob) Null kind same is = absurd cc
sort_kind (Blob blob) (Num m) kind same is = absurd cc
sort_kind (Blob blob) (Text other) kind same is = absurd cc
sort_kind one other kind same is = absurd is

sorts_kinds : (one other : List Value) (kinds : List Kind) → map sort_of one ≡ map sort_of other → AreOfKinds one kinds → AreOfKinds other kinds
sorts_kinds [] [] [] same is = tt
sorts_kinds (value ∷ one) (next ∷ other) (kind ∷ kinds) same is =
    let head : sort_of value ≡ sort_of next = cc in
    let tail : map sort_of one ≡ map sort_of other = cc in
    (sort_kind value next kind head is.0, sorts_kinds one other kinds tail is.1)
sorts_kinds [] (next ∷ other) [] same is = absurd cc
sorts_kinds (value ∷ one) [] (kind ∷ kinds) same is = absurd cc
sorts_kinds one other kinds same is = absurd is

reach_keyed : (plan : PlanData) (one other : Reach) → reach_sorts one ≡ reach_sorts other → ReachKeyed plan one → ReachKeyed plan other
reach_keyed plan one Nothing same is = tt
reach_keyed plan one All same is = tt
reach_keyed plan Nothing (To other) same is = absurd cc
reach_keyed plan All (To other) same is = absurd cc
reach_keyed plan (To key) (To other) same is = let tails : map sort_of key ≡ map sort_of other = cc in sorts_kinds key other (kinds_of plan) tails is

row_text : (position : ℕ) (reach : Reach) (text : List ℕ) (row : Row) → short_text (checkpoint_text position reach) ≡ short_text text → option_map (λ value. Num (pos 0) ∷ Text (codes "checkpoint") ∷ value ∷ []) (short_text text) ≡ Some row → checkpoint_text position reach ≡ text
row_text position reach text row same some = by (nat_le (character_count (checkpoint_text position reach)) 255) (nat_le (character_count text) 255) same some where
  by : (a b : Bool) → cond a (Some (Text (checkpoint_text position reach))) None ≡ cond b (Some (Text text)) None → option_map (λ value. Num (pos 0) ∷ Text (codes "checkpoint") ∷ value ∷ []) (cond b (Some (Text text)) None) ≡ Some row → checkpoint_text position reach ≡ text
  by true true same some = cc
  by false true same some = absurd cc
  by a false same some = absurd cc

value_of : (one other : Option Value) (row : Row) → option_map (λ value. Num (pos 0) ∷ Text (codes "checkpoint") ∷ value ∷ []) one ≡ Some row → option_map (λ value. Num (pos 0) ∷ Text (codes "checkpoint") ∷ value ∷ []) other ≡ Some row → one ≡ other
value_of None other row some also = absurd cc
value_of (Some one) None row some also = absurd cc
value_of (Some one) (Some other) row some also = cc

-- *One row, one sort of key*: where the row of a checkpoint is that of another, which reaches to a key of the table, so does it
pub same_row_keyed : (plan : PlanData) (position other_position : ℕ) (reach other : Reach) (row : Row) → checkpoint_row position reach ≡ Some row → checkpoint_row other_position other ≡ Some row → ReachKeyed plan reach → ReachKeyed plan other
unfolding checkpoint_row
same_row_keyed plan position other_position reach other row some also keyed =
    let values : checkpoint_value position reach ≡ checkpoint_value other_position other = value_of (checkpoint_value position reach) (checkpoint_value other_position other) row some also in
    let texts : checkpoint_text position reach ≡ checkpoint_text other_position other = row_text position reach (checkpoint_text other_position other) row values also in
    reach_keyed plan reach other (sym (text_sorts position reach) ∙ ap (sorts before) texts ∙ text_sorts other_position other) keyed
