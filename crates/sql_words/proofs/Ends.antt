-- What stands at the front ends between two characters.
use Rattle.std.proofs.Common.{◌≡◌, ℕ, zero, suc, ◌+◌, ◌-◌, ◌<◌, ◌≤◌, Bool, true, false, cond, not, nat_eq, nat_lt, ◌&&◌, List, [], ◌∷◌, length, get_or, take, drop, Option, Some, None, Result, Ok, Err, IsUtf8, refl, sym, ap, ◌∙◌, subst, arith, add-zero, length-drop}
use Rattle.std.specs.Cmp.{first_so, second_so}
use Rattle.std.specs.Option.{option_map}
use Rattle.std.specs.List.{prefix_len, position_or_len}
use Rattle.std.specs.Char.{is_ascii_digit, is_ascii_hexdigit}
use Rattle.std.specs.Str.{IsCharBoundary}
use Rattle.std.proofs.Math.Bool.{and-false}
use Rattle.std.proofs.lemmas.Str.{IsCharBoundary-after_ascii, IsCharBoundary-before_ascii}
use Rattle.std.proofs.lemmas.List.{get_or-drop}
use Rattle.std.proofs.lemmas.List.Sums.{prefix_len_passes, prefix_len_stops, prefix_len-le-length}
use Rattle.std.proofs.lemmas.Bool.{eqb-true, ltb-true}
use Rattle.std.proofs.lemmas.Bool.Decides.{nat_tests}
use Rattle.sql_words.specs.declared.word.WordClass.{WordClass}
use Rattle.sql_words.specs.declared.word.WordClass.TheVariants as class
use Rattle.sql_words.specs.declared.word.WordFault.{WordFault}
use Rattle.sql_words.specs.declared.front.Front.{Front}
use Rattle.sql_words.specs.declared.front.Front.TheVariants.{Gap, Found}
use Rattle.sql_words.specs.Characters.{is_white, is_line_end, is_name_start, is_name_byte, is_quote, is_angle, is_sign, begins_with}
use Rattle.sql_words.specs.Quoted.{length_of, value_of, text_inside, bytes_inside, name_inside}
use Rattle.sql_words.specs.Front.{size_of, line_length, begins_comment, begins_bytes, bytes_length, bytes_or_name, name_length, quoted, begins_number, digit_count, sign_width, number, sign_length, front_at}
use Rattle.sql_words.specs.Meanings.{is_all, is_quoted_name, is_text, is_bytes}
use Rattle.sql_words.proofs.Inside.{further, step, text_length-step, is_pair, bytes_length-pair, bytes_length-end}

-- the first n bytes are at least one, and end between two characters
pub record Cuts (bytes : List ℕ) (n : ℕ) : Type 0 where
  pub some : 0 < n
  pub boundary : IsCharBoundary bytes n

pub Cuts-last_ascii : (bytes : List ℕ) (n m : ℕ) → IsUtf8 bytes → n ≡ m + 1 → m < length bytes → get_or bytes m 0 < 128 → Cuts bytes n
Cuts-last_ascii bytes n m utf8 e lt ascii = record { some = omega arith; boundary = subst (IsCharBoundary bytes) (sym e) (IsCharBoundary-after_ascii bytes m utf8 lt ascii) }

-- ---- closing quotes

-- the last of the first n bytes is this quote
pub record Closes (quote : ℕ) (bytes : List ℕ) (n : ℕ) : Type 0 where
  pub before : ℕ
  pub length_is : n ≡ before + 1
  pub within : before < length bytes
  pub at_quote : get_or bytes before 0 ≡ quote

abbrev pub ClosedBy : ℕ → List ℕ → Option ℕ → Type 0
ClosedBy quote bytes o = (n : ℕ) → o ≡ Some n → Closes quote bytes n

Closes-cons : (quote b : ℕ) (rest : List ℕ) (n : ℕ) → Closes quote rest n → Closes quote (b ∷ rest) (suc n)
Closes-cons quote b rest n c = record { before = suc c.before; length_is = omega (arith, c.length_is); within = omega (arith, c.within); at_quote = c.at_quote }

Closes-drop : (quote : ℕ) (rest : List ℕ) (n : ℕ) → Closes quote (drop 1 rest) n → Closes quote rest (suc n)
Closes-drop quote [] n c = absurd (omega (arith, c.within))
Closes-drop quote (b ∷ rest) n c = Closes-cons quote b rest n c

ClosedBy-further : (quote : ℕ) (bytes rest : List ℕ) (k : ℕ) (o : Option ℕ) → ((n : ℕ) → Closes quote rest n → Closes quote bytes (k + n)) → ClosedBy quote rest o → ClosedBy quote bytes (further k o)
ClosedBy-further quote bytes rest k None more closed = λ n e. absurd cc
ClosedBy-further quote bytes rest k (Some j) more closed = λ n e. let is : k + j ≡ n = cc in subst (Closes quote bytes) is (more j (closed j refl))

ClosedBy-one : (quote b : ℕ) (rest : List ℕ) → b ≡ quote → ClosedBy quote (b ∷ rest) (Some 1)
ClosedBy-one quote b rest same = λ n e. let is : 1 ≡ n = cc in subst (Closes quote (b ∷ rest)) is (record { before = 0; length_is = refl; within = omega arith; at_quote = same })

none_closed : (quote : ℕ) (bytes : List ℕ) → ClosedBy quote bytes None
none_closed quote bytes = λ n e. absurd cc

two_more : (quote b : ℕ) (rest : List ℕ) (n : ℕ) → Closes quote (drop 1 rest) n → Closes quote (b ∷ rest) (2 + n)
two_more quote b rest n c = subst (Closes quote (b ∷ rest)) (omega arith) (Closes-cons quote b rest (suc n) (Closes-drop quote rest n c))

one_more : (quote b : ℕ) (rest : List ℕ) (n : ℕ) → Closes quote rest n → Closes quote (b ∷ rest) (1 + n)
one_more quote b rest n c = subst (Closes quote (b ∷ rest)) (omega arith) (Closes-cons quote b rest n c)

ClosedBy-step : (quote b : ℕ) (rest : List ℕ) (same both slash : Bool) (two one : Option ℕ) → nat_eq b quote ≡ same → ClosedBy quote (drop 1 rest) two → ClosedBy quote rest one → ClosedBy quote (b ∷ rest) (step same both slash two one)
ClosedBy-step quote b rest true true slash two one e closed-two closed-one = ClosedBy-further quote (b ∷ rest) (drop 1 rest) 2 two (two_more quote b rest) closed-two
ClosedBy-step quote b rest true false slash two one e closed-two closed-one = ClosedBy-one quote b rest (eqb-true b quote e)
ClosedBy-step quote b rest false both true two one e closed-two closed-one = ClosedBy-further quote (b ∷ rest) (drop 1 rest) 2 two (two_more quote b rest) closed-two
ClosedBy-step quote b rest false both false two one e closed-two closed-one = ClosedBy-further quote (b ∷ rest) rest 1 one (one_more quote b rest) closed-one

pub text_closed : (quote : ℕ) (bytes : List ℕ) → ClosedBy quote bytes (length_of (text_inside quote bytes))
unfolding text_inside
text_closed quote [] = none_closed quote []
text_closed quote (b ∷ []) = subst (ClosedBy quote (b ∷ [])) (sym (text_length-step quote b [])) (ClosedBy-step quote b [] (nat_eq b quote) false (nat_eq b 92) None None refl (none_closed quote []) (none_closed quote []))
text_closed quote (b ∷ c ∷ rest) = subst (ClosedBy quote (b ∷ c ∷ rest)) (sym (text_length-step quote b (c ∷ rest))) (ClosedBy-step quote b (c ∷ rest) (nat_eq b quote) (nat_eq c quote) (nat_eq b 92) (length_of (text_inside quote rest)) (length_of (text_inside quote (c ∷ rest))) refl (text_closed quote rest) (text_closed quote (c ∷ rest)))

ClosedBy-end : (quote : ℕ) (bytes : List ℕ) (b : Bool) → begins_with quote bytes ≡ b → ClosedBy quote bytes (cond b (Some 1) None)
ClosedBy-end quote [] true e = absurd cc
ClosedBy-end quote (x ∷ rest) true e = ClosedBy-one quote x rest (eqb-true x quote e)
ClosedBy-end quote bytes false e = none_closed quote bytes

bytes_closed-by : (b c : ℕ) (rest : List ℕ) (pair : Bool) → is_pair (b ∷ c ∷ rest) ≡ pair → ClosedBy 39 rest (length_of (bytes_inside rest)) → ClosedBy 39 (b ∷ c ∷ rest) (length_of (bytes_inside (b ∷ c ∷ rest)))
bytes_closed-by b c rest true e closed = subst (ClosedBy 39 (b ∷ c ∷ rest)) (sym (bytes_length-pair (b ∷ c ∷ rest) e)) (ClosedBy-further 39 (b ∷ c ∷ rest) rest 2 _ (two_more 39 b (c ∷ rest)) closed)
bytes_closed-by b c rest false e closed = subst (ClosedBy 39 (b ∷ c ∷ rest)) (sym (bytes_length-end (b ∷ c ∷ rest) e)) (ClosedBy-end 39 (b ∷ c ∷ rest) (begins_with 39 (b ∷ c ∷ rest)) refl)

pub bytes_closed : (bytes : List ℕ) → ClosedBy 39 bytes (length_of (bytes_inside bytes))
bytes_closed [] = subst (ClosedBy 39 []) (sym (bytes_length-end [] refl)) (none_closed 39 [])
bytes_closed (b ∷ []) = subst (ClosedBy 39 (b ∷ [])) (sym (bytes_length-end (b ∷ []) (and-false (is_ascii_hexdigit b)))) (ClosedBy-end 39 (b ∷ []) (begins_with 39 (b ∷ [])) refl)
bytes_closed (b ∷ c ∷ rest) = bytes_closed-by b c rest (is_pair (b ∷ c ∷ rest)) refl (bytes_closed rest)

stops_at_backquote : (bytes : List ℕ) → position_or_len (λ b. nat_eq b 96) bytes < length bytes → get_or bytes (position_or_len (λ b. nat_eq b 96) bytes) 0 ≡ 96
stops_at_backquote bytes lt = let stop = prefix_len_stops (λ b. not (nat_eq b 96)) bytes 0 lt in grind (arith, nat_tests, stop)

name_end_is : (bytes : List ℕ) (n : ℕ) → nat_lt (position_or_len (λ x. nat_eq x 96) bytes) (length bytes) ≡ true → length_of (name_inside bytes) ≡ Some n → n ≡ position_or_len (λ x. nat_eq x 96) bytes + 1
unfolding name_inside
name_end_is bytes n e is =
    let some : length_of (name_inside bytes) ≡ Some (position_or_len (λ x. nat_eq x 96) bytes + 1) = rw e refl in
    cc

name_closed-by : (bytes : List ℕ) (b : Bool) → nat_lt (position_or_len (λ x. nat_eq x 96) bytes) (length bytes) ≡ b → ClosedBy 96 bytes (length_of (name_inside bytes))
unfolding name_inside
name_closed-by bytes true e = λ n is.
    let end = position_or_len (λ b. nat_eq b 96) bytes in
    let lt : end < length bytes = ltb-true _ _ e in
    let same : n ≡ end + 1 = name_end_is bytes n e is in
    record { before = end; length_is = same; within = lt; at_quote = stops_at_backquote bytes lt }
name_closed-by bytes false e = λ n is. absurd (let none : length_of (name_inside bytes) ≡ None = rw e refl in cc)

pub name_closed : (bytes : List ℕ) → ClosedBy 96 bytes (length_of (name_inside bytes))
name_closed bytes = name_closed-by bytes _ refl

-- ---- the front of a rest

-- each front that is read ends between two characters
abbrev pub AllCut : List ℕ → Result Front WordFault → Type 0
AllCut bytes read = (f : Front) → read ≡ Ok f → Cuts bytes (size_of f)

AllCut-cond : (bytes : List ℕ) (b : Bool) (x y : Result Front WordFault) → (b ≡ true → AllCut bytes x) → (b ≡ false → AllCut bytes y) → AllCut bytes (cond b x y)
AllCut-cond bytes true x y first second = first refl
AllCut-cond bytes false x y first second = second refl

AllCut-ok : (bytes : List ℕ) (f : Front) → Cuts bytes (size_of f) → AllCut bytes (Ok f)
AllCut-ok bytes f cuts = λ g e. let same : f ≡ g = cc in subst (λ h. Cuts bytes (size_of h)) same cuts

AllCut-err : (bytes : List ℕ) (fault : WordFault) → AllCut bytes (Err fault)
AllCut-err bytes fault = λ g e. absurd cc

white_ascii : (b : ℕ) → is_white b ≡ true → b < 128
white_ascii b h = grind (arith, nat_tests, h)

name_ascii : (b : ℕ) → is_name_byte b ≡ true → b < 128
name_ascii b h = grind (arith, nat_tests, h)

digit_ascii : (b : ℕ) → is_ascii_digit b ≡ true → b < 128
digit_ascii b h = grind (arith, nat_tests, h)

sign_ascii : (b : ℕ) → is_sign b ≡ true → b < 128
sign_ascii b h = grind (arith, nat_tests, h)

start_is_name : (b : ℕ) → is_name_start b ≡ true → is_name_byte b ≡ true
start_is_name b h = rw h refl

no_line_end : (b : ℕ) → is_white b ≡ false → not (is_line_end b) ≡ true
no_line_end b h = grind (arith, nat_tests, h)

line_end_ascii : (b : ℕ) → not (is_line_end b) ≡ false → b < 128
line_end_ascii b h = grind (arith, nat_tests, h)

first_passes : (p : ℕ → Bool) (bytes : List ℕ) → 0 < length bytes → p (get_or bytes 0 0) ≡ true → 0 < prefix_len p bytes
first_passes p [] some h = absurd (omega arith)
first_passes p (b ∷ rest) some h = rw h (omega arith)

-- there is a byte where one is read that isn't 0
nonzero_within : (bytes : List ℕ) (i : ℕ) → 0 < get_or bytes i 0 → i < length bytes
nonzero_within [] i h = absurd (omega arith)
nonzero_within (b ∷ rest) zero h = omega arith
nonzero_within (b ∷ rest) (suc i) h = omega (arith, nonzero_within rest i h)

digit_nonzero : (b : ℕ) → is_ascii_digit b ≡ true → 0 < b
digit_nonzero b h = grind (arith, nat_tests, h)

-- a run of ASCII bytes behind the first few
Cuts-run : (p : ℕ → Bool) (bytes : List ℕ) (s : ℕ) → ((b : ℕ) → p b ≡ true → b < 128) → IsUtf8 bytes → s < length bytes → p (get_or bytes s 0) ≡ true → Cuts bytes (s + prefix_len p (drop s bytes))
Cuts-run p bytes s ascii utf8 lt first =
    let rest = drop s bytes in
    let n = prefix_len p rest in
    let here : get_or rest 0 0 ≡ get_or bytes s 0 = get_or-drop s bytes 0 0 ∙ ap (λ i. get_or bytes i 0) (add-zero s) in
    let long : length rest ≡ length bytes - s = length-drop s bytes in
    let some : 0 < n = first_passes p rest (omega arith) (ap p here ∙ first) in
    let le : n ≤ length rest = prefix_len-le-length p rest in
    let last : p (get_or rest (n - 1) 0) ≡ true = prefix_len_passes p rest (n - 1) 0 (omega arith) in
    let there : get_or rest (n - 1) 0 ≡ get_or bytes (s + (n - 1)) 0 = get_or-drop s bytes (n - 1) 0 in
    Cuts-last_ascii bytes (s + n) (s + (n - 1)) utf8 (omega arith) (omega arith) (ascii (get_or bytes (s + (n - 1)) 0) (ap p (sym there) ∙ last))

Cuts-name : (bytes : List ℕ) → IsUtf8 bytes → 0 < length bytes → is_name_start (get_or bytes 0 0) ≡ true → Cuts bytes (name_length bytes)
Cuts-name bytes utf8 any start = subst (Cuts bytes) (omega arith) (Cuts-run is_name_byte bytes 0 name_ascii utf8 any (start_is_name (get_or bytes 0 0) start))

Cuts-line : (bytes : List ℕ) → IsUtf8 bytes → 0 < length bytes → is_white (get_or bytes 0 0) ≡ false → Cuts bytes (line_length bytes)
Cuts-line bytes utf8 any dark =
    let p : ℕ → Bool = λ b. not (is_line_end b) in
    let some : 0 < prefix_len p bytes = first_passes p bytes any (no_line_end (get_or bytes 0 0) dark) in
    let le : prefix_len p bytes ≤ length bytes = prefix_len-le-length p bytes in
    record { some = some; boundary = (le, λ lt. (IsCharBoundary-before_ascii bytes (prefix_len p bytes) lt (line_end_ascii (get_or bytes (prefix_len p bytes) 0) (prefix_len_stops p bytes 0 lt))).1 lt) }

-- behind a quote that closes what begins at s
Cuts-closed : (quote s : ℕ) (bytes : List ℕ) (n : ℕ) → quote < 128 → IsUtf8 bytes → Closes quote (drop s bytes) n → Cuts bytes (s + n)
Cuts-closed quote s bytes n ascii utf8 c =
    let there : get_or (drop s bytes) c.before 0 ≡ get_or bytes (s + c.before) 0 = get_or-drop s bytes c.before 0 in
    Cuts-last_ascii bytes (s + n) (s + c.before) utf8 (omega (arith, c.length_is)) (omega (arith, c.within, length-drop s bytes)) (omega (arith, there, c.at_quote))

quoted_cuts : (place quote : ℕ) (class : WordClass) (bytes : List ℕ) (o : Option ℕ) → quote < 128 → IsUtf8 bytes → ClosedBy quote (drop 1 bytes) o → AllCut bytes (quoted place class o)
quoted_cuts place quote class bytes None ascii utf8 closed = AllCut-err bytes _
quoted_cuts place quote class bytes (Some n) ascii utf8 closed = AllCut-ok bytes (Found class (1 + n)) (Cuts-closed quote 1 bytes n ascii utf8 (closed n refl))

bytes_cuts-by : (bytes : List ℕ) (b : Bool) (o : Option ℕ) (name : ℕ) → IsUtf8 bytes → ClosedBy 39 (drop 2 bytes) o → Cuts bytes name → Cuts bytes (size_of (bytes_or_name (cond b (option_map (λ n. 2 + n) o) None) name))
bytes_cuts-by bytes true (Some n) name utf8 closed cuts = Cuts-closed 39 2 bytes n (omega arith) utf8 (closed n refl)
bytes_cuts-by bytes true None name utf8 closed cuts = cuts
bytes_cuts-by bytes false o name utf8 closed cuts = cuts

number_cuts : (place : ℕ) (bytes : List ℕ) → IsUtf8 bytes → begins_number bytes ≡ true → AllCut bytes (number place bytes)
number_cuts place bytes utf8 digit =
    AllCut-cond bytes _ _ _ (λ _. AllCut-err bytes _) (λ _. AllCut-ok bytes (Found class.Number (sign_width bytes + digit_count bytes)) (Cuts-run is_ascii_digit bytes (sign_width bytes) digit_ascii utf8 (nonzero_within bytes (sign_width bytes) (digit_nonzero _ digit)) digit))

sign_cuts-by : (bytes : List ℕ) (b : Bool) → (is_angle (get_or bytes 0 0) && nat_eq (get_or bytes 1 0) 61) ≡ b → IsUtf8 bytes → 0 < length bytes → is_sign (get_or bytes 0 0) ≡ true → Cuts bytes (cond b 2 1)
sign_cuts-by bytes true e utf8 any sign =
    let second : get_or bytes 1 0 ≡ 61 = grind (arith, nat_tests, e) in
    Cuts-last_ascii bytes 2 1 utf8 refl (nonzero_within bytes 1 (omega (arith, second))) (omega (arith, second))
sign_cuts-by bytes false e utf8 any sign = Cuts-last_ascii bytes 1 0 utf8 refl any (sign_ascii (get_or bytes 0 0) sign)

pub quote_ascii : (b : ℕ) → is_quote b ≡ true → b < 128
quote_ascii b h = grind (arith, nat_tests, h)

pub front_cuts : (place : ℕ) (bytes : List ℕ) → IsUtf8 bytes → 0 < length bytes → AllCut bytes (front_at place bytes)
unfolding front_at
front_cuts place bytes utf8 any =
    let first = get_or bytes 0 0 in
    AllCut-cond bytes (is_white first) _ _ (λ white. AllCut-ok bytes (Gap 1) (Cuts-last_ascii bytes 1 0 utf8 refl any (white_ascii first white)))
    (λ dark. AllCut-cond bytes (begins_comment bytes) _ _ (λ _. AllCut-ok bytes (Gap (line_length bytes)) (Cuts-line bytes utf8 any dark))
    (λ _. AllCut-cond bytes (is_name_start first) _ _ (λ start. AllCut-ok bytes (bytes_or_name (bytes_length bytes) (name_length bytes)) (bytes_cuts-by bytes (begins_bytes bytes) (length_of (bytes_inside (drop 2 bytes))) (name_length bytes) utf8 (bytes_closed (drop 2 bytes)) (Cuts-name bytes utf8 any start)))
    (λ _. AllCut-cond bytes (begins_number bytes) _ _ (λ digit. number_cuts place bytes utf8 digit)
    (λ _. AllCut-cond bytes (is_quote first) _ _ (λ quote. quoted_cuts place first class.Text bytes (length_of (text_inside first (drop 1 bytes))) (quote_ascii first quote) utf8 (text_closed first (drop 1 bytes)))
    (λ _. AllCut-cond bytes (nat_eq first 96) _ _ (λ _. quoted_cuts place 96 class.Quoted bytes (length_of (name_inside (drop 1 bytes))) (omega arith) utf8 (name_closed (drop 1 bytes)))
    (λ _. AllCut-cond bytes (is_sign first) _ _ (λ sign. AllCut-ok bytes (Found class.Sign (sign_length bytes)) (sign_cuts-by bytes _ refl utf8 any sign))
    (λ _. AllCut-err bytes _)))))))

-- a text begins with an ASCII byte
quote_nonzero : (b : ℕ) → is_quote b ≡ true → 0 < b
quote_nonzero b h = grind (arith, nat_tests, h)

pub text_begins : (bytes : List ℕ) → is_text bytes ≡ true → (0 < length bytes) × (get_or bytes 0 0 < 128)
text_begins bytes e =
    let quote : is_quote (get_or bytes 0 0) ≡ true = first_so _ _ e in
    (nonzero_within bytes 0 (quote_nonzero (get_or bytes 0 0) quote), quote_ascii (get_or bytes 0 0) quote)

-- ---- a name between backquotes

pub record IsQuotedName (bytes : List ℕ) : Type 0 where
  pub long : 2 ≤ length bytes
  pub first : get_or bytes 0 0 ≡ 96
  pub last : get_or bytes (length bytes - 1) 0 ≡ 96
  pub value : value_of (name_inside (drop 1 bytes)) ≡ Some (take (length bytes - 2) (drop 1 bytes))

quoted_name-by : (bytes : List ℕ) (b : Bool) → nat_lt (position_or_len (λ x. nat_eq x 96) (drop 1 bytes)) (length (drop 1 bytes)) ≡ b → get_or bytes 0 0 ≡ 96 → is_all (length_of (name_inside (drop 1 bytes))) (drop 1 bytes) ≡ true → IsQuotedName bytes
unfolding name_inside
quoted_name-by bytes true t first all =
    let inside = drop 1 bytes in
    let end = position_or_len (λ x. nat_eq x 96) inside in
    let is : length_of (name_inside inside) ≡ Some (end + 1) = rw t refl in
    let whole : nat_eq (end + 1) (length inside) ≡ true = ap (λ o. is_all o inside) (sym is) ∙ all in
    let size : end + 1 ≡ length inside = eqb-true _ _ whole in
    let lt : end < length inside = ltb-true _ _ t in
    let long : 2 ≤ length bytes = omega (arith, size, length-drop 1 bytes) in
    let here : 1 + end ≡ length bytes - 1 = omega (arith, size, length-drop 1 bytes) in
    let count : end ≡ length bytes - 2 = omega (arith, size, length-drop 1 bytes) in
    let value : value_of (name_inside inside) ≡ Some (take end inside) = rw t refl in
    record {
      long = long;
      first = first;
      last = ap (λ k. get_or bytes k 0) (sym here) ∙ sym (get_or-drop 1 bytes end 0) ∙ stops_at_backquote inside lt;
      value = value ∙ ap (λ k. Some (take k inside)) count;
    }
quoted_name-by bytes false t first all =
    let none : length_of (name_inside (drop 1 bytes)) ≡ None = rw t refl in
    let never : false ≡ true = ap (λ o. is_all o (drop 1 bytes)) (sym none) ∙ all in
    absurd cc

pub quoted_name_is : (bytes : List ℕ) → is_quoted_name bytes ≡ true → IsQuotedName bytes
quoted_name_is bytes e = quoted_name-by bytes _ refl (eqb-true (get_or bytes 0 0) 96 (first_so _ _ e)) (second_so _ _ e)

-- ---- what stands between quotes

-- the byte at this place and the last are ASCII, and the one stands before the other
pub record IsBetween (bytes : List ℕ) (before : ℕ) : Type 0 where
  pub long : before + 2 ≤ length bytes
  pub first : get_or bytes before 0 < 128
  pub last : get_or bytes (length bytes - 1) 0 < 128

between : (quote before : ℕ) (bytes : List ℕ) (o : Option ℕ) → quote < 128 → get_or bytes before 0 < 128 → ClosedBy quote (drop (before + 1) bytes) o → is_all o (drop (before + 1) bytes) ≡ true → IsBetween bytes before
between quote before bytes None ascii first closed all = absurd cc
between quote before bytes (Some n) ascii first closed all =
    let c : Closes quote (drop (before + 1) bytes) n = closed n refl in
    let size : n ≡ length (drop (before + 1) bytes) = eqb-true _ _ all in
    let here : before + 1 + c.before ≡ length bytes - 1 = omega (arith, size, c.length_is, c.within, length-drop (before + 1) bytes) in
    let last : get_or bytes (length bytes - 1) 0 ≡ quote = ap (λ k. get_or bytes k 0) (sym here) ∙ sym (get_or-drop (before + 1) bytes c.before 0) ∙ c.at_quote in
    record { long = omega (arith, size, c.length_is, c.within, length-drop (before + 1) bytes); first = first; last = omega (arith, last, ascii) }

pub text_between : (bytes : List ℕ) → is_text bytes ≡ true → IsBetween bytes 0
text_between bytes e =
    let first = get_or bytes 0 0 in
    let ascii : first < 128 = quote_ascii first (first_so _ _ e) in
    between first 0 bytes (length_of (text_inside first (drop 1 bytes))) ascii ascii (text_closed first (drop 1 bytes)) (second_so _ _ e)

quote_is_second : (bytes : List ℕ) → begins_bytes bytes ≡ true → get_or bytes 1 0 ≡ 39
quote_is_second [] e = absurd cc
quote_is_second (a ∷ []) e = absurd (grind (arith, nat_tests, e))
quote_is_second (a ∷ b ∷ rest) e = grind (arith, nat_tests, e)

pub bytes_between : (bytes : List ℕ) → is_bytes bytes ≡ true → IsBetween bytes 1
bytes_between bytes e =
    let second : get_or bytes 1 0 ≡ 39 = quote_is_second bytes (first_so _ _ e) in
    between 39 1 bytes (length_of (bytes_inside (drop 2 bytes))) (omega arith) (omega (arith, second)) (bytes_closed (drop 2 bytes)) (second_so _ _ e)
