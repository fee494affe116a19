-- What is read of sound words is sound, and so are the words behind it.
use Rattle.std.proofs.Common.{◌≡◌, ℕ, zero, suc, Bool, true, false, cond, List, [], ◌∷◌, length, Option, Some, None, Result, Ok, Err, refl, ap, subst, ◌∙◌, codes}
use Rattle.std.specs.Prelude.{ℤ}
use Rattle.std.specs.List.{AllByRecursion}
use Rattle.std.proofs.lemmas.Option.{cond_some}
use Rattle.base_values.specs.declared.kind.Kind.{Kind}
use Rattle.base_values.specs.declared.kind.Kind.TheVariants.{VarChar, VarBinary}
use Rattle.sql_words.specs.Meanings.{name_of}
use Rattle.sql_grammar.specs.declared.attributes.Attribute.{Attribute}
use Rattle.sql_grammar.specs.declared.attributes.Attribute.TheVariants.{Nullable, Default, AutoIncrement, Passed}
use Rattle.sql_grammar.specs.declared.code.SchemaCode.{SchemaCode}
use Rattle.sql_grammar.specs.declared.code.SchemaCode.TheVariants.{Syntax, Scope}
use Rattle.sql_grammar.specs.declared.keys.KeyText.{KeyText}
use Rattle.sql_grammar.specs.declared.kinds.KindWord.{KindWord}
use Rattle.sql_grammar.specs.declared.kinds.KindWord.TheVariants as kinds
use Rattle.sql_grammar.specs.declared.token.Token.{Token}
use Rattle.sql_grammar.specs.Attributes.{not_null_at, default_at, comment_at, character_set_at, collation_at, passed_at, attribute_at}
use Rattle.sql_grammar.specs.Keys.{key_mismatch, closed, names_at, key_columns_at, key_name, key_name_at, key_at}
use Rattle.sql_grammar.specs.Kinds.{kind_word, width_after, width_at, signed_kind, length_of, length_within, length_at, kind_after, kind_of, kind_at}
use Rattle.sql_grammar.specs.Listed.{with_others, listed, with_more, gathered}
use Rattle.sql_grammar.specs.Pieces.{after_keyword, after_sign, found_at, keyword_at, sign_at, with_rest, after_name, name_at, number_of, number_at, text_of, text_at, literal_of, literal_at, any_word_at}
use Rattle.base_values.specs.SchemaRules.Results.{◌>>=◌}
use Rattle.sql_grammar.specs.Scope.{mismatch}
use Rattle.sql_grammar.specs.Versions.{has_counters, is_auto_increment}
use Rattle.sql_grammar.specs.Tokens.{is_keyword, same_sign, is_sign}
use Rattle.std.proofs.lemmas.Bool.{and_parts}
use Rattle.base_values.proofs.SchemaRules.Steps.{bind_ok, ok_is}
use Rattle.proof_schemas.specs.Printed.Laws.{CanQuote}
use Rattle.proof_schemas.proofs.ReadAgain.Sound.{AreSound}
use Rattle.proof_schemas.proofs.ReadAgain.SoundValues.{name-sound, SoundValue, literal-sound}

-- ---- steps

-- what is read, and the words behind it
abbrev pub Leaves : {A C : Type 0} → (A → Type 0) → Result (A × List Token) C → Type 0
Leaves {A} P read = (x : A × List Token) → read ≡ Ok x → P x.0 × AreSound x.1

abbrev pub LeavesWords : {C : Type 0} → Result (List Token) C → Type 0
LeavesWords read = (words : List Token) → read ≡ Ok words → AreSound words

-- the same where nothing may be read
abbrev pub LeavesSome : {A C : Type 0} → (A → Type 0) → Result (Option (A × List Token)) C → Type 0
LeavesSome {A} P read = (x : A × List Token) → read ≡ Ok (Some x) → P x.0 × AreSound x.1

abbrev pub Anything : {A : Type 0} → A → Type 0
Anything x = Unit {0}

pub leaves-bind : {A B C : Type 0} (P : A → Type 0) (Q : B → Type 0) (r : Result (A × List Token) C) (f : A × List Token → Result (B × List Token) C) → Leaves P r → ((x : A × List Token) → P x.0 → AreSound x.1 → Leaves Q (f x)) → Leaves Q (r >>= f)
leaves-bind P Q r f first next y e =
    let b = bind_ok r f y e in
    let here = first b.0 b.1 in
    next b.0 here.0 here.1 y b.2

pub words-bind : {B C : Type 0} (Q : B → Type 0) (r : Result (List Token) C) (f : List Token → Result (B × List Token) C) → LeavesWords r → ((words : List Token) → AreSound words → Leaves Q (f words)) → Leaves Q (r >>= f)
words-bind Q r f first next y e =
    let b = bind_ok r f y e in
    next b.0 (first b.0 b.1) y b.2

pub some-bind : {A B C : Type 0} (P : A → Type 0) (Q : B → Type 0) (r : Result (A × List Token) C) (f : A × List Token → Result (Option (B × List Token)) C) → Leaves P r → ((x : A × List Token) → P x.0 → AreSound x.1 → LeavesSome Q (f x)) → LeavesSome Q (r >>= f)
some-bind P Q r f first next y e =
    let b = bind_ok r f (Some y) e in
    let here = first b.0 b.1 in
    next b.0 here.0 here.1 y b.2

pub words-some : {B C : Type 0} (Q : B → Type 0) (r : Result (List Token) C) (f : List Token → Result (Option (B × List Token)) C) → LeavesWords r → ((words : List Token) → AreSound words → LeavesSome Q (f words)) → LeavesSome Q (r >>= f)
words-some Q r f first next y e =
    let b = bind_ok r f (Some y) e in
    next b.0 (first b.0 b.1) y b.2

pub leaves-ok : {A C : Type 0} (P : A → Type 0) (x : A) (words : List Token) → P x → AreSound words → Leaves {A = A} {C = C} P (Ok (x, words))
leaves-ok {A} {C} P x words p sound y e = subst (λ (z : A × List Token). P z.0 × AreSound z.1) (ok_is {C = C} (x, words) y e) (p, sound)

pub leaves-err : {A C : Type 0} (P : A → Type 0) (code : C) → Leaves {A = A} {C = C} P (Err code)
leaves-err P code y e = absurd cc

pub leaves-cond : {A C : Type 0} (P : A → Type 0) (b : Bool) (x y : Result (A × List Token) C) → Leaves P x → Leaves P y → Leaves P (cond b x y)
leaves-cond P true x y first second = first
leaves-cond P false x y first second = second

abbrev taken : (A C : Type 0) → A → Result (Option A) C
taken A C x = Ok (Some x)

one_more : {A C : Type 0} (x y : A) → taken A C x ≡ taken A C y → x ≡ y
one_more x y e = cc

pub some-ok : {A C : Type 0} (P : A → Type 0) (x : A) (words : List Token) → P x → AreSound words → LeavesSome {A = A} {C = C} P (Ok (Some (x, words)))
some-ok {A} {C} P x words p sound y e = subst (λ (z : A × List Token). P z.0 × AreSound z.1) (one_more {A = A × List Token} {C = C} (x, words) y e) (p, sound)

pub some-none : {A C : Type 0} (P : A → Type 0) → LeavesSome {A = A} {C = C} P (Ok None)
some-none P y e = absurd cc

pub some-err : {A C : Type 0} (P : A → Type 0) (code : C) → LeavesSome {A = A} {C = C} P (Err code)
some-err P code y e = absurd cc

pub some-cond : {A C : Type 0} (P : A → Type 0) (b : Bool) (x y : Result (Option (A × List Token)) C) → LeavesSome P x → LeavesSome P y → LeavesSome P (cond b x y)
some-cond P true x y first second = first
some-cond P false x y first second = second

-- ---- single words

abbrev pub SomeSound : Option (List Token) → Type 0
SomeSound o = (rest : List Token) → o ≡ Some rest → AreSound rest

if-sound : (b : Bool) (rest : List Token) → AreSound rest → SomeSound (cond b (Some rest) None)
if-sound b rest sound other e = let p = cond_some b rest other e in subst AreSound p.1 sound

pub after_keyword-sound : (keyword : List ℕ) (words : List Token) → AreSound words → SomeSound (after_keyword keyword words)
unfolding after_keyword
after_keyword-sound keyword [] sound = λ rest e. absurd cc
after_keyword-sound keyword (word ∷ rest) sound = if-sound (is_keyword word keyword) rest sound.1

pub after_sign-sound : (sign : List ℕ) (words : List Token) → AreSound words → SomeSound (after_sign sign words)
unfolding after_sign
after_sign-sound sign [] sound = λ rest e. absurd cc
after_sign-sound sign (word ∷ rest) sound = if-sound (same_sign word sign) rest sound.1

found-words : (words : List Token) (o : Option (List Token)) → SomeSound o → LeavesWords (found_at words o)
found-words words (Some rest) sound = λ other e. subst AreSound (ok_is {C = SchemaCode} rest other e) (sound rest refl)
found-words words None sound = λ other e. absurd cc

pub keyword-sound : (keyword : List ℕ) (words : List Token) → AreSound words → LeavesWords (keyword_at keyword words)
unfolding keyword_at
keyword-sound keyword words sound = found-words words (after_keyword keyword words) (after_keyword-sound keyword words sound)

pub sign-sound : (sign : List ℕ) (words : List Token) → AreSound words → LeavesWords (sign_at sign words)
unfolding sign_at
sign-sound sign words sound = found-words words (after_sign sign words) (after_sign-sound sign words sound)

-- a word that stands for something
with-sound : {A : Type 0} (P : A → Type 0) (words rest : List Token) (o : Option A) → ((x : A) → o ≡ Some x → P x) → AreSound rest → Leaves P (found_at words (with_rest rest o))
with-sound P words rest (Some x) is sound = leaves-ok {C = SchemaCode} P x rest (is x refl) sound
with-sound P words rest None is sound = leaves-err P (mismatch words)

pub name_at-sound : (words : List Token) → AreSound words → Leaves CanQuote (name_at words)
unfolding name_at after_name
name_at-sound [] sound = leaves-err CanQuote (mismatch [])
name_at-sound (word ∷ rest) sound = with-sound CanQuote (word ∷ rest) rest (name_of word.class word.text) (λ name e. name-sound word.class word.text name sound.0 e) sound.1

number_at-sound : (words : List Token) → AreSound words → Leaves {A = ℤ} Anything (number_at words)
unfolding number_at
number_at-sound [] sound = leaves-err {A = ℤ} Anything (mismatch [])
number_at-sound (word ∷ rest) sound = with-sound {A = ℤ} Anything (word ∷ rest) rest (number_of word.class word.text) (λ n e. tt) sound.1

text_at-sound : (words : List Token) → AreSound words → Leaves {A = List ℕ} Anything (text_at words)
unfolding text_at
text_at-sound [] sound = leaves-err {A = List ℕ} Anything (mismatch [])
text_at-sound (word ∷ rest) sound = with-sound {A = List ℕ} Anything (word ∷ rest) rest (text_of word.class word.text) (λ n e. tt) sound.1

literal_at-sound : (words : List Token) → AreSound words → Leaves SoundValue (literal_at words)
unfolding literal_at
literal_at-sound [] sound = leaves-err SoundValue (mismatch [])
literal_at-sound (word ∷ rest) sound = with-sound SoundValue (word ∷ rest) rest (literal_of word) (literal-sound word sound.0) sound.1

any_word-by : (b : Bool) (code : SchemaCode) (rest : List Token) → AreSound rest → LeavesWords (cond b (Err code) (Ok rest))
any_word-by true code rest sound = λ other e. absurd cc
any_word-by false code rest sound = λ other e. subst AreSound (ok_is {C = SchemaCode} rest other e) sound

any_word-sound : (words : List Token) → AreSound words → LeavesWords (any_word_at words)
unfolding any_word_at
any_word-sound [] sound = λ other e. absurd cc
any_word-sound (word ∷ rest) sound = any_word-by (is_sign word.class) (mismatch (word ∷ rest)) rest sound.1

-- ---- lists

module _ {A C : Type 0} (P : A → Type 0) (item : List Token → Result (A × List Token) C) (ended : C) (each : (words : List Token) → AreSound words → Leaves P (item words)) where
  others-sound : (others : List Token → Result (List A × List Token) C) (first : A × List Token) (o : Option (List Token)) → P first.0 → AreSound first.1 → SomeSound o → ((words : List Token) → AreSound words → Leaves (AllByRecursion P) (others words)) → Leaves (AllByRecursion P) (with_others others first o)
  others-sound others first None p sound following rest = leaves-ok {C = C} (AllByRecursion P) (first.0 ∷ []) first.1 (p, tt) sound
  others-sound others first (Some words) p sound following rest =
      leaves-bind (AllByRecursion P) (AllByRecursion P) (others words) (λ more. Ok (first.0 ∷ more.0, more.1)) (rest words (following words refl)) (λ more all left. leaves-ok {C = C} (AllByRecursion P) (first.0 ∷ more.0) more.1 (p, all) left)

  pub listed-sound : (most : ℕ) (words : List Token) → AreSound words → Leaves (AllByRecursion P) (listed item ended most words)
  unfolding listed
  listed-sound zero words sound = leaves-err (AllByRecursion P) ended
  listed-sound (suc most) words sound =
      leaves-bind P (AllByRecursion P) (item words) (λ first. with_others (listed item ended most) first (after_sign (codes ",") first.1)) (each words sound)
      (λ first p left. others-sound (listed item ended most) first (after_sign (codes ",") first.1) p left (after_sign-sound (codes ",") first.1 left) (listed-sound most))

module _ {S X C : Type 0} (I : S → Type 0) (P : X → Type 0) (item : List Token → Result (Option (X × List Token)) C) (add : S → X → S) (each : (words : List Token) → AreSound words → LeavesSome P (item words)) (keeps : (s : S) (x : X) → I s → P x → I (add s x)) where
  more-sound : (others : S → List Token → Result (S × List Token) C) (so_far : S) (words : List Token) (o : Option (X × List Token)) → I so_far → AreSound words → ((x : X × List Token) → o ≡ Some x → P x.0 × AreSound x.1) → ((s : S) (rest : List Token) → I s → AreSound rest → Leaves I (others s rest)) → Leaves I (with_more others add so_far words o)
  more-sound others so_far words None i sound read rest = leaves-ok {C = C} I so_far words i sound
  more-sound others so_far words (Some x) i sound read rest = let here = read x refl in rest (add so_far x.0) x.1 (keeps so_far x.0 i here.0) here.1

  pub gathered-sound : (most : ℕ) (so_far : S) (words : List Token) → I so_far → AreSound words → Leaves I (gathered item add most so_far words)
  unfolding gathered
  gathered-sound zero so_far words i sound y e = leaves-ok {C = C} I so_far words i sound y e
  gathered-sound (suc most) so_far words i sound y e =
      let b = bind_ok (item words) (λ read. with_more (gathered item add most) add so_far words read) y e in
      more-sound (gathered item add most) so_far words b.0 i sound (λ x is. each words sound x (b.1 ∙ ap (λ (o : Option (X × List Token)). Ok o) is)) (gathered-sound most) y b.2

-- ---- kinds

width-number : (number : ℤ × List Token) → AreSound number.1 → LeavesWords (sign_at (codes ")") number.1)
width-number number left = sign-sound (codes ")") number.1 left

width-by : (words : List Token) (o : Option (List Token)) → AreSound words → SomeSound o → LeavesWords (width_after words o)
width-by words None sound following other e = subst AreSound (ok_is {C = SchemaCode} words other e) sound
width-by words (Some rest) sound following other e =
    let b = bind_ok (number_at rest) (λ number. sign_at (codes ")") number.1) other e in
    width-number b.0 (number_at-sound rest (following rest refl) b.0 b.1).1 other b.2

width-sound : (words : List Token) → AreSound words → LeavesWords (width_at words)
unfolding width_at
width-sound words sound = width-by words (after_sign (codes "(") words) sound (after_sign-sound (codes "(") words sound)

signed-sound : (bytes : ℕ) (words : List Token) (o : Option (List Token)) → AreSound words → SomeSound o → AreSound (signed_kind bytes words o).1
signed-sound bytes words None sound following = sound
signed-sound bytes words (Some rest) sound following = following rest refl

within-sound : (rest : List Token) (o : Option ℕ) → AreSound rest → Leaves {A = ℕ} Anything (length_within rest o)
within-sound rest (Some n) sound = leaves-ok {A = ℕ} {C = SchemaCode} Anything n rest tt sound
within-sound rest None sound = leaves-err {A = ℕ} Anything Scope

length-sound : (words : List Token) → AreSound words → Leaves {A = ℕ} Anything (length_at words)
unfolding length_at
length-sound words sound =
    words-bind {B = ℕ} Anything (sign_at (codes "(") words) (λ rest. number_at rest >>= λ number. length_within number.1 (length_of number.0) >>= λ length. sign_at (codes ")") length.1 >>= λ rest. Ok (length.0, rest)) (sign-sound (codes "(") words sound)
    (λ rest left. leaves-bind {A = ℤ} {B = ℕ} Anything Anything (number_at rest) (λ number. length_within number.1 (length_of number.0) >>= λ length. sign_at (codes ")") length.1 >>= λ rest. Ok (length.0, rest)) (number_at-sound rest left)
    (λ number u left. leaves-bind {A = ℕ} {B = ℕ} Anything Anything (length_within number.1 (length_of number.0)) (λ length. sign_at (codes ")") length.1 >>= λ rest. Ok (length.0, rest)) (within-sound number.1 (length_of number.0) left)
    (λ length u left. words-bind {B = ℕ} Anything (sign_at (codes ")") length.1) (λ rest. Ok (length.0, rest)) (sign-sound (codes ")") length.1 left)
    (λ rest left. leaves-ok {A = ℕ} {C = SchemaCode} Anything length.0 rest tt left))))

kind_after-sound : (kind : KindWord) (words : List Token) → AreSound words → Leaves {A = Kind} Anything (kind_after kind words)
unfolding kind_after
kind_after-sound (kinds.Integer bytes) words sound =
    words-bind {B = Kind} Anything (width_at words) (λ rest. Ok (signed_kind bytes rest (after_keyword (codes "UNSIGNED") rest))) (width-sound words sound)
    (λ rest left. leaves-ok {A = Kind} {C = SchemaCode} Anything (signed_kind bytes rest (after_keyword (codes "UNSIGNED") rest)).0 _ tt (signed-sound bytes rest (after_keyword (codes "UNSIGNED") rest) left (after_keyword-sound (codes "UNSIGNED") rest left)))
kind_after-sound kinds.VarChar words sound =
    leaves-bind {A = ℕ} {B = Kind} Anything Anything (length_at words) (λ length. Ok (VarChar length.0, length.1)) (length-sound words sound) (λ length u left. leaves-ok {A = Kind} {C = SchemaCode} Anything (VarChar length.0) length.1 tt left)
kind_after-sound kinds.VarBinary words sound =
    leaves-bind {A = ℕ} {B = Kind} Anything Anything (length_at words) (λ length. Ok (VarBinary length.0, length.1)) (length-sound words sound) (λ length u left. leaves-ok {A = Kind} {C = SchemaCode} Anything (VarBinary length.0) length.1 tt left)

kind_of-sound : (words rest : List Token) (o : Option KindWord) → AreSound rest → Leaves {A = Kind} Anything (kind_of words rest o)
kind_of-sound words rest (Some kind) sound = kind_after-sound kind rest sound
kind_of-sound words rest None sound = leaves-err {A = Kind} Anything (mismatch words)

pub kind_at-sound : (words : List Token) → AreSound words → Leaves {A = Kind} Anything (kind_at words)
unfolding kind_at
kind_at-sound [] sound = leaves-err {A = Kind} Anything (mismatch [])
kind_at-sound (word ∷ rest) sound = kind_of-sound (word ∷ rest) rest (kind_word word) sound.1

-- ---- attributes

module _ (version : ℕ) where
  abbrev pub SoundAttribute : Attribute → Type 0
  SoundAttribute (Nullable nullable) = Unit {0}
  SoundAttribute (Default value) = SoundValue value
  SoundAttribute AutoIncrement = has_counters version ≡ true
  SoundAttribute Passed = Unit {0}

  not_null-sound : (words : List Token) → AreSound words → LeavesSome SoundAttribute (not_null_at words)
  not_null-sound words sound = words-some SoundAttribute (keyword_at (codes "NULL") words) (λ rest. Ok (Some (Nullable false, rest))) (keyword-sound (codes "NULL") words sound) (λ rest left. some-ok {C = SchemaCode} SoundAttribute (Nullable false) rest tt left)

  default-sound : (words : List Token) → AreSound words → LeavesSome SoundAttribute (default_at words)
  default-sound words sound = some-bind SoundValue SoundAttribute (literal_at words) (λ value. Ok (Some (Default value.0, value.1))) (literal_at-sound words sound) (λ value is left. some-ok {C = SchemaCode} SoundAttribute (Default value.0) value.1 is left)

  comment-sound : (words : List Token) → AreSound words → LeavesSome SoundAttribute (comment_at words)
  comment-sound words sound = some-bind {A = List ℕ} Anything SoundAttribute (text_at words) (λ text. Ok (Some (Passed, text.1))) (text_at-sound words sound) (λ text u left. some-ok {C = SchemaCode} SoundAttribute Passed text.1 tt left)

  collation-sound : (words : List Token) → AreSound words → LeavesSome SoundAttribute (collation_at words)
  collation-sound words sound = words-some SoundAttribute (any_word_at words) (λ rest. Ok (Some (Passed, rest))) (any_word-sound words sound) (λ rest left. some-ok {C = SchemaCode} SoundAttribute Passed rest tt left)

  character_set-sound : (words : List Token) → AreSound words → LeavesSome SoundAttribute (character_set_at words)
  character_set-sound words sound =
      words-some SoundAttribute (keyword_at (codes "SET") words) (λ rest. any_word_at rest >>= λ rest. Ok (Some (Passed, rest))) (keyword-sound (codes "SET") words sound)
      (λ rest left. words-some SoundAttribute (any_word_at rest) (λ rest. Ok (Some (Passed, rest))) (any_word-sound rest left) (λ rest left. some-ok {C = SchemaCode} SoundAttribute Passed rest tt left))

  passed-sound : (words : List Token) → AreSound words → LeavesSome SoundAttribute (passed_at words)
  unfolding passed_at
  passed-sound [] sound = some-none {C = SchemaCode} SoundAttribute
  passed-sound (word ∷ rest) sound =
      some-cond SoundAttribute (is_keyword word (codes "COMMENT")) _ _ (comment-sound rest sound.1)
      (some-cond SoundAttribute (is_keyword word (codes "CHARACTER")) _ _ (character_set-sound rest sound.1)
      (some-cond SoundAttribute (is_keyword word (codes "COLLATE")) _ _ (collation-sound rest sound.1) (some-none {C = SchemaCode} SoundAttribute)))

  auto-some : (b : Bool) (rest : List Token) (other : Result (Option (Attribute × List Token)) SchemaCode) → (b ≡ true → has_counters version ≡ true) → AreSound rest → LeavesSome SoundAttribute other → LeavesSome SoundAttribute (cond b (Ok (Some (AutoIncrement, rest))) other)
  auto-some true rest other may sound leaves = some-ok {C = SchemaCode} SoundAttribute AutoIncrement rest (may refl) sound
  auto-some false rest other may sound leaves = leaves

  pub attribute-sound : (words : List Token) → AreSound words → LeavesSome SoundAttribute (attribute_at version words)
  unfolding attribute_at
  attribute-sound [] sound = some-none {C = SchemaCode} SoundAttribute
  attribute-sound (word ∷ rest) sound =
      some-cond SoundAttribute (is_keyword word (codes "NOT")) _ _ (not_null-sound rest sound.1)
      (some-cond SoundAttribute (is_keyword word (codes "NULL")) _ _ (some-ok {C = SchemaCode} SoundAttribute (Nullable true) rest tt sound.1)
      (some-cond SoundAttribute (is_keyword word (codes "DEFAULT")) _ _ (default-sound rest sound.1)
      (auto-some (is_auto_increment version word) rest (passed_at (word ∷ rest)) (λ on. (and_parts (is_keyword word (codes "AUTO_INCREMENT")) (has_counters version) on).1) sound.1 (passed-sound (word ∷ rest) sound))))

-- ---- keys

abbrev pub AreNames : List (List ℕ) → Type 0
AreNames names = AllByRecursion CanQuote names

abbrev pub SoundName : Option (List ℕ) → Type 0
SoundName None = Unit {0}
SoundName (Some name) = CanQuote name

abbrev pub SoundKey : KeyText → Type 0
SoundKey key = SoundName key.name × AreNames key.columns

names_at-sound : (words : List Token) → AreSound words → Leaves AreNames (names_at words)
unfolding names_at
names_at-sound words sound = listed-sound CanQuote name_at Syntax name_at-sound (length words) words sound

closed-sound : (names : List (List ℕ)) (words : List Token) (o : Option (List Token)) → AreNames names → SomeSound o → Leaves AreNames (closed names words o)
closed-sound names words None are following = leaves-err AreNames (key_mismatch words)
closed-sound names words (Some rest) are following = leaves-ok {C = SchemaCode} AreNames names rest are (following rest refl)

pub key_columns-sound : (words : List Token) → AreSound words → Leaves AreNames (key_columns_at words)
unfolding key_columns_at
key_columns-sound words sound =
    words-bind AreNames (sign_at (codes "(") words) (λ rest. names_at rest >>= λ names. closed names.0 names.1 (after_sign (codes ")") names.1)) (sign-sound (codes "(") words sound)
    (λ rest left. leaves-bind AreNames AreNames (names_at rest) (λ names. closed names.0 names.1 (after_sign (codes ")") names.1)) (names_at-sound rest left)
    (λ names are left. closed-sound names.0 names.1 (after_sign (codes ")") names.1) are (after_sign-sound (codes ")") names.1 left)))

key_name-sound : (words : List Token) (o : Option (List Token)) → AreSound words → Leaves SoundName (key_name words o)
key_name-sound words (Some rest) sound = leaves-ok {C = SchemaCode} SoundName None words tt sound
key_name-sound words None sound = leaves-bind CanQuote SoundName (name_at words) (λ name. Ok (Some name.0, name.1)) (name_at-sound words sound) (λ name is left. leaves-ok {C = SchemaCode} SoundName (Some name.0) name.1 is left)

key_name_at-sound : (words : List Token) → AreSound words → Leaves SoundName (key_name_at words)
unfolding key_name_at
key_name_at-sound words sound = key_name-sound words (after_sign (codes "(") words) sound

pub key_at-sound : (words : List Token) → AreSound words → Leaves SoundKey (key_at words)
unfolding key_at
key_at-sound words sound =
    leaves-bind SoundName SoundKey (key_name_at words) (λ name. key_columns_at name.1 >>= λ columns. Ok (record { name = name.0; columns = columns.0 }, columns.1)) (key_name_at-sound words sound)
    (λ name is left. leaves-bind AreNames SoundKey (key_columns_at name.1) (λ columns. Ok (record { name = name.0; columns = columns.0 }, columns.1)) (key_columns-sound name.1 left)
    (λ columns are left. leaves-ok {C = SchemaCode} SoundKey (record { name = name.0; columns = columns.0 }) columns.1 (is, are) left))
