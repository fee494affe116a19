-- A checkpoint row is read as the checkpoint whose row it is, and nothing else is read as one.
use Rattle.std.proofs.Common.{◌≡◌, ◌∙◌, ℕ, suc, ◌+◌, ◌<◌, ◌^◌, ◌==◌, ◌&&◌, Bool, true, false, cond, nat_lt, List, [], ◌∷◌, ◌++◌, length, take, drop, Option, Some, None, refl, sym, ap, subst, codes, arith, lit<, append_assoc, length-append}
use Rattle.std.specs.Prelude.{ℤ, pos, nat_le}
use Rattle.std.specs.Char.{is_ascii_digit}
use Rattle.std.specs.Fmt.{decimal}
use Rattle.std.specs.List.{position_or_len, before_first, after_first}
use Rattle.std.specs.Option.{option_map, option_and_then}
use Rattle.std.specs.Ordering.{int_eq}
use Rattle.std.specs.Str.{bytes_eq, all_ascii_digits}
use Rattle.std.proofs.lemmas.Bool.{and_parts}
use Rattle.std.proofs.lemmas.Bool.Decides.{nat_tests, Decides-int_eq}
use Rattle.std.proofs.lemmas.List.{take_at, drop_at}
use Rattle.std.proofs.lemmas.Option.{cond_some, none-some, option_and_then_some}
use Rattle.std.proofs.lemmas.Slice.Eq.{bytes_eq-Decides}
use Rattle.base_values.specs.declared.value.Value.{Value}
use Rattle.base_values.specs.declared.value.Value.TheVariants.{Null, Num, Text, Blob}
use Rattle.base_values.specs.Literals.{printed_row}
use Rattle.base_values.specs.StoredValues.{character_count}
use Rattle.sql_grammar.proofs.WordValues.ReadBack.{decimal_digits}
use Rattle.tool_changelog.specs.declared.checkpoint.Reach.{Reach}
use Rattle.tool_changelog.specs.declared.checkpoint.Reach.TheVariants.{Nothing, To, All}
use Rattle.tool_notes.specs.declared.checkpoint.Checkpoint.{Checkpoint}
use Rattle.tool_changelog.specs.Checkpoints.{reach_text, checkpoint_text, checkpoint_value, checkpoint_row}
use Rattle.tool_notes.specs.Laws.{IsWritten, ReadHasRow, RowsAreRead}
use Rattle.tool_notes.specs.Readings.{literals, position_of, reach_of, is_blank, note_at, note_of, has_text, checked, checkpoint_of}
use Rattle.tool_notes.proofs.Lexing.{tells_number, tells_row}

-- ---- what is read has this row

if_some : {A : Type 0} (b : Bool) (o : Option A) (x : A) → cond b o None ≡ Some x → (b ≡ true) × (o ≡ Some x)
if_some true o x is = (refl, is)
if_some false o x is = absurd (none-some x is)

abbrev note_for : ℕ → Reach → Checkpoint
note_for position reach = record { position = position; reach = reach }

abbrev note_row : List ℕ → List Value
note_row text = Num (pos 0) ∷ Text (codes "checkpoint") ∷ Text text ∷ []

text_is : (value : Option Value) (text : List ℕ) → has_text value text ≡ true → value ≡ Some (Text text)
text_is None text is = absurd (cc)
text_is (Some Null) text is = absurd (cc)
text_is (Some (Num n)) text is = absurd (cc)
text_is (Some (Blob blob)) text is = absurd (cc)
text_is (Some (Text value)) text is = ap (λ (t : List ℕ). Some (Text t)) ((bytes_eq-Decides value text).0 is)

checked_is : (text : List ℕ) (note found : Checkpoint) → checked text note ≡ Some found → checkpoint_row found.position found.reach ≡ Some (note_row text)
unfolding checkpoint_row
checked_is text note found is =
    let parts = cond_some (has_text (checkpoint_value note.position note.reach) text) note found is in
    let own : checkpoint_row note.position note.reach ≡ Some (note_row text) =
    ap (option_map (λ (value : Value). Num (pos 0) ∷ Text (codes "checkpoint") ∷ value ∷ [])) (text_is (checkpoint_value note.position note.reach) text parts.0) in
    subst (λ (other : Checkpoint). checkpoint_row other.position other.reach ≡ Some (note_row text)) parts.1 own

row_is : (id : ℤ) (hint text : List ℕ) (found : Checkpoint) → checkpoint_of (Num id ∷ Text hint ∷ Text text ∷ []) ≡ Some found → checkpoint_row found.position found.reach ≡ Some (Num id ∷ Text hint ∷ Text text ∷ [])
row_is id hint text found is =
    let whole = if_some (int_eq id (pos 0) && bytes_eq hint (codes "checkpoint")) (option_and_then (checked text) (note_of text)) found is in
    let both = and_parts (int_eq id (pos 0)) (bytes_eq hint (codes "checkpoint")) whole.0 in
    let zero_id : id ≡ pos 0 = (Decides-int_eq id (pos 0)).0 both.0 in
    let same_hint : hint ≡ codes "checkpoint" = (bytes_eq-Decides hint (codes "checkpoint")).0 both.1 in
    let made : checkpoint_row found.position found.reach ≡ Some (note_row text) =
    option_and_then_some (checked text) (note_of text) found whole.1 (λ note noted here. checked_is text note found here) in
    made ∙ ap (λ (n : ℤ). Some (Num n ∷ Text (codes "checkpoint") ∷ Text text ∷ [])) (sym zero_id) ∙ ap (λ (h : List ℕ). Some (Num id ∷ Text h ∷ Text text ∷ [])) (sym same_hint)

pub read_has_row : ReadHasRow
read_has_row [] found is = absurd (none-some found is)
read_has_row (Null ∷ row) found is = absurd (none-some found is)
read_has_row (Text hint ∷ row) found is = absurd (none-some found is)
read_has_row (Blob blob ∷ row) found is = absurd (none-some found is)
read_has_row (Num id ∷ []) found is = absurd (none-some found is)
read_has_row (Num id ∷ Null ∷ row) found is = absurd (none-some found is)
read_has_row (Num id ∷ Num n ∷ row) found is = absurd (none-some found is)
read_has_row (Num id ∷ Blob blob ∷ row) found is = absurd (none-some found is)
read_has_row (Num id ∷ Text hint ∷ []) found is = absurd (none-some found is)
read_has_row (Num id ∷ Text hint ∷ Null ∷ row) found is = absurd (none-some found is)
read_has_row (Num id ∷ Text hint ∷ Num n ∷ row) found is = absurd (none-some found is)
read_has_row (Num id ∷ Text hint ∷ Blob blob ∷ row) found is = absurd (none-some found is)
read_has_row (Num id ∷ Text hint ∷ Text text ∷ other ∷ row) found is = absurd (none-some found is)
read_has_row (Num id ∷ Text hint ∷ Text text ∷ []) found is = row_is id hint text found is

-- ---- a row is read

digit_is_none : (digit : ℕ) → is_ascii_digit digit ≡ true → (digit == 32) ≡ false
digit_is_none digit is = grind (arith, nat_tests)

blank_at : (digits rest : List ℕ) → all_ascii_digits digits ≡ true → position_or_len is_blank ((digits ++ 32 ∷ []) ++ rest) ≡ length digits
blank_at [] rest all = refl
blank_at (digit ∷ digits) rest all =
    let parts = and_parts (is_ascii_digit digit) (all_ascii_digits digits) all in
    let one : 1 + length digits ≡ suc (length digits) = omega arith in
    rw (digit_is_none digit parts.0, blank_at digits rest parts.1) one

before_is : (digits rest : List ℕ) → all_ascii_digits digits ≡ true → before_first is_blank ((digits ++ 32 ∷ []) ++ rest) ≡ digits
before_is digits rest all =
    let text = (digits ++ 32 ∷ []) ++ rest in
    ap (λ (n : ℕ). take n text) (blank_at digits rest all) ∙ ap (take (length digits)) (append_assoc digits (32 ∷ []) rest) ∙ take_at digits (32 ∷ rest) (length digits) refl

after_is : (digits rest : List ℕ) → all_ascii_digits digits ≡ true → after_first is_blank ((digits ++ 32 ∷ []) ++ rest) ≡ rest
after_is digits rest all =
    let text = (digits ++ 32 ∷ []) ++ rest in
    ap (λ (n : ℕ). drop (n + 1) text) (blank_at digits rest all) ∙ drop_at (digits ++ 32 ∷ []) rest (length digits + 1) (length-append digits (32 ∷ []))

reach_is : (reach : Reach) → IsWritten reach → reach_of (reach_text reach) ≡ reach
unfolding printed_row
reach_is Nothing written = refl
reach_is (To key) written = ap To (tells_row key written)
reach_is All written = refl

position_is : (position : ℕ) → position < 2 ^ 64 → position_of (Num (pos position) ∷ []) ≡ Some position
position_is position wide = let is : nat_lt position (2 ^ 64) ≡ true = grind (arith, nat_tests) in rw is refl

note_is : (position : ℕ) (reach : Reach) → position < 2 ^ 64 → IsWritten reach → note_of (checkpoint_text position reach) ≡ Some (note_for position reach)
note_is position reach wide written =
    let more : 2 ^ 64 < 10 ^ 38 = lit< tt in
    let digits = decimal position in
    let all : all_ascii_digits digits ≡ true = (decimal_digits position (omega arith)).all in
    let before : position_of (literals (before_first is_blank (checkpoint_text position reach))) ≡ Some position =
    ap (λ (text : List ℕ). position_of (literals text)) (before_is digits (reach_text reach) all) ∙ ap position_of (tells_number position wide) ∙ position_is position wide in
    ap (note_at (after_first is_blank (checkpoint_text position reach))) before
    ∙ ap (λ (text : List ℕ). note_at text (Some position)) (after_is digits (reach_text reach) all)
    ∙ ap (λ (other : Reach). Some (note_for position other)) (reach_is reach written)

checked_again : (position : ℕ) (reach : Reach) → nat_le (character_count (checkpoint_text position reach)) 255 ≡ true → checked (checkpoint_text position reach) (note_for position reach) ≡ Some (note_for position reach)
checked_again position reach short =
    let text = checkpoint_text position reach in
    let value : checkpoint_value position reach ≡ Some (Text text) = ap (λ (b : Bool). cond b (Some (Text text)) None) short in
    ap (λ (other : Option Value). cond (has_text other text) (Some (note_for position reach)) None) value
    ∙ ap (λ (b : Bool). cond b (Some (note_for position reach)) None) ((bytes_eq-Decides text text).1 refl)

made_is : (position : ℕ) (reach : Reach) (row : List Value) → checkpoint_row position reach ≡ Some row → (nat_le (character_count (checkpoint_text position reach)) 255 ≡ true) × (note_row (checkpoint_text position reach) ≡ row)
unfolding checkpoint_row
made_is position reach row is = by (nat_le (character_count (checkpoint_text position reach)) 255) refl is
  where
    by : (b : Bool) → nat_le (character_count (checkpoint_text position reach)) 255 ≡ b
        → option_map (λ (value : Value). Num (pos 0) ∷ Text (codes "checkpoint") ∷ value ∷ []) (cond b (Some (Text (checkpoint_text position reach))) None) ≡ Some row
        → (nat_le (character_count (checkpoint_text position reach)) 255 ≡ true) × (note_row (checkpoint_text position reach) ≡ row)
    by true short made = (short, (cond_some true _ _ made).1)
    by false short made = absurd (none-some row made)

-- a row with this text is read as what the text tells
row_reported : (text : List ℕ) → checkpoint_of (note_row text) ≡ option_and_then (checked text) (note_of text)
row_reported text =
    let found = option_and_then (checked text) (note_of text) in
    ap (λ (b : Bool). cond (b && bytes_eq (codes "checkpoint") (codes "checkpoint")) found None) ((Decides-int_eq (pos 0) (pos 0)).1 refl)
    ∙ ap (λ (b : Bool). cond b found None) ((bytes_eq-Decides (codes "checkpoint") (codes "checkpoint")).1 refl)

pub rows_are_read : RowsAreRead
rows_are_read position reach row wide written is =
    let text = checkpoint_text position reach in
    let made = made_is position reach row is in
    ap checkpoint_of (sym made.1) ∙ row_reported text ∙ ap (option_and_then (checked text)) (note_is position reach wide written) ∙ checked_again position reach made.0
