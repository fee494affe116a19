-- What is read is encoded so.
use Rattle.std.proofs.Common.{◌≡◌, ◌≢◌, ℕ, zero, suc, ◌+◌, ◌*◌, ◌^◌, ◌/◌, ◌%◌, ◌<◌, ◌≤◌, ℤ, Bool, true, false, ◌&&◌, nat_eq, nat_le, cond, List, [], ◌∷◌, ◌++◌, length, take, drop, get_or, Option, Some, None, Result, Ok, Err, refl, ap, subst, sym, ◌∙◌, arith, Fits, append_assoc}
use Rattle.std.specs.Int.{w8, w32, w64, w128, from_be_bytes, cast_signed}
use Rattle.std.specs.List.{AllByRecursion}
use Rattle.std.specs.Str.{IsUtf8, is_utf8}
use Rattle.std.proofs.lemmas.Bool.{and_parts, eqb-true, leb-true}
use Rattle.std.proofs.lemmas.Bool.Decides.{nat_tests}
use Rattle.std.proofs.lemmas.Int.{of_z-to_z}
use Rattle.std.proofs.lemmas.List.{append-nil, take_at, take-append-drop, length-take-le}
use Rattle.std.proofs.lemmas.Nat.{be_bytes_4, be_bytes_8}
use Rattle.std.proofs.lemmas.Option.{cond_some}
use Rattle.std.proofs.lemmas.Str.{IsUtf8-from_is_utf8}
use Rattle.std.proofs.Math.Facts.{Fits-lt-pow}
use Rattle.base_values.specs.declared.value.Value.{Value}
use Rattle.base_values.specs.declared.value.Value.TheVariants.{Null, Num, Text, Blob}
use Rattle.base_values.specs.StoredValues.{character_count}
use Rattle.base_values.specs.declared.event.RowEvent.{RowEvent}
use Rattle.base_values.specs.declared.event.Change.{Change}
use Rattle.base_values.specs.declared.event.Change.TheVariants.{Write, Update, Delete}
use Rattle.server_log.specs.declared.fault.DecodeFault.{DecodeFault}
use Rattle.server_log.specs.declared.fault.DecodeFault.TheVariants.{Cut, BadTag, BadLength, BadValue}
use Rattle.server_log.specs.Encodings.{length_bytes, half_bytes, number_bytes, sized, value_bytes, values_bytes, tag_of, columns_of, values_of, body_of, encoded, is_number, IsEncodableValue, RowsAlike, IsEncodable}
use Rattle.server_log.specs.Decodings.{◌>>=◌, taken, sized_at, number_of, number_at, text_of, text_at, blob_at, value_at, with_value, values_at, name_of, name_at, count_at, one_row, two_rows, change_at, event_of, event_at, decoded}
use Rattle.server_log.specs.Laws.{IsHeld, IsWritten, ReadsWhatIsEncodable}
use Rattle.server_log.proofs.Sizes.{length-sized, values_bytes-none, values_bytes-cons, values_bytes-append}

-- each is a byte
abbrev Bytes : List ℕ → Type 0
Bytes bytes = AllByRecursion (λ byte. byte < 256) bytes

-- what was read
abbrev pair : {A B : Type 0} → A → B → Result (A × B) DecodeFault
pair a b = Ok (a, b)

went_on : {A B : Type 0} (read : Result A DecodeFault) (next : A → Result B DecodeFault) (b : B) → (read >>= next) ≡ Ok b → (a : A) × (read ≡ Ok a) × (next a ≡ Ok b)
went_on (Ok a) next b e = (a, refl, e)
went_on (Err fault) next b e = absurd cc

chosen : {A : Type 0} (b : Bool) (read : Result A DecodeFault) (fault : DecodeFault) (a : A) → cond b read (Err fault) ≡ Ok a → (b ≡ true) × (read ≡ Ok a)
chosen true read fault a e = (refl, e)
chosen false read fault a e = absurd cc

unless : {A : Type 0} (b : Bool) (read : Result A DecodeFault) (fault : DecodeFault) (a : A) → cond b (Err fault) read ≡ Ok a → (b ≡ false) × (read ≡ Ok a)
unless true read fault a e = absurd cc
unless false read fault a e = (refl, e)

abbrev ok_or : {A : Type 0} → A → Result A DecodeFault → A
ok_or default (Ok a) = a
ok_or default (Err fault) = default

both_ok : {A B : Type 0} (a c : A) (b d : B) → pair a b ≡ Ok (c, d) → (a ≡ c) × (b ≡ d)
both_ok {A} {B} a c b d e = (ap (first a) e, ap (second b) e)
  where
    first : A → Result (A × B) DecodeFault → A
    first default (Ok p) = p.0
    first default (Err fault) = default

    second : B → Result (A × B) DecodeFault → B
    second default (Ok p) = p.1
    second default (Err fault) = default

apart : (n m : ℕ) → nat_eq n m ≡ false → n ≢ m
apart n m e = λ same. grind (arith, nat_tests)

parts : (prefix rest : List ℕ) → Bytes (prefix ++ rest) → Bytes prefix × Bytes rest
parts [] rest all = (tt, all)
parts (byte ∷ prefix) rest all = ((all.0, (parts prefix rest all.1).0), (parts prefix rest all.1).1)

small : (bytes : List ℕ) → Bytes bytes → (i : ℕ) → get_or bytes i 0 < 256
small [] all i = omega arith
small (byte ∷ bytes) all zero = all.0
small (byte ∷ bytes) all (suc i) = small bytes all.1 i

taken_parts : (fault : DecodeFault) (n : ℕ) (bytes prefix rest : List ℕ) → taken fault n bytes ≡ Ok (prefix, rest) → (bytes ≡ prefix ++ rest) × (length prefix ≡ n)
unfolding taken
taken_parts fault n bytes prefix rest e =
    let c : (nat_le n (length bytes) ≡ true) × (pair (take n bytes) (drop n bytes) ≡ Ok (prefix, rest)) = chosen (nat_le n (length bytes)) (Ok (take n bytes, drop n bytes)) fault (prefix, rest) e in
    let p : (take n bytes ≡ prefix) × (drop n bytes ≡ rest) = both_ok (take n bytes) prefix (drop n bytes) rest c.1 in (
      sym (take-append-drop n bytes) ∙ ap (λ f. f ++ drop n bytes) p.0 ∙ ap (λ r. prefix ++ r) p.1,
      ap length (sym p.0) ∙ length-take-le n bytes (leb-true n (length bytes) c.0),
    )

length_there : (size : List ℕ) → Bytes size → length size ≡ 4 → length_bytes (from_be_bytes w32 size) ≡ size
unfolding length_bytes
length_there size all four = be_bytes_4 size (from_be_bytes w32 size) four (small size all) refl

half_there : (half : List ℕ) → Bytes half → length half ≡ 8 → half_bytes (from_be_bytes w64 half) ≡ half
unfolding half_bytes
half_there half all eight = be_bytes_8 half (from_be_bytes w64 half) eight (small half all) refl

length_fits : (size : List ℕ) → Bytes size → from_be_bytes w32 size < 2 ^ 32
length_fits size all = omega (arith, small size all 0, small size all 1, small size all 2, small size all 3)

half_fits : (half : List ℕ) → Bytes half → from_be_bytes w64 half < 2 ^ 64
half_fits half all = omega (arith, small half all 0, small half all 1, small half all 2, small half all 3, small half all 4, small half all 5, small half all 6, small half all 7)

-- bytes that stand behind their length
record IsSizedAt (bytes prefix rest : List ℕ) : Type 0 where
  split : bytes ≡ sized prefix ++ rest
  fits : length prefix < 2 ^ 32
  following : Bytes rest

sized_parts : (fault : DecodeFault) (bytes prefix rest : List ℕ) → Bytes bytes → sized_at fault bytes ≡ Ok (prefix, rest) → IsSizedAt bytes prefix rest
unfolding sized_at sized
sized_parts fault bytes prefix rest all e =
    let w = went_on (taken fault 4 bytes) (λ size. taken fault (from_be_bytes w32 size.0) size.1) (prefix, rest) e in
    let size : List ℕ = w.0.0 in
    let more : List ℕ = w.0.1 in
    let p : (bytes ≡ size ++ more) × (length size ≡ 4) = taken_parts fault 4 bytes size more w.1 in
    let q : (more ≡ prefix ++ rest) × (length prefix ≡ from_be_bytes w32 size) = taken_parts fault (from_be_bytes w32 size) more prefix rest w.2 in
    let these : Bytes size × Bytes more = parts size more (subst Bytes p.0 all) in
    let those : Bytes prefix × Bytes rest = parts prefix rest (subst Bytes q.0 these.1) in
    let encoding : length_bytes (length prefix) ≡ size = ap length_bytes q.1 ∙ length_there size these.0 p.1 in
    record {
      split = p.0 ∙ ap (λ m. size ++ m) q.0 ∙ sym (append_assoc size prefix rest) ∙ ap (λ s. (s ++ prefix) ++ rest) (sym encoding);
      fits = omega (arith, q.1, length_fits size these.0);
      following = those.1;
    }

-- a value that stands first
record IsValueAt (bytes : List ℕ) (value : Value) (rest : List ℕ) : Type 0 where
  split : bytes ≡ value_bytes value ++ rest
  encoded : IsEncodableValue value
  held : IsHeld value
  following : Bytes rest

high_of : (high low : ℕ) → low < 2 ^ 64 → (high * 2 ^ 64 + low) / 2 ^ 64 ≡ high
high_of high low fits = omega arith

low_of : (high low : ℕ) → low < 2 ^ 64 → (high * 2 ^ 64 + low) % 2 ^ 64 ≡ low
low_of high low fits = omega arith

both_fit : (high low : ℕ) → high < 2 ^ 64 → low < 2 ^ 64 → high * 2 ^ 64 + low < 2 ^ 128
both_fit high low p q = omega arith

number_encoded : (high low : List ℕ) → Bytes high → Bytes low → length high ≡ 8 → length low ≡ 8 → number_bytes (cast_signed w128 (from_be_bytes w64 high * 2 ^ 64 + from_be_bytes w64 low)) ≡ high ++ low
unfolding number_bytes
number_encoded high low all_high all_low eight_high eight_low =
    let h : ℕ = from_be_bytes w64 high in
    let l : ℕ = from_be_bytes w64 low in
    ap (λ u. half_bytes (u / 2 ^ 64) ++ half_bytes (u % 2 ^ 64)) (of_z-to_z w128 (h * 2 ^ 64 + l) (both_fit h l (half_fits high all_high) (half_fits low all_low)))
    ∙ ap (λ n. half_bytes n ++ half_bytes ((h * 2 ^ 64 + l) % 2 ^ 64)) (high_of h l (half_fits low all_low))
    ∙ ap (λ n. half_bytes h ++ half_bytes n) (low_of h l (half_fits low all_low))
    ∙ ap (λ b. b ++ half_bytes l) (half_there high all_high eight_high)
    ∙ ap (λ b. high ++ b) (half_there low all_low eight_low)

number_parts : (bytes : List ℕ) (value : Value) (rest : List ℕ) → Bytes bytes → number_at bytes ≡ Ok (Some value, rest) → IsValueAt (1 ∷ bytes) value rest
unfolding number_at number_of value_bytes
number_parts bytes value rest all e =
    let w = went_on (taken BadLength 8 bytes) (λ high. taken BadLength 8 high.1 >>= (λ low. Ok (number_of (from_be_bytes w64 high.0) (from_be_bytes w64 low.0), low.1))) (Some value, rest) e in
    let high : List ℕ = w.0.0 in
    let more : List ℕ = w.0.1 in
    let v = went_on (taken BadLength 8 more) (λ low. Ok (number_of (from_be_bytes w64 high) (from_be_bytes w64 low.0), low.1)) (Some value, rest) w.2 in
    let low : List ℕ = v.0.0 in
    let last : List ℕ = v.0.1 in
    let p : (bytes ≡ high ++ more) × (length high ≡ 8) = taken_parts BadLength 8 bytes high more w.1 in
    let q : (more ≡ low ++ last) × (length low ≡ 8) = taken_parts BadLength 8 more low last v.1 in
    let these : Bytes high × Bytes more = parts high more (subst Bytes p.0 all) in
    let those : Bytes low × Bytes last = parts low last (subst Bytes q.0 these.1) in
    let z : ℤ = cast_signed w128 (from_be_bytes w64 high * 2 ^ 64 + from_be_bytes w64 low) in
    let r : (number_of (from_be_bytes w64 high) (from_be_bytes w64 low) ≡ Some value) × (last ≡ rest) = both_ok (number_of (from_be_bytes w64 high) (from_be_bytes w64 low)) (Some value) last rest v.2 in
    let n : (is_number z ≡ true) × (Num z ≡ value) = cond_some (is_number z) (Num z) value r.0 in
    let split : bytes ≡ number_bytes z ++ last = p.0 ∙ ap (λ m. high ++ m) q.0 ∙ sym (append_assoc high low last) ∙ ap (λ b. b ++ last) (sym (number_encoded high low these.0 those.0 p.1 q.1)) in
    let there : IsValueAt (1 ∷ bytes) (Num z) last = record { split = ap (λ b. 1 ∷ b) split; encoded = n.0; held = tt; following = those.1 } in
    subst (λ v. IsValueAt (1 ∷ bytes) v rest) n.1 (subst (λ l. IsValueAt (1 ∷ bytes) (Num z) l) r.1 there)

text_parts : (bytes : List ℕ) (value : Value) (rest : List ℕ) → Bytes bytes → text_at bytes ≡ Ok (Some value, rest) → IsValueAt (2 ∷ bytes) value rest
unfolding text_at value_bytes
text_parts bytes value rest all e =
    let w = went_on (sized_at BadLength bytes) (λ text. Ok (text_of text.0, text.1)) (Some value, rest) e in
    let text : List ℕ = w.0.0 in
    let last : List ℕ = w.0.1 in
    let p : IsSizedAt bytes text last = sized_parts BadLength bytes text last all w.1 in
    let r : (text_of text ≡ Some value) × (last ≡ rest) = both_ok (text_of text) (Some value) last rest w.2 in
    let n : (is_utf8 text ≡ true) × (Text text ≡ value) = cond_some (is_utf8 text) (Text text) value r.0 in
    let there : IsValueAt (2 ∷ bytes) (Text text) last = record { split = ap (λ b. 2 ∷ b) p.split; encoded = tt; held = IsUtf8-from_is_utf8 text n.0; following = p.following } in
    subst (λ v. IsValueAt (2 ∷ bytes) v rest) n.1 (subst (λ l. IsValueAt (2 ∷ bytes) (Text text) l) r.1 there)

blob_parts : (bytes : List ℕ) (value : Value) (rest : List ℕ) → Bytes bytes → blob_at bytes ≡ Ok (Some value, rest) → IsValueAt (3 ∷ bytes) value rest
unfolding blob_at value_bytes
blob_parts bytes value rest all e =
    let w = went_on (sized_at BadLength bytes) (λ blob. Ok (Some (Blob blob.0), blob.1)) (Some value, rest) e in
    let blob : List ℕ = w.0.0 in
    let last : List ℕ = w.0.1 in
    let p : IsSizedAt bytes blob last = sized_parts BadLength bytes blob last all w.1 in
    let r : (Some (Blob blob) ≡ Some value) × (last ≡ rest) = both_ok (Some (Blob blob)) (Some value) last rest w.2 in
    let n : Blob blob ≡ value = cc in
    let there : IsValueAt (3 ∷ bytes) (Blob blob) last = record { split = ap (λ b. 3 ∷ b) p.split; encoded = tt; held = tt; following = p.following } in
    subst (λ v. IsValueAt (3 ∷ bytes) v rest) n (subst (λ l. IsValueAt (3 ∷ bytes) (Blob blob) l) r.1 there)

null_parts : (bytes : List ℕ) (value : Value) (rest : List ℕ) → Bytes bytes → pair (Some Null) bytes ≡ Ok (Some value, rest) → IsValueAt (0 ∷ bytes) value rest
unfolding value_bytes
null_parts bytes value rest all e =
    let r : (Some Null ≡ Some value) × (bytes ≡ rest) = both_ok (Some Null) (Some value) bytes rest e in
    let n : Null ≡ value = cc in
    let there : IsValueAt (0 ∷ bytes) Null bytes = record { split = refl; encoded = tt; held = tt; following = all } in
    subst (λ v. IsValueAt (0 ∷ bytes) v rest) n (subst (λ l. IsValueAt (0 ∷ bytes) Null l) r.1 there)

by_kind : (t0 t1 t2 t3 : Bool) (kind : ℕ) (bytes : List ℕ) (value : Value) (rest : List ℕ) → nat_eq kind 0 ≡ t0 → nat_eq kind 1 ≡ t1 → nat_eq kind 2 ≡ t2 → nat_eq kind 3 ≡ t3 → Bytes bytes → cond t0 (Ok (Some Null, bytes)) (cond t1 (number_at bytes) (cond t2 (text_at bytes) (cond t3 (blob_at bytes) (Err BadValue)))) ≡ Ok (Some value, rest) → IsValueAt (kind ∷ bytes) value rest
by_kind true t1 t2 t3 kind bytes value rest a b c d all e = subst (λ k. IsValueAt (k ∷ bytes) value rest) (sym (eqb-true kind 0 a)) (null_parts bytes value rest all e)
by_kind false true t2 t3 kind bytes value rest a b c d all e = subst (λ k. IsValueAt (k ∷ bytes) value rest) (sym (eqb-true kind 1 b)) (number_parts bytes value rest all e)
by_kind false false true t3 kind bytes value rest a b c d all e = subst (λ k. IsValueAt (k ∷ bytes) value rest) (sym (eqb-true kind 2 c)) (text_parts bytes value rest all e)
by_kind false false false true kind bytes value rest a b c d all e = subst (λ k. IsValueAt (k ∷ bytes) value rest) (sym (eqb-true kind 3 d)) (blob_parts bytes value rest all e)
by_kind false false false false kind bytes value rest a b c d all e = absurd cc

value_parts : (bytes : List ℕ) (value : Value) (rest : List ℕ) → Bytes bytes → value_at bytes ≡ Ok (Some value, rest) → IsValueAt bytes value rest
unfolding value_at
value_parts [] value rest all e = absurd cc
value_parts (kind ∷ bytes) value rest all e = by_kind (nat_eq kind 0) (nat_eq kind 1) (nat_eq kind 2) (nat_eq kind 3) kind bytes value rest refl refl refl refl all.1 e

-- values that stand first, behind those so far
record AreValuesAt (so_far : Option (List Value)) (n : ℕ) (bytes : List ℕ) (values : List Value) (rest : List ℕ) : Type 0 where
  old : List Value
  new : List Value
  so_far_is : so_far ≡ Some old
  values_is : values ≡ old ++ new
  count : length new ≡ n
  split : bytes ≡ values_bytes new ++ rest
  encoded : AllByRecursion IsEncodableValue new
  held : AllByRecursion IsHeld new
  following : Bytes rest

no_values : (so_far : Option (List Value)) (bytes : List ℕ) (values : List Value) (rest : List ℕ) → Bytes bytes → pair so_far bytes ≡ Ok (Some values, rest) → AreValuesAt so_far 0 bytes values rest
no_values so_far bytes values rest all e =
    let r : (so_far ≡ Some values) × (bytes ≡ rest) = both_ok so_far (Some values) bytes rest e in
    record {
      old = values;
      new = [];
      so_far_is = r.0;
      values_is = sym (append-nil values);
      count = refl;
      split = r.1 ∙ ap (λ none. none ++ rest) (sym values_bytes-none);
      encoded = tt;
      held = tt;
      following = subst Bytes r.1 all;
    }

never : (n : ℕ) (bytes : List ℕ) (values : List Value) (rest : List ℕ) → values_at None n bytes ≡ Ok (Some values, rest) → ⊥
unfolding values_at
never zero bytes values rest e =
    let none : None ≡ Some values = (both_ok None (Some values) bytes rest e).0 in
    cc
never (suc n) bytes values rest e =
    let w = went_on (value_at bytes) (λ value. values_at (with_value None value.0) n value.1) (Some values, rest) e in
    never n w.0.1 values rest w.2

goes_on : (old : List Value) (value : Option Value) (n : ℕ) (bytes between : List ℕ) (values : List Value) (rest : List ℕ) → Bytes bytes → value_at bytes ≡ Ok (value, between) → values_at (with_value (Some old) value) n between ≡ Ok (Some values, rest) → ((v : Value) → Bytes between → values_at (Some (old ++ v ∷ [])) n between ≡ Ok (Some values, rest) → AreValuesAt (Some (old ++ v ∷ [])) n between values rest) → AreValuesAt (Some old) (suc n) bytes values rest
goes_on old None n bytes between values rest all e f next = absurd (never n between values rest f)
goes_on old (Some value) n bytes between values rest all e f next =
    let here : IsValueAt bytes value between = value_parts bytes value between all e in
    let there : AreValuesAt (Some (old ++ value ∷ [])) n between values rest = next value here.following f in
    let so_far : Some (old ++ value ∷ []) ≡ Some there.old = there.so_far_is in
    let old_is : old ++ value ∷ [] ≡ there.old = cc in
    record {
      old = old;
      new = value ∷ there.new;
      so_far_is = refl;
      values_is = there.values_is ∙ ap (λ o. o ++ there.new) (sym old_is) ∙ append_assoc old (value ∷ []) there.new;
      count = ap suc there.count;
      split = here.split ∙ ap (λ b. value_bytes value ++ b) there.split ∙ sym (append_assoc (value_bytes value) (values_bytes there.new) rest) ∙ ap (λ b. b ++ rest) (sym (values_bytes-cons value there.new));
      encoded = (here.encoded, there.encoded);
      held = (here.held, there.held);
      following = there.following;
    }

values_parts : (n : ℕ) (so_far : Option (List Value)) (bytes : List ℕ) (values : List Value) (rest : List ℕ) → Bytes bytes → values_at so_far n bytes ≡ Ok (Some values, rest) → AreValuesAt so_far n bytes values rest
unfolding values_at
values_parts zero so_far bytes values rest all e = no_values so_far bytes values rest all e
values_parts (suc n) None bytes values rest all e = absurd (never (suc n) bytes values rest e)
values_parts (suc n) (Some old) bytes values rest all e =
    let w = went_on (value_at bytes) (λ value. values_at (with_value (Some old) value.0) n value.1) (Some values, rest) e in
    goes_on old w.0.0 n bytes w.0.1 values rest all w.1 w.2 (λ v bytes_between f. values_parts n (Some (old ++ v ∷ [])) w.0.1 values rest bytes_between f)

-- a row that stands first
record IsRowAt (n : ℕ) (bytes : List ℕ) (row : List Value) (rest : List ℕ) : Type 0 where
  count : length row ≡ n
  split : bytes ≡ values_bytes row ++ rest
  encoded : AllByRecursion IsEncodableValue row
  held : AllByRecursion IsHeld row
  following : Bytes rest

row_parts : (n : ℕ) (bytes : List ℕ) (row : List Value) (rest : List ℕ) → Bytes bytes → values_at (Some []) n bytes ≡ Ok (Some row, rest) → IsRowAt n bytes row rest
row_parts n bytes row rest all e =
    let p : AreValuesAt (Some []) n bytes row rest = values_parts n (Some []) bytes row rest all e in
    let so_far : Some [] ≡ Some p.old = p.so_far_is in
    let old_is : [] ≡ p.old = cc in
    let new_is : p.new ≡ row = ap (λ o. o ++ p.new) old_is ∙ sym p.values_is in
    record {
      count = ap length (sym new_is) ∙ p.count;
      split = p.split ∙ ap (λ new. values_bytes new ++ rest) new_is;
      encoded = subst (AllByRecursion IsEncodableValue) new_is p.encoded;
      held = subst (AllByRecursion IsHeld) new_is p.held;
      following = p.following;
    }

-- a name that stands first
record IsNameAt (bytes name rest : List ℕ) : Type 0 where
  split : bytes ≡ length name ∷ (name ++ rest)
  some : 1 ≤ length name
  short : length name ≤ 255
  characters : character_count name ≤ 64
  utf8 : IsUtf8 name
  following : Bytes rest

positive : (n : ℕ) → nat_eq n 0 ≡ false → 1 ≤ n
positive n e = grind (arith, nat_tests)

name_parts : (bytes name rest : List ℕ) → Bytes bytes → name_at bytes ≡ Ok (Some name, rest) → IsNameAt bytes name rest
unfolding name_at
name_parts [] name rest all e = absurd cc
name_parts (size ∷ bytes) name rest all e =
    let c : (nat_eq size 0 ≡ false) × ((taken BadLength size bytes >>= (λ name. Ok (name_of name.0, name.1))) ≡ Ok (Some name, rest)) = unless (nat_eq size 0) (taken BadLength size bytes >>= (λ name. Ok (name_of name.0, name.1))) BadLength (Some name, rest) e in
    let w = went_on (taken BadLength size bytes) (λ name. Ok (name_of name.0, name.1)) (Some name, rest) c.1 in
    let text : List ℕ = w.0.0 in
    let last : List ℕ = w.0.1 in
    let p : (bytes ≡ text ++ last) × (length text ≡ size) = taken_parts BadLength size bytes text last w.1 in
    let r : (name_of text ≡ Some name) × (last ≡ rest) = both_ok (name_of text) (Some name) last rest w.2 in
    let n : ((is_utf8 text && nat_le (character_count text) 64) ≡ true) × (text ≡ name) = cond_some (is_utf8 text && nat_le (character_count text) 64) text name r.0 in
    let t : (is_utf8 text ≡ true) × (nat_le (character_count text) 64 ≡ true) = and_parts (is_utf8 text) (nat_le (character_count text) 64) n.0 in
    let these : Bytes text × Bytes last = parts text last (subst Bytes p.0 all.1) in
    let there : IsNameAt (size ∷ bytes) text last = record {
      split = ap (λ s. s ∷ bytes) (sym p.1) ∙ ap (λ b. length text ∷ b) p.0;
      some = omega (arith, p.1, positive size c.0);
      short = omega (arith, p.1, all.0);
      characters = leb-true (character_count text) 64 t.1;
      utf8 = IsUtf8-from_is_utf8 text t.0;
      following = these.1;
    } in
    subst (λ m. IsNameAt (size ∷ bytes) m rest) n.1 (subst (λ l. IsNameAt (size ∷ bytes) text l) r.1 there)

-- a count that stands first
record IsCountAt (bytes : List ℕ) (count : ℕ) (rest : List ℕ) : Type 0 where
  split : bytes ≡ count ∷ rest
  some : 1 ≤ count
  few : count ≤ 64
  following : Bytes rest

count_parts : (bytes : List ℕ) (count : ℕ) (rest : List ℕ) → Bytes bytes → count_at bytes ≡ Ok (count, rest) → IsCountAt bytes count rest
unfolding count_at
count_parts [] count rest all e = absurd cc
count_parts (byte ∷ bytes) count rest all e =
    let c : ((nat_le 1 byte && nat_le byte 64) ≡ true) × (pair byte bytes ≡ Ok (count, rest)) = chosen (nat_le 1 byte && nat_le byte 64) (Ok (byte, bytes)) BadLength (count, rest) e in
    let r : (byte ≡ count) × (bytes ≡ rest) = both_ok byte count bytes rest c.1 in
    let t : (nat_le 1 byte ≡ true) × (nat_le byte 64 ≡ true) = and_parts (nat_le 1 byte) (nat_le byte 64) c.0 in
    let there : IsCountAt (byte ∷ bytes) byte bytes = record { split = refl; some = leb-true 1 byte t.0; few = leb-true byte 64 t.1; following = all.1 } in
    subst (λ n. IsCountAt (byte ∷ bytes) n rest) r.0 (subst (λ l. IsCountAt (byte ∷ bytes) byte l) r.1 there)

-- a change whose values stand first
record IsChangeAt (tag count : ℕ) (bytes : List ℕ) (change : Change) (rest : List ℕ) : Type 0 where
  tag_is : tag_of change ≡ tag
  count_is : columns_of change ≡ count
  split : bytes ≡ values_bytes (values_of change) ++ rest
  alike : RowsAlike change
  encoded : AllByRecursion IsEncodableValue (values_of change)
  held : AllByRecursion IsHeld (values_of change)

one_change : (writes : Bool) (tag count : ℕ) (bytes : List ℕ) (row : List Value) (change : Change) (rest : List ℕ) → nat_eq tag 1 ≡ writes → 1 ≤ tag → tag ≤ 3 → tag ≢ 2 → IsRowAt count bytes row rest → cond writes (Some (Write row)) (Some (Delete row)) ≡ Some change → IsChangeAt tag count bytes change rest
one_change true tag count bytes row change rest is some few other p e =
    let n : Write row ≡ change = cc in
    subst (λ c. IsChangeAt tag count bytes c rest) n (record { tag_is = sym (eqb-true tag 1 is); count_is = p.count; split = p.split; alike = tt; encoded = p.encoded; held = p.held })
one_change false tag count bytes row change rest is some few other p e =
    let n : Delete row ≡ change = cc in
    let not_one : tag ≢ 1 = apart tag 1 is in
    let three : 3 ≡ tag = third tag some few other not_one in
    subst (λ c. IsChangeAt tag count bytes c rest) n (record { tag_is = three; count_is = p.count; split = p.split; alike = tt; encoded = p.encoded; held = p.held })
  where
    third : (tag : ℕ) → 1 ≤ tag → tag ≤ 3 → tag ≢ 2 → tag ≢ 1 → 3 ≡ tag
    third tag some few other not_one = omega arith

from_row : (tag count : ℕ) (bytes : List ℕ) (row : Option (List Value)) (last : List ℕ) (change : Change) (rest : List ℕ) → 1 ≤ tag → tag ≤ 3 → tag ≢ 2 → Bytes bytes → values_at (Some []) count bytes ≡ Ok (row, last) → one_row tag row ≡ Some change → last ≡ rest → IsChangeAt tag count bytes change rest
from_row tag count bytes None last change rest some few other all e f g = absurd cc
from_row tag count bytes (Some row) last change rest some few other all e f g =
    one_change (nat_eq tag 1) tag count bytes row change rest refl some few other (subst (λ l. IsRowAt count bytes row l) g (row_parts count bytes row last all e)) f

both_of : (P : Value → Type 0) (xs ys : List Value) → AllByRecursion P xs → AllByRecursion P ys → AllByRecursion P (xs ++ ys)
both_of P [] ys p q = q
both_of P (x ∷ xs) ys p q = (p.0, both_of P xs ys p.1 q)

from_rows : (tag count : ℕ) (bytes : List ℕ) (before after : Option (List Value)) (between last : List ℕ) (change : Change) (rest : List ℕ) → tag ≡ 2 → Bytes bytes → values_at (Some []) count bytes ≡ Ok (before, between) → values_at (Some []) count between ≡ Ok (after, last) → two_rows before after ≡ Some change → last ≡ rest → IsChangeAt tag count bytes change rest
from_rows tag count bytes None after between last change rest is all e f g h = absurd cc
from_rows tag count bytes (Some before) None between last change rest is all e f g h = absurd cc
from_rows tag count bytes (Some before) (Some after) between last change rest is all e f g h =
    let p : IsRowAt count bytes before between = row_parts count bytes before between all e in
    let q : IsRowAt count between after last = row_parts count between after last p.following f in
    let n : Update before after ≡ change = cc in
    subst (λ c. IsChangeAt tag count bytes c rest) n (subst (λ l. IsChangeAt tag count bytes (Update before after) l) h (record {
      tag_is = sym is;
      count_is = p.count;
      split = p.split ∙ ap (λ b. values_bytes before ++ b) q.split ∙ sym (append_assoc (values_bytes before) (values_bytes after) last) ∙ ap (λ b. b ++ last) (sym (values_bytes-append before after));
      alike = p.count ∙ sym q.count;
      encoded = both_of IsEncodableValue before after p.encoded q.encoded;
      held = both_of IsHeld before after p.held q.held;
    }))

by_tag : (updates : Bool) (tag count : ℕ) (bytes : List ℕ) (row : Option (List Value)) (last : List ℕ) (change : Change) (rest : List ℕ) → nat_eq tag 2 ≡ updates → 1 ≤ tag → tag ≤ 3 → Bytes bytes → values_at (Some []) count bytes ≡ Ok (row, last) → cond updates (values_at (Some []) count last >>= (λ second. pair (two_rows row second.0) second.1)) (pair (one_row tag row) last) ≡ Ok (Some change, rest) → IsChangeAt tag count bytes change rest
by_tag false tag count bytes row last change rest is some few all e f =
    let r : (one_row tag row ≡ Some change) × (last ≡ rest) = both_ok (one_row tag row) (Some change) last rest f in
    from_row tag count bytes row last change rest some few (apart tag 2 is) all e r.0 r.1
by_tag true tag count bytes row last change rest is some few all e f =
    let w = went_on (values_at (Some []) count last) (λ second. Ok (two_rows row second.0, second.1)) (Some change, rest) f in
    let r : (two_rows row w.0.0 ≡ Some change) × (w.0.1 ≡ rest) = both_ok (two_rows row w.0.0) (Some change) w.0.1 rest w.2 in
    from_rows tag count bytes row w.0.0 last w.0.1 change rest (eqb-true tag 2 is) all e w.1 r.0 r.1

change_parts : (tag count : ℕ) (bytes : List ℕ) (change : Change) (rest : List ℕ) → 1 ≤ tag → tag ≤ 3 → Bytes bytes → change_at tag count bytes ≡ Ok (Some change, rest) → IsChangeAt tag count bytes change rest
unfolding change_at
change_parts tag count bytes change rest some few all e =
    let w = went_on (values_at (Some []) count bytes) (λ first. cond (nat_eq tag 2) (values_at (Some []) count first.1 >>= (λ second. Ok (two_rows first.0 second.0, second.1))) (Ok (one_row tag first.0, first.1))) (Some change, rest) e in
    by_tag (nat_eq tag 2) tag count bytes w.0.0 w.0.1 change rest refl some few all w.1 w.2

-- an event whose body this is
record IsEventOf (tag : ℕ) (body : List ℕ) (event : RowEvent) : Type 0 where
  tag_is : tag_of event.change ≡ tag
  body_is : body_of event ≡ body
  written : length body < 2 ^ 32 → IsWritten event

made : (tag : ℕ) (body name between : List ℕ) (count : ℕ) (last : List ℕ) (change : Change) → IsNameAt body name between → IsCountAt between count last → IsChangeAt tag count last change [] → IsEventOf tag body (record { table = name; change = change })
unfolding body_of
made tag body name between count last change p q r =
    let is : body_of (record { table = name; change = change }) ≡ body =
    ap (λ n. length name ∷ (name ++ n ∷ values_bytes (values_of change))) r.count_is
    ∙ ap (λ b. length name ∷ (name ++ count ∷ b)) (sym (append-nil (values_bytes (values_of change))) ∙ sym r.split)
    ∙ ap (λ b. length name ∷ (name ++ b)) (sym q.split)
    ∙ sym p.split in
    record {
      tag_is = r.tag_is;
      body_is = is;
      written = λ fits. record {
        encoded = record {
          named = p.some;
          name = p.short;
          characters = p.characters;
          some = omega (arith, q.some, r.count_is);
          columns = omega (arith, q.few, r.count_is);
          alike = r.alike;
          numbers = r.encoded;
          size = omega (arith, ap length is);
        };
        name = p.utf8;
        values = r.held;
      };
    }

finished : (tag : ℕ) (body : List ℕ) (name : Option (List ℕ)) (between : List ℕ) (count : ℕ) (last : List ℕ) (change : Option Change) (rest : List ℕ) (event : RowEvent) → 1 ≤ tag → tag ≤ 3 → Bytes body → name_at body ≡ Ok (name, between) → count_at between ≡ Ok (count, last) → change_at tag count last ≡ Ok (change, rest) → event_of name change rest ≡ Ok event → IsEventOf tag body event
finished tag body name between count last change (byte ∷ rest) event some few all e f g h = absurd cc
finished tag body None between count last change [] event some few all e f g h = absurd cc
finished tag body (Some name) between count last None [] event some few all e f g h = absurd cc
finished tag body (Some name) between count last (Some change) [] event some few all e f g h =
    let p : IsNameAt body name between = name_parts body name between all e in
    let q : IsCountAt between count last = count_parts between count last p.following f in
    let r : IsChangeAt tag count last change [] = change_parts tag count last change [] some few q.following g in
    let is : record { table = name; change = change } ≡ event = ap (ok_or event) h in
    subst (IsEventOf tag body) is (made tag body name between count last change p q r)

event_parts : (tag : ℕ) (body : List ℕ) (event : RowEvent) → 1 ≤ tag → tag ≤ 3 → Bytes body → event_at tag body ≡ Ok event → IsEventOf tag body event
unfolding event_at
event_parts tag body event some few all e =
    let u = went_on (name_at body) (λ name. count_at name.1 >>= (λ count. change_at tag count.0 count.1 >>= (λ change. event_of name.0 change.0 change.1))) event e in
    let v = went_on (count_at u.0.1) (λ count. change_at tag count.0 count.1 >>= (λ change. event_of u.0.0 change.0 change.1)) event u.2 in
    let w = went_on (change_at tag v.0.0 v.0.1) (λ change. event_of u.0.0 change.0 change.1) event v.2 in
    finished tag body u.0.0 u.0.1 v.0.0 v.0.1 w.0.0 w.0.1 event some few all u.1 v.1 w.1 w.2

prefix_bytes : (prefix rest : List ℕ) → Bytes (sized prefix ++ rest) → Bytes prefix
unfolding sized
prefix_bytes prefix rest all = (parts (length_bytes (length prefix)) prefix (parts (length_bytes (length prefix) ++ prefix) rest all).0).1

length_with : (tag : ℕ) (body : List ℕ) (n : ℕ) → length body + 5 ≡ n → length (tag ∷ sized body) ≡ n
length_with tag body n e = omega (arith, length-sized body)

pub encoded_so : ReadsWhatIsEncodable
unfolding decoded encoded
encoded_so [] event n all e = absurd cc
encoded_so (tag ∷ bytes) event n all e =
    let u = went_on (sized_at Cut bytes) (λ body. cond (nat_le 1 tag && nat_le tag 3) (event_at tag body.0 >>= (λ event. Ok (event, length body.0 + 5))) (Err BadTag)) (event, n) e in
    let body : List ℕ = u.0.0 in
    let rest : List ℕ = u.0.1 in
    let p : IsSizedAt bytes body rest = sized_parts Cut bytes body rest all.1 u.1 in
    let c : ((nat_le 1 tag && nat_le tag 3) ≡ true) × ((event_at tag body >>= (λ event. Ok (event, length body + 5))) ≡ Ok (event, n)) = chosen (nat_le 1 tag && nat_le tag 3) (event_at tag body >>= (λ event. Ok (event, length body + 5))) BadTag (event, n) u.2 in
    let t : (nat_le 1 tag ≡ true) × (nat_le tag 3 ≡ true) = and_parts (nat_le 1 tag) (nat_le tag 3) c.0 in
    let w = went_on (event_at tag body) (λ event. Ok (event, length body + 5)) (event, n) c.1 in
    let r : (w.0 ≡ event) × (length body + 5 ≡ n) = both_ok w.0 event (length body + 5) n w.2 in
    let of_body : Bytes body = prefix_bytes body rest (subst Bytes p.split all.1) in
    let is : IsEventOf tag body event = subst (IsEventOf tag body) r.0 (event_parts tag body w.0 (leb-true 1 tag t.0) (leb-true tag 3 t.1) of_body w.1) in
    let encoding : tag_of event.change ∷ sized (body_of event) ≡ tag ∷ sized body = ap (λ k. k ∷ sized (body_of event)) is.tag_is ∙ ap (λ b. tag ∷ sized b) is.body_is in
    let long : length (tag ∷ sized body) ≡ n = length_with tag body n r.1 in (
      encoding ∙ sym (take_at (tag ∷ sized body) rest n long) ∙ ap (λ b. take n (tag ∷ b)) (sym p.split),
      is.written p.fits,
    )

all_bytes : (bytes : List ℕ) → ((i : ℕ) → Fits w8 (get_or bytes i 0)) → Bytes bytes
all_bytes [] fits = tt
all_bytes (byte ∷ bytes) fits = (Fits-lt-pow {w = w8} (fits 0), all_bytes bytes (λ i. fits (suc i)))

-- an event that was read from a slice may be encoded
pub read_is_encodable : (bytes : List ℕ) (event : RowEvent) (n : ℕ) → ((i : ℕ) → Fits w8 (get_or bytes i 0)) → decoded bytes ≡ Ok (event, n) → IsEncodable event
read_is_encodable bytes event n fits e = (encoded_so bytes event n (all_bytes bytes fits) e).1.encoded
