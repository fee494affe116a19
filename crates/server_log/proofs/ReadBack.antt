-- What is written is read.
use Rattle.std.proofs.Common.{◌≡◌, ℕ, ◌+◌, ◌*◌, ◌^◌, ◌/◌, ◌%◌, ◌<◌, ◌≤◌, ℤ, pos, negsuc, true, false, ◌&&◌, nat_eq, nat_le, cond, List, [], ◌∷◌, ◌++◌, length, take, drop, Some, None, Result, Ok, Err, refl, ap, sym, ◌∙◌, arith, length-append, append_assoc}
use Rattle.std.specs.Int.{w32, w64, w128, from_be_bytes, cast_signed, cast_unsigned}
use Rattle.std.specs.Int.RustNames.{FitsSigned}
use Rattle.std.specs.List.{AllByRecursion}
use Rattle.std.specs.Str.{IsUtf8, is_utf8}
use Rattle.std.proofs.lemmas.Bool.{and_parts, and_from, le-leb}
use Rattle.std.proofs.lemmas.Bool.Decides.{nat_tests}
use Rattle.std.proofs.lemmas.Int.{ints, to_z-of_z}
use Rattle.std.proofs.lemmas.List.{append-nil, take_at, drop_at}
use Rattle.std.proofs.lemmas.Nat.{from_be_bytes-to_be_bytes_4, from_be_bytes-to_be_bytes_8}
use Rattle.std.proofs.lemmas.Str.{is_utf8-from_IsUtf8}
use Rattle.base_values.specs.declared.value.Value.{Value}
use Rattle.base_values.specs.declared.value.Value.TheVariants.{Null, Num, Text, Blob}
use Rattle.base_values.specs.StoredValues.{character_count}
use Rattle.base_values.specs.declared.event.RowEvent.{RowEvent}
use Rattle.base_values.specs.declared.event.Change.{Change}
use Rattle.base_values.specs.declared.event.Change.TheVariants.{Write, Update, Delete}
use Rattle.server_log.specs.declared.fault.DecodeFault.{DecodeFault}
use Rattle.server_log.specs.declared.fault.DecodeFault.TheVariants.{Cut, BadTag, BadLength}
use Rattle.server_log.specs.Encodings.{length_bytes, half_bytes, number_bytes, sized, value_bytes, values_bytes, tag_of, columns_of, values_of, body_of, encoded, is_number, IsEncodableValue, RowsAlike}
use Rattle.server_log.specs.Decodings.{◌>>=◌, taken, sized_at, number_of, number_at, text_of, text_at, blob_at, value_at, with_value, values_at, name_of, name_at, count_at, one_row, two_rows, change_at, event_of, event_at, decoded}
use Rattle.server_log.specs.Laws.{IsHeld, IsWritten, ReadsWhatIsWritten, NoEncodingIsAPrefix}
use Rattle.server_log.proofs.Sizes.{length-length_bytes, length-half_bytes, length-sized, values_bytes-none, values_bytes-cons, values_bytes-append, length-encoded, length-body}

-- the prefix is taken where its length says so
prefix_taken : (fault : DecodeFault) (prefix following : List ℕ) (n : ℕ) → length prefix ≡ n → taken fault n (prefix ++ following) ≡ Ok (prefix, following)
unfolding taken
prefix_taken fault prefix following n is =
    let long : n ≤ length (prefix ++ following) = omega (arith, length-append prefix following) in
    ap (λ b. cond b (Ok (take n (prefix ++ following), drop n (prefix ++ following))) (Err fault)) (le-leb n (length (prefix ++ following)) long)
    ∙ ap (λ t. Ok (t, drop n (prefix ++ following))) (take_at prefix following n is)
    ∙ ap (λ d. Ok (prefix, d)) (drop_at prefix following n is)

length_back : (n : ℕ) → n < 2 ^ 32 → from_be_bytes w32 (length_bytes n) ≡ n
unfolding length_bytes
length_back n fits = from_be_bytes-to_be_bytes_4 n fits

half_back : (n : ℕ) → n < 2 ^ 64 → from_be_bytes w64 (half_bytes n) ≡ n
unfolding half_bytes
half_back n fits = from_be_bytes-to_be_bytes_8 n fits

sized_back : (fault : DecodeFault) (bytes following : List ℕ) → length bytes < 2 ^ 32 → sized_at fault (sized bytes ++ following) ≡ Ok (bytes, following)
unfolding sized_at sized
sized_back fault bytes following fits =
    ap (λ all. taken fault 4 all >>= (λ size. taken fault (from_be_bytes w32 size.0) size.1)) (append_assoc (length_bytes (length bytes)) bytes following)
    ∙ ap (λ read. read >>= (λ size. taken fault (from_be_bytes w32 size.0) size.1)) (prefix_taken fault (length_bytes (length bytes)) (bytes ++ following) 4 (length-length_bytes (length bytes)))
    ∙ ap (λ n. taken fault n (bytes ++ following)) (length_back (length bytes) fits)
    ∙ prefix_taken fault bytes following (length bytes) refl

number_fits : (n : ℤ) → is_number n ≡ true → FitsSigned w128 n
number_fits (pos m) e = grind (arith, ints, nat_tests, and_parts)
number_fits (negsuc m) e = grind (arith, ints, nat_tests, and_parts)

whole : (u : ℕ) → u / 2 ^ 64 * 2 ^ 64 + u % 2 ^ 64 ≡ u
whole u = omega arith

high_fits : (u : ℕ) → u < 2 ^ 128 → u / 2 ^ 64 < 2 ^ 64
high_fits u fits = omega arith

low_fits : (u : ℕ) → u % 2 ^ 64 < 2 ^ 64
low_fits u = omega arith

number_back : (n : ℤ) → is_number n ≡ true → number_of (cast_unsigned w128 n / 2 ^ 64) (cast_unsigned w128 n % 2 ^ 64) ≡ Some (Num n)
unfolding number_of
number_back n e =
    ap (λ u. cond (is_number (cast_signed w128 u)) (Some (Num (cast_signed w128 u))) None) (whole (cast_unsigned w128 n))
    ∙ ap (λ z. cond (is_number z) (Some (Num z)) None) (to_z-of_z w128 n (number_fits n e))
    ∙ ap (λ b. cond b (Some (Num n)) None) e

below : (n : ℤ) → FitsSigned w128 n → cast_unsigned w128 n < 2 ^ 128
below n fits = omega (arith, ints)

number_read : (n : ℤ) (following : List ℕ) → is_number n ≡ true → number_at (number_bytes n ++ following) ≡ Ok (Some (Num n), following)
unfolding number_at number_bytes
number_read n following e =
    let u : ℕ = cast_unsigned w128 n in
    let fits : u < 2 ^ 128 = below n (number_fits n e) in
    ap (λ all. taken BadLength 8 all >>= (λ high. taken BadLength 8 high.1 >>= (λ low. Ok (number_of (from_be_bytes w64 high.0) (from_be_bytes w64 low.0), low.1)))) (append_assoc (half_bytes (u / 2 ^ 64)) (half_bytes (u % 2 ^ 64)) following)
    ∙ ap (λ read. read >>= (λ high. taken BadLength 8 high.1 >>= (λ low. Ok (number_of (from_be_bytes w64 high.0) (from_be_bytes w64 low.0), low.1)))) (prefix_taken BadLength (half_bytes (u / 2 ^ 64)) (half_bytes (u % 2 ^ 64) ++ following) 8 (length-half_bytes (u / 2 ^ 64)))
    ∙ ap (λ read. read >>= (λ low. Ok (number_of (from_be_bytes w64 (half_bytes (u / 2 ^ 64))) (from_be_bytes w64 low.0), low.1))) (prefix_taken BadLength (half_bytes (u % 2 ^ 64)) following 8 (length-half_bytes (u % 2 ^ 64)))
    ∙ ap (λ high. Ok (number_of high (from_be_bytes w64 (half_bytes (u % 2 ^ 64))), following)) (half_back (u / 2 ^ 64) (high_fits u fits))
    ∙ ap (λ low. Ok (number_of (u / 2 ^ 64) low, following)) (half_back (u % 2 ^ 64) (low_fits u))
    ∙ ap (λ value. Ok (value, following)) (number_back n e)

text_read : (text following : List ℕ) → length text < 2 ^ 32 → IsUtf8 text → text_at (sized text ++ following) ≡ Ok (Some (Text text), following)
unfolding text_at
text_read text following fits utf8 =
    ap (λ read. read >>= (λ text. Ok (text_of text.0, text.1))) (sized_back BadLength text following fits)
    ∙ ap (λ b. Ok (cond b (Some (Text text)) None, following)) (is_utf8-from_IsUtf8 text utf8)

blob_read : (blob following : List ℕ) → length blob < 2 ^ 32 → blob_at (sized blob ++ following) ≡ Ok (Some (Blob blob), following)
unfolding blob_at
blob_read blob following fits = ap (λ read. read >>= (λ blob. Ok (Some (Blob blob.0), blob.1))) (sized_back BadLength blob following fits)

value_read : (value : Value) (following : List ℕ) → IsEncodableValue value → IsHeld value → length (value_bytes value) < 2 ^ 32 → value_at (value_bytes value ++ following) ≡ Ok (Some value, following)
unfolding value_at value_bytes
value_read Null following encoded held fits = refl
value_read (Num n) following encoded held fits = number_read n following encoded
value_read (Text text) following encoded held fits = text_read text following (omega (arith, length-sized text)) held
value_read (Blob blob) following encoded held fits = blob_read blob following (omega (arith, length-sized blob))

values_read : (so_far values : List Value) (following : List ℕ) → AllByRecursion IsEncodableValue values → AllByRecursion IsHeld values → length (values_bytes values) < 2 ^ 32 → values_at (Some so_far) (length values) (values_bytes values ++ following) ≡ Ok (Some (so_far ++ values), following)
unfolding values_at
values_read so_far [] following encoded held fits =
    ap (λ none. Ok (Some so_far, none ++ following)) values_bytes-none
    ∙ ap (λ all. Ok (Some all, following)) (sym (append-nil so_far))
values_read so_far (value ∷ values) following encoded held fits =
    let split : length (value_bytes value) + length (values_bytes values) ≡ length (values_bytes (value ∷ values)) = sym (ap length (values_bytes-cons value values) ∙ length-append (value_bytes value) (values_bytes values)) in
    ap (λ all. value_at (all ++ following) >>= (λ v. values_at (with_value (Some so_far) v.0) (length values) v.1)) (values_bytes-cons value values)
    ∙ ap (λ all. value_at all >>= (λ v. values_at (with_value (Some so_far) v.0) (length values) v.1)) (append_assoc (value_bytes value) (values_bytes values) following)
    ∙ ap (λ read. read >>= (λ v. values_at (with_value (Some so_far) v.0) (length values) v.1)) (value_read value (values_bytes values ++ following) encoded.0 held.0 (omega arith))
    ∙ values_read (so_far ++ value ∷ []) values following encoded.1 held.1 (omega arith)
    ∙ ap (λ all. Ok (Some all, following)) (append_assoc so_far (value ∷ []) values)

name_read : (name following : List ℕ) → 1 ≤ length name → character_count name ≤ 64 → IsUtf8 name → name_at (length name ∷ (name ++ following)) ≡ Ok (Some name, following)
unfolding name_at
name_read name following some short utf8 =
    ap (λ b. cond b (Err BadLength) (taken BadLength (length name) (name ++ following) >>= (λ name. Ok (name_of name.0, name.1)))) (not_empty (length name) some)
    ∙ ap (λ read. read >>= (λ name. Ok (name_of name.0, name.1))) (prefix_taken BadLength name following (length name) refl)
    ∙ ap (λ b. Ok (cond b (Some name) None, following)) (and_from (is_utf8 name) (nat_le (character_count name) 64) (is_utf8-from_IsUtf8 name utf8) (le-leb (character_count name) 64 short))
  where
    not_empty : (n : ℕ) → 1 ≤ n → nat_eq n 0 ≡ false
    not_empty n some = grind (arith, nat_tests)

count_read : (count : ℕ) (following : List ℕ) → 1 ≤ count → count ≤ 64 → count_at (count ∷ following) ≡ Ok (count, following)
unfolding count_at
count_read count following some few = ap (λ b. cond b (Ok (count, following)) (Err BadLength)) (and_from (nat_le 1 count) (nat_le count 64) (le-leb 1 count some) (le-leb count 64 few))

row_read : (row : List Value) → AllByRecursion IsEncodableValue row → AllByRecursion IsHeld row → length (values_bytes row) < 2 ^ 32 → values_at (Some []) (length row) (values_bytes row) ≡ Ok (Some row, [])
row_read row encoded held fits = ap (λ all. values_at (Some []) (length row) all) (sym (append-nil (values_bytes row))) ∙ values_read [] row [] encoded held fits

prefixes : (P : Value → Type 0) (xs ys : List Value) → AllByRecursion P (xs ++ ys) → AllByRecursion P xs × AllByRecursion P ys
prefixes P [] ys all = (tt, all)
prefixes P (x ∷ xs) ys all = ((all.0, (prefixes P xs ys all.1).0), (prefixes P xs ys all.1).1)

change_read : (change : Change) → RowsAlike change → AllByRecursion IsEncodableValue (values_of change) → AllByRecursion IsHeld (values_of change) → length (values_bytes (values_of change)) < 2 ^ 32 → change_at (tag_of change) (columns_of change) (values_bytes (values_of change)) ≡ Ok (Some change, [])
unfolding change_at
change_read (Write row) alike encoded held fits = ap (λ read. read >>= (λ first. Ok (one_row 1 first.0, first.1))) (row_read row encoded held fits)
change_read (Delete row) alike encoded held fits = ap (λ read. read >>= (λ first. Ok (one_row 3 first.0, first.1))) (row_read row encoded held fits)
change_read (Update before after) alike encoded held fits =
    let s : AllByRecursion IsEncodableValue before × AllByRecursion IsEncodableValue after = prefixes IsEncodableValue before after encoded in
    let h : AllByRecursion IsHeld before × AllByRecursion IsHeld after = prefixes IsHeld before after held in
    let split : length (values_bytes before) + length (values_bytes after) ≡ length (values_bytes (before ++ after)) = sym (ap length (values_bytes-append before after) ∙ length-append (values_bytes before) (values_bytes after)) in
    ap (λ all. values_at (Some []) (length before) all >>= (λ first. values_at (Some []) (length before) first.1 >>= (λ second. Ok (two_rows first.0 second.0, second.1)))) (values_bytes-append before after)
    ∙ ap (λ read. read >>= (λ first. values_at (Some []) (length before) first.1 >>= (λ second. Ok (two_rows first.0 second.0, second.1)))) (values_read [] before (values_bytes after) s.0 h.0 (omega arith))
    ∙ ap (λ n. values_at (Some []) n (values_bytes after) >>= (λ second. Ok (two_rows (Some before) second.0, second.1))) alike
    ∙ ap (λ read. read >>= (λ second. Ok (two_rows (Some before) second.0, second.1))) (row_read after s.1 h.1 (omega arith))

event_read : (event : RowEvent) → IsWritten event → event_at (tag_of event.change) (body_of event) ≡ Ok event
unfolding event_at body_of
event_read event is =
    ap (λ read. read >>= (λ name. count_at name.1 >>= (λ count. change_at (tag_of event.change) count.0 count.1 >>= (λ change. event_of name.0 change.0 change.1)))) (name_read event.table (columns_of event.change ∷ values_bytes (values_of event.change)) is.encoded.named is.encoded.characters is.name)
    ∙ ap (λ read. read >>= (λ count. change_at (tag_of event.change) count.0 count.1 >>= (λ change. event_of (Some event.table) change.0 change.1))) (count_read (columns_of event.change) (values_bytes (values_of event.change)) is.encoded.some is.encoded.columns)
    ∙ ap (λ read. read >>= (λ change. event_of (Some event.table) change.0 change.1)) (change_read event.change is.encoded.alike is.encoded.numbers is.values (omega (arith, length-body event, is.encoded.size)))

is_tag : (change : Change) → (nat_le 1 (tag_of change) && nat_le (tag_of change) 3) ≡ true
is_tag (Write row) = refl
is_tag (Update before after) = refl
is_tag (Delete row) = refl

length_of : (event : RowEvent) → length (body_of event) + 5 ≡ length (encoded event)
length_of event = omega (arith, length-body event, length-encoded event)

pub reads_back : ReadsWhatIsWritten
unfolding decoded encoded
reads_back event following is =
    ap (λ read. read >>= (λ body. cond (nat_le 1 (tag_of event.change) && nat_le (tag_of event.change) 3) (event_at (tag_of event.change) body.0 >>= (λ e. Ok (e, length body.0 + 5))) (Err BadTag))) (sized_back Cut (body_of event) following is.encoded.size)
    ∙ ap (λ b. cond b (event_at (tag_of event.change) (body_of event) >>= (λ e. Ok (e, length (body_of event) + 5))) (Err BadTag)) (is_tag event.change)
    ∙ ap (λ read. read >>= (λ e. Ok (e, length (body_of event) + 5))) (event_read event is)
    ∙ ap (λ n. Ok (event, n)) (length_of event)

abbrev pub event_or : RowEvent → Result (RowEvent × ℕ) DecodeFault → RowEvent
event_or default (Ok read) = read.0
event_or default (Err fault) = default

pub no_prefix : NoEncodingIsAPrefix
no_prefix event other following after_other is is_other same =
    ap (event_or event) (sym (reads_back event following is) ∙ ap decoded same ∙ reads_back other after_other is_other)
