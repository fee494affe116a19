-- How many bytes the parts of an event are encoded in.
use Rattle.std.proofs.Common.{◌≡◌, ℕ, ℤ, ◌+◌, ◌/◌, ◌%◌, ◌^◌, ◌<◌, ◌≤◌, List, [], ◌∷◌, ◌++◌, length, take, get_or, refl, ap, sym, ◌∙◌, arith, length-append}
use Rattle.std.specs.Int.{w128, cast_unsigned}
use Rattle.std.proofs.lemmas.Grind.{flat_map-append}
use Rattle.std.proofs.lemmas.List.{append-nil, drop_more, drop_all}
use Rattle.base_values.specs.declared.value.Value.{Value}
use Rattle.base_values.specs.declared.value.Value.TheVariants.{Null, Num, Text, Blob}
use Rattle.base_values.specs.declared.event.RowEvent.{RowEvent}
use Rattle.server_log.specs.Encodings.{length_bytes, half_bytes, number_bytes, sized, value_bytes, values_bytes, columns_of, values_of, body_of, encoded}

pub length-length_bytes : (n : ℕ) → length (length_bytes n) ≡ 4
unfolding length_bytes
length-length_bytes n = refl

pub length-half_bytes : (n : ℕ) → length (half_bytes n) ≡ 8
unfolding half_bytes
length-half_bytes n = refl

pub length-number_bytes : (n : ℤ) → length (number_bytes n) ≡ 16
unfolding number_bytes
length-number_bytes n = omega (arith, length-append (half_bytes (cast_unsigned w128 n / 2 ^ 64)) (half_bytes (cast_unsigned w128 n % 2 ^ 64)), length-half_bytes (cast_unsigned w128 n / 2 ^ 64), length-half_bytes (cast_unsigned w128 n % 2 ^ 64))

pub length-sized : (bytes : List ℕ) → length (sized bytes) ≡ length bytes + 4
unfolding sized
length-sized bytes = omega (arith, length-append (length_bytes (length bytes)) bytes, length-length_bytes (length bytes))

pub length-null : length (value_bytes Null) ≡ 1
unfolding value_bytes
length-null = refl

pub length-number : (n : ℤ) → length (value_bytes (Num n)) ≡ 17
unfolding value_bytes
length-number n = omega (arith, length-number_bytes n)

pub length-text : (text : List ℕ) → length (value_bytes (Text text)) ≡ length text + 5
unfolding value_bytes
length-text text = omega (arith, length-sized text)

pub length-blob : (blob : List ℕ) → length (value_bytes (Blob blob)) ≡ length blob + 5
unfolding value_bytes
length-blob blob = omega (arith, length-sized blob)

pub length-none : length (values_bytes []) ≡ 0
unfolding values_bytes
length-none = refl

pub values_bytes-cons : (value : Value) (values : List Value) → values_bytes (value ∷ values) ≡ value_bytes value ++ values_bytes values
unfolding values_bytes
values_bytes-cons value values = refl

pub values_bytes-none : values_bytes [] ≡ []
unfolding values_bytes
values_bytes-none = refl

pub values_bytes-append : (values more : List Value) → values_bytes (values ++ more) ≡ values_bytes values ++ values_bytes more
unfolding values_bytes
values_bytes-append values more = flat_map-append value_bytes values more

pub length-body : (event : RowEvent) → length (body_of event) ≡ length (values_bytes (values_of event.change)) + length event.table + 2
unfolding body_of
length-body event = omega (arith, length-append event.table (columns_of event.change ∷ values_bytes (values_of event.change)))

pub length-encoded : (event : RowEvent) → length (encoded event) ≡ length (values_bytes (values_of event.change)) + length event.table + 7
unfolding encoded
length-encoded event = omega (arith, length-sized (body_of event), length-body event)

pub length-both : (before after : List Value) → length (values_bytes (before ++ after)) ≡ length (values_bytes before) + length (values_bytes after)
length-both before after = ap length (values_bytes-append before after) ∙ length-append (values_bytes before) (values_bytes after)

pub ruleset of_value = (length-null, length-number, length-text, length-blob, length-number_bytes, length-sized)

pub ruleset of_values = (length-none, values_bytes-none, values_bytes-cons, length-append, append-nil, drop_more, drop_all)

pub ruleset of_changes = (length-both)

pub ruleset of_events = (length-encoded, length-body)
