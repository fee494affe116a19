-- The keys of a table that a chunk of the copy asks for. This project's rule, after gh-ost's chunks ("gh-ost: iterating
-- the table").
use Rattle.std.specs.Prelude.{ℕ, ◌-◌, nat_lt, if◌then◌else◌, List, [], ◌∷◌, map, take, length, unwrap_or, Some, None}
use Rattle.std.specs.List.{slice_get}
use Rattle.base_values.specs.declared.value.Value.{Value}
use Rattle.base_values.specs.declared.span.Bound.{Bound}
use Rattle.base_values.specs.declared.span.Bound.TheVariants.{Open, Closed, Free}
use Rattle.base_values.specs.declared.span.Span.{Span}
use Rattle.base_values.specs.GhoSchema.Rows.{key_places, key_of}
use Rattle.table_store.specs.Databases.{TableRows, rows_in}
use Rattle.server_model.specs.declared.answer.Answer.{Answer}
use Rattle.server_model.specs.declared.answer.Answer.TheVariants as answers

-- the clustered keys of rows
abbrev pub keys_of : List ℕ → List (List Value) → List (List Value)
keys_of places rows = map (key_of places) rows

-- the clustered keys of the table's rows in a span, in order
abbrev pub keys_in : Span → TableRows → List (List Value)
keys_in span table = keys_of (key_places table.schema) (rows_in table span)

-- the last of keys, or this one where there is none
abbrev pub last_of : List Value → List (List Value) → List Value
last_of key [] = key
last_of key (next ∷ keys) = last_of next keys

-- the least and the greatest of keys in order
abbrev pub ends_of : List (List Value) → Answer
ends_of [] = answers.Ends None
ends_of (least ∷ keys) = answers.Ends (Some (record { least = least; greatest = last_of least keys }))

-- Where a chunk ends: at the key with this number among those above the low end and not above the top, or at the top
-- where there are fewer.
unfoldable pub chunk_end : Bound → List Value → ℕ → TableRows → List Value
chunk_end low top size table = unwrap_or (slice_get (keys_in (record { low = low; high = Closed top }) table) (size - 1)) top

-- the key of an end
abbrev pub end_key : Bound → List Value
end_key (Open key) = key
end_key (Closed key) = key
end_key Free = []

-- The first keys of those that there are, and where the chunk ends: at the span's end, or at the last key given where
-- the span has more.
abbrev pub first_keys : Span → ℕ → List (List Value) → Answer
first_keys span size keys = answers.Keys (take size keys) (if nat_lt size (length keys) then last_of [] (take size keys) else end_key span.high)

-- the keys of a span, this many at most
unfoldable pub span_keys : Span → ℕ → TableRows → Answer
span_keys span size table = first_keys span size (keys_in span table)
