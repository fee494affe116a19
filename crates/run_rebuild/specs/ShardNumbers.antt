-- The number of a row's shard. (This project's rule: rows of one key are of one shard, and nothing else is asked of it.)
use Rattle.std.specs.Prelude.{ℕ, ◌+◌, ◌%◌, ◌≤◌, ◌&&◌, nat_le, nat_lt, Bool, List, [], ◌∷◌, length, sum}
use Rattle.std.specs.Int.{w64, w128, to_be_bytes, cast_unsigned}
use Rattle.base_values.specs.declared.value.Value.{Value}
use Rattle.base_values.specs.declared.value.Value.TheVariants.{Null, Num, Text, Blob}

-- from 1 to 16 shards
abbrev pub AreShards : ℕ → Type 0
AreShards workers = (1 ≤ workers) × (workers ≤ 16)

-- The sum of the bytes in which a value is spelled: its kind, and then its number in 16 bytes, or its length and its bytes. (How many
-- bytes a length takes is nothing to the sum.)
abbrev pub value_sum : Value → ℕ
value_sum Null = 0
value_sum (Num number) = 1 + sum (to_be_bytes w128 (cast_unsigned w128 number))
value_sum (Text text) = 2 + sum (to_be_bytes w64 (length text)) + sum text
value_sum (Blob blob) = 3 + sum (to_be_bytes w64 (length blob)) + sum blob

-- the sum of the bytes in which a key's values are spelled
unfoldable pub spelled_sum : List Value → ℕ
spelled_sum [] = 0
spelled_sum (value ∷ values) = value_sum value + spelled_sum values

-- *The shard of a key*: that sum, modulo the number of shards
abbrev pub shard_number : ℕ → List Value → ℕ
shard_number workers key = spelled_sum key % workers

-- the number is one of so many, from a number on
abbrev pub is_of : ℕ → ℕ → ℕ → Bool
is_of from count number = nat_le from number && nat_lt number (from + count)
