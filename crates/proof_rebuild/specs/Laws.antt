-- What holds of shards. The functions of the module `laws` prove each.
use Rattle.std.specs.Prelude.{◌≡◌, ◌<◌, ◌==◌, ℕ, Bool, List, filter, Option, Some}
use Rattle.std.specs.List.{AllByRecursion}
use Rattle.base_values.specs.declared.value.Value.{Value}
use Rattle.base_values.specs.declared.row_conversion.map.MapColumn.{MapColumn}
use Rattle.base_values.specs.RowConversion.ConvertedRows.{converted_rows}
use Rattle.base_values.specs.GhoSchema.Rows.{key_of}
use Rattle.base_values.specs.GhoSchema.Tables.{Ascends}
use Rattle.base_values.specs.declared.event.Change.{Change}
use Rattle.server_model.specs.Rows.{change_all}
use Rattle.proof_rebuild.specs.Shards.{KeepsKey, StaysInOrder, earliest, first_unfit, parts_of, shard_of, shard_sees, together}

-- *Shards follow alone*: the rows of a shard, of a table that followed changes, are the shard's rows that followed its part of
-- them, whichever rows are the shard's.
abbrev pub ShardsFollow : Type 0
ShardsFollow =
    (within : List Value → Bool) (places : List ℕ) (changes : List Change) (rows : List (List Value)) → StaysInOrder places changes rows
    → filter within (change_all places changes rows) ≡ change_all places (parts_of within changes) (filter within rows)

-- *Shards make the table*: a table's rows, each of a shard below this number, are its shards put together; and so the table
-- that followed changes is its shards, each followed alone, put together.
abbrev pub ShardsJoin : Type 0
ShardsJoin =
    ((home : List Value → ℕ) (places : List ℕ) (count : ℕ) (rows : List (List Value)) → Ascends places rows → AllByRecursion (λ row. home row < count) rows → together places (λ shard. shard_of home shard rows) count ≡ rows)
    × ((home : List Value → ℕ) (places : List ℕ) (count : ℕ) (changes : List Change) (rows : List (List Value)) → StaysInOrder places changes rows → Ascends places (change_all places changes rows)
    → AllByRecursion (λ row. home row < count) (change_all places changes rows)
    → together places (λ shard. change_all places (parts_of (λ row. home row == shard) changes) (shard_of home shard rows)) count ≡ change_all places changes rows)

-- *Converted shards make the altered table*: where converted rows keep the clustered keys, by which rows are of shards, the
-- converted rows of each shard, put together, are those of all rows.
abbrev pub ShardConversionsJoin : Type 0
ShardConversionsJoin =
    (home : List Value → ℕ) (old new : List ℕ) (map : List MapColumn) (count : ℕ) (rows made : List (List Value)) (shards : ℕ → List (List Value)) → ((key : List Value) → home key < count)
    → AllByRecursion (KeepsKey old new map) rows → Ascends new made → converted_rows map rows ≡ Some made
    → ((shard : ℕ) → shard < count → converted_rows map (shard_of (λ row. home (key_of old row)) shard rows) ≡ Some (shards shard)) → together new shards count ≡ made

-- *Shards find the first unfit row*: of the rows that are seen, the first that has no converted row is the first that the shards
-- find.
abbrev pub ShardsFindUnfit : Type 0
ShardsFindUnfit =
    (home : List Value → ℕ) (map : List MapColumn) (count place : ℕ) (seen : List (Option (List Value))) → ((row : List Value) → home row < count)
    → earliest (λ shard. first_unfit map place (shard_sees (λ row. home row == shard) seen)) count ≡ first_unfit map place seen
