-- Going through the items of an array and through the keys of a table.
use Rattle.std.specs.Prelude.{ℕ, Bool, true, ◌&&◌, List, [], ◌∷◌, Result, Ok}
use Rattle.toml.specs.Data.{Data, Items, no_items, item, Members, no_members, member}
use Rattle.base_values.specs.SchemaRules.Results.{◌>>=◌}

-- each key of a table passes the test
abbrev pub all_keys : (List ℕ → Bool) → Members → Bool
all_keys test no_members = true
all_keys test (member key value members) = test key && all_keys test members

-- each item of an array passes the test
abbrev pub all_items : (Data → Bool) → Items → Bool
all_items test no_items = true
all_items test (item value items) = test value && all_items test items

-- what is read of each item; the first that is refused refuses all
unfoldable pub each_item : {A C : Type 0} → (Data → Result A C) → Items → Result (List A) C
each_item read no_items = Ok []
each_item read (item value items) = do
  first ← read value
  others ← each_item read items
  Ok (first ∷ others)
