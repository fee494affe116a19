-- What a map becomes, once a value that it lent is given back.
use Rattle.std.specs.Prelude.{ℕ}
use Rattle.std.specs.Borrow.{Fml, Lends, MutBor, RattleType}
use Rattle.table_store.specs.NameMap.NameMaps.{NamedValues, with_value}
use Rattle.table_store.specs.contracts.name_map.map.NameMap.{the_row}

-- the value at the place is the last one that was written
abbrev pub lends_value : (T : RattleType) → MutBor (NamedValues T.Denot) → ℕ → MutBor T.Denot → Fml
lends_value T named place lent = Lends (the_row T) T named lent (with_value named.now place)
