use Rattle.std.proofs.Common.{◌∙◌, slice_get, refl, sym, ap}
use Rattle.table_store.specs.NameMap.NameMaps.{NamedValues, with_value}
use Rattle.std.specs.HashMap.{spare}
use Rattle.table_store.proofs.NameMap.Entries.{written}
use Rattle.table_store.proofs.name_map.map.NameMap.at_mut.Goals as goal

pub returns : goal.returns
returns g c = (
  (refl, λ w. written c.self.inside.entries.entries c.args.place w (spare c.self.inside.entries) ∙ ap (λ (v : NamedValues _). with_value v c.args.place w) c.self.view_is),
  record { writes_back = tt; value = ap (λ (v : NamedValues _). slice_get v.values c.args.place) (sym c.self.view_is) ∙ c.index_mut.ensures.value },
)
