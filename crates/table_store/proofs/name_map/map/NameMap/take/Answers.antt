use Rattle.std.proofs.Common.{◌∙◌, map, remove, ap}
use Rattle.std.specs.String.{string_bytes}
use Rattle.std.specs.Map.{keys_of, values_of}
use Rattle.table_store.specs.NameMap.NameMaps.{NamedValues}
use Rattle.table_store.proofs.NameMap.Entries.{names_remove, values_remove}
use Rattle.table_store.proofs.name_map.map.NameMap.take.Goals as goal

pub returns-clause-names : goal.returns-clause-names
returns-clause-names g c =
    ap (λ es. map string_bytes (keys_of es)) c.shift_remove_index.ensures.entries ∙ names_remove c.self.inside.entries.entries c.args.place ∙ ap (λ (v : NamedValues _). remove v.names c.args.place) c.self.view_is

pub returns-clause-values : goal.returns-clause-values
returns-clause-values g c =
    ap values_of c.shift_remove_index.ensures.entries ∙ values_remove c.self.inside.entries.entries c.args.place ∙ ap (λ (v : NamedValues _). remove v.values c.args.place) c.self.view_is
