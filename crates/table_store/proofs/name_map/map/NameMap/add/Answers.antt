use Rattle.std.proofs.Common.{◌∙◌, ◌++◌, [], ◌∷◌, map, ap}
use Rattle.std.specs.String.{string_bytes}
use Rattle.std.specs.Map.{keys_of, values_of}
use Rattle.table_store.specs.NameMap.NameMaps.{NamedValues}
use Rattle.table_store.proofs.NameMap.Entries.{put_last, names_push, values_push}
use Rattle.table_store.proofs.name_map.map.NameMap.add.Goals as goal

pub returns-in-Ok-clause-names : goal.returns-in-Ok-clause-names
returns-in-Ok-clause-names g c =
    ap (λ es. map string_bytes (keys_of es)) (c.in-Ok.ensures.entries ∙ put_last c.self.inside.entries c.args.name c.args.value (rw (← c.self.view_is) at c.requires.new))
    ∙ names_push c.self.inside.entries.entries c.args.name c.args.value
    ∙ ap (λ (v : NamedValues _). v.names ++ string_bytes c.args.name ∷ []) c.self.view_is

pub returns-in-Ok-clause-values : goal.returns-in-Ok-clause-values
returns-in-Ok-clause-values g c =
    ap values_of (c.in-Ok.ensures.entries ∙ put_last c.self.inside.entries c.args.name c.args.value (rw (← c.self.view_is) at c.requires.new))
    ∙ values_push c.self.inside.entries.entries c.args.name c.args.value
    ∙ ap (λ (v : NamedValues _). v.values ++ c.args.value ∷ []) c.self.view_is
