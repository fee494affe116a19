use Rattle.std.proofs.Common.{◌∙◌, sym, ap}
use Rattle.std.specs.Map.{keys_of}
use Rattle.table_store.specs.NameMap.NameMaps.{NamedValues, names_before}
use Rattle.std.proofs.lemmas.List.{length-map}
use Rattle.table_store.proofs.NameMap.Entries.{found_at, missing_at}
use Rattle.table_store.proofs.name_map.map.NameMap.place_of.Goals as goal

pub returns-in-Some : goal.returns-in-Some
returns-in-Some g c = found_at c.args.name.now (keys_of c.self.inside.entries.entries) c.in-Some.place c.in-Some.ensures.index ∙ ap (λ (v : NamedValues _). names_before c.args.name.now v.names) c.self.view_is

pub returns-in-None : goal.returns-in-None
returns-in-None g c =
    c.len.ensures.len ∙ sym (length-map c.self.inside.entries.entries (λ e. e.0)) ∙ missing_at c.args.name.now (keys_of c.self.inside.entries.entries) c.in-None.ensures.index
    ∙ ap (λ (v : NamedValues _). names_before c.args.name.now v.names) c.self.view_is
