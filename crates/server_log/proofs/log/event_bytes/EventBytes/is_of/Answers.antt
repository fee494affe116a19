use Rattle.std.proofs.Common.{List, ℕ, ap, ◌∙◌}
use Rattle.std.specs.List.{list_any}
use Rattle.std.specs.Str.{bytes_eq}
use Rattle.server_log.proofs.KeptEvents.{name_room, name_taken}
use Rattle.server_log.proofs.log.event_bytes.EventBytes.is_of.Goals as goal

pub name_in-requires : goal.name_in-requires
name_in-requires c = name_room c.args.self.now.events c.args.place c.from_place.result.now c.requires c.from_place.ensures

pub returns : goal.returns
returns c =
    λ event is. c.is_among.ensures ∙ ap (λ (name : List ℕ). list_any (λ table. bytes_eq name table) c.args.tables.now) (c.name_in.ensures ∙ name_taken c.args.self.now.events c.args.place c.from_place.result.now event c.from_place.ensures is)
