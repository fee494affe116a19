use Rattle.std.proofs.Common.{◌≡◌, map, drop}
use Rattle.toml.specs.View.{items_view}
use Rattle.plan_keys.specs.Documents.{text_in}
use Rattle.plan_keys.specs.Walks.{each_item}
use Rattle.plan_keys.proofs.Walks.{with_front}
use Rattle.plan_keys.proofs.documents.texts_of.Given as goal

-- the texts so far, and those that are still read, are those of all the items
abbrev pub invariant-loop-item : goal.invariant-loop-item
invariant-loop-item l = with_front (map (λ text. text.now) l.texts.items) (each_item text_in (items_view (drop l.item-index l.items))) ≡ each_item text_in (items_view l.items)
