use Rattle.std.proofs.Common.{◌∷◌, [], map, Bor, List, ℕ}
use Rattle.std.proofs.lemmas.List.{map-append}
use Rattle.std.proofs.lemmas.Result.{err_from_is_err_and}
use Rattle.plan_keys.specs.Documents.{text_in}
use Rattle.plan_keys.proofs.Walks.{goes_on, fails, ended}
use Rattle.plan_keys.proofs.documents.texts_of.Goals as goal

pub returns-in_err-text : goal.returns-in_err-text
returns-in_err-text c =
    let p = err_from_is_err_and c.from_residual.result c.from_residual.ensures.1 in
    rw (p.1, p.2) (fails text_in (map (λ (text : Bor (List ℕ)). text.now) c.loop-item.texts.items) c.args.items.now c.loop-item.item-index c.item-item.result c.in_err-text.field-0.0 _ c.loop-item-test.true c.item-item.is c.in_err-text.ensures c.loop-item.invariant)

pub loop-item-preserved : goal.loop-item-preserved
loop-item-preserved c = rw (c.in_ok-push.ensures.items, map-append (λ (text : Bor (List ℕ)). text.now) c.loop-item.texts.items (c.in_ok-text.text ∷ [])) (goes_on text_in (map (λ (text : Bor (List ℕ)). text.now) c.loop-item.texts.items) c.args.items.now c.loop-item.item-index c.item-item.result _ _ c.loop-item-test.true c.item-item.is c.in_ok-text.ensures c.loop-item.invariant)

pub returns : goal.returns
returns c = ended text_in (map (λ (text : Bor (List ℕ)). text.now) c.loop-item.texts.items) c.args.items.now c.loop-item.item-index _ c.loop-item-test.false c.loop-item.invariant
