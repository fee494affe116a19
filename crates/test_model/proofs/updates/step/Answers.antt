use Rattle.std.proofs.Common.{◌≡◌, List, [], ◌∷◌, ◌++◌, Err, true, false, sym, ap, ◌∙◌}
use Rattle.base_values.specs.GhoSchema.Rows.{key_places}
use Rattle.table_store.proofs.Orders.{Row}
use Rattle.base_values.specs.declared.event.Change.{Change}
use Rattle.base_values.specs.declared.event.Change.TheVariants as changes
use Rattle.server_model.specs.declared.answer.Answer.{Answer}
use Rattle.server_model.specs.Rows.{same_row, change_rows}
use Rattle.server_model.specs.StatementResults.{with_sets, clashes_besides, updates}
use Rattle.test_model.specs.RowUpdates.{changes_after}
use Rattle.test_model.proofs.UpdateFacts.{stays, clashing, changed}
use Rattle.test_model.proofs.updates.step.Goals as goal

pub returns-then-is_eq : goal.returns-then-is_eq
returns-then-is_eq c =
    let made : c.in_ok-new.new ≡ with_sets c.args.sets.now c.args.old.now = cc (c.in_ok-new.ensures, c.as_slice.ensures) in
    let same : same_row c.args.old.now c.in_ok-new.new ≡ true = cc (c.cmp.ensures, c.is_eq.ensures, c.if-is_eq.true) in
    λ met. stays c.args.schema.now c.args.sets.now c.args.going.now.changes c.args.going.now.rows c.args.old.now met (ap (same_row c.args.old.now) (sym made) ∙ same)

pub returns-then-branch : goal.returns-then-branch
returns-then-branch c =
    let made : c.in_ok-new.new ≡ with_sets c.args.sets.now c.args.old.now = cc (c.in_ok-new.ensures, c.as_slice.ensures) in
    let other : same_row c.args.old.now c.in_ok-new.new ≡ false = cc (c.cmp.ensures, c.is_eq.ensures, c.if-is_eq.false) in
    let clash : clashes_besides c.args.schema.now c.in_ok-new.new c.args.old.now c.args.going.now.rows ≡ true = cc (c.in_ok-clashes_besides.ensures, c.as_slice-2.ensures, c.if-branch.true) in
    λ met. ap (λ (a : Answer). Err a) c.refuses.ensures
    ∙ clashing c.args.schema.now c.args.sets.now c.args.going.now.changes c.args.going.now.rows c.args.old.now met (ap (same_row c.args.old.now) (sym made) ∙ other)
    (ap (λ (r : Row). clashes_besides c.args.schema.now r c.args.old.now c.args.going.now.rows) (sym made) ∙ clash)

pub returns : goal.returns
returns c =
    let made : c.in_ok-new.new ≡ with_sets c.args.sets.now c.args.old.now = cc (c.in_ok-new.ensures, c.as_slice.ensures) in
    let other : same_row c.args.old.now c.in_ok-new.new ≡ false = cc (c.cmp.ensures, c.is_eq.ensures, c.if-is_eq.false) in
    let none : clashes_besides c.args.schema.now c.in_ok-new.new c.args.old.now c.args.going.now.rows ≡ false = cc (c.in_ok-clashes_besides.ensures, c.as_slice-2.ensures, c.if-branch.false) in
    let rows : c.change_row.new.going.rows ≡ change_rows (key_places c.args.schema.now) (changes.Update c.args.old.now (with_sets c.args.sets.now c.args.old.now)) c.args.going.now.rows = cc (c.in_ok-change_row.ensures.rows, made) in
    let all : c.change_row.new.going.changes ≡ c.args.going.now.changes ++ changes.Update c.args.old.now (with_sets c.args.sets.now c.args.old.now) ∷ [] = cc (c.in_ok-change_row.ensures.changes, made) in
    λ met. ap (λ (front : List Change). changes_after front (updates c.args.schema.now c.args.sets.now met c.change_row.new.going.rows)) all
    ∙ ap (λ (left : List Row). changes_after (c.args.going.now.changes ++ changes.Update c.args.old.now (with_sets c.args.sets.now c.args.old.now) ∷ []) (updates c.args.schema.now c.args.sets.now met left)) rows
    ∙ changed c.args.schema.now c.args.sets.now c.args.going.now.changes c.args.going.now.rows c.args.old.now met (ap (same_row c.args.old.now) (sym made) ∙ other)
    (ap (λ (r : Row). clashes_besides c.args.schema.now r c.args.old.now c.args.going.now.rows) (sym made) ∙ none)
