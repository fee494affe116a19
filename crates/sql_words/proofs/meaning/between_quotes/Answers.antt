use Rattle.std.proofs.Common.{◌≡◌, true, ◌-◌, length, take, drop, Some, ap, sym, ◌∙◌, arith, refl}
use Rattle.std.proofs.lemmas.Str.{IsCharBoundary-after_ascii, IsCharBoundary-before_ascii}
use Rattle.sql_words.specs.Meanings.{is_text, written_text}
use Rattle.sql_words.proofs.Ends.{text_between}
use Rattle.sql_words.proofs.meaning.between_quotes.Goals as goal

pub range-requires-clause-start_le_end : goal.range-requires-clause-start_le_end
range-requires-clause-start_le_end c =
    let text = c.args.text.now in
    let is : is_text text ≡ true = ap is_text (sym c.as_bytes.ensures.value) ∙ sym c.if-is_text.ensures in
    omega (arith, (text_between text is).long)

pub range-requires-clause-start_boundary : goal.range-requires-clause-start_boundary
range-requires-clause-start_boundary c =
    let text = c.args.text.now in
    let is : is_text text ≡ true = ap is_text (sym c.as_bytes.ensures.value) ∙ sym c.if-is_text.ensures in
    let between = text_between text is in
    λ _. IsCharBoundary-after_ascii text 0 c.utf8.text (omega (arith, between.long)) between.first

pub range-requires-clause-end_boundary : goal.range-requires-clause-end_boundary
range-requires-clause-end_boundary c =
    let text = c.args.text.now in
    let is : is_text text ≡ true = ap is_text (sym c.as_bytes.ensures.value) ∙ sym c.if-is_text.ensures in
    let between = text_between text is in
    IsCharBoundary-before_ascii text (length text - 1) (omega (arith, between.long)) between.last

pub returns-then-is_text : goal.returns-then-is_text
returns-then-is_text c =
    let text = c.args.text.now in
    let is : is_text text ≡ true = ap is_text (sym c.as_bytes.ensures.value) ∙ sym c.if-is_text.ensures in
    let count : length text - 2 ≡ length text - 1 - 1 = omega arith in
    let made : written_text text ≡ Some (take (length text - 2) (drop 1 text)) = rw is refl in
    ap (λ v. Some v) (c.range.ensures.value ∙ ap (λ k. take k (drop 1 text)) (sym count)) ∙ sym made
