use Rattle.std.proofs.Common.{◌≡◌, true, ◌-◌, length, take, drop, Some, ap, sym, ◌∙◌, arith}
use Rattle.std.proofs.lemmas.Str.{IsCharBoundary-after_ascii, IsCharBoundary-before_ascii}
use Rattle.sql_words.specs.Meanings.{is_quoted_name, quoted_name}
use Rattle.sql_words.proofs.Ends.{quoted_name_is}
use Rattle.sql_words.proofs.meaning.between_backquotes.Goals as goal

pub range-requires-clause-start_le_end : goal.range-requires-clause-start_le_end
range-requires-clause-start_le_end c =
    let text = c.args.text.now in
    let is : is_quoted_name text ≡ true = ap is_quoted_name (sym c.as_bytes.ensures.value) ∙ sym c.if-is_quoted_name.ensures in
    let name = quoted_name_is text is in
    omega (arith, name.long)

pub range-requires-clause-start_boundary : goal.range-requires-clause-start_boundary
range-requires-clause-start_boundary c =
    let text = c.args.text.now in
    let is : is_quoted_name text ≡ true = ap is_quoted_name (sym c.as_bytes.ensures.value) ∙ sym c.if-is_quoted_name.ensures in
    let name = quoted_name_is text is in
    λ _. IsCharBoundary-after_ascii text 0 c.utf8.text (omega (arith, name.long)) (omega (arith, name.first))

pub range-requires-clause-end_boundary : goal.range-requires-clause-end_boundary
range-requires-clause-end_boundary c =
    let text = c.args.text.now in
    let is : is_quoted_name text ≡ true = ap is_quoted_name (sym c.as_bytes.ensures.value) ∙ sym c.if-is_quoted_name.ensures in
    let name = quoted_name_is text is in
    IsCharBoundary-before_ascii text (length text - 1) (omega (arith, name.long)) (omega (arith, name.last))

pub returns-then-is_quoted_name : goal.returns-then-is_quoted_name
returns-then-is_quoted_name c =
    let text = c.args.text.now in
    let is : is_quoted_name text ≡ true = ap is_quoted_name (sym c.as_bytes.ensures.value) ∙ sym c.if-is_quoted_name.ensures in
    let name = quoted_name_is text is in
    let count : length text - 2 ≡ length text - 1 - 1 = omega arith in
    let made : quoted_name text ≡ Some (take (length text - 2) (drop 1 text)) = rw is name.value in
    ap (λ v. Some v) (c.range.ensures.value ∙ ap (λ k. take k (drop 1 text)) (sym count)) ∙ sym made
