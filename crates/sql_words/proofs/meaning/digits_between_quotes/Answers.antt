use Rattle.std.proofs.Common.{◌≡◌, true, ◌-◌, length, take, drop, Some, ap, sym, ◌∙◌, arith, refl}
use Rattle.std.proofs.lemmas.Str.{IsCharBoundary-after_ascii, IsCharBoundary-before_ascii}
use Rattle.sql_words.specs.Meanings.{is_bytes, written_bytes}
use Rattle.sql_words.proofs.Ends.{bytes_between}
use Rattle.sql_words.proofs.meaning.digits_between_quotes.Goals as goal

pub range-requires-clause-start_le_end : goal.range-requires-clause-start_le_end
range-requires-clause-start_le_end c =
    let text = c.args.text.now in
    let is : is_bytes text ≡ true = ap is_bytes (sym c.as_bytes.ensures.value) ∙ sym c.if-is_bytes.ensures in
    omega (arith, (bytes_between text is).long)

pub range-requires-clause-start_boundary : goal.range-requires-clause-start_boundary
range-requires-clause-start_boundary c =
    let text = c.args.text.now in
    let is : is_bytes text ≡ true = ap is_bytes (sym c.as_bytes.ensures.value) ∙ sym c.if-is_bytes.ensures in
    let between = bytes_between text is in
    λ _. IsCharBoundary-after_ascii text 1 c.utf8.text (omega (arith, between.long)) between.first

pub range-requires-clause-end_boundary : goal.range-requires-clause-end_boundary
range-requires-clause-end_boundary c =
    let text = c.args.text.now in
    let is : is_bytes text ≡ true = ap is_bytes (sym c.as_bytes.ensures.value) ∙ sym c.if-is_bytes.ensures in
    let between = bytes_between text is in
    IsCharBoundary-before_ascii text (length text - 1) (omega (arith, between.long)) between.last

pub returns-then-is_bytes : goal.returns-then-is_bytes
returns-then-is_bytes c =
    let text = c.args.text.now in
    let is : is_bytes text ≡ true = ap is_bytes (sym c.as_bytes.ensures.value) ∙ sym c.if-is_bytes.ensures in
    let count : length text - 3 ≡ length text - 1 - 2 = omega arith in
    let made : written_bytes text ≡ Some (take (length text - 3) (drop 2 text)) = rw is refl in
    ap (λ v. Some v) (c.range.ensures.value ∙ ap (λ k. take k (drop 2 text)) (sym count)) ∙ sym made
