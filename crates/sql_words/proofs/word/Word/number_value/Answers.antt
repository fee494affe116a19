use Rattle.std.proofs.Common.{◌≡◌, refl, true, Some, ap, sym, ◌∙◌}
use Rattle.std.specs.Result.{result_ok}
use Rattle.sql_words.specs.Meanings.{is_number, signed, number_value}
use Rattle.sql_words.proofs.Numbers.{number_parsed}
use Rattle.sql_words.proofs.word.Word.number_value.Goals as goal

pub returns-then-is_number : goal.returns-then-is_number
returns-then-is_number c =
    let text = c.args.self.now.text.now in
    let number : is_number text ≡ true = ap is_number (sym c.as_bytes.ensures.value) ∙ sym c.if-is_number.ensures in
    let parsed = number_parsed text c.parse.result c.parse.ensures.value.0 number in
    let made : number_value text ≡ Some (signed text) = rw number refl in
    c.ok.ensures.value ∙ ap result_ok parsed ∙ sym made
