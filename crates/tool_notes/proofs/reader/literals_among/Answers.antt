use Rattle.std.proofs.Common.{◌≡◌, List, subst}
use Rattle.std.specs.Prelude.{IfOk}
use Rattle.base_values.specs.declared.value.Value.{Value}
use Rattle.tool_notes.proofs.Literals.{viewed_all}
use Rattle.tool_notes.proofs.reader.literals_among.Goals as goal

-- no word is left
pub returns : goal.returns
returns c =
    subst (λ (values : List Value). IfOk c.from_sequence.result (λ row. row ≡ values))
    (viewed_all c.loop-word.values c.args.words.now c.loop-word.word-index c.loop-word-test.false c.loop-word.invariant) c.from_sequence.ensures
