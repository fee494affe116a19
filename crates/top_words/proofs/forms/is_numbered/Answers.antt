use Rattle.std.proofs.Common.{◌∙◌, sym}
use Rattle.top_words.proofs.Commands.{attached_form}
use Rattle.top_words.proofs.forms.is_numbered.Goals as goal

pub returns-then-has_workers : goal.returns-then-has_workers
returns-then-has_workers c =
    c.has_attached_number.ensures
    ∙ attached_form c.args.name.now c.args.word.now (sym c.eq.ensures ∙ c.if-eq.false) (sym c.has_workers.ensures ∙ c.if-has_workers.true)
