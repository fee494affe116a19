use Rattle.std.proofs.Common.{string_bytes}
use Rattle.top_words.proofs.Commands.{longer}
use Rattle.top_words.proofs.forms.is_form.Goals as goal

pub returns-in-len4-up : goal.returns-in-len4-up
returns-in-len4-up c = longer string_bytes c.args.words.now c.in-len4-up.len_at_least
