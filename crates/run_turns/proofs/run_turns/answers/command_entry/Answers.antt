use Rattle.std.proofs.Common.{None, ap, ◌∙◌}
use Rattle.server_model.specs.declared.answer.Answer.TheVariants.{Ok}
use Rattle.server_model.specs.declared.entry.Asked.{Asked}
use Rattle.run_turns.proofs.RunTurns.Served.{command_is}
use Rattle.run_turns.proofs.run_turns.answers.command_entry.Goals as goal

pub returns : goal.returns
returns c = λ server. ap (λ (asked : Asked). record { actor = c.args.turn.actor; session = 0; asked = asked; side = None; answer = Ok 0; missed = None; draw = None }) c.into_asked.ensures ∙ command_is server c.args.turn c.requires.asked c.requires.side
