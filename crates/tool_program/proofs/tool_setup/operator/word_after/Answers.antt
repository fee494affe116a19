use Rattle.std.proofs.Common.{ap, ◌∙◌, ◌-◌, ◌+◌, arith, drop}
use Rattle.std.specs.List.{slice_get}
use Rattle.base_script.specs.declared.operator.Command.{Command}
use Rattle.base_script.specs.declared.operator.OperatorWord.TheVariants.{Throttle}
use Rattle.tool_program.specs.ToolSetup.Meanings.{words_in}
use Rattle.tool_program.proofs.ToolSetup.Commands.{found, passed}
use Rattle.tool_program.proofs.tool_setup.operator.word_after.Goals as goal

none : Command
none = record { word = Throttle; units = 0 }

pub returns-then-left-units : goal.returns-then-left-units
unfolding none
returns-then-left-units c =
    found c.args.commands.now c.loop-command.command-index c.loop-command.left c.args.taken none c.loop-command-test.true c.loop-command.invariant (omega (arith, c.from-units.ensures, c.if-left-units.true))

pub loop-command-preserved : goal.loop-command-preserved
unfolding none
loop-command-preserved c =
    ap (λ units. slice_get (words_in (drop (c.loop-command.command-index + 1) c.args.commands.now)) (c.loop-command.left - units)) c.from-units.ensures
    ∙ passed c.args.commands.now c.loop-command.command-index c.loop-command.left c.args.taken none c.loop-command-test.true c.loop-command.invariant (omega (arith, c.from-units.ensures, c.if-left-units.false))
