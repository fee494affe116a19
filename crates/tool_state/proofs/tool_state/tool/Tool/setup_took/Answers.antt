use Rattle.std.proofs.Common.{rules, ◌≡◌}
use Rattle.tool_program.specs.ToolSetup.Meanings.{range_reported}
use Rattle.tool_state.proofs.TryTurns.{read_over}
use Rattle.tool_state.proofs.tool_state.tool.Tool.setup_took.Goals as goal

pub returns-in-Over-clause-took : goal.returns-in-Over-clause-took
returns-in-Over-clause-took c =
    let read : c.args.range ≡ range_reported c.args.answer.now = read_over c.args.setup c.in-Over.position c.args.range c.args.answer.now (c.took.ensures.over c.in-Over.position c.in-Over.is) c.requires.reported in
    search rules
