use Rattle.std.proofs.Common.{sym}
use Rattle.top_report.proofs.ClientLines.Passing.{others_pass, tool_only, tool_turn}
use Rattle.top_report.proofs.client_lines.pasts.pass.Goals as goal

pub returns-in_default : goal.returns-in_default
returns-in_default c = sym (others_pass c.args.walks.now.items 1 c.args.entry.now (tool_turn c.args.entry.now.actor (tool_only c.args.entry.now.actor c.in_default.not-Client)))
