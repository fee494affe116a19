use Rattle.top_report.proofs.ClientLines.Passing.{tool_only, tool_turn}
use Rattle.test_histories.proofs.JournalPasts.Clients.{others_turn}
use Rattle.test_histories.proofs.journal_pasts.walks.turn.Goals as goal

pub returns-in_default : goal.returns-in_default
returns-in_default c = record {
  item = λ before are renaming. c.tool_turn.ensures before renaming;
  clients = λ before are. others_turn c.args.plan.now before c.args.entry.now c.args.clients.now.items (tool_turn c.args.entry.now.actor (tool_only c.args.entry.now.actor c.in_default.not-Client)) are;
}
