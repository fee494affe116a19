use Rattle.std.proofs.Common.{◌≡◌, ◌+◌, drop}
use Rattle.tool_program.specs.JournalWords.Clients.{all_over, clients_over}
use Rattle.run_state.proofs.run_state.RunState.clients_over.Given as goal

-- the clients from here on decide
abbrev pub invariant-loop-index : goal.invariant-loop-index
invariant-loop-index l = all_over l.self.plan.now l.self.journal.items (l.index + 1) (drop l.index l.self.plan.now.clients) ≡ clients_over l.self.plan.now l.self.journal.items
