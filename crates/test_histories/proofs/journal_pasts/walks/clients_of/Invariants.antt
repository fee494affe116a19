use Rattle.std.proofs.Common.{◌≡◌, map, take}
use Rattle.tool_program.specs.JournalWords.Clients.{new_client}
use Rattle.test_histories.proofs.journal_pasts.walks.clients_of.Given as goal

-- the clients so far
abbrev pub invariant-loop-script : goal.invariant-loop-script
invariant-loop-script l = l.clients.items ≡ map new_client (take l.script-index l.scripts)
