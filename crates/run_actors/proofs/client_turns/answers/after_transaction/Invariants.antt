use Rattle.std.proofs.Common.{◌≡◌, drop}
use Rattle.tool_program.specs.JournalWords.Clients.{after_transaction}
use Rattle.run_actors.proofs.client_turns.answers.after_transaction.Given as goal

-- none of the lines so far closes the transaction
abbrev pub invariant-loop-line : goal.invariant-loop-line
invariant-loop-line l = after_transaction (drop l.line l.script) ≡ after_transaction (drop l.place l.script)
