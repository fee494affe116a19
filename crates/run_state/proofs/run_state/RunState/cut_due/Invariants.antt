use Rattle.std.proofs.Common.{◌≡◌, drop}
use Rattle.tool_program.specs.JournalWords.KeptPlans.{cut_among, cut_due}
use Rattle.run_state.proofs.run_state.RunState.cut_due.Given as goal

-- none of the losses so far can be taken
abbrev pub invariant-loop-loss : goal.invariant-loop-loss
invariant-loop-loss l = cut_among l.self.journal.items (drop l.loss-index l.self.plan.now.faults) ≡ cut_due l.self.plan.now l.self.journal.items
