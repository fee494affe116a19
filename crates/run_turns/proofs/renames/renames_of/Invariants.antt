use Rattle.std.proofs.Common.{◌≡◌, ◌++◌, map, drop}
use Rattle.base_script.specs.declared.loss.Loss.{Loss}
use Rattle.tool_program.specs.CutoverCore.Attempts.{exchange}
use Rattle.run_turns.proofs.renames.renames_of.Given as goal

-- the RENAMEs so far, and those that are still made, are all
abbrev pub invariant-loop-loss : goal.invariant-loop-loss
invariant-loop-loss l = l.renames.items ++ map (λ (loss : Loss). exchange l.plan.table) (drop l._loss-index l.plan.faults) ≡ map (λ (loss : Loss). exchange l.plan.table) l.plan.faults
