use Rattle.std.proofs.Common.{◌≡◌, map, drop}
use Rattle.plan_orders.specs.Operators.{commands_from}
use Rattle.plan_orders.proofs.Reading.{with_front}
use Rattle.plan_orders.proofs.operator.commands_from.Given as goal

-- the commands so far, and those that are still read, are those of all the lines
abbrev pub invariant-loop-text : goal.invariant-loop-text
invariant-loop-text l = with_front l.commands (commands_from l.line (map (λ text. text.now) (drop l.text-index l.texts))) ≡ commands_from 1 (map (λ text. text.now) l.texts)
