use Rattle.std.proofs.Common.{◌≡◌, ◌+◌, take}
use Rattle.std.specs.List.{count_by}
use Rattle.plan_orders.specs.Operators.{has_words}
use Rattle.plan_orders.specs.Words.{spaced_words}
use Rattle.plan_orders.proofs.operator.have_more_commands.Given as goal

-- the lines with words so far, and those that may still come, are the limit
abbrev pub invariant-loop-text : goal.invariant-loop-text
invariant-loop-text l = l.left + count_by (λ text. has_words (spaced_words text.now)) (take l.text-index l.texts) ≡ l.limit
