use Rattle.std.proofs.Common.{◌≡◌, ◌+◌, take}
use Rattle.std.specs.List.{sum_by}
use Rattle.plan_orders.specs.TurnOrder.Turns.{run_of, times_in}
use Rattle.plan_orders.proofs.turn_order.turns.ask_for_more.Given as goal

-- the turns so far, and those that may still come, are the limit
abbrev pub invariant-loop-word : goal.invariant-loop-word
invariant-loop-word l = l.left + sum_by (λ word. times_in (run_of word.now)) (take l.word-index l.words) ≡ l.limit
