use Rattle.std.proofs.Common.{◌≡◌, map, drop}
use Rattle.plan_orders.specs.TurnOrder.Turns.{runs_from}
use Rattle.plan_orders.proofs.TurnOrder.Reading.{with_front}
use Rattle.plan_orders.proofs.turn_order.turns.runs_from.Given as goal

-- the turns so far, and those that are still read, are those of all the words
abbrev pub invariant-loop-word : goal.invariant-loop-word
invariant-loop-word l = with_front l.runs (runs_from l.clients l.number (map (λ word. word.now) (drop l.word-index l.words))) ≡ runs_from l.clients 1 (map (λ word. word.now) l.words)
