use Rattle.std.proofs.Common.{◌≡◌, map, drop}
use Rattle.plan_reader.specs.Orders.{numbered_loss, faults_of}
use Rattle.plan_reader.specs.Walks.{each_from}
use Rattle.plan_reader.proofs.Walks.{with_front}
use Rattle.plan_reader.proofs.orders.faults_of.Given as goal

-- the losses so far, and those that are still read, are those of all the texts
abbrev pub invariant-loop-text : goal.invariant-loop-text
invariant-loop-text l = with_front l.losses (each_from (numbered_loss l.clients) l.fault (map (λ text. text.now) (drop l.text-index l.texts))) ≡ faults_of l.clients (map (λ text. text.now) l.texts)
