use Rattle.run_desk.specs.declared.turn_queue_workers.workers.Worker.{Worker}
use Rattle.run_desk.specs.TurnQueueWorkers.Members.{IsMember}
use Rattle.run_desk.proofs.TurnQueueWorkers.Members.{first_members, of_workers}
use Rattle.run_desk.proofs.turn_queue_workers.work.open_turn_queue.Goals as goal

pub returns-in_ok-workers_of-in-Ok-clause-members : goal.returns-in_ok-workers_of-in-Ok-clause-members
returns-in_ok-workers_of-in-Ok-clause-members g c =
    of_workers (λ (worker : Worker g.row.B.Denot g.row.B-Opening.Denot g.row.B-Event.Denot). worker.pass) (IsMember c.in-Ok.turn_queue) c.in_ok-workers_of-in-Ok.field-0.items c.in-Ok.passes.items c.in_ok-workers_of-in-Ok.ensures
    (first_members c.in-Ok.turn_queue c.in-Ok.passes.items c.in-Ok.ensures.passes)
