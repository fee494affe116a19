use Rattle.law_journals.proofs.Sums.{runs_bounded}
use Rattle.law_journals.proofs.bounds.runs_are_bounded.Goals as goal

pub returns : goal.returns
returns c =
    let some = c.some_parts_are_bounded.ensures in
    let tasks = c.tasks_are_bounded.ensures in
    runs_bounded c.parts_make_journals.ensures
    (record { operator = some.operator; clients = some.clients; setup = some.setup; attempts = some.attempts; clearing = some.clearing; chunks = tasks.chunks; batches = tasks.batches }) c.accepted_runs_go_on.ensures.going c.due_turns_are_kept.ensures.kept
