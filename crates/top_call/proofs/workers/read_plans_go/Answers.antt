use Rattle.top_call.proofs.workers.read_plans_go.Goals as goal

pub returns : goal.returns
returns c = λ plan read. record { runs = c.read_plans_are_runnable.ensures plan read; goes = λ journal kept unended. c.accepted_runs_go_on.ensures.going plan journal read kept unended }
