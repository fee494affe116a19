use denote.Param.Send.{sendable}
use Rattle.top_call.proofs.ServerSends.{server_send}
use Rattle.top_call.proofs.outcome.plan_worked.Goals as goal

pub returns : goal.returns
returns g c = record { was_read = c.requires.read; takes = c.in_ok-left.ensures.taken; reports = c.reported.ensures.report }

pub work_plan-requires-send-V : goal.work_plan-requires-send-V
work_plan-requires-send-V g c κs within = search (server_send, sendable) depth 20
