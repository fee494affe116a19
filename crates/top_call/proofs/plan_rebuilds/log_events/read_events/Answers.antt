use Rattle.top_call.proofs.LogReads.{gives_now, may_read_now}
use Rattle.top_call.proofs.plan_rebuilds.log_events.read_events.Goals as goal

pub call-requires : goal.call-requires
call-requires g c =
    may_read_now (g.V.Serve.state c.args.server.now) (g.V.Serve.state c.connect.new.self) c.in_ok-session.session c.in_ok-read_request.field-0 c.args.table.now c.args.limit c.requires.rested c.requires.some c.in_ok-session.ensures.number c.in_ok-session.ensures.ok c.in_ok-read_request.ensures

pub unreachable-requires : goal.unreachable-requires
unreachable-requires g c =
    gives_now (g.V.Serve.state c.args.server.now) (g.V.Serve.state c.connect.new.self) c.in_ok-session.session c.in_ok-read_request.field-0 c.args.table.now c.args.limit c.in_ok-events.field-0 c.requires.rested c.in_ok-session.ensures.number c.in_ok-session.ensures.ok c.in_ok-read_request.ensures c.in_ok-events.ensures.answer c.in_default.not-Events
