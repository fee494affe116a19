use Rattle.top_call.proofs.Endings.{ends_by}
use Rattle.top_call.proofs.Headline.{runs_by}
use Rattle.top_call.proofs.Unread.{unread}
use Rattle.top_call.proofs.top.ending.Goals as goal

pub returns-clause-ends : goal.returns-clause-ends
returns-clause-ends g c = ends_by c.args.line.now _ _ c.doing.result.turns c.doing.result.journal c.laws_stand.ensures c.doing.result.status c.doing.ensures.does

pub returns-clause-runs : goal.returns-clause-runs
returns-clause-runs g c = runs_by c.laws_stand.ensures c.args.line.now _ _ c.doing.result.turns c.doing.result.journal c.doing.result.status c.doing.ensures.does

pub returns-clause-unread : goal.returns-clause-unread
returns-clause-unread g c = unread c.args.line.now _ _ c.doing.result.turns c.doing.result.journal c.doing.result.status c.doing.ensures.does

pub returns-clause-source_never_falls : goal.returns-clause-source_never_falls
returns-clause-source_never_falls g c = c.doing.ensures.source_never_falls

pub returns-clause-sink_never_falls : goal.returns-clause-sink_never_falls
returns-clause-sink_never_falls g c = c.doing.ensures.sink_never_falls
