use Rattle.std.proofs.Common.{codes}
use Rattle.std.proofs.lemmas.Result.{on_ok_weaker}
use Rattle.top_workload.specs.Workloads.{where_text}
use Rattle.top_workload.proofs.Lines.{grows_twice}
use Rattle.top_workload.proofs.statements.push_delete.Goals as goal

pub returns : goal.returns
returns c =
    on_ok_weaker c.push_where.result
    (grows_twice c.args.into.now c.push_str.new.self c.push_where.new.into (codes "DELETE FROM g") (where_text c.args.key) c.in_ok-push_str.ensures.ok)
    c.push_where.ensures
