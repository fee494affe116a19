use Rattle.std.proofs.Common.{codes}
use Rattle.std.proofs.lemmas.Result.{on_ok_weaker}
use Rattle.top_workload.specs.Workloads.{values_text}
use Rattle.top_workload.proofs.Lines.{grows_twice}
use Rattle.top_workload.proofs.statements.push_insert.Goals as goal

pub returns : goal.returns
returns c =
    on_ok_weaker c.push_values.result
    (grows_twice c.args.into.now c.push_str.new.self c.push_values.new.into (codes "INSERT INTO g (id, u, v) VALUES ") (values_text c.args.key c.args.value) c.in_ok-push_str.ensures.ok)
    c.push_values.ensures
