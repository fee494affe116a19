use Rattle.std.proofs.Common.{codes}
use Rattle.std.specs.Fmt.{decimal}
use Rattle.std.proofs.lemmas.Result.{on_ok_weaker}
use Rattle.top_workload.specs.Workloads.{where_text}
use Rattle.top_workload.proofs.Lines.{grows_thrice}
use Rattle.top_workload.proofs.statements.push_where.Goals as goal

pub returns : goal.returns
unfolding where_text
returns c =
    on_ok_weaker c.push_str-2.result
    (grows_thrice c.args.into.now c.push_str.new.self c.push_decimal.new.into c.push_str-2.new.self (codes " WHERE id = ") (decimal c.args.key) (codes "\n") c.in_ok-push_str.ensures.ok c.in_ok-push_decimal.ensures)
    c.push_str-2.ensures.ok
