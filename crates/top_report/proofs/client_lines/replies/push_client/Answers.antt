use Rattle.std.proofs.lemmas.Result.{on_ok_weaker}
use Rattle.top_report.proofs.ClientLines.Replying.{text_by_walk}
use Rattle.top_report.proofs.client_lines.replies.push_client.Goals as goal

pub returns : goal.returns
returns c =
    on_ok_weaker c.push_replies.result
    (text_by_walk c.args.plan.now c.args.journal.now c.args.client c.args.script.now c.args.into.now c.push_client_line.new.into c.push_replies.new.into c.requires c.in_ok-push_client_line.ensures)
    c.push_replies.ensures
