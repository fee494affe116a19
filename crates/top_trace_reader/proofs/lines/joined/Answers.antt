use Rattle.top_trace_reader.proofs.Places.{joined_all}
use Rattle.top_trace_reader.proofs.lines.joined.Goals as goal

pub returns : goal.returns
returns c = joined_all c.push_lines.new.text.items c.new-text.result.items c.without_first.result.items c.args.lines.now c.new-text.ensures.items c.in_ok-push_lines.ensures c.without_first.ensures
