use Rattle.std.proofs.lemmas.Result.{on_ok_weaker}
use Rattle.top_trace.proofs.Lines.{turn_printed}
use Rattle.top_trace.proofs.turns.push_turn_line.Goals as goal

pub returns : goal.returns
returns c =
    on_ok_weaker c.push_str-2.result
    (turn_printed c.args.turn c.args.entry.now c.args.into.now c.push_front.new.into c.push_request.new.into c.push_str.new.self c.push_answer.new.into c.push_drawn.new.into c.push_str-2.new.self c.in_ok-push_front.ensures c.in_ok-push_request.ensures c.in_ok-push_str.ensures.ok c.in_ok-push_answer.ensures c.in_ok-push_drawn.ensures)
    c.push_str-2.ensures.ok
