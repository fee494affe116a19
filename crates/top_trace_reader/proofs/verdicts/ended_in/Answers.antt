use Rattle.std.proofs.Common.{sym}
use Rattle.top_trace_reader.proofs.Endings.{two_taken}
use Rattle.top_trace_reader.proofs.verdicts.ended_in.Goals as goal

pub returns : goal.returns
returns c = sym (two_taken c.args.values c.pop.new.self c.pop-2.new.self c.in_ok-last_but_one.last_but_one c.in_ok-last.last c.in_ok-last.ensures.items c.in_ok-last_but_one.ensures.items)
