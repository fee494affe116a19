use Rattle.std.proofs.Common.{◌+◌, arith, sym}
use Rattle.top_trace_reader.proofs.Endings.{two_words}
use Rattle.top_trace_reader.proofs.turns.turn_in.Goals as goal

pub returns-in-len2 : goal.returns-in-len2
returns-in-len2 c = sym (two_words c.args.clients (c.args.before + 1) c.args.words.now (omega arith))
