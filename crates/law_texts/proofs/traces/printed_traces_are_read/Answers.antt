use Rattle.law_texts.proofs.PrintedTraces.Whole.{printed_traces_are_read}
use Rattle.law_texts.proofs.traces.printed_traces_are_read.Goals as goal

pub returns : goal.returns
returns c = printed_traces_are_read
