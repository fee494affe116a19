use Rattle.std.proofs.Common.{◌+◌, ap}
use borrow.Rule.Slice.PartAt.{part_to_end}
use Rattle.top_trace_reader.proofs.Places.{parts_found, texts}
use Rattle.top_trace_reader.proofs.lines.parts_of.Goals as goal

pub returns-in_ok-joined-in-Some : goal.returns-in_ok-joined-in-Some
returns-in_ok-joined-in-Some c =
    parts_found c.args.lines.now c.in-Some.place c.in_ok-joined-in-Some.field-0.items _ c.in-Some.ensures.place c.in_ok-joined-in-Some.ensures
    (ap texts (part_to_end c.args.lines.now (c.in-Some.place + 1)))
