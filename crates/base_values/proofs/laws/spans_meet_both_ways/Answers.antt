use Rattle.base_values.proofs.SpanLaws.{meets_both_ways}
use Rattle.base_values.proofs.laws.spans_meet_both_ways.Goals as goal

pub returns : goal.returns
returns c = meets_both_ways
