use Rattle.base_values.proofs.SpanLaws.{common_key}
use Rattle.base_values.proofs.laws.spans_meet_at_common_keys.Goals as goal

pub returns : goal.returns
returns c = common_key
