use Rattle.base_values.proofs.SpanLaws.{point_has_key, point_has_one, point_meets}
use Rattle.base_values.proofs.laws.points_meet_what_has_them.Goals as goal

pub returns : goal.returns
returns c = (point_has_key, point_has_one, point_meets)
