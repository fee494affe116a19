use Rattle.top_endings.specs.Texts.{place_text}
use Rattle.top_endings.proofs.refusals.push_place.Goals as goal

pub returns-in-Operator : goal.returns-in-Operator
unfolding place_text
returns-in-Operator c = rw c.in-Operator.is c.push_numbered-in-Operator.ensures
