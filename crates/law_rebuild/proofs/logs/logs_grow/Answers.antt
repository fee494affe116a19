use Rattle.law_rebuild.proofs.Growing as growing
use Rattle.law_rebuild.proofs.logs.logs_grow.Goals as goal

pub returns : goal.returns
returns c = growing.logs_grow
