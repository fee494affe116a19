use Rattle.server_log.proofs.ReadBack.{no_prefix}
use Rattle.server_log.proofs.laws.no_encoding_is_a_prefix.Goals as goal

pub returns : goal.returns
returns c = no_prefix
