use Rattle.server_log.proofs.OneEncoding.{encoded_so}
use Rattle.server_log.proofs.laws.what_is_read_is_encoded_so.Goals as goal

pub returns : goal.returns
returns c = encoded_so
