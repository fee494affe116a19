use Rattle.std.proofs.Common.{subst}
use Rattle.std.specs.Str.{IsUtf8}
use Rattle.server_log.proofs.encoding.put_body.Goals as goal

pub returns-clause-name : goal.returns-clause-name
returns-clause-name c = subst IsUtf8 c.as_str-text.ensures c.as_str-text.utf8
