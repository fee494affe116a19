use Rattle.std.proofs.Common.{subst, sym}
use Rattle.std.specs.Str.{IsUtf8}
use Rattle.server_log.specs.Laws.{IsHeld}
use Rattle.server_log.proofs.encoding.put_value.Goals as goal

pub returns-in-Text-clause-held : goal.returns-in-Text-clause-held
returns-in-Text-clause-held c = subst IsHeld (sym c.in-Text.is) (subst IsUtf8 c.as_str-text.ensures c.as_str-text.utf8)
