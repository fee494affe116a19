use Rattle.std.proofs.Common.{sym, ◌∙◌}
use Rattle.server_sessions.proofs.SessionLocks.Mentioned.{pairs_any}
use Rattle.server_sessions.proofs.session_locks.mentions.mentions_other.Goals as goal

pub returns-in-Rename : goal.returns-in-Rename
returns-in-Rename c = rw c.in-Rename.is ((rw c.as_slice.ensures at c.pairs_beyond.ensures) ∙ sym (pairs_any c.args.locks.now.held c.args.number c.in-Rename.pairs))
