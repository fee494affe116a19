use Rattle.std.proofs.Common.{not, nat_eq, rules}
use Rattle.std.proofs.lemmas.Fn.{filter_same}
use Rattle.server_sessions.specs.LiveSessions.KeptSessions.{KeptSession}
use Rattle.server_sessions.proofs.sessions.disconnect.Goals as goal

pub returns : goal.returns
returns c = filter_same _ (λ (session : KeptSession). not (nat_eq session.number c.args.number)) _ (λ x b f' r. search rules) c.args.sessions.now.items c.retain.new.self.items c.retain.ensures.filtered
