use Rattle.std.proofs.Common.{arith}
use Rattle.std.proofs.lemmas.Bool.Decides.{nat_tests}
use Rattle.server_locks.proofs.MetadataLocks.Leaving.{list_any-request}
use Rattle.server_locks.proofs.metadata_locks.request.Request.is_of.Goals as goal

pub returns-then-self-session : goal.returns-then-self-session
returns-then-self-session c = rw (list_any-request c.args.self.now c.args.session) (grind (arith, nat_tests))

pub returns-else-self-session : goal.returns-else-self-session
returns-else-self-session c = rw (list_any-request c.args.self.now c.args.session) (grind (arith, nat_tests))
