use Rattle.std.proofs.Common.{[], ap, sym}
use Rattle.server_locks.specs.MetadataLocks.Grants.{before}
use Rattle.server_locks.proofs.metadata_locks.waits.ahead_of.Goals as goal

pub returns-in-Some : goal.returns-in-Some
returns-in-Some c = ap (λ place. before place c.args.waiting.now) (sym (c.in-Some.ensures.place.place (record { session = 0; names = [] })))
