use Rattle.std.proofs.Common.{◌≡◌, ◌<◌, ◌-◌, length}
use Rattle.server_model.specs.Listings.{events_read}
use Rattle.server_log.proofs.ReadEvents.{reads_on}
use Rattle.server_log.proofs.log.reading.read_after.Given as goal

-- fewer events were read than are asked for, and what is read from here on is what is read in all
abbrev pub invariant-loop-place : goal.invariant-loop-place
invariant-loop-place l = record {
  asked : length l.events < l.limit;
  read : reads_on (l.limit - length l.events) l.tables l.log.events l.place l.events ≡ events_read l.position l.limit l.tables l.log.events;
}
