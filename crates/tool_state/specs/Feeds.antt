-- Which calls a lagging replica may hold back: the applier's reads of the log, and those that begin a chunk or an attempt. (This
-- project's rule.)
use Rattle.base_script.specs.declared.actor.Actor.{Actor}
use Rattle.base_script.specs.declared.actor.Actor.TheVariants.{Copy, Apply, Lock}
use Rattle.server_model.specs.declared.request.Request.TheVariants as requests
use Rattle.server_model.specs.declared.entry.Asked.{Asked}
use Rattle.server_model.specs.declared.entry.Asked.TheVariants.{Call}
use Rattle.tool_state.specs.declared.feed_call.FeedCall.{FeedCall}
use Rattle.tool_state.specs.declared.feed_call.FeedCall.TheVariants.{Free, Read, Start}

-- what this is for the replica where this actor asks it: a chunk begins where the copier asks where one ends, and an attempt
-- where the locker makes the sentry
abbrev pub feed_call : Actor → Asked → FeedCall
feed_call Apply (Call (requests.ReadLog position limit tables)) = Read position limit
feed_call Copy (Call (requests.ChunkEnd table low top size)) = Start
feed_call Lock (Call (requests.Create schema)) = Start
feed_call actor asked = Free
