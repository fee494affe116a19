-- *How rows are moved*, read from the journal alone: a row is copied under the share lock that the copier's session took on the
-- whole chunk, in the same transaction. (gh-ost, "Iterating the table": a chunk is copied by INSERT .. SELECT .. LOCK IN SHARE
-- MODE.)
use Rattle.std.specs.Prelude.{◌≡◌, ℕ, List, [], fold, Option, Some, None}
use Rattle.std.specs.List.{slice_get}
use Rattle.base_values.specs.declared.span.Bound.{Bound}
use Rattle.base_values.specs.declared.span.Bound.TheVariants.{Closed}
use Rattle.base_values.specs.declared.span.Span.{Span}
use Rattle.base_values.specs.declared.value.Value.{Value}
use Rattle.base_values.specs.ToolNames.{ghost_name}
use Rattle.base_script.specs.declared.actor.Actor.{Actor}
use Rattle.base_script.specs.declared.actor.Actor.TheVariants.{Copy, Client}
use Rattle.server_model.specs.Along.{Along}
use Rattle.server_model.specs.Entries.{request_in}
use Rattle.server_model.specs.declared.answer.Answer.{Answer}
use Rattle.server_model.specs.declared.answer.Answer.TheVariants as answers
use Rattle.server_model.specs.declared.entry.Asked.{Asked}
use Rattle.server_model.specs.declared.entry.Asked.TheVariants.{Call}
use Rattle.server_model.specs.declared.entry.Entry.{Entry}
use Rattle.server_model.specs.declared.request.Request.{Request}
use Rattle.server_model.specs.declared.request.Request.TheVariants as requests
use Rattle.plan_data.specs.PlanData.{PlanData}

-- THE CHUNK AT HAND

pub record CopiedChunk : Type 0 where
  -- where it begins, as its end was asked for, and where it ends, as that was answered
  pub low : Bound
  pub high : Option (List Value)
  -- the keys that were given with the share lock on a span, while that transaction goes on
  pub keys : Option (List (List Value))

abbrev pub asked_after : Asked → CopiedChunk → CopiedChunk
asked_after (Call (requests.ChunkEnd table low top size)) chunk = record { low = low; high = None; keys = None }
asked_after (Call requests.Commit) chunk = record chunk { keys = None }
asked_after (Call requests.Rollback) chunk = record chunk { keys = None }
asked_after asked chunk = chunk

abbrev pub answered_after : Answer → CopiedChunk → CopiedChunk
answered_after (answers.End end) chunk = record chunk { high = Some end }
answered_after (answers.Keys keys end) chunk = record chunk { keys = Some keys }
answered_after answers.Lost chunk = record chunk { keys = None }
answered_after (answers.TimedOut waited) chunk = record chunk { keys = None }
answered_after answer chunk = chunk

abbrev pub chunk_after : Actor → Asked → Answer → CopiedChunk → CopiedChunk
chunk_after Copy asked answer chunk = answered_after answer (asked_after asked chunk)
chunk_after actor asked answer chunk = chunk

-- *The chunk at hand*, by the copier's turns so far.
unfoldable pub chunk_at : List Entry → CopiedChunk
chunk_at journal = fold (λ chunk entry. chunk_after entry.actor entry.asked entry.answer chunk) (record { low = Closed []; high = None; keys = None }) journal

-- WHAT IS ASKED OF A CALL

-- the share lock is taken on the whole chunk of the migrated table
pub record IsWholeChunk (plan : PlanData) (before : List Entry) (table : List ℕ) (span : Span) : Type 0 where
  pub own : table ≡ plan.table
  pub end : List Value
  pub reported : (chunk_at before).high ≡ Some end
  pub whole : span ≡ record { low = (chunk_at before).low; high = Closed end }

-- a row of the migrated table is copied to the new one by a key that was given with that lock
pub record IsLockedRow (plan : PlanData) (before : List Entry) (from into : List ℕ) (key : List Value) : Type 0 where
  pub own : from ≡ plan.table
  pub new : into ≡ ghost_name plan.table
  pub keys : List (List Value)
  pub locked : (chunk_at before).keys ≡ Some keys
  pub place : ℕ
  pub given : slice_get keys place ≡ Some key

-- the copier alone locks chunks and copies rows
abbrev pub IsLockedCall : PlanData → List Entry → Actor → Request → Type 0
IsLockedCall plan before Copy (requests.BeginSpan table span size) = IsWholeChunk plan before table span
IsLockedCall plan before Copy (requests.CopyRow from into map key) = IsLockedRow plan before from into key
IsLockedCall plan before actor (requests.BeginSpan table span size) = ⊥
IsLockedCall plan before actor (requests.CopyRow from into map key) = ⊥
IsLockedCall plan before actor request = Unit {0}

abbrev pub IsLockedTurn : PlanData → List Entry → Actor → Option Request → Type 0
IsLockedTurn plan before (Client client) request = Unit {0}
IsLockedTurn plan before actor None = Unit {0}
IsLockedTurn plan before actor (Some request) = IsLockedCall plan before actor request

-- *Copies under locks*: each row is copied so.
unfoldable pub CopiesUnderLocks : PlanData → List Entry → Type 0
CopiesUnderLocks plan journal = Along (λ before entry. IsLockedTurn plan before entry.actor (request_in entry.asked)) [] journal
