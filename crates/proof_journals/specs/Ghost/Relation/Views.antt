-- *The ghost relation*: what the new table, the ghost, has while its rows are copied and events applied. It is seen in three
-- views: as it is committed, as the applier sees it in its open batch, and as the copier does in its open chunk.
use Rattle.std.specs.Prelude.{◌≡◌, ℕ, ◌≤◌, Bool, true, false, not, ◌&&◌, Option, Some}
use Rattle.proof_journals.specs.Ghost.Relation.Timelines.{Timeline, Untouched, ConvertedRowFrom}

-- *Ghost relation* of one view: each ghost row is its key's row, converted, as it was at a moment from the applier's position
-- to the log's end; and where no event from the position on touches a key that is done, its row is in the ghost.
pub record ViewFollows {K R M : Type 0} (timeline : Timeline K R M) (done : K → Bool) (position end : ℕ) (ghost_at : K → Option M) : Type 0 where
  pub comes : (key : K) (made : M) → ghost_at key ≡ Some made → ConvertedRowFrom timeline position end key made
  pub stands : (key : K) (row : R) → done key ≡ true → Untouched timeline position end key → timeline.row_at end key ≡ Some row → (made : M) × (ghost_at key ≡ Some made)

-- the keys that are done, but for those whose row the first half of an event took out
abbrev pub except : {K : Type 0} → (K → Bool) → (K → Bool) → K → Bool
except done half key = done key && not (half key)

-- *An open chunk*: the ghost relation of the copier's view, at the keys that it holds, and at the place that the applier's
-- open batch reached.
pub record ChunkFollows {K R M : Type 0} (timeline : Timeline K R M) (held : K → Bool) (reached end : ℕ) (copied : K → Option M) : Type 0 where
  pub comes : (key : K) (made : M) → held key ≡ true → copied key ≡ Some made → ConvertedRowFrom timeline reached end key made
  pub stands : (key : K) (row : R) → held key ≡ true → Untouched timeline reached end key → timeline.row_at end key ≡ Some row → (made : M) × (copied key ≡ Some made)

-- How far the migration is: up to where events are applied and committed, up to where the open batch applied them, where the
-- log ends; and which keys of the ghost the copier and the applier hold under exclusive locks.
pub record Progress (K : Type 0) : Type 0 where
  pub position : ℕ
  pub reached : ℕ
  pub end : ℕ
  pub copier_holds : K → Bool
  pub applier_holds : K → Bool

-- the ghost's row of a key as it is committed, as the applier sees it, and as the copier does
pub record Views (K M : Type 0) : Type 0 where
  pub committed : K → Option M
  pub applied : K → Option M
  pub copied : K → Option M

-- *Ghost relation* of all three views, where these keys are done, and of these the row was taken out by the first half of an
-- event. Each actor sees the committed ghost but for the keys that it holds, and no key is held by both.
pub record GhostFollows {K R M : Type 0} (timeline : Timeline K R M) (done half : K → Bool) (progress : Progress K) (views : Views K M) : Type 0 where
  pub from : progress.position ≤ progress.reached
  pub to : progress.reached ≤ progress.end
  pub committed : ViewFollows timeline done progress.position progress.end views.committed
  pub batch : ViewFollows timeline (except done half) progress.reached progress.end views.applied
  pub chunk : ChunkFollows timeline progress.copier_holds progress.reached progress.end views.copied
  pub batch_alone : (key : K) → progress.applier_holds key ≡ false → views.applied key ≡ views.committed key
  pub chunk_alone : (key : K) → progress.copier_holds key ≡ false → views.copied key ≡ views.committed key
  pub apart : (key : K) → progress.copier_holds key ≡ true → progress.applier_holds key ≡ false

-- What the applier then holds and sees: no key that the copier holds, and the committed ghost but for its own keys.
pub record HoldsChanged {K M : Type 0} (progress : Progress K) (views : Views K M) (held : K → Bool) (applied : K → Option M) : Type 0 where
  pub apart : (key : K) → progress.copier_holds key ≡ true → held key ≡ false
  pub alone : (key : K) → held key ≡ false → applied key ≡ views.committed key
