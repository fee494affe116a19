-- Every step of the copier, the applier and the clients keeps the ghost relation; at the end it makes the ghost the altered
-- table.
use Rattle.std.specs.Prelude.{◌≡◌, ℕ, ◌+◌, ◌<◌, ◌≤◌, Bool, true, false, Option, Some, None, ◌⊎◌}
use Rattle.std.specs.Option.{option_and_then}
use Rattle.proof_journals.specs.Ghost.Relation.Timelines.{Timeline, IsTimeline, AreAlike}
use Rattle.proof_journals.specs.Ghost.Relation.Views.{Progress, Views, GhostFollows, HoldsChanged, ViewFollows}
use Rattle.proof_journals.specs.Ghost.Relation.AppliedEvents.{EventOfKeys, Replaced, Deleted, Updated, AppliedAt}

-- *The start*: nobody holds a key, all see an empty ghost, and there is no row of a key that is done.
abbrev pub MigrationsStart : (K R M : Type 0) → Type 0
MigrationsStart K R M =
    (timeline : Timeline K R M) (done : K → Bool) (progress : Progress K) (views : Views K M) → progress.reached ≡ progress.position → progress.position ≤ progress.end → ((key : K) → progress.copier_holds key ≡ false)
    → ((key : K) → views.committed key ≡ None) → ((key : K) → views.applied key ≡ None) → ((key : K) → views.copied key ≡ None) → ((key : K) → done key ≡ true → timeline.row_at progress.end key ≡ None)
    → GhostFollows timeline done (λ _. false) progress views

-- *A session commits*: the log grows.
abbrev pub LogsGrow : (K R M : Type 0) → Type 0
LogsGrow K R M =
    (timeline longer : Timeline K R M) (done half : K → Bool) (progress : Progress K) (views : Views K M) (end : ℕ) → AreAlike timeline longer progress.end → IsTimeline longer end → progress.end ≤ end
    → GhostFollows timeline done half progress views → GhostFollows longer done half (record progress { end = end }) views

-- *A chunk begins*: those of its keys at which there is no row are done at once.
abbrev pub ChunksBegin : (K R M : Type 0) → Type 0
ChunksBegin K R M =
    (timeline : Timeline K R M) (done next half : K → Bool) (progress : Progress K) (views : Views K M) → ((key : K) (row : R) → next key ≡ true → timeline.row_at progress.end key ≡ Some row → done key ≡ true)
    → GhostFollows timeline done half progress views → GhostFollows timeline next half progress views

-- *A row is copied*: its converted row is written, and the copier holds its key.
abbrev pub RowsAreCopied : (K R M : Type 0) → Type 0
RowsAreCopied K R M =
    (timeline : Timeline K R M) (done half : K → Bool) (progress : Progress K) (views : Views K M) (key : K) (row : R) (made : M) (held : K → Bool) (copied : K → Option M) → timeline.row_at progress.end key ≡ Some row → timeline.converted_row row ≡ Some made
    → progress.applier_holds key ≡ false → copied key ≡ Some made → ((other : K) → held other ≡ true → (key ≡ other) ⊎ ((progress.copier_holds other ≡ true) × (copied other ≡ views.copied other)))
    → ((other : K) → held other ≡ false → (progress.copier_holds other ≡ false) × (copied other ≡ views.copied other))
    → GhostFollows timeline done half progress views → GhostFollows timeline done half (record progress { copier_holds = held }) (record views { copied = copied })

-- *A row is not copied*, since a row that the copier sees clashes with its converted row. The applier sees that row as it is
-- committed, unless the copier holds its key.
abbrev pub RowsAreMet : (K R M : Type 0) → Type 0
RowsAreMet K R M =
    (timeline : Timeline K R M) (done half : K → Bool) (progress : Progress K) (views : Views K M) (key beside : K) (row : R) (made was : M) (held : K → Bool) → IsTimeline timeline progress.end → timeline.row_at progress.end key ≡ Some row
    → timeline.converted_row row ≡ Some made → progress.applier_holds key ≡ false → views.copied beside ≡ Some was → timeline.converted_rows_clash was made ≡ true → (progress.copier_holds beside ≡ false → views.applied beside ≡ views.committed beside)
    → ((other : K) → held other ≡ true → (key ≡ other) ⊎ (progress.copier_holds other ≡ true)) → ((other : K) → held other ≡ false → progress.copier_holds other ≡ false)
    → GhostFollows timeline done half progress views → GhostFollows timeline done half (record progress { copier_holds = held }) views

-- *A chunk is committed*: the keys that the copier held are done.
abbrev pub ChunksCommit : (K R M : Type 0) → Type 0
ChunksCommit K R M =
    (timeline : Timeline K R M) (done half next : K → Bool) (progress : Progress K) (views : Views K M) (applied : K → Option M) → ((key : K) → progress.copier_holds key ≡ true → applied key ≡ views.copied key)
    → ((key : K) → progress.copier_holds key ≡ false → applied key ≡ views.applied key) → ((key : K) → progress.copier_holds key ≡ false → next key ≡ true → done key ≡ true)
    → GhostFollows timeline done half progress views → GhostFollows timeline next half (record progress { copier_holds = λ _. false }) (record views { committed = views.copied; applied = applied })

-- *A chunk is rolled back.*
abbrev pub ChunksRollBack : (K R M : Type 0) → Type 0
ChunksRollBack K R M =
    (timeline : Timeline K R M) (done half : K → Bool) (progress : Progress K) (views : Views K M)
    → GhostFollows timeline done half progress views → GhostFollows timeline done half (record progress { copier_holds = λ _. false }) (record views { copied = views.committed })

-- *An event is applied*, or the second half of one: the keys that it changes are held.
abbrev pub EventsApply : (K R M : Type 0) → Type 0
EventsApply K R M =
    (timeline : Timeline K R M) (done half : K → Bool) (progress : Progress K) (views : Views K M) (held : K → Bool) (after : K → Option M) → IsTimeline timeline progress.end → progress.reached < progress.end → HoldsChanged progress views held after
    → ((key : K) → held key ≡ false → (timeline.touches progress.reached key ≡ false) × (timeline.row_at (progress.reached + 1) key ≡ timeline.row_at progress.reached key))
    → ((key : K) → AppliedAt timeline half progress.reached views.applied after key) → GhostFollows timeline done half progress views
    → GhostFollows timeline done (λ _. false) (record progress { reached = progress.reached + 1; applier_holds = held }) (record views { applied = after })

-- *The first half of an event*: rows of these keys are taken out.
abbrev pub HalvesApply : (K R M : Type 0) → Type 0
HalvesApply K R M =
    (timeline : Timeline K R M) (done half : K → Bool) (progress : Progress K) (views : Views K M) (held : K → Bool) (after : K → Option M) → HoldsChanged progress views held after
    → ((key : K) → (after key ≡ views.applied key) ⊎ ((half key ≡ true) × (after key ≡ None))) → GhostFollows timeline done (λ _. false) progress views
    → GhostFollows timeline done half (record progress { applier_holds = held }) (record views { applied = after })

-- *An event is passed over* that changes no row and no unique key, as one of another table.
abbrev pub EventsPass : (K R M : Type 0) → Type 0
EventsPass K R M =
    (timeline : Timeline K R M) (done : K → Bool) (progress : Progress K) (views : Views K M) → IsTimeline timeline progress.end → progress.reached < progress.end
    → ((key : K) → (timeline.touches progress.reached key ≡ false) × (timeline.row_at (progress.reached + 1) key ≡ timeline.row_at progress.reached key)) → GhostFollows timeline done (λ _. false) progress views
    → GhostFollows timeline done (λ _. false) (record progress { reached = progress.reached + 1 }) views

-- *A batch is committed*, at the place that it reached.
abbrev pub BatchesCommit : (K R M : Type 0) → Type 0
BatchesCommit K R M =
    (timeline : Timeline K R M) (done : K → Bool) (progress : Progress K) (views : Views K M) (copied : K → Option M) → ((key : K) → progress.copier_holds key ≡ true → copied key ≡ views.copied key)
    → ((key : K) → progress.copier_holds key ≡ false → copied key ≡ views.applied key) → GhostFollows timeline done (λ _. false) progress views
    → GhostFollows timeline done (λ _. false) (record progress { position = progress.reached; applier_holds = λ _. false }) (record views { committed = views.applied; copied = copied })

-- *A batch is rolled back*: the applier is at its position again.
abbrev pub BatchesRollBack : (K R M : Type 0) → Type 0
BatchesRollBack K R M =
    (timeline : Timeline K R M) (done half : K → Bool) (progress : Progress K) (views : Views K M) → IsTimeline timeline progress.end → GhostFollows timeline done half progress views
    → GhostFollows timeline done (λ _. false) (record progress { reached = progress.position; applier_holds = λ _. false }) (record views { applied = views.committed })

-- *A batch is repeated* whose COMMIT was done and its answer lost: earlier places do as well.
abbrev pub BatchesRepeat : (K R M : Type 0) → Type 0
BatchesRepeat K R M =
    (timeline : Timeline K R M) (done half : K → Bool) (progress : Progress K) (views : Views K M) (position reached : ℕ) → IsTimeline timeline progress.end → position ≤ progress.position → reached ≤ progress.reached → position ≤ reached
    → GhostFollows timeline done half progress views → GhostFollows timeline done half (record progress { position = position; reached = reached }) views

-- two keys are one, or not
abbrev pub Decides : Type 0 → Type 0
Decides K = (a b : K) → (a ≡ b) ⊎ (a ≡ b → ⊥)

-- *REPLACE applies an event* that leaves a row; where the row's key was another before, the old key's row was taken out.
abbrev pub ReplaceApplies : (K R M : Type 0) → Type 0
ReplaceApplies K R M =
    Decides K → (timeline : Timeline K R M) (half : K → Bool) (position : ℕ) (old new : K) (row : R) (made : M) (before after : K → Option M) → EventOfKeys timeline position old new
    → ((key : K) → half key ≡ true → (old ≡ key) ⊎ (new ≡ key)) → timeline.row_at (position + 1) new ≡ Some row → timeline.converted_row row ≡ Some made
    → ((new ≡ old → ⊥) → (timeline.row_at (position + 1) old ≡ None) × (before old ≡ None)) → Replaced timeline.converted_rows_clash new made before after
    → (key : K) → AppliedAt timeline half position before after key

-- *DELETE applies an event* that leaves no row.
abbrev pub DeleteApplies : (K R M : Type 0) → Type 0
DeleteApplies K R M =
    Decides K → (timeline : Timeline K R M) (position : ℕ) (key : K) (before after : K → Option M) → EventOfKeys timeline position key key → timeline.row_at (position + 1) key ≡ None → Deleted key before after
    → (other : K) → AppliedAt timeline (λ _. false) position before after other

-- *UPDATE applies an event* that changes no unique key.
abbrev pub UpdateApplies : (K R M : Type 0) → Type 0
UpdateApplies K R M =
    Decides K → (timeline : Timeline K R M) (position : ℕ) (key : K) (row : R) (made : M) (before after : K → Option M) → EventOfKeys timeline position key key → timeline.touches position key ≡ false
    → timeline.row_at (position + 1) key ≡ Some row → timeline.converted_row row ≡ Some made → Updated key made before after → (other : K) → AppliedAt timeline (λ _. false) position before after other

-- *The end*: where all events are applied and all keys are done, each row of the table can be converted, and the ghost has just
-- these.
abbrev pub GhostsEnd : (K R M : Type 0) → Type 0
GhostsEnd K R M =
    (timeline : Timeline K R M) (done : K → Bool) (end : ℕ) (ghost_at : K → Option M) → ((key : K) → done key ≡ true) → ViewFollows timeline done end end ghost_at
    → ((key : K) → ghost_at key ≡ option_and_then timeline.converted_row (timeline.row_at end key)) × ((key : K) (row : R) → timeline.row_at end key ≡ Some row → (made : M) × (timeline.converted_row row ≡ Some made))
