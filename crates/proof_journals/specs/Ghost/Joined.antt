-- The migration under way, with the row locks of the applier and the copier.
use Rattle.std.specs.Prelude.{◌≡◌, Bool, true, List}
use Rattle.base_values.specs.declared.event.RowEvent.{RowEvent}
use Rattle.server_locks.specs.declared.row_locks.lock.Lock.{Lock}
use Rattle.proof_journals.specs.Ghost.HeldKeys.{is_locked}
use Rattle.proof_journals.specs.Ghost.Relation.Views.{Progress}
use Rattle.proof_journals.specs.Ghost.Rows.Moments.{Row}
use Rattle.proof_journals.specs.Ghost.Rows.Timelines.{Migration}
use Rattle.proof_journals.specs.Ghost.Rows.UnderWay.{IsUnderWay}
use Rattle.proof_journals.specs.Ghost.Rows.Views.{GhostRows, is_among}
use Rattle.server_model.specs.LockedRows.Coverage.{Apart, Covered}

-- *Granted*: the applier holds the first locks, the copier the others, and none of them conflicts. The applier's keys are
-- those that its locks hold, the copier's those of the rows that it took; all points of all rows that either changed are
-- among its locks.
pub record AreGranted (m : Migration) (own others : List Lock) (keys : List Row) (progress : Progress Row) (ghost : GhostRows) : Type 0 where
  pub apart : Apart own others
  pub applier_holds : progress.applier_holds ≡ is_locked m.new own
  pub copier_holds : progress.copier_holds ≡ is_among keys
  pub taken : (key : Row) → is_among keys key ≡ true → is_locked m.new others key ≡ true
  pub batch : Covered m.new own ghost.batch
  pub chunk : Covered m.new others ghost.chunk

-- *Under way with its locks*
pub record IsJoined (m : Migration) (rows : List Row) (log : List RowEvent) (done half : Row → Bool) (own others : List Lock) (keys : List Row) (progress : Progress Row) (ghost : GhostRows) : Type 0 where
  pub under_way : IsUnderWay m rows log done half progress ghost
  pub granted : AreGranted m own others keys progress ghost
