-- Kept runs of accepted plans are sound.
use Rattle.proof_plans.specs.Laws.{AcceptedRunsAreSerial, AcceptedRenamesFindTheAltered, AcceptedRunsFindTheTable, AcceptedRunsKeepTheOldTable, AcceptedRunsAreOnline, AcceptedRunsGoOn, AcceptedCausesStand}
use Rattle.proof_feeds.proofs.Holding.{someone_may_go}
use Rattle.law_draws.specs.AllTables.{AcceptedRunsDraw}
use Rattle.law_journals.specs.Bounds.{RunsAreBounded}
use Rattle.law_journals.specs.Causes.{AcceptedCausesAreLeast}
use Rattle.law_journals.specs.Orders.{AcceptedRunsApplyInserts, AcceptedRunsCopyUnderLocks, AcceptedRunsKeepOrder}
use Rattle.top_call.specs.WholeReplays.SoundRuns.{KeptRunsAreSound}

-- *Kept runs are sound*
pub sound : AcceptedRunsAreSerial → AcceptedRenamesFindTheAltered → AcceptedRunsFindTheTable → AcceptedRunsKeepTheOldTable → AcceptedRunsAreOnline → AcceptedRunsKeepOrder → AcceptedRunsCopyUnderLocks → AcceptedRunsApplyInserts → AcceptedRunsDraw → AcceptedCausesStand → AcceptedCausesAreLeast → RunsAreBounded → AcceptedRunsGoOn → KeptRunsAreSound
unfolding KeptRunsAreSound
sound serial altered found old online order locks inserts draws causes least bounded goes plan journal was kept numbered bound stops = record {
  kept = kept;
  numbered = numbered;
  bound = bound;
  stops = stops;
  ends = λ going. bounded plan journal was kept going;
  goes = λ unended. someone_may_go plan journal (goes plan journal was kept unended);
  serial = serial plan journal was kept;
  altered = λ before entry following table new is rename stands alters. altered plan table new before entry was stands alters rename;
  found = found plan journal was kept;
  old = old plan journal was kept;
  online = online plan journal was kept;
  order = order plan journal was kept;
  locks = locks plan journal was kept;
  inserts = inserts plan journal was kept;
  draws = draws plan journal was kept bound;
  causes = λ cause is. causes plan journal cause was kept is;
  least = λ cause other is stands. least plan journal cause other was kept stands is;
}
