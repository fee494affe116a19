-- What the tool's calls are for a replica that lags: which read the log, and which begin a chunk or an attempt.
use Rattle.std.proofs.Common.{◌≡◌, refl, true, false, List, Option, Some, None}
use Rattle.base_script.specs.declared.actor.Actor.TheVariants as actors
use Rattle.plan_data.specs.PlanData.{PlanData}
use Rattle.server_model.specs.declared.entry.Asked.TheVariants.{Call}
use Rattle.server_model.specs.declared.entry.Entry.{Entry}
use Rattle.tool_program.specs.ChunkCopier.CopyCalls as copiers
use Rattle.tool_program.specs.declared.chunk_copier.calls.CopyCall.{CopyCall}
use Rattle.tool_program.specs.declared.chunk_copier.calls.CopyCall.TheVariants as copying
use Rattle.tool_program.specs.declared.chunk_copier.copier.Copier.{Copier}
use Rattle.tool_program.specs.CutoverCore.CutOverCalls as cutovers
use Rattle.tool_program.specs.declared.cutover_core.calls.CutOverCall.{CutOverCall}
use Rattle.tool_program.specs.declared.cutover_core.calls.CutOverCall.TheVariants as cutting
use Rattle.tool_program.specs.declared.cutover_core.cutover.CutOver.{CutOver}
use Rattle.tool_program.specs.declared.event_applier.applier.Applier.{Applier}
use Rattle.tool_program.specs.declared.event_applier.applier.ApplyStep.{ApplyStep}
use Rattle.tool_program.specs.declared.event_applier.applier.ApplyStep.TheVariants as applying
use Rattle.tool_program.specs.declared.tool_setup.setup.Setup.{Setup}
use Rattle.tool_program.specs.declared.tool_setup.setup.Setup.TheVariants as setting
use Rattle.tool_program.specs.EventApplier.Appliers as appliers
use Rattle.tool_program.specs.EventApplier.Appliers.{Doing}
use Rattle.tool_program.specs.ToolSetup.Meanings as setups
use Rattle.tool_state.specs.Feeds.{feed_call}
use Rattle.tool_state.specs.declared.feed_call.FeedCall.TheVariants.{Free, Read}

-- A READ OF THE LOG

-- the applier reads it where it starts
pub reads_log : (journal : List Entry) (applier : Applier) → appliers.starts applier ≡ true → Read applier.position applier.batch ≡ feed_call actors.Apply (Call (appliers.next journal applier))
unfolding appliers.next
reads_log journal applier is = by applier.step is where
  by : (step : ApplyStep) → appliers.is_reading step ≡ true → Read applier.position applier.batch ≡ feed_call actors.Apply (Call (appliers.call_at journal applier step))
  by applying.Reading is = refl
  by (applying.Beginning batch) is = absurd cc
  by (applying.Applying batch done part) is = absurd cc
  by (applying.Committing batch) is = absurd cc

pub applies : (journal : List Entry) (applier : Applier) → appliers.starts applier ≡ false → Free ≡ feed_call actors.Apply (Call (appliers.next journal applier))
unfolding appliers.next
applies journal applier is = by applier.step is where
  at : (doing : Option Doing) → Free ≡ feed_call actors.Apply (Call (appliers.statement_result applier doing))
  at None = refl
  at (Some doing) = refl

  by : (step : ApplyStep) → appliers.is_reading step ≡ false → Free ≡ feed_call actors.Apply (Call (appliers.call_at journal applier step))
  by applying.Reading is = absurd cc
  by (applying.Beginning batch) is = refl
  by (applying.Applying batch done part) is = at (appliers.doing_at journal applier (applying.Applying batch done part))
  by (applying.Committing batch) is = refl

-- no other call does
pub setup_reads : (plan : PlanData) (setup : Setup) → Free ≡ feed_call actors.Apply (Call (setups.asked_in plan setup))
setup_reads plan setting.Listing = refl
setup_reads plan setup = refl

pub copier_reads : (journal : List Entry) (copier : Copier) (call : CopyCall) → Free ≡ feed_call actors.Apply (Call (copiers.asked_in journal copier call))
copier_reads journal copier copying.Commit = refl
copier_reads journal copier call = refl

pub cutover_reads : (cutover : CutOver) (call : CutOverCall) → Free ≡ feed_call actors.Apply (Call (cutovers.asked_in cutover call))
cutover_reads cutover cutting.Unlock = refl
cutover_reads cutover call = refl

-- A CHUNK OR AN ATTEMPT BEGINS

pub setup_begins : (plan : PlanData) (setup : Setup) → Free ≡ feed_call actors.Copy (Call (setups.asked_in plan setup))
setup_begins plan setting.Listing = refl
setup_begins plan setup = refl

pub cutover_begins : (cutover : CutOver) (call : CutOverCall) → Free ≡ feed_call actors.Copy (Call (cutovers.asked_in cutover call))
cutover_begins cutover cutting.Unlock = refl
cutover_begins cutover call = refl

pub copier_makes : (journal : List Entry) (copier : Copier) (call : CopyCall) → Free ≡ feed_call actors.Lock (Call (copiers.asked_in journal copier call))
copier_makes journal copier copying.Commit = refl
copier_makes journal copier call = refl

-- the applier begins neither
pub applier_begins : (journal : List Entry) (applier : Applier) → Free ≡ feed_call actors.Copy (Call (appliers.next journal applier))
unfolding appliers.next
applier_begins journal applier = by applier.step where
  at : (doing : Option Doing) → Free ≡ feed_call actors.Copy (Call (appliers.statement_result applier doing))
  at None = refl
  at (Some doing) = refl

  by : (step : ApplyStep) → Free ≡ feed_call actors.Copy (Call (appliers.call_at journal applier step))
  by applying.Reading = refl
  by (applying.Beginning batch) = refl
  by (applying.Applying batch done part) = at (appliers.doing_at journal applier (applying.Applying batch done part))
  by (applying.Committing batch) = refl

pub applier_makes : (journal : List Entry) (applier : Applier) → Free ≡ feed_call actors.Lock (Call (appliers.next journal applier))
unfolding appliers.next
applier_makes journal applier = by applier.step where
  at : (doing : Option Doing) → Free ≡ feed_call actors.Lock (Call (appliers.statement_result applier doing))
  at None = refl
  at (Some doing) = refl

  by : (step : ApplyStep) → Free ≡ feed_call actors.Lock (Call (appliers.call_at journal applier step))
  by applying.Reading = refl
  by (applying.Beginning batch) = refl
  by (applying.Applying batch done part) = at (appliers.doing_at journal applier (applying.Applying batch done part))
  by (applying.Committing batch) = refl
