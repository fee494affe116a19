-- What the setup asks, what the machines' next calls are for the tool, and when a checkpoint comes next.
use Rattle.std.proofs.Common.{◌≡◌, ℕ, refl, true, List, [], ◌∷◌, Option, Some, None, ap}
use Rattle.std.specs.Prelude.{codes, pos, is_some}
use Rattle.std.specs.Option.{option_map}
use Rattle.base_values.specs.declared.value.Value.{Value}
use Rattle.base_values.specs.declared.value.Value.TheVariants.{Num, Text}
use Rattle.tool_changelog.specs.declared.checkpoint.Reach.{Reach}
use Rattle.tool_changelog.specs.Checkpoints.{checkpoint_value, checkpoint_row}
use Rattle.plan_data.specs.PlanData.{PlanData}
use Rattle.server_model.specs.declared.request.Request.{Request}
use Rattle.server_model.specs.declared.entry.Entry.{Entry}
use Rattle.server_model.specs.declared.entry.Asked.TheVariants.{Call}
use Rattle.tool_program.specs.ChunkCopier.CopyCalls as copiers
use Rattle.tool_program.specs.declared.chunk_copier.calls.CopyCall.{CopyCall}
use Rattle.tool_program.specs.CutoverCore.CutOverCalls as cutovers
use Rattle.tool_program.specs.declared.cutover_core.calls.CutOverCall.{CutOverCall}
use Rattle.tool_program.specs.declared.note_writer.notes.NoteStep.{NoteStep}
use Rattle.tool_program.specs.declared.note_writer.notes.NoteStep.TheVariants.{Waiting, Checking, Again}
use Rattle.tool_program.specs.NoteWriter.Notes.{checkpoint_next}
use Rattle.tool_program.specs.NoteWriter.NoteRows.{is_checking}
use Rattle.tool_program.specs.Programs.{calls}
use Rattle.tool_program.specs.Setups.{setup_call}
use Rattle.tool_program.specs.declared.tool_setup.setup.Setup.{Setup}
use Rattle.tool_program.specs.declared.tool_setup.setup.Setup.TheVariants.{Listing, Clearing, MakingLog, MakingGhost, Marking, Reaching}
use Rattle.tool_program.specs.Tools.{Work}
use Rattle.tool_program.specs.ToolSetup.Meanings.{setup_of}
use Rattle.tool_program.specs.ToolSetup.Meanings as setups
use Rattle.tool_state.specs.declared.next_call.NextCall.TheVariants.{Copy, CutOver}
use Rattle.tool_state.specs.NextCalls.{asked_in}

-- until it is over the setup has a call
pub sets_up : (plan : PlanData) (setup : Setup) → Some (Call (setups.asked_in plan setup)) ≡ calls (setup_call plan (setup_of setup))
sets_up plan Listing = refl
sets_up plan (Clearing left) = refl
sets_up plan MakingLog = refl
sets_up plan MakingGhost = refl
sets_up plan Marking = refl
sets_up plan (Reaching position) = refl

-- what a machine asks next is the tool's call
module _ (plan : PlanData) (journal : List Entry) (work : Work) (request : Option Request) where
  pub copies : (call : Option CopyCall) → option_map (copiers.asked_in journal work.copier) call ≡ request → option_map (asked_in plan journal work) (option_map Copy call) ≡ calls request
  copies None is = ap calls is
  copies (Some call) is = ap calls is

  pub cuts_over : (call : Option CutOverCall) → option_map (cutovers.asked_in work.cutover) call ≡ request → option_map (asked_in plan journal work) (option_map CutOver call) ≡ calls request
  cuts_over None is = ap calls is
  cuts_over (Some call) is = ap calls is

-- a checkpoint comes next where its value is short
pub checkpoint_due : (step : NoteStep) (position : ℕ) (reach : Reach) → is_checking step ≡ true → is_some (checkpoint_next step (checkpoint_row position reach)) ≡ is_some (checkpoint_value position reach)
unfolding checkpoint_row
checkpoint_due Checking position reach is = by (checkpoint_value position reach)
  where
    by : (value : Option Value) → is_some (option_map (λ value. Num (pos 0) ∷ Text (codes "checkpoint") ∷ value ∷ []) value) ≡ is_some value
    by None = refl
    by (Some value) = refl
checkpoint_due Waiting position reach is = absurd cc
checkpoint_due Again position reach is = absurd cc
