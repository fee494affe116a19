-- What a journal keeps of calls of the tool that are lost before they are done.
use Rattle.std.proofs.Common.{◌≡◌, ℕ, ◌+◌, ◌==◌, Bool, true, false, List, [], ◌∷◌, Option, Some, None, refl, sym, ap, arith}
use Rattle.std.proofs.lemmas.Bool.Decides.{nat_tests}
use Rattle.std.specs.Prelude.{is_some, unwrap_or}
use Rattle.base_values.specs.declared.value.Value.{Value}
use Rattle.server_model.specs.declared.lost_calls.LostCall.TheVariants.{Replace, Other}
use Rattle.server_model.specs.LostCalls.{begins_with_zero, lost_of}
use Rattle.plan_data.specs.PlanData.{PlanData}
use Rattle.tool_changelog.specs.Checkpoints.{checkpoint_value, checkpoint_row}
use Rattle.tool_changelog.specs.declared.checkpoint.Reach.{Reach}
use Rattle.tool_changelog.specs.Heartbeats.{heartbeat_row}
use Rattle.tool_program.specs.NoteWriter.NoteRows.{asked_in}
use Rattle.tool_program.specs.ToolSetup.Meanings as setups
use Rattle.tool_program.specs.declared.note_writer.notes.NoteRow.TheVariants.{Heartbeat, Checkpoint}
use Rattle.tool_program.specs.declared.tool_setup.setup.Setup.{Setup}
use Rattle.tool_program.specs.declared.tool_setup.setup.Setup.TheVariants.{Listing, Clearing, MakingLog, MakingGhost, Marking, Reaching}

-- the setup says no statement
pub lost_setup : (plan : PlanData) (setup : Setup) → Some Other ≡ lost_of (setups.asked_in plan setup)
lost_setup plan Listing = refl
lost_setup plan (Clearing left) = refl
lost_setup plan MakingLog = refl
lost_setup plan MakingGhost = refl
lost_setup plan Marking = refl
lost_setup plan (Reaching position) = refl

-- a heartbeat's number is a million at least
pub lost_heartbeat : (plan : PlanData) (checkpoint : Option (List Value)) (number : ℕ) → Some (Replace false) ≡ lost_of (asked_in plan checkpoint (Heartbeat number))
unfolding heartbeat_row
lost_heartbeat plan checkpoint number = let some : (1000000 + number == 0) ≡ false = grind (arith, nat_tests) in ap (λ (b : Bool). Some (Replace b)) (sym some)

short_zero : (value : Option Value) (position : ℕ) (reach : Reach) → checkpoint_value position reach ≡ value → is_some value ≡ begins_with_zero (unwrap_or (checkpoint_row position reach) [])
unfolding checkpoint_row
short_zero None position reach is = rw is refl
short_zero (Some value) position reach is = rw is refl

-- a checkpoint's begins with 0, where it has one
pub lost_checkpoint : (plan : PlanData) (position : ℕ) (reach : Reach) → Some (Replace (is_some (checkpoint_value position reach))) ≡ lost_of (asked_in plan (checkpoint_row position reach) Checkpoint)
lost_checkpoint plan position reach = ap (λ (b : Bool). Some (Replace b)) (short_zero (checkpoint_value position reach) position reach refl)
