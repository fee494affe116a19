-- What the inspector asks behind the setup: a note's row while no attempt stands, else what the cut-over asks of it next.
use Rattle.std.proofs.Common.{◌≡◌, ℕ, ◌+◌, Bool, true, false, cond, List, Option, Some, None, refl, sym, ap, subst}
use Rattle.base_values.specs.declared.value.Value.{Value}
use Rattle.server_model.specs.declared.entry.Entry.{Entry}
use Rattle.server_model.specs.declared.request.Request.{Request}
use Rattle.plan_data.specs.PlanData.{PlanData}
use Rattle.tool_changelog.specs.Checkpoints.{checkpoint_row}
use Rattle.tool_changelog.specs.Heartbeats.{heartbeat_row}
use Rattle.tool_changelog.specs.declared.checkpoint.Reach.{Reach}
use Rattle.tool_program.specs.declared.note_writer.notes.NoteStep.{NoteStep}
use Rattle.tool_program.specs.declared.note_writer.notes.NoteStep.TheVariants.{Waiting, Checking, Again}
use Rattle.tool_program.specs.declared.note_writer.notes.Notes.{Notes}
use Rattle.tool_program.specs.NoteWriter.Notes as notes
use Rattle.tool_program.specs.NoteWriter.Notes.{writes, notes_of, may_beat, row_or_beat, checkpoint_next}
use Rattle.tool_program.specs.declared.cutover_core.cutover.Phase.{Phase}
use Rattle.tool_program.specs.declared.cutover_core.cutover.Phase.TheVariants.{Resting}
use Rattle.tool_program.specs.declared.cutover_core.cutover.Role.TheVariants.{Inspector}
use Rattle.tool_program.specs.CutoverCore.Attempts as cutovers
use Rattle.tool_program.specs.CutoverCore.CutOvers.{is_resting}
use Rattle.tool_program.specs.Programs.{checkpoint_in, reach_in, inspect_call}
use Rattle.tool_program.specs.Tools.{Work, Tool, is_reverting}
use Rattle.proof_journals.specs.Machine.Machines.{inspector_asks}
use Rattle.proof_journals.proofs.Machine.Asking.{some_request, EndsFree, inspector_next}

-- A NOTE'S ROW

-- a heartbeat's row, or a checkpoint's
pub data IsNoteRow (row : List Value) : Type 0 where
  beats_so : (number : ℕ) → row ≡ heartbeat_row number → IsNoteRow row
  checks_so : (position : ℕ) (reach : Reach) → checkpoint_row position reach ≡ Some row → IsNoteRow row

-- it writes such a row into the changelog
pub record IsNote (table : List ℕ) (request : Request) : Type 0 where
  pub row : List Value
  pub kind : IsNoteRow row
  pub is : request ≡ writes table row

pub note_next : (plan : PlanData) (position : ℕ) (reach : Reach) (now : Notes) (request : Request) → notes.next plan (checkpoint_row position reach) now ≡ Some request → IsNote plan.table request
unfolding notes.next
note_next plan position reach now request is = by (checkpoint_next now.step (checkpoint_row position reach)) refl is where
  checks : (step : NoteStep) (row : List Value) → checkpoint_next step (checkpoint_row position reach) ≡ Some row → checkpoint_row position reach ≡ Some row
  checks Checking row some = some
  checks Waiting row some = absurd cc
  checks Again row some = absurd cc

  beats : (b : Bool) → cond b (Some (writes plan.table (heartbeat_row (now.begun + 1)))) None ≡ Some request → IsNote plan.table request
  beats true some = record { row = heartbeat_row (now.begun + 1); kind = beats_so (now.begun + 1) refl; is = some_request (λ r. r ≡ writes plan.table (heartbeat_row (now.begun + 1))) _ request some refl }
  beats false some = absurd cc

  by : (row : Option (List Value)) → checkpoint_next now.step (checkpoint_row position reach) ≡ row → row_or_beat row plan now ≡ Some request → IsNote plan.table request
  by None none some = beats (may_beat plan.options.notes plan.options.note_every now) some
  by (Some row) is_row some = record { row = row; kind = checks_so position reach (checks now.step row is_row); is = some_request (λ r. r ≡ writes plan.table row) _ request some refl }

-- WHAT THE INSPECTOR ASKS

-- a note while no attempt stands, nothing is reverted and no RENAME was done; else what the cut-over asks
pub data Inspects (plan : PlanData) (journal : List Entry) (tool : Tool) (work : Work) (request : Request) : Type 0 where
  notes_so : IsNote plan.table request → work.cutover.phase ≡ Resting → is_reverting tool.reason ≡ false → notes.next plan (checkpoint_in journal work) (notes_of journal) ≡ Some request → Inspects plan journal tool work request
  cuts_so : is_resting work.cutover.phase ≡ false → cutovers.next Inspector work.cutover ≡ Some request → Inspects plan journal tool work request

pub resting_is : (phase : Phase) → is_resting phase ≡ true → phase ≡ Resting
resting_is Resting is = refl
resting_is phase is = absurd cc

pub inspects : (plan : PlanData) (journal : List Entry) (tool : Tool) (work : Work) (request : Request) → inspect_call plan journal tool work ≡ Some request → Inspects plan journal tool work request
inspects plan journal tool work request call = by (is_resting work.cutover.phase) refl call where
  next : Option Request
  next = notes.next plan (checkpoint_in journal work) (notes_of journal)

  noted : work.cutover.phase ≡ Resting → (b : Bool) → is_reverting tool.reason ≡ b → cond b None next ≡ Some request → Inspects plan journal tool work request
  noted resting true reverting some = absurd cc
  noted resting false going some = notes_so (note_next plan work.applier.position (reach_in journal work.copier) (notes_of journal) request some) resting going some

  by : (b : Bool) → is_resting work.cutover.phase ≡ b → cond b (cond (is_reverting tool.reason) None next) (cutovers.next Inspector work.cutover) ≡ Some request → Inspects plan journal tool work request
  by true resting some = noted (resting_is work.cutover.phase resting) (is_reverting tool.reason) refl some
  by false off some = cuts_so off some

pub inspects_or : (plan : PlanData) (journal : List Entry) (tool : Tool) (work : Work) (request : Request) (P : Type 0) → inspect_call plan journal tool work ≡ Some request → (IsNote plan.table request → work.cutover.phase ≡ Resting → P) → (cutovers.next Inspector work.cutover ≡ Some request → P) → P
inspects_or plan journal tool work request P call notes_then cuts_then = by (inspects plan journal tool work request call) where
  by : Inspects plan journal tool work request → P
  by (notes_so note resting going next) = notes_then note resting
  by (cuts_so off next) = cuts_then next

-- each is one of the inspector's requests, and at an attempt's end it comes where the locker has nothing
pub inspector_called : (plan : PlanData) (journal : List Entry) (tool : Tool) (work : Work) (request : Request) → inspect_call plan journal tool work ≡ Some request → (inspector_asks request ≡ true) × EndsFree work.cutover.phase work.cutover.hold
inspector_called plan journal tool work request call = by (inspects plan journal tool work request call) where
  by : Inspects plan journal tool work request → (inspector_asks request ≡ true) × EndsFree work.cutover.phase work.cutover.hold
  by (notes_so note resting going next) = (ap inspector_asks note.is, subst (λ (p : Phase). EndsFree p work.cutover.hold) (sym resting) tt)
  by (cuts_so off next) = inspector_next work.cutover request next
