-- The row of a note that comes next: it comes in its turn, and fits the changelog.
use Rattle.std.proofs.Common.{◌≡◌, ◌≤◌, ◌<◌, ℕ, ◌+◌, pos, ◌==◌, Bool, true, false, cond, codes, ◌||◌, List, [], ◌∷◌, Option, Some, None, refl, sym, ap, subst, arith}
use Rattle.std.specs.Prelude.{nat_le, nat_lt}
use Rattle.std.specs.Option.{option_map}
use Rattle.std.proofs.lemmas.Bool.{and_parts}
use Rattle.std.proofs.lemmas.Bool.Decides.{nat_tests}
use Rattle.std.proofs.lemmas.Option.{same_Some}
use Rattle.base_values.specs.declared.value.Value.{Value}
use Rattle.base_values.specs.declared.value.Value.TheVariants.{Num, Text}
use Rattle.server_model.specs.declared.request.Request.{Request}
use Rattle.plan_data.specs.PlanData.{PlanData}
use Rattle.tool_changelog.specs.Checkpoints.{checkpoint_row, checkpoint_value}
use Rattle.tool_changelog.specs.Heartbeats.{heartbeat_row}
use Rattle.tool_changelog.specs.declared.checkpoint.Reach.{Reach}
use Rattle.tool_program.specs.declared.note_writer.notes.NoteStep.{NoteStep}
use Rattle.tool_program.specs.declared.note_writer.notes.NoteStep.TheVariants.{Waiting, Checking, Again}
use Rattle.tool_program.specs.declared.note_writer.notes.Notes.{Notes}
use Rattle.tool_program.specs.NoteWriter.Notes as notes
use Rattle.tool_program.specs.NoteWriter.Notes.{checkpoint_next, is_again, is_checkpoint, may_beat, row_or_beat, writes}
use Rattle.proof_bounds.specs.AttemptTurns.Attempts.{most_notes}
use Rattle.proof_bounds.specs.Notes.{Comes}
use Rattle.proof_bounds.proofs.AttemptTurns.NoteRows.{IsFitNote, beat_fits, check_fits}

pub record NextRow (plan : PlanData) (now : Notes) (request : Request) : Type 0 where
  pub row : List Value
  pub is : request ≡ writes plan.table row
  pub comes : Comes plan now (is_checkpoint row)
  pub fits : plan.options.notes ≤ most_notes → IsFitNote row

pub beat_is : (number : ℕ) → is_checkpoint (heartbeat_row number) ≡ false
unfolding heartbeat_row
beat_is number = grind (arith, nat_tests)

check_is : (position : ℕ) (reach : Reach) (row : List Value) → checkpoint_row position reach ≡ Some row → is_checkpoint row ≡ true
unfolding checkpoint_row
check_is position reach row is = by (checkpoint_value position reach) is where
  by : (value : Option Value) → option_map (λ (v : Value). Num (pos 0) ∷ Text (codes "checkpoint") ∷ v ∷ []) value ≡ Some row → is_checkpoint row ≡ true
  by None some = absurd cc
  by (Some value) some = ap is_checkpoint (sym (same_Some (Num (pos 0) ∷ Text (codes "checkpoint") ∷ value ∷ []) row some))

pub next_row : (plan : PlanData) (position : ℕ) (reach : Reach) (now : Notes) (request : Request) → notes.next plan (checkpoint_row position reach) now ≡ Some request → NextRow plan now request
unfolding notes.next
next_row plan position reach now request next = by (checkpoint_next now.step (checkpoint_row position reach)) refl next where
  beat : List Value
  beat = heartbeat_row (now.begun + 1)

  -- a heartbeat
  beats : (b : Bool) → may_beat plan.options.notes plan.options.note_every now ≡ b → cond b (Some (writes plan.table beat)) None ≡ Some request → NextRow plan now request
  beats true may some =
      let room : nat_lt now.begun plan.options.notes ≡ true = (and_parts (nat_lt now.begun plan.options.notes) (is_again now.step || now.begun == 0 || nat_le plan.options.note_every now.behind) may).0 in
      let less : now.begun < plan.options.notes = grind (arith, nat_tests, room) in
      record {
        row = beat;
        is = sym (same_Some (writes plan.table beat) request some);
        comes = subst (Comes plan now) (sym (beat_is (now.begun + 1))) less;
        fits = λ most. beat_fits (now.begun + 1) (omega arith) (omega (arith, less, most)) refl;
      }
  beats false may some = absurd cc

  -- a checkpoint
  checks : (step : NoteStep) (row : List Value) → checkpoint_next step (checkpoint_row position reach) ≡ Some row → (step ≡ Checking) × (checkpoint_row position reach ≡ Some row)
  checks Checking row some = (refl, some)
  checks Waiting row some = absurd cc
  checks Again row some = absurd cc

  by : (found : Option (List Value)) → checkpoint_next now.step (checkpoint_row position reach) ≡ found → row_or_beat found plan now ≡ Some request → NextRow plan now request
  by None none some = beats (may_beat plan.options.notes plan.options.note_every now) refl some
  by (Some row) found some =
      let parts = checks now.step row found in
      record {
        row = row;
        is = sym (same_Some (writes plan.table row) request some);
        comes = subst (Comes plan now) (sym (check_is position reach row parts.1)) parts.0;
        fits = λ most. check_fits position reach parts.1;
      }
