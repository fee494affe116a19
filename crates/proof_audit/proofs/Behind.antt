-- A row that didn't fit behind the run is in its line.
use Rattle.std.proofs.Common.{◌≡◌, ℕ, ◌+◌, ◌-◌, ◌<◌, true, List, [], ◌∷◌, ◌++◌, length, Option, Some, None, refl, sym, ap, ◌∙◌, subst, append_assoc, arith}
use Rattle.std.specs.List.{slice_get}
use Rattle.std.proofs.Math.Seq.{drop-append_seam}
use Rattle.std.proofs.lemmas.Bool.{and_from}
use Rattle.std.proofs.lemmas.List.{take-append-drop}
use Rattle.std.proofs.lemmas.Option.{same_Some}
use Rattle.base_values.specs.declared.value.Value.{Value}
use Rattle.base_script.specs.declared.actor.Actor.{Actor}
use Rattle.base_script.specs.declared.actor.Actor.TheVariants.{Apply, Copy}
use Rattle.server_model.specs.Entries.{is_client}
use Rattle.server_model.specs.declared.entry.Asked.{Asked}
use Rattle.server_model.specs.declared.entry.Asked.TheVariants.{Call}
use Rattle.server_model.specs.declared.entry.Entry.{Entry}
use Rattle.server_model.specs.declared.outcome.Cause.{Cause}
use Rattle.server_model.specs.declared.outcome.Cause.TheVariants as causes
use Rattle.server_model.specs.declared.request.Request.{Request}
use Rattle.plan_data.specs.PlanData.{PlanData}
use Rattle.tool_program.specs.ChunkCopier.Copiers as copiers
use Rattle.tool_finish.specs.declared.stage.Stage.{Stage}
use Rattle.tool_finish.specs.declared.stage.Stage.TheVariants.{Copying, Applying}
use Rattle.tool_finish.specs.Finishes.{Asking, IsFinish, IsFinishTurn, calls, copies, next, stage_behind}
use Rattle.tool_finish.specs.WholeJournals.{IsUnfitBehind, StandsBehind, finish_in, row_at, run_in}
use Rattle.proof_journals.proofs.Ghost.Turns.{along_next}
use Rattle.run_audit.specs.Audits.{cause_holds, is_mover, is_refusal, is_unfit_at, line_at}
use Rattle.run_audit.specs.Lines.{line_of, lines_of}
use Rattle.proof_audit.specs.Wholes.{AreNewTools, IsWhole, MayGoOn}
use Rattle.proof_audit.proofs.Sessions.{IsLostRightly}
use Rattle.proof_audit.proofs.Verdicts.{line_there, refused_in_line}

-- ---- whose turn it is

copies_so : (request : Option Request) (one : Actor) (asked : Asked) → copies request ≡ Some (one, asked) → is_mover one ≡ true
copies_so None one asked is = absurd cc
copies_so (Some request) one asked is = subst (λ (p : Asking). is_mover p.0 ≡ true) (same_Some (Copy, Call request) (one, asked) is) refl

applies_so : (request : Request) (one : Actor) (asked : Asked) → calls Apply request ≡ Some (one, asked) → is_mover one ≡ true
applies_so request one asked is = subst (λ (p : Asking). is_mover p.0 ≡ true) (same_Some (Apply, Call request) (one, asked) is) refl

-- a row is converted by the copier and by the applier alone
pub mover_at : (plan : PlanData) (journal : List Entry) (stage : Stage) (key row : List Value) (one : Actor) (asked : Asked) → row_at plan journal stage key ≡ Some row → next plan journal stage ≡ Some (one, asked) → is_mover one ≡ true
unfolding next
mover_at plan journal (Copying copier applier) key row one asked is comes = copies_so (copiers.next journal copier) one asked comes
mover_at plan journal (Applying applier) key row one asked is comes = applies_so _ one asked comes
mover_at plan journal stage key row one asked is comes = absurd cc

-- ---- its turn in the journal

at_seam : (before : List Entry) (entry : Entry) (later : List Entry) → slice_get (before ++ entry ∷ later) (length before) ≡ Some entry
at_seam [] entry later = refl
at_seam (first ∷ before) entry later = at_seam before entry later

some_turns : (plan : PlanData) (run before : List Entry) (entry : Entry) (later : List Entry) → MayGoOn plan run (before ++ entry ∷ later) → AreNewTools plan run (before ++ entry ∷ later)
some_turns plan run [] entry later goes_on = goes_on
some_turns plan run (first ∷ before) entry later goes_on = goes_on

module _ (plan : PlanData) (journal : List Entry) (whole : IsWhole plan journal) (rightly : (turn : ℕ) (entry : Entry) → slice_get journal (turn - 1) ≡ Some entry → IsLostRightly entry) where
  abbrev run : List Entry
  run = run_in plan journal

  abbrev turns : List Entry
  turns = finish_in plan journal

  unfit_told : (turn : ℕ) (key : List Value) (column : List ℕ) (number : ℕ) → IsUnfitBehind plan run turns turn key column number → is_unfit_at number (line_at (lines_of journal) turn) ≡ true
  unfolding IsFinish
  unfit_told turn key column number is =
      ap (is_unfit_at number) (line_there journal turn is.entry some there)
      ∙ and_from (is_mover is.entry.actor) (is_refusal number (line_of is.entry).answer) moves (refused_in_line (is_client is.entry.actor) is.entry number (Some is.place) (rightly turn is.entry there) is.refused) where
        front : List Entry
        front = run ++ is.before

        some : 0 < turn
        some = let at : turn ≡ length front + 1 = is.turn_is in omega (arith, at)

        place : turn - 1 ≡ length front
        place = let at : turn ≡ length front + 1 = is.turn_is in omega (arith, at)

        splits : journal ≡ front ++ is.entry ∷ is.following
        splits = sym (take-append-drop plan.options.turn_limit journal) ∙ ap (λ (behind : List Entry). run ++ behind) is.turns_are ∙ sym (append_assoc run is.before (is.entry ∷ is.following))

        there : slice_get journal (turn - 1) ≡ Some is.entry
        there = ap (slice_get journal) place ∙ ap (λ (all : List Entry). slice_get all (length front)) splits ∙ at_seam front is.entry is.following

        are : AreNewTools plan run (is.before ++ is.entry ∷ is.following)
        are = some_turns plan run is.before is.entry is.following (subst (MayGoOn plan run) is.turns_are whole.goes_on)

        taken : IsFinishTurn plan run front is.entry
        taken = along_next (IsFinishTurn plan run) run is.before is.entry is.following are.finish

        moves : is_mover is.entry.actor ≡ true
        moves =
            mover_at plan front (stage_behind plan run is.before) key is.row is.entry.actor is.entry.asked is.concerned
            (ap (λ (behind : List Entry). next plan front (stage_behind plan run behind)) (sym (drop-append_seam run is.before)) ∙ taken.given)

  -- *The cause* of a new tool that reverted is in its line
  pub behind_told : (cause : Cause) → StandsBehind plan run turns cause → cause_holds plan (lines_of journal) cause ≡ true
  behind_told (causes.Unfit turn key column number) stands = unfit_told turn key column number stands
  behind_told (causes.Spent task tries) stands = absurd stands
  behind_told (causes.Panic turn) stands = absurd stands
