-- Who writes a checkpoint: the inspector alone, behind the setup, and the row is that of the tool as it is.
use Rattle.std.proofs.Common.{◌≡◌, ℕ, ◌+◌, Bool, true, false, cond, List, [], ◌∷◌, ◌++◌, Option, Some, None, refl, sym, ap, ◌∙◌}
use Rattle.std.proofs.lemmas.Bool.{true≢false}
use Rattle.std.proofs.lemmas.List.Sums.{fold-append}
use Rattle.base_script.specs.declared.actor.Actor.{Actor}
use Rattle.base_script.specs.declared.actor.Actor.TheVariants.{Op, Insp, Copy, Apply, Lock, Ren, Client}
use Rattle.base_script.specs.declared.statement.Statement.{Statement}
use Rattle.base_script.specs.declared.statement.Statement.TheVariants as statements
use Rattle.server_model.specs.declared.answer.Answer.{Answer}
use Rattle.server_model.specs.declared.answer.Answer.TheVariants as answers
use Rattle.server_model.specs.declared.entry.Asked.{Asked}
use Rattle.server_model.specs.declared.entry.Asked.TheVariants.{Call, Poll, Command, Cut}
use Rattle.server_model.specs.declared.entry.Entry.{Entry}
use Rattle.server_model.specs.declared.request.Request.{Request}
use Rattle.server_model.specs.declared.request.Request.TheVariants as requests
use Rattle.plan_data.specs.PlanData.{PlanData}
use Rattle.tool_changelog.specs.Heartbeats.{heartbeat_row}
use Rattle.tool_program.specs.declared.cutover_core.cutover.Clearing.{Clearing as Cleared}
use Rattle.tool_program.specs.declared.cutover_core.cutover.Clearing.TheVariants.{Looking, Drops}
use Rattle.tool_program.specs.declared.cutover_core.cutover.CutOver.{CutOver}
use Rattle.tool_program.specs.declared.cutover_core.cutover.Phase.{Phase}
use Rattle.tool_program.specs.declared.cutover_core.cutover.Phase.TheVariants.{Resting, Attempting, Ending, Finishing, Finished}
use Rattle.tool_program.specs.declared.cutover_core.cutover.Role.TheVariants.{Inspector}
use Rattle.tool_program.specs.declared.cutover_core.cutover.Stage.TheVariants.{Hinting, ReadingCounter, SettingCounter, Showing}
use Rattle.tool_program.specs.CutoverCore.Attempts as attempts
use Rattle.tool_program.specs.CutoverCore.Attempts.{clears, is_free}
use Rattle.tool_program.specs.declared.note_writer.notes.NoteStep.{NoteStep}
use Rattle.tool_program.specs.declared.note_writer.notes.NoteStep.TheVariants.{Waiting, Checking, Again}
use Rattle.tool_program.specs.declared.note_writer.notes.Notes.{Notes}
use Rattle.tool_program.specs.NoteWriter.Notes as notes
use Rattle.tool_program.specs.NoteWriter.Notes.{checkpoint_next, is_checkpoint, may_beat, notes_of, row_or_beat, writes}
use Rattle.tool_program.specs.Programs.{checkpoint_in, inspect_call}
use Rattle.tool_program.specs.Setups.{Setup, Listing, Clearing, MakingLog, MakingGhost, Marking, Reaching, Ready, setup_call}
use Rattle.tool_program.specs.Tools.{Tool, Work}
use Rattle.proof_journals.specs.Ghost.Rows.Moments.{Row}
use Rattle.proof_journals.specs.Turns.{reported_at}
use Rattle.proof_journals.proofs.Machine.Asking.{some_request}
use Rattle.proof_journals.proofs.Machine.Inspecting.{Inspects, inspects, notes_so, cuts_so}
use Rattle.proof_bounds.proofs.AttemptTurns.NextNotes.{beat_is}
use Rattle.proof_resume.specs.Reached.Checkpoints.{checkpoint_asked, checkpoint_written, if_done, last_checkpoint, or_earlier}

-- ONE TURN MORE

pub last_more : (journal : List Entry) (entry : Entry) → last_checkpoint (journal ++ entry ∷ []) ≡ or_earlier (last_checkpoint journal) (checkpoint_written entry)
unfolding last_checkpoint
last_more journal entry = fold-append (λ (last : Option Row) (one : Entry). or_earlier last (checkpoint_written one)) None journal (entry ∷ [])

-- what isn't done writes nothing
nothing_done : (reported : Option Answer) → if_done reported None ≡ None
nothing_done None = refl
nothing_done (Some (answers.Ok count)) = refl
nothing_done (Some answer) = refl

pub unasked : (entry : Entry) → checkpoint_asked entry.actor entry.asked ≡ None → checkpoint_written entry ≡ None
unasked entry none = ap (if_done (reported_at entry.side entry.answer entry.missed)) none ∙ nothing_done (reported_at entry.side entry.answer entry.missed)

-- a row that was written was asked for
done_row : (reported : Option Answer) (asked : Option Row) (row : Row) → if_done reported asked ≡ Some row → asked ≡ Some row
done_row None asked row is = absurd cc
done_row (Some (answers.Ok count)) asked row is = is
done_row (Some answer) asked row is = absurd cc

pub written_asked : (entry : Entry) (row : Row) → checkpoint_written entry ≡ Some row → checkpoint_asked entry.actor entry.asked ≡ Some row
written_asked entry row is = done_row (reported_at entry.side entry.answer entry.missed) (checkpoint_asked entry.actor entry.asked) row is

-- WHAT IS ASKED

-- the inspector calls a REPLACE of a checkpoint's row
pub record AsksCheckpoint (actor : Actor) (asked : Asked) (row : Row) : Type 0 where
  pub actor_is : actor ≡ Insp
  pub table : List ℕ
  pub columns : Option (List (List ℕ))
  pub drawn : Option ℕ
  pub asks : asked ≡ Call (requests.Do (statements.Replace table columns row drawn))
  pub checks : is_checkpoint row ≡ true

asks_statement : (statement : Statement) (row : Row) → checkpoint_asked Insp (Call (requests.Do statement)) ≡ Some row → AsksCheckpoint Insp (Call (requests.Do statement)) row
asks_statement (statements.Replace table columns other drawn) row is = by (is_checkpoint other) refl is where
  by : (b : Bool) → is_checkpoint other ≡ b → cond b (Some other) None ≡ Some row → AsksCheckpoint Insp (Call (requests.Do (statements.Replace table columns other drawn))) row
  by true checks some = let same : other ≡ row = cc in record { actor_is = refl; table = table; columns = columns; drawn = drawn; asks = ap (λ (r : Row). Call (requests.Do (statements.Replace table columns r drawn))) same; checks = ap is_checkpoint (sym same) ∙ checks }
  by false checks some = absurd cc
asks_statement statement row is = absurd cc

asks_request : (request : Request) (row : Row) → checkpoint_asked Insp (Call request) ≡ Some row → AsksCheckpoint Insp (Call request) row
asks_request (requests.Do statement) row is = asks_statement statement row is
asks_request request row is = absurd cc

asks_insp : (asked : Asked) (row : Row) → checkpoint_asked Insp asked ≡ Some row → AsksCheckpoint Insp asked row
asks_insp (Call request) row is = asks_request request row is
asks_insp Poll row is = absurd cc
asks_insp Cut row is = absurd cc
asks_insp (Command word) row is = absurd cc

pub asks_checkpoint : (actor : Actor) (asked : Asked) (row : Row) → checkpoint_asked actor asked ≡ Some row → AsksCheckpoint actor asked row
asks_checkpoint Insp asked row is = asks_insp asked row is
asks_checkpoint Op asked row is = absurd cc
asks_checkpoint Copy asked row is = absurd cc
asks_checkpoint Apply asked row is = absurd cc
asks_checkpoint Lock asked row is = absurd cc
asks_checkpoint Ren asked row is = absurd cc
asks_checkpoint (Client client) asked row is = absurd cc

-- NEITHER THE SETUP NOR THE CUT-OVER ASKS FOR ONE

abbrev Asked_none : Request → Type 0
Asked_none request = checkpoint_asked Insp (Call request) ≡ None

pub setup_unasked : (plan : PlanData) (setup : Setup) (request : Request) → setup_call plan setup ≡ Some request → checkpoint_asked Insp (Call request) ≡ None
setup_unasked plan Listing request call = some_request Asked_none _ request call refl
setup_unasked plan (Clearing left) request call = some_request Asked_none _ request call refl
setup_unasked plan MakingLog request call = some_request Asked_none _ request call refl
setup_unasked plan MakingGhost request call = some_request Asked_none _ request call refl
setup_unasked plan Marking request call = some_request Asked_none _ request call refl
setup_unasked plan (Reaching position) request call = some_request Asked_none _ request call refl
setup_unasked plan (Ready position range) request call = absurd cc

pub cutover_unasked : (cutover : CutOver) (request : Request) → attempts.next Inspector cutover ≡ Some request → checkpoint_asked Insp (Call request) ≡ None
unfolding attempts.next
cutover_unasked cutover request call = by cutover.phase call where
  cleared : (one : Cleared) → clears cutover.table one ≡ Some request → checkpoint_asked Insp (Call request) ≡ None
  cleared Looking call = some_request Asked_none _ request call refl
  cleared (Drops left) call = some_request Asked_none _ request call refl

  ends : (b : Bool) (one : Cleared) → cond b (clears cutover.table one) None ≡ Some request → checkpoint_asked Insp (Call request) ≡ None
  ends true one call = cleared one call
  ends false one call = absurd cc

  by : (phase : Phase) → attempts.inspector_call cutover phase ≡ Some request → checkpoint_asked Insp (Call request) ≡ None
  by (Attempting Hinting) call = some_request Asked_none _ request call refl
  by (Attempting (ReadingCounter drain)) call = some_request Asked_none _ request call refl
  by (Attempting (SettingCounter number drain)) call = some_request Asked_none _ request call refl
  by (Attempting Showing) call = some_request Asked_none _ request call refl
  by (Attempting stage) call = absurd cc
  by (Ending one) call = ends (is_free cutover.hold cutover.renamer_waits) one call
  by (Finishing one) call = cleared one call
  by Resting call = absurd cc
  by Finished call = absurd cc

-- THE ROW OF A NOTE

same_row : (table : List ℕ) (one other : Row) → writes table one ≡ writes table other → one ≡ other
same_row table one other both = cc

-- the checkpoint's row that comes next is of the tool as it is
note_row : (plan : PlanData) (found : Option Row) (now : Notes) (row : Row) → notes.next plan found now ≡ Some (writes plan.table row) → is_checkpoint row ≡ true → found ≡ Some row
unfolding notes.next
note_row plan found now row next checks = by (checkpoint_next now.step found) refl next where
  is_found : (step : NoteStep) (one : Row) → checkpoint_next step found ≡ Some one → found ≡ Some one
  is_found Checking one some = some
  is_found Waiting one some = absurd cc
  is_found Again one some = absurd cc

  beats : (b : Bool) → cond b (Some (writes plan.table (heartbeat_row (now.begun + 1)))) None ≡ Some (writes plan.table row) → found ≡ Some row
  beats true some = absurd (true≢false (sym checks ∙ ap is_checkpoint (sym (same_row plan.table (heartbeat_row (now.begun + 1)) row (let same : writes plan.table (heartbeat_row (now.begun + 1)) ≡ writes plan.table row = cc in same))) ∙ beat_is (now.begun + 1)))
  beats false some = absurd cc

  by : (one : Option Row) → checkpoint_next now.step found ≡ one → row_or_beat one plan now ≡ Some (writes plan.table row) → found ≡ Some row
  by None none some = beats (may_beat plan.options.notes plan.options.note_every now) some
  by (Some one) is some = is_found now.step one is ∙ ap Some (same_row plan.table one row (let same : writes plan.table one ≡ writes plan.table row = cc in same))

-- *The checkpoint's row that the inspector asks to write* is that of the tool as it is.
pub inspected_row : (plan : PlanData) (journal : List Entry) (tool : Tool) (work : Work) (request : Request) (row : Row) → inspect_call plan journal tool work ≡ Some request → checkpoint_asked Insp (Call request) ≡ Some row → checkpoint_in journal work ≡ Some row
inspected_row plan journal tool work request row call asks = by (inspects plan journal tool work request call) where
  by : Inspects plan journal tool work request → checkpoint_in journal work ≡ Some row
  by (cuts_so off next) = absurd (let no : None ≡ Some row = sym (cutover_unasked work.cutover request next) ∙ asks in cc)
  by (notes_so note resting going next) = note_row plan (checkpoint_in journal work) (notes_of journal) row (next ∙ ap Some is_write) checked.checks where
    checked : AsksCheckpoint Insp (Call request) row
    checked = asks_checkpoint Insp (Call request) row asks

    same_call : (one other : Request) → Call one ≡ Call other → one ≡ other
    same_call one other both = cc

    own_row : note.row ≡ row
    own_row =
        let both : writes plan.table note.row ≡ requests.Do (statements.Replace checked.table checked.columns row checked.drawn) = sym note.is ∙ same_call request (requests.Do (statements.Replace checked.table checked.columns row checked.drawn)) checked.asks in
        cc

    is_write : request ≡ writes plan.table row
    is_write = note.is ∙ ap (writes plan.table) own_row
