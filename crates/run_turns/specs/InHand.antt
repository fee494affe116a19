-- *RENAMEs in hand*: a journal keeps a RENAME whole, also one that is lost before it is done. So that such a turn takes no memory, the
-- RENAME of the exchange is made when the run is opened, once for each loss of the plan. (This project's rule.)
use Rattle.std.specs.Prelude.{◌≡◌, ℕ, ◌≤◌, nat_lt, Bool, true, false, All, List, [], ◌∷◌, ◌++◌, length, count_by}
use Rattle.base_script.specs.declared.loss.Loss.{Loss}
use Rattle.base_script.specs.declared.loss.Loss.TheVariants.{Nth, Turn as AtTurn}
use Rattle.server_model.specs.declared.entry.Asked.{Asked}
use Rattle.server_model.specs.declared.entry.Asked.TheVariants.{Call}
use Rattle.server_model.specs.declared.entry.Entry.{Entry}
use Rattle.server_model.specs.declared.request.Request.{Request}
use Rattle.server_model.specs.declared.request.Request.TheVariants.{Rename}
use Rattle.server_model.specs.States.{State}
use Rattle.plan_data.specs.PlanData.{PlanData}
use Rattle.tool_program.specs.CutoverCore.Attempts.{exchange}
use Rattle.tool_program.specs.JournalWords.Journals.{turns_of}
use Rattle.tool_program.specs.JournalWords.Sessions.{live_session}
use Rattle.tool_program.specs.declared.cutover_core.calls.CutOverCall.TheVariants.{Exchange}
use Rattle.tool_state.specs.declared.next_call.NextCall.TheVariants.{CutOver}
use Rattle.run_state.specs.declared.next_asked.NextAsked.{NextAsked}
use Rattle.run_state.specs.declared.next_asked.NextAsked.TheVariants.{Tool}
use Rattle.run_turns.specs.declared.due_turns.migration_run.turn.Turn.{Turn}
use Rattle.run_turns.specs.DueTurns.MigrationRun.FreeTurns.{is_free_turn}

abbrev pub is_exchange : NextAsked → Bool
is_exchange (Tool (CutOver Exchange)) = true
is_exchange next = false

abbrev pub is_rename : Asked → Bool
is_rename (Call (Rename pairs)) = true
is_rename asked = false

-- the loss strikes a turn of its actor's that comes after these
abbrev pub is_left : List Entry → Loss → Bool
is_left journal (Nth actor n side) = nat_lt (turns_of actor journal) n
is_left journal (AtTurn number actor) = false

-- what is in hand is the exchange, as often at least as such a loss is left
pub record HasRenames (plan : PlanData) (journal : List Entry) (renames : List Request) : Type 0 where
  pub exchanges : All (λ request. request ≡ exchange plan.table) renames
  pub enough : count_by (is_left journal) plan.faults ≤ length renames

-- *What is left of them* once a turn is made is enough after it; and without it, where it may not be taken
pub record AreLeft (plan : PlanData) (journal : List Entry) (server : State) (turn : Turn) (renames : List Request) : Type 0 where
  pub taken : (entry : Entry) → entry.actor ≡ turn.actor → entry.asked ≡ turn.asked → HasRenames plan (journal ++ entry ∷ []) renames
  pub still : is_free_turn server (live_session journal turn.actor) turn ≡ false → HasRenames plan journal renames
