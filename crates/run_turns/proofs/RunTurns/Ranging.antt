-- The range of a table's keys is what a server answers of its ends, and it is read ahead of the turn that gets it.
use Rattle.std.proofs.Common.{◌≡◌, ℕ, Bool, true, false, ◌&&◌, List, [], ◌∷◌, Option, Some, None, refl, sym, subst}
use Rattle.std.specs.Prelude.{if◌then◌else◌}
use Rattle.std.proofs.lemmas.Bool.{true≢false, false≢true}
use Rattle.base_script.specs.declared.actor.Actor.{Actor}
use Rattle.base_script.specs.declared.actor.Actor.TheVariants.{Op, Insp, Copy, Apply, Lock, Ren, Client}
use Rattle.base_script.specs.declared.actor.Side.{Side}
use Rattle.base_values.specs.declared.value.Value.{Value}
use Rattle.base_values.specs.GhoSchema.Rows.{key_places}
use Rattle.table_store.specs.Databases.{TableRows, Database, find_table}
use Rattle.server_model.specs.declared.answer.Answer.{Answer}
use Rattle.server_model.specs.declared.answer.KeyRange.{KeyRange}
use Rattle.server_model.specs.declared.entry.Asked.{Asked}
use Rattle.server_model.specs.declared.entry.Asked.TheVariants.{Call, Poll, Command, Cut}
use Rattle.server_model.specs.PlainServer.{serves, given_at}
use Rattle.server_model.specs.States.{State}
use Rattle.server_model.specs.Chunks.{keys_of, ends_of}
use Rattle.server_model.specs.Effects.{of_table}
use Rattle.plan_data.specs.PlanData.{PlanData}
use Rattle.tool_program.specs.declared.tool_setup.setup.Setup.{Setup}
use Rattle.tool_program.specs.declared.tool_setup.setup.Setup.TheVariants.{Listing, Clearing, MakingLog, MakingGhost, Marking, Reaching}
use Rattle.tool_program.specs.JournalWords.Journals.{heard}
use Rattle.tool_program.specs.ToolSetup.Meanings.{range_reported}
use Rattle.tool_state.specs.ToolState.Sound.{IsRead}
use Rattle.run_turns.specs.declared.due_turns.migration_run.turn.Turn.{Turn}
use Rattle.run_turns.specs.DueTurns.DueCalls.Ranges.{range_of, range_of_table, range_in, ahead_of, is_inspector, is_heard, ahead_on, IsReported, IsReadAhead}

ends_range : (keys : List (List Value)) → range_reported (ends_of keys) ≡ range_of keys
ends_range [] = refl
ends_range (least ∷ keys) = refl

table_range : (table : Option TableRows) → range_reported (of_table table (λ t. ends_of (keys_of (key_places t.schema) t.rows))) ≡ range_of_table table
table_range None = refl
table_range (Some table) = ends_range (keys_of (key_places table.schema) table.rows)

pub range_by_ends : (name : List ℕ) (tables : Database) → range_reported (of_table (find_table name tables) (λ t. ends_of (keys_of (key_places t.schema) t.rows))) ≡ range_in name tables
range_by_ends name tables = table_range (find_table name tables)

-- WHAT A TURN READS

module _ (plan : PlanData) (tables : Database) (turn : Turn) (answer : Answer) where
  -- no other actor gets a range
  others : (actor : Actor) → is_inspector actor ≡ false → IsReported (ahead_of plan tables actor) answer → IsReported None answer
  others Insp is shown = absurd (true≢false is)
  others Op is shown = shown
  others Copy is shown = shown
  others Apply is shown = shown
  others Lock is shown = shown
  others Ren is shown = shown
  others (Client client) is shown = shown

  own : (actor : Actor) → is_inspector actor ≡ true → IsReported (ahead_of plan tables actor) answer → IsReported (range_in plan.table tables) answer
  own Insp is shown = shown
  own Op is shown = absurd (false≢true is)
  own Copy is shown = absurd (false≢true is)
  own Apply is shown = absurd (false≢true is)
  own Lock is shown = absurd (false≢true is)
  own Ren is shown = absurd (false≢true is)
  own (Client client) is shown = absurd (false≢true is)

  at_reaching : (inspects heard : Bool) → is_inspector turn.actor ≡ inspects → is_heard turn.side turn.asked ≡ heard → IsReported (ahead_of plan tables turn.actor) answer → (is_heard turn.side turn.asked ≡ false → IsReported None answer)
      → IsReported (if inspects && heard then range_in plan.table tables else None) answer
  at_reaching true true is hears whole quiet = own turn.actor is whole
  at_reaching true false is hears whole quiet = quiet hears
  at_reaching false heard is hears whole quiet = others turn.actor is whole

-- what is read ahead of a turn is the range that its answer has
pub ahead_reported : (plan : PlanData) (setup : Option Setup) (ahead : Option KeyRange) (tables : Database) (turn : Turn) (answer : Answer) → ahead ≡ ahead_on plan tables setup turn → IsReported (ahead_of plan tables turn.actor) answer → (is_heard turn.side turn.asked ≡ false → IsReported None answer)
    → IsReadAhead setup ahead answer
ahead_reported plan None ahead tables turn answer is whole quiet = tt
ahead_reported plan (Some Listing) ahead tables turn answer is whole quiet = tt
ahead_reported plan (Some (Clearing left)) ahead tables turn answer is whole quiet = tt
ahead_reported plan (Some MakingLog) ahead tables turn answer is whole quiet = tt
ahead_reported plan (Some MakingGhost) ahead tables turn answer is whole quiet = tt
ahead_reported plan (Some Marking) ahead tables turn answer is whole quiet = tt
ahead_reported plan (Some (Reaching position)) ahead tables turn answer is whole quiet =
    subst (λ (range : Option KeyRange). IsReported range answer) (sym is) (at_reaching plan tables turn answer (is_inspector turn.actor) (is_heard turn.side turn.asked) refl refl whole quiet)

-- an answer that isn't heard has no range
pub unheard_reported : (server : State) (session : ℕ) (side : Option Side) (asked : Asked) → is_heard side asked ≡ false → IsReported None (heard side (given_at side asked (serves server session asked).answer))
unheard_reported server session (Some side) asked none = tt
unheard_reported server session None (Call request) none = absurd (true≢false none)
unheard_reported server session None Poll none = absurd (true≢false none)
unheard_reported server session None (Command word) none = tt
unheard_reported server session None Cut none = tt

-- what is kept of it
pub read_ahead : (setup : Option Setup) (ahead range : Option KeyRange) (answer : Answer) → (IsReported ahead answer → range ≡ range_reported answer) → IsReadAhead setup ahead answer → IsRead setup range answer
read_ahead None ahead range answer is shown = tt
read_ahead (Some Listing) ahead range answer is shown = tt
read_ahead (Some (Clearing left)) ahead range answer is shown = tt
read_ahead (Some MakingLog) ahead range answer is shown = tt
read_ahead (Some MakingGhost) ahead range answer is shown = tt
read_ahead (Some Marking) ahead range answer is shown = tt
read_ahead (Some (Reaching position)) ahead range answer is shown = is shown
