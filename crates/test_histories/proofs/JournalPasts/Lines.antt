-- A client's next line in a turn: what became of it, and the script after it.
use Rattle.std.proofs.Common.{◌≡◌, Bool, true, false, List, [], ◌∷◌, drop, None, refl, sym, ap, ◌∙◌}
use Rattle.base_script.specs.declared.script.ScriptLine.{ScriptLine}
use Rattle.server_model.specs.declared.entry.Entry.{Entry}
use Rattle.server_model.specs.declared.transaction.Mark.{Mark}
use Rattle.tool_program.specs.JournalWords.Clients as clients
use Rattle.tool_program.specs.JournalWords.Clients.{Reached, became_in, client_after, left_after}
use Rattle.run_actors.specs.ClientTurns.ActorStates.{IsReached, heard_reply, line_outcome_as}
use Rattle.run_actors.specs.declared.client_turns.actor_state.ClientState.{ClientState}
use Rattle.run_actors.specs.declared.client_turns.outcome.LineOutcome.{LineOutcome}
use Rattle.run_actors.specs.declared.client_turns.outcome.LineOutcome.TheVariants.{Marked}
use Rattle.run_actors.proofs.ClientTurns.Heard.{became_with, heard_is}

-- what became of it, by its mark and the reply that was heard
pub became_is : (waits : Bool) (entry : Entry) (outcome : LineOutcome) → outcome ≡ line_outcome_as (became_in waits entry.asked entry.side entry.answer entry.missed)
    → became_in waits entry.asked entry.side entry.answer entry.missed ≡ became_with (heard_reply entry.asked entry.side entry.answer) outcome
became_is waits entry outcome is =
    heard_is waits entry.asked entry.side entry.answer entry.missed ∙ ap (became_with (heard_reply entry.asked entry.side entry.answer)) (sym is)

-- the place after it
pub place_is : (script : List ScriptLine) (old new : ClientState) (mark : Mark) → ((client : Reached) (became : clients.Became) → Marked mark ≡ line_outcome_as became → IsReached script old client → IsReached script new (client_after became client))
    → (line : ScriptLine) (lines : List ScriptLine) → drop old.place script ≡ line ∷ lines → drop new.place script ≡ left_after old.is_inside mark line lines
place_is script old new mark becomes line lines is = by old.is_inside refl where
  by : (b : Bool) → old.is_inside ≡ b → drop new.place script ≡ left_after b mark line lines
  by true inside =
      let client : Reached = record { left = line ∷ lines; begun = 0; lines = record { word = line.word; mark = mark } ∷ []; replies = []; waits = old.waits; is_lost = old.is_lost } in
      sym (becomes client (clients.Marked mark None) refl (record { left = sym is; inside = sym inside; waits = refl; lost = refl })).left
  by false outside =
      let client : Reached = record { left = line ∷ lines; begun = 0; lines = []; replies = []; waits = old.waits; is_lost = old.is_lost } in
      sym (becomes client (clients.Marked mark None) refl (record { left = sym is; inside = sym outside; waits = refl; lost = refl })).left
