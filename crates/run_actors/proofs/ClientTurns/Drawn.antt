-- What is kept of a client is the same, whatever number its line drew.
use Rattle.std.proofs.Common.{◌≡◌, ℕ, true, List, [], ◌∷◌, Option, Some, None, refl, sym, ap, ◌∙◌}
use Rattle.base_script.specs.declared.script.ScriptLine.{ScriptLine}
use Rattle.server_model.specs.declared.transaction.Mark.{Mark}
use Rattle.server_model.specs.declared.transaction.Reply.{Reply}
use Rattle.tool_program.specs.JournalWords.Clients.{Reached, Became, Nothing, Waits, Marked, Broken, client_after, is_inside, lines_drawn, marked, with_draw}
use Rattle.tool_program.proofs.JournalWords.DrawnLines.{numbered_left, numbered_inside}
use Rattle.run_actors.specs.declared.client_turns.actor_state.ClientState.{ClientState}
use Rattle.run_actors.specs.ClientTurns.ActorStates.{IsReached, is_marked}

marked_numbered : (script : List ScriptLine) (state : ClientState) (client : Reached) (number : ℕ) (mark : Mark) (reply : Option Reply) (left : List ScriptLine) → client.left ≡ left → IsReached script state (marked client mark reply left) → IsReached script state (marked (with_draw (Some number) client) mark reply (lines_drawn number left))
marked_numbered script state client number mark reply [] is reached =
    record { left = ap (lines_drawn number) is ∙ sym is ∙ reached.left; inside = reached.inside; waits = reached.waits; lost = reached.lost }
marked_numbered script state client number mark reply (line ∷ lines) is reached =
    record {
      left = numbered_left (is_inside client.lines) number mark line lines ∙ reached.left;
      inside = sym (numbered_inside client number line.word mark) ∙ reached.inside;
      waits = reached.waits;
      lost = reached.lost;
    }

-- a line that draws gets its mark in that turn
pub turn_numbered : (script : List ScriptLine) (state : ClientState) (client : Reached) (draw : Option ℕ) (became : Became) → ((number : ℕ) → draw ≡ Some number → is_marked became ≡ true) → IsReached script state (client_after became client) → IsReached script state (client_after became (with_draw draw client))
turn_numbered script state client None became at reached = reached
turn_numbered script state client (Some number) Nothing at reached = absurd (let none : is_marked Nothing ≡ true = at number refl in cc)
turn_numbered script state client (Some number) Waits at reached = absurd (let none : is_marked Waits ≡ true = at number refl in cc)
turn_numbered script state client (Some number) (Marked mark reply) at reached = marked_numbered script state client number mark reply client.left refl reached
turn_numbered script state client (Some number) Broken at reached = absurd (let none : is_marked Broken ≡ true = at number refl in cc)
