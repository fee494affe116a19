-- Who has a turn that is due is an actor of the plan's.
use Rattle.std.proofs.Common.{◌≡◌, ℕ, true, List, Option, Some, None, refl, sym, ap, ◌∙◌}
use Rattle.std.specs.Prelude.{is_some, option_map}
use Rattle.base_script.specs.declared.actor.Actor.{Actor}
use Rattle.base_script.specs.declared.actor.Actor.TheVariants.{Op, Insp, Copy, Apply, Lock, Ren, Client}
use Rattle.base_script.specs.declared.script.ScriptLine.{ScriptLine}
use Rattle.server_model.specs.declared.entry.Asked.{Asked}
use Rattle.server_model.specs.declared.entry.Entry.{Entry}
use Rattle.plan_data.specs.PlanData.{PlanData}
use Rattle.tool_program.specs.JournalWords.Clients.{script_of, client_asks}
use Rattle.tool_program.specs.JournalWords.Sessions.{live_session}
use Rattle.tool_program.specs.Programs.{given}
use Rattle.run_state.specs.Books.{is_planned}
use Rattle.run_state.specs.declared.next_asked.NextAsked.{NextAsked}
use Rattle.run_state.specs.declared.run_state.RunState.{RunState}
use Rattle.run_state.specs.NextAsked.{asked_of}
use Rattle.run_state.proofs.Clients.{stranger_silent}
use Rattle.run_turns.specs.declared.due_turns.migration_run.turn.Turn.{Turn}
use Rattle.run_turns.specs.DueTurns.Due.{given_turn, own_turn, due}
use Rattle.run_turns.specs.declared.due.NextTurn.TheVariants.{Given}
use Rattle.run_turns.specs.DueTurns.NextTurns.{turn_in}
use Rattle.run_turns.proofs.DueTurns.Coming.{Comes, Cuts, Gives, comes, Lives, cut_lives}

client_planned : (plan : PlanData) (journal : List Entry) (client : ℕ) (asked : Asked) → client_asks plan journal client ≡ Some asked → is_some (script_of client plan) ≡ true
client_planned plan journal client asked is = by (script_of client plan) refl
  where
    by : (script : Option (List ScriptLine)) → script_of client plan ≡ script → is_some script ≡ true
    by (Some script) some = refl
    by None none = absurd (no (sym (stranger_silent plan journal client none) ∙ is))
      where
        no : None ≡ Some asked → ⊥
        no same = cc

pub given_planned : (plan : PlanData) (journal : List Entry) (actor : Actor) (asked : Asked) → given plan journal actor ≡ Some asked → is_planned plan actor ≡ true
unfolding given
given_planned plan journal (Client client) asked is = client_planned plan journal client asked is
given_planned plan journal Op asked is = refl
given_planned plan journal Insp asked is = refl
given_planned plan journal Copy asked is = refl
given_planned plan journal Apply asked is = refl
given_planned plan journal Lock asked is = refl
given_planned plan journal Ren asked is = refl

lives_planned : (plan : PlanData) (journal : List Entry) (actor : Actor) → ((client : ℕ) → script_of client plan ≡ None → live_session journal (Client client) ≡ None) → Lives journal actor → is_planned plan actor ≡ true
lives_planned plan journal (Client client) strangers lives = by (script_of client plan) refl
  where
    by : (script : Option (List ScriptLine)) → script_of client plan ≡ script → is_some script ≡ true
    by (Some script) some = refl
    by None none = absurd (no (sym (strangers client none) ∙ lives.is))
      where
        no : None ≡ Some lives.number → ⊥
        no same = cc
lives_planned plan journal Op strangers lives = refl
lives_planned plan journal Insp strangers lives = refl
lives_planned plan journal Copy strangers lives = refl
lives_planned plan journal Apply strangers lives = refl
lives_planned plan journal Lock strangers lives = refl
lives_planned plan journal Ren strangers lives = refl

-- *Whose turn is due*
pub due_planned : (plan : PlanData) (journal : List Entry) (actor : Actor) (turn : Turn) → ((client : ℕ) → script_of client plan ≡ None → live_session journal (Client client) ≡ None) → due plan journal actor ≡ Some turn → is_planned plan turn.actor ≡ true
due_planned plan journal actor turn strangers is = by (comes plan journal actor turn is)
  where
    by : Comes plan journal actor turn → is_planned plan turn.actor ≡ true
    by (Cuts at none cut) = lives_planned plan journal turn.actor strangers (cut_lives plan journal turn.actor at)
    by (Gives none same gives side) = given_planned plan journal turn.actor turn.asked gives

pub own_planned : (plan : PlanData) (journal : List Entry) (actor : Actor) (asked : Asked) → ((client : ℕ) → script_of client plan ≡ None → live_session journal (Client client) ≡ None) → Some (own_turn plan journal actor asked) ≡ due plan journal actor → is_planned plan actor ≡ true
own_planned plan journal actor asked strangers is = due_planned plan journal actor (own_turn plan journal actor asked) strangers (sym is)

-- what is given makes the turn
pub given_turns : (run_state : RunState) (actor : Actor) (next : Option NextAsked) (given : Option Asked) → option_map (asked_of run_state) next ≡ given → option_map (turn_in run_state actor) (option_map Given next) ≡ given_turn run_state.plan.now run_state.journal.items actor given
given_turns run_state actor None given is = ap (given_turn run_state.plan.now run_state.journal.items actor) is
given_turns run_state actor (Some next) given is = ap (given_turn run_state.plan.now run_state.journal.items actor) is
