-- What the rules ask of the turns before. (This project's rule.)
use Rattle.std.specs.Prelude.{◌≡◌, ℕ, ◌==◌, ◌&&◌, Bool, true, false, if◌then◌else◌, List, [], ◌∷◌, length, Option, Some, None}
use Rattle.base_script.specs.declared.actor.Actor.{Actor}
use Rattle.base_script.specs.declared.actor.Actor.TheVariants.{Op}
use Rattle.base_script.specs.declared.loss.Loss.{Loss}
use Rattle.base_script.specs.declared.loss.Loss.TheVariants.{Nth, Turn}
use Rattle.tool_program.specs.JournalWords.KeptPlans.{or_first}
use Rattle.run_audit.specs.declared.line.TraceLine.{TraceLine}
use Rattle.run_audit.specs.Rules.{commands_in, has_altered}
use Rattle.run_judge.specs.declared.actor_marks.ActorMarks.{ActorMarks}
use Rattle.run_judge.specs.declared.turns_seen.TurnsSeen.{TurnsSeen}
use Rattle.run_judge.specs.ActorMarks.{marks_at, marks_of, one_more}

-- the actor whose session this loss takes away in this turn, by what is kept of the actors
abbrev pub cut_by : List ActorMarks → ℕ → Loss → Option Actor
cut_by actors turn (Nth actor n side) = None
cut_by actors turn (Turn number actor) = if (number == turn) && (marks_of actors actor).has_session then Some actor else None

unfoldable pub cut_among : List ActorMarks → ℕ → List Loss → Option Actor
cut_among actors turn [] = None
cut_among actors turn (loss ∷ losses) = or_first (cut_by actors turn loss) (cut_among actors turn losses)

abbrev pub is_op : Actor → Bool
is_op Op = true
is_op actor = false

-- how many commands were taken after a turn, where it took one or not
abbrev pub commanded : Bool → ℕ → ℕ
commanded taken commands = if taken then one_more commands else commands

-- *Seen*: what is kept is what these turns say
pub record IsSeen (before : List TraceLine) (seen : TurnsSeen) : Type 0 where
  pub turns : seen.turns ≡ length before
  pub actors : (actor : Actor) → marks_of seen.actors.items actor ≡ marks_at before actor
  pub commands : seen.commands ≡ commands_in before
  pub altered : seen.has_altered ≡ has_altered before
