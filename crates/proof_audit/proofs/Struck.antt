-- The lines of a journal that keeps its plan keep losses and commands.
use Rattle.std.proofs.Common.{◌≡◌, ◌≢◌, ℕ, ◌+◌, ◌==◌, ◌&&◌, Bool, true, false, not, List, [], ◌∷◌, length, is_some, cond, Option, Some, None, refl, ap, ◌∙◌}
use Rattle.std.proofs.lemmas.List.{length-map}
use Rattle.std.proofs.lemmas.Bool.{and_from}
use Rattle.base_script.specs.declared.actor.Actor.{Actor}
use Rattle.base_script.specs.declared.actor.Side.{Side}
use Rattle.base_script.specs.declared.actor.Side.TheVariants.{Before, After}
use Rattle.base_script.specs.declared.loss.Loss.{Loss}
use Rattle.base_script.specs.declared.loss.Loss.TheVariants.{Nth, Turn}
use Rattle.server_model.specs.declared.request.Request.TheVariants as requests
use Rattle.server_model.specs.declared.entry.Asked.{Asked}
use Rattle.server_model.specs.declared.entry.Asked.TheVariants.{Call, Poll, Command, Cut}
use Rattle.server_model.specs.declared.entry.Entry.{Entry}
use Rattle.server_model.specs.Along.{Along}
use Rattle.server_model.specs.Entries.{same_actor}
use Rattle.plan_data.specs.PlanData.{PlanData}
use Rattle.tool_program.specs.JournalWords.KeptPlans.{IsStruck, cut_among, cut_by, cut_due, or_first, side_due, struck_among}
use Rattle.tool_program.specs.JournalWords.Sessions.{live_session}
use Rattle.run_audit.specs.Lines.{asked_of, line_of, lines_of}
use Rattle.run_audit.specs.Rules.{due_cut, due_cut_among, has_session, is_cut, is_struck, next_turn, same_side, turns_in}
use Rattle.proof_audit.proofs.Sessions.{IsLostRightly, lines_tell_sessions, lines_tell_turns}
use Rattle.proof_journals.proofs.Actors.{same_actor_itself}

turn_alike : (before : List Entry) → next_turn (lines_of before) ≡ length before + 1
turn_alike before = ap (λ (n : ℕ). n + 1) (length-map before line_of)

-- losses between calls
cut_one : (before : List Entry) (loss : Loss) → ((actor : Actor) → has_session (lines_of before) actor ≡ is_some (live_session before actor)) → due_cut (lines_of before) loss ≡ cut_by before (length before + 1) loss
cut_one before (Nth actor n side) same = refl
cut_one before (Turn number actor) same =
    ap (λ (turn : ℕ). cond ((number == turn) && has_session (lines_of before) actor) (Some actor) None) (turn_alike before)
    ∙ ap (λ (b : Bool). cond ((number == length before + 1) && b) (Some actor) None) (same actor)

cuts_alike : (before : List Entry) (losses : List Loss) → ((actor : Actor) → has_session (lines_of before) actor ≡ is_some (live_session before actor)) → due_cut_among (lines_of before) losses ≡ cut_among before losses
unfolding due_cut_among cut_among
cuts_alike before [] same = refl
cuts_alike before (loss ∷ losses) same =
    ap (λ (one : Option Actor). or_first one (due_cut_among (lines_of before) losses)) (cut_one before loss same) ∙ ap (or_first (cut_by before (length before + 1) loss)) (cuts_alike before losses same)

same_side_itself : (side : Option Side) → same_side side side ≡ true
same_side_itself None = refl
same_side_itself (Some Before) = refl
same_side_itself (Some After) = refl

pub not_cut : (asked : Asked) → asked ≢ Cut → is_cut (asked_of asked) ≡ false
not_cut (Call (requests.Rename pairs)) other = refl
not_cut (Call request) other = refl
not_cut Poll other = refl
not_cut (Command word) other = refl
not_cut Cut other = absurd (other refl)

-- a turn is struck exactly so, by its line
struck_alike : (plan : PlanData) (before : List Entry) (entry : Entry) (due : Option Actor) → IsStruck plan before entry due → is_struck due (side_due plan before entry.actor) (line_of entry) ≡ true
struck_alike plan before entry (Some actor) struck =
    and_from (same_actor entry.actor actor) (is_cut (asked_of entry.asked)) (ap (λ (a : Actor). same_actor a actor) struck.0 ∙ same_actor_itself actor) (ap (λ (asked : Asked). is_cut (asked_of asked)) struck.1)
struck_alike plan before entry None struck =
    and_from (not (is_cut (asked_of entry.asked))) (same_side entry.side (side_due plan before entry.actor)) (ap not (not_cut entry.asked struck.0))
    (ap (λ (side : Option Side). same_side side (side_due plan before entry.actor)) struck.1 ∙ same_side_itself (side_due plan before entry.actor))

-- *Losses are kept*: by a turn that the plan allows, after turns in which sessions are lost rightly
pub losses_are_kept : (plan : PlanData) (before : List Entry) (entry : Entry) → Along (λ some one. IsLostRightly one) [] before → IsStruck plan before entry (cut_due plan before)
    → is_struck (due_cut_among (lines_of before) plan.faults) (struck_among entry.actor (turns_in entry.actor (lines_of before) + 1) plan.faults) (line_of entry) ≡ true
losses_are_kept plan before entry rightly struck =
    ap (λ (due : Option Actor). is_struck due (struck_among entry.actor (turns_in entry.actor (lines_of before) + 1) plan.faults) (line_of entry)) (cuts_alike before plan.faults (λ actor. lines_tell_sessions before actor rightly))
    ∙ ap (λ (n : ℕ). is_struck (cut_due plan before) (struck_among entry.actor (n + 1) plan.faults) (line_of entry)) (lines_tell_turns before entry.actor)
    ∙ struck_alike plan before entry (cut_due plan before) struck
