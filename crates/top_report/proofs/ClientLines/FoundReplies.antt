-- A client's replies, as the walk through the journal finds them.
use Rattle.std.proofs.Common.{◌≡◌, ℕ, Bool, true, false, List, [], ◌∷◌, ◌++◌, Some, refl, sym, ap₂, subst}
use Rattle.base_script.specs.declared.actor.Actor.TheVariants.{Client}
use Rattle.base_script.specs.declared.script.ScriptLine.{ScriptLine}
use Rattle.server_model.specs.declared.entry.Entry.{Entry}
use Rattle.server_model.specs.Along.{gathered}
use Rattle.server_model.specs.Entries.{same_actor}
use Rattle.plan_data.specs.PlanData.{PlanData}
use Rattle.tool_program.specs.JournalWords.Clients.{client_at, script_of}
use Rattle.tool_program.specs.JournalWords.Histories.{NumberedReply, replied_in, replies_of}
use Rattle.top_report.specs.ClientLines.Walks.{Walk, new_walk, outcome_now, replies_from, walk_after}
use Rattle.top_report.proofs.ClientLines.Walking.{at_begin, other_turn, own_turn}
use Rattle.top_report.proofs.ClientLines.Numbered.{IsWalk, replied_same, walk_on, walk_self}

walk_further : (plan : PlanData) (number : ℕ) (before : List Entry) (entry : Entry) (entries : List Entry) (walk : Walk) (b : Bool) → same_actor entry.actor (Client number) ≡ b → IsWalk walk (client_at plan before number)
    → ((next : Walk) → IsWalk next (client_at plan (before ++ entry ∷ []) number) → gathered (replied_in plan number) (before ++ entry ∷ []) entries ≡ replies_from number next entries)
    → gathered (replied_in plan number) before (entry ∷ entries) ≡ replies_from number walk (entry ∷ entries)
unfolding replies_from
walk_further plan number before entry entries walk true is own others =
    let client = client_at plan before number in
    let next : IsWalk (walk_after (outcome_now walk entry) walk) (client_at plan (before ++ entry ∷ []) number) =
    subst (IsWalk (walk_after (outcome_now walk entry) walk)) (sym (own_turn plan before entry number is)) (walk_on walk client entry own) in
    rw is (ap₂ (λ (xs ys : List NumberedReply). xs ++ ys) (replied_same walk client entry own) (others (walk_after (outcome_now walk entry) walk) next))
walk_further plan number before entry entries walk false is own others =
    rw is (others walk (subst (IsWalk walk) (sym (other_turn plan before entry number is)) own))

walk_found : (plan : PlanData) (number : ℕ) (before entries : List Entry) (walk : Walk) → IsWalk walk (client_at plan before number) → gathered (replied_in plan number) before entries ≡ replies_from number walk entries
unfolding replies_from
walk_found plan number before [] walk own = refl
walk_found plan number before (entry ∷ entries) walk own = walk_further plan number before entry entries walk (same_actor entry.actor (Client number)) refl own (λ next is. walk_found plan number (before ++ entry ∷ []) entries next is)

-- A client's replies are those that its walk finds.
pub replies_found : (plan : PlanData) (journal : List Entry) (number : ℕ) (script : List ScriptLine) → script_of number plan ≡ Some script → replies_of plan journal number ≡ replies_from number (new_walk script) journal
unfolding replies_of
replies_found plan journal number script is = walk_found plan number [] journal (new_walk script) (subst (λ (w : Walk). IsWalk w (client_at plan [] number)) (at_begin plan number script is) (walk_self (client_at plan [] number)))
