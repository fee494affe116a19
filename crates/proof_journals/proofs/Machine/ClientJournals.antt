-- Behind every journal that is faithful and follows the program each client and its session go together.
use Rattle.std.proofs.Common.{◌≡◌, ℕ, Bool, true, false, cond, List, [], ◌∷◌, ◌++◌, Option, Some, None, refl, sym, ap, ◌∙◌, subst}
use Rattle.base_script.specs.declared.actor.Actor.{Actor}
use Rattle.base_script.specs.declared.actor.Actor.TheVariants.{Client}
use Rattle.base_script.specs.declared.actor.Side.{Side}
use Rattle.server_model.specs.Along.{Along-keeps}
use Rattle.server_model.specs.declared.entry.Asked.{Asked}
use Rattle.server_model.specs.declared.entry.Asked.TheVariants.{Call, Poll, Command, Cut}
use Rattle.server_model.specs.declared.entry.Entry.{Entry}
use Rattle.server_model.specs.Entries.{same_actor}
use Rattle.plan_data.specs.PlanData.{PlanData}
use Rattle.tool_program.specs.JournalWords.Journals.{may_lose, IsFaithful, opens, state_at}
use Rattle.tool_program.specs.JournalWords.Sessions.{live_session}
use Rattle.tool_program.specs.JournalWords.Clients.{with_draw, Reached, client_at, client_after, became, became_in, client_asks}
use Rattle.tool_program.specs.Programs.{given, IsGiven, Follows}
use Rattle.proof_journals.proofs.Actors.{same_actor_is}
use Rattle.proof_journals.proofs.Linking.{client_more}
use Rattle.proof_journals.proofs.Joined.{reported_answer, reported_draw}
use Rattle.proof_journals.proofs.Machine.Drawn.{drawn_stands}
use Rattle.proof_journals.specs.Machine.Standings.{Standing, free, standing_of, answered, IsAbout}
use Rattle.proof_journals.specs.Machine.Scripts.{ScriptsFit}
use Rattle.proof_journals.proofs.Machine.Seated.{IsKnown, IsServed, known_begins, known_more, others_stand, own_stands, own_heard, own_missed, own_lost}
use Rattle.proof_journals.proofs.Machine.Clients.{ClientStands, client_next, line_stands, cut_stands, client_begins}
use Rattle.proof_journals.proofs.Machine.Journals.{IsRun, all_runs, client_commands}

pub record ClientsTogether (plan : PlanData) (journal : List Entry) : Type 0 where
  pub known : IsKnown plan journal
  pub each : (c : ℕ) → ClientStands (client_at plan journal c) (standing_of plan journal (Client c))

module _ (plan : PlanData) (journal : List Entry) (entry : Entry) (is : ClientsTogether plan journal) (run : IsRun plan journal entry) where
  abbrev more : List Entry
  more = journal ++ entry ∷ []

  served : IsServed plan journal entry
  served = record { answered = run.answered; seated = record { session = run.followed.session } }

  line_turn : (c : ℕ) → entry.actor ≡ Client c → client_asks plan journal c ≡ Some entry.asked → ClientStands (client_after (became (client_at plan journal c) entry) (client_at plan journal c)) (standing_of plan more (Client c))
  line_turn c same asks =
      line_stands (client_at plan journal c) (standing_of plan journal (Client c)) (standing_of plan more (Client c)) entry.asked entry.side entry.answer entry.missed (is.each c) (client_next plan journal c entry.asked asks)
      (λ request about. subst (λ (a : Actor). standing_of plan more a ≡ answered request entry.answer (standing_of plan journal a)) same (own_stands plan journal entry is.known served request (subst (λ (a : Actor). IsAbout request (standing_of plan journal a) entry.asked) (sym same) about)))
      (λ request about no_side. own_heard plan journal entry is.known served request (subst (λ (a : Actor). IsAbout request (standing_of plan journal a) entry.asked) (sym same) about) no_side) (λ side at_side. own_missed plan journal entry is.known served side at_side)

  -- a turn of this client
  own_turn : (c : ℕ) → entry.actor ≡ Client c → (asked : Asked) → entry.asked ≡ asked → IsGiven plan journal entry asked → ClientStands (client_after (became (client_at plan journal c) entry) (client_at plan journal c)) (standing_of plan more (Client c))
  unfolding given
  own_turn c same Cut asks gives =
      subst (λ (s : Standing). ClientStands (client_after (became (client_at plan journal c) entry) (client_at plan journal c)) s) (sym (subst (λ (a : Actor). standing_of plan more a ≡ free) same (own_lost plan journal entry is.known served asks)))
      (subst (λ (side : Option Side). ClientStands (client_after (became_in (client_at plan journal c).waits entry.asked side entry.answer entry.missed) (client_at plan journal c)) free) (sym (run.answered.sides (ap may_lose asks)))
      (subst (λ (asked : Asked). ClientStands (client_after (became_in (client_at plan journal c).waits asked None entry.answer entry.missed) (client_at plan journal c)) free) (sym asks)
      (cut_stands (client_at plan journal c) (standing_of plan journal (Client c)) entry.answer entry.missed (is.each c))))
  own_turn c same (Command word) asks gives = absurd (client_commands plan journal c word (subst (λ (a : Actor). given plan journal a ≡ Some (Command word)) same gives))
  own_turn c same (Call request) asks gives = line_turn c same (subst (λ (a : Actor). given plan journal a ≡ Some entry.asked) same (gives ∙ ap Some (sym asks)))
  own_turn c same Poll asks gives = line_turn c same (subst (λ (a : Actor). given plan journal a ≡ Some entry.asked) same (gives ∙ ap Some (sym asks)))

  each_more : (c : ℕ) → ClientStands (client_at plan more c) (standing_of plan more (Client c))
  each_more c = by (same_actor entry.actor (Client c)) refl where
    by : (b : Bool) → same_actor entry.actor (Client c) ≡ b → ClientStands (client_at plan more c) (standing_of plan more (Client c))
    by false differ =
        subst (λ (r : Reached). ClientStands r (standing_of plan more (Client c)))
        (sym (client_more plan journal entry c ∙ ap (λ (b : Bool). cond b (client_after (became (client_at plan journal c) entry) (with_draw entry.draw (client_at plan journal c))) (client_at plan journal c)) differ))
        (subst (ClientStands (client_at plan journal c)) (sym (others_stand plan journal entry is.known served (Client c) differ)) (is.each c))
    by true same =
        subst (λ (r : Reached). ClientStands r (standing_of plan more (Client c)))
        (sym (client_more plan journal entry c ∙ ap (λ (b : Bool). cond b (client_after (became (client_at plan journal c) entry) (with_draw entry.draw (client_at plan journal c))) (client_at plan journal c)) same))
        (drawn_stands (client_at plan journal c) entry.draw entry.side (opens entry (state_at plan journal)) entry.session entry.asked entry.answer entry.missed (standing_of plan more (Client c))
        (reported_answer (state_at plan journal) entry run.answered) (reported_draw (state_at plan journal) entry run.answered) (own_turn c (same_actor_is entry.actor (Client c) same) entry.asked refl run.followed.given))

  pub clients_more : ClientsTogether plan more
  clients_more = record { known = known_more plan journal entry is.known served; each = each_more }

pub clients_begin : (plan : PlanData) → ScriptsFit plan → ClientsTogether plan []
unfolding live_session client_at
clients_begin plan fit = record { known = known_begins plan; each = λ c. client_begins plan c fit }

-- *Clients and their sessions go together behind every journal*
pub all_clients : (plan : PlanData) (journal : List Entry) → ScriptsFit plan → IsFaithful plan journal → Follows plan journal → ClientsTogether plan journal
unfolding Follows
all_clients plan journal fit faithful follows =
    Along-keeps (IsRun plan) (ClientsTogether plan) (λ before entry run is. clients_more plan before entry is run) [] journal (all_runs plan [] journal faithful follows) (clients_begin plan fit)
