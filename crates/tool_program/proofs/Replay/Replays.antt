-- Two replays of a plan are one list as far as both go.
use Rattle.std.proofs.Common.{◌≡◌, ◌⊎◌, List, [], ◌∷◌, ◌++◌, refl, sym, ap, ◌∙◌, subst, inl, inr}
use Rattle.std.specs.Prelude.{length}
use Rattle.server_model.specs.Along.{Along}
use Rattle.server_model.specs.declared.entry.Entry.{Entry}
use Rattle.server_model.specs.Entries.{is_cut}
use Rattle.plan_data.specs.PlanData.{PlanData}
use Rattle.tool_program.specs.JournalWords.Journals.{IsAnswered, state_at}
use Rattle.tool_program.specs.JournalWords.Sessions.{live_session, IsNumbered, NumbersSessions}
use Rattle.tool_program.specs.JournalWords.KeptPlans.{IsPlanned, KeepsPlan}
use Rattle.tool_program.specs.Programs.{IsFollowed, Follows}
use Rattle.tool_program.specs.Orders.{next_actor, IsNext, ReplayOrder, IsReplay}
use Rattle.tool_program.specs.Replay.{ReplaysAgree, OneReplay}
use Rattle.tool_program.proofs.Replay.Turns.{IsTurn, one_turn}

all_turns : (plan : PlanData) (before journal : List Entry) → Along (λ some entry. IsAnswered (state_at plan some) entry) before journal → Along (IsPlanned plan) before journal → Along (IsFollowed plan) before journal
    → Along (λ some entry. IsNext (is_cut entry.asked) (next_actor plan some) entry.actor) before journal → Along (λ some entry. IsNumbered some entry entry.asked (live_session some entry.actor)) before journal → Along (IsTurn plan) before journal
all_turns plan before [] faithful planned follows order numbered = tt
all_turns plan before (entry ∷ journal) faithful planned follows order numbered =
    (record { answered = faithful.0; planned = planned.0; followed = follows.0; next = order.0; numbered = numbered.0 }, all_turns plan (before ++ entry ∷ []) journal faithful.1 planned.1 follows.1 order.1 numbered.1)

turns_of : (plan : PlanData) (journal : List Entry) → IsReplay plan journal → Along (IsTurn plan) [] journal
unfolding KeepsPlan Follows ReplayOrder NumbersSessions
turns_of plan journal is = all_turns plan [] journal is.faithful is.planned is.follows is.order is.numbered

abbrev Agrees : List Entry → List Entry → Type 0
Agrees one two = (rest : List Entry) × ((two ≡ one ++ rest) ⊎ (one ≡ two ++ rest))

more : (entry : Entry) (one two : List Entry) → Agrees one two → Agrees (entry ∷ one) (entry ∷ two)
more entry one two is = (is.0, by is.1) where
  by : (two ≡ one ++ is.0) ⊎ (one ≡ two ++ is.0) → (entry ∷ two ≡ entry ∷ one ++ is.0) ⊎ (entry ∷ one ≡ entry ∷ two ++ is.0)
  by (inl same) = inl (ap (λ (j : List Entry). entry ∷ j) same)
  by (inr same) = inr (ap (λ (j : List Entry). entry ∷ j) same)

agree : (plan : PlanData) (before one two : List Entry) → Along (IsTurn plan) before one → Along (IsTurn plan) before two → Agrees one two
agree plan before [] two a b = (two, inl refl)
agree plan before (entry ∷ one) [] a b = (entry ∷ one, inr refl)
agree plan before (entry ∷ one) (other ∷ two) a b =
    let same : entry ≡ other = one_turn plan before entry other a.0 b.0 in
    subst (λ (e : Entry). Agrees (entry ∷ one) (e ∷ two)) same
    (more entry one two (agree plan (before ++ entry ∷ []) one two a.1 (subst (λ (e : Entry). Along (IsTurn plan) (before ++ e ∷ []) two) (sym same) b.1)))

-- *Replays agree*
pub replays_agree : ReplaysAgree
replays_agree plan one two a b = agree plan [] one two (turns_of plan one a) (turns_of plan two b)

one_length : (plan : PlanData) (before one two : List Entry) → Along (IsTurn plan) before one → Along (IsTurn plan) before two → length one ≡ length two → one ≡ two
one_length plan before [] [] a b same = refl
one_length plan before [] (other ∷ two) a b same = absurd (cc)
one_length plan before (entry ∷ one) [] a b same = absurd (cc)
one_length plan before (entry ∷ one) (other ∷ two) a b same =
    let head : entry ≡ other = one_turn plan before entry other a.0 b.0 in
    let tail : one ≡ two = one_length plan (before ++ entry ∷ []) one two a.1 (subst (λ (e : Entry). Along (IsTurn plan) (before ++ e ∷ []) two) (sym head) b.1) (cc) in
    ap (λ (e : Entry). e ∷ one) head ∙ ap (λ (j : List Entry). other ∷ j) tail

-- *There is one replay*
pub one_replay : OneReplay
one_replay plan one two a b same = one_length plan [] one two (turns_of plan one a) (turns_of plan two b) same
