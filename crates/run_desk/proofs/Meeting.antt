-- What two passes have after a meeting.
use Rattle.std.proofs.Common.{◌≡◌, ◌⊎◌, ℕ, List, ◌∷◌, ◌++◌, ap, ap₂, ◌∙◌, subst}
use Rattle.run_desk.specs.declared.shared_state.Entry.{Entry}
use Rattle.run_desk.specs.declared.hand.Stage.TheVariants.{Rests}
use Rattle.run_desk.specs.declared.hand.Role.TheVariants.{Witness}
use Rattle.run_desk.specs.declared.hand.Hand.{Hand}
use Rattle.run_desk.specs.Steps.{Agree}
use Rattle.run_desk.specs.Turns.{StartsWith, longer}
use Rattle.run_desk.specs.Views.{worker_view, witnesses, compared}

module _ {O E : Type 0} (p o : O) (reported seen : List (Entry E)) (their_number number : ℕ) (their_own own : List (Entry E)) (theirs mine : List (Hand O E))
    (are_theirs : theirs ≡ worker_view p reported their_number their_own Rests) (are_mine : mine ≡ worker_view o seen number own Rests) where
  -- the seat that took in a witness of the other
  pub joined : witnesses theirs ++ mine ≡ record { opening = p; seen = reported; role = Witness } ∷ worker_view o seen number own Rests
  joined = ap₂ (λ (t m : List (Hand O E)). witnesses t ++ m) are_theirs are_mine

  -- the same once both were compared
  pub seen_longer : (before after : List (Hand O E)) → before ≡ witnesses theirs ++ mine → after ≡ compared before → after ≡ worker_view o (longer reported seen) number own Rests
  seen_longer before after is went = went ∙ ap compared (is ∙ joined)

  pub agreed : (before : List (Hand O E)) → before ≡ witnesses theirs ++ mine → Agree before → StartsWith reported seen ⊎ StartsWith seen reported
  agreed before is agree = subst Agree (is ∙ joined) agree
