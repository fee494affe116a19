-- Gathering the hands of passes, from the last to the first.
use Rattle.std.proofs.Common.{◌≡◌, List, [], ◌∷◌, ◌++◌, map, Some, sym, ap, ◌∙◌, append_assoc}
use Rattle.std.proofs.lemmas.List.{map-append}
use Rattle.std.proofs.lemmas.Option.{same_Some}
use Rattle.run_desk.specs.declared.hand.Stage.TheVariants.{Rests}
use Rattle.run_desk.specs.declared.hand.Hand.{Hand}
use Rattle.run_desk.specs.Turns.{PassView}
use Rattle.run_desk.specs.Views.{hand_of, known_opening, worker_view}

module _ {O E : Type 0} (opening : O) where
  -- the seat of a pass has its hand
  pub has_hand : (pass known : PassView O E) (o : O) (view : List (Hand O E)) → view ≡ worker_view o pass.seen pass.worker pass.own Rests → pass.opening ≡ known_opening view → pass ≡ known → known.opening ≡ Some opening → view ≡ hand_of opening known ∷ []
  has_hand pass known o view is reported same knows =
      let one : o ≡ opening = same_Some o opening (sym (ap known_opening is) ∙ sym reported ∙ ap (λ (p : PassView O E). p.opening) same ∙ knows) in
      is ∙ ap (λ (p : O). worker_view p pass.seen pass.worker pass.own Rests) one ∙ ap (λ (p : PassView O E). hand_of opening p ∷ []) same

  -- the hands of all passes, the last one's taken from the list
  pub last_hand : (passes rest : List (PassView O E)) (last : PassView O E) (mine : List (Hand O E)) → passes ≡ rest ++ last ∷ [] → mine ≡ hand_of opening last ∷ [] → map (hand_of opening) rest ++ mine ≡ map (hand_of opening) passes
  last_hand passes rest last mine is has = ap (λ (l : List (Hand O E)). map (hand_of opening) rest ++ l) has ∙ sym (map-append (hand_of opening) rest (last ∷ [])) ∙ ap (map (hand_of opening)) (sym is)

  -- the same, before hands that were gathered
  pub more_hands : (passes rest : List (PassView O E)) (last : PassView O E) (mine gathered all : List (Hand O E)) → passes ≡ rest ++ last ∷ [] → mine ≡ hand_of opening last ∷ [] → map (hand_of opening) passes ++ gathered ≡ all → map (hand_of opening) rest ++ (mine ++ gathered) ≡ all
  more_hands passes rest last mine gathered all is has before = sym (append_assoc (map (hand_of opening) rest) mine gathered) ∙ ap (λ (l : List (Hand O E)). l ++ gathered) (last_hand passes rest last mine is has) ∙ before
