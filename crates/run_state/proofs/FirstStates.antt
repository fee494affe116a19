-- The states of the actors before the first turn, made one by one.
use Rattle.std.proofs.Common.{◌≡◌, ◌≤◌, ℕ, ◌+◌, List, [], ◌∷◌, ◌++◌, map, length, drop, Some, sym, ap, ◌∙◌, append-nil, append_assoc}
use Rattle.std.proofs.lemmas.List.{drop_all}
use Rattle.std.specs.List.{slice_get}
use Rattle.base_script.specs.declared.actor.Actor.{Actor}
use Rattle.run_actors.specs.declared.actor_state.ActorState.{ActorState}
use Rattle.run_state.specs.Books.{free_actor_state}
use Rattle.run_state.proofs.Clients.{left_here}

pub one_more : (actors : List Actor) (place : ℕ) (actor : Actor) (old new : List ActorState) → slice_get actors place ≡ Some actor → new ≡ old ++ free_actor_state actor ∷ []
    → old ++ map free_actor_state (drop place actors) ≡ map free_actor_state actors → new ++ map free_actor_state (drop (place + 1) actors) ≡ map free_actor_state actors
one_more actors place actor old new at grown so_far =
    ap (λ (states : List ActorState). states ++ map free_actor_state (drop (place + 1) actors)) grown
    ∙ append_assoc old (free_actor_state actor ∷ []) (map free_actor_state (drop (place + 1) actors))
    ∙ ap (λ (rest : List Actor). old ++ map free_actor_state rest) (sym (left_here actors place actor at))
    ∙ so_far

pub all_made : (actors : List Actor) (place : ℕ) (made : List ActorState) → length actors ≤ place → made ++ map free_actor_state (drop place actors) ≡ map free_actor_state actors → made ≡ map free_actor_state actors
all_made actors place made past so_far =
    sym (append-nil made) ∙ ap (λ (rest : List Actor). made ++ map free_actor_state rest) (sym (drop_all place actors past)) ∙ so_far
