-- Where some actor is ready a replay has a next one.
use Rattle.std.proofs.Common.{◌≡◌, Bool, true, false, cond, ◌||◌, List, [], ◌∷◌, Option, Some, None, refl, ap}
use Rattle.std.specs.List.{list_any}
use Rattle.std.proofs.lemmas.Bool.{false≢true}
use Rattle.base_script.specs.declared.actor.Actor.{Actor}
use Rattle.tool_program.specs.Orders.{actors, may_go, Queue, Found, first_ready, from_pass, from_round, from_words, chosen, queue_at, actor_of, next_actor}
use Rattle.proof_feeds.proofs.Holding.{someone_may_go}
use Rattle.proof_feeds.specs.Laws.{ReadyRunsGoOn}

first_found : (ready : Actor → Bool) (all : List Actor) → list_any ready all ≡ true → (found : Found) × (first_ready ready all ≡ Some found)
unfolding first_ready
first_found ready [] some = absurd (false≢true some)
first_found ready (actor ∷ others) some = by (ready actor) some (first_found ready others) where
  by : (b : Bool) → (b || list_any ready others) ≡ true → (list_any ready others ≡ true → (found : Found) × (first_ready ready others ≡ Some found)) → (found : Found) × (cond b (Some (record { actor = actor; following = others })) (first_ready ready others) ≡ Some found)
  by true some rest = (record { actor = actor; following = others }, refl)
  by false some rest = rest some

pass_goes : (ready : Actor → Bool) (all : List Actor) → list_any ready all ≡ true → (actor : Actor) × (actor_of (from_pass (first_ready ready all)) ≡ Some actor)
pass_goes ready all some = let found = first_found ready all some in (found.0.actor, ap (λ (f : Option Found). actor_of (from_pass f)) found.1)

round_goes : (ready : Actor → Bool) (all : List Actor) → list_any ready all ≡ true → (found : Option Found) → (actor : Actor) × (actor_of (from_round ready all found) ≡ Some actor)
round_goes ready all some None = pass_goes ready all some
round_goes ready all some (Some found) = (found.actor, refl)

words_go : (ready : Actor → Bool) (all : List Actor) → list_any ready all ≡ true → (queue : Queue) (found : Option Found) → (actor : Actor) × (actor_of (from_words ready all queue found) ≡ Some actor)
words_go ready all some queue None = round_goes ready all some (first_ready ready queue.round)
words_go ready all some queue (Some found) = (found.actor, refl)

-- *Ready runs go on*
pub goes_on : ReadyRunsGoOn
unfolding next_actor chosen
goes_on plan journal some = words_go (may_go plan journal) (actors plan) (someone_may_go plan journal some) (queue_at plan journal) (first_ready (may_go plan journal) (queue_at plan journal).words)
