-- Whoever's turn comes next may go.
use Rattle.std.proofs.Common.{◌≡◌, ℕ, Bool, true, false, not, ◌&&◌, cond, List, [], ◌∷◌, ◌++◌, map, Option, Some, None, refl, sym, ap, ◌∙◌, subst}
use Rattle.std.specs.List.{find}
use Rattle.std.proofs.lemmas.Bool.{true≢false, and_parts}
use Rattle.base_script.specs.declared.actor.Actor.{Actor}
use Rattle.server_model.specs.declared.entry.Asked.{Asked}
use Rattle.server_model.specs.declared.entry.Asked.TheVariants.{Call, Poll, Command, Cut}
use Rattle.server_model.specs.declared.entry.Entry.{Entry}
use Rattle.plan_data.specs.PlanData.{PlanData}
use Rattle.tool_program.specs.Orders.{actor_of, actors, after_last, chosen, first_ready, from_pass, from_round, from_words, is_among, is_poll, is_ready_waiting, last_taken, may_go, may_go_idle, next_actor, or_else, owned, picked, queue_at, worker_actor, Choice, Found, Paired, Queue}
use Rattle.tool_program.specs.Programs.{given}
use Rattle.proof_feeds.proofs.Holding.{waiting_actors_may_go}

-- OF A REPLAY

first_is_ready : (ready : Actor → Bool) (all : List Actor) (found : Found) → first_ready ready all ≡ Some found → ready found.actor ≡ true
unfolding first_ready
first_is_ready ready [] found is = absurd (cc)
first_is_ready ready (actor ∷ others) found is = by (ready actor) refl is (first_is_ready ready others found)
  where
    by : (b : Bool) → ready actor ≡ b → cond b (Some (record { actor = actor; following = others })) (first_ready ready others) ≡ Some found → (first_ready ready others ≡ Some found → ready found.actor ≡ true) → ready found.actor ≡ true
    by true so same rest = let one : actor ≡ found.actor = cc in subst (λ (a : Actor). ready a ≡ true) one so
    by false so same rest = rest same

pass_ready : (ready : Actor → Bool) (all : List Actor) (found : Option Found) → first_ready ready all ≡ found → (choice : Choice) → from_pass found ≡ Some choice → ready choice.actor ≡ true
pass_ready ready all None is choice same = absurd (cc)
pass_ready ready all (Some found) is choice same = let one : found.actor ≡ choice.actor = cc in subst (λ (a : Actor). ready a ≡ true) one (first_is_ready ready all found is)

round_ready : (ready : Actor → Bool) (all round : List Actor) (found : Option Found) → first_ready ready round ≡ found → (choice : Choice) → from_round ready all found ≡ Some choice → ready choice.actor ≡ true
round_ready ready all round None is choice same = pass_ready ready all (first_ready ready all) refl choice same
round_ready ready all round (Some found) is choice same = pass_ready ready round (Some found) is choice same

words_ready : (ready : Actor → Bool) (all : List Actor) (queue : Queue) (found : Option Found) → first_ready ready queue.words ≡ found → (choice : Choice) → from_words ready all queue found ≡ Some choice → ready choice.actor ≡ true
words_ready ready all queue None is choice same = round_ready ready all queue.round (first_ready ready queue.round) refl choice same
words_ready ready all queue (Some found) is choice same = let one : found.actor ≡ choice.actor = cc in subst (λ (a : Actor). ready a ≡ true) one (first_is_ready ready queue.words found is)

pub chosen_goes : (plan : PlanData) (journal : List Entry) (queue : Queue) (choice : Choice) → chosen plan journal queue ≡ Some choice → may_go plan journal choice.actor ≡ true
unfolding chosen
chosen_goes plan journal queue choice is = words_ready (may_go plan journal) (actors plan) queue (first_ready (may_go plan journal) queue.words) refl choice is

pub next_goes : (plan : PlanData) (journal : List Entry) (actor : Actor) → next_actor plan journal ≡ Some actor → may_go plan journal actor ≡ true
unfolding next_actor
next_goes plan journal actor is = by (chosen plan journal (queue_at plan journal)) refl is where
  by : (choice : Option Choice) → chosen plan journal (queue_at plan journal) ≡ choice → actor_of choice ≡ Some actor → may_go plan journal actor ≡ true
  by None chooses is = absurd cc
  by (Some choice) chooses is = let same : choice.actor ≡ actor = cc in subst (λ (a : Actor). may_go plan journal a ≡ true) same (chosen_goes plan journal (queue_at plan journal) choice chooses)

-- OF A WORKER

find_passes : (test : Actor → Bool) (all : List Actor) (actor : Actor) → find test all ≡ Some actor → test actor ≡ true
find_passes test [] actor is = absurd cc
find_passes test (first ∷ all) actor is = by (test first) refl is (find_passes test all actor)
  where
    by : (b : Bool) → test first ≡ b → cond b (Some first) (find test all) ≡ Some actor → (find test all ≡ Some actor → test actor ≡ true) → test actor ≡ true
    by true so same rest = let one : first ≡ actor = cc in subst (λ (a : Actor). test a ≡ true) one so
    by false so same rest = rest same

-- whoever polls may go
poller_goes : (plan : PlanData) (journal : List Entry) (actor : Actor) → is_ready_waiting plan journal actor ≡ true → may_go plan journal actor ≡ true
poller_goes plan journal actor polls = by (given plan journal actor) refl polls
  where
    by : (asked : Option Asked) → given plan journal actor ≡ asked → is_poll asked ≡ true → may_go plan journal actor ≡ true
    by None gives polls = absurd cc
    by (Some (Call request)) gives polls = absurd cc
    by (Some Poll) gives polls = waiting_actors_may_go plan journal actor gives
    by (Some (Command word)) gives polls = absurd cc
    by (Some Cut) gives polls = absurd cc

picked_goes : (plan : PlanData) (journal : List Entry) (own : List Actor) (last : Option Actor) (actor : Actor) → picked plan journal own last ≡ Some actor → may_go plan journal actor ≡ true
picked_goes plan journal own last actor is =
    by (find (may_go plan journal) (after_last last own ++ own)) (find (λ one. not (is_among one own) && may_go_idle plan journal one) (actors plan)) (find (λ one. not (is_among one own) && is_ready_waiting plan journal one) (actors plan)) refl refl refl is
  where
    by : (first second third : Option Actor) → find (may_go plan journal) (after_last last own ++ own) ≡ first → find (λ one. not (is_among one own) && may_go_idle plan journal one) (actors plan) ≡ second
        → find (λ one. not (is_among one own) && is_ready_waiting plan journal one) (actors plan) ≡ third → or_else first (or_else second third) ≡ Some actor → may_go plan journal actor ≡ true
    by (Some one) second third here idle waits same = find_passes (may_go plan journal) (after_last last own ++ own) actor (here ∙ same)
    by None (Some one) third none idle waits same =
        let both = find_passes (λ other. not (is_among other own) && may_go_idle plan journal other) (actors plan) actor (idle ∙ same) in
        (and_parts (may_go plan journal actor) (not (is_poll (given plan journal actor))) (and_parts (not (is_among actor own)) (may_go_idle plan journal actor) both).1).0
    by None None third none idle waits same =
        let both = find_passes (λ other. not (is_among other own) && is_ready_waiting plan journal other) (actors plan) actor (waits ∙ same) in
        poller_goes plan journal actor (and_parts (not (is_among actor own)) (is_ready_waiting plan journal actor) both).1

pub worker_goes : (plan : PlanData) (count : ℕ) (before : List Paired) (worker : ℕ) (actor : Actor) → worker_actor plan count before worker ≡ Some actor → may_go plan (map (λ turn. turn.1) before) actor ≡ true
unfolding worker_actor
worker_goes plan count before worker actor is = picked_goes plan (map (λ turn. turn.1) before) (owned plan count worker) (last_taken worker (owned plan count worker) before) actor is
