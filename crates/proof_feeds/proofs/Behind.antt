-- A run whose turns are of actors that may go stays behind its replica.
use Rattle.std.proofs.Common.{◌≡◌, ◌<◌, ℕ, Bool, true, false, List, [], ◌∷◌, ◌++◌, length, map, Option, Some, refl, sym, ap, ◌∙◌, subst}
use Rattle.std.specs.List.{zip}
use Rattle.std.proofs.lemmas.List.{length-map, map-append}
use Rattle.base_script.specs.declared.actor.Actor.{Actor}
use Rattle.base_script.specs.declared.actor.Actor.TheVariants.{Copy, Apply, Lock}
use Rattle.server_model.specs.Along.{Along, Along-both}
use Rattle.server_model.specs.declared.request.Request.{Request}
use Rattle.server_model.specs.declared.request.Request.TheVariants as requests
use Rattle.server_model.specs.declared.entry.Asked.{Asked}
use Rattle.server_model.specs.declared.entry.Asked.TheVariants.{Call, Poll, Command, Cut}
use Rattle.server_model.specs.declared.entry.Entry.{Entry}
use Rattle.server_model.specs.Entries.{is_cut}
use Rattle.plan_data.specs.PlanData.{PlanData}
use Rattle.tool_program.specs.Orders.{may_go, next_actor, worker_actor, IsNext, IsWorkersTurn, Paired, ReplayOrder, RunOrder, WorkerTurn}
use Rattle.tool_program.specs.Programs.{given, Follows, IsFollowed, IsGiven}
use Rattle.proof_feeds.proofs.Choosing.{next_goes, worker_goes}
use Rattle.proof_feeds.proofs.Reading.{lag_is_small, reads_stay_behind}
use Rattle.proof_feeds.specs.Laws.{KeepsBehind, ReplayTurnsMayGo, RunTurnsMayGo, StaysBehind, TurnsStayBehind}

-- each turn but a loss between calls is of an actor that may go
abbrev Goes : PlanData → List Entry → Entry → Type 0
Goes plan before entry = is_cut entry.asked ≡ false → may_go plan before entry.actor ≡ true

-- ONE TURN

-- a turn with a request is no loss, and the request was given
uncut : (entry : Entry) (asked : Asked) → entry.asked ≡ asked → is_cut asked ≡ false → is_cut entry.asked ≡ false
uncut entry asked is none = ap is_cut is ∙ none

gives : (plan : PlanData) (before : List Entry) (entry : Entry) (request : Request) (actor : Actor) → IsFollowed plan before entry → entry.actor ≡ actor → entry.asked ≡ Call request → given plan before actor ≡ Some (Call request)
gives plan before entry request actor follows own is = ap (given plan before) (sym own) ∙ subst (IsGiven plan before entry) is follows.given

goes_as : (plan : PlanData) (before : List Entry) (entry : Entry) (actor : Actor) → Goes plan before entry → entry.actor ≡ actor → is_cut entry.asked ≡ false → may_go plan before actor ≡ true
goes_as plan before entry actor goes own none = subst (λ (a : Actor). may_go plan before a ≡ true) own (goes none)

keeps : (plan : PlanData) (before : List Entry) (entry : Entry) → 0 < plan.options.replica_step → Goes plan before entry → IsFollowed plan before entry → KeepsBehind plan before entry
keeps plan before entry replica goes follows = record {
  reads = λ position limit tables own is.
      reads_stay_behind plan before position limit tables replica (gives plan before entry (requests.ReadLog position limit tables) Apply follows own is) (goes_as plan before entry Apply goes own (uncut entry (Call (requests.ReadLog position limit tables)) is refl));
  chunks = λ table low top size own is.
      (lag_is_small plan before replica).0 table low top size (gives plan before entry (requests.ChunkEnd table low top size) Copy follows own is) (goes_as plan before entry Copy goes own (uncut entry (Call (requests.ChunkEnd table low top size)) is refl));
  attempts = λ schema own is.
      (lag_is_small plan before replica).1 schema (gives plan before entry (requests.Create schema) Lock follows own is) (goes_as plan before entry Lock goes own (uncut entry (Call (requests.Create schema)) is refl));
}

-- ALL TURNS

module _ (plan : PlanData) (replica : 0 < plan.options.replica_step) where
  all_keep : (before journal : List Entry) → Along (Goes plan) before journal → Along (IsFollowed plan) before journal → Along (KeepsBehind plan) before journal
  all_keep before [] goes follows = tt
  all_keep before (entry ∷ journal) goes follows = (keeps plan before entry replica goes.0 follows.0, all_keep (before ++ entry ∷ []) journal goes.1 follows.1)

pub turns_stay_behind : TurnsStayBehind
unfolding Follows
turns_stay_behind plan journal follows goes replica = all_keep plan replica [] journal goes follows

-- of a replay

replay_turn : (plan : PlanData) (before : List Entry) (entry : Entry) → IsNext (is_cut entry.asked) (next_actor plan before) entry.actor → Goes plan before entry
replay_turn plan before entry next none = next_goes plan before entry.actor (subst (λ (b : Bool). IsNext b (next_actor plan before) entry.actor) none next)

replay_turns : (plan : PlanData) (before journal : List Entry) → Along (λ front entry. IsNext (is_cut entry.asked) (next_actor plan front) entry.actor) before journal → Along (Goes plan) before journal
replay_turns plan before [] order = tt
replay_turns plan before (entry ∷ journal) order = (replay_turn plan before entry order.0, replay_turns plan (before ++ entry ∷ []) journal order.1)

pub replay_turns_may_go : ReplayTurnsMayGo
unfolding ReplayOrder
replay_turns_may_go plan journal order = replay_turns plan [] journal order

-- of a run by workers

abbrev entries_of : List Paired → List Entry
entries_of pairs = map (λ pair. pair.1) pairs

worker_turn : (plan : PlanData) (count : ℕ) (before : List Paired) (turn : Paired) → IsWorkersTurn plan count before turn → Goes plan (entries_of before) turn.1
worker_turn plan count before turn is none = worker_goes plan count before turn.0.worker turn.1.actor (subst (λ (b : Bool). IsNext b (worker_actor plan count before turn.0.worker) turn.1.actor) none is.next)

worker_turns : (plan : PlanData) (count : ℕ) (before pairs : List Paired) → Along (IsWorkersTurn plan count) before pairs → Along (Goes plan) (entries_of before) (entries_of pairs)
worker_turns plan count before [] order = tt
worker_turns plan count before (turn ∷ pairs) order = (
  worker_turn plan count before turn order.0,
  subst (λ (front : List Entry). Along (Goes plan) front (entries_of pairs)) (map-append (λ (pair : Paired). pair.1) before (turn ∷ [])) (worker_turns plan count (before ++ turn ∷ []) pairs order.1),
)

paired : (turns : List WorkerTurn) (journal : List Entry) → length turns ≡ length journal → entries_of (zip turns journal) ≡ journal
paired [] [] same = refl
paired [] (entry ∷ journal) same = absurd cc
paired (turn ∷ turns) [] same = absurd cc
paired (turn ∷ turns) (entry ∷ journal) same = let rest : length turns ≡ length journal = cc in ap (λ (more : List Entry). entry ∷ more) (paired turns journal rest)

pub run_turns_may_go : RunTurnsMayGo
run_turns_may_go plan journal turns count order =
    let same : length turns ≡ length journal = sym (length-map turns (λ (turn : WorkerTurn). turn.actor)) ∙ ap length order.actors ∙ length-map journal (λ (entry : Entry). entry.actor) in
    subst (Along (Goes plan) []) (paired turns journal same) (worker_turns plan count [] (zip turns journal) order.each)
