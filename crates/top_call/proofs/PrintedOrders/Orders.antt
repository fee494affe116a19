-- A journal is replayed in an order that has its turns: each of them may go when it comes.
use Rattle.std.proofs.Common.{◌≡◌, ◌⊎◌, Bool, true, false, not, if◌then◌else◌, List, [], ◌∷◌, ◌++◌, map, filter, Option, Some, inl, inr, refl, sym, ap, ◌∙◌, subst, append-nil, append_assoc}
use Rattle.std.specs.List.{fold}
use Rattle.std.proofs.lemmas.Bool.{true≢false}
use Rattle.std.proofs.lemmas.List.Sums.{fold-append}
use Rattle.base_script.specs.declared.actor.Actor.{Actor}
use Rattle.server_model.specs.Along.{Along}
use Rattle.server_model.specs.declared.entry.Entry.{Entry}
use Rattle.server_model.specs.Entries.{is_cut}
use Rattle.plan_data.specs.PlanData.{PlanData, turns_in}
use Rattle.plan_data.specs.declared.runs.ActorRun.{ActorRun}
use Rattle.tool_program.specs.JournalWords.Sessions.{NumbersSessions}
use Rattle.tool_program.specs.Orders.{actor_of, actors, Choice, chosen, first_ready, from_words, IsNext, IsReplay, may_go, next_actor, Queue, queue_at, queue_left, ReplayOrder, Walk, walked, words_in}
use Rattle.tool_program.specs.Replay.{ReplaysAgree}
use Rattle.proof_journals.specs.Run.Kept.{IsKept}
use Rattle.run_turns.specs.Runs.{is_over, Stops}
use Rattle.top_report.specs.Turns.{turns_taken}
use Rattle.top_call.specs.PrintedOrders.{IsReplayed, ordered}
use Rattle.proof_feeds.specs.Laws.{TurnsMayGo}
use Rattle.top_call.proofs.PrintedOrders.Programs.{follows_so, keeps_so}
use Rattle.top_call.proofs.PrintedOrders.Replicas.{may_go_same}
use Rattle.top_call.proofs.PrintedOrders.Verdicts.{over_same, report_same, resumed_same, stops_same, verdict_same}

-- a loss between calls is no turn of the order
cut_taken : (entry : Entry) (rest : List Entry) → is_cut entry.asked ≡ true → turns_taken (entry ∷ rest) ≡ turns_taken rest
unfolding turns_taken
cut_taken entry rest is = ap (λ (b : Bool). map (λ (one : Entry). one.actor) (if not b then entry ∷ filter (λ (one : Entry). not (is_cut one.asked)) rest else filter (λ (one : Entry). not (is_cut one.asked)) rest)) is

turn_taken : (entry : Entry) (rest : List Entry) → is_cut entry.asked ≡ false → turns_taken (entry ∷ rest) ≡ entry.actor ∷ turns_taken rest
unfolding turns_taken
turn_taken entry rest is = ap (λ (b : Bool). map (λ (one : Entry). one.actor) (if not b then entry ∷ filter (λ (one : Entry). not (is_cut one.asked)) rest else filter (λ (one : Entry). not (is_cut one.asked)) rest)) is

-- a turn but a loss between calls is of an actor that may go
abbrev Goes : PlanData → List Entry → Entry → Type 0
Goes plan before entry = is_cut entry.asked ≡ false → may_go plan before entry.actor ≡ true

-- the queue with these words alone
abbrev only : List Actor → Queue
only words = record { words = words; round = [] }

abbrev at : List Entry → List Actor → Walk
at before words = record { before = before; queue = only words }

module _ (plan : PlanData) (runs : List ActorRun) where
  abbrev start : Walk
  start = at [] (words_in (ordered plan runs))

  abbrev walk_to : List Entry → Walk
  walk_to before = fold (walked (ordered plan runs)) start before

  -- the first word is taken, where its actor may go
  first_word : (before : List Entry) (actor : Actor) (words : List Actor) → may_go (ordered plan runs) before actor ≡ true → chosen (ordered plan runs) before (only (actor ∷ words)) ≡ Some (record { actor = actor; queue = only words })
  unfolding chosen first_ready
  first_word before actor words ready =
      ap (λ (b : Bool). from_words (may_go (ordered plan runs) before) (actors (ordered plan runs)) (only (actor ∷ words)) (if b then Some (record { actor = actor; following = words }) else first_ready (may_go (ordered plan runs) before) words)) ready

  is_next : (before : List Entry) (actor : Actor) (words : List Actor) → walk_to before ≡ at before (actor ∷ words) → may_go (ordered plan runs) before actor ≡ true → next_actor (ordered plan runs) before ≡ Some actor
  unfolding next_actor queue_at
  is_next before actor words so_far ready = ap (λ (walk : Walk). actor_of (chosen (ordered plan runs) before walk.queue)) so_far ∙ ap actor_of (first_word before actor words ready)

  one_more : (before : List Entry) (entry : Entry) (queue : Queue) (words : List Actor) → walk_to before ≡ record { before = before; queue = queue } → (if is_cut entry.asked then queue else queue_left (chosen (ordered plan runs) before queue) queue) ≡ only words → walk_to (before ++ entry ∷ []) ≡ at (before ++ entry ∷ []) words
  one_more before entry queue words so_far left =
      fold-append (walked (ordered plan runs)) start before (entry ∷ [])
      ∙ ap (λ (walk : Walk). walked (ordered plan runs) walk entry) so_far
      ∙ ap (λ (q : Queue). record { before = before ++ entry ∷ []; queue = q }) left

  -- one turn is the next, and leaves the words of those after it
  one_turn : (before : List Entry) (entry : Entry) (rest : List Entry) (b : Bool) → is_cut entry.asked ≡ b → walk_to before ≡ at before (turns_taken (entry ∷ rest)) → Goes plan before entry
      → IsNext (is_cut entry.asked) (next_actor (ordered plan runs) before) entry.actor × (walk_to (before ++ entry ∷ []) ≡ at (before ++ entry ∷ []) (turns_taken rest))
  one_turn before entry rest true cut so_far goes =
      let queue = only (turns_taken rest) in
      let left : (if is_cut entry.asked then queue else queue_left (chosen (ordered plan runs) before queue) queue) ≡ queue =
      ap (λ (b : Bool). if b then queue else queue_left (chosen (ordered plan runs) before queue) queue) cut in (
        subst (λ (b : Bool). IsNext b (next_actor (ordered plan runs) before) entry.actor) (sym cut) tt,
        one_more before entry queue (turns_taken rest) (so_far ∙ ap (at before) (cut_taken entry rest cut)) left,
      )
  one_turn before entry rest false turn so_far goes =
      let queue = only (entry.actor ∷ turns_taken rest) in
      let same : walk_to before ≡ at before (entry.actor ∷ turns_taken rest) = so_far ∙ ap (at before) (turn_taken entry rest turn) in
      let ready : may_go (ordered plan runs) before entry.actor ≡ true = may_go_same plan runs before entry.actor ∙ goes turn in
      let left : (if is_cut entry.asked then queue else queue_left (chosen (ordered plan runs) before queue) queue) ≡ only (turns_taken rest) =
      ap (λ (b : Bool). if b then queue else queue_left (chosen (ordered plan runs) before queue) queue) turn
      ∙ ap (λ (choice : Option Choice). queue_left choice queue) (first_word before entry.actor (turns_taken rest) ready) in
      (subst (λ (b : Bool). IsNext b (next_actor (ordered plan runs) before) entry.actor) (sym turn) (is_next before entry.actor (turns_taken rest) same ready), one_more before entry queue (turns_taken rest) same left)

  -- *In replay order*: where the words that are left are the turns that are left
  in_order : (before rest : List Entry) → walk_to before ≡ at before (turns_taken rest) → Along (Goes plan) before rest → Along (λ all entry. IsNext (is_cut entry.asked) (next_actor (ordered plan runs) all) entry.actor) before rest
  in_order before [] so_far goes = tt
  in_order before (entry ∷ rest) so_far goes =
      let now = one_turn before entry rest (is_cut entry.asked) refl so_far goes.0 in
      (now.0, in_order (before ++ entry ∷ []) rest now.1 goes.1)

  first_words : (journal : List Entry) → turns_in runs ≡ turns_taken journal → walk_to [] ≡ at [] (turns_taken journal)
  unfolding words_in
  first_words journal are = ap (at []) are

  replay_order : (journal : List Entry) → turns_in runs ≡ turns_taken journal → TurnsMayGo plan journal → ReplayOrder (ordered plan runs) journal
  unfolding ReplayOrder
  replay_order journal are goes = in_order [] journal (first_words journal are) goes

-- *Printed orders replay*
pub replayed : (plan : PlanData) (journal : List Entry) (runs : List ActorRun) → IsKept plan journal → NumbersSessions journal → TurnsMayGo plan journal → turns_in runs ≡ turns_taken journal → IsReplayed plan runs journal
replayed plan journal runs kept numbered goes are = record {
  replay = record {
    faithful = kept.faithful;
    planned = keeps_so plan runs journal kept.planned;
    follows = follows_so plan runs journal kept.follows;
    order = replay_order plan runs journal are goes;
    numbered = numbered;
  };
  over_is = over_same plan runs journal;
  stops = stops_same plan runs journal;
  resumed_is = resumed_same plan runs journal;
  verdict_is = verdict_same plan runs journal;
  tables_are = refl;
  report_is = report_same plan runs journal;
}

-- NO OTHER REPLAY IS AS LONG

-- what stops isn't over before its end
not_before : (plan : PlanData) (before : List Entry) (entry : Entry) (rest : List Entry) → Along (λ all one. is_over plan all ≡ false) before (entry ∷ rest) → is_over plan before ≡ true → ⊥
not_before plan before entry rest stops over = true≢false (sym over ∙ stops.0)

-- of a list that stops, what comes before these entries isn't over, if there are any
rest_stops : (plan : PlanData) (before one two : List Entry) → Along (λ all entry. is_over plan all ≡ false) before (one ++ two) → Along (λ all entry. is_over plan all ≡ false) (before ++ one) two
rest_stops plan before [] two stops = subst (λ (all : List Entry). Along (λ some entry. is_over plan some ≡ false) all two) (sym (append-nil before)) stops
rest_stops plan before (entry ∷ one) two stops = subst (λ (all : List Entry). Along (λ some other. is_over plan some ≡ false) all two) (append_assoc before (entry ∷ []) one) (rest_stops plan (before ++ entry ∷ []) one two stops.1)

none_after : (plan : PlanData) (one two : List Entry) → Stops plan (one ++ two) → is_over plan one ≡ true → one ++ two ≡ one
unfolding Stops
none_after plan one [] stops over = append-nil one
none_after plan one (entry ∷ two) stops over = absurd (not_before plan one entry two (rest_stops plan [] one (entry ∷ two) stops) over)

-- of two that stop when they are over, one of which goes on the other, neither is longer
of_two : (plan : PlanData) (journal other rest : List Entry) → Stops plan journal → is_over plan journal ≡ true → Stops plan other → is_over plan other ≡ true → (other ≡ journal ++ rest) ⊎ (journal ≡ other ++ rest) → other ≡ journal
of_two plan journal other rest stops over other_stops other_over (inl longer) = longer ∙ none_after plan journal rest (subst (Stops plan) longer other_stops) over
of_two plan journal other rest stops over other_stops other_over (inr longer) = sym (longer ∙ none_after plan other rest (subst (Stops plan) longer stops) other_over)

-- *And so only*
pub replayed_only : ReplaysAgree → (plan : PlanData) (journal : List Entry) → IsReplay plan journal → Stops plan journal → is_over plan journal ≡ true → (other : List Entry) → IsReplay plan other → Stops plan other → is_over plan other ≡ true → other ≡ journal
replayed_only agree plan journal replay stops over other others other_stops other_over =
    let both = agree plan journal other replay others in
    of_two plan journal other both.0 stops over other_stops other_over both.1
