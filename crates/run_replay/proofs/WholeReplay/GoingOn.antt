-- A run goes on being a replay's.
use Rattle.std.proofs.Common.{◌≡◌, ℕ, ◌≤◌, Bool, true, false, ◌||◌, List, [], ◌∷◌, ◌++◌, length, cond, Option, Some, None, refl, sym, ap, ◌∙◌, subst, append_assoc, append-nil, arith}
use Rattle.std.specs.Prelude.{fold, is_some}
use Rattle.std.proofs.lemmas.Bool.{true≢false, le-leb}
use Rattle.std.proofs.lemmas.List.{drop_all, length-append}
use Rattle.std.proofs.lemmas.List.Sums.{fold-append}
use Rattle.std.proofs.Math.Bool.{or-true}
use Rattle.base_script.specs.declared.actor.Actor.{Actor}
use Rattle.server_model.specs.Along.{Along-more}
use Rattle.server_model.specs.declared.entry.Asked.TheVariants.{Cut}
use Rattle.server_model.specs.declared.entry.Entry.{Entry}
use Rattle.server_model.specs.Entries.{is_cut}
use Rattle.server_model.specs.States.{State}
use Rattle.plan_data.specs.PlanData.{PlanData}
use Rattle.tool_program.specs.JournalWords.Journals.{opening, state_after, state_at, after_entry}
use Rattle.tool_program.specs.JournalWords.KeptPlans.{cut_due}
use Rattle.tool_program.specs.JournalWords.Sessions.{NumbersSessions}
use Rattle.proof_journals.proofs.Journals.{state_more}
use Rattle.tool_program.specs.Orders.{actors, Queue, Choice, Walk, words_in, chosen, queue_left, queue_after, walked, queue_at, actor_of, next_actor, IsNext, ReplayOrder, IsReplay}
use Rattle.proof_journals.specs.Run.Counts.{IsAfter}
use Rattle.proof_journals.specs.Run.Kept.{IsKept}
use Rattle.proof_journals.proofs.Run.Keeping.{kept_none}
use Rattle.run_turns.specs.declared.due_turns.migration_run.turn.Turn.{Turn}
use Rattle.run_turns.specs.DueTurns.MigrationRun.ServerTurns.{entry_on}
use Rattle.run_turns.specs.DueTurns.Due.{due, next_entry}
use Rattle.run_turns.proofs.DueTurns.Coming.{Comes, Cuts, Gives, comes, given_uncut}
use Rattle.run_turns.proofs.DueTurns.Keeping.{turns_kept, turns_numbered}
use Rattle.tool_program.specs.Verdicts.{has_ended}
use Rattle.run_turns.specs.Runs.{RunView, is_over, TakesTurn, IsUnmoved, Stops}
use Rattle.run_replay.specs.declared.whole_replay.place.OrderPlace.{OrderPlace}
use Rattle.run_replay.specs.declared.whole_replay.place.NextTurn.{NextTurn}
use Rattle.run_replay.specs.WholeReplay.Places.{queue_of, choice_of}
use Rattle.run_replay.specs.WholeReplay.Replays.{IsFresh, IsReplaying, IsStalled, GoesOn}
use Rattle.run_replay.proofs.WholeReplay.WordChoices.{words_whole}

-- THE ORDER

walk_before : (plan : PlanData) (walk : Walk) (journal : List Entry) → (fold (walked plan) walk journal).before ≡ walk.before ++ journal
walk_before plan walk [] = sym (append-nil walk.before)
walk_before plan walk (entry ∷ journal) = walk_before plan (walked plan walk entry) journal ∙ append_assoc walk.before (entry ∷ []) journal

abbrev start : PlanData → Walk
start plan = record { before = []; queue = record { words = words_in plan; round = [] } }

after_walk : (plan : PlanData) (walk : Walk) (before : List Entry) (entry : Entry) → walk.before ≡ before → queue_after plan walk entry ≡ queue_after plan (record { before = before; queue = walk.queue }) entry
after_walk plan walk before entry is = ap (λ (all : List Entry). queue_after plan (record { before = all; queue = walk.queue }) entry) is

-- what is left behind one turn more
queue_more : (plan : PlanData) (journal : List Entry) (entry : Entry) → queue_at plan (journal ++ entry ∷ []) ≡ queue_after plan (record { before = journal; queue = queue_at plan journal }) entry
unfolding queue_at
queue_more plan journal entry =
    ap (λ (w : Walk). w.queue) (fold-append (walked plan) (start plan) journal (entry ∷ []))
    ∙ after_walk plan (fold (walked plan) (start plan) journal) journal entry (walk_before plan (start plan) journal)

order_more : (plan : PlanData) (journal : List Entry) (entry : Entry) → ReplayOrder plan journal → IsNext (is_cut entry.asked) (next_actor plan journal) entry.actor → ReplayOrder plan (journal ++ entry ∷ [])
unfolding ReplayOrder
order_more plan journal entry order next = Along-more (λ (before : List Entry) (one : Entry). IsNext (is_cut one.asked) (next_actor plan before) one.actor) [] journal entry order next

stops_more : (plan : PlanData) (journal : List Entry) (entry : Entry) → Stops plan journal → is_over plan journal ≡ false → Stops plan (journal ++ entry ∷ [])
unfolding Stops
stops_more plan journal entry stops going = Along-more (λ (before : List Entry) (one : Entry). is_over plan before ≡ false) [] journal entry stops going

-- ONE TURN MORE

self_after : (state : State) → IsAfter state state
self_after state = record { made = omega arith; same = refl }

module _ (plan : PlanData) (journal : List Entry) (actor : Actor) (turn : Turn) (kept : IsKept plan journal) (order : ReplayOrder plan journal) (numbered : NumbersSessions journal) (is_due : due plan journal actor ≡ Some turn) (stops : Stops plan journal) (going : is_over plan journal ≡ false) where
  abbrev entry : Entry
  entry = next_entry journal (state_at plan journal) turn

  kept_more : IsKept plan (journal ++ entry ∷ [])
  kept_more = (turns_kept plan journal (state_at plan journal) actor turn kept (self_after (state_at plan journal)) is_due).kept

  numbered_more : NumbersSessions (journal ++ entry ∷ [])
  numbered_more = turns_numbered plan journal turn kept numbered

  asked_is : entry.asked ≡ turn.asked
  unfolding entry_on
  asked_is = refl

  actor_is : entry.actor ≡ turn.actor
  unfolding entry_on
  actor_is = refl

  goes : (place : OrderPlace) → IsNext (is_cut entry.asked) (next_actor plan journal) entry.actor → queue_of plan place ≡ queue_after plan (record { before = journal; queue = queue_at plan journal }) entry
      → IsReplaying (record { plan = plan; journal = journal ++ entry ∷ []; server = after_entry (state_at plan journal) entry }) place
  goes place next queue = record {
    kept = kept_more;
    order = order_more plan journal entry order next;
    numbered = numbered_more;
    stops = stops_more plan journal entry stops going;
    server = sym (state_more (opening plan) journal entry);
    queue = queue ∙ sym (queue_more plan journal entry);
  }

  -- a loss between calls
  cut_goes : (place : OrderPlace) → is_some (cut_due plan journal) ≡ true → queue_of plan place ≡ queue_at plan journal → IsReplaying (record { plan = plan; journal = journal ++ entry ∷ []; server = after_entry (state_at plan journal) entry }) place
  cut_goes place cut queue = goes place (subst (λ (b : Bool). IsNext b (next_actor plan journal) entry.actor) (sym is) tt)
      (queue ∙ sym (ap (λ (b : Bool). cond b (queue_at plan journal) (queue_left (chosen plan journal (queue_at plan journal)) (queue_at plan journal))) is))
    where
      by : Comes plan journal actor turn → turn.asked ≡ Cut
      by (Cuts at none same) = same
      by (Gives none same gives side) = absurd (true≢false (sym cut ∙ ap is_some none))

      is : is_cut entry.asked ≡ true
      is = ap is_cut (asked_is ∙ by (comes plan journal actor turn is_due))

  -- the next actor's turn
  turn_goes : (place : OrderPlace) (choice : Choice) → is_some (cut_due plan journal) ≡ false → chosen plan journal (queue_at plan journal) ≡ Some choice → choice.actor ≡ actor → queue_of plan place ≡ choice.queue
      → IsReplaying (record { plan = plan; journal = journal ++ entry ∷ []; server = after_entry (state_at plan journal) entry }) place
  unfolding next_actor
  turn_goes place choice uncut chooses same queue = goes place
      (subst (λ (b : Bool). IsNext b (next_actor plan journal) entry.actor) (sym is) (ap actor_of chooses ∙ ap Some (same ∙ sym (actor_is ∙ own (comes plan journal actor turn is_due)))))
      (queue ∙ sym (ap (λ (c : Option Choice). queue_left c (queue_at plan journal)) chooses)
      ∙ sym (ap (λ (b : Bool). cond b (queue_at plan journal) (queue_left (chosen plan journal (queue_at plan journal)) (queue_at plan journal))) is))
    where
      own : Comes plan journal actor turn → turn.actor ≡ actor
      own (Cuts at none cut) = absurd (true≢false (sym (ap is_some at) ∙ uncut))
      own (Gives none so gives side) = so

      by : Comes plan journal actor turn → is_cut turn.asked ≡ false
      by (Cuts at none cut) = absurd (true≢false (sym (ap is_some at) ∙ uncut))
      by (Gives none so gives side) = given_uncut plan journal turn.actor turn.asked gives

      is : is_cut entry.asked ≡ false
      is = ap is_cut asked_is ∙ by (comes plan journal actor turn is_due)

-- THE RUN BEHIND A STEP

abbrev view : RunView → State → Turn → RunView
view before server turn = record { plan = before.plan; journal = before.journal ++ next_entry before.journal server turn ∷ []; server = after_entry server (next_entry before.journal server turn) }

module _ (before : RunView) (actor : Actor) (after : RunView) (old : OrderPlace) (is : IsReplaying before old) (takes : TakesTurn before actor after) (going : is_over before.plan before.journal ≡ false) where
  after_is : after ≡ view before (state_at before.plan before.journal) takes.turn
  after_is = takes.taken ∙ ap (λ (s : State). view before s takes.turn) is.server

  gone_on : (place : OrderPlace) → IsReplaying (view before (state_at before.plan before.journal) takes.turn) place → GoesOn before after place
  gone_on place replaying = record {
    replaying = subst (λ (r : RunView). IsReplaying r place) (sym after_is) replaying;
    plan = ap (λ (r : RunView). r.plan) after_is;
    count = ap (λ (r : RunView). length r.journal) after_is ∙ length-append before.journal (next_entry before.journal (state_at before.plan before.journal) takes.turn ∷ []);
    entry = next_entry before.journal (state_at before.plan before.journal) takes.turn;
    journal = ap (λ (r : RunView). r.journal) after_is;
  }

  -- by a loss between calls
  pub cut_taken : is_some (cut_due before.plan before.journal) ≡ true → GoesOn before after old
  cut_taken cut = gone_on old (cut_goes before.plan before.journal actor takes.turn is.kept is.order is.numbered takes.is_due is.stops going old cut is.queue)

  -- by the next actor's turn
  pub turn_taken : (next : NextTurn) → is_some (cut_due before.plan before.journal) ≡ false → Some (choice_of before.plan next) ≡ chosen before.plan before.journal (queue_of before.plan old) → next.actor ≡ actor → GoesOn before after next.following
  turn_taken next uncut chooses same =
      gone_on next.following
      (turn_goes before.plan before.journal actor takes.turn is.kept is.order is.numbered takes.is_due is.stops going next.following (choice_of before.plan next) uncut (sym (chooses ∙ ap (chosen before.plan before.journal) is.queue)) same refl)

-- nobody's turn comes next
pub stalls : (run : RunView) (place : OrderPlace) → IsReplaying run place → is_some (cut_due run.plan run.journal) ≡ false → None ≡ chosen run.plan run.journal (queue_of run.plan place) → IsStalled run.plan run.journal
unfolding next_actor
stalls run place is uncut chooses = record {
  uncut = none (cut_due run.plan run.journal) uncut;
  nobody = ap actor_of (sym (chooses ∙ ap (chosen run.plan run.journal) is.queue));
}
  where
    none : (cut : Option Actor) → is_some cut ≡ false → cut ≡ None
    none None so = refl
    none (Some other) so = absurd (true≢false so)

-- BEGINNING AND END

queue_begin : (plan : PlanData) (count : ℕ) → count ≡ length (actors plan) → queue_of plan (record { run = 0; used = 0; actor = count }) ≡ queue_at plan []
unfolding queue_at words_in
queue_begin plan count is = both (words_whole plan.turns) (drop_all count (actors plan) (omega (arith, is)))
  where
    both : {words others round none : List Actor} → words ≡ others → round ≡ none → (let one : Queue = record { words = words; round = round } in one) ≡ record { words = others; round = none }
    both first second = λ i. record { words = first i; round = second i }

pub begins : (run : RunView) (count : ℕ) → IsFresh run → count ≡ length (actors run.plan) → IsReplaying run (record { run = 0; used = 0; actor = count })
unfolding ReplayOrder NumbersSessions Stops state_after
begins run count fresh is = record {
  kept = subst (IsKept run.plan) (sym fresh.journal) (kept_none run.plan);
  order = subst (ReplayOrder run.plan) (sym fresh.journal) tt;
  numbered = subst NumbersSessions (sym fresh.journal) tt;
  stops = subst (Stops run.plan) (sym fresh.journal) tt;
  server = fresh.server ∙ ap (state_at run.plan) (sym fresh.journal);
  queue = queue_begin run.plan count is ∙ ap (queue_at run.plan) (sym fresh.journal);
}

pub is_replay : (run : RunView) (place : OrderPlace) → IsReplaying run place → IsReplay run.plan run.journal
is_replay run place is = record { faithful = is.kept.faithful; planned = is.kept.planned; follows = is.kept.follows; order = is.order; numbered = is.numbered }

-- a turn for which there was no memory leaves the turns before it
pub still_replay : (before after : RunView) (place : OrderPlace) → IsReplaying before place → IsUnmoved before after → IsReplay after.plan after.journal
still_replay before after place is still =
    subst (λ (p : PlanData). IsReplay p after.journal) (sym still.plan) (subst (IsReplay before.plan) (sym still.journal) (is_replay before place is))

pub it_stops : (run : RunView) (place : OrderPlace) → IsReplaying run place → Stops run.plan run.journal
it_stops run place is = is.stops

pub still_stops : (before after : RunView) (place : OrderPlace) → IsReplaying before place → IsUnmoved before after → Stops after.plan after.journal
still_stops before after place is still = subst (λ (p : PlanData). Stops p after.journal) (sym still.plan) (subst (Stops before.plan) (sym still.journal) is.stops)

-- a run that has as many turns as the plan allows is over
pub full_over : (plan : PlanData) (journal : List Entry) → plan.options.turn_limit ≤ length journal → is_over plan journal ≡ true
unfolding is_over
full_over plan journal full = ap (λ b. has_ended plan journal || b) (le-leb plan.options.turn_limit (length journal) full) ∙ or-true (has_ended plan journal)
