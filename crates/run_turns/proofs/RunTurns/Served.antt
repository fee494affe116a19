-- What a turn on the server gives, in the words of the run.
use Rattle.std.proofs.Common.{◌≡◌, ◌≤◌, ◌<◌, ℕ, ◌+◌, Bool, true, false, not, List, [], ◌∷◌, ◌++◌, length, Option, None, refl, sym, ap, ◌∙◌, subst, append_assoc, append-nil, arith}
use Rattle.std.proofs.lemmas.Bool.{true≢false, false≢true}
use Rattle.std.proofs.lemmas.List.{length-append}
use Rattle.table_store.specs.Databases.{Database}
use Rattle.base_script.specs.declared.actor.Side.{Side}
use Rattle.server_model.specs.Along.{Along}
use Rattle.server_model.specs.declared.answer.Answer.TheVariants as answers
use Rattle.server_model.specs.declared.answer.KeyRange.{KeyRange}
use Rattle.server_model.specs.declared.entry.Asked.{Asked}
use Rattle.server_model.specs.declared.entry.Asked.TheVariants.{Call, Poll, Command, Cut}
use Rattle.server_model.specs.declared.entry.Entry.{Entry}
use Rattle.server_model.specs.Entries.{is_client, is_command}
use Rattle.server_model.specs.PlainServer.{serves, state_left, given_at, number_drawn}
use Rattle.server_model.specs.States.{State, has_work, load}
use Rattle.plan_data.specs.PlanData.{PlanData}
use Rattle.tool_program.specs.JournalWords.Journals.{opening, opens_if, state_after, state_at, after_entry, heard, missed, IsAnswered}
use Rattle.tool_program.specs.JournalWords.KeptPlans.{side_due}
use Rattle.tool_program.specs.JournalWords.Sessions.{live_session}
use Rattle.tool_program.specs.Programs.{IsFollowed, Follows}
use Rattle.tool_program.specs.Tools.{moment}
use Rattle.proof_journals.specs.Run.Counts.{numbered, IsAfter, busy_count}
use Rattle.proof_journals.proofs.Run.Keeping.{kept_none}
use Rattle.proof_journals.proofs.Run.Taking.{server_is}
use Rattle.proof_journals.proofs.Run.Living.{never_lost}
use Rattle.proof_journals.specs.Machine.Runnable.{IsRunnable}
use Rattle.run_actors.specs.ClientTurns.ActorStates.{DrawsAtMark}
use Rattle.run_actors.proofs.ClientTurns.DrawnTurns.{drawn_marks}
use Rattle.run_turns.specs.declared.due_turns.migration_run.counting.Counts.{Counts}
use Rattle.run_turns.specs.declared.due_turns.migration_run.turn.Turn.{Turn}
use Rattle.run_turns.specs.DueTurns.MigrationRun.ServerTurns.{session_for, opened_on, entry_on, counts_of, MayTurn}
use Rattle.run_turns.proofs.DueTurns.MigrationRun.Connecting.{command_left}
use Rattle.run_turns.proofs.DueTurns.MigrationRun.Counted.{entry_same}
use Rattle.run_state.specs.declared.run_state.RunState.{RunState}
use Rattle.run_state.specs.Books.{is_planned, HasRoomFor, IsRunState}
use Rattle.run_turns.specs.DueTurns.Due.{session_at, next_entry}
use Rattle.run_turns.specs.DueTurns.Laws.{IsKeptWith}
use Rattle.run_turns.proofs.DueTurns.Coming.{Comes, Cuts, Gives, comes, Asks, Commands, Called, given_asks, operator_unstruck}
use Rattle.run_turns.proofs.DueTurns.Keeping.{turns_kept}
use Rattle.run_turns.proofs.DueTurns.Serving.{after_more}
use Rattle.tool_program.specs.declared.tool_setup.setup.Setup.{Setup}
use Rattle.run_turns.specs.DueTurns.DueCalls.Ranges.{ahead_of, is_heard, ahead_on, IsReported, IsReadAhead}
use Rattle.run_turns.proofs.RunTurns.Ranging.{ahead_reported, unheard_reported}
use Rattle.run_turns.proofs.DueTurns.DueCalls.Asking.{turns_may_be}
use Rattle.run_turns.proofs.DueTurns.DueCalls.Telling.{ranges_ahead}
use Rattle.run_turns.specs.RunTurns.Invariants.{IsDue, IsRun}
use Rattle.run_turns.proofs.RunTurns.Planned.{due_planned}

-- THE SESSION

pub session_is : (asked : Asked) (own : Option ℕ) (made : ℕ) → is_command asked ≡ false → session_at asked own made ≡ session_for own made
session_is (Call request) own made none = refl
session_is Poll own made none = refl
session_is Cut own made none = refl
session_is (Command word) own made none = absurd (true≢false none)

pub command_session : (asked : Asked) (own : Option ℕ) (made : ℕ) → is_command asked ≡ true → session_at asked own made ≡ 0
command_session (Command word) own made is = refl
command_session (Call request) own made none = absurd (false≢true none)
command_session Poll own made none = absurd (false≢true none)
command_session Cut own made none = absurd (false≢true none)

-- a command leaves the server as it is
pub command_still : (state : State) (turn : Turn) → is_command turn.asked ≡ true → turn.side ≡ None → after_entry state (entry_on state 0 turn) ≡ state
unfolding entry_on opens_if
command_still state turn command none = ap (λ (side : Option Side). state_left side (opens_if (is_command turn.asked) (not (is_client turn.actor)) 0 state) 0 turn.asked) none ∙ by turn.asked command
  where
    by : (asked : Asked) → is_command asked ≡ true → state_left None (opens_if (is_command asked) (not (is_client turn.actor)) 0 state) 0 asked ≡ state
    by (Command word) is = sym (command_left state 0 word)
    by (Call request) is = absurd (false≢true is)
    by Poll is = absurd (false≢true is)
    by Cut is = absurd (false≢true is)

pub command_side : (plan : PlanData) (journal : List Entry) (turn : Turn) → IsDue plan journal turn → is_command turn.asked ≡ true → turn.side ≡ None
command_side plan journal turn due_so command = by (comes plan journal due_so.actor turn due_so.is)
  where
    by : Comes plan journal due_so.actor turn → turn.side ≡ None
    by (Cuts at none cut) = none
    by (Gives none same gives side) = asks (given_asks plan journal turn.actor turn.asked gives)
      where
        asks : Asks turn.actor turn.asked → turn.side ≡ None
        asks (Commands word own is) = side ∙ ap (side_due plan journal) own ∙ operator_unstruck plan journal
        asks (Called called) = absurd (true≢false (sym called ∙ never_lost turn.asked command))

-- WHAT THE BOOK COUNTS

counts_same : (made : ℕ) (state : State) → counts_of (numbered made state) ≡ counts_of state
counts_same made state = refl

pub counts_after : (reported server : State) → IsAfter reported server → counts_of server ≡ counts_of reported
counts_after reported server following = ap counts_of following.same ∙ counts_same server.made reported

work_same : (made : ℕ) (state : State) (session : ℕ) → has_work (numbered made state) session ≡ has_work state session
work_same made state session = refl

pub work_after : (reported server : State) (session : ℕ) → IsAfter reported server → has_work server session ≡ has_work reported session
work_after reported server session following = ap (λ (s : State). has_work s session) following.same ∙ work_same server.made reported session

tables_same : (made : ℕ) (state : State) → (numbered made state).tables ≡ state.tables
tables_same made state = refl

pub tables_after : (reported server : State) → IsAfter reported server → server.tables ≡ reported.tables
tables_after reported server following = ap (λ (s : State). s.tables) following.same ∙ tables_same server.made reported

pub run_state_counts : (plan : PlanData) (journal : List Entry) (run_state : RunState) (sessions : ℕ) (server : State) (counts : Counts) → IsRun plan journal run_state sessions server → counts.load ≡ run_state.load → counts.busy ≡ run_state.busy → counts ≡ counts_of server
run_state_counts plan journal run_state sessions server counts run loads busies = both (loads ∙ run.run_state.load ∙ now_load) (busies ∙ run.run_state.busy ∙ now_busy)
  where
    moment_counts : counts_of (moment plan journal).server ≡ counts_of server
    moment_counts = ap counts_of (server_is plan journal) ∙ sym (counts_after (state_at plan journal) server run.server)

    now_load : load (moment plan journal).server ≡ load server
    now_load = ap (λ (c : Counts). c.load) moment_counts

    now_busy : busy_count (moment plan journal).server ≡ busy_count server
    now_busy = ap (λ (c : Counts). c.busy) moment_counts

    both : counts.load ≡ load server → counts.busy ≡ busy_count server → counts ≡ counts_of server
    both one two = λ i. record { load = one i; busy = two i }

-- THE TURN MAY BE TAKEN

pub may_turn : (plan : PlanData) (journal : List Entry) (run_state : RunState) (sessions : ℕ) (server : State) (turn : Turn) → IsRun plan journal run_state sessions server → IsDue plan journal turn → is_command turn.asked ≡ false → server.made ≤ 4294967295 → (live_session journal turn.actor ≡ None → server.made < 4294967295)
    → MayTurn server (live_session journal turn.actor) turn
may_turn plan journal run_state sessions server turn run due_so called few less =
    turns_may_be plan journal server due_so.actor turn run.runs run.kept run.server few less due_so.is called

-- THE ENTRY

pub command_is : (state : State) (turn : Turn) → is_command turn.asked ≡ true → turn.side ≡ None → record { actor = turn.actor; session = 0; asked = turn.asked; side = None; answer = answers.Ok 0; missed = None; draw = None } ≡ entry_on state 0 turn
command_is state turn command none =
    entry_same state 0 turn _ refl refl refl (sym none)
    (sym (ap (λ (side : Option Side). heard side (given_at side turn.asked (serves (opened_on state 0 turn) 0 turn.asked).answer)) none ∙ reported turn.asked (opened_on state 0 turn) command))
    (sym (ap (λ (side : Option Side). missed side (given_at side turn.asked (serves (opened_on state 0 turn) 0 turn.asked).answer)) none))
    (sym (ap (λ (side : Option Side). number_drawn side (opened_on state 0 turn) 0 turn.asked) none ∙ undrawn turn.asked (opened_on state 0 turn) command))
  where
    undrawn : (asked : Asked) (server : State) → is_command asked ≡ true → number_drawn None server 0 asked ≡ None
    undrawn (Command word) server is = refl
    undrawn (Call request) server is = absurd (false≢true is)
    undrawn Poll server is = absurd (false≢true is)
    undrawn Cut server is = absurd (false≢true is)

    reported : (asked : Asked) (server : State) → is_command asked ≡ true → heard None (given_at None asked (serves server 0 asked).answer) ≡ answers.Ok 0
    reported (Command word) server is = refl
    reported (Call request) server is = absurd (false≢true is)
    reported Poll server is = absurd (false≢true is)
    reported Cut server is = absurd (false≢true is)

pub entry_of_command : (journal : List Entry) (server : State) (turn : Turn) → is_command turn.asked ≡ true → entry_on server 0 turn ≡ next_entry journal server turn
entry_of_command journal server turn command = ap (λ (n : ℕ). entry_on server n turn) (sym (command_session turn.asked (live_session journal turn.actor) server.made command))

pub entry_of_session : (journal : List Entry) (server : State) (turn : Turn) → is_command turn.asked ≡ false → entry_on server (session_for (live_session journal turn.actor) server.made) turn ≡ next_entry journal server turn
entry_of_session journal server turn called = ap (λ (n : ℕ). entry_on server n turn) (sym (session_is turn.asked (live_session journal turn.actor) server.made called))

pub session_of_entry : (server : State) (session : ℕ) (turn : Turn) → (entry_on server session turn).session ≡ session
unfolding entry_on
session_of_entry server session turn = refl

-- ONE TURN MORE

module _ (plan : PlanData) (journal : List Entry) (run_state : RunState) (sessions : ℕ) (server : State) (turn : Turn) (run : IsRun plan journal run_state sessions server) (due_so : IsDue plan journal turn) where
  abbrev entry : Entry
  entry = next_entry journal server turn

  abbrev reported : State
  reported = state_at plan journal

  with : IsKeptWith plan journal server entry
  with = turns_kept plan journal server due_so.actor turn run.kept run.server due_so.is

  pub planned : is_planned plan turn.actor ≡ true
  planned = due_planned plan journal due_so.actor turn run.run_state.strangers due_so.is

  pub planned_entry : is_planned plan entry.actor ≡ true
  unfolding entry_on
  planned_entry = planned

  along_last : {E : Type 0} (keeps : List E → E → Type 0) (before entries : List E) (last : E) → Along keeps before (entries ++ last ∷ []) → keeps (before ++ entries) last
  along_last keeps before [] last kept = subst (λ all. keeps all last) (sym (append-nil before)) kept.0
  along_last keeps before (first ∷ entries) last kept = subst (λ all. keeps all last) (append_assoc before (first ∷ []) entries) (along_last keeps (before ++ first ∷ []) entries last kept.1)

  answered : IsAnswered reported entry
  answered = along_last (λ before one. IsAnswered (state_at plan before) one) [] journal entry with.kept.faithful

  pub draws_marked : DrawsAtMark entry
  draws_marked = drawn_marks reported entry answered

  followed : IsFollowed plan journal entry
  unfolding Follows
  followed = along_last (IsFollowed plan) [] journal entry with.kept.follows

  entry_actor : entry.actor ≡ turn.actor
  unfolding entry_on
  entry_actor = refl

  -- the range that it is told is the one that was copied
  pub reported_ahead : (setup : Option Setup) (ahead : Option KeyRange) (tables : Database) → tables ≡ server.tables → ahead ≡ ahead_on plan tables setup turn → IsReadAhead setup ahead entry.answer
  unfolding entry_on
  reported_ahead setup ahead tables here is = ahead_reported plan setup ahead tables turn entry.answer is whole quiet
    where
      whole : IsReported (ahead_of plan tables turn.actor) entry.answer
      whole =
          subst (λ (range : Option KeyRange). IsReported range entry.answer)
          (sym (ap (λ (d : Database). ahead_of plan d turn.actor) (here ∙ tables_after reported server run.server) ∙ ap (ahead_of plan reported.tables) (sym entry_actor)))
          (ranges_ahead plan journal entry run.runs.fitting run.kept.faithful run.kept.follows answered followed)

      quiet : is_heard turn.side turn.asked ≡ false → IsReported None entry.answer
      quiet none = unheard_reported (opened_on server entry.session turn) entry.session turn.side turn.asked none

  pub work_reported : (had : Bool) → had ≡ has_work server entry.session → had ≡ has_work (moment plan journal).server entry.session
  work_reported had is = is ∙ work_after reported server entry.session run.server ∙ ap (λ (s : State). has_work s entry.session) (sym (server_is plan journal))

  left_after : IsAfter (after_entry reported entry) (after_entry server entry)
  left_after = after_more reported server entry run.server

  counts_reported : (counts : Counts) (left : State) → counts ≡ counts_of left → left ≡ after_entry server entry → counts ≡ counts_of (after_entry (moment plan journal).server entry)
  counts_reported counts left are is = are ∙ ap counts_of is ∙ counts_after (after_entry reported entry) (after_entry server entry) left_after ∙ ap (λ (s : State). counts_of (after_entry s entry)) (sym (server_is plan journal))

  pub load_reported : (counts : Counts) (left : State) → counts ≡ counts_of left → left ≡ after_entry server entry → counts.load ≡ load (after_entry (moment plan journal).server entry)
  load_reported counts left are is = ap (λ (c : Counts). c.load) (counts_reported counts left are is)

  pub busy_reported : (counts : Counts) (left : State) → counts ≡ counts_of left → left ≡ after_entry server entry → counts.busy ≡ busy_count (after_entry (moment plan journal).server entry)
  busy_reported counts left are is = ap (λ (c : Counts). c.busy) (counts_reported counts left are is)

  -- the run behind it
  pub run_more : (new : RunState) (bound : ℕ) (left : State) → length journal < plan.options.turn_limit → IsRunState plan (journal ++ entry ∷ []) new → HasRoomFor plan (journal ++ entry ∷ []) new → left ≡ after_entry server entry → left.made ≤ bound → IsRun plan (journal ++ entry ∷ []) new bound left
  run_more new bound left room kept more_room is made = record {
    runs = run.runs;
    kept = with.kept;
    bound = let more : length (journal ++ entry ∷ []) ≡ length journal + 1 = length-append journal (entry ∷ []) in omega (arith, more, room);
    run_state = kept;
    room = more_room;
    server = subst (IsAfter (state_at plan (journal ++ entry ∷ []))) (sym is) with.following;
    made = made;
  }

-- THE BEGINNING

pub run_begin : (plan : PlanData) (run_state : RunState) (server : State) → IsRunnable plan → server ≡ opening plan → IsRunState plan [] run_state → HasRoomFor plan [] run_state → IsRun plan [] run_state 0 server
unfolding state_after
run_begin plan run_state server runs is kept room = record {
  runs = runs;
  kept = kept_none plan;
  bound = omega arith;
  run_state = kept;
  room = room;
  server = subst (IsAfter (opening plan)) (sym is) (record { made = omega arith; same = refl });
  made = subst (λ (s : State). s.made ≤ 0) (sym is) (omega arith);
}
