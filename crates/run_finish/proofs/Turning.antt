-- One turn of the new tool more.
use Rattle.std.proofs.Common.{◌≡◌, ◌≢◌, ◌≤◌, ◌<◌, ℕ, ◌+◌, Bool, true, false, not, List, [], ◌∷◌, ◌++◌, length, map, take, drop, Option, Some, None, refl, sym, ap, ◌∙◌, subst, arith}
use Rattle.std.specs.Prelude.{is_some}
use Rattle.std.proofs.lemmas.Bool.{true≢false, false≢true}
use Rattle.std.proofs.lemmas.List.{length-append, take-append-drop, take-append-le, drop-append-le}
use Rattle.base_script.specs.declared.actor.Actor.{Actor}
use Rattle.base_script.specs.declared.actor.Side.{Side}
use Rattle.server_model.specs.Along.{Along-more}
use Rattle.server_model.specs.declared.entry.Asked.{Asked}
use Rattle.server_model.specs.declared.entry.Asked.TheVariants.{Call, Cut}
use Rattle.server_model.specs.declared.entry.Entry.{Entry}
use Rattle.server_model.specs.declared.request.Request.{Request}
use Rattle.server_model.specs.Conditions.{MayCall, MayLose}
use Rattle.server_model.specs.Entries.{is_client, is_command, is_cut}
use Rattle.server_model.specs.States.{State, session_of}
use Rattle.plan_data.specs.PlanData.{PlanData}
use Rattle.tool_finish.specs.Callable.{IsFinishable}
use Rattle.tool_finish.specs.declared.stage.Stage.{Stage}
use Rattle.tool_finish.specs.Finishes.{next, stage_behind, IsFinishTurn, IsFinish}
use Rattle.tool_program.specs.JournalWords.Journals.{opens, opens_if, state_at, after_entry, IsAnswered, IsFaithful}
use Rattle.tool_program.specs.JournalWords.Sessions.{live_session, IsInSession, IsSeated, KeepsSessions}
use Rattle.tool_program.specs.Orders.{actors}
use Rattle.proof_journals.specs.Machine.Standings.{opened_for}
use Rattle.proof_journals.specs.Run.Counts.{numbered, IsAfter}
use Rattle.run_turns.specs.declared.due_turns.migration_run.counting.Counts.{Counts}
use Rattle.run_turns.specs.declared.due_turns.migration_run.turn.Turn.{Turn}
use Rattle.run_turns.specs.DueTurns.MigrationRun.Requests.{MayAsk}
use Rattle.run_turns.specs.DueTurns.MigrationRun.ServerTurns.{session_for, entry_on, counts_of, MayTurn}
use Rattle.run_turns.specs.DueTurns.Due.{session_at, next_entry}
use Rattle.run_turns.proofs.DueTurns.MigrationRun.Connecting.{kind_live, may_lose}
use Rattle.run_turns.proofs.DueTurns.Turning.{living, stays_open, asked_may, answered, seated, goes_after}
use Rattle.run_turns.proofs.RunTurns.Served.{session_is, counts_after}
use Rattle.run_finish.specs.declared.sessions.LiveSession.{LiveSession}
use Rattle.run_finish.specs.Sessions.{session_after}
use Rattle.run_finish.specs.Invariants.{IsGoing}
use Rattle.run_finish.proofs.Parts.{Asks, Cuts, Calls, next_asks, drop_run}
use Rattle.run_finish.proofs.LiveOnes.{IsAmong, first_lives, first_among_all, sessions_more}

module _ (plan : PlanData) (run turns : List Entry) (server : State) (turn : Turn) (finishable : IsFinishable plan run) (finish : IsFinish plan run turns) (faithful : IsFaithful plan (run ++ turns)) (kept : KeepsSessions (run ++ turns)) (following : IsAfter (state_at plan (run ++ turns)) server) (comes : next plan (run ++ turns) (stage_behind plan run turns) ≡ Some (turn.actor, turn.asked)) (unlost : turn.side ≡ None) where
  abbrev journal : List Entry
  journal = run ++ turns

  abbrev now : State
  now = state_at plan journal

  abbrev live : Option ℕ
  live = live_session journal turn.actor

  abbrev n : ℕ
  n = session_for live server.made

  abbrev entry : Entry
  entry = next_entry journal server turn

  asks : Asks plan journal turn.actor turn.asked
  asks = next_asks plan journal turn.actor turn.asked (stage_behind plan run turns) comes

  pub among : IsAmong turn.actor (actors plan)
  among = by asks
    where
      by : Asks plan journal turn.actor turn.asked → IsAmong turn.actor (actors plan)
      by (Cuts cut first) = first_among_all plan journal turn.actor first
      by (Calls request call there) = there

  -- who is lost has a session
  cut_lives : turn.asked ≡ Cut → live ≢ None
  cut_lives cut none = by asks
    where
      by : Asks plan journal turn.actor turn.asked → ⊥
      by (Cuts same first) = false≢true (sym (ap is_some none) ∙ first_lives plan journal turn.actor first)
      by (Calls request call there) = true≢false (ap is_cut (sym cut ∙ call))

  called : is_command turn.asked ≡ false
  called = by asks
    where
      by : Asks plan journal turn.actor turn.asked → is_command turn.asked ≡ false
      by (Cuts same first) = ap is_command same
      by (Calls request call there) = ap is_command call

  -- ITS ENTRY

  entry_actor : entry.actor ≡ turn.actor
  unfolding entry_on
  entry_actor = refl

  entry_asked : entry.asked ≡ turn.asked
  unfolding entry_on
  entry_asked = refl

  entry_side : entry.side ≡ None
  unfolding entry_on
  entry_side = unlost

  entry_session : entry.session ≡ n
  unfolding entry_on
  entry_session = session_is turn.asked live server.made called

  in_session : IsInSession journal entry entry.asked (live_session journal entry.actor)
  unfolding entry_on
  in_session = seated plan journal server turn faithful kept following cut_lives

  finish_turn : IsFinishTurn plan run journal entry
  finish_turn = record {
    given =
        ap (λ (all : List Entry). next plan journal (stage_behind plan run all)) (drop_run run turns)
        ∙ comes ∙ ap (λ (a : Actor). Some (a, turn.asked)) (sym entry_actor) ∙ ap (λ (a : Asked). Some (entry.actor, a)) (sym entry_asked);
    session = in_session;
    side = entry_side;
  }

  pub finish_more : IsFinish plan run (turns ++ entry ∷ [])
  unfolding IsFinish
  finish_more = Along-more (IsFinishTurn plan run) run turns entry finish finish_turn

  pub faithful_more : IsFaithful plan (journal ++ entry ∷ [])
  faithful_more = Along-more (λ before one. IsAnswered (state_at plan before) one) [] journal entry faithful (answered plan journal server turn faithful kept following (λ lost. unlost))

  pub kept_more : KeepsSessions (journal ++ entry ∷ [])
  unfolding KeepsSessions
  kept_more = Along-more IsSeated [] journal entry kept (record { session = in_session })

  pub following_more : IsAfter (state_at plan (journal ++ entry ∷ [])) (after_entry server entry)
  following_more = goes_after plan journal server turn faithful kept following

  -- THAT IT MAY BE TAKEN

  cut_may : (own : Option ℕ) → live ≡ own → turn.asked ≡ Cut → MayLose (opened_for plan journal turn.actor n) n None Cut
  cut_may None none cut = absurd (cut_lives cut none)
  cut_may (Some own) is cut =
      let at = stays_open plan journal server turn faithful kept following own is in
      let lives = kind_live (session_of own now.sessions) (not (is_client turn.actor)) ((living plan journal server turn faithful kept following).kinds turn.actor own is) in
      subst (λ (s : State). MayLose s n None Cut) (sym at.1) (subst (λ (k : ℕ). MayLose now k None Cut) (sym at.0) (may_lose now own lives))

  opens_is : opens entry now ≡ opened_for plan journal turn.actor n
  unfolding entry_on
  opens_is =
      ap (λ (b : Bool). opens_if b (not (is_client turn.actor)) (session_at turn.asked live server.made) now) called
      ∙ ap (λ (k : ℕ). opens_if false (not (is_client turn.actor)) k now) (session_is turn.asked live server.made called)

  call_may : (request : Request) → turn.asked ≡ Call request → MayCall (opened_for plan journal turn.actor n) n request
  call_may request call =
      subst (λ (k : ℕ). MayCall (opened_for plan journal turn.actor n) k request) entry_session
      (subst (λ (s : State). MayCall s entry.session request) opens_is (finishable turns entry request faithful kept finish_more (entry_asked ∙ call)))

  ask_may : MayAsk (opened_for plan journal turn.actor n) n turn.side turn.asked
  ask_may = subst (λ (side : Option Side). MayAsk (opened_for plan journal turn.actor n) n side turn.asked) (sym unlost) (by asks)
    where
      by : Asks plan journal turn.actor turn.asked → MayAsk (opened_for plan journal turn.actor n) n None turn.asked
      by (Cuts cut first) = subst (MayAsk (opened_for plan journal turn.actor n) n None) (sym cut) (cut_may live refl cut)
      by (Calls request call there) = subst (MayAsk (opened_for plan journal turn.actor n) n None) (sym call) (call_may request call)

  -- *It may be taken*
  pub turn_may : server.made ≤ 4294967295 → (live ≡ None → server.made < 4294967295) → MayTurn server live turn
  turn_may made room = asked_may plan journal server turn faithful kept following made room called ask_may

-- THE WHOLE JOURNAL

-- what holds with the turn
pub record More (plan : PlanData) (run turns journal : List Entry) (server : State) (turn : Turn) : Type 0 where
  pub finish : IsFinish plan run (turns ++ next_entry journal server turn ∷ [])
  pub faithful : IsFaithful plan (journal ++ next_entry journal server turn ∷ [])
  pub kept : KeepsSessions (journal ++ next_entry journal server turn ∷ [])
  pub following : IsAfter (state_at plan (journal ++ next_entry journal server turn ∷ [])) (after_entry server (next_entry journal server turn))
  pub there : IsAmong turn.actor (actors plan)
  pub called : is_command turn.asked ≡ false
  pub may : server.made ≤ 4294967295 → (live_session journal turn.actor ≡ None → server.made < 4294967295) → MayTurn server (live_session journal turn.actor) turn

module _ (plan : PlanData) (count : ℕ) (journal : List Entry) (tables : List (List ℕ)) (live : List LiveSession) (counted : Counts) (most : ℕ) (stage : Stage) (server : State) (turn : Turn) (going : IsGoing plan count journal tables live counted most stage false server) (comes : next plan journal stage ≡ Some (turn.actor, turn.asked)) (unlost : turn.side ≡ None) where
  abbrev ran : List Entry
  ran = take count journal

  abbrev new : List Entry
  new = drop count journal

  whole : ran ++ new ≡ journal
  whole = take-append-drop count journal

  pub more : More plan ran new journal server turn
  more = subst (λ (all : List Entry). More plan ran new all server turn) whole (record {
    finish = finish_more plan ran new server turn going.finishable going.finish faithful_at kept_at following_at comes_at unlost;
    faithful = faithful_more plan ran new server turn going.finishable going.finish faithful_at kept_at following_at comes_at unlost;
    kept = kept_more plan ran new server turn going.finishable going.finish faithful_at kept_at following_at comes_at unlost;
    following = following_more plan ran new server turn going.finishable going.finish faithful_at kept_at following_at comes_at unlost;
    there = among plan ran new server turn going.finishable going.finish faithful_at kept_at following_at comes_at unlost;
    called = called plan ran new server turn going.finishable going.finish faithful_at kept_at following_at comes_at unlost;
    may = turn_may plan ran new server turn going.finishable going.finish faithful_at kept_at following_at comes_at unlost;
  })
    where
      faithful_at : IsFaithful plan (ran ++ new)
      faithful_at = subst (IsFaithful plan) (sym whole) going.faithful

      kept_at : KeepsSessions (ran ++ new)
      kept_at = subst KeepsSessions (sym whole) going.kept

      following_at : IsAfter (state_at plan (ran ++ new)) server
      following_at = subst (λ (all : List Entry). IsAfter (state_at plan all) server) (sym whole) going.following

      comes_at : next plan (ran ++ new) (stage_behind plan ran new) ≡ Some (turn.actor, turn.asked)
      comes_at = ap (λ (all : List Entry). next plan all (stage_behind plan ran new)) whole ∙ ap (next plan journal) (sym going.stage) ∙ comes

  abbrev latest : Entry
  latest = next_entry journal server turn

  abbrev grown : List Entry
  grown = journal ++ latest ∷ []

  run_still : take count grown ≡ ran
  run_still = take-append-le count journal (latest ∷ []) going.bound

  turns_more : drop count grown ≡ new ++ latest ∷ []
  turns_more = drop-append-le count journal (latest ∷ []) going.bound

  -- *It goes on*
  pub going_more : (counts : Counts) (made : ℕ) (left : State) → counts ≡ counts_of left → left ≡ after_entry server latest → left.made ≤ made → IsGoing plan count grown tables (map (session_after latest) live) counts made stage true left
  going_more counts made left counts_are left_is few = record {
    finishable = subst (IsFinishable plan) (sym run_still) going.finishable;
    bound = let count_is : length grown ≡ length journal + 1 = length-append journal (latest ∷ []) in let before : count ≤ length journal = going.bound in omega (arith, count_is, before);
    finish = subst (λ (r : List Entry). IsFinish plan r (drop count grown)) (sym run_still) (subst (IsFinish plan ran) (sym turns_more) more.finish);
    faithful = more.faithful;
    kept = more.kept;
    following = subst (IsAfter (state_at plan grown)) (sym left_is) more.following;
    names = going.names;
    sessions = ap (map (session_after latest)) going.sessions ∙ sessions_more plan journal latest;
    counts = counts_are;
    made = few;
    stage = record { before = new; entry = latest; last = turns_more; at = going.stage ∙ ap (λ (r : List Entry). stage_behind plan r new) (sym run_still) };
  }

-- *All stays*, where no turn is taken
pub going_still : (plan : PlanData) (count : ℕ) (journal : List Entry) (tables : List (List ℕ)) (live : List LiveSession) (counted : Counts) (most : ℕ) (stage : Stage) (answered : Bool) (server : State) (made : ℕ) (left : State)
    → IsGoing plan count journal tables live counted most stage answered server → IsAfter server left → left.made ≤ made → IsGoing plan count journal tables live counted made stage answered left
going_still plan count journal tables live counted most stage answered server made left going following few = record {
  finishable = going.finishable;
  bound = going.bound;
  finish = going.finish;
  faithful = going.faithful;
  kept = going.kept;
  following = after_after (state_at plan journal) server left going.following following;
  names = going.names;
  sessions = going.sessions;
  counts = going.counts ∙ sym (counts_after server left following);
  made = few;
  stage = going.stage;
}
  where
    after_after : (first second third : State) → IsAfter first second → IsAfter second third → IsAfter first third
    after_after first second third one two = record { made = let a : first.made ≤ second.made = one.made in let b : second.made ≤ third.made = two.made in omega (arith, a, b); same = two.same ∙ ap (numbered third.made) one.same }

-- *The last answer is taken*
pub going_read : (plan : PlanData) (count : ℕ) (all : List Entry) (tables : List (List ℕ)) (lives : List LiveSession) (counted : Counts) (most : ℕ) (stage later : Stage) (answered : Bool) (server : State)
    → IsGoing plan count all tables lives counted most stage answered server → later ≡ stage_behind plan (take count all) (drop count all) → IsGoing plan count all tables lives counted most later false server
going_read plan count all tables lives counted most stage later answered server going is = record {
  finishable = going.finishable;
  bound = going.bound;
  finish = going.finish;
  faithful = going.faithful;
  kept = going.kept;
  following = going.following;
  names = going.names;
  sessions = going.sessions;
  counts = going.counts;
  made = going.made;
  stage = is;
}
