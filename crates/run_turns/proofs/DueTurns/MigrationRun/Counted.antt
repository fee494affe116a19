-- What a turn in a session leaves to the counts.
use Rattle.std.proofs.Common.{◌≡◌, ℕ, ◌+◌, ◌≤◌, ◌==◌, Bool, true, false, not, ◌&&◌, ◌||◌, max, List, [], ◌∷◌, ◌++◌, cond, Option, Some, None, refl, sym, ap, ◌∙◌, subst, arith}
use Rattle.std.specs.Prelude.{count_by}
use Rattle.std.specs.Option.{option_map}
use Rattle.base_script.specs.declared.actor.Side.{Side}
use Rattle.base_script.specs.declared.actor.Side.TheVariants as sides
use Rattle.server_model.specs.declared.answer.Answer.TheVariants as answers
use Rattle.server_model.specs.declared.entry.Asked.{Asked}
use Rattle.server_model.specs.declared.entry.Asked.TheVariants.{Call, Poll, Command, Cut}
use Rattle.server_model.specs.declared.entry.Entry.{Entry}
use Rattle.server_model.specs.declared.session.Session.{Session}
use Rattle.server_model.specs.Entries.{is_client}
use Rattle.server_model.specs.States.{State, session_of, is_waiting, is_in_transaction, holds_tables, new_session, connected, passed, has_work, load}
use Rattle.server_model.specs.PlainServer.{serves, loses, state_left, number_drawn, given_at}
use Rattle.tool_program.specs.JournalWords.Journals.{opens_if, after_entry, heard, missed}
use Rattle.proof_journals.specs.Run.Counts.{IsAfter, numbered, kind_of, is_open, is_busy, busy_count, weight, weigh, others}
use Rattle.proof_journals.proofs.Run.Turns.{is_lost, kind_left, Leaves, turn_leaves, opened_kind, opened, entry_turned}
use Rattle.proof_journals.proofs.Run.Waits.{lost_at_once}
use Rattle.proof_journals.proofs.Run.Tallies.{tally, tally_is, tally_parts, load_turns, busy_turns}
use Rattle.run_turns.specs.declared.due_turns.migration_run.turn.Turn.{Turn}
use Rattle.run_turns.specs.declared.due_turns.migration_run.counting.Counts.{Counts}
use Rattle.run_turns.specs.DueTurns.MigrationRun.Sessions.{IsSessionOf}
use Rattle.run_turns.specs.DueTurns.MigrationRun.ServerTurns.{session_for, made_for, opened_on, answer_on, entry_on, is_lost_in, counts_of, MayTurn}
use Rattle.run_turns.proofs.DueTurns.MigrationRun.Connecting.{kind_live, left_before, drawn_before}

-- a session by whose it would be
none_there : (found : Option Session) → option_map (λ (s : Session). s.is_tool) found ≡ None → found ≡ None
none_there None is = refl
none_there (Some session) is = absurd (cc)

lost_same : (side : Option Side) (asked : Asked) → is_lost side asked ≡ is_lost_in side asked
lost_same None Cut = refl
lost_same None (Call request) = refl
lost_same None Poll = refl
lost_same None (Command word) = refl
lost_same (Some side) asked = refl

joined_here : (new : Session) (sessions : List Session) (number : ℕ) → (new.number == number) ≡ true → session_of number sessions ≡ None → session_of number (sessions ++ new ∷ []) ≡ Some new
joined_here new [] number is none = rw is refl
joined_here new (first ∷ sessions) number is none = by (first.number == number) none (joined_here new sessions number is)
  where
    by : (b : Bool) → cond b (Some first) (session_of number sessions) ≡ None → (session_of number sessions ≡ None → session_of number (sessions ++ new ∷ []) ≡ Some new) → cond b (Some first) (session_of number (sessions ++ new ∷ [])) ≡ Some new
    by true none rest = absurd (cc)
    by false none rest = rest none

module _ (state : State) (own : Option ℕ) (turn : Turn) (may : MayTurn state own turn) where
  abbrev number : ℕ
  number = session_for own state.made

  abbrev tool : Bool
  tool = not (is_client turn.actor)

  abbrev open_now : State
  open_now = opens_if false tool number state

  -- it is the one that is opened
  pub opened_is : opened_on state number turn ≡ open_now
  opened_is = ap (λ (b : Bool). opens_if b tool number state) may.called

  -- before the turn it is live on the server as it is, or none is
  data Before : Type 0 where
    Lives : kind_of number state.sessions ≡ Some tool → Before
    Fresh : session_of number state.sessions ≡ None → Before

  before : Before
  before = by own refl may.own
    where
      by : (session : Option ℕ) → own ≡ session → IsSessionOf state turn.actor session → Before
      by (Some session) is kind = Lives (subst (λ (o : Option ℕ). kind_of (session_for o state.made) state.sessions ≡ Some tool) (sym is) kind)
      by None is fresh = Fresh (subst (λ (o : Option ℕ). session_of (session_for o state.made) state.sessions ≡ None) (sym is) (none_there (session_of (state.made + 1) state.sessions) (fresh (state.made + 1) (omega arith))))

  -- whose it is, once it is live
  pub own_kind : kind_of number open_now.sessions ≡ Some tool
  own_kind = (opened false tool number state).own ∙ by before
    where
      by : Before → opened_kind false tool (kind_of number state.sessions) ≡ Some tool
      by (Lives kind) = rw kind refl
      by (Fresh none) = rw none refl

  -- what a session has that has just connected
  new_is : session_of number state.sessions ≡ None → open_now ≡ connected number tool state
  unfolding opens_if
  new_is none = rw none refl

  live_is : kind_of number state.sessions ≡ Some tool → open_now ≡ state
  unfolding opens_if
  live_is kind = rw (kind_live (session_of number state.sessions) tool kind) refl

  idle : session_of number state.sessions ≡ None → is_waiting state number ≡ false
  idle none = may.waits number (ap (option_map (λ (s : Session). s.is_tool)) none)

  new_found : session_of number state.sessions ≡ None → session_of number (connected number tool state).sessions ≡ Some (new_session number tool)
  new_found none = joined_here (new_session number tool) state.sessions number (Rattle.server_model.proofs.LockedRows.Tests.same_number number) none

  -- *A session that is opened adds nothing*
  pub open_still : weigh is_open (session_of number open_now.sessions) ≡ weigh is_open (session_of number state.sessions)
  open_still = by before
    where
      none_open : (b : Bool) → weight (b && false) ≡ 0
      none_open true = refl
      none_open false = refl

      by : Before → weigh is_open (session_of number open_now.sessions) ≡ weigh is_open (session_of number state.sessions)
      by (Lives kind) = ap (λ (s : State). weigh is_open (session_of number s.sessions)) (live_is kind)
      by (Fresh none) = ap (λ (s : State). weigh is_open (session_of number s.sessions)) (new_is none) ∙ ap (weigh is_open) (new_found none) ∙ none_open (not tool) ∙ ap (weigh is_open) (sym none)

  pub busy_still : weigh (is_busy open_now.waiting) (session_of number open_now.sessions) ≡ weigh (is_busy state.waiting) (session_of number state.sessions)
  busy_still = by before
    where
      none_busy : (a b : Bool) → b ≡ false → weight (a && (false || b)) ≡ 0
      none_busy true b is = rw is refl
      none_busy false b is = refl

      by : Before → weigh (is_busy open_now.waiting) (session_of number open_now.sessions) ≡ weigh (is_busy state.waiting) (session_of number state.sessions)
      by (Lives kind) = ap (λ (s : State). weigh (is_busy s.waiting) (session_of number s.sessions)) (live_is kind)
      by (Fresh none) =
          ap (λ (s : State). weigh (is_busy s.waiting) (session_of number s.sessions)) (new_is none)
          ∙ ap (weigh (is_busy state.waiting)) (new_found none)
          ∙ none_busy tool (is_waiting state number) (idle none)
          ∙ ap (weigh (is_busy state.waiting)) (sym none)

  pub work_still : has_work open_now number ≡ has_work state number
  work_still = by before
    where
      by : Before → has_work open_now number ≡ has_work state number
      by (Lives kind) = ap (λ (s : State). has_work s number) (live_is kind)
      by (Fresh none) =
          ap (λ (s : State). has_work s number) (new_is none)
          ∙ ap (λ (o : Option Session). is_in_transaction o || holds_tables o || is_waiting state number) (new_found none)
          ∙ ap (λ (o : Option Session). is_in_transaction o || holds_tables o || is_waiting state number) (sym none)

  -- BEHIND THE TURN

  abbrev after : State
  after = state_left turn.side open_now number turn.asked

  -- it is what the entry leaves
  pub entry_leaves : after_entry state (entry_on state number turn) ≡ after
  unfolding entry_on
  entry_leaves = ap (λ (s : State). state_left turn.side s number turn.asked) opened_is

  left_rec : Leaves (is_lost turn.side turn.asked) number open_now after
  left_rec =
      let left = turn_leaves turn.side open_now number turn.asked in
      record { turned = record { sessions = left.turned.sessions; waiting = left.turned.waiting; apart = left.turned.apart }; own = left.own; kinds = left.kinds; made = left.made; count = left.count }

  pub lost_gone : is_lost_in turn.side turn.asked ≡ true → session_of number after.sessions ≡ None
  lost_gone lost = none_there (session_of number after.sessions) (left_rec.own ∙ ap (λ (b : Bool). kind_left b (kind_of number open_now.sessions)) (lost_same turn.side turn.asked ∙ lost))

  pub left_kind : is_lost_in turn.side turn.asked ≡ false → kind_of number after.sessions ≡ Some tool
  left_kind left = left_rec.own ∙ ap (λ (b : Bool). kind_left b (kind_of number open_now.sessions)) (lost_same turn.side turn.asked ∙ left) ∙ own_kind

  -- *The counts behind it*
  part_of : (test : Session → Bool) → weigh test (session_of number state.sessions) ≤ count_by test state.sessions
  part_of test =
      let parts : tally test state.sessions ≡ tally test (others number state.sessions) + weigh test (session_of number state.sessions) = tally_parts test number state.sessions may.apart in
      let same : tally test state.sessions ≡ count_by test state.sessions = tally_is test state.sessions in
      omega (arith, parts, same)

  pub open_part : weigh is_open (session_of number open_now.sessions) ≤ load state
  open_part = rw open_still (part_of is_open)

  pub busy_part : weigh (is_busy open_now.waiting) (session_of number open_now.sessions) ≤ busy_count state
  busy_part = rw busy_still (part_of (is_busy state.waiting))

  pub counts_after : (counts : Counts) (before_open after_open before_busy after_busy : Bool) (reported : Counts) → counts ≡ counts_of state
      → weight before_open ≡ weigh is_open (session_of number open_now.sessions) → weight after_open ≡ weigh is_open (session_of number after.sessions)
      → weight before_busy ≡ weigh (is_busy open_now.waiting) (session_of number open_now.sessions) → weight after_busy ≡ weigh (is_busy after.waiting) (session_of number after.sessions)
      → reported.load + weight before_open ≡ counts.load + weight after_open → reported.busy + weight before_busy ≡ counts.busy + weight after_busy → reported ≡ counts_of after
  unfolding entry_on
  counts_after counts before_open after_open before_busy after_busy reported are bo ao bb ab loads busies = both loads_is busies_is
    where
      both : reported.load ≡ load after → reported.busy ≡ busy_count after → reported ≡ counts_of after
      both one two = λ i. record { load = one i; busy = two i }

      turned : load after + weigh is_open (session_of number state.sessions) ≡ load state + weigh is_open (session_of number after.sessions)
      turned = subst (λ (s : State). load s + weigh is_open (session_of number state.sessions) ≡ load state + weigh is_open (session_of number s.sessions)) entry_leaves
          (load_turns number state (after_entry state (entry_on state number turn)) (entry_turned state (entry_on state number turn)) may.apart)

      turned_busy : busy_count after + weigh (is_busy state.waiting) (session_of number state.sessions) ≡ busy_count state + weigh (is_busy after.waiting) (session_of number after.sessions)
      turned_busy = subst (λ (s : State). busy_count s + weigh (is_busy state.waiting) (session_of number state.sessions) ≡ busy_count state + weigh (is_busy s.waiting) (session_of number s.sessions)) entry_leaves
          (busy_turns number state (after_entry state (entry_on state number turn)) (entry_turned state (entry_on state number turn)) may.apart)

      loads_is : reported.load ≡ load after
      loads_is =
          let kept : counts.load ≡ load state = ap (λ (c : Counts). c.load) are in
          let still : weight before_open ≡ weigh is_open (session_of number state.sessions) = bo ∙ open_still in
          omega (arith, turned, kept, still, ao, loads)

      busies_is : reported.busy ≡ busy_count after
      busies_is =
          let kept : counts.busy ≡ busy_count state = ap (λ (c : Counts). c.busy) are in
          let still : weight before_busy ≡ weigh (is_busy state.waiting) (session_of number state.sessions) = bb ∙ busy_still in
          omega (arith, turned_busy, kept, still, ab, busies)

  -- WHERE THERE IS NO MEMORY

  after_itself : (one : State) → IsAfter one one
  after_itself one = record { made = omega arith; same = refl }

  kind_own : (session : ℕ) → own ≡ Some session → kind_of number state.sessions ≡ Some tool
  kind_own session is = subst (λ (o : Option ℕ). kind_of (session_for o state.made) state.sessions ≡ Some tool) (sym is) (subst (IsSessionOf state turn.actor) is may.own)

  pub still_after : (session : ℕ) → own ≡ Some session → IsAfter state open_now
  still_after session is = subst (IsAfter state) (sym (live_is (kind_own session is))) (after_itself state)

  pub none_before : own ≡ None → kind_of number state.sessions ≡ None
  none_before is = subst (λ (o : Option ℕ). kind_of (session_for o state.made) state.sessions ≡ None) (sym is) (fresh_of (subst (IsSessionOf state turn.actor) is may.own))
    where
      fresh_of : IsSessionOf state turn.actor None → kind_of (state.made + 1) state.sessions ≡ None
      fresh_of fresh = fresh (state.made + 1) (omega arith)

  pub none_waiting : own ≡ None → is_waiting state number ≡ false
  none_waiting is = may.waits number (none_before is)

  pub connected_after : own ≡ None → IsAfter (connected number tool state) open_now
  connected_after is = subst (IsAfter (connected number tool state)) (sym (new_is (none_there (session_of number state.sessions) (none_before is)))) (after_itself (connected number tool state))

  -- HOW MANY SESSIONS ARE MADE

  open_made : open_now.made ≡ made_for own state.made
  open_made = by own refl before
    where
      by : (session : Option ℕ) → own ≡ session → Before → open_now.made ≡ made_for own state.made
      by (Some session) is at = ap (λ (s : State). s.made) (live_is (kind_own session is)) ∙ ap (λ (o : Option ℕ). made_for o state.made) (sym is)
      by None is at =
          let made : open_now.made ≡ max state.made number = ap (λ (s : State). s.made) (new_is (none_there (session_of number state.sessions) (none_before is))) in
          let next : number ≡ state.made + 1 = ap (λ (o : Option ℕ). session_for o state.made) is in
          let last : made_for own state.made ≡ state.made + 1 = ap (λ (o : Option ℕ). made_for o state.made) is in
          omega (arith, made, next, last)

  pub made_open : open_now.made ≤ made_for own state.made
  made_open = omega (arith, open_made)

  pub made_after : after.made ≤ made_for own state.made
  made_after = omega (arith, open_made, left_rec.made)

  -- WHERE A NEW SESSION IS LOST BEFORE IT ASKS ANYTHING

  -- its number is used up
  pub passes : own ≡ None → turn.side ≡ Some sides.Before → passed state ≡ after
  passes none lost =
      let next : number ≡ state.made + 1 = ap (λ (o : Option ℕ). session_for o state.made) none in
      let most : max state.made number ≡ state.made + 1 = omega (arith, next) in
      sym
      (ap (λ (side : Option Side). state_left side open_now number turn.asked) lost
      ∙ left_before open_now number turn.asked
      ∙ ap (loses number) (new_is (none_there (session_of number state.sessions) (none_before none)))
      ∙ lost_at_once state number tool (none_before none) (none_waiting none)
      ∙ ap (λ (n : ℕ). numbered n state) most)

  -- WHAT IS TOLD

  module _ (one : State) (k : ℕ) (is : one ≡ opens_if false tool k state) (same : k ≡ number) where
    pub opened_now : one ≡ open_now
    opened_now = is ∙ ap (λ (n : ℕ). opens_if false tool n state) same

    pub given_reported : given_at turn.side turn.asked (serves one k turn.asked).answer ≡ answer_on state number turn
    given_reported =
        ap (λ (s : State). given_at turn.side turn.asked (serves s k turn.asked).answer) (opened_now ∙ sym opened_is)
        ∙ ap (λ (n : ℕ). given_at turn.side turn.asked (serves (opened_on state number turn) n turn.asked).answer) same

    pub draw_reported : number_drawn turn.side one k turn.asked ≡ number_drawn turn.side (opened_on state number turn) number turn.asked
    draw_reported = ap (λ (s : State). number_drawn turn.side s k turn.asked) (opened_now ∙ sym opened_is) ∙ ap (λ (n : ℕ). number_drawn turn.side (opened_on state number turn) n turn.asked) same

    pub leaves_after : state_left turn.side one k turn.asked ≡ after
    leaves_after = ap (λ (s : State). state_left turn.side s k turn.asked) opened_now ∙ ap (λ (n : ℕ). state_left turn.side open_now n turn.asked) same

    pub leaves_reported : state_left turn.side one k turn.asked ≡ after_entry state (entry_on state number turn)
    leaves_reported = leaves_after ∙ sym entry_leaves

    pub kind_reported : kind_of k one.sessions ≡ Some tool
    kind_reported = ap (λ (s : State). kind_of k s.sessions) opened_now ∙ ap (λ (n : ℕ). kind_of n open_now.sessions) same ∙ own_kind

    pub work_reported : has_work one k ≡ has_work state number
    work_reported = ap (λ (s : State). has_work s k) opened_now ∙ ap (has_work open_now) same ∙ work_still

    pub open_reported : weigh is_open (session_of k one.sessions) ≡ weigh is_open (session_of number open_now.sessions)
    open_reported = ap (λ (s : State). weigh is_open (session_of k s.sessions)) opened_now ∙ ap (λ (n : ℕ). weigh is_open (session_of n open_now.sessions)) same

    pub busy_reported : weigh (is_busy one.waiting) (session_of k one.sessions) ≡ weigh (is_busy open_now.waiting) (session_of number open_now.sessions)
    busy_reported = ap (λ (s : State). weigh (is_busy s.waiting) (session_of k s.sessions)) opened_now ∙ ap (λ (n : ℕ). weigh (is_busy open_now.waiting) (session_of n open_now.sessions)) same

    -- behind a turn whose answer came
    module _ (left : State) (leaves_so : left ≡ state_left turn.side one k turn.asked) where
      left_after : left ≡ after
      left_after = leaves_so ∙ leaves_after

      pub gone_reported : is_lost_in turn.side turn.asked ≡ true → session_of k left.sessions ≡ None
      gone_reported lost = ap (λ (s : State). session_of k s.sessions) left_after ∙ ap (λ (n : ℕ). session_of n after.sessions) same ∙ lost_gone lost

      pub stays_reported : is_lost_in turn.side turn.asked ≡ false → kind_of k left.sessions ≡ Some tool
      stays_reported unlost = ap (λ (s : State). kind_of k s.sessions) left_after ∙ ap (λ (n : ℕ). kind_of n after.sessions) same ∙ left_kind unlost

      pub made_reported : left.made ≤ made_for own state.made
      made_reported = subst (λ (s : State). s.made ≤ made_for own state.made) (sym left_after) made_after

      pub counts_reported : (counts : Counts) (before_open after_open before_busy after_busy : Bool) (reported : Counts) → counts ≡ counts_of state
          → weight before_open ≡ weigh is_open (session_of k one.sessions) → weight after_open ≡ weigh is_open (session_of k left.sessions)
          → weight before_busy ≡ weigh (is_busy one.waiting) (session_of k one.sessions) → weight after_busy ≡ weigh (is_busy left.waiting) (session_of k left.sessions)
          → reported.load + weight before_open ≡ counts.load + weight after_open → reported.busy + weight before_busy ≡ counts.busy + weight after_busy → reported ≡ counts_of left
      counts_reported counts before_open after_open before_busy after_busy reported are bo ao bb ab loads busies =
          counts_after counts before_open after_open before_busy after_busy reported are (bo ∙ open_reported)
          (ao ∙ ap (λ (s : State). weigh is_open (session_of k s.sessions)) left_after ∙ ap (λ (n : ℕ). weigh is_open (session_of n after.sessions)) same)
          (bb ∙ busy_reported)
          (ab ∙ ap (λ (s : State). weigh (is_busy s.waiting) (session_of k s.sessions)) left_after ∙ ap (λ (n : ℕ). weigh (is_busy after.waiting) (session_of n after.sessions)) same)
          loads busies
          ∙ ap counts_of (sym left_after)

    -- where none came
    module _ (left : State) (still : (session : ℕ) → own ≡ Some session → left ≡ one) (gone : own ≡ None → (reported : State) (kind : Bool) → kind_of k reported.sessions ≡ None → is_waiting reported k ≡ false → IsAfter (connected k kind reported) one → IsAfter reported left) (made : left.made ≡ one.made) where
      pub err_after : IsAfter state left
      err_after = by own refl
        where
          by : (session : Option ℕ) → own ≡ session → IsAfter state left
          by (Some session) at = subst (IsAfter state) (sym (still session at ∙ opened_now)) (still_after session at)
          by None at =
              gone at state tool (ap (λ (n : ℕ). kind_of n state.sessions) same ∙ none_before at) (ap (is_waiting state) same ∙ none_waiting at)
              (subst (λ (s : State). IsAfter (connected k tool state) s) (sym opened_now) (subst (λ (n : ℕ). IsAfter (connected n tool state) open_now) (sym same) (connected_after at)))

      pub err_made : left.made ≤ made_for own state.made
      err_made = subst (λ (n : ℕ). n ≤ made_for own state.made) (sym (made ∙ ap (λ (s : State). s.made) opened_now)) made_open

-- the entry, part by part
pub entry_same : (state : State) (session : ℕ) (turn : Turn) (entry : Entry) → entry.actor ≡ turn.actor → entry.session ≡ session → entry.asked ≡ turn.asked → entry.side ≡ turn.side → entry.answer ≡ heard turn.side (answer_on state session turn) → entry.missed ≡ missed turn.side (answer_on state session turn) → entry.draw ≡ number_drawn turn.side (opened_on state session turn) session turn.asked
    → entry ≡ entry_on state session turn
unfolding entry_on
entry_same state session turn entry actor number asked side answer missed draw = λ i. record { actor = actor i; session = number i; asked = asked i; side = side i; answer = answer i; missed = missed i; draw = draw i }

-- that of a turn which is lost before what it asks is done
pub passed_entry : (state : State) (session : ℕ) (turn : Turn) (entry : Entry) → turn.side ≡ Some sides.Before → entry.actor ≡ turn.actor → entry.session ≡ session → entry.asked ≡ turn.asked → entry.side ≡ turn.side → entry.answer ≡ answers.Lost → entry.missed ≡ None → entry.draw ≡ None → entry ≡ entry_on state session turn
passed_entry state session turn entry lost actor number asked side answer none undrawn =
    entry_same state session turn entry actor number asked side
    (answer ∙ sym (ap (λ (s : Option Side). heard s (answer_on state session turn)) lost))
    (none ∙ sym (ap (λ (s : Option Side). missed s (answer_on state session turn)) lost))
    (undrawn ∙ sym (drawn_before (opened_on state session turn) session turn.asked) ∙ sym (ap (λ (s : Option Side). number_drawn s (opened_on state session turn) session turn.asked) lost))
