-- A wait of the tool's: the journal has a call that was made to wait, and then each poll that was counted.
use Rattle.server_model.specs.PlainServer.{recounted, counters_left}
use Rattle.std.proofs.Common.{◌≡◌, ℕ, suc, ◌+◌, ◌-◌, ◌==◌, Bool, true, false, cond, not, ◌&&◌, List, [], ◌∷◌, ◌++◌, Option, Some, None, refl, sym, ap, ◌∙◌, subst, arith}
use Rattle.std.specs.Prelude.{filter, reverse}
use Rattle.std.specs.List.{slice_get}
use Rattle.std.specs.Option.{option_map}
use Rattle.std.proofs.Math.Numerals.{add-one}
use Rattle.std.proofs.lemmas.Bool.{true≢false}
use Rattle.std.proofs.lemmas.Bool.Decides.{nat_tests}
use Rattle.std.proofs.lemmas.List.{reverse-append, append-nil}
use Rattle.std.proofs.lemmas.List.Elements.{filter-append}
use Rattle.base_script.specs.declared.actor.Actor.{Actor}
use Rattle.base_script.specs.declared.actor.Actor.TheVariants.{Op, Insp, Copy, Apply, Lock, Ren, Client}
use Rattle.base_script.specs.declared.actor.Side.{Side}
use Rattle.base_script.specs.declared.operator.OperatorWord.{OperatorWord}
use Rattle.server_model.specs.declared.answer.Answer.{Answer}
use Rattle.server_model.specs.declared.answer.Answer.TheVariants as answers
use Rattle.server_model.specs.declared.entry.Asked.{Asked}
use Rattle.server_model.specs.declared.entry.Asked.TheVariants.{Call, Poll, Command, Cut}
use Rattle.server_model.specs.declared.entry.Entry.{Entry}
use Rattle.server_model.specs.declared.request.Request.{Request}
use Rattle.server_model.specs.declared.session.Session.{Session}
use Rattle.server_model.specs.declared.session.Waiting.{Waiting}
use Rattle.server_model.specs.Answers.{ok}
use Rattle.server_model.specs.Entries.{same_actor, is_client, is_command}
use Rattle.server_model.specs.Blockers.{need, blocker}
use Rattle.server_model.specs.PlainServer.{done, without_waiting, counting, called_unless, calls, limit_if, is_over, polled_over, polled_unless, polled_of, polls, serves, leaves}
use Rattle.server_model.specs.States.{State, session_of, with_session, waiting_of, polls_of, is_of_tool}
use Rattle.plan_data.specs.PlanData.{PlanData}
use Rattle.tool_program.specs.JournalWords.Journals.{state_at, opens}
use Rattle.tool_program.specs.JournalWords.KeptPlans.{words_of}
use Rattle.tool_program.specs.JournalWords.Sessions.{live_session, session_left}
use Rattle.tool_program.specs.CutoverCore.CutOvers.{is_wait}
use Rattle.tool_program.specs.Failures.{is_call, is_poll, waited_for}
use Rattle.tool_program.specs.Programs.{commands, given, IsGiven}
use Rattle.tool_program.specs.Tools.{moment}
use Rattle.proof_journals.specs.Turns.{request_of}
use Rattle.proof_journals.proofs.Actors.{same_actor_is, same_actor_itself, live_more, Placed, Commands, GoesOn, Begins, placed, others_differ, lost_left}
use Rattle.proof_journals.proofs.Faces.{changed_here}
use Rattle.proof_journals.proofs.Journals.{done_waits, opened_waits}
use Rattle.proof_journals.proofs.Waiting.{IsDone, done_answers, filter_gone}
use Rattle.server_model.proofs.LockedRows.Tests.{same_number, turned}
use Rattle.proof_journals.specs.Run.Laws.{Living}
use Rattle.proof_journals.specs.Machine.Standings.{standing_of}
use Rattle.proof_journals.proofs.Machine.Journals.{IsRun, IsTogether, Asking, calls_so, polls_so, asking}
use Rattle.proof_journals.proofs.Machine.Seated.{IsServed, opened_old, is_open, state_more, session_there, request_there, own_waiting, own_given, own_missed}
use Rattle.proof_migration.proofs.Attempt.Verdicts.Limits.{tool_waits}

-- a session's turns, the last one first
abbrev pub turns_in : ℕ → List Entry → List Entry
turns_in n journal = reverse (filter (λ other. other.session == n) journal)

-- what waits in a session of the tool's was called, and polled as often as is counted
abbrev pub WaitsCount : PlanData → List Entry → Type 0
WaitsCount plan journal =
    (a : Actor) (n : ℕ) (w : Waiting) → is_client a ≡ false → live_session journal a ≡ Some n → waiting_of n (state_at plan journal).waiting ≡ Some w
    → waited_for (polls_of (session_of n (state_at plan journal).sessions)) (turns_in n journal) ≡ true

-- a wait is over: the session was polled as often as the tool may wait
pub record IsOverdue (plan : PlanData) (journal : List Entry) (session waited : ℕ) : Type 0 where
  pub over : waited ≡ plan.options.tool_wait
  pub polls : waited_for (plan.options.tool_wait - 1) (turns_in session journal) ≡ true

left_is : (asked : Asked) (answer : Answer) (session n : ℕ) → session_left asked answer session ≡ Some n → session ≡ n
left_is (Command word) answer session n is = absurd cc
left_is (Call request) answers.Lost session n is = absurd cc
left_is Poll answers.Lost session n is = absurd cc
left_is Cut answers.Lost session n is = absurd cc
left_is (Call request) answer session n is = cc
left_is Poll answer session n is = cc
left_is Cut answer session n is = cc

never_timed : (answer : Answer) (waited : ℕ) → IsDone answer → answer ≡ answers.TimedOut waited → ⊥
never_timed answer waited done same = subst IsDone same done

module _ (plan : PlanData) (journal : List Entry) (entry : Entry) (together : IsTogether plan journal) (run : IsRun plan journal entry) (counts : WaitsCount plan journal) where
  abbrev now : State
  now = state_at plan journal

  abbrev open_now : State
  open_now = opens entry now

  abbrev more : List Entry
  more = journal ++ entry ∷ []

  abbrev own : ℕ
  own = entry.session

  served : IsServed plan journal entry
  served = record { answered = run.answered; seated = record { session = run.followed.session } }

  at : Placed journal entry
  at = placed journal entry served.seated

  turns_more : (n : ℕ) → turns_in n more ≡ cond (own == n) (entry ∷ turns_in n journal) (turns_in n journal)
  turns_more n = ap reverse (filter-append (λ other. other.session == n) journal (entry ∷ [])) ∙ by (own == n) where
    by : (b : Bool) → reverse (filter (λ other. other.session == n) journal ++ cond b (entry ∷ []) []) ≡ cond b (entry ∷ turns_in n journal) (turns_in n journal)
    by true = reverse-append (filter (λ other. other.session == n) journal) (entry ∷ [])
    by false = ap reverse (append-nil (filter (λ other. other.session == n) journal))

  own_turns : turns_in own more ≡ entry ∷ turns_in own journal
  own_turns = turns_more own ∙ ap (λ (b : Bool). cond b (entry ∷ turns_in own journal) (turns_in own journal)) (same_number own)

  -- ANOTHER ACTOR

  other_counts : (a : Actor) (n : ℕ) (w : Waiting) → same_actor entry.actor a ≡ false → is_client a ≡ false → live_session more a ≡ Some n → waiting_of n (state_at plan more).waiting ≡ Some w → waited_for (polls_of (session_of n (state_at plan more).sessions)) (turns_in n more) ≡ true
  other_counts a n w differ tool lives is =
      ap (λ (s : Option Session). waited_for (polls_of s) (turns_in n more)) (session_there plan journal entry together.known served n differs)
      ∙ ap (waited_for (polls_of (session_of n now.sessions))) (turns_more n ∙ ap (λ (b : Bool). cond b (entry ∷ turns_in n journal) (turns_in n journal)) (turned n own differs))
      ∙ counts a n w tool before (sym (request_there plan journal entry together.known served n differs) ∙ is) where
        before : live_session journal a ≡ Some n
        before = sym (ap (λ (b : Bool). cond b (session_left entry.asked entry.answer own) (live_session journal a)) differ) ∙ sym (live_more journal entry a) ∙ lives

        differs : (n == own) ≡ false
        differs = others_differ journal entry together.known.sessions at a n differ before

  -- ITS OWN SESSION

  open_waits : open_now.waiting ≡ now.waiting
  open_waits = opened_waits (is_command entry.asked) (not (is_client entry.actor)) own now

  -- the state, where the session isn't lost
  after_is : entry.side ≡ None → (asked : Asked) → entry.asked ≡ asked → state_at plan more ≡ recounted (counters_left None open_now own asked) (serves open_now own asked).after
  after_is no_side asked asks = state_more plan journal entry ∙ ap (λ (side : Option Side). recounted (counters_left side open_now own entry.asked) (leaves side open_now own entry.asked)) no_side ∙ ap (λ (a : Asked). recounted (counters_left None open_now own a) (serves open_now own a).after) asks

  answer_is : entry.side ≡ None → (asked : Asked) → entry.asked ≡ asked → entry.answer ≡ (serves open_now own asked).answer
  answer_is no_side asked asks = sym (own_given plan journal entry together.known served no_side) ∙ ap (λ (a : Asked). (serves open_now own a).answer) asks

  -- what waits there was there before the turn: the session was live
  was_live : entry.asked ≡ Poll → (old : Waiting) → waiting_of own now.waiting ≡ Some old → live_session journal entry.actor ≡ Some own
  was_live asks old is = by at where
    no : None ≡ Some old → ⊥
    no same = cc

    by : Placed journal entry → live_session journal entry.actor ≡ Some own
    by (Commands command zero) = absurd (true≢false (sym command ∙ ap is_command asks))
    by (GoesOn called lives) = lives
    by (Begins called uncut none above) = absurd (no (sym (together.known.unasked own above) ∙ is))

  still_open : live_session journal entry.actor ≡ Some own → open_now ≡ now
  still_open lives = opened_old (is_command entry.asked) (not (is_client entry.actor)) own now (together.known.live entry.actor own lives)

  -- a tool's actor that calls doesn't wait
  idle : is_client entry.actor ≡ false → (request : Request) → entry.asked ≡ Call request → waiting_of own now.waiting ≡ None
  unfolding given
  idle tool request asks = none (waiting_of own now.waiting) (own_waiting plan journal entry together.known served (ap is_command asks) ∙ by entry.actor tool (subst (λ (a : Asked). IsGiven plan journal entry a) asks run.followed.given)) where
    none : (found : Option Waiting) → request_of found ≡ None → found ≡ None
    none None is = refl
    none (Some w) is = absurd cc

    asked_so : (actor : Actor) → Asking plan journal actor (Call request) → (standing_of plan journal actor).waits ≡ None
    asked_so actor (calls_so other same idle call) = idle
    asked_so actor (polls_so other same some) = absurd cc

    by : (actor : Actor) → is_client actor ≡ false → given plan journal actor ≡ Some (Call request) → (standing_of plan journal actor).waits ≡ None
    by Op tool gives = absurd (no (slice_get (words_of plan) (moment plan journal).tool.operator.taken) gives) where
      no : (word : Option OperatorWord) → commands word ≡ Some (Call request) → ⊥
      no None same = cc
      no (Some word) same = cc
    by Insp tool gives = asked_so Insp (asking plan journal Insp (Call request) together.server gives)
    by Copy tool gives = asked_so Copy (asking plan journal Copy (Call request) together.server gives)
    by Apply tool gives = asked_so Apply (asking plan journal Apply (Call request) together.server gives)
    by Lock tool gives = asked_so Lock (asking plan journal Lock (Call request) together.server gives)
    by Ren tool gives = asked_so Ren (asking plan journal Ren (Call request) together.server gives)
    by (Client c) tool gives = absurd (true≢false tool)

  abbrev Counted : Type 0
  Counted = waited_for (polls_of (session_of own (state_at plan more).sessions)) (entry ∷ turns_in own journal) ≡ true

  none_left : {A : Type 0} (w : Waiting) → waiting_of own (state_at plan more).waiting ≡ Some w → waiting_of own (state_at plan more).waiting ≡ None → A
  none_left w is none = absurd (no (sym none ∙ is)) where
    no : None ≡ Some w → ⊥
    no same = cc

  -- the session is there, whatever waits in it
  counted_polls : (state : State) (k : ℕ) (found : Session) → session_of own state.sessions ≡ Some found → polls_of (session_of own (with_session own (counting k) state.sessions)) ≡ k
  counted_polls state k found is = ap polls_of (changed_here own (counting k) state.sessions found (λ s. refl) is)

  -- a call that was made to wait was polled never
  called_counts : (found : Session) → session_of own open_now.sessions ≡ Some found → (request : Request) → entry.asked ≡ Call request → entry.side ≡ None → waiting_of own now.waiting ≡ None → (w : Waiting) → waiting_of own (state_at plan more).waiting ≡ Some w → Counted
  unfolding calls waited_for
  called_counts found there request asks no_side none w is = by (blocker open_now own (need open_now own request)) refl where
    by : (blocked : Option ℕ) → blocker open_now own (need open_now own request) ≡ blocked → Counted
    by None free_now =
        none_left w is
        (ap (λ (s : State). waiting_of own s.waiting) (after_is no_side (Call request) asks) ∙ ap (λ (b : Option ℕ). waiting_of own (called_unless b open_now own request).after.waiting) free_now
        ∙ ap (waiting_of own) (done_waits open_now own request ∙ open_waits) ∙ none)
    by (Some one) blocked =
        ap (λ (k : ℕ). waited_for k (entry ∷ turns_in own journal)) never ∙ ap (λ (a : Asked). is_call a && is_wait entry.answer) asks ∙ ap is_wait waits_so where
          never : polls_of (session_of own (state_at plan more).sessions) ≡ 0
          never =
              ap (λ (s : State). polls_of (session_of own s.sessions)) (after_is no_side (Call request) asks) ∙ ap (λ (b : Option ℕ). polls_of (session_of own (called_unless b open_now own request).after.sessions)) blocked
              ∙ counted_polls open_now 0 found there

          waits_so : entry.answer ≡ answers.Waits one
          waits_so = answer_is no_side (Call request) asks ∙ ap (λ (b : Option ℕ). (called_unless b open_now own request).answer) blocked

  -- one that still waits was polled once more
  polled_counts : is_client entry.actor ≡ false → (found : Session) → session_of own open_now.sessions ≡ Some found → entry.asked ≡ Poll → entry.side ≡ None → (w : Waiting) → waiting_of own (state_at plan more).waiting ≡ Some w → Counted
  unfolding polls waited_for
  polled_counts tool found there asks no_side w is = by (waiting_of own open_now.waiting) refl where
    after : (waiting : Option Waiting) → waiting_of own open_now.waiting ≡ waiting → state_at plan more ≡ recounted (counters_left None open_now own Poll) (polled_of waiting open_now own).after
    after waiting old = after_is no_side Poll asks ∙ ap (λ (o : Option Waiting). recounted (counters_left None open_now own Poll) (polled_of o open_now own).after) old

    answer : (waiting : Option Waiting) → waiting_of own open_now.waiting ≡ waiting → entry.answer ≡ (polled_of waiting open_now own).answer
    answer waiting old = answer_is no_side Poll asks ∙ ap (λ (o : Option Waiting). (polled_of o open_now own).answer) old

    still_waits : (old : Waiting) → waiting_of own open_now.waiting ≡ Some old → (one : ℕ) → blocker open_now own (need open_now own old.request) ≡ Some one → (b : Bool) → is_over open_now own ≡ b → Counted
    still_waits old was one blocked true over =
        none_left w is
        (ap (λ (s : State). waiting_of own s.waiting) (after (Some old) was) ∙ ap (λ (b : Option ℕ). waiting_of own (polled_unless b open_now own old.request).after.waiting) blocked
        ∙ ap (λ (b : Bool). waiting_of own (polled_over b one open_now own).after.waiting) over ∙ filter_gone own open_now.waiting)
    still_waits old was one blocked false over =
        ap (λ (k : ℕ). waited_for k (entry ∷ turns_in own journal)) once_more ∙ ap (λ (a : Asked). is_poll a && is_wait entry.answer && waited_for before (turns_in own journal)) asks
        ∙ ap (λ (a : Answer). is_wait a && waited_for before (turns_in own journal)) waits_so ∙ ap (λ (s : State). waited_for (polls_of (session_of own s.sessions)) (turns_in own journal)) (still_open lives)
        ∙ counts entry.actor own old tool lives (ap (waiting_of own) (sym open_waits) ∙ was) where
          before : ℕ
          before = polls_of (session_of own open_now.sessions)

          lives : live_session journal entry.actor ≡ Some own
          lives = was_live asks old (ap (waiting_of own) (sym open_waits) ∙ was)

          once_more : polls_of (session_of own (state_at plan more).sessions) ≡ suc before
          once_more =
              ap (λ (s : State). polls_of (session_of own s.sessions)) (after (Some old) was) ∙ ap (λ (b : Option ℕ). polls_of (session_of own (polled_unless b open_now own old.request).after.sessions)) blocked
              ∙ ap (λ (b : Bool). polls_of (session_of own (polled_over b one open_now own).after.sessions)) over ∙ counted_polls open_now (before + 1) found there ∙ add-one before

          waits_so : entry.answer ≡ answers.Waits one
          waits_so = answer (Some old) was ∙ ap (λ (b : Option ℕ). (polled_unless b open_now own old.request).answer) blocked ∙ ap (λ (b : Bool). (polled_over b one open_now own).answer) over

    blocked_so : (old : Waiting) → waiting_of own open_now.waiting ≡ Some old → (blocked : Option ℕ) → blocker open_now own (need open_now own old.request) ≡ blocked → Counted
    blocked_so old was None free_now =
        none_left w is
        (ap (λ (s : State). waiting_of own s.waiting) (after (Some old) was) ∙ ap (λ (b : Option ℕ). waiting_of own (polled_unless b open_now own old.request).after.waiting) free_now
        ∙ ap (waiting_of own) (done_waits (without_waiting own open_now) own old.request) ∙ filter_gone own open_now.waiting)
    blocked_so old was (Some one) blocked = still_waits old was one blocked (is_over open_now own) refl

    by : (waiting : Option Waiting) → waiting_of own open_now.waiting ≡ waiting → Counted
    by None none = none_left w is (ap (λ (s : State). waiting_of own s.waiting) (after None none) ∙ none)
    by (Some old) was = blocked_so old was (blocker open_now own (need open_now own old.request)) refl

  not_lost : (n : ℕ) → session_left entry.asked entry.answer own ≡ Some n → (entry.answer ≡ answers.Lost → ⊥)
  not_lost n left lost = no (sym (ap (λ (a : Answer). session_left entry.asked a own) lost ∙ lost_left entry.asked own) ∙ left) where
    no : None ≡ Some n → ⊥
    no same = cc

  own_counts : (n : ℕ) (w : Waiting) → is_client entry.actor ≡ false → session_left entry.asked entry.answer own ≡ Some n → waiting_of own (state_at plan more).waiting ≡ Some w → Counted
  own_counts n w tool left is = by entry.side refl where
    heard : (asked : Asked) → entry.asked ≡ asked → entry.side ≡ None → Counted
    heard (Command word) asks no_side = absurd (no (sym (ap (λ (a : Asked). session_left a entry.answer own) asks) ∙ left)) where
      no : None ≡ Some n → ⊥
      no same = cc
    heard Cut asks no_side = absurd (not_lost n left (answer_is no_side Cut asks))
    heard (Call request) asks no_side = let opened = is_open plan journal entry together.known served (ap is_command asks) in called_counts opened.found opened.is request asks no_side (idle tool request asks) w is
    heard Poll asks no_side = let opened = is_open plan journal entry together.known served (ap is_command asks) in polled_counts tool opened.found opened.is asks no_side w is

    by : (side : Option Side) → entry.side ≡ side → Counted
    by (Some side) lost = absurd (not_lost n left (own_missed plan journal entry together.known served side lost))
    by None no_side = heard entry.asked refl no_side

  -- *Waits are counted*, one turn more
  pub waits_more : WaitsCount plan more
  waits_more a n w tool lives is = by (same_actor entry.actor a) refl where
    left : entry.actor ≡ a → session_left entry.asked entry.answer own ≡ Some n
    left same =
        sym (ap (λ (b : Bool). cond b (session_left entry.asked entry.answer own) (live_session journal entry.actor)) (same_actor_itself entry.actor)) ∙ sym (live_more journal entry entry.actor) ∙ ap (live_session more) same ∙ lives

    mine : entry.actor ≡ a → own ≡ n → waited_for (polls_of (session_of n (state_at plan more).sessions)) (turns_in n more) ≡ true
    mine same number =
        subst (λ (k : ℕ). waited_for (polls_of (session_of k (state_at plan more).sessions)) (turns_in k more) ≡ true) number
        (ap (waited_for (polls_of (session_of own (state_at plan more).sessions))) own_turns
        ∙ own_counts n w (ap is_client same ∙ tool) (left same) (ap (λ (k : ℕ). waiting_of k (state_at plan more).waiting) number ∙ is))

    by : (b : Bool) → same_actor entry.actor a ≡ b → waited_for (polls_of (session_of n (state_at plan more).sessions)) (turns_in n more) ≡ true
    by false differ = other_counts a n w differ tool lives is
    by true same = let one : entry.actor ≡ a = same_actor_is entry.actor a same in mine one (left_is entry.asked entry.answer own n (left one))

  -- WHEN THE WAIT IS OVER

  module _ (living : Living journal now) (tool : is_client entry.actor ≡ false) (waited : ℕ) (timed : entry.answer ≡ answers.TimedOut waited) where
    not_waits : (one : ℕ) → entry.answer ≡ answers.Waits one → ⊥
    not_waits one is = no (sym is ∙ timed) where
      no : answers.Waits one ≡ answers.TimedOut waited → ⊥
      no same = cc

    module _ (asks : entry.asked ≡ Poll) (no_side : entry.side ≡ None) (old : Waiting) (was : waiting_of own open_now.waiting ≡ Some old) where
      abbrev before : ℕ
      before = polls_of (session_of own now.sessions)

      waited_before : waiting_of own now.waiting ≡ Some old
      waited_before = ap (waiting_of own) (sym open_waits) ∙ was

      lives : live_session journal entry.actor ≡ Some own
      lives = was_live asks old waited_before

      of_tool : is_of_tool (session_of own now.sessions) ≡ true
      of_tool = some_is (session_of own now.sessions) (living.kinds entry.actor own lives ∙ ap (λ (b : Bool). Some (not b)) tool) where
        some_is : (found : Option Session) → option_map (λ (s : Session). s.is_tool) found ≡ Some true → is_of_tool found ≡ true
        some_is None none = absurd cc
        some_is (Some session) some = cc

      limit : is_over open_now own ≡ (before + 1 == plan.options.tool_wait)
      limit =
          ap (λ (s : State). polls_of (session_of own s.sessions) + 1 == limit_if (is_of_tool (session_of own s.sessions)) s.limits) (still_open lives)
          ∙ ap (λ (b : Bool). before + 1 == limit_if b now.limits) of_tool ∙ ap (λ (n : ℕ). before + 1 == n) (tool_waits plan journal)

      answer : entry.answer ≡ (polled_unless (blocker open_now own (need open_now own old.request)) open_now own old.request).answer
      unfolding polls
      answer = answer_is no_side Poll asks ∙ ap (λ (o : Option Waiting). (polled_of o open_now own).answer) was

      times_out : (one : ℕ) → entry.answer ≡ (polled_over true one open_now own).answer → is_over open_now own ≡ true → IsOverdue plan journal own waited
      times_out one reported over = record {
        over = reported_is (sym timed ∙ reported) ∙ ap (λ (s : State). polls_of (session_of own s.sessions) + 1) (still_open lives) ∙ times before plan.options.tool_wait (sym limit ∙ over);
        polls = ap (λ (k : ℕ). waited_for k (turns_in own journal)) (sym (less before plan.options.tool_wait (times before plan.options.tool_wait (sym limit ∙ over)))) ∙ counts entry.actor own old tool lives waited_before;
      } where
        reported_is : answers.TimedOut waited ≡ answers.TimedOut (polls_of (session_of own open_now.sessions) + 1) → waited ≡ polls_of (session_of own open_now.sessions) + 1
        reported_is same = cc

        times : (n m : ℕ) → (n + 1 == m) ≡ true → n + 1 ≡ m
        times n m same = grind (arith, nat_tests)

        less : (n m : ℕ) → n + 1 ≡ m → n ≡ m - 1
        less n m same = omega (arith, same)

      still_blocked : (one : ℕ) (b : Bool) → is_over open_now own ≡ b → entry.answer ≡ (polled_over b one open_now own).answer → IsOverdue plan journal own waited
      still_blocked one true over reported = times_out one reported over
      still_blocked one false over reported = absurd (not_waits one reported)

      poll_is_over : IsOverdue plan journal own waited
      poll_is_over = by (blocker open_now own (need open_now own old.request)) answer where
        by : (blocked : Option ℕ) → entry.answer ≡ (polled_unless blocked open_now own old.request).answer → IsOverdue plan journal own waited
        by None reported = absurd (never_timed (done (without_waiting own open_now) own old.request).answer waited (done_answers (without_waiting own open_now) own old.request) (sym reported ∙ timed))
        by (Some one) reported = still_blocked one (is_over open_now own) refl reported

    not_ok : ok ≡ answers.TimedOut waited → ⊥
    not_ok same = cc

    heard_over : (asked : Asked) → entry.asked ≡ asked → entry.side ≡ None → IsOverdue plan journal own waited
    unfolding calls polls
    heard_over (Command word) asks no_side = absurd (not_ok (sym (answer_is no_side (Command word) asks) ∙ timed))
    heard_over Cut asks no_side = absurd (no (sym (answer_is no_side Cut asks) ∙ timed)) where
      no : answers.Lost ≡ answers.TimedOut waited → ⊥
      no same = cc
    heard_over (Call request) asks no_side = by (blocker open_now own (need open_now own request)) (answer_is no_side (Call request) asks) where
      by : (blocked : Option ℕ) → entry.answer ≡ (called_unless blocked open_now own request).answer → IsOverdue plan journal own waited
      by None reported = absurd (never_timed (done open_now own request).answer waited (done_answers open_now own request) (sym reported ∙ timed))
      by (Some one) reported = absurd (not_waits one reported)
    heard_over Poll asks no_side = by (waiting_of own open_now.waiting) refl where
      by : (waiting : Option Waiting) → waiting_of own open_now.waiting ≡ waiting → IsOverdue plan journal own waited
      by None none = absurd (not_ok (sym (answer_is no_side Poll asks ∙ ap (λ (o : Option Waiting). (polled_of o open_now own).answer) none) ∙ timed))
      by (Some old) was = poll_is_over asks no_side old was

    pub wait_is_over : IsOverdue plan journal own waited
    wait_is_over = by entry.side refl where
      by : (side : Option Side) → entry.side ≡ side → IsOverdue plan journal own waited
      by (Some side) lost = absurd (no (sym (own_missed plan journal entry together.known served side lost) ∙ timed)) where
        no : answers.Lost ≡ answers.TimedOut waited → ⊥
        no same = cc
      by None no_side = heard_over entry.asked refl no_side

pub waits_begin : (plan : PlanData) → WaitsCount plan []
unfolding live_session
waits_begin plan a n w tool lives is = absurd (no lives) where
  no : None ≡ Some n → ⊥
  no same = cc
