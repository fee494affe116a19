-- One turn behind a journal that is faithful and keeps to sessions, on the server after it: that it may be taken, and what its
-- entry is.
use Rattle.std.proofs.Common.{◌≡◌, ◌≢◌, ◌≤◌, ◌<◌, ℕ, ◌+◌, Bool, false, not, List, [], ◌∷◌, ◌++◌, length, Option, Some, None, refl, sym, ap, ◌∙◌, subst, arith}
use Rattle.base_script.specs.declared.actor.Side.{Side}
use Rattle.server_model.specs.declared.entry.Asked.{Asked}
use Rattle.server_model.specs.declared.entry.Asked.TheVariants.{Call, Poll, Command, Cut}
use Rattle.server_model.specs.declared.entry.Entry.{Entry}
use Rattle.server_model.specs.declared.request.Request.{Request}
use Rattle.server_model.specs.Conditions.{MayCall, MayPoll, MayLose, LosesWell}
use Rattle.server_model.specs.Entries.{is_client, is_command}
use Rattle.server_model.specs.States.{State}
use Rattle.server_model.specs.PlainServer.{given_at, drawn_in}
use Rattle.plan_data.specs.PlanData.{PlanData}
use Rattle.tool_program.specs.JournalWords.Journals.{opening, opens_if, state_at, after_entry, inner_answer, drawn_of, heard, missed, may_lose, IsAnswered, IsFaithful}
use Rattle.tool_program.specs.JournalWords.Sessions.{live_session, sessions_named, IsInSession, KeepsSessions}
use Rattle.proof_journals.specs.Machine.Standings.{MayTake, opened_for}
use Rattle.proof_journals.specs.Run.Counts.{numbered, IsAfter, AreApart}
use Rattle.proof_journals.specs.Run.Laws.{Living, NoneWaits}
use Rattle.proof_journals.proofs.Journals.{state_more}
use Rattle.proof_journals.proofs.Run.Living.{all_living}
use Rattle.proof_journals.proofs.Run.Waits.{all_waits}
use Rattle.run_turns.specs.declared.due_turns.migration_run.turn.Turn.{Turn}
use Rattle.run_turns.specs.DueTurns.MigrationRun.Requests.{MayAsk}
use Rattle.run_turns.specs.DueTurns.MigrationRun.Sessions.{IsSessionOf}
use Rattle.run_turns.specs.DueTurns.MigrationRun.ServerTurns.{session_for, opened_on, answer_on, entry_on, MayTurn}
use Rattle.run_turns.specs.DueTurns.Due.{session_at, next_entry}
use Rattle.run_turns.proofs.DueTurns.MigrationRun.Connecting.{opened_live}
use Rattle.run_turns.proofs.DueTurns.Serving.{answers_same, draws_same, after_more, opened_numbered}

-- WHATEVER NUMBER WAS MADE LAST

call_numbered : (made : ℕ) (state : State) (n : ℕ) (request : Request) → MayCall state n request → MayCall (numbered made state) n request
call_numbered made state n request may = record { live = may.live; idle = may.idle; comes = may.comes; formed = may.formed }

poll_numbered : (made : ℕ) (state : State) (n : ℕ) → MayPoll state n → MayPoll (numbered made state) n
poll_numbered made state n may = record { live = may.live; waiting = may.waiting; waits = may.waits; formed = may.formed }

loses_numbered : (made : ℕ) (state : State) (n : ℕ) (side : Option Side) (asked : Asked) → LosesWell state n side asked → LosesWell (numbered made state) n side asked
loses_numbered made state n None asked well = well
loses_numbered made state n (Some side) Poll well = poll_numbered made state n well
loses_numbered made state n (Some side) (Call request) well = call_numbered made state n request well
loses_numbered made state n (Some side) (Command word) well = absurd well
loses_numbered made state n (Some side) Cut well = absurd well

lose_numbered : (made : ℕ) (state : State) (n : ℕ) (side : Option Side) (asked : Asked) → MayLose state n side asked → MayLose (numbered made state) n side asked
lose_numbered made state n side asked may = record { live = may.live; well = loses_numbered made state n side asked may.well }

ask_numbered : (made : ℕ) (state : State) (n : ℕ) (side : Option Side) (asked : Asked) → MayAsk state n side asked → MayAsk (numbered made state) n side asked
ask_numbered made state n None (Call request) may = call_numbered made state n request may
ask_numbered made state n None Poll may = poll_numbered made state n may
ask_numbered made state n None (Command word) may = tt
ask_numbered made state n None Cut may = lose_numbered made state n None Cut may
ask_numbered made state n (Some side) asked may = lose_numbered made state n (Some side) asked may

module _ (plan : PlanData) (journal : List Entry) (server : State) (turn : Turn) (faithful : IsFaithful plan journal) (sessions : KeepsSessions journal) (following : IsAfter (state_at plan journal) server) where
  abbrev now : State
  now = state_at plan journal

  abbrev live : Option ℕ
  live = live_session journal turn.actor

  abbrev n : ℕ
  n = session_for live server.made

  pub living : Living journal now
  living = all_living plan journal faithful sessions

  -- THE SESSION

  own_reported : (session : Option ℕ) → live ≡ session → IsSessionOf (numbered server.made now) turn.actor session
  own_reported (Some one) is = living.kinds turn.actor one is
  own_reported None is = λ k more. living.fresh k (omega (arith, more, following.made))

  own : IsSessionOf server turn.actor live
  own = subst (λ (s : State). IsSessionOf s turn.actor live) (sym following.same) (own_reported live refl)

  may_take : (session : Option ℕ) → MayTake journal (session_for session server.made) session
  may_take (Some one) = refl
  may_take None = let named : now.made ≡ sessions_named journal = living.named in omega (arith, named, following.made)

  pub take_own : MayTake journal n live
  take_own = may_take live

  -- the session that lives already
  pub stays_open : (own : ℕ) → live ≡ Some own → (n ≡ own) × (opened_for plan journal turn.actor n ≡ now)
  stays_open own is =
      let same : n ≡ own = ap (λ (o : Option ℕ). session_for o server.made) is in
      (same, ap (λ (k : ℕ). opens_if false (not (is_client turn.actor)) k now) same ∙ sym (opened_live now own (not (is_client turn.actor)) (living.kinds turn.actor own is)))

  few : length server.sessions ≤ server.made
  few = subst (λ (s : State). length s.sessions ≤ server.made) (sym following.same) (omega (arith, living.few, following.made))

  -- *It may be taken*, where on the plain server it may be asked
  pub asked_may : server.made ≤ 4294967295 → (live ≡ None → server.made < 4294967295) → is_command turn.asked ≡ false → MayAsk (opened_for plan journal turn.actor n) n turn.side turn.asked → MayTurn server live turn
  asked_may made room called reported_may = record {
    own = own;
    apart = subst (λ (s : State). AreApart s.sessions) (sym following.same) living.apart;
    few = few;
    waits = subst NoneWaits (sym following.same) (all_waits plan journal faithful sessions);
    made = made;
    opens = room;
    called = called;
    may =
        subst (λ (s : State). MayAsk s n turn.side turn.asked)
        (sym (ap (λ (b : Bool). opens_if b (not (is_client turn.actor)) n server) called ∙ ap (opens_if false (not (is_client turn.actor)) n) following.same ∙ opened_numbered false (not (is_client turn.actor)) n server.made now))
        (ask_numbered _ (opened_for plan journal turn.actor n) n turn.side turn.asked reported_may);
  }

  -- ITS ENTRY

  abbrev session : ℕ
  session = session_at turn.asked live server.made

  abbrev entry : Entry
  entry = entry_on server session turn

  same_answer : answer_on server session turn ≡ inner_answer now entry
  unfolding entry_on inner_answer
  same_answer = ap (given_at turn.side turn.asked) (answers_same now server (is_command turn.asked) (not (is_client turn.actor)) session turn.asked following)

  same_draw : entry.draw ≡ drawn_of now entry (inner_answer now entry)
  unfolding entry_on
  same_draw =
      ap (drawn_in (opened_on server session turn) session turn.asked) same_answer
      ∙ draws_same now server (is_command turn.asked) (not (is_client turn.actor)) session turn.asked (inner_answer now entry) following

  -- *It has the plain server's answer*
  pub answered : (may_lose turn.asked ≡ false → turn.side ≡ None) → IsAnswered now entry
  unfolding entry_on
  answered unlost = record { sides = unlost; answer = ap (heard turn.side) same_answer; missed = ap (missed turn.side) same_answer; draw = same_draw }

  new_number : sessions_named journal < server.made + 1
  new_number = let named : now.made ≡ sessions_named journal = living.named in omega (arith, named, following.made)

  seated_at : (asked : Asked) (held : Option ℕ) → (asked ≡ Cut → held ≢ None) → entry.session ≡ session_at asked held server.made → IsInSession journal entry asked held
  seated_at (Command word) (Some one) lives is = is
  seated_at (Command word) None lives is = is
  seated_at (Call request) (Some one) lives is = is
  seated_at (Call request) None lives is = subst (λ (k : ℕ). sessions_named journal < k) (sym is) new_number
  seated_at Poll (Some one) lives is = is
  seated_at Poll None lives is = subst (λ (k : ℕ). sessions_named journal < k) (sym is) new_number
  seated_at Cut (Some one) lives is = is
  seated_at Cut None lives is = lives refl refl

  -- *It is in its actor's session*
  pub seated : (turn.asked ≡ Cut → live ≢ None) → IsInSession journal entry turn.asked live
  unfolding entry_on
  seated lives = seated_at turn.asked live lives refl

  -- *The server goes on*
  pub goes_after : IsAfter (state_at plan (journal ++ entry ∷ [])) (after_entry server entry)
  goes_after = subst (λ (s : State). IsAfter s (after_entry server entry)) (sym (state_more (opening plan) journal entry)) (after_more now server entry following)
