-- What is kept of a run that is finished, behind each of its steps.
use Rattle.std.proofs.Common.{◌≡◌, ◌≤◌, ℕ, ◌+◌, Bool, true, false, List, [], ◌∷◌, ◌++◌, map, Option, Some, None, refl, sym, ap, ◌∙◌, subst, arith}
use Rattle.std.specs.Prelude.{is_some}
use Rattle.std.proofs.lemmas.Bool.{false≢true}
use Rattle.std.proofs.lemmas.List.{take-append-drop}
use Rattle.server_model.specs.declared.entry.Entry.{Entry}
use Rattle.server_model.specs.States.{State}
use Rattle.tool_finish.specs.declared.stage.Stage.{Stage}
use Rattle.tool_finish.specs.Finishes.{Asking, next, is_over, stage_behind}
use Rattle.tool_finish.proofs.Walking.{calls_come}
use Rattle.tool_program.specs.JournalWords.Journals.{after_entry}
use Rattle.tool_program.specs.JournalWords.Sessions.{live_session}
use Rattle.proof_journals.specs.Run.Counts.{IsAfter}
use Rattle.run_turns.specs.declared.due_turns.migration_run.counting.Counts.{Counts}
use Rattle.run_turns.specs.declared.due_turns.migration_run.turn.Turn.{Turn}
use Rattle.run_turns.specs.DueTurns.MigrationRun.ServerTurns.{session_for, made_for, entry_on, counts_of, MayTurn}
use Rattle.run_turns.specs.DueTurns.Due.{next_entry}
use Rattle.run_turns.proofs.RunTurns.Served.{entry_of_session}
use Rattle.run_finish.specs.declared.finish_state.FinishState.{FinishState}
use Rattle.run_finish.specs.declared.sessions.LiveSession.{LiveSession}
use Rattle.run_finish.specs.Sessions.{session_of, session_after}
use Rattle.run_finish.specs.Invariants.{run_of, turns_in, IsStageAt, IsGoing, IsFinishState, Reads, IsNext, TakesTurn, Advances}
use Rattle.run_finish.proofs.LiveOnes.{session_is}
use Rattle.run_finish.proofs.Turning.{More, more, going_more, going_still, going_read}

pub after_self : (state : State) → IsAfter state state
after_self state = record { made = omega arith; same = refl }

-- THE LAST ANSWER

pub read_state : (old new : FinishState) (state : State) → IsFinishState old state → Reads old new → IsFinishState new state
read_state old new state going reads =
    subst (λ (x : FinishState). IsFinishState x state) (sym reads.same)
    (going_read old.plan.now old.run_turns old.journal.items old.names old.sessions.items old.counts old.made old.stage new.stage old.is_answered state going reads.stage)

-- nothing is to be taken
pub reads_none : (one : FinishState) (state : State) → IsFinishState one state → one.is_answered ≡ false → Reads one one
reads_none one state going none = record {
  stage = subst (λ (b : Bool). IsStageAt one.plan.now (run_of one) (turns_in one) b one.stage) none going.stage;
  same = ap (λ (b : Bool). record one { is_answered = b }) none;
}

-- THE NEXT TURN

-- where none comes, the new tool is over
pub none_over : (one : FinishState) (state : State) → IsFinishState one state → one.is_answered ≡ false → next one.plan.now one.journal.items one.stage ≡ None → is_over one.stage ≡ true
none_over one state going taken none = by (is_over one.stage) refl where
  by : (b : Bool) → is_over one.stage ≡ b → is_over one.stage ≡ true
  by true over = over
  by false here =
      let at : one.stage ≡ stage_behind one.plan.now (run_of one) (turns_in one) = subst (λ (b : Bool). IsStageAt one.plan.now (run_of one) (turns_in one) b one.stage) taken going.stage in
      let comes : is_some (next one.plan.now (run_of one ++ turns_in one) (stage_behind one.plan.now (run_of one) (turns_in one))) ≡ true =
      calls_come one.plan.now (run_of one) (turns_in one) (ap is_over (sym at) ∙ here) in
      absurd
      (false≢true
      (sym (ap (λ (asking : Option Asking). is_some asking) none)
      ∙ ap (λ (s : Stage). is_some (next one.plan.now one.journal.items s)) at
      ∙ ap (λ (all : List Entry). is_some (next one.plan.now all (stage_behind one.plan.now (run_of one) (turns_in one)))) (sym (take-append-drop one.run_turns one.journal.items))
      ∙ comes))

-- A TURN

module _ (old : FinishState) (server : State) (turn : Turn) (going : IsFinishState old server) (taken : old.is_answered ≡ false) (comes : IsNext old turn) where
  abbrev Going : Bool → Type 0
  Going answered = IsGoing old.plan.now old.run_turns old.journal.items old.names old.sessions.items old.counts old.made old.stage answered server

  now : Going false
  now = subst Going taken going

  pub facts : More old.plan.now (run_of old) (turns_in old) old.journal.items server turn
  facts = more old.plan.now old.run_turns old.journal.items old.names old.sessions.items old.counts old.made old.stage server turn now comes.asked comes.side

  pub session_own : (slice : List LiveSession) → slice ≡ old.sessions.items → session_of slice turn.actor ≡ live_session old.journal.items turn.actor
  session_own slice is = ap (λ (all : List LiveSession). session_of all turn.actor) (is ∙ going.sessions) ∙ session_is old.plan.now old.journal.items turn.actor facts.there

  pub may : (session : Option ℕ) (most : ℕ) → session ≡ live_session old.journal.items turn.actor → old.made ≤ most → most ≤ 4294967295 → (session ≡ None → most ≡ old.made + 1) → MayTurn server session turn
  may session most own grown few opens =
      subst (λ (s : Option ℕ). MayTurn server s turn) (sym own)
      (facts.may (let made : server.made ≤ old.made = going.made in omega (arith, made, grown, few))
      (λ none. let one : most ≡ old.made + 1 = opens (own ∙ none) in let made : server.made ≤ old.made = going.made in omega (arith, made, one, few)))

  pub most_made : (session : Option ℕ) (most : ℕ) → old.made ≤ most → (session ≡ None → most ≡ old.made + 1) → made_for session server.made ≤ most
  most_made None most grown opens = let one : most ≡ old.made + 1 = opens refl in let made : server.made ≤ old.made = going.made in omega (arith, made, one)
  most_made (Some session) most grown opens = let made : server.made ≤ old.made = going.made in omega (arith, made, grown)

  -- none is taken
  pub still : (new : FinishState) (left : State) → new.journal.items ≡ old.journal.items → new ≡ record old { journal = new.journal; made = new.made } → IsAfter server left → left.made ≤ new.made → IsFinishState new left
  still new left items same following few =
      subst (λ (x : FinishState). IsFinishState x left) (sym same)
      (subst (λ (all : List Entry). IsGoing old.plan.now old.run_turns all old.names old.sessions.items old.counts new.made old.stage old.is_answered left) (sym items)
      (going_still old.plan.now old.run_turns old.journal.items old.names old.sessions.items old.counts old.made old.stage old.is_answered server new.made left going following few))

  -- its entry
  pub entry_is : (session : Option ℕ) → session ≡ live_session old.journal.items turn.actor → entry_on server (session_for session server.made) turn ≡ next_entry old.journal.items server turn
  entry_is session own = ap (λ (s : Option ℕ). entry_on server (session_for s server.made) turn) own ∙ entry_of_session old.journal.items server turn facts.called

  abbrev entry : Entry
  entry = next_entry old.journal.items server turn

  module _ (mid new : FinishState) (got : Entry) (counts : Counts) (left : State) (items : mid.journal.items ≡ old.journal.items) (before : mid ≡ record old { journal = mid.journal; made = mid.made }) (journal : new.journal.items ≡ mid.journal.items ++ got ∷ []) (sessions : new.sessions.items ≡ map (session_after got) mid.sessions.items)
      (behind : new ≡ record mid { journal = new.journal; sessions = new.sessions; counts = counts; is_answered = true }) (got_is : got ≡ entry) (left_is : left ≡ after_entry server got) where
    new_is : new ≡ record old { journal = new.journal; sessions = new.sessions; counts = counts; made = mid.made; is_answered = true }
    new_is = behind ∙ ap (λ (x : FinishState). record x { journal = new.journal; sessions = new.sessions; counts = counts; is_answered = true }) before

    journal_is : new.journal.items ≡ old.journal.items ++ entry ∷ []
    journal_is = journal ∙ ap (λ (all : List Entry). all ++ got ∷ []) items ∙ ap (λ (e : Entry). old.journal.items ++ e ∷ []) got_is

    sessions_are : new.sessions.items ≡ map (session_after entry) old.sessions.items
    sessions_are = sessions ∙ ap (λ (x : FinishState). map (session_after got) x.sessions.items) before ∙ ap (λ (e : Entry). map (session_after e) old.sessions.items) got_is

    left_more : left ≡ after_entry server entry
    left_more = left_is ∙ ap (after_entry server) got_is

    -- *It is taken*
    pub turned : counts ≡ counts_of left → left.made ≤ mid.made → IsFinishState new left
    turned counts_are few =
        subst (λ (x : FinishState). IsFinishState x left) (sym new_is)
        (subst (λ (all : List Entry). IsGoing old.plan.now old.run_turns all old.names new.sessions.items counts mid.made old.stage true left) (sym journal_is)
        (subst (λ (all : List LiveSession). IsGoing old.plan.now old.run_turns (old.journal.items ++ entry ∷ []) old.names all counts mid.made old.stage true left) (sym sessions_are)
        (going_more old.plan.now old.run_turns old.journal.items old.names old.sessions.items old.counts old.made old.stage server turn now comes.asked comes.side counts mid.made left counts_are left_more few)))

    pub takes : TakesTurn old server turn new left
    takes = record { plan = ap (λ (x : FinishState). x.plan) new_is; run = ap (λ (x : FinishState). x.run_turns) new_is; journal = journal_is; server_left = left_more }

-- A STEP

pub advances : (old mid new : FinishState) (server left : State) (turn : Turn) → Reads old mid → IsNext mid turn → TakesTurn mid server turn new left → Advances old server new left
unfolding entry_on
advances old mid new server left turn reads comes takes = record {
  entry = next_entry mid.journal.items server turn;
  asked =
      ap (λ (x : FinishState). next x.plan.now x.journal.items (stage_behind old.plan.now (run_of old) (turns_in old))) (sym reads.same)
      ∙ ap (next mid.plan.now mid.journal.items) (sym reads.stage) ∙ comes.asked;
  plan = takes.plan ∙ ap (λ (x : FinishState). x.plan) reads.same;
  run = takes.run ∙ ap (λ (x : FinishState). x.run_turns) reads.same;
  journal = takes.journal ∙ ap (λ (x : FinishState). x.journal.items ++ next_entry mid.journal.items server turn ∷ []) reads.same;
  server_left = takes.server_left;
}
