-- A call of the inspector's where nobody else is there: it is done at once, and leaves the inspector alone.
use Rattle.std.proofs.Common.{◌≡◌, ℕ, Bool, true, false, cond, not, List, [], ◌∷◌, ◌++◌, Option, Some, None, refl, sym, ap, ◌∙◌, subst, append-nil}
use Rattle.std.specs.Prelude.{is_some}
use Rattle.base_script.specs.declared.actor.Actor.{Actor}
use Rattle.base_script.specs.declared.actor.Actor.TheVariants.{Insp}
use Rattle.base_script.specs.declared.actor.Side.{Side}
use Rattle.base_values.specs.declared.event.RowEvent.{RowEvent}
use Rattle.table_store.specs.Databases.{Database}
use Rattle.server_model.specs.declared.answer.Answer.{Answer}
use Rattle.server_model.specs.declared.answer.Answer.TheVariants as answers
use Rattle.server_model.specs.declared.counter.Counter.{Counter}
use Rattle.server_model.specs.declared.entry.Asked.{Asked}
use Rattle.server_model.specs.declared.entry.Asked.TheVariants.{Call}
use Rattle.server_model.specs.declared.entry.Entry.{Entry}
use Rattle.server_model.specs.declared.request.Request.{Request}
use Rattle.server_model.specs.declared.session.Session.{Session}
use Rattle.server_model.specs.declared.session.Waiting.{Waiting}
use Rattle.server_model.specs.Drawing.{filled}
use Rattle.server_model.specs.Effects.{Effect, Rests, Moves, Writes, effect, effect_within}
use Rattle.server_model.specs.Entries.{is_client, is_command, same_actor}
use Rattle.server_model.specs.Operations.{after_events}
use Rattle.server_model.specs.PlainServer.{at_rest, calls, counters_left, did, does, given_at, leaves, recounted, serves}
use Rattle.server_model.specs.States.{State, connected, new_session, session_of, with_session}
use Rattle.server_model.proofs.LockedRows.Tests.{same_number}
use Rattle.plan_data.specs.PlanData.{PlanData}
use Rattle.tool_program.specs.JournalWords.Journals.{IsAnswered, heard, inner_answer, opens, opens_if, state_at}
use Rattle.tool_program.specs.JournalWords.Sessions.{IsInSession, live_session, session_left}
use Rattle.proof_journals.proofs.Actors.{live_more}
use Rattle.proof_journals.proofs.Machine.Seated.{state_more}
use Rattle.proof_resume.specs.Settled.Alone.{HoldsAlone}
use Rattle.proof_resume.proofs.Settled.Alone.{calls_are_done_alone}
use Rattle.proof_resume.specs.Starts.Beginnings.{IsAtRest, sessions_with}

-- THE SERVER

module _ (number : ℕ) (state : State) where
  -- this session alone is there, and nobody waits
  abbrev pub resting : State
  resting = record state { waiting = []; sessions = new_session number true ∷ [] }

  pub resting_is : state.waiting ≡ [] → state.sessions ≡ new_session number true ∷ [] → state ≡ resting
  resting_is waiting sessions = ap (λ (w : List Waiting). record state { waiting = w }) waiting ∙ ap (λ (s : List Session). record state { waiting = []; sessions = s }) sessions

  alone : HoldsAlone resting number
  alone = record { waits = refl; names = tt; locks = tt }

  effect_is : (request : Request) → effect resting number request ≡ effect_within false state.tables resting request
  unfolding after_events
  effect_is request = rw (same_number number) refl

  pub called_is : (request : Request) → filled resting number request ≡ request → calls resting number request ≡ does (effect_within false state.tables resting request) resting number
  unfolding did
  called_is request full = calls_are_done_alone resting number request alone ∙ ap (did resting number) full ∙ ap (λ (e : Effect). does e resting number) (effect_is request)

  committed_sessions : with_session number at_rest (new_session number true ∷ []) ≡ new_session number true ∷ []
  unfolding with_session
  committed_sessions = rw (same_number number) refl

  -- a statement that writes nothing leaves all as it was
  pub commits_nothing : (answer : Answer) → (does (Writes answer []) resting number).after ≡ resting
  unfolding after_events
  commits_nothing answer =
      rw (same_number number) (ap (λ (s : List Session). record state { waiting = []; log = state.log ++ []; sessions = s }) committed_sessions ∙ ap (λ (l : List RowEvent). record state { waiting = []; log = l; sessions = new_session number true ∷ [] }) (append-nil state.log))

-- THE TURN

-- what the call leaves: this was answered, the inspector is alone, these are the tables, and the log is as it was
pub record IsLeft (plan : PlanData) (journal : List Entry) (entry : Entry) (answer : Answer) (left : Database) : Type 0 where
  pub answered : entry.answer ≡ answer
  pub rest : IsAtRest plan (journal ++ entry ∷ [])
  pub tables : (state_at plan (journal ++ entry ∷ [])).tables ≡ left
  pub log : (state_at plan (journal ++ entry ∷ [])).log ≡ (state_at plan journal).log

module _ (plan : PlanData) (journal : List Entry) (entry : Entry) (was : IsAtRest plan journal) (faithful : IsAnswered (state_at plan journal) entry) (who : entry.actor ≡ Insp) (request : Request) (asks : entry.asked ≡ Call request) (unlost : entry.side ≡ None)
    (session : IsInSession journal entry entry.asked (live_session journal entry.actor)) where
  abbrev now : State
  now = state_at plan journal

  abbrev more : List Entry
  more = journal ++ entry ∷ []

  abbrev n : ℕ
  n = entry.session

  -- its session is there now
  record Opened : Type 0 where
    base : State
    is : opens entry now ≡ resting n base
    tables : base.tables ≡ now.tables
    log : base.log ≡ now.log
    counters : base.counters ≡ now.counters

  opens_so : opens entry now ≡ opens_if false true n now
  opens_so = ap (λ (a : Asked). opens_if (is_command a) (not (is_client entry.actor)) n now) asks ∙ ap (λ (a : Actor). opens_if false (not (is_client a)) n now) who

  found : is_some (session_of n (new_session n true ∷ [])) ≡ true
  found = rw (same_number n) refl

  opened_by : (live : Option ℕ) → now.sessions ≡ sessions_with live → IsInSession journal entry (Call request) live → Opened
  unfolding opens_if
  opened_by None sessions above = record {
    base = connected n true now;
    is = opens_so ∙ ap (λ (b : Bool). cond b now (connected n true now)) (ap (λ (s : List Session). is_some (session_of n s)) sessions) ∙ resting_is n (connected n true now) was.waiting (ap (λ (s : List Session). s ++ new_session n true ∷ []) sessions);
    tables = refl;
    log = refl;
    counters = refl;
  }
  opened_by (Some number) sessions same =
      let here : now.sessions ≡ new_session n true ∷ [] = subst (λ (k : ℕ). now.sessions ≡ new_session k true ∷ []) (sym same) sessions in
      record {
        base = now;
        is = opens_so ∙ ap (λ (b : Bool). cond b now (connected n true now)) (ap (λ (s : List Session). is_some (session_of n s)) here ∙ found) ∙ resting_is n now was.waiting here;
        tables = refl;
        log = refl;
        counters = refl;
      }

  opened : Opened
  opened = opened_by (live_session journal Insp) was.sessions (subst (λ (a : Actor). IsInSession journal entry (Call request) (live_session journal a)) who (subst (λ (a : Asked). IsInSession journal entry a (live_session journal entry.actor)) asks session))

  call_left : (answer : Answer) → (answer ≡ answers.Lost → ⊥) → session_left (Call request) answer n ≡ Some n
  call_left answers.Lost heard = absurd (heard refl)
  call_left answer heard = refl

  module _ (full : (base : State) → filled (resting n base) n request ≡ request) where
    abbrev does_so : Effect
    does_so = effect_within false opened.base.tables (resting n opened.base) request

    answer_is : entry.answer ≡ (does does_so (resting n opened.base) n).answer
    unfolding inner_answer
    answer_is =
        faithful.answer ∙ ap (λ (s : Option Side). heard s (given_at s entry.asked (serves (opens entry now) n entry.asked).answer)) unlost ∙ ap (λ (a : Asked). heard None (given_at None a (serves (opens entry now) n a).answer)) asks
        ∙ ap (λ (s : State). (calls s n request).answer) opened.is ∙ ap (λ s. s.answer) (called_is n opened.base request (full opened.base))

    abbrev counts : List Counter
    counts = counters_left entry.side (opens entry now) n entry.asked

    state_is : state_at plan more ≡ recounted counts (does does_so (resting n opened.base) n).after
    state_is =
        state_more plan journal entry ∙ ap (λ (s : Option Side). recounted counts (leaves s (opens entry now) n entry.asked)) unlost ∙ ap (λ (a : Asked). recounted counts (leaves None (opens entry now) n a)) asks
        ∙ ap (λ (s : State). recounted counts (calls s n request).after) opened.is ∙ ap (λ s. recounted counts s.after) (called_is n opened.base request (full opened.base))

    lives_on : (answer : Answer) → entry.answer ≡ answer → (answer ≡ answers.Lost → ⊥) → live_session more Insp ≡ Some n
    lives_on answer is heard =
        live_more journal entry Insp ∙ ap (λ (a : Actor). cond (same_actor a Insp) (session_left entry.asked entry.answer n) (live_session journal Insp)) who ∙ ap (λ (a : Asked). session_left a entry.answer n) asks ∙ ap (λ (a : Answer). session_left (Call request) a n) is ∙ call_left answer heard

    left_so : (answer : Answer) (tables : Database) (after : State) → entry.answer ≡ answer → (answer ≡ answers.Lost → ⊥) → state_at plan more ≡ recounted counts after → after.waiting ≡ [] → after.sessions ≡ new_session n true ∷ [] → after.tables ≡ tables → after.log ≡ now.log → IsLeft plan journal entry answer tables
    left_so answer tables after is heard state waiting sessions same log = record {
      answered = is;
      rest = record { waiting = ap (λ (s : State). s.waiting) state ∙ waiting; sessions = ap (λ (s : State). s.sessions) state ∙ sessions ∙ ap sessions_with (sym (lives_on answer is heard)) };
      tables = ap (λ (s : State). s.tables) state ∙ same;
      log = ap (λ (s : State). s.log) state ∙ log;
    }

    -- a request that only answers
    pub rests_so : (answer : Answer) → (answer ≡ answers.Lost → ⊥) → ((base : State) → base.tables ≡ now.tables → base.counters ≡ now.counters → effect_within false base.tables (resting n base) request ≡ Rests answer) → IsLeft plan journal entry answer now.tables
    rests_so answer heard is =
        let so : does_so ≡ Rests answer = is opened.base opened.tables opened.counters in
        left_so answer now.tables (resting n opened.base) (answer_is ∙ ap (λ (e : Effect). (does e (resting n opened.base) n).answer) so) heard (state_is ∙ ap (λ (e : Effect). recounted counts (does e (resting n opened.base) n).after) so) refl refl opened.tables opened.log

    -- one that changes the tables
    pub moves_so : (answer : Answer) (tables : Database) → (answer ≡ answers.Lost → ⊥) → ((base : State) → base.tables ≡ now.tables → effect_within false base.tables (resting n base) request ≡ Moves answer tables) → IsLeft plan journal entry answer tables
    moves_so answer tables heard is =
        let so : does_so ≡ Moves answer tables = is opened.base opened.tables in
        left_so answer tables (record (resting n opened.base) { tables = tables }) (answer_is ∙ ap (λ (e : Effect). (does e (resting n opened.base) n).answer) so) heard (state_is ∙ ap (λ (e : Effect). recounted counts (does e (resting n opened.base) n).after) so) refl refl refl opened.log

    -- a statement that writes nothing
    pub writes_none : (answer : Answer) → (answer ≡ answers.Lost → ⊥) → ((base : State) → base.tables ≡ now.tables → effect_within false base.tables (resting n base) request ≡ Writes answer []) → IsLeft plan journal entry answer now.tables
    writes_none answer heard is =
        let so : does_so ≡ Writes answer [] = is opened.base opened.tables in
        left_so answer now.tables (resting n opened.base) (answer_is ∙ ap (λ (e : Effect). (does e (resting n opened.base) n).answer) so) heard
        (state_is ∙ ap (λ (e : Effect). recounted counts (does e (resting n opened.base) n).after) so ∙ ap (recounted counts) (commits_nothing n opened.base answer)) refl refl opened.tables opened.log
