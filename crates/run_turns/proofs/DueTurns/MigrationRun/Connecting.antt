-- What a session that is opened for a turn, and one that is lost again, leave.
use Rattle.std.proofs.Common.{◌≡◌, ℕ, ◌+◌, ◌<◌, ◌≤◌, Bool, true, false, not, max, [], ◌∷◌, ◌++◌, Option, Some, None, refl, sym, ap, ◌∙◌, arith}
use Rattle.std.specs.Prelude.{is_some, Result, Ok, Err, IfOk, OnOk, IsOk}
use Rattle.std.specs.Option.{option_map}
use Rattle.std.proofs.lemmas.Bool.{false≢true}
use Rattle.base_script.specs.declared.actor.Actor.{Actor}
use Rattle.base_script.specs.declared.operator.OperatorWord.{OperatorWord}
use Rattle.base_script.specs.declared.actor.Side.{Side}
use Rattle.base_script.specs.declared.actor.Side.TheVariants.{Before}
use Rattle.server_model.specs.declared.answer.Answer.{Answer}
use Rattle.server_model.specs.declared.entry.Asked.{Asked}
use Rattle.server_model.specs.declared.entry.Asked.TheVariants.{Command, Cut}
use Rattle.server_model.specs.Entries.{is_client}
use Rattle.server_model.specs.declared.session.Session.{Session}
use Rattle.server_model.specs.States.{State, session_of, is_live, is_waiting, new_session, connected}
use Rattle.server_model.specs.PlainServer.{loses, state_left, given_at, drawn_in, number_drawn, serves}
use Rattle.server_model.specs.Counting.{counted}
use Rattle.server_model.specs.Conditions.{MayLose}
use Rattle.tool_program.specs.JournalWords.Journals.{opens_if}
use Rattle.proof_journals.specs.Run.Counts.{numbered, IsAfter, kind_of}
use Rattle.run_turns.specs.DueTurns.MigrationRun.Sessions.{IsSessionOf}
use Rattle.proof_journals.proofs.Run.Numbering.{loses_numbered}
use Rattle.proof_journals.proofs.Run.Waits.{lost_at_once}

pub kind_live : (found : Option Session) (kind : Bool) → option_map (λ (s : Session). s.is_tool) found ≡ Some kind → is_some found ≡ true
kind_live None kind is = absurd (cc)
kind_live (Some session) kind is = refl

-- the session is live already
pub goes_on : (reported state : State) (session : ℕ) (tool : Bool) → IsAfter reported state → kind_of session reported.sessions ≡ Some tool → IsAfter (opens_if false tool session reported) state
unfolding opens_if
goes_on reported state session tool following kind = rw (kind_live (session_of session reported.sessions) tool kind) following

none_live : (found : Option Session) → option_map (λ (s : Session). s.is_tool) found ≡ None → is_some found ≡ false
none_live None is = refl
none_live (Some session) is = absurd (cc)

connected_as : (reported : State) (made number : ℕ) (tool : Bool) → reported.made ≤ made → number ≡ made + 1 → connected number tool (numbered made reported) ≡ numbered number (connected number tool reported)
connected_as reported made number tool below is =
    let most : max made number ≡ number = omega (arith, is) in
    ap (λ (n : ℕ). record { limits = reported.limits; made = n; tables = reported.tables; log = reported.log; waiting = reported.waiting; sessions = reported.sessions ++ new_session number tool ∷ []; counters = reported.counters }) most

-- a new one
pub connects : (reported state after : State) (number : ℕ) (tool : Bool) → IsAfter reported state → ((k : ℕ) → reported.made < k → kind_of k reported.sessions ≡ None) → number ≡ state.made + 1 → after ≡ connected number tool state → IsAfter (opens_if false tool number reported) after
unfolding opens_if
connects reported state after number tool following fresh is made =
    let more : reported.made < number = omega (arith, following.made, is) in
    let dead : is_some (session_of number reported.sessions) ≡ false = none_live (session_of number reported.sessions) (fresh number more) in
    let same : after ≡ numbered number (connected number tool reported) = made ∙ ap (connected number tool) following.same ∙ connected_as reported state.made number tool following.made is in
    let after_made : after.made ≡ number = ap (λ (s : State). s.made) same in
    rw dead (record { made = rw after_made (omega (arith, more)); same = same ∙ ap (λ (n : ℕ). numbered n (connected number tool reported)) (sym after_made) })

-- the one that is live stays the one that is opened, and a new one is the one that is opened
pub opened_live : (state : State) (session : ℕ) (tool : Bool) → kind_of session state.sessions ≡ Some tool → state ≡ opens_if false tool session state
unfolding opens_if
opened_live state session tool kind = rw (kind_live (session_of session state.sessions) tool kind) refl

pub opened_fresh : (state after : State) (number : ℕ) (tool : Bool) → ((k : ℕ) → state.made < k → kind_of k state.sessions ≡ None) → number ≡ state.made + 1 → after ≡ connected number tool state → after ≡ opens_if false tool number state
unfolding opens_if
opened_fresh state after number tool fresh is made =
    let more : state.made < number = omega (arith, is) in
    rw (none_live (session_of number state.sessions) (fresh number more)) made

-- one that is lost again
pub closes : (reported state after : State) (session : ℕ) (tool : Bool) → kind_of session reported.sessions ≡ None → is_waiting reported session ≡ false → IsAfter (connected session tool reported) state → after ≡ loses session state → IsAfter reported after
closes reported state after session tool none idle following is =
    let same : after ≡ numbered state.made (numbered (max reported.made session) reported) =
    is ∙ ap (loses session) following.same ∙ loses_numbered state.made (connected session tool reported) session ∙ ap (numbered state.made) (lost_at_once reported session tool none idle) in
    let after_made : after.made ≡ state.made = ap (λ (s : State). s.made) same in
    let most : max reported.made session ≤ state.made = following.made in
    record { made = rw after_made (omega (arith, most)); same = same ∙ ap (λ (n : ℕ). numbered n reported) (sym after_made) }

pub made_lost : (state : State) (session : ℕ) → (loses session state).made ≡ state.made
unfolding loses
made_lost state session = refl

-- a session that is live may be lost between calls
pub may_lose : (state : State) (session : ℕ) → is_live state session ≡ true → MayLose state session None Cut
may_lose state session live = record { live = live; well = refl }

pub lost_live : (state : State) (session : ℕ) (side : Option Side) (asked : Asked) → MayLose state session side asked → is_live state session ≡ true
lost_live state session side asked may = may.live

-- what connecting gives
pub opens_ok : {E : Type 0} (r : Result ℕ E) (state after : State) (actor : Actor) → IfOk r (λ number. number ≡ state.made + 1) → OnOk r (after ≡ connected (state.made + 1) (not (is_client actor)) state)
    → IfOk r (λ number. (reported : State) → IsAfter reported state → IsSessionOf reported actor None → IsAfter (opens_if false (not (is_client actor)) number reported) after)
opens_ok (Ok number) state after actor is made = λ reported following fresh. connects reported state after number (not (is_client actor)) following fresh is (made ∙ ap (λ (n : ℕ). connected n (not (is_client actor)) state) (sym is))
opens_ok (Err e) state after actor is made = tt

pub opened_ok : {E : Type 0} (r : Result ℕ E) (state after : State) (actor : Actor) → IfOk r (λ number. number ≡ state.made + 1) → OnOk r (after ≡ connected (state.made + 1) (not (is_client actor)) state)
    → IfOk r (λ number. IsSessionOf state actor None → after ≡ opens_if false (not (is_client actor)) number state)
opened_ok (Ok number) state after actor is made = λ fresh. opened_fresh state after number (not (is_client actor)) fresh is (made ∙ ap (λ (n : ℕ). connected n (not (is_client actor)) state) (sym is))
opened_ok (Err e) state after actor is made = tt

-- what a call that succeeds gives
pub on_ok : {A E : Type 0} (r : Result A E) (P : Type 0) → OnOk r P → IsOk r → P
on_ok (Ok x) P is ok = is
on_ok (Err e) P is ok = absurd (false≢true ok)

-- COUNTERS

-- a loss between calls gives no number back, and draws none
pub cut_left : (state : State) (number : ℕ) → state_left None state number Cut ≡ loses number state
unfolding loses counted
cut_left state number = refl

-- a command leaves the counters
pub command_left : (state : State) (number : ℕ) (word : OperatorWord) → state ≡ state_left None state number (Command word)
unfolding counted
command_left state number word = refl

pub commanded_left : (state : State) (number : ℕ) (side : Option Side) (shown asked : Asked) (word : OperatorWord) → side ≡ None → shown ≡ asked → shown ≡ Command word → state ≡ state_left side state number asked
commanded_left state number side shown asked word none is asks =
    command_left state number word ∙ ap (λ (a : Asked). state_left None state number a) (sym asks ∙ is) ∙ ap (λ (s : Option Side). state_left s state number asked) (sym none)

-- what is lost before it is done leaves what a loss between calls leaves
pub left_before : (state : State) (number : ℕ) (asked : Asked) → state_left (Some Before) state number asked ≡ loses number state
unfolding loses
left_before state number asked = refl

pub lost_left : (state after : State) (number : ℕ) (side : Option Side) (asked : Asked) → side ≡ Some Before → after ≡ loses number state → after ≡ state_left side state number asked
lost_left state after number side asked lost is = is ∙ sym (left_before state number asked) ∙ ap (λ (s : Option Side). state_left s state number asked) (sym lost)

pub given_before : (asked : Asked) (answer : Answer) → given_at (Some Before) asked answer ≡ None
given_before Cut answer = refl
given_before asked answer = refl

pub drawn_before : (state : State) (number : ℕ) (asked : Asked) → number_drawn (Some Before) state number asked ≡ None
drawn_before state number asked = ap (drawn_in state number asked) (given_before asked (serves state number asked).answer)
