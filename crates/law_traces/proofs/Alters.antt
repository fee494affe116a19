-- A line does the ALTER exactly where its turn adds it to the history.
use Rattle.std.proofs.Common.{◌≡◌, ◌≢◌, ℕ, ◌&&◌, Bool, true, false, not, List, [], ◌∷◌, ◌++◌, Option, Some, None, refl, sym, ap, ◌∙◌, subst, inl, inr}
use Rattle.std.specs.List.{list_any}
use Rattle.base_values.specs.ToolNames.{ghost_name, old_name}
use Rattle.table_store.specs.declared.renames.Pair.{Pair}
use Rattle.base_script.specs.declared.actor.Actor.{Actor}
use Rattle.base_script.specs.declared.actor.Actor.TheVariants.{Op, Insp, Copy, Apply, Lock, Ren, Client}
use Rattle.base_script.specs.declared.actor.Side.{Side}
use Rattle.base_script.specs.declared.actor.Side.TheVariants.{Before, After}
use Rattle.base_script.specs.declared.script.ScriptWord.{ScriptWord}
use Rattle.base_script.specs.declared.script.ScriptWord.TheVariants as words
use Rattle.server_model.specs.declared.request.Request.{Request}
use Rattle.server_model.specs.declared.request.Request.TheVariants as requests
use Rattle.server_model.specs.declared.answer.Answer.{Answer}
use Rattle.server_model.specs.declared.answer.Answer.TheVariants as answers
use Rattle.server_model.specs.declared.entry.Asked.{Asked}
use Rattle.server_model.specs.declared.entry.Asked.TheVariants.{Call, Poll, Command, Cut}
use Rattle.server_model.specs.declared.entry.Entry.{Entry}
use Rattle.server_model.specs.declared.session.Waiting.{Waiting}
use Rattle.server_model.specs.Entries.{is_client, is_command}
use Rattle.server_model.specs.PlainServer.{given_at, serves}
use Rattle.server_model.specs.States.{State, waiting_of}
use Rattle.plan_data.specs.PlanData.{PlanData}
use Rattle.tool_program.specs.JournalWords.Clients.{client_at, word_asks}
use Rattle.tool_program.specs.JournalWords.Histories.{about, adds, alters, answer_in, asked_about, entry_adds, is_alter, renames_away, request_waiting, takes_away}
use Rattle.tool_program.specs.JournalWords.Journals.{inner_answer, missed, opens, state_at}
use Rattle.tool_program.specs.JournalWords.KeptPlans.{TakesNext}
use Rattle.tool_program.specs.Programs.{IsGiven}
use Rattle.proof_journals.specs.Machine.Runnable.{IsRunnable}
use Rattle.proof_journals.specs.Machine.Standings.{IsAbout, is_called, is_polled, serves_to, standing_of}
use Rattle.proof_journals.specs.Plans.{IsSerialPlan}
use Rattle.proof_journals.specs.Turns.{request_of}
use Rattle.proof_journals.specs.Run.Kept.{IsKept}
use Rattle.proof_journals.proofs.Journals.{opened_waits}
use Rattle.proof_journals.proofs.Machine.Asking.{WaitsWith}
use Rattle.proof_journals.proofs.Machine.Clients.{Next, calls_line, client_next, polls_line}
use Rattle.proof_journals.proofs.Machine.Fitting.{call_fits, poll_fits}
use Rattle.proof_journals.proofs.Machine.Journals.{IsRun}
use Rattle.proof_journals.proofs.Machine.Polling.{given_idle, given_waits}
use Rattle.proof_journals.proofs.Machine.Seated.{IsServed, own_waiting}
use Rattle.proof_migration.proofs.ToolPhase.Unaltered.Asking.{exchange_takes}
use Rattle.proof_migration.proofs.ToolPhase.Unaltered.Away.{IsKnownAsked, about_asked, all_asked, tool_adds}
use Rattle.run_actors.proofs.AlterTurns.{of_client}
use Rattle.run_audit.specs.Lines.{asked_of, heard_answer, line_answer, line_of, lines_of, missed_answer}
use Rattle.run_audit.specs.Rules.{alters_in, has_renamed, is_done, is_rename}
use Rattle.proof_audit.specs.Laws.{LinesTellAlters}
use Rattle.proof_audit.proofs.Kept.{lost_rightly}
use Rattle.proof_audit.proofs.Renaming.{is_rename_request, lines_tell_waiting}
use Rattle.proof_audit.proofs.Wholes.{LastTurn, OfRun, OfTool, kept_before, last_turn, planned_next, run_next}
use Rattle.law_traces.proofs.NewTools.{CallsFor, IsBehindTurn, ItsTurn, Loses, RenamesWell, last_behind, names_not}

-- ---- answers

abbrev pub is_ok : Option Answer → Bool
is_ok (Some (answers.Ok count)) = true
is_ok answer = false

-- an answer that was heard
pub heard_done : (answer : Answer) → is_done (heard_answer false answer) ≡ is_ok (Some answer)
heard_done (answers.Ok count) = refl
heard_done (answers.Refused number column) = refl
heard_done (answers.Rows rows) = refl
heard_done (answers.Waits by) = refl
heard_done (answers.TimedOut waited) = refl
heard_done answers.Lost = refl
heard_done answer = refl

-- an answer of a RENAME that was missed
missed_done : (pairs : List Pair) (answer : Answer) → serves_to (requests.Rename pairs) answer ≡ true → is_done (missed_answer (Some answer)) ≡ is_ok (Some answer)
missed_done pairs (answers.Ok count) fits = refl
missed_done pairs (answers.Refused number column) fits = refl
missed_done pairs (answers.Waits by) fits = refl
missed_done pairs (answers.TimedOut waited) fits = refl
missed_done pairs answer fits = absurd cc

-- what the history has of a RENAME of the migrated table
pub rename_alters : (plan : PlanData) (pairs : List Pair) (answer : Option Answer) → takes_away plan.table pairs ≡ true → list_any is_alter (alters plan (Some (requests.Rename pairs)) answer) ≡ is_ok answer
rename_alters plan pairs (Some (answers.Ok count)) takes = rw takes refl
rename_alters plan pairs answer takes = refl

none_alters : (plan : PlanData) (answer : Option Answer) → list_any is_alter (alters plan None answer) ≡ false
none_alters plan (Some (answers.Ok count)) = refl
none_alters plan answer = refl

other_away : (name : List ℕ) (request : Request) → is_rename_request request ≡ false → renames_away name (Some request) ≡ false
other_away name (requests.Rename pairs) other = absurd cc
other_away name request other = refl

pub other_alters : (plan : PlanData) (request : Request) (answer : Option Answer) → is_rename_request request ≡ false → list_any is_alter (alters plan (Some request) answer) ≡ false
other_alters plan request (Some (answers.Ok count)) other = rw (other_away plan.table request other) refl
other_alters plan request answer other = refl

-- the answer of a call or a poll, heard or missed
abbrev answer_at_side : Option Side → Answer → Option Answer → Option Answer
answer_at_side None answer missed = Some answer
answer_at_side (Some Before) answer missed = None
answer_at_side (Some After) answer missed = missed

side_answer : (asked : Asked) (side : Option Side) (answer : Answer) (missed : Option Answer) → asked ≢ Cut → answer_in asked side answer missed ≡ answer_at_side side answer missed
side_answer Cut side answer missed other = absurd (other refl)
side_answer (Call request) None answer missed other = refl
side_answer (Call request) (Some Before) answer missed other = refl
side_answer (Call request) (Some After) answer missed other = refl
side_answer Poll None answer missed other = refl
side_answer Poll (Some Before) answer missed other = refl
side_answer Poll (Some After) answer missed other = refl
side_answer (Command word) None answer missed other = refl
side_answer (Command word) (Some Before) answer missed other = refl
side_answer (Command word) (Some After) answer missed other = refl

line_done : (pairs : List Pair) (side : Option Side) (answer : Answer) (missed : Option Answer) → (side ≡ Some Before → answer ≡ answers.Lost)
    → (side ≡ Some After → (one : Answer) × (missed ≡ Some one) × (serves_to (requests.Rename pairs) one ≡ true)) → is_done (line_answer false side answer missed) ≡ is_ok (answer_at_side side answer missed)
line_done pairs None answer missed lost fits = heard_done answer
line_done pairs (Some Before) answer missed lost fits = ap (λ (a : Answer). is_done (heard_answer false a)) (lost refl)
line_done pairs (Some After) answer missed lost fits =
    let one = fits refl in ap (λ (m : Option Answer). is_done (missed_answer m)) one.1 ∙ missed_done pairs one.0 one.2 ∙ sym (ap is_ok one.1)

pub call_rename : (renamed : Bool) (request : Request) → is_rename renamed (asked_of (Call request)) ≡ is_rename_request request
call_rename renamed (requests.Rename pairs) = refl
call_rename renamed request = refl

word_rename : (word : ScriptWord) → is_rename_request (word_asks word) ≡ false
word_rename words.Begin = refl
word_rename words.Commit = refl
word_rename words.Rollback = refl
word_rename (words.Do statement) = refl

-- ---- one turn

module _ (plan : PlanData) (serial : IsSerialPlan plan) (runs : IsRunnable plan) (before : List Entry) (entry : Entry) (kept : IsKept plan (before ++ entry ∷ [])) where
  front : IsKept plan before
  front = kept_before plan before (entry ∷ []) kept

  run : IsRun plan before entry
  run = run_next plan before entry [] kept

  known : IsKnownAsked plan before
  known = all_asked plan before runs front.faithful front.follows

  served : IsServed plan before entry
  served = record { answered = run.answered; seated = record { session = run.followed.session } }

  abbrev open_now : State
  open_now = opens entry (state_at plan before)

  -- ---- a client's

  abbrev names_rename : Bool
  names_rename = is_rename (has_renamed (lines_of before) entry.actor) (asked_of entry.asked)

  waits_same : (actor : Actor) (request : Request) → (standing_of plan before actor).waits ≡ Some request → has_renamed (lines_of before) actor ≡ is_rename_request request
  waits_same actor request waits = lines_tell_waiting before actor request (known.marking.agree actor ∙ waits)

  client_asked : (c : ℕ) → entry.actor ≡ Client c → Next (client_at plan before c) entry.asked → names_rename ≡ false
  client_asked c same (calls_line line lines going off left called) =
      ap (λ (asked : Asked). is_rename (has_renamed (lines_of before) entry.actor) (asked_of asked)) called ∙ call_rename (has_renamed (lines_of before) entry.actor) (word_asks line.word) ∙ word_rename line.word
  client_asked c same (polls_line going on polled) =
      let held = (known.marking.tabled.all.clients.each c).held on in
      ap (λ (asked : Asked). is_rename (has_renamed (lines_of before) entry.actor) (asked_of asked)) polled ∙ ap (has_renamed (lines_of before)) same ∙ waits_same (Client c) (word_asks held.0.word) held.3 ∙ word_rename held.0.word

  client_none : (c : ℕ) → entry.actor ≡ Client c → (asked : Asked) → entry.asked ≡ asked → TakesNext plan before (Client c) asked → names_rename ≡ false
  client_none c same Cut asks takes = ap (λ (asked : Asked). is_rename (has_renamed (lines_of before) entry.actor) (asked_of asked)) asks
  client_none c same (Call request) asks takes = client_asked c same (client_next plan before c entry.asked (takes ∙ ap Some (sym asks)))
  client_none c same Poll asks takes = client_asked c same (client_next plan before c entry.asked (takes ∙ ap Some (sym asks)))
  client_none c same (Command word) asks takes = client_asked c same (client_next plan before c entry.asked (takes ∙ ap Some (sym asks)))

  client_alike : (c : ℕ) → entry.actor ≡ Client c → alters_in (lines_of before) (line_of entry) ≡ list_any is_alter (entry_adds plan before entry)
  client_alike c same =
      ap (λ (b : Bool). b && is_done (line_of entry).answer) (client_none c same entry.asked refl (subst (λ (a : Actor). TakesNext plan before a entry.asked) same (planned_next plan before entry [] kept).next))
      ∙ sym (ap (λ (a : Actor). list_any is_alter (adds plan before entry a)) same ∙ of_client plan before entry c)

  -- ---- the tool's

  module _ (tool : is_client entry.actor ≡ false) where
    abbrev reported : Option Answer
    reported = answer_in entry.asked entry.side entry.answer entry.missed

    abbrev done_here : Bool
    done_here = is_done (line_answer false entry.side entry.answer entry.missed)

    -- what was missed is an answer to what the turn is about
    given_is : entry.side ≡ Some After → entry.asked ≢ Cut → entry.missed ≡ Some (serves open_now entry.session entry.asked).answer
    unfolding inner_answer
    given_is at other = run.answered.missed ∙ ap (λ (side : Option Side). missed side (given_at side entry.asked (serves open_now entry.session entry.asked).answer)) at ∙ by entry.asked refl where
      by : (asked : Asked) → entry.asked ≡ asked → given_at (Some After) entry.asked (serves open_now entry.session entry.asked).answer ≡ Some (serves open_now entry.session entry.asked).answer
      by Cut asks = absurd (other asks)
      by (Call request) asks = ap (λ (a : Asked). given_at (Some After) a (serves open_now entry.session entry.asked).answer) asks
      by Poll asks = ap (λ (a : Asked). given_at (Some After) a (serves open_now entry.session entry.asked).answer) asks
      by (Command word) asks = ap (λ (a : Asked). given_at (Some After) a (serves open_now entry.session entry.asked).answer) asks

    serves_about : (request : Request) → IsAbout request (standing_of plan before entry.actor) entry.asked → serves_to request (serves open_now entry.session entry.asked).answer ≡ true
    serves_about request (is_called asks none) = ap (λ (a : Asked). serves_to request (serves open_now entry.session a).answer) asks ∙ call_fits open_now entry.session request
    serves_about request (is_polled asks some) =
        ap (λ (a : Asked). serves_to request (serves open_now entry.session a).answer) asks
        ∙ poll_fits open_now entry.session request (ap (λ (w : List Waiting). request_of (waiting_of entry.session w)) (opened_waits (is_command entry.asked) (not (is_client entry.actor)) entry.session (state_at plan before)) ∙ own_waiting plan before entry known.marking.tabled.all.tool.known served (ap is_command asks) ∙ some)

    about_no_cut : (request : Request) → IsAbout request (standing_of plan before entry.actor) entry.asked → entry.asked ≢ Cut
    about_no_cut request (is_called asks none) cut = let both : Call request ≡ Cut = sym asks ∙ cut in cc both
    about_no_cut request (is_polled asks some) cut = let both : Poll ≡ Cut = sym asks ∙ cut in cc both

    takes : (pairs : List Pair) → about before entry ≡ Some (requests.Rename pairs) → takes_away plan.table pairs ≡ true
    takes pairs is = exchange_takes plan.table pairs (about_asked plan serial before entry runs.fitting known run tool (requests.Rename pairs) is).1

    request_alike : (request : Request) → IsAbout request (standing_of plan before entry.actor) entry.asked → about before entry ≡ Some request → (is_rename_request request && done_here) ≡ list_any is_alter (alters plan (Some request) reported)
    request_alike request is_about is = by request refl where
      rename_so : (pairs : List Pair) → request ≡ requests.Rename pairs → (is_rename_request request && done_here) ≡ list_any is_alter (alters plan (Some request) reported)
      rename_so pairs same =
          ap (λ (r : Request). is_rename_request r && done_here) same
          ∙ line_done pairs entry.side entry.answer entry.missed ((lost_rightly (state_at plan before) entry run.answered).sided Before)
          (λ at. ((serves open_now entry.session entry.asked).answer, given_is at (about_no_cut request is_about), subst (λ (r : Request). serves_to r (serves open_now entry.session entry.asked).answer ≡ true) same (serves_about request is_about)))
          ∙ sym (ap is_ok (side_answer entry.asked entry.side entry.answer entry.missed (about_no_cut request is_about)))
          ∙ sym (rename_alters plan pairs reported (takes pairs (is ∙ ap Some same)))
          ∙ sym (ap (λ (r : Request). list_any is_alter (alters plan (Some r) reported)) same)

      other_so : is_rename_request request ≡ false → (is_rename_request request && done_here) ≡ list_any is_alter (alters plan (Some request) reported)
      other_so other = ap (λ (b : Bool). b && done_here) other ∙ sym (other_alters plan request reported other)

      by : (one : Request) → request ≡ one → (is_rename_request request && done_here) ≡ list_any is_alter (alters plan (Some request) reported)
      by (requests.Rename pairs) same = rename_so pairs same
      by one same = other_so (ap is_rename_request same)

    turn_alike : (asked : Asked) → entry.asked ≡ asked → IsGiven plan before entry asked → (names_rename && done_here) ≡ list_any is_alter (alters plan (about before entry) reported)
    turn_alike Cut asks gives =
        ap (λ (a : Asked). is_rename (has_renamed (lines_of before) entry.actor) (asked_of a) && done_here) asks
        ∙ sym (ap (λ (a : Asked). list_any is_alter (alters plan (about before entry) (answer_in a entry.side entry.answer entry.missed))) asks)
    turn_alike (Command word) asks gives =
        ap (λ (a : Asked). is_rename (has_renamed (lines_of before) entry.actor) (asked_of a) && done_here) asks
        ∙ sym (none_alters plan reported)
        ∙ sym (ap (λ (a : Asked). list_any is_alter (alters plan (asked_about a (request_waiting before entry.actor)) reported)) asks)
    turn_alike (Call request) asks gives =
        let is : about before entry ≡ Some request = ap (λ (a : Asked). asked_about a (request_waiting before entry.actor)) asks in
        ap (λ (a : Asked). is_rename (has_renamed (lines_of before) entry.actor) (asked_of a) && done_here) asks
        ∙ ap (λ (b : Bool). b && done_here) (call_rename (has_renamed (lines_of before) entry.actor) request)
        ∙ request_alike request (is_called asks (given_idle plan before entry.actor request known.marking.tabled.all gives)) is
        ∙ sym (ap (λ (r : Option Request). list_any is_alter (alters plan r reported)) is)
    turn_alike Poll asks gives =
        let with : WaitsWith (standing_of plan before entry.actor).waits = given_waits plan before entry.actor known.marking.tabled.all gives in
        let is : about before entry ≡ Some with.request = ap (λ (a : Asked). asked_about a (request_waiting before entry.actor)) asks ∙ known.marking.agree entry.actor ∙ with.is in
        ap (λ (a : Asked). is_rename (has_renamed (lines_of before) entry.actor) (asked_of a) && done_here) asks
        ∙ ap (λ (b : Bool). b && done_here) (waits_same entry.actor with.request with.is)
        ∙ request_alike with.request (is_polled asks with.is) is
        ∙ sym (ap (λ (r : Option Request). list_any is_alter (alters plan r reported)) is)

    tool_alike : alters_in (lines_of before) (line_of entry) ≡ list_any is_alter (entry_adds plan before entry)
    tool_alike =
        ap (λ (b : Bool). names_rename && is_done (line_answer b entry.side entry.answer entry.missed)) tool
        ∙ turn_alike entry.asked refl run.followed.given
        ∙ sym (ap (list_any is_alter) (tool_adds plan serial before entry runs.fitting known run tool entry.actor tool))

  entry_alike : (actor : Actor) → entry.actor ≡ actor → alters_in (lines_of before) (line_of entry) ≡ list_any is_alter (entry_adds plan before entry)
  entry_alike (Client c) same = client_alike c same
  entry_alike Op same = tool_alike (ap is_client same)
  entry_alike Insp same = tool_alike (ap is_client same)
  entry_alike Copy same = tool_alike (ap is_client same)
  entry_alike Apply same = tool_alike (ap is_client same)
  entry_alike Lock same = tool_alike (ap is_client same)
  entry_alike Ren same = tool_alike (ap is_client same)

-- ---- a new tool's turn

module _ (plan : PlanData) (before : List Entry) (entry : Entry) where
  abbrev adds_here : Actor → Bool
  adds_here actor = list_any is_alter (adds plan before entry actor)

  -- what a turn of the tool's adds
  adds_of : (actor : Actor) → is_client actor ≡ false → adds plan before entry actor ≡ alters plan (about before entry) (answer_in entry.asked entry.side entry.answer entry.missed)
  adds_of Op tool = refl
  adds_of Insp tool = refl
  adds_of Copy tool = refl
  adds_of Apply tool = refl
  adds_of Lock tool = refl
  adds_of Ren tool = refl
  adds_of (Client c) tool = absurd cc

  -- the loss of a session adds no ALTER
  cut_of_tool : (actor : Actor) → entry.asked ≡ Cut → is_client actor ≡ false → adds_here actor ≡ false
  cut_of_tool actor cut tool =
      ap (list_any is_alter) (adds_of actor tool) ∙ ap (λ (asked : Asked). list_any is_alter (alters plan (about before entry) (answer_in asked entry.side entry.answer entry.missed))) cut

  cut_adds : (actor : Actor) → entry.asked ≡ Cut → adds_here actor ≡ false
  cut_adds (Client c) cut = of_client plan before entry c
  cut_adds Op cut = cut_of_tool Op cut refl
  cut_adds Insp cut = cut_of_tool Insp cut refl
  cut_adds Copy cut = cut_of_tool Copy cut refl
  cut_adds Apply cut = cut_of_tool Apply cut refl
  cut_adds Lock cut = cut_of_tool Lock cut refl
  cut_adds Ren cut = cut_of_tool Ren cut refl

  -- the two tables that are exchanged
  abbrev exchanged : List Pair
  exchanged = record { old = plan.table; new = old_name plan.table } ∷ record { old = ghost_name plan.table; new = plan.table } ∷ []

  -- a call that renames well
  well_alike : (request : Request) (answer : Answer) → RenamesWell plan request → (is_rename_request request && is_ok (Some answer)) ≡ list_any is_alter (alters plan (Some request) (Some answer))
  well_alike request answer (inl nothing) =
      let other : is_rename_request request ≡ false = names_not request nothing in ap (λ (b : Bool). b && is_ok (Some answer)) other ∙ sym (other_alters plan request (Some answer) other)
  well_alike request answer (inr is) =
      subst (λ (r : Request). (is_rename_request r && is_ok (Some answer)) ≡ list_any is_alter (alters plan (Some r) (Some answer))) (sym is) (sym (rename_alters plan exchanged (Some answer) (exchange_takes plan.table exchanged refl)))

  behind_alike : IsBehindTurn plan entry → alters_in (lines_of before) (line_of entry) ≡ list_any is_alter (entry_adds plan before entry)
  behind_alike turn = by turn.its where
    by : ItsTurn plan entry → alters_in (lines_of before) (line_of entry) ≡ list_any is_alter (entry_adds plan before entry)
    by (Loses cut) = ap (λ (asked : Asked). is_rename (has_renamed (lines_of before) entry.actor) (asked_of asked) && is_done (line_of entry).answer) cut ∙ sym (cut_adds entry.actor cut)
    by (CallsFor request tool called well) =
        ap (λ (asked : Asked). is_rename (has_renamed (lines_of before) entry.actor) (asked_of asked) && is_done (line_of entry).answer) called
        ∙ ap (λ (b : Bool). b && is_done (line_of entry).answer) (call_rename (has_renamed (lines_of before) entry.actor) request)
        ∙ ap (λ (b : Bool). is_rename_request request && is_done (line_answer b entry.side entry.answer entry.missed)) tool
        ∙ ap (λ (side : Option Side). is_rename_request request && is_done (line_answer false side entry.answer entry.missed)) turn.unlost
        ∙ ap (λ (b : Bool). is_rename_request request && b) (heard_done entry.answer)
        ∙ well_alike request entry.answer well
        ∙ sym (ap (λ (side : Option Side). list_any is_alter (alters plan (Some request) (answer_in (Call request) side entry.answer entry.missed))) turn.unlost)
        ∙ sym (ap (λ (asked : Asked). list_any is_alter (alters plan (asked_about asked (request_waiting before entry.actor)) (answer_in asked entry.side entry.answer entry.missed))) called)
        ∙ sym (ap (list_any is_alter) (adds_of entry.actor tool))

-- *The lines tell of the ALTER*
pub lines_tell_alters : (plan : PlanData) → IsSerialPlan plan → IsRunnable plan → LinesTellAlters plan
lines_tell_alters plan serial runs before entry whole = by (last_turn plan before entry whole) where
  by : LastTurn plan before entry → alters_in (lines_of before) (line_of entry) ≡ list_any is_alter (entry_adds plan before entry)
  by (OfRun kept) = entry_alike plan serial runs before entry kept entry.actor refl
  by (OfTool run turns is kept are) = behind_alike plan before entry (last_behind plan run turns entry are)
