-- Which turns that are due may take memory.
use Rattle.std.proofs.Common.{◌≡◌, ℕ, Bool, true, false, List, Option, Some, None, refl, sym, ap, ◌∙◌, subst}
use Rattle.std.specs.Prelude.{if◌then◌else◌, ◌&&◌, ◌||◌, is_some, Result, Ok, Err, OnErr}
use Rattle.std.proofs.lemmas.Bool.{true≢false, false≢true, or_right}
use Rattle.base_script.specs.declared.actor.Actor.{Actor}
use Rattle.base_script.specs.declared.actor.Actor.TheVariants.{Op, Insp, Copy, Apply, Lock, Ren, Client}
use Rattle.base_script.specs.declared.actor.Side.{Side}
use Rattle.base_script.specs.declared.actor.Side.TheVariants.{Before, After}
use Rattle.server_model.specs.Blockers.{need, blocker}
use Rattle.server_model.specs.Conditions.{is_free, is_blocked_exclusive}
use Rattle.server_model.specs.Entries.{is_command}
use Rattle.server_model.specs.States.{State, waiting_of, is_exclusive}
use Rattle.server_model.specs.declared.entry.Asked.{Asked}
use Rattle.server_model.specs.declared.entry.Asked.TheVariants.{Call, Poll, Command, Cut}
use Rattle.server_model.specs.declared.entry.Entry.{Entry}
use Rattle.server_model.specs.declared.request.Request.{Request}
use Rattle.server_model.specs.declared.request.Request.TheVariants as requests
use Rattle.server_model.specs.declared.session.Waiting.{Waiting}
use Rattle.plan_data.specs.PlanData.{PlanData}
use Rattle.tool_program.specs.FreeCalls.{is_freely_asked}
use Rattle.tool_program.specs.JournalWords.Journals.{state_at}
use Rattle.tool_program.specs.JournalWords.KeptPlans.{side_due}
use Rattle.tool_program.specs.JournalWords.Sessions.{live_session}
use Rattle.tool_program.specs.Programs.{tool_call, given}
use Rattle.tool_program.specs.Setups as setups
use Rattle.tool_program.specs.Tools as program
use Rattle.tool_program.specs.Tools.{ToolPhase, SettingUp, is_reverting, moment}
use Rattle.tool_program.specs.declared.tool_setup.setup.Setup.{Setup}
use Rattle.tool_program.specs.declared.tool_setup.setup.Setup.TheVariants.{Listing, Clearing, MakingLog, MakingGhost, Marking, Reaching}
use Rattle.tool_state.specs.ToolState.Meanings.{work_of, tool_phase_in}
use Rattle.proof_journals.proofs.Run.Taking.{server_is}
use Rattle.proof_journals.specs.Turns.{request_of}
use Rattle.proof_journals.specs.Machine.MigrationTables.{ToolPhaseTables}
use Rattle.proof_journals.specs.Machine.Standings.{standing_in, standing_of}
use Rattle.proof_journals.proofs.Machine.Journals.{Asking, calls_so, polls_so, asking}
use Rattle.proof_journals.proofs.Machine.Tabling.{tables_exist}
use Rattle.run_state.specs.declared.run_state.RunState.{RunState}
use Rattle.run_turns.specs.declared.due_turns.migration_run.turn.Turn.{Turn}
use Rattle.run_turns.specs.DueTurns.MigrationRun.FreeTurns.{is_free_in, is_free_turn, is_freely_passed, is_numbered}
use Rattle.run_turns.specs.DueTurns.MigrationRun.ServerTurns.{is_before}
use Rattle.run_turns.specs.DueTurns.Due.{own_turn, due, MayCost}
use Rattle.run_turns.specs.DueTurns.DueCalls.Ranges.{is_reaching, is_inspector, is_heard, reads_range}
use Rattle.run_turns.specs.RunTurns.Invariants.{IsDue, IsRun}
use Rattle.run_turns.proofs.DueTurns.MigrationRun.Costs.{not_passed}
use Rattle.run_turns.proofs.DueTurns.Coming.{Comes, Cuts, Gives, comes}

-- WHAT IS GIVEN

-- a call that takes memory
record CostlyCall (asked : Option Asked) : Type 0 where
  request : Request
  is : asked ≡ Some (Call request)
  costs : is_free request ≡ false

costly_call : (asked : Option Asked) → is_freely_asked asked ≡ false → CostlyCall asked
costly_call None costs = absurd (true≢false costs)
costly_call (Some (Call request)) costs = record { request = request; is = refl; costs = costs }
costly_call (Some Poll) costs = absurd (true≢false costs)
costly_call (Some (Command word)) costs = absurd (true≢false costs)
costly_call (Some Cut) costs = absurd (true≢false costs)

call_costs : (server : State) (session : Option ℕ) (turn : Turn) (request : Request) → turn.asked ≡ Call request → turn.side ≡ None → is_free request ≡ false → is_free_turn server session turn ≡ false
call_costs server None turn request is heard costs = ap (λ (asked : Asked). is_command asked || is_freely_passed server turn) is ∙ not_passed server turn (ap is_before heard)
call_costs server (Some session) turn request is heard costs = ap (is_free_in server session turn.side) is ∙ ap (λ (side : Option Side). is_free_in server session side (Call request)) heard ∙ costs

-- what isn't lost before it is done
made_costs : (server : State) (session : Option ℕ) (actor : Actor) (side : Option Side) (asked : Asked) → is_before side ≡ false → is_freely_asked (Some asked) ≡ false → is_free_turn server session (record { actor = actor; side = side; asked = asked }) ≡ false
made_costs server session actor None asked done costs =
    let call : CostlyCall (Some asked) = costly_call (Some asked) costs in
    let same : asked ≡ Call call.request = cc in
    call_costs server session (record { actor = actor; side = None; asked = asked }) call.request same refl call.costs
made_costs server None actor (Some After) asked done costs =
    let call : CostlyCall (Some asked) = costly_call (Some asked) costs in
    let same : asked ≡ Call call.request = cc in
    ap (λ (a : Asked). is_command a || false) same
made_costs server (Some session) actor (Some After) asked done costs = refl
made_costs server session actor (Some Before) asked lost costs = absurd (true≢false lost)

-- what is given makes a turn that is due
pub due_costs : (plan : PlanData) (journal : List Entry) (server : State) (actor : Actor) (asked : Asked) → Some (own_turn plan journal actor asked) ≡ due plan journal actor → is_free_turn server (live_session journal actor) (own_turn plan journal actor asked) ≡ false → MayCost plan journal server actor
due_costs plan journal server actor asked is costs = record { turn = own_turn plan journal actor asked; is_due = sym is; costs = costs }

pub asked_costs : (plan : PlanData) (journal : List Entry) (server : State) (actor : Actor) (side : Option Side) (asked : Asked) → Some (own_turn plan journal actor asked) ≡ due plan journal actor → side ≡ side_due plan journal actor → is_before side ≡ false → is_freely_asked (Some asked) ≡ false → MayCost plan journal server actor
asked_costs plan journal server actor side asked is struck done costs = due_costs plan journal server actor asked is (made_costs server (live_session journal actor) actor (side_due plan journal actor) asked (sym (ap is_before struck) ∙ done) costs)

-- what is lost before it is done is free where there is a session for it
pub freely_lost : (server : State) (session : Option ℕ) (turn : Turn) → turn.side ≡ Some Before → is_numbered server session ≡ true → is_free_turn server session turn ≡ true
freely_lost server None turn lost left = or_right (is_command turn.asked) (is_freely_passed server turn) (ap (λ (side : Option Side). is_before side && is_numbered server None) lost ∙ left)
freely_lost server (Some session) turn lost left = ap (λ (side : Option Side). is_free_in server session side turn.asked) lost

-- and no call is where there is none
pub lost_costs : (server : State) (session : Option ℕ) (turn : Turn) → turn.side ≡ Some Before → is_freely_asked (Some turn.asked) ≡ false → is_numbered server session ≡ false → is_free_turn server session turn ≡ false
lost_costs server None turn lost costs none =
    let call : CostlyCall (Some turn.asked) = costly_call (Some turn.asked) costs in
    let same : turn.asked ≡ Call call.request = cc in
    ap (λ (asked : Asked). is_command asked || is_freely_passed server turn) same ∙ ap (λ (side : Option Side). is_before side && is_numbered server None) lost ∙ none
lost_costs server (Some session) turn lost costs none = absurd (true≢false none)

-- a turn that is due costs where it isn't free
pub turn_costs : {A E : Type 0} (plan : PlanData) (journal : List Entry) (server : State) (actor : Actor) (turn : Turn) (r : Result A E) → Some turn ≡ due plan journal actor → OnErr r (is_free_turn server (live_session journal turn.actor) turn ≡ false) → OnErr r (MayCost plan journal server actor)
turn_costs plan journal server actor turn (Ok x) is costs = tt
turn_costs plan journal server actor turn (Err e) is costs = record { turn = turn; is_due = sym is; costs = costs }

-- A TURN THAT MAY GET THE RANGE

pub record Reads (setup : Option Setup) (turn : Turn) : Type 0 where
  position : ℕ
  reaches : setup ≡ Some (Reaching position)
  inspects : turn.actor ≡ Insp
  heard : is_heard turn.side turn.asked ≡ true

record Reaches (setup : Option Setup) : Type 0 where
  position : ℕ
  is : setup ≡ Some (Reaching position)

reaches_at : (setup : Option Setup) → is_reaching setup ≡ true → Reaches setup
reaches_at None is = absurd (false≢true is)
reaches_at (Some Listing) is = absurd (false≢true is)
reaches_at (Some (Clearing left)) is = absurd (false≢true is)
reaches_at (Some MakingLog) is = absurd (false≢true is)
reaches_at (Some MakingGhost) is = absurd (false≢true is)
reaches_at (Some Marking) is = absurd (false≢true is)
reaches_at (Some (Reaching position)) is = record { position = position; is = refl }

inspector_is : (actor : Actor) → is_inspector actor ≡ true → actor ≡ Insp
inspector_is Insp is = refl
inspector_is Op is = absurd (false≢true is)
inspector_is Copy is = absurd (false≢true is)
inspector_is Apply is = absurd (false≢true is)
inspector_is Lock is = absurd (false≢true is)
inspector_is Ren is = absurd (false≢true is)
inspector_is (Client client) is = absurd (false≢true is)

reads : (setup : Option Setup) (turn : Turn) → reads_range setup turn ≡ true → Reads setup turn
reads setup turn is = by (is_reaching setup) (is_inspector turn.actor) (is_heard turn.side turn.asked) refl refl refl is
  where
    by : (reaches inspects heard : Bool) → is_reaching setup ≡ reaches → is_inspector turn.actor ≡ inspects → is_heard turn.side turn.asked ≡ heard → (reaches && inspects && heard) ≡ true → Reads setup turn
    by true true true reaches inspects heard is = let at = reaches_at setup reaches in record { position = at.position; reaches = at.is; inspects = inspector_is turn.actor inspects; heard = heard }
    by true true false reaches inspects heard is = absurd (false≢true is)
    by true false heard reaches inspects hears is = absurd (false≢true is)
    by false inspects heard reaches inspected hears is = absurd (false≢true is)

-- the server isn't asked for names that somebody may hold
not_blocked : (server : State) (session : ℕ) (table : List ℕ) (waiting : Option Waiting) → request_of waiting ≡ Some (requests.Ends table) → is_blocked_exclusive server session waiting ≡ false
not_blocked server session table None is = refl
not_blocked server session table (Some waiting) is =
    let same : waiting.request ≡ requests.Ends table = cc in
    ap (λ (request : Request). is_exclusive request && is_some (blocker server session (need server session waiting.request))) same

module _ (plan : PlanData) (journal : List Entry) (one : RunState) (sessions : ℕ) (server : State) (turn : Turn) (run : IsRun plan journal one sessions server) (due_so : IsDue plan journal turn) (is : Reads one.tool.setup turn) where
  -- what the inspector asks in the setup's last step
  abbrev setup : ToolPhase
  setup = SettingUp (setups.Reaching is.position) one.tool.setup_tries.turns

  tool_phase : (moment plan journal).tool.tool_phase ≡ setup
  tool_phase = sym (ap (λ (t : program.Tool). t.tool_phase) run.run_state.tool) ∙ ap (λ (s : Option Setup). tool_phase_in s one.tool.setup_tries.turns (work_of one.tool.work)) is.reaches

  called_ends : (request : Request) → tool_call plan (moment plan journal).server journal (moment plan journal).tool (moment plan journal).tool.tool_phase Insp ≡ Some request → request ≡ requests.Ends plan.table
  called_ends request called = by (is_reverting (moment plan journal).tool.reason) (sym (ap (λ (p : ToolPhase). tool_call plan (moment plan journal).server journal (moment plan journal).tool p Insp) tool_phase) ∙ called)
    where
      by : (b : Bool) → (if b then None else Some (requests.Ends plan.table)) ≡ Some request → request ≡ requests.Ends plan.table
      by true same = absurd cc
      by false same = cc

  polled_ends : (request : Request) → (standing_of plan journal Insp).waits ≡ Some request → request ≡ requests.Ends plan.table
  polled_ends request waits =
      let same : Some (requests.Ends plan.table) ≡ Some request = (subst (ToolPhaseTables plan (state_at plan journal).tables (standing_of plan journal)) tool_phase (tables_exist plan journal run.runs.fitting run.runs.stands run.kept.faithful run.kept.follows)).waits request waits in
      cc

  poll_costs : (live : Option ℕ) → live_session journal Insp ≡ live → turn.asked ≡ Poll → turn.side ≡ None → (standing_in (state_at plan journal) live).waits ≡ Some (requests.Ends plan.table) → is_free_turn server live turn ≡ false
  poll_costs None lives polls heard waits = ap (λ (asked : Asked). is_command asked || is_freely_passed server turn) polls ∙ not_passed server turn (ap is_before heard)
  poll_costs (Some n) lives polls heard waits =
      ap (λ (a : Asked). is_free_in server n turn.side a) polls ∙ ap (λ (side : Option Side). is_free_in server n side Poll) heard
      ∙ not_blocked server n plan.table (waiting_of n server.waiting) (ap (λ (s : State). request_of (waiting_of n s.waiting)) run.server.same ∙ waits)

  heard_side : turn.side ≡ None
  heard_side = by turn.side refl
    where
      by : (side : Option Side) → turn.side ≡ side → side ≡ None
      by None at = refl
      by (Some side) at = absurd (false≢true (sym (ap (λ (s : Option Side). is_heard s turn.asked) at) ∙ is.heard))

  asks_ends : Asking plan journal Insp turn.asked → is_free_turn server (live_session journal Insp) turn ≡ false
  asks_ends (calls_so request same idle call) = call_costs server (live_session journal Insp) turn request same heard_side (ap is_free (called_ends request call))
  asks_ends (polls_so request same waits) =
      poll_costs (live_session journal Insp) refl same heard_side (waits ∙ ap Some (polled_ends request waits))

  inspector_given : given plan journal turn.actor ≡ Some turn.asked → Asking plan journal Insp turn.asked
  unfolding given
  inspector_given gives = asking plan journal Insp turn.asked (server_is plan journal) (subst (λ (actor : Actor). given plan journal actor ≡ Some turn.asked) is.inspects gives)

  pub costs_so : is_free_turn server (live_session journal turn.actor) turn ≡ false
  costs_so = ap (λ (actor : Actor). is_free_turn server (live_session journal actor) turn) is.inspects ∙ by (comes plan journal due_so.actor turn due_so.is)
    where
      by : Comes plan journal due_so.actor turn → is_free_turn server (live_session journal Insp) turn ≡ false
      by (Gives none same gives side) = asks_ends (inspector_given gives)
      by (Cuts at none cut) = absurd (false≢true (sym (ap (λ (a : Asked). is_heard turn.side a) cut ∙ ap (λ (s : Option Side). is_heard s Cut) none) ∙ is.heard))

-- *The turn that may get the range* may take memory
pub reading_costs : (plan : PlanData) (journal : List Entry) (one : RunState) (sessions : ℕ) (server : State) (turn : Turn) → IsRun plan journal one sessions server → IsDue plan journal turn → reads_range one.tool.setup turn ≡ true → is_free_turn server (live_session journal turn.actor) turn ≡ false
reading_costs plan journal one sessions server turn run due_so is = costs_so plan journal one sessions server turn run due_so (reads one.tool.setup turn is)
