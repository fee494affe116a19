-- A call of the tool's is filled as it is.
use Rattle.proof_journals.specs.Machine.Standings.{IsAbout, Standing, is_called, is_polled}
use Rattle.std.proofs.Common.{◌≡◌, ℕ, Bool, true, false, not, List, Option, Some, None, ap, ◌∙◌}
use Rattle.std.specs.Option.{option_map}
use Rattle.server_model.specs.Drawing.{filled, filled_for}
use Rattle.server_model.specs.Entries.{is_client, is_command}
use Rattle.server_model.specs.States.{State, is_of_tool, session_of}
use Rattle.server_model.specs.declared.entry.Asked.{Asked}
use Rattle.server_model.specs.declared.entry.Entry.{Entry}
use Rattle.server_model.specs.declared.request.Request.{Request}
use Rattle.server_model.specs.declared.session.Session.{Session}
use Rattle.server_model.proofs.Filling.{filled_tool}
use Rattle.plan_data.specs.PlanData.{PlanData}
use Rattle.tool_program.specs.JournalWords.Journals.{IsAnswered, opens, state_at}
use Rattle.proof_journals.specs.Run.Kept.{IsKept}
use Rattle.proof_journals.specs.Run.Laws.{Living}
use Rattle.proof_journals.proofs.Run.Living.{all_living, own_kind}
use Rattle.proof_journals.proofs.Machine.Journals.{IsRun, IsTogether}
use Rattle.proof_journals.proofs.Actors.{Placed, SessionsKnown, placed}

-- the tool's request is filled as it is
pub filled_so : (state : State) (number : ℕ) (request : Request) → is_of_tool (session_of number state.sessions) ≡ true → filled state number request ≡ request
filled_so state number request tool = ap (λ (b : Bool). filled_for b state.tables state.counters request) tool ∙ filled_tool state.tables state.counters request

pub about_uncommanded : (request : Request) (old : Standing) (asked : Asked) → IsAbout request old asked → is_command asked ≡ false
about_uncommanded request old asked (is_called asks none) = ap is_command asks
about_uncommanded request old asked (is_polled asks some) = ap is_command asks

tool_in : (found : Option Session) → option_map (λ (s : Session). s.is_tool) found ≡ Some true → is_of_tool found ≡ true
tool_in None is = absurd cc
tool_in (Some session) is = let same : session.is_tool ≡ true = cc in same

-- *The session of a turn of the tool's* is of the tool
pub session_of_tool : (journal : List Entry) (state : State) (entry : Entry) → Living journal state → SessionsKnown journal → Placed journal entry → IsAnswered state entry → is_command entry.asked ≡ false → is_client entry.actor ≡ false → is_of_tool (session_of entry.session (opens entry state).sessions) ≡ true
session_of_tool journal state entry living known at answered called tool = tool_in (session_of entry.session (opens entry state).sessions) (own_kind journal state entry living known at answered called ∙ ap (λ (b : Bool). Some (not b)) tool)

-- ... in a journal that is kept
pub tool_serves : (plan : PlanData) (journal : List Entry) (entry : Entry) → IsKept plan journal → IsTogether plan journal → IsRun plan journal entry → is_command entry.asked ≡ false → is_client entry.actor ≡ false
    → is_of_tool (session_of entry.session (opens entry (state_at plan journal)).sessions) ≡ true
tool_serves plan journal entry kept together run called tool =
    session_of_tool journal (state_at plan journal) entry (all_living plan journal kept.faithful kept.sessions) together.known.sessions (placed journal entry (record { session = run.followed.session })) run.answered called tool
