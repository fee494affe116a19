-- A server after a run is rested where numbers are left: no session has the next one.
use Rattle.std.proofs.Common.{◌≡◌, ℕ, ◌+◌, ◌<◌, ◌≤◌, List, Option, Some, None, option_map, refl, arith}
use Rattle.server_model.specs.declared.entry.Entry.{Entry}
use Rattle.server_model.specs.declared.session.Session.{Session}
use Rattle.server_model.specs.States.{session_of}
use Rattle.plan_data.specs.PlanData.{PlanData}
use Rattle.tool_program.specs.JournalWords.Journals.{IsFaithful, state_at}
use Rattle.tool_program.specs.JournalWords.Sessions.{KeepsSessions}
use Rattle.proof_journals.specs.Run.Counts.{kind_of}
use Rattle.proof_journals.specs.Run.Laws.{Living}
use Rattle.proof_journals.proofs.Run.Living.{all_living}
use Rattle.proof_journals.proofs.Run.Waits.{all_waits}
use Rattle.top_call.specs.RestedServers.{IsRested}

no_session : (found : Option Session) → option_map (λ session. session.is_tool) found ≡ None → found ≡ None
no_session None none = refl
no_session (Some session) none = absurd cc

-- *Rested after a journal*, where fewer sessions were made than there are numbers
pub rested_after : (plan : PlanData) (journal : List Entry) (sessions : ℕ) → IsFaithful plan journal → KeepsSessions journal → (state_at plan journal).made ≤ sessions → sessions < 4294967295 → IsRested (state_at plan journal)
rested_after plan journal sessions faithful keeps made room =
    let living : Living journal (state_at plan journal) = all_living plan journal faithful keeps in
    let above : (state_at plan journal).made < (state_at plan journal).made + 1 = omega arith in
    let none : kind_of ((state_at plan journal).made + 1) (state_at plan journal).sessions ≡ None = living.fresh ((state_at plan journal).made + 1) above in
    record {
      left = omega (arith, made, room);
      none = no_session (session_of ((state_at plan journal).made + 1) (state_at plan journal).sessions) none;
      idle = all_waits plan journal faithful keeps ((state_at plan journal).made + 1) none;
    }
