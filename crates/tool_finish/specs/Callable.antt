-- *Finishable*: what the new tool asks of a server may be asked of it.
use Rattle.std.specs.Prelude.{◌≡◌, List, [], ◌∷◌, ◌++◌}
use Rattle.server_model.specs.declared.entry.Asked.TheVariants.{Call}
use Rattle.server_model.specs.declared.entry.Entry.{Entry}
use Rattle.server_model.specs.declared.request.Request.{Request}
use Rattle.server_model.specs.Conditions.{MayCall}
use Rattle.plan_data.specs.PlanData.{PlanData}
use Rattle.tool_program.specs.JournalWords.Journals.{opens, state_at, IsFaithful}
use Rattle.tool_program.specs.JournalWords.Sessions.{KeepsSessions}
use Rattle.tool_finish.specs.Finishes.{IsFinish}

-- *Finishable run*: whatever was answered behind it, each call of the new tool may be made of the server as it then is: its session
-- doesn't wait, and the request may come and is well formed
abbrev pub IsFinishable : PlanData → List Entry → Type 0
IsFinishable plan run =
    (turns : List Entry) (entry : Entry) (request : Request) → IsFaithful plan (run ++ turns) → KeepsSessions (run ++ turns) → IsFinish plan run (turns ++ entry ∷ []) → entry.asked ≡ Call request → MayCall (opens entry (state_at plan (run ++ turns))) entry.session request
