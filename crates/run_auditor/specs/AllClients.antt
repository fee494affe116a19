-- What is kept of each client of a trace. (This project's rule.)
use Rattle.std.specs.Prelude.{◌+◌, ℕ, Bool, true, is_some, List, [], ◌∷◌}
use Rattle.base_script.specs.declared.actor.Actor.{Actor}
use Rattle.base_script.specs.declared.actor.Actor.TheVariants.{Client}
use Rattle.base_script.specs.declared.script.ScriptLine.{ScriptLine}
use Rattle.plan_data.specs.PlanData.{PlanData}
use Rattle.tool_program.specs.JournalWords.Clients.{script_of}
use Rattle.run_audit.specs.declared.line.TraceLine.{TraceLine}
use Rattle.run_audit.specs.Audits.{reply_turns}
use Rattle.run_audit.specs.Rules.{client_reached}
use Rattle.run_judge.specs.declared.trace_client.TraceClient.{TraceClient}
use Rattle.run_judge.specs.TraceClients.{IsFollowed}

-- each of the scripts and of what is kept, in order, with the number of its client
unfoldable pub AreEach : (ℕ → List ScriptLine → TraceClient → Type 0) → ℕ → List (List ScriptLine) → List TraceClient → Type 0
AreEach P number [] [] = Unit {0}
AreEach P number (script ∷ scripts) (kept ∷ clients) = P number script kept × AreEach P (number + 1) scripts clients
AreEach P number scripts clients = ⊥

abbrev pub IsFollowedIn : PlanData → List TraceLine → ℕ → List ScriptLine → TraceClient → Type 0
IsFollowedIn plan before number script kept = IsFollowed script kept (client_reached plan before number) (reply_turns plan before number)

-- *All followed*: what is kept of each client of the plan's
abbrev pub AreFollowed : PlanData → List TraceLine → List TraceClient → Type 0
AreFollowed plan before clients = AreEach (IsFollowedIn plan before) 1 plan.clients clients

-- the plan has the actor: it has all of the tool's, and a client that has a script
abbrev pub is_of_plan : PlanData → Actor → Bool
is_of_plan plan (Client number) = is_some (script_of number plan)
is_of_plan plan actor = true
