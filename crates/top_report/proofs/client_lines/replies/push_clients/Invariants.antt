use Rattle.std.proofs.Common.{◌≡◌, ℕ, ◌+◌, List, ◌++◌, drop}
use Rattle.server_model.specs.declared.entry.Entry.{Entry}
use Rattle.plan_data.specs.PlanData.{PlanData}
use Rattle.top_report.specs.ClientLines.Replies.{clients_from}
use Rattle.top_report.proofs.client_lines.replies.push_clients.Given as goal

pub record Telling (plan : PlanData) (journal : List Entry) (client index : ℕ) (text first : List ℕ) : Type 0 where
  pub text_is : text ++ clients_from plan journal client (drop index plan.clients) ≡ first ++ clients_from plan journal 1 plan.clients
  pub client_is : client ≡ index + 1

-- what stands with the clients that are left is all
abbrev pub invariant-loop-script : goal.invariant-loop-script
invariant-loop-script l = Telling l.plan l.journal l.client l.script-index l.into l.fn.into
