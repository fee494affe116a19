use Rattle.std.proofs.Common.{[], None, refl, sym, subst}
use Rattle.tool_program.specs.JournalWords.Clients.{new_client}
use Rattle.run_judge.specs.declared.trace_client.RepliedTxn.{RepliedTxn}
use Rattle.run_judge.specs.TraceClients.{IsFollowed}
use Rattle.run_judge.proofs.FollowedClients.{begins_followed}
use Rattle.run_judge.proofs.trace_client.TraceClient.new.Goals as goal

pub returns : goal.returns
returns c = λ script.
    subst (λ (txn : RepliedTxn). IsFollowed script (record { state = c.new.result; drawn = None; txn = txn }) (new_client script) []) (sym c.new-2.ensures)
    (begins_followed script script c.new.result (new_client script) refl refl (c.new.ensures script))
