use Rattle.proof_journals.proofs.Run.Living.{all_living}
use Rattle.proof_journals.proofs.Run.Tallies.{load_turns, busy_turns, busy_counted}
use Rattle.proof_journals.proofs.Run.Turns.{entry_turned}
use Rattle.proof_journals.proofs.Run.Waits.{all_waits, lost_at_once}
use Rattle.proof_journals.proofs.Run.Numbering.{serves_numbered, leaves_numbered}
use Rattle.server_model.specs.PlainServer.{Served}
use Rattle.tool_program.specs.JournalWords.Journals.{after_entry}
use Rattle.std.proofs.Common.{ap}
use Rattle.law_journals.proofs.turns.sessions_are_known.Goals as goal

pub returns-clause-known : goal.returns-clause-known
returns-clause-known c = all_living

pub returns-clause-counts : goal.returns-clause-counts
returns-clause-counts c = λ state entry apart. record {
  load = load_turns entry.session state (after_entry state entry) (entry_turned state entry) apart;
  busy = busy_turns entry.session state (after_entry state entry) (entry_turned state entry) apart;
}

pub returns-clause-busy : goal.returns-clause-busy
returns-clause-busy c = busy_counted

pub returns-clause-numbers : goal.returns-clause-numbers
returns-clause-numbers c = λ made state session side asked. record {
  answer = ap (λ (served : Served). served.answer) (serves_numbered made state session asked);
  left = leaves_numbered side made state session asked;
}

pub returns-clause-waits : goal.returns-clause-waits
returns-clause-waits c = all_waits

pub returns-clause-left : goal.returns-clause-left
returns-clause-left c = lost_at_once
