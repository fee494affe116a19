use Rattle.std.proofs.Common.{Some}
use Rattle.top_words.specs.declared.command.Command.TheVariants.{Audit, Check, Generate, Rebuild, Replay, Run, Trace}
use Rattle.top_endings.specs.declared.status.Status.TheVariants.{Usage, Refused, Reverted, ReadFault, WriteFault, NoMemory, TurnsSpent, No}
use Rattle.top_call.proofs.Faulty.{faulty_words}
use Rattle.top_call.proofs.Numbers.{under, under_done}
use Rattle.top_call.proofs.top.ghost_.Goals as goal

pub returns-clause-done : goal.returns-clause-done
returns-clause-done g c = under_done (Some Replay) c.args.line.now _ _ c.ending.result.turns c.ending.result.journal c.ending.result.status c.ending.ensures.ends

pub returns-clause-done_by_workers : goal.returns-clause-done_by_workers
returns-clause-done_by_workers g c = λ workers. under_done (Some (Run workers)) c.args.line.now _ _ c.ending.result.turns c.ending.result.journal c.ending.result.status c.ending.ensures.ends

pub returns-clause-checked : goal.returns-clause-checked
returns-clause-checked g c = under_done (Some Check) c.args.line.now _ _ c.ending.result.turns c.ending.result.journal c.ending.result.status c.ending.ensures.ends

pub returns-clause-generated : goal.returns-clause-generated
returns-clause-generated g c = λ number. under_done (Some (Generate number)) c.args.line.now _ _ c.ending.result.turns c.ending.result.journal c.ending.result.status c.ending.ensures.ends

pub returns-clause-traced : goal.returns-clause-traced
returns-clause-traced g c = under_done (Some Trace) c.args.line.now _ _ c.ending.result.turns c.ending.result.journal c.ending.result.status c.ending.ensures.ends

pub returns-clause-audited : goal.returns-clause-audited
returns-clause-audited g c = under_done (Some Audit) c.args.line.now _ _ c.ending.result.turns c.ending.result.journal c.ending.result.status c.ending.ensures.ends

pub returns-clause-rebuilt : goal.returns-clause-rebuilt
returns-clause-rebuilt g c = λ workers. under_done (Some (Rebuild workers)) c.args.line.now _ _ c.ending.result.turns c.ending.result.journal c.ending.result.status c.ending.ensures.ends

pub returns-clause-usage : goal.returns-clause-usage
returns-clause-usage g c = under Usage c.args.line.now _ _ c.ending.result.turns c.ending.result.journal c.ending.result.status c.ending.ensures.ends

pub returns-clause-usage_at_faulty_words : goal.returns-clause-usage_at_faulty_words
returns-clause-usage_at_faulty_words g c = faulty_words c.args.line.now _ _ c.ending.result.turns c.ending.result.journal c.ending.result.status c.ending.ensures.ends

pub returns-clause-refused : goal.returns-clause-refused
returns-clause-refused g c = under Refused c.args.line.now _ _ c.ending.result.turns c.ending.result.journal c.ending.result.status c.ending.ensures.ends

pub returns-clause-reverted : goal.returns-clause-reverted
returns-clause-reverted g c = under Reverted c.args.line.now _ _ c.ending.result.turns c.ending.result.journal c.ending.result.status c.ending.ensures.ends

pub returns-clause-read_fault : goal.returns-clause-read_fault
returns-clause-read_fault g c = under ReadFault c.args.line.now _ _ c.ending.result.turns c.ending.result.journal c.ending.result.status c.ending.ensures.ends

pub returns-clause-write_fault : goal.returns-clause-write_fault
returns-clause-write_fault g c = under WriteFault c.args.line.now _ _ c.ending.result.turns c.ending.result.journal c.ending.result.status c.ending.ensures.ends

pub returns-clause-no_memory : goal.returns-clause-no_memory
returns-clause-no_memory g c = under NoMemory c.args.line.now _ _ c.ending.result.turns c.ending.result.journal c.ending.result.status c.ending.ensures.ends

pub returns-clause-turns_spent : goal.returns-clause-turns_spent
returns-clause-turns_spent g c = under TurnsSpent c.args.line.now _ _ c.ending.result.turns c.ending.result.journal c.ending.result.status c.ending.ensures.ends

pub returns-clause-no : goal.returns-clause-no
returns-clause-no g c = under No c.args.line.now _ _ c.ending.result.turns c.ending.result.journal c.ending.result.status c.ending.ensures.ends

pub returns-clause-ends : goal.returns-clause-ends
returns-clause-ends g c = c.ending.ensures.ends

pub returns-clause-runs : goal.returns-clause-runs
returns-clause-runs g c = c.ending.ensures.runs

pub returns-clause-unread : goal.returns-clause-unread
returns-clause-unread g c = c.ending.ensures.unread
