use Rattle.std.proofs.Common.{ap}
use Rattle.server_model.specs.declared.work.StatementResult.{StatementResult}
use Rattle.server_storage.specs.Storage.{committed, written}
use Rattle.server.specs.Parts.{result_of}
use Rattle.server.proofs.Steps.{same_together}
use Rattle.server.proofs.Requests.{both_given, statement_gives, statement_grows, statement_sound}
use Rattle.server.proofs.results.statement.Goals as goal

pub execute-requires : goal.execute-requires
execute-requires c =
    statement_sound (committed c.args.storage.now) (written c.args.storage.now) c.args.all_sessions.now c.args.session c.args.statement.now c.args.request.now c.args.prepared c.table_of.result.now c.requires.together.have c.requires.may c.requires.request c.table_of.ensures

pub keep-requires-clause-together : goal.keep-requires-clause-together
keep-requires-clause-together c =
    same_together (committed c.args.storage.now) (committed c.execute.new.self) (written c.args.storage.now) (written c.execute.new.self) c.args.all_sessions.now c.requires.together c.execute.ensures.committed c.execute.ensures.written

pub keep-requires-clause-grows : goal.keep-requires-clause-grows
keep-requires-clause-grows c =
    let given = statement_gives (committed c.args.storage.now) (written c.args.storage.now) c.args.all_sessions.now c.args.session c.args.statement.now c.args.request.now c.args.prepared c.table_of.result.now (result_of c.in_ok-executed.executed) c.requires.together.have c.requires.may c.requires.request c.table_of.ensures (both_given c.in_ok-executed.executed _ c.in_ok-executed.ensures.answer c.in_ok-executed.ensures.events) in
    rw c.execute.ensures.committed
    (statement_grows (committed c.args.storage.now) (written c.args.storage.now) c.args.all_sessions.now c.args.session c.args.statement.now c.args.request.now c.args.prepared (result_of c.in_ok-executed.executed) c.requires.together c.requires.may c.requires.request given)

pub returns-clause-answer : goal.returns-clause-answer
returns-clause-answer c =
    let given = statement_gives (committed c.args.storage.now) (written c.args.storage.now) c.args.all_sessions.now c.args.session c.args.statement.now c.args.request.now c.args.prepared c.table_of.result.now (result_of c.in_ok-executed.executed) c.requires.together.have c.requires.may c.requires.request c.table_of.ensures (both_given c.in_ok-executed.executed _ c.in_ok-executed.ensures.answer c.in_ok-executed.ensures.events) in
    rw (ap (λ (r : StatementResult). r.answer) given) at c.keep.ensures.answer

pub returns-clause-ok : goal.returns-clause-ok
returns-clause-ok c =
    let given = statement_gives (committed c.args.storage.now) (written c.args.storage.now) c.args.all_sessions.now c.args.session c.args.statement.now c.args.request.now c.args.prepared c.table_of.result.now (result_of c.in_ok-executed.executed) c.requires.together.have c.requires.may c.requires.request c.table_of.ensures (both_given c.in_ok-executed.executed _ c.in_ok-executed.ensures.answer c.in_ok-executed.ensures.events) in
    rw (given, c.execute.ensures.committed) at c.keep.ensures.ok

pub returns-clause-err : goal.returns-clause-err
returns-clause-err c = rw c.execute.ensures.committed at c.keep.ensures.err
