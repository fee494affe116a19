use Rattle.std.proofs.Common.{sym, ap}
use Rattle.std.proofs.lemmas.Result.{IfOk-weaker}
use Rattle.server_model.specs.Effects.{Effect}
use Rattle.server_model.specs.PlainServer.{does}
use Rattle.server_model.specs.States.{State, is_in_transaction, session_of, view}
use Rattle.server_storage.specs.Storage.{committed, written}
use Rattle.server.specs.Parts.{state_of}
use Rattle.server.proofs.Steps.{unlocks_have}
use Rattle.server.proofs.Requests.{drop_needs, rename_needs}
use Rattle.server.proofs.operation.do_inside.Goals as goal

pub drop_table-requires : goal.drop_table-requires
drop_table-requires c = drop_needs (committed c.args.storage.now) (written c.args.storage.now) c.args.all_sessions.now c.args.session c.in-Drop.name c.args.request.now c.args.prepared c.requires.together c.requires.may c.in-Drop.is

pub rename-requires : goal.rename-requires
rename-requires c = rename_needs (committed c.args.storage.now) (written c.args.storage.now) c.args.all_sessions.now c.args.session c.in-Rename.pairs c.args.request.now c.args.prepared c.requires.together c.requires.may c.in-Rename.is

pub returns-in-Unlock-clause-have : goal.returns-in-Unlock-clause-have
returns-in-Unlock-clause-have c = unlocks_have (written c.args.storage.now) c.args.all_sessions.now c.unlock.new.self c.args.session c.requires.together.have c.unlock.ensures

pub returns-in_default-clause-answer : goal.returns-in_default-clause-answer
returns-in_default-clause-answer c =
    let state : State = state_of (committed c.args.storage.now) c.args.all_sessions.now in
    IfOk-weaker c.look.result _ _ (λ answer h. sym (ap (λ (d : Effect). (does d state c.args.session).answer) h)) (c.look.ensures (is_in_transaction (session_of c.args.session c.args.all_sessions.now.sessions)) (view c.args.session state))
