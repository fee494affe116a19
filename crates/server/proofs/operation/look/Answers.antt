use Rattle.std.proofs.Common.{List, sym, ap, ◌∙◌}
use Rattle.server_model.specs.declared.answer.Answer.TheVariants as answers
use Rattle.server_model.specs.declared.listing.ShownWaiter.{ShownWaiter}
use Rattle.server_model.specs.Effects.{Rests}
use Rattle.server_storage.specs.Storage.{committed}
use Rattle.server.proofs.Steps.{waits_same}
use Rattle.server.proofs.operation.look.Goals as goal

pub returns-in_ok-waits_shown-in-ShowWaiting : goal.returns-in_ok-waits_shown-in-ShowWaiting
returns-in_ok-waits_shown-in-ShowWaiting c = λ busy seen.
    rw c.in-ShowWaiting.is (ap (λ (w : List ShownWaiter). Rests (answers.Waiting w)) (waits_same (committed c.args.storage.now) c.args.all_sessions.now ∙ sym c.in_ok-waits_shown-in-ShowWaiting.ensures))
