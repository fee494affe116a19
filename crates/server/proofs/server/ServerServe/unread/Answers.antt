use Rattle.std.proofs.Common.{◌∙◌, sym}
use Rattle.server_storage.specs.Storage.{committed}
use Rattle.server.proofs.Steps.{unread_same}
use Rattle.server.proofs.server.ServerServe.unread.Goals as goal

pub returns : goal.returns
returns c = rw (← c.self.view_is) (c.unread.ensures ∙ sym (unread_same (committed c.self.inside.storage) c.self.inside.all_sessions c.args.position c.args.tables.now))
