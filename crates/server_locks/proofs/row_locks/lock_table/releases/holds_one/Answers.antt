use Rattle.std.proofs.Common.{sym}
use Rattle.base_page_list.specs.Pages.{flat}
use Rattle.server_locks.proofs.RowLocks.LockTable.Releases.{some_of}
use Rattle.server_locks.proofs.row_locks.lock_table.releases.holds_one.Goals as goal

pub returns-in-Some : goal.returns-in-Some
returns-in-Some c = sym (some_of c.args.session c.args.lists.now.slab (flat c.args.lists.now.granted.pages) c.in-Some.field-0 c.requires.1.by_grant.stored c.in-Some.ensures.has c.in-Some.ensures.is)
