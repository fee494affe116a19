use Rattle.std.proofs.Common.{◌≡◌, ◌∙◌, ℕ, Bool, not, cond, insert, ap, List}
use Rattle.base_page_list.specs.Pages.{flat}
use Rattle.server_locks.proofs.RowLocks.LockTable.LockLists.{lists_put}
use Rattle.server_locks.proofs.RowLocks.LockTable.ListEdits.{locks_put, slots_put}
use Rattle.server_locks.proofs.row_locks.lock_table.lock_lists.LockLists.put.Goals as goal

put_there : (entries entries' : List ℕ) (place n entry : ℕ) → entries' ≡ insert entries place entry → place ≡ n → entries' ≡ insert entries n entry
put_there entries entries' place n entry is same = is ∙ ap (λ (m : ℕ). insert entries m entry) same

put_if : (b c : Bool) (entries entries' : List ℕ) (place n entry : ℕ) → entries' ≡ cond (not b) (insert entries place entry) entries → place ≡ n → b ≡ c → entries' ≡ cond (not c) (insert entries n entry) entries
put_if b c entries entries' place n entry is same bc = is ∙ ap (λ (m : ℕ). cond (not b) (insert entries m entry) entries) same ∙ ap (λ (d : Bool). cond (not d) (insert entries n entry) entries) bc

pub returns-clause-consistent : goal.returns-clause-consistent
returns-clause-consistent c =
    let old = c.args.self.now in
    let entry = c.insert_reserved-entry.result in
    lists_put old.slab c.insert_reserved-entry.new.self (flat old.granted.pages) (flat old.owned.pages) (flat old.spans.pages) (flat old.wide.pages) (flat c.insert.new.self.pages) (flat c.insert-2.new.self.pages) (flat c.insert-3.new.self.pages) (flat c.insert_if.new.list.pages)
    entry c.args.one c.requires.consistent c.insert_reserved-entry.ensures.updates c.insert_reserved-entry.ensures.was_vacant c.insert_reserved-entry.ensures.len
    (put_there (flat old.granted.pages) _ _ _ entry c.insert.ensures.entries c.place_of-granted.ensures.place)
    (put_there (flat old.owned.pages) _ _ _ entry c.insert-2.ensures.entries c.place_of-owned.ensures.place)
    (put_there (flat old.spans.pages) _ _ _ entry c.insert-3.ensures.entries c.place_of-spans.ensures.place)
    (put_if c.is_point-is_wide.result _ (flat old.wide.pages) _ _ _ entry c.insert_if.ensures.entries c.place_of-wide.ensures.place c.is_point-is_wide.ensures)

pub returns-clause-locks : goal.returns-clause-locks
returns-clause-locks c =
    let old = c.args.self.now in
    let entry = c.insert_reserved-entry.result in
    locks_put old.slab c.insert_reserved-entry.new.self entry c.args.one (flat old.granted.pages) (flat c.insert.new.self.pages) c.insert_reserved-entry.ensures.updates c.requires.consistent.by_grant.stored c.insert_reserved-entry.ensures.was_vacant c.requires.consistent.before
    (put_there (flat old.granted.pages) _ _ _ entry c.insert.ensures.entries c.place_of-granted.ensures.place)

pub returns-clause-slots : goal.returns-clause-slots
returns-clause-slots c =
    let old = c.args.self.now in
    let entry = c.insert_reserved-entry.result in
    slots_put old.slab c.insert_reserved-entry.new.self entry c.args.one (flat old.granted.pages) (flat c.insert.new.self.pages) c.insert_reserved-entry.ensures.updates c.requires.consistent.by_grant.stored c.insert_reserved-entry.ensures.was_vacant c.requires.consistent.before
    (put_there (flat old.granted.pages) _ _ _ entry c.insert.ensures.entries c.place_of-granted.ensures.place)
