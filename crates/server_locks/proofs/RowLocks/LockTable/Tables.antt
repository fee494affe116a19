-- The table as contracts see it.
use Rattle.std.proofs.Common.{◌≡◌, ◌∙◌, ◌++◌, ℕ, List, map, reverse, Option, Some, None, Result, Ok, Err, OnErr, slice_index_or, ap}
use Rattle.std.specs.Option.{option_map}
use Rattle.base_page_list.specs.Pages.{flat}
use Rattle.server_locks.specs.declared.row_locks.lock.Lock.{Lock}
use Rattle.server_locks.specs.declared.row_locks.lock.HeldLock.{HeldLock}
use Rattle.server_locks.specs.RowLocks.LockTable.{LockTable, held_by, granted}
use Rattle.server_locks.specs.declared.row_locks.lock_table.granted_lock.GrantedLock.{GrantedLock}
use Rattle.server_locks.specs.declared.row_locks.lock_table.lock_lists.LockLists.{LockLists}
use Rattle.server_locks.specs.declared.row_locks.lock_table.Mark.{Mark}
use Rattle.server_locks.specs.RowLocks.LockLists.{AreConsistent, AreSame, held_in, locks_in}
use Rattle.server_locks.specs.RowLocks.Releases.{slots_in, locks_before}
use Rattle.server_locks.specs.RowLocks.Marks.{table_of}
use Rattle.server_locks.proofs.RowLocks.LockTable.LockLists.{lists_same}

slots_by : List (Option GrantedLock) → List (List ℕ) → List (Option GrantedLock)
slots_by slots pages = map (λ e. slice_index_or slots e None) (flat pages)

locks_by : List (Option GrantedLock) → List (List ℕ) → List HeldLock
locks_by slots pages = map (λ e. held_in (slice_index_or slots e None)) (flat pages)

pub same_locks : (old new : LockLists) → AreSame old new → locks_in new ≡ locks_in old
unfolding locks_by
same_locks old new same = ap (λ (slots : List (Option GrantedLock)). locks_by slots new.granted.pages) same.slab ∙ ap (locks_by old.slab.slots) same.granted

pub same_slots : (old new : LockLists) → AreSame old new → slots_in new ≡ slots_in old
unfolding slots_by
same_slots old new same = ap (λ (slots : List (Option GrantedLock)). slots_by slots new.granted.pages) same.slab ∙ ap (slots_by old.slab.slots) same.granted

table_from : List HeldLock → List (Option GrantedLock) → Option Mark → LockTable
table_from locks slots last = record { held = locks; last = option_map (λ mark. record { session = mark.session; before = locks_before mark.first slots }) last }

pub same_table : (old new : LockLists) (last : Option Mark) → AreSame old new → table_of new last ≡ table_of old last
unfolding table_from
same_table old new last same = ap (λ (ls : List HeldLock). table_from ls (slots_in new) last) (same_locks old new same) ∙ ap (λ (ss : List (Option GrantedLock)). table_from (locks_in old) ss last) (same_slots old new same)

-- all locks of a set are granted
granted_by : List HeldLock → List HeldLock → ℕ → LockTable
granted_by locks before session = record { held = locks; last = Some (record { session = session; before = before }) }

pub granted_is : (old middle new : LockLists) (last : Option Mark) (session first : ℕ) (set : List Lock) (added : List HeldLock) → AreSame old middle → reverse added ≡ map (held_by session) set → locks_in new ≡ locks_in middle ++ reverse added → locks_before first (slots_in new) ≡ locks_in middle
    → table_of new (Some (record { session = session; first = first })) ≡ granted (table_of old last) session set
unfolding granted_by
granted_is old middle new last session first set added same added_are locks before =
    let stood = same_locks old middle same in
    ap (λ (ls : List HeldLock). granted_by ls (locks_before first (slots_in new)) session) (locks ∙ ap (λ (ls : List HeldLock). ls ++ reverse added) stood ∙ ap (λ (ls : List HeldLock). locks_in old ++ ls) added_are)
    ∙ ap (λ (ls : List HeldLock). granted_by (locks_in old ++ map (held_by session) set) ls session) (before ∙ stood)

pub same_consistent : (next : ℕ) (old new : LockLists) → AreConsistent next old → AreSame old new → AreConsistent next new
same_consistent next old new are same = lists_same next old.slab new.slab _ _ _ _ _ _ _ _ are same.slab (ap flat same.granted) (ap flat same.owned) (ap flat same.spans) (ap flat same.wide)

pub on_err : {A E P : Type 0} (r : Result A E) → P → OnErr r P
on_err (Ok a) p = tt
on_err (Err e) p = p
