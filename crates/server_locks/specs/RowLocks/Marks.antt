-- The table as contracts see it: the locks in order of granting, and the last ask.
use Rattle.std.specs.Prelude.{Option}
use Rattle.std.specs.Option.{option_map}
use Rattle.server_locks.specs.RowLocks.LockTable.{LockTable, LastAsk}
use Rattle.server_locks.specs.declared.row_locks.lock_table.lock_lists.LockLists.{LockLists}
use Rattle.server_locks.specs.declared.row_locks.lock_table.Mark.{Mark}
use Rattle.server_locks.specs.RowLocks.LockLists.{locks_in}
use Rattle.server_locks.specs.RowLocks.Releases.{slots_in, locks_before}

-- the ask that began at the mark
abbrev pub ask_at : LockLists → Mark → LastAsk
ask_at lists mark = record { session = mark.session; before = locks_before mark.first (slots_in lists) }

-- the table that is so kept
abbrev pub table_of : LockLists → Option Mark → LockTable
table_of lists last = record { held = locks_in lists; last = option_map (ask_at lists) last }
