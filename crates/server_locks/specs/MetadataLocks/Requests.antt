-- How the table is kept: the requests that were granted, those that wait, and where the last ask or poll began.
use Rattle.std.specs.Prelude.{◌≡◌, ℕ, ◌+◌, ◌<◌, ◌≤◌, List, ◌++◌, map, take, drop, Option, Some, None, Vec, vec_len, vec_capacity}
use Rattle.std.specs.Global.{Global}
use Rattle.std.specs.List.{flat_map}
use Rattle.std.specs.Option.{option_map}
use Rattle.server_locks.specs.declared.metadata_locks.request.Request.{Request}
use Rattle.server_locks.specs.declared.metadata_locks.request.Waiter.{Waiter}
use Rattle.server_locks.specs.declared.metadata_locks.locks.Mark.{Mark}
use Rattle.server_locks.specs.declared.metadata_locks.locks.Step.{Step}
use Rattle.server_locks.specs.declared.metadata_locks.locks.Step.TheVariants as steps
use Rattle.server_locks.specs.MetadataLocks.Grants.{HeldName}
use Rattle.server_locks.specs.MetadataLocks.LockTable.{NameTable, LastAsk, held_by}

-- The locks of a granted request.
abbrev pub locks_of : Request → List HeldName
locks_of request = map (held_by request.session request.exclusive) request.names

-- The locks of all of them.
abbrev pub all_locks : List Request → List HeldName
all_locks granted = flat_map locks_of granted

-- The request as it waited.
abbrev pub as_waiter : Request → Waiter
as_waiter request = record { session = request.session; names = request.names }

-- What waited before the last ask or poll: the first of them, this many; or, where a request was taken from this place, with it.
abbrev pub waited_before : Step → List Request → List Waiter → List Waiter
waited_before (steps.Asked n) since waiting = take n waiting
waited_before (steps.Polled place) since waiting = take place waiting ++ map as_waiter since ++ drop place waiting

-- The ask or poll that began at the mark.
abbrev pub ask_at : List Request → List Waiter → Mark → LastAsk
ask_at granted waiting mark = record { session = mark.session; exclusive = mark.exclusive; held = all_locks (take mark.granted granted); waiting = waited_before mark.step (drop mark.granted granted) waiting }

-- The table that is so kept.
abbrev pub table_of : List Request → List Waiter → Option Mark → NameTable
table_of granted waiting last = record { held = all_locks granted; waiting = waiting; last = option_map (ask_at granted waiting) last }

-- What is there once a request was taken from its place, that puts it back without memory.
abbrev pub StepIsRoomy : Step → ℕ → Vec Request Global → Vec Waiter Global → Type 0
StepIsRoomy (steps.Asked n) before granted waiting = Unit {0}
StepIsRoomy (steps.Polled place) before granted waiting = (before + 1 ≡ vec_len granted) × (place ≤ vec_len waiting) × (vec_len waiting < vec_capacity waiting)

-- The same of the last ask or poll, where there is one.
abbrev pub MarkIsRoomy : Option Mark → Vec Request Global → Vec Waiter Global → Type 0
MarkIsRoomy None granted waiting = Unit {0}
MarkIsRoomy (Some mark) granted waiting = StepIsRoomy mark.step mark.granted granted waiting

-- There is room to grant each request that waits, and to put the last one back.
pub record IsRoomy (granted : Vec Request Global) (waiting : Vec Waiter Global) (last : Option Mark) : Type 0 where
  pub grants : vec_len granted + vec_len waiting ≤ vec_capacity granted
  pub back : MarkIsRoomy last granted waiting
