-- Lists that have the same locks, in whatever order and however often.
use Rattle.std.specs.Prelude.{◌≡◌, ◌⊎◌, List, [], ◌∷◌}
use Rattle.server_locks.specs.declared.row_locks.lock.HeldLock.{HeldLock}

-- The lock is one of these.
abbrev pub HasLock : List HeldLock → HeldLock → Type 0
HasLock [] held = ⊥
HasLock (first ∷ locks) held = (first ≡ held) ⊎ HasLock locks held

-- Both lists have the same locks.
pub record SameLocks (first second : List HeldLock) : Type 0 where
  pub there : (held : HeldLock) → HasLock first held → HasLock second held
  pub here : (held : HeldLock) → HasLock second held → HasLock first held
