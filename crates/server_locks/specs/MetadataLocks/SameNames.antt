-- Lists that have the same locks on names, in whatever order and however often.
use Rattle.std.specs.Prelude.{◌≡◌, ◌⊎◌, List, [], ◌∷◌}
use Rattle.server_locks.specs.MetadataLocks.Grants.{HeldName}

-- The lock is one of these.
abbrev pub HasName : List HeldName → HeldName → Type 0
HasName [] lock = ⊥
HasName (first ∷ held) lock = (first ≡ lock) ⊎ HasName held lock

-- Both lists have the same locks.
pub record SameNames (first second : List HeldName) : Type 0 where
  pub there : (lock : HeldName) → HasName first lock → HasName second lock
  pub here : (lock : HeldName) → HasName second lock → HasName first lock
