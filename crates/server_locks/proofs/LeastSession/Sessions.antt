-- The least of several sessions, whichever are taken first; and where there is none.
use Rattle.std.proofs.Common.{◌≡◌, ℕ, Bool, true, false, not, ◌&&◌, cond, Option, Some, None, refl, ap, arith}
use Rattle.server_locks.specs.LeastSession.Least.{least}

pub least-least : (a b c : Option ℕ) → least (least a b) c ≡ least a (least b c)
least-least None b c = refl
least-least (Some a) None c = refl
least-least (Some a) (Some b) None = refl
least-least (Some a) (Some b) (Some c) = ap Some (omega arith)

pub least-none : (a : Option ℕ) → least a None ≡ a
least-none None = refl
least-none (Some a) = refl

-- where there is none of both, there is none of each
pub none_of : (a b : Option ℕ) → least a b ≡ None → (a ≡ None) × (b ≡ None)
none_of None None e = (refl, refl)
none_of None (Some b) e = absurd cc
none_of (Some a) None e = absurd cc
none_of (Some a) (Some b) e = absurd cc

-- another session that doesn't stand in the way is in no conflict
pub not_refused : (own conflicts : Bool) (session : ℕ) → cond (not own && conflicts) (Some session) None ≡ None → own ≡ false → conflicts ≡ false
not_refused true conflicts session e other = absurd cc
not_refused false true session e other = absurd cc
not_refused false false session e other = refl
