-- Two lists with the same locks refuse alike.
use Rattle.std.proofs.Common.{◌≡◌, inl, inr, ◌∙◌, ℕ, List, [], ◌∷◌, Option, refl, sym, ap}
use Rattle.server_locks.specs.LeastSession.Least.{least}
use Rattle.server_locks.proofs.LeastSession.Sessions.{least-least, least-none}
use Rattle.server_locks.specs.declared.row_locks.lock.Lock.{Lock}
use Rattle.server_locks.specs.declared.row_locks.lock.HeldLock.{HeldLock}
use Rattle.server_locks.specs.RowLocks.Grants.{refusal, blocker_of_lock, blocker_of_set}
use Rattle.server_locks.specs.RowLocks.SameLocks.{HasLock, SameLocks}
use Rattle.server_locks.proofs.RowLocks.LockTable.Blockers.{least_comm, least_self, same_least}

one_refuses : (session : ℕ) (lock : Lock) (xs : List HeldLock) (held : HeldLock) → HasLock xs held → least (blocker_of_lock xs session lock) (refusal session lock held) ≡ blocker_of_lock xs session lock
unfolding blocker_of_lock
one_refuses session lock [] held has = absurd has
one_refuses session lock (x ∷ xs) held (inl is) =
    let rest = blocker_of_lock xs session lock in
    let f = refusal session lock x in
    let g = refusal session lock held in
    let same : f ≡ g = ap (refusal session lock) is in
    least-least f rest g ∙ ap (least f) (least_comm rest g) ∙ sym (least-least f g rest) ∙ ap (λ (o : Option ℕ). least o rest) (ap (least f) (sym same) ∙ least_self f)
one_refuses session lock (x ∷ xs) held (inr has) = least-least (refusal session lock x) (blocker_of_lock xs session lock) (refusal session lock held) ∙ ap (least (refusal session lock x)) (one_refuses session lock xs held has)

all_refuse : (session : ℕ) (lock : Lock) (a : Option ℕ) (ys : List HeldLock) → ((held : HeldLock) → HasLock ys held → least a (refusal session lock held) ≡ a) → least a (blocker_of_lock ys session lock) ≡ a
unfolding blocker_of_lock
all_refuse session lock a [] each = least-none a
all_refuse session lock a (y ∷ ys) each =
    sym (least-least a (refusal session lock y) (blocker_of_lock ys session lock)) ∙ ap (λ (o : Option ℕ). least o (blocker_of_lock ys session lock)) (each y (inl refl)) ∙ all_refuse session lock a ys (λ held has. each held (inr has))

same_blocker : (session : ℕ) (lock : Lock) (xs ys : List HeldLock) → SameLocks xs ys → blocker_of_lock xs session lock ≡ blocker_of_lock ys session lock
same_blocker session lock xs ys same =
    same_least (blocker_of_lock xs session lock) (blocker_of_lock ys session lock)
    (all_refuse session lock (blocker_of_lock xs session lock) ys (λ held has. one_refuses session lock xs held (same.here held has)))
    (all_refuse session lock (blocker_of_lock ys session lock) xs (λ held has. one_refuses session lock ys held (same.there held has)))

pub same_blockers : (session : ℕ) (set : List Lock) (xs ys : List HeldLock) → SameLocks xs ys → blocker_of_set xs session set ≡ blocker_of_set ys session set
unfolding blocker_of_set
same_blockers session [] xs ys same = refl
same_blockers session (lock ∷ set) xs ys same =
    ap (λ (o : Option ℕ). least o (blocker_of_set xs session set)) (same_blocker session lock xs ys same) ∙ ap (least (blocker_of_lock ys session lock)) (same_blockers session set xs ys same)
