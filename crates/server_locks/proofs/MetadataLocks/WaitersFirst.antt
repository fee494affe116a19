-- A waiting request refuses shared locks that are asked for later.
use Rattle.std.proofs.Common.{◌≡◌, ◌≢◌, ℕ, Bool, true, false, not, nat_eq, ◌&&◌, cond, List, [], ◌∷◌, ◌++◌, Some, None, sym, ap, ◌∙◌}
use Rattle.std.proofs.lemmas.Bool.{ne_eqb}
use Rattle.server_locks.specs.declared.metadata_locks.request.Waiter.{Waiter}
use Rattle.server_locks.specs.MetadataLocks.Grants.{has_name, holds, waiting_session, least_holder, least_waiter, blocker_of_name}
use Rattle.server_locks.proofs.LeastSession.Sessions.{none_of}
use Rattle.server_locks.specs.MetadataLocks.Laws.{WaitersGoFirst}

refuses : (own named : Bool) (session : ℕ) → own ≡ false → named ≡ true → cond (not own && named) (Some session) None ≡ None → ⊥
refuses true named session e f g = absurd cc
refuses false true session e f g = cc
refuses false false session e f g = absurd cc

waits : (front following : List Waiter) (waiter : Waiter) (session : ℕ) (name : List ℕ) → has_name waiter.names name ≡ true → waiter.session ≢ session → least_waiter (front ++ waiter ∷ following) session name ≢ None
unfolding least_waiter
waits [] following waiter session name named other e =
    refuses (nat_eq waiter.session session) (has_name waiter.names name) waiter.session (ne_eqb waiter.session session other) named ((none_of (waiting_session session name waiter) (least_waiter following session name) e).0)
waits (first ∷ front) following waiter session name named other e =
    waits front following waiter session name named other ((none_of (waiting_session session name first) (least_waiter (front ++ waiter ∷ following) session name) e).1)

pub waiters_go_first : WaitersGoFirst
unfolding blocker_of_name
waiters_go_first held front following waiter session name named other lacks e =
    let waiting : List Waiter = front ++ waiter ∷ following in
    let rest : cond (holds held session name false) None (least_waiter waiting session name) ≡ None = (none_of (least_holder held session name true) (cond (holds held session name false) None (least_waiter waiting session name)) e).1 in
    waits front following waiter session name named other (sym (ap (λ holding. cond holding None (least_waiter waiting session name)) lacks) ∙ rest)
