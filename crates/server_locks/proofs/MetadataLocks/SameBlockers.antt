-- Two lists with the same locks on names refuse alike.
use Rattle.std.proofs.Common.{◌≡◌, inl, inr, ◌∙◌, ℕ, Bool, true, false, ◌||◌, cond, List, [], ◌∷◌, Option, None, refl, sym, ap}
use Rattle.std.specs.List.{list_any}
use Rattle.std.proofs.lemmas.Bool.{or_cases, or_left, or_right}
use Rattle.server_locks.specs.LeastSession.Least.{least}
use Rattle.server_locks.proofs.LeastSession.Sessions.{least-least, least-none}
use Rattle.server_locks.specs.declared.metadata_locks.request.Waiter.{Waiter}
use Rattle.server_locks.specs.MetadataLocks.Grants.{HeldName, holding_session, holds, least_holder, least_waiter, ahead_of, blocker_of_name, blocker_of_names}
use Rattle.server_locks.specs.MetadataLocks.SameNames.{HasName, SameNames}
use Rattle.server_locks.proofs.RowLocks.LockTable.Blockers.{least_comm, least_self, same_least}

-- a test that one of the locks passes
pub passed : (test : HeldName → Bool) (held : List HeldName) (lock : HeldName) → HasName held lock → test lock ≡ true → list_any test held ≡ true
passed test [] lock has is = absurd has
passed test (first ∷ held) lock (inl same) is = or_left (test first) (list_any test held) (ap test same ∙ is)
passed test (first ∷ held) lock (inr has) is = or_right (test first) (list_any test held) (passed test held lock has is)

-- one of the locks that passes a test
pub record HasPassing (test : HeldName → Bool) (held : List HeldName) : Type 0 where
  pub lock : HeldName
  pub has : HasName held lock
  pub passes : test lock ≡ true

pub passing : (test : HeldName → Bool) (held : List HeldName) → list_any test held ≡ true → HasPassing test held
passing test [] is = absurd cc
passing test (first ∷ held) is =
    elim (or_cases (test first) (list_any test held) is) [
      | inl here ↦ record { lock = first; has = inl refl; passes = here }
      | inr later ↦ let one = passing test held later in record { lock = one.lock; has = inr one.has; passes = one.passes }
    ]

alike : (a b : Bool) → (a ≡ true → b ≡ true) → (b ≡ true → a ≡ true) → a ≡ b
alike true b there here = sym (there refl)
alike false true there here = here refl
alike false false there here = refl

any_same : (test : HeldName → Bool) (xs ys : List HeldName) → SameNames xs ys → list_any test xs ≡ list_any test ys
any_same test xs ys same =
    alike (list_any test xs) (list_any test ys)
    (λ is. let one = passing test xs is in passed test ys one.lock (same.there one.lock one.has) one.passes)
    (λ is. let one = passing test ys is in passed test xs one.lock (same.here one.lock one.has) one.passes)

pub same_holds : (session : ℕ) (name : List ℕ) (exclusive : Bool) (xs ys : List HeldName) → SameNames xs ys → holds xs session name exclusive ≡ holds ys session name exclusive
unfolding holds
same_holds session name exclusive xs ys same = any_same _ xs ys same

one_holds : (session : ℕ) (name : List ℕ) (exclusive : Bool) (xs : List HeldName) (lock : HeldName) → HasName xs lock → least (least_holder xs session name exclusive) (holding_session session name exclusive lock) ≡ least_holder xs session name exclusive
unfolding least_holder
one_holds session name exclusive [] lock has = absurd has
one_holds session name exclusive (x ∷ xs) lock (inl is) =
    let rest : Option ℕ = least_holder xs session name exclusive in
    let f : Option ℕ = holding_session session name exclusive x in
    let g : Option ℕ = holding_session session name exclusive lock in
    let same : f ≡ g = ap (holding_session session name exclusive) is in
    least-least f rest g ∙ ap (least f) (least_comm rest g) ∙ sym (least-least f g rest) ∙ ap (λ (o : Option ℕ). least o rest) (ap (least f) (sym same) ∙ least_self f)
one_holds session name exclusive (x ∷ xs) lock (inr has) =
    least-least (holding_session session name exclusive x) (least_holder xs session name exclusive) (holding_session session name exclusive lock)
    ∙ ap (least (holding_session session name exclusive x)) (one_holds session name exclusive xs lock has)

all_hold : (session : ℕ) (name : List ℕ) (exclusive : Bool) (a : Option ℕ) (ys : List HeldName) → ((lock : HeldName) → HasName ys lock → least a (holding_session session name exclusive lock) ≡ a) → least a (least_holder ys session name exclusive) ≡ a
unfolding least_holder
all_hold session name exclusive a [] each = least-none a
all_hold session name exclusive a (y ∷ ys) each =
    sym (least-least a (holding_session session name exclusive y) (least_holder ys session name exclusive))
    ∙ ap (λ (o : Option ℕ). least o (least_holder ys session name exclusive)) (each y (inl refl))
    ∙ all_hold session name exclusive a ys (λ lock has. each lock (inr has))

same_holder : (session : ℕ) (name : List ℕ) (exclusive : Bool) (xs ys : List HeldName) → SameNames xs ys → least_holder xs session name exclusive ≡ least_holder ys session name exclusive
same_holder session name exclusive xs ys same =
    same_least (least_holder xs session name exclusive) (least_holder ys session name exclusive)
    (all_hold session name exclusive (least_holder xs session name exclusive) ys (λ lock has. one_holds session name exclusive xs lock (same.here lock has)))
    (all_hold session name exclusive (least_holder ys session name exclusive) xs (λ lock has. one_holds session name exclusive ys lock (same.there lock has)))

same_blocker : (waiting : List Waiter) (session : ℕ) (name : List ℕ) (exclusive : Bool) (xs ys : List HeldName) → SameNames xs ys → blocker_of_name xs waiting session name exclusive ≡ blocker_of_name ys waiting session name exclusive
unfolding blocker_of_name
same_blocker waiting session name false xs ys same =
    ap (λ (o : Option ℕ). least o (cond (holds xs session name false) None (least_waiter waiting session name))) (same_holder session name true xs ys same)
    ∙ ap (λ b. least (least_holder ys session name true) (cond b None (least_waiter waiting session name))) (same_holds session name false xs ys same)
same_blocker waiting session name true xs ys same =
    ap (λ (o : Option ℕ). cond (holds xs session name true) None (least o (least_waiter (ahead_of session waiting) session name))) (same_holder session name false xs ys same)
    ∙ ap (λ b. cond b None (least (least_holder ys session name false) (least_waiter (ahead_of session waiting) session name))) (same_holds session name true xs ys same)

pub same_blockers : (waiting : List Waiter) (session : ℕ) (exclusive : Bool) (names : List (List ℕ)) (xs ys : List HeldName) → SameNames xs ys → blocker_of_names xs waiting session exclusive names ≡ blocker_of_names ys waiting session exclusive names
unfolding blocker_of_names
same_blockers waiting session exclusive [] xs ys same = refl
same_blockers waiting session exclusive (name ∷ names) xs ys same =
    ap (λ (o : Option ℕ). least o (blocker_of_names xs waiting session exclusive names)) (same_blocker waiting session name exclusive xs ys same)
    ∙ ap (least (blocker_of_name ys waiting session name exclusive)) (same_blockers waiting session exclusive names xs ys same)
