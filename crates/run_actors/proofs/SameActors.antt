-- Whether two are one actor.
use Rattle.std.proofs.Common.{◌≡◌, ℕ, ◌==◌, true, refl, ap, arith}
use Rattle.std.proofs.lemmas.Bool.Decides.{nat_tests}
use Rattle.base_script.specs.declared.actor.Actor.{Actor}
use Rattle.base_script.specs.declared.actor.Actor.TheVariants.{Op, Insp, Copy, Apply, Lock, Ren, Client}
use Rattle.server_model.specs.Entries.{same_actor}

-- an actor is itself
pub own : (actor : Actor) → same_actor actor actor ≡ true
own (Client number) = grind (arith, nat_tests)
own actor = refl

are_one : (a b : ℕ) → (a == b) ≡ true → a ≡ b
are_one a b is = grind (arith, nat_tests)

-- and no other
pub same_is : (actor other : Actor) → same_actor actor other ≡ true → actor ≡ other
same_is Op Op same = refl
same_is Insp Insp same = refl
same_is Copy Copy same = refl
same_is Apply Apply same = refl
same_is Lock Lock same = refl
same_is Ren Ren same = refl
same_is (Client number) (Client other) same = ap Client (are_one number other same)
same_is actor other same = absurd (cc)
