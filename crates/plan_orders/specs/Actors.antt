-- The words of actors, by which a plan names them. This project's rule.
use Rattle.std.specs.Prelude.{codes, ℕ, Bool, true, not, nat_lt, ◌==◌, if◌then◌else◌, List, [], ◌∷◌, Option, Some, None}
use Rattle.std.specs.Option.{option_map}
use Rattle.std.specs.Str.{bytes_eq}
use Rattle.base_values.specs.GhoSchema.Options.{◌>>=◌}
use Rattle.base_script.specs.declared.actor.Actor.{Actor}
use Rattle.base_script.specs.declared.actor.Actor.TheVariants.{Op, Insp, Copy, Apply, Lock, Ren, Client}
use Rattle.plan_orders.specs.Numbers.{number_of}

-- a client's word is `c` and its number: `c12`
abbrev pub client_of : List ℕ → Option Actor
client_of [] = None
client_of (letter ∷ number) = if letter == 99 then option_map Client (number_of number) else None

-- the actor whose word this is, whether or not the plan has this many clients
unfoldable pub actor_of : List ℕ → Option Actor
actor_of word =
    if bytes_eq word (codes "op") then Some Op
    else if bytes_eq word (codes "insp") then Some Insp
    else if bytes_eq word (codes "copy") then Some Copy
    else if bytes_eq word (codes "apply") then Some Apply
    else if bytes_eq word (codes "lock") then Some Lock
    else if bytes_eq word (codes "ren") then Some Ren
    else client_of word

-- a plan with this many clients has the actor
abbrev pub is_among : ℕ → Actor → Bool
is_among clients (Client number) = not (nat_lt clients number)
is_among clients actor = true

abbrev pub if_among : ℕ → Actor → Option Actor
if_among clients actor = if is_among clients actor then Some actor else None

-- the actor of a plan with this many clients whose word this is
abbrev pub actor_among : ℕ → List ℕ → Option Actor
actor_among clients word = actor_of word >>= if_among clients
