-- *The printed order is read again*, as the turns whose order it is. This project's rule.
use Rattle.std.specs.Prelude.{◌≡◌, ◌<◌, ◌≤◌, ◌^◌, ℕ, List, length, Ok}
use Rattle.std.specs.List.{AllByRecursion}
use Rattle.base_script.specs.declared.actor.Actor.{Actor}
use Rattle.base_script.specs.declared.actor.Actor.TheVariants.{Client}
use Rattle.plan_data.specs.PlanData.{turns_in}
use Rattle.top_report.specs.Turns.{order_text, runs_of}
use Rattle.plan_orders.specs.TurnOrder.Turns.{turns_of}

-- a plan with this many clients has the actor; clients are numbered from 1
abbrev pub IsOf : ℕ → Actor → Type 0
IsOf clients (Client number) = (0 < number) × (number ≤ clients)
IsOf clients actor = Unit {0}

-- Of any turns, fewer than 2^32, of the actors of a plan with as many clients as numbers of 32 bits have, the printed order
-- is read as the runs that are printed.
abbrev pub PrintedOrdersAreRead : Type 0
PrintedOrdersAreRead =
    (clients : ℕ) (actors : List Actor) → clients < 2 ^ 32 → length actors < 2 ^ 32 → AllByRecursion (IsOf clients) actors → turns_of clients (order_text (runs_of actors)) ≡ Ok (runs_of actors)

-- These runs are those turns.
abbrev pub PrintedOrdersAreThoseTurns : Type 0
PrintedOrdersAreThoseTurns = (actors : List Actor) → turns_in (runs_of actors) ≡ actors
