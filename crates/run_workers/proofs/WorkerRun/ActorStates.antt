-- No two actors are one.
use Rattle.std.proofs.Common.{◌≡◌, ◌<◌, ℕ, ◌+◌, ◌==◌, Bool, true, false, ◌||◌, List, [], ◌∷◌, refl, arith}
use Rattle.base_script.specs.declared.actor.Actor.{Actor}
use Rattle.base_script.specs.declared.actor.Actor.TheVariants.{Op, Insp, Copy, Apply, Lock, Ren, Client}
use Rattle.base_script.specs.declared.script.ScriptLine.{ScriptLine}
use Rattle.server_model.specs.Entries.{same_actor}
use Rattle.plan_data.specs.PlanData.{PlanData}
use Rattle.server_model.proofs.LockedRows.Tests.{are_one}
use Rattle.tool_program.specs.Orders.{actors, clients_from, is_among}

-- no actor stands twice in the list
abbrev pub Apart : List Actor → Type 0
Apart [] = Unit {0}
Apart (actor ∷ others) = (is_among actor others ≡ false) × Apart others

no_client : (actor : Actor) (first : ℕ) (scripts : List (List ScriptLine)) → ((client : ℕ) → same_actor actor (Client client) ≡ false) → is_among actor (clients_from first scripts) ≡ false
unfolding clients_from
no_client actor first [] differs = refl
no_client actor first (script ∷ scripts) differs = rw (differs first) (no_client actor (first + 1) scripts differs)

later_client : (client first : ℕ) (scripts : List (List ScriptLine)) → client < first → is_among (Client client) (clients_from first scripts) ≡ false
unfolding clients_from
later_client client first [] less = refl
later_client client first (script ∷ scripts) less = by (client == first) refl (later_client client (first + 1) scripts (omega (arith, less)))
  where
    by : (b : Bool) → (client == first) ≡ b → is_among (Client client) (clients_from (first + 1) scripts) ≡ false → (b || is_among (Client client) (clients_from (first + 1) scripts)) ≡ false
    by true same rest = let one : client ≡ first = are_one client first same in absurd (omega (arith, one, less))
    by false differ rest = rest

clients_apart : (first : ℕ) (scripts : List (List ScriptLine)) → Apart (clients_from first scripts)
unfolding clients_from
clients_apart first [] = tt
clients_apart first (script ∷ scripts) = (later_client first (first + 1) scripts (omega arith), clients_apart (first + 1) scripts)

pub actors_apart : (plan : PlanData) → Apart (actors plan)
unfolding actors
actors_apart plan =
    let none = λ (actor : Actor) (other : (client : ℕ) → same_actor actor (Client client) ≡ false). no_client actor 1 plan.clients other in
    (none Op (λ client. refl), (none Insp (λ client. refl), (none Copy (λ client. refl), (none Apply (λ client. refl), (none Lock (λ client. refl), (none Ren (λ client. refl), clients_apart 1 plan.clients))))))
