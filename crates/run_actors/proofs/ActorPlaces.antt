-- The actors by their places in the fixed order.
use Rattle.std.proofs.Common.{◌≡◌, ◌≤◌, ◌<◌, ℕ, zero, suc, ◌+◌, ◌-◌, List, [], ◌∷◌, length, Some, sym, ap, ◌∙◌, refl, arith}
use Rattle.std.specs.List.{slice_get}
use Rattle.base_script.specs.declared.actor.Actor.TheVariants.{Client}
use Rattle.base_script.specs.declared.script.ScriptLine.{ScriptLine}
use Rattle.plan_data.specs.PlanData.{PlanData}
use Rattle.tool_program.specs.Orders.{actors, clients_from}

client_count : (first : ℕ) (scripts : List (List ScriptLine)) → length (clients_from first scripts) ≡ length scripts
unfolding clients_from
client_count first [] = refl
client_count first (script ∷ scripts) = ap suc (client_count (first + 1) scripts)

-- how many actors there are
pub actor_count : (plan : PlanData) → length plan.clients + 6 ≡ length (actors plan)
unfolding actors
actor_count plan = let same : length (clients_from 1 plan.clients) ≡ length plan.clients = client_count 1 plan.clients in omega (arith, same)

client_of : (first i : ℕ) (scripts : List (List ScriptLine)) → i < length scripts → slice_get (clients_from first scripts) i ≡ Some (Client (first + i))
unfolding clients_from
client_of first i [] within = absurd (omega (arith, within))
client_of first zero (script ∷ scripts) within = let same : first ≡ first + zero = omega arith in ap (λ (n : ℕ). Some (Client n)) same
client_of first (suc i) (script ∷ scripts) within =
    let rest : i < length scripts = omega (arith, within) in
    let next : first + 1 + i ≡ first + suc i = omega arith in
    client_of (first + 1) i scripts rest ∙ ap (λ (n : ℕ). Some (Client n)) next

after_six : (plan : PlanData) (i : ℕ) → i < length plan.clients → slice_get (actors plan) (suc (suc (suc (suc (suc (suc i)))))) ≡ Some (Client (1 + i))
unfolding actors
after_six plan i within = client_of 1 i plan.clients within

-- the client at a place behind the tool's actors
pub client_at : (plan : PlanData) (place : ℕ) → 6 ≤ place → place < length (actors plan) → slice_get (actors plan) place ≡ Some (Client (place - 5))
client_at plan place from within =
    let count : length plan.clients + 6 ≡ length (actors plan) = actor_count plan in
    let is : suc (suc (suc (suc (suc (suc (place - 6)))))) ≡ place = omega (arith, from) in
    let inside : place - 6 < length plan.clients = omega (arith, count, within, from) in
    let number : 1 + (place - 6) ≡ place - 5 = omega (arith, from) in
    sym (ap (slice_get (actors plan)) is) ∙ after_six plan (place - 6) inside ∙ ap (λ (n : ℕ). Some (Client n)) number

-- they are few
pub few_actors : (plan : PlanData) → length plan.clients ≤ 64 → length (actors plan) ≤ 70
few_actors plan few = let count : length plan.clients + 6 ≡ length (actors plan) = actor_count plan in omega (arith, count, few)
