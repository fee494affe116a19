-- The walks of all clients behind a turn.
use Rattle.std.proofs.Common.{◌≡◌, ℕ, zero, suc, ◌+◌, ◌<◌, ◌≤◌, ◌==◌, true, false, List, [], ◌∷◌, length, get_or, refl, sym, ap, ap₂, arith, ◌⊎◌, inl, inr}
use Rattle.std.proofs.lemmas.Bool.Decides.{nat_tests}
use Rattle.std.specs.List.{slice_set}
use Rattle.base_script.specs.declared.actor.Actor.{Actor}
use Rattle.base_script.specs.declared.actor.Actor.TheVariants.{Op, Insp, Copy, Apply, Lock, Ren, Client}
use Rattle.server_model.specs.declared.entry.Entry.{Entry}
use Rattle.server_model.specs.Entries.{is_client, same_actor}
use Rattle.top_report.specs.ClientLines.Walks.{Walk, outcome_now, walk_after, walks_after}

-- a turn of another leaves them
pub others_pass : (walks : List Walk) (first : ℕ) (entry : Entry) → ((number : ℕ) → same_actor entry.actor (Client number) ≡ false) → walks_after first entry walks ≡ walks
unfolding walks_after
others_pass [] first entry other = refl
others_pass (walk ∷ walks) first entry other = rw (other first) (ap (λ (more : List Walk). walk ∷ more) (others_pass walks (first + 1) entry other))

-- a turn of the tool's is none of a client's
pub tool_turn : (actor : Actor) → is_client actor ≡ false → (number : ℕ) → same_actor actor (Client number) ≡ false
tool_turn Op tool number = refl
tool_turn Insp tool number = refl
tool_turn Copy tool number = refl
tool_turn Apply tool number = refl
tool_turn Lock tool number = refl
tool_turn Ren tool number = refl
tool_turn (Client client) tool number = absurd (cc)

pub tool_only : (actor : Actor) → ((number : ℕ) → actor ≡ Client number → ⊥) → is_client actor ≡ false
tool_only Op not = refl
tool_only Insp not = refl
tool_only Copy not = refl
tool_only Apply not = refl
tool_only Lock not = refl
tool_only Ren not = refl
tool_only (Client number) not = absurd (not number refl)

-- a turn of a client is none of another's
pub apart : (entry : Entry) (client number : ℕ) → entry.actor ≡ Client client → (client == number) ≡ false → same_actor entry.actor (Client number) ≡ false
apart entry client number is differ = rw is differ

-- a turn of a client below or above them leaves them
pub others_stay : (walks : List Walk) (first client : ℕ) (entry : Entry) → entry.actor ≡ Client client → (client < first) ⊎ (first + length walks ≤ client) → walks_after first entry walks ≡ walks
unfolding walks_after
others_stay [] first client entry is out = refl
others_stay (walk ∷ walks) first client entry is (inl below) =
    let differ : (client == first) ≡ false = grind (arith, nat_tests) in
    rw (apart entry client first is differ) (ap (λ (more : List Walk). walk ∷ more) (others_stay walks (first + 1) client entry is (inl (omega arith))))
others_stay (walk ∷ walks) first client entry is (inr above) =
    let far : first + (1 + length walks) ≤ client = omega (arith, above) in
    let differ : (client == first) ≡ false = grind (arith, nat_tests) in
    rw (apart entry client first is differ) (ap (λ (more : List Walk). walk ∷ more) (others_stay walks (first + 1) client entry is (inr (omega (arith, far)))))

-- a turn of a client moves its walk alone
pub one_passes : (walks : List Walk) (first client place : ℕ) (entry : Entry) (walk : Walk) → entry.actor ≡ Client client → first + place ≡ client → place < length walks → walk ≡ get_or walks place walk
    → slice_set walks place (walk_after (outcome_now walk entry) walk) ≡ walks_after first entry walks
unfolding walks_after
one_passes [] first client place entry walk is at within there = absurd (omega arith)
one_passes (first_walk ∷ walks) first client zero entry walk is at within there =
    let same : (client == first) ≡ true = grind (arith, nat_tests) in
    let own : same_actor entry.actor (Client first) ≡ true = rw is same in
    rw own (ap₂ (λ (one : Walk) (more : List Walk). one ∷ more) (ap (λ (w : Walk). walk_after (outcome_now w entry) w) there) (sym (others_stay walks (first + 1) client entry is (inl (omega (arith, at))))))
one_passes (first_walk ∷ walks) first client (suc place) entry walk is at within there =
    let next : first + 1 + place ≡ client = omega (arith, at) in
    let differ : (client == first) ≡ false = grind (arith, nat_tests) in
    rw (apart entry client first is differ) (ap (λ (more : List Walk). first_walk ∷ more) (one_passes walks (first + 1) client place entry walk is next (omega (arith, within)) there))
