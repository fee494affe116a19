-- A name that no call of the tool's or of a client's has.
use Rattle.std.proofs.Common.{◌≡◌, ℕ, ◌<◌, ◌+◌, Bool, true, false, ◌&&◌, ◌||◌, List, [], ◌∷◌, ◌++◌, length, None, refl, ap, ◌∙◌, arith, length-append}
use Rattle.std.specs.List.{list_any, list_all}
use Rattle.std.specs.Str.{bytes_eq}
use Rattle.std.proofs.lemmas.Bool.{false≢true, or_left, or_right}
use Rattle.std.proofs.lemmas.List.Folds.{list_any-append}
use Rattle.std.proofs.Math.Bool.{or-false}
use Rattle.base_values.specs.ToolNames.{ghost_name, log_name, old_name}
use Rattle.plan_data.specs.PlanData.{PlanData}
use Rattle.tool_program.proofs.OnlineCalls.Naming.{is_known}
use Rattle.proof_journals.specs.Plans.{client_names}
use Rattle.proof_journals.specs.Turns.{AllOther}
use Rattle.proof_journals.specs.Scenes.{Scene, is_mine}
use Rattle.server_model.proofs.LockedRows.Tests.{same_bytes, are_same}

-- a name that is longer than each of these
abbrev pub beyond : List (List ℕ) → List ℕ
beyond [] = 0 ∷ []
beyond (name ∷ names) = name ++ beyond names

beyond_some : (names : List (List ℕ)) → 0 < length (beyond names)
beyond_some [] = omega arith
beyond_some (name ∷ names) = let parts : length (name ++ beyond names) ≡ length name + length (beyond names) = length-append name (beyond names) in omega (arith, parts, beyond_some names)

beyond_longer : (names : List (List ℕ)) (name : List ℕ) → list_any (bytes_eq name) names ≡ true → length name < length (beyond names)
beyond_longer [] name is = absurd (false≢true is)
beyond_longer (first ∷ names) name is = at (bytes_eq name first) refl is (beyond_longer names name) where
  parts : length (first ++ beyond names) ≡ length first + length (beyond names)
  parts = length-append first (beyond names)

  at : (b : Bool) → bytes_eq name first ≡ b → (b || list_any (bytes_eq name) names) ≡ true → (list_any (bytes_eq name) names ≡ true → length name < length (beyond names)) → length name < length (first ++ beyond names)
  at true same is rest = let alike : length name ≡ length first = ap length (are_same name first same) in omega (arith, parts, alike, beyond_some names)
  at false off is rest = let less : length name < length (beyond names) = rest is in omega (arith, parts, less)

beyond_off : (names : List (List ℕ)) (name : List ℕ) → list_any (bytes_eq name) names ≡ true → bytes_eq name (beyond names) ≡ false
beyond_off names name is = at (bytes_eq name (beyond names)) refl where
  differ : (a b : ℕ) → a < b → a ≡ b → ⊥
  differ a b less same = absurd (omega (arith, less, same))

  at : (b : Bool) → bytes_eq name (beyond names) ≡ b → b ≡ false
  at true same = absurd (differ (length name) (length (beyond names)) (beyond_longer names name is) (ap length (are_same name (beyond names) same)))
  at false off = refl

-- the clients' names, the migrated table's and those of the tool's tables
abbrev pub tool_names : PlanData → List (List ℕ)
tool_names plan = plan.table ∷ ghost_name plan.table ∷ log_name plan.table ∷ old_name plan.table ∷ []

abbrev pub spare : PlanData → List ℕ
spare plan = beyond (client_names plan ++ tool_names plan)

pub client_far : (plan : PlanData) (name : List ℕ) → list_any (bytes_eq name) (client_names plan) ≡ true → bytes_eq name (spare plan) ≡ false
client_far plan name is =
    beyond_off (client_names plan ++ tool_names plan) name (list_any-append (bytes_eq name) (client_names plan) (tool_names plan) ∙ or_left (list_any (bytes_eq name) (client_names plan)) (list_any (bytes_eq name) (tool_names plan)) is)

among_four : (a b c d : Bool) → (a || (b || c || d)) ≡ true → (a || (b || (c || (d || false)))) ≡ true
among_four true b c d is = refl
among_four false true c d is = refl
among_four false false true d is = refl
among_four false false false true is = refl
among_four false false false false is = absurd (false≢true is)

pub known_far : (plan : PlanData) (name : List ℕ) → is_known plan.table name ≡ true → bytes_eq name (spare plan) ≡ false
known_far plan name is =
    beyond_off (client_names plan ++ tool_names plan) name
    (list_any-append (bytes_eq name) (client_names plan) (tool_names plan)
    ∙ or_right (list_any (bytes_eq name) (client_names plan)) (list_any (bytes_eq name) (tool_names plan))
    (among_four (bytes_eq name plan.table) (bytes_eq name (ghost_name plan.table)) (bytes_eq name (log_name plan.table)) (bytes_eq name (old_name plan.table)) is))

-- A SCENE OF THAT NAME ALONE

-- no session is a client's, and the only client table has this name
abbrev pub scene_for : PlanData → Scene
scene_for plan = record { mine = spare plan ∷ []; client = λ n. false; opening = plan.tables; migrated = spare plan; altered = λ table. None; exchanges = false }

pub spare_mine : (plan : PlanData) → is_mine (scene_for plan) (spare plan) ≡ true
spare_mine plan = or_left (bytes_eq (spare plan) (spare plan)) false (same_bytes (spare plan))

pub far_other : (plan : PlanData) (name : List ℕ) → bytes_eq name (spare plan) ≡ false → is_mine (scene_for plan) name ≡ false
far_other plan name off = or-false (bytes_eq name (spare plan)) ∙ off

pub known_others : (plan : PlanData) (names : List (List ℕ)) → list_all (is_known plan.table) names ≡ true → AllOther (scene_for plan) names
known_others plan [] all = tt
known_others plan (name ∷ names) all = at (is_known plan.table name) refl all (known_others plan names) where
  at : (b : Bool) → is_known plan.table name ≡ b → (b && list_all (is_known plan.table) names) ≡ true → (list_all (is_known plan.table) names ≡ true → AllOther (scene_for plan) names) → AllOther (scene_for plan) (name ∷ names)
  at true known rest more = (far_other plan name (known_far plan name known), more rest)
  at false off rest more = absurd (false≢true rest)
