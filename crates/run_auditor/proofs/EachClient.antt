-- What is kept of each client, place by place.
use Rattle.std.proofs.Common.{◌≡◌, ◌≤◌, ◌<◌, ℕ, zero, suc, ◌+◌, ◌-◌, ◌==◌, Bool, true, false, List, [], ◌∷◌, length, Option, Some, None, cond, refl, sym, ap, subst, arith}
use Rattle.std.specs.Prelude.{is_some}
use Rattle.std.specs.List.{slice_get, slice_set}
use Rattle.std.proofs.lemmas.Bool.{ne_eqb}
use Rattle.std.proofs.lemmas.Bool.Decides.{nat_tests}
use Rattle.base_script.specs.declared.script.ScriptLine.{ScriptLine}
use Rattle.plan_data.specs.PlanData.{PlanData}
use Rattle.tool_program.specs.JournalWords.Clients.{script_of}
use Rattle.run_judge.specs.declared.trace_client.TraceClient.{TraceClient}
use Rattle.run_auditor.specs.AllClients.{AreEach}

-- at a place
pub each_at : (P : ℕ → List ScriptLine → TraceClient → Type 0) (number : ℕ) (scripts : List (List ScriptLine)) (clients : List TraceClient) (i : ℕ) (script : List ScriptLine) (kept : TraceClient) → AreEach P number scripts clients → slice_get scripts i ≡ Some script → slice_get clients i ≡ Some kept
    → P (number + i) script kept
unfolding AreEach
each_at P number [] [] i script kept all is at = absurd (cc)
each_at P number [] (first ∷ clients) i script kept all is at = absurd all
each_at P number (one ∷ scripts) [] i script kept all is at = absurd all
each_at P number (one ∷ scripts) (first ∷ clients) zero script kept all is at =
    let same : number + zero ≡ number = omega arith in
    let same_script : one ≡ script = cc in
    let same_kept : first ≡ kept = cc in
    rw same (subst (λ k. P number script k) same_kept (subst (λ s. P number s first) same_script all.0))
each_at P number (one ∷ scripts) (first ∷ clients) (suc i) script kept all is at =
    let next : number + suc i ≡ number + 1 + i = omega arith in
    rw next (each_at P (number + 1) scripts clients i script kept all.1 is at)

-- there is one for each script
pub each_count : (P : ℕ → List ScriptLine → TraceClient → Type 0) (number : ℕ) (scripts : List (List ScriptLine)) (clients : List TraceClient) → AreEach P number scripts clients → length clients ≡ length scripts
unfolding AreEach
each_count P number [] [] all = refl
each_count P number [] (first ∷ clients) all = absurd all
each_count P number (one ∷ scripts) [] all = absurd all
each_count P number (one ∷ scripts) (first ∷ clients) all = ap suc (each_count P (number + 1) scripts clients all.1)

-- where each goes on
pub each_goes : (P Q : ℕ → List ScriptLine → TraceClient → Type 0) (number : ℕ) (scripts : List (List ScriptLine)) (clients : List TraceClient) → ((n : ℕ) (script : List ScriptLine) (kept : TraceClient) → number ≤ n → P n script kept → Q n script kept)
    → AreEach P number scripts clients → AreEach Q number scripts clients
unfolding AreEach
each_goes P Q number [] [] goes all = tt
each_goes P Q number [] (first ∷ clients) goes all = absurd all
each_goes P Q number (one ∷ scripts) [] goes all = absurd all
each_goes P Q number (one ∷ scripts) (first ∷ clients) goes all = (goes number one first (omega arith) all.0, each_goes P Q (number + 1) scripts clients (λ n script kept less is. goes n script kept (omega (arith, less)) is) all.1)

-- ... and the one at a place has become another
pub each_set : (P Q : ℕ → List ScriptLine → TraceClient → Type 0) (number : ℕ) (scripts : List (List ScriptLine)) (clients : List TraceClient) (i : ℕ) (script : List ScriptLine) (new : TraceClient)
    → ((n : ℕ) (other : List ScriptLine) (kept : TraceClient) → (number + i == n) ≡ false → P n other kept → Q n other kept) → slice_get scripts i ≡ Some script → Q (number + i) script new → AreEach P number scripts clients → AreEach Q number scripts (slice_set clients i new)
unfolding AreEach
each_set P Q number [] [] i script new goes is now all = absurd (cc)
each_set P Q number [] (first ∷ clients) i script new goes is now all = absurd all
each_set P Q number (one ∷ scripts) [] i script new goes is now all = absurd all
each_set P Q number (one ∷ scripts) (first ∷ clients) zero script new goes is now all =
    let same : number + zero ≡ number = omega arith in
    let same_script : script ≡ one = cc in (
      subst (λ s. Q number s new) same_script (subst (λ (n : ℕ). Q n script new) same now),
      each_goes P Q (number + 1) scripts clients (λ n other kept less. goes n other kept (ne_eqb (number + zero) n (λ e. omega (arith, e, less)))) all.1,
    )
each_set P Q number (one ∷ scripts) (first ∷ clients) (suc i) script new goes is now all =
    let next : number + suc i ≡ number + 1 + i = omega arith in (
      goes number one first (ne_eqb (number + suc i) number (λ e. omega (arith, e))) all.0,
      each_set P Q (number + 1) scripts clients i script new (λ n other kept differ. goes n other kept (subst (λ (m : ℕ). (m == n) ≡ false) (sym next) differ)) is (subst (λ (n : ℕ). Q n script new) next now) all.1,
    )

-- ---- the client of a number

-- a client that has a script
pub record Scripted (plan : PlanData) (client : ℕ) (script : List ScriptLine) : Type 0 where
  pub from_one : 1 ≤ client
  pub there : slice_get plan.clients (client - 1) ≡ Some script

scripted_if : (plan : PlanData) (client : ℕ) (script : List ScriptLine) (none : Bool) → (client == 0) ≡ none → cond none None (slice_get plan.clients (client - 1)) ≡ Some script → Scripted plan client script
scripted_if plan client script true numbered is = absurd (cc)
scripted_if plan client script false numbered is = record { from_one = grind (arith, nat_tests); there = is }

pub scripted : (plan : PlanData) (client : ℕ) (script : List ScriptLine) → script_of client plan ≡ Some script → Scripted plan client script
scripted plan client script is = scripted_if plan client script (client == 0) refl is

within : {A : Type 0} → (xs : List A) (i : ℕ) (x : A) → slice_get xs i ≡ Some x → i < length xs
within [] zero x is = absurd (cc)
within [] (suc i) x is = absurd (cc)
within (y ∷ xs) zero x is = omega arith
within (y ∷ xs) (suc i) x is = let rest : i < length xs = within xs i x is in omega (arith, rest)

-- its place is there
pub kept_within : (plan : PlanData) (client : ℕ) (script : List ScriptLine) (clients : List TraceClient) → length clients ≡ length plan.clients → script_of client plan ≡ Some script → (1 ≤ client) × (client - 1 < length clients)
kept_within plan client script clients count is =
    let the = scripted plan client script is in
    let inside : client - 1 < length plan.clients = within plan.clients (client - 1) script the.there in
    (the.from_one, omega (arith, count, inside))

some_script : (plan : PlanData) (client : ℕ) (found : Option (List ScriptLine)) → script_of client plan ≡ found → is_some found ≡ true → (script : List ScriptLine) × (script_of client plan ≡ Some script)
some_script plan client None is has = absurd (cc)
some_script plan client (Some script) is has = (script, is)

pub has_script : (plan : PlanData) (client : ℕ) → is_some (script_of client plan) ≡ true → (script : List ScriptLine) × (script_of client plan ≡ Some script)
has_script plan client has = some_script plan client (script_of client plan) refl has

-- of that client
pub each_of : (P : ℕ → List ScriptLine → TraceClient → Type 0) (plan : PlanData) (client : ℕ) (script : List ScriptLine) (clients : List TraceClient) (kept : TraceClient) → script_of client plan ≡ Some script → AreEach P 1 plan.clients clients → slice_get clients (client - 1) ≡ Some kept
    → P client script kept
each_of P plan client script clients kept is all at =
    let the = scripted plan client script is in
    let number : 1 + (client - 1) ≡ client = omega (arith, the.from_one) in
    subst (λ (n : ℕ). P n script kept) number (each_at P 1 plan.clients clients (client - 1) script kept all the.there at)

-- ... which has become another
pub each_changed : (P Q : ℕ → List ScriptLine → TraceClient → Type 0) (plan : PlanData) (client : ℕ) (script : List ScriptLine) (clients : List TraceClient) (new : TraceClient) → script_of client plan ≡ Some script
    → ((n : ℕ) (other : List ScriptLine) (kept : TraceClient) → (client == n) ≡ false → P n other kept → Q n other kept) → Q client script new → AreEach P 1 plan.clients clients → AreEach Q 1 plan.clients (slice_set clients (client - 1) new)
each_changed P Q plan client script clients new is goes now all =
    let the = scripted plan client script is in
    let number : client ≡ 1 + (client - 1) = omega (arith, the.from_one) in
    each_set P Q 1 plan.clients clients (client - 1) script new (λ n other kept differ. goes n other kept (subst (λ (m : ℕ). (m == n) ≡ false) (sym number) differ)) the.there (subst (λ (n : ℕ). Q n script new) number now) all

-- ---- before the first turn

each_new : (P : ℕ → List ScriptLine → TraceClient → Type 0) (number : ℕ) (scripts : List (List ScriptLine)) (clients : List TraceClient) → length clients ≡ length scripts
    → ((i : ℕ) (script : List ScriptLine) (kept : TraceClient) → slice_get scripts i ≡ Some script → slice_get clients i ≡ Some kept → P (number + i) script kept) → AreEach P number scripts clients
unfolding AreEach
each_new P number [] [] same each = tt
each_new P number [] (first ∷ clients) same each = absurd (omega (arith, same))
each_new P number (one ∷ scripts) [] same each = absurd (omega (arith, same))
each_new P number (one ∷ scripts) (first ∷ clients) same each =
    let here : number + 0 ≡ number = omega arith in (
      subst (λ (n : ℕ). P n one first) here (each 0 one first refl refl),
      each_new P (number + 1) scripts clients (omega (arith, same)) (λ i script kept is at. let next : number + suc i ≡ number + 1 + i = omega arith in subst (λ (n : ℕ). P n script kept) next (each (suc i) script kept is at)),
    )

script_there : (plan : PlanData) (i : ℕ) (script : List ScriptLine) → slice_get plan.clients i ≡ Some script → script_of (1 + i) plan ≡ Some script
script_there plan i script at =
    let one : (1 + i == 0) ≡ false = ne_eqb (1 + i) 0 (λ e. omega (arith, e)) in
    let back : 1 + i - 1 ≡ i = omega arith in
    rw (one, back) at

-- each script's, where all are such
pub each_first : (P : ℕ → List ScriptLine → TraceClient → Type 0) (plan : PlanData) (clients : List TraceClient) → length clients ≡ length plan.clients
    → ((number : ℕ) (script : List ScriptLine) (i : ℕ) (kept : TraceClient) → script_of number plan ≡ Some script → slice_get clients i ≡ Some kept → P number script kept) → AreEach P 1 plan.clients clients
each_first P plan clients same each = each_new P 1 plan.clients clients same (λ i script kept is at. each (1 + i) script i kept (script_there plan i script is) at)

-- ---- the places of a client that the plan has

pub known_one : (plan : PlanData) (client : ℕ) → is_some (script_of client plan) ≡ true → 1 ≤ client
known_one plan client known = let the = has_script plan client known in (scripted plan client the.0 the.1).from_one

pub known_inside : (plan : PlanData) (client : ℕ) (clients : List TraceClient) → is_some (script_of client plan) ≡ true → length clients ≡ length plan.clients → client - 1 < length clients
known_inside plan client clients known count = let the = has_script plan client known in (kept_within plan client the.0 clients count the.1).1
