-- All clients behind a turn of one of them, or of none.
use Rattle.std.proofs.Common.{◌≡◌, ℕ, zero, suc, ◌-◌, ◌<◌, ◌==◌, Bool, true, false, List, [], ◌∷◌, ◌++◌, map, length, get_or, Option, Some, None, option_map, refl, sym, ap, ◌∙◌, subst, arith, ◌⊎◌, inl, inr}
use Rattle.std.proofs.lemmas.Bool.{ne_eqb}
use Rattle.std.proofs.lemmas.Bool.Decides.{nat_tests}
use Rattle.std.proofs.lemmas.Option.{same_Some, slice_get-map, slice_get_past, slice_get_read}
use Rattle.std.specs.List.{slice_get, slice_set}
use Rattle.base_script.specs.declared.actor.Actor.TheVariants.{Client}
use Rattle.base_script.specs.declared.script.ScriptLine.{ScriptLine}
use Rattle.server_model.specs.declared.entry.Entry.{Entry}
use Rattle.server_model.specs.Entries.{same_actor}
use Rattle.plan_data.specs.PlanData.{PlanData}
use Rattle.tool_program.specs.JournalWords.Clients.{Reached, became, client_after, client_at, new_client, script_of, with_draw}
use Rattle.tool_program.specs.JournalWords.Histories.{client_ends, entry_adds}
use Rattle.top_report.proofs.ClientLines.Passing.{apart}
use Rattle.top_report.proofs.ClientLines.Strangers.{stranger_ends}
use Rattle.top_report.proofs.ClientLines.Walking.{other_turn, own_turn}
use Rattle.test_histories.specs.JournalPasts.Walks.{AreReached, client_in}

-- ---- a list with one item set

set_own : {A : Type 0} (xs : List A) (place : ℕ) (x : A) → place < length xs → slice_get (slice_set xs place x) place ≡ Some x
set_own [] place x within = absurd (omega (arith, within))
set_own (first ∷ xs) zero x within = refl
set_own (first ∷ xs) (suc place) x within = set_own xs place x (omega (arith, within))

set_other : {A : Type 0} (xs : List A) (place other : ℕ) (x : A) → (place == other) ≡ false → slice_get (slice_set xs place x) other ≡ slice_get xs other
set_other [] place other x differ = refl
set_other (first ∷ xs) zero zero x differ = absurd (cc)
set_other (first ∷ xs) zero (suc other) x differ = refl
set_other (first ∷ xs) (suc place) zero x differ = refl
set_other (first ∷ xs) (suc place) (suc other) x differ = set_other xs place other x (grind (arith, nat_tests))

-- ---- before the first turn

at_begin : (plan : PlanData) (number : ℕ) (script : Option (List ScriptLine)) → script_of number plan ≡ script → option_map new_client script ≡ option_map (λ (s : List ScriptLine). client_at plan [] number) script
unfolding client_at
at_begin plan number None is = refl
at_begin plan number (Some script) is = rw is refl

scripts_begin : (plan : PlanData) (number : ℕ) (b : Bool) → (number == 0) ≡ b → client_in number (map new_client plan.clients) ≡ option_map new_client (script_of number plan)
scripts_begin plan number true none = rw none refl
scripts_begin plan number false some = rw some (slice_get-map new_client plan.clients (number - 1))

pub all_begin : (plan : PlanData) → AreReached plan [] (map new_client plan.clients)
all_begin plan = λ number. scripts_begin plan number (number == 0) refl ∙ at_begin plan number (script_of number plan) refl

-- ---- a turn of a client

some_script : {A : Type 0} (old a : A) (script : Option (List ScriptLine)) → Some old ≡ option_map (λ (s : List ScriptLine). a) script → old ≡ a
some_script old a None is = absurd (cc)
some_script old a (Some script) is = same_Some old a is

-- the client that is found is so far as it should be
pub found_is : (plan : PlanData) (before : List Entry) (clients : List Reached) (number : ℕ) (old : Reached) → AreReached plan before clients → client_in number clients ≡ Some old → old ≡ client_at plan before number
found_is plan before clients number old are found = some_script old (client_at plan before number) (script_of number plan) (sym found ∙ are number)

-- what it ends is what the turn adds
pub adds_so : (plan : PlanData) (before : List Entry) (entry : Entry) (clients : List Reached) (number : ℕ) (old : Reached) → entry.actor ≡ Client number → AreReached plan before clients → client_in number clients ≡ Some old
    → client_ends number (with_draw entry.draw old) (became old entry) ≡ entry_adds plan before entry
adds_so plan before entry clients number old is are found =
    let so_far : old ≡ client_at plan before number = found_is plan before clients number old are found in
    ap (λ (client : Reached). client_ends number (with_draw entry.draw client) (became client entry)) so_far
    ∙ sym (rw is refl)

no_script : {A : Type 0} (a : A) (script : Option (List ScriptLine)) → None ≡ option_map (λ (s : List ScriptLine). a) script → script ≡ None
no_script a None is = refl
no_script a (Some script) is = absurd (cc)

-- a client that isn't found adds nothing
pub adds_none : (plan : PlanData) (before : List Entry) (entry : Entry) (clients : List Reached) (number : ℕ) → entry.actor ≡ Client number → AreReached plan before clients → client_in number clients ≡ None → [] ≡ entry_adds plan before entry
adds_none plan before entry clients number is are missing =
    let none : script_of number plan ≡ None = no_script (client_at plan before number) (script_of number plan) (sym missing ∙ are number) in
    sym (rw is (stranger_ends plan before entry number none))

-- the clients whose turn it isn't
other_stays : (plan : PlanData) (before : List Entry) (entry : Entry) (number : ℕ) → same_actor entry.actor (Client number) ≡ false
    → option_map (λ (s : List ScriptLine). client_at plan before number) (script_of number plan) ≡ option_map (λ (s : List ScriptLine). client_at plan (before ++ entry ∷ []) number) (script_of number plan)
other_stays plan before entry number other = ap (λ (client : Reached). option_map (λ (s : List ScriptLine). client) (script_of number plan)) (sym (other_turn plan before entry number other))

-- a turn of nobody's among these
pub others_turn : (plan : PlanData) (before : List Entry) (entry : Entry) (clients : List Reached) → ((number : ℕ) → same_actor entry.actor (Client number) ≡ false) → AreReached plan before clients → AreReached plan (before ++ entry ∷ []) clients
others_turn plan before entry clients other are = λ number. are number ∙ other_stays plan before entry number (other number)

some_if : (plan : PlanData) (old new : Reached) (script : Option (List ScriptLine)) (a b : Reached) → Some old ≡ option_map (λ (s : List ScriptLine). a) script → new ≡ b → Some new ≡ option_map (λ (s : List ScriptLine). b) script
some_if plan old new None a b found is = absurd (cc)
some_if plan old new (Some script) a b found is = ap Some is

none_if : (a b : Reached) (script : Option (List ScriptLine)) → None ≡ option_map (λ (s : List ScriptLine). a) script → None ≡ option_map (λ (s : List ScriptLine). b) script
none_if a b None is = refl
none_if a b (Some script) is = absurd (cc)

-- a turn of a client that isn't found leaves all as they are
pub missing_turn : (plan : PlanData) (before : List Entry) (entry : Entry) (clients : List Reached) (client : ℕ) → entry.actor ≡ Client client → client_in client clients ≡ None → AreReached plan before clients → AreReached plan (before ++ entry ∷ []) clients
missing_turn plan before entry clients client is missing are = λ number. go number (client == number) refl
  where
    go : (number : ℕ) (b : Bool) → (client == number) ≡ b → client_in number clients ≡ option_map (λ (s : List ScriptLine). client_at plan (before ++ entry ∷ []) number) (script_of number plan)
    go number true same =
        let one : client ≡ number = grind (arith, nat_tests) in
        let none : client_in number clients ≡ None = subst (λ (n : ℕ). client_in n clients ≡ None) one missing in
        none ∙ none_if (client_at plan before number) (client_at plan (before ++ entry ∷ []) number) (script_of number plan) (sym none ∙ are number)
    go number false differ = are number ∙ other_stays plan before entry number (apart entry client number is differ)

set_in : (clients : List Reached) (client : ℕ) (new : Reached) → (client == 0) ≡ false → client - 1 < length clients → client_in client (slice_set clients (client - 1) new) ≡ Some new
set_in clients client new some within = rw some (set_own clients (client - 1) new within)

set_beside : (clients : List Reached) (client number : ℕ) (new : Reached) (b : Bool) → (number == 0) ≡ b → (client == 0) ≡ false → (client == number) ≡ false → client_in number (slice_set clients (client - 1) new) ≡ client_in number clients
set_beside clients client number new true none some differ = rw none refl
set_beside clients client number new false one some differ =
    let apart_so : (client - 1 == number - 1) ≡ false = grind (arith, nat_tests) in
    rw one (set_other clients (client - 1) (number - 1) new apart_so)

-- a turn of a client that is found moves it alone
pub found_turn : (plan : PlanData) (before : List Entry) (entry : Entry) (clients : List Reached) (client : ℕ) (old new : Reached) → entry.actor ≡ Client client → (client == 0) ≡ false → client - 1 < length clients
    → client_in client clients ≡ Some old → new ≡ client_after (became old entry) (with_draw entry.draw old) → AreReached plan before clients → AreReached plan (before ++ entry ∷ []) (slice_set clients (client - 1) new)
found_turn plan before entry clients client old new is some within found made are = λ number. go number (client == number) refl
  where
    own_is : same_actor entry.actor (Client client) ≡ true
    own_is = rw is (let same : (client == client) ≡ true = grind (arith, nat_tests) in same)

    new_is : new ≡ client_at plan (before ++ entry ∷ []) client
    new_is =
        let so_far : old ≡ client_at plan before client = found_is plan before clients client old are found in
        made
        ∙ ap (λ (c : Reached). client_after (became c entry) (with_draw entry.draw c)) so_far
        ∙ sym (own_turn plan before entry client own_is)

    own_found : client_in client (slice_set clients (client - 1) new) ≡ option_map (λ (s : List ScriptLine). client_at plan (before ++ entry ∷ []) client) (script_of client plan)
    own_found =
        set_in clients client new some within
        ∙ some_if plan old new (script_of client plan) (client_at plan before client) (client_at plan (before ++ entry ∷ []) client) (sym found ∙ are client) new_is

    go : (number : ℕ) (b : Bool) → (client == number) ≡ b → client_in number (slice_set clients (client - 1) new) ≡ option_map (λ (s : List ScriptLine). client_at plan (before ++ entry ∷ []) number) (script_of number plan)
    go number true same =
        let one : client ≡ number = grind (arith, nat_tests) in
        subst (λ (n : ℕ). client_in n (slice_set clients (client - 1) new) ≡ option_map (λ (s : List ScriptLine). client_at plan (before ++ entry ∷ []) n) (script_of n plan)) one own_found
    go number false differ =
        set_beside clients client number new (number == 0) refl some differ
        ∙ are number
        ∙ other_stays plan before entry number (apart entry client number is differ)

-- ---- the client of a number

not_zero : (client : ℕ) → 0 < client → (client == 0) ≡ false
not_zero client some = ne_eqb client 0 (λ e. omega (arith, e, some))

none_after : (clients : List Reached) (client : ℕ) → length clients < client → client_in client clients ≡ None
none_after clients client following = rw (not_zero client (omega (arith, following))) (slice_get_past clients (client - 1) (omega (arith, following)))

-- there is none of the number 0, and none behind the last
pub none_there : (clients : List Reached) (client : ℕ) → (client ≡ 0) ⊎ (length clients < client) → client_in client clients ≡ None
none_there clients client (inl zero_is) = rw zero_is refl
none_there clients client (inr following) = none_after clients client following

one_there : (clients : List Reached) (client : ℕ) (old : Reached) → 0 < client → client - 1 < length clients → old ≡ get_or clients (client - 1) old → client_in client clients ≡ Some old
one_there clients client old some within at = rw (not_zero client some) (slice_get_read clients (length clients) (client - 1) old refl within at)

-- what a turn of the client at this place adds
pub place_adds : (plan : PlanData) (before : List Entry) (entry : Entry) (clients : List Reached) (client : ℕ) (old : Reached) → entry.actor ≡ Client client → 0 < client → client - 1 < length clients → old ≡ get_or clients (client - 1) old
    → AreReached plan before clients → client_ends client (with_draw entry.draw old) (became old entry) ≡ entry_adds plan before entry
place_adds plan before entry clients client old is some within at are = adds_so plan before entry clients client old is are (one_there clients client old some within at)

-- it moves that client alone
pub place_turn : (plan : PlanData) (before : List Entry) (entry : Entry) (clients : List Reached) (client : ℕ) (old new : Reached) → entry.actor ≡ Client client → 0 < client → client - 1 < length clients → old ≡ get_or clients (client - 1) old
    → new ≡ client_after (became old entry) (with_draw entry.draw old) → AreReached plan before clients → AreReached plan (before ++ entry ∷ []) (slice_set clients (client - 1) new)
place_turn plan before entry clients client old new is some within at made are = found_turn plan before entry clients client old new is (not_zero client some) within (one_there clients client old some within at) made are

-- the clients before the first turn
pub begin_so : (plan : PlanData) (scripts : List (List ScriptLine)) (clients : List Reached) → clients ≡ map new_client scripts → scripts ≡ plan.clients → AreReached plan [] clients
begin_so plan scripts clients are these = subst (AreReached plan []) (sym (are ∙ ap (map new_client) these)) (all_begin plan)
