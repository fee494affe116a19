-- Clients by their numbers, and what one turn more does to how far they are.
use Rattle.std.proofs.Common.{◌≡◌, ◌≤◌, ◌<◌, ℕ, zero, suc, ◌+◌, ◌-◌, ◌==◌, Bool, true, false, List, [], ◌∷◌, ◌++◌, map, length, drop, Option, Some, None, cond, refl, sym, ap, ◌∙◌, subst, arith}
use Rattle.std.specs.Prelude.{is_some, unwrap_or, fold}
use Rattle.std.specs.List.{slice_get, slice_set}
use Rattle.std.proofs.lemmas.Bool.{ne_eqb}
use Rattle.std.proofs.lemmas.Bool.Decides.{nat_tests}
use Rattle.std.proofs.lemmas.List.Sums.{fold-append}
use Rattle.base_script.specs.declared.actor.Actor.{Actor}
use Rattle.base_script.specs.declared.actor.Actor.TheVariants.{Op, Insp, Copy, Apply, Lock, Ren, Client}
use Rattle.base_script.specs.declared.script.ScriptLine.{ScriptLine}
use Rattle.server_model.specs.declared.entry.Entry.{Entry}
use Rattle.server_model.specs.Entries.{same_actor}
use Rattle.plan_data.specs.PlanData.{PlanData}
use Rattle.tool_program.specs.JournalWords.Clients.{Reached, Became, Nothing, Waits, Marked, Broken, new_client, script_of, client_at, client_asks, client_over, all_over, line_asks, lines_drawn, client_after, became, after_turn, with_draw}
use Rattle.run_actors.specs.declared.client_turns.actor_state.ClientState.{ClientState}
use Rattle.run_actors.specs.ClientTurns.ActorStates.{IsReached, asks_so}
use Rattle.run_state.specs.Books.{free_client, AreReached}

pub client_more : (plan : PlanData) (journal : List Entry) (entry : Entry) (number : ℕ) → client_at plan (journal ++ entry ∷ []) number ≡ after_turn number (client_at plan journal number) entry
unfolding client_at
client_more plan journal entry number = fold-append (after_turn number) (new_client (unwrap_or (script_of number plan) [])) journal (entry ∷ [])

-- the client at a place
pub reached_at : (plan : PlanData) (journal : List Entry) (number : ℕ) (scripts : List (List ScriptLine)) (actor_states : List ClientState) (i : ℕ) (script : List ScriptLine) (actor_state : ClientState)
    → AreReached plan journal number scripts actor_states → slice_get scripts i ≡ Some script → slice_get actor_states i ≡ Some actor_state → IsReached script actor_state (client_at plan journal (number + i))
unfolding AreReached
reached_at plan journal number [] [] i script actor_state all is at = absurd (cc)
reached_at plan journal number [] (first ∷ actor_states) i script actor_state all is at = absurd all
reached_at plan journal number (one ∷ scripts) [] i script actor_state all is at = absurd all
reached_at plan journal number (one ∷ scripts) (first ∷ actor_states) zero script actor_state all is at =
    let same : number + zero ≡ number = omega arith in
    let same_script : one ≡ script = cc in
    let same_actor_state : first ≡ actor_state = cc in
    rw same (subst (λ s. IsReached script s (client_at plan journal number)) same_actor_state (subst (λ s. IsReached s first (client_at plan journal number)) same_script all.0))
reached_at plan journal number (one ∷ scripts) (first ∷ actor_states) (suc i) script actor_state all is at =
    let next : number + suc i ≡ number + 1 + i = omega arith in
    rw next (reached_at plan journal (number + 1) scripts actor_states i script actor_state all.1 is at)

-- a client with a script has a seat
pub has_actor_state : (plan : PlanData) (journal : List Entry) (number : ℕ) (scripts : List (List ScriptLine)) (actor_states : List ClientState) (i : ℕ) → AreReached plan journal number scripts actor_states → is_some (slice_get actor_states i) ≡ is_some (slice_get scripts i)
unfolding AreReached
has_actor_state plan journal number [] [] i all = refl
has_actor_state plan journal number [] (first ∷ actor_states) i all = absurd all
has_actor_state plan journal number (one ∷ scripts) [] i all = absurd all
has_actor_state plan journal number (one ∷ scripts) (first ∷ actor_states) zero all = refl
has_actor_state plan journal number (one ∷ scripts) (first ∷ actor_states) (suc i) all = has_actor_state plan journal (number + 1) scripts actor_states i all.1

-- where no client took the turn
pub reached_still : (plan : PlanData) (journal : List Entry) (entry : Entry) (number : ℕ) (scripts : List (List ScriptLine)) (actor_states : List ClientState)
    → ((n : ℕ) → same_actor entry.actor (Client n) ≡ false) → AreReached plan journal number scripts actor_states → AreReached plan (journal ++ entry ∷ []) number scripts actor_states
unfolding AreReached
reached_still plan journal entry number [] [] other all = tt
reached_still plan journal entry number [] (first ∷ actor_states) other all = absurd all
reached_still plan journal entry number (one ∷ scripts) [] other all = absurd all
reached_still plan journal entry number (one ∷ scripts) (first ∷ actor_states) other all =
    (rw (client_more plan journal entry number, other number) all.0, reached_still plan journal entry (number + 1) scripts actor_states other all.1)

-- where one did, whose seat stands behind those from this number on
reached_before : (plan : PlanData) (journal : List Entry) (entry : Entry) (client number : ℕ) (scripts : List (List ScriptLine)) (actor_states : List ClientState)
    → entry.actor ≡ Client client → ((n : ℕ) → (client == number + n) ≡ false) → AreReached plan journal number scripts actor_states → AreReached plan (journal ++ entry ∷ []) number scripts actor_states
unfolding AreReached
reached_before plan journal entry client number [] [] is other all = tt
reached_before plan journal entry client number [] (first ∷ actor_states) is other all = absurd all
reached_before plan journal entry client number (one ∷ scripts) [] is other all = absurd all
reached_before plan journal entry client number (one ∷ scripts) (first ∷ actor_states) is other all =
    let here : (client == number) ≡ false = (let same : number + zero ≡ number = omega arith in subst (λ n. (client == n) ≡ false) same (other zero)) in (
      rw (client_more plan journal entry number, is, here) all.0,
      reached_before plan journal entry client (number + 1) scripts actor_states is (λ n. let next : number + suc n ≡ number + 1 + n = omega arith in subst (λ m. (client == m) ≡ false) next (other (suc n))) all.1,
    )

-- the client's own seat behind its turn, and the others'
pub reached_more : (plan : PlanData) (journal : List Entry) (entry : Entry) (number : ℕ) (scripts : List (List ScriptLine)) (actor_states : List ClientState) (i : ℕ) (script : List ScriptLine) (new : ClientState)
    → entry.actor ≡ Client (number + i) → slice_get scripts i ≡ Some script → IsReached script new (client_after (became (client_at plan journal (number + i)) entry) (with_draw entry.draw (client_at plan journal (number + i))))
    → AreReached plan journal number scripts actor_states → AreReached plan (journal ++ entry ∷ []) number scripts (slice_set actor_states i new)
unfolding AreReached
reached_more plan journal entry number [] [] i script new is at reached all = absurd (cc)
reached_more plan journal entry number [] (first ∷ actor_states) i script new is at reached all = absurd all
reached_more plan journal entry number (one ∷ scripts) [] i script new is at reached all = absurd all
reached_more plan journal entry number (one ∷ scripts) (first ∷ actor_states) zero script new is at reached all =
    let same : number + zero ≡ number = omega arith in
    let actor : entry.actor ≡ Client number = is ∙ ap Client same in
    let own : (number == number) ≡ true = grind (arith, nat_tests) in
    let same_script : script ≡ one = cc in (
      rw (client_more plan journal entry number, actor, own) (subst (λ s. IsReached s new (client_after (became (client_at plan journal number) entry) (with_draw entry.draw (client_at plan journal number)))) same_script (rw same at reached)),
      reached_before plan journal entry number (number + 1) scripts actor_states actor (λ n. later number n) all.1,
    )
  where
    later : (number n : ℕ) → (number == number + 1 + n) ≡ false
    later number n = grind (arith, nat_tests)
reached_more plan journal entry number (one ∷ scripts) (first ∷ actor_states) (suc i) script new is at reached all =
    let next : number + suc i ≡ number + 1 + i = omega arith in
    let differ : (number + 1 + i == number) ≡ false = ne_eqb (number + 1 + i) number (λ e. omega (arith, e)) in (
      rw (client_more plan journal entry number, is, next, differ) all.0,
      reached_more plan journal entry (number + 1) scripts actor_states i script new (is ∙ ap Client next) at (rw next at reached) all.1,
    )

-- no client took the turn
pub no_client : (actor : Actor) → ((n : ℕ) → actor ≡ Client n → ⊥) → (n : ℕ) → same_actor actor (Client n) ≡ false
no_client Op none n = refl
no_client Insp none n = refl
no_client Copy none n = refl
no_client Apply none n = refl
no_client Lock none n = refl
no_client Ren none n = refl
no_client (Client client) none n = absurd (none client refl)

-- a client that has a script
pub record Scripted (plan : PlanData) (client : ℕ) (script : List ScriptLine) : Type 0 where
  pub from_one : 1 ≤ client
  pub stands : slice_get plan.clients (client - 1) ≡ Some script

scripted_if : (plan : PlanData) (client : ℕ) (script : List ScriptLine) (none : Bool) → (client == 0) ≡ none → cond none None (slice_get plan.clients (client - 1)) ≡ Some script → Scripted plan client script
scripted_if plan client script true numbered is = absurd (cc)
scripted_if plan client script false numbered is = record { from_one = grind (arith, nat_tests); stands = is }

pub scripted : (plan : PlanData) (client : ℕ) (script : List ScriptLine) → script_of client plan ≡ Some script → Scripted plan client script
scripted plan client script is = scripted_if plan client script (client == 0) refl is

within : {A : Type 0} → (xs : List A) (i : ℕ) → is_some (slice_get xs i) ≡ true → i < length xs
within [] zero is = absurd (cc)
within [] (suc i) is = absurd (cc)
within (x ∷ xs) zero is = omega arith
within (x ∷ xs) (suc i) is = let rest : i < length xs = within xs i is in omega (arith, rest)

-- its seat is there
pub actor_state_within : (plan : PlanData) (journal : List Entry) (client : ℕ) (script : List ScriptLine) (actor_states : List ClientState) → script_of client plan ≡ Some script → AreReached plan journal 1 plan.clients actor_states → client - 1 < length actor_states
actor_state_within plan journal client script actor_states is all =
    within actor_states (client - 1) (has_actor_state plan journal 1 plan.clients actor_states (client - 1) all ∙ ap is_some (scripted plan client script is).stands)

-- how far it is, by its seat
pub client_reached : (plan : PlanData) (journal : List Entry) (client : ℕ) (script : List ScriptLine) (actor_states : List ClientState) (actor_state : ClientState) → script_of client plan ≡ Some script → AreReached plan journal 1 plan.clients actor_states
    → slice_get actor_states (client - 1) ≡ Some actor_state → IsReached script actor_state (client_at plan journal client)
client_reached plan journal client script actor_states actor_state is all at =
    let the = scripted plan client script is in
    let number : 1 + (client - 1) ≡ client = omega (arith, the.from_one) in
    subst (λ (n : ℕ). IsReached script actor_state (client_at plan journal n)) number (reached_at plan journal 1 plan.clients actor_states (client - 1) script actor_state all the.stands at)

-- the seats behind its turn
pub client_turned : (plan : PlanData) (journal : List Entry) (entry : Entry) (client : ℕ) (script : List ScriptLine) (actor_states : List ClientState) (new : ClientState) → entry.actor ≡ Client client → script_of client plan ≡ Some script
    → AreReached plan journal 1 plan.clients actor_states → IsReached script new (client_after (became (client_at plan journal client) entry) (with_draw entry.draw (client_at plan journal client))) → AreReached plan (journal ++ entry ∷ []) 1 plan.clients (slice_set actor_states (client - 1) new)
client_turned plan journal entry client script actor_states new is has all reached =
    let the = scripted plan client script has in
    let number : client ≡ 1 + (client - 1) = omega (arith, the.from_one) in
    reached_more plan journal entry 1 plan.clients actor_states (client - 1) script new (is ∙ ap Client number) the.stands
    (subst (λ (n : ℕ). IsReached script new (client_after (became (client_at plan journal n) entry) (with_draw entry.draw (client_at plan journal n)))) number reached) all

-- what a client that is so far asks
pub asks_is : (plan : PlanData) (journal : List Entry) (client : ℕ) → client_asks plan journal client ≡ asks_so (client_at plan journal client)
unfolding client_asks
asks_is plan journal client = refl

-- a client without a script asks nothing
left_still : (became : Became) (client : Reached) → client.left ≡ [] → (client_after became client).left ≡ []
left_still Nothing client is = is
left_still Waits client is = is
left_still (Marked mark reply) client is = rw is refl
left_still Broken client is = is

left_drawn : (draw : Option ℕ) (client : Reached) → client.left ≡ [] → (with_draw draw client).left ≡ []
left_drawn None client is = is
left_drawn (Some number) client is = ap (lines_drawn number) is

left_turn : (number : ℕ) (client : Reached) (entry : Entry) → client.left ≡ [] → (after_turn number client entry).left ≡ []
left_turn number client entry is = by (same_actor entry.actor (Client number))
  where
    by : (b : Bool) → (cond b (client_after (became client entry) (with_draw entry.draw client)) client).left ≡ []
    by true = left_still (became client entry) (with_draw entry.draw client) (left_drawn entry.draw client is)
    by false = is

left_after : (number : ℕ) (journal : List Entry) (client : Reached) → client.left ≡ [] → (fold (after_turn number) client journal).left ≡ []
left_after number [] client is = is
left_after number (entry ∷ journal) client is = left_after number journal (after_turn number client entry) (left_turn number client entry is)

silent : (client : Reached) → client.left ≡ [] → asks_so client ≡ None
silent client is = by client.is_lost client.waits
  where
    line : (waits : Bool) (left : List ScriptLine) → left ≡ [] → line_asks waits left ≡ None
    line waits left is = rw is refl

    by : (lost waits : Bool) → cond lost None (line_asks client.waits client.left) ≡ None
    by true waits = refl
    by false waits = line client.waits client.left is

pub stranger_silent : (plan : PlanData) (journal : List Entry) (client : ℕ) → script_of client plan ≡ None → client_asks plan journal client ≡ None
unfolding client_asks client_at
stranger_silent plan journal client is =
    silent (fold (after_turn client) (new_client (unwrap_or (script_of client plan) [])) journal) (left_after client journal (new_client (unwrap_or (script_of client plan) [])) (ap (λ script. unwrap_or script []) is))

-- BEFORE THE FIRST TURN

free_reached : (script : List ScriptLine) → IsReached script (free_client script) (new_client script)
free_reached script = record { left = refl; inside = refl; waits = refl; lost = refl }

client_begins : (plan : PlanData) (number : ℕ) (script : List ScriptLine) → script_of number plan ≡ Some script → IsReached script (free_client script) (client_at plan [] number)
unfolding client_at
client_begins plan number script is = subst (λ (s : List ScriptLine). IsReached script (free_client script) (new_client s)) (sym (ap (λ o. unwrap_or o []) is)) (free_reached script)

clients_begin_from : (plan : PlanData) (number : ℕ) (scripts : List (List ScriptLine)) → ((i : ℕ) (script : List ScriptLine) → slice_get scripts i ≡ Some script → script_of (number + i) plan ≡ Some script) → AreReached plan [] number scripts (map free_client scripts)
unfolding AreReached
clients_begin_from plan number [] stand = tt
clients_begin_from plan number (script ∷ scripts) stand =
    let same : number + 0 ≡ number = omega arith in (
      client_begins plan number script (subst (λ (n : ℕ). script_of n plan ≡ Some script) same (stand 0 script refl)),
      clients_begin_from plan (number + 1) scripts (λ i one at. let next : number + suc i ≡ number + 1 + i = omega arith in subst (λ (n : ℕ). script_of n plan ≡ Some one) next (stand (suc i) one at)),
    )

script_stands : (plan : PlanData) (i : ℕ) (script : List ScriptLine) → slice_get plan.clients i ≡ Some script → script_of (1 + i) plan ≡ Some script
script_stands plan i script at =
    let one : (1 + i == 0) ≡ false = ne_eqb (1 + i) 0 (λ e. omega (arith, e)) in
    let back : 1 + i - 1 ≡ i = omega arith in
    rw (one, back) at

-- *The clients before the first turn*
pub clients_begin : (plan : PlanData) → AreReached plan [] 1 plan.clients (map free_client plan.clients)
clients_begin plan = clients_begin_from plan 1 plan.clients (script_stands plan)

-- there are as many seats as scripts
pub same_count : (plan : PlanData) (journal : List Entry) (number : ℕ) (scripts : List (List ScriptLine)) (actor_states : List ClientState) → AreReached plan journal number scripts actor_states → length actor_states ≡ length scripts
unfolding AreReached
same_count plan journal number [] [] all = refl
same_count plan journal number [] (first ∷ actor_states) all = absurd all
same_count plan journal number (one ∷ scripts) [] all = absurd all
same_count plan journal number (one ∷ scripts) (first ∷ actor_states) all = ap suc (same_count plan journal (number + 1) scripts actor_states all.1)

-- how far a client is, by its seat's place
pub reached_here : (plan : PlanData) (journal : List Entry) (i : ℕ) (actor_states : List ClientState) (script : List ScriptLine) (actor_state : ClientState) → AreReached plan journal 1 plan.clients actor_states → slice_get plan.clients i ≡ Some script → slice_get actor_states i ≡ Some actor_state
    → IsReached script actor_state (client_at plan journal (i + 1))
reached_here plan journal i actor_states script actor_state all is at =
    let number : 1 + i ≡ i + 1 = omega arith in
    subst (λ (n : ℕ). IsReached script actor_state (client_at plan journal n)) number (reached_at plan journal 1 plan.clients actor_states i script actor_state all is at)

-- THE CLIENTS ARE OVER

pub left_here : {A : Type 0} → (xs : List A) (i : ℕ) (x : A) → slice_get xs i ≡ Some x → drop i xs ≡ x ∷ drop (i + 1) xs
left_here [] zero x is = absurd (cc)
left_here [] (suc i) x is = absurd (cc)
left_here (y ∷ xs) zero x is = let same : y ≡ x = cc in ap (λ z. z ∷ xs) same
left_here (y ∷ xs) (suc i) x is = let next : suc i + 1 ≡ suc (i + 1) = omega arith in rw next (left_here xs i x is)

all_here : (plan : PlanData) (journal : List Entry) (i : ℕ) (script : List ScriptLine) → slice_get plan.clients i ≡ Some script
    → all_over plan journal (i + 1) (drop i plan.clients) ≡ cond (client_over (client_at plan journal (i + 1))) (all_over plan journal (i + 1 + 1) (drop (i + 1) plan.clients)) false
unfolding all_over
all_here plan journal i script is = ap (all_over plan journal (i + 1)) (left_here plan.clients i script is)

-- one that isn't
pub over_stops : (plan : PlanData) (journal : List Entry) (i : ℕ) (script : List ScriptLine) → slice_get plan.clients i ≡ Some script → client_over (client_at plan journal (i + 1)) ≡ false → all_over plan journal (i + 1) (drop i plan.clients) ≡ false
over_stops plan journal i script is over = all_here plan journal i script is ∙ ap (λ b. cond b (all_over plan journal (i + 1 + 1) (drop (i + 1) plan.clients)) false) over

-- one that is
pub over_goes : (plan : PlanData) (journal : List Entry) (i : ℕ) (script : List ScriptLine) → slice_get plan.clients i ≡ Some script → client_over (client_at plan journal (i + 1)) ≡ true → all_over plan journal (i + 1) (drop i plan.clients) ≡ all_over plan journal (i + 1 + 1) (drop (i + 1) plan.clients)
over_goes plan journal i script is over = all_here plan journal i script is ∙ ap (λ b. cond b (all_over plan journal (i + 1 + 1) (drop (i + 1) plan.clients)) false) over
