-- The turns of a whole journal are of the plan's actors.
use Rattle.std.proofs.Common.{◌≡◌, ◌≢◌, ◌≤◌, ◌<◌, ℕ, ◌-◌, ◌==◌, nat_le, nat_lt, Bool, true, false, if◌then◌else◌, List, [], ◌∷◌, length, fold, Option, Some, None, refl, sym, ap, ◌∙◌, subst, arith}
use Rattle.std.specs.Prelude.{is_some, unwrap_or}
use Rattle.std.specs.List.{AllByRecursion, slice_get}
use Rattle.std.proofs.lemmas.Bool.{true≢false}
use Rattle.std.proofs.lemmas.Bool.Decides.{nat_tests}
use Rattle.std.proofs.lemmas.Option.{none-some, slice_get_past}
use Rattle.base_script.specs.declared.actor.Actor.{Actor}
use Rattle.base_script.specs.declared.actor.Actor.TheVariants.{Op, Insp, Copy, Apply, Lock, Ren, Client}
use Rattle.base_script.specs.declared.script.ScriptLine.{ScriptLine}
use Rattle.server_model.specs.declared.entry.Asked.{Asked}
use Rattle.server_model.specs.declared.entry.Asked.TheVariants.{Call, Poll, Command, Cut}
use Rattle.server_model.specs.declared.entry.Entry.{Entry}
use Rattle.server_model.specs.Entries.{same_actor}
use Rattle.plan_data.specs.PlanData.{PlanData}
use Rattle.tool_program.specs.JournalWords.Clients.{after_turn, client_asks, client_at, line_asks, new_client, script_of, Reached}
use Rattle.tool_program.specs.JournalWords.KeptPlans.{TakesNext}
use Rattle.tool_program.specs.JournalWords.Sessions.{IsInSession, IsSeated, live_session, session_in}
use Rattle.proof_journals.proofs.Actors.{same_actor_is}
use Rattle.proof_audit.proofs.Wholes.{IsTurn}
use Rattle.law_texts.specs.TurnOrders.{IsOf}

module _ (plan : PlanData) where
  abbrev pub IsIts : Actor → Type 0
  IsIts actor = IsOf (length plan.clients) actor

  abbrev pub AreIts : List Entry → Type 0
  AreIts journal = AllByRecursion (λ entry. IsIts entry.actor) journal

  -- ---- actors that had no turn

  -- no turn is of an actor that the plan hasn't
  other : (entry : Entry) (actor : Actor) → IsIts entry.actor → (IsIts actor → ⊥) → same_actor entry.actor actor ≡ false
  other entry actor its not = by (same_actor entry.actor actor) refl where
    by : (b : Bool) → same_actor entry.actor actor ≡ b → b ≡ false
    by true same = absurd (not (subst IsIts (same_actor_is entry.actor actor same) its))
    by false same = refl

  unchanged : {A : Type 0} (step : A → Entry → A) (actor : Actor) → ((a : A) (entry : Entry) → same_actor entry.actor actor ≡ false → step a entry ≡ a) → (IsIts actor → ⊥) → (a : A) (journal : List Entry) → AreIts journal → fold step a journal ≡ a
  unchanged step actor stays not a [] its = refl
  unchanged step actor stays not a (entry ∷ journal) its = ap (λ one. fold step one journal) (stays a entry (other entry actor its.0 not)) ∙ unchanged step actor stays not a journal its.1

  no_session : (actor : Actor) → (IsIts actor → ⊥) → (journal : List Entry) → AreIts journal → live_session journal actor ≡ None
  unfolding live_session
  no_session actor not journal its = unchanged (session_in actor) actor stays not None journal its where
    stays : (old : Option ℕ) (entry : Entry) → same_actor entry.actor actor ≡ false → session_in actor old entry ≡ old
    stays old entry differs = rw differs refl

  no_script : (number : ℕ) → (IsIts (Client number) → ⊥) → unwrap_or (script_of number plan) [] ≡ []
  no_script number not = by (number == 0) (nat_lt (number - 1) (length plan.clients)) refl refl where
    by : (none within : Bool) → (number == 0) ≡ none → nat_lt (number - 1) (length plan.clients) ≡ within → unwrap_or (if none then None else slice_get plan.clients (number - 1)) [] ≡ []
    by true within first has = refl
    by false true first has =
        let some : 0 < number = grind (arith, nat_tests, first) in
        let inside : number - 1 < length plan.clients = grind (arith, nat_tests, has) in absurd (not (some, omega (arith, some, inside)))
    by false false first has = ap (λ (script : Option (List ScriptLine)). unwrap_or script []) (slice_get_past plan.clients (number - 1) (grind (arith, nat_tests, has)))

  no_turn : (number : ℕ) → (IsIts (Client number) → ⊥) → (journal : List Entry) → AreIts journal → client_at plan journal number ≡ new_client []
  unfolding client_at
  no_turn number not journal its = unchanged (after_turn number) (Client number) stays not (new_client (unwrap_or (script_of number plan) [])) journal its ∙ ap new_client (no_script number not) where
    stays : (client : Reached) (entry : Entry) → same_actor entry.actor (Client number) ≡ false → after_turn number client entry ≡ client
    stays client entry differs = rw differs refl

  asks_none : (number : ℕ) → (IsIts (Client number) → ⊥) → (journal : List Entry) → AreIts journal → client_asks plan journal number ≡ None
  unfolding client_asks
  asks_none number not journal its =
      let at = no_turn number not journal its in ap (λ (client : Reached). if client.is_lost then None else line_asks client.waits client.left) at

  -- ---- the next turn

  -- whether the plan has an actor is known
  decide : (actor : Actor) (P : Type 0) → (IsIts actor → P) → ((IsIts actor → ⊥) → P) → P
  decide Op P here away = here tt
  decide Insp P here away = here tt
  decide Copy P here away = here tt
  decide Apply P here away = here tt
  decide Lock P here away = here tt
  decide Ren P here away = here tt
  decide (Client number) P here away = by (nat_lt 0 number) (nat_le number (length plan.clients)) refl refl where
    by : (some few : Bool) → nat_lt 0 number ≡ some → nat_le number (length plan.clients) ≡ few → P
    by true true lower upper = here (grind (arith, nat_tests, lower), grind (arith, nat_tests, upper))
    by true false lower upper = away (λ its. absurd (let most : number ≤ length plan.clients = its.1 in grind (arith, nat_tests, upper, most)))
    by false few lower upper = away (λ its. absurd (let least : 0 < number = its.0 in grind (arith, nat_tests, lower, least)))

  lost_its : (before : List Entry) (actor : Actor) → AreIts before → is_some (live_session before actor) ≡ true → IsIts actor
  lost_its before actor its had = decide actor (IsIts actor) (λ its. its) (λ not. absurd (true≢false (sym had ∙ ap (λ (s : Option ℕ). is_some s) (no_session actor not before its))))

  asks_its : (before : List Entry) (number : ℕ) (asked : Asked) → AreIts before → client_asks plan before number ≡ Some asked → IsIts (Client number)
  asks_its before number asked its asks = decide (Client number) (IsIts (Client number)) (λ its. its) (λ not. absurd (none-some asked (sym (asks_none number not before its) ∙ asks)))

  takes_its : (before : List Entry) (actor : Actor) (asked : Asked) → AreIts before → asked ≢ Cut → TakesNext plan before actor asked → IsIts actor
  takes_its before Op asked its going takes = tt
  takes_its before Insp asked its going takes = tt
  takes_its before Copy asked its going takes = tt
  takes_its before Apply asked its going takes = tt
  takes_its before Lock asked its going takes = tt
  takes_its before Ren asked its going takes = tt
  takes_its before (Client number) Cut its going takes = absurd (going refl)
  takes_its before (Client number) (Call request) its going takes = asks_its before number (Call request) its takes
  takes_its before (Client number) Poll its going takes = asks_its before number Poll its takes
  takes_its before (Client number) (Command word) its going takes = asks_its before number (Command word) its takes

  -- who loses a session had one
  cut_had : (before : List Entry) (entry : Entry) (live : Option ℕ) → IsInSession before entry Cut live → is_some live ≡ true
  cut_had before entry None is = absurd is
  cut_had before entry (Some session) is = refl

  lost_one : (before : List Entry) (entry : Entry) → entry.asked ≡ Cut → IsSeated before entry → is_some (live_session before entry.actor) ≡ true
  lost_one before entry cut seated = cut_had before entry (live_session before entry.actor) (subst (λ (asked : Asked). IsInSession before entry asked (live_session before entry.actor)) cut seated.session)

  pub turn_its : (before : List Entry) (entry : Entry) → AreIts before → IsTurn plan before entry → IsIts entry.actor
  turn_its before entry its turn = by entry.asked refl where
    takes : entry.asked ≢ Cut → IsIts entry.actor
    takes other = takes_its before entry.actor entry.asked its other turn.takes

    by : (asked : Asked) → entry.asked ≡ asked → IsIts entry.actor
    by Cut cut = lost_its before entry.actor its (lost_one before entry cut turn.seated)
    by (Call request) call = takes (λ cut. let no : Call request ≡ Cut = sym call ∙ cut in absurd (cc no))
    by Poll poll = takes (λ cut. let no : Poll ≡ Cut = sym poll ∙ cut in absurd (cc no))
    by (Command word) command = takes (λ cut. let no : Command word ≡ Cut = sym command ∙ cut in absurd (cc no))
