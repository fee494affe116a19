-- A session that opens in a turn keeps the server plain, and what it sees and leaves is as little as the journal's length says.
use Rattle.std.proofs.Common.{◌≡◌, ℕ, ◌+◌, ◌*◌, ◌^◌, ◌<◌, ◌≤◌, Bool, true, false, not, ◌||◌, cond, List, [], ◌∷◌, ◌++◌, length, Option, Some, None, sym, subst, lit<, arith}
use Rattle.std.proofs.lemmas.List.{length-append}
use Rattle.base_script.specs.declared.actor.Side.{Side}
use Rattle.base_script.specs.declared.actor.Side.TheVariants.{Before, After}
use Rattle.server_model.specs.declared.answer.Answer.{Answer}
use Rattle.server_model.specs.declared.entry.Asked.{Asked}
use Rattle.server_model.specs.declared.entry.Asked.TheVariants.{Call, Poll, Command, Cut}
use Rattle.server_model.specs.declared.entry.Entry.{Entry}
use Rattle.server_model.specs.Entries.{is_client, is_command}
use Rattle.server_model.specs.PlainServer.{given_at}
use Rattle.server_model.specs.States.{State, connected, is_live}
use Rattle.plan_data.specs.PlanData.{PlanData}
use Rattle.tool_program.specs.JournalWords.Journals.{heard, opens, opens_if, state_at}
use Rattle.proof_journals.specs.ServerFacts.Invariants.{IsServing}
use Rattle.proof_journals.proofs.Machine.Seated.{state_more}
use Rattle.proof_journals.proofs.ServerFacts.Calls.{connected_serves}
use Rattle.proof_plain.specs.Plain.{PlainAnswer, PlainState}
use Rattle.proof_plain.proofs.Counts.{IsFew, connected_few, left_few, view_few, view_formed}
use Rattle.proof_plain.proofs.Serving.{SeesFew, connected_plain}

-- ---- a session that opens

module _ (nothing tool : Bool) (number : ℕ) (state : State) where
  opened_plain : number < 2 ^ 64 → PlainState state → PlainState (opens_if nothing tool number state)
  unfolding opens_if
  opened_plain small plain = by (nothing || is_live state number) where
    by : (b : Bool) → PlainState (cond b state (connected number tool state))
    by true = plain
    by false = connected_plain number tool state small plain

  few_opened : (rows events : ℕ) → IsFew rows events state → IsFew rows events (opens_if nothing tool number state)
  unfolding opens_if
  few_opened rows events few = by (nothing || is_live state number) where
    by : (b : Bool) → IsFew rows events (cond b state (connected number tool state))
    by true = few
    by false = connected_few number rows events tool state few

  serving_opened : IsServing state → IsServing (opens_if nothing tool number state)
  unfolding opens_if
  serving_opened serving = by (nothing || is_live state number) where
    by : (b : Bool) → IsServing (cond b state (connected number tool state))
    by true = serving
    by false = connected_serves number tool state serving

-- ---- numbers

products : (n m : ℕ) → n * (m + n) + (m + n + 1) ≤ (n + 1) * (m + (n + 1))
products n m = grind arith

less_product : (n m : ℕ) → n ≤ m → n * (m + n) ≤ m * (m + m)
less_product n m less = grind (arith, less)

below : (a b c : ℕ) → a ≤ b → b < c → a < c
below a b c one two = omega (arith, one, two)

log_short : (n : ℕ) → n ≤ 2 ^ 31 → n * (2 ^ 31 + n) < 2 ^ 64
log_short n less = below (n * (2 ^ 31 + n)) (2 ^ 31 * (2 ^ 31 + 2 ^ 31)) (2 ^ 64) (less_product n (2 ^ 31) less) (lit< tt)

at_most : {a b c : ℕ} → a ≤ b → b ≤ c → a ≤ c
at_most {a} {b} {c} one two = omega (arith, one, two)

-- ---- answers

-- an answer that the server gives, as it is heard
pub heard_plain : (side : Option Side) (asked : Asked) (answer : Answer) → PlainAnswer answer → PlainAnswer (heard side (given_at side asked answer))
heard_plain None (Call request) answer plain = plain
heard_plain None Poll answer plain = plain
heard_plain None (Command word) answer plain = plain
heard_plain None Cut answer plain = tt
heard_plain (Some Before) asked answer plain = tt
heard_plain (Some After) asked answer plain = tt

-- ---- in a turn behind a journal

module _ (plan : PlanData) (journal : List Entry) (entry : Entry) (turns : length journal + 1 ≤ 2 ^ 31) (small : entry.session < 2 ^ 64) (plain : PlainState (state_at plan journal)) (few : IsFew (2 ^ 31 + length journal) (length journal * (2 ^ 31 + length journal)) (state_at plan journal)) (serves : IsServing (state_at plan journal)) where
  abbrev open_now : State
  open_now = opens entry (state_at plan journal)

  abbrev more : List Entry
  more = journal ++ entry ∷ []

  pub opens_serving : IsServing open_now
  opens_serving = serving_opened (is_command entry.asked) (not (is_client entry.actor)) entry.session (state_at plan journal) serves

  few_now : IsFew (2 ^ 31 + length journal) (length journal * (2 ^ 31 + length journal)) open_now
  few_now = few_opened (is_command entry.asked) (not (is_client entry.actor)) entry.session (state_at plan journal) (2 ^ 31 + length journal) (length journal * (2 ^ 31 + length journal)) few

  pub opens_plain : PlainState open_now
  opens_plain = opened_plain (is_command entry.asked) (not (is_client entry.actor)) entry.session (state_at plan journal) small plain

  pub sees_few : SeesFew entry.session open_now
  sees_few = record {
    short =
        let a = few_now.log in
        let b = log_short (length journal) (omega (arith, turns)) in
        below (length open_now.log) (length journal * (2 ^ 31 + length journal)) (2 ^ 64) (omega (arith, a)) b;
    few = view_few entry.session (2 ^ 31 + length journal) (length journal * (2 ^ 31 + length journal)) open_now (omega (arith, turns)) opens_serving few_now;
    well_formed = view_formed entry.session open_now opens_serving;
  }

  few_after : IsFew (2 ^ 31 + length journal + 1) (length journal * (2 ^ 31 + length journal) + (2 ^ 31 + length journal + 1)) (state_at plan more)
  few_after = subst (IsFew (2 ^ 31 + length journal + 1) (length journal * (2 ^ 31 + length journal) + (2 ^ 31 + length journal + 1))) (sym (state_more plan journal entry))
      (left_few entry.session (2 ^ 31 + length journal) (length journal * (2 ^ 31 + length journal)) open_now opens_serving few_now entry.side entry.asked)

  pub leaves_few : IsFew (2 ^ 31 + length more) (length more * (2 ^ 31 + length more)) (state_at plan more)
  leaves_few = fewer (length more) (length-append journal (entry ∷ [])) where
    fewer : (n : ℕ) → n ≡ length journal + 1 → IsFew (2 ^ 31 + n) (n * (2 ^ 31 + n)) (state_at plan more)
    fewer n is = subst (λ (k : ℕ). IsFew (2 ^ 31 + k) (k * (2 ^ 31 + k)) (state_at plan more)) (sym is) (record {
      rows = λ name. let a = few_after.rows name in omega (arith, a);
      log = let a = few_after.log in let b = products (length journal) (2 ^ 31) in at_most a b;
    })
