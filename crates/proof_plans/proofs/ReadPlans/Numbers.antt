-- Numbers of a plan's texts and options are in their ranges.
use Rattle.std.proofs.Common.{◌≡◌, ◌≤◌, ℕ, ◌+◌, ◌*◌, ◌-◌, ◌^◌, min, Bool, true, false, not, ◌||◌, ◌==◌, cond, List, [], ◌∷◌, Option, Some, None, Ok, refl, subst, arith}
use Rattle.std.specs.Prelude.{ℤ, pos, negsuc, int_lt, nat_lt}
use Rattle.std.specs.Char.{is_ascii_digit, digit_value}
use Rattle.std.specs.List.{list_all}
use Rattle.std.specs.Str.Parse.{digits_value, digits_value_after}
use Rattle.std.proofs.lemmas.Bool.{and_parts, or_parts}
use Rattle.std.proofs.lemmas.Bool.Decides.{nat_tests}
use Rattle.base_values.specs.GhoSchema.Options.{◌>>=◌ as option_bind}
use Rattle.base_values.proofs.SchemaRules.Steps.{bind_ok, ok_is, kept_out, some_is}
use Rattle.plan_data.specs.declared.options.Options.{Options}
use Rattle.plan_keys.specs.declared.fault.KeyRefusal.{KeyRefusal}
use Rattle.plan_keys.specs.declared.fault.KeyRefusal.TheVariants.{UnknownKey, MissingKey, OutOfRange, TooMany}
use Rattle.plan_keys.specs.declared.options.NumberKeys.{NumberKeys}
use Rattle.plan_keys.specs.declared.options.TruthKeys.{TruthKeys}
use Rattle.plan_keys.specs.Limits.{has_too_many}
use Rattle.plan_keys.specs.Options.{within, version_two_within, options_within}
use Rattle.plan_keys.specs.PlanKeys.{KeyData, TypedData, typed_of, in_range, few, keys_of}
use Rattle.plan_keys.specs.declared.options.VersionTwoKeys.{VersionTwoKeys}
use Rattle.plan_keys.specs.declared.options.VersionTwoNumbers.{VersionTwoNumbers}
use Rattle.base_values.specs.SchemaRules.Results.{◌>>=◌}
use Rattle.toml.specs.Data.{Members}
use Rattle.plan_orders.specs.Numbers.{is_number, number_of, at_most, number_up_to}
use Rattle.proof_plans.proofs.ReadPlans.Schemas.Accepted.{past}

-- DIGITS

-- digits behind a number make none smaller
grows : (n : ℕ) (digits : List ℕ) → n ≤ digits_value_after 10 n digits
grows n [] = omega arith
grows n (digit ∷ digits) = let later = grows (n * 10 + digit_value digit) digits in omega (arith, later)

first_some : (digit : ℕ) → not (digit == 48) ≡ true → is_ascii_digit digit ≡ true → 1 ≤ digit_value digit
first_some digit other is = grind (arith, nat_tests)

from_one : (word : List ℕ) → is_number word ≡ true → 1 ≤ digits_value 10 word
from_one [] is = absurd cc
from_one (digit ∷ digits) is =
    let parts = and_parts (not (digit == 48)) (list_all is_ascii_digit (digit ∷ digits)) is in
    let first = and_parts (is_ascii_digit digit) (list_all is_ascii_digit digits) parts.1 in
    let some = first_some digit parts.0 first.0 in
    let later = grows (0 * 10 + digit_value digit) digits in
    omega (arith, some, later)

number_from_one : (word : List ℕ) (n : ℕ) → number_of word ≡ Some n → 1 ≤ n
number_from_one word n is = by (is_number word) refl is where
  by : (b : Bool) → is_number word ≡ b → cond b (Some (min (digits_value 10 word) (2 ^ 32 - 1))) None ≡ Some n → 1 ≤ n
  by true number is =
      let some = from_one word number in
      let same = some_is (min (digits_value 10 word) (2 ^ 32 - 1)) n is in
      subst (λ (m : ℕ). 1 ≤ m) same (omega (arith, some))
  by false number is = absurd cc

within_limit : (limit n : ℕ) (found : Option ℕ) → ((m : ℕ) → found ≡ Some m → 1 ≤ m) → option_bind found (at_most limit) ≡ Some n → 1 ≤ n
within_limit limit n None some is = absurd cc
within_limit limit n (Some m) some is = by (nat_lt limit m) is where
  by : (b : Bool) → cond b None (Some m) ≡ Some n → 1 ≤ n
  by true is = absurd cc
  by false is = subst (λ (k : ℕ). 1 ≤ k) (some_is m n is) (some m refl)

-- *Numbers are from 1 on*
pub number_some : (limit : ℕ) (word : List ℕ) (n : ℕ) → number_up_to limit word ≡ Some n → 1 ≤ n
number_some limit word n is = within_limit limit n (number_of word) (number_from_one word) is

-- OPTIONS

abbrev pub IsWithin : ℕ → ℕ → ℕ → Type 0
IsWithin low high n = (low ≤ n) × (n ≤ high)

within_is : (low high n : ℕ) (number : ℤ) → within low high number ≡ Ok n → IsWithin low high n
unfolding within
within_is low high n (pos m) is =
    let parts = kept_out (int_lt (pos m) (pos low) || int_lt (pos high) (pos m)) m n OutOfRange is in
    let both = or_parts (int_lt (pos m) (pos low)) (int_lt (pos high) (pos m)) parts.0 in
    subst (IsWithin low high) parts.1 (grind (arith, nat_tests, both), grind (arith, nat_tests, both))
within_is low high n (negsuc m) is = absurd cc

-- what ranges ask of the options
pub record AreRanged (options : Options) : Type 0 where
  pub chunk : IsWithin 1 100000 options.chunk_size
  pub batch : IsWithin 1 1000 options.dml_batch_size
  pub tries : IsWithin 1 1000 options.default_retries
  pub drain : IsWithin 1 100000 options.drain_limit
  pub client : IsWithin 1 100000 options.client_wait
  pub tool : IsWithin 1 100000 options.tool_wait
  pub turns : IsWithin 1 1000000 options.turn_limit
  pub notes : IsWithin 0 1000 options.notes
  pub note_every : IsWithin 1 100000 options.note_every
  pub pause : IsWithin 1 1000 options.replica_pause

-- what they ask of the numbers that version 2 has besides
record SecondRanged (numbers : VersionTwoNumbers) : Type 0 where
  notes : IsWithin 0 1000 numbers.notes
  note_every : IsWithin 1 100000 numbers.note_every
  pause : IsWithin 1 1000 numbers.replica_pause

second_ranged : (written : VersionTwoKeys) (numbers : VersionTwoNumbers) → version_two_within written ≡ Ok numbers → SecondRanged numbers
unfolding version_two_within
second_ranged written numbers is =
    let notes = bind_ok (within 0 1000 written.notes) _ numbers is in
    let between = bind_ok (within 1 100000 written.note_every) _ numbers notes.2 in
    let step = bind_ok (within 0 1000 written.replica_step) _ numbers between.2 in
    let pause = bind_ok (within 1 1000 written.replica_pause) _ numbers step.2 in
    let lag = bind_ok (within 1 1000 written.max_lag) _ numbers pause.2 in
    subst SecondRanged (ok_is {C = KeyRefusal} _ numbers lag.2) (record {
      notes = within_is 0 1000 notes.0 written.notes notes.1;
      note_every = within_is 1 100000 between.0 written.note_every between.1;
      pause = within_is 1 1000 pause.0 written.replica_pause pause.1;
    })

ranged : (numbers : NumberKeys) (truths : TruthKeys) (options : Options) → options_within numbers truths ≡ Ok options → AreRanged options
unfolding options_within
ranged numbers truths options is =
    let chunk = bind_ok (within 1 100000 numbers.chunk_size) _ options is in
    let batch = bind_ok (within 1 1000 numbers.dml_batch_size) _ options chunk.2 in
    let retries = bind_ok (within 1 1000 numbers.default_retries) _ options batch.2 in
    let backlog = bind_ok (within 0 100000 numbers.max_backlog) _ options retries.2 in
    let drain = bind_ok (within 1 100000 numbers.drain_limit) _ options backlog.2 in
    let client = bind_ok (within 1 100000 numbers.client_wait) _ options drain.2 in
    let tool = bind_ok (within 1 100000 numbers.tool_wait) _ options client.2 in
    let load = bind_ok (within 0 64 numbers.max_load) _ options tool.2 in
    let turns = bind_ok (within 1 1000000 numbers.turn_limit) _ options load.2 in
    let second = bind_ok (version_two_within numbers.version_two) _ options turns.2 in
    let more = second_ranged numbers.version_two second.0 second.1 in
    subst AreRanged (ok_is {C = KeyRefusal} _ options second.2) (record {
      chunk = within_is 1 100000 chunk.0 numbers.chunk_size chunk.1;
      batch = within_is 1 1000 batch.0 numbers.dml_batch_size batch.1;
      tries = within_is 1 1000 retries.0 numbers.default_retries retries.1;
      drain = within_is 1 100000 drain.0 numbers.drain_limit drain.1;
      client = within_is 1 100000 client.0 numbers.client_wait client.1;
      tool = within_is 1 100000 tool.0 numbers.tool_wait tool.1;
      turns = within_is 1 1000000 turns.0 numbers.turn_limit turns.1;
      notes = more.notes;
      note_every = more.note_every;
      pause = more.pause;
    })

typed_ranged : (typed : TypedData) (keys : KeyData) → in_range typed ≡ Ok keys → AreRanged keys.options
unfolding in_range
typed_ranged typed keys is =
    let version = bind_ok (within 1 2 typed.version) _ keys is in
    let options = bind_ok (options_within typed.numbers typed.truths) (λ options. Ok (record { version = version.0; texts = typed.texts; options = options })) keys version.2 in
    let same = ok_is {C = KeyRefusal} (record { version = version.0; texts = typed.texts; options = options.0 }) keys options.2 in
    subst (λ (k : KeyData). AreRanged k.options) same (ranged typed.numbers typed.truths options.0 options.1)

-- *The options of read keys are in their ranges*
pub options_ranged : (members : Members) (keys : KeyData) → keys_of members ≡ Ok keys → AreRanged keys.options
unfolding keys_of
options_ranged members keys is =
    let known = past _ UnknownKey _ keys is in
    let there = past _ MissingKey _ keys known in
    let kept = bind_ok (typed_of members >>= in_range) few keys there in
    let typed = bind_ok (typed_of members) in_range kept.0 kept.1 in
    let same = kept_out (has_too_many kept.0.texts) kept.0 keys TooMany kept.2 in
    subst (λ (k : KeyData). AreRanged k.options) same.1 (typed_ranged typed.0 kept.0 typed.2)
