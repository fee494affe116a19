-- The words of a printed order.
use Rattle.std.proofs.Common.{◌≡◌, ◌∙◌, ℕ, suc, ◌+◌, ◌-◌, ◌<◌, ◌≤◌, ◌^◌, ◌==◌, min, Bool, true, false, not, ◌&&◌, cond, nat_lt, List, [], ◌∷◌, ◌++◌, length, take, drop, get_or, Option, Some, None, refl, sym, ap, ap₂, arith, codes, append-nil}
use Rattle.std.proofs.lemmas.Bool.{not-true, and_from, and_parts}
use Rattle.std.proofs.lemmas.Bool.Decides.{nat_tests}
use Rattle.std.proofs.lemmas.Fmt.{decimal_nonempty, digits_decimal, digits_value-decimal, first_decimal}
use Rattle.law_texts.proofs.Numerals.{numerals}
use Rattle.std.specs.Char.{is_ascii_digit}
use Rattle.std.specs.Fmt.{decimal}
use Rattle.std.specs.List.{list_all, onto_first, position_or_len, slice_split}
use Rattle.std.specs.Str.{bytes_eq}
use Rattle.std.specs.Str.Parse.{digits_value}
use Rattle.base_script.specs.declared.actor.Actor.{Actor}
use Rattle.base_script.specs.declared.actor.Actor.TheVariants.{Op, Insp, Copy, Apply, Lock, Ren, Client}
use Rattle.plan_data.specs.declared.runs.ActorRun.{ActorRun}
use Rattle.plan_orders.specs.Actors.{actor_of, is_among}
use Rattle.plan_orders.specs.Numbers.{number_of}
use Rattle.plan_orders.specs.Words.{is_space, parts_around, parts_at}
use Rattle.plan_orders.specs.TurnOrder.Turns.{run_among, run_in, run_of, run_with}
use Rattle.top_report.specs.Turns.{actor_word, run_text, times_text}
use Rattle.law_texts.specs.TurnOrders.{IsOf}

-- ---- digits

number_is : (digits : List ℕ) (n : ℕ) → list_all is_ascii_digit digits ≡ true → digits_value 10 digits ≡ n → 0 < length digits → 48 < get_or digits 0 0 → n < 2 ^ 32 → number_of digits ≡ Some n
number_is [] n are value some first small = absurd (omega arith)
number_is (digit ∷ digits) n are value some first small =
    let nonzero : (digit == 48) ≡ false = grind (arith, nat_tests) in
    let within : min n (2 ^ 32 - 1) ≡ n = omega arith in
    rw nonzero (rw are (ap (λ (v : ℕ). Some (min v (2 ^ 32 - 1))) value ∙ ap (λ (v : ℕ). Some v) within))

-- a number that is printed is read
pub number_read : (n : ℕ) → 0 < n → n < 2 ^ 32 → number_of (decimal n) ≡ Some n
number_read n some small =
    let wide : n < 2 ^ 64 = omega arith in
    number_is (decimal n) n (digits_decimal numerals n wide) (digits_value-decimal numerals n wide) (decimal_nonempty n wide) (first_decimal n some wide) small

-- ---- bytes that neither part words nor part a word

abbrev pub is_plain : ℕ → Bool
is_plain byte = not (is_space byte) && not (byte == 42)

plain_digit : (digit : ℕ) → is_ascii_digit digit ≡ true → is_plain digit ≡ true
plain_digit digit is = grind (arith, nat_tests)

plain_digits : (digits : List ℕ) → list_all is_ascii_digit digits ≡ true → list_all is_plain digits ≡ true
plain_digits [] are = refl
plain_digits (digit ∷ digits) are = and_from _ _ (plain_digit digit ((and_parts _ _ are).0)) (plain_digits digits ((and_parts (is_ascii_digit digit) _ are).1))

plain_number : (n : ℕ) → n < 2 ^ 64 → list_all is_plain (decimal n) ≡ true
plain_number n wide = plain_digits (decimal n) (digits_decimal numerals n wide)

-- an actor's word
pub plain_word : (clients : ℕ) (actor : Actor) → clients < 2 ^ 32 → IsOf clients actor → list_all is_plain (actor_word actor) ≡ true
unfolding actor_word
plain_word clients Op few is = refl
plain_word clients Insp few is = refl
plain_word clients Copy few is = refl
plain_word clients Apply few is = refl
plain_word clients Lock few is = refl
plain_word clients Ren few is = refl
plain_word clients (Client number) few is = plain_number number (let most : number ≤ clients = is.1 in omega (arith, most, few))

-- ---- an actor's word is read

other_head : (digit : ℕ) (digits others : List ℕ) (letter : ℕ) → is_ascii_digit digit ≡ true → nat_lt 57 letter ≡ true → bytes_eq (digit ∷ digits) (letter ∷ others) ≡ false
other_head digit digits others letter is far = let differ : (digit == letter) ≡ false = grind (arith, nat_tests) in rw differ refl

client_word : (digits : List ℕ) (number : ℕ) → list_all is_ascii_digit digits ≡ true → 0 < length digits → number_of digits ≡ Some number → actor_of (99 ∷ digits) ≡ Some (Client number)
unfolding actor_of
client_word [] number are some is = absurd (omega arith)
client_word (digit ∷ digits) number are some is =
    let other : bytes_eq (digit ∷ digits) (codes "opy") ≡ false = other_head digit digits (codes "py") 111 ((and_parts _ _ are).0) refl in
    rw other (rw is refl)

pub actor_read : (clients : ℕ) (actor : Actor) → clients < 2 ^ 32 → IsOf clients actor → actor_of (actor_word actor) ≡ Some actor
unfolding actor_of actor_word
actor_read clients Op few is = refl
actor_read clients Insp few is = refl
actor_read clients Copy few is = refl
actor_read clients Apply few is = refl
actor_read clients Lock few is = refl
actor_read clients Ren few is = refl
actor_read clients (Client number) few is =
    let most : number ≤ clients = is.1 in
    let small : number < 2 ^ 32 = omega (arith, most, few) in
    let wide : number < 2 ^ 64 = omega arith in
    client_word (decimal number) number (digits_decimal numerals number wide) (decimal_nonempty number wide) (number_read number is.0 small)

pub among : (clients : ℕ) (actor : Actor) → IsOf clients actor → is_among clients actor ≡ true
among clients Op is = refl
among clients Insp is = refl
among clients Copy is = refl
among clients Apply is = refl
among clients Lock is = refl
among clients Ren is = refl
among clients (Client number) is = let most : number ≤ clients = is.1 in let no : nat_lt clients number ≡ false = grind (arith, nat_tests) in rw no refl

-- ---- a word is cut at its mark

no_mark : (word : List ℕ) → list_all is_plain word ≡ true → position_or_len (λ byte. byte == 42) word ≡ length word
no_mark [] plain = refl
no_mark (byte ∷ word) plain =
    let other : (byte == 42) ≡ false = not-true _ ((and_parts (not (is_space byte)) _ ((and_parts _ _ plain).0)).1) in
    let next : position_or_len (λ byte. byte == 42) word ≡ length word = no_mark word ((and_parts (is_plain byte) _ plain).1) in
    rw other (omega (arith, next))

at_mark : (word rest : List ℕ) → list_all is_plain word ≡ true → position_or_len (λ byte. byte == 42) (word ++ 42 ∷ rest) ≡ length word
at_mark [] rest plain = refl
at_mark (byte ∷ word) rest plain =
    let other : (byte == 42) ≡ false = not-true _ ((and_parts (not (is_space byte)) _ ((and_parts _ _ plain).0)).1) in
    let next : position_or_len (λ byte. byte == 42) (word ++ 42 ∷ rest) ≡ length word = at_mark word rest ((and_parts (is_plain byte) _ plain).1) in
    rw other (omega (arith, next))

whole_word : (word : List ℕ) → list_all is_plain word ≡ true → parts_at 42 word ≡ None
whole_word word plain =
    let past : nat_lt (length word) (length word) ≡ false = grind (arith, nat_tests) in
    ap (λ (place : ℕ). parts_around word (cond (nat_lt place (length word)) (Some place) None)) (no_mark word plain) ∙ rw past refl

taken : (word rest : List ℕ) → take (length word) (word ++ 42 ∷ rest) ≡ word
taken [] rest = refl
taken (byte ∷ word) rest = ap (λ (bytes : List ℕ). byte ∷ bytes) (taken word rest)

dropped : (word rest : List ℕ) → drop (length word + 1) (word ++ 42 ∷ rest) ≡ rest
dropped [] rest = refl
dropped (byte ∷ word) rest =
    let next : suc (length word) + 1 ≡ suc (length word + 1) = omega arith in
    ap (λ (n : ℕ). drop n (byte ∷ (word ++ 42 ∷ rest))) next ∙ dropped word rest

longer : (word rest : List ℕ) → nat_lt (length word) (length (word ++ 42 ∷ rest)) ≡ true
longer [] rest = grind (arith, nat_tests)
longer (byte ∷ word) rest = let next : nat_lt (length word) (length (word ++ 42 ∷ rest)) ≡ true = longer word rest in grind (arith, nat_tests)

two_parts : (word rest : List ℕ) → list_all is_plain word ≡ true → parts_at 42 (word ++ 42 ∷ rest) ≡ Some (word, rest)
two_parts word rest plain =
    ap (λ (place : ℕ). parts_around (word ++ 42 ∷ rest) (cond (nat_lt place (length (word ++ 42 ∷ rest))) (Some place) None)) (at_mark word rest plain)
    ∙ rw (longer word rest) (ap₂ (λ (front following : List ℕ). Some (front, following)) (taken word rest) (dropped word rest))

-- ---- a run is read

-- a run that may be printed
pub record IsRun (clients : ℕ) (run : ActorRun) : Type 0 where
  pub some : 0 < run.times
  pub few : run.times < 2 ^ 32
  pub its : IsOf clients run.actor

with_times : (actor : Actor) (times : ℕ) (word : List ℕ) (number : Option ℕ) → actor_of word ≡ Some actor → number ≡ Some times → run_with (actor_of word) number ≡ Some (record { actor = actor; times = times })
with_times actor times word number is counts = rw (is, counts) refl

run_read_as : (clients : ℕ) (run : ActorRun) (b : Bool) → clients < 2 ^ 32 → IsRun clients run → (run.times == 1) ≡ b → run_of (actor_word run.actor ++ times_text run.times) ≡ Some run
unfolding run_of
run_read_as clients run true few is once =
    let one : run.times ≡ 1 = grind (arith, nat_tests) in
    let plain = plain_word clients run.actor few is.its in
    rw once (rw (append-nil (actor_word run.actor)) (ap (run_in (actor_word run.actor)) (whole_word (actor_word run.actor) plain)
    ∙ with_times run.actor 1 (actor_word run.actor) (Some 1) (actor_read clients run.actor few is.its) refl ∙ ap (λ (n : ℕ). Some (record { actor = run.actor; times = n })) (sym one)))
run_read_as clients run false few is more =
    let plain = plain_word clients run.actor few is.its in
    rw more (ap (run_in (actor_word run.actor ++ 42 ∷ decimal run.times)) (two_parts (actor_word run.actor) (decimal run.times) plain)
    ∙ with_times run.actor run.times (actor_word run.actor) (number_of (decimal run.times)) (actor_read clients run.actor few is.its) (number_read run.times is.some is.few))

pub run_read : (clients : ℕ) (run : ActorRun) → clients < 2 ^ 32 → IsRun clients run → run_among clients (run_text run) ≡ Some run
unfolding run_text
run_read clients run few is = rw (run_read_as clients run (run.times == 1) few is refl) (rw (among clients run.actor is.its) refl)

-- ---- words between blanks

abbrev pub is_dark : ℕ → Bool
is_dark byte = not (is_space byte)

dark_if_plain : (word : List ℕ) → list_all is_plain word ≡ true → list_all is_dark word ≡ true
dark_if_plain [] plain = refl
dark_if_plain (byte ∷ word) plain = and_from _ _ ((and_parts _ (not (byte == 42)) ((and_parts _ _ plain).0)).0) (dark_if_plain word ((and_parts (is_plain byte) _ plain).1))

dark_both : (word other : List ℕ) → list_all is_dark word ≡ true → list_all is_dark other ≡ true → list_all is_dark (word ++ other) ≡ true
dark_both [] other dark more = more
dark_both (byte ∷ word) other dark more = and_from _ _ ((and_parts _ _ dark).0) (dark_both word other ((and_parts (is_dark byte) _ dark).1) more)

dark_times : (times : ℕ) (b : Bool) → (times == 1) ≡ b → times < 2 ^ 32 → list_all is_dark (times_text times) ≡ true
dark_times times true once few = rw once refl
dark_times times false more few = rw more (dark_if_plain (decimal times) (plain_number times (omega arith)))

pub dark_run : (clients : ℕ) (run : ActorRun) → clients < 2 ^ 32 → IsRun clients run → list_all is_dark (run_text run) ≡ true
unfolding run_text
dark_run clients run few is = dark_both (actor_word run.actor) (times_text run.times) (dark_if_plain (actor_word run.actor) (plain_word clients run.actor few is.its)) (dark_times run.times (run.times == 1) refl is.few)

long_word : (actor : Actor) (following : List ℕ) → (length (actor_word actor ++ following) == 0) ≡ false
unfolding actor_word
long_word Op following = grind (arith, nat_tests)
long_word Insp following = grind (arith, nat_tests)
long_word Copy following = grind (arith, nat_tests)
long_word Apply following = grind (arith, nat_tests)
long_word Lock following = grind (arith, nat_tests)
long_word Ren following = grind (arith, nat_tests)
long_word (Client number) following = grind (arith, nat_tests)

-- a run's text isn't empty
pub long_run : (run : ActorRun) → (length (run_text run) == 0) ≡ false
unfolding run_text
long_run run = long_word run.actor (times_text run.times)

-- a word alone is the one part, and one before a blank is the first
pub one_part : (word : List ℕ) → list_all is_dark word ≡ true → slice_split is_space word ≡ word ∷ []
one_part [] dark = refl
one_part (byte ∷ word) dark =
    let other : is_space byte ≡ false = not-true _ ((and_parts _ _ dark).0) in
    rw other (ap (onto_first byte) (one_part word ((and_parts (is_dark byte) _ dark).1)))

pub first_part : (word rest : List ℕ) → list_all is_dark word ≡ true → slice_split is_space (word ++ 32 ∷ rest) ≡ word ∷ slice_split is_space rest
first_part [] rest dark = refl
first_part (byte ∷ word) rest dark =
    let other : is_space byte ≡ false = not-true _ ((and_parts _ _ dark).0) in
    rw other (ap (onto_first byte) (first_part word rest ((and_parts (is_dark byte) _ dark).1)))
