-- An audit names the first that is wrong; and the lines decide the tables.
use Rattle.std.proofs.Common.{◌≡◌, ℕ, ◌≤◌, ◌||◌, nat_lt, Bool, true, false, List, [], ◌∷◌, ◌++◌, map, Option, Some, None, refl, sym, ap, ◌∙◌, subst, arith}
use Rattle.std.specs.Prelude.{min, nat_eq}
use Rattle.std.specs.List.{AllByRecursion, list_any}
use Rattle.std.proofs.lemmas.Bool.Decides.{nat_tests}
use Rattle.table_store.specs.Databases.{Database}
use Rattle.tool_program.specs.JournalWords.Serials.{Serial}
use Rattle.run_audit.specs.declared.line.TraceLine.{TraceLine}
use Rattle.run_audit.specs.declared.trace.Audit.TheVariants as audits
use Rattle.run_audit.specs.Audits.{audited, bad_turns, first_no, first_other, item_of, judged, least, least_with, opening_tables, tables_reached, verdict_holds}
use Rattle.run_audit.specs.Lines.{printed_table}
use Rattle.proof_audit.specs.AuditedTraces.{AuditsNameTheFirst, IsAudited, IsLeast, LinesDecideTables}
use Rattle.proof_audit.proofs.Losing.{serial_is_one}
use Rattle.proof_audit.proofs.Whole.{least_none, say_yes}

-- ---- the least

-- each that is at least the one is at least the other, where that is at most it
all_lower : (lower upper : ℕ) (turns : List ℕ) → lower ≤ upper → AllByRecursion (λ other. upper ≤ other) turns → AllByRecursion (λ other. lower ≤ other) turns
all_lower lower upper [] less all = tt
all_lower lower upper (turn ∷ turns) less all = (let one : upper ≤ turn = all.0 in omega (arith, less, one), all_lower lower upper turns less all.1)

same_turn : (turn : ℕ) → nat_eq turn turn ≡ true
same_turn turn = grind (arith, nat_tests)

equal_turns : (a b : ℕ) → nat_eq a b ≡ true → a ≡ b
equal_turns a b same = grind (arith, nat_tests)

some_of : (a b : ℕ) → Some a ≡ Some b → a ≡ b
some_of a b is = cc

or_second : (b c : Bool) → c ≡ true → (b || c) ≡ true
or_second true c is = refl
or_second false c is = is

min_low : (a b : ℕ) → a ≤ b → min a b ≡ a
min_low a b less = omega (arith, less)

min_high : (a b : ℕ) → b ≤ a → min a b ≡ b
min_high a b less = omega (arith, less)

-- which of two turns is at most the other
pub data Order (a b : ℕ) : Type 0 where
  lower : a ≤ b → Order a b
  higher : b ≤ a → Order a b

ordered_by : (a b : ℕ) (c : Bool) → nat_lt b a ≡ c → Order a b
ordered_by a b true is = higher (grind (arith, nat_tests))
ordered_by a b false is = lower (grind (arith, nat_tests))

least_more : (turn : ℕ) (turns : List ℕ) (found : Option ℕ) → least turns ≡ found → (found ≡ None → turns ≡ []) → ((m : ℕ) → found ≡ Some m → IsLeast m turns) → (n : ℕ) → least_with turn found ≡ Some n → IsLeast n (turn ∷ turns)
least_more turn turns None is none some n same =
    let one : turn ≡ n = some_of turn n same in
    subst (λ (m : ℕ). IsLeast m (turn ∷ turns)) one (subst (λ (all : List ℕ). IsLeast turn (turn ∷ all)) (sym (none refl)) (record { among = ap (λ (b : Bool). b || false) (same_turn turn); first = (omega arith, tt) }))
least_more turn turns (Some other) is none some n same = by (ordered_by turn other (nat_lt other turn) refl) where
  rest : IsLeast other turns
  rest = some other refl

  one : min turn other ≡ n
  one = some_of (min turn other) n same

  by : Order turn other → IsLeast n (turn ∷ turns)
  by (lower less) =
      subst (λ (m : ℕ). IsLeast m (turn ∷ turns)) (sym (min_low turn other less) ∙ one)
      (record { among = ap (λ (b : Bool). b || list_any (nat_eq turn) turns) (same_turn turn); first = (omega arith, all_lower turn other turns less rest.first) })
  by (higher less) =
      subst (λ (m : ℕ). IsLeast m (turn ∷ turns)) (sym (min_high turn other less) ∙ one) (record { among = or_second (nat_eq other turn) (list_any (nat_eq other) turns) rest.among; first = (less, rest.first) })

least_is : (turns : List ℕ) (n : ℕ) → least turns ≡ Some n → IsLeast n turns
unfolding least
least_is [] n is = absurd cc
least_is (turn ∷ turns) n is = least_more turn turns (least turns) refl (least_none turns) (λ m at. least_is turns m at) n is

at_least : (a : ℕ) (b : ℕ) (turns : List ℕ) → list_any (nat_eq a) turns ≡ true → AllByRecursion (λ other. b ≤ other) turns → b ≤ a
at_least a b [] among all = absurd cc
at_least a b (turn ∷ turns) among all = by (nat_eq a turn) refl among (λ more. at_least a b turns more all.1) where
  by : (c : Bool) → nat_eq a turn ≡ c → (c || list_any (nat_eq a) turns) ≡ true → (list_any (nat_eq a) turns ≡ true → b ≤ a) → b ≤ a
  by true same among rest = subst (λ (m : ℕ). b ≤ m) (sym (equal_turns a turn same)) all.0
  by false other among rest = rest among

-- there is one least
least_one : (turns : List ℕ) (a b : ℕ) → IsLeast a turns → IsLeast b turns → a ≡ b
least_one turns a b one two =
    let up : a ≤ b = at_least b a turns two.among one.first in
    let down : b ≤ a = at_least a b turns one.among two.first in
    omega (arith, up, down)

least_there : (turns : List ℕ) (n : ℕ) (found : Option ℕ) → least turns ≡ found → IsLeast n turns → found ≡ Some n
least_there turns n None is one = absurd (by turns (least_none turns is) one.among) where
  by : (all : List ℕ) → all ≡ [] → list_any (nat_eq n) all ≡ true → ⊥
  by [] none among = cc
  by (turn ∷ all) none among = cc
least_there turns n (Some other) is one = ap (λ (m : ℕ). Some m) (least_one turns other n (least_is turns other is) one)

-- ---- the answers

line_parts : (turn : Option ℕ) (table : Option (List ℕ)) (verdict : Bool) (n : ℕ) → first_no turn table verdict ≡ audits.Line n → turn ≡ Some n
line_parts (Some turn) table verdict n is = let one : turn ≡ n = cc in ap (λ (m : ℕ). Some m) one
line_parts None (Some name) verdict n is = absurd cc
line_parts None None false n is = absurd cc
line_parts None None true n is = absurd cc

table_parts : (turn : Option ℕ) (table : Option (List ℕ)) (verdict : Bool) (name : List ℕ) → first_no turn table verdict ≡ audits.Table name → (turn ≡ None) × (table ≡ Some name)
table_parts (Some turn) table verdict name is = absurd cc
table_parts None (Some other) verdict name is = let one : other ≡ name = cc in (refl, ap (λ (m : List ℕ). Some m) one)
table_parts None None false name is = absurd cc
table_parts None None true name is = absurd cc

verdict_parts : (turn : Option ℕ) (table : Option (List ℕ)) (verdict : Bool) → first_no turn table verdict ≡ audits.Verdict → (turn ≡ None) × (table ≡ None) × (verdict ≡ false)
verdict_parts (Some turn) table verdict is = absurd cc
verdict_parts None (Some other) verdict is = absurd cc
verdict_parts None None false is = (refl, refl, refl)
verdict_parts None None true is = absurd cc

-- *An audit names the first* that is wrong
pub name_the_first : AuditsNameTheFirst
unfolding audited
name_the_first plan trace =
    let reached : Option (List ℕ) = first_other trace.tables (tables_reached plan (opening_tables plan) (judged plan trace.lines)) in
    let holds : Bool = verdict_holds plan trace.lines trace.verdict in
    let turns : List ℕ = bad_turns plan trace in
    record {
      turn = λ n is. least_is turns n (line_parts (least turns) reached holds n is);
      named = λ n is. ap (λ (turn : Option ℕ). first_no turn reached holds) (least_there turns n (least turns) refl is);
      table = λ name is. let parts = table_parts (least turns) reached holds name is in (least_none turns parts.0, parts.1);
      verdict = λ is. let parts = verdict_parts (least turns) reached holds is in (least_none turns parts.0, parts.1, parts.2);
    }

-- *The lines decide the tables*
pub lines_decide : LinesDecideTables
lines_decide plan trace other same yes_one yes_two =
    let one : IsAudited plan trace = (say_yes plan trace).only yes_one in
    let two : IsAudited plan other = (say_yes plan other).only yes_two in
    let too : Serial plan (opening_tables plan) (map item_of (judged plan trace.lines)) two.tables = subst (λ (lines : List TraceLine). Serial plan (opening_tables plan) (map item_of (judged plan lines)) two.tables) (sym same) two.serial in
    let tables : one.tables ≡ two.tables = serial_is_one plan (opening_tables plan) (map item_of (judged plan trace.lines)) one.tables two.tables one.serial too in
    record {
      tables = one.tables;
      one = one.others;
      two = two.others;
      printed = one.printed;
      printed_too = two.printed ∙ ap (λ (tables : Database). map printed_table tables ++ two.others) (sym tables);
    }
