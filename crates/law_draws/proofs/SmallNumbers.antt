-- Counters stay small.
use Rattle.std.proofs.Common.{◌≡◌, ℕ, zero, suc, ◌+◌, ◌-◌, ◌*◌, ◌^◌, ◌≤◌, ◌==◌, Bool, true, false, ◌&&◌, ◌||◌, List, [], ◌∷◌, cond, Option, Some, None, Ok, refl, sym, ap, ◌∙◌, subst, arith}
use Rattle.std.specs.Prelude.{pos, find, max, nat_le, int_le}
use Rattle.std.specs.List.{slice_get, AllByRecursion}
use Rattle.std.specs.Option.{option_map}
use Rattle.std.specs.Str.{bytes_eq}
use Rattle.std.proofs.lemmas.Bool.{true≢false, false≢true, and_parts}
use Rattle.std.proofs.lemmas.Bool.Decides.{nat_tests}
use Rattle.base_values.specs.declared.kind.Kind.{Kind}
use Rattle.base_values.specs.declared.kind.Kind.TheVariants.{Int}
use Rattle.base_values.specs.declared.value.Value.{Value}
use Rattle.base_values.specs.declared.value.Value.TheVariants.{Num}
use Rattle.base_values.specs.declared.gho_schema.schema.Column.{Column}
use Rattle.base_values.specs.declared.gho_schema.schema.Schema.{Schema}
use Rattle.base_values.specs.GhoSchema.AutoIncrement.{auto_place, is_widest, IsCounter, MayCount}
use Rattle.base_values.specs.GhoSchema.Tables.{IsRow}
use Rattle.base_values.specs.SchemaRules.Valid.{is_kind, IsColumn}
use Rattle.base_values.specs.StoredValues.{fits, half, lowest, stores}
use Rattle.base_values.proofs.StoredValues.{keeps}
use Rattle.base_script.specs.declared.statement.Statement.{Statement}
use Rattle.table_store.specs.Databases.{TableRows, find_table}
use Rattle.server_model.specs.declared.answer.Answer.{Answer}
use Rattle.server_model.specs.declared.answer.Answer.TheVariants as answers
use Rattle.server_model.specs.declared.counter.Counter.{Counter}
use Rattle.server_model.specs.declared.request.Request.{Request}
use Rattle.server_model.specs.declared.request.Request.TheVariants as requests
use Rattle.server_model.specs.declared.work.Work.{Work}
use Rattle.server_model.specs.declared.work.Work.TheVariants as works
use Rattle.server_model.specs.Checks.{work_of}
use Rattle.server_model.specs.Counting.{after_drawn, counted, counts, drawn_by, given_by, gives, gives_in, set_in}
use Rattle.server_model.specs.Drawing.{numbered}
use Rattle.server_model.specs.Operations.{table_of}
use Rattle.server_model.specs.States.{State, after_number, after_value, counters_from, is_counter_of, next_of}
use Rattle.server_model.specs.LockedRows.Counters.{DrawnSo}
use Rattle.server_model.specs.LockedRows.Coverage.{IsSound, SetsFit}
use Rattle.server_model.proofs.LockedRows.Counters.{numbers_are_counters}
use Rattle.server_model.proofs.LockedRows.Sound.{work_sound}
use Rattle.server_model.proofs.LockedRows.Tests.{are_same}
use Rattle.law_draws.specs.LockedCounters.{LeavesCounter}
use Rattle.law_draws.specs.SmallNumbers.{CountersStaySmall, CountsIn, GivenValuesAreSmall, IsAtMost, one_if}
use Rattle.law_draws.proofs.LockedCounters.{other_stays}
use Rattle.proof_journals.proofs.ValidTables.{defaults_fit}

-- WHAT A KIND STORES

-- the greatest number of a kind that may count
most_signed : (bytes : ℕ) (n : ℕ) → nat_le n (half bytes - 1) ≡ true → after_number n ≤ 9223372036854775808
unfolding half
most_signed bytes n is = by (bytes == 1) (bytes == 2) (bytes == 3) (bytes == 4) is where
  by : (a b c d : Bool) → nat_le n (cond a (2 ^ 7) (cond b (2 ^ 15) (cond c (2 ^ 23) (cond d (2 ^ 31) (2 ^ 63)))) - 1) ≡ true → after_number n ≤ 9223372036854775808
  by true b c d is = grind (arith, nat_tests)
  by false true c d is = grind (arith, nat_tests)
  by false false true d is = grind (arith, nat_tests)
  by false false false true is = grind (arith, nat_tests)
  by false false false false is = grind (arith, nat_tests)

most_unsigned : (bytes : ℕ) (n : ℕ) → is_kind (Int bytes true) ≡ true → is_widest (Int bytes true) ≡ false → nat_le n (2 * half bytes - 1) ≡ true → after_number n ≤ 9223372036854775808
unfolding half
most_unsigned bytes n kind narrow is = by (bytes == 1) (bytes == 2) (bytes == 3) (bytes == 4) (bytes == 8) kind narrow is where
  by : (a b c d e : Bool) → (a || b || c || d || e) ≡ true → (e && true) ≡ false → nat_le n (2 * cond a (2 ^ 7) (cond b (2 ^ 15) (cond c (2 ^ 23) (cond d (2 ^ 31) (2 ^ 63)))) - 1) ≡ true → after_number n ≤ 9223372036854775808
  by true b c d e kind narrow is = grind (arith, nat_tests)
  by false true c d e kind narrow is = grind (arith, nat_tests)
  by false false true d e kind narrow is = grind (arith, nat_tests)
  by false false false true e kind narrow is = grind (arith, nat_tests)
  by false false false false true kind narrow is = absurd (true≢false narrow)
  by false false false false false kind narrow is = absurd (false≢true kind)

-- what fits a column that counts
fits_small : (kind : Kind) (value : Value) → MayCount kind → is_kind kind ≡ true → fits value kind ≡ true → after_value (Some value) ≤ 9223372036854775808
unfolding fits
fits_small (Int bytes false) (Num (pos n)) may kind is = most_signed bytes n (and_parts (int_le (lowest bytes false) (pos n)) _ is).1
fits_small (Int bytes true) (Num (pos n)) may kind is = most_unsigned bytes n kind may (and_parts (int_le (lowest bytes true) (pos n)) _ is).1
fits_small kind value may good is = omega arith

stored_small : (column : Column) (value : Value) → IsColumn column → IsCounter (Some column) → stores value column.kind column.nullable ≡ Ok value → after_value (Some value) ≤ 9223372036854775808
stored_small column value is counts so = fits_small column.kind value counts.0 is.kind (keeps value column.kind column.nullable value so).fit

pub row_small : (place : ℕ) (columns : List Column) (row : List Value) → AllByRecursion IsColumn columns → IsCounter (slice_get columns place) → IsRow columns row → after_value (slice_get row place) ≤ 9223372036854775808
row_small place [] row are counts is = absurd counts
row_small place (column ∷ columns) [] are counts is = absurd is
row_small zero (column ∷ columns) (value ∷ row) are counts is = stored_small column value are.0 counts is.0
row_small (suc place) (column ∷ columns) (value ∷ row) are counts is = row_small place columns row are.1 counts is.1

set_small : (place : ℕ) (columns : List Column) (sets : List (Option Value)) → AllByRecursion IsColumn columns → IsCounter (slice_get columns place) → SetsFit columns sets → after_value (set_in (slice_get sets place)) ≤ 9223372036854775808
set_small place [] sets are counts fit = absurd counts
set_small place (column ∷ columns) [] are counts fit = omega arith
set_small zero (column ∷ columns) (None ∷ sets) are counts fit = omega arith
set_small zero (column ∷ columns) (Some value ∷ sets) are counts fit = stored_small column value are.0 counts fit.0
set_small (suc place) (column ∷ columns) (None ∷ sets) are counts fit = set_small place columns sets are.1 counts fit
set_small (suc place) (column ∷ columns) (Some value ∷ sets) are counts fit = set_small place columns sets are.1 counts fit.1

work_small : (place : ℕ) (columns : List Column) (work : Work) → AllByRecursion IsColumn columns → IsCounter (slice_get columns place) → IsSound columns work → after_value (gives place work) ≤ 9223372036854775808
work_small place columns (works.Insert row) are counts sound = row_small place columns row are counts sound
work_small place columns (works.Replace row) are counts sound = row_small place columns row are counts sound
work_small place columns (works.Update reach (Ok sets)) are counts sound = set_small place columns sets are counts sound
work_small place columns work are counts sound = omega arith

-- *Given values are small*
pub given_values_are_small : GivenValuesAreSmall
given_values_are_small schema place statement is = work_small place schema.columns (work_of schema statement) is.columns is.counts (work_sound schema statement (defaults_fit schema.columns is.columns))

-- WHAT A TURN RAISES

pub more_most : (a b : ℕ) (next : Option ℕ) → a ≤ b → IsAtMost a next → IsAtMost b next
more_most a b None less is = tt
more_most a b (Some next) less is = omega (arith, less, is)

pub raised_most : (name other : List ℕ) (n most : ℕ) (counters : List Counter) → n ≤ most → IsAtMost most (next_of name counters) → IsAtMost most (next_of name (counters_from other n counters))
raised_most name other n most [] less is = tt
raised_most name other n most (one ∷ counters) less is = by (is_counter_of other one) (is_counter_of name one) refl is (raised_most name other n most counters less) where
  by : (a b : Bool) → is_counter_of name one ≡ b → IsAtMost most (option_map (λ counter. counter.next) (cond b (Some one) (find (is_counter_of name) counters))) → (IsAtMost most (next_of name counters) → IsAtMost most (next_of name (counters_from other n counters)))
      → IsAtMost most (next_of name (cond a (record one { next = max one.next n }) one ∷ counters_from other n counters))
  by true true same is rest = rw same (max_most one.next n is less) where
    max_most : (a b : ℕ) → a ≤ most → b ≤ most → max a b ≤ most
    max_most a b one two = omega (arith, one, two)
  by true false same is rest = rw same (rest is)
  by false true same is rest = rw same is
  by false false same is rest = rw same (rest is)

given_most : (answer : Answer) (value : Option Value) → given_by answer value ≤ after_value value
given_most (answers.Ok count) value = by (count == 0) where
  by : (b : Bool) → cond b 0 (after_value value) ≤ after_value value
  by true = omega arith
  by false = omega arith
given_most answer value = omega arith

abbrev DrawnAtMost : ℕ → Option ℕ → Type 0
DrawnAtMost most drawn = after_drawn drawn ≤ most + one_if drawn

-- the table of this name, where it has an AUTO_INCREMENT column, may have it
abbrev pub TableCounts : List ℕ → State → Type 0
TableCounts name state = (table : TableRows) → find_table name state.tables ≡ Some table → (place : ℕ) → auto_place table.schema ≡ Some place → CountsIn table.schema place

module _ (name : List ℕ) (most : ℕ) (state : State) (number : ℕ) (counting : TableCounts name state) (great : 9223372036854775808 ≤ most) (is : IsAtMost most (next_of name state.counters)) where
  -- the number that is drawn is the counter
  drawn_least : (statement : Statement) (answer : Answer) → table_of statement ≡ name → DrawnAtMost most (drawn_by state number (Some (requests.Do statement)) answer)
  drawn_least statement answer own = by (drawn_by state number (Some (requests.Do statement)) answer) refl where
    by : (drawn : Option ℕ) → drawn_by state number (Some (requests.Do statement)) answer ≡ drawn → DrawnAtMost most drawn
    by None none = omega arith
    by (Some n) some =
        let one : DrawnSo state number (Some (requests.Do statement)) answer n = numbers_are_counters state number (Some (requests.Do statement)) answer n some in
        let same : one.statement ≡ statement = cc_of one.statement one.asked in
        let counter : next_of name state.counters ≡ Some n = ap (λ (t : List ℕ). next_of t state.counters) (sym (ap table_of same ∙ own)) ∙ one.counter in
        let least : n ≤ most = subst (IsAtMost most) counter is in
        omega (arith, least) where
          cc_of : (other : Statement) → Some (requests.Do statement) ≡ Some (requests.Do other) → other ≡ statement
          cc_of other both = let it : statement ≡ other = cc in sym it

  own_small : (statement : Statement) (answer : Answer) → table_of statement ≡ name → IsAtMost (most + one_if (drawn_by state number (Some (requests.Do statement)) answer)) (next_of name (counted state number (Some (requests.Do statement)) answer))
  unfolding counted
  own_small statement answer own = by (find_table (table_of statement) state.tables) (drawn_by state number (Some (requests.Do statement)) answer) refl (drawn_least statement answer own) where
    by : (found : Option TableRows) (drawn : Option ℕ) → find_table (table_of statement) state.tables ≡ found → DrawnAtMost most drawn → IsAtMost (most + one_if drawn) (next_of name (counts found drawn statement answer state.counters))
    by None drawn none less = more_most most (most + one_if drawn) (next_of name state.counters) (omega arith) is
    by (Some table) drawn some less =
        let small : given_by answer (gives_in table.schema (auto_place table.schema) (numbered drawn statement)) ≤ most + one_if drawn = given (auto_place table.schema) refl in
        raised_most name table.schema.name _ (most + one_if drawn) (counters_from table.schema.name (after_drawn drawn) state.counters) small
        (raised_most name table.schema.name (after_drawn drawn) (most + one_if drawn) state.counters less (more_most most (most + one_if drawn) (next_of name state.counters) (omega arith) is)) where
          given : (auto : Option ℕ) → auto_place table.schema ≡ auto → given_by answer (gives_in table.schema auto (numbered drawn statement)) ≤ most + one_if drawn
          given None none = let first = given_most answer None in omega (arith, first)
          given (Some place) at =
              let first = given_most answer (gives place (work_of table.schema (numbered drawn statement))) in
              let second = given_values_are_small table.schema place (numbered drawn statement) (counting table (ap (λ (t : List ℕ). find_table t state.tables) (sym own) ∙ some) place at) in
              omega (arith, first, second, great)

  pub asked_small : (asks : Option Request) (answer : Answer) → LeavesCounter name asks → IsAtMost (most + one_if (drawn_by state number asks answer)) (next_of name (counted state number asks answer))
  unfolding counted
  asked_small None answer leaves = more_most most _ (next_of name state.counters) (omega arith) is
  asked_small (Some request) answer leaves = by request leaves where
    stays : (request : Request) → next_of name (counted state number (Some request) answer) ≡ next_of name state.counters → IsAtMost (most + one_if (drawn_by state number (Some request) answer)) (next_of name (counted state number (Some request) answer))
    stays request same = more_most most _ (next_of name (counted state number (Some request) answer)) (omega arith) (subst (IsAtMost most) (sym same) is)

    by : (request : Request) → LeavesCounter name (Some request) → IsAtMost (most + one_if (drawn_by state number (Some request) answer)) (next_of name (counted state number (Some request) answer))
    by (requests.Do statement) leaves = at (bytes_eq name (table_of statement)) refl where
      at : (b : Bool) → bytes_eq name (table_of statement) ≡ b → IsAtMost (most + one_if (drawn_by state number (Some (requests.Do statement)) answer)) (next_of name (counted state number (Some (requests.Do statement)) answer))
      at true here = own_small statement answer (sym (are_same name (table_of statement) here))
      at false off = stays (requests.Do statement) (other_stays name state number (requests.Do statement) answer leaves (λ other same. let one : statement ≡ other = cc in ap (λ (s : Statement). bytes_eq name (table_of s)) (sym one) ∙ off))
    by request leaves = stays request (other_stays name state number request answer leaves (λ statement same. absurd cc))

-- *Counters stay small*
pub counters_stay_small : CountersStaySmall
counters_stay_small name schema place most state number asks answer has auto counts_in leaves great is = asked_small name most state number counting great is asks answer leaves where
  counting : TableCounts name state
  counting table found other at =
      let both : Some table.schema ≡ Some schema = sym (ap (option_map (λ t. t.schema)) found) ∙ has in
      let it : table.schema ≡ schema = cc in
      let places : Some place ≡ Some other = sym auto ∙ ap auto_place (sym it) ∙ at in
      let same : place ≡ other = cc in
      subst (λ (s : Schema). CountsIn s other) (sym it) (subst (CountsIn schema) same counts_in)
