-- What the INSERT of an attempt's hint row writes: one row at most, whose number is the attempt's; and that the rows of notes, which
-- the inspector writes by REPLACE, are no hint rows.
use Rattle.base_values.specs.declared.mysql_errors.TheConstants.{ER_DUP_ENTRY, ER_WRONG_VALUE_COUNT_ON_ROW}
use Rattle.std.proofs.Common.{◌≡◌, ◌≤◌, ◌==◌, ℕ, ℤ, ◌+◌, zero, suc, pos, Bool, true, false, cond, List, [], ◌∷◌, ◌++◌, length, map, take, Option, Some, None, Result, Ok, Err, refl, sym, ap, ◌∙◌, subst, arith}
use Rattle.std.specs.Prelude.{int_le, nat_lt, codes, ◌&&◌}
use Rattle.std.specs.Fmt.{signed_decimal}
use Rattle.std.specs.Option.{option_map}
use Rattle.std.specs.List.{AllByRecursion, list_any}
use Rattle.std.specs.Str.{bytes_eq}
use Rattle.std.proofs.lemmas.Bool.{true≢false}
use Rattle.base_values.specs.declared.unfit.Unfit.{Unfit}
use Rattle.base_values.specs.declared.unfit.Unfit.TheVariants as unfit
use Rattle.base_values.specs.declared.kind.Kind.{Kind}
use Rattle.base_values.specs.declared.kind.Kind.TheVariants.{Int, VarChar, VarBinary}
use Rattle.base_values.specs.declared.value.Value.{Value}
use Rattle.base_values.specs.declared.value.Value.TheVariants.{Num, Text, Blob}
use Rattle.base_values.specs.StoredValues.{as_number, bytes_within, character_count, highest, in_range, lowest, stores, text_number, text_within}
use Rattle.base_values.specs.declared.gho_schema.schema.Column.{Column}
use Rattle.base_values.specs.declared.gho_schema.schema.Schema.{Schema}
use Rattle.base_values.specs.GhoSchema.Tables.{clash}
use Rattle.base_values.specs.declared.event.Change.{Change}
use Rattle.base_values.specs.declared.event.Change.TheVariants.{Delete, Write}
use Rattle.base_values.specs.declared.event.RowEvent.{RowEvent}
use Rattle.table_store.specs.Databases.{Database, TableRows, find_table}
use Rattle.base_script.specs.declared.statement.Statement.{Statement}
use Rattle.base_script.specs.declared.statement.Statement.TheVariants as statements
use Rattle.server_model.specs.declared.answer.Answer.{Answer}
use Rattle.server_model.specs.declared.answer.Answer.TheVariants as answers
use Rattle.server_model.specs.declared.work.StatementResult.{StatementResult}
use Rattle.server_model.specs.declared.work.Work.TheVariants as works
use Rattle.server_model.specs.Checks.{◌>>=◌, beside, new_row, or_refused, places_from, row_from, unless, value_at, work_of}
use Rattle.server_model.specs.Operations.{events_of, operation_of, operation_result, result_in}
use Rattle.server_model.specs.StatementResults.{displaced, only, tells}
use Rattle.tool_changelog.specs.Checkpoints.{checkpoint_row, checkpoint_value}
use Rattle.tool_changelog.specs.Heartbeats.{heartbeat_row}
use Rattle.tool_changelog.specs.Hints.{hint_if, hint_in, hint_of, hint_row, last_hint, or_last}
use Rattle.base_values.specs.ToolNames.{log_name}
use Rattle.proof_journals.proofs.Machine.Inspecting.{IsNoteRow, beats_so, checks_so}
use Rattle.proof_journals.proofs.Sentry.Hinting.{HintsBelow}

-- THE FIRST VALUE

-- where it is a number, it is this one
abbrev Numbers : ℕ → Value → Type 0
Numbers n value = (k : ℕ) → value ≡ Num (pos k) → k ≡ n

stored_number : (n : ℕ) (kind : Kind) (nullable : Bool) (value : Value) → stores (Num (pos n)) kind nullable ≡ Ok value → Numbers n value
unfolding stores in_range text_within bytes_within
stored_number n (Int bytes unsigned) nullable value is k same = by (int_le (lowest bytes unsigned) (pos n) && int_le (pos n) (highest bytes unsigned)) is where
  by : (b : Bool) → cond b (Ok (Num (pos n))) (Err unfit.Range) ≡ Ok value → k ≡ n
  by true is = let one : Num (pos n) ≡ value = cc in let two : Num (pos n) ≡ Num (pos k) = one ∙ same in cc
  by false is = absurd cc
stored_number n (VarChar limit) nullable value is k same = by (Rattle.std.specs.Prelude.nat_le (character_count (signed_decimal (pos n))) limit) is where
  by : (b : Bool) → cond b (Ok (Text (signed_decimal (pos n)))) (Err unfit.Length) ≡ Ok value → k ≡ n
  by true is = let one : Text (signed_decimal (pos n)) ≡ value = cc in let two : Text (signed_decimal (pos n)) ≡ Num (pos k) = one ∙ same in absurd cc
  by false is = absurd cc
stored_number n (VarBinary limit) nullable value is k same = by (Rattle.std.specs.Prelude.nat_le (length (signed_decimal (pos n))) limit) is where
  by : (b : Bool) → cond b (Ok (Blob (signed_decimal (pos n)))) (Err unfit.Length) ≡ Ok value → k ≡ n
  by true is = let one : Blob (signed_decimal (pos n)) ≡ value = cc in let two : Blob (signed_decimal (pos n)) ≡ Num (pos k) = one ∙ same in absurd cc
  by false is = absurd cc

-- of a row, where it has a first value
abbrev Begins : ℕ → List Value → Type 0
Begins n row = (value : Value) (rest : List Value) → row ≡ value ∷ rest → Numbers n value

from_first : (n : ℕ) (kind : Kind) (nullable : Bool) (stored : Result Value Unfit) → stores (Num (pos n)) kind nullable ≡ stored → (others : Result (List Value) Answer) (row : List Value) → (value_at 0 stored >>= (λ value. others >>= (λ rest. Ok (value ∷ rest)))) ≡ Ok row → Begins n row
from_first n kind nullable (Ok value) stored (Ok others) row is first rest same = let one : value ∷ others ≡ row = cc in let two : value ∷ others ≡ first ∷ rest = one ∙ same in let three : value ≡ first = cc in stored_number n kind nullable first (stored ∙ ap Ok three)
from_first n kind nullable (Ok value) stored (Err refusal) row is first rest same = absurd cc
from_first n kind nullable (Err reason) stored others row is first rest same = absurd cc

row_begins : (n : ℕ) (values : List Value) (columns : List Column) (row : List Value) → row_from 0 columns (places_from 0 columns) (Num (pos n) ∷ values) ≡ Ok row → Begins n row
unfolding row_from beside
row_begins n values [] row is first rest same = let one : [] ≡ row = cc in let two : [] ≡ first ∷ rest = one ∙ same in absurd cc
row_begins n values (column ∷ columns) row is first rest same = from_first n column.kind column.nullable (stores (Num (pos n)) column.kind column.nullable) refl (row_from 1 columns (0 ∷ places_from 1 columns) (Num (pos n) ∷ values)) row is first rest same

new_begins : (n : ℕ) (values : List Value) (schema : Schema) (row : List Value) → new_row schema None (Num (pos n) ∷ values) ≡ Ok row → Begins n row
unfolding new_row
new_begins n values schema row is = by (length (places_from 0 schema.columns) == length (Num (pos n) ∷ values)) is where
  by : (b : Bool) → (unless b ER_WRONG_VALUE_COUNT_ON_ROW >>= (λ done. row_from 0 schema.columns (places_from 0 schema.columns) (Num (pos n) ∷ values))) ≡ Ok row → Begins n row
  by true is = row_begins n values schema.columns row is
  by false is = absurd cc

-- THE HINT

hint_small : (n most last : ℕ) (row : List Value) → Begins n row → n ≤ most → last ≤ most → or_last last (hint_of row) ≤ most
hint_small n most last (Num (pos k) ∷ (Text hint ∷ (Text value ∷ []))) begins small less = by (nat_lt 0 k && bytes_eq hint (codes "cut-over") && bytes_eq value (signed_decimal (pos k))) where
  by : (b : Bool) → or_last last (hint_if b k) ≤ most
  by true = let one : k ≡ n = begins (Num (pos k)) (Text hint ∷ (Text value ∷ [])) refl k refl in omega (arith, one, small)
  by false = less
hint_small n most last row begins small less = less

hint_up : (n last : ℕ) (row : List Value) → Begins n row → last ≤ n → last ≤ or_last last (hint_of row)
hint_up n last (Num (pos k) ∷ (Text hint ∷ (Text value ∷ []))) begins less = by (nat_lt 0 k && bytes_eq hint (codes "cut-over") && bytes_eq value (signed_decimal (pos k))) where
  by : (b : Bool) → last ≤ or_last last (hint_if b k)
  by true = let one : k ≡ n = begins (Num (pos k)) (Text hint ∷ (Text value ∷ [])) refl k refl in omega (arith, one, less)
  by false = omega arith
hint_up n last row begins less = omega arith

-- RISING NUMBERS

-- the hint behind one event more
abbrev pub next_hint : List ℕ → ℕ → RowEvent → ℕ
next_hint t last event = cond (bytes_eq event.table (log_name t)) (hint_in last event.change) last

-- no hint row's number is below the one before
abbrev pub Rises : List ℕ → ℕ → List RowEvent → Type 0
Rises t last [] = Unit {0}
Rises t last (event ∷ log) = (last ≤ next_hint t last event) × Rises t (next_hint t last event) log

pub rises_both : (t : List ℕ) (last : ℕ) (some others : List RowEvent) → Rises t last some → Rises t (last_hint t last some) others → Rises t last (some ++ others)
rises_both t last [] others one two = two
rises_both t last (event ∷ some) others one two = (one.0, rises_both t (next_hint t last event) some others one.1 two)

away_same : (t : List ℕ) (last : ℕ) (event : RowEvent) → bytes_eq event.table (log_name t) ≡ false → next_hint t last event ≡ last
away_same t last event away = rw away refl

pub away_hint : (t : List ℕ) (last : ℕ) (events : List RowEvent) → AllByRecursion (λ event. bytes_eq event.table (log_name t) ≡ false) events → last_hint t last events ≡ last
away_hint t last [] away = refl
away_hint t last (event ∷ events) away = ap (λ (n : ℕ). last_hint t n events) (away_same t last event away.0) ∙ away_hint t last events away.1

pub rises_away : (t : List ℕ) (last : ℕ) (events : List RowEvent) → AllByRecursion (λ event. bytes_eq event.table (log_name t) ≡ false) events → Rises t last events
rises_away t last [] away = tt
rises_away t last (event ∷ events) away =
    let same : next_hint t last event ≡ last = away_same t last event away.0 in (omega (arith, same), subst (λ (n : ℕ). Rises t n events) (sym same) (rises_away t last events away.1))

pub rises_up : (t : List ℕ) (last : ℕ) (log : List RowEvent) (count : ℕ) → Rises t last log → last ≤ last_hint t last (take count log)
rises_up t last log zero rises = omega arith
rises_up t last [] (suc count) rises = omega arith
rises_up t last (event ∷ log) (suc count) rises = let first = rises.0 in let rest : next_hint t last event ≤ last_hint t (next_hint t last event) (take count log) = rises_up t (next_hint t last event) log count rises.1 in omega (arith, first, rest)

-- *Numbers rise*
pub rises_take : (t : List ℕ) (last : ℕ) (log : List RowEvent) (one other : ℕ) → one ≤ other → Rises t last log → last_hint t last (take one log) ≤ last_hint t last (take other log)
rises_take t last log zero other less rises = rises_up t last log other rises
rises_take t last log (suc one) zero less rises = absurd (omega (arith, less))
rises_take t last [] (suc one) (suc other) less rises = omega arith
rises_take t last (event ∷ log) (suc one) (suc other) less rises = rises_take t (next_hint t last event) log one other (omega (arith, less)) rises.1

row_rises : (t name : List ℕ) (n : ℕ) (row : List Value) (last : ℕ) → Begins n row → last ≤ n → Rises t last (record { table = name; change = Write row } ∷ [])
row_rises t name n row last begins less = (by (bytes_eq name (log_name t)), tt) where
  by : (b : Bool) → last ≤ cond b (hint_in last (Write row)) last
  by true = hint_up n last row begins less
  by false = omega arith

-- THE STATEMENT

-- the hint row of an attempt is inserted
abbrev pub hint_insert : List ℕ → ℕ → Statement
hint_insert table attempt = statements.Insert (log_name table) None (hint_row attempt) None

-- nothing is written; or this attempt's row, with ok 1
pub data Inserts (t : List ℕ) (n most : ℕ) (result : StatementResult) : Type 0 where
  none_so : result.events ≡ [] → Inserts t n most result
  one_so : HintsBelow t most result.events → ((last : ℕ) → last ≤ n → Rises t last result.events) → result.answer ≡ answers.Ok 1 → Inserts t n most result

row_inserts : (t name : List ℕ) (n most : ℕ) (schema : Schema) (rows : List (List Value)) (row : List Value) → Begins n row → n ≤ most
    → Inserts t n most (record { answer = (tells schema rows (works.Insert row)).answer; events = events_of name (tells schema rows (works.Insert row)).changes })
unfolding tells
row_inserts t name n most schema rows row begins small = by (list_any (clash schema.uniques row) rows) where
  reported : Bool → Rattle.server_model.specs.StatementResults.TableResult
  reported b = cond b (only (Rattle.server_model.specs.Answers.refuses ER_DUP_ENTRY)) (record { answer = answers.Ok 1; changes = Write row ∷ [] })

  by : (b : Bool) → Inserts t n most (record { answer = (reported b).answer; events = events_of name (reported b).changes })
  by true = none_so refl
  by false = one_so ((λ named last less. hint_small n most last row begins small less), tt) (λ last less. row_rises t name n row last begins less) refl

made_inserts : (t name : List ℕ) (n most : ℕ) (schema : Schema) (rows : List (List Value)) (made : Result (List Value) Answer) → ((row : List Value) → made ≡ Ok row → Begins n row) → n ≤ most
    → Inserts t n most (record { answer = (tells schema rows (or_refused made works.Insert)).answer; events = events_of name (tells schema rows (or_refused made works.Insert)).changes })
unfolding tells
made_inserts t name n most schema rows (Ok row) begins small = row_inserts t name n most schema rows row (begins row refl) small
made_inserts t name n most schema rows (Err refusal) begins small = none_so (refused refusal) where
  refused : (answer : Answer) → events_of name (tells schema rows (works.Refuse answer)).changes ≡ []
  refused answer = refl

-- *What the INSERT of a hint row writes*
pub hint_inserts : (t : List ℕ) (attempt most : ℕ) (seen : Database) → attempt ≤ most → Inserts t attempt most (operation_result seen (operation_of (hint_insert t attempt)))
unfolding operation_result work_of hint_row
hint_inserts t attempt most seen small = by (find_table (log_name t) seen) where
  by : (found : Option TableRows) → Inserts t attempt most (result_in (operation_of (hint_insert t attempt)) found)
  by None = none_so refl
  by (Some table) =
      made_inserts t (log_name t) attempt most table.schema table.rows (new_row table.schema None (hint_row attempt)) (λ row is. new_begins attempt _ table.schema row is) small

-- LISTS OF EVENTS

pub below_both : (t : List ℕ) (most : ℕ) (some others : List RowEvent) → HintsBelow t most some → HintsBelow t most others → HintsBelow t most (some ++ others)
below_both t most [] others one two = two
below_both t most (event ∷ some) others one two = (one.0, below_both t most some others one.1 two)

pub none_below : (t : List ℕ) (most : ℕ) (events : List RowEvent) → AllByRecursion (λ event. bytes_eq event.table (log_name t) ≡ false) events → HintsBelow t most events
none_below t most [] away = tt
none_below t most (event ∷ events) away = ((λ named last less. absurd (true≢false (sym named ∙ away.0))), none_below t most events away.1)

or_more : (row : List Value) (most more : ℕ) → ((last : ℕ) → last ≤ most → or_last last (hint_of row) ≤ most) → most ≤ more → (last : ℕ) → last ≤ more → or_last last (hint_of row) ≤ more
or_more row most more small less last below = by (hint_of row) small where
  by : (hint : Option ℕ) → ((last : ℕ) → last ≤ most → or_last last hint ≤ most) → or_last last hint ≤ more
  by None small = below
  by (Some k) small = let one : k ≤ most = small 0 (omega arith) in omega (arith, one, less)

in_more : (change : Change) (most more : ℕ) → ((last : ℕ) → last ≤ most → hint_in last change ≤ most) → most ≤ more → (last : ℕ) → last ≤ more → hint_in last change ≤ more
in_more (Write row) most more small less last below = or_more row most more small less last below
in_more change most more small less last below = below

pub below_more : (t : List ℕ) (most more : ℕ) (events : List RowEvent) → most ≤ more → HintsBelow t most events → HintsBelow t more events
below_more t most more [] less below = tt
below_more t most more (event ∷ events) less below = ((λ named. in_more event.change most more (below.0 named) less), below_more t most more events less below.1)

-- EVENTS WITHOUT A HINT

-- behind each of them the last hint is what it was
abbrev pub NoHint : List ℕ → List RowEvent → Type 0
NoHint t events = AllByRecursion (λ event. (last : ℕ) → next_hint t last event ≡ last) events

pub away_none : (t : List ℕ) (events : List RowEvent) → AllByRecursion (λ event. bytes_eq event.table (log_name t) ≡ false) events → NoHint t events
away_none t [] away = tt
away_none t (event ∷ events) away = ((λ last. away_same t last event away.0), away_none t events away.1)

pub none_both : (t : List ℕ) (some others : List RowEvent) → NoHint t some → NoHint t others → NoHint t (some ++ others)
none_both t [] others one two = two
none_both t (event ∷ some) others one two = (one.0, none_both t some others one.1 two)

pub none_rises : (t : List ℕ) (last : ℕ) (events : List RowEvent) → NoHint t events → Rises t last events
none_rises t last [] none = tt
none_rises t last (event ∷ events) none =
    let same : next_hint t last event ≡ last = none.0 last in (omega (arith, same), subst (λ (n : ℕ). Rises t n events) (sym same) (none_rises t last events none.1))

pub none_most : (t : List ℕ) (most : ℕ) (events : List RowEvent) → NoHint t events → HintsBelow t most events
none_most t most [] none = tt
none_most t most (event ∷ events) none = (first, none_most t most events none.1) where
  first : bytes_eq event.table (log_name t) ≡ true → (last : ℕ) → last ≤ most → hint_in last event.change ≤ most
  first named last less = let same : hint_in last event.change ≡ last = ap (λ (b : Bool). cond b (hint_in last event.change) last) (sym named) ∙ none.0 last in omega (arith, same, less)

pub none_last : (t : List ℕ) (last : ℕ) (events : List RowEvent) → NoHint t events → last_hint t last events ≡ last
none_last t last [] none = refl
none_last t last (event ∷ events) none = ap (λ (n : ℕ). last_hint t n events) (none.0 last) ∙ none_last t last events none.1

-- A ROW WHOSE SECOND VALUE IS ANOTHER TEXT

-- where it is a text, it is this one
abbrev TextIs : List ℕ → Value → Type 0
TextIs word value = (text : List ℕ) → value ≡ Text text → text ≡ word

stored_text : (word : List ℕ) (kind : Kind) (nullable : Bool) (value : Value) → stores (Text word) kind nullable ≡ Ok value → TextIs word value
unfolding stores in_range text_within bytes_within
stored_text word (Int bytes unsigned) nullable value is text same = by (text_number word) is where
  ranged : (n : ℤ) (b : Bool) → cond b (Ok (Num n)) (Err unfit.Range) ≡ Ok value → text ≡ word
  ranged n true is = let one : Num n ≡ value = cc in let two : Num n ≡ Text text = one ∙ same in absurd cc
  ranged n false is = absurd cc

  by : (number : Option ℤ) → as_number (in_range bytes unsigned) number ≡ Ok value → text ≡ word
  by None is = absurd cc
  by (Some n) is = ranged n (int_le (lowest bytes unsigned) n && int_le n (highest bytes unsigned)) is
stored_text word (VarChar limit) nullable value is text same = by (Rattle.std.specs.Prelude.nat_le (character_count word) limit) is where
  by : (b : Bool) → cond b (Ok (Text word)) (Err unfit.Length) ≡ Ok value → text ≡ word
  by true is = let one : Text word ≡ value = cc in let two : Text word ≡ Text text = one ∙ same in let three : word ≡ text = cc in sym three
  by false is = absurd cc
stored_text word (VarBinary limit) nullable value is text same = by (Rattle.std.specs.Prelude.nat_le (length word) limit) is where
  by : (b : Bool) → cond b (Ok (Blob word)) (Err unfit.Length) ≡ Ok value → text ≡ word
  by true is = let one : Blob word ≡ value = cc in let two : Blob word ≡ Text text = one ∙ same in absurd cc
  by false is = absurd cc

-- of a row, where it has a second value
abbrev SecondIs : List ℕ → List Value → Type 0
SecondIs word row = (first second : Value) (rest : List Value) → row ≡ first ∷ second ∷ rest → TextIs word second

one_alone : (word : List ℕ) (stored : Result Value Unfit) (row : List Value) → (value_at 0 stored >>= (λ value. Ok (value ∷ []))) ≡ Ok row → SecondIs word row
one_alone word (Ok value) row is first second rest same = let one : value ∷ [] ≡ row = cc in let two : value ∷ [] ≡ first ∷ second ∷ rest = one ∙ same in absurd cc
one_alone word (Err reason) row is first second rest same = absurd cc

from_two : (word : List ℕ) (one two : Result Value Unfit) → ((value : Value) → two ≡ Ok value → TextIs word value) → (others : Result (List Value) Answer) (row : List Value)
    → (value_at 0 one >>= (λ value. (value_at 1 two >>= (λ next. others >>= (λ rest. Ok (next ∷ rest)))) >>= (λ more. Ok (value ∷ more)))) ≡ Ok row → SecondIs word row
from_two word (Ok value) (Ok next) texts (Ok others) row is first second rest same =
    let made : value ∷ next ∷ others ≡ row = cc in let both : value ∷ next ∷ others ≡ first ∷ second ∷ rest = made ∙ same in let own : next ≡ second = cc in texts second (ap Ok own)
from_two word (Ok value) (Ok next) texts (Err refusal) row is first second rest same = absurd cc
from_two word (Ok value) (Err reason) texts others row is first second rest same = absurd cc
from_two word (Err reason) two texts others row is first second rest same = absurd cc

row_second : (word : List ℕ) (value : Value) (values : List Value) (columns : List Column) (row : List Value) → row_from 0 columns (places_from 0 columns) (value ∷ Text word ∷ values) ≡ Ok row → SecondIs word row
unfolding row_from beside
row_second word value values [] row is first second rest same = let one : [] ≡ row = cc in let two : [] ≡ first ∷ second ∷ rest = one ∙ same in absurd cc
row_second word value values (column ∷ []) row is first second rest same = one_alone word (stores value column.kind column.nullable) row is first second rest same
row_second word value values (column ∷ next ∷ columns) row is first second rest same =
    from_two word (stores value column.kind column.nullable) (stores (Text word) next.kind next.nullable) (λ stored are. stored_text word next.kind next.nullable stored are) (row_from 2 columns (0 ∷ 1 ∷ places_from 2 columns) (value ∷ Text word ∷ values)) row is first second rest same

new_second : (word : List ℕ) (value : Value) (values : List Value) (schema : Schema) (row : List Value) → new_row schema None (value ∷ Text word ∷ values) ≡ Ok row → SecondIs word row
unfolding new_row
new_second word value values schema row is = by (length (places_from 0 schema.columns) == length (value ∷ Text word ∷ values)) is where
  by : (b : Bool) → (unless b ER_WRONG_VALUE_COUNT_ON_ROW >>= (λ done. row_from 0 schema.columns (places_from 0 schema.columns) (value ∷ Text word ∷ values))) ≡ Ok row → SecondIs word row
  by true is = row_second word value values schema.columns row is
  by false is = absurd cc

-- it is no hint row
second_none : (word : List ℕ) → bytes_eq word (codes "cut-over") ≡ false → (row : List Value) → SecondIs word row → hint_of row ≡ None
second_none word other (Num (pos k) ∷ (Text hint ∷ (Text value ∷ []))) second =
    by (nat_lt 0 k) (bytes_eq hint (codes "cut-over")) (ap (λ (w : List ℕ). bytes_eq w (codes "cut-over")) (second (Num (pos k)) (Text hint) (Text value ∷ []) refl hint refl) ∙ other) where
      by : (a b : Bool) → b ≡ false → hint_if (a && b && bytes_eq value (signed_decimal (pos k))) k ≡ None
      by a true is = absurd (true≢false is)
      by true false is = refl
      by false false is = refl
second_none word other row second = refl

-- THE REPLACE OF A NOTE'S ROW

write_none : (t name : List ℕ) (row : List Value) → hint_of row ≡ None → (last : ℕ) → next_hint t last (record { table = name; change = Write row }) ≡ last
write_none t name row none last = by (bytes_eq name (log_name t)) where
  by : (b : Bool) → cond b (hint_in last (Write row)) last ≡ last
  by true = ap (or_last last) none
  by false = refl

delete_none : (t name : List ℕ) (row : List Value) (last : ℕ) → next_hint t last (record { table = name; change = Delete row }) ≡ last
delete_none t name row last = by (bytes_eq name (log_name t)) where
  by : (b : Bool) → cond b last last ≡ last
  by true = refl
  by false = refl

replaced_none : (t name : List ℕ) (row : List Value) (gone : List (List Value)) → hint_of row ≡ None → NoHint t (events_of name (map Delete gone ++ Write row ∷ []))
replaced_none t name row [] none = (write_none t name row none, tt)
replaced_none t name row (old ∷ gone) none = (delete_none t name old, replaced_none t name row gone none)

made_none : (t name : List ℕ) (schema : Schema) (rows : List (List Value)) (made : Result (List Value) Answer) → ((row : List Value) → made ≡ Ok row → hint_of row ≡ None) → NoHint t (events_of name (tells schema rows (or_refused made works.Replace)).changes)
unfolding tells
made_none t name schema rows (Ok row) none = replaced_none t name row (displaced schema row rows) (none row refl)
made_none t name schema rows (Err refusal) none = refused refusal where
  refused : (answer : Answer) → NoHint t (events_of name (tells schema rows (works.Refuse answer)).changes)
  refused answer = tt

-- a note's row is put into the changelog
abbrev pub note_replace : List ℕ → List Value → Statement
note_replace table row = statements.Replace (log_name table) None row None

-- its second value is another text than a hint row's
record IsWorded (row : List Value) : Type 0 where
  first : Value
  word : List ℕ
  rest : List Value
  other : bytes_eq word (codes "cut-over") ≡ false
  is : row ≡ first ∷ Text word ∷ rest

note_worded : (row : List Value) → IsNoteRow row → IsWorded row
unfolding heartbeat_row checkpoint_row
note_worded row (beats_so number is) = record { first = Num (pos (1000000 + number)); word = codes "heartbeat"; rest = Text (signed_decimal (pos number)) ∷ []; other = refl; is = is }
note_worded row (checks_so position reach is) = by (checkpoint_value position reach) is where
  by : (value : Option Value) → option_map (λ value. Num (pos 0) ∷ Text (codes "checkpoint") ∷ value ∷ []) value ≡ Some row → IsWorded row
  by None none = absurd cc
  by (Some value) some = let one : Num (pos 0) ∷ Text (codes "checkpoint") ∷ value ∷ [] ≡ row = cc in record { first = Num (pos 0); word = codes "checkpoint"; rest = value ∷ []; other = refl; is = sym one }

worded_none : (t : List ℕ) (value : Value) (word : List ℕ) (values : List Value) (seen : Database) → bytes_eq word (codes "cut-over") ≡ false → NoHint t (operation_result seen (operation_of (note_replace t (value ∷ Text word ∷ values)))).events
unfolding operation_result work_of
worded_none t value word values seen other = by (find_table (log_name t) seen) where
  by : (found : Option TableRows) → NoHint t (result_in (operation_of (note_replace t (value ∷ Text word ∷ values))) found).events
  by None = tt
  by (Some table) = made_none t (log_name t) table.schema table.rows (new_row table.schema None (value ∷ Text word ∷ values)) (λ row is. second_none word other row (new_second word value values table.schema row is))

-- *A note's row is no hint row*
pub note_none : (t : List ℕ) (row : List Value) (seen : Database) → IsNoteRow row → NoHint t (operation_result seen (operation_of (note_replace t row))).events
note_none t row seen kind =
    let worded : IsWorded row = note_worded row kind in
    subst (λ (r : List Value). NoHint t (operation_result seen (operation_of (note_replace t r))).events) (sym worded.is) (worded_none t worded.first worded.word worded.rest seen worded.other)
