-- What is judged of a trace is *serial*: a history that leads from the one database to the other has no wrong turn, and reaches
-- that database; and one without a wrong turn leads to what it reaches.
use Rattle.std.proofs.Common.{◌≡◌, ℕ, ◌==◌, Bool, true, false, List, [], ◌∷◌, ◌++◌, length, map, cond, Option, Some, None, refl, sym, ap, ◌∙◌, subst, arith}
use Rattle.std.specs.Ordering.{is_eq}
use Rattle.std.proofs.lemmas.Bool.Decides.{nat_tests}
use Rattle.std.proofs.lemmas.Cmp.{tied_itself}
use Rattle.std.proofs.lemmas.Bool.{and_parts}
use Rattle.base_values.specs.declared.value.Value.{Value}
use Rattle.base_values.proofs.Orders.{keys_total, tied_keys}
use Rattle.table_store.specs.Databases.{Database}
use Rattle.table_store.proofs.Orders.{is_Equal}
use Rattle.server_model.specs.declared.transaction.Reply.{Reply}
use Rattle.server_model.specs.declared.transaction.Reply.TheVariants.{Ok, Error, Rows}
use Rattle.server_model.specs.Alone.{alone}
use Rattle.server_model.specs.Rows.{same_row}
use Rattle.plan_data.specs.PlanData.{PlanData}
use Rattle.tool_program.specs.JournalWords.Histories.{Alter}
use Rattle.tool_program.specs.JournalWords.Serials.{Serial, altered_database}
use Rattle.run_audit.specs.Audits.{Judged, Ended, Altered, item_of, same_rows, same_reply, mismatches, after_alter, or_these, wrong_turns, tables_reached}

same_row_itself : (row : List Value) → same_row row row ≡ true
same_row_itself row = ap is_eq (tied_itself keys_total row)

same_rows_itself : (rows : List (List Value)) → same_rows rows rows ≡ true
unfolding same_rows
same_rows_itself [] = refl
same_rows_itself (row ∷ rows) = rw (same_row_itself row) (same_rows_itself rows)

pub number_itself : (n : ℕ) → (n == n) ≡ true
number_itself n = grind (arith, nat_tests)

same_reply_itself : (reply : Reply) → same_reply reply reply ≡ true
same_reply_itself (Ok count) = number_itself count
same_reply_itself (Error number) = number_itself number
same_reply_itself (Rows rows) = same_rows_itself rows

-- replies that are the same have no mismatch
pub no_mismatch : (turns : List ℕ) (given : List Reply) → mismatches turns given given ≡ []
unfolding mismatches
no_mismatch [] [] = refl
no_mismatch [] (reply ∷ given) = refl
no_mismatch (turn ∷ turns) [] = refl
no_mismatch (turn ∷ turns) (reply ∷ given) = rw (same_reply_itself reply) (no_mismatch turns given)

-- a serial history has no wrong turn, and reaches its last database
pub serial_is_judged : (plan : PlanData) (before : Database) (items : List Judged) (after : Database) → Serial plan before (map item_of items) after → (wrong_turns plan before items ≡ []) × (tables_reached plan before items ≡ after)
unfolding wrong_turns tables_reached
serial_is_judged plan before [] after is = (refl, sym is)
serial_is_judged plan before (Ended past turns ∷ items) after is =
    let rest : Serial plan (alone before past.txn.lines).tables (map item_of items) after = subst (λ (tables : Database). Serial plan tables (map item_of items) after) is.1.1 is.2 in
    let others = serial_is_judged plan (alone before past.txn.lines).tables items after rest in
    let here : mismatches turns past.replies (alone before past.txn.lines).replies ≡ [] = ap (mismatches turns past.replies) (sym is.1.0) ∙ no_mismatch turns past.replies in
    (ap (λ (wrong : List ℕ). wrong ++ wrong_turns plan (alone before past.txn.lines).tables items) here ∙ others.0, others.1)
serial_is_judged plan before (Altered turn ∷ items) after is =
    let others = serial_is_judged plan is.0 items after is.2 in
    (ap (after_alter turn (λ (tables : Database). wrong_turns plan tables items)) is.1 ∙ others.0, ap (or_these (λ (tables : Database). tables_reached plan tables items) before) is.1 ∙ others.1)

-- ---- the other way

-- there are as many turns as replies, and as many as the transactions have alone
abbrev pub AreTimed : PlanData → Database → List Judged → Type 0
AreTimed plan tables [] = Unit {0}
AreTimed plan tables (Ended past turns ∷ items) =
    (length turns ≡ length past.replies) × (length past.replies ≡ length (alone tables past.txn.lines).replies) × AreTimed plan (alone tables past.txn.lines).tables items
AreTimed plan tables (Altered turn ∷ items) = (after : Database) → altered_database plan tables ≡ Some after → AreTimed plan after items

same_rows_are : (rows others : List (List Value)) → same_rows rows others ≡ true → rows ≡ others
unfolding same_rows
same_rows_are [] [] same = refl
same_rows_are [] (other ∷ others) same = absurd cc
same_rows_are (row ∷ rows) [] same = absurd cc
same_rows_are (row ∷ rows) (other ∷ others) same =
    let one : row ≡ other = tied_keys row other (is_Equal _ (and_parts (same_row row other) (same_rows rows others) same).0) in
    let rest : rows ≡ others = same_rows_are rows others (and_parts (same_row row other) (same_rows rows others) same).1 in
    ap (λ (first : List Value). first ∷ rows) one ∙ ap (λ (all : List (List Value)). other ∷ all) rest

same_numbers : (a b : ℕ) → (a == b) ≡ true → a ≡ b
same_numbers a b same = grind (arith, nat_tests)

same_reply_is : (reply other : Reply) → same_reply reply other ≡ true → reply ≡ other
same_reply_is (Ok count) (Ok other) same = ap (λ (n : ℕ). Ok n) (same_numbers count other same)
same_reply_is (Ok count) (Error other) same = absurd cc
same_reply_is (Ok count) (Rows other) same = absurd cc
same_reply_is (Error number) (Ok other) same = absurd cc
same_reply_is (Error number) (Error other) same = ap (λ (n : ℕ). Error n) (same_numbers number other same)
same_reply_is (Error number) (Rows other) same = absurd cc
same_reply_is (Rows rows) (Ok other) same = absurd cc
same_reply_is (Rows rows) (Error other) same = absurd cc
same_reply_is (Rows rows) (Rows other) same = ap (λ (all : List (List Value)). Rows all) (same_rows_are rows other same)

mismatch_here : (turn : ℕ) (turns : List ℕ) (reply other : Reply) (given alone : List Reply) (b : Bool) → same_reply reply other ≡ b → cond b (mismatches turns given alone) (turn ∷ mismatches turns given alone) ≡ []
    → (mismatches turns given alone ≡ [] → given ≡ alone) → reply ∷ given ≡ other ∷ alone
mismatch_here turn turns reply other given alone true same none rest = ap (λ (first : Reply). first ∷ given) (same_reply_is reply other same) ∙ ap (λ (all : List Reply). other ∷ all) (rest none)
mismatch_here turn turns reply other given alone false same none rest = absurd cc

-- no mismatch is where the replies are the same
pub mismatch_none : (turns : List ℕ) (given alone : List Reply) → length turns ≡ length given → length given ≡ length alone → mismatches turns given alone ≡ [] → given ≡ alone
unfolding mismatches
mismatch_none turns [] [] timed long none = refl
mismatch_none turns [] (other ∷ alone) timed long none = absurd (omega arith)
mismatch_none turns (reply ∷ given) [] timed long none = absurd (omega arith)
mismatch_none [] (reply ∷ given) (other ∷ alone) timed long none = absurd (omega arith)
mismatch_none (turn ∷ turns) (reply ∷ given) (other ∷ alone) timed long none =
    mismatch_here turn turns reply other given alone (same_reply reply other) refl none (mismatch_none turns given alone (omega arith) (omega arith))

none_of_both : {A : Type 0} (xs ys : List A) → xs ++ ys ≡ [] → (xs ≡ []) × (ys ≡ [])
none_of_both [] ys none = (refl, none)
none_of_both (x ∷ xs) ys none = absurd cc

altered_here : (plan : PlanData) (before : Database) (turn : ℕ) (items : List Judged) (found : Option Database) → altered_database plan before ≡ found → after_alter turn (λ (tables : Database). wrong_turns plan tables items) found ≡ []
    → ((after : Database) → altered_database plan before ≡ Some after → wrong_turns plan after items ≡ [] → Serial plan after (map item_of items) (tables_reached plan after items))
    → Serial plan before (Alter ∷ map item_of items) (or_these (λ (tables : Database). tables_reached plan tables items) before found)
altered_here plan before turn items None is wrong rest = absurd cc
altered_here plan before turn items (Some after) is wrong rest = (after, is, rest after is wrong)

-- what has no wrong turn is serial
pub judged_is_serial : (plan : PlanData) (before : Database) (items : List Judged) → AreTimed plan before items → wrong_turns plan before items ≡ [] → Serial plan before (map item_of items) (tables_reached plan before items)
unfolding wrong_turns tables_reached
judged_is_serial plan before [] timed none = refl
judged_is_serial plan before (Ended past turns ∷ items) timed none =
    let parts = none_of_both (mismatches turns past.replies (alone before past.txn.lines).replies) (wrong_turns plan (alone before past.txn.lines).tables items) none in
    ((alone before past.txn.lines).tables, (mismatch_none turns past.replies (alone before past.txn.lines).replies timed.0 timed.1 parts.0, refl), judged_is_serial plan (alone before past.txn.lines).tables items timed.2 parts.1)
judged_is_serial plan before (Altered turn ∷ items) timed none =
    altered_here plan before turn items (altered_database plan before) refl none (λ after is wrong. judged_is_serial plan after items (timed after is) wrong)
