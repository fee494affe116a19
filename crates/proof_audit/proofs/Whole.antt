-- A trace is audited yes exactly where it breaks no rule.
use Rattle.std.proofs.Common.{◌≡◌, ℕ, ◌<◌, ◌≤◌, ◌&&◌, ◌||◌, nat_lt, Bool, true, false, not, cond, List, [], ◌∷◌, ◌++◌, length, map, Option, Some, None, refl, ap, ◌∙◌, arith}
use Rattle.std.specs.Prelude.{is_some}
use Rattle.std.specs.Str.{bytes_eq}
use Rattle.std.proofs.lemmas.Bool.Decides.{nat_tests}
use Rattle.table_store.specs.Databases.{Database, TableRows}
use Rattle.server_model.specs.Along.{Along, gathered}
use Rattle.server_model.proofs.LockedRows.Tests.{are_same, same_bytes}
use Rattle.plan_data.specs.PlanData.{PlanData}
use Rattle.run_audit.specs.declared.line.TraceLine.{TraceLine}
use Rattle.run_audit.specs.declared.trace.Audit.TheVariants as audits
use Rattle.run_audit.specs.declared.trace.Trace.{Trace}
use Rattle.run_audit.specs.Audits.{audited, bad_turns, first_no, first_other, is_unfinished, judged, least, least_with, may_draw, misdrawn_turns, misdraws, opening_tables, tables_reached, unended, verdict_holds, wrong_turns}
use Rattle.run_audit.specs.Lines.{printed_table}
use Rattle.run_audit.specs.Rules.{all_are_over, alters_in, breaks, broken_turns, has_altered, is_within, keeps_losses, keeps_script, next_turn, turn_if}
use Rattle.proof_audit.specs.AuditedTraces.{AuditsSayYes, IsAudited}
use Rattle.proof_audit.proofs.Judging.{judged_is_serial, serial_is_judged}
use Rattle.proof_audit.proofs.Timed.{judged_timed}

-- ---- lists

none_of_both : (xs ys : List ℕ) → xs ++ ys ≡ [] → (xs ≡ []) × (ys ≡ [])
none_of_both [] ys none = (refl, none)
none_of_both (x ∷ xs) ys none = absurd cc

least_some : (turn : ℕ) (other : Option ℕ) → least_with turn other ≡ None → ⊥
least_some turn None is = cc
least_some turn (Some other) is = cc

-- the least of no turns is none
pub least_none : (turns : List ℕ) → least turns ≡ None → turns ≡ []
unfolding least
least_none [] is = refl
least_none (turn ∷ turns) is = absurd (least_some turn (least turns) is)

turn_none : (b : Bool) (before : List TraceLine) → turn_if b before ≡ [] → b ≡ false
turn_none true before is = absurd cc
turn_none false before is = refl

along_turns : (test : List TraceLine → TraceLine → Bool) (before lines : List TraceLine) → gathered (λ some line. turn_if (test some line) some) before lines ≡ [] → Along (λ some line. test some line ≡ false) before lines
along_turns test before [] is = tt
along_turns test before (line ∷ lines) is =
    let both = none_of_both (turn_if (test before line) before) (gathered (λ some one. turn_if (test some one) some) (before ++ line ∷ []) lines) is in
    (turn_none (test before line) before both.0, along_turns test (before ++ line ∷ []) lines both.1)

turns_along : (test : List TraceLine → TraceLine → Bool) (before lines : List TraceLine) → Along (λ some line. test some line ≡ false) before lines → gathered (λ some line. turn_if (test some line) some) before lines ≡ []
turns_along test before [] all = refl
turns_along test before (line ∷ lines) all =
    ap (λ (b : Bool). turn_if b before ++ gathered (λ some one. turn_if (test some one) some) (before ++ line ∷ []) lines) all.0 ∙ turns_along test (before ++ line ∷ []) lines all.1

along_each : (keeps holds : List TraceLine → TraceLine → Type 0) → ((before : List TraceLine) (line : TraceLine) → keeps before line → holds before line) → (before lines : List TraceLine) → Along keeps before lines → Along holds before lines
along_each keeps holds each before [] all = tt
along_each keeps holds each before (line ∷ lines) all = (each before line all.0, along_each keeps holds each (before ++ line ∷ []) lines all.1)

-- ---- a line

abbrev kept_so : PlanData → List TraceLine → TraceLine → Type 0
kept_so plan before line =
    (keeps_script plan before line ≡ true) × (is_within plan before ≡ true → keeps_losses plan before line ≡ true) × (alters_in before line ≡ true → has_altered before ≡ false)

parts_so : (script within losses alters altered : Bool) → (not script || (within && not losses) || (alters && altered)) ≡ false → (script ≡ true) × (within ≡ true → losses ≡ true) × (alters ≡ true → altered ≡ false)
parts_so false within losses alters altered is = absurd cc
parts_so true true false alters altered is = absurd cc
parts_so true true true true true is = absurd cc
parts_so true true true true false is = (refl, λ at. refl, λ at. refl)
parts_so true true true false altered is = (refl, λ at. refl, λ at. absurd cc)
parts_so true false losses true true is = absurd cc
parts_so true false losses true false is = (refl, λ at. absurd cc, λ at. refl)
parts_so true false losses false altered is = (refl, λ at. absurd cc, λ at. absurd cc)

all_so : (script within losses alters altered : Bool) → script ≡ true → (within ≡ true → losses ≡ true) → (alters ≡ true → altered ≡ false) → (not script || (within && not losses) || (alters && altered)) ≡ false
all_so false within losses alters altered one two three = absurd cc
all_so true true false alters altered one two three = let no : false ≡ true = two refl in absurd (cc no)
all_so true true true true true one two three = let no : true ≡ false = three refl in absurd (cc no)
all_so true true true true false one two three = refl
all_so true true true false altered one two three = refl
all_so true false losses true true one two three = let no : true ≡ false = three refl in absurd (cc no)
all_so true false losses true false one two three = refl
all_so true false losses false altered one two three = refl

-- a number that is shown may be drawn
may_so : (shows may : Bool) → (shows && not may) ≡ false → shows ≡ true → may ≡ true
may_so true true is shows = refl
may_so true false is shows = absurd cc
may_so false may is shows = absurd cc

pub so_may : (shows may : Bool) → (shows ≡ true → may ≡ true) → (shows && not may) ≡ false
so_may true true is = refl
so_may true false is = let no : false ≡ true = is refl in absurd (cc no)
so_may false may is = refl

line_kept : (plan : PlanData) (before : List TraceLine) (line : TraceLine) → breaks plan before line ≡ false → kept_so plan before line
line_kept plan before line is = parts_so (keeps_script plan before line) (is_within plan before) (keeps_losses plan before line) (alters_in before line) (has_altered before) is

within_so : (plan : PlanData) (before : List TraceLine) → length before < plan.options.turn_limit → is_within plan before ≡ true
within_so plan before less = grind (arith, nat_tests)

less_so : (plan : PlanData) (before : List TraceLine) → is_within plan before ≡ true → length before < plan.options.turn_limit
less_so plan before within = grind (arith, nat_tests)

-- ---- the end

abbrev Over : PlanData → Trace → Type 0
Over plan trace = is_unfinished trace.verdict ≡ false → length trace.lines ≤ plan.options.turn_limit → all_are_over plan trace.lines 1 plan.clients ≡ true

over_parts : (unfinished past over : Bool) (turn : ℕ) → cond (not unfinished && not past && not over) (turn ∷ []) [] ≡ [] → unfinished ≡ false → past ≡ false → over ≡ true
over_parts unfinished past true turn none one two = refl
over_parts true past false turn none one two = absurd cc
over_parts false true false turn none one two = absurd cc
over_parts false false false turn none one two = absurd cc

over_all : (unfinished past over : Bool) (turn : ℕ) → (unfinished ≡ false → past ≡ false → over ≡ true) → cond (not unfinished && not past && not over) (turn ∷ []) [] ≡ []
over_all true past over turn is = refl
over_all false true over turn is = refl
over_all false false true turn is = refl
over_all false false false turn is = let no : false ≡ true = is refl refl in absurd (cc no)

not_past : (limit turns : ℕ) → turns ≤ limit → nat_lt limit turns ≡ false
not_past limit turns within = grind (arith, nat_tests)

within_limit : (limit turns : ℕ) → nat_lt limit turns ≡ false → turns ≤ limit
within_limit limit turns is = grind (arith, nat_tests)

over_of : (plan : PlanData) (trace : Trace) → unended plan trace ≡ [] → Over plan trace
over_of plan trace none ended within =
    over_parts (is_unfinished trace.verdict) (nat_lt plan.options.turn_limit (length trace.lines)) (all_are_over plan trace.lines 1 plan.clients) (next_turn trace.lines) none ended (not_past plan.options.turn_limit (length trace.lines) within)

of_over : (plan : PlanData) (trace : Trace) → Over plan trace → unended plan trace ≡ []
of_over plan trace over =
    over_all (is_unfinished trace.verdict) (nat_lt plan.options.turn_limit (length trace.lines)) (all_are_over plan trace.lines 1 plan.clients) (next_turn trace.lines) (λ ended past. over ended (within_limit plan.options.turn_limit (length trace.lines) past))

-- ---- the tables

pub record ArePrinted (printed : List (List ℕ)) (tables : Database) : Type 0 where
  pub others : List (List ℕ)
  pub is : printed ≡ map printed_table tables ++ others

printed_more : (text : List ℕ) (printed : List (List ℕ)) (table : TableRows) (tables : Database) (b : Bool) → bytes_eq text (printed_table table) ≡ b → cond b (first_other printed tables) (Some table.schema.name) ≡ None → (first_other printed tables ≡ None → ArePrinted printed tables)
    → ArePrinted (text ∷ printed) (table ∷ tables)
printed_more text printed table tables true same none rest =
    let more = rest none in
    record { others = more.others; is = ap (λ (one : List ℕ). one ∷ printed) (are_same text (printed_table table) same) ∙ ap (λ (all : List (List ℕ)). printed_table table ∷ all) more.is }
printed_more text printed table tables false same none rest = absurd cc

no_other : (printed : List (List ℕ)) (tables : Database) → first_other printed tables ≡ None → ArePrinted printed tables
unfolding first_other
no_other printed [] none = record { others = printed; is = refl }
no_other [] (table ∷ tables) none = absurd cc
no_other (text ∷ printed) (table ∷ tables) none = printed_more text printed table tables (bytes_eq text (printed_table table)) refl none (no_other printed tables)

printed_none : (tables : Database) (others : List (List ℕ)) → first_other (map printed_table tables ++ others) tables ≡ None
unfolding first_other
printed_none [] others = refl
printed_none (table ∷ tables) others = ap (λ (b : Bool). cond b (first_other (map printed_table tables ++ others) tables) (Some table.schema.name)) (same_bytes (printed_table table)) ∙ printed_none tables others

-- ---- all rules

-- what a yes says of its parts
record Yes (plan : PlanData) (trace : Trace) : Type 0 where
  turns : bad_turns plan trace ≡ []
  tables : first_other trace.tables (tables_reached plan (opening_tables plan) (judged plan trace.lines)) ≡ None
  verdict : verdict_holds plan trace.lines trace.verdict ≡ true

yes_parts : (turn : Option ℕ) (table : Option (List ℕ)) (verdict : Bool) → first_no turn table verdict ≡ audits.Yes → (turn ≡ None) × (table ≡ None) × (verdict ≡ true)
yes_parts (Some turn) table verdict is = absurd cc
yes_parts None (Some name) verdict is = absurd cc
yes_parts None None false is = absurd cc
yes_parts None None true is = (refl, refl, refl)

is_yes : (plan : PlanData) (trace : Trace) → audited plan trace ≡ audits.Yes → Yes plan trace
unfolding audited
is_yes plan trace is =
    let parts =
    yes_parts (least (bad_turns plan trace)) (first_other trace.tables (tables_reached plan (opening_tables plan) (judged plan trace.lines))) (verdict_holds plan trace.lines trace.verdict) is in
    record { turns = least_none (bad_turns plan trace) parts.0; tables = parts.1; verdict = parts.2 }

yes_is : (plan : PlanData) (trace : Trace) → Yes plan trace → audited plan trace ≡ audits.Yes
unfolding audited least
yes_is plan trace rules =
    ap (λ (turns : List ℕ). first_no (least turns) (first_other trace.tables (tables_reached plan (opening_tables plan) (judged plan trace.lines))) (verdict_holds plan trace.lines trace.verdict)) rules.turns
    ∙ ap (λ (table : Option (List ℕ)). first_no None table (verdict_holds plan trace.lines trace.verdict)) rules.tables
    ∙ ap (first_no None None) rules.verdict

audited_only : (plan : PlanData) (trace : Trace) → audited plan trace ≡ audits.Yes → IsAudited plan trace
unfolding broken_turns misdrawn_turns
audited_only plan trace is = record {
  scripts = along_each (kept_so plan) (λ before line. keeps_script plan before line ≡ true) (λ before line so. so.0) [] trace.lines kept;
  over = over_of plan trace rest.1;
  losses = along_each (kept_so plan) (λ before line. length before < plan.options.turn_limit → keeps_losses plan before line ≡ true) (λ before line so less. so.1 (within_so plan before less)) [] trace.lines kept;
  once = along_each (kept_so plan) (λ before line. alters_in before line ≡ true → has_altered before ≡ false) (λ before line so. so.2) [] trace.lines kept;
  drawn = along_each (λ before line. misdraws plan before line ≡ false) (λ before line. is_some line.drawn ≡ true → may_draw plan before line.actor ≡ true) (λ before line. may_so (is_some line.drawn) (may_draw plan before line.actor)) [] trace.lines
      (along_turns (misdraws plan) [] trace.lines drawn_turns.1);
  tables = reached;
  serial = judged_is_serial plan (opening_tables plan) (judged plan trace.lines) (judged_timed plan (opening_tables plan) trace.lines) rest.0;
  others = printed.others;
  printed = printed.is;
  verdict = rules.verdict;
} where
  rules : Yes plan trace
  rules = is_yes plan trace is

  reached : Database
  reached = tables_reached plan (opening_tables plan) (judged plan trace.lines)

  judged_turns : List ℕ
  judged_turns = broken_turns plan trace.lines ++ wrong_turns plan (opening_tables plan) (judged plan trace.lines)

  parts : (judged_turns ++ misdrawn_turns plan trace.lines ≡ []) × (unended plan trace ≡ [])
  parts = none_of_both (judged_turns ++ misdrawn_turns plan trace.lines) (unended plan trace) rules.turns

  drawn_turns : (judged_turns ≡ []) × (misdrawn_turns plan trace.lines ≡ [])
  drawn_turns = none_of_both judged_turns (misdrawn_turns plan trace.lines) parts.0

  turns : (broken_turns plan trace.lines ≡ []) × (wrong_turns plan (opening_tables plan) (judged plan trace.lines) ≡ [])
  turns = none_of_both (broken_turns plan trace.lines) (wrong_turns plan (opening_tables plan) (judged plan trace.lines)) drawn_turns.0

  rest : (wrong_turns plan (opening_tables plan) (judged plan trace.lines) ≡ []) × (unended plan trace ≡ [])
  rest = (turns.1, parts.1)

  kept : Along (kept_so plan) [] trace.lines
  kept = along_each (λ before line. breaks plan before line ≡ false) (kept_so plan) (line_kept plan) [] trace.lines (along_turns (breaks plan) [] trace.lines turns.0)

  printed : ArePrinted trace.tables reached
  printed = no_other trace.tables reached rules.tables

all_kept : (plan : PlanData) (before lines : List TraceLine) → Along (λ some line. keeps_script plan some line ≡ true) before lines → Along (λ some line. length some < plan.options.turn_limit → keeps_losses plan some line ≡ true) before lines
    → Along (λ some line. alters_in some line ≡ true → has_altered some ≡ false) before lines → Along (λ some line. breaks plan some line ≡ false) before lines
all_kept plan before [] scripts losses once = tt
all_kept plan before (line ∷ lines) scripts losses once = (
  all_so (keeps_script plan before line) (is_within plan before) (keeps_losses plan before line) (alters_in before line) (has_altered before) scripts.0 (λ within. losses.0 (less_so plan before within)) once.0,
  all_kept plan (before ++ line ∷ []) lines scripts.1 losses.1 once.1,
)

audited_where : (plan : PlanData) (trace : Trace) → IsAudited plan trace → audited plan trace ≡ audits.Yes
unfolding broken_turns misdrawn_turns
audited_where plan trace is = yes_is plan trace (record {
  turns = ap (λ (broken : List ℕ). broken ++ wrong_turns plan (opening_tables plan) (judged plan trace.lines) ++ misdrawn_turns plan trace.lines ++ unended plan trace) (turns_along (breaks plan) [] trace.lines (all_kept plan [] trace.lines is.scripts is.losses is.once))
      ∙ ap (λ (wrong : List ℕ). wrong ++ misdrawn_turns plan trace.lines ++ unended plan trace) found.0
      ∙ ap (λ (drawn : List ℕ). drawn ++ unended plan trace) (turns_along (misdraws plan) [] trace.lines (along_each (λ before line. is_some line.drawn ≡ true → may_draw plan before line.actor ≡ true) (λ before line. misdraws plan before line ≡ false) (λ before line. so_may (is_some line.drawn) (may_draw plan before line.actor)) [] trace.lines is.drawn))
      ∙ of_over plan trace is.over;
  tables = ap (λ (all : List (List ℕ)). first_other all (tables_reached plan (opening_tables plan) (judged plan trace.lines))) is.printed ∙ ap (first_other (map printed_table is.tables ++ is.others)) found.1 ∙ printed_none is.tables is.others;
  verdict = is.verdict;
}) where
  found : (wrong_turns plan (opening_tables plan) (judged plan trace.lines) ≡ []) × (tables_reached plan (opening_tables plan) (judged plan trace.lines) ≡ is.tables)
  found = serial_is_judged plan (opening_tables plan) (judged plan trace.lines) is.tables is.serial

-- *An audit says yes* exactly where no rule is broken
pub say_yes : AuditsSayYes
say_yes plan trace = record { only = audited_only plan trace; where_so = audited_where plan trace }
