-- Which tables exist while the setup drops what was left and makes its own, and while what is left after the RENAME is dropped.
use Rattle.std.proofs.Common.{◌≡◌, ◌≤◌, ◌<◌, ℕ, ◌+◌, Bool, true, false, cond, not, ◌&&◌, ◌||◌, List, refl, sym, ap, ◌∙◌, arith}
use Rattle.std.specs.Prelude.{is_some}
use Rattle.std.proofs.lemmas.Bool.{true≢false, false≢true, and_parts}
use Rattle.base_values.specs.ToolNames.{ghost_name, log_name, old_name, is_tool_name}
use Rattle.table_store.specs.Databases.{Database, has_table}
use Rattle.server_model.specs.declared.listing.TableName.{TableName}
use Rattle.server_model.specs.Listings.{tables_shown}
use Rattle.plan_data.specs.PlanData.{PlanData}
use Rattle.tool_program.specs.declared.cutover_core.cutover.Clearing.{Clearing as Cleared}
use Rattle.tool_program.specs.declared.cutover_core.cutover.Clearing.TheVariants.{Looking, Drops}
use Rattle.tool_program.specs.declared.cutover_core.cutover.CutOver.{CutOver}
use Rattle.tool_program.specs.declared.cutover_core.cutover.Hold.{Hold}
use Rattle.tool_program.specs.declared.cutover_core.cutover.Hold.TheVariants.{Nothing, WaitsToGuard, WaitsToLock, Locks}
use Rattle.tool_program.specs.declared.cutover_core.cutover.Leftovers.{Leftovers}
use Rattle.tool_program.specs.declared.cutover_core.cutover.Phase.{Phase}
use Rattle.tool_program.specs.declared.cutover_core.cutover.Phase.TheVariants.{Resting, Attempting, Ending, Finishing, Finished}
use Rattle.tool_program.specs.CutoverCore.Attempts.{has_name, is_clear, first_name, without_first}
use Rattle.tool_program.specs.CutoverCore.CutOvers.{is_done, finishing, left_at_end}
use Rattle.tool_program.specs.Setups.{Setup, Listing, Clearing, MakingLog, MakingGhost, Marking, Reaching, Ready, clearing}
use Rattle.proof_migration.proofs.Attempt.InspectorAnswers.{listed_is}
use Rattle.proof_migration.proofs.Attempt.Leaving.{AllStay, has_is}
use Rattle.proof_migration.proofs.ToolPhase.Unaltered.Away.{ghost_is_tool, log_is_tool}
use Rattle.proof_migration.proofs.ToolPhase.Marked.{old_is_tool}
use Rattle.proof_bounds.specs.Clearings.{phase_left}
use Rattle.proof_bounds.specs.Setups.{one_if, names_left, setup_left}

-- THE SETUP

-- what is left exists, what isn't doesn't, and something is
pub record IsLeft (plan : PlanData) (tables : Database) (left : Leftovers) : Type 0 where
  pub log : has_table (log_name plan.table) tables ≡ left.log
  pub ghost : has_table (ghost_name plan.table) tables ≡ left.new_table
  pub old : has_table (old_name plan.table) tables ≡ left.old
  pub some : is_clear left ≡ false

abbrev pub SetupFits : PlanData → Database → Setup → Type 0
SetupFits plan tables Listing = Unit {0}
SetupFits plan tables (Clearing left) = IsLeft plan tables left
SetupFits plan tables MakingLog = (has_table (log_name plan.table) tables ≡ false) × (has_table (ghost_name plan.table) tables ≡ false)
SetupFits plan tables MakingGhost = has_table (ghost_name plan.table) tables ≡ false
SetupFits plan tables Marking = Unit {0}
SetupFits plan tables (Reaching position) = Unit {0}
SetupFits plan tables (Ready position range) = Unit {0}

pub has_stays : (before after : Database) → AllStay before after → (name : List ℕ) → has_table name after ≡ has_table name before
has_stays before after stay name = has_is name after ∙ ap is_some (stay name) ∙ sym (has_is name before)

pub setup_stay : (plan : PlanData) (before after : Database) → AllStay before after → (setup : Setup) → SetupFits plan before setup → SetupFits plan after setup
setup_stay plan before after stay Listing fits = tt
setup_stay plan before after stay (Clearing left) fits = record {
  log = has_stays before after stay (log_name plan.table) ∙ fits.log;
  ghost = has_stays before after stay (ghost_name plan.table) ∙ fits.ghost;
  old = has_stays before after stay (old_name plan.table) ∙ fits.old;
  some = fits.some;
}
setup_stay plan before after stay MakingLog fits = (has_stays before after stay (log_name plan.table) ∙ fits.0, has_stays before after stay (ghost_name plan.table) ∙ fits.1)
setup_stay plan before after stay MakingGhost fits = has_stays before after stay (ghost_name plan.table) ∙ fits
setup_stay plan before after stay Marking fits = tt
setup_stay plan before after stay (Reaching position) fits = tt
setup_stay plan before after stay (Ready position range) fits = tt

-- what is clear
clear_parts : (a b c : Bool) → (not a && not b && not c) ≡ true → (a ≡ false) × (b ≡ false)
clear_parts false false c is = (refl, refl)
clear_parts true b c is = absurd (false≢true is)
clear_parts false true c is = absurd (false≢true is)

pub clearing_fits : (plan : PlanData) (tables : Database) (left : Leftovers) → has_table (log_name plan.table) tables ≡ left.log → has_table (ghost_name plan.table) tables ≡ left.new_table → has_table (old_name plan.table) tables ≡ left.old → SetupFits plan tables (clearing left)
clearing_fits plan tables left log ghost old = by (is_clear left) refl where
  by : (b : Bool) → is_clear left ≡ b → SetupFits plan tables (cond b MakingLog (Clearing left))
  by true clear = let parts = clear_parts left.log left.new_table left.old clear in (log ∙ parts.0, ghost ∙ parts.1)
  by false some = record { log = log; ghost = ghost; old = old; some = some }

-- the first that is dropped is one of the tool's, and exists
pub first_is_tool : (table : List ℕ) (left : Leftovers) → is_tool_name table (first_name table left) ≡ true
first_is_tool table left = by left.log left.new_table where
  by : (a b : Bool) → is_tool_name table (cond a (log_name table) (cond b (ghost_name table) (old_name table))) ≡ true
  by true b = log_is_tool table
  by false true = ghost_is_tool table
  by false false = old_is_tool table

pub first_exists : (plan : PlanData) (tables : Database) (left : Leftovers) → IsLeft plan tables left → has_table (first_name plan.table left) tables ≡ true
first_exists plan tables left is = by left.log left.new_table left.old is.log is.ghost is.old is.some where
  by : (a b c : Bool) → has_table (log_name plan.table) tables ≡ a → has_table (ghost_name plan.table) tables ≡ b → has_table (old_name plan.table) tables ≡ c → (not a && not b && not c) ≡ false → has_table (cond a (log_name plan.table) (cond b (ghost_name plan.table) (old_name plan.table))) tables ≡ true
  by true b c log ghost old some = log
  by false true c log ghost old some = ghost
  by false false true log ghost old some = old
  by false false false log ghost old some = absurd (true≢false some)

-- FEWER ARE LEFT

few_left : (left : Leftovers) → names_left left ≤ 3
few_left left = by left.log left.new_table left.old where
  by : (a b c : Bool) → one_if a + one_if b + one_if c ≤ 3
  by true true true = omega arith
  by true true false = omega arith
  by true false true = omega arith
  by true false false = omega arith
  by false true true = omega arith
  by false true false = omega arith
  by false false true = omega arith
  by false false false = omega arith

pub clearing_few_left : (left : Leftovers) (most : ℕ) → names_left left ≤ most → setup_left (clearing left) ≤ most + 4
clearing_few_left left most few = by (is_clear left) where
  by : (b : Bool) → setup_left (cond b MakingLog (Clearing left)) ≤ most + 4
  by true = omega arith
  by false = omega (arith, few)

pub listed_fewer : (left : Leftovers) → setup_left (clearing left) < 8
listed_fewer left = let few = clearing_few_left left 3 (few_left left) in omega (arith, few)

first_fewer : (left : Leftovers) → is_clear left ≡ false → names_left (without_first left) < names_left left
first_fewer left some = by left.log left.new_table left.old some where
  by : (a b c : Bool) → (not a && not b && not c) ≡ false
      → names_left (cond a (record { log = false; new_table = b; old = c }) (cond b (record { log = a; new_table = false; old = c }) (record { log = a; new_table = b; old = false }))) < one_if a + one_if b + one_if c
  by true true true some = omega arith
  by true true false some = omega arith
  by true false true some = omega arith
  by true false false some = omega arith
  by false true true some = omega arith
  by false true false some = omega arith
  by false false true some = omega arith
  by false false false some = absurd (true≢false some)

pub dropped_fewer : (left : Leftovers) → is_clear left ≡ false → setup_left (clearing (without_first left)) < names_left left + 4
dropped_fewer left some = let fewer = first_fewer left some in let few = clearing_few_left (without_first left) (names_left (without_first left)) (omega arith) in omega (arith, few, fewer)

-- AFTER THE RENAME

pub record IsLeftAtEnd (plan : PlanData) (tables : Database) (left : Leftovers) : Type 0 where
  pub log : left.log ≡ true → has_table (log_name plan.table) tables ≡ true
  pub ghost : left.new_table ≡ false
  pub old : left.old ≡ true → has_table (old_name plan.table) tables ≡ true
  pub some : is_clear left ≡ false

abbrev pub ClearingFits : PlanData → Database → Cleared → Type 0
ClearingFits plan tables Looking = Unit {0}
ClearingFits plan tables (Drops left) = IsLeftAtEnd plan tables left

abbrev pub PhaseFits : PlanData → Database → Phase → Type 0
PhaseFits plan tables Resting = Unit {0}
PhaseFits plan tables (Attempting stage) = Unit {0}
PhaseFits plan tables (Ending clearing) = Unit {0}
PhaseFits plan tables (Finishing clearing) = ClearingFits plan tables clearing
PhaseFits plan tables Finished = Unit {0}

-- the locker doesn't wait
abbrev pub RestsOrLocks : Hold → Type 0
RestsOrLocks Nothing = Unit {0}
RestsOrLocks Locks = Unit {0}
RestsOrLocks WaitsToGuard = ⊥
RestsOrLocks WaitsToLock = ⊥

-- once the RENAME is known to be done the locker and the renamer have nothing; while the RENAME waits the locker doesn't; and what
-- is left to be dropped exists
pub record WorkFits (plan : PlanData) (tables : Database) (phase : Phase) (hold : Hold) (renames : Bool) : Type 0 where
  pub done : is_done phase ≡ true → (hold ≡ Nothing) × (renames ≡ false)
  pub back : renames ≡ true → RestsOrLocks hold
  pub left : PhaseFits plan tables phase

clearing_stay : (plan : PlanData) (before after : Database) → AllStay before after → (cleared : Cleared) → ClearingFits plan before cleared → ClearingFits plan after cleared
clearing_stay plan before after stay Looking fits = tt
clearing_stay plan before after stay (Drops left) fits = record {
  log = λ on. has_stays before after stay (log_name plan.table) ∙ fits.log on;
  ghost = fits.ghost;
  old = λ on. has_stays before after stay (old_name plan.table) ∙ fits.old on;
  some = fits.some;
}

pub phase_stay : (plan : PlanData) (before after : Database) → AllStay before after → (phase : Phase) → PhaseFits plan before phase → PhaseFits plan after phase
phase_stay plan before after stay Resting fits = tt
phase_stay plan before after stay (Attempting stage) fits = tt
phase_stay plan before after stay (Ending clearing) fits = tt
phase_stay plan before after stay (Finishing cleared) fits = clearing_stay plan before after stay cleared fits
phase_stay plan before after stay Finished fits = tt

pub work_stay : (plan : PlanData) (before after : Database) → AllStay before after → (phase : Phase) (hold : Hold) (renames : Bool) → WorkFits plan before phase hold renames → WorkFits plan after phase hold renames
work_stay plan before after stay phase hold renames fits = record { done = fits.done; back = fits.back; left = phase_stay plan before after stay phase fits.left }

undone_left : (plan : PlanData) (tables : Database) (phase : Phase) → is_done phase ≡ false → PhaseFits plan tables phase
undone_left plan tables Resting undone = tt
undone_left plan tables (Attempting stage) undone = tt
undone_left plan tables (Ending clearing) undone = tt
undone_left plan tables (Finishing clearing) undone = absurd (true≢false undone)
undone_left plan tables Finished undone = tt

-- a phase in which the RENAME isn't known to be done
pub undone_fits : (plan : PlanData) (tables : Database) (phase : Phase) (hold : Hold) (renames : Bool) → is_done phase ≡ false → (renames ≡ true → RestsOrLocks hold) → WorkFits plan tables phase hold renames
undone_fits plan tables phase hold renames undone back = record { done = λ done. absurd (true≢false (sym done ∙ undone)); back = back; left = undone_left plan tables phase undone }

-- what is left after the RENAME, as it is listed
pub ends_with : (plan : PlanData) (tables : Database) (left : Leftovers) (hold : Hold) (renames : Bool) → hold ≡ Nothing → renames ≡ false → (left.log ≡ true → has_table (log_name plan.table) tables ≡ true) → left.new_table ≡ false → (left.old ≡ true → has_table (old_name plan.table) tables ≡ true)
    → WorkFits plan tables (finishing left) hold renames
ends_with plan tables left hold renames nothing off log ghost old = by (is_clear left) refl where
  by : (b : Bool) → is_clear left ≡ b → WorkFits plan tables (cond b Finished (Finishing (Drops left))) hold renames
  by true clear = record { done = λ done. (nothing, off); back = λ on. absurd (true≢false (sym on ∙ off)); left = tt }
  by false some = record { done = λ done. (nothing, off); back = λ on. absurd (true≢false (sym on ∙ off)); left = record { log = log; ghost = ghost; old = old; some = some } }

pub lists_end : (plan : PlanData) (before after : Database) (cutover : CutOver) (listing : List TableName) (hold : Hold) (renames : Bool) → cutover.table ≡ plan.table → AllStay before after → listing ≡ tables_shown before → hold ≡ Nothing → renames ≡ false → WorkFits plan after (finishing (left_at_end cutover listing)) hold renames
lists_end plan before after cutover listing hold renames own stay lists nothing off =
    ends_with plan after (left_at_end cutover listing) hold renames nothing off (λ on. there (log_name plan.table) (ap (λ (t : List ℕ). has_name (log_name t) listing) (sym own) ∙ on)) refl
    (λ on. there (old_name plan.table) (ap (λ (t : List ℕ). has_name (old_name t) listing) (sym own) ∙ (and_parts cutover.drops_old (has_name (old_name cutover.table) listing) on).1)) where
      there : (name : List ℕ) → has_name name listing ≡ true → has_table name after ≡ true
      there name on = has_stays before after stay name ∙ has_is name before ∙ sym (listed_is name before) ∙ ap (has_name name) (sym lists) ∙ on

-- the first that is dropped is the changelog or the old table, and exists
pub end_is_old : (plan : PlanData) (left : Leftovers) → left.new_table ≡ false → (P : List ℕ → Type 0) → P (log_name plan.table) → P (old_name plan.table) → P (first_name plan.table left)
end_is_old plan left ghost P log old = by left.log left.new_table ghost where
  by : (a b : Bool) → b ≡ false → P (cond a (log_name plan.table) (cond b (ghost_name plan.table) (old_name plan.table)))
  by true b off = log
  by false true off = absurd (true≢false off)
  by false false off = old

pub end_exists : (plan : PlanData) (tables : Database) (left : Leftovers) → IsLeftAtEnd plan tables left → has_table (first_name plan.table left) tables ≡ true
end_exists plan tables left is = by left.log left.new_table left.old is.log is.ghost is.old is.some where
  by : (a b c : Bool) → (a ≡ true → has_table (log_name plan.table) tables ≡ true) → b ≡ false → (c ≡ true → has_table (old_name plan.table) tables ≡ true) → (not a && not b && not c) ≡ false
      → has_table (cond a (log_name plan.table) (cond b (ghost_name plan.table) (old_name plan.table))) tables ≡ true
  by true b c log ghost old some = log refl
  by false true c log ghost old some = absurd (true≢false ghost)
  by false false true log ghost old some = old refl
  by false false false log ghost old some = absurd (true≢false some)

finish_left : (left : Leftovers) (most : ℕ) → names_left left ≤ most → phase_left (finishing left) ≤ most
finish_left left most few = by (is_clear left) where
  by : (b : Bool) → phase_left (cond b Finished (Finishing (Drops left))) ≤ most
  by true = omega arith
  by false = few

pub end_fewer : (left : Leftovers) → is_clear left ≡ false → phase_left (finishing (without_first left)) < names_left left
end_fewer left some = let fewer = first_fewer left some in let few = finish_left (without_first left) (names_left (without_first left)) (omega arith) in omega (arith, few, fewer)

pub end_listed : (cutover : CutOver) (listing : List TableName) → phase_left (finishing (left_at_end cutover listing)) < 3
end_listed cutover listing = let few = finish_left (left_at_end cutover listing) 2 (by (has_name (log_name cutover.table) listing) (cutover.drops_old && has_name (old_name cutover.table) listing)) in omega (arith, few) where
  by : (a c : Bool) → one_if a + 0 + one_if c ≤ 2
  by true true = omega arith
  by true false = omega arith
  by false true = omega arith
  by false false = omega arith
