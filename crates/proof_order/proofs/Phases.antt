-- What each phase of the cut-over says of what the journal tells.
use Rattle.std.proofs.Common.{◌≡◌, ◌⊎◌, ℕ, ◌+◌, ◌<◌, ◌==◌, Bool, true, false, cond, not, ◌&&◌, ◌||◌, List, refl, sym, ap, ◌∙◌, inl, inr, arith}
use Rattle.std.specs.List.{list_any}
use Rattle.std.specs.Str.{bytes_eq}
use Rattle.std.proofs.lemmas.Bool.{true≢false, false≢true}
use Rattle.base_values.specs.ToolNames.{ghost_name, log_name, old_name}
use Rattle.server_model.specs.declared.answer.Answer.{Answer}
use Rattle.server_model.specs.declared.answer.Answer.TheVariants as answers
use Rattle.server_model.specs.declared.listing.TableName.{TableName}
use Rattle.plan_data.specs.PlanData.{PlanData}
use Rattle.tool_program.specs.declared.cutover_core.cutover.Clearing.TheVariants.{Looking, Drops}
use Rattle.tool_program.specs.declared.cutover_core.cutover.CutOver.{CutOver}
use Rattle.tool_program.specs.declared.cutover_core.cutover.Leftovers.{Leftovers}
use Rattle.tool_program.specs.declared.cutover_core.cutover.Phase.{Phase}
use Rattle.tool_program.specs.declared.cutover_core.cutover.Phase.TheVariants.{Resting, Attempting, Ending, Finishing, Finished}
use Rattle.tool_program.specs.declared.cutover_core.cutover.Stage.{Stage}
use Rattle.tool_program.specs.declared.cutover_core.cutover.Stage.TheVariants.{Guarding, Locking, Hinting, ReadingCounter, SettingCounter, Draining, Drained, Showing, Dropping, Unlocking, Exchanging}
use Rattle.tool_program.specs.declared.cutover_core.cutover.Drain.TheVariants.{Turns, Passed}
use Rattle.tool_program.specs.CutoverCore.Attempts.{is_clear, without_first, first_name, has_name, has_sentry}
use Rattle.tool_program.specs.CutoverCore.CutOvers.{is_bad, is_done, stands, failed, ended, drained, locker_phase, locker_stage, waits_phase, renamer_phase, finishing, left_at_end, sentry_alone, seen}
use Rattle.proof_journals.proofs.Machine.CuttingOver.{drain_cases}
use Rattle.proof_journals.proofs.Machine.Marks.{ghost_not_old, log_not_old}

-- WHAT A PHASE SAYS

-- an attempt has a number
abbrev pub CountedAt : Phase → ℕ → Type 0
CountedAt (Attempting stage) attempts = 0 < attempts
CountedAt phase attempts = Unit {0}

-- it is drained where the applier came past its hint row, also while the counter is carried
abbrev pub PassedAt : Phase → ℕ → List ℕ → Type 0
PassedAt (Attempting Drained) attempts passed = list_any (λ one. one == attempts) passed ≡ true
PassedAt (Attempting (ReadingCounter Passed)) attempts passed = list_any (λ one. one == attempts) passed ≡ true
PassedAt (Attempting (SettingCounter number Passed)) attempts passed = list_any (λ one. one == attempts) passed ≡ true
PassedAt phase attempts passed = Unit {0}

-- the sentry is dropped where the RENAME was shown
abbrev pub ShownAt : Phase → Bool → Type 0
ShownAt (Attempting Dropping) shown = shown ≡ true
ShownAt phase shown = Unit {0}

-- no batch begins
abbrev pub is_held : Phase → Bool → Bool
is_held phase asked = is_done phase || (stands phase && asked)

-- what is left to be dropped
abbrev pub DropsAt : PlanData → Phase → List TableName → Type 0
DropsAt plan (Ending (Drops left)) listed = has_sentry plan.table listed ≡ true
DropsAt plan (Finishing (Drops left)) listed = (is_clear left ≡ false) × (left.old ≡ true → plan.options.ok_to_drop_table ≡ true)
DropsAt plan phase listed = Unit {0}

pub record PhaseOrder (plan : PlanData) (shown : Bool) (passed : List ℕ) (renaming : Bool) (listed : List TableName) (attempts : ℕ) (asked : Bool) (phase : Phase) : Type 0 where
  pub counted : CountedAt phase attempts
  pub passes : PassedAt phase attempts passed
  pub shows : ShownAt phase shown
  pub holds : renaming ≡ true → is_held phase asked ≡ true
  pub drops : DropsAt plan phase listed

-- more was passed
pub passes_more : (phase : Phase) (attempts : ℕ) (before after : List ℕ) → (list_any (λ one. one == attempts) before ≡ true → list_any (λ one. one == attempts) after ≡ true) → PassedAt phase attempts before → PassedAt phase attempts after
passes_more (Attempting Drained) attempts before after grows at = grows at
passes_more (Attempting Guarding) attempts before after grows at = tt
passes_more (Attempting Locking) attempts before after grows at = tt
passes_more (Attempting Hinting) attempts before after grows at = tt
passes_more (Attempting (ReadingCounter (Turns turns))) attempts before after grows at = tt
passes_more (Attempting (SettingCounter number (Turns turns))) attempts before after grows at = tt
passes_more (Attempting (ReadingCounter Passed)) attempts before after grows at = grows at
passes_more (Attempting (SettingCounter number Passed)) attempts before after grows at = grows at
passes_more (Attempting (Draining turns)) attempts before after grows at = tt
passes_more (Attempting Showing) attempts before after grows at = tt
passes_more (Attempting Dropping) attempts before after grows at = tt
passes_more (Attempting Unlocking) attempts before after grows at = tt
passes_more (Attempting Exchanging) attempts before after grows at = tt
passes_more Resting attempts before after grows at = tt
passes_more (Ending clearing) attempts before after grows at = tt
passes_more (Finishing clearing) attempts before after grows at = tt
passes_more Finished attempts before after grows at = tt

-- LEMMAS OF BOOLEANS

pub and_left : (a b : Bool) → (a && b) ≡ true → a ≡ true
and_left true b is = refl
and_left false b is = absurd (false≢true is)

pub and_both : (a b : Bool) → a ≡ true → b ≡ true → (a && b) ≡ true
and_both true b one two = two
and_both false b one two = absurd (false≢true one)

-- PHASES

module _ (plan : PlanData) (shown : Bool) (passed : List ℕ) (renaming : Bool) (listed : List TableName) (attempts : ℕ) (asked : Bool) where
  abbrev At : Phase → Type 0
  At phase = PhaseOrder plan shown passed renaming listed attempts asked phase

  pub fails : (stage : Stage) → At (Attempting stage) → At (Ending Looking)
  fails stage at = record { counted = tt; passes = tt; shows = tt; holds = at.holds; drops = tt }

  pub ended_order : (phase : Phase) → At phase → At (ended phase)
  ended_order (Attempting Unlocking) at = at
  ended_order (Attempting Exchanging) at = at
  ended_order (Attempting Guarding) at = fails Guarding at
  ended_order (Attempting Locking) at = fails Locking at
  ended_order (Attempting Hinting) at = fails Hinting at
  ended_order (Attempting (ReadingCounter drain)) at = fails (ReadingCounter drain) at
  ended_order (Attempting (SettingCounter number drain)) at = fails (SettingCounter number drain) at
  ended_order (Attempting (Draining turns)) at = fails (Draining turns) at
  ended_order (Attempting Drained) at = fails Drained at
  ended_order (Attempting Showing) at = fails Showing at
  ended_order (Attempting Dropping) at = fails Dropping at
  ended_order Resting at = at
  ended_order (Ending clearing) at = at
  ended_order (Finishing clearing) at = at
  ended_order Finished at = at

  pub drained_order : (cutover : CutOver) (hint : ℕ) (phase : Phase) → cutover.attempts ≡ attempts → (0 < attempts → hint ≡ attempts → list_any (λ one. one == attempts) passed ≡ true) → At phase → At (drained cutover hint phase)
  drained_order cutover hint (Attempting (Draining turns)) same here at =
      drain_cases At cutover hint turns (Draining turns) (λ is. record { counted = at.counted; passes = here at.counted (is ∙ same); shows = tt; holds = at.holds; drops = tt }) (fails (Draining turns) at)
      (record { counted = at.counted; passes = tt; shows = tt; holds = at.holds; drops = tt })
  drained_order cutover hint (Attempting (ReadingCounter (Turns turns))) same here at =
      drain_cases At cutover hint turns (ReadingCounter (Turns turns)) (λ is. record { counted = at.counted; passes = here at.counted (is ∙ same); shows = tt; holds = at.holds; drops = tt }) (fails (ReadingCounter (Turns turns)) at)
      (record { counted = at.counted; passes = tt; shows = tt; holds = at.holds; drops = tt })
  drained_order cutover hint (Attempting (SettingCounter number (Turns turns))) same here at =
      drain_cases At cutover hint turns (SettingCounter number (Turns turns)) (λ is. record { counted = at.counted; passes = here at.counted (is ∙ same); shows = tt; holds = at.holds; drops = tt }) (fails (SettingCounter number (Turns turns)) at)
      (record { counted = at.counted; passes = tt; shows = tt; holds = at.holds; drops = tt })
  drained_order cutover hint (Attempting (ReadingCounter Passed)) same here at = at
  drained_order cutover hint (Attempting (SettingCounter number Passed)) same here at = at
  drained_order cutover hint (Attempting Guarding) same here at = at
  drained_order cutover hint (Attempting Locking) same here at = at
  drained_order cutover hint (Attempting Hinting) same here at = at
  drained_order cutover hint (Attempting Drained) same here at = at
  drained_order cutover hint (Attempting Showing) same here at = at
  drained_order cutover hint (Attempting Dropping) same here at = at
  drained_order cutover hint (Attempting Unlocking) same here at = at
  drained_order cutover hint (Attempting Exchanging) same here at = at
  drained_order cutover hint Resting same here at = at
  drained_order cutover hint (Ending clearing) same here at = at
  drained_order cutover hint (Finishing clearing) same here at = at
  drained_order cutover hint Finished same here at = at

  -- THE LOCKER

  moves : (stage next : Stage) → PassedAt (Attempting next) attempts passed → ShownAt (Attempting next) shown → At (Attempting stage) → At (Attempting next)
  moves stage next passes shows at = record { counted = at.counted; passes = passes; shows = shows; holds = at.holds; drops = tt }

  staged : (stage : Stage) (answer : Answer) → At (Attempting stage) → At (Attempting (locker_stage stage answer))
  staged Guarding (answers.Ok count) at = moves Guarding Locking tt tt at
  staged Locking (answers.Ok count) at = moves Locking Hinting tt tt at
  staged Dropping (answers.Ok count) at = moves Dropping Unlocking tt tt at
  staged Unlocking (answers.Ok count) at = moves Unlocking Exchanging tt tt at
  staged stage answer at = at

  -- outside the first step
  pub locked_order : (phase : Phase) (answer : Answer) → (phase ≡ Resting → ⊥) → At phase → At (locker_phase phase answer)
  locked_order Resting answer begun at = absurd (begun refl)
  locked_order (Attempting stage) answer begun at = by (is_bad answer) where
    by : (b : Bool) → At (cond b (Ending Looking) (Attempting (locker_stage stage answer)))
    by true = fails stage at
    by false = staged stage answer at
  locked_order (Ending clearing) answer begun at = at
  locked_order (Finishing clearing) answer begun at = at
  locked_order Finished answer begun at = at

-- THE ATTEMPT'S BEGIN

-- where no attempt is under way no RENAME is
pub rests_unheld : (renaming asked : Bool) → (renaming ≡ true → is_held Resting asked ≡ true) → renaming ≡ true → ⊥
rests_unheld renaming asked holds on = false≢true (holds on)

pub begun_order : (plan : PlanData) (passed : List ℕ) (renaming : Bool) (listed : List TableName) (attempts : ℕ) (asked : Bool) (answer : Answer) → (renaming ≡ true → ⊥) → PhaseOrder plan false passed renaming listed (attempts + 1) asked (locker_phase Resting answer)
begun_order plan passed renaming listed attempts asked (answers.Ok count) off = record { counted = omega arith; passes = tt; shows = tt; holds = λ on. absurd (off on); drops = tt }
begun_order plan passed renaming listed attempts asked (answers.Waits by) off = record { counted = omega arith; passes = tt; shows = tt; holds = λ on. absurd (off on); drops = tt }
begun_order plan passed renaming listed attempts asked answer off = record { counted = tt; passes = tt; shows = tt; holds = λ on. absurd (off on); drops = tt }

-- THE RENAMER

held_still : (phase : Phase) (asked : Bool) → is_held phase asked ≡ true → is_held phase true ≡ true
held_still (Attempting stage) asked is = refl
held_still (Ending clearing) asked is = refl
held_still (Finishing clearing) asked is = refl
held_still Finished asked is = refl
held_still Resting asked is = is

-- behind an answer to the renamer, where what is reported of the RENAME's call is what was, or the attempt is drained
module _ (plan : PlanData) (shown : Bool) (passed : List ℕ) (renaming : Bool) (listed : List TableName) (attempts : ℕ) (asked : Bool) where
  abbrev Before : Phase → Type 0
  Before phase = PhaseOrder plan shown passed renaming listed attempts asked phase

  abbrev After : Phase → Type 0
  After phase = PhaseOrder plan shown passed renaming listed attempts true phase

  asked_still : (phase : Phase) → Before phase → After phase
  asked_still phase at = record { counted = at.counted; passes = at.passes; shows = at.shows; holds = λ on. held_still phase asked (at.holds on); drops = at.drops }

  waits_order : (phase : Phase) → After phase → After (waits_phase phase)
  waits_order (Attempting Drained) at = record { counted = at.counted; passes = tt; shows = tt; holds = at.holds; drops = tt }
  waits_order (Attempting Guarding) at = at
  waits_order (Attempting Locking) at = at
  waits_order (Attempting Hinting) at = at
  waits_order (Attempting (ReadingCounter drain)) at = at
  waits_order (Attempting (SettingCounter number drain)) at = at
  waits_order (Attempting (Draining turns)) at = at
  waits_order (Attempting Showing) at = at
  waits_order (Attempting Dropping) at = at
  waits_order (Attempting Unlocking) at = at
  waits_order (Attempting Exchanging) at = at
  waits_order Resting at = at
  waits_order (Ending clearing) at = at
  waits_order (Finishing clearing) at = at
  waits_order Finished at = at

  failed_order : (phase : Phase) → After phase → After (failed phase)
  failed_order (Attempting stage) at = record { counted = tt; passes = tt; shows = tt; holds = at.holds; drops = tt }
  failed_order Resting at = at
  failed_order (Ending clearing) at = at
  failed_order (Finishing clearing) at = at
  failed_order Finished at = at

  answered_order : (phase : Phase) (answer : Answer) → After phase → After (renamer_phase phase answer)
  answered_order phase (answers.Ok count) at = record { counted = tt; passes = tt; shows = tt; holds = λ on. refl; drops = tt }
  answered_order phase (answers.Waits by) at = waits_order phase at
  answered_order phase answers.Lost at = failed_order phase at
  answered_order phase (answers.TimedOut waited) at = failed_order phase at
  answered_order phase answer at = at

  pub renamed_order : (phase : Phase) (answer : Answer) → Before phase → After (renamer_phase phase answer)
  renamed_order phase answer at = answered_order phase answer (asked_still phase at)

-- the RENAME's call
pub called_order : (plan : PlanData) (shown : Bool) (passed : List ℕ) (renaming : Bool) (listed : List TableName) (attempts : ℕ) (asked : Bool) (answer : Answer) → PhaseOrder plan shown passed renaming listed attempts asked (Attempting Drained)
    → PhaseOrder plan shown passed true listed attempts true (renamer_phase (Attempting Drained) answer)
called_order plan shown passed renaming listed attempts asked answer at =
    renamed_order plan shown passed true listed attempts true (Attempting Drained) answer (record { counted = at.counted; passes = at.passes; shows = tt; holds = λ on. refl; drops = tt })

-- THE INSPECTOR

-- what is dropped at the end
pub finishing_order : (plan : PlanData) (shown : Bool) (passed : List ℕ) (renaming : Bool) (listed : List TableName) (attempts : ℕ) (asked : Bool) (left : Leftovers) → (left.old ≡ true → plan.options.ok_to_drop_table ≡ true) → PhaseOrder plan shown passed renaming listed attempts asked (finishing left)
finishing_order plan shown passed renaming listed attempts asked left allowed = by (is_clear left) refl where
  by : (b : Bool) → is_clear left ≡ b → PhaseOrder plan shown passed renaming listed attempts asked (cond b Finished (Finishing (Drops left)))
  by true is = record { counted = tt; passes = tt; shows = tt; holds = λ on. refl; drops = tt }
  by false is = record { counted = tt; passes = tt; shows = tt; holds = λ on. refl; drops = (is, allowed) }

old_left : (left : Leftovers) → (without_first left).old ≡ true → left.old ≡ true
old_left left = by left.log left.new_table where
  by : (log new : Bool) → (cond log (record left { log = false }) (cond new (record left { new_table = false }) (record left { old = false }))).old ≡ true → left.old ≡ true
  by true new is = is
  by false true is = is
  by false false is = absurd (false≢true is)

-- a table that is dropped at the end is the old one only where that is left
pub first_order : (table : List ℕ) (left : Leftovers) → is_clear left ≡ false → (bytes_eq (first_name table left) (old_name table) ≡ false) ⊎ (left.old ≡ true)
first_order table left some = by left.log left.new_table left.old refl some where
  by : (log new old : Bool) → left.old ≡ old → (not log && not new && not old) ≡ false → (bytes_eq (cond log (log_name table) (cond new (ghost_name table) (old_name table))) (old_name table) ≡ false) ⊎ (left.old ≡ true)
  by true new old is some = inl (log_not_old table)
  by false true old is some = inl (ghost_not_old table)
  by false false true is some = inr is
  by false false false is some = absurd (true≢false some)

module _ (plan : PlanData) (cutover : CutOver) (own : cutover.table ≡ plan.table) (may : cutover.drops_old ≡ plan.options.ok_to_drop_table) (passed : List ℕ) (attempts : ℕ) (asked : Bool) where
  abbrev Of : Bool → Bool → List TableName → Phase → Type 0
  Of shown renaming listed phase = PhaseOrder plan shown passed renaming listed attempts asked phase

  left_allowed : (tables : List TableName) → (left_at_end cutover tables).old ≡ true → plan.options.ok_to_drop_table ≡ true
  left_allowed tables is = sym may ∙ and_left cutover.drops_old (has_name (old_name cutover.table) tables) is

  -- it lists the tables in an attempt's end
  pub seen_order : (shown renaming : Bool) (listed tables : List TableName) → Of shown renaming listed (Ending Looking) → Of shown (renaming && has_sentry plan.table tables) tables (seen cutover tables)
  seen_order shown renaming listed tables at = by (has_name (ghost_name cutover.table) tables) (has_sentry cutover.table tables) refl where
    sentry : (b : Bool) → has_sentry cutover.table tables ≡ b → has_sentry plan.table tables ≡ b
    sentry b is = ap (λ (t : List ℕ). has_sentry t tables) (sym own) ∙ is

    off : has_sentry cutover.table tables ≡ false → (renaming && has_sentry plan.table tables) ≡ true → ⊥
    off none on = no renaming (ap (λ (b : Bool). renaming && b) (sym (sentry false none)) ∙ on) where
      no : (r : Bool) → (r && false) ≡ true → ⊥
      no true is = false≢true is
      no false is = false≢true is

    by : (a b : Bool) → has_sentry cutover.table tables ≡ b → Of shown (renaming && has_sentry plan.table tables) tables (cond (not a) (finishing (left_at_end cutover tables)) (cond b (Ending (Drops sentry_alone)) Resting))
    by false b is = finishing_order plan shown passed (renaming && has_sentry plan.table tables) tables attempts asked (left_at_end cutover tables) (left_allowed tables)
    by true true is = record { counted = tt; passes = tt; shows = tt; holds = λ on. at.holds (and_left renaming (has_sentry plan.table tables) on); drops = sentry true is }
    by true false is = record { counted = tt; passes = tt; shows = tt; holds = λ on. absurd (off is on); drops = tt }

  -- it lists them after the RENAME, or drops the next one
  pub listed_order : (shown renaming : Bool) (listed tables : List TableName) → Of shown renaming listed (finishing (left_at_end cutover tables))
  listed_order shown renaming listed tables = finishing_order plan shown passed renaming listed attempts asked (left_at_end cutover tables) (left_allowed tables)

  pub dropped_order : (shown renaming : Bool) (listed : List TableName) (left : Leftovers) → (left.old ≡ true → plan.options.ok_to_drop_table ≡ true) → Of shown renaming listed (finishing (without_first left))
  dropped_order shown renaming listed left allowed = finishing_order plan shown passed renaming listed attempts asked (without_first left) (λ old. allowed (old_left left old))
