-- How many turns the setup takes, as far as each turn of it goes on.
use Rattle.std.specs.Prelude.{◌≡◌, ◌≤◌, ◌<◌, ◌+◌, ℕ, Bool, false, if◌then◌else◌, List, [], None}
use Rattle.base_script.specs.declared.actor.Actor.TheVariants.{Insp}
use Rattle.server_model.specs.Along.{Along}
use Rattle.server_model.specs.Entries.{is_command, is_cut}
use Rattle.server_model.specs.declared.entry.Entry.{Entry}
use Rattle.plan_data.specs.PlanData.{PlanData}
use Rattle.tool_program.specs.JournalWords.KeptPlans.{KeepsPlan}
use Rattle.tool_program.specs.declared.cutover_core.cutover.Leftovers.{Leftovers}
use Rattle.tool_program.specs.Setups.{Setup, Listing, Clearing, MakingLog, MakingGhost, Marking, Reaching, Ready, setup_after}
use Rattle.tool_program.specs.Tools.{ToolPhase, SettingUp, Migrating, is_reverting, moment}
use Rattle.proof_bounds.specs.Parts.{OfSetup, turns_of_part}
use Rattle.tool_program.specs.JournalWords.Bounds.{measures}
use Rattle.proof_bounds.specs.Terms.{term_of}

abbrev pub one_if : Bool → ℕ
one_if b = if b then 1 else 0

-- how many turns are left of a try of the setup
abbrev pub names_left : Leftovers → ℕ
names_left left = one_if left.log + one_if left.new_table + one_if left.old

abbrev pub setup_left : Setup → ℕ
setup_left Listing = 8
setup_left (Clearing left) = names_left left + 4
setup_left MakingLog = 4
setup_left MakingGhost = 3
setup_left Marking = 2
setup_left (Reaching position) = 1
setup_left (Ready position range) = 0

abbrev pub tool_phase_left : ToolPhase → ℕ
tool_phase_left (SettingUp setup tries) = setup_left setup
tool_phase_left (Migrating work) = 0

-- a turn of the setup that isn't lost is answered at once, and not refused: so fewer are left; and none is taken once all is
-- reverted
pub record SetupGoes (plan : PlanData) (before : List Entry) (entry : Entry) : Type 0 where
  pub on : (setup : Setup) (tries : List ℕ) → (moment plan before).tool.tool_phase ≡ SettingUp setup tries → entry.actor ≡ Insp → is_command entry.asked ≡ false → is_cut entry.asked ≡ false → entry.side ≡ None
      → setup_left (setup_after plan.table setup entry.answer) < setup_left setup
  pub lost : (setup : Setup) (tries : List ℕ) → (moment plan before).tool.tool_phase ≡ SettingUp setup tries → entry.actor ≡ Insp → is_command entry.asked ≡ false → is_cut entry.asked ≡ false → 1 ≤ setup_left setup
  pub going : (setup : Setup) (tries : List ℕ) → (moment plan before).tool.tool_phase ≡ SettingUp setup tries → entry.actor ≡ Insp → is_command entry.asked ≡ false → is_cut entry.asked ≡ false → is_reverting (moment plan before).tool.reason ≡ false

-- *The setup's turns are few*, where each goes on so: eight a try, and each try but the last ends with a loss
abbrev pub SetupTurnsAreFew : Type 0
SetupTurnsAreFew = (plan : PlanData) (journal : List Entry) → KeepsPlan plan journal → Along (SetupGoes plan) [] journal → turns_of_part OfSetup plan journal ≤ term_of OfSetup (measures plan)
