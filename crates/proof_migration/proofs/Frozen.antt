-- A migration whose copier and applier are done goes on in sessions that nobody is in.
use Rattle.std.proofs.Common.{◌≡◌, ◌<◌, ◌≤◌, ℕ, Bool, true, false, List, [], ◌∷◌, ◌++◌, Option, Some, None, refl, sym, ap, ◌∙◌, subst}
use Rattle.std.specs.Prelude.{◌==◌}
use Rattle.std.proofs.Math.Nat.{lt_of_le_of_lt}
use Rattle.base_script.specs.declared.actor.Actor.{Actor}
use Rattle.base_script.specs.declared.actor.Actor.TheVariants.{Apply, Copy}
use Rattle.server_model.specs.Entries.{is_command, is_cut, same_actor}
use Rattle.server_model.specs.States.{State}
use Rattle.server_model.specs.declared.answer.Answer.{Answer}
use Rattle.server_model.specs.declared.entry.Asked.{Asked}
use Rattle.server_model.specs.declared.entry.Asked.TheVariants.{Call, Command, Cut, Poll}
use Rattle.server_model.specs.declared.entry.Entry.{Entry}
use Rattle.server_model.specs.declared.request.Request.{Request}
use Rattle.server_model.specs.declared.request.Request.TheVariants as requests
use Rattle.plan_data.specs.PlanData.{PlanData}
use Rattle.base_values.specs.ToolNames.{ghost_name}
use Rattle.tool_program.specs.declared.event_applier.applier.ApplyStep.TheVariants.{Reading}
use Rattle.tool_program.specs.JournalWords.Journals.{opens, state_at}
use Rattle.tool_program.specs.JournalWords.Sessions.{sessions_named}
use Rattle.tool_program.specs.Programs.{given, tool_call}
use Rattle.tool_program.specs.Tools.{Migrating, Work, is_reverting, moment}
use Rattle.proof_journals.specs.Plans.{limits_of, scene_of}
use Rattle.proof_journals.specs.Turns.{about, reported_at}
use Rattle.proof_journals.proofs.Actors.{Placed, named_differs, placed, same_actor_is}
use Rattle.server_model.proofs.LockedRows.Tests.{turned}
use Rattle.proof_journals.specs.Ghost.Rows.Moments.{Row}
use Rattle.proof_journals.specs.Ghost.Rows.Timelines.{Migration}
use Rattle.proof_journals.specs.Ghost.HeldKeys.{Clustered}
use Rattle.proof_journals.specs.Run.Kept.{IsKept}
use Rattle.proof_journals.specs.Machine.Standings.{IsAbout, Standing, answered, free, is_called, is_polled, standing_of}
use Rattle.proof_journals.proofs.Machine.Journals.{Asking, IsRun, IsTogether, asking, calls_so, has_now, polls_so}
use Rattle.proof_journals.proofs.Machine.Marks.{Unmarked}
use Rattle.proof_journals.proofs.Machine.Seated.{IsServed, others_stand, own_lost}
use Rattle.proof_journals.proofs.Machine.Tabling.{Following, following, rests, waits_on}
use Rattle.proof_migration.specs.Migration.Away.{KeepsAway}
use Rattle.proof_migration.specs.Migration.Machines.{Machines, MigrationStands}
use Rattle.proof_migration.specs.Migration.Machines.MigrationTurn.{others_turn}
use Rattle.proof_migration.proofs.Migration.Migrating.{turns_keep}
use Rattle.proof_migration.specs.ToolPhase.Unaltered.{IsUnaltered}
use Rattle.proof_migration.proofs.ToolPhase.Unaltered.Away.{IsKnownAsked, all_asked, unaltered_front}
use Rattle.proof_migration.specs.Program.Turns.Laws.{IsMigrationOf}
use Rattle.proof_migration.proofs.Program.Turns.Asked.{gave, waits_with}
use Rattle.proof_migration.proofs.Program.Turns.Follows.{kept_front, kept_run, kept_scene, unmarked_now}
use Rattle.proof_migration.proofs.Program.Turns.Takes.{in_scene}
use Rattle.proof_migration.proofs.Program.Turns.Others.{ghost_named, others_away}
use Rattle.proof_migration.proofs.Stays.{MayStay, StandsAt, applier_stays}

-- WHAT THE TWO MAY STILL ASK

abbrev pub IsHarmless : Request → Type 0
IsHarmless requests.Rollback = Unit {0}
IsHarmless (requests.ReadLog position limit tables) = Unit {0}
IsHarmless request = ⊥

harmless_away : (m : Migration) (reported : Option Answer) (request : Request) → IsHarmless request → KeepsAway m reported request
harmless_away m reported requests.Rollback is = tt
harmless_away m reported (requests.ReadLog position limit tables) is = tt
harmless_away m reported request is = absurd is

abbrev pub WaitsHarmless : Option Request → Type 0
WaitsHarmless None = Unit {0}
WaitsHarmless (Some request) = IsHarmless request

waits_harmless : (waits : Option Request) (request : Request) → WaitsHarmless waits → waits ≡ Some request → IsHarmless request
waits_harmless waits request is some = subst WaitsHarmless some is

-- what the copier and the applier wait with
abbrev pub IsQuiet : PlanData → List Entry → Type 0
IsQuiet plan journal = WaitsHarmless (standing_of plan journal Copy).waits × WaitsHarmless (standing_of plan journal Apply).waits

-- what they are asked for next
abbrev pub CallsQuiet : PlanData → List Entry → Actor → Type 0
CallsQuiet plan journal actor = (request : Request) → tool_call plan (moment plan journal).server journal (moment plan journal).tool (moment plan journal).tool.tool_phase actor ≡ Some request → IsHarmless request

-- *Frozen*: the migration stands with a copier that has copied the range and an applier that reads, in sessions above these, and the
-- tool's applier is at the same position
pub record Frozen (plan : PlanData) (m : Migration) (at : Clustered m.schema) (rows : List Row) (above : ℕ) (journal : List Entry) : Type 0 where
  pub machines : Machines
  pub stands : MigrationStands m at rows (limits_of plan) (scene_of plan []) journal machines
  pub copied : machines.copier.is_copied ≡ true
  pub idle : machines.applier.step ≡ Reading
  pub here : StandsAt machines.applier.position (moment plan journal).tool.tool_phase
  pub copier_above : above < machines.copier_session
  pub applier_above : above < machines.applier_session
  pub quiet : IsQuiet plan journal

module _ (plan : PlanData) (m : Migration) (at : Clustered m.schema) (rows : List Row) (of : IsMigrationOf plan m rows) (above : ℕ) (journal : List Entry) (entry : Entry) (kept : IsKept plan (journal ++ entry ∷ [])) (off : IsUnaltered plan (journal ++ entry ∷ [])) (within : sessions_named (journal ++ entry ∷ []) ≤ above)
    (work : Work) (tool_phase : (moment plan journal).tool.tool_phase ≡ Migrating work) (copy_calls : CallsQuiet plan journal Copy) (apply_calls : CallsQuiet plan journal Apply) (frozen : Frozen plan m at rows above journal) where
  abbrev more : List Entry
  more = journal ++ entry ∷ []

  abbrev now : State
  now = state_at plan journal

  abbrev has : Actor → Standing
  has = standing_of plan journal

  before : IsKept plan journal
  before = kept_front plan journal (entry ∷ []) kept

  known : IsKnownAsked plan journal
  known = all_asked plan journal of.runs before.faithful before.follows

  run : IsRun plan journal entry
  run = kept_run plan journal entry kept

  together : IsTogether plan journal
  together = known.marking.tabled.all.tool

  served : IsServed plan journal entry
  served = record { answered = run.answered; seated = record { session = run.followed.session } }

  actor_state : Placed journal entry
  actor_state = placed journal entry served.seated

  unmarked : Unmarked plan journal work
  unmarked = unmarked_now plan journal work known (unaltered_front plan journal (entry ∷ []) off) tool_phase

  abbrev Asks : Actor → Type 0
  Asks actor = entry.actor ≡ actor → is_cut entry.asked ≡ false → Asking plan journal actor entry.asked

  copy_asking : Asks Copy
  unfolding given
  copy_asking same uncut = asking plan journal Copy entry.asked together.server (gave plan of.serial of.runs.fitting journal entry known run off Copy same uncut)

  apply_asking : Asks Apply
  unfolding given
  apply_asking same uncut = asking plan journal Apply entry.asked together.server (gave plan of.serial of.runs.fitting journal entry known run off Apply same uncut)

  -- the two's turns keep away
  two_away : (actor : Actor) → Asks actor → entry.actor ≡ actor → WaitsHarmless (has actor).waits → CallsQuiet plan journal actor → (asked : Asked) → entry.asked ≡ asked → (request : Request) → about (opens entry now) entry.session asked ≡ Some request → IsHarmless request
  two_away actor asking_so same quiet calls (Call called) asks request is = by (asking_so same (ap is_cut asks)) where
    by : Asking plan journal actor entry.asked → IsHarmless request
    by (calls_so other one idle call) =
        let both : Call called ≡ Call other = sym asks ∙ one in
        let two : called ≡ other = cc in
        let three : called ≡ request = cc in
        calls request (call ∙ ap Some (sym two ∙ three))
    by (polls_so other one some) = absurd (no (sym asks ∙ one)) where
      no : Call called ≡ Poll → ⊥
      no both = cc
  two_away actor asking_so same quiet calls Poll asks request is =
      waits_harmless (has actor).waits request quiet (ap (λ (a : Actor). (has a).waits) (sym same) ∙ waits_with plan of.serial of.runs.fitting journal entry known run off (ap is_command asks) request is)
  two_away actor asking_so same quiet calls Cut asks request is =
      waits_harmless (has actor).waits request quiet (ap (λ (a : Actor). (has a).waits) (sym same) ∙ waits_with plan of.serial of.runs.fitting journal entry known run off (ap is_command asks) request is)
  two_away actor asking_so same quiet calls (Command word) asks request is = absurd cc

  is_actor : (actor : Actor) → same_actor entry.actor actor ≡ true → entry.actor ≡ actor
  is_actor actor same = same_actor_is entry.actor actor same

  away : (request : Request) → about (opens entry now) entry.session entry.asked ≡ Some request → KeepsAway m (reported_at entry.side entry.answer entry.missed) request
  away request is = by (same_actor entry.actor Copy) refl (same_actor entry.actor Apply) refl where
    by_third : same_actor entry.actor Copy ≡ false → same_actor entry.actor Apply ≡ false → (asked : Asked) → entry.asked ≡ asked → KeepsAway m (reported_at entry.side entry.answer entry.missed) request
    by_third no_copy no_apply (Command word) asks = absurd (no (sym (ap (about (opens entry now) entry.session) asks) ∙ is)) where
      no : None ≡ Some request → ⊥
      no same = cc
    by_third no_copy no_apply (Call called) asks = others_away plan of.serial m of.of of.runs.fitting journal entry known run off work tool_phase unmarked (ap is_command asks) (no_copy, no_apply) request is
    by_third no_copy no_apply Poll asks = others_away plan of.serial m of.of of.runs.fitting journal entry known run off work tool_phase unmarked (ap is_command asks) (no_copy, no_apply) request is
    by_third no_copy no_apply Cut asks = others_away plan of.serial m of.of of.runs.fitting journal entry known run off work tool_phase unmarked (ap is_command asks) (no_copy, no_apply) request is

    by : (copy : Bool) → same_actor entry.actor Copy ≡ copy → (apply : Bool) → same_actor entry.actor Apply ≡ apply → KeepsAway m (reported_at entry.side entry.answer entry.missed) request
    by true copy apply so = harmless_away m (reported_at entry.side entry.answer entry.missed) request (two_away Copy copy_asking (is_actor Copy copy) frozen.quiet.0 copy_calls entry.asked refl request is)
    by false copy true so = harmless_away m (reported_at entry.side entry.answer entry.missed) request (two_away Apply apply_asking (is_actor Apply so) frozen.quiet.1 apply_calls entry.asked refl request is)
    by false copy false so = by_third copy so entry.asked refl

  apart : (n : ℕ) → above < n → (n == entry.session) ≡ false
  apart n less = turned entry.session n (named_differs journal entry together.known.sessions actor_state n (lt_of_le_of_lt within less))

  named_new : m.new.name ≡ ghost_name m.name
  named_new = ghost_named plan m of.of ∙ ap ghost_name (sym of.of.name)

  stands_now : MigrationStands m at rows (limits_of plan) (scene_of plan []) more frozen.machines
  stands_now =
      in_scene plan m at rows more [] more frozen.machines
      (turns_keep m at rows of.place of.planned of.is_place of.finds named_new (limits_of plan) (scene_of plan more) journal entry frozen.machines frozen.machines (kept_scene plan m rows of more kept off)
      (others_turn (record { sides = run.answered.sides; no_copier = apart frozen.machines.copier_session frozen.copier_above; no_applier = apart frozen.machines.applier_session frozen.applier_above; away = away }) refl)
      (in_scene plan m at rows [] more journal frozen.machines frozen.stands))

  -- what the two wait with behind the turn
  quiet_now : (actor : Actor) → Asks actor → WaitsHarmless (has actor).waits → CallsQuiet plan journal actor → WaitsHarmless (standing_of plan more actor).waits
  quiet_now actor asking_so quiet calls = by (same_actor entry.actor actor) refl where
    still : (request : Request) → entry.actor ≡ actor → IsAbout request (has actor) entry.asked → IsHarmless request → WaitsHarmless (standing_of plan more actor).waits
    still request same is_about harmless = by_after (following request entry.answer (has actor)) where
      waits_now : (standing_of plan more actor).waits ≡ (answered request entry.answer (has actor)).waits
      waits_now = ap (λ (s : Standing). s.waits) (has_now plan journal entry together run actor request same is_about)

      by_after : Following request entry.answer (has actor) → WaitsHarmless (standing_of plan more actor).waits
      by_after (rests none) = subst WaitsHarmless (sym (waits_now ∙ none)) tt
      by_after (waits_on one is) = subst WaitsHarmless (sym (waits_now ∙ ap (λ (a : Answer). (answered request a (has actor)).waits) is)) harmless

    asks : entry.actor ≡ actor → is_cut entry.asked ≡ false → WaitsHarmless (standing_of plan more actor).waits
    asks same uncut = by_asking (asking_so same uncut) where
      by_asking : Asking plan journal actor entry.asked → WaitsHarmless (standing_of plan more actor).waits
      by_asking (calls_so request asks idle call) = still request same (is_called asks idle) (calls request call)
      by_asking (polls_so request asks some) = still request same (is_polled asks some) (waits_harmless (has actor).waits request quiet some)

    lost : entry.actor ≡ actor → entry.asked ≡ Cut → WaitsHarmless (standing_of plan more actor).waits
    lost same cut = subst (λ (s : Standing). WaitsHarmless s.waits) (sym (subst (λ (a : Actor). standing_of plan more a ≡ free) same (own_lost plan journal entry together.known served cut))) tt

    own : entry.actor ≡ actor → (asked : Asked) → entry.asked ≡ asked → WaitsHarmless (standing_of plan more actor).waits
    own same Cut is = lost same is
    own same (Call request) is = asks same (ap is_cut is)
    own same Poll is = asks same (ap is_cut is)
    own same (Command word) is = asks same (ap is_cut is)

    by : (b : Bool) → same_actor entry.actor actor ≡ b → WaitsHarmless (standing_of plan more actor).waits
    by false other = subst (λ (s : Standing). WaitsHarmless s.waits) (sym (others_stand plan journal entry together.known served actor other)) quiet
    by true same = own (is_actor actor same) entry.asked refl

  position_is : work.applier.position ≡ frozen.machines.applier.position
  position_is = subst (StandsAt frozen.machines.applier.position) tool_phase frozen.here

  -- *One turn more*
  pub frozen_more : MayStay (is_reverting (moment plan journal).tool.reason) work → is_reverting (moment plan more).tool.reason ≡ true → Frozen plan m at rows above more
  frozen_more may on = record {
    machines = frozen.machines;
    stands = stands_now;
    copied = frozen.copied;
    idle = frozen.idle;
    here = subst (λ (n : ℕ). StandsAt n (moment plan more).tool.tool_phase) position_is (applier_stays plan journal entry work tool_phase may on);
    copier_above = frozen.copier_above;
    applier_above = frozen.applier_above;
    quiet = (quiet_now Copy copy_asking frozen.quiet.0 copy_calls, quiet_now Apply apply_asking frozen.quiet.1 apply_calls);
  }
