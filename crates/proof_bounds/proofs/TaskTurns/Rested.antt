-- Once the RENAME is done the applier has no turn, unless all is reverted: it was at rest then, and reads no more since the RENAME
-- was asked for.
use Rattle.std.proofs.Common.{◌≡◌, ℕ, ◌+◌, Bool, true, false, cond, not, ◌&&◌, List, [], ◌∷◌, ◌++◌, Option, Some, None, refl, sym, ap, ◌∙◌, subst}
use Rattle.std.specs.Prelude.{nat_lt}
use Rattle.std.specs.List.{list_any}
use Rattle.std.proofs.lemmas.Bool.{true≢false, false≢true}
use Rattle.std.proofs.lemmas.Option.{none-some}
use Rattle.base_script.specs.declared.actor.Actor.{Actor}
use Rattle.base_script.specs.declared.actor.Actor.TheVariants.{Op, Insp, Copy, Apply, Lock, Ren, Client}
use Rattle.server_model.specs.Entries.{is_command, is_cut, same_actor}
use Rattle.server_model.specs.declared.answer.Answer.{Answer}
use Rattle.server_model.specs.declared.answer.Answer.TheVariants as answers
use Rattle.server_model.specs.declared.entry.Asked.TheVariants.{Call, Poll, Command, Cut}
use Rattle.server_model.specs.declared.entry.Entry.{Entry}
use Rattle.server_model.specs.declared.outcome.Progress.{Progress}
use Rattle.server_model.specs.declared.outcome.Progress.TheVariants.{Going, TaskDone, TaskFailed, Unfit}
use Rattle.server_model.specs.declared.request.Request.{Request}
use Rattle.server_model.specs.declared.request.Request.TheVariants as requests
use Rattle.plan_data.specs.PlanData.{PlanData}
use Rattle.tool_program.specs.JournalWords.Histories.{answer_in, entry_adds, history, is_alter}
use Rattle.tool_program.specs.JournalWords.Journals.{state_at}
use Rattle.tool_program.specs.JournalWords.Sessions.{live_session}
use Rattle.tool_program.specs.declared.cutover_core.cutover.Phase.{Phase}
use Rattle.tool_program.specs.declared.cutover_core.cutover.Phase.TheVariants.{Resting, Attempting, Ending, Finishing, Finished}
use Rattle.tool_program.specs.declared.event_applier.applier.ApplyStep.{ApplyStep}
use Rattle.tool_program.specs.declared.event_applier.applier.ApplyStep.TheVariants.{Reading}
use Rattle.tool_program.specs.ChunkCopier.Copiers as copiers
use Rattle.tool_program.specs.EventApplier.Appliers as appliers
use Rattle.tool_program.specs.CutoverCore.CutOvers as cutovers
use Rattle.tool_program.specs.CutoverCore.CutOvers.{is_done, is_resting, stands}
use Rattle.tool_program.specs.Operators.{is_throttled}
use Rattle.tool_program.specs.Programs.{apply_call, given, is_held, may_read, rolls_back, tool_asks, tool_call, unread_in}
use Rattle.tool_program.specs.Setups.{Setup, Listing, Clearing, MakingLog, MakingGhost, Marking, Reaching, Ready}
use Rattle.tool_program.specs.Tools.{ToolPhase, SettingUp, Migrating, Tool, Work, is_reverting, stopped, tool_phase_of, moment}
use Rattle.proof_journals.specs.Machine.Machines.{ApplierStands, ToolPhaseStands, WorkStands, applier_asks, waits_so}
use Rattle.proof_journals.specs.Machine.Runnable.{IsRunnable}
use Rattle.proof_journals.specs.Machine.Standings.{Standing, free, needs_names, standing_of}
use Rattle.proof_journals.specs.Plans.{IsSerialPlan}
use Rattle.proof_journals.specs.Run.Kept.{IsKept}
use Rattle.proof_journals.specs.ServerTurns.Others.{DefinitionsAreDone, ExclusiveIsAlone}
use Rattle.proof_journals.proofs.Actors.{same_actor_is}
use Rattle.proof_journals.proofs.Machine.Calling.{reverting_or}
use Rattle.proof_journals.proofs.Machine.Journals.{Asking, IsRun, IsTogether, calls_so, polls_so, applier_had}
use Rattle.proof_journals.proofs.Machine.Seated.{IsServed, others_stand, own_lost}
use Rattle.proof_migration.specs.CutOver.{JournalsAreTurned}
use Rattle.proof_migration.specs.ToolPhase.Unaltered.{IsUnaltered}
use Rattle.proof_migration.specs.ToolPhase.Waits.{WaitsAreReported}
use Rattle.proof_migration.proofs.Attempt.Stages.{StandsAt, TablesAt}
use Rattle.proof_migration.proofs.Attempt.Standing.{ToolPhaseAt}
use Rattle.proof_migration.proofs.CutOver.Renames.{Found, reads, renames_found}
use Rattle.proof_migration.proofs.Once.Past.{ToolPhasePast}
use Rattle.proof_migration.proofs.Once.Renames.{exchanges, renaming, unaltered_more}
use Rattle.proof_migration.proofs.Program.Hints.Known.{hints_go}
use Rattle.proof_migration.proofs.Program.Turns.Follows.{kept_front, kept_run}
use Rattle.proof_migration.proofs.ToolPhase.ToolPhaseTurns.{Kept, UnfitKeeps}
use Rattle.proof_migration.proofs.ToolPhase.Unaltered.Away.{IsKnownAsked, all_asked}
use Rattle.proof_migration.proofs.KeptJournals.{each_kept}
use Rattle.proof_bounds.proofs.Going.{all_going}
use Rattle.proof_migration.proofs.Program.Turns.Reverting.{reverting_more}
use Rattle.proof_bounds.proofs.TaskTurns.OwnTurns.{command_other, own_asking}
use Rattle.proof_bounds.proofs.TaskTurns.Past.{past_at}
use Rattle.proof_bounds.proofs.TaskTurns.TurnRule.{AnswerLeaves, Applied, Copied, TurnLeaves, turn_left}

abbrev altered : PlanData → List Entry → Bool
altered plan journal = list_any is_alter (history plan journal)

-- it reads the log next, and the RENAME was asked for
record IsRested (work : Work) : Type 0 where
  step : work.applier.step ≡ Reading
  asked : work.cutover.is_asked ≡ true

abbrev Rests : Kept
Rests reverting (SettingUp setup tries) = Unit {0}
Rests reverting (Migrating work) = reverting ≡ false → IsRested work

-- what waits to read the log waits for no name
pub reads_none : (step : ApplyStep) (waits : Option Request) → step ≡ Reading → waits_so (applier_asks step) waits ≡ true → ((request : Request) → waits ≡ Some request → needs_names request ≡ true) → waits ≡ None
reads_none step None at kind names = refl
reads_none step (Some request) at kind names = absurd (by request (subst (λ (s : ApplyStep). applier_asks s request ≡ true) at kind) (names request refl)) where
  by : (request : Request) → applier_asks Reading request ≡ true → needs_names request ≡ true → ⊥
  by (requests.ReadLog position limit tables) kind needs = false≢true needs
  by request kind needs = false≢true kind

module _ (alone : ExclusiveIsAlone) (defined : DefinitionsAreDone) (reported : WaitsAreReported) (turned : JournalsAreTurned) (plan : PlanData) (runs : IsRunnable plan) (serial : IsSerialPlan plan) where
  record IsQuiet (journal : List Entry) : Type 0 where
    rests : altered plan journal ≡ true → Rests (is_reverting (moment plan journal).tool.reason) (moment plan journal).tool.tool_phase
    idle : altered plan journal ≡ true → is_reverting (moment plan journal).tool.reason ≡ false → (standing_of plan journal Apply).waits ≡ None

  -- no attempt is begun any more
  not_resting : (journal : List Entry) → IsKept plan journal → altered plan journal ≡ true → (work : Work) → (moment plan journal).tool.tool_phase ≡ Migrating work → is_resting work.cutover.phase ≡ false
  not_resting journal kept done work eq = by work.cutover.phase at.tables where
    at : StandsAt plan (state_at plan journal).tables (standing_of plan journal Insp).waits work.cutover.phase work.cutover.hold work.cutover.renamer_waits work.cutover.is_asked
    at = subst (ToolPhaseAt plan (state_at plan journal).tables (standing_of plan journal Insp).waits) eq (all_going plan journal runs serial kept).standing.tool_phase

    past : ToolPhasePast plan (state_at plan journal).tables (standing_of plan journal Insp).waits (Migrating work)
    past = subst (ToolPhasePast plan (state_at plan journal).tables (standing_of plan journal Insp).waits) eq (past_at defined plan runs serial journal kept done)

    by : (phase : Phase) → TablesAt plan (state_at plan journal).tables phase → is_resting phase ≡ false
    by Resting tables = absurd (none-some _ (sym past.0 ∙ tables.stand.ghost))
    by (Attempting stage) tables = refl
    by (Ending clearing) tables = refl
    by (Finishing clearing) tables = refl
    by Finished tables = refl

  module _ (journal : List Entry) (entry : Entry) (kept_more : IsKept plan (journal ++ entry ∷ [])) (is : IsQuiet journal) where
    abbrev more : List Entry
    more = journal ++ entry ∷ []

    abbrev tool : Tool
    tool = record (moment plan journal).tool { turns = (moment plan journal).tool.turns + 1 }

    abbrev on_now : Bool
    on_now = is_reverting (moment plan journal).tool.reason

    abbrev has : Actor → Standing
    has = standing_of plan journal

    kept : IsKept plan journal
    kept = kept_front plan journal (entry ∷ []) kept_more

    run : IsRun plan journal entry
    run = kept_run plan journal entry kept_more

    known : IsKnownAsked plan journal
    known = all_asked plan journal runs kept.faithful kept.follows

    together : IsTogether plan journal
    together = known.marking.tabled.all.tool

    served : IsServed plan journal entry
    served = record { answered = run.answered; seated = record { session = run.followed.session } }

    apply_given : given plan journal Apply ≡ tool_asks plan journal (moment plan journal) Apply
    unfolding given
    apply_given = refl

    ren_given : given plan journal Ren ≡ tool_asks plan journal (moment plan journal) Ren
    unfolding given
    ren_given = refl

    back : (b : Bool) (tool_phase : ToolPhase) → Rests b tool_phase → Rests true (stopped tool_phase)
    back b (SettingUp setup tries) now = tt
    back b (Migrating work) now = λ going. absurd (true≢false going)

    reverted : (work : Work) → Rests true (Migrating work)
    reverted work = λ going. absurd (true≢false going)

    drain : (b : Bool) (work : Work) (tries : List ℕ) → Rests b (Migrating work) → Rests b (Migrating (record work { cutover = cutovers.applier_turn work.applier.hint work.cutover; attempt_tries = tries }))
    unfolding cutovers.applier_turn
    drain b work tries now = λ going. record { step = (now going).step; asked = (now going).asked }

    begins : (setup : Setup) (tries : List ℕ) → Rests true (tool_phase_of plan tool.operator.size setup tries)
    begins Listing tries = tt
    begins (Clearing left) tries = tt
    begins MakingLog tries = tt
    begins MakingGhost tries = tt
    begins Marking tries = tt
    begins (Reaching position) tries = tt
    begins (Ready position range) tries = λ going. absurd (true≢false going)

    -- THE RENAME

    module _ (off : IsUnaltered plan journal) (alters : list_any is_alter (entry_adds plan journal entry) ≡ true) where
      found : Found plan journal entry
      found = renames_found alone defined reported turned plan journal entry runs serial (record { kept = kept_more; unaltered = off; alters = alters })

      ren : entry.actor ≡ Ren
      ren = (exchanges defined plan journal entry runs serial kept_more off alters).0

      uncut : entry.asked ≡ Cut → ⊥
      uncut cut = none-some _ (sym (ap (λ a. answer_in a entry.side entry.answer entry.missed) cut) ∙ (renaming defined plan journal entry runs serial kept_more off alters).is_reported)

      uncommanded : is_command entry.asked ≡ true → ⊥
      uncommanded command = true≢false (sym (ap (λ (a : Actor). same_actor a Ren) ren) ∙ command_other plan journal entry together run Ren ren_given command)

      renamed : AnswerLeaves plan Rests entry.answer tool Ren (Migrating found.work)
      unfolding cutovers.took
      renamed = λ tries going. record { step = reads found.work.applier.step found.whole.idle; asked = refl }

      rename_leaves : TurnLeaves plan Rests (moment plan journal).server entry tool
      rename_leaves = record {
        commanded = λ command. absurd (uncommanded command);
        idle = λ cut idle. absurd (uncut cut);
        lost = λ cut worked. absurd (uncut cut);
        heard = λ called cut. subst (λ (a : Actor). AnswerLeaves plan Rests entry.answer tool a (moment plan journal).tool.tool_phase) (sym ren) (subst (AnswerLeaves plan Rests entry.answer tool Ren) (sym found.tool_phase) renamed);
      }

      apply_idle : on_now ≡ false → (has Apply).waits ≡ None
      apply_idle going = reads_none found.work.applier.step (has Apply).waits (reads found.work.applier.step found.whole.idle) stood.stands.waits (hints_go plan journal runs serial kept off).names where
        work_stands : WorkStands journal on_now has found.work
        work_stands = subst (ToolPhaseStands journal has on_now) found.tool_phase together.stands

        stood : ApplierStands journal found.work.applier (has Apply)
        stood = applier_had plan journal entry together run found.work work_stands going

    -- LATER TURNS

    module _ (done : altered plan journal ≡ true) where
      here : (tool_phase : ToolPhase) → (moment plan journal).tool.tool_phase ≡ tool_phase → Rests on_now tool_phase
      here tool_phase eq = subst (Rests on_now) eq (is.rests done)

      -- the applier isn't asked
      none_asked : (work : Work) → (moment plan journal).tool.tool_phase ≡ Migrating work → on_now ≡ false → entry.actor ≡ Apply → is_cut entry.asked ≡ false → ⊥
      none_asked work eq going who uncut = by (own_asking plan journal entry together run Apply apply_given who uncut) where
        rested : IsRested work
        rested = here (Migrating work) eq going

        under_way : (phase : Phase) → is_done phase ≡ false → is_resting phase ≡ false → stands phase ≡ true
        under_way Resting undone unrested = absurd (true≢false unrested)
        under_way (Attempting stage) undone unrested = refl
        under_way (Ending clearing) undone unrested = refl
        under_way (Finishing clearing) undone unrested = absurd (true≢false undone)
        under_way Finished undone unrested = absurd (true≢false undone)

        held_so : is_done work.cutover.phase ≡ false → is_held plan (moment plan journal).server (moment plan journal).tool work ≡ true
        held_so undone =
            ap (λ (b : Bool). cond b work.cutover.is_asked (is_throttled plan (moment plan journal).server (moment plan journal).tool.operator)) (under_way work.cutover.phase undone (not_resting journal kept done work eq)) ∙ rested.asked

        never : (b : Bool) → (b && not true) ≡ false
        never true = refl
        never false = refl

        none : (request : Request) (b : Bool) → is_done work.cutover.phase ≡ b → cond b None (cond (appliers.starts work.applier && not (may_read plan (moment plan journal).server (moment plan journal).tool work)) None (Some (appliers.next journal work.applier))) ≡ Some request → ⊥
        none request true over call = cc
        none request false undone call = no (sym same ∙ call) where
          no : None ≡ Some request → ⊥
          no both = cc

          same : cond (appliers.starts work.applier && not (may_read plan (moment plan journal).server (moment plan journal).tool work)) None (Some (appliers.next journal work.applier)) ≡ None
          same =
              ap (λ (b : Bool). cond (appliers.starts work.applier && not (nat_lt 0 (unread_in (moment plan journal).server work) && not b)) None (Some (appliers.next journal work.applier))) (held_so undone)
              ∙ ap (λ (b : Bool). cond (appliers.starts work.applier && not b) None (Some (appliers.next journal work.applier))) (never (nat_lt 0 (unread_in (moment plan journal).server work)))
              ∙ ap (λ (s : ApplyStep). cond (appliers.is_reading s && not false) None (Some (appliers.next journal work.applier))) rested.step

        by : Asking plan journal Apply entry.asked → ⊥
        by (calls_so request asks idle call) =
            reverting_or ⊥ on_now (rolls_back (moment plan journal).server (live_session journal Apply)) (apply_call plan (moment plan journal).server journal (moment plan journal).tool work) request
            (ap (λ (c : ToolPhase). tool_call plan (moment plan journal).server journal (moment plan journal).tool c Apply) (sym eq) ∙ call) (λ reverting back_so. true≢false (sym reverting ∙ going)) (λ goes asks_next. none request (is_done work.cutover.phase) refl asks_next)
        by (polls_so request asks waits) = none-some request (sym (is.idle done going) ∙ waits)

      unfit : (work : Work) → on_now ≡ false → Rests on_now (Migrating work) → UnfitKeeps Rests work
      unfit work going now = record { renamed = λ renamed. subst (λ (b : Bool). Rests b (Migrating work)) going now; reverts = λ on. absurd (true≢false on) }

      copied : (answer : Answer) (work : Work) → Rests on_now (Migrating work) → on_now ≡ false → (code : Progress) → Copied Rests answer tool work code
      copied answer work now going Going = λ off. record { step = (now going).step; asked = (now going).asked }
      copied answer work now going TaskDone = λ off. record { step = (now going).step; asked = (now going).asked }
      copied answer work now going TaskFailed = λ off. record { step = (now going).step; asked = (now going).asked }
      copied answer work now going (Unfit place number) = unfit work going now

      lost_applied : (work : Work) → Rests on_now (Migrating work) → on_now ≡ false → (code : Progress) → Applied Rests answers.Lost tool work code
      unfolding appliers.took
      lost_applied work now going Going = λ off. record { step = refl; asked = (now going).asked }
      lost_applied work now going TaskDone = λ off. record { step = refl; asked = (now going).asked }
      lost_applied work now going TaskFailed = λ off. record { step = refl; asked = (now going).asked }
      lost_applied work now going (Unfit place number) = unfit work going now

      -- an answer leaves it at rest; the applier has none but that its session is lost
      leaves : (answer : Answer) → (entry.actor ≡ Apply → (work : Work) → (moment plan journal).tool.tool_phase ≡ Migrating work → on_now ≡ false → (code : Progress) → Applied Rests answer tool work code) → (actor : Actor) → entry.actor ≡ actor → (tool_phase : ToolPhase) → (moment plan journal).tool.tool_phase ≡ tool_phase
          → AnswerLeaves plan Rests answer tool actor tool_phase
      unfolding cutovers.took
      leaves answer own Insp who (SettingUp setup tries) eq = absurd (subst (ToolPhasePast plan (state_at plan journal).tables (standing_of plan journal Insp).waits) eq (past_at defined plan runs serial journal kept done))
      leaves answer own Insp who (Migrating work) eq = λ tries going. record { step = (here (Migrating work) eq going).step; asked = (here (Migrating work) eq going).asked }
      leaves answer own Lock who (Migrating work) eq = λ tries going. record {
        step = (here (Migrating work) eq going).step;
        asked = ap (λ (b : Bool). cond b false work.cutover.is_asked) (not_resting journal kept done work eq) ∙ (here (Migrating work) eq going).asked;
      }
      leaves answer own Ren who (Migrating work) eq = λ tries going. record { step = (here (Migrating work) eq going).step; asked = refl }
      leaves answer own Copy who (Migrating work) eq = record { reverting = λ on. reverted work; going = λ going. copied answer work (here (Migrating work) eq) going (copiers.progress work.copier answer) }
      leaves answer own Apply who (Migrating work) eq = record { reverting = λ on. reverted work; going = λ going. own who work eq going (appliers.progress work.applier answer) }
      leaves answer own Op who (Migrating work) eq = here (Migrating work) eq
      leaves answer own (Client c) who (Migrating work) eq = here (Migrating work) eq
      leaves answer own Op who (SettingUp setup tries) eq = tt
      leaves answer own (Client c) who (SettingUp setup tries) eq = tt
      leaves answer own Copy who (SettingUp setup tries) eq = tt
      leaves answer own Apply who (SettingUp setup tries) eq = tt
      leaves answer own Lock who (SettingUp setup tries) eq = tt
      leaves answer own Ren who (SettingUp setup tries) eq = tt

      later_leaves : TurnLeaves plan Rests (moment plan journal).server entry tool
      later_leaves = record {
        commanded = λ command. is.rests done;
        idle = λ cut idle. is.rests done;
        lost = λ cut worked. leaves answers.Lost (λ who work eq going code. lost_applied work (here (Migrating work) eq) going code) entry.actor refl (moment plan journal).tool.tool_phase refl;
        heard = λ called uncut. leaves entry.answer (λ who work eq going code. absurd (none_asked work eq going who uncut)) entry.actor refl (moment plan journal).tool.tool_phase refl;
      }

      still_idle : on_now ≡ false → (standing_of plan more Apply).waits ≡ None
      still_idle going = by (same_actor entry.actor Apply) refl where
        own : entry.actor ≡ Apply → is_cut entry.asked ≡ true
        own who = by_cut (is_cut entry.asked) refl where
          by_cut : (b : Bool) → is_cut entry.asked ≡ b → b ≡ true
          by_cut true cut = refl
          by_cut false uncut = absurd (in_phase (moment plan journal).tool.tool_phase refl) where
            in_phase : (tool_phase : ToolPhase) → (moment plan journal).tool.tool_phase ≡ tool_phase → ⊥
            in_phase (SettingUp setup tries) eq = subst (ToolPhasePast plan (state_at plan journal).tables (standing_of plan journal Insp).waits) eq (past_at defined plan runs serial journal kept done)
            in_phase (Migrating work) eq = none_asked work eq going who uncut

        cut_of : (asked : _) → entry.asked ≡ asked → is_cut asked ≡ true → entry.asked ≡ Cut
        cut_of Cut same cut = same
        cut_of (Call request) same cut = absurd (false≢true cut)
        cut_of Poll same cut = absurd (false≢true cut)
        cut_of (Command word) same cut = absurd (false≢true cut)

        by : (b : Bool) → same_actor entry.actor Apply ≡ b → (standing_of plan more Apply).waits ≡ None
        by false differ = ap (λ (s : Standing). s.waits) (others_stand plan journal entry together.known served Apply differ) ∙ is.idle done going
        by true same =
            let who = same_actor_is entry.actor Apply same in
            ap (λ (s : Standing). s.waits) (subst (λ (a : Actor). standing_of plan more a ≡ free) who (own_lost plan journal entry together.known served (cut_of entry.asked refl (own who))))

    -- ONE TURN MORE

    still_going : is_reverting (moment plan more).tool.reason ≡ false → on_now ≡ false
    still_going going = by on_now refl where
      by : (b : Bool) → on_now ≡ b → b ≡ false
      by false off = refl
      by true on = absurd (true≢false (sym (reverting_more plan journal entry on) ∙ going))

    quiet_more : IsQuiet more
    quiet_more = by (altered plan journal) refl (list_any is_alter (entry_adds plan journal entry)) refl where
      by : (b : Bool) → altered plan journal ≡ b → (c : Bool) → list_any is_alter (entry_adds plan journal entry) ≡ c → IsQuiet more
      by true done c now = record { rests = λ done_now. turn_left plan Rests back journal entry drain (λ b work size held going. record { step = (held going).step; asked = (held going).asked }) (later_leaves done); idle = λ done_now going. still_idle done (still_going going) }
      by false off true alters = record {
        rests = λ done_now. turn_left plan Rests back journal entry drain (λ b work size held going. record { step = (held going).step; asked = (held going).asked }) (rename_leaves off alters);
        idle = λ done_now going.
            ap (λ (s : Standing). s.waits) (others_stand plan journal entry together.known served Apply (ap (λ (a : Actor). same_actor a Apply) (ren off alters)))
            ∙ apply_idle off alters (still_going going);
      }
      by false off false none = record { rests = λ done_now. absurd (true≢false (sym done_now ∙ unaltered_more plan journal entry off none)); idle = λ done_now going. absurd (true≢false (sym done_now ∙ unaltered_more plan journal entry off none)) }

  quiet_begins : IsQuiet []
  unfolding history
  quiet_begins = record { rests = λ done. absurd (false≢true done); idle = λ done going. absurd (false≢true done) }

  all_quiet : (journal : List Entry) → IsKept plan journal → IsQuiet journal
  all_quiet journal kept = each_kept plan IsQuiet (λ before entry one is. quiet_more before entry one is) journal kept quiet_begins

  -- *Once the RENAME is done the applier has no turn*
  pub no_turns : (journal : List Entry) (entry : Entry) → IsKept plan (journal ++ entry ∷ []) → (work : Work) → (moment plan journal).tool.tool_phase ≡ Migrating work → is_reverting (moment plan journal).tool.reason ≡ false → list_any is_alter (history plan journal) ≡ true → entry.actor ≡ Apply → is_cut entry.asked ≡ false → ⊥
  no_turns journal entry kept_more work eq going done who uncut = none_asked journal entry kept_more (all_quiet journal (kept_front plan journal (entry ∷ []) kept_more)) done work eq going who uncut
