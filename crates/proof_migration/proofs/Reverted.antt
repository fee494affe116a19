-- Over a whole journal, reverted or not: where the RENAME is done the migration is frozen, so the new table is the altered one.
use Rattle.std.proofs.Common.{◌≡◌, ◌≤◌, ◌+◌, ℕ, Bool, true, false, cond, List, [], ◌∷◌, ◌++◌, drop, Option, Some, None, refl, sym, ap, ◌∙◌, subst, inl, inr, append-nil, append_assoc, arith}
use Rattle.std.specs.List.{list_any}
use Rattle.std.proofs.Math.Nat.{le_refl}
use Rattle.std.proofs.lemmas.Bool.{true≢false}
use Rattle.std.proofs.lemmas.Option.{none-some}
use Rattle.base_values.specs.Laws.{StoresAgain}
use Rattle.table_store.specs.Databases.{find_table}
use Rattle.base_script.specs.declared.actor.Actor.{Actor}
use Rattle.base_script.specs.declared.actor.Actor.TheVariants.{Apply, Copy, Lock, Ren}
use Rattle.server_model.specs.Along.{Along, Along-more}
use Rattle.server_model.specs.States.{State}
use Rattle.server_model.specs.declared.entry.Entry.{Entry}
use Rattle.server_model.specs.declared.request.Request.{Request}
use Rattle.server_model.specs.declared.request.Request.TheVariants as requests
use Rattle.plan_data.specs.PlanData.{PlanData}
use Rattle.tool_program.specs.CutoverCore.Attempts as attempts
use Rattle.tool_program.specs.CutoverCore.Attempts.{renamer_call}
use Rattle.tool_program.specs.CutoverCore.CutOvers as cutovers
use Rattle.tool_program.specs.declared.cutover_core.cutover.Clearing.TheVariants.{Looking}
use Rattle.tool_program.specs.declared.cutover_core.cutover.Phase.{Phase}
use Rattle.tool_program.specs.declared.cutover_core.cutover.Phase.TheVariants.{Attempting, Ending}
use Rattle.tool_program.specs.declared.cutover_core.cutover.Role.TheVariants.{Renamer}
use Rattle.tool_program.specs.declared.cutover_core.cutover.Stage.TheVariants.{Drained}
use Rattle.tool_program.specs.declared.event_applier.applier.ApplyStep.TheVariants.{Reading}
use Rattle.tool_program.specs.EventApplier.Appliers.{events_of}
use Rattle.tool_program.specs.JournalWords.Histories.{entry_adds, is_alter}
use Rattle.tool_program.specs.JournalWords.Journals.{state_at}
use Rattle.tool_program.specs.JournalWords.Sessions.{live_session, sessions_named}
use Rattle.tool_program.specs.Programs.{apply_call, copy_call, in_transaction, rolls_back, tool_call}
use Rattle.tool_program.specs.Setups.{Setup}
use Rattle.tool_program.specs.Tools.{ToolPhase, Migrating, SettingUp, Work, is_reverting, moment}
use Rattle.proof_journals.specs.Plans.{IsSerialPlan, limits_of, scene_of}
use Rattle.proof_journals.proofs.Actors.{named_keeps, placed}
use Rattle.proof_journals.specs.ServerTurns.Others.{DefinitionsAreDone, ExclusiveIsAlone}
use Rattle.proof_journals.specs.Ghost.Rows.Moments.{Row}
use Rattle.proof_journals.specs.Ghost.Rows.Timelines.{Migration}
use Rattle.proof_journals.specs.Ghost.Copies.{IsAltered}
use Rattle.proof_journals.specs.Ghost.HeldKeys.{Clustered}
use Rattle.proof_journals.proofs.Ghost.Keys.{clustered}
use Rattle.proof_migration.specs.Migration.Planning.{migration_of}
use Rattle.proof_journals.specs.Run.Kept.{IsKept}
use Rattle.proof_journals.specs.Machine.Machines.{ToolPhaseStands, WorkStands, renaming}
use Rattle.proof_journals.specs.Machine.Runnable.{IsRunnable}
use Rattle.proof_journals.specs.Machine.Standings.{Standing, standing_of}
use Rattle.proof_journals.proofs.Machine.Journals.{Asking, IsRun, IsTogether, calls_so, polls_so}
use Rattle.proof_migration.proofs.Migration.Migrating.{ends}
use Rattle.proof_migration.specs.ToolPhase.Runnable.{AlterablePlansAreRunnable, IsAlterable, IsWorded}
use Rattle.proof_migration.specs.ToolPhase.Unaltered.{IsUnaltered}
use Rattle.proof_migration.proofs.ToolPhase.Unaltered.Away.{IsKnownAsked, all_asked, unaltered_front}
use Rattle.proof_migration.proofs.ToolPhase.Ready.Going.{ToolPhaseGoes, all_going}
use Rattle.proof_journals.specs.Sentry.Sentries.{Fits, HasSentry, scene}
use Rattle.proof_journals.specs.Sentry.TurnResults.{AskedTurn, ToolPhaseHolds, ToolPhaseTurn, Holds, IsGuarded, IsTurned, last_session}
use Rattle.proof_journals.proofs.Sentry.Inductions.{all_guarded}
use Rattle.proof_migration.specs.ToolPhase.Waits.{WaitsAreReported}
use Rattle.proof_migration.specs.Program.Turns.Goes.{Goes}
use Rattle.proof_migration.specs.Program.Turns.Laws.{GoesSomehow, IsMark, IsMigrationOf}
use Rattle.proof_migration.proofs.Program.Turns.Follows.{kept_front, kept_run, kept_scene}
use Rattle.proof_migration.proofs.Program.Turns.Takes.{in_scene}
use Rattle.proof_migration.specs.Program.Laws.{FollowersAlter}
use Rattle.proof_migration.proofs.Program.Follows.{migration, own_table}
use Rattle.proof_migration.proofs.Program.Starts.{followers_go}
use Rattle.proof_migration.specs.ToolPhase.Marked.{IsMarkedAt, MarkedJournalsAreSerial}
use Rattle.proof_migration.specs.Once.{RenamesComeOnce}
use Rattle.proof_migration.specs.CutOver.{IsRename, JournalsAreTurned}
use Rattle.proof_migration.proofs.CutOver.Renames.{Found, reads, renames_found, renames_marked}
use Rattle.proof_migration.specs.Laws.{KeptJournalsAreSerial, RenamesFindTheAltered}
use Rattle.proof_migration.proofs.Begins.{applier_quiet, copier_quiet, frozen_here}
use Rattle.proof_migration.proofs.Frozen.{CallsQuiet, Frozen, IsHarmless, frozen_more}
use Rattle.proof_migration.proofs.Guarded.{IsAtDrained, Left, gone_so, left_after, left_drained, left_so, left_unasked, rests_on, sentry_on}
use Rattle.proof_migration.proofs.Stays.{StandsAt}

-- behind a reverted journal: the RENAME doesn't wait, or the sentry stands, or the migration is frozen
data Held (plan : PlanData) (m : Migration) (at : Clustered m.schema) (rows : List Row) (above : ℕ) (journal : List Entry) : Type 0 where
  rests_so : (standing_of plan journal Ren).waits ≡ None → Held plan m at rows above journal
  stands_so : HasSentry plan.table (scene (state_at plan journal)) → Held plan m at rows above journal
  frozen_so : Frozen plan m at rows above journal → Held plan m at rows above journal

called_drained : (work : Work) (request : Request) → attempts.next Renamer work.cutover ≡ Some request → IsAtDrained work.cutover.phase
unfolding attempts.next
called_drained work request = by work.cutover.phase where
  by : (phase : Phase) → renamer_call work.cutover phase ≡ Some request → IsAtDrained phase
  by (Attempting Drained) is = tt
  by phase is = absurd cc

ended_undrained : (phase : Phase) → cutovers.ended phase ≡ phase → IsAtDrained phase → ⊥
ended_undrained (Attempting Drained) ended at = no ended where
  no : Ending Looking ≡ Attempting Drained → ⊥
  no same = cc
ended_undrained phase ended at = at

ending_undrained : (phase : Phase) → phase ≡ Ending Looking → IsAtDrained phase → ⊥
ending_undrained phase is at = subst IsAtDrained is at

waits_none : (table : List ℕ) (b : Bool) (standing : Standing) → standing ≡ renaming table b → b ≡ false → standing.waits ≡ None
waits_none table true standing is off = absurd (true≢false off)
waits_none table false standing is off = ap (λ (s : Standing). s.waits) is

harmless_rollback : (b : Bool) (request : Request) → cond b (Some requests.Rollback) None ≡ Some request → IsHarmless request
harmless_rollback true request is = let one : requests.Rollback ≡ request = cc in subst IsHarmless one tt
harmless_rollback false request is = absurd cc

module _ (plan : PlanData) (m : Migration) (at : Clustered m.schema) (rows : List Row) (of : IsMigrationOf plan m rows) (found : find_table m.name plan.tables ≡ Some (record { schema = m.schema; rows = rows })) (above : ℕ) where
  -- ONE TURN

  module _ (journal : List Entry) (entry : Entry) (kept : IsKept plan (journal ++ entry ∷ [])) (off : IsUnaltered plan (journal ++ entry ∷ [])) (within : sessions_named (journal ++ entry ∷ []) ≤ above) (within_before : sessions_named journal ≤ above) (guarded : IsGuarded plan journal) (turned : IsTurned plan journal entry) where
    abbrev more : List Entry
    more = journal ++ entry ∷ []

    abbrev has : Actor → Standing
    has = standing_of plan journal

    abbrev HeldMore : Type 0
    HeldMore = Held plan m at rows above more

    before : IsKept plan journal
    before = kept_front plan journal (entry ∷ []) kept

    off_before : IsUnaltered plan journal
    off_before = unaltered_front plan journal (entry ∷ []) off

    known : IsKnownAsked plan journal
    known = all_asked plan journal of.runs before.faithful before.follows

    then_known : IsKnownAsked plan more
    then_known = all_asked plan more of.runs kept.faithful kept.follows

    run : IsRun plan journal entry
    run = kept_run plan journal entry kept

    together : IsTogether plan journal
    together = known.marking.tabled.all.tool

    then_together : IsTogether plan more
    then_together = then_known.marking.tabled.all.tool

    setup_held : (setup : Setup) (tries : List ℕ) → (moment plan journal).tool.tool_phase ≡ SettingUp setup tries → HeldMore
    setup_held setup tries tool_phase =
        rests_so (rests_on plan journal entry together run (ap (λ (s : Standing). s.waits) (subst (ToolPhaseStands journal has (is_reverting (moment plan journal).tool.reason)) tool_phase together.stands).renamer)
        (λ request call. none-some request (ap (λ (c : ToolPhase). tool_call plan (moment plan journal).server journal (moment plan journal).tool c Ren) (sym tool_phase) ∙ call)))

    module _ (work : Work) (tool_phase : (moment plan journal).tool.tool_phase ≡ Migrating work) where
      stands : WorkStands journal (is_reverting (moment plan journal).tool.reason) has work
      stands = subst (ToolPhaseStands journal has (is_reverting (moment plan journal).tool.reason)) tool_phase together.stands

      holds : Holds plan (state_at plan journal) (last_session journal Lock) (last_session journal Ren) work
      holds = subst (λ (s : State). Holds plan s (last_session journal Lock) (last_session journal Ren) work) together.server (subst (ToolPhaseHolds plan (moment plan journal).server (last_session journal Lock) (last_session journal Ren)) tool_phase guarded.tool_phase)

      asked : AskedTurn plan (state_at plan journal) (state_at plan more) (last_session journal Lock) (last_session journal Ren) work ((moment plan journal).tool.turns + 1) entry entry.asked
      asked =
          subst (λ (s : State). AskedTurn plan (state_at plan journal) s (last_session journal Lock) (last_session journal Ren) work ((moment plan journal).tool.turns + 1) entry entry.asked) then_together.server
          (subst (λ (s : State). AskedTurn plan s (moment plan more).server (last_session journal Lock) (last_session journal Ren) work ((moment plan journal).tool.turns + 1) entry entry.asked) together.server
          (subst (λ (c : ToolPhase). ToolPhaseTurn plan (moment plan journal).server (moment plan more).server (last_session journal Lock) (last_session journal Ren) c ((moment plan journal).tool.turns + 1) entry) tool_phase turned.turn))

      -- the RENAME neither waits nor is asked for
      unasked : (has Ren).waits ≡ None → (IsAtDrained work.cutover.phase → ⊥) → HeldMore
      unasked none never =
          rests_so (rests_on plan journal entry together run none (λ request call. never (called_drained work request (ap (λ (c : ToolPhase). tool_call plan (moment plan journal).server journal (moment plan journal).tool c Ren) (sym tool_phase) ∙ call))))

      unwaited : work.cutover.renamer_waits ≡ false → (has Ren).waits ≡ None
      unwaited = waits_none work.cutover.table work.cutover.renamer_waits (has Ren) stands.renamer

      -- an attempt has failed, and the sentry stands
      after_it : work.cutover.phase ≡ Ending Looking → HasSentry plan.table (scene (state_at plan journal)) → HeldMore
      after_it looking sentry = by work.cutover.renamer_waits refl (standing_of plan more Ren).waits refl where
        by : (waits : Bool) → work.cutover.renamer_waits ≡ waits → (then : Option Request) → (standing_of plan more Ren).waits ≡ then → HeldMore
        by false is then waits = unasked (unwaited is) (ending_undrained work.cutover.phase looking)
        by true is None waits = rests_so waits
        by true is (Some request) waits =
            stands_so
            (sentry_on plan journal entry together run work looking (subst (λ (w : Bool). Fits (Ending Looking) work.cutover.hold w) is (subst (λ (p : Phase). Fits p work.cutover.hold work.cutover.renamer_waits) looking holds.fits)) request waits (state_at plan journal) (state_at plan more)
            (last_session journal Lock) (last_session journal Ren) ((moment plan journal).tool.turns + 1) sentry entry.asked refl asked)

      left : Left plan.table (state_at plan journal) work.copier work.applier work.cutover.phase work.cutover.renamer_waits
      left = left_so plan.table (state_at plan journal) work.copier work.applier work.cutover (last_session journal Lock) (last_session journal Ren) work.cutover.phase work.cutover.renamer_waits refl holds.fits holds.guards

      -- the turn that reverts all
      turns_held : is_reverting (moment plan journal).tool.reason ≡ false → is_reverting (moment plan more).tool.reason ≡ true → HeldMore
      turns_held going on = by left where
        somehow : GoesSomehow plan m at rows journal
        somehow = followers_go plan m at rows of found journal work before off_before going tool_phase

        same_work : (one other : Work) → Migrating one ≡ Migrating other → one ≡ other
        same_work one other same = cc

        goes_here : Goes plan m at rows journal work
        goes_here = subst (Goes plan m at rows journal) (same_work somehow.work work (sym somehow.tool_phase ∙ tool_phase)) somehow.goes

        by : Left plan.table (state_at plan journal) work.copier work.applier work.cutover.phase work.cutover.renamer_waits → HeldMore
        by (left_unasked none never) = unasked (unwaited none) never
        by (left_after looking sentry) = after_it looking sentry
        by (left_drained drained undrained) =
            let reading : work.applier.step ≡ Reading = reads work.applier.step drained.idle in
            frozen_so
            (frozen_more plan m at rows of above journal entry kept off within work tool_phase (copier_quiet plan m at rows above journal known within_before work tool_phase goes_here drained.copied reading going)
            (applier_quiet plan m at rows above journal known within_before work tool_phase goes_here drained.copied reading going) (frozen_here plan m at rows above journal known within_before work tool_phase goes_here drained.copied reading) (inr (reading, undrained)) on)

      -- a turn while all is reverted
      rollback_quiet : is_reverting (moment plan journal).tool.reason ≡ true → CallsQuiet plan journal Copy × CallsQuiet plan journal Apply
      rollback_quiet on = (
        λ request call.
            harmless_rollback (in_transaction (moment plan journal).server (live_session journal Copy)) request
            (ap (λ (b : Bool). cond b (rolls_back (moment plan journal).server (live_session journal Copy)) (copy_call plan (moment plan journal).server journal (moment plan journal).tool work)) (sym on)
            ∙ ap (λ (c : ToolPhase). tool_call plan (moment plan journal).server journal (moment plan journal).tool c Copy) (sym tool_phase) ∙ call),
        λ request call.
            harmless_rollback (in_transaction (moment plan journal).server (live_session journal Apply)) request
            (ap (λ (b : Bool). cond b (rolls_back (moment plan journal).server (live_session journal Apply)) (apply_call plan (moment plan journal).server journal (moment plan journal).tool work)) (sym on)
            ∙ ap (λ (c : ToolPhase). tool_call plan (moment plan journal).server journal (moment plan journal).tool c Apply) (sym tool_phase) ∙ call),
      )

      ended : is_reverting (moment plan journal).tool.reason ≡ true → cutovers.ended work.cutover.phase ≡ work.cutover.phase
      ended on = (subst (ToolPhaseGoes plan journal (is_reverting (moment plan journal).tool.reason)) tool_phase (all_going plan journal of.runs.fitting of.runs.stands before.faithful before.follows).tool_phase).ended on

      goes_held : is_reverting (moment plan journal).tool.reason ≡ true → is_reverting (moment plan more).tool.reason ≡ true → Held plan m at rows above journal → HeldMore
      goes_held on then_on (rests_so none) = unasked none (ended_undrained work.cutover.phase (ended on))
      goes_held on then_on (stands_so sentry) = by work.cutover.renamer_waits refl where
        by : (waits : Bool) → work.cutover.renamer_waits ≡ waits → HeldMore
        by false is = unasked (unwaited is) (ended_undrained work.cutover.phase (ended on))
        by true is =
            after_it
            (gone_so plan.table (state_at plan journal) work.copier work.applier work.cutover (last_session journal Lock) (last_session journal Ren) work.cutover.phase (ended on) is (subst (λ (w : Bool). Fits work.cutover.phase work.cutover.hold w) is holds.fits) holds.guards sentry) sentry
      goes_held on then_on (frozen_so frozen) =
          let quiet = rollback_quiet on in
          frozen_so (frozen_more plan m at rows of above journal entry kept off within work tool_phase quiet.0 quiet.1 frozen (inl on) then_on)

    held_begins : is_reverting (moment plan journal).tool.reason ≡ false → is_reverting (moment plan more).tool.reason ≡ true → HeldMore
    held_begins going on = by (moment plan journal).tool.tool_phase refl where
      by : (tool_phase : ToolPhase) → (moment plan journal).tool.tool_phase ≡ tool_phase → HeldMore
      by (SettingUp setup tries) tool_phase = setup_held setup tries tool_phase
      by (Migrating work) tool_phase = turns_held work tool_phase going on

    held_more : is_reverting (moment plan journal).tool.reason ≡ true → is_reverting (moment plan more).tool.reason ≡ true → Held plan m at rows above journal → HeldMore
    held_more on then_on held = by (moment plan journal).tool.tool_phase refl where
      by : (tool_phase : ToolPhase) → (moment plan journal).tool.tool_phase ≡ tool_phase → HeldMore
      by (SettingUp setup tries) tool_phase = setup_held setup tries tool_phase
      by (Migrating work) tool_phase = goes_held work tool_phase on then_on held

  -- WHOLE JOURNALS

  abbrev Goal : List Entry → Type 0
  Goal journal = is_reverting (moment plan journal).tool.reason ≡ true → Held plan m at rows above journal

  named_front : (some rest : List Entry) → IsKept plan (some ++ rest) → sessions_named some ≤ sessions_named (some ++ rest)
  named_front some [] kept = subst (λ (j : List Entry). sessions_named some ≤ sessions_named j) (sym (append-nil some)) (le_refl (sessions_named some))
  named_front some (entry ∷ rest) kept =
      let same : (some ++ entry ∷ []) ++ rest ≡ some ++ entry ∷ rest = append_assoc some (entry ∷ []) rest in
      let later : IsKept plan ((some ++ entry ∷ []) ++ rest) = subst (IsKept plan) (sym same) kept in
      let front : IsKept plan (some ++ entry ∷ []) = kept_front plan (some ++ entry ∷ []) rest later in
      let before : IsKept plan some = kept_front plan some (entry ∷ []) front in
      let together : IsTogether plan some = (all_asked plan some of.runs before.faithful before.follows).marking.tabled.all.tool in
      let run : IsRun plan some entry = kept_run plan some entry front in
      let one : sessions_named some ≤ sessions_named (some ++ entry ∷ []) = named_keeps some entry together.known.sessions (placed some entry (record { session = run.followed.session })) (sessions_named some) (le_refl (sessions_named some)) in
      let two : sessions_named (some ++ entry ∷ []) ≤ sessions_named ((some ++ entry ∷ []) ++ rest) = named_front (some ++ entry ∷ []) rest later in
      let three : sessions_named ((some ++ entry ∷ []) ++ rest) ≡ sessions_named (some ++ entry ∷ rest) = ap sessions_named same in
      omega (arith, one, two, three)

  all_held : (some journal : List Entry) → Along (IsTurned plan) [] some → Along (IsTurned plan) some journal → IsKept plan (some ++ journal) → IsUnaltered plan (some ++ journal) → sessions_named (some ++ journal) ≤ above → Goal some → Goal (some ++ journal)
  all_held some [] before turned kept off within was = subst Goal (sym (append-nil some)) was
  all_held some (entry ∷ journal) before turned kept off within was =
      let same : (some ++ entry ∷ []) ++ journal ≡ some ++ entry ∷ journal = append_assoc some (entry ∷ []) journal in
      let later : IsKept plan ((some ++ entry ∷ []) ++ journal) = subst (IsKept plan) (sym same) kept in
      let later_off : IsUnaltered plan ((some ++ entry ∷ []) ++ journal) = subst (IsUnaltered plan) (sym same) off in
      let later_within : sessions_named ((some ++ entry ∷ []) ++ journal) ≤ above = subst (λ (j : List Entry). sessions_named j ≤ above) (sym same) within in
      let front : IsKept plan (some ++ entry ∷ []) = kept_front plan (some ++ entry ∷ []) journal later in
      let front_off : IsUnaltered plan (some ++ entry ∷ []) = unaltered_front plan (some ++ entry ∷ []) journal later_off in
      let one : sessions_named (some ++ entry ∷ []) ≤ sessions_named ((some ++ entry ∷ []) ++ journal) = named_front (some ++ entry ∷ []) journal later in
      let two : sessions_named some ≤ sessions_named (some ++ entry ∷ []) = named_front some (entry ∷ []) front in
      let front_within : sessions_named (some ++ entry ∷ []) ≤ above = omega (arith, one, later_within) in
      let before_within : sessions_named some ≤ above = omega (arith, one, two, later_within) in
      let guarded : IsGuarded plan some = all_guarded plan some before in
      subst Goal same
      (all_held (some ++ entry ∷ []) journal (Along-more (IsTurned plan) [] some entry before turned.0) turned.1 later later_off later_within
      (λ then_on. by (is_reverting (moment plan some).tool.reason) refl (λ going. held_begins some entry front front_off front_within before_within guarded turned.0 going then_on)
      (λ on. held_more some entry front front_off front_within before_within guarded turned.0 on then_on (was on)))) where
        by : (b : Bool) → is_reverting (moment plan some).tool.reason ≡ b → (is_reverting (moment plan some).tool.reason ≡ false → Held plan m at rows above (some ++ entry ∷ [])) → (is_reverting (moment plan some).tool.reason ≡ true → Held plan m at rows above (some ++ entry ∷ [])) → Held plan m at rows above (some ++ entry ∷ [])
        by true is going reverted = reverted is
        by false is going reverted = going is

-- THE RENAME

module _ (plan : PlanData) (m : Migration) (at : Clustered m.schema) (rows : List Row) (of : IsMigrationOf plan m rows) (found : find_table m.name plan.tables ≡ Some (record { schema = m.schema; rows = rows })) (journal : List Entry) (entry : Entry) (rename : IsRename plan journal entry)
    (turned : Along (IsTurned plan) [] journal) (finds : Found plan journal entry) (on : is_reverting (moment plan journal).tool.reason ≡ true) where
  kept : IsKept plan journal
  kept = kept_front plan journal (entry ∷ []) rename.kept

  at_last : IsTogether plan journal
  at_last = (all_asked plan journal of.runs kept.faithful kept.follows).marking.tabled.all.tool

  start_going : is_reverting (moment plan []).tool.reason ≡ true → Held plan m at rows (sessions_named journal) []
  unfolding moment
  start_going is = absurd (true≢false (sym is))

  held : Held plan m at rows (sessions_named journal) journal
  held = all_held plan m at rows of found (sessions_named journal) [] journal tt turned kept rename.unaltered (le_refl (sessions_named journal)) start_going on

  work_ended : cutovers.ended finds.work.cutover.phase ≡ finds.work.cutover.phase
  work_ended = (subst (ToolPhaseGoes plan journal (is_reverting (moment plan journal).tool.reason)) finds.tool_phase (all_going plan journal of.runs.fitting of.runs.stands kept.faithful kept.follows).tool_phase).ended on

  never_waited : (standing_of plan journal Ren).waits ≡ None → Asking plan journal Ren entry.asked → ⊥
  never_waited none (calls_so request asks idle call) = ended_undrained finds.work.cutover.phase work_ended (called_drained finds.work request (ap (λ (c : ToolPhase). tool_call plan (moment plan journal).server journal (moment plan journal).tool c Ren) (sym finds.tool_phase) ∙ call))
  never_waited none (polls_so request asks some) = no (sym none ∙ some) where
    no : None ≡ Some request → ⊥
    no same = cc

  altered_on : IsAltered m (state_at plan journal).tables
  altered_on = by held where
    by : Held plan m at rows (sessions_named journal) journal → IsAltered m (state_at plan journal).tables
    by (rests_so none) = absurd (never_waited none finds.asks)
    by (stands_so sentry) = absurd (true≢false (sym sentry ∙ finds.renamed.free))
    by (frozen_so frozen) =
        let position : finds.work.applier.position ≡ frozen.machines.applier.position = subst (StandsAt frozen.machines.applier.position) finds.tool_phase frozen.here in
        ends m at rows of.place of.planned of.is_place (limits_of plan) (scene_of plan journal) journal frozen.machines (kept_scene plan m rows of journal kept rename.unaltered)
        (record {
          copied = frozen.copied;
          idle = frozen.idle;
          applied = ap (λ (n : List ℕ). events_of n (drop frozen.machines.applier.position (state_at plan journal).log)) of.of.name ∙ ap (λ (p : ℕ). events_of plan.table (drop p (state_at plan journal).log)) (sym position)
              ∙ subst (λ (s : State). events_of plan.table (drop finds.work.applier.position s.log) ≡ []) at_last.server finds.whole.applied;
        }) (in_scene plan m at rows [] journal journal frozen.machines frozen.stands)

-- *Renames find the altered table*
pub renames_altered : StoresAgain → AlterablePlansAreRunnable → FollowersAlter → JournalsAreTurned → ExclusiveIsAlone → DefinitionsAreDone → WaitsAreReported → RenamesFindTheAltered
renames_altered again runnable alter turned alone done reported plan is journal entry worded serial rename = by (is_reverting (moment plan journal).tool.reason) refl where
  runs : IsRunnable plan
  runs = runnable plan is worded

  of : IsMigrationOf plan (migration_of is.table.schema is.new) is.table.rows
  of = migration plan is again runs serial

  kept : IsKept plan journal
  kept = kept_front plan journal (entry ∷ []) rename.kept

  finds : Found plan journal entry
  finds = renames_found alone done reported turned plan journal entry runs serial rename

  by : (b : Bool) → is_reverting (moment plan journal).tool.reason ≡ b → IsAltered (migration_of is.table.schema is.new) (state_at plan journal).tables
  by true on =
      altered_on plan (migration_of is.table.schema is.new) (clustered is.table.schema of.planned.old_key) is.table.rows of (own_table plan is) journal entry rename (turned plan journal runs serial kept rename.unaltered) finds on
  by false going = alter plan is worded serial journal kept (marked going) where
    marked : is_reverting (moment plan journal).tool.reason ≡ false → IsMark plan journal
    marked going = renames_marked alone done reported turned plan journal entry runs serial rename going

-- each turn that does the RENAME is the first, and finds the altered table
pub all_marked : RenamesFindTheAltered → (plan : PlanData) (is : IsAlterable plan) → IsWorded plan → IsSerialPlan plan → (some journal : List Entry) → IsKept plan (some ++ journal) → Along (λ before one. list_any is_alter (entry_adds plan before one) ≡ true → IsUnaltered plan before) some journal → Along (IsMarkedAt plan is) some journal
all_marked finds plan is worded serial some [] follows firsts = tt
all_marked finds plan is worded serial some (entry ∷ journal) follows firsts =
    let later : IsKept plan ((some ++ entry ∷ []) ++ journal) = subst (IsKept plan) (sym (append_assoc some (entry ∷ []) journal)) follows in
    (λ alters. (firsts.0 alters, finds plan is some entry worded serial (record { kept = kept_front plan (some ++ entry ∷ []) journal later; unaltered = firsts.0 alters; alters = alters })), all_marked finds plan is worded serial (some ++ entry ∷ []) journal later firsts.1)

-- *Kept journals are serial*
pub kept_serial : AlterablePlansAreRunnable → MarkedJournalsAreSerial → RenamesComeOnce → RenamesFindTheAltered → KeptJournalsAreSerial
kept_serial runnable marked_serial once finds plan is journal worded serial kept =
    marked_serial plan is worded serial journal kept (all_marked finds plan is worded serial [] journal kept (once plan journal (runnable plan is worded) serial kept))
