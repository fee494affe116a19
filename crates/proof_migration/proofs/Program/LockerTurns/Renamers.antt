-- A turn of the renamer's is such a turn as the sentry relation asks, where the relation holds before.
use Rattle.std.proofs.Common.{◌≡◌, ◌≢◌, ◌⊎◌, ◌+◌, ℕ, Bool, true, false, ◌||◌, cond, List, [], ◌∷◌, ◌++◌, Option, Some, None, refl, sym, ap, ◌∙◌, subst, inl, inr}
use Rattle.std.specs.Prelude.{◌==◌}
use Rattle.std.specs.List.{list_any}
use Rattle.std.proofs.lemmas.Bool.{true≢false}
use Rattle.std.proofs.lemmas.List.Folds.{list_any-append}
use Rattle.server_locks.specs.MetadataLocks.Grants as grants
use Rattle.server_locks.specs.MetadataLocks.Grants.{has_name, holds, blocker_of_name, blocker_of_names}
use Rattle.table_store.specs.Databases.{has_table}
use Rattle.base_script.specs.declared.actor.Actor.{Actor}
use Rattle.base_script.specs.declared.actor.Actor.TheVariants.{Lock, Ren}
use Rattle.base_script.specs.declared.actor.Side.{Side}
use Rattle.base_script.specs.declared.operator.OperatorWord.{OperatorWord}
use Rattle.server_model.specs.Entries.{is_command, is_cut, same_actor}
use Rattle.server_model.specs.States.{State, has_work, is_exclusive, names_in, waiters, waiting_of}
use Rattle.server_model.specs.States as states
use Rattle.server_model.specs.declared.answer.Answer.{Answer}
use Rattle.server_model.specs.declared.answer.Answer.TheVariants as answers
use Rattle.server_model.specs.declared.entry.Asked.{Asked}
use Rattle.server_model.specs.declared.entry.Asked.TheVariants.{Call, Poll, Command, Cut}
use Rattle.server_model.specs.declared.entry.Entry.{Entry}
use Rattle.server_model.specs.declared.request.Request.{Request}
use Rattle.server_model.specs.declared.session.Waiting.{Waiting}
use Rattle.plan_data.specs.PlanData.{PlanData}
use Rattle.base_values.specs.ToolNames.{ghost_name, old_name}
use Rattle.tool_program.specs.declared.chunk_copier.copier.Copier.{Copier}
use Rattle.tool_program.specs.declared.event_applier.applier.Applier.{Applier}
use Rattle.tool_program.specs.CutoverCore.Attempts.{exchange}
use Rattle.tool_program.specs.declared.cutover_core.cutover.CutOver.{CutOver}
use Rattle.tool_program.specs.declared.cutover_core.cutover.Phase.{Phase}
use Rattle.tool_program.specs.declared.cutover_core.cutover.Phase.TheVariants.{Attempting}
use Rattle.tool_program.specs.declared.cutover_core.cutover.Stage.TheVariants.{Drained, Dropping, Showing, Unlocking}
use Rattle.tool_program.specs.JournalWords.Journals.{opens, state_at}
use Rattle.tool_program.specs.JournalWords.Sessions.{live_session, session_left}
use Rattle.tool_program.specs.Programs.{IsGiven, given, waits}
use Rattle.tool_program.specs.Tools.{ToolPhase, Migrating, SettingUp, Work, is_reverting, moment}
use Rattle.tool_program.proofs.OnlineCalls.Machines.{ToolPhaseIsNamed, named}
use Rattle.server_model.proofs.LockedRows.Tests.{same_bytes}
use Rattle.proof_journals.specs.Plans.{IsSerialPlan}
use Rattle.proof_journals.specs.Turns.{request_of}
use Rattle.proof_journals.proofs.Actors.{live_more, same_actor_itself}
use Rattle.proof_journals.specs.ServerTurns.Others.{EntriesAreTurns, held_at}
use Rattle.proof_journals.specs.Run.Kept.{IsKept}
use Rattle.proof_journals.specs.Machine.Machines.{WorkStands, renaming}
use Rattle.proof_journals.specs.Machine.Runnable.{IsRunnable}
use Rattle.proof_journals.specs.Machine.Standings.{IsAbout, Standing, answered, answers_to, is_called, is_polled, standing_in, standing_of}
use Rattle.proof_journals.proofs.Machine.Asking.{WaitsWith, busy_waits, idle_stands}
use Rattle.proof_journals.proofs.Machine.Fitting.{IsPrompt}
use Rattle.proof_journals.proofs.Machine.Journals.{Asking, IsRun, IsTogether, all_together, asking, has_now, never_commands, ren_about}
use Rattle.proof_journals.proofs.Machine.Seated.{own_fits, own_session}
use Rattle.proof_journals.specs.Sentry.Sentries.{Guards, IsGone, IsLocked, MayAnswer, RefusesRename, RenameRests, RenameWaits, RenamerServes, scene, waits_for}
use Rattle.proof_journals.specs.Sentry.TurnResults.{AskedTurn, ToolPhaseHolds, ToolPhaseTurn, Holds, IsGuarded, IsIdle, IsRenamerFree, IsTurned, RenamerSays, RenamerTurn, WorkTurn, last_session, reported_if}
use Rattle.proof_journals.proofs.Sentry.Calling.{renamer_called, renamer_polled}
use Rattle.proof_journals.proofs.Sentry.Holding.{granted_each, refused_exclusive}
use Rattle.proof_migration.specs.ToolPhase.Unaltered.{IsUnaltered}
use Rattle.proof_migration.proofs.Program.Turns.Asked.{gave}
use Rattle.proof_migration.proofs.Program.Turns.Follows.{kept_run}
use Rattle.proof_migration.proofs.Program.Holds.Live.{renamers_go_on, work_stands}
use Rattle.proof_migration.proofs.Program.Holds.ActorStates.{kept_differs, kept_last}
use Rattle.proof_migration.specs.Program.LockerTurns.{RenamersAreTurned}
use Rattle.proof_migration.proofs.Program.LockerTurns.Entries as entries
use Rattle.proof_migration.proofs.Program.LockerTurns.Quiet.{defines, is_late, is_ok, is_rowless, names_granted}

-- WHO WAITS FOR THE TABLE

-- a session waits for each name of its request that needs them exclusively
waits_there : (n : ℕ) (t : List ℕ) (request : Request) (waiting : List Waiting) → request_of (waiting_of n waiting) ≡ Some request → is_exclusive request ≡ true → has_name (names_in request) t ≡ true → list_any (waits_for t n) (waiters waiting) ≡ true
waits_there n t request [] some takes among = absurd cc
waits_there n t request (one ∷ waiting) some takes among = list_any-append (waits_for t n) (states.waits_for one) (waiters waiting) ∙ by (one.session == n) refl some (λ rest. waits_there n t request waiting rest takes among) where
  later : (b : Bool) → list_any (waits_for t n) (waiters waiting) ≡ true → (b || list_any (waits_for t n) (waiters waiting)) ≡ true
  later true is = refl
  later false is = is

  here : (one.session == n) ≡ true → one.request ≡ request → list_any (waits_for t n) (states.waits_for one) ≡ true
  here own same = rw (same, takes, own, among) refl

  by : (b : Bool) → (one.session == n) ≡ b → request_of (cond b (Some one) (waiting_of n waiting)) ≡ Some request → (request_of (waiting_of n waiting) ≡ Some request → list_any (waits_for t n) (waiters waiting) ≡ true)
      → (list_any (waits_for t n) (states.waits_for one) || list_any (waits_for t n) (waiters waiting)) ≡ true
  by true own some rest = let same : one.request ≡ request = cc in ap (λ (b : Bool). b || list_any (waits_for t n) (waiters waiting)) (here own same)
  by false own some rest = later (list_any (waits_for t n) (states.waits_for one)) (rest some)

-- one that waits for nothing waits for no table
none_there : (n : ℕ) (t : List ℕ) (waiting : List Waiting) → request_of (waiting_of n waiting) ≡ None → list_any (waits_for t n) (waiters waiting) ≡ false
none_there n t [] none = refl
none_there n t (one ∷ waiting) none = list_any-append (waits_for t n) (states.waits_for one) (waiters waiting) ∙ by (one.session == n) refl none (none_there n t waiting) where
  off : (one.session == n) ≡ false → (b : Bool) → list_any (waits_for t n) (cond b (record { session = one.session; names = names_in one.request } ∷ []) []) ≡ false
  off other true = rw other refl
  off other false = refl

  by : (b : Bool) → (one.session == n) ≡ b → request_of (cond b (Some one) (waiting_of n waiting)) ≡ None → (request_of (waiting_of n waiting) ≡ None → list_any (waits_for t n) (waiters waiting) ≡ false)
      → (list_any (waits_for t n) (states.waits_for one) || list_any (waits_for t n) (waiters waiting)) ≡ false
  by true own none rest = absurd cc
  by false own none rest = ap (λ (b : Bool). b || list_any (waits_for t n) (waiters waiting)) (off own (is_exclusive one.request)) ∙ rest none

table_among : (t : List ℕ) → has_name (names_in (exchange t)) t ≡ true
table_among t = rw (same_bytes t) refl

-- WHILE THE LOCKER HOLDS THE TABLE

refuses : (t : List ℕ) (l r own : ℕ) (copier : Copier) (applier : Applier) (cutover : CutOver) (phase : Phase) (before after : State) → (IsLocked t (held_at before) l → ⊥) → Guards t (scene before) copier applier cutover l r phase → IsGone t own (scene before) (scene after) → RefusesRename t own phase (scene before) (scene after)
refuses t l r own copier applier cutover (Attempting Drained) before after never at gone = absurd (never at.locked)
refuses t l r own copier applier cutover (Attempting Showing) before after never at gone = absurd (never at.locked)
refuses t l r own copier applier cutover (Attempting Dropping) before after never at gone = absurd (never at.locked)
refuses t l r own copier applier cutover (Attempting Unlocking) before after never at gone = absurd (never at.locked)
refuses t l r own copier applier cutover phase before after never at gone = gone

-- WHAT THE RENAMER HAS

renaming_busy : (t : List ℕ) (waits : Bool) → (renaming t waits).busy ≡ false
renaming_busy t true = refl
renaming_busy t false = refl

renaming_locked : (t : List ℕ) (waits : Bool) → (renaming t waits).locked ≡ []
renaming_locked t true = refl
renaming_locked t false = refl

waits_renaming : (t : List ℕ) (waits : Bool) → WaitsWith (renaming t waits).waits → waits ≡ true
waits_renaming t true with = refl
waits_renaming t false with = absurd (no with.is) where
  no : None ≡ Some with.request → ⊥
  no same = cc

module _ (entries_are_turns : EntriesAreTurns) (plan : PlanData) (journal : List Entry) (entry : Entry) (renames : entry.actor ≡ Ren) (runs : IsRunnable plan) (serial : IsSerialPlan plan) (kept : IsKept plan (journal ++ entry ∷ [])) (off : IsUnaltered plan (journal ++ entry ∷ [])) (guarded : IsGuarded plan journal) where
  abbrev before : State
  before = state_at plan journal

  abbrev after : State
  after = state_at plan (journal ++ entry ∷ [])

  abbrev now : State
  now = opens entry before

  abbrev has : Actor → Standing
  has = standing_of plan journal

  abbrev locker : ℕ
  locker = last_session journal Lock

  abbrev own : ℕ
  own = last_session journal Ren

  run : IsRun plan journal entry
  run = kept_run plan journal entry kept

  together : IsTogether plan journal
  together = entries.together entries_are_turns plan journal entry runs serial kept off

  then_together : IsTogether plan (journal ++ entry ∷ [])
  then_together = all_together plan (journal ++ entry ∷ []) kept.faithful kept.follows

  never : (word : OperatorWord) → IsGiven plan journal entry (Command word) → ⊥
  unfolding given
  never word gives = never_commands plan journal Ren word (subst (λ (a : Actor). given plan journal a ≡ Some (Command word)) renames gives)

  called : is_command entry.asked ≡ false
  called = by entry.asked run.followed.given where
    by : (asked : Asked) → IsGiven plan journal entry asked → is_command asked ≡ false
    by (Call request) gives = refl
    by Poll gives = refl
    by Cut gives = refl
    by (Command word) gives = absurd (never word gives)

  apart : locker ≢ entry.session
  apart = kept_differs plan journal entry kept called Lock (ap (λ (a : Actor). same_actor a Lock) renames)

  module _ (work : Work) (tool_phase : (moment plan journal).tool.tool_phase ≡ Migrating work) where
    stands : WorkStands journal (is_reverting (moment plan journal).tool.reason) has work
    stands = work_stands plan journal work together tool_phase

    own_table : work.cutover.table ≡ plan.table
    own_table = (subst (ToolPhaseIsNamed plan) tool_phase (named plan journal)).cutover

    same : (entry.session ≡ own) ⊎ IsRenamerFree work.cutover.phase
    same = renamers_go_on plan journal entry work kept tool_phase renames called

    holds_now : Holds plan (moment plan journal).server locker own work
    holds_now = subst (ToolPhaseHolds plan (moment plan journal).server locker own) tool_phase guarded.tool_phase

    guards : Guards plan.table (scene before) work.copier work.applier work.cutover locker own work.cutover.phase
    guards = subst (λ (s : State). Guards plan.table (scene s) work.copier work.applier work.cutover locker own work.cutover.phase) together.server holds_now.guards

    busy : (has entry.actor).busy ≡ false
    busy = ap (λ (a : Actor). (has a).busy) renames ∙ ap (λ (s : Standing). s.busy) stands.renamer ∙ renaming_busy work.cutover.table work.cutover.renamer_waits

    locked : (has entry.actor).locked ≡ []
    locked = ap (λ (a : Actor). (has a).locked) renames ∙ ap (λ (s : Standing). s.locked) stands.renamer ∙ renaming_locked work.cutover.table work.cutover.renamer_waits

    nothing : (name : List ℕ) (exclusive : Bool) → holds (held_at before) entry.session name exclusive ≡ false
    nothing = entries.nothing_before entries_are_turns plan journal entry runs serial kept off called busy locked

    gone : holds (held_at after) entry.session plan.table false ≡ false → IsGone plan.table entry.session (scene before) (scene after)
    gone none = (entries.others_hold entries_are_turns plan journal entry runs serial kept off plan.table, none)

    -- A CALL OR A POLL

    may : (asked : Asked) → entry.asked ≡ asked → is_cut asked ≡ false → given plan journal Ren ≡ Some asked → MayAnswer work.cutover.phase work.cutover.renamer_waits
    may (Call request) asks uncut gives = renamer_called plan journal work request tool_phase gives
    may Poll asks uncut gives =
        renamer_polled plan journal work gives holds_now.fits
        (λ waiting. waits_renaming work.cutover.table work.cutover.renamer_waits (subst (λ (s : Standing). WaitsWith s.waits) stands.renamer (busy_waits before (live_session journal Ren) (ap (λ (s : State). waits s (live_session journal Ren)) (sym together.server) ∙ waiting))))
    may (Command word) asks uncut gives = absurd (never word (subst (λ (a : Actor). given plan journal a ≡ Some (Command word)) (sym renames) gives))
    may Cut asks uncut gives = absurd (true≢false uncut)

    module _ (request : Request) (is_about : IsAbout request (has Ren) entry.asked) (exchanges : request ≡ exchange plan.table) where
      rowless : is_rowless request ≡ true
      rowless = ap is_rowless exchanges

      defining : defines request ≡ true
      defining = ap defines exchanges

      fits : answers_to (exchange plan.table) entry.answer ≡ true
      fits = ap (λ (r : Request). answers_to r entry.answer) (sym exchanges) ∙ own_fits plan journal entry together.known (entries.seated entries_are_turns plan journal entry runs serial kept off) request (subst (λ (a : Actor). IsAbout request (has a) entry.asked) (sym renames) is_about)

      still : entry.side ≡ None → holds (held_at after) entry.session plan.table false ≡ false
      still no_side = entries.still_nothing (held_at before) (held_at after) entry.session plan.table (entries.quiet_fewer entries_are_turns plan journal entry runs serial kept off Ren renames request is_about rowless no_side defining) (nothing plan.table false)

      -- while the locker holds the table the RENAME is answered by no error
      blocked : entry.side ≡ None → IsPrompt entry.answer → IsLocked plan.table (held_at before) locker → ⊥
      blocked no_side prompt lock =
          let about_it = entries.about_here entries_are_turns plan journal entry runs serial kept off Ren renames request is_about rowless in
          let all_free : blocker_of_names (held_at now) (waiters now.waiting) entry.session (is_exclusive (exchange plan.table)) (names_in (exchange plan.table)) ≡ None = names_granted now entry.session entry.asked (exchange plan.table) (about_it ∙ ap Some exchanges)
          (entries.uncut entries_are_turns plan journal entry runs serial kept off Ren renames request is_about rowless) (subst IsPrompt (sym (entries.given_heard entries_are_turns plan journal entry runs serial kept off no_side)) prompt) in
          let free_one : blocker_of_name (held_at now) (waiters now.waiting) entry.session plan.table true ≡ None = granted_each (held_at now) (waiters now.waiting) entry.session true (old_name plan.table ∷ ghost_name plan.table ∷ plan.table ∷ []) plan.table all_free in
          refused_exclusive (held_at before) (waiters now.waiting) entry.session locker plan.table apart lock.own (nothing plan.table false)
          (ap (λ (h : List grants.HeldName). blocker_of_name h (waiters now.waiting) entry.session plan.table true) (sym (entries.held_now entries_are_turns plan journal entry runs serial kept off)) ∙ free_one)

      -- it waits
      left_waits : (by : ℕ) → entry.answer ≡ answers.Waits by → live_session (journal ++ entry ∷ []) Ren ≡ Some entry.session
      left_waits by is =
          ap (live_session (journal ++ entry ∷ [])) (sym renames) ∙ live_more journal entry entry.actor ∙ ap (λ (b : Bool). cond b (session_left entry.asked entry.answer entry.session) (live_session journal entry.actor)) (same_actor_itself entry.actor)
          ∙ ap (λ (a : Answer). session_left entry.asked a entry.session) is ∙ left is_about where
            left : IsAbout request (has Ren) entry.asked → session_left entry.asked (answers.Waits by) entry.session ≡ Some entry.session
            left (is_called asks none) = ap (λ (a : Asked). session_left a (answers.Waits by) entry.session) asks
            left (is_polled asks some) = ap (λ (a : Asked). session_left a (answers.Waits by) entry.session) asks

      waits_now : (by : ℕ) → entry.answer ≡ answers.Waits by → RenameWaits plan.table (scene after) entry.session
      waits_now by is =
          waits_there entry.session plan.table request after.waiting
          (ap (λ (live : Option ℕ). (standing_in after live).waits) (sym (left_waits by is)) ∙ ap (λ (s : Standing). s.waits) (has_now plan journal entry together run Ren request renames is_about) ∙ ap (λ (a : Answer). (answered request a (has Ren)).waits) is)
          (ap is_exclusive exchanges) (ap (λ (r : Request). has_name (names_in r) plan.table) exchanges ∙ table_among plan.table)

      rests : (by : ℕ) → entry.answer ≡ answers.Waits by → RenameRests plan.table entry.session (scene before) (scene after)
      rests by is =
          let no_side : entry.side ≡ None = entries.heard_side entries_are_turns plan journal entry runs serial kept off (λ lost. no (sym lost ∙ is)) in
          record {
            rests = record {
              tables = ap (has_table (old_name plan.table)) (entries.quiet_undone entries_are_turns plan journal entry runs serial kept off Ren renames request is_about rowless no_side (ap is_ok is));
              held = entries.quiet_names entries_are_turns plan journal entry runs serial kept off Ren renames request is_about rowless no_side defining (ap is_late is);
              log = entries.quiet_log entries_are_turns plan journal entry runs serial kept off Ren renames request is_about rowless;
              waits = λ waited. waits_now by is;
            };
            waits = waits_now by is;
          } where
            no : answers.Lost ≡ answers.Waits by → ⊥
            no same = cc

      lost_none : entry.answer ≡ answers.Lost → holds (held_at after) entry.session plan.table false ≡ false
      lost_none is = by entry.side refl where
        by : (side : Option Side) → entry.side ≡ side → holds (held_at after) entry.session plan.table false ≡ false
        by (Some side) at_side = entries.lost_nothing entries_are_turns plan journal entry runs serial kept off side at_side plan.table false
        by None no_side = still no_side

      serves_so : (answer : Answer) → entry.answer ≡ answer → answers_to (exchange plan.table) answer ≡ true → RenamerServes plan.table entry.session work.cutover.phase answer (scene before) (scene after)
      serves_so (answers.Ok count) is fit = tt
      serves_so (answers.Waits by) is fit = rests by is
      serves_so answers.Lost is fit = gone (lost_none is)
      serves_so (answers.TimedOut waited) is fit = gone (still (entries.heard_side entries_are_turns plan journal entry runs serial kept off (λ lost. no (sym lost ∙ is)))) where
        no : answers.Lost ≡ answers.TimedOut waited → ⊥
        no same = cc
      serves_so (answers.Refused number column) is fit =
          let no_side : entry.side ≡ None = entries.heard_side entries_are_turns plan journal entry runs serial kept off (λ lost. no (sym lost ∙ is)) in
          refuses plan.table locker own entry.session work.copier work.applier work.cutover work.cutover.phase before after (blocked no_side (subst IsPrompt (sym is) tt)) guards (gone (still no_side)) where
            no : answers.Lost ≡ answers.Refused number column → ⊥
            no same = cc
      serves_so answer is fit = absurd cc

    statement_result : given plan journal Ren ≡ Some entry.asked → is_cut entry.asked ≡ false → RenamerSays plan before after locker own work entry.answer entry.session
    unfolding given
    statement_result gives uncut =
        let asks : Asking plan journal Ren entry.asked = asking plan journal Ren entry.asked together.server gives in
        let serves : RenamerServes plan.table entry.session work.cutover.phase entry.answer (scene before) (scene after) = ren_about plan journal entry together run work tool_phase stands asks (RenamerServes plan.table entry.session work.cutover.phase entry.answer (scene before) (scene after))
        (λ request is_about is. let exchanges : request ≡ exchange plan.table = is ∙ ap exchange own_table in serves_so request is_about exchanges entry.answer refl (fits request is_about exchanges)) in
        record { same = same; apart = apart; may = inr (may entry.asked refl uncut gives); serves = serves }

    -- A LOSS BETWEEN CALLS

    module _ (cut : entry.asked ≡ Cut) where
      live : live_session journal Ren ≡ Some entry.session
      live = ap (live_session journal) (sym renames) ∙ own_session plan journal entry together.known (entries.seated entries_are_turns plan journal entry runs serial kept off) (ap is_cut cut)

      last : entry.session ≡ own
      last = kept_last plan journal entry kept called entry.session (ap (live_session journal) renames ∙ live) ∙ ap (last_session journal) renames

      worked : RenamerSays plan before after locker own work answers.Lost entry.session
      worked = record { same = same; apart = apart; may = inl refl; serves = gone (entries.cut_nothing entries_are_turns plan journal entry runs serial kept off cut plan.table false) }

      idle : has_work before entry.session ≡ false → IsIdle plan before after own ((entry.session ≡ own) ⊎ IsRenamerFree work.cutover.phase)
      idle rested = record {
        rests = record {
          tables = ap (has_table (old_name plan.table)) (entries.cut_tables entries_are_turns plan journal entry runs serial kept off cut);
          held = entries.cut_held entries_are_turns plan journal entry runs serial kept off cut busy locked;
          log = entries.cut_log entries_are_turns plan journal entry runs serial kept off cut;
          waits = λ waited. absurd (true≢false (sym waited ∙ ap (λ (n : ℕ). list_any (waits_for plan.table n) (waiters before.waiting)) (sym last) ∙ none_there entry.session plan.table before.waiting (ap (λ (s : Standing). s.waits) (idle_stands before entry.session rested))));
        };
        is = same;
      }

      lost : RenamerTurn plan before after locker own work (reported_if (has_work before entry.session)) entry.session
      lost = by (has_work before entry.session) refl where
        by : (b : Bool) → has_work before entry.session ≡ b → RenamerTurn plan before after locker own work (reported_if b) entry.session
        by true works = worked
        by false rested = idle rested

    -- EACH TURN

    asked_turn : (turns : ℕ) (asked : Asked) → entry.asked ≡ asked → IsGiven plan journal entry asked → AskedTurn plan before after locker own work turns entry asked
    asked_turn turns asked asks gives = by asked asks gives where
      by_ren : (answer : Option Answer) → RenamerTurn plan before after locker own work answer entry.session → WorkTurn plan before after locker own work turns entry entry.actor answer
      by_ren answer is = subst (λ (a : Actor). WorkTurn plan before after locker own work turns entry a answer) (sym renames) is

      said : is_cut entry.asked ≡ false → RenamerSays plan before after locker own work entry.answer entry.session
      said uncut = statement_result (gave plan serial runs.fitting journal entry (entries.known entries_are_turns plan journal entry runs serial kept off) run off Ren renames uncut) uncut

      by : (asked : Asked) → entry.asked ≡ asked → IsGiven plan journal entry asked → AskedTurn plan before after locker own work turns entry asked
      by (Command word) asks gives = absurd (never word gives)
      by (Call request) asks gives = by_ren (Some entry.answer) (said (ap is_cut asks))
      by Poll asks gives = by_ren (Some entry.answer) (said (ap is_cut asks))
      by Cut asks gives = by_ren (reported_if (has_work before entry.session)) (lost asks)

  turned : IsTurned plan journal entry
  turned = record { turn = by (moment plan journal).tool.tool_phase refl } where
    by : (tool_phase : ToolPhase) → (moment plan journal).tool.tool_phase ≡ tool_phase → ToolPhaseTurn plan (moment plan journal).server (moment plan (journal ++ entry ∷ [])).server locker own tool_phase ((moment plan journal).tool.turns + 1) entry
    by (SettingUp setup tries) tool_phase = tt
    by (Migrating work) tool_phase =
        subst (λ (s : State). AskedTurn plan s (moment plan (journal ++ entry ∷ [])).server locker own work ((moment plan journal).tool.turns + 1) entry entry.asked) (sym together.server)
        (subst (λ (s : State). AskedTurn plan before s locker own work ((moment plan journal).tool.turns + 1) entry entry.asked) (sym then_together.server) (asked_turn work tool_phase ((moment plan journal).tool.turns + 1) entry.asked refl run.followed.given))

-- *Renamers are turned*
pub renamers_turned : EntriesAreTurns → RenamersAreTurned
renamers_turned entries_are_turns plan journal entry renames runs serial kept off guarded = turned entries_are_turns plan journal entry renames runs serial kept off guarded
