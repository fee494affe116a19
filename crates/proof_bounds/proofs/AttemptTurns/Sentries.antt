-- The sentry exists from its CREATE to its DROP, so neither LOCK TABLES nor the DROP is refused.
use Rattle.std.proofs.Common.{◌≡◌, ◌⊎◌, ℕ, ◌+◌, Bool, true, false, cond, not, ◌&&◌, ◌||◌, List, [], ◌∷◌, ◌++◌, Option, Some, None, refl, sym, ap, ◌∙◌, subst, inl, inr}
use Rattle.std.specs.Str.{bytes_eq}
use Rattle.std.proofs.Math.Bool.{or-true}
use Rattle.std.proofs.lemmas.Bool.{true≢false, false≢true, or_right}
use Rattle.base_script.specs.declared.actor.Actor.{Actor}
use Rattle.base_script.specs.declared.actor.Actor.TheVariants.{Op, Insp, Copy, Apply, Lock, Ren, Client}
use Rattle.base_script.specs.declared.actor.Side.{Side}
use Rattle.base_script.specs.declared.operator.OperatorWord.{OperatorWord}
use Rattle.base_script.specs.declared.operator.OperatorWord.TheVariants.{ChunkSize}
use Rattle.base_values.specs.ToolNames.{ghost_name, log_name, old_name}
use Rattle.table_store.specs.Databases.{Database, has_table}
use Rattle.server_model.specs.declared.answer.Answer.{Answer}
use Rattle.server_model.specs.declared.answer.Answer.TheVariants as answers
use Rattle.server_model.specs.declared.entry.Asked.TheVariants.{Call, Command, Cut}
use Rattle.server_model.specs.declared.entry.Entry.{Entry}
use Rattle.server_model.specs.declared.listing.TableName.{TableName}
use Rattle.server_model.specs.declared.request.Request.{Request}
use Rattle.server_model.specs.declared.request.Request.TheVariants as requests
use Rattle.server_model.specs.declared.session.Session.{Session}
use Rattle.server_model.specs.Answers.{ok}
use Rattle.server_model.specs.Effects.{all_exist, locks_if, dropped, defined, effect_unless, is_beyond, is_outside}
use Rattle.server_model.specs.Entries.{same_actor, is_command}
use Rattle.server_model.specs.Listings.{tables_shown}
use Rattle.server_model.specs.PlainServer.{does, done, did}
use Rattle.server_model.specs.States.{State, session_of, is_in_transaction, tables_named, view}
use Rattle.plan_data.specs.PlanData.{PlanData, old_schema}
use Rattle.proof_journals.specs.Machine.MigrationTables.{ghost_schema}
use Rattle.tool_changelog.specs.ToolTables.{sentry_comment, sentry_schema}
use Rattle.tool_program.specs.JournalWords.Journals.{may_lose, opens, state_at}
use Rattle.tool_program.specs.declared.cutover_core.cutover.Clearing.{Clearing as Cleared}
use Rattle.tool_program.specs.declared.cutover_core.cutover.Clearing.TheVariants.{Looking, Drops}
use Rattle.tool_program.specs.declared.cutover_core.cutover.CutOver.{CutOver}
use Rattle.tool_program.specs.declared.cutover_core.cutover.Hold.{Hold}
use Rattle.tool_program.specs.declared.cutover_core.cutover.Hold.TheVariants.{Nothing, WaitsToGuard, WaitsToLock, Locks}
use Rattle.tool_program.specs.declared.cutover_core.cutover.Leftovers.{Leftovers}
use Rattle.tool_program.specs.declared.cutover_core.cutover.Phase.{Phase}
use Rattle.tool_program.specs.declared.cutover_core.cutover.Phase.TheVariants.{Resting, Attempting, Ending, Finishing, Finished}
use Rattle.tool_program.specs.declared.cutover_core.cutover.Role.TheVariants.{Inspector, Locker, Renamer}
use Rattle.tool_program.specs.declared.cutover_core.cutover.Stage.{Stage}
use Rattle.tool_program.specs.declared.cutover_core.cutover.Stage.TheVariants.{Guarding, Locking, Hinting, ReadingCounter, SettingCounter, Draining, Drained, Showing, Dropping, Unlocking, Exchanging}
use Rattle.tool_program.specs.declared.cutover_core.cutover.Drain.{Drain}
use Rattle.tool_program.specs.CutoverCore.Attempts as attempts
use Rattle.tool_program.specs.CutoverCore.Attempts.{exchange, clears, first_name, is_clear, is_free, has_name, has_sentry, without_first}
use Rattle.tool_program.specs.CutoverCore.CutOvers as cutovers
use Rattle.tool_program.specs.CutoverCore.CutOvers.{is_bad, begun, ended, failed, waits_phase, finishing, finishing_after, left_at_end, sentry_alone, seen, drained, inspector_phase, inspector_stage, locker_phase, locker_stage, renamer_phase, applier_turn, reverted}
use Rattle.tool_program.specs.Programs.{tool_call, given}
use Rattle.tool_program.specs.Setups.{Setup, Listing, Clearing, MakingLog, MakingGhost, Marking, Reaching, Ready, setup_after}
use Rattle.tool_program.specs.Tools.{Work, ToolPhase, SettingUp, Migrating, Tool, Moment, stopped, is_reverting, tool_phase_of, moment}
use Rattle.tool_program.proofs.OnlineCalls.Machines.{ToolPhaseIsNamed, named}
use Rattle.server_model.proofs.LockedRows.Tests.{same_bytes}
use Rattle.proof_journals.specs.Plans.{IsSerialPlan}
use Rattle.proof_journals.specs.Run.Kept.{IsKept}
use Rattle.proof_journals.specs.Machine.Machines.{ToolPhaseStands, WorkStands, PhaseHolds, both_names, held, renaming}
use Rattle.proof_journals.specs.Machine.Runnable.{IsRunnable}
use Rattle.proof_journals.specs.Machine.Standings.{Standing, standing_in, standing_of, answers_to, serves_to, IsAbout, is_called, is_polled}
use Rattle.proof_journals.proofs.Machine.Asking.{some_request}
use Rattle.proof_journals.proofs.Machine.CuttingOver.{LockerAsks}
use Rattle.proof_journals.proofs.Machine.Inspecting.{Inspects, inspects, notes_so, cuts_so}
use Rattle.proof_journals.proofs.Machine.Journals.{IsRun, IsTogether, Asking, calls_so, polls_so, asking, lock_about, ren_about}
use Rattle.proof_journals.proofs.Machine.Schemas.{is_quiet}
use Rattle.proof_journals.proofs.Machine.Seated.{IsKnown, IsServed, IsOpen, is_open, own_fits, own_heard, own_missed}
use Rattle.proof_journals.proofs.Machine.Tabling.{may_define, quiet_stay}
use Rattle.proof_migration.proofs.Attempt.Counting.{IsUnrefused, shows_unrefused, sets_unrefused}
use Rattle.proof_migration.proofs.Attempt.InspectorAnswers.{listed_is}
use Rattle.proof_migration.proofs.Attempt.Leaving.{AllStay, CreateLeaves, DropLeaves, ExchangeLeaves, stands_has, has_is, create_left, drop_left, exchange_left}
use Rattle.proof_migration.proofs.Attempt.LockerAnswers.{heard_leaves}
use Rattle.proof_migration.proofs.Attempt.RenamerAnswers.{AsksAt}
use Rattle.proof_migration.proofs.Attempt.Stages.{RenamerAt, LeftAt, StandsAt, TablesAt, GuardedTables}
use Rattle.proof_migration.proofs.Attempt.Standing.{ToolPhaseAt, about_own, asks_at, cut_stay, listed as listed_so, quiet_stays, renamer_unlocked, rest}
use Rattle.proof_migration.proofs.Program.Turns.Follows.{kept_front, kept_run}
use Rattle.proof_migration.proofs.ToolPhase.Hearing.{IsFoundBy, HoldsUndone, own_answer, opened_tables}
use Rattle.proof_migration.proofs.ToolPhase.Owners.{together_owned}
use Rattle.proof_migration.proofs.ToolPhase.ToolPhaseTurns.{Kept, UnfitKeeps, CopyKeeps, ApplyKeeps, SetupKeeps, AnswerKeeps, ResizeKeeps, turn_kept, gives_asked}
use Rattle.proof_migration.specs.InspectorWaits.{SetsCounter}
use Rattle.proof_bounds.specs.Guards.{HasSentryAtOnce, WaitsForNoSentry}
use Rattle.proof_migration.proofs.HeldNames.FreeNames.{IsAway, away_forbidden, away_free, free_name, drops_ok}
use Rattle.proof_migration.proofs.KeptJournals.{each_kept}
use Rattle.proof_migration.proofs.ToolPhase.Marked.{old_is_tool}
use Rattle.proof_bounds.proofs.Going.{IsGoing, all_going, insp_idle, insp_unlocked, insp_waits, polled_ends}
use Rattle.proof_bounds.proofs.Guards.{sentries_made}
use Rattle.proof_bounds.proofs.Leftovers.{has_stays}
use Rattle.proof_bounds.specs.AttemptTurns.Attempts.{IsAt, IsNotRefused}

-- THE PHASES IN WHICH IT EXISTS

abbrev pub needs_sentry : Phase → Bool
needs_sentry (Attempting Locking) = true
needs_sentry (Attempting Hinting) = true
needs_sentry (Attempting (ReadingCounter drain)) = true
needs_sentry (Attempting (SettingCounter number drain)) = true
needs_sentry (Attempting (Draining turns)) = true
needs_sentry (Attempting Drained) = true
needs_sentry (Attempting Showing) = true
needs_sentry (Attempting Dropping) = true
needs_sentry (Ending (Drops left)) = true
needs_sentry phase = false

-- where the phase needs it, it exists
abbrev pub SentryStands : PlanData → Database → Phase → Type 0
SentryStands plan tables phase = needs_sentry phase ≡ true → has_table (old_name plan.table) tables ≡ true

abbrev pub ToolPhaseSentry : PlanData → Database → ToolPhase → Type 0
ToolPhaseSentry plan tables (SettingUp setup tries) = Unit {0}
ToolPhaseSentry plan tables (Migrating work) = SentryStands plan tables work.cutover.phase

-- what one phase needs, another does
abbrev Needs : Phase → Phase → Type 0
Needs old new = needs_sentry new ≡ true → needs_sentry old ≡ true

ended_needs : (phase : Phase) → Needs phase (ended phase)
ended_needs (Attempting Unlocking) need = need
ended_needs (Attempting Exchanging) need = need
ended_needs (Attempting stage) need = absurd (false≢true need)
ended_needs Resting need = need
ended_needs (Ending cleared) need = need
ended_needs (Finishing cleared) need = need
ended_needs Finished need = need

drained_needs : (cutover : CutOver) (hint : ℕ) (phase : Phase) → Needs phase (drained cutover hint phase)
drained_needs cutover hint (Attempting (ReadingCounter drain)) need = refl
drained_needs cutover hint (Attempting (SettingCounter number drain)) need = refl
drained_needs cutover hint (Attempting (Draining turns)) need = refl
drained_needs cutover hint (Attempting stage) need = need
drained_needs cutover hint Resting need = need
drained_needs cutover hint (Ending cleared) need = need
drained_needs cutover hint (Finishing cleared) need = need
drained_needs cutover hint Finished need = need

ends_or : (b : Bool) (old new : Stage) → Needs (Attempting old) (Attempting new) → Needs (Attempting old) (cond b (Ending Looking) (Attempting new))
ends_or true old new needs need = absurd (false≢true need)
ends_or false old new needs need = needs need

inspector_needs : (counter : Bool) (stage : Stage) (answer : Answer) → Needs (Attempting stage) (Attempting (inspector_stage counter stage answer))
inspector_needs counter Hinting answer need = refl
inspector_needs counter (ReadingCounter drain) answer need = refl
inspector_needs counter (SettingCounter number drain) answer need = refl
inspector_needs counter Showing answer need = refl
inspector_needs counter stage answer need = need

locker_needs : (stage : Stage) (answer : Answer) → (stage ≡ Guarding → ⊥) → Needs (Attempting stage) (Attempting (locker_stage stage answer))
locker_needs Guarding answer off need = absurd (off refl)
locker_needs Locking answer off need = refl
locker_needs Dropping answer off need = refl
locker_needs Unlocking (answers.Ok count) off need = need
locker_needs stage answer off need = need

waits_needs : (phase : Phase) → Needs phase (waits_phase phase)
waits_needs (Attempting Drained) need = refl
waits_needs (Attempting stage) need = need
waits_needs Resting need = need
waits_needs (Ending cleared) need = need
waits_needs (Finishing cleared) need = need
waits_needs Finished need = need

finishing_none : (left : Leftovers) → needs_sentry (finishing left) ≡ true → ⊥
finishing_none left = by (is_clear left) where
  by : (b : Bool) → needs_sentry (cond b Finished (Finishing (Drops left))) ≡ true → ⊥
  by true need = false≢true need
  by false need = false≢true need

finished_none : (cutover : CutOver) (cleared : Cleared) (answer : Answer) → needs_sentry (finishing_after cutover cleared answer) ≡ true → ⊥
finished_none cutover cleared answers.Lost need = false≢true need
finished_none cutover cleared (answers.TimedOut waited) need = false≢true need
finished_none cutover Looking (answers.Tables tables) need = finishing_none (left_at_end cutover tables) need
finished_none cutover Looking answer need = false≢true need
finished_none cutover (Drops left) (answers.Ok count) need = finishing_none (without_first left) need
finished_none cutover (Drops left) answer need = false≢true need

-- a sentry that is listed has its name listed
sentry_named : (table : List ℕ) (listing : List TableName) → has_sentry table listing ≡ true → has_name (old_name table) listing ≡ true
sentry_named table [] none = absurd (false≢true none)
sentry_named table (first ∷ rest) some = by (bytes_eq first.name (old_name table)) (bytes_eq first.comment sentry_comment) some (sentry_named table rest) where
  by : (a b : Bool) → ((a && b) || has_sentry table rest) ≡ true → (has_sentry table rest ≡ true → has_name (old_name table) rest ≡ true) → (a || has_name (old_name table) rest) ≡ true
  by true b some later = refl
  by false b some later = later some

-- WHAT IS DONE

locks_done : (t : List ℕ) (found : State) (number : ℕ) → is_outside (session_of number found.sessions) (requests.LockTables (both_names t)) ≡ false → has_table t found.tables ≡ true → has_table (old_name t) found.tables ≡ true → IsNotRefused (done found number (requests.LockTables (both_names t))).answer
unfolding did
locks_done t found number inside old sentry =
    subst (λ (b : Bool). IsNotRefused (does (effect_unless b (is_in_transaction (session_of number found.sessions)) (view number found) found (requests.LockTables (both_names t))) found number).answer) (sym inside)
    (subst (λ (b : Bool). IsNotRefused (does (locks_if b (both_names t)) found number).answer) (sym both) tt) where
      both : all_exist (both_names t) found.tables ≡ true
      both = rw (old, sentry) refl

drops_done : (name : List ℕ) (found : State) (number : ℕ) → is_outside (session_of number found.sessions) (requests.Drop name) ≡ false → has_table name found.tables ≡ true → IsNotRefused (done found number (requests.Drop name)).answer
unfolding did
drops_done name found number inside there =
    subst (λ (b : Bool). IsNotRefused (does (effect_unless b (is_in_transaction (session_of number found.sessions)) (view number found) found (requests.Drop name)) found number).answer) (sym inside)
    (subst (λ (b : Bool). IsNotRefused (does (defined (dropped b name found.tables)) found number).answer) (sym there) tt)

old_within : (t : List ℕ) → is_beyond (both_names t) (old_name t ∷ []) ≡ false
old_within t = rw (same_bytes (old_name t), or-true (bytes_eq (old_name t) t)) refl

-- ONE TURN

module _ (plan : PlanData) (runs : IsRunnable plan) (journal : List Entry) (entry : Entry) (kept : IsKept plan journal) (run : IsRun plan journal entry) (going : IsGoing plan journal) (guarded : (work : Work) → (moment plan journal).tool.tool_phase ≡ Migrating work → HasSentryAtOnce work) (is : ToolPhaseSentry plan (state_at plan journal).tables (moment plan journal).tool.tool_phase) where
  abbrev now : Moment
  now = moment plan journal

  abbrev tool : Tool
  tool = record now.tool { turns = now.tool.turns + 1 }

  abbrev more : List Entry
  more = journal ++ entry ∷ []

  abbrev has : Actor → Standing
  has = standing_of plan journal

  abbrev before : Database
  before = (state_at plan journal).tables

  abbrev after : Database
  after = (state_at plan more).tables

  abbrev New : Kept
  New = λ b tool_phase. ToolPhaseSentry plan after tool_phase

  served : IsServed plan journal entry
  served = record { answered = run.answered; seated = record { session = run.followed.session } }

  together : IsTogether plan journal
  together = going.standing.tabled.all.tool

  known : IsKnown plan journal
  known = together.known

  was : (tool_phase : ToolPhase) → now.tool.tool_phase ≡ tool_phase → ToolPhaseSentry plan before tool_phase
  was tool_phase eq = subst (ToolPhaseSentry plan before) eq is

  still : (tool_phase : ToolPhase) → now.tool.tool_phase ≡ tool_phase → AllStay before after → ToolPhaseSentry plan after tool_phase
  still (SettingUp setup tries) eq stay = tt
  still (Migrating work) eq stay = λ need. has_stays before after stay (old_name plan.table) ∙ was (Migrating work) eq need

  back : (b : Bool) (tool_phase : ToolPhase) → New b tool_phase → New true (stopped tool_phase)
  unfolding reverted
  back b (SettingUp setup tries) one = tt
  back b (Migrating work) one = λ need. one (ended_needs work.cutover.phase need)

  drain : (b : Bool) (work : Work) (tries : List ℕ) → New b (Migrating work) → New b (Migrating (record work { cutover = applier_turn work.applier.hint work.cutover; attempt_tries = tries }))
  unfolding applier_turn
  drain b work tries one = λ need. one (drained_needs work.cutover work.applier.hint work.cutover.phase need)

  -- AFTER THE SETUP

  module _ (work : Work) (eq : now.tool.tool_phase ≡ Migrating work) where
    abbrev phase : Phase
    phase = work.cutover.phase

    stands : WorkStands journal (is_reverting now.tool.reason) has work
    stands = subst (ToolPhaseStands journal has (is_reverting now.tool.reason)) eq together.stands

    at : StandsAt plan before (has Insp).waits phase work.cutover.hold work.cutover.renamer_waits work.cutover.is_asked
    at = subst (ToolPhaseAt plan before (has Insp).waits) eq going.standing.tool_phase

    own_table : work.cutover.table ≡ plan.table
    own_table = (subst (ToolPhaseIsNamed plan) eq (named plan journal)).cutover

    abbrev Becomes : Phase → Type 0
    Becomes next = SentryStands plan after next

    stays_so : AllStay before after → (one next : Phase) → SentryStands plan before one → Needs one next → Becomes next
    stays_so stay one next had needs need = has_stays before after stay (old_name plan.table) ∙ had (needs need)

    abbrev About : Request → Type 0
    About request = IsAbout request (has entry.actor) entry.asked

    quiet : (request one : Request) → About request → request ≡ one → is_quiet one ≡ true → AllStay before after
    quiet request one about same calm = quiet_stays plan journal entry going.standing run one (subst About same about) calm

    not_lost : (answer : Answer) → entry.answer ≡ answer → (answer ≡ answers.Lost → ⊥) → entry.answer ≡ answers.Lost → ⊥
    not_lost answer heard off lost = off (sym heard ∙ lost)

    -- THE LOCKER

    begins : About (requests.Create (sentry_schema plan.table)) → (has entry.actor).locked ≡ [] → (answer : Answer) → entry.answer ≡ answer → Becomes (begun answer)
    unfolding sentry_schema
    begins about unlocked (answers.Ok count) heard need =
        stands_has (old_name plan.table) after (sentry_schema plan.table)
        (subst (λ (a : Answer). CreateLeaves (sentry_schema plan.table) before a after) heard
        (heard_leaves (CreateLeaves (sentry_schema plan.table) before) before after entry.answer (not_lost (answers.Ok count) heard (λ same. cc)) (create_left plan journal entry known served (sentry_schema plan.table) about unlocked)))
    begins about unlocked (answers.Waits by) heard need = absurd (false≢true need)
    begins about unlocked answer heard need = absurd (false≢true need)

    drop_leaves : (answer : Answer) → entry.answer ≡ answer → (answer ≡ answers.Lost → ⊥) → About (requests.Drop (old_name plan.table)) → DropLeaves (old_name plan.table) before answer after
    drop_leaves answer heard off about = subst (λ (a : Answer). DropLeaves (old_name plan.table) before a after) heard (heard_leaves (DropLeaves (old_name plan.table) before) before after entry.answer (not_lost answer heard off) (drop_left plan journal entry known served (old_name plan.table) about))

    drops : About (requests.Drop (old_name plan.table)) → SentryStands plan before (Attempting Dropping) → (answer : Answer) → entry.answer ≡ answer → Becomes (locker_phase (Attempting Dropping) answer)
    drops about had (answers.Ok count) heard need = absurd (false≢true need)
    drops about had answers.Lost heard need = absurd (false≢true need)
    drops about had (answers.TimedOut waited) heard need = absurd (false≢true need)
    drops about had (answers.Waits by) heard need = has_stays before after (drop_leaves (answers.Waits by) heard (λ same. cc) about) (old_name plan.table) ∙ had refl
    drops about had (answers.Refused number column) heard need = has_stays before after (drop_leaves (answers.Refused number column) heard (λ same. cc) about) (old_name plan.table) ∙ had refl
    drops about had answer heard need = absurd (drop_leaves answer heard (λ same. cc) about)

    locked_stays : AllStay before after → (answer : Answer) (one : Phase) → (one ≡ Resting → ⊥) → (one ≡ Attempting Guarding → ⊥) → SentryStands plan before one → Becomes (locker_phase one answer)
    locked_stays stay answer Resting no_rest no_guard had = absurd (no_rest refl)
    locked_stays stay answer (Attempting stage) no_rest no_guard had =
        stays_so stay (Attempting stage) (cond (is_bad answer) (Ending Looking) (Attempting (locker_stage stage answer))) had (ends_or (is_bad answer) stage (locker_stage stage answer) (locker_needs stage answer (λ same. no_guard (ap Attempting same))))
    locked_stays stay answer (Ending cleared) no_rest no_guard had = stays_so stay (Ending cleared) (Ending cleared) had (λ need. need)
    locked_stays stay answer (Finishing cleared) no_rest no_guard had = λ need. absurd (false≢true need)
    locked_stays stay answer Finished no_rest no_guard had = λ need. absurd (false≢true need)

    no_hold : WaitsToLock ≡ Nothing → ⊥
    no_hold same = cc

    no_guards : (WaitsToLock ≡ Nothing) ⊎ (WaitsToLock ≡ WaitsToGuard) → ⊥
    no_guards (inl same) = cc
    no_guards (inr same) = cc

    lock_next : entry.actor ≡ Lock → (request : Request) → About request → (hold : Hold) (one : Phase) → work.cutover.hold ≡ hold → PhaseHolds one hold → WaitsForNoSentry hold → LockerAsks plan.table hold one request → SentryStands plan before one → Becomes (locker_phase one entry.answer)
    lock_next same request about Nothing Resting is_hold holds guarded_so asks had = begins (subst About asks about) (ap (λ (a : Actor). (has a).locked) same ∙ ap (λ (s : Standing). s.locked) (stands.locker ∙ ap (held work.cutover.table) is_hold)) entry.answer refl
    lock_next same request about Nothing (Attempting Locking) is_hold holds guarded_so asks had = locked_stays (quiet request (requests.LockTables (both_names plan.table)) about asks refl) entry.answer (Attempting Locking) (λ s. cc) (λ s. cc) had
    lock_next same request about Nothing one is_hold holds guarded_so asks had = absurd asks
    lock_next same request about WaitsToGuard one is_hold holds guarded_so asks had = absurd guarded_so
    lock_next same request about WaitsToLock Resting is_hold holds guarded_so asks had = absurd (no_hold holds)
    lock_next same request about WaitsToLock (Attempting Guarding) is_hold holds guarded_so asks had = absurd (no_guards holds)
    lock_next same request about WaitsToLock one is_hold holds guarded_so asks had = locked_stays (quiet request (requests.LockTables (both_names plan.table)) about asks refl) entry.answer one (λ s. cc) (λ s. cc) had
    lock_next same request about Locks (Attempting Dropping) is_hold holds guarded_so asks had = drops (subst About asks about) had entry.answer refl
    lock_next same request about Locks (Attempting Unlocking) is_hold holds guarded_so asks had = locked_stays (quiet request requests.Unlock about asks refl) entry.answer (Attempting Unlocking) (λ s. cc) (λ s. cc) had
    lock_next same request about Locks (Ending cleared) is_hold holds guarded_so asks had = locked_stays (quiet request requests.Unlock about asks refl) entry.answer (Ending cleared) (λ s. cc) (λ s. cc) had
    lock_next same request about Locks one is_hold holds guarded_so asks had = absurd asks

    -- what it asks
    lock_asks : entry.actor ≡ Lock → Asking plan journal Lock entry.asked → (P : Type 0) → ((request : Request) → About request → LockerAsks plan.table work.cutover.hold phase request → P) → P
    lock_asks same asks P then =
        lock_about plan journal entry together run work eq stands asks P (λ request about kind. then request (about_own plan journal entry going.standing run Lock request same about) (subst (λ (t : List ℕ). LockerAsks t work.cutover.hold phase request) own_table kind))

    lock_turn : entry.actor ≡ Lock → Asking plan journal Lock entry.asked → (tries : List ℕ) → New (is_reverting now.tool.reason) (Migrating (record work { cutover = cutovers.took Locker work.cutover entry.answer; attempt_tries = tries }))
    unfolding cutovers.took
    lock_turn same asks tries = lock_asks same asks (Becomes (locker_phase phase entry.answer)) (λ request about kind. lock_next same request about work.cutover.hold phase refl stands.phase (guarded work eq).hold kind (was (Migrating work) eq))

    lock_lost : AllStay before after → (tries : List ℕ) → New (is_reverting now.tool.reason) (Migrating (record work { cutover = cutovers.took Locker work.cutover answers.Lost; attempt_tries = tries }))
    unfolding cutovers.took
    lock_lost stay tries = by phase (was (Migrating work) eq) where
      by : (one : Phase) → SentryStands plan before one → Becomes (locker_phase one answers.Lost)
      by Resting had = λ need. absurd (false≢true need)
      by (Attempting stage) had = λ need. absurd (false≢true need)
      by (Ending cleared) had = stays_so stay (Ending cleared) (Ending cleared) had (λ need. need)
      by (Finishing cleared) had = λ need. absurd (false≢true need)
      by Finished had = λ need. absurd (false≢true need)

    -- THE RENAMER

    never_asks : (left : Leftovers) → phase ≡ Ending (Drops left) → AsksAt phase work.cutover.renamer_waits → ⊥
    never_asks left at_phase (inl drained_so) = no (sym drained_so ∙ at_phase) where
      no : Attempting Drained ≡ Ending (Drops left) → ⊥
      no same = cc
    never_asks left at_phase (inr on) = true≢false (sym on ∙ subst (λ (p : Phase). RenamerAt p work.cutover.renamer_waits) at_phase at.renamer)

    failed_stays : (one : Phase) → ((left : Leftovers) → one ≡ Ending (Drops left) → ⊥) → Becomes (failed one)
    failed_stays (Attempting stage) off need = absurd (false≢true need)
    failed_stays Resting off need = absurd (false≢true need)
    failed_stays (Ending Looking) off need = absurd (false≢true need)
    failed_stays (Ending (Drops left)) off need = absurd (off left refl)
    failed_stays (Finishing cleared) off need = absurd (false≢true need)
    failed_stays Finished off need = absurd (false≢true need)

    ren_next : About (exchange plan.table) → (has entry.actor).locked ≡ [] → AsksAt phase work.cutover.renamer_waits → (answer : Answer) → entry.answer ≡ answer → Becomes (renamer_phase phase answer)
    ren_next about unlocked asks answer heard = by answer (λ off. subst (λ (a : Answer). ExchangeLeaves plan.table before a after) heard (heard_leaves (ExchangeLeaves plan.table before) before after entry.answer (not_lost answer heard off) (exchange_left plan journal entry known served plan.table about unlocked))) where
      had : SentryStands plan before phase
      had = was (Migrating work) eq

      by : (answer : Answer) → ((answer ≡ answers.Lost → ⊥) → ExchangeLeaves plan.table before answer after) → Becomes (renamer_phase phase answer)
      by (answers.Ok count) leaves = λ need. absurd (false≢true need)
      by (answers.Waits other) leaves = stays_so (leaves (λ same. cc)) phase (waits_phase phase) had (waits_needs phase)
      by answers.Lost leaves = failed_stays phase (λ left at_phase. never_asks left at_phase asks)
      by (answers.TimedOut waited) leaves = failed_stays phase (λ left at_phase. never_asks left at_phase asks)
      by (answers.Refused number column) leaves = stays_so (leaves (λ same. cc)).0 phase phase had (λ need. need)
      by answer leaves = absurd (leaves (λ same. cc))

    ren_turn : entry.actor ≡ Ren → Asking plan journal Ren entry.asked → (tries : List ℕ) → New (is_reverting now.tool.reason) (Migrating (record work { cutover = cutovers.took Renamer work.cutover entry.answer; attempt_tries = tries }))
    unfolding cutovers.took
    ren_turn same asks tries =
        ren_about plan journal entry together run work eq stands asks (Becomes (renamer_phase phase entry.answer))
        (λ request about kind. ren_next (about_own plan journal entry going.standing run Ren (exchange plan.table) same (subst (λ (r : Request). IsAbout r (has Ren) entry.asked) (kind ∙ ap exchange own_table) about))
        (ap (λ (a : Actor). (has a).locked) same ∙ renamer_unlocked plan journal entry going.standing run work eq) (asks_at plan journal entry going.standing run work eq asks) entry.answer refl)

    ren_lost : AllStay before after → (tries : List ℕ) → New (is_reverting now.tool.reason) (Migrating (record work { cutover = cutovers.took Renamer work.cutover answers.Lost; attempt_tries = tries }))
    unfolding cutovers.took
    ren_lost stay tries = by phase (was (Migrating work) eq) where
      by : (one : Phase) → SentryStands plan before one → Becomes (failed one)
      by Resting had = λ need. absurd (false≢true need)
      by (Attempting stage) had = λ need. absurd (false≢true need)
      by (Ending cleared) had = stays_so stay (Ending cleared) (Ending cleared) had (λ need. need)
      by (Finishing cleared) had = λ need. absurd (false≢true need)
      by Finished had = λ need. absurd (false≢true need)

    -- THE INSPECTOR

    -- the inspector sets the counter
    sets_on : (number : ℕ) (drain : Drain) → phase ≡ Attempting (SettingCounter number drain) → AllStay before after → Becomes (inspector_phase work.cutover (Attempting (SettingCounter number drain)) entry.answer)
    sets_on number drain at_phase stay =
        stays_so stay (Attempting (SettingCounter number drain)) (cond (is_bad entry.answer) (Ending Looking) (Attempting (inspector_stage work.cutover.has_counter (SettingCounter number drain) entry.answer))) (subst (SentryStands plan before) at_phase (was (Migrating work) eq))
        (ends_or (is_bad entry.answer) (SettingCounter number drain) (inspector_stage work.cutover.has_counter (SettingCounter number drain) entry.answer) (inspector_needs work.cutover.has_counter (SettingCounter number drain) entry.answer))

    -- ... or polls that request
    polled_on : (one : Phase) → phase ≡ one → (request : Request) → About request → SetsCounter plan one request → Becomes (inspector_phase work.cutover one entry.answer)
    polled_on (Attempting (SettingCounter number drain)) at_phase request about sets = sets_on number drain at_phase (quiet request (requests.SetCounter (ghost_name plan.table) number) about sets refl)
    polled_on (Ending Looking) at_phase request about sets = subst Becomes (sym (polled_ends plan runs journal entry kept run going work.cutover sets.0 request about sets.1)) (λ need. absurd (false≢true need))
    polled_on one at_phase request about sets = absurd sets

    module _ (same : entry.actor ≡ Insp) (request : Request) (asks : entry.asked ≡ Call request) where
      about_it : (one : Request) → request ≡ one → About one
      about_it one is_one = about_own plan journal entry going.standing run Insp one same (is_called (asks ∙ ap Call is_one) (insp_idle plan runs journal entry kept run going same request asks))

      calm : (one : Request) → request ≡ one → is_quiet one ≡ true → AllStay before after
      calm one is_one is_calm = quiet_stays plan journal entry going.standing run one (about_it one is_one) is_calm

      old_forbidden : (bytes_eq (old_name plan.table) (log_name plan.table) || bytes_eq (old_name plan.table) (old_name plan.table)) ≡ true
      old_forbidden = or_right (bytes_eq (old_name plan.table) (log_name plan.table)) (bytes_eq (old_name plan.table) (old_name plan.table)) (same_bytes (old_name plan.table))

      -- nobody has the sentry's name
      away : work.cutover.hold ≡ Nothing → work.cutover.renamer_waits ≡ false → (a : Actor) → same_actor a Insp ≡ false → IsAway plan journal going.names a (old_name plan.table)
      away nothing off (Client c) differ = away_forbidden plan journal going.names (Client c) (old_name plan.table) (old_is_tool plan.table)
      away nothing off Op differ = away_free plan journal going.names Op (old_name plan.table) (ap (standing_in (state_at plan journal)) (together_owned plan journal kept.faithful kept.follows).owned.operator)
      away nothing off Insp differ = absurd (true≢false differ)
      away nothing off Copy differ = away_forbidden plan journal going.names Copy (old_name plan.table) old_forbidden
      away nothing off Apply differ = away_forbidden plan journal going.names Apply (old_name plan.table) old_forbidden
      away nothing off Lock differ = away_free plan journal going.names Lock (old_name plan.table) (stands.locker ∙ ap (held work.cutover.table) nothing)
      away nothing off Ren differ = away_free plan journal going.names Ren (old_name plan.table) (stands.renamer ∙ ap (renaming work.cutover.table) off)

      unlocked_insp : (has entry.actor).locked ≡ []
      unlocked_insp = insp_unlocked plan runs journal entry kept run going same

      -- the sentry's DROP at an attempt's end
      drop_is : (left : Leftovers) → phase ≡ Ending (Drops left) → attempts.inspector_call work.cutover (Ending (Drops left)) ≡ Some request → request ≡ requests.Drop (old_name plan.table)
      drop_is left at_phase call = by (is_free work.cutover.hold work.cutover.renamer_waits) call where
        alone : left ≡ sentry_alone
        alone = subst LeftAt at_phase at.left

        by : (b : Bool) → cond b (clears work.cutover.table (Drops left)) None ≡ Some request → request ≡ requests.Drop (old_name plan.table)
        by true called =
            some_request (λ (r : Request). r ≡ requests.Drop (old_name plan.table)) (requests.Drop (first_name work.cutover.table left)) request called
            (ap (λ (l : Leftovers). requests.Drop (first_name work.cutover.table l)) alone ∙ ap (λ (t : List ℕ). requests.Drop (old_name t)) own_table)
        by false called = absurd cc

      pub clears_ok : (left : Leftovers) → phase ≡ Ending (Drops left) → attempts.inspector_call work.cutover (Ending (Drops left)) ≡ Some request → entry.side ≡ None → entry.answer ≡ ok
      clears_ok left at_phase call no_side =
          drops_ok plan runs journal entry kept run going.names Insp same (ap is_command asks) (old_name plan.table) (asks ∙ ap Call (drop_is left at_phase call)) no_side unlocked_insp
          (free_name plan runs journal entry kept run going.names Insp same (ap is_command asks) (old_name plan.table) (away (subst (λ (p : Phase). PhaseHolds p work.cutover.hold) at_phase stands.phase) (subst (λ (p : Phase). RenamerAt p work.cutover.renamer_waits) at_phase at.renamer)))
          (was (Migrating work) eq (ap needs_sentry at_phase))

      ending_drops : (left : Leftovers) → (entry.side ≡ None → entry.answer ≡ ok) → Becomes (cutovers.ending_after work.cutover (Drops left) entry.answer)
      ending_drops left done_so = by entry.side refl where
        by : (side : Option Side) → entry.side ≡ side → Becomes (cutovers.ending_after work.cutover (Drops left) entry.answer)
        by None none = subst (λ (a : Answer). Becomes (cutovers.ending_after work.cutover (Drops left) a)) (sym (done_so none)) (λ need. absurd (false≢true need))
        by (Some side) some = subst (λ (a : Answer). Becomes (cutovers.ending_after work.cutover (Drops left) a)) (sym (own_missed plan journal entry known served side some)) (λ need. absurd (false≢true need))

      seen_needs : (listing : List TableName) → listing ≡ tables_shown before → AllStay before after → Becomes (seen work.cutover listing)
      seen_needs listing lists stay = by (not (has_name (ghost_name work.cutover.table) listing)) (has_sentry work.cutover.table listing) refl where
        by : (a b : Bool) → has_sentry work.cutover.table listing ≡ b → Becomes (cond a (finishing (left_at_end work.cutover listing)) (cond b (Ending (Drops sentry_alone)) Resting))
        by true b is_listed = λ need. absurd (finishing_none (left_at_end work.cutover listing) need)
        by false true is_listed = λ need.
            has_stays before after stay (old_name plan.table) ∙ has_is (old_name plan.table) before ∙ sym (listed_is (old_name plan.table) before) ∙ ap (has_name (old_name plan.table)) (sym lists) ∙ ap (λ (t : List ℕ). has_name (old_name t) listing) (sym own_table)
            ∙ sentry_named work.cutover.table listing is_listed
        by false false is_listed = λ need. absurd (false≢true need)

      ending_looks : request ≡ requests.ShowTables → (answer : Answer) → entry.answer ≡ answer → Becomes (cutovers.ending_after work.cutover Looking answer)
      ending_looks is_show answers.Lost heard = λ need. absurd (false≢true need)
      ending_looks is_show (answers.TimedOut waited) heard = λ need. absurd (false≢true need)
      ending_looks is_show (answers.Tables listing) heard = seen_needs listing (listed_so plan journal entry going.standing run requests.ShowTables (about_it requests.ShowTables is_show) listing heard) (calm requests.ShowTables is_show refl)
      ending_looks is_show answer heard = λ need. absurd (false≢true need)

      insp_next : (one : Phase) → phase ≡ one → attempts.inspector_call work.cutover one ≡ Some request → Becomes (inspector_phase work.cutover one entry.answer)
      insp_next Resting at_phase call = absurd cc
      insp_next Finished at_phase call = absurd cc
      insp_next (Attempting Hinting) at_phase call =
          stays_so (some_request (λ (r : Request). request ≡ r → AllStay before after) _ request call (λ is_one. calm _ is_one refl) refl) (Attempting Hinting) (cond (is_bad entry.answer) (Ending Looking) (Attempting (inspector_stage work.cutover.has_counter Hinting entry.answer)))
          (subst (SentryStands plan before) at_phase (was (Migrating work) eq)) (ends_or (is_bad entry.answer) Hinting (inspector_stage work.cutover.has_counter Hinting entry.answer) (inspector_needs work.cutover.has_counter Hinting entry.answer))
      insp_next (Attempting (ReadingCounter drain)) at_phase call =
          stays_so (some_request (λ (r : Request). request ≡ r → AllStay before after) _ request call (λ is_one. calm _ is_one refl) refl) (Attempting (ReadingCounter drain)) (cond (is_bad entry.answer) (Ending Looking) (Attempting (inspector_stage work.cutover.has_counter (ReadingCounter drain) entry.answer)))
          (subst (SentryStands plan before) at_phase (was (Migrating work) eq)) (ends_or (is_bad entry.answer) (ReadingCounter drain) (inspector_stage work.cutover.has_counter (ReadingCounter drain) entry.answer) (inspector_needs work.cutover.has_counter (ReadingCounter drain) entry.answer))
      insp_next (Attempting (SettingCounter number drain)) at_phase call =
          sets_on number drain at_phase (some_request (λ (r : Request). request ≡ r → AllStay before after) _ request call (λ is_one. calm _ is_one refl) refl)
      insp_next (Attempting Showing) at_phase call =
          stays_so (some_request (λ (r : Request). request ≡ r → AllStay before after) _ request call (λ is_one. calm _ is_one refl) refl) (Attempting Showing) (cond (is_bad entry.answer) (Ending Looking) (Attempting (inspector_stage work.cutover.has_counter Showing entry.answer)))
          (subst (SentryStands plan before) at_phase (was (Migrating work) eq)) (ends_or (is_bad entry.answer) Showing (inspector_stage work.cutover.has_counter Showing entry.answer) (inspector_needs work.cutover.has_counter Showing entry.answer))
      insp_next (Attempting stage) at_phase call = absurd cc
      insp_next (Ending Looking) at_phase call = ending_looks (by (is_free work.cutover.hold work.cutover.renamer_waits) call) entry.answer refl where
        by : (b : Bool) → cond b (clears work.cutover.table Looking) None ≡ Some request → request ≡ requests.ShowTables
        by true called = some_request (λ (r : Request). r ≡ requests.ShowTables) requests.ShowTables request called refl
        by false called = absurd cc
      insp_next (Ending (Drops left)) at_phase call = ending_drops left (λ none. clears_ok left at_phase call none)
      insp_next (Finishing cleared) at_phase call = λ need. absurd (finished_none work.cutover cleared entry.answer need)

      -- while a note's row is written no attempt stands
      insp_asked : Inspects plan journal now.tool work request → Becomes (inspector_phase work.cutover phase entry.answer)
      unfolding attempts.next
      insp_asked (cuts_so off next) = insp_next phase refl next
      insp_asked (notes_so note resting onward next) = subst (λ (p : Phase). Becomes (inspector_phase work.cutover p entry.answer)) (sym resting) (λ need. absurd (false≢true need))

    insp_turn : entry.actor ≡ Insp → Asking plan journal Insp entry.asked → (tries : List ℕ) → New (is_reverting now.tool.reason) (Migrating (record work { cutover = cutovers.took Inspector work.cutover entry.answer; attempt_tries = tries }))
    unfolding cutovers.took
    insp_turn same (polls_so request asks some) tries =
        polled_on phase refl request (about_own plan journal entry going.standing run Insp request same (is_polled asks some)) (insp_waits plan runs journal entry kept run going (Migrating work) eq request some).0
    insp_turn same (calls_so request asks idle call) tries = insp_asked same request asks (inspects plan journal now.tool work request (ap (λ (c : ToolPhase). tool_call plan now.server journal now.tool c Insp) (sym eq) ∙ call))

    insp_lost : AllStay before after → (tries : List ℕ) → New (is_reverting now.tool.reason) (Migrating (record work { cutover = cutovers.took Inspector work.cutover answers.Lost; attempt_tries = tries }))
    unfolding cutovers.took
    insp_lost stay tries = by phase where
      by : (one : Phase) → Becomes (inspector_phase work.cutover one answers.Lost)
      by Resting = λ need. absurd (false≢true need)
      by (Attempting stage) = λ need. absurd (false≢true need)
      by (Ending cleared) = λ need. absurd (false≢true need)
      by (Finishing cleared) = λ need. absurd (false≢true need)
      by Finished = λ need. absurd (false≢true need)

    -- WHAT GOES ON

    outside_is : (request : Request) → is_command entry.asked ≡ false → (found : State) → IsFoundBy found (opens entry (state_at plan journal)) → is_outside (session_of entry.session found.sessions) request ≡ is_beyond (has entry.actor).locked (tables_named request)
    outside_is request called found is_found =
        let opened : IsOpen plan journal entry known served = is_open plan journal entry known served called in
        ap (λ (sessions : List Session). is_outside (session_of entry.session sessions) request) is_found.sessions ∙ ap (λ (o : Option Session). is_outside o request) opened.is
        ∙ ap (λ (s : Standing). is_beyond s.locked (tables_named request)) (sym opened.stands)

    found_tables : (found : State) → IsFoundBy found (opens entry (state_at plan journal)) → found.tables ≡ before
    found_tables found is_found = is_found.tables ∙ opened_tables plan journal entry

    undone : HoldsUndone IsNotRefused
    undone = record { waits = λ by. tt; timed = λ waited. tt; lost = tt }

    -- *LOCK TABLES*
    pub locks_go : is_command entry.asked ≡ false → phase ≡ Attempting Locking → entry.actor ≡ Lock → Asking plan journal Lock entry.asked → IsNotRefused entry.answer
    locks_go called at_phase same asks = lock_asks same asks (IsNotRefused entry.answer) (λ request about kind. by request about work.cutover.hold refl (guarded work eq).hold (subst (λ (p : Phase). LockerAsks plan.table work.cutover.hold p request) at_phase kind)) where
      sentry : has_table (old_name plan.table) before ≡ true
      sentry = was (Migrating work) eq (ap needs_sentry at_phase)

      guards : GuardedTables plan before
      guards = subst (TablesAt plan before) at_phase at.tables

      answers_so : (request : Request) → About request → (has Lock).locked ≡ [] → request ≡ requests.LockTables (both_names plan.table) → IsNotRefused entry.answer
      answers_so request about none is_lock =
          own_answer IsNotRefused undone plan journal entry known served (requests.LockTables (both_names plan.table)) (subst About is_lock about)
          (λ found is_found. locks_done plan.table found entry.session
          (outside_is (requests.LockTables (both_names plan.table)) called found is_found ∙ ap (λ (a : Actor). is_beyond (has a).locked (tables_named (requests.LockTables (both_names plan.table)))) same ∙ ap (λ (names : List (List ℕ)). is_beyond names (tables_named (requests.LockTables (both_names plan.table)))) none)
          (ap (has_table plan.table) (found_tables found is_found) ∙ stands_has plan.table before (old_schema plan) guards.stand.old) (ap (has_table (old_name plan.table)) (found_tables found is_found) ∙ sentry))

      unlocked : (hold : Hold) → work.cutover.hold ≡ hold → (held work.cutover.table hold).locked ≡ [] → (has Lock).locked ≡ []
      unlocked hold is_hold none = ap (λ (s : Standing). s.locked) (stands.locker ∙ ap (held work.cutover.table) is_hold) ∙ none

      by : (request : Request) → About request → (hold : Hold) → work.cutover.hold ≡ hold → WaitsForNoSentry hold → LockerAsks plan.table hold (Attempting Locking) request → IsNotRefused entry.answer
      by request about Nothing is_hold guarded_so kind = answers_so request about (unlocked Nothing is_hold refl) kind
      by request about WaitsToGuard is_hold guarded_so kind = absurd guarded_so
      by request about WaitsToLock is_hold guarded_so kind = answers_so request about (unlocked WaitsToLock is_hold refl) kind
      by request about Locks is_hold guarded_so kind = absurd kind

    -- *The sentry's DROP under the lock*
    pub drops_go : is_command entry.asked ≡ false → phase ≡ Attempting Dropping → entry.actor ≡ Lock → Asking plan journal Lock entry.asked → IsNotRefused entry.answer
    drops_go called at_phase same asks = lock_asks same asks (IsNotRefused entry.answer) (λ request about kind. answers_so request about (subst (λ (h : Hold). LockerAsks plan.table h (Attempting Dropping) request) locks (subst (λ (p : Phase). LockerAsks plan.table work.cutover.hold p request) at_phase kind))) where
      locks : work.cutover.hold ≡ Locks
      locks = subst (λ (p : Phase). PhaseHolds p work.cutover.hold) at_phase stands.phase

      locked : (has entry.actor).locked ≡ both_names plan.table
      locked = ap (λ (a : Actor). (has a).locked) same ∙ ap (λ (s : Standing). s.locked) (stands.locker ∙ ap (held work.cutover.table) locks) ∙ ap both_names own_table

      answers_so : (request : Request) → About request → request ≡ requests.Drop (old_name plan.table) → IsNotRefused entry.answer
      answers_so request about is_drop =
          own_answer IsNotRefused undone plan journal entry known served (requests.Drop (old_name plan.table)) (subst About is_drop about)
          (λ found is_found. drops_done (old_name plan.table) found entry.session
          (outside_is (requests.Drop (old_name plan.table)) called found is_found ∙ ap (λ (names : List (List ℕ)). is_beyond names (old_name plan.table ∷ [])) locked ∙ old_within plan.table)
          (ap (has_table (old_name plan.table)) (found_tables found is_found) ∙ was (Migrating work) eq (ap needs_sentry at_phase)))

    -- *The counter is shown*
    at_of : (name : List ℕ) (answer : Answer) → IsUnrefused answer → serves_to (requests.ShowCounter name) answer ≡ true → IsAt answer
    at_of name (answers.At number) unrefused serves = tt
    at_of name (answers.Refused number column) unrefused serves = absurd unrefused
    at_of name answer unrefused serves = absurd (false≢true serves)

    pub reads_go : is_command entry.asked ≡ false → (drain : Drain) → phase ≡ Attempting (ReadingCounter drain) → entry.actor ≡ Insp → entry.asked ≡ Call (requests.ShowCounter plan.table) → entry.side ≡ None → IsAt entry.answer
    reads_go called drain at_phase same asks no_side = at_of plan.table entry.answer unrefused (own_heard plan journal entry known served (requests.ShowCounter plan.table) about no_side) where
      about : About (requests.ShowCounter plan.table)
      about = about_own plan journal entry going.standing run Insp (requests.ShowCounter plan.table) same (is_called asks (insp_idle plan runs journal entry kept run going same (requests.ShowCounter plan.table) asks))

      guards : GuardedTables plan before
      guards = subst (TablesAt plan before) at_phase at.tables

      unrefused : IsUnrefused entry.answer
      unrefused = shows_unrefused plan journal entry known served called (insp_unlocked plan runs journal entry kept run going same) plan.table (old_schema plan) guards.stand.old about

    -- *The counter is set*
    set_of : (name : List ℕ) (least : ℕ) (answer : Answer) → IsUnrefused answer → answers_to (requests.SetCounter name least) answer ≡ true → IsNotRefused answer
    set_of name least (answers.Ok count) unrefused fits_so = tt
    set_of name least (answers.Waits by) unrefused fits_so = tt
    set_of name least (answers.TimedOut waited) unrefused fits_so = tt
    set_of name least answers.Lost unrefused fits_so = tt
    set_of name least (answers.Refused number column) unrefused fits_so = absurd unrefused
    set_of name least answer unrefused fits_so = absurd (false≢true fits_so)

    pub sets_go : is_command entry.asked ≡ false → (number : ℕ) (drain : Drain) → phase ≡ Attempting (SettingCounter number drain) → entry.actor ≡ Insp → About (requests.SetCounter (ghost_name plan.table) number) → IsNotRefused entry.answer
    sets_go called number drain at_phase same about =
        set_of (ghost_name plan.table) number entry.answer
        (sets_unrefused plan journal entry known served called (insp_unlocked plan runs journal entry kept run going same) (ghost_name plan.table) number (ghost_schema plan) (subst (TablesAt plan before) at_phase at.tables).stand.ghost about)
        (own_fits plan journal entry known served (requests.SetCounter (ghost_name plan.table) number) about)

  -- EVERY ACTOR

  unfit_so : (work : Work) → New false (Migrating work) → UnfitKeeps New work
  unfit_so work one = record { renamed = λ renamed. one; reverts = back false (Migrating work) one }

  copy_so : (answer : Answer) (work : Work) → New false (Migrating work) → CopyKeeps New answer tool work
  copy_so answer work one = record { reverting = λ reverting. one; unfit = λ onward place number unfit. unfit_so work one; took = λ onward fits tries. one }

  apply_so : (answer : Answer) (work : Work) → New false (Migrating work) → ApplyKeeps New answer tool work
  apply_so answer work one = record { reverting = λ reverting. one; unfit = λ onward place number unfit. unfit_so work one; took = λ onward fits tries. one }

  begins_none : (size : ℕ) (tries : List ℕ) (setup : Setup) → New false (tool_phase_of plan size setup tries)
  begins_none size tries (Ready position range) = λ need. absurd (false≢true need)
  begins_none size tries Listing = tt
  begins_none size tries (Clearing left) = tt
  begins_none size tries MakingLog = tt
  begins_none size tries MakingGhost = tt
  begins_none size tries Marking = tt
  begins_none size tries (Reaching position) = tt

  setup_so : (answer : Answer) (setup : Setup) (tries : List ℕ) → SetupKeeps plan New answer tool setup tries
  setup_so answer setup tries = record { reverting = λ reverting. tt; again = λ onward bad more. tt; goes = λ onward good. begins_none tool.operator.size tries (setup_after plan.table setup answer) }

  quiet_so : (actor : Actor) → entry.actor ≡ actor → may_define actor ≡ false → given plan journal actor ≡ Some entry.asked → (entry.asked ≡ Cut → ⊥) → ((word : OperatorWord) → entry.asked ≡ Command word → ⊥) → (tool_phase : ToolPhase) → now.tool.tool_phase ≡ tool_phase → ToolPhaseSentry plan after tool_phase
  quiet_so actor same none gives called commanded tool_phase eq = still tool_phase eq (quiet_stay plan journal entry going.standing.tabled.all going.standing.tabled.quiet run actor same none gives called commanded)

  heard_so : (actor : Actor) → entry.actor ≡ actor → given plan journal actor ≡ Some entry.asked → (entry.asked ≡ Cut → ⊥) → ((word : OperatorWord) → entry.asked ≡ Command word → ⊥) → (tool_phase : ToolPhase) → now.tool.tool_phase ≡ tool_phase → AnswerKeeps plan New entry.answer tool actor tool_phase
  unfolding given
  heard_so Insp same gives called commanded (SettingUp setup tries) eq = setup_so entry.answer setup tries
  heard_so Insp same gives called commanded (Migrating work) eq = insp_turn work eq same (asking plan journal Insp entry.asked together.server gives)
  heard_so Copy same gives called commanded (SettingUp setup tries) eq = tt
  heard_so Copy same gives called commanded (Migrating work) eq = copy_so entry.answer work (quiet_so Copy same refl gives called commanded (Migrating work) eq)
  heard_so Apply same gives called commanded (SettingUp setup tries) eq = tt
  heard_so Apply same gives called commanded (Migrating work) eq = apply_so entry.answer work (quiet_so Apply same refl gives called commanded (Migrating work) eq)
  heard_so Lock same gives called commanded (SettingUp setup tries) eq = tt
  heard_so Lock same gives called commanded (Migrating work) eq = lock_turn work eq same (asking plan journal Lock entry.asked together.server gives)
  heard_so Ren same gives called commanded (SettingUp setup tries) eq = tt
  heard_so Ren same gives called commanded (Migrating work) eq = ren_turn work eq same (asking plan journal Ren entry.asked together.server gives)
  heard_so Op same gives called commanded (SettingUp setup tries) eq = tt
  heard_so Op same gives called commanded (Migrating work) eq = quiet_so Op same refl gives called commanded (Migrating work) eq
  heard_so (Client c) same gives called commanded (SettingUp setup tries) eq = tt
  heard_so (Client c) same gives called commanded (Migrating work) eq = quiet_so (Client c) same refl gives called commanded (Migrating work) eq

  cut_so : entry.asked ≡ Cut → (tool_phase : ToolPhase) → now.tool.tool_phase ≡ tool_phase → ToolPhaseSentry plan after tool_phase
  cut_so cut tool_phase eq = still tool_phase eq (cut_stay plan journal entry going.standing run cut)

  lost_so : entry.asked ≡ Cut → (actor : Actor) (tool_phase : ToolPhase) → now.tool.tool_phase ≡ tool_phase → AnswerKeeps plan New answers.Lost tool actor tool_phase
  lost_so cut Insp (SettingUp setup tries) eq = setup_so answers.Lost setup tries
  lost_so cut Insp (Migrating work) eq = insp_lost work eq (cut_stay plan journal entry going.standing run cut)
  lost_so cut Copy (SettingUp setup tries) eq = tt
  lost_so cut Copy (Migrating work) eq = copy_so answers.Lost work (cut_so cut (Migrating work) eq)
  lost_so cut Apply (SettingUp setup tries) eq = tt
  lost_so cut Apply (Migrating work) eq = apply_so answers.Lost work (cut_so cut (Migrating work) eq)
  lost_so cut Lock (SettingUp setup tries) eq = tt
  lost_so cut Lock (Migrating work) eq = lock_lost work eq (cut_stay plan journal entry going.standing run cut)
  lost_so cut Ren (SettingUp setup tries) eq = tt
  lost_so cut Ren (Migrating work) eq = ren_lost work eq (cut_stay plan journal entry going.standing run cut)
  lost_so cut Op (SettingUp setup tries) eq = tt
  lost_so cut Op (Migrating work) eq = cut_so cut (Migrating work) eq
  lost_so cut (Client c) (SettingUp setup tries) eq = tt
  lost_so cut (Client c) (Migrating work) eq = cut_so cut (Migrating work) eq

  command_so : (word : OperatorWord) → entry.asked ≡ Command word → (tool_phase : ToolPhase) → now.tool.tool_phase ≡ tool_phase → ToolPhaseSentry plan after tool_phase
  command_so word asks tool_phase eq = still tool_phase eq (rest plan journal entry going.standing run (ap may_lose asks))

  resize_so : (size : ℕ) → entry.asked ≡ Command (ChunkSize size) → (tool_phase : ToolPhase) → now.tool.tool_phase ≡ tool_phase → ResizeKeeps New tool size tool_phase
  resize_so size asks (SettingUp setup tries) eq = tt
  resize_so size asks (Migrating work) eq = command_so (ChunkSize size) asks (Migrating work) eq

  sentry_more : ToolPhaseSentry plan after (moment plan more).tool.tool_phase
  sentry_more =
      turn_kept plan New back journal entry drain
      (record {
        commanded = λ word asks unsized. command_so word asks now.tool.tool_phase refl;
        resized = λ size asks. resize_so size asks now.tool.tool_phase refl;
        idle = λ asks none. cut_so asks now.tool.tool_phase refl;
        lost = λ asks worked. lost_so asks entry.actor now.tool.tool_phase refl;
        heard = λ called commanded. heard_so entry.actor refl (gives_asked plan journal entry entry.asked run.followed.given refl called) called commanded now.tool.tool_phase refl;
      })

sentry_begins : (plan : PlanData) → ToolPhaseSentry plan (state_at plan []).tables (moment plan []).tool.tool_phase
unfolding moment
sentry_begins plan = tt

-- *The sentry exists*, after every kept journal
pub all_sentried : (plan : PlanData) (journal : List Entry) → IsRunnable plan → IsSerialPlan plan → IsKept plan journal → ToolPhaseSentry plan (state_at plan journal).tables (moment plan journal).tool.tool_phase
all_sentried plan journal runs serial kept =
    each_kept plan (λ before. ToolPhaseSentry plan (state_at plan before).tables (moment plan before).tool.tool_phase)
    (λ before entry one is.
    let front : IsKept plan before = kept_front plan before (entry ∷ []) one in
    sentry_more plan runs before entry front (kept_run plan before entry one) (all_going plan before runs serial front) (λ work eq. sentries_made plan before work runs serial front eq) is) journal kept (sentry_begins plan)
