-- What a turn of the tool's leaves, of a kept journal in which the RENAME isn't done yet.
use Rattle.server_model.specs.PlainServer.{recounted, counters_left}
use Rattle.std.proofs.Common.{◌≡◌, ℕ, Bool, true, false, not, ◌||◌, List, [], ◌∷◌, ◌++◌, cond, Option, Some, None, Ok, refl, sym, ap, ◌∙◌, subst}
use Rattle.std.proofs.lemmas.Bool.{true≢false, ne_eqb, or_left, or_right}
use Rattle.std.proofs.lemmas.List.Folds.{list_any-append}
use Rattle.std.proofs.lemmas.Option.{same_Some}
use Rattle.base_values.specs.declared.gho_schema.schema.Schema.{Schema}
use Rattle.server_locks.specs.MetadataLocks.Grants as grants
use Rattle.server_locks.specs.MetadataLocks.Grants.{holds}
use Rattle.table_store.specs.Databases.{Database, has_table, is_named, without_table}
use Rattle.base_script.specs.declared.actor.Actor.{Actor}
use Rattle.base_script.specs.declared.actor.Side.{Side}
use Rattle.base_script.specs.declared.actor.Side.TheVariants.{Before, After}
use Rattle.server_model.specs.Answers.{ok}
use Rattle.server_model.specs.Effects.{created, dropped}
use Rattle.server_model.specs.Entries.{is_client, is_command}
use Rattle.server_model.specs.PlainServer.{Served, leaves, loses, serves}
use Rattle.server_model.specs.States.{State, is_in_transaction, kept_names, locked_names, session_of, shared_names, writes_of}
use Rattle.server_model.specs.declared.answer.Answer.{Answer}
use Rattle.server_model.specs.declared.answer.Answer.TheVariants as answers
use Rattle.server_model.specs.declared.entry.Asked.{Asked}
use Rattle.server_model.specs.declared.entry.Asked.TheVariants.{Call, Poll, Cut}
use Rattle.server_model.specs.declared.entry.Entry.{Entry}
use Rattle.server_model.specs.declared.request.Request.{Request}
use Rattle.server_model.specs.declared.request.Request.TheVariants as requests
use Rattle.server_model.specs.declared.session.HeldName.{HeldName}
use Rattle.server_model.specs.declared.session.Session.{Session}
use Rattle.plan_data.specs.PlanData.{PlanData}
use Rattle.tool_program.specs.JournalWords.Journals.{may_lose, opens, state_at}
use Rattle.server_model.proofs.LockedRows.Tests.{same_bytes}
use Rattle.proof_journals.specs.Holdings.{Face, IsHeld, face_in, face_of, names_of}
use Rattle.proof_journals.specs.Plans.{IsSerialPlan, limits_of, scene_of}
use Rattle.proof_journals.specs.Scenes.{SessionHold, Stored, no_hold}
use Rattle.proof_journals.specs.Turns.{IsSceneRun, IsReported, about, reported_at}
use Rattle.proof_journals.proofs.Faces.{faces_opened, writes_face}
use Rattle.proof_journals.proofs.Joined.{reported_answer, reported_missed, reported_draw}
use Rattle.proof_journals.proofs.Journals.{JournalHolds, journal_holds, stored_opened}
use Rattle.proof_journals.proofs.PlanJournals.{plan_runs_are_scene_runs}
use Rattle.proof_journals.specs.ServerTurns.Others.{DefinitionsAreDone, EntriesAreTurns, ExclusiveIsAlone, LocksAreTaken, TurnOf, asks_names, held_at}
use Rattle.proof_journals.proofs.ServerTurns.Others.{Held, held_from, holds_from}
use Rattle.proof_journals.proofs.ServerTurns.Alone.{held_opened}
use Rattle.proof_journals.specs.Run.Kept.{IsKept}
use Rattle.proof_journals.specs.Machine.Runnable.{IsRunnable}
use Rattle.proof_journals.specs.Machine.Standings.{IsAbout, Standing, answers_to, is_called, is_polled, standing_of}
use Rattle.proof_journals.proofs.Machine.Fitting.{IsPrompt}
use Rattle.proof_journals.proofs.Machine.Journals.{IsRun, IsTogether}
use Rattle.proof_journals.proofs.Machine.Seated.{IsOpen, IsServed, is_open, own_given, own_missed, state_more}
use Rattle.proof_journals.specs.Sentry.Sentries.{OthersHold}
use Rattle.proof_journals.specs.Sentry.Turns.{CallLeaves, CreateLeaves, DropLeaves, HoldsNothing, LockLeaves, UnlockLeaves}
use Rattle.proof_migration.specs.ToolPhase.Unaltered.{IsUnaltered}
use Rattle.proof_migration.proofs.ToolPhase.Unaltered.Away.{IsKnownAsked, all_asked, unaltered_front}
use Rattle.proof_migration.proofs.ToolPhase.Unaltered.Runs.{unaltered_runs}
use Rattle.proof_migration.proofs.Program.Turns.Asked.{about_called}
use Rattle.proof_migration.proofs.Program.Turns.Follows.{kept_front, kept_run}
use Rattle.proof_migration.proofs.Program.LockerTurns.Apart.{gone_names, lost_holds, nameless_holds, opened_apart}
use Rattle.proof_migration.proofs.Program.LockerTurns.Quiet.{CountsNone, Quiet, defines, is_late, is_ok, is_rowless, quiet_served}

-- no name is held, where none is shared and none is locked
pub no_names : (held : List HeldName) → names_of (shared_names held) ≡ [] → locked_names held ≡ [] → held ≡ []
no_names [] shared locked = refl
no_names (one ∷ held) shared locked = by one.exclusive shared locked where
  by : (b : Bool) → names_of (cond (not b) (one ∷ shared_names held) (shared_names held)) ≡ [] → names_of (cond b (one ∷ kept_names held) (kept_names held)) ≡ [] → one ∷ held ≡ []
  by true shared locked = absurd cc
  by false shared locked = absurd cc

joined_stands : (schema : Schema) (tables : Database) → has_table schema.name (tables ++ record { schema = schema; rows = [] } ∷ []) ≡ true
joined_stands schema tables =
    list_any-append (is_named schema.name) tables (record { schema = schema; rows = [] } ∷ []) ∙ or_right (has_table schema.name tables) (is_named schema.name (record { schema = schema; rows = [] }) || false) (or_left (is_named schema.name (record { schema = schema; rows = [] })) false (same_bytes schema.name))

created_stands : (stands : Bool) (schema : Schema) (tables after : Database) → created stands schema tables ≡ Ok after → has_table schema.name after ≡ true
created_stands true schema tables after is = absurd cc
created_stands false schema tables after is = let same : tables ++ record { schema = schema; rows = [] } ∷ [] ≡ after = cc in ap (has_table schema.name) (sym same) ∙ joined_stands schema tables

dropped_leaves : (stands : Bool) (name : List ℕ) (tables after : Database) → dropped stands name tables ≡ Ok after → after ≡ without_table name tables
dropped_leaves false name tables after is = absurd cc
dropped_leaves true name tables after is = let same : without_table name tables ≡ after = cc in sym same

-- who holds no more than before holds nothing where it held nothing
pub still_nothing : (before after : List grants.HeldName) (session : ℕ) (name : List ℕ) → ((one : grants.HeldName) → IsHeld one after → IsHeld one before) → holds before session name false ≡ false → holds after session name false ≡ false
still_nothing before after session name fewer none = by (holds after session name false) refl where
  by : (b : Bool) → holds after session name false ≡ b → b ≡ false
  by false is = refl
  by true is = let has : Held after session name = held_from after session name is in absurd (true≢false (sym (holds_from before session name has.one (fewer has.one has.is) has.own has.same) ∙ none))

module _ (entries_are_turns : EntriesAreTurns) (plan : PlanData) (journal : List Entry) (entry : Entry) (runs : IsRunnable plan) (serial : IsSerialPlan plan) (kept : IsKept plan (journal ++ entry ∷ [])) (off : IsUnaltered plan (journal ++ entry ∷ [])) where
  abbrev before : State
  before = state_at plan journal

  abbrev after : State
  after = state_at plan (journal ++ entry ∷ [])

  abbrev now : State
  now = opens entry before

  abbrev pub served : Served
  served = serves now entry.session entry.asked

  kept_before : IsKept plan journal
  kept_before = kept_front plan journal (entry ∷ []) kept

  pub known : IsKnownAsked plan journal
  known = all_asked plan journal runs kept_before.faithful kept_before.follows

  pub run : IsRun plan journal entry
  run = kept_run plan journal entry kept

  pub together : IsTogether plan journal
  together = known.marking.tabled.all.tool

  pub seated : IsServed plan journal entry
  seated = record { answered = run.answered; seated = record { session = run.followed.session } }

  pub scene_run : IsSceneRun (limits_of plan) (scene_of plan journal) journal
  scene_run = plan_runs_are_scene_runs plan journal (unaltered_runs plan journal runs serial kept_before (unaltered_front plan journal (entry ∷ []) off))

  reported : IsReported (limits_of plan) (scene_of plan journal) journal entry
  reported = record { answer = reported_answer before entry run.answered; missed = reported_missed before entry run.answered; draw = reported_draw before entry run.answered }

  -- *The turn, as others see it*
  pub turn : TurnOf (asks_names (about now entry.session entry.asked)) entry.session before after
  turn = entries_are_turns (limits_of plan) (scene_of plan journal) journal entry scene_run

  pub others_hold : (table : List ℕ) → OthersHold table entry.session (held_at before) (held_at after)
  others_hold table other name exclusive apart = turn.others other name exclusive (ne_eqb other entry.session apart)

  -- THE STATE ONCE THE SESSION IS OPEN

  pub tables_now : now.tables ≡ before.tables
  tables_now = ap (λ (s : Stored). s.tables) (stored_opened (is_command entry.asked) (not (is_client entry.actor)) entry.session before)

  pub log_now : now.log ≡ before.log
  log_now = ap (λ (s : Stored). s.log) (stored_opened (is_command entry.asked) (not (is_client entry.actor)) entry.session before)

  pub held_now : held_at now ≡ held_at before
  held_now = held_opened (is_command entry.asked) (not (is_client entry.actor)) entry.session before

  pub after_is : (side : Option Side) → entry.side ≡ side → after ≡ recounted (counters_left side now entry.session entry.asked) (leaves side now entry.session entry.asked)
  after_is side is = state_more plan journal entry ∙ ap (λ (s : Option Side). recounted (counters_left s now entry.session entry.asked) (leaves s now entry.session entry.asked)) is

  pub heard_side : (entry.answer ≡ answers.Lost → ⊥) → entry.side ≡ None
  heard_side heard = by entry.side refl where
    by : (side : Option Side) → entry.side ≡ side → side ≡ None
    by None is = refl
    by (Some side) is = absurd (heard (own_missed plan journal entry together.known seated side is))

  pub given_heard : entry.side ≡ None → served.answer ≡ entry.answer
  given_heard no_side = own_given plan journal entry together.known seated no_side

  -- A SESSION WITHOUT NAMES

  -- its session, once it is open, and what it has
  record Opened : Type 0 where
    found : Session
    is : session_of entry.session now.sessions ≡ Some found
    busy : (standing_of plan journal entry.actor).busy ≡ found.in_transaction
    locked : (standing_of plan journal entry.actor).locked ≡ locked_names found.names

  opened_now : is_command entry.asked ≡ false → Opened
  opened_now called =
      let there : IsOpen plan journal entry together.known seated = is_open plan journal entry together.known seated called in
      record { found = there.found; is = there.is; busy = ap (λ (s : Standing). s.busy) there.stands; locked = ap (λ (s : Standing). s.locked) there.stands }

  pub idle_now : is_command entry.asked ≡ false → (standing_of plan journal entry.actor).busy ≡ false → is_in_transaction (session_of entry.session now.sessions) ≡ false
  idle_now called busy = let there : Opened = opened_now called in ap is_in_transaction there.is ∙ sym there.busy ∙ busy

  -- outside a transaction it holds no lock but those of LOCK TABLES, and wrote nothing
  unheld : is_command entry.asked ≡ false → (standing_of plan journal entry.actor).busy ≡ false → (face_of now.sessions entry.session).hold ≡ no_hold
  unheld called busy =
      let there : Opened = opened_now called in
      let face : face_of now.sessions entry.session ≡ face_of before.sessions entry.session = faces_opened (is_command entry.asked) (not (is_client entry.actor)) entry.session entry.session before in
      let held : JournalHolds (limits_of plan) (scene_of plan journal) journal = journal_holds (limits_of plan) (scene_of plan journal) journal scene_run in
      let idle : (face_of before.sessions entry.session).busy ≡ false = ap (λ (f : Face). f.busy) (sym face) ∙ ap (λ (o : Option Session). (face_in o).busy) there.is ∙ sym there.busy ∙ busy in
      ap (λ (f : Face). f.hold) face ∙ ((held.holds.fits entry.session).rests idle).0

  pub writeless : is_command entry.asked ≡ false → (standing_of plan journal entry.actor).busy ≡ false → writes_of (session_of entry.session now.sessions) ≡ []
  writeless called busy = writes_face (session_of entry.session now.sessions) ∙ ap (λ (h : SessionHold). h.writes) (unheld called busy)

  -- without a table lock it holds no name
  pub nameless : is_command entry.asked ≡ false → (standing_of plan journal entry.actor).busy ≡ false → (standing_of plan journal entry.actor).locked ≡ [] → (found : Session) → session_of entry.session now.sessions ≡ Some found → found.names ≡ []
  nameless called busy locked found is =
      let there : Opened = opened_now called in
      let same : there.found ≡ found = same_Some there.found found (sym there.is ∙ is) in
      no_names found.names (ap (λ (o : Option Session). (face_in o).hold.names) (sym is) ∙ ap (λ (h : SessionHold). h.names) (unheld called busy)) (ap (λ (s : Session). locked_names s.names) (sym same) ∙ sym there.locked ∙ locked)

  pub nothing_before : is_command entry.asked ≡ false → (standing_of plan journal entry.actor).busy ≡ false → (standing_of plan journal entry.actor).locked ≡ [] → (name : List ℕ) (exclusive : Bool) → holds (held_at before) entry.session name exclusive ≡ false
  nothing_before called busy locked name exclusive =
      ap (λ (h : List grants.HeldName). holds h entry.session name exclusive) (sym held_now) ∙ nameless_holds entry.session now.sessions (opened_apart plan journal entry) (nameless called busy locked) name exclusive

  -- A SESSION THAT IS LOST

  pub lost_nothing : (side : Side) → entry.side ≡ Some side → HoldsNothing entry.session after
  unfolding loses
  lost_nothing side is name exclusive = ap (λ (s : State). holds (held_at s) entry.session name exclusive) (after_is (Some side) is) ∙ by side where
    by : (side : Side) → holds (held_at (leaves (Some side) now entry.session entry.asked)) entry.session name exclusive ≡ false
    by Before = lost_holds entry.session now.sessions name exclusive
    by After = lost_holds entry.session served.after.sessions name exclusive

  -- between calls
  module _ (cut : entry.asked ≡ Cut) where
    cut_after : after ≡ recounted (counters_left None now entry.session Cut) (loses entry.session now)
    cut_after = after_is None (run.answered.sides (ap may_lose cut)) ∙ ap (λ (a : Asked). recounted (counters_left None now entry.session a) (serves now entry.session a).after) cut

    pub cut_nothing : HoldsNothing entry.session after
    unfolding loses
    cut_nothing name exclusive = ap (λ (s : State). holds (held_at s) entry.session name exclusive) cut_after ∙ lost_holds entry.session now.sessions name exclusive

    pub cut_log : after.log ≡ before.log
    unfolding loses
    cut_log = ap (λ (s : State). s.log) cut_after ∙ log_now

    pub cut_tables : after.tables ≡ before.tables
    unfolding loses
    cut_tables = ap (λ (s : State). s.tables) cut_after ∙ tables_now

    pub cut_held : (standing_of plan journal entry.actor).busy ≡ false → (standing_of plan journal entry.actor).locked ≡ [] → held_at after ≡ held_at before
    unfolding loses
    cut_held busy locked = ap held_at cut_after ∙ gone_names entry.session now.sessions (opened_apart plan journal entry) (nameless (ap is_command cut) busy locked) ∙ held_now

  -- A TURN ABOUT SUCH A REQUEST

  module _ (actor : Actor) (same : entry.actor ≡ actor) (request : Request) (is_about : IsAbout request (standing_of plan journal actor) entry.asked) (rowless : is_rowless request ≡ true) where
    pub about_here : about now entry.session entry.asked ≡ Some request
    about_here = about_called plan serial runs.fitting journal entry known run off actor request same is_about

    pub uncut : entry.asked ≡ Cut → ⊥
    uncut cut = by is_about where
      by : IsAbout request (standing_of plan journal actor) entry.asked → ⊥
      by (is_called asks none) = no (sym asks ∙ cut) where
        no : Call request ≡ Cut → ⊥
        no same = cc
      by (is_polled asks some) = no (sym asks ∙ cut) where
        no : Poll ≡ Cut → ⊥
        no same = cc

    quiet : Quiet request now entry.session served
    quiet = quiet_served now entry.session entry.asked request about_here uncut rowless

    pub quiet_log : after.log ≡ before.log
    unfolding loses
    quiet_log = by entry.side refl where
      by : (side : Option Side) → entry.side ≡ side → after.log ≡ before.log
      by None is = ap (λ (s : State). s.log) (after_is None is) ∙ quiet.log ∙ log_now
      by (Some Before) is = ap (λ (s : State). s.log) (after_is (Some Before) is) ∙ log_now
      by (Some After) is = ap (λ (s : State). s.log) (after_is (Some After) is) ∙ quiet.log ∙ log_now

    pub quiet_tables : defines request ≡ false → after.tables ≡ before.tables
    unfolding loses
    quiet_tables plain = by entry.side refl where
      by : (side : Option Side) → entry.side ≡ side → after.tables ≡ before.tables
      by None is = ap (λ (s : State). s.tables) (after_is None is) ∙ quiet.tables plain ∙ tables_now
      by (Some Before) is = ap (λ (s : State). s.tables) (after_is (Some Before) is) ∙ tables_now
      by (Some After) is = ap (λ (s : State). s.tables) (after_is (Some After) is) ∙ quiet.tables plain ∙ tables_now

    pub quiet_undone : entry.side ≡ None → is_ok entry.answer ≡ false → after.tables ≡ before.tables
    quiet_undone no_side undone = ap (λ (s : State). s.tables) (after_is None no_side) ∙ quiet.undone (ap is_ok (given_heard no_side) ∙ undone) ∙ tables_now

    pub quiet_counts : entry.side ≡ None → CountsNone entry.answer
    quiet_counts no_side = subst CountsNone (given_heard no_side) quiet.counts

    pub quiet_fewer : entry.side ≡ None → defines request ≡ true → (one : grants.HeldName) → IsHeld one (held_at after) → IsHeld one (held_at before)
    quiet_fewer no_side is one held = subst (IsHeld one) held_now (quiet.fewer is one (subst (λ (s : State). IsHeld one (held_at s)) (after_is None no_side) held))

    pub quiet_names : entry.side ≡ None → defines request ≡ true → is_late entry.answer ≡ false → held_at after ≡ held_at before
    quiet_names no_side is soon = ap held_at (after_is None no_side) ∙ quiet.names is (ap is_late (given_heard no_side) ∙ soon) ∙ held_now

    -- where it was done
    pub done_ok : (count : ℕ) → entry.answer ≡ answers.Ok count → (entry.side ≡ None) × (entry.answer ≡ ok)
    done_ok count is =
        let no_side : entry.side ≡ None = heard_side (λ lost. no (sym lost ∙ is)) in
        let zero : count ≡ 0 = subst CountsNone is (quiet_counts no_side) in (no_side, is ∙ ap answers.Ok zero) where
          no : answers.Lost ≡ answers.Ok count → ⊥
          no same = cc

    pub was_done : (count : ℕ) → entry.answer ≡ answers.Ok count → reported_at entry.side entry.answer entry.missed ≡ Some ok
    was_done count is = let both = done_ok count is in ap (λ (s : Option Side). reported_at s entry.answer entry.missed) both.0 ∙ ap Some both.1

    -- what the laws of the locker's calls ask
    module _ (definitions_are_done : DefinitionsAreDone) (exclusive_is_alone : ExclusiveIsAlone) (locks_are_taken : LocksAreTaken) where
      create_leaves : (schema : Schema) → request ≡ requests.Create schema → (answer : Answer) → entry.answer ≡ answer → CreateLeaves schema.name answer after
      create_leaves schema asks (answers.Ok count) is =
          created_stands (has_table schema.name before.tables) schema before.tables after.tables
          (definitions_are_done (limits_of plan) (scene_of plan journal) journal entry (requests.Create schema) (created (has_table schema.name before.tables) schema before.tables) reported (about_here ∙ ap Some asks) refl (was_done count is))
      create_leaves schema asks answer is = tt

      stays : defines request ≡ false → (name : List ℕ) → has_table name after.tables ≡ has_table name before.tables
      stays plain name = ap (has_table name) (quiet_tables plain)

      lock_leaves : (names : List (List ℕ)) → request ≡ requests.LockTables names → (answer : Answer) → entry.answer ≡ answer → LockLeaves names entry.session answer before after
      lock_leaves names asks (answers.Ok count) is = record {
        taken = locks_are_taken (limits_of plan) (scene_of plan journal) journal entry names reported (about_here ∙ ap Some asks) (done_ok count is).0 (done_ok count is).1;
        alone = exclusive_is_alone (limits_of plan) (scene_of plan journal) journal entry (requests.LockTables names) scene_run reported (about_here ∙ ap Some asks) refl (was_done count is);
        defines = stays (ap defines asks);
      }
      lock_leaves names asks answer is = stays (ap defines asks)

      drop_leaves : (name : List ℕ) → request ≡ requests.Drop name → (answer : Answer) → entry.answer ≡ answer → IsPrompt answer → DropLeaves name entry.session answer before after
      drop_leaves name asks (answers.Ok count) is prompt = record {
        takes = asks_names (about now entry.session entry.asked);
        turn = turn;
        tables = dropped_leaves (has_table name before.tables) name before.tables after.tables
            (definitions_are_done (limits_of plan) (scene_of plan journal) journal entry (requests.Drop name) (dropped (has_table name before.tables) name before.tables) reported (about_here ∙ ap Some asks) refl (was_done count is));
        names = quiet_names (done_ok count is).0 (ap defines asks) (ap is_late is);
        logs = quiet_log;
      }
      drop_leaves name asks answers.Lost is prompt = record { takes = asks_names (about now entry.session entry.asked); turn = turn; logs = quiet_log }
      drop_leaves name asks (answers.TimedOut waited) is prompt = absurd prompt
      drop_leaves name asks (answers.Waits by) is prompt = absurd prompt
      drop_leaves name asks answer is prompt =
          let no_side : entry.side ≡ None = heard_side (λ lost. let no : answers.Lost ≡ answer = sym lost ∙ is in cc) in
          record {
            takes = asks_names (about now entry.session entry.asked);
            turn = turn;
            logs = quiet_log;
            defines = λ other. ap (has_table other) (quiet_undone no_side (ap is_ok is));
            names = quiet_names no_side (ap defines asks) (ap is_late is);
          }

      unlock_leaves : request ≡ requests.Unlock → (answer : Answer) → entry.answer ≡ answer → answers_to requests.Unlock answer ≡ true → UnlockLeaves entry.session answer before after
      unlock_leaves asks (answers.Ok count) is fits = record { takes = asks_names (about now entry.session entry.asked); turn = turn; logs = quiet_log; defines = stays (ap defines asks) }
      unlock_leaves asks answers.Lost is fits = record { takes = asks_names (about now entry.session entry.asked); turn = turn; logs = quiet_log; defines = stays (ap defines asks) }
      unlock_leaves asks answer is fits = absurd cc

      pub call_leaves : answers_to request entry.answer ≡ true → ((name : List ℕ) → request ≡ requests.Drop name → IsPrompt entry.answer) → CallLeaves entry.session request entry.answer before after
      call_leaves fits prompt = by request refl where
        by : (one : Request) → request ≡ one → CallLeaves entry.session one entry.answer before after
        by (requests.Create schema) is = create_leaves schema is entry.answer refl
        by (requests.LockTables names) is = lock_leaves names is entry.answer refl
        by (requests.Drop name) is = drop_leaves name is entry.answer refl (prompt name is)
        by requests.Unlock is = unlock_leaves is entry.answer refl (subst (λ (r : Request). answers_to r entry.answer ≡ true) is fits)
        by one is = tt
