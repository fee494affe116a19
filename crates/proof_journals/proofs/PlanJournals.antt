-- *Journals are serial*: of every plan, in the journal's own words.
use Rattle.std.proofs.Common.{◌≡◌, ℕ, false, List, [], ◌∷◌, ◌++◌, map, Option, Some, None, refl, sym, ap, ◌∙◌, subst}
use Rattle.std.proofs.Common.{append_assoc, append-nil}
use Rattle.std.specs.Prelude.{option_map}
use Rattle.std.specs.List.{AllByRecursion}
use Rattle.table_store.specs.Databases.{TableRows, Database, with_change}
use Rattle.base_script.specs.declared.actor.Actor.TheVariants.{Client}
use Rattle.server_model.specs.Along.{Along, gathered-more}
use Rattle.server_model.specs.declared.entry.Entry.{Entry}
use Rattle.server_model.specs.Alone.{lines_run, nothing_ran}
use Rattle.server_model.specs.States.{opened}
use Rattle.plan_data.specs.PlanData.{PlanData}
use Rattle.tool_program.specs.JournalWords.Journals.{state_after, state_at, IsAnswered}
use Rattle.tool_program.specs.JournalWords.Sessions.{live_session, IsSeated, KeepsSessions}
use Rattle.tool_program.specs.JournalWords.Clients.{client_at}
use Rattle.tool_program.specs.JournalWords.KeptPlans.{IsPlanned, KeepsPlan, TakesNext}
use Rattle.tool_program.specs.JournalWords.Histories as histories
use Rattle.tool_program.specs.JournalWords.Histories.{HistoryItem, request_waiting}
use Rattle.tool_program.specs.JournalWords.Serials as serials
use Rattle.tool_program.specs.JournalWords.Serials.{altered_in, altered_database, IsSerial}
use Rattle.proof_journals.specs.Scenes.{PlainItem, Scene, Going, not_going, tables_left, seen, left}
use Rattle.proof_journals.specs.Turns.{goings_at, goings_from, entry_adds, history, IsAllowed}
use Rattle.proof_journals.specs.Holdings.{stored}
use Rattle.proof_journals.specs.Laws.{SceneSerial, PlanRunsAreSceneRuns, JournalsAreSerial}
use Rattle.proof_journals.specs.Plans.{client_names, is_client_session, limits_of, scene_of, KeepsAway, IsSerialPlan, IsPlanRun, TakesLines}
use Rattle.proof_journals.proofs.Actors.{placed, sessions_begin, Kinds, KindSo, all_kinds}
use Rattle.proof_journals.proofs.Journals.{JournalHolds, scene_serial, step, begins, goings_more}
use Rattle.proof_journals.proofs.Joined.{faithful_reported, reported_answer, reported_missed, reported_draw, SerialPlain, LeadsPlain, AltersAs, serial_plain}
use Rattle.proof_journals.proofs.Linking.{Linked, Known, linked_more, allowed_here}
use Rattle.proof_journals.proofs.Naming.{migrated_named, script_lines, extras_open, extras_serial, left_is}
use Rattle.proof_journals.proofs.Openings.{opening_well_formed}
use Rattle.proof_journals.proofs.Progress.{plain, going_of, Free}

-- all that holds behind a journal's turns
pub record PlanHolds (plan : PlanData) (whole journal : List Entry) : Type 0 where
  pub holds : JournalHolds (limits_of plan) (scene_of plan whole) journal
  pub linked : Linked plan journal (goings_at (limits_of plan) (scene_of plan whole) journal) (history (limits_of plan) (scene_of plan whole) journal)

-- what is asked of a turn
pub record IsGood (plan : PlanData) (whole before : List Entry) (entry : Entry) : Type 0 where
  pub answered : IsAnswered (state_at plan before) entry
  pub next : TakesNext plan before entry.actor entry.asked
  pub seated : IsSeated before entry
  pub away : KeepsAway plan before entry entry.actor
  pub kind : KindSo whole entry

known_of : (plan : PlanData) (whole journal : List Entry) (entry : Entry) → is_client_session whole 0 ≡ false → IsGood plan whole journal entry → PlanHolds plan whole journal → Known plan whole journal entry (goings_at (limits_of plan) (scene_of plan whole) journal)
known_of plan whole journal entry zero good is = record {
  placed = placed journal entry good.seated;
  sides = good.answered.sides;
  answer = reported_answer (state_at plan journal) entry good.answered;
  missed = reported_missed (state_at plan journal) entry good.answered;
  draw = reported_draw (state_at plan journal) entry good.answered;
  kind = λ call. (good.kind call).0;
  zero = zero;
  next = good.next;
  away = good.away;
  fits = is.holds.holds.fits;
}

plan_step : (plan : PlanData) (whole journal : List Entry) (entry : Entry) → is_client_session whole 0 ≡ false → IsGood plan whole journal entry → PlanHolds plan whole journal → PlanHolds plan whole (journal ++ entry ∷ [])
unfolding history
plan_step plan whole journal entry zero good is =
    let going : ℕ → Going = goings_at (limits_of plan) (scene_of plan whole) journal in
    let past : List PlainItem = history (limits_of plan) (scene_of plan whole) journal in
    let known : Known plan whole journal entry going = known_of plan whole journal entry zero good is in
    record {
      holds = step (limits_of plan) (scene_of plan whole) (migrated_named plan) journal entry
          (record { answer = known.answer; missed = known.missed; draw = known.draw }, allowed_here plan whole journal entry going past is.linked known) is.holds;
      linked = rw (goings_more (scene_of plan whole) (opened (limits_of plan) plan.tables) (λ n. not_going) journal entry, gathered-more (entry_adds (limits_of plan) (scene_of plan whole)) [] journal entry)
          (linked_more plan whole journal entry going past is.linked known);
    }

-- AT THE START

plan_begins : (plan : PlanData) (whole : List Entry) → IsSerialPlan plan → PlanHolds plan whole []
unfolding live_session request_waiting client_at history goings_from histories.history state_after
plan_begins plan whole is = record {
  holds = begins (limits_of plan) (scene_of plan whole) (opening_well_formed plan.tables is.tables);
  linked = record {
    known_sessions = sessions_begin;
    waiting = λ a n live. absurd (cc);
    unheld = λ a none. refl;
    fresh = λ n more. (refl, refl);
    runs = λ c n live. absurd (cc);
    closed = λ c none. refl;
    lines = λ c. Free refl refl;
    named = λ c. script_lines plan c;
    items = refl;
  };
}

-- A WHOLE JOURNAL

-- what is asked of each turn, with what holds of each entry of the whole
all_good : (plan : PlanData) (whole before journal : List Entry) → Along (λ some entry. IsAnswered (state_at plan some) entry) before journal → Along (λ some entry. TakesNext plan some entry.actor entry.asked) before journal → Along IsSeated before journal → Along (λ some entry. KeepsAway plan some entry entry.actor) before journal
    → AllByRecursion (KindSo whole) journal → Along (IsGood plan whole) before journal
all_good plan whole before [] faithful lines seated away kinds = tt
all_good plan whole before (entry ∷ journal) faithful lines seated away kinds =
    (record { answered = faithful.0; next = lines.0; seated = seated.0; away = away.0; kind = kinds.0 }, all_good plan whole (before ++ entry ∷ []) journal faithful.1 lines.1 seated.1 away.1 kinds.1)

-- how far all holds, turn by turn
goes : (plan : PlanData) (whole before journal : List Entry) → is_client_session whole 0 ≡ false → Along (IsGood plan whole) before journal → PlanHolds plan whole before → PlanHolds plan whole (before ++ journal) × Along (IsAllowed (limits_of plan) (scene_of plan whole)) before journal
goes plan whole before [] zero good is = (rw (append-nil before) is, tt)
goes plan whole before (entry ∷ journal) zero good is =
    let rest = goes plan whole (before ++ entry ∷ []) journal zero good.1 (plan_step plan whole before entry zero good.0 is) in (
      subst (PlanHolds plan whole) (append_assoc before (entry ∷ []) journal) rest.0,
      (allowed_here plan whole before entry (goings_at (limits_of plan) (scene_of plan whole) before) (history (limits_of plan) (scene_of plan whole) before) is.linked (known_of plan whole before entry zero good.0 is), rest.1),
    )

pub plan_goes : (plan : PlanData) (journal : List Entry) → IsPlanRun plan journal → PlanHolds plan journal journal × Along (IsAllowed (limits_of plan) (scene_of plan journal)) [] journal
unfolding TakesLines KeepsSessions
plan_goes plan journal run =
    let kinds : Kinds journal = all_kinds journal run.seated in
    goes plan journal [] journal kinds.known_sessions.none (all_good plan journal [] journal run.faithful run.lines run.seated run.away kinds.each) (plan_begins plan journal run.serial)

-- *A plan's run is a scene's*
pub plan_runs_are_scene_runs : PlanRunsAreSceneRuns
plan_runs_are_scene_runs plan journal run = record {
  well_formed = opening_well_formed plan.tables run.serial.tables;
  migrated = migrated_named plan;
  reported = faithful_reported (limits_of plan) (scene_of plan journal) [] journal run.faithful;
  allowed = (plan_goes plan journal run).1;
}

-- SERIAL, IN THE JOURNAL'S WORDS

alters_as : (plan : PlanData) (whole : List Entry) → AltersAs (scene_of plan whole) (altered_database plan)
unfolding altered_database
alters_as plan whole before old new was made =
    ap (altered_in plan before) was ∙ ap (option_map (λ (t : TableRows). with_change plan.table (λ table. t) before)) made

leads_words : (plan : PlanData) (item : HistoryItem) (before after : Database) → LeadsPlain (altered_database plan) (plain item) before after → serials.Leads plan item before after
leads_words plan (histories.Txn past) before after leads = leads
leads_words plan histories.Alter before after leads = leads

serial_words : (plan : PlanData) (before : Database) (items : List HistoryItem) (after : Database) → SerialPlain (altered_database plan) before (map plain items) after → serials.Serial plan before items after
serial_words plan before [] after serial = serial
serial_words plan before (item ∷ items) after serial = (serial.0, leads_words plan item before serial.0 serial.1, serial_words plan serial.0 items after serial.2)

-- the replies of an open transaction are those that its lines have alone on the tables that are left
going_words : (plan : PlanData) (journal : List Entry) (live : ℕ → Option ℕ) (going : ℕ → Going) (now : Database) → ((c : ℕ) → live c ≡ None → going_of (client_at plan journal c) ≡ not_going) → ((c n : ℕ) → live c ≡ Some n → going n ≡ going_of (client_at plan journal c))
    → ((n : ℕ) → (lines_run now nothing_ran (going n).lines).replies ≡ (going n).replies) → (c : ℕ) → (client_at plan journal c).replies ≡ (lines_run now nothing_ran (client_at plan journal c).lines).replies
unfolding lines_run
going_words plan journal live going now closed runs law c = by (live c) refl where
  Replies : Going → Type 0
  Replies g = g.replies ≡ (lines_run now nothing_ran g.lines).replies

  by : (o : Option ℕ) → live c ≡ o → Replies (going_of (client_at plan journal c))
  by None none = subst Replies (sym (closed c none)) refl
  by (Some n) is = subst Replies (runs c n is) (sym (law n))

-- *Journals are serial*
pub journals_are_serial : JournalsAreSerial
journals_are_serial plan journal run once =
    let end : PlanHolds plan journal journal = (plan_goes plan journal run).0 in
    let scene : Scene = scene_of plan journal in
    let now : Database = (state_at plan journal).tables in
    let open_left : tables_left (client_names plan) plan.tables ≡ serials.tables_left plan plan.tables = left_is plan plan.tables (extras_open plan run.serial) in
    let none = extras_serial plan scene (record { tables = plan.tables; log = [] }) (history (limits_of plan) scene journal) (seen scene (stored (state_at plan journal))) refl end.holds.holds.kept.serial (extras_open plan run.serial) in
    let now_left : tables_left (client_names plan) now ≡ serials.tables_left plan now = left_is plan now none in
    let law : SceneSerial (limits_of plan) scene journal = scene_serial (limits_of plan) scene journal (migrated_named plan) end.holds in
    let led : SerialPlain (altered_database plan) (tables_left (client_names plan) plan.tables) (map plain (histories.history plan journal)) (tables_left (client_names plan) now) =
    subst (λ (items : List PlainItem). SerialPlain (altered_database plan) (tables_left (client_names plan) plan.tables) items (tables_left (client_names plan) now)) end.linked.items
    (serial_plain scene (altered_database plan) (alters_as plan journal) (left scene (record { tables = plan.tables; log = [] })) (history (limits_of plan) scene journal) (left scene (stored (state_at plan journal))) law.ended) in
    record {
      once = once;
      leads = serial_words plan (serials.tables_left plan plan.tables) (histories.history plan journal) (serials.tables_left plan now)
          (subst (λ (d : Database). SerialPlain (altered_database plan) (serials.tables_left plan plan.tables) (map plain (histories.history plan journal)) d) now_left
          (subst (λ (d : Database). SerialPlain (altered_database plan) d (map plain (histories.history plan journal)) (tables_left (client_names plan) now)) open_left led));
      going = subst (λ (d : Database). (c : ℕ) → (client_at plan journal c).replies ≡ (lines_run d nothing_ran (client_at plan journal c).lines).replies) now_left
          (going_words plan journal (λ c. live_session journal (Client c)) (goings_at (limits_of plan) scene journal) (tables_left (client_names plan) now) end.linked.closed end.linked.runs law.going);
    }

-- *Who keeps the plan takes its lines*
lines_along : (plan : PlanData) (before journal : List Entry) → Along (IsPlanned plan) before journal → Along (λ some entry. TakesNext plan some entry.actor entry.asked) before journal
lines_along plan before [] planned = tt
lines_along plan before (entry ∷ journal) planned = (planned.0.next, lines_along plan (before ++ entry ∷ []) journal planned.1)

pub takes_lines : (plan : PlanData) (journal : List Entry) → KeepsPlan plan journal → TakesLines plan journal
unfolding KeepsPlan TakesLines
takes_lines plan journal planned = lines_along plan [] journal planned
