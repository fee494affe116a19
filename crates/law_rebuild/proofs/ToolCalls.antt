-- What a call of the tool's leaves of the migrated table, in a run of the plan: it writes no row of it, so that the log says no more of it,
-- and it stays, but for the RENAME that is done, which makes the altered table of it.
use Rattle.std.proofs.Common.{◌≡◌, ℕ, ◌==◌, Bool, true, false, cond, List, [], ◌∷◌, ◌++◌, Option, Some, None, Ok, inl, inr, ◌⊎◌, refl, sym, ap, ◌∙◌, subst, append-nil}
use Rattle.std.specs.List.{AllByRecursion, list_any}
use Rattle.std.specs.Str.{bytes_eq}
use Rattle.std.proofs.lemmas.Bool.{true≢false}
use Rattle.std.proofs.lemmas.List.Elements.{filter-append}
use Rattle.base_values.specs.declared.event.RowEvent.{RowEvent}
use Rattle.base_values.proofs.SchemaRules.Steps.{some_is}
use Rattle.base_script.specs.declared.actor.Actor.{Actor}
use Rattle.base_script.specs.declared.actor.Actor.TheVariants.{Op, Insp, Copy, Apply, Lock, Ren, Client}
use Rattle.base_script.specs.declared.actor.Side.{Side}
use Rattle.table_store.specs.Databases.{find_table, rename_tables}
use Rattle.table_store.specs.declared.renames.Pair.{Pair}
use Rattle.server_model.specs.Answers.{ok}
use Rattle.server_model.specs.declared.answer.Answer.{Answer}
use Rattle.server_model.specs.declared.answer.Answer.TheVariants as answers
use Rattle.server_model.specs.declared.entry.Asked.{Asked}
use Rattle.server_model.specs.declared.entry.Asked.TheVariants.{Call, Cut}
use Rattle.server_model.specs.declared.entry.Entry.{Entry}
use Rattle.server_model.specs.declared.request.Request.{Request}
use Rattle.server_model.specs.declared.request.Request.TheVariants as requests
use Rattle.server_model.specs.Effects.{renamed_or}
use Rattle.server_model.specs.Entries.{is_client}
use Rattle.server_model.specs.Operations.{table_of}
use Rattle.server_model.specs.PlainServer.{serves}
use Rattle.server_model.specs.States.{State, pair_names}
use Rattle.server_model.proofs.LockedRows.Tests.{are_one, turned_bytes}
use Rattle.plan_data.specs.PlanData.{PlanData, new_schema}
use Rattle.tool_program.specs.EventApplier.Appliers.{events_of}
use Rattle.tool_program.specs.JournalWords.Histories.{Alter, adds, alters, answer_in, asked_about, entry_adds, is_alter, renames_away, request_waiting, takes_away}
use Rattle.tool_program.specs.JournalWords.Histories as histories
use Rattle.tool_program.specs.JournalWords.Journals.{opens, state_at}
use Rattle.proof_journals.specs.Ghost.Invariant.{NotOf}
use Rattle.proof_journals.specs.Ghost.Rows.Timelines.{Migration}
use Rattle.proof_journals.specs.Plans.{AsksAway, IsAway, IsPlanRun, KeepsAway, limits_of, scene_of}
use Rattle.proof_journals.specs.Scenes.{AltersTo, Besides, SessionHold, Stored, is_mine, no_hold}
use Rattle.proof_journals.specs.Turns.{AllOther, IsReported, IsSceneRun, RenamesSo, ToolAsks, about, answer_at, inner, reported_at}
use Rattle.proof_journals.proofs.Ghost.Keeping.{found_besides}
use Rattle.proof_journals.proofs.Ghost.Leaving.{holds_of}
use Rattle.proof_journals.proofs.Ghost.Turns.{along_next}
use Rattle.proof_journals.proofs.Kept.{unfound}
use Rattle.proof_journals.proofs.Moves.{renamed_ok}
use Rattle.proof_journals.proofs.Naming.{migrated_named}
use Rattle.proof_journals.proofs.PlanJournals.{plan_runs_are_scene_runs}
use Rattle.proof_journals.proofs.ServerTurns.Defining.{definitions_are_done}
use Rattle.proof_migration.proofs.Migration.Leaves.{Cases, WritesAway, turn_leaves}
use Rattle.proof_migration.proofs.Migration.Others.{LeavesName, moved_stays}
use Rattle.proof_migration.proofs.Program.LockerTurns.Quiet.{CountsNone, Quiet, quiet_served}

-- the migrated table, in the place of the one that is written
abbrev migrated_of : PlanData → Migration
migrated_of plan = record { name = plan.table; schema = new_schema plan; new = record (new_schema plan) { name = plan.table }; columns = [] }

-- no session has written a row of the migrated table
abbrev pub NoneWritten : PlanData → State → Type 0
NoneWritten plan state = (n : ℕ) → NotOf plan.table (holds_of state n).writes

-- THE LOG

others_none : (name : List ℕ) (events : List RowEvent) → NotOf name events → events_of name events ≡ []
others_none name [] none = refl
others_none name (event ∷ events) none = rw none.0 (others_none name events none.1)

-- it says no more of the table by events of others
others_added : (name : List ℕ) (log events : List RowEvent) → NotOf name events → events_of name (log ++ events) ≡ events_of name log
others_added name log events none = filter-append (λ event. bytes_eq event.table name) log events ∙ ap (λ (more : List RowEvent). events_of name log ++ more) (others_none name events none) ∙ append-nil (events_of name log)

module _ (plan : PlanData) (journal : List Entry) (entry : Entry) (is_run : IsPlanRun plan (journal ++ entry ∷ [])) (tool : is_client entry.actor ≡ false) (request : Request) (called : entry.asked ≡ Call request) (unlost : entry.side ≡ None) where
  abbrev more : List Entry
  more = journal ++ entry ∷ []

  abbrev before : State
  before = state_at plan journal

  abbrev after : State
  after = state_at plan more

  abbrev reported : Option Answer
  reported = reported_at entry.side entry.answer entry.missed

  scene_run : IsSceneRun (limits_of plan) (scene_of plan more) more
  scene_run = plan_runs_are_scene_runs plan more is_run

  own_away : (actor : Actor) → is_client actor ≡ false → KeepsAway plan journal entry actor → IsAway plan journal entry
  own_away (Client c) off away = absurd (true≢false off)
  own_away Op off away = away
  own_away Insp off away = away
  own_away Copy off away = away
  own_away Apply off away = away
  own_away Lock off away = away
  own_away Ren off away = away

  away : IsAway plan journal entry
  away = own_away entry.actor tool (along_next (λ some one. KeepsAway plan some one one.actor) [] journal entry [] is_run.away)

  asks : ToolAsks (scene_of plan []) request
  asks = subst (AsksAway plan) called away.asks

  asked_is : about (opens entry before) entry.session entry.asked ≡ Some request
  asked_is = ap (about (opens entry before) entry.session) called

  same_request : (one : Request) → about (opens entry before) entry.session entry.asked ≡ Some one → request ≡ one
  same_request one is = some_is request one (sym asked_is ∙ is)

  -- WHAT IT WRITES, AND WHICH TABLES MOVE

  other_name : (name : List ℕ) → is_mine (scene_of plan []) name ≡ false → bytes_eq name plan.table ≡ false
  other_name name off = unfound (scene_of plan []) name plan.table off (migrated_named plan)

  writes_away : (one : Request) → ToolAsks (scene_of plan []) one → WritesAway (migrated_of plan) one
  writes_away (requests.Do statement) given = other_name (table_of statement) given
  writes_away (requests.CopyRow from into map key) given = other_name into given
  writes_away one given = tt

  others_named : (names : List (List ℕ)) → AllOther (scene_of plan []) names → AllByRecursion (λ other. bytes_eq plan.table other ≡ false) names
  others_named [] all = tt
  others_named (name ∷ names) all = (turned_bytes name plan.table (other_name name all.0), others_named names all.1)

  -- but for a RENAME of it that is done
  leaves_name : (one : Request) → ToolAsks (scene_of plan []) one → (renames_away plan.table (Some one) ≡ true → reported ≡ Some ok → ⊥) → LeavesName plan.table reported one
  leaves_name (requests.Create schema) given never = turned_bytes schema.name plan.table (other_name schema.name given.0)
  leaves_name (requests.Drop gone) given never = turned_bytes gone plan.table (other_name gone given)
  leaves_name (requests.Rename pairs) given never = λ done. by done given where
    by : reported ≡ Some ok → AllOther (scene_of plan []) (pair_names pairs) ⊎ ((true ≡ true) × (takes_away plan.table pairs ≡ true)) → AllByRecursion (λ other. bytes_eq plan.table other ≡ false) (pair_names pairs)
    by done (inl others) = others_named (pair_names pairs) others
    by done (inr takes) = absurd (never takes.1 done)
  leaves_name one given never = tt

  -- THE HISTORY

  own_adds : (actor : Actor) → is_client actor ≡ false → adds plan journal entry actor ≡ alters plan (histories.about journal entry) (answer_in entry.asked entry.side entry.answer entry.missed)
  own_adds (Client c) off = absurd (true≢false off)
  own_adds Op off = refl
  own_adds Insp off = refl
  own_adds Copy off = refl
  own_adds Apply off = refl
  own_adds Lock off = refl
  own_adds Ren off = refl

  adds_is : entry_adds plan journal entry ≡ alters plan (Some request) (Some entry.answer)
  adds_is =
      own_adds entry.actor tool ∙ ap (λ (side : Option Side). alters plan (histories.about journal entry) (answer_in entry.asked side entry.answer entry.missed)) unlost
      ∙ ap (λ (asked : Asked). alters plan (asked_about asked (request_waiting journal entry.actor)) (answer_in asked None entry.answer entry.missed)) called

  reported_is : reported ≡ Some entry.answer
  reported_is = ap (λ (side : Option Side). reported_at side entry.answer entry.missed) unlost

  -- where it alters nothing, no RENAME of the migrated table was done
  never_renamed : list_any is_alter (entry_adds plan journal entry) ≡ false → renames_away plan.table (Some request) ≡ true → reported ≡ Some ok → ⊥
  never_renamed none takes done =
      let answered : entry.answer ≡ ok = some_is entry.answer ok (sym reported_is ∙ done) in
      true≢false
      (sym (ap (list_any is_alter) adds_is ∙ ap (λ (a : Answer). list_any is_alter (alters plan (Some request) (Some a))) answered ∙ ap (λ (b : Bool). list_any is_alter (cond b (Alter ∷ []) [])) takes) ∙ none)

  -- WHAT IT LEAVES

  pub record Leaves : Type 0 where
    pub log : events_of plan.table after.log ≡ events_of plan.table before.log
    pub none : NoneWritten plan after
    pub table : list_any is_alter (entry_adds plan journal entry) ≡ false → find_table plan.table after.tables ≡ find_table plan.table before.tables

  module _ (none : NoneWritten plan before) where
    none_then : (middle : ℕ → SessionHold) (held : SessionHold) → ((n : ℕ) → (n == entry.session) ≡ false → middle n ≡ holds_of before n) → NotOf plan.table held.writes → Besides entry.session middle (holds_of after) held → NoneWritten plan after
    none_then middle held same free besides n = by (n == entry.session) refl where
      by : (b : Bool) → (n == entry.session) ≡ b → NotOf plan.table (holds_of after n).writes
      by true is = subst (λ (h : SessionHold). NotOf plan.table h.writes) (sym (ap (holds_of after) (are_one n entry.session is) ∙ besides.here)) free
      by false differ = subst (λ (h : SessionHold). NotOf plan.table h.writes) (sym (besides.there n differ ∙ same n differ)) (none n)

    cases : Cases (migrated_of plan) (limits_of plan) (scene_of plan more) journal entry scene_run Leaves
    cases = record {
      holds = λ held free same besides. record {
        log = ap (λ (s : Stored). events_of plan.table s.log) same;
        none = none_then (holds_of before) held (λ n differ. refl) free besides;
        table = λ off. ap (λ (s : Stored). find_table plan.table s.tables) same;
      };
      commits = λ middle held besides served free tables log last. record {
        log = ap (events_of plan.table) log ∙ others_added plan.table before.log (middle entry.session).writes free;
        none = none_then middle no_hold besides.there tt last;
        table = λ off. ap (find_table plan.table) tables ∙ found_besides plan.table (middle entry.session).writes before.tables free;
      };
      moves = λ one tables held is moved made log free besides. record {
        log = ap (events_of plan.table) log;
        none = none_then (holds_of before) held (λ n differ. refl) free besides;
        table = λ off. ap (find_table plan.table) made
            ∙ moved_stays plan.table reported before.tables one tables (subst (LeavesName plan.table reported) (same_request one is) (leaves_name request asks (never_renamed off))) moved;
      };
    }

    -- *What a call leaves*
    pub call_leaves : Leaves
    call_leaves = turn_leaves (migrated_of plan) (limits_of plan) (scene_of plan more) journal entry scene_run (λ off. unlost) (none entry.session) (λ one is. subst (WritesAway (migrated_of plan)) (same_request one is) (writes_away request asks)) Leaves cases

  -- THE RENAME

  record Renames : Type 0 where
    pairs : List Pair
    request_is : request ≡ requests.Rename pairs
    takes : takes_away plan.table pairs ≡ true
    count : ℕ
    answer_is : entry.answer ≡ answers.Ok count

  renames : list_any is_alter (entry_adds plan journal entry) ≡ true → Renames
  renames is = by entry.answer refl (ap (list_any is_alter) (sym adds_is) ∙ is) where
    if_takes : (b : Bool) → list_any is_alter (cond b (Alter ∷ []) []) ≡ true → b ≡ true
    if_takes true is = refl
    if_takes false is = absurd cc

    by_request : (count : ℕ) → entry.answer ≡ answers.Ok count → (one : Request) → request ≡ one → renames_away plan.table (Some one) ≡ true → Renames
    by_request count answered (requests.Rename pairs) same takes = record { pairs = pairs; request_is = same; takes = takes; count = count; answer_is = answered }
    by_request count answered one same takes = absurd cc

    by : (given : Answer) → entry.answer ≡ given → list_any is_alter (alters plan (Some request) (Some given)) ≡ true → Renames
    by (answers.Ok count) answered is = by_request count answered request refl (if_takes (renames_away plan.table (Some request)) is)
    by given answered is = absurd cc

  module _ (r : Renames) where
    abbrev rename : Request
    rename = requests.Rename r.pairs

    answered : IsReported (limits_of plan) (scene_of plan more) journal entry
    answered = along_next (IsReported (limits_of plan) (scene_of plan more)) [] journal entry [] scene_run.reported

    asks_rename : about (opens entry before) entry.session entry.asked ≡ Some rename
    asks_rename = asked_is ∙ ap (λ (one : Request). Some one) r.request_is

    never_cut : entry.asked ≡ Cut → ⊥
    never_cut cut = no (sym called ∙ cut) where
      no : Call request ≡ Cut → ⊥
      no same = cc

    quiet : Quiet rename (opens entry before) entry.session (serves (opens entry before) entry.session entry.asked)
    quiet = quiet_served (opens entry before) entry.session entry.asked rename asks_rename never_cut refl

    served_is : entry.answer ≡ (serves (opens entry before) entry.session entry.asked).answer
    served_is = answered.answer ∙ ap (λ (side : Option Side). answer_at side (inner before entry)) unlost

    -- it is answered ok
    is_ok : entry.answer ≡ ok
    is_ok = r.answer_is ∙ ap answers.Ok (subst CountsNone (sym served_is ∙ r.answer_is) quiet.counts)

    renamed : rename_tables r.pairs before.tables ≡ Ok after.tables
    renamed =
        renamed_ok (rename_tables r.pairs before.tables) after.tables
        (definitions_are_done (limits_of plan) (scene_of plan more) journal entry rename (renamed_or (rename_tables r.pairs before.tables)) answered asks_rename refl (reported_is ∙ ap (λ (a : Answer). Some a) is_ok))

    about_is : histories.about journal entry ≡ Some rename
    about_is = ap (λ (asked : Asked). asked_about asked (request_waiting journal entry.actor)) called ∙ ap (λ (one : Request). Some one) r.request_is

    given_ok : answer_in entry.asked entry.side entry.answer entry.missed ≡ Some ok
    given_ok =
        ap (λ (side : Option Side). answer_in entry.asked side entry.answer entry.missed) unlost ∙ ap (λ (asked : Asked). answer_in asked None entry.answer entry.missed) called ∙ ap (λ (a : Answer). Some a) is_ok

    renames_so : RenamesSo (scene_of plan []) before.tables (Some rename)
    renames_so = subst (RenamesSo (scene_of plan []) before.tables) about_is (away.exchanges given_ok)

    altered_by : AltersTo (scene_of plan []) before.tables after.tables
    altered_by = renames_so refl r.takes after.tables renamed

  -- *The RENAME that is done makes the altered table of it*
  pub rename_alters : list_any is_alter (entry_adds plan journal entry) ≡ true → AltersTo (scene_of plan []) before.tables after.tables
  rename_alters is = altered_by (renames is)
