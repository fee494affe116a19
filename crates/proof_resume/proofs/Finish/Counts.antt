-- Each turn of a new tool but its copier's and its applier's brings it nearer to its end.
use Rattle.std.proofs.Common.{◌≡◌, ◌≤◌, ℕ, ◌+◌, ◌==◌, Bool, true, false, ◌&&◌, not, List, [], ◌∷◌, ◌++◌, length, cond, Option, Some, None, refl, sym, ap, ◌∙◌, subst, append_assoc, append-nil, arith}
use Rattle.std.specs.Prelude.{drop, find, is_some}
use Rattle.std.specs.Option.{option_map}
use Rattle.std.proofs.lemmas.Bool.{true≢false, false≢true}
use Rattle.std.proofs.lemmas.Option.{same_Some}
use Rattle.std.proofs.Math.Seq.{drop-append_seam}
use Rattle.base_values.specs.ToolNames.{log_name}
use Rattle.base_values.specs.declared.gho_schema.schema.Schema.{Schema}
use Rattle.base_values.specs.declared.value.Value.{Value}
use Rattle.base_values.specs.GhoSchema.Rows.{key_places}
use Rattle.base_script.specs.declared.actor.Actor.{Actor}
use Rattle.base_script.specs.declared.actor.Actor.TheVariants.{Insp}
use Rattle.base_script.specs.declared.actor.Side.{Side}
use Rattle.table_store.specs.Databases.{Database, TableRows, find_table}
use Rattle.server_model.specs.Along.{Along, Along-both}
use Rattle.server_model.specs.Chunks.{ends_of, keys_of}
use Rattle.server_model.specs.Effects.{is_outside}
use Rattle.server_model.specs.Entries.{is_client, is_command, is_cut, same_actor}
use Rattle.server_model.specs.Listings.{tables_shown}
use Rattle.server_model.specs.PlainServer.{did, done, given_at, serves}
use Rattle.server_model.specs.States.{State, session_of, unread}
use Rattle.server_model.specs.declared.answer.Answer.{Answer}
use Rattle.server_model.specs.declared.answer.Answer.TheVariants as answers
use Rattle.server_model.specs.declared.answer.KeyRange.{KeyRange}
use Rattle.server_model.specs.declared.entry.Asked.{Asked}
use Rattle.server_model.specs.declared.entry.Asked.TheVariants.{Call, Poll, Command, Cut}
use Rattle.server_model.specs.declared.entry.Entry.{Entry}
use Rattle.server_model.specs.declared.outcome.Progress.{Progress}
use Rattle.server_model.specs.declared.outcome.Progress.TheVariants.{Going, TaskDone, TaskFailed, Unfit}
use Rattle.server_model.specs.declared.request.Request.{Request}
use Rattle.server_model.specs.declared.request.Request.TheVariants as requests
use Rattle.plan_data.specs.PlanData.{PlanData, has_counter}
use Rattle.tool_notes.specs.declared.checkpoint.Checkpoint.{Checkpoint}
use Rattle.tool_program.specs.JournalWords.Journals.{heard, inner_answer, opens, state_at, IsAnswered}
use Rattle.tool_program.specs.JournalWords.Sessions.{live_session, session_left, IsSeated}
use Rattle.tool_program.specs.Orders.{actors}
use Rattle.tool_program.specs.declared.chunk_copier.copier.Copier.{Copier}
use Rattle.tool_program.specs.ChunkCopier.Copiers as copiers
use Rattle.tool_program.specs.declared.event_applier.applier.Applier.{Applier}
use Rattle.tool_program.specs.EventApplier.Appliers as appliers
use Rattle.tool_finish.specs.declared.stage.Listed.{Listed}
use Rattle.tool_finish.specs.declared.stage.Listed.TheVariants.{NotRenamed, Renamed}
use Rattle.tool_finish.specs.declared.stage.Stage.{Stage}
use Rattle.tool_finish.specs.declared.stage.Stage.TheVariants.{Losing, Listing, Reading, Clearing, ReadingCounter, SettingCounter, Ranging, Copying, Applying, Exchanging, DroppingLog, DroppingOld, RollingBack, Done, Reverted}
use Rattle.tool_finish.specs.Finishes.{applied, applier_from, applying, checkpoint_in, copied, copier_from, copying, counter_read, counting, dropped_log, first_live, has_read, listed, losing, next, ranged, stage_behind, took, Asking, IsFinishTurn}
use Rattle.tool_finish.specs.Finishes as finishes
use Rattle.tool_finish.proofs.Walking.{stage_more}
use Rattle.proof_journals.specs.Scenes.{Stored}
use Rattle.proof_journals.proofs.Actors.{live_more, same_actor_itself}
use Rattle.proof_journals.proofs.Journals.{stored_opened}
use Rattle.proof_migration.proofs.Attempt.Stages.{FreeTables}
use Rattle.proof_migration.proofs.ToolPhase.CopyAnswers.{not_outside}
use Rattle.proof_resume.specs.Finish.Counts.{is_working, other_turns, OtherTurnsAreFew}
use Rattle.proof_resume.proofs.Finish.Holders.{any_own, opened_held, IsHeldBy}
use Rattle.proof_resume.proofs.Finish.Marks.{done_lists}
use Rattle.proof_resume.proofs.Finish.Owners.{Owners}
use Rattle.proof_resume.proofs.Finish.Prompt.{answer_is, finish_turns, its_request, lost_cut, StandsAlone}
use Rattle.proof_resume.proofs.Finish.Verdicts.{guard_begins, guards_more, migrating_of, none_locked, GuardAt, Guards}

-- THE ACTORS WITH A SESSION

abbrev lives : List Entry → List Actor → ℕ
lives journal [] = 0
lives journal (actor ∷ actors) = cond (is_some (live_session journal actor)) 1 0 + lives journal actors

lives_most : (journal : List Entry) (all : List Actor) → lives journal all ≤ length all
lives_most journal [] = omega arith
lives_most journal (actor ∷ all) = by (is_some (live_session journal actor)) (lives_most journal all) where
  by : (b : Bool) → lives journal all ≤ length all → cond b 1 0 + lives journal all ≤ length (actor ∷ all)
  by true most = omega (arith, most)
  by false most = omega (arith, most)

-- behind a loss its actor has none, and each other has what it had
module _ (journal more : List Entry) (lost : Actor) (one_less : (actor : Actor) → live_session more actor ≡ cond (same_actor lost actor) None (live_session journal actor)) where
  one_by : (actor : Actor) (same : Bool) → live_session more actor ≡ cond same None (live_session journal actor) → cond (is_some (live_session more actor)) 1 0 ≤ cond (is_some (live_session journal actor)) 1 0
  one_by actor true is = subst (λ (o : Option ℕ). cond (is_some o) 1 0 ≤ cond (is_some (live_session journal actor)) 1 0) (sym is) (omega arith)
  one_by actor false is = subst (λ (o : Option ℕ). cond (is_some o) 1 0 ≤ cond (is_some (live_session journal actor)) 1 0) (sym is) (omega arith)

  lives_less : (all : List Actor) → lives more all ≤ lives journal all
  lives_less [] = omega arith
  lives_less (actor ∷ all) =
      let one : cond (is_some (live_session more actor)) 1 0 ≤ cond (is_some (live_session journal actor)) 1 0 = one_by actor (same_actor lost actor) (one_less actor) in
      let rest : lives more all ≤ lives journal all = lives_less all in omega (arith, one, rest)

  lives_lost : (all : List Actor) → find (λ actor. is_some (live_session journal actor)) all ≡ Some lost → 1 + lives more all ≤ lives journal all
  lives_lost [] is = absurd (cc)
  lives_lost (actor ∷ all) is = by (is_some (live_session journal actor)) refl is (λ same. lives_lost all same) where
    by : (b : Bool) → is_some (live_session journal actor) ≡ b → cond b (Some actor) (find (λ a. is_some (live_session journal a)) all) ≡ Some lost → (find (λ a. is_some (live_session journal a)) all ≡ Some lost → 1 + lives more all ≤ lives journal all) → 1 + lives more (actor ∷ all) ≤ lives journal (actor ∷ all)
    by true live same others =
        let gone : live_session more actor ≡ None = one_less actor ∙ ap (λ (b : Bool). cond b None (live_session journal actor)) (ap (λ (a : Actor). same_actor a actor) (sym (same_Some actor lost same)) ∙ same_actor_itself actor) in
        let none : cond {A = ℕ} (is_some (live_session more actor)) 1 0 ≡ 0 = ap (λ (o : Option ℕ). cond {A = ℕ} (is_some o) 1 0) gone in
        let some : cond {A = ℕ} (is_some (live_session journal actor)) 1 0 ≡ 1 = ap (λ (b : Bool). cond {A = ℕ} b 1 0) live in
        let rest : lives more all ≤ lives journal all = lives_less all in omega (arith, none, some, rest)
    by false live same others =
        let one : cond (is_some (live_session more actor)) 1 0 ≤ cond (is_some (live_session journal actor)) 1 0 = one_by actor (same_actor lost actor) (one_less actor) in
        let rest : 1 + lives more all ≤ lives journal all = others same in omega (arith, one, rest)

none_more : (n most : ℕ) → n ≤ most → 0 + n ≤ most
none_more n most is = omega (arith, is)

-- HOW FAR THE END IS

abbrev rank : PlanData → List Entry → Stage → ℕ
rank plan journal Losing = 9 + lives journal (actors plan)
rank plan journal Listing = 9
rank plan journal (Reading seen) = 8
rank plan journal (Clearing found) = 7
rank plan journal (ReadingCounter found) = 6
rank plan journal (SettingCounter found number) = 5
rank plan journal (Ranging found) = 4
rank plan journal (Copying copier applier) = 3
rank plan journal (Applying applier) = 3
rank plan journal Exchanging = 3
rank plan journal (DroppingLog old) = 2
rank plan journal DroppingOld = 1
rank plan journal (RollingBack row) = 1
rank plan journal stage = 0

abbrev cost : Stage → ℕ
cost stage = cond (is_working stage) 0 1

-- WHAT IS ANSWERED

there : (found : Option TableRows) (schema : Schema) → option_map (λ (t : TableRows). t.schema) found ≡ Some schema → (table : TableRows) × (found ≡ Some table)
there None schema is = absurd (cc)
there (Some table) schema is = (table, refl)

-- the range of a table that exists
done_ends : (name : List ℕ) (table : TableRows) (state : State) (number : ℕ) → is_outside (session_of number state.sessions) (requests.Ends name) ≡ false → find_table name state.tables ≡ Some table → (range : Option KeyRange) × ((done state number (requests.Ends name)).answer ≡ answers.Ends range)
unfolding did
done_ends name table state number inside found = rw inside (rw found (by (keys_of (key_places table.schema) table.rows))) where
  by : (keys : List (List Value)) → (range : Option KeyRange) × (ends_of keys ≡ answers.Ends range)
  by [] = (None, refl)
  by (least ∷ keys) = (Some _, refl)

-- its counter
done_counts : (name : List ℕ) (table : TableRows) (state : State) (number : ℕ) → is_outside (session_of number state.sessions) (requests.ShowCounter name) ≡ false → find_table name state.tables ≡ Some table → (next : ℕ) × ((done state number (requests.ShowCounter name)).answer ≡ answers.At next)
unfolding did
done_counts name table state number inside found = rw inside (rw found (_, refl))

module _ (plan : PlanData) (journal : List Entry) (entry : Entry) (in_own : IsSeated journal entry) (unlost : entry.side ≡ None) (answered : IsAnswered (state_at plan journal) entry) (owners : Owners plan journal) where
  abbrev more : List Entry
  more = journal ++ entry ∷ []

  abbrev now : State
  now = state_at plan journal

  abbrev after : State
  after = state_at plan more

  abbrev open_now : State
  open_now = opens entry now

  opened_tables : open_now.tables ≡ now.tables
  opened_tables = ap (λ (s : Stored). s.tables) (stored_opened (is_command entry.asked) (not (is_client entry.actor)) entry.session now)

  abbrev Less : Stage → Stage → Type 0
  Less before then = cost before + rank plan more then ≤ rank plan journal before

  -- A LOSS

  is_cut_so : (asked : Asked) → is_cut asked ≡ true → asked ≡ Cut
  is_cut_so Cut cut = refl
  is_cut_so (Call request) cut = absurd (true≢false (sym cut))
  is_cut_so Poll cut = absurd (true≢false (sym cut))
  is_cut_so (Command word) cut = absurd (true≢false (sym cut))

  lost_answer : entry.asked ≡ Cut → entry.answer ≡ answers.Lost
  unfolding inner_answer
  lost_answer cut =
      answered.answer
      ∙ ap (λ (side : Option Side). heard side (given_at side entry.asked (serves open_now entry.session entry.asked).answer)) unlost
      ∙ ap (λ (asked : Asked). heard None (given_at None asked (serves open_now entry.session asked).answer)) cut

  one_lost : entry.asked ≡ Cut → (actor : Actor) → live_session more actor ≡ cond (same_actor entry.actor actor) None (live_session journal actor)
  one_lost cut actor =
      live_more journal entry actor
      ∙ ap (λ (left : Option ℕ). cond (same_actor entry.actor actor) left (live_session journal actor)) (ap (λ (asked : Asked). session_left asked entry.answer entry.session) cut ∙ ap (λ (a : Answer). session_left Cut a entry.session) (lost_answer cut))

  losing_less : finishes.cuts (first_live plan journal) ≡ Some (entry.actor, entry.asked) → Less Losing (losing plan more)
  unfolding first_live
  losing_less is = by (is_some (first_live plan more)) where
    cut : entry.asked ≡ Cut
    cut = is_cut_so entry.asked (lost_cut entry (first_live plan journal) is)

    first_is : (live : Option Actor) → finishes.cuts live ≡ Some (entry.actor, entry.asked) → live ≡ Some entry.actor
    first_is None is = absurd (cc)
    first_is (Some actor) is = ap (λ (p : Asking). Some p.0) (same_Some (actor, Cut) (entry.actor, entry.asked) is)

    less : 1 + lives more (actors plan) ≤ lives journal (actors plan)
    less = lives_lost journal more entry.actor (one_lost cut) (actors plan) (first_is (first_live plan journal) is)

    by : (b : Bool) → 1 + rank plan more (cond b Losing Listing) ≤ 9 + lives journal (actors plan)
    by true = let fewer : 1 + lives more (actors plan) ≤ lives journal (actors plan) = less in omega (arith, fewer)
    by false = let fewer : 1 + lives more (actors plan) ≤ lives journal (actors plan) = less in omega (arith, fewer)

  -- CALLS

  inside : IsHeldBy None now → (request : Request) → is_outside (session_of entry.session open_now.sessions) request ≡ false
  inside held request = not_outside (session_of entry.session open_now.sessions) request (none_locked None entry.session open_now.sessions (opened_held None (is_command entry.asked) (not (is_client entry.actor)) entry.session now held).sessions)

  answer_of : IsHeldBy None now → (request : Request) → entry.asked ≡ Call request → entry.answer ≡ (done open_now entry.session request).answer
  answer_of held request called = answer_is plan journal entry in_own.session unlost answered owners request called (any_own (Some entry.session) now held)

  table_there : FreeTables plan now.tables → (table : TableRows) × (find_table plan.table open_now.tables ≡ Some table)
  table_there at = let found = there (find_table plan.table now.tables) _ at.stand.old in (found.0, ap (find_table plan.table) opened_tables ∙ found.1)

  -- at most this far
  counting_most : (found : Checkpoint) → rank plan more (counting plan found) ≤ 6
  counting_most found = by (has_counter plan) where
    by : (b : Bool) → rank plan more (cond b (ReadingCounter found) (Ranging found)) ≤ 6
    by true = omega arith
    by false = omega arith

  clearing_most : (seen : Listed) (found : Checkpoint) → rank plan more (finishes.clearing plan seen found) ≤ 7
  clearing_most (NotRenamed true) found = omega arith
  clearing_most (NotRenamed false) found = let most : rank plan more (counting plan found) ≤ 6 = counting_most found in omega (arith, most)
  clearing_most (Renamed old) found = omega arith

  read_less : (seen : Listed) (found : Option Checkpoint) → is_some found ≡ true → Less (Reading seen) (has_read plan seen found)
  read_less seen None is = absurd (false≢true is)
  read_less seen (Some found) is = let most : rank plan more (finishes.clearing plan seen found) ≤ 7 = clearing_most seen found in omega (arith, most)

  applying_most : (applier : Applier) → rank plan more (applying plan after applier) ≤ 3
  applying_most applier = by (appliers.starts applier && (unread after applier.position (plan.table ∷ log_name plan.table ∷ []) == 0)) where
    by : (b : Bool) → rank plan more (cond b Exchanging (Applying applier)) ≤ 3
    by true = omega arith
    by false = omega arith

  copying_most : (copier : Copier) (applier : Applier) → rank plan more (copying plan after copier applier) ≤ 3
  copying_most copier applier = by copier.is_copied where
    by : (b : Bool) → rank plan more (cond b (applying plan after applier) (Copying copier applier)) ≤ 3
    by true = applying_most applier
    by false = omega arith

  copied_most : (turn : ℕ) (applier : Applier) (before then : Copier) (progress : Progress) → rank plan more (copied plan after turn applier before then progress) ≤ 3
  copied_most turn applier before then (Unfit column number) = omega arith
  copied_most turn applier before then Going = copying_most then applier
  copied_most turn applier before then TaskDone = copying_most then applier
  copied_most turn applier before then TaskFailed = copying_most then applier

  applied_most : (turn : ℕ) (before then : Applier) (progress : Progress) → rank plan more (applied plan after turn before then progress) ≤ 3
  applied_most turn before then (Unfit column number) = omega arith
  applied_most turn before then Going = applying_most then
  applied_most turn before then TaskDone = applying_most then
  applied_most turn before then TaskFailed = applying_most then

  ranged_less : (found : Checkpoint) (given : Answer) (range : Option KeyRange) → given ≡ answers.Ends range → Less (Ranging found) (ranged plan after found given)
  ranged_less found given range is = subst (λ (a : Answer). Less (Ranging found) (ranged plan after found a)) (sym is) (let most : rank plan more (copying plan after (copier_from plan found.reach range) (applier_from plan found.position)) ≤ 3 = copying_most (copier_from plan found.reach range) (applier_from plan found.position) in omega (arith, most))

  counted_less : (found : Checkpoint) (given : Answer) (number : ℕ) → given ≡ answers.At number → Less (ReadingCounter found) (counter_read found given)
  counted_less found given number is = subst (λ (a : Answer). Less (ReadingCounter found) (counter_read found a)) (sym is) (omega arith)

  listed_less : (given : Answer) (tables : Database) → given ≡ answers.Tables (tables_shown tables) → Less Listing (listed plan given)
  listed_less given tables is = subst (λ (a : Answer). Less Listing (listed plan a)) (sym is) (omega arith)

  log_less : (old : Bool) → Less (DroppingLog old) (dropped_log old)
  log_less true = omega arith
  log_less false = omega arith

  turn_less : (stage : Stage) → next plan journal stage ≡ Some (entry.actor, entry.asked) → StandsAlone journal now stage → GuardAt plan journal stage → ((seen : Listed) → stage ≡ Reading seen → is_some (checkpoint_in entry.answer) ≡ true) → Less stage (took plan more after entry.answer stage)
  unfolding next took
  turn_less Losing is held guard reads = losing_less is
  turn_less Listing is held guard reads = listed_less entry.answer open_now.tables (answer_of held requests.ShowTables (its_request entry Insp requests.ShowTables is) ∙ done_lists open_now entry.session)
  turn_less (Reading seen) is held guard reads = read_less seen (checkpoint_in entry.answer) (reads seen refl)
  turn_less (Clearing found) is held guard reads = let most : rank plan more (counting plan found) ≤ 6 = counting_most found in omega (arith, most)
  turn_less (ReadingCounter found) is held guard reads =
      let table = table_there guard in
      let counts = done_counts plan.table table.0 open_now entry.session (inside held (requests.ShowCounter plan.table)) table.1 in counted_less found entry.answer counts.0 (answer_of held (requests.ShowCounter plan.table) (its_request entry Insp (requests.ShowCounter plan.table) is) ∙ counts.1)
  turn_less (SettingCounter found number) is held guard reads = omega arith
  turn_less (Ranging found) is held guard reads =
      let table = table_there guard in
      let ends = done_ends plan.table table.0 open_now entry.session (inside held (requests.Ends plan.table)) table.1 in ranged_less found entry.answer ends.0 (answer_of held (requests.Ends plan.table) (its_request entry Insp (requests.Ends plan.table) is) ∙ ends.1)
  turn_less (Copying copier applier) is held guard reads = none_more _ 3 (copied_most (length more) applier copier (copiers.took (length more) copier entry.answer) (copiers.progress copier entry.answer))
  turn_less (Applying applier) is held guard reads = none_more _ 3 (applied_most (length more) applier (appliers.took (length more) applier entry.answer) (appliers.progress applier entry.answer))
  turn_less Exchanging is held guard reads = omega arith
  turn_less (DroppingLog old) is held guard reads = log_less old
  turn_less DroppingOld is held guard reads = omega arith
  turn_less (RollingBack row) is held guard reads = omega arith
  turn_less Done is held guard reads = absurd (cc)
  turn_less (Reverted row) is held guard reads = absurd (cc)

-- ALONG THE TURNS

abbrev Reads : PlanData → List Entry → List Entry → Entry → Type 0
Reads plan run before entry = (seen : Listed) → stage_behind plan run (drop (length run) before) ≡ Reading seen → is_some (checkpoint_in entry.answer) ≡ true

abbrev Turn : PlanData → List Entry → List Entry → Entry → Type 0
Turn plan run before entry = (IsFinishTurn plan run before entry × IsAnswered (state_at plan before) entry) × Reads plan run before entry

all_few : (plan : PlanData) (run turns rest : List Entry) → Along (Turn plan run) (run ++ turns) rest → Guards plan run turns → other_turns plan run (run ++ turns) rest ≤ rank plan (run ++ turns) (stage_behind plan run turns)
all_few plan run turns [] kept guards = omega arith
all_few plan run turns (entry ∷ rest) kept guards =
    let journal : List Entry = run ++ turns in
    let more : List Entry = journal ++ entry ∷ [] in
    let stage : Stage = stage_behind plan run turns in
    let all : run ++ (turns ++ entry ∷ []) ≡ more = sym (append_assoc run turns (entry ∷ [])) in
    let seam : drop (length run) journal ≡ turns = drop-append_seam run turns in
    let given : next plan journal stage ≡ Some (entry.actor, entry.asked) = ap (λ (some : List Entry). next plan journal (stage_behind plan run some)) (sym seam) ∙ kept.0.0.0.given in
    let alone = guards.marked.alone in
    let less : cost stage + rank plan more (took plan more (state_at plan more) entry.answer stage) ≤ rank plan journal stage =
    turn_less plan journal entry (record { session = kept.0.0.0.session }) kept.0.0.0.side kept.0.0.1 alone.owners stage given alone.stands guards.guard (λ seen same. kept.0.1 seen (ap (stage_behind plan run) seam ∙ same)) in
    let later : other_turns plan run (run ++ (turns ++ entry ∷ [])) rest ≤ rank plan (run ++ (turns ++ entry ∷ [])) (stage_behind plan run (turns ++ entry ∷ [])) =
    all_few plan run (turns ++ entry ∷ []) rest (subst (λ (j : List Entry). Along (Turn plan run) j rest) (append_assoc run turns (entry ∷ [])) kept.1) (guards_more plan run turns entry kept.0.0 guards) in
    let fewer : other_turns plan run more rest ≤ rank plan more (took plan more (state_at plan more) entry.answer stage) =
    subst (λ (s : Stage). other_turns plan run more rest ≤ rank plan more s) (stage_more plan run turns entry) (subst (λ (j : List Entry). other_turns plan run j rest ≤ rank plan j (stage_behind plan run (turns ++ entry ∷ []))) all later) in
    subst (λ (s : Stage). cost s + other_turns plan run more rest ≤ rank plan journal stage) (ap (stage_behind plan run) (sym seam)) (omega (arith, less, fewer))

rank_most : (plan : PlanData) (run : List Entry) → rank plan run (losing plan run) ≤ 9 + length (actors plan)
rank_most plan run = by (is_some (first_live plan run)) where
  by : (b : Bool) → rank plan run (cond b Losing Listing) ≤ 9 + length (actors plan)
  by true = let most : lives run (actors plan) ≤ length (actors plan) = lives_most run (actors plan) in omega (arith, most)
  by false = omega arith

-- *Other turns are few*
pub other_turns_are_few : OtherTurnsAreFew
unfolding stage_behind
other_turns_are_few plan run turns runs serial kept has finish faithful reads =
    let few : other_turns plan run (run ++ []) turns ≤ rank plan (run ++ []) (losing plan run) =
    all_few plan run [] turns (subst (λ (all : List Entry). Along (Turn plan run) all turns) (sym (append-nil run)) (Along-both _ _ run turns (finish_turns plan run turns finish faithful) reads)) (guard_begins plan run runs serial kept (migrating_of plan run has)) in
    let here : other_turns plan run run turns ≤ rank plan run (losing plan run) = subst (λ (j : List Entry). other_turns plan run j turns ≤ rank plan j (losing plan run)) (append-nil run) few in
    let most : rank plan run (losing plan run) ≤ 9 + length (actors plan) = rank_most plan run in omega (arith, here, most)
