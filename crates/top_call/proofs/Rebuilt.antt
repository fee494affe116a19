-- A rebuilt table, and what a rebuild prints of a run.
use Rattle.std.proofs.Common.{◌≡◌, ℕ, ◌^◌, ◌<◌, ◌≤◌, Bool, true, false, not, ◌&&◌, ◌||◌, cond, List, [], ◌∷◌, ◌++◌, Option, Some, None, IfSome, refl, sym, ap, ◌∙◌, subst, arith}
use Rattle.std.specs.List.{list_any}
use Rattle.base_values.specs.declared.event.Change.{Change}
use Rattle.base_values.specs.declared.event.RowEvent.{RowEvent}
use Rattle.base_values.specs.declared.value.Value.{Value}
use Rattle.base_values.proofs.SchemaRules.Steps.{some_is}
use Rattle.base_values.specs.RowConversion.ConvertedRows.{converted_rows}
use Rattle.base_values.specs.GhoSchema.Rows.{key_places}
use Rattle.table_store.specs.Databases.{TableRows}
use Rattle.server_model.specs.Rows.{change_all}
use Rattle.server_model.specs.declared.entry.Entry.{Entry}
use Rattle.server_model.specs.declared.outcome.Cause.{Cause}
use Rattle.server_model.specs.declared.outcome.Verdict.{Verdict}
use Rattle.server_model.specs.declared.outcome.Verdict.TheVariants as verdicts
use Rattle.server_model.specs.States.{State}
use Rattle.plan_data.specs.PlanData.{PlanData}
use Rattle.plan_data.specs.declared.plan.AlteredSchema.{AlteredSchema}
use Rattle.tool_finish.specs.Finishes.{finish_verdict}
use Rattle.tool_program.specs.JournalWords.Histories.{history, is_alter}
use Rattle.tool_program.specs.Tools.{Reason, moment}
use Rattle.tool_program.specs.Verdicts.{has_ended, reverted_by, verdict_of}
use Rattle.proof_plans.specs.ReadPlans.Laws.{WasRead}
use Rattle.proof_rebuild.specs.Shards.{UnfitRow, first_unfit, rows_seen}
use Rattle.run_replay.specs.WholeReplay.Marks.{logged_at_mark}
use Rattle.run_turns.specs.Runs.{is_over}
use Rattle.law_rebuild.specs.Laws.{IsRebuiltOf}
use Rattle.run_rebuild.specs.Rebuilds.{GoTogether, changes_of}
use Rattle.top_endings.specs.Rebuilt.{rebuilt_text, unfit_text}
use Rattle.top_endings.specs.declared.printed.Printed.{Printed}
use Rattle.top_endings.specs.declared.status.Status.TheVariants as statuses
use Rattle.top_call.specs.Outcomes.{IsRunPrinted, rebuild_at, report_at, status_of}
use Rattle.top_call.specs.Rebuilds.{IsAfterMark, row_or_table, text_at_mark}
use Rattle.top_call.specs.RestedServers.{IsRested}
use Rattle.top_call.specs.ResumedRuns.{EndsBehind, FinishesTellTheAlter, IsEnd, Resumes, finish_in, has_finished, is_over_at, is_resumed, run_in, verdict_at}
use Rattle.top_call.specs.WholeReplays.Replays.{IsSoundReplay}
use Rattle.top_call.specs.WholeReplays.SoundRuns.{IsSoundRun}
use Rattle.top_call.proofs.RestedServers.{rested_after}
use Rattle.proof_audit.proofs.Wholes.{none_unfinished, run_whole}
use Rattle.top_call.proofs.ResumedRuns.{all_of, alone, ended_alone, ended_verdict, faithful_at, gone_on_verdict, sound_behind}

-- the table that was made is the one at the mark, where no row is unfit
pub table_text_is : (opening : TableRows) (new : AlteredSchema) (changes : List Change) (then : Option TableRows) (found : Option UnfitRow) (made : TableRows) → IsRebuiltOf opening new changes then → made.schema ≡ new.schema → converted_rows new.map (change_all (key_places opening.schema) changes opening.rows) ≡ Some made.rows → found ≡ None
    → rebuilt_text made.schema made.rows ≡ row_or_table found then
table_text_is opening new changes then found made is schema rows none =
    let same : made.rows ≡ is.made = some_is made.rows is.made (sym rows ∙ is.converted) in
    ap (λ s. rebuilt_text s made.rows) schema ∙ ap (λ (all : List (List Value)). rebuilt_text new.schema all) same
    ∙ ap (λ (table : Option TableRows). row_or_table None table) (sym is.stands) ∙ ap (λ (row : Option UnfitRow). row_or_table row then) (sym none)

pub table_shown : (opening : TableRows) (new : AlteredSchema) (changes : List Change) (found : Option UnfitRow) (made : TableRows) (shown : Option Printed) → (GoTogether new opening changes → (made.schema ≡ new.schema) × (converted_rows new.map (change_all (key_places opening.schema) changes opening.rows) ≡ Some made.rows)) → found ≡ None
    → IfSome shown (λ one. one ≡ record { status = statuses.Done; text = rebuilt_text made.schema made.rows }) → (then : Option TableRows) → IsRebuiltOf opening new changes then → IfSome shown (λ one. one ≡ record { status = statuses.Done; text = row_or_table found then })
table_shown opening new changes found made shown rows none is then rebuilt =
    subst (λ (text : List ℕ). IfSome shown (λ one. one ≡ record { status = statuses.Done; text = text })) (table_text_is opening new changes then found made rebuilt (rows rebuilt.together).0 (rows rebuilt.together).1 none) is

-- the same of the events that were given
pub given_table_shown : (opening : TableRows) (new : AlteredSchema) (events given : List RowEvent) (made : TableRows) (shown : Option Printed) → given ≡ events
    → (GoTogether new opening (changes_of given) → (made.schema ≡ new.schema) × (converted_rows new.map (change_all (key_places opening.schema) (changes_of given) opening.rows) ≡ Some made.rows)) → first_unfit new.map 0 (rows_seen opening.rows (changes_of given)) ≡ None
    → IfSome shown (λ one. one ≡ record { status = statuses.Done; text = rebuilt_text made.schema made.rows }) → (then : Option TableRows) → IsRebuiltOf opening new (changes_of events) then
    → IfSome shown (λ one. one ≡ record { status = statuses.Done; text = row_or_table (first_unfit new.map 0 (rows_seen opening.rows (changes_of events))) then })
given_table_shown opening new events given made shown same rows none is =
    subst
    (λ (all : List RowEvent). (then : Option TableRows) → IsRebuiltOf opening new (changes_of all) then → IfSome shown (λ one. one ≡ record { status = statuses.Done; text = row_or_table (first_unfit new.map 0 (rows_seen opening.rows (changes_of all))) then }))
    same (table_shown opening new (changes_of given) (first_unfit new.map 0 (rows_seen opening.rows (changes_of given))) made shown rows none is)

pub unfit_row_shown : (opening : TableRows) (new : AlteredSchema) (changes : List Change) (found : Option UnfitRow) (row : UnfitRow) (shown : Option Printed) → found ≡ Some row → IfSome shown (λ one. one ≡ record { status = statuses.Done; text = unfit_text row.place }) → (then : Option TableRows) → IsRebuiltOf opening new changes then
    → IfSome shown (λ one. one ≡ record { status = statuses.Done; text = row_or_table found then })
unfit_row_shown opening new changes found row shown some is then rebuilt =
    subst (λ (one : Option UnfitRow). IfSome shown (λ p. p ≡ record { status = statuses.Done; text = row_or_table one then })) (sym some) is

-- A RUN

verdict_altered : (plan : PlanData) (journal : List Entry) → verdict_of plan journal ≡ verdicts.Done → list_any is_alter (history plan journal) ≡ true
unfolding verdict_of
verdict_altered plan journal is = by (has_ended plan journal) (list_any is_alter (history plan journal)) is where
  not_reverted : (reason : Option Reason) → reverted_by plan journal (moment plan journal).tool reason ≡ verdicts.Done → ⊥
  not_reverted None done = cc
  not_reverted (Some reason) done = cc

  by : (ended altered : Bool) → cond ended (cond altered verdicts.Done (reverted_by plan journal (moment plan journal).tool (moment plan journal).tool.reason)) verdicts.Unfinished ≡ verdicts.Done → altered ≡ true
  by ended true done = refl
  by true false done = absurd (not_reverted (moment plan journal).tool.reason done)
  by false false done = absurd cc

-- so is the whole journal's, by the law of new tools
altered_at : FinishesTellTheAlter → (plan : PlanData) (journal : List Entry) → WasRead plan → IsSoundRun plan (run_in plan journal) → Resumes plan journal → is_over_at plan journal ≡ true → verdict_at plan journal ≡ verdicts.Done → list_any is_alter (history plan journal) ≡ true
altered_at tell plan journal was sound resumes over done = by (has_ended plan (run_in plan journal)) refl where
  run_done : has_ended plan (run_in plan journal) ≡ true → list_any is_alter (history plan journal) ≡ true
  run_done ended =
      let whole : run_in plan journal ≡ journal = run_whole plan journal (alone plan journal resumes (ended_alone plan (run_in plan journal) ended)) in
      ap (λ (all : List Entry). list_any is_alter (history plan all)) (sym whole) ∙ verdict_altered plan (run_in plan journal) (sym (ended_verdict plan (run_in plan journal) (finish_in plan journal) ended) ∙ done)

  not_unfinished : verdicts.Unfinished ≡ verdicts.Done → ⊥
  not_unfinished same = cc

  not_reverted : (cause : Cause) → verdicts.Reverted cause ≡ verdicts.Done → ⊥
  not_reverted cause same = cc

  second : (a c : Bool) → (a && (false || c)) ≡ true → c ≡ true
  second true c so = so
  second false c so = absurd cc

  told : EndsBehind plan (run_in plan journal) (finish_in plan journal) → finish_verdict plan (run_in plan journal) (finish_in plan journal) ≡ verdicts.Done → list_any is_alter (history plan (run_in plan journal ++ finish_in plan journal)) ≡ true
  told ends is = by_alter (list_any is_alter (history plan (run_in plan journal ++ finish_in plan journal))) refl where
    by_alter : (b : Bool) → list_any is_alter (history plan (run_in plan journal ++ finish_in plan journal)) ≡ b → list_any is_alter (history plan (run_in plan journal ++ finish_in plan journal)) ≡ true
    by_alter true alters = alters
    by_alter false none = let so = ends.reverted none in absurd (not_reverted so.0 (sym so.1 ∙ is))

  finish_done : (b : Bool) → is_resumed plan (run_in plan journal) ≡ b → finish_verdict plan (run_in plan journal) (finish_in plan journal) ≡ verdicts.Done → (is_over plan (run_in plan journal) && (not b || has_finished plan journal)) ≡ true → list_any is_alter (history plan journal) ≡ true
  finish_done true comes is so =
      ap (λ (all : List Entry). list_any is_alter (history plan all)) (sym (all_of plan journal))
      ∙ told (tell plan (run_in plan journal) (finish_in plan journal) was sound comes (sound_behind plan journal resumes comes) (second (is_over plan (run_in plan journal)) (has_finished plan journal) so)) is
  finish_done false alone_so is so =
      absurd (not_unfinished (sym (none_unfinished plan (run_in plan journal)) ∙ ap (finish_verdict plan (run_in plan journal)) (sym (alone plan journal resumes alone_so)) ∙ is))

  by : (b : Bool) → has_ended plan (run_in plan journal) ≡ b → list_any is_alter (history plan journal) ≡ true
  by true ended = run_done ended
  by false going = finish_done (is_resumed plan (run_in plan journal)) refl (sym (gone_on_verdict plan (run_in plan journal) (finish_in plan journal) going) ∙ done) over

-- the end of a run that is done is after the mark
after_mark : FinishesTellTheAlter → (plan : PlanData) (journal : List Entry) (logged : Option ℕ) (verdict : Verdict) (server : State) (sessions : ℕ) → WasRead plan → IsSoundReplay plan (run_in plan journal) → Resumes plan journal → logged ≡ logged_at_mark plan (plan.table ∷ []) (run_in plan journal) → IsEnd plan journal verdict server sessions → verdict ≡ verdicts.Done
    → IsAfterMark plan journal logged server
after_mark tell plan journal logged verdict server sessions was replay resumes counted end done = record {
  was_read = was;
  sound = replay.sound;
  resumes = resumes;
  altered = altered_at tell plan journal was replay.sound resumes end.over (sym end.end.verdict_is ∙ done);
  counted = counted;
  server_is = end.end.server_is;
}

-- on its server one more session can read the log
rested_end : (plan : PlanData) (journal : List Entry) (verdict : Verdict) (server : State) (sessions : ℕ) → IsSoundReplay plan (run_in plan journal) → Resumes plan journal → sessions < 4294967295 → IsEnd plan journal verdict server sessions → IsRested server
rested_end plan journal verdict server sessions replay resumes few end =
    let both = faithful_at plan journal replay.sound resumes in
    subst IsRested (sym end.end.server_is) (rested_after plan journal sessions both.0 both.1 (subst (λ (s : State). s.made ≤ sessions) end.end.server_is end.end.made) few)

-- the same of the end that there is
pub rested_some : {E : Type 0} (verdict_in : E → Verdict) (state_in : E → State) (sessions_in : E → ℕ) (plan : PlanData) (journal : List Entry) (end : Option E) (one : E) → end ≡ Some one → IsSoundReplay plan (run_in plan journal) → Resumes plan journal → sessions_in one < 4294967295
    → IfSome end (λ o. IsEnd plan journal (verdict_in o) (state_in o) (sessions_in o)) → IsRested (state_in one)
rested_some {E = E} verdict_in state_in sessions_in plan journal end one is replay resumes few ends =
    rested_end plan journal (verdict_in one) (state_in one) (sessions_in one) replay resumes few (subst (λ (o : Option E). IfSome o (λ each. IsEnd plan journal (verdict_in each) (state_in each) (sessions_in each))) is ends)

-- its text is printed
done_printed : (plan : PlanData) (journal : List Entry) (verdict : Verdict) (server : State) (sessions : ℕ) (printed : Option Printed) → sessions < 4294967295 → IsEnd plan journal verdict server sessions → verdict ≡ verdicts.Done → IfSome printed (λ one. one ≡ record { status = statuses.Done; text = text_at_mark plan journal }) → IfSome printed (IsRunPrinted (rebuild_at plan journal) plan journal)
done_printed plan journal verdict server sessions None few end done is = tt
done_printed plan journal verdict server sessions (Some printed) few end done is =
    let made : server.made ≤ sessions = end.end.made in
    let same : verdicts.Done ≡ verdict_at plan journal = sym done ∙ end.end.verdict_is in
    record {
      over = end.over;
      status_is = ap (λ (one : Printed). one.status) is ∙ ap status_of same;
      text_is = ap (λ (one : Printed). one.text) is ∙ ap (rebuild_at plan journal) same;
      made = subst (λ (left : State). left.made < 2 ^ 32) end.end.server_is (omega (arith, made, few));
    }

-- the same of the end that there is
pub done_some : FinishesTellTheAlter → {E : Type 0} (verdict_in : E → Verdict) (state_in : E → State) (sessions_in : E → ℕ) (plan : PlanData) (journal : List Entry) (logged : Option ℕ) (end : Option E) (one : E) (printed : Option Printed) → end ≡ Some one → sessions_in one < 4294967295 → WasRead plan → IsSoundReplay plan (run_in plan journal) → Resumes plan journal
    → logged ≡ logged_at_mark plan (plan.table ∷ []) (run_in plan journal) → IfSome end (λ o. IsEnd plan journal (verdict_in o) (state_in o) (sessions_in o)) → IfSome end (λ o. verdict_in o ≡ verdicts.Done)
    → ((marked : List Entry) → IsAfterMark plan marked logged (state_in one) → IfSome printed (λ p. p ≡ record { status = statuses.Done; text = text_at_mark plan marked })) → IfSome printed (IsRunPrinted (rebuild_at plan journal) plan journal)
done_some tell {E = E} verdict_in state_in sessions_in plan journal logged end one printed is few was replay resumes counted ends done by =
    let here : IsEnd plan journal (verdict_in one) (state_in one) (sessions_in one) = subst (λ (o : Option E). IfSome o (λ each. IsEnd plan journal (verdict_in each) (state_in each) (sessions_in each))) is ends in
    let so : verdict_in one ≡ verdicts.Done = subst (λ (o : Option E). IfSome o (λ each. verdict_in each ≡ verdicts.Done)) is done in
    done_printed plan journal (verdict_in one) (state_in one) (sessions_in one) printed few here so (by journal (after_mark tell plan journal logged (verdict_in one) (state_in one) (sessions_in one) was replay resumes counted here so))

-- of a run that isn't done the report is
rebuild_reports : (plan : PlanData) (journal : List Entry) (verdict : Verdict) → (verdict ≡ verdicts.Done → ⊥) → report_at plan journal verdict ≡ rebuild_at plan journal verdict
rebuild_reports plan journal verdicts.Done undone = absurd (undone refl)
rebuild_reports plan journal (verdicts.Reverted cause) undone = refl
rebuild_reports plan journal verdicts.Unfinished undone = refl

undone_printed : (plan : PlanData) (journal : List Entry) (printed : Option Printed) → (verdict_at plan journal ≡ verdicts.Done → ⊥) → IfSome printed (IsRunPrinted (report_at plan journal) plan journal) → IfSome printed (IsRunPrinted (rebuild_at plan journal) plan journal)
undone_printed plan journal None undone is = tt
undone_printed plan journal (Some printed) undone is = record { over = is.over; status_is = is.status_is; text_is = is.text_is ∙ rebuild_reports plan journal (verdict_at plan journal) undone; made = is.made }

-- the same of each end that there is
pub reported_undone : {E : Type 0} (verdict_in : E → Verdict) (state_in : E → State) (sessions_in : E → ℕ) (plan : PlanData) (journal : List Entry) (end : Option E) (printed : Option Printed) → IfSome end (λ one. IsEnd plan journal (verdict_in one) (state_in one) (sessions_in one)) → IfSome end (λ one. verdict_in one ≡ verdicts.Done → ⊥)
    → (end ≡ None → printed ≡ None) → IfSome printed (IsRunPrinted (report_at plan journal) plan journal) → IfSome printed (IsRunPrinted (rebuild_at plan journal) plan journal)
reported_undone verdict_in state_in sessions_in plan journal None printed ends undone none is = subst (λ (p : Option Printed). IfSome p (IsRunPrinted (rebuild_at plan journal) plan journal)) (sym (none refl)) tt
reported_undone verdict_in state_in sessions_in plan journal (Some end) printed ends undone none is = undone_printed plan journal printed (λ same. undone (ends.end.verdict_is ∙ same)) is
