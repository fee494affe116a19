-- The trace of a whole journal is audited yes.
use Rattle.std.proofs.Common.{◌≡◌, ◌≢◌, ℕ, ◌+◌, ◌-◌, ◌≤◌, ◌<◌, ◌&&◌, ◌||◌, Bool, true, false, not, cond, List, [], ◌∷◌, ◌++◌, length, take, drop, map, Option, Some, None, refl, sym, ap, ◌∙◌, subst, append_assoc, arith, suc}
use Rattle.std.specs.Prelude.{count_by, is_some, min, nat_lt}
use Rattle.std.specs.List.{list_any, slice_get}
use Rattle.std.proofs.lemmas.Bool.Decides.{nat_tests}
use Rattle.std.proofs.lemmas.List.{length-map, length-take, map-append}
use Rattle.std.proofs.lemmas.List.Folds.{list_any-append}
use Rattle.std.proofs.lemmas.List.Sums.{sum_by-append, sum_by-cons}
use Rattle.std.proofs.lemmas.Bool.{and_from}
use Rattle.base_script.specs.declared.actor.Actor.{Actor}
use Rattle.base_script.specs.declared.actor.Actor.TheVariants.{Op, Insp, Copy, Apply, Lock, Ren, Client}
use Rattle.table_store.specs.Databases.{Database}
use Rattle.server_model.specs.declared.request.Request.{Request}
use Rattle.server_model.specs.declared.answer.Answer.{Answer}
use Rattle.server_model.specs.declared.answer.Answer.TheVariants as answers
use Rattle.server_model.specs.declared.entry.Entry.{Entry}
use Rattle.server_model.specs.declared.outcome.Cause.{Cause}
use Rattle.server_model.specs.declared.outcome.Cause.TheVariants as causes
use Rattle.server_model.specs.declared.outcome.Verdict.{Verdict}
use Rattle.server_model.specs.declared.outcome.Verdict.TheVariants as verdicts
use Rattle.server_model.specs.Along.{Along, Along-keeps, gathered, gathered-more}
use Rattle.server_model.specs.Entries.{is_client}
use Rattle.plan_data.specs.PlanData.{PlanData}
use Rattle.tool_program.specs.Failures.{Stands}
use Rattle.tool_program.specs.JournalWords.Clients.{Reached}
use Rattle.tool_program.specs.JournalWords.Histories.{HistoryItem, Txn, Alter, about, adds, alters, entry_adds, history, is_alter, renames_away, answer_in}
use Rattle.tool_program.specs.JournalWords.Journals.{state_at}
use Rattle.tool_program.specs.JournalWords.Serials.{tables_left}
use Rattle.tool_program.specs.Tools.{Reason, Tool, moment}
use Rattle.tool_program.specs.Verdicts.{has_ended, reverted_by, verdict_of}
use Rattle.proof_journals.specs.Machine.Scripts.{ScriptsFit}
use Rattle.proof_journals.specs.Run.Kept.{IsKept}
use Rattle.proof_journals.proofs.Ghost.Turns.{along_next}
use Rattle.tool_finish.specs.Finishes.{finish_verdict}
use Rattle.tool_finish.specs.WholeJournals.{finish_in, run_in, verdict_at}
use Rattle.run_judge.proofs.SeenTurns.{altered_more}
use Rattle.run_audit.specs.declared.trace.Audit.TheVariants as audits
use Rattle.run_audit.specs.declared.line.TraceLine.{TraceLine}
use Rattle.run_audit.specs.Audits.{Altered, audited, cause_holds, first_draws, first_no, first_other, item_of, judged, judged_in, least, may_draw, misdrawn_turns, misdraws, opening_tables, tables_reached, unended, verdict_holds, wrong_turns}
use Rattle.run_audit.specs.declared.line.LineAnswer.{LineAnswer}
use Rattle.run_audit.specs.Lines.{drawn_shown, line_of, lines_of, printed_table, trace_of}
use Rattle.run_audit.specs.Rules.{alter_turns, alters_in, breaks, broken_turns, client_reached, has_altered, is_within, keeps_losses, keeps_script, next_turn, turn_if}
use Rattle.proof_audit.proofs.Sessions.{IsLostRightly}
use Rattle.proof_audit.proofs.Verdicts.{tries_in_lines, unfit_in_line}
use Rattle.proof_audit.specs.Laws.{DrawsAsLeft, FinishTells, LinesTellAlters, WholesAreSerial, MayDraw, MarksAgree, AreSerialLines, SerialTracesAreAudited}
use Rattle.proof_audit.proofs.Ended.{lines_end, panic_in_lines, turn_splits}
use Rattle.proof_audit.proofs.Idle.{idle_write_nothing}
use Rattle.proof_audit.proofs.Behind.{behind_told}
use Rattle.proof_audit.proofs.Kept.{tell_clients, whole_lost}
use Rattle.proof_audit.proofs.Refusals.{refusals_keep}
use Rattle.proof_audit.proofs.Rules.{keep_rules}
use Rattle.proof_audit.proofs.Wholes.{ended_alone, ended_verdict, gone_on_verdict, kept_whole, run_whole, whole_before}
use Rattle.proof_audit.specs.Wholes.{IsWhole}
use Rattle.proof_audit.proofs.Serials.{are_serial, whole_prefixes}
use Rattle.proof_audit.proofs.Whole.{so_may}

-- ---- the ALTER

altered_is : (plan : PlanData) (journal : List Entry) → LinesTellAlters plan → IsWhole plan journal → has_altered (lines_of journal) ≡ list_any is_alter (history plan journal)
unfolding history alter_turns
altered_is plan journal alters kept = Along-keeps (λ some entry. IsWhole plan (some ++ entry ∷ [])) (λ some. has_altered (lines_of some) ≡ list_any is_alter (history plan some)) step [] journal (whole_prefixes plan [] journal kept) refl where
  step : (some : List Entry) (entry : Entry) → IsWhole plan (some ++ entry ∷ []) → has_altered (lines_of some) ≡ list_any is_alter (history plan some) → has_altered (lines_of (some ++ entry ∷ [])) ≡ list_any is_alter (history plan (some ++ entry ∷ []))
  step some entry whole same =
      ap (λ (lines : List TraceLine). has_altered lines) (map-append line_of some (entry ∷ []))
      ∙ altered_more (lines_of some) (line_of entry)
      ∙ ap (λ (b : Bool). b || alters_in (lines_of some) (line_of entry)) same
      ∙ ap (λ (b : Bool). list_any is_alter (history plan some) || b) (alters some entry whole)
      ∙ sym (list_any-append is_alter (history plan some) (entry_adds plan some entry))
      ∙ sym (ap (list_any is_alter) (gathered-more (entry_adds plan) [] some entry))

counts_one : (items : List HistoryItem) → list_any is_alter items ≡ true → 1 ≤ count_by is_alter items
counts_one [] is = absurd cc
counts_one (Alter ∷ items) is = subst (λ (n : ℕ). 1 ≤ n) (sym (sum_by-cons (λ item. cond (is_alter item) 1 0) Alter items)) (omega arith)
counts_one (Txn past ∷ items) is = subst (λ (n : ℕ). 1 ≤ n) (sym (sum_by-cons (λ item. cond (is_alter item) 1 0) (Txn past) items)) (let rest : 1 ≤ count_by is_alter items = counts_one items is in omega (arith, rest))

only_once : (xs ys : List HistoryItem) (a b : Bool) → list_any is_alter xs ≡ a → list_any is_alter ys ≡ b → count_by is_alter (xs ++ ys) ≤ 1 → (b && a) ≡ false
only_once xs ys true true some more once =
    let one : 1 ≤ count_by is_alter xs = counts_one xs some in
    let other : 1 ≤ count_by is_alter ys = counts_one ys more in
    let all : count_by is_alter xs + count_by is_alter ys ≤ 1 = subst (λ (n : ℕ). n ≤ 1) (sum_by-append (λ item. cond (is_alter item) 1 0) xs ys) once in
    absurd (omega (arith, one, other, all))
only_once xs ys true false some more once = refl
only_once xs ys false true some more once = refl
only_once xs ys false false some more once = refl

-- no second ALTER
alters_once : (plan : PlanData) (before : List Entry) (entry : Entry) → WholesAreSerial plan → LinesTellAlters plan → IsWhole plan (before ++ entry ∷ []) → (alters_in (lines_of before) (line_of entry) && has_altered (lines_of before)) ≡ false
unfolding history
alters_once plan before entry serial alters kept =
    ap (λ (b : Bool). b && has_altered (lines_of before)) (alters before entry kept)
    ∙ ap (λ (b : Bool). list_any is_alter (entry_adds plan before entry) && b) (altered_is plan before alters (whole_before plan before (entry ∷ []) kept))
    ∙ only_once (history plan before) (entry_adds plan before entry) (list_any is_alter (history plan before)) (list_any is_alter (entry_adds plan before entry)) refl refl
    (subst (λ (items : List HistoryItem). count_by is_alter items ≤ 1) (gathered-more (entry_adds plan) [] before entry) (serial (before ++ entry ∷ []) kept).once)

-- what a turn of the tool's adds is the ALTER or nothing
alter_shape : (b : Bool) → cond b (Alter ∷ []) [] ≡ cond (list_any is_alter (cond b (Alter ∷ []) [])) (Alter ∷ []) []
alter_shape true = refl
alter_shape false = refl

alters_shape : (plan : PlanData) (request : Option Request) (said : Option Answer) → alters plan request said ≡ cond (list_any is_alter (alters plan request said)) (Alter ∷ []) []
alters_shape plan request None = refl
alters_shape plan request (Some (answers.Ok count)) = alter_shape (renames_away plan.table request)
alters_shape plan request (Some answer) = refl

marked_shape : (a h : Bool) (turn : ℕ) → (a && h) ≡ false → map item_of (cond (a && not h) (Altered turn ∷ []) []) ≡ cond a (Alter ∷ []) []
marked_shape true true turn once = absurd cc
marked_shape true false turn once = refl
marked_shape false h turn once = refl

tool_marks : (plan : PlanData) (before : List Entry) (entry : Entry) (items : List HistoryItem) → (alters_in (lines_of before) (line_of entry) && has_altered (lines_of before)) ≡ false → alters_in (lines_of before) (line_of entry) ≡ list_any is_alter items
    → items ≡ cond (list_any is_alter items) (Alter ∷ []) []
    → map item_of (cond (alters_in (lines_of before) (line_of entry) && not (has_altered (lines_of before))) (Altered (next_turn (lines_of before)) ∷ []) []) ≡ items
tool_marks plan before entry items once known shape =
    marked_shape (alters_in (lines_of before) (line_of entry)) (has_altered (lines_of before)) (next_turn (lines_of before)) once ∙ ap (λ (b : Bool). cond b (Alter ∷ []) []) known ∙ sym shape

marks_so : (plan : PlanData) (before : List Entry) (entry : Entry) (actor : Actor) → entry.actor ≡ actor → WholesAreSerial plan → LinesTellAlters plan → IsWhole plan (before ++ entry ∷ [])
    → adds plan before entry actor ≡ alters plan (about before entry) (answer_in entry.asked entry.side entry.answer entry.missed)
    → judged_in plan (lines_of before) (line_of entry) actor ≡ cond (alters_in (lines_of before) (line_of entry) && not (has_altered (lines_of before))) (Altered (next_turn (lines_of before)) ∷ []) []
    → map item_of (judged_in plan (lines_of before) (line_of entry) entry.actor) ≡ entry_adds plan before entry
marks_so plan before entry actor same serial known kept adds_is judged_is =
    ap (λ (a : Actor). map item_of (judged_in plan (lines_of before) (line_of entry) a)) same
    ∙ ap (map item_of) judged_is
    ∙ tool_marks plan before entry (alters plan (about before entry) (answer_in entry.asked entry.side entry.answer entry.missed)) (alters_once plan before entry serial known kept)
    (known before entry kept ∙ ap (λ (a : Actor). list_any is_alter (adds plan before entry a)) same ∙ ap (list_any is_alter) adds_is) (alters_shape plan (about before entry) (answer_in entry.asked entry.side entry.answer entry.missed))
    ∙ sym adds_is
    ∙ sym (ap (adds plan before entry) same)

marks_agree : (plan : PlanData) → WholesAreSerial plan → LinesTellAlters plan → MarksAgree plan
marks_agree plan serial known before entry kept not_client = by entry.actor refl where
  by : (actor : Actor) → entry.actor ≡ actor → map item_of (judged_in plan (lines_of before) (line_of entry) entry.actor) ≡ entry_adds plan before entry
  by (Client c) same = let no : true ≡ false = sym (ap is_client same) ∙ not_client in absurd (cc no)
  by Op same = marks_so plan before entry Op same serial known kept refl refl
  by Insp same = marks_so plan before entry Insp same serial known kept refl refl
  by Copy same = marks_so plan before entry Copy same serial known kept refl refl
  by Apply same = marks_so plan before entry Apply same serial known kept refl refl
  by Lock same = marks_so plan before entry Lock same serial known kept refl refl
  by Ren same = marks_so plan before entry Ren same serial known kept refl refl

-- ---- no turn is broken

not_broken : (s w l x : Bool) → s ≡ true → (w ≡ true → l ≡ true) → x ≡ false → (not s || (w && not l) || x) ≡ false
not_broken true true true false script losses once = refl
not_broken true false l false script losses once = refl
not_broken true true false x script losses once = let no : false ≡ true = losses refl in absurd (cc no)
not_broken false w l x script losses once = absurd cc
not_broken true w l true script losses once = absurd cc

within_so : (plan : PlanData) (some : List Entry) → is_within plan (lines_of some) ≡ true → length some < plan.options.turn_limit
within_so plan some is = let lines : length (lines_of some) ≡ length some = length-map some line_of in let less : nat_lt (length (lines_of some)) plan.options.turn_limit ≡ true = is in grind (arith, nat_tests, lines, less)

lines_along : (plan : PlanData) (P : List TraceLine → TraceLine → Type 0) → ((some : List Entry) (entry : Entry) (later : List Entry) → IsWhole plan (some ++ entry ∷ later) → P (lines_of some) (line_of entry)) → (before journal : List Entry) → IsWhole plan (before ++ journal) → Along P (lines_of before) (lines_of journal)
lines_along plan P each before [] kept = tt
lines_along plan P each before (entry ∷ journal) kept = (
  each before entry journal kept,
  subst (λ (some : List TraceLine). Along P some (lines_of journal)) (map-append line_of before (entry ∷ [])) (lines_along plan P each (before ++ entry ∷ []) journal (subst (IsWhole plan) (sym (append_assoc before (entry ∷ []) journal)) kept)),
)

gathered_none : (add : List TraceLine → TraceLine → List ℕ) (before lines : List TraceLine) → Along (λ some line. add some line ≡ []) before lines → gathered add before lines ≡ []
gathered_none add before [] all = refl
gathered_none add before (line ∷ lines) all = ap (λ (turns : List ℕ). turns ++ gathered add (before ++ line ∷ []) lines) all.0 ∙ gathered_none add (before ++ line ∷ []) lines all.1

none_broken : (plan : PlanData) (journal : List Entry) → ScriptsFit plan → WholesAreSerial plan → LinesTellAlters plan → IsWhole plan journal → broken_turns plan (lines_of journal) ≡ []
unfolding broken_turns
none_broken plan journal fit serial known kept =
    gathered_none (λ some line. turn_if (breaks plan some line) some) [] (lines_of journal) (lines_along plan (λ some line. turn_if (breaks plan some line) some ≡ []) each [] journal kept) where
      each : (some : List Entry) (entry : Entry) (later : List Entry) → IsWhole plan (some ++ entry ∷ later) → turn_if (breaks plan (lines_of some) (line_of entry)) (lines_of some) ≡ []
      each some entry later whole =
          let rules = keep_rules plan some entry later fit whole in
          let front : IsWhole plan (some ++ entry ∷ []) = whole_before plan (some ++ entry ∷ []) later (subst (IsWhole plan) (sym (append_assoc some (entry ∷ []) later)) whole) in
          ap (λ (b : Bool). turn_if b (lines_of some))
          (not_broken (keeps_script plan (lines_of some) (line_of entry)) (is_within plan (lines_of some)) (keeps_losses plan (lines_of some) (line_of entry)) (alters_in (lines_of some) (line_of entry) && has_altered (lines_of some)) rules.script (λ within. rules.losses (within_so plan some within)) (alters_once plan some entry serial known front))

-- a number that a line shows was drawn
shown_some : (draw : Option ℕ) (said : LineAnswer) → is_some (drawn_shown draw said) ≡ true → is_some draw ≡ true
shown_some None said shows = absurd cc
shown_some (Some number) said shows = refl

-- what may be drawn, by the lines
may_by_lines : (plan : PlanData) (before : List Entry) (actor : Actor) → ScriptsFit plan → tables_reached plan (opening_tables plan) (judged plan (lines_of before)) ≡ tables_left plan (state_at plan before).tables → IsWhole plan before → MayDraw plan before actor → may_draw plan (lines_of before) actor ≡ true
may_by_lines plan before (Client c) fit reached kept may =
    ap (λ (tables : Database). first_draws tables (client_reached plan (lines_of before) c).left) reached
    ∙ ap (λ (client : Reached). first_draws (tables_left plan (state_at plan before).tables) client.left) (tell_clients plan before c fit kept) ∙ may
may_by_lines plan before actor fit reached kept may = absurd may

none_misdrawn : (plan : PlanData) (journal : List Entry) → ScriptsFit plan → DrawsAsLeft plan
    → ((before : List Entry) → IsWhole plan before → tables_reached plan (opening_tables plan) (judged plan (lines_of before)) ≡ tables_left plan (state_at plan before).tables) → IsWhole plan journal → misdrawn_turns plan (lines_of journal) ≡ []
unfolding misdrawn_turns
none_misdrawn plan journal fit draws reached kept =
    gathered_none (λ some line. turn_if (misdraws plan some line) some) [] (lines_of journal) (lines_along plan (λ some line. turn_if (misdraws plan some line) some ≡ []) each [] journal kept) where
      each : (some : List Entry) (entry : Entry) (later : List Entry) → IsWhole plan (some ++ entry ∷ later) → turn_if (misdraws plan (lines_of some) (line_of entry)) (lines_of some) ≡ []
      each some entry later whole =
          let front : IsWhole plan (some ++ entry ∷ []) = whole_before plan (some ++ entry ∷ []) later (subst (IsWhole plan) (sym (append_assoc some (entry ∷ []) later)) whole) in
          ap (λ (b : Bool). turn_if b (lines_of some))
          (so_may (is_some (line_of entry).drawn) (may_draw plan (lines_of some) entry.actor)
          (λ shows. let begun : IsWhole plan some = whole_before plan some (entry ∷ []) front in may_by_lines plan some entry.actor fit (reached some begun) begun (draws some entry front (shown_some entry.draw (line_of entry).answer shows))))

-- ---- the verdict

reverted_undone : (plan : PlanData) (journal : List Entry) (tool : Tool) (reason : Option Reason) → reverted_by plan journal tool reason ≢ verdicts.Done
reverted_undone plan journal tool None is = cc
reverted_undone plan journal tool (Some reason) is = cc

done_so : (ended altered : Bool) (other : Verdict) → (other ≢ verdicts.Done) → cond ended (cond altered verdicts.Done other) verdicts.Unfinished ≡ verdicts.Done → altered ≡ true
done_so true true other undone is = refl
done_so true false other undone is = absurd (undone is)
done_so false altered other undone is = absurd cc

reverted_so : (ended altered : Bool) (other : Verdict) (cause : Cause) → cond ended (cond altered verdicts.Done other) verdicts.Unfinished ≡ verdicts.Reverted cause → altered ≡ false
reverted_so true true other cause is = absurd cc
reverted_so true false other cause is = refl
reverted_so false altered other cause is = absurd cc

rightly_at : (plan : PlanData) (journal : List Entry) → IsWhole plan journal → (turn : ℕ) (entry : Entry) → slice_get journal (turn - 1) ≡ Some entry → IsLostRightly entry
rightly_at plan journal whole turn entry is =
    along_next (λ some one. IsLostRightly one) [] (take (turn - 1) journal) entry (drop (suc (turn - 1)) journal)
    (subst (λ (all : List Entry). Along (λ some one. IsLostRightly one) [] all) (turn_splits journal (turn - 1) entry is) (whole_lost plan journal whole))

cause_told : (plan : PlanData) (journal : List Entry) (cause : Cause) → IsKept plan journal → length journal ≤ plan.options.turn_limit → Stands plan journal cause → cause_holds plan (lines_of journal) cause ≡ true
unfolding Stands
cause_told plan journal (causes.Unfit turn key column number) kept within stands = unfit_in_line plan journal turn key column number (rightly_at plan journal (kept_whole plan journal within kept) turn) stands
cause_told plan journal (causes.Spent task turns) kept within stands = tries_in_lines plan journal task turns (rightly_at plan journal (kept_whole plan journal within kept)) stands.each
cause_told plan journal (causes.Panic turn) kept within stands = panic_in_lines plan journal turn kept within stands

-- of a run
holds_here : (plan : PlanData) (journal : List Entry) (verdict : Verdict) → verdict_of plan journal ≡ verdict → has_altered (lines_of journal) ≡ list_any is_alter (history plan journal) → IsKept plan journal → length journal ≤ plan.options.turn_limit
    → ((cause : Cause) → verdict_of plan journal ≡ verdicts.Reverted cause → Stands plan journal cause) → verdict_holds plan (lines_of journal) verdict ≡ true
unfolding verdict_of
holds_here plan journal verdicts.Unfinished is altered kept within stands = refl
holds_here plan journal verdicts.Done is altered kept within stands =
    altered ∙ done_so (has_ended plan journal) (list_any is_alter (history plan journal)) (reverted_by plan journal (moment plan journal).tool (moment plan journal).tool.reason) (reverted_undone plan journal (moment plan journal).tool (moment plan journal).tool.reason) is
holds_here plan journal (verdicts.Reverted cause) is altered kept within stands =
    and_from (not (has_altered (lines_of journal))) (cause_holds plan (lines_of journal) cause)
    (ap not (altered ∙ reverted_so (has_ended plan journal) (list_any is_alter (history plan journal)) (reverted_by plan journal (moment plan journal).tool (moment plan journal).tool.reason) cause is))
    (cause_told plan journal cause kept within (stands cause is))

-- of a new tool behind it
behind_holds : (plan : PlanData) (journal : List Entry) (verdict : Verdict) → finish_verdict plan (run_in plan journal) (finish_in plan journal) ≡ verdict → has_altered (lines_of journal) ≡ list_any is_alter (history plan journal) → IsWhole plan journal → FinishTells plan journal
    → verdict_holds plan (lines_of journal) verdict ≡ true
behind_holds plan journal verdicts.Unfinished is altered whole tells = refl
behind_holds plan journal verdicts.Done is altered whole tells = altered ∙ tells.done is
behind_holds plan journal (verdicts.Reverted cause) is altered whole tells =
    and_from (not (has_altered (lines_of journal))) (cause_holds plan (lines_of journal) cause) (ap not (altered ∙ tells.reverted cause is)) (behind_told plan journal whole (rightly_at plan journal whole) cause (tells.stands cause is))

-- *The verdict holds*
holds_at : (plan : PlanData) (journal : List Entry) → LinesTellAlters plan → IsWhole plan journal → ((cause : Cause) → verdict_of plan (run_in plan journal) ≡ verdicts.Reverted cause → Stands plan (run_in plan journal) cause) → FinishTells plan journal
    → verdict_holds plan (lines_of journal) (verdict_at plan journal) ≡ true
holds_at plan journal known whole stands tells = by (has_ended plan (run_in plan journal)) refl where
  Holds : List Entry → Verdict → Type 0
  Holds all verdict = verdict_holds plan (lines_of all) verdict ≡ true

  few : length (run_in plan journal) ≤ plan.options.turn_limit
  few = let least : length (run_in plan journal) ≡ min plan.options.turn_limit (length journal) = length-take plan.options.turn_limit journal in omega (arith, least)

  by : (b : Bool) → has_ended plan (run_in plan journal) ≡ b → Holds journal (verdict_at plan journal)
  by true ended =
      let same : run_in plan journal ≡ journal = run_whole plan journal (ended_alone plan journal whole ended) in
      subst (Holds journal) (sym (ended_verdict plan journal ended))
      (subst (λ (all : List Entry). Holds all (verdict_of plan (run_in plan journal))) same
      (holds_here plan (run_in plan journal) (verdict_of plan (run_in plan journal)) refl (altered_is plan (run_in plan journal) known (kept_whole plan (run_in plan journal) few whole.kept)) whole.kept few stands))
  by false unended =
      subst (Holds journal) (sym (gone_on_verdict plan journal unended)) (behind_holds plan journal (finish_verdict plan (run_in plan journal) (finish_in plan journal)) refl (altered_is plan journal known whole) whole tells)

-- ---- the answer

answer_yes : (broken wrong drawn left : List ℕ) (other : Option (List ℕ)) (holds : Bool) → broken ≡ [] → wrong ≡ [] → drawn ≡ [] → left ≡ [] → other ≡ None → holds ≡ true → first_no (least (broken ++ wrong ++ drawn ++ left)) other holds ≡ audits.Yes
unfolding least
answer_yes broken wrong drawn left other holds one two three four five six = rw (one, two, three, four, five, six) refl

-- *Traces are audited yes*
pub traces_audited : SerialTracesAreAudited
unfolding audited trace_of
traces_audited plan journal fit serial known draws whole stands behind =
    let tells : (some : List Entry) → IsWhole plan some → AreSerialLines plan some = λ some. are_serial plan some fit serial (marks_agree plan serial known) (refusals_keep plan (idle_write_nothing plan)) in
    answer_yes (broken_turns plan (lines_of journal)) (wrong_turns plan (opening_tables plan) (judged plan (lines_of journal))) (misdrawn_turns plan (lines_of journal)) (unended plan (trace_of plan journal (verdict_at plan journal) (state_at plan journal).tables))
    (first_other (map printed_table (tables_left plan (state_at plan journal).tables)) (tables_reached plan (opening_tables plan) (judged plan (lines_of journal)))) (verdict_holds plan (lines_of journal) (verdict_at plan journal))
    (none_broken plan journal fit serial known whole) (tells journal whole).turns (none_misdrawn plan journal fit draws (λ before begun. (tells before begun).reached) whole) (lines_end plan journal fit whole) (tells journal whole).printed
    (holds_at plan journal known whole stands behind)
