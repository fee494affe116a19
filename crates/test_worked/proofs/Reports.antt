-- The reports of worked plans, byte for byte.
use Rattle.std.proofs.Common.{◌≡◌, ℕ, pos, Bool, true, List, [], ◌∷◌, refl, codes}
use Rattle.base_values.specs.declared.value.Value.TheVariants.{Num}
use Rattle.base_values.specs.Literals as y0
use Rattle.table_print.specs.Names as y1
use Rattle.table_print.specs.Tables as y2
use Rattle.server_model.specs.declared.entry.Entry.{Entry}
use Rattle.server_model.specs.declared.outcome.Task.TheVariants as tasks
use Rattle.server_model.specs.declared.outcome.Cause.TheVariants as causes
use Rattle.server_model.specs.declared.outcome.Verdict.TheVariants as verdicts
use Rattle.plan_data.specs.PlanData.{PlanData}
use Rattle.tool_program.specs.JournalWords.Journals.{state_at}
use Rattle.tool_program.specs.Verdicts.{verdict_of}
use Rattle.top_report.specs.ClientLines.Pasts as y3
use Rattle.top_report.specs.ClientLines.Replies as y4
use Rattle.top_report.specs.Reports as y5
use Rattle.top_report.specs.Tables as y6
use Rattle.top_report.specs.Turns as y7
use Rattle.top_report.specs.Verdicts as y8
use Rattle.test_worked.proofs.Computing.{computing}
use Rattle.test_worked.proofs.SmallPlans2.{plan_empty, journal_empty, plan_cut_text, journal_cut_text, plan_odd_chunks, journal_odd_chunks, plan_lost_answer, journal_lost_answer, plan_panic, journal_panic, plan_three_turns, journal_three_turns}
use Rattle.test_worked.proofs.SmallPlans1.{plan_after_chunk, journal_after_chunk, plan_after_lock, journal_after_lock, plan_lost_lock, journal_lost_lock, plan_lost_drop, journal_lost_drop, plan_one_try, journal_one_try}

-- what a proof by computing opens of a report
unfoldable pub printing : Bool
unfolding y0.printed y0.listed y0.printed_row y1.in_byte_order y1.spaced y1.names_line y2.more_names y2.column_names y2.table_line y2.row_lines y3.past_text y3.history_line y4.reply_text y4.numbered_text y4.client_text y4.clients_from y5.report y6.rows_text y6.tables_text y7.actor_word y7.turns_taken y7.joined y7.runs_of y7.run_text y7.order_text y7.turns_text y8.task_text y8.spaced_turns y8.cause_text y8.verdict_line
printing = true

-- the report of a run
abbrev reported : PlanData → List Entry → List ℕ
reported plan journal = y5.report plan journal (verdict_of plan journal) (state_at plan journal).tables

reported_after_chunk : reported plan_after_chunk journal_after_chunk ≡ codes "done\nclient c1\n1.1 ok 1\ntable t (id, b)\n(2, NULL)\ntables _t_del t\nhistory c1.1 ALTER\nturns 28\norder insp*5 copy*3 c1 copy*2 c1 apply*4 lock*2 insp apply ren insp lock ren lock ren insp*2\n"
unfolding computing printing
reported_after_chunk = refl

reported_after_lock : reported plan_after_lock journal_after_lock ≡ codes "done\nclient c1\n1.1 ok 0\n1.2 ok 1\n1.3 ok 0\nclient c2\n1.1 error 1136\ntable t (id, b)\n(1, 7)\n(2, 7)\ntables _t_del t\nhistory c1.1 ALTER c2.1\nturns 35\norder insp*5 copy*4 c1*2 lock*2 c2 c1 lock insp apply c2 apply c2 apply c2 apply ren c2 insp lock ren c2 lock ren c2 insp*2\n"
unfolding computing printing
reported_after_lock = refl

reported_lost_lock : reported plan_lost_lock journal_lost_lock ≡ codes "done\ntable t (id, b)\ntables _t_del t\nhistory ALTER\nturns 27\norder insp*5 lock*2 insp apply ren insp lock ren insp*2 lock*2 insp apply ren insp lock ren lock ren insp*2\n"
unfolding computing printing
reported_lost_lock = refl

reported_lost_drop : reported plan_lost_drop journal_lost_drop ≡ codes "done\nclient c1\n1.1 ok 1\ntable t (id, b)\n(4, 7)\ntables _t_del t\nhistory ALTER c1.1\nturns 18\norder insp*5 lock*2 c1 insp apply ren insp lock c1 ren insp c1 insp\n"
unfolding computing printing
reported_lost_drop = refl

reported_one_try : reported plan_one_try journal_one_try ≡ codes "reverted spent cutover turns 11\nclient c1\n1.1 ok 0\n1.2 rows 0\n1.3 ok 0\ntable t (id)\ntables _t_ghc _t_gho t\nhistory c1.1\nturns 14\norder insp*5 c1*2 lock*4 insp c1 insp\n"
unfolding computing printing
reported_one_try = refl

reported_empty : reported plan_empty journal_empty ≡ codes "done\ntable t (id, b)\ntables _t_del t\nhistory ALTER\nturns 17\norder insp*5 lock*2 insp apply ren insp lock ren lock ren insp*2\n"
unfolding computing printing
reported_empty = refl

reported_cut_text : reported plan_cut_text journal_cut_text ≡ codes "reverted unfit turn 8 key (1) column 'c' 1406\ntable t (id, c)\n(1, 'abcd')\ntables _t_ghc _t_gho t\n"
unfolding computing printing
reported_cut_text = refl

reported_odd_chunks : reported plan_odd_chunks journal_odd_chunks ≡ codes "done\ntable t (id, b)\n(1, 7)\n(2, 7)\n(3, 7)\n(4, 7)\n(5, 7)\ntables _t_del t\nhistory ALTER\nturns 31\norder insp*5 copy*14 lock*2 insp apply ren insp lock ren lock ren insp*2\n"
unfolding computing printing
reported_odd_chunks = refl

reported_lost_answer : reported plan_lost_answer journal_lost_answer ≡ codes "done\ntable t (id, b)\ntables _t_del t\nhistory ALTER\nturns 17\norder insp*5 lock*2 insp apply ren insp lock ren lock ren insp*2\n"
unfolding computing printing
reported_lost_answer = refl

reported_panic : reported plan_panic journal_panic ≡ codes "reverted panic turn 1\ntable t (id)\ntables t\nhistory\nturns 1\norder op\n"
unfolding computing printing
reported_panic = refl

reported_three_turns : reported plan_three_turns journal_three_turns ≡ codes "unfinished\ntable t (id)\ntables _t_ghc _t_gho t\nhistory\nturns 3\norder insp*3\n"
unfolding computing printing
reported_three_turns = refl

-- verdicts of which these plans have none

unfit_line : y8.verdict_line (verdicts.Reverted (causes.Unfit 8 ((Num (pos 1)) ∷ []) (codes "c") 1406)) ≡ codes "reverted unfit turn 8 key (1) column 'c' 1406\n"
unfolding computing printing
unfit_line = refl

spent_line : y8.verdict_line (verdicts.Reverted (causes.Spent (tasks.Chunk 3) (11 ∷ 40 ∷ []))) ≡ codes "reverted spent chunk 3 turns 11 40\n"
unfolding computing printing
spent_line = refl

panic_line : y8.verdict_line (verdicts.Reverted (causes.Panic 5)) ≡ codes "reverted panic turn 5\n"
unfolding computing printing
panic_line = refl

unfinished_line : y8.verdict_line verdicts.Unfinished ≡ codes "unfinished\n"
unfolding computing printing
unfinished_line = refl
