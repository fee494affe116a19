-- A run that has ended left no script that wasn't gone through, and a panic is in its line.
use Rattle.std.proofs.Common.{◌≡◌, ℕ, suc, ◌+◌, ◌-◌, ◌<◌, ◌&&◌, nat_lt, Bool, true, false, not, cond, List, [], ◌∷◌, ◌++◌, length, take, drop, Some, refl, sym, ap, ◌∙◌, subst, arith}
use Rattle.std.specs.List.{slice_get}
use Rattle.std.proofs.lemmas.Bool.Decides.{nat_tests}
use Rattle.std.proofs.lemmas.List.{length-append, length-map, take-append-drop, take-map}
use Rattle.std.proofs.lemmas.Option.{slice_get_within, get_or_from_slice_get}
use Rattle.std.proofs.Math.Seq.{split_at}
use Rattle.std.proofs.lemmas.Bool.{and_parts, and_from}
use Rattle.base_script.specs.declared.actor.Actor.{Actor}
use Rattle.base_script.specs.declared.actor.Actor.TheVariants.{Op, Insp, Copy, Apply, Lock, Ren, Client}
use Rattle.base_script.specs.declared.operator.OperatorWord.{OperatorWord}
use Rattle.base_script.specs.declared.operator.OperatorWord.TheVariants.{Panic}
use Rattle.base_script.specs.declared.script.ScriptLine.{ScriptLine}
use Rattle.server_model.specs.declared.entry.Asked.{Asked}
use Rattle.server_model.specs.declared.entry.Asked.TheVariants.{Command}
use Rattle.server_model.specs.declared.entry.Entry.{Entry}
use Rattle.server_model.specs.declared.outcome.Verdict.{Verdict}
use Rattle.server_model.specs.declared.outcome.Verdict.TheVariants as verdicts
use Rattle.plan_data.specs.PlanData.{PlanData}
use Rattle.tool_program.specs.JournalWords.Clients.{Reached, all_over, client_asks, client_at, client_over, clients_over, line_asks}
use Rattle.tool_program.specs.JournalWords.KeptPlans.{TakesNext, commands_taken, words_of}
use Rattle.tool_program.specs.JournalWords.Journals.{state_at}
use Rattle.tool_program.specs.Tools.{moment}
use Rattle.tool_program.specs.Verdicts.{ended_so, has_ended, is_over, verdict_of}
use Rattle.proof_journals.specs.Machine.Scripts.{ScriptsFit}
use Rattle.proof_journals.specs.Run.Kept.{IsKept}
use Rattle.tool_finish.specs.WholeJournals.{finish_in, run_in, verdict_at}
use Rattle.run_audit.specs.declared.line.TraceLine.{TraceLine}
use Rattle.run_audit.specs.Audits.{is_panic, is_panic_at, is_unfinished, unended}
use Rattle.run_audit.specs.Lines.{asked_of, line_of, lines_of, trace_of}
use Rattle.run_audit.specs.Rules.{all_are_over, client_reached, commands_in, is_word, next_turn}
use Rattle.proof_audit.proofs.Sessions.{lines_tell_commands}
use Rattle.proof_audit.proofs.Verdicts.{line_there}
use Rattle.proof_audit.specs.Laws.{LinesEnd, LinesTellPanic}
use Rattle.proof_audit.proofs.Kept.{tell_clients}
use Rattle.proof_audit.proofs.Rules.{asks_so}
use Rattle.proof_audit.proofs.Wholes.{all_taken, kept_next, run_whole, verdict_alone}
use Rattle.proof_audit.specs.Wholes.{IsWhole}

-- ---- scripts

cond_first : (b c : Bool) → cond b c false ≡ true → b ≡ true
cond_first true c is = refl
cond_first false c is = absurd cc

cond_second : (b c : Bool) → cond b c false ≡ true → c ≡ true
cond_second true c is = is
cond_second false c is = absurd cc

over_alike : (plan : PlanData) (journal : List Entry) (number : ℕ) (scripts : List (List ScriptLine)) → ((c : ℕ) → client_reached plan (lines_of journal) c ≡ client_at plan journal c) → all_over plan journal number scripts ≡ true
    → all_are_over plan (lines_of journal) number scripts ≡ true
unfolding all_over all_are_over
over_alike plan journal number [] same over = refl
over_alike plan journal number (script ∷ scripts) same over =
    and_from (client_over (client_reached plan (lines_of journal) number)) (all_are_over plan (lines_of journal) (number + 1) scripts)
    (ap (λ (r : Reached). client_over r) (same number) ∙ cond_first (client_over (client_at plan journal number)) (all_over plan journal (number + 1) scripts) over)
    (over_alike plan journal (number + 1) scripts same (cond_second (client_over (client_at plan journal number)) (all_over plan journal (number + 1) scripts) over))

no_turn : (u n a : Bool) (turns : List ℕ) → a ≡ true → cond (u && n && not a) turns [] ≡ []
no_turn true true true turns is = refl
no_turn true false true turns is = refl
no_turn false n true turns is = refl
no_turn u n false turns is = absurd cc

ended_here : (plan : PlanData) (journal : List Entry) (ended : Bool) → has_ended plan journal ≡ ended → ScriptsFit plan → IsWhole plan journal
    → cond (not (is_unfinished (cond ended (ended_so plan journal (moment plan journal).tool) verdicts.Unfinished)) && not (nat_lt plan.options.turn_limit (length (lines_of journal))) && not (all_are_over plan (lines_of journal) 1 plan.clients)) (next_turn (lines_of journal) ∷ []) [] ≡ []
unfolding has_ended
ended_here plan journal false is fit whole = refl
ended_here plan journal true is fit whole =
    no_turn (not (is_unfinished (ended_so plan journal (moment plan journal).tool))) (not (nat_lt plan.options.turn_limit (length (lines_of journal)))) (all_are_over plan (lines_of journal) 1 plan.clients) (next_turn (lines_of journal) ∷ [])
    (over_alike plan journal 1 plan.clients (λ c. tell_clients plan journal c fit whole) (and_parts (is_over (moment plan journal)) (clients_over plan journal) is).1)

-- the run's verdict
run_ends : (plan : PlanData) (journal : List Entry) → ScriptsFit plan → IsWhole plan journal → unended plan (trace_of plan journal (verdict_of plan journal) (state_at plan journal).tables) ≡ []
unfolding trace_of verdict_of
run_ends plan journal fit whole = ended_here plan journal (has_ended plan journal) refl fit whole

-- more turns than the plan allows
no_past : (u past a : Bool) (turns : List ℕ) → past ≡ true → cond (u && not past && not a) turns [] ≡ []
no_past true true a turns is = refl
no_past false true a turns is = refl
no_past u false a turns is = absurd cc

past_so : (limit count : ℕ) → limit < count → nat_lt limit count ≡ true
past_so limit count more = grind (arith, nat_tests)

past_limit : (plan : PlanData) (journal : List Entry) (entry : Entry) (turns : List Entry) → finish_in plan journal ≡ entry ∷ turns → plan.options.turn_limit < length (lines_of journal)
past_limit plan journal entry turns is =
    let run : length (run_in plan journal) ≡ plan.options.turn_limit = all_taken plan.options.turn_limit journal entry turns is in
    let both : length (run_in plan journal ++ finish_in plan journal) ≡ length (run_in plan journal) + length (finish_in plan journal) = length-append (run_in plan journal) (finish_in plan journal) in
    let all : length (run_in plan journal ++ finish_in plan journal) ≡ length journal = ap (λ (some : List Entry). length some) (take-append-drop plan.options.turn_limit journal) in
    let some : length (finish_in plan journal) ≡ length turns + 1 = ap (λ (behind : List Entry). length behind) is ∙ omega arith in
    let lines : length (lines_of journal) ≡ length journal = length-map journal line_of in
    omega (arith, run, both, all, some, lines)

-- *The lines end*
pub lines_end : LinesEnd
unfolding trace_of
lines_end plan journal fit whole = by (finish_in plan journal) refl where
  Ends : Verdict → Type 0
  Ends verdict = unended plan (trace_of plan journal verdict (state_at plan journal).tables) ≡ []

  by : (turns : List Entry) → finish_in plan journal ≡ turns → Ends (verdict_at plan journal)
  by [] none = subst Ends (sym (verdict_alone plan journal none ∙ ap (verdict_of plan) (run_whole plan journal none))) (run_ends plan journal fit whole)
  by (entry ∷ turns) is =
      no_past (not (is_unfinished (verdict_at plan journal))) (nat_lt plan.options.turn_limit (length (lines_of journal))) (all_are_over plan (lines_of journal) 1 plan.clients) (next_turn (lines_of journal) ∷ [])
      (past_so plan.options.turn_limit (length (lines_of journal)) (past_limit plan journal entry turns is))

-- ---- panic

line_no_command : (waits : Bool) (left : List ScriptLine) (word : OperatorWord) → line_asks waits left ≡ Some (Command word) → ⊥
line_no_command waits [] word is = cc
line_no_command true (line ∷ lines) word is = cc
line_no_command false (line ∷ lines) word is = cc

client_no_command : (plan : PlanData) (before : List Entry) (c : ℕ) (word : OperatorWord) → client_asks plan before c ≡ Some (Command word) → ⊥
unfolding client_asks
client_no_command plan before c word is =
    line_no_command (client_at plan before c).waits (client_at plan before c).left word (asks_so (client_at plan before c).is_lost (line_asks (client_at plan before c).waits (client_at plan before c).left) (Command word) is)

-- who commands is the operator, and the command is the plan's next
commanded : (plan : PlanData) (before : List Entry) (actor : Actor) (word : OperatorWord) → TakesNext plan before actor (Command word) → slice_get (words_of plan) (commands_taken before) ≡ Some word
commanded plan before Op word takes = takes.1 ∙ ap Some (let one : takes.0 ≡ word = cc (takes.2) in one)
commanded plan before (Client c) word takes = absurd (client_no_command plan before c word takes)
commanded plan before Insp word takes = absurd cc
commanded plan before Copy word takes = absurd cc
commanded plan before Apply word takes = absurd cc
commanded plan before Lock word takes = absurd cc
commanded plan before Ren word takes = absurd cc

-- the turns before a turn, and it, and those after it
pub turn_splits : (journal : List Entry) (place : ℕ) (entry : Entry) → slice_get journal place ≡ Some entry → journal ≡ take place journal ++ entry ∷ drop (suc place) journal
turn_splits journal place entry is =
    split_at journal place entry (slice_get_within journal place entry is) ∙ ap (λ (e : Entry). take place journal ++ e ∷ drop (suc place) journal) (get_or_from_slice_get journal place entry entry is)

-- *A panic is in its line*
pub panic_in_lines : LinesTellPanic
panic_in_lines plan journal turn kept within is =
    let before : List Entry = take (turn - 1) journal in
    let split : journal ≡ before ++ is.entry ∷ drop (suc (turn - 1)) journal = turn_splits journal (turn - 1) is.entry is.is.stands in
    let takes : TakesNext plan before is.entry.actor is.entry.asked = (kept_next plan before is.entry (drop (suc (turn - 1)) journal) (subst (IsKept plan) split kept)).takes in
    let word : slice_get (words_of plan) (commands_taken before) ≡ Some Panic = commanded plan before is.entry.actor Panic (subst (λ (asked : Asked). TakesNext plan before is.entry.actor asked) is.asked takes) in
    let lower : turn - 1 < length journal = slice_get_within journal (turn - 1) is.entry is.is.stands in
    let some : 0 < turn = is.is.from_one in
    let allowed : nat_lt plan.options.turn_limit turn ≡ false = grind (arith, nat_tests) in
    let known : commands_in (take (turn - 1) (lines_of journal)) ≡ commands_taken before = ap (λ (lines : List TraceLine). commands_in lines) (take-map line_of (turn - 1) journal) ∙ lines_tell_commands before in
    ap (is_panic_at plan (lines_of journal) turn) (line_there journal turn is.entry is.is.from_one is.is.stands)
    ∙ and_from (is_word (asked_of is.entry.asked) && not (nat_lt plan.options.turn_limit turn)) (is_panic (slice_get (words_of plan) (commands_in (take (turn - 1) (lines_of journal)))))
    (and_from (is_word (asked_of is.entry.asked)) (not (nat_lt plan.options.turn_limit turn)) (ap (λ (asked : Asked). is_word (asked_of asked)) is.asked) (ap not allowed))
    (ap (λ (n : ℕ). is_panic (slice_get (words_of plan) n)) known ∙ ap is_panic word)
