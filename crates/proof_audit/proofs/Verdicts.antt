-- A cause that is in a journal is in its lines.
use Rattle.std.proofs.Common.{◌≡◌, ℕ, ◌-◌, ◌<◌, ◌==◌, ◌||◌, Bool, true, false, take, List, [], ◌∷◌, Option, Some, None, refl, sym, ap, ◌∙◌, ◌⊎◌, inl, inr, arith}
use Rattle.std.specs.List.{AllByRecursion, list_all, slice_get}
use Rattle.std.proofs.lemmas.Bool.Decides.{nat_tests}
use Rattle.std.proofs.lemmas.Bool.{and_from}
use Rattle.base_values.specs.declared.value.Value.{Value}
use Rattle.base_values.proofs.SchemaRules.Lists.{All-list_all, slice_get-map-some}
use Rattle.base_script.specs.declared.actor.Actor.{Actor}
use Rattle.base_script.specs.declared.actor.Actor.TheVariants.{Op, Insp, Copy, Apply, Lock, Ren, Client}
use Rattle.base_script.specs.declared.actor.Side.{Side}
use Rattle.base_script.specs.declared.actor.Side.TheVariants.{Before, After}
use Rattle.server_model.specs.declared.answer.Answer.{Answer}
use Rattle.server_model.specs.declared.answer.Answer.TheVariants as answers
use Rattle.server_model.specs.declared.entry.Entry.{Entry}
use Rattle.server_model.specs.declared.outcome.Task.{Task}
use Rattle.server_model.specs.declared.outcome.Task.TheVariants as tasks
use Rattle.server_model.specs.Entries.{is_client}
use Rattle.plan_data.specs.PlanData.{PlanData}
use Rattle.tool_program.specs.Failures.{IsBad, IsFailedTry, IsUndrained, IsUnfit, concerned, is_actor_of}
use Rattle.tool_program.specs.Tools.{Moment}
use Rattle.run_audit.specs.Lines.{heard_answer, line_answer, line_of, lines_of}
use Rattle.run_audit.specs.Rules.{is_cut, is_loss}
use Rattle.run_audit.specs.Audits.{is_apply, is_mover, is_over_after, is_refusal, is_unfit_at, line_at, may_fail_at}
use Rattle.proof_audit.proofs.Judging.{number_itself}
use Rattle.proof_audit.proofs.Sessions.{IsLostRightly, missed_is_loss}

-- the line of a turn
pub line_there : (journal : List Entry) (turn : ℕ) (entry : Entry) → 0 < turn → slice_get journal (turn - 1) ≡ Some entry → line_at (lines_of journal) turn ≡ Some (line_of entry)
line_there journal turn entry some is = let zero : (turn == 0) ≡ false = grind (arith, nat_tests) in rw zero (slice_get-map-some line_of journal (turn - 1) entry is)

-- an answer that isn't lost was heard
was_heard : (side : Option Side) (answer : Answer) → ((one : Side) → side ≡ Some one → answer ≡ answers.Lost) → (answer ≡ answers.Lost → ⊥) → side ≡ None
was_heard None answer lost other = refl
was_heard (Some side) answer lost other = absurd (other (lost side refl))

heard_so : (client : Bool) (side : Option Side) (answer : Answer) (missed : Option Answer) → side ≡ None → line_answer client side answer missed ≡ heard_answer client answer
heard_so client None answer missed none = refl
heard_so client (Some side) answer missed none = absurd cc

pub refused_in_line : (client : Bool) (entry : Entry) (number : ℕ) (place : Option ℕ) → IsLostRightly entry → entry.answer ≡ answers.Refused number place → is_refusal number (line_answer client entry.side entry.answer entry.missed) ≡ true
refused_in_line client entry number place rightly is =
    let none : entry.side ≡ None = was_heard entry.side entry.answer rightly.sided (λ lost. let no : answers.Refused number place ≡ answers.Lost = sym is ∙ lost in absurd (cc no)) in
    ap (is_refusal number) (heard_so client entry.side entry.answer entry.missed none ∙ ap (heard_answer client) is) ∙ number_itself number

mover : (plan : PlanData) (earlier : List Entry) (before : Moment) (actor : Actor) (key row : List Value) → concerned plan earlier before actor key ≡ Some row → is_mover actor ≡ true
mover plan earlier before Copy key row is = refl
mover plan earlier before Apply key row is = refl
mover plan earlier before Op key row is = absurd cc
mover plan earlier before Insp key row is = absurd cc
mover plan earlier before Lock key row is = absurd cc
mover plan earlier before Ren key row is = absurd cc
mover plan earlier before (Client number) key row is = absurd cc

-- *An unfit row* is in its line
pub unfit_in_line : (plan : PlanData) (journal : List Entry) (turn : ℕ) (key : List Value) (column : List ℕ) (number : ℕ) → ((entry : Entry) → slice_get journal (turn - 1) ≡ Some entry → IsLostRightly entry)
    → IsUnfit plan journal turn key column number → is_unfit_at number (line_at (lines_of journal) turn) ≡ true
unfit_in_line plan journal turn key column number rightly is =
    ap (is_unfit_at number) (line_there journal turn is.entry is.is.from_one is.is.stands)
    ∙ and_from (is_mover is.entry.actor) (is_refusal number (line_of is.entry).answer) (mover plan (take (turn - 1) journal) is.before is.entry.actor key is.row is.concerned) (refused_in_line (is_client is.entry.actor) is.entry number (Some is.place) (rightly is.entry is.is.stands) is.refused)

-- ---- tries that failed

or_first : (a b c d : Bool) → a ≡ true → (a || b || c || d) ≡ true
or_first a b c d is = rw is refl

or_third : (a b c d : Bool) → c ≡ true → (a || b || c || d) ≡ true
or_third true b c d is = refl
or_third false true c d is = refl
or_third false false c d is = rw is refl

or_fourth : (a b c d : Bool) → d ≡ true → (a || b || c || d) ≡ true
or_fourth true b c d is = refl
or_fourth false true c d is = refl
or_fourth false false true d is = refl
or_fourth false false false d is = is

lost_in_line : (client : Bool) (side : Option Side) (answer : Answer) (missed : Option Answer) → answer ≡ answers.Lost → is_loss (line_answer client side answer missed) ≡ true
lost_in_line client None answer missed is = ap (λ (a : Answer). is_loss (heard_answer client a)) is
lost_in_line client (Some Before) answer missed is = ap (λ (a : Answer). is_loss (heard_answer client a)) is
lost_in_line client (Some After) answer missed is = missed_is_loss missed

waited_in_line : (client : Bool) (entry : Entry) (polls : ℕ) → IsLostRightly entry → entry.answer ≡ answers.TimedOut polls → is_over_after polls (line_answer client entry.side entry.answer entry.missed) ≡ true
waited_in_line client entry polls rightly is =
    let none : entry.side ≡ None = was_heard entry.side entry.answer rightly.sided (λ lost. let no : answers.TimedOut polls ≡ answers.Lost = sym is ∙ lost in absurd (cc no)) in
    ap (is_over_after polls) (heard_so client entry.side entry.answer entry.missed none ∙ ap (heard_answer client) is) ∙ number_itself polls

bad_in_line : (plan : PlanData) (journal : List Entry) (turn : ℕ) (entry : Entry) (before : Moment) → IsLostRightly entry → IsBad plan journal turn entry before → may_fail_at plan (Some (line_of entry)) ≡ true
bad_in_line plan journal turn entry before rightly (inl lost) =
    or_first (is_loss (line_of entry).answer) (is_cut (line_of entry).asked) (is_over_after plan.options.tool_wait (line_of entry).answer) (is_apply entry.actor) (lost_in_line (is_client entry.actor) entry.side entry.answer entry.missed lost.lost)
bad_in_line plan journal turn entry before rightly (inr waited) =
    or_third (is_loss (line_of entry).answer) (is_cut (line_of entry).asked) (is_over_after plan.options.tool_wait (line_of entry).answer) (is_apply entry.actor) (waited_in_line (is_client entry.actor) entry plan.options.tool_wait rightly waited.over)

why_in_line : (plan : PlanData) (journal : List Entry) (task : Task) (turn : ℕ) (entry : Entry) (before : Moment) → IsLostRightly entry
    → ((is_actor_of task entry.actor ≡ true) × IsBad plan journal turn entry before) ⊎ ((task ≡ tasks.CutOver) × IsUndrained plan journal turn entry before) → may_fail_at plan (Some (line_of entry)) ≡ true
why_in_line plan journal task turn entry before rightly (inl bad) = bad_in_line plan journal turn entry before rightly bad.1
why_in_line plan journal task turn entry before rightly (inr undrained) =
    or_fourth (is_loss (line_of entry).answer) (is_cut (line_of entry).asked) (is_over_after plan.options.tool_wait (line_of entry).answer) (is_apply entry.actor) (ap is_apply undrained.1.actor)

may_fail : (plan : PlanData) (journal : List Entry) (task : Task) (turn : ℕ) → ((entry : Entry) → slice_get journal (turn - 1) ≡ Some entry → IsLostRightly entry) → IsFailedTry plan journal task turn → may_fail_at plan (line_at (lines_of journal) turn) ≡ true
may_fail plan journal task turn rightly is =
    ap (may_fail_at plan) (line_there journal turn is.entry is.is.from_one is.is.stands) ∙ why_in_line plan journal task turn is.entry is.before (rightly is.entry is.is.stands) is.why

each_in_line : (plan : PlanData) (journal : List Entry) (task : Task) (turns : List ℕ) → ((turn : ℕ) (entry : Entry) → slice_get journal (turn - 1) ≡ Some entry → IsLostRightly entry) → AllByRecursion (IsFailedTry plan journal task) turns
    → AllByRecursion (λ turn. may_fail_at plan (line_at (lines_of journal) turn) ≡ true) turns
each_in_line plan journal task [] rightly all = tt
each_in_line plan journal task (turn ∷ turns) rightly all = (may_fail plan journal task turn (rightly turn) all.0, each_in_line plan journal task turns rightly all.1)

-- *Tries that failed* are in their lines
pub tries_in_lines : (plan : PlanData) (journal : List Entry) (task : Task) (turns : List ℕ) → ((turn : ℕ) (entry : Entry) → slice_get journal (turn - 1) ≡ Some entry → IsLostRightly entry) → AllByRecursion (IsFailedTry plan journal task) turns
    → list_all (λ turn. may_fail_at plan (line_at (lines_of journal) turn)) turns ≡ true
tries_in_lines plan journal task turns rightly all = All-list_all (λ turn. may_fail_at plan (line_at (lines_of journal) turn)) turns (each_in_line plan journal task turns rightly all)
