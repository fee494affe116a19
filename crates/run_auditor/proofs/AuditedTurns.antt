-- An audit after one turn more.
use Rattle.std.proofs.Common.{◌≡◌, ℕ, zero, suc, ◌+◌, ◌-◌, ◌^◌, ◌≤◌, ◌<◌, Bool, true, false, not, ◌&&◌, ◌||◌, List, [], ◌∷◌, ◌++◌, length, get_or, take, drop, cond, Option, Some, None, refl, sym, ap, ◌∙◌, subst, append-nil, append_assoc, length-append, arith}
use Rattle.std.specs.Prelude.{unwrap_or, min, nat_lt}
use Rattle.std.specs.List.{AllByRecursion}
use Rattle.std.proofs.lemmas.List.{length-take, take_all, take_more}
use Rattle.std.proofs.lemmas.List.Sums.{fold-append}
use Rattle.base_script.specs.declared.actor.Actor.{Actor}
use Rattle.base_script.specs.declared.actor.Actor.TheVariants.{Op, Insp, Copy, Apply, Lock, Ren, Client}
use Rattle.base_script.specs.declared.script.ScriptLine.{ScriptLine}
use Rattle.server_model.specs.Along.{gathered, gathered-more}
use Rattle.server_model.specs.Entries.{is_client, same_actor}
use Rattle.plan_data.specs.PlanData.{PlanData}
use Rattle.table_store.specs.Databases.{database}
use Rattle.tool_program.specs.JournalWords.Clients.{Became, Reached, new_client, script_of, with_draw}
use Rattle.tool_program.specs.JournalWords.Histories.{client_ends}
use Rattle.run_audit.specs.declared.line.TraceLine.{TraceLine}
use Rattle.run_audit.specs.declared.trace.Trace.{Trace}
use Rattle.run_audit.specs.Audits.{Judged, Ended, Altered, bad_turns, is_unfinished, judged, judged_in, judged_of, least, least_with, misdrawn_turns, misdraws, opening_tables, reply_turn, reply_turn_in, reply_turns, straight_lines, unended, wrong_turns}
use Rattle.run_audit.specs.Rules.{all_are_over, alters_in, became_by, breaks, broken_turns, client_after_line, client_reached, client_step, has_altered, is_astray, is_within, keeps_losses, next_turn, turn_if, was_lost}
use Rattle.std.specs.Prelude.{Vec, Result, IfOk, OnOk}
use Rattle.std.specs.Global.{Global}
use Rattle.run_auditor.specs.declared.auditing.Auditing.{Auditing}
use Rattle.run_auditor.specs.declared.judge.Judge.{Judge}
use Rattle.run_judge.specs.declared.trace_client.TraceClient.{TraceClient}
use Rattle.run_judge.specs.declared.trace_client.RepliedTxn.{RepliedTxn}
use Rattle.run_auditor.specs.Auditing.{HasJudged, IsAuditing, IsReady, is_noted, is_unended, noted_turns}
use Rattle.run_auditor.specs.Judging.{AltersTables, IsJudging, IsPlanned, IsSound}
use Rattle.run_judge.specs.TurnsSeen.{IsSeen}
use Rattle.run_judge.specs.Leasts.{lesser}
use Rattle.run_auditor.specs.AllClients.{AreFollowed, IsFollowedIn, is_of_plan}
use Rattle.run_judge.specs.TraceClients.{AreJudged, IsFollowed}
use Rattle.run_auditor.proofs.EachClient.{each_count, each_goes}
use Rattle.run_judge.proofs.LeastTurns.{least-append, least-nil, least_more, lesser-group, lesser-swap}
use Rattle.run_judge.proofs.SeenTurns.{altered_more}

-- ---- clients

pub reached_more : (plan : PlanData) (before : List TraceLine) (line : TraceLine) (number : ℕ) → client_reached plan (before ++ line ∷ []) number ≡ client_step number (client_reached plan before number) line
unfolding client_reached
reached_more plan before line number = fold-append (client_step number) (new_client (unwrap_or (script_of number plan) [])) before (line ∷ [])

pub turns_more : (plan : PlanData) (before : List TraceLine) (line : TraceLine) (number : ℕ) → reply_turns plan (before ++ line ∷ []) number ≡ reply_turns plan before number ++ reply_turn_in plan number before line
unfolding reply_turns
turns_more plan before line number = gathered-more (reply_turn_in plan number) [] before line

abbrev stepped : Bool → Bool → Reached → TraceLine → Reached
stepped own lost client line = cond own (cond lost client (client_after_line (became_by client line) (with_draw line.drawn client))) client

abbrev replied : Bool → Bool → ℕ → Became → List ℕ
replied own lost turn became = cond (own && not lost) (reply_turn turn became) []

abbrev followed_so : List ScriptLine → TraceClient → Reached → List ℕ → ℕ → TraceLine → Bool → Bool → Type 0
followed_so script kept client turns turn line own lost = IsFollowed script kept (stepped own lost client line) (turns ++ replied own lost turn (became_by client line))

followed_more : (plan : PlanData) (before : List TraceLine) (line : TraceLine) (number : ℕ) (script : List ScriptLine) (kept : TraceClient) (own lost : Bool) → same_actor line.actor (Client number) ≡ own → (client_reached plan before number).is_lost ≡ lost
    → followed_so script kept (client_reached plan before number) (reply_turns plan before number) (next_turn before) line own lost → IsFollowedIn plan (before ++ line ∷ []) number script kept
followed_more plan before line number script kept own lost is was followed =
    subst (λ (client : Reached). IsFollowed script kept client (reply_turns plan (before ++ line ∷ []) number)) (sym (reached_more plan before line number))
    (subst (IsFollowed script kept (client_step number (client_reached plan before number) line)) (sym (turns_more plan before line number))
    (subst (λ (b : Bool). followed_so script kept (client_reached plan before number) (reply_turns plan before number) (next_turn before) line b (client_reached plan before number).is_lost) (sym is)
    (subst (λ (b : Bool). followed_so script kept (client_reached plan before number) (reply_turns plan before number) (next_turn before) line own b) (sym was) followed)))

none_more : (script : List ScriptLine) (kept : TraceClient) (client : Reached) (turns : List ℕ) → IsFollowed script kept client turns → IsFollowed script kept client (turns ++ [])
none_more script kept client turns followed = subst (IsFollowed script kept client) (sym (append-nil turns)) followed

-- another's turn
pub other_followed : (plan : PlanData) (before : List TraceLine) (line : TraceLine) (number : ℕ) (script : List ScriptLine) (kept : TraceClient) → same_actor line.actor (Client number) ≡ false → IsFollowedIn plan before number script kept → IsFollowedIn plan (before ++ line ∷ []) number script kept
other_followed plan before line number script kept other followed =
    followed_more plan before line number script kept false (client_reached plan before number).is_lost other refl (none_more script kept (client_reached plan before number) (reply_turns plan before number) followed)

-- a turn of one that was lost
pub lost_followed : (plan : PlanData) (before : List TraceLine) (line : TraceLine) (number : ℕ) (script : List ScriptLine) (kept : TraceClient) → (client_reached plan before number).is_lost ≡ true → IsFollowedIn plan before number script kept → IsFollowedIn plan (before ++ line ∷ []) number script kept
lost_followed plan before line number script kept lost followed = by (same_actor line.actor (Client number)) refl where
  by : (own : Bool) → same_actor line.actor (Client number) ≡ own → IsFollowedIn plan (before ++ line ∷ []) number script kept
  by true own = followed_more plan before line number script kept true true own lost (none_more script kept (client_reached plan before number) (reply_turns plan before number) followed)
  by false own = followed_more plan before line number script kept false true own lost (none_more script kept (client_reached plan before number) (reply_turns plan before number) followed)

-- its own
pub own_followed : (plan : PlanData) (before : List TraceLine) (line : TraceLine) (number : ℕ) (script : List ScriptLine) (kept : TraceClient) → same_actor line.actor (Client number) ≡ true → (client_reached plan before number).is_lost ≡ false
    → IsFollowed script kept (client_after_line (became_by (client_reached plan before number) line) (with_draw line.drawn (client_reached plan before number))) (reply_turns plan before number ++ reply_turn (next_turn before) (became_by (client_reached plan before number) line))
    → IsFollowedIn plan (before ++ line ∷ []) number script kept
own_followed plan before line number script kept own lives followed = followed_more plan before line number script kept true false own lives followed

-- a turn of the tool's
no_client : (actor : Actor) (number : ℕ) → is_client actor ≡ false → same_actor actor (Client number) ≡ false
no_client Op number is = refl
no_client Insp number is = refl
no_client Copy number is = refl
no_client Apply number is = refl
no_client Lock number is = refl
no_client Ren number is = refl
no_client (Client other) number is = absurd (cc)

pub tool_followed : (plan : PlanData) (before : List TraceLine) (line : TraceLine) (clients : List TraceClient) → is_client line.actor ≡ false → AreFollowed plan before clients → AreFollowed plan (before ++ line ∷ []) clients
tool_followed plan before line clients tool followed =
    each_goes (IsFollowedIn plan before) (IsFollowedIn plan (before ++ line ∷ [])) 1 plan.clients clients (λ number script kept less is. other_followed plan before line number script kept (no_client line.actor number tool) is) followed

-- ---- what its turn ends

abbrev judged_if : PlanData → List TraceLine → TraceLine → ℕ → Bool → List Judged
judged_if plan before line number lost =
    cond lost [] (judged_of (reply_turns plan (before ++ line ∷ []) number) (client_ends number (with_draw line.drawn (client_reached plan before number)) (became_by (client_reached plan before number) line)))

pub lost_judged : (plan : PlanData) (before : List TraceLine) (line : TraceLine) (number : ℕ) → (client_reached plan before number).is_lost ≡ true → AreJudged (judged_in plan before line (Client number)) None
lost_judged plan before line number lost = subst (λ (b : Bool). AreJudged (judged_if plan before line number b) None) (sym lost) tt

abbrev turns_if : List ℕ → List ℕ → Bool → List ℕ
turns_if turns more own = turns ++ cond own more []

pub own_judged : (plan : PlanData) (before : List TraceLine) (line : TraceLine) (number : ℕ) → same_actor line.actor (Client number) ≡ true → (client_reached plan before number).is_lost ≡ false
    → judged_of (reply_turns plan before number ++ reply_turn (next_turn before) (became_by (client_reached plan before number) line)) (client_ends number (with_draw line.drawn (client_reached plan before number)) (became_by (client_reached plan before number) line)) ≡ judged_in plan before line (Client number)
own_judged plan before line number own lives =
    let client : Reached = client_reached plan before number in
    let own_too : (same_actor line.actor (Client number) && not client.is_lost) ≡ true = ap (λ (b : Bool). b && not client.is_lost) own ∙ ap not lives in
    let all : reply_turns plan (before ++ line ∷ []) number ≡ reply_turns plan before number ++ reply_turn (next_turn before) (became_by client line) =
    turns_more plan before line number ∙ ap (turns_if (reply_turns plan before number) (reply_turn (next_turn before) (became_by client line))) own_too in
    sym (ap (judged_if plan before line number) lives ∙ ap (λ (turns : List ℕ). judged_of turns (client_ends number (with_draw line.drawn client) (became_by client line))) all)

-- ---- the lines that are judged

straight_first : (plan : PlanData) (before lines rest : List TraceLine) (line : TraceLine) (b : Bool) → cond b [] (line ∷ rest) ≡ line ∷ lines → (b ≡ false) × (rest ≡ lines)
straight_first plan before lines rest line true is = absurd (cc)
straight_first plan before lines rest line false is = let same : rest ≡ lines = cc in (refl, same)

pub straight_more : (plan : PlanData) (front before later : List TraceLine) (line : TraceLine) → straight_lines plan front before ≡ before
    → straight_lines plan front (before ++ line ∷ later) ≡ before ++ cond (is_astray plan (front ++ before) line.asked line.actor) [] (line ∷ straight_lines plan (front ++ before ++ line ∷ []) later)
unfolding straight_lines
straight_more plan front [] later line straight =
    ap (λ (all : List TraceLine). cond (is_astray plan all line.asked line.actor) [] (line ∷ straight_lines plan (all ++ line ∷ []) later)) (sym (append-nil front))
straight_more plan front (first ∷ before) later line straight =
    let parts = straight_first plan front before (straight_lines plan (front ++ first ∷ []) before) first (is_astray plan front first.asked first.actor) straight in
    ap (λ (b : Bool). cond b [] (first ∷ straight_lines plan (front ++ first ∷ []) (before ++ line ∷ later))) parts.0
    ∙ ap (λ (rest : List TraceLine). first ∷ rest) (straight_more plan (front ++ first ∷ []) before later line parts.1)
    ∙ ap (λ (all : List TraceLine). (first ∷ before) ++ cond (is_astray plan all line.asked line.actor) [] (line ∷ straight_lines plan (all ++ line ∷ []) later)) (append_assoc front (first ∷ []) before)

straight_none : (plan : PlanData) (front : List TraceLine) → straight_lines plan front [] ≡ []
unfolding straight_lines
straight_none plan front = refl

-- one line more is straight
pub straight_next : (plan : PlanData) (before : List TraceLine) (line : TraceLine) → straight_lines plan [] before ≡ before → is_astray plan before line.asked line.actor ≡ false → straight_lines plan [] (before ++ line ∷ []) ≡ before ++ line ∷ []
straight_next plan before line straight goes =
    straight_more plan [] before [] line straight ∙ ap (λ (b : Bool). before ++ cond b [] (line ∷ straight_lines plan (before ++ line ∷ []) [])) goes ∙ ap (λ (rest : List TraceLine). before ++ line ∷ rest) (straight_none plan (before ++ line ∷ []))

-- ... and what it ends is judged after the others
pub judged_next : (plan : PlanData) (before : List TraceLine) (line : TraceLine) → straight_lines plan [] before ≡ before → is_astray plan before line.asked line.actor ≡ false → judged plan (before ++ line ∷ []) ≡ judged plan before ++ judged_in plan before line line.actor
unfolding judged
judged_next plan before line straight goes =
    ap (gathered (λ some one. judged_in plan some one one.actor) []) (straight_next plan before line straight goes) ∙ gathered-more (λ some one. judged_in plan some one one.actor) [] before line
    ∙ ap (λ (all : List TraceLine). gathered (λ some one. judged_in plan some one one.actor) [] all ++ judged_in plan before line line.actor) (sym straight)

-- from one that is astray on nothing is judged
pub judged_stops : (plan : PlanData) (before later : List TraceLine) (line : TraceLine) → straight_lines plan [] before ≡ before → is_astray plan before line.asked line.actor ≡ true → judged plan (before ++ line ∷ later) ≡ judged plan before
unfolding judged
judged_stops plan before later line straight stops =
    ap (gathered (λ some one. judged_in plan some one one.actor) [])
    (straight_more plan [] before later line straight ∙ ap (λ (b : Bool). before ++ cond b [] (line ∷ straight_lines plan (before ++ line ∷ []) later)) stops ∙ append-nil before ∙ sym straight)

pub none_judged_yet : (plan : PlanData) → judged plan [] ≡ []
unfolding judged straight_lines
none_judged_yet plan = refl

pub none_straight : (plan : PlanData) → straight_lines plan [] [] ≡ []
none_straight plan = straight_none plan []

-- ---- turns that are noted

noted_more : (plan : PlanData) (before : List TraceLine) (line : TraceLine) → noted_turns plan (before ++ line ∷ []) ≡ noted_turns plan before ++ turn_if (is_noted plan before line) before
unfolding noted_turns
noted_more plan before line = gathered-more (λ some one. turn_if (is_noted plan some one) some) [] before line

pub none_noted : (plan : PlanData) → least (noted_turns plan []) ≡ None
unfolding noted_turns
none_noted plan = least-nil

noted_by : (plan : PlanData) (before : List TraceLine) (line : TraceLine) (b : Bool) → is_noted plan before line ≡ b → cond b (least_with (next_turn before) (least (noted_turns plan before))) (least (noted_turns plan before)) ≡ least (noted_turns plan (before ++ line ∷ []))
noted_by plan before line true is =
    sym (ap least (noted_more plan before line) ∙ ap (λ (b : Bool). least (noted_turns plan before ++ turn_if b before)) is ∙ least_more (noted_turns plan before) (next_turn before))
noted_by plan before line false is =
    sym (ap least (noted_more plan before line) ∙ ap (λ (b : Bool). least (noted_turns plan before ++ turn_if b before)) is ∙ ap least (append-nil (noted_turns plan before)))

-- one turn more
pub noted_after : (plan : PlanData) (before : List TraceLine) (line : TraceLine) (b : Bool) (turn : ℕ) (old now : Option ℕ) → b ≡ is_noted plan before line → turn ≡ next_turn before → old ≡ least (noted_turns plan before) → now ≡ cond b (least_with turn old) old
    → now ≡ least (noted_turns plan (before ++ line ∷ []))
noted_after plan before line b turn old now is number so_far noted =
    noted ∙ ap (λ (n : ℕ). cond b (least_with n old) old) number ∙ ap (λ (o : Option ℕ). cond b (least_with (next_turn before) o) o) so_far ∙ noted_by plan before line b (sym is)

-- ---- two kinds of turns together

both_if : (a b : Bool) (before : List TraceLine) → least (turn_if (a || b) before) ≡ lesser (least (turn_if a before)) (least (turn_if b before))
unfolding least
both_if true true before = ap (λ (n : ℕ). Some n) (min_same (next_turn before)) where
  min_same : (n : ℕ) → n ≡ min n n
  min_same n = omega arith
both_if true false before = refl
both_if false true before = refl
both_if false false before = refl

lesser_pairs : (a b c d : Option ℕ) → lesser (lesser a b) (lesser c d) ≡ lesser (lesser a c) (lesser b d)
lesser_pairs a b c d =
    lesser-group a b (lesser c d) ∙ ap (lesser a) (sym (lesser-group b c d) ∙ ap (λ (x : Option ℕ). lesser x d) (lesser-swap b c) ∙ lesser-group c b d) ∙ sym (lesser-group a c (lesser b d))

abbrev turns_where : (List TraceLine → TraceLine → Bool) → List TraceLine → List TraceLine → List ℕ
turns_where test before lines = gathered (λ some one. turn_if (test some one) some) before lines

both_where : (test other : List TraceLine → TraceLine → Bool) (before lines : List TraceLine) → least (turns_where (λ some one. test some one || other some one) before lines) ≡ lesser (least (turns_where test before lines)) (least (turns_where other before lines))
both_where test other before [] = least-nil ∙ sym (ap (λ (x : Option ℕ). lesser x (least [])) least-nil ∙ least-nil)
both_where test other before (line ∷ lines) =
    let here : Bool = test before line in
    let there : Bool = other before line in
    let rest : List TraceLine = before ++ line ∷ [] in
    least-append (turn_if (here || there) before) (turns_where (λ some one. test some one || other some one) rest lines)
    ∙ ap (λ (x : Option ℕ). lesser x (least (turns_where (λ some one. test some one || other some one) rest lines))) (both_if here there before)
    ∙ ap (lesser (lesser (least (turn_if here before)) (least (turn_if there before)))) (both_where test other rest lines)
    ∙ lesser_pairs (least (turn_if here before)) (least (turn_if there before)) (least (turns_where test rest lines)) (least (turns_where other rest lines))
    ∙ ap (λ (x : Option ℕ). lesser x (lesser (least (turn_if there before)) (least (turns_where other rest lines)))) (sym (least-append (turn_if here before) (turns_where test rest lines)))
    ∙ ap (lesser (least (turn_if here before ++ turns_where test rest lines))) (sym (least-append (turn_if there before) (turns_where other rest lines)))

-- what is noted is broken or misdrawn
noted_is : (plan : PlanData) (lines : List TraceLine) → least (noted_turns plan lines) ≡ lesser (least (broken_turns plan lines)) (least (misdrawn_turns plan lines))
unfolding noted_turns broken_turns misdrawn_turns
noted_is plan lines = both_where (breaks plan) (misdraws plan) [] lines

-- ---- the least of all

min_first : (a b : ℕ) → a ≤ b → min a b ≡ a
min_first a b less = omega (arith, less)

low_with : (turn other : ℕ) (rest : Option ℕ) → turn ≤ other → lesser (Some turn) rest ≡ Some turn → lesser (Some turn) (least_with other rest) ≡ Some turn
low_with turn other None less is = ap (λ (n : ℕ). Some n) (min_first turn other less)
low_with turn other (Some more) less is =
    let low : min turn more ≡ turn = cc in
    ap (λ (n : ℕ). Some n) (min_both turn other more less low)
  where
    min_both : (a b c : ℕ) → a ≤ b → min a c ≡ a → min a (min b c) ≡ a
    min_both a b c less low = omega (arith, less, low)

low_from : (turn : ℕ) (turns : List ℕ) → AllByRecursion (λ other. turn ≤ other) turns → lesser (Some turn) (least turns) ≡ Some turn
unfolding least
low_from turn [] all = refl
low_from turn (other ∷ turns) all = low_with turn other (least turns) all.0 (low_from turn turns all.1)

low_still : (first : Option ℕ) (turn : ℕ) (turns : List ℕ) → lesser first (Some turn) ≡ first → AllByRecursion (λ other. turn ≤ other) turns → lesser first (least turns) ≡ first
low_still first turn turns low all = ap (λ (f : Option ℕ). lesser f (least turns)) (sym low) ∙ lesser-group first (Some turn) (least turns) ∙ ap (lesser first) (low_from turn turns all) ∙ low

from_if : (b : Bool) (turn : ℕ) (before : List TraceLine) → turn ≤ next_turn before → AllByRecursion (λ other. turn ≤ other) (turn_if b before)
from_if true turn before less = (less, tt)
from_if false turn before less = tt

from_both : (turn : ℕ) (xs ys : List ℕ) → AllByRecursion (λ other. turn ≤ other) xs → AllByRecursion (λ other. turn ≤ other) ys → AllByRecursion (λ other. turn ≤ other) (xs ++ ys)
from_both turn [] ys some more = more
from_both turn (x ∷ xs) ys some more = (some.0, from_both turn xs ys some.1 more)

-- the turns that break a rule from a line on
later_from : (test : List TraceLine → TraceLine → Bool) (turn : ℕ) (before lines : List TraceLine) → turn ≤ next_turn before → AllByRecursion (λ other. turn ≤ other) (gathered (λ some one. turn_if (test some one) some) before lines)
later_from test turn before [] less = tt
later_from test turn before (line ∷ lines) less =
    let more : length (before ++ line ∷ []) ≡ length before + 1 = length-append before (line ∷ []) in
    from_both turn (turn_if (test before line) before) (gathered (λ some one. turn_if (test some one) some) (before ++ line ∷ []) lines) (from_if (test before line) turn before less) (later_from test turn (before ++ line ∷ []) lines (omega (arith, more, less)))

gathered_both : {A : Type 0} (add : List TraceLine → TraceLine → List A) (front before later : List TraceLine) → gathered add front (before ++ later) ≡ gathered add front before ++ gathered add (front ++ before) later
gathered_both add front [] later = ap (λ (all : List TraceLine). gathered add all later) (sym (append-nil front))
gathered_both add front (line ∷ before) later =
    ap (λ rest. add front line ++ rest) (gathered_both add (front ++ line ∷ []) before later) ∙ sym (append_assoc (add front line) (gathered add (front ++ line ∷ []) before) (gathered add (front ++ line ∷ [] ++ before) later))
    ∙ ap (λ (all : List TraceLine). (add front line ++ gathered add (front ++ line ∷ []) before) ++ gathered add all later) (append_assoc front (line ∷ []) before)

noted_both : (plan : PlanData) (before later : List TraceLine) → noted_turns plan (before ++ later) ≡ noted_turns plan before ++ turns_where (is_noted plan) before later
unfolding noted_turns
noted_both plan before later = gathered_both (λ some one. turn_if (is_noted plan some one) some) [] before later

unended_by : (unfinished past over : Bool) (turn : ℕ) (lines : List TraceLine) → turn ≤ next_turn lines → AllByRecursion (λ other. turn ≤ other) (cond (not unfinished && not past && not over) (next_turn lines ∷ []) [])
unended_by true past over turn lines less = tt
unended_by false true over turn lines less = tt
unended_by false false true turn lines less = tt
unended_by false false false turn lines less = (less, tt)

turn_least : (b : Bool) (turn : ℕ) → cond b (Some turn) None ≡ least (cond b (turn ∷ []) [])
unfolding least
turn_least true turn = refl
turn_least false turn = refl

-- the turn after the last, where the run ended and left a script that wasn't gone through
pub unended_if : (plan : PlanData) (trace : Trace) (b : Bool) (turn : ℕ) (result : Option ℕ) → b ≡ is_unended plan trace → turn ≡ next_turn trace.lines → result ≡ cond b (Some turn) None → result ≡ least (unended plan trace)
unended_if plan trace b turn result is number so =
    so ∙ ap (λ (n : ℕ). cond b (Some n) None) number ∙ turn_least b (next_turn trace.lines) ∙ ap (λ (x : Bool). least (cond x (next_turn trace.lines ∷ []) [])) is

unended_from : (plan : PlanData) (trace : Trace) (turn : ℕ) → turn ≤ next_turn trace.lines → AllByRecursion (λ other. turn ≤ other) (unended plan trace)
unended_from plan trace turn less = unended_by (is_unfinished trace.verdict) (nat_lt plan.options.turn_limit (length trace.lines)) (all_are_over plan trace.lines 1 plan.clients) turn trace.lines less

not_kept : (lost astray : Bool) (rest more last : Bool) → astray ≡ true → (not (not (lost || astray)) || rest || more || last) ≡ true
not_kept true astray rest more last is = refl
not_kept false astray rest more last is = rw is refl

-- a line that is astray breaks a rule
pub astray_noted : (plan : PlanData) (before : List TraceLine) (line : TraceLine) → is_astray plan before line.asked line.actor ≡ true → is_noted plan before line ≡ true
astray_noted plan before line astray =
    not_kept (was_lost plan before line.actor) (is_astray plan before line.asked line.actor) (is_within plan before && not (keeps_losses plan before line)) (alters_in before line && has_altered before) (misdraws plan before line) astray

with_itself : (turn : ℕ) (rest : Option ℕ) → lesser (least_with turn rest) (Some turn) ≡ least_with turn rest
with_itself turn None = ap (λ (n : ℕ). Some n) (min_one turn) where
  min_one : (a : ℕ) → min a a ≡ a
  min_one a = omega arith
with_itself turn (Some other) = ap (λ (n : ℕ). Some n) (min_more turn other) where
  min_more : (a b : ℕ) → min (min a b) a ≡ min a b
  min_more a b = omega arith

-- the least bad turn, by those that are noted
bad_is : (plan : PlanData) (trace : Trace)
    → least (bad_turns plan trace) ≡ lesser (lesser (least (noted_turns plan trace.lines)) (least (wrong_turns plan (opening_tables plan) (judged plan trace.lines)))) (least (unended plan trace))
bad_is plan trace =
    let broken : List ℕ = broken_turns plan trace.lines in
    let wrong : List ℕ = wrong_turns plan (opening_tables plan) (judged plan trace.lines) in
    let misdrawn : List ℕ = misdrawn_turns plan trace.lines in
    least-append (broken ++ wrong ++ misdrawn) (unended plan trace)
    ∙ ap (λ (x : Option ℕ). lesser x (least (unended plan trace))) (least-append (broken ++ wrong) misdrawn)
    ∙ ap (λ (x : Option ℕ). lesser (lesser x (least misdrawn)) (least (unended plan trace))) (least-append broken wrong)
    ∙ ap (λ (x : Option ℕ). lesser x (least (unended plan trace))) (lesser_middle (least broken) (least wrong) (least misdrawn))
    ∙ ap (λ (x : Option ℕ). lesser (lesser x (least wrong)) (least (unended plan trace))) (sym (noted_is plan trace.lines))
  where
    lesser_middle : (a b c : Option ℕ) → lesser (lesser a b) c ≡ lesser (lesser a c) b
    lesser_middle a b c = lesser-group a b c ∙ ap (lesser a) (lesser-swap b c) ∙ sym (lesser-group a c b)

least_alone : (b l w u : Option ℕ) → lesser b l ≡ b → lesser b u ≡ b → lesser (lesser (lesser b l) w) u ≡ lesser b w
least_alone b l w u first last =
    ap (λ (x : Option ℕ). lesser (lesser x w) u) first ∙ lesser-group b w u ∙ ap (lesser b) (lesser-swap w u) ∙ sym (lesser-group b u w) ∙ ap (λ (x : Option ℕ). lesser x w) last

-- *The least bad turn*, where a line is astray
pub astray_least : (plan : PlanData) (trace : Trace) (before later : List TraceLine) (line : TraceLine) → trace.lines ≡ before ++ line ∷ later → straight_lines plan [] before ≡ before → is_astray plan before line.asked line.actor ≡ true
    → least (bad_turns plan trace) ≡ lesser (least (noted_turns plan (before ++ line ∷ []))) (least (wrong_turns plan (opening_tables plan) (judged plan before)))
astray_least plan trace before later line lines straight astray =
    let noted_here : Option ℕ = least (noted_turns plan (before ++ line ∷ [])) in
    let wrong : List ℕ = wrong_turns plan (opening_tables plan) (judged plan trace.lines) in
    let others : List ℕ = turns_where (is_noted plan) (before ++ line ∷ []) later in
    let low : lesser noted_here (Some (next_turn before)) ≡ noted_here =
    (let its : noted_here ≡ least_with (next_turn before) (least (noted_turns plan before)) = sym (noted_by plan before line true (astray_noted plan before line astray)) in
    ap (λ (f : Option ℕ). lesser f (Some (next_turn before))) its ∙ with_itself (next_turn before) (least (noted_turns plan before)) ∙ sym its) in
    let more : length (before ++ line ∷ []) ≡ length before + 1 = length-append before (line ∷ []) in
    let all : length (before ++ line ∷ later) ≡ length before + suc (length later) = length-append before (line ∷ later) in
    let total : length trace.lines ≡ length (before ++ line ∷ later) = ap (λ (ls : List TraceLine). length ls) lines in
    let split : before ++ line ∷ later ≡ (before ++ line ∷ []) ++ later = sym (append_assoc before (line ∷ []) later) in
    let first : noted_turns plan trace.lines ≡ noted_turns plan (before ++ line ∷ []) ++ others = ap (noted_turns plan) (lines ∙ split) ∙ noted_both plan (before ++ line ∷ []) later in
    let same : judged plan trace.lines ≡ judged plan before = ap (judged plan) lines ∙ judged_stops plan before later line straight astray in
    bad_is plan trace
    ∙ ap (λ (turns : List ℕ). lesser (lesser (least turns) (least wrong)) (least (unended plan trace))) first
    ∙ ap (λ (x : Option ℕ). lesser (lesser x (least wrong)) (least (unended plan trace))) (least-append (noted_turns plan (before ++ line ∷ [])) others)
    ∙ least_alone noted_here (least others) (least wrong) (least (unended plan trace))
    (low_still noted_here (next_turn before) others low (later_from (is_noted plan) (next_turn before) (before ++ line ∷ []) later (omega (arith, more))))
    (low_still noted_here (next_turn before) (unended plan trace) low (unended_from plan trace (next_turn before) (omega (arith, total, all))))
    ∙ ap (λ (items : List Judged). lesser noted_here (least (wrong_turns plan (opening_tables plan) items))) same

-- ---- after one turn more

pub taken : (plan : PlanData) (before : List TraceLine) (line : TraceLine) (old between now : Auditing) → IsAuditing plan before old → is_astray plan before line.asked line.actor ≡ false → HasJudged plan before line between → between.seen ≡ old.seen
    → (IsSeen before between.seen → IsSeen (before ++ line ∷ []) now.seen) → now.clients ≡ between.clients → now.judge ≡ between.judge → IsAuditing plan (before ++ line ∷ []) now
taken plan before line old between now is goes has same_seen sees same_clients same_judge = record {
  seen = sees (subst (IsSeen before) (sym same_seen) is.seen);
  clients = subst (λ (clients : Vec TraceClient Global). AreFollowed plan (before ++ line ∷ []) clients.items) (sym same_clients) has.clients;
  judge = subst (IsJudging plan (judged plan (before ++ line ∷ []))) (sym same_judge) (subst (λ (items : List Judged). IsJudging plan items between.judge) (sym (judged_next plan before line is.straight goes)) has.judge);
  sound = subst IsSound (sym same_judge) has.sound;
  planned = λ none. subst (λ (judge : Judge). IsPlanned plan (database judge.storage.tables)) (sym same_judge) (has.planned none);
  straight = straight_next plan before line is.straight goes;
}

-- ---- what a turn ended was judged

none_altered : (before : List TraceLine) (line : TraceLine) → has_altered (before ++ line ∷ []) ≡ false → (has_altered before ≡ false) × (alters_in before line ≡ false)
none_altered before line none = or_parts (has_altered before) (alters_in before line) (sym (altered_more before line) ∙ none) where
  or_parts : (a b : Bool) → (a || b) ≡ false → (a ≡ false) × (b ≡ false)
  or_parts true b is = absurd (cc)
  or_parts false b is = (refl, is)

judged_tool : (plan : PlanData) (before : List TraceLine) (line : TraceLine) (actor : Actor) → is_client actor ≡ false → judged_in plan before line actor ≡ cond (alters_in before line && not (has_altered before)) (Altered (next_turn before) ∷ []) []
judged_tool plan before line Op tool = refl
judged_tool plan before line Insp tool = refl
judged_tool plan before line Copy tool = refl
judged_tool plan before line Apply tool = refl
judged_tool plan before line Lock tool = refl
judged_tool plan before line Ren tool = refl
judged_tool plan before line (Client number) tool = absurd (cc)

none_ends : (plan : PlanData) (items more : List Judged) (judge : Judge) → more ≡ [] → IsJudging plan items judge → IsJudging plan (items ++ more) judge
none_ends plan items more judge none is = subst (λ (all : List Judged). IsJudging plan all judge) (sym (ap (λ (m : List Judged). items ++ m) none ∙ append-nil items)) is

-- a turn of the tool's that isn't the ALTER's
pub tool_rests : (plan : PlanData) (before : List TraceLine) (line : TraceLine) (old now : Auditing) → now ≡ old → IsAuditing plan before old → is_client line.actor ≡ false → (alters_in before line && not (has_altered before)) ≡ false → HasJudged plan before line now
tool_rests plan before line old now same is tool rests = subst (HasJudged plan before line) (sym same) (record {
  clients = tool_followed plan before line old.clients.items tool is.clients;
  judge = none_ends plan (judged plan before) (judged_in plan before line line.actor) old.judge (judged_tool plan before line line.actor tool ∙ ap (λ (b : Bool). cond b (Altered (next_turn before) ∷ []) []) rests) is.judge;
  sound = is.sound;
  planned = λ none. is.planned (none_altered before line none).0;
})

-- the ALTER
pub tool_alters : (plan : PlanData) (before : List TraceLine) (line : TraceLine) (turn : ℕ) (old now : Auditing) → now.clients ≡ old.clients → IsAuditing plan before old → is_client line.actor ≡ false → (alters_in before line && not (has_altered before)) ≡ true → turn ≡ next_turn before
    → ((items : List Judged) → IsJudging plan items old.judge → IsJudging plan (items ++ Altered turn ∷ []) now.judge) → IsSound now.judge → HasJudged plan before line now
tool_alters plan before line turn old now same is tool alters number judging sound = record {
  clients = subst (λ (clients : Vec TraceClient Global). AreFollowed plan (before ++ line ∷ []) clients.items) (sym same) (tool_followed plan before line old.clients.items tool is.clients);
  judge =
      subst (λ (more : List Judged). IsJudging plan (judged plan before ++ more) now.judge)
      (ap (λ (n : ℕ). Altered n ∷ []) number ∙ sym (judged_tool plan before line line.actor tool ∙ ap (λ (b : Bool). cond b (Altered (next_turn before) ∷ []) []) alters)) (judging (judged plan before) is.judge);
  sound = sound;
  planned = λ none. absurd (and_first (alters_in before line) (not (has_altered before)) alters (none_altered before line none).1);
} where
  and_first : (a b : Bool) → (a && b) ≡ true → a ≡ false → ⊥
  and_first true b both first = cc
  and_first false b both first = cc

-- a client's turn that ended a transaction
pub client_ended : (plan : PlanData) (before : List TraceLine) (line : TraceLine) (number : ℕ) (txn : RepliedTxn) (old now : Auditing) → IsAuditing plan before old → line.actor ≡ Client number → AreFollowed plan (before ++ line ∷ []) now.clients.items → AreJudged (judged_in plan before line (Client number)) (Some txn)
    → ((some : PlanData) (items more : List Judged) → IsJudging some items old.judge → AreJudged more (Some txn) → IsJudging some (items ++ more) now.judge) → IsSound now.judge
    → ((some : PlanData) → IsPlanned some (database old.judge.storage.tables) → IsPlanned some (database now.judge.storage.tables)) → HasJudged plan before line now
client_ended plan before line number txn old now is actor followed ends judging sound planned = record {
  clients = followed;
  judge = subst (λ (a : Actor). IsJudging plan (judged plan before ++ judged_in plan before line a) now.judge) (sym actor) (judging plan (judged plan before) (judged_in plan before line (Client number)) is.judge ends);
  sound = sound;
  planned = λ none. planned plan (is.planned (none_altered before line none).0);
}

no_items : (items : List Judged) → AreJudged items None → items ≡ []
no_items [] none = refl
no_items (Ended past turns ∷ []) none = absurd none
no_items (Ended past turns ∷ (other ∷ items)) none = absurd none
no_items (Altered turn ∷ items) none = absurd none

-- ... or that didn't
pub client_goes : (plan : PlanData) (before : List TraceLine) (line : TraceLine) (number : ℕ) (old now : Auditing) → IsAuditing plan before old → line.actor ≡ Client number → AreFollowed plan (before ++ line ∷ []) now.clients.items → AreJudged (judged_in plan before line (Client number)) None → now.judge ≡ old.judge
    → HasJudged plan before line now
client_goes plan before line number old now is actor followed ends same = record {
  clients = followed;
  judge = subst (λ (judge : Judge). IsJudging plan (judged plan before ++ judged_in plan before line line.actor) judge) (sym same) (none_ends plan (judged plan before) (judged_in plan before line line.actor) old.judge (ap (judged_in plan before line) actor ∙ no_items (judged_in plan before line (Client number)) ends) is.judge);
  sound = subst IsSound (sym same) is.sound;
  planned = λ none. subst (λ (judge : Judge). IsPlanned plan (database judge.storage.tables)) (sym same) (is.planned (none_altered before line none).0);
}

-- ---- before the first turn

pub begins_auditing : (plan : PlanData) (auditing : Auditing) → IsSeen [] auditing.seen → AreFollowed plan [] auditing.clients.items → IsJudging plan [] auditing.judge → IsSound auditing.judge → IsPlanned plan (database auditing.judge.storage.tables) → IsAuditing plan [] auditing
begins_auditing plan auditing seen clients judge sound planned = record {
  seen = seen;
  clients = clients;
  judge = subst (λ (items : List Judged). IsJudging plan items auditing.judge) (sym (none_judged_yet plan)) judge;
  sound = sound;
  planned = λ none. planned;
  straight = none_straight plan;
}

-- ---- the loop

-- a note changes nothing else
pub noted_auditing : (plan : PlanData) (before : List TraceLine) (old now : Auditing) → now ≡ record old { noted = now.noted } → IsAuditing plan before old → IsAuditing plan before now
noted_auditing plan before old now same is = subst (IsAuditing plan before) (sym same) (record {
  seen = is.seen;
  clients = is.clients;
  judge = is.judge;
  sound = is.sound;
  planned = is.planned;
  straight = is.straight;
})

take_one : (lines : List TraceLine) (i : ℕ) (line : TraceLine) → i < length lines → line ≡ get_or lines i line → take (i + 1) lines ≡ take i lines ++ line ∷ []
take_one lines i line within is = take_more lines i line within ∙ ap (λ (one : TraceLine). take i lines ++ one ∷ []) (sym is)

known_at : (plan : PlanData) (lines : List TraceLine) (i : ℕ) (line : TraceLine) → AllByRecursion (λ one. is_of_plan plan one.actor ≡ true) lines → i < length lines → line ≡ get_or lines i line → is_of_plan plan line.actor ≡ true
known_at plan [] i line all within is = absurd (omega (arith, within))
known_at plan (first ∷ lines) zero line all within is = subst (λ (one : TraceLine). is_of_plan plan one.actor ≡ true) (sym is) all.0
known_at plan (first ∷ lines) (suc i) line all within is = known_at plan lines i line all.1 (omega (arith, within)) is

-- what the next turn asks
pub ready_at : (plan : PlanData) (lines : List TraceLine) (i : ℕ) (line : TraceLine) (auditing : Auditing) → AllByRecursion (λ one. is_of_plan plan one.actor ≡ true) lines → AltersTables plan → i < length lines → i < 2 ^ 64 - 1 → line ≡ get_or lines i line → IsAuditing plan (take i lines) auditing
    → IsReady plan line auditing
ready_at plan lines i line auditing known alters within few is so = record {
  known = known_at plan lines i line known within is;
  count = each_count (IsFollowedIn plan (take i lines)) 1 plan.clients auditing.clients.items so.clients;
  few = let turns : auditing.seen.turns ≡ length (take i lines) = so.seen.turns in let short : length (take i lines) ≡ min i (length lines) = length-take i lines in omega (arith, turns, short, within, few);
  sound = so.sound;
  planned = λ none. so.planned (sym so.seen.altered ∙ none);
  alters = alters;
}

pub auditing_count : (plan : PlanData) (before : List TraceLine) (auditing : Auditing) → IsAuditing plan before auditing → length auditing.clients.items ≡ length plan.clients
auditing_count plan before auditing so = each_count (IsFollowedIn plan before) 1 plan.clients auditing.clients.items so.clients

-- the lines, cut at one of them
cut_at : (lines : List TraceLine) (i : ℕ) (line : TraceLine) → i < length lines → line ≡ get_or lines i line → lines ≡ take i lines ++ line ∷ drop (i + 1) lines
cut_at [] i line within is = absurd (omega (arith, within))
cut_at (first ∷ lines) zero line within is = ap (λ (one : TraceLine). one ∷ lines) (sym is)
cut_at (first ∷ lines) (suc i) line within is = let next : suc i + 1 ≡ suc (i + 1) = omega arith in rw next (ap (λ (rest : List TraceLine). first ∷ rest) (cut_at lines i line (omega (arith, within)) is))

-- *The answer where a line is astray*
pub astray_answer : (plan : PlanData) (trace : Trace) (i : ℕ) (line : TraceLine) (now : Auditing) (worst : Option ℕ) → i < length trace.lines → line ≡ get_or trace.lines i line → IsAuditing plan (take i trace.lines) now → is_astray plan (take i trace.lines) line.asked line.actor ≡ true
    → now.noted ≡ least (noted_turns plan (take i trace.lines ++ line ∷ [])) → worst ≡ lesser now.noted now.judge.worst → worst ≡ least (bad_turns plan trace)
astray_answer plan trace i line now worst within is so astray noted_is is_worst =
    is_worst ∙ ap (λ (n : Option ℕ). lesser n now.judge.worst) noted_is ∙ ap (lesser (least (noted_turns plan (take i trace.lines ++ line ∷ [])))) so.judge.worst
    ∙ sym (astray_least plan trace (take i trace.lines) (drop (i + 1) trace.lines) line (cut_at trace.lines i line within is) so.straight astray)

not_none : (turn : ℕ) (rest other : Option ℕ) → lesser (least_with turn rest) other ≡ None → ⊥
not_none turn None None is = cc
not_none turn None (Some more) is = cc
not_none turn (Some less) None is = cc
not_none turn (Some less) (Some more) is = cc

-- ... there is one
pub astray_some : (plan : PlanData) (before : List TraceLine) (line : TraceLine) (noted other worst : Option ℕ) → is_astray plan before line.asked line.actor ≡ true → noted ≡ least (noted_turns plan (before ++ line ∷ [])) → worst ≡ lesser noted other → worst ≡ None → ⊥
astray_some plan before line noted other worst astray noted_is is_worst none =
    not_none (next_turn before) (least (noted_turns plan before)) other (ap (λ (n : Option ℕ). lesser n other) (noted_by plan before line true (astray_noted plan before line astray) ∙ sym noted_is) ∙ sym is_worst ∙ none)

-- *The answer where none is*
pub straight_answer : (plan : PlanData) (trace : Trace) (now : Auditing) (worst last answer : Option ℕ) → IsAuditing plan trace.lines now → now.noted ≡ least (noted_turns plan trace.lines) → worst ≡ lesser now.noted now.judge.worst → last ≡ least (unended plan trace) → answer ≡ lesser worst last
    → answer ≡ least (bad_turns plan trace)
straight_answer plan trace now worst last answer so noted_is is_worst is_last is =
    is ∙ ap (λ (w : Option ℕ). lesser w last) (is_worst ∙ ap (λ (n : Option ℕ). lesser n now.judge.worst) noted_is ∙ ap (lesser (least (noted_turns plan trace.lines))) so.judge.worst)
    ∙ ap (lesser (lesser (least (noted_turns plan trace.lines)) (least (wrong_turns plan (opening_tables plan) (judged plan trace.lines))))) is_last ∙ sym (bad_is plan trace)

-- after the last of the lines
pub after_all : (plan : PlanData) (lines : List TraceLine) (i : ℕ) (now : Auditing) → length lines ≤ i → IsAuditing plan (take i lines) now → IsAuditing plan lines now
after_all plan lines i now past so = subst (λ (all : List TraceLine). IsAuditing plan all now) (take_all i lines past) so

pub noted_all : (plan : PlanData) (lines : List TraceLine) (i : ℕ) (noted : Option ℕ) → length lines ≤ i → noted ≡ least (noted_turns plan (take i lines)) → noted ≡ least (noted_turns plan lines)
noted_all plan lines i noted past is = is ∙ ap (λ (all : List TraceLine). least (noted_turns plan all)) (take_all i lines past)

-- ... and after one more
pub after_one : (plan : PlanData) (lines : List TraceLine) (i : ℕ) (line : TraceLine) (now : Auditing) → i < length lines → line ≡ get_or lines i line → IsAuditing plan (take i lines ++ line ∷ []) now → IsAuditing plan (take (i + 1) lines) now
after_one plan lines i line now within is so = subst (λ (all : List TraceLine). IsAuditing plan all now) (sym (take_one lines i line within is)) so

pub noted_one : (plan : PlanData) (lines : List TraceLine) (i : ℕ) (line : TraceLine) (old now : Option ℕ) → i < length lines → line ≡ get_or lines i line → old ≡ least (noted_turns plan (take i lines ++ line ∷ [])) → now ≡ old → now ≡ least (noted_turns plan (take (i + 1) lines))
noted_one plan lines i line old now within is noted_is same = same ∙ noted_is ∙ ap (λ (all : List TraceLine). least (noted_turns plan all)) (sym (take_one lines i line within is))

-- what a client's own turn answers, by its number
abbrev pub OwnFollowed : {E : Type 0} → PlanData → List TraceLine → TraceLine → ℕ → List ScriptLine → TraceClient → Result (Option RepliedTxn) E → ℕ → Type 0
OwnFollowed plan before line number script now result turn =
    OnOk result (IsFollowed script now (client_after_line (became_by (client_reached plan before number) line) (with_draw line.drawn (client_reached plan before number))) (reply_turns plan before number ++ reply_turn turn (became_by (client_reached plan before number) line)))

abbrev pub OwnJudged : {E : Type 0} → PlanData → List TraceLine → TraceLine → ℕ → Result (Option RepliedTxn) E → ℕ → Type 0
OwnJudged plan before line number result turn =
    IfOk result (AreJudged (judged_of (reply_turns plan before number ++ reply_turn turn (became_by (client_reached plan before number) line)) (client_ends number (with_draw line.drawn (client_reached plan before number)) (became_by (client_reached plan before number) line))))
