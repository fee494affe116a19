-- What the rules ask of turns, by what is kept of them.
use Rattle.std.proofs.Common.{◌≡◌, ℕ, suc, ◌+◌, ◌-◌, ◌^◌, ◌≤◌, ◌<◌, ◌==◌, Bool, true, false, not, ◌&&◌, ◌||◌, List, [], ◌∷◌, ◌++◌, length, cond, Option, Some, None, refl, sym, ap, ◌∙◌, length-append, arith}
use Rattle.std.specs.Prelude.{nat_lt, min}
use Rattle.std.proofs.lemmas.Bool.Decides.{nat_tests}
use Rattle.std.proofs.lemmas.List.Sums.{fold-append, count_by-le-length}
use Rattle.base_script.specs.declared.actor.Actor.{Actor}
use Rattle.base_script.specs.declared.actor.Actor.TheVariants.{Op, Insp, Copy, Apply, Lock, Ren, Client}
use Rattle.base_script.specs.declared.loss.Loss.{Loss}
use Rattle.base_script.specs.declared.loss.Loss.TheVariants.{Nth, Turn}
use Rattle.base_script.specs.declared.actor.Side.{Side}
use Rattle.server_model.specs.Along.{gathered-more}
use Rattle.server_model.specs.Entries.{same_actor}
use Rattle.plan_data.specs.PlanData.{PlanData}
use Rattle.tool_program.specs.JournalWords.KeptPlans.{or_first, struck_among, words_of}
use Rattle.run_audit.specs.declared.line.LineAsked.{LineAsked}
use Rattle.run_audit.specs.declared.line.LineAsked.TheVariants as asks
use Rattle.run_audit.specs.declared.line.TraceLine.{TraceLine}
use Rattle.run_audit.specs.Rules.{alter_turns, alters_in, commands_in, due_cut, due_cut_among, has_altered, has_renamed, has_session, is_cut, is_struck, is_word, keeps_commands, next_turn, turn_if, turns_in}
use Rattle.run_judge.specs.declared.actor_marks.ActorMarks.{ActorMarks}
use Rattle.run_judge.specs.declared.turns_seen.TurnsSeen.{TurnsSeen}
use Rattle.run_judge.specs.ActorMarks.{marks_after, marks_at, marks_of, one_more}
use Rattle.run_judge.specs.TurnsSeen.{IsSeen, commanded, cut_among, cut_by, is_op}
use Rattle.run_judge.proofs.Marks.{marks_more}

-- ---- commands

pub word_kept : (plan : PlanData) (before : List TraceLine) (actor : Actor) → keeps_commands plan before actor asks.Word ≡ (is_op actor && nat_lt (commands_in before) (length (words_of plan)))
word_kept plan before Op = refl
word_kept plan before Insp = refl
word_kept plan before Copy = refl
word_kept plan before Apply = refl
word_kept plan before Lock = refl
word_kept plan before Ren = refl
word_kept plan before (Client number) = refl

pub call_kept : (plan : PlanData) (before : List TraceLine) (actor : Actor) (asked : LineAsked) → is_cut asked ≡ false → is_word asked ≡ false → keeps_commands plan before actor asked ≡ not (is_op actor)
call_kept plan before actor asks.Cut no_cut no_word = absurd (cc)
call_kept plan before actor asks.Word no_cut no_word = absurd (cc)
call_kept plan before Op asks.Call no_cut no_word = refl
call_kept plan before Op asks.Rename no_cut no_word = refl
call_kept plan before Op asks.Poll no_cut no_word = refl
call_kept plan before Insp asks.Call no_cut no_word = refl
call_kept plan before Insp asks.Rename no_cut no_word = refl
call_kept plan before Insp asks.Poll no_cut no_word = refl
call_kept plan before Copy asks.Call no_cut no_word = refl
call_kept plan before Copy asks.Rename no_cut no_word = refl
call_kept plan before Copy asks.Poll no_cut no_word = refl
call_kept plan before Apply asks.Call no_cut no_word = refl
call_kept plan before Apply asks.Rename no_cut no_word = refl
call_kept plan before Apply asks.Poll no_cut no_word = refl
call_kept plan before Lock asks.Call no_cut no_word = refl
call_kept plan before Lock asks.Rename no_cut no_word = refl
call_kept plan before Lock asks.Poll no_cut no_word = refl
call_kept plan before Ren asks.Call no_cut no_word = refl
call_kept plan before Ren asks.Rename no_cut no_word = refl
call_kept plan before Ren asks.Poll no_cut no_word = refl
call_kept plan before (Client number) asks.Call no_cut no_word = refl
call_kept plan before (Client number) asks.Rename no_cut no_word = refl
call_kept plan before (Client number) asks.Poll no_cut no_word = refl

-- ---- losses

cut_same : (before : List TraceLine) (actors : List ActorMarks) (loss : Loss) → ((actor : Actor) → marks_of actors actor ≡ marks_at before actor) → cut_by actors (next_turn before) loss ≡ due_cut before loss
cut_same before actors (Nth actor n side) kept = refl
cut_same before actors (Turn number actor) kept = ap (λ (marks : ActorMarks). cond ((number == next_turn before) && marks.has_session) (Some actor) None) (kept actor)

pub cuts_same : (before : List TraceLine) (actors : List ActorMarks) (losses : List Loss) → ((actor : Actor) → marks_of actors actor ≡ marks_at before actor) → cut_among actors (next_turn before) losses ≡ due_cut_among before losses
unfolding cut_among due_cut_among
cuts_same before actors [] kept = refl
cuts_same before actors (loss ∷ losses) kept =
    ap (λ (first : Option Actor). or_first first (cut_among actors (next_turn before) losses)) (cut_same before actors loss kept) ∙ ap (or_first (due_cut before loss)) (cuts_same before actors losses kept)

min_low : (a b : ℕ) → a ≤ b → min a b ≡ a
min_low a b less = omega (arith, less)

turns_within : (actor : Actor) (before : List TraceLine) → turns_in actor before ≤ length before
turns_within actor before = count_by-le-length (λ (l : TraceLine). same_actor l.actor actor && not (is_cut l.asked)) before

-- the number of the actor's next turn
pub own_turn : (before : List TraceLine) (actor : Actor) (marks : ActorMarks) → marks ≡ marks_at before actor → length before < 2 ^ 64 - 1 → one_more marks.turns ≡ turns_in actor before + 1
own_turn before actor marks is few =
    let less : turns_in actor before ≤ length before = turns_within actor before in
    let turns : marks.turns ≡ turns_in actor before = ap (λ (m : ActorMarks). m.turns) is in
    ap one_more turns ∙ min_low (turns_in actor before + 1) (2 ^ 64 - 1) (omega (arith, less, few))

-- whether losses strike where they have to, by what is kept
pub losses_kept : (plan : PlanData) (before : List TraceLine) (line : TraceLine) (seen : TurnsSeen) (turn own : ℕ) (cut : Option Actor) (side : Option Side) → IsSeen before seen → seen.turns < 2 ^ 64 - 1 → turn ≡ seen.turns + 1
    → own ≡ one_more (marks_of seen.actors.items line.actor).turns → cut ≡ cut_among seen.actors.items turn plan.faults → side ≡ struck_among line.actor own plan.faults
    → is_struck cut side line ≡ is_struck (due_cut_among before plan.faults) (struck_among line.actor (turns_in line.actor before + 1) plan.faults) line
losses_kept plan before line seen turn own cut side is few turn_is own_is cut_is side_is =
    let same : seen.turns ≡ length before = is.turns in
    let next : turn ≡ next_turn before = turn_is ∙ ap (λ (n : ℕ). n + 1) same in
    let less : length before < 2 ^ 64 - 1 = omega (arith, same, few) in
    let due : cut ≡ due_cut_among before plan.faults = cut_is ∙ ap (λ (n : ℕ). cut_among seen.actors.items n plan.faults) next ∙ cuts_same before seen.actors.items plan.faults is.actors in
    let struck : side ≡ struck_among line.actor (turns_in line.actor before + 1) plan.faults = side_is ∙ ap (λ (n : ℕ). struck_among line.actor n plan.faults) (own_is ∙ own_turn before line.actor (marks_of seen.actors.items line.actor) (is.actors line.actor) less) in
    ap (λ (c : Option Actor). is_struck c side line) due ∙ ap (λ (s : Option Side). is_struck (due_cut_among before plan.faults) s line) struck

-- ---- the ALTER

never_zero : (n : ℕ) → (suc n == 0) ≡ false
never_zero n = grind (arith, nat_tests)

counted_more : (turns : List ℕ) (b : Bool) (lines : List TraceLine) → not (length (turns ++ turn_if b lines) == 0) ≡ (not (length turns == 0) || b)
counted_more [] true lines = refl
counted_more [] false lines = refl
counted_more (turn ∷ turns) b lines = ap not (never_zero (length (turns ++ turn_if b lines))) ∙ sym (ap (λ (none : Bool). not none || b) (never_zero (length turns)))

pub altered_more : (lines : List TraceLine) (line : TraceLine) → has_altered (lines ++ line ∷ []) ≡ (has_altered lines || alters_in lines line)
unfolding alter_turns
altered_more lines line =
    ap (λ (turns : List ℕ). not (length turns == 0)) (gathered-more (λ before one. turn_if (alters_in before one) before) [] lines line) ∙ counted_more (alter_turns lines) (alters_in lines line) lines

-- ---- before the first turn

pub marks_begin : (actor : Actor) → marks_of [] actor ≡ marks_at [] actor
unfolding has_session has_renamed
marks_begin actor = refl

pub none_altered : has_altered [] ≡ false
unfolding alter_turns
none_altered = refl

-- ---- after one turn more

pub commands_more : (before : List TraceLine) (line : TraceLine) → commands_in (before ++ line ∷ []) ≡ commands_in before + cond (is_word line.asked) 1 0
commands_more before line = fold-append (λ (n : ℕ) (l : TraceLine). n + cond (is_word l.asked) 1 0) 0 before (line ∷ [])

commanded_is : (b : Bool) (commands : ℕ) → commands + 1 ≤ 2 ^ 64 - 1 → commanded b commands ≡ commands + cond b 1 0
commanded_is true commands few = min_low (commands + 1) (2 ^ 64 - 1) few
commanded_is false commands few = omega arith

pub commands_after : (before : List TraceLine) (line : TraceLine) (commands : ℕ) → commands ≡ commands_in before → length before < 2 ^ 64 - 1 → commanded (is_word line.asked) commands ≡ commands_in (before ++ line ∷ [])
commands_after before line commands is few =
    let less : commands_in before ≤ length before = count_by-le-length (λ (l : TraceLine). is_word l.asked) before in
    ap (commanded (is_word line.asked)) is ∙ commanded_is (is_word line.asked) (commands_in before) (omega (arith, less, few)) ∙ sym (commands_more before line)

-- *Seen after one turn more*
pub seen_more : (before : List TraceLine) (line : TraceLine) (old now : TurnsSeen) → IsSeen before old → old.turns < 2 ^ 64 - 1 → now.turns ≡ old.turns + 1 → ((actor : Actor) → marks_of now.actors.items actor ≡ marks_after line (marks_of old.actors.items actor))
    → now.commands ≡ commanded (is_word line.asked) old.commands → now.has_altered ≡ (old.has_altered || alters_in before line) → IsSeen (before ++ line ∷ []) now
seen_more before line old now is few turns actors commands altered =
    let same : old.turns ≡ length before = is.turns in
    let less : length before < 2 ^ 64 - 1 = omega (arith, same, few) in
    let more : length (before ++ line ∷ []) ≡ length before + 1 = length-append before (line ∷ []) in
    record {
      turns = omega (arith, turns, same, more);
      actors = λ actor. actors actor ∙ ap (marks_after line) (is.actors actor) ∙ marks_more before line actor (omega (arith, less));
      commands = commands ∙ commands_after before line old.commands is.commands less;
      altered = altered ∙ ap (λ (b : Bool). b || alters_in before line) is.altered ∙ sym (altered_more before line);
    }
