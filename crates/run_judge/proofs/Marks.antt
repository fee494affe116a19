-- What is kept of actors after one turn more.
use Rattle.std.proofs.Common.{◌≡◌, ℕ, ◌+◌, ◌-◌, ◌^◌, ◌≤◌, Bool, true, false, not, ◌&&◌, List, [], ◌∷◌, ◌++◌, map, length, is_some, cond, Option, Some, None, refl, sym, ap, ◌∙◌, subst, arith}
use Rattle.std.specs.Prelude.{min}
use Rattle.std.proofs.lemmas.List.Sums.{fold-append, count_by-le-length}
use Rattle.base_script.specs.declared.actor.Actor.{Actor}
use Rattle.server_model.specs.Entries.{same_actor}
use Rattle.proof_journals.proofs.Actors.{same_actor_is, same_actor_itself}
use Rattle.run_audit.specs.declared.line.LineAsked.{LineAsked}
use Rattle.run_audit.specs.declared.line.LineAsked.TheVariants.{Cut}
use Rattle.run_audit.specs.declared.line.TraceLine.{TraceLine}
use Rattle.run_audit.specs.Rules.{has_renamed, has_session, is_cut, keeps_session, renames_by, renames_step, session_step, turns_in}
use Rattle.run_judge.specs.declared.actor_marks.ActorMarks.{ActorMarks}
use Rattle.run_judge.specs.ActorMarks.{counted, found_marks, marked_by, marks_after, marks_at, marks_of, new_marks, or_new}

-- ---- among all

pushed_by : (b : Bool) (marks : ActorMarks) (other : Actor) (now was : Option ActorMarks) → or_new other now ≡ or_new other was → or_new other (cond b (Some marks) now) ≡ or_new other (cond b (Some marks) was)
pushed_by true marks other now was rest = refl
pushed_by false marks other now was rest = rest

kept_by : (b : Bool) (marks : ActorMarks) (now : Option ActorMarks) → is_some now ≡ true → is_some (cond b (Some marks) now) ≡ true
kept_by true marks now rest = refl
kept_by false marks now rest = rest

-- new marks at the end change nothing
pub marks_pushed : (all : List ActorMarks) (one other : Actor) → marks_of (all ++ new_marks one ∷ []) other ≡ marks_of all other
marks_pushed [] one other = by (same_actor one other) refl where
  by : (b : Bool) → same_actor one other ≡ b → or_new other (cond b (Some (new_marks one)) None) ≡ new_marks other
  by true is = ap new_marks (same_actor_is one other is)
  by false is = refl
marks_pushed (marks ∷ all) one other = pushed_by (same_actor marks.actor other) marks other (found_marks (all ++ new_marks one ∷ []) other) (found_marks all other) (marks_pushed all one other)

pub kept_pushed : (all : List ActorMarks) (one : Actor) → is_some (found_marks (all ++ new_marks one ∷ []) one) ≡ true
kept_pushed [] one = rw (same_actor_itself one) refl
kept_pushed (marks ∷ all) one = kept_by (same_actor marks.actor one) marks (found_marks (all ++ new_marks one ∷ []) one) (kept_pushed all one)

-- a turn leaves whose marks they are
same_marked : (line : TraceLine) (marks : ActorMarks) → (marks_after line marks).actor ≡ marks.actor
same_marked line marks = by (same_actor line.actor marks.actor) where
  by : (b : Bool) → (cond b (marked_by line marks) marks).actor ≡ marks.actor
  by true = refl
  by false = refl

abbrev found_after : TraceLine → Actor → Option ActorMarks → Option ActorMarks
found_after line actor None = None
found_after line actor (Some marks) = Some (marks_after line marks)

followed_by : (b : Bool) (line : TraceLine) (actor : Actor) (marks : ActorMarks) (now was : Option ActorMarks) → now ≡ found_after line actor was → cond b (Some (marks_after line marks)) now ≡ found_after line actor (cond b (Some marks) was)
followed_by true line actor marks now was rest = refl
followed_by false line actor marks now was rest = rest

found_followed : (line : TraceLine) (all : List ActorMarks) (actor : Actor) → found_marks (map (marks_after line) all) actor ≡ found_after line actor (found_marks all actor)
found_followed line [] actor = refl
found_followed line (marks ∷ all) actor =
    ap (λ (one : Actor). cond (same_actor one actor) (Some (marks_after line marks)) (found_marks (map (marks_after line) all) actor)) (same_marked line marks)
    ∙ followed_by (same_actor marks.actor actor) line actor marks (found_marks (map (marks_after line) all) actor) (found_marks all actor) (found_followed line all actor)

none_there : (found : Option ActorMarks) → found ≡ None → is_some found ≡ true → ⊥
none_there None none there = cc
none_there (Some marks) none there = cc

-- where something is kept of the turn's actor, all marks are those after the turn
pub marks_followed : (line : TraceLine) (all : List ActorMarks) (actor : Actor) → is_some (found_marks all line.actor) ≡ true → marks_of (map (marks_after line) all) actor ≡ marks_after line (marks_of all actor)
marks_followed line all actor kept = ap (or_new actor) (found_followed line all actor) ∙ by (found_marks all actor) refl where
  other : found_marks all actor ≡ None → (b : Bool) → same_actor line.actor actor ≡ b → new_marks actor ≡ cond b (marked_by line (new_marks actor)) (new_marks actor)
  other none true is = absurd (none_there (found_marks all actor) none (subst (λ (a : Actor). is_some (found_marks all a) ≡ true) (same_actor_is line.actor actor is) kept))
  other none false is = refl

  by : (found : Option ActorMarks) → found_marks all actor ≡ found → or_new actor (found_after line actor found) ≡ marks_after line (or_new actor found)
  by None none = other none (same_actor line.actor actor) refl
  by (Some marks) found = refl

-- ---- after one turn more

min_low : (a b : ℕ) → a ≤ b → min a b ≡ a
min_low a b less = omega (arith, less)

counted_so : (asked : LineAsked) (turns : ℕ) → turns + 1 ≤ 2 ^ 64 - 1 → counted asked turns ≡ turns + cond (true && not (is_cut asked)) 1 0
counted_so Cut turns few = omega arith
counted_so asked turns few = min_low (turns + 1) (2 ^ 64 - 1) few

session_more : (before : List TraceLine) (line : TraceLine) (actor : Actor) → has_session (before ++ line ∷ []) actor ≡ session_step actor (has_session before actor) line
unfolding has_session
session_more before line actor = fold-append (session_step actor) false before (line ∷ [])

renames_more : (before : List TraceLine) (line : TraceLine) (actor : Actor) → has_renamed (before ++ line ∷ []) actor ≡ renames_step actor (has_renamed before actor) line
unfolding has_renamed
renames_more before line actor = fold-append (renames_step actor) false before (line ∷ [])

turns_more : (actor : Actor) (before : List TraceLine) (line : TraceLine) → turns_in actor (before ++ line ∷ []) ≡ turns_in actor before + cond (same_actor line.actor actor && not (is_cut line.asked)) 1 0
turns_more actor before line = fold-append (λ (n : ℕ) (l : TraceLine). n + cond (same_actor l.actor actor && not (is_cut l.asked)) 1 0) 0 before (line ∷ [])

abbrev the_marks : Actor → Bool → ℕ → Bool → ActorMarks
the_marks actor session turns renames = record { actor = actor; has_session = session; turns = turns; renames = renames }

marks_as : (actor : Actor) (a b : Bool) (m n : ℕ) (x y : Bool) → a ≡ b → m ≡ n → x ≡ y → the_marks actor a m x ≡ the_marks actor b n y
marks_as actor a b m n x y one two three = ap (λ s. the_marks actor s m x) one ∙ ap (λ t. the_marks actor b t x) two ∙ ap (the_marks actor b n) three

one_less : (a b limit : ℕ) → a ≤ b → b + 1 ≤ limit → a + 1 ≤ limit
one_less a b limit less few = omega (arith, less, few)

marks_by : (before : List TraceLine) (line : TraceLine) (actor : Actor) (same : Bool) → same_actor line.actor actor ≡ same → length before + 1 ≤ 2 ^ 64 - 1 → marks_after line (marks_at before actor) ≡ marks_at (before ++ line ∷ []) actor
marks_by before line actor true is few =
    let less : turns_in actor before + 1 ≤ 2 ^ 64 - 1 = one_less (turns_in actor before) (length before) (2 ^ 64 - 1) (count_by-le-length (λ (l : TraceLine). same_actor l.actor actor && not (is_cut l.asked)) before) few in
    rw is (marks_as actor (keeps_session line.asked line.answer) (has_session (before ++ line ∷ []) actor) (counted line.asked (turns_in actor before)) (turns_in actor (before ++ line ∷ [])) (renames_by (has_renamed before actor) line.asked) (has_renamed (before ++ line ∷ []) actor)
    (sym (rw is at (session_more before line actor)))
    (counted_so line.asked (turns_in actor before) less ∙ sym (rw is at (turns_more actor before line)))
    (sym (rw is at (renames_more before line actor))))
marks_by before line actor false is few =
    let same_turns : turns_in actor (before ++ line ∷ []) ≡ turns_in actor before + 0 = rw is at (turns_more actor before line) in
    rw is (marks_as actor (has_session before actor) (has_session (before ++ line ∷ []) actor) (turns_in actor before) (turns_in actor (before ++ line ∷ [])) (has_renamed before actor) (has_renamed (before ++ line ∷ []) actor)
    (sym (rw is at (session_more before line actor)))
    (omega (arith, same_turns))
    (sym (rw is at (renames_more before line actor))))

-- marks after one turn more
pub marks_more : (before : List TraceLine) (line : TraceLine) (actor : Actor) → length before + 1 ≤ 2 ^ 64 - 1 → marks_after line (marks_at before actor) ≡ marks_at (before ++ line ∷ []) actor
marks_more before line actor few = marks_by before line actor (same_actor line.actor actor) refl few
