-- What is read of lines, one after the other.
use Rattle.std.proofs.Common.{◌≡◌, ◌∙◌, ℕ, suc, ◌+◌, Bool, true, false, cond, List, [], ◌∷◌, ◌++◌, length, drop, Option, Some, None, Ok, refl, sym, ap, subst, codes, arith}
use Rattle.std.specs.List.{AllByRecursion, join_with_byte}
use Rattle.std.specs.Option.{option_and_then}
use Rattle.std.specs.Str.{is_utf8}
use Rattle.std.proofs.lemmas.List.{take_at}
use Rattle.std.proofs.lemmas.Option.{option_and_then_some, same_Some}
use Rattle.base_values.specs.SchemaRules.Results.{◌>>=◌}
use Rattle.run_audit.specs.declared.trace.Trace.{Trace}
use Rattle.top_trace_reader.specs.declared.reading.Reading.{Reading}
use Rattle.top_trace_reader.specs.declared.reading.Reading.TheVariants.{Whole}
use Rattle.top_trace_reader.specs.Lines.{is_journal, journal_place, parts_around, parts_of, place_from}
use Rattle.top_trace_reader.specs.Readings.{after_line, after_text, or_line, read_on, whole}

-- ---- line by line

-- what was read with these lines more, each of which is UTF-8
abbrev pub after_texts : ℕ → Reading → List (List ℕ) → Option Reading
after_texts clients reading [] = Some reading
after_texts clients reading (line ∷ lines) = option_and_then (λ next. after_texts clients next lines) (after_text clients reading line)

-- these lines lead from one reading to the other
abbrev pub Reads : ℕ → Reading → List (List ℕ) → Reading → Type 0
Reads clients before lines after = after_texts clients before lines ≡ Some after

pub reads-one : (clients : ℕ) (before after : Reading) (line : List ℕ) → after_text clients before line ≡ Some after → Reads clients before (line ∷ []) after
reads-one clients before after line is = ap (option_and_then (λ (next : Reading). Some next)) is

pub reads-then : (clients : ℕ) (before between after : Reading) (first second : List (List ℕ)) → Reads clients before first between → Reads clients between second after → Reads clients before (first ++ second) after
reads-then clients before between after [] second is also = subst (λ (reading : Reading). Reads clients reading second after) (sym (same_Some before between is)) also
reads-then clients before between after (line ∷ first) second is also =
    option_and_then_some (λ next. after_texts clients next first) (after_text clients before line) between is
    (λ next at here. ap (option_and_then (λ (reading : Reading). after_texts clients reading (first ++ second))) at ∙ reads-then clients next between after first second here also)

pub read_whole : (clients number : ℕ) (reading : Reading) (lines : List (List ℕ)) (trace : Trace) → AllByRecursion (λ line. is_utf8 line ≡ true) lines → Reads clients reading lines (Whole trace) → read_on clients number reading lines ≡ Ok trace
unfolding read_on after_line
read_whole clients number reading [] trace all is = ap (whole number) (same_Some reading (Whole trace) is)
read_whole clients number reading (line ∷ lines) trace all is =
    option_and_then_some (λ next. after_texts clients next lines) (after_text clients reading line) (Whole trace) is
    (λ next at here.
    let found : after_line clients reading line ≡ Some next = ap (λ (b : Bool). cond b (after_text clients reading line) None) all.0 ∙ at in
    ap (λ (one : Option Reading). or_line number one >>= (λ (after : Reading). read_on clients (number + 1) after lines)) found ∙ read_whole clients (number + 1) next lines trace all.1 here)

-- ---- the line before the turns

none_after : (lines : List (List ℕ)) → AllByRecursion (λ line. is_journal line ≡ false) lines → journal_place lines ≡ None
unfolding journal_place
none_after [] none = refl
none_after (line ∷ lines) none = rw (none_after lines none.1, none.0) refl

journal_at : (before after : List (List ℕ)) → AllByRecursion (λ line. is_journal line ≡ false) after → journal_place (before ++ codes "#journal" ∷ after) ≡ Some (length before)
unfolding journal_place
journal_at [] after none = ap (place_from true) (none_after after none)
journal_at (line ∷ before) after none =
    let one : length before + 1 ≡ suc (length before) = omega arith in
    ap (place_from (is_journal line)) (journal_at before after none) ∙ ap (λ (place : ℕ). Some place) one

pub parts_are : (before after : List (List ℕ)) → AllByRecursion (λ line. is_journal line ≡ false) after → parts_of (before ++ codes "#journal" ∷ after) ≡ Some (record { plan = join_with_byte 10 before; lines = after })
unfolding parts_of
parts_are before after none =
    let lines : List (List ℕ) = before ++ codes "#journal" ∷ after in
    let one : drop (length before + 1) lines ≡ after = drop_next before (codes "#journal") after in
    ap (parts_around lines) (journal_at before after none) ∙ ap (λ (front : List (List ℕ)). Some (record { plan = join_with_byte 10 front; lines = drop (length before + 1) lines })) (take_at before (codes "#journal" ∷ after) (length before) refl)
    ∙ ap (λ (back : List (List ℕ)). Some (record { plan = join_with_byte 10 before; lines = back })) one
  where
    drop_next : (front : List (List ℕ)) (line : List ℕ) (back : List (List ℕ)) → drop (length front + 1) (front ++ line ∷ back) ≡ back
    drop_next [] line back = refl
    drop_next (first ∷ front) line back =
        let next : suc (length front) + 1 ≡ suc (length front + 1) = omega arith in
        ap (λ (n : ℕ). drop n (first ∷ (front ++ line ∷ back))) next ∙ drop_next front line back
