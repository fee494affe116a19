-- What a turn of a client leaves of all that is kept, by its fate.
use Rattle.std.proofs.Common.{◌≡◌, ℕ, Bool, true, false, List, [], ◌∷◌, ◌++◌, cond, refl, sym, ap, ◌∙◌, subst, arith}
use Rattle.std.specs.Prelude.{◌==◌, ◌≢◌}
use Rattle.std.proofs.lemmas.Bool.{false≢true, true≢false}
use Rattle.std.proofs.lemmas.Bool.Decides.{nat_tests}
use Rattle.std.proofs.lemmas.List.{append-nil}
use Rattle.std.specs.List.{AllByRecursion, list_any}
use Rattle.table_store.specs.Databases.{Database, find_table}
use Rattle.base_script.specs.declared.script.ScriptWord.{ScriptWord}
use Rattle.server_model.specs.declared.transaction.Mark.{Mark}
use Rattle.server_model.specs.declared.transaction.Mark.TheVariants as marks
use Rattle.server_model.specs.declared.transaction.TxnEnd.{TxnEnd}
use Rattle.server_model.specs.declared.transaction.TxnLine.{TxnLine}
use Rattle.server_model.specs.declared.transaction.Reply.{Reply}
use Rattle.server_model.specs.Alone.{stays}
use Rattle.server_model.specs.LockedRows.Coverage.{Apart}
use Rattle.server_model.specs.LockedRows.Databases.{IsWellFormedDatabase}
use Rattle.server_model.specs.Operations.{after_events}
use Rattle.proof_journals.specs.Scenes.{PlainItem, Stored, Scene, seen, Serial, SessionHold, Going, no_hold, not_going, IsFine, Besides}
use Rattle.proof_journals.specs.Turns.{LineOutcome, Still, Adds, Ends, Breaks, Alters, going_on, happens, goings_after}
use Rattle.proof_journals.specs.Holdings.{Face, no_face, Fits, Holds, lines_after}
use Rattle.std.specs.Str.{bytes_eq}
use Rattle.proof_journals.proofs.Kept.{kept_goes, kept_ends, kept_same, kept_writes, kept_moves, fine_rest}
use Rattle.server_model.proofs.LockedRows.Tests.{are_one}

-- new_holds of faces
pub holds_besides : (number : ℕ) (old new : ℕ → Face) (own : Face) → Besides number old new own → Besides number (λ n. (old n).hold) (λ n. (new n).hold) own.hold
holds_besides number old new own besides = record { there = λ n differ. ap (λ (f : Face). f.hold) (besides.there n differ); here = ap (λ (f : Face). f.hold) besides.here }

pub besides_then : {A : Type 0} (number : ℕ) (one two three : ℕ → A) (a b : A) → Besides number one two a → Besides number two three b → Besides number one three b
besides_then number one two three a b first second = record { there = λ n differ. second.there n differ ∙ first.there n differ; here = second.here }

fits_each : (scene : Scene) (number : ℕ) (old new : ℕ → Face) (going goings : ℕ → Going) (own : Face) (line : Going) → Besides number old new own → Besides number going goings line → Fits (scene.client number) own line → ((n : ℕ) → Fits (scene.client n) (old n) (going n)) → (n : ℕ) → Fits (scene.client n) (new n) (goings n)
fits_each scene number old new going goings own line faces lines fits others n = at (n == number) refl where
  at : (b : Bool) → (n == number) ≡ b → Fits (scene.client n) (new n) (goings n)
  at true is = let same : n ≡ number = are_one n number is in subst (λ (m : ℕ). Fits (scene.client m) (new m) (goings m)) (sym same) (rw (faces.here, lines.here) fits)
  at false is = rw (faces.there n is, lines.there n is) (others n)

fits_none : (own : Bool) → Fits own no_face not_going
fits_none own = record { rests = λ is. (refl, refl); goes = λ client is. absurd (false≢true is); answered = tt; unended = refl; tools = λ is. refl; unlocked = λ is. refl }

-- what a turn leaves
abbrev pub Turned : Scene → Stored → (ℕ → Face) → ℕ → LineOutcome → (ℕ → Going) → List PlainItem → Type 0
Turned scene now faces number line_outcome going past = Holds scene now faces (goings_after number line_outcome going) (past ++ happens line_outcome (going number))

goings_besides : (number : ℕ) (line_outcome : LineOutcome) (going : ℕ → Going) → Besides number going (goings_after number line_outcome going) (going_on line_outcome (going number))
goings_besides number line_outcome going = record {
  there = λ n differ. rw differ refl;
  here = let same : (number == number) ≡ true = grind (arith, nat_tests) in rw same refl;
}

-- nothing that is spoken of changes
pub turned_still : (scene : Scene) (now : Stored) (old new : ℕ → Face) (number : ℕ) (going : ℕ → Going) (past : List PlainItem) → ((n : ℕ) → new n ≡ old n) → Holds scene now old going past → Turned scene now new number Still going past
turned_still scene now old new number going past same holds = record {
  kept = rw (append-nil past) (kept_same scene now (λ n. (old n).hold) (λ n. (new n).hold) going (goings_after number Still going) past (λ n. ap (λ (f : Face). f.hold) (same n)) still holds.kept);
  fits = λ n. rw (same n, still n) (holds.fits n);
} where
  still : (n : ℕ) → goings_after number Still going n ≡ going n
  still n = at (n == number) where
    at : (b : Bool) → cond b (going n) (going n) ≡ going n
    at true = refl
    at false = refl

-- a line more
pub turned_adds : (scene : Scene) (now : Stored) (old new : ℕ → Face) (number : ℕ) (going : ℕ → Going) (past : List PlainItem) (own : SessionHold) (word : ScriptWord) (got : List Reply) → scene.client number ≡ true → Holds scene now old going past → Besides number old new (record { hold = own; locked = []; busy = true })
    → IsFine scene true now.tables own (lines_after (going number) word marks.Answered got) → ((n : ℕ) → (n == number) ≡ false → Apart own.locks (old n).hold.locks) → stays (lines_after (going number) word marks.Answered got).lines ≡ false → Turned scene now new number (Adds word marks.Answered got) going past
turned_adds scene now old new number going past own word got client holds faces fine apart never =
    let lines = goings_besides number (Adds word marks.Answered got) going in
    record {
      kept = rw (append-nil past) (kept_goes scene now (λ n. (old n).hold) (λ n. (new n).hold) going (goings_after number (Adds word marks.Answered got) going) past number own (lines_after (going number) word marks.Answered got) holds.kept (rw client fine) apart
          (holds_besides number old new (record { hold = own; locked = []; busy = true }) faces) lines);
      fits = fits_each scene number old new going (goings_after number (Adds word marks.Answered got) going) (record { hold = own; locked = []; busy = true }) (lines_after (going number) word marks.Answered got) faces lines
          (record { rests = λ is. absurd (true≢false is); goes = λ own is. some (going number).lines; answered = more (going number).lines (holds.fits number).answered; unended = never; tools = λ is. absurd (true≢false (sym client ∙ is)); unlocked = λ is. refl }) holds.fits;
    } where
      some : (lines : List TxnLine) → (lines ++ record { word = word; mark = marks.Answered } ∷ []) ≢ []
      some [] is = cc
      some (line ∷ lines) is = cc

      more : (lines : List TxnLine) → AllByRecursion (λ line. line.mark ≡ marks.Answered) lines → AllByRecursion (λ line. line.mark ≡ marks.Answered) (lines ++ record { word = word; mark = marks.Answered } ∷ [])
      more [] all = (refl, tt)
      more (line ∷ lines) all = (all.0, more lines all.1)

-- a last line
pub turned_ends : (scene : Scene) (now after : Stored) (old new : ℕ → Face) (number : ℕ) (going : ℕ → Going) (past : List PlainItem) (own : SessionHold) (word : ScriptWord) (mark : Mark) (got : List Reply) (ended : TxnEnd) → scene.client number ≡ true → Holds scene now old going past → Besides number old new no_face
    → IsFine scene true now.tables own (lines_after (going number) word mark got) → ((n : ℕ) → (n == number) ≡ false → Apart own.locks (old n).hold.locks)
    → after.tables ≡ cond (stays (lines_after (going number) word mark got).lines) (after_events now.tables own.writes) now.tables → after.log ≡ now.log ++ cond (stays (lines_after (going number) word mark got).lines) own.writes []
    → Turned scene after new number (Ends word mark got ended) going past
turned_ends scene now after old new number going past own word mark got ended client holds faces fine apart tables log =
    let lines = goings_besides number (Ends word mark got ended) going in
    record {
      kept = kept_ends scene now after (λ n. (old n).hold) (λ n. (new n).hold) going (goings_after number (Ends word mark got ended) going) past number own (lines_after (going number) word mark got) ended holds.kept fine apart
          (holds_besides number old new no_face faces) lines tables log;
      fits = fits_each scene number old new going (goings_after number (Ends word mark got ended) going) no_face not_going faces lines (fits_none (scene.client number)) holds.fits;
    }

-- an end without a line
pub turned_breaks : (scene : Scene) (now : Stored) (old new : ℕ → Face) (number : ℕ) (going : ℕ → Going) (past : List PlainItem) (ended : TxnEnd) → scene.client number ≡ true → Holds scene now old going past → Besides number old new no_face
    → stays (going number).lines ≡ false → Turned scene now new number (Breaks ended) going past
turned_breaks scene now old new number going past ended client holds faces never =
    let lines = goings_besides number (Breaks ended) going in
    record {
      kept = kept_ends scene now now (λ n. (old n).hold) (λ n. (new n).hold) going (goings_after number (Breaks ended) going) past number (old number).hold (going number) ended holds.kept (subst (λ (b : Bool). IsFine scene b now.tables (old number).hold (going number)) client (holds.kept.fine number))
          (λ n differ. holds.kept.apart number n (turn n differ))
          (holds_besides number old new no_face faces) lines (rw never refl) (rw never (sym (append-nil now.log)));
      fits = fits_each scene number old new going (goings_after number (Breaks ended) going) no_face not_going faces lines (fits_none (scene.client number)) holds.fits;
    } where
      turn : (n : ℕ) → (n == number) ≡ false → (number == n) ≡ false
      turn n is = grind (arith, nat_tests)

still_besides : (number : ℕ) (going : ℕ → Going) → Besides number going going (going number)
still_besides number going = record { there = λ n differ. refl; here = refl }

holds_still : (scene : Scene) (now : Stored) (faces : ℕ → Face) (number : ℕ) (going : ℕ → Going) (past : List PlainItem) → Holds scene now faces going past → Turned scene now faces number Still going past
holds_still scene now faces number going past holds = turned_still scene now faces faces number going past (λ n. refl) holds

tool_fits : (own : Bool) (hold : SessionHold) (locked : List (List ℕ)) (busy : Bool) (line : Going) → own ≡ false → line ≡ not_going → (busy ≡ false → hold ≡ no_hold) → Fits own (record { hold = hold; locked = locked; busy = busy }) line
tool_fits own hold locked busy line tool none rests =
    record { rests = λ is. (rests is, none); goes = λ client is. absurd (false≢true (sym tool ∙ client)); answered = subst (λ (g : Going). AllByRecursion (λ line. line.mark ≡ marks.Answered) g.lines) (sym none) tt; unended = ap (λ (g : Going). stays g.lines) none; tools = λ is. none; unlocked = λ client. absurd (false≢true (sym tool ∙ client)) }

-- its transaction goes on
pub tool_grows : (scene : Scene) (now : Stored) (old new : ℕ → Face) (number : ℕ) (going : ℕ → Going) (past : List PlainItem) (own : SessionHold) (locked : List (List ℕ)) → scene.client number ≡ false → Holds scene now old going past → Besides number old new (record { hold = own; locked = locked; busy = true })
    → IsFine scene false now.tables own not_going → ((n : ℕ) → (n == number) ≡ false → Apart own.locks (old n).hold.locks) → Turned scene now new number Still going past
tool_grows scene now old new number going past own locked tool holds faces fine apart =
    let none : going number ≡ not_going = (holds.fits number).tools tool in
    holds_still scene now new number going past (record {
      kept = kept_goes scene now (λ n. (old n).hold) (λ n. (new n).hold) going going past number own (going number) holds.kept (rw (tool, none) fine) apart (holds_besides number old new (record { hold = own; locked = locked; busy = true }) faces) (still_besides number going);
      fits = fits_each scene number old new going going (record { hold = own; locked = locked; busy = true }) (going number) faces (still_besides number going) (tool_fits (scene.client number) own locked true (going number) tool none (λ is. absurd (true≢false is))) holds.fits;
    })

-- it commits
pub tool_writes : (scene : Scene) (now after : Stored) (old new : ℕ → Face) (number : ℕ) (going : ℕ → Going) (past : List PlainItem) (own : SessionHold) (locked : List (List ℕ)) → scene.client number ≡ false → Holds scene now old going past → Besides number old new (record { hold = no_hold; locked = locked; busy = false })
    → IsFine scene false now.tables own not_going → ((n : ℕ) → (n == number) ≡ false → Apart own.locks (old n).hold.locks) → after.tables ≡ after_events now.tables own.writes → after.log ≡ now.log ++ own.writes → Turned scene after new number Still going past
tool_writes scene now after old new number going past own locked tool holds faces fine apart tables log =
    let none : going number ≡ not_going = (holds.fits number).tools tool in
    let lines : Besides number going going not_going = record { there = λ n differ. refl; here = none } in
    holds_still scene after new number going past (record {
      kept = kept_writes scene now after (λ n. (old n).hold) (λ n. (new n).hold) going going past number own not_going holds.kept fine apart (holds_besides number old new (record { hold = no_hold; locked = locked; busy = false }) faces) lines tables log;
      fits = fits_each scene number old new going going (record { hold = no_hold; locked = locked; busy = false }) not_going faces lines (tool_fits (scene.client number) no_hold locked false not_going tool refl (λ is. refl)) holds.fits;
    })

-- it forgets
pub tool_rests : (scene : Scene) (now : Stored) (old new : ℕ → Face) (number : ℕ) (going : ℕ → Going) (past : List PlainItem) (locked : List (List ℕ)) → scene.client number ≡ false → Holds scene now old going past → Besides number old new (record { hold = no_hold; locked = locked; busy = false }) → Turned scene now new number Still going past
unfolding after_events
tool_rests scene now old new number going past locked tool holds faces =
    tool_writes scene now now old new number going past no_hold locked tool holds faces (fine_rest scene false now.tables holds.kept.well_formed) (λ n differ lock other one two. absurd one) refl (sym (append-nil now.log))

nothing_after : (tables : Database) → tables ≡ after_events tables []
unfolding after_events
nothing_after tables = refl

-- whole tables change
abbrev pub moving : Bool → LineOutcome
moving true = Alters
moving false = Still

pub tool_moves : (scene : Scene) (now after : Stored) (old new : ℕ → Face) (number : ℕ) (going : ℕ → Going) (past : List PlainItem) (locked : List (List ℕ)) (alters : Bool) → scene.client number ≡ false → Holds scene now old going past → Besides number old new (record { hold = no_hold; locked = locked; busy = false })
    → Serial scene (record { tables = scene.opening; log = [] }) (past ++ happens (moving alters) (going number)) (seen scene after) → IsWellFormedDatabase after.tables
    → ((n : ℕ) → (n == number) ≡ false → (name : List ℕ) → list_any (bytes_eq name) (old n).hold.names ≡ true → find_table name after.tables ≡ find_table name now.tables) → Turned scene after new number (moving alters) going past
tool_moves scene now after old new number going past locked alters tool holds faces serial is others =
    let none : going number ≡ not_going = (holds.fits number).tools tool in
    let lines : Besides number going going not_going = record { there = λ n differ. refl; here = none } in
    let new_holds : Besides number (λ n. (old n).hold) (λ n. (new n).hold) no_hold = holds_besides number old new (record { hold = no_hold; locked = locked; busy = false }) faces in
    let rest = kept_writes scene now now (λ n. (old n).hold) (λ n. (new n).hold) going going past number no_hold not_going holds.kept (fine_rest scene false now.tables holds.kept.well_formed) (λ n differ lock other one two. absurd one) new_holds lines (nothing_after now.tables) (sym (append-nil now.log)) in
    let kept = kept_moves scene now after (λ n. (new n).hold) going past (past ++ happens (moving alters) (going number)) rest serial is (λ n name held. found n (n == number) refl name held) in
    let fits = fits_each scene number old new going going (record { hold = no_hold; locked = locked; busy = false }) not_going faces lines (tool_fits (scene.client number) no_hold locked false not_going tool refl (λ is. refl)) holds.fits in
    record {
      kept = kept_same scene after (λ n. (new n).hold) (λ n. (new n).hold) going (goings_after number (moving alters) going) (past ++ happens (moving alters) (going number)) (λ n. refl) (still alters) kept;
      fits = λ n. rw (still alters n) (fits n);
    } where
      still : (b : Bool) (n : ℕ) → goings_after number (moving b) going n ≡ going n
      still b n = two b (n == number) where
        two : (b c : Bool) → cond c (going_on (moving b) (going n)) (going n) ≡ going n
        two true true = refl
        two true false = refl
        two false true = refl
        two false false = refl

      found : (n : ℕ) (b : Bool) → (n == number) ≡ b → (name : List ℕ) → list_any (bytes_eq name) (new n).hold.names ≡ true → find_table name after.tables ≡ find_table name now.tables
      found n true is name held = absurd (false≢true (ap (λ (f : Face). list_any (bytes_eq name) f.hold.names) (sym (ap new (are_one n number is) ∙ faces.here)) ∙ held))
      found n false is name held = others n is name (ap (λ (f : Face). list_any (bytes_eq name) f.hold.names) (sym (faces.there n is)) ∙ held)

-- the tables that it locked change alone
pub tool_locks : (scene : Scene) (now : Stored) (old new : ℕ → Face) (number : ℕ) (going : ℕ → Going) (past : List PlainItem) (locked : List (List ℕ)) → scene.client number ≡ false → Holds scene now old going past
    → Besides number old new (record { hold = (old number).hold; locked = locked; busy = (old number).busy }) → Turned scene now new number Still going past
tool_locks scene now old new number going past locked tool holds faces =
    let none : going number ≡ not_going = (holds.fits number).tools tool in
    let own : Face = record { hold = (old number).hold; locked = locked; busy = (old number).busy } in
    holds_still scene now new number going past (record {
      kept = kept_same scene now (λ n. (old n).hold) (λ n. (new n).hold) going going past (λ n. new_holds n (n == number) refl) (λ n. refl) holds.kept;
      fits = fits_each scene number old new going going own (going number) faces (still_besides number going) (tool_fits (scene.client number) (old number).hold locked (old number).busy (going number) tool none (λ is. ((holds.fits number).rests is).0)) holds.fits;
    }) where
      new_holds : (n : ℕ) (b : Bool) → (n == number) ≡ b → (new n).hold ≡ (old n).hold
      new_holds n true is = let same : n ≡ number = are_one n number is in subst (λ (m : ℕ). (new m).hold ≡ (old m).hold) (sym same) (ap (λ (f : Face). f.hold) faces.here)
      new_holds n false is = ap (λ (f : Face). f.hold) (faces.there n is)
