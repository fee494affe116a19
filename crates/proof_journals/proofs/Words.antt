-- What a client's line leaves of all that is kept, by its fate.
use Rattle.std.proofs.Common.{◌≡◌, ℕ, true, List, [], ◌∷◌, ◌++◌, refl, sym, ◌∙◌, subst}
use Rattle.std.proofs.Math.Bool.{or-true}
use Rattle.std.proofs.lemmas.List.{append-nil}
use Rattle.std.proofs.lemmas.List.Folds.{list_any-append}
use Rattle.std.specs.List.{list_any}
use Rattle.std.specs.Str.{bytes_eq}
use Rattle.base_values.specs.declared.event.RowEvent.{RowEvent}
use Rattle.server_locks.specs.declared.row_locks.lock.Lock.{Lock}
use Rattle.table_store.specs.Databases.{Database}
use Rattle.base_script.specs.declared.actor.Side.TheVariants.{Before, After}
use Rattle.base_script.specs.declared.script.ScriptWord.{ScriptWord}
use Rattle.base_script.specs.declared.script.ScriptWord.TheVariants as words
use Rattle.server_model.specs.declared.transaction.Mark.{Mark}
use Rattle.server_model.specs.declared.transaction.Mark.TheVariants as marks
use Rattle.server_model.specs.declared.transaction.Reply.{Reply}
use Rattle.server_model.specs.LockedRows.Databases.{IsWellFormedDatabase, EventsCovered}
use Rattle.server_model.specs.Operations.{table_of, row_needs, after_events}
use Rattle.server_model.specs.Alone.{line_events, line_replies, Ran}
use Rattle.server_model.specs.LockedRows.Stability.{Stable}
use Rattle.proof_journals.specs.Scenes.{SessionHold, Going, IsSteady}
use Rattle.proof_journals.specs.Holdings.{held_after, lines_after}
use Rattle.server_model.proofs.LockedRows.Points.{within-left, within-right, within-itself}
use Rattle.server_model.proofs.LockedRows.Finding.{NamesWithin}
use Rattle.server_model.proofs.LockedRows.Stables.{one_more, more_alike, stable_more, stable_statement, covered_statement, covered_more}
use Rattle.server_model.proofs.LockedRows.Tests.{same_bytes}

pub names_left : (a b : List (List ℕ)) → NamesWithin a (a ++ b)
names_left a b name is = list_any-append (bytes_eq name) a b ∙ rw is refl

pub names_last : (a : List (List ℕ)) (name : List ℕ) → list_any (bytes_eq name) (a ++ name ∷ []) ≡ true
names_last a name = list_any-append (bytes_eq name) a (name ∷ []) ∙ rw (same_bytes name) (or-true (list_any (bytes_eq name) a))

-- where nothing is written
pub quiet_covered : (tables : Database) (hold : SessionHold) (more : List (List ℕ)) (all : List Lock) → EventsCovered hold.names hold.locks tables hold.writes → EventsCovered (hold.names ++ more) (hold.locks ++ all) tables (hold.writes ++ [])
quiet_covered tables hold more all covered =
    subst (λ (events : List RowEvent). EventsCovered (hold.names ++ more) (hold.locks ++ all) tables events) (sym (append-nil hold.writes))
    (covered_more hold.names (hold.names ++ more) hold.locks (hold.locks ++ all) tables hold.writes (names_left hold.names more) (within-left hold.locks hold.locks all (within-itself hold.locks)) covered)

-- the line's writes are covered
line_covered : (tables : Database) (hold : SessionHold) (word : ScriptWord) (mark : Mark) → EventsCovered hold.names hold.locks tables hold.writes → EventsCovered (held_after tables hold word mark).names (held_after tables hold word mark).locks tables (held_after tables hold word mark).writes
line_covered tables hold (words.Do statement) marks.Answered covered =
    covered_statement hold.names (hold.names ++ table_of statement ∷ []) hold.locks (hold.locks ++ row_needs (after_events tables hold.writes) statement) hold.writes tables statement covered (names_left hold.names (table_of statement ∷ []))
    (within-left hold.locks hold.locks (row_needs (after_events tables hold.writes) statement) (within-itself hold.locks)) (names_last hold.names (table_of statement))
    (within-right (row_needs (after_events tables hold.writes) statement) hold.locks (row_needs (after_events tables hold.writes) statement) (within-itself (row_needs (after_events tables hold.writes) statement)))
line_covered tables hold (words.Do statement) (marks.Lost After) covered =
    covered_statement hold.names (hold.names ++ table_of statement ∷ []) hold.locks (hold.locks ++ row_needs (after_events tables hold.writes) statement) hold.writes tables statement covered (names_left hold.names (table_of statement ∷ []))
    (within-left hold.locks hold.locks (row_needs (after_events tables hold.writes) statement) (within-itself hold.locks)) (names_last hold.names (table_of statement))
    (within-right (row_needs (after_events tables hold.writes) statement) hold.locks (row_needs (after_events tables hold.writes) statement) (within-itself (row_needs (after_events tables hold.writes) statement)))
line_covered tables hold words.Begin marks.Answered covered = quiet_covered tables hold [] [] covered
line_covered tables hold words.Begin marks.TimedOut covered = quiet_covered tables hold [] [] covered
line_covered tables hold words.Begin (marks.Lost Before) covered = quiet_covered tables hold [] [] covered
line_covered tables hold words.Begin (marks.Lost After) covered = quiet_covered tables hold [] [] covered
line_covered tables hold words.Commit marks.Answered covered = quiet_covered tables hold [] [] covered
line_covered tables hold words.Commit marks.TimedOut covered = quiet_covered tables hold [] [] covered
line_covered tables hold words.Commit (marks.Lost Before) covered = quiet_covered tables hold [] [] covered
line_covered tables hold words.Commit (marks.Lost After) covered = quiet_covered tables hold [] [] covered
line_covered tables hold words.Rollback marks.Answered covered = quiet_covered tables hold [] [] covered
line_covered tables hold words.Rollback marks.TimedOut covered = quiet_covered tables hold [] [] covered
line_covered tables hold words.Rollback (marks.Lost Before) covered = quiet_covered tables hold [] [] covered
line_covered tables hold words.Rollback (marks.Lost After) covered = quiet_covered tables hold [] [] covered
line_covered tables hold (words.Do statement) marks.TimedOut covered = quiet_covered tables hold (table_of statement ∷ []) (row_needs (after_events tables hold.writes) statement) covered
line_covered tables hold (words.Do statement) (marks.Lost Before) covered = quiet_covered tables hold (table_of statement ∷ []) (row_needs (after_events tables hold.writes) statement) covered

-- a line that was granted is stable
line_stable : (tables : Database) (hold : SessionHold) (going : Going) (word : ScriptWord) (mark : Mark) → IsWellFormedDatabase tables → Stable hold.names hold.locks going.lines (record { replies = going.replies; writes = hold.writes }) tables
    → Stable (held_after tables hold word mark).names (held_after tables hold word mark).locks (lines_after going word mark (line_replies (after_events tables hold.writes) word mark)).lines
    (one_more tables (record { replies = going.replies; writes = hold.writes }) (record { word = word; mark = mark })) tables
line_stable tables hold going (words.Do statement) mark is stable =
    stable_statement hold.names (hold.names ++ table_of statement ∷ []) hold.locks (hold.locks ++ row_needs (after_events tables hold.writes) statement) going.lines (record { replies = going.replies; writes = hold.writes }) tables statement mark stable is
    (names_left hold.names (table_of statement ∷ [])) (within-left hold.locks hold.locks (row_needs (after_events tables hold.writes) statement) (within-itself hold.locks)) (names_last hold.names (table_of statement))
    (within-right (row_needs (after_events tables hold.writes) statement) hold.locks (row_needs (after_events tables hold.writes) statement) (within-itself (row_needs (after_events tables hold.writes) statement)))
line_stable tables hold going words.Begin mark is stable =
    stable_more hold.names (hold.names ++ []) hold.locks (hold.locks ++ []) going.lines (record { replies = going.replies; writes = hold.writes }) tables words.Begin mark stable (names_left hold.names []) (within-left hold.locks hold.locks [] (within-itself hold.locks))
    (λ other well_formed agree. more_alike tables other words.Begin mark (record { replies = going.replies; writes = hold.writes }) refl)
line_stable tables hold going words.Commit mark is stable =
    stable_more hold.names (hold.names ++ []) hold.locks (hold.locks ++ []) going.lines (record { replies = going.replies; writes = hold.writes }) tables words.Commit mark stable (names_left hold.names []) (within-left hold.locks hold.locks [] (within-itself hold.locks))
    (λ other well_formed agree. more_alike tables other words.Commit mark (record { replies = going.replies; writes = hold.writes }) refl)
line_stable tables hold going words.Rollback mark is stable =
    stable_more hold.names (hold.names ++ []) hold.locks (hold.locks ++ []) going.lines (record { replies = going.replies; writes = hold.writes }) tables words.Rollback mark stable (names_left hold.names []) (within-left hold.locks hold.locks [] (within-itself hold.locks))
    (λ other well_formed agree. more_alike tables other words.Rollback mark (record { replies = going.replies; writes = hold.writes }) refl)

-- a line that was granted keeps its transaction fine
pub line_fine : (tables : Database) (hold : SessionHold) (going : Going) (word : ScriptWord) (mark : Mark) → IsWellFormedDatabase tables → IsSteady tables hold going
    → IsSteady tables (held_after tables hold word mark) (lines_after going word mark (line_replies (after_events tables hold.writes) word mark))
line_fine tables hold going word mark is fine = record { stable = line_stable tables hold going word mark is fine.stable; covered = line_covered tables hold word mark fine.covered }

-- a line that was not granted: it timed out, or its session was lost before it was done
pub line_undone : (tables : Database) (hold : SessionHold) (going : Going) (word : ScriptWord) (mark : Mark) (got : List Reply) → ((some : Database) → line_replies some word mark ≡ got) → ((some : Database) → line_events some word mark ≡ [])
    → IsSteady tables hold going → IsSteady tables hold (lines_after going word mark got)
line_undone tables hold going word mark got replies_are events_are fine =
    let ran : Ran = record { replies = going.replies; writes = hold.writes } in
    let each : (some : Database) → one_more some ran (record { word = word; mark = mark }) ≡ record { replies = going.replies ++ got; writes = hold.writes } = λ some. rw (replies_are (after_events some hold.writes), events_are (after_events some hold.writes), append-nil hold.writes) refl in
    record {
      stable = subst (λ (r : Ran). Stable hold.names hold.locks (going.lines ++ record { word = word; mark = mark } ∷ []) r tables) (each tables)
          (stable_more hold.names hold.names hold.locks hold.locks going.lines ran tables word mark fine.stable (λ name is. is) (within-itself hold.locks) (λ other well_formed agree. each tables ∙ sym (each other)));
      covered = fine.covered;
    }
