-- What is kept through each kind of turn.
use Rattle.std.proofs.Common.{◌≡◌, ℕ, Bool, true, false, List, [], ◌∷◌, ◌++◌, Option, Some, None, cond, refl, sym, ap, ◌∙◌, subst, arith}
use Rattle.std.specs.Prelude.{◌==◌}
use Rattle.std.proofs.lemmas.Bool.{false≢true, true≢false}
use Rattle.std.proofs.lemmas.Bool.Decides.{nat_tests}
use Rattle.std.proofs.lemmas.List.{append-nil}
use Rattle.std.specs.List.{AllByRecursion, list_any}
use Rattle.std.specs.Str.{bytes_eq}
use Rattle.base_values.specs.declared.event.RowEvent.{RowEvent}
use Rattle.server_locks.specs.declared.row_locks.lock.Lock.{Lock}
use Rattle.server_locks.proofs.RowLocks.HeldLocks.{conflict_both_ways}
use Rattle.table_store.specs.Databases.{TableRows, Database, find_table, with_change}
use Rattle.server_model.specs.declared.transaction.TxnEnd.{TxnEnd}
use Rattle.server_model.specs.Alone.{stays, lines_run, nothing_ran, outcome_if, alone}
use Rattle.server_model.specs.LockedRows.Agreement.{Agree}
use Rattle.server_model.specs.LockedRows.Coverage.{Apart}
use Rattle.server_model.specs.LockedRows.Databases.{IsWellFormedDatabase}
use Rattle.server_model.specs.Operations.{after_events, change_table}
use Rattle.server_model.specs.LockedRows.Stability.{RunSo}
use Rattle.proof_journals.specs.Scenes.{PlainItem, Txn, Stored, Scene, is_mine, logged, seen, FoundAlike, Alike, NamesTable, Leads, Serial, SessionHold, Going, no_hold, not_going, IsLasting, EventsMine, IsFine, IsKept, Besides}
use Rattle.server_model.proofs.LockedRows.Finding.{agree_itself, tables_itself, found_after, change_if}
use Rattle.server_model.proofs.LockedRows.Stables.{stable_begin, stable_others, stable_end, covered_others, others_agree}
use Rattle.base_values.specs.declared.event.Change.{Change}
use Rattle.proof_journals.proofs.Tools.{safe_begin, safe_others}
use Rattle.server_model.proofs.LockedRows.Tests.{are_one, are_same}

pub apart-turn : (a b : List Lock) → Apart a b → Apart b a
apart-turn a b apart lock other one two = conflict_both_ways lock other ∙ apart other lock two one

pub none_apart : (b : List Lock) → Apart [] b
none_apart b lock other one two = absurd one

-- at one number and at the others
pub by_number : {A : Type 0} (P : ℕ → A → Type 0) (number : ℕ) (old new : ℕ → A) (here : A) → Besides number old new here → P number here → ((n : ℕ) → (n == number) ≡ false → P n (old n)) → (n : ℕ) → P n (new n)
by_number P number old new here besides this those n = at (n == number) refl where
  at : (b : Bool) → (n == number) ≡ b → P n (new n)
  at true is = let same : n ≡ number = are_one n number is in subst (λ (m : ℕ). P m (new m)) (sym same) (subst (P number) (sym besides.here) this)
  at false is = subst (P n) (sym (besides.there n is)) (those n is)

-- what two holds are to one another
pub two_holds : (number : ℕ) (old new : ℕ → SessionHold) (here : SessionHold) → Besides number old new here → ((n : ℕ) → (n == number) ≡ false → Apart here.locks (old n).locks) → ((m n : ℕ) → (m == n) ≡ false → Apart (old m).locks (old n).locks)
    → (m n : ℕ) → (m == n) ≡ false → Apart (new m).locks (new n).locks
two_holds number old new here besides mine theirs m n differ = at (m == number) (n == number) refl refl where
  at : (b c : Bool) → (m == number) ≡ b → (n == number) ≡ c → Apart (new m).locks (new n).locks
  at true true one two = let same : m ≡ n = are_one m number one ∙ sym (are_one n number two) in absurd (false≢true (sym differ ∙ grind (arith, nat_tests)))
  at true false one two =
      subst (λ (s : SessionHold). Apart s.locks (new n).locks) (sym (ap new (are_one m number one) ∙ besides.here)) (subst (λ (s : SessionHold). Apart here.locks s.locks) (sym (besides.there n two)) (mine n two))
  at false true one two =
      subst (λ (s : SessionHold). Apart (new m).locks s.locks) (sym (ap new (are_one n number two) ∙ besides.here)) (subst (λ (s : SessionHold). Apart s.locks here.locks) (sym (besides.there m one)) (apart-turn here.locks (old m).locks (mine m one)))
  at false false one two =
      subst (λ (s : SessionHold). Apart s.locks (new n).locks) (sym (besides.there m one)) (subst (λ (s : SessionHold). Apart (old m).locks s.locks) (sym (besides.there n two)) (theirs m n differ))

-- what is alike
alike_itself : (scene : Scene) (a : Stored) → Alike scene a a
alike_itself scene a = record { tables = record { each = λ name is. refl }; log = refl }

alike_then : (scene : Scene) (a b c : Stored) → Alike scene a b → Alike scene b c → Alike scene a c
alike_then scene a b c one two = record { tables = record { each = λ name is. one.tables.each name is ∙ two.tables.each name is }; log = one.log ∙ two.log }

pub serial-more : (scene : Scene) (opening before after : Stored) (past : List PlainItem) (item : PlainItem) → Serial scene opening past before → Leads scene item before after → Serial scene opening (past ++ item ∷ []) after
serial-more scene opening before after [] item is leads = (before, after, is, leads, alike_itself scene after)
serial-more scene opening before after (first ∷ past) item is leads = (is.0, is.1, is.2, is.3, serial-more scene is.1 before after past item is.4 leads)

pub serial-alike : (scene : Scene) (opening before after : Stored) (past : List PlainItem) → Serial scene opening past before → Alike scene before after → Serial scene opening past after
serial-alike scene opening before after [] is alike = alike_then scene opening before after is alike
serial-alike scene opening before after (first ∷ past) is alike = (is.0, is.1, is.2, is.3, serial-alike scene is.1 before after past is.4 alike)

-- events of client tables, and others
logged-append : (scene : Scene) (a b : List RowEvent) → logged scene (a ++ b) ≡ logged scene a ++ logged scene b
logged-append scene [] b = refl
logged-append scene (event ∷ a) b = at (is_mine scene event.table) (logged-append scene a b) where
  at : (t : Bool) → logged scene (a ++ b) ≡ logged scene a ++ logged scene b → cond t (event ∷ logged scene (a ++ b)) (logged scene (a ++ b)) ≡ cond t (event ∷ logged scene a) (logged scene a) ++ logged scene b
  at true rest = ap (λ (l : List RowEvent). event ∷ l) rest
  at false rest = rest

logged_own : (scene : Scene) (events : List RowEvent) → EventsMine scene true events → logged scene events ≡ events
logged_own scene [] all = refl
logged_own scene (event ∷ events) all = rw all.0 (ap (λ (l : List RowEvent). event ∷ l) (logged_own scene events all.1))

logged_none : (scene : Scene) (events : List RowEvent) → EventsMine scene false events → logged scene events ≡ []
logged_none scene [] all = refl
logged_none scene (event ∷ events) all = rw all.0 (logged_none scene events all.1)

change_not : (b : Bool) (change : Change) (found : Option TableRows) → b ≡ false → change_if b change found ≡ found
change_not false change None is = refl
change_not false change (Some table) is = refl
change_not true change found is = absurd (true≢false is)

pub unfound : (scene : Scene) (event name : List ℕ) → is_mine scene event ≡ false → is_mine scene name ≡ true → bytes_eq event name ≡ false
unfound scene event name off on = at (bytes_eq event name) refl where
  at : (b : Bool) → bytes_eq event name ≡ b → b ≡ false
  at true same = absurd (false≢true (sym off ∙ ap (is_mine scene) (are_same event name same) ∙ on))
  at false same = refl

-- events of other tables leave the client tables
pub others_alike : (scene : Scene) (tables : Database) (events : List RowEvent) → EventsMine scene false events → FoundAlike scene.mine tables (after_events tables events)
unfolding after_events
others_alike scene tables [] all = record { each = λ name is. refl }
others_alike scene tables (event ∷ events) all =
    let next = others_alike scene (with_change event.table (change_table event.change) tables) events all.1 in
    record { each = λ name is. sym (found_after event.table name event.change tables ∙ change_not (bytes_eq event.table name) event.change (find_table name tables) (unfound scene event.table name all.0 is)) ∙ next.each name is }

-- nobody else is touched where the tables agree under what they hold
lasting_others : (own : Bool) (before after : Database) (hold : SessionHold) (going : Going) → Agree hold.names hold.locks before after → IsLasting own before hold going → IsLasting own after hold going
lasting_others true before after hold going agree is = stable_others hold.names hold.locks going.lines (record { replies = going.replies; writes = hold.writes }) before after agree is
lasting_others false before after hold going agree is = safe_others hold.names hold.locks hold.writes before after agree is

pub fine_others : (scene : Scene) (own : Bool) (before after : Database) (hold : SessionHold) (going : Going) → Agree hold.names hold.locks before after → IsFine scene own before hold going → IsFine scene own after hold going
fine_others scene own before after hold going agree fine = record {
  lasting = lasting_others own before after hold going agree fine.lasting;
  covered = covered_others hold.names hold.locks before after hold.writes agree fine.covered;
  named = fine.named;
  lines = fine.lines;
}

lasting_rest : (own : Bool) (tables : Database) → IsWellFormedDatabase tables → IsLasting own tables no_hold not_going
lasting_rest true tables is = stable_begin tables is
lasting_rest false tables is = safe_begin tables

pub fine_rest : (scene : Scene) (own : Bool) (tables : Database) → IsWellFormedDatabase tables → IsFine scene own tables no_hold not_going
fine_rest scene own tables is = record { lasting = lasting_rest own tables is; covered = tt; named = tt; lines = tt }

-- the others, when tables become these and a session is at rest
others_fine : (scene : Scene) (now : Stored) (after : Database) (hold holds : ℕ → SessionHold) (going goings : ℕ → Going) (past : List PlainItem) (number : ℕ) → IsKept scene now hold going past → IsWellFormedDatabase after
    → Besides number hold holds no_hold → Besides number going goings not_going → ((n : ℕ) → (n == number) ≡ false → Agree (hold n).names (hold n).locks now.tables after) → (n : ℕ) → IsFine scene (scene.client n) after (holds n) (goings n)
others_fine scene now after hold holds going goings past number kept is besides lines agree n = two (n == number) refl where
  two : (b : Bool) → (n == number) ≡ b → IsFine scene (scene.client n) after (holds n) (goings n)
  two true here = let same : n ≡ number = are_one n number here in subst (λ (m : ℕ). IsFine scene (scene.client m) after (holds m) (goings m)) (sym same) (rw (besides.here, lines.here) (fine_rest scene (scene.client number) after is))
  two false here = rw (besides.there n here, lines.there n here) (fine_others scene (scene.client n) now.tables after (hold n) (going n) (agree n here) (kept.fine n))

-- the tool commits what it wrote
pub kept_writes : (scene : Scene) (now after : Stored) (hold holds : ℕ → SessionHold) (going goings : ℕ → Going) (past : List PlainItem) (number : ℕ) (own : SessionHold) (line : Going) → IsKept scene now hold going past → IsFine scene false now.tables own line
    → ((n : ℕ) → (n == number) ≡ false → Apart own.locks (hold n).locks) → Besides number hold holds no_hold → Besides number going goings not_going
    → after.tables ≡ after_events now.tables own.writes → after.log ≡ now.log ++ own.writes → IsKept scene after holds goings past
kept_writes scene now after hold holds going goings past number own line kept fine apart besides lines tables log =
    let is : IsWellFormedDatabase after.tables = rw tables (fine.lasting.each now.tables kept.well_formed (agree_itself own.names own.locks now.tables)) in
    let same : Alike scene (seen scene now) (seen scene after) = record {
      tables = rw tables (others_alike scene now.tables own.writes fine.named);
      log = sym (ap (logged scene) log ∙ logged-append scene now.log own.writes ∙ ap (λ (l : List RowEvent). logged scene now.log ++ l) (logged_none scene own.writes fine.named) ∙ append-nil (logged scene now.log));
    } in
    record {
      well_formed = is;
      serial = serial-alike scene (record { tables = scene.opening; log = [] }) (seen scene now) (seen scene after) past kept.serial same;
      fine = others_fine scene now after.tables hold holds going goings past number kept is besides lines (λ n differ. subst (λ (d : Database). Agree (hold n).names (hold n).locks now.tables d) (sym tables) (others_agree (hold n).names own.names own.locks (hold n).locks now.tables own.writes (apart n differ) fine.covered));
      apart = two_holds number hold holds no_hold besides (λ n differ. none_apart (hold n).locks) kept.apart;
    }

-- a session's transaction goes on, a client's or the tool's
pub kept_goes : (scene : Scene) (now : Stored) (hold holds : ℕ → SessionHold) (going goings : ℕ → Going) (past : List PlainItem) (number : ℕ) (own : SessionHold) (line : Going) → IsKept scene now hold going past → IsFine scene (scene.client number) now.tables own line
    → ((n : ℕ) → (n == number) ≡ false → Apart own.locks (hold n).locks) → Besides number hold holds own → Besides number going goings line → IsKept scene now holds goings past
kept_goes scene now hold holds going goings past number own line kept fine apart besides lines = record {
  well_formed = kept.well_formed;
  serial = kept.serial;
  fine = λ n. two n (n == number) refl;
  apart = two_holds number hold holds own besides apart kept.apart;
} where
  two : (n : ℕ) (b : Bool) → (n == number) ≡ b → IsFine scene (scene.client n) now.tables (holds n) (goings n)
  two n true is = let same : n ≡ number = are_one n number is in subst (λ (m : ℕ). IsFine scene (scene.client m) now.tables (holds m) (goings m)) (sym same) (rw (besides.here, lines.here) fine)
  two n false is = rw (besides.there n is, lines.there n is) (kept.fine n)

-- a client's transaction ends
pub kept_ends : (scene : Scene) (now after : Stored) (hold holds : ℕ → SessionHold) (going goings : ℕ → Going) (past : List PlainItem) (number : ℕ) (own : SessionHold) (line : Going) (ended : TxnEnd) → IsKept scene now hold going past → IsFine scene true now.tables own line
    → ((n : ℕ) → (n == number) ≡ false → Apart own.locks (hold n).locks) → Besides number hold holds no_hold → Besides number going goings not_going
    → after.tables ≡ cond (stays line.lines) (after_events now.tables own.writes) now.tables → after.log ≡ now.log ++ cond (stays line.lines) own.writes []
    → IsKept scene after holds goings (past ++ Txn (record { txn = record { lines = line.lines; ended = ended }; replies = line.replies }) ∷ [])
unfolding alone
kept_ends scene now after hold holds going goings past number own line ended kept fine apart besides lines tables log =
    let run : RunSo line.lines (record { replies = line.replies; writes = own.writes }) now.tables = stable_end own.names own.locks line.lines (record { replies = line.replies; writes = own.writes }) now.tables kept.well_formed fine.lasting in
    let is : IsWellFormedDatabase after.tables = rw tables (left (stays line.lines) run.well_formed) in
    record {
      well_formed = is;
      serial = serial-more scene (record { tables = scene.opening; log = [] }) (seen scene now) (seen scene after) past (Txn (record { txn = record { lines = line.lines; ended = ended }; replies = line.replies })) kept.serial
          (leads (stays line.lines) run.runs tables (seen_log (stays line.lines) log));
      fine = others_fine scene now after.tables hold holds going goings past number kept is besides lines (λ n differ. subst (λ (d : Database). Agree (hold n).names (hold n).locks now.tables d) (sym tables) (others n (stays line.lines) differ));
      apart = two_holds number hold holds no_hold besides (λ n differ. none_apart (hold n).locks) kept.apart;
    } where
      left : (b : Bool) → IsWellFormedDatabase (after_events now.tables own.writes) → IsWellFormedDatabase (cond b (after_events now.tables own.writes) now.tables)
      left true written = written
      left false written = kept.well_formed

      own_log : (b : Bool) → logged scene (cond b own.writes []) ≡ cond b own.writes []
      own_log true = logged_own scene own.writes fine.named
      own_log false = refl

      seen_log : (b : Bool) → after.log ≡ now.log ++ cond b own.writes [] → logged scene after.log ≡ logged scene now.log ++ cond b own.writes []
      seen_log b is = ap (logged scene) is ∙ logged-append scene now.log (cond b own.writes []) ∙ ap (λ (l : List RowEvent). logged scene now.log ++ l) (own_log b)

      leads : (b : Bool) → lines_run now.tables nothing_ran line.lines ≡ record { replies = line.replies; writes = own.writes } → after.tables ≡ cond b (after_events now.tables own.writes) now.tables → logged scene after.log ≡ logged scene now.log ++ cond b own.writes []
          → (line.replies ≡ (outcome_if b now.tables (lines_run now.tables nothing_ran line.lines)).replies) × (after.tables ≡ (outcome_if b now.tables (lines_run now.tables nothing_ran line.lines)).tables) × (logged scene after.log ≡ logged scene now.log ++ (outcome_if b now.tables (lines_run now.tables nothing_ran line.lines)).committed) × AllByRecursion (λ l. NamesTable scene.mine l.word) line.lines
      leads true runs t l = rw runs (refl, t, l, fine.lines)
      leads false runs t l = rw runs (refl, t, l, fine.lines)

      others : (n : ℕ) (b : Bool) → (n == number) ≡ false → Agree (hold n).names (hold n).locks now.tables (cond b (after_events now.tables own.writes) now.tables)
      others n true is = others_agree (hold n).names own.names own.locks (hold n).locks now.tables own.writes (apart n is) fine.covered
      others n false is = agree_itself (hold n).names (hold n).locks now.tables

-- nothing is kept less where nothing that is spoken of changes
pub kept_same : (scene : Scene) (now : Stored) (hold holds : ℕ → SessionHold) (going goings : ℕ → Going) (past : List PlainItem) → ((n : ℕ) → holds n ≡ hold n) → ((n : ℕ) → goings n ≡ going n) → IsKept scene now hold going past → IsKept scene now holds goings past
kept_same scene now hold holds going goings past holds_are goings_are kept = record {
  well_formed = kept.well_formed;
  serial = kept.serial;
  fine = λ n. rw (holds_are n, goings_are n) (kept.fine n);
  apart = λ m n differ. rw (holds_are m, holds_are n) (kept.apart m n differ);
}

-- whole tables change whose names nobody holds
pub kept_moves : (scene : Scene) (now after : Stored) (hold : ℕ → SessionHold) (going : ℕ → Going) (past more : List PlainItem) → IsKept scene now hold going past → Serial scene (record { tables = scene.opening; log = [] }) more (seen scene after) → IsWellFormedDatabase after.tables
    → ((n : ℕ) (name : List ℕ) → list_any (bytes_eq name) (hold n).names ≡ true → find_table name after.tables ≡ find_table name now.tables) → IsKept scene after hold going more
kept_moves scene now after hold going past more kept serial is others = record {
  well_formed = is;
  serial = serial;
  fine = λ n. fine_others scene (scene.client n) now.tables after.tables (hold n) (going n) (record { tables = λ name held. rw (others n name held) (tables_itself (hold n).locks (find_table name now.tables)) }) (kept.fine n);
  apart = kept.apart;
}
