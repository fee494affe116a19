-- What a statement writes lies under what it needs; and what one session writes lies under no lock of another.
use Rattle.std.proofs.Common.{◌≡◌, ℕ, ◌==◌, Bool, true, false, not, ◌||◌, List, [], ◌∷◌, ◌++◌, map, cond, Option, Some, None, Result, Ok, Err, refl, sym, ap, ◌∙◌}
use Rattle.std.proofs.Math.Bool.{and-true}
use Rattle.std.proofs.lemmas.Bool.{false≢true, true≢false, and_parts}
use Rattle.std.specs.List.{AllByRecursion, list_any, slice_get}
use Rattle.std.specs.Str.{bytes_eq}
use Rattle.base_values.specs.declared.value.Value.{Value}
use Rattle.base_values.specs.Spans.{has, meets, point}
use Rattle.base_values.proofs.SpanLaws.{point_meets}
use Rattle.base_values.specs.declared.gho_schema.schema.Schema.{Schema}
use Rattle.base_values.specs.declared.gho_schema.schema.Index.{Index}
use Rattle.base_values.specs.GhoSchema.Rows.{key_of, key_places, with_row}
use Rattle.base_values.specs.GhoSchema.Tables.{clash, no_null}
use Rattle.base_values.specs.declared.event.Change.{Change}
use Rattle.base_values.specs.declared.event.Change.TheVariants as changes
use Rattle.base_values.specs.declared.mysql_errors.TheConstants.{ER_DUP_ENTRY}
use Rattle.server_model.specs.declared.answer.Answer.{Answer}
use Rattle.server_model.specs.declared.answer.Answer.TheVariants as answers
use Rattle.server_model.specs.Answers.{refuses}
use Rattle.server_locks.specs.declared.row_locks.lock.Lock.{Lock}
use Rattle.server_locks.specs.RowLocks.Grants.{conflict}
use Rattle.table_store.proofs.Orders.{Row}
use Rattle.server_model.specs.Rows.{rows_met, same_row, stands, lies_under, without_row, change_rows, change_all}
use Rattle.server_model.specs.declared.work.Work.{Work}
use Rattle.server_model.specs.declared.work.Work.TheVariants.{Refuse, Insert, Copy, Replace, Delete, Update, Select}
use Rattle.server_model.specs.StatementResults.{only, displaced, with_sets, clashes_besides, change_first, updates, updated, tells, result_or_refusal}
use Rattle.server_model.specs.Needs.{lock_on, points, points_of, needs}
use Rattle.server_model.specs.LockedRows.Agreement.{covers, is_under, SameWhere, Among, Within}
use Rattle.server_model.specs.LockedRows.Coverage.{rows_of, RowsCovered, Covered, Apart}
use Rattle.server_model.proofs.LockedRows.Standing.{one_row, stands-put, stands-filter}
use Rattle.server_model.proofs.LockedRows.Points.{within-left, within-right, within-itself, within-parts, among-within, point_of}
use Rattle.server_model.proofs.LockedRows.Tests.{same_number, same_bytes, are_same}

covered-both : (schema : Schema) (locks : List Lock) (a b : List Change) → Covered schema locks a → Covered schema locks b → Covered schema locks (a ++ b)
covered-both schema locks [] b one two = two
covered-both schema locks (x ∷ a) b one two = (one.0, covered-both schema locks a b one.1 two)

removals : (schema : Schema) (locks : List Lock) (rows : List Row) → Within (points_of schema rows) locks → Covered schema locks (map changes.Delete rows)
removals schema locks [] within = tt
removals schema locks (row ∷ rows) within =
    let parts = within-parts (points schema row) (points_of schema rows) locks within in
    ((parts.0, tt), removals schema locks rows parts.1)

abbrev pub ResultCovered : Schema → List Lock → Result (List Change) Answer → Type 0
ResultCovered schema locks (Ok all) = Covered schema locks all
ResultCovered schema locks (Err refusal) = Unit {0}

one_more : (schema : Schema) (locks : List Lock) (change : Change) (result : Result (List Change) Answer) → RowsCovered schema locks (rows_of change) → ResultCovered schema locks result → ResultCovered schema locks (change_first change result)
one_more schema locks change (Ok all) now later = (now, later)
one_more schema locks change (Err refusal) now later = tt

updates_here : (schema : Schema) (locks : List Lock) (b c : Bool) (still later : Result (List Change) Answer) → ResultCovered schema locks still → ResultCovered schema locks later → ResultCovered schema locks (cond b still (cond c (Err (refuses ER_DUP_ENTRY)) later))
updates_here schema locks true c still later one two = one
updates_here schema locks false true still later one two = tt
updates_here schema locks false false still later one two = two

updates_covered : (schema : Schema) (sets : List (Option Value)) (locks : List Lock) (met rows : List Row) → Within (points_of schema met) locks → Within (points_of schema (map (with_sets sets) met)) locks → ResultCovered schema locks (updates schema sets met rows)
unfolding updates
updates_covered schema sets locks [] rows one two = tt
updates_covered schema sets locks (old ∷ met) rows one two =
    let olds = within-parts (points schema old) (points_of schema met) locks one in
    let news = within-parts (points schema (with_sets sets old)) (points_of schema (map (with_sets sets) met)) locks two in
    let change : Change = changes.Update old (with_sets sets old) in
    updates_here schema locks (same_row old (with_sets sets old)) (clashes_besides schema (with_sets sets old) old rows) (updates schema sets met rows)
    (change_first change (updates schema sets met (change_rows (key_places schema) change rows))) (updates_covered schema sets locks met rows olds.1 news.1)
    (one_more schema locks change (updates schema sets met (change_rows (key_places schema) change rows)) (olds.0, (news.0, tt)) (updates_covered schema sets locks met (change_rows (key_places schema) change rows) olds.1 news.1))

reported_covered : (schema : Schema) (locks : List Lock) (result : Result (List Change) Answer) → ResultCovered schema locks result → Covered schema locks (result_or_refusal result).changes
reported_covered schema locks (Ok all) is = is
reported_covered schema locks (Err refusal) is = tt

insert_covered : (schema : Schema) (locks : List Lock) (row : Row) (refusal : Answer) (b : Bool) → Within (points schema row) locks
    → Covered schema locks (cond b (only refusal) (record { answer = answers.Ok 1; changes = changes.Write row ∷ [] })).changes
insert_covered schema locks row refusal true within = tt
insert_covered schema locks row refusal false within = ((within, tt), tt)

refused_covered : (schema : Schema) (locks : List Lock) (at : _) (met rows : List Row) → Covered schema locks (updated schema (Err at) met rows).changes
refused_covered schema locks at [] rows = tt
refused_covered schema locks at (row ∷ met) rows = tt

-- *Covered*: what a statement writes lies under what it needs
pub tells_covered : (schema : Schema) (rows : List Row) (work : Work) → Covered schema (needs schema rows work) (tells schema rows work).changes
unfolding tells needs
tells_covered schema rows (Refuse refusal) = tt
tells_covered schema rows (Insert row) = insert_covered schema (points schema row) row (refuses ER_DUP_ENTRY) (list_any (clash schema.uniques row) rows) (within-itself (points schema row))
tells_covered schema rows (Copy row) = insert_covered schema (points schema row) row (answers.Ok 0) (list_any (clash schema.uniques row) rows) (within-itself (points schema row))
tells_covered schema rows (Replace row) =
    let gone = displaced schema row rows in
    let locks : List Lock = points schema row ++ points_of schema gone in
    covered-both schema locks (map changes.Delete gone) (changes.Write row ∷ []) (removals schema locks gone (within-right (points_of schema gone) (points schema row) (points_of schema gone) (within-itself (points_of schema gone))))
    ((within-left (points schema row) (points schema row) (points_of schema gone) (within-itself (points schema row)), tt), tt)
tells_covered schema rows (Delete reach) =
    let met = rows_met schema reach rows in
    removals schema (lock_on schema true reach ∷ points_of schema met) met (within-right (points_of schema met) (lock_on schema true reach ∷ []) (points_of schema met) (within-itself (points_of schema met)))
tells_covered schema rows (Update reach (Err at)) = refused_covered schema (needs schema rows (Update reach (Err at))) at (rows_met schema reach rows) rows
tells_covered schema rows (Update reach (Ok sets)) =
    let met = rows_met schema reach rows in
    let olds : List Lock = points_of schema met in
    let news : List Lock = points_of schema (map (with_sets sets) met) in
    let locks : List Lock = lock_on schema true reach ∷ (olds ++ news) in
    reported_covered schema locks (updates schema sets met rows)
    (updates_covered schema sets locks met rows (within-right olds (lock_on schema true reach ∷ []) (olds ++ news) (within-left olds olds news (within-itself olds)))
    (within-right news (lock_on schema true reach ∷ olds) news (within-itself news)))
tells_covered schema rows (Select reach selection) = tt

-- a lock that covers a row meets the row's point of its key
pub record Found (schema : Schema) (row : Row) (lock : Lock) : Type 0 where
  pub index : Index
  pub stands : slice_get schema.uniques lock.key ≡ Some index
  pub named : bytes_eq lock.table schema.name ≡ true
  pub full : no_null (key_of index.places row) ≡ true
  pub within : has lock.span (key_of index.places row) ≡ true

found_key : (schema : Schema) (row : Row) (lock : Lock) (found : Option Index) → slice_get schema.uniques lock.key ≡ found → bytes_eq lock.table schema.name ≡ true → lies_under found lock.span row ≡ true → Found schema row lock
unfolding lies_under
found_key schema row lock None stood named is = absurd (false≢true is)
found_key schema row lock (Some index) stood named is =
    record { index = index; stands = stood; named = named; full = (and_parts (no_null (key_of index.places row)) (has lock.span (key_of index.places row)) is).0; within = (and_parts (no_null (key_of index.places row)) (has lock.span (key_of index.places row)) is).1 }

found_lock : (schema : Schema) (row : Row) (lock : Lock) → covers schema row lock ≡ true → Found schema row lock
found_lock schema row lock is =
    found_key schema row lock (slice_get schema.uniques lock.key) refl ((and_parts (bytes_eq lock.table schema.name) (lies_under (slice_get schema.uniques lock.key) lock.span row) is).0)
    ((and_parts (bytes_eq lock.table schema.name) (lies_under (slice_get schema.uniques lock.key) lock.span row) is).1)

bytes_turn : (a b : List ℕ) → bytes_eq a b ≡ true → bytes_eq b a ≡ true
bytes_turn a b is = ap (bytes_eq b) (are_same a b is) ∙ same_bytes b

-- a row's point and a lock that covers the row conflict
meets_point : (schema : Schema) (row : Row) (lock : Lock) (found : Found schema row lock) → conflict (lock_on schema true (record { key = lock.key; span = point (key_of found.index.places row) })) lock ≡ true
unfolding conflict
meets_point schema row lock found =
    let name : bytes_eq schema.name lock.table ≡ true = bytes_turn lock.table schema.name found.named in
    let span : meets (point (key_of found.index.places row)) lock.span ≡ true = point_meets (key_of found.index.places row) lock.span ∙ found.within in
    let key : (lock.key == lock.key) ≡ true = same_number lock.key in rw (name, key, span) refl

own_conflict : (schema : Schema) (own others : List Lock) (row : Row) (other : Lock) (b rest : Bool) → covers schema row other ≡ b → Apart own others → Within (points schema row) own → Among other others → rest ≡ false → (b || rest) ≡ false
own_conflict schema own others row other true rest is apart within one none =
    let found : Found schema row other = found_lock schema row other is in
    let own_lock : Lock = lock_on schema true (record { key = other.key; span = point (key_of found.index.places row) }) in
    let mine : Among own_lock own = among-within own_lock (points schema row) own (point_of schema other.key found.index row found.stands found.full) within in
    absurd (false≢true (sym (apart own_lock other mine one) ∙ meets_point schema row other found))
own_conflict schema own others row other false rest is apart within one none = none

under_none : (schema : Schema) (own others some : List Lock) (row : Row) → Apart own others → Within (points schema row) own → Within some others → is_under schema some row ≡ false
unfolding is_under
under_none schema own others [] row apart within inside = refl
under_none schema own others (other ∷ some) row apart within inside =
    own_conflict schema own others row other (covers schema row other) (is_under schema some row) refl apart within inside.0 (under_none schema own others some row apart within inside.1)

-- a row whose points one session holds lies under no lock of another
pub not_under : (schema : Schema) (own others : List Lock) (row : Row) → Apart own others → Within (points schema row) own → is_under schema others row ≡ false
not_under schema own others row apart within = under_none schema own others others row apart within (within-itself others)

-- rows that lie under a test stand as before where changes put and remove only others
other_row : (test : Row → Bool) (row new : Row) → test row ≡ true → test new ≡ false → same_row row new ≡ false
other_row test row new is not_new = at (same_row row new) refl where
  at : (b : Bool) → same_row row new ≡ b → b ≡ false
  at true same = absurd (true≢false (sym is ∙ ap test (one_row row new same) ∙ not_new))
  at false same = refl

other_row2 : (test : Row → Bool) (row new : Row) → test row ≡ true → test new ≡ false → same_row new row ≡ false
other_row2 test row new is not_new = at (same_row new row) refl where
  at : (b : Bool) → same_row new row ≡ b → b ≡ false
  at true same = absurd (true≢false (sym is ∙ ap test (sym (one_row new row same)) ∙ not_new))
  at false same = refl

put_elsewhere : (test : Row → Bool) (places : List ℕ) (new : Row) (rows : List Row) → test new ≡ false → SameWhere test rows (with_row places new rows)
put_elsewhere test places new rows not_new row is = sym (stands-put places row new rows ∙ rw (other_row test row new is not_new) refl)

gone_elsewhere : (test : Row → Bool) (gone : Row) (rows : List Row) → test gone ≡ false → SameWhere test rows (without_row gone rows)
gone_elsewhere test gone rows not_gone row is = sym (stands-filter (λ other. not (same_row gone other)) row rows ∙ rw (other_row2 test row gone is not_gone) (and-true (stands row rows)))

same-then : (test : Row → Bool) (a b c : List Row) → SameWhere test a b → SameWhere test b c → SameWhere test a c
same-then test a b c one two row is = one row is ∙ two row is

changed_elsewhere : (test : Row → Bool) (places : List ℕ) (change : Change) (rows : List Row) → AllByRecursion (λ row. test row ≡ false) (rows_of change) → SameWhere test rows (change_rows places change rows)
unfolding change_rows
changed_elsewhere test places (changes.Write row) rows outside = put_elsewhere test places row rows outside.0
changed_elsewhere test places (changes.Update before after) rows outside =
    same-then test rows (without_row before rows) (with_row places after (without_row before rows)) (gone_elsewhere test before rows outside.0) (put_elsewhere test places after (without_row before rows) outside.1.0)
changed_elsewhere test places (changes.Delete row) rows outside = gone_elsewhere test row rows outside.0

outside_all : (schema : Schema) (own others : List Lock) (rows : List Row) → Apart own others → RowsCovered schema own rows → AllByRecursion (λ row. is_under schema others row ≡ false) rows
outside_all schema own others [] apart covered = tt
outside_all schema own others (row ∷ rows) apart covered = (not_under schema own others row apart covered.0, outside_all schema own others rows apart covered.1)

-- what one session changes is no row under another's locks
pub others_kept : (schema : Schema) (places : List ℕ) (own others : List Lock) (all : List Change) (rows : List Row) → Apart own others → Covered schema own all → SameWhere (is_under schema others) rows (change_all places all rows)
unfolding change_all
others_kept schema places own others [] rows apart covered = λ row is. refl
others_kept schema places own others (change ∷ all) rows apart covered =
    same-then (is_under schema others) rows (change_rows places change rows) (change_all places all (change_rows places change rows))
    (changed_elsewhere (is_under schema others) places change rows (outside_all schema own others (rows_of change) apart covered.0))
    (others_kept schema places own others all (change_rows places change rows) apart covered.1)
