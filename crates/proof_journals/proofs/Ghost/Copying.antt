-- The copier's steps by what it was told: the chunk's begin, its rows key by key, its COMMIT; and what its share lock gives.
use Rattle.std.proofs.Common.{◌≡◌, ℕ, zero, suc, Bool, true, false, ◌||◌, List, [], ◌∷◌, ◌++◌, length, filter, take, find, Option, Some, None, Ok, refl, sym, ap, ◌∙◌, subst}
use Rattle.std.specs.Prelude.{◌==◌}
use Rattle.std.proofs.lemmas.Bool.{false≢true, true≢false}
use Rattle.std.proofs.Math.Path.{fun_ext}
use Rattle.std.proofs.Math.Seq.{take-length}
use Rattle.std.specs.List.{AllByRecursion, list_any, slice_get}
use Rattle.std.specs.Ordering.{is_eq}
use Rattle.base_values.specs.KeyOrder.{compare_keys}
use Rattle.base_values.specs.declared.span.Bound.{Bound}
use Rattle.base_values.specs.declared.span.Bound.TheVariants.{Open, Closed}
use Rattle.base_values.specs.declared.span.Span.{Span}
use Rattle.base_values.specs.Spans.{has}
use Rattle.base_values.proofs.Orders.{tied_keys}
use Rattle.base_values.specs.GhoSchema.Rows.{key_of, key_places}
use Rattle.base_values.specs.GhoSchema.Tables.{Ascends}
use Rattle.base_values.specs.RowConversion.ConvertedRows.{converted_row}
use Rattle.base_values.specs.declared.event.RowEvent.{RowEvent}
use Rattle.server_locks.specs.declared.row_locks.lock.Lock.{Lock}
use Rattle.table_store.specs.Databases.{TableRows, Database, find_table}
use Rattle.table_store.specs.RowLists.{is_at}
use Rattle.table_store.proofs.Orders.{is_Equal}
use Rattle.server_model.specs.declared.work.Work.TheVariants as works
use Rattle.proof_journals.proofs.Ghost.Chunks.{copied_by_key, span_same}
use Rattle.proof_journals.proofs.Ghost.Ending.{all_joins, chunk_joins}
use Rattle.proof_journals.proofs.Ghost.Joining.{table_exists}
use Rattle.proof_journals.proofs.Ghost.Keeping.{chunk_keeps}
use Rattle.proof_journals.proofs.Ghost.Saying.{step_keeps}
use Rattle.proof_journals.proofs.Ghost.Stepping.{copy_keeps, span_keeps}
use Rattle.proof_journals.specs.Ghost.Given.{IsGiven}
use Rattle.proof_journals.specs.Ghost.HeldKeys.{Clustered, is_locked}
use Rattle.proof_journals.specs.Ghost.Invariant.{GhostInvariant, IsServed}
use Rattle.proof_journals.specs.Ghost.Joined.{AreGranted, IsJoined}
use Rattle.proof_journals.specs.Ghost.Statements.{DoesWork}
use Rattle.proof_journals.specs.Ghost.Tool.{SomeRow, HoldsSpan}
use Rattle.proof_journals.specs.Ghost.Relation.Views.{Progress}
use Rattle.proof_journals.proofs.Ghost.Rows.Finishing.{all_found}
use Rattle.proof_journals.proofs.Ghost.Rows.Overlays.{beside_elsewhere}
use Rattle.proof_journals.specs.Ghost.Rows.Moments.{Row, rows_after_all, rows_at}
use Rattle.proof_journals.specs.Ghost.Rows.Timelines.{IsPlanned, Migration}
use Rattle.proof_journals.specs.Ghost.Rows.UnderWay.{IsUnderWay}
use Rattle.proof_journals.specs.Ghost.Rows.Views.{chunk_view, GhostRows, ghost_row, is_among, is_done, is_done_in, view_of}
use Rattle.proof_journals.proofs.Kept.{apart-turn}
use Rattle.proof_journals.specs.Scenes.{Besides, SessionHold, Stored, no_hold}
use Rattle.server_model.specs.Chunks.{keys_of}
use Rattle.server_model.specs.Operations.{Operation, after_events}
use Rattle.server_model.specs.StatementResults.{tells}
use Rattle.server_model.proofs.LockedRows.Stables.{others_agree}
use Rattle.server_model.specs.LockedRows.Agreement.{Agree, SameWhere, TablesAgree, Within, is_under}
use Rattle.server_model.specs.LockedRows.Coverage.{Apart}
use Rattle.server_model.proofs.LockedRows.Tests.{or_swapped}

-- the keys that were taken may be listed in any order
pub retaken : (m : Migration) (rows : List Row) (done half : Row → Bool) (taken other : List Row) (progress : Progress Row) (ghost : GhostRows) (copier applier : ℕ) (now : Stored) (hold : ℕ → SessionHold) → ((key : Row) → is_among taken key ≡ is_among other key)
    → GhostInvariant m rows done half taken progress ghost copier applier now hold → GhostInvariant m rows done half other progress ghost copier applier now hold
retaken m rows done half taken other progress ghost copier applier now hold same kept =
    let g : AreGranted m (hold applier).locks (hold copier).locks taken progress ghost = kept.joined.granted in
    record {
      joined = record {
        under_way = kept.joined.under_way;
        granted = record { apart = g.apart; applier_holds = g.applier_holds; copier_holds = g.copier_holds ∙ fun_ext same; taken = λ key among. g.taken key (same key ∙ among); batch = g.batch; chunk = g.chunk };
      };
      old = kept.old;
      new = kept.new;
      batch = kept.batch;
      chunk = kept.chunk;
      differ = kept.differ;
    }

-- one key more of those told
pub among_next : (keys : List Row) (n : ℕ) (key other : Row) → slice_get keys n ≡ Some key → is_among (key ∷ take n keys) other ≡ is_among (take (suc n) keys) other
unfolding is_among
among_next [] n key other at = absurd cc
among_next (first ∷ keys) zero key other at = let one : first ≡ key = cc in ap (λ (k : Row). is_eq (compare_keys other k) || false) (sym one)
among_next (first ∷ keys) (suc n) key other at =
    or_swapped (is_eq (compare_keys other key)) (is_eq (compare_keys other first)) (list_any (λ k. is_eq (compare_keys other k)) (take n keys))
    ∙ ap (λ (b : Bool). is_eq (compare_keys other first) || b) (among_next keys n key other at)

-- *A row*: CopyRow of the next key told
pub copies_next : (m : Migration) (rows : List Row) (done half : Row → Bool) (keys : List Row) (n : ℕ) (progress : Progress Row) (ghost : GhostRows) (copier applier : ℕ) (now : Stored) (hold holds : ℕ → SessionHold) (own : SessionHold) (task : Operation) (key row made : Row) → IsPlanned m rows → IsServed now hold
    → GhostInvariant m rows done half (take n keys) progress ghost copier applier now hold → (applier == copier) ≡ false → slice_get keys n ≡ Some key → DoesWork m task (works.Copy made) → IsGiven now hold copier task own → Besides copier hold holds own
    → find (is_at (key_places m.schema) key) (rows_at m.name (key_places m.schema) rows now.log progress.end) ≡ Some row → converted_row m.columns row ≡ Ok made
    → GhostInvariant m rows done half (take (suc n) keys) (record progress { copier_holds = is_among (key ∷ take n keys) }) (record ghost { chunk = ghost.chunk ++ (tells m.new (chunk_view m ghost) (works.Copy made)).changes }) copier applier now holds
copies_next m rows done half keys n progress ghost copier applier now hold holds own task key row made planned served kept differ at is given besides found imaged =
    let fits = (table_exists m rows now.log done half progress ghost progress.end planned kept.joined.under_way).rows_fit in
    let copied = copied_by_key m rows now.log progress.end key row made planned fits found imaged in
    retaken m rows done half (key ∷ take n keys) (take (suc n) keys) (record progress { copier_holds = is_among (key ∷ take n keys) }) (record ghost { chunk = ghost.chunk ++ (tells m.new (chunk_view m ghost) (works.Copy made)).changes }) copier applier now holds (λ other. among_next keys n key other at)
    (subst (λ (k : Row). GhostInvariant m rows done half (k ∷ take n keys) (record progress { copier_holds = is_among (k ∷ take n keys) }) (record ghost { chunk = ghost.chunk ++ (tells m.new (chunk_view m ghost) (works.Copy made)).changes }) copier applier now holds) copied.0
    (copy_keeps m rows done half (take n keys) progress ghost copier applier now hold holds own task row made planned served kept differ is given besides copied.1))

-- *The chunk's begin*: BeginSpan
pub begins_span : (m : Migration) (rows : List Row) (half : Row → Bool) (progress : Progress Row) (ghost : GhostRows) (copier applier : ℕ) (now : Stored) (hold holds : ℕ → SessionHold) (own : SessionHold) (keys : List Row) (low : Bound) (high top : Row) → GhostInvariant m rows (is_done (Some (record { low = low; high = Closed top }))) half [] progress ghost copier applier now hold
    → (applier == copier) ≡ false → Besides copier hold holds own → Within (hold copier).locks own.locks → Apart own.locks (hold applier).locks → own.writes ≡ (hold copier).writes
    → keys ≡ keys_of (key_places m.schema) (filter (λ row. has (record { low = low; high = Closed high }) (key_of (key_places m.schema) row)) (rows_at m.name (key_places m.schema) rows now.log progress.end))
    → GhostInvariant m rows (is_done_in (Some (record { low = low; high = Closed top })) (Some (record { low = Open high; high = Closed top })) keys) half (take 0 keys) progress ghost copier applier now holds
begins_span m rows half progress ghost copier applier now hold holds own keys low high top kept differ besides within apart wrote reported =
    let done : Row → Bool = is_done (Some (record { low = low; high = Closed top })) in
    let there : GhostInvariant m rows done half [] progress ghost copier applier now holds = span_keeps m rows done half [] progress ghost copier applier now hold holds own kept differ besides within apart wrote in
    step_keeps m rows done half (is_done_in (Some (record { low = low; high = Closed top })) (Some (record { low = Open high; high = Closed top })) keys) half [] progress progress ghost copier applier now holds there
    (chunk_joins m rows now.log half (holds applier).locks (holds copier).locks [] progress ghost keys low high top reported there.joined)

-- *The chunk's COMMIT*, when all keys told are taken
pub commits_chunk : (m : Migration) (rows : List Row) (left following : Option Span) (keys : List Row) (half : Row → Bool) (progress : Progress Row) (ghost : GhostRows) (copier applier : ℕ) (now after : Stored) (hold holds : ℕ → SessionHold) → IsPlanned m rows → IsServed now hold
    → GhostInvariant m rows (is_done_in left following keys) half (take (length keys) keys) progress ghost copier applier now hold → (applier == copier) ≡ false → Besides copier hold holds no_hold → after.tables ≡ after_events now.tables (hold copier).writes → after.log ≡ now.log ++ (hold copier).writes
    → GhostInvariant m rows (is_done following) half [] (record progress { end = length after.log; copier_holds = λ _. false }) (record ghost { committed = rows_after_all (key_places m.new) ghost.chunk ghost.committed; chunk = [] }) copier applier after holds
commits_chunk m rows left following keys half progress ghost copier applier now after hold holds planned served kept differ besides tables log =
    chunk_keeps m rows left following keys half (take (length keys) keys) progress ghost copier applier now after hold holds planned served kept differ (λ key. ap (λ (ks : List Row). is_among ks key) (take-length keys)) besides tables log

-- the chunk that ends at the greatest key was the last
pub copied_all : (m : Migration) (rows : List Row) (half : Row → Bool) (progress : Progress Row) (ghost : GhostRows) (copier applier : ℕ) (now : Stored) (hold : ℕ → SessionHold) (top : Row) → GhostInvariant m rows (is_done (Some (record { low = Open top; high = Closed top }))) half [] progress ghost copier applier now hold
    → GhostInvariant m rows (is_done None) half [] progress ghost copier applier now hold
copied_all m rows half progress ghost copier applier now hold top kept =
    step_keeps m rows (is_done (Some (record { low = Open top; high = Closed top }))) half (is_done None) half [] progress progress ghost copier applier now hold kept (all_joins m rows now.log half (hold applier).locks (hold copier).locks [] progress ghost top kept.joined)

-- ---- the share lock

same_in : (m : Migration) (locks : List Lock) (a b : List Row) → TablesAgree locks (Some (record { schema = m.schema; rows = a })) (Some (record { schema = m.schema; rows = b })) → SameWhere (is_under m.schema locks) a b
same_in m locks a b agree = agree.1

-- *What others commit leaves the rows of the span*: the keys told stay those of its rows.
pub span_stays : (m : Migration) (rows : List Row) (done half next next_half : Row → Bool) (taken other : List Row) (progress later : Progress Row) (ghost ghost' : GhostRows) (copier applier number : ℕ) (now after : Stored) (hold holds : ℕ → SessionHold) (at : Clustered m.schema) (span : Span) → IsPlanned m rows → IsServed now hold
    → GhostInvariant m rows done half taken progress ghost copier applier now hold → GhostInvariant m rows next next_half other later ghost' copier applier after holds → (copier == number) ≡ false → HoldsSpan m at span (hold copier) → after.tables ≡ after_events now.tables (hold number).writes
    → filter (λ row. has span (key_of (key_places m.schema) row)) (rows_at m.name (key_places m.schema) rows now.log (length now.log)) ≡ filter (λ row. has span (key_of (key_places m.schema) row)) (rows_at m.name (key_places m.schema) rows after.log (length after.log))
span_stays m rows done half next next_half taken other progress later ghost ghost' copier applier number now after hold holds at span planned served kept then differ spans tables =
    let a : List Row = rows_at m.name (key_places m.schema) rows now.log (length now.log) in
    let b : List Row = rows_at m.name (key_places m.schema) rows after.log (length after.log) in
    let agree : Agree (hold copier).names (hold copier).locks now.tables after.tables =
    subst (λ (d : Database). Agree (hold copier).names (hold copier).locks now.tables d) (sym tables)
    (others_agree (hold copier).names (hold number).names (hold number).locks (hold copier).locks now.tables (hold number).writes (apart-turn (hold copier).locks (hold number).locks (served.apart copier number differ)) (served.covered number)) in
    let both : TablesAgree (hold copier).locks (Some (record { schema = m.schema; rows = a })) (Some (record { schema = m.schema; rows = b })) =
    subst (λ (t : Option TableRows). TablesAgree (hold copier).locks t (Some (record { schema = m.schema; rows = b }))) kept.old
    (subst (λ (t : Option TableRows). TablesAgree (hold copier).locks (find_table m.name now.tables) t) then.old (agree.tables m.name spans.named)) in
    span_same m.schema planned.old_key at span (hold copier).locks a b (table_exists m rows now.log done half progress ghost (length now.log) planned kept.joined.under_way) (table_exists m rows after.log next next_half later ghost' (length after.log) planned then.joined.under_way) spans.among (same_in m (hold copier).locks a b both)

key_here : (places : List ℕ) (key row : Row) (all : List Row) (b rest : Bool) → is_eq (compare_keys key (key_of places row)) ≡ b → find (is_at places (key_of places row)) all ≡ Some row → (rest ≡ true → SomeRow places key all) → (b || rest) ≡ true → SomeRow places key all
key_here places key row all true rest same found more some = (row, subst (λ (k : Row). find (is_at places k) all ≡ Some row) (sym (tied_keys key (key_of places row) (is_Equal (compare_keys key (key_of places row)) same))) found)
key_here places key row all false rest same found more some = more some

among_keys : (places : List ℕ) (key : Row) (all rows : List Row) → AllByRecursion (λ row. find (is_at places (key_of places row)) all ≡ Some row) rows → is_among (keys_of places rows) key ≡ true → SomeRow places key all
unfolding is_among
among_keys places key all [] found among = absurd (false≢true among)
among_keys places key all (row ∷ rows) found among = key_here places key row all (is_eq (compare_keys key (key_of places row))) (list_any (λ k. is_eq (compare_keys key k)) (keys_of places rows)) refl found.0 (among_keys places key all rows found.1) among

pub key_stands : (m : Migration) (rows now : List Row) (span : Span) (key : Row) → Ascends (key_places m.schema) now → is_among (keys_of (key_places m.schema) (filter (λ row. has span (key_of (key_places m.schema) row)) now)) key ≡ true
    → (row : Row) × (find (is_at (key_places m.schema) key) now ≡ Some row)
key_stands m rows now span key ascends among =
    among_keys (key_places m.schema) key now (filter (λ row. has span (key_of (key_places m.schema) row)) now)
    (Rattle.table_store.proofs.Ascending.all-filter (λ row. find (is_at (key_places m.schema) (key_of (key_places m.schema) row)) now ≡ Some row) (λ row. has span (key_of (key_places m.schema) row)) now (all_found (key_places m.schema) now ascends)) among

-- ---- half an event beside the chunk's commit

pub half_beside : (m : Migration) (rows : List Row) (log : List RowEvent) (done half : Row → Bool) (own others : List Lock) (taken : List Row) (progress : Progress Row) (ghost : GhostRows) (key : Row) → IsJoined m rows log done half own others taken progress ghost → is_locked m.new own key ≡ true → ghost_row m (view_of m ghost) key ≡ None
    → ghost_row m (view_of m (record ghost { committed = rows_after_all (key_places m.new) ghost.chunk ghost.committed; chunk = [] })) key ≡ None
half_beside m rows log done half own others taken progress ghost key now locked empty =
    let is : IsUnderWay m rows log done half progress ghost = now.under_way in
    beside_elsewhere (key_places m.new) progress.copier_holds key ghost.chunk ghost.batch ghost.committed is.chunk_covered (free (progress.copier_holds key) refl) ∙ empty where
      free : (b : Bool) → progress.copier_holds key ≡ b → b ≡ false
      free true held = absurd (true≢false (sym (ap (λ (t : Row → Bool). t key) now.granted.applier_holds ∙ locked) ∙ now.under_way.are.apart key held))
      free false held = refl
