-- The chunk's and the batch's ends, and the start, keep the ghost relation.
use Rattle.std.proofs.Common.{◌≡◌, ℕ, Bool, true, false, not, ◌&&◌, ◌||◌, List, [], ◌∷◌, map, find, filter, cond, Option, Some, None, Ordering, Less, Equal, Greater, refl, sym, ap, ◌∙◌, subst, ◌⊎◌, inl, inr}
use Rattle.std.specs.Ordering.{is_lt, is_le, ordering_reverse}
use Rattle.std.proofs.lemmas.Bool.{and_parts, not-true, or_left}
use Rattle.std.specs.Cmp.Derive.{both_true}
use Rattle.base_values.specs.declared.span.Bound.{Bound}
use Rattle.base_values.specs.declared.span.Bound.TheVariants.{Open, Closed}
use Rattle.base_values.specs.declared.span.Span.{Span}
use Rattle.base_values.specs.KeyOrder.{compare_keys}
use Rattle.base_values.specs.Spans.{above, below, has}
use Rattle.base_values.specs.GhoSchema.Rows.{key_of, key_places}
use Rattle.base_values.specs.declared.event.RowEvent.{RowEvent}
use Rattle.table_store.specs.RowLists.{is_at}
use Rattle.table_store.proofs.Orders.{turned}
use Rattle.table_store.proofs.RowLaws.{key_is}
use Rattle.proof_journals.proofs.Ghost.Relation.AllViews.{batch_commits, batch_rolls_back, chunk_is_committed, chunk_rolls_back, more_done}
use Rattle.proof_journals.proofs.Ghost.Relation.Tests.{true_false}
use Rattle.proof_journals.specs.Ghost.Relation.Timelines.{IsTimeline}
use Rattle.proof_journals.specs.Ghost.Relation.Views.{GhostFollows, Progress}
use Rattle.proof_journals.proofs.Ghost.Rows.Overlays.{beside_elsewhere, beside_here}
use Rattle.proof_journals.specs.Ghost.Rows.Changes.{NamesHeld}
use Rattle.proof_journals.specs.Ghost.Rows.Moments.{Row, rows_after_all, rows_at}
use Rattle.proof_journals.specs.Ghost.Rows.Timelines.{Migration, timeline_of}
use Rattle.proof_journals.specs.Ghost.Rows.Views.{GhostRows, is_among, is_done, is_done_in, is_left, views_of}

-- ---- keys left to copy

not_less : (o : Ordering) → is_lt o ≡ false → is_le (ordering_reverse o) ≡ true
not_less Less fails = absurd (let no : true ≡ false = fails in cc)
not_less Equal fails = refl
not_less Greater fails = refl

pub not_and : (a b : Bool) → (a && b) ≡ false → b ≡ true → a ≡ false
not_and true b none is = absurd (let no : true ≡ false = sym is ∙ none in cc)
not_and false b none is = refl

-- a key that was left before the chunk and isn't behind it is in the chunk
pub in_chunk : (low : Bound) (high top key : Row) → has (record { low = low; high = Closed top }) key ≡ true → has (record { low = Open high; high = Closed top }) key ≡ false → has (record { low = low; high = Closed high }) key ≡ true
unfolding has
in_chunk low high top key was gone =
    let parts = and_parts (above low key) (below (Closed top) key) was in
    let fails : is_lt (compare_keys high key) ≡ false = not_and (is_lt (compare_keys high key)) (below (Closed top) key) gone parts.1 in
    both_true parts.0 (ap is_le (turned key high) ∙ not_less (compare_keys high key) fails)

-- a row whose key is in a span has its key among those of the span's rows
among_here : (test : Row → Bool) (places : List ℕ) (key row found : Row) (rows : List Row) (at t : Bool) → is_at places key row ≡ at → test row ≡ t → (at ≡ true → t ≡ true)
    → (find (is_at places key) rows ≡ Some found → is_among (map (key_of places) (filter test rows)) key ≡ true) → cond at (Some row) (find (is_at places key) rows) ≡ Some found → is_among (map (key_of places) (cond t (row ∷ filter test rows) (filter test rows))) key ≡ true
unfolding is_among
among_here test places key row found rows true true at passes so others is = rw at refl
among_here test places key row found rows true false at passes so others is = absurd (let no : false ≡ true = so refl in cc)
among_here test places key row found rows false true at passes so others is = rw at (others is)
among_here test places key row found rows false false at passes so others is = others is

pub among_rows : (span : Span) (places : List ℕ) (key found : Row) (rows : List Row) → has span key ≡ true → find (is_at places key) rows ≡ Some found → is_among (map (key_of places) (filter (λ row. has span (key_of places row)) rows)) key ≡ true
among_rows span places key found [] inside is = absurd cc
among_rows span places key found (row ∷ rows) inside is =
    among_here (λ r. has span (key_of places r)) places key row found rows (is_at places key row) (has span (key_of places row)) refl refl (λ at. subst (λ k. has span k ≡ true) (key_is places key row at) inside)
    (among_rows span places key found rows inside) is

-- ---- the chunk begins, and is committed

done_or_left : (left : Option Span) (key : Row) (b : Bool) → is_left left key ≡ b → (b ≡ true → ⊥) → is_done left key ≡ true
done_or_left left key true is no_one = absurd (no_one refl)
done_or_left left key false is no_one = rw is refl

-- what is done in a chunk was done before, or is behind its start and none of its keys
in_cases : (a b c : Bool) → (a || (b && not c)) ≡ true → (a ≡ true) ⊎ ((b ≡ true) × (c ≡ false))
in_cases true b c is = inl refl
in_cases false true true is = absurd (let no : false ≡ true = is in cc)
in_cases false true false is = inr (refl, refl)
in_cases false false c is = absurd (let no : false ≡ true = is in cc)

in_second : (a b c : Bool) → b ≡ true → c ≡ false → (a || (b && not c)) ≡ true
in_second true b c is free = refl
in_second false b c is free = rw (is, free) refl

-- *The chunk begins*: its keys are those of the rows in its span.
pub chunk_begins : (m : Migration) (rows : List Row) (log : List RowEvent) (half : Row → Bool) (progress : Progress Row) (ghost : GhostRows) (keys : List Row) (low : Bound) (high top : Row)
    → keys ≡ map (key_of (key_places m.schema)) (filter (λ row. has (record { low = low; high = Closed high }) (key_of (key_places m.schema) row)) (rows_at m.name (key_places m.schema) rows log progress.end))
    → GhostFollows (timeline_of m rows log) (is_done (Some (record { low = low; high = Closed top }))) half progress (views_of (key_places m.new) ghost)
    → GhostFollows (timeline_of m rows log) (is_done_in (Some (record { low = low; high = Closed top })) (Some (record { low = Open high; high = Closed top })) keys) half progress (views_of (key_places m.new) ghost)
chunk_begins m rows log half progress ghost keys low high top are_keys are =
    more_done (timeline_of m rows log) (is_done (Some (record { low = low; high = Closed top }))) (is_done_in (Some (record { low = low; high = Closed top })) (Some (record { low = Open high; high = Closed top })) keys) half progress (views_of (key_places m.new) ghost)
    (λ key row done there. at key row there (in_cases (is_done (Some (record { low = low; high = Closed top })) key) (is_done (Some (record { low = Open high; high = Closed top })) key) (is_among keys key) done)) are
  where
    at : (key row : Row) → find (is_at (key_places m.schema) key) (rows_at m.name (key_places m.schema) rows log progress.end) ≡ Some row → (is_done (Some (record { low = low; high = Closed top })) key ≡ true) ⊎ ((is_done (Some (record { low = Open high; high = Closed top })) key ≡ true) × (is_among keys key ≡ false))
        → is_done (Some (record { low = low; high = Closed top })) key ≡ true
    at key row there (inl done) = done
    at key row there (inr new) =
        done_or_left (Some (record { low = low; high = Closed top })) key (has (record { low = low; high = Closed top }) key) refl
        (λ was. true_false (is_among keys key)
        (subst (λ ks. is_among ks key ≡ true) (sym are_keys)
        (among_rows (record { low = low; high = Closed high }) (key_places m.schema) key row (rows_at m.name (key_places m.schema) rows log progress.end) (in_chunk low high top key was (not-true (has (record { low = Open high; high = Closed top }) key) new.0)) there)) new.1)

-- *The chunk is committed*: the copier took each of its keys.
pub chunk_is_done : (m : Migration) (rows : List Row) (log : List RowEvent) (half : Row → Bool) (progress : Progress Row) (ghost : GhostRows) (left following : Option Span) (keys : List Row) → progress.copier_holds ≡ is_among keys
    → NamesHeld (key_places m.new) progress.copier_holds ghost.chunk → NamesHeld (key_places m.new) progress.applier_holds ghost.batch → GhostFollows (timeline_of m rows log) (is_done_in left following keys) half progress (views_of (key_places m.new) ghost)
    → GhostFollows (timeline_of m rows log) (is_done following) half (record progress { copier_holds = λ _. false }) (views_of (key_places m.new) (record ghost { committed = rows_after_all (key_places m.new) ghost.chunk ghost.committed; chunk = [] }))
unfolding rows_after_all
chunk_is_done m rows log half progress ghost left following keys held copier applier are =
    let new : List ℕ = key_places m.new in
    chunk_is_committed (timeline_of m rows log) (is_done_in left following keys) half (is_done following) progress (views_of new ghost) (λ key. find (is_at new key) (rows_after_all new ghost.batch (rows_after_all new ghost.chunk ghost.committed)))
    (λ key is. beside_here new progress.applier_holds key ghost.chunk ghost.batch ghost.committed applier (are.apart key is))
    (λ key is. beside_elsewhere new progress.copier_holds key ghost.chunk ghost.batch ghost.committed copier is)
    (λ key free done. in_second (is_done left key) (is_done following key) (is_among keys key) done (sym (ap (λ (h : Row → Bool). h key) held) ∙ free)) are

-- *The chunk is to be repeated* though it was committed.
pub chunk_repeats : (m : Migration) (rows : List Row) (log : List RowEvent) (left following : Option Span) (keys : List Row) (half : Row → Bool) (progress : Progress Row) (ghost : GhostRows) → NamesHeld (key_places m.new) progress.copier_holds ghost.chunk
    → NamesHeld (key_places m.new) progress.applier_holds ghost.batch → GhostFollows (timeline_of m rows log) (is_done_in left following keys) half progress (views_of (key_places m.new) ghost)
    → GhostFollows (timeline_of m rows log) (is_done left) half (record progress { copier_holds = λ _. false }) (views_of (key_places m.new) (record ghost { committed = rows_after_all (key_places m.new) ghost.chunk ghost.committed; chunk = [] }))
unfolding rows_after_all
chunk_repeats m rows log left following keys half progress ghost copier applier are =
    let new : List ℕ = key_places m.new in
    chunk_is_committed (timeline_of m rows log) (is_done_in left following keys) half (is_done left) progress (views_of new ghost) (λ key. find (is_at new key) (rows_after_all new ghost.batch (rows_after_all new ghost.chunk ghost.committed)))
    (λ key is. beside_here new progress.applier_holds key ghost.chunk ghost.batch ghost.committed applier (are.apart key is))
    (λ key is. beside_elsewhere new progress.copier_holds key ghost.chunk ghost.batch ghost.committed copier is)
    (λ key free done. or_left (is_done left key) (is_done following key && not (is_among keys key)) done) are

-- *A chunk is rolled back*.
pub chunk_is_undone : (m : Migration) (rows : List Row) (log : List RowEvent) (left following : Option Span) (keys : List Row) (half : Row → Bool) (progress : Progress Row) (ghost : GhostRows) → GhostFollows (timeline_of m rows log) (is_done_in left following keys) half progress (views_of (key_places m.new) ghost)
    → GhostFollows (timeline_of m rows log) (is_done left) half (record progress { copier_holds = λ _. false }) (views_of (key_places m.new) (record ghost { chunk = [] }))
unfolding rows_after_all
chunk_is_undone m rows log left following keys half progress ghost are =
    chunk_rolls_back (timeline_of m rows log) (is_done left) half progress (views_of (key_places m.new) ghost)
    (more_done (timeline_of m rows log) (is_done_in left following keys) (is_done left) half progress (views_of (key_places m.new) ghost) (λ key row done there. or_left (is_done left key) (is_done following key && not (is_among keys key)) done) are)

-- *The batch is committed.*
pub batch_is_done : (m : Migration) (rows : List Row) (log : List RowEvent) (done : Row → Bool) (progress : Progress Row) (ghost : GhostRows) → NamesHeld (key_places m.new) progress.copier_holds ghost.chunk → NamesHeld (key_places m.new) progress.applier_holds ghost.batch
    → GhostFollows (timeline_of m rows log) done (λ _. false) progress (views_of (key_places m.new) ghost)
    → GhostFollows (timeline_of m rows log) done (λ _. false) (record progress { position = progress.reached; applier_holds = λ _. false }) (views_of (key_places m.new) (record ghost { committed = rows_after_all (key_places m.new) ghost.batch ghost.committed; batch = [] }))
unfolding rows_after_all
batch_is_done m rows log done progress ghost copier applier are =
    let new : List ℕ = key_places m.new in
    batch_commits (timeline_of m rows log) done progress (views_of new ghost) (λ key. find (is_at new key) (rows_after_all new ghost.chunk (rows_after_all new ghost.batch ghost.committed)))
    (λ key is. beside_elsewhere new progress.applier_holds key ghost.batch ghost.chunk ghost.committed applier (are.apart key is))
    (λ key is. beside_here new progress.copier_holds key ghost.batch ghost.chunk ghost.committed copier is)
    are

-- *A batch is rolled back.*
pub batch_is_undone : (m : Migration) (rows : List Row) (log : List RowEvent) (done half : Row → Bool) (progress : Progress Row) (ghost : GhostRows) → IsTimeline (timeline_of m rows log) progress.end → GhostFollows (timeline_of m rows log) done half progress (views_of (key_places m.new) ghost)
    → GhostFollows (timeline_of m rows log) done (λ _. false) (record progress { reached = progress.position; applier_holds = λ _. false }) (views_of (key_places m.new) (record ghost { batch = [] }))
unfolding rows_after_all
batch_is_undone m rows log done half progress ghost is are = batch_rolls_back (timeline_of m rows log) done half progress (views_of (key_places m.new) ghost) is are

-- behind the greatest key nothing is left
none_between : (o back : Ordering) → back ≡ ordering_reverse o → (is_lt o && is_le back) ≡ false
none_between Less back is = rw is refl
none_between Equal back is = refl
none_between Greater back is = refl

pub none_left : (top key : Row) → has (record { low = Open top; high = Closed top }) key ≡ false
unfolding has
none_left top key = none_between (compare_keys top key) (compare_keys key top) (turned key top)

-- *The range is copied*, when the chunk that ends at its greatest key is.
pub all_done : (m : Migration) (rows : List Row) (log : List RowEvent) (half : Row → Bool) (progress : Progress Row) (ghost : GhostRows) (top : Row) → GhostFollows (timeline_of m rows log) (is_done (Some (record { low = Open top; high = Closed top }))) half progress (views_of (key_places m.new) ghost)
    → GhostFollows (timeline_of m rows log) (is_done None) half progress (views_of (key_places m.new) ghost)
all_done m rows log half progress ghost top are =
    more_done (timeline_of m rows log) (is_done (Some (record { low = Open top; high = Closed top }))) (is_done None) half progress (views_of (key_places m.new) ghost) (λ key row done there. rw (none_left top key) refl) are
