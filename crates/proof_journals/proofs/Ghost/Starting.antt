-- The start and the end, and a chunk as BeginSpan tells it.
use Rattle.std.proofs.Common.{◌≡◌, ℕ, zero, suc, ◌<◌, ◌≤◌, Bool, true, false, List, [], ◌∷◌, length, filter, take, cond, Some, None, refl, sym, ap, ◌∙◌, subst, arith}
use Rattle.std.specs.Prelude.{◌==◌, nat_lt}
use Rattle.std.specs.List.{AllByRecursion, slice_get}
use Rattle.std.specs.Ordering.{is_eq, is_le}
use Rattle.std.specs.Str.{bytes_eq}
use Rattle.std.proofs.Math.Bool.{or-true}
use Rattle.std.proofs.lemmas.Cmp.{tied_itself}
use Rattle.base_values.specs.KeyOrder.{compare_keys}
use Rattle.base_values.proofs.Orders.{keys_total}
use Rattle.base_values.specs.declared.span.Bound.{Bound}
use Rattle.base_values.specs.declared.span.Bound.TheVariants.{Closed}
use Rattle.base_values.specs.Spans.{has}
use Rattle.base_values.specs.GhoSchema.Rows.{key_of, key_places}
use Rattle.base_values.specs.GhoSchema.Tables.{Ascends}
use Rattle.base_values.specs.RowConversion.ConvertedRows.{converted_rows}
use Rattle.table_store.specs.Databases.{find_table}
use Rattle.proof_journals.proofs.Ghost.Chunks.{below_end, keys_taken, last_passes, length_keys, passing, span_given}
use Rattle.proof_journals.proofs.Ghost.Copying.{key_stands}
use Rattle.proof_journals.proofs.Ghost.Joining.{table_exists}
use Rattle.proof_journals.proofs.Ghost.Ranges.{in_range, tied}
use Rattle.proof_journals.proofs.Ghost.Saying.{ends_altered, starts_keep}
use Rattle.proof_journals.specs.Ghost.HeldKeys.{Clustered}
use Rattle.proof_journals.specs.Ghost.Tool.{start_places, no_ghost, SomeRow, ApplyState, HoldsSpan, InChunk, ToolInvariant, half_in}
use Rattle.proof_journals.specs.Ghost.Tool.ApplyState.{Idle}
use Rattle.proof_journals.specs.Ghost.Tool.CopyState.{Taking, Waiting}
use Rattle.proof_journals.specs.Ghost.Relation.Views.{Progress}
use Rattle.proof_journals.specs.Ghost.Rows.Moments.{LogFits, Row, rows_at}
use Rattle.proof_journals.specs.Ghost.Rows.Timelines.{IsPlanned, Migration}
use Rattle.proof_journals.specs.Ghost.Rows.Views.{GhostRows, is_among, is_left}
use Rattle.proof_journals.specs.Scenes.{SessionHold, Stored, no_hold}
use Rattle.server_model.specs.Chunks.{keys_of, last_of}

-- *The start*, where the table has rows: these are the least and the greatest key
pub tool_starts : (m : Migration) (at : Clustered m.schema) (rows : List Row) (position copier applier : ℕ) (now : Stored) (hold : ℕ → SessionHold) (first : Row) (others : List Row) → IsPlanned m rows → LogFits m.name m.schema rows now.log → position ≤ length now.log
    → rows_at m.name (key_places m.schema) rows now.log (length now.log) ≡ first ∷ others → Ascends (key_places m.schema) (first ∷ others)
    → find_table m.name now.tables ≡ Some (record { schema = m.schema; rows = rows_at m.name (key_places m.schema) rows now.log (length now.log) }) → find_table m.new.name now.tables ≡ Some (record { schema = m.new; rows = [] }) → hold copier ≡ no_hold → hold applier ≡ no_hold → bytes_eq m.new.name m.name ≡ false
    → (copier == applier) ≡ false → (applier == copier) ≡ false
    → ToolInvariant m at rows (Waiting (Some (record { low = Closed (key_of (key_places m.schema) first); high = Closed (last_of (key_of (key_places m.schema) first) (keys_of (key_places m.schema) others)) }))) Idle (start_places position now) no_ghost copier applier now hold
tool_starts m at rows position copier applier now hold first others planned leads before are ascends old new copies applies differ two other =
    record {
      kept = starts_keep m rows position copier applier now hold (Some (record { low = Closed (key_of (key_places m.schema) first); high = Closed (last_of (key_of (key_places m.schema) first) (keys_of (key_places m.schema) others)) })) planned leads before old new copies applies differ
          (subst (AllByRecursion (λ row. has (record { low = Closed (key_of (key_places m.schema) first); high = Closed (last_of (key_of (key_places m.schema) first) (keys_of (key_places m.schema) others)) }) (key_of (key_places m.schema) row) ≡ true)) (sym are) (in_range (key_places m.schema) first others ascends));
      copying = copies;
      applying = record { rests = applies; reached = refl; empty = refl };
      two = two;
      other = other;
    }

-- *The start, where it has none*: nothing is left to copy
pub tool_starts_empty : (m : Migration) (at : Clustered m.schema) (rows : List Row) (position copier applier : ℕ) (now : Stored) (hold : ℕ → SessionHold) → IsPlanned m rows → LogFits m.name m.schema rows now.log → position ≤ length now.log → rows_at m.name (key_places m.schema) rows now.log (length now.log) ≡ []
    → find_table m.name now.tables ≡ Some (record { schema = m.schema; rows = rows_at m.name (key_places m.schema) rows now.log (length now.log) }) → find_table m.new.name now.tables ≡ Some (record { schema = m.new; rows = [] }) → hold copier ≡ no_hold → hold applier ≡ no_hold → bytes_eq m.new.name m.name ≡ false
    → (copier == applier) ≡ false → (applier == copier) ≡ false → ToolInvariant m at rows (Waiting None) Idle (start_places position now) no_ghost copier applier now hold
tool_starts_empty m at rows position copier applier now hold planned leads before none old new copies applies differ two other =
    record {
      kept = starts_keep m rows position copier applier now hold None planned leads before old new copies applies differ (subst (AllByRecursion (λ row. is_left None (key_of (key_places m.schema) row) ≡ true)) (sym none) tt);
      copying = copies;
      applying = record { rests = applies; reached = refl; empty = refl };
      two = two;
      other = other;
    }

-- *The end*
pub tool_ends : (m : Migration) (at : Clustered m.schema) (rows : List Row) (apply : ApplyState) (progress : Progress Row) (ghost : GhostRows) (copier applier : ℕ) (now : Stored) (hold : ℕ → SessionHold) → IsPlanned m rows → ToolInvariant m at rows (Waiting None) apply progress ghost copier applier now hold → progress.position ≡ length now.log
    → converted_rows m.columns (rows_at m.name (key_places m.schema) rows now.log (length now.log)) ≡ Some ghost.committed
tool_ends m at rows apply progress ghost copier applier now hold planned tool all = ends_altered m rows (half_in m apply) [] progress ghost copier applier now hold planned tool.kept all

-- ---- a chunk as it is told

-- the last of the keys told isn't above the span's end
cut_within : (places : List ℕ) (low : Bound) (end : Row) (n : ℕ) (rows xs : List Row) → filter (λ row. has (record { low = low; high = Closed end }) (key_of places row)) rows ≡ xs → suc n < length xs → is_le (compare_keys (last_of [] (take (suc n) (keys_of places xs))) end) ≡ true
cut_within places low end n rows [] are less = absurd (omega (arith, less))
cut_within places low end n rows (x ∷ xs) are less =
    let all : AllByRecursion (λ row. has (record { low = low; high = Closed end }) (key_of places row) ≡ true) (x ∷ xs) = subst (AllByRecursion (λ row. has (record { low = low; high = Closed end }) (key_of places row) ≡ true)) are (passing (λ row. has (record { low = low; high = Closed end }) (key_of places row)) rows) in
    let named : last_of [] (take (suc n) (keys_of places (x ∷ xs))) ≡ last_of (key_of places x) (keys_of places (take n xs)) = ap (last_of (key_of places x)) (keys_taken places n xs) in
    ap (λ (k : Row). is_le (compare_keys k end)) named ∙ below_end low end (last_of (key_of places x) (keys_of places (take n xs))) (last_passes (λ k. has (record { low = low; high = Closed end }) k ≡ true) places x n xs all)

reported_within : (places : List ℕ) (low : Bound) (end : Row) (n : ℕ) (rows : List Row) (b : Bool) → nat_lt (suc n) (length (keys_of places (filter (λ row. has (record { low = low; high = Closed end }) (key_of places row)) rows))) ≡ b
    → is_le (compare_keys (cond b (last_of [] (take (suc n) (keys_of places (filter (λ row. has (record { low = low; high = Closed end }) (key_of places row)) rows)))) end) end) ≡ true
reported_within places low end n rows true is =
    let xs : List Row = filter (λ row. has (record { low = low; high = Closed end }) (key_of places row)) rows in
    let long = length_keys places xs in
    let less : suc n < length (keys_of places xs) = grind (arith, Rattle.std.proofs.lemmas.Bool.Decides.nat_tests) in
    cut_within places low end n rows xs refl (omega (arith, less, long))
reported_within places low end n rows false is = tied end

-- *What BeginSpan tells is a chunk*, where the share lock is on the span that it was asked for
pub chunk_reported : (m : Migration) (at : Clustered m.schema) (rows : List Row) (now : Stored) (own : SessionHold) (low : Bound) (end : Row) (n : ℕ) (b : Bool) → Ascends (key_places m.schema) (rows_at m.name (key_places m.schema) rows now.log (length now.log)) → HoldsSpan m at (record { low = low; high = Closed end }) own
    → nat_lt (suc n) (length (keys_of (key_places m.schema) (filter (λ row. has (record { low = low; high = Closed end }) (key_of (key_places m.schema) row)) (rows_at m.name (key_places m.schema) rows now.log (length now.log))))) ≡ b
    → InChunk m at rows now own low (cond b (last_of [] (take (suc n) (keys_of (key_places m.schema) (filter (λ row. has (record { low = low; high = Closed end }) (key_of (key_places m.schema) row)) (rows_at m.name (key_places m.schema) rows now.log (length now.log)))))) end)
    (take (suc n) (keys_of (key_places m.schema) (filter (λ row. has (record { low = low; high = Closed end }) (key_of (key_places m.schema) row)) (rows_at m.name (key_places m.schema) rows now.log (length now.log)))))
chunk_reported m at rows now own low end n b ascends holds is =
    record {
      far = end;
      within = reported_within (key_places m.schema) low end n (rows_at m.name (key_places m.schema) rows now.log (length now.log)) b is;
      holds = holds;
      reported = span_given (key_places m.schema) low end n (rows_at m.name (key_places m.schema) rows now.log (length now.log)) b ascends is;
    }

-- *A row stands at each key told.*
among_at : (keys : List Row) (n : ℕ) (key : Row) → slice_get keys n ≡ Some key → is_among keys key ≡ true
unfolding is_among
among_at [] n key at = absurd cc
among_at (first ∷ keys) zero key at = let one : first ≡ key = cc in rw (ap (λ (k : Row). is_eq (compare_keys key k)) one ∙ ap is_eq (tied_itself keys_total key)) refl
among_at (first ∷ keys) (suc n) key at = rw (among_at keys n key at) (or-true _)

pub key_reported : (m : Migration) (at : Clustered m.schema) (rows : List Row) (low : Bound) (high top : Row) (keys : List Row) (n : ℕ) (apply : ApplyState) (progress : Progress Row) (ghost : GhostRows) (copier applier : ℕ) (now : Stored) (hold : ℕ → SessionHold) (k : ℕ) (key : Row) → IsPlanned m rows → ToolInvariant m at rows (Taking low high top keys n) apply progress ghost copier applier now hold
    → slice_get keys k ≡ Some key → SomeRow (key_places m.schema) key (rows_at m.name (key_places m.schema) rows now.log (length now.log))
key_reported m at rows low high top keys n apply progress ghost copier applier now hold k key planned tool next =
    let chunk : InChunk m at rows now (hold copier) low high keys = tool.copying in
    let all : List Row = rows_at m.name (key_places m.schema) rows now.log (length now.log) in
    key_stands m rows all (record { low = low; high = Closed high }) key
    (table_exists m rows now.log _ _ progress ghost (length now.log) planned tool.kept.joined.under_way).ascends
    (subst (λ (ks : List Row). is_among ks key ≡ true) chunk.reported (among_at keys k key next))
