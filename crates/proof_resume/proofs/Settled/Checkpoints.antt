-- Where a checkpoint is behind the tool, a new tool may go on from it.
use Rattle.std.proofs.Common.{◌≡◌, true, false, List, length, find, Option, Some, None, sym, ap, ◌∙◌, subst}
use Rattle.std.specs.Ordering.{is_le}
use Rattle.std.proofs.lemmas.Bool.{and_parts, not-true, true≢false}
use Rattle.base_values.specs.declared.span.Bound.TheVariants.{Open, Closed}
use Rattle.base_values.specs.declared.span.Span.{Span}
use Rattle.base_values.specs.KeyOrder.{compare_keys}
use Rattle.base_values.specs.Spans.{above, below, has}
use Rattle.base_values.specs.GhoSchema.Rows.{key_of, key_places}
use Rattle.table_store.specs.RowLists.{is_at}
use Rattle.table_store.proofs.RowLaws.{key_is}
use Rattle.tool_changelog.specs.declared.checkpoint.Reach.{Reach}
use Rattle.tool_changelog.specs.declared.checkpoint.Reach.TheVariants.{Nothing, To, All}
use Rattle.server_model.specs.declared.answer.KeyRange.{KeyRange}
use Rattle.proof_journals.specs.Scenes.{Stored}
use Rattle.proof_journals.proofs.Ghost.Rows.Chunking.{in_chunk}
use Rattle.proof_journals.proofs.Ghost.Rows.Finding.{found_at, found_in}
use Rattle.proof_journals.specs.Ghost.Rows.Moments.{Row, rows_at}
use Rattle.proof_journals.specs.Ghost.Rows.Timelines.{Migration}
use Rattle.tool_finish.specs.Finishes.{range_from}
use Rattle.proof_resume.specs.Settled.ResumeLaws.{CheckpointsSettle}
use Rattle.proof_resume.specs.Reached.Coverage.{Covers}
use Rattle.proof_resume.specs.Settled.Ranges.{IsRangeNow, range_left}
use Rattle.proof_resume.specs.Settled.NewTable.{LeavesMore}
use Rattle.proof_resume.proofs.Settled.NewTable.{settled_earlier}

-- a row that exists is in the table's range
is_within : (m : Migration) (rows : List Row) (now : Stored) (range : KeyRange) (key row : Row) → IsRangeNow m rows now (Some range) → find (is_at (key_places m.schema) key) (rows_at m.name (key_places m.schema) rows now.log (length now.log)) ≡ Some row
    → has (record { low = Closed range.least; high = Closed range.greatest }) key ≡ true
is_within m rows now range key row all there =
    let here : key_of (key_places m.schema) row ≡ key = sym (key_is (key_places m.schema) key row (found_at (is_at (key_places m.schema) key) (rows_at m.name (key_places m.schema) rows now.log (length now.log)) row there)) in
    subst (λ (k : Row). has (record { low = Closed range.least; high = Closed range.greatest }) k ≡ true) here
    (found_in (is_at (key_places m.schema) key) (λ r. has (record { low = Closed range.least; high = Closed range.greatest }) (key_of (key_places m.schema) r) ≡ true) (rows_at m.name (key_places m.schema) rows now.log (length now.log)) row all there)

-- a key that the range from a reach doesn't have is up to the reach
up_to : (least greatest reach key : Row) → has (record { low = Closed least; high = Closed greatest }) key ≡ true → has (record { low = Open reach; high = Closed greatest }) key ≡ false → is_le (compare_keys key reach) ≡ true
unfolding has
up_to least greatest reach key inside gone = (and_parts (above (Closed least) key) (below (Closed reach) key) (in_chunk (Closed least) reach greatest key inside gone)).1

-- at least that is left
leaves_more : (m : Migration) (rows : List Row) (now : Stored) (left : Option Span) (reach : Reach) (range : Option KeyRange) → Covers reach left → IsRangeNow m rows now range → LeavesMore m rows now left (range_left (range_from reach range))
leaves_more m rows now left reach None covers none key row done there = absurd (let gone : None ≡ Some row = sym (ap (find (is_at (key_places m.schema) key)) none) ∙ there in cc)
leaves_more m rows now left Nothing (Some range) covers all key row done there =
    absurd (true≢false (sym (is_within m rows now range key row all there) ∙ not-true (has (record { low = Closed range.least; high = Closed range.greatest }) key) done))
leaves_more m rows now left (To reach) (Some range) covers all key row done there =
    covers key (up_to range.least range.greatest reach key (is_within m rows now range key row all there) (not-true (has (record { low = Open reach; high = Closed range.greatest }) key) done))
leaves_more m rows now left All (Some range) covers all key row done there = covers key

-- *Checkpoints settle.*
pub checkpoints_settle : CheckpointsSettle
checkpoints_settle m rows now position left made found range planned behind reported settled =
    settled_earlier m rows now position found.position left (range_left (range_from found.reach range)) made planned behind.behind (leaves_more m rows now left found.reach range behind.covered reported) settled
