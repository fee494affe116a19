-- A new tool starts from a run's checkpoint.
use Rattle.std.proofs.Common.{◌≡◌, ℕ, List, [], Option, Some, None, refl}
use Rattle.base_values.specs.declared.row_conversion.map.MapColumn.{MapColumn}
use Rattle.server_model.specs.declared.entry.Entry.{Entry}
use Rattle.plan_data.specs.PlanData.{new_map}
use Rattle.tool_program.specs.JournalWords.Journals.{state_at}
use Rattle.tool_program.specs.declared.chunk_copier.copier.CopyRange.{CopyRange}
use Rattle.tool_program.specs.ChunkCopier.Copiers.{new_copier}
use Rattle.tool_finish.specs.Finishes.{range_from}
use Rattle.proof_journals.specs.Holdings.{stored}
use Rattle.proof_journals.specs.Plans.{limits_of, scene_of}
use Rattle.proof_journals.specs.Ghost.Tool.CopyState.{Waiting}
use Rattle.proof_migration.specs.Migration.Copier.CopierPlace.{copy_state}
use Rattle.proof_resume.specs.Reached.Coverage.{left_in}
use Rattle.proof_resume.specs.Settled.Laws.{SettledIn}
use Rattle.proof_resume.specs.Settled.NewTable.{IsSettled}
use Rattle.proof_resume.specs.Settled.Ranges.{range_left}
use Rattle.proof_resume.specs.Settled.ResumeLaws.{ResumesStart}
use Rattle.proof_resume.proofs.Settled.Checkpoints.{checkpoints_settle}
use Rattle.proof_resume.proofs.Settled.NewTable.{moves_settle}
use Rattle.proof_resume.proofs.Settled.Reverting.{kept_runs_settle}
use Rattle.proof_resume.proofs.Settled.Starting.{new_tools_start}

-- a copier at its start waits with all of its range
new_waits : (journal : List Entry) (table : List ℕ) (map : List MapColumn) (range : Option CopyRange) (size : ℕ) → copy_state journal (new_copier table map range size) ≡ Waiting (range_left range)
new_waits journal table map None size = refl
new_waits journal table map (Some range) size = refl

-- *Resumes start.*
pub resumes_start : ResumesStart
resumes_start plan m at rows of opens run work kept off phase found behind journal same range ranged copier applier free two other sized batched =
    let was : SettledIn plan m rows run work = kept_runs_settle plan m at rows of opens run work kept off phase in
    let now : IsSettled m rows (stored (state_at plan journal)) work.applier.position (left_in (copy_state run work.copier)) was.made =
    moves_settle m rows (stored (state_at plan run)) (stored (state_at plan journal)) work.applier.position (left_in (copy_state run work.copier)) was.made same.log same.old same.new was.is in
    new_tools_start m at rows (limits_of plan) (scene_of plan []) journal _ (range_left (range_from found.reach range)) was.made
    (record { following = refl; choosing = refl; sized = sized; reading = refl; batched = batched; free = free; two = two; other = other })
    (new_waits journal plan.table (new_map plan) (range_from found.reach range) plan.options.chunk_size)
    (checkpoints_settle m rows (stored (state_at plan journal)) work.applier.position (left_in (copy_state run work.copier)) was.made found range of.planned behind ranged now)
