-- What a call of the copier asks. (This project's rule.)
use Rattle.std.specs.Prelude.{List}
use Rattle.base_values.specs.declared.span.Bound.TheVariants.{Closed}
use Rattle.base_values.specs.ToolNames.{ghost_name}
use Rattle.server_model.specs.declared.entry.Entry.{Entry}
use Rattle.server_model.specs.declared.request.Request.{Request}
use Rattle.server_model.specs.declared.request.Request.TheVariants as requests
use Rattle.server_model.specs.Entries.{answer_at}
use Rattle.server_model.specs.EarlierAnswers.{end_in}
use Rattle.tool_program.specs.declared.chunk_copier.calls.CopyCall.{CopyCall}
use Rattle.tool_program.specs.declared.chunk_copier.calls.CopyCall.TheVariants.{End, Span, Row, Commit}
use Rattle.tool_program.specs.declared.chunk_copier.copier.Copier.{Copier}
use Rattle.tool_program.specs.ChunkCopier.Copiers.{low_end}

abbrev pub asked_in : List Entry → Copier → CopyCall → Request
asked_in journal copier (End range) = requests.ChunkEnd copier.table (low_end journal range.now copier.following) range.now.top copier.size
asked_in journal copier (Span range reported size) =
    requests.BeginSpan copier.table (record { low = low_end journal range.now copier.following; high = Closed (end_in (answer_at journal reported)) }) size
asked_in journal copier (Row key) = requests.CopyRow copier.table (ghost_name copier.table) copier.map key.now
asked_in journal copier Commit = requests.Commit
