-- What a clause reads of a source over a reader of std and of a sink over a writer of std.
use Rattle.std.specs.Prelude.{ℕ}
use Rattle.base_edges.specs.declared.std_edges.StdSource.{StdSource}
use Rattle.base_edges.specs.declared.std_edges.StdSink.{StdSink}

-- The reader under a source.
abbrev pub reader_of : {R : Type 0} → StdSource R → R
reader_of s = s.reader

-- How often a source over a reader failed.
abbrev pub source_faults : {R : Type 0} → StdSource R → ℕ
source_faults s = s.faults

-- The writer under a sink.
abbrev pub writer_of : {W : Type 0} → StdSink W → W
writer_of s = s.writer

-- How often a sink over a writer failed.
abbrev pub sink_faults : {W : Type 0} → StdSink W → ℕ
sink_faults s = s.faults
