-- What a caller sees of a reader and a writer of std behind a source and a sink.
use Rattle.std.specs.Prelude.{ℕ}
use Rattle.plant_io.specs.declared.real.StdSource.{StdSource}
use Rattle.plant_io.specs.declared.real.StdSink.{StdSink}

-- The reader behind a source. This project's own.
abbrev pub reader_of : {R : Type 0} → StdSource R → R
reader_of source = source.reader

-- How many reads have failed. This project's own.
abbrev pub failed_reads : {R : Type 0} → StdSource R → ℕ
failed_reads source = source.faults

-- The writer behind a sink. This project's own.
abbrev pub writer_of : {W : Type 0} → StdSink W → W
writer_of sink = sink.writer

-- How many writes have failed. This project's own.
abbrev pub failed_writes : {W : Type 0} → StdSink W → ℕ
failed_writes sink = sink.faults
