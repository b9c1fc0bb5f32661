-- What is seen of a source over a reader of std, and of a sink over a writer.
use Rattle.std.specs.Prelude.{ℕ}
use Rattle.host_iface.specs.declared.standard.StdSource.{StdSource}
use Rattle.host_iface.specs.declared.standard.StdSink.{StdSink}

-- how often a read has failed
abbrev pub failed_reads : {R : Type 0} → StdSource R → ℕ
failed_reads source = source.faults

-- how often a write has failed, or took nothing
abbrev pub failed_writes : {W : Type 0} → StdSink W → ℕ
failed_writes sink = sink.faults

abbrev pub reader_of : {R : Type 0} → StdSource R → R
reader_of source = source.reader

abbrev pub writer_of : {W : Type 0} → StdSink W → W
writer_of sink = sink.writer
