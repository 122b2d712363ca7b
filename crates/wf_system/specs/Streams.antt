-- What stands behind the sources and sinks of the program.
use Rattle.std.specs.Prelude.{ℕ, List, Option, IfSome, Result, Err}
use Rattle.wf_outside.specs.declared.loaded.LoadFault.{LoadFault}
use Rattle.wf_outside.specs.declared.loaded.LoadFault.TheVariants.{Failed}
use Rattle.wf_outside.specs.Laws.Outside.{ReadsAll}
use Rattle.wf_system.specs.declared.streams.StdinSource.{StdinSource}
use Rattle.wf_system.specs.declared.streams.StdoutSink.{StdoutSink}

-- the bytes that the reader has left, where it tells
abbrev pub reader_left : {R : Type 0} → (R → Option (List ℕ)) → StdinSource R → Option (List ℕ)
reader_left remaining s = remaining s.reader

-- the bytes that the writer holds, where it tells
abbrev pub writer_held : {W : Type 0} → (W → Option (List ℕ)) → StdoutSink W → Option (List ℕ)
writer_held contents s = contents s.writer

-- what is answered is what some reader gave, cut at a limit, where it tells: all of it, or that
-- there is more; where nothing could be opened or read, that this failed
abbrev pub HandsOn : {R : Type 0} → (R → Option (List ℕ)) → ℕ → Result (List ℕ) LoadFault → Type 0
HandsOn remaining limit (Err Failed) = Unit {0}
HandsOn {R} remaining limit result = (reader : R) ×
    IfSome (remaining reader) (λ content. ReadsAll content limit result)
