-- A file in memory as clauses see it.
use Rattle.std.specs.Prelude.{string_bytes}
use Rattle.wf_outside.specs.Laws.Memory.{FileShape}
use Rattle.wf_outside.specs.declared.mem_shelf.MemFile.{MemFile}

-- the file's name and bytes
abbrev pub file_view : MemFile → FileShape
file_view f = record { name = string_bytes f.name; bytes = f.bytes.items }
