use Rattle.std.proofs.Common.{◌≡◌, drop, map}
use Rattle.wf_outside.specs.MemShelf.{file_view}
use Rattle.wf_outside.specs.Laws.Memory.{file_of}
use Rattle.wf_outside.proofs.mem_shelf.find_file.Given as goal

abbrev pub invariant-finding : goal.invariant-finding
invariant-finding l = file_of (map file_view (drop l.file-index l.files)) l.name ≡ file_of (map file_view l.files) l.name
