use Rattle.memchr.specs.Find.{Nowhere, Passes}
use Rattle.cnf_export.specs.ModelText.{is_blank}
use Rattle.cnf_export.proofs.model_text.find_blank.Given as goal

-- no byte so far is a blank
abbrev pub invariant-bytes : goal.invariant-bytes
invariant-bytes l = Nowhere (Passes is_blank l.line) 0 l.n
