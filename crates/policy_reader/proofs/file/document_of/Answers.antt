use Rattle.policy_reader.proofs.Ends.{document_in-utf8}
use Rattle.policy_reader.proofs.file.document_of.Goals as goal

pub returns-in-Ok : goal.returns-in-Ok
returns-in-Ok c = rw (document_in-utf8 c.args.bytes.now c.in-Ok.ensures.cases.1, ← c.in-Ok.ensures.cases.0) c.document_of_text.ensures
