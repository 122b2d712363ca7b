use Rattle.wf_server.proofs.WayLaws.{once_on}
use Rattle.wf_server.proofs.batch.serve_jobs.Goals as goal

pub returns-clause-once : goal.returns-clause-once
returns-clause-once g c serves once = once_on c.args.desk c.serve-served.result c.journal-before.ensures.sound (serves _ _ c.serve-served.ensures.leaves) once
