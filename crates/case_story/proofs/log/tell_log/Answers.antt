use Rattle.std.proofs.Common.{[], true, refl, codes}
use Rattle.case_story.proofs.Told.{tells_log}
use Rattle.case_story.proofs.log.tell_log.Goals as goal

pub returns-clause-tells : goal.returns-clause-tells
returns-clause-tells c =
    tells_log c.args.s.now c.in_ok-audited.audited.verdict [] (codes "\n") true c.tell_audited.result c.in_ok-audited.ensures.verdict refl refl refl
    c.tell_audited.ensures.tells
