use Rattle.std.proofs.Common.{refl, codes}
use Rattle.case_story.proofs.Told.{tells_page}
use Rattle.case_story.proofs.page.tell_page.Goals as goal

pub returns-clause-tells : goal.returns-clause-tells
returns-clause-tells c =
    tells_page c.args.s.now c.args.case c.in_ok-audited.audited.verdict c.in_ok-audited.audited.auditor (codes "<!-- ") (codes " -->\n")
    c.was_opened-is_there.result c.tell_audited.result c.part_is_exact.ensures c.in_ok-audited.ensures.session
    c.in_ok-audited.ensures.verdict c.in_ok-audited.ensures.stopped refl refl
    c.was_opened-is_there.ensures c.tell_audited.ensures.tells
