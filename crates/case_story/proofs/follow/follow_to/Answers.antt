use Rattle.case_story.proofs.Following.{stepped}
use Rattle.case_story.proofs.follow.follow_to.Goals as goal

pub returns-in-Some-clause-steps : goal.returns-in-Some-clause-steps
returns-in-Some-clause-steps g c first h =
    stepped first c.follow_line.new.auditor c.args.text.now c.follow_line.new.place c.in_ok-found.found c.in-Some.verdict c.in-Some.is
    (c.in_ok-found.ensures.steps first (c.lines.invariant.goes first h))
