use Rattle.std.proofs.Common.{◌≡◌, ◌<◌, None, Ok, ap, arith}
use Rattle.case_story.specs.Followed.{IsAt}
use Rattle.case_story.proofs.Following.{at_end, stepped, walked}
use Rattle.case_story.proofs.follow.follow_rest.Goals as goal

pub returns-in-Some-clause-stops : goal.returns-in-Some-clause-stops
returns-in-Some-clause-stops g c first h =
    stepped first c.follow_to.new.auditor c.args.text.now c.follow_to.new.place c.in_ok-verdict.field-0 c.in-Some.verdict c.in-Some.is
    (c.in_ok-verdict.ensures.steps first h)

pub returns-in-None-clause-stops : goal.returns-in-None-clause-stops
returns-in-None-clause-stops g c first h =
    let none : c.in_ok-verdict.field-0 ≡ None = c.in-None.is in
    let there : IsAt c.args.text.now c.follow_to.new.auditor c.follow_to.new.place = c.in_ok-verdict.ensures.at (ap Ok none) in
    let few = there.few in
    let within = there.within in
    let short = c.requires.short in
    let below : c.follow_to.new.place.number < 4294967295 = omega (arith, few, within, short) in
    at_end first c.follow_to.new.auditor c.args.text.now c.follow_to.new.place c.find_end.result (c.in_ok-verdict.ensures.all (ap Ok none) below)
    c.find_end.ensures.ends
    (walked first c.follow_to.new.auditor c.args.text.now c.follow_to.new.place c.in_ok-verdict.field-0 none (c.in_ok-verdict.ensures.steps first h))
