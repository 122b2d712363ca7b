use Rattle.std.proofs.Common.{◌≤◌, ◌+◌, ◌-◌, refl, arith}
use Rattle.wf_names.specs.declared.limits.TheConstants.{STEP_LIMIT}
use Rattle.cnf_export.specs.Positions.{left_from}
use Rattle.cnf_export.specs.Terms.{encoding_in}
use Rattle.cnf_export.specs.declared.tally.TheConstants.{LITERAL_LIMIT}
use Rattle.cnf_export.proofs.Sums.{few_counted, given_next, one_counted, too_large}
use Rattle.cnf_export.proofs.tally.count.Goals as goal

pub returns-then-len-size-clause-large : goal.returns-then-len-size-clause-large
returns-then-len-size-clause-large c _ =
    let e = encoding_in c.args.terms.now in
    let groups = c.args.groups.now in
    let left = left_from e groups c.counting.at in
    let rest = left_from e groups c.give.new.at in
    let first = given_next c.in_ok-give.field-0 left rest c.give.new.into c.in_ok-give.ensures.given c.if-not-branch.false in
    too_large (left_from e groups c.args.at.now) left rest c.give.new.into c.counting.clauses c.counting.size c.len.result c.counting.invariant first
    c.len.ensures (omega (arith, c.if-len-size.true))

pub overflow_add-clauses : goal.overflow_add-clauses
overflow_add-clauses c =
    let e = encoding_in c.args.terms.now in
    let groups = c.args.groups.now in
    let few = few_counted (left_from e groups c.args.at.now) (left_from e groups c.counting.at) c.counting.clauses c.counting.size STEP_LIMIT
    c.counting.invariant c.requires in
    omega (arith, few)

pub counting-preserved : goal.counting-preserved
counting-preserved c =
    let e = encoding_in c.args.terms.now in
    let groups = c.args.groups.now in
    let left = left_from e groups c.counting.at in
    let rest = left_from e groups c.give.new.at in
    let first = given_next c.in_ok-give.field-0 left rest c.give.new.into c.in_ok-give.ensures.given c.if-not-branch.false in
    let len = c.len.ensures in
    let again = c.len-in-counting.ensures in
    let room : c.len-in-counting.result ≤ LITERAL_LIMIT - c.counting.size = omega (arith, c.if-len-size.false, len, again) in
    one_counted (left_from e groups c.args.at.now) left rest c.give.new.into c.counting.clauses c.counting.size c.len-in-counting.result
    (c.counting.clauses + 1) (c.counting.size + c.len-in-counting.result)
    c.counting.invariant first again room refl refl
