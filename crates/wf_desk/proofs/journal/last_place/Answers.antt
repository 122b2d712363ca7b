use Rattle.std.proofs.Common.{sym, ◌∙◌, arith}
use Rattle.wf_desk.proofs.CommitLaws.{last_before, last_here, last_nowhere}
use Rattle.wf_desk.proofs.journal.last_place.Goals as goal

pub returns-then-counts-clause-last : goal.returns-then-counts-clause-last
returns-then-counts-clause-last c =
    last_here c.args.ask.now c.args.entries.now c.looking.place c.index-entries-place.result c.looking-test.true c.looking.invariant.0 c.index-entries-place.is
    (sym c.counts.ensures ∙ c.if-counts.true) c.looking.invariant.1

pub looking-preserved : goal.looking-preserved
looking-preserved c =
    let within = c.looking.invariant.0 in (
      omega (arith, within),
      last_before c.args.ask.now c.args.entries.now c.looking.place c.index-entries-place.result c.looking-test.true within c.index-entries-place.is
          (sym c.counts.ensures ∙ c.if-counts.false) c.looking.invariant.1,
    )

pub unreachable-requires : goal.unreachable-requires
unreachable-requires c = last_nowhere c.args.ask.now c.args.entries.now c.looking.place c.looking-test.false c.requires c.looking.invariant.1
