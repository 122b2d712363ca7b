use Rattle.std.proofs.Common.{ap, sym, ◌∙◌, arith}
use Rattle.basics.proofs.Booleans.{eq_is, eq_other}
use Rattle.wf_talk.specs.declared.entry.Entry.{Entry}
use Rattle.transcript_audit.proofs.Looking.{own_hit, own_miss, own_none}
use Rattle.transcript_audit.proofs.again.own_start.Goals as goal

pub returns-then-entries-place-clause-own : goal.returns-then-entries-place-clause-own
returns-then-entries-place-clause-own c =
    own_hit c.args.lane c.args.start c.args.entries.now c.looking.place c.index-entries-place.result c.looking-test.true c.looking.invariant.0
    c.index-entries-place.is
    (eq_is c.index-entries-place.result.lane c.args.lane (ap (λ (e : Entry). e.lane) c.index-entries-place.is ∙ c.if-entries-place.true))
    c.looking.invariant.1.1

pub looking-preserved : goal.looking-preserved
looking-preserved c =
    let within = c.looking.invariant.0 in
    let some = c.looking-test.true in (
      omega (arith, within),
      (
        omega (arith, some),
        own_miss c.args.lane c.args.start c.args.entries.now c.looking.place c.index-entries-place.result some within c.index-entries-place.is
            (eq_other c.index-entries-place.result.lane c.args.lane
            (λ same. c.if-entries-place.false (sym (ap (λ (e : Entry). e.lane) c.index-entries-place.is) ∙ same))) c.looking.invariant.1.1,
      ),
    )

pub returns-clause-own : goal.returns-clause-own
returns-clause-own c =
    own_none c.args.lane c.args.start c.args.entries.now c.looking.place c.looking.invariant.1.0 c.looking-test.false c.looking.invariant.0
    c.looking.invariant.1.1
