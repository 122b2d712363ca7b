use Rattle.std.proofs.Common.{◌≡◌, true, false, refl, sym, ◌∙◌}
use Rattle.wf_board.proofs.Admission.{strands_admitted, stranded_exists, stranded_here}
use Rattle.wf_board.proofs.Planned.{known_case}
use Rattle.wf_board.proofs.strands.admit_strands.Goals as goal

pub unreachable-requires : goal.unreachable-requires
unreachable-requires c =
    stranded_exists c.args.p.now c.args.cases.now c.args.a c.args.n c.requires.stranded.0 c.live-ascending.ensures.kept.ascend c.requires.stranded.1
    c.in_default.ensures

pub returns-then-not-is_named : goal.returns-then-not-is_named
returns-then-not-is_named c =
    let here = stranded_here c.args.p.now c.args.cases.now c.args.a c.args.n c.requires.stranded.0 c.in-Some.case.now c.admin-sound.ensures.sound
    c.requires.ready.found c.live-ascending.ensures.kept.ascend c.requires.stranded.1 c.in-Some.ensures in (
      refl,
      λ edits step.
          let only = here.only edits c.args.named c.args.flow c.args.tree.now step in
          let apart : true ≡ false = sym (c.is_named.ensures.1 (only.0, only.1.0)) ∙ c.if-not-is_named.true in
          cc,
    )

pub is_tree_after-requires-clause-known : goal.is_tree_after-requires-clause-known
is_tree_after-requires-clause-known c =
    known_case c.args.p.now c.args.cases.now.rows c.args.n c.in-Some.case.now c.requires.ready.kept.planned c.in-Some.ensures

pub returns : goal.returns
returns c =
    let here = stranded_here c.args.p.now c.args.cases.now c.args.a c.args.n c.requires.stranded.0 c.in-Some.case.now c.admin-sound.ensures.sound
    c.requires.ready.found c.live-ascending.ensures.kept.ascend c.requires.stranded.1 c.in-Some.ensures in
    let named = c.is_named.ensures.0 c.if-not-is_named.false in
    strands_admitted c.args.p.now c.args.cases.now c.args.a c.args.n c.in-Some.case.now c.args.named c.args.flow c.args.tree.now
    c.in_ok-is_tree_after.field-0 c.when.result
    c.requires.ready.kept here named.0 named.1 c.in_ok-is_tree_after.ensures c.when.ensures
