use Rattle.std.proofs.Common.{◌≡◌, true, sym, ◌∙◌, arith}
use Rattle.std.proofs.lemmas.Grind.{common_steps}
use Rattle.basics.proofs.Booleans.{not_yes}
use Rattle.policy_book.specs.Policies.{flow_at, is_authorised}
use Rattle.case_record.specs.Order.{is_ready}
use Rattle.wf_board.proofs.Grants.{clear_none, planned_none}
use Rattle.wf_board.proofs.Planned.{plan_kept}
use Rattle.wf_board.proofs.decision.is_clear.Goals as goal

pub returns-then-is_planned : goal.returns-then-is_planned
returns-then-is_planned c clear =
    let p = c.args.p.now in
    let rows = c.args.cases.now.rows in
    let duty = c.args.duty.now in
    let k = duty.case in
    let ready : is_ready k (flow_at p k.flow).flow.order duty.step ≡ true =
    grind (arith, common_steps, c.flow-f.ensures, c.flow.ensures.flow, c.ready.ensures.answer, c.if-not-ready.false) in
    let given = c.is_planned.ensures c.if-is_planned.true in
    planned_none p rows duty given.0 c.admin-sound.ensures.sound c.requires.kept c.requires.found ready given.1.0 given.1.1

pub returns : goal.returns
returns c clear =
    let p = c.args.p.now in
    let duty = c.args.duty.now in
    let k = duty.case in
    let found = c.requires.found in
    let ready : is_ready k (flow_at p k.flow).flow.order duty.step ≡ true =
    grind (arith, common_steps, c.flow-f.ensures, c.flow.ensures.flow, c.ready.ensures.answer, c.if-not-ready.false) in
    let may : is_authorised p k.flow duty.step duty.user ≡ true =
    grind (arith, common_steps, c.flow-f.ensures, c.authorised.ensures, c.if-not-authorised.false) in
    clear_none p k duty.step duty.user c.admin-sound.ensures.sound found.case.known.flow
    (plan_kept p c.args.cases.now.rows duty.number k c.requires.kept found.case.found found.case.live) ready may
    (sym c.breaks_rule.ensures ∙ not_yes c.breaks_rule.result clear)
