use Rattle.policy_book.specs.Laws.Shapes.{PolicyShape}
use Rattle.wf_outside.specs.Laws.Outside.{Filed}
use Rattle.transcript_commands.specs.Laws.Begun.{BeginsBy, StopsBy, session_of}
use Rattle.transcript_commands.specs.Load.{OverBoth}
use Rattle.transcript_commands.proofs.Files.{moved, policy_fails, policy_there}
use Rattle.transcript_commands.proofs.Taken.{stopped}
use Rattle.transcript_commands.proofs.start.begin.Goals as goal

pub returns-in_err-policy-clause-begins : goal.returns-in_err-policy-clause-begins
returns-in_err-policy-clause-begins g c =
    policy_fails _ _ (g.F.Shelf.file c.args.shelf.now c.args.earlier.policy.now) c.in_err-policy.field-0.0 c.in_err-policy.ensures.policy
    (stopped c.from_residual.result c.in_err-policy.field-0.0 c.from_residual.ensures.1)

pub returns-clause-begins : goal.returns-clause-begins
returns-clause-begins g c =
    let result = c.begin_under.result in
    let p = c.in_ok-policy.policy in
    let requests = g.F.Shelf.file c.args.shelf.now c.args.earlier.requests.now in
    let transcript = g.F.Shelf.file c.args.shelf.now c.args.earlier.transcript.now in
    let over = λ (p : PolicyShape) (a b : Filed). OverBoth c.args.earlier.lanes (StopsBy result)
    (λ cut x. BeginsBy (session_of p c.args.earlier.lanes c.args.earlier.rounds cut) cut x result) a b in
    policy_there (StopsBy result) (λ p. over p requests transcript) (g.F.Shelf.file c.args.shelf.now c.args.earlier.policy.now) p c.in_ok-policy.ensures.policy
    c.in_ok-policy.ensures.sound
    (moved (over p) _ _ _ _ (c.in_ok-policy.ensures.kept c.args.earlier.requests.now) (c.in_ok-policy.ensures.kept c.args.earlier.transcript.now)
    c.begin_under.ensures.begins)
