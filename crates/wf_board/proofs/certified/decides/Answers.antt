use Rattle.std.proofs.Common.{◌≡◌, ◌↔◌, Ok, true, refl, sym, subst}
use Rattle.constraint_forms.specs.Assign.{no_steps, no_users}
use Rattle.wf_board.specs.Boards.{book_of}
use Rattle.wf_board.specs.Verdicts.{IsCertificate}
use Rattle.wf_board.proofs.Certificates.{certificate_same, claim_certificate, open_certificate}
use Rattle.wf_board.proofs.certified.decides.Goals as goal

pub returns-in-Open : goal.returns-in-Open
returns-in-Open c =
    let b = book_of c.args.p.now c.args.cases.now in
    let f = c.in-Open.flow in
    let v = c.args.verdict.now in
    subst (λ d. c.is_certificate.result ≡ true ↔ IsCertificate b (Ok d) v) (sym c.in-Open.is)
    (open_certificate b f v c.is_certificate.result
    (certificate_same c.args.p.now f f no_users c.empty.result no_steps c.empty-in-Open.result v c.is_certificate.result refl c.empty.ensures.value
    c.empty-in-Open.ensures.value c.is_certificate.ensures))

pub returns-in-Claim : goal.returns-in-Claim
returns-in-Claim c =
    let b = book_of c.args.p.now c.args.cases.now in
    let k = c.in-Claim in
    subst (λ d. c.decides_claim.result ≡ true ↔ IsCertificate b (Ok d) c.args.verdict.now) (sym k.is)
    (claim_certificate b k.duty c.args.verdict.now c.decides_claim.result c.decides_claim.ensures)
