use Rattle.std.proofs.Common.{◌≡◌, ◌||◌, ◌==◌, length, refl, sym, ap, ◌∙◌}
use Rattle.std.proofs.lemmas.Bool.{false≢true}
use Rattle.policy_book.specs.Course.{problem_in}
use Rattle.policy_book.specs.Laws.Twins.{all_below, is_alike_to}
use Rattle.certificate_check.proofs.Rows.{alike_behind, unlike_ahead}
use Rattle.certificate_check.proofs.alike.have_same_rows.Goals as goal

pub returns-then-not-are_same_but : goal.returns-then-not-are_same_but
returns-then-not-are_same_but c =
    let holds = (problem_in c.args.course.now).related c.args.rho in
    let known : c.len-users.result ≡ length c.args.course.now.policy.now.roster.users = c.len-users.ensures.count ∙
    ap length (c.users.ensures.names ∙ ap (λ r. r.users) c.roster.ensures.roster) in
    sym (unlike_ahead c.len-users.result holds c.args.u c.args.v c.after.result c.after-2.result c.after.ensures c.after-2.ensures
    (λ same. false≢true (c.if-not-are_same_but.ensures.1 same)))
    ∙ ap (λ n. all_below n (λ w. (w == c.args.u || w == c.args.v) || is_alike_to holds c.args.u c.args.v w)) known

pub returns : goal.returns
returns c =
    let holds = (problem_in c.args.course.now).related c.args.rho in
    let known : c.len-users.result ≡ length c.args.course.now.policy.now.roster.users = c.len-users.ensures.count ∙
    ap length (c.users.ensures.names ∙ ap (λ r. r.users) c.roster.ensures.roster) in
    alike_behind c.len-users.result holds c.args.u c.args.v c.after.result c.after-2.result c.ahead.result c.ahead-2.result
    c.are_same_but-2.result c.after.ensures c.after-2.ensures c.ahead.ensures c.ahead-2.ensures (c.if-not-are_same_but.ensures.0 refl)
    c.are_same_but-2.ensures
    ∙ ap (λ n. all_below n (λ w. (w == c.args.u || w == c.args.v) || is_alike_to holds c.args.u c.args.v w)) known
