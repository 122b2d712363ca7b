use Rattle.std.proofs.Common.{◌∙◌, ℕ, List, sym, ap, subst}
use Rattle.policy_book.specs.Course.{problem_in}
use Rattle.user_relations.specs.Laws.Relations.{is_related}
use Rattle.cnf_export.specs.Terms.{AreDomains}
use Rattle.cnf_export.proofs.Domains.{same_encoding}
use Rattle.cnf_export.proofs.making.terms_of.Goals as goal

pub returns : goal.returns
returns c =
    let problem = problem_in c.args.course.now in
    same_encoding c.new.result problem c.args.a.now c.args.done.now
    (ap (λ t. t.users) c.new.ensures ∙ c.user_count.ensures.count)
    (ap (λ t. t.steps) c.new.ensures ∙ c.step_count.ensures.count)
    (subst (λ (d : List (List ℕ)). AreDomains problem c.args.a.now c.args.done.now problem.steps d) (sym (ap (λ t. t.domains) c.new.ensures))
    c.in_ok-domains.ensures)
    (ap (λ t. is_related t.relations) c.new.ensures ∙ ap is_related (c.in_ok-relations.ensures ∙ c.relations.ensures.relations))
