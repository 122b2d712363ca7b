use Rattle.policy_book.specs.Course.{problem_in}
use Rattle.cnf_export.specs.Terms.{AreDomains}
use Rattle.cnf_export.proofs.making.domains_of.Given as goal

abbrev pub invariant-steps : goal.invariant-steps
invariant-steps l = AreDomains (problem_in l.course) l.a l.done l.s l.domains.items
