use Rattle.std.proofs.Common.{◌≡◌, ◌∙◌, ◌<◌, ◌≤◌, List, sym, ap, subst, arith}
use Rattle.std.specs.Prelude.{ℤ, Err}
use Rattle.std.specs.List.{flat_map}
use Rattle.wf_names.specs.declared.limits.TheConstants.{STEP_LIMIT}
use Rattle.policy_book.specs.Policies.{problem_of}
use Rattle.cnf_export.specs.Laws.Encodings.{encoding_of, group_clauses, groups, literals}
use Rattle.cnf_export.specs.Sizes.{empties}
use Rattle.cnf_export.specs.Terms.{encoding_in}
use Rattle.cnf_export.specs.Fault.{too_large}
use Rattle.cnf_export.specs.declared.tally.TheConstants.{LITERAL_LIMIT}
use Rattle.cnf_export.proofs.Filled.{filled}
use Rattle.cnf_export.proofs.Sums.{handed_on}
use Rattle.cnf_export.proofs.encoder.Encoder.new.Goals as goal

pub count-requires : goal.count-requires
count-requires c =
    let problem = problem_of c.args.p.now c.args.f in
    let made : c.in_ok-groups.groups.items ≡ groups problem.steps problem.rules = c.in_ok-groups.ensures ∙
    (λ i. groups (c.step_count-steps.ensures.count i) (c.rules.ensures.rules i)) in
    let whole = c.before-at.ensures (encoding_in c.in_ok-terms.terms) c.deref.result.now ∙
    (λ i. flat_map (group_clauses (c.in_ok-terms.ensures i)) ((c.deref.ensures.value ∙ made) i)) in
    let few = filled (encoding_of problem c.args.a.now c.args.done.now) problem.steps problem.rules in
    subst (λ (cs : List (List ℤ)). empties cs ≤ STEP_LIMIT) (sym whole) (omega (arith, few, c.step_count-steps.ensures.count, c.step_count-steps.ensures.few))

pub returns-in_err-clauses-clause-large : goal.returns-in_err-clauses-clause-large
returns-in_err-clauses-clause-large c fault =
    let problem = problem_of c.args.p.now c.args.f in
    let made : c.in_ok-groups.groups.items ≡ groups problem.steps problem.rules = c.in_ok-groups.ensures ∙
    (λ i. groups (c.step_count-steps.ensures.count i) (c.rules.ensures.rules i)) in
    let whole = c.before-at.ensures (encoding_in c.in_ok-terms.terms) c.deref.result.now ∙
    (λ i. flat_map (group_clauses (c.in_ok-terms.ensures i)) ((c.deref.ensures.value ∙ made) i)) in
    subst (λ (cs : List (List ℤ)). LITERAL_LIMIT < literals cs) whole (c.in_err-clauses.ensures.large
    (ap Err (handed_on c.from_residual-in_err-clauses.result c.in_err-clauses.field-0.0 too_large c.from_residual-in_err-clauses.ensures.1 fault)))

pub returns-clause-all : goal.returns-clause-all
returns-clause-all c =
    let problem = problem_of c.args.p.now c.args.f in
    let made : c.in_ok-groups.groups.items ≡ groups problem.steps problem.rules = c.in_ok-groups.ensures ∙
    (λ i. groups (c.step_count-steps.ensures.count i) (c.rules.ensures.rules i)) in
    λ i. flat_map (group_clauses (c.in_ok-terms.ensures i)) (made i)

pub returns-clause-few : goal.returns-clause-few
returns-clause-few c =
    let problem = problem_of c.args.p.now c.args.f in
    let made : c.in_ok-groups.groups.items ≡ groups problem.steps problem.rules = c.in_ok-groups.ensures ∙
    (λ i. groups (c.step_count-steps.ensures.count i) (c.rules.ensures.rules i)) in
    let whole = c.before-at.ensures (encoding_in c.in_ok-terms.terms) c.deref.result.now ∙
    (λ i. flat_map (group_clauses (c.in_ok-terms.ensures i)) ((c.deref.ensures.value ∙ made) i)) in
    subst (λ (cs : List (List ℤ)). literals cs ≤ LITERAL_LIMIT) whole c.in_ok-clauses.ensures.few
