use Rattle.std.proofs.Common.{◌∙◌, ◌++◌, sym, ap}
use Rattle.cnf_export.specs.Laws.Encodings.{clause, some_clause}
use Rattle.cnf_export.specs.Terms.{encoding_in}
use Rattle.cnf_export.proofs.Signs.{on_ok}
use Rattle.cnf_export.proofs.terms.Terms.write_clause.Goals as goal

pub returns-in-SomeOf : goal.returns-in-SomeOf
returns-in-SomeOf c =
    let e = encoding_in c.args.self.now in
    on_ok c.write_some.result
    (λ written. written
    ∙ ap (λ ls. ls ++ some_clause e c.in-SomeOf.rho c.in-SomeOf.back c.in-SomeOf.group c.in-SomeOf.step c.args.k) c.truncate.ensures
    ∙ sym (ap (λ g. clause e g c.args.i c.args.k) c.in-SomeOf.is))
    c.write_some.ensures
