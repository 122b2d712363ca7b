use Rattle.policy_book.specs.Policies.{problem_of}
use Rattle.cnf_export.specs.Models.{AreSound}
use Rattle.wf_commands.proofs.Telling.{encodes_case, encodes_no_case}
use Rattle.wf_commands.proofs.clauses.clauses_under.Goals as goal

pub returns-in_err-c-clause-clauses : goal.returns-in_err-c-clause-clauses
returns-in_err-c-clause-clauses g c =
    encodes_no_case c.args.p.now c.args.flow.now c.in_ok-find_flow.field-0 (g.S.Source.left c.args.source.now) c.from_residual-in_err-c.result
    c.in_err-c.field-0.0
    c.from_residual-in_err-c.ensures.1 c.in_ok-find_flow.ensures.0 c.in_err-c.ensures.case c.in_err-c.ensures.ending

pub returns-clause-clauses : goal.returns-clause-clauses
returns-clause-clauses g c =
    let problem = problem_of c.args.p.now c.in_ok-find_flow.field-0 in
    let sound : AreSound problem = record { named = c.rules-ruled.ensures.well_formed; members = λ k r is. (c.rules-ruled.ensures.ruled k r is).members } in
    encodes_case c.args.p.now c.args.flow.now c.in_ok-find_flow.field-0 c.in_ok-c.c (g.S.Source.left c.args.source.now) c.encode.result
    c.in_ok-find_flow.ensures.0
    c.satisfiable_is_completable.ensures sound c.in_ok-c.ensures.sound c.in_ok-c.ensures.case c.encode.ensures.encoder
