use Rattle.std.proofs.Common.{Err, refl}
use Rattle.wf_names.specs.declared.limits.TheConstants.{POLICY_FILE_LIMIT}
use Rattle.wf_commands.specs.CnfAnswers.{ClausesAsked}
use Rattle.cnf_export.specs.Encoders.{EncoderShape}
use Rattle.wf_commands.proofs.CnfRuns.{unread_clauses}
use Rattle.wf_commands.proofs.Endings.{loaded_ending, loaded_loads, unloaded_ending, unloaded_reads}
use Rattle.wf_commands.proofs.Loading.{policy_named}
use Rattle.wf_commands.proofs.Telling.{encodes_file, encodes_no_policy}
use Rattle.wf_commands.proofs.clauses.find_clauses.Goals as goal

pub returns-in-Err-clause-clauses : goal.returns-in-Err-clause-clauses
returns-in-Err-clause-clauses g c =
    encodes_no_policy (λ p. ClausesAsked p c.args.flow.now (g.S.Source.left c.args.source.now)) (g.F.Shelf.file c.args.shelf.now c.args.policy.now)
    (Err c.in-Err.fault) c.in-Err.fault refl c.in-Err.ensures.policy c.in-Err.ensures.ending

pub returns-in-Err-clause-ending : goal.returns-in-Err-clause-ending
returns-in-Err-clause-ending g c =
    unloaded_ending {A = EncoderShape} (Err c.in-Err.fault) c.in-Err.fault refl c.in-Err.ensures.ending

pub returns-in-Err-clause-named : goal.returns-in-Err-clause-named
returns-in-Err-clause-named g c = c.in-Err.ensures.named

pub returns-in-Err-clause-loads : goal.returns-in-Err-clause-loads
returns-in-Err-clause-loads g c = c.in-Err.ensures.loads

pub returns-in-Err-clause-reads : goal.returns-in-Err-clause-reads
returns-in-Err-clause-reads g c =
    unloaded_reads {A = EncoderShape} (Err c.in-Err.fault) c.in-Err.fault _ refl c.in-Err.ensures.ending

pub returns-in-Err-clause-input : goal.returns-in-Err-clause-input
returns-in-Err-clause-input g c =
    unread_clauses (Err c.in-Err.fault) c.in-Err.fault (g.S.Source.left c.args.source.now) refl c.in-Err.ensures.ending

pub returns-in-Ok-clause-clauses : goal.returns-in-Ok-clause-clauses
returns-in-Ok-clause-clauses g c =
    encodes_file (λ p. ClausesAsked p c.args.flow.now (g.S.Source.left c.args.source.now)) (g.F.Shelf.file c.args.shelf.now c.args.policy.now)
    c.in-Ok.p c.clauses_under.result c.in-Ok.ensures.policy c.clauses_under.ensures.clauses

pub returns-in-Ok-clause-ending : goal.returns-in-Ok-clause-ending
returns-in-Ok-clause-ending g c = loaded_ending c.clauses_under.result c.clauses_under.ensures.ending

pub returns-in-Ok-clause-named : goal.returns-in-Ok-clause-named
returns-in-Ok-clause-named g c =
    policy_named (g.F.Shelf.file c.args.shelf.now c.args.policy.now) c.in-Ok.p _ c.in-Ok.ensures.policy

pub returns-in-Ok-clause-loads : goal.returns-in-Ok-clause-loads
returns-in-Ok-clause-loads g c = loaded_loads c.clauses_under.result _ _ c.clauses_under.ensures.ending c.in-Ok.ensures.loads
