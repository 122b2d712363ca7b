use Rattle.wf_names.specs.declared.limits.TheConstants.{POLICY_FILE_LIMIT}
use Rattle.wf_commands.proofs.Endings.{unloaded_loads, unloaded_named}
use Rattle.wf_commands.proofs.Loading.{unloaded_policy}
use Rattle.wf_commands.proofs.Runs.{loaded}
use Rattle.wf_commands.proofs.load.load_policy.Goals as goal

pub returns-in_err-file-clause-policy : goal.returns-in_err-file-clause-policy
returns-in_err-file-clause-policy g c =
    unloaded_policy (g.F.Shelf.file c.args.shelf.now c.args.name.now) c.from_residual.result c.in_err-file.field-0.0 c.from_residual.ensures.1
    c.in_err-file.ensures.bytes

pub returns-in_err-file-clause-named : goal.returns-in_err-file-clause-named
returns-in_err-file-clause-named g c =
    unloaded_named POLICY_FILE_LIMIT (g.F.Shelf.file c.args.shelf.now c.args.name.now) c.from_residual.result c.in_err-file.field-0.0
    c.from_residual.ensures.1 c.in_err-file.ensures.named

pub returns-in_err-file-clause-loads : goal.returns-in_err-file-clause-loads
returns-in_err-file-clause-loads g c =
    unloaded_loads c.from_residual.result c.in_err-file.field-0.0 _ _ c.from_residual.ensures.1 c.in_err-file.ensures.loads

pub returns-in_err-read-clause-named : goal.returns-in_err-read-clause-named
returns-in_err-read-clause-named g c = loaded POLICY_FILE_LIMIT (g.F.Shelf.file c.args.shelf.now c.args.name.now) _ c.in_ok-file.ensures.named
