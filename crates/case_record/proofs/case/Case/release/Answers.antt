use Rattle.std.proofs.Common.{ap, ◌∙◌, arith}
use Rattle.case_record.specs.Cases.{assigned_of, finished_of}
use Rattle.case_record.proofs.Laws.{assigned_of-release, finished_of-release}
use Rattle.case_record.proofs.Changes.{kept_changed, held_within}
use Rattle.case_record.proofs.case.Case.release.Goals as goal

pub returns-clause-released : goal.returns-clause-released
returns-clause-released c = grind (arith, held_within, kept_changed)

pub returns-clause-assigned : goal.returns-clause-assigned
returns-clause-assigned c = ap assigned_of (returns-clause-released c) ∙ assigned_of-release c.args.self.now c.args.s c.requires

pub returns-clause-finished : goal.returns-clause-finished
returns-clause-finished c = ap finished_of (returns-clause-released c) ∙ finished_of-release c.args.self.now c.args.s c.requires
