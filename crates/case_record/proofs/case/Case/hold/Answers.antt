use Rattle.std.proofs.Common.{ap, ◌∙◌, arith}
use Rattle.case_record.specs.Cases.{assigned_of, finished_of}
use Rattle.case_record.proofs.Laws.{assigned_of-hold, finished_of-hold}
use Rattle.case_record.proofs.Changes.{kept_changed}
use Rattle.case_record.proofs.case.Case.hold.Goals as goal

pub returns-clause-held : goal.returns-clause-held
returns-clause-held c = grind (arith, kept_changed)

pub returns-clause-assigned : goal.returns-clause-assigned
returns-clause-assigned c = ap assigned_of (returns-clause-held c) ∙ assigned_of-hold c.args.self.now c.args.s c.args.u c.requires.step

pub returns-clause-finished : goal.returns-clause-finished
returns-clause-finished c = ap finished_of (returns-clause-held c) ∙ finished_of-hold c.args.self.now c.args.s c.args.u c.requires.step c.requires.free
