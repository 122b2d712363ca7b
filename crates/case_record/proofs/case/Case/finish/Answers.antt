use Rattle.std.proofs.Common.{ap, ◌∙◌, arith}
use Rattle.case_record.specs.Cases.{assigned_of, finished_of}
use Rattle.case_record.proofs.Laws.{assigned_of-finish, finished_of-finish}
use Rattle.case_record.proofs.Changes.{kept_finished, held_within}
use Rattle.case_record.proofs.case.Case.finish.Goals as goal

pub returns-clause-case : goal.returns-clause-case
returns-clause-case c = grind (arith, held_within, kept_finished)

pub returns-clause-assigned : goal.returns-clause-assigned
returns-clause-assigned c = ap assigned_of (returns-clause-case c) ∙ assigned_of-finish c.args.self.now c.args.s c.requires

pub returns-clause-finished : goal.returns-clause-finished
returns-clause-finished c = ap finished_of (returns-clause-case c) ∙ finished_of-finish c.args.self.now c.args.s c.requires
