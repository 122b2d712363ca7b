use Rattle.std.proofs.Common.{[], ap, nat_lt, refl, codes}
use Rattle.case_story.proofs.Told.{tells_entry}
use Rattle.case_story.proofs.entry.tell_entry.Goals as goal

pub returns-clause-tells : goal.returns-clause-tells
returns-clause-tells c =
    tells_entry c.args.s.now c.args.at c.in_ok-verdict.verdict [] (codes "\n") _ c.tell_by.result c.in_ok-verdict.ensures.finds refl refl
    (ap (λ n. nat_lt c.args.at n) c.right_lines.ensures) c.tell_by.ensures.tells
