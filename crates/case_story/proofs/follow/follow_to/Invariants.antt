use Rattle.std.proofs.Common.{◌≤◌, ◌-◌, length}
use Rattle.transcript_audit.specs.Auditor.{AuditShape}
use Rattle.case_story.specs.Followed.{HasFollowed, IsAt}
use Rattle.case_story.proofs.follow.follow_to.Given as goal

abbrev pub invariant-lines : goal.invariant-lines
invariant-lines g l =
    record {
      at : IsAt l.text l.auditor l.place;
      most : l.place.number ≤ l.most;
      more : l.fn.place.number ≤ l.place.number;
      goes : (first : AuditShape) → HasFollowed first l.fn.auditor l.text l.fn.place → HasFollowed first l.auditor l.text l.place;
    }

abbrev pub decreases-lines : goal.decreases-lines
decreases-lines g l = length l.text - l.place.at
