use Rattle.std.proofs.Common.{◌∷◌, [], ◌++◌, ap, ◌∙◌, refl}
use Rattle.wf_board.specs.Boards.{numbered}
use Rattle.case_views.proofs.Listing.{granted_item, refused_item}
use Rattle.case_views.proofs.work_lists.add_step.Goals as goal

pub returns-in_ok-push : goal.returns-in_ok-push
returns-in_ok-push c = λ p u told.
    granted_item p u (numbered c.args.row.now) c.args.step c.args.row.now.case c.args.granted c.args.items.now c.push.new.self
    c.if-granted.true refl told (c.in_ok-push.ensures.pushed ∙ ap (λ x. c.args.items.now ++ x ∷ []) c.item_of.ensures)

pub returns-else-granted : goal.returns-else-granted
returns-else-granted c = λ p u told.
    refused_item p u (numbered c.args.row.now) c.args.step c.args.row.now.case c.args.granted c.args.items.now c.if-granted.false refl told
