use Rattle.std.proofs.Common.{sym, ap, subst, ◌∙◌, nat_eq}
use Rattle.grant_table.specs.declared.rows.Row.{Row}
use Rattle.grant_table.specs.Cases.{only, open_count, row_at}
use Rattle.grant_table.specs.Kept.{IsSoundTable, rows_of}
use Rattle.grant_table.proofs.Parts.{kept_filter, only_is}
use Rattle.grant_table.proofs.Passed.{kept_anew}
use Rattle.grant_table.proofs.cases.Cases.copy_one.Goals as goal

pub invariant_of-result : goal.invariant_of-result
invariant_of-result c =
    let n = c.c.inside.0 in
    let rows = c.self.inside.rows.items in
    let ever = c.self.inside.ever in
    let items = c.in_ok-only.ensures ∙ ap (only n) c.deref.ensures.value in
    let live =
    c.one_live.ensures ∙ ap (λ o. open_count (rows_of o)) (c.row_of.ensures ∙ ap (row_at n) c.deref-2.ensures.value)
    ∙ ap open_count (sym (only_is 0 n rows c.self.invariant.sound.ascend)) in
    kept_anew _ _ _
    (subst (IsSoundTable c.in_ok-only.field-0.items ever) (sym live)
    (subst (λ xs. IsSoundTable xs ever (open_count (only n rows))) (sym items)
    (kept_filter (λ (r : Row). nat_eq r.number n) ever c.self.inside.live rows c.self.invariant.sound)))
