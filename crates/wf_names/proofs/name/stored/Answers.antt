use Rattle.std.proofs.Common.{◌≡◌, List, ℕ, length, replicate, ap, ◌∙◌, arith}
use Rattle.std.proofs.lemmas.List.{length-replicate, length-take-le}
use Rattle.wf_names.specs.declared.limits.TheConstants.{NAME_LIMIT}
use Rattle.wf_names.proofs.NameForms.{name_length, cells_stored}
use Rattle.wf_names.proofs.name.stored.Goals as goal

cells_long : (cells : List ℕ) → cells ≡ replicate NAME_LIMIT 0 → length cells ≡ NAME_LIMIT
cells_long cells e = ap length e ∙ length-replicate {A = ℕ} NAME_LIMIT 0

pub slice_bounds-cells-end : goal.slice_bounds-cells-end
slice_bounds-cells-end c = grind (arith, cells_long, name_length)

pub slice_bounds-copy_from_slice-end : goal.slice_bounds-copy_from_slice-end
slice_bounds-copy_from_slice-end c = grind (arith, cells_long, name_length, length-take-le)

pub copy_from_slice-requires : goal.copy_from_slice-requires
copy_from_slice-requires c = grind (arith, cells_long, name_length, length-take-le)

pub invariant_of-result : goal.invariant_of-result
invariant_of-result c =
    rw c.copy_from_slice.ensures.after (cells_stored c.args.bytes.now c.blank-cells.result c.blank-cells.ensures c.requires)
