use Rattle.std.proofs.Common.{◌∙◌, arith}
use Rattle.std.proofs.lemmas.List.Elements.{same_from_all_zip}
use Rattle.wf_names.proofs.stored.StoredNamesClone.clone.Goals as goal

pub returns : goal.returns
returns c = record { cases = same_from_all_zip _ c.self.inside.set.keys c.in_ok-clone.field-0.keys c.in_ok-clone.ensures.cases (λ x y h. h) ∙ c.self.view_is }

pub invariant_of-result : goal.invariant_of-result
invariant_of-result c = grind (arith, same_from_all_zip)
