use Rattle.std.proofs.Common.{◌≡◌, true, refl, ap, subst, ◌∙◌}
use Rattle.std.specs.Prelude.{◌↔◌}
use Rattle.resilience_check.specs.Left.{IsResilient}
use Rattle.resilience_check.specs.Covering.{AnswersAbsence, holds}
use Rattle.resilience_check.specs.declared.search.AbsenceAnswer.{AbsenceAnswer}
use Rattle.refutation_tree.specs.Laws.Views.{shape_of}
use Rattle.wire_json.specs.Absences.{absence_line, family_line}
use Rattle.wf_commands.proofs.resilience.tell_absences.Goals as goal

pub returns-in_ok-write_family-in-Holds : goal.returns-in_ok-write_family-in-Holds
returns-in_ok-write_family-in-Holds c t answered exactly =
    let p = c.args.course.now.policy.now in
    let answers = subst (λ (a : AbsenceAnswer). AnswersAbsence p c.args.course.now.number t a) c.in-Holds.is answered in
    let exact = subst (λ (a : AbsenceAnswer). (holds a ≡ true) ↔ IsResilient p c.args.course.now.number t) c.in-Holds.is exactly in
    record {
      tells = (c.in-Holds.plans, answers.0, answers.1, c.in_ok-write_family-in-Holds.ensures ∙ ap (family_line p) c.as_slice.ensures);
      holds = ((λ e. exact.0 refl), (λ r. refl));
      breaks = ((λ e. cc), (λ never. absurd (never (exact.0 refl))));
    }

pub returns-in_ok-write_absence-in-Breaks : goal.returns-in_ok-write_absence-in-Breaks
returns-in_ok-write_absence-in-Breaks c t answered exactly =
    let p = c.args.course.now.policy.now in
    let f = c.args.course.now.number in
    let answers = subst (λ (a : AbsenceAnswer). AnswersAbsence p f t a) c.in-Breaks.is answered in
    let exact = subst (λ (a : AbsenceAnswer). (holds a ≡ true) ↔ IsResilient p f t) c.in-Breaks.is exactly in
    let tree = shape_of c.in-Breaks.tree in
    record {
      tells = (
        c.in-Breaks.absent,
        tree,
        answers.0,
        answers.1,
        c.in_ok-write_absence-in-Breaks.ensures ∙ ap (λ absent. absence_line p f absent tree) c.as_slice-in-Breaks.ensures,
      );
      holds = ((λ e. cc), (λ r. let no = exact.1 r in cc));
      breaks = ((λ e r. let no = exact.1 r in cc), (λ never. refl));
    }
