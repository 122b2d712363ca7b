use Rattle.std.proofs.Common.{ℕ, ◌+◌, ◌-◌, List, take, drop, length, Err, refl, sym, subst, ◌∙◌}
use Rattle.transcript_audit.specs.Laws.Outcomes.{HasTakenLine}
use Rattle.case_story.specs.declared.place.Place.{Place}
use Rattle.case_story.specs.declared.verdict.Verdict.TheVariants.{Fault}
use Rattle.case_story.specs.Followed.{StopsTo}
use Rattle.transcript_commands.proofs.LinesTaken.{left_at}
use Rattle.case_story.proofs.Following.{IsRest, left_some, one_long, one_more, wrong_line}
use Rattle.case_story.proofs.follow.follow_line.Goals as goal

pub returns-then-is_long-clause-steps : goal.returns-then-is_long-clause-steps
returns-then-is_long-clause-steps g c first h =
    let text = c.args.text.now in
    let at = c.args.place.now.at in
    one_long first c.args.auditor.now text (take (length text - at) (drop at text)) c.args.place.now (left_at text at) (left_some text at c.requires.some)
    (sym c.is_long.ensures ∙ c.if-is_long.true) h

pub returns-in_ok-see-in-Ok-clause-steps : goal.returns-in_ok-see-in-Ok-clause-steps
returns-in_ok-see-in-Ok-clause-steps g c first h =
    let text = c.args.text.now in
    let at = c.args.place.now.at in
    let rest : List ℕ = take (length text - at) (drop at text) in
    let count = c.first_len-count.result in
    let after : Place = record { at = at + count; number = c.args.place.now.number + 1 } in
    let r : IsRest text rest c.args.place.now count = record {
      is = left_at text at;
      some = left_some text at c.requires.some;
      line = c.first_len-count.ensures.line;
      behind = c.first_len-count.ensures.behind;
    } in
    one_more first c.args.auditor.now c.line.new.self text rest c.args.place.now after count r (sym c.is_long.ensures ∙ c.if-is_long.false)
    c.in-Ok.ensures.taken refl refl h

pub returns-in-Err-At-clause-steps : goal.returns-in-Err-At-clause-steps
returns-in-Err-At-clause-steps g c first h =
    let text = c.args.text.now in
    let at = c.args.place.now.at in
    let rest : List ℕ = take (length text - at) (drop at text) in
    let count = c.first_len-count.result in
    let r : IsRest text rest c.args.place.now count = record {
      is = left_at text at;
      some = left_some text at c.requires.some;
      line = c.first_len-count.ensures.line;
      behind = c.first_len-count.ensures.behind;
    } in
    subst (λ k. StopsTo first c.line.new.self text (Fault c.args.place.now.number k)) (sym c.in-Err-At.kind-is)
    (wrong_line first c.args.auditor.now c.line.new.self text rest c.args.place.now count _ c.in-Err-At.kind r (sym c.is_long.ensures ∙ c.if-is_long.false)
    c.requires.at.going
    (subst (λ e. HasTakenLine c.args.auditor.now c.line.new.self (take count rest) (Err e)) c.in-Err-At.field-0-is c.in-Err-At.ensures.taken) h)
