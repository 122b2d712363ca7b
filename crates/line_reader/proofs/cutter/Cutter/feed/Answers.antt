use Rattle.std.proofs.Common.{arith, subst, sym}
use Rattle.std.proofs.lemmas.Grind.{common_steps}
use Rattle.std.proofs.lemmas.List.{length-take-le}
use Rattle.line_reader.specs.Cutter.{CutsOn, IsSound}
use Rattle.line_reader.proofs.CutLaws.{byte_on, one_cut, plain_cut, plain_on, plain_sound, sound_step}
use Rattle.line_reader.proofs.WholeLines.{front_short, line_cut, line_on, line_sound}
use Rattle.line_reader.proofs.cutter.Cutter.feed.Goals as goal

pub returns-then-run-eq0-clause-cuts : goal.returns-then-run-eq0-clause-cuts
returns-then-run-eq0-clause-cuts c =
    one_cut c.args.self.now c.step.new.self c.args.piece.now c.requires.some c.requires.ready.going (grind (arith, common_steps))

pub returns-then-run-eq0-clause-on : goal.returns-then-run-eq0-clause-on
returns-then-run-eq0-clause-on c = subst (CutsOn c.args.self.now) (sym c.in_ok-step.ensures.fed) (byte_on c.args.self.now _ c.requires.ready)

pub returns-then-run-eq0-clause-sound : goal.returns-then-run-eq0-clause-sound
returns-then-run-eq0-clause-sound c = subst IsSound (sym c.in_ok-step.ensures.fed) (sound_step c.args.self.now _ c.requires.ready.sound)

pub returns-then-has_line-clause-cuts : goal.returns-then-has_line-clause-cuts
returns-then-has_line-clause-cuts c =
    let run = c.plain_len-run in
    let line = c.has_line in
    let is = c.if-has_line.true in
    line_cut c.args.self.now c.end_whole_line.new.self c.args.piece.now run.result (line.ensures.within is) (line.ensures.end is)
    (line.ensures.empty is) c.requires.ready.going (run.ensures.lines (grind (arith, common_steps))) run.ensures.short
    run.ensures.plain c.in_ok-end_whole_line.ensures.ended

pub returns-then-has_line-clause-on : goal.returns-then-has_line-clause-on
returns-then-has_line-clause-on c =
    let run = c.plain_len-run in
    line_on c.args.self.now c.end_whole_line.new.self _ c.requires.ready (c.has_line.ensures.empty c.if-has_line.true)
    (run.ensures.lines (grind (arith, common_steps)))
    (front_short c.args.piece.now run.result _ run.ensures.within run.ensures.short) c.in_ok-end_whole_line.ensures.ended

pub returns-then-has_line-clause-sound : goal.returns-then-has_line-clause-sound
returns-then-has_line-clause-sound c =
    let run = c.plain_len-run in
    line_sound c.args.self.now c.end_whole_line.new.self _ c.requires.ready.sound c.requires.ready.going
    (run.ensures.lines (grind (arith, common_steps)))
    (front_short c.args.piece.now run.result _ run.ensures.within run.ensures.short) c.in_ok-end_whole_line.ensures.ended

pub returns-clause-cuts : goal.returns-clause-cuts
returns-clause-cuts c =
    plain_cut c.args.self.now c.push_plain.new.self c.args.piece.now c.plain_len-run.result (grind (arith, common_steps)) c.plain_len-run.ensures.within
    c.requires.ready.going (c.plain_len-run.ensures.lines (grind (arith, common_steps))) c.plain_len-run.ensures.short c.plain_len-run.ensures.plain
    c.in_ok-push_plain.ensures.pushed

pub returns-clause-on : goal.returns-clause-on
returns-clause-on c =
    let size = length-take-le c.plain_len-run.result c.args.piece.now c.plain_len-run.ensures.within in
    plain_on c.args.self.now c.push_plain.new.self _ c.requires.ready (grind (arith, common_steps, size)) c.in_ok-push_plain.ensures.pushed

pub returns-clause-sound : goal.returns-clause-sound
returns-clause-sound c =
    let size = length-take-le c.plain_len-run.result c.args.piece.now c.plain_len-run.ensures.within in
    plain_sound c.args.self.now c.push_plain.new.self _ c.requires.ready.sound c.in_ok-push_plain.ensures.pushed
    (omega (arith, size, c.plain_len-run.ensures.short))
