use Rattle.std.proofs.Common.{rules, subst, sym, ap, ◌∙◌, inl}
use Rattle.command_words.specs.Command.{asked}
use Rattle.command_words.specs.Laws.Words.{may_repeat}
use Rattle.wf_server.specs.Runs.{HasRun, command_meant, takes_up}
use Rattle.wf_server.proofs.ResumeLaws.{meant, reached, turned}
use Rattle.wf_server.proofs.runs.run.Goals as goal

pub returns-in-Ok-clause-does : goal.returns-in-Ok-clause-does
returns-in-Ok-clause-does g c =
    reached (λ r. HasRun (may_repeat (command_meant c.args.words.now)) (command_meant c.args.words.now) r)
    g.F.Shelf.file g.F.Shelf.faults g.S.Source.left g.S.Source.faults g.K.Sink.held g.K.Sink.faults
    c.new-outside.result c.run_on_lanes.new.outside c.run_on_lanes.result _ _ _ _ _ _ c.new-outside.ensures.shelf.value (search rules)
    c.new-outside.ensures.source.value (search rules) c.new-outside.ensures.sink.value (search rules)
    (meant _ (asked c.in-Ok.command) _ c.in-Ok.ensures.command c.run_on_lanes.ensures.does)

pub returns-in-Ok-2-clause-does : goal.returns-in-Ok-2-clause-does
returns-in-Ok-2-clause-does g c =
    reached (λ r. HasRun (may_repeat (command_meant c.args.words.now)) (command_meant c.args.words.now) r)
    g.F.Shelf.file g.F.Shelf.faults g.S.Source.left g.S.Source.faults g.K.Sink.held g.K.Sink.faults
    c.new-outside.result c.run_command.new.outside c.run_command.result _ _ _ _ _ _ c.new-outside.ensures.shelf.value (search rules)
    c.new-outside.ensures.source.value (search rules) c.new-outside.ensures.sink.value (search rules)
    (turned _ _ (asked c.in-Ok.command) _ c.in-Ok.ensures.command (λ d e leaves. search rules) c.run_command.ensures.does)

pub returns-in-Ok-clause-once : goal.returns-in-Ok-clause-once
returns-in-Ok-clause-once g c kept never =
    c.run_on_lanes.ensures.once (ap takes_up (sym c.in-Ok.ensures.command) ∙ kept) (ap may_repeat (sym c.in-Ok.ensures.command) ∙ never)

pub returns-in-Ok-2-clause-once : goal.returns-in-Ok-2-clause-once
returns-in-Ok-2-clause-once g c kept never =
    c.run_command.ensures.once (ap takes_up (sym c.in-Ok.ensures.command) ∙ kept) (inl (λ d e leaves. search rules))
