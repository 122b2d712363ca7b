use Rattle.std.proofs.Common.{◌≡◌, ℕ, ◌<◌, [], drop, ap, refl, sym, subst}
use Rattle.run_record.specs.Report.{told_by}
use Rattle.run_record.specs.Laws.Run.{streams_of}
use Rattle.command_words.specs.Command.{options_in}
use Rattle.wf_board.specs.Laws.States.{opening_state}
use Rattle.wf_board.specs.Laws.Histories.{AreAnsweredOnce, AreRightful, IsLegal}
use Rattle.wf_desk.specs.Desks.{DeskShape, desk_with}
use Rattle.wf_server.specs.Laws.Serving.{setting}
use Rattle.line_reader.specs.Jobs.{start}
use Rattle.wf_server.specs.Batches.{Serves}
use Rattle.wf_server.specs.Sessions.{Setting}
use Rattle.wf_server.specs.Ways.{setting_of}
use Rattle.wf_server.proofs.SessionLaws.{bare_serves}
use Rattle.wf_server.proofs.session.run_session.Goals as goal

pub serve_desk-requires-clause-lanes : goal.serve_desk-requires-clause-lanes
serve_desk-requires-clause-lanes g c = subst (λ (x : DeskShape). 0 < x.lanes) (sym c.in-Ok.ensures.begins) c.requires.options.some

pub serve_desk-requires-clause-new : goal.serve_desk-requires-clause-new
serve_desk-requires-clause-new g c =
    subst (λ (x : DeskShape). x ≡ desk_with x.opening x.lanes x.rounds x.board [] x.spare) (sym c.in-Ok.ensures.begins) refl

pub returns-in-Err-clause-serves : goal.returns-in-Err-clause-serves
returns-in-Err-clause-serves g c =
    bare_serves (setting c.args.policy (options_in c.args.options)) c.args.room _ (told_by c.bare_report.result) c.bare_report.result.fault refl
    c.bare_report.ensures.told c.bare_report.ensures.fault

pub returns-in-Ok-clause-serves : goal.returns-in-Ok-clause-serves
returns-in-Ok-clause-serves g c =
    let streams = streams_of g.S.Source.left g.S.Source.faults g.K.Sink.held g.K.Sink.faults c.args.source.now c.args.sink.now in
    let after = streams_of g.S.Source.left g.S.Source.faults g.K.Sink.held g.K.Sink.faults c.serve_desk.new.source c.serve_desk.new.sink in
    let d = c.in-Ok.desk in
    let new = c.in-Ok.ensures.begins in
    let told = told_by c.serve_desk.result in
    let fault = c.serve_desk.result.fault in
    let set = setting c.args.policy (options_in c.args.options) in
    let same : setting_of d ≡ set = ap setting_of new in
    let lanes : d.lanes ≡ c.args.options.lanes = ap (λ (x : DeskShape). x.lanes) new in
    subst (λ (n : ℕ). Serves set (start n) c.args.room streams after told fault) lanes
    (subst (λ (s : Setting). Serves s (start d.lanes) c.args.room streams after told fault) same c.serve_desk.ensures.serves)

pub returns-in-Ok-clause-legal : goal.returns-in-Ok-clause-legal
returns-in-Ok-clause-legal g c =
    let d = c.in-Ok.desk in
    let same : setting_of d ≡ setting c.args.policy (options_in c.args.options) = ap setting_of c.in-Ok.ensures.begins in
    subst (λ (s : Setting). IsLegal (opening_state s.policy) s.rounds (told_by c.serve_desk.result).entries) same c.serve_desk.ensures.behind.legal

pub returns-in-Ok-clause-wants : goal.returns-in-Ok-clause-wants
returns-in-Ok-clause-wants g c =
    subst (λ n. AreRightful (drop n (told_by c.serve_desk.result).entries)) (ap (λ (x : DeskShape). x.restored) c.in-Ok.ensures.begins)
    c.serve_desk.ensures.behind.wants

pub returns-in-Ok-clause-once : goal.returns-in-Ok-clause-once
returns-in-Ok-clause-once g c serves =
    let d = c.in-Ok.desk in
    let new = c.in-Ok.ensures.begins in
    let restored : d.restored ≡ 0 = ap (λ (x : DeskShape). x.restored) new in
    let none : AreAnsweredOnce (drop d.restored d.entries) = subst (λ (x : DeskShape). AreAnsweredOnce (drop x.restored x.entries)) (sym new) tt in
    subst (λ n. AreAnsweredOnce (drop n (told_by c.serve_desk.result).entries)) restored (c.serve_desk.ensures.behind.once serves none)
