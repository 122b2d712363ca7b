use Rattle.std.proofs.Common.{◌++◌, List, ℕ, take, sym, ap, subst, ◌∙◌}
use Rattle.std.proofs.lemmas.List.{take-append-drop}
use Rattle.line_reader.specs.Pieces.{PiecesShape}
use Rattle.line_reader.specs.Jobs.{Cut}
use Rattle.line_reader.specs.Cutter.{Cuts}
use Rattle.line_reader.specs.BatchReader.{BatchReaderShape}
use Rattle.line_reader.proofs.ReadingLaws.{cut_more}
use Rattle.line_reader.proofs.batch_reader.BatchReader.cut_some.Goals as goal

pub returns-clause-reads : goal.returns-clause-reads
returns-clause-reads c before after h read =
    let n = c.in_ok-count.count in
    let ahead = c.self.inside.pieces.ahead in
    let pending = ap (λ (s : BatchReaderShape). s.pending) c.self.view_is in
    let cuts = rw c.ahead.ensures.ahead at c.in_ok-count.ensures.cuts in
    cut_more before after h c.args.self.now _ (take n ahead)
    (subst (λ (x : Cut). Cuts x c.feed.new.self (take n ahead)) (ap (λ (s : BatchReaderShape). s.cut) c.self.view_is) cuts)
    c.requires.ready.handed
    (sym pending ∙ sym (take-append-drop n ahead) ∙ ap (λ (xs : List ℕ). take n ahead ++ xs) (sym (ap (λ (p : PiecesShape). p.ahead) c.pass.ensures)))
    read
