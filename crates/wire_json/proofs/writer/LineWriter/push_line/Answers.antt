use Rattle.std.specs.Prelude.{codes}
use Rattle.std.proofs.Common.{◌++◌, refl}
use Rattle.json.specs.Print.{escape_byte}
use Rattle.serde_json.specs.Data.{boolean}
use Rattle.serde_json.specs.Written.{compact_text}
use Rattle.wf_talk.specs.declared.reply.Reply.TheVariants as reply
use Rattle.wire_json.specs.Entries.{single}
use Rattle.wire_json.proofs.Lines.{line_of}
use Rattle.wire_json.proofs.writer.LineWriter.push_line.Goals as goal

pub returns-in_ok-push_finished-in-Finished-clause-added : goal.returns-in_ok-push_finished-in-Finished-clause-added
unfolding escape_byte
returns-in_ok-push_finished-in-Finished-clause-added c =
    line_of c.args.self.now c.args.e.now (reply.Finished c.in-Finished.done)
    (compact_text (single (codes "finished") (single (codes "done") (boolean c.in-Finished.done))) ++ codes "}\n") _ _ c.in-Finished.is refl
    c.in_ok-push_finished-in-Finished.ensures

pub returns-in_ok-push_head-in-Returned-clause-added : goal.returns-in_ok-push_head-in-Returned-clause-added
unfolding escape_byte
returns-in_ok-push_head-in-Returned-clause-added c =
    line_of c.args.self.now c.args.e.now reply.Returned (codes "\"returned\"}\n") _ _ c.in-Returned.is refl c.in_ok-push_head-in-Returned.ensures
