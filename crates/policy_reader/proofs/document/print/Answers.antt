use Rattle.policy_reader.proofs.Prints.{◌∙◌, sym, ap, arith, refl, ◌≡◌, true, false, Err, string_bytes, members_have_valid_dates, document_of}
use Rattle.std.proofs.lemmas.Str.{IsUtf8-string_bytes}
use Rattle.policy_reader.proofs.Plain.{document_plain}
use Rattle.policy_reader.proofs.Again.{file_back}
use Rattle.policy_reader.proofs.Ends.{document_in-utf8}
use Rattle.policy_reader.proofs.document.print.Goals as goal

pub returns-in-Ok-clause-document : goal.returns-in-Ok-clause-document
returns-in-Ok-clause-document c =
    let plain = document_plain c.args.p.now in
    rw (
      document_in-utf8 (string_bytes c.in-Ok.text) (IsUtf8-string_bytes c.in-Ok.text),
      c.in-Ok.ensures.reads_back (rw c.in_ok-table.ensures.document (omega (arith, plain.levels))),
      c.in_ok-table.ensures.document,
    ) refl

pub returns-in-Ok-clause-reads_back : goal.returns-in-Ok-clause-reads_back
returns-in-Ok-clause-reads_back c is =
    file_back c.order_is_chained.ensures.decided c.args.p.now c.in_ok-table.ensures.named is (string_bytes c.in-Ok.text) (returns-in-Ok-clause-document c)

pub unreachable-requires : goal.unreachable-requires
unreachable-requires c =
    let plain = document_plain c.args.p.now in
    let dated : members_have_valid_dates (document_of c.args.p.now) ≡ false =
    rw (← c.in_ok-table.ensures.document) (c.table_to_string.ensures.dates.0 (c.in-Err-DateInvalid.is ∙ ap Err c.in-Err-DateInvalid.field-0-is)) in
    let no : true ≡ false = sym plain.dates ∙ dated in cc
