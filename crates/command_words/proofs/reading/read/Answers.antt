use Rattle.std.proofs.Common.{◌∙◌, Some, None, ap, map, refl, rules, subst}
use Rattle.std.specs.Prelude.{string_bytes}
use Rattle.clap.specs.Words.{App, app_of, is_simple_and_free}
use Rattle.command_words.specs.Finding.{PassesIn, rows_in}
use Rattle.command_words.specs.Forms.{command_in, form_for}
use Rattle.command_words.proofs.Numbers.{form_free, form_numbers}
use Rattle.command_words.proofs.Passing.{command_is, is_found, none_found, passes}
use Rattle.command_words.proofs.reading.read.Goals as goal

pub found_in-requires : goal.found_in-requires
found_in-requires c =
    let form = c.in_ok-command.field-0 in
    let rows = rows_in c.in-Ok.matches in
    let is = c.in_ok-command.ensures in
    let free = ap is_simple_and_free is ∙ form_free c.args.form in
    record {
      numbers = form_numbers c.args.form rows
          (subst (λ (a : App). PassesIn a rows) is (passes form c.in-Ok.matches free c.in-Ok.ensures.parsed));
    }

pub returns-in-Ok-clause-command : goal.returns-in-Ok-clause-command
returns-in-Ok-clause-command c =
    let a = app_of c.in_ok-command.field-0 in
    let words = map string_bytes c.args.words.now in
    let rows = rows_in c.in-Ok.matches in
    let is = c.in_ok-command.ensures in
    let free = ap is_simple_and_free is ∙ form_free c.args.form in
    command_is a (form_for c.args.form) words (Some rows) (command_in c.args.form) _ is
    (is_found a words c.in-Ok.matches free c.in-Ok.ensures.matches (c.in-Ok.ensures.kinds free))
    (c.command_in.ensures.command rows c.found_in.ensures)

pub returns-clause-command : goal.returns-clause-command
returns-clause-command c =
    let a = app_of c.in_ok-command.field-0 in
    let words = map string_bytes c.args.words.now in
    let is = c.in_ok-command.ensures in
    let free = ap is_simple_and_free is ∙ form_free c.args.form in
    command_is a (form_for c.args.form) words None (command_in c.args.form) None is
    (none_found a words c.in-Err.error (c.in-Err.ensures.kinds free) (search rules)) refl
