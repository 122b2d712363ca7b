-- Inside: the forms of the code, and its words, as the definitions see them.
use Rattle.std.specs.Prelude.{List, Option, codes}
use Rattle.clap.specs.Words.{App, Row, Rule}
use Rattle.command_words.specs.declared.arguments.Word.{Word}
use Rattle.command_words.specs.declared.arguments.Word.TheVariants.{Policy, Flow, Requests}
use Rattle.command_words.specs.declared.arguments.Word.TheVariants.{Transcript, Model, Absences}
use Rattle.command_words.specs.declared.arguments.Word.TheVariants.{Seed, Lanes, Rounds}
use Rattle.command_words.specs.declared.forms.Form.{Form}
use Rattle.command_words.specs.declared.forms.Form.TheVariants.{Plan, Show, Solve, Resilience}
use Rattle.command_words.specs.declared.forms.Form.TheVariants.{Cnf, Trial, Session}
use Rattle.command_words.specs.declared.forms.SessionForm.TheVariants.{Serve, Audit, Resume}
use Rattle.command_words.specs.Laws.Words.{Command, absences_word, lanes_option, model_word}
use Rattle.command_words.specs.Laws.Words.{policy_word}
use Rattle.command_words.specs.Laws.Words.{rounds_option, wanted, wanted_number}
use Rattle.command_words.specs.Laws.Words.{audit_form, cnf_form, plan_form, resilience_form}
use Rattle.command_words.specs.Laws.Words.{resume_form}
use Rattle.command_words.specs.Laws.Words.{serve_form, show_form, solve_form, trial_form}
use Rattle.command_words.specs.Laws.Words.{audit_asked, cnf_in, plan_asked, resilience_in}
use Rattle.command_words.specs.Laws.Words.{resume_in}
use Rattle.command_words.specs.Laws.Words.{serve_in, show_in, solve_in, trial_in}

-- the argument for a word or an option
abbrev pub rule_for : Word → Rule
rule_for Policy = policy_word
rule_for Flow = wanted (codes "FLOW")
rule_for Requests = wanted (codes "REQUESTS")
rule_for Transcript = wanted (codes "TRANSCRIPT")
rule_for Model = model_word
rule_for Absences = absences_word
rule_for Seed = wanted_number (codes "SEED")
rule_for Lanes = lanes_option
rule_for Rounds = rounds_option

-- the form
abbrev pub form_for : Form → App
form_for Plan = plan_form
form_for Show = show_form
form_for Solve = solve_form
form_for Resilience = resilience_form
form_for Cnf = cnf_form
form_for (Session Serve) = serve_form
form_for (Session Audit) = audit_form
form_for (Session Resume) = resume_form
form_for Trial = trial_form

-- the command, by what is found in the form
abbrev pub command_in : Form → List Row → Option Command
command_in Plan = plan_asked
command_in Show = show_in
command_in Solve = solve_in
command_in Resilience = resilience_in
command_in Cnf = cnf_in
command_in (Session Serve) = serve_in
command_in (Session Audit) = audit_asked
command_in (Session Resume) = resume_in
command_in Trial = trial_in
