-- A command of the code, as the definitions see it.
use Rattle.std.specs.Prelude.{option_map}
use Rattle.command_words.specs.declared.command.Command.{Command as Given}
use Rattle.command_words.specs.declared.command.Command.TheVariants.{Plan, Show, Solve, Resilience}
use Rattle.command_words.specs.declared.command.Command.TheVariants.{Cnf, Serve, Audit, Resume}
use Rattle.command_words.specs.declared.command.Command.TheVariants.{Trial}
use Rattle.command_words.specs.declared.command.Options.{Options as GivenOptions}
use Rattle.command_words.specs.Laws.Words.{AreOptions, Command, Options, plan, show, solve}
use Rattle.command_words.specs.Laws.Words.{resilience}
use Rattle.command_words.specs.Laws.Words.{cnf, serve, audit, resume, trial}

-- the options
abbrev pub options_in : GivenOptions → Options
options_in given = record { lanes = given.lanes; rounds = given.rounds }

-- the command with its words
abbrev pub asked : Given → Command
asked (Plan policy flow) = plan policy.now flow.now
asked (Show policy) = show policy.now
asked (Solve policy) = solve policy.now
asked (Resilience policy flow absences) = resilience policy.now flow.now absences
asked (Cnf policy flow model) = cnf policy.now flow.now (option_map (λ s. s.now) model)
asked (Serve policy options) = serve policy.now (options_in options)
asked (Audit policy requests options) = audit policy.now requests.now (options_in options)
asked (Resume policy requests transcript options) =
    resume policy.now requests.now transcript.now (options_in options)
asked (Trial seed) = trial seed

-- a command whose options are within their limits
abbrev pub CanServe : Given → Type 0
CanServe (Serve policy options) = AreOptions (options_in options)
CanServe (Audit policy requests options) = AreOptions (options_in options)
CanServe (Resume policy requests transcript options) = AreOptions (options_in options)
CanServe command = Unit {0}
