use Rattle.command_words.proofs.Usage.{audit_read, resume_read, serve_read}
use Rattle.command_words.proofs.laws.usage_with_options_is_read.Goals as goal

pub returns : goal.returns
returns c = record { serve = serve_read; audit = audit_read; resume = resume_read }
