-- What is against a text.
use Rattle.basics.specs.declared.fault.Fault.{Fault}
use Rattle.basics.specs.declared.fault.Fault.TheVariants.{Cause}
use Rattle.entry_reader.specs.declared.fault.NotText.{NotText}

-- that it is not what was to be read
abbrev pub not_text : Fault NotText
not_text = Cause record {}
