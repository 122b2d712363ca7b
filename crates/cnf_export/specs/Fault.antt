-- What is against clauses.
use Rattle.basics.specs.declared.fault.Fault.{Fault}
use Rattle.basics.specs.declared.fault.Fault.TheVariants.{Cause}
use Rattle.cnf_export.specs.declared.fault.TooLarge.{TooLarge}

-- that they have too many literals
abbrev pub too_large : Fault TooLarge
too_large = Cause record {}
