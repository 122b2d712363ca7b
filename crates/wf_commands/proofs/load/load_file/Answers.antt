use Rattle.wf_commands.proofs.Loading.{failed_given, lacking_given, other_named, too_long_given, too_long_named}
use Rattle.wf_commands.proofs.load.load_file.Goals as goal

pub returns-in-Err-TooLong-clause-bytes : goal.returns-in-Err-TooLong-clause-bytes
returns-in-Err-TooLong-clause-bytes g c =
    too_long_given c.args.limit (g.F.Shelf.file c.args.shelf.now c.args.name.now) c.in-Err-TooLong.field-0 c.in-Err-TooLong.field-0-is
    c.in-Err-TooLong.ensures.loaded

pub returns-in-Err-TooLong-clause-named : goal.returns-in-Err-TooLong-clause-named
returns-in-Err-TooLong-clause-named g c = too_long_named c.args.limit (g.F.Shelf.file c.args.shelf.now c.args.name.now)

pub returns-in-Err-Failed-clause-bytes : goal.returns-in-Err-Failed-clause-bytes
returns-in-Err-Failed-clause-bytes g c =
    failed_given c.args.limit (g.F.Shelf.file c.args.shelf.now c.args.name.now) c.in-Err-Failed.field-0 c.in-Err-Failed.field-0-is
    c.in-Err-Failed.ensures.loaded

pub returns-in-Err-Failed-clause-named : goal.returns-in-Err-Failed-clause-named
returns-in-Err-Failed-clause-named g c =
    other_named c.args.limit (g.F.Shelf.file c.args.shelf.now c.args.name.now) c.in-Err-Failed.field-0 _ (λ e. let is = c.in-Err-Failed.field-0-is in cc)
    c.in-Err-Failed.ensures.loaded

pub returns-in-Err-NoMemory-clause-bytes : goal.returns-in-Err-NoMemory-clause-bytes
returns-in-Err-NoMemory-clause-bytes g c =
    lacking_given c.args.limit (g.F.Shelf.file c.args.shelf.now c.args.name.now) c.in-Err-NoMemory.field-0 c.in-Err-NoMemory.field-0-is
    c.in-Err-NoMemory.ensures.loaded

pub returns-in-Err-NoMemory-clause-named : goal.returns-in-Err-NoMemory-clause-named
returns-in-Err-NoMemory-clause-named g c =
    other_named c.args.limit (g.F.Shelf.file c.args.shelf.now c.args.name.now) c.in-Err-NoMemory.field-0 _
    (λ e. let is = c.in-Err-NoMemory.field-0-is in cc) c.in-Err-NoMemory.ensures.loaded
