use Rattle.subcommands.specs.Folder.{given, missing}
use Rattle.subcommands.proofs.folder.add_file.Goals as goal

pub returns-in_ok-add-in-Some : goal.returns-in_ok-add-in-Some
returns-in_ok-add-in-Some g c = λ names are.
    rw c.in_ok-add-in-Some.ensures.ok (given names c.args.files.now c.args.name c.in-Some.bytes are (rw (c.as_str.ensures, c.in-Some.is) at c.in_ok-bytes.ensures))

pub returns-in-None : goal.returns-in-None
returns-in-None g c = λ names are.
    missing names c.args.files.now c.args.name are (rw (c.as_str.ensures, c.in-None.is) at c.in_ok-bytes.ensures)
