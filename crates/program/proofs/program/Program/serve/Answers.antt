use Rattle.std.proofs.Common.{ap, inl, inr}
use Rattle.std.proofs.KnownBytes.{Keeps-refl}
use Rattle.program.proofs.Journals.{nothing-served}
use Rattle.program.proofs.program.Program.serve.Goals as goal

pub returns-in-Ok-clause-serves : goal.returns-in-Ok-clause-serves
returns-in-Ok-clause-serves g c = (
  c.of-folder.result.parent.now,
  c.of-folder.ensures.parent,
  _,
  inr (record {
    map = c.in-Ok.read.map;
    mapfile = c.in-Ok.read.source.items;
    files = c.in-Ok.read.files;
    read = rw (c.of-folder.ensures.host, c.named_file.ensures.host, c.named_file.ensures.path, c.named_file.ensures.left) at c.in-Ok.ensures.mapfile;
    errors = _;
    warnings = rw c.named_file.ensures.name at c.in-Ok.ensures.warnings;
    serves_map = c.serve_read.ensures.serves;
  }),
)

pub returns-clause-serves : goal.returns-clause-serves
returns-clause-serves g c = (
  c.of-folder.result.parent.now,
  c.of-folder.ensures.parent,
  _,
  inl (record {
    failure = c.in-Err.failure;
    ends = ap (λ e. e.outcome) c.after.ensures;
    output = Keeps-refl _;
    without = rw (c.of-folder.ensures.host, c.named_file.ensures.host, c.named_file.ensures.path, c.named_file.ensures.left, c.named_file.ensures.name) at c.in-Err.ensures.without;
    nothing = nothing-served _ _ c.after.ensures;
  }),
)
