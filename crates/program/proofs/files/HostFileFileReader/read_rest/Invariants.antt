use Rattle.std.proofs.Common.{◌≡◌, ◌-◌, ◌^◌}
use Rattle.std.specs.Prelude.{vec_len}
use Rattle.std.specs.Io.KnownBytes.{Consumes}
use Rattle.program.specs.Hosts.{left_of}
use Rattle.program.proofs.files.HostFileFileReader.read_rest.Given as goal

-- the bytes read so far were consumed of the file, which is the same
abbrev pub invariant-loop-count : goal.invariant-loop-count
invariant-loop-count g l = record {
  host : l.self.host ≡ l.fn.self.host;
  path : l.self.path ≡ l.fn.self.path;
  flag : l.self.has_failed ≡ l.fn.self.has_failed;
  bytes : Consumes (left_of (g.H.Files.file l.fn.self.host.now l.fn.self.path.now) g.H.File.Read.remaining l.fn.self.file)
      (left_of (g.H.Files.file l.self.host.now l.self.path.now) g.H.File.Read.remaining l.self.file) l.bytes.items;
}

-- each round takes a byte at least, and a list is shorter than 2 ^ 64
abbrev pub decreases-loop-count : goal.decreases-loop-count
decreases-loop-count g l = 2 ^ 64 - vec_len l.bytes
