use Rattle.scripts.proofs.WrittenScripts.{written-read}
use Rattle.scripts.proofs.laws.written_script_is_read.Goals as goal

pub returns : goal.returns
returns c = written-read 1
