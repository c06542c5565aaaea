use Rattle.std.proofs.Common.{◌^◌, arith}
use Rattle.scanfill.proofs.Clipped.{clipped-from, clipped-to, held}
use Rattle.scanfill.proofs.Words.{word}
use Rattle.labelink.proofs.Runs.{cut-column}
use Rattle.labelink.proofs.run_outline.cut.Goals as goal

pub returns-clause-all : goal.returns-clause-all
returns-clause-all c = λ i h.
    let from = word (2 ^ 50) c.args.from (omega arith) c.requires.from in
    let past = word (2 ^ 50) c.args.past (omega arith) c.requires.past in
    cut-column c.clipped.result c.args.from c.args.past c.args.end i
    (clipped-from c.clipped.result (held c.args.from) (held c.args.past) c.args.from c.args.end c.clipped.ensures from)
    (clipped-to c.clipped.result (held c.args.from) (held c.args.past) c.args.past c.args.end c.clipped.ensures past) h
