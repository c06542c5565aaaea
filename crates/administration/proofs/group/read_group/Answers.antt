use Rattle.std.proofs.Common.{◌≤◌, ◌+◌, ℕ, [], length, arith, refl, ap}
use Rattle.std.proofs.lemmas.List.{length-map}
use Rattle.std.proofs.KnownBytes.{Consumes-nil}
use Rattle.journal.specs.Texts.{texts_of}
use Rattle.administration.proofs.Together.{HaveCome, known-missing, one-more-came}
use Rattle.administration.proofs.group.read_group.Given.{Over}
use Rattle.administration.proofs.group.read_group.Goals as goal
use Rattle.administration.proofs.group.read_group.Goals.{else-loop-test, then-loop-test+in-Some+in_default-add_batch+then-not-starts_with_batch}

pub loop-init : goal.loop-init
loop-init g c = rw c.new-batches.ensures.items (record { bytes = []; came = Consumes-nil _; commands = λ more. refl; counted = refl })

pub returns-in_default-clause-read : goal.returns-in_default-clause-read
returns-in_default-clause-read g c =
    let before = c.loop.invariant in
    record {
      bytes = before.bytes;
      between = g.I.Source.left c.loop.reader;
      came = before.came;
      commands = before.commands;
      next = known-missing c.read_command.result _ _ c.in_default.not-Some c.read_command.ensures;
    }

pub returns-in_default-clause-few : goal.returns-in_default-clause-few
returns-in_default-clause-few g c = omega (arith, c.loop.invariant.counted, length-map c.loop.batches.items (λ text. text.items), c.loop-test.true)

pub returns-in-Err-clause-read : goal.returns-in-Err-clause-read
returns-in-Err-clause-read g c =
    let before = c.loop.invariant in
    let (piece, command, came, is, held) = c.in-Some.ensures in
    rw c.in-Err.ensures.same (record {
      bytes = before.bytes;
      between = g.I.Source.left c.loop.reader;
      came = before.came;
      commands = before.commands;
      next = (piece, command, came, is, c.in-Err.ensures.other command held);
    })

pub returns-in-Err-clause-few : goal.returns-in-Err-clause-few
returns-in-Err-clause-few g c = omega (arith, ap length c.in-Err.ensures.same, c.loop.invariant.counted, length-map c.loop.batches.items (λ text. text.items), c.loop-test.true)

pub loop-preserved : goal.loop-preserved
loop-preserved g c = one-more-came _ _ _ _ _ _ c.in-Some.asked c.add_batch.result c.loop.invariant c.in-Some.ensures c.in_default-add_batch.not-Err c.add_batch.ensures.added

-- the batches that were read when the loop was left
left-with : (g : Over) (c : goal.Left-loop g)
    → (count : ℕ) × (count ≤ 64) × HaveCome (g.I.Source.left c.args.reader.now) (g.I.Source.left c.loop-test.reader) (texts_of c.loop-test.batches.items) count
left-with g c = elim c.loop-test.branch [
  | else-loop-test w ↦ rw (w.reader-is, w.batches-is) (c.loop.counter, omega (arith, c.loop.auto.counter-end), c.loop.invariant)
  | then-loop-test+in-Some+in_default-add_batch+then-not-starts_with_batch w ↦ rw (w.reader-is, w.batches-is) (
    c.loop.counter + 1,
    omega (arith, w.loop-test.true),
    one-more-came _ _ _ _ _ _ w.in-Some.asked w.add_batch.result c.loop.invariant w.in-Some.ensures w.in_default-add_batch.not-Err w.add_batch.ensures.added,
  )
]

pub returns-clause-read : goal.returns-clause-read
returns-clause-read g c =
    let (count, few, come) = left-with g c in
    record {
      bytes = come.bytes;
      between = g.I.Source.left c.loop-test.reader;
      came = come.came;
      commands = come.commands;
      next = refl;
    }

pub returns-clause-few : goal.returns-clause-few
returns-clause-few g c =
    let (count, few, come) = left-with g c in
    omega (arith, few, come.counted, length-map c.loop-test.batches.items (λ text. text.items))
