use Rattle.std.proofs.Common.{◌≡◌, ◌∙◌, ◌+◌, ◌^◌, ◌&&◌, ℕ, cond, ap, refl, rules, arith}
use Rattle.std.specs.List.{count_by}
use Rattle.std.specs.Prelude.{int_le}
use lib.IntN.{pos}
use Rattle.clip.specs.EdgeClass.{has_row}
use Rattle.scanfill.specs.Flips.{FlipsValue, flips_by}
use Rattle.scanfill.proofs.FlipCounts.{flips-more, rows-none}
use Rattle.scanfill.proofs.Words.{word}
use Rattle.scanfill.proofs.flips.Flips.add_column.Goals as goal

pub loop-row-init : goal.loop-row-init
loop-row-init c = record {
  sides = refl;
  counts = λ i j h. rows-none c.args.rows.from j (count_by (flips_by i j) c.args.self.now.flips) _;
}

pub loop-row-preserved : goal.loop-row-preserved
loop-row-preserved c =
    let l = c.loop-row in
    let wide : l.self.width ≡ c.args.self.now.width = ap (λ (t : FlipsValue). t.width) l.invariant.sides in
    record {
      sides = search (rules, c.in_ok-add_flip.ensures.sides, l.invariant.sides);
      counts = λ i j h.
          flips-more c.args.rows.from l.row j (count_by (flips_by i j) c.args.self.now.flips) (count_by (flips_by i j) l.self.flips) (count_by (flips_by i j) c.add_flip.new.self.flips)
          _ _ l.auto.row (λ same. refl) (l.invariant.counts i j h)
          (c.in_ok-add_flip.ensures.counts i j (omega (arith, wide)));
    }

pub returns-clause-counts : goal.returns-clause-counts
returns-clause-counts c = λ i j h.
    let l = c.loop-row in
    let end : l.row ≡ c.args.rows.to = omega (arith, l.auto.row-end, c.loop-row-test.false, c.requires.some) in
    let column = word (2 ^ 44) c.args.column (omega arith) c.requires.column in
    (rw column at (l.invariant.counts i j h))
    ∙ ap (λ n. count_by (flips_by i j) c.args.self.now.flips + cond {A = ℕ} (has_row (record { from = c.args.rows.from; to = n }) j && int_le c.args.column (pos i)) 1 0) end
