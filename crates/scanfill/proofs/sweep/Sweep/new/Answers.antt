use Rattle.std.proofs.Common.{◌≡◌, ◌∙◌, ◌+◌, ℕ, Bool, cond, take, ap, sym, arith}
use Rattle.std.proofs.lemmas.List.{take_all}
use Rattle.std.proofs.lemmas.List.Sorted.{sum_by-IsPermutation}
use Rattle.std.specs.List.{count_by}
use lib.IntN.{pos}
use Rattle.geom.specs.Device.{pixel_centre}
use Rattle.geom.specs.Edge.{EdgeEnds, crosses_at_or_left}
use Rattle.clip.specs.EdgeClass.{class_of}
use Rattle.scanfill.specs.Crossing.{reaches}
use Rattle.scanfill.specs.Sweep.{is_walk, walk_count}
use Rattle.scanfill.specs.declared.crossing.Crossing.{Crossing}
use Rattle.scanfill.proofs.Sweeping.{count-more, work-more}
use Rattle.scanfill.proofs.sweep.Sweep.new.Goals as goal

pub loop-edge-preserved : goal.loop-edge-preserved
loop-edge-preserved c =
    let l = c.loop-edge in
    let xs = c.args.edges.now.items in
    let k = c.loop-edge.edge-index in
    let e = c.edge-item.result in
    let bound = rw c.deref-edge-items.ensures.value at c.loop-edge-test.true in
    let is = rw c.deref-edge-items.ensures.value at c.edge-item.is in
    let walked : EdgeEnds → Bool = λ (x : EdgeEnds). is_walk (class_of x c.args.width c.args.height) in
    record {
      some = c.in_ok-push_crossing.ensures.some;
      counts = λ i j column row.
          let p = crosses_at_or_left (pixel_centre (pos i) (pos j)) in
          c.in_ok-push_crossing.ensures.counts i j column row
          ∙ (ap (λ n. n + cond {A = ℕ} (p e) 1 0) (l.invariant.counts i j column row) ∙ sym (count-more p xs k e bound is));
      work = work-more
          (walked e) c.args.before.divisions (walk_count (take k xs) c.args.width c.args.height) (walk_count (take (k + 1) xs) c.args.width c.args.height)
          l.work c.push_crossing.new.work (count-more walked xs k e bound is) l.invariant.work c.in_ok-push_crossing.ensures.work;
    }

pub invariant_of-sweep : goal.invariant_of-sweep
invariant_of-sweep c =
    let xs = c.args.edges.now.items in
    let past = rw c.deref-edge-items.ensures.value at c.loop-edge-test.false in
    let all : take c.loop-edge.edge-index xs ≡ xs = take_all c.loop-edge.edge-index xs past in
    record {
      most = omega (arith, c.new.ensures.row);
      quiet = c.in_ok-new.ensures;
      counts = λ i j column from below.
          let p = crosses_at_or_left (pixel_centre (pos i) (pos j)) in
          ap (count_by p) (c.as_slice.ensures.value ∙ sym all)
          ∙ (sym (c.loop-edge.invariant.counts i j column (omega (arith, below, c.pixels-rows.ensures.value)))
          ∙ sym (sum_by-IsPermutation (λ (x : Crossing). cond {A = ℕ} (reaches i j x) 1 0) c.loop-edge.crossings.items c.new.result.list.items c.new.ensures.same));
    }
