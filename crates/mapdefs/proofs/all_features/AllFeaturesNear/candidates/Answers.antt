use Rattle.std.proofs.Common.{◌≡◌, ◌∙◌, ◌++◌, ◌∷◌, [], List, ℕ, length, ap, sym, arith}
use Rattle.mapdefs.specs.Near.{AreAll}
use Rattle.mapdefs.specs.declared.feature.FeatureFields.{FeatureFields}
use Rattle.mapdefs.specs.declared.layer.LayerFields.{LayerFields}
use Rattle.mapdefs.specs.declared.map.MapFields.{MapFields}
use Rattle.mapdefs.proofs.Counting.{all-candidates-at, all-features, at-layer, below-more}
use Rattle.mapdefs.proofs.all_features.AllFeaturesNear.candidates.Goals as goal

pub push_reserved-requires : goal.push_reserved-requires
push_reserved-requires c = omega (arith, c.loop-index.invariant.len, c.loop-index.invariant.room, c.loop-index-test.true)

pub loop-index-preserved : goal.loop-index-preserved
loop-index-preserved c = record {
  items = c.push_reserved.ensures.items ∙ (ap (λ (xs : List ℕ). xs ++ c.loop-index.index ∷ []) c.loop-index.invariant.items ∙ sym (below-more c.loop-index.index));
  len = omega (arith, c.push_reserved.ensures.len, c.loop-index.invariant.len);
  room = omega (arith, c.push_reserved.ensures.capacity, c.loop-index.invariant.room);
}

pub returns-clause-all : goal.returns-clause-all
returns-clause-all c =
    let m : MapFields = c.args.self.now.map.now in
    let layers : c.as_slice.result.now ≡ m.layers = c.as_slice.ensures ∙ ap (λ (m : MapFields). m.layers) c.get.ensures.value in
    let count : c.loop-index.index ≡ length c.index-as_slice-layer.result.features =
    omega (arith, c.loop-index-test.false, c.loop-index.auto.index-end, c.len-count.ensures, ap (λ (l : LayerFields). length l.features) c.get-2.ensures.value) in
    at-layer (λ (features : List FeatureFields). AreAll features c.loop-index.found.items) m c.args.layer c.index-as_slice-layer.result c.requires.layer (rw layers at c.index-as_slice-layer.is)
    (rw c.loop-index.invariant.items (all-features c.index-as_slice-layer.result.features c.loop-index.index count))

pub returns-clause-near : goal.returns-clause-near
returns-clause-near c = all-candidates-at c.args.self.now.map.now c.args.layer c.args._window c.loop-index.found.items (returns-clause-all c)
