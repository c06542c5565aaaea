-- All features of a layer, which are its candidates in every window.
use Rattle.std.proofs.Common.{◌≡◌, ℕ, ◌+◌, ◌<◌, List, IfSome, length, slice_get, get_or, map, ◌++◌, ◌∷◌, [], arith}
use Rattle.std.proofs.lemmas.List.Elements.{All-from_get_or}
use Rattle.std.proofs.lemmas.List.FromFn.{get_or-map-range_with_len, length-map-range_with_len, map-range_with_len_more}
use Rattle.std.proofs.lemmas.Option.{IfSome_then, slice_get_within, slice_get-get_or}
use Rattle.std.specs.List.{range_with_len}
use Rattle.geom.specs.World.{Area}
use Rattle.mapdefs.specs.declared.feature.FeatureFields.{FeatureFields}
use Rattle.mapdefs.specs.declared.layer.LayerFields.{LayerFields}
use Rattle.mapdefs.specs.declared.map.MapFields.{MapFields}
use Rattle.mapdefs.specs.Near.{AreAll, AreAllOf, AreCandidates, AreCandidatesOf}

-- the numbers below a count
abbrev pub all_below : ℕ → List ℕ
all_below n = map (λ (k : ℕ). k) (range_with_len 0 n)

pub below-length : (n : ℕ) → length (all_below n) ≡ n
below-length n = length-map-range_with_len (λ (k : ℕ). k) 0 n

pub below-at : (n k d : ℕ) → k < n → get_or (all_below n) k d ≡ k
below-at n k d h = get_or-map-range_with_len (λ (j : ℕ). j) 0 n k k d h (omega arith)

-- the numbers below the count of the features are the indices of all of them
pub all-features : (features : List FeatureFields) (n : ℕ) → n ≡ length features → AreAll features (all_below n)
all-features features n e = record {
  rising = λ k h. omega (arith, below-at n k 0 (omega (arith, below-length n)), below-at n (k + 1) 0 (omega (arith, below-length n)));
  indices = All-from_get_or (λ (k : ℕ). k < length features) (all_below n) 0 (λ i h. omega (arith, e, below-at n i 0 (omega (arith, below-length n)), below-length n));
  each = λ k h.
      let below : k < n = omega (arith, e, h) in
      (k, omega (arith, below-length n), below-at n k k below);
}

-- all features are candidates in every window
pub all-candidates : (features : List FeatureFields) (window : Area) (found : List ℕ) → AreAll features found → AreCandidates features window found
all-candidates features window found all = record {
  rising = all.rising;
  indices = all.indices;
  each = λ k feature is near. all.each k (slice_get_within features k feature is);
}

-- one more
pub below-more : (n : ℕ) → all_below (n + 1) ≡ all_below n ++ n ∷ []
below-more n = map-range_with_len_more (λ (k : ℕ). k) 0 n n (omega arith)

-- what is said of the features of the layer of an index is said of the index
pub at-layer : (P : List FeatureFields → Type 0) (m : MapFields) (index : ℕ) (layer : LayerFields) → index < length m.layers →
    layer ≡ get_or m.layers index layer → P layer.features → IfSome (slice_get m.layers index) (λ l. P l.features)
at-layer P m index layer h e holds = rw (slice_get-get_or m.layers index layer h, ← e) holds

-- so all features of the layer of an index are candidates there in every window
pub all-candidates-at : (m : MapFields) (index : ℕ) (window : Area) (found : List ℕ) → AreAllOf m index found → AreCandidatesOf m index window found
all-candidates-at m index window found all = IfSome_then (slice_get m.layers index) all (λ layer are. all-candidates layer.features window found are)
