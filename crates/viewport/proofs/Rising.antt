-- Heights rise as latitudes do.
use Rattle.std.proofs.Common.{arith}
use Rattle.std.proofs.lemmas.Int.{ints}
use lib.IntN.{ℤ, pos, negsuc, neg_ℤ, ◌+ℤ◌, ◌-ℤ◌, ◌*ℤ◌}
use lib.Signed.{◌<ℤ◌, ◌≤ℤ◌}
use Rattle.mercator.proofs.BoundLaws.{bounds-law, ordered-law as mercator-ordered}
use Rattle.mercator.proofs.OrdinateLaws.{rise-law, slow-law}
use Rattle.viewport.specs.View.{BoundsAreOrdered, HeightsAreBounded, HeightsRise, HeightsRiseSlowly, height_of, north_of, south_of, steepest}
use Rattle.viewport.specs.declared.heights.Heights.{Heights}
use Rattle.viewport.specs.declared.heights.Heights.TheVariants as heights

pub rising-law : HeightsRise
unfolding height_of
rising-law heights.Latitudes a b le = le
rising-law heights.Mercator a b le = rise-law a b le

pub slowly-law : HeightsRiseSlowly
unfolding height_of
slowly-law heights.Latitudes a b le = omega (arith, ints, le)
slowly-law heights.Mercator a b le = slow-law a b le

pub bounded-law : HeightsAreBounded
unfolding height_of south_of north_of
bounded-law heights.Latitudes low high latitude least most = (least, most)
bounded-law heights.Mercator low high latitude least most =
    let between = bounds-law low high latitude least most in
    (between.south, between.north)

pub ordered-law : BoundsAreOrdered
unfolding south_of north_of
ordered-law heights.Latitudes low high le = le
ordered-law heights.Mercator low high le = mercator-ordered low high le

-- one side alone
pub north-of-south : (h : Heights) (low latitude : ℤ) → low ≤ℤ height_of h latitude → south_of h low ≤ℤ latitude
north-of-south h low latitude least = (bounded-law h low (height_of h latitude) latitude least (omega (arith, ints))).0

pub south-of-north : (h : Heights) (high latitude : ℤ) → height_of h latitude ≤ℤ high → latitude ≤ℤ north_of h high
south-of-north h high latitude most = (bounded-law h (height_of h latitude) high latitude (omega (arith, ints)) most).1
