-- The map machine: its answer to a query, its state after a batch, and its runs (docs/SERVICE.md, "The machine").
use Rattle.std.specs.Prelude.{◌≡◌, ℕ, ◌+◌, ◌-ℤ◌, unsigned_abs, List, [], ◌∷◌, Option, None, Some, unwrap_or, Result, Ok, Err}
use Rattle.std.specs.List.{AllZip}
use Rattle.geom.specs.World.{Area}
use Rattle.scaledenom.specs.Scale.{PictureScale, scale_of_degrees, scale_of_metres}
use Rattle.mapdefs.specs.declared.map.MapFields.{MapFields}
use Rattle.mapdefs.specs.declared.smooth_picture.SmoothFields.{SmoothFields}
use Rattle.operations.specs.declared.mime.Mime.TheVariants as mime
use Rattle.scene.specs.Scene.{SceneValue}
use Rattle.viewport.specs.View.{ViewValue, fine_by, plain_view}
use Rattle.viewport.specs.declared.heights.Heights.{Heights}
use Rattle.viewport.specs.declared.heights.Heights.TheVariants as heights
use Rattle.crsaxes.specs.declared.crs.Crs.{Crs}
use Rattle.crsaxes.specs.declared.crs.Crs.TheVariants as crs
use Rattle.wmsquery.specs.Meaning.{IsMeaning}
use Rattle.wmsquery.specs.Report.{report}
use Rattle.wmsquery.specs.declared.fault.WmsFault.{WmsFault}
use Rattle.wmsquery.specs.declared.request.Format.{Format}
use Rattle.wmsquery.specs.declared.request.Format.TheVariants as format
use Rattle.wmsquery.specs.declared.request.InformationRequest.{InformationRequest}
use Rattle.wmsquery.specs.declared.request.MapRequest.{MapRequest}
use Rattle.wmsquery.specs.declared.request.Request.{Request}
use Rattle.wmsquery.specs.declared.request.Request.TheVariants as request
use Rattle.batches.specs.Batch.{State, batched}
use Rattle.capabilities.specs.Document.{document}
use Rattle.png.specs.Decode.{decoded}
use Rattle.symbols.specs.Netpbm.{smooth_pam, smooth_ppm}
use Rattle.supersampling.specs.Smooth.{IsSmoothPictureOf}
use Rattle.featureinfo.specs.Answer as featureinfo
use Rattle.featureinfo.specs.Hits.{AreHitsOf}
use Rattle.featureinfo.specs.declared.layer_hits.LayerHits.{LayerHits}
use Rattle.answers.specs.declared.answer.Answer.{Answer}
use Rattle.mapmachine.specs.declared.reply.Event.{Event}
use Rattle.mapmachine.specs.declared.reply.Event.TheVariants.{Query, Batch}
use Rattle.mapmachine.specs.declared.reply.Reply.{Reply}
use Rattle.mapmachine.specs.declared.reply.Reply.TheVariants.{Answered, Published, Refused, NoMemory}

-- what a picture in a system measures from south to north
abbrev pub heights_of : Crs → Heights
heights_of crs.Crs84 = heights.Latitudes
heights_of crs.Epsg4326 = heights.Latitudes
heights_of crs.Epsg3857 = heights.Mercator

-- the view of a request: its area, by a picture of its sides
abbrev pub view_of : MapRequest → ViewValue
view_of request = plain_view (heights_of request.crs) request.area request.width request.height

-- the scale of so many pixels that show an area from west to east: by its metres where its system is in metres, else by its degrees
abbrev pub scale_by : Option ℕ → Area → ℕ → PictureScale
scale_by (Some metres) area width = scale_of_metres metres width
scale_by None area width = scale_of_degrees (unsigned_abs (area.maxx -ℤ area.minx)) width

-- the scale of a request: that of its width
abbrev pub scale_of : MapRequest → PictureScale
scale_of request = scale_by request.metres request.area request.width

-- the view by the picture of which the requested one is the mean: as many times as fine as the map says, where an area that large has
-- such a picture, else the requested one itself
abbrev pub fine_of : MapFields → MapRequest → ViewValue
fine_of map request = unwrap_or (fine_by (view_of request) map.smoothing) (view_of request)

-- an answer is a picture in a format: as a pixmap these bytes, as PNG any that are read as the picture
abbrev pub IsWrittenPicture : Format → SmoothFields → Answer → Type 0
IsWrittenPicture format.Png picture answer = (answer.mime ≡ mime.Png) × (decoded answer.body ≡ Some picture)
IsWrittenPicture format.Pixmap picture answer = answer ≡ record { mime = mime.Pixmap; body = smooth_ppm picture }
IsWrittenPicture format.ArbitraryMap picture answer = answer ≡ record { mime = mime.ArbitraryMap; body = smooth_pam picture }

-- the answer to a request for a picture: the requested picture of the map at the scale of the request, in its format
abbrev pub IsMapAnswer : MapFields → MapRequest → Answer → Type 0
IsMapAnswer map request answer =
    (picture : SmoothFields)
    × IsSmoothPictureOf map (fine_of map request) (scale_of request) request.chosen request.background picture
    × IsWrittenPicture request.format picture answer

-- the scene of a request for a picture: its map, its view and its scale
abbrev pub scene_of : MapFields → MapRequest → SceneValue
scene_of map request = record { map = map; view = view_of request; scale = scale_of request }

-- the hits are those of the layer at an index, near the pixel of the request, and at most as many as it requests
abbrev pub AreAskedHits : MapFields → InformationRequest → ℕ → LayerHits → Type 0
AreAskedHits map request index hits =
    (hits.layer ≡ index) × AreHitsOf (scene_of map request.map) index request.column request.row request.count hits.features

-- the answer to a request for feature information: the text of the hits of each requested layer, in the order of the request
abbrev pub IsInformationAnswer : MapFields → InformationRequest → Answer → Type 0
IsInformationAnswer map request answer =
    (found : List LayerHits)
    × AllZip (AreAskedHits map request) request.layers found
    × (answer ≡ record { mime = mime.Plain; body = featureinfo.answer map found })

-- the answer to what a query means: the capabilities document, a picture, feature information, or the document of a fault
abbrev pub Answers : State → Result Request WmsFault → Answer → Type 0
Answers state (Ok request.Capabilities) answer = answer ≡ record { mime = mime.Xml; body = document state.sequence state.map }
Answers state (Ok (request.Map picture)) answer = IsMapAnswer state.map picture answer
Answers state (Ok (request.Information information)) answer = IsInformationAnswer state.map information answer
Answers state (Err fault) answer = answer ≡ record { mime = mime.Xml; body = report fault }

-- the answer to a query in a state is that to what the query means of the map at its sequence
abbrev pub IsAnswer : State → List ℕ → Answer → Type 0
IsAnswer state query answer =
    (meaning : Result Request WmsFault) × IsMeaning state.map state.sequence query meaning × Answers state meaning answer

-- one event in a state has this reply and leads to that state: a query changes nothing, and a batch leads to the state after
-- it or is refused with its first fault; where memory is refused nothing is changed
abbrev pub Steps : State → Event → Reply → State → Type 0
Steps old (Query query) (Answered answer) new = IsAnswer old query answer × (new ≡ old)
Steps old (Batch bytes) (Published sequence) new = (batched bytes old ≡ Ok new) × (sequence ≡ new.sequence)
Steps old (Batch bytes) (Refused fault) new = (batched bytes old ≡ Err fault) × (new ≡ old)
Steps old event NoMemory new = new ≡ old
Steps old event reply new = ⊥

-- a run of the machine: from a state over some events, with a reply to each in order, to a state
abbrev pub Runs : State → List Event → List Reply → State → Type 0
Runs old [] [] new = new ≡ old
Runs old (event ∷ events) (reply ∷ replies) new = (next : State) × Steps old event reply next × Runs next events replies new
Runs old [] (reply ∷ replies) new = ⊥
Runs old (event ∷ events) [] new = ⊥

-- how many of some replies publish a batch
unfoldable pub published : List Reply → ℕ
published [] = 0
published (Published sequence ∷ replies) = 1 + published replies
published (reply ∷ replies) = published replies

-- the law: after a run the sequence has grown by the number of the batches that were published
abbrev pub PublishedCounts : Type 0
PublishedCounts = (old new : State) (events : List Event) (replies : List Reply) → Runs old events replies new →
    new.sequence ≡ old.sequence + published replies
