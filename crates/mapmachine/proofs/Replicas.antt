-- Machines that published equal lists of batches are in one state, and a state has one answer to a query.
use Rattle.std.proofs.Common.{◌≡◌, ◌∙◌, ◌≤◌, ◌&&◌, ℕ, arith, Bool, true, false, if◌then◌else◌, List, [], ◌∷◌, length, Option, None, Some, Result, Ok, Err, option_and_then, slice_get, refl, sym, ap, subst}
use Rattle.std.proofs.lemmas.Bool.{leb-true}
use Rattle.std.specs.List.{AllZip}
use Rattle.batches.specs.Batch.{State, accepted}
use Rattle.supersampling.specs.Smooth.{HasOneSmoothPicture}
use Rattle.featureinfo.specs.Hits.{AreHits, HasOneHitList}
use Rattle.featureinfo.specs.declared.layer_hits.LayerHits.{LayerHits}
use Rattle.mapdefs.specs.declared.layer.LayerFields.{LayerFields}
use Rattle.mapdefs.specs.declared.map.MapFields.{MapFields}
use Rattle.mapdefs.specs.declared.smooth_picture.SmoothFields.{SmoothFields}
use Rattle.operations.specs.declared.mime.Mime.TheVariants as mime
use Rattle.wmsquery.specs.Meaning.{IsMeaning, MeaningIsOne}
use Rattle.wmsquery.specs.Pairs.{given, names_of, pairs_of, texts_of}
use Rattle.wmsquery.specs.Query.{layer_names}
use Rattle.wmsquery.specs.Values.{asked, asked_of, defined, indices_of, is_among, is_queryable, listed}
use Rattle.mapdefs.specs.Outcome.{and_then}
use Rattle.wmsquery.specs.declared.fault.Code.{Code}
use Rattle.wmsquery.specs.declared.fault.Code.TheVariants as code
use Rattle.wmsquery.specs.declared.fault.Parameter.TheVariants as parameter
use Rattle.wmsquery.specs.declared.fault.WmsFault.{WmsFault}
use Rattle.wmsquery.specs.declared.request.Format.{Format}
use Rattle.wmsquery.specs.declared.request.Format.TheVariants as format
use Rattle.wmsquery.specs.declared.request.InformationRequest.{InformationRequest}
use Rattle.wmsquery.specs.declared.request.MapRequest.{MapRequest}
use Rattle.wmsquery.specs.declared.request.Request.{Request}
use Rattle.viewport.specs.View.{fine_view}
use Rattle.std.specs.Prelude.{int_le, nat_le, pos, unwrap_or, ◌-ℤ◌}
use Rattle.wmsquery.specs.declared.request.Request.TheVariants as request
use Rattle.featureinfo.specs.Answer as featureinfo
use Rattle.mapmachine.specs.Machine.{Answers, fine_of, AreAskedHits, IsAnswer, Runs, scene_of, view_of, scale_of, IsWrittenPicture}
use Rattle.mapmachine.specs.Replicas.{AreAlike, equal_answers, equal_pictures, ReplicasAnswerAlike, published_batches}
use Rattle.answers.specs.declared.answer.Answer.{Answer}
use Rattle.mapmachine.specs.declared.reply.Event.{Event}
use Rattle.mapmachine.specs.declared.reply.Event.TheVariants.{Query, Batch}
use Rattle.mapmachine.specs.declared.reply.Reply.{Reply}
use Rattle.mapmachine.specs.declared.reply.Reply.TheVariants.{Answered, Published, Refused, NoMemory}

-- the state after some batches, if each is accepted in the state after those before it
abbrev after : State → List (List ℕ) → Option State
after state [] = Some state
after state (bytes ∷ batches) = option_and_then (λ next. after next batches) (accepted state bytes)

-- a run leads to the state after the batches that it published
led : (old new : State) (events : List Event) (replies : List Reply) → Runs old events replies new → after old (published_batches events replies) ≡ Some new
unfolding published_batches
led old new [] [] run = rw run refl
led old new [] (reply ∷ replies) none = absurd none
led old new (event ∷ events) [] none = absurd none
led old new (Query query ∷ events) (Answered answer ∷ replies) (next, step, run) = rw step.1 at (led next new events replies run)
led old new (Query query ∷ events) (Published sequence ∷ replies) (next, step, run) = absurd step
led old new (Query query ∷ events) (Refused fault ∷ replies) (next, step, run) = absurd step
led old new (Query query ∷ events) (NoMemory ∷ replies) (next, step, run) = rw step at (led next new events replies run)
led old new (Batch bytes ∷ events) (Answered answer ∷ replies) (next, step, run) = absurd step
led old new (Batch bytes ∷ events) (Published sequence ∷ replies) (next, step, run) = rw step.0 (led next new events replies run)
led old new (Batch bytes ∷ events) (Refused fault ∷ replies) (next, step, run) = rw step.1 at (led next new events replies run)
led old new (Batch bytes ∷ events) (NoMemory ∷ replies) (next, step, run) = rw step at (led next new events replies run)

-- the map has a layer with this index
abbrev HasLayer : MapFields → ℕ → Type 0
HasLayer map index = (layer : LayerFields) × (slice_get map.layers index ≡ Some layer)

-- the index of a layer whose features may be requested
abbrev queryable : MapFields → ℕ → Result ℕ Code
queryable map index = if is_queryable map index then Ok index else Err code.LayerNotQueryable

-- such an index is that of a layer
queryable-layer : (map : MapFields) (found index : ℕ) (o : Option LayerFields) → slice_get map.layers found ≡ o → queryable map found ≡ Ok index → HasLayer map index
queryable-layer map found index None h e = let clash : ◌≡◌ {A = Result ℕ Code} (Err code.LayerNotQueryable) (Ok index) = rw h at e in absurd (cc)
queryable-layer map found index (Some layer) h e = flagged layer.queryable refl
  where
    flagged : (t : Bool) → layer.queryable ≡ t → HasLayer map index
    flagged false q = let clash : ◌≡◌ {A = Result ℕ Code} (Err code.LayerNotQueryable) (Ok index) = rw (h, q) at e in absurd (cc)
    flagged true q =
        let same : ◌≡◌ {A = Result ℕ Code} (Ok found) (Ok index) = rw (h, q) at e in
        let equal : found ≡ index = cc in
        (layer, rw equal at h)

-- so is that of a layer that is requested by its name
asked-layer : (map : MapFields) (names : List (List ℕ)) (name : List ℕ) (index : ℕ) → asked map names name ≡ Ok index → HasLayer map index
asked-layer map names name index is = defined-layer (defined map name) refl
  where
    among-layer : (found : ℕ) (t : Bool) → is_among name names ≡ t →
        (if is_among name names then queryable map found else Err code.LayerNotDefined) ≡ Ok index → HasLayer map index
    among-layer found false h e = let clash : ◌≡◌ {A = Result ℕ Code} (Err code.LayerNotDefined) (Ok index) = rw h at e in absurd (cc)
    among-layer found true h e = queryable-layer map found index (slice_get map.layers found) refl (rw h at e)

    defined-layer : (d : Result ℕ Code) → defined map name ≡ d → HasLayer map index
    defined-layer (Err c) h = let clash : ◌≡◌ {A = Result ℕ Code} (Err c) (Ok index) = rw h at is in absurd (cc)
    defined-layer (Ok found) h = among-layer found (is_among name names) refl (rw h at is)

-- the map has a layer with each index
abbrev HasLayers : MapFields → List ℕ → Type 0
HasLayers map [] = Unit {0}
HasLayers map (index ∷ indices) = HasLayer map index × HasLayers map indices

-- so are those of several names
listed-layers : (map : MapFields) (names queried : List (List ℕ)) (found : List ℕ) → indices_of (asked map names) queried ≡ Ok found → HasLayers map found
listed-layers map names [] found is = let same : [] ≡ found = cc in rw (← same) tt
listed-layers map names (name ∷ queried) found is = first (listed-layers map names queried) (asked map names name) refl
  where
    others : ((indices : List ℕ) → indices_of (asked map names) queried ≡ Ok indices → HasLayers map indices) → (index : ℕ) → asked map names name ≡ Ok index →
        (r : Result (List ℕ) Code) → indices_of (asked map names) queried ≡ r → and_then r (λ indices. Ok (index ∷ indices)) ≡ Ok found → HasLayers map found
    others rest index h (Err c) g e = absurd (cc)
    others rest index h (Ok indices) g e =
        let same : index ∷ indices ≡ found = cc in
        rw (← same) (asked-layer map names name index h, rest indices g)

    first : ((indices : List ℕ) → indices_of (asked map names) queried ≡ Ok indices → HasLayers map indices) →
        (r : Result ℕ Code) → asked map names name ≡ r → HasLayers map found
    first rest (Err c) h = let clash : ◌≡◌ {A = Result (List ℕ) Code} (Err c) (Ok found) = rw h at is in absurd (cc)
    first rest (Ok index) h = others rest index h (indices_of (asked map names) queried) refl (rw h at is)

-- so the layers that QUERY_LAYERS lists are the map's
queried-layers : (map : MapFields) (names queried : List (List ℕ)) (found : List ℕ) → asked_of map names queried ≡ Ok found → HasLayers map found
queried-layers map names queried found is = some (listed (length queried)) refl
  where
    some : (r : Result (Unit {0}) Code) → listed (length queried) ≡ r → HasLayers map found
    some (Err c) h = let clash : ◌≡◌ {A = Result (List ℕ) Code} (Err c) (Ok found) = rw h at is in absurd (cc)
    some (Ok tt) h = listed-layers map names queried found (rw h at is)

-- the hits of one layer are equal where their layers and features are
same-hits : (a b : LayerHits) → a.layer ≡ b.layer → a.features ≡ b.features → a ≡ b
same-hits a b e f = go a.layer a.features e f
  where
    go : (layer : ℕ) (features : List ℕ) → layer ≡ b.layer → features ≡ b.features → ◌≡◌ {A = LayerHits} (record { layer = layer; features = features }) b
    go layer features e f = rw (e, f) refl

-- there is one list of hits of each layer whose features are requested
one-found : HasOneHitList → (map : MapFields) (r : InformationRequest) (indices : List ℕ) (found others : List LayerHits) → HasLayers map indices →
    AllZip (AreAskedHits map r) indices found → AllZip (AreAskedHits map r) indices others → found ≡ others
one-found one-hit-list map r [] [] [] layers f g = refl
one-found one-hit-list map r [] (a ∷ found) others layers f g = absurd f
one-found one-hit-list map r [] [] (b ∷ others) layers f g = absurd g
one-found one-hit-list map r (index ∷ indices) [] others layers f g = absurd f
one-found one-hit-list map r (index ∷ indices) (a ∷ found) [] layers f g = absurd g
one-found one-hit-list map r (index ∷ indices) (a ∷ found) (b ∷ others) ((layer, at), layers) (f, fs) (g, gs) =
    let mine : AreHits (scene_of map r.map) layer r.column r.row r.count a.features = rw at at f.1 in
    let theirs : AreHits (scene_of map r.map) layer r.column r.row r.count b.features = rw at at g.1 in
    let first : a ≡ b = same-hits a b (f.0 ∙ sym g.0) (one-hit-list (scene_of map r.map) layer r.column r.row r.count a.features b.features mine theirs) in
    rw (first, one-found one-hit-list map r indices found others layers fs gs) refl

-- equal answers are alike
equal-alike : (a b : Answer) → a ≡ b → AreAlike a b
equal-alike a b e = rw (← e) (equal_answers a)

-- two answers with one picture in a format are alike
pictures-alike : (f : Format) (picture : SmoothFields) (a b : Answer) → IsWrittenPicture f picture a → IsWrittenPicture f picture b → AreAlike a b
pictures-alike format.Png picture a b is are = equal_pictures picture a b is are
pictures-alike format.Pixmap picture a b is are = equal-alike a b (is ∙ sym are)
pictures-alike format.ArbitraryMap picture a b is are = equal-alike a b (is ∙ sym are)

-- a pixel of the request is a pixel of the picture that is drawn, or more
some-factor : (map : MapFields) (r : MapRequest) → 1 ≤ (fine_of map r).factor
some-factor map r = go (nat_le 1 map.smoothing) refl (int_le (pos map.smoothing) (r.area.maxx -ℤ r.area.minx) && int_le (pos map.smoothing) (r.area.maxy -ℤ r.area.miny))
  where
    go : (some : Bool) → nat_le 1 map.smoothing ≡ some → (coarse : Bool) →
        1 ≤ (unwrap_or (if (some && true) && coarse then Some (fine_view (view_of r) map.smoothing) else None) (view_of r)).factor
    go false h coarse = omega arith
    go true h false = omega arith
    go true h true = leb-true 1 map.smoothing h

-- two answers to what a query means are alike
one-to : HasOneSmoothPicture → HasOneHitList → (state : State) (query : List ℕ) (meaning : Result Request WmsFault) (a b : Answer) → IsMeaning state.map state.sequence query meaning →
    Answers state meaning a → Answers state meaning b → AreAlike a b
one-to picture hits state query (Err fault) a b meant e f = equal-alike a b (e ∙ sym f)
one-to picture hits state query (Ok request.Capabilities) a b meant e f = equal-alike a b (e ∙ sym f)
one-to picture hits state query (Ok (request.Map r)) a b meant (p, is, e) (q, are, f) =
    let one : q ≡ p = sym (picture state.map (fine_of state.map r) (scale_of r) r.chosen r.background p q (some-factor state.map r) is are) in
    pictures-alike r.format p a b e (subst (λ (shown : SmoothFields). IsWrittenPicture r.format shown b) one f)
one-to picture hits state query (Ok (request.Information r)) a b meant (found, mine, e) (others, theirs, f) =
    let layers : HasLayers state.map r.layers = queried-layers state.map (layer_names (texts_of (pairs_of query))) (names_of (given (texts_of (pairs_of query)) parameter.QueryLayers)) r.layers meant.1.1.layers in
    equal-alike a b (e ∙ ap (λ (h : List LayerHits). record { mime = mime.Plain; body = featureinfo.answer state.map h }) (one-found hits state.map r r.layers found others layers mine theirs) ∙ sym f)

-- two answers to a query in a state are alike
one-answer : MeaningIsOne → HasOneSmoothPicture → HasOneHitList → (state : State) (query : List ℕ) (a b : Answer) → IsAnswer state query a → IsAnswer state query b → AreAlike a b
one-answer one picture hits state query a b (meaning, meant, is) (other, said, are) =
    let same : other ≡ meaning = one state.map state.sequence query other meaning said meant in
    one-to picture hits state query meaning a b meant is (rw same at are)

pub replicas-answer-alike : MeaningIsOne → HasOneSmoothPicture → HasOneHitList → ReplicasAnswerAlike
replicas-answer-alike meaning picture hits old one other events theirs replies answers run their_run published =
    let both : Some one ≡ Some other = sym (led old one events replies run) ∙ ap (after old) published ∙ led old other theirs answers their_run in
    let same : one ≡ other = cc in
    (same, λ query a b is are. one-answer meaning picture hits one query a b is (rw (sym same) at are))
