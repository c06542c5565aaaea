-- One pass over tokens gives what they mean.
use Rattle.std.proofs.Common.{◌≡◌, ℕ, zero, suc, ◌≤◌, Bool, true, false, List, [], ◌∷◌, length, refl, sym, ap, subst, ◌∙◌, arith}
use Rattle.std.specs.Prelude.{ℤ, if◌then◌else◌, nat_le, Option, None, Some, Result, Ok, Err, IfOk}
use Rattle.std.specs.Option.{ok_or}
use Rattle.maplex.specs.declared.fault.Tail.{Tail}
use Rattle.maplex.specs.declared.fault.Tail.TheVariants as tails
use Rattle.maplex.specs.Token.{TokenValue}
use Rattle.mapdefs.specs.declared.limits.TheConstants.{MAX_VERTICES}
use Rattle.mapwords.specs.declared.role.Block.{Block}
use Rattle.mapwords.specs.declared.role.Block.TheVariants as block
use Rattle.mapwords.specs.declared.role.Expected.{Expected}
use Rattle.mapwords.specs.declared.role.Expected.TheVariants as expected
use Rattle.mapwords.specs.declared.role.Role.{Role}
use Rattle.mapwords.specs.declared.role.Role.TheVariants as role
use Rattle.maptree.specs.declared.context.Context.TheVariants.{Keywords, Values, Latitude}
use Rattle.maptree.specs.declared.context.Move.TheVariants.{GoesOn, Enters, Leaves}
use Rattle.maptree.specs.declared.draft.Drafts.{Drafts}
use Rattle.mapwords.specs.declared.fault.Fault.{Fault}
use Rattle.mapwords.specs.declared.fault.ParseKind.TheVariants.{UnknownWord, WrongValue, MissingValue, Limit}
use Rattle.mapwords.specs.declared.keyword.Keyword.TheVariants as keyword
use Rattle.maptree.specs.declared.tree.MapTree.{MapTree}
use Rattle.mapwords.specs.declared.value.Value.{Value}
use Rattle.mapwords.specs.declared.value.ValueStep.{ValueStep}
use Rattle.mapwords.specs.declared.value.ValueStep.TheVariants.{More, Whole}
use Rattle.mapwords.specs.Setting.{web_expects, layer_expects}
use Rattle.maptree.specs.Data.{lacks_room}
use Rattle.maptree.specs.Draft.{noted, with_value}
use Rattle.maptree.specs.Draft as draft
use Rattle.maptree.specs.End.{ends}
use Rattle.maptree.specs.Entries.{Entries, Nothing, Said, Vertex, has_effect, values, with_said, with_block, vertex_count}
use Rattle.mapwords.specs.Fault.{fault_of, refused}
use Rattle.mapdefs.specs.Outcome.{and_then}
use Rattle.mapwords.specs.Keyword.{keyword_at, is_at, is_end}
use Rattle.maptree.specs.Meaning as meaning
use Rattle.mapwords.specs.Given.{Given, given_step, is_beyond, value_in}
use Rattle.maptree.specs.Meaning.{latitude_in, block_in, map_in}
use Rattle.maptree.specs.Pass as pass
use Rattle.maptree.specs.Pass.{reads, passed}
use Rattle.maptree.specs.Says.{Saying, Ends, Opens, Takes, Longitude, Skips, closing_fault, ends_unless, is_full, role_says, says, vertex_says, skipped_says}
use Rattle.maptree.specs.Smoothing.{is_smooth}
use Rattle.maptree.specs.Step.{read_end, read_role, note_step, coordinate_at, skip, read_token}
use Rattle.maptree.specs.Tree.{files_used, map_tree}
use Rattle.mapwords.specs.Value.{font_name_at, is_value, coordinate_in}
use Rattle.maptree.proofs.OpenBlocks.{OpenBlocks, only_map, metadata-ends, drafts_of, in_block, above, after_end, Nests, Fits, fits-option, fits-symbol_option, same-names, Frees, projection-frees, skipped-frees, label-frees, same-room, unless_fault, same-end}
use Rattle.maptree.proofs.Reading.{Ended, LeavesAtMost, read_after, reads-at_most, reads-enough}

-- what is read of a block
abbrev pub BlockRead : Type 0
BlockRead = Result (Entries × List TokenValue) Fault

-- a value is noted in the drafts as the block with it says
noted-if : (b : Block) (v : Value) (effect : Bool) (own : Entries) (o : OpenBlocks) →
    (if effect then noted b v (drafts_of (in_block b own o)) else drafts_of (in_block b own o)) ≡ drafts_of (in_block b (if effect then Said v own else own) o)
noted-if b v false own o = refl
noted-if block.Feature v true own o = refl
noted-if block.Map v true own o = refl
noted-if block.Web v true own o = refl
noted-if block.WebMetadata v true own o = refl
noted-if block.Symbol v true own o = refl
noted-if block.Layer v true own o = refl
noted-if block.LayerMetadata v true own o = refl
noted-if block.Class v true own o = refl
noted-if block.Style v true own o = refl
noted-if block.Label v true own o = refl
noted-if block.Points v true own o = refl
noted-if block.Validation v true own o = refl
noted-if block.Projection v true own o = refl
noted-if block.Skipped v true own o = refl
noted-if block.SkippedLabel v true own o = refl

value-noted : (b : Block) (v : Value) (own : Entries) (o : OpenBlocks) → with_value b v (drafts_of (in_block b own o)) ≡ drafts_of (in_block b (with_said v own) o)
value-noted b v own o = noted-if b v (has_effect v) own o

-- the rest of a value's tokens, by its next step
abbrev value_after : Tail → (List ℕ → Bool) → List TokenValue → Result ValueStep Fault → Result Given Fault
value_after tail too_many ts step = and_then step (λ s. elim s [
  | More next ↦ value_in tail too_many next ts
  | Whole value ↦ Ok (record { value = value; rest = ts })
])

module _ (tail : Tail) (too_many : List ℕ → Bool) (ts : List TokenValue) (k : ℕ) (below : (e : Expected) → IfOk (value_in tail too_many e ts) (λ v. length v.rest ≤ k)) (p : length ts ≤ k) where
  left-step : (step : Result ValueStep Fault) → IfOk (value_after tail too_many ts step) (λ v. length v.rest ≤ k)
  left-step (Err f) = tt
  left-step (Ok (More next)) = below next
  left-step (Ok (Whole v)) = p

-- the step of a value that a token is
abbrev step_at : (List ℕ → Bool) → Expected → TokenValue → Result ValueStep Fault
step_at too_many e t = given_step (is_beyond too_many (font_name_at e t)) e t

-- a value leaves no token that was not there
at-most : (tail : Tail) (too_many : List ℕ → Bool) (k : ℕ) (e : Expected) (ts : List TokenValue) → length ts ≤ k → IfOk (value_in tail too_many e ts) (λ v. length v.rest ≤ k)
unfolding value_in
at-most tail too_many k e [] p = tt
at-most tail too_many k e (t ∷ ts) p =
    left-step tail too_many ts k (λ next. at-most tail too_many k next ts (omega arith)) (omega arith) (step_at too_many e t)

pub value-left : (tail : Tail) (too_many : List ℕ → Bool) (e : Expected) (ts : List TokenValue) → IfOk (value_in tail too_many e ts) (λ v. length v.rest ≤ length ts)
value-left tail too_many e ts = at-most tail too_many (length ts) e ts (omega arith)

-- the drafts and the tokens after a value
abbrev noted_after : Block → Drafts → Given → Drafts × List TokenValue
noted_after b d v = (with_value b v.value d, v.rest)

-- the names that would be one too many in a block of a map of which this was read
abbrev too_many_in : Block → Drafts → List ℕ → Bool
too_many_in b d = lacks_room b d.map.files

module _ (tail : Tail) (n : ℕ) (b : Block) (d : Drafts) (below : (e : Expected) (ts : List TokenValue) → length ts ≤ n → reads tail n (Values b e) d ts ≡ and_then (value_in tail (too_many_in b d) e ts) (λ v. Ok (noted_after b d v))) where
  value-step : (e : Expected) (ts : List TokenValue) (step : Result ValueStep Fault) → length ts ≤ n →
      and_then (note_step b step d) (read_after tail n (Values b e) ts) ≡ and_then (value_after tail (too_many_in b d) ts step) (λ v. Ok (noted_after b d v))
  value-step e ts (Err f) p = refl
  value-step e ts (Ok (More next)) p = below next ts p
  value-step e ts (Ok (Whole v)) p = refl

-- a value is read in drafts as it is given
reads-value : (tail : Tail) (n : ℕ) (b : Block) (e : Expected) (d : Drafts) (ts : List TokenValue) → length ts ≤ n → reads tail n (Values b e) d ts ≡ and_then (value_in tail (too_many_in b d) e ts) (λ v. Ok (noted_after b d v))
unfolding reads value_in
reads-value tail zero b e d [] p = refl
reads-value tail (suc n) b e d [] p = refl
reads-value tail zero b e d (t ∷ ts) p = absurd (omega arith)
reads-value tail (suc n) b e d (t ∷ ts) p =
    value-step tail n b d (λ next us. reads-value tail n b next d us) e ts (step_at (too_many_in b d) e t) (omega arith)

same-next : {X Y : Type 0} (r : Result X Fault) (f g : X → Result Y Fault) → ((x : X) → f x ≡ g x) → and_then r f ≡ and_then r g
same-next (Ok x) f g p = p x
same-next (Err e) f g p = refl

same-all : {X : Type 0} (r : Result X Fault) → r ≡ and_then r (λ x. Ok x)
same-all (Ok x) = refl
same-all (Err f) = refl

-- two readings go on alike after what both gave
same-then : {X Y Z : Type 0} (r : Result X Fault) (s : Result Y Fault) (state : X → Y) (next : Y → Result Z Fault) (other : X → Result (Entries × List TokenValue) Fault) (finish : Entries × List TokenValue → Result Z Fault) →
    s ≡ and_then r (λ x. Ok (state x)) → ((x : X) → r ≡ Ok x → next (state x) ≡ and_then (other x) finish) → and_then s next ≡ and_then (and_then r other) finish
same-then (Ok x) s state next other finish p q = rw p (q x refl)
same-then (Err f) s state next other finish p q = rw p refl

-- after the END of a block, in drafts
abbrev closed : Block → OpenBlocks → Entries × List TokenValue → Ended
closed b o e = Ok (drafts_of (after_end b e.0 o), e.1)

-- what a block says after one token
abbrev pub block_after : Tail → ℕ → Block → Entries → Entries → List TokenValue → Saying → BlockRead
block_after tail n b above own ts saying = elim saying [
  | Ends ↦ Ok (own, ts)
  | Opens c ↦ and_then (block_in tail n c own Nothing ts) (λ inner. block_in tail n b above (with_block c inner.0 own) inner.1)
  | Takes expected ↦ and_then (value_in tail (lacks_room b (files_used own)) expected ts) (λ v. block_in tail n b above (with_said v.value own) v.rest)
  | Longitude x ↦ and_then (latitude_in tail ts) (λ y. block_in tail n b above (Vertex (record { x = x; y = y.0 }) own) y.1)
  | Skips ↦ block_in tail n b above own ts
]

-- the END of a block, for which there was room
end-step : (tail : Tail) (n : ℕ) (b : Block) (up own : Entries) (o : OpenBlocks) (t : TokenValue) (ts : List TokenValue) (full : Bool) (fault : Option Fault) (ended : Result Drafts Fault) → full ≡ false → ended ≡ unless_fault fault (drafts_of (after_end b own o)) →
    and_then (if full then refused Limit t else and_then ended (λ e. Ok (Leaves, e))) (read_after tail n (Keywords b) ts)
    ≡ and_then (and_then (ends_unless fault) (block_after tail n b (above b up o) own ts)) (closed b o)
end-step tail n b up own o t ts full None ended p q = rw (p, q) refl
end-step tail n b up own o t ts full (Some f) ended p q = rw (p, q) refl

-- a latitude, and the tokens after it
abbrev latitude_before : List TokenValue → ℤ → Result (ℤ × List TokenValue) Fault
latitude_before ts y = Ok (y, ts)

-- the latitude of a vertex for which there is room
module _ (tail : Tail) (x : ℤ) (own : Entries) (o : OpenBlocks) (free : nat_le MAX_VERTICES (vertex_count o.feature own) ≡ false) where
  -- the drafts with a further vertex
  abbrev with_latitude : ℤ → Drafts
  with_latitude y = drafts_of (in_block block.Points (Vertex (record { x = x; y = y }) own) o)

  latitude-at : (n : ℕ) (t : TokenValue) (ts : List TokenValue) (last full : Bool) (y : Option ℤ) → full ≡ false →
      and_then (if last then refused MissingValue t else and_then (if full then refused Limit t else ok_or y (fault_of WrongValue t)) (λ c. Ok (GoesOn (Keywords block.Points), with_latitude c))) (read_after tail n (Latitude x) ts)
      ≡ and_then (if last then refused MissingValue t else and_then (ok_or y (fault_of WrongValue t)) (latitude_before ts)) (λ c. reads tail n (Keywords block.Points) (with_latitude c.0) c.1)
  latitude-at n t ts true full y p = refl
  latitude-at n t ts false full None p = rw p refl
  latitude-at n t ts false full (Some y) p = rw p refl

  -- with one token less in the bound
  fewer : (n : ℕ) (t : TokenValue) (ts : List TokenValue) → length ts ≤ n → (last : Bool) (y : Option ℤ) →
      and_then (if last then refused MissingValue t else and_then (ok_or y (fault_of WrongValue t)) (latitude_before ts)) (λ c. reads tail n (Keywords block.Points) (with_latitude c.0) c.1)
      ≡ and_then (if last then refused MissingValue t else and_then (ok_or y (fault_of WrongValue t)) (latitude_before ts)) (λ c. reads tail (suc n) (Keywords block.Points) (with_latitude c.0) c.1)
  fewer n t ts p true y = refl
  fewer n t ts p false None = refl
  fewer n t ts p false (Some y) = reads-enough tail n (suc n) (Keywords block.Points) (with_latitude y) ts p (omega arith)

  latitude-step : (n : ℕ) (ts : List TokenValue) → length ts ≤ n →
      reads tail n (Latitude x) (drafts_of (in_block block.Points own o)) ts ≡ and_then (latitude_in tail ts) (λ y. reads tail n (Keywords block.Points) (with_latitude y.0) y.1)
  unfolding reads
  latitude-step zero [] p = refl
  latitude-step (suc n) [] p = refl
  latitude-step zero (t ∷ ts) p = absurd (omega arith)
  latitude-step (suc n) (t ∷ ts) p =
      latitude-at n t ts (is_end t) (nat_le MAX_VERTICES (vertex_count o.feature own)) (coordinate_in t) free
      ∙ fewer n t ts (omega arith) (is_end t) (coordinate_in t)

pub latitude-left : (tail : Tail) (ts : List TokenValue) → IfOk (latitude_in tail ts) (λ y. length y.1 ≤ length ts)
latitude-left tail [] = tt
latitude-left tail (t ∷ ts) = left (is_end t) (coordinate_in t)
  where
    left : (last : Bool) (y : Option ℤ) → IfOk (if last then refused MissingValue t else and_then (ok_or y (fault_of WrongValue t)) (latitude_before ts)) (λ y. length y.1 ≤ length (t ∷ ts))
    left true y = tt
    left false None = tt
    left false (Some y) = omega arith

module _ (tail : Tail) (n : ℕ) (below : (b : Block) (up own : Entries) (o : OpenBlocks) (ts : List TokenValue) → length ts ≤ n → is_full b (above b up o) ≡ false → reads tail n (Keywords b) (drafts_of (in_block b own o)) ts ≡ and_then (block_in tail n b (above b up o) own ts) (closed b o)) where
  module _ (b : Block) (up own : Entries) (o : OpenBlocks) (t : TokenValue) (ts : List TokenValue) (room : is_full b (above b up o) ≡ false) (p : length ts ≤ n) where
    ends-here : and_then (read_end b (drafts_of (in_block b own o)) t) (read_after tail n (Keywords b) ts)
        ≡ and_then (and_then (ends_unless (closing_fault b (above b up o) own t)) (block_after tail n b (above b up o) own ts)) (closed b o)
    ends-here = end-step tail n b up own o t ts (draft.is_full b (drafts_of (in_block b own o))) (closing_fault b (above b up o) own t) (ends b (drafts_of (in_block b own o)) t) (same-room b up own o ∙ room) (same-end b up own o t)

    -- an inner block is read, and then this one goes on
    module _ (c : Block) (inside : Nests c b) where
      inner-read : is_full c own ≡ false → reads tail n (Keywords c) (drafts_of (in_block b own o)) ts ≡ and_then (block_in tail n c own Nothing ts) (λ inner. Ok (drafts_of (in_block b (with_block c inner.0 own) o), inner.1))
      inner-read free =
          let at : reads tail n (Keywords c) (drafts_of (in_block c Nothing (in_block b own o))) ts ≡ and_then (block_in tail n c (above c own (in_block b own o)) Nothing ts) (closed c (in_block b own o)) = below c own Nothing (in_block b own o) ts p (ap (is_full c) (inside.parent own o) ∙ free) in
          ap (λ v. reads tail n (Keywords c) (drafts_of v) ts) (sym (inside.opened own o))
          ∙ at
          ∙ ap (λ v. and_then (block_in tail n c v Nothing ts) (closed c (in_block b own o))) (inside.parent own o)
          ∙ same-next (block_in tail n c own Nothing ts) _ _ (λ inner. ap (λ v. Ok (drafts_of v, inner.1)) (inside.ended inner.0 own o))

      room-inside : draft.is_full c (drafts_of (in_block b own o)) ≡ is_full c own
      room-inside =
          ap (λ v. draft.is_full c (drafts_of v)) (sym (inside.opened own o))
          ∙ same-room c own Nothing (in_block b own o)
          ∙ ap (is_full c) (inside.parent own o)

      -- where there is room
      opens-freely : is_full c own ≡ false →
          and_then (reads tail n (Keywords c) (drafts_of (in_block b own o)) ts) (λ e. reads tail n (Keywords b) e.0 e.1)
          ≡ and_then (and_then (block_in tail n c own Nothing ts) (λ inner. block_in tail n b (above b up o) (with_block c inner.0 own) inner.1)) (closed b o)
      opens-freely free =
          same-then (block_in tail n c own Nothing ts) (reads tail n (Keywords c) (drafts_of (in_block b own o)) ts) (λ inner. (drafts_of (in_block b (with_block c inner.0 own) o), inner.1)) (λ e. reads tail n (Keywords b) e.0 e.1) (λ inner. block_in tail n b (above b up o) (with_block c inner.0 own) inner.1) (closed b o)
          (inner-read free)
          (λ inner is. below b up (with_block c inner.0 own) o inner.1 (left-over inner is) room)
        where
          left-over : (inner : Entries × List TokenValue) → block_in tail n c own Nothing ts ≡ Ok inner → length inner.1 ≤ n
          left-over inner is =
              let l : LeavesAtMost (length ts) (reads tail n (Keywords c) (drafts_of (in_block b own o)) ts) = reads-at_most tail n (Keywords c) (drafts_of (in_block b own o)) ts in
              let e : reads tail n (Keywords c) (drafts_of (in_block b own o)) ts ≡ Ok (drafts_of (in_block b (with_block c inner.0 own) o), inner.1) = inner-read free ∙ ap (λ r. and_then r (λ x. Ok (drafts_of (in_block b (with_block c x.0 own) o), x.1))) is in
              let k : length inner.1 ≤ length ts = subst (LeavesAtMost (length ts)) e l in
              omega arith

      opens-here : (full : Bool) → full ≡ is_full c own →
          and_then (if full then refused Limit t else Ok (Enters (Keywords c), drafts_of (in_block b own o))) (read_after tail n (Keywords b) ts)
          ≡ and_then (and_then (if full then refused Limit t else Ok (Opens c)) (block_after tail n b (above b up o) own ts)) (closed b o)
      opens-here true q = refl
      opens-here false q = opens-freely (sym q)

    -- a value is read, and the block notes it
    takes-here : (e : Expected) →
        and_then (reads tail n (Values b e) (drafts_of (in_block b own o)) ts) (λ r. reads tail n (Keywords b) r.0 r.1)
        ≡ and_then (and_then (value_in tail (lacks_room b (files_used own)) e ts) (λ v. block_in tail n b (above b up o) (with_said v.value own) v.rest)) (closed b o)
    takes-here e =
        same-then (value_in tail (lacks_room b (files_used own)) e ts) (reads tail n (Values b e) (drafts_of (in_block b own o)) ts) (noted_after b (drafts_of (in_block b own o))) (λ r. reads tail n (Keywords b) r.0 r.1) (λ v. block_in tail n b (above b up o) (with_said v.value own) v.rest) (closed b o)
        (reads-value tail n b e (drafts_of (in_block b own o)) ts p ∙ ap (λ too_many. and_then (value_in tail too_many e ts) (λ v. Ok (noted_after b (drafts_of (in_block b own o)) v))) (same-names b own o))
        (λ v is.
        let left : length v.rest ≤ length ts = subst (λ r. IfOk r (λ (g : Given). length g.rest ≤ length ts)) is (value-left tail (lacks_room b (files_used own)) e ts) in
        ap (λ d. reads tail n (Keywords b) d v.rest) (value-noted b v.value own o)
        ∙ below b up (with_said v.value own) o v.rest (omega arith) room)

    role-here : (r : Option Role) → Fits b r →
        and_then (read_role b r (drafts_of (in_block b own o)) t) (read_after tail n (Keywords b) ts)
        ≡ and_then (and_then (role_says b r (above b up o) own t) (block_after tail n b (above b up o) own ts)) (closed b o)
    role-here None f = refl
    role-here (Some role.Closes) f = ends-here
    role-here (Some (role.Opens c)) f =
        ap (λ full. and_then (if full then refused Limit t else Ok (Enters (Keywords c), drafts_of (in_block b own o))) (read_after tail n (Keywords b) ts)) (room-inside c f)
        ∙ opens-here c f (is_full c own) refl
    role-here (Some (role.Takes e)) f = takes-here e

  -- a token in POINTS
  module _ (up own : Entries) (o : OpenBlocks) (t : TokenValue) (ts : List TokenValue) (p : length ts ≤ n) where
    vertex-here : (full : Bool) (x : Option ℤ) → nat_le MAX_VERTICES (vertex_count o.feature own) ≡ full →
        and_then (and_then (if full then refused Limit t else ok_or x (fault_of WrongValue t)) (λ c. Ok (GoesOn (Latitude c), drafts_of (in_block block.Points own o)))) (read_after tail n (Keywords block.Points) ts)
        ≡ and_then (and_then (if full then refused Limit t else and_then (ok_or x (fault_of WrongValue t)) (λ c. Ok (Longitude c))) (block_after tail n block.Points o.feature own ts)) (closed block.Points o)
    vertex-here true x q = refl
    vertex-here false None q = refl
    vertex-here false (Some x) q =
        latitude-step tail x own o q n ts p
        ∙ same-then (latitude_in tail ts) (latitude_in tail ts) (λ y. y) (λ y. reads tail n (Keywords block.Points) (with_latitude tail x own o q y.0) y.1) (λ y. block_in tail n block.Points o.feature (Vertex (record { x = x; y = y.0 }) own) y.1) (closed block.Points o)
        (same-all (latitude_in tail ts))
        (λ y is. below block.Points up (Vertex (record { x = x; y = y.0 }) own) o y.1 (let l : length y.1 ≤ length ts = subst (λ r. IfOk r (λ v. length v.1 ≤ length ts)) is (latitude-left tail ts) in omega arith) refl)

    points-here : (last : Bool) →
        and_then (if last then read_end block.Points (drafts_of (in_block block.Points own o)) t else and_then (coordinate_at (drafts_of (in_block block.Points own o)) t) (λ c. Ok (GoesOn (Latitude c), drafts_of (in_block block.Points own o)))) (read_after tail n (Keywords block.Points) ts)
        ≡ and_then (and_then (if last then ends_unless (closing_fault block.Points o.feature own t) else vertex_says o.feature own t) (block_after tail n block.Points o.feature own ts)) (closed block.Points o)
    points-here true = ends-here block.Points up own o t ts refl p
    points-here false = vertex-here (nat_le MAX_VERTICES (vertex_count o.feature own)) (coordinate_in t) refl

  -- a token in a block that is skipped, of which nothing is kept
  module _ (b : Block) (up own : Entries) (o : OpenBlocks) (t : TokenValue) (ts : List TokenValue) (room : is_full b (above b up o) ≡ false) (p : length ts ≤ n) (left : after_end b own o ≡ in_block b own o) where
    skipped-here : (r : Option Role) → Fits b r → Frees r →
        and_then (skip b r (drafts_of (in_block b own o))) (read_after tail n (Keywords b) ts)
        ≡ and_then (and_then (skipped_says r) (block_after tail n b (above b up o) own ts)) (closed b o)
    skipped-here None f g = below b up own o ts p room
    skipped-here (Some role.Closes) f g = ap (λ v. Ok (drafts_of v, ts)) (sym left)
    skipped-here (Some (role.Opens c)) f g = opens-freely b up own o t ts room p c f (g own)
    skipped-here (Some (role.Takes e)) f g = below b up own o ts p room

  -- a token in METADATA and VALIDATION
  pair-here : (b : Block) (up own : Entries) (o : OpenBlocks) (t : TokenValue) (ts : List TokenValue) → length ts ≤ n → is_full b (above b up o) ≡ false → drafts_of (in_block b own o) ≡ drafts_of (after_end b own o) → (e : Expected) → (last value : Bool) →
      and_then (if last then Ok (Leaves, drafts_of (in_block b own o)) else (if value then Ok (Enters (Values b e), drafts_of (in_block b own o)) else refused WrongValue t)) (read_after tail n (Keywords b) ts)
      ≡ and_then (and_then (if last then Ok Ends else (if value then Ok (Takes e) else refused WrongValue t)) (block_after tail n b (above b up o) own ts)) (closed b o)
  pair-here b up own o t ts p room same e true value = ap (λ d. Ok (d, ts)) same
  pair-here b up own o t ts p room same e false false = refl
  pair-here b up own o t ts p room same e false true = takes-here b up own o t ts room p e

  token-here : (b : Block) (up own : Entries) (o : OpenBlocks) (t : TokenValue) (ts : List TokenValue) → length ts ≤ n → is_full b (above b up o) ≡ false →
      and_then (read_token (Keywords b) (drafts_of (in_block b own o)) t) (read_after tail n (Keywords b) ts)
      ≡ and_then (and_then (says b (above b up o) own t) (block_after tail n b (above b up o) own ts)) (closed b o)
  token-here block.Points up own o t ts p q = points-here up own o t ts p (is_end t)
  token-here block.Validation up own o t ts p q = pair-here block.Validation up own o t ts p q refl (expected.Unused 0) (is_end t) (is_value t.shape)
  token-here block.WebMetadata up own o t ts p q = pair-here block.WebMetadata up own o t ts p q (metadata-ends own o) (web_expects t.text) (is_end t) (is_value t.shape)
  token-here block.LayerMetadata up own o t ts p q = pair-here block.LayerMetadata up own o t ts p q refl (layer_expects t.text) (is_end t) (is_value t.shape)
  token-here block.Projection up own o t ts p q = skipped-here block.Projection up own o t ts q p refl _ (fits-option block.Projection (keyword_at t)) (projection-frees (keyword_at t))
  token-here block.Skipped up own o t ts p q = skipped-here block.Skipped up own o t ts q p refl _ (fits-option block.Skipped (keyword_at t)) (skipped-frees (keyword_at t))
  token-here block.SkippedLabel up own o t ts p q = skipped-here block.SkippedLabel up own o t ts q p refl _ (fits-option block.SkippedLabel (keyword_at t)) (label-frees (keyword_at t))
  token-here block.Map up own o t ts p q = role-here block.Map up own o t ts q p _ (fits-option block.Map (keyword_at t))
  token-here block.Layer up own o t ts p q = role-here block.Layer up own o t ts q p _ (fits-option block.Layer (keyword_at t))
  token-here block.Class up own o t ts p q = role-here block.Class up own o t ts q p _ (fits-option block.Class (keyword_at t))
  token-here block.Style up own o t ts p q = role-here block.Style up own o t ts q p _ (fits-option block.Style (keyword_at t))
  token-here block.Symbol up own o t ts p q = role-here block.Symbol up own o t ts q p _ (fits-symbol_option (is_smooth (values o.map)) (keyword_at t))
  token-here block.Web up own o t ts p q = role-here block.Web up own o t ts q p _ (fits-option block.Web (keyword_at t))
  token-here block.Label up own o t ts p q = role-here block.Label up own o t ts q p _ (fits-option block.Label (keyword_at t))
  token-here block.Feature up own o t ts p q = role-here block.Feature up own o t ts q p _ (fits-option block.Feature (keyword_at t))

-- a block is read in drafts as it is read by what it says
joined : (tail : Tail) (n : ℕ) (b : Block) (up own : Entries) (o : OpenBlocks) (ts : List TokenValue) → length ts ≤ n → is_full b (above b up o) ≡ false → reads tail n (Keywords b) (drafts_of (in_block b own o)) ts ≡ and_then (block_in tail n b (above b up o) own ts) (closed b o)
unfolding reads block_in
joined tail zero b up own o [] p q = refl
joined tail (suc n) b up own o [] p q = refl
joined tail zero b up own o (t ∷ ts) p q = absurd (omega arith)
joined tail (suc n) b up own o (t ∷ ts) p q = token-here tail n (λ c over inner v us. joined tail n c over inner v us) b up own o t ts (omega arith) q

-- nothing is open
abbrev none_open : OpenBlocks
none_open = only_map Nothing

-- what the entries of a map come to
abbrev pub to_tree : Entries → Result MapTree Fault
to_tree own = Ok (map_tree own)

alone-same : (tail : Tail) (own : Entries) (ts : List TokenValue) → pass.alone tail (drafts_of (in_block block.Map own none_open)) ts ≡ and_then (meaning.alone tail own ts) to_tree
alone-same (tails.Ends line) own [] = refl
alone-same (tails.Breaks f) own [] = refl
alone-same (tails.Ends line) own (t ∷ ts) = refl
alone-same (tails.Breaks f) own (t ∷ ts) = refl

map-same : (tail : Tail) (r : BlockRead) → and_then (and_then r (closed block.Map none_open)) (λ e. pass.alone tail e.0 e.1) ≡ and_then (and_then r (λ own. meaning.alone tail own.0 own.1)) to_tree
map-same tail (Ok e) = alone-same tail e.0 e.1
map-same tail (Err f) = refl

begun-same : (tail : Tail) (t : TokenValue) (ts : List TokenValue) (begins : Bool) → (if begins then pass.map_body tail ts else refused UnknownWord t) ≡ and_then (if begins then map_in tail ts else refused UnknownWord t) to_tree
begun-same tail t ts true =
    ap (λ r. and_then r (λ e. pass.alone tail e.0 e.1)) (joined tail (length ts) block.Map Nothing Nothing none_open ts (omega arith) refl)
    ∙ map-same tail (block_in tail (length ts) block.Map Nothing Nothing ts)
begun-same tail t ts false = refl

-- a pass over the tokens gives what they mean
pub same-meaning : (ts : List TokenValue) (tail : Tail) → passed ts tail ≡ and_then (meaning.meaning ts tail) to_tree
same-meaning [] tail = refl
same-meaning (t ∷ ts) tail = begun-same tail t ts (is_at keyword.Map t)
