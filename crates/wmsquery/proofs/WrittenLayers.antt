-- The layers that a request names are those that the names mean.
use Rattle.std.proofs.Common.{zero, ◌<◌, Contains, Option, Err, get_or, subst, ok_or, ◌≡◌, ◌≢◌, ℕ, suc, ◌==◌, ◌≤◌, ◌++◌, Bool, true, false, ◌⊎◌, nat_lt, nat_le, List, [], ◌∷◌, All, length, Some, None, Ok, ap, refl, sym, ◌∙◌, inl, inr, arith, cond, length-append, slice_get}
use Rattle.std.proofs.lemmas.Bool.{le-leb, lt-ltb, ne_eqb}
use Rattle.std.proofs.lemmas.List.Elements.{All-nil, All-cons, All-head, All-tail}
use Rattle.std.proofs.lemmas.List.Folds.{list_any_at}
use Rattle.std.specs.List.{position_or_len}
use Rattle.std.specs.Option.{option_map_or, option_and_then}
use Rattle.std.specs.Cmp.Lexicographic.{same_text, other_text}
use Rattle.mapdefs.specs.declared.layer.LayerFields.{LayerFields}
use Rattle.mapdefs.specs.declared.map.MapFields.{MapFields}
use Rattle.mapdefs.specs.Name.{index_of, is_same_name}
use Rattle.wmsquery.specs.Pairs.{names_in}
use Rattle.wmsquery.specs.Values.{listed, layer_named, defined, indices_of, layers_of, is_among, is_queryable, asked, asked_of}
use Rattle.mapdefs.specs.Outcome.{and_then}
use Rattle.wmsquery.specs.declared.fault.Code.TheVariants as code
use Rattle.wmsquery.specs.Written.{IsNamed, AreNamed, with_commas}
use Rattle.wmsquery.proofs.WrittenValues.{split-joined}

-- a test passes or fails
either : (b : Bool) → (b ≡ true) ⊎ (b ≡ false)
either true = inl refl
either false = inr refl

-- equal names are the same, and others not
pub same-name : (a b : List ℕ) → a ≡ b → is_same_name a b ≡ true
same-name a b e = elim (either (is_same_name a b)) [ inl same ↦ same | inr other ↦ absurd (other_text a b (sym other) e) ]

other-name : (a b : List ℕ) → a ≢ b → is_same_name a b ≡ false
other-name a b ne = elim (either (is_same_name a b)) [ inl same ↦ absurd (ne (same_text a b (sym same))) | inr other ↦ other ]

-- the first layer with a name comes after layers with other names
first-stands : (name : List ℕ) (before : List LayerFields) (layer : LayerFields) (after : List LayerFields) →
    layer.name ≡ name → All (λ (other : LayerFields). other.name ≢ name) before →
    position_or_len (λ (l : LayerFields). is_same_name l.name name) (before ++ layer ∷ after) ≡ length before
first-stands name [] layer after e others = rw (same-name layer.name name e) refl
first-stands name (l ∷ ls) layer after e others =
    let one = All-head (λ (other : LayerFields). other.name ≢ name) l ls others in
    let rest = All-tail (λ (other : LayerFields). other.name ≢ name) l ls others in
    rw (other-name l.name name one) (omega (arith, first-stands name ls layer after e rest))

-- the element after a prefix is at the index of the prefix's length
get-after : {X : Type 0} (before : List X) (x : X) (after : List X) → slice_get (before ++ x ∷ after) (length before) ≡ Some x
get-after [] x after = refl
get-after (y ∷ ys) x after = get-after ys x after

-- the index of a named layer
index-named : (map : MapFields) (index : ℕ) (name : List ℕ) → IsNamed map index name → index_of name map.layers ≡ Some index
index-named map index name is =
    let test = λ (l : LayerFields). is_same_name l.name name in
    let stands : position_or_len test (is.before ++ is.layer ∷ is.after) ≡ length is.before =
    first-stands name is.before is.layer is.after is.named is.first in
    let within : nat_lt (position_or_len test (is.before ++ is.layer ∷ is.after)) (length (is.before ++ is.layer ∷ is.after)) ≡ true =
    lt-ltb _ _ (omega (arith, stands, length-append is.before (is.layer ∷ is.after))) in
    ap (index_of name) is.layers ∙ rw (within, stands, is.at) refl

-- the layer at that index
layer-there : (map : MapFields) (index : ℕ) (name : List ℕ) (is : IsNamed map index name) → slice_get map.layers index ≡ Some is.layer
layer-there map index name is =
    ap (λ (ls : List LayerFields). slice_get ls index) is.layers
    ∙ ap (slice_get (is.before ++ is.layer ∷ is.after)) (sym is.at)
    ∙ get-after is.before is.layer is.after

-- a name that is not empty means what the first layer with it says
named-some : (map : MapFields) (index : ℕ) (name : List ℕ) → 1 ≤ length name → IsNamed map index name → layer_named map name ≡ Some index
named-some map index [] some is = absurd (omega arith)
named-some map index (b ∷ bs) some is =
    let shown = λ (layer : LayerFields). cond layer.on (Some index) None in
    ap (option_and_then (λ i. option_map_or (λ (layer : LayerFields). cond layer.on (Some i) None) (slice_get map.layers i) None)) (index-named map index (b ∷ bs) is)
    ∙ ap (λ l. option_map_or shown l None) (layer-there map index (b ∷ bs) is)
    ∙ ap (λ t. cond t (Some index) None) is.on

-- the index of the layer with a name that is defined
defined-is : (map : MapFields) (index : ℕ) (name : List ℕ) → IsNamed map index name → defined map name ≡ Ok index
defined-is map index name is = ap (λ found. ok_or found code.LayerNotDefined) (named-some map index name is.some is)

-- names of layers mean their indices
indices-named : (map : MapFields) (indices : List ℕ) (names : List (List ℕ)) → AreNamed map indices names → indices_of (defined map) names ≡ Ok indices
indices-named map [] [] are = refl
indices-named map (i ∷ is) (n ∷ ns) are =
    ap (λ found. and_then found (λ index. and_then (indices_of (defined map) ns) (λ indices. Ok (index ∷ indices)))) (defined-is map i n are.0)
    ∙ ap (λ found. and_then found (λ indices. Ok (i ∷ indices))) (indices-named map is ns are.1)
indices-named map [] (n ∷ ns) are = absurd are
indices-named map (i ∷ is) [] are = absurd are

-- there are as many names as indices
pub same-count : (map : MapFields) (indices : List ℕ) (names : List (List ℕ)) → AreNamed map indices names → length names ≡ length indices
same-count map [] [] are = refl
same-count map (i ∷ is) (n ∷ ns) are = ap suc (same-count map is ns are.1)
same-count map [] (n ∷ ns) are = absurd are
same-count map (i ∷ is) [] are = absurd are

-- the names have no commas
pub no-commas : (map : MapFields) (indices : List ℕ) (names : List (List ℕ)) → AreNamed map indices names → All (All (λ b. b ≢ 44)) names
no-commas map [] [] are = All-nil (All (λ b. b ≢ 44))
no-commas map (i ∷ is) (n ∷ ns) are = All-cons (All (λ b. b ≢ 44)) n ns are.0.no_comma (no-commas map is ns are.1)
no-commas map [] (n ∷ ns) are = absurd are
no-commas map (i ∷ is) [] are = absurd are

-- names between commas are those names
pub names-split : (names : List (List ℕ)) → 1 ≤ length names → All (All (λ b. b ≢ 44)) names → names_in (with_commas names) ≡ names
names-split [] some plain = absurd (omega arith)
names-split (n ∷ ns) some plain =
    split-joined n ns (All-head (All (λ b. b ≢ 44)) n ns plain) (All-tail (All (λ b. b ≢ 44)) n ns plain)

-- 1 to 64 names may be listed
pub few-listed : (count : ℕ) → 1 ≤ count → count ≤ 64 → listed count ≡ Ok tt
few-listed count some most =
    let counted : (count == 0) ≡ false = ne_eqb count 0 (λ e. omega (arith, e, some)) in
    let few : nat_le count 64 ≡ true = le-leb count 64 most in
    rw (counted, few) refl

-- the names of 1 to 64 layers mean these layers
pub layers-written : (map : MapFields) (indices : List ℕ) (names : List (List ℕ)) → 1 ≤ length indices → length indices ≤ 64 →
    AreNamed map indices names → layers_of map names ≡ Ok indices
layers-written map indices names some most are =
    let count = same-count map indices names are in
    ap (λ r. and_then r (λ _. indices_of (defined map) names)) (few-listed (length names) (omega (arith, count)) (omega (arith, count)))
    ∙ indices-named map indices names are

-- a layer has one name
one-name : (map : MapFields) (index : ℕ) (a b : List ℕ) → IsNamed map index a → IsNamed map index b → a ≡ b
one-name map index a b p q =
    let same : Some p.layer ≡ Some q.layer = sym (layer-there map index a p) ∙ layer-there map index b q in
    sym p.named ∙ ap (λ (o : Option LayerFields). option_map_or (λ (l : LayerFields). l.name) o []) same ∙ q.named

-- the name at each index is that of the layer that the list of indices has there
named-at : (map : MapFields) (indices : List ℕ) (names : List (List ℕ)) → AreNamed map indices names → (k : ℕ) (i : ℕ) (n : List ℕ) → k < length indices →
    IsNamed map (get_or indices k i) (get_or names k n)
named-at map [] [] are k i n h = absurd (omega (arith, h))
named-at map [] (m ∷ ms) are k i n h = absurd are
named-at map (j ∷ js) [] are k i n h = absurd are
named-at map (j ∷ js) (m ∷ ms) are zero i n h = are.0
named-at map (j ∷ js) (m ∷ ms) are (suc k) i n h = named-at map js ms are.1 k i n (omega (arith, h))

-- a layer that is among others has its name among their names
among-names : (map : MapFields) (indices : List ℕ) (names : List (List ℕ)) (index : ℕ) (name : List ℕ) → AreNamed map indices names →
    IsNamed map index name → Contains indices index → is_among name names ≡ true
among-names map indices names index name are is (k, l, here) =
    let there = subst (λ j. IsNamed map j (get_or names k [])) here (named-at map indices names are k index [] l) in
    let same = same-name name (get_or names k []) (one-name map index name (get_or names k []) is there) in
    list_any_at (is_same_name name) names k [] (omega (arith, l, same-count map indices names are)) same

-- so its features may be requested, where it is queryable
asked-is : (map : MapFields) (names : List (List ℕ)) (index : ℕ) (name : List ℕ) → IsNamed map index name → is_among name names ≡ true →
    is_queryable map index ≡ true → asked map names name ≡ Ok index
asked-is map names index name is among queryable =
    ap (λ found. and_then found (λ i. cond (is_among name names) (cond (is_queryable map i) (Ok i) (Err code.LayerNotQueryable)) (Err code.LayerNotDefined)))
    (defined-is map index name is)
    ∙ ap (λ b. cond b (cond (is_queryable map index) (Ok index) (Err code.LayerNotQueryable)) (Err code.LayerNotDefined)) among
    ∙ ap (λ b. cond b (Ok index) (Err code.LayerNotQueryable)) queryable

-- names of such layers mean their indices
indices-asked : (map : MapFields) (chosen : List ℕ) (names : List (List ℕ)) (indices : List ℕ) (queried : List (List ℕ)) → AreNamed map chosen names →
    AreNamed map indices queried → All (Contains chosen) indices → All (λ index. is_queryable map index ≡ true) indices →
    indices_of (asked map names) queried ≡ Ok indices
indices-asked map chosen names [] [] are named among queryable = refl
indices-asked map chosen names [] (n ∷ ns) are named among queryable = absurd named
indices-asked map chosen names (i ∷ is) [] are named among queryable = absurd named
indices-asked map chosen names (i ∷ is) (n ∷ ns) are named among queryable =
    let first = asked-is map names i n named.0 (among-names map chosen names i n are named.0 (All-head (Contains chosen) i is among))
    (All-head (λ index. is_queryable map index ≡ true) i is queryable) in
    let rest = indices-asked map chosen names is ns are named.1 (All-tail (Contains chosen) i is among)
    (All-tail (λ index. is_queryable map index ≡ true) i is queryable) in
    ap (λ found. and_then found (λ index. and_then (indices_of (asked map names) ns) (λ indices. Ok (index ∷ indices)))) first
    ∙ ap (λ found. and_then found (λ indices. Ok (i ∷ indices))) rest

-- the names of 1 to 64 layers of a picture that are queryable mean these layers
pub asked-written : (map : MapFields) (chosen : List ℕ) (names : List (List ℕ)) (indices : List ℕ) (queried : List (List ℕ)) → 1 ≤ length indices →
    length indices ≤ 64 → AreNamed map chosen names → AreNamed map indices queried → All (Contains chosen) indices →
    All (λ index. is_queryable map index ≡ true) indices → asked_of map names queried ≡ Ok indices
asked-written map chosen names indices queried some most are named among queryable =
    let count = same-count map indices queried named in
    ap (λ r. and_then r (λ _. indices_of (asked map names) queried)) (few-listed (length queried) (omega (arith, count)) (omega (arith, count)))
    ∙ indices-asked map chosen names indices queried are named among queryable
