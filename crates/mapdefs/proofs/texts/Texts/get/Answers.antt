use Rattle.std.proofs.Common.{◌≡◌, ◌∙◌, ◌<◌, ◌∷◌, ℕ, List, Some, length, get_or, string_bytes, slice_range, sym, ap, arith}
use Rattle.std.proofs.lemmas.List.{get_or_default}
use Rattle.mapdefs.proofs.TextEnds.{end-at, start-at, text-at, text-past}
use Rattle.mapdefs.proofs.texts.Texts.get.Goals as goal

pub returns-then-index-len : goal.returns-then-index-len
returns-then-index-len c =
    let ends : List ℕ = c.self.inside.ends.items in
    rw (← c.self.view_is) (sym (text-past (string_bytes c.self.inside.bytes) 0 ends c.args.index (omega (arith, c.if-index-len.true, c.len.ensures, c.self.inside.ends.ok.0))))

pub range-requires-clause-start_le_end : goal.range-requires-clause-start_le_end
range-requires-clause-start_le_end c =
    let bytes : List ℕ = string_bytes c.self.inside.bytes in
    let ends : List ℕ = c.self.inside.ends.items in
    let k = c.args.index in
    let below : k < length ends = omega (arith, c.if-index-len.false, c.len.ensures, c.self.inside.ends.ok.0) in
    let start : c.start_of-start.result ≡ get_or (0 ∷ ends) k 0 = rw c.deref.ensures.value at c.start_of-start.ensures in
    let end : c.index.result.now ≡ get_or ends k 0 = c.index.ensures ∙ get_or_default ends k c.index.result.now 0 below in
    omega (arith, start, end, (end-at bytes 0 ends k below c.self.invariant).0)

pub range-requires-clause-start_boundary : goal.range-requires-clause-start_boundary
range-requires-clause-start_boundary c =
    let bytes : List ℕ = string_bytes c.self.inside.bytes in
    let ends : List ℕ = c.self.inside.ends.items in
    let k = c.args.index in
    let below : k < length ends = omega (arith, c.if-index-len.false, c.len.ensures, c.self.inside.ends.ok.0) in
    let start : c.start_of-start.result ≡ get_or (0 ∷ ends) k 0 = rw c.deref.ensures.value at c.start_of-start.ensures in
    rw (start, c.as_str.ensures.value) (start-at bytes ends k below c.self.invariant)

pub range-requires-clause-end_boundary : goal.range-requires-clause-end_boundary
range-requires-clause-end_boundary c =
    let bytes : List ℕ = string_bytes c.self.inside.bytes in
    let ends : List ℕ = c.self.inside.ends.items in
    let k = c.args.index in
    let below : k < length ends = omega (arith, c.if-index-len.false, c.len.ensures, c.self.inside.ends.ok.0) in
    let end : c.index.result.now ≡ get_or ends k 0 = c.index.ensures ∙ get_or_default ends k c.index.result.now 0 below in
    rw (end, c.as_str.ensures.value) (end-at bytes 0 ends k below c.self.invariant).1

pub returns : goal.returns
returns c =
    let bytes : List ℕ = string_bytes c.self.inside.bytes in
    let ends : List ℕ = c.self.inside.ends.items in
    let k = c.args.index in
    let below : k < length ends = omega (arith, c.if-index-len.false, c.len.ensures, c.self.inside.ends.ok.0) in
    let start : c.start_of-start.result ≡ get_or (0 ∷ ends) k 0 = rw c.deref.ensures.value at c.start_of-start.ensures in
    let end : c.index.result.now ≡ get_or ends k 0 = c.index.ensures ∙ get_or_default ends k c.index.result.now 0 below in
    let text : c.range.result.now ≡ slice_range bytes (get_or (0 ∷ ends) k 0) (get_or ends k 0) = rw (start, end, c.as_str.ensures.value) at c.range.ensures.value in
    rw (← c.self.view_is) (ap (λ (t : List ℕ). Some t) text ∙ sym (text-at bytes 0 ends k below))
