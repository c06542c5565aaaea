-- Parts that are joined, as they are read one after another.
use Rattle.std.proofs.Common.{◌≡◌, ℕ, zero, suc, ◌-◌, ◌<◌, List, [], ◌∷◌, ◌++◌, length, Option, Some, None, option_map, option_and_then, refl, ap, sym, append_assoc, codes, arith}
use Rattle.mapdefs.specs.declared.expr.Expr.{Expr}
use Rattle.mapdefs.specs.declared.expr.Expr.TheVariants.{Not}
use Rattle.expressions.specs.declared.logic.Joint.{Joint}
use Rattle.expressions.specs.declared.logic.Joint.TheVariants.{Or, And}
use Rattle.expressions.specs.Fault.{IsStop}
use Rattle.expressions.specs.declared.fault.ReadingError.{ReadingError}
use Rattle.expressions.specs.declared.fault.ReadingError.TheVariants.{Fault, NoMemory}
use Rattle.expressions.specs.Reading.{Reading, after_joint, joined, more_parts, joined_by, joined_at, part_at, compare_at, closed, after_either, after_spaced}

-- parts between ORs are read by those between ANDs
abbrev pub rank : Joint → ℕ
rank Or = 2
rank And = 0

-- what is read after some parts and the keyword that joins them to a further one
abbrev pub with_further : Joint → Reading Expr → List Expr → ℕ → Expr × List ℕ → Option (Expr × List ℕ)
with_further how part parts n p = option_map (λ ps. (joined how (parts ++ p.0 ∷ ps.0), ps.1)) (more_parts how part n p.1)

unfoldable pub goes_on : Joint → Reading Expr → List Expr → ℕ → Reading Expr
goes_on how part parts n next = option_and_then (with_further how part parts n) (part next)

pub joined_by-none : (how : Joint) (part : Reading Expr) (bytes : List ℕ) → part bytes ≡ None → joined_by how part bytes ≡ None
unfolding joined_by
joined_by-none how part bytes e = rw e refl

-- where no keyword that joins them comes, there is no further part
pub more_parts-over : (how : Joint) (part : Reading Expr) (n : ℕ) (rest : List ℕ) → after_joint how rest ≡ None → more_parts how part (suc n) rest ≡ Some ([], rest)
unfolding more_parts
more_parts-over how part n rest over = rw (over, more_parts) refl

pub more_parts-more : (how : Joint) (part : Reading Expr) (n : ℕ) (rest next : List ℕ) → after_joint how rest ≡ Some next →
    more_parts how part (suc n) rest ≡ option_and_then (λ (p : Expr × List ℕ). option_map (λ (ps : List Expr × List ℕ). (p.0 ∷ ps.0, ps.1)) (more_parts how part n p.1)) (part next)
unfolding more_parts
more_parts-more how part n rest next more = rw (more, more_parts) refl

single : (how : Joint) (first : Expr) → joined how (first ∷ []) ≡ first
single Or first = refl
single And first = refl

pub joined_by-alone : (how : Joint) (part : Reading Expr) (bytes rest : List ℕ) (first : Expr) → part bytes ≡ Some (first, rest) → after_joint how rest ≡ None →
    joined_by how part bytes ≡ Some (first, rest)
unfolding joined_by
joined_by-alone how part bytes rest first e over = rw (e, more_parts-over how part (length rest) rest over) (ap (λ x. Some (x, rest)) (single how first))

-- one more part before those that come is one more of them
abbrev with_front : Expr → List Expr × List ℕ → List Expr × List ℕ
with_front p ps = (p ∷ ps.0, ps.1)

abbrev joined_with : Joint → List Expr → Expr → List Expr × List ℕ → Expr × List ℕ
joined_with how parts p ps = (joined how (parts ++ p ∷ ps.0), ps.1)

one-part : (how : Joint) (parts : List Expr) (first p : Expr) (x : Option (List Expr × List ℕ)) →
    option_map (joined_with how parts first) (option_map (with_front p) x) ≡ option_map (joined_with how (parts ++ first ∷ []) p) x
one-part how parts first p None = refl
one-part how parts first p (Some ps) =
    let made : List Expr → Option (Expr × List ℕ) = λ es. Some (joined how es, ps.1) in ap made (sym (append_assoc parts (first ∷ []) (p ∷ ps.0)))

one-more : (how : Joint) (part : Reading Expr) (parts : List Expr) (n : ℕ) (first : Expr) (x : Option (Expr × List ℕ)) →
    option_map (λ (ps : List Expr × List ℕ). (joined how (parts ++ first ∷ ps.0), ps.1)) (option_and_then (λ (p : Expr × List ℕ). option_map (λ (ps : List Expr × List ℕ). (p.0 ∷ ps.0, ps.1)) (more_parts how part n p.1)) x)
    ≡ option_and_then (with_further how part (parts ++ first ∷ []) n) x
one-more how part parts n first None = refl
one-more how part parts n first (Some p) = one-part how parts first p.0 (more_parts how part n p.1)

pub joined_by-more : (how : Joint) (part : Reading Expr) (bytes rest next : List ℕ) (first : Expr) → part bytes ≡ Some (first, rest) → after_joint how rest ≡ Some next →
    joined_by how part bytes ≡ goes_on how part (first ∷ []) (length rest) next
unfolding joined_by goes_on
joined_by-more how part bytes rest next first e more =
    rw (e, more_parts-more how part (length rest) rest next more) (one-more how part [] (length rest) first (part next))

pub goes_on-none : (how : Joint) (part : Reading Expr) (parts : List Expr) (n : ℕ) (next : List ℕ) → part next ≡ None → goes_on how part parts n next ≡ None
unfolding goes_on
goes_on-none how part parts n next e = rw e refl

pub goes_on-ends : (how : Joint) (part : Reading Expr) (parts : List Expr) (n : ℕ) (next rest : List ℕ) (p : Expr) → 0 < n →
    part next ≡ Some (p, rest) → after_joint how rest ≡ None → goes_on how part parts n next ≡ Some (joined how (parts ++ p ∷ []), rest)
unfolding goes_on
goes_on-ends how part parts zero next rest p some e over = absurd (omega arith)
goes_on-ends how part parts (suc n) next rest p some e over = rw (e, more_parts-over how part n rest over) refl

pub goes_on-more : (how : Joint) (part : Reading Expr) (parts : List Expr) (n : ℕ) (next rest further : List ℕ) (p : Expr) → 0 < n →
    part next ≡ Some (p, rest) → after_joint how rest ≡ Some further → goes_on how part parts n next ≡ goes_on how part (parts ++ p ∷ []) (n - 1) further
unfolding goes_on
goes_on-more how part parts zero next rest further p some e more = absurd (omega arith)
goes_on-more how part parts (suc n) next rest further p some e more =
    let less : suc n - 1 ≡ n = omega arith in
    rw (e, more_parts-more how part n rest further more, less) (one-more how part parts n p (part further))

-- what stops one reading stops another that fails where it does
pub stop-by : {A B : Type 0} (f : Option A) (g : Option B) (stop : ReadingError) → (f ≡ None → g ≡ None) → IsStop f stop → IsStop g stop
stop-by f g (Fault left) h none = h none
stop-by f g NoMemory h none = tt

-- what a part is, by what it begins with
pub part_at-not : (n : ℕ) (bytes rest : List ℕ) → 0 < n → after_either (codes "NOT") (codes "!") bytes ≡ Some rest →
    part_at n bytes ≡ option_map (λ (p : Expr × List ℕ). (Not p.0, p.1)) (part_at (n - 1) rest)
unfolding part_at
part_at-not zero bytes rest some e = absurd (omega arith)
part_at-not (suc n) bytes rest some e = let less : suc n - 1 ≡ n = omega arith in rw (e, less) refl

pub part_at-deep-not : (n : ℕ) (bytes rest : List ℕ) → n ≡ 0 → after_either (codes "NOT") (codes "!") bytes ≡ Some rest → part_at n bytes ≡ None
unfolding part_at
part_at-deep-not zero bytes rest none e = rw e refl
part_at-deep-not (suc n) bytes rest none e = absurd (omega arith)

pub part_at-open : (n : ℕ) (bytes rest : List ℕ) → 0 < n → after_either (codes "NOT") (codes "!") bytes ≡ None → after_spaced (codes "(") bytes ≡ Some rest →
    part_at n bytes ≡ option_and_then closed (joined_at Or (part_at (n - 1)) rest)
unfolding part_at
part_at-open zero bytes rest some e o = absurd (omega arith)
part_at-open (suc n) bytes rest some e o = let less : suc n - 1 ≡ n = omega arith in rw (e, o, less) refl

pub part_at-deep-open : (n : ℕ) (bytes rest : List ℕ) → n ≡ 0 → after_either (codes "NOT") (codes "!") bytes ≡ None → after_spaced (codes "(") bytes ≡ Some rest → part_at n bytes ≡ None
unfolding part_at
part_at-deep-open zero bytes rest none e o = rw (e, o) refl
part_at-deep-open (suc n) bytes rest none e o = absurd (omega arith)

pub part_at-compare : (n : ℕ) (bytes : List ℕ) → after_either (codes "NOT") (codes "!") bytes ≡ None → after_spaced (codes "(") bytes ≡ None → part_at n bytes ≡ compare_at bytes
unfolding part_at
part_at-compare zero bytes e o = rw (e, o) refl
part_at-compare (suc n) bytes e o = rw (e, o) refl

-- an expression before a closing bracket is closed
pub closed-some : (e : Expr) (rest after : List ℕ) → after_spaced (codes ")") rest ≡ Some after → closed (e, rest) ≡ Some (e, after)
closed-some e rest after some = rw some refl
