-- The parts that are read are in the grammar.
use Rattle.std.proofs.Common.{◌≡◌, ℕ, zero, suc, ◌-◌, ◌==◌, Bool, true, false, if◌then◌else◌, List, [], ◌∷◌, ◌++◌, length, Option, Some, None, option_map, option_and_then, IfSome, codes, refl, sym, ◌∙◌, ap, subst, append_assoc}
use Rattle.std.proofs.lemmas.Bool.{eqb-true}
use Rattle.std.proofs.lemmas.List.{append-nil}
use Rattle.mapdefs.specs.declared.expr.Comparison.{Comparison}
use Rattle.mapdefs.specs.declared.expr.Operand.{Operand}
use Rattle.mapdefs.specs.declared.expr.Expr.{Expr}
use Rattle.mapdefs.specs.declared.expr.Expr.TheVariants.{Not, Compare}
use Rattle.mapdefs.specs.declared.limits.TheConstants.{MAX_NESTING}
use Rattle.expressions.specs.declared.logic.Joint.{Joint}
use Rattle.expressions.specs.declared.logic.Joint.TheVariants.{Or, And}
use Rattle.expressions.specs.Grammar.{IsSpaced, IsWord, IsOrWord, IsAndWord, IsNotWord, all_of, any_of, IsPart, negated, within, compares, AreBetweenAnds, last_and, and, AreBetweenOrs, last_or, or, IsLogic}
use Rattle.expressions.specs.Reading.{Reading, after_either, after_spaced, after_joint, operand_at, comparison_at, compare_at, joined, more_parts, joined_by, joined_at, closed, part_by, part_with, part_at, alone, logic_of}
use Rattle.expressions.proofs.Words.{Found, after_spaced-sound, after_either-sound}
use Rattle.expressions.proofs.Sound.{Reads, IsSpacedOperand, operand-sound, IsSpacedComparison, comparison-sound}

-- three parts of a text, one after another
three : (a b c rest bytes x y : List ℕ) → bytes ≡ a ++ x → x ≡ b ++ y → y ≡ c ++ rest → bytes ≡ (a ++ (b ++ c)) ++ rest
three a b c rest bytes x y e f g =
    e ∙ ap (λ z. a ++ z) (f ∙ ap (λ z. b ++ z) g ∙ sym (append_assoc b c rest)) ∙ sym (append_assoc a (b ++ c) rest)

abbrev IsPartAt : ℕ → Expr → List ℕ → Type 0
IsPartAt n e text = IsPart n text e

compare-sound : (n : ℕ) (bytes : List ℕ) → Reads (IsPartAt n) bytes (compare_at bytes)
unfolding compare_at
compare-sound n bytes = first (operand_at bytes) (operand-sound bytes)
  where
    third : (l : Operand × List ℕ) (h : Comparison × List ℕ) (r : Option (Operand × List ℕ)) → Found (IsSpacedOperand l.0) bytes l.1 → Found (IsSpacedComparison h.0) l.1 h.1 → Reads IsSpacedOperand h.1 r →
        Reads (IsPartAt n) bytes (option_map (λ right. (Compare h.0 l.0 right.0, right.1)) r)
    third l h None a b c = tt
    third l h (Some r) a b c = (a.0 ++ (b.0 ++ c.0), compares n a.0 b.0 c.0 h.0 l.0 r.0 a.1 b.1 c.1, three a.0 b.0 c.0 r.1 bytes l.1 h.1 a.2 b.2 c.2)

    second : (l : Operand × List ℕ) (r : Option (Comparison × List ℕ)) → Found (IsSpacedOperand l.0) bytes l.1 → Reads IsSpacedComparison l.1 r →
        Reads (IsPartAt n) bytes (option_and_then (λ how. option_map (λ right. (Compare how.0 l.0 right.0, right.1)) (operand_at how.1)) r)
    second l None a b = tt
    second l (Some h) a b = third l h (operand_at h.1) a b (operand-sound h.1)

    first : (r : Option (Operand × List ℕ)) → Reads IsSpacedOperand bytes r →
        Reads (IsPartAt n) bytes (option_and_then (λ left. option_and_then (λ how. option_map (λ right. (Compare how.0 left.0 right.0, right.1)) (operand_at how.1)) (comparison_at left.1)) r)
    first None a = tt
    first (Some l) a = second l (comparison_at l.1) a (comparison-sound l.1)

-- Parts that a keyword joins, whatever they are: each is a Q, the keyword between two a W, and several are an L.
module _ (Q : Expr → List ℕ → Type 0) (W : List ℕ → Type 0) (L : List Expr → List ℕ → Type 0)
    (last : (text : List ℕ) (e : Expr) → Q e text → L (e ∷ []) text)
    (more : (text word others : List ℕ) (e : Expr) (es : List Expr) → Q e text → W word → L es others → L (e ∷ es) (text ++ (word ++ others)))
    (how : Joint) (part : Reading Expr)
    (part-sound : (bytes : List ℕ) → Reads Q bytes (part bytes))
    (word-sound : (bytes : List ℕ) → IfSome (after_joint how bytes) (Found W bytes)) where
  -- after any part, the further ones that are read make several
  abbrev Extends : List ℕ → List Expr × List ℕ → Type 0
  Extends bytes ps = (text : List ℕ) (e : Expr) → Q e text → (whole : List ℕ) × L (e ∷ ps.0) whole × (text ++ bytes ≡ whole ++ ps.1)

  more-sound : (n : ℕ) (bytes : List ℕ) → IfSome (more_parts how part n bytes) (Extends bytes)
  unfolding more_parts
  more-sound zero bytes = tt
  more-sound (suc n) bytes = worded (more-sound n) (after_joint how bytes) (word-sound bytes)
    where
      further : (next : List ℕ) (p : Expr × List ℕ) (r : Option (List Expr × List ℕ)) → Found W bytes next → Found (Q p.0) next p.1 → IfSome r (Extends p.1) →
          IfSome (option_map (λ (ps : List Expr × List ℕ). (p.0 ∷ ps.0, ps.1)) r) (Extends bytes)
      further next p None w a others = tt
      further next p (Some ps) w a others = λ text e is.
          let o = others a.0 p.0 a.1 in (
            text ++ (w.0 ++ o.0),
            more text w.0 o.0 e (p.0 ∷ ps.0) is w.1 o.1,
            three text w.0 o.0 ps.1 (text ++ bytes) bytes next refl w.2 (a.2 ∙ o.2),
          )

      parted : ((bytes : List ℕ) → IfSome (more_parts how part n bytes) (Extends bytes)) → (next : List ℕ) (r : Option (Expr × List ℕ)) → Found W bytes next → Reads Q next r →
          IfSome (option_and_then (λ (p : Expr × List ℕ). option_map (λ (ps : List Expr × List ℕ). (p.0 ∷ ps.0, ps.1)) (more_parts how part n p.1)) r) (Extends bytes)
      parted goes_on next None w a = tt
      parted goes_on next (Some p) w a = further next p (more_parts how part n p.1) w a (goes_on p.1)

      worded : ((bytes : List ℕ) → IfSome (more_parts how part n bytes) (Extends bytes)) → (r : Option (List ℕ)) → IfSome r (Found W bytes) →
          IfSome (elim r [
            | None ↦ Some ([], bytes)
            | Some next ↦ option_and_then (λ (p : Expr × List ℕ). option_map (λ (ps : List Expr × List ℕ). (p.0 ∷ ps.0, ps.1)) (more_parts how part n p.1)) (part next)
          ]) (Extends bytes)
      worded goes_on None w = λ text e is. (text, last text e is, refl)
      worded goes_on (Some next) w = parted goes_on next (part next) w (part-sound next)

  -- what parts are together
  abbrev pub IsJoined : List ℕ → Expr × List ℕ → Type 0
  IsJoined bytes p = (es : List Expr) × (p.0 ≡ joined how es) × Found (L es) bytes p.1

  pub joined-sound : (bytes : List ℕ) → IfSome (joined_by how part bytes) (IsJoined bytes)
  unfolding joined_by
  joined-sound bytes = by (part bytes) (part-sound bytes)
    where
      all : (p : Expr × List ℕ) (r : Option (List Expr × List ℕ)) → Found (Q p.0) bytes p.1 → IfSome r (Extends p.1) →
          IfSome (option_map (λ (ps : List Expr × List ℕ). (joined how (p.0 ∷ ps.0), ps.1)) r) (IsJoined bytes)
      all p None a others = tt
      all p (Some ps) a others = let o = others a.0 p.0 a.1 in (p.0 ∷ ps.0, refl, (o.0, o.1, a.2 ∙ o.2))

      by : (r : Option (Expr × List ℕ)) → Reads Q bytes r →
          IfSome (option_and_then (λ (p : Expr × List ℕ). option_map (λ (ps : List Expr × List ℕ). (joined how (p.0 ∷ ps.0), ps.1)) (more_parts how part (suc (length p.1)) p.1)) r) (IsJoined bytes)
      by None a = tt
      by (Some p) a = all p (more_parts how part (suc (length p.1)) p.1) a (more-sound (suc (length p.1)) p.1)

abbrev AndsAt : ℕ → List Expr → List ℕ → Type 0
AndsAt n es text = AreBetweenAnds n text es

abbrev OrsAt : ℕ → List Expr → List ℕ → Type 0
OrsAt n es text = AreBetweenOrs n text es

-- parts between ANDs, as what they are together
abbrev AllAt : ℕ → Expr → List ℕ → Type 0
AllAt n e text = (es : List Expr) × (e ≡ all_of es) × AreBetweenAnds n text es

all-sound : (n : ℕ) (part : Reading Expr) → ((bytes : List ℕ) → Reads (IsPartAt n) bytes (part bytes)) → (bytes : List ℕ) → Reads (AllAt n) bytes (joined_by And part bytes)
all-sound n part sound bytes = by (joined_by And part bytes)
    (joined-sound (IsPartAt n) (IsSpaced IsAndWord) (AndsAt n) (λ text e is. last_and n text e is) (λ text word others e es is w more. and n text word others e es is w more)
    And part sound (λ bs. after_either-sound (codes "AND") (codes "&&") bs) bytes)
  where
    by : (r : Option (Expr × List ℕ)) → IfSome r (λ (p : Expr × List ℕ). (es : List Expr) × (p.0 ≡ joined And es) × Found (AndsAt n es) bytes p.1) → Reads (AllAt n) bytes r
    by None found = tt
    by (Some p) (es, is, found) = (found.0, (es, is, found.1), found.2)

-- parts between ORs
abbrev pub AnyAt : ℕ → Expr → List ℕ → Type 0
AnyAt n e text = (es : List Expr) × (e ≡ any_of es) × AreBetweenOrs n text es

any-sound : (n : ℕ) (part : Reading Expr) → ((bytes : List ℕ) → Reads (IsPartAt n) bytes (part bytes)) → (bytes : List ℕ) → Reads (AnyAt n) bytes (joined_at Or part bytes)
any-sound n part sound bytes = by (joined_at Or part bytes)
    (joined-sound (AllAt n) (IsSpaced IsOrWord) (OrsAt n)
    (λ text e is. subst (λ x. AreBetweenOrs n text (x ∷ [])) (sym is.1) (last_or n text is.0 is.2))
    (λ text word others e fs is w more. subst (λ x. AreBetweenOrs n (text ++ (word ++ others)) (x ∷ fs)) (sym is.1) (or n text word others is.0 fs is.2 w more))
    Or (joined_by And part) (all-sound n part sound) (λ bs. after_either-sound (codes "OR") (codes "||") bs) bytes)
  where
    by : (r : Option (Expr × List ℕ)) → IfSome r (λ (p : Expr × List ℕ). (es : List Expr) × (p.0 ≡ joined Or es) × Found (OrsAt n es) bytes p.1) → Reads (AnyAt n) bytes r
    by None found = tt
    by (Some p) (es, is, found) = (found.0, (es, is, found.1), found.2)

-- parts between ORs, and their closing bracket
abbrev IsClosed : ℕ → List ℕ → Expr × List ℕ → Type 0
IsClosed n bytes p = (text close : List ℕ) × AnyAt n p.0 text × IsSpaced (IsWord (codes ")")) close × (bytes ≡ text ++ (close ++ p.1))

-- what is read before a closing bracket
closed-sound : (n : ℕ) (bytes : List ℕ) (r : Option (Expr × List ℕ)) → Reads (AnyAt n) bytes r →
    IfSome (option_and_then closed r) (IsClosed n bytes)
closed-sound n bytes None a = tt
closed-sound n bytes (Some p) a = by (after_spaced (codes ")") p.1) (after_spaced-sound (codes ")") p.1)
  where
    by : (r : Option (List ℕ)) → IfSome r (Found (IsSpaced (IsWord (codes ")"))) p.1) →
        IfSome (option_map {U = Expr × List ℕ} (λ rest. (p.0, rest)) r) (IsClosed n bytes)
    by None c = tt
    by (Some rest) c = (a.0, c.0, a.1, c.1, a.2 ∙ ap (λ z. a.0 ++ z) c.2)

-- a NOT, a bracket or a comparison
part_with-sound : (n : ℕ) (part : Reading Expr) → ((bytes : List ℕ) → Reads (IsPartAt n) bytes (part bytes)) → (bytes : List ℕ) →
    Reads (IsPartAt (suc n)) bytes (part_with part (joined_at Or part) bytes)
part_with-sound n part sound bytes =
    by (after_either (codes "NOT") (codes "!") bytes) (after_spaced (codes "(") bytes) (after_either-sound (codes "NOT") (codes "!") bytes) (after_spaced-sound (codes "(") bytes)
  where
    not : (rest : List ℕ) (r : Option (Expr × List ℕ)) → Found (IsSpaced IsNotWord) bytes rest → Reads (IsPartAt n) rest r →
        Reads (IsPartAt (suc n)) bytes (option_map (λ (p : Expr × List ℕ). (Not p.0, p.1)) r)
    not rest None w a = tt
    not rest (Some p) w a = (w.0 ++ a.0, negated n w.0 a.0 p.0 w.1 a.1, w.2 ∙ ap (λ z. w.0 ++ z) a.2 ∙ sym (append_assoc w.0 a.0 p.1))

    inner : (rest : List ℕ) (r : Option (Expr × List ℕ)) → Found (IsSpaced (IsWord (codes "("))) bytes rest →
        IfSome r (IsClosed n rest) → Reads (IsPartAt (suc n)) bytes r
    inner rest None w a = tt
    inner rest (Some p) w (text, close, any, c, e) = (
      w.0 ++ (text ++ close),
      subst (λ x. IsPart (suc n) (w.0 ++ (text ++ close)) x) (sym any.1) (within n w.0 text close any.0 w.1 any.2 c),
      w.2 ∙ ap (λ z. w.0 ++ z) (e ∙ sym (append_assoc text close p.1)) ∙ sym (append_assoc w.0 (text ++ close) p.1),
    )

    by : (r s : Option (List ℕ)) → IfSome r (Found (IsSpaced IsNotWord) bytes) → IfSome s (Found (IsSpaced (IsWord (codes "("))) bytes) →
        Reads (IsPartAt (suc n)) bytes (part_by part (joined_at Or part) r s bytes)
    by (Some rest) s w o = not rest (part rest) w (sound rest)
    by None (Some rest) w o = inner rest (option_and_then closed (joined_at Or part rest)) o (closed-sound n rest (joined_at Or part rest) (any-sound n part sound rest))
    by None None w o = compare-sound (suc n) bytes

part-sound : (n : ℕ) (bytes : List ℕ) → Reads (IsPartAt n) bytes (part_at n bytes)
unfolding part_at
part-sound zero bytes = by (after_either (codes "NOT") (codes "!") bytes) (after_spaced (codes "(") bytes)
  where
    by : (r s : Option (List ℕ)) → Reads (IsPartAt zero) bytes (part_by (λ rest. None) (λ rest. None) r s bytes)
    by (Some rest) s = tt
    by None (Some rest) = tt
    by None None = compare-sound zero bytes
part-sound (suc n) bytes = part_with-sound n (part_at n) (part-sound n) bytes

-- a text that is read is a Logic
pub logic-sound : (text : List ℕ) → IfSome (logic_of text) (IsLogic text)
unfolding logic_of
logic-sound [] = tt
logic-sound (b ∷ bs) = opened (b == 40) refl
  where
    ended : (p : Expr × List ℕ) → b ≡ 40 →
        IsClosed (MAX_NESTING - 1) bs p → IfSome (alone p) (IsLogic (b ∷ bs))
    ended (e, []) opens (text, close, any, c, whole) = record {
      text = text;
      close = close;
      parts = any.0;
      whole = rw (opens, whole, append-nil) refl;
      ors = any.2;
      closes = c;
      is = any.1;
    }
    ended (e, x ∷ xs) opens found = tt

    by : (r : Option (Expr × List ℕ)) → b ≡ 40 →
        IfSome r (IsClosed (MAX_NESTING - 1) bs) → IfSome (option_and_then alone r) (IsLogic (b ∷ bs))
    by None opens found = tt
    by (Some p) opens found = ended p opens found

    opened : (t : Bool) → (b == 40) ≡ t →
        IfSome (if t then option_and_then alone (option_and_then closed (joined_at Or (part_at (MAX_NESTING - 1)) bs)) else None) (IsLogic (b ∷ bs))
    opened true e = by (option_and_then closed (joined_at Or (part_at (MAX_NESTING - 1)) bs)) (eqb-true b 40 e)
        (closed-sound (MAX_NESTING - 1) bs (joined_at Or (part_at (MAX_NESTING - 1)) bs) (any-sound (MAX_NESTING - 1) (part_at (MAX_NESTING - 1)) (part-sound (MAX_NESTING - 1)) bs))
    opened false e = tt
