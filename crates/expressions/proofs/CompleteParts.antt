-- What is in the grammar is read: parts.
use Rattle.std.proofs.Common.{◌≡◌, ℕ, zero, suc, ◌-◌, ◌<◌, ◌≤◌, ◌==◌, ◌||◌, Bool, true, false, List, [], ◌∷◌, ◌++◌, length, Some, None, IsTrue, All, codes, inl, inr, refl, sym, ◌∙◌, ap, subst, append_assoc, length-append, arith}
use Rattle.std.proofs.lemmas.Bool.Decides.{nat_tests}
use Rattle.std.proofs.lemmas.List.{append-nil}
use Rattle.std.specs.Char.{to_ascii_lowercase}
use Rattle.mapdefs.specs.declared.expr.Comparison.{Comparison}
use Rattle.mapdefs.specs.declared.expr.Operand.{Operand}
use Rattle.mapdefs.specs.declared.expr.Expr.{Expr}
use Rattle.mapdefs.specs.declared.expr.Expr.TheVariants.{Compare}
use Rattle.mapdefs.specs.declared.limits.TheConstants.{MAX_NESTING}
use Rattle.expressions.specs.declared.logic.Joint.{Joint}
use Rattle.expressions.specs.declared.logic.Joint.TheVariants.{Or, And}
use Rattle.expressions.specs.Grammar.{is_space, IsSpaced, IsWord, IsOrWord, IsAndWord, IsOperand, IsComparison, all_of, any_of, IsPart, negated, within, compares, AreBetweenAnds, last_and, and, AreBetweenOrs, last_or, or, IsLogic, LogicHasOneTree}
use Rattle.expressions.specs.Reading.{Reading, after_spaces, after_either, after_spaced, after_joint, compare_at, joined, more_parts, joined_by, part_at, logic_of}
use Rattle.expressions.proofs.Complete.{Stops, stops-at, stops-spaced, opens, opens-not_space, operand-opens, operand-found, sign-stops, comparison-found, operand-apart}
use Rattle.expressions.proofs.Numbers.{is_numeric}
use Rattle.expressions.proofs.Parts.{more_parts-over, more_parts-more, part_at-not, part_at-open, part_at-compare, closed-some}
use Rattle.expressions.proofs.Words.{spaced-skip, stays, not-space, word-first, spaced-found, spaced-none, either-none, either-found}

-- after spaces comes a byte that passes a test
pub record Ends (p : ℕ → Bool) (after : List ℕ) : Type 0 where
  pub spaces : List ℕ
  pub byte : ℕ
  pub rest : List ℕ
  pub whole : after ≡ spaces ++ (byte ∷ rest)
  pub blank : All (λ b. IsTrue (is_space b)) spaces
  pub passes : p byte ≡ true

-- the bytes that may come after parts between ORs, after parts between ANDs, and after a part
abbrev is_close : ℕ → Bool
is_close b = b == 41

abbrev is_or : ℕ → Bool
is_or b = b == 41 || to_ascii_lowercase b == 111 || b == 124

abbrev is_and : ℕ → Bool
is_and b = b == 41 || to_ascii_lowercase b == 111 || b == 124 || to_ascii_lowercase b == 97 || b == 38

weaker : (p q : ℕ → Bool) (after : List ℕ) → ((b : ℕ) → p b ≡ true → q b ≡ true) → Ends p after → Ends q after
weaker p q after h e = record { spaces = e.spaces; byte = e.byte; rest = e.rest; whole = e.whole; blank = e.blank; passes = h e.byte e.passes }

close-or : (b : ℕ) → is_close b ≡ true → is_or b ≡ true
close-or b h = rw h refl

or-and_ : (b : ℕ) → is_or b ≡ true → is_and b ≡ true
or-and_ b h = rw h refl

and-not_space : (b : ℕ) → is_and b ≡ true → is_space b ≡ false
and-not_space b h = grind (arith, nat_tests)

-- what comes after a part, after its spaces
ends-first : (p : ℕ → Bool) (after : List ℕ) → ((b : ℕ) → p b ≡ true → is_space b ≡ false) → (e : Ends p after) → after_spaces after ≡ e.byte ∷ e.rest
ends-first p after ink e =
    let s : IsSpaced (λ w. w ≡ e.byte ∷ []) (e.spaces ++ (e.byte ∷ [])) = record { spaces = e.spaces; part = e.byte ∷ []; whole = refl; blank = e.blank; is = refl } in
    ap after_spaces (e.whole ∙ sym (append_assoc e.spaces (e.byte ∷ []) e.rest))
    ∙ spaced-skip (λ w. w ≡ e.byte ∷ []) (e.spaces ++ (e.byte ∷ [])) e.rest s (stays e.byte e.rest (ink e.byte e.passes))

-- a number ends there
and-stops : (b : ℕ) (bs : List ℕ) → is_and b ≡ true → Stops (b ∷ bs)
and-stops b bs h = stops-at b bs (no-number b h) (no-letter b h)
  where
    no-number : (b : ℕ) → is_and b ≡ true → is_numeric b ≡ false
    no-number b h = grind (arith, nat_tests)

    no-letter : (b : ℕ) → is_and b ≡ true → (to_ascii_lowercase b == 113) ≡ false
    no-letter b h = grind (arith, nat_tests)

ends-stops : (after : List ℕ) → Ends is_and after → Stops after
ends-stops after e = rw e.whole (stops-spaced e.spaces (e.byte ∷ e.rest) e.blank (and-stops e.byte e.rest e.passes))

-- the bytes after a keyword that is written after spaces
word-ends : (p : ℕ → Bool) (IsSome : List ℕ → Type 0) (written after : List ℕ) → IsSpaced IsSome written →
    ((part : List ℕ) → IsSome part → (b : ℕ) × (rest : List ℕ) × (part ≡ b ∷ rest) × (p b ≡ true)) → Ends p (written ++ after)
word-ends p IsSome written after s first =
    let (b, rest, e, passes) = first s.part s.is in
    record {
      spaces = s.spaces;
      byte = b;
      rest = rest ++ after;
      whole = ap (λ w. w ++ after) s.whole ∙ append_assoc s.spaces s.part after ∙ ap (λ w. s.spaces ++ (w ++ after)) e;
      blank = s.blank;
      passes = passes;
    }

close-first : (part : List ℕ) → IsWord (codes ")") part → (b : ℕ) × (rest : List ℕ) × (part ≡ b ∷ rest) × (is_close b ≡ true)
close-first part is = let (b, rest, e, f, more) = word-first 41 [] part is in (b, rest, e, passes b f)
  where
    passes : (b : ℕ) → to_ascii_lowercase b ≡ 41 → is_close b ≡ true
    passes b f = grind (arith, nat_tests)

or-first : (part : List ℕ) → IsOrWord part → (b : ℕ) × (rest : List ℕ) × (part ≡ b ∷ rest) × (is_or b ≡ true)
or-first part (inl is) = let (b, rest, e, f, more) = word-first 79 (82 ∷ []) part is in (b, rest, e, passes b f)
  where
    passes : (b : ℕ) → to_ascii_lowercase b ≡ 111 → is_or b ≡ true
    passes b f = grind (arith, nat_tests)
or-first part (inr is) = let (b, rest, e, f, more) = word-first 124 (124 ∷ []) part is in (b, rest, e, passes b f)
  where
    passes : (b : ℕ) → to_ascii_lowercase b ≡ 124 → is_or b ≡ true
    passes b f = grind (arith, nat_tests)

and-first : (part : List ℕ) → IsAndWord part → (b : ℕ) × (rest : List ℕ) × (part ≡ b ∷ rest) × (is_and b ≡ true)
and-first part (inl is) = let (b, rest, e, f, more) = word-first 65 (78 ∷ 68 ∷ []) part is in (b, rest, e, passes b f)
  where
    passes : (b : ℕ) → to_ascii_lowercase b ≡ 97 → is_and b ≡ true
    passes b f = grind (arith, nat_tests)
and-first part (inr is) = let (b, rest, e, f, more) = word-first 38 (38 ∷ []) part is in (b, rest, e, passes b f)
  where
    passes : (b : ℕ) → to_ascii_lowercase b ≡ 38 → is_and b ≡ true
    passes b f = grind (arith, nat_tests)

-- a keyword that is written has at least one byte
spaced-some : (IsSome : List ℕ → Type 0) (p : ℕ → Bool) (written : List ℕ) → IsSpaced IsSome written →
    ((part : List ℕ) → IsSome part → (b : ℕ) × (rest : List ℕ) × (part ≡ b ∷ rest) × (p b ≡ true)) → 0 < length written
spaced-some IsSome p written s first =
    let (b, rest, e, passes) = first s.part s.is in
    omega (arith, ap length s.whole, length-append s.spaces s.part, ap length e)

-- No further part comes there.
no-or : (after : List ℕ) → Ends is_close after → after_joint Or after ≡ None
no-or after e =
    either-none 79 (82 ∷ []) 124 (124 ∷ []) after e.byte e.rest (ends-first is_close after (λ b h. and-not_space b (or-and_ b (close-or b h))) e) (no-o e.byte e.passes) (no-bar e.byte e.passes)
  where
    no-o : (b : ℕ) → is_close b ≡ true → (to_ascii_lowercase b == 111) ≡ false
    no-o b h = grind (arith, nat_tests)

    no-bar : (b : ℕ) → is_close b ≡ true → (to_ascii_lowercase b == 124) ≡ false
    no-bar b h = grind (arith, nat_tests)

no-and : (after : List ℕ) → Ends is_or after → after_joint And after ≡ None
no-and after e =
    either-none 65 (78 ∷ 68 ∷ []) 38 (38 ∷ []) after e.byte e.rest (ends-first is_or after (λ b h. and-not_space b (or-and_ b h)) e) (no-a e.byte e.passes) (no-ampersand e.byte e.passes)
  where
    no-a : (b : ℕ) → is_or b ≡ true → (to_ascii_lowercase b == 97) ≡ false
    no-a b h = grind (arith, nat_tests)

    no-ampersand : (b : ℕ) → is_or b ≡ true → (to_ascii_lowercase b == 38) ≡ false
    no-ampersand b h = grind (arith, nat_tests)

-- a comparison that is written is read
compare-found : (left sign right after : List ℕ) (how : Comparison) (a b : Operand) → IsSpaced (λ w. IsOperand w a) left → IsSpaced (λ w. IsComparison w how) sign →
    IsSpaced (λ w. IsOperand w b) right → Ends is_and after → compare_at (left ++ (sign ++ (right ++ after))) ≡ Some (Compare how a b, after)
unfolding compare_at
compare-found left sign right after how a b l s r ends =
    rw (
      operand-found left (sign ++ (right ++ after)) a l (sign-stops sign (right ++ after) how s),
      comparison-found sign (right ++ after) how s (operand-apart right after b r),
      operand-found right after b r (ends-stops after ends),
    ) refl

-- parts that are read one after another, up to a rest
record IsRead (how : Joint) (part : Reading Expr) (bytes : List ℕ) (es : List Expr) (after : List ℕ) : Type 0 where
  first : Expr
  others : List Expr
  tail : List ℕ
  all : es ≡ first ∷ others
  reads : part bytes ≡ Some (first, tail)
  within : length tail ≤ length bytes
  further : (n : ℕ) → length tail < n → more_parts how part n tail ≡ Some (others, after)

-- one part, where no keyword comes that joins it to a further one
read-last : (how : Joint) (part : Reading Expr) (text after : List ℕ) (e : Expr) → part (text ++ after) ≡ Some (e, after) → after_joint how after ≡ None → IsRead how part (text ++ after) (e ∷ []) after
read-last how part text after e h over = record {
  first = e;
  others = [];
  tail = after;
  all = refl;
  reads = h;
  within = omega (arith, length-append text after);
  further = λ n m. last n m;
}
  where
    last : (n : ℕ) → length after < n → more_parts how part n after ≡ Some ([], after)
    last zero m = absurd (omega arith)
    last (suc n) m = more_parts-over how part n after over

-- one part before such a keyword and further ones
read-more : (how : Joint) (part : Reading Expr) (text word others after : List ℕ) (e : Expr) (es : List Expr) → part (text ++ (word ++ (others ++ after))) ≡ Some (e, word ++ (others ++ after)) →
    after_joint how (word ++ (others ++ after)) ≡ Some (others ++ after) → 0 < length word → IsRead how part (others ++ after) es after → IsRead how part (text ++ (word ++ (others ++ after))) (e ∷ es) after
read-more how part text word others after e es h joint some more = record {
  first = e;
  others = es;
  tail = word ++ (others ++ after);
  all = refl;
  reads = h;
  within = omega (arith, length-append text (word ++ (others ++ after)));
  further = λ n m. next n m;
}
  where
    next : (n : ℕ) → length (word ++ (others ++ after)) < n → more_parts how part n (word ++ (others ++ after)) ≡ Some (es, after)
    next zero m = absurd (omega arith)
    next (suc n) m =
        more_parts-more how part n (word ++ (others ++ after)) (others ++ after) joint
        ∙ rw (more.reads, more.further n (omega (arith, more.within, length-append word (others ++ after), some)), more.all) refl

-- what is read so, as what it is together
read-joined : (how : Joint) (part : Reading Expr) (bytes : List ℕ) (es : List Expr) (after : List ℕ) → IsRead how part bytes es after → joined_by how part bytes ≡ Some (joined how es, after)
unfolding joined_by
read-joined how part bytes es after is = rw (is.reads, is.further (suc (length is.tail)) (omega arith), is.all) refl

-- what doesn't begin as a NOT or a bracket
no-not : (b : ℕ) → opens b ≡ true → (to_ascii_lowercase b == 110) ≡ false
no-not b h = grind (arith, nat_tests)

no-mark : (b : ℕ) → opens b ≡ true → (to_ascii_lowercase b == 33) ≡ false
no-mark b h = grind (arith, nat_tests)

no-open : (b : ℕ) → opens b ≡ true → (to_ascii_lowercase b == 40) ≡ false
no-open b h = grind (arith, nat_tests)

-- a part that is a comparison
part-compares : (n : ℕ) (left sign right after : List ℕ) (how : Comparison) (a b : Operand) → IsSpaced (λ w. IsOperand w a) left → IsSpaced (λ w. IsComparison w how) sign →
    IsSpaced (λ w. IsOperand w b) right → Ends is_and after → part_at n ((left ++ (sign ++ right)) ++ after) ≡ Some (Compare how a b, after)
part-compares n left sign right after how a b l s r ends =
    let bytes = left ++ (sign ++ (right ++ after)) in
    let whole : (left ++ (sign ++ right)) ++ after ≡ bytes = append_assoc left (sign ++ right) after ∙ ap (λ w. left ++ w) (append_assoc sign right after) in
    let o = operand-opens l.part a l.is in
    let here : after_spaces (l.part ++ (sign ++ (right ++ after))) ≡ l.part ++ (sign ++ (right ++ after)) = rw o.whole (stays o.byte (o.rest ++ (sign ++ (right ++ after))) (opens-not_space o.byte o.first)) in
    let first : after_spaces bytes ≡ o.byte ∷ (o.rest ++ (sign ++ (right ++ after))) = spaced-skip (λ w. IsOperand w a) left (sign ++ (right ++ after)) l here ∙ ap (λ w. w ++ (sign ++ (right ++ after))) o.whole in
    let not = either-none 78 (79 ∷ 84 ∷ []) 33 [] bytes o.byte (o.rest ++ (sign ++ (right ++ after))) first (no-not o.byte o.first) (no-mark o.byte o.first) in
    let open_ = spaced-none 40 [] bytes o.byte (o.rest ++ (sign ++ (right ++ after))) first (no-open o.byte o.first) in
    ap (part_at n) whole ∙ part_at-compare n bytes not open_ ∙ compare-found left sign right after how a b l s r ends

-- a bracket isn't a NOT
open-not : (open_ rest : List ℕ) → IsSpaced (IsWord (codes "(")) open_ → after_either (codes "NOT") (codes "!") (open_ ++ rest) ≡ None
open-not open_ rest o =
    let (b, more, e, f, over) = word-first 40 [] o.part o.is in
    let here : after_spaces (o.part ++ rest) ≡ o.part ++ rest = rw e (stays b (more ++ rest) (not-space b 40 refl f)) in
    let first : after_spaces (open_ ++ rest) ≡ b ∷ (more ++ rest) = spaced-skip (IsWord (codes "(")) open_ rest o here ∙ ap (λ w. w ++ rest) e in
    either-none 78 (79 ∷ 84 ∷ []) 33 [] (open_ ++ rest) b (more ++ rest) first (rw f refl) (rw f refl)

close-some : (close : List ℕ) → IsSpaced (IsWord (codes ")")) close → (after : List ℕ) → Ends is_close (close ++ after)
close-some close c after = word-ends is_close (IsWord (codes ")")) close after c close-first

-- one less than one more
less : (n : ℕ) → suc n - 1 ≡ n
less n = omega arith

mutual
  part-found : (n : ℕ) (text : List ℕ) (e : Expr) (after : List ℕ) → IsPart n text e → Ends is_and after → part_at n (text ++ after) ≡ Some (e, after)
  part-found _ _ _ after (negated n word text e w is) ends =
      let found = either-found 78 (79 ∷ 84 ∷ []) 33 [] word (text ++ after) refl refl refl w in
      ap (part_at (suc n)) (append_assoc word text after)
      ∙ part_at-not (suc n) (word ++ (text ++ after)) (text ++ after) (omega arith) found
      ∙ rw (less n, part-found n text e after is ends) refl
  part-found _ _ _ after (within n open_ text close es o is c) ends =
      let bytes = open_ ++ (text ++ (close ++ after)) in
      let whole : (open_ ++ (text ++ close)) ++ after ≡ bytes = append_assoc open_ (text ++ close) after ∙ ap (λ w. open_ ++ w) (append_assoc text close after) in
      let found = spaced-found 40 [] open_ (text ++ (close ++ after)) refl o in
      ap (part_at (suc n)) whole
      ∙ part_at-open (suc n) bytes (text ++ (close ++ after)) (omega arith) (open-not open_ (text ++ (close ++ after)) o) found
      ∙ rw (less n, read-joined Or (joined_by And (part_at n)) (text ++ (close ++ after)) es (close ++ after) (ors-found n text es (close ++ after) is (close-some close c after)))
      (closed-some (any_of es) (close ++ after) after (spaced-found 41 [] close after refl c))
  part-found _ _ _ after (compares n left sign right how a b l s r) ends = part-compares n left sign right after how a b l s r ends

  ands-found : (n : ℕ) (text : List ℕ) (es : List Expr) (after : List ℕ) → AreBetweenAnds n text es → Ends is_or after → IsRead And (part_at n) (text ++ after) es after
  ands-found _ _ _ after (last_and n text e is) ends =
      read-last And (part_at n) text after e (part-found n text e after is (weaker is_or is_and after or-and_ ends)) (no-and after ends)
  ands-found _ _ _ after (and n text word others e es is w more) ends =
      let rest = others ++ after in
      let whole : (text ++ (word ++ others)) ++ after ≡ text ++ (word ++ rest) = append_assoc text (word ++ others) after ∙ ap (λ z. text ++ z) (append_assoc word others after) in
      subst (λ bytes. IsRead And (part_at n) bytes (e ∷ es) after) (sym whole)
      (read-more And (part_at n) text word others after e es
      (part-found n text e (word ++ rest) is (word-ends is_and IsAndWord word rest w and-first))
      (either-found 65 (78 ∷ 68 ∷ []) 38 (38 ∷ []) word rest refl refl refl w) (spaced-some IsAndWord is_and word w and-first)
      (ands-found n others es after more ends))

  ors-found : (n : ℕ) (text : List ℕ) (es : List Expr) (after : List ℕ) → AreBetweenOrs n text es → Ends is_close after → IsRead Or (joined_by And (part_at n)) (text ++ after) es after
  ors-found _ _ _ after (last_or n text es is) ends =
      read-last Or (joined_by And (part_at n)) text after (all_of es)
      (read-joined And (part_at n) (text ++ after) es after (ands-found n text es after is (weaker is_close is_or after close-or ends))) (no-or after ends)
  ors-found _ _ _ after (or n text word others es fs is w more) ends =
      let rest = others ++ after in
      let whole : (text ++ (word ++ others)) ++ after ≡ text ++ (word ++ rest) = append_assoc text (word ++ others) after ∙ ap (λ z. text ++ z) (append_assoc word others after) in
      subst (λ bytes. IsRead Or (joined_by And (part_at n)) bytes (all_of es ∷ fs) after) (sym whole)
      (read-more Or (joined_by And (part_at n)) text word others after (all_of es) fs
      (read-joined And (part_at n) (text ++ (word ++ rest)) es (word ++ rest) (ands-found n text es (word ++ rest) is (word-ends is_or IsOrWord word rest w or-first)))
      (either-found 79 (82 ∷ []) 124 (124 ∷ []) word rest refl refl refl w) (spaced-some IsOrWord is_or word w or-first)
      (ors-found n others fs after more ends))

-- a Logic is read as its tree
pub logic-found : (written : List ℕ) (e : Expr) → IsLogic written e → logic_of written ≡ Some e
unfolding logic_of
logic-found written e is =
    let n = MAX_NESTING - 1 in
    let close : is.close ++ [] ≡ is.close = append-nil is.close in
    let ends : Ends is_close is.close = subst (Ends is_close) close (close-some is.close is.closes []) in
    let shut : after_spaced (codes ")") is.close ≡ Some [] = subst (λ bytes. after_spaced (codes ")") bytes ≡ Some []) close (spaced-found 41 [] is.close [] refl is.closes) in
    rw (is.whole, read-joined Or (joined_by And (part_at n)) (is.text ++ is.close) is.parts is.close (ors-found n is.text is.parts is.close is.ors ends), shut)
    (ap (λ x. Some x) (sym is.is))

pub one-tree : LogicHasOneTree
one-tree written e other is that =
    let same : Some e ≡ Some other = sym (logic-found written e is) ∙ logic-found written other that in cc
