-- A row has one list of longest runs: from the first column on, two lists of them agree.
use Rattle.std.proofs.Common.{◌≡◌, ◌∙◌, ℕ, ◌≤◌, Bool, true, false, List, [], ◌∷◌, refl, sym, ap, subst, arith, ⊎_elim}
use Rattle.std.proofs.lemmas.Bool.{cases_lt}
use Rattle.scanfill.specs.Runs.{IsRunFrom, AreRunsFrom}
use Rattle.scanfill.specs.declared.span.Span.{Span}

-- no pixel both passes and doesn't
not-both : (test : ℕ → Bool) (i : ℕ) → test i ≡ true → test i ≡ false → ⊥
not-both test i passes fails = let e : true ≡ false = sym passes ∙ fails in absurd (cc)

-- a first run begins no later than another one
begins-no-later : (test : ℕ → Bool) (start end : ℕ) (x y : Span) → IsRunFrom test start end x → IsRunFrom test start end y → x.from ≤ y.from
begins-no-later test start end x y a b = ⊎_elim
    (λ late. absurd (not-both test y.from (b.inside y.from (omega arith) b.some) (a.before y.from b.begins late)))
    (λ fine. fine)
    (cases_lt y.from x.from)

-- and ends no earlier, where both begin together
ends-no-earlier : (test : ℕ → Bool) (start end : ℕ) (x y : Span) → IsRunFrom test start end x → IsRunFrom test start end y → x.from ≡ y.from → y.to ≤ x.to
ends-no-earlier test start end x y a b together = ⊎_elim
    (λ early. absurd (not-both test x.to (b.inside x.to (omega (arith, a.some, together)) early) (a.after (omega (arith, early, b.within)))))
    (λ fine. fine)
    (cases_lt x.to y.to)

-- a span has two columns
abbrev span-of : ℕ → ℕ → Span
span-of from to = record { from = from; to = to }

same-span : (x y : Span) → x.from ≡ y.from → x.to ≡ y.to → x ≡ y
same-span x y e f = ap (λ n. span-of n x.to) e ∙ ap (λ n. span-of y.from n) f

-- a row has one first run
first-is-one : (test : ℕ → Bool) (start end : ℕ) (x y : Span) → IsRunFrom test start end x → IsRunFrom test start end y → x ≡ y
first-is-one test start end x y a b =
    let from : x.from ≡ y.from = omega (arith, begins-no-later test start end x y a b, begins-no-later test start end y x b a) in
    same-span x y from (omega (arith, ends-no-earlier test start end x y a b from, ends-no-earlier test start end y x b a (sym from)))

-- where there is a run, some pixel passes
run-passes : (test : ℕ → Bool) (start end : ℕ) (x : Span) → IsRunFrom test start end x → AreRunsFrom test start end [] → ⊥
run-passes test start end x a none =
    not-both test x.from (a.inside x.from (omega arith) a.some) (none x.from a.begins (omega (arith, a.some, a.within)))

pub runs-are-one : (test : ℕ → Bool) (start end : ℕ) (a b : List Span) → AreRunsFrom test start end a → AreRunsFrom test start end b → a ≡ b
runs-are-one test start end [] [] x y = refl
runs-are-one test start end [] (b ∷ bs) x y = absurd (run-passes test start end b y.0 x)
runs-are-one test start end (a ∷ others) [] x y = absurd (run-passes test start end a x.0 y)
runs-are-one test start end (a ∷ others) (b ∷ bs) x y =
    let first = first-is-one test start end a b x.0 y.0 in
    let rest : AreRunsFrom test b.to end others = subst (λ (s : Span). AreRunsFrom test s.to end others) first x.1 in
    ap (λ s. s ∷ others) first ∙ ap (λ l. b ∷ l) (runs-are-one test b.to end others bs rest y.1)
