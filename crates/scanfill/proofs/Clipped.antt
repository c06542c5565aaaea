-- The ends of a span that is cut to a picture, by the numbers that they are cut from.
use Rattle.std.proofs.Common.{◌≡◌, ◌∙◌, ℕ, min, ap}
use lib.IntN.{ℤ}
use mir.Syntax.{w64}
use mir.Val.{of_z, to_z}
use Rattle.clip.specs.EdgeClass.{at_least_zero}
use Rattle.scanfill.specs.declared.span.Span.{Span}

-- what i64 holds of a number
abbrev pub held : ℤ → ℤ
held z = to_z w64 (of_z w64 z)

pub clipped-from : (s : Span) (a b first : ℤ) (end : ℕ) → s ≡ record { from = min (at_least_zero a) end; to = min (at_least_zero b) end } → a ≡ first →
    s.from ≡ min (at_least_zero first) end
clipped-from s a b first end is same = ap (λ (t : Span). t.from) is ∙ ap (λ z. min (at_least_zero z) end) same

pub clipped-to : (s : Span) (a b past : ℤ) (end : ℕ) → s ≡ record { from = min (at_least_zero a) end; to = min (at_least_zero b) end } → b ≡ past →
    s.to ≡ min (at_least_zero past) end
clipped-to s a b past end is same = ap (λ (t : Span). t.to) is ∙ ap (λ z. min (at_least_zero z) end) same
