-- Batches as lists of bytes.
use Rattle.std.specs.Prelude.{ℕ, List, map, Vec}
use Rattle.std.specs.declared.alloc.Global.{Global}

-- the bytes of each
abbrev pub texts_of : List (Vec ℕ Global) → List (List ℕ)
texts_of texts = map (λ text. text.items) texts
