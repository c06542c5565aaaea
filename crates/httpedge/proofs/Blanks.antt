-- Bytes that came, without text and with it.
use Rattle.std.proofs.Common.{◌≡◌, ◌∙◌, ℕ, List, ◌++◌, Bool, true, false, not, refl, sym}
use Rattle.std.specs.List.{list_all}
use Rattle.std.proofs.lemmas.List.Folds.{list_all-append}
use Rattle.httpedge.specs.Received.{is_newline}
use Rattle.httpedge.specs.Head.{HasNoHead}
use Rattle.httpedge.proofs.Heads.{blank-headless}

not-false : (b : Bool) → not b ≡ false → b ≡ true
not-false true e = refl
not-false false e = cc

-- blank bytes and then a blank piece are blank
pub blank-more : (a b : List ℕ) (is-blank : Bool) → list_all is_newline a ≡ true → is-blank ≡ list_all is_newline b → not is-blank ≡ false → list_all is_newline (a ++ b) ≡ true
blank-more a b is-blank first is e =
    let second : list_all is_newline b ≡ true = sym is ∙ not-false is-blank e in
    rw (list_all-append is_newline a b, first, second) refl

-- and have no head
pub blank-more-headless : (a b : List ℕ) (is-blank : Bool) → list_all is_newline a ≡ true → is-blank ≡ list_all is_newline b → not is-blank ≡ false → HasNoHead (a ++ b)
blank-more-headless a b is-blank first is e = blank-headless (a ++ b) (blank-more a b is-blank first is e)
