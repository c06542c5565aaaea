-- The parent of a file in its path.
use Rattle.std.proofs.Common.{◌≡◌, ◌≢◌, ◌∙◌, ℕ, ◌+◌, ◌<◌, List, [], length, take, drop, inl, inr, refl, sym, arith, length-drop}
use Rattle.std.proofs.Math.ListN.{get_or}
use Rattle.std.proofs.lemmas.List.{take-append-drop, take_more, get_or-drop}
use Rattle.std.proofs.lemmas.List.Elements.{All-from_get_or}
use Rattle.subcommands.specs.Folder.{IsParent}

-- the bytes up to the last slash are the parent
pub parent-to : (path : List ℕ) (k : ℕ) → k < length path → get_or path k 0 ≡ 47 → ((i : ℕ) → k < i → i < length path → get_or path i 0 ≢ 47) → IsParent path (take (k + 1) path)
parent-to path k inside slash later = record {
  name = drop (k + 1) path;
  parts = sym (take-append-drop (k + 1) path);
  plain = All-from_get_or (λ b. b ≢ 47) (drop (k + 1) path) 0 (λ i short at.
      later (k + 1 + i) (omega arith) (omega (arith, length-drop (k + 1) path)) (sym (get_or-drop (k + 1) path i 0) ∙ at));
  slash = inr (take k path, rw (take_more path k 0 inside, slash) refl);
}

-- a path without a slash has an empty parent
pub parent-empty : (path : List ℕ) → ((i : ℕ) → i < length path → get_or path i 0 ≢ 47) → IsParent path []
parent-empty path none = record {
  name = path;
  parts = refl;
  plain = All-from_get_or (λ b. b ≢ 47) path 0 none;
  slash = inl refl;
}
