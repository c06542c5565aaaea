-- The parts of a session (docs/SERVICE.md, "Sessions").
use Rattle.std.specs.Prelude.{◌≡◌, ℕ, ◌≤◌, List, [], ◌++◌, length, ◌⊎◌, codes}
use Rattle.subcommands.specs.Lines.{AreLines}

-- after the mapfile there are a line of two percent signs and the script; where the session ends with that line, it may lack its LF
abbrev pub IsFollowed : List ℕ → List ℕ → List ℕ → Type 0
IsFollowed session mapfile script =
    (session ≡ mapfile ++ (codes "%%\n" ++ script)) ⊎ ((session ≡ mapfile ++ codes "%%") × (script ≡ []))

-- a session is a mapfile of whole lines, a line of two percent signs, and a script
abbrev pub IsParted : List ℕ → List ℕ → List ℕ → Type 0
IsParted session mapfile script = AreLines mapfile × IsFollowed session mapfile script

-- the mapfile is the shortest that such a line follows
pub record IsPartedFirst (session mapfile script : List ℕ) : Type 0 where
  pub parted : IsParted session mapfile script
  pub shortest : (m s : List ℕ) → IsParted session m s → length mapfile ≤ length m

-- no line of a session is two percent signs: all of it is the mapfile, and the script is empty
pub record IsUnparted (session mapfile script : List ℕ) : Type 0 where
  pub never : (m s : List ℕ) → IsParted session m s → ⊥
  pub all : mapfile ≡ session
  pub none : script ≡ []

-- the mapfile and the script of a session
abbrev pub AreParts : List ℕ → List ℕ → List ℕ → Type 0
AreParts session mapfile script = IsPartedFirst session mapfile script ⊎ IsUnparted session mapfile script
