-- Groups of boxes that lie near one another (docs/DRAWING.md, "From the world to the picture").
use Rattle.std.specs.Prelude.{ℕ, List, nat_eq, ◌≡◌, ◌≤◌, ◌<◌, ◌/◌, ◌^◌, ◌↔◌, length, Some, slice_index_or}
use Rattle.std.specs.List.{All, Contains, IsDistinct, slice_get}
use Rattle.geom.specs.World.{Area, Place, HasPlace}
use Rattle.gridindex.specs.Window.{MeetsAt}
use Rattle.gridindex.specs.declared.groups.Groups.{Groups}
use Rattle.gridindex.specs.declared.level.Level.{Level}

-- each place of the box lies in the cover
abbrev pub Encloses : Area → Area → Type 0
Encloses cover area = (place : Place) → HasPlace area place → HasPlace cover place

-- each index below the count is in the list, once
pub record IsOrder (count : ℕ) (order : List ℕ) : Type 0 where
  pub once : IsDistinct nat_eq order
  pub exact : (k : ℕ) → Contains order k ↔ (k < count)

-- the cover encloses the box of each index of the list
abbrev pub EnclosesAll : Area → List Area → List ℕ → Type 0
EnclosesAll cover boxes indices = (i : ℕ) (area : Area) → i < length indices →
    slice_get boxes (slice_index_or indices i 0) ≡ Some area → Encloses cover area

-- each group's cover encloses its boxes, where the first so many indices of the order are in groups of one size
abbrev pub Covers : List Area → List ℕ → ℕ → ℕ → List Area → Type 0
Covers boxes order count size covers = (i : ℕ) (cover area : Area) → i < count →
    slice_get covers (i / size) ≡ Some cover → slice_get boxes (slice_index_or order i 0) ≡ Some area → Encloses cover area

-- the groups of the level have a size
abbrev pub HasSize : Level → Type 0
HasSize level = 0 < level.size

-- groups of one size, with their covers
pub record IsLevel (boxes : List Area) (order : List ℕ) (grouped : ℕ) (level : Level) : Type 0 where
  pub size : HasSize level
  pub covers : Covers boxes order grouped level.size level.covers.items

-- each box has its index in the order, once, and each level covers the part that is grouped
pub record IsKept (groups : Groups) (boxes : List Area) : Type 0 where
  pub order : IsOrder (length boxes) groups.order.items
  pub grouped : groups.grouped ≤ length groups.order.items
  pub levels : All (IsLevel boxes groups.order.items groups.grouped) groups.levels.items
  pub count : length boxes ≤ 2 ^ 32

-- no index of the order, from the one to before the other, is that of a box that meets the window
abbrev pub Misses : Area → List Area → List ℕ → ℕ → ℕ → Type 0
Misses window boxes order from end = (i : ℕ) → from ≤ i → i < end → MeetsAt window boxes (slice_index_or order i 0) → ⊥

-- the numbers are those of the first so many indices of the order whose boxes meet the window, each once
pub record HasFound (window : Area) (boxes : List Area) (order : List ℕ) (end : ℕ) (found : List ℕ) : Type 0 where
  pub once : IsDistinct nat_eq found
  pub meets : (k : ℕ) → Contains found k → MeetsAt window boxes k
  pub before : (k : ℕ) → Contains found k → (i : ℕ) × (i < end) × (slice_index_or order i 0 ≡ k)
  pub each : (i : ℕ) → i < end → MeetsAt window boxes (slice_index_or order i 0) → Contains found (slice_index_or order i 0)
