-- The sets of a node, and what a crash may leave of them while one more is written.
use Rattle.std.specs.Prelude.{◌≡◌, ◌≢◌, ℕ, ◌+◌, ◌*◌, ◌<◌, ◌≤◌, List, [], ◌∷◌, All}
use Rattle.bc_model.specs.Pattern.{zeros}
use Rattle.bc_model.specs.Sector.{Image, values_of}
use Rattle.bc_disk.specs.declared.geometry.Geometry.{Geometry}
use Rattle.bc_record.specs.Kind.{IsFound, behind}
use Rattle.bc_record.specs.Sectors.{AgreeOn, Has}
use Rattle.bc_set.specs.declared.set.Set.{Set}
use Rattle.bc_set.specs.declared.set.SetKind.{SetKind}
use Rattle.bc_set.specs.SetBytes.{AreSetKeys}
use Rattle.bc_set.specs.Records.{set_kind, set_sectors, numbered_kind, AreNodeSets}

-- the sets of the node that begins at a sector, oldest first
abbrev pub AreSetsFrom : Geometry → ℕ → SetKind → ℕ → Image → List Set → Type 0
AreSetsFrom g word kind at image sets = AreNodeSets g word kind image (at + g.node_sectors) at sets

-- the first sector behind the sets of the node that begins at a sector
abbrev pub behind_sets : Geometry → ℕ → SetKind → ℕ → List Set → ℕ
behind_sets g word kind at sets = behind (set_kind g word kind) at sets

-- No torn set matches by chance: behind the sets of the node that begins at a sector, a set with the node's number is found at most at the
-- next place, and is the one that was to be written there.
abbrev pub NoneByChance : Geometry → ℕ → SetKind → ℕ → List Set → Set → Image → Type 0
NoneByChance g word kind at sets more image =
    (block : ℕ) (s : Set) → IsFound (numbered_kind g word kind more.seq) image (at + g.node_sectors) (behind_sets g word kind at sets + g.block * block) s
    → (block ≡ 0) × (s ≡ more)

-- what a crash may leave of an image while one more set is written behind those of the node that begins at a sector: they stay
pub record MayLeave (g : Geometry) (word : ℕ) (kind : SetKind) (at : ℕ) (sets : List Set) (more : Set) (old new : Image) : Type 0 where
  pub stay : AgreeOn old new at (behind_sets g word kind at sets)
  pub no_chance : NoneByChance g word kind at sets more new

-- the sets of a node, wherever it stands, whose bytes these are
abbrev pub AreSetsOf : Geometry → ℕ → SetKind → List ℕ → List Set → Type 0
AreSetsOf g word kind bytes sets = (image : Image) (at : ℕ) → Has image at (values_of bytes) → AreSetsFrom g word kind at image sets

-- sets with keys of a kind, of which there is one at least
pub record AreProper (kind : SetKind) (sets : List Set) : Type 0 where
  pub some : sets ≢ []
  pub each : All (λ s. AreSetKeys kind s.keys) sets

-- ---- as a node in memory knows them

-- how many sectors sets take, each in whole blocks
abbrev pub taken_by : Geometry → List Set → ℕ
taken_by g [] = 0
taken_by g (s ∷ ss) = set_sectors g s + taken_by g ss

-- the number of a node's sets
abbrev pub HaveNumber : List Set → ℕ → Type 0
HaveNumber [] seq = Unit {0}
HaveNumber (s ∷ ss) seq = s.seq ≡ seq

-- the node that begins at a sector has these sets, with a number, which take so many sectors
pub record HasSets (g : Geometry) (word : ℕ) (kind : SetKind) (at seq taken : ℕ) (image : Image) (sets : List Set) : Type 0 where
  pub found : AreSetsFrom g word kind at image sets
  pub number : HaveNumber sets seq
  pub size : taken ≡ taken_by g sets

-- behind so many sectors the node that begins at a sector has zeros alone
abbrev pub IsClear : Geometry → ℕ → ℕ → Image → Type 0
IsClear g at taken image = (sector : ℕ) → at + taken ≤ sector → sector < at + g.node_sectors → image sector ≡ zeros
