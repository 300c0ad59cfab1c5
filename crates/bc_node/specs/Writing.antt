-- A set as it is written.
use Rattle.std.specs.Prelude.{◌≡◌, ◌==◌, ℕ, ◌*◌, ◌≤◌, List, take, slice_index, if◌then◌else◌}
use Rattle.bc_key.specs.declared.key.Key.{Key}
use Rattle.bc_model.specs.Sector.{Value, values_of}
use Rattle.bc_disk.specs.declared.geometry.Geometry.{Geometry}
use Rattle.bc_set.specs.declared.set.Set.{Set}
use Rattle.bc_set.specs.declared.set.SetKind.{SetKind}
use Rattle.bc_set.specs.SetBytes.{IsSet, AreSetKeys, bytes_of}
use Rattle.bc_set.specs.Records.{set_sectors}

-- bytes begin with the set, of whichever kind its keys are
abbrev pub BeginsWith : Geometry → ℕ → Set → List ℕ → Type 0
BeginsWith g word s bytes = (kind : SetKind) → AreSetKeys kind s.keys → IsSet word g.set_magic kind bytes s

-- the set, in whole blocks, and zeros behind it
pub record HasSet (g : Geometry) (word : ℕ) (s : Set) (bytes : List ℕ) : Type 0 where
  pub whole : BeginsWith g word s bytes
  pub part : BeginsWith g word s (take (512 * set_sectors g s) bytes)
  pub zeros : (k : ℕ) → bytes_of s ≤ k → slice_index bytes k ≡ 0

-- a set as it is written: with these keys, and by version 1
abbrev pub set_of : ℕ → List Key → Set
set_of seq keys = record { seq = seq; version = 1; keys = keys }

-- how many sectors are written for a set behind so many others of a node: for the first one the whole node
abbrev pub put_sectors : Geometry → ℕ → Set → ℕ
put_sectors g taken s = if taken == 0 then g.node_sectors else set_sectors g s

-- what is written for it, the front of these bytes
abbrev pub put_values : Geometry → ℕ → Set → List ℕ → List Value
put_values g taken s bytes = values_of (take (512 * put_sectors g taken s) bytes)
