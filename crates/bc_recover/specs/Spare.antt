-- Buckets that nothing uses, and the lists that are filled with them.
use Rattle.std.specs.Prelude.{◌≡◌, ℕ, ◌<◌, List, All, AllPairs, Contains, slice_index_or}
use Rattle.bc_alloc.specs.Reserves.{Reserves, empty, stored_all}
use Rattle.bc_disk.specs.declared.geometry.Geometry.{Geometry}
use Rattle.bc_image.specs.Reading.{Reading}
use Rattle.bc_image.specs.Uses.{IsSpare}
use Rattle.bc_replay.specs.declared.uses.Use.{Use}
use Rattle.bc_replay.specs.declared.uses.Use.TheVariants as uses

-- of the first n numbers those of which P holds, in order
pub record AreThose (P : ℕ → Type 0) (n : ℕ) (ks : List ℕ) : Type 0 where
  pub order : AllPairs (λ a b. a < b) ks
  pub each : All (λ k. (k < n) × P k) ks
  pub all : (k : ℕ) → k < n → P k → Contains ks k

-- the table says that nothing uses the bucket
abbrev pub IsUnused : List Use → ℕ → Type 0
IsUnused table bucket = slice_index_or table bucket uses.Super ≡ uses.None

-- the lists were filled with the buckets of which P holds, the lower ones first, and in their own order
pub record AreFilled (P : ℕ → Type 0) (g : Geometry) (r : Reserves) : Type 0 where
  pub spare : List ℕ
  pub are : AreThose P g.nbuckets spare
  pub filled : r ≡ record (empty g) { lists = stored_all spare (empty g).lists }

-- these are the buckets that nothing uses
abbrev pub HasReserves : Geometry → Reading → Reserves → Type 0
HasReserves g r reserves = AreFilled (IsSpare g r) g reserves
