-- Two byte images as a pair.
use Rattle.std.specs.Prelude.{ℕ, ◌/◌, ◌%◌, ◌≡◌, ◌^◌, ◌≤◌, List, length, Option, None, Some}
use Rattle.bc_disk.specs.Bytes.{image_of}
use Rattle.bc_image.specs.Pair.{Pair}

-- what each device holds, in whole sectors
abbrev pub pair_of : List ℕ → List ℕ → Pair
pair_of cache backing = record {
  cache = image_of cache;
  cache_sectors = length cache / 512;
  backing = image_of backing;
  backing_sectors = length backing / 512;
}

-- bytes of a device: whole sectors, and few enough for a disk in memory
abbrev pub AreSectors : List ℕ → Type 0
AreSectors bytes = (length bytes % 512 ≡ 0) × (length bytes ≤ 2 ^ 50)

-- what a search gives: the one for which P holds, or nothing where it holds for none
abbrev pub Finds : {A : Type 0} → (A → Type 0) → Option A → Type 0
Finds {A = A} P None = (x : A) → P x → ⊥
Finds P (Some x) = P x
