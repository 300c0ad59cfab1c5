-- How old keys are in each pair of images that a crash may leave, and what its buckets are used
-- for.
use Rattle.std.specs.Prelude.{◌≡◌, ◌≢◌, ◌⊎◌, ℕ, ◌<◌, ◌≤◌, true, false, List, length, All, AllPairs}
use Rattle.bc_model.specs.Sector.{Image}
use Rattle.bc_disk.specs.Device.{MayLeave}
use Rattle.bc_disk.specs.declared.geometry.Geometry.{Geometry}
use Rattle.bc_leaves.specs.Parts as parts
use Rattle.bc_image.specs.Reading.{Reading, IsReading}
use Rattle.bc_image.specs.Sound.{IsWithinWindow}
use Rattle.bc_image.specs.Uses.{Use, Journal, Uuid, Data, IsUsedFor}
use Rattle.bc_disk.specs.Chain.{sets_in_chain}
use Rattle.bc_facts.specs.Seen.{counted}
use Rattle.bc_whole.specs.State.{Opening}
use Rattle.bc_known.specs.Acts.{Event}
use Rattle.bc_known.specs.Run.{run, start}
use Rattle.bc_shows.specs.On.{IsRunOn}

pub record HasUses (g : Geometry) (w : Opening) (r : Reading) : Type 0 where
  pub window : IsWithinWindow g r
  pub one : (bucket : ℕ) (a b : Use) → a ≢ Uuid → b ≢ Uuid → IsUsedFor g r a bucket
      → IsUsedFor g r b bucket → a ≡ b
  -- no data lies where the books know of superblock, journal or uuid table
  pub fixed : (bucket : ℕ) → g.first_bucket ≤ bucket
      → w.flow.books.fixed (counted g bucket) ≡ true → IsUsedFor g r Data bucket → ⊥

-- at the end of every run, and so at every state of one
abbrev pub LawUses : Type 0
LawUses =
    (g : Geometry) (w : Opening) (x : parts.State) (next_seq : ℕ) (es : List Event)
    → IsRunOn g w x next_seq es → let st = run w (start w x next_seq) es in
    (c b : Image) → MayLeave st.whole.flow.cache c → MayLeave st.whole.flow.backing b
    → (r : Reading) → IsReading g c r → HasUses g w r

-- ---- what isn't used

-- nothing uses the bucket but perhaps the uuid table, which lies where the books know of it
pub record IsUnneeded (g : Geometry) (w : Opening) (r : Reading) (bucket : ℕ) : Type 0 where
  pub inside : bucket < g.nbuckets
  pub low : g.first_bucket ≤ bucket
  pub not_fixed : w.flow.books.fixed (counted g bucket) ≡ false
  pub unused : (what : Use) → what ≢ Uuid → IsUsedFor g r what bucket → ⊥

pub record HasSpare (g : Geometry) (w : Opening) (r : Reading) : Type 0 where
  -- what the books know of superblock, journal or uuid table has no other use
  pub fixed : (bucket : ℕ) (what : Use) → g.first_bucket ≤ bucket
      → w.flow.books.fixed (counted g bucket) ≡ true → IsUsedFor g r what bucket
      → (what ≡ Journal) ⊎ (what ≡ Uuid)
  -- as many different buckets as a chain of generations takes
  pub spare : List ℕ
  pub different : AllPairs (λ a b. a ≢ b) spare
  pub each : All (IsUnneeded g w r) spare
  pub enough : sets_in_chain g ≤ length spare

abbrev pub LawSpare : Type 0
LawSpare =
    (g : Geometry) (w : Opening) (x : parts.State) (next_seq : ℕ) (es : List Event)
    → IsRunOn g w x next_seq es → let st = run w (start w x next_seq) es in
    (c b : Image) → MayLeave st.whole.flow.cache c → MayLeave st.whole.flow.backing b
    → (r : Reading) → IsReading g c r → HasSpare g w r
