-- Whether a candidate's key fits into a leaf, and which key comes.
use Rattle.std.specs.Prelude.{◌≡◌, ℕ, ◌+◌, ◌-◌, ◌/◌, ◌^◌, ◌<◌, ◌≤◌, false, length, None, Some}
use Rattle.bc_bucket.specs.Buckets.{Buckets, bucket_of}
use Rattle.bc_key.specs.Key.{pointer_of, start_of}
use Rattle.bc_key.specs.declared.key.Key.{Key}
use Rattle.bc_key.specs.declared.ptr.Ptr.{Ptr}
use Rattle.bc_meta.specs.Keys.{Ref}
use Rattle.bc_node.specs.Leaf.{Leaf}
use Rattle.bc_candidate.specs.bc_sight.Sight.{said_in}
use Rattle.bc_settle.specs.declared.outcome.Reason.{Reason}
use Rattle.bc_settle.specs.declared.outcome.Reason.TheVariants as reason

-- a range with a sector at least, and where its data lies
pub record IsRanged (key : Key) : Type 0 where
  pub some : 1 ≤ key.size
  pub inside : key.size ≤ key.end
  pub ptr : Ptr
  pub is : pointer_of key ≡ Some ptr

-- the leaf has all of the range
abbrev pub IsInside : Leaf → Key → Type 0
IsInside leaf key = (leaf.from ≤ start_of key) × (key.end ≤ leaf.end)

-- so many places from this one on lie in one bucket, which is one of the device's for data
pub record LieInOne (b : Buckets) (at count : ℕ) : Type 0 where
  pub for_data : b.data_from ≤ at / b.size
  pub known : at / b.size < length b.records
  pub same : (at + count - 1) / b.size ≡ at / b.size

-- so they do, and this is its generation; a pointer can say where they lie
pub record HasGeneration (b : Buckets) (at count generation : ℕ) : Type 0 where
  pub one : LieInOne b at count
  pub is : generation ≡ (bucket_of b (at / b.size)).generation
  pub places : at + count ≤ 2 ^ 43

-- the leaf's last key of the sector points somewhere
abbrev pub IsKeyed : Leaf → ℕ → Type 0
IsKeyed leaf s = (ref : Ref) × (said_in leaf s ≡ Some ref)

-- one of these sectors has such a key
pub record HasKeyOver (leaf : Leaf) (first count : ℕ) : Type 0 where
  pub sector : ℕ
  pub low : first ≤ sector
  pub high : sector < first + count
  pub keyed : IsKeyed leaf sector

-- or none of them has one
abbrev pub AreBare : Leaf → (first count : ℕ) → Type 0
AreBare leaf first count = (s : ℕ) → first ≤ s → s < first + count → said_in leaf s ≡ None

-- Why the key doesn't come in: each cause where those before it don't hold.
abbrev pub WhyNot : Reason → Leaf → Buckets → Key → Type 0
WhyNot reason.Elsewhere leaf b old = ¬ (IsInside leaf old)
WhyNot reason.Scattered leaf b old = IsInside leaf old
    × ((ptr : Ptr) × (pointer_of old ≡ Some ptr) × ¬ (LieInOne b ptr.offset old.size))
WhyNot reason.Keyed leaf b old = IsInside leaf old
    × ((ptr : Ptr) × (pointer_of old ≡ Some ptr) × LieInOne b ptr.offset old.size)
    × HasKeyOver leaf (start_of old) old.size
WhyNot reason.Full leaf b old = IsInside leaf old
    × ((ptr : Ptr) × (pointer_of old ≡ Some ptr) × LieInOne b ptr.offset old.size)
    × AreBare leaf (start_of old) old.size × (leaf.spare ≡ 0)

-- The key that comes in is made anew: clean, of the candidate's range, and with a pointer to its
-- place of the generation that the place's bucket has. It fits into the leaf.
pub record IsNamedBy (leaf : Leaf) (b : Buckets) (old key : Key) : Type 0 where
  pub inside : IsInside leaf old
  pub bare : AreBare leaf (start_of old) old.size
  pub spare : 1 ≤ leaf.spare
  pub from : Ptr
  pub from_is : pointer_of old ≡ Some from
  pub inode : key.inode ≡ 0
  pub end : key.end ≡ old.end
  pub size : key.size ≡ old.size
  pub clean : key.dirty ≡ false
  pub csum : key.csum ≡ 0
  pub count : key.count ≡ 1
  pub ptr : Ptr
  pub pointer : pointer_of key ≡ Some ptr
  pub device : ptr.dev ≡ 0
  pub place : ptr.offset ≡ from.offset
  pub generation : HasGeneration b ptr.offset key.size ptr.generation
