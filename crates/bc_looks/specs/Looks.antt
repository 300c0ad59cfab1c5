-- What the core's index is to a leaf of the tree, and to the buckets that it points into.
use Rattle.std.specs.Prelude.{◌≡◌, ℕ, ◌+◌, ◌<◌, ◌≤◌, ◌++◌, Option, Some}
use Rattle.bc_meta.specs.Keys.{Ref}
use Rattle.bc_meta.specs.Tree.{set_keys}
use Rattle.bc_books.specs.Index.{Dirty, Pointer, latest}
use Rattle.bc_leaves.specs.Keys.{last_said, ref_said}
use Rattle.bc_leaves.specs.Parts.{InRange, keys_of}
use Rattle.bc_whole.specs.Together.{ref_of}
use Rattle.bc_events.specs.Run.{State}
use Rattle.bc_shares.specs.Shares.{books_of, LeafShare, leaf_share}
use Rattle.bc_machine.specs.Containers.{IsInTree}
use Rattle.bc_machine.specs.World.{World, Origin, IsOrigin, IsCourseOf, replay}

-- of each state of a run, as it is from an opening of its
abbrev pub InCourse : (Origin → State → Type 0) → Type 0
InCourse P = (x : World) (o : Origin) → IsOrigin x o → IsCourseOf o x.log → P o (replay o x.log)

-- of each sector of each leaf of the tree
abbrev pub OfLeaves : (State → (leaf sector : ℕ) → Type 0) → State → Type 0
OfLeaves P st = (k s : ℕ) → IsInTree (st.machine.whole.parts.leaves k).role
    → InRange (st.machine.whole.parts.leaves k) s → P st k s

-- the leaf is the one that the sector's keys are in
abbrev pub LawSlots : Type 0
LawSlots = InCourse (λ o. OfLeaves (λ st k s. (books_of st.machine).index.leaf s ≡ k))

-- what a leaf with its node says of a sector
abbrev pub said_by : LeafShare → ℕ → Option Ref
said_by x s = ref_said (last_said (keys_of x.leaf.pending ++ set_keys x.node.sets) s)

abbrev pub LawKeys : Type 0
LawKeys = InCourse (λ o. OfLeaves (λ st k s. said_by (leaf_share st.machine.whole.parts k) s
    ≡ ref_of (latest (books_of st.machine).index s)))

-- a version is another one of its bucket, or the same, and not long past
pub record IsNear (now then_ : ℕ) : Type 0 where
  pub past : then_ ≤ now
  pub near : now ≤ then_ + 96

abbrev pub LawAges : Type 0
LawAges = InCourse (λ o st. (s : ℕ) (r : Pointer) → latest (books_of st.machine).index s ≡ Some r
    → IsNear ((books_of st.machine).generations.version (o.opening.machine.flow.books.bucket r.place))
    r.version)

-- A dirty pointer is of the present use of its bucket; and where one is, the bucket is one of the
-- device's.
pub record IsOfBucket (o : Origin) (st : State) (r : Pointer) : Type 0 where
  pub dirty : r.kind ≡ Dirty
      → (books_of st.machine).generations.version (o.opening.machine.flow.books.bucket r.place)
      ≡ r.version
  pub inside : (books_of st.machine).generations.version (o.opening.machine.flow.books.bucket r.place)
      ≡ r.version → o.opening.machine.flow.books.bucket r.place < o.opening.machine.layout.buckets

abbrev pub LawLive : Type 0
LawLive = InCourse (λ o st. (s : ℕ) (r : Pointer) → latest (books_of st.machine).index s ≡ Some r
    → IsOfBucket o st r)
