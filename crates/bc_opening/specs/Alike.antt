-- Two openings of one pair by the same choices say the same of all that a run asks of them.
use Rattle.std.specs.Prelude.{◌≡◌, ℕ}
use Rattle.bc_disk.specs.declared.geometry.Geometry.{Geometry}
use Rattle.bc_books.specs.Books.{Setup}
use Rattle.bc_data.specs.Data as flow
use Rattle.bc_meta.specs.Facts.{In}
use Rattle.bc_meta.specs.Layout.{Layout}
use Rattle.bc_meta.specs.Laws as meta
use Rattle.bc_leaves.specs.Parts as parts
use Rattle.bc_image.specs.Reading.{Reading}
use Rattle.bc_image.specs.Tree.{Node}
use Rattle.bc_facts.specs.Seen.{bucket_of}
use Rattle.bc_remains.specs.Opens.{AreAlike}
use Rattle.bc_whole.specs.State.{Opening}

pub record SameBooks (a b : Setup) : Type 0 where
  pub bucket : (place : ℕ) → a.bucket place ≡ b.bucket place
  pub size : a.size ≡ b.size
  pub sets : a.sets ≡ b.sets
  pub fixed : (q : ℕ) → a.fixed q ≡ b.fixed q
  pub index : (s : ℕ) → a.index s ≡ b.index s
  pub leaf : (s : ℕ) → a.leaf s ≡ b.leaf s
  pub version : (q : ℕ) → a.version q ≡ b.version q
  pub last_gc : (q : ℕ) → a.last_gc q ≡ b.last_gc q
  pub mark : (q : ℕ) → a.mark q ≡ b.mark q
  pub listed : (q : ℕ) → a.listed q ≡ b.listed q
  pub node : (q : ℕ) → a.node q ≡ b.node q
  pub chain : (q : ℕ) → a.chain q ≡ b.chain q

pub record SameDevices (a b : flow.Opening) : Type 0 where
  pub plain : a.plain ≡ b.plain
  pub cache : a.cache ≡ b.cache
  pub backing : (s : ℕ) → a.backing s ≡ b.backing s
  pub image : (s : ℕ) → a.image s ≡ b.image s

-- of the entries, and of the keys under them, they say the same
pub record SameStore (layout : Layout) (a b : meta.Opening) : Type 0 where
  pub image : a.image ≡ b.image
  pub alike : AreAlike layout a b
  pub gens : a.gens ≡ b.gens
  pub unused : (q : ℕ) → a.unused q ≡ b.unused q
  pub spare : a.spare ≡ b.spare

-- they hold the same nodes, and of each node of the tree the same sets
pub record SameParts (g : Geometry) (r : Reading) (x y : parts.State) : Type 0 where
  pub leaves : (i : ℕ) → x.leaves i ≡ y.leaves i
  pub inner_nodes : (i : ℕ) → x.inner_nodes i ≡ y.inner_nodes i
  pub end : x.end ≡ y.end
  pub change : x.change ≡ y.change
  pub sent : (q : ℕ) → x.sent q ≡ y.sent q
  pub nodes : (n : Node) → In n r.nodes
      → x.records.nodes (bucket_of g n.key) ≡ y.records.nodes (bucket_of g n.key)

pub record AreSame (g : Geometry) (r : Reading) (layout : Layout) (a : Opening) (x : parts.State)
    (b : Opening) (y : parts.State) : Type 0 where
  pub layout_is : a.layout ≡ b.layout
  pub before : a.before ≡ b.before
  pub devices : SameDevices a.flow b.flow
  pub books : SameBooks a.flow.books b.flow.books
  pub store : SameStore layout a.store b.store
  pub parts : SameParts g r x y
