-- What the machine sees of a reading: generations as versions, last keys as pointers, nodes as
-- leaves and inner nodes. It counts buckets from the journal's first one on.
use Rattle.std.specs.Prelude.{◌⊎◌, ℕ, zero, suc, ◌+◌, ◌-◌, ◌<◌, ◌≤◌}
use Rattle.std.specs.Prelude.{Bool, true, false, List, [], map, Option, Some, None}
use Rattle.bc_disk.specs.Gens.{Gens}
use Rattle.bc_disk.specs.declared.geometry.Geometry.{Geometry}
use Rattle.bc_key.specs.declared.key.Key.{Key}
use Rattle.bc_key.specs.declared.ptr.Ptr.{Ptr}
use Rattle.bc_key.specs.Generation.{behind}
use Rattle.bc_key.specs.Key.{place_by, pointer_of, start_of}
use Rattle.bc_record.specs.Places.{bucket_at}
use Rattle.bc_books.specs.Index.{Clean, Dirty, Kind, Pointer}
use Rattle.bc_leaves.specs.Parts.{Free, InnerNode, Leaf, NoNode, Pending}
use Rattle.bc_image.specs.Reading.{Reading}
use Rattle.bc_image.specs.Tree.{Node}
use Rattle.bc_image.specs.Uses.{Uuid, IsUsedFor}
use Rattle.bc_facts.specs.Reads.{back}
use Rattle.bc_facts.specs.Seen.{bucket_of, counted, word_of}
use Rattle.bc_whole.specs.Together.{gen_from}

-- ---- generations

-- Each bucket's generation counts on for ever, from 256 above the byte that the chain has: so that
-- a key that lies behind its bucket has a version too.
abbrev pub versions : Gens → List ℕ
versions gens = map (λ x. x.generation + 256) gens.records

abbrev pub version_at : Geometry → Gens → ℕ → ℕ
version_at g gens q = gen_from g.first_bucket (versions gens) q

-- the greatest version that is at most a bucket's own and has this byte
abbrev pub version_by : ℕ → ℕ → ℕ
version_by own byte = own - behind own byte

-- the bucket into which a pointer points, and the version that it has
abbrev pub bucket_by : Geometry → Ptr → ℕ
bucket_by g ptr = counted g (bucket_at g ptr.offset)

abbrev pub version_of : Geometry → Gens → Ptr → ℕ
version_of g gens ptr = version_by (version_at g gens (bucket_by g ptr)) ptr.generation

-- ---- the index

abbrev pub kind_of : Bool → Kind
kind_of true = Dirty
kind_of false = Clean

-- where a sector's data lies by its key's pointer
abbrev pub pointed : Geometry → Gens → Key → ℕ → Option Ptr → Option Pointer
pointed g gens key s None = None
pointed g gens key s (Some ptr) = Some (record {
  kind = kind_of key.dirty;
  place = place_by ptr (start_of key) s;
  version = version_of g gens ptr;
})

-- by its last key
abbrev pub pointer_by : Geometry → Gens → Option Key → ℕ → Option Pointer
pointer_by g gens None s = None
pointer_by g gens (Some key) s = pointed g gens key s (pointer_of key)

-- ---- buckets

-- nobody ever takes or raises it: a bucket of the journal, that of the uuid table, and what is no
-- bucket of the device
abbrev pub IsFixed : Geometry → Reading → ℕ → Type 0
IsFixed g r q = (q < g.journal) ⊎ IsUsedFor g r Uuid (back g q) ⊎ (g.nbuckets ≤ back g q)

-- ---- nodes

abbrev pub is_leaf : ℕ → Bool
is_leaf zero = true
is_leaf (suc level) = false

abbrev pub no_leaf : Leaf
no_leaf = record {
  first = 0;
  end = 0;
  bucket = 0;
  word = 0;
  role = NoNode;
  loaded = false;
  pending = [];
}

-- a slot with a node that was read
abbrev pub leaf_of : Geometry → Option Node → List Pending → Leaf
leaf_of g None pending = no_leaf
leaf_of g (Some n) pending = record {
  first = n.from;
  end = n.key.end;
  bucket = bucket_of g n.key;
  word = word_of n.key;
  role = Free;
  loaded = true;
  pending = pending;
}

abbrev pub no_inner : InnerNode
no_inner = record {
  first = 0;
  end = 0;
  bucket = 0;
  word = 0;
  height = 0;
  role = NoNode;
  loaded = false;
}

-- how many levels of inner nodes lie below one
abbrev pub height_of : ℕ → ℕ
height_of zero = zero
height_of (suc level) = level

abbrev pub inner_of : Geometry → Option Node → InnerNode
inner_of g None = no_inner
inner_of g (Some n) = record {
  first = n.from;
  end = n.key.end;
  bucket = bucket_of g n.key;
  word = word_of n.key;
  height = height_of n.level;
  role = Free;
  loaded = true;
}
