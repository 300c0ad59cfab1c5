-- An opening of the machine that is what was read of a pair, by what was chosen.
use Rattle.std.specs.Prelude.{◌≡◌, ◌↔◌, ℕ, ◌+◌, ◌^◌, true, false, []}
use Rattle.bc_disk.specs.declared.geometry.Geometry.{Geometry}
use Rattle.bc_disk.specs.Chain.{sets_in_chain}
use Rattle.bc_record.specs.Places.{bucket_at}
use Rattle.bc_super.specs.Super.{data_sectors}
use Rattle.bc_books.specs.Books.{Setup}
use Rattle.bc_data.specs.Data as flow
use Rattle.bc_meta.specs.Facts.{In}
use Rattle.bc_meta.specs.Layout.{Layout}
use Rattle.bc_meta.specs.Laws as meta
use Rattle.bc_meta.specs.Tree.{Owner}
use Rattle.bc_leaves.specs.Parts.{NoChange}
use Rattle.bc_leaves.specs.Parts as parts
use Rattle.bc_image.specs.Pair.{Pair}
use Rattle.bc_image.specs.Reading.{IsView, Reading, View, key_of}
use Rattle.bc_image.specs.Shown.{shown_by}
use Rattle.bc_image.specs.Sound.{HasSoundParts}
use Rattle.bc_image.specs.Tree as tree
use Rattle.bc_image.specs.Uses.{Priority, Node, IsUsedFor}
use Rattle.bc_facts.specs.Layout.{IsLayoutOf}
use Rattle.bc_facts.specs.Reads.{back}
use Rattle.bc_facts.specs.Seen.{bucket_of, counted, word_of}
use Rattle.bc_remains.specs.Opens.{Opens}
use Rattle.bc_whole.specs.State.{Opening}
use Rattle.bc_known.specs.Laws.{IsSound}
use Rattle.bc_opening.specs.Read.{IsFixed, inner_of, is_leaf}
use Rattle.bc_opening.specs.Read.{leaf_of, pointer_by, version_at, versions}
use Rattle.bc_opening.specs.Choices.{Choices}

-- the books of its buckets and last keys
pub record AreBooksOf (g : Geometry) (size : ℕ) (r : Reading) (c : Choices)
    (b : Setup) : Type 0 where
  pub bucket : (place : ℕ) → b.bucket place ≡ counted g (bucket_at g place)
  pub size_is : b.size ≡ size
  pub sets : b.sets ≡ sets_in_chain g
  pub fixed : (q : ℕ) → (b.fixed q ≡ true) ↔ IsFixed g r q
  pub node : (q : ℕ) → (b.node q ≡ true) ↔ IsUsedFor g r Node (back g q)
  pub chain : (q : ℕ) → (b.chain q ≡ true) ↔ IsUsedFor g r Priority (back g q)
  pub index : (s : ℕ) → b.index s ≡ pointer_by g r.gens (key_of r s) s
  pub version : (q : ℕ) → b.version q ≡ version_at g r.gens q
  -- as it was chosen
  pub leaf : (s : ℕ) → b.leaf s ≡ c.slot s
  pub last_gc : (q : ℕ) → b.last_gc q ≡ c.last_gc q
  pub mark : (q : ℕ) → b.mark q ≡ c.mark q
  pub listed : (q : ℕ) → b.listed q ≡ c.listed q

-- the data of both devices: the cache device runs from its first sector, the backing device from
-- where its data begins
pub record IsDataOf (p : Pair) (v : View) (d : flow.Opening) : Type 0 where
  pub plain : d.plain ≡ false
  pub cache : d.cache ≡ p.cache
  pub backing : (s : ℕ) → d.backing s ≡ p.backing (v.backing.data_offset + s)
  pub image : (s : ℕ) → d.image s ≡ shown_by p v s

-- how a node is read: by the word of the pointer to it, as a leaf or as an inner node
abbrev pub owner_of : tree.Node → Owner
owner_of n = record { word = word_of n.key; leaf = is_leaf n.level }

-- the metadata of the cache device
pub record IsStoreOf (p : Pair) (r : Reading) (g : Geometry) (layout : Layout) (c : Choices)
    (o : meta.Opening) : Type 0 where
  pub image : o.image ≡ p.cache
  -- entries, keys and chain are those that were read, and the journal goes on behind the last entry
  pub opens : Opens g layout r o
  pub gens : o.gens ≡ versions r.gens
  pub owners : (n : tree.Node) → In n r.nodes → o.owners (bucket_of g n.key) ≡ owner_of n
  pub unused : (q : ℕ) → (o.unused q ≡ true) ↔ (IsUsedFor g r Node (back g q) → ⊥)
  pub spare : o.spare ≡ c.kept

-- what a program holds of it
pub record ArePartsOf (g : Geometry) (c : Choices) (x : parts.State) : Type 0 where
  pub leaves : (i : ℕ) → x.leaves i ≡ leaf_of g (c.leaf i) (c.pending i)
  pub inner_nodes : (i : ℕ) → x.inner_nodes i ≡ inner_of g (c.inner i)
  pub end : x.end ≡ 2 ^ 40
  pub change : x.change ≡ NoChange
  pub sent : (q : ℕ) → x.sent q ≡ []

pub record IsOpeningOf (p : Pair) (v : View) (layout : Layout) (c : Choices) (w : Opening)
    (x : parts.State) : Type 0 where
  pub layout_is : w.layout ≡ layout
  pub before : w.before ≡ v.geometry.first_bucket
  pub devices : IsDataOf p v w.flow
  pub books : AreBooksOf v.geometry (data_sectors p.backing_sectors v.backing) v.reading c
      w.flow.books
  pub store : IsStoreOf p v.reading v.geometry layout c w.store
  pub parts : ArePartsOf v.geometry c x
  pub records : x.records ≡ (meta.opened layout w.store).places.records

-- a sound pair with a cache, opened
pub record IsOpenedAs (p : Pair) (v : View) (layout : Layout) (c : Choices) (w : Opening)
    (x : parts.State) : Type 0 where
  pub view : IsView p v
  pub parts : HasSoundParts p v
  pub is_layout : IsLayoutOf v.geometry layout
  pub opening : IsOpeningOf p v layout c w x
  pub sound : IsSound w x
