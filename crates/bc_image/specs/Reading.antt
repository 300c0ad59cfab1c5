-- What a reader finds on a cache device.
use Rattle.std.specs.Prelude.{◌≡◌, ℕ, List, ◌++◌, Option}
use Rattle.std.specs.List.{flat_map}
use Rattle.bc_disk.specs.Gens.{Gens}
use Rattle.bc_disk.specs.declared.geometry.Geometry.{Geometry}
use Rattle.bc_model.specs.Sector.{Image}
use Rattle.bc_extent.specs.LastKey.{last_key}
use Rattle.bc_jset.specs.Entries.{FoundEntry, AreEntries}
use Rattle.bc_key.specs.declared.key.Key.{Key}
use Rattle.bc_prio.specs.Records.{ChainIn}
use Rattle.bc_super.specs.Division.{IsGeometryOf}
use Rattle.bc_super.specs.declared.backing.BackingSuper.{BackingSuper}
use Rattle.bc_super.specs.declared.cache.CacheSuper.{CacheSuper}
use Rattle.bc_image.specs.Pair.{Pair, HasBacking, HasCache}
use Rattle.bc_image.specs.Tree.{Node, IsWalk, tree_keys}

pub record Reading : Type 0 where
  -- the entries of the journal, oldest first, and the newest of them
  pub entries : List FoundEntry
  pub newest : FoundEntry
  -- the generations that it names
  pub gens : Gens
  -- the nodes below the root that it names
  pub nodes : List Node

pub record IsReading (g : Geometry) (image : Image) (r : Reading) : Type 0 where
  pub entries : AreEntries g image r.entries
  pub newest : entries.newest ≡ r.newest
  pub gens : ChainIn g image r.newest.item.prio r.gens
  pub nodes : IsWalk g image r.newest.item.level 0 r.newest.item.root r.nodes

-- all keys, the oldest first: those of the tree, and behind them those of the entries, which may not be in it yet
abbrev pub keys_of : Reading → List Key
keys_of r = tree_keys r.nodes ++ flat_map (λ e. e.item.keys) r.entries

-- which key a sector has
abbrev pub key_of : Reading → ℕ → Option Key
key_of r sector = last_key (keys_of r) sector

-- ---- of a pair

pub record View : Type 0 where
  pub backing : BackingSuper
  pub cache : CacheSuper
  pub geometry : Geometry
  pub reading : Reading

pub record IsView (p : Pair) (v : View) : Type 0 where
  pub backing : HasBacking p v.backing
  pub cache : HasCache p v.cache
  pub geometry : IsGeometryOf v.cache v.geometry
  pub reading : IsReading v.geometry p.cache v.reading
