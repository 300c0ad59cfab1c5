-- What the machines have in common: they write one device, seal one entry, and mean the same by
-- keys, chains and generations.
use Rattle.std.specs.Prelude.{◌≡◌, ◌⊎◌, ℕ, Bool, true, false, List, [], ◌++◌, Option}
use Rattle.bc_key.specs.declared.key.Key.{Key}
use Rattle.bc_disk.specs.Device.{Content}
use Rattle.bc_books.specs.Index.{Index}
use Rattle.bc_books.specs.Shelves.{Tree, Shelf, Held}
use Rattle.bc_books.specs.Chains.{Chains}
use Rattle.bc_books.specs.Books.{Journal}
use Rattle.bc_data.specs.Data as flow
use Rattle.bc_meta.specs.Keys.{last_ref}
use Rattle.bc_meta.specs.Records.{Stage, Nothing, Fixed, Ready, Sent, Safe}
use Rattle.bc_meta.specs.Acts as meta
use Rattle.bc_whole.specs.Together.{ref_of, gen_from}

-- what the records have that the data and its books have too
pub record Stored : Type 0 where
  pub device : Content
  pub stage : Stage
  -- the keys since the sealed entry, those of the sealed entry, and all that are durable
  pub waiting : List Key
  pub sealed : List Key
  pub index : List Key
  pub unused : ℕ → Bool
  -- the chain of each bucket, the generations that each chain says, and the chains that were made
  -- ready last, that are durable, and that are sealed
  pub chain_of : ℕ → Option ℕ
  pub gens : ℕ → ℕ → ℕ
  pub ready_chain : ℕ
  pub durable_chain : ℕ
  pub sealed_chain : ℕ

abbrev pub stored : ℕ → meta.State → Stored
stored before m = record {
  device = m.places.device;
  stage = m.places.records.stage;
  waiting = m.places.records.waiting;
  sealed = m.places.records.entry.keys;
  index = m.places.records.index;
  unused = m.places.records.unused;
  chain_of = m.chain_of;
  gens = λ n. gen_from before (m.gens n);
  ready_chain = m.ready_chain;
  durable_chain = m.durable_chain;
  sealed_chain = m.sealed_chain;
}

abbrev pub stage_of : flow.Stage → Stage
stage_of flow.Nothing = Nothing
stage_of flow.Fixed = Fixed
stage_of flow.Ready = Ready
stage_of flow.Sent = Sent
stage_of flow.Safe = Safe

-- the keys of an entry that waits to be durable
abbrev pub if_sealed : Stage → List Key → List Key
if_sealed Nothing keys = []
if_sealed Fixed keys = keys
if_sealed Ready keys = keys
if_sealed Sent keys = keys
if_sealed Safe keys = keys

-- the keys say where each sector points after the first n insertions
abbrev pub SayIndex : List Key → Index → ℕ → Type 0
SayIndex keys x n = (s : ℕ) → last_ref keys s ≡ ref_of (x.at n s)

-- what is durable, with what is sealed, and with what waits
pub record HaveOneIndex (stage : Stage) (waiting sealed durable : List Key) (x : Index)
    (journal : Journal) : Type 0 where
  pub durable_keys : SayIndex durable x journal.durable
  pub sealed_keys : SayIndex (if_sealed stage sealed ++ durable) x journal.sealed
  pub all_keys : SayIndex (waiting ++ (if_sealed stage sealed ++ durable)) x x.count

-- the durable and the sealed chain say the durable and the sealed generations
pub record HaveOneChain (chain_of : ℕ → Option ℕ) (gens : ℕ → ℕ → ℕ) (ready durable sealed : ℕ)
    (x : Chains) (durable_version sealed_version : ℕ → ℕ) : Type 0 where
  pub buckets : (b : ℕ) → chain_of b ≡ x.of b
  pub ready_is : ready ≡ x.ready
  pub durable_is : durable ≡ x.durable
  pub sealed_is : sealed ≡ x.sealed
  pub durable_gens : (b : ℕ) → gens durable b ≡ durable_version b
  pub sealed_gens : (b : ℕ) → gens sealed b ≡ sealed_version b

-- where a crash may find a node, the books know of one
abbrev pub KnowNodes : (unused : ℕ → Bool) → (node : ℕ → Bool) → (ℕ → Shelf) → Type 0
KnowNodes unused node shelf = (q : ℕ) → unused q ≡ false
    → (node q ≡ true) ⊎ ((i : ℕ) × (shelf q ≡ Held i Tree))

pub record AreLinked (r : Stored) (f : flow.State) : Type 0 where
  pub device : f.cache ≡ r.device
  pub stage : stage_of f.stage ≡ r.stage
  pub index : HaveOneIndex r.stage r.waiting r.sealed r.index f.books.index f.books.journal
  pub chain : HaveOneChain r.chain_of r.gens r.ready_chain r.durable_chain r.sealed_chain
      f.books.chains f.books.generations.durable f.books.generations.sealed
  pub nodes : KnowNodes r.unused f.books.node f.books.shelf
