-- What an example of a run has to show, so that the laws speak of something.
use Rattle.std.specs.Prelude.{◌≡◌, ◌≢◌, ℕ, ◌<◌, true, List, [], ◌∷◌, length, Some, None}
use Rattle.bc_model.specs.Sector.{Value, Image}
use Rattle.bc_disk.specs.Device.{written, MayLeave}
use Rattle.bc_meta.specs.Facts.{In}
use Rattle.bc_meta.specs.Entries.{Entry, AreEntries}
use Rattle.bc_meta.specs.Tree.{NodeSet, Owner, Walk, Whole}
use Rattle.bc_meta.specs.Layout.{Layout, node_end, ring_entries, node_sets}
use Rattle.bc_meta.specs.Chain.{chain_in}
use Rattle.bc_meta.specs.Events.{Barrier}
use Rattle.bc_meta.specs.Records.{owners, MayRead, Fixed}
use Rattle.bc_meta.specs.Places.{NoChance, CanEnter, IsFirstWrite}
use Rattle.bc_meta.specs.Acts.{State, Made, Act, Plain, WriteNode, IsEnabled, IsRun, fold}
use Rattle.bc_meta.specs.Laws.{Opening, IsSound, opened, reached}

-- The run makes another chain durable and the old one ready, and writes a set in a bucket of the
-- old one; it makes a new node the root, adds a set to it, and a key to the index.
pub record IsExample (w : Layout) (o : Opening) (acts : List Act) : Type 0 where
  pub sound : IsSound w o
  pub run : IsRun w (opened w o) acts
  pub chance : NoChance w o.image (reached w o acts).places
  pub durable : (reached w o acts).durable_chain ≡ 1
  pub ready : (reached w o acts).ready_chain ≡ 1
  pub other : (reached w o acts).gens 1 ≢ o.gens
  pub again : (q : ℕ) × In q o.chain × ((m : Made) × ((reached w o acts).made q ≡ Some m))
  pub root : (reached w o acts).places.records.newest.root ≢ o.newest.root
  -- behind the new root's first set one of its seq stood at the opening
  pub leftover :
      let p = (reached w o acts).places in
      let q = p.records.newest.root in
      (at : ℕ) × (w.begins (p.records.nodes q).owner < at) × ((e : NodeSet)
      × (w.sets.found o.image (p.records.nodes q).owner (node_end w (p.records.nodes q).owner) at
      ≡ Some e) × (e.seq ≡ p.seq q))
  pub added : ((reached w o acts).places.records.nodes (reached w o acts).places.records.newest.root).sent ≡ true
  pub key : length (reached w o acts).places.records.index ≡ 1

abbrev pub HasExample : Type 0
HasExample = (w : Layout) × (o : Opening) × ((acts : List Act) × IsExample w o acts)

-- ---- rules that are needed

-- An entry was sealed, and no barrier stands behind it. Written now, it is what a crash finds, while its tree isn't whole.
pub record IsTooEarly (w : Layout) (o : Opening) (acts : List Act) (values : List Value) (image : Image) : Type 0 where
  pub sound : IsSound w o
  pub run : IsRun w (opened w o) acts
  pub fixed : (reached w o acts).places.records.stage ≡ Fixed
  pub enter : CanEnter w (reached w o acts).places values
  pub left :
      let p = (reached w o acts).places in
      MayLeave (written (p.ring_next p.records.bucket) values p.device) image
  pub older : List Entry
  pub found : AreEntries (ring_entries w image w.journal) (reached w o acts).places.records.entry older
  pub lost :
      let r = (reached w o acts).places.records in
      Walk Whole (node_sets w (owners r.nodes) image) r.entry.level r.entry.root → ⊥

abbrev pub NeedsBarrier : Type 0
NeedsBarrier = (w : Layout) × (o : Opening) × (acts : List Act) × (values : List Value) × ((image : Image) × IsTooEarly w o acts values image)

-- A new chain is sealed, and the old one isn't given up. A bucket of the old one written now, a crash finds an entry whose chain doesn't read.
pub record IsReusedEarly (w : Layout) (o : Opening) (acts : List Act) (q : ℕ) (values : List Value) (image : Image) : Type 0 where
  pub sound : IsSound w o
  pub run : IsRun w (opened w o) acts
  pub sealed : (reached w o acts).sealed_chain ≡ 1
  pub old : In q o.chain
  pub left : MayLeave (written (w.first q) values (reached w o acts).places.device) image
  pub newest : Entry
  pub older : List Entry
  pub found : AreEntries (ring_entries w image w.journal) newest older
  pub lost : chain_in w image newest.prio ≡ None

abbrev pub NeedsReady : Type 0
NeedsReady = (w : Layout) × (o : Opening) × (acts : List Act) × (q : ℕ) × (values : List Value) × ((image : Image) × IsReusedEarly w o acts q values image)

-- A node's first set is written as it may be, but for the zeros behind it; then a barrier stands.
-- Though no torn record matches by chance, the node reads as what it may not: a set that was left
-- there counts.
pub record IsLeftover (w : Layout) (o : Opening) (acts : List Act) (seat q : ℕ) (owner : Owner) (set : NodeSet) (image : Image) : Type 0 where
  pub values : List Value
  pub first : IsFirstWrite w owner set values
  pub sound : IsSound w o
  pub run : IsRun w (opened w o) acts
  pub allowed : IsEnabled w (reached w o acts) (WriteNode seat q owner set values)
  pub last : State
  pub last_is : last ≡ fold w (reached w o acts) (WriteNode seat q owner set first.front ∷ Plain Barrier ∷ [])
  pub chance : NoChance w o.image last.places
  pub left : MayLeave last.places.device image
  pub wrong : MayRead last.places.records.nodes (node_sets w (owners last.places.records.nodes) image) → ⊥

abbrev pub NeedsZeros : Type 0
NeedsZeros = (w : Layout) × (o : Opening) × (acts : List Act) × (seat : ℕ) × (q : ℕ) × (owner : Owner)
    × (set : NodeSet) × ((image : Image) × IsLeftover w o acts seat q owner set image)
