-- What each crash image of a run reads as.
use Rattle.std.specs.Prelude.{◌≡◌, ◌⊎◌, ℕ, ◌+◌, ◌<◌, ◌≤◌, Bool, true, false, List, ◌∷◌, ◌++◌, length, Option, Some, None}
use Rattle.bc_model.specs.Sector.{Value, Image}
use Rattle.bc_model.specs.Pattern.{zeros}
use Rattle.bc_disk.specs.Device.{MayLeave}
use Rattle.bc_key.specs.declared.key.Key.{Key}
use Rattle.bc_meta.specs.Keys.{Alike}
use Rattle.bc_meta.specs.Facts.{In}
use Rattle.bc_meta.specs.Entries.{Entry, live}
use Rattle.bc_meta.specs.Tree.{Owner, Keeps, IsNamed}
use Rattle.bc_meta.specs.Layout.{Layout, node_end, set_len, node_sets, image_keys}
use Rattle.bc_meta.specs.Chain.{Chain, chain_in, IsChain, bytes_of, Distinct, EachOf}
use Rattle.bc_meta.specs.Events.{Event}
use Rattle.bc_meta.specs.Records.{owners, MayStand, MayRead, IsReady}
use Rattle.bc_meta.specs.Places.{Places, call_of, writes, IsSoundImage, opened_places, IsSure, NoTornSet, NoChance}
use Rattle.bc_meta.specs.Acts.{State, Act, event_of, put_all, IsEnabled, IsRun, fold}

-- what a cache device is opened with
pub record Opening : Type 0 where
  pub image : Image
  -- what each node is read with
  pub owners : ℕ → Owner
  pub newest : Entry
  pub older : List Entry
  -- the entries in each journal bucket before the place that a next one gets, that place, and the
  -- bucket that is written to
  pub ring : ℕ → List Entry
  pub ring_next : ℕ → ℕ
  pub bucket : ℕ
  pub unused : ℕ → Bool
  -- the buckets of the chain, the generations that it means, and the buckets that are kept for
  -- chains
  pub chain : List ℕ
  pub gens : List ℕ
  pub spare : List ℕ

pub record IsSound (w : Layout) (o : Opening) : Type 0 where
  pub whole : IsSoundImage w o.owners o.image o.newest o.older o.ring o.ring_next o.bucket
  -- what is unused has no node of the tree, and what is no bucket behind the journal's is unused
  pub keeps : Keeps o.unused (node_sets w o.owners o.image) o.newest.level o.newest.root
  pub outside : (q : ℕ) → (q < w.journal) ⊎ (w.buckets ≤ q) → o.unused q ≡ true
  pub named : IsNamed o.owners (node_sets w o.owners o.image) o.newest.level o.newest.root o.newest.word
  pub chain : chain_in w o.image o.newest.prio ≡ Some (record { buckets = o.chain; gens = bytes_of o.gens })
  pub distinct : Distinct o.chain
  pub free : EachOf (λ q. o.unused q ≡ true) o.chain
  -- as many buckets as a chain has are spare
  pub spare : EachOf (λ q. (o.unused q ≡ true) × (In q o.chain → ⊥) × (w.journal ≤ q) × (q < w.buckets)) o.spare
  pub spare_distinct : Distinct o.spare
  pub spare_count : length o.spare ≡ w.chain_sets

abbrev pub opened : Layout → Opening → State
opened w o =
    record {
      places = opened_places w o.owners o.image o.newest o.older o.ring o.ring_next o.bucket o.unused;
      holder = λ q. None;
      made = λ q. None;
      chain_of = put_all (λ q. None) o.chain (Some 0);
      ready_chain = 0;
      durable_chain = 0;
      sealed_chain = 0;
      buckets = λ n. o.chain;
      gens = λ n. o.gens;
      spare = o.spare;
    }

-- the state that a run from an opening leads to
abbrev pub reached : Layout → Opening → List Act → State
reached w o acts = fold w (opened w o) acts

-- What is read of the records: these entries, each of which is in its place, the tree below the
-- newest one's root, and with both the index.
pub record Again (w : Layout) (p : Places) (image : Image) (newest : Entry) (older : List Entry) (index : List Key) : Type 0 where
  pub ring : ℕ → List Entry
  pub ring_next : ℕ → ℕ
  pub whole : IsSoundImage w (owners p.records.nodes) image newest older ring ring_next p.records.bucket
  pub keeps : Keeps p.records.unused (node_sets w (owners p.records.nodes) image) newest.level newest.root
  pub low : (q : ℕ) → (q < w.journal) ⊎ (w.buckets ≤ q) → p.records.unused q ≡ true
  pub named : IsNamed (owners p.records.nodes) (node_sets w (owners p.records.nodes) image) newest.level newest.root newest.word
  pub same : Alike (image_keys w (owners p.records.nodes) image newest older) index

-- The image is a sound opening again, with these entries, what the index says, and the chain of
-- this number.
pub record Finds (w : Layout) (st : State) (image : Image) (newest : Entry) (older : List Entry) (index : List Key) (n : ℕ) : Type 0 where
  pub again : Again w st.places image newest older index
  pub chain : chain_in w image newest.prio ≡ Some (record { buckets = st.buckets n; gens = bytes_of (st.gens n) })
  pub opening : Opening
  pub sound : IsSound w opening
  pub image_is : opening.image ≡ image
  pub owners_are : opening.owners ≡ owners st.places.records.nodes
  pub entries_are : (opening.newest ≡ newest) × (opening.older ≡ older)
  pub unused_is : opening.unused ≡ st.places.records.unused
  pub chain_is : (opening.chain ≡ st.buckets n) × (opening.gens ≡ st.gens n)
  -- its chain's and its spare buckets are in a chain, or kept for one
  pub kept : (q : ℕ) → In q opening.chain ⊎ In q opening.spare → ((m : ℕ) × (st.chain_of q ≡ Some m)) ⊎ In q st.spare

-- Each node reads as one of its contents, and all is read as the durable entry meant it, or as the
-- sealed one.
pub record Survives (w : Layout) (st : State) (image : Image) : Type 0 where
  pub nodes : MayRead st.places.records.nodes (node_sets w (owners st.places.records.nodes) image)
  pub finds :
      let r = st.places.records in
      Finds w st image r.newest r.older r.index st.durable_chain
      ⊎ (IsReady r.stage
      × Finds w st image r.entry (live r.entry.last_seq (r.newest ∷ r.older)) (r.entry.keys ++ r.index) st.sealed_chain)

abbrev pub LawCrash : Type 0
LawCrash =
    (w : Layout) (o : Opening) (acts : List Act) → IsSound w o → IsRun w (opened w o) acts
    → NoChance w o.image (reached w o acts).places
    → (image : Image) → MayLeave (reached w o acts).places.device image → Survives w (reached w o acts) image

-- so each crash image is a sound opening again, and what a next run leaves is sound too
abbrev pub LawNext : Type 0
LawNext =
    (w : Layout) (o : Opening) (acts : List Act) → IsSound w o → IsRun w (opened w o) acts
    → NoChance w o.image (reached w o acts).places
    → (image : Image) → MayLeave (reached w o acts).places.device image
    → (next : Opening) × (next.image ≡ image) × IsSound w next

-- Whatever stood there before, and without the premise: behind the sets of a node that the run wrote,
-- and behind one that may stand there, a crash leaves zeros alone.
abbrev pub LawZeros : Type 0
LawZeros =
    (w : Layout) (o : Opening) (acts : List Act) → IsSound w o → IsRun w (opened w o) acts
    → let p = (reached w o acts).places in
    (image : Image) → MayLeave p.device image → (q s : ℕ) → let n = p.records.nodes q in
    p.own q ≡ true → n.loose ≡ false → p.node_next q ≤ s → s < node_end w n.owner
    → (MayStand n → p.node_next q + set_len w n.last ≤ s) → image s ≡ zeros

-- The premise on sets is one on torn ones alone: where a crash can leave one value only in each
-- sector, it holds by itself.
abbrev pub LawOnlyTorn : Type 0
LawOnlyTorn = (w : Layout) (p : Places) → ((s : ℕ) → IsSure p.device s) → NoTornSet w p

abbrev pub act_writes : Layout → State → Option Event → ℕ → Option Value
act_writes w st None s = None
act_writes w st (Some event) s = writes (call_of w st.places event) s

-- no bucket of a chain is written from its seal on until it is given up
abbrev pub LawUntouched : Type 0
LawUntouched =
    (w : Layout) (o : Opening) (acts : List Act) → IsSound w o → IsRun w (opened w o) acts
    → let st = reached w o acts in
    (n : ℕ) → st.ready_chain ≤ n → n ≤ st.sealed_chain → (act : Act) → IsEnabled w st act
    → (q s : ℕ) → In q (st.buckets n) → w.first q ≤ s → s < w.first q + w.bucket_sectors
    → act_writes w st (event_of w act) s ≡ None

abbrev pub LawChain : Type 0
LawChain = (w : Layout) (image : Image) (first : ℕ) (chain : Chain)
    → (chain_in w image first ≡ Some chain → IsChain w image first chain)
    × (IsChain w image first chain → chain_in w image first ≡ Some chain)
