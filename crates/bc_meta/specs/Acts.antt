-- The whole machine: the records at their places, who holds a bucket, and the chains that entries
-- name.
use Rattle.std.specs.Prelude.{◌≡◌, ◌≢◌, ◌⊎◌, ℕ, suc, ◌<◌, ◌≤◌, Bool, true, false, List, [], ◌∷◌, ◌++◌, length, Option, Some, None, if◌then◌else◌, ◌==◌}
use Rattle.bc_model.specs.Sector.{Value}
use Rattle.bc_meta.specs.Facts.{In}
use Rattle.bc_meta.specs.Entries.{Entry}
use Rattle.bc_meta.specs.Tree.{NodeSet, Owner}
use Rattle.bc_meta.specs.Layout.{PrioSet, Layout}
use Rattle.bc_meta.specs.Chain.{bytes_of, Distinct, EachOf}
use Rattle.bc_meta.specs.Events.{Event, SealEntry, MakeDurable, Reuse, NewNode, Fill, FailFill}
use Rattle.bc_meta.specs.Records.{unused_after, put}
use Rattle.bc_meta.specs.Places.{Places, places_after, CanHappen}

-- a priority set that was written well, and the part that it is
pub record Made : Type 0 where
  pub part : ℕ
  pub set : PrioSet

pub record State : Type 0 where
  pub places : Places
  -- the seat that holds a bucket, and the set that was written there since
  pub holder : ℕ → Option ℕ
  pub made : ℕ → Option Made
  -- Chains are numbered as they are sealed: that of which a bucket is, the one that was made ready
  -- last, the durable one and the sealed one.
  pub chain_of : ℕ → Option ℕ
  pub ready_chain : ℕ
  pub durable_chain : ℕ
  pub sealed_chain : ℕ
  -- each chain's buckets, and the generations that it means, counted on for ever
  pub buckets : ℕ → List ℕ
  pub gens : ℕ → List ℕ
  -- the buckets that are kept for chains since a chain was made ready last
  pub spare : List ℕ

pub data Act : Type 0 where
  -- an event that begins nothing in a bucket, and seals nothing
  Plain : (event : Event) → Act
  Take : (seat bucket : ℕ) → Act
  LetGo : (seat bucket : ℕ) → Act
  -- into a held bucket: a new node's first set, a priority set, or what failed to be one or the
  -- other
  WriteNode : (seat bucket : ℕ) → (owner : Owner) → (set : NodeSet) → (values : List Value) → Act
  WriteSet : (seat bucket part : ℕ) → (set : PrioSet) → (values : List Value) → Act
  FailHeld : (seat bucket at : ℕ) → (values : List Value) → (set : Option NodeSet) → Act
  -- data in a bucket that is no node's and no chain's, written well or not
  WriteData : (bucket at : ℕ) → (values : List Value) → Act
  FailData : (bucket at : ℕ) → (values : List Value) → Act
  -- an entry is sealed that names the chain of the one before, or a new one, and is durable
  Seal : (entry : Entry) → (unused : ℕ → Bool) → Act
  SealChain : (seat : ℕ) → (buckets gens : List ℕ) → (entry : Entry) → (unused : ℕ → Bool) → Act
  Durable : Act
  -- the chain before the durable one is given up, and these buckets are kept for chains from then
  -- on
  ChainReady : (seat : ℕ) → (spare : List ℕ) → Act
  -- other buckets are kept for chains from now on
  KeepSpare : (spare : List ℕ) → Act

-- what an act is to the records
abbrev pub event_of : Layout → Act → Option Event
event_of w (Plain event) = Some event
event_of w (Take seat q) = Some (Reuse q)
event_of w (WriteNode seat q owner set values) = Some (NewNode q owner set values)
event_of w (WriteSet seat q part set values) = Some (Fill q (w.first q) values)
event_of w (FailHeld seat q at values set) = Some (FailFill q at values set)
event_of w (WriteData q at values) = Some (Fill q at values)
event_of w (FailData q at values) = Some (FailFill q at values None)
event_of w (Seal entry unused) = Some (SealEntry entry unused)
event_of w (SealChain seat buckets gens entry unused) = Some (SealEntry entry unused)
event_of w Durable = Some MakeDurable
event_of w act = None

-- ---- what an act leaves

abbrev pub places_with : Layout → Places → Option Event → Places
places_with w p None = p
places_with w p (Some event) = places_after w p event

abbrev pub put_all : {A : Type 0} → (ℕ → A) → List ℕ → A → ℕ → A
put_all f [] x n = f n
put_all f (k ∷ ks) x n = if n == k then x else put_all f ks x n

abbrev pub holder_after : State → Act → ℕ → Option ℕ
holder_after st (Take seat q) = put st.holder q (Some seat)
holder_after st (LetGo seat q) = put st.holder q None
holder_after st (ChainReady seat spare) = put_all st.holder (st.buckets (suc st.ready_chain)) None
holder_after st act = st.holder

abbrev pub made_after : State → Act → ℕ → Option Made
made_after st (Take seat q) = put st.made q None
made_after st (LetGo seat q) = put st.made q None
made_after st (WriteNode seat q owner set values) = put st.made q None
made_after st (WriteSet seat q part set values) = put st.made q (Some (record { part = part; set = set }))
made_after st (FailHeld seat q at values set) = put st.made q None
made_after st (WriteData q at values) = put st.made q None
made_after st (FailData q at values) = put st.made q None
made_after st (ChainReady seat spare) = put_all st.made (st.buckets (suc st.ready_chain)) None
made_after st act = st.made

abbrev pub given_up : ℕ → Option ℕ → Option ℕ
given_up ready None = None
given_up ready (Some n) = if n == ready then None else Some n

abbrev pub chain_of_after : State → Act → ℕ → Option ℕ
chain_of_after st (SealChain seat buckets gens entry unused) = put_all st.chain_of buckets (Some (suc st.sealed_chain))
chain_of_after st (ChainReady seat spare) = λ q. given_up st.ready_chain (st.chain_of q)
chain_of_after st act = st.chain_of

abbrev pub ready_after : State → Act → ℕ
ready_after st (ChainReady seat spare) = suc st.ready_chain
ready_after st act = st.ready_chain

abbrev pub durable_after : State → Act → ℕ
durable_after st Durable = st.sealed_chain
durable_after st act = st.durable_chain

abbrev pub sealed_after : State → Act → ℕ
sealed_after st (SealChain seat buckets gens entry unused) = suc st.sealed_chain
sealed_after st act = st.sealed_chain

abbrev pub buckets_after : State → Act → ℕ → List ℕ
buckets_after st (SealChain seat buckets gens entry unused) = put st.buckets (suc st.sealed_chain) buckets
buckets_after st act = st.buckets

abbrev pub gens_after : State → Act → ℕ → List ℕ
gens_after st (SealChain seat buckets gens entry unused) = put st.gens (suc st.sealed_chain) gens
gens_after st act = st.gens

abbrev pub spare_after : State → Act → List ℕ
spare_after st (ChainReady seat spare) = spare
spare_after st (KeepSpare spare) = spare
spare_after st act = st.spare

abbrev pub after : Layout → State → Act → State
after w st act =
    record {
      places = places_with w st.places (event_of w act);
      holder = holder_after st act;
      made = made_after st act;
      chain_of = chain_of_after st act;
      ready_chain = ready_after st act;
      durable_chain = durable_after st act;
      sealed_chain = sealed_after st act;
      buckets = buckets_after st act;
      gens = gens_after st act;
      spare = spare_after st act;
    }

-- ---- what it allows

abbrev pub is_plain : Event → Bool
is_plain (SealEntry entry unused) = false
is_plain MakeDurable = false
is_plain (Reuse q) = false
is_plain (NewNode q owner set values) = false
is_plain (Fill q at values) = false
is_plain (FailFill q at values set) = false
is_plain event = true

-- no node is ever looked for here: in no bucket, in one of the journal or of a chain, or in one
-- that is kept for chains
abbrev pub IsApart : Layout → State → ℕ → Type 0
IsApart w st q = (q < w.journal) ⊎ (w.buckets ≤ q) ⊎ ((n : ℕ) × (st.chain_of q ≡ Some n)) ⊎ In q st.spare

abbrev pub StaysUnused : Layout → State → (ℕ → Bool) → Type 0
StaysUnused w st unused = (q : ℕ) → IsApart w st q → unused q ≡ true

-- the seat holds the bucket, and no entry named it
abbrev pub Holds : State → ℕ → ℕ → Type 0
Holds st seat q = (st.holder q ≡ Some seat) × (st.chain_of q ≡ None)

-- The sets made in these buckets, the first of which is of this part, lead from a bucket to the
-- end, and have these generations.
abbrev pub IsBuilt : (ℕ → Option Made) → ℕ → ℕ → List ℕ → List ℕ → Type 0
IsBuilt made part from [] gens = (from ≡ 0) × (gens ≡ [])
IsBuilt made part from (q ∷ qs) gens =
    (from ≡ q) × ((set : PrioSet) × (made q ≡ Some (record { part = part; set = set })) × ((rest : List ℕ)
    × (gens ≡ set.gens ++ rest) × IsBuilt made (suc part) set.next qs rest))

abbrev pub head_of : List ℕ → ℕ
head_of [] = 0
head_of (q ∷ qs) = q

-- a bucket that may be kept for chains: nothing that a crash may find is there, but a later chain
pub record MayKeep (w : Layout) (st : State) (q : ℕ) : Type 0 where
  pub free : (st.chain_of q ≡ None) ⊎ ((n : ℕ) × (st.chain_of q ≡ Some n) × (st.ready_chain < n))
  pub unused : st.places.records.unused q ≡ true
  pub low : w.journal ≤ q
  pub high : q < w.buckets

abbrev pub ChainsAllow : Layout → State → Act → Type 0
ChainsAllow w st (Plain event) = (is_plain event ≡ true) × StaysUnused w st (unused_after st.places.records event)
ChainsAllow w st (Take seat q) = (st.holder q ≡ None) × (st.chain_of q ≡ None) × (q < w.buckets)
ChainsAllow w st (LetGo seat q) = Holds st seat q
ChainsAllow w st (WriteNode seat q owner set values) = Holds st seat q
ChainsAllow w st (WriteSet seat q part set values) = Holds st seat q × (w.prios.spelled part values ≡ Some set)
ChainsAllow w st (FailHeld seat q at values set) = Holds st seat q
ChainsAllow w st (WriteData q at values) = (st.chain_of q ≡ None) × (In q st.spare → ⊥)
ChainsAllow w st (FailData q at values) = (st.chain_of q ≡ None) × (In q st.spare → ⊥)
ChainsAllow w st (Seal entry unused) = StaysUnused w st unused × (entry.prio ≡ st.places.records.newest.prio)
ChainsAllow w st (SealChain seat buckets gens entry unused) =
    StaysUnused w st unused × EachOf (Holds st seat) buckets × EachOf (λ q. unused q ≡ true) buckets
    × Distinct buckets × (length buckets ≡ w.chain_sets)
    × IsBuilt st.made 0 (head_of buckets) buckets (bytes_of gens) × (entry.prio ≡ head_of buckets)
ChainsAllow w st Durable = Unit {0}
ChainsAllow w st (KeepSpare spare) = Distinct spare × (length spare ≡ w.chain_sets)
    × EachOf (MayKeep w st) spare
ChainsAllow w st (ChainReady seat spare) =
    (st.ready_chain < st.durable_chain) × EachOf (λ q. st.holder q ≡ Some seat) (st.buckets (suc st.ready_chain))
    × Distinct spare × (length spare ≡ w.chain_sets)
    × EachOf (λ q. (st.chain_of q ≡ Some st.ready_chain) ⊎ (In q st.spare
    × (st.chain_of q ≢ Some (suc st.ready_chain)))) spare

abbrev pub IfEvent : (Event → Type 0) → Option Event → Type 0
IfEvent P None = Unit {0}
IfEvent P (Some event) = P event

abbrev pub IsEnabled : Layout → State → Act → Type 0
IsEnabled w st act = IfEvent (CanHappen w st.places) (event_of w act) × ChainsAllow w st act

abbrev pub IsRun : Layout → State → List Act → Type 0
IsRun w st [] = Unit {0}
IsRun w st (act ∷ acts) = IsEnabled w st act × IsRun w (after w st act) acts

abbrev pub fold : Layout → State → List Act → State
fold w st [] = st
fold w st (act ∷ acts) = fold w (after w st act) acts
