-- Where the records stand on the device, and what a crash may leave of it.
use Rattle.std.specs.Prelude.{◌≡◌, ◌≢◌, ◌⊎◌, ℕ, ◌+◌, ◌-◌, ◌<◌, ◌≤◌, Bool, true, false, List, [], ◌∷◌, ◌++◌, length, replicate, Option, Some, None, if◌then◌else◌}
use Rattle.bc_model.specs.Sector.{Value, Image, at_run}
use Rattle.bc_model.specs.Pattern.{zeros}
use Rattle.bc_disk.specs.Device.{Content, Among, written, failed, settled, quiet, MayLeave}
use Rattle.bc_meta.specs.Facts.{IsAtBlock, In, Stand}
use Rattle.bc_meta.specs.Entries.{Entry}
use Rattle.bc_meta.specs.Tree.{NodeSet, Owner}
use Rattle.bc_meta.specs.Layout.{Layout, node_end, is_within, entry_len, set_len, entry_at, ring_entries, node_sets}
use Rattle.bc_meta.specs.Events.{Event, BeginBucket, WriteEntry, FailEntry, MakeDurable, Barrier, AddSet, FailSet, Reuse, NewNode, Fill, FailFill, Elsewhere, FailElsewhere}
use Rattle.bc_meta.specs.Records.{Records, MayStand, RecordsAllow, records_after, put, IsReadable, HasRoom, opened_records}

pub record Places : Type 0 where
  pub device : Content
  pub records : Records
  -- behind the entries of each journal bucket, and behind the stable sets of each node
  pub ring_next : ℕ → ℕ
  pub node_next : ℕ → ℕ
  -- the nodes that this run wrote, and the seq of each
  pub own : ℕ → Bool
  pub seq : ℕ → ℕ
  -- each set and each entry that was written, well or not, with its bucket and its place
  pub log : List (ℕ × ℕ × NodeSet)
  pub entry_log : List (ℕ × ℕ × Entry)

abbrev pub Wrote : {A : Type 0} → List (ℕ × ℕ × A) → ℕ → ℕ → A → Type 0
Wrote [] q p e = ⊥
Wrote (x ∷ xs) q p e = ((q ≡ x.0) × (p ≡ x.1) × (e ≡ x.2)) ⊎ Wrote xs q p e

-- ---- the call of the device that an event is

pub data Call : Type 0 where
  NoCall SyncCall : Call
  WriteCall FailedCall : (at : ℕ) → (values : List Value) → Call

abbrev pub call_of : Layout → Places → Event → Call
call_of w p (WriteEntry values) = WriteCall (p.ring_next p.records.bucket) values
call_of w p (FailEntry values) = FailedCall (p.ring_next p.records.bucket) values
call_of w p Barrier = SyncCall
call_of w p (AddSet q set values unused) = WriteCall (p.node_next q) values
call_of w p (FailSet q set values) = FailedCall (p.node_next q) values
call_of w p (NewNode q owner set values) = WriteCall (w.begins owner) values
call_of w p (Fill q at values) = WriteCall at values
call_of w p (FailFill q at values set) = FailedCall at values
call_of w p (Elsewhere at values) = WriteCall at values
call_of w p (FailElsewhere at values) = FailedCall at values
call_of w p e = NoCall

abbrev pub called : Call → Content → Content
called NoCall d = d
called SyncCall d = settled d
called (WriteCall at values) d = written at values d
called (FailedCall at values) d = failed at values d

-- what a call writes to a sector, or may have written
abbrev pub writes : Call → ℕ → Option Value
writes NoCall s = None
writes SyncCall s = None
writes (WriteCall at values) s = at_run at values s
writes (FailedCall at values) s = at_run at values s

-- ---- what an event leaves

abbrev pub ring_next_after : Layout → Places → Event → ℕ → ℕ
ring_next_after w p (BeginBucket b) = put p.ring_next b (w.first b)
ring_next_after w p MakeDurable = put p.ring_next p.records.bucket (p.ring_next p.records.bucket + entry_len w p.records.entry)
ring_next_after w p e = p.ring_next

abbrev pub node_behind : Layout → Places → ℕ → ℕ
node_behind w p q = if (p.records.nodes q).sent then p.node_next q + set_len w (p.records.nodes q).last else p.node_next q

abbrev pub node_next_after : Layout → Places → Event → ℕ → ℕ
node_next_after w p Barrier = node_behind w p
node_next_after w p (NewNode q owner set values) = put p.node_next q (w.begins owner)
node_next_after w p e = p.node_next

abbrev pub own_after : Places → Event → ℕ → Bool
own_after p (Reuse q) = put p.own q false
own_after p (NewNode q owner set values) = put p.own q true
own_after p (Fill q at values) = put p.own q false
own_after p (FailFill q at values set) = put p.own q false
own_after p e = p.own

abbrev pub seq_after : Places → Event → ℕ → ℕ
seq_after p (NewNode q owner set values) = put p.seq q set.seq
seq_after p e = p.seq

abbrev pub with_set : ℕ → ℕ → Option NodeSet → List (ℕ × ℕ × NodeSet) → List (ℕ × ℕ × NodeSet)
with_set q at None log = log
with_set q at (Some set) log = (q, at, set) ∷ log

abbrev pub set_log_after : Layout → Places → Event → List (ℕ × ℕ × NodeSet)
set_log_after w p (AddSet q set values unused) = (q, p.node_next q, set) ∷ p.log
set_log_after w p (FailSet q set values) = (q, p.node_next q, set) ∷ p.log
set_log_after w p (NewNode q owner set values) = (q, w.begins owner, set) ∷ p.log
set_log_after w p (FailFill q at values set) = with_set q at set p.log
set_log_after w p e = p.log

abbrev pub entry_log_after : Places → Event → List (ℕ × ℕ × Entry)
entry_log_after p (WriteEntry values) = (p.records.bucket, p.ring_next p.records.bucket, p.records.entry) ∷ p.entry_log
entry_log_after p (FailEntry values) = (p.records.bucket, p.ring_next p.records.bucket, p.records.entry) ∷ p.entry_log
entry_log_after p e = p.entry_log

abbrev pub places_after : Layout → Places → Event → Places
places_after w p e =
    record {
      device = called (call_of w p e) p.device;
      records = records_after p.records e;
      ring_next = ring_next_after w p e;
      node_next = node_next_after w p e;
      own = own_after p e;
      seq = seq_after p e;
      log = set_log_after w p e;
      entry_log = entry_log_after p e;
    }

-- ---- what places allow

-- the sealed entry goes behind the entries of the current journal bucket
abbrev pub CanEnter : Layout → Places → List Value → Type 0
CanEnter w p values = (w.entries.spelled tt values ≡ Some p.records.entry)
    × (p.ring_next p.records.bucket + entry_len w p.records.entry ≤ w.first p.records.bucket + w.bucket_sectors)

-- a further set: of a node of this run, with its seq, in the rest of its length
abbrev pub CanAppend : Layout → Places → ℕ → NodeSet → List Value → Type 0
CanAppend w p q set values = (p.own q ≡ true) × (set.seq ≡ p.seq q)
    × (p.node_next q + set_len w set ≤ node_end w (p.records.nodes q).owner)
    × (w.sets.spelled (p.records.nodes q).owner values ≡ Some set)

-- Values for a whole node: those of a set, and zeros behind them. So no set that was left there
-- counts.
pub record IsFirstWrite (w : Layout) (o : Owner) (set : NodeSet) (values : List Value) : Type 0 where
  pub front : List Value
  pub spelled : w.sets.spelled o front ≡ Some set
  pub values_are : values ≡ front ++ replicate (w.node_sectors - set_len w set) zeros

-- the first write of a node that lies in the bucket
pub record CanStart (w : Layout) (p : Places) (q : ℕ) (o : Owner) (set : NodeSet) (values : List Value) : Type 0 where
  pub low : w.journal ≤ q
  pub high : q < w.buckets
  pub inside : is_within w q o ≡ true
  pub room : w.begins o + set_len w set ≤ node_end w o
  pub first : IsFirstWrite w o set values
  -- no set with its seq was written there
  pub unheard : (at : ℕ) (e : NodeSet) → Wrote p.log q at e → e.seq ≢ set.seq

-- values inside one bucket behind those of the journal
abbrev pub CanFill : Layout → ℕ → ℕ → List Value → Type 0
CanFill w q at values = (w.journal ≤ q) × (w.first q ≤ at) × (at + length values ≤ w.first q + w.bucket_sectors)
    × (q < w.buckets)

-- values outside all buckets
abbrev pub IsOutside : Layout → ℕ → List Value → Type 0
IsOutside w at values = (b s : ℕ) → b < w.buckets → w.first b ≤ s → s < w.first b + w.bucket_sectors
    → at_run at values s ≡ None

abbrev pub PlacesAllow : Layout → Places → Event → Type 0
PlacesAllow w p (BeginBucket b) = b < w.journal
PlacesAllow w p (WriteEntry values) = CanEnter w p values
PlacesAllow w p (FailEntry values) = CanEnter w p values
PlacesAllow w p (AddSet q set values unused) = (w.journal ≤ q) × CanAppend w p q set values
PlacesAllow w p (FailSet q set values) = (w.journal ≤ q) × CanAppend w p q set values
PlacesAllow w p (Reuse q) = w.journal ≤ q
PlacesAllow w p (NewNode q owner set values) = CanStart w p q owner set values
PlacesAllow w p (Fill q at values) = CanFill w q at values
PlacesAllow w p (FailFill q at values set) = CanFill w q at values
PlacesAllow w p (Elsewhere at values) = IsOutside w at values
PlacesAllow w p (FailElsewhere at values) = IsOutside w at values
PlacesAllow w p e = Unit {0}

-- an event may happen to records at their places
abbrev pub CanHappen : Layout → Places → Event → Type 0
CanHappen w p e = RecordsAllow p.records e × PlacesAllow w p e

-- ---- what they are opened with

-- an image whose entries and tree can be read, and in which the next entry has its place
pub record IsSoundImage (w : Layout) (owners : ℕ
    → Owner) (image : Image) (newest : Entry) (older : List Entry) (ring : ℕ → List Entry) (ring_next : ℕ
    → ℕ) (bucket : ℕ) : Type 0 where
  pub sound : IsReadable (ring_entries w image w.journal) (node_sets w owners image) newest older
  -- the entries that count stand before the place that a next entry of their bucket gets
  pub room : HasRoom (ring_entries w image w.journal) newest older ring
  pub stands : (b : ℕ) → b < w.journal → Stand (entry_len w) (entry_at w image b) (w.first b) (ring b) (ring_next b)
  pub inside : (b : ℕ) → b < w.journal → ring_next b ≤ w.first b + w.bucket_sectors
  pub only_ring : (b : ℕ) → w.journal ≤ b → ring b ≡ []
  pub current : bucket < w.journal
  -- no whole entry stands at any block of a journal bucket, reached or not, but those that count
  -- and older ones
  pub stray : (b at : ℕ) (e : Entry) → b < w.journal → IsAtBlock w.block (w.first b) at
      → entry_at w image b at ≡ Some e → (e.number < newest.last_seq) ⊎ In e (newest ∷ older)

abbrev pub opened_places : Layout → (ℕ → Owner) → Image → Entry → List Entry → (ℕ → List Entry) → (ℕ → ℕ) → ℕ
    → (ℕ → Bool) → Places
opened_places w owners image newest older ring ring_next bucket unused =
    record {
      device = quiet image;
      records = opened_records owners (node_sets w owners image) newest older ring bucket unused;
      ring_next = ring_next;
      node_next = w.first;
      own = λ q. false;
      seq = λ q. 0;
      log = [];
      entry_log = [];
    }

-- ---- torn records

-- a crash can leave one value only in a sector, or in each from one up to another
abbrev pub IsSure : Content → ℕ → Type 0
IsSure d s = (a b : Value) → Among a (d.leaves s) → Among b (d.leaves s) → a ≡ b

abbrev pub AreSure : Content → ℕ → ℕ → Type 0
AreSure d from to = (s : ℕ) → from ≤ s → s < to → IsSure d s

-- Of a node that this run wrote, and behind whose sets one may stand: where a crash image reads a
-- set of its seq there, either a crash can't tear what is read, or it was written there.
abbrev pub NoTornSet : Layout → Places → Type 0
NoTornSet w p = (image : Image) (q : ℕ) (e : NodeSet) → MayLeave p.device image → p.own q ≡ true
    → (p.records.nodes q).loose ≡ false → MayStand (p.records.nodes q) → e.seq ≡ p.seq q
    → w.sets.found image (p.records.nodes q).owner (node_end w (p.records.nodes q).owner)
    (p.node_next q) ≡ Some e
    → AreSure p.device (p.node_next q) (p.node_next q + set_len w e)
    ⊎ Wrote p.log q (p.node_next q) e

-- The premise: what a crash image reads as a whole entry at a block stood there at the opening, or
-- was written there, and no torn set matches by chance.
pub record NoChance (w : Layout) (opening : Image) (p : Places) : Type 0 where
  pub entries : (image : Image) (b at : ℕ) (e : Entry) → MayLeave p.device image → b < w.journal
      → IsAtBlock w.block (w.first b) at → entry_at w image b at ≡ Some e → (entry_at w opening b at ≡ Some e)
      ⊎ Wrote p.entry_log b at e
  pub sets : NoTornSet w p
