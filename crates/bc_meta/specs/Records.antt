-- What the records of a cache device may read as: the journal's entries, and each node.
use Rattle.std.specs.Prelude.{◌≡◌, ◌≢◌, ◌⊎◌, ℕ, suc, ◌<◌, ◌≤◌, Bool, true, false, List, [], ◌∷◌, ◌++◌, if◌then◌else◌, ◌==◌}
use Rattle.bc_key.specs.declared.key.Key.{Key}
use Rattle.bc_meta.specs.Keys.{Alike}
use Rattle.bc_meta.specs.Facts.{In}
use Rattle.bc_meta.specs.Entries.{Entry, all_keys, AreEntries, live}
use Rattle.bc_meta.specs.Tree.{NodeSet, Owner, NodeSets, tree_list, Walk, Whole, Keeps, IsNamed}
use Rattle.bc_meta.specs.Events.{Event, AddKey, BeginBucket, SealEntry, WriteEntry, FailEntry, MakeDurable, Barrier, AddSet, FailSet, Reuse, NewNode, GiveUp, Fill, FailFill}

-- of the sealed entry: there is none; sealed; a barrier stands behind it, so it may be written;
-- written; durable by a second barrier
pub data Stage : Type 0 where
  Nothing Fixed Ready Sent Safe : Stage

abbrev pub after_barrier : Stage → Stage
after_barrier Nothing = Nothing
after_barrier Fixed = Ready
after_barrier Ready = Ready
after_barrier Sent = Safe
after_barrier Safe = Safe

-- a crash may find it
abbrev pub IsReady : Stage → Type 0
IsReady Nothing = ⊥
IsReady Fixed = ⊥
IsReady Ready = Unit {0}
IsReady Sent = Unit {0}
IsReady Safe = Unit {0}

-- what is known of the node in a bucket
pub record Node : Type 0 where
  -- nothing is known
  pub loose : Bool
  pub owner : Owner
  -- the sets that stand there
  pub sets : List NodeSet
  -- a set behind these, of which no barrier tells yet whether it stands
  pub last : NodeSet
  pub sent : Bool
  -- its write failed, so it stands there or not for good
  pub failed : Bool

abbrev pub owners : (ℕ → Node) → ℕ → Owner
owners nodes q = (nodes q).owner

-- the last set may stand there
abbrev pub MayStand : Node → Type 0
MayStand n = (n.sent ≡ true) ⊎ (n.failed ≡ true)

-- a node reads as one of two contents, where it is known
abbrev pub MayHold : Node → List NodeSet → Type 0
MayHold n ss = (n.loose ≡ true) ⊎ (ss ≡ n.sets) ⊎ (MayStand n × (ss ≡ n.last ∷ n.sets))

abbrev pub MayRead : (ℕ → Node) → NodeSets → Type 0
MayRead nodes c = (q : ℕ) → MayHold (nodes q) (c q)

abbrev pub no_set : NodeSet
no_set = record { seq = 0; keys = []; children = []; rest = [] }

abbrev pub no_owner : Owner
no_owner = record { word = 0; leaf = true }

-- a node of which nothing is known
abbrev pub loose_node : Node
loose_node = record { loose = true; owner = no_owner; sets = []; last = no_set; sent = false; failed = false }

-- with a first set that was sent
abbrev pub new_node : Owner → NodeSet → Node
new_node owner set = record { loose = true; owner = owner; sets = []; last = set; sent = true; failed = false }

-- with a further one that was sent, or whose write failed
abbrev pub sent_node : NodeSet → Node → Node
sent_node set n = record { loose = false; owner = n.owner; sets = n.sets; last = set; sent = true; failed = false }

abbrev pub failed_node : NodeSet → Node → Node
failed_node set n = record { loose = false; owner = n.owner; sets = n.sets; last = set; sent = false; failed = true }

-- after a barrier
abbrev pub stable_node : Node → Node
stable_node n = record {
  loose = if n.sent then false else n.loose;
  owner = n.owner;
  sets = if n.sent then n.last ∷ n.sets else n.sets;
  last = n.last;
  sent = false;
  failed = if n.sent then false else n.failed;
}

pub record Records : Type 0 where
  -- the keys since the sealed entry
  pub waiting : List Key
  -- the entry that was sealed last
  pub entry : Entry
  pub stage : Stage
  -- the durable entries from the newest one's last_seq on
  pub newest : Entry
  pub older : List Entry
  -- all keys so far durable, over what the opening had
  pub index : List Key
  -- the entries that stand in each journal bucket, and the bucket that is written to
  pub ring : ℕ → List Entry
  pub bucket : ℕ
  -- every entry that counted at the opening or was written
  pub log : List Entry
  -- the opening's last_seq: entries below it may stand anywhere
  pub floor : ℕ
  pub nodes : ℕ → Node
  -- the buckets in which no crash image's tree has a node
  pub unused : ℕ → Bool

-- ---- what an event leaves

abbrev pub put : {A : Type 0} → (ℕ → A) → ℕ → A → ℕ → A
put f k x n = if n == k then x else f n

abbrev pub waiting_after : Records → Event → List Key
waiting_after r (AddKey key) = key ∷ r.waiting
waiting_after r (SealEntry entry unused) = []
waiting_after r e = r.waiting

abbrev pub entry_after : Records → Event → Entry
entry_after r (SealEntry entry unused) = entry
entry_after r e = r.entry

abbrev pub stage_after : Records → Event → Stage
stage_after r (SealEntry entry unused) = Fixed
stage_after r (WriteEntry values) = Sent
stage_after r MakeDurable = Nothing
stage_after r Barrier = after_barrier r.stage
stage_after r e = r.stage

abbrev pub newest_after : Records → Event → Entry
newest_after r MakeDurable = r.entry
newest_after r e = r.newest

abbrev pub older_after : Records → Event → List Entry
older_after r MakeDurable = live r.entry.last_seq (r.newest ∷ r.older)
older_after r e = r.older

abbrev pub index_after : Records → Event → List Key
index_after r MakeDurable = r.entry.keys ++ r.index
index_after r e = r.index

abbrev pub ring_after : Records → Event → ℕ → List Entry
ring_after r (BeginBucket b) = put r.ring b []
ring_after r MakeDurable = put r.ring r.bucket (r.entry ∷ r.ring r.bucket)
ring_after r e = r.ring

abbrev pub bucket_after : Records → Event → ℕ
bucket_after r (BeginBucket b) = b
bucket_after r e = r.bucket

abbrev pub log_after : Records → Event → List Entry
log_after r (WriteEntry values) = r.entry ∷ r.log
log_after r (FailEntry values) = r.entry ∷ r.log
log_after r e = r.log

abbrev pub nodes_after : Records → Event → ℕ → Node
nodes_after r Barrier = λ q. stable_node (r.nodes q)
nodes_after r (AddSet q set values unused) = put r.nodes q (sent_node set (r.nodes q))
nodes_after r (FailSet q set values) = put r.nodes q (failed_node set (r.nodes q))
nodes_after r (Reuse q) = put r.nodes q loose_node
nodes_after r (NewNode q owner set values) = put r.nodes q (new_node owner set)
nodes_after r (Fill q at values) = put r.nodes q loose_node
nodes_after r (FailFill q at values set) = put r.nodes q loose_node
nodes_after r e = r.nodes

abbrev pub unused_after : Records → Event → ℕ → Bool
unused_after r (SealEntry entry unused) = unused
unused_after r (AddSet q set values unused) = unused
unused_after r (GiveUp unused) = unused
unused_after r e = r.unused

abbrev pub records_after : Records → Event → Records
records_after r e =
    record {
      waiting = waiting_after r e;
      entry = entry_after r e;
      stage = stage_after r e;
      newest = newest_after r e;
      older = older_after r e;
      index = index_after r e;
      ring = ring_after r e;
      bucket = bucket_after r e;
      log = log_after r e;
      floor = r.floor;
      nodes = nodes_after r e;
      unused = unused_after r e;
    }

-- ---- what they allow

-- what is sent is stable once the entry may be written, since a barrier stands between
abbrev pub settled_node : Stage → Node → Node
settled_node Fixed n = stable_node n
settled_node g n = n

-- Whatever the nodes read as: with these entries the tree below this root says what the index says,
-- it is whole, off what is unused, and each pointer leads to what is read.
abbrev pub Reads : (ℕ → Node) → (ℕ → Bool) → List Entry → List Key → ℕ → ℕ → ℕ → Type 0
Reads nodes unused es index level root word =
    (c : NodeSets) → MayRead nodes c → Alike (all_keys es ++ tree_list c level root) index × Walk Whole c level root
    × Keeps unused c level root × IsNamed (owners nodes) c level root word

-- so it does with the durable entries
abbrev pub ReadsDurable : Records → Type 0
ReadsDurable r = Reads r.nodes r.unused (r.newest ∷ r.older) r.index r.newest.level r.newest.root r.newest.word

-- and with the sealed one before them, once what was sent before its seal is stable
abbrev pub ReadsSealed : Records → Type 0
ReadsSealed r =
    Reads (λ q. settled_node r.stage (r.nodes q)) r.unused (r.entry ∷ live r.entry.last_seq (r.newest ∷ r.older))
    (r.entry.keys ++ r.index) r.entry.level r.entry.root r.entry.word

abbrev pub ReadsRight : Records → Type 0
ReadsRight r = ReadsDurable r × (r.stage ≢ Nothing → ReadsSealed r)

abbrev pub IsFewer : (ℕ → Bool) → (ℕ → Bool) → Type 0
IsFewer new old = (q : ℕ) → new q ≡ true → old q ≡ true

-- a set may go behind this node's sets
abbrev pub IsOpen : Node → Type 0
IsOpen n = (n.loose ≡ false) × (n.sent ≡ false) × (n.failed ≡ false)

-- the entry goes behind the newest one, and reads right once what was sent is stable
abbrev pub CanSeal : Records → Entry → (ℕ → Bool) → Type 0
CanSeal r entry unused =
    (r.stage ≡ Nothing) × (r.newest.last_seq ≤ entry.last_seq) × (entry.last_seq ≤ suc r.newest.number)
    × IsFewer unused r.unused
    × Reads (λ q. stable_node (r.nodes q)) unused (live entry.last_seq (r.newest ∷ r.older)) r.index
    entry.level entry.root entry.word
    × (entry.number ≡ suc r.newest.number) × (entry.keys ≡ r.waiting)

abbrev pub RecordsAllow : Records → Event → Type 0
RecordsAllow r (BeginBucket b) = (r.stage ≡ Nothing) × ((x : Entry) → In x (r.ring b) → x.number < r.newest.last_seq)
RecordsAllow r (SealEntry entry unused) = CanSeal r entry unused
RecordsAllow r (WriteEntry values) = r.stage ≡ Ready
RecordsAllow r (FailEntry values) = r.stage ≡ Ready
RecordsAllow r MakeDurable = r.stage ≡ Safe
RecordsAllow r (AddSet q set values unused) = IsOpen (r.nodes q)
    × ReadsRight (records_after r (AddSet q set values unused))
RecordsAllow r (FailSet q set values) = IsOpen (r.nodes q) × ReadsRight (records_after r (FailSet q set values))
RecordsAllow r (Reuse q) = r.unused q ≡ true
RecordsAllow r (NewNode q owner set values) = r.unused q ≡ true
RecordsAllow r (GiveUp unused) = ReadsRight (records_after r (GiveUp unused))
RecordsAllow r (Fill q at values) = r.unused q ≡ true
RecordsAllow r (FailFill q at values set) = r.unused q ≡ true
RecordsAllow r e = Unit {0}

-- ---- what they are opened with

-- the entries are found and the tree is whole
pub record IsReadable (all : List Entry) (c : NodeSets) (newest : Entry) (older : List Entry) : Type 0 where
  pub entries : AreEntries all newest older
  pub whole : Walk Whole c newest.level newest.root

-- Where the next entry goes: `ring` has what stands before that place in each bucket, so what
-- stands behind it may be lost.
pub record HasRoom (all : List Entry) (newest : Entry) (older : List Entry) (ring : ℕ → List Entry) : Type 0 where
  pub stands : (b : ℕ) (x : Entry) → In x (ring b) → In x all
  pub kept : (x : Entry) → In x (newest ∷ older) → (b : ℕ) × In x (ring b)

abbrev pub opened_records : (ℕ → Owner) → NodeSets → Entry → List Entry → (ℕ → List Entry) → ℕ → (ℕ → Bool) → Records
opened_records owners c newest older ring bucket unused =
    record {
      waiting = [];
      entry = newest;
      stage = Nothing;
      newest = newest;
      older = older;
      index = all_keys (newest ∷ older) ++ tree_list c newest.level newest.root;
      ring = ring;
      bucket = bucket;
      log = newest ∷ older;
      floor = newest.last_seq;
      nodes = λ q. record { loose = unused q; owner = owners q; sets = c q; last = no_set; sent = false; failed = false };
      unused = unused;
    }
