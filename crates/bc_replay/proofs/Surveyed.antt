-- What was read of a pair, and judged, is what its one view has.
use Rattle.std.proofs.Common.{◌≡◌, ◌≢◌, ◌⊎◌, inl, inr, ℕ, zero, suc, ◌+◌, ◌<◌, ◌≤◌, Bool, true, false, List, [], ◌∷◌, ◌++◌, length, get_or, map, Option, Some, None, refl, sym, subst, ap, ◌∙◌, arith}
use Rattle.std.specs.Prelude.{All, AllPairs, Any, Contains, Result, Ok, Err}
use Rattle.std.proofs.lemmas.Bool.{cases_eq}
use Rattle.std.proofs.lemmas.List.Elements.{All-nil, All-cons, All-head, All-tail}
use Rattle.std.proofs.lemmas.List.Kept.{AllPairs-cons}
use Rattle.bc_disk.specs.Disk.{DiskFacts, IfTold, IsKept}
use Rattle.bc_disk.specs.Gens.{Gens}
use Rattle.bc_disk.specs.declared.disk.Device.TheVariants as device
use Rattle.bc_disk.specs.declared.geometry.Geometry.{Geometry}
use Rattle.bc_entries.specs.Journal.{Journal, HasJournal}
use Rattle.bc_image.specs.Pair.{Pair}
use Rattle.bc_image.specs.Pointers.{PointsInto}
use Rattle.bc_image.specs.Reading.{Reading, View, IsView, IsReading, keys_of}
use Rattle.bc_image.specs.Sound.{HasSuperblocks, NamesBacking, HasRanges, HasPointers, HasOneUse, HasSpareBuckets, HasRoomForEntry}
use Rattle.bc_image.specs.Tree.{Node, tree_keys}
use Rattle.bc_image.specs.Uses.{IsUsedFor, IsSpare, LiesLive, Use as Kind, Super, Journal as OfJournal, Priority, Uuid, Node as OfNode, Data}
use Rattle.bc_jset.specs.Entries.{FoundEntry}
use Rattle.bc_jset.specs.Ring.{HasRoom}
use Rattle.bc_key.specs.declared.key.Key.{Key}
use Rattle.bc_model.specs.Sector.{Image}
use Rattle.bc_node.specs.Leaf.{AreLastOfAll}
use Rattle.bc_pair.specs.Found.{pair_of}
use Rattle.bc_prio.specs.Chain.{IsPlace}
use Rattle.bc_prio.specs.Records.{LeadIn, ChainIn}
use Rattle.bc_disk.specs.Chain.{sets_in_chain}
use Rattle.bc_disk.specs.declared.gens.BucketRecord.{BucketRecord}
use Rattle.bc_super.specs.Super.{data_sectors}
use Rattle.bc_super.specs.declared.backing.BackingSuper.{BackingSuper}
use Rattle.bc_super.specs.declared.cache.CacheSuper.{CacheSuper}
use Rattle.bc_walk.specs.Rule.{Rule}
use Rattle.bc_walk.specs.Seen.{found_of}
use Rattle.bc_walk.specs.Tree.{IsTree, visit_of}
use Rattle.bc_walk.specs.Walk.{IsVisited, MeetsIn, IsIndexSearch}
use Rattle.bc_walk.specs.declared.visit.Visit.{Visit}
use Rattle.bc_walk.proofs.Trees.{is_tree}
use Rattle.bc_replay.specs.declared.uses.Use.{Use}
use Rattle.bc_replay.specs.declared.uses.Use.TheVariants as uses
use Rattle.bc_replay.specs.Heads.{HasHeads}
use Rattle.bc_replay.specs.Index.{IsIndexed, rule_by}
use Rattle.bc_replay.specs.Judge.{IsKnown, IsJudged, held_of}
use Rattle.bc_replay.specs.Replay.{IsIndex, entry_keys}
use Rattle.bc_replay.specs.Survey.{IsOpenable, IsUsedAs, TellsUses, HasSurvey}
use Rattle.bc_replay.specs.Used.{Held, LiesIn, IsUse, IsTwice, HasNoTwice, HasNoUse, CountsSpare, IsListed, AreUses}
use Rattle.bc_replay.specs.Used.IsTwice.{kinds, nodes as two_nodes}
use Rattle.bc_replay.proofs.Marks.{use_at}
use Rattle.bc_replay.proofs.True.{index_true, all_met}

-- ---- the chain

pub chain_places : (g : Geometry) (image : Image) (records : List BucketRecord) (part from : ℕ) (chain : List ℕ) (to : ℕ) → LeadIn g image records part from chain to → All (IsPlace g) chain
chain_places g image records part from [] to leads = All-nil (IsPlace g)
chain_places g image records part from (bucket ∷ chain) to leads = All-cons (IsPlace g) bucket chain leads.1 (chain_places g image records (suc part) leads.2.0 chain to leads.2.2)

-- ---- kinds of use

pub use_of : Kind → Use
use_of Super = uses.Super
use_of OfJournal = uses.Journal
use_of Priority = uses.Priority
use_of Uuid = uses.Uuid
use_of OfNode = uses.Node
use_of Data = uses.Data

number_of : Kind → ℕ
number_of Super = 0
number_of OfJournal = 1
number_of Priority = 2
number_of Uuid = 3
number_of OfNode = 4
number_of Data = 5

numbered : Use → ℕ
numbered uses.None = 6
numbered uses.Super = 0
numbered uses.Journal = 1
numbered uses.Priority = 2
numbered uses.Uuid = 3
numbered uses.Node = 4
numbered uses.Data = 5

kind_of : ℕ → Kind
kind_of zero = Super
kind_of (suc zero) = OfJournal
kind_of (suc (suc zero)) = Priority
kind_of (suc (suc (suc zero))) = Uuid
kind_of (suc (suc (suc (suc zero)))) = OfNode
kind_of (suc (suc (suc (suc (suc n))))) = Data

kind_back : (a : Kind) → kind_of (number_of a) ≡ a
unfolding kind_of number_of
kind_back Super = refl
kind_back OfJournal = refl
kind_back Priority = refl
kind_back Uuid = refl
kind_back OfNode = refl
kind_back Data = refl

same_number : (a : Kind) → numbered (use_of a) ≡ number_of a
unfolding numbered use_of number_of
same_number Super = refl
same_number OfJournal = refl
same_number Priority = refl
same_number Uuid = refl
same_number OfNode = refl
same_number Data = refl

kinds_apart : (a b : Kind) → (number_of a ≡ number_of b → ⊥) → use_of a ≢ use_of b
kinds_apart a b apart same = apart (sym (same_number a) ∙ ap numbered same ∙ same_number b)

-- ---- the nodes of a tree

taken_nodes : (g : Geometry) (nodes : List Node) (b : ℕ) → IsVisited g (map visit_of nodes) b → Any (λ n. PointsInto g n.key b) nodes
taken_nodes g [] b taken = absurd taken
taken_nodes g (n ∷ ns) b (inl here) = (0, n, omega arith, refl, here)
taken_nodes g (n ∷ ns) b (inr later) = let m = taken_nodes g ns b later in let low = m.2 in (suc m.0, m.1, omega (arith, low), m.3, m.4)

nodes_taken : (g : Geometry) (nodes : List Node) (b : ℕ) → Any (λ n. PointsInto g n.key b) nodes → IsVisited g (map visit_of nodes) b
nodes_taken g [] b (k, n, low, is, here) = absurd (omega (arith, low))
nodes_taken g (m ∷ ns) b (zero, n, low, is, here) = inl (subst (λ (x : Node). PointsInto g x.key b) (sym is) here)
nodes_taken g (m ∷ ns) b (suc k, n, low, is, here) = inr (nodes_taken g ns b (k, n, omega (arith, low), is, here))

-- ---- buckets of a reading

module _ (r : Rule) (reading : Reading) where
  abbrev g : Geometry
  g = r.geometry

  abbrev h : Held
  h = held_of r reading.gens reading.newest.item.uuid_bucket (map visit_of reading.nodes) (keys_of reading)

  pub to_use : (k : Kind) (b : ℕ) → IsUsedFor g reading k b → IsUse h (use_of k) b
  unfolding use_of
  to_use Super b used = used
  to_use OfJournal b used = used
  to_use Priority b used = used
  to_use Uuid b used = used
  to_use OfNode b used = nodes_taken g reading.nodes b used
  to_use Data b (sector, key, l) = (sector, key, record { last = l.last; live = l.live; place = l.place })

  used_data : (b sector : ℕ) (key : Key) → LiesIn h sector key b → LiesLive g reading sector key b
  used_data b sector key l = record { last = l.last; live = l.live; place = l.place }

  spare_of : (b : ℕ) → HasNoUse h b → (k : Kind) → ¬ (IsUsedFor g reading k b)
  spare_of b none k used = none (use_of k) (to_use k b used)

  pub no_use : (b : ℕ) → ((k : Kind) → ¬ (IsUsedFor g reading k b)) → HasNoUse h b
  no_use b none uses.None use_ = use_
  no_use b none uses.Super use_ = none Super use_
  no_use b none uses.Journal use_ = none OfJournal use_
  no_use b none uses.Priority use_ = none Priority use_
  no_use b none uses.Uuid use_ = none Uuid use_
  no_use b none uses.Node use_ = none OfNode (taken_nodes g reading.nodes b use_)
  no_use b none uses.Data (sector, key, l) = none Data (sector, key, used_data b sector key l)

  listed_as : (b : ℕ) (u : Use) → IsListed h u b → IsUsedAs g reading b u
  listed_as b uses.None none = spare_of b none
  listed_as b uses.Super use_ = use_
  listed_as b uses.Journal use_ = use_
  listed_as b uses.Priority use_ = use_
  listed_as b uses.Uuid use_ = use_
  listed_as b uses.Node use_ = taken_nodes g reading.nodes b use_
  listed_as b uses.Data (sector, key, l) = (sector, key, used_data b sector key l)

  pub tells_uses : (table : List Use) → AreUses h table → TellsUses g reading table
  tells_uses table are = record { each = are.each; told = λ b low. listed_as b (use_at table b) (are.told b low) }

  pub one_use : HasNoTwice h → (b : ℕ) (a k : Kind) → IsUsedFor g reading a b → IsUsedFor g reading k b → a ≡ k
  one_use once b a k x y = go (cases_eq (number_of a) (number_of k))
    where
      go : (number_of a ≡ number_of k) ⊎ (number_of a ≡ number_of k → ⊥) → a ≡ k
      go (inl same) = sym (kind_back a) ∙ ap kind_of same ∙ kind_back k
      go (inr apart) = absurd (once b (kinds (use_of a) (use_of k) (to_use a b x) (to_use k b y) (kinds_apart a k apart)))

  -- the buckets without use, as a list
  record SpareList (n count : ℕ) : Type 0 where
    list : List ℕ
    long : length list ≡ count
    below : All (λ b. b < n) list
    different : AllPairs (λ a b. a ≢ b) list
    each : All (HasNoUse h) list

  spare_list : (n count : ℕ) → CountsSpare h n count → SpareList n count
  spare_list zero count counts = record { list = []; long = sym counts; below = All-nil (λ b. b < 0); different = λ i j d before inside. absurd (omega (arith, inside)); each = All-nil (HasNoUse h) }
  spare_list (suc n) count (less, rest, inl (none, is)) =
      let l = spare_list n less rest in
      let long = l.long in
      record {
        list = n ∷ l.list;
        long = ap suc l.long ∙ sym is;
        below = All-cons (λ b. b < suc n) n l.list (omega arith) (λ k d low. let x = l.below k d low in omega (arith, x));
        different = AllPairs-cons (λ a b. a ≢ b) n l.list (λ k d low same. let x = l.below k d low in absurd (omega (arith, x, same))) l.different;
        each = All-cons (HasNoUse h) n l.list none l.each;
      }
  spare_list (suc n) count (less, rest, inr (some, is)) =
      let l = spare_list n less rest in
      record { list = l.list; long = l.long ∙ sym is; below = λ k d low. (let x = l.below k d low in omega (arith, x)); different = l.different; each = l.each }

  pub spare_buckets : (count : ℕ) → CountsSpare h g.nbuckets count → sets_in_chain g ≤ count → HasSpareBuckets g reading
  spare_buckets count counts enough =
      let l = spare_list g.nbuckets count counts in
      record {
        spare = l.list;
        different = l.different;
        each = λ k d low. (l.below k d low, spare_of (get_or l.list k d) (l.each k d low));
        enough = subst (λ n. sets_in_chain g ≤ n) (sym l.long) enough;
      }

-- ---- the whole

module _ (p : Pair) (b : BackingSuper) (c : CacheSuper) (g : Geometry) (j : Journal) (gens : Gens) (heads : HasHeads p b c g j gens) (size : ℕ) (is_size : size ≡ data_sectors p.backing_sectors b) where
  abbrev rule : Rule
  rule = rule_by g size

  pub known : (seen : List Visit) (index : List Key) (word : Option ℕ) (i : IsIndex rule p.cache j seen index word)
      → IsKnown rule gens heads.journal.entries.newest.item.uuid_bucket seen (i.keys ++ entry_keys j.entries) index word
  known seen index word i = record {
    indexed = i.last;
    true_ = index_true g p.cache i.journal.entries.newest.item.level i.journal.entries.newest.item.root (found_of seen i.keys) i.search;
    chain = chain_places g p.cache gens.records 0 heads.journal.entries.newest.item.prio gens.chain 0 heads.chain.sets;
    uuid = heads.uuids.ptrs;
  }

  module _ (seen : List Visit) (keys index : List Key) (table : List Use) (search : IsIndexSearch g p.cache heads.journal.entries.newest.item.level heads.journal.entries.newest.item.root (Ok (found_of seen keys))) where
    tree_of : IsJudged rule (held_of rule gens heads.journal.entries.newest.item.uuid_bucket seen (keys ++ entry_keys j.entries)) table
        → IsTree g p.cache heads.journal.entries.newest.item.level heads.journal.entries.newest.item.root (found_of seen keys)
    tree_of judged =
        is_tree g p.cache heads.journal.entries.newest.item.level heads.journal.entries.newest.item.root (found_of seen keys) search
        (all_met g true seen (index_true g p.cache heads.journal.entries.newest.item.level heads.journal.entries.newest.item.root (found_of seen keys) search) judged.points.nodes
        (λ n met. judged.once n (two_nodes met)))

    pub surveyed : AreLastOfAll (keys ++ entry_keys j.entries) index → IsJudged rule (held_of rule gens heads.journal.entries.newest.item.uuid_bucket seen (keys ++ entry_keys j.entries)) table → HasSurvey p b c g j gens seen index table
    surveyed last judged =
        let tree = tree_of judged in
        let newest = heads.journal.entries.newest in
        let reading : Reading = record { entries = j.entries; newest = newest; gens = gens; nodes = tree.nodes } in
        let all : keys ++ entry_keys j.entries ≡ keys_of reading = ap (λ (ks : List Key). ks ++ entry_keys j.entries) tree.keys in
        let same = subst (λ (ks : List Key). IsJudged rule (held_of rule gens newest.item.uuid_bucket seen ks) table) all judged in
        let own = subst (λ (vs : List Visit). IsJudged rule (held_of rule gens newest.item.uuid_bucket vs (keys_of reading)) table) tree.visits same in
        record {
          view = record { backing = b; cache = c; geometry = g; reading = reading };
          is_view = record {
            backing = heads.supers.backing;
            cache = heads.supers.cache;
            geometry = heads.supers.geometry;
            reading = record { entries = heads.journal.entries; newest = refl; gens = heads.chain; nodes = tree.walk };
          };
          openable = record {
            superblocks = heads.supers.fit;
            backing = record { bucket = heads.uuids.bucket; place = heads.uuids.place; entries = heads.uuids.entries; table = heads.uuids.table; first = heads.uuids.first };
            ranges = tree.ranges;
            pointers = subst (λ n. HasPointers g n reading) is_size (record { nodes = tree.node_keys; root = tree.end; uuid = (heads.uuids.some, heads.uuids.ptrs); data_keys = own.points.data_keys });
            once = record { one = one_use rule reading own.once; nodes = tree.apart };
            spare = spare_buckets rule reading own.count own.spare own.enough;
            room = record { number = heads.journal.number; all = heads.journal.entries.all; stand = heads.journal.entries.stand; room = subst (λ (es : List FoundEntry). HasRoom g es j.entries newest) (sym heads.journal.all) heads.journal.room };
          };
          backing = refl;
          cache = refl;
          geometry = refl;
          journal = heads.journal;
          entries = refl;
          gens = refl;
          nodes = sym tree.visits;
          index = subst (λ (ks : List Key). AreLastOfAll ks index) all last;
          uses = tells_uses rule reading table own.uses;
        }

-- the kind that a use is
pub record KindAs (g : Geometry) (reading : Reading) (u : Use) (b : ℕ) : Type 0 where
  pub kind : Kind
  pub is : use_of kind ≡ u
  pub used : IsUsedFor g reading kind b

module _ (r : Rule) (reading : Reading) where
  pub kind_as : (u : Use) (b : ℕ) → IsUse (held_of r reading.gens reading.newest.item.uuid_bucket (map visit_of reading.nodes) (keys_of reading)) u b → KindAs r.geometry reading u b
  unfolding use_of
  kind_as uses.None b use_ = absurd use_
  kind_as uses.Super b use_ = record { kind = Super; is = refl; used = use_ }
  kind_as uses.Journal b use_ = record { kind = OfJournal; is = refl; used = use_ }
  kind_as uses.Priority b use_ = record { kind = Priority; is = refl; used = use_ }
  kind_as uses.Uuid b use_ = record { kind = Uuid; is = refl; used = use_ }
  kind_as uses.Node b use_ = record { kind = OfNode; is = refl; used = taken_nodes r.geometry reading.nodes b use_ }
  kind_as uses.Data b (sector, key, l) = record { kind = Data; is = refl; used = (sector, key, record { last = l.last; live = l.live; place = l.place }) }
