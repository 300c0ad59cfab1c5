-- What was read of a device that holds the pair of a survey.
use Rattle.std.proofs.Common.{◌≡◌, ◌≢◌, ◌⊎◌, inl, inr, ℕ, zero, suc, ◌+◌, ◌-◌, ◌<◌, List, [], ◌∷◌, ◌++◌, length, length-append, Option, Some, None, refl, sym, ap, ◌∙◌, subst, arith}
use Rattle.std.specs.Prelude.{All, Any, Contains, slice_get}
use Rattle.std.proofs.lemmas.List.{append-nil}
use Rattle.std.proofs.lemmas.List.Elements.{All-cons, All-contains, All-nil, Contains-push}
use Rattle.bc_disk.specs.Disk.{DiskFacts, IfTold}
use Rattle.bc_disk.specs.declared.disk.Device.TheVariants as device
use Rattle.bc_disk.specs.declared.geometry.Geometry.{Geometry}
use Rattle.bc_image.specs.Children.{children_of}
use Rattle.bc_image.specs.Pair.{Pair}
use Rattle.bc_image.specs.Sound.{IsNodeKey, KeepsRange}
use Rattle.bc_image.specs.Tree.{AreSetsAt, AreWalks, IsWalk, Node, node_of, set_keys}
use Rattle.bc_inner.specs.Inner.{Inner}
use Rattle.bc_inner.specs.Loading.{IsHeldInner}
use Rattle.bc_jset.specs.EntryBytes.{IsLevel}
use Rattle.bc_jset.specs.Entries.{AreEntries, FoundEntry, StandsInJournal}
use Rattle.bc_jset.proofs.Entries.{newest_is_last, stand_in_journal}
use Rattle.bc_key.specs.declared.key.Key.{Key}
use Rattle.bc_model.specs.Sector.{Image}
use Rattle.bc_node.specs.declared.error.NodeError.{NodeError}
use Rattle.bc_replay.specs.declared.error.OpenError.{OpenError}
use Rattle.bc_replay.specs.declared.error.OpenError.TheVariants as errors
use Rattle.bc_set.specs.declared.set.Set.{Set}
use Rattle.bc_spine.specs.Leaves.{IsRow}
use Rattle.bc_tree.proofs.Proper.{read_is_proper}
use Rattle.bc_tree.specs.Spine.{AreInner, Covers, IsNewSpine, IsProper, IsRootOf, IsSpine, NameLeaves, NameNodes, Spine, bottom, children_in}
use Rattle.bc_walk.specs.Walk.{IsNodeFault}
use Rattle.bc_walk.proofs.OneFault.{no_fault}
use Rattle.bc_recover.specs.Read.{IsReadOf}
use Rattle.bc_replay.specs.declared.held.Survey.{Survey}
use Rattle.bc_regrow.specs.Held.{AreHeldBelow, AreUnder, IsBelowCause, IsChildAt, IsInnerCause}
use Rattle.bc_regrow.specs.Parts.{AreOfNodes, AreRangesOf, inner_nodes, leaf_nodes}
use Rattle.bc_regrow.specs.Tree.{IsTreeCause, IsTreeOf, OfRead}
use Rattle.bc_regrow.proofs.Nodes.{keys_of, ranges_of}
use Rattle.bc_regrow.proofs.Walks.{AreReadBelow, IsReadOff, MetAt, below_met, inner_walks, leaf_walks, root_met, same_sets}

-- a device that tells holds this image
read_off : (g : Geometry) (d : DiskFacts) (image : Image) (key : Key) (level from : ℕ) (inner : Inner) → d.holds ≡ Some image → IsHeldInner g key level from d inner → IsReadOff g image key level from inner
read_off g d image key level from inner told (sets, held, is) = (sets, subst (λ (o : Option Image). IfTold o (λ x. AreSetsAt g x level key sets)) told held, is)

read_below : (g : Geometry) (d : DiskFacts) (image : Image) (from : ℕ) (keys : List Key) (nodes : List Inner) → d.holds ≡ Some image → AreHeldBelow g d from keys nodes → AreReadBelow g image from keys nodes
read_below g d image from [] [] told held = tt
read_below g d image from [] (node ∷ nodes) told held = absurd held
read_below g d image from (key ∷ keys) [] told held = absurd held
read_below g d image from (key ∷ keys) (node ∷ nodes) told held = (read_off g d image key 1 from node told held.0, read_below g d image key.end keys nodes told held.1)

-- ---- the tree

module _ (g : Geometry) (d : DiskFacts) (image : Image) (told : d.holds ≡ Some image) (root_key : Key) (root : Inner) (below : List Inner) (tree : Spine) (new : IsNewSpine g root below tree)
    (spine : IsSpine tree.geometry tree.root tree.below tree.leaves) (end : ℕ) (row : IsRow 0 tree.leaves end) where
  -- what the spine says, of the nodes that it was made of
  names : IsSpine g root below tree.leaves
  names =
      subst (λ (x : Geometry). IsSpine x root below tree.leaves) new.geometry
      (subst (λ (r : Inner). IsSpine tree.geometry r below tree.leaves) new.root_is (subst (λ (ns : List Inner). IsSpine tree.geometry tree.root ns tree.leaves) new.below_are spine))

  abbrev Top : List Node → Type 0
  Top nodes = AreOfNodes g (inner_nodes nodes) (root ∷ below) → AreOfNodes g (inner_nodes nodes) (tree.root ∷ tree.below)

  top : (nodes : List Node) → Top nodes
  top nodes of =
      subst (λ (r : Inner). AreOfNodes g (inner_nodes nodes) (r ∷ tree.below)) (sym new.root_is) (subst (λ (ns : List Inner). AreOfNodes g (inner_nodes nodes) (root ∷ ns)) (sym new.below_are) of)

  pub tree_one : (nodes : List Node) → IsWalk g image 1 0 root_key nodes → IsHeldInner g root_key 1 0 d root → below ≡ [] → IsTreeOf g nodes tree
  tree_one nodes (sets, under, at, walks, is) held none =
      let of = same_sets g image root_key 1 0 sets root at (read_off g d image root_key 1 0 root told held) in
      let l = leaf_walks g image 0 (children_of (set_keys sets)) under walks in
      let inner : inner_nodes nodes ≡ node_of 1 0 root_key sets ∷ [] = ap inner_nodes is ∙ ap (λ (ns : List Node). node_of 1 0 root_key sets ∷ ns) l.none in
      let leaves : leaf_nodes nodes ≡ leaf_nodes under = ap leaf_nodes is in
      let keys : children_in (bottom root below) ≡ keys_of (leaf_nodes under) = ap (λ (ns : List Inner). children_in (bottom root ns)) none ∙ append-nil root.children ∙ of.children ∙ sym l.keys in
      record {
        geometry = new.geometry;
        inner = top nodes (subst (λ (ns : List Node). AreOfNodes g ns (root ∷ below)) (sym inner) (subst (λ (ns : List Inner). AreOfNodes g (node_of 1 0 root_key sets ∷ []) (root ∷ ns)) (sym none) (of, tt)));
        leaves = subst (λ (ns : List Node). AreRangesOf ns tree.leaves) (sym leaves) (ranges_of 0 end (leaf_nodes under) tree.leaves (subst (λ (ks : List Key). NameLeaves ks tree.leaves) keys names.names) row l.row);
        counted = new.counted;
      }

  pub tree_two : (nodes : List Node) → IsWalk g image 2 0 root_key nodes → IsHeldInner g root_key 2 0 d root → AreHeldBelow g d root.from root.children below → (some : (x : Inner) × (xs : List Inner) × (below ≡ x ∷ xs)) → IsTreeOf g nodes tree
  tree_two nodes (sets, under, at, walks, is) held held_below (x, xs, some) =
      let of = same_sets g image root_key 2 0 sets root at (read_off g d image root_key 2 0 root told held) in
      let read = read_below g d image root.from root.children below told held_below in
      let read_here = subst (λ n. AreReadBelow g image n (children_of (set_keys sets)) below) of.begins (subst (λ (ks : List Key). AreReadBelow g image root.from ks below) of.children read) in
      let b = inner_walks g image 0 (children_of (set_keys sets)) below under walks read_here names.cover.1 in
      let inner : inner_nodes nodes ≡ node_of 2 0 root_key sets ∷ inner_nodes under = ap inner_nodes is in
      let leaves : leaf_nodes nodes ≡ leaf_nodes under = ap leaf_nodes is in
      let keys : children_in (bottom root below) ≡ keys_of (leaf_nodes under) = ap (λ (ns : List Inner). children_in (bottom root ns)) some ∙ ap children_in (sym some) ∙ sym b.keys in
      record {
        geometry = new.geometry;
        inner = top nodes (subst (λ (ns : List Node). AreOfNodes g ns (root ∷ below)) (sym inner) (of, b.inner));
        leaves = subst (λ (ns : List Node). AreRangesOf ns tree.leaves) (sym leaves) (ranges_of 0 end (leaf_nodes under) tree.leaves (subst (λ (ks : List Key). NameLeaves ks tree.leaves) keys names.names) row b.row);
        counted = new.counted;
      }

-- ---- refusals

module _ (g : Geometry) (image : Image) (nodes : List Node) (ranges : All KeepsRange nodes) (keys : All (λ n. IsNodeKey g n.key) nodes) where
  -- a node that the walk met has no fault
  pub no_cause : (d : DiskFacts) (level from : ℕ) (key : Key) (e : OpenError) → d.holds ≡ Some image → MetAt g image level from key nodes → IsInnerCause g level from key d e
      → (e ≡ errors.Memory) ⊎ (e ≡ errors.Fault device.Cache)
  no_cause d level from key e told m cause = go e cause
    where
      n : Node
      n = node_of level from key m.sets

      go : (e : OpenError) → IsInnerCause g level from key d e → (e ≡ errors.Memory) ⊎ (e ≡ errors.Fault device.Cache)
      go (errors.Fault device.Cache) so = inr refl
      go (errors.Fault device.Backing) so = absurd so
      go errors.Memory so = inl refl
      go (errors.PointerRange word) so = absurd (so (All-contains (λ (x : Node). IsNodeKey g x.key) nodes (node_of level from key m.sets) keys m.met))
      go (errors.Node bucket why) so =
          absurd (no_fault g image level from key why m.sets (record { stand = m.at; within = All-contains KeepsRange nodes (node_of level from key m.sets) ranges m.met })
          (subst (λ (o : Option Image). IfTold o (λ x. IsNodeFault g x level from key why)) told so))
      go (errors.Super k why) so = absurd so
      go errors.NoJournal so = absurd so
      go (errors.JournalGap a b) so = absurd so
      go (errors.JournalEnd seq) so = absurd so
      go (errors.Prio why) so = absurd so
      go errors.Uuid so = absurd so
      go (errors.TwoUses bucket) so = absurd so
      go (errors.NoSpare found) so = absurd so

-- ---- the parts of a spine

-- children that cover a range are some
some_child : (keys : List Key) (end : ℕ) → Any (λ (k : Key). k.end ≡ end) keys → (x : Key) × (xs : List Key) × (keys ≡ x ∷ xs)
some_child [] end any = absurd (let low = any.2 in omega (arith, low))
some_child (x ∷ xs) end any = (x, xs, refl)

some_node : (g : Geometry) (d : DiskFacts) (from : ℕ) (keys : List Key) (nodes : List Inner) → AreHeldBelow g d from keys nodes → (x : Key) × (xs : List Key) × (keys ≡ x ∷ xs) → (y : Inner) × (ys : List Inner) × (nodes ≡ y ∷ ys)
some_node g d from [] [] held (x, xs, is) = absurd (cc)
some_node g d from [] (y ∷ ys) held some = absurd held
some_node g d from (k ∷ keys) [] held some = absurd held
some_node g d from (k ∷ keys) (y ∷ ys) held some = (y, ys, refl)

names_of : (g : Geometry) (d : DiskFacts) (from : ℕ) (keys : List Key) (nodes : List Inner) → AreHeldBelow g d from keys nodes → NameNodes from keys nodes
names_of g d from [] [] held = tt
names_of g d from [] (y ∷ ys) held = absurd held
names_of g d from (k ∷ keys) [] held = absurd held
names_of g d from (k ∷ keys) (y ∷ ys) held = let of = held.0.2 in (of.level_is, of.begins, of.ends, of.ptr, names_of g d k.end keys ys held.1)

proper_of : (g : Geometry) (d : DiskFacts) (from : ℕ) (keys : List Key) (nodes : List Inner) → AreHeldBelow g d from keys nodes → All (IsProper g) nodes
proper_of g d from [] [] held = All-nil (IsProper g)
proper_of g d from [] (y ∷ ys) held = absurd held
proper_of g d from (k ∷ keys) [] held = absurd held
proper_of g d from (k ∷ keys) (y ∷ ys) held = All-cons (IsProper g) y ys (read_is_proper g k 1 from held.0.0 y held.0.2) (proper_of g d k.end keys ys held.1)

module _ (g : Geometry) (d : DiskFacts) (level : ℕ) (key : Key) (root : Inner) (below : List Inner) (held : IsHeldInner g key level 0 d root) (under : AreUnder g d root below) where
  -- a root of level 2 has children
  pub some_below : (n : ℕ) → level ≡ suc n → AreHeldBelow g d root.from root.children below → (y : Inner) × (ys : List Inner) × (below ≡ y ∷ ys)
  some_below n is held_below =
      let of = held.2 in
      let within = subst (λ m. KeepsRange (node_of m 0 key held.0)) is of.within in
      let some = some_child (children_of (set_keys held.0)) key.end within.cover.1 in
      some_node g d root.from root.children below held_below (some.0, some.1, of.children ∙ some.2)

  root_of : IsLevel level → IsRootOf root below
  root_of known = go known under
    where
      go : (level ≡ 1) ⊎ (level ≡ 2) → AreUnder g d root below → IsRootOf root below
      go known (inl (one, none)) = subst (λ (ns : List Inner). IsRootOf root ns) (sym none) one
      go (inl one) (inr (not_one, held_below)) = absurd (not_one (held.2.level_is ∙ one))
      go (inr two) (inr (not_one, held_below)) =
          let some = some_below 1 two held_below in
          let names = names_of g d root.from root.children below held_below in
          subst (λ (ns : List Inner). IsRootOf root ns) (sym some.2) (held.2.level_is ∙ two, subst (λ (ns : List Inner). NameNodes root.from root.children ns) some.2 names)

  all_proper : AreUnder g d root below → All (IsProper g) below
  all_proper (inl (one, none)) = subst (λ (ns : List Inner). All (IsProper g) ns) (sym none) (All-nil (IsProper g))
  all_proper (inr (not_one, held_below)) = proper_of g d root.from root.children below held_below

  pub are_inner : IsLevel level → AreInner g root below
  are_inner known = record {
    begins = held.2.begins;
    root_of = root_of known;
    root_is_proper = read_is_proper g key level 0 held.0 root held.2;
    proper = all_proper under;
  }

-- ---- the newest entry

last_of : (xs : List FoundEntry) (n : FoundEntry) (k : ℕ) → k ≡ length xs → slice_get (xs ++ n ∷ []) k ≡ Some n
last_of [] n zero is = refl
last_of [] n (suc k) is = absurd (omega (arith, is))
last_of (x ∷ xs) n zero is = absurd (omega (arith, is))
last_of (x ∷ xs) n (suc k) is = last_of xs n k (omega (arith, is))

one_entry : (o : Option FoundEntry) (a b : FoundEntry) → o ≡ Some a → o ≡ Some b → a ≡ b
one_entry o a b p q = cc

module _ (g : Geometry) (image : Image) (es : List FoundEntry) (entries : AreEntries g image es) where
  newest_at : (newest : FoundEntry) → slice_get es (length es - 1) ≡ Some newest → entries.newest ≡ newest
  newest_at newest at =
      let last = newest_is_last g image es entries in
      let long = ap (λ (xs : List FoundEntry). length xs) last.1 in
      let both = length-append last.0 (entries.newest ∷ []) in
      let size : length es - 1 ≡ length last.0 = omega (arith, long, both) in
      one_entry (slice_get es (length es - 1)) entries.newest newest
      (ap (λ (xs : List FoundEntry). slice_get xs (length es - 1)) last.1 ∙ last_of last.0 entries.newest (length es - 1) size) at

  known_level : IsLevel entries.newest.item.level
  known_level =
      let last = newest_is_last g image es entries in
      let has : Contains es entries.newest = subst (λ (xs : List FoundEntry). Contains xs entries.newest) (sym last.1) (Contains-push last.0 entries.newest) in
      let s = All-contains (StandsInJournal g image) es entries.newest (stand_in_journal g image es entries) has in
      let found = s.4 in
      found.known_level

  none_at_all : length es ≡ 0 → ⊥
  none_at_all none =
      let last = newest_is_last g image es entries in
      let long = ap (λ (xs : List FoundEntry). length xs) last.1 in
      let both = length-append last.0 (entries.newest ∷ []) in
      omega (arith, long, both, none)

-- ---- of a survey

pub of_read : (s : Survey) (d : DiskFacts) (P : (p : Pair) → IsReadOf s p → Type 0) → ((p : Pair) (h : IsReadOf s p) → d.holds ≡ Some p.cache → P p h) → OfRead s d P
of_read s d P f = go d.holds refl
  where
    go : (o : Option Image) → d.holds ≡ o → IfTold o (λ image. (p : Pair) → (h : IsReadOf s p) → p.cache ≡ image → P p h)
    go None is = tt
    go (Some image) is = λ p h same. f p h (is ∙ ap (λ (x : Image). Some x) (sym same))

module _ (s : Survey) (p : Pair) (h : IsReadOf s p) where
  abbrev geometry : Geometry
  geometry = s.supers.geometry

  pub entries : AreEntries geometry p.cache s.journal.entries
  entries = h.journal.entries

  pub no_entries : length s.journal.entries ≡ 0 → ⊥
  no_entries none = none_at_all geometry p.cache s.journal.entries entries none

  module _ (newest : FoundEntry) (at : slice_get s.journal.entries (length s.journal.entries - 1) ≡ Some newest) where
    pub level_is : IsLevel newest.item.level
    level_is = subst (λ (e : FoundEntry). IsLevel e.item.level) (newest_at geometry p.cache s.journal.entries entries newest at) (known_level geometry p.cache s.journal.entries entries)

    pub walk_is : IsWalk geometry p.cache newest.item.level 0 newest.item.root h.view.reading.nodes
    walk_is =
        let r = h.view.reading in
        let reading = h.is_view.reading in
        let es = subst (λ (xs : List FoundEntry). slice_get xs (length xs - 1) ≡ Some newest) (sym h.entries) at in
        let same : r.newest ≡ newest = sym reading.newest ∙ newest_at h.view.geometry p.cache r.entries reading.entries newest es in
        subst (λ (x : Geometry). IsWalk x p.cache newest.item.level 0 newest.item.root r.nodes) h.geometry
        (subst (λ (e : FoundEntry). IsWalk h.view.geometry p.cache e.item.level 0 e.item.root r.nodes) same reading.nodes)

  pub node_keys : All (λ n. IsNodeKey geometry n.key) h.view.reading.nodes
  node_keys = subst (λ (x : Geometry). All (λ n. IsNodeKey x n.key) h.view.reading.nodes) h.geometry h.openable.pointers.nodes

-- where no pair has what was read, or the device doesn't hold one
pub never_read : (s : Survey) (d : DiskFacts) → ((p : Pair) → IsReadOf s p → d.holds ≡ Some p.cache → ⊥) → (e : OpenError) → IsTreeCause s d e
never_read s d never (errors.Fault device.Cache) = tt
never_read s d never (errors.Fault device.Backing) = of_read s d (λ p h. ⊥) never
never_read s d never errors.Memory = tt
never_read s d never (errors.PointerRange word) = of_read s d (λ p h. ⊥) never
never_read s d never (errors.Node bucket why) = of_read s d (λ p h. ⊥) never
never_read s d never (errors.Super k why) = of_read s d (λ p h. ⊥) never
never_read s d never errors.NoJournal = of_read s d (λ p h. ⊥) never
never_read s d never (errors.JournalGap a b) = of_read s d (λ p h. ⊥) never
never_read s d never (errors.JournalEnd seq) = of_read s d (λ p h. ⊥) never
never_read s d never (errors.Prio why) = of_read s d (λ p h. ⊥) never
never_read s d never errors.Uuid = of_read s d (λ p h. ⊥) never
never_read s d never (errors.TwoUses bucket) = of_read s d (λ p h. ⊥) never
never_read s d never (errors.NoSpare found) = of_read s d (λ p h. ⊥) never

-- a cause that is one of memory or of the device wherever a pair is held
pub cause_of : (s : Survey) (d : DiskFacts) (e : OpenError) → ((p : Pair) → IsReadOf s p → d.holds ≡ Some p.cache → (e ≡ errors.Memory) ⊎ (e ≡ errors.Fault device.Cache)) → IsTreeCause s d e
cause_of s d (errors.Fault device.Cache) f = tt
cause_of s d errors.Memory f = tt
cause_of s d (errors.Fault device.Backing) f = of_read s d (λ p h. ⊥) (λ p h told. elim (f p h told) [ inl is ↦ absurd (cc) | inr is ↦ absurd (cc) ])
cause_of s d (errors.PointerRange word) f = of_read s d (λ p h. ⊥) (λ p h told. elim (f p h told) [ inl is ↦ absurd (cc) | inr is ↦ absurd (cc) ])
cause_of s d (errors.Node bucket why) f = of_read s d (λ p h. ⊥) (λ p h told. elim (f p h told) [ inl is ↦ absurd (cc) | inr is ↦ absurd (cc) ])
cause_of s d (errors.Super k why) f = of_read s d (λ p h. ⊥) (λ p h told. elim (f p h told) [ inl is ↦ absurd (cc) | inr is ↦ absurd (cc) ])
cause_of s d errors.NoJournal f = of_read s d (λ p h. ⊥) (λ p h told. elim (f p h told) [ inl is ↦ absurd (cc) | inr is ↦ absurd (cc) ])
cause_of s d (errors.JournalGap a b) f = of_read s d (λ p h. ⊥) (λ p h told. elim (f p h told) [ inl is ↦ absurd (cc) | inr is ↦ absurd (cc) ])
cause_of s d (errors.JournalEnd seq) f = of_read s d (λ p h. ⊥) (λ p h told. elim (f p h told) [ inl is ↦ absurd (cc) | inr is ↦ absurd (cc) ])
cause_of s d (errors.Prio why) f = of_read s d (λ p h. ⊥) (λ p h told. elim (f p h told) [ inl is ↦ absurd (cc) | inr is ↦ absurd (cc) ])
cause_of s d errors.Uuid f = of_read s d (λ p h. ⊥) (λ p h told. elim (f p h told) [ inl is ↦ absurd (cc) | inr is ↦ absurd (cc) ])
cause_of s d (errors.TwoUses bucket) f = of_read s d (λ p h. ⊥) (λ p h told. elim (f p h told) [ inl is ↦ absurd (cc) | inr is ↦ absurd (cc) ])
cause_of s d (errors.NoSpare found) f = of_read s d (λ p h. ⊥) (λ p h told. elim (f p h told) [ inl is ↦ absurd (cc) | inr is ↦ absurd (cc) ])

-- ---- the answers of a reading

module _ (s : Survey) (d : DiskFacts) (newest : FoundEntry) (at : slice_get s.journal.entries (length s.journal.entries - 1) ≡ Some newest) where
  pub refuse_root : (e : OpenError) → 0 < newest.item.level → IsInnerCause s.supers.geometry newest.item.level 0 newest.item.root d e → IsTreeCause s d e
  refuse_root e some cause =
      cause_of s d e (λ p h told.
      no_cause s.supers.geometry p.cache h.view.reading.nodes h.openable.ranges (node_keys s p h) d newest.item.level 0 newest.item.root e told
      (root_met s.supers.geometry p.cache newest.item.level 0 newest.item.root h.view.reading.nodes some (walk_is s p h newest at)) cause)

  pub refuse_level : (e : OpenError) → ¬ (IsLevel newest.item.level) → IsTreeCause s d e
  refuse_level e not_level = never_read s d (λ p h told. not_level (level_is s p h newest at)) e

  module _ (root : Inner) (held : IsHeldInner s.supers.geometry newest.item.root newest.item.level 0 d root) where
    pub refuse_below : (e : OpenError) → root.level ≢ 1 → IsBelowCause s.supers.geometry root.from root.children d e → IsTreeCause s d e
    refuse_below e not_one (inl memory) = cause_of s d e (λ p h told. inl memory)
    refuse_below e not_one (inr (low, key, child, cause)) = cause_of s d e (λ p h told. go p h told (level_is s p h newest at))
      where
        go : (p : Pair) (h : IsReadOf s p) → d.holds ≡ Some p.cache → IsLevel newest.item.level → (e ≡ errors.Memory) ⊎ (e ≡ errors.Fault device.Cache)
        go p h told (inl one) = absurd (not_one (held.2.level_is ∙ one))
        go p h told (inr two) =
            let g = s.supers.geometry in
            let root_key = newest.item.root in
            let walk = subst (λ n. IsWalk g p.cache n 0 root_key h.view.reading.nodes) two (walk_is s p h newest at) in
            let read = subst (λ n. IsReadOff g p.cache root_key n 0 root) two (read_off g d p.cache root_key newest.item.level 0 root told held) in
            no_cause g p.cache h.view.reading.nodes h.openable.ranges (node_keys s p h) d 1 low key e told (below_met g p.cache root_key root h.view.reading.nodes low key walk read child) cause

    pub tree_found : (below : List Inner) (tree : Spine) (end : ℕ) → AreUnder s.supers.geometry d root below → IsNewSpine s.supers.geometry root below tree → IsSpine tree.geometry tree.root tree.below tree.leaves → IsRow 0 tree.leaves end
        → OfRead s d (λ p h. IsTreeOf h.view.geometry h.view.reading.nodes tree)
    tree_found below tree end under new spine row =
        of_read s d (λ p h. IsTreeOf h.view.geometry h.view.reading.nodes tree)
        (λ p h told. subst (λ (x : Geometry). IsTreeOf x h.view.reading.nodes tree) (sym h.geometry) (go p h told (level_is s p h newest at) under))
      where
        go : (p : Pair) (h : IsReadOf s p) → d.holds ≡ Some p.cache → IsLevel newest.item.level → AreUnder s.supers.geometry d root below → IsTreeOf s.supers.geometry h.view.reading.nodes tree
        go p h told (inl one) (inl (is_one, none)) =
            let g = s.supers.geometry in
            let root_key = newest.item.root in
            tree_one g d p.cache told root_key root below tree new spine end row h.view.reading.nodes
            (subst (λ n. IsWalk g p.cache n 0 root_key h.view.reading.nodes) one (walk_is s p h newest at)) (subst (λ n. IsHeldInner g root_key n 0 d root) one held) none
        go p h told (inl one) (inr (not_one, held_below)) = absurd (not_one (held.2.level_is ∙ one))
        go p h told (inr two) (inl (is_one, none)) = absurd (let bad : 1 ≡ 2 = sym is_one ∙ held.2.level_is ∙ two in omega (arith, bad))
        go p h told (inr two) (inr (not_one, held_below)) =
            let g = s.supers.geometry in
            let root_key = newest.item.root in
            tree_two g d p.cache told root_key root below tree new spine end row h.view.reading.nodes
            (subst (λ n. IsWalk g p.cache n 0 root_key h.view.reading.nodes) two (walk_is s p h newest at)) (subst (λ n. IsHeldInner g root_key n 0 d root) two held) held_below
            (some_below g d newest.item.level root_key root below held (inr (not_one, held_below)) 1 two held_below)
