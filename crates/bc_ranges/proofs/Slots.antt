-- What is known of the keys in each slot's node, and that each event of the parts keeps it.
use Rattle.std.proofs.Common.{◌≡◌, ◌≢◌, ◌⊎◌, inl, inr, ℕ, suc, ◌+◌, ◌-◌, ◌%◌, ◌^◌, ◌<◌, ◌≤◌, Bool, true, false, List, [], ◌∷◌, ◌++◌, Option, Some, None, refl, sym, ap, ◌∙◌, subst, arith, if◌then◌else◌, ◌==◌, ◌&&◌, nat_le, nat_lt}
use Rattle.std.specs.Prelude.{All, not}
use Rattle.std.proofs.lemmas.Bool.{cases_lt}
use Rattle.bc_disk.specs.declared.geometry.Geometry.{Geometry}
use Rattle.bc_model.specs.Sector.{Value}
use Rattle.bc_key.specs.declared.key.Key.{Key}
use Rattle.bc_key.specs.Key.{start_of, pointer_of}
use Rattle.bc_set.specs.declared.set.Set.{Set}
use Rattle.bc_image.specs.Children.{children_of}
use Rattle.bc_image.specs.Sound.{IsNodeKey}
use Rattle.bc_image.specs.Tree as image
use Rattle.bc_facts.specs.Seen.{seen_set, seen_sets}
use Rattle.bc_facts.proofs.Stood.{all_in, in_all, in_either}
use Rattle.bc_facts.proofs.Place.{by_lt}
use Rattle.bc_meta.specs.Facts.{In}
use Rattle.bc_meta.specs.Keys.{covers, ref_by}
use Rattle.bc_meta.specs.Entries.{Entry}
use Rattle.bc_meta.specs.Tree.{NodeSet, set_keys}
use Rattle.bc_meta.specs.Records.{MayStand, Node, Records, failed_node, loose_node, new_node, put, sent_node, stable_node}
use Rattle.bc_meta.proofs.Lists.{by_test, by_le}
use Rattle.bc_leaves.specs.Keys.{SaysSame, last_said}
use Rattle.bc_leaves.specs.Parts.{InnerNode, InRange, Leaf, NoNode, Role, Stays, State, inner_node_of, keys_of, leaf_owner, node_of}
use Rattle.bc_leaves.specs.Parts as parts
use Rattle.bc_leaves.specs.Events.{Barrier, BeginBucket, BeginChange, Elsewhere, Event, FailElsewhere, FailEntry, FailFill, FailParent, FailSet, Fill, ForgetDrafts, Insert, Install, MakeDurable, NewInner, NewLeaf, Reuse, Seal, SealRoot, SetParent, WriteEntry, WriteSet, new_root, same_root}
use Rattle.bc_leaves.specs.Fits.{Fits}
use Rattle.bc_leaves.specs.Enabled.{IsEnabled, IsVacant}
use Rattle.bc_leaves.specs.After.{after}
use Rattle.bc_leaves.proofs.Contents.{free_live, live_some, stays_live}
use Rattle.bc_known.proofs.Slots.{AreOld, change_slots, forget_slots, install_slots}
use Rattle.bc_ranges.specs.Made.{AreNewKeys, Frame, IsGoodEntry, IsInnerKey, IsInnerSet}
use Rattle.bc_ranges.proofs.Lists.{keys_more, no_more, seen_more, with_join, withs_in}

-- ---- leaves

-- these sectors are the key's range or more
abbrev pub Lies : ℕ → ℕ → Key → Type 0
Lies from end key = (from ≤ start_of key) × (key.end ≤ end)

pub record LeafMade (n : Node) (from end : ℕ) : Type 0 where
  pub ends : end % 256 ≡ 0
  pub sets : (key : Key) → In key (set_keys n.sets) → Lies from end key
  pub last : MayStand n → (key : Key) → In key n.last.keys → Lies from end key

not_said : (keys : List Key) (s : ℕ) → last_said keys s ≡ None → (key : Key) → In key keys → covers key s ≡ false
not_said [] s none key i = absurd i
not_said (k ∷ ks) s none key i = go (not_said ks s) (covers k s) refl none i
  where
    go : (last_said ks s ≡ None → (y : Key) → In y ks → covers y s ≡ false) → (b : Bool) → covers k s ≡ b → (if b then Some (ref_by k s (pointer_of k)) else last_said ks s) ≡ None → In key (k ∷ ks) → covers key s ≡ false
    go ih true e h j = absurd (cc)
    go ih false e h (inl same) = subst (λ (x : Key). covers x s ≡ false) (sym same) e
    go ih false e h (inr j) = ih h key j

covers_there : (key : Key) (s : ℕ) → start_of key ≤ s → s < key.end → covers key s ≡ true
covers_there key s low high =
    by_le (start_of key) s (λ b. (b && nat_lt s key.end) ≡ true)
    (λ _. by_lt s key.end (λ b. b ≡ true) (λ _. refl) (λ ge. absurd (omega (arith, ge, high)))) (λ lt. absurd (omega (arith, lt, low)))

both_ways : (b : Bool) → b ≡ true → b ≡ false → ⊥
both_ways b p q = cc

-- keys that say nothing outside of a leaf lie in it
pub said_within : (x : Leaf) (keys : List Key) → ((s : ℕ) → (InRange x s → ⊥) → last_said keys s ≡ None)
    → (key : Key) → In key keys → 0 < key.size → key.size ≤ key.end → Lies x.first x.end key
said_within x keys inside key i some whole = (low, high)
  where
    off : (s : ℕ) → start_of key ≤ s → s < key.end → (InRange x s → ⊥) → ⊥
    off s from to out = both_ways (covers key s) (covers_there key s from to) (not_said keys s (inside s out) key i)

    low : x.first ≤ start_of key
    low = elim (cases_lt (start_of key) x.first) [ inl lt ↦ absurd (off (start_of key) (omega arith) (omega (arith, some, whole)) (λ r. omega (arith, r.0, lt))) | inr ge ↦ ge ]

    high : key.end ≤ x.end
    high = elim (cases_lt x.end key.end) [ inl lt ↦ absurd (off (key.end - 1) (omega (arith, some, whole)) (omega (arith, lt)) (λ r. omega (arith, r.1, lt))) | inr ge ↦ ge ]

-- ---- inner nodes

-- the sets of an inner node over these sectors, as the formats have them
pub record InnerSets (g : Geometry) (from end : ℕ) (xs : List NodeSet) : Type 0 where
  pub sets : List Set
  pub seen : seen_sets g false sets ≡ xs
  pub within : (key : Key) → In key (image.set_keys sets) → (from < key.end) × (key.end ≤ end)
  pub children : (key : Key) → In key (children_of (image.set_keys sets)) → IsNodeKey g key

pub no_sets : (g : Geometry) (from end : ℕ) → InnerSets g from end []
no_sets g from end = record { sets = []; seen = refl; within = λ key i. absurd i; children = λ key i. absurd i }

pub more_sets : (g : Geometry) (from end : ℕ) (x : NodeSet) (xs : List NodeSet) → IsInnerSet g from end x → InnerSets g from end xs → InnerSets g from end (x ∷ xs)
more_sets g from end x xs new old =
    let keys : image.set_keys (old.sets ++ (new.set ∷ [])) ≡ image.set_keys old.sets ++ new.set.keys =
    keys_more old.sets (new.set ∷ []) ∙ ap (λ l. image.set_keys old.sets ++ l) (no_more new.set.keys) in
    record {
      sets = old.sets ++ (new.set ∷ []);
      seen = seen_more g false old.sets new.set ∙ ap (λ (s : NodeSet). s ∷ seen_sets g false old.sets) new.seen ∙ ap (λ (l : List NodeSet). x ∷ l) old.seen;
      within = λ key i. elim (in_either key (image.set_keys old.sets) new.set.keys (subst (λ (l : List Key). In key l) keys i)) [
        | inl j ↦ old.within key j
        | inr j ↦ (let k = all_in (IsInnerKey g from end) new.set.keys key new.keys j in (k.low, k.high))
      ];
      children = λ key i.
          elim (withs_in key new.set.keys (children_of (image.set_keys old.sets))
          (subst (λ (l : List Key). In key l) (ap children_of keys ∙ with_join (image.set_keys old.sets) new.set.keys []) i)) [
            | inl h ↦ (all_in (IsInnerKey g from end) new.set.keys key new.keys h.0).child (pointed key h.1)
            | inr j ↦ old.children key j
          ];
    }
  where
    pointed : (key : Key) → not (nat_lt 0 key.count) ≡ false → 0 < key.count
    pointed key = by_lt 0 key.count (λ b. not b ≡ false → 0 < key.count) (λ lt _. lt) (λ _ e. absurd (cc))

pub record InnerMade (g : Geometry) (n : Node) (from end : ℕ) : Type 0 where
  pub ends : end % 256 ≡ 0
  pub sets : InnerSets g from end n.sets
  pub last : MayStand n → IsInnerSet g from end n.last

-- ---- all of them

pub record AreMade (f : Frame) (st : State) : Type 0 where
  pub leaves : (i : ℕ) → (st.leaves i).role ≢ NoNode → LeafMade (st.records.nodes (st.leaves i).bucket) (st.leaves i).first (st.leaves i).end
  pub inner_nodes : (i : ℕ) → (st.inner_nodes i).role ≢ NoNode
      → InnerMade f.geometry (st.records.nodes (st.inner_nodes i).bucket) (st.inner_nodes i).first (st.inner_nodes i).end
  pub newest : IsGoodEntry f.geometry f.uuid st.records.newest
  pub entry : IsGoodEntry f.geometry f.uuid st.records.entry
  pub end : st.end ≡ 2 ^ 40

-- what events of the parts bring
abbrev pub Brings : Frame → State → Event → Type 0
Brings f st (WriteSet i set values) = AreNewKeys f.geometry f.size set.keys
Brings f st (FailSet i set values) = AreNewKeys f.geometry f.size set.keys
Brings f st (NewLeaf j leaf set values) = AreNewKeys f.geometry f.size set.keys × (leaf.end % 256 ≡ 0)
Brings f st (NewInner j inner set values) = IsInnerSet f.geometry inner.first inner.end set × (inner.end % 256 ≡ 0)
Brings f st (SetParent i set values) = IsInnerSet f.geometry (st.inner_nodes i).first (st.inner_nodes i).end set
Brings f st (FailParent i set values) = IsInnerSet f.geometry (st.inner_nodes i).first (st.inner_nodes i).end set
Brings f st (Seal last_seq prio rest) = IsGoodEntry f.geometry f.uuid (same_root st.records last_seq prio rest)
Brings f st (SealRoot last_seq prio rest r) = IsGoodEntry f.geometry f.uuid (new_root st.records last_seq prio rest (st.inner_nodes r))
Brings f st e = Unit {0}

-- ---- nodes

no_stand : (n : Node) → n.sent ≡ false → n.failed ≡ false → MayStand n → ⊥
no_stand n a b (inl e) = no (sym e ∙ a)
  where
    no : true ≡ false → ⊥
    no x = cc
no_stand n a b (inr e) = no (sym e ∙ b)
  where
    no : true ≡ false → ⊥
    no x = cc

stable_leaf : (n : Node) (from end : ℕ) → LeafMade n from end → LeafMade (stable_node n) from end
stable_leaf n from end m = record { ends = m.ends; sets = λ key. sets n.sent refl key; last = λ stand. last n.sent refl stand }
  where
    sets : (b : Bool) → n.sent ≡ b → (key : Key) → In key (set_keys (if b then n.last ∷ n.sets else n.sets)) → Lies from end key
    sets true e key i = elim (in_either key n.last.keys (set_keys n.sets) i) [ inl j ↦ m.last (inl e) key j | inr j ↦ m.sets key j ]
    sets false e key i = m.sets key i

    last : (b : Bool) → n.sent ≡ b → (false ≡ true) ⊎ ((if b then false else n.failed) ≡ true) → (key : Key) → In key n.last.keys → Lies from end key
    last b e (inl h) = absurd (cc)
    last true e (inr h) = absurd (cc)
    last false e (inr h) = m.last (inr h)

stable_inner : (g : Geometry) (n : Node) (from end : ℕ) → InnerMade g n from end → InnerMade g (stable_node n) from end
stable_inner g n from end m = record { ends = m.ends; sets = sets n.sent refl; last = λ stand. last n.sent refl stand }
  where
    sets : (b : Bool) → n.sent ≡ b → InnerSets g from end (if b then n.last ∷ n.sets else n.sets)
    sets true e = more_sets g from end n.last n.sets (m.last (inl e)) m.sets
    sets false e = m.sets

    last : (b : Bool) → n.sent ≡ b → (false ≡ true) ⊎ ((if b then false else n.failed) ≡ true) → IsInnerSet g from end n.last
    last b e (inl h) = absurd (cc)
    last true e (inr h) = absurd (cc)
    last false e (inr h) = m.last (inr h)

module _ (f : Frame) (st : State) (m : AreMade f st) where
  -- another node in a bucket in which no slot is
  aside : (q : ℕ) (x : Node) → IsVacant st q → (nodes : ℕ → Node) → nodes ≡ put st.records.nodes q x
      → ((i : ℕ) → (st.leaves i).role ≢ NoNode → LeafMade (nodes (st.leaves i).bucket) (st.leaves i).first (st.leaves i).end)
      × ((i : ℕ) → (st.inner_nodes i).role ≢ NoNode → InnerMade f.geometry (nodes (st.inner_nodes i).bucket) (st.inner_nodes i).first (st.inner_nodes i).end)
  aside q x vacant nodes is = (
    λ i some. subst (λ (ns : ℕ → Node). LeafMade (ns (st.leaves i).bucket) (st.leaves i).first (st.leaves i).end) (sym is)
        (by_test (st.leaves i).bucket q (λ b. LeafMade (if b then x else st.records.nodes (st.leaves i).bucket) (st.leaves i).first (st.leaves i).end)
        (λ e. absurd (vacant.1 i some e)) (λ _. m.leaves i some)),
    λ i some. subst (λ (ns : ℕ → Node). InnerMade f.geometry (ns (st.inner_nodes i).bucket) (st.inner_nodes i).first (st.inner_nodes i).end) (sym is)
        (by_test (st.inner_nodes i).bucket q (λ b. InnerMade f.geometry (if b then x else st.records.nodes (st.inner_nodes i).bucket) (st.inner_nodes i).first (st.inner_nodes i).end)
        (λ e. absurd (vacant.2 i some e)) (λ _. m.inner_nodes i some)),
  )

  -- a further set of a leaf
  module _ (fits : Fits st) (i : ℕ) (x : Node) (live : parts.IsLive (st.leaves i).role) (here : LeafMade x (st.leaves i).first (st.leaves i).end) where
    leaf_leaves : (k : ℕ) → (st.leaves k).role ≢ NoNode → LeafMade (put st.records.nodes (st.leaves i).bucket x (st.leaves k).bucket) (st.leaves k).first (st.leaves k).end
    leaf_leaves k some = by_test (st.leaves k).bucket (st.leaves i).bucket (λ b. LeafMade (if b then x else st.records.nodes (st.leaves k).bucket) (st.leaves k).first (st.leaves k).end)
        (λ e. subst (λ (j : ℕ). LeafMade x (st.leaves j).first (st.leaves j).end) (sym (fits.buckets.one_leaf k i some (live_some (st.leaves i).role live) e)) here)
        (λ _. m.leaves k some)

    leaf_inner : (k : ℕ) → (st.inner_nodes k).role ≢ NoNode → InnerMade f.geometry (put st.records.nodes (st.leaves i).bucket x (st.inner_nodes k).bucket) (st.inner_nodes k).first (st.inner_nodes k).end
    leaf_inner k some = by_test (st.inner_nodes k).bucket (st.leaves i).bucket (λ b. InnerMade f.geometry (if b then x else st.records.nodes (st.inner_nodes k).bucket) (st.inner_nodes k).first (st.inner_nodes k).end)
        (λ e. absurd (fits.buckets.one_kind i k (live_some (st.leaves i).role live) some (sym e)))
        (λ _. m.inner_nodes k some)

  -- and of an inner node
  module _ (fits : Fits st) (i : ℕ) (x : Node) (live : parts.IsLive (st.inner_nodes i).role) (here : InnerMade f.geometry x (st.inner_nodes i).first (st.inner_nodes i).end) where
    inner_leaves : (k : ℕ) → (st.leaves k).role ≢ NoNode → LeafMade (put st.records.nodes (st.inner_nodes i).bucket x (st.leaves k).bucket) (st.leaves k).first (st.leaves k).end
    inner_leaves k some = by_test (st.leaves k).bucket (st.inner_nodes i).bucket (λ b. LeafMade (if b then x else st.records.nodes (st.leaves k).bucket) (st.leaves k).first (st.leaves k).end)
        (λ e. absurd (fits.buckets.one_kind k i some (live_some (st.inner_nodes i).role live) e))
        (λ _. m.leaves k some)

    inner_inner : (k : ℕ) → (st.inner_nodes k).role ≢ NoNode → InnerMade f.geometry (put st.records.nodes (st.inner_nodes i).bucket x (st.inner_nodes k).bucket) (st.inner_nodes k).first (st.inner_nodes k).end
    inner_inner k some = by_test (st.inner_nodes k).bucket (st.inner_nodes i).bucket (λ b. InnerMade f.geometry (if b then x else st.records.nodes (st.inner_nodes k).bucket) (st.inner_nodes k).first (st.inner_nodes k).end)
        (λ e. subst (λ (j : ℕ). InnerMade f.geometry x (st.inner_nodes j).first (st.inner_nodes j).end) (sym (fits.buckets.one_inner k i some (live_some (st.inner_nodes i).role live) e)) here)
        (λ _. m.inner_nodes k some)

  -- what a leaf's set has lies in it, since it says what is pending
  set_within : Fits st → (i : ℕ) (set : NodeSet) → parts.IsLive (st.leaves i).role → SaysSame set.keys (keys_of (st.leaves i).pending) → AreNewKeys f.geometry f.size set.keys
      → (key : Key) → In key set.keys → Lies (st.leaves i).first (st.leaves i).end key
  set_within fits i set live says new key j =
      let k = new key j in
      said_within (st.leaves i) set.keys (λ s out. says s ∙ (fits.leaves.node i live).pending_inside s out) key j k.some k.start

  pub keep_made : (e : Event) → IsEnabled st e → Fits st → Brings f st e → AreMade f (after st e)
  keep_made (Insert i key) on fits new = record { leaves = m.leaves; inner_nodes = m.inner_nodes; newest = m.newest; entry = m.entry; end = m.end }
  keep_made (BeginBucket b) on fits new = record { leaves = m.leaves; inner_nodes = m.inner_nodes; newest = m.newest; entry = m.entry; end = m.end }
  keep_made (Seal last_seq prio rest) on fits new = record { leaves = m.leaves; inner_nodes = m.inner_nodes; newest = m.newest; entry = new; end = m.end }
  keep_made (WriteEntry values) on fits new = record { leaves = m.leaves; inner_nodes = m.inner_nodes; newest = m.newest; entry = m.entry; end = m.end }
  keep_made (FailEntry values) on fits new = record { leaves = m.leaves; inner_nodes = m.inner_nodes; newest = m.newest; entry = m.entry; end = m.end }
  keep_made MakeDurable on fits new = record { leaves = m.leaves; inner_nodes = m.inner_nodes; newest = m.entry; entry = m.entry; end = m.end }
  keep_made Barrier on fits new = record {
    leaves = λ i some. stable_leaf (st.records.nodes (st.leaves i).bucket) (st.leaves i).first (st.leaves i).end (m.leaves i some);
    inner_nodes = λ i some. stable_inner f.geometry (st.records.nodes (st.inner_nodes i).bucket) (st.inner_nodes i).first (st.inner_nodes i).end (m.inner_nodes i some);
    newest = m.newest;
    entry = m.entry;
    end = m.end;
  }
  keep_made (Reuse q) on fits new = let k = aside q loose_node on (put st.records.nodes q loose_node) refl in
      record { leaves = k.0; inner_nodes = k.1; newest = m.newest; entry = m.entry; end = m.end }
  keep_made (Fill q at values) on fits new = let k = aside q loose_node on (put st.records.nodes q loose_node) refl in
      record { leaves = k.0; inner_nodes = k.1; newest = m.newest; entry = m.entry; end = m.end }
  keep_made (FailFill q at values set) on fits new = let k = aside q loose_node on (put st.records.nodes q loose_node) refl in
      record { leaves = k.0; inner_nodes = k.1; newest = m.newest; entry = m.entry; end = m.end }
  keep_made (Elsewhere at values) on fits new = record { leaves = m.leaves; inner_nodes = m.inner_nodes; newest = m.newest; entry = m.entry; end = m.end }
  keep_made (FailElsewhere at values) on fits new = record { leaves = m.leaves; inner_nodes = m.inner_nodes; newest = m.newest; entry = m.entry; end = m.end }
  keep_made (WriteSet i set values) on fits new =
      let live = free_live (st.leaves i).role on.0 in
      let old = m.leaves i (live_some (st.leaves i).role live) in
      let here : LeafMade (sent_node set (st.records.nodes (st.leaves i).bucket)) (st.leaves i).first (st.leaves i).end =
      record { ends = old.ends; sets = old.sets; last = λ _. set_within fits i set live on.4 new } in
      record {
        leaves = leaf_leaves fits i (sent_node set (st.records.nodes (st.leaves i).bucket)) live here;
        inner_nodes = leaf_inner fits i (sent_node set (st.records.nodes (st.leaves i).bucket)) live here;
        newest = m.newest;
        entry = m.entry;
        end = m.end;
      }
  keep_made (FailSet i set values) on fits new =
      let live = free_live (st.leaves i).role on.0 in
      let old = m.leaves i (live_some (st.leaves i).role live) in
      let here : LeafMade (failed_node set (st.records.nodes (st.leaves i).bucket)) (st.leaves i).first (st.leaves i).end =
      record { ends = old.ends; sets = old.sets; last = λ _. set_within fits i set live on.4 new } in
      record {
        leaves = leaf_leaves fits i (failed_node set (st.records.nodes (st.leaves i).bucket)) live here;
        inner_nodes = leaf_inner fits i (failed_node set (st.records.nodes (st.leaves i).bucket)) live here;
        newest = m.newest;
        entry = m.entry;
        end = m.end;
      }
  keep_made (NewLeaf j leaf set values) on fits new =
      let x = new_node (leaf_owner leaf) set in
      let k = aside leaf.bucket (new_node (leaf_owner leaf) set) on.1 (put st.records.nodes leaf.bucket (new_node (leaf_owner leaf) set)) refl in
      let here : LeafMade (new_node (leaf_owner leaf) set) leaf.first leaf.end =
      record { ends = new.1; sets = λ key i. absurd i; last = λ _ key i. (let a = new.0 key i in said_within leaf set.keys on.4 key i a.some a.start) } in
      record {
        leaves = λ i. by_test i j (λ b. (if b then leaf else st.leaves i).role ≢ NoNode
            → LeafMade (put st.records.nodes leaf.bucket (new_node (leaf_owner leaf) set) (if b then leaf else st.leaves i).bucket) (if b then leaf else st.leaves i).first (if b then leaf else st.leaves i).end)
            (λ _ _. by_test leaf.bucket leaf.bucket (λ b. LeafMade (if b then new_node (leaf_owner leaf) set else st.records.nodes leaf.bucket) leaf.first leaf.end) (λ _. here) (λ ne. absurd (ne refl)))
            (λ _ some. k.0 i some);
        inner_nodes = k.1;
        newest = m.newest;
        entry = m.entry;
        end = m.end;
      }
  keep_made (NewInner j inner set values) on fits new =
      let k = aside inner.bucket (new_node (parts.inner_owner inner) set) on.1 (put st.records.nodes inner.bucket (new_node (parts.inner_owner inner) set)) refl in
      let here : InnerMade f.geometry (new_node (parts.inner_owner inner) set) inner.first inner.end =
      record { ends = new.1; sets = no_sets f.geometry inner.first inner.end; last = λ _. new.0 } in
      record {
        leaves = k.0;
        inner_nodes = λ i. by_test i j (λ b. (if b then inner else st.inner_nodes i).role ≢ NoNode
            → InnerMade f.geometry (put st.records.nodes inner.bucket (new_node (parts.inner_owner inner) set) (if b then inner else st.inner_nodes i).bucket) (if b then inner else st.inner_nodes i).first (if b then inner else st.inner_nodes i).end)
            (λ _ _. by_test inner.bucket inner.bucket (λ b. InnerMade f.geometry (if b then new_node (parts.inner_owner inner) set else st.records.nodes inner.bucket) inner.first inner.end) (λ _. here) (λ ne. absurd (ne refl)))
            (λ _ some. k.1 i some);
        newest = m.newest;
        entry = m.entry;
        end = m.end;
      }
  keep_made ForgetDrafts on fits new =
      let old = forget_slots st in
      record {
        leaves = λ i some. m.leaves i (old.leaves i some).0;
        inner_nodes = λ i some. m.inner_nodes i (old.inner_nodes i some).0;
        newest = m.newest;
        entry = m.entry;
        end = m.end;
      }
  keep_made (BeginChange low high gone come old_ new_ unused) on fits new =
      let old = change_slots st low high gone come old_ new_ unused on in
      record {
        leaves = λ i some. m.leaves i (old.leaves i some).0;
        inner_nodes = λ i some. m.inner_nodes i (old.inner_nodes i some).0;
        newest = m.newest;
        entry = m.entry;
        end = m.end;
      }
  keep_made (SetParent i set values) on fits new =
      let live = stays_live (st.inner_nodes i).role on.1 in
      let old = m.inner_nodes i (live_some (st.inner_nodes i).role live) in
      let here : InnerMade f.geometry (sent_node set (st.records.nodes (st.inner_nodes i).bucket)) (st.inner_nodes i).first (st.inner_nodes i).end =
      record { ends = old.ends; sets = old.sets; last = λ _. new } in
      record {
        leaves = inner_leaves fits i (sent_node set (st.records.nodes (st.inner_nodes i).bucket)) live here;
        inner_nodes = inner_inner fits i (sent_node set (st.records.nodes (st.inner_nodes i).bucket)) live here;
        newest = m.newest;
        entry = m.entry;
        end = m.end;
      }
  keep_made (FailParent i set values) on fits new =
      let live = stays_live (st.inner_nodes i).role on.1 in
      let old = m.inner_nodes i (live_some (st.inner_nodes i).role live) in
      let here : InnerMade f.geometry (failed_node set (st.records.nodes (st.inner_nodes i).bucket)) (st.inner_nodes i).first (st.inner_nodes i).end =
      record { ends = old.ends; sets = old.sets; last = λ _. new } in
      record {
        leaves = inner_leaves fits i (failed_node set (st.records.nodes (st.inner_nodes i).bucket)) live here;
        inner_nodes = inner_inner fits i (failed_node set (st.records.nodes (st.inner_nodes i).bucket)) live here;
        newest = m.newest;
        entry = m.entry;
        end = m.end;
      }
  keep_made (SealRoot last_seq prio rest r) on fits new = record { leaves = m.leaves; inner_nodes = m.inner_nodes; newest = m.newest; entry = new; end = m.end }
  keep_made (Install unused) on fits new =
      let old = install_slots st unused in
      record {
        leaves = λ i some. m.leaves i (old.leaves i some).0;
        inner_nodes = λ i some. m.inner_nodes i (old.inner_nodes i some).0;
        newest = m.newest;
        entry = m.entry;
        end = m.end;
      }
