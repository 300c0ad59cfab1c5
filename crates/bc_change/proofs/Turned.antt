-- What a change that has begun leaves of the parts in hand, and what the seat knows of it.
use Rattle.std.proofs.Common.{◌≡◌, ◌≢◌, ℕ, ◌%◌, ◌<◌, Bool, true, false, List, [], ◌∷◌, refl, sym, subst, ap, ◌∙◌, if◌then◌else◌}
use Rattle.bc_cache.specs.Slots.{NodeCache}
use Rattle.bc_events.specs.declared.event.Change.{Change}
use Rattle.bc_facts.proofs.Stood.{contains_in}
use Rattle.bc_inner.specs.Inner.{Inner}
use Rattle.bc_leaves.specs.After.{changed, has, inner_nodes_changed, leaves_changed}
use Rattle.bc_leaves.specs.Enabled.{CanBegin}
use Rattle.bc_leaves.specs.Parts.{Role, NoNode, Draft, Free, Leaving, Coming, BySet, NoChange}
use Rattle.bc_leaves.specs.Parts as parts
use Rattle.bc_leaves.specs.Rows.{Row}
use Rattle.bc_leaves.proofs.Chains.{has_in, in_has}
use Rattle.bc_entry.specs.bc_machine.Containers.{AreLeavesOf, IsHeldIn, IsInTree, IsLeafFor, IsSpineOf, IsTreeInner, IsTreeLeaf, inner_slot}
use Rattle.bc_meta.specs.Facts.{In}
use Rattle.bc_meta.specs.Records.{Node, Records}
use Rattle.bc_node.specs.Leaf.{Leaf}
use Rattle.bc_nodes_known.specs.Nodes.{IsWholeChange}
use Rattle.bc_shares.specs.Shares.{InnerShare, LeafShare, inner_share, leaf_share, node_share, shape_of}
use Rattle.bc_spine.specs.Exchange.{coming}
use Rattle.bc_spine.specs.declared.leaf.LeafRange.{LeafRange}
use Rattle.bc_tree.specs.LastKeys.{LeafKeys}
use Rattle.bc_tree.specs.Spine.{Spine}
use Rattle.bc_tree.specs.declared.plan.Plan.{Plan}
use Rattle.bc_whole.specs.State.{Opening}
use Rattle.bc_change.specs.Goes.{IsChangeBy, new_leaves, new_nodes, numbers, slots}
use Rattle.bc_change.specs.Laws.{unused_for}
use Rattle.bc_change.specs.Ready.{IsNewInner, IsNewLeaf, IsReadyChange, IsUnchanged}
use Rattle.bc_change.specs.Under.{IsUnderWay}
use Rattle.bc_change.proofs.Lists.{map_in}
use Rattle.bc_change.proofs.Places.{new_range}

-- ---- roles

module _ (gone come : List ℕ) (k : ℕ) (role : Role) (goes : In k gone → role ≡ Free)
    (comes : In k come → role ≡ Draft) where
  -- what it was of the tree it is
  pub tree_changed : IsInTree role → IsInTree (changed gone come k role)
  tree_changed tree = go (has gone k) (has come k) refl
    where
      go : (a b : Bool) → has come k ≡ b
          → IsInTree (if a then Leaving else (if b then Coming else role))
      go true b is = tt
      go false true is = subst IsInTree (comes (in_has come k is)) tree
      go false false is = tree

  pub tree_before : IsInTree (changed gone come k role) → IsInTree role
  tree_before = go (has gone k) (has come k) refl
    where
      go : (a b : Bool) → has gone k ≡ a
          → IsInTree (if a then Leaving else (if b then Coming else role)) → IsInTree role
      go true b is tree = subst IsInTree (sym (goes (in_has gone k is))) tt
      go false true is tree = absurd tree
      go false false is tree = tree

  -- of a slot that nothing took or brought before
  pub leaves_now : IsUnchanged role → changed gone come k role ≡ Leaving → In k gone
  leaves_now calm = go (has gone k) (has come k) refl
    where
      go : (a b : Bool) → has gone k ≡ a
          → (if a then Leaving else (if b then Coming else role)) ≡ Leaving → In k gone
      go true b is at = in_has gone k is
      go false true is at = absurd (cc)
      go false false is at = absurd (subst IsUnchanged at calm)

  pub comes_now : IsUnchanged role → changed gone come k role ≡ Coming → In k come
  comes_now calm = go (has gone k) (has come k) refl
    where
      go : (a b : Bool) → has come k ≡ b
          → (if a then Leaving else (if b then Coming else role)) ≡ Coming → In k come
      go true b is at = absurd (cc)
      go false true is at = in_has come k is
      go false false is at = absurd (subst IsUnchanged at calm)

  pub draft_now : changed gone come k role ≡ Draft → (In k come → ⊥) × (role ≡ Draft)
  draft_now = go (has gone k) (has come k) refl
    where
      go : (a b : Bool) → has come k ≡ b
          → (if a then Leaving else (if b then Coming else role)) ≡ Draft
          → (In k come → ⊥) × (role ≡ Draft)
      go true b is at = absurd (cc)
      go false true is at = absurd (cc)
      go false false is at = ((λ m. never (has come k) (has_in come k m) is), at)
        where
          never : (b : Bool) → b ≡ true → b ≡ false → ⊥
          never b on off = cc

  pub is_leaving : In k gone → changed gone come k role ≡ Leaving
  is_leaving m = ap (λ b. if b then Leaving else (if has come k then Coming else role)) (has_in gone k m)

  pub is_coming : In k come → changed gone come k role ≡ Coming
  is_coming m = go (has gone k) refl ∙ ap (λ b. if b then Coming else role) (has_in come k m)
    where
      free_draft : role ≡ Free → role ≡ Draft → ⊥
      free_draft a b = let same : Free ≡ Draft = sym a ∙ b in cc

      go : (a : Bool) → has gone k ≡ a
          → (if has gone k then Leaving else (if has come k then Coming else role))
          ≡ (if has come k then Coming else role)
      go true is = absurd (free_draft (goes (in_has gone k is)) (comes m))
      go false is = ap (λ b. if b then Leaving else (if has come k then Coming else role)) is

pub row_same : (a b : ℕ → parts.Leaf) → ((k : ℕ) → (b k).first ≡ (a k).first)
    → ((k : ℕ) → (b k).end ≡ (a k).end) → (low : ℕ) (is : List ℕ) (high : ℕ) → Row a low is high
    → Row b low is high
row_same a b first end low [] high row = row
row_same a b first end low (i ∷ is) high row = (
  first i ∙ row.0,
  subst (λ e. low < e) (sym (end i)) row.1,
  subst (λ e. Row b e is high) (sym (end i)) (row_same a b first end (a i).end is high row.2),
)

-- ---- the state behind it

-- with these records, and this change
abbrev pub turned : parts.State → Change → Records → parts.Change → parts.State
turned st c r now = record {
  records = r;
  leaves = leaves_changed st c.gone.items c.come.items;
  inner_nodes = inner_nodes_changed st c.old.items c.new.items;
  end = st.end;
  change = now;
  sent = st.sent;
}

module _ (w : Opening) (st : parts.State) (sp : Spine) (plan : Plan) (keys : LeafKeys) (c : Change)
    (ready : IsReadyChange w st sp plan keys) (is : IsChangeBy w sp plan c)
    (can : CanBegin st c.low c.high c.gone.items c.come.items c.old.items c.new.items
    (unused_for st c)) (r : Records) (nodes : r.nodes ≡ st.records.nodes) (now : parts.Change)
    (no_set : (x : ℕ) → now ≢ BySet x) where
  abbrev after : parts.State
  after = turned st c r now

  leaf_is : (k : ℕ) → leaf_share after k ≡ record {
    leaf = leaves_changed st c.gone.items c.come.items k;
    node = (leaf_share st k).node;
  }
  leaf_is k = ap (λ (f : ℕ → Node). record {
    leaf = leaves_changed st c.gone.items c.come.items k;
    node = node_share (f (st.leaves k).bucket);
  }) nodes

  inner_is : (x : ℕ) → inner_share after x ≡ record {
    inner = inner_nodes_changed st c.old.items c.new.items x;
    node = (inner_share st x).node;
  }
  inner_is x = ap (λ (f : ℕ → Node). record {
    inner = inner_nodes_changed st c.old.items c.new.items x;
    node = node_share (f (st.inner_nodes x).bucket);
  }) nodes

  goes : (k : ℕ) → In k c.gone.items → (st.leaves k).role ≡ Free
  goes k m = (can.gone_leaf k m).0

  comes : (k : ℕ) → In k c.come.items → (st.leaves k).role ≡ Draft
  comes k m = (can.come_leaf k m).0

  inner_goes : (x : ℕ) → In x c.old.items → (st.inner_nodes x).role ≡ Free
  inner_goes x m = can.old_inner x m

  inner_comes : (x : ℕ) → In x c.new.items → (st.inner_nodes x).role ≡ Draft
  inner_comes x m = (can.new_inner x m).0

  leaf_tree : (k : ℕ) → IsInTree (st.leaves k).role → IsInTree (after.leaves k).role
  leaf_tree k = tree_changed c.gone.items c.come.items k (st.leaves k).role (goes k) (comes k)

  tree_leaf : (k : ℕ) → IsInTree (after.leaves k).role → IsInTree (st.leaves k).role
  tree_leaf k = tree_before c.gone.items c.come.items k (st.leaves k).role (goes k) (comes k)

  inner_tree : (x : ℕ) → IsInTree (st.inner_nodes x).role → IsInTree (after.inner_nodes x).role
  inner_tree x = tree_changed c.old.items c.new.items x (st.inner_nodes x).role (inner_goes x)
      (inner_comes x)

  tree_inner : (x : ℕ) → IsInTree (after.inner_nodes x).role → IsInTree (st.inner_nodes x).role
  tree_inner x = tree_before c.old.items c.new.items x (st.inner_nodes x).role (inner_goes x)
      (inner_comes x)

  -- ---- the spine

  shape_stands : (l : LeafRange) → IsTreeLeaf w l.from l.end l.ptr (shape_of (st.leaves l.number))
      → IsTreeLeaf w l.from l.end l.ptr (shape_of (after.leaves l.number))
  shape_stands l h = record {
    role = leaf_tree l.number h.role;
    first = h.first;
    end_is = h.end_is;
    bucket = h.bucket;
    word = h.word;
  }

  inner_stands : (n : Inner) → (x : ℕ) → IsTreeInner w st.change x n (inner_share st x)
      → IsTreeInner w now x n (inner_share after x)
  inner_stands n x h = subst (λ (s : InnerShare). IsTreeInner w now x n s) (sym (inner_is x)) (record {
    role = inner_tree x h.role;
    first = h.first;
    end = h.end;
    bucket = h.bucket;
    word = h.word;
    level = h.level;
    loaded = h.loaded;
    own = h.own;
    children = λ _. h.children (λ same. calm_change x (sym ready.ready.calm.change ∙ same));
  })
    where
      calm_change : (x : ℕ) → NoChange ≡ BySet x → ⊥
      calm_change x same = cc

  pub spine_stands : IsSpineOf w after sp
  spine_stands = record {
    leaves = λ l m. shape_stands l (ready.stands.leaves l m);
    all_leaves = λ k tree. ready.stands.all_leaves k (tree_leaf k tree);
    nodes = λ n m. inner_stands n (inner_slot w n) (ready.stands.nodes n m);
    all_nodes = λ x tree. ready.stands.all_nodes x (tree_inner x tree);
    end = ready.stands.end;
  }

  -- ---- leaves

  leaf_stands : (k : ℕ) (leaf : Leaf) → IsLeafFor w (leaf_share st k) leaf
      → IsLeafFor w (leaf_share after k) leaf
  leaf_stands k leaf h = subst (λ (s : LeafShare). IsLeafFor w s leaf) (sym (leaf_is k)) (record {
    at = record {
      role = leaf_tree k h.at.role;
      first = h.at.first;
      end_is = h.at.end_is;
      bucket = h.at.bucket;
      word = h.at.word;
    };
    loaded = h.loaded;
    own = h.own;
    whole = h.whole;
    keys = h.keys;
    pending = h.pending;
    entries = h.entries;
    lists = h.lists;
  })

  -- those that go are held in their slots
  pub leaves_stand : (count part : ℕ) (cache : NodeCache)
      → ((k : ℕ) → In k c.gone.items → k % count ≡ part → IsHeldIn cache.slots k)
      → AreLeavesOf w st count part cache → AreLeavesOf w after count part cache
  leaves_stand count part cache held h = record {
    layout = h.layout;
    rest = h.rest;
    leaves = λ i x at. leaf_stands x.number x.leaf (h.leaves i x at);
    others = λ k its tree misses. h.others k its (tree_leaf k tree) misses;
    leaving = λ k its leaves. held k (leaves_now c.gone.items c.come.items k (st.leaves k).role
        (goes k) (comes k) (ready.ready.calm.leaves k) leaves) its;
  }

  -- ---- what the seat knows

  whole : IsWholeChange after c
  whole = record {
    names = record {
      gone = λ k leaves. has_in c.gone.items k (leaves_now c.gone.items c.come.items k
          (st.leaves k).role (goes k) (comes k) (ready.ready.calm.leaves k) leaves);
      come = λ k coming. has_in c.come.items k (comes_now c.gone.items c.come.items k
          (st.leaves k).role (goes k) (comes k) (ready.ready.calm.leaves k) coming);
      only = λ k on. is_coming c.gone.items c.come.items k (st.leaves k).role (goes k) (comes k)
          (in_has c.come.items k on);
    };
    leave = λ k m. is_leaving c.gone.items c.come.items k (st.leaves k).role (goes k) (comes k) m;
    old = row_same st.leaves after.leaves (λ k. refl) (λ k. refl) c.low c.gone.items c.high
        can.old_row;
    new = row_same st.leaves after.leaves (λ k. refl) (λ k. refl) c.low c.come.items c.high
        can.new_row;
    slots = is.few;
  }

  come_number : (range : LeafRange) (leaf : Leaf) → In (range, leaf) (new_leaves plan)
      → In range.number c.come.items
  come_number range leaf m = subst (λ (ks : List ℕ). In range.number ks) (sym is.come)
      (map_in (λ (l : LeafRange). l.number) (coming plan.leaves) range
      (new_range plan.leaves.first plan.first plan.leaves.second plan.second range leaf m))

  new_slot : (n : Inner) → In n (new_nodes plan) → In (inner_slot w n) c.new.items
  new_slot n m = subst (λ (ks : List ℕ). In (inner_slot w n) ks) (sym is.new)
      (map_in (inner_slot w) (new_nodes plan) n m)

  pub under_way : IsUnderWay w after plan c
  under_way = record {
    whole = whole;
    old = λ x m. is_leaving c.old.items c.new.items x (st.inner_nodes x).role (inner_goes x)
        (inner_comes x) m;
    only_old = λ x leaves. leaves_now c.old.items c.new.items x (st.inner_nodes x).role
        (inner_goes x) (inner_comes x) (ready.ready.calm.inner_nodes x) leaves;
    only_new = λ x coming. comes_now c.old.items c.new.items x (st.inner_nodes x).role
        (inner_goes x) (inner_comes x) (ready.ready.calm.inner_nodes x) coming;
    come = λ range leaf m. let one = ready.ready.come range leaf m in
        let k = range.number in
        let at = come_number range leaf (contains_in (new_leaves plan) (range, leaf) m) in (
          one.range_is,
          subst (λ (s : LeafShare). IsNewLeaf w Coming s leaf) (sym (leaf_is k)) (record {
            role_is = is_coming c.gone.items c.come.items k (st.leaves k).role (goes k) (comes k) at;
            first = one.new.first;
            end = one.new.end;
            bucket = one.new.bucket;
            word = one.new.word;
            fresh = one.new.fresh;
            nothing = one.new.nothing;
            own = one.new.own;
            whole = one.new.whole;
            keys = one.new.keys;
            none = one.new.none;
            lists = one.new.lists;
          }),
        );
    new = λ n m. let one = ready.ready.new n m in
        let x = inner_slot w n in
        let at = new_slot n (contains_in (new_nodes plan) n m) in
        subst (λ (s : InnerShare). IsNewInner w Coming s n) (sym (inner_is x)) (record {
          role_is = is_coming c.old.items c.new.items x (st.inner_nodes x).role (inner_goes x)
              (inner_comes x) at;
          first = one.new.first;
          end = one.new.end;
          bucket = one.new.bucket;
          word = one.new.word;
          level = one.new.level;
          fresh = one.new.fresh;
          own = one.new.own;
          children = one.new.children;
        });
    no_leaf = λ k draft. let at = draft_now c.gone.items c.come.items k (st.leaves k).role (goes k)
        (comes k) draft in
        let one = ready.ready.all_leaves k at.1 in
        at.0 (subst (λ (ks : List ℕ). In k ks) (sym is.come)
        (subst (λ n. In n (numbers (coming plan.leaves))) one.2
        (map_in (λ (l : LeafRange). l.number) (coming plan.leaves) one.0
        (contains_in (coming plan.leaves) one.0 one.1))));
    no_inner = λ x draft. let at = draft_now c.old.items c.new.items x (st.inner_nodes x).role
        (inner_goes x) (inner_comes x) draft in
        let one = ready.ready.all_inner x at.1 in
        at.0 (subst (λ (ks : List ℕ). In x ks) (sym is.new)
        (subst (λ n. In n (slots w (new_nodes plan))) one.2
        (map_in (inner_slot w) (new_nodes plan) one.0
        (contains_in (new_nodes plan) one.0 one.1))));
  }
