-- The tree of an image, as the format has it and as the machine does.
use Rattle.std.proofs.Common.{subst, ◌≡◌, ◌≢◌, inl, inr, ℕ, zero, suc, ◌+◌, Bool, true, false, List, [], ◌∷◌, ◌++◌, Some, refl, sym, ap, ◌∙◌, arith, if◌then◌else◌}
use Rattle.std.specs.Prelude.{map, reverse, ◌/◌}
use Rattle.std.proofs.lemmas.List.{append-nil, reverse-append}
use Rattle.std.proofs.lemmas.Grind.{flat_map-append}
use Rattle.std.proofs.lemmas.Bool.{cases_lt, lt-ltb}
use Rattle.bc_model.specs.Sector.{Image}
use Rattle.bc_disk.specs.declared.geometry.Geometry.{Geometry}
use Rattle.bc_record.proofs.Blocks.{node_blocks}
use Rattle.bc_key.specs.declared.key.Key.{Key}
use Rattle.bc_key.specs.Ptr.{no_ptr}
use Rattle.bc_key.specs.Key.{ptr_at, pointer_of}
use Rattle.std.proofs.Math.Nat.{zero-div}
use Rattle.bc_key.specs.Words.{ptr_word}
use Rattle.bc_key.proofs.KeyLaws.{ReadsAsPtr-ptr_word}
use Rattle.bc_set.specs.declared.set.Set.{Set}
use Rattle.bc_set.specs.Records.{AreNodeSets}
use Rattle.bc_set.proofs.NodeSets.{node_exists}
use Rattle.bc_meta.specs.Facts.{In}
use Rattle.bc_meta.specs.Tree as tree
use Rattle.bc_meta.specs.Tree.{Child, Each, EachChild, IsNamed, NodeSet, Other, Owner, Walk, Whole, forest, tree_list}
use Rattle.bc_meta.specs.Layout.{Layout, is_within, node_sets, sets_from, sets_in, node_end}
use Rattle.bc_image.specs.Children.{children_of}
use Rattle.bc_image.specs.Tree.{AreWalks, IsWalk, Node, data_keys, node_of, set_keys, tree_keys}
use Rattle.bc_facts.specs.Seen.{bucket_of, kind_of, seen_child, seen_sets, word_of}
use Rattle.bc_facts.specs.Layout.{begins_at, IsLayoutOf}
use Rattle.bc_facts.proofs.Nodes.{sets_are}
use Rattle.bc_facts.proofs.Stood.{in_either}
use Rattle.bc_remains.proofs.Keys.{leaf_keys}
use Rattle.bc_remains.proofs.Children.{children_are}

-- a node's bucket is counted above 0
abbrev pub Counted : ℕ → List NodeSet → Type 0
Counted q ss = q ≢ 0

pub key_begins : (key : Key) → begins_at (word_of key) ≡ (ptr_at key 0).offset
key_begins key = (ReadsAsPtr-ptr_word (ptr_at key 0)).offset

-- such a node's key has a pointer
pub has_pointer : (g : Geometry) (key : Key) → bucket_of g key ≢ 0 → pointer_of key ≡ Some (ptr_at key 0)
has_pointer g key some = elim (cases_lt 0 key.count) [
  | inl lt ↦ (let test = lt-ltb 0 key.count lt in let at : pointer_of key ≡ Some (ptr_at key 0) = rw test refl in at)
  | inr le ↦
      (let z : (ptr_at key 0).offset ≡ 0 = (key.no_more_ptrs 0 no_ptr (omega arith) (omega arith)).1 in
      let none : (ptr_at key 0).offset / g.bucket ≡ 0 = ap (λ n. n / g.bucket) z ∙ zero-div g.bucket in
      absurd (some (let is : bucket_of g key ≡ 0 = omega (arith, none) in is)))
]

some_seen : (g : Geometry) (leaf : Bool) (ss : List Set) → seen_sets g leaf ss ≢ [] → ss ≢ []
some_seen g leaf ss ne e = ne (ap (λ (l : List Set). seen_sets g leaf l) e)

reversed_keys : (g : Geometry) (here rest : List Node) → reverse (tree_keys (here ++ rest)) ≡ reverse (tree_keys rest) ++ reverse (tree_keys here)
reversed_keys g here rest = ap reverse (flat_map-append (λ (n : Node). data_keys n.level n.sets) here rest) ∙ reverse-append (tree_keys here) (tree_keys rest)

module _ (g : Geometry) (w : Layout) (layout : IsLayoutOf g w) (owners : ℕ → Owner) (image : Image) where
  -- the node that a key points to
  pub record NodeAt (leaf : Bool) (key : Key) : Type 0 where
    pub sets : List Set
    pub stand : AreNodeSets g (ptr_word (ptr_at key 0)) (kind_of leaf) image ((ptr_at key 0).offset + g.node_sectors) (ptr_at key 0).offset sets
    pub some : sets ≢ []
    pub seen : node_sets w owners image (bucket_of g key) ≡ seen_sets g leaf sets
    pub within : is_within w (bucket_of g key) (record { word = word_of key; leaf = leaf }) ≡ true

  lies_within : (q : ℕ) (o : Owner) → sets_in w image o q ≢ [] → is_within w q o ≡ true
  lies_within q o = go (is_within w q o)
    where
      go : (b : Bool) → (if b then sets_from w image o (w.sets.found image o (node_end w o) (w.begins o)) else []) ≢ [] → b ≡ true
      go true h = refl
      go false h = absurd (h refl)

  pub node_at : (leaf : Bool) (key : Key) → owners (bucket_of g key) ≡ record { word = word_of key; leaf = leaf } → node_sets w owners image (bucket_of g key) ≢ [] → NodeAt leaf key
  node_at leaf key is some =
      let here : node_sets w owners image (bucket_of g key) ≡ sets_in w image (record { word = word_of key; leaf = leaf }) (bucket_of g key) = ap (λ (o : Owner). sets_in w image o (bucket_of g key)) is in
      let within = lies_within (bucket_of g key) (record { word = word_of key; leaf = leaf }) (λ e. some (here ∙ e)) in
      let whole = node_blocks g in
      let k = node_exists g (word_of key) (kind_of leaf) image (begins_at (word_of key) + g.node_sectors) (begins_at (word_of key)) whole.0 (ap (λ (m : ℕ). begins_at (word_of key) + m) whole.1) in
      let seen = here ∙ sets_are g w layout image (record { word = word_of key; leaf = leaf }) (bucket_of g key) k.0 within k.1 in
      record {
        sets = k.0;
        stand = subst (λ (p : ℕ). AreNodeSets g (word_of key) (kind_of leaf) image (p + g.node_sectors) p k.0) (key_begins key) k.1;
        some = some_seen g leaf k.0 (λ e. some (seen ∙ e));
        seen = seen;
        within = within;
      }

  -- a node that a walk met
  pub record Met (n : Node) : Type 0 where
    pub points : pointer_of n.key ≡ Some (ptr_at n.key 0)
    pub leaf : Bool
    pub within : is_within w (bucket_of g n.key) (record { word = word_of n.key; leaf = leaf }) ≡ true

  pub record Tree (level from : ℕ) (key : Key) : Type 0 where
    pub nodes : List Node
    pub met : (n : Node) → In n nodes → Met n
    pub each : (p : ℕ) → Walk (Other p) (node_sets w owners image) level (bucket_of g key) → (n : Node) → In n nodes → bucket_of g n.key ≢ p
    pub walk : IsWalk g image level from key nodes
    pub keys : reverse (tree_keys nodes) ≡ tree_list (node_sets w owners image) level (bucket_of g key)

  pub record Trees (level from : ℕ) (keys : List Key) : Type 0 where
    pub nodes : List Node
    pub met : (n : Node) → In n nodes → Met n
    pub each : (p : ℕ) → Each (Walk (Other p) (node_sets w owners image) level) (map (seen_child g) keys) → (n : Node) → In n nodes → bucket_of g n.key ≢ p
    pub walks : AreWalks (IsWalk g image level) from keys nodes
    pub keys_are : reverse (tree_keys nodes) ≡ forest (tree_list (node_sets w owners image) level) (map (seen_child g) keys)

  trees : (level : ℕ) → ((from : ℕ) (key : Key) → IsNamed owners (node_sets w owners image) level (bucket_of g key) (word_of key) → Walk Whole (node_sets w owners image) level (bucket_of g key) → Walk Counted (node_sets w owners image) level (bucket_of g key) → Tree level from key)
      → (from : ℕ) (ks : List Key) → EachChild (λ k. IsNamed owners (node_sets w owners image) level k.bucket k.word) (map (seen_child g) ks) → Each (Walk Whole (node_sets w owners image) level) (map (seen_child g) ks) → Each (Walk Counted (node_sets w owners image) level) (map (seen_child g) ks) → Trees level from ks
  trees level ih from [] named whole counted_ = record { nodes = []; met = λ n i. absurd i; each = λ p h n i. absurd i; walks = refl; keys_are = refl }
  trees level ih from (k ∷ ks) named whole counted_ =
      let here = ih from k named.0 whole.0 counted_.0 in
      let rest = trees level ih k.end ks named.1 whole.1 counted_.1 in
      record {
        nodes = here.nodes ++ rest.nodes;
        met = λ n i. elim (in_either n here.nodes rest.nodes i) [ inl j ↦ here.met n j | inr j ↦ rest.met n j ];
        each = λ p h n i. elim (in_either n here.nodes rest.nodes i) [ inl j ↦ here.each p h.0 n j | inr j ↦ rest.each p h.1 n j ];
        walks = (here.nodes, rest.nodes, here.walk, rest.walks, refl);
        keys_are = reversed_keys g here.nodes rest.nodes ∙ ap (λ (l : List Key). l ++ reverse (tree_keys here.nodes)) rest.keys_are
            ∙ ap (λ (l : List Key). forest (tree_list (node_sets w owners image) level) (map (seen_child g) ks) ++ l) here.keys;
      }

  pub tree_is : (level from : ℕ) (key : Key) → IsNamed owners (node_sets w owners image) level (bucket_of g key) (word_of key)
      → Walk Whole (node_sets w owners image) level (bucket_of g key) → Walk Counted (node_sets w owners image) level (bucket_of g key) → Tree level from key
  tree_is zero from key named whole counted_ =
      let n = node_at true key named whole in
      record {
        nodes = node_of zero from key n.sets ∷ [];
        met = λ m i. elim i [ inl e ↦ subst Met (sym e) (record { points = has_pointer g key counted_; leaf = true; within = n.within }) | inr j ↦ absurd j ];
        each = λ p h m i. elim i [ inl e ↦ subst (λ (x : Node). bucket_of g x.key ≢ p) (sym e) h | inr j ↦ absurd j ];
        walk = (n.sets, record { ptr = ptr_at key 0; points = has_pointer g key counted_; stand = n.stand; some = n.some }, refl);
        keys = ap reverse (append-nil (set_keys n.sets)) ∙ leaf_keys g n.sets ∙ ap tree.set_keys (sym n.seen);
      }
  tree_is (suc level) from key named whole counted_ =
      let n = node_at false key named.0 whole.0 in
      let kids : tree.children_of (node_sets w owners image (bucket_of g key)) ≡ map (seen_child g) (children_of (set_keys n.sets)) = ap tree.children_of n.seen ∙ children_are g n.sets in
      let below = trees level (tree_is level) from (children_of (set_keys n.sets))
      (subst (λ (cs : List Child). EachChild (λ k. IsNamed owners (node_sets w owners image) level k.bucket k.word) cs) kids named.1)
      (subst (λ (cs : List Child). Each (Walk Whole (node_sets w owners image) level) cs) kids whole.1)
      (subst (λ (cs : List Child). Each (Walk Counted (node_sets w owners image) level) cs) kids counted_.1) in
      record {
        nodes = node_of (suc level) from key n.sets ∷ below.nodes;
        met = λ m i. elim i [ inl e ↦ subst Met (sym e) (record { points = has_pointer g key counted_.0; leaf = false; within = n.within }) | inr j ↦ below.met m j ];
        each = λ p h m i. elim i [
          | inl e ↦ subst (λ (x : Node). bucket_of g x.key ≢ p) (sym e) h.0
          | inr j ↦ below.each p (subst (λ (cs : List Child). Each (Walk (Other p) (node_sets w owners image) level) cs) kids h.1) m j
        ];
        walk = (n.sets, below.nodes, record { ptr = ptr_at key 0; points = has_pointer g key counted_.0; stand = n.stand; some = n.some }, below.walks, refl);
        keys = below.keys_are ∙ ap (forest (tree_list (node_sets w owners image) level)) (sym kids);
      }
