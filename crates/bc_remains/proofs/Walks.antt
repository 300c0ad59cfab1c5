-- From the nodes that a walk meets to the machine's tree.
use Rattle.std.proofs.Common.{subst, ◌≡◌, ◌≢◌, inl, inr, ℕ, zero, suc, ◌+◌, Bool, true, false, List, [], ◌∷◌, Some, refl, sym, ap, ◌∙◌, arith}
use Rattle.std.specs.Prelude.{map, length}
use Rattle.std.proofs.lemmas.List.{length-map, length-reverse}
use Rattle.bc_model.specs.Sector.{Image}
use Rattle.bc_disk.specs.declared.geometry.Geometry.{Geometry}
use Rattle.bc_key.specs.declared.key.Key.{Key}
use Rattle.bc_key.specs.declared.ptr.Ptr.{Ptr}
use Rattle.bc_key.specs.Key.{ptr_at, pointer_of}
use Rattle.bc_key.specs.Words.{ptr_word}
use Rattle.bc_set.specs.declared.set.Set.{Set}
use Rattle.bc_set.specs.Records.{AreNodeSets}
use Rattle.bc_meta.specs.Facts.{In}
use Rattle.bc_meta.specs.Tree as tree
use Rattle.bc_meta.specs.Tree.{Child, Each, EachChild, IsNamed, NodeSet, Other, Owner, Walk, Whole}
use Rattle.bc_meta.specs.Layout.{Layout, is_within, node_sets, sets_in}
use Rattle.bc_image.specs.Children.{children_of}
use Rattle.bc_image.specs.Tree.{AreSetsAt, AreWalks, IsWalk, Node, kind_at, node_of, set_keys}
use Rattle.bc_image.proofs.Unique.{some_same}
use Rattle.bc_facts.specs.Seen.{bucket_of, kind_of, seen_child, seen_set, seen_sets, word_of}
use Rattle.bc_facts.specs.Layout.{begins_at, IsLayoutOf}
use Rattle.bc_facts.proofs.Nodes.{sets_are}
use Rattle.bc_facts.proofs.Stood.{in_behind, in_front}
use Rattle.bc_remains.proofs.Children.{children_are}
use Rattle.bc_remains.proofs.Tree.{key_begins}

abbrev pub is_leaf : ℕ → Bool
is_leaf zero = true
is_leaf (suc level) = false

kind_is : (level : ℕ) → kind_of (is_leaf level) ≡ kind_at level
kind_is zero = refl
kind_is (suc level) = refl

-- how a node is read
abbrev pub owner : Node → Owner
owner n = record { word = word_of n.key; leaf = is_leaf n.level }

not_empty : (g : Geometry) (leaf : Bool) (ss : List Set) → ss ≢ [] → seen_sets g leaf ss ≢ []
not_empty g leaf [] some = absurd (some refl)
not_empty g leaf (s ∷ ss) some = λ e. absurd (let none : 0 ≡ suc (length ss) = ap (λ (l : List NodeSet). length l) (sym e) ∙ long (s ∷ ss) in omega (arith, none))
  where
    long : (rs : List Set) → length (seen_sets g leaf rs) ≡ length rs
    long rs = length-reverse (map (seen_set g leaf) rs) ∙ length-map rs (seen_set g leaf)

module _ (g : Geometry) (w : Layout) (layout : IsLayoutOf g w) (owners : ℕ → Owner) (image : Image) where
  pub record Known (n : Node) : Type 0 where
    pub owner_is : owners (bucket_of g n.key) ≡ owner n
    pub within : is_within w (bucket_of g n.key) (owner n) ≡ true
    pub points : pointer_of n.key ≡ Some (ptr_at n.key 0)

  sets_known : (level from : ℕ) (key : Key) (sets : List Set) → AreSetsAt g image level key sets → Known (node_of level from key sets) → node_sets w owners image (bucket_of g key) ≡ seen_sets g (is_leaf level) sets
  sets_known level from key sets at k =
      let o : Owner = record { word = word_of key; leaf = is_leaf level } in
      let ptr : at.ptr ≡ ptr_at key 0 = some_same at.ptr (ptr_at key 0) (sym at.points ∙ k.points) in
      let first : AreNodeSets g (word_of key) (kind_at level) image ((ptr_at key 0).offset + g.node_sectors) (ptr_at key 0).offset sets =
      subst (λ (x : Ptr). AreNodeSets g (ptr_word x) (kind_at level) image (x.offset + g.node_sectors) x.offset sets) ptr at.stand in
      let there : AreNodeSets g (word_of key) (kind_at level) image (begins_at (word_of key) + g.node_sectors) (begins_at (word_of key)) sets =
      subst (λ (p : ℕ). AreNodeSets g (word_of key) (kind_at level) image (p + g.node_sectors) p sets) (sym (key_begins key)) first in
      ap (λ (x : Owner). sets_in w image x (bucket_of g key)) k.owner_is
      ∙ sets_are g w layout image (record { word = word_of key; leaf = is_leaf level }) (bucket_of g key) sets k.within
      (subst (λ kind. AreNodeSets g (word_of key) kind image (begins_at (word_of key) + g.node_sectors) (begins_at (word_of key)) sets) (sym (kind_is level)) there)

  some_known : (level from : ℕ) (key : Key) (sets : List Set) → AreSetsAt g image level key sets → Known (node_of level from key sets) → node_sets w owners image (bucket_of g key) ≢ []
  some_known level from key sets at k e = not_empty g (is_leaf level) sets at.some (sym (sets_known level from key sets at k) ∙ e)

  pub record Back (level : ℕ) (key : Key) (nodes : List Node) : Type 0 where
    pub named : IsNamed owners (node_sets w owners image) level (bucket_of g key) (word_of key)
    pub whole : Walk Whole (node_sets w owners image) level (bucket_of g key)
    pub other : (p : ℕ) → ((n : Node) → In n nodes → bucket_of g n.key ≢ p) → Walk (Other p) (node_sets w owners image) level (bucket_of g key)

  pub record Backs (level : ℕ) (keys : List Key) (nodes : List Node) : Type 0 where
    pub named : EachChild (λ k. IsNamed owners (node_sets w owners image) level k.bucket k.word) (map (seen_child g) keys)
    pub whole : Each (Walk Whole (node_sets w owners image) level) (map (seen_child g) keys)
    pub other : (p : ℕ) → ((n : Node) → In n nodes → bucket_of g n.key ≢ p) → Each (Walk (Other p) (node_sets w owners image) level) (map (seen_child g) keys)

  backs : (level : ℕ) → ((from : ℕ) (key : Key) (nodes : List Node) → IsWalk g image level from key nodes → ((n : Node) → In n nodes → Known n) → Back level key nodes)
      → (from : ℕ) (keys : List Key) (nodes : List Node) → AreWalks (IsWalk g image level) from keys nodes → ((n : Node) → In n nodes → Known n) → Backs level keys nodes
  backs level ih from [] nodes walks known = record { named = tt; whole = tt; other = λ p off. tt }
  backs level ih from (k ∷ ks) nodes walks known =
      let here = ih from k walks.0 walks.2 (λ n i. known n (subst (λ (l : List Node). In n l) (sym walks.4) (in_front n walks.0 walks.1 i))) in
      let rest = backs level ih k.end ks walks.1 walks.3 (λ n i. known n (subst (λ (l : List Node). In n l) (sym walks.4) (in_behind n walks.0 walks.1 i))) in
      record {
        named = (here.named, rest.named);
        whole = (here.whole, rest.whole);
        other = λ p off. (
          here.other p (λ n i. off n (subst (λ (l : List Node). In n l) (sym walks.4) (in_front n walks.0 walks.1 i))),
          rest.other p (λ n i. off n (subst (λ (l : List Node). In n l) (sym walks.4) (in_behind n walks.0 walks.1 i))),
        );
      }

  pub back_tree : (level from : ℕ) (key : Key) (nodes : List Node) → IsWalk g image level from key nodes → ((n : Node) → In n nodes → Known n) → Back level key nodes
  back_tree zero from key nodes walk known =
      let first : In (node_of zero from key walk.0) nodes = subst (λ (l : List Node). In (node_of zero from key walk.0) l) (sym walk.2) (inl refl) in
      let k = known (node_of zero from key walk.0) first in
      record { named = k.owner_is; whole = some_known zero from key walk.0 walk.1 k; other = λ p off. off (node_of zero from key walk.0) first }
  back_tree (suc level) from key nodes walk known =
      let first : In (node_of (suc level) from key walk.0) nodes = subst (λ (l : List Node). In (node_of (suc level) from key walk.0) l) (sym walk.4) (inl refl) in
      let k = known (node_of (suc level) from key walk.0) first in
      let seen = sets_known (suc level) from key walk.0 walk.2 k in
      let kids : tree.children_of (node_sets w owners image (bucket_of g key)) ≡ map (seen_child g) (children_of (set_keys walk.0)) = ap tree.children_of seen ∙ children_are g walk.0 in
      let below = backs level (back_tree level) from (children_of (set_keys walk.0)) walk.1 walk.3 (λ n i. known n (subst (λ (l : List Node). In n l) (sym walk.4) (inr i))) in
      record {
        named = (k.owner_is, subst (λ (cs : List Child). EachChild (λ c. IsNamed owners (node_sets w owners image) level c.bucket c.word) cs) (sym kids) below.named);
        whole = (some_known (suc level) from key walk.0 walk.2 k, subst (λ (cs : List Child). Each (Walk Whole (node_sets w owners image) level) cs) (sym kids) below.whole);
        other = λ p off. (
          off (node_of (suc level) from key walk.0) first,
          subst (λ (cs : List Child). Each (Walk (Other p) (node_sets w owners image) level) cs) (sym kids)
              (below.other p (λ n i. off n (subst (λ (l : List Node). In n l) (sym walk.4) (inr i)))),
        );
      }
