-- What a walk through a tree meets, beside the inner nodes that were read of it.
use Rattle.std.proofs.Common.{◌≡◌, ◌⊎◌, inl, inr, ℕ, zero, suc, ◌<◌, List, [], ◌∷◌, ◌++◌, refl, sym, ap, ◌∙◌, subst, arith}
use Rattle.std.specs.Prelude.{All, Contains}
use Rattle.std.proofs.lemmas.List.Elements.{All-head, All-tail, Contains-append_left, Contains-append_right}
use Rattle.bc_disk.specs.declared.geometry.Geometry.{Geometry}
use Rattle.bc_image.specs.Children.{children_of}
use Rattle.bc_image.specs.Tree.{AreSetsAt, AreWalks, IsWalk, Node, node_of, set_keys}
use Rattle.bc_image.proofs.Unique.{one_sets}
use Rattle.bc_inner.specs.Inner.{Inner, IsInnerOf}
use Rattle.bc_key.specs.declared.key.Key.{Key}
use Rattle.bc_model.specs.Sector.{Image}
use Rattle.bc_set.specs.declared.set.Set.{Set}
use Rattle.bc_tree.specs.Spine.{Covers, children_in, last_end}
use Rattle.bc_tree.proofs.Spines.{cover_ends}
use Rattle.bc_regrow.specs.Held.{IsChildAt}
use Rattle.bc_regrow.specs.Parts.{AreOfNodes, inner_nodes, leaf_nodes}
use Rattle.bc_regrow.proofs.Nodes.{RowFrom, inner_append, keys_append, keys_of, leaves_append, row_append}

module _ (g : Geometry) (image : Image) where
  -- the node of a key, read of this image
  abbrev pub IsReadOff : Key → ℕ → ℕ → Inner → Type 0
  IsReadOff key level from inner = (sets : List Set) × AreSetsAt g image level key sets × IsInnerOf g key level from sets inner

  abbrev pub AreReadBelow : ℕ → List Key → List Inner → Type 0
  AreReadBelow from [] [] = Unit {0}
  AreReadBelow from [] (node ∷ nodes) = ⊥
  AreReadBelow from (key ∷ keys) [] = ⊥
  AreReadBelow from (key ∷ keys) (node ∷ nodes) = IsReadOff key 1 from node × AreReadBelow key.end keys nodes

  -- it has the sets that the walk met
  pub same_sets : (key : Key) (level from : ℕ) (sets : List Set) (inner : Inner) → AreSetsAt g image level key sets → IsReadOff key level from inner → IsInnerOf g key level from sets inner
  same_sets key level from sets inner at (ss, held, is) = subst (λ (xs : List Set). IsInnerOf g key level from xs inner) (one_sets g image level key ss sets held at) is

  -- leaves alone, in a row, by these keys
  pub record AreLeaves (from : ℕ) (children : List Key) (nodes : List Node) : Type 0 where
    pub none : inner_nodes nodes ≡ []
    pub keys : keys_of (leaf_nodes nodes) ≡ children
    pub row : RowFrom from (leaf_nodes nodes)

  pub leaf_walks : (from : ℕ) (children : List Key) (nodes : List Node) → AreWalks (IsWalk g image zero) from children nodes → AreLeaves from children nodes
  leaf_walks from [] nodes is = subst (λ (ns : List Node). AreLeaves from [] ns) (sym is) (record { none = refl; keys = refl; row = tt })
  leaf_walks from (child ∷ children) nodes (here, rest, (sets, at, one), more, is) =
      let r = leaf_walks child.end children rest more in
      let parts : nodes ≡ node_of zero from child sets ∷ rest = is ∙ ap (λ (xs : List Node). xs ++ rest) one in
      subst (λ (ns : List Node). AreLeaves from (child ∷ children) ns) (sym parts)
      (record { none = r.none; keys = ap (λ (ks : List Key). child ∷ ks) r.keys; row = (refl, r.row) })

  -- what stands below nodes of level 1 that were read: their children, in a row
  pub record AreBelow (from : ℕ) (inners : List Inner) (nodes : List Node) : Type 0 where
    pub inner : AreOfNodes g (inner_nodes nodes) inners
    pub keys : keys_of (leaf_nodes nodes) ≡ children_in inners
    pub row : RowFrom from (leaf_nodes nodes)

  -- one of them
  pub record IsOne (from : ℕ) (key : Key) (inner : Inner) (nodes : List Node) : Type 0 where
    pub sets : List Set
    pub inner_is : inner_nodes nodes ≡ node_of 1 from key sets ∷ []
    pub of : IsInnerOf g key 1 from sets inner
    pub keys : keys_of (leaf_nodes nodes) ≡ inner.children
    pub row : RowFrom from (leaf_nodes nodes)

  one_below : (from : ℕ) (key : Key) (inner : Inner) (nodes : List Node) → IsWalk g image 1 from key nodes → IsReadOff key 1 from inner → IsOne from key inner nodes
  one_below from key inner nodes (sets, below, at, walks, is) held =
      let of = same_sets key 1 from sets inner at held in
      let l = leaf_walks from (children_of (set_keys sets)) below walks in
      subst (λ (ns : List Node). IsOne from key inner ns) (sym is)
      (record {
        sets = sets;
        inner_is = ap (λ (ns : List Node). node_of 1 from key sets ∷ ns) l.none;
        of = of;
        keys = l.keys ∙ sym of.children;
        row = l.row;
      })

  pub inner_walks : (from : ℕ) (children : List Key) (inners : List Inner) (nodes : List Node) → AreWalks (IsWalk g image 1) from children nodes → AreReadBelow from children inners → All Covers inners
      → AreBelow from inners nodes
  inner_walks from [] [] nodes is held cover = subst (λ (ns : List Node). AreBelow from [] ns) (sym is) (record { inner = tt; keys = refl; row = tt })
  inner_walks from [] (inner ∷ inners) nodes is held cover = absurd held
  inner_walks from (child ∷ children) [] nodes is held cover = absurd held
  inner_walks from (child ∷ children) (inner ∷ inners) nodes (here, rest, walk, more, is) held cover =
      let one = one_below from child inner here walk held.0 in
      let r = inner_walks child.end children inners rest more held.1 (All-tail Covers inner inners cover) in
      let covers = All-head Covers inner inners cover in
      let ends : last_end from (keys_of (leaf_nodes here)) ≡ child.end =
      ap (last_end from) one.keys ∙ ap (λ n. last_end n inner.children) (sym one.of.begins) ∙ cover_ends inner.from inner.end inner.children covers ∙ one.of.ends in
      let row = row_append from (leaf_nodes here) (leaf_nodes rest) one.row (subst (λ n. RowFrom n (leaf_nodes rest)) (sym ends) r.row) in
      let inner_parts : inner_nodes (here ++ rest) ≡ node_of 1 from child one.sets ∷ inner_nodes rest = inner_append here rest ∙ ap (λ (ns : List Node). ns ++ inner_nodes rest) one.inner_is in
      subst (λ (ns : List Node). AreBelow from (inner ∷ inners) ns) (sym is)
      (record {
        inner = subst (λ (ns : List Node). AreOfNodes g ns (inner ∷ inners)) (sym inner_parts) (one.of, r.inner);
        keys = ap keys_of (leaves_append here rest) ∙ keys_append (leaf_nodes here) (leaf_nodes rest) ∙ ap (λ (ks : List Key). ks ++ keys_of (leaf_nodes rest)) one.keys ∙ ap (λ (ks : List Key). inner.children ++ ks) r.keys;
        row = subst (λ (ns : List Node). RowFrom from ns) (sym (leaves_append here rest)) row;
      })

  -- ---- where a child stands

  pub record MetAt (level low : ℕ) (key : Key) (nodes : List Node) : Type 0 where
    pub sets : List Set
    pub at : AreSetsAt g image level key sets
    pub met : Contains nodes (node_of level low key sets)

  pub child_met : (from : ℕ) (children : List Key) (nodes : List Node) (low : ℕ) (key : Key) → AreWalks (IsWalk g image 1) from children nodes → IsChildAt from children low key → MetAt 1 low key nodes
  child_met from [] nodes low key is at = absurd at
  child_met from (child ∷ children) nodes low key (here, rest, (sets, below, stand, walks, are), more, is) (inl (begins, same)) =
      let first : Contains here (node_of 1 from child sets) = subst (λ (ns : List Node). Contains ns (node_of 1 from child sets)) (sym are) (0, omega arith, refl) in
      let has : Contains nodes (node_of 1 from child sets) = subst (λ (ns : List Node). Contains ns (node_of 1 from child sets)) (sym is) (Contains-append_left here rest (node_of 1 from child sets) first) in
      subst (λ (k : Key). MetAt 1 low k nodes) (sym same) (subst (λ n. MetAt 1 n child nodes) (sym begins) (record { sets = sets; at = stand; met = has }))
  child_met from (child ∷ children) nodes low key (here, rest, walk, more, is) (inr later) =
      let r = child_met child.end children rest low key more later in
      record { sets = r.sets; at = r.at; met = subst (λ (ns : List Node). Contains ns (node_of 1 low key r.sets)) (sym is) (Contains-append_right here rest (node_of 1 low key r.sets) r.met) }

  pub root_met : (level from : ℕ) (key : Key) (nodes : List Node) → 0 < level → IsWalk g image level from key nodes → MetAt level from key nodes
  root_met zero from key nodes some walk = absurd (omega (arith, some))
  root_met (suc level) from key nodes some (sets, below, at, walks, is) =
      record { sets = sets; at = at; met = subst (λ (ns : List Node). Contains ns (node_of (suc level) from key sets)) (sym is) (0, omega arith, refl) }

  -- a child of a root of level 2
  pub below_met : (root_key : Key) (root : Inner) (nodes : List Node) (low : ℕ) (key : Key) → IsWalk g image 2 0 root_key nodes → IsReadOff root_key 2 0 root → IsChildAt root.from root.children low key → MetAt 1 low key nodes
  below_met root_key root nodes low key (sets, under, at, walks, is) held child =
      let of = same_sets root_key 2 0 sets root at held in
      let here = subst (λ n. IsChildAt n (children_of (set_keys sets)) low key) of.begins (subst (λ (ks : List Key). IsChildAt root.from ks low key) of.children child) in
      let m = child_met 0 (children_of (set_keys sets)) under low key walks here in
      record {
        sets = m.sets;
        at = m.at;
        met = subst (λ (ns : List Node). Contains ns (node_of 1 low key m.sets)) (sym is) (Contains-append_right (node_of 2 0 root_key sets ∷ []) under (node_of 1 low key m.sets) m.met);
      }
