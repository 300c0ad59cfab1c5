-- What the set of an inner node leaves of the parts, where a change has begun.
use Rattle.std.proofs.Common.{◌≡◌, ◌≢◌, ◌⊎◌, inl, inr, ℕ, zero, suc, List, [], ◌∷◌, Some, refl, sym, ap, ◌∙◌, subst, arith, if◌then◌else◌}
use Rattle.std.specs.Prelude.{Contains, slice_get, slice_set}
use Rattle.bc_cache.specs.Slots.{NodeCache}
use Rattle.bc_change.specs.Ready.{IsNewInner, IsNewLeaf}
use Rattle.bc_change.specs.Under.{IsUnderWay}
use Rattle.bc_change.specs.bc_machine.Containers.{AreLeavesOf, IsInTree, IsLeafFor, IsSpineOf, IsTreeInner, IsTreeLeaf, inner_slot}
use Rattle.bc_change.proofs.Lists.{get_in, in_get}
use Rattle.bc_events.specs.declared.event.Change.{Change}
use Rattle.bc_facts.proofs.Stood.{contains_in, in_contains}
use Rattle.bc_inner.specs.Inner.{Inner}
use Rattle.bc_leaves.specs.Parts.{BySet, Coming, Draft, Free, Leaving, NoNode, Role, inner_node_of}
use Rattle.bc_leaves.specs.Parts as parts
use Rattle.bc_meta.proofs.Lists.{by_test}
use Rattle.bc_meta.specs.Facts.{In}
use Rattle.bc_meta.specs.Records.{Node, put}
use Rattle.bc_shares.specs.Shares.{InnerShare, LeafShare, inner_share, leaf_share, node_share, shape_of}
use Rattle.bc_leaves.specs.Rows.{Row}
use Rattle.bc_spine.specs.Numbers.{HasNumber}
use Rattle.bc_spine.specs.declared.leaf.LeafRange.{LeafRange}
use Rattle.bc_tree.specs.Spine.{Spine}
use Rattle.bc_tree.specs.declared.plan.Plan.{Plan}
use Rattle.bc_whole.specs.State.{Opening}

-- Of these parts the node in one inner slot changed, and what makes the change.
pub record OneNode (slot : ℕ) (a b : parts.State) : Type 0 where
  pub leaves : b.leaves ≡ a.leaves
  pub inner_nodes : b.inner_nodes ≡ a.inner_nodes
  pub end : b.end ≡ a.end
  pub shares : (k : ℕ) → (a.leaves k).role ≢ NoNode → leaf_share b k ≡ leaf_share a k
  pub inner_shares : (y : ℕ) → y ≢ slot → (a.inner_nodes y).role ≢ NoNode
      → inner_share b y ≡ inner_share a y

some_role : (r : Role) → IsInTree r → r ≢ NoNode
some_role NoNode tree none = tree
some_role Draft tree none = tree
some_role Free tree none = cc
some_role Leaving tree none = cc
some_role Coming tree none = tree

come_role : (r : Role) → r ≡ Coming → r ≢ NoNode
come_role r is none = cc

-- ---- a node that is put

module _ (a : parts.State) (nodes : ℕ → Node) (slot : ℕ) (node : Node)
    (is : nodes ≡ put a.records.nodes (a.inner_nodes slot).bucket node)
    (leaf_apart : (k : ℕ) → (a.leaves k).role ≢ NoNode
    → (a.leaves k).bucket ≢ (a.inner_nodes slot).bucket)
    (inner_apart : (y : ℕ) → y ≢ slot → (a.inner_nodes y).role ≢ NoNode
    → (a.inner_nodes y).bucket ≢ (a.inner_nodes slot).bucket) where
  abbrev q : ℕ
  q = (a.inner_nodes slot).bucket

  other : (p : ℕ) → p ≢ q → nodes p ≡ a.records.nodes p
  other p ne = ap (λ (f : ℕ → Node). f p) is ∙ by_test p q
      (λ b. (if b then node else a.records.nodes p) ≡ a.records.nodes p)
      (λ same. absurd (ne same)) (λ _. refl)

  pub here_put : nodes q ≡ node
  here_put = ap (λ (f : ℕ → Node). f q) is ∙ by_test q q
      (λ b. (if b then node else a.records.nodes q) ≡ node) (λ _. refl) (λ ne. absurd (ne refl))

  pub one_node : (b : parts.State) → b.records.nodes ≡ nodes → b.leaves ≡ a.leaves
      → b.inner_nodes ≡ a.inner_nodes → b.end ≡ a.end → OneNode slot a b
  one_node b same leaves inner end = record {
    leaves = leaves;
    inner_nodes = inner;
    end = end;
    shares = λ k some.
        ap (λ (f : ℕ → parts.Leaf). record {
          leaf = f k;
          node = node_share (b.records.nodes (f k).bucket);
        }) leaves
        ∙ ap (λ (n : Node). record { leaf = a.leaves k; node = node_share n })
        (ap (λ (f : ℕ → Node). f (a.leaves k).bucket) same
        ∙ other (a.leaves k).bucket (leaf_apart k some));
    inner_shares = λ y ne some.
        ap (λ (f : ℕ → parts.InnerNode). record {
          inner = f y;
          node = node_share (b.records.nodes (f y).bucket);
        }) inner
        ∙ ap (λ (n : Node). record { inner = a.inner_nodes y; node = node_share n })
        (ap (λ (f : ℕ → Node). f (a.inner_nodes y).bucket) same
        ∙ other (a.inner_nodes y).bucket (inner_apart y ne some));
  }

-- ---- the parts in memory

module _ (w : Opening) (slot : ℕ) (a b : parts.State) (one : OneNode slot a b) where
  leaf_role : (k : ℕ) → (b.leaves k).role ≡ (a.leaves k).role
  leaf_role k = ap (λ (f : ℕ → parts.Leaf). (f k).role) one.leaves

  inner_role : (y : ℕ) → (b.inner_nodes y).role ≡ (a.inner_nodes y).role
  inner_role y = ap (λ (f : ℕ → parts.InnerNode). (f y).role) one.inner_nodes

  -- leaves
  pub leaves_on : (count part : ℕ) (cache : NodeCache) → AreLeavesOf w a count part cache
      → AreLeavesOf w b count part cache
  leaves_on count part cache h = record {
    layout = h.layout;
    rest = h.rest;
    leaves = λ i c at. let was = h.leaves i c at in
        subst (λ (s : LeafShare). IsLeafFor w s c.leaf)
        (sym (one.shares c.number (some_role (a.leaves c.number).role was.at.role))) was;
    others = λ k its tree misses. ap (λ (f : ℕ → parts.Leaf). (f k).pending) one.leaves
        ∙ h.others k its (subst IsInTree (leaf_role k) tree) misses;
    leaving = λ k its leaves. h.leaving k its (sym (leaf_role k) ∙ leaves);
  }

  -- the change that is under way
  pub under_on : (plan : Plan) (c : Change) → (a.inner_nodes slot).role ≡ Free
      → IsUnderWay w a plan c → IsUnderWay w b plan c
  under_on plan c free h = record {
    whole = record {
      names = record {
        gone = λ k leaves. h.whole.names.gone k (sym (leaf_role k) ∙ leaves);
        come = λ k comes. h.whole.names.come k (sym (leaf_role k) ∙ comes);
        only = λ k on. leaf_role k ∙ h.whole.names.only k on;
      };
      leave = λ k m. leaf_role k ∙ h.whole.leave k m;
      old = subst (λ (f : ℕ → parts.Leaf). Row f c.low c.gone.items c.high) (sym one.leaves)
          h.whole.old;
      new = subst (λ (f : ℕ → parts.Leaf). Row f c.low c.come.items c.high) (sym one.leaves)
          h.whole.new;
      slots = h.whole.slots;
    };
    old = λ y m. inner_role y ∙ h.old y m;
    only_old = λ y leaves. h.only_old y (sym (inner_role y) ∙ leaves);
    only_new = λ y comes. h.only_new y (sym (inner_role y) ∙ comes);
    come = λ range leaf m. let it = h.come range leaf m in (
      it.0,
      subst (λ (s : LeafShare). IsNewLeaf w Coming s leaf)
          (sym (one.shares range.number (come_role (a.leaves range.number).role it.1.role_is))) it.1,
    );
    new = λ n m. let it = h.new n m in
        subst (λ (s : InnerShare). IsNewInner w Coming s n)
        (sym (one.inner_shares (inner_slot w n)
        (λ same. not_coming (a.inner_nodes slot).role free
        (subst (λ y. (a.inner_nodes y).role ≡ Coming) same it.role_is))
        (come_role (a.inner_nodes (inner_slot w n)).role it.role_is))) it;
    no_leaf = λ k draft. h.no_leaf k (sym (leaf_role k) ∙ draft);
    no_inner = λ y draft. h.no_inner y (sym (inner_role y) ∙ draft);
  }
    where
      not_coming : (r : Role) → r ≡ Free → r ≡ Coming → ⊥
      not_coming r is comes = let same : Free ≡ Coming = sym is ∙ comes in cc

  -- the tree, of which the node in this slot is another one at the same place
  module _ (sp new : Spine) (at : ℕ) (taker next : Inner)
      (there : slice_get (sp.root ∷ sp.below) at ≡ Some taker)
      (slot_is : inner_slot w taker ≡ slot)
      (apart : (i : ℕ) (n : Inner) → slice_get (sp.root ∷ sp.below) i ≡ Some n → i ≢ at
      → inner_slot w n ≢ slot)
      (nodes : new.root ∷ new.below ≡ slice_set (sp.root ∷ sp.below) at next)
      (place : next.ptr ≡ taker.ptr) (leaves : new.leaves ≡ sp.leaves)
      (end : new.root.end ≡ sp.root.end) (h : IsSpineOf w a sp) (not_by : (y : ℕ) → a.change ≢ BySet y)
      (here : IsTreeInner w b.change slot next (inner_share b slot))
      (change : (y : ℕ) → y ≢ slot → b.change ≢ BySet y) where
    same_slot : inner_slot w next ≡ slot
    same_slot = ap (λ p. w.flow.books.bucket p.offset) place ∙ slot_is

    -- a node of the tree at another place
    other_on : (i : ℕ) (n : Inner) → slice_get (sp.root ∷ sp.below) i ≡ Some n → i ≢ at
        → IsTreeInner w b.change (inner_slot w n) n (inner_share b (inner_slot w n))
    other_on i n e ne =
        let was = h.nodes n (in_contains (sp.root ∷ sp.below) n (get_in (sp.root ∷ sp.below) i n e)) in
        let y = inner_slot w n in
        subst (λ (s : InnerShare). IsTreeInner w b.change y n s)
        (sym (one.inner_shares y (apart i n e ne) (some_role (a.inner_nodes y).role was.role)))
        (record {
          role = was.role;
          first = was.first;
          end = was.end;
          bucket = was.bucket;
          word = was.word;
          level = was.level;
          loaded = was.loaded;
          own = was.own;
          children = λ _. was.children (not_by y);
        })

    at_set : (xs : List Inner) (i j : ℕ) (x y : Inner) → slice_get (slice_set xs i x) j ≡ Some y
        → ((j ≡ i) × (y ≡ x)) ⊎ ((j ≢ i) × (slice_get xs j ≡ Some y))
    at_set [] i j x y e = absurd (nothing j e)
      where
        nothing : (k : ℕ) → slice_get [] k ≡ Some y → ⊥
        nothing zero f = cc
        nothing (suc k) f = cc
    at_set (z ∷ zs) zero zero x y e = inl (refl, some_is x y e)
      where
        some_is : (m n : Inner) → Some m ≡ Some n → n ≡ m
        some_is m n f = cc
    at_set (z ∷ zs) zero (suc j) x y e = inr (λ f. omega (arith, f), e)
    at_set (z ∷ zs) (suc i) zero x y e = inr (λ f. omega (arith, f), e)
    at_set (z ∷ zs) (suc i) (suc j) x y e = elim (at_set zs i j x y e) [
      | inl here_ ↦ inl (ap suc here_.0, here_.1)
      | inr other_ ↦ inr (λ f. other_.0 (omega (arith, f)), other_.1)
    ]

    set_at : (xs : List Inner) (i : ℕ) (x y : Inner) → slice_get xs i ≡ Some y
        → slice_get (slice_set xs i x) i ≡ Some x
    set_at [] zero x y e = absurd (cc)
    set_at [] (suc i) x y e = absurd (cc)
    set_at (z ∷ zs) zero x y e = refl
    set_at (z ∷ zs) (suc i) x y e = set_at zs i x y e

    set_else : (xs : List Inner) (i j : ℕ) (x y : Inner) → j ≢ i → slice_get xs j ≡ Some y
        → slice_get (slice_set xs i x) j ≡ Some y
    set_else [] i j x y ne e = e
    set_else (z ∷ zs) zero zero x y ne e = absurd (ne refl)
    set_else (z ∷ zs) zero (suc j) x y ne e = e
    set_else (z ∷ zs) (suc i) zero x y ne e = e
    set_else (z ∷ zs) (suc i) (suc j) x y ne e = set_else zs i j x y (λ f. ne (ap suc f)) e

    node_on : (n : Inner) → In n (new.root ∷ new.below)
        → IsTreeInner w b.change (inner_slot w n) n (inner_share b (inner_slot w n))
    node_on n m =
        let one_ = in_get (slice_set (sp.root ∷ sp.below) at next) n
        (subst (λ (xs : List Inner). In n xs) nodes m) in
        elim (at_set (sp.root ∷ sp.below) at one_.0 next n one_.1) [
          | inl here_ ↦ subst (λ (y : Inner).
              IsTreeInner w b.change (inner_slot w y) y (inner_share b (inner_slot w y)))
              (sym here_.1)
              (subst (λ k. IsTreeInner w b.change k next (inner_share b k)) (sym same_slot) here)
          | inr else_ ↦ other_on one_.0 n else_.1 else_.0
        ]

    all_on : (y : ℕ) → IsInTree (b.inner_nodes y).role
        → (n : Inner) × In n (new.root ∷ new.below) × (inner_slot w n ≡ y)
    all_on y tree =
        let one_ = h.all_nodes y (subst IsInTree (inner_role y) tree) in
        let got = in_get (sp.root ∷ sp.below) one_.0 (contains_in (sp.root ∷ sp.below) one_.0 one_.1) in
        by_test got.0 at (λ t. (n : Inner) × In n (new.root ∷ new.below) × (inner_slot w n ≡ y))
        (λ same. (
          next,
          subst (λ (xs : List Inner). In next xs) (sym nodes)
              (get_in (slice_set (sp.root ∷ sp.below) at next) at next
              (set_at (sp.root ∷ sp.below) at next taker there)),
          same_slot ∙ sym slot_is
              ∙ ap (inner_slot w) (one_same taker one_.0 there
              (subst (λ i. slice_get (sp.root ∷ sp.below) i ≡ Some one_.0) same got.1)) ∙ one_.2,
        ))
        (λ ne. (
          one_.0,
          subst (λ (xs : List Inner). In one_.0 xs) (sym nodes)
              (get_in (slice_set (sp.root ∷ sp.below) at next) got.0 one_.0
              (set_else (sp.root ∷ sp.below) at got.0 next one_.0 ne got.1)),
          one_.2,
        ))
      where
        one_same : (m n : Inner) → slice_get (sp.root ∷ sp.below) at ≡ Some m
            → slice_get (sp.root ∷ sp.below) at ≡ Some n → m ≡ n
        one_same m n e f = let both : Some m ≡ Some n = sym e ∙ f in cc

    pub tree_on : IsSpineOf w b new
    tree_on = record {
      leaves = λ l m.
          let was = h.leaves l (subst (λ (ls : List LeafRange). Contains ls l) leaves m) in
          subst (λ (f : ℕ → parts.Leaf). IsTreeLeaf w l.from l.end l.ptr (shape_of (f l.number)))
          (sym one.leaves) was;
      all_leaves = λ k tree. subst (λ (ls : List LeafRange). HasNumber ls k) (sym leaves)
          (h.all_leaves k (subst IsInTree (leaf_role k) tree));
      nodes = λ n m. node_on n (contains_in (new.root ∷ new.below) n m);
      all_nodes = λ y tree. let got = all_on y tree in
          (got.0, in_contains (new.root ∷ new.below) got.0 got.1, got.2);
      end = one.end ∙ h.end ∙ sym end;
    }
