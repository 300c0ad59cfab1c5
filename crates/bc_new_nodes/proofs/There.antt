-- What the write of one new node leaves of those before it and of those behind it.
use Rattle.std.proofs.Common.{◌≡◌, ◌≢◌, ℕ, ◌+◌, ◌-◌, true, false, List, [], ◌∷◌, ◌++◌, refl, sym, ap, ◌∙◌, subst}
use Rattle.bc_disk.specs.Disk.{DiskFacts}
use Rattle.bc_disk.specs.declared.geometry.Geometry.{Geometry}
use Rattle.bc_facts.specs.Seen.{seen_set}
use Rattle.bc_inner.specs.Inner.{Inner, children_set}
use Rattle.bc_new_node.proofs.Brought.{first_inner, first_leaf}
use Rattle.bc_new_node.specs.Kind.{IsWrittenNew, leaf_node}
use Rattle.bc_new_node.specs.Wrote.{HasWrittenNew, KeepsDraftsBut, write_by}
use Rattle.bc_new_node.specs.bc_drafts.Draft.{HasNoInner, HasNoLeaf, IsDraftLeaf}
use Rattle.bc_new_node.specs.bc_hand.Seats.{View, world}
use Rattle.bc_meta.proofs.Lists.{by_test}
use Rattle.bc_new_node.proofs.of_bc_held.Keeping.{number_of}
use Rattle.bc_new_node.specs.bc_held.Held.{AreOther, IsHeldFor}
use Rattle.bc_new_node.specs.bc_place.Place.{HasBefore}
use Rattle.bc_new_node.specs.bc_held.declared.held.HeldBucket.{HeldBucket}
use Rattle.bc_new_node.specs.bc_machine.World.{FromEach}
use Rattle.bc_new_nodes.proofs.Lists.{NoneIs}
use Rattle.bc_new_nodes.proofs.Same.{brings_on, brings_written, comes_on, inner_back, inner_before, leaf_back, leaf_before, node_for_on, none_taken, same_at, same_leaves, slot_same}
use Rattle.bc_new_nodes.specs.Asked.{IsNodeFor}
use Rattle.bc_new_nodes.specs.Course.{AreThere, AreToWrite, Differs, GoesApart, HasInnerIn, HasLeafIn, IsThere, SlotsDiffer}
use Rattle.bc_planned.specs.Nodes.{slot_of}
use Rattle.bc_new_nodes.specs.Wrote.{HaveWritten}
use Rattle.bc_node.specs.Leaf.{Leaf, pending_set}
use Rattle.bc_plan.specs.Write.{FirstSet, HasNodeWritten}
use Rattle.bc_plan.specs.declared.write.NewNode.{NewNode}
use Rattle.bc_tree.specs.declared.plan.Plan.{Plan}

slots_on : (p q : Plan) (n : NewNode) (ms : List NewNode) → q.leaves ≡ p.leaves
    → SlotsDiffer p n ms → SlotsDiffer q n ms
slots_on p q n [] l h = tt
slots_on p q n (m ∷ ms) l h = (
  λ leaf same. h.0 leaf (sym (slot_same m p q l) ∙ same ∙ slot_same n p q l),
  slots_on p q n ms l h.1,
)

module _ {C B : Type 0} (cache_facts : C → DiskFacts) (backing_facts : B → DiskFacts) where
  -- ---- steps

  pub one_wrote : (before : ℕ) (g : Geometry) (ns : List NewNode) (bs : List HeldBucket)
      (n : NewNode) (b : HeldBucket) (p q r : Plan) (u v w : View cache_facts backing_facts)
      → HaveWritten cache_facts backing_facts before g ns bs p q u v
      → HasWrittenNew cache_facts backing_facts write_by before g q n (slot_of q n) b v w
      → HasNodeWritten g n q r
      → HaveWritten cache_facts backing_facts before g (ns ++ n ∷ []) (bs ++ b ∷ []) p r u w
  one_wrote before g [] [] n b p q r u v w is did by = (
    r,
    w,
    subst (λ x. HasWrittenNew cache_facts backing_facts write_by before g x n (slot_of x n) b u w)
        is.1
        (subst (λ x. HasWrittenNew cache_facts backing_facts write_by before g q n (slot_of q n) b x w)
        is.0 did),
    subst (λ x. HasNodeWritten g n x r) is.1 by,
    (refl, refl),
  )
  one_wrote before g [] (c ∷ cs) n b p q r u v w is did by = absurd is
  one_wrote before g (m ∷ ms) [] n b p q r u v w is did by = absurd is
  one_wrote before g (m ∷ ms) (c ∷ cs) n b p q r u v w is did by =
      (is.0, is.1, is.2, is.3, one_wrote before g ms cs n b is.0 q r is.1 v w is.4 did by)

  pub none_wrote : (before : ℕ) (g : Geometry) (p : Plan) (v : View cache_facts backing_facts)
      → HaveWritten cache_facts backing_facts before g [] [] p p v v
  none_wrote before g p v = (refl, refl)

  pub one_there : (before : ℕ) (g : Geometry) (p : Plan) (ns : List NewNode) (bs : List HeldBucket)
      (n : NewNode) (b : HeldBucket) (v : View cache_facts backing_facts)
      → AreThere cache_facts backing_facts before g p ns bs v
      → IsThere cache_facts backing_facts before g p n b v
      → AreThere cache_facts backing_facts before g p (ns ++ n ∷ []) (bs ++ b ∷ []) v
  one_there before g p [] [] n b v are is = (is, tt)
  one_there before g p [] (c ∷ cs) n b v are is = absurd are
  one_there before g p (m ∷ ms) [] n b v are is = absurd are
  one_there before g p (m ∷ ms) (c ∷ cs) n b v are is =
      (are.0, one_there before g p ms cs n b v are.1 is)

  -- ---- one node is written

  module _ (before : ℕ) (g : Geometry) (sectors : ℕ) (p q : Plan) (n : NewNode) (b : HeldBucket)
      (v w : View cache_facts backing_facts) (wrote : HasNodeWritten g n p q)
      (keeps : KeepsDraftsBut cache_facts backing_facts (slot_of p n) (b.bucket - before) b v w) where
    abbrev l : q.leaves ≡ p.leaves
    l = same_leaves g n p q wrote

    -- those before it
    leaf_stays : (m : NewNode) (a : HeldBucket) (leaf : Leaf)
        → HasLeafIn cache_facts backing_facts before g p m a leaf v
        → HasLeafIn cache_facts backing_facts before g q m a leaf w
    leaf_stays m a leaf h = record {
      old = h.old;
      comes = comes_on m p q h.old l h.comes;
      appended = h.appended;
      none = h.none;
      at = h.at;
      draft = subst (λ k. FromEach (world cache_facts backing_facts w)
          (IsDraftLeaf (leaf_node k (a.bucket - before) g h.old)
          (seen_set g true (pending_set h.old)))) (sym (slot_same m p q l))
          (keeps.leaf (leaf_node (slot_of p m) (a.bucket - before) g h.old)
          (seen_set g true (pending_set h.old)) h.draft);
    }

    inner_stays : (a : HeldBucket) (node : Inner)
        → HasInnerIn cache_facts backing_facts before g a node v
        → HasInnerIn cache_facts backing_facts before g a node w
    inner_stays a node h = record {
      old = h.old;
      taken = h.taken;
      at = h.at;
      draft = keeps.inner _ (seen_set g false (children_set h.old)) h.draft;
    }

    there_stays : (m : NewNode) (a : HeldBucket) → n ≢ m
        → IsThere cache_facts backing_facts before g p m a v
        → IsThere cache_facts backing_facts before g q m a w
    there_stays m a ne h =
        let s = same_at g n m p q ne wrote in record {
          brings = brings_on m p q s h.brings;
          purpose = h.purpose;
          leaf = λ leaf is. leaf_stays m a leaf (h.leaf leaf (leaf_back m p q leaf s is));
          inner = λ node is. inner_stays a node (h.inner node (inner_back m p q node s is));
        }

    pub are_stay : (ms : List NewNode) (cs : List HeldBucket) → NoneIs n ms
        → AreThere cache_facts backing_facts before g p ms cs v
        → AreThere cache_facts backing_facts before g q ms cs w
    are_stay [] [] none h = tt
    are_stay [] (c ∷ cs) none h = absurd h
    are_stay (m ∷ ms) [] none h = absurd h
    are_stay (m ∷ ms) (c ∷ cs) none h = (
      there_stays m c (λ same. none.0 (sym same)) h.0,
      are_stay ms cs none.1 h.1,
    )

    -- it itself
    pub is_there : (seq : ℕ) → IsNodeFor g sectors p seq n b
        → FromEach (world cache_facts backing_facts w)
        (IsWrittenNew g p n (slot_of p n) (b.bucket - before))
        → IsThere cache_facts backing_facts before g q n b w
    is_there seq node knows = record {
      brings = brings_written g n p q wrote;
      purpose = node.purpose;
      leaf = λ leaf is.
          let was = leaf_before g n p q leaf wrote is in record {
            old = was.0;
            comes = comes_on n p q was.0 l (node.leaf was.0 was.1);
            appended = was.2;
            none = none_taken g sectors n p was.0 node.can was.1;
            at = sym (ap (λ (f : FirstSet). f.ptr)
                (first_leaf p n node.first was.0 node.first_is was.1)) ∙ node.place;
            draft = subst (λ k. FromEach (world cache_facts backing_facts w)
                (IsDraftLeaf (leaf_node k (b.bucket - before) g was.0)
                (seen_set g true (pending_set was.0)))) (sym (slot_same n p q l))
                (λ o is course. (knows o is course).leaf was.0 was.1);
          };
      inner = λ node' is.
          let was = inner_before g n p q node' wrote is in record {
            old = was.0;
            taken = was.2;
            at = sym (ap (λ (f : FirstSet). f.ptr)
                (first_inner p n node.first was.0 node.first_is was.1)) ∙ node.place;
            draft = λ o is course. (knows o is course).inner was.0 was.1;
          };
    }

    -- those behind it
    apart_stays : (a : HeldBucket) (cs : List HeldBucket)
        → GoesApart cache_facts backing_facts a cs v → GoesApart cache_facts backing_facts a cs w
    apart_stays a [] h = tt
    apart_stays a (c ∷ cs) h = (keeps.other c a h.0, apart_stays a cs h.1)

    -- no inner node comes to lie in another bucket
    none_stays : (a : HeldBucket) → FromEach (world cache_facts backing_facts w) (HasBefore before)
        → FromEach (world cache_facts backing_facts w) (IsHeldFor w.first b)
        → FromEach (world cache_facts backing_facts w) (IsHeldFor w.first a)
        → FromEach (world cache_facts backing_facts w) (AreOther a b)
        → FromEach (world cache_facts backing_facts v) (HasNoInner (a.bucket - before))
        → FromEach (world cache_facts backing_facts w) (HasNoInner (a.bucket - before))
    none_stays a first mine its other none = by_test (a.bucket - before) (b.bucket - before)
        (λ t. FromEach (world cache_facts backing_facts w) (HasNoInner (a.bucket - before)))
        (λ same o is course. absurd (other o is course
        (sym (number_of before a o (first o is course) (its o is course).lies) ∙ same
        ∙ number_of before b o (first o is course) (mine o is course).lies)))
        (λ ne. keeps.no_inner (a.bucket - before) ne none)

    pub to_write_stay : (first : FromEach (world cache_facts backing_facts w) (HasBefore before))
        → (mine : FromEach (world cache_facts backing_facts w) (IsHeldFor w.first b))
        → (seq : ℕ) (ms : List NewNode) (cs : List HeldBucket) → Differs n ms
        → SlotsDiffer p n ms → GoesApart cache_facts backing_facts b cs v
        → AreToWrite cache_facts backing_facts before g sectors p seq ms cs v
        → AreToWrite cache_facts backing_facts before g sectors q seq ms cs w
    to_write_stay first mine seq [] [] differs slots apart h = tt
    to_write_stay first mine seq [] (c ∷ cs) differs slots apart h = absurd h
    to_write_stay first mine seq (m ∷ ms) [] differs slots apart h = absurd h
    to_write_stay first mine seq (m ∷ ms) (c ∷ cs) differs slots apart h = (
      record {
        node_for = node_for_on g sectors m p q seq c (same_at g n m p q differs.0 wrote) l h.0.node_for;
        vacant = keeps.vacant c apart.0 h.0.vacant;
        mine = keeps.held c h.0.mine;
        no_inner = none_stays c first mine (keeps.held c h.0.mine) (keeps.other c b apart.0)
            h.0.no_inner;
        free = λ leaf. subst (λ k. FromEach (world cache_facts backing_facts w) (HasNoLeaf k))
            (sym (slot_same m p q l))
            (keeps.no_leaf (slot_of p m) (slots.0 leaf) (h.0.free leaf));
      },
      h.1,
      slots_on p q m ms l h.2,
      apart_stays c cs h.3,
      to_write_stay first mine (seq + 1) ms cs differs.1 slots.1 apart.1 h.4,
    )
