-- What holds behind so many new nodes.
use Rattle.std.proofs.Common.{◌≡◌, ℕ, ◌+◌, ◌-◌, List, [], ◌∷◌, ◌++◌, drop, length, take, Some, sym, ap, ◌∙◌, subst, inl, inr, arith}
use Rattle.std.specs.Prelude.{All, Vec, slice_get}
use Rattle.std.specs.declared.alloc.Global.{Global}
use Rattle.bc_disk.specs.Disk.{DiskFacts}
use Rattle.bc_events.specs.declared.event.Written.{Written}
use Rattle.bc_new_node.proofs.Brought.{brings}
use Rattle.bc_new_node.proofs.of_bc_held.Keeping.{held_since, number_of}
use Rattle.bc_new_node.proofs.of_bc_place.Keeping.{made_by, opening_deed, opening_lasts}
use Rattle.bc_new_node.proofs.of_bc_place.Knowing.{before_since}
use Rattle.bc_new_node.specs.Kind.{IsDividedBy, IsInnerOf, IsWrittenNew, inner_node, leaf_node}
use Rattle.bc_new_node.specs.Wrote.{HasWrittenNew, KeepsDraftsBut, numbered, write_by}
use Rattle.bc_new_node.specs.bc_hand.Seats.{Did, IsCoreSeat, View, world}
use Rattle.bc_new_node.specs.bc_hand.declared.hand.Hand.{Hand}
use Rattle.bc_new_node.specs.bc_held.Held.{IsHeldFor}
use Rattle.bc_new_node.specs.bc_held.declared.held.HeldBucket.{HeldBucket}
use Rattle.bc_new_node.specs.bc_machine.World.{FromEach}
use Rattle.bc_new_node.specs.bc_machine.declared.part.SpinePart.{SpinePart}
use Rattle.bc_new_node.specs.bc_place.Place.{HasBefore}
use Rattle.bc_facts.specs.Layout.{IsLayoutOf}
use Rattle.bc_inner.specs.Inner.{Inner}
use Rattle.bc_new_nodes.proofs.Lists.{drop_next, none_before, take_all, take_next}
use Rattle.bc_new_nodes.proofs.Only.{only_inner, only_leaf}
use Rattle.bc_new_nodes.proofs.Same.{inner_kind, same_leaves, same_nodes, slot_comes}
use Rattle.bc_new_nodes.proofs.There.{are_stay, is_there, one_there, one_wrote, to_write_stay}
use Rattle.bc_new_nodes.specs.Asked.{ChildrenPoint, PointsInto}
use Rattle.bc_new_nodes.specs.Course.{AreOnce, AreRooms, AreThere, AreToWrite, Brings, HasOnly, HaveDoneEach, counted}
use Rattle.bc_planned.specs.Nodes.{nodes_of, slot_of}
use Rattle.bc_new_nodes.specs.Wrote.{HaveWritten}
use Rattle.bc_parts.specs.Seat.{Holds}
use Rattle.bc_plan.specs.Write.{HasNodeWritten}
use Rattle.bc_plan.specs.declared.write.NewNode.{NewNode}
use Rattle.bc_spine.specs.Exchange.{coming}
use Rattle.bc_spine.specs.Numbers.{HasNumber}
use Rattle.bc_spine.specs.declared.exchange.Exchange.{Exchange}
use Rattle.bc_tree.specs.Plan.{Fits}
use Rattle.bc_tree.specs.declared.plan.Plan.{Plan}

module _ {C B : Type 0} (cache_facts : C → DiskFacts) (backing_facts : B → DiskFacts) where
  pub record IsSoFar (before sectors : ℕ) (spine : SpinePart) (nodes : List NewNode)
      (bs : List HeldBucket) (done : ℕ) (p q : Plan) (old new : Hand C B)
      (rooms : List (Vec ℕ Global)) (v w : View cache_facts backing_facts) : Type 0 where
    pub wrote : HaveWritten cache_facts backing_facts before spine.spine.geometry (take done nodes)
        (take done bs) p q v w
    pub hand : counted old spine done new
    pub fits : Fits spine.spine q
    pub leaves : q.leaves ≡ p.leaves
    pub nodes_are : nodes_of q ≡ nodes_of p
    pub to_write : AreToWrite cache_facts backing_facts before spine.spine.geometry sectors q
        (spine.next_seq + done) (drop done nodes) (drop done bs) w
    pub there : AreThere cache_facts backing_facts before spine.spine.geometry q (take done nodes)
        (take done bs) w
    pub only : FromEach (world cache_facts backing_facts w) (HasOnly p.leaves nodes bs)
    pub divided : FromEach (world cache_facts backing_facts w) (IsDividedBy spine.spine.geometry)
    pub points : FromEach (world cache_facts backing_facts w) (ChildrenPoint spine.spine.geometry p)
    pub rooms_are : AreRooms spine.spine.geometry rooms
    pub rooms_many : length rooms + done ≡ length bs

  -- the next one
  module _ (before sectors : ℕ) (spine : SpinePart) (nodes : List NewNode) (bs : List HeldBucket)
      (done : ℕ) (p q r : Plan) (old mid new : Hand C B) (rooms less : List (Vec ℕ Global))
      (u v w : View cache_facts backing_facts)
      (so_far : IsSoFar before sectors spine nodes bs done p q old mid rooms u v)
      (n : NewNode) (b : HeldBucket) (its_node : slice_get nodes done ≡ Some n)
      (its_bucket : slice_get bs done ≡ Some b) where
    pub next_is : AreToWrite cache_facts backing_facts before spine.spine.geometry sectors q
        (spine.next_seq + done) (n ∷ drop (done + 1) nodes) (b ∷ drop (done + 1) bs) v
    next_is = subst (λ ns. AreToWrite cache_facts backing_facts before spine.spine.geometry sectors q
        (spine.next_seq + done) ns (b ∷ drop (done + 1) bs) v) (drop_next nodes done n its_node)
        (subst (λ cs. AreToWrite cache_facts backing_facts before spine.spine.geometry sectors q
        (spine.next_seq + done) (drop done nodes) cs v) (drop_next bs done b its_bucket)
        so_far.to_write)

    module _ (seat : IsCoreSeat cache_facts backing_facts v) (holds : Holds v.parts 0)
        (once : AreOnce nodes)
        (first : FromEach (world cache_facts backing_facts v) (HasBefore before))
        (did : HasWrittenNew cache_facts backing_facts write_by before spine.spine.geometry q n
        (slot_of q n) b v w)
        (wrote : HasNodeWritten spine.spine.geometry n q r) (fits : Fits spine.spine r)
        (knows : FromEach (world cache_facts backing_facts w)
        (IsWrittenNew spine.spine.geometry q n (slot_of q n) (b.bucket - before)))
        (keeps : KeepsDraftsBut cache_facts backing_facts (slot_of q n) (b.bucket - before) b v w)
        (hand : (s : SpinePart) → mid.spine ≡ Some s → new ≡ numbered mid s new.cache)
        (its_room : AreRooms spine.spine.geometry less) (fewer : length less + 1 ≡ length rooms) where
      mine : FromEach (world cache_facts backing_facts v) (IsHeldFor v.first b)
      mine = next_is.0.mine

      only_next : Brings q n
          → FromEach (world cache_facts backing_facts w) (HasOnly p.leaves nodes bs)
      only_next (inl leaf) = only_leaf p.leaves nodes bs cache_facts backing_facts v holds
          so_far.only w b.to.offset
          (leaf_node (slot_of q n) (b.bucket - before) spine.spine.geometry leaf.0) did.values
          (subst (λ (e : Exchange). HasNumber (coming e) (slot_of q n)) so_far.leaves
          (let comes = next_is.0.node_for.leaf leaf.0 leaf.1 in
          slot_comes q n comes.range comes.its_range))
          (subst (λ (x : Written). Did cache_facts backing_facts
          (Some (write_by b x did.values)) v w) (did.what_is.leaf leaf.0 leaf.1) did.did)
      only_next (inr inner) =
          let its = subst (λ (x : Written). Did cache_facts backing_facts
          (Some (write_by b x did.values)) v w) (did.what_is.inner inner.0 inner.1) did.did in
          only_inner p.leaves nodes bs cache_facts backing_facts v holds so_far.only w b.to.offset
          (inner_node (b.bucket - before) spine.spine.geometry inner.0) did.values its
          (λ o is course. record {
            at = done;
            node = n;
            inner = inner_kind q n inner.0 inner.1;
            its_node = its_node;
            bucket = b;
            its_bucket = its_bucket;
            slot = sym (number_of before b o
                (before_since cache_facts backing_facts v before first its.is.before its.is.since o is
                course)
                (held_since cache_facts backing_facts v its.is.before seat its.is.since b mine o is
                course).lies);
          })

      hand_next : counted old spine (done + 1) new
      hand_next =
          let has : mid.spine ≡ Some (record spine { next_seq = spine.next_seq + done }) =
          ap (λ (h : Hand C B). h.spine) so_far.hand in
          hand (record spine { next_seq = spine.next_seq + done }) has
          ∙ ap (λ (h : Hand C B). numbered h (record spine { next_seq = spine.next_seq + done }) new.cache)
          so_far.hand
          ∙ ap (λ k. record old { spine = Some (record spine { next_seq = k }); cache = new.cache })
          (let e : spine.next_seq + done + 1 ≡ spine.next_seq + (done + 1) = omega arith in e)

      pub so_far_next : IsSoFar before sectors spine nodes bs (done + 1) p r old new less u w
      so_far_next =
          let g = spine.spine.geometry in
          let next = next_is in
          let ns = sym (take_next nodes done n its_node) in
          let cs = sym (take_next bs done b its_bucket) in
          let stay = are_stay cache_facts backing_facts before g sectors q r n b v w wrote keeps
          (take done nodes) (take done bs) (none_before nodes done n once its_node) so_far.there in
          let here = is_there cache_facts backing_facts before g sectors q r n b v w wrote keeps
          (spine.next_seq + done) next.0.node_for knows in
          let more = to_write_stay cache_facts backing_facts before g sectors q r n b v w wrote keeps
          ((opening_deed cache_facts backing_facts v w (write_by b did.what did.values) seat did.did).before
          before first) (keeps.held b mine)
          (spine.next_seq + done + 1) (drop (done + 1) nodes) (drop (done + 1) bs) next.1 next.2
          next.3 next.4 in record {
            wrote = subst (λ xs. HaveWritten cache_facts backing_facts before g xs
                (take (done + 1) bs) p r u w) ns
                (subst (λ xs. HaveWritten cache_facts backing_facts before g
                (take done nodes ++ n ∷ []) xs p r u w) cs
                (one_wrote cache_facts backing_facts before g (take done nodes) (take done bs) n b p q
                r u v w so_far.wrote did wrote));
            hand = hand_next;
            fits = fits;
            leaves = same_leaves g n q r wrote ∙ so_far.leaves;
            nodes_are = same_nodes g n q r wrote ∙ so_far.nodes_are;
            to_write = subst (λ k. AreToWrite cache_facts backing_facts before g sectors r k
                (drop (done + 1) nodes) (drop (done + 1) bs) w)
                (let e : spine.next_seq + done + 1 ≡ spine.next_seq + (done + 1) = omega arith in e)
                more;
            there = subst (λ xs. AreThere cache_facts backing_facts before g r xs
                (take (done + 1) bs) w) ns
                (subst (λ xs. AreThere cache_facts backing_facts before g r
                (take done nodes ++ n ∷ []) xs w) cs
                (one_there cache_facts backing_facts before g r (take done nodes) (take done bs) n b w
                stay here));
            only = only_next (brings g sectors q n next.0.node_for.can);
            divided = made_by cache_facts backing_facts (λ i. IsDividedBy g) (λ i. IsDividedBy g)
                (opening_lasts (λ o. IsLayoutOf g o.opening.machine.layout)) v w
                (write_by b did.what did.values) seat did.did (λ o st on h. h) so_far.divided;
            points = made_by cache_facts backing_facts (λ i. ChildrenPoint g p) (λ i. ChildrenPoint g p)
                (opening_lasts (λ o. (m : NewNode) (node : Inner) → IsInnerOf p m node
                → All (PointsInto g o) node.children)) v w
                (write_by b did.what did.values) seat did.did (λ o st on h. h) so_far.points;
            rooms_are = its_room;
            rooms_many = let many = so_far.rooms_many in omega (arith, many, fewer);
          }

  -- the last one was written
  module _ (before sectors : ℕ) (spine : SpinePart) (nodes : List NewNode) (bs : List HeldBucket)
      (done : ℕ) (p q : Plan) (old new : Hand C B) (rooms : List (Vec ℕ Global))
      (v w : View cache_facts backing_facts) (all : done ≡ length nodes)
      (many : length nodes ≡ length bs)
      (so_far : IsSoFar before sectors spine nodes bs done p q old new rooms v w) where
    all_nodes : take done nodes ≡ nodes
    all_nodes = ap (λ n. take n nodes) all ∙ take_all nodes

    all_buckets : take done bs ≡ bs
    all_buckets = ap (λ n. take n bs) (all ∙ many) ∙ take_all bs

    pub done_each : HaveDoneEach cache_facts backing_facts before spine nodes bs p q old new v w
    done_each = record {
      wrote = subst (λ xs. HaveWritten cache_facts backing_facts before spine.spine.geometry xs bs p q
          v w) all_nodes (subst (λ xs. HaveWritten cache_facts backing_facts before
          spine.spine.geometry (take done nodes) xs p q v w) all_buckets so_far.wrote);
      hand = subst (λ n. counted old spine n new) (all ∙ many) so_far.hand;
      fits = so_far.fits;
      leaves = so_far.leaves;
      nodes_are = so_far.nodes_are;
      there = subst (λ xs. AreThere cache_facts backing_facts before spine.spine.geometry q xs bs w)
          all_nodes (subst (λ xs. AreThere cache_facts backing_facts before spine.spine.geometry q
          (take done nodes) xs w) all_buckets so_far.there);
      only = so_far.only;
      divided = so_far.divided;
      points = so_far.points;
    }
