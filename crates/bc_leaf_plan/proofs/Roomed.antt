-- The tree in memory stands for the core's still once it has other room.
use Rattle.std.proofs.Common.{◌≡◌, inl, inr, List, [], ◌∷◌, Option, Some, refl, sym, ap, ◌∙◌, subst}
use Rattle.std.specs.Prelude.{Contains, IfSome, is_some, map}
use Rattle.bc_disk.specs.Disk.{DiskFacts}
use Rattle.bc_facts.proofs.Stood.{contains_in, in_contains}
use Rattle.bc_inner.specs.Inner.{Inner}
use Rattle.bc_key.specs.Words.{ptr_word}
use Rattle.bc_key.specs.declared.ptr.Ptr.{Ptr}
use Rattle.bc_leaves.specs.Parts as parts
use Rattle.bc_meta.specs.Facts.{In}
use Rattle.bc_held.specs.bc_hand.Seats.{View, Works, kinds, numbers, world}
use Rattle.bc_held.specs.bc_hand.declared.hand.Hand.{Hand}
use Rattle.bc_held.specs.bc_machine.Containers.{IsSpineOf, IsTreeInner, child_of, inner_slot}
use Rattle.bc_held.specs.bc_machine.World.{IsSpinePart, replay}
use Rattle.bc_held.specs.bc_machine.declared.part.CorePart.{CorePart}
use Rattle.bc_held.specs.bc_machine.declared.part.SpinePart.{SpinePart}
use Rattle.bc_parts.specs.Seat.{PartsView}
use Rattle.bc_leaf_plan.specs.Leaf.{with_spine}
use Rattle.bc_shares.specs.Shares.{inner_share}
use Rattle.bc_spine.specs.Numbers.{HasNumber}
use Rattle.bc_spine.specs.declared.leaf.LeafRange.{LeafRange}
use Rattle.bc_tree.specs.Same.{IsSameTree, SameNode, SameNodes}
use Rattle.bc_tree.specs.Spine.{Spine}
use Rattle.bc_whole.specs.State.{Opening}

-- ---- nodes

was_there : (xs ys : List Inner) (y : Inner) → SameNodes xs ys → In y ys
    → (x : Inner) × In x xs × SameNode x y
was_there [] [] y same m = absurd m
was_there [] (b ∷ bs) y same m = absurd same
was_there (a ∷ xs) [] y same m = absurd same
was_there (a ∷ xs) (b ∷ bs) y (one, more) (inl here) =
    (a, inl refl, subst (λ (z : Inner). SameNode a z) (sym here) one)
was_there (a ∷ xs) (b ∷ bs) y (one, more) (inr later) =
    let rest = was_there xs bs y more later in (rest.0, inr rest.1, rest.2)

is_there : (xs ys : List Inner) (x : Inner) → SameNodes xs ys → In x xs
    → (y : Inner) × In y ys × SameNode x y
is_there [] [] x same m = absurd m
is_there [] (b ∷ bs) x same m = absurd m
is_there (a ∷ xs) [] x same m = absurd same
is_there (a ∷ xs) (b ∷ bs) x (one, more) (inl here) =
    (b, inl refl, subst (λ (z : Inner). SameNode z b) (sym here) one)
is_there (a ∷ xs) (b ∷ bs) x (one, more) (inr later) =
    let rest = is_there xs bs x more later in (rest.0, inr rest.1, rest.2)

module _ (w : Opening) (st : parts.State) where
  same_slot : (a b : Inner) → SameNode a b → inner_slot w a ≡ inner_slot w b
  same_slot a b same = ap (λ (p : Ptr). w.flow.books.bucket p.offset) (sym same.node.ptr)

  same_inner : (a b : Inner) → SameNode a b
      → IsTreeInner w st.change (inner_slot w a) a (inner_share st (inner_slot w a))
      → IsTreeInner w st.change (inner_slot w b) b (inner_share st (inner_slot w b))
  same_inner a b same was =
      let slot = same_slot a b same in
      let at = subst (λ x. IsTreeInner w st.change x a (inner_share st x)) slot was in
      let n = same.node in record {
        role = at.role;
        first = at.first ∙ sym n.from;
        end = at.end ∙ sym n.end;
        bucket = at.bucket ∙ slot;
        word = at.word ∙ ap ptr_word (sym n.ptr);
        level = at.level ∙ sym n.level;
        loaded = λ read. n.loaded ∙ at.loaded read;
        own = λ fresh. let own = at.own (sym n.loaded ∙ fresh) in record {
          number = λ e m. own.number e m ∙ sym n.seq;
          taken_is = n.taken ∙ own.taken_is;
        };
        children = λ other. at.children other ∙ ap (map (child_of w)) (sym same.children_are);
      }

  module _ (s t : Spine) (same : IsSameTree s t) (is : IsSpineOf w st s) where
    all_same : SameNodes (s.root ∷ s.below) (t.root ∷ t.below)
    all_same = (same.root_is, same.below_are)

    pub spine_of : IsSpineOf w st t
    spine_of = record {
      leaves = λ l m. is.leaves l (subst (λ (ls : List LeafRange). Contains ls l) same.leaves_are m);
      all_leaves = λ k live. subst (λ (ls : List LeafRange). HasNumber ls k) (sym same.leaves_are)
          (is.all_leaves k live);
      nodes = λ n m. let was = was_there (s.root ∷ s.below) (t.root ∷ t.below) n all_same
          (contains_in (t.root ∷ t.below) n m) in
          same_inner was.0 n was.2 (is.nodes was.0 (in_contains (s.root ∷ s.below) was.0 was.1));
      all_nodes = λ x live. let was = is.all_nodes x live in
          let now = is_there (s.root ∷ s.below) (t.root ∷ t.below) was.0 all_same
          (contains_in (s.root ∷ s.below) was.0 was.1) in (
            now.0,
            in_contains (t.root ∷ t.below) now.0 now.1,
            sym (same_slot was.0 now.0 now.2) ∙ was.2,
          );
      end = is.end ∙ sym same.root_is.node.end;
    }

-- ---- the part in hand

module _ {C B : Type 0} (cache_facts : C → DiskFacts) (backing_facts : B → DiskFacts)
    (ps : PartsView (CorePart C B)) (v : View cache_facts backing_facts) (h : Hand C B)
    (works : Works cache_facts backing_facts ps v h) (sp : SpinePart) (in_hand : h.spine ≡ Some sp)
    (t : Spine) (same : IsSameTree sp.spine t) where
  pub spine_on : IsSpinePart sp (world cache_facts backing_facts v)
  spine_on = subst (λ (s : Option SpinePart).
      IfSome s (λ p. IsSpinePart p (world cache_facts backing_facts v))) in_hand works.stand.spine

  part_on : IsSpinePart (record sp { spine = t }) (world cache_facts backing_facts v)
  part_on o is course =
      let was = spine_on o is course in
      let w = o.opening.machine in
      let st = (replay o (world cache_facts backing_facts v).log).machine.whole.parts in record {
        spine = spine_of w st sp.spine t same was.spine;
        next_seq = was.next_seq;
        rest = λ off. let at = was.rest off in record {
          change = at.change;
          leaves = at.leaves;
          inner_nodes = at.inner_nodes;
          root = record {
            newest = at.root.newest ∙ same_slot w st sp.spine.root t.root same.root_is;
            sealed = λ some. at.root.sealed some
                ∙ same_slot w st sp.spine.root t.root same.root_is;
          };
        };
      }

  works_at : Works cache_facts backing_facts ps v (with_spine h (record sp { spine = t }))
  works_at = record {
    run = works.run;
    seat = works.seat;
    parts = works.parts ∙ ap (λ (s : Option SpinePart). numbers (record h { spine = s })) in_hand;
    stand = record {
      spine = part_on;
      leaves = works.stand.leaves;
      flight = works.stand.flight;
      buckets = works.stand.buckets;
      journal = works.stand.journal;
      cache = works.stand.cache;
      backing = works.stand.backing;
    };
  }

  pub works_roomed : (k : Hand C B) → k ≡ with_spine h (record sp { spine = t })
      → Works cache_facts backing_facts ps v k
  works_roomed k is = subst (Works cache_facts backing_facts ps v) (sym is) works_at

  pub kinds_roomed : (k : Hand C B) → k ≡ with_spine h (record sp { spine = t })
      → kinds k ≡ kinds h
  kinds_roomed k is = ap (λ (x : Hand C B). kinds x) is
      ∙ ap (λ on. record (kinds h) { spine = on }) (sym (ap is_some in_hand))
