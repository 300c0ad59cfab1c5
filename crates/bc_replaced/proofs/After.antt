-- Once all new nodes are written, the change may be made.
use Rattle.std.proofs.Common.{◌≡◌, inl, inr, ℕ, ◌+◌, true, false, List, [], ◌∷◌, length, Option, None, Some, refl, sym, ap, ◌∙◌, subst, arith}
use Rattle.std.specs.Prelude.{◌&&◌, Contains, IfSome, is_some, option_to_list}
use Rattle.bc_by_root.specs.Done.{HasChanged, HasCut, HasInstalledIn, HasNotBegun, HasPut}
use Rattle.bc_by_root.specs.Given.{MayChange}
use Rattle.bc_by_root.specs.bc_install.Ended.{HasProperKeys}
use Rattle.bc_by_root.specs.bc_install.bc_deed.Asked.{IsHalted}
use Rattle.bc_by_root.specs.bc_install.bc_deed.Flushed.{HasDone}
use Rattle.bc_by_root.specs.bc_install.bc_change.Goes.{BringsBy, BringsRoot}
use Rattle.bc_by_root.specs.bc_install.bc_change.Ready.{IsReadyFor, IsTree}
use Rattle.bc_by_root.specs.declared.error.NotBegun.{NotBegun}
use Rattle.bc_by_root.specs.declared.prepare.Installing.{Installing}
use Rattle.bc_disk.specs.Disk.{DiskFacts}
use Rattle.bc_disk.specs.declared.geometry.Geometry.{Geometry}
use Rattle.bc_inner.specs.Inner.{Inner}
use Rattle.bc_jset.specs.EntryBytes.{IsLevel}
use Rattle.bc_meta.specs.Facts.{In}
use Rattle.bc_new_nodes.specs.Wrote.{HaveNotWritten, HaveWritten, HaveWrittenAll, StaysAsked, changed}
use Rattle.bc_new_nodes.specs.bc_hand.Seats.{HasNoneBehindLeaves, Kinds, View, kinds, world}
use Rattle.bc_new_nodes.specs.bc_hand.declared.error.StepError.{StepError}
use Rattle.bc_new_nodes.specs.bc_hand.declared.error.StepError.TheVariants as step
use Rattle.bc_new_nodes.specs.bc_hand.declared.hand.Hand.{Hand}
use Rattle.bc_new_nodes.specs.bc_held.declared.held.HeldBucket.{HeldBucket}
use Rattle.bc_new_nodes.specs.bc_machine.World.{FromEach, World}
use Rattle.bc_new_nodes.specs.bc_machine.declared.part.SpinePart.{SpinePart}
use Rattle.bc_node.specs.Leaf.{AreProperKeys, Leaf}
use Rattle.bc_plan.specs.Write.{HasNodeWritten}
use Rattle.bc_plan.specs.declared.write.NewNode.{NewNode}
use Rattle.bc_plan.specs.declared.write.NewNode.TheVariants.{Behind, First, Lowest, Parent, Root, Second}
use Rattle.bc_planned.specs.Nodes.{is_moved, nodes_of, top_is_moved}
use Rattle.bc_leaf_plan.specs.Way.{moves_up}
use Rattle.bc_replaced.specs.Given.{HasProperLast, MayMake}
use Rattle.bc_leaf_plan.proofs.Rows.{some_one}
use Rattle.bc_replaced.specs.Made.{HasMade, HasNotMade, HasTreeNow, HasWritten, KeepsEnough, failed_by, written}
use Rattle.bc_replaced.specs.declared.error.MakeError.TheVariants as error
use Rattle.bc_spine.specs.Exchange.{coming, going}
use Rattle.bc_spine.specs.declared.exchange.Exchange.{Exchange}
use Rattle.bc_spine.specs.declared.leaf.LeafRange.{LeafRange}
use Rattle.bc_tree.specs.LastKeys.{KeepLastKeys, LeafKeys, StandIn, keys_next}
use Rattle.bc_tree.proofs.LastKeys.{are_kept}
use Rattle.bc_tree.specs.Next.{below_next, leaves_next, root_next}
use Rattle.bc_tree.specs.Plan.{Fits}
use Rattle.bc_tree.specs.Spine.{IsRootOf, Spine}
use Rattle.bc_tree.specs.declared.change.NodeChange.{NodeChange}
use Rattle.bc_tree.specs.declared.change.NodeChange.TheVariants.{Move, Set}
use Rattle.bc_tree.specs.declared.plan.Plan.{Plan}

-- ---- which nodes move

-- the same nodes move
record MoveAlike (p q : Plan) : Type 0 where
  bottom : is_moved q.bottom ≡ is_moved p.bottom
  top : top_is_moved q.top ≡ top_is_moved p.top

alike_by : (p q : Plan) → q.bottom ≡ p.bottom → q.top ≡ p.top → MoveAlike p q
alike_by p q bottom top = record { bottom = ap is_moved bottom; top = ap top_is_moved top }

one_alike : (g : Geometry) (node : NewNode) (p q : Plan) → HasNodeWritten g node p q
    → MoveAlike p q
one_alike g First p q (is, appended) =
    alike_by p q (ap (λ (x : Plan). x.bottom) is) (ap (λ (x : Plan). x.top) is)
one_alike g Second p q (a, b, was, is, appended) =
    alike_by p q (ap (λ (x : Plan). x.bottom) is) (ap (λ (x : Plan). x.top) is)
one_alike g Parent p q (is, (a, b, was, now, taken)) = record {
  bottom = ap is_moved now ∙ sym (ap is_moved was);
  top = ap (λ (x : Plan). top_is_moved x.top) is;
}
one_alike g Root p q (a, b, was, is, (x, y, moved, now, taken)) = record {
  bottom = ap (λ (z : Plan). is_moved z.bottom) is;
  top = ap (λ (z : Plan). top_is_moved z.top) is ∙ ap is_moved now
      ∙ sym (ap top_is_moved was ∙ ap is_moved moved);
}
one_alike g Behind p q (a, b, was, is, taken) =
    alike_by p q (ap (λ (x : Plan). x.bottom) is) (ap (λ (x : Plan). x.top) is)
one_alike g Lowest p q (a, b, was, is, taken) =
    alike_by p q (ap (λ (x : Plan). x.bottom) is) (ap (λ (x : Plan). x.top) is)

module _ {C B : Type 0} (cache_facts : C → DiskFacts) (backing_facts : B → DiskFacts) where
  all_alike : (before : ℕ) (g : Geometry) (ns : List NewNode) (bs : List HeldBucket) (p q : Plan)
      (v w : View cache_facts backing_facts)
      → HaveWritten cache_facts backing_facts before g ns bs p q v w → MoveAlike p q
  all_alike before g [] [] p q v w (same, is) =
      alike_by p q (ap (λ (x : Plan). x.bottom) is) (ap (λ (x : Plan). x.top) is)
  all_alike before g [] (b ∷ bs) p q v w h = absurd h
  all_alike before g (n ∷ ns) [] p q v w h = absurd h
  all_alike before g (n ∷ ns) (b ∷ bs) p q v w (r, u, one, is, more) =
      let here = one_alike g n p r is in
      let rest = all_alike before g ns bs r q u w more in record {
        bottom = rest.bottom ∙ here.bottom;
        top = rest.top ∙ here.top;
      }

up_alike : (below : List Inner) (p q : Plan) → MoveAlike p q
    → moves_up below p.bottom p.top ≡ true → moves_up below q.bottom q.top ≡ true
up_alike [] p q alike up = alike.bottom ∙ up
up_alike (n ∷ ns) p q alike up = ap (λ b. b && top_is_moved q.top) alike.bottom
    ∙ ap (λ b. is_moved p.bottom && b) alike.top ∙ up

-- ---- the root that comes

no_yes : false ≡ true → ⊥
no_yes is = cc

brings_by : (below : List Inner) (b : NodeChange) (t : Option NodeChange)
    → moves_up below b t ≡ true → (root : Inner) × BringsBy below b t root
brings_by [] (Set ks) t up = absurd (no_yes up)
brings_by [] (Move next) t up = (next, refl)
brings_by (n ∷ ns) (Set ks) t up = absurd (no_yes up)
brings_by (n ∷ ns) (Move next) None up = absurd (no_yes up)
brings_by (n ∷ ns) (Move next) (Some (Set ks)) up = absurd (no_yes up)
brings_by (n ∷ ns) (Move next) (Some (Move root)) up = (root, refl)

root_is : (old root : Inner) (below : List Inner) (b : NodeChange) (t : Option NodeChange)
    → BringsBy below b t root → root_next old below b t ≡ root
root_is old root [] (Set ks) t is = absurd is
root_is old root [] (Move next) t is = sym is
root_is old root (n ∷ ns) (Set ks) t is = absurd is
root_is old root (n ∷ ns) (Move next) None is = absurd is
root_is old root (n ∷ ns) (Move next) (Some (Set ks)) is = absurd is
root_is old root (n ∷ ns) (Move next) (Some (Move up)) is = sym is

its_level : (root : Inner) (below : List Inner) → IsRootOf root below → IsLevel root.level
its_level root [] is = inl is
its_level root (n ∷ ns) (is, names) = inr is

level_is : (s : Spine) (p : Plan) (root : Inner) → Fits s p → BringsRoot s p root
    → IsLevel root.level
level_is s p root fits brings = subst (λ (x : Inner). IsLevel x.level)
    (root_is s.root root s.below p.bottom p.top brings)
    (its_level (root_next s.root s.below p.bottom p.top)
    (below_next s.below p.place p.bottom p.beside) fits.tree.inner.root_of)

-- ---- keys of leaves that come

second_proper : (o : Option Leaf) (leaf : Leaf)
    → IfSome o (λ (l : Leaf). AreProperKeys l.from l.end l.keys) → In leaf (option_to_list o)
    → AreProperKeys leaf.from leaf.end leaf.keys
second_proper None leaf is m = absurd m
second_proper (Some l) leaf is (inl here) =
    subst (λ (x : Leaf). AreProperKeys x.from x.end x.keys) (sym here) is
second_proper (Some l) leaf is (inr later) = absurd later

pub proper_last : (p : Plan) → HasProperLast p → HasProperKeys p
proper_last p is leaf (inl here) =
    subst (λ (x : Leaf). AreProperKeys x.from x.end x.keys) (sym here) is.first
proper_last p is leaf (inr later) = second_proper p.second leaf is.second later

-- ---- what is in hand

none_there : {X : Type 0} (o : Option X) → is_some o ≡ false → o ≡ None
none_there None is = refl
none_there (Some x) is = absurd (no_yes (sym is))

pub hand_is : {C B : Type 0} (h k : Hand C B) (spine : SpinePart) (bs : List HeldBucket)
    → HasNoneBehindLeaves h → kinds k ≡ kinds h → k ≡ changed h spine (length bs) k.cache
    → k ≡ written h spine bs
hand_is h k spine bs behind alike is =
    let none = none_there k.cache (ap (λ (x : Kinds). x.cache) alike ∙ ap is_some behind.cache) in
    is ∙ ap (changed h spine (length bs)) none

pub none_behind : {C B : Type 0} (h : Hand C B) (spine : SpinePart) (bs : List HeldBucket)
    → HasNoneBehindLeaves h → HasNoneBehindLeaves (written h spine bs)
none_behind h spine bs behind = record {
  flight = behind.flight;
  buckets = behind.buckets;
  journal = behind.journal;
  cache = refl;
  backing = behind.backing;
}

-- ---- the change

module _ {C B : Type 0} (cache_facts : C → DiskFacts) (backing_facts : B → DiskFacts)
    (h : Hand C B) (parts sectors : ℕ) (p : Plan) (bs : List HeldBucket)
    (may : MayMake h parts sectors p bs) where
  abbrev sp : SpinePart
  sp = may.write.spine

  -- what the leaves that come have is asked of the plan as it was
  stands_in : (q : Plan) → StaysAsked p q → StandIn sp.spine.leaves may.keys q
  stands_in q same =
      subst (λ (now : LeafKeys). KeepLastKeys (going sp.spine.leaves q.leaves) (coming q.leaves)
      may.keys now) (sym (same.keys may.keys))
      (subst (λ (e : Exchange). KeepLastKeys (going sp.spine.leaves e) (coming e) may.keys
      (keys_next may.keys p)) (sym same.leaves) may.same)

  pub may_change : (before i : ℕ) (q : Plan) (v w : View cache_facts backing_facts) (x : World)
      (k : Hand C B) → k ≡ written h sp bs
      → HaveWrittenAll cache_facts backing_facts before sp.spine.geometry bs p q v w
      → Fits sp.spine q → StaysAsked p q
      → ((spine : SpinePart) → k.spine ≡ Some spine → IsTree spine.spine) → HasProperLast q
      → FromEach x (IsReadyFor i q) → MayChange k parts i q x
  may_change before i q v w x k is wrote fits same tree proper ready =
      let up = up_alike sp.spine.below p q
      (all_alike cache_facts backing_facts before sp.spine.geometry (nodes_of p) bs p q v
      wrote.between wrote.wrote) may.up in
      let brings = brings_by sp.spine.below q.bottom q.top up in
      let now : SpinePart = record sp { next_seq = sp.next_seq + length bs; changing = true } in
      record {
        keys = may.keys;
        spine = now;
        is_spine = ap (λ (y : Hand C B). y.spine) is;
        changing = refl;
        leaves = may.leaves;
        are_leaves = ap (λ (y : Hand C B). y.leaves) is ∙ may.are_leaves;
        root = brings.0;
        up = record {
          tree = tree now (ap (λ (y : Hand C B). y.spine) is);
          fits = fits;
          both = same.both may.write.both;
          brings = brings.1;
        };
        level = level_is sp.spine q brings.0 fits brings.1;
        proper = proper_last q proper;
        gone = λ range m. may.gone range
            (subst (λ (e : Exchange). Contains (going sp.spine.leaves e) range) same.leaves m);
        same = stands_in q same;
        ready = ready;
      }

-- ---- the tree behind it

module _ {C B : Type 0} (cache_facts : C → DiskFacts) (backing_facts : B → DiskFacts)
    (h k : Hand C B) (count : ℕ) (sp : SpinePart) (is_sp : h.spine ≡ Some sp) (p q : Plan)
    (bs : List HeldBucket) (v w : View cache_facts backing_facts) where
  pub tree_now : IsTree sp.spine → Fits sp.spine p → StaysAsked p q
      → HasChanged cache_facts backing_facts count q (written h sp bs) k v w
      → ((spine : SpinePart) → k.spine ≡ Some spine → IsTree spine.spine) → HasTreeNow h k p
  tree_now was fits same done tree =
      let put = done.installed.installed.put in
      let from : sp.spine.leaves ≡ put.at.spine.spine.leaves =
      ap (λ (x : SpinePart). x.spine.leaves)
      (some_one (put.at.is_spine)) in
      let is : k.spine ≡ Some put.spine = ap (λ (x : Hand C B). x.spine) done.installed.is
      ∙ ap (λ (x : Hand C B). x.spine) put.is in
      let leaves : put.spine.spine.leaves ≡ leaves_next sp.spine.leaves p.leaves =
      put.tree.tree.leaves
      ∙ ap (λ (e : Exchange). leaves_next put.at.spine.spine.leaves e) same.leaves
      ∙ ap (λ (ls : List LeafRange). leaves_next ls p.leaves) (sym from) in
      let now = tree put.spine is in record {
        old = sp;
        is_old = is_sp;
        now = put.spine;
        is_now = is;
        rest = put.tree.over;
        leaves = leaves;
        kept = are_kept sp.spine.leaves put.spine.spine.leaves sp.spine.root.end
            put.spine.spine.root.end p was.leaves fits.leaves_fit leaves now.leaves;
      }

-- ---- outcomes

module _ {C B : Type 0} (cache_facts : C → DiskFacts) (backing_facts : B → DiskFacts)
    (sectors parts before : ℕ) (h : Hand C B) (sp : SpinePart) (is_sp : h.spine ≡ Some sp)
    (p : Plan) (bs : List HeldBucket) where
  -- the nodes weren't all written
  pub not_written : (e : StepError) (q : Plan) (k : Hand C B) (v w : View cache_facts backing_facts)
      → HaveNotWritten cache_facts backing_facts e before bs p q sp h k v w
      → HasNotMade cache_facts backing_facts sectors parts before (failed_by e) h k bs p v w
  not_written step.Memory q k v w (same, plan, hand) = (same, hand)
  not_written (step.Fault device) q k v w stopped =
      record { spine = sp; is_spine = is_sp; new = q; stopped = stopped }
  not_written (step.Halted device) q k v w stopped =
      record { spine = sp; is_spine = is_sp; new = q; stopped = stopped }

  -- for want of memory the seat has all promises that it had
  pub kept_written : (e : StepError) (q : Plan) (k : Hand C B)
      (v w : View cache_facts backing_facts)
      → HaveNotWritten cache_facts backing_facts e before bs p q sp h k v w
      → KeepsEnough (failed_by e) v.promises w.promises
  kept_written step.Memory q k v w (same, plan, hand) =
      let as_many = ap (λ (x : View cache_facts backing_facts). x.promises) same in
      omega (arith, as_many)
  kept_written (step.Fault device) q k v w stopped = tt
  kept_written (step.Halted device) q k v w stopped = tt

  module _ (q : Plan) (v u : View cache_facts backing_facts) (k : Hand C B)
      (is : k ≡ written h sp bs)
      (wrote : HaveWrittenAll cache_facts backing_facts before sp.spine.geometry bs p q v u) where
    has_written : HasWritten cache_facts backing_facts before h sp bs p q v u
    has_written = record { is_spine = is_sp; wrote = wrote }

    pub not_begun : (why : NotBegun) (now : Hand C B) (w : View cache_facts backing_facts)
        → now ≡ k → HasNotBegun cache_facts backing_facts sectors k q why u w
        → MayChange now parts w.first q (world cache_facts backing_facts w)
        → HasNotMade cache_facts backing_facts sectors parts before (error.NotBegun why q) h now bs
        p v w
    not_begun why now w same not again = record {
      stopped = record {
        spine = sp;
        between = u;
        wrote = has_written;
        hand = same ∙ is;
        why = subst (λ (x : Hand C B). HasNotBegun cache_facts backing_facts sectors x q why u w) is
            not;
      };
      again = again;
    }

    pub cut_at : (e : StepError) (now : Hand C B) (w : View cache_facts backing_facts) → now ≡ k
        → HasCut cache_facts backing_facts k q e u w
        → HasNotMade cache_facts backing_facts sectors parts before (error.Entry e) h now bs p v w
    cut_at e now w same cut = record {
      new = q;
      stopped = record {
        spine = sp;
        between = u;
        wrote = has_written;
        hand = same ∙ is;
        why = subst (λ (x : Hand C B). HasCut cache_facts backing_facts x q e u w) is cut;
      };
    }

    module _ (given : Installing) (t : View cache_facts backing_facts)
        (put : HasPut cache_facts backing_facts k q given u t) where
      pub not_installed : (e : StepError) (now : Hand C B) (w : View cache_facts backing_facts)
          → now ≡ k → HasDone cache_facts backing_facts [] t w → IsHalted e w.seen
          → HasNotMade cache_facts backing_facts sectors parts before (error.Install e) h now bs p v
          w
      not_installed e now w same since cause = record {
        new = q;
        stopped = record {
          spine = sp;
          between = u;
          wrote = has_written;
          hand = same ∙ is;
          why = record {
            given = given;
            between = t;
            put = subst (λ (x : Hand C B). HasPut cache_facts backing_facts x q given u t) is put;
            since = since;
            cause = cause;
          };
        };
      }

      pub has_made : (count : ℕ) (mid now : Hand C B) (w : View cache_facts backing_facts)
          → mid ≡ k → HasInstalledIn cache_facts backing_facts count q given mid now t w
          → IsTree sp.spine → Fits sp.spine p → StaysAsked p q
          → ((spine : SpinePart) → now.spine ≡ Some spine → IsTree spine.spine)
          → HasMade cache_facts backing_facts before count h now bs p v w
      has_made count mid now w same installed was fits asked tree =
          let done : HasChanged cache_facts backing_facts count q (written h sp bs) now u w =
          record {
            given = given;
            between = t;
            put = subst (λ (x : Hand C B). HasPut cache_facts backing_facts x q given u t) is put;
            installed = subst (λ (x : Hand C B).
                HasInstalledIn cache_facts backing_facts count q given x now t w) (same ∙ is)
                installed;
          } in record {
            spine = sp;
            new = q;
            between = u;
            wrote = has_written;
            changed = done;
            tree = tree_now cache_facts backing_facts h now count sp is_sp p q bs u w was fits asked
                done tree;
          }
