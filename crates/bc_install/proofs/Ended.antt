-- An install of a change that was made.
use Rattle.std.proofs.Common.{◌≡◌, inl, inr, ℕ, Bool, List, [], ◌∷◌, ◌++◌, map, refl, sym, ap, ◌∙◌, subst, arith}
use Rattle.std.specs.Prelude.{Vec}
use Rattle.std.specs.declared.alloc.Global.{Global}
use Rattle.bc_books.specs.After as books
use Rattle.bc_books.specs.Books.{Step}
use Rattle.bc_books.specs.Shelves.{Held, Tree}
use Rattle.bc_change.specs.Goes.{IsChangeBy, new_nodes, old_nodes}
use Rattle.bc_change.specs.Ready.{HasBoth, HoldsNew}
use Rattle.bc_change.specs.Under.{IsUnderWay}
use Rattle.bc_change.proofs.Lists.{in_map, map_in}
use Rattle.bc_change.proofs.Nexts.{old_in}
use Rattle.bc_change.proofs.Sites.{leaf_goes}
use Rattle.bc_data.specs.After as flow_step
use Rattle.bc_data.specs.Data as flow
use Rattle.bc_change.specs.bc_machine.Containers.{AreLeavesOf, IsAtRest, IsSpineOf, NamesRoot, inner_slot}
use Rattle.bc_change.specs.bc_machine.Standing.{origin_before}
use Rattle.bc_change.specs.bc_machine.World.{EndsItsChange, Origin, replay}
use Rattle.bc_events.specs.Changes.{buckets_gone, dropped, inner_buckets, leaf_buckets, made, regroup, with}
use Rattle.bc_events.specs.Run as core
use Rattle.bc_events.specs.declared.event.Change.{Change}
use Rattle.bc_events.specs.declared.event.Deed.TheVariants as deed
use Rattle.bc_events.specs.declared.event.Event.{Event}
use Rattle.bc_facts.proofs.Stood.{in_behind, in_contains, in_either, in_front}
use Rattle.bc_inner.specs.Inner.{Inner}
use Rattle.bc_known.specs.Acts as known
use Rattle.bc_leaves.specs.Enabled.{IsMade}
use Rattle.bc_leaves.specs.Parts as parts
use Rattle.bc_leaves.proofs.Chains.{has_in, in_has}
use Rattle.bc_meta.specs.Events as event
use Rattle.bc_meta.specs.Facts.{In}
use Rattle.bc_meta.specs.Records.{records_after}
use Rattle.bc_change.proofs.of_bc_nodes_known.Law.{law_install, law_root}
use Rattle.bc_shares.specs.Shares.{books_of}
use Rattle.bc_shares.proofs.Acts.{released_parts}
use Rattle.bc_spine.specs.Exchange.{coming, going}
use Rattle.bc_spine.specs.declared.leaf.LeafRange.{LeafRange}
use Rattle.bc_tree.specs.Next.{root_next}
use Rattle.bc_tree.specs.Spine.{Spine}
use Rattle.bc_tree.specs.declared.plan.Plan.{Plan}
use Rattle.bc_whole.specs.State as whole
use Rattle.bc_whole.specs.Together.{shelved}
use Rattle.bc_whole.specs.Run.{by}
use Rattle.bc_install.specs.Ended.{AreEndsOf, ByNewRoot, ByNodeSet, How, IsMadeSo, LawLeaves, LawMay, LawTree, MakesSo}
use Rattle.bc_install.proofs.Cached.{leaves_after}
use Rattle.bc_install.proofs.Moved.{root_is, root_stays}
use Rattle.bc_install.proofs.Tree.{Making, comes_at, ended, new_at, rest_after, tree_after}

-- ---- the state behind it

-- the steps of the books
abbrev pub steps : known.State → ℕ → Change → List ℕ → List ℕ → List Step
steps st i c come gone = regroup st.whole.flow.books.index st.whole.parts.leaves c
    ∷ (made i come ++ dropped gone)

abbrev pub unused : known.State → Change → ℕ → Bool
unused st c = with st.whole.parts.records.unused (buckets_gone st.whole.parts c)

abbrev pub installed : whole.Opening → known.State → ℕ → Change → List ℕ → List ℕ → known.State
installed w st i c come gone =
    known.after w st i (known.Install (unused st c) (steps st i c come gone))

-- the parts are what the event makes of the tree alone
pub parts_are : (w : whole.Opening) (st : known.State) (i : ℕ) (c : Change) (come gone : List ℕ)
    → (installed w st i c come gone).whole.parts
    ≡ ended st.whole.parts (records_after st.whole.parts.records (event.GiveUp (unused st c)))
parts_are w st i c come gone = released_parts
    (ended st.whole.parts (records_after st.whole.parts.records (event.GiveUp (unused st c))))
    (steps st i c come gone)

-- and the books what its steps make of them
pub books_course : (w : flow.Opening) (f : flow.State) (i : ℕ) (xs : List Step)
    → (flow_step.course w f (by i (shelved xs))).books ≡ books.fold w.books f.books xs
books_course w f i [] = refl
books_course w f i (x ∷ xs) = books_course w (flow_step.after w f i (flow.Shelve x)) i xs

pub books_are : (w : whole.Opening) (st : known.State) (i : ℕ) (c : Change) (come gone : List ℕ)
    → books_of (installed w st i c come gone)
    ≡ books.fold w.flow.books (books_of st) (steps st i c come gone)
books_are w st i c come gone =
    books_course w.flow st.whole.flow i (steps st i c come gone)

-- ---- the tree

-- what both ways to make it come to
pub record IsNow (i : ℕ) (spine : Spine) (plan : Plan) (c : Change) (o : Origin) (st : core.State) :
    Type 0 where
  pub change : IsChangeBy o.opening.machine spine plan c
  pub under : IsUnderWay o.opening.machine st.machine.whole.parts plan c
  pub holds : HoldsNew o.opening.machine (books_of st.machine) i plan
  pub made : IsMade st.machine.whole.parts st.machine.whole.parts.change

pub now_made : (i : ℕ) (spine : Spine) (plan : Plan) (c : Change) (how : How) (o : Origin)
    (st : core.State) → IsMadeSo i spine plan c how o st → IsNow i spine plan c o st
now_made i spine plan c (ByNewRoot root number slot) o st h = record {
  change = h.change;
  under = h.by_root.under;
  holds = h.by_root.holds;
  made = subst (λ (x : parts.Change). IsMade st.machine.whole.parts x) (sym h.by_root.change) h.made;
}
now_made i spine plan c (ByNodeSet at taker put slot) o st h = record {
  change = h.change;
  under = h.by_set.by_set.under;
  holds = h.by_set.by_set.holds;
  made = subst (λ (x : parts.Change). IsMade st.machine.whole.parts x)
      (sym h.by_set.by_set.change) h.by_set.stable;
}

-- how it was made, as the parts tell
making : (i : ℕ) (spine : Spine) (plan : Plan) (c : Change) (how : How) (o : Origin)
    (st : core.State) → IsMadeSo i spine plan c how o st
    → Making o.opening.machine st.machine.whole.parts how
making i spine plan c (ByNewRoot root number slot) o st h = h.by_root.change
making i spine plan c (ByNodeSet at taker put slot) o st h = record {
  slot_is = h.slot_is;
  change = h.by_set.by_set.change;
  stays = h.by_set.by_set.stays;
  children_are = h.by_set.by_set.children_are;
}

-- the root that entries name then is the one of the tree that is made
named_root : (i : ℕ) (spine : Spine) (plan : Plan) (c : Change) (how : How) (o : Origin)
    (st : core.State) → IsMadeSo i spine plan c how o st → MakesSo spine plan how
    → NamesRoot st.machine.whole.parts.records
    (inner_slot o.opening.machine (root_next spine.root spine.below plan.bottom plan.top))
named_root i spine plan c (ByNewRoot root number slot) o st h up =
    subst (NamesRoot st.machine.whole.parts.records)
    (sym h.slot_is ∙ ap (inner_slot o.opening.machine)
    (sym (root_is spine.root spine.below plan.bottom plan.top root up.by)))
    (law_root.comes number slot st.machine.whole.parts.records h.by_root.root h.made)
named_root i spine plan c (ByNodeSet at taker put slot) o st h up =
    subst (NamesRoot st.machine.whole.parts.records)
    (ap (λ p. o.opening.machine.flow.books.bucket p.offset)
    (sym (root_stays spine.root spine.below plan.place plan.bottom plan.top at put up.by.takes)))
    (record { newest = h.named.newest (omega arith); sealed = h.named.sealed })

pub law_tree : LawTree
law_tree x i p q plan c how come gone up known_ stands made_ o is course =
    let e : Event = record { seat = i; deed = deed.Install c come gone } in
    let before = origin_before x e o is in
    let h = known_ o before course.2 in
    let sp = stands o before course.2 in
    let st = (replay o x.log).machine in
    let r = records_after st.whole.parts.records (event.GiveUp (unused st c)) in
    let now = now_made i p.spine plan c how o (replay o x.log) h in
    let how_ = making i p.spine plan c how o (replay o x.log) h in
    let named = named_root i p.spine plan c how o (replay o x.log) h up in
    let same = sym (parts_are o.opening.machine st i c come.items gone.items) in record {
      spine = subst (λ (s : parts.State). IsSpineOf o.opening.machine s q.spine) same
          (tree_after o.opening.machine st.whole.parts p.spine plan c up.both now.change
          now.under r refl up.tree sp.spine up.fits how up.by how_ q.spine made_.tree);
      next_seq = made_.next_seq ∙ sp.next_seq;
      rest = λ off. subst (λ (s : parts.State). IsAtRest o.opening.machine s q.spine) same
          (rest_after o.opening.machine st.whole.parts p.spine plan c up.both now.change
          now.under r refl up.tree sp.spine up.fits how up.by how_ q.spine made_.tree
          (record { newest = named.newest; sealed = named.sealed }));
    }

pub law_leaves : LawLeaves
law_leaves x i part p plan c how come gone a b both known_ stands made_ o is course =
    let e : Event = record { seat = i; deed = deed.Install c come gone } in
    let before = origin_before x e o is in
    let h = now_made i p.spine plan c how o (replay o x.log) (known_ o before course.2) in
    let st = (replay o x.log).machine in
    let r = records_after st.whole.parts.records (event.GiveUp (unused st c)) in
    subst (λ (s : parts.State). AreLeavesOf o.opening.machine s x.begun.leaf_parts part b)
    (sym (parts_are o.opening.machine st i c come.items gone.items))
    (leaves_after o.opening.machine st.whole.parts p.spine plan c both h.change h.under r
    refl x.begun.leaf_parts part a b (stands o before course.2) made_)

-- ---- it may

leaf_bucket_in : (st : parts.State) (is : List ℕ) (k : ℕ) → In k is
    → In (st.leaves k).bucket (leaf_buckets st is)
leaf_bucket_in st [] k m = absurd m
leaf_bucket_in st (i ∷ is) k (inl here) = inl (ap (λ n. (st.leaves n).bucket) here)
leaf_bucket_in st (i ∷ is) k (inr later) = inr (leaf_bucket_in st is k later)

inner_bucket_in : (st : parts.State) (is : List ℕ) (k : ℕ) → In k is
    → In (st.inner_nodes k).bucket (inner_buckets st is)
inner_bucket_in st [] k m = absurd m
inner_bucket_in st (i ∷ is) k (inl here) = inl (ap (λ n. (st.inner_nodes n).bucket) here)
inner_bucket_in st (i ∷ is) k (inr later) = inr (inner_bucket_in st is k later)

module _ (o : Origin) (st : core.State) (i : ℕ) (sp : Spine) (plan : Plan)
    (c : Change) (come gone : Vec ℕ Global) (both : HasBoth plan)
    (stands : IsSpineOf o.opening.machine st.machine.whole.parts sp)
    (h : IsNow i sp plan c o st)
    (ends : AreEndsOf o.opening.machine sp plan come.items gone.items) where
  abbrev w : whole.Opening
  w = o.opening.machine

  abbrev p : parts.State
  p = st.machine.whole.parts

  abbrev bucket : LeafRange → ℕ
  bucket l = w.flow.books.bucket l.ptr.offset

  -- whatever comes lies in one of the buckets
  leaf_come : (l : LeafRange) → In l (coming plan.leaves) → In (bucket l) come.items
  leaf_come l m = ends.comes.every (bucket l)
      (in_front (bucket l) (map bucket (coming plan.leaves)) (map (inner_slot w) (new_nodes plan))
      (map_in bucket (coming plan.leaves) l m))

  node_come : (n : Inner) → In n (new_nodes plan) → In (inner_slot w n) come.items
  node_come n m = ends.comes.every (inner_slot w n)
      (in_behind (inner_slot w n) (map bucket (coming plan.leaves))
      (map (inner_slot w) (new_nodes plan)) (map_in (inner_slot w) (new_nodes plan) n m))

  pub held : (b : ℕ) → In b come.items → (books_of st.machine).shelf b ≡ Held i Tree
  held b m = elim (in_either b (map bucket (coming plan.leaves))
      (map (inner_slot w) (new_nodes plan))
      (ends.comes.among b m)) [
        | inl leaf ↦ (let one = in_map bucket (coming plan.leaves) b leaf in
            subst (λ q. (books_of st.machine).shelf q ≡ Held i Tree) one.2
            (h.holds.leaves one.0 (in_contains (coming plan.leaves) one.0 one.1)))
        | inr node ↦ (let one = in_map (inner_slot w) (new_nodes plan) b node in
            subst (λ q. (books_of st.machine).shelf q ≡ Held i Tree) one.2
            (h.holds.inner_nodes one.0 (in_contains (new_nodes plan) one.0 one.1)))
      ]

  -- whatever is among those that go is of what leaves
  leaf_gone : (l : LeafRange) → In l (going sp.leaves plan.leaves)
      → In (bucket l) (buckets_gone p c)
  leaf_gone l m =
      let there = stands.leaves l (in_contains sp.leaves l (leaf_goes sp plan l m)) in
      in_front (bucket l) (leaf_buckets p c.gone.items) (inner_buckets p c.old.items)
      (subst (λ q. In q (leaf_buckets p c.gone.items)) there.bucket
      (leaf_bucket_in p c.gone.items l.number
      (subst (λ (ks : List ℕ). In l.number ks) (sym h.change.gone)
      (map_in (λ (x : LeafRange). x.number) (going sp.leaves plan.leaves) l m))))

  node_gone : (n : Inner) → In n (old_nodes sp plan) → In (inner_slot w n) (buckets_gone p c)
  node_gone n m =
      let there = stands.nodes n (in_contains (sp.root ∷ sp.below) n
      (old_in sp.root sp.below plan.place plan.bottom plan.top plan.beside n m)) in
      in_behind (inner_slot w n) (leaf_buckets p c.gone.items) (inner_buckets p c.old.items)
      (subst (λ q. In q (inner_buckets p c.old.items)) there.bucket
      (inner_bucket_in p c.old.items (inner_slot w n)
      (subst (λ (ks : List ℕ). In (inner_slot w n) ks) (sym h.change.old)
      (map_in (inner_slot w) (old_nodes sp plan) n m))))

  pub gone_in : (b : ℕ) → In b gone.items → In b (buckets_gone p c)
  gone_in b m = elim (in_either b (map bucket (going sp.leaves plan.leaves))
      (map (inner_slot w) (old_nodes sp plan))
      (ends.goes.among b m)) [
        | inl leaf ↦ (let one = in_map bucket (going sp.leaves plan.leaves) b leaf in
            subst (λ q. In q (buckets_gone p c)) one.2 (leaf_gone one.0 one.1))
        | inr node ↦ (let one = in_map (inner_slot w) (old_nodes sp plan) b node in
            subst (λ q. In q (buckets_gone p c)) one.2 (node_gone one.0 one.1))
      ]

  names : EndsItsChange p (deed.Install c come gone)
  names = (
    h.under.whole.names,
    record {
      leaves = λ k comes.
          let one = comes_at w p sp plan c both h.change h.under p.records refl k
          (in_has c.come.items k (h.under.whole.names.come k comes)) in
          let at = new_at w p sp plan c both h.change h.under p.records refl one.0 one.1
          in
          has_in come.items (p.leaves k).bucket
          (subst (λ q. In q come.items) (sym (ap (λ n. (p.leaves n).bucket) (sym one.2)
          ∙ at.2.bucket
          ∙ ap (λ y. w.flow.books.bucket y.offset) (sym at.1.ptr))) (leaf_come one.0 one.1));
      inner_nodes = λ x comes.
          let one = in_map (inner_slot w) (new_nodes plan) x
          (subst (λ (ks : List ℕ). In x ks) h.change.new (h.under.only_new x comes)) in
          let new = h.under.new one.0 (in_contains (new_nodes plan) one.0 one.1) in
          has_in come.items (p.inner_nodes x).bucket
          (subst (λ q. In q come.items) (sym (ap (λ n. (p.inner_nodes n).bucket) (sym one.2)
          ∙ new.bucket)) (node_come one.0 one.1));
      bare = λ k comes.
          let one = comes_at w p sp plan c both h.change h.under p.records refl k
          (in_has c.come.items k (h.under.whole.names.come k comes)) in
          let at = new_at w p sp plan c both h.change h.under p.records refl one.0 one.1
          in subst (λ n. (p.leaves n).pending ≡ []) one.2 at.2.nothing;
    },
  )

pub law_may : LawMay
law_may x o is course i sp plan c how come gone up seat runs stands made_ ends =
    let h = now_made i sp.spine plan c how o (replay o x.log) made_ in (
      law_install x o is course i c come gone seat runs (record {
        change = h.under.whole;
        old = h.under.old;
        made = h.made;
        held = held o (replay o x.log) i sp.spine plan c come gone up.both stands h ends;
        come_once = ends.comes.once;
        gone_in = gone_in o (replay o x.log) i sp.spine plan c come gone up.both stands h ends;
        gone_once = ends.goes.once;
      }),
      names o (replay o x.log) i sp.spine plan c come gone up.both stands h ends,
    )
