-- A tree at rest has no new nodes; so the first of a plan may be written.
use Rattle.std.proofs.Common.{◌≡◌, ◌≢◌, inl, inr, ℕ, suc, ◌+◌, ◌-◌, ◌<◌, Bool, true, false, List, [], ◌∷◌, length, Option, Some, refl, sym, ap, ◌∙◌, subst, arith}
use Rattle.std.specs.Prelude.{Contains, IfSome, Vec, is_some, option_to_list}
use Rattle.std.specs.declared.alloc.Global.{Global}
use Rattle.bc_spine.proofs.Lists.{AllPairs-right}
use Rattle.bc_change.proofs.Sites.{two_apart}
use Rattle.bc_disk.specs.Disk.{DiskFacts}
use Rattle.bc_disk.specs.declared.geometry.Geometry.{Geometry}
use Rattle.bc_facts.proofs.Stood.{contains_in}
use Rattle.bc_held_all.specs.All.{AreHeld}
use Rattle.bc_leaves.specs.Parts.{NoNode, Role}
use Rattle.bc_meta.specs.Facts.{In}
use Rattle.bc_new_node.specs.Kind.{IsDividedBy}
use Rattle.bc_new_node.specs.bc_drafts.Draft.{HasNoInner, HasNoLeaf}
use Rattle.bc_new_node.specs.bc_hand.Seats.{View, Works, kinds, numbers, world}
use Rattle.bc_new_node.specs.bc_hand.declared.hand.Hand.{Hand}
use Rattle.bc_new_node.specs.bc_held.Held.{AreOther, IsHeldFor, IsVacantIn, number_in as bucket_number}
use Rattle.bc_new_node.specs.bc_held.declared.held.HeldBucket.{HeldBucket}
use Rattle.bc_new_node.specs.bc_machine.Containers.{IsInTree, IsTreeInner, Rests}
use Rattle.bc_new_node.specs.bc_machine.World.{FromEach, IsSpinePart, replay}
use Rattle.bc_new_node.specs.bc_machine.declared.part.CorePart.{CorePart}
use Rattle.bc_new_node.specs.bc_machine.declared.part.SpinePart.{SpinePart}
use Rattle.bc_new_node.specs.bc_place.Place.{HasBefore}
use Rattle.bc_new_node.proofs.of_bc_held.Keeping.{number_of}
use Rattle.bc_shares.specs.Shares.{inner_share}
use Rattle.bc_new_nodes.proofs.Order.{Rising, differs_by, first_rank, once_by, rank, rising}
use Rattle.bc_new_nodes.specs.Asked.{AreNodesFor, ChildrenPoint, IsNodeFor, MayWriteNodes}
use Rattle.bc_new_nodes.specs.Course.{AreRooms, AreToWrite, CanWriteEach, GoesApart, HasOnly, SlotsDiffer}
use Rattle.bc_planned.specs.Nodes.{are_under, is_leaf, nodes_of, number_in, slot_of}
use Rattle.bc_new_nodes.specs.Wrote.{noted}
use Rattle.bc_parts.specs.Seat.{PartsView}
use Rattle.bc_plan.specs.declared.write.NewNode.{NewNode}
use Rattle.bc_plan.specs.declared.write.NewNode.TheVariants.{Behind, First, Lowest, Parent, Root, Second}
use Rattle.bc_spine.specs.Exchange.{coming}
use Rattle.bc_spine.specs.Leaves.{HaveTwoNumbers}
use Rattle.bc_spine.specs.Numbers.{HasNumber}
use Rattle.bc_spine.specs.declared.leaf.LeafRange.{LeafRange}
use Rattle.bc_tree.specs.Plan.{Fits}
use Rattle.bc_tree.specs.declared.plan.Plan.{Plan}

in_tree_none : (r : Role) → IsInTree r → r ≡ NoNode → ⊥
in_tree_none r live none = subst IsInTree none live

none_there : (r : Role) → Rests r → (IsInTree r → ⊥) → r ≡ NoNode
none_there r (inl none) not_in = none
none_there r (inr free) not_in = absurd (not_in (subst IsInTree (sym free) tt))

second_in : (o : Option LeafRange) (l : LeafRange) → o ≡ Some l → In l (option_to_list o)
second_in o l is = subst (λ (x : Option LeafRange). In l (option_to_list x)) (sym is) (inl refl)

pub as_many : (g : Geometry) (sectors : ℕ) (p : Plan) (seq : ℕ) (ns : List NewNode)
    (bs : List HeldBucket) → AreNodesFor g sectors p seq ns bs → length ns ≡ length bs
as_many g sectors p seq [] [] h = refl
as_many g sectors p seq [] (b ∷ bs) h = absurd h
as_many g sectors p seq (n ∷ ns) [] h = absurd h
as_many g sectors p seq (n ∷ ns) (b ∷ bs) h = ap suc (as_many g sectors p (seq + 1) ns bs h.1)

in_here : {X : Type 0} (x : X) (xs : List X) → Contains (x ∷ xs) x
in_here x xs = (0, omega arith, refl)

in_more : {X : Type 0} (x : X) (xs : List X) (y : X) → Contains xs y → Contains (x ∷ xs) y
in_more x xs y there = (suc there.0, (let less = there.1 in omega (arith, less)), there.2)

-- ---- what is noted in hand

module _ {C B : Type 0} (cache_facts : C → DiskFacts) (backing_facts : B → DiskFacts)
    (parts : PartsView (CorePart C B)) (v : View cache_facts backing_facts) (h : Hand C B)
    (works : Works cache_facts backing_facts parts v h) (sp : SpinePart)
    (in_hand : h.spine ≡ Some sp) where
  pub spine_on : IsSpinePart sp (world cache_facts backing_facts v)
  spine_on = subst (λ (s : Option SpinePart).
      IfSome s (λ p. IsSpinePart p (world cache_facts backing_facts v))) in_hand works.stand.spine

  noted_on : IsSpinePart (record sp { changing = true }) (world cache_facts backing_facts v)
  noted_on o is course = let was = spine_on o is course in record {
    spine = was.spine;
    next_seq = was.next_seq;
    rest = λ off. absurd (let e : true ≡ false = off in cc);
  }

  works_at : Works cache_facts backing_facts parts v (noted h sp)
  works_at = record {
    run = works.run;
    seat = works.seat;
    parts = works.parts ∙ ap (λ (s : Option SpinePart). numbers (record h { spine = s })) in_hand;
    stand = record {
      spine = noted_on;
      leaves = works.stand.leaves;
      flight = works.stand.flight;
      buckets = works.stand.buckets;
      journal = works.stand.journal;
      cache = works.stand.cache;
      backing = works.stand.backing;
    };
  }

  pub works_noted : (k : Hand C B) → k ≡ noted h sp → Works cache_facts backing_facts parts v k
  works_noted k is = subst (Works cache_facts backing_facts parts v) (sym is) works_at

  pub kinds_noted : (k : Hand C B) → k ≡ noted h sp → kinds k ≡ kinds h
  kinds_noted k is = ap (λ (x : Hand C B). kinds x) is
      ∙ ap (λ t. record (kinds h) { spine = t }) (sym (ap is_some in_hand))

-- ---- what is to be written

module _ {C B : Type 0} (cache_facts : C → DiskFacts) (backing_facts : B → DiskFacts)
    (v : View cache_facts backing_facts) (sp : SpinePart)
    (on : IsSpinePart sp (world cache_facts backing_facts v)) (rest : sp.changing ≡ false)
    (p : Plan) (fits : Fits sp.spine p) (before : ℕ)
    (first : FromEach (world cache_facts backing_facts v) (HasBefore before)) where
  pub only_none : (bs : List HeldBucket) (ns : List NewNode)
      → FromEach (world cache_facts backing_facts v) (HasOnly p.leaves ns bs)
  only_none bs ns o is course = let at = (on o is course).rest rest in record {
    change = at.change;
    leaves = λ k. inl (at.leaves k);
    inner_nodes = λ x. inl (at.inner_nodes x);
  }

  module _ (g : Geometry) (sectors : ℕ) where
    number_free : (seq : ℕ) (n : NewNode) (b : HeldBucket) → IsNodeFor g sectors p seq n b
        → is_leaf n ≡ true → HasNumber sp.spine.leaves (slot_of p n) → ⊥
    number_free seq First b node leaf (old, there, same) =
        two_apart sp.spine.leaves (coming p.leaves) old p.leaves.first
        fits.leaves_fit.fits.numbers (contains_in sp.spine.leaves old there) (inl refl) same
    number_free seq Second b node leaf (old, there, same) =
        let comes = node.leaf node.can.0 node.can.1 in
        two_apart sp.spine.leaves (coming p.leaves) old comes.range
        fits.leaves_fit.fits.numbers (contains_in sp.spine.leaves old there)
        (inr (second_in p.leaves.second comes.range comes.its_range))
        (same ∙ ap number_in comes.its_range)
    number_free seq Parent b node leaf has = absurd (let e : false ≡ true = leaf in cc)
    number_free seq Root b node leaf has = absurd (let e : false ≡ true = leaf in cc)
    number_free seq Behind b node leaf has = absurd (let e : false ≡ true = leaf in cc)
    number_free seq Lowest b node leaf has = absurd (let e : false ≡ true = leaf in cc)

    leaf_free : (seq : ℕ) (n : NewNode) (b : HeldBucket) → IsNodeFor g sectors p seq n b
        → is_leaf n ≡ true → FromEach (world cache_facts backing_facts v) (HasNoLeaf (slot_of p n))
    leaf_free seq n b node leaf o is course =
        let part = on o is course in
        none_there _ ((part.rest rest).leaves (slot_of p n))
        (λ live. number_free seq n b node leaf (part.spine.all_leaves (slot_of p n) live))

    -- the slot of an inner node is its bucket, so none is there where no node lies
    inner_free : (b : HeldBucket) → FromEach (world cache_facts backing_facts v) (IsHeldFor v.first b)
        → FromEach (world cache_facts backing_facts v) (IsVacantIn b)
        → FromEach (world cache_facts backing_facts v) (HasNoInner (b.bucket - before))
    inner_free b mine vacant o is course =
        let part = on o is course in
        let x = b.bucket - before in
        let ps = (replay o (world cache_facts backing_facts v).log).machine.whole.parts in
        let at : x ≡ bucket_number b o =
        number_of before b o (first o is course) (mine o is course).lies in
        none_there (ps.inner_nodes x).role ((part.rest rest).inner_nodes x) (λ live.
        let node = part.spine.all_nodes x live in
        let tree = part.spine.nodes node.0 node.1 in
        let its = subst (λ z. IsTreeInner o.opening.machine ps.change z node.0 (inner_share ps z))
        node.2 tree in
        (vacant o is course).2 x (λ none. in_tree_none (ps.inner_nodes x).role live none)
        (its.bucket ∙ node.2 ∙ at))

    goes_apart : (b : HeldBucket) (bs : List HeldBucket)
        → ((a : HeldBucket) → Contains bs a
        → FromEach (world cache_facts backing_facts v) (AreOther a b))
        → GoesApart cache_facts backing_facts b bs v
    goes_apart b [] h = tt
    goes_apart b (a ∷ bs) h = (h a (in_here a bs), goes_apart b bs (λ x c. h x (in_more a bs x c)))

    held_rest : (b : HeldBucket) (bs : List HeldBucket)
        → AreHeld cache_facts backing_facts (b ∷ bs) v → AreHeld cache_facts backing_facts bs v
    held_rest b bs h = record {
      held = λ a c. h.held a (in_more b bs a c);
      vacant = λ a c. h.vacant a (in_more b bs a c);
      apart = h.apart.1;
    }

    module _ (under : Bool) where
      -- behind a leaf comes another one alone, with another number
      leaf_differs : (seq : ℕ) (n m : NewNode) (c : HeldBucket) → IsNodeFor g sectors p seq m c
          → rank under n < rank under m → is_leaf m ≡ true → slot_of p m ≢ slot_of p n
      leaf_differs seq n First c node less leaf same = absurd (omega (arith, less))
      leaf_differs seq n Second c node less leaf same =
          let comes = node.leaf node.can.0 node.can.1 in
          let number : slot_of p Second ≡ comes.range.number = ap number_in comes.its_range in
          let first : slot_of p n ≡ p.leaves.first.number = ap (slot_of p) (first_rank under n less) in
          two_apart (p.leaves.first ∷ []) (option_to_list p.leaves.second) p.leaves.first comes.range
          (AllPairs-right HaveTwoNumbers sp.spine.leaves (coming p.leaves)
          fits.leaves_fit.fits.numbers) (inl refl)
          (second_in p.leaves.second comes.range comes.its_range)
          (sym first ∙ sym same ∙ number)
      leaf_differs seq n Parent c node less leaf same = let e : false ≡ true = leaf in absurd (cc)
      leaf_differs seq n Root c node less leaf same = let e : false ≡ true = leaf in absurd (cc)
      leaf_differs seq n Behind c node less leaf same = let e : false ≡ true = leaf in absurd (cc)
      leaf_differs seq n Lowest c node less leaf same = let e : false ≡ true = leaf in absurd (cc)

      slots_by : (seq : ℕ) (n : NewNode) (k : ℕ) (ms : List NewNode) (cs : List HeldBucket)
          → rank under n < k → AreNodesFor g sectors p seq ms cs → Rising under k ms
          → SlotsDiffer p n ms
      slots_by seq n k [] cs less nodes h = tt
      slots_by seq n k (m ∷ ms) [] less nodes h = absurd nodes
      slots_by seq n k (m ∷ ms) (c ∷ cs) less nodes h =
          let at = h.0 in (
            leaf_differs seq n m c nodes.0 (omega (arith, less, at)),
            slots_by (seq + 1) n (suc (rank under m)) ms cs (omega (arith, less, at)) nodes.1 h.1,
          )

      pub to_write : (seq k : ℕ) (ns : List NewNode) (bs : List HeldBucket)
          → AreNodesFor g sectors p seq ns bs → Rising under k ns
          → AreHeld cache_facts backing_facts bs v
          → AreToWrite cache_facts backing_facts before g sectors p seq ns bs v
      to_write seq k [] [] nodes up held = tt
      to_write seq k [] (b ∷ bs) nodes up held = absurd nodes
      to_write seq k (n ∷ ns) [] nodes up held = absurd nodes
      to_write seq k (n ∷ ns) (b ∷ bs) nodes up held = (
        record {
          node_for = nodes.0;
          vacant = held.vacant b (in_here b bs);
          mine = held.held b (in_here b bs);
          free = leaf_free seq n b nodes.0;
          no_inner = inner_free b (held.held b (in_here b bs)) (held.vacant b (in_here b bs));
        },
        differs_by under n (suc (rank under n)) ns (omega arith) up.1,
        slots_by (seq + 1) n (suc (rank under n)) ns bs (omega arith) nodes.1 up.1,
        goes_apart b bs held.apart.0,
        to_write (seq + 1) (suc (rank under n)) ns bs nodes.1 up.1 (held_rest b bs held),
      )

-- ---- all of it

module _ {C B : Type 0} (cache_facts : C → DiskFacts) (backing_facts : B → DiskFacts)
    (parts : PartsView (CorePart C B)) (v : View cache_facts backing_facts) (h k : Hand C B)
    (works : Works cache_facts backing_facts parts v h) (sectors before : ℕ) (p : Plan)
    (bs : List HeldBucket) (may : MayWriteNodes h sectors p bs)
    (divided : (sp : SpinePart) → h.spine ≡ Some sp
    → FromEach (world cache_facts backing_facts v) (IsDividedBy sp.spine.geometry))
    (points : (sp : SpinePart) → h.spine ≡ Some sp
    → FromEach (world cache_facts backing_facts v) (ChildrenPoint sp.spine.geometry p))
    (first : FromEach (world cache_facts backing_facts v) (HasBefore before))
    (are : AreHeld cache_facts backing_facts bs v) (rooms : List (Vec ℕ Global))
    (many : length rooms ≡ length bs)
    (rooms_are : (sp : SpinePart) → h.spine ≡ Some sp → AreRooms sp.spine.geometry rooms)
    (note : (sp : SpinePart) → h.spine ≡ Some sp → k ≡ noted h sp) where
  pub can_each : (ns : List NewNode) → ns ≡ nodes_of p
      → CanWriteEach cache_facts backing_facts k sectors before p ns bs rooms v
  can_each ns is =
      let sp = may.spine in
      let on = spine_on cache_facts backing_facts parts v h works sp may.in_hand in
      let under = are_under p.beside in
      subst (λ xs. CanWriteEach cache_facts backing_facts k sectors before p xs bs rooms v) (sym is)
      (record {
        spine = record sp { changing = true };
        in_hand = ap (λ (x : Hand C B). x.spine) (note sp may.in_hand);
        changing = refl;
        fits = may.fits;
        numbered = may.numbered;
        as_many = as_many sp.spine.geometry sectors p sp.next_seq (nodes_of p) bs may.nodes;
        once = once_by under 0 (nodes_of p) (rising p);
        to_write = to_write cache_facts backing_facts v sp on may.rest p may.fits before first sp.spine.geometry
            sectors under sp.next_seq 0 (nodes_of p) bs may.nodes (rising p) are;
        held = are.held;
        only = only_none cache_facts backing_facts v sp on may.rest p may.fits before first bs (nodes_of p);
        divided = divided sp may.in_hand;
        points = points sp may.in_hand;
        rooms_are = rooms_are sp may.in_hand;
        rooms_many = many;
      })
