-- The buckets in memory stand for the core's behind an install.
use Rattle.std.proofs.Common.{◌≡◌, ◌≢◌, inl, inr, ℕ, ◌+◌, ◌<◌, ◌≤◌, Bool, true, false, List, [], ◌∷◌, ◌++◌, length, map, Option, Some, None, refl, sym, ap, ◌∙◌, subst, arith}
use Rattle.std.specs.Prelude.{◌==◌, ◌&&◌, ◌||◌, if◌then◌else◌, option_to_list, slice_index_or}
use Rattle.std.proofs.lemmas.Bool.{cases_lt}
use Rattle.bc_alloc.specs.Reserve.{times}
use Rattle.bc_books.specs.After as books
use Rattle.bc_books.specs.Books.{Books, DropNode, MakeNode, Setup}
use Rattle.bc_books.specs.Index.{Pointer, latest}
use Rattle.bc_books.specs.Marks.{any, points_into}
use Rattle.bc_books.specs.Invariant.{IsInOrder}
use Rattle.bc_books.specs.Shelves.{Held, Loose, Open, Shelf, Tree}
use Rattle.bc_change.proofs.of_bc_entry.Course.{at_course}
use Rattle.bc_change.specs.bc_machine.Containers.{AreBucketsOf, IsLeafFor, IsSpineOf, inner_slot}
use Rattle.bc_change.specs.bc_machine.Standing.{origin_before}
use Rattle.bc_change.specs.bc_machine.World.{IsCourseOf, IsOrigin, Origin, World, after, replay}
use Rattle.bc_change.specs.bc_machine.declared.part.BucketsPart.{BucketsPart}
use Rattle.bc_events.specs.Changes.{changed_for, dropped, greatest, leaf_among, made, regroup}
use Rattle.bc_events.specs.Run as core
use Rattle.bc_events.specs.declared.event.Change.{Change}
use Rattle.bc_events.specs.declared.event.Deed.TheVariants as deed
use Rattle.bc_events.specs.declared.event.Event.{Event}
use Rattle.bc_change.specs.Goes.{IsChangeBy, new_leaves, new_nodes, old_nodes, second_comes}
use Rattle.bc_change.specs.Ready.{HasBoth, HoldsNew, IsNewLeaf, IsRangeFor}
use Rattle.bc_change.specs.Under.{IsUnderWay}
use Rattle.bc_change.proofs.Places.{new_leaf, new_range}
use Rattle.bc_change.proofs.Lists.{in_map, row_ends}
use Rattle.bc_change.proofs.Nexts.{old_in}
use Rattle.bc_change.proofs.Sites.{leaf_goes}
use Rattle.bc_facts.proofs.Stood.{in_contains, in_either}
use Rattle.bc_fill.specs.Fill.{bucket_numbers}
use Rattle.bc_grouped.proofs.Grouped.{law_made, law_regrouped, law_unmade}
use Rattle.bc_grouped.proofs.Touched.{law_touched}
use Rattle.bc_grouped.specs.Grouped.{HasRegrouped}
use Rattle.bc_grouped.specs.Touched.{AreBetween, AreTouchedBy, keys_in, lies_between}
use Rattle.bc_known.proofs.Law.{order_at}
use Rattle.bc_leaves.specs.Parts.{Coming}
use Rattle.bc_leaves.specs.Parts as parts
use Rattle.bc_meta.specs.Chain.{Distinct}
use Rattle.bc_meta.specs.Events as event
use Rattle.bc_meta.specs.Records.{records_after}
use Rattle.bc_meta.specs.Facts.{In}
use Rattle.bc_meta.proofs.Lists.{by_test}
use Rattle.bc_change.proofs.of_bc_nodes_known.Law.{law_nodes}
use Rattle.bc_node.specs.Leaf.{Leaf}
use Rattle.bc_shares.specs.Shares.{books_of, leaf_share}
use Rattle.bc_spine.specs.Exchange.{coming, going}
use Rattle.bc_spine.specs.Leaves.{IsRow}
use Rattle.bc_spine.specs.declared.leaf.LeafRange.{LeafRange}
use Rattle.bc_tree.specs.Plan.{Fits}
use Rattle.bc_tree.specs.Spine.{Spine}
use Rattle.bc_tree.specs.declared.plan.Plan.{Plan}
use Rattle.bc_whole.specs.State as whole
use Rattle.bc_install.specs.Buckets.{HaveMade, HaveUnmade}
use Rattle.bc_install.specs.Ended.{HasProperKeys, LawBuckets, buckets_of, leaves_of}
use Rattle.bc_install.proofs.Cached.{came_leaf}
use Rattle.bc_install.proofs.Ended.{books_are, now_made, parts_are, unused}

-- ---- one behind the other

inside : (w : whole.Opening) (k : Books) (p : BucketsPart) (b : ℕ) → AreBucketsOf w k p
    → b < w.layout.buckets → w.before + b < length p.buckets.records
inside w k p b h few = let all = h.cut.buckets in omega (arith, all, few)

unmade_all : (w : whole.Opening) (k : Books) (gs : List ℕ) (p q : BucketsPart)
    → AreBucketsOf w k p → ((b : ℕ) → In b gs → b < w.layout.buckets)
    → HaveUnmade w.before gs p q
    → AreBucketsOf w (books.fold w.flow.books k (dropped gs)) q
unmade_all w k [] p q h in_ has = subst (λ (r : BucketsPart). AreBucketsOf w k r) (sym has) h
unmade_all w k (g ∷ gs) p q h in_ has =
    let in_it = inside w k p g h (in_ g (inl refl)) in
    unmade_all w (books.after w.flow.books k (DropNode g)) gs has.0 q
    (law_unmade w k g p has.0 h in_it (has.1.inside in_it)) (λ b m. in_ b (inr m)) has.2

still_held : (shelf : ℕ → Shelf) (i b q : ℕ) → q ≢ b → shelf q ≡ Held i Tree
    → (if q == b then Loose else shelf q) ≡ Held i Tree
still_held shelf i b q ne is = by_test q b (λ t. (if t then Loose else shelf q) ≡ Held i Tree)
    (λ at. absurd (ne at)) (λ _. is)

open_held : (i : ℕ) (s : Shelf) → s ≡ Held i Tree → s ≡ Open → ⊥
open_held i s held is = let both : Held i Tree ≡ Open = sym held ∙ is in cc

-- a bucket that a seat holds is none of the open ones
never_open : (w : whole.Opening) (k : Books) (i b : ℕ) (p : BucketsPart) → AreBucketsOf w k p
    → k.shelf b ≡ Held i Tree → times (w.before + b) (bucket_numbers p.fill) ≡ 0
never_open w k i b p h held = elim (cases_lt 0 (times (w.before + b) (bucket_numbers p.fill))) [
  | inl some ↦ absurd (open_held i (k.shelf b) held (h.places.opens.buckets.each b some))
  | inr none ↦ omega (arith, none)
]

ends_all : (w : whole.Opening) (k : Books) (i : ℕ) (bs gs : List ℕ) (p r q : BucketsPart)
    → AreBucketsOf w k p → ((b : ℕ) → In b bs → k.shelf b ≡ Held i Tree) → Distinct bs
    → ((b : ℕ) → In b bs → b < w.layout.buckets)
    → ((b : ℕ) → In b gs → b < w.layout.buckets)
    → HaveMade w.before bs p r → HaveUnmade w.before gs r q
    → AreBucketsOf w (books.fold w.flow.books k (made i bs ++ dropped gs)) q
ends_all w k i [] gs p r q h held once come gone has less =
    unmade_all w k gs p q h gone
    (subst (λ (x : BucketsPart). HaveUnmade w.before gs x q) has less)
ends_all w k i (b ∷ bs) gs p r q h held once come gone has less =
    let in_it = inside w k p b h (come b (inl refl)) in
    let made_ = has.1.inside in_it (never_open w k i b p h (held b (inl refl))) in
    ends_all w (books.after w.flow.books k (MakeNode i b)) i bs gs has.0 r q
    (law_made w k i b p.buckets.size p has.0 h (held b (inl refl)) in_it made_)
    (λ x m. still_held k.shelf i b x (λ same. once.0 (subst (λ y. In y bs) same m))
    (held x (inr m))) once.1 (λ x m. come x (inr m)) gone has.2 less

-- ---- the buckets are the device's

off : (b : Bool) → (b ≡ true → ⊥) → b ≡ false
off true never = absurd (never refl)
off false never = refl

never_held : (i : ℕ) (s : Shelf) → s ≡ Held i Tree → s ≡ Loose → ⊥
never_held i s held loose = let both : Held i Tree ≡ Loose = sym held ∙ loose in cc

module _ (x : World) (o : Origin) (is : IsOrigin x o) (course : IsCourseOf o x.log) where
  abbrev w : whole.Opening
  w = o.opening.machine

  abbrev k : Books
  k = books_of (replay o x.log).machine

  in_order : IsInOrder w.flow.books k
  in_order = order_at w o.parts (replay o x.log).machine.whole is.sound
      (at_course o is.sound x.log course).at

  held_in : (i q : ℕ) → k.shelf q ≡ Held i Tree → q < w.layout.buckets
  held_in i q held = (is.sound.laid.area q (off (w.flow.books.fixed q)
      (λ fixed. never_held i (k.shelf q) held (in_order.marked.loose q (inl fixed))))).1

  node_in : (q : ℕ) → k.node q ≡ true → q < w.layout.buckets
  node_in q node = (is.sound.laid.area q (off (w.flow.books.fixed q)
      (λ fixed. let both : true ≡ false = sym node ∙ in_order.marked.one_use q fixed in cc))).1

  gone_inside : (sp : Spine) (plan : Plan)
      → IsSpineOf w (replay o x.log).machine.whole.parts sp → (b : ℕ)
      → In b (buckets_of w (going sp.leaves plan.leaves) ++ map (inner_slot w) (old_nodes sp plan))
      → b < w.layout.buckets
  gone_inside sp plan stands b m = elim (in_either b (buckets_of w (going sp.leaves plan.leaves))
      (map (inner_slot w) (old_nodes sp plan)) m) [
        | inl leaf ↦ (
            let one = in_map (λ (l : LeafRange). w.flow.books.bucket l.ptr.offset)
            (going sp.leaves plan.leaves) b leaf in
            let there = stands.leaves one.0 (in_contains sp.leaves one.0
            (leaf_goes sp plan one.0 one.1)) in
            node_in b (ap k.node (sym one.2 ∙ sym there.bucket)
            ∙ (law_nodes x o is course).leaves one.0.number there.role))
        | inr node ↦ (
            let one = in_map (inner_slot w) (old_nodes sp plan) b node in
            let there = stands.nodes one.0 (in_contains (sp.root ∷ sp.below) one.0
            (old_in sp.root sp.below plan.place plan.bottom plan.top plan.beside one.0 one.1)) in
            node_in b (ap k.node (sym one.2 ∙ sym there.bucket)
            ∙ (law_nodes x o is course).inner_nodes (inner_slot w one.0) there.role))
      ]

  come_held : (i : ℕ) (plan : Plan) → HoldsNew w k i plan → (b : ℕ)
      → In b (buckets_of w (coming plan.leaves) ++ map (inner_slot w) (new_nodes plan))
      → k.shelf b ≡ Held i Tree
  come_held i plan holds b m = elim (in_either b (buckets_of w (coming plan.leaves))
      (map (inner_slot w) (new_nodes plan)) m) [
        | inl leaf ↦ (
            let one = in_map (λ (l : LeafRange). w.flow.books.bucket l.ptr.offset)
            (coming plan.leaves) b leaf in
            subst (λ q. k.shelf q ≡ Held i Tree) one.2
            (holds.leaves one.0 (in_contains (coming plan.leaves) one.0 one.1)))
        | inr node ↦ (
            let one = in_map (inner_slot w) (new_nodes plan) b node in
            subst (λ q. k.shelf q ≡ Held i Tree) one.2
            (holds.inner_nodes one.0 (in_contains (new_nodes plan) one.0 one.1)))
      ]

-- ---- the index stays

dropped_index : (w : Setup) (k : Books) (gs : List ℕ) (s : ℕ)
    → latest (books.fold w k (dropped gs)).index s ≡ latest k.index s
dropped_index w k [] s = refl
dropped_index w k (g ∷ gs) s = dropped_index w (books.after w k (DropNode g)) gs s

ends_index : (w : Setup) (k : Books) (i : ℕ) (bs gs : List ℕ) (s : ℕ)
    → latest (books.fold w k (made i bs ++ dropped gs)).index s ≡ latest k.index s
ends_index w k i [] gs s = dropped_index w k gs s
ends_index w k i (b ∷ bs) gs s = ends_index w (books.after w k (MakeNode i b)) i bs gs s

-- ---- the leaves that come

row_covers : (a : ℕ) (ls : List LeafRange) (b s : ℕ) → IsRow a ls b → a ≤ s → s < b
    → (l : LeafRange) × In l ls × (l.from ≤ s) × (s < l.end)
row_covers a [] b s row from end = absurd (let same = row in omega (arith, same, from, end))
row_covers a (l ∷ ls) b s row from end = elim (cases_lt s l.end) [
  | inl less ↦ (l, inl refl, (let begins = row.0 in omega (arith, begins, from)), less)
  | inr behind ↦ (let one = row_covers l.end ls b s row.2 behind end in
      (one.0, inr one.1, one.2, one.3))
]

row_from : (a : ℕ) (ls : List LeafRange) (b : ℕ) (l : LeafRange) → IsRow a ls b → In l ls
    → a ≤ l.from
row_from a [] b l row m = absurd m
row_from a (k ∷ ls) b l row (inl here) =
    let begins = row.0 in
    let same = ap (λ (x : LeafRange). x.from) here in omega (arith, begins, same)
row_from a (k ∷ ls) b l row (inr later) =
    let rest = row_from k.end ls b l row.2 later in
    let up = row.1 in omega (arith, rest, up)

-- a leaf that comes has a range, and each range a leaf
range_of : (first : LeafRange) (low : Leaf) (r : Option LeafRange) (s : Option Leaf)
    → length (option_to_list r) ≡ length (option_to_list s) → (leaf : Leaf)
    → In leaf (low ∷ option_to_list s)
    → (l : LeafRange) × In (l, leaf) ((first, low) ∷ second_comes r s)
range_of first low r s both leaf (inl here) =
    (first, inl (ap (λ (x : Leaf). (first, x)) here))
range_of first low None None both leaf (inr later) = absurd later
range_of first low (Some range) None both leaf (inr later) = absurd later
range_of first low None (Some high) both leaf (inr later) = absurd (omega (arith, both))
range_of first low (Some range) (Some high) both leaf (inr (inl here)) =
    (range, inr (inl (ap (λ (x : Leaf). (range, x)) here)))
range_of first low (Some range) (Some high) both leaf (inr (inr later)) = absurd later

second_of : {A B : Type 0} (a c : A) (b d : B) → ◌≡◌ {A = A × B} (a, b) (c, d) → b ≡ d
second_of {A} {B} a c b d e = ap (λ (p : A × B). p.1) e

leaf_of : (first : LeafRange) (low : Leaf) (r : Option LeafRange) (s : Option Leaf)
    (l : LeafRange) (leaf : Leaf) → In (l, leaf) ((first, low) ∷ second_comes r s)
    → In leaf (low ∷ option_to_list s)
leaf_of first low r s l leaf (inl here) = inl (second_of l first leaf low here)
leaf_of first low None s l leaf (inr later) = absurd later
leaf_of first low (Some range) None l leaf (inr later) = absurd later
leaf_of first low (Some range) (Some high) l leaf (inr (inl here)) =
    inr (inl (second_of l range leaf high here))
leaf_of first low (Some range) (Some high) l leaf (inr (inr later)) = absurd later

module _ (w : whole.Opening) (st : parts.State) (sp : Spine) (plan : Plan) (c : Change)
    (both : HasBoth plan) (fits : Fits sp plan) (proper : HasProperKeys plan)
    (is : IsChangeBy w sp plan c) (under : IsUnderWay w st plan c) where
  come_row : IsRow c.low (coming plan.leaves) c.high
  come_row = fits.leaves_fit.fits.same_range c.low c.high is.row

  at_range : (leaf : Leaf) → In leaf (leaves_of plan) → (l : LeafRange)
      × In l (coming plan.leaves) × IsRangeFor l leaf
      × IsNewLeaf w Coming (leaf_share st l.number) leaf
  at_range leaf m =
      let one = range_of plan.leaves.first plan.first plan.leaves.second plan.second both leaf m in
      let known_ = under.come one.0 leaf (in_contains (new_leaves plan) (one.0, leaf) one.1) in (
        one.0,
        new_range plan.leaves.first plan.first plan.leaves.second plan.second one.0 leaf one.1,
        known_.0,
        known_.1,
      )

  pub between_ : AreBetween c.low c.high (leaves_of plan)
  between_ = record {
    proper = proper;
    from = λ leaf m. let one = at_range leaf m in
        let low = row_from c.low (coming plan.leaves) c.high one.0 come_row one.1 in
        let same = one.2.from in omega (arith, low, same);
    end = λ leaf m. let one = at_range leaf m in
        let high = row_ends c.low (coming plan.leaves) c.high one.0 come_row one.1 in
        let same = one.2.end in omega (arith, high, same);
    each = λ s from end.
        let one = row_covers c.low (coming plan.leaves) c.high s come_row from end in
        let leaf = new_leaf plan.leaves.first plan.first plan.leaves.second plan.second both one.0
        one.1 in
        let known_ = under.come one.0 leaf.0
        (in_contains (new_leaves plan) (one.0, leaf.0) leaf.1) in
        let begins = known_.0.from in
        let ends = known_.0.end in
        let low = one.2 in
        let high = one.3 in (
          leaf.0,
          leaf_of plan.leaves.first plan.first plan.leaves.second plan.second one.0 leaf.0 leaf.1,
          omega (arith, low, begins),
          omega (arith, high, ends),
        );
  }

-- ---- the law

pub law_buckets : LawBuckets
law_buckets x i first p plan c how come gone a b up proper sized from known_ stands ends
    buckets has o is course =
    let e : Event = record { seat = i; deed = deed.Install c come gone } in
    let before = origin_before x e o is in
    let on = course.2 in
    let h = now_made i p.spine plan c how o (replay o x.log) (known_ o before on) in
    let end = ends o before on in
    let st = (replay o x.log).machine in
    let w = o.opening.machine in
    let k = books_of st in
    let here = buckets o before on in
    let first_is = from o before on in
    let under = h.under in
    let r = records_after st.whole.parts.records (event.GiveUp (unused st c)) in
    let come_held_ : (q : ℕ) → In q come.items → k.shelf q ≡ Held i Tree =
    λ q m. come_held x o before on i plan h.holds q (end.comes.among q m) in
    let index_is : (s : ℕ) → latest (books_of (core.after o.opening (replay o x.log) e).machine).index s
    ≡ latest k.index s = λ s. ap (λ (ks : Books). latest ks.index s)
    (books_are w st i c come.items gone.items)
    ∙ ends_index w.flow.books (books.after w.flow.books k (regroup k.index st.whole.parts.leaves c))
    i come.items gone.items s in
    let stand : (leaf : Leaf) → In leaf (leaves_of plan) → (n : ℕ) × IsLeafFor w
    (leaf_share (core.after o.opening (replay o x.log) e).machine.whole.parts n) leaf =
    λ leaf m. let one = at_range w st.whole.parts p.spine plan c up.both up.fits proper h.change
    under leaf m in (
      one.0.number,
      subst (λ (s : parts.State). IsLeafFor w (leaf_share s one.0.number) leaf)
          (sym (parts_are w st i c come.items gone.items))
          (came_leaf w st.whole.parts p.spine plan c up.both h.change under r refl one.0.number leaf
          one.3),
    ) in
    let touched : HasRegrouped w k (lies_between c.low c.high) a has.touched = record {
      beside = has.keys.same.beside;
      buckets = has.keys.same.buckets;
      each = (has.keys.touched here.round.each).each;
      touches = λ q inside_. law_touched (after x e) o is course a.buckets.size
          (length a.buckets.records) c.low c.high (leaves_of plan) a.buckets.touched
          has.touched.buckets.touched sized here.cut here.round.each
          (between_ w st.whole.parts p.spine plan c up.both up.fits proper h.change under) stand
          (subst (λ n. AreTouchedBy a.buckets.size n (keys_in (leaves_of plan)) a.buckets.touched
          has.touched.buckets.touched) (sym first_is) (has.keys.touched here.round.each)) q inside_
          ∙ ap (λ (f : ℕ → Option Pointer). any w.flow.books.size (λ s. lies_between c.low c.high s
          && points_into w.flow.books.bucket q (f s))
          || slice_index_or a.buckets.touched (w.before + q) false) (λ n s. index_is s n);
    } in
    subst (λ (ks : Books). AreBucketsOf w ks b)
    (sym (books_are w st i c come.items gone.items))
    (ends_all w (books.after w.flow.books k (regroup k.index st.whole.parts.leaves c)) i come.items
    gone.items has.touched has.made b
    (law_regrouped w k
    (λ s. leaf_among st.whole.parts.leaves c.come.items (k.index.leaf s) s)
    (changed_for k.index.changed c.come.items (greatest k.index.changed c.gone.items))
    (lies_between c.low c.high) (greatest k.index.changed c.gone.items) a has.touched here touched)
    come_held_ end.comes.once (λ q m. held_in x o before on i q (come_held_ q m))
    (λ q m. gone_inside x o before on p.spine plan (stands o before on).spine q
    (end.goes.among q m))
    (subst (λ n. HaveMade n come.items has.touched has.made) (sym first_is) has.come_made)
    (subst (λ n. HaveUnmade n gone.items has.made b) (sym first_is) has.gone_unmade))
