-- That the set which makes a change may be written, and what it leaves of the core's state.
use Rattle.std.proofs.Common.{◌≡◌, ◌≢◌, inl, inr, ℕ, zero, suc, ◌+◌, ◌*◌, ◌%◌, ◌<◌, ◌≤◌, Bool, true, false, List, [], ◌∷◌, Option, Some, refl, sym, ap, ◌∙◌, subst, arith, if◌then◌else◌}
use Rattle.std.specs.Prelude.{All, length, map, slice_get, slice_set}
use Rattle.std.proofs.lemmas.Bool.{lt-ltb}
use Rattle.bc_append.proofs.Course.{inv_course}
use Rattle.bc_cache.specs.Slots.{NodeCache}
use Rattle.bc_change.specs.Goes.{IsChangeBy}
use Rattle.bc_change.specs.Laws.{unused_for}
use Rattle.bc_change.specs.Ready.{HoldsNew, IsReadyChange}
use Rattle.bc_change.specs.Under.{IsUnderWay}
use Rattle.bc_change.specs.bc_hand.Seats.{by}
use Rattle.bc_change.specs.bc_machine.Containers.{AreLeavesOf, IsHeldIn, IsInTree, IsLeafFor, IsSpineOf, IsTreeInner, child_of, inner_slot, sets_len}
use Rattle.bc_change.specs.bc_machine.World.{IsCourseOf, IsOrigin, Origin, World, replay}
use Rattle.bc_change.proofs.Begins.{begins, held}
use Rattle.bc_change.proofs.Left.{begun, none_before, not_none}
use Rattle.bc_change.proofs.Places.{two_slots}
use Rattle.bc_change.proofs.Turned.{leaves_stand, spine_stands, under_way}
use Rattle.bc_change.proofs.of_bc_nodes_known.Law.{law_append_parent, law_said, law_still}
use Rattle.bc_disk.specs.declared.geometry.Geometry.{Geometry}
use Rattle.bc_events.specs.Run as core
use Rattle.bc_events.specs.Run.{CanDo, IsSome, acts_or_none}
use Rattle.bc_events.specs.Writes.{beginning, map_some}
use Rattle.bc_events.specs.declared.event.Change.{Change}
use Rattle.bc_facts.specs.Layout.{IsLayoutOf}
use Rattle.bc_image.specs.Children.{with_children}
use Rattle.bc_inner.specs.Inner.{HasTaken, Inner}
use Rattle.bc_key.specs.Words.{ptr_word}
use Rattle.bc_key.specs.declared.key.Key.{Key}
use Rattle.bc_known.specs.Acts as known
use Rattle.bc_known.specs.Acts.{Act, BeginChange, FailCache, WriteCache}
use Rattle.bc_known.specs.Run as machine
use Rattle.bc_leaves.specs.Enabled.{CanBegin, CanSetParent, children_in}
use Rattle.bc_leaves.specs.Fits.{HaveBuckets}
use Rattle.bc_leaves.specs.Keys.{last_said, ref_said}
use Rattle.bc_leaves.specs.Parts.{Begun, BySet, Draft, Free, Lost, NoChange, NoNode, Role, inner_node_of, inner_owner, keys_in_leaf}
use Rattle.bc_leaves.specs.Parts as parts
use Rattle.bc_meta.proofs.Lists.{by_test}
use Rattle.bc_meta.specs.Facts.{In}
use Rattle.bc_meta.specs.Records.{Node, failed_node, put, sent_node}
use Rattle.bc_meta.specs.Tree.{NodeSet, children_of, put_children}
use Rattle.bc_model.specs.Sector.{Value}
use Rattle.bc_node.specs.Leaf.{Leaf}
use Rattle.bc_node.specs.Writing.{HasSet, set_of}
use Rattle.bc_append.specs.bc_nodes_known.Nodes.{AreStill, IsParentSetOf, MayAppendParent, NamesFrom}
use Rattle.bc_set.specs.Records.{set_sectors}
use Rattle.bc_set.specs.SetBytes.{AreSetKeys}
use Rattle.bc_set.specs.declared.set.SetKind.TheVariants.{Children}
use Rattle.bc_shares.specs.Shares.{InnerShare, books_of, inner_share, leaf_share, node_share, written_sets}
use Rattle.bc_tree.specs.LastKeys.{LeafKeys}
use Rattle.bc_tree.specs.Needs.{has_room, words}
use Rattle.bc_tree.proofs.Appends.{room_says}
use Rattle.bc_tree.specs.Spine.{Spine}
use Rattle.bc_tree.specs.declared.plan.Plan.{Plan}
use Rattle.bc_whole.specs.State as whole
use Rattle.bc_whole.specs.State.{OfParent}
use Rattle.bc_whole.specs.Together.{place_of}
use Rattle.bc_parent_set.specs.BySet.{IsBySet}
use Rattle.bc_parent_set.specs.Takes.{IsTaker}
use Rattle.bc_parent_set.specs.Write.{PointsTo, lost_by, parent_by, parent_place, parent_seen, parent_values}
use Rattle.bc_parent_set.proofs.Begun.{behind, can_set_parent, free, here, role_is}
use Rattle.bc_parent_set.proofs.Behind.{OneNode, leaves_on, one_node, tree_on, under_on}
use Rattle.bc_parent_set.proofs.Sets.{children_seen, is_set, len_is}
use Rattle.bc_parent_set.proofs.Spare.{can_write}

-- What is asked of the set, whatever the state.
pub record IsReadySet (g : Geometry) (n : Inner) (keys : List Key) (bytes : List ℕ) : Type 0 where
  pub room : has_room g n (words keys) ≡ true
  pub kind : AreSetKeys Children keys
  pub set : HasSet g (ptr_word n.ptr) (set_of n.seq keys) bytes
  pub whole : length bytes ≡ 512 * g.node_sectors

never : (b : Bool) → b ≡ true → b ≡ false → ⊥
never b is off = cc

not_calm : (x : ℕ) → NoChange ≡ BySet x → ⊥
not_calm x same = cc

not_begun : (x : ℕ) → Begun ≡ BySet x → ⊥
not_begun x same = cc

not_lost : (x : ℕ) → Lost ≡ BySet x → ⊥
not_lost x same = cc

other_set : (x y : ℕ) → y ≢ x → BySet x ≡ BySet y → ⊥
other_set x y ne same = ne (one x y same)
  where
    one : (a b : ℕ) → BySet a ≡ BySet b → b ≡ a
    one a b e = cc

abbrev put_at : (ℕ → Node) → ℕ → Node → ℕ → Node
put_at nodes q node = put nodes q node

at_put : (nodes : ℕ → Node) (q : ℕ) (node : Node) → put_at nodes q node q ≡ node
at_put nodes q node = by_test q q (λ b. (if b then node else nodes q) ≡ node) (λ _. refl)
    (λ ne. absurd (ne refl))

set_same : (xs : List Inner) (i : ℕ) (y : Inner) → slice_get xs i ≡ Some y
    → xs ≡ slice_set xs i y
set_same [] zero y e = absurd (cc)
set_same [] (suc i) y e = absurd (cc)
set_same (z ∷ zs) zero y e = let one : z ≡ y = cc in ap (λ (n : Inner). n ∷ zs) one
set_same (z ∷ zs) (suc i) y e = ap (λ ns. z ∷ ns) (set_same zs i y e)

-- What is known of the change in a state of a run.
pub record IsGiven (x : World) (o : Origin) (sp : Spine) (plan : Plan) (keys : LeafKeys) (c : Change)
    (i : ℕ) (g : Geometry) (at : ℕ) (taker : Inner) (put : List Key) (slot : ℕ) (bytes : List ℕ) :
    Type 0 where
  pub ready : IsReadyChange o.opening.machine (replay o x.log).machine.whole.parts sp plan keys
  pub holds : HoldsNew o.opening.machine (books_of (replay o x.log).machine) i plan
  pub is_change : IsChangeBy o.opening.machine sp plan c
  pub divided : IsLayoutOf g o.opening.machine.layout
  pub take : IsTaker sp plan at taker put
  pub slot_is : inner_slot o.opening.machine taker ≡ slot
  pub points : All (PointsTo g o) put
  pub set_ready : IsReadySet g taker put bytes
  pub named : NamesFrom 0 (inner_slot o.opening.machine sp.root)
      (replay o x.log).machine.whole.parts.records

-- In a state of a run.
module _ (x : World) (o : Origin) (is : IsOrigin x o) (course : IsCourseOf o x.log)
    (sp : Spine) (plan : Plan) (keys : LeafKeys) (c : Change) (i : ℕ) (g : Geometry) (at : ℕ)
    (taker : Inner) (put : List Key) (slot : ℕ) (bytes : List ℕ)
    (given : IsGiven x o sp plan keys c i g at taker put slot bytes) where
  abbrev w : whole.Opening
  w = o.opening.machine

  abbrev st : known.State
  st = (replay o x.log).machine

  abbrev p : parts.State
  p = st.whole.parts

  ready : IsReadyChange w p sp plan keys
  ready = given.ready

  holds : HoldsNew w (books_of st) i plan
  holds = given.holds

  is_change : IsChangeBy w sp plan c
  is_change = given.is_change

  divided : IsLayoutOf g w.layout
  divided = given.divided

  take : IsTaker sp plan at taker put
  take = given.take

  slot_is : inner_slot w taker ≡ slot
  slot_is = given.slot_is

  points : All (PointsTo g o) put
  points = given.points

  set_ready : IsReadySet g taker put bytes
  set_ready = given.set_ready

  named : NamesFrom 0 (inner_slot w sp.root) p.records
  named = given.named

  abbrev set : NodeSet
  set = parent_seen g taker put

  abbrev values : List Value
  values = parent_values g taker put bytes

  abbrev begin : Act
  begin = BeginChange c.low c.high c.gone.items c.come.items c.old.items c.new.items
      (unused_for p c)

  said : (k s : ℕ) (leaf : Leaf) → IsLeafFor w (leaf_share p k) leaf → leaf.from ≤ s
      → s < leaf.end → ref_said (last_said leaf.keys s)
      ≡ ref_said (last_said (keys_in_leaf p k) s)
  said = law_said x o is course

  still : AreStill p
  still = law_still x o is course

  fresh : taker.loaded ≡ false
  fresh = (room_says g taker put set_ready.room).0

  can_begin : CanBegin p c.low c.high c.gone.items c.come.items c.old.items c.new.items
      (unused_for p c)
  can_begin = begins w p sp plan keys c ready is_change said

  stands_here : IsTreeInner w p.change (inner_slot w taker) taker
      (inner_share p (inner_slot w taker))
  stands_here = here w p sp plan keys c ready is_change said still at taker put take

  stands : IsTreeInner w p.change slot taker (inner_share p slot)
  stands = subst (λ k. IsTreeInner w p.change k taker (inner_share p k)) slot_is stands_here

  is_free : (p.inner_nodes slot).role ≡ Free
  is_free = subst (λ k. (p.inner_nodes k).role ≡ Free) slot_is
      (free w p sp plan keys c ready is_change said still at taker put take)

  puts : set.children ≡ map (child_of w) put
  puts = children_seen g o put points

  set_in : IsParentSetOf w taker (p.inner_nodes slot) set values
  set_in = is_set w p.change slot (inner_share p slot) taker g put bytes stands divided
      set_ready.room set_ready.kind set_ready.set set_ready.whole

  pub spelled : w.layout.sets.spelled (inner_owner (p.inner_nodes slot)) values ≡ Some set
  spelled = set_in.spelled

  may : MayAppendParent w st slot taker set values
  may = law_append_parent x o is course g slot taker set values divided stands fresh
      (λ same. not_calm slot (sym ready.ready.calm.change ∙ same)) set_in

  can_set : CanSetParent (begun p c) slot set
  can_set = subst (λ k. CanSetParent (begun p c) k set) slot_is
      (can_set_parent w p sp plan keys c ready is_change said still at taker put take set puts
      fresh named)

  -- ---- it may

  may_begin : machine.IsEnabled w st i begin
  may_begin = record {
    data_allows = tt;
    asks = (can_begin, held w st i sp plan keys c ready holds is_change);
  }

  module _ (few : i < 320) (late : st.whole.flow.late i ≡ false) where
    abbrev begun_state : known.State
    begun_state = known.after w st i begin

    written_course : machine.IsEnabled w begun_state i (WriteCache (OfParent slot set) values)
    written_course = record {
      data_allows = (
        record {
          heard = inr late;
          steps = tt;
          can = can_write x o is course g divided i slot taker stands set values may;
        },
        tt,
      );
      asks = (can_set, may.can_append);
    }

    failed_course : machine.IsEnabled w begun_state i (FailCache (OfParent slot set) values)
    failed_course = record {
      data_allows = (
        record {
          heard = inr late;
          steps = tt;
          can = can_write x o is course g divided i slot taker stands set values may;
        },
        tt,
      );
      asks = (can_set, may.can_append);
    }

    pub may_write : core.IsEnabled o.opening (replay o x.log) (by i (parent_by g taker put slot c bytes))
    may_write = subst (λ (s : Option NodeSet).
        IsSome (map_some (λ y. beginning st c ∷ WriteCache y values ∷ [])
        (map_some (OfParent slot) s))
        (λ acts. CanDo o.opening (replay o x.log) (by i (parent_by g taker put slot c bytes)) acts))
        (sym spelled) (record {
          seat = lt-ltb i 320 few;
          course = (may_begin, (written_course, tt));
          fit = subst (λ (s : Option NodeSet). IsSome (map_some (OfParent slot) s)
              (λ y. place_of w.layout st.whole y ≡ parent_place taker)) (sym spelled) may.place;
          its_line = tt;
          plain = λ plain. absurd (never w.flow.plain plain is.cached);
        })

    pub may_lose : core.IsEnabled o.opening (replay o x.log) (by i (lost_by g taker put slot c bytes))
    may_lose = subst (λ (s : Option NodeSet).
        IsSome (map_some (λ y. beginning st c ∷ FailCache y values ∷ [])
        (map_some (OfParent slot) s))
        (λ acts. CanDo o.opening (replay o x.log) (by i (lost_by g taker put slot c bytes)) acts))
        (sym spelled) (record {
          seat = lt-ltb i 320 few;
          course = (may_begin, (failed_course, tt));
          fit = subst (λ (s : Option NodeSet). IsSome (map_some (OfParent slot) s)
              (λ y. place_of w.layout st.whole y ≡ parent_place taker)) (sym spelled) may.place;
          its_line = tt;
          plain = λ plain. absurd (never w.flow.plain plain is.cached);
        })

  -- ---- the state behind it

  abbrev written_state : known.State
  written_state = known.after w (known.after w st i begin) i (WriteCache (OfParent slot set) values)

  abbrev lost : known.State
  lost = known.after w (known.after w st i begin) i (FailCache (OfParent slot set) values)

  pub then_is : (core.after o.opening (replay o x.log)
      (by i (parent_by g taker put slot c bytes))).machine ≡ written_state
  then_is = ap (λ (s : Option NodeSet). machine.run w st (core.by i (acts_or_none
      (map_some (λ y. beginning st c ∷ WriteCache y values ∷ []) (map_some (OfParent slot) s)))))
      spelled

  pub lost_is : (core.after o.opening (replay o x.log)
      (by i (lost_by g taker put slot c bytes))).machine ≡ lost
  lost_is = ap (λ (s : Option NodeSet). machine.run w st (core.by i (acts_or_none
      (map_some (λ y. beginning st c ∷ FailCache y values ∷ []) (map_some (OfParent slot) s)))))
      spelled

  abbrev a : parts.State
  a = begun p c

  buckets : HaveBuckets p.records.nodes p.leaves p.inner_nodes
  buckets = (inv_course o is.sound x.log course).fits.buckets

  some_leaf : (k : ℕ) → (a.leaves k).role ≢ NoNode → (p.leaves k).role ≢ NoNode
  some_leaf k some = none_before c.gone.items c.come.items k (p.leaves k).role
      (λ m. not_none (p.leaves k).role Free (can_begin.gone_leaf k m).0 (λ no. cc))
      (λ m. not_none (p.leaves k).role Draft (can_begin.come_leaf k m).0 (λ no. cc)) some

  some_inner : (y : ℕ) → (a.inner_nodes y).role ≢ NoNode → (p.inner_nodes y).role ≢ NoNode
  some_inner y some = none_before c.old.items c.new.items y (p.inner_nodes y).role
      (λ m. not_none (p.inner_nodes y).role Free (can_begin.old_inner y m) (λ no. cc))
      (λ m. not_none (p.inner_nodes y).role Draft (can_begin.new_inner y m).0 (λ no. cc)) some

  slot_some : (p.inner_nodes slot).role ≢ NoNode
  slot_some = not_none (p.inner_nodes slot).role Free is_free (λ no. cc)

  abbrev q : ℕ
  q = (p.inner_nodes slot).bucket

  changed_by : (node : Node) (b : parts.State) → b.records.nodes ≡ put_at p.records.nodes q node
      → b.leaves ≡ a.leaves → b.inner_nodes ≡ a.inner_nodes → b.end ≡ a.end → OneNode slot a b
  changed_by node b nodes leaves inner end = one_node a (put_at p.records.nodes q node) slot node refl
      (λ k some. buckets.one_kind k slot (some_leaf k some) slot_some)
      (λ y ne some same. ne (buckets.one_inner y slot (some_inner y some) slot_some same))
      b nodes leaves inner end

  one_then : OneNode slot a written_state.whole.parts
  one_then = changed_by (sent_node set (p.records.nodes q)) written_state.whole.parts refl refl refl refl

  one_lost : OneNode slot a lost.whole.parts
  one_lost = changed_by (failed_node set (p.records.nodes q)) lost.whole.parts refl refl refl refl

  -- the node itself
  share_then : inner_share written_state.whole.parts slot ≡ record {
    inner = a.inner_nodes slot;
    node = node_share (sent_node set (p.records.nodes q));
  }
  share_then = ap (λ (n : Node). record { inner = a.inner_nodes slot; node = node_share n })
      (at_put p.records.nodes q (sent_node set (p.records.nodes q)))

  share_lost : inner_share lost.whole.parts slot ≡ record {
    inner = a.inner_nodes slot;
    node = node_share (failed_node set (p.records.nodes q));
  }
  share_lost = ap (λ (n : Node). record { inner = a.inner_nodes slot; node = node_share n })
      (at_put p.records.nodes q (failed_node set (p.records.nodes q)))

  off : (p.records.nodes q).sent ≡ false
  off = still.inner_nodes slot (subst parts.IsLive (sym is_free) tt)
      (λ same. not_calm slot (sym ready.ready.calm.change ∙ same))

  sets_before : (inner_share p slot).node.sets ≡ (p.records.nodes q).sets
  sets_before = ap (λ b. written_sets b (p.records.nodes q).last (p.records.nodes q).sets) off

  role_then : (a.inner_nodes slot).role ≡ Free
  role_then = subst (λ k. (a.inner_nodes k).role ≡ Free) slot_is
      (role_is w p sp plan keys c ready is_change said still at taker put take)

  -- its sets have those children now
  children_then : children_of (inner_share written_state.whole.parts slot).node.sets
      ≡ map (child_of w) (with_children put taker.children)
  children_then = ap (λ (s : InnerShare). children_of s.node.sets) share_then
      ∙ subst (λ k. put_children set.children (children_in a k)
      ≡ map (child_of w) (with_children put taker.children)) slot_is
      (behind w p sp plan keys c ready is_change said still at taker put take set puts)

  -- ---- the parts

  begun_spine : IsSpineOf w a sp
  begun_spine = spine_stands w p sp plan keys c ready is_change can_begin a.records refl Begun not_begun

  apart : (j : ℕ) (n : Inner) → slice_get (sp.root ∷ sp.below) j ≡ Some n → j ≢ at
      → inner_slot w n ≢ slot
  apart j n e ne same = two_slots w p sp plan keys c ready is_change j at n taker e take.there ne
      (same ∙ sym slot_is)

  module _ (new : Spine) (next : Inner) (place : ℕ)
      (there : slice_get (sp.root ∷ sp.below) place ≡ Some taker)
      (more : HasTaken (taker.taken + set_sectors g (set_of taker.seq put)) taker next)
      (nodes : new.root ∷ new.below ≡ slice_set (sp.root ∷ sp.below) place next)
      (leaves : new.leaves ≡ sp.leaves) (end : new.root.end ≡ sp.root.end) where
    apart_place : (j : ℕ) (n : Inner) → slice_get (sp.root ∷ sp.below) j ≡ Some n → j ≢ place
        → inner_slot w n ≢ slot
    apart_place j n e ne same = two_slots w p sp plan keys c ready is_change j place n taker e there
        ne (same ∙ sym slot_is)

    next_here : IsTreeInner w (BySet slot) slot next (inner_share written_state.whole.parts slot)
    next_here = subst (λ (s : InnerShare). IsTreeInner w (BySet slot) slot next s) (sym share_then)
        (record {
          role = subst IsInTree (sym role_then) tt;
          first = stands.first ∙ sym more.from;
          end = stands.end ∙ sym more.end;
          bucket = stands.bucket ∙ ap (λ t. w.flow.books.bucket t.offset) (sym more.ptr);
          word = stands.word ∙ ap ptr_word (sym more.ptr);
          level = stands.level ∙ sym more.level;
          loaded = λ on. more.loaded ∙ stands.loaded on;
          own = λ fresh_. let had = stands.own (sym more.loaded ∙ fresh_) in record {
            number = λ e m. elim m [
              | inl here_ ↦ ap (λ (s : NodeSet). s.seq) here_ ∙ sym more.seq
              | inr old_ ↦ had.number e (subst (In e) (sym sets_before) old_) ∙ sym more.seq
            ];
            taken_is =
                let long = len_is g w.layout taker put divided in
                let was = had.taken_is ∙ ap (sets_len w.layout) sets_before in
                let now = more.taken_is in
                omega (arith, long, was, now);
          };
          children = λ ne. absurd (ne refl);
        })

    pub spine_then : IsSpineOf w written_state.whole.parts new
    spine_then = tree_on w slot a written_state.whole.parts one_then sp new place taker next there slot_is
        apart_place nodes more.ptr leaves end begun_spine not_begun next_here (λ y ne. other_set slot y ne)

  lost_here : IsTreeInner w Lost slot taker (inner_share lost.whole.parts slot)
  lost_here = subst (λ (s : InnerShare). IsTreeInner w Lost slot taker s) (sym share_lost) (record {
    role = subst IsInTree (sym role_then) tt;
    first = stands.first;
    end = stands.end;
    bucket = stands.bucket;
    word = stands.word;
    level = stands.level;
    loaded = stands.loaded;
    own = λ fresh_. let had = stands.own fresh_ in record {
      number = λ e m. had.number e (subst (In e) (sym sets_before) m);
      taken_is = had.taken_is ∙ ap (sets_len w.layout) sets_before;
    };
    children = λ _. ap children_of (sym sets_before)
        ∙ stands.children (λ same. not_calm slot (sym ready.ready.calm.change ∙ same));
  })

  same_nodes : sp.root ∷ sp.below ≡ slice_set (sp.root ∷ sp.below) at taker
  same_nodes = set_same (sp.root ∷ sp.below) at taker take.there

  pub spine_lost : IsSpineOf w lost.whole.parts sp
  spine_lost = tree_on w slot a lost.whole.parts one_lost sp sp at taker taker take.there slot_is
      apart same_nodes refl refl refl begun_spine not_begun lost_here (λ y ne. not_lost y)

  -- leaves
  module _ (count part : ℕ) (cache : NodeCache)
      (held_in : (k : ℕ) → In k c.gone.items → k % count ≡ part → IsHeldIn cache.slots k)
      (h : AreLeavesOf w p count part cache) where
    begun_leaves : AreLeavesOf w a count part cache
    begun_leaves = leaves_stand w p sp plan keys c ready is_change can_begin a.records refl Begun
        not_begun count part cache held_in h

    pub leaves_then : AreLeavesOf w written_state.whole.parts count part cache
    leaves_then = leaves_on w slot a written_state.whole.parts one_then count part cache begun_leaves

    pub leaves_lost : AreLeavesOf w lost.whole.parts count part cache
    leaves_lost = leaves_on w slot a lost.whole.parts one_lost count part cache begun_leaves

  -- ---- what the seat knows

  pub known_then : IsBySet i plan c slot (with_children put taker.children) o
      (core.after o.opening (replay o x.log) (by i (parent_by g taker put slot c bytes)))
  known_then = record {
    under = subst (λ (y : known.State). IsUnderWay w y.whole.parts plan c) (sym then_is)
        (under_on w slot a written_state.whole.parts one_then plan c role_then
        (under_way w p sp plan keys c ready is_change can_begin a.records refl Begun not_begun));
    holds = subst (λ (y : known.State). HoldsNew w (books_of y) i plan) (sym then_is)
        (record { leaves = holds.leaves; inner_nodes = holds.inner_nodes });
    change = ap (λ (y : known.State). y.whole.parts.change) then_is;
    stays = ap (λ (y : known.State). (y.whole.parts.inner_nodes slot).role) then_is ∙ role_then;
    children_are = ap (λ (y : known.State). children_of (inner_share y.whole.parts slot).node.sets)
        then_is ∙ children_then;
  }

  pub named_then : NamesFrom 0 (inner_slot w sp.root) (core.after o.opening (replay o x.log)
      (by i (parent_by g taker put slot c bytes))).machine.whole.parts.records
  named_then = subst (λ (y : known.State). NamesFrom 0 (inner_slot w sp.root) y.whole.parts.records)
      (sym then_is) (record { made = named.made; newest = named.newest; sealed = named.sealed })
