-- The step between borrowing the cache device and returning it.
use Rattle.std.proofs.Common.{◌≡◌, ℕ, Bool, true, false, List, [], ◌∷◌, Option, Some, None, refl, sym, ap, ◌∙◌, subst}
use Rattle.std.specs.Prelude.{IfErr, Ok, Err, Result, fold, if◌then◌else◌, is_none, is_some}
use Rattle.bc_disk.specs.Disk.{DiskFacts}
use Rattle.bc_disk.specs.declared.disk.Device.TheVariants as which
use Rattle.bc_disk.specs.declared.geometry.Geometry.{Geometry}
use Rattle.bc_events.specs.Columns.{Call, call_by}
use Rattle.bc_events.specs.declared.event.Deed.{Deed}
use Rattle.bc_events.specs.declared.event.Event.{Event}
use Rattle.bc_events.specs.declared.event.Written.{Written}
use Rattle.bc_facts.specs.Layout.{IsLayoutOf}
use Rattle.bc_held.proofs.Keeping.{keeps_waited, other_since, vacant_since}
use Rattle.bc_held.proofs.of_bc_hand.Between.{did_between}
use Rattle.bc_held.proofs.of_bc_hand.Knowing.{View, m}
use Rattle.bc_held.proofs.of_bc_place.Keeping.{opening_lasts, since_by}
use Rattle.bc_held.specs.bc_hand.Seats.{IsCoreSeat, Kinds, kinds, part_of, world}
use Rattle.bc_held.specs.bc_hand.declared.hand.Hand.{Hand}
use Rattle.bc_held.specs.bc_machine.World.{FromEach, IsCache, Side, World, after, cache_among, called, counted, opening, same_device}
use Rattle.bc_held.specs.bc_machine.declared.part.CorePart.{CorePart}
use Rattle.bc_held.specs.bc_machine.declared.part.SpinePart.{SpinePart}
use Rattle.bc_held.specs.declared.held.HeldBucket.{HeldBucket}
use Rattle.bc_model.specs.Sector.{Value}
use Rattle.bc_new_node.proofs.Behind.{draft_inner_since, draft_leaf_since, no_inner_since, no_leaf_since}
use Rattle.bc_new_node.specs.Kind.{HasNoNode, IsDividedBy, MayWriteNew}
use Rattle.bc_new_node.specs.Wrote.{HasWrittenNew, KeepsDraftsBut, numbered}
use Rattle.bc_parts.specs.Seat.{Holds, PartsView, Run}
use Rattle.bc_plan.specs.Write.{CanWrite}
use Rattle.bc_plan.specs.declared.write.NewNode as plan
use Rattle.bc_seats.specs.Seats.{Since, Waited}
use Rattle.bc_tree.specs.declared.plan.Plan.{Plan}

pub map_if_err : {A E : Type 0} {P Q : E → Type 0} (r : Result A E) → ((e : E) → P e → Q e)
    → IfErr r P → IfErr r Q
map_if_err (Ok a) f h = tt
map_if_err (Err e) f h = f e h

pub same_spine : (o : Option SpinePart) (a b : SpinePart) → o ≡ Some a → o ≡ Some b → a ≡ b
same_spine o a b is other = cc

-- ---- hands

pub some_back : {X : Type 0} (o : Option X) (x : X) (t : Bool) → t ≡ is_none o
    → is_some (if t then None else Some x) ≡ is_some o
some_back None x t is = ap (λ b. is_some (if b then None else Some x)) is
some_back (Some y) x t is = ap (λ b. is_some (if b then None else Some x)) is

module _ {C B : Type 0} (a b c d : Hand C B) (sp : SpinePart) (o : Option C)
    (lent : b ≡ record a { cache = None }) (mid : c ≡ numbered b sp b.cache)
    (back : d ≡ record c { cache = o }) where
  -- the device was lent, the number raised, and the device came back
  pub numbered_back : d ≡ numbered a sp d.cache
  numbered_back = back
      ∙ ap (λ (x : Hand C B). record x { cache = o })
      (mid ∙ ap (λ (x : Hand C B). numbered x sp x.cache) lent)
      ∙ ap (λ (p : Option C). numbered a sp p) (sym (ap (λ (x : Hand C B). x.cache) back))

  abbrev kinds_by : Bool → Bool → Kinds
  kinds_by spine cache = record {
    spine = spine;
    leaves = part_of a.leaves;
    flight = is_some a.flight;
    buckets = is_some a.buckets;
    journal = is_some a.journal;
    cache = cache;
    backing = is_some a.backing;
  }

  pub kinds_back : a.spine ≡ Some sp → is_some o ≡ is_some a.cache → kinds d ≡ kinds a
  kinds_back has some = ap (λ (x : Hand C B). kinds x) numbered_back
      ∙ ap (λ t. kinds_by true t) (ap (λ (x : Hand C B). is_some x.cache) back ∙ some)
      ∙ ap (λ t. kinds_by t (is_some a.cache)) (sym (ap is_some has))

pub spine_some : {C B : Type 0} (b c : Hand C B) (sp : SpinePart) → c ≡ numbered b sp b.cache
    → is_some c.spine ≡ true
spine_some b c sp is = ap (λ (x : Hand _ _). is_some x.spine) is

-- ---- how many sectors the device has

sectors_called : (o : Option Call) (x : Side) → (called which.Cache o x).sectors ≡ x.sectors
sectors_called None x = refl
sectors_called (Some call) x = go (same_device call.device which.Cache)
  where
    go : (b : Bool) → (if b then counted call.failed x else x).sectors ≡ x.sectors
    go true = refl
    go false = refl

sectors_stay : (x : World) (es : List Event) → (fold after x es).cache.sectors ≡ x.cache.sectors
sectors_stay x [] = refl
sectors_stay x (e ∷ es) = sectors_stay (after x e) es ∙ sectors_called (call_by e.deed) x.cache

module _ {C B : Type 0} (cache_facts : C → DiskFacts) (backing_facts : B → DiskFacts) where
  pub sectors_of : (p : PartsView (CorePart C B)) (v : View cache_facts backing_facts)
      → v.run ≡ p.run → (disk : C)
      → IsCache {C = C} {B = B} cache_facts backing_facts disk (world cache_facts backing_facts v)
      → (cache_facts disk).sectors ≡ (cache_among cache_facts backing_facts p.run.start).sectors
  sectors_of p v run disk on = on.stands.sectors
      ∙ sectors_stay (opening cache_facts backing_facts v.run.start) v.seen
      ∙ ap (λ (r : Run (CorePart C B)). (cache_among cache_facts backing_facts r.start).sectors) run

  -- ---- what it asks, of the hand without the device

  pub may_lent : (a b : Hand C B) (s t : ℕ) (p : Plan) (node : plan.NewNode) (k : HeldBucket)
      (g : Geometry) → b ≡ record a { cache = None } → t ≡ s
      → ((sp : SpinePart) → a.spine ≡ Some sp → g ≡ sp.spine.geometry) → MayWriteNew a s p node k
      → (can : MayWriteNew b t p node k) × (g ≡ can.spine.spine.geometry)
  may_lent a b s t p node k g lent same told can = (
    record {
      spine = can.spine;
      in_hand = ap (λ (x : Hand C B). x.spine) lent ∙ can.in_hand;
      changing = can.changing;
      fits = can.fits;
      can = subst (λ n. CanWrite can.spine.spine.geometry n p node) (sym same) can.can;
      first = can.first;
      first_is = can.first_is;
      place = can.place;
      number = can.number;
      numbered = can.numbered;
      proper = can.proper;
      purpose = can.purpose;
    },
    told can.spine can.in_hand,
  )

  -- ---- what it knows of the device's division and of slots, once it has the device

  pub divided_lent : (v : View cache_facts backing_facts) (x : World) (g : Geometry)
      → IsCoreSeat cache_facts backing_facts v → Since (m cache_facts backing_facts) v x
      → FromEach (world cache_facts backing_facts v) (IsDividedBy g) → FromEach x (IsDividedBy g)
  divided_lent v x g seat since h = since_by cache_facts backing_facts (λ i. IsDividedBy g)
      (opening_lasts (λ o. IsLayoutOf g o.opening.machine.layout)) v x seat since h

  pub free_lent : (v : View cache_facts backing_facts) (x : World) (p : Plan) (node : plan.NewNode)
      (slot q : ℕ) → Holds v.parts 0 → Since (m cache_facts backing_facts) v x
      → FromEach (world cache_facts backing_facts v) (HasNoNode p node slot q)
      → FromEach x (HasNoNode p node slot q)
  free_lent v x p node slot q spine since h o is course = record {
    leaf = λ leaf its. no_leaf_since cache_facts backing_facts v spine x since slot
        (λ o is course. (h o is course).leaf leaf its) o is course;
    inner = λ n its. no_inner_since cache_facts backing_facts v spine x since q
        (λ o is course. (h o is course).inner n its) o is course;
  }

  -- ---- new nodes

  drafts_waited : (v w : View cache_facts backing_facts) (slot q : ℕ) (b : HeldBucket)
      → IsCoreSeat cache_facts backing_facts v → Holds v.parts 0
      → Waited (m cache_facts backing_facts) v w
      → KeepsDraftsBut cache_facts backing_facts slot q b v w
  drafts_waited v w slot q b seat spine waited = record {
    leaf = draft_leaf_since cache_facts backing_facts v spine (world cache_facts backing_facts w)
        waited.since;
    inner = draft_inner_since cache_facts backing_facts v spine (world cache_facts backing_facts w)
        waited.since;
    no_leaf = λ k ne. no_leaf_since cache_facts backing_facts v spine
        (world cache_facts backing_facts w) waited.since k;
    no_inner = λ k ne. no_inner_since cache_facts backing_facts v spine
        (world cache_facts backing_facts w) waited.since k;
    held = λ a h. (keeps_waited cache_facts backing_facts None v w seat waited).held a tt h;
    vacant = λ a other h. vacant_since cache_facts backing_facts v
        (world cache_facts backing_facts w) spine waited.since a h;
    other = λ a c h. other_since cache_facts backing_facts v (world cache_facts backing_facts w) seat
        waited.since a c h;
  }

  drafts_then : (u v w : View cache_facts backing_facts) (slot q : ℕ) (b : HeldBucket)
      → KeepsDraftsBut cache_facts backing_facts slot q b u v
      → KeepsDraftsBut cache_facts backing_facts slot q b v w
      → KeepsDraftsBut cache_facts backing_facts slot q b u w
  drafts_then u v w slot q b f g = record {
    leaf = λ n set h. g.leaf n set (f.leaf n set h);
    inner = λ n set h. g.inner n set (f.inner n set h);
    no_leaf = λ k ne h. g.no_leaf k ne (f.no_leaf k ne h);
    no_inner = λ k ne h. g.no_inner k ne (f.no_inner k ne h);
    held = λ a h. g.held a (f.held a h);
    vacant = λ a other h. g.vacant a (f.other a b other) (f.vacant a other h);
    other = λ a c h. g.other a c (f.other a c h);
  }

  module _ (u v w x : View cache_facts backing_facts)
      (still : (k : ℕ) → Holds u.parts k → Holds v.parts k)
      (first : Waited (m cache_facts backing_facts) u v)
      (last : Waited (m cache_facts backing_facts) w x) where
    pub drafts_between : (slot q : ℕ) (b : HeldBucket) → IsCoreSeat cache_facts backing_facts u
        → Holds u.parts 0 → KeepsDraftsBut cache_facts backing_facts slot q b v w
        → IsCoreSeat cache_facts backing_facts w → Holds w.parts 0
        → KeepsDraftsBut cache_facts backing_facts slot q b u x
    drafts_between slot q b seat spine mid then_seat then_spine =
        drafts_then u w x slot q b
        (drafts_then u v w slot q b (drafts_waited u v slot q b seat spine first) mid)
        (drafts_waited w x slot q b then_seat then_spine last)

    -- what was done
    module _ (seen : x.seen ≡ w.seen) (told : x.heard ≡ w.heard)
        (end : IsCoreSeat cache_facts backing_facts x) (by : HeldBucket → Written → List Value → Deed)
        (before : ℕ) (p : Plan) (node : plan.NewNode) (slot : ℕ) (b : HeldBucket) where
      pub wrote_between : (g k : Geometry) → g ≡ k
          → HasWrittenNew cache_facts backing_facts by before g p node slot b v w
          → HasWrittenNew cache_facts backing_facts by before k p node slot b u x
      wrote_between g k same h = subst (λ y. HasWrittenNew cache_facts backing_facts by before y p node
          slot b u x) same (record {
            what = h.what;
            what_is = h.what_is;
            values = h.values;
            values_are = h.values_are;
            did = did_between cache_facts backing_facts (Some (by b h.what h.values)) u v w x still
                first h.did last seen told end;
          })
