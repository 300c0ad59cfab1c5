-- The steps of a look, one behind the other.
use Rattle.std.specs.Prelude.{is_some}
use Rattle.std.proofs.Common.{◌≡◌, inr, ℕ, false, true, List, [], ◌∷◌, Option, Some, None, refl, sym, ap, ◌∙◌, subst, arith}
use Rattle.bc_cache.specs.declared.slots.Cached.{Cached}
use Rattle.bc_fetch.proofs.of_bc_deed.Sequence.{done_both, done_first}
use Rattle.bc_fetch.specs.bc_deed.Asked.{IsHalted}
use Rattle.bc_fetch.specs.bc_deed.Flushed.{HasDone}
use Rattle.bc_disk.specs.Disk.{DiskFacts}
use Rattle.bc_events.specs.declared.event.Deed.{Deed}
use Rattle.bc_events.specs.declared.event.Deed.TheVariants as deed
use Rattle.bc_fetch.specs.Fetch.{HasPart, HasReadOne, IsSameButCache}
use Rattle.bc_fetch.specs.declared.error.LeafError.TheVariants as errors
use Rattle.bc_fetch.specs.bc_hand.declared.error.StepError.{StepError}
use Rattle.bc_fetch.specs.bc_hand.declared.error.StepError.TheVariants as step
use Rattle.bc_fetch.proofs.of_bc_hand.Knowing.{View, m}
use Rattle.bc_fetch.specs.bc_hand.Seats.{Did, IsCoreSeat, Works, empty, note}
use Rattle.bc_fetch.specs.bc_hand.declared.hand.Hand.{Hand}
use Rattle.bc_fetch.specs.bc_machine.Frame.{Range}
use Rattle.bc_fetch.specs.bc_machine.World.{cache_among}
use Rattle.bc_fetch.specs.bc_machine.Note.{Note}
use Rattle.bc_fetch.specs.bc_machine.declared.part.BucketsPart.{BucketsPart}
use Rattle.bc_fetch.specs.bc_machine.declared.part.CorePart.{CorePart}
use Rattle.bc_parts.specs.Seat.{PartsView}
use Rattle.bc_seats.specs.Seats.{Waited}
use Rattle.bc_reads.proofs.of_bc_sight.Reading.{knows_waited}
use Rattle.bc_reads.specs.bc_sight.Sight.{HasLeaf, Knows, OfClaim}
use Rattle.bc_reader.specs.Look.{HasSeen, IsFound, IsNotFound, IsOver, IsStoppedIn, IsWay, LookStop, NotSeen}
use Rattle.bc_reader.specs.declared.error.ReadError.{ReadError}
use Rattle.bc_reader.specs.declared.error.ReadError.TheVariants as error
use Rattle.bc_reader.specs.declared.look.Seen.{Seen}
use Rattle.bc_reader.proofs.Finding.{note_done, then_waited, waited_done, way_note, way_of}

-- a leaf with all sectors of a range has all of the claim that is over it
abbrev pub leaf_over : {C B : Type 0} (h : Hand C B) (r : Range) (number first count slot : ℕ)
    (cached : Cached) → IsOver first count r → HasLeaf h number first count slot cached
    → HasLeaf h number r.first r.count slot cached
leaf_over h r number first count slot cached over has = record {
  hand = has.hand;
  is = has.is;
  at = has.at;
  number_is = has.number_is;
  from = (let a = over.from in let b = has.from in omega arith);
  end = (let a = over.from in let c = over.long in let b = has.end in omega arith);
}

abbrev pub over_leaf : {C B : Type 0} (h : Hand C B) (r : Range) (number first count slot : ℕ)
    (cached : Cached) → IsOver first count r → HasLeaf h number first count slot cached
    → (s : ℕ) × (c : Cached) × HasLeaf h number r.first r.count s c
over_leaf h r number first count slot cached over has =
    (slot, cached, leaf_over h r number first count slot cached over has)

pub over_same : (r q : Range) (first count : ℕ) → q ≡ r → IsOver first count r → IsOver first count q
over_same r q first count same over = subst (λ (x : Range). IsOver first count x) (sym same) over

abbrev pub part_moved : {C B : Type 0} (a b : Hand C B) (part : ℕ) → b.leaves ≡ a.leaves
    → HasPart a part → HasPart b part
part_moved a b part same has =
    record { hand = has.hand; is = same ∙ has.is; part_is = has.part_is }

is_none : {A : Type 0} (o : Option A) → is_some o ≡ false → o ≡ None
is_none None is = refl
is_none (Some x) is = absurd (cc)

-- leaves were in hand, then the buckets too, and then the leaves went
module _ {C B : Type 0} (a b c d : Hand C B) (leaves : a ≡ record (empty {C = C} {B = B}) { leaves = a.leaves })
    (buckets : b ≡ record a { buckets = b.buckets }) (cache : IsSameButCache b c)
    (gone : d ≡ record c { leaves = None }) where
  no_cache : c.cache ≡ None
  no_cache = is_none c.cache (cache.kind
      ∙ ap (λ (h : Hand C B). is_some h.cache) (buckets ∙ ap (λ (h : Hand C B). record h { buckets = b.buckets }) leaves))

  to_buckets : d ≡ record (empty {C = C} {B = B}) { buckets = b.buckets }
  to_buckets = gone
      ∙ ap (λ (h : Hand C B). record h { leaves = None }) cache.rest
      ∙ ap (λ (o : Option C). record b { leaves = None; cache = o }) no_cache
      ∙ ap (λ (h : Hand C B). record h { leaves = None; cache = None }) buckets
      ∙ ap (λ (h : Hand C B). record h { leaves = None; cache = None; buckets = b.buckets }) leaves

  pub buckets_only : d ≡ record (empty {C = C} {B = B}) { buckets = d.buckets }
  buckets_only = to_buckets
      ∙ ap (λ (o : Option BucketsPart). record (empty {C = C} {B = B}) { buckets = o })
      (sym (ap (λ (h : Hand C B). h.buckets) to_buckets))

module _ {C B : Type 0} (cache_facts : C → DiskFacts) (backing_facts : B → DiskFacts) where
  pub looked_done : (number : ℕ) (t u v w : View cache_facts backing_facts)
      → IsCoreSeat cache_facts backing_facts u → Waited (m cache_facts backing_facts) t u
      → HasDone cache_facts backing_facts [] u v
      → Did cache_facts backing_facts (Some (deed.Look number)) v w
      → HasDone cache_facts backing_facts (deed.Look number ∷ []) t w
  looked_done number t u v w seat waited then did =
      done_both cache_facts backing_facts [] (deed.Look number ∷ []) t u w
      (waited_done cache_facts backing_facts t u seat waited)
      (done_both cache_facts backing_facts [] (deed.Look number ∷ []) u v w then
      (done_first cache_facts backing_facts (Some (deed.Look number)) v w did))

  pub waited_twice : (t u v : View cache_facts backing_facts)
      → IsCoreSeat cache_facts backing_facts u → Waited (m cache_facts backing_facts) t u
      → HasDone cache_facts backing_facts [] u v → HasDone cache_facts backing_facts [] t v
  waited_twice t u v seat waited then = done_both cache_facts backing_facts [] [] t u v
      (waited_done cache_facts backing_facts t u seat waited) then

  pub none_done : (t u v w : View cache_facts backing_facts)
      → IsCoreSeat cache_facts backing_facts u → Waited (m cache_facts backing_facts) t u
      → HasDone cache_facts backing_facts [] u v → Did cache_facts backing_facts None v w
      → HasDone cache_facts backing_facts [] t w
  none_done t u v w seat waited then did =
      done_both cache_facts backing_facts [] [] t v w (waited_twice t u v seat waited then)
      (done_first cache_facts backing_facts None v w did)

  pub note_still : (v w : View cache_facts backing_facts) → HasDone cache_facts backing_facts [] v w
      → note cache_facts backing_facts w ≡ note cache_facts backing_facts v
  note_still v w done = note_done cache_facts backing_facts [] v w done

  pub range_still : (v w : View cache_facts backing_facts) → HasDone cache_facts backing_facts [] v w
      → (note cache_facts backing_facts w).range ≡ (note cache_facts backing_facts v).range
  range_still v w done = ap (λ (n : Note). n.range) (note_still v w done)

  pub over_still : (first count : ℕ) (v w : View cache_facts backing_facts)
      → HasDone cache_facts backing_facts [] v w
      → IsOver first count (note cache_facts backing_facts v).range
      → IsOver first count (note cache_facts backing_facts w).range
  over_still first count v w done over = over_same (note cache_facts backing_facts v).range
      (note cache_facts backing_facts w).range first count (range_still v w done) over

  pub range_looked : (number : ℕ) (v w : View cache_facts backing_facts)
      → HasDone cache_facts backing_facts (deed.Look number ∷ []) v w
      → (note cache_facts backing_facts w).range ≡ (note cache_facts backing_facts v).range
  range_looked number v w done = ap (λ (n : Note). n.range)
      (note_done cache_facts backing_facts (deed.Look number ∷ []) v w done)

  pub is_looked : (number : ℕ) (v w : View cache_facts backing_facts)
      → HasDone cache_facts backing_facts (deed.Look number ∷ []) v w
      → (note cache_facts backing_facts w).looked ≡ true
  is_looked number v w done = ap (λ (n : Note). n.looked)
      (note_done cache_facts backing_facts (deed.Look number ∷ []) v w done)

  -- ---- refusals

  pub look_halted : (h : Hand C B) (number first count sectors : ℕ) (e : StepError)
      (v w : View cache_facts backing_facts) → IsHalted e w.seen
      → HasDone cache_facts backing_facts [] v w
      → LookStop cache_facts backing_facts h number first count sectors
      (error.Leaf (errors.Step e)) v w
  look_halted h number first count sectors (step.Fault d) v w is done = absurd is
  look_halted h number first count sectors (step.Halted d) v w is done = (is, done)
  look_halted h number first count sectors step.Memory v w is done = absurd is

  pub look_lost : (h : Hand C B) (number first count sectors : ℕ) (e : ReadError)
      (v w : View cache_facts backing_facts) → IsNotFound h number first count sectors e
      → HasDone cache_facts backing_facts [] v w
      → LookStop cache_facts backing_facts h number first count sectors e v w
  look_lost h number first count sectors (error.Leaf (errors.Step step.Memory)) v w is done = done
  look_lost h number first count sectors (error.Leaf (errors.Step (step.Fault d))) v w is done =
      absurd is
  look_lost h number first count sectors (error.Leaf (errors.Step (step.Halted d))) v w is done =
      absurd is
  look_lost h number first count sectors (error.Leaf errors.Busy) v w is done = absurd is
  look_lost h number first count sectors (error.Leaf errors.Outside) v w is done = absurd is
  look_lost h number first count sectors (error.Leaf errors.Missing) v w is done = absurd is
  look_lost h number first count sectors (error.Leaf (errors.Node q e)) v w is done = absurd is
  look_lost h number first count sectors error.Lost v w is done = (is, done)

  pub not_seen_in : (p : PartsView (CorePart C B)) (first count : ℕ) (e : ReadError)
      (v w : View cache_facts backing_facts) → IsStoppedIn cache_facts backing_facts p first count e v w
      → NotSeen cache_facts backing_facts p first count e v w
  not_seen_in p first count (error.Leaf e) v w h = inr h
  not_seen_in p first count error.Lost v w h = h

  -- ---- from the leaf to the look

  -- t: before; u: with the leaf; x: with the buckets too; v: behind the look or its refusal; w: now
  module _ (p : PartsView (CorePart C B)) (first count number : ℕ)
      (t u x v w : View cache_facts backing_facts) (a b : Hand C B)
      (read : HasReadOne cache_facts backing_facts t u)
      (waited : Waited (m cache_facts backing_facts) u x)
      (seat : IsCoreSeat cache_facts backing_facts x)
      (works : Works cache_facts backing_facts p v a) where
    way : (ds : List Deed) × IsWay ds × HasDone cache_facts backing_facts ds t u
    way = way_of cache_facts backing_facts t u read

    to_look : HasDone cache_facts backing_facts way.0 t x
    to_look = then_waited cache_facts backing_facts way.0 t u x way.2
        (waited_done cache_facts backing_facts u x seat waited)

    pub seen_at : (seen : Seen) → IsFound a number first count seen
        → HasDone cache_facts backing_facts (deed.Look number ∷ []) x v
        → ((slot : ℕ) (cached : Cached) (k : BucketsPart) → HasLeaf a number first count slot cached
        → a.buckets ≡ Some k
        → OfClaim cache_facts backing_facts v (λ o c. Knows o cached.leaf k.buckets (λ _. None) c))
        → (gone : Waited (m cache_facts backing_facts) v w) → IsCoreSeat cache_facts backing_facts w
        → b.buckets ≡ a.buckets → HasSeen cache_facts backing_facts p first count seen t w b
    seen_at seen found looked knows gone last still = record {
      number = number;
      way = way.0;
      is_way = way.1;
      at = v;
      hand = a;
      works = works;
      found = found;
      done = done_both cache_facts backing_facts way.0 (deed.Look number ∷ []) t x v to_look looked;
      then = waited_done cache_facts backing_facts v w last gone;
      still = still;
      looked = ap (λ (n : Note). n.looked)
          (note_still v w (waited_done cache_facts backing_facts v w last gone))
          ∙ is_looked number x v looked;
      knows = knows_waited cache_facts backing_facts v w works.seat gone found.both.cached.leaf
          found.both.buckets.part.buckets (λ _. None)
          (knows found.both.slot found.both.cached found.both.buckets.part found.both.leaf
          found.both.buckets.is);
    }

    pub stopped_in : (e : ReadError)
        → LookStop cache_facts backing_facts a number first count
        (cache_among cache_facts backing_facts p.run.start).sectors e x v
        → HasDone cache_facts backing_facts [] v w
        → NotSeen cache_facts backing_facts p first count e t w
    stopped_in e stop then = not_seen_in p first count e t w (record {
      number = number;
      way = way.0;
      is_way = way.1;
      from = x;
      at = v;
      hand = a;
      works = works;
      done = to_look;
      stop = stop;
      then = then;
    })

  -- on the way to the leaf the claim stays
  pub range_way : (t u x : View cache_facts backing_facts) → HasReadOne cache_facts backing_facts t u
      → IsCoreSeat cache_facts backing_facts x → Waited (m cache_facts backing_facts) u x
      → (note cache_facts backing_facts x).range ≡ (note cache_facts backing_facts t).range
  range_way t u x read seat waited = let way = way_of cache_facts backing_facts t u read in
      range_still u x (waited_done cache_facts backing_facts u x seat waited)
      ∙ ap (λ (n : Note). n.range) (way_note cache_facts backing_facts way.0 t u way.1 way.2)
