-- What a seat has of the buckets that it takes for a chain.
use Rattle.std.proofs.Common.{◌≡◌, ◌≢◌, inl, inr, ℕ, List, [], ◌∷◌, ◌++◌, length, Option, None, Some, refl, sym, ap, ◌∙◌, subst, arith}
use Rattle.std.proofs.lemmas.Option.{slice_get_within}
use Rattle.std.specs.Prelude.{fold, slice_get}
use Rattle.bc_alloc.proofs.Times.{times-append, times_other}
use Rattle.bc_alloc.specs.Reserve.{times}
use Rattle.bc_alloc.specs.declared.purpose.Purpose.TheVariants as list
use Rattle.bc_disk.specs.Disk.{DiskFacts}
use Rattle.bc_new_chain.proofs.of_bc_chain.of_bc_hand.Knowing.{View}
use Rattle.bc_new_chain.proofs.of_bc_chain.of_bc_place.Keeping.{made_by, opening_lasts, waited_by}
use Rattle.bc_new_chain.proofs.of_bc_chain.of_bc_place.Storing.{keeps_nothing}
use Rattle.bc_new_chain.proofs.of_bc_held.Keeping.{keeps_nothing as held_nothing, keeps_waited as held_waited}
use Rattle.bc_new_chain.specs.Beside.{IsBeside, KeepsHeldBeside}
use Rattle.bc_new_chain.specs.bc_hand.Seats.{Did, IsCoreSeat, world}
use Rattle.bc_new_chain.specs.bc_held.Held.{AreOther, IsHeldFor, LiesAt, number_in}
use Rattle.bc_new_chain.specs.bc_held.Taken.{IsNewBucket, KeepsHeld, KeepsHeldBut}
use Rattle.bc_new_chain.specs.bc_held.declared.held.HeldBucket.{HeldBucket}
use Rattle.bc_new_chain.specs.bc_deed.Flushed.{HasDone}
use Rattle.bc_new_chain.specs.bc_machine.Standing.{origin_before}
use Rattle.bc_new_chain.specs.bc_machine.World.{FromEach, Origin, World, after}
use Rattle.bc_events.specs.declared.event.Deed.{Deed}
use Rattle.bc_events.specs.declared.event.Event.{Event}
use Rattle.bc_parts.specs.Seat.{Holds}
use Rattle.bc_refill.proofs.Lists.{last_or_before, last_there, numbers_more, one_in, still_there}
use Rattle.bc_refill.specs.Taken.{AreMine, AreNew, HasMine, numbers_of}

-- another bucket has another number
pub other_numbers : (a b : HeldBucket) (o : Origin) → LiesAt a o → LiesAt b o
    → number_in a o ≢ number_in b o → a.bucket ≢ b.bucket
other_numbers a b o first second ne same = let x = first.number in let y = second.number in
    ne (omega (arith, x, y, same))

same_numbers : (a b : HeldBucket) (o : Origin) → LiesAt a o → LiesAt b o → a.bucket ≢ b.bucket
    → number_in a o ≢ number_in b o
same_numbers a b o first second ne same = let x = first.number in let y = second.number in
    ne (omega (arith, x, y, same))

module _ {C B : Type 0} (cache_facts : C → DiskFacts) (backing_facts : B → DiskFacts) where
  -- ---- what is known from each opening, whatever comes

  pub const_on : (K : Type 0) (d : Option Deed) (v w : View cache_facts backing_facts)
      → IsCoreSeat cache_facts backing_facts v → Did cache_facts backing_facts d v w
      → FromEach (world cache_facts backing_facts v) (λ o st. K)
      → FromEach (world cache_facts backing_facts w) (λ o st. K)
  const_on K None v w seat did h = waited_by cache_facts backing_facts (λ i o st. K)
      (opening_lasts (λ o. K)) v w seat did.is h
  const_on K (Some d) v w seat did h = made_by cache_facts backing_facts (λ i o st. K)
      (λ i o st. K) (opening_lasts (λ o. K)) v w d seat did (λ o st on x. x) h

  turn : (x : World) (a b : HeldBucket) → FromEach x (AreOther a b) → FromEach x (AreOther b a)
  turn x a b h o is course same = h o is course (sym same)

  abbrev pub HeldAt : View cache_facts backing_facts → HeldBucket → Type 0
  HeldAt v b = FromEach (world cache_facts backing_facts v) (IsHeldFor v.first b)

  -- ---- none

  pub mine_none : (v : View cache_facts backing_facts) → AreMine cache_facts backing_facts [] v
  mine_none v = record {
    purpose = λ k b is. absurd (cc);
    held = λ k b is. absurd (cc);
    apart = λ j k a b below first second. absurd (cc);
  }

  pub new_none : (v : View cache_facts backing_facts) → AreNew cache_facts backing_facts [] v v
  new_none v a h o is course = refl

  pub held_none : (v : View cache_facts backing_facts) → IsCoreSeat cache_facts backing_facts v
      → HasMine cache_facts backing_facts [] v v
  held_none v seat = record {
    mine = mine_none v;
    new = new_none v;
    places = keeps_nothing cache_facts backing_facts v seat;
    held = held_nothing cache_facts backing_facts None v;
  }

  -- ---- one more

  pub mine_on : (bs : List HeldBucket) (v w : View cache_facts backing_facts)
      → KeepsHeld cache_facts backing_facts v w → AreMine cache_facts backing_facts bs v
      → AreMine cache_facts backing_facts bs w
  mine_on bs v w keeps h = record {
    purpose = h.purpose;
    held = λ k b is. keeps.held b tt (h.held k b is);
    apart = λ j k a b below first second. keeps.other a b (h.apart j k a b below first second);
  }

  pub mine_more : (bs : List HeldBucket) (b : HeldBucket) (v w : View cache_facts backing_facts)
      → KeepsHeld cache_facts backing_facts v w → b.purpose ≡ list.Priorities → HeldAt w b
      → IsNewBucket cache_facts backing_facts b v w → AreMine cache_facts backing_facts bs v
      → AreMine cache_facts backing_facts (bs ++ b ∷ []) w
  mine_more bs b v w keeps purpose its new h = record {
    purpose = λ k c is. elim (last_or_before bs b c k is) [
      | inl before ↦ h.purpose k c before
      | inr last ↦ ap (λ (x : HeldBucket). x.purpose) last.1 ∙ purpose
    ];
    held = λ k c is. elim (last_or_before bs b c k is) [
      | inl before ↦ keeps.held c tt (h.held k c before)
      | inr last ↦ subst (HeldAt w) (sym last.1) its
    ];
    apart = λ j k a c below first second. elim (last_or_before bs b c k second) [
      | inl before ↦ elim (last_or_before bs b a j first) [
        | inl there ↦ keeps.other a c (h.apart j k a c below there before)
        | inr last ↦ absurd (let inside = slice_get_within bs k c before in let at = last.0 in
            omega (arith, inside, at, below))
      ]
      | inr last ↦ elim (last_or_before bs b a j first) [
        | inl there ↦ subst (λ (x : HeldBucket). FromEach (world cache_facts backing_facts w)
            (AreOther a x)) (sym last.1)
            (turn (world cache_facts backing_facts w) b a (new a (h.held j a there)))
        | inr both ↦ absurd (let at = last.0 in let too = both.0 in omega (arith, at, too, below))
      ]
    ];
  }

  -- a bucket beside one of these has another number
  number_apart : (v : View cache_facts backing_facts) (a b : HeldBucket) → HeldAt v a → HeldAt v b
      → FromEach (world cache_facts backing_facts v) (AreOther a b)
      → FromEach (world cache_facts backing_facts v) (λ o st. a.bucket ≢ b.bucket)
  number_apart v a b first second other o is course = other_numbers a b o (first o is course).lies
      (second o is course).lies (other o is course)

  pub new_more : (bs : List HeldBucket) (b : HeldBucket) (d : Option Deed)
      (u v w : View cache_facts backing_facts) → IsCoreSeat cache_facts backing_facts v
      → Did cache_facts backing_facts d v w → KeepsHeld cache_facts backing_facts u v
      → KeepsHeld cache_facts backing_facts v w → HeldAt w b
      → IsNewBucket cache_facts backing_facts b v w → AreNew cache_facts backing_facts bs u v
      → AreNew cache_facts backing_facts (bs ++ b ∷ []) u w
  new_more bs b d u v w seat did before keeps its new h a held =
      let then_ = before.held a tt held in
      let none = const_on (times a.bucket (numbers_of bs) ≡ 0) d v w seat did (h a held) in
      let apart = number_apart w b a its (keeps.held a tt then_) (new a then_) in
      λ o is course. subst (λ (ns : List ℕ). times a.bucket ns ≡ 0) (sym (numbers_more bs b))
      (let one = times_other a.bucket b.bucket (apart o is course) in
      let rest = none o is course in
      omega (arith, times-append a.bucket (numbers_of bs) (b.bucket ∷ []), one, rest))

  pub new_on : (bs : List HeldBucket) (d : Option Deed) (u v w : View cache_facts backing_facts)
      → IsCoreSeat cache_facts backing_facts v → Did cache_facts backing_facts d v w
      → AreNew cache_facts backing_facts bs u v → AreNew cache_facts backing_facts bs u w
  new_on bs d u v w seat did h a held =
      const_on (times a.bucket (numbers_of bs) ≡ 0) d v w seat did (h a held)

  pub held_both : (u v w : View cache_facts backing_facts) → (Holds u.parts 0 → Holds v.parts 0)
      → KeepsHeld cache_facts backing_facts u v → KeepsHeld cache_facts backing_facts v w
      → KeepsHeld cache_facts backing_facts u w
  held_both u v w holds a b = record {
    held = λ c other h. b.held c tt (a.held c tt h);
    vacant = λ spine c h. b.vacant (holds spine) c (a.vacant spine c h);
    other = λ c d h. b.other c d (a.other c d h);
  }

  -- ---- one less

  -- the last one goes
  pub mine_less : (bs : List HeldBucket) (b : HeldBucket) (v w : View cache_facts backing_facts)
      → KeepsHeldBut cache_facts backing_facts (Some b) v w
      → AreMine cache_facts backing_facts (bs ++ b ∷ []) v
      → AreMine cache_facts backing_facts bs w
  mine_less bs b v w keeps h = record {
    purpose = λ k c is. h.purpose k c (still_there bs (b ∷ []) c k is);
    held = λ k c is. keeps.held c
        (turn (world cache_facts backing_facts v) c b (h.apart k (length bs) c b
        (slice_get_within bs k c is) (still_there bs (b ∷ []) c k is) (last_there bs b)))
        (h.held k c (still_there bs (b ∷ []) c k is));
    apart = λ j k a c below first second. keeps.other a c (h.apart j k a c below
        (still_there bs (b ∷ []) a j first) (still_there bs (b ∷ []) c k second));
  }

  -- one beside all of them is another one
  pub beside_other : (bs : List HeldBucket) (v : View cache_facts backing_facts)
      (a : HeldBucket) (k : ℕ) (b : HeldBucket) → slice_get bs k ≡ Some b
      → AreMine cache_facts backing_facts bs v
      → FromEach (world cache_facts backing_facts v) (IsBeside (numbers_of bs) a) → HeldAt v a
      → FromEach (world cache_facts backing_facts v) (AreOther b a)
  beside_other bs v a k b there mine beside held o is course =
      same_numbers b a o (mine.held k b there o is course).lies (held o is course).lies
      (λ same. let some = one_in bs k b there in
      let none = subst (λ n. times n (numbers_of bs) ≡ 0) (sym same) (beside o is course) in
      omega (arith, some, none))

  pub beside_none : (bs : List HeldBucket) (v : View cache_facts backing_facts)
      → KeepsHeldBeside cache_facts backing_facts (numbers_of bs) v v
  beside_none bs v = record {
    held = λ a beside h. h;
    vacant = λ spine a h. h;
    other = λ a b h. h;
  }

  pub beside_all_on : (bs : List HeldBucket) (u v w : View cache_facts backing_facts)
      → (Holds u.parts 0 → Holds v.parts 0) → IsCoreSeat cache_facts backing_facts v
      → Did cache_facts backing_facts None v w
      → KeepsHeldBeside cache_facts backing_facts (numbers_of bs) u v
      → KeepsHeldBeside cache_facts backing_facts (numbers_of bs) u w
  beside_all_on bs u v w holds seat did h =
      let keeps = held_waited cache_facts backing_facts None v w seat did.is in record {
        held = λ a beside x. keeps.held a tt (h.held a beside x);
        vacant = λ spine a x. keeps.vacant (holds spine) a (h.vacant spine a x);
        other = λ a b x. keeps.other a b (h.other a b x);
      }

  pub beside_less : (bs : List HeldBucket) (k : ℕ) (b : HeldBucket)
      (u v w : View cache_facts backing_facts) → (Holds u.parts 0 → Holds v.parts 0)
      → slice_get bs k ≡ Some b → AreMine cache_facts backing_facts bs u
      → KeepsHeldBut cache_facts backing_facts (Some b) v w
      → KeepsHeldBeside cache_facts backing_facts (numbers_of bs) u v
      → KeepsHeldBeside cache_facts backing_facts (numbers_of bs) u w
  beside_less bs k b u v w holds there mine keeps h = record {
    held = λ a beside held. keeps.held a (h.other b a (beside_other bs u a k b there mine beside held))
        (h.held a beside held);
    vacant = λ spine a x. keeps.vacant (holds spine) a (h.vacant spine a x);
    other = λ a c x. keeps.other a c (h.other a c x);
  }

  -- what it had before is none of those that were taken and let go again
  pub kept_beside : (bs : List HeldBucket) (u v w : View cache_facts backing_facts)
      → (Holds u.parts 0 → Holds v.parts 0) → HasMine cache_facts backing_facts bs u v
      → KeepsHeldBeside cache_facts backing_facts (numbers_of bs) v w
      → KeepsHeld cache_facts backing_facts u w
  kept_beside bs u v w holds mine keeps = record {
    held = λ a other h. keeps.held a (mine.new a h) (mine.held.held a tt h);
    vacant = λ spine a h. keeps.vacant (holds spine) a (mine.held.vacant spine a h);
    other = λ a b h. keeps.other a b (mine.held.other a b h);
  }

  -- ---- whatever happened

  const_after : (K : Type 0) (es : List Event) (x : World) → FromEach x (λ o st. K)
      → FromEach (fold after x es) (λ o st. K)
  const_after K [] x h = h
  const_after K (e ∷ es) x h = const_after K es (after x e)
      (λ o is course. h o (origin_before x e o is) course.2)

  pub const_done : (K : Type 0) (ds : List Deed) (v w : View cache_facts backing_facts)
      → HasDone cache_facts backing_facts ds v w
      → FromEach (world cache_facts backing_facts v) (λ o st. K)
      → FromEach (world cache_facts backing_facts w) (λ o st. K)
  const_done K ds v w done h = subst (λ (x : World). FromEach x (λ o st. K)) (sym done.is)
      (const_after K done.all (world cache_facts backing_facts v) h)

  -- what is known still, and then of buckets beside some
  pub then_beside : (new : List ℕ) (u v w : View cache_facts backing_facts)
      → (Holds u.parts 0 → Holds v.parts 0)
      → ((K : Type 0) → FromEach (world cache_facts backing_facts u) (λ o st. K)
      → FromEach (world cache_facts backing_facts v) (λ o st. K))
      → KeepsHeld cache_facts backing_facts u v
      → KeepsHeldBeside cache_facts backing_facts new v w
      → KeepsHeldBeside cache_facts backing_facts new u w
  then_beside new u v w holds const a b = record {
    held = λ x beside h. b.held x (const (times x.bucket new ≡ 0) beside) (a.held x tt h);
    vacant = λ spine x h. b.vacant (holds spine) x (a.vacant spine x h);
    other = λ x y h. b.other x y (a.other x y h);
  }
