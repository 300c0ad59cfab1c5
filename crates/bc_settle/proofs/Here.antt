-- What is in hand for a candidate's key, in the slot that was found, and what is put there.
use Rattle.std.proofs.Common.{◌≡◌, inl, inr, ℕ, ◌≤◌, List, [], ◌∷◌, Option, Some, None, refl, sym, ap, ◌∙◌, subst, arith}
use Rattle.std.specs.Prelude.{Err, IfSome, MatchResult, Ok, Result, slice_get}
use Rattle.bc_cache.specs.Slots.{IsSlotOf}
use Rattle.bc_cache.specs.declared.slots.Cached.{Cached}
use Rattle.bc_disk.specs.Disk.{DiskFacts}
use Rattle.bc_flight.specs.Candidates.{first_of}
use Rattle.bc_flight.specs.Flight.{InFlight}
use Rattle.bc_flight.specs.declared.candidate.Candidate.{Candidate}
use Rattle.bc_flight.specs.declared.candidate.Wanted.TheVariants.{Due}
use Rattle.bc_insert.specs.Insert.{HasPutIn}
use Rattle.bc_key.specs.Key.{pointer_of}
use Rattle.bc_key.specs.declared.key.Key.{Key}
use Rattle.bc_key.specs.declared.ptr.Ptr.{Ptr}
use Rattle.bc_node.specs.Leaf.{Leaf}
use Rattle.bc_bucket.specs.Buckets.{Buckets}
use Rattle.bc_parts.specs.Seat.{Holds, PartsView}
use Rattle.bc_candidate.proofs.of_bc_hand.Knowing.{View}
use Rattle.bc_candidate.specs.bc_hand.Seats.{Works, with_leaves, with_part, world}
use Rattle.bc_candidate.specs.bc_hand.declared.hand.Hand.{Hand}
use Rattle.bc_candidate.specs.bc_hand.declared.hand.LeafHand.{LeafHand}
use Rattle.bc_candidate.specs.bc_machine.World.{IsFlight, data_of, kept_of}
use Rattle.bc_candidate.specs.bc_machine.declared.part.BucketsPart.{BucketsPart}
use Rattle.bc_candidate.specs.bc_machine.declared.part.CorePart.{CorePart}
use Rattle.bc_settle.specs.Fits.{IsNamedBy, IsRanged}
use Rattle.bc_settle.specs.Next.{HasCleanKey, HasTakenDue}
use Rattle.bc_settle.specs.Settle.{CanSettleIn, HasPutSettled}
use Rattle.bc_settle.proofs.Oldest.{due_found}

-- ---- the slot

module _ {C B : Type 0} (h : Hand C B) (leaf found : ℕ)
    (is : (leaves : LeafHand) → h.leaves ≡ Some leaves → IsSlotOf leaves.cache.slots leaf found)
    (n slot : ℕ) (cached : Cached) (can : CanSettleIn h n slot leaf cached) where
  pub same_slot : slot ≡ found
  same_slot = (is can.leaves can.is).only slot (record {
    cached = cached;
    there = can.there;
    number_is = can.number_is;
  })

  abbrev pub settle_here : CanSettleIn h n found leaf cached
  settle_here = record {
    leaves = can.leaves;
    is = can.is;
    its_part = can.its_part;
    there = subst (λ s. slice_get can.leaves.cache.slots s ≡ Some (Some cached)) same_slot
        can.there;
    number_is = can.number_is;
    free = can.free;
    flight = can.flight;
    is_flight = can.is_flight;
    journal = can.journal;
    is_journal = can.is_journal;
    room = can.room;
    numbered = can.numbered;
    buckets = can.buckets;
    are_buckets = can.are_buckets;
  }

  pub put_back : (new : Hand C B) (keys : List Key) → HasPutIn h new found cached keys
      → HasPutIn h new slot cached keys
  put_back new keys put = subst (λ s. HasPutIn h new s cached keys) (sym same_slot) put

-- ---- what was put

pub still_flight : {C B : Type 0} (h new : Hand C B) (slot : ℕ) (cached : Cached)
    (keys : List Key) (f : InFlight) → h.flight ≡ Some f → HasPutIn h new slot cached keys
    → new.flight ≡ Some f
still_flight h new slot cached keys f at put = ap (λ (x : Hand _ _). x.flight) put.is ∙ at

pub still_buckets : {C B : Type 0} (h between new : Hand C B) (slot : ℕ) (cached : Cached)
    (keys : List Key) (part : BucketsPart) (left : InFlight) → h.buckets ≡ Some part
    → HasPutIn h between slot cached keys → new ≡ record between { flight = Some left }
    → new.buckets ≡ Some part
still_buckets h between new slot cached keys part left at put is =
    ap (λ (x : Hand _ _). x.buckets) is ∙ ap (λ (x : Hand _ _). x.buckets) put.is ∙ at

pub has_put : {C B : Type 0} (before : ℕ) (h between then_ new : Hand C B) (slot : ℕ)
    (cached : Cached) (key : Key) (flight : InFlight) (part : BucketsPart) (at place count : ℕ)
    → h.flight ≡ Some flight → h.buckets ≡ Some part → at ≡ place
    → HasPutIn h between slot cached (key ∷ [])
    → ((f : InFlight) → between.flight ≡ Some f → (left : InFlight)
    × HasTakenDue before f left × (then_ ≡ record between { flight = Some left }))
    → ((b : BucketsPart) → then_.buckets ≡ Some b → (next : BucketsPart)
    × HasCleanKey b at count next × (new ≡ record then_ { buckets = Some next }))
    → HasPutSettled before h new slot cached key flight part place count
has_put before h between then_ new slot cached key flight part at place count is_flight are_buckets
    same put taken named =
    let one = taken flight
    (still_flight h between slot cached (key ∷ []) flight is_flight put) in
    let two = named part (still_buckets h between then_ slot cached (key ∷ []) part one.0
    are_buckets put one.2) in
    subst (λ n. HasPutSettled before h new slot cached key flight part n count) same (record {
      between = between;
      put = put;
      left = one.0;
      taken = one.1;
      next = two.0;
      named = two.1;
      is = two.2 ∙ ap (λ (x : Hand _ _). record x { buckets = Some two.0 }) one.2;
    })

-- ---- which key was made

pub key_made : {A E : Type 0} (P : A → Type 0) (Q : E → Type 0) (r : Result A E) (a : A)
    → r ≡ Ok a → MatchResult r P Q → P a
key_made P Q r a is made = subst (λ x. MatchResult x P Q) is made

pub key_left : {A E : Type 0} (P : A → Type 0) (Q : E → Type 0) (r : Result A E) (e : E)
    → r ≡ Err e → MatchResult r P Q → Q e
key_left P Q r e is made = subst (λ x. MatchResult x P Q) is made

pub same_place : (o : Option Ptr) (a b : Ptr) → o ≡ Some a → o ≡ Some b → a.offset ≡ b.offset
same_place o a b x y = let both : Some a ≡ Some b = sym x ∙ y in
    let same : a ≡ b = cc in ap (λ (p : Ptr). p.offset) same

-- ---- the candidate in hand

some_of : {A : Type 0} (P : A → Type 0) (o : Option A) (a : A) → o ≡ Some a → IfSome o P → P a
some_of P (Some b) a is h = let e : b ≡ a = cc in subst P e h
some_of P None a is h = absurd (cc)

here : {A : Type 0} (n : ℕ) (o : Option A) (a : A) (ks : List ℕ) → o ≡ Some a
    → Holds (with_part n o ks) n
here n None a ks is = absurd (cc)
here n (Some b) a ks is = inl refl

over : {A : Type 0} (n : ℕ) (o : Option A) (ks : List ℕ) (k : ℕ) → Holds ks k
    → Holds (with_part n o ks) k
over n None ks k h = h
over n (Some a) ks k h = inr h

no_ptr : (o : Option Ptr) (a : Ptr) → o ≡ None → o ≡ Some a → ⊥
no_ptr o a x y = let both : None ≡ Some a = sym x ∙ y in absurd (cc)

module _ {C B : Type 0} (cache_facts : C → DiskFacts) (backing_facts : B → DiskFacts)
    (p : PartsView (CorePart C B)) (v : View cache_facts backing_facts) (h : Hand C B)
    (works : Works cache_facts backing_facts p v h) (f : InFlight) (is : h.flight ≡ Some f) where
  pub flight_in : Holds v.parts 1 × IsFlight f (world cache_facts backing_facts v)
  flight_in = (
    subst (λ ks. Holds ks 1) (sym works.parts) (over 5 h.backing _ 1 (over 4 h.cache _ 1
        (over 3 h.journal _ 1 (over 2 h.buckets _ 1
        (here 1 h.flight f (with_leaves h.leaves (with_part 0 h.spine [])) is))))),
    some_of (λ g. IsFlight g (world cache_facts backing_facts v)) h.flight f is works.stand.flight,
  )

  module _ (before : ℕ) (c : Candidate) (due : first_of (Due before) f.candidates ≡ Some c) where
    pub ranged : IsRanged c.key
    ranged =
        let fl = flight_in.1 (world cache_facts backing_facts v) (inl refl) in
        let one = (due_found before
        (λ n. kept_of ((data_of (world cache_facts backing_facts v)).candidates n)) f.candidates c
        due fl.candidates.each).is in record {
          some = one.some;
          inside = one.inside;
          ptr = one.place.0;
          is = one.place.1;
        }

    pub has_pointer : pointer_of c.key ≡ None → ⊥
    has_pointer none = no_ptr (pointer_of c.key) ranged.ptr none ranged.is

-- the key that is made has a sector, from sector 0 on
pub key_some : (leaf : Leaf) (b : Buckets) (old key : Key) → IsRanged old
    → IsNamedBy leaf b old key → 1 ≤ key.size
key_some leaf b old key ranged named =
    let some = ranged.some in let size = named.size in omega (arith, some, size)

pub key_extent : (leaf : Leaf) (b : Buckets) (old key : Key) → IsRanged old
    → IsNamedBy leaf b old key → key.size ≤ key.end
key_extent leaf b old key ranged named =
    let inside = ranged.inside in
    let size = named.size in
    let end = named.end in omega (arith, inside, size, end)
