-- What a seat knows of the buckets that it holds goes on, whatever others do, and while it leaves them
-- alone itself.
use Rattle.std.proofs.Common.{◌≡◌, ◌≢◌, ℕ, ◌-◌, ◌%◌, Bool, true, false, Option, Some, None, refl, sym, ap, ◌∙◌, subst, arith}
use Rattle.std.specs.Prelude.{◌==◌, not}
use Rattle.bc_disk.specs.Disk.{DiskFacts}
use Rattle.bc_events.specs.Acts.{purpose_of}
use Rattle.bc_events.specs.Run as core
use Rattle.bc_events.specs.declared.event.Deed.{Deed}
use Rattle.bc_events.specs.declared.event.Event.{Event}
use Rattle.bc_held.proofs.Rows.{event_stands}
use Rattle.bc_held.proofs.Steps.{Stands}
use Rattle.bc_held.specs.Held.{AreOther, IsHeldFor, IsVacantIn, LiesAt, leaves_held, number_in}
use Rattle.bc_held.specs.Laws.{LawHeld, LawHeldKept, LawVacant}
use Rattle.bc_held.specs.Taken.{IsNewBucket, IsOther, KeepsHeld, KeepsHeldBut, let_go_by}
use Rattle.bc_held.specs.declared.held.HeldBucket.{HeldBucket}
use Rattle.bc_meta.proofs.Lists.{by_test}
use Rattle.bc_nodes_known.proofs.Law.{law_vacant as law_nodes_vacant}
use Rattle.bc_nodes_known.specs.Nodes.{StayVacant}
use Rattle.bc_parts.specs.Seat.{Holds}
use Rattle.bc_place.proofs.Going.{happens}
use Rattle.bc_place.proofs.Keeping.{Lasts, made_by, opening_lasts, since_by, waited_by}
use Rattle.bc_place.proofs.of_bc_hand.Knowing.{View, m}
use Rattle.bc_place.specs.Place.{HasBefore}
use Rattle.bc_place.specs.bc_hand.Seats.{Did, IsCoreSeat, by, world}
use Rattle.bc_place.specs.bc_machine.Standing.{oldest_first, origin_before, replay_is}
use Rattle.bc_place.specs.bc_machine.World.{FromEach, Origin, World, replay}
use Rattle.bc_seats.proofs.Knowing.{still}
use Rattle.bc_seats.specs.Seats.{Since, Waited}
use Rattle.bc_shares.specs.Shares.{books_of}
use Rattle.bc_shares.specs.Touched.{touches_spine}

-- ---- an event

held_event : (e : Event) (i : ℕ) (b : HeldBucket) (o : Origin) (st : core.State)
    → core.IsEnabled o.opening st e
    → (e.seat ≡ i → leaves_held (number_in b o) e.deed ≡ true) → IsHeldFor i b o st
    → IsHeldFor i b o (core.after o.opening st e)
held_event e i b o st on leaves h =
    let q = number_in b o in
    let was : Stands o.opening.machine.flow.books i q (purpose_of b.purpose)
    ((books_of st.machine).generations.version q) (books_of st.machine) = record {
      held = h.held;
      fresh = h.fresh;
      unnamed = h.unnamed;
      version = refl;
    } in
    let is = event_stands o.opening st e i q (purpose_of b.purpose)
    ((books_of st.machine).generations.version q) on leaves was in record {
      lies = h.lies;
      held = is.held;
      fresh = is.fresh;
      unnamed = is.unnamed;
      generation = h.generation ∙ ap (λ n. n % 256) (sym is.version);
    }

pub law_held : LawHeld
law_held x e i b ne h o is course =
    let before = origin_before x e o is in
    held_event e i b o (replay o x.log) course.0.enabled (λ same. absurd (ne same))
    (h o before course.2)

pub law_held_kept : LawHeldKept
law_held_kept x e b leaves h o is course =
    let before = origin_before x e o is in
    held_event e e.seat b o (replay o x.log) course.0.enabled (λ same. leaves o before course.2)
    (h o before course.2)

pub law_vacant : LawVacant
law_vacant x e b off h o is course =
    let before = origin_before x e o is in
    subst (λ (st : core.State). StayVacant st.machine.whole.parts
    (core.after o.opening st e).machine.whole.parts) (sym (replay_is o x.log))
    (law_nodes_vacant o.opening o.parts o.next_seq (oldest_first x.log) e
    (happens x o e before course.2 course.0.enabled) off)
    (number_in b o) (h o before course.2)

-- ---- a seat

pub held_lasts : (b : HeldBucket) → Lasts (λ i. IsHeldFor i b)
held_lasts b x e i ne h = law_held x e i b ne h

other_lasts : (a b : HeldBucket) → Lasts (λ i. AreOther a b)
other_lasts a b = opening_lasts (λ o. number_in a o ≢ number_in b o)

both_lasts : (P Q : ℕ → Origin → core.State → Type 0) → Lasts P → Lasts Q
    → Lasts (λ i o st. P i o st × Q i o st)
both_lasts P Q a b x e i ne h o is course = (
  a x e i ne (λ o is course. (h o is course).0) o is course,
  b x e i ne (λ o is course. (h o is course).1) o is course,
)

-- a bucket that was let go, and another one
abbrev LetGoBeside : ℕ → HeldBucket → HeldBucket → ℕ → Origin → core.State → Type 0
LetGoBeside n a b i o st = ((o.opening.machine.before ≡ n) × AreOther a b o st)
    × (IsHeldFor i a o st × IsHeldFor i b o st)

beside_lasts : (n : ℕ) (a b : HeldBucket) → Lasts (LetGoBeside n a b)
beside_lasts n a b = both_lasts (λ i o st. (o.opening.machine.before ≡ n) × AreOther a b o st)
    (λ i o st. IsHeldFor i a o st × IsHeldFor i b o st)
    (both_lasts (λ i o st. o.opening.machine.before ≡ n) (λ i. AreOther a b)
    (opening_lasts (λ o. o.opening.machine.before ≡ n)) (other_lasts a b))
    (both_lasts (λ i. IsHeldFor i a) (λ i. IsHeldFor i b) (held_lasts a) (held_lasts b))

-- the deed that lets go one leaves another
leaves_other : (x q : ℕ) → x ≢ q → not (x == q) ≡ true
leaves_other x q ne = by_test x q (λ t. not t ≡ true) (λ same. absurd (ne same)) (λ no. refl)

pub number_of : (n : ℕ) (a : HeldBucket) (o : Origin) → o.opening.machine.before ≡ n → LiesAt a o
    → a.bucket - n ≡ number_in a o
number_of n a o first lies = let is = lies.number in omega (arith, first, is)

module _ {C B : Type 0} (cache_facts : C → DiskFacts) (backing_facts : B → DiskFacts) where
  pub held_since : (v : View cache_facts backing_facts) (x : World)
      → IsCoreSeat cache_facts backing_facts v → Since (m cache_facts backing_facts) v x
      → (b : HeldBucket) → FromEach (world cache_facts backing_facts v) (IsHeldFor v.first b)
      → FromEach x (IsHeldFor v.first b)
  held_since v x seat since b h = since_by cache_facts backing_facts (λ i. IsHeldFor i b)
      (held_lasts b) v x seat since h

  pub vacant_since : (v : View cache_facts backing_facts) (x : World) → Holds v.parts 0
      → Since (m cache_facts backing_facts) v x → (b : HeldBucket)
      → FromEach (world cache_facts backing_facts v) (IsVacantIn b) → FromEach x (IsVacantIn b)
  vacant_since v x holds since b h = still (m cache_facts backing_facts) v x
      (λ y. FromEach y (IsVacantIn b))
      (λ y e may foreign before. law_vacant y e b (foreign.1 0 holds) before) since h

  pub other_since : (v : View cache_facts backing_facts) (x : World)
      → IsCoreSeat cache_facts backing_facts v → Since (m cache_facts backing_facts) v x
      → (a b : HeldBucket) → FromEach (world cache_facts backing_facts v) (AreOther a b)
      → FromEach x (AreOther a b)
  other_since v x seat since a b h = since_by cache_facts backing_facts (λ i. AreOther a b)
      (other_lasts a b) v x seat since h

  -- ---- the seat waited

  pub keeps_waited : (but : Option HeldBucket) (v w : View cache_facts backing_facts)
      → IsCoreSeat cache_facts backing_facts v → Waited (m cache_facts backing_facts) v w
      → KeepsHeldBut cache_facts backing_facts but v w
  keeps_waited but v w seat waited = record {
    held = λ b other h. waited_by cache_facts backing_facts (λ i. IsHeldFor i b) (held_lasts b) v w
        seat waited h;
    vacant = λ holds b h. vacant_since v (world cache_facts backing_facts w) holds waited.since b h;
    other = λ a b h. other_since v (world cache_facts backing_facts w) seat waited.since a b h;
  }

  pub held_borrowed : (v w : View cache_facts backing_facts)
      → IsCoreSeat cache_facts backing_facts v → Waited (m cache_facts backing_facts) v w
      → (b : HeldBucket) → FromEach (world cache_facts backing_facts v) (IsHeldFor v.first b)
      → FromEach (world cache_facts backing_facts w) (IsHeldFor w.first b)
  held_borrowed v w seat waited b h = (keeps_waited None v w seat waited).held b tt h

  pub keeps_nothing : (but : Option HeldBucket) (v : View cache_facts backing_facts)
      → KeepsHeldBut cache_facts backing_facts but v v
  keeps_nothing but v = record {
    held = λ b other h. h;
    vacant = λ holds b h. h;
    other = λ a b h. h;
  }

  -- ---- a deed

  vacant_deed : (v w : View cache_facts backing_facts) (d : Deed) → touches_spine d ≡ false
      → Did cache_facts backing_facts (Some d) v w → Holds v.parts 0 → (b : HeldBucket)
      → FromEach (world cache_facts backing_facts v) (IsVacantIn b)
      → FromEach (world cache_facts backing_facts w) (IsVacantIn b)
  vacant_deed v w d off did holds b h = subst (λ (x : World). FromEach x (IsVacantIn b))
      (sym did.is.state)
      (law_vacant did.is.before (by v.first d) b off (vacant_since v did.is.before holds did.is.since
      b h))

  -- of a bucket of which it is known before the deed
  pub vacant_behind : (v w : View cache_facts backing_facts) (d : Deed) → touches_spine d ≡ false
      → (did : Did cache_facts backing_facts (Some d) v w) → (b : HeldBucket)
      → FromEach did.is.before (IsVacantIn b)
      → FromEach (world cache_facts backing_facts w) (IsVacantIn b)
  vacant_behind v w d off did b h = subst (λ (x : World). FromEach x (IsVacantIn b))
      (sym did.is.state) (law_vacant did.is.before (by v.first d) b off h)

  pub other_deed : (v w : View cache_facts backing_facts) (d : Deed)
      → IsCoreSeat cache_facts backing_facts v → Did cache_facts backing_facts (Some d) v w
      → (a b : HeldBucket) → FromEach (world cache_facts backing_facts v) (AreOther a b)
      → FromEach (world cache_facts backing_facts w) (AreOther a b)
  other_deed v w d seat did a b = made_by cache_facts backing_facts (λ i. AreOther a b)
      (λ i. AreOther a b) (other_lasts a b) v w d seat did (λ o st on h. h)

  -- one that leaves all held buckets alone
  pub held_deed : (v w : View cache_facts backing_facts) (d : Deed)
      → IsCoreSeat cache_facts backing_facts v → ((q : ℕ) → leaves_held q d ≡ true)
      → Did cache_facts backing_facts (Some d) v w → (b : HeldBucket)
      → FromEach (world cache_facts backing_facts v) (IsHeldFor v.first b)
      → FromEach (world cache_facts backing_facts w) (IsHeldFor w.first b)
  held_deed v w d seat leaves did b = made_by cache_facts backing_facts (λ i. IsHeldFor i b)
      (λ i. IsHeldFor i b) (held_lasts b) v w d seat did
      (λ o st on h. held_event (by v.first d) v.first b o st on (λ same. leaves (number_in b o)) h)

  pub keeps_deed : (v w : View cache_facts backing_facts) (d : Deed)
      → IsCoreSeat cache_facts backing_facts v → ((q : ℕ) → leaves_held q d ≡ true)
      → touches_spine d ≡ false → Did cache_facts backing_facts (Some d) v w
      → KeepsHeld cache_facts backing_facts v w
  keeps_deed v w d seat leaves off did = record {
    held = λ b other. held_deed v w d seat leaves did b;
    vacant = vacant_deed v w d off did;
    other = other_deed v w d seat did;
  }

  -- the one that lets a bucket go
  pub keeps_let_go : (v w : View cache_facts backing_facts) (n : ℕ) (a : HeldBucket) (back : Bool)
      → IsCoreSeat cache_facts backing_facts v
      → FromEach (world cache_facts backing_facts v) (HasBefore n)
      → FromEach (world cache_facts backing_facts v) (IsHeldFor v.first a)
      → Did cache_facts backing_facts (Some (let_go_by n a back)) v w
      → KeepsHeldBut cache_facts backing_facts (Some a) v w
  keeps_let_go v w n a back seat first held did = record {
    held = λ b other h. made_by cache_facts backing_facts (LetGoBeside n a b) (λ i. IsHeldFor i b)
        (beside_lasts n a b) v w (let_go_by n a back) seat did
        (λ o st on both. held_event (by v.first (let_go_by n a back)) v.first b o st on
        (λ same. leaves_other (a.bucket - n) (number_in b o)
        (λ e. both.0.1 (sym (number_of n a o both.0.0 both.1.0.lies) ∙ e))) both.1.1)
        (λ o is course. ((first o is course, other o is course), (held o is course, h o is course)));
    vacant = vacant_deed v w (let_go_by n a back) refl did;
    other = other_deed v w (let_go_by n a back) seat did;
  }

  -- ---- one behind the other

  pub keeps_then : (but : Option HeldBucket) (u v w : View cache_facts backing_facts)
      → ((k : ℕ) → Holds u.parts k → Holds v.parts k)
      → KeepsHeld cache_facts backing_facts u v → KeepsHeldBut cache_facts backing_facts but v w
      → ((b : HeldBucket) → IsOther cache_facts backing_facts but b u
      → IsOther cache_facts backing_facts but b v)
      → KeepsHeldBut cache_facts backing_facts but u w
  keeps_then but u v w holds a b others = record {
    held = λ c other h. b.held c (others c other) (a.held c tt h);
    vacant = λ spine c h. b.vacant (holds 0 spine) c (a.vacant spine c h);
    other = λ c d h. b.other c d (a.other c d h);
  }

  pub others_on : (but : Option HeldBucket) (u v : View cache_facts backing_facts)
      → KeepsHeld cache_facts backing_facts u v → (b : HeldBucket)
      → IsOther cache_facts backing_facts but b u → IsOther cache_facts backing_facts but b v
  others_on None u v keeps b other = tt
  others_on (Some a) u v keeps b other = keeps.other a b other

  pub then_keeps : (but : Option HeldBucket) (u v w : View cache_facts backing_facts)
      → ((k : ℕ) → Holds u.parts k → Holds v.parts k)
      → KeepsHeldBut cache_facts backing_facts but u v → KeepsHeld cache_facts backing_facts v w
      → KeepsHeldBut cache_facts backing_facts but u w
  then_keeps but u v w holds a b = record {
    held = λ c other h. b.held c tt (a.held c other h);
    vacant = λ spine c h. b.vacant (holds 0 spine) c (a.vacant spine c h);
    other = λ c d h. b.other c d (a.other c d h);
  }

  -- a bucket that wasn't held before
  pub is_new : (u v w : View cache_facts backing_facts) (b : HeldBucket)
      → KeepsHeld cache_facts backing_facts u v → IsNewBucket cache_facts backing_facts b v w
      → IsNewBucket cache_facts backing_facts b u w
  is_new u v w b keeps new a h = new a (keeps.held a tt h)
