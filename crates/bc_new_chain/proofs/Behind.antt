-- The steps behind the seal of an entry with a chain, one behind the other.
use Rattle.std.proofs.Common.{◌≡◌, inl, inr, ℕ, ◌-◌, true, false, List, [], ◌∷◌, Option, Some, None, refl, sym, ap, ◌∙◌, subst, arith}
use Rattle.std.specs.Prelude.{Result, Ok, Err, IfErr, OnErr, OnOk, is_some}
use Rattle.bc_chain.proofs.of_bc_hand.Knowing.{View, m}
use Rattle.bc_chain.proofs.of_bc_place.Knowing.{known_committed}
use Rattle.bc_chain.specs.bc_deed.Asked.{IsHalted}
use Rattle.bc_chain.specs.bc_deed.Flushed.{HasDone}
use Rattle.bc_chain.specs.bc_hand.Seats.{Did, Kinds, Works, by, kinds, numbers, with_leaves, with_part, world}
use Rattle.bc_chain.specs.bc_hand.declared.error.StepError.{StepError}
use Rattle.bc_chain.specs.bc_hand.declared.error.StepError.TheVariants as error
use Rattle.bc_chain.specs.bc_hand.declared.hand.Hand.{Hand}
use Rattle.bc_chain.specs.bc_machine.Standing.{origin_before}
use Rattle.bc_chain.specs.bc_machine.World.{FromEach, Origin, World, replay}
use Rattle.bc_chain.specs.bc_machine.declared.part.CorePart.{CorePart}
use Rattle.bc_chained.specs.Chained.{IsSealedChain, IsSealedNext}
use Rattle.bc_chained.specs.bc_renew.Ready.{MayReady}
use Rattle.bc_disk.specs.Disk.{DiskFacts}
use Rattle.bc_entry.proofs.Ending.{with_durable}
use Rattle.bc_entry.proofs.Holding.{holds_journal}
use Rattle.bc_entry.proofs.of_bc_deed.Sequence.{done_one, done_then}
use Rattle.bc_entry.specs.Entry.{HasJournalAndCache}
use Rattle.bc_entry.specs.Failed.{HasFailedAtCache, HasFailedToWrite, HasWritten}
use Rattle.bc_entry.specs.Put.{failed_barrier, lost_by, write_by}
use Rattle.bc_events.specs.Run as core
use Rattle.bc_events.specs.declared.event.Deed.{Deed}
use Rattle.bc_events.specs.declared.event.Deed.TheVariants as deed
use Rattle.bc_events.specs.declared.event.Event.{Event}
use Rattle.bc_journal.specs.Journal.{Journal}
use Rattle.bc_journal.specs.Sealed.{Sealed}
use Rattle.bc_new_chain.specs.Put.{HasCutBehind, HasPutBehind, IsChainCause, ReadiesChain}
use Rattle.bc_parts.specs.Seat.{Holds, PartsView}
use Rattle.bc_seats.proofs.Knowing.{still}
use Rattle.bc_seats.specs.Seats.{Since}
use Rattle.bc_shares.proofs.Law.{law_buckets, law_journal}
use Rattle.bc_shares.specs.Shares.{BucketsShare, JournalShare, books_of, buckets_in, journal_share}
use Rattle.bc_shares.specs.Touched.{touches_buckets, touches_journal}

-- ---- the journal in hand

pub still_journal : {C B : Type 0} (h new : Hand C B) → new ≡ record h { cache = new.cache }
    → new.journal ≡ h.journal
still_journal h new is = ap (λ (x : Hand _ _). x.journal) is

module _ {C B : Type 0} (cache_facts : C → DiskFacts) (backing_facts : B → DiskFacts) (s : Sealed)
    (u v : View cache_facts backing_facts) where
  abbrev Cut : StepError → View cache_facts backing_facts → Type 0
  Cut e x = HasCutBehind cache_facts backing_facts e s u x

  pub cut_first : (e : StepError) → HasFailedAtCache cache_facts backing_facts e failed_barrier u v
      → Cut e v
  cut_first (error.Fault device) h = record {
    deeds = failed_barrier ∷ [];
    cut = (h.0, inl refl);
    done = done_one cache_facts backing_facts (Some failed_barrier) u v h.1;
  }
  cut_first (error.Halted device) h = record {
    deeds = [];
    cut = inl refl;
    done = done_one cache_facts backing_facts None u v h.1;
  }
  cut_first error.Memory h = absurd h

  module _ (b : Did cache_facts backing_facts (Some deed.CacheBarrier) u v) where
    one : HasDone cache_facts backing_facts (deed.CacheBarrier ∷ []) u v
    one = done_one cache_facts backing_facts (Some deed.CacheBarrier) u v b

    pub cut_write : (e : StepError) (w : View cache_facts backing_facts)
        → HasFailedToWrite cache_facts backing_facts e s v w → Cut e w
    cut_write (error.Fault device) w h = record {
      deeds = deed.CacheBarrier ∷ lost_by s h.1.0 ∷ [];
      cut = (h.0, inr (h.1.0, h.1.1, inl refl));
      done = done_then cache_facts backing_facts (deed.CacheBarrier ∷ []) (Some (lost_by s h.1.0)) u v
          w one h.1.2;
    }
    cut_write (error.Halted device) w h = record {
      deeds = deed.CacheBarrier ∷ [];
      cut = inr (inl refl);
      done = done_then cache_facts backing_facts (deed.CacheBarrier ∷ []) None u v w one h.1;
    }
    cut_write error.Memory w h = absurd h

    module _ (w : View cache_facts backing_facts)
        (d : HasWritten cache_facts backing_facts s v w) where
      abbrev write : Deed
      write = write_by s d.0

      two : HasDone cache_facts backing_facts (deed.CacheBarrier ∷ write ∷ []) u w
      two = done_then cache_facts backing_facts (deed.CacheBarrier ∷ []) (Some write) u v w one d.2

      pub cut_again : (e : StepError) (x : View cache_facts backing_facts)
          → HasFailedAtCache cache_facts backing_facts e failed_barrier w x → Cut e x
      cut_again (error.Fault device) x h = record {
        deeds = deed.CacheBarrier ∷ write ∷ failed_barrier ∷ [];
        cut = (h.0, inr (d.0, d.1, inr refl));
        done = done_then cache_facts backing_facts (deed.CacheBarrier ∷ write ∷ [])
            (Some failed_barrier) u w x two h.1;
      }
      cut_again (error.Halted device) x h = record {
        deeds = deed.CacheBarrier ∷ write ∷ [];
        cut = inr (inr (d.0, d.1, inl refl));
        done = done_then cache_facts backing_facts (deed.CacheBarrier ∷ write ∷ []) None u w x two h.1;
      }
      cut_again error.Memory x h = absurd h

      module _ (x : View cache_facts backing_facts)
          (f : Did cache_facts backing_facts (Some deed.CacheBarrier) w x)
          (y : View cache_facts backing_facts) where
        abbrev most : List Deed
        most = deed.CacheBarrier ∷ write ∷ deed.CacheBarrier ∷ []

        three : HasDone cache_facts backing_facts most u x
        three = done_then cache_facts backing_facts (deed.CacheBarrier ∷ write ∷ [])
            (Some deed.CacheBarrier) u w x two f

        pub all_done : (r : Result (Unit {0}) StepError)
            → OnOk r (Did cache_facts backing_facts (Some deed.Sealed) x y)
            → OnOk r (HasPutBehind cache_facts backing_facts s u y)
        all_done (Ok z) g = record {
          values = d.0;
          values_are = d.1;
          done = done_then cache_facts backing_facts most (Some deed.Sealed) u x y three g;
        }
        all_done (Err e) g = tt

        none_left : (e : StepError) → IsHalted e y.seen
            → Did cache_facts backing_facts None x y → Cut e y
        none_left (error.Fault device) halted h = absurd halted
        none_left (error.Halted device) halted h = record {
          deeds = most;
          cut = inr (inr (d.0, d.1, inr refl));
          done = done_then cache_facts backing_facts most None u x y three h;
        }
        none_left error.Memory halted h = absurd halted

        pub cut_end : (r : Result (Unit {0}) StepError) → IfErr r (λ e. IsHalted e y.seen)
            → OnErr r (Did cache_facts backing_facts None x y) → IfErr r (λ e. Cut e y)
        cut_end (Ok z) halted h = tt
        cut_end (Err e) halted h = none_left e halted h

-- ---- parts in hand

behind_part : {A : Type 0} (n : ℕ) (o : Option A) (ks : List ℕ) (k : ℕ) → Holds ks k
    → Holds (with_part n o ks) k
behind_part n None ks k h = h
behind_part n (Some a) ks k h = inr h

here_part : {A : Type 0} (n : ℕ) (o : Option A) (ks : List ℕ) → is_some o ≡ true
    → Holds (with_part n o ks) n
here_part n None ks is = absurd (cc)
here_part n (Some b) ks is = inl refl

pub holds_buckets : {C B : Type 0} (h : Hand C B) → is_some h.buckets ≡ true
    → Holds (numbers h) 2
holds_buckets h is = behind_part 5 h.backing _ 2 (behind_part 4 h.cache _ 2
    (behind_part 3 h.journal _ 2 (here_part 2 h.buckets
    (with_part 1 h.flight (with_leaves h.leaves (with_part 0 h.spine []))) is)))

-- ---- the chain

-- an event that touches neither the buckets nor the journal
chain_stays : (i : ℕ) (new : List ℕ) (o : Origin) (st : core.State) (e : Event)
    → core.IsEnabled o.opening st e → touches_buckets e.deed ≡ false
    → touches_journal e.deed ≡ false → IsSealedChain i new o st
    → IsSealedChain i new o (core.after o.opening st e)
chain_stays i new o st e on buckets journal h =
    subst (λ (x : BucketsShare). IsSealedNext i new o.opening.machine x
    (journal_share (core.after o.opening st e).machine).counts)
    (sym (law_buckets o.opening st e on buckets).share)
    (subst (λ (x : JournalShare). IsSealedNext i new o.opening.machine
    (buckets_in (books_of st.machine)) x.counts) (sym (law_journal o.opening st e on journal)) h)

-- once the entry is durable
chain_ends : (i j : ℕ) (new raised : List ℕ) (o : Origin) (st : core.State)
    → IsSealedChain i new o st → MayReady i raised new o (core.after o.opening st (by j deed.Sealed))
chain_ends i j new raised o st h = record {
  next = h.next;
  held = h.held;
  durable = let newer = h.next.rest refl in let same = h.newest in omega (arith, newer, same);
  generations = λ q some. h.generations (q - o.opening.machine.before);
}

-- the buckets and the journal are the seat's
pub record HoldsBoth (ks : List ℕ) : Type 0 where
  pub buckets : Holds ks 2
  pub journal : Holds ks 3

module _ {C B : Type 0} (cache_facts : C → DiskFacts) (backing_facts : B → DiskFacts) where
  abbrev Knows : ℕ → List ℕ → View cache_facts backing_facts → Type 0
  Knows i new v = FromEach (world cache_facts backing_facts v) (IsSealedChain i new)

  chain_since : (v : View cache_facts backing_facts) (x : World) (i : ℕ) (new : List ℕ)
      → HoldsBoth v.parts → Since (m cache_facts backing_facts) v x → Knows i new v
      → FromEach x (IsSealedChain i new)
  chain_since v x i new holds since h = still (m cache_facts backing_facts) v x
      (λ y. FromEach y (IsSealedChain i new))
      (λ y e may foreign known o is course.
      let before = origin_before y e o is in
      chain_stays i new o (replay o y.log) e course.0.enabled (foreign.1 2 holds.buckets)
      (foreign.1 3 holds.journal) (known o before course.2)) since h

  -- a deed of the seat that touches neither
  chain_did : (v w : View cache_facts backing_facts) (d : Deed) (i : ℕ) (new : List ℕ)
      → HoldsBoth v.parts → touches_buckets d ≡ false → touches_journal d ≡ false
      → Did cache_facts backing_facts (Some d) v w → Knows i new v → Knows i new w
  chain_did v w d i new holds buckets journal did h =
      subst (λ x. FromEach x (IsSealedChain i new)) (sym did.is.state)
      (λ o is course. let before = origin_before did.is.before (by v.first d) o is in
      chain_stays i new o (replay o did.is.before.log) (by v.first d) course.0.enabled buckets
      journal (chain_since v did.is.before i new holds did.is.since h o before course.2))

  chain_done : (v w : View cache_facts backing_facts) (i : ℕ) (new raised : List ℕ)
      → HoldsBoth v.parts → Did cache_facts backing_facts (Some deed.Sealed) v w → Knows i new v
      → FromEach (world cache_facts backing_facts w) (MayReady i raised new)
  chain_done v w i new raised holds did h = known_committed cache_facts backing_facts v w deed.Sealed
      (MayReady i raised new) did (λ o is course. chain_ends i v.first new raised o
      (replay o did.is.before.log)
      (chain_since v did.is.before i new holds did.is.since h o is course))

  pub readies : (s : Sealed) (u v w x y : View cache_facts backing_facts) → HoldsBoth u.parts
      → HoldsBoth v.parts → HoldsBoth w.parts → HoldsBoth x.parts
      → Did cache_facts backing_facts (Some deed.CacheBarrier) u v
      → HasWritten cache_facts backing_facts s v w
      → Did cache_facts backing_facts (Some deed.CacheBarrier) w x
      → (r : Result (Unit {0}) StepError)
      → OnOk r (Did cache_facts backing_facts (Some deed.Sealed) x y)
      → OnOk r (ReadiesChain cache_facts backing_facts u y)
  readies s u v w x y a b c d first sent second (Ok z) last = λ new raised h.
      chain_done x y u.first new raised d last
      (chain_did w x deed.CacheBarrier u.first new c refl refl second
      (chain_did v w (write_by s sent.0) u.first new b refl refl sent.2
      (chain_did u v deed.CacheBarrier u.first new a refl refl first h)))
  readies s u v w x y a b c d first sent second (Err e) last = tt

  -- a seat that works holds what is in hand
  pub holds_both : (p : PartsView (CorePart C B)) (v : View cache_facts backing_facts)
      (h : Hand C B) → Works cache_facts backing_facts p v h → is_some h.buckets ≡ true
      → is_some h.journal ≡ true → HoldsBoth v.parts
  holds_both p v h works buckets journal = record {
    buckets = subst (λ ks. Holds ks 2) (sym works.parts) (holds_buckets h buckets);
    journal = subst (λ ks. Holds ks 3) (sym works.parts) (holds_journal h journal);
  }

-- ---- what is in hand

-- the kinds that are in hand tell that these are
pub has_both : {C B : Type 0} (h new : Hand C B) → kinds new ≡ kinds h → HasJournalAndCache h
    → HasJournalAndCache new
has_both h new same both = record {
  journal = ap (λ (k : Kinds). k.journal) same ∙ both.journal;
  cache = ap (λ (k : Kinds). k.cache) same ∙ both.cache;
}

-- the journal once the entry is durable
pub journal_ended : {C B E : Type 0} (r : Result (Unit {0}) E) (first : Option Journal)
    (h new : Hand C B) (s : Sealed) → h.journal ≡ first
    → OnOk r ((j : Journal) → h.journal ≡ Some j
    → new ≡ record h { journal = Some (with_durable s j) })
    → OnOk r ((j : Journal) → first ≡ Some j → new.journal ≡ Some (with_durable s j))
journal_ended (Ok z) first h new s same good = λ j is.
    ap (λ (x : Hand _ _). x.journal) (good j (same ∙ is))
journal_ended (Err e) first h new s same good = tt

pub has_buckets : {C B : Type 0} (h new : Hand C B) → kinds new ≡ kinds h
    → is_some h.buckets ≡ true → is_some new.buckets ≡ true
has_buckets h new same is = ap (λ (k : Kinds). k.buckets) same ∙ is

-- the buckets stay
pub still_buckets : {C B : Type 0} (h new : Hand C B) → new ≡ record h { cache = new.cache }
    → new.buckets ≡ h.buckets
still_buckets h new is = ap (λ (x : Hand _ _). x.buckets) is

-- ---- why it came no further

module _ {C B : Type 0} (cache_facts : C → DiskFacts) (backing_facts : B → DiskFacts) where
  pub cause_barrier : (e : StepError) (v w : View cache_facts backing_facts)
      → HasFailedAtCache cache_facts backing_facts e failed_barrier v w → IsChainCause e w.seen
  cause_barrier (error.Fault device) v w h = h.0
  cause_barrier (error.Halted device) v w h = h.0
  cause_barrier error.Memory v w h = absurd h

  pub cause_write : (e : StepError) (s : Sealed) (v w : View cache_facts backing_facts)
      → HasFailedToWrite cache_facts backing_facts e s v w → IsChainCause e w.seen
  cause_write (error.Fault device) s v w h = h.0
  cause_write (error.Halted device) s v w h = h.0
  cause_write error.Memory s v w h = absurd h

pub cause_halt : (e : StepError) (es : List Event) → IsHalted e es → IsChainCause e es
cause_halt (error.Fault device) es h = absurd h
cause_halt (error.Halted device) es h = h
cause_halt error.Memory es h = absurd h

pub cause_end : (r : Result (Unit {0}) StepError) (es : List Event) → IfErr r (λ e. IsHalted e es)
    → IfErr r (λ e. IsChainCause e es)
cause_end (Ok u) es h = tt
cause_end (Err e) es h = cause_halt e es h

-- ---- what of the hand has changed

-- the device alone
pub rest_cache : {C B : Type 0} (h new : Hand C B) → new ≡ record h { cache = new.cache }
    → new ≡ record h { journal = new.journal; cache = new.cache }
rest_cache h new is = is ∙ ap (λ (j : Option Journal). record h {
  journal = j;
  cache = new.cache;
}) (sym (ap (λ (x : Hand _ _). x.journal) is))

-- and again
pub rest_both : {C B : Type 0} (h a new : Hand C B) → a ≡ record h { cache = a.cache }
    → new ≡ record a { cache = new.cache } → new ≡ record h { cache = new.cache }
rest_both h a new first second = second
    ∙ ap (λ (x : Hand _ _). record x { cache = new.cache }) first

-- and at last the journal
pub rest_ended : {C B E : Type 0} (r : Result (Unit {0}) E) (h a new : Hand C B) (s : Sealed)
    (j : Journal) → h.journal ≡ Some j → a ≡ record h { cache = a.cache }
    → OnOk r ((j : Journal) → a.journal ≡ Some j
    → new ≡ record a { journal = Some (with_durable s j) }) → OnErr r (new ≡ a)
    → new ≡ record h { journal = new.journal; cache = new.cache }
rest_ended (Ok z) h a new s j is before good bad =
    let end = good j (ap (λ (x : Hand _ _). x.journal) before ∙ is) in
    end ∙ ap (λ (x : Hand _ _). record x { journal = Some (with_durable s j) }) before
    ∙ ap (λ (x : Hand _ _). record h { journal = x.journal; cache = x.cache })
    (sym (end ∙ ap (λ (x : Hand _ _). record x { journal = Some (with_durable s j) }) before))
rest_ended (Err e) h a new s j is before good bad = rest_cache h new
    (bad ∙ before ∙ ap (λ (x : Hand _ _). record h { cache = x.cache }) (sym bad))

pub still_ended : {C B E : Type 0} (r : Result (Unit {0}) E) (h a new : Hand C B)
    → a ≡ record h { cache = a.cache } → OnErr r (new ≡ a) → OnErr r (new.journal ≡ h.journal)
still_ended (Ok z) h a new before bad = tt
still_ended (Err e) h a new before bad = ap (λ (x : Hand _ _). x.journal) bad
    ∙ ap (λ (x : Hand _ _). x.journal) before
