-- The steps behind the seal of an entry, one behind the other.
use Rattle.std.proofs.Common.{◌≡◌, inl, inr, ◌<◌, true, List, [], ◌∷◌, Option, Some, None, refl, sym, ap, ◌∙◌, subst}
use Rattle.std.specs.Prelude.{Result, Ok, Err, IfErr, OnErr, OnOk, is_some}
use Rattle.bc_disk.specs.Disk.{DiskFacts}
use Rattle.bc_events.specs.declared.event.Deed.{Deed}
use Rattle.bc_events.specs.declared.event.Deed.TheVariants as deed
use Rattle.bc_entry.specs.Entry.{HasJournalAndCache}
use Rattle.bc_entry.specs.Failed.{HasFailedAtCache, HasFailedToWrite, HasWritten}
use Rattle.bc_entry.specs.Put.{failed_barrier, lost_by, write_by}
use Rattle.bc_entry.specs.bc_deed.Asked.{IsHalted}
use Rattle.bc_entry.specs.bc_deed.Flushed.{HasDone}
use Rattle.bc_entry.specs.bc_hand.Seats.{Did, Kinds, Works, kinds, world}
use Rattle.bc_entry.specs.bc_machine.World.{FromEach}
use Rattle.bc_entry.specs.bc_machine.declared.part.CorePart.{CorePart}
use Rattle.bc_entry.specs.bc_hand.declared.hand.Hand.{Hand}
use Rattle.bc_entry.specs.bc_hand.declared.error.StepError.{StepError}
use Rattle.bc_entry.specs.bc_hand.declared.error.StepError.TheVariants as error
use Rattle.bc_entry.proofs.Ending.{with_durable}
use Rattle.bc_entry.proofs.of_bc_deed.Sequence.{done_one, done_then}
use Rattle.bc_entry.proofs.of_bc_hand.Knowing.{View}
use Rattle.bc_journal.specs.Journal.{Journal}
use Rattle.bc_journal.specs.Sealed.{Sealed}
use Rattle.bc_parts.specs.Seat.{Holds, PartsView}
use Rattle.bc_change.specs.Put.{HasCutBehind, HasPutBehind, KeepsByRoot}
use Rattle.bc_change.specs.Under.{IsByRoot}
use Rattle.bc_change.proofs.Seated.{holds_spine}
use Rattle.bc_change.proofs.Staying.{by_root_did, by_root_waited}

-- ---- the journal in hand

pub still_journal : {C B : Type 0} (h new : Hand C B) → new ≡ record h { cache = new.cache }
    → new.journal ≡ h.journal
still_journal h new is = ap (λ (x : Hand _ _). x.journal) is

module _ {C B : Type 0} (cache_facts : C → DiskFacts) (backing_facts : B → DiskFacts) (s : Sealed)
    (u v : View cache_facts backing_facts) where
  abbrev Cut : StepError → View cache_facts backing_facts → Type 0
  Cut e x = HasCutBehind cache_facts backing_facts e s u x

  pub cut_first : (e : StepError) → HasFailedAtCache cache_facts backing_facts e failed_barrier u v
      → Cut e v
  cut_first (error.Fault device) h = record {
    deeds = failed_barrier ∷ [];
    cut = (h.0, inl refl);
    done = done_one cache_facts backing_facts (Some failed_barrier) u v h.1;
  }
  cut_first (error.Halted device) h = record {
    deeds = [];
    cut = inl refl;
    done = done_one cache_facts backing_facts None u v h.1;
  }
  cut_first error.Memory h = absurd h

  module _ (b : Did cache_facts backing_facts (Some deed.CacheBarrier) u v) where
    one : HasDone cache_facts backing_facts (deed.CacheBarrier ∷ []) u v
    one = done_one cache_facts backing_facts (Some deed.CacheBarrier) u v b

    pub cut_write : (e : StepError) (w : View cache_facts backing_facts)
        → HasFailedToWrite cache_facts backing_facts e s v w → Cut e w
    cut_write (error.Fault device) w h = record {
      deeds = deed.CacheBarrier ∷ lost_by s h.1.0 ∷ [];
      cut = (h.0, inr (h.1.0, h.1.1, inl refl));
      done = done_then cache_facts backing_facts (deed.CacheBarrier ∷ []) (Some (lost_by s h.1.0)) u v
          w one h.1.2;
    }
    cut_write (error.Halted device) w h = record {
      deeds = deed.CacheBarrier ∷ [];
      cut = inr (inl refl);
      done = done_then cache_facts backing_facts (deed.CacheBarrier ∷ []) None u v w one h.1;
    }
    cut_write error.Memory w h = absurd h

    module _ (w : View cache_facts backing_facts)
        (d : HasWritten cache_facts backing_facts s v w) where
      abbrev write : Deed
      write = write_by s d.0

      two : HasDone cache_facts backing_facts (deed.CacheBarrier ∷ write ∷ []) u w
      two = done_then cache_facts backing_facts (deed.CacheBarrier ∷ []) (Some write) u v w one d.2

      pub cut_again : (e : StepError) (x : View cache_facts backing_facts)
          → HasFailedAtCache cache_facts backing_facts e failed_barrier w x → Cut e x
      cut_again (error.Fault device) x h = record {
        deeds = deed.CacheBarrier ∷ write ∷ failed_barrier ∷ [];
        cut = (h.0, inr (d.0, d.1, inr refl));
        done = done_then cache_facts backing_facts (deed.CacheBarrier ∷ write ∷ [])
            (Some failed_barrier) u w x two h.1;
      }
      cut_again (error.Halted device) x h = record {
        deeds = deed.CacheBarrier ∷ write ∷ [];
        cut = inr (inr (d.0, d.1, inl refl));
        done = done_then cache_facts backing_facts (deed.CacheBarrier ∷ write ∷ []) None u w x two h.1;
      }
      cut_again error.Memory x h = absurd h

      module _ (x : View cache_facts backing_facts)
          (f : Did cache_facts backing_facts (Some deed.CacheBarrier) w x)
          (y : View cache_facts backing_facts) where
        abbrev most : List Deed
        most = deed.CacheBarrier ∷ write ∷ deed.CacheBarrier ∷ []

        three : HasDone cache_facts backing_facts most u x
        three = done_then cache_facts backing_facts (deed.CacheBarrier ∷ write ∷ [])
            (Some deed.CacheBarrier) u w x two f

        pub all_done : (r : Result (Unit {0}) StepError)
            → OnOk r (Did cache_facts backing_facts (Some deed.Sealed) x y)
            → OnOk r (HasPutBehind cache_facts backing_facts s u y)
        all_done (Ok z) g = record {
          values = d.0;
          values_are = d.1;
          done = done_then cache_facts backing_facts most (Some deed.Sealed) u x y three g;
        }
        all_done (Err e) g = tt

        none_left : (e : StepError) → IsHalted e y.seen
            → Did cache_facts backing_facts None x y → Cut e y
        none_left (error.Fault device) halted h = absurd halted
        none_left (error.Halted device) halted h = record {
          deeds = most;
          cut = inr (inr (d.0, d.1, inr refl));
          done = done_then cache_facts backing_facts most None u x y three h;
        }
        none_left error.Memory halted h = absurd halted

        pub cut_end : (r : Result (Unit {0}) StepError) → IfErr r (λ e. IsHalted e y.seen)
            → OnErr r (Did cache_facts backing_facts None x y) → IfErr r (λ e. Cut e y)
        cut_end (Ok z) halted h = tt
        cut_end (Err e) halted h = none_left e halted h

-- ---- what the seat knows of a change

module _ {C B : Type 0} (cache_facts : C → DiskFacts) (backing_facts : B → DiskFacts) where
  abbrev Keeps : View cache_facts backing_facts → View cache_facts backing_facts → Type 0
  Keeps = KeepsByRoot cache_facts backing_facts

  -- a seat that keeps the tree in hand
  pub record KeepsTree (v : View cache_facts backing_facts) : Type 0 where
    pub spine : Holds v.parts 0
    pub live : v.first < v.end

  pub keeps_barrier : (v w : View cache_facts backing_facts) → KeepsTree v
      → Did cache_facts backing_facts (Some deed.CacheBarrier) v w → Keeps v w
  keeps_barrier v w k did plan c number slot = by_root_did cache_facts backing_facts v k.spine k.live
      plan c number slot w deed.CacheBarrier refl refl did

  pub keeps_end : (v w : View cache_facts backing_facts) → KeepsTree v
      → Did cache_facts backing_facts (Some deed.Sealed) v w → Keeps v w
  keeps_end v w k did plan c number slot = by_root_did cache_facts backing_facts v k.spine k.live
      plan c number slot w deed.Sealed refl refl did

  pub keeps_none : (v w : View cache_facts backing_facts) → KeepsTree v
      → Did cache_facts backing_facts None v w → Keeps v w
  keeps_none v w k did plan c number slot = by_root_waited cache_facts backing_facts v k.spine k.live
      plan c number slot w did

  pub keeps_write : (s : Sealed) (v w : View cache_facts backing_facts) → KeepsTree v
      → HasWritten cache_facts backing_facts s v w → Keeps v w
  keeps_write s v w k did plan c number slot = by_root_did cache_facts backing_facts v k.spine k.live
      plan c number slot w (write_by s did.0) refl refl did.2

  pub keeps_failed : (e : StepError) (v w : View cache_facts backing_facts) → KeepsTree v
      → HasFailedAtCache cache_facts backing_facts e failed_barrier v w → Keeps v w
  keeps_failed (error.Fault device) v w k h = λ plan c number slot.
      by_root_did cache_facts backing_facts v k.spine k.live plan c number slot w failed_barrier refl
      refl h.1
  keeps_failed (error.Halted device) v w k h = keeps_none v w k h.1
  keeps_failed error.Memory v w k h = absurd h

  pub keeps_lost : (e : StepError) (s : Sealed) (v w : View cache_facts backing_facts) → KeepsTree v
      → HasFailedToWrite cache_facts backing_facts e s v w → Keeps v w
  keeps_lost (error.Fault device) s v w k h = λ plan c number slot.
      by_root_did cache_facts backing_facts v k.spine k.live plan c number slot w (lost_by s h.1.0)
      refl refl h.1.2
  keeps_lost (error.Halted device) s v w k h = keeps_none v w k h.1
  keeps_lost error.Memory s v w k h = absurd h

  -- one behind the other, of one seat
  pub keeps_both : (u v w : View cache_facts backing_facts) → v.first ≡ u.first → Keeps u v
      → Keeps v w → Keeps u w
  keeps_both u v w same a b plan c number slot known = subst (λ n. FromEach
      (world cache_facts backing_facts w) (IsByRoot n plan c number slot)) same
      (b plan c number slot (subst (λ n. FromEach (world cache_facts backing_facts v)
      (IsByRoot n plan c number slot)) (sym same) (a plan c number slot known)))

-- ---- what is in hand

-- the kinds that are in hand tell that these are
pub has_both : {C B : Type 0} (h new : Hand C B) → kinds new ≡ kinds h → HasJournalAndCache h
    → HasJournalAndCache new
has_both h new same both = record {
  journal = ap (λ (k : Kinds). k.journal) same ∙ both.journal;
  cache = ap (λ (k : Kinds). k.cache) same ∙ both.cache;
}

pub has_spine : {C B : Type 0} (h new : Hand C B) → kinds new ≡ kinds h → is_some h.spine ≡ true
    → is_some new.spine ≡ true
has_spine h new same is = ap (λ (k : Kinds). k.spine) same ∙ is

some_part : {A : Type 0} (o : Option A) → is_some o ≡ true → (a : A) × (o ≡ Some a)
some_part None is = absurd (cc)
some_part (Some a) is = (a, refl)

-- ---- the rest of the hand

-- a step changed the cache device alone, and so did two
pub cache_then : {C B : Type 0} (a b c : Hand C B) → b ≡ record a { cache = b.cache }
    → c ≡ record b { cache = c.cache } → c ≡ record a { cache = c.cache }
cache_then a b c first second =
    second ∙ ap (λ (x : Hand _ _). record x { cache = c.cache }) first

-- with this journal and this device it is the one that it was
as_it_is : {C B : Type 0} (a b : Hand C B) (j : Option Journal) (d : Option C)
    → b ≡ record a { journal = j; cache = d }
    → b ≡ record a { journal = b.journal; cache = b.cache }
as_it_is a b j d is = is
    ∙ ap (λ (x : Option Journal). record a { journal = x; cache = d })
    (sym (ap (λ (x : Hand _ _). x.journal) is))
    ∙ ap (λ (x : Option _). record a { journal = b.journal; cache = x })
    (sym (ap (λ (x : Hand _ _). x.cache) is))

pub cache_alone : {C B : Type 0} (a b : Hand C B) → b ≡ record a { cache = b.cache }
    → b ≡ record a { journal = b.journal; cache = b.cache }
cache_alone a b is = as_it_is a b a.journal b.cache is

pub rest_ended : {C B E : Type 0} (r : Result (Unit {0}) E) (a b c : Hand C B) (s : Sealed)
    (j : Journal) → b ≡ record a { cache = b.cache } → b.journal ≡ Some j
    → OnOk r ((j : Journal) → b.journal ≡ Some j
    → c ≡ record b { journal = Some (with_durable s j) }) → OnErr r (c ≡ b)
    → c ≡ record a { journal = c.journal; cache = c.cache }
rest_ended (Ok z) a b c s j first is good bad = as_it_is a c (Some (with_durable s j)) b.cache
    (good j is ∙ ap (λ (x : Hand _ _). record x { journal = Some (with_durable s j) }) first)
rest_ended (Err e) a b c s j first is good bad =
    as_it_is a c a.journal b.cache (bad ∙ first)

-- the journal once the entry is durable
pub journal_ended : {C B E : Type 0} (r : Result (Unit {0}) E) (first : Option Journal)
    (h new : Hand C B) (s : Sealed) → h.journal ≡ first
    → OnOk r ((j : Journal) → h.journal ≡ Some j
    → new ≡ record h { journal = Some (with_durable s j) })
    → OnOk r ((j : Journal) → first ≡ Some j → new.journal ≡ Some (with_durable s j))
journal_ended (Ok z) first h new s same good = λ j is.
    ap (λ (x : Hand _ _). x.journal) (good j (same ∙ is))
journal_ended (Err e) first h new s same good = tt

module _ {C B : Type 0} (cache_facts : C → DiskFacts) (backing_facts : B → DiskFacts) where
  pub keeps_tree : (p : PartsView (CorePart C B)) (v : View cache_facts backing_facts) (h : Hand C B)
      → Works cache_facts backing_facts p v h → is_some h.spine ≡ true
      → KeepsTree cache_facts backing_facts v
  keeps_tree p v h works is = let one = some_part h.spine is in record {
    spine = subst (λ ks. Holds ks 0) (sym works.parts) (holds_spine h one.0 one.1);
    live = works.seat.seat.live;
  }

  pub keeps_any : (r : Result (Unit {0}) StepError) (v w : View cache_facts backing_facts)
      → KeepsTree cache_facts backing_facts v
      → OnOk r (Did cache_facts backing_facts (Some deed.Sealed) v w)
      → OnErr r (Did cache_facts backing_facts None v w) → KeepsByRoot cache_facts backing_facts v w
  keeps_any (Ok z) v w k good bad = keeps_end cache_facts backing_facts v w k good
  keeps_any (Err e) v w k good bad = keeps_none cache_facts backing_facts v w k bad
