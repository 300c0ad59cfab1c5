-- An entry as steps one behind the other.
use Rattle.std.proofs.Common.{◌≡◌, inl, inr, true, List, [], ◌∷◌, Option, Some, None, refl, sym, ap, ◌∙◌, subst}
use Rattle.std.specs.Prelude.{Result, Ok, Err, IfErr, OnErr, OnOk, is_some}
use Rattle.bc_disk.specs.Disk.{DiskFacts}
use Rattle.bc_sealing.specs.bc_machine.World.{FromEach}
use Rattle.bc_events.specs.declared.event.Deed.{Deed}
use Rattle.bc_events.specs.declared.event.Deed.TheVariants as deed
use Rattle.bc_events.specs.declared.event.Event.{Event}
use Rattle.bc_deed.specs.bc_hand.Seats.{Did, Kinds, kinds, world}
use Rattle.bc_deed.specs.bc_hand.declared.hand.Hand.{Hand}
use Rattle.bc_deed.specs.bc_hand.declared.error.StepError.{StepError}
use Rattle.bc_deed.specs.bc_hand.declared.error.StepError.TheVariants as error
use Rattle.bc_deed.proofs.of_bc_hand.Knowing.{View}
use Rattle.bc_deed.specs.Asked.{IsHalted, IsHaltedOr}
use Rattle.bc_deed.specs.Flushed.{HasDone}
use Rattle.bc_deed.proofs.Sequence.{done_one, done_then}
use Rattle.bc_journal.specs.Journal.{IsSealed, Journal}
use Rattle.bc_journal.specs.Sealed.{Sealed, heads_of, numbers_of}
use Rattle.bc_entry.specs.Entry.{HasJournalAndCache, IsNewestEntry}
use Rattle.bc_entry.specs.Failed.{HasFailedAtCache, HasFailedToWrite, HasWritten}
use Rattle.bc_entry.specs.Put.{GoesOn, HasCut, HasPut, IsCause, IsCutBehind, IsNoFault, failed_barrier, lost_by, seal_by, write_by}
use Rattle.bc_entry.specs.Seal.{HasSealed}
use Rattle.bc_entry.proofs.Ending.{with_durable}

pub if_err : {A E : Type 0} {P Q : E → Type 0} (r : Result A E) → ((e : E) → P e → Q e)
    → IfErr r P → IfErr r Q
if_err (Ok a) f h = tt
if_err (Err e) f h = f e h

-- ---- what is in hand

pub sealed_hand : {C B : Type 0} (h new : Hand C B) (k : Journal)
    → new ≡ record h { journal = Some k } → HasJournalAndCache h → HasJournalAndCache new
sealed_hand h new k is both = subst (λ (x : Hand _ _). HasJournalAndCache x) (sym is)
    (record { journal = refl; cache = both.cache })

pub has_cache : {C B : Type 0} (h new : Hand C B) → kinds new ≡ kinds h → is_some h.cache ≡ true
    → is_some new.cache ≡ true
has_cache h new same is = ap (λ (k : Kinds). k.cache) same ∙ is

-- the same journal, whatever the device did
still_journal : {C B : Type 0} (h new : Hand C B) → new ≡ record h { cache = new.cache }
    → new.journal ≡ h.journal
still_journal h new is = ap (λ (x : Hand _ _). x.journal) is

pub kept_journal : {C B : Type 0} (h a b c d : Hand C B) (k : Journal)
    → a ≡ record h { journal = Some k } → b ≡ record a { cache = b.cache }
    → c ≡ record b { cache = c.cache } → d ≡ record c { cache = d.cache } → d.journal ≡ Some k
kept_journal h a b c d k sealed first second third = still_journal c d third
    ∙ still_journal b c second ∙ still_journal a b first ∙ ap (λ (x : Hand _ _). x.journal) sealed

pub sealed_numbers_are : (j : Journal) (s : Sealed) (k : Journal)
    → IsSealed j j.heads s k → k.sealed ≡ Some (numbers_of s.entry)
sealed_numbers_are j s k is = ap (λ (x : Journal). x.sealed) is.journal

pub ended_hand : {C B E : Type 0} (r : Result (Unit {0}) E) (h new : Hand C B) (s : Sealed)
    (j : Journal) → h.journal ≡ Some j → is_some h.cache ≡ true
    → OnOk r ((j : Journal) → h.journal ≡ Some j
    → new ≡ record h { journal = Some (with_durable s j) }) → OnErr r (new ≡ h)
    → HasJournalAndCache new
ended_hand (Ok u) h new s j is cache good bad = sealed_hand h new (with_durable s j) (good j is)
    (record { journal = ap is_some is; cache = cache })
ended_hand (Err e) h new s j is cache good bad = subst (λ (x : Hand _ _). HasJournalAndCache x)
    (sym bad) (record { journal = ap is_some is; cache = cache })

-- ---- which kinds are in hand

pub sealed_kinds : {C B : Type 0} (h new : Hand C B) (k : Journal)
    → new ≡ record h { journal = Some k } → is_some h.journal ≡ true → kinds new ≡ kinds h
sealed_kinds h new k is some = ap kinds is
    ∙ ap (λ b. record (kinds h) { journal = b }) (sym some)

pub cache_kinds : {C B : Type 0} (h new : Hand C B) → new ≡ record h { cache = new.cache }
    → is_some h.cache ≡ true → is_some new.cache ≡ true → kinds new ≡ kinds h
cache_kinds h new is was some = ap kinds is
    ∙ ap (λ b. record (kinds h) { cache = b }) (some ∙ sym was)

pub ended_kinds : {C B E : Type 0} (r : Result (Unit {0}) E) (h new : Hand C B) (s : Sealed)
    (j : Journal) → h.journal ≡ Some j
    → OnOk r ((j : Journal) → h.journal ≡ Some j
    → new ≡ record h { journal = Some (with_durable s j) }) → OnErr r (new ≡ h)
    → kinds new ≡ kinds h
ended_kinds (Ok u) h new s j is good bad =
    sealed_kinds h new (with_durable s j) (good j is) (ap is_some is)
ended_kinds (Err e) h new s j is good bad = ap kinds bad

-- ---- the journal behind it

pub goes_on : (j : Journal) (s : Sealed) (k : Journal) → IsSealed j j.heads s k
    → GoesOn j (with_durable s k)
goes_on j s k is = record {
  durable = ap numbers_of is.entry;
  heads = ap heads_of is.entry;
  sealed = refl;
  waiting = ap (λ (x : Journal). x.waiting) is.journal;
  needed = ap (λ (x : Journal). x.needed) is.journal;
  geometry = ap (λ (x : Journal). x.ring.geometry) is.journal;
}

pub journal_put : {C B E : Type 0} (r : Result (Unit {0}) E) (h new : Hand C B)
    (first : Option Journal) (j : Journal) (s : Sealed) (k : Journal)
    → first ≡ Some j → IsSealed j j.heads s k → h.journal ≡ Some k
    → OnOk r ((j : Journal) → h.journal ≡ Some j
    → new ≡ record h { journal = Some (with_durable s j) })
    → OnOk r ((j k : Journal) × (first ≡ Some j) × (new.journal ≡ Some k) × GoesOn j k)
journal_put (Ok u) h new first j s k at is in_hand good = (
  j,
  with_durable s k,
  at,
  ap (λ (x : Hand _ _). x.journal) (good k in_hand),
  goes_on j s k is,
)
journal_put (Err e) h new first j s k at is in_hand good = tt

module _ {C B : Type 0} (cache_facts : C → DiskFacts) (backing_facts : B → DiskFacts) where
  -- ---- why it came no further

  pub cause_barrier : (e : StepError) (v w : View cache_facts backing_facts)
      → HasFailedAtCache cache_facts backing_facts e failed_barrier v w → IsCause e w.seen
  cause_barrier (error.Fault device) v w h = h.0
  cause_barrier (error.Halted device) v w h = h.0
  cause_barrier error.Memory v w h = absurd h

  pub cause_write : (e : StepError) (s : Sealed) (v w : View cache_facts backing_facts)
      → HasFailedToWrite cache_facts backing_facts e s v w → IsCause e w.seen
  cause_write (error.Fault device) s v w h = h.0
  cause_write (error.Halted device) s v w h = h.0
  cause_write error.Memory s v w h = absurd h

  cause_halt : (e : StepError) (es : List Event) → IsHalted e es → IsCause e es
  cause_halt (error.Fault device) es h = absurd h
  cause_halt (error.Halted device) es h = h
  cause_halt error.Memory es h = absurd h

  pub cause_end : (r : Result (Unit {0}) StepError) (es : List Event) → IfErr r (λ e. IsHalted e es)
      → IfErr r (λ e. IsCause e es)
  cause_end (Ok u) es h = tt
  cause_end (Err e) es h = cause_halt e es h

  -- ---- how far it came

  no_fault : (e : StepError) (es : List Event) → IsHaltedOr e es → IsNoFault e
  no_fault (error.Fault device) es h = absurd h
  no_fault (error.Halted device) es h = tt
  no_fault error.Memory es h = tt

  pub cut_seal : (e : StepError) (j : Journal) (t u : View cache_facts backing_facts)
      → IsHaltedOr e u.seen → Did cache_facts backing_facts None t u
      → HasCut cache_facts backing_facts e j t u
  cut_seal e j t u halted h = record {
    deeds = [];
    cut = inl (no_fault e u.seen halted, refl);
    done = done_one cache_facts backing_facts None t u h;
  }

  module _ (j : Journal) (s : Sealed) (k : Journal) (is : IsSealed j j.heads s k)
      (t u : View cache_facts backing_facts) (a : HasSealed cache_facts backing_facts j s t u) where
    abbrev seal : Deed
    seal = seal_by j s a.rest

    abbrev Cut : StepError → View cache_facts backing_facts → Type 0
    Cut e x = HasCut cache_facts backing_facts e j t x

    cut_at : (e : StepError) (more : List Deed) (x : View cache_facts backing_facts)
        → IsCutBehind e s more → HasDone cache_facts backing_facts (seal ∷ more) t x → Cut e x
    cut_at e more x cut done = record {
      deeds = seal ∷ more;
      cut = inr (record {
        sealed = s;
        behind = k;
        entry = is;
        rest = a.rest;
        rest_is = a.rest_is;
        more = more;
        cut = cut;
        is = refl;
      });
      done = done;
    }

    one : HasDone cache_facts backing_facts (seal ∷ []) t u
    one = done_one cache_facts backing_facts (Some seal) t u a.did

    pub cut_barrier : (e : StepError) (v : View cache_facts backing_facts)
        → HasFailedAtCache cache_facts backing_facts e failed_barrier u v → Cut e v
    cut_barrier (error.Fault device) v h =
        cut_at (error.Fault device) (failed_barrier ∷ []) v (h.0, inl refl)
        (done_then cache_facts backing_facts (seal ∷ []) (Some failed_barrier) t u v one h.1)
    cut_barrier (error.Halted device) v h = cut_at (error.Halted device) [] v (inl refl)
        (done_then cache_facts backing_facts (seal ∷ []) None t u v one h.1)
    cut_barrier error.Memory v h = absurd h

    module _ (v : View cache_facts backing_facts)
        (b : Did cache_facts backing_facts (Some deed.CacheBarrier) u v) where
      two : HasDone cache_facts backing_facts (seal ∷ deed.CacheBarrier ∷ []) t v
      two = done_then cache_facts backing_facts (seal ∷ []) (Some deed.CacheBarrier) t u v one b

      none_more : (w : View cache_facts backing_facts) → Did cache_facts backing_facts None v w
          → HasDone cache_facts backing_facts (seal ∷ deed.CacheBarrier ∷ []) t w
      none_more w h = done_then cache_facts backing_facts (seal ∷ deed.CacheBarrier ∷ []) None t v
          w two h

      pub cut_write : (e : StepError) (w : View cache_facts backing_facts)
          → HasFailedToWrite cache_facts backing_facts e s v w → Cut e w
      cut_write (error.Fault device) w h =
          let lost = lost_by s h.1.0 in
          cut_at (error.Fault device) (deed.CacheBarrier ∷ lost ∷ []) w
          (h.0, inr (h.1.0, h.1.1, inl refl))
          (done_then cache_facts backing_facts (seal ∷ deed.CacheBarrier ∷ []) (Some lost) t v w two
          h.1.2)
      cut_write (error.Halted device) w h = cut_at (error.Halted device) (deed.CacheBarrier ∷ []) w
          (inr (inl refl)) (none_more w h.1)
      cut_write error.Memory w h = absurd h

      module _ (w : View cache_facts backing_facts)
          (d : HasWritten cache_facts backing_facts s v w) where
        abbrev write : Deed
        write = write_by s d.0

        three : HasDone cache_facts backing_facts (seal ∷ deed.CacheBarrier ∷ write ∷ []) t w
        three = done_then cache_facts backing_facts (seal ∷ deed.CacheBarrier ∷ []) (Some write) t
            v w
            two d.2

        pub cut_again : (e : StepError) (x : View cache_facts backing_facts)
            → HasFailedAtCache cache_facts backing_facts e failed_barrier w x → Cut e x
        cut_again (error.Fault device) x h = cut_at (error.Fault device)
            (deed.CacheBarrier ∷ write ∷ failed_barrier ∷ []) x
            (h.0, inr (d.0, d.1, inr refl))
            (done_then cache_facts backing_facts (seal ∷ deed.CacheBarrier ∷ write ∷ [])
            (Some failed_barrier) t w x three h.1)
        cut_again (error.Halted device) x h = cut_at (error.Halted device)
            (deed.CacheBarrier ∷ write ∷ []) x (inr (inr (d.0, d.1, inl refl)))
            (done_then cache_facts backing_facts (seal ∷ deed.CacheBarrier ∷ write ∷ []) None t w x
            three h.1)
        cut_again error.Memory x h = absurd h

        module _ (x : View cache_facts backing_facts)
            (f : Did cache_facts backing_facts (Some deed.CacheBarrier) w x)
            (y : View cache_facts backing_facts) where
          abbrev most : List Deed
          most = seal ∷ deed.CacheBarrier ∷ write ∷ deed.CacheBarrier ∷ []

          four : HasDone cache_facts backing_facts most t x
          four = done_then cache_facts backing_facts (seal ∷ deed.CacheBarrier ∷ write ∷ [])
              (Some deed.CacheBarrier) t w x three f

          pub all_done : (r : Result (Unit {0}) StepError)
              → OnOk r (Did cache_facts backing_facts (Some deed.Sealed) x y)
              → OnOk r (FromEach (world cache_facts backing_facts y)
              (IsNewestEntry s.geometry s.entry))
              → OnOk r (HasPut cache_facts backing_facts j t y)
          all_done (Ok z) g knows = record {
            sealed = s;
            behind = k;
            entry = is;
            deeds = seal ∷ deed.CacheBarrier ∷ write ∷ deed.CacheBarrier ∷ deed.Sealed ∷ [];
            put = record {
              rest = a.rest;
              rest_is = a.rest_is;
              values = d.0;
              values_are = d.1;
              is = refl;
            };
            done = done_then cache_facts backing_facts most (Some deed.Sealed) t x y four g;
            newest = knows;
          }
          all_done (Err e) g knows = tt

          none_left : (e : StepError) → IsHalted e y.seen
              → Did cache_facts backing_facts None x y → Cut e y
          none_left (error.Fault device) halted h = absurd halted
          none_left (error.Halted device) halted h = cut_at (error.Halted device)
              (deed.CacheBarrier ∷ write ∷ deed.CacheBarrier ∷ []) y
              (inr (inr (d.0, d.1, inr refl)))
              (done_then cache_facts backing_facts most None t x y four h)
          none_left error.Memory halted h = absurd halted

          pub cut_end : (r : Result (Unit {0}) StepError) → IfErr r (λ e. IsHalted e y.seen)
              → OnErr r (Did cache_facts backing_facts None x y) → IfErr r (λ e. Cut e y)
          cut_end (Ok z) halted h = tt
          cut_end (Err e) halted h = none_left e halted h
