-- An entry with a new root as steps one behind the other.
use Rattle.std.proofs.Common.{◌≡◌, inl, inr, ℕ, ◌*◌, ◌≤◌, true, List, [], ◌∷◌, Option, Some, None, refl, sym, ap, ◌∙◌, subst}
use Rattle.std.specs.Prelude.{Result, Ok, Err, IfErr, OnOk, is_some}
use Rattle.bc_change.specs.Put.{HasCutBehind, HasPutBehind, KeepsByRoot}
use Rattle.bc_change.specs.Root.{HasSealedRoot, IsUnheard}
use Rattle.bc_change.specs.Under.{IsByRoot}
use Rattle.bc_disk.specs.Disk.{DiskFacts}
use Rattle.bc_disk.specs.declared.disk.Device.{Device}
use Rattle.bc_disk.specs.declared.geometry.Geometry.{Geometry}
use Rattle.bc_change.specs.bc_entry.Entry.{IsNewestEntry}
use Rattle.bc_change.specs.bc_entry.Put.{IsCause, IsNoFault}
use Rattle.bc_change.specs.bc_deed.Asked.{IsHaltedOr}
use Rattle.bc_change.specs.bc_deed.Flushed.{HasDone}
use Rattle.bc_change.specs.bc_hand.Seats.{Did, IsCoreSeat, View, world}
use Rattle.bc_change.specs.bc_hand.declared.error.StepError.{StepError}
use Rattle.bc_change.specs.bc_hand.declared.error.StepError.TheVariants as error
use Rattle.bc_change.specs.bc_hand.declared.hand.Hand.{Hand}
use Rattle.bc_change.specs.bc_machine.World.{FromEach}
use Rattle.bc_change.proofs.of_bc_entry.Ending.{with_durable}
use Rattle.bc_change.proofs.of_bc_deed.May.{did_nothing}
use Rattle.bc_change.proofs.of_bc_deed.Sequence.{done_both, done_one}
use Rattle.bc_events.specs.declared.event.Change.{Change}
use Rattle.bc_events.specs.declared.event.Deed.{Deed}
use Rattle.bc_events.specs.declared.event.Event.{Event}
use Rattle.bc_journal.specs.Journal.{IsSealed, Journal}
use Rattle.bc_journal.specs.Sealed.{Sealed, heads_of, numbers_of}
use Rattle.bc_journal.specs.declared.heads.Heads.{Heads}
use Rattle.bc_tree.specs.declared.plan.Plan.{Plan}
use Rattle.bc_install.specs.RootPut.{GoesOnWith, HasCutRoot, HasNotSealed, HasPutRoot, IsSealedThen, durable_by, seal_by}

-- ---- the hand

pub sealed_numbers_are : (j : Journal) (heads : Heads) (s : Sealed) (k : Journal)
    → IsSealed j heads s k → k.sealed ≡ Some (numbers_of s.entry)
sealed_numbers_are j heads s k is = ap (λ (x : Journal). x.sealed) is.journal

pub goes_on_with : (j : Journal) (heads : Heads) (s : Sealed) (k : Journal) → IsSealed j heads s k
    → GoesOnWith j heads (with_durable s k)
goes_on_with j heads s k is = record {
  durable = ap numbers_of is.entry;
  heads_are = ap heads_of is.entry;
  sealed = refl;
  waiting = ap (λ (x : Journal). x.waiting) is.journal;
  needed = ap (λ (x : Journal). x.needed) is.journal;
  geometry = ap (λ (x : Journal). x.ring.geometry) is.journal;
}

pub same_spine : {C B : Type 0} (h new : Hand C B) (k : Journal)
    → new ≡ record h { journal = Some k } → is_some h.spine ≡ true → is_some new.spine ≡ true
same_spine h new k is some = ap (λ (x : Hand _ _). is_some x.spine) is ∙ some

pub same_sectors : (a b : Geometry) (n : ℕ) → b ≡ a → a.bucket * a.nbuckets ≤ n
    → b.bucket * b.nbuckets ≤ n
same_sectors a b n is few = subst (λ (g : Geometry). g.bucket * g.nbuckets ≤ n) (sym is) few

-- the same journal
pub same_journal : (o : Option Journal) (j k : Journal) → o ≡ Some j → o ≡ Some k → j ≡ k
same_journal o j k a b = let both : Some j ≡ Some k = sym a ∙ b in cc

-- a step changed the journal, and another one the journal and the device
pub rest_then : {C B : Type 0} (a b c : Hand C B) (k : Journal)
    → b ≡ record a { journal = Some k } → c ≡ record b { journal = c.journal; cache = c.cache }
    → c ≡ record a { journal = c.journal; cache = c.cache }
rest_then a b c k first second =
    second ∙ ap (λ (x : Hand _ _). record x { journal = c.journal; cache = c.cache }) first

pub rest_none : {C B : Type 0} (a b : Hand C B) → b ≡ a
    → b ≡ record a { journal = b.journal; cache = b.cache }
rest_none a b is = is
    ∙ ap (λ (x : Option Journal). record a { journal = x })
    (sym (ap (λ (x : Hand _ _). x.journal) is))
    ∙ ap (λ (x : Option _). record a { journal = b.journal; cache = x })
    (sym (ap (λ (x : Hand _ _). x.cache) is))

pub journal_put : {E : Type 0} (r : Result (Unit {0}) E) (first middle last : Option Journal)
    (j : Journal) (heads : Heads) (s : Sealed) (k : Journal) → first ≡ Some j
    → IsSealed j heads s k → middle ≡ Some k
    → OnOk r ((x : Journal) → middle ≡ Some x → last ≡ Some (with_durable s x))
    → OnOk r ((j k : Journal) × (first ≡ Some j) × (last ≡ Some k) × GoesOnWith j heads k)
journal_put (Ok u) first middle last j heads s k at is here good =
    (j, with_durable s k, at, good k here, goes_on_with j heads s k is)
journal_put (Err e) first middle last j heads s k at is here good = tt

-- ---- deeds

module _ {C B : Type 0} (cache_facts : C → DiskFacts) (backing_facts : B → DiskFacts) where
  -- a step that gave up before it did anything
  pub unsealed : (e : StepError) (v : View cache_facts backing_facts) (h : Hand C B)
      → IsNoFault e → IsCoreSeat cache_facts backing_facts v
      → HasNotSealed cache_facts backing_facts e h h v v
  unsealed e v h no_fault seat = record {
    no_fault = no_fault;
    same = refl;
    did = did_nothing cache_facts backing_facts v seat;
  }

module _ {C B : Type 0} (cache_facts : C → DiskFacts) (backing_facts : B → DiskFacts)
    (j : Journal) (heads : Heads) (slot : ℕ) (c : Change)
    (t : View cache_facts backing_facts) where
  no_fault : (e : StepError) (es : List Event) → IsHaltedOr e es → IsNoFault e
  no_fault (error.Fault device) es h = absurd h
  no_fault (error.Halted device) es h = tt
  no_fault error.Memory es h = tt

  -- behind the seal there is never want of memory
  unheard_behind : (e : StepError) (s : Sealed) (v w : View cache_facts backing_facts)
      (heard : Option Device) → HasCutBehind cache_facts backing_facts e s v w
      → IsUnheard e heard
  unheard_behind (error.Fault device) s v w heard h = tt
  unheard_behind (error.Halted device) s v w heard h = tt
  unheard_behind error.Memory s v w heard h = absurd h.cut

  pub unheard_put : (r : Result (Unit {0}) StepError) (s : Sealed)
      (v w : View cache_facts backing_facts) (heard : Option Device)
      → IfErr r (λ e. HasCutBehind cache_facts backing_facts e s v w)
      → IfErr r (λ e. IsUnheard e heard)
  unheard_put (Ok z) s v w heard h = tt
  unheard_put (Err e) s v w heard h = unheard_behind e s v w heard h

  pub cause_seal : (e : StepError) (es : List Event) → IsHaltedOr e es → IsCause e es
  cause_seal (error.Fault device) es h = absurd h
  cause_seal (error.Halted device) es h = h
  cause_seal error.Memory es h = tt

  pub cut_seal : (e : StepError) (u : View cache_facts backing_facts) (a b : Hand C B)
      → IsHaltedOr e u.seen → Did cache_facts backing_facts None t u → b ≡ a
      → HasCutRoot cache_facts backing_facts e j heads slot c a b t u
  cut_seal e u a b halted h same = inl (record {
    no_fault = no_fault e u.seen halted;
    same = same;
    did = h;
  })

  module _ (u w : View cache_facts backing_facts) (s : Sealed) (k : Journal)
      (is : IsSealed j heads s k) (a : HasSealedRoot cache_facts backing_facts j s slot c t u) where
    abbrev seal : Deed
    seal = seal_by j s a.rest slot c

    one : HasDone cache_facts backing_facts (seal ∷ []) t u
    one = done_one cache_facts backing_facts (Some seal) t u a.did

    abbrev sealed_then : (more : List Deed) → IsSealedThen j heads slot c (seal ∷ more)
    sealed_then more = record {
      sealed = s;
      behind = k;
      entry = is;
      rest = a.rest;
      rest_is = a.rest_is;
      more = more;
      is = refl;
    }

    pub cut_behind : (r : Result (Unit {0}) StepError) (a b : Hand C B)
        → IfErr r (λ e. HasCutBehind cache_facts backing_facts e s u w)
        → IfErr r (λ e. HasCutRoot cache_facts backing_facts e j heads slot c a b t w)
    cut_behind (Ok z) a b h = tt
    cut_behind (Err e) a b h = inr (record {
      deeds = seal ∷ h.deeds;
      cut = record { at = sealed_then h.deeds; cut = h.cut };
      done = done_both cache_facts backing_facts (seal ∷ []) h.deeds t u w one h.done;
    })

    module _ (plan : Plan) (keeps : KeepsByRoot cache_facts backing_facts u w)
        (known : FromEach (world cache_facts backing_facts u)
        (IsByRoot t.first plan c s.entry.seq slot)) where
      under : FromEach (world cache_facts backing_facts w)
          (IsByRoot t.first plan c s.entry.seq slot)
      under = let same = a.did.is.same.first in
          subst (λ n. FromEach (world cache_facts backing_facts w)
          (IsByRoot n plan c s.entry.seq slot)) same
          (keeps plan c s.entry.seq slot
          (subst (λ n. FromEach (world cache_facts backing_facts u)
          (IsByRoot n plan c s.entry.seq slot)) (sym same) known))

      pub has_put : (r : Result (Unit {0}) StepError)
          → OnOk r (HasPutBehind cache_facts backing_facts s u w)
          → OnOk r (FromEach (world cache_facts backing_facts w)
          (IsNewestEntry s.geometry s.entry))
          → OnOk r (HasPutRoot cache_facts backing_facts j heads slot plan c t w)
      has_put (Ok z) h newest = record {
        deeds = seal ∷ durable_by s h.values;
        at = sealed_then (durable_by s h.values);
        values = h.values;
        values_are = h.values_are;
        more_is = refl;
        done = done_both cache_facts backing_facts (seal ∷ []) (durable_by s h.values) t u w one
            h.done;
        newest = newest;
        under = under;
      }
      has_put (Err e) h newest = tt
