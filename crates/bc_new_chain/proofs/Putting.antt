-- An entry with a chain, as steps one behind the other.
use Rattle.std.proofs.Common.{◌≡◌, inl, inr, ℕ, true, List, [], ◌∷◌, Option, None, Some, refl, sym, ap, ◌∙◌, subst}
use Rattle.std.specs.Prelude.{Err, IfErr, Ok, OnErr, OnOk, Result, is_some}
use Rattle.bc_chain.proofs.of_bc_hand.Knowing.{View}
use Rattle.bc_chain.specs.bc_deed.Asked.{IsHalted}
use Rattle.bc_chain.specs.bc_deed.Flushed.{HasDone}
use Rattle.bc_chain.specs.bc_hand.Seats.{Did, kinds, world}
use Rattle.bc_chain.specs.bc_hand.declared.error.StepError.{StepError}
use Rattle.bc_chain.specs.bc_hand.declared.error.StepError.TheVariants as error
use Rattle.bc_chain.specs.bc_hand.declared.hand.Hand.{Hand}
use Rattle.bc_chain.specs.bc_machine.World.{FromEach}
use Rattle.bc_chain.specs.bc_machine.declared.part.BucketsPart.{BucketsPart}
use Rattle.bc_chained.specs.Chained.{IsSealedChain}
use Rattle.bc_chained.specs.bc_renew.Ready.{MayReady}
use Rattle.bc_disk.specs.Disk.{DiskFacts}
use Rattle.bc_entry.proofs.Ending.{with_durable}
use Rattle.bc_entry.proofs.of_bc_deed.Sequence.{done_both, done_one}
use Rattle.bc_entry.specs.Entry.{HasJournalAndCache, IsNewestEntry}
use Rattle.bc_events.specs.declared.event.Deed.{Deed}
use Rattle.bc_events.specs.declared.event.Event.{Event}
use Rattle.bc_journal.specs.Journal.{IsSealed, Journal}
use Rattle.bc_journal.specs.Sealed.{Sealed, heads_of, numbers_of}
use Rattle.bc_new_chain.specs.Put.{GoesOnWith, HasCutBehind, HasCutChain, HasPutBehind, HasPutChain, IsRenewingIn, IsStop, ReadiesChain, put_behind_by}
use Rattle.bc_new_chain.specs.Seal.{HasSealedChain, IsSealedIn, seal_chain_by, with_chain}

-- ---- what is in hand

pub has_both : {C B : Type 0} (h : Hand C B) (j : Journal) (c : C) → h.journal ≡ Some j
    → h.cache ≡ Some c → HasJournalAndCache h
has_both h j c journal cache = record {
  journal = ap is_some journal;
  cache = ap is_some cache;
}

pub same_hand : {C B : Type 0} (h new : Hand C B) → new ≡ h → HasJournalAndCache h
    → HasJournalAndCache new
same_hand h new is both = subst (λ (x : Hand _ _). HasJournalAndCache x) (sym is) both

pub sealed_hand : {C B : Type 0} (h new : Hand C B) (ks : List ℕ) (s : Sealed) (j k : Journal)
    → IsSealedIn h ks s new j k → is_some h.cache ≡ true → HasJournalAndCache new
sealed_hand h new ks s j k is cache = subst (λ (x : Hand _ _). HasJournalAndCache x) (sym is.hand)
    (record { journal = refl; cache = cache })

pub sealed_buckets : {C B : Type 0} (h new : Hand C B) (ks : List ℕ) (s : Sealed) (j k : Journal)
    → IsSealedIn h ks s new j k → is_some new.buckets ≡ true
sealed_buckets h new ks s j k is = ap (λ (x : Hand _ _). is_some x.buckets) is.hand

pub sealed_journal : {C B : Type 0} (h new : Hand C B) (ks : List ℕ) (s : Sealed) (j k : Journal)
    → IsSealedIn h ks s new j k → new.journal ≡ Some k
sealed_journal h new ks s j k is = ap (λ (x : Hand _ _). x.journal) is.hand

pub sealed_kinds : {C B : Type 0} (h new : Hand C B) (ks : List ℕ) (s : Sealed) (j k : Journal)
    → IsSealedIn h ks s new j k → kinds new ≡ kinds h
sealed_kinds h new ks s j k is = ap kinds is.hand
    ∙ ap (λ b. record (kinds h) { buckets = b; journal = true }) (sym (ap is_some is.are_buckets))
    ∙ ap (λ b. record (kinds h) { journal = b }) (sym (ap is_some is.is_journal))

pub numbers_are : (j : Journal) (ks : List ℕ) (s : Sealed) (k : Journal)
    → IsSealed j (with_chain j.heads ks) s k → k.sealed ≡ Some (numbers_of s.entry)
numbers_are j ks s k is = ap (λ (x : Journal). x.sealed) is.journal

-- the entry is on its way, or durable
abbrev pub Behind : {C B : Type 0} → Hand C B → Hand C B → Type 0
Behind a new = new ≡ record a { journal = new.journal; cache = new.cache }

renewing : {C B : Type 0} (h a new : Hand C B) (ks : List ℕ) (s : Sealed) (j k : Journal)
    → IsSealedIn h ks s a j k → Behind a new → IsRenewingIn h new
renewing h a new ks s j k is same = record {
  old = is.buckets;
  then_ = is.renewing;
  was = is.are_buckets;
  now = ap (λ (x : Hand _ _). x.buckets) same ∙ ap (λ (x : Hand _ _). x.buckets) is.hand;
  renews = is.renews;
}

pub renewing_in : {C B E : Type 0} (r : Result (Unit {0}) E) (h a new : Hand C B) (ks : List ℕ)
    (s : Sealed) (j k : Journal) → IsSealedIn h ks s a j k → Behind a new
    → OnOk r (IsRenewingIn h new)
renewing_in (Ok z) h a new ks s j k is same = renewing h a new ks s j k is same
renewing_in (Err e) h a new ks s j k is same = tt

-- and nothing else of the hand has changed
pub rest_put : {C B : Type 0} (h a new : Hand C B) (ks : List ℕ) (s : Sealed) (j k : Journal)
    → IsSealedIn h ks s a j k → Behind a new → new ≡ record h {
      buckets = new.buckets;
      journal = new.journal;
      cache = new.cache;
    }
rest_put h a new ks s j k is same = same
    ∙ ap (λ (x : Hand _ _). record x { journal = new.journal; cache = new.cache }) is.hand
    ∙ ap (λ (b : Option BucketsPart). record h {
      buckets = b;
      journal = new.journal;
      cache = new.cache;
    }) (sym (ap (λ (x : Hand _ _). x.buckets) same ∙ ap (λ (x : Hand _ _). x.buckets) is.hand))

pub rest_same : {C B : Type 0} (h new : Hand C B) → new ≡ h → new ≡ record h {
  buckets = new.buckets;
  journal = new.journal;
  cache = new.cache;
}
rest_same h new is = is ∙ ap (λ (x : Hand _ _). record h {
  buckets = x.buckets;
  journal = x.journal;
  cache = x.cache;
}) (sym is)

goes_on : (j : Journal) (ks : List ℕ) (s : Sealed) (k : Journal)
    → IsSealed j (with_chain j.heads ks) s k → GoesOnWith j ks (with_durable s k)
goes_on j ks s k is = record {
  durable = ap numbers_of is.entry;
  heads = ap heads_of is.entry;
  sealed = refl;
  waiting = ap (λ (x : Journal). x.waiting) is.journal;
  needed = ap (λ (x : Journal). x.needed) is.journal;
  geometry = ap (λ (x : Journal). x.ring.geometry) is.journal;
}

pub journal_put : {C B E : Type 0} (r : Result (Unit {0}) E) (h a new : Hand C B) (ks : List ℕ)
    (s : Sealed) (j k : Journal) → IsSealedIn h ks s a j k
    → OnOk r ((x : Journal) → a.journal ≡ Some x → new.journal ≡ Some (with_durable s x))
    → OnOk r ((x y : Journal) × (h.journal ≡ Some x) × (new.journal ≡ Some y)
    × GoesOnWith x ks y)
journal_put (Ok z) h a new ks s j k is good = (
  j,
  with_durable s k,
  is.is_journal,
  good k (sealed_journal h a ks s j k is),
  goes_on j ks s k is.sealed,
)
journal_put (Err e) h a new ks s j k is good = tt

-- ---- why it came no further

stop_of : (e : StepError) (es : List Event) → IsHalted e es → IsStop e
stop_of (error.Fault device) es h = absurd h
stop_of (error.Halted device) es h = tt
stop_of error.Memory es h = absurd h

module _ {C B : Type 0} (cache_facts : C → DiskFacts) (backing_facts : B → DiskFacts) where
  done_before : (d : Deed) (more : List Deed) (t u v : View cache_facts backing_facts)
      → Did cache_facts backing_facts (Some d) t u → HasDone cache_facts backing_facts more u v
      → HasDone cache_facts backing_facts (d ∷ more) t v
  done_before d more t u v a b = done_both cache_facts backing_facts (d ∷ []) more t u v
      (done_one cache_facts backing_facts (Some d) t u a) b

  -- what the seal said of the chain, and then the entry
  pub next_all : (t u v : View cache_facts backing_facts) (ks : List ℕ) → u.first ≡ t.first
      → FromEach (world cache_facts backing_facts u) (IsSealedChain t.first ks)
      → (r : Result (Unit {0}) StepError)
      → OnOk r (ReadiesChain cache_facts backing_facts u v)
      → OnOk r ((raised : List ℕ)
      → FromEach (world cache_facts backing_facts v) (MayReady t.first raised ks))
  next_all t u v ks same chain (Ok z) readies = λ raised.
      subst (λ n. FromEach (world cache_facts backing_facts v) (MayReady n raised ks)) same
      (readies ks raised (subst (λ n. FromEach (world cache_facts backing_facts u)
      (IsSealedChain n ks)) (sym same) chain))
  next_all t u v ks same chain (Err e) readies = tt

  pub cut_first : (e : StepError) (j : Journal) (ks : List ℕ) (h g : Hand C B)
      (t u : View cache_facts backing_facts) → IsHalted e u.seen → g ≡ h
      → Did cache_facts backing_facts None t u
      → HasCutChain cache_facts backing_facts e j ks h g t u
  cut_first e j ks h g t u halted same did = record {
    deeds = [];
    cut = inl (record { stop = stop_of e u.seen halted; same = same; none = refl });
    done = done_one cache_facts backing_facts None t u did;
  }

  module _ (h new : Hand C B) (ks : List ℕ) (s : Sealed) (j k : Journal)
      (is : IsSealedIn h ks s new j k) (t u v : View cache_facts backing_facts)
      (a : HasSealedChain cache_facts backing_facts j ks s t u) where
    pub put_all : (r : Result (Unit {0}) StepError)
        → OnOk r (HasPutBehind cache_facts backing_facts s u v)
        → OnOk r (FromEach (world cache_facts backing_facts v) (IsNewestEntry s.geometry s.entry))
        → OnOk r ((x : Journal) × (h.journal ≡ Some x)
        × HasPutChain cache_facts backing_facts x ks t v)
    put_all (Ok z) b newest = (
      j,
      is.is_journal,
      record {
        sealed = s;
        behind = k;
        entry = is.sealed;
        rest = a.rest;
        rest_is = a.rest_is;
        chain = a.chain;
        chain_is = a.chain_is;
        values = b.values;
        values_are = b.values_are;
        done = done_before (seal_chain_by j s a.rest a.chain)
            (put_behind_by s b.values) t u v a.did b.done;
        newest = newest;
      },
    )
    put_all (Err e) b newest = tt

    pub cut_all : (z : Hand C B) → Behind new z → (r : Result (Unit {0}) StepError)
        → OnErr r (z.journal ≡ new.journal)
        → IfErr r (λ e. HasCutBehind cache_facts backing_facts e s u v)
        → IfErr r (λ e. (x : Journal) × (h.journal ≡ Some x)
        × HasCutChain cache_facts backing_facts e x ks h z t v)
    cut_all z behind (Ok x) still b = tt
    cut_all z behind (Err e) still b = (
      j,
      is.is_journal,
      record {
        deeds = seal_chain_by j s a.rest a.chain ∷ b.deeds;
        cut = inr (record {
          sealed = s;
          behind = k;
          entry = is.sealed;
          journal = still ∙ sealed_journal h new ks s j k is;
          buckets = renewing h new z ks s j k is behind;
          rest = a.rest;
          rest_is = a.rest_is;
          chain = a.chain;
          chain_is = a.chain_is;
          more = b.deeds;
          cut = b.cut;
          is = refl;
        });
        done = done_before (seal_chain_by j s a.rest a.chain) b.deeds t u v
            a.did b.done;
      },
    )
