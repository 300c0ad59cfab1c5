-- The journal and the cache device in hand.
use Rattle.std.proofs.Common.{◌≡◌, ◌≢◌, ℕ, ◌*◌, ◌<◌, ◌≤◌, Bool, true, false, List, [], ◌∷◌, Option, Some, None, refl, sym, ap, ◌∙◌, subst, arith}
use Rattle.std.specs.Prelude.{◌==◌, IfSome, is_some, length, nat_le}
use Rattle.std.proofs.lemmas.Bool.{leb-false, leb-true}
use Rattle.bc_disk.specs.Disk.{DiskFacts}
use Rattle.bc_entry.proofs.CacheDevice.{cache_sectors}
use Rattle.bc_entry.specs.Entry.{HasJournalAndCache}
use Rattle.bc_entry.specs.bc_hand.Seats.{HasNoneBehindCache, Kinds, Works, empty, kinds, part_of, world}
use Rattle.bc_entry.specs.bc_hand.declared.hand.Hand.{Hand}
use Rattle.bc_entry.specs.bc_hand.declared.hand.LeafHand.{LeafHand}
use Rattle.bc_entry.proofs.of_bc_hand.Knowing.{View}
use Rattle.bc_journal.specs.Journal.{Journal}
use Rattle.bc_entry.specs.bc_machine.Frame.{by_test}
use Rattle.bc_entry.specs.bc_machine.World.{IsCache, IsJournal, cache_among}
use Rattle.bc_entry.specs.bc_machine.declared.part.CorePart.{CorePart}
use Rattle.bc_parts.specs.Seat.{PartsView, Run}
use Rattle.bc_flush.specs.Sync.{IsOutside, journal_alone, journal_and_cache}

pub some_of : {A : Type 0} (o : Option A) → is_some o ≡ true → (a : A) × (o ≡ Some a)
some_of None is = absurd (cc)
some_of (Some a) is = (a, refl)

pub none_of : {A : Type 0} (o : Option A) → is_some o ≡ false → o ≡ None
none_of None is = refl
none_of (Some a) is = absurd (cc)

no_leaves : (o : Option LeafHand) → part_of o ≡ None → o ≡ None
no_leaves None is = refl
no_leaves (Some l) is = absurd (cc)

empty_of : {A : Type 0} (xs : List A) → length xs ≡ 0 → xs ≡ []
empty_of [] is = refl
empty_of (x ∷ xs) is = absurd (omega (arith, is))

-- a test of a list for elements
pub is_empty_of : {A : Type 0} (xs : List A) (b : Bool) → b ≡ (length xs == 0) → b ≡ true → xs ≡ []
is_empty_of xs b is = subst (λ t. t ≡ true → xs ≡ []) (sym is)
    (by_test (length xs) 0 (λ t. t ≡ true → xs ≡ []) (λ same on. empty_of xs same)
    (λ ne on. absurd (cc)))

pub is_some_of : {A : Type 0} (xs : List A) (b : Bool) → b ≡ (length xs == 0) → b ≡ false → xs ≢ []
is_some_of xs b is off empty_ = absurd (yes_no b (is ∙ ap (λ ys. length ys == 0) empty_) off)
  where
    yes_no : (t : Bool) → t ≡ true → t ≡ false → ⊥
    yes_no t on off = cc

pub same_some : {A : Type 0} (o : Option A) (a b : A) → o ≡ Some a → o ≡ Some b → a ≡ b
same_some o a b is at = let both : Some a ≡ Some b = sym is ∙ at in cc

module _ {C B : Type 0} where
  pub both_in : (h : Hand C B) → kinds h ≡ journal_and_cache → HasJournalAndCache h
  both_in h both = record {
    journal = ap (λ (k : Kinds). k.journal) both;
    cache = ap (λ (k : Kinds). k.cache) both;
  }

  pub none_behind_cache : (h : Hand C B) → kinds h ≡ journal_alone → h.cache ≡ None
      → HasNoneBehindCache h
  none_behind_cache h alone none =
      record { backing = none_of h.backing (ap (λ (k : Kinds). k.backing) alone) }

  -- the journal was taken by an empty hand
  pub journal_taken : (a b c : Hand C B) (j : Journal) → a ≡ empty
      → b ≡ record a { journal = None } → c ≡ record b { journal = Some j }
      → kinds c ≡ journal_alone
  journal_taken a b c j none lent back = ap kinds (back
      ∙ ap (λ (h : Hand C B). record h { journal = Some j })
      (lent ∙ ap (λ (h : Hand C B). record h { journal = None }) none))

  -- and given back by one that has nothing else
  pub journal_given : (a b : Hand C B) → kinds a ≡ journal_alone → b ≡ record a { journal = None }
      → b ≡ empty
  journal_given a b alone back =
      let s : a.spine ≡ None = none_of a.spine (ap (λ (k : Kinds). k.spine) alone) in
      let l : a.leaves ≡ None = no_leaves a.leaves (ap (λ (k : Kinds). k.leaves) alone) in
      let f : a.flight ≡ None = none_of a.flight (ap (λ (k : Kinds). k.flight) alone) in
      let u : a.buckets ≡ None = none_of a.buckets (ap (λ (k : Kinds). k.buckets) alone) in
      let c : a.cache ≡ None = none_of a.cache (ap (λ (k : Kinds). k.cache) alone) in
      let d : a.backing ≡ None = none_of a.backing (ap (λ (k : Kinds). k.backing) alone) in
      back
      ∙ ap (λ o. record a { spine = o; journal = None }) s
      ∙ ap (λ o. record a { spine = None; leaves = o; journal = None }) l
      ∙ ap (λ o. record a { spine = None; leaves = None; flight = o; journal = None }) f
      ∙ ap (λ o. record a {
        spine = None;
        leaves = None;
        flight = None;
        buckets = o;
        journal = None;
      }) u
      ∙ ap (λ o. record a {
        spine = None;
        leaves = None;
        flight = None;
        buckets = None;
        journal = None;
        cache = o;
      }) c
      ∙ ap (λ o. record a {
        spine = None;
        leaves = None;
        flight = None;
        buckets = None;
        journal = None;
        cache = None;
        backing = o;
      }) d

  -- the cache device was taken beside the journal
  pub cache_taken : (a b c : Hand C B) (d : C) → kinds a ≡ journal_alone
      → b ≡ record a { cache = None } → c ≡ record b { cache = Some d }
      → kinds c ≡ journal_and_cache
  cache_taken a b c d alone lent back = ap kinds (back
      ∙ ap (λ (h : Hand C B). record h { cache = Some d }) lent)
      ∙ ap (λ (k : Kinds). record k { cache = true }) alone

  pub cache_given : (a b : Hand C B) → kinds a ≡ journal_and_cache
      → b ≡ record a { cache = None } → kinds b ≡ journal_alone
  cache_given a b both back =
      ap kinds back ∙ ap (λ (k : Kinds). record k { cache = false }) both

  pub journal_same : (a b c : Hand C B) (d : C) → b ≡ record a { cache = None }
      → c ≡ record b { cache = Some d } → c.journal ≡ a.journal
  journal_same a b c d lent back = ap (λ (h : Hand C B). h.journal) back
      ∙ ap (λ (h : Hand C B). h.journal) lent

le_true : (a b : ℕ) → true ≡ nat_le a b → a ≤ b
le_true a b is = leb-true a b (sym is)

lt_false : (a b : ℕ) → false ≡ nat_le a b → b < a
lt_false a b is = leb-false a b (sym is)

module _ {C B : Type 0} (cache_facts : C → DiskFacts) (backing_facts : B → DiskFacts) where
  -- a device in hand has as many sectors as it had
  sectors_in : (p : PartsView (CorePart C B)) (v : View cache_facts backing_facts) (h : Hand C B)
      (c : C) → Works cache_facts backing_facts p v h → h.cache ≡ Some c
      → (cache_facts c).sectors ≡ (cache_among cache_facts backing_facts p.run.start).sectors
  sectors_in p v h c works is = cache_sectors cache_facts backing_facts v c
      (subst (λ (o : Option C). IfSome o (λ d. IsCache {B = B} cache_facts backing_facts d
      (world cache_facts backing_facts v))) is works.stand.cache)
      ∙ ap (λ (r : Run (CorePart C B)). (cache_among cache_facts backing_facts r.start).sectors)
      works.run

  pub journal_stands : (p : PartsView (CorePart C B)) (v : View cache_facts backing_facts)
      (h : Hand C B) (j : Journal) → Works cache_facts backing_facts p v h → h.journal ≡ Some j
      → IsJournal j (world cache_facts backing_facts v)
  journal_stands p v h j works is = subst (λ (o : Option Journal). IfSome o
      (λ k. IsJournal k (world cache_facts backing_facts v))) is works.stand.journal

  abbrev pub Fits : Hand C B → Bool → Type 0
  Fits h b = (j : Journal) (c : C) → h.journal ≡ Some j → h.cache ≡ Some c
      → b ≡ nat_le (j.ring.geometry.bucket * j.ring.geometry.nbuckets) (cache_facts c).sectors

  module _ (p : PartsView (CorePart C B)) (v : View cache_facts backing_facts) (h : Hand C B)
      (works : Works cache_facts backing_facts p v h) (j : Journal) (is : h.journal ≡ Some j)
      (cache : is_some h.cache ≡ true) where
    pub is_on : Fits h true → j.ring.geometry.bucket * j.ring.geometry.nbuckets
        ≤ (cache_among cache_facts backing_facts p.run.start).sectors
    is_on fits = let d = some_of h.cache cache in
        subst (λ n. j.ring.geometry.bucket * j.ring.geometry.nbuckets ≤ n)
        (sectors_in p v h d.0 works d.1) (le_true _ _ (fits j d.0 is d.1))

    pub is_off : Fits h false
        → IsOutside (cache_among cache_facts backing_facts p.run.start).sectors
    is_off fits = let d = some_of h.cache cache in record {
      journal = j;
      outside = subst (λ n. n < j.ring.geometry.bucket * j.ring.geometry.nbuckets)
          (sectors_in p v h d.0 works d.1) (lt_false _ _ (fits j d.0 is d.1));
    }
