-- Parts that are taken, and given back.
use Rattle.std.proofs.Common.{◌≡◌, true, false, Option, Some, None, refl, ap, ◌∙◌}
use Rattle.std.specs.Prelude.{is_some}
use Rattle.bc_entry.specs.Entry.{HasJournalAndCache}
use Rattle.bc_journal.specs.Journal.{Journal}
use Rattle.bc_leaf_walk.specs.bc_hand.Seats.{HasNoneBehindBuckets, HasNoneBehindCache, HasNoneBehindJournal, Kinds, empty, kinds}
use Rattle.bc_leaf_walk.specs.bc_hand.declared.hand.Hand.{Hand}
use Rattle.bc_leaf_walk.specs.bc_machine.declared.part.BucketsPart.{BucketsPart}
use Rattle.bc_trace.specs.Trace.{all_three, buckets_and_journal}

some_of : {A : Type 0} (o : Option A) → is_some o ≡ true → (a : A) × (o ≡ Some a)
some_of None is = absurd (cc)
some_of (Some a) is = (a, refl)

none_of : {A : Type 0} (o : Option A) → is_some o ≡ false → o ≡ None
none_of None is = refl
none_of (Some a) is = absurd (cc)

module _ {C B : Type 0} where
  pub buckets_back : (a b c : Hand C B) (p : BucketsPart) → b ≡ record a { buckets = None }
      → c ≡ record b { buckets = Some p }
      → (q : BucketsPart) × (c ≡ record a { buckets = Some q })
  buckets_back a b c p lent back =
      (p, back ∙ ap (λ (h : Hand C B). record h { buckets = Some p }) lent)

  pub journal_back : (a b c : Hand C B) (j : Journal) → b ≡ record a { journal = None }
      → c ≡ record b { journal = Some j }
      → (k : Journal) × (c ≡ record a { journal = Some k })
  journal_back a b c j lent back =
      (j, back ∙ ap (λ (h : Hand C B). record h { journal = Some j }) lent)

  -- nothing is in an empty hand
  pub none_behind_buckets : (h : Hand C B) → h ≡ empty → HasNoneBehindBuckets h
  none_behind_buckets h is = record {
    journal = ap (λ (x : Hand C B). x.journal) is;
    cache = ap (λ (x : Hand C B). x.cache) is;
    backing = ap (λ (x : Hand C B). x.backing) is;
  }

  -- nor is a journal in one with the buckets alone
  pub none_behind_journal : (a b : Hand C B) (p : BucketsPart) → a ≡ empty
      → b ≡ record a { buckets = Some p } → HasNoneBehindJournal b
  none_behind_journal a b p none is = record {
    cache = ap (λ (x : Hand C B). x.cache) is ∙ ap (λ (x : Hand C B). x.cache) none;
    backing = ap (λ (x : Hand C B). x.backing) is ∙ ap (λ (x : Hand C B). x.backing) none;
  }

  pub both_taken : (a b c : Hand C B) (p : BucketsPart) (j : Journal) → a ≡ empty
      → b ≡ record a { buckets = Some p } → c ≡ record b { journal = Some j }
      → kinds c ≡ buckets_and_journal
  both_taken a b c p j none is at = ap kinds (at
      ∙ ap (λ (h : Hand C B). record h { journal = Some j }) (is
      ∙ ap (λ (h : Hand C B). record h { buckets = Some p }) none))

  pub has_journal : (h : Hand C B) → kinds h ≡ buckets_and_journal
      → (j : Journal) × (h.journal ≡ Some j)
  has_journal h both = some_of h.journal (ap (λ (k : Kinds). k.journal) both)

  pub has_buckets : (h : Hand C B) → kinds h ≡ buckets_and_journal
      → (p : BucketsPart) × (h.buckets ≡ Some p)
  has_buckets h both = some_of h.buckets (ap (λ (k : Kinds). k.buckets) both)

  pub none_behind_cache : (h : Hand C B) → kinds h ≡ buckets_and_journal → HasNoneBehindCache h
  none_behind_cache h both =
      record { backing = none_of h.backing (ap (λ (k : Kinds). k.backing) both) }

  pub cache_taken : (a b c : Hand C B) (d : C) → kinds a ≡ buckets_and_journal
      → b ≡ record a { cache = None } → c ≡ record b { cache = Some d } → kinds c ≡ all_three
  cache_taken a b c d both lent back = ap kinds (back
      ∙ ap (λ (h : Hand C B). record h { cache = Some d }) lent)
      ∙ ap (λ (k : Kinds). record k { cache = true }) both

  pub cache_given : (a b : Hand C B) → kinds a ≡ all_three → b ≡ record a { cache = None }
      → kinds b ≡ buckets_and_journal
  cache_given a b all back =
      ap kinds back ∙ ap (λ (k : Kinds). record k { cache = false }) all

  pub both_in : (h : Hand C B) → kinds h ≡ all_three → HasJournalAndCache h
  both_in h all = record {
    journal = ap (λ (k : Kinds). k.journal) all;
    cache = ap (λ (k : Kinds). k.cache) all;
  }

  pub kinds_marked : (a b : Hand C B) (p q : BucketsPart) → a.buckets ≡ Some p
      → b ≡ record a { buckets = Some q } → kinds a ≡ buckets_and_journal
      → kinds b ≡ buckets_and_journal
  kinds_marked a b p q is same both = ap kinds same
      ∙ ap (λ (k : Kinds). record k { buckets = true }) both

  pub taken_buckets : (a b : Hand C B) → (p : BucketsPart) × (b ≡ record a { buckets = Some p })
      → (q : BucketsPart) × (b.buckets ≡ Some q)
  taken_buckets a b has = (has.0, ap (λ (h : Hand C B). h.buckets) has.1)

  pub still_buckets : (a b : Hand C B) → kinds a ≡ buckets_and_journal
      → b ≡ record a { journal = None } → (q : BucketsPart) × (b.buckets ≡ Some q)
  still_buckets a b both given = let one = has_buckets a both in
      (one.0, ap (λ (h : Hand C B). h.buckets) given ∙ one.1)
