-- What the calls of an opening and of a closing leave.
use Rattle.std.proofs.Common.{◌≡◌, ◌⊎◌, inl, inr, ℕ, zero, suc, ◌+◌, ◌<◌, ◌≤◌, true, false, List, [], ◌∷◌, Option, Some, None, refl, sym, ap, ◌∙◌, subst, arith}
use Rattle.std.specs.Prelude.{Result, Ok, Err, OnErr, OnOk, is_err}
use Rattle.bc_model.specs.Sector.{Image}
use Rattle.bc_disk.specs.Device.{next_count}
use Rattle.bc_disk.specs.Disk.{BothTold, DiskFacts, IsKept, IsSettled}
use Rattle.bc_entered.specs.Laws.{IsSameImage}
use Rattle.bc_image.specs.Pair.{Pair}
use Rattle.bc_recover.specs.Read.{IsReadOf}
use Rattle.bc_replay.specs.declared.held.Survey.{Survey}
use Rattle.bc_state.specs.State.{super_in}
use Rattle.bc_super.specs.Super.{data_sectors}
use Rattle.bc_super.specs.Writing.{AreCounted, IsBackingStored, IsBackingTorn, count_after}
use Rattle.bc_super.specs.declared.backing.BackingSuper.{BackingSuper}
use Rattle.bc_super.specs.declared.state.BackingState.{BackingState}
use Rattle.bc_super.specs.declared.state.BackingState.TheVariants as states
use Rattle.bc_bucket.specs.Buckets.{Buckets}
use Rattle.bc_open.specs.Close.{HasDirty, IsCleanOf, IsClosed}
use Rattle.bc_open.specs.Idle.{HasIdled, MayBeLeft}
use Rattle.bc_open.specs.Left.{ChangesState, IsStill}
use Rattle.bc_open.specs.Open.{HasFailed, HasOpened}
use Rattle.bc_open.specs.declared.open.Opened.{Opened}
use Rattle.bc_open.proofs.Marked.{to_live, to_mark}
use Rattle.bc_open.proofs.States.{changes_again, changes_from, changes_wider, stored_again, stored_behind, stored_leaves, stored_settled, torn_leaves}

pub kept_self : (d : DiskFacts) → IsKept d d
kept_self d = record {
  sectors = refl;
  holds = go d.holds;
  leaves = λ image. ((λ may. may), (λ may. may));
}
  where
    go : (o : Option Image) → BothTold IsSameImage o o
    go None = tt
    go (Some image) = λ s. refl

-- ---- counts

pub count_shift : (k n : ℕ) → count_after k (next_count n) ≡ next_count (count_after k n)
count_shift zero n = refl
count_shift (suc k) n = ap next_count (count_shift k n)

count_more : (k n : ℕ) → count_after k (count_after 2 n) ≡ count_after (k + 2) n
count_more zero n = refl
count_more (suc k) n =
    let up : suc (k + 2) ≡ suc k + 2 = omega arith in
    let more : next_count (count_after k (count_after 2 n)) ≡ next_count (count_after (k + 2) n) =
    ap next_count (count_more k n) in
    more ∙ ap (λ m. count_after m n) up

module _ {E : Type 0} (n : ℕ) (r : Result (Unit {0}) E) (old new : DiskFacts) where
  pub failed_of : is_err r ≡ true → AreCounted n r old new → HasFailed n old new
  failed_of = go r
    where
      go : (r : Result (Unit {0}) E) → is_err r ≡ true → AreCounted n r old new → HasFailed n old new
      go (Ok u) bad counts = absurd (cc)
      go (Err e) bad counts = record { calls = counts.0; faults = counts.1 }

  pub good_of : is_err r ≡ false → AreCounted n r old new
      → (new.calls ≡ count_after n old.calls) × (new.faults ≡ old.faults)
  good_of = go r
    where
      go : (r : Result (Unit {0}) E) → is_err r ≡ false → AreCounted n r old new
          → (new.calls ≡ count_after n old.calls) × (new.faults ≡ old.faults)
      go (Ok u) good counts = (counts.0, counts.1)
      go (Err e) good counts = absurd (cc)

module _ {E : Type 0} (P : Type 0) where
  pub on_err : (r : Result (Unit {0}) E) → is_err r ≡ true → OnErr r P → P
  on_err (Ok u) bad so = absurd (cc)
  on_err (Err e) bad so = so

  pub on_ok : (r : Result (Unit {0}) E) → is_err r ≡ false → OnOk r P → P
  on_ok (Ok u) good so = so
  on_ok (Err e) good so = absurd (cc)

-- one call before, and then one of two failed
pub failed_behind : (old mid new : DiskFacts) → mid.calls ≡ next_count old.calls
    → mid.faults ≡ old.faults → HasFailed 2 mid new → HasFailed 3 old new
failed_behind old mid new calls faults failed =
    let (k, some, most, is) = failed.calls in
    record {
      calls = (
        suc k,
        omega arith,
        omega (arith, most),
        is ∙ ap (λ n. count_after k n) calls ∙ count_shift k old.calls,
      );
      faults = failed.faults ∙ ap next_count faults;
    }

-- two before, and then one of three
pub failed_more : (old mid new : DiskFacts) → mid.calls ≡ count_after 2 old.calls
    → mid.faults ≡ old.faults → HasFailed 3 mid new → HasFailed 5 old new
failed_more old mid new calls faults failed =
    let (k, some, most, is) = failed.calls in
    record {
      calls = (
        k + 2,
        omega arith,
        omega (arith, most),
        is ∙ ap (λ n. count_after k n) calls ∙ count_more k old.calls,
      );
      faults = failed.faults ∙ ap next_count faults;
    }

-- ---- the closing

module _ {E : Type 0} (b : BackingSuper) (old mid new : DiskFacts) (settled : IsSettled old mid) where
  pub closed_clean : (r : Result (Unit {0}) E) (buckets : Buckets) → (HasDirty buckets → ⊥)
      → mid.calls ≡ next_count old.calls
      → OnOk r (IsBackingStored (super_in states.Clean b) mid new) → AreCounted 2 r mid new
      → OnOk r (IsClosed b buckets old new)
  closed_clean (Ok u) buckets none calls stored counts = inr (
    none,
    (stored.0, stored.1, stored_behind stored.0 old mid new settled stored.2),
    counts.0 ∙ ap (λ n. next_count (next_count n)) calls,
  )
  closed_clean (Err e) buckets none calls stored counts = tt

  pub closing_failed : (r : Result (Unit {0}) E) → mid.calls ≡ next_count old.calls
      → mid.faults ≡ old.faults → AreCounted 2 r mid new → OnErr r (HasFailed 3 old new)
  closing_failed (Ok u) calls faults counts = tt
  closing_failed (Err e) calls faults counts = failed_behind old mid new calls faults
      (record { calls = counts.0; faults = counts.1 })

  pub closing_leaves : (r : Result (Unit {0}) E) (buckets : Buckets) → (HasDirty buckets → ⊥)
      → OnOk r (IsBackingStored (super_in states.Clean b) mid new)
      → OnErr r (IsBackingTorn (super_in states.Clean b) mid new)
      → ChangesState (IsCleanOf buckets) b old new
  closing_leaves (Ok u) buckets none stored torn =
      changes_from (IsCleanOf buckets) b old mid new settled.holds
      (stored_leaves (IsCleanOf buckets) b mid new states.Clean (refl, none) tt stored)
  closing_leaves (Err e) buckets none stored torn =
      changes_from (IsCleanOf buckets) b old mid new settled.holds
      (torn_leaves (IsCleanOf buckets) b mid new states.Clean (refl, none) tt torn settled.leaves)

-- ---- both

-- an opening alone leaves no more than one with a closing
pub dirty_left : (s : Survey) (b : BackingSuper) (old new : DiskFacts)
    → ChangesState (λ (state : BackingState). state ≡ states.Dirty) b old new
    → ChangesState (MayBeLeft s) b old new
dirty_left s b old new changes = changes_wider (λ (state : BackingState). state ≡ states.Dirty)
    (MayBeLeft s) (λ state is. subst (MayBeLeft s) (sym is) tt) b old new changes

module _ {C : Type 0} (facts : C → DiskFacts) (s : Survey) (b : BackingSuper) (cache cache' : C)
    (backing mid backing' : DiskFacts) (o : Opened)
    (opened : HasOpened facts s b cache cache' backing mid o) where
  pub still_open : IsStill mid
  still_open = opened.state.2.leaves

  -- where no bucket is marked as dirty, the pair has no such data
  none_live : (HasDirty o.buckets → ⊥) → MayBeLeft s states.Clean
  none_live clean = λ p h k live. clean (to_mark h.view.geometry h.view.reading o.buckets
      (opened.parts.known p h) (data_sectors p.backing_sectors h.view.backing) h.openable.pointers
      h.openable.once k live)

  closing_may : (state : BackingState) → IsCleanOf o.buckets state → MayBeLeft s state
  closing_may state may = subst (MayBeLeft s) (sym may.0) (none_live may.1)

  -- what the closing leaves behind the opening
  pub idle_leaves : ChangesState (IsCleanOf o.buckets) b mid backing'
      → ChangesState (MayBeLeft s) b backing backing'
  idle_leaves changes = changes_again (MayBeLeft s) b backing mid backing' states.Dirty tt tt opened.state
      (changes_wider (IsCleanOf o.buckets) (MayBeLeft s) closing_may b mid backing' changes)

  pub idled : IsClosed b o.buckets mid backing' → backing'.faults ≡ mid.faults
      → HasIdled facts s b cache cache' backing backing'
  idled (inl (dirty, settled, calls)) faults = record {
    between = opened.between;
    kept = opened.kept;
    good = opened.good;
    journal = o.journal;
    entered = opened.entered;
    state = states.Dirty;
    cached = tt;
    is = λ p h. to_live h.view.geometry h.view.reading o.buckets (opened.parts.known p h) dirty;
    bytes = opened.state.0;
    sector = opened.state.1;
    stored = stored_settled opened.state.0 backing mid backing' opened.state.2 settled;
    calls = calls ∙ ap next_count opened.calls;
    faults = faults ∙ opened.faults;
  }
  idled (inr (clean, stored, calls)) faults = record {
    between = opened.between;
    kept = opened.kept;
    good = opened.good;
    journal = o.journal;
    entered = opened.entered;
    state = states.Clean;
    cached = tt;
    is = none_live clean;
    bytes = stored.0;
    sector = stored.1;
    stored = stored_again opened.state.0 stored.0 backing mid backing' opened.state.2 stored.2;
    calls = calls ∙ ap (λ n. count_after 3 n) opened.calls;
    faults = faults ∙ opened.faults;
  }
