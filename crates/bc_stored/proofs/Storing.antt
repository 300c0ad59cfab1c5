-- One place that is given, written, and kept or let go.
use Rattle.std.proofs.Common.{◌≡◌, inr, ℕ, List, length, take, None, sym, ap, subst}
use Rattle.bc_disk.specs.Disk.{DiskFacts}
use Rattle.bc_fill.specs.declared.fill.Placed.{Placed}
use Rattle.bc_insert.specs.bc_hand.Seats.{HasNoneBehindBuckets, HasNoneBehindCache, empty}
use Rattle.bc_insert.specs.bc_hand.declared.hand.Hand.{Hand}
use Rattle.bc_insert.proofs.of_bc_hand.Knowing.{View}
use Rattle.bc_model.specs.Sector.{Value}
use Rattle.bc_insert.specs.bc_place.Place.{HasGiven}
use Rattle.bc_insert.specs.bc_place.Written.{HasUnpinned, IsNew, KeepsPlaces}
use Rattle.bc_insert.proofs.of_bc_place.Keeping.{opening_both}
use Rattle.bc_stored.specs.Stored.{HasNotWritten, KeepsOwn, WhyNotStored}
use Rattle.bc_stored.specs.declared.error.StoreError.{StoreError}
use Rattle.bc_stored.specs.declared.error.StoreError.TheVariants as error

-- with nothing in hand each part may be taken
pub buckets_next : {C B : Type 0} (h : Hand C B) → h ≡ empty → h.buckets ≡ None
    → HasNoneBehindBuckets h
buckets_next {C} {B} h is none = record {
  journal = ap (λ (x : Hand C B). x.journal) is;
  cache = ap (λ (x : Hand C B). x.cache) is;
  backing = ap (λ (x : Hand C B). x.backing) is;
}

pub cache_next : {C B : Type 0} (h : Hand C B) → h ≡ empty → h.cache ≡ None → HasNoneBehindCache h
cache_next {C} {B} h is none = record { backing = ap (λ (x : Hand C B). x.backing) is }

module _ {C B : Type 0} (cache_facts : C → DiskFacts) (backing_facts : B → DiskFacts) where
  pub keeps_own : (v w : View cache_facts backing_facts) → KeepsPlaces cache_facts backing_facts v w
      → KeepsOwn cache_facts backing_facts v w
  keeps_own v w keeps = record { opening = keeps.opening; own = keeps.own }

  -- a place that came and went is none of those before it
  pub keeps_let_go : (p : Placed) (u v w x : View cache_facts backing_facts)
      → KeepsPlaces cache_facts backing_facts u v → IsNew cache_facts backing_facts p u v
      → KeepsPlaces cache_facts backing_facts v w → HasUnpinned cache_facts backing_facts p w x
      → KeepsOwn cache_facts backing_facts u x
  keeps_let_go p u v w x pinned new failed gone = record {
    opening = opening_both cache_facts backing_facts u v x pinned.opening
        (opening_both cache_facts backing_facts v w x failed.opening gone.opening);
    own = λ q own. gone.own q (failed.opening.apart p q (new q own)) (failed.own q (pinned.own q own));
  }

  pub why_not : (before sectors count : ℕ) (e : StoreError) (p : Placed) (values : List Value)
      (u v w x : View cache_facts backing_facts) → length values ≡ count
      → HasGiven cache_facts backing_facts before count p u v
      → HasNotWritten cache_facts backing_facts sectors e p (take p.count values) v w
      → HasUnpinned cache_facts backing_facts p w x
      → WhyNotStored cache_facts backing_facts before sectors e values u x
  why_not before sectors count (error.Step cause) p values u v w x total given not gone = inr (record {
    place = p;
    pinned = v;
    failed = w;
    went = record {
      given = subst (λ n. HasGiven cache_facts backing_facts before n p u v) (sym total) given;
      unpinned = gone;
    };
    why = not;
  })
  why_not before sectors count error.NoBucket p values u v w x total given not gone = absurd not
  why_not before sectors count error.Outside p values u v w x total given not gone = record {
    place = p;
    pinned = v;
    failed = w;
    waited = not.1;
    went = record {
      given = subst (λ n. HasGiven cache_facts backing_facts before n p u v) (sym total) given;
      unpinned = gone;
    };
    outside = not.0;
  }
