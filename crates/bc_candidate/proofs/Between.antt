-- A step on candidates between borrowing the claims and returning them.
use Rattle.std.proofs.Common.{◌≡◌, ℕ, Option, Some, None, sym, subst}
use Rattle.bc_disk.specs.Disk.{DiskFacts}
use Rattle.bc_events.specs.declared.event.Deed.TheVariants as deed
use Rattle.bc_fill.specs.declared.fill.Placed.{Placed}
use Rattle.bc_parts.specs.Seat.{Holds}
use Rattle.bc_place.proofs.Keeping.{keeps_both, keeps_waited, opening_both}
use Rattle.bc_place.proofs.of_bc_hand.Between.{did_between}
use Rattle.bc_place.proofs.of_bc_hand.Knowing.{View, m}
use Rattle.bc_place.specs.Written.{not_in}
use Rattle.bc_place.specs.bc_hand.Seats.{IsCoreSeat}
use Rattle.bc_seats.proofs.Between.{seen_alike}
use Rattle.bc_seats.specs.Seats.{Waited}
use Rattle.bc_candidate.specs.Noted.{HasNotedOr, IsFull, KeepsAll, KeepsClaim}
use Rattle.bc_candidate.proofs.Seeing.{all_waited, claim_kept_waited}

module _ {C B : Type 0} (cache_facts : C → DiskFacts) (backing_facts : B → DiskFacts) where
  claim_both : (u v w : View cache_facts backing_facts) → KeepsClaim cache_facts backing_facts u v
      → KeepsClaim cache_facts backing_facts v w → KeepsClaim cache_facts backing_facts u w
  claim_both u v w a b = record {
    keepable = λ first p h. b.keepable first p (a.keepable first p h);
    sight = λ leaf buckets read h. b.sight leaf buckets read (a.sight leaf buckets read h);
  }

  pub all_both : (u v w : View cache_facts backing_facts) → KeepsAll cache_facts backing_facts u v
      → KeepsAll cache_facts backing_facts v w → KeepsAll cache_facts backing_facts u w
  all_both u v w a b = record {
    places = keeps_both cache_facts backing_facts u v w a.places b.places;
    claim = claim_both u v w a.claim b.claim;
  }

  module _ (u v w x : View cache_facts backing_facts)
      (still : (k : ℕ) → Holds u.parts k → Holds v.parts k)
      (its : IsCoreSeat cache_facts backing_facts u)
      (first_ : Waited (m cache_facts backing_facts) u v)
      (seat : IsCoreSeat cache_facts backing_facts w)
      (last : Waited (m cache_facts backing_facts) w x) (seen : x.seen ≡ w.seen)
      (told : x.heard ≡ w.heard) (end : IsCoreSeat cache_facts backing_facts x) where
    pub all_between : KeepsAll cache_facts backing_facts v w
        → KeepsAll cache_facts backing_facts u x
    all_between h = all_both u v x (all_waited cache_facts backing_facts u v its first_)
        (all_both v w x h (all_waited cache_facts backing_facts w x seat last))

    pub noted_between : (number : Option ℕ) (first : ℕ) (place : Placed)
        → HasNotedOr cache_facts backing_facts number first place v w
        → HasNotedOr cache_facts backing_facts number first place u x
    noted_between (Some number) first place h =
        let before = keeps_waited cache_facts backing_facts u v its first_ in
        let behind = keeps_waited cache_facts backing_facts w x seat last in
        record {
          did = did_between cache_facts backing_facts
              (Some (deed.Candidate number first place.count place.ptr.offset)) u v w x still first_
              h.did last seen told end;
          opening = opening_both cache_facts backing_facts u v x before.opening
              (opening_both cache_facts backing_facts v w x h.opening behind.opening);
          own = λ p apart own. behind.own p (h.own p (before.opening.apart place p apart)
              (before.own p own));
          written = λ known knows. behind.written (not_in place.ptr.offset place.count known)
              (h.written known (before.written known knows));
          claim = claim_both u v x (claim_kept_waited cache_facts backing_facts u v its first_)
              (claim_both v w x h.claim (claim_kept_waited cache_facts backing_facts w x seat
              last));
        }
    noted_between None first place h = record {
      waited = did_between cache_facts backing_facts None u v w x still first_ h.waited last seen
          told
          end;
      full = subst IsFull (sym (seen_alike (m cache_facts backing_facts) w x last.same seen))
          h.full;
      keeps = all_between h.keeps;
    }
