-- What comes of a range, one step behind the other.
use Rattle.std.proofs.Common.{ℕ, Some, None, refl}
use Rattle.std.specs.Prelude.{Err, IfErr, IfOk, Ok, Result}
use Rattle.bc_bypass.specs.Dropped.{HasComeIn, HasComeTo}
use Rattle.bc_bypass.specs.declared.error.Invalidated.{Invalidated}
use Rattle.bc_bypass.specs.declared.error.Invalidated.TheVariants as invalidated
use Rattle.bc_disk.specs.Disk.{DiskFacts}
use Rattle.bc_events.specs.declared.event.Deed.TheVariants as deed
use Rattle.bc_events.specs.declared.event.Form.TheVariants as form
use Rattle.bc_write_back.proofs.Going.{as_claimed, as_unnoted, not_put_went, read_went, three}
use Rattle.bc_write_back.proofs.Walking.{HasGoneBy, LeavesClaim, went_none, went_one}
use Rattle.bc_write_back.proofs.of_bc_deed.Sequence.{done_first}
use Rattle.bc_write_back.proofs.of_bc_hand.Knowing.{View}
use Rattle.bc_write_back.specs.Put.{HasNotPut}
use Rattle.bc_write_back.specs.bc_request.bc_fetch.declared.error.LeafError.{LeafError}

module _ {C B : Type 0} (cache_facts : C → DiskFacts) (backing_facts : B → DiskFacts) where
  in_went : (what : Invalidated) (number first count : ℕ) (v w : View cache_facts backing_facts)
      → HasComeIn cache_facts backing_facts what number first count v w
      → HasGoneBy cache_facts backing_facts LeavesClaim v w
  in_went invalidated.Gone number first count v w h = went_one cache_facts backing_facts LeavesClaim
      (deed.Insert number h.keys form.Drop) v w (λ plain o. refl)
      (done_first cache_facts backing_facts (Some (deed.Insert number h.keys form.Drop)) v w h.did)
  in_went invalidated.Dirty number first count v w h = went_none cache_facts backing_facts
      LeavesClaim v w (done_first cache_facts backing_facts None v w h.0)
  in_went (invalidated.Lacks why) number first count v w h = went_none cache_facts backing_facts
      LeavesClaim v w (done_first cache_facts backing_facts None v w h.0)

  -- whatever comes of it, the claim stays
  pub to_went : (what : Invalidated) (first count : ℕ) (v w : View cache_facts backing_facts)
      → HasComeTo cache_facts backing_facts what first count v w
      → HasGoneBy cache_facts backing_facts LeavesClaim v w
  to_went what first count v w h = three cache_facts backing_facts LeavesClaim v h.at h.come w
      (as_claimed cache_facts backing_facts v h.at (as_unnoted cache_facts backing_facts v h.at
      (read_went cache_facts backing_facts v h.at h.way)))
      (in_went what h.number first count h.at h.come h.this)
      (went_none cache_facts backing_facts LeavesClaim h.come w h.then)

  pub not_went : (e : LeafError) (first count : ℕ) (v w : View cache_facts backing_facts)
      → HasNotPut cache_facts backing_facts first count e v w
      → HasGoneBy cache_facts backing_facts LeavesClaim v w
  not_went e first count v w h = as_claimed cache_facts backing_facts v w
      (as_unnoted cache_facts backing_facts v w
      (not_put_went cache_facts backing_facts first count e v w h))

  pub come_or_not : (r : Result Invalidated LeafError) (first count : ℕ)
      (v w : View cache_facts backing_facts)
      → IfOk r (λ what. HasComeTo cache_facts backing_facts what first count v w)
      → IfErr r (λ e. HasNotPut cache_facts backing_facts first count e v w)
      → HasGoneBy cache_facts backing_facts LeavesClaim v w
  come_or_not (Ok what) first count v w come stop = to_went what first count v w come
  come_or_not (Err e) first count v w come stop = not_went e first count v w stop
