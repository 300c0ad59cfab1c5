use Rattle.std.proofs.Common.{◌≡◌, Some, subst}
use Rattle.std.specs.Prelude.{MatchResult, slice_get}
use Rattle.bc_candidate.specs.bc_hand.declared.hand.LeafHand.{LeafHand}
use Rattle.bc_candidate.specs.bc_machine.declared.part.BucketsPart.{BucketsPart}
use Rattle.bc_insert.proofs.Putting.{one_some}
use Rattle.bc_settle.specs.Fits.{IsNamedBy, WhyNot}
use Rattle.bc_settle.proofs.Fitting.{fits_here}
use Rattle.bc_settle.proofs.fit.key_in.Goals as goal

pub leaf-requires : goal.leaf-requires
leaf-requires g c =
    let can = c.requires.can.3 in (
      c.requires.can.2,
      subst (λ (l : LeafHand). slice_get l.cache.slots c.args.slot
          ≡ Some (Some c.requires.can.2))
          (one_some c.args.hand.now.leaves can.leaves c.in-Some.leaves can.is c.in-Some.is)
          can.there,
    )

pub returns : goal.returns
returns g c parts number cached can = fits_here c.args.hand.now parts c.args.slot number cached can
    c.args.old.now c.in-Some.leaves c.in-Some.is c.in-Some-buckets.buckets c.in-Some-buckets.is
    c.leaf.result.now c.leaf.ensures c.key_for.result
    (subst (λ (p : BucketsPart). MatchResult c.key_for.result
    (IsNamedBy c.leaf.result.now p.buckets c.args.old.now)
    (λ why. WhyNot why c.leaf.result.now p.buckets c.args.old.now)) c.get.ensures
    c.key_for.ensures)
