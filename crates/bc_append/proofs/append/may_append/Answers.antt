use Rattle.std.proofs.Common.{sym, subst}
use Rattle.std.specs.Prelude.{◌↔◌, IsTrue}
use Rattle.bc_append.specs.Append.{HasLeafIn}
use Rattle.bc_node.specs.Leaf.{IsFull}
use Rattle.bc_append.proofs.append.may_append.Goals as goal

pub fits_in-requires : goal.fits_in-requires
fits_in-requires g c = (
  c.args.leaf,
  subst (λ s. HasLeafIn c.args.hand.now s c.args.leaf)
      (c.slot_in-slot.ensures c.requires.0 c.requires.1).0 c.requires.1,
)

pub returns : goal.returns
returns g c slot at = subst (λ s. (there : HasLeafIn c.args.hand.now s c.args.leaf)
    → IsTrue c.fits_in.result ↔ ¬ (IsFull there.leaves.cache.geometry there.cached.leaf))
    (sym (c.slot_in-slot.ensures slot at).0) (c.fits_in.ensures c.args.leaf) at
