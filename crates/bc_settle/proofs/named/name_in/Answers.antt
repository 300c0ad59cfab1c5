use Rattle.std.proofs.Common.{refl, sym, ◌∙◌, subst}
use Rattle.bc_candidate.specs.bc_machine.declared.part.BucketsPart.{BucketsPart}
use Rattle.bc_insert.proofs.Putting.{one_some}
use Rattle.bc_settle.specs.Next.{HasCleanKey}
use Rattle.bc_settle.proofs.named.name_in.Goals as goal

pub returns : goal.returns
returns g c part at =
    let same = c.get_mut.ensures.part ∙ one_some c.args.hand.now.buckets c.in-Some.buckets part
    (sym c.take.ensures.value ∙ c.in-Some.is) at in (
      c.name_clean.new.part,
      subst (λ (b : BucketsPart). HasCleanKey b c.args.at c.args.count c.name_clean.new.part) same
          c.name_clean.ensures,
      refl,
    )
