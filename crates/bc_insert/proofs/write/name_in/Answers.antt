use Rattle.std.proofs.Common.{◌≡◌, Option, Some, refl, sym, ap, ◌∙◌, subst}
use Rattle.bc_place.specs.bc_machine.declared.part.BucketsPart.{BucketsPart}
use Rattle.bc_place.specs.Next.{HasNamed}
use Rattle.bc_insert.proofs.Putting.{one_some}
use Rattle.bc_insert.proofs.write.name_in.Goals as goal

pub returns : goal.returns
returns g c part at =
    let same = c.get_mut.ensures.part ∙ one_some c.args.hand.now.buckets c.in-Some.buckets part
    (sym c.take.ensures.value ∙ c.in-Some.is) at in (
      c.name_places.new.part,
      subst (λ (b : BucketsPart). HasNamed b c.args.places.now c.name_places.new.part) same
          c.name_places.ensures,
      refl,
    )
