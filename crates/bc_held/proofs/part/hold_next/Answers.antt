use Rattle.bc_held.proofs.Parting.{behind_take}
use Rattle.bc_held.proofs.part.hold_next.Goals as goal

pub invariant_of-part : goal.invariant_of-part
invariant_of-part c =
    let fit = behind_take c.args.part.now c.take.result c.take.new.self c.take.new.b _
    c.take.ensures.taken c.take.ensures.held c.take.ensures.same c.take.ensures.fit in record {
      order = fit.order;
      fit = fit.fit;
      «open» = ∣ fit.opens ∣₁;
      sized = fit.sized;
    }
