use Rattle.std.proofs.Common.{sym, ap, ◌∙◌, subst, arith}
use Rattle.bc_alloc.specs.Buckets.{AreFor}
use Rattle.bc_bucket.specs.Buckets.{Buckets}
use Rattle.bc_fill.specs.Fill.{AreOpen}
use Rattle.bc_place.proofs.Parts.{are_open}
use Rattle.bc_candidate.proofs.Running.{fits_run, open_run, same_run}
use Rattle.bc_candidate.proofs.dead.let_go.Goals as goal

pub invariant_of-part : goal.invariant_of-part
invariant_of-part c =
    let p = c.args.part.now in
    let is = c.let_go_each.ensures in record {
      order = p.order;
      fit = subst (λ (b : Buckets). AreFor p.reserves b) (sym is)
          (fits_run c.args.at c.args.count p.reserves p.buckets p.fit);
      «open» = ∣ subst (λ (b : Buckets). AreOpen p.fill p.reserves b) (sym is)
          (open_run c.args.at c.args.count p.fill p.reserves p.buckets (are_open p)) ∣₁;
      sized = let sized = p.sized in
          let same = ap (λ (b : Buckets). b.size) is
          ∙ (same_run c.args.at c.args.count p.buckets).size in omega (arith, sized, same);
    }
