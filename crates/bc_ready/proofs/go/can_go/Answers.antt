use Rattle.std.proofs.Common.{List, refl, subst, sym}
use Rattle.std.specs.Prelude.{IsTrue}
use Rattle.bc_alloc.specs.Buckets.{AreLoose}
use Rattle.bc_alloc.specs.Reserve.{IsDistinct}
use Rattle.bc_ready.proofs.Checks.{not_true}
use Rattle.bc_ready.proofs.go.can_go.Goals as goal

pub returns-then-are_loose : goal.returns-then-are_loose
returns-then-are_loose c =
    let loose = subst (λ (ks : List _). IsDistinct ks
    × AreLoose c.args.part.now.reserves c.args.part.now.buckets ks) c.deref.ensures.value
    (c.if-are_loose.ensures.0 refl) in (
      λ yes. record {
        distinct = loose.0;
        loose = loose.1;
        taken = c.are_taken.ensures.0 yes;
      },
      λ go. c.are_taken.ensures.1 go.taken,
    )

pub returns-else-are_loose : goal.returns-else-are_loose
returns-else-are_loose c =
    let not = c.if-are_loose.ensures in (
      λ yes. absurd (not_true (subst IsTrue c.if-are_loose.false yes)),
      λ go. subst IsTrue (sym c.if-are_loose.false) (not.1
          (subst (λ (ks : List _). IsDistinct ks
          × AreLoose c.args.part.now.reserves c.args.part.now.buckets ks)
          (sym c.deref.ensures.value) (go.distinct, go.loose))),
    )
