use Rattle.std.proofs.Common.{List, length, sym, subst, ap, ◌∙◌}
use Rattle.std.proofs.lemmas.List.{nil_from_length}
use Rattle.bc_alloc.specs.declared.purpose.Purpose.{Purpose}
use Rattle.bc_alloc.specs.declared.purpose.Purpose.TheVariants as purposes
use Rattle.bc_alloc.specs.Reserves.{TakesFirst, list_of}
use Rattle.bc_fill.specs.declared.fill.Open.{Open}
use Rattle.bc_fill.proofs.Opens.{is_none, plain_is_plain}
use Rattle.bc_fill.proofs.fill.open_one.Goals as goal

pub returns-clause-opened : goal.returns-clause-opened
returns-clause-opened c = (
  (
    nil_from_length c.args.f.now (ap (λ (fs : List Open). length fs) (sym c.open.ensures.value) ∙ is_none (length c.open.result.now) (sym c.is_empty.ensures ∙ c.if-not-is_empty.false)),
    subst (λ (p : Purpose). TakesFirst p c.in-Ok.bucket c.args.r.now c.take.new.self) (plain_is_plain (list_of purposes.Plain c.args.r.now).buckets) c.in-Ok.ensures.taken,
    c.in-Ok.ensures.held,
  ),
  c.add_bucket.ensures,
)
