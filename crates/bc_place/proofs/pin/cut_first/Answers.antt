use Rattle.std.proofs.Common.{◌<◌, List, get_or, length, refl, sym, ap, ◌∙◌, subst, arith}
use Rattle.bc_alloc.specs.Buckets.{AreFor}
use Rattle.bc_alloc.specs.Reserves.{IsInOrder, Reserves}
use Rattle.bc_bucket.specs.Buckets.{Buckets, changed}
use Rattle.bc_fill.specs.Fill.{AreOpen}
use Rattle.bc_fill.specs.declared.fill.Open.{Open}
use Rattle.bc_place.specs.Next.{with_pins}
use Rattle.bc_place.proofs.Cutting.{cut_is, cut_size, next_open}
use Rattle.bc_place.proofs.Fitting.{first_known, still_fit, still_open}
use Rattle.bc_place.proofs.Parts.{are_open}
use Rattle.bc_place.proofs.pin.cut_first.Goals as goal

pub place-requires-clause-opens : goal.place-requires-clause-opens
place-requires-clause-opens c = are_open c.args.part.now

pub pin_each-requires : goal.pin_each-requires
pin_each-requires c =
    let p = c.args.part.now in
    let next = c.requires.next.1 in
    let known = first_known p (record { bucket = 0; next = 0 }) (next_open p c.args.count c.args.placed c.requires.next.0 next) in
    let same = cut_is p c.args.count c.args.placed c.in-Ok.field-0 c.requires.next.0 _ _ _ next
    c.in-Ok.ensures.placed in
    let counts = ap (λ (r : Reserves). r.count) same.0 in
    let was = p.fit.same_count in
    let now = c.in-Ok.ensures.fit.same_count in
    subst (λ (fs : List Open). (get_or fs 0 (record { bucket = 0; next = 0 })).bucket
    < length c.place.new.b.records) (sym c.open.ensures.value) (omega (arith, known, counts, was, now))

pub invariant_of-part : goal.invariant_of-part
invariant_of-part c =
    let p = c.args.part.now in
    let same = cut_is p c.args.count c.args.placed c.in-Ok.field-0 c.requires.next.0 _ _ _
    c.requires.next.1 c.in-Ok.ensures.placed in
    let is = c.pin_each.ensures in record {
      order = subst IsInOrder (sym same.0) p.order;
      fit = subst (λ (b : Buckets). AreFor c.place.new.r b) (sym is)
          (still_fit (with_pins c.args.placed.count) (λ x. refl) _ c.place.new.r c.place.new.b
          c.in-Ok.ensures.fit);
      «open» = ∣ subst (λ (b : Buckets). AreOpen c.place.new.f c.place.new.r b) (sym is)
          (still_open (with_pins c.args.placed.count) (λ x. refl) _ c.place.new.f c.place.new.r
          c.place.new.b c.in-Ok.ensures.opens) ∣₁;
      sized = let sized = p.sized in
          let cut = cut_size p.buckets c.place.new.b _ _ same.1.buckets in
          let now = ap (λ (b : Buckets). b.size) is in omega (arith, sized, cut, now);
    }

pub returns : goal.returns
returns c =
    let p = c.args.part.now in
    let same = cut_is p c.args.count c.args.placed c.in-Ok.field-0 c.requires.next.0 _ _ _
    c.requires.next.1 c.in-Ok.ensures.placed in
    record {
      reserves = same.0;
      between = c.place.new.b;
      cut = same.1;
      buckets = c.pin_each.ensures ∙ ap (λ (o : Open).
          changed (with_pins c.args.placed.count) o.bucket c.place.new.b)
          (ap (λ (fs : List Open). get_or fs 0 (record { bucket = 0; next = 0 }))
          (c.open.ensures.value ∙ same.1.were));
      rest = record { chain = refl; renewing = refl; round = refl; served = refl };
    }
