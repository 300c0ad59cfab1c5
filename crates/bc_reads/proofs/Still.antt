-- A sector that was found live is so while its bucket isn't used anew.
use Rattle.std.proofs.Common.{inl, inr, ◌+◌, ◌-◌, ◌*◌, ◌/◌, ◌<◌, ◌≤◌, sym, subst, arith}
use Rattle.std.proofs.Math.Nat.{lt-mul-div-succ, mul-div-le, mul_comm}
use Rattle.bc_reads.specs.Laws.{LawBacking, LawClean, LawPoints, LawStill}
use Rattle.bc_reads.specs.Reads.{IsReadFrom, moved}
use Rattle.bc_reads.specs.declared.source.ReadFrom.{ReadFrom}

pub law_backing : LawBacking
law_backing leaf b s h = elim h [ inl none ↦ inl none | inr clean ↦ inr (clean.0, clean.1, clean.2) ]

pub law_clean : LawClean
law_clean leaf b s at h = inr (h.0, h.1, h.3)

pub law_points : LawPoints
law_points leaf b r at dirty is run s low high =
    let one = subst (λ (from : ReadFrom). IsReadFrom leaf b s (moved from (s - r.first))) is
    (run s low high) in
    let place = one.2 in (one.0, one.1, omega (arith, place, low))

pub law_still : LawStill
law_still leaf before now s at dirty some h same =
    let size = before.size in
    let bucket = at / size in
    let swap = mul_comm size bucket in
    let under = mul-div-le at size in
    let over = lt-mul-div-succ at some in record {
      ref = h.0;
      is = h.1;
      bucket = bucket;
      for_data = h.4.for_data;
      known = h.4.known;
      low = subst (λ n. bucket * size ≤ n) (sym h.2) (subst (λ n. n ≤ at) swap under);
      high = subst (λ n. n < bucket * size + size) (sym h.2) (omega (arith, over, swap));
      live = h.4.live;
      still = same;
    }
