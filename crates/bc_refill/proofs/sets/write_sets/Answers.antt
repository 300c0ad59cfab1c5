use Rattle.std.proofs.Common.{◌≡◌, ℕ, suc, ◌+◌, ◌<◌, List, [], ◌∷◌, length, Some, None, Vec, Global, refl, sym, ap, ◌∙◌, subst, arith}
use Rattle.std.proofs.lemmas.List.{length-append}
use Rattle.bc_alloc.specs.Reserve.{IsDistinct}
use Rattle.bc_disk.specs.Chain.{bucket_bytes}
use Rattle.bc_new_chain.proofs.Behind.{holds_buckets}
use Rattle.bc_new_chain.proofs.Keeping.{holds_on}
use Rattle.bc_new_chain.proofs.of_bc_chain.of_bc_place.Keeping.{keeps_both as places_both}
use Rattle.bc_new_chain.proofs.of_bc_chain.of_bc_place.Storing.{keeps_nothing}
use Rattle.bc_new_chain.proofs.of_bc_held.Keeping.{keeps_nothing as held_nothing}
use Rattle.bc_new_chain.specs.bc_chained.Chained.{IsSetOf, next_of}
use Rattle.bc_new_chain.specs.bc_hand.Seats.{world}
use Rattle.bc_parts.specs.Seat.{Holds}
use Rattle.bc_refill.proofs.Going.{cut_in}
use Rattle.bc_refill.proofs.Holding.{const_on, held_both}
use Rattle.bc_refill.proofs.Lists.{front_of, last_of}
use Rattle.bc_refill.proofs.Writing.{all_with, at_place, cache_then, each_lost, each_on, first_lost, for_chain_at, held_lost, held_written, is_part, kinds_with, lost_at, set_made, set_stays, spent_lost, written_at, written_more}
use Rattle.bc_refill.specs.Sets.{AreRooms, HaveWritten}
use Rattle.bc_refill.proofs.sets.write_sets.Goals as goal

pub loop-part-init : goal.loop-part-init
loop-part-init g c =
    let cf = g.C.Disk.facts in
    let bf = g.B.Disk.facts in
    let v = c.args.seat.now in
    let many = c.requires.rooms.0 in (
      omega arith,
      c.requires.works,
      c.requires.all,
      refl,
      refl,
      refl,
      λ k below. absurd (omega (arith, below)),
      c.requires.chain.each,
      c.requires.chain.once,
      omega (arith, many),
      c.requires.rooms.1,
      omega arith,
      keeps_nothing cf bf v c.requires.works.seat,
      held_nothing cf bf None v,
      (let all = c.requires.chain.many in omega (arith, all)),
    )

pub unreachable-requires : goal.unreachable-requires
unreachable-requires g c =
    let l = c.loop-part in
    let none = c.in_default.ensures.cases.0 in
    let long = l.rooms.ok.0 in
    let many = l.invariant.9 in
    let below = c.loop-part-test.true in
    let all = l.invariant.14 in
    omega (arith, none, long, many, below, all)

pub write_set-requires-clause-divided : goal.write_set-requires-clause-divided
write_set-requires-clause-divided g c =
    let l = c.loop-part in
    (cut_in g.C.Disk.facts g.B.Disk.facts c.args.parts.now l.seat l.hand c.args.g.now
    l.invariant.1 l.invariant.2).layout

pub write_set-requires-clause-hand : goal.write_set-requires-clause-hand
write_set-requires-clause-hand g c = let l = c.loop-part in record {
  buckets = l.invariant.2.buckets;
  cache = l.invariant.2.cache;
}

pub write_set-requires-clause-held : goal.write_set-requires-clause-held
write_set-requires-clause-held g c =
    let cf = g.C.Disk.facts in
    let bf = g.B.Disk.facts in
    let l = c.loop-part in
    for_chain_at cf bf c.args.g.now c.args.new.now l.part c.args.seat.now.first l.seat
    (let t = c.loop-part-test.true in let a = c.loop-part.invariant.14 in omega (arith, t, a)) l.invariant.4
    (cut_in cf bf c.args.parts.now l.seat l.hand c.args.g.now l.invariant.1 l.invariant.2)
    l.invariant.7

pub write_set-requires-clause-part : goal.write_set-requires-clause-part
write_set-requires-clause-part g c =
    let l = c.loop-part in
    is_part c.args.g.now c.args.new.now l.part
    (let t = c.loop-part-test.true in let a = c.loop-part.invariant.14 in omega (arith, t, a)) c.requires.chain.many
    c.requires.chain.within _ c.named_next-next.ensures

pub write_set-requires-clause-bytes : goal.write_set-requires-clause-bytes
write_set-requires-clause-bytes g c = last_of (λ (room : Vec ℕ Global). length room.items
    ≡ bucket_bytes c.args.g.now) c.pop.new.self.items c.in-Some.bytes
    (subst (λ (xs : List (Vec ℕ Global)). AreRooms c.args.g.now xs) c.in-Some.ensures.items
    c.loop-part.invariant.10)

pub returns-in-Err-clause-all : goal.returns-in-Err-clause-all
returns-in-Err-clause-all g c = all_with c.args.g.now c.loop-part.hand c.write_set.new.hand
    c.write_set.ensures.rest c.write_set.ensures.hand c.loop-part.invariant.2

pub returns-in-Err-clause-rest : goal.returns-in-Err-clause-rest
returns-in-Err-clause-rest g c = cache_then c.args.hand.now c.loop-part.hand
    c.write_set.new.hand c.loop-part.invariant.3 c.write_set.ensures.rest

pub returns-in-Err-clause-each : goal.returns-in-Err-clause-each
returns-in-Err-clause-each g c =
    let cf = g.C.Disk.facts in
    let bf = g.B.Disk.facts in
    let l = c.loop-part in
    each_lost cf bf c.in-Err.error c.args.g.now c.args.gens.now.records _ _ _ l.seat
    c.write_set.new.seat c.args.seat.now.first c.args.new.now
    (subst (λ ks. Holds ks 2) (sym l.invariant.1.parts)
    (holds_buckets l.hand l.invariant.2.buckets)) c.in-Err.ensures.err l.invariant.7

pub returns-in-Err-clause-err : goal.returns-in-Err-clause-err
returns-in-Err-clause-err g c =
    let cf = g.C.Disk.facts in
    let bf = g.B.Disk.facts in
    let l = c.loop-part in record {
      count = l.part;
      less = (let t = c.loop-part-test.true in let a = c.loop-part.invariant.14 in omega (arith, t, a));
      had = l.seat;
      written = l.invariant.5;
      lost = lost_at cf bf c.in-Err.error c.args.g.now c.args.gens.now.records c.args.new.now
          l.part _ _ l.seat c.write_set.new.seat refl
          c.named_next-next.ensures c.in-Err.ensures.err;
    }

pub returns-in-Err-clause-first : goal.returns-in-Err-clause-first
returns-in-Err-clause-first g c =
    let l = c.loop-part in
    first_lost g.C.Disk.facts g.B.Disk.facts c.in-Err.error c.args.g.now
    c.args.gens.now.records _ _ _ l.seat c.write_set.new.seat c.in-Err.ensures.err ∙ l.invariant.4

pub returns-in-Err-clause-left : goal.returns-in-Err-clause-left
returns-in-Err-clause-left g c =
    let l = c.loop-part in
    let spent = spent_lost g.C.Disk.facts g.B.Disk.facts c.in-Err.error c.args.g.now
    c.args.gens.now.records _ _ _ l.seat c.write_set.new.seat c.in-Err.ensures.err in
    let left = l.invariant.11 in
    let below = c.loop-part-test.true in
    let all = l.invariant.14 in
    omega (arith, spent, left, below, all)

pub returns-in-Err-clause-keeps : goal.returns-in-Err-clause-keeps
returns-in-Err-clause-keeps g c = places_both g.C.Disk.facts g.B.Disk.facts c.args.seat.now
    c.loop-part.seat c.write_set.new.seat c.loop-part.invariant.12 c.write_set.ensures.keeps

pub returns-in-Err-clause-held : goal.returns-in-Err-clause-held
returns-in-Err-clause-held g c =
    let cf = g.C.Disk.facts in
    let bf = g.B.Disk.facts in
    let l = c.loop-part in
    held_both cf bf c.args.seat.now l.seat c.write_set.new.seat
    (holds_on cf bf c.args.parts.now c.args.seat.now l.seat c.args.hand.now l.hand
    c.requires.works l.invariant.1 (kinds_with c.args.g.now c.args.hand.now l.hand l.invariant.3
    c.requires.all l.invariant.2)) l.invariant.13
    (held_lost cf bf c.in-Err.error c.args.g.now c.args.gens.now.records _ _ _ l.seat
    c.write_set.new.seat l.invariant.1.seat c.in-Err.ensures.err)

pub loop-part-preserved : goal.loop-part-preserved
loop-part-preserved g c =
    let cf = g.C.Disk.facts in
    let bf = g.B.Disk.facts in
    let l = c.loop-part in
    let gm = c.args.g.now in
    let rs = c.args.gens.now.records in
    let new = c.args.new.now in
    let i = l.part in
    let w = c.write_set.new.seat in
    let k = c.write_set.new.hand in
    let test = c.loop-part-test.true in
    let whole = l.invariant.14 in
    let below : l.part < length c.args.new.now = omega (arith, test, whole) in
    let ok = written_at cf bf gm rs new i _ _ l.seat w refl
    c.named_next-next.ensures c.in-Ok.ensures.ok in
    let holds = subst (λ ks. Holds ks 2) (sym l.invariant.1.parts)
    (holds_buckets l.hand l.invariant.2.buckets) in
    let once = const_on cf bf (IsDistinct new) (Some _) l.seat w l.invariant.1.seat ok.did
    l.invariant.8 in
    let one : i + 1 ≡ suc i = omega arith in
    let items = c.in-Some.ensures.items in
    let many = l.invariant.9 in
    let long = ap (λ (xs : List (Vec ℕ Global)). length xs) items
    ∙ length-append c.pop.new.self.items (c.in-Some.bytes ∷ []) in
    let left = l.invariant.11 in
    let spent = ok.did.is.promises in (
      omega (arith, below),
      c.write_set.ensures.works,
      all_with gm l.hand k c.write_set.ensures.rest c.write_set.ensures.hand l.invariant.2,
      cache_then c.args.hand.now l.hand k l.invariant.3 c.write_set.ensures.rest,
      ok.did.is.same.first ∙ l.invariant.4,
      subst (λ n. HaveWritten cf bf gm rs new 0 n c.args.seat.now w) (sym one)
          (written_more cf bf gm rs new 0 i i c.args.seat.now l.seat w (omega arith) l.invariant.5
          ok),
      λ j less. at_place (λ n. IsSetOf gm rs new n (world cf bf w)) i j less
          (λ under. set_stays cf bf gm rs new j i (next_of new i) l.seat w c.requires.chain.within
          under below once ok (l.invariant.6 j under))
          (set_made cf bf gm rs new i l.seat w ok),
      each_on cf bf l.seat w _ c.args.seat.now.first new holds refl ok.did l.invariant.7,
      once,
      omega (arith, many, long),
      front_of (λ (room : Vec ℕ Global). length room.items ≡ bucket_bytes gm)
          c.pop.new.self.items (c.in-Some.bytes ∷ [])
          (subst (λ (xs : List (Vec ℕ Global)). AreRooms gm xs) items l.invariant.10),
      omega (arith, left, spent),
      places_both cf bf c.args.seat.now l.seat w l.invariant.12 c.write_set.ensures.keeps,
      held_both cf bf c.args.seat.now l.seat w
          (holds_on cf bf c.args.parts.now c.args.seat.now l.seat c.args.hand.now l.hand
          c.requires.works l.invariant.1 (kinds_with gm c.args.hand.now l.hand l.invariant.3
          c.requires.all l.invariant.2)) l.invariant.13
          (held_written cf bf gm rs _ _ _ l.seat w l.invariant.1.seat ok),
      whole,
    )

pub returns-clause-ok : goal.returns-clause-ok
returns-clause-ok g c =
    let l = c.loop-part in
    let over = c.loop-part-test.false in
    let most = l.invariant.0 in
    let whole = l.invariant.14 in
    let all : l.part ≡ length c.args.new.now = omega (arith, over, most, whole) in
    subst (λ n. HaveWritten g.C.Disk.facts g.B.Disk.facts c.args.g.now c.args.gens.now.records
    c.args.new.now 0 n c.args.seat.now l.seat) all l.invariant.5

pub returns-clause-sets : goal.returns-clause-sets
returns-clause-sets g c =
    let l = c.loop-part in
    let over = c.loop-part-test.false in
    let whole = l.invariant.14 in record {
      many = c.requires.chain.many;
      each = λ k below. l.invariant.6 k (omega (arith, over, whole, below));
    }
