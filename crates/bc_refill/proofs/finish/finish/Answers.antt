use Rattle.std.proofs.Common.{◌≡◌, ℕ, ◌*◌, ◌≤◌, List, length, Some, inl, sym, ap, ◌∙◌, subst, arith}
use Rattle.std.specs.Prelude.{OnOk, vec_capacity}
use Rattle.bc_disk.specs.declared.geometry.Geometry.{Geometry}
use Rattle.bc_journal.specs.Journal.{Journal}
use Rattle.bc_new_chain.proofs.Behind.{cause_end}
use Rattle.bc_new_chain.proofs.InHand.{same_some}
use Rattle.bc_new_chain.proofs.Keeping.{beside_then, holds_on}
use Rattle.bc_new_chain.proofs.of_bc_chain.of_bc_place.Keeping.{keeps_both as places_both}
use Rattle.bc_new_chain.specs.Beside.{KeepsHeldBeside}
use Rattle.bc_new_chain.specs.Put.{HasCutChain, HasPutChain}
use Rattle.bc_new_chain.specs.Seal.{MaySealChain}
use Rattle.bc_new_chain.specs.bc_hand.Seats.{world}
use Rattle.bc_new_chain.specs.bc_machine.World.{FromEach, cache_among}
use Rattle.bc_new_chain.specs.bc_renew.Ready.{MayReady}
use Rattle.bc_refill.proofs.Finishing.{all_put, few_listed, finished, held_ready, kinds_ready, may_ready, not_finished, part_ready, put_in, spent_ready}
use Rattle.bc_new_chain.specs.bc_machine.declared.part.BucketsPart.{BucketsPart}
use Rattle.bc_new_chain.specs.bc_place.Place.{HasBefore}
use Rattle.bc_ready.specs.Ready.{HasReadied}
use Rattle.bc_refill.proofs.Going.{cut_in}
use Rattle.bc_refill.proofs.finish.finish.Goals as goal

pub put_chain_entry-requires-clause-room : goal.put_chain_entry-requires-clause-room
put_chain_entry-requires-clause-room g c =
    let room = c.requires.room in
    let same = ap (λ (ns : List ℕ). length ns) c.deref.ensures.value in
    omega (arith, room, same)

pub put_chain_entry-requires-clause-may : goal.put_chain_entry-requires-clause-may
put_chain_entry-requires-clause-may g c = subst (λ (ns : List ℕ). MaySealChain c.args.hand.now
    c.args.seat.now.first ns (world g.C.Disk.facts g.B.Disk.facts c.args.seat.now))
    (sym c.deref.ensures.value) c.requires.may

pub put_chain_entry-requires-clause-disk : goal.put_chain_entry-requires-clause-disk
put_chain_entry-requires-clause-disk g c = λ j is. subst (λ (k : Geometry). k.bucket * k.nbuckets
    ≤ (cache_among g.C.Disk.facts g.B.Disk.facts c.args.parts.now.run.start).sectors)
    (sym (ap (λ (x : Journal). x.ring.geometry)
    (same_some c.args.hand.now.journal j c.requires.all.journal is c.requires.all.is_journal)
    ∙ c.requires.all.divided)) c.requires.disk

pub returns-in-Err-clause-err : goal.returns-in-Err-clause-err
returns-in-Err-clause-err g c =
    let err = c.in-Err.ensures.err in inl (record {
      journal = err.0;
      was_journal = err.1;
      cut = subst (λ (ns : List ℕ). HasCutChain g.C.Disk.facts g.B.Disk.facts c.in-Err.error err.0
          ns c.args.hand.now c.put_chain_entry.new.hand c.args.seat.now
          c.put_chain_entry.new.seat) c.deref.ensures.value err.2;
      hand = c.put_chain_entry.ensures.rest;
    })

pub returns-in-Err-clause-left : goal.returns-in-Err-clause-left
returns-in-Err-clause-left g c = let left = c.put_chain_entry.ensures.left in omega (arith, left)

pub returns-in-Err-clause-held : goal.returns-in-Err-clause-held
returns-in-Err-clause-held g c = subst (λ (ns : List ℕ). KeepsHeldBeside g.C.Disk.facts
    g.B.Disk.facts ns c.args.seat.now c.put_chain_entry.new.seat) c.deref.ensures.value
    c.put_chain_entry.ensures.held

pub raised_len-named-requires : goal.raised_len-named-requires
raised_len-named-requires g c =
    (c.in-Ok.ensures.buckets.then_, c.in-Ok.ensures.buckets.now)

pub make_ready-requires-clause-promise : goal.make_ready-requires-clause-promise
make_ready-requires-clause-promise g c =
    let left = c.put_chain_entry.ensures.left in
    let most = c.requires.promise in
    omega (arith, left, most)

pub make_ready-requires-clause-before : goal.make_ready-requires-clause-before
make_ready-requires-clause-before g c =
    let cf = g.C.Disk.facts in
    let bf = g.B.Disk.facts in
    let ok = c.in-Ok.ensures in
    let put = put_in c.deref.result.now c.args.new.items c.args.hand.now
    c.put_chain_entry.new.hand c.deref.ensures.value ok.journal ok.buckets
    c.put_chain_entry.ensures.rest in
    subst (λ n. FromEach (world cf bf c.put_chain_entry.new.seat) (HasBefore n))
    (sym c.from-before.ensures)
    (cut_in cf bf c.args.parts.now c.put_chain_entry.new.seat c.put_chain_entry.new.hand
    c.args.g.now c.put_chain_entry.ensures.works
    (all_put c.args.g.now c.args.new.items c.args.hand.now c.put_chain_entry.new.hand put
    c.put_chain_entry.ensures.hand.cache c.requires.all)).before

pub make_ready-requires-clause-journal : goal.make_ready-requires-clause-journal
make_ready-requires-clause-journal g c = c.put_chain_entry.ensures.hand.journal

pub make_ready-requires-clause-listed : goal.make_ready-requires-clause-listed
make_ready-requires-clause-listed g c =
    let ok = c.in-Ok.ensures in
    let put = put_in c.deref.result.now c.args.new.items c.args.hand.now
    c.put_chain_entry.new.hand c.deref.ensures.value ok.journal ok.buckets
    c.put_chain_entry.ensures.rest in (
      c.requires.listed.0,
      few_listed g.C.Disk.facts g.B.Disk.facts c.args.new.items c.args.hand.now c.put_chain_entry.new.hand put
          c.raised_len-named.result (vec_capacity c.args.listed) c.raised_len-named.ensures
          c.requires.listed.1,
    )

pub make_ready-requires-clause-may : goal.make_ready-requires-clause-may
make_ready-requires-clause-may g c =
    let cf = g.C.Disk.facts in
    let bf = g.B.Disk.facts in
    let ok = c.in-Ok.ensures in
    let w = c.put_chain_entry.new.seat in
    let put = put_in c.deref.result.now c.args.new.items c.args.hand.now
    c.put_chain_entry.new.hand c.deref.ensures.value ok.journal ok.buckets
    c.put_chain_entry.ensures.rest in
    may_ready cf bf c.args.g.now c.args.new.items ok.ok.0 c.args.hand.now
    c.put_chain_entry.new.hand put c.args.seat.now w c.raised_len-named.result
    (vec_capacity c.args.back)
    (subst (λ (ns : List ℕ). HasPutChain cf bf ok.ok.0 ns c.args.seat.now w) c.deref.ensures.value
    ok.ok.2) c.raised_len-named.ensures c.requires.back.1
    (subst (λ (ns : List ℕ). (raised : List ℕ) → FromEach (world cf bf w)
    (MayReady c.args.seat.now.first raised ns)) c.deref.ensures.value ok.next)

pub returns-clause-kinds : goal.returns-clause-kinds
returns-clause-kinds g c =
    kinds_ready c.put_chain_entry.new.hand c.make_ready.new.hand c.in-Ok.ensures.buckets.then_
    c.in-Ok.ensures.buckets.now c.make_ready.result
    (part_ready g.C.Disk.facts g.B.Disk.facts c.put_chain_entry.new.hand c.make_ready.new.hand
    c.raised_len-named.result c.args.new c.make_ready.new.seat c.make_ready.result
    c.make_ready.ensures.part) c.make_ready.ensures.same
    ∙ c.put_chain_entry.ensures.kinds

pub returns-clause-ok : goal.returns-clause-ok
returns-clause-ok g c =
    let cf = g.C.Disk.facts in
    let bf = g.B.Disk.facts in
    let ok = c.in-Ok.ensures in
    let w = c.put_chain_entry.new.seat in
    let put = put_in c.deref.result.now c.args.new.items c.args.hand.now
    c.put_chain_entry.new.hand c.deref.ensures.value ok.journal ok.buckets
    c.put_chain_entry.ensures.rest in
    finished cf bf c.args.g.now c.args.new ok.ok.0 c.args.hand.now c.put_chain_entry.new.hand
    c.make_ready.new.hand put c.args.seat.now w c.make_ready.new.seat c.raised_len-named.result
    ok.ok.1
    (subst (λ (ns : List ℕ). HasPutChain cf bf ok.ok.0 ns c.args.seat.now w) c.deref.ensures.value
    ok.ok.2) c.raised_len-named.ensures c.make_ready.result c.make_ready.ensures.part
    (subst (λ n. OnOk c.make_ready.result ((p : BucketsPart)
    × (c.put_chain_entry.new.hand.buckets ≡ Some p)
    × HasReadied cf bf n p c.raised_len-named.result w c.make_ready.new.seat))
    c.from-before.ensures c.make_ready.ensures.ok)

pub returns-clause-err : goal.returns-clause-err
returns-clause-err g c =
    let cf = g.C.Disk.facts in
    let bf = g.B.Disk.facts in
    let ok = c.in-Ok.ensures in
    let w = c.put_chain_entry.new.seat in
    let put = put_in c.deref.result.now c.args.new.items c.args.hand.now
    c.put_chain_entry.new.hand c.deref.ensures.value ok.journal ok.buckets
    c.put_chain_entry.ensures.rest in
    not_finished cf bf c.args.new.items ok.ok.0 c.args.hand.now c.put_chain_entry.new.hand
    c.make_ready.new.hand put c.args.seat.now w c.make_ready.new.seat ok.ok.1
    (subst (λ (ns : List ℕ). HasPutChain cf bf ok.ok.0 ns c.args.seat.now w) c.deref.ensures.value
    ok.ok.2) c.make_ready.result c.make_ready.ensures.err c.make_ready.ensures.same
    c.make_ready.ensures.cause

pub returns-clause-cause : goal.returns-clause-cause
returns-clause-cause g c = cause_end c.make_ready.result c.make_ready.new.seat.seen
    c.make_ready.ensures.cause

pub returns-clause-left : goal.returns-clause-left
returns-clause-left g c =
    let left = c.put_chain_entry.ensures.left in
    let spent = spent_ready g.C.Disk.facts g.B.Disk.facts _ c.put_chain_entry.new.hand
    c.raised_len-named.result c.put_chain_entry.new.seat c.make_ready.new.seat c.make_ready.result
    c.make_ready.ensures.ok c.make_ready.ensures.err in
    omega (arith, left, spent)

pub returns-clause-keeps : goal.returns-clause-keeps
returns-clause-keeps g c = places_both g.C.Disk.facts g.B.Disk.facts c.args.seat.now
    c.put_chain_entry.new.seat c.make_ready.new.seat c.put_chain_entry.ensures.keeps
    c.make_ready.ensures.keeps

pub returns-clause-held : goal.returns-clause-held
returns-clause-held g c =
    let cf = g.C.Disk.facts in
    let bf = g.B.Disk.facts in
    let v = c.args.seat.now in
    let w = c.put_chain_entry.new.seat in
    let x = c.make_ready.new.seat in
    subst (λ (ns : List ℕ). KeepsHeldBeside cf bf ns v x) c.deref.ensures.value
    (beside_then cf bf c.deref.result.now v w x
    (holds_on cf bf c.args.parts.now v w c.args.hand.now c.put_chain_entry.new.hand
    c.requires.works c.put_chain_entry.ensures.works c.put_chain_entry.ensures.kinds)
    c.put_chain_entry.ensures.held
    (held_ready cf bf _ c.put_chain_entry.new.hand c.raised_len-named.result w x
    c.put_chain_entry.ensures.works.seat c.make_ready.result c.make_ready.ensures.ok
    c.make_ready.ensures.err))
