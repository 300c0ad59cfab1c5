use Rattle.std.proofs.Common.{None, refl, true}
use Rattle.bc_chain.proofs.of_bc_deed.May.{did_nothing, kept_as}
use Rattle.bc_chain.proofs.of_bc_place.Keeping.{keeps_waited as places_waited}
use Rattle.bc_chain.proofs.of_bc_place.Knowing.{buckets_since}
use Rattle.bc_chain.proofs.of_bc_place.Storing.{cached_by}
use Rattle.bc_chain.specs.bc_hand.Seats.{world}
use Rattle.bc_entry.proofs.Sealing.{journal_since, rest_is_entry}
use Rattle.bc_held.proofs.Keeping.{keeps_waited as held_waited}
use Rattle.bc_new_chain.proofs.Keeping.{beside_all}
use Rattle.bc_new_chain.proofs.Seated.{buckets_left, chain_changed, chain_left, did_sealing, fixed_left, has_sealed, held_left, journal_left, keeps_left, may_seal, may_sealing, sealed_with}
use Rattle.bc_new_chain.proofs.seal.seal_in.Goals as goal

pub commit-requires-clause-may : goal.commit-requires-clause-may
commit-requires-clause-may g c = may_sealing g.C.Disk.facts g.B.Disk.facts c.args.seat.now
    c.args.journal.now c.needed-last_seq.result c.bucket_begun-bucket.result c.said_in-rest.result.0
    c.said_in-rest.result.1 c.needed-last_seq.ensures.value c.bucket_begun-bucket.ensures
    (may_seal g.C.Disk.facts g.B.Disk.facts c.args.seat.now c.requires.seat
    (cached_by g.C.Disk.facts g.B.Disk.facts c.args.parts.now c.args.seat.now c.requires.run
    c.requires.cached) c.requires.holds.0 c.requires.holds.1 c.requires.holds.2 c.args.part.now
    c.requires.buckets c.requires.settled c.args.journal.now c.heads_with-heads.ensures.good
    c.requires.can c.requires.journal c.requires.chain.0 c.args.new.now c.requires.chain.1
    c.said_in-rest.result.1 c.said_in-rest.ensures.chain c.said_in-rest.result.0)

pub returns-in-Err-clause-kept : goal.returns-in-Err-clause-kept
returns-in-Err-clause-kept g c = kept_as g.C.Disk.facts g.B.Disk.facts c.args.seat.now
    c.commit.new.seat _ _ chain_changed c.commit.ensures.kept

pub returns-in-Err-clause-buckets : goal.returns-in-Err-clause-buckets
returns-in-Err-clause-buckets g c = buckets_since g.C.Disk.facts g.B.Disk.facts c.args.seat.now
    c.requires.seat c.requires.holds.0 c.args.part.now c.requires.buckets
    (world g.C.Disk.facts g.B.Disk.facts c.commit.new.seat) c.in-Err.ensures.err.is.since

pub returns-in-Err-clause-journal : goal.returns-in-Err-clause-journal
returns-in-Err-clause-journal g c = journal_since g.C.Disk.facts g.B.Disk.facts c.args.seat.now
    c.requires.seat c.requires.holds.1 c.args.journal.now c.heads_with-heads.ensures.good
    c.requires.can c.requires.journal (world g.C.Disk.facts g.B.Disk.facts c.commit.new.seat)
    c.in-Err.ensures.err.is.since

pub returns-clause-kept : goal.returns-clause-kept
returns-clause-kept g c = kept_as g.C.Disk.facts g.B.Disk.facts c.args.seat.now c.commit.new.seat
    _ _ chain_changed c.commit.ensures.kept

pub returns-clause-buckets : goal.returns-clause-buckets
returns-clause-buckets g c = buckets_left g.C.Disk.facts g.B.Disk.facts c.args.seat.now c.requires.seat
    (cached_by g.C.Disk.facts g.B.Disk.facts c.args.parts.now c.args.seat.now c.requires.run
    c.requires.cached) c.requires.holds.0 c.requires.holds.1 c.requires.holds.2 c.args.part.now
    c.requires.buckets c.requires.settled c.args.journal.now c.heads_with-heads.ensures.good
    c.requires.can c.requires.journal c.requires.chain.0 c.args.new.now c.requires.chain.1
    c.said_in-rest.result.1 c.said_in-rest.ensures.chain c.said_in-rest.result.0
    c.commit.new.seat c.in-Ok.entry c.seal.new.self
    (sealed_with c.args.journal.now c.heads_with-heads.result c.in-Ok.entry c.seal.new.self
    c.args.new.now c.heads_with-heads.ensures.heads c.in-Ok.ensures.sealed)
    (rest_is_entry c.args.journal.now c.heads_with-heads.result c.in-Ok.entry
    c.seal.new.self c.args.journal.now.waiting c.said_in-rest.result.0.items c.in-Ok.ensures.sealed
    c.said_in-rest.ensures.rest refl) _
    (record {
      buckets = refl;
      reserves = refl;
      fill = refl;
      chain = refl;
      renewing = refl;
      round = refl;
      served = refl;
    })
    (did_sealing g.C.Disk.facts g.B.Disk.facts c.args.seat.now c.commit.new.seat
    c.args.journal.now c.needed-last_seq.result c.bucket_begun-bucket.result c.said_in-rest.result.0
    c.said_in-rest.result.1 c.needed-last_seq.ensures.value c.bucket_begun-bucket.ensures
    c.in_default.ensures.ok)

pub returns-clause-journal : goal.returns-clause-journal
returns-clause-journal g c = journal_left g.C.Disk.facts g.B.Disk.facts c.args.seat.now c.requires.seat
    (cached_by g.C.Disk.facts g.B.Disk.facts c.args.parts.now c.args.seat.now c.requires.run
    c.requires.cached) c.requires.holds.0 c.requires.holds.1 c.requires.holds.2 c.args.part.now
    c.requires.buckets c.requires.settled c.args.journal.now c.heads_with-heads.ensures.good
    c.requires.can c.requires.journal c.requires.chain.0 c.args.new.now c.requires.chain.1
    c.said_in-rest.result.1 c.said_in-rest.ensures.chain c.said_in-rest.result.0
    c.commit.new.seat c.in-Ok.entry c.seal.new.self
    (sealed_with c.args.journal.now c.heads_with-heads.result c.in-Ok.entry c.seal.new.self
    c.args.new.now c.heads_with-heads.ensures.heads c.in-Ok.ensures.sealed)
    (rest_is_entry c.args.journal.now c.heads_with-heads.result c.in-Ok.entry
    c.seal.new.self c.args.journal.now.waiting c.said_in-rest.result.0.items c.in-Ok.ensures.sealed
    c.said_in-rest.ensures.rest refl) (record c.args.part.now { renewing = true })
    (record {
      buckets = refl;
      reserves = refl;
      fill = refl;
      chain = refl;
      renewing = refl;
      round = refl;
      served = refl;
    })
    (did_sealing g.C.Disk.facts g.B.Disk.facts c.args.seat.now c.commit.new.seat
    c.args.journal.now c.needed-last_seq.result c.bucket_begun-bucket.result c.said_in-rest.result.0
    c.said_in-rest.result.1 c.needed-last_seq.ensures.value c.bucket_begun-bucket.ensures
    c.in_default.ensures.ok)

pub returns-clause-ok : goal.returns-clause-ok
returns-clause-ok g c = has_sealed g.C.Disk.facts g.B.Disk.facts c.args.seat.now c.requires.seat
    (cached_by g.C.Disk.facts g.B.Disk.facts c.args.parts.now c.args.seat.now c.requires.run
    c.requires.cached) c.requires.holds.0 c.requires.holds.1 c.requires.holds.2 c.args.part.now
    c.requires.buckets c.requires.settled c.args.journal.now c.heads_with-heads.ensures.good
    c.requires.can c.requires.journal c.requires.chain.0 c.args.new.now c.requires.chain.1
    c.said_in-rest.result.1 c.said_in-rest.ensures.chain c.said_in-rest.result.0
    c.commit.new.seat c.in-Ok.entry c.seal.new.self
    (sealed_with c.args.journal.now c.heads_with-heads.result c.in-Ok.entry c.seal.new.self
    c.args.new.now c.heads_with-heads.ensures.heads c.in-Ok.ensures.sealed)
    (rest_is_entry c.args.journal.now c.heads_with-heads.result c.in-Ok.entry
    c.seal.new.self c.args.journal.now.waiting c.said_in-rest.result.0.items c.in-Ok.ensures.sealed
    c.said_in-rest.ensures.rest refl) (record c.args.part.now { renewing = true })
    (record {
      buckets = refl;
      reserves = refl;
      fill = refl;
      chain = refl;
      renewing = refl;
      round = refl;
      served = refl;
    })
    (did_sealing g.C.Disk.facts g.B.Disk.facts c.args.seat.now c.commit.new.seat
    c.args.journal.now c.needed-last_seq.result c.bucket_begun-bucket.result c.said_in-rest.result.0
    c.said_in-rest.result.1 c.needed-last_seq.ensures.value c.bucket_begun-bucket.ensures
    c.in_default.ensures.ok)

pub returns-clause-fixed : goal.returns-clause-fixed
returns-clause-fixed g c = fixed_left g.C.Disk.facts g.B.Disk.facts c.args.seat.now c.requires.seat
    (cached_by g.C.Disk.facts g.B.Disk.facts c.args.parts.now c.args.seat.now c.requires.run
    c.requires.cached) c.requires.holds.0 c.requires.holds.1 c.requires.holds.2 c.args.part.now
    c.requires.buckets c.requires.settled c.args.journal.now c.heads_with-heads.ensures.good
    c.requires.can c.requires.journal c.requires.chain.0 c.args.new.now c.requires.chain.1
    c.said_in-rest.result.1 c.said_in-rest.ensures.chain c.said_in-rest.result.0
    c.commit.new.seat c.in-Ok.entry c.seal.new.self
    (sealed_with c.args.journal.now c.heads_with-heads.result c.in-Ok.entry c.seal.new.self
    c.args.new.now c.heads_with-heads.ensures.heads c.in-Ok.ensures.sealed)
    (rest_is_entry c.args.journal.now c.heads_with-heads.result c.in-Ok.entry
    c.seal.new.self c.args.journal.now.waiting c.said_in-rest.result.0.items c.in-Ok.ensures.sealed
    c.said_in-rest.ensures.rest refl) (record c.args.part.now { renewing = true })
    (record {
      buckets = refl;
      reserves = refl;
      fill = refl;
      chain = refl;
      renewing = refl;
      round = refl;
      served = refl;
    })
    (did_sealing g.C.Disk.facts g.B.Disk.facts c.args.seat.now c.commit.new.seat
    c.args.journal.now c.needed-last_seq.result c.bucket_begun-bucket.result c.said_in-rest.result.0
    c.said_in-rest.result.1 c.needed-last_seq.ensures.value c.bucket_begun-bucket.ensures
    c.in_default.ensures.ok)

pub returns-clause-chain : goal.returns-clause-chain
returns-clause-chain g c = chain_left g.C.Disk.facts g.B.Disk.facts c.args.seat.now c.requires.seat
    (cached_by g.C.Disk.facts g.B.Disk.facts c.args.parts.now c.args.seat.now c.requires.run
    c.requires.cached) c.requires.holds.0 c.requires.holds.1 c.requires.holds.2 c.args.part.now
    c.requires.buckets c.requires.settled c.args.journal.now c.heads_with-heads.ensures.good
    c.requires.can c.requires.journal c.requires.chain.0 c.args.new.now c.requires.chain.1
    c.said_in-rest.result.1 c.said_in-rest.ensures.chain c.said_in-rest.result.0
    c.commit.new.seat c.in-Ok.entry c.seal.new.self
    (sealed_with c.args.journal.now c.heads_with-heads.result c.in-Ok.entry c.seal.new.self
    c.args.new.now c.heads_with-heads.ensures.heads c.in-Ok.ensures.sealed)
    (rest_is_entry c.args.journal.now c.heads_with-heads.result c.in-Ok.entry
    c.seal.new.self c.args.journal.now.waiting c.said_in-rest.result.0.items c.in-Ok.ensures.sealed
    c.said_in-rest.ensures.rest refl) (record c.args.part.now { renewing = true })
    (record {
      buckets = refl;
      reserves = refl;
      fill = refl;
      chain = refl;
      renewing = refl;
      round = refl;
      served = refl;
    })
    (did_sealing g.C.Disk.facts g.B.Disk.facts c.args.seat.now c.commit.new.seat
    c.args.journal.now c.needed-last_seq.result c.bucket_begun-bucket.result c.said_in-rest.result.0
    c.said_in-rest.result.1 c.needed-last_seq.ensures.value c.bucket_begun-bucket.ensures
    c.in_default.ensures.ok)

pub returns-in-Err-clause-keeps : goal.returns-in-Err-clause-keeps
returns-in-Err-clause-keeps g c = places_waited g.C.Disk.facts g.B.Disk.facts c.args.seat.now
    c.commit.new.seat c.requires.seat c.in-Err.ensures.err.is

pub returns-in-Err-clause-held : goal.returns-in-Err-clause-held
returns-in-Err-clause-held g c = beside_all g.C.Disk.facts g.B.Disk.facts c.args.new.now
    c.args.seat.now c.commit.new.seat (held_waited g.C.Disk.facts g.B.Disk.facts None
    c.args.seat.now c.commit.new.seat c.requires.seat c.in-Err.ensures.err.is)

pub returns-clause-keeps : goal.returns-clause-keeps
returns-clause-keeps g c = keeps_left g.C.Disk.facts g.B.Disk.facts c.args.seat.now c.requires.seat
    (cached_by g.C.Disk.facts g.B.Disk.facts c.args.parts.now c.args.seat.now c.requires.run
    c.requires.cached) c.requires.holds.0 c.requires.holds.1 c.requires.holds.2 c.args.part.now
    c.requires.buckets c.requires.settled c.args.journal.now c.heads_with-heads.ensures.good
    c.requires.can c.requires.journal c.requires.chain.0 c.args.new.now c.requires.chain.1
    c.said_in-rest.result.1 c.said_in-rest.ensures.chain c.said_in-rest.result.0
    c.commit.new.seat c.in-Ok.entry c.seal.new.self
    (sealed_with c.args.journal.now c.heads_with-heads.result c.in-Ok.entry c.seal.new.self
    c.args.new.now c.heads_with-heads.ensures.heads c.in-Ok.ensures.sealed)
    (rest_is_entry c.args.journal.now c.heads_with-heads.result c.in-Ok.entry
    c.seal.new.self c.args.journal.now.waiting c.said_in-rest.result.0.items c.in-Ok.ensures.sealed
    c.said_in-rest.ensures.rest refl) (record c.args.part.now { renewing = true })
    (record {
      buckets = refl;
      reserves = refl;
      fill = refl;
      chain = refl;
      renewing = refl;
      round = refl;
      served = refl;
    })
    (did_sealing g.C.Disk.facts g.B.Disk.facts c.args.seat.now c.commit.new.seat
    c.args.journal.now c.needed-last_seq.result c.bucket_begun-bucket.result c.said_in-rest.result.0
    c.said_in-rest.result.1 c.needed-last_seq.ensures.value c.bucket_begun-bucket.ensures
    c.in_default.ensures.ok)

pub returns-clause-held : goal.returns-clause-held
returns-clause-held g c = held_left g.C.Disk.facts g.B.Disk.facts c.args.seat.now c.requires.seat
    (cached_by g.C.Disk.facts g.B.Disk.facts c.args.parts.now c.args.seat.now c.requires.run
    c.requires.cached) c.requires.holds.0 c.requires.holds.1 c.requires.holds.2 c.args.part.now
    c.requires.buckets c.requires.settled c.args.journal.now c.heads_with-heads.ensures.good
    c.requires.can c.requires.journal c.requires.chain.0 c.args.new.now c.requires.chain.1
    c.said_in-rest.result.1 c.said_in-rest.ensures.chain c.said_in-rest.result.0
    c.commit.new.seat c.in-Ok.entry c.seal.new.self
    (sealed_with c.args.journal.now c.heads_with-heads.result c.in-Ok.entry c.seal.new.self
    c.args.new.now c.heads_with-heads.ensures.heads c.in-Ok.ensures.sealed)
    (rest_is_entry c.args.journal.now c.heads_with-heads.result c.in-Ok.entry
    c.seal.new.self c.args.journal.now.waiting c.said_in-rest.result.0.items c.in-Ok.ensures.sealed
    c.said_in-rest.ensures.rest refl) (record c.args.part.now { renewing = true })
    (record {
      buckets = refl;
      reserves = refl;
      fill = refl;
      chain = refl;
      renewing = refl;
      round = refl;
      served = refl;
    })
    (did_sealing g.C.Disk.facts g.B.Disk.facts c.args.seat.now c.commit.new.seat
    c.args.journal.now c.needed-last_seq.result c.bucket_begun-bucket.result c.said_in-rest.result.0
    c.said_in-rest.result.1 c.needed-last_seq.ensures.value c.bucket_begun-bucket.ensures
    c.in_default.ensures.ok)
