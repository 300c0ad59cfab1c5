use Rattle.std.proofs.Common.{sym, subst}
use Rattle.std.proofs.lemmas.List.Elements.{All-contains}
use Rattle.bc_entries.specs.Reading.{EndsWithin}
use Rattle.bc_resume.specs.Behind.{IsAt, LiesInRing}
use Rattle.bc_resume.proofs.Held.{ends_within, in_ring, last_in}
use Rattle.bc_resume.proofs.journal.place_behind.Goals as goal

pub next_place-next-requires-clause-ends : goal.next_place-next-requires-clause-ends
next_place-next-requires-clause-ends c = ends_within c.args.g.now c.args.read.now.entries c.requires.places

pub next_place-next-requires-clause-within : goal.next_place-next-requires-clause-within
next_place-next-requires-clause-within c =
    let g = c.args.g.now in
    let es = c.args.read.now.entries in
    let newest = c.args.newest.now in
    All-contains (EndsWithin g) es newest (ends_within g es c.requires.places) (last_in es c.requires.last.0 newest c.requires.last.1)

pub next_place-next-requires-clause-counts : goal.next_place-next-requires-clause-counts
next_place-next-requires-clause-counts c = last_in c.args.read.now.entries c.requires.last.0 c.args.newest.now c.requires.last.1

pub place_in-requires : goal.place_in-requires
place_in-requires c =
    let g = c.args.g.now in
    let next = c.next_place-next.result in
    subst (λ b. LiesInRing g b next) (sym c.bucket_of.ensures) (in_ring g c.args.read.now.entries c.args.newest.now next c.requires.places c.next_place-next.ensures)

pub returns : goal.returns
returns c =
    let g = c.args.g.now in
    let next = c.next_place-next.result in
    (next, c.next_place-next.ensures, subst (λ b. IsAt g b next c.place_in.result) c.bucket_of.ensures c.place_in.ensures)
