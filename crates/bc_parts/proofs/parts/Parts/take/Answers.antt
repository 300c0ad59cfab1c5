use Rattle.std.proofs.Common.{rules, ◌≡◌, ◌+◌, [], length, Some, refl, sym, ap, ◌∙◌, subst, inl, arith}
use Rattle.atomic_table.specs.Table.{rest}
use Rattle.bc_parts.specs.Rule.{Has}
use Rattle.bc_parts.specs.Steps.{laying}
use Rattle.bc_parts.specs.declared.table.Cargo.TheVariants.{Part}
use Rattle.bc_parts.proofs.Cargoes.{takes_part}
use Rattle.bc_parts.proofs.Keeping.{lays}
use Rattle.bc_parts.proofs.Resting.{Rests-taking, still_stopped}
use Rattle.bc_parts.proofs.parts.Parts.take.Goals as goal

pub lift-cargo-requires-clause-full : goal.lift-cargo-requires-clause-full
lift-cargo-requires-clause-full g c =
    let same = ap (λ r. length r.start) (ap (λ v. v.run) c.seat.view_is ∙ c.requires.run) in
    let p = takes_part g.M.Machine c.args.part c.seat.inside.place.me c.claim.new.place.me (let inside = c.requires.part in omega (arith, same, inside)) c.seat.invariant.0.bare c.claim.ensures.takes in
    (Part p.0, p.1)

pub load-requires : goal.load-requires
load-requires g c = let key = c.self.inside.table.shared.key in let emptied = c.lift-cargo.ensures.emptied in
    let view = ap (λ me. me.0) emptied ∙ c.claim.ensures.takes.view in
    (search rules, search rules, lays g.M.Machine key.parts.value.items key.seats _ c.lift-cargo.new.place.id c.args.part (c.args.part + 2) c.lift-cargo.new.place.me (subst (λ v. Has v c.args.part) (sym view) (inl refl)) (ap (λ v. v.out) view) (ap (λ me. me.1) emptied))

pub invariant_of-seat : goal.invariant_of-seat
invariant_of-seat g c = let m = g.M.Machine in let me = c.seat.inside.place.me in let takes = c.claim.ensures.takes in
    let same = ap (λ r. length r.start) (ap (λ v. v.run) c.seat.view_is ∙ c.requires.run) in
    let is = c.load.ensures.2 ∙ (ap (λ z. (laying z.0, rest z.1)) c.lift-cargo.ensures.emptied ∙ ap (λ v. (laying v, [])) takes.view) in (
      Rests-taking m me c.load.new.seat.me c.args.part c.claim.new.place.me.0.seen c.claim.new.place.me.0.owed c.seat.invariant.0 (let inside = c.requires.part in omega (arith, same, inside)) is,
      c.seat.invariant.1 ∙ sym (ap (λ new. new.0.first) is),
      subst (λ es. (s : _) → c.seat.inside.heard ≡ Some s → m.stop es ≡ Some s) (sym (ap (λ new. new.0.seen) is))
          (still_stopped m g.met.M.Machine.stays (length me.0.start) me.0.first me.0.end me.0.held me.0.seen c.claim.new.place.me.0.seen c.seat.inside.heard takes.later.grows c.seat.invariant.2),
    )
