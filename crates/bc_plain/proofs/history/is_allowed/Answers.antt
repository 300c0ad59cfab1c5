use Rattle.std.proofs.Common.{◌∙◌, ◌-◌, ℕ, List, length, reverse, take, drop, sym, subst, arith, IsTrue}
use Rattle.std.specs.Prelude.{◌↔◌}
use Rattle.bc_model.specs.History.{AllowedFrom, floor}
use Rattle.bc_model.specs.declared.history.Entry.{Entry}
use Rattle.bc_disk.specs.Bytes.{image_of}
use Rattle.bc_plain.proofs.Entries.{allowed_front, allowed_more, reverse_parts}
use Rattle.bc_plain.proofs.Told.{chained, some_tells, none_tells}
use Rattle.bc_plain.proofs.history.is_allowed.Goals as goal
use Rattle.bc_plain.proofs.history.is_allowed.Goals.{in-Some, in_default}

pub loop-entry-init : goal.loop-entry-init
loop-entry-init c =
    chained c.is_now-allowed.result c.is_now-allowed.ensures (allowed_front (image_of c.args.opening.now) c.floor-covered.result c.args.entries.now c.from-sector.result c.args.value.now c.floor-covered.ensures.within)

pub loop-entry-preserved : goal.loop-entry-preserved
loop-entry-preserved c =
    let later = take (length c.args.entries.now - c.floor-covered.result) (drop c.floor-covered.result c.args.entries.now) in
    let more = allowed_more (image_of c.args.opening.now) c.floor-covered.result c.args.entries.now later c.loop-entry.entry-index c.entry-item.result c.from-sector.result c.args.value.now c.floor-covered.ensures.within c.loop-entry-test.true c.entry-item.is in
    elim c.match-maybe_given.branch [
      | in-Some w ↦ some_tells c.args.value.now w.in-Some.given _ c.loop-entry.allowed w.eq-allowed.result c.match-maybe_given.allowed (sym c.maybe_given.ensures ∙ w.in-Some.is) w.eq-allowed.ensures w.allowed-is c.loop-entry.invariant more
      | in_default w ↦ none_tells c.args.value.now _ c.loop-entry.allowed c.match-maybe_given.allowed (sym c.maybe_given.ensures ∙ w.in_default.is) w.allowed-is c.loop-entry.invariant more
    ]

pub returns : goal.returns
returns c =
    let f = c.floor-covered.result in
    let es = c.args.entries.now in
    let P : ℕ → List Entry → ℕ → Type 0 = λ g h s. IsTrue c.loop-entry.allowed ↔ AllowedFrom g (image_of c.args.opening.now) h s c.args.value.now in
    subst (λ s. P (floor (reverse es) s) (reverse es) s) c.from-sector.ensures
    (subst (λ g. P g (reverse es) c.from-sector.result) c.floor-covered.ensures.floor
    (subst (λ (h : List Entry). P f h c.from-sector.result) (reverse_parts es f c.loop-entry.entry-index (omega arith)) c.loop-entry.invariant))
