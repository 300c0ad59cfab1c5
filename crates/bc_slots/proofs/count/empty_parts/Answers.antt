use Rattle.std.proofs.Common.{◌∙◌, List, [], ◌∷◌, length, get_or, sym, ap, subst, arith, length-append}
use Rattle.bc_cache.specs.Slots.{NodeCache}
use Rattle.bc_slots.specs.Filling.{IsEmpty}
use Rattle.bc_slots.proofs.Made.{empty_push}
use Rattle.bc_slots.proofs.count.empty_parts.Goals as goal

pub loop-count-preserved : goal.loop-count-preserved
loop-count-preserved c =
    let geometry = c.args.g.now in
    let counts = c.args.counts.now in
    let parts = c.loop-count.parts.items in
    let i = c.loop-count.count-index in
    let cache = c.in_ok-new.field-0 in
    let so = c.loop-count.invariant in
    let items = c.in_ok-push.ensures.items in
    let long = ap length items ∙ length-append parts (cache ∷ []) in
    record {
      long = let was = so.long in omega (arith, long, was);
      empty = λ p d below. subst (λ (ps : List NodeCache). IsEmpty geometry (get_or counts p 0) (get_or ps p d)) (sym {A = List NodeCache} items)
          (empty_push geometry counts parts cache i c.loop-count-test.true so.long so.empty
          (record { geometry = c.in_ok-new.ensures.geometry; slots = c.in_ok-new.ensures.slots }) p d below);
    }
