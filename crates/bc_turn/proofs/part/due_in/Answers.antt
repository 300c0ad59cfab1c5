use Rattle.std.proofs.Common.{◌≡◌, ℕ, ◌+◌, ◌-◌, ◌%◌, Some, refl, sym, ap, ◌∙◌, subst, arith}
use Rattle.bc_append.proofs.Held.{one_some}
use Rattle.bc_append.specs.bc_hand.declared.hand.LeafHand.{LeafHand}
use Rattle.bc_cache.specs.Slots.{IsSlotOf}
use Rattle.bc_turn.proofs.part.due_in.Goals as goal

plus_six : (n : ℕ) → n ≡ n + 6 - 6
plus_six n = omega arith

pub unreachable-requires-in_default-find : goal.unreachable-requires-in_default-find
unreachable-requires-in_default-find g c = c.in_default-find.ensures c.args.slot (record {
  cached = c.in-Some-slot.cached;
  there = c.slot.ensures ∙ ap Some c.in-Some-slot.is;
  number_is = refl;
})

pub returns : goal.returns
returns g c l is =
    let there = c.slot.ensures ∙ ap Some c.in-Some-slot.is in
    let only = c.in-Some-find.ensures in
    let at = only.only c.args.slot (record {
      cached = c.in-Some-slot.cached;
      there = there;
      number_is = refl;
    }) in
    let six = c.requires.slot.3 in
    let same = one_some c.args.hand.now.leaves c.in-Some.leaves c.requires.slot.0 c.in-Some.is
    c.requires.slot.1 in
    let part = ap (λ (y : LeafHand). y.part) same in
    let rest = c.if-cached-count.false in
    record {
      pending = record {
        own = record {
          at = record {
            leaves = c.in-Some.leaves;
            is = c.in-Some.is;
            cached = c.in-Some-slot.cached;
            there = there;
            number_is = refl;
          };
          its_part = subst (λ n. c.in-Some.leaves.part ≡ 6 + c.in-Some-slot.cached.number % n)
              (plus_six c.args.count) (omega (arith, six, part, rest));
        };
        entries = c.in-Some-entries.entries;
        pending = sym c.entries.ensures ∙ c.in-Some-entries.is;
      };
      below = c.if-low-entries.false;
      only = subst (λ i. IsSlotOf c.in-Some.leaves.cache.slots c.in-Some-slot.cached.number i)
          (sym at) only;
    }
