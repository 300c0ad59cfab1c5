use Rattle.std.proofs.Common.{List, refl, inr, sym, subst, ◌∙◌, arith, rules}
use Rattle.std.proofs.lemmas.List.{get_or_default}
use Rattle.bc_image.specs.Sound.{CoverUpTo}
use Rattle.bc_image.specs.Tree.{set_keys}
use Rattle.bc_key.specs.Ptr.{no_ptr}
use Rattle.bc_key.specs.declared.key.Key.{Key}
use Rattle.bc_inner.specs.Inner.{CoverRange}
use Rattle.bc_inner.proofs.Covers.{keeps_range, not_within, not_covered, cover_range}
use Rattle.bc_inner.proofs.Nodes.{number_here}
use Rattle.bc_inner.proofs.inner.inner_of.Goals as goal

pub returns-then-not-lie_within-clause-refused : goal.returns-then-not-lie_within-clause-refused
returns-then-not-lie_within-clause-refused c = inr (refl, not_within c.args.level c.args.from c.args.key.now c.args.sets.now c.requires.level c.if-not-lie_within.ensures)

pub returns-then-not-cover_up_to-clause-refused : goal.returns-then-not-cover_up_to-clause-refused
returns-then-not-cover_up_to-clause-refused c =
    let end = c.args.key.now.end in
    inr (
      refl,
      not_covered c.args.level c.args.from c.args.key.now c.args.sets.now c.requires.level
          (λ cover. c.if-not-cover_up_to.ensures (subst (λ (xs : List Key). CoverUpTo 1 xs end) (sym (c.as_slice.ensures.value ∙ c.in_ok-children.ensures)) cover)),
    )

pub returns-clause-ok : goal.returns-clause-ok
returns-clause-ok c =
    let key = c.args.key.now in
    let six = key.six_places in
    let cover = subst (λ (xs : List Key). CoverUpTo 1 xs key.end) (c.as_slice.ensures.value ∙ c.in_ok-children.ensures) c.if-not-cover_up_to.ensures in
    record {
      level_is = refl;
      begins = refl;
      ends = refl;
      ptr = get_or_default key.ptrs 0 c.index-key-0.result no_ptr (omega (arith, six));
      seq = number_here c.args.sets.now c.index-sets-0.result;
      taken = c.sectors_of.ensures;
      short = omega (arith, c.sectors_of.ensures, c.requires.short);
      children = c.in_ok-children.ensures;
      within = keeps_range c.args.level c.args.from key c.args.sets.now c.requires.level c.if-not-lie_within.ensures cover;
      loaded = refl;
    }

pub invariant_of-result : goal.invariant_of-result
invariant_of-result c =
    let sets = c.args.sets.now in
    let key = c.args.key.now in
    let cover = subst (λ (xs : List Key). CoverUpTo 1 xs key.end) (c.as_slice.ensures.value ∙ c.in_ok-children.ensures) c.if-not-cover_up_to.ensures in
    (subst (λ (xs : List Key). CoverRange c.args.from key.end xs) (sym c.in_ok-children.ensures) (cover_range c.args.from key.end (set_keys sets) c.if-not-lie_within.ensures cover), search rules)
