use Rattle.std.proofs.Common.{◌≡◌, ℕ, get_or, ◌+◌, ◌-◌, ◌%◌, ◌^◌, List, length, take, drop, refl, sym, subst, ◌∙◌, arith, length-drop}
use Rattle.std.proofs.lemmas.List.{take_all}
use Rattle.std.proofs.lemmas.Option.{slice_get_read}
use Rattle.bc_inner.specs.Inner.{CoverRange}
use Rattle.bc_key.specs.declared.key.Key.{Key}
use Rattle.bc_tree.specs.Group.{IsFresh}
use Rattle.bc_tree.specs.Spine.{last_end}
use Rattle.bc_tree.proofs.Twos.{cut_ends, high_part, low_part}
use Rattle.bc_tree.proofs.group.divided.Goals as goal

-- the part behind the cut, as it is read, is all that is left
rest_is : (cut : ℕ) (all : List Key) → take (length all - cut) (drop cut all) ≡ drop cut all
rest_is cut all = take_all (length all - cut) (drop cut all) (omega (arith, length-drop cut all))

pub fresh-requires : goal.fresh-requires
fresh-requires c =
    let from = c.args.from in
    let cut = c.args.cut in
    let all = c.args.all.now in
    let key = c.index-all-cut.result in
    subst (λ (ks : List Key). CoverRange from (get_or all (cut - 1) key).end ks) (sym c.in_ok-low.ensures.items)
    (subst (λ n. CoverRange from n (take cut all)) (cut_ends from cut all key c.requires.some c.requires.more)
    (low_part from c.args.end cut all c.requires.cover c.requires.some c.requires.more))

pub fresh-requires-2 : goal.fresh-requires-2
fresh-requires-2 c =
    let from = c.args.from in
    let cut = c.args.cut in
    let all = c.args.all.now in
    let key = c.index-all-cut.result in
    subst (λ (ks : List Key). CoverRange (get_or all (cut - 1) key).end c.args.end ks) (sym (c.in_ok-high.ensures.items ∙ rest_is cut all))
    (subst (λ n. CoverRange n c.args.end (drop cut all)) (cut_ends from cut all key c.requires.some c.requires.more)
    (high_part from c.args.end cut all c.requires.cover c.requires.more))

pub returns : goal.returns
returns c =
    let from = c.args.from in
    let end = c.args.end in
    let cut = c.args.cut in
    let all = c.args.all.now in
    let to = c.args.to.now in
    let key = c.index-all-cut.result in
    let low = c.index-to-0.result in
    let high = c.index-to-1.result in
    let next = (c.args.seq + 1) % 2 ^ 64 in
    let places = c.requires.places in
    let ends = sym (cut_ends from cut all key c.requires.some c.requires.more) in
    record {
      low_ptr = low;
      high_ptr = high;
      places = (slice_get_read to (length to) 0 low refl (omega (arith, places)) c.index-to-0.is, slice_get_read to (length to) 1 high refl (omega (arith, places)) c.index-to-1.is);
      low_is = subst (λ (ks : List Key). IsFresh 1 from (last_end from (take cut all)) ks low c.args.seq c.fresh.result) c.in_ok-low.ensures.items
          (subst (λ n. IsFresh 1 from n c.in_ok-low.low.items low c.args.seq c.fresh.result) ends c.fresh.ensures);
      high_is = subst (λ (ks : List Key). IsFresh 1 (last_end from (take cut all)) end ks high next c.fresh-2.result) (c.in_ok-high.ensures.items ∙ rest_is cut all)
          (subst (λ n. IsFresh 1 n end c.in_ok-high.high.items high next c.fresh-2.result) ends c.fresh-2.ensures);
    }
