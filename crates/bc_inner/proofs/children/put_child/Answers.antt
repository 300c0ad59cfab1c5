use Rattle.std.proofs.Common.{◌≡◌, ◌<◌, ◌≤◌, List, length, subst, ap, ◌∙◌, arith}
use Rattle.std.specs.List.{AllWithin}
use Rattle.std.proofs.lemmas.List.{get_or_default}
use Rattle.bc_key.specs.declared.key.Key.{Key}
use Rattle.bc_inner.proofs.ChildLists.{takes_place, takes_away, comes_in, stays_out, behind_it}
use Rattle.bc_inner.proofs.children.put_child.Goals.{else-place-len-via-then-place-len+else-index-key, else-place-len-via-else-place-len}
use Rattle.bc_inner.proofs.children.put_child.Goals as goal

pub returns-then-key-gt0-clause-ok : goal.returns-then-key-gt0-clause-ok
returns-then-key-gt0-clause-ok c =
    let cs = c.args.children.now.items in
    let key = c.args.key.now in
    let i = c.count_before-place.result in
    let inside : i < length cs = omega (arith, c.if-place-len.true, c.len.ensures, c.as_slice.ensures.len, ap (λ (xs : List Key). length xs) c.as_slice.ensures.value) in
    let before = subst (λ (xs : List Key). AllWithin (λ x. x.end < key.end) xs 0 i) c.as_slice.ensures.value c.count_before-place.ensures.before in
    takes_place key c.index.result.now cs i inside before c.index.ensures c.if-index-key.true (let some = c.if-key-gt0.true in omega (arith, some))

pub returns-else-key-gt0-clause-ok : goal.returns-else-key-gt0-clause-ok
returns-else-key-gt0-clause-ok c =
    let cs = c.args.children.now.items in
    let key = c.args.key.now in
    let i = c.count_before-place.result in
    let inside : i < length cs = omega (arith, c.if-place-len.true, c.len.ensures, c.as_slice.ensures.len, ap (λ (xs : List Key). length xs) c.as_slice.ensures.value) in
    let before = subst (λ (xs : List Key). AllWithin (λ x. x.end < key.end) xs 0 i) c.as_slice.ensures.value c.count_before-place.ensures.before in
    c.remove.ensures.items ∙ takes_away key c.index.result.now cs i inside before c.index.ensures c.if-index-key.true (let none = c.if-key-gt0.false in omega (arith, none))

pub returns-in_ok-insert-clause-ok : goal.returns-in_ok-insert-clause-ok
returns-in_ok-insert-clause-ok c =
    let cs = c.args.children.now.items in
    let key = c.args.key.now in
    let i = c.count_before-place.result in
    let long : length c.as_slice.result.now ≡ length cs = ap (λ (xs : List Key). length xs) c.as_slice.ensures.value in
    let within : i ≤ length cs = omega (arith, c.count_before-place.ensures.within, long) in
    let before = subst (λ (xs : List Key). AllWithin (λ x. x.end < key.end) xs 0 i) c.as_slice.ensures.value c.count_before-place.ensures.before in
    let later = subst (λ (xs : List Key). AllWithin (λ x. key.end ≤ x.end) xs i (length xs)) c.as_slice.ensures.value c.count_before-place.ensures.behind in
    let behind = behind_it cs key.end i c.requires later (λ inside d is. elim c.else-place-len.branch [
      | else-place-len-via-then-place-len+else-index-key w ↦ w.if-index-key.false (ap (λ (k : Key). k.end) (w.index.ensures ∙ get_or_default cs i w.index.result.now d inside) ∙ is)
      | else-place-len-via-else-place-len w ↦ absurd (let past = w.if-place-len.false in omega (arith, past, inside, c.len.ensures, c.as_slice.ensures.len, long))
    ]) in
    c.in_ok-insert.ensures.items ∙ comes_in key cs i within before behind (let some = c.if-key-gt0-2.true in omega (arith, some))

pub returns-else-key-gt0-2-clause-ok : goal.returns-else-key-gt0-2-clause-ok
returns-else-key-gt0-2-clause-ok c =
    let cs = c.args.children.now.items in
    let key = c.args.key.now in
    let i = c.count_before-place.result in
    let long : length c.as_slice.result.now ≡ length cs = ap (λ (xs : List Key). length xs) c.as_slice.ensures.value in
    let within : i ≤ length cs = omega (arith, c.count_before-place.ensures.within, long) in
    let before = subst (λ (xs : List Key). AllWithin (λ x. x.end < key.end) xs 0 i) c.as_slice.ensures.value c.count_before-place.ensures.before in
    let later = subst (λ (xs : List Key). AllWithin (λ x. key.end ≤ x.end) xs i (length xs)) c.as_slice.ensures.value c.count_before-place.ensures.behind in
    let behind = behind_it cs key.end i c.requires later (λ inside d is. elim c.else-place-len.branch [
      | else-place-len-via-then-place-len+else-index-key w ↦ w.if-index-key.false (ap (λ (k : Key). k.end) (w.index.ensures ∙ get_or_default cs i w.index.result.now d inside) ∙ is)
      | else-place-len-via-else-place-len w ↦ absurd (let past = w.if-place-len.false in omega (arith, past, inside, c.len.ensures, c.as_slice.ensures.len, long))
    ]) in
    stays_out key cs i within before behind (let none = c.if-key-gt0-2.false in omega (arith, none))
