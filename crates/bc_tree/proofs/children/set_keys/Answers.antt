use Rattle.std.proofs.Common.{◌≡◌, ◌+◌, ◌-◌, length, take, drop, sym, ap, ◌∙◌, subst, arith}
use Rattle.bc_image.specs.Children.{with_children}
use Rattle.bc_set.specs.declared.set.SetKind.TheVariants.{Children}
use Rattle.bc_set.specs.SetBytes.{AreSetKeys}
use Rattle.bc_tree.specs.Children.{TakeAway}
use Rattle.bc_tree.specs.Needs.{words}
use Rattle.bc_tree.proofs.Puts.{set_puts, few_keys, few_words, proper, part_order, come_order}
use Rattle.bc_tree.proofs.children.set_keys.Goals as goal

pub returns-clause-put : goal.returns-clause-put
returns-clause-put c =
    let children = c.args.children.now in
    let at = c.args.at in
    let gone = c.args.gone in
    let count : at + gone - 1 - at ≡ gone - 1 = omega (arith, c.requires.some) in
    let away = subst (λ n. TakeAway (take n (drop at children)) c.in_ok-keys.keys.items) count c.in_ok-keys.ensures in
    ap (λ ks. with_children ks children) c.in_ok-extend_from_slice.ensures.items
    ∙ set_puts children c.args.come.now c.in_ok-keys.keys.items at gone c.requires away

pub returns-clause-proper : goal.returns-clause-proper
returns-clause-proper c =
    let children = c.args.children.now in
    let at = c.args.at in
    let gone = c.args.gone in
    let come = c.args.come.now in
    let count : at + gone - 1 - at ≡ gone - 1 = omega (arith, c.requires.some) in
    let away = subst (λ n. TakeAway (take n (drop at children)) c.in_ok-keys.keys.items) count c.in_ok-keys.ensures in
    subst (AreSetKeys Children) (sym c.in_ok-extend_from_slice.ensures.items)
    (proper c.in_ok-keys.keys.items (take (gone - 1) (drop at children)) come away (part_order children (gone - 1) at c.requires.order) (come_order children come at gone c.requires.after) c.requires.behind)

pub returns-clause-few : goal.returns-clause-few
returns-clause-few c =
    let children = c.args.children.now in
    let at = c.args.at in
    let gone = c.args.gone in
    let count : at + gone - 1 - at ≡ gone - 1 = omega (arith, c.requires.some) in
    let away = subst (λ n. TakeAway (take n (drop at children)) c.in_ok-keys.keys.items) count c.in_ok-keys.ensures in
    ap length c.in_ok-extend_from_slice.ensures.items
    ∙ few_keys children c.args.come.now c.in_ok-keys.keys.items at gone c.requires.some c.requires.within away

pub returns-clause-words : goal.returns-clause-words
returns-clause-words c =
    let children = c.args.children.now in
    let at = c.args.at in
    let gone = c.args.gone in
    let count : at + gone - 1 - at ≡ gone - 1 = omega (arith, c.requires.some) in
    let away = subst (λ n. TakeAway (take n (drop at children)) c.in_ok-keys.keys.items) count c.in_ok-keys.ensures in
    ap words c.in_ok-extend_from_slice.ensures.items
    ∙ few_words children c.args.come.now c.in_ok-keys.keys.items at gone c.requires.some c.requires.within away
