use Rattle.std.proofs.Common.{◌≡◌, ◌+◌, ◌++◌, [], ◌∷◌, take, sym, ap, ◌∙◌, subst}
use Rattle.std.proofs.lemmas.List.{take_more, take_all}
use Rattle.bc_tree.specs.Children.{TakeAway}
use Rattle.bc_tree.proofs.Puts.{away_more}
use Rattle.bc_tree.proofs.children.take_away.Goals as goal

pub loop-child-preserved : goal.loop-child-preserved
loop-child-preserved c =
    let children = c.args.children.now in
    let i = c.loop-child.child-index in
    let child = c.child-item.result in
    let more = away_more (take i children) c.loop-child.keys.items child c.new.result c.loop-child.invariant c.new.ensures.count c.new.ensures.end in
    let gone : take i children ++ child ∷ [] ≡ take (i + 1) children = ap (λ k. take i children ++ k ∷ []) c.child-item.is ∙ sym (take_more children i child c.loop-child-test.true) in
    subst (λ ks. TakeAway (take (i + 1) children) ks) (sym c.in_ok-push.ensures.items)
    (subst (λ gs. TakeAway gs (c.loop-child.keys.items ++ c.new.result ∷ [])) gone more)

pub returns : goal.returns
returns c =
    subst (λ gs. TakeAway gs c.loop-child.keys.items) (take_all c.loop-child.child-index c.args.children.now c.loop-child-test.false) c.loop-child.invariant
