use Rattle.std.proofs.Common.{length, sym, ap, ◌∙◌, subst}
use Rattle.bc_tree.specs.Spine.{AreInRow, HaveCome, Rise, last_end, row_end}
use Rattle.bc_tree.proofs.Spines.{cover_ends, cover_rises, high_leaves, in_row, low_leaves, named, none_cover, none_of, some_of}
use Rattle.bc_tree.proofs.build.leaves_below.Goals as goal

pub push_children-requires-clause-rise : goal.push_children-requires-clause-rise
push_children-requires-clause-rise c =
    let root = c.args.root.now in
    subst (λ ks. Rise c.new-leaves.result.end ks) (sym c.children-children.ensures.children)
    (subst (λ a. Rise a root.children) (c.requires.1.begins ∙ sym c.new-leaves.ensures.end) (cover_rises root.from root.end root.children c.children-children.ensures.cover))

pub returns-then-is_empty : goal.returns-then-is_empty
returns-then-is_empty c =
    let root = c.args.root.now in
    let below = c.args.below.now in
    let old = c.new-leaves.result in
    let new = c.push_children.new.leaves in
    let come = c.in_ok-push_children.ensures.come in
    let none = none_of (length below) (sym c.is_empty.ensures ∙ c.if-is_empty.true) in
    record {
      names = low_leaves root below old new none c.new-leaves.ensures.leaves (subst (λ ks. HaveCome ks old new) c.children-children.ensures.children come);
      counted = come.counted;
      end = c.in_ok-push_children.ensures.end ∙ ap (λ ks. last_end old.end ks) c.children-children.ensures.children
          ∙ ap (λ a. last_end a root.children) (c.new-leaves.ensures.end ∙ sym c.requires.1.begins)
          ∙ cover_ends root.from root.end root.children c.children-children.ensures.cover;
      cover = (c.children-children.ensures.cover, none_cover below none);
    }

pub push_nodes-requires-clause-row : goal.push_nodes-requires-clause-row
push_nodes-requires-clause-row c =
    let root = c.args.root.now in
    let below = c.args.below.now in
    let some = some_of (length below) (sym c.is_empty.ensures ∙ c.if-is_empty.false) in
    subst (λ a. AreInRow a below) (c.requires.1.begins ∙ sym c.new-leaves.ensures.end)
    (in_row root.from root.children below (named root below some c.requires.1.root_of)).0

pub returns : goal.returns
returns c =
    let root = c.args.root.now in
    let below = c.args.below.now in
    let old = c.new-leaves.result in
    let new = c.push_nodes.new.leaves in
    let come = c.in_ok-push_nodes.ensures.come in
    let some = some_of (length below) (sym c.is_empty.ensures ∙ c.if-is_empty.false) in
    record {
      names = high_leaves root below old new some c.new-leaves.ensures.leaves come;
      counted = come.counted;
      end = c.in_ok-push_nodes.ensures.end ∙ ap (λ a. row_end a below) (c.new-leaves.ensures.end ∙ sym c.requires.1.begins)
          ∙ (in_row root.from root.children below (named root below some c.requires.1.root_of)).1
          ∙ cover_ends root.from root.end root.children c.children-children.ensures.cover;
      cover = (c.children-children.ensures.cover, c.in_ok-push_nodes.ensures.cover);
    }
