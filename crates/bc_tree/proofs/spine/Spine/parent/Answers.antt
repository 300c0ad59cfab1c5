use Rattle.std.proofs.Common.{◌==◌, ◌<◌, ◌≤◌, length, sym, ap, ◌∙◌, subst, arith}
use Rattle.std.proofs.lemmas.List.{get_or_default}
use Rattle.bc_inner.specs.Inner.{Inner}
use Rattle.bc_tree.specs.Spine.{IsParentAt, IsProper, Spine}
use Rattle.bc_tree.proofs.Spines.{covers_at, held_at, named, some_of}
use Rattle.bc_tree.proofs.spine.Spine.parent.Goals as goal

pub index-requires : goal.index-requires
index-requires c =
    let root = c.self.inside.root in
    let below = c.self.inside.below.items in
    let inner = c.self.invariant.0.inner in
    let some = some_of (length below) (ap (λ n. n == 0) (sym c.self.inside.below.ok.0) ∙ sym c.is_empty.ensures ∙ c.if-is_empty.false) in
    let names = named root below some inner.root_of in
    let at = covers_at root.from c.args.sector root.children below c.place_of.result names (omega (arith, inner.begins)) c.place_of.ensures.below c.place_of.ensures.above c.place_of.ensures.within in
    omega (arith, at.0, c.self.inside.below.ok.0)

pub returns-clause-parent : goal.returns-clause-parent
returns-clause-parent c =
    let root = c.self.inside.root in
    let below = c.self.inside.below.items in
    let inner = c.self.invariant.0.inner in
    let i = c.place_of.result in
    let node = c.index.result.now in
    let some = some_of (length below) (ap (λ n. n == 0) (sym c.self.inside.below.ok.0) ∙ sym c.is_empty.ensures ∙ c.if-is_empty.false) in
    let names = named root below some inner.root_of in
    let at = covers_at root.from c.args.sector root.children below i names (omega (arith, inner.begins)) c.place_of.ensures.below c.place_of.ensures.above c.place_of.ensures.within in
    let spans = at.1 node in
    subst (λ (v : Spine). IsParentAt v c.args.sector node) c.self.view_is
    (record {
      held = held_at root below i node at.0 (λ d. get_or_default below i d node at.0 ∙ sym c.index.ensures);
      from = subst (λ (n : Inner). n.from ≤ c.args.sector) (sym c.index.ensures) spans.0;
      end = subst (λ (n : Inner). c.args.sector < n.end) (sym c.index.ensures) spans.1;
    })

pub returns-clause-proper : goal.returns-clause-proper
returns-clause-proper c =
    let root = c.self.inside.root in
    let below = c.self.inside.below.items in
    let inner = c.self.invariant.0.inner in
    let i = c.place_of.result in
    let node = c.index.result.now in
    let some = some_of (length below) (ap (λ n. n == 0) (sym c.self.inside.below.ok.0) ∙ sym c.is_empty.ensures ∙ c.if-is_empty.false) in
    let names = named root below some inner.root_of in
    let at = covers_at root.from c.args.sector root.children below i names (omega (arith, inner.begins)) c.place_of.ensures.below c.place_of.ensures.above c.place_of.ensures.within in
    subst (λ (v : Spine). IsProper v.geometry node) c.self.view_is
    (subst (λ (n : Inner). IsProper c.self.inside.g n) (sym c.index.ensures) (inner.proper i node at.0))
