use Rattle.std.proofs.Common.{length, ap, ◌∙◌, refl}
use Rattle.std.proofs.lemmas.Option.{slice_get_read}
use Rattle.bc_inner.specs.Inner.{Inner}
use Rattle.bc_tree.proofs.Halving.{raised_cover, raised_is}
use Rattle.bc_tree.proofs.spine.Spine.raised.Goals as goal

pub fresh-root-requires : goal.fresh-root-requires
fresh-root-requires c =
    let s = c.args.self.now in
    let two = c.args.two in
    let root = c.root-old.ensures.root in
    raised_cover s.root two.low two.high c.name_of.result c.name_of-2.result c.from.result c.end.result c.in_ok-keys.keys.items (c.from.ensures ∙ ap (λ (n : Inner). n.from) root) (c.end.ensures ∙ ap (λ (n : Inner). n.end) root) c.in_ok-keys.ensures.items c.requires.beside c.name_of.ensures
    c.name_of-2.ensures

pub returns-clause-root : goal.returns-clause-root
returns-clause-root c =
    let s = c.args.self.now in
    let two = c.args.two in
    let to = c.args.to.now in
    let root = c.root-old.ensures.root in
    raised_is s.root two.low two.high c.name_of.result c.name_of-2.result c.from.result c.end.result c.in_ok-keys.keys.items c.index-to-0.result to c.args.seq c.fresh-root.result (c.from.ensures ∙ ap (λ (n : Inner). n.from) root) (c.end.ensures ∙ ap (λ (n : Inner). n.end) root)
    c.in_ok-keys.ensures.items c.name_of.ensures c.name_of-2.ensures (slice_get_read to (length to) 0 c.index-to-0.result refl c.requires.place c.index-to-0.is) c.fresh-root.ensures
