use Rattle.std.proofs.Common.{◌≡◌, [], ◌∷◌, Some, false, refl, ap, sym, subst, ◌∙◌, arith}
use Rattle.bc_disk.specs.declared.geometry.Geometry.{Geometry}
use Rattle.bc_inner.specs.Inner.{Inner}
use Rattle.bc_tree.specs.Change.{CanChange, IsChangeOf}
use Rattle.bc_tree.specs.Needs.{has_room}
use Rattle.bc_tree.proofs.Acrossing.{eight_words}
use Rattle.bc_tree.proofs.Twos.{pair_words}
use Rattle.bc_tree.proofs.spine.Spine.two_below.Goals as goal

pub change_node-requires-clause-can : goal.change_node-requires-clause-can
change_node-requires-clause-can c =
    let s = c.args.self.now in
    let ups = c.name_of.result ∷ c.name_of-2.result ∷ [] in
    subst (λ (g : Geometry). CanChange g c.root.result.now c.args.place 2 ups) (sym c.geometry-g.ensures)
    (subst (λ (r : Inner). CanChange s.geometry r c.args.place 2 ups) (sym c.root.ensures.root) (c.requires.can c.name_of.result c.name_of-2.result c.name_of.ensures c.name_of-2.ensures))

pub change_node-requires-clause-few : goal.change_node-requires-clause-few
change_node-requires-clause-few c = omega (arith, pair_words c.name_of.result c.name_of-2.result c.name_of.ensures.one c.name_of-2.ensures.one)

pub change_node-requires-clause-place : goal.change_node-requires-clause-place
change_node-requires-clause-place c none =
    let s = c.args.self.now in
    let eight = eight_words c.name_of.result c.name_of-2.result c.name_of.ensures.one c.name_of-2.ensures.one in
    c.requires.place
    (ap (λ (g : Geometry). has_room g s.root 8) (sym c.geometry-g.ensures) ∙ ap (λ (r : Inner). has_room c.geometry-g.result.now r 8) (sym c.root.ensures.root)
    ∙ ap (λ n. has_room c.geometry-g.result.now c.root.result.now n) (sym eight) ∙ none)

pub returns-clause-root : goal.returns-clause-root
returns-clause-root c =
    let s = c.args.self.now in
    let ups = c.name_of.result ∷ c.name_of-2.result ∷ [] in
    record {
      low_key = c.name_of.result;
      high_key = c.name_of-2.result;
      names = (c.name_of.ensures, c.name_of-2.ensures);
      change = c.in_ok-top.top;
      change_is = subst (λ (r : Inner). IsChangeOf s.geometry r c.args.place 2 ups c.args.to.now c.args.seq c.in_ok-top.top) c.root.ensures.root
          (subst (λ (g : Geometry). IsChangeOf g c.root.result.now c.args.place 2 ups c.args.to.now c.args.seq c.in_ok-top.top) c.geometry-g.ensures c.in_ok-top.ensures);
      bottom_is = refl;
      top_is = refl;
    }
