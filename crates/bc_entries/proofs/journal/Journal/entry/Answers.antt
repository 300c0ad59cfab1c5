use Rattle.std.proofs.Common.{◌≡◌, ◌<◌, ℕ, List, length, get_or, refl, sym, ap, ◌∙◌, subst, arith}
use Rattle.std.specs.Prelude.{slice_get}
use Rattle.std.proofs.lemmas.List.Elements.{All-get_or}
use Rattle.std.proofs.lemmas.Option.{slice_get_read}
use Rattle.bc_entries.specs.Journal.{Journal}
use Rattle.bc_entries.proofs.Lists.{length-picked, slice_get-picked}
use Rattle.bc_entries.proofs.journal.Journal.entry.Goals as goal

pub index-place-requires : goal.index-place-requires
index-place-requires c =
    let inside = c.self.inside in
    let same = inside.order.ok.0 ∙ sym (length-picked inside.all.items inside.order.items c.self.invariant) ∙ ap (λ (j : Journal). length j.entries) c.self.view_is in
    omega (arith, same, c.requires)

pub index-requires : goal.index-requires
index-requires c =
    let inside = c.self.inside in
    let same = sym (length-picked inside.all.items inside.order.items c.self.invariant) ∙ ap (λ (j : Journal). length j.entries) c.self.view_is in
    let low = All-get_or (λ p. p < length inside.all.items) inside.order.items c.args.i c.index-place.result.now (omega (arith, same, c.requires)) c.self.invariant in
    omega (arith, low, c.index-place.ensures, inside.all.ok.0)

pub returns : goal.returns
returns c =
    let inside = c.self.inside in
    let all = inside.all.items in
    let order = inside.order.items in
    let same = sym (length-picked all order c.self.invariant) ∙ ap (λ (j : Journal). length j.entries) c.self.view_is in
    let low : c.args.i < length order = omega (arith, same, c.requires) in
    let place = c.index-place.result.now in
    let at = slice_get_read order (length order) c.args.i place refl low c.index-place.ensures in
    let inner = All-get_or (λ p. p < length all) order c.args.i place low c.self.invariant in
    let here = slice_get_read all (length all) place c.index.result.now refl (omega (arith, inner, c.index-place.ensures)) c.index.ensures in
    ap (λ (j : Journal). slice_get j.entries c.args.i) (sym c.self.view_is) ∙ slice_get-picked all order c.args.i place c.index.result.now c.self.invariant at here
