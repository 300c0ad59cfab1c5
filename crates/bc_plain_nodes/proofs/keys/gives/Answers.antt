use Rattle.std.proofs.Common.{◌∙◌, Some, sym, ap}
use Rattle.std.proofs.lemmas.Option.{same_Some}
use Rattle.bc_key.specs.declared.key.Key.{Key}
use Rattle.bc_extent.proofs.SameKeys.{key_decides}
use Rattle.bc_plain_nodes.proofs.keys.gives.Goals as goal

pub returns-in-Some : goal.returns-in-Some
returns-in-Some c =
    let decides = key_decides c.in-Some.key c.args.whole.now in (
      λ same. sym c.in-Some.ensures ∙ ap (λ (k : Key). Some k) (decides.0 (sym c.eq.ensures ∙ same)),
      λ is. c.eq.ensures ∙ decides.1 (same_Some c.in-Some.key c.args.whole.now (c.in-Some.ensures ∙ is)),
    )
