use Rattle.std.proofs.Common.{◌≡◌, ℕ, List, [], ◌∷◌, ◌++◌, ◌∙◌, ap, subst}
use Rattle.std.specs.Prelude.{OnOk}
use Rattle.bc_model.specs.Sector.{Value, values_of}
use Rattle.bc_model.proofs.Sectors.{one_sector}
use Rattle.bc_model.proofs.values.Values.push.Goals as goal

pub returns-in_ok-bytes-in-Raw-clause-ok : goal.returns-in_ok-bytes-in-Raw-clause-ok
returns-in_ok-bytes-in-Raw-clause-ok c =
    let one : values_of c.in_ok-bytes-in-Raw.bytes.items ≡ c.args.value.now ∷ [] = ap (λ (bs : List ℕ). values_of bs) c.in_ok-bytes-in-Raw.ensures.items ∙ one_sector c.args.value.now c.told-value in
    subst (λ (vs : List Value). OnOk c.push_run-in-Raw.result (c.push_run-in-Raw.new.self ≡ c.args.self.now ++ vs)) one c.push_run-in-Raw.ensures.ok
