use Rattle.std.proofs.Common.{◌≡◌, sym, subst}
use Rattle.std.specs.Prelude.{Result, Ok, Err, IfErr, IsErrAnd}
use Rattle.bc_super.specs.Cache.{IsCacheRefused, FirstLayoutFault}
use Rattle.bc_super.specs.declared.error.SuperError.{SuperError}
use Rattle.bc_super.specs.declared.fields.Fields.{Fields}
use Rattle.bc_super.proofs.Readings.{layout_refused}
use Rattle.bc_super.proofs.cache.decode.Goals as goal

-- what holds of an error holds of the one that is answered
passed_on : {T : Type 0} (r : Result T SuperError) (e : SuperError) (Q : SuperError → Type 0) → IsErrAnd r (λ x. x ≡ e) → Q e → IfErr r Q
passed_on (Ok x) e Q is holds = tt
passed_on (Err x) e Q is holds = subst Q (sym is) holds

pub returns-in_err-check_layout-clause-refused : goal.returns-in_err-check_layout-clause-refused
returns-in_err-check_layout-clause-refused c =
    let bytes = c.args.bytes.now in
    let e = c.in_err-check_layout.field-0.0 in
    let fault : FirstLayoutFault c.args.sectors c.get_fields-fields.result e ⊥ = c.in_err-check_layout.ensures.refused in
    passed_on c.from_residual-in_err-check_layout.result e (λ x. IsCacheRefused bytes c.args.sectors x) c.from_residual-in_err-check_layout.ensures.1
    (layout_refused bytes c.args.sectors e c.in_ok-check_head.ensures.ok (subst (λ (f : Fields). FirstLayoutFault c.args.sectors f e ⊥) c.get_fields-fields.ensures fault))
