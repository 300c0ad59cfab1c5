use Rattle.std.proofs.Common.{inl, inr, ◌+◌, ◌<◌, length, get_or, set, refl, sym, subst, ap, ◌∙◌}
use Rattle.std.proofs.lemmas.Bool.{cases_eq}
use Rattle.std.proofs.lemmas.List.{get_or-set_same, get_or-set_other}
use Rattle.bc_counts.specs.Counts.{IsLiveRow}
use Rattle.bc_counts.proofs.Counting.{one_place}
use Rattle.bc_check.proofs.rows.add_row.Goals as goal

pub returns-in_default : goal.returns-in_default
returns-in_default c = λ bucket low. inr (c.in_default.ensures bucket, refl)

pub returns-then-bucket-table : goal.returns-then-bucket-table
returns-then-bucket-table c = λ bucket low.
    let table = c.args.table.now in
    let at = c.in-Some.bucket in
    let new = get_or table at 0 + c.from.result in
    elim (cases_eq bucket at) [
      | inl same ↦ inl (
        subst (λ n. IsLiveRow c.args.g.now c.args.gens.now c.args.row.now n) (sym same) c.in-Some.ensures,
        ap (λ n. get_or (set table at new) n 0) same ∙ get_or-set_same table at new 0 (subst (λ n. n < length table) same low) ∙ ap (λ n. get_or table at 0 + n) c.from.ensures ∙ ap (λ n. get_or table n 0 + c.args.row.now.size) (sym same),
      )
      | inr other ↦ inr ((λ live. other (one_place c.args.g.now c.args.row.now bucket at live.1 c.in-Some.ensures.1)), get_or-set_other table at bucket new 0 other)
    ]
