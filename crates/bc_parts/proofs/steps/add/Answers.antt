use Rattle.std.proofs.Common.{rules, ◌≡◌, ℕ, ◌+◌, ◌%◌, ◌^◌, ◌<◌, true, [], ◌∷◌, Some, sym, ap, ◌∙◌, subst}
use Rattle.std.specs.Prelude.{length}
use mathlib.Core.Option.{none}
use Rattle.atomic_table.specs.Table.{Allows, step}
use Rattle.bc_parts.specs.declared.table.Cargo.TheVariants.{Book}
use Rattle.bc_parts.specs.Machine.{state_after}
use Rattle.bc_parts.specs.Rule.{Has, Kept}
use Rattle.bc_parts.specs.Steps.{committed}
use Rattle.bc_parts.proofs.Keeping.{commits}
use Rattle.bc_parts.proofs.steps.add.Goals as goal

pub fetch_add-requires : goal.fetch_add-requires
fetch_add-requires g c = let m = g.M.Machine in let key = c.args.table.now.key in let r = c.requires in let away = r.away in let v = c.args.place.now.me.0 in let put = c.put_event-stop.ensures in let b = put.book.2 in
    let slots = c.args.table.now.table_id.slots in let cs = (c.args.slot, Some (Book b.book)) ∷ [] in (
      search rules,
      search rules,
      subst (λ me. Allows (Kept m key.parts.value.items key.seats) slots c.put_event-stop.new.place.id me 0 (λ n. (n + 1) % 2 ^ 64) (committed m (step slots 0 1 0 none) me))
          (ap (λ w. (w, cs)) (sym put.view) ∙ ap (λ xs. (c.put_event-stop.new.place.me.0, xs)) (sym (put.book.1 ∙ ap (λ x. (c.args.slot, x) ∷ []) b.is)))
          (commits m key.parts.value.items key.seats g.met.M.Machine.frame slots c.put_event-stop.new.place.id (v, cs) b.book c.args.event away.live away.whole r.begun (subst (Has v) r.slot away.has)
          (ap (λ k. (k, Some (Book b.book)) ∷ []) r.slot)
          b.events
          (subst (λ es. length es < 2 ^ 64) (sym b.events) put.few)
          r.number
          r.promise.0
          (subst (λ ps. m.enabled (state_after m ps v.seen) c.args.event) r.begun r.enabled)
          (subst (λ ps. (k : ℕ) → m.changes (length ps) c.args.event k ≡ true → Has v k) r.begun r.holds)),
    )
