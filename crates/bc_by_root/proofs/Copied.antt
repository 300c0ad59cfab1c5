-- A change in memory of its own is the same one to the core.
use Rattle.std.proofs.Common.{◌≡◌, ℕ, List, true, sym, ◌∙◌, subst}
use Rattle.bc_events.specs.declared.event.Change.{Change}
use Rattle.bc_install.specs.bc_change.Goes.{IsChangeBy}
use Rattle.bc_install.specs.bc_change.Under.{IsByRoot, IsUnderWay}
use Rattle.bc_install.specs.bc_machine.World.{Origin}
use Rattle.bc_events.specs.Run as core
use Rattle.bc_leaves.specs.After.{has}
use Rattle.bc_leaves.specs.Parts as parts
use Rattle.bc_leaves.specs.Parts.{Coming, Leaving}
use Rattle.bc_leaves.specs.Rows.{Row}
use Rattle.bc_meta.specs.Facts.{In}
use Rattle.bc_spine.specs.Exchange.{going}
use Rattle.bc_spine.specs.Leaves.{IsRow}
use Rattle.bc_tree.specs.Spine.{Spine}
use Rattle.bc_tree.specs.declared.plan.Plan.{Plan}
use Rattle.bc_whole.specs.State.{Opening}
use Rattle.bc_by_root.specs.Prepared.{SameChange}

module _ (a b : Change) (same : SameChange a b) where
  row_same : (p : parts.State) (xs ys : List ℕ) → ys ≡ xs → Row p.leaves a.low xs a.high
      → Row p.leaves b.low ys b.high
  row_same p xs ys is h = subst (λ n. Row p.leaves n ys b.high) (sym same.low)
      (subst (λ n. Row p.leaves a.low ys n) (sym same.high)
      (subst (λ (zs : List ℕ). Row p.leaves a.low zs a.high) (sym is) h))

  pub under_same : (w : Opening) (p : parts.State) (plan : Plan) → IsUnderWay w p plan a
      → IsUnderWay w p plan b
  under_same w p plan h = record {
    whole = record {
      names = record {
        gone = λ k r. subst (λ (ks : List ℕ). has ks k ≡ true) (sym same.gone)
            (h.whole.names.gone k r);
        come = λ k r. subst (λ (ks : List ℕ). has ks k ≡ true) (sym same.come)
            (h.whole.names.come k r);
        only = λ k on. h.whole.names.only k
            (subst (λ (ks : List ℕ). has ks k ≡ true) same.come on);
      };
      leave = λ k m. h.whole.leave k (subst (λ (ks : List ℕ). In k ks) same.gone m);
      old = row_same p a.gone.items b.gone.items same.gone h.whole.old;
      new = row_same p a.come.items b.come.items same.come h.whole.new;
      slots = λ k m. h.whole.slots k (subst (λ (ks : List ℕ). In k ks) same.come m);
    };
    old = λ x m. h.old x (subst (λ (ks : List ℕ). In x ks) same.old m);
    only_old = λ x r. subst (λ (ks : List ℕ). In x ks) (sym same.old) (h.only_old x r);
    only_new = λ x r. subst (λ (ks : List ℕ). In x ks) (sym same.new) (h.only_new x r);
    come = h.come;
    new = h.new;
    no_leaf = h.no_leaf;
    no_inner = h.no_inner;
  }

  pub by_root_same : (i : ℕ) (plan : Plan) (number slot : ℕ) (o : Origin) (st : core.State)
      → IsByRoot i plan a number slot o st → IsByRoot i plan b number slot o st
  by_root_same i plan number slot o st h = record {
    under = under_same o.opening.machine st.machine.whole.parts plan h.under;
    holds = h.holds;
    change = h.change;
    root = h.root;
  }

  pub change_same : (w : Opening) (sp : Spine) (plan : Plan) → IsChangeBy w sp plan a
      → IsChangeBy w sp plan b
  change_same w sp plan h = record {
    row = subst (λ n. IsRow n (going sp.leaves plan.leaves) b.high) (sym same.low)
        (subst (λ n. IsRow a.low (going sp.leaves plan.leaves) n) (sym same.high) h.row);
    gone = same.gone ∙ h.gone;
    come = same.come ∙ h.come;
    old = same.old ∙ h.old;
    new = same.new ∙ h.new;
    few = λ k m. h.few k (subst (λ (ks : List ℕ). In k ks) same.come m);
  }
