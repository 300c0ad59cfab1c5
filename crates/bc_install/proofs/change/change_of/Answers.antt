use Rattle.std.proofs.Common.{ℕ, List, ◌++◌, sym, ap, ◌∙◌, subst}
use Rattle.bc_change.specs.Goes.{new_nodes, numbers, old_nodes}
use Rattle.bc_install.specs.Numbered.{node_buckets}
use Rattle.bc_meta.specs.Facts.{In}
use Rattle.bc_install.proofs.Listed.{all_few, goes_between}
use Rattle.bc_install.proofs.change.change_of.Goals as goal
use Rattle.bc_spine.specs.Exchange.{coming, going}
use Rattle.bc_spine.specs.Leaves.{IsRow}

pub returns : goal.returns
returns c =
    let sp = c.args.spine.now in
    let plan = c.args.plan.now in record {
      row = subst (λ n. IsRow plan.leaves.first.from (going sp.leaves plan.leaves) n)
          (sym c.end_of.ensures) (goes_between sp plan c.len.ensures.all c.requires.fits);
      gone = c.in_ok-push_going.ensures
          ∙ ap (λ (ks : List ℕ). ks ++ numbers (going sp.leaves plan.leaves))
          c.new-gone.ensures.items;
      come = c.in_ok-push_coming.ensures.numbers
          ∙ ap (λ (ks : List ℕ). ks ++ numbers (coming plan.leaves)) c.new-come.ensures.items;
      old = c.in_ok-push_old.ensures
          ∙ ap (λ (ks : List ℕ). ks ++ node_buckets c.args.g.now (old_nodes sp plan))
          c.new-old.ensures.items;
      new = c.in_ok-push_new.ensures
          ∙ ap (λ (ks : List ℕ). ks ++ node_buckets c.args.g.now (new_nodes plan))
          c.new-new.ensures.items;
      few = λ k m. all_few plan.leaves.first plan.leaves.second c.in_ok-push_coming.ensures.few.0
          c.in_ok-push_coming.ensures.few.1 k (subst (λ (ks : List ℕ). In k ks)
          (c.in_ok-push_coming.ensures.numbers
          ∙ ap (λ (ks : List ℕ). ks ++ numbers (coming plan.leaves)) c.new-come.ensures.items) m);
    }
