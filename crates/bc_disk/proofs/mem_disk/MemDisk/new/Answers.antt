use Rattle.std.proofs.Common.{rules, ◌≡◌, List, ℕ, ap, refl, sym, inl}
use Rattle.bc_disk.specs.Bytes.{image_of}
use Rattle.bc_disk.proofs.Memories.{same_memory}
use Rattle.bc_disk.proofs.mem_disk.MemDisk.new.Goals as goal

pub invariant_of-result-clause-kept : goal.invariant_of-result-clause-kept
invariant_of-result-clause-kept c = λ s.
    let same : c.in_ok-stable.stable.items ≡ c.args.bytes.items = search rules in
    ∣ inl (ap (λ (l : List ℕ). image_of l s) (sym same)) ∣₁

pub returns : goal.returns
returns c =
    let same : c.in_ok-stable.stable.items ≡ c.args.bytes.items = search rules in
    same_memory _ _ _ _ _ _ _ _ _ refl same c.in_ok-log.ensures.items c.new.ensures
