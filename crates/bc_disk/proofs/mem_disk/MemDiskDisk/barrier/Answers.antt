use Rattle.std.proofs.Common.{◌∙◌, ℕ, List, ap, sym}
use Rattle.bc_disk.specs.declared.log.Logged.{Logged}
use Rattle.bc_disk.specs.Bytes.{image_of}
use Rattle.bc_disk.specs.Log.{values_at}
use Rattle.bc_disk.proofs.Memories.{unwritten_stable}
use Rattle.bc_disk.proofs.mem_disk.MemDiskDisk.barrier.Goals as goal

pub settle-requires-clause-others : goal.settle-requires-clause-others
settle-requires-clause-others c = λ s none.
    let d = c.args.self.now in
    ap (λ (l : List ℕ). image_of l s) c.deref_mut.ensures.value
    ∙ unwritten_stable d.stable.items d.seen.items d.log.items s (d.kept s) (sym (ap (λ (l : List Logged). values_at s l) c.deref-2.ensures.value) ∙ none)
    ∙ sym (ap (λ (l : List ℕ). image_of l s) c.deref.ensures.value)
