use Rattle.std.proofs.Common.{◌≡◌, ◌∙◌, ◌+◌, ◌*◌, ◌-◌, ℕ, List, length, take, drop, ap, arith}
use Rattle.bc_disk.specs.MemDisk.{memory}
use Rattle.bc_disk.proofs.Memories.{memory_read}
use Rattle.bc_disk.proofs.mem_disk.MemDiskDisk.read.Goals as goal

pub returns-clause-ok : goal.returns-clause-ok
returns-clause-ok c =
    let range = c.requires.on_disk in
    let n = range.0 in
    let start = 512 * c.args.at in
    let room : start + length c.args.into.now - start ≡ 512 * n = (let long = range.2 in omega arith) in
    memory_read (memory c.args.self.now) c.args.at n c.copy_from_slice.new.self (c.copy_from_slice.ensures.len ∙ range.2)
    (c.copy_from_slice.ensures.after ∙ ap (λ k. take k (drop start c.deref.result.now)) room ∙ ap (λ (l : List ℕ). take (512 * n) (drop start l)) c.deref.ensures.value)
