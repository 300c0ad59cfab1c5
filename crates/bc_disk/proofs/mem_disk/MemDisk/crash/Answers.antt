use Rattle.std.proofs.Common.{◌≡◌, ◌∙◌, ℕ, List, ap}
use Rattle.std.proofs.lemmas.Result.{IfOk-weaker}
use Rattle.bc_disk.specs.declared.log.Logged.{Logged}
use Rattle.bc_disk.specs.Bytes.{image_of}
use Rattle.bc_disk.specs.Log.{choices}
use Rattle.bc_disk.specs.Crash.{picked}
use Rattle.bc_disk.specs.MemDisk.{memory}
use Rattle.bc_disk.specs.Memory.{Memory, IsPossible, new_disk}
use Rattle.bc_disk.proofs.Amongs.{among_same}
use Rattle.bc_disk.proofs.Memories.{picked_among}
use Rattle.bc_disk.proofs.mem_disk.MemDisk.crash.Goals as goal

pub returns-clause-possible : goal.returns-clause-possible
returns-clause-possible c =
    let m = memory c.args.self.now in
    let bytes = c.in_ok-bytes.bytes.items in
    let taken : (s : ℕ) → image_of bytes s ≡ picked c.args.pick m.stable m.written s = λ s.
    c.in_ok-bytes.ensures.sectors s ∙ ap (λ (l : List ℕ). picked c.args.pick l c.deref-2.result.now s) c.deref.ensures.value ∙ ap (λ (l : List Logged). picked c.args.pick m.stable l s) c.deref-2.ensures.value in
    IfOk-weaker c.new.result (λ d. memory d ≡ new_disk bytes m.room) (λ d. IsPossible m (image_of (memory d).bytes))
    (λ d is s. among_same (picked c.args.pick m.stable m.written s) (image_of (memory d).bytes s) (choices m.stable m.written s)
    (ap (λ (n : Memory). image_of n.bytes s) is ∙ taken s) (picked_among c.args.pick m.stable m.written s))
    c.new.ensures
