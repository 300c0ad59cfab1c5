use Rattle.std.proofs.Common.{rules, ◌≡◌, ◌∙◌, ◌+◌, ◌-◌, ◌≤◌, ◌++◌, List, ℕ, length, take, drop, ap, sym, arith, length-append, length-take, length-drop}
use Rattle.std.proofs.lemmas.List.{nil_from_length}
use Rattle.bc_disk.specs.Text.{Left}
use Rattle.bc_disk.proofs.Texts.{moved}
use Rattle.bc_disk.proofs.mem_source.MemSourceSource.next.Goals as goal

pub returns-clause-next : goal.returns-clause-next
returns-clause-next c =
    let n = c.min-many.result in
    let left = c.args.self.now.left in
    let into = c.args.into.now in
    let given = c.self.inside.given in
    let bytes = c.self.inside.bytes.items in
    let is : left ≡ drop given bytes = sym (ap (λ (s : Left). s.left) c.self.view_is) in
    let long : length left ≡ length bytes - given = ap (length {A = ℕ}) is ∙ length-drop given bytes in
    let low : n ≤ length left = omega arith in
    let piece : c.copy_from_slice.new.self ≡ take n left =
    c.copy_from_slice.ensures.after ∙ ap (λ k. take k (drop given c.deref.result.now)) (let e : given + n - given ≡ n = omega arith in e)
    ∙ ap (λ (l : List ℕ). take n (drop given l)) c.deref.ensures.value ∙ ap (take n) (sym is) in
    let whole : length (c.copy_from_slice.new.self ++ drop n into) ≡ length into = length-append c.copy_from_slice.new.self (drop n into) ∙ omega (arith, length-drop n into, length-take n into) in
    let calls : c.succeed.new.self.faults ≡ c.args.self.now.calls.faults = search rules in (
      omega arith,
      moved n given bytes left (drop n into) is low ∙ ap (λ (l : List ℕ). take n (l ++ drop n into) ++ drop (given + n) bytes) (sym piece),
      (λ some none. nil_from_length left (omega arith)),
      calls,
    )
