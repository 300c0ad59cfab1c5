use Rattle.std.proofs.Common.{rules, ◌≡◌, ◌≤◌, ◌∙◌, ℕ, List, [], length, get_or, ap, subst, arith}
use Rattle.bc_disk.specs.Bytes.{image_of}
use Rattle.bc_disk.specs.Log.{values_at, choices}
use Rattle.bc_disk.proofs.Windows.{written_back}
use Rattle.bc_disk.proofs.Steps.{picked_by}
use Rattle.bc_disk.proofs.crash.crashed.Goals as goal

pub returns-clause-sectors : goal.returns-clause-sectors
returns-clause-sectors c = λ s.
    let stable = c.args.stable.now in
    let log = c.args.log.now in
    let counts = c.deref_mut.result.now in
    let chosen = c.choose.new.counts in
    let items : counts ≡ c.in_ok-wanted.wanted.items = c.deref_mut.ensures.value in
    let many : length counts ≡ c.in_ok-wanted.wanted.len = omega arith in
    let wanted : c.deref_mut-3.result.now ≡ chosen = c.deref_mut-3.ensures.value ∙ written_back c.in_ok-wanted.wanted.len chosen c.in_ok-wanted.wanted.items (omega arith) in
    let bytes : c.deref_mut-2.result.now ≡ stable = search rules in
    let out = written_back c.in_ok-bytes.bytes.len c.write_choices.new.bytes c.in_ok-bytes.bytes.items (omega arith) in
    let taken : (k : ℕ) → get_or chosen k 0 ≤ length (values_at k log) → image_of c.write_choices.new.bytes k ≡ get_or (choices stable log k) (get_or chosen k 0) [] =
    subst (λ (w : List ℕ). (k : ℕ) → get_or w k 0 ≤ length (values_at k log) → image_of c.write_choices.new.bytes k ≡ get_or (choices stable log k) (get_or w k 0) []) wanted
    (subst (λ (b : List ℕ). (k : ℕ) → get_or c.deref_mut-3.result.now k 0 ≤ length (values_at k log) → image_of c.write_choices.new.bytes k ≡ get_or (choices b log k) (get_or c.deref_mut-3.result.now k 0) []) bytes c.write_choices.ensures) in
    ap (λ (l : List ℕ). image_of l s) out
    ∙ picked_by c.args.pick stable counts chosen log (image_of c.write_choices.new.bytes) c.requires (ap length items ∙ c.in_ok-wanted.ensures.length)
    (λ k low. ap (λ (l : List ℕ). get_or l k 0) items ∙ c.in_ok-wanted.ensures.counts k low) (omega arith) c.choose.ensures taken s
