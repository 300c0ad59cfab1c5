use Rattle.std.proofs.Common.{◌≡◌, ◌++◌, ◌∙◌, List, [], length, drop, take, sym, ap, subst, arith}
use Rattle.std.proofs.Math.Seq.{take-append_seam}
use Rattle.bc_pending.specs.declared.numbered.Numbered.{Numbered}
use Rattle.bc_pending.specs.Entries.{keys_in}
use Rattle.bc_pending.specs.Pieces.{ArePending}
use Rattle.bc_pending.proofs.Given.{nothing_yet}
use Rattle.bc_pending.proofs.pending.pending_of.Goals as goal

pub returns : goal.returns
returns c =
    let leaves = c.args.leaves.now in
    let keys = keys_in c.args.journal.now.entries in
    let new = c.give_entries.new.lists in
    let whole : c.in_ok-lists.lists.len ≡ length new = omega (arith, c.give_entries.auto.lists, c.deref_mut.ensures.len) in
    let none : ArePending leaves [] c.deref_mut.result.now = subst (λ (ls : List (List Numbered)). ArePending leaves [] ls) (sym (c.deref_mut.ensures.value ∙ c.in_ok-lists.ensures)) (nothing_yet leaves) in
    subst (λ (ls : List (List Numbered)). ArePending leaves keys ls)
    (sym (ap (λ n. take n (new ++ drop (length new) c.in_ok-lists.lists.items)) whole ∙ take-append_seam new (drop (length new) c.in_ok-lists.lists.items)))
    (c.in_ok-give_entries.ensures [] none)
