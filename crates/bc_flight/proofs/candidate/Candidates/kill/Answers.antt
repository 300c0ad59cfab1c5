use Rattle.std.proofs.Common.{◌≡◌, ◌++◌, List, length, take, drop, sym, ap, subst, arith, ◌∙◌}
use Rattle.std.proofs.lemmas.List.{take_at}
use Rattle.bc_flight.specs.Candidates.{AreNumbered, kill_over}
use Rattle.bc_flight.specs.declared.candidate.Candidate.{Candidate}
use Rattle.bc_flight.proofs.Waiting.{numbered_killed, as_many}
use Rattle.bc_flight.proofs.candidate.Candidates.kill.Goals as goal

killed : (c : goal.After-self-1) → c.kill_each.new.items ≡ kill_over c.args.first c.args.count c.self.inside.items.items
killed c = c.kill_each.ensures ∙ ap (λ (cs : List Candidate). kill_over c.args.first c.args.count cs) c.deref_mut.ensures.value

many : (c : goal.After-self-1) → length c.kill_each.new.items ≡ length c.self.inside.items.items
many c = ap (λ (cs : List Candidate). length cs) (killed c) ∙ as_many c.args.first c.args.count c.self.inside.items.items

whole : (c : goal.After-self-1) → take c.self.inside.items.len (c.kill_each.new.items ++ drop (length c.kill_each.new.items) c.self.inside.items.items) ≡ kill_over c.args.first c.args.count c.self.inside.items.items
whole c =
    let same = ap (λ (cs : List Candidate). length cs) c.deref_mut.ensures.value in
    take_at c.kill_each.new.items (drop (length c.kill_each.new.items) c.self.inside.items.items) c.self.inside.items.len (omega (arith, many c, c.deref_mut.ensures.len, same)) ∙ killed c

pub invariant_of-self : goal.invariant_of-self
invariant_of-self c =
    let P : List Candidate → Type 0 = λ cs. AreNumbered 0 c.self.inside.next cs in (
      subst P (sym (whole c)) (numbered_killed c.args.first c.args.count 0 c.self.inside.next c.self.inside.items.items c.self.invariant.0),
      omega (arith, ap (λ (cs : List Candidate). length cs) (whole c), as_many c.args.first c.args.count c.self.inside.items.items, c.self.invariant.1),
      c.self.invariant.2,
    )
