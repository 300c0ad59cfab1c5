use Rattle.std.proofs.Common.{Some, sym, ap, ◌∙◌, subst}
use Rattle.std.specs.Prelude.{◌++◌}
use Rattle.bc_place.specs.bc_hand.declared.hand.LeafHand.{LeafHand}
use Rattle.bc_journal.specs.Journal.{Journal, number_of}
use Rattle.bc_insert.specs.Insert.{CanAdd, HasAdded}
use Rattle.bc_insert.proofs.Putting.{one_some}
use Rattle.bc_insert.proofs.put.put_in.Goals as goal

pub add_to-requires : goal.add_to-requires
add_to-requires g c =
    let can = c.requires.3 in
    let same = one_some c.args.hand.now.leaves can.leaves c.in-Some-take.leaves can.is
    (sym c.take-2.ensures.value ∙ c.in-Some-take.is) in (
      c.requires.1,
      c.requires.2,
      subst (λ (l : LeafHand). CanAdd l.cache c.args.slot c.requires.1 c.requires.2
          c.args.keys.now) same can.can,
    )

pub returns : goal.returns
returns g c parts number cached can =
    let same = one_some c.args.hand.now.leaves can.leaves c.in-Some-take.leaves can.is
    (sym c.take-2.ensures.value ∙ c.in-Some-take.is) in
    let journal = c.get_mut.ensures.part ∙ one_some c.args.hand.now.journal c.in-Some.journal
    can.journal (sym c.take.ensures.value ∙ c.in-Some.is) can.is_journal in
    let number_same = c.add-entry.ensures.number ∙ ap number_of journal in
    record {
      leaves = can.leaves;
      was = can.is;
      journal = can.journal;
      was_journal = can.is_journal;
      cache = c.add_to.new.cache;
      added = subst (λ n. HasAdded can.leaves.cache c.args.slot cached c.args.keys.now n
          c.add_to.new.cache) number_same
          (subst (λ (l : LeafHand). HasAdded l.cache c.args.slot cached c.args.keys.now
          c.add-entry.result c.add_to.new.cache) (sym same)
          (c.add_to.ensures number cached
          (subst (λ (l : LeafHand). CanAdd l.cache c.args.slot number cached c.args.keys.now) same
          can.can)));
      is = ap (λ (l : LeafHand). record c.args.hand.now {
        leaves = Some (record l { cache = c.add_to.new.cache });
        journal = Some c.add-entry.new.self;
      }) (sym same)
          ∙ ap (λ (j : Journal). record c.args.hand.now {
            leaves = Some (record can.leaves { cache = c.add_to.new.cache });
            journal = Some j;
          }) (c.add-entry.ensures.added
          ∙ ap (λ (j : Journal). record j { waiting = j.waiting ++ c.args.keys.now }) journal);
    }
