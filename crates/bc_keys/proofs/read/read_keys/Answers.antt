use Rattle.std.proofs.Common.{◌∙◌, arith}
use Rattle.std.proofs.lemmas.Result.{err_from_is_err_and}
use Rattle.bc_keys.specs.Spelling.{words_at}
use Rattle.bc_keys.proofs.KeyLists.{one_list, never_both}
use Rattle.bc_keys.proofs.Readings.{refused_here, has_room, read_on, all_read}
use Rattle.bc_keys.proofs.read.read_keys.Goals as goal

pub returns-in_err-key-clause-only : goal.returns-in_err-key-clause-only
returns-in_err-key-clause-only c = λ keys spelled.
    absurd (never_both (words_at c.args.count c.args.bytes.now c.args.at) keys c.in_err-key.field-0.0 spelled
    (refused_here c.args.bytes.now c.args.at c.args.count c.loop-taken.taken c.loop-taken.keys.items c.loop-taken.invariant.read c.in_err-key.field-0.0 c.loop-taken-test.true c.in_err-key.ensures.refused))

pub returns-in_err-key-clause-refused : goal.returns-in_err-key-clause-refused
returns-in_err-key-clause-refused c =
    let p = err_from_is_err_and c.from_residual-in_err-key.result c.from_residual-in_err-key.ensures.1 in
    rw (p.1, p.2) (refused_here c.args.bytes.now c.args.at c.args.count c.loop-taken.taken c.loop-taken.keys.items c.loop-taken.invariant.read c.in_err-key.field-0.0 c.loop-taken-test.true c.in_err-key.ensures.refused)

pub push_reserved-requires : goal.push_reserved-requires
push_reserved-requires c =
    let inv = c.loop-taken.invariant in
    let found = c.in_ok-key.ensures.found in
    let within = has_room c.args.bytes.now c.args.at c.args.count c.loop-taken.taken c.loop-taken.keys.items inv.read c.in_ok-key.key c.in_ok-key.words found.1 inv.within found.0 in
    omega (arith, found.1)

pub loop-taken-preserved : goal.loop-taken-preserved
loop-taken-preserved c =
    let inv = c.loop-taken.invariant in
    let found = c.in_ok-key.ensures.found in
    record {
      within = has_room c.args.bytes.now c.args.at c.args.count c.loop-taken.taken c.loop-taken.keys.items inv.read c.in_ok-key.key c.in_ok-key.words found.1 inv.within found.0;
      few = omega (arith, found.1);
      room = c.push_reserved.ensures.capacity ∙ inv.room;
      read = read_on c.args.bytes.now c.args.at c.args.count c.loop-taken.taken c.loop-taken.keys.items inv.read c.in_ok-key.key c.in_ok-key.words c.push_reserved.new.self.items found.1 inv.within found.0 c.push_reserved.ensures.items;
    }

pub returns-clause-found : goal.returns-clause-found
returns-clause-found c = all_read c.args.bytes.now c.args.at c.args.count c.loop-taken.taken c.loop-taken.keys.items c.loop-taken.invariant.read c.from_vec.result c.loop-taken-test.false c.from_vec.ensures

pub returns-clause-only : goal.returns-clause-only
returns-clause-only c = λ keys spelled.
    one_list (words_at c.args.count c.args.bytes.now c.args.at) c.from_vec.result keys
    (all_read c.args.bytes.now c.args.at c.args.count c.loop-taken.taken c.loop-taken.keys.items c.loop-taken.invariant.read c.from_vec.result c.loop-taken-test.false c.from_vec.ensures) spelled
