use Rattle.std.proofs.Common.{◌≡◌, ◌+◌, ◌%◌, ◌^◌, true, false, inl, inr, length, refl, arith}
use Rattle.std.proofs.lemmas.Option.{slice_get_read}
use Rattle.bc_tree.proofs.Moves.{coming_same}
use Rattle.bc_tree.proofs.split.cut_leaf.Goals as goal

pub returns-then-is_full-clause-refused : goal.returns-then-is_full-clause-refused
returns-then-is_full-clause-refused c =
    let leaf = c.args.leaf.now in
    let low = c.in_ok-low.low in
    inl (
      c.index-to-0.result,
      c.args.seq,
      low,
      coming_same c.keys.result.now.keys leaf.keys c.from.result leaf.from c.args.cut c.args.cut c.index-to-0.result c.args.seq low c.keys.ensures.keys c.from.ensures refl c.in_ok-low.ensures,
      c.if-is_full.ensures.0 refl,
    )

pub returns-then-is_full-2-clause-refused : goal.returns-then-is_full-2-clause-refused
returns-then-is_full-2-clause-refused c =
    let leaf = c.args.leaf.now in
    let high = c.in_ok-high.high in
    let next = (c.args.seq + 1) % 2 ^ 64 in
    inr (
      c.index-to-1.result,
      next,
      high,
      coming_same c.keys-2.result.now.keys leaf.keys c.args.cut c.args.cut c.end.result leaf.end c.index-to-1.result next high c.keys-2.ensures.keys refl c.end.ensures c.in_ok-high.ensures,
      c.if-is_full-2.ensures.0 refl,
    )

pub returns-clause-halves : goal.returns-clause-halves
returns-clause-halves c =
    let leaf = c.args.leaf.now in
    let to = c.args.to.now in
    let low = c.in_ok-low.low in
    let high = c.in_ok-high.high in
    let next = (c.args.seq + 1) % 2 ^ 64 in
    record {
      low_ptr = c.index-to-0.result;
      high_ptr = c.index-to-1.result;
      places = (slice_get_read to (length to) 0 c.index-to-0.result refl (omega (arith, c.requires.places)) c.index-to-0.is, slice_get_read to (length to) 1 c.index-to-1.result refl (omega (arith, c.requires.places)) c.index-to-1.is);
      low_comes = coming_same c.keys.result.now.keys leaf.keys c.from.result leaf.from c.args.cut c.args.cut c.index-to-0.result c.args.seq low c.keys.ensures.keys c.from.ensures refl c.in_ok-low.ensures;
      high_comes = coming_same c.keys-2.result.now.keys leaf.keys c.args.cut c.args.cut c.end.result leaf.end c.index-to-1.result next high c.keys-2.ensures.keys refl c.end.ensures c.in_ok-high.ensures;
      low_fits = λ full. let two : false ≡ true = c.if-is_full.ensures.1 full in absurd (cc);
      high_fits = λ full. let two : false ≡ true = c.if-is_full-2.ensures.1 full in absurd (cc);
    }
