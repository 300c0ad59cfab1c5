use Rattle.std.proofs.Common.{◌+◌, ◌*◌, List, length, sym, ap, ◌∙◌}
use Rattle.bc_disk.specs.declared.geometry.Geometry.{Geometry}
use Rattle.bc_key.specs.declared.key.Key.{Key}
use Rattle.bc_keys.specs.Spelling.{words_of_all}
use Rattle.bc_record.specs.Sectors.{in_blocks}
use Rattle.bc_parent_set.proofs.Taker.{same_taker}
use Rattle.bc_parent_set.proofs.write.place_and_length.Goals as goal

pub returns-clause-count : goal.returns-clause-count
returns-clause-count c at taker put take =
    let its = c.taker_of.ensures in
    let one = same_taker c.args.spine.now c.args.plan.now at its.0 taker c.taker_of.result.0.now put
    c.taker_of.result.1.now take its.1 in
    ap (λ n. 512 * n) (c.in_blocks.ensures
    ∙ ap (λ (g : Geometry). in_blocks g.block (32 + 8 * c.word_count.result)) c.geometry-g.ensures
    ∙ ap (λ n. in_blocks c.args.spine.now.geometry.block (32 + 8 * n))
    (c.word_count.ensures.count ∙ ap (λ (ks : List Key). length (words_of_all ks)) (sym one.1)))
