use Rattle.std.proofs.Common.{◌∷◌, inl, ap, ◌∙◌, replicate, arith}
use Rattle.bc_keys.proofs.WordsAt.{words_at-kept}
use Rattle.bc_jset.proofs.fields.put_places.Goals as goal

pub returns-clause-places : goal.returns-clause-places
returns-clause-places c =
    let first = c.put_key.new.into in
    let second = c.put_key-2.new.into in
    let third = c.put_words.new.into in
    record {
      uuid_bucket =
          words_at-kept 8 72 second third 40 168 c.put_words.ensures.others (inl (omega arith))
          ∙ words_at-kept 8 64 first second 40 104 c.put_key-2.ensures.others (inl (omega arith)) ∙ c.put_key.ensures.written;
      root = words_at-kept 8 72 second third 104 168 c.put_words.ensures.others (inl (omega arith)) ∙ c.put_key-2.ensures.written;
      others = c.put_words.ensures.written ∙ ap (λ w. w ∷ c.args.e.now.prio ∷ replicate 7 0) c.from.ensures;
    }
