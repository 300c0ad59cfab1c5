use Rattle.std.proofs.Common.{Some, sym, subst, ◌∙◌, ℕ, ◌++◌, ◌∷◌, []}
use Rattle.bc_plain_pair.specs.Rooms.{IsBehind}
use Rattle.bc_plain_pair.proofs.Rings.{in_bucket, not_in_bucket}
use Rattle.bc_plain_pair.proofs.ring.with_end.Goals as goal

pub returns-then-here-bucket : goal.returns-then-here-bucket
returns-then-here-bucket c = λ es so.
    subst (λ (n : ℕ). IsBehind c.args.g.now (es ++ c.args.entry.now ∷ []) c.args.bucket (Some n)) (sym c.later_of.ensures)
    (in_bucket c.args.g.now es c.args.bucket c.args.entry.now c.args.next c.end_of.result (sym c.bucket_at-here.ensures ∙ c.if-here-bucket.true) c.end_of.ensures so)

pub returns : goal.returns
returns c = λ es so. not_in_bucket c.args.g.now es c.args.bucket c.args.entry.now c.args.next (λ same. c.if-here-bucket.false (c.bucket_at-here.ensures ∙ same)) so
