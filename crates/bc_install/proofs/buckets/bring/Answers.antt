use Rattle.std.proofs.Common.{◌≡◌, sym, ap, ◌∙◌, subst}
use Rattle.bc_bucket.specs.declared.bucket.Bucket.{Bucket}
use Rattle.bc_grouped.specs.Grouped.{made_at}
use Rattle.bc_install.proofs.Brought.{brought_free, brought_held}
use Rattle.bc_install.proofs.buckets.bring.Goals as goal

pub returns-then-get : goal.returns-then-get
returns-then-get c = subst (λ n. c.let_go.new.self ≡ made_at n c.args.bucket c.args.buckets.now)
    (c.from-used.ensures ∙ c.bucket_sectors.ensures.size)
    (brought_held c.from-used.result c.args.bucket c.args.buckets.now c.mark.new.self
    c.touch.new.self c.requires c.mark.ensures c.touch.ensures c.let_go.new.self c.let_go.ensures)

pub returns-else-get : goal.returns-else-get
returns-else-get c = subst (λ n. c.touch.new.self ≡ made_at n c.args.bucket c.args.buckets.now)
    (c.from-used.ensures ∙ c.bucket_sectors.ensures.size)
    (brought_free c.from-used.result c.args.bucket c.args.buckets.now c.mark.new.self
    c.touch.new.self c.requires c.mark.ensures c.touch.ensures
    (ap (λ (x : Bucket). x.held) (sym c.get.ensures) ∙ c.if-get.false))
