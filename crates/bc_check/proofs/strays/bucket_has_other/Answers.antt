use Rattle.std.proofs.Common.{◌≡◌, ◌+◌, ◌*◌, subst, ◌∙◌}
use Rattle.std.specs.Bool.{MatchBool}
use Rattle.bc_disk.specs.Disk.{IsRead}
use Rattle.bc_jset.specs.Entries.{bucket_start}
use Rattle.bc_model.specs.Sector.{values_of}
use Rattle.bc_check.specs.Strays.{HasOther}
use Rattle.bc_check.proofs.Others.{bucket_told}
use Rattle.bc_check.proofs.strays.bucket_has_other.Goals as goal

pub returns-clause-found : goal.returns-clause-found
returns-clause-found g c =
    let geometry = c.args.g.now in
    let d = g.C.Disk.facts c.args.cache.now in
    let bytes = c.read_of.new.into in
    let es = c.args.journal.now.entries in
    let start : c.from.result * (c.from-2.result + c.from-3.result) ≡ bucket_start geometry c.args.i = cc in
    bucket_told geometry d c.args.i bytes es c.args.low c.in_ok-other.other (c.read_of.auto.into ∙ c.requires.whole) (subst (λ n. IsRead n (values_of bytes) d) start c.in_ok-read_of.ensures.read)
    (subst (λ n. MatchBool c.in_ok-other.other (HasOther geometry bytes es c.args.low n) (¬ (HasOther geometry bytes es c.args.low n))) start c.in_ok-other.ensures)
