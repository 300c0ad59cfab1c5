use Rattle.std.proofs.Common.{length, sym, ap, ◌∙◌, subst}
use Rattle.std.specs.Prelude.{◌==◌}
use Rattle.bc_by_root.specs.Prepared.{NamesNode}
use Rattle.bc_install.specs.Numbered.{bucket_by}
use Rattle.bc_by_root.proofs.prepare.prepare.Goals as goal

pub root_of-root-requires : goal.root_of-root-requires
root_of-root-requires c = (
  c.args.spine.now,
  c.requires.root.0,
  c.requires.root.1,
  c.is_empty.ensures ∙ ap (λ l. length l == 0) c.below.ensures,
)

pub returns : goal.returns
returns c = λ root brings.
    let same = c.root_of-root.ensures c.args.spine.now root brings
    (c.is_empty.ensures ∙ ap (λ l. length l == 0) c.below.ensures) in record {
      heads = subst (λ r. NamesNode c.args.heads.now r c.heads_with.result) (sym same)
          c.heads_with.ensures;
      slot = c.bucket_by.ensures ∙ ap (bucket_by c.args.g.now) c.ptr.ensures
          ∙ ap (λ r. bucket_by c.args.g.now r.ptr) (sym same);
      change = c.in_ok-change.ensures;
      later = c.in_ok-later.ensures;
    }
