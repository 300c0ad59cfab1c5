use Rattle.std.proofs.Common.{◌∙◌, ap, inl, inr, Err}
use Rattle.bc_jset.specs.declared.error.JsetError.{JsetError}
use Rattle.bc_jset.specs.EntryBytes.{bytes_of}
use Rattle.bc_jset.proofs.EntryLaws.{one_entry, never_both, same_reason}
use Rattle.bc_jset.proofs.read.read_entry.Goals as goal

pub returns-in-Ok-clause-only : goal.returns-in-Ok-clause-only
returns-in-Ok-clause-only c = λ e is.
    let same = one_entry c.args.magic c.args.bytes.now c.in-Ok.entry e c.in-Ok.ensures.found is in
    (same, c.bytes-length.ensures ∙ ap bytes_of same)

pub returns-in-Ok-clause-exact : goal.returns-in-Ok-clause-exact
returns-in-Ok-clause-exact c = λ f why. absurd (never_both c.args.magic c.args.bytes.now c.in-Ok.entry f c.in-Ok.ensures.found why)

pub returns-in-Err-clause-only : goal.returns-in-Err-clause-only
returns-in-Err-clause-only c = λ e is.
    elim c.in-Err.ensures.refused [ inl memory ↦ memory | inr why ↦ absurd (never_both c.args.magic c.args.bytes.now e c.in-Err.error is why) ]

pub returns-in-Err-clause-exact : goal.returns-in-Err-clause-exact
returns-in-Err-clause-exact c = λ f why.
    elim (same_reason c.args.magic c.args.bytes.now c.in-Err.error f c.in-Err.ensures.refused why) [
      | inl same ↦ inl (ap (λ (x : JsetError). Err x) same)
      | inr memory ↦ inr (ap (λ (x : JsetError). Err x) memory)
    ]
