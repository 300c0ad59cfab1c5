use Rattle.std.proofs.Common.{◌∙◌, sym}
use Rattle.std.proofs.lemmas.Option.{same_Some}
use Rattle.std.proofs.lemmas.Slice.Eq.{bytes_eq-Decides}
use Rattle.bc_words.proofs.Commands.{no_format}
use Rattle.bc_words.proofs.Uuids.{uuid_injective}
use Rattle.bc_words.proofs.read.format_of.Goals as goal

pub returns-then-eq : goal.returns-then-eq
returns-then-eq c = no_format _ (λ s cu bu n k m o range said.
    let word = same_Some _ _ (sym said.says_set ∙ sym c.in_ok-value_of.ensures) in
    let same = uuid_injective s c.in_ok-set.set range.is_set c.in_ok-set.ensures.0 (word ∙ c.in_ok-set.ensures.1) in
    range.not_zero (same ∙ (bytes_eq-Decides _ _).0 (sym c.if-eq.ensures)))
