use Rattle.std.proofs.Common.{◌++◌, ap, ◌∙◌}
use Rattle.std.specs.Prelude.{codes}
use Rattle.std.specs.Fmt.{decimal}
use Rattle.std.specs.String.{string_bytes}
use Rattle.bc_check.proofs.Texts.{on_ok}
use Rattle.bc_check.proofs.text.push_journal.Goals as goal

pub returns : goal.returns
returns c = on_ok c.push_number.result (λ text. text ∙ ap (λ n. string_bytes c.args.text.now ++ (codes "check journal " ++ decimal n)) c.from.ensures) c.push_number.ensures
