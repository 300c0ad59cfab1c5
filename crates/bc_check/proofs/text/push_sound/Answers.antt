use Rattle.std.specs.Prelude.{codes}
use Rattle.std.specs.String.{string_bytes}
use Rattle.bc_check.specs.Text.{number_text}
use Rattle.bc_check.proofs.Texts.{on_ok, then_part}
use Rattle.bc_check.proofs.text.push_sound.Goals as goal

pub returns : goal.returns
returns c =
    let one = number_text (codes "check sound dirty ") c.args.dirty in
    let other = number_text (codes " clean ") c.args.clean in
    on_ok c.push_number-2.result (then_part (string_bytes c.args.text.now) one other (string_bytes c.push_number.new.text) (string_bytes c.push_number-2.new.text) c.in_ok-push_number.ensures) c.push_number-2.ensures
