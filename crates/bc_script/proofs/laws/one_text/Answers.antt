use Rattle.bc_script.proofs.Texts.{text_is_one}
use Rattle.bc_script.proofs.laws.one_text.Goals as goal

pub returns : goal.returns
returns c = text_is_one
