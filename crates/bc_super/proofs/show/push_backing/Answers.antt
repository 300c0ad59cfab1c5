use Rattle.std.proofs.Common.{◌≡◌, ◌++◌, refl}
use Rattle.std.specs.Prelude.{codes}
use Rattle.std.specs.Fmt.{decimal}
use Rattle.std.specs.String.{string_bytes}
use Rattle.bc_mode.specs.Mode.{mode_text}
use Rattle.bc_super.specs.Show.{pair, state_text}
use Rattle.bc_super.proofs.Texts.{added, ended_so}
use Rattle.bc_super.proofs.show.push_backing.Goals as goal

pub returns : goal.returns
returns c =
    let old = string_bytes c.args.text.now in
    let start : string_bytes c.push_str.new.self ≡ old ++ codes "backing" = c.in_ok-push_str.ensures.bytes in
    let with_version = added old (codes "backing") (codes "version") (decimal c.args.b.now.version) (decimal c.args.b.now.version) (string_bytes c.push_str.new.self) (string_bytes c.push_number.new.text) start c.in_ok-push_number.ensures (refl) in
    let with_offset = added old (codes "backing" ++ pair (codes "version") (decimal c.args.b.now.version)) (codes "offset") (decimal c.args.b.now.data_offset) (decimal c.args.b.now.data_offset) (string_bytes c.push_number.new.text) (string_bytes c.push_number-2.new.text) with_version c.in_ok-push_number-2.ensures (refl) in
    let with_size = added old (codes "backing" ++ pair (codes "version") (decimal c.args.b.now.version) ++ pair (codes "offset") (decimal c.args.b.now.data_offset)) (codes "size") (decimal c.args.size) (decimal c.args.size) (string_bytes c.push_number-2.new.text) (string_bytes c.push_number-3.new.text) with_offset c.in_ok-push_number-3.ensures (refl) in
    let with_mode = added old (codes "backing" ++ pair (codes "version") (decimal c.args.b.now.version) ++ pair (codes "offset") (decimal c.args.b.now.data_offset) ++ pair (codes "size") (decimal c.args.size)) (codes "mode") (c.mode_word.result.now) (mode_text c.args.mode) (string_bytes c.push_number-3.new.text) (string_bytes c.push_pair.new.text) with_size c.in_ok-push_pair.ensures (c.mode_word.ensures) in
    let with_state = added old (codes "backing" ++ pair (codes "version") (decimal c.args.b.now.version) ++ pair (codes "offset") (decimal c.args.b.now.data_offset) ++ pair (codes "size") (decimal c.args.size) ++ pair (codes "mode") (mode_text c.args.mode)) (codes "state") (c.state_word.result.now) (state_text c.args.state) (string_bytes c.push_pair.new.text) (string_bytes c.push_pair-2.new.text) with_mode c.in_ok-push_pair-2.ensures (c.state_word.ensures) in
    ended_so c.push_str-2.result old (codes "backing" ++ pair (codes "version") (decimal c.args.b.now.version) ++ pair (codes "offset") (decimal c.args.b.now.data_offset) ++ pair (codes "size") (decimal c.args.size) ++ pair (codes "mode") (mode_text c.args.mode) ++ pair (codes "state") (state_text c.args.state)) (codes "\n") (string_bytes c.push_pair-2.new.text) (string_bytes c.push_str-2.new.self) with_state c.push_str-2.ensures.bytes
