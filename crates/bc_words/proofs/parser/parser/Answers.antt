use Rattle.std.proofs.Common.{ap, ap₂, ◌≡◌, ◌∙◌, codes, true}
use Rattle.std.proofs.lemmas.Result.{IfOk-weaker}
use Rattle.clap.specs.Words.{App, Shape, app_of, new_app, with_subcommand}
use Rattle.bc_words.proofs.parser.parser.Goals as goal

-- the settings of the command above the others
abbrev set_up : App → App
set_up a = record { top = record a.top { no_binary_name = true; disable_help_flag = true; disable_help_subcommand = true; subcommand_required = true }; subs = a.subs }

pub returns : goal.returns
returns c =
    let top : app_of c.subcommand_required.result ≡ set_up (new_app (codes "bcache")) =
    rw (c.subcommand_required.ensures, c.disable_help_subcommand.ensures, c.disable_help_flag.ensures, c.no_binary_name.ensures) (ap set_up c.new.ensures.app) in
    let of : App → Shape = λ (a : App). a.top in
    let format = c.in_ok-subcommand.ensures.shape c.in_ok-format_parser.ensures.own ∙ ap₂ with_subcommand top (ap of c.in_ok-format_parser.ensures.app) in
    let adopt = c.in_ok-subcommand-2.ensures.shape c.new-2.ensures.local ∙ ap₂ with_subcommand format (ap of c.new-2.ensures.app) in
    let show = c.in_ok-subcommand-3.ensures.shape c.new-3.ensures.local ∙ ap₂ with_subcommand adopt (ap of c.new-3.ensures.app) in
    let serve = c.in_ok-subcommand-4.ensures.shape c.in_ok-serve_parser.ensures.own ∙ ap₂ with_subcommand show (ap of c.in_ok-serve_parser.ensures.app) in
    record {
      app = IfOk-weaker c.subcommand-5.result _ _ (λ m h. h.shape c.in_ok-check_parser.ensures.own
          ∙ ap₂ with_subcommand serve (ap of c.in_ok-check_parser.ensures.app)) c.subcommand-5.ensures;
    }
