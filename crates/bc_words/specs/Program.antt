-- The command line as clap is told it: one level of subcommands with long options. Another option is one line more.
use Rattle.std.specs.Prelude.{[], Some, codes, true}
use Rattle.clap.specs.declared.builder.action.ArgAction.TheVariants.{SetTrue}
use Rattle.clap.specs.Words.{App, Rule, Shape, Text, new_app, new_rule, with_rule, with_subcommand}

-- `--NAME VALUE` or `--NAME=VALUE`
abbrev pub optional : Text → Rule
optional name = record (new_rule name) { long = Some name }

abbrev pub required : Text → Rule
required name = record (optional name) { required = true }

-- `--NAME`
abbrev pub flag : Text → Rule
flag name = record (new_rule name) { long = Some name; action = Some SetTrue }

abbrev pub format_app : App
format_app = with_rule (with_rule (with_rule (with_rule (with_rule (with_rule (with_rule (new_app (codes "format"))
    (required (codes "set"))) (required (codes "cuuid"))) (required (codes "buuid")))
    (optional (codes "block"))) (optional (codes "bucket"))) (optional (codes "mode"))) (optional (codes "offset"))

abbrev pub serve_app : App
serve_app = with_rule (with_rule (with_rule (new_app (codes "serve"))
    (optional (codes "mode"))) (optional (codes "cutoff"))) (optional (codes "slots"))

abbrev pub check_app : App
check_app = with_rule (new_app (codes "check")) (flag (codes "list"))

-- it has no name of its own among the words, and neither a flag nor a command for help
abbrev pub top_shape : Shape
top_shape = record (new_app (codes "bcache")).top {
  no_binary_name = true;
  disable_help_flag = true;
  disable_help_subcommand = true;
  subcommand_required = true;
}

abbrev pub program : App
program = with_subcommand (with_subcommand (with_subcommand (with_subcommand (with_subcommand (record { top = top_shape; subs = [] })
    format_app.top) (new_app (codes "adopt")).top) (new_app (codes "show")).top) serve_app.top) check_app.top
