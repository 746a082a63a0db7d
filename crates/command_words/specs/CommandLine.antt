-- The command line of the program: a command, and any number of values after it. It has no flags, and
-- nothing else.
use Rattle.std.specs.Prelude.{codes, true, Some}
use Rattle.clap.specs.Walk.{Rule}
use Rattle.clap.specs.Simple.{App, new_app, new_rule, with_rule, on_top}
use Rattle.clap.specs.declared.builder.action.ArgAction.TheVariants.{Append}

-- the command, which has to be there
abbrev pub command_rule : Rule
command_rule = record (new_rule (codes "command")) { required = true }

-- the values, one for each word
abbrev pub values_rule : Rule
values_rule = record (new_rule (codes "values")) { action = Some Append }

-- no flag asks for help or for the version
abbrev pub without_flags : App → App
without_flags = on_top (λ s. record s { disable_help_flag = true; disable_version_flag = true })

abbrev pub command_line : App
command_line =
    with_rule (with_rule (without_flags (new_app (codes "qdouble"))) command_rule) values_rule
