-- The form of the arguments that clap is given.
use Rattle.std.specs.Prelude.{Some, true, codes}
use Rattle.clap.specs.Words.{App, Rule, new_app, new_rule, with_rule}

-- the first positional argument
abbrev pub command_rule : Rule
command_rule = new_rule (codes "command")

-- the second positional argument
abbrev pub second_rule : Rule
second_rule = new_rule (codes "second")

-- the option `--archive`, with one value
abbrev pub archive_rule : Rule
archive_rule = record (new_rule (codes "archive")) { long = Some (codes "archive") }

-- the option `--name`, with one value
abbrev pub name_rule : Rule
name_rule = record (new_rule (codes "name")) { long = Some (codes "name") }

-- the option `--cell`, with one value
abbrev pub cell_rule : Rule
cell_rule = record (new_rule (codes "cell")) { long = Some (codes "cell") }

-- no name stands before the arguments, and clap adds no option of its own for help and version
abbrev pub bare_grammar : App
bare_grammar = record (new_app (codes "net_tool")) {
  top = record (new_app (codes "net_tool")).top {
    no_binary_name = true;
    disable_help_flag = true;
    disable_version_flag = true;
  };
}

-- two positional arguments and three options
abbrev pub grammar : App
grammar =
    with_rule
    (with_rule (with_rule (with_rule (with_rule bare_grammar command_rule) second_rule) archive_rule) name_rule)
    cell_rule
