use Rattle.std.proofs.Common.{◌∙◌, ap, true}
use Rattle.clap.specs.Simple.{App, app_of_fields}
use Rattle.command_words.proofs.grammar.bare_grammar.Goals as goal

abbrev no_name : App → App
no_name a = record a { top = record a.top { no_binary_name = true } }

abbrev no_help : App → App
no_help a = record a { top = record a.top { disable_help_flag = true } }

abbrev no_version : App → App
no_version a = record a { top = record a.top { disable_version_flag = true } }

pub returns : goal.returns
returns c = ap app_of_fields c.disable_version_flag.ensures
    ∙ ap no_version (ap app_of_fields c.disable_help_flag.ensures
    ∙ ap no_help (ap app_of_fields c.no_binary_name.ensures
    ∙ ap no_name c.new.ensures.app))
