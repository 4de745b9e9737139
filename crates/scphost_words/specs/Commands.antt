-- The commands by their names.
use Rattle.std.specs.Prelude.{codes, Option, Some, None, if◌then◌else◌}
use Rattle.std.specs.Str.{bytes_eq}
use Rattle.scphost_words.specs.Words.{Text}
use Rattle.scphost_words.specs.declared.command.Command.{Command}
use Rattle.scphost_words.specs.declared.command.Command.TheVariants as command

-- the command of this name
abbrev pub command_in : Text → Option Command
command_in name =
    if bytes_eq name (codes "table") then Some command.Table
    else (if bytes_eq name (codes "run") then Some command.Run
    else (if bytes_eq name (codes "closure") then Some command.Closure
    else (if bytes_eq name (codes "compare") then Some command.Compare
    else (if bytes_eq name (codes "crowd") then Some command.Crowd
    else (if bytes_eq name (codes "serve") then Some command.Serve
    else (if bytes_eq name (codes "compact") then Some command.Compact
    else (if bytes_eq name (codes "encode") then Some command.Encode
    else (if bytes_eq name (codes "decode") then Some command.Decode else None))))))))
