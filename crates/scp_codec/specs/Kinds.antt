-- The numbers of the kinds of statements.
use Rattle.std.specs.Prelude.{ℕ}
use Rattle.scp_codec.specs.declared.statements.StatementKind.{StatementKind}
use Rattle.scp_codec.specs.declared.statements.StatementKind.TheVariants as kinds

-- the byte that stands for the kind
abbrev pub kind_number : StatementKind → ℕ
kind_number kinds.Nominate = 1
kind_number kinds.Prepare = 2
kind_number kinds.Commit = 3
kind_number kinds.Externalize = 4
