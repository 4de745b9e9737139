-- The statement that a lent one stands for.
use Rattle.scp_types.specs.declared.statement.Statement.{Statement}
use Rattle.scp_types.specs.declared.statement.Statement.TheVariants.{Prepare, Commit, Externalize}
use Rattle.scp_types.specs.declared.lent_statement.Said.{Said}
use Rattle.scp_types.specs.declared.lent_statement.Said.TheVariants.{Preparing, Committing, Externalized}

-- the statement that a lent one stands for
abbrev pub statement_of_said : Said → Statement
statement_of_said (Preparing b p a h c) = Prepare b p a h c
statement_of_said (Committing b p h c) = Commit b p h c
statement_of_said (Externalized b h) = Externalize b h
