use Rattle.scp_spec.proofs.Passes.Stirring.{ballot_rows_stir_ballots, nomination_rests_after_a_pass, nomination_rows_stir_nomination}
use Rattle.scp_spec.proofs.limits.rows_stir_their_kind.Goals as goal

pub returns-clause-later : goal.returns-clause-later
returns-clause-later c = nomination_rests_after_a_pass

pub returns-clause-ballots : goal.returns-clause-ballots
returns-clause-ballots c = ballot_rows_stir_ballots

pub returns-clause-nominations : goal.returns-clause-nominations
returns-clause-nominations c = nomination_rows_stir_nomination
