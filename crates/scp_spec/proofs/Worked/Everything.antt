-- All that the worked stories unfold to compute.
use Rattle.std.proofs.Common.{ℕ}
use Rattle.sha2.specs.Sha256.{sha256, digest_bytes, hash_after, compress, rounds, schedule, first_words}
use Rattle.scp_spec.specs.Sets.{some_set, every_set}
use Rattle.scp_spec.specs.Quorums.{has_quorum}
use Rattle.scp_spec.specs.Rows.{row, with_row, is_taken}
use Rattle.scp_spec.specs.Closures.{in_least}
use Rattle.scp_spec.specs.Reach.{reach_of}
use Rattle.scp_spec.specs.Views.{rows_seen, led_by, quorum_passes, blocking_passes, seen}
use Rattle.scp_spec.specs.States.{high_counter, commit_counter, position_in, position, nomination_position, prepared_as_sent, sent_in, sent_vote, sent_nomination}
use Rattle.scp_spec.specs.Candidates.{named_ballots, commits, greatest, lowest, least_from, greatest_value, combine, with_up_to_sixteen}
use Rattle.scp_types.specs.Nominations.{with_value}
use Rattle.scp_spec.specs.Nominating.{echo, accept_values, confirm_values, nominate}
use Rattle.scp_spec.specs.Balloting.{with_first_ballot, start, aborted_by, accept_prepared, raise_confirmed_prepared, follow_confirmed_prepared, is_aborted, set_commit, confirm_prepared, accepted_from, first_committed, next_committed, enter_commit, widen_commit, accept_commit, confirmed_commit, externalize, confirm_commit}
use Rattle.scp_spec.specs.Passes.{counter_after_raise, raise, arm, voting, counting, pass_rules, pass}
use Rattle.scp_spec.specs.Leaders.{in_bytes, preimage, hash, neighbours, best, leader}
use Rattle.scp_spec.specs.Sameness.{same_votes}
use Rattle.scp_spec.specs.Nodes.{fresh, settle, change, outs, step}
use Rattle.scp_spec.specs.Networks.{after_event, act, instances_of_new_slot, effect, net_step}
use Rattle.scp_spec.specs.Hosts.{journal, host_run, applied_entries}

-- all that the definitions hide
unfoldable pub everything : ℕ
unfolding sha256 digest_bytes hash_after compress rounds schedule first_words some_set every_set has_quorum row with_row is_taken in_least reach_of rows_seen led_by quorum_passes blocking_passes seen high_counter commit_counter position_in position nomination_position prepared_as_sent sent_in sent_vote sent_nomination named_ballots commits greatest lowest least_from greatest_value combine with_value with_up_to_sixteen echo accept_values confirm_values nominate with_first_ballot start aborted_by accept_prepared raise_confirmed_prepared follow_confirmed_prepared is_aborted set_commit confirm_prepared accepted_from first_committed next_committed enter_commit widen_commit accept_commit confirmed_commit externalize confirm_commit counter_after_raise raise arm voting counting pass_rules pass in_bytes preimage hash neighbours best leader same_votes fresh settle change outs step after_event act instances_of_new_slot effect net_step journal host_run applied_entries
everything = 0
