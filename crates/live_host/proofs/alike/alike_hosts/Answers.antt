use Rattle.live_host.proofs.AlikeHosts.{alike_both_ways, alike_in_turn, reached_hosts_are_alike}
use Rattle.live_host.proofs.AlikeInTurn.{moved-is-alike}
use Rattle.live_host.proofs.AlikeMachines.{alike-itself}
use Rattle.live_host.proofs.alike.alike_hosts.Goals as goal

pub returns : goal.returns
returns c = record {
  both_ways = alike_both_ways;
  in_turn = alike_in_turn;
  reached = reached_hosts_are_alike;
  standing = alike-itself;
  moved = moved-is-alike;
}
