use Rattle.live_host.proofs.AlikeHosts as hosts
use Rattle.live_host.proofs.alike.alike_hosts_answer_alike.Goals as goal

pub returns : goal.returns
returns c = record { line = hosts.alike_hosts_answer_alike; lines = hosts.futures_are_alike }
